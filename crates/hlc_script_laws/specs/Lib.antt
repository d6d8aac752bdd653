pub mod OneOutput
