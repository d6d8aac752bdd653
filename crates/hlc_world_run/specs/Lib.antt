pub mod RunOf
