-- The words in which contracts speak of what is printed.
pub use Rattle.hlc_clock.specs.Stamp.{stamp_text}
pub use Rattle.hlc_text.specs.Text.{bytes_token, printed}
pub use Rattle.hlc_text.specs.Printing.{Prints, Writes}
pub use Rattle.hlc_text.specs.declared.watched.Watched.{Watched}
