-- What was printed is followed by more, or is finished.
pub use Rattle.hlc_text.proofs.PrintLemmas.{printed_then, printed_finished}
