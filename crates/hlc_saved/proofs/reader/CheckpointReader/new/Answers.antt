-- Nothing was fed, and all is left to read.
use Rattle.std.proofs.Common.{[], ◌++◌, drop, ap, sym, arith}
use Rattle.hlc_body.specs.Reading.{checkpoint_at}
use Rattle.hlc_frame.specs.Reading.{body_so_far}
use Rattle.hlc_saved.proofs.Blocks.{nothing_fed, leaves_alike}
use Rattle.hlc_saved.proofs.reader.CheckpointReader.new.Goals as goal

pub returns : goal.returns
returns c = record {
  frame = c.new.ensures;
  bytes = λ i. omega arith;
  body = leaves_alike c.new-2.result.stage (drop c.new-2.result.at c.new-2.result.pending.items) checkpoint_at
      (λ more. checkpoint_at (body_so_far [] ++ more))
      (λ more. sym (ap (λ body. checkpoint_at (body ++ more)) nothing_fed)) c.new-2.ensures;
}
