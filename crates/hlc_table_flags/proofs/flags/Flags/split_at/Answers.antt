-- The bits up to a position, and those from there on; of a run two runs.
use Rattle.std.proofs.Common.{◌≡◌, ◌+◌, ◌-◌, ◌*◌, ◌^◌, ◌<◌, ◌≤◌, ◌∙◌, ap, sym, subst, arith, length, take, drop}
use Rattle.std.proofs.Common.{replicate, true, false, length-append}
use Rattle.hlc_table_flags.specs.{Bits.bits_in, Forms.flags_in, Forms.IsInWords}
use Rattle.std.proofs.lemmas.List.{length-replicate}
use Rattle.hlc_table_flags.proofs.BitLemmas.{bits_length, bits_take, bits_drop}
use Rattle.hlc_table_flags.proofs.RunLemmas.{run, run_take, run_drop}
use Rattle.hlc_table_flags.proofs.flags.Flags.split_at.Goals.{In-Bits, In-Run, After-of_bits}
use Rattle.hlc_table_flags.proofs.flags.Flags.split_at.Goals as goal

bits_are : (c : In-Bits) → bits_in c.in-Bits.words.now c.in-Bits.from (c.in-Bits.to - c.in-Bits.from) ≡ c.args.self
bits_are c = ap flags_in (sym c.in-Bits.is) ∙ c.self.view_is

within : (c : In-Bits) → (c.in-Bits.from ≤ c.in-Bits.to)
    × ((c.in-Bits.to ≤ 64 * length c.in-Bits.words.now) × (c.in-Bits.to < 2 ^ 64))
within c = subst IsInWords c.in-Bits.is c.self.invariant

few : (c : In-Bits) → c.args.count ≤ c.in-Bits.to - c.in-Bits.from
few c =
    let many = bits_length c.in-Bits.words.now c.in-Bits.from (c.in-Bits.to - c.in-Bits.from) in
    omega (arith, ap length (bits_are c), c.requires)

pub overflow_add-middle : goal.overflow_add-middle
overflow_add-middle c =
    let at = (goal.at.overflow_add-middle c).In-Bits in
    let le = few at in let order = (within at).0 in let top = (within at).1.1 in
    omega (arith, le, order, top)

pub of_bits-requires-clause-inside : goal.of_bits-requires-clause-inside
of_bits-requires-clause-inside c =
    let at = (goal.at.of_bits-requires-clause-inside c).In-Bits in
    let le = few at in let order = (within at).0 in let words = (within at).1.0 in
    omega (arith, le, order, words)

pub of_bits-requires-in-Bits-clause-order : goal.of_bits-requires-in-Bits-clause-order
of_bits-requires-in-Bits-clause-order c =
    let at = (goal.at.of_bits-requires-in-Bits-clause-order c).In-Bits in
    let le = few at in let order = (within at).0 in
    omega (arith, le, order)

-- the first flags
first_are : (c : After-of_bits) (le : c.args.count ≤ c.in-Bits.to - c.in-Bits.from)
    → c.of_bits.result ≡ bits_in c.in-Bits.words.now c.in-Bits.from c.args.count
first_are c le =
    let count : c.in-Bits.from + c.args.count - c.in-Bits.from ≡ c.args.count = omega arith in
    c.of_bits.ensures ∙ ap (bits_in c.in-Bits.words.now c.in-Bits.from) count

pub returns-in-Bits-clause-many : goal.returns-in-Bits-clause-many
returns-in-Bits-clause-many c =
    let at = (goal.at.returns-in-Bits-clause-many c).In-Bits in
    ap length (first_are ((goal.at.returns-in-Bits-clause-many c).After-of_bits) (few at))
    ∙ bits_length c.in-Bits.words.now c.in-Bits.from c.args.count

pub returns-in-Bits-clause-first : goal.returns-in-Bits-clause-first
returns-in-Bits-clause-first c =
    let at = (goal.at.returns-in-Bits-clause-first c).In-Bits in
    first_are ((goal.at.returns-in-Bits-clause-first c).After-of_bits) (few at)
    ∙ sym (bits_take c.in-Bits.words.now c.in-Bits.from (c.in-Bits.to - c.in-Bits.from) c.args.count (few at))
    ∙ ap (take c.args.count) (bits_are at)

pub returns-in-Bits-clause-others : goal.returns-in-Bits-clause-others
returns-in-Bits-clause-others c =
    let at = (goal.at.returns-in-Bits-clause-others c).In-Bits in
    let rest : c.in-Bits.to - (c.in-Bits.from + c.args.count) ≡ c.in-Bits.to - c.in-Bits.from - c.args.count =
    omega arith in
    c.of_bits-in-Bits.ensures ∙ ap (bits_in c.in-Bits.words.now (c.in-Bits.from + c.args.count)) rest
    ∙ sym (bits_drop c.in-Bits.words.now c.in-Bits.from (c.in-Bits.to - c.in-Bits.from) c.args.count (few at))
    ∙ ap (drop c.args.count) (bits_are at)

-- a run
run_is : (c : In-Run) → run c.in-Run.set c.in-Run.unset ≡ c.args.self
run_is c = ap flags_in (sym c.in-Run.is) ∙ c.self.view_is

in_run : (c : In-Run) → c.args.count ≤ c.in-Run.set + c.in-Run.unset
in_run c =
    let many = ap length (sym (run_is c))
    ∙ length-append (replicate c.in-Run.set true) (replicate c.in-Run.unset false) in
    omega (arith, length-replicate c.in-Run.set true, length-replicate c.in-Run.unset false, c.requires)

pub returns-in-Run-clause-first : goal.returns-in-Run-clause-first
returns-in-Run-clause-first c =
    let le = in_run ((goal.at.returns-in-Run-clause-first c).In-Run) in
    let least = c.min-first.ensures in
    c.run.ensures
    ∙ sym (run_take c.in-Run.set c.in-Run.unset c.args.count c.min-first.result (c.args.count - c.min-first.result)
    (omega (arith, least)) (omega (arith, least)) (omega (arith, le, least)) (λ lt. omega (arith, least, lt)))
    ∙ ap (take c.args.count) (run_is ((goal.at.returns-in-Run-clause-first c).In-Run))

pub returns-in-Run-clause-others : goal.returns-in-Run-clause-others
returns-in-Run-clause-others c =
    let le = in_run ((goal.at.returns-in-Run-clause-others c).In-Run) in
    let least = c.min-first.ensures in
    c.run-in-Run.ensures
    ∙ sym (run_drop c.in-Run.set c.in-Run.unset c.args.count c.min-first.result (c.args.count - c.min-first.result)
    (omega (arith, least)) (omega (arith, least)) (omega (arith, le, least)) (λ lt. omega (arith, least, lt)))
    ∙ ap (drop c.args.count) (run_is ((goal.at.returns-in-Run-clause-others c).In-Run))
