-- The register that starts outside, or all of them.
use Rattle.std.proofs.Common.{ℕ, ◌∙◌, ◌+◌, Bool, sym, arith}
use Rattle.std.specs.Prelude.{slice_index, slice_index_or}
use Rattle.model.specs.Acceptance.PointRules.{lies_in}
use Rattle.model.specs.Acceptance.Ranges.{full}
use Rattle.program_rules.proofs.point_rules.WithinRanges.{all-below, one-below}
use Rattle.program_rules.proofs.point_rules.entries.start_within.Goals as goal

pub returns-then-not-starts_in : goal.returns-then-not-starts_in
returns-then-not-starts_in c =
    let test : ℕ → Bool = λ k. lies_in (slice_index c.args.words.now (k + 1)) (slice_index_or c.args.bounds.now k full) in
    sym (one-below test 31 c.registers.index (omega (arith, c.registers-test.true)) (sym c.starts_in.ensures ∙ c.if-not-starts_in.true))

pub returns : goal.returns
returns c =
    let test : ℕ → Bool = λ k. lies_in (slice_index c.args.words.now (k + 1)) (slice_index_or c.args.bounds.now k full) in
    sym (all-below test 31 (λ i less. c.registers.invariant i (omega (arith, less, c.registers-test.false))))
