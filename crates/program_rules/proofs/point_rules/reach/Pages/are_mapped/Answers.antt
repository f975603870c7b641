-- All of them, or all before one that is missing.
use Rattle.std.proofs.Common.{ℕ, ◌≡◌, ◌∙◌, ◌+◌, ◌-◌, ◌<◌, ◌≤◌, inl, inr, Bool, true, false, nat_lt, sym, subst, arith}
use Rattle.std.proofs.lemmas.Bool.{cases_lt}
use Rattle.std.proofs.lemmas.Bool.Decides.{nat_tests}
use Rattle.std.specs.List.{list_all, range_with_len}
use Rattle.model.specs.Acceptance.PointRules.{is_mapped_for}
use Rattle.typestate.specs.Differences.{slots_of}
use Rattle.program_rules.proofs.point_rules.WithinRanges.{all-true, one-false}
use Rattle.program_rules.proofs.point_rules.reach.Pages.are_mapped.Goals as goal

-- up to a page all pass, and it does not, if it is not after the last one
all-of : (test : ℕ → Bool) (start last page : ℕ) → start ≤ page → ((p : ℕ) → start ≤ p → p < page → test p ≡ true) → (page ≤ last → test page ≡ false)
    → nat_lt last page ≡ list_all test (range_with_len start (last + 1 - start))
all-of test start last page from before missing = elim (cases_lt last page) [
  | inl far ↦
      let is : nat_lt last page ≡ true = grind (arith, nat_tests, far) in
      is ∙ sym (all-true test start (last + 1 - start) (λ i less. before (start + i) (omega arith) (omega (arith, far, less))))
  | inr near ↦
      let same : page ≡ start + (page - start) = omega (arith, from) in
      let is : nat_lt last page ≡ false = grind (arith, nat_tests, near) in
      is ∙ sym (one-false test start (last + 1 - start) (page - start) (omega (arith, near, from)) (subst (λ (n : ℕ). test n ≡ false) same (missing near)))
]

pub returns-clause-is : goal.returns-clause-is
returns-clause-is c =
    let test : ℕ → Bool = is_mapped_for c.args.self.now.image.now c.args.self.now.thread.now (slots_of c.args.self.now.slots) c.args.access in
    all-of test c.of-start.result.number c.of-last.result.number c.mapped_before-end.result c.mapped_before-end.ensures.from c.mapped_before-end.ensures.mapped
    c.mapped_before-end.ensures.missing
    ∙ (λ i. list_all test (range_with_len (c.of-start.ensures i) (c.of-last.ensures i + 1 - c.of-start.ensures i)))

pub returns-clause-found : goal.returns-clause-found
returns-clause-found c =
    let test : ℕ → Bool = is_mapped_for c.args.self.now.image.now c.args.self.now.thread.now (slots_of c.args.self.now.slots) c.args.access in
    c.note.ensures test c.requires c.mapped_before-end.ensures.mapped
