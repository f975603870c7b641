-- The runs of points, by spans and by what a list says of points.
use Rattle.std.proofs.Common.{ℕ, zero, suc, ◌≡◌, ◌∙◌, ◌+◌, ◌-◌, ◌/◌, ◌<◌, ◌≤◌, ◌⊎◌, ◌++◌, ◌&&◌, inl, inr, Bool, true, Option, Some, None}
use Rattle.std.proofs.Common.{List, [], ◌∷◌, if◌then◌else◌, refl, sym, ap, arith}
use Rattle.std.specs.Prelude.{nat_le, option_to_list, slice_get}
use Rattle.std.specs.List.{list_all}
use Rattle.std.proofs.lemmas.Bool.{and_parts, lt-leb}
use Rattle.std.proofs.lemmas.Option.{same_Some}
use Rattle.program_rules.specs.Views.{targets_of as targets_seen}
use Rattle.program_rules.specs.declared.views.SeenPoint.{SeenPoint}
use Rattle.responses.proofs.Lists.{both-true}
use Rattle.responses.proofs.Priced.{at-most}
use Rattle.responses.specs.Outlines.{Gives, run_from, targets_of}
use Rattle.responses.specs.declared.outlines.Run.{Run}
use Rattle.responses.specs.declared.spans.Span.{Span}

-- ---- spans

run-append : (run : ℕ) (spans : List Span) (s : Span) (point : ℕ)
    → run_from run (spans ++ s ∷ []) point ≡ (if nat_le s.first point then s.run else run_from run spans point)
run-append run [] s point = refl
run-append run (x ∷ spans) s point = run-append (if nat_le x.first point then x.run else run) spans s point

-- of the points so far, and the run of those to come, as it is without a further span
pub record AreSpanned (places : List ℕ) (point : ℕ) (spans : List Span) (run : ℕ) : Type 0 where
  pub before : (k x : ℕ) → k < point → slice_get places k ≡ Some x → run_from 0 spans k ≡ x
  pub later : (k : ℕ) → point ≤ k → run_from 0 spans k ≡ run

nat-cases : (m n : ℕ) → m ≤ n → (m < n) ⊎ (m ≡ n)
nat-cases zero zero le = inr refl
nat-cases zero (suc n) le = inl (omega arith)
nat-cases (suc m) zero le = absurd (omega (arith, le))
nat-cases (suc m) (suc n) le = elim (nat-cases m n (omega (arith, le))) [
  | inl less ↦ inl (omega (arith, less))
  | inr same ↦ inr (ap suc same)
]

module _ (places : List ℕ) where
  pub spanned-first : (spans : List Span) → spans ≡ [] → AreSpanned places 0 spans 0
  spanned-first spans none = record {
    before = λ k x less at. absurd (omega (arith, less));
    later = λ k most. ap (λ (l : List Span). run_from 0 l k) none;
  }

  -- the point is of the run so far
  pub spanned-on : (point : ℕ) (spans : List Span) (run : ℕ) → slice_get places point ≡ Some run → AreSpanned places point spans run
      → AreSpanned places (point + 1) spans run
  spanned-on point spans run here are = record {
    before = λ k x less at. elim (nat-cases k point (omega (arith, less))) [
      | inl before ↦ are.before k x before at
      | inr same ↦ are.later k (omega (arith, same)) ∙ same_Some run x (sym here ∙ ap (slice_get places) (sym same) ∙ at)
    ];
    later = λ k most. are.later k (omega (arith, most));
  }

  -- or of another one, of which a span begins
  pub spanned-new : (point : ℕ) (spans new : List Span) (run other : ℕ) → slice_get places point ≡ Some other
      → new ≡ spans ++ (record { first = point; run = other }) ∷ [] → AreSpanned places point spans run → AreSpanned places (point + 1) new other
  spanned-new point spans new run other here grown are = record {
    before = λ k x less at. by-spans k ∙ elim (nat-cases k point (omega (arith, less))) [
      | inl before ↦ ap (λ b. if b then other else run_from 0 spans k) (lt-leb point k before) ∙ are.before k x before at
      | inr same ↦ ap (λ b. if b then other else run_from 0 spans k) (at-most point k (omega (arith, same)))
          ∙ same_Some other x (sym here ∙ ap (slice_get places) (sym same) ∙ at)
    ];
    later = λ k most. by-spans k ∙ ap (λ b. if b then other else run_from 0 spans k) (at-most point k (omega (arith, most)));
  }
    where
      by-spans : (k : ℕ) → run_from 0 new k ≡ (if nat_le point k then other else run_from 0 spans k)
      by-spans k = ap (λ (l : List Span). run_from 0 l k) grown ∙ run-append 0 spans (record { first = point; run = other }) k

  pub spanned-all : (point : ℕ) (spans : List Span) (run : ℕ) → ((k x : ℕ) → slice_get places k ≡ Some x → k < point)
      → AreSpanned places point spans run → Gives places (run_from 0 spans)
  spanned-all point spans run all are = λ k x at. are.before k x (all k x at) at

-- ---- ways

-- one of the ways from a run leads there
pub led-taken : (r : Run) (place : ℕ) → r.taken ≡ Some place → (test : ℕ → Bool) → list_all test (targets_of r) ≡ true → test place ≡ true
led-taken r place is test all =
    by-way r.next (ap (λ (o : Option ℕ). list_all test (option_to_list o ++ option_to_list r.next)) (sym is) ∙ all)
  where
    by-way : (o : Option ℕ) → list_all test (option_to_list (Some place) ++ option_to_list o) ≡ true → test place ≡ true
    by-way None both = (and_parts (test place) true both).0
    by-way (Some n) both = (and_parts (test place) (test n && true) both).0

pub led-next : (r : Run) (place : ℕ) → r.next ≡ Some place → (test : ℕ → Bool) → list_all test (targets_of r) ≡ true → test place ≡ true
led-next r place is test all =
    by-way r.taken (ap (λ (o : Option ℕ). list_all test (option_to_list r.taken ++ option_to_list o)) (sym is) ∙ all)
  where
    by-way : (o : Option ℕ) → list_all test (option_to_list o ++ option_to_list (Some place)) ≡ true → test place ≡ true
    by-way None both = (and_parts (test place) true both).0
    by-way (Some n) both = (and_parts (test place) true (and_parts (test n) (test place && true) both).1).0

-- a way to an address of which the list says the place
pub way-at : (places : List ℕ) (place : ℕ → ℕ) → Gives places place → (base address x : ℕ) (way : Option ℕ) → way ≡ Some address
    → slice_get places ((address - base) / 4) ≡ Some x → (test : ℕ → Bool) → test x ≡ true
    → list_all (λ a. test (place ((a - base) / 4))) (option_to_list way) ≡ true
way-at places place gives base address x way is at test so =
    ap (λ (o : Option ℕ). list_all (λ a. test (place ((a - base) / 4))) (option_to_list o)) is
    ∙ ap (λ b. b && true) (ap test (gives ((address - base) / 4) x at) ∙ so)

-- both ways
pub both-ways : (test : ℕ → Bool) (v : SeenPoint) → list_all test (option_to_list v.taken) ≡ true → list_all test (option_to_list v.next) ≡ true
    → list_all test (targets_seen v) ≡ true
both-ways test v taken next = by-ways v.taken taken
  where
    by-ways : (o : Option ℕ) → list_all test (option_to_list o) ≡ true → list_all test (option_to_list o ++ option_to_list v.next) ≡ true
    by-ways None none = next
    by-ways (Some n) one = both-true (test n) (list_all test (option_to_list v.next)) (and_parts (test n) true one).0 next
