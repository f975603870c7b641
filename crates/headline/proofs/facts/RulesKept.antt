-- What follows from rules that are kept: each part of them is, and a rule that refuses where a test holds says that it fails.
use Rattle.std.proofs.Common.{◌≤◌, inl, inr, ℕ, zero, suc, ◌≡◌, ◌+◌, ◌<◌, Bool, true, false, List, [], ◌∷◌, length, None, refl, subst, arith, ◌-◌, ◌*◌, ◌/◌}
use Rattle.std.proofs.Common.{◌%◌, not, ◌&&◌}
use Rattle.std.specs.Prelude.{Contains, flat_map, slice_index_or}
use Rattle.std.specs.List.{range_with_len}
use Rattle.std.proofs.lemmas.Bool.{cases_eq}
use Rattle.model.specs.declared.refusals.Refusal.TheVariants.{BadThread}
use Rattle.model.specs.Acceptance.Accepted.{AreKept, IsWellFormed}
use Rattle.model.specs.Acceptance.Rules.{Rule}
use Rattle.model.specs.Acceptance.ThreadRules.{is_bad, rules_of_thread, thread_rules}
use Rattle.model.specs.Images.Described.{Numbered, numbered_threads}
use Rattle.model.specs.Images.Image.{Image}
use Rattle.model.specs.Acceptance.NotedStates.{PointState}
use Rattle.model.specs.Acceptance.PointRules.{entry_rules, point_rules, program_rules, rules_of_noted, rules_of_program, state_rules}
use Rattle.model.specs.Acceptance.PointStates.{Noted, Known, noted}
use Rattle.soundness.proofs.Laws.{kept-before, kept-behind, not-refused}

-- ---- lists of rules

abbrev pub IsKeptRule : Rule → Type 0
IsKeptRule rule = rule ≡ None

-- the rules of one entry among those of all
pub kept-among : {A : Type 0} (f : A → List Rule) (xs : List A) (x : A) (k : ℕ) → AreKept (flat_map f xs) → k < length xs → slice_index_or xs k x ≡ x
    → AreKept (f x)
kept-among f [] x k h inside is = absurd (omega (arith, inside))
kept-among f (y ∷ ys) x zero h inside is = subst (λ z. AreKept (f z)) is (kept-before (f y) (flat_map f ys) h)
kept-among f (y ∷ ys) x (suc k) h inside is = kept-among f ys x k (kept-behind (f y) (flat_map f ys) h) (omega (arith, inside)) is

-- the rules of one number among those of some in a row
pub kept-of : (f : ℕ → List Rule) (from count k : ℕ) → AreKept (flat_map f (range_with_len from count)) → from ≤ k → k < from + count → AreKept (f k)
kept-of f from zero k h low high = absurd (omega (arith, low, high))
kept-of f from (suc count) k h low high = elim (cases_eq from k) [
  | inl here ↦ subst (λ (n : ℕ). AreKept (f n)) here (kept-before (f from) (flat_map f (range_with_len (from + 1) count)) h)
  | inr other ↦
      kept-of f (from + 1) count k (kept-behind (f from) (flat_map f (range_with_len (from + 1) count)) h) (omega (arith, low, other)) (omega (arith, high))
]

-- ---- the rules of a program, and of one of its points

pub program-kept : (image : Image) (t : Numbered) → AreKept (program_rules image) → Contains (numbered_threads image) t → AreKept (rules_of_program image t)
unfolding program_rules
program-kept image t h listed = kept-among (rules_of_program image) (numbered_threads image) t listed.0 h listed.1 listed.2

pub state-kept : (image : Image) (t : Numbered) (point : ℕ) (state : PointState) → AreKept (program_rules image) → Contains (numbered_threads image) t
    → point < t.thread.header.words
    → noted image t point ≡ Known state → AreKept (state_rules image t point state)
unfolding rules_of_program point_rules
state-kept image t point state h listed inside known =
    let each = kept-behind (entry_rules image t (noted image t t.thread.header.entry))
    (flat_map (point_rules image t) (range_with_len 0 t.thread.header.words)) (program-kept image t h listed) in
    let here = kept-of (point_rules image t) 0 t.thread.header.words point each (omega arith) (omega (arith, inside)) in
    subst (λ (n : Noted). AreKept (rules_of_noted image t point n)) known here

-- ---- the rules of a thread

pub not-bad : (image : Image) (t : Numbered) → IsWellFormed image → Contains (numbered_threads image) t → is_bad image t ≡ false
unfolding thread_rules
not-bad image t formed listed =
    not-refused (is_bad image t) (BadThread t.number)
    (kept-among (rules_of_thread image) (numbered_threads image) t listed.0 formed.threads listed.1 listed.2 0 None (omega arith))

-- ---- tests and addresses

-- a test that is not refused, and so holds
pub holds-where : (b c : Bool) → (b && not c) ≡ false → b ≡ true → c ≡ true
holds-where true true h is = refl
holds-where true false h is = absurd (let clash : true ≡ false = h in cc)
holds-where false c h is = absurd (let clash : false ≡ true = is in cc)

-- the point of an address
pub aligned-point : (base words address : ℕ) → base % 4 ≡ 0 → address % 4 ≡ 0 → base ≤ address → address < base + 4 * words
    → ((address - base) / 4 < words) × (address ≡ base + 4 * ((address - base) / 4))
aligned-point base words address start aligned low high = (omega (arith, start, aligned, low, high), omega (arith, start, aligned, low, high))
