-- Labels within a budget that each spends by one and each wait fills again: none of their stretches is longer.
use Rattle.std.proofs.Common.{◌≡◌, ℕ, ◌-◌, ◌≤◌, Bool, true, false, not, List, [], ◌∷◌, ◌++◌, if◌then◌else◌, length, ap, subst, ◌∙◌, append_assoc, arith}
use Rattle.std.specs.List.{list_all}
use Rattle.std.proofs.lemmas.Bool.{and_parts, not-true}
use Rattle.model.specs.declared.labels.Label.{Label}
use Rattle.model.specs.Kernel.Waits.{IsStretch, KeepsBudget, NoneWaits, is_wait, labels_of}

-- what is left after a label
abbrev pub left_behind : ℕ → ℕ → Label → ℕ
left_behind budget left label = if is_wait label then budget else left - 1

abbrev pub AreWithin : ℕ → ℕ → List Label → Type 0
AreWithin budget left [] = Unit {0}
AreWithin budget left (label ∷ labels) = (1 ≤ left) × AreWithin budget (left_behind budget left label) labels

-- ---- stretches

-- labels after others
record Rest (budget : ℕ) (labels : List Label) : Type 0 where
  left : ℕ
  most : left ≤ budget
  within : AreWithin budget left labels

behind-most : (budget left : ℕ) (b : Bool) → left ≤ budget → (if b then budget else left - 1) ≤ budget
behind-most budget left true le = omega arith
behind-most budget left false le = omega (arith, le)

rest-of : (budget left : ℕ) (before rest : List Label) → left ≤ budget → AreWithin budget left (before ++ rest) → Rest budget rest
rest-of budget left [] rest le within = record { left = left; most = le; within = within }
rest-of budget left (label ∷ before) rest le within =
    rest-of budget (left_behind budget left label) before rest (behind-most budget left (is_wait label) le) within.1

-- labels in front, of which none but the last is a wait
front-length : (budget left : ℕ) (first : List Label) (last : Label) (behind : List Label) → NoneWaits first
    → AreWithin budget left ((first ++ last ∷ []) ++ behind) → length (first ++ last ∷ []) ≤ left
front-length budget left [] last behind none within = within.0
front-length budget left (label ∷ first) last behind none within =
    let parts = and_parts (not (is_wait label)) (list_all (λ x. not (is_wait x)) first) none in
    let plain : is_wait label ≡ false = not-true (is_wait label) parts.0 in
    let less : AreWithin budget (left - 1) ((first ++ last ∷ []) ++ behind) =
    subst (λ (b : Bool). AreWithin budget (if b then budget else left - 1) ((first ++ last ∷ []) ++ behind)) plain within.1 in
    let rest : length (first ++ last ∷ []) ≤ left - 1 = front-length budget (left - 1) first last behind parts.1 less in
    omega (arith, rest, within.0)

stretch-length : (thread budget left : ℕ) (labels stretch : List Label) → left ≤ budget → AreWithin budget left (labels_of thread labels)
    → IsStretch thread labels stretch → length stretch ≤ budget
stretch-length thread budget left labels stretch le within s =
    let rest = rest-of budget left s.before (stretch ++ s.behind) le
    (subst (λ (ls : List Label). AreWithin budget left ls) (s.place ∙ append_assoc s.before stretch s.behind) within) in
    let front : AreWithin budget rest.left ((s.first ++ s.last ∷ []) ++ s.behind) =
    subst (λ (ls : List Label). AreWithin budget rest.left (ls ++ s.behind)) s.ends rest.within in
    let most : length (s.first ++ s.last ∷ []) ≤ rest.left = front-length budget rest.left s.first s.last s.behind s.runs front in
    let same : length stretch ≡ length (s.first ++ s.last ∷ []) = ap (λ (ls : List Label). length ls) s.ends in
    omega (arith, most, same, rest.most)

pub within-keeps : (thread budget left : ℕ) (labels : List Label) → left ≤ budget → AreWithin budget left (labels_of thread labels)
    → KeepsBudget thread budget labels
within-keeps thread budget left labels le within stretch s = stretch-length thread budget left labels stretch le within s
