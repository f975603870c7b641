-- Changes among which one more was put.
use Rattle.std.proofs.Common.{ℕ, suc, zero, ◌≡◌, ◌+◌, ◌<◌, if◌then◌else◌, Some, List, [], ◌∷◌, map, subst, arith}
use Rattle.std.specs.Prelude.{slice_index}
use Rattle.model.specs.Acceptance.NotedStates.{NotedSlot, SlotKey, is_same_key, number_of, slot_at}
use Rattle.typestate.specs.Orders.{Rise}
use Rattle.typestate.proofs.Rising.{RiseFrom}

-- changes among which one more was put
pub record IsPut (least : ℕ) (old new : List NotedSlot) (c : NotedSlot) : Type 0 where
  pub rising : RiseFrom least new
  pub same : (key : SlotKey) → slot_at new key ≡ (if is_same_key c.key key then Some c else slot_at old key)

-- ---- keys that rise from a number on rise

next-rises : (s r : NotedSlot) (rest : List NotedSlot) → number_of s.key < number_of r.key → Rise (r ∷ rest) → Rise (s ∷ r ∷ rest)
next-rises s r rest less rises zero below = less
next-rises s r rest less rises (suc k) below =
    let numbers = map (λ (o : NotedSlot). number_of o.key) (s ∷ r ∷ rest) in
    let same : suc (k + 1) ≡ suc k + 1 = omega arith in
    subst (λ i. slice_index numbers (suc k) < slice_index numbers i) same (rises k (omega (arith, below)))

pub rise-of : (slots : List NotedSlot) (least : ℕ) → RiseFrom least slots → Rise slots
rise-of [] least rises = λ k below. absurd (omega (arith, below))
rise-of (s ∷ []) least rises = λ k below. absurd (omega (arith, below))
rise-of (s ∷ r ∷ rest) least rises = next-rises s r rest (omega (arith, rises.1.0)) (rise-of (r ∷ rest) (number_of s.key + 1) rises.1)
