-- What each change was derived from has an index of 32 bits, also where one more was put.
use Rattle.std.proofs.Common.{ℕ, ◌≡◌, ◌∙◌, ◌+◌, ◌&&◌, inl, inr, Bool, true, false, if◌then◌else◌, Some, None, List, [], ◌∷◌, refl, sym, ap, arith}
use Rattle.std.specs.List.{list_all}
use Rattle.std.proofs.lemmas.Bool.Decides.{eqb_tells}
use Rattle.model.specs.Acceptance.NotedStates.{NotedSlot, SlotKey, is_same_key, number_of, slot_at}
use Rattle.typestate.specs.Orders.{AreNarrow, is_narrow}
use Rattle.typestate.proofs.PutPlaces.{IsPut}
use Rattle.typestate.proofs.Rising.{RiseFrom, first-found, none-below}
use Rattle.typestate.proofs.Standing.{found-all}

found-behind : (s : NotedSlot) (rest : List NotedSlot) (key : SlotKey) (r : NotedSlot) → RiseFrom (number_of s.key + 1) rest → slot_at rest key ≡ Some r →
    slot_at (s ∷ rest) key ≡ Some r
found-behind s rest key r rises at = elim (eqb_tells (number_of s.key) (number_of key)) [
  | inl same ↦
      let is = same.1 in
      absurd (let clash : None ≡ Some r = sym (none-below rest (number_of s.key + 1) key rises (omega (arith, is))) ∙ at in cc)
  | inr other ↦ ap (λ b. if b then Some s else slot_at rest key) other.0 ∙ at
]

-- what holds of each slot that is found, where keys rise, holds of all
all-looked : (test : NotedSlot → Bool) (slots : List NotedSlot) (least : ℕ) → RiseFrom least slots →
    ((key : SlotKey) (s : NotedSlot) → slot_at slots key ≡ Some s → test s ≡ true)
    → list_all test slots ≡ true
all-looked test [] least rises each = refl
all-looked test (s ∷ rest) least rises each =
    ap (λ b. b && list_all test rest) (each s.key s (first-found s rest s.key refl))
    ∙ all-looked test rest (number_of s.key + 1) rises.1 (λ key r at. each key r (found-behind s rest key r rises.1 at))

pub put-narrow : (changes new : List NotedSlot) (c : NotedSlot) → IsPut 0 changes new c → is_narrow c ≡ true → AreNarrow changes → AreNarrow new
put-narrow changes new c put narrow all = all-looked is_narrow new 0 put.rising (λ key s at.
    (elim (is_same_key c.key key) as (λ b. (if b then Some c else slot_at changes key) ≡ Some s → is_narrow s ≡ true) [
      | true ↦ λ here. let one : c ≡ s = cc in ap is_narrow (sym one) ∙ narrow
      | false ↦ λ later. found-all is_narrow changes key s all later
    ]) (sym (put.same key) ∙ at))
