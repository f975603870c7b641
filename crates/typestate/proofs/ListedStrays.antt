-- A slot that a thread may have where no other is full, it may have beside all others: it has no parent.
use Rattle.std.proofs.Common.{ℕ, zero, suc, ◌≡◌, ◌||◌, Bool, true, false, not, Option, Some, None, List, [], ◌∷◌, length, refl}
use Rattle.std.specs.List.{list_any}
use Rattle.model.specs.Acceptance.NotedStates.{NotedSlot, SlotKey, is_foreign, is_own, leads_to_boot}
use Rattle.model.specs.Capabilities.CapabilityFields.{is_capability}
use Rattle.typestate.specs.declared.spaces.Space.{Space}
use Rattle.typestate.specs.Strays.{cnodes_of, is_stray_in}

leads-beside : (n : ℕ) (slots : List NotedSlot) (parent : Option SlotKey) → leads_to_boot 0 [] parent ≡ true → leads_to_boot n slots parent ≡ true
unfolding leads_to_boot
leads-beside zero slots None leads = refl
leads-beside (suc n) slots None leads = refl
leads-beside n slots (Some key) leads = absurd (let clash : false ≡ true = leads in cc)

beside : (other alone leads : Bool) → (alone ≡ true → leads ≡ true) → (other || not alone) ≡ false → (other || not leads) ≡ false
beside true alone leads so isnt = isnt
beside false false leads so isnt = absurd (let clash : true ≡ false = isnt in cc)
beside false true true so isnt = refl
beside false true false so isnt = absurd (let clash : false ≡ true = so refl in cc)

first-not : (a b : Bool) → (a || b) ≡ false → a ≡ false
first-not true b isnt = isnt
first-not false b isnt = refl

rest-not : (a b : Bool) → (a || b) ≡ false → b ≡ false
rest-not true b isnt = absurd (let clash : true ≡ false = isnt in cc)
rest-not false b isnt = isnt

neither : (a b : Bool) → a ≡ false → b ≡ false → (a || b) ≡ false
neither true b first second = first
neither false b first second = second

module _ (space : Space) (slots : List NotedSlot) where
  one-beside : (s : NotedSlot) → is_stray_in space [] s ≡ false → is_stray_in space slots s ≡ false
  one-beside s =
      beside (not (is_own space.image.now (cnodes_of space) s.key) || is_foreign space.image.now space.thread.now (cnodes_of space) s.capability
      || not (is_capability s.capability))
      (leads_to_boot 0 [] s.parent) (leads_to_boot (length slots) slots s.parent) (leads-beside (length slots) slots s.parent)

  pub none-beside : (listed : List NotedSlot) → list_any (is_stray_in space []) listed ≡ false → list_any (is_stray_in space slots) listed ≡ false
  none-beside [] none = refl
  none-beside (s ∷ rest) none =
      neither (is_stray_in space slots s) (list_any (is_stray_in space slots) rest)
      (one-beside s (first-not (is_stray_in space [] s) (list_any (is_stray_in space []) rest) none))
      (none-beside rest (rest-not (is_stray_in space [] s) (list_any (is_stray_in space []) rest) none))
