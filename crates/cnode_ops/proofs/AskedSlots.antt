-- The slots that go are asked one after another whether their object has a slot that passes a test.
use Rattle.std.proofs.Common.{ℕ, ◌≡◌, ◌∙◌, Bool, Option, Some, None, List, false, true, sym, ap}
use Rattle.cnode_ops.specs.Listed.{Lists}
use Rattle.cnode_ops.specs.Refusals.{goes, own_slots, some_own, some_slot}
use Rattle.cnode_ops.specs.declared.sets.Removed.{Removed}
use Rattle.cnode_ops.proofs.EndingSlots.{no-slot}
use Rattle.cnode_ops.proofs.FullSlots.{AreBehind, before-first, behind-first, behind-next, found-member, last-found, none-left}
use Rattle.model.specs.Capabilities.Orders.{next_in}
use Rattle.model.specs.Capabilities.Slots.{Slots, capability_at}

-- whether the object that a slot names has a slot that passes
abbrev pub own_passes : Slots → ℕ → Removed → (ℕ → Bool) → ℕ → Bool
own_passes slots size set test slot = some_own (own_slots slots size set (capability_at slots slot)) test

-- what goes, and whose object has such a slot, comes after the slot that was looked at last, whose object has none
pub record AreAsked (slots : Slots) (size : ℕ) (set : Removed) (list : List ℕ) (test : ℕ → Bool) (own : ℕ × ℕ) (at : Option ℕ) : Type 0 where
  pub known : (slot : ℕ) → at ≡ Some slot → goes slots set slot ≡ true
  pub rest : AreBehind list (goes slots set) (own_passes slots size set test) at
  pub passed : some_own own test ≡ false

pub asked-first : (slots : Slots) (size : ℕ) (set : Removed) (list : List ℕ) (test : ℕ → Bool) (own : ℕ × ℕ) → own.1 ≡ 0 →
    AreAsked slots size set list test own None
asked-first slots size set list test own none = record {
  known = λ slot is. before-first (λ s. goes slots set s ≡ true) slot is;
  rest = behind-first list (goes slots set) (own_passes slots size set test);
  passed = ap (λ (n : ℕ). some_slot own.0 n test) none ∙ no-slot own.0 test;
}

pub asked-next : (slots : Slots) (size : ℕ) (set : Removed) (list : List ℕ) (test : ℕ → Bool) (last own : ℕ × ℕ) (at : Option ℕ) (slot : ℕ)
    → Lists list (goes slots set) → AreAsked slots size set list test last at → Some slot ≡ next_in list at
    → own ≡ own_slots slots size set (capability_at slots slot) → some_own own test ≡ false → AreAsked slots size set list test own (Some slot)
asked-next slots size set list test last own at slot lists before next is fails = record {
  known = λ s same. last-found (λ x. goes slots set x ≡ true) slot s (found-member list (goes slots set) lists at slot next) same;
  rest = behind-next list (goes slots set) lists (own_passes slots size set test) at slot before.rest next
      (ap (λ (o : ℕ × ℕ). some_own o test) (sym is) ∙ fails);
  passed = fails;
}

pub none-asked : (slots : Slots) (size : ℕ) (set : Removed) (list : List ℕ) (test : ℕ → Bool) (last : ℕ × ℕ) (at : Option ℕ) → Lists list (goes slots set)
    → AreAsked slots size set list test last at → None ≡ next_in list at → (slot : ℕ) → goes slots set slot ≡ true
    → own_passes slots size set test slot ≡ false
none-asked slots size set list test last at lists before next =
    none-left list (goes slots set) lists (own_passes slots size set test) at before.rest next
