-- Marks of slots.
use Rattle.std.proofs.Common.{ℕ, ◌≡◌, ◌≢◌, ◌∙◌, ◌==◌, ◌/◌, ◌%◌, ◌&&◌, inl, inr, Bool, true, false, not, Option, Some, None, List, replicate, refl, sym, ap}
use Rattle.std.proofs.Common.{arith}
use Rattle.std.specs.Int.{bit_at}
use Rattle.std.proofs.lemmas.Bool.{cases_lt}
use Rattle.std.proofs.lemmas.Bool.Decides.{eqb_tells}
use Rattle.std.proofs.lemmas.List.{get_or-replicate, get_or_past, length-replicate}
use Rattle.std.proofs.lemmas.Nat.Bits.{bit_at-zero}
use Rattle.cnode_ops.specs.Listed.{Lists}
use Rattle.cnode_ops.specs.Marked.{is_marked, is_unmarked}
use Rattle.cnode_ops.specs.Refusals.{goes, stays}
use Rattle.cnode_ops.specs.Sets.{set_of}
use Rattle.cnode_ops.specs.declared.sets.Removed.{Removed}
use Rattle.cnode_ops.proofs.FullSlots.{AreBehind, behind-next, none-left}
use Rattle.model.specs.Capabilities.Orders.{next_in}
use Rattle.model.specs.Capabilities.Slots.{Slots, is_full}
use Rattle.removal_laws.proofs.Laws.{bool-iff}

-- words of zeros have no mark
zero-mark : (size slot : ℕ) → is_marked (replicate size 0) slot ≡ false
zero-mark size slot =
    ap (λ word. bit_at word (slot % 64) == 1) (elim (cases_lt (slot / 64) size) [
      | inl inside ↦ get_or-replicate size (slot / 64) 0 0 inside
      | inr past ↦ get_or_past (replicate size 0) (slot / 64) 0 (omega (arith, past, length-replicate {A = ℕ} size 0))
    ])
    ∙ ap (λ bit. bit == 1) (bit_at-zero (slot % 64))

pub none-marked : (size : ℕ) (words : List ℕ) → words ≡ replicate size 0 → (slot : ℕ) → is_marked words slot ≡ false
none-marked size words zeros slot = ap (λ l. is_marked l slot) zeros ∙ zero-mark size slot

-- ---- the slots of a list are marked one after another

-- what is marked is one of these, and those that are not marked come after the slot that was marked last
pub record AreMarked (list : List ℕ) (member : ℕ → Bool) (words : List ℕ) (at : Option ℕ) : Type 0 where
  pub marked : (slot : ℕ) → is_marked words slot ≡ true → member slot ≡ true
  pub rest : AreBehind list member (λ slot. not (is_marked words slot)) at

not-true : (b : Bool) → not b ≡ false → b ≡ true
not-true true is = refl
not-true false is = absurd (let clash : true ≡ false = is in cc)

pub marked-next : (list : List ℕ) (member : ℕ → Bool) (lists : Lists list member) (old new : List ℕ) (at : Option ℕ) (slot : ℕ) → AreMarked list member old at
    → Some slot ≡ next_in list at → member slot ≡ true → is_marked new slot ≡ true → ((s : ℕ) → s ≢ slot → is_marked new s ≡ is_marked old s) →
    AreMarked list member new (Some slot)
marked-next list member lists old new at slot before next is own others = record {
  marked = λ s yes. elim (eqb_tells s slot) [
    | inl here ↦ ap member here.1 ∙ is
    | inr apart ↦ before.marked s (sym (others s apart.1) ∙ yes)
  ];
  rest = behind-next list member lists (λ s. not (is_marked new s)) at slot
      (λ listed s inside unmarked. elim (eqb_tells s slot) [
        | inl here ↦ absurd (let clash : false ≡ true = sym (ap not (ap (is_marked new) here.1 ∙ own)) ∙ unmarked in cc)
        | inr apart ↦ before.rest listed s inside (ap not (sym (others s apart.1)) ∙ unmarked)
      ]) next (ap not own);
}

pub marked-all : (list : List ℕ) (member : ℕ → Bool) (lists : Lists list member) (words : List ℕ) (at : Option ℕ) → AreMarked list member words at →
    None ≡ next_in list at
    → (slot : ℕ) → is_marked words slot ≡ member slot
marked-all list member lists words at are none slot = bool-iff (is_marked words slot) (member slot) (are.marked slot)
    (λ inside. not-true (is_marked words slot) (none-left list member lists (λ s. not (is_marked words s)) at are.rest none slot inside))

-- what is full and not marked stays
pub unmarked-stays : (slots : Slots) (set : Removed) (words : List ℕ) → ((slot : ℕ) → is_marked words slot ≡ goes slots set slot) → (slot : ℕ) →
    is_unmarked slots words slot ≡ stays slots set slot
unmarked-stays slots set words marked slot =
    ap (λ b. is_full slots slot && not b) (marked slot)
    ∙ elim (is_full slots slot) as (λ b. (b && not (b && set_of slots set slot)) ≡ (b && not (set_of slots set slot))) [ true ↦ refl | false ↦ refl ]
