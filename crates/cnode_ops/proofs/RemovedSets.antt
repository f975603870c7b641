-- What a removal's loops leave, of a state and slots that are kept apart.
use Rattle.std.proofs.Common.{ℕ, ◌≡◌, ◌∙◌, ◌*◌, ◌^◌, ◌/◌, ◌<◌, ◌&&◌, Bool, false, true, not, is_some, Some, None, option_map, Ok, List, length, refl, sym, ap}
use Rattle.std.proofs.Common.{subst, arith}
use Rattle.cnode_ops.proofs.LinesTaken.{lines-told}
use Rattle.cnode_ops.proofs.Unsettling.{covers-first, covers-now}
use Rattle.cnode_ops.proofs.object_lifetimes.Laws.{whole-of}
use Rattle.cnode_ops.specs.object_lifetimes.Kernels.{IsConsistent}
use Rattle.kernel_invariant.proofs.Laws.{of_slots-law}
use Rattle.objects.specs.Lives.{Parts, state_in}
use Rattle.objects.specs.Standing.{Standing}
use Rattle.objects.specs.Tables.{Tables, state_of}
use Rattle.cnode_ops.specs.Lines.{LinesGone, has_line}
use Rattle.cnode_ops.specs.Unsettled.{Covers, Notes, nothing}
use Rattle.cnode_ops.specs.declared.lines.LineSet.{LineSet}
use Rattle.cnode_ops.specs.declared.settling.Unsettled.{Unsettled}
use Rattle.model.specs.Capabilities.CapabilityKinds.{is_handler_of}
use Rattle.model.specs.Capabilities.Slots.{IsDerivation, IsOpen, Slots, is_descendant}
use Rattle.model.specs.Kernel.Removal.{SlotSet, emptied, kept_entry, remove, takes_last, wants_revoke_first, with_bindings}
use Rattle.model.specs.Kernel.Soundness.{IsSound}
use Rattle.model.specs.Kernel.State.{State, binding_slot}
use Rattle.model.proofs.Ancestors.{descendant-full, full-open}
use Rattle.removal_laws.specs.Finishing.{MaySettle, settled}
use Rattle.removal_laws.specs.Steps.{SameShape, bindings_from, joined}
use Rattle.slots.specs.Listed.{is_handled}
use Rattle.removal_laws.proofs.Laws.{both-loops, may-settle, members-all, removed, sound-ready, there-out}
use Rattle.cnode_ops.specs.Sets.{set_of}
use Rattle.cnode_ops.specs.declared.sets.Removed.{Removed}

-- what the loops are given and what they leave
pub record LoopsRan (w one two : State) (slots : Slots) (set : Removed) (lines : ℕ → Bool) : Type 0 where
  pub has : w.slots ≡ slots
  pub sound : IsSound w
  pub members : (slot : ℕ) → set_of slots set slot ≡ true → IsOpen slots slot
  pub shape : SameShape w one
  pub taken : (more : SlotSet) → ((slot : ℕ) → more slot ≡ true → IsOpen slots slot) → emptied w (joined (set_of slots set) more) ≡ emptied one more
  pub last : (line : ℕ) → line < 64 → lines line ≡ takes_last w (set_of w.slots set) (is_handler_of line)
  pub bound : emptied one (bindings_from one (λ line. lines line) 0) ≡ two
  pub kept_first : wants_revoke_first w (with_bindings w (set_of w.slots set)) ≡ false

-- what the loops are given and what they leave, by what each of them reports
pub loops-ran : (w one two : State) (slots bare : Slots) (bytes : ℕ) (set : Removed) (gone lost : LineSet)
    → w.slots ≡ slots → IsSound w → ((slot : ℕ) → set_of slots set slot ≡ true → IsOpen slots slot)
    → wants_revoke_first w (with_bindings w (set_of w.slots set)) ≡ false
    → one.slots ≡ bare → 2 ^ one.memory_bits ≡ bytes → IsDerivation one.slots → SameShape w one
    → ((more : SlotSet) → ((slot : ℕ) → more slot ≡ true → IsOpen slots slot) → emptied w (joined (set_of slots set) more) ≡ emptied one more)
    → LinesGone w one gone
    → ((line : ℕ) → line < 64 → has_line lost line ≡ (has_line gone line && not (is_handled bare (bytes / 16) line)))
    → emptied one (bindings_from one (λ line. has_line lost line) 0) ≡ two → LoopsRan w one two slots set (λ line. has_line lost line)
loops-ran w one two slots bare bytes set gone lost has sound members kept_first has_bare size tree shape taken lines last bound = record {
  has = has;
  sound = sound;
  members = members;
  shape = shape;
  taken = taken;
  last = λ line few. lines-told w one slots bare bytes set line gone (has_line lost line) has has_bare size shape.bits tree taken (lines line few)
      (last line few);
  bound = bound;
  kept_first = kept_first;
}

-- the same of a kernel that lends its parts to the loops
pub loops-lent : {S : Type 0} (slots : S → Slots) (memory : S → List ℕ) (set : Removed) (gone lost : LineSet) {o : Tables} {store bare : S} {one two : State}
    {parts kernel : Parts S}
    → IsConsistent (state_in slots memory parts) (memory parts.store) → record { store = store; tables = o } ≡ parts
    → Standing o (slots store) (memory store) → parts ≡ kernel
    → ((slot : ℕ) → set_of (slots kernel.store) set slot ≡ true → IsOpen (slots kernel.store) slot)
    → ((w : State) → w.slots ≡ slots store → IsSound w → 2 ^ w.memory_bits ≡ length (memory store)
    → wants_revoke_first w (with_bindings w (set_of w.slots set)) ≡ false)
    → one.slots ≡ slots bare → 2 ^ one.memory_bits ≡ length (memory bare) → IsDerivation one.slots
    → SameShape (state_of o (slots store) (memory store)) one
    → ((more : SlotSet) → ((slot : ℕ) → more slot ≡ true → IsOpen (slots store) slot)
    → emptied (state_of o (slots store) (memory store)) (joined (set_of (slots store) set) more) ≡ emptied one more)
    → LinesGone (state_of o (slots store) (memory store)) one gone
    → ((line : ℕ) → line < 64 → has_line lost line ≡ (has_line gone line && not (is_handled (slots bare) (length (memory bare) / 16) line)))
    → emptied one (bindings_from one (λ line. has_line lost line) 0) ≡ two
    → LoopsRan (state_of o (slots store) (memory store)) one two (slots store) set (λ line. has_line lost line)
loops-lent {S} slots memory set gone lost {o} {store} {bare} {one} {two} kept is stands of members keeps has_bare size tree shape taken lines last bound =
    let w : State = state_of o (slots store) (memory store) in
    let whole = whole-of slots memory o store kept is stands in
    let here = subst (λ (k : Parts S). (slot : ℕ) → set_of (slots k.store) set slot ≡ true → IsOpen (slots k.store) slot) (sym (is ∙ of)) members in
    loops-ran w one two (slots store) (slots bare) (length (memory bare)) set gone lost (of_slots-law _ _ _) whole.sound here
    (keeps w (of_slots-law _ _ _) whole.sound whole.agrees.size) has_bare size tree shape taken lines last bound

-- emptying opens no slot
open-was : (s : State) (all : SlotSet) (y : ℕ) → ((slot : ℕ) → all slot ≡ true → IsOpen s.slots slot) → IsOpen (emptied s all).slots y → IsOpen s.slots y
open-was s all y opens is = elim (all y) as (λ b. all y ≡ b → IsOpen s.slots y) [
  | true ↦ λ member. opens y member
  | false ↦ λ out. elim (s.slots y) as (λ o. s.slots y ≡ o → IsOpen s.slots y) [
    | None ↦ λ none. absurd (let clash : false ≡ true = sym (ap is_some (there-out s all y out ∙ ap (option_map (kept_entry s all y)) none)) ∙ is in cc)
    | Some h ↦ λ some. ap is_some some
  ] refl
] refl

module _ (w one two : State) (slots : Slots) (set : Removed) (lines : ℕ → Bool) (ran : LoopsRan w one two slots set lines) where
  same : slots ≡ w.slots
  same = sym ran.has

  lines_open : (l : ℕ) → l < 64 → IsOpen w.slots (binding_slot w l)
  lines_open = (sound-ready w ran.sound).lines

  members_open : (slot : ℕ) → set_of w.slots set slot ≡ true → IsOpen w.slots slot
  members_open = subst (λ (n : Slots). (slot : ℕ) → set_of n set slot ≡ true → IsOpen n slot) same ran.members

  left : two ≡ emptied w (with_bindings w (set_of w.slots set))
  left = both-loops w one two (set_of w.slots set) (λ line. lines line) ran.shape
      (subst (λ (n : Slots). (more : SlotSet) → ((slot : ℕ) → more slot ≡ true → IsOpen n slot) → emptied w (joined (set_of n set) more) ≡ emptied one more)
      same ran.taken)
      ran.last lines_open ran.bound

  pub loops-may-settle : MaySettle two
  loops-may-settle =
      subst (λ (t : State). MaySettle t) (sym left)
      (may-settle w ran.sound (with_bindings w (set_of w.slots set)) (members-all w (set_of w.slots set) members_open lines_open) ran.kept_first)

  -- what was open before
  was-open : (slot : ℕ) → IsOpen two.slots slot → IsOpen slots slot
  was-open slot opens =
      let all = with_bindings w (set_of w.slots set) in
      let here : IsOpen w.slots slot =
      open-was w all slot (members-all w (set_of w.slots set) members_open lines_open) (subst (λ (t : State). IsOpen t.slots slot) left opens)
      in
      subst (λ (n : Slots). IsOpen n slot) ran.has here

  pub loops-cover : (now : Slots) (count : ℕ) (none some last : Unsettled) → two.slots ≡ now → 16 * count ≡ 2 ^ w.memory_bits → none ≡ nothing count
      → Notes w none one some → Notes one some two last → Covers now two last
  loops-cover now count none some last is size none_is first second =
      covers-now two slots now last (λ slot opens. was-open slot (subst (λ (n : Slots). IsOpen n slot) (sym is) opens))
      (second.covered slots (first.covered slots
      (subst (λ (l : Unsettled). Covers slots w l) (sym none_is) (covers-first w ran.sound slots count ran.has (omega (arith, size))))))

  pub loops-remove : (last : State) → last ≡ settled two → remove w (set_of slots set) ≡ Ok last
  loops-remove last is =
      ap (λ (n : Slots). remove w (set_of n set)) same ∙ removed w two last (set_of w.slots set) ran.sound members_open ran.kept_first left is

-- all that descends is open
pub below-open : (w : State) (slots : Slots) (root slot : ℕ) → w.slots ≡ slots → IsSound w → is_descendant slots root slot ≡ true → IsOpen slots slot
below-open w slots root slot has sound is =
    let tree : IsDerivation slots = subst (λ (n : Slots). IsDerivation n) has sound.slots.derivation in
    full-open slots slot (descendant-full slots root slot tree is)
