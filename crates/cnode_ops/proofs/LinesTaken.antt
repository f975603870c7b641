-- The lines whose last handler goes: a handler of theirs was taken, and no slot holds one afterwards.
use Rattle.std.proofs.Common.{ℕ, ◌≡◌, ◌∙◌, ◌==◌, ◌/◌, ◌^◌, ◌<◌, ◌&&◌, ◌||◌, inl, inr, nat_le, Bool, true, false, not, Option, get_or, refl, sym, ap, subst}
use Rattle.std.specs.List.{range_with_len}
use Rattle.std.proofs.Math.Bool.{and-false, or-false}
use Rattle.std.proofs.lemmas.Bool.Decides.{eqb_tells}
use Rattle.std.proofs.lemmas.List.Folds.{list_any_none}
use Rattle.model.specs.Capabilities.CapabilityKinds.{is_handler_of, unmapped}
use Rattle.model.specs.Capabilities.Slots.{IsDerivation, IsFull, IsOpen, Slots, capability_at}
use Rattle.model.specs.Kernel.Removal.{SlotSet, emptied, some_inside, some_outside, takes_last}
use Rattle.model.specs.Kernel.State.{State, binding_slot, slot_numbers}
use Rattle.model.specs.declared.capabilities.Cap.{Cap}
use Rattle.model.specs.declared.capabilities.Cap.TheVariants.{Empty, Untyped, Endpoint, Notification, CNode, Frame, PageTable, Tcb, RootTable, InterruptControl}
use Rattle.model.specs.declared.capabilities.Cap.TheVariants.{InterruptHandler}
use Rattle.model.specs.declared.slot_entries.Entry.{Entry}
use Rattle.model.proofs.SlotChanges.{capability_of}
use Rattle.removal_laws.specs.Steps.{IsReady, alone, bindings_from, joined, unmapped_at}
use Rattle.removal_laws.proofs.Laws.{bool-iff, both, capability-out, found, found-at, found-or, found-same, found-where, join, kept-test, lines-done}
use Rattle.removal_laws.proofs.Laws.{ready-emptied, there-in, unmapped-itself}
use Rattle.cnode_ops.specs.Lines.{LinesGone, handles, has_line}
use Rattle.cnode_ops.specs.Sets.{set_of}
use Rattle.cnode_ops.specs.declared.lines.LineSet.{LineSet}
use Rattle.cnode_ops.specs.declared.sets.Removed.{Removed}
use Rattle.slots.specs.Listed.{is_handled}

-- ---- the set is emptied

none : SlotSet
none slot = false

abbrev never : ℕ → Bool
never line = false

no-binding : (s : State) (first y : ℕ) → bindings_from s never first y ≡ false
no-binding s first y = list_any_none (λ line. nat_le first line && (y == binding_slot s line && false)) (range_with_len 0 64) (λ k d less.
    ap (λ b. nat_le first (get_or (range_with_len 0 64) k d) && b) (and-false (y == binding_slot s (get_or (range_with_len 0 64) k d)))
    ∙ and-false (nat_le first (get_or (range_with_len 0 64) k d)))

emptied-nothing : (s : State) → IsDerivation s.slots → emptied s none ≡ s
unfolding none
emptied-nothing s tree = (λ i. emptied s (λ y. sym (no-binding s 64 y) i)) ∙ lines-done s never tree

split : (own held : Bool) → held ≡ ((own && held) || (not own && held))
split true true = refl
split true false = refl
split false true = refl
split false false = refl

module _ (w one : State) (own : SlotSet) (line : ℕ) (bits : one.memory_bits ≡ w.memory_bits) (tree : IsDerivation one.slots)
    (taken : emptied w (joined own none) ≡ emptied one none) where
  abbrev holds : State → ℕ → Bool
  holds s y = is_handler_of line (capability_at s.slots y)

  abbrev all : SlotSet
  all = joined own none

  one-is : one ≡ emptied w all
  one-is = sym (taken ∙ emptied-nothing one tree)

  -- who holds a handler still is who did beside the set
  emptied-at : (y : ℕ) → holds (emptied w all) y ≡ (not (own y) && holds w y)
  unfolding none
  emptied-at y = elim (own y) as (λ b. own y ≡ b → holds (emptied w all) y ≡ (not b && holds w y)) [
    | true ↦ λ member. ap (λ (o : Option Entry). is_handler_of line (capability_of o)) (there-in w all y (ap (λ b. b || false) member))
    | false ↦ λ out.
        ap (is_handler_of line) (capability-out w all y (ap (λ b. b || false) out))
        ∙ kept-test (is_handler_of line) (λ o b v u. refl) (λ f r m n. refl) (λ t m n. refl) w all y (capability_at w.slots y)
  ] refl

  handled-after : handles one line ≡ some_outside w own (is_handler_of line)
  unfolding slot_numbers
  handled-after =
      ap (λ (s : State). found s.memory_bits (holds s)) one-is
      ∙ found-same w.memory_bits (holds (emptied w all)) (λ y. not (own y) && holds w y) emptied-at

  handled-before : handles w line ≡ (some_inside w own (is_handler_of line) || some_outside w own (is_handler_of line))
  unfolding slot_numbers
  handled-before =
      found-same w.memory_bits (holds w) (λ y. (own y && holds w y) || (not (own y) && holds w y)) (λ y. split (own y) (holds w y))
      ∙ found-or w.memory_bits (λ y. own y && holds w y) (λ y. not (own y) && holds w y)

-- the answer of one who knows the lines of which a handler was taken, and asks a store afterwards
lost-last : (gone inside outside : Bool) → (outside || gone) ≡ (inside || outside) → (gone && not outside) ≡ (inside && not outside)
lost-last true true outside is = refl
lost-last false false outside is = refl
lost-last true false true is = refl
lost-last false true true is = refl
lost-last true false false is = absurd (let clash : true ≡ false = is in cc)
lost-last false true false is = absurd (let clash : false ≡ true = is in cc)

pub lines-told : (w one : State) (slots after : Slots) (bytes : ℕ) (removed : Removed) (line : ℕ) (gone : LineSet) (lost : Bool)
    → w.slots ≡ slots → one.slots ≡ after → 2 ^ one.memory_bits ≡ bytes → one.memory_bits ≡ w.memory_bits → IsDerivation one.slots
    → ((more : SlotSet) → ((slot : ℕ) → more slot ≡ true → IsOpen slots slot) → emptied w (joined (set_of slots removed) more) ≡ emptied one more)
    → (handles one line || has_line gone line) ≡ handles w line → lost ≡ (has_line gone line && not (is_handled after (bytes / 16) line))
    → lost ≡ takes_last w (set_of w.slots removed) (is_handler_of line)
unfolding none
lines-told w one slots after bytes removed line gone lost has has_after size bits tree taken is_gone now =
    let own : SlotSet = set_of w.slots removed in
    let whole = subst (λ (n : Slots). emptied w (joined (set_of n removed) none) ≡ emptied one none) (sym has)
    (taken none (λ slot is. absurd (let clash : false ≡ true = is in cc))) in
    let later = handled-after w one own line bits tree whole in
    now
    ∙ (λ i. has_line gone line && not (is_handled (sym has_after i) (sym size i / 16) line))
    ∙ ap (λ b. has_line gone line && not b) later
    ∙ lost-last (has_line gone line) (some_inside w own (is_handler_of line)) (some_outside w own (is_handler_of line))
    (ap (λ b. b || has_line gone line) (sym later) ∙ is_gone ∙ handled-before w one own line bits tree whole)

-- ---- one slot after another

handler-unmapped : (line : ℕ) (c : Cap) → is_handler_of line (unmapped c) ≡ is_handler_of line c
handler-unmapped line Empty = refl
handler-unmapped line (Untyped o b w) = refl
handler-unmapped line (Endpoint o r b) = refl
handler-unmapped line (Notification o r b) = refl
handler-unmapped line (CNode o r g) = refl
handler-unmapped line (Frame f r m) = refl
handler-unmapped line (PageTable t m) = refl
handler-unmapped line (Tcb o) = refl
handler-unmapped line (RootTable o) = refl
handler-unmapped line InterruptControl = refl
handler-unmapped line (InterruptHandler l) = refl

-- a slot alone holds a handler if what it holds is one
some-alone : (w : State) (x : ℕ) (test : Cap → Bool) → x < 2 ^ w.memory_bits / 16 → some_inside w (alone x) test ≡ test (capability_at w.slots x)
unfolding slot_numbers
some-alone w x test near =
    bool-iff (some_inside w (alone x) test) (test (capability_at w.slots x))
    (λ is.
    let at = found-where w.memory_bits (λ y. alone x y && test (capability_at w.slots y)) is in
    let parts = both (alone x at.0) (test (capability_at w.slots at.0)) at.1 in
    let here : at.0 ≡ x = elim (eqb_tells at.0 x) [
      | inl same ↦ same.1
      | inr apart ↦ absurd (let clash : false ≡ true = sym apart.0 ∙ parts.0 in cc)
    ] in
    ap (λ (n : ℕ). test (capability_at w.slots n)) (sym here) ∙ parts.1)
    (λ is. found-at w.memory_bits x (λ y. alone x y && test (capability_at w.slots y)) near
    (join (alone x x) (test (capability_at w.slots x)) (elim (eqb_tells x x) [ inl same ↦ same.0 | inr apart ↦ absurd (apart.1 refl) ]) is))

pub none-gone : (s : State) (gone : LineSet) → ((line : ℕ) → has_line gone line ≡ false) → LinesGone s s gone
none-gone s gone none_is = λ line few. ap (λ b. handles s line || b) (none_is line) ∙ or-false (handles s line)

later-or : (after gone held : Bool) → (after || (gone || held)) ≡ ((held || after) || gone)
later-or true true true = refl
later-or true true false = refl
later-or true false true = refl
later-or true false false = refl
later-or false true true = refl
later-or false true false = refl
later-or false false true = refl
later-or false false false = refl

-- what goes with a slot is known from what it held
pub gone-next : (s w now : State) (gone new : LineSet) (x : ℕ) (held : Cap) → LinesGone s w gone → IsReady w → IsFull w.slots x → now ≡ emptied w (alone x)
    → held ≡ capability_at (unmapped_at w.slots x) x → ((line : ℕ) → line < 64 → has_line new line ≡ (has_line gone line || is_handler_of line held)) →
    LinesGone s now new
unfolding none
gone-next s w now gone new x held so_far ready full is held_is noted = λ line few.
    let test : Bool = is_handler_of line held in
    let tree : IsDerivation now.slots = subst (λ (t : State). IsDerivation t.slots) (sym is) (ready-emptied w x ready full).derivation in
    let whole : emptied w (joined (alone x) none) ≡ emptied now none =
    (λ i. emptied w (λ y. or-false (alone x y) i)) ∙ sym is ∙ sym (emptied-nothing now tree)
    in
    let bits : now.memory_bits ≡ w.memory_bits = ap (λ (t : State). t.memory_bits) is in
    let own : some_inside w (alone x) (is_handler_of line) ≡ test =
    some-alone w x (is_handler_of line) (ready.near x full) ∙ sym (ap (is_handler_of line) held_is
    ∙ ap (is_handler_of line) (unmapped-itself w.slots x (capability_at w.slots x) refl).0 ∙ handler-unmapped line (capability_at w.slots x))
    in
    let before : handles w line ≡ (test || handles now line) =
    handled-before w now (alone x) line bits tree whole
    ∙ ap (λ b. b || some_outside w (alone x) (is_handler_of line)) own
    ∙ ap (λ b. test || b) (sym (handled-after w now (alone x) line bits tree whole))
    in
    ap (λ b. handles now line || b) (noted line few)
    ∙ later-or (handles now line) (has_line gone line) test
    ∙ ap (λ b. b || has_line gone line) (sym before)
    ∙ so_far line few

-- ---- bindings

-- of no lines none is emptied
pub bindings-none : (s : State) (lines : LineSet) → ((line : ℕ) → has_line lines line ≡ false) → IsDerivation s.slots →
    emptied s (bindings_from s (λ line. has_line lines line) 0) ≡ s
bindings-none s lines none_is tree =
    (λ i. emptied s (bindings_from s (λ line. none_is line i) 0))
    ∙ (λ i. emptied s (λ y. (no-binding s 0 y ∙ sym (no-binding s 64 y)) i))
    ∙ lines-done s never tree
