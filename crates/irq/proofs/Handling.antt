-- A new handler of a line, and where it goes.
use Rattle.std.proofs.Common.{ℕ, ◌≡◌, ◌∙◌, ◌/◌, ◌<◌, Bool, true, false, not, nat_le, nat_lt, Some, None, List, Result, Ok, Err, length, refl, sym, ap, arith}
use Rattle.std.specs.List.{list_any, range_with_len}
use Rattle.std.proofs.lemmas.Bool.{leb-true}
use Rattle.kernel_invariant.specs.Agreement.{Agrees}
use Rattle.kernel_invariant.specs.Wholeness.{IsWhole}
use Rattle.irq.proofs.Left.{Child, child-state, child-whole}
use Rattle.irq.specs.Handlers.{handler_place}
use Rattle.slots.specs.Listed.{is_handled}
use Rattle.model.specs.Capabilities.CapabilityKinds.{is_handler_of}
use Rattle.model.specs.Capabilities.Slots.{IsFull, SameOutside, Slots, capability_at, depth_of, empty_entry, inserted, is_empty}
use Rattle.model.specs.Kernel.Arguments.{◌>>=◌, Call, check, destination_slot, may_have_child}
use Rattle.model.specs.Kernel.InterruptCalls.{get_handler}
use Rattle.model.specs.Kernel.Kinds.{object_named}
use Rattle.model.specs.Kernel.Soundness.{IsSound}
use Rattle.model.specs.Kernel.State.{State, holds_some, slot_numbers, with_slots}
use Rattle.model.specs.declared.capabilities.Cap.{Cap}
use Rattle.model.specs.declared.capabilities.Cap.TheVariants.{InterruptControl, InterruptHandler}
use Rattle.model.specs.declared.errors.KError.{KError}
use Rattle.model.specs.declared.errors.KError.TheVariants.{IllegalOperation, RangeError, RevokeFirst}
use Rattle.model.specs.declared.invocations.SlotName.{SlotName}
use Rattle.objects.specs.Tables.{Tables, state_of}
use Rattle.soundness.proofs.Laws.{check-passes, destination-plain, empty-open, get-sound, passes-both, plain-open, room-below}
use Rattle.soundness.specs.Calls.{IsRoot, held}

-- ---- the checks, and then the slots

checks-first : (few free : Bool) (destination : Result ℕ KError) (room : Bool) (next : ℕ → Result State KError)
    → (check few RangeError >>= λ _. check free RevokeFirst >>= λ _. destination >>= λ place. check room IllegalOperation >>= λ _. next place)
    ≡ ((check few RangeError >>= λ _. check free RevokeFirst >>= λ _. destination >>= λ place. check room IllegalOperation >>= λ _. Ok place) >>= next)
checks-first false free destination room next = refl
checks-first true false destination room next = refl
checks-first true true (Err e) room next = refl
checks-first true true (Ok place) false next = refl
checks-first true true (Ok place) true next = refl

-- ---- interrupt control is in a full slot

control-full : (slots : Slots) (slot : ℕ) → capability_at slots slot ≡ InterruptControl → IsFull slots slot
control-full slots slot is = ap (λ (c : Cap). not (is_empty c)) is

module _ (o : Tables) (slots : Slots) (memory : List ℕ) (root : Cap) (slot line : ℕ) (name : SlotName) where
  abbrev s : State
  s = state_of o slots memory

  abbrev place_of : Result ℕ KError
  place_of = handler_place slots (length memory / 16) root slot line name

  handled-same : Agrees s memory → holds_some s (is_handler_of line) ≡ is_handled slots (length memory / 16) line
  unfolding state_of slot_numbers
  handled-same agrees = ap (λ (n : ℕ). list_any (λ at. is_handler_of line (capability_at slots at)) (range_with_len 0 (n / 16))) agrees.size

  abbrev made : ℕ → State
  made place = with_slots s (inserted slots place (InterruptHandler line) (Some slot))

  abbrev call_of : Call
  call_of = record { root = root; caller = None; slot = slot; capability = InterruptControl }

  handler-by : Agrees s memory → get_handler s call_of line name ≡ (place_of >>= λ place. Ok (made place))
  unfolding state_of
  handler-by agrees =
      ap (λ (b : Bool). check (nat_le line 63) RangeError >>= λ _. check (not b) RevokeFirst >>= λ _. destination_slot slots root name >>= λ place.
      may_have_child slots slot >>= λ _. Ok (made place)) (handled-same agrees)
      ∙ checks-first (nat_le line 63) (not (is_handled slots (length memory / 16) line)) (destination_slot slots root name) (nat_lt (depth_of slots slot) 255)
      (λ place. Ok (made place))

  -- any call of this root on this slot is the same
  pub any-call : (call : Call) → call.root ≡ root → call.slot ≡ slot → get_handler s call line name ≡ get_handler s call_of line name
  any-call call at here =
      ap (λ (r : Cap). get_handler s (record { root = r; caller = None; slot = call.slot; capability = InterruptControl }) line name) at
      ∙ ap (λ (n : ℕ). get_handler s (record { root = root; caller = None; slot = n; capability = InterruptControl }) line name) here

  pub handler-refused : Agrees s memory → (error : KError) → Err error ≡ place_of → (call : Call) → call.root ≡ root → call.slot ≡ slot
      → get_handler s call line name ≡ Err error
  handler-refused agrees error is call at here = any-call call at here ∙ handler-by agrees
      ∙ ap (λ (r : Result ℕ KError). r >>= λ place. Ok (made place)) (sym is)

  pub handler-passes : Agrees s memory → (place : ℕ) → place_of ≡ Ok place → get_handler s call_of line name ≡ Ok (made place)
  handler-passes agrees place is = handler-by agrees ∙ ap (λ (r : Result ℕ KError). r >>= λ at. Ok (made at)) is

  -- what is known of the place
  pub record IsNewPlace (place : ℕ) : Type 0 where
    pub less : line < 64
    pub empty : slots place ≡ Some empty_entry
    pub room : depth_of slots slot < 255

  pub new-place : IsSound s → IsRoot s root → (place : ℕ) → Ok place ≡ place_of → IsNewPlace place
  unfolding state_of
  new-place sound is_root place told =
      let is : place_of ≡ Ok place = sym told in
      let one = passes-both (check (nat_le line 63) RangeError) _ place is in
      let two = passes-both (check (not (is_handled slots (length memory / 16) line)) RevokeFirst) _ place one.rest in
      let three = passes-both (destination_slot slots root name) _ place two.rest in
      let four = passes-both (may_have_child slots slot) _ place three.rest in
      let less = leb-true line 63 (check-passes (nat_le line 63) RangeError one.value one.first) in
      let there = destination-plain s sound.memory root name three.value is_root three.first in
      let same : three.value ≡ place = cc four.rest in
      record {
        less = omega (arith, less);
        empty = ap slots (sym same) ∙ empty-open slots three.value sound.slots.derivation (plain-open s sound.slots three.value there.0) there.1;
        room = room-below s slot four.value four.first;
      }

  -- what the insertion leaves
  module _ (now : Slots) (new : List ℕ) (place : ℕ) (whole : IsWhole o slots memory) (is_root : IsRoot s root)
      (control : capability_at slots slot ≡ InterruptControl)
      (same : SameOutside slots memory new) (passes : Ok place ≡ place_of) (is : now ≡ inserted slots place (InterruptHandler line) (Some slot)) where
    child : Child slots place slot (InterruptHandler line)
    child =
        let known = new-place whole.sound is_root place passes in
        record {
          empty = IsNewPlace.empty known;
          valid = IsNewPlace.less known;
          single = refl;
          unmapped = refl;
          object = ap object_named (sym control);
        }

    pub handler-left : (call : Call) → call.root ≡ root → call.slot ≡ slot → get_handler s call line name ≡ Ok (state_of o now new)
    handler-left call at here =
        any-call call at here ∙ handler-passes whole.agrees place (sym passes)
        ∙ ap (λ (t : State). Ok t) (sym (child-state o slots now memory new place slot (InterruptHandler line) (whole.agrees, whole.stands) same child is))

    pub handler-whole : IsWhole o now new
    unfolding state_of
    handler-whole =
        child-whole o slots now memory new place slot (InterruptHandler line) (whole.agrees, whole.stands) same child is
        (get-sound s (made place) call_of line name whole.sound (record { root = is_root; invoked = held control (control-full slots slot control) }) refl
        (handler-passes whole.agrees place (sym passes)))
