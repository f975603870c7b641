-- What a removal leaves of the slots outside its set.
use Rattle.std.proofs.Common.{ℕ, ◌≡◌, ◌∙◌, ◌/◌, ◌^◌, ◌<◌, ◌&&◌, ◌||◌, Bool, true, false, not, if◌then◌else◌, List, [], ◌∷◌, get_or, length, Option, Some, None}
use Rattle.std.proofs.Common.{Ok, Err, refl, sym, ap, arith}
use Rattle.std.specs.Prelude.{filter, fold, option_map}
use Rattle.std.specs.List.{list_any, range_with_len}
use Rattle.std.specs.Option.{option_map_or}
use Rattle.std.proofs.lemmas.List.Folds.{list_any_at}
use Rattle.std.proofs.lemmas.List.FromFn.{length-range_with_len, get_or-range_with_len}
use Rattle.std.proofs.lemmas.Bool.{and_parts}
use Rattle.model.specs.declared.capabilities.Cap.{Cap}
use Rattle.model.specs.declared.capabilities.Cap.TheVariants.{Empty, Untyped, Endpoint, Notification, CNode, Frame, PageTable, Tcb, RootTable, InterruptControl}
use Rattle.model.specs.declared.capabilities.Cap.TheVariants.{InterruptHandler}
use Rattle.model.specs.declared.errors.KError.TheVariants.{RevokeFirst}
use Rattle.model.specs.declared.slot_entries.Entry.{Entry}
use Rattle.model.specs.Capabilities.CapabilityKinds.{object_of}
use Rattle.model.specs.Kernel.Removal.{SlotSet, closes, closing, emptied, ends, ends_filled, frame_loses, is_set_back, is_slot_of, kept, kept_entry, new_parent}
use Rattle.model.specs.Kernel.Removal.{remove, table_loses, thread_places, wants_revoke_first, with_bindings, without_slots}
use Rattle.model.specs.Kernel.Scheduling.{wake}
use Rattle.model.specs.Capabilities.Slots.{Slots, capability_at, empty_entry, is_empty, is_full, parent_at}
use Rattle.model.specs.Kernel.State.{State, slot_numbers, slots_of}
use Rattle.model_laws.specs.Capabilities.{apart_from_mapping}

-- ---- tests over lists

any-less : (p q : ℕ → Bool) (ns : List ℕ) → ((n : ℕ) → p n ≡ true → q n ≡ true) → list_any q ns ≡ false → list_any p ns ≡ false
any-less p q [] more none = refl
any-less p q (n ∷ ns) more none =
    elim (p n) as (λ b. p n ≡ b → (b || list_any p ns) ≡ false) [
      | true ↦ λ passes. absurd (let clash : true ≡ false = sym (ap (λ b. b || list_any q ns) (more n passes)) ∙ none in cc)
      | false ↦ λ fails. any-less p q ns more (elim (q n) as (λ b. (b || list_any q ns) ≡ false → list_any q ns ≡ false) [
        | true ↦ λ h. absurd (let clash : true ≡ false = h in cc)
        | false ↦ λ h. h
      ] none)
    ] refl

-- a slot of the state that passes
some-slot : (s : State) (test : ℕ → Bool) (slot : ℕ) → slot < 2 ^ s.memory_bits / 16 → test slot ≡ true → list_any test (slots_of s) ≡ true
unfolding slot_numbers
some-slot s test slot less passes =
    let count : ℕ = 2 ^ s.memory_bits / 16 in
    let long : slot < length (range_with_len 0 count) = rw (length-range_with_len 0 count) less in
    let here : get_or (range_with_len 0 count) slot 0 ≡ slot = get_or-range_with_len 0 count slot 0 less ∙ omega arith in
    list_any_at test (range_with_len 0 count) slot 0 long (ap test here ∙ passes)

join : (a b : Bool) → a ≡ true → b ≡ true → (a && b) ≡ true
join a b one two = ap (λ x. x && b) one ∙ two

-- ---- what closes

closes-object : (s : State) (all : SlotSet) (slot offset : ℕ) → slot < 2 ^ s.memory_bits / 16 → is_full s.slots slot ≡ true → all slot ≡ false
    → (ends s all offset && is_slot_of s offset slot) ≡ true → ends_filled s all offset ≡ true
closes-object s all slot offset less full outside closing =
    let parts = and_parts (ends s all offset) (is_slot_of s offset slot) closing in
    join (ends s all offset) _ parts.0
    (some-slot s (λ other. is_slot_of s offset other && not (all other) && is_full s.slots other) slot less
    (join (is_slot_of s offset slot && not (all slot)) _ (join (is_slot_of s offset slot) (not (all slot)) parts.1 (ap not outside)) full))

closes-capability : (s : State) (all : SlotSet) (slot : ℕ) (o : Option ℕ) → slot < 2 ^ s.memory_bits / 16 → is_full s.slots slot ≡ true → all slot ≡ false
    → option_map_or (λ offset. ends s all offset && is_slot_of s offset slot) o false ≡ true → option_map_or (ends_filled s all) o false ≡ true
closes-capability s all slot (Some offset) less full outside closing = closes-object s all slot offset less full outside closing
closes-capability s all slot None less full outside closing = closing

-- a full slot outside the set stays open where nothing filled ends
stays-open : (s : State) (all : SlotSet) (slot : ℕ) → slot < 2 ^ s.memory_bits / 16 → is_full s.slots slot ≡ true → all slot ≡ false
    → wants_revoke_first s all ≡ false → closes s all slot ≡ false
stays-open s all slot less full outside empty =
    any-less _ _ (slots_of s) (λ other passes.
    let parts = and_parts (all other) _ passes in
    join (all other) _ parts.0 (closes-capability s all slot (object_of (capability_at s.slots other)) less full outside parts.1)) empty

-- ---- what stays

fold-wake_slots : (s : State) (threads : List ℕ) → (fold wake s threads).slots ≡ s.slots
fold-wake_slots s [] = refl
fold-wake_slots s (t ∷ threads) = fold-wake_slots (wake s t) threads

-- the slots of the state without a set
abbrev slots_without : State → SlotSet → Slots
slots_without s all = (closing (emptied s all) (closes s all)).slots

without-slots : (s : State) (all : SlotSet) → (without_slots s all).slots ≡ slots_without s all
without-slots s all = fold-wake_slots (closing (emptied s all) (closes s all)) (filter (is_set_back s all) (thread_places s))

slots-removed : (s t : State) (set : SlotSet) → remove s set ≡ Ok t
    → (wants_revoke_first s (with_bindings s set) ≡ false) × (t.slots ≡ slots_without s (with_bindings s set))
unfolding remove
slots-removed s t set done =
    let all : SlotSet = with_bindings s set in
    elim (wants_revoke_first s all) as (λ b. (if b then Err RevokeFirst else Ok (without_slots s all)) ≡ Ok t → (b ≡ false) × (t.slots ≡ slots_without s all)) [
      | true ↦ λ h. absurd (let clash : Err RevokeFirst ≡ Ok t = h in cc)
      | false ↦ λ h. (refl, let same : without_slots s all ≡ t = cc h in ap (λ x. x.slots) (sym same) ∙ without-slots s all)
    ] done

kept-open : (s : State) (all : SlotSet) (slot : ℕ) → closes s all slot ≡ false → all slot ≡ false
    → slots_without s all slot ≡ option_map (kept_entry s all slot) (s.slots slot)
kept-open s all slot open_ outside =
    ap (λ b. if b then None else if all slot then Some empty_entry else option_map (kept_entry s all slot) (s.slots slot)) open_
    ∙ ap (λ b. if b then Some empty_entry else option_map (kept_entry s all slot) (s.slots slot)) outside

kept-parts : (s : State) (all : SlotSet) (slot : ℕ) (held : Option Entry) → s.slots slot ≡ held → is_full s.slots slot ≡ true
    → (option_map_or (λ e. e.capability) (option_map (kept_entry s all slot) held) Empty ≡ kept s all slot (option_map_or (λ e. e.capability) held Empty))
    × (option_map_or (λ e. e.parent) (option_map (kept_entry s all slot) held) None ≡ new_parent s all slot)
kept-parts s all slot None is full =
    absurd (let clash : false ≡ true = sym (ap (λ h. not (is_empty (option_map_or (λ e. e.capability) h Empty))) is) ∙ full in cc)
kept-parts s all slot (Some held) is full = (refl, refl)

pub removal-keeps : (s t : State) (set : SlotSet) (slot : ℕ) → remove s set ≡ Ok t
    → slot < 2 ^ s.memory_bits / 16 → is_full s.slots slot ≡ true → with_bindings s set slot ≡ false
    → (capability_at t.slots slot ≡ kept s (with_bindings s set) slot (capability_at s.slots slot))
    × (parent_at t.slots slot ≡ new_parent s (with_bindings s set) slot)
removal-keeps s t set slot done less full outside =
    let all : SlotSet = with_bindings s set in
    let removed = slots-removed s t set done in
    let held : t.slots slot ≡ option_map (kept_entry s all slot) (s.slots slot) =
    ap (λ slots. slots slot) removed.1 ∙ kept-open s all slot (stays-open s all slot less full outside removed.0) outside in
    let parts = kept-parts s all slot (s.slots slot) refl full in
    (ap (λ h. option_map_or (λ e. e.capability) h Empty) held ∙ parts.0, ap (λ h. option_map_or (λ e. e.parent) h None) held ∙ parts.1)

-- ---- what a kept capability is

either_same : (b : Bool) (x y : Cap) (z : Cap) → apart_from_mapping x ≡ z → apart_from_mapping y ≡ z → apart_from_mapping (if b then x else y) ≡ z
either_same true x y z one other = one
either_same false x y z one other = other

pub kept-apart : (s : State) (set : SlotSet) (slot : ℕ) (capability : Cap) → apart_from_mapping (kept s set slot capability) ≡ apart_from_mapping capability
kept-apart s set slot Empty = refl
kept-apart s set slot (Untyped offset bits watermark) = refl
kept-apart s set slot (Endpoint offset r badge) = refl
kept-apart s set slot (Notification offset r badge) = refl
kept-apart s set slot (CNode offset radix guard) = refl
kept-apart s set slot (Frame offset r None) = refl
kept-apart s set slot (Frame offset r (Some mapping)) = either_same (frame_loses s set mapping) (Frame offset r None) (Frame offset r (Some mapping))
    (Frame offset r None) refl refl
kept-apart s set slot (PageTable offset None) = refl
kept-apart s set slot (PageTable offset (Some mapping)) = either_same (table_loses s set mapping) (PageTable offset None) (PageTable offset (Some mapping))
    (PageTable offset None) refl refl
kept-apart s set slot (Tcb offset) = refl
kept-apart s set slot (RootTable offset) = refl
kept-apart s set slot InterruptControl = refl
kept-apart s set slot (InterruptHandler irq_line) = refl
