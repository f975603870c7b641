-- Calls on handlers: an acknowledgement changes no slot, and nothing else is allowed.
use Rattle.std.proofs.Common.{ℕ, ◌≡◌, ◌∙◌, ◌==◌, ◌/◌, ◌^◌, ◌<◌, ◌&&◌, ◌||◌, inl, inr, Bool, true, false, not, nat_lt, if◌then◌else◌, Option, Some, None, Result}
use Rattle.std.proofs.Common.{Ok, Err, List, length, get_or, refl, sym, ap, subst, arith}
use Rattle.std.specs.Option.{option_map_or}
use Rattle.std.specs.List.{list_any, range_with_len}
use Rattle.std.proofs.lemmas.Bool.{ne_eqb}
use Rattle.std.proofs.lemmas.Bool.Decides.{nat_tests}
use Rattle.std.proofs.lemmas.List.Folds.{list_any_none}
use Rattle.std.proofs.lemmas.List.FromFn.{get_or-range_with_len, length-range_with_len}
use Rattle.model.specs.Acceptance.NotedKernel.{noted_kernel, noted_root, noted_slots, slot_of_key}
use Rattle.model.specs.Acceptance.NotedStates.{NotedSlot}
use Rattle.model.specs.Capabilities.CapabilityKinds.{is_handler_of, names_object, object_of}
use Rattle.model.specs.Capabilities.Slots.{Slots, capability_at, depth_of, inserted, is_empty, is_full, is_within}
use Rattle.model.specs.declared.slot_entries.Entry.{Entry}
use Rattle.model.specs.Images.Described.{described}
use Rattle.model.specs.Images.Image.{Image, Thread}
use Rattle.model.specs.Kernel.Arguments.{◌>>=◌, argument_slot, check}
use Rattle.model.specs.Kernel.InterruptCalls.{bind, may_be_bound}
use Rattle.model.specs.Kernel.Removal.{SlotSet, delete, ends, ends_filled, is_slot_of, remove, some_inside, some_outside, takes_last, wants_revoke_first}
use Rattle.model.specs.Kernel.Removal.{with_bindings, without_slots}
use Rattle.model.specs.Kernel.State.{State, binding_slot, slots_of, with_slots}
use Rattle.model.specs.declared.capabilities.Cap.{Cap}
use Rattle.model.specs.declared.capabilities.Cap.TheVariants.{Empty}
use Rattle.model.specs.declared.errors.KError.{KError}
use Rattle.model.specs.declared.errors.KError.TheVariants.{FailedLookup, IllegalOperation, InvalidCapability, RevokeFirst}
use Rattle.model.specs.declared.invocations.HandlerCall.TheVariants.{Acknowledge, Clear, SetNotification}
use Rattle.model.specs.declared.invocations.Invocation.TheVariants.{OnHandler}
use Rattle.model.specs.declared.invocations.SlotName.{SlotName}
use Rattle.model.specs.declared.refusals.Point.{Point}
use Rattle.model.specs.declared.refusals.Refusal.{Refusal}
use Rattle.model.specs.declared.refusals.Refusal.TheVariants.{CallRefused}
use Rattle.removal_laws.proofs.Laws.{found-at, found-none}
use Rattle.typestate.specs.Calls.{call_on}
use Rattle.typestate.specs.Invocations.{held_after}
use Rattle.typestate.specs.Spaces.{AreOwn, HeldInBoot, StandsApart}
use Rattle.typestate.proofs.Allowed.{chain, kernel-refuses}
use Rattle.typestate.proofs.Rising.{RiseFrom}
use Rattle.typestate.proofs.Standing.{come-back-from, noted-there}

few-lines : (k d : ℕ) → k < length (range_with_len 0 64) → get_or (range_with_len 0 64) k d < 64
few-lines k d less =
    let few : k < 64 = subst (λ n. k < n) (length-range_with_len 0 64) less in
    subst (λ n. n < 64) (sym (get_or-range_with_len 0 64 k d few)) (omega (arith, few))

and-none : (a : Bool) → (a && false) ≡ false
and-none true = refl
and-none false = refl

nowhere : (first slot : ℕ) → is_within first 0 slot ≡ false
nowhere first slot = grind (arith, nat_tests)

-- the slot that binds a line is emptied without an object's end
module _ (image : Image) (t : Thread) (stand : StandsApart image t) (slots : List NotedSlot) (line : ℕ) where
  abbrev all : Slots
  all = noted_slots image t slots

  abbrev s : State
  s = noted_kernel image t slots

  abbrev bound : ℕ
  bound = binding_slot s line

  abbrev alone : SlotSet
  alone other = other == bound

  abbrev set : SlotSet
  set = with_bindings s alone

  abbrev binds : ℕ → ℕ → Bool
  binds slot l = slot == binding_slot s l && takes_last s alone (is_handler_of l)

  -- no slot of the boot CNode goes
  boot-out : (slot : ℕ) → slot < 2 ^ image.header.boot_radix → set slot ≡ false
  unfolding noted_kernel described
  boot-out slot boot =
      ap (λ b. b || list_any (binds slot) (range_with_len 0 64)) (ne_eqb slot bound (λ same. absurd (omega (arith, same, boot))))
      ∙ list_any_none (binds slot) (range_with_len 0 64) (λ k d less.
      let l = get_or (range_with_len 0 64) k d in
      ap (λ b. b && takes_last s alone (is_handler_of l)) (ne_eqb slot (binding_slot s l) (λ same. absurd (omega (arith, same, boot)))))

  cap-there : (slot : ℕ) → slot < 2 ^ image.header.boot_radix → capability_at all slot ≡ capability_at (described image).slots slot
  cap-there slot boot = ap (λ (o : Option Entry). option_map_or (λ h. h.capability) o Empty)
      (noted-there image t stand slots slot (stand.behind slot (omega (arith, boot))))

  not-ends : (offset : ℕ) → HeldInBoot image (names_object offset) → ends s set offset ≡ false
  unfolding noted_kernel described
  not-ends offset e =
      let holds : names_object offset (capability_at all e.slot) ≡ true = ap (names_object offset) (cap-there e.slot e.boot) ∙ e.holds in
      let seen : some_outside s set (names_object offset) ≡ true =
      found-at image.header.memory_bits e.slot (λ slot. not (set slot) && names_object offset (capability_at all slot)) (omega (arith, e.boot, stand.room))
      (ap (λ b. not b && names_object offset (capability_at all e.slot)) (boot-out e.slot e.boot) ∙ holds) in
      ap (λ b. some_inside s set (names_object offset) && not b) seen ∙ and-none (some_inside s set (names_object offset))

  fills-none : (offset : ℕ) → ends_filled s set offset ≡ false
  unfolding noted_kernel described
  fills-none offset = elim (stand.objects offset) [
    | inl none ↦
        ap (λ b. ends s set offset && b) (found-none image.header.memory_bits (λ slot. is_slot_of s offset slot && not (set slot) && is_full s.slots slot)
        (λ slot. ap (λ b. b && not (set slot) && is_full s.slots slot) (ap (λ n. is_within (offset / 16) n slot) none ∙ nowhere (offset / 16) slot)))
        ∙ and-none (ends s set offset)
    | inr e ↦ ap (λ b. b && list_any (λ slot. is_slot_of s offset slot && not (set slot) && is_full s.slots slot) (slots_of s)) (not-ends offset e)
  ]

  wants-none : wants_revoke_first s set ≡ false
  unfolding noted_kernel described
  wants-none = found-none image.header.memory_bits (λ slot. set slot && option_map_or (ends_filled s set) (object_of (capability_at s.slots slot)) false)
      (λ slot. ap (λ b. set slot && b) (by-object (object_of (capability_at s.slots slot))) ∙ and-none (set slot))
    where
      by-object : (o : Option ℕ) → option_map_or (ends_filled s set) o false ≡ false
      by-object None = refl
      by-object (Some offset) = fills-none offset

  removes : remove s alone ≡ Ok (without_slots s set)
  unfolding remove
  removes = ap (λ b. if b then Err RevokeFirst else Ok (without_slots s set)) wants-none

  pub deletes : (after : State) × (delete s bound ≡ Ok after)
  deletes = elim (is_full s.slots bound) as (λ b. (after : State) × ((if b then remove s alone else Ok s) ≡ Ok after)) [
    | true ↦ (without_slots s set, removes)
    | false ↦ (s, refl)
  ]

-- ---- the rules

module _ (image : Image) (t : Thread) (at : Point) (slots : List NotedSlot) (held : NotedSlot) (stand : StandsApart image t) (line : ℕ) where
  abbrev kernel : State
  kernel = noted_kernel image t slots

  pub clear-never : held_after image t at slots held (OnHandler line Clear) ≡ Err (CallRefused at IllegalOperation)
  clear-never = let after = deletes image t stand slots line in ap (chain image t at false false) after.1

  pub acknowledge-goes : AreOwn image t slots → RiseFrom 0 slots → held_after image t at slots held (OnHandler line Acknowledge) ≡ Ok slots
  unfolding noted_kernel described
  acknowledge-goes are rises = ap (λ (l : List NotedSlot). let r : Result (List NotedSlot) Refusal = Ok l in r) (come-back-from image t stand slots rises are)

  abbrev bound_behind : Result ℕ KError → Result State KError
  bound_behind named = (named >>= λ slot. check (is_full kernel.slots slot) FailedLookup >>= λ _. Ok slot) >>= λ source.
      check (may_be_bound (capability_at kernel.slots source)) InvalidCapability >>= λ _.
      check (nat_lt (depth_of kernel.slots source) 255) IllegalOperation >>= λ _.
      delete kernel (binding_slot kernel line) >>= λ after.
      Ok (with_slots after (inserted after.slots (binding_slot kernel line) (capability_at kernel.slots source) (Some source)))

  abbrev named_by : SlotName → Result ℕ KError
  named_by name = argument_slot (noted_slots image t slots) (noted_root image t) name

  bind-is : (name : SlotName) (named : Result ℕ KError) → named_by name ≡ named →
      bind kernel (call_on image t (slot_of_key image held.key) held.capability) line name ≡ bound_behind named
  unfolding noted_kernel
  bind-is name named is = ap bound_behind is

  pub bind-refused : (name : SlotName) (error : KError) → named_by name ≡ Err error →
      held_after image t at slots held (OnHandler line (SetNotification name)) ≡ Err (CallRefused at error)
  bind-refused name error is = kernel-refuses image t at false false _ error (bind-is name (Err error) is)

  module _ (name : SlotName) (source : ℕ) (is : named_by name ≡ Ok source) (c : Cap) (holds : capability_at (noted_slots image t slots) source ≡ c) where
    held-is : capability_at kernel.slots source ≡ c
    unfolding noted_kernel
    held-is = holds

    behind : (full : Bool) (bindable : Bool) → not (is_empty c) ≡ full → may_be_bound c ≡ bindable → bound_behind (Ok source)
        ≡ ((check full FailedLookup >>= λ _. Ok source) >>= λ source. check bindable InvalidCapability >>= λ _.
        check (nat_lt (depth_of kernel.slots source) 255) IllegalOperation >>= λ _.
        delete kernel (binding_slot kernel line) >>= λ after.
        Ok (with_slots after (inserted after.slots (binding_slot kernel line) (capability_at kernel.slots source) (Some source))))
    behind full bindable f b =
        let rest : ℕ → Result State KError = λ source. check (nat_lt (depth_of kernel.slots source) 255) IllegalOperation >>= λ _.
        delete kernel (binding_slot kernel line) >>= λ after.
        Ok (with_slots after (inserted after.slots (binding_slot kernel line) (capability_at kernel.slots source) (Some source))) in
        let asked : Bool → Result ℕ KError = λ x. check x FailedLookup >>= λ _. Ok source in
        ap (λ (x : Bool). asked x >>= λ source. check (may_be_bound (capability_at kernel.slots source)) InvalidCapability >>= λ _. rest source)
        (ap (λ (x : Cap). not (is_empty x)) held-is ∙ f)
        ∙ elim full as (λ x. (asked x >>= λ source. check (may_be_bound (capability_at kernel.slots source)) InvalidCapability >>= λ _. rest source)
        ≡ (asked x >>= λ source. check bindable InvalidCapability >>= λ _. rest source)) [
          | true ↦ ap (λ (x : Bool). check x InvalidCapability >>= λ _. rest source) (ap may_be_bound held-is ∙ b)
          | false ↦ refl
        ]

    pub bind-vacant : is_empty c ≡ true → held_after image t at slots held (OnHandler line (SetNotification name)) ≡ Err (CallRefused at FailedLookup)
    bind-vacant empty = kernel-refuses image t at false false _ FailedLookup (bind-is name (Ok source) is ∙ behind false (may_be_bound c) (ap not empty) refl)

    pub bind-unbound : is_empty c ≡ false → may_be_bound c ≡ false →
        held_after image t at slots held (OnHandler line (SetNotification name)) ≡ Err (CallRefused at InvalidCapability)
    bind-unbound full other = kernel-refuses image t at false false _ InvalidCapability (bind-is name (Ok source) is ∙ behind true false (ap not full) other)

    pub bind-never : is_empty c ≡ false → may_be_bound c ≡ true →
        held_after image t at slots held (OnHandler line (SetNotification name)) ≡ Err (CallRefused at IllegalOperation)
    bind-never full bindable =
        let after = deletes image t stand slots line in
        let put : State → Result State KError = λ after.
        Ok (with_slots after (inserted after.slots (binding_slot kernel line) (capability_at kernel.slots source) (Some source))) in
        ap (chain image t at false false) (bind-is name (Ok source) is ∙ behind true true (ap not full) bindable)
        ∙ (elim (nat_lt (depth_of kernel.slots source) 255)
        as (λ x. chain image t at false false (check x IllegalOperation >>= λ _. delete kernel (binding_slot kernel line) >>= put) ≡ Err
        (CallRefused at IllegalOperation)) [
          | true ↦ ap (λ (r : Result State KError). chain image t at false false (r >>= put)) after.1
          | false ↦ refl
        ])
