-- A step that makes an endpoint in untyped memory of the thread's own stays within authority.
use Rattle.std.proofs.Common.{ℕ, ◌≡◌, ◌≢◌, ◌==◌, ◌+◌, ◌-◌, ◌*◌, ◌/◌, ◌^◌, ◌<◌, ◌&&◌, ◌||◌, Bool, true, false, nat_le, nat_lt, is_some, if◌then◌else◌, Option}
use Rattle.std.proofs.Common.{Some}
use Rattle.std.proofs.Common.{None, Result, Ok, Err, option_map, List, [], get_or, length, not, refl, sym, ◌∙◌, ap, subst, inl, inr, arith}
use Rattle.std.specs.List.{range_with_len}
use Rattle.std.specs.Option.{option_map_or}
use Rattle.std.proofs.lemmas.Bool.{and_parts, eq-eqb, ne_eqb}
use Rattle.std.proofs.lemmas.List.Folds.{list_any_at}
use Rattle.std.proofs.lemmas.List.FromFn.{length-range_with_len, get_or-range_with_len}
use Rattle.std.proofs.lemmas.Bool.Decides.{eqb_tells}
use Rattle.model.specs.declared.capabilities.Cap.{Cap}
use Rattle.model.specs.declared.capabilities.Cap.TheVariants.{Empty, Endpoint, Untyped}
use Rattle.model.specs.declared.errors.KError.{KError}
use Rattle.model.specs.declared.errors.KError.TheVariants.{DeleteFirst, IllegalOperation, InvalidArgument, NotEnoughMemory, RangeError, TruncatedMessage}
use Rattle.model.specs.declared.invocations.Invocation.{Invocation}
use Rattle.model.specs.declared.invocations.Invocation.TheVariants.{OnUntyped}
use Rattle.model.specs.declared.invocations.RetypeCall.{RetypeCall}
use Rattle.model.specs.declared.invocations.UntypedMemory.{UntypedMemory}
use Rattle.model.specs.declared.slot_entries.Entry.{Entry}
use Rattle.model.specs.Acceptance.Authority.{Granted, appeared, IsOwnSlot, NewParent, own, ObjectChange, appears, RightChange, kept, SliceChange, same_slice}
use Rattle.model.specs.Acceptance.Authority.{UsedChange, uses}
use Rattle.model.specs.Acceptance.Authority.{WithinAuthority, self_of, without_use}
use Rattle.model.specs.Capabilities.CapabilityKinds.{frame_mapping, table_mapping}
use Rattle.model.specs.Capabilities.Rights.{endpoint_rights}
use Rattle.model.specs.Capabilities.Placement.{placement}
use Rattle.model.specs.Capabilities.Slots.{Slots, capability_at, empty_entry, is_empty, is_full, is_within, parent_at, recapped}
use Rattle.model.specs.Images.Image.{Image, Thread}
use Rattle.model.specs.Kernel.Arguments.{Call, may_have_child, wanted}
use Rattle.model.specs.Kernel.CallForms.{CallForm, decode, form_called, lists, retype_label, slot_name, untyped_form, word}
use Rattle.model.specs.Kernel.Invocations.{invoke, perform}
use Rattle.model.specs.Kernel.Kinds.{kind_at, kind_of}
use Rattle.model.specs.Kernel.Messages.{Message, a1, extra_capabilities_of, message_of, passes}
use Rattle.model.specs.Kernel.Removal.{slot_count}
use Rattle.model.specs.Kernel.Retype.{NewEndpoint, NewObjects, any_full, first_capability, is_large_enough, is_small_enough, node, object, object_bits}
use Rattle.model.specs.Kernel.Retype.{place_of_new, retype, some_new, type_of, with_new}
use Rattle.model.specs.Kernel.Scheduling.{is_runnable}
use Rattle.model.specs.Kernel.State.{State, Object, ThreadObject, EndpointObject, NotificationObject, ThreadState, as_thread, new_endpoint, new_thread}
use Rattle.model.specs.Kernel.State.{slot_of, thread_at, with_slots}
use Rattle.model.specs.Kernel.Steps.{after_invocation, cspace_of, invokes, registers_of, system_call}
use Rattle.model.specs.declared.system_calls.SendCall.TheVariants.{Sending}
use Rattle.model.specs.Machine.Effects.{advanced}
use Rattle.model.specs.Machine.ProgramMemory.{read}
use Rattle.model.specs.Shared.Lists.{without}
use Rattle.headline.proofs.authority.PlainSteps.{append-none, between, one-used}
use Rattle.headline.proofs.authority.Awaited.{sends-by}
use Rattle.headline.proofs.authority.FurtherUsed.{used-further}
use Rattle.headline.proofs.authority.Stored.{capability_of, got, parent_of, passed}
use Rattle.headline.specs.authority.Scenarios.{CallsOn, MakesEndpoint, with_endpoint_made}

none-within : (first x : ℕ) → is_within first 0 x ≡ false
none-within first x = elim (nat_le first x) as (λ (b : Bool). nat_le first x ≡ b → (b && nat_lt x (first + 0)) ≡ false) [
  | true ↦ λ is. grind arith
  | false ↦ λ is. refl
] refl

one-within : (window x : ℕ) → x ≡ window → is_within window 1 x ≡ true
one-within window x here = grind arith

not-within : (window x : ℕ) → x ≢ window → is_within window 1 x ≡ false
not-within window x differs = grind arith

-- ---- how much a Retype uses

-- a full slot is in no window that is empty
pub outside-window : (slots : Slots) (first count slot : ℕ) → any_full slots first count ≡ false → is_full slots slot ≡ true →
    is_within first count slot ≡ false
outside-window slots first count slot none full = elim (is_within first count slot) as (λ b. is_within first count slot ≡ b → b ≡ false) [
  | true ↦ λ inside.
      let parts = and_parts (nat_le first slot) (nat_lt slot (first + count)) inside in
      let one = parts.0 in
      let two = parts.1 in
      let less : slot - first < count = grind (arith, one, two) in
      let long : slot - first < length (range_with_len first count) = rw (length-range_with_len first count) less in
      let place : first + (slot - first) ≡ slot = grind (arith, one) in
      let here : get_or (range_with_len first count) (slot - first) 0 ≡ slot = get_or-range_with_len first count (slot - first) 0 less ∙ place in
      let found = list_any_at (is_full slots) (range_with_len first count) (slot - first) 0 long (ap (is_full slots) here ∙ full) in
      absurd (let clash : true ≡ false = sym found ∙ none in cc)
  | false ↦ λ _. refl
] refl

wanted-is : {A : Type 0} (o : Option A) (error : KError) (x : A) → wanted o error ≡ Ok x → o ≡ Some x
wanted-is (Some a) error x is = let e : a ≡ x = cc in ap (λ b. Some b) e
wanted-is None error x is = let e : Err error ≡ Ok x = is in absurd cc

doubly : (b : Bool) → not b ≡ true → b ≡ false
doubly true is = let e : false ≡ true = is in absurd cc
doubly false is = refl

-- what a Retype leaves in the slot of the untyped memory
used-slot : (s : State) (new : NewObjects) (window slot : ℕ) (used : Cap) → is_within window new.count slot ≡ false
    → (offset bits watermark : ℕ)
    → capability_at (with_new (with_slots s (recapped s.slots slot used)) new window slot).slots slot ≡ Untyped offset bits watermark
    → used ≡ Untyped offset bits watermark
used-slot s new window slot used outside offset bits watermark is =
    let inner : Bool = some_new new (λ at. is_within (slot_of at 0) (slot_count (object new.kind)) slot) in
    let entry : Entry = record { capability = used; parent = parent_at s.slots slot } in
    let first_entry : Entry = record { capability = first_capability new.kind (place_of_new new (slot - window)); parent = Some slot } in
    let here : capability_at (with_new (with_slots s (recapped s.slots slot used)) new window slot).slots slot ≡ (if inner then Empty else used) =
    ap (λ (b : Bool). capability_of (if b then Some first_entry else if inner then Some empty_entry else
    if slot == slot then Some entry else s.slots slot)) outside
    ∙ ap (λ (b : Bool). capability_of (if inner then Some empty_entry else if b then Some entry else s.slots slot)) (eq-eqb slot slot refl)
    ∙ elim inner as (λ (b : Bool). capability_of (if b then Some empty_entry else Some entry) ≡ (if b then Empty else used)) [ true ↦ refl | false ↦ refl ] in
    elim inner as (λ (b : Bool). (if b then Empty else used) ≡ Untyped offset bits watermark → used ≡ Untyped offset bits watermark) [
      | true ↦ λ e. absurd (let clash : Empty ≡ Untyped offset bits watermark = e in cc)
      | false ↦ λ e. e
    ] (sym here ∙ is)

-- a call on untyped memory is a Retype
asks-retype : (offset bits watermark label extra : ℕ) (words : List ℕ) (c : Invocation) → decode (Untyped offset bits watermark) label extra words ≡ Ok c
    → (r : RetypeCall) × (c ≡ OnUntyped (record { offset = offset; bits = bits; watermark = watermark }) r)
unfolding decode
asks-retype offset bits watermark label extra words c asked =
    let memory : UntypedMemory = record { offset = offset; bits = bits; watermark = watermark } in
    let one = got (form_called (Untyped offset bits watermark) label extra (length words)) (λ found. Ok (found.call words)) c asked in
    let two = passed (extra == 0) TruncatedMessage _ one.0 one.1 in
    let three = got (wanted (untyped_form memory label) IllegalOperation) _ one.0 two.1 in
    let four = passed (nat_le three.0.count (length words)) TruncatedMessage _ one.0 three.2 in
    let form : three.0 ≡ one.0 = let e : Ok three.0 ≡ Ok one.0 = four.1 in cc in
    let named = wanted-is (untyped_form memory label) IllegalOperation three.0 three.1 in
    let retyped : RetypeCall = record {
      kind = word words 0;
      size = word words 1;
      node = slot_name words 2;
      index = word words 4;
      count = word words 5;
    } in
    let called : three.0.call words ≡ OnUntyped memory retyped = elim (label == retype_label) as (λ (b : Bool).
    (if b then lists 6 (λ ws. OnUntyped memory (record {
      kind = word ws 0;
      size = word ws 1;
      node = slot_name ws 2;
      index = word ws 4;
      count = word ws 5;
    })) else None) ≡ Some three.0 → three.0.call words ≡ OnUntyped memory retyped) [
      | true ↦ λ h. sym (ap (λ (o : Option CallForm). option_map_or (λ (f : CallForm). f.call words) o (three.0.call words)) h)
      | false ↦ λ h. absurd (let clash : None ≡ Some three.0 = h in cc)
    ] named in
    let same : one.0.call words ≡ c = let e : Ok (one.0.call words) ≡ Ok c = one.2 in cc in
    (retyped, sym same ∙ ap (λ (f : CallForm). f.call words) (sym form) ∙ called)

retype-uses : (s : State) (root : Cap) (slot : ℕ) (memory : UntypedMemory) (c : RetypeCall) (after : State) (offset bits used : ℕ)
    → retype s root slot memory c ≡ Ok after → is_full s.slots slot ≡ true → capability_at after.slots slot ≡ Untyped offset bits used → memory.watermark < used
unfolding retype
retype-uses s root slot memory c after offset bits used done full now =
    let one = got (wanted (type_of c.kind c.size) InvalidArgument) _ after done in
    let two = passed (is_large_enough one.0) InvalidArgument _ after one.2 in
    let three = passed (is_small_enough one.0) RangeError _ after two.1 in
    let four = got (node s.slots root c.node) _ after three.1 in
    let five = passed (nat_le 1 c.count && nat_le c.count 256 && nat_le (c.index + c.count) (2 ^ four.0.radix)) RangeError _ after four.2 in
    let window : ℕ = slot_of four.0.offset c.index in
    let six = passed (not (any_full s.slots window c.count)) DeleteFirst _ after five.1 in
    let seven = got (may_have_child s.slots slot) _ after six.1 in
    let eight = got (wanted (placement memory.bits memory.watermark (object_bits one.0) c.count) NotEnoughMemory) _ after seven.2 in
    let new : NewObjects = record { kind = one.0; first = memory.offset + eight.0.0; count = c.count } in
    let outside = outside-window s.slots window c.count slot (doubly (any_full s.slots window c.count) six.0) full in
    let made : State = with_new (with_slots s (recapped s.slots slot (Untyped memory.offset memory.bits eight.0.1))) new window slot in
    let same : made ≡ after = let e : Ok made ≡ Ok after = eight.2 in cc in
    let is = used-slot s new window slot (Untyped memory.offset memory.bits eight.0.1) outside offset bits used
    (ap (λ (x : State). capability_at x.slots slot) same ∙ now) in
    let mark : eight.0.1 ≡ used = cc in
    let some = and_parts (nat_le 1 c.count) (nat_le c.count 256) (and_parts (nat_le 1 c.count && nat_le c.count 256) _ five.0).0 in
    let at_least = some.0 in
    let further = used-further memory.bits memory.watermark (object_bits one.0) c.count eight.0.0 eight.0.1
    (wanted-is (placement memory.bits memory.watermark (object_bits one.0) c.count) NotEnoughMemory eight.0 eight.1) (grind (arith, at_least)) in
    subst (λ (n : ℕ). memory.watermark < n) mark further

module _ (image : Image) (t : Thread) (s : State) (offset bits watermark used first window : ℕ) (call : CallsOn image t s 3 (Untyped offset bits watermark))
    (another : call.own.caller ≢ Some (self_of image t)) (fresh : call.own.caller ≢ Some first)
    (makes : MakesEndpoint image t s call.slot offset bits used first window) where
  abbrev self : ℕ
  self = self_of image t

  made : State
  made = with_endpoint_made s call.slot offset bits used first window

  after : State
  after = passes made self

  last : ThreadState
  last = record (thread_at made self) { registers = advanced (thread_at made self).registers }

  -- ---- objects

  made-object : (o : ℕ) → made.objects o ≡ (if (first + 0 * 2 ^ 4 == o) || false then Some (EndpointObject new_endpoint) else s.objects o)
  unfolding made
  made-object o = refl

  made-here : (o : ℕ) → o ≡ first → made.objects o ≡ Some (EndpointObject new_endpoint)
  made-here o here =
      made-object o
      ∙ ap (λ (b : Bool). if b || false then Some (EndpointObject new_endpoint) else s.objects o) (eq-eqb (first + 0 * 2 ^ 4) o (omega (arith, here)))

  made-away : (o : ℕ) → o ≢ first → made.objects o ≡ s.objects o
  made-away o differs =
      made-object o
      ∙ ap (λ (b : Bool). if b || false then Some (EndpointObject new_endpoint) else s.objects o)
      (ne_eqb (first + 0 * 2 ^ 4) o (λ same. differs (omega (arith, same))))

  at-self : after.objects self ≡ Some (ThreadObject last)
  unfolding last after
  at-self = ap (λ (b : Bool). if b then Some (ThreadObject last) else made.objects self) (eq-eqb self self refl)

  elsewhere : (o : ℕ) → o ≢ self → after.objects o ≡ made.objects o
  unfolding last after
  elsewhere o differs = ap (λ (b : Bool). if b then Some (ThreadObject last) else made.objects o) (ne_eqb o self differs)

  not_new : self ≢ first
  not_new same =
      let e : Some (ThreadObject call.own) ≡ None = sym call.is ∙ ap s.objects same ∙ makes.unused in cc

  appears-here : ObjectChange image t s after first
  appears-here =
      let new : after.objects first ≡ Some (EndpointObject new_endpoint) = elsewhere first (λ e. not_new (sym e)) ∙ made-here first refl in
      appears NewEndpoint makes.unused new
      (record {
        slot = call.slot;
        own = call.among;
        such =
            record { offset = offset; bits = bits; watermark = watermark; is = call.holds; begins = makes.begins; ends = makes.ends };
      })

  kind-away : (o : ℕ) → o ≢ first → kind_at s o ≡ kind_at after o
  kind-away o differs = elim (eqb_tells o self) [
    | inl here ↦
        ap (kind_at s) here.1 ∙ ap (option_map kind_of) call.is ∙ sym (ap (kind_at after) here.1 ∙ ap (option_map kind_of) at-self)
    | inr apart ↦ ap (option_map kind_of) (sym (elsewhere o apart.1 ∙ made-away o differs))
  ]

  new-granted : Granted image t s after (Endpoint first endpoint_rights 0)
  new-granted =
      let new : after.objects first ≡ Some (EndpointObject new_endpoint) = elsewhere first (λ e. not_new (sym e)) ∙ made-here first refl in
      appeared (Endpoint first endpoint_rights 0) NewEndpoint first refl makes.unused (ap (option_map kind_of) new)
      (record {
        slot = call.slot;
        own = call.among;
        such =
            record { offset = offset; bits = bits; watermark = watermark; is = call.holds; begins = makes.begins; ends = makes.ends };
      })

  -- ---- slots

  abbrev new_entry : ℕ → Entry
  new_entry x = record { capability = Endpoint (first + (x - window) * 2 ^ 4) endpoint_rights 0; parent = Some call.slot }

  abbrev used_entry : Entry
  used_entry = record { capability = Untyped offset bits used; parent = parent_at s.slots call.slot }

  slots-are : (x : ℕ) → after.slots x ≡ (if is_within window 1 x then Some (new_entry x)
      else if is_within ((first + 0 * 2 ^ 4) / 16 + 0) 0 x || false then Some empty_entry else if x == call.slot then Some used_entry else s.slots x)
  unfolding made after
  slots-are x = refl

  without-new : (x : ℕ) → is_within window 1 x ≡ false → after.slots x ≡ (if x == call.slot then Some used_entry else s.slots x)
  without-new x outside =
      slots-are x
      ∙ ap (λ (b : Bool). if b then Some (new_entry x) else if is_within ((first + 0 * 2 ^ 4) / 16 + 0) 0 x || false then Some empty_entry else
      if x == call.slot then Some used_entry else s.slots x) outside
      ∙ ap (λ (b : Bool). if b || false then Some empty_entry else if x == call.slot then Some used_entry else s.slots x)
      (none-within ((first + 0 * 2 ^ 4) / 16 + 0) x)

  slot-window : (x : ℕ) → x ≡ window → after.slots x ≡ Some (record { capability = Endpoint first endpoint_rights 0; parent = Some call.slot })
  slot-window x here =
      let within : is_within window 1 x ≡ true = one-within window x here in
      let place : first + (x - window) * 2 ^ 4 ≡ first = omega (arith, here) in
      slots-are x
      ∙ ap (λ (b : Bool). if b then Some (new_entry x) else if is_within ((first + 0 * 2 ^ 4) / 16 + 0) 0 x || false then Some empty_entry else
      if x == call.slot then Some used_entry else s.slots x) within
      ∙ ap (λ (n : ℕ). Some (record { capability = Endpoint n endpoint_rights 0; parent = Some call.slot })) place

  slot-used : (x : ℕ) → x ≢ window → x ≡ call.slot → after.slots x ≡ Some used_entry
  slot-used x differs here = without-new x (not-within window x differs) ∙ ap (λ (b : Bool). if b then Some used_entry else s.slots x) (eq-eqb x call.slot here)

  slot-away : (x : ℕ) → x ≢ window → x ≢ call.slot → after.slots x ≡ s.slots x
  slot-away x differs apart = without-new x (not-within window x differs)
      ∙ ap (λ (b : Bool). if b then Some used_entry else s.slots x) (ne_eqb x call.slot apart)

  -- a slot, by what a clause on slots says of it
  slot-cases : (P : ℕ → Type 0) → P window → (call.slot ≢ window → P call.slot) → ((x : ℕ) → x ≢ window → x ≢ call.slot → P x) → (x : ℕ) → P x
  slot-cases P new old rest x = elim (eqb_tells x window) [
    | inl here ↦ subst P (sym here.1) new
    | inr differs ↦ elim (eqb_tells x call.slot) [
      | inl same ↦ subst P (sym same.1) (old (λ e. differs.1 (same.1 ∙ e)))
      | inr apart ↦ rest x differs.1 apart.1
    ]
  ]

  new-capability : capability_at after.slots window ≡ Endpoint first endpoint_rights 0
  new-capability = ap capability_of (slot-window window refl)

  used-capability : call.slot ≢ window → capability_at after.slots call.slot ≡ Untyped offset bits used
  used-capability differs = ap capability_of (slot-used call.slot differs refl)

  away-capability : (x : ℕ) → x ≢ window → x ≢ call.slot → capability_at after.slots x ≡ capability_at s.slots x
  away-capability x differs apart = ap capability_of (slot-away x differs apart)

  no-frame : (x : ℕ) → frame_mapping (capability_at s.slots x) ≡ frame_mapping (capability_at after.slots x)
  no-frame = slot-cases (λ x. frame_mapping (capability_at s.slots x) ≡ frame_mapping (capability_at after.slots x))
      (ap frame_mapping makes.empty ∙ sym (ap frame_mapping new-capability))
      (λ differs. ap frame_mapping call.holds ∙ sym (ap frame_mapping (used-capability differs)))
      (λ x differs apart. ap frame_mapping (sym (away-capability x differs apart)))

  no-table : (x : ℕ) → table_mapping (capability_at s.slots x) ≡ table_mapping (capability_at after.slots x)
  no-table = slot-cases (λ x. table_mapping (capability_at s.slots x) ≡ table_mapping (capability_at after.slots x))
      (ap table_mapping makes.empty ∙ sym (ap table_mapping new-capability))
      (λ differs. ap table_mapping call.holds ∙ sym (ap table_mapping (used-capability differs)))
      (λ x differs apart. ap table_mapping (sym (away-capability x differs apart)))

  own-slots : (x : ℕ) → s.slots x ≢ after.slots x → IsOwnSlot image t x
  own-slots = slot-cases (λ x. s.slots x ≢ after.slots x → IsOwnSlot image t x) (λ differs. makes.own) (λ _ differs. call.among)
      (λ x differs apart other. absurd (other (sym (slot-away x differs apart))))

  granted : (x : ℕ) → without_use (capability_at s.slots x) ≢ without_use (capability_at after.slots x) → capability_at after.slots x ≢ Empty
      → Granted image t s after (capability_at after.slots x)
  granted = slot-cases (λ x. without_use (capability_at s.slots x) ≢ without_use (capability_at after.slots x) → capability_at after.slots x ≢ Empty →
      Granted image t s after (capability_at after.slots x))
      (λ differs some. subst (λ (c : Cap). Granted image t s after c) (sym new-capability) new-granted)
      (λ apart differs some. absurd (differs (ap without_use call.holds ∙ sym (ap without_use (used-capability apart)))))
      (λ x outside apart differs some. absurd (differs (ap without_use (sym (away-capability x outside apart)))))

  -- apart from its registers the thread stays
  stays : (A : Type 0) (part : ThreadState → A) → part (thread_at made self) ≡ part call.own
  stays A part = ap (λ (o : Option Object). part (option_map_or (λ (u : ThreadState). u) (as_thread o) new_thread)) (made-away self not_new ∙ call.is)

  own-right : RightChange image t s after call.own.caller last.caller
  unfolding last
  own-right = kept (stays (Option ℕ) (λ u. u.caller)) (λ caller right.
      elsewhere caller (λ same. another (right ∙ ap (λ (n : ℕ). Some n) same)) ∙ made-away caller (λ same. fresh (right ∙ ap (λ (n : ℕ). Some n) same)))

  own-priority : last.priority ≡ call.own.priority
  unfolding last
  own-priority = stays ℕ (λ u. u.priority)

  own-slice : SliceChange s after self call.own last
  unfolding last
  own-slice = same_slice (stays ℕ (λ u. u.slice))

  own-fault_address : last.fault_address ≡ call.own.fault_address
  unfolding last
  own-fault_address = stays ℕ (λ u. u.fault_address)

  -- the new capability hangs below the untyped memory, and nothing else hangs elsewhere
  new-parents : (x : ℕ) → parent_at s.slots x ≢ parent_at after.slots x → NewParent image t s after x (parent_at after.slots x)
  new-parents = slot-cases (λ x. parent_at s.slots x ≢ parent_at after.slots x → NewParent image t s after x (parent_at after.slots x))
      (λ differs. own call.slot call.among (ap parent_of (slot-window window refl)))
      (λ apart differs. absurd (differs (sym (ap parent_of (slot-used call.slot apart refl)))))
      (λ x outside apart differs. absurd (differs (sym (ap parent_of (slot-away x outside apart)))))

  -- the call is a Retype of that memory, and uses more of it
  rises : watermark < used
  unfolding invoke decode made after
  rises =
      let message : Message = message_of (thread_at s self) in
      let extra : ℕ = extra_capabilities_of (read (registers_of s self) a1) in
      let memory : UntypedMemory = record { offset = offset; bits = bits; watermark = watermark } in
      let invocation : Call = record { root = cspace_of s self; caller = Some self; slot = call.slot; capability = capability_at s.slots call.slot } in
      let one = got (decode (capability_at s.slots call.slot) message.label extra message.words) (perform s invocation) made makes.made in
      let wanted_call = asks-retype offset bits watermark message.label extra message.words one.0
      (sym (ap (λ (c : Cap). decode c message.label extra message.words) call.holds) ∙ one.1) in
      let done : retype s invocation.root call.slot memory wanted_call.0 ≡ Ok made =
      sym (ap (perform s invocation) wanted_call.1) ∙ one.2 in
      let full : is_full s.slots call.slot ≡ true = ap (λ (c : Cap). not (is_empty c)) call.holds in
      let apart : call.slot ≢ window = λ same.
      let e : Untyped offset bits watermark ≡ Empty = sym call.holds ∙ ap (capability_at s.slots) same ∙ makes.empty in cc in
      retype-uses s invocation.root call.slot memory wanted_call.0 made offset bits used done full (used-capability apart)

  -- more of the untyped memory is used
  new-use : (x o b old new : ℕ) → capability_at s.slots x ≡ Untyped o b old → capability_at after.slots x ≡ Untyped o b new → old ≢ new →
      UsedChange image t s after x old new
  new-use = slot-cases (λ x. (o b old new : ℕ) → capability_at s.slots x ≡ Untyped o b old → capability_at after.slots x ≡ Untyped o b new → old ≢ new →
      UsedChange image t s after x old new)
      (λ o b old new before behind differs. let e : Empty ≡ Untyped o b old = sym makes.empty ∙ before in absurd cc)
      (λ apart o b old new before behind differs.
      let e : Untyped offset bits watermark ≡ Untyped o b old = sym call.holds ∙ before in
      let was : watermark ≡ old = cc in
      let f : Untyped offset bits used ≡ Untyped o b new = sym (used-capability apart) ∙ behind in
      let is : used ≡ new = cc in
      uses call.named (subst (λ (n : ℕ). n < new) was (subst (λ (n : ℕ). watermark < n) is rises)))
      (λ x outside apart o b old new before behind differs.
      absurd (one-used (capability_at s.slots x) o b old new before (sym (away-capability x outside apart) ∙ behind) differs))

  made-within : WithinAuthority image t s after
  unfolding made after
  made-within = record {
    memory_bits = refl;
    boot_radix = refl;
    bytes = λ place differs. absurd (differs refl);
    objects = λ offset differs. elim (eqb_tells offset first) [
      | inl here ↦ subst (λ (o : ℕ). ObjectChange image t s after o) (sym here.1) appears-here
      | inr apart ↦ absurd (differs (kind-away offset apart.1))
    ];
    slots = own-slots;
    frame_mappings = λ slot mapping differs either. absurd (differs (no-frame slot));
    table_mappings = λ slot mapping differs either. absurd (differs (no-table slot));
    mapped = λ slot mapping fresh there. absurd (fresh (no-frame slot ∙ there));
    capabilities = granted;
    endpoints = λ offset old new before behind differs.
        let apart : offset ≢ self = λ same. let e : Some (EndpointObject old) ≡ Some (ThreadObject call.own) = sym before ∙ ap s.objects same ∙ call.is in
        let f : EndpointObject old ≡ ThreadObject call.own = cc in cc in
        let there : offset ≢ first = λ same. let e : Some (EndpointObject old) ≡ None = sym before ∙ ap s.objects same ∙ makes.unused in cc in
        let e : Some (EndpointObject new) ≡ Some (EndpointObject old) = sym behind ∙ elsewhere offset apart ∙ made-away offset there ∙ before in
        let f : old ≡ new = cc in absurd (differs f);
    notifications = λ offset old new before behind differs.
        let apart : offset ≢ self = λ same. let e : Some (NotificationObject old) ≡ Some (ThreadObject call.own) = sym before ∙ ap s.objects same ∙ call.is in
        let f : NotificationObject old ≡ ThreadObject call.own = cc in cc in
        let there : offset ≢ first = λ same. let e : Some (NotificationObject old) ≡ None = sym before ∙ ap s.objects same ∙ makes.unused in cc in
        let e : Some (NotificationObject new) ≡ Some (NotificationObject old) = sym behind ∙ elsewhere offset apart ∙ made-away offset there ∙ before in
        let f : old ≡ new = cc in absurd (differs f);
    parents = new-parents;
    used = new-use;
    priority = between (λ old new. new.priority ≡ old.priority) (s.objects self) (after.objects self) call.own last call.is at-self own-priority;
    slice = between (SliceChange s after self) (s.objects self) (after.objects self) call.own last call.is at-self own-slice;
    fault_address =
        between (λ old new. new.fault_address ≡ old.fault_address) (s.objects self) (after.objects self) call.own last call.is at-self own-fault_address;
    right =
        between (λ old new. RightChange image t s after old.caller new.caller) (s.objects self) (after.objects self) call.own last call.is at-self own-right;
    threads = λ other old new apart before behind differs.
        let there : other ≢ first = λ same. let e : Some (ThreadObject old) ≡ None = sym before ∙ ap s.objects same ∙ makes.unused in cc in
        let e : Some (ThreadObject new) ≡ Some (ThreadObject old) = sym behind ∙ elsewhere other apart ∙ made-away other there ∙ before in
        let f : old ≡ new = cc in absurd (differs f);
    lines = λ number either. elim either [ inl differs ↦ absurd (differs refl) | inr differs ↦ absurd (differs refl) ];
    ready = λ priority. record {
      added = [];
      list = append-none (without self (s.ready priority));
      woken = λ thread there. absurd (omega (arith, there.1));
      once = λ thread. omega arith;
      own = omega arith;
    };
  }

  -- ---- the call

  thread-there : is_some (as_thread (made.objects self)) ≡ true
  thread-there = ap (λ (o : Option Object). is_some (as_thread o)) (made-away self not_new ∙ call.is)

  either-way : (b : Bool) → (if b then passes made self else passes made self) ≡ passes made self
  either-way true = refl
  either-way false = refl

  makes-one : (system_call s (self_of image t)).0 ≡ after
  unfolding made after
  makes-one =
      sends-by image t s (Untyped offset bits watermark) call
      ∙ ap (λ (c : Cap). (invokes s (self_of image t) Sending call.slot c).0) (sym call.holds)
      ∙ ap (λ (r : Result State KError). (after_invocation s (self_of image t) Sending r).0) makes.made
      ∙ ap (λ (b : Bool). if b then (if is_runnable (thread_at made self).status then passes made self else passes made self) else made) thread-there
      ∙ either-way (is_runnable (thread_at made self).status)

  pub retype-within : WithinAuthority image t s (system_call s (self_of image t)).0
  retype-within = subst (λ (x : State). WithinAuthority image t s x) (sym makes-one) made-within
