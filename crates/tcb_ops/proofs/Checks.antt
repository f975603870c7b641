-- Configure makes all its checks first.
use Rattle.std.proofs.Common.{ℕ, ◌≡◌, ◌∙◌, ◌&&◌, ◌+◌, ◌/◌, ◌<◌, true, false, not, is_some, Option, Some, Result, Ok, Err, refl, sym, ap, subst, arith}
use Rattle.std.proofs.lemmas.Bool.{and_parts, not-true}
use Rattle.model.specs.Capabilities.CapabilityKinds.{cnode_of, root_of}
use Rattle.model.specs.Capabilities.Slots.{IsFull, Slots, capability_at, empty_entry, is_full}
use Rattle.model.specs.Kernel.Arguments.{◌>>=◌, check, may_have_child, source_slot, wanted}
use Rattle.model.specs.Kernel.Kinds.{kind_at}
use Rattle.model.specs.Kernel.Retype.{NewThread}
use Rattle.model.specs.Kernel.Soundness.{IsSound}
use Rattle.model.specs.Kernel.State.{State, cspace_slot, thread_at, vspace_slot, with_slots, with_thread}
use Rattle.model.specs.Kernel.ThreadCalls.{configure, given_guard_fits}
use Rattle.model.specs.declared.capabilities.Cap.{Cap}
use Rattle.model.specs.declared.errors.KError.{KError}
use Rattle.model.specs.declared.errors.KError.TheVariants.{DeleteFirst, IllegalOperation, InvalidCapability}
use Rattle.model.specs.declared.invocations.SlotName.{SlotName}
use Rattle.soundness.proofs.Laws.{check-passes, empty-open, own-slot_open, passes-both, room-below, source-full, thread-kind, thread-slot, wanted-some}
use Rattle.tcb_ops.specs.Configuring.{MayConfigure, cnode_source, room_for_spaces, root_source, sources, spaces_put}
use Rattle.tcb_ops.specs.declared.spaces.Sources.{Sources}

-- ---- what passes all checks

abbrev pub configured : State → ℕ → Option ℕ → ℕ → Sources → State
configured s thread guard fault_address from =
    with_thread (with_slots s (spaces_put s.slots thread guard from.cspace from.vspace)) thread (record (thread_at s thread) { fault_address = fault_address })

room-first : (p q r t : Result (Unit {0}) KError) (from : Sources) (next : Sources → Result State KError)
    → (((p >>= λ _. q >>= λ _. r >>= λ _. t) >>= λ _. Ok from) >>= next) ≡ (p >>= λ _. q >>= λ _. r >>= λ _. t >>= λ _. next from)
room-first (Err e) q r t from next = refl
room-first (Ok a) (Err e) r t from next = refl
room-first (Ok a) (Ok b) (Err e) t from next = refl
room-first (Ok a) (Ok b) (Ok d) (Err e) from next = refl
room-first (Ok a) (Ok b) (Ok d) (Ok f) from next = refl

source-first : {B : Type 0} (found : Result ℕ KError) (test : ℕ → Result B KError) (rest : ℕ → Result Sources KError) (then : ℕ → Result State KError)
    (next : Sources → Result State KError) → ((y : ℕ) → (rest y >>= next) ≡ then y)
    → (((found >>= λ y. test y >>= λ _. Ok y) >>= rest) >>= next) ≡ (found >>= λ y. test y >>= λ _. then y)
source-first (Err e) test rest then next same = refl
source-first (Ok y) test rest then next same = elim (test y) as (λ r. (((r >>= λ _. Ok y) >>= rest) >>= next) ≡ (r >>= λ _. then y)) [
  | Ok a ↦ same y
  | Err e ↦ refl
]

pub as-sources : (s : State) (root : Cap) (thread : ℕ) (guard : Option ℕ) (fault_address : ℕ) (cspace_name vspace_name : SlotName)
    → (sources s.slots root thread guard cspace_name vspace_name >>= λ from. Ok (configured s thread guard fault_address from))
    ≡ configure s root thread guard fault_address cspace_name vspace_name
as-sources s root thread guard fault_address cspace_name vspace_name =
    let next : Sources → Result State KError = λ from. Ok (configured s thread guard fault_address from) in
    source-first (source_slot s.slots root cspace_name) (λ cspace. wanted (cnode_of (capability_at s.slots cspace)) InvalidCapability) _ _ next
    (λ cspace. source-first (source_slot s.slots root vspace_name) (λ vspace. wanted (root_of (capability_at s.slots vspace)) InvalidCapability) _ _ next
    (λ vspace. room-first (check (not (is_full s.slots (cspace_slot thread)) && not (is_full s.slots (vspace_slot thread))) DeleteFirst)
    (check (given_guard_fits (capability_at s.slots cspace) guard) IllegalOperation) (may_have_child s.slots cspace) (may_have_child s.slots vspace)
    (record { cspace = cspace; vspace = vspace }) next))

pub configure-refused : (s : State) (root : Cap) (thread : ℕ) (guard : Option ℕ) (fault_address : ℕ) (cspace_name vspace_name : SlotName) (e : KError)
    → Err e ≡ sources s.slots root thread guard cspace_name vspace_name → configure s root thread guard fault_address cspace_name vspace_name ≡ Err e
configure-refused s root thread guard fault_address cspace_name vspace_name e is =
    sym (as-sources s root thread guard fault_address cspace_name vspace_name)
    ∙ ap (λ (r : Result Sources KError). r >>= λ from. Ok (configured s thread guard fault_address from)) (sym is)

pub configure-passes : (s : State) (root : Cap) (thread : ℕ) (guard : Option ℕ) (fault_address : ℕ) (cspace_name vspace_name : SlotName) (from : Sources)
    → Ok from ≡ sources s.slots root thread guard cspace_name vspace_name
    → configure s root thread guard fault_address cspace_name vspace_name ≡ Ok (configured s thread guard fault_address from)
configure-passes s root thread guard fault_address cspace_name vspace_name from is =
    sym (as-sources s root thread guard fault_address cspace_name vspace_name)
    ∙ ap (λ (r : Result Sources KError). r >>= λ from. Ok (configured s thread guard fault_address from)) (sym is)

-- ---- what the checks say

-- a source that is full and of the wanted kind
record Wanted {B : Type 0} (slots : Slots) (kind : Cap → Option B) (slot : ℕ) : Type 0 where
  full : IsFull slots slot
  is : is_some (kind (capability_at slots slot)) ≡ true

source-wanted : {B : Type 0} (slots : Slots) (root : Cap) (name : SlotName) (kind : Cap → Option B) (slot : ℕ)
    → (source_slot slots root name >>= λ y. wanted (kind (capability_at slots y)) InvalidCapability >>= λ _. Ok y) ≡ Ok slot → Wanted slots kind slot
source-wanted {B} slots root name kind slot is =
    let one = passes-both (source_slot slots root name) (λ y. wanted (kind (capability_at slots y)) InvalidCapability >>= λ _. Ok y) slot is in
    let two = passes-both (wanted (kind (capability_at slots one.value)) InvalidCapability) (λ _. Ok one.value) slot one.rest in
    let e : one.value ≡ slot = cc two.rest in
    subst (λ (y : ℕ). Wanted slots kind y) e (record {
      full = source-full slots root name one.value one.first;
      is = ap is_some (wanted-some (kind (capability_at slots one.value)) InvalidCapability two.value two.first);
    })

module _ (s : State) (thread : ℕ) (sound : IsSound s) (there : kind_at s thread ≡ Some NewThread) where
  pub own-empty : (index : ℕ) (slot : ℕ) → index < 3 → slot ≡ thread / 16 + index → is_full s.slots slot ≡ false → s.slots slot ≡ Some empty_entry
  own-empty index slot less at none =
      let own = thread-kind (s.objects thread) there in
      empty-open s.slots slot sound.slots.derivation (own-slot_open s sound.slots thread slot (thread-slot s thread slot index own.0 own.1 less at)) none

  pub may-configure : (root : Cap) (guard : Option ℕ) (cspace_name vspace_name : SlotName) (from : Sources) →
      Ok from ≡ sources s.slots root thread guard cspace_name vspace_name
      → MayConfigure s.slots thread guard from.cspace from.vspace
  may-configure root guard cspace_name vspace_name from is =
      let one = passes-both (cnode_source s.slots root cspace_name) _ from (sym is) in
      let two = passes-both (root_source s.slots root vspace_name) _ from one.rest in
      let three = passes-both (room_for_spaces s.slots thread guard one.value two.value) _ from two.rest in
      let four = passes-both (check (not (is_full s.slots (cspace_slot thread)) && not (is_full s.slots (vspace_slot thread))) DeleteFirst) _ three.value
      three.first in
      let five = passes-both (check (given_guard_fits (capability_at s.slots one.value) guard) IllegalOperation) _ three.value four.rest in
      let six = passes-both (may_have_child s.slots one.value) _ three.value five.rest in
      let free = and_parts (not (is_full s.slots (cspace_slot thread))) (not (is_full s.slots (vspace_slot thread)))
      (check-passes (not (is_full s.slots (cspace_slot thread)) && not (is_full s.slots (vspace_slot thread))) DeleteFirst four.value four.first) in
      let cspace = source-wanted s.slots root cspace_name cnode_of one.value one.first in
      let vspace = source-wanted s.slots root vspace_name root_of two.value two.first in
      let found : Sources = record { cspace = one.value; vspace = two.value } in
      let e : found ≡ from = cc three.rest in
      subst (λ (f : Sources). MayConfigure s.slots thread guard f.cspace f.vspace) e (record {
        derivation = sound.slots.derivation;
        first = own-empty 0 (cspace_slot thread) (omega arith) refl (not-true (is_full s.slots (cspace_slot thread)) free.0);
        second = own-empty 1 (vspace_slot thread) (omega arith) refl (not-true (is_full s.slots (vspace_slot thread)) free.1);
        cspace_full = Wanted.full cspace;
        vspace_full = Wanted.full vspace;
        is_cnode = Wanted.is cspace;
        is_root = Wanted.is vspace;
        fits = check-passes (given_guard_fits (capability_at s.slots one.value) guard) IllegalOperation five.value five.first;
        cspace_room = room-below s one.value six.value six.first;
        vspace_room = room-below s two.value three.value six.rest;
      })
