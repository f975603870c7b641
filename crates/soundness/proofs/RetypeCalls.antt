-- Retype: its checks are what new objects need.
use Rattle.std.proofs.Common.{ℕ, ◌≡◌, ◌∙◌, ◌==◌, ◌&&◌, ◌+◌, ◌/◌, ◌^◌, ◌<◌, true, false, not, nat_le, if◌then◌else◌, Option, Some, None, Ok, refl, sym, ap}
use Rattle.std.proofs.Common.{subst, arith}
use Rattle.std.specs.List.{range_with_len}
use Rattle.std.proofs.lemmas.Bool.{and_parts, leb-true, not-true}
use Rattle.std.proofs.lemmas.List.Folds.{list_any_at}
use Rattle.std.proofs.lemmas.List.FromFn.{get_or-range_with_len, length-range_with_len}
use Rattle.model.specs.declared.capabilities.Cap.{Cap}
use Rattle.model.specs.declared.capabilities.Cap.TheVariants.{Empty, Untyped, Endpoint, Notification, CNode, Frame, PageTable, Tcb, RootTable, InterruptControl}
use Rattle.model.specs.declared.capabilities.Cap.TheVariants.{InterruptHandler}
use Rattle.model.specs.declared.errors.KError.TheVariants.{DeleteFirst, FailedLookup, InvalidArgument, NotEnoughMemory, RangeError}
use Rattle.model.specs.declared.invocations.RetypeCall.{RetypeCall}
use Rattle.model.specs.declared.invocations.SlotName.{SlotName}
use Rattle.model.specs.declared.invocations.UntypedMemory.{UntypedMemory}
use Rattle.model.specs.Capabilities.CapabilityKinds.{cnode_of, Node}
use Rattle.model.specs.Capabilities.CapabilityWords.{IsCapability}
use Rattle.model.specs.Capabilities.Placement.{placement}
use Rattle.model.specs.Capabilities.Slots.{Slots, capability_at, is_full, recapped}
use Rattle.model.specs.Kernel.Arguments.{◌>>=◌, argument_slot, check, may_have_child, wanted}
use Rattle.model.specs.Kernel.Retype.{NewObjects, any_full, is_large_enough, is_small_enough, node, object_bits, retype, type_of, with_new}
use Rattle.model.specs.Kernel.Soundness.{IsSound}
use Rattle.model.specs.Kernel.State.{State, slot_of, with_slots}
use Rattle.soundness.specs.Calls.{IsRoot, of_slot}
use Rattle.soundness.proofs.CNodeCalls.{room-below}
use Rattle.soundness.proofs.Lookups.{check-passes, passes-both, root-plain, wanted-some}
use Rattle.soundness.proofs.NewObjects.{Retypes, retyped-whole}
use Rattle.soundness.proofs.NewPlaces.{laid}
use Rattle.soundness.proofs.Places.{IsPlain}

-- ---- the CNode that gets the capabilities

cnode-plain : (s : State) → IsSound s → (c : Cap) (n : Node) (index : ℕ) → IsRoot s c → cnode_of c ≡ Some n → index < 2 ^ n.radix
    → IsPlain s (n.offset / 16 + index)
cnode-plain s sound Empty n index is_root is less = let e : ◌≡◌ {A = Option Node} None (Some n) = is in absurd cc
cnode-plain s sound (Untyped a b d) n index is_root is less = let e : ◌≡◌ {A = Option Node} None (Some n) = is in absurd cc
cnode-plain s sound (Endpoint a r b) n index is_root is less = let e : ◌≡◌ {A = Option Node} None (Some n) = is in absurd cc
cnode-plain s sound (Notification a r b) n index is_root is less = let e : ◌≡◌ {A = Option Node} None (Some n) = is in absurd cc
cnode-plain s sound (CNode a r g) n index is_root is less =
    let e : ◌≡◌ {A = Node} (record { offset = a; radix = r }) n = cc is in
    subst (λ (m : Node). index < 2 ^ m.radix → IsPlain s (m.offset / 16 + index)) e (root-plain s sound.memory a r g index is_root) less
cnode-plain s sound (Frame a r m) n index is_root is less = let e : ◌≡◌ {A = Option Node} None (Some n) = is in absurd cc
cnode-plain s sound (PageTable a m) n index is_root is less = let e : ◌≡◌ {A = Option Node} None (Some n) = is in absurd cc
cnode-plain s sound (Tcb a) n index is_root is less = let e : ◌≡◌ {A = Option Node} None (Some n) = is in absurd cc
cnode-plain s sound (RootTable a) n index is_root is less = let e : ◌≡◌ {A = Option Node} None (Some n) = is in absurd cc
cnode-plain s sound InterruptControl n index is_root is less = let e : ◌≡◌ {A = Option Node} None (Some n) = is in absurd cc
cnode-plain s sound (InterruptHandler a) n index is_root is less = let e : ◌≡◌ {A = Option Node} None (Some n) = is in absurd cc

node-plain : (s : State) → IsSound s → (root : Cap) (name : SlotName) (n : Node) → IsRoot s root → node s.slots root name ≡ Ok n
    → (index : ℕ) → index < 2 ^ n.radix → IsPlain s (n.offset / 16 + index)
node-plain s sound root name n is_root is index less =
    elim (name.depth == 0) as (λ b. (if b then wanted (cnode_of root) FailedLookup else
    (argument_slot s.slots root name >>= λ slot. wanted (cnode_of (capability_at s.slots slot)) FailedLookup)) ≡ Ok n
    → IsPlain s (n.offset / 16 + index)) [
      | true ↦ λ so. cnode-plain s sound root n index is_root (wanted-some (cnode_of root) FailedLookup n so) less
      | false ↦ λ so.
          let one = passes-both (argument_slot s.slots root name) _ n so in
          cnode-plain s sound (capability_at s.slots one.value) n index (of_slot one.value refl)
          (wanted-some (cnode_of (capability_at s.slots one.value)) FailedLookup n one.rest) less
    ] is

-- no slot of an empty window is full
none-full : (slots : Slots) (first count j : ℕ) → any_full slots first count ≡ false → j < count → is_full slots (first + j) ≡ false
none-full slots first count j none less =
    elim (is_full slots (first + j)) as (λ b. is_full slots (first + j) ≡ b → b ≡ false) [
      | true ↦ λ full.
          let at = get_or-range_with_len first count j 0 less in
          let size = length-range_with_len first count in
          let some : any_full slots first count ≡ true = list_any_at (is_full slots) (range_with_len first count) j 0 (omega (arith, size, less))
          (ap (is_full slots) (at ∙ omega arith) ∙ full) in
          let clash : true ≡ false = sym some ∙ none in
          absurd cc
      | false ↦ λ _. refl
    ] refl

pub retype-whole : (s t : State) (root : Cap) (slot : ℕ) (memory : UntypedMemory) (asked : RetypeCall) → IsSound s → IsRoot s root
    → capability_at s.slots slot ≡ Untyped memory.offset memory.bits memory.watermark → retype s root slot memory asked ≡ Ok t → IsSound t
unfolding retype
retype-whole s t root slot memory asked whole is_root holds is =
    let one = passes-both (wanted (type_of asked.kind asked.size) InvalidArgument) _ t is in
    let kind = one.value in
    let two = passes-both (check (is_large_enough kind) InvalidArgument) _ t one.rest in
    let three = passes-both (check (is_small_enough kind) RangeError) _ t two.rest in
    let four = passes-both (node s.slots root asked.node) _ t three.rest in
    let cnode = four.value in
    let fits = nat_le 1 asked.count && nat_le asked.count 256 && nat_le (asked.index + asked.count) (2 ^ cnode.radix) in
    let five = passes-both (check fits RangeError) _ t four.rest in
    let window : ℕ = slot_of cnode.offset asked.index in
    let six = passes-both (check (not (any_full s.slots window asked.count)) DeleteFirst) _ t five.rest in
    let seven = passes-both (may_have_child s.slots slot) _ t six.rest in
    let eight = passes-both (wanted (placement memory.bits memory.watermark (object_bits kind) asked.count) NotEnoughMemory) _ t seven.rest in
    let place = eight.value in
    let outer = and_parts (nat_le 1 asked.count && nat_le asked.count 256) (nat_le (asked.index + asked.count) (2 ^ cnode.radix))
    (check-passes fits RangeError five.value five.first) in
    let inner = and_parts (nat_le 1 asked.count) (nat_le asked.count 256) outer.0 in
    let some = leb-true 1 asked.count inner.0 in
    let last = leb-true (asked.index + asked.count) (2 ^ cnode.radix) outer.1 in
    let valid : IsCapability (Untyped memory.offset memory.bits memory.watermark) = subst IsCapability holds (whole.slots.derivation.valid slot) in
    let known : Retypes s slot memory.offset memory.bits memory.watermark kind (memory.offset + place.0) asked.count place.1 window = record {
      memory = holds;
      laid = laid memory.offset memory.bits memory.watermark (object_bits kind) asked.count place
          (wanted-some (placement memory.bits memory.watermark (object_bits kind) asked.count) NotEnoughMemory place eight.first) valid.0.0 some;
      large = check-passes (is_large_enough kind) InvalidArgument two.value two.first;
      small = check-passes (is_small_enough kind) RangeError three.value three.first;
      plain = λ j less. subst (IsPlain s) (omega arith)
          (node-plain s whole root asked.node cnode is_root four.first (asked.index + j) (omega (arith, last, less)));
      free = λ j less. none-full s.slots window asked.count j
          (not-true (any_full s.slots window asked.count) (check-passes (not (any_full s.slots window asked.count)) DeleteFirst six.value six.first)) less;
      room = room-below s slot seven.value seven.first;
    } in
    let new : NewObjects = record { kind = kind; first = memory.offset + place.0; count = asked.count } in
    let e : with_new (with_slots s (recapped s.slots slot (Untyped memory.offset memory.bits place.1))) new window slot ≡ t = cc eight.rest in
    subst IsSound e (retyped-whole s whole slot memory.offset memory.bits memory.watermark kind (memory.offset + place.0) asked.count place.1 window known)
