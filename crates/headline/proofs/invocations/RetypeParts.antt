-- Retype step by step: what its checks find where it has no error, and that it has none where they find that.
use Rattle.std.proofs.Common.{ℕ, ◌≡◌, ◌+◌, ◌^◌, ◌≤◌, ◌&&◌, true, false, not, nat_le, nat_lt, Some, Result, Ok, refl, ap}
use Rattle.std.proofs.lemmas.Bool.{and_parts, leb-true, not-true}
use Rattle.soundness.proofs.Laws.{check-passes, goes, passes, passes-both, wanted-some}
use Rattle.model.specs.declared.capabilities.Cap.{Cap}
use Rattle.model.specs.declared.capabilities.Cap.TheVariants.{Untyped}
use Rattle.model.specs.declared.errors.KError.{KError}
use Rattle.model.specs.declared.errors.KError.TheVariants.{DeleteFirst, IllegalOperation, InvalidArgument, NotEnoughMemory, RangeError}
use Rattle.model.specs.declared.invocations.RetypeCall.{RetypeCall}
use Rattle.model.specs.declared.invocations.UntypedMemory.{UntypedMemory}
use Rattle.model.specs.Capabilities.CapabilityKinds.{Node}
use Rattle.model.specs.Capabilities.Placement.{placement}
use Rattle.model.specs.Capabilities.Slots.{Slots, depth_of, recapped}
use Rattle.model.specs.Kernel.Arguments.{check, may_have_child, wanted}
use Rattle.model.specs.Kernel.Retype.{NewObject, NewObjects, any_full, is_large_enough, is_small_enough, node, object_bits, retype, type_of, with_new}
use Rattle.model.specs.Kernel.State.{State, slot_of, with_slots}

-- what a call asks for, and where it is
pub record Asked (slots : Slots) (root : Cap) (slot : ℕ) (memory : UntypedMemory) (asked : RetypeCall) : Type 0 where
  pub kind : NewObject
  pub kind_is : type_of asked.kind asked.size ≡ Some kind
  pub large : is_large_enough kind ≡ true
  pub small : is_small_enough kind ≡ true
  pub cnode : Node
  pub named : node slots root asked.node ≡ Ok cnode
  pub fits : (nat_le 1 asked.count && nat_le asked.count 256 && nat_le (asked.index + asked.count) (2 ^ cnode.radix)) ≡ true
  pub free : any_full slots (slot_of cnode.offset asked.index) asked.count ≡ false
  pub room : nat_lt (depth_of slots slot) 255 ≡ true
  pub place : ℕ × ℕ
  pub placed : placement memory.bits memory.watermark (object_bits kind) asked.count ≡ Some place

-- the new objects, and the state with them
abbrev pub objects_of : UntypedMemory → RetypeCall → NewObject → ℕ × ℕ → NewObjects
objects_of memory asked kind place = record { kind = kind; first = memory.offset + place.0; count = asked.count }

abbrev pub window_of : RetypeCall → Node → ℕ
window_of asked cnode = slot_of cnode.offset asked.index

abbrev pub made_of : State → ℕ → UntypedMemory → RetypeCall → NewObject → Node → ℕ × ℕ → State
made_of s slot memory asked kind cnode place =
    with_new (with_slots s (recapped s.slots slot (Untyped memory.offset memory.bits place.1))) (objects_of memory asked kind place)
    (window_of asked cnode) slot

pub record Found (s t : State) (root : Cap) (slot : ℕ) (memory : UntypedMemory) (asked : RetypeCall) : Type 0 where
  pub of : Asked s.slots root slot memory asked
  pub is : made_of s slot memory asked of.kind of.cnode of.place ≡ t

pub retype-found : (s t : State) (root : Cap) (slot : ℕ) (memory : UntypedMemory) (asked : RetypeCall) → retype s root slot memory asked ≡ Ok t
    → Found s t root slot memory asked
unfolding retype
retype-found s t root slot memory asked is =
    let one = passes-both (wanted (type_of asked.kind asked.size) InvalidArgument) _ t is in
    let kind = one.value in
    let two = passes-both (check (is_large_enough kind) InvalidArgument) _ t one.rest in
    let three = passes-both (check (is_small_enough kind) RangeError) _ t two.rest in
    let four = passes-both (node s.slots root asked.node) _ t three.rest in
    let cnode = four.value in
    let fits = nat_le 1 asked.count && nat_le asked.count 256 && nat_le (asked.index + asked.count) (2 ^ cnode.radix) in
    let five = passes-both (check fits RangeError) _ t four.rest in
    let six = passes-both (check (not (any_full s.slots (window_of asked cnode) asked.count)) DeleteFirst) _ t five.rest in
    let seven = passes-both (may_have_child s.slots slot) _ t six.rest in
    let eight = passes-both (wanted (placement memory.bits memory.watermark (object_bits kind) asked.count) NotEnoughMemory) _ t seven.rest in
    record {
      of = record {
        kind = kind;
        kind_is = wanted-some (type_of asked.kind asked.size) InvalidArgument kind one.first;
        large = check-passes (is_large_enough kind) InvalidArgument two.value two.first;
        small = check-passes (is_small_enough kind) RangeError three.value three.first;
        cnode = cnode;
        named = four.first;
        fits = check-passes fits RangeError five.value five.first;
        free = not-true (any_full s.slots (window_of asked cnode) asked.count)
            (check-passes (not (any_full s.slots (window_of asked cnode) asked.count)) DeleteFirst six.value six.first);
        room = check-passes (nat_lt (depth_of s.slots slot) 255) IllegalOperation seven.value seven.first;
        place = eight.value;
        placed = wanted-some (placement memory.bits memory.watermark (object_bits kind) asked.count) NotEnoughMemory eight.value eight.first;
      };
      is = (let both : Ok (made_of s slot memory asked kind cnode eight.value) ≡ Ok t = eight.rest in cc);
    }

-- and back
pub retype-goes : (s : State) (root : Cap) (slot : ℕ) (memory : UntypedMemory) (asked : RetypeCall) (of : Asked s.slots root slot memory asked)
    → retype s root slot memory asked ≡ Ok (made_of s slot memory asked of.kind of.cnode of.place)
unfolding retype
retype-goes s root slot memory asked of =
    let fits = nat_le 1 asked.count && nat_le asked.count 256 && nat_le (asked.index + asked.count) (2 ^ of.cnode.radix) in
    let end : Result State KError = Ok (made_of s slot memory asked of.kind of.cnode of.place) in
    goes (wanted (type_of asked.kind asked.size) InvalidArgument) _ of.kind end (ap (λ o. wanted o InvalidArgument) of.kind_is)
    (passes (is_large_enough of.kind) InvalidArgument _ end of.large
    (passes (is_small_enough of.kind) RangeError _ end of.small
    (goes (node s.slots root asked.node) _ of.cnode end of.named
    (passes fits RangeError _ end of.fits
    (passes (not (any_full s.slots (window_of asked of.cnode) asked.count)) DeleteFirst _ end (ap not of.free)
    (passes (nat_lt (depth_of s.slots slot) 255) IllegalOperation _ end of.room
    (goes (wanted (placement memory.bits memory.watermark (object_bits of.kind) asked.count) NotEnoughMemory) _ of.place end
    (ap (λ o. wanted o NotEnoughMemory) of.placed) refl)))))))

pub record Counted (asked : RetypeCall) (radix : ℕ) : Type 0 where
  pub some : 1 ≤ asked.count
  pub last : asked.index + asked.count ≤ 2 ^ radix

pub counted : (asked : RetypeCall) (radix : ℕ)
    → (nat_le 1 asked.count && nat_le asked.count 256 && nat_le (asked.index + asked.count) (2 ^ radix)) ≡ true → Counted asked radix
counted asked radix fits =
    let outer = and_parts (nat_le 1 asked.count && nat_le asked.count 256) (nat_le (asked.index + asked.count) (2 ^ radix)) fits in
    let inner = and_parts (nat_le 1 asked.count) (nat_le asked.count 256) outer.0 in
    record { some = leb-true 1 asked.count inner.0; last = leb-true (asked.index + asked.count) (2 ^ radix) outer.1 }
