-- Bytes that are written into a frame are those that filling it gives.
use Rattle.std.proofs.Common.{ℕ, ◌≡◌, ◌∙◌, ◌+◌, ◌%◌, ◌^◌, ◌<◌, ◌≤◌, ◌&&◌, Bool, true, false, if◌then◌else◌, Option, Some, None, IsSome, option_map, List}
use Rattle.std.proofs.Common.{length, refl, sym, ap, subst, arith}
use Rattle.std.specs.Prelude.{nat_le}
use Rattle.std.proofs.lemmas.Bool.{and_parts, leb-true}
use Rattle.std.proofs.Math.Pow.{pow_mono}
use Rattle.kernel_invariant.specs.Agreement.{Agrees}
use Rattle.model.specs.Capabilities.CapabilityWords.{IsCapability}
use Rattle.model.specs.Capabilities.Slots.{OutsideSlots, Slots, capability_at}
use Rattle.model.specs.Kernel.AddressSpaces.{page_size}
use Rattle.model.specs.Kernel.Kinds.{Names, frame_around, kind_at, kind_of}
use Rattle.model.specs.Kernel.Retype.{NewObject, NewThread, NewEndpoint, NewNotification, NewCNode, NewFrame, NewPageTable, NewRootTable}
use Rattle.model.specs.Kernel.Setup.{fill, is_frame_object, with_first_bytes}
use Rattle.model.specs.Kernel.Soundness.{IsSound}
use Rattle.model.specs.Kernel.State.{Object, State, ThreadObject, EndpointObject, NotificationObject, CNodeObject, FrameObject, PageTableObject}
use Rattle.model.specs.Kernel.State.{RootTableObject}
use Rattle.model.specs.declared.capabilities.Cap.{Cap}
use Rattle.model.specs.declared.capabilities.Cap.TheVariants.{Empty, Untyped, Endpoint, Notification, CNode, Frame, PageTable, Tcb, RootTable, InterruptControl}
use Rattle.model.specs.declared.capabilities.Cap.TheVariants.{InterruptHandler}
use Rattle.objects.specs.Standing.{Standing}
use Rattle.objects.specs.Tables.{Tables, state_of}
use Rattle.soundness.proofs.Laws.{object-inside}
use Rattle.user_memory.proofs.Named.{place-outside}
use Rattle.user_memory.proofs.BytesWritten.{written-agrees, written-stands, written-state}
use Rattle.user_memory.specs.Fills.{AreWritten}

-- ---- the frame

pub frame-kind : (o : Option Object) → is_frame_object o ≡ true → option_map kind_of o ≡ Some NewFrame
frame-kind (Some FrameObject) is = refl
frame-kind None is = absurd (let clash : false ≡ true = is in cc)
frame-kind (Some (ThreadObject t)) is = absurd (let clash : false ≡ true = is in cc)
frame-kind (Some (EndpointObject e)) is = absurd (let clash : false ≡ true = is in cc)
frame-kind (Some (NotificationObject n)) is = absurd (let clash : false ≡ true = is in cc)
frame-kind (Some (CNodeObject radix)) is = absurd (let clash : false ≡ true = is in cc)
frame-kind (Some PageTableObject) is = absurd (let clash : false ≡ true = is in cc)
frame-kind (Some RootTableObject) is = absurd (let clash : false ≡ true = is in cc)

abbrev kind-named : Option (NewObject × ℕ) → Option NewObject
kind-named None = None
kind-named (Some named) = Some named.0

abbrev offset-named : Option (NewObject × ℕ) → ℕ
offset-named None = 0
offset-named (Some named) = named.1

named-aligned : (c : Cap) (offset : ℕ) → IsCapability c → Names NewFrame offset c → offset % 2 ^ 12 ≡ 0
named-aligned (Frame at _ _) offset valid named = let same : at ≡ offset = ap offset-named named in subst (λ (n : ℕ). n % 2 ^ 12 ≡ 0) same valid.0.0
named-aligned Empty offset valid named = absurd (let clash : None ≡ Some NewFrame = ap kind-named named in cc)
named-aligned (Untyped _ _ _) offset valid named = absurd (let clash : None ≡ Some NewFrame = ap kind-named named in cc)
named-aligned (Endpoint _ _ _) offset valid named = absurd (let clash : Some NewEndpoint ≡ Some NewFrame = ap kind-named named in cc)
named-aligned (Notification _ _ _) offset valid named = absurd (let clash : Some NewNotification ≡ Some NewFrame = ap kind-named named in cc)
named-aligned (CNode _ radix _) offset valid named = absurd (let clash : Some (NewCNode radix) ≡ Some NewFrame = ap kind-named named in cc)
named-aligned (PageTable _ _) offset valid named = absurd (let clash : Some NewPageTable ≡ Some NewFrame = ap kind-named named in cc)
named-aligned (Tcb _) offset valid named = absurd (let clash : Some NewThread ≡ Some NewFrame = ap kind-named named in cc)
named-aligned (RootTable _) offset valid named = absurd (let clash : Some NewRootTable ≡ Some NewFrame = ap kind-named named in cc)
named-aligned InterruptControl offset valid named = absurd (let clash : None ≡ Some NewFrame = ap kind-named named in cc)
named-aligned (InterruptHandler _) offset valid named = absurd (let clash : None ≡ Some NewFrame = ap kind-named named in cc)

abbrev pub may_fill : State → ℕ → ℕ → Bool
may_fill s offset count = is_frame_object (s.objects offset) && nat_le count page_size

module _ (s : State) (memory : List ℕ) (offset count : ℕ) (agrees : Agrees s memory) (sound : IsSound s) (may : may_fill s offset count ≡ true) where
  kind : kind_at s offset ≡ Some NewFrame
  kind = frame-kind (s.objects offset) ((and_parts (is_frame_object (s.objects offset)) (nat_le count page_size) may).0)

  few : count ≤ page_size
  few = leb-true count page_size ((and_parts (is_frame_object (s.objects offset)) (nat_le count page_size) may).1)

  pub fill-within : offset + count ≤ length memory
  fill-within =
      let whole = (object-inside s sound.memory offset NewFrame kind).1 in
      omega (arith, whole, few, agrees.size)

  pub fill-most : length memory ≤ 2 ^ 24
  fill-most =
      let most : 2 ^ s.memory_bits ≤ 2 ^ 24 = pow_mono sound.shape.most_bits in
      omega (arith, most, agrees.size)

  aligned : offset % 2 ^ 12 ≡ 0
  aligned =
      let name = sound.memory.live offset NewFrame kind in
      named-aligned (capability_at s.slots name.0) offset (agrees.tables.valid name.0) name.1

  pub fill-some : (place : ℕ) → offset ≤ place → place < offset + count → IsSome (s.bytes place)
  fill-some place low high =
      let around : frame_around place ≡ offset = omega (arith, aligned, few, low, high) in
      (sound.memory.bytes place).1 (ap (kind_at s) around ∙ kind)

  pub fill-outside : OutsideSlots s.slots offset count
  fill-outside place low high = place-outside s memory place agrees (fill-some place low high) place (omega arith) (omega arith)

-- ---- the bytes

pub not-filled : (s : State) (offset : ℕ) (bytes : List ℕ) → may_fill s offset (length bytes) ≡ false → fill s offset bytes ≡ None
unfolding fill
not-filled s offset bytes may_not = ap (λ b. if b then Some (with_first_bytes s offset bytes) else None) may_not

module _ (o : Tables) (slots : Slots) (old new : List ℕ) (offset : ℕ) (bytes : List ℕ) (written : AreWritten old new offset (length bytes) bytes)
    (agrees : Agrees (state_of o slots old) old) (sound : IsSound (state_of o slots old)) (stood : Standing o slots old)
    (may : may_fill (state_of o slots old) offset (length bytes) ≡ true) where
  abbrev before : State
  before = state_of o slots old

  some : (place : ℕ) → offset ≤ place → place < offset + length bytes → IsSome (before.bytes place)
  some place low high = fill-some before old offset (length bytes) agrees sound may place low high

  pub fill-done : fill before offset bytes ≡ Some (state_of o slots new)
  unfolding fill
  fill-done =
      ap (λ b. if b then Some (with_first_bytes before offset bytes) else None) may
      ∙ ap Some (sym (written-state o slots old new offset bytes written stood some))

  pub fill-agrees : Agrees (state_of o slots new) new
  fill-agrees = written-agrees o slots old new offset bytes written stood some agrees

  pub fill-stands : Standing o slots new
  fill-stands = written-stands o slots old new offset bytes written stood some
