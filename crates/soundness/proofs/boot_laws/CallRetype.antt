-- Retype by the loader: one object of untyped memory in a boot slot, its first capability in another.
use Rattle.std.proofs.Common.{ℕ, ◌≡◌, ◌∙◌, ◌+◌, ◌^◌, ◌<◌, true, false, not, nat_le, nat_lt, ◌||◌, Some, Result, Ok, [], ◌∷◌, refl, ap, arith}
use Rattle.std.proofs.lemmas.Bool.{le-leb, lt-ltb}
use Rattle.model.specs.Capabilities.CapabilityKinds.{Node}
use Rattle.model.specs.Capabilities.Placement.{placement}
use Rattle.model.specs.Capabilities.Slots.{capability_at, depth_of, is_full, recapped}
use Rattle.model.specs.Images.Boot.{boot_root, made, performed}
use Rattle.model.specs.Images.BootCalls.{loader_call}
use Rattle.model.specs.Kernel.Arguments.{wanted}
use Rattle.model.specs.Kernel.CallForms.{decode, retype_label}
use Rattle.model.specs.Kernel.Invocations.{invoke}
use Rattle.model.specs.Kernel.Retype.{NewObject, any_full, is_large_enough, is_small_enough, object_bits, retype, type_of, with_new}
use Rattle.model.specs.Kernel.Soundness.{HasShape}
use Rattle.model.specs.Kernel.State.{State, slot_of, with_slots}
use Rattle.model.specs.declared.capabilities.Cap.TheVariants.{Untyped}
use Rattle.model.specs.declared.errors.KError.{KError}
use Rattle.model.specs.declared.errors.KError.TheVariants.{DeleteFirst, IllegalOperation, InvalidArgument, NotEnoughMemory, RangeError}
use Rattle.model.specs.declared.invocations.RetypeCall.{RetypeCall}
use Rattle.model.specs.declared.invocations.UntypedMemory.{UntypedMemory}
use Rattle.soundness.proofs.boot_laws.CallLookups.{goes, made-there, passes, slot_call}

abbrev one_object : ℕ → ℕ → ℕ → RetypeCall
one_object kind size slot = record { kind = kind; size = size; node = record { address = 0; depth = 0 }; index = slot; count = 1 }

abbrev memory_of : ℕ → ℕ → ℕ → UntypedMemory
memory_of offset bits watermark = record { offset = offset; bits = bits; watermark = watermark }

retype-called : (s : State) (untyped offset bits watermark kind size slot : ℕ)
    → performed s retype_label (kind ∷ size ∷ 0 ∷ 0 ∷ slot ∷ 1 ∷ []) (slot_call s untyped (Untyped offset bits watermark))
    ≡ retype s (boot_root s.boot_radix) untyped (memory_of offset bits watermark) (one_object kind size slot)
unfolding invoke decode
retype-called s untyped offset bits watermark kind size slot = refl

-- what is asked of a Retype of the loader
pub record Retypes (s : State) (untyped offset bits watermark kind size slot : ℕ) (new : NewObject) (place : ℕ × ℕ) : Type 0 where
  pub memory : untyped < 2 ^ s.boot_radix
  pub holds : capability_at s.slots untyped ≡ Untyped offset bits watermark
  pub shallow : depth_of s.slots untyped < 255
  pub destination : slot < 2 ^ s.boot_radix
  pub free : is_full s.slots slot ≡ false
  pub named : type_of kind size ≡ Some new
  pub large : is_large_enough new ≡ true
  pub small : is_small_enough new ≡ true
  pub room : placement bits watermark (object_bits new) 1 ≡ Some place

abbrev pub retyped : State → ℕ → ℕ → ℕ → ℕ → NewObject → ℕ × ℕ → State
retyped s untyped offset bits slot new place =
    with_new (with_slots s (recapped s.slots untyped (Untyped offset bits place.1))) (record { kind = new; first = offset + place.0; count = 1 }) slot untyped

module _ (s : State) (untyped offset bits watermark kind size slot : ℕ) (new : NewObject) (place : ℕ × ℕ)
    (shape : HasShape s) (asked : Retypes s untyped offset bits watermark kind size slot new place) where
  abbrev boot_node : Node
  boot_node = record { offset = 0; radix = s.boot_radix }

  bare : slot_of 0 slot ≡ slot
  bare = omega arith

  empty-range : any_full s.slots (slot_of 0 slot) 1 ≡ false
  empty-range = ap (λ (n : ℕ). is_full s.slots n || false) bare ∙ ap (λ b. b || false) asked.free

  retype-there : retype s (boot_root s.boot_radix) untyped (memory_of offset bits watermark) (one_object kind size slot) ≡ Ok
      (retyped s untyped offset bits slot new place)
  unfolding retype
  retype-there =
      let end : Result State KError = Ok (retyped s untyped offset bits slot new place) in
      let fits : nat_le (slot + 1) (2 ^ s.boot_radix) ≡ true = le-leb (slot + 1) (2 ^ s.boot_radix) (omega (arith, asked.destination)) in
      goes (wanted (type_of kind size) InvalidArgument) _ new end (ap (λ o. wanted o InvalidArgument) asked.named)
      (passes (is_large_enough new) InvalidArgument _ end asked.large
      (passes (is_small_enough new) RangeError _ end asked.small
      (passes (nat_le (slot + 1) (2 ^ s.boot_radix)) RangeError _ end fits
      (passes (not (any_full s.slots (slot_of 0 slot) 1)) DeleteFirst _ end (ap not empty-range)
      (passes (nat_lt (depth_of s.slots untyped) 255) IllegalOperation _ end (lt-ltb (depth_of s.slots untyped) 255 asked.shallow)
      (goes (wanted (placement bits watermark (object_bits new) 1) NotEnoughMemory) _ place end (ap (λ o. wanted o NotEnoughMemory) asked.room)
      (ap (λ (n : ℕ). Ok (with_new (with_slots s (recapped s.slots untyped (Untyped offset bits place.1)))
      (record { kind = new; first = offset + place.0; count = 1 }) n untyped)) bare)))))))

  pub retype-made : made s (loader_call untyped retype_label (kind ∷ size ∷ 0 ∷ 0 ∷ slot ∷ 1 ∷ [])) ≡ Ok (retyped s untyped offset bits slot new place)
  retype-made =
      made-there s shape untyped asked.memory retype_label (kind ∷ size ∷ 0 ∷ 0 ∷ slot ∷ 1 ∷ []) (Untyped offset bits watermark) asked.holds refl
      ∙ retype-called s untyped offset bits watermark kind size slot ∙ retype-there
