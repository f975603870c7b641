-- Numbers by the place of their first byte.
use Rattle.std.proofs.Common.{ℕ, ◌≡◌, ◌∙◌, ◌+◌, ◌%◌, ◌^◌, ◌<◌, ◌≤◌, Option, Ok, List, [], ◌∷◌, length, sym, ap, refl, arith}
use Rattle.std.proofs.Math.Pow.{pow_mono}
use Rattle.std.specs.Int.{from_le_bytes, w16}
use Rattle.std.specs.Prelude.{slice_index}
use Rattle.kernel_invariant.specs.Wholeness.{IsWhole}
use Rattle.model.specs.Capabilities.Slots.{Slots}
use Rattle.model.specs.Kernel.State.{State}
use Rattle.model.specs.Machine.ProgramMemory.{Content, IsNamed, loaded, place_at}
use Rattle.model.specs.declared.instructions.Access.{Access}
use Rattle.model.specs.declared.instructions.AccessSize.TheVariants.{Byte, Halfword}
use Rattle.objects.specs.Tables.{Tables, state_of}
use Rattle.user_memory.proofs.Halves.{half-is, second-named}
use Rattle.user_memory.proofs.Reading.{byte-seen, named-inside}
use Rattle.user_memory.specs.Views.{IsUsable, content_under}

-- no memory has more bytes
pub memory-most : (o : Tables) (slots : Slots) (memory : List ℕ) → IsWhole o slots memory → length memory ≤ 2 ^ 24
memory-most o slots memory whole =
    let most : 2 ^ (state_of o slots memory).memory_bits ≤ 2 ^ 24 = pow_mono whole.sound.shape.most_bits in
    omega (arith, most, whole.agrees.size)

one-place : (content : Content) (access : Access) (address place : ℕ) → place_at content access address ≡ Ok place
    → loaded content access Byte address ≡ Ok (content.byte place)
one-place content access address place found = rw found refl

module _ (o : Tables) (slots : Slots) (memory : List ℕ) (root : Option ℕ) (usable : ∥ IsUsable (state_of o slots memory) memory root ∥₁) (access : Access)
    (address place : ℕ) (small : address < 2 ^ 32) (found : place_at (content_under (state_of o slots memory) root) access address ≡ Ok place) where
  abbrev s : State
  s = state_of o slots memory

  first-named : IsNamed (content_under s root) place
  first-named = record { access = access; address = address; names = found }

  pub byte-inside : place < length memory
  byte-inside = named-inside s memory root usable place first-named

  pub byte-loaded : Ok (slice_index memory place) ≡ loaded (content_under s root) access Byte address
  byte-loaded =
      ap Ok (byte-seen o slots memory root place usable first-named) ∙ sym (one-place (content_under s root) access address place found)

  module _ (even : address % 2 ≡ 0) where
    pub half-inside : place + 1 < length memory
    half-inside = named-inside s memory root usable (place + 1) (second-named s root access address place even small found)

    pub half-loaded : Ok (from_le_bytes w16 (slice_index memory place ∷ slice_index memory (place + 1) ∷ []))
        ≡ loaded (content_under s root) access Halfword address
    half-loaded =
        ap (λ (b : ℕ). Ok (from_le_bytes w16 (b ∷ slice_index memory (place + 1) ∷ []))) (byte-seen o slots memory root place usable first-named)
        ∙ ap (λ (b : ℕ). Ok (from_le_bytes w16 ((content_under s root).byte place ∷ b ∷ [])))
        (byte-seen o slots memory root (place + 1) usable (second-named s root access address place even small found))
        ∙ sym (half-is s root access address place even small found)
