-- The four bytes of a word at a multiple of 4 are stored one after another.
use Rattle.std.proofs.Common.{ℕ, ◌≡◌, ◌∙◌, ◌+◌, ◌%◌, ◌^◌, ◌<◌, Option, Ok, List, [], ◌∷◌, refl, sym, ap, arith}
use Rattle.std.specs.Int.{to_le_bytes, w32}
use Rattle.std.specs.Prelude.{slice_index}
use Rattle.model.specs.Kernel.State.{State}
use Rattle.model.specs.Machine.ProgramMemory.{Content, next_address, place_at, put_byte, put_bytes, stored}
use Rattle.model.specs.declared.instructions.Access.TheVariants.{Store}
use Rattle.model.specs.declared.instructions.AccessSize.TheVariants.{Word}
use Rattle.user_memory.proofs.Words.{behind}
use Rattle.user_memory.specs.Views.{IsUsable, content_under}

four-stored : (content : Content) (a p q r s value : ℕ) → place_at content Store a ≡ Ok p → place_at content Store (next_address a) ≡ Ok q
    → place_at content Store (next_address (next_address a)) ≡ Ok r → place_at content Store (next_address (next_address (next_address a))) ≡ Ok s
    → stored content Word a value ≡ Ok (put_bytes content (p ∷ q ∷ r ∷ s ∷ []) (to_le_bytes w32 value))
four-stored content a p q r s value first second third fourth = rw (first, second, third, fourth) refl

module _ (s : State) (memory : List ℕ) (root : Option ℕ) (usable : ∥ IsUsable s memory root ∥₁) (address place value : ℕ) (aligned : address % 4 ≡ 0)
    (small : address < 2 ^ 32) (found : place_at (content_under s root) Store address ≡ Ok place) where
  pub word-stored : (bytes : List ℕ) → bytes ≡ to_le_bytes w32 value
      → stored (content_under s root) Word address value
      ≡ Ok (put_byte (put_byte (put_byte (put_byte (content_under s root) place (slice_index bytes 0)) (place + 1) (slice_index bytes 1)) (place + 2)
      (slice_index bytes 2)) (place + 3) (slice_index bytes 3))
  word-stored bytes is =
      four-stored (content_under s root) address place (place + 1) (place + 2) (place + 3) value found
      (behind s memory root usable Store address place aligned small found 1 (next_address address) (omega arith) (omega (arith, aligned, small)))
      (behind s memory root usable Store address place aligned small found 2 (next_address (next_address address)) (omega arith)
      (omega (arith, aligned, small)))
      (behind s memory root usable Store address place aligned small found 3 (next_address (next_address (next_address address))) (omega arith)
      (omega (arith, aligned, small)))
      ∙ sym (ap (λ (b : List ℕ).
      Ok (put_byte (put_byte (put_byte (put_byte (content_under s root) place (slice_index b 0)) (place + 1) (slice_index b 1)) (place + 2)
      (slice_index b 2)) (place + 3) (slice_index b 3))) is)
