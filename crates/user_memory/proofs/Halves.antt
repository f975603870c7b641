-- The two bytes of a halfword at a multiple of 2 lie in one page.
use Rattle.std.proofs.Common.{ℕ, ◌≡◌, ◌∙◌, ◌+◌, ◌%◌, ◌^◌, ◌<◌, Option, Ok, List, [], ◌∷◌, refl, sym, ap, arith}
use Rattle.std.specs.Int.{from_le_bytes, to_le_bytes, w8, w16, w32}
use Rattle.std.specs.Prelude.{slice_index}
use Rattle.model.specs.Kernel.State.{State}
use Rattle.model.specs.Machine.ProgramMemory.{Content, IsNamed, loaded, next_address, place_at, place_or_fault, put_byte, put_bytes, stored}
use Rattle.model.specs.declared.instructions.Access.{Access}
use Rattle.model.specs.declared.instructions.Access.TheVariants.{Store}
use Rattle.model.specs.declared.instructions.AccessSize.TheVariants.{Byte, Halfword}
use Rattle.user_memory.proofs.Named.{place-found}
use Rattle.user_memory.proofs.Words.{place-near}
use Rattle.user_memory.specs.Views.{content_under}

one-stored : (content : Content) (a p value : ℕ) → place_at content Store a ≡ Ok p
    → stored content Byte a value ≡ Ok (put_bytes content (p ∷ []) (to_le_bytes w8 value))
one-stored content a p value found = rw found refl

-- a byte that is stored is the first one of the number
pub byte-stored : (content : Content) (address place value : ℕ) (bytes : List ℕ) → Ok place ≡ place_at content Store address → bytes ≡ to_le_bytes w32 value
    → stored content Byte address value ≡ Ok (put_byte content place (slice_index bytes 0))
byte-stored content address place value bytes found is =
    one-stored content address place value (sym found) ∙ sym (ap (λ (b : List ℕ). Ok (put_byte content place (slice_index b 0))) is)

two-places : (content : Content) (access : Access) (a p q : ℕ) → place_at content access a ≡ Ok p → place_at content access (next_address a) ≡ Ok q
    → loaded content access Halfword a ≡ Ok (from_le_bytes w16 (content.byte p ∷ content.byte q ∷ []))
two-places content access a p q first second = rw (first, second) refl

two-stored : (content : Content) (a p q value : ℕ) → place_at content Store a ≡ Ok p → place_at content Store (next_address a) ≡ Ok q
    → stored content Halfword a value ≡ Ok (put_bytes content (p ∷ q ∷ []) (to_le_bytes w16 value))
two-stored content a p q value first second = rw (first, second) refl

module _ (s : State) (root : Option ℕ) (access : Access) (address place : ℕ) (even : address % 2 ≡ 0) (small : address < 2 ^ 32)
    (found : place_at (content_under s root) access address ≡ Ok place) where
  pub second : (next : ℕ) → next ≡ address + 1 → place_at (content_under s root) access next ≡ Ok (place + 1)
  second next is =
      ap (place_at (content_under s root) access) is
      ∙ ap (λ (p : Option ℕ). place_or_fault p access (address + 1))
      (place-near s root access address place 1 (omega (arith, even)) (omega (arith, even))
      (place-found ((content_under s root).place access address) access address place found))

  pub second-named : IsNamed (content_under s root) (place + 1)
  second-named = record { access = access; address = address + 1; names = second (address + 1) refl }

  pub half-is : loaded (content_under s root) access Halfword address
      ≡ Ok (from_le_bytes w16 ((content_under s root).byte place ∷ (content_under s root).byte (place + 1) ∷ []))
  half-is = two-places (content_under s root) access address place (place + 1) found (second (next_address address) (omega (arith, even, small)))

module _ (s : State) (root : Option ℕ) (address place value : ℕ) (even : address % 2 ≡ 0) (small : address < 2 ^ 32)
    (found : place_at (content_under s root) Store address ≡ Ok place) where
  pub half-stored : (bytes : List ℕ) → bytes ≡ to_le_bytes w32 value
      → stored (content_under s root) Halfword address value
      ≡ Ok (put_byte (put_byte (content_under s root) place (slice_index bytes 0)) (place + 1) (slice_index bytes 1))
  half-stored bytes is =
      two-stored (content_under s root) address place (place + 1) value found
      (second s root Store address place even small found (next_address address) (omega (arith, even, small)))
      ∙ sym (ap (λ (b : List ℕ). Ok (put_byte (put_byte (content_under s root) place (slice_index b 0)) (place + 1) (slice_index b 1))) is)
