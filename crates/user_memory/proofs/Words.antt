-- The four bytes of a word at a multiple of 4 lie in one page.
use Rattle.std.proofs.Common.{ℕ, ◌≡◌, ◌∙◌, ◌+◌, ◌*◌, ◌/◌, ◌%◌, ◌^◌, ◌<◌, ◌≤◌, Bool, true, false, if◌then◌else◌, Option, Some, None, Ok, List, [], ◌∷◌, length}
use Rattle.std.proofs.Common.{refl, sym, ap, arith}
use Rattle.std.specs.Int.{from_le_bytes, w32}
use Rattle.std.specs.Prelude.{option_and_then, slice_index}
use Rattle.model.specs.Kernel.AddressSpaces.{allows, mapped, page_size, place_in, place_under}
use Rattle.model.specs.Kernel.State.{State}
use Rattle.model.specs.Machine.ProgramMemory.{Content, IsNamed, loaded, next_address, place_at, place_or_fault}
use Rattle.model.specs.Capabilities.Slots.{Slots}
use Rattle.model.specs.Shared.Bytes.{word_at}
use Rattle.model.specs.declared.instructions.Access.{Access}
use Rattle.model.specs.declared.instructions.AccessSize.TheVariants.{Word}
use Rattle.objects.specs.Tables.{Tables, state_of}
use Rattle.user_memory.proofs.Named.{and-then, place-found}
use Rattle.user_memory.proofs.Reading.{byte-seen, named-inside}
use Rattle.user_memory.specs.Views.{IsUsable, content_under}

-- ---- places

next-in_page : (b : Bool) (at place k next : ℕ) → (if b then Some at else None) ≡ Some place → next ≡ at + k →
    (if b then Some next else None) ≡ Some (place + k)
next-in_page true at place k next is behind = let same : Some at ≡ Some place = is in let e : at ≡ place = cc in ap Some (behind ∙ ap (λ (n : ℕ). n + k) e)
next-in_page false at place k next is behind = absurd (let clash : None ≡ Some place = is in cc)

pub place-near : (s : State) (root : Option ℕ) (access : Access) (address place k : ℕ) → (address + k) / page_size ≡ address / page_size
    → (address + k) % page_size ≡ address % page_size + k → (content_under s root).place access address ≡ Some place
    → (content_under s root).place access (address + k) ≡ Some (place + k)
place-near s root access address place k page offset is =
    let table = and-then (λ (table : ℕ). place_under s table access address) root place is in
    let at = and-then (place_in access address) (mapped s table.0 (address / page_size)) place table.2 in
    ap (option_and_then (λ (table : ℕ). place_under s table access (address + k))) table.1
    ∙ ap (λ (n : ℕ). option_and_then (place_in access (address + k)) (mapped s table.0 n)) page
    ∙ ap (option_and_then (place_in access (address + k))) at.1
    ∙ next-in_page (allows access at.0.allowed) (at.0.frame + address % page_size) place k (at.0.frame + (address + k) % page_size) at.2
    (ap (λ (n : ℕ). at.0.frame + n) offset ∙ omega arith)

place-behind : (s : State) (root : Option ℕ) (access : Access) (address place k : ℕ) → address % 4 ≡ 0 → k < 4 →
    (content_under s root).place access address ≡ Some place
    → (content_under s root).place access (address + k) ≡ Some (place + k)
place-behind s root access address place k aligned few =
    place-near s root access address place k (omega (arith, aligned, few)) (omega (arith, aligned, few))

-- ---- numbers

word-of : (a b c d : ℕ) → from_le_bytes w32 (a ∷ b ∷ c ∷ d ∷ []) ≡ a + 2 ^ 8 * b + 2 ^ 16 * c + 2 ^ 24 * d
word-of a b c d = omega arith

four-places : (content : Content) (access : Access) (a p q r s : ℕ) → place_at content access a ≡ Ok p → place_at content access (next_address a) ≡ Ok q
    → place_at content access (next_address (next_address a)) ≡ Ok r → place_at content access (next_address (next_address (next_address a))) ≡ Ok s
    → loaded content access Word a ≡ Ok (from_le_bytes w32 (content.byte p ∷ content.byte q ∷ content.byte r ∷ content.byte s ∷ []))
four-places content access a p q r s first second third fourth = rw (first, second, third, fourth) refl

-- ---- a word

module _ (s : State) (memory : List ℕ) (root : Option ℕ) (usable : ∥ IsUsable s memory root ∥₁) (access : Access) (address place : ℕ)
    (aligned : address % 4 ≡ 0)
    (small : address < 2 ^ 32) (found : place_at (content_under s root) access address ≡ Ok place) where
  pub behind : (k next : ℕ) → k < 4 → next ≡ address + k → place_at (content_under s root) access next ≡ Ok (place + k)
  behind k next few is =
      ap (place_at (content_under s root) access) is
      ∙ ap (λ (p : Option ℕ). place_or_fault p access (address + k))
      (place-behind s root access address place k aligned few (place-found ((content_under s root).place access address) access address place found))

  pub named-behind : (k : ℕ) → k < 4 → IsNamed (content_under s root) (place + k)
  named-behind k few = record { access = access; address = address + k; names = behind k (address + k) few refl }

  pub word-inside : place + 4 ≤ length memory
  word-inside = omega (arith, named-inside s memory root usable (place + 3) (named-behind 3 (omega arith)))

  pub word-is : loaded (content_under s root) access Word address ≡ Ok (from_le_bytes w32 ((content_under s root).byte place
      ∷ (content_under s root).byte (place + 1) ∷ (content_under s root).byte (place + 2) ∷ (content_under s root).byte (place + 3) ∷ []))
  word-is =
      four-places (content_under s root) access address place (place + 1) (place + 2) (place + 3) found
      (behind 1 (next_address address) (omega arith) (omega (arith, aligned, small)))
      (behind 2 (next_address (next_address address)) (omega arith) (omega (arith, aligned, small)))
      (behind 3 (next_address (next_address (next_address address))) (omega arith) (omega (arith, aligned, small)))

pub word-loaded : (o : Tables) (slots : Slots) (memory : List ℕ) (root : Option ℕ) (access : Access) (address place : ℕ) →
    ∥ IsUsable (state_of o slots memory) memory root ∥₁
    → address % 4 ≡ 0 → address < 2 ^ 32 → place_at (content_under (state_of o slots memory) root) access address ≡ Ok place
    → Ok (word_at memory place) ≡ loaded (content_under (state_of o slots memory) root) access Word address
word-loaded o slots memory root access address place usable aligned small found =
    let s = state_of o slots memory in
    let byte : (k : ℕ) → k < 4 → (content_under s root).byte (place + k) ≡ slice_index memory (place + k) =
    λ k few. sym (byte-seen o slots memory root (place + k) usable (named-behind s memory root usable access address place aligned small found k few)) in
    let first : (content_under s root).byte place ≡ slice_index memory place =
    sym (byte-seen o slots memory root place usable (record { access = access; address = address; names = found })) in
    let second = byte 1 (omega arith) in
    let third = byte 2 (omega arith) in
    let fourth = byte 3 (omega arith) in
    sym (word-is s memory root usable access address place aligned small found
    ∙ ap Ok (word-of ((content_under s root).byte place) ((content_under s root).byte (place + 1)) ((content_under s root).byte (place + 2))
    ((content_under s root).byte (place + 3))
    ∙ same-sum first second third fourth))
  where
    same-sum : {a b c d e f g h : ℕ} → a ≡ e → b ≡ f → c ≡ g → d ≡ h → a + 2 ^ 8 * b + 2 ^ 16 * c + 2 ^ 24 * d ≡ e + 2 ^ 8 * f + 2 ^ 16 * g + 2 ^ 24 * h
    same-sum a b c d = rw (a, b, c, d) refl
