-- Words of capabilities: the first one tells whether there is none.
use Rattle.std.proofs.Common.{ℕ, ◌≡◌, ◌∙◌, ◌==◌, ◌≤◌, ◌%◌, true, false, is_some, Option, Some, None, List, [], ◌∷◌, get_or, refl, sym, ap, arith}
use Rattle.std.specs.Option.{option_map_or}
use Rattle.std.proofs.lemmas.Bool.{eq-eqb}
use Rattle.std.proofs.lemmas.Bool.Decides.{nat_tests}
use Rattle.image_reading.proofs.Laws.{words-back, words-only}
use Rattle.model.specs.Capabilities.CapabilityFields.{unpacked}
use Rattle.model.specs.Capabilities.CapabilityKinds.{frame_mapping}
use Rattle.model.specs.Capabilities.CapabilityWords.{IsCapability, head_word, words_of}
use Rattle.model.specs.Capabilities.Slots.{is_empty}
use Rattle.model.specs.declared.capabilities.Cap.{Cap}
use Rattle.model.specs.declared.capabilities.Cap.TheVariants.{Empty, Untyped, Endpoint, Notification, CNode, Frame, PageTable, Tcb, RootTable, InterruptControl}
use Rattle.model.specs.declared.capabilities.Cap.TheVariants.{InterruptHandler}
use Rattle.typestate.specs.PackedChanges.{cap_of}

more-than-none : (n : ℕ) → 1 ≤ n → (n == 0) ≡ false
more-than-none n more = grind (arith, nat_tests)

some-head : (kind detail rights offset : ℕ) → 1 ≤ kind → (head_word kind detail rights offset == 0) ≡ false
some-head kind detail rights offset more = more-than-none (head_word kind detail rights offset) (omega (arith, more))

first-word : (c : Cap) → (get_or (words_of c) 0 0 == 0) ≡ is_empty c
first-word Empty = refl
first-word (Untyped offset bits watermark) = some-head 1 bits 0 offset (omega arith)
first-word (Tcb offset) = some-head 2 0 0 offset (omega arith)
first-word (Endpoint offset rights badge) = some-head 3 rights.0 0 offset (omega arith)
first-word (Notification offset rights badge) = some-head 4 rights.0 0 offset (omega arith)
first-word (CNode offset radix guard) = some-head 5 radix 0 offset (omega arith)
first-word (Frame offset rights None) = some-head 6 rights.0 0 offset (omega arith)
first-word (Frame offset rights (Some m)) = some-head 6 rights.0 m.rights.0 offset (omega arith)
first-word (PageTable offset None) = some-head 7 0 0 offset (omega arith)
first-word (PageTable offset (Some m)) = some-head 7 0 0 offset (omega arith)
first-word (RootTable offset) = some-head 8 0 0 offset (omega arith)
first-word InterruptControl = refl
first-word (InterruptHandler line) = refl

pub empty-told : (head word : ℕ) → is_some (unpacked head word) ≡ true → (head == 0) ≡ is_empty (cap_of head word)
empty-told head word some =
    elim (unpacked head word) as (λ o. unpacked head word ≡ o → is_some o ≡ true → (head == 0) ≡ is_empty (option_map_or (λ (c : Cap). c) o Empty)) [
      | None ↦ λ _ none. absurd (let clash : false ≡ true = none in cc)
      | Some c ↦ λ is _. ap (λ (l : List ℕ). get_or l 0 0 == 0) (sym (words-only head word c is).1) ∙ first-word c
    ] refl some

-- the words of a capability are those of what they stand for
pub words-again : (capability : Cap) (words : List ℕ) → words ≡ words_of capability → IsCapability capability →
    words_of (cap_of (get_or words 0 0) (get_or words 1 0)) ≡ get_or words 0 0 ∷ get_or words 1 0 ∷ []
words-again capability words are valid =
    let head : ℕ = get_or words 0 0 in
    let word : ℕ = get_or words 1 0 in
    let is : unpacked head word ≡ Some capability =
    ap (λ (l : List ℕ). unpacked (get_or l 0 0) (get_or l 1 0)) are ∙ words-back capability valid in
    ap (λ (o : Option Cap). words_of (option_map_or (λ (c : Cap). c) o Empty)) is ∙ (words-only head word capability is).1

pub spelled-so : (capability : Cap) (words : List ℕ) → words ≡ words_of capability → IsCapability capability →
    is_some (unpacked (get_or words 0 0) (get_or words 1 0)) ≡ true
spelled-so capability words are valid =
    ap (λ (l : List ℕ). is_some (unpacked (get_or l 0 0) (get_or l 1 0))) are ∙ ap (λ (o : Option Cap). is_some o) (words-back capability valid)

valid-none : IsCapability Empty
valid-none = tt

-- words that are those of what they stand for stand for something
pub spelled-again : (head word : ℕ) → words_of (cap_of head word) ≡ head ∷ word ∷ [] → is_some (unpacked head word) ≡ true
spelled-again head word are =
    elim (unpacked head word) as (λ o. unpacked head word ≡ o → words_of (option_map_or (λ (c : Cap). c) o Empty) ≡ head ∷ word ∷ [] → is_some o ≡ true) [
      | None ↦ λ none zeros.
          sym (ap (λ (o : Option Cap). is_some o) none)
          ∙ ap (λ (l : List ℕ). is_some (unpacked (get_or l 0 0) (get_or l 1 0))) (sym zeros)
          ∙ ap (λ (o : Option Cap). is_some o) (words-back Empty valid-none)
      | Some c ↦ λ _ _. refl
    ] refl are

-- and the other way round
pub words-kept : (head word : ℕ) → is_some (unpacked head word) ≡ true → words_of (cap_of head word) ≡ head ∷ word ∷ []
words-kept head word some =
    elim (unpacked head word) as (λ o. unpacked head word ≡ o → is_some o ≡ true → words_of (option_map_or (λ (c : Cap). c) o Empty) ≡ head ∷ word ∷ []) [
      | None ↦ λ _ none. absurd (let clash : false ≡ true = none in cc)
      | Some c ↦ λ is _. (words-only head word c is).1
    ] refl some

-- ---- frames

-- the lowest bits of the first word of a frame
frame-head : (detail rights offset : ℕ) → head_word 6 detail rights offset % 16 ≡ 6
frame-head detail rights offset = omega arith

other-kind : (c : Cap) → (get_or (words_of c) 0 0 % 16 == 6) ≡ false → frame_mapping c ≡ None
other-kind Empty off = refl
other-kind (Untyped _ _ _) off = refl
other-kind (Tcb _) off = refl
other-kind (Endpoint _ _ _) off = refl
other-kind (Notification _ _ _) off = refl
other-kind (CNode _ _ _) off = refl
other-kind (Frame _ _ None) off = refl
other-kind (Frame offset rights (Some m)) off =
    absurd (let clash : false ≡ true = sym off ∙ eq-eqb (head_word 6 rights.0 m.rights.0 offset % 16) 6 (frame-head rights.0 m.rights.0 offset) in cc)
other-kind (PageTable _ _) off = refl
other-kind (RootTable _) off = refl
other-kind InterruptControl off = refl
other-kind (InterruptHandler _) off = refl

-- what is no frame maps no page, which the first word tells
pub no-page : (head word : ℕ) → words_of (cap_of head word) ≡ head ∷ word ∷ [] → (head % 16 == 6) ≡ false → frame_mapping (cap_of head word) ≡ None
no-page head word are off = other-kind (cap_of head word) (ap (λ (l : List ℕ). get_or l 0 0 % 16 == 6) are ∙ off)
