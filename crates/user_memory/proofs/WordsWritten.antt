-- A word that a program writes: its four bytes at once are one after another.
use Rattle.std.proofs.Common.{ℕ, ◌≡◌, ◌∙◌, ◌+◌, ◌-◌, ◌^◌, ◌<◌, ◌≤◌, Option, Ok, List, [], ◌∷◌, ◌++◌, length, refl, sym, ap, arith, subst}
use Rattle.std.specs.Int.{to_le_bytes, w32}
use Rattle.std.specs.Prelude.{drop, slice_index, take}
use Rattle.std.proofs.Math.Seq.{take-append_seam}
use Rattle.std.proofs.lemmas.List.{append_assoc, length-append, length-take-le}
use Rattle.std.proofs.lemmas.Slice.{drop-append-drop}
use Rattle.kernel_invariant.specs.Wholeness.{IsWhole}
use Rattle.model.specs.Capabilities.Slots.{OutsideSlots, Slots}
use Rattle.model.specs.Machine.ProgramMemory.{Content, IsNamed, put_byte, stored}
use Rattle.model.specs.Shared.Bytes.{word_bytes, written}
use Rattle.model.specs.declared.instructions.Access.TheVariants.{Store}
use Rattle.model.specs.declared.instructions.AccessSize.TheVariants.{Word}
use Rattle.objects.specs.Tables.{Tables, state_of}
use Rattle.user_memory.proofs.WordStores.{word-stored}
use Rattle.user_memory.proofs.Words.{named-behind, word-inside}
use Rattle.user_memory.proofs.Writing.{content-after, may-outside, rest-after, usable-after, whole-after}
use Rattle.user_memory.specs.Views.{IsUsable, IsWordAt, beside_of, content_under}

-- ---- pieces of several bytes

-- the first byte, and then the others
written-one : (m : List ℕ) (p x : ℕ) (xs : List ℕ) → p + 1 ≤ length m → written m p (x ∷ xs) ≡ written (written m p (x ∷ [])) (p + 1) xs
written-one m p x xs inside =
    let a : List ℕ = take p m ++ (x ∷ []) in
    let all : List ℕ = a ++ drop (p + 1) m in
    let size : length a ≡ p + 1 = length-append (take p m) (x ∷ []) ∙ ap (λ (n : ℕ). n + 1) (length-take-le p m (omega (arith, inside))) in
    let first : take (p + 1) all ≡ a = ap (λ (n : ℕ). take n all) (sym size) ∙ take-append_seam a (drop (p + 1) m) in
    let last : drop (p + 1 + length xs) all ≡ drop (p + 1 + length xs) m = drop-append-drop (p + 1) m a (p + 1 + length xs) (omega arith) size in
    let count : p + 1 + length xs ≡ p + length (x ∷ xs) = omega arith in
    sym (ap (λ (l : List ℕ). l ++ xs ++ drop (p + 1 + length xs) all) first
    ∙ ap (λ (l : List ℕ). a ++ xs ++ l) last
    ∙ ap (λ (l : List ℕ). l ++ drop (p + 1 + length xs) m) (append_assoc (take p m) (x ∷ []) xs)
    ∙ ap (λ (n : ℕ). take p m ++ (x ∷ xs) ++ drop n m) count)

-- ---- what is so after each byte

module _ (o : Tables) (slots : Slots) (root : Option ℕ) (old : List ℕ) (store : ℕ) where
  pub record After (content : Content) (memory : List ℕ) : Type 0 where
    pub usable : ∥ IsUsable (state_of o slots memory) memory root ∥₁
    pub whole : IsWhole o slots memory
    pub size : length memory ≡ length old
    pub sees : content_under (state_of o slots memory) root ≡ content
    pub rest : beside_of o slots memory root store ≡ beside_of o slots old root store

  one-more : (content : Content) (memory : List ℕ) (place value : ℕ) → After content memory → IsNamed content place → value < 2 ^ 8
      → After (put_byte content place value) (written memory place (value ∷ []))
  one-more content memory place value after named less =
      let here = subst (λ (x : Content). IsNamed x place) (sym after.sees) named in
      let new = written memory place (value ∷ []) in
      record {
        usable = usable-after o slots memory root place value after.usable here after.whole.stands slots new refl refl;
        whole = whole-after o slots memory root place value after.usable here after.whole.stands slots new refl refl after.whole less;
        size = ap (λ b. b.size) (rest-after o slots memory root place value after.usable here after.whole.stands slots new refl refl store) ∙ after.size;
        sees = content-after o slots memory root place value after.usable here after.whole.stands slots new refl refl
            ∙ ap (λ (x : Content). put_byte x place value) after.sees;
        rest = rest-after o slots memory root place value after.usable here after.whole.stands slots new refl refl store ∙ after.rest;
      }

module _ (o : Tables) (slots : Slots) (memory : List ℕ) (root : Option ℕ) (address place value : ℕ)
    (usable : ∥ IsUsable (state_of o slots memory) memory root ∥₁) (at : IsWordAt (content_under (state_of o slots memory) root) address place)
    (small : address < 2 ^ 32) (whole : IsWhole o slots memory) where
  abbrev content : Content
  content = content_under (state_of o slots memory) root

  abbrev byte : ℕ → ℕ
  byte k = slice_index (to_le_bytes w32 value) k

  named : (k : ℕ) → k < 4 → IsNamed content (place + k)
  named k few = named-behind (state_of o slots memory) memory root usable Store address place at.aligned small at.named k few

  first-named : IsNamed content place
  first-named = record { access = Store; address = address; names = at.named }

  pub word-within : place + 4 ≤ length memory
  word-within = word-inside (state_of o slots memory) memory root usable Store address place at.aligned small at.named

  pub word-outside : OutsideSlots slots place 4
  word-outside other low high =
      may-outside o slots memory root (place + (other - place)) 0 usable (named (other - place) (omega (arith, low, high))) whole.stands other
      (omega (arith, low)) (omega (arith, low))

  -- what bytes are there does not change which places are named
  moved : (bytes : ℕ → ℕ) (k : ℕ) → k < 4 → IsNamed (record content { byte = bytes }) (place + k)
  moved bytes k few = let is = named k few in record { access = is.access; address = is.address; names = is.names }

  pub word-after : (store : ℕ) → After o slots root memory store
      (put_byte (put_byte (put_byte (put_byte content place (byte 0)) (place + 1) (byte 1)) (place + 2) (byte 2)) (place + 3) (byte 3))
      (written memory place (word_bytes value))
  word-after store =
      let m1 = written memory place (byte 0 ∷ []) in
      let m2 = written m1 (place + 1) (byte 1 ∷ []) in
      let m3 = written m2 (place + 2) (byte 2 ∷ []) in
      let c1 : Content = put_byte content place (byte 0) in
      let c2 : Content = put_byte c1 (place + 1) (byte 1) in
      let c3 : Content = put_byte c2 (place + 2) (byte 2) in
      let begins : After o slots root memory store content memory = record { usable = usable; whole = whole; size = refl; sees = refl; rest = refl } in
      let one = one-more o slots root memory store content memory place (byte 0) begins first-named (omega arith) in
      let two = one-more o slots root memory store c1 m1 (place + 1) (byte 1) one (moved c1.byte 1 (omega arith)) (omega arith) in
      let three = one-more o slots root memory store c2 m2 (place + 2) (byte 2) two (moved c2.byte 2 (omega arith)) (omega arith) in
      let four = one-more o slots root memory store c3 m3 (place + 3) (byte 3) three (moved c3.byte 3 (omega arith)) (omega arith) in
      let inside = word-within in
      let second : place + 1 + 1 ≡ place + 2 = omega arith in
      let third : place + 2 + 1 ≡ place + 3 = omega arith in
      let same : written memory place (byte 0 ∷ byte 1 ∷ byte 2 ∷ byte 3 ∷ []) ≡ written m3 (place + 3) (byte 3 ∷ []) =
      written-one memory place (byte 0) (byte 1 ∷ byte 2 ∷ byte 3 ∷ []) (omega (arith, inside))
      ∙ written-one m1 (place + 1) (byte 1) (byte 2 ∷ byte 3 ∷ []) (omega (arith, inside, one.size))
      ∙ ap (λ (p : ℕ). written m2 p (byte 2 ∷ byte 3 ∷ [])) second
      ∙ written-one m2 (place + 2) (byte 2) (byte 3 ∷ []) (omega (arith, inside, two.size))
      ∙ ap (λ (p : ℕ). written m3 p (byte 3 ∷ [])) third in
      subst (λ (m : List ℕ). After o slots root memory store (put_byte c3 (place + 3) (byte 3)) m) (sym same) four

  abbrev words : Content
  words = put_byte (put_byte (put_byte (put_byte content place (byte 0)) (place + 1) (byte 1)) (place + 2) (byte 2)) (place + 3) (byte 3)

  -- it is the word that is stored
  pub word-is : stored content Word address value ≡ Ok words
  word-is = word-stored (state_of o slots memory) memory root usable address place value at.aligned small at.named (to_le_bytes w32 value) refl

  -- in the words of a store that wrote it
  pub record Left (store : ℕ) (now : Slots) (new : List ℕ) : Type 0 where
    pub usable_now : ∥ IsUsable (state_of o now new) new root ∥₁
    pub whole_now : IsWhole o now new
    pub sees : content_under (state_of o now new) root ≡ words
    pub rest : beside_of o now new root store ≡ beside_of o slots memory root store

  pub word-left : (store : ℕ) (now : Slots) (new : List ℕ) → now ≡ slots → new ≡ written memory place (word_bytes value) → Left store now new
  word-left store now new kept puts =
      let after = word-after store in
      subst (λ (n : Slots). Left store n new) (sym kept)
      (subst (λ (m : List ℕ). Left store slots m) (sym puts)
      (record { usable_now = after.usable; whole_now = after.whole; sees = after.sees; rest = after.rest }))
