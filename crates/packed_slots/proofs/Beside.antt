-- The bytes at places where no slot is open stay as they are.
use Rattle.std.proofs.Common.{ℕ, zero, suc, ◌≡◌, ◌≢◌, ◌∙◌, ◌+◌, ◌-◌, ◌*◌, ◌/◌, ◌%◌, ◌<◌, ◌≤◌, inl, inr, Bool, true, false, if◌then◌else◌, Option, Some, None}
use Rattle.std.proofs.Common.{List, [], ◌∷◌, length, replicate, slice_index, refl, sym, ap, arith}
use Rattle.std.proofs.lemmas.Bool.Decides.{eqb_tells, nat_tests}
use Rattle.std.proofs.lemmas.Bool.{cases_lt, lt-ltb, le-ltb}
use Rattle.std.proofs.lemmas.List.{length-replicate}
use Rattle.model.proofs.BytesLemmas.{slice_index-written_before, slice_index-written_behind}
use Rattle.model.proofs.SlotChanges.{bounds-within}
use Rattle.model.specs.Capabilities.Orders.{first_of}
use Rattle.model.specs.Capabilities.Slots.{SameOutside, is_within}
use Rattle.model.specs.Shared.Bytes.{word_bytes}
use Rattle.slots.proofs.Laws.{chain-same, rows-here, rows-rest}
use Rattle.slots.specs.preorder.Chains.{IsChain, Links}
use Rattle.slots.specs.preorder.Preorder.{Row, rows_of, slots_of}
use Rattle.packed_slots.specs.Packing.{is_open_in, slots_as}
use Rattle.packed_slots.specs.Words.{Words, back_word, blanked, depth_in, link_word, linked_behind, linked_first, lowered_memory, next_in, unlinked}
use Rattle.packed_slots.specs.Words.{with_back_at, with_cap, with_link, with_next_at, with_word, word_of, words_in}
use Rattle.packed_slots.proofs.PackedFacts.{closed-from}
use Rattle.packed_slots.proofs.WordWrites.{depth-small, next-small, put-next-same, size-back_at, size-next_at, size-word, words-link}
use Rattle.packed_slots.proofs.WordsBehind.{deep_inside}

abbrev pub SameClosed : List Bool → List ℕ → List ℕ → Type 0
SameClosed o old new = (place : ℕ) → is_open_in o (place / 16) ≡ false → slice_index new place ≡ slice_index old place

pub closed-then : (o : List Bool) (a b c : List ℕ) → SameClosed o a b → SameClosed o b c → SameClosed o a c
closed-then o a b c first second place closed = second place closed ∙ first place closed

closed-off : (o : List Bool) (s place : ℕ) → is_open_in o s ≡ true → is_open_in o (place / 16) ≡ false → place / 16 ≢ s
closed-off o s place is closed same = absurd (let clash : true ≡ false = sym is ∙ ap (is_open_in o) (sym same) ∙ closed in cc)

pub closed-word : (o : List Bool) (m : List ℕ) (s k word : ℕ) → is_open_in o s ≡ true → 16 * (s + 1) ≤ length m → k < 4 → SameClosed o m (with_word m s k word)
closed-word o m s k word is inside small place closed =
    let off = closed-off o s place is closed in
    elim (cases_lt place (16 * s + 4 * k)) [
      | inl less ↦ slice_index-written_before m (16 * s + 4 * k) (word_bytes word) place (omega (arith, inside, small)) less
      | inr least ↦ slice_index-written_behind m (16 * s + 4 * k) (word_bytes word) place (omega (arith, inside, small)) (omega (arith, least, off, small))
    ]

pub closed-blanked : (o : List Bool) (m : List ℕ) (first count : ℕ) → ((s : ℕ) → is_within first count s ≡ true → is_open_in o s ≡ true) →
    16 * (first + count) ≤ length m
    → SameClosed o m (blanked m first count)
closed-blanked o m first count opens inside place closed =
    let size = length-replicate {A = ℕ} (16 * count) 0 in
    elim (cases_lt place (16 * first)) [
      | inl less ↦ slice_index-written_before m (16 * first) (replicate (16 * count) 0) place (omega (arith, inside, size)) less
      | inr least ↦ elim (cases_lt place (16 * (first + count))) [
        | inl within ↦ absurd (closed-off o (place / 16) place
            (opens (place / 16) (bounds-within first count (place / 16) (omega (arith, least)) (omega (arith, within)))) closed refl)
        | inr past ↦ slice_index-written_behind m (16 * first) (replicate (16 * count) 0) place (omega (arith, inside, size)) (omega (arith, past, size))
      ]
    ]

pub closed-back_at : (o : List Bool) (m : List ℕ) (at v : Option ℕ) → ((s : ℕ) → at ≡ Some s → is_open_in o s ≡ true) →
    ((s : ℕ) → at ≡ Some s → 16 * (s + 1) ≤ length m)
    → SameClosed o m (with_back_at m at v)
closed-back_at o m None v is inside = λ place closed. refl
closed-back_at o m (Some s) v is inside = closed-word o m s 3 (back_word v) (is s refl) (inside s refl) (omega arith)

pub closed-next_at : (o : List Bool) (m : List ℕ) (at v : Option ℕ) → ((s : ℕ) → at ≡ Some s → is_open_in o s ≡ true) →
    ((s : ℕ) → at ≡ Some s → 16 * (s + 1) ≤ length m)
    → SameClosed o m (with_next_at m at v)
closed-next_at o m None v is inside = λ place closed. refl
closed-next_at o m (Some s) v is inside = closed-word o m s 2 (link_word v (depth_in (word_of m s 2))) (is s refl) (inside s refl) (omega arith)

pub closed-cap : (o : List Bool) (m : List ℕ) (s head tail : ℕ) → is_open_in o s ≡ true → 16 * (s + 1) ≤ length m → SameClosed o m (with_cap m s head tail)
closed-cap o m s head tail is inside =
    let one = with_word m s 0 head in
    closed-then o m one (with_cap m s head tail) (closed-word o m s 0 head is inside (omega arith))
    (closed-word o one s 1 tail is (omega (arith, inside, size-word m s 0 head inside (omega arith))) (omega arith))

pub size-cap : (m : List ℕ) (s head tail : ℕ) → 16 * (s + 1) ≤ length m → length (with_cap m s head tail) ≡ length m
size-cap m s head tail inside =
    let size = size-word m s 0 head inside (omega arith) in
    size-word (with_word m s 0 head) s 1 tail (omega (arith, inside, size)) (omega arith) ∙ size

pub closed-behind : (o : List Bool) (m : List ℕ) (at slot d : ℕ) → is_open_in o at ≡ true → is_open_in o slot ≡ true
    → ((s : ℕ) → (words_in m).next at ≡ Some s → is_open_in o s ≡ true) → 16 * (at + 1) ≤ length m → 16 * (slot + 1) ≤ length m
    → ((s : ℕ) → (words_in m).next at ≡ Some s → 16 * (s + 1) ≤ length m) → SameClosed o m (linked_behind m at slot d)
closed-behind o m at slot d is is' near inside own near' =
    let after = (words_in m).next at in
    let one = with_link m at (Some slot) ((words_in m).depth at) in
    let two = with_link one slot after d in
    let three = with_back_at two after (Some slot) in
    let size = size-word m at 2 (link_word (Some slot) ((words_in m).depth at)) inside (omega arith) in
    let size' = size-word one slot 2 (link_word after d) (omega (arith, own, size)) (omega arith) in
    let near'' : (s : ℕ) → after ≡ Some s → 16 * (s + 1) ≤ length two = λ s same. omega (arith, near' s same, size, size') in
    let size'' = size-back_at two after (Some slot) near'' in
    closed-then o m one (linked_behind m at slot d) (closed-word o m at 2 (link_word (Some slot) ((words_in m).depth at)) is inside (omega arith))
    (closed-then o one two (linked_behind m at slot d) (closed-word o one slot 2 (link_word after d) is' (omega (arith, own, size)) (omega arith))
    (closed-then o two three (linked_behind m at slot d) (closed-back_at o two after (Some slot) near near'')
    (closed-word o three slot 3 (back_word (Some at)) is' (omega (arith, own, size, size', size'')) (omega arith))))

pub closed-first : (o : List Bool) (m : List ℕ) (first : Option ℕ) (slot : ℕ) → is_open_in o slot ≡ true → ((s : ℕ) → first ≡ Some s → is_open_in o s ≡ true)
    → 16 * (slot + 1) ≤ length m → ((s : ℕ) → first ≡ Some s → 16 * (s + 1) ≤ length m) → SameClosed o m (linked_first m first slot)
closed-first o m first slot is near own near' =
    let one = with_link m slot first 0 in
    let two = with_back_at one first (Some slot) in
    let size = size-word m slot 2 (link_word first 0) own (omega arith) in
    let near'' : (s : ℕ) → first ≡ Some s → 16 * (s + 1) ≤ length one = λ s same. omega (arith, near' s same, size) in
    let size' = size-back_at one first (Some slot) near'' in
    closed-then o m one (linked_first m first slot) (closed-word o m slot 2 (link_word first 0) is own (omega arith))
    (closed-then o one two (linked_first m first slot) (closed-back_at o one first (Some slot) near near'')
    (closed-word o two slot 3 (back_word None) is (omega (arith, own, size, size')) (omega arith)))

pub closed-unlinked : (o : List Bool) (m : List ℕ) (slot : ℕ) → is_open_in o slot ≡ true
    → ((s : ℕ) → (words_in m).next slot ≡ Some s → is_open_in o s ≡ true) → ((s : ℕ) → (words_in m).previous slot ≡ Some s → is_open_in o s ≡ true)
    → 16 * (slot + 1) ≤ length m
    → ((s : ℕ) → (words_in m).next slot ≡ Some s → 16 * (s + 1) ≤ length m) → ((s : ℕ) → (words_in m).previous slot ≡ Some s → 16 * (s + 1) ≤ length m)
    → SameClosed o m (unlinked m slot)
closed-unlinked o m slot is near near' own inside inside' =
    let after = (words_in m).next slot in
    let before = (words_in m).previous slot in
    let one = with_next_at m before after in
    let two = with_back_at one after before in
    let size = size-next_at m before after inside' in
    let inside'' : (s : ℕ) → after ≡ Some s → 16 * (s + 1) ≤ length one = λ s same. omega (arith, inside s same, size) in
    let size' = size-back_at one after before inside'' in
    closed-then o m one (unlinked m slot) (closed-next_at o m before after near' inside')
    (closed-then o one two (unlinked m slot) (closed-back_at o one after before near inside'')
    (closed-blanked o two slot 1 (λ s within. ap (is_open_in o) (let e : s ≡ slot = grind (arith, nat_tests, within) in e) ∙ is)
    (omega (arith, own, size, size'))))

-- ---- a run that is lowered

rest-more : (r : Row) (rest : List Row) (s : ℕ) → rows_of rest s ≤ rows_of (r ∷ rest) s
rest-more r rest s = elim (eqb_tells r.slot s) [ inl here ↦ omega (arith, rows-here r rest s here.1) | inr other ↦ omega (arith, rows-rest r rest s other.1) ]

closed-run : (rest : List Row) (o : List Bool) (previous : Links) (before : Option ℕ) (m : List ℕ) (d n : ℕ) → length m % 16 ≡ 0
    → IsChain (words_in m).next previous before (slots_of rest) → ((s : ℕ) → 0 < rows_of rest s → is_open_in o s ≡ true)
    → SameClosed o m (lowered_memory d n (first_of (slots_of rest)) m)
unfolding lowered_memory
closed-run [] o previous before m d zero whole chain opens = λ place closed. refl
closed-run [] o previous before m d (suc n) whole chain opens = λ place closed. refl
closed-run (r ∷ rest) o previous before m d zero whole chain opens = λ place closed. refl
closed-run (r ∷ rest) o previous before m d (suc n) whole chain opens =
    let s = r.slot in
    let word = word_of m s 2 in
    let less = with_link m s (next_in word) (depth_in word - 1) in
    elim (cases_lt d (depth_in word)) [
      | inl deep ↦
          let inside = deep_inside m s d whole deep in
          let size = size-word m s 2 (link_word (next_in word) (depth_in word - 1)) inside (omega arith) in
          let link = words-link m s (next_in word) (depth_in word - 1) inside (λ k is. next-small word k is) (omega (arith, depth-small word)) in
          let nexts : (z : ℕ) → (words_in less).next z ≡ (words_in m).next z =
          λ z. ap (λ (w : Words). w.next z) link ∙ put-next-same (words_in m).next s z in
          let more = closed-run rest o previous (Some s) less d n (ap (λ k. k % 16) size ∙ whole)
          (chain-same (slots_of rest) (words_in m).next previous (words_in less).next previous (Some s) chain.2 (λ z is. nexts z) (λ z is. refl))
          (λ z is. opens z (omega (arith, is, rest-more r rest z))) in
          λ place closed.
          ap (λ b. slice_index (if b then lowered_memory d n (next_in word) less else m) place) (lt-ltb d (depth_in word) deep)
          ∙ ap (λ (f : Option ℕ). slice_index (lowered_memory d n f less) place) chain.1
          ∙ more place closed ∙ closed-word o m s 2 (link_word (next_in word) (depth_in word - 1)) (opens s (omega (arith, rows-here r rest s refl))) inside
          (omega arith) place closed
      | inr end ↦ λ place closed. ap (λ b. slice_index (if b then lowered_memory d n (next_in word) less else m) place) (le-ltb d (depth_in word) end)
    ]

pub closed-lowered : (rows : List Row) (o : List Bool) (previous : Links) (before : Option ℕ) (m : List ℕ) (d n gone : ℕ) → length m % 16 ≡ 0
    → IsChain (words_in m).next previous before (slots_of rows) → ((s : ℕ) → 0 < rows_of rows s → is_open_in o s ≡ true) → 0 < rows_of rows gone
    → SameClosed o m (lowered_memory d n ((words_in m).next gone) m)
closed-lowered [] o previous before m d n gone whole chain opens there = absurd (omega (arith, there))
closed-lowered (r ∷ rest) o previous before m d n gone whole chain opens there = elim (eqb_tells r.slot gone) [
  | inl here ↦ λ place closed.
      ap (λ (f : Option ℕ). slice_index (lowered_memory d n f m) place) (ap (words_in m).next (sym here.1) ∙ chain.1)
      ∙ closed-run rest o previous (Some r.slot) m d n whole chain.2 (λ s is. opens s (omega (arith, is, rest-more r rest s))) place closed
  | inr other ↦
      closed-lowered rest o previous (Some r.slot) m d n gone whole chain.2 (λ s is. opens s (omega (arith, is, rest-more r rest s)))
      (omega (arith, there, rows-rest r rest gone other.1))
]

pub outside-from : (w : Words) (o : List Bool) (rows : List Row) (old new : List ℕ) → length new ≡ length old → SameClosed o old new →
    SameOutside (slots_as w o rows) old new
outside-from w o rows old new size same = record { size = size; bytes = λ place none. same place (closed-from w o rows (place / 16) none) }
