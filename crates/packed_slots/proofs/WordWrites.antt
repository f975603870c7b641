-- What writes make of the words of all slots.
use Rattle.std.proofs.Common.{ℕ, zero, suc, ◌≡◌, ◌≢◌, ◌∙◌, ◌==◌, ◌+◌, ◌-◌, ◌*◌, ◌/◌, ◌%◌, ◌^◌, ◌<◌, ◌≤◌, inl, inr, true, false, if◌then◌else◌, Option, Some}
use Rattle.std.proofs.Common.{None, List, length, replicate, slice_index, refl, sym, ap, arith}
use Rattle.std.proofs.lemmas.Bool.Decides.{eqb_tells, nat_tests}
use Rattle.std.proofs.lemmas.Bool.{cases_lt, eq-eqb, ne_eqb, lt-ltb, le-ltb}
use Rattle.std.proofs.lemmas.List.{get_or-replicate, length-replicate}
use Rattle.model.proofs.BytesLemmas.{length-written, slice_index-written_inside, word_at-written, word_at-written_before, word_at-written_behind}
use Rattle.model.proofs.SlotChanges.{within-bounds}
use Rattle.model.specs.Capabilities.Slots.{is_within}
use Rattle.model.specs.Kernel.State.{put}
use Rattle.model.specs.Shared.Bytes.{word_bytes}
use Rattle.slots.specs.preorder.Chains.{Links, lowered_depths, put_at}
use Rattle.packed_slots.specs.Words.{Words, back_word, blanked, depth_in, link_word, linked_behind, linked_first, lowered_memory, next_in, previous_in}
use Rattle.packed_slots.specs.Words.{unlinked, with_back, with_back_at, with_cap, with_link, with_next_at, with_word, word_of, words_in}
use Rattle.packed_slots.proofs.WordsBehind.{deep_inside}

-- ---- the fields of a word

pub IsSmall : Option ℕ → Type 0
IsSmall o = (s : ℕ) → o ≡ Some s → s < 2 ^ 20

next-back : (o : Option ℕ) (d : ℕ) → ((s : ℕ) → o ≡ Some s → s < 2 ^ 20) → d < 256 → next_in (link_word o d) ≡ o
next-back None d small few =
    ap (λ b. if b then Some (2 ^ 20 * d % 2 ^ 20) else None) (ne_eqb (2 ^ 20 * d / 2 ^ 28) 1 (λ same. absurd (omega (arith, same, few))))
next-back (Some s) d small few =
    let word = s + 2 ^ 20 * d + 2 ^ 28 in
    let low : s < 2 ^ 20 = small s refl in
    ap (λ b. if b then Some (word % 2 ^ 20) else None) (eq-eqb (word / 2 ^ 28) 1 (omega (arith, low, few)))
    ∙ ap Some (let e : word % 2 ^ 20 ≡ s = omega (arith, low) in e)

depth-back : (o : Option ℕ) (d : ℕ) → ((s : ℕ) → o ≡ Some s → s < 2 ^ 20) → d < 256 → depth_in (link_word o d) ≡ d
depth-back None d small few = omega (arith, few)
depth-back (Some s) d small few = omega (arith, few, small s refl)

link-fits : (o : Option ℕ) (d : ℕ) → ((s : ℕ) → o ≡ Some s → s < 2 ^ 20) → d < 256 → link_word o d < 2 ^ 32
link-fits None d small few = omega (arith, few)
link-fits (Some s) d small few = omega (arith, few, small s refl)

previous-back : (o : Option ℕ) → ((s : ℕ) → o ≡ Some s → s < 2 ^ 20) → previous_in (back_word o) ≡ o
previous-back None small = refl
previous-back (Some s) small =
    let word = s + 2 ^ 20 in
    let low : s < 2 ^ 20 = small s refl in
    ap (λ b. if b then Some (word % 2 ^ 20) else None) (eq-eqb (word / 2 ^ 20) 1 (omega (arith, low)))
    ∙ ap Some (let e : word % 2 ^ 20 ≡ s = omega (arith, low) in e)

back-fits : (o : Option ℕ) → ((s : ℕ) → o ≡ Some s → s < 2 ^ 20) → back_word o < 2 ^ 32
back-fits None small = omega arith
back-fits (Some s) small = omega (arith, small s refl)

pub next-small : (word s : ℕ) → next_in word ≡ Some s → s < 2 ^ 20
next-small word s is =
    elim (word / 2 ^ 28 == 1) as (λ b. (if b then Some (word % 2 ^ 20) else None) ≡ Some s → s < 2 ^ 20) [
      | true ↦ λ some. let same : word % 2 ^ 20 ≡ s = cc in omega (arith, same)
      | false ↦ λ none. absurd (let clash : None ≡ Some s = none in cc)
    ] is

pub previous-small : (word s : ℕ) → previous_in word ≡ Some s → s < 2 ^ 20
previous-small word s is =
    elim (word / 2 ^ 20 == 1) as (λ b. (if b then Some (word % 2 ^ 20) else None) ≡ Some s → s < 2 ^ 20) [
      | true ↦ λ some. let same : word % 2 ^ 20 ≡ s = cc in omega (arith, same)
      | false ↦ λ none. absurd (let clash : None ≡ Some s = none in cc)
    ] is

-- ---- one word

pub word-own : (m : List ℕ) (s k word : ℕ) → 16 * (s + 1) ≤ length m → k < 4 → word < 2 ^ 32 → word_of (with_word m s k word) s k ≡ word
word-own m s k word inside small fits = word_at-written m (16 * s + 4 * k) word (omega (arith, inside, small)) fits

pub word-other : (m : List ℕ) (s k word x j : ℕ) → 16 * (s + 1) ≤ length m → k < 4 → 16 * x + 4 * j ≢ 16 * s + 4 * k
    → word_of (with_word m s k word) x j ≡ word_of m x j
word-other m s k word x j inside small apart = elim (cases_lt (16 * x + 4 * j) (16 * s + 4 * k)) [
  | inl less ↦ word_at-written_before m (16 * s + 4 * k) (word_bytes word) (16 * x + 4 * j) (omega (arith, inside, small)) (omega (arith, less))
  | inr least ↦ word_at-written_behind m (16 * s + 4 * k) (word_bytes word) (16 * x + 4 * j) (omega (arith, inside, small)) (omega (arith, least, apart))
]

pub size-word : (m : List ℕ) (s k word : ℕ) → 16 * (s + 1) ≤ length m → k < 4 → length (with_word m s k word) ≡ length m
size-word m s k word inside small = length-written m (16 * s + 4 * k) (word_bytes word) (omega (arith, inside, small))

-- ---- words

put-here : {A : Type 0} (f : ℕ → A) (s x : ℕ) (v : A) → x ≡ s → put f s v x ≡ v
put-here f s x v here = ap (λ b. if b then v else f x) (eq-eqb x s here)

put-off : {A : Type 0} (f : ℕ → A) (s x : ℕ) (v : A) → x ≢ s → put f s v x ≡ f x
put-off f s x v off = ap (λ b. if b then v else f x) (ne_eqb x s off)

pub words-link : (m : List ℕ) (s : ℕ) (o : Option ℕ) (d : ℕ) → 16 * (s + 1) ≤ length m → ((n : ℕ) → o ≡ Some n → n < 2 ^ 20) → d < 256
    → words_in (with_link m s o d) ≡ record (words_in m) { next = put (words_in m).next s o; depth = put (words_in m).depth s d }
words-link m s o d inside small few =
    let new = with_link m s o d in
    let other : (x j : ℕ) → 16 * x + 4 * j ≢ 16 * s + 4 * 2 → word_of new x j ≡ word_of m x j =
    λ x j apart. word-other m s 2 (link_word o d) x j inside (omega arith) apart in
    let own : word_of new s 2 ≡ link_word o d = word-own m s 2 (link_word o d) inside (omega arith) (link-fits o d small few) in
    let at : (x : ℕ) → x ≡ s → word_of new x 2 ≡ link_word o d = λ x here. ap (λ y. word_of new y 2) here ∙ own in
    let nexts : (x : ℕ) → next_in (word_of new x 2) ≡ put (words_in m).next s o x = λ x. elim (eqb_tells x s) [
      | inl here ↦ ap next_in (at x here.1) ∙ next-back o d small few ∙ sym (put-here (words_in m).next s x o here.1)
      | inr off ↦ ap next_in (other x 2 (λ same. absurd (omega (arith, same, off.1)))) ∙ sym (put-off (words_in m).next s x o off.1)
    ] in
    let depths : (x : ℕ) → depth_in (word_of new x 2) ≡ put (words_in m).depth s d x = λ x. elim (eqb_tells x s) [
      | inl here ↦ ap depth_in (at x here.1) ∙ depth-back o d small few ∙ sym (put-here (words_in m).depth s x d here.1)
      | inr off ↦ ap depth_in (other x 2 (λ same. absurd (omega (arith, same, off.1)))) ∙ sym (put-off (words_in m).depth s x d off.1)
    ] in
    λ i. record {
      head = λ x. other x 0 (λ same. absurd (omega (arith, same))) i;
      tail = λ x. other x 1 (λ same. absurd (omega (arith, same))) i;
      next = λ x. nexts x i;
      depth = λ x. depths x i;
      previous = λ x. ap previous_in (other x 3 (λ same. absurd (omega (arith, same)))) i;
    }

pub words-back : (m : List ℕ) (s : ℕ) (o : Option ℕ) → 16 * (s + 1) ≤ length m → ((n : ℕ) → o ≡ Some n → n < 2 ^ 20)
    → words_in (with_back m s o) ≡ record (words_in m) { previous = put (words_in m).previous s o }
words-back m s o inside small =
    let new = with_back m s o in
    let other : (x j : ℕ) → 16 * x + 4 * j ≢ 16 * s + 4 * 3 → word_of new x j ≡ word_of m x j =
    λ x j apart. word-other m s 3 (back_word o) x j inside (omega arith) apart in
    let own : word_of new s 3 ≡ back_word o = word-own m s 3 (back_word o) inside (omega arith) (back-fits o small) in
    let backs : (x : ℕ) → previous_in (word_of new x 3) ≡ put (words_in m).previous s o x = λ x. elim (eqb_tells x s) [
      | inl here ↦ ap previous_in (ap (λ y. word_of new y 3) here.1 ∙ own) ∙ previous-back o small ∙ sym (put-here (words_in m).previous s x o here.1)
      | inr off ↦ ap previous_in (other x 3 (λ same. absurd (omega (arith, same, off.1)))) ∙ sym (put-off (words_in m).previous s x o off.1)
    ] in
    λ i. record {
      head = λ x. other x 0 (λ same. absurd (omega (arith, same))) i;
      tail = λ x. other x 1 (λ same. absurd (omega (arith, same))) i;
      next = λ x. ap next_in (other x 2 (λ same. absurd (omega (arith, same)))) i;
      depth = λ x. ap depth_in (other x 2 (λ same. absurd (omega (arith, same)))) i;
      previous = λ x. backs x i;
    }

pub words-cap : (m : List ℕ) (s head tail : ℕ) → 16 * (s + 1) ≤ length m → head < 2 ^ 32 → tail < 2 ^ 32
    → words_in (with_cap m s head tail) ≡ record (words_in m) { head = put (words_in m).head s head; tail = put (words_in m).tail s tail }
words-cap m s head tail inside fits fits' =
    let first = with_word m s 0 head in
    let new = with_cap m s head tail in
    let inside' : 16 * (s + 1) ≤ length first = omega (arith, inside, size-word m s 0 head inside (omega arith)) in
    let before : (x j : ℕ) → 16 * x + 4 * j ≢ 16 * s + 4 * 1 → word_of new x j ≡ word_of first x j =
    λ x j apart. word-other first s 1 tail x j inside' (omega arith) apart in
    let other : (x j : ℕ) → 16 * x + 4 * j ≢ 16 * s + 4 * 1 → 16 * x + 4 * j ≢ 16 * s + 4 * 0 → word_of new x j ≡ word_of m x j =
    λ x j apart apart'. before x j apart ∙ word-other m s 0 head x j inside (omega arith) apart' in
    let heads : (x : ℕ) → word_of new x 0 ≡ put (words_in m).head s head x = λ x. elim (eqb_tells x s) [
      | inl here ↦
          before x 0 (λ same. absurd (omega (arith, same))) ∙ ap (λ y. word_of first y 0) here.1 ∙ word-own m s 0 head inside (omega arith) fits
          ∙ sym (put-here (words_in m).head s x head here.1)
      | inr off ↦ other x 0 (λ same. absurd (omega (arith, same))) (λ same. absurd (omega (arith, same, off.1)))
          ∙ sym (put-off (words_in m).head s x head off.1)
    ] in
    let tails : (x : ℕ) → word_of new x 1 ≡ put (words_in m).tail s tail x = λ x. elim (eqb_tells x s) [
      | inl here ↦ ap (λ y. word_of new y 1) here.1 ∙ word-own first s 1 tail inside' (omega arith) fits' ∙ sym (put-here (words_in m).tail s x tail here.1)
      | inr off ↦ other x 1 (λ same. absurd (omega (arith, same, off.1))) (λ same. absurd (omega (arith, same)))
          ∙ sym (put-off (words_in m).tail s x tail off.1)
    ] in
    λ i. record {
      head = λ x. heads x i;
      tail = λ x. tails x i;
      next = λ x. ap next_in (other x 2 (λ same. absurd (omega (arith, same))) (λ same. absurd (omega (arith, same)))) i;
      depth = λ x. ap depth_in (other x 2 (λ same. absurd (omega (arith, same))) (λ same. absurd (omega (arith, same)))) i;
      previous = λ x. ap previous_in (other x 3 (λ same. absurd (omega (arith, same))) (λ same. absurd (omega (arith, same)))) i;
    }

-- ---- where there is a slot

pub words-back_at : (m : List ℕ) (at o : Option ℕ) → ((s : ℕ) → at ≡ Some s → 16 * (s + 1) ≤ length m) → ((n : ℕ) → o ≡ Some n → n < 2 ^ 20)
    → words_in (with_back_at m at o) ≡ record (words_in m) { previous = put_at (words_in m).previous at o }
words-back_at m None o inside small = refl
words-back_at m (Some s) o inside small = words-back m s o (inside s refl) small

put-same : (f : ℕ → ℕ) (s x : ℕ) → put f s (f s) x ≡ f x
put-same f s x = elim (eqb_tells x s) [ inl here ↦ put-here f s x (f s) here.1 ∙ ap f (sym here.1) | inr off ↦ put-off f s x (f s) off.1 ]

pub depth-small : (word : ℕ) → depth_in word < 256
depth-small word = omega arith

pub words-next_at : (m : List ℕ) (at o : Option ℕ) → ((s : ℕ) → at ≡ Some s → 16 * (s + 1) ≤ length m) → ((n : ℕ) → o ≡ Some n → n < 2 ^ 20)
    → words_in (with_next_at m at o) ≡ record (words_in m) { next = put_at (words_in m).next at o }
words-next_at m None o inside small = refl
words-next_at m (Some s) o inside small =
    words-link m s o ((words_in m).depth s) (inside s refl) small (depth-small (word_of m s 2))
    ∙ (λ i. record (words_in m) { next = put (words_in m).next s o; depth = λ x. put-same (words_in m).depth s x i })

pub size-back_at : (m : List ℕ) (at o : Option ℕ) → ((s : ℕ) → at ≡ Some s → 16 * (s + 1) ≤ length m) → length (with_back_at m at o) ≡ length m
size-back_at m None o inside = refl
size-back_at m (Some s) o inside = size-word m s 3 (back_word o) (inside s refl) (omega arith)

pub size-next_at : (m : List ℕ) (at o : Option ℕ) → ((s : ℕ) → at ≡ Some s → 16 * (s + 1) ≤ length m) → length (with_next_at m at o) ≡ length m
size-next_at m None o inside = refl
size-next_at m (Some s) o inside = size-word m s 2 (link_word o (depth_in (word_of m s 2))) (inside s refl) (omega arith)

-- ---- zeroed slots

abbrev pub zeroed : Words → ℕ → ℕ → Words
zeroed words first count = record {
  head = λ x. if is_within first count x then 0 else words.head x;
  tail = λ x. if is_within first count x then 0 else words.tail x;
  next = λ x. if is_within first count x then None else words.next x;
  depth = λ x. if is_within first count x then 0 else words.depth x;
  previous = λ x. if is_within first count x then None else words.previous x;
}

pub size-blanked : (m : List ℕ) (first count : ℕ) → 16 * (first + count) ≤ length m → length (blanked m first count) ≡ length m
size-blanked m first count inside =
    length-written m (16 * first) (replicate (16 * count) 0) (omega (arith, inside, length-replicate {A = ℕ} (16 * count) 0))

blank-word : (m : List ℕ) (first count x j : ℕ) → 16 * (first + count) ≤ length m → j < 4 → first ≤ x → x < first + count →
    word_of (blanked m first count) x j ≡ 0
blank-word m first count x j inside small low high =
    let n = 16 * count in
    let size = length-replicate {A = ℕ} n 0 in
    let at : (k : ℕ) → 16 * first ≤ k → k < 16 * first + n → slice_index (blanked m first count) k ≡ 0 = λ k from under.
    ap (slice_index (blanked m first count)) (let e : k ≡ 16 * first + (k - 16 * first) = omega (arith, from) in e)
    ∙ slice_index-written_inside m (16 * first) (replicate n 0) (k - 16 * first) (omega (arith, inside, size)) (omega (arith, from, under, size))
    ∙ get_or-replicate n (k - 16 * first) 0 0 (omega (arith, from, under)) in
    let place = 16 * x + 4 * j in
    let one = at place (omega (arith, low)) (omega (arith, high, small)) in
    let two = at (place + 1) (omega (arith, low)) (omega (arith, high, small)) in
    let three = at (place + 2) (omega (arith, low)) (omega (arith, high, small)) in
    let four = at (place + 3) (omega (arith, low)) (omega (arith, high, small)) in
    omega (arith, one, two, three, four)

blank-other : (m : List ℕ) (first count x j : ℕ) → 16 * (first + count) ≤ length m → j < 4 → is_within first count x ≡ false →
    word_of (blanked m first count) x j ≡ word_of m x j
blank-other m first count x j inside small outside =
    let size = length-replicate {A = ℕ} (16 * count) 0 in
    elim (cases_lt x first) [
      | inl less ↦ word_at-written_before m (16 * first) (replicate (16 * count) 0) (16 * x + 4 * j) (omega (arith, inside, size)) (omega (arith, less, small))
      | inr least ↦ word_at-written_behind m (16 * first) (replicate (16 * count) 0) (16 * x + 4 * j) (omega (arith, inside, size))
          (let past : first + count ≤ x = grind (arith, nat_tests, outside, least) in omega (arith, past, size))
    ]

blank-at : {A : Type 0} (read : ℕ → A) (m : List ℕ) (first count x j : ℕ) → 16 * (first + count) ≤ length m → j < 4
    → read (word_of (blanked m first count) x j) ≡ (if is_within first count x then read 0 else read (word_of m x j))
blank-at read m first count x j inside small =
    elim (is_within first count x) as (λ b. is_within first count x ≡ b →
    read (word_of (blanked m first count) x j) ≡ (if b then read 0 else read (word_of m x j))) [
      | true ↦ λ is. let bounds = within-bounds first count x is in ap read (blank-word m first count x j inside small bounds.0 bounds.1)
      | false ↦ λ is. ap read (blank-other m first count x j inside small is)
    ] refl

pub words-blanked : (m : List ℕ) (first count : ℕ) → 16 * (first + count) ≤ length m → words_in (blanked m first count) ≡ zeroed (words_in m) first count
words-blanked m first count inside = λ i. record {
  head = λ x. blank-at (λ w. w) m first count x 0 inside (omega arith) i;
  tail = λ x. blank-at (λ w. w) m first count x 1 inside (omega arith) i;
  next = λ x. blank-at next_in m first count x 2 inside (omega arith) i;
  depth = λ x. blank-at depth_in m first count x 2 inside (omega arith) i;
  previous = λ x. blank-at previous_in m first count x 3 inside (omega arith) i;
}

-- ---- links

some-small : (s : ℕ) → s < 2 ^ 20 → (n : ℕ) → Some s ≡ Some n → n < 2 ^ 20
some-small s low n is = let same : s ≡ n = cc in omega (arith, low, same)

none-small : (n : ℕ) → None ≡ Some n → n < 2 ^ 20
none-small n is = absurd (let clash : None ≡ Some n = is in cc)

pub words-behind : (m : List ℕ) (at slot d : ℕ) → 16 * (at + 1) ≤ length m → 16 * (slot + 1) ≤ length m
    → ((s : ℕ) → (words_in m).next at ≡ Some s → 16 * (s + 1) ≤ length m) → at < 2 ^ 20 → slot < 2 ^ 20 → d < 256
    → words_in (linked_behind m at slot d) ≡ record (words_in m) {
      next = put (put (words_in m).next at (Some slot)) slot ((words_in m).next at);
      depth = put (words_in m).depth slot d;
      previous = put (put_at (words_in m).previous ((words_in m).next at) (Some slot)) slot (Some at);
    }
words-behind m at slot d inside own near low low' few =
    let words = words_in m in
    let after = words.next at in
    let one = with_link m at (Some slot) (words.depth at) in
    let two = with_link one slot after d in
    let three = with_back_at two after (Some slot) in
    let size = size-word m at 2 (link_word (Some slot) (words.depth at)) inside (omega arith) in
    let size' = size-word one slot 2 (link_word after d) (omega (arith, own, size)) (omega arith) in
    let near' : (s : ℕ) → after ≡ Some s → 16 * (s + 1) ≤ length two = λ s is. omega (arith, near s is, size, size') in
    let size'' = size-back_at two after (Some slot) near' in
    words-back three slot (Some at) (omega (arith, own, size, size', size'')) (some-small at low)
    ∙ ap (λ (w : Words). record w { previous = put w.previous slot (Some at) }) (words-back_at two after (Some slot) near' (some-small slot low'))
    ∙ ap (λ (w : Words). record w { previous = put (put_at w.previous after (Some slot)) slot (Some at) })
    (words-link one slot after d (omega (arith, own, size)) (λ n is. next-small (word_of m at 2) n is) few)
    ∙ ap (λ (w : Words). record w {
      next = put w.next slot after;
      depth = put w.depth slot d;
      previous =
          put (put_at w.previous after (Some slot)) slot (Some at);
    })
    (words-link m at (Some slot) (words.depth at) inside (some-small slot low') (depth-small (word_of m at 2)))
    ∙ (λ i. record words {
      next = put (put words.next at (Some slot)) slot after;
      depth = put (λ x. put-same words.depth at x i) slot d;
      previous = put (put_at words.previous after (Some slot)) slot (Some at);
    })

pub words-first : (m : List ℕ) (first : Option ℕ) (slot : ℕ) → 16 * (slot + 1) ≤ length m
    → ((s : ℕ) → first ≡ Some s → 16 * (s + 1) ≤ length m) → ((s : ℕ) → first ≡ Some s → s < 2 ^ 20) → slot < 2 ^ 20
    → words_in (linked_first m first slot) ≡ record (words_in m) {
      next = put (words_in m).next slot first;
      depth = put (words_in m).depth slot 0;
      previous = put (put_at (words_in m).previous first (Some slot)) slot None;
    }
words-first m first slot own near small low =
    let one = with_link m slot first 0 in
    let two = with_back_at one first (Some slot) in
    let size = size-word m slot 2 (link_word first 0) own (omega arith) in
    let near' : (s : ℕ) → first ≡ Some s → 16 * (s + 1) ≤ length one = λ s is. omega (arith, near s is, size) in
    let size' = size-back_at one first (Some slot) near' in
    words-back two slot None (omega (arith, own, size, size')) none-small
    ∙ ap (λ (w : Words). record w { previous = put w.previous slot None }) (words-back_at one first (Some slot) near' (some-small slot low))
    ∙ ap (λ (w : Words). record w { previous = put (put_at w.previous first (Some slot)) slot None }) (words-link m slot first 0 own small (omega arith))

pub words-unlinked : (m : List ℕ) (slot : ℕ) → 16 * (slot + 1) ≤ length m
    → ((s : ℕ) → (words_in m).next slot ≡ Some s → 16 * (s + 1) ≤ length m) → ((s : ℕ) → (words_in m).previous slot ≡ Some s → 16 * (s + 1) ≤ length m)
    → words_in (unlinked m slot) ≡ zeroed (record (words_in m) {
      next = put_at (words_in m).next ((words_in m).previous slot) ((words_in m).next slot);
      previous = put_at (words_in m).previous ((words_in m).next slot) ((words_in m).previous slot);
    }) slot 1
words-unlinked m slot own near near' =
    let words = words_in m in
    let after = words.next slot in
    let before = words.previous slot in
    let one = with_next_at m before after in
    let two = with_back_at one after before in
    let size = size-next_at m before after near' in
    let near'' : (s : ℕ) → after ≡ Some s → 16 * (s + 1) ≤ length one = λ s is. omega (arith, near s is, size) in
    let size' = size-back_at one after before near'' in
    words-blanked two slot 1 (omega (arith, own, size, size'))
    ∙ ap (λ (w : Words). zeroed w slot 1) (words-back_at one after before near'' (λ n is. previous-small (word_of m slot 3) n is))
    ∙ ap (λ (w : Words). zeroed (record w { previous = put_at w.previous after before }) slot 1)
    (words-next_at m before after near' (λ n is. next-small (word_of m slot 2) n is))

-- ---- a run that is lowered

pub size-lowered : (d n : ℕ) (at : Option ℕ) (m : List ℕ) → length m % 16 ≡ 0 → length (lowered_memory d n at m) ≡ length m
unfolding lowered_memory
size-lowered d zero at m whole = refl
size-lowered d (suc n) None m whole = refl
size-lowered d (suc n) (Some s) m whole =
    let word = word_of m s 2 in
    let less = with_link m s (next_in word) (depth_in word - 1) in
    elim (cases_lt d (depth_in word)) [
      | inl deep ↦
          let size = size-word m s 2 (link_word (next_in word) (depth_in word - 1)) (deep_inside m s d whole deep) (omega arith) in
          ap (λ b. length (if b then lowered_memory d n (next_in word) less else m)) (lt-ltb d (depth_in word) deep)
          ∙ size-lowered d n (next_in word) less (ap (λ k. k % 16) size ∙ whole) ∙ size
      | inr end ↦ ap (λ b. length (if b then lowered_memory d n (next_in word) less else m)) (le-ltb d (depth_in word) end)
    ]

pub put-next-same : (f : Links) (s x : ℕ) → put f s (f s) x ≡ f x
put-next-same f s x = elim (eqb_tells x s) [ inl here ↦ put-here f s x (f s) here.1 ∙ ap f (sym here.1) | inr off ↦ put-off f s x (f s) off.1 ]

pub words-lowered : (d n : ℕ) (at : Option ℕ) (m : List ℕ) → length m % 16 ≡ 0
    → words_in (lowered_memory d n at m) ≡ record (words_in m) { depth = lowered_depths (words_in m).next d n at (words_in m).depth }
unfolding lowered_memory
words-lowered d zero at m whole = refl
words-lowered d (suc n) None m whole = refl
words-lowered d (suc n) (Some s) m whole =
    let words = words_in m in
    let word = word_of m s 2 in
    let less = with_link m s (next_in word) (depth_in word - 1) in
    let lowered : ℕ → ℕ = lowered_depths words.next d n (words.next s) (put words.depth s (words.depth s - 1)) in
    elim (cases_lt d (depth_in word)) [
      | inl deep ↦
          let inside = deep_inside m s d whole deep in
          let size = size-word m s 2 (link_word (next_in word) (depth_in word - 1)) inside (omega arith) in
          let link : words_in less ≡ record words { depth = put words.depth s (words.depth s - 1) } =
          words-link m s (next_in word) (depth_in word - 1) inside (λ k is. next-small word k is) (omega (arith, depth-small word))
          ∙ (λ i. record words { next = λ x. put-next-same words.next s x i; depth = put words.depth s (words.depth s - 1) }) in
          ap (λ b. words_in (if b then lowered_memory d n (next_in word) less else m)) (lt-ltb d (depth_in word) deep)
          ∙ words-lowered d n (next_in word) less (ap (λ k. k % 16) size ∙ whole)
          ∙ ap (λ (w : Words). record w { depth = lowered_depths w.next d n (next_in word) w.depth }) link
          ∙ sym (ap (λ b. record words { depth = if b then lowered else words.depth }) (lt-ltb d (depth_in word) deep))
      | inr end ↦
          ap (λ b. words_in (if b then lowered_memory d n (next_in word) less else m)) (le-ltb d (depth_in word) end)
          ∙ sym (ap (λ b. record words { depth = if b then lowered else words.depth }) (le-ltb d (depth_in word) end))
    ]

-- ---- memory keeps its size

pub size-behind : (m : List ℕ) (at slot d : ℕ) → 16 * (at + 1) ≤ length m → 16 * (slot + 1) ≤ length m →
    ((s : ℕ) → (words_in m).next at ≡ Some s → 16 * (s + 1) ≤ length m)
    → length (linked_behind m at slot d) ≡ length m
size-behind m at slot d inside own near =
    let after = (words_in m).next at in
    let one = with_link m at (Some slot) ((words_in m).depth at) in
    let two = with_link one slot after d in
    let three = with_back_at two after (Some slot) in
    let size = size-word m at 2 (link_word (Some slot) ((words_in m).depth at)) inside (omega arith) in
    let size' = size-word one slot 2 (link_word after d) (omega (arith, own, size)) (omega arith) in
    let size'' = size-back_at two after (Some slot) (λ s is. omega (arith, near s is, size, size')) in
    size-word three slot 3 (back_word (Some at)) (omega (arith, own, size, size', size'')) (omega arith) ∙ size'' ∙ size' ∙ size

pub size-first : (m : List ℕ) (first : Option ℕ) (slot : ℕ) → 16 * (slot + 1) ≤ length m → ((s : ℕ) → first ≡ Some s → 16 * (s + 1) ≤ length m)
    → length (linked_first m first slot) ≡ length m
size-first m first slot own near =
    let one = with_link m slot first 0 in
    let two = with_back_at one first (Some slot) in
    let size = size-word m slot 2 (link_word first 0) own (omega arith) in
    let size' = size-back_at one first (Some slot) (λ s is. omega (arith, near s is, size)) in
    size-word two slot 3 (back_word None) (omega (arith, own, size, size')) (omega arith) ∙ size' ∙ size

pub size-unlinked : (m : List ℕ) (slot : ℕ) → 16 * (slot + 1) ≤ length m
    → ((s : ℕ) → (words_in m).next slot ≡ Some s → 16 * (s + 1) ≤ length m) → ((s : ℕ) → (words_in m).previous slot ≡ Some s → 16 * (s + 1) ≤ length m)
    → length (unlinked m slot) ≡ length m
size-unlinked m slot own near near' =
    let after = (words_in m).next slot in
    let before = (words_in m).previous slot in
    let one = with_next_at m before after in
    let two = with_back_at one after before in
    let size = size-next_at m before after near' in
    let size' = size-back_at one after before (λ s is. omega (arith, near s is, size)) in
    size-blanked two slot 1 (omega (arith, own, size, size')) ∙ size' ∙ size
