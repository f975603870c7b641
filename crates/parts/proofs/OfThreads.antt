-- What the numbers of what threads take and may change say of the threads.
use Rattle.std.proofs.Common.{ℕ, zero, suc, ◌≡◌, ◌∙◌, ◌+◌, ◌==◌, ◌<◌, ◌≤◌, ◌&&◌, ◌||◌, Bool, true, false, not, List, [], ◌∷◌, ◌++◌, length, refl, sym, ap}
use Rattle.std.proofs.Common.{subst, arith}
use Rattle.std.specs.Prelude.{Option, Some, is_some, nat_lt, slice_get}
use Rattle.std.specs.Int.{bit_at}
use Rattle.std.specs.List.{enumerate_from, list_all, list_any, range_with_len}
use Rattle.std.proofs.lemmas.Bool.{eqb-true, ne_eqb}
use Rattle.std.proofs.lemmas.Bool.Decides.{nat_tests}
use Rattle.std.proofs.lemmas.Option.{none-some, same_Some}
use Rattle.std.proofs.lemmas.List.{append-nil, append_assoc, length-append}
use Rattle.headline.specs.parts.Parts.{changes, changes_by, is_above, is_in, takes, takes_by, takes_nothing}
use Rattle.model.specs.declared.entries.ThreadHeader.{ThreadHeader}
use Rattle.model.specs.Acceptance.ThreadRules.{is_member, reached}
use Rattle.model.specs.Capabilities.Rights.{may_write, rights}
use Rattle.model.specs.Images.Described.{numbered}
use Rattle.model.specs.Images.Image.{Image, Thread, no_buffer}
use Rattle.parts.specs.Uses.{AreUses, ChangesThese, IsUse, TakesThese, is_high, is_part, is_separate, part_of}
use Rattle.parts.specs.declared.uses.Uses.{Uses}

-- ---- one thread

any-same : {A : Type 0} (p q : A → Bool) (xs : List A) → ((x : A) → p x ≡ q x) → list_any p xs ≡ list_any q xs
any-same p q xs same = λ i. list_any (λ x. same x i) xs

later : (a b c : Bool) → ((a && b) && c) ≡ (a && (c && b))
later true true true = refl
later true true false = refl
later true false true = refl
later true false false = refl
later false b c = refl

turned : (a b : Bool) → (a && b) ≡ (b && a)
turned true true = refl
turned true false = refl
turned false true = refl
turned false false = refl

same-number : (m n : ℕ) → (m == n) ≡ (n == m)
same-number m n = grind (arith, nat_tests)

-- a buffer that is there, of the numbers but that for none
pub noted : (buffer n : ℕ) → (n == no_buffer) ≡ false → (not (buffer == no_buffer) && buffer == n) ≡ (buffer == n)
noted buffer n other =
    elim (buffer == no_buffer) as (λ b. (buffer == no_buffer) ≡ b → (not b && buffer == n) ≡ (buffer == n)) [
      | true ↦ λ is. sym (ap (λ (k : ℕ). k == n) (eqb-true buffer no_buffer is) ∙ same-number no_buffer n ∙ other)
      | false ↦ λ is. refl
    ] refl

module _ (image : Image) (t : Thread) (n : ℕ) (header : ThreadHeader) (cnodes none : List ℕ)
    (head : header ≡ t.header) (found : cnodes ≡ reached image t) (empty : none ≡ []) where
  -- what it takes: what it maps, what its capabilities name that read, and its buffer
  pub takes-of : (mapped held all : List ℕ) → is_member n mapped ≡ (is_member n none || list_any (λ f. f.root == header.root && f.frame == n) image.frames)
      → is_member n held
      ≡ (is_member n mapped || list_any (λ c. is_member c.cnode cnodes && (takes_by image c && c.source == n)) image.capabilities)
      → is_member n all ≡ (is_member n held || header.buffer == n)
      → is_member n all ≡ takes image t n
  unfolding takes
  takes-of mapped held all maps holds buffer =
      buffer ∙ ap (λ b. b || header.buffer == n) holds
      ∙ ap (λ b. (b || list_any (λ c. is_member c.cnode cnodes && (takes_by image c && c.source == n)) image.capabilities) || header.buffer == n)
      (maps ∙ ap (λ (s : List ℕ). is_member n s || list_any (λ f. f.root == header.root && f.frame == n) image.frames) empty)
      ∙ ap (λ (s : List ℕ). (list_any (λ f. f.root == header.root && f.frame == n) image.frames
      || list_any (λ c. is_member c.cnode s && (takes_by image c && c.source == n)) image.capabilities) || header.buffer == n) found
      ∙ ap (λ (h : ThreadHeader). (list_any (λ f. f.root == h.root && f.frame == n) image.frames
      || list_any (λ c. is_member c.cnode (reached image t) && (takes_by image c && c.source == n)) image.capabilities) || h.buffer == n) head
      ∙ ap (λ b. (list_any (λ f. f.root == t.header.root && f.frame == n) image.frames || b) || t.header.buffer == n)
      (any-same (λ c. is_member c.cnode (reached image t) && (takes_by image c && c.source == n))
      (λ c. is_member c.cnode (reached image t) && (c.source == n && takes_by image c)) image.capabilities
      (λ c. ap (λ b. is_member c.cnode (reached image t) && b) (turned (takes_by image c) (c.source == n))))

  -- what it may change: what it maps to write, what its capabilities name that write or receive, its buffer, and what its lines signal
  pub changes-of : (mapped held both all unnamed sources : List ℕ)
      → is_member n mapped ≡ (is_member n none || list_any (λ f. (f.root == header.root && may_write (rights f.rights)) && f.frame == n) image.frames)
      → is_member n held
      ≡ (is_member n mapped || list_any (λ c. is_member c.cnode cnodes && (changes_by image c && c.source == n)) image.capabilities)
      → is_member n both ≡ (is_member n held || header.buffer == n)
      → is_member n all
      ≡ (is_member n both || list_any (λ i. is_member (image.header.objects + i.0) sources && (i.1).notification == n) (numbered image.interrupts))
      → unnamed ≡ []
      → ((m : ℕ) → is_member m sources ≡ (is_member m unnamed || list_any (λ c. is_member c.cnode cnodes && c.source == m) image.capabilities))
      → is_member n all ≡ changes image t n
  unfolding changes
  changes-of mapped held both all unnamed sources maps holds buffer lines nobody named =
      lines
      ∙ ap (λ b. b || list_any (λ i. is_member (image.header.objects + i.0) sources && (i.1).notification == n) (numbered image.interrupts))
      (buffer ∙ ap (λ b. b || header.buffer == n)
      (holds ∙ ap (λ b. b || list_any (λ c. is_member c.cnode cnodes && (changes_by image c && c.source == n)) image.capabilities)
      (maps ∙ ap (λ (s : List ℕ). is_member n s || list_any (λ f. (f.root == header.root && may_write (rights f.rights)) && f.frame == n) image.frames) empty
      ∙ any-same (λ f. (f.root == header.root && may_write (rights f.rights)) && f.frame == n)
      (λ f. f.root == header.root && (f.frame == n && may_write (rights f.rights))) image.frames
      (λ f. later (f.root == header.root) (may_write (rights f.rights)) (f.frame == n))
      ∙ ap (λ (h : ThreadHeader). list_any (λ f. f.root == h.root && (f.frame == n && may_write (rights f.rights))) image.frames) head)
      ∙ ap (λ b. list_any (λ f. f.root == t.header.root && (f.frame == n && may_write (rights f.rights))) image.frames || b)
      (any-same (λ c. is_member c.cnode cnodes && (changes_by image c && c.source == n))
      (λ c. is_member c.cnode cnodes && (c.source == n && changes_by image c)) image.capabilities
      (λ c. ap (λ b. is_member c.cnode cnodes && b) (turned (changes_by image c) (c.source == n)))
      ∙ ap (λ (s : List ℕ). list_any (λ c. is_member c.cnode s && (c.source == n && changes_by image c)) image.capabilities) found))
      ∙ ap (λ (h : ThreadHeader). (list_any (λ f. f.root == t.header.root && (f.frame == n && may_write (rights f.rights))) image.frames
      || list_any (λ c. is_member c.cnode (reached image t) && (c.source == n && changes_by image c)) image.capabilities) || h.buffer == n) head)
      ∙ ap (λ b. ((list_any (λ f. f.root == t.header.root && (f.frame == n && may_write (rights f.rights))) image.frames
      || list_any (λ c. is_member c.cnode (reached image t) && (c.source == n && changes_by image c)) image.capabilities) || t.header.buffer == n) || b)
      (any-same (λ i. is_member (image.header.objects + i.0) sources && (i.1).notification == n)
      (λ i. (i.1).notification == n
      && list_any (λ c. is_member c.cnode (reached image t) && c.source == image.header.objects + i.0) image.capabilities) (numbered image.interrupts)
      (λ i. turned (is_member (image.header.objects + i.0) sources) ((i.1).notification == n)
      ∙ ap (λ b. (i.1).notification == n && b)
      (named (image.header.objects + i.0)
      ∙ ap (λ (s : List ℕ). is_member (image.header.objects + i.0) s
      || list_any (λ c. is_member c.cnode cnodes && c.source == image.header.objects + i.0) image.capabilities) nobody
      ∙ ap (λ (s : List ℕ). list_any (λ c. is_member c.cnode s && c.source == image.header.objects + i.0) image.capabilities) found)))

-- an item is there if its number is less than how many there are
some-within : {A : Type 0} (xs : List A) (n : ℕ) → is_some (slice_get xs n) ≡ nat_lt n (length xs)
some-within [] n = grind (arith, nat_tests)
some-within (x ∷ xs) zero = grind (arith, nat_tests)
some-within (x ∷ xs) (suc n) = some-within xs n ∙ grind (arith, nat_tests)

-- ---- all threads

module _ (image : Image) where
  any-of : (f : ℕ → Bool) (object k : ℕ) (threads : List Thread) (all : List Uses) → AreUses image k threads all
      → list_any (λ u. f u.number && u.tcb == object) all ≡ list_any (λ t. f t.0 && (t.1).header.tcb == object) (enumerate_from k threads)
  unfolding AreUses
  any-of f object k [] [] are = refl
  any-of f object k [] (u ∷ all) are = absurd are
  any-of f object k (t ∷ threads) [] are = absurd are
  any-of f object k (t ∷ threads) (u ∷ all) are =
      ap (λ (n : ℕ). (f n && u.tcb == object) || list_any (λ u. f u.number && u.tcb == object) all) are.0
      ∙ ap (λ (o : ℕ). (f k && o == object) || list_any (λ u. f u.number && u.tcb == object) all) (are.1).tcb
      ∙ ap (λ b. (f k && t.header.tcb == object) || b) (any-of f object (k + 1) threads all are.2)

  all-of : (p : Uses → Bool) (q : Thread → Bool) (k : ℕ) (threads : List Thread) (all : List Uses)
      → ((t : Thread) (u : Uses) → IsUse image t u → p u ≡ q t) → AreUses image k threads all → list_all p all ≡ list_all q threads
  unfolding AreUses
  all-of p q k [] [] same are = refl
  all-of p q k [] (u ∷ all) same are = absurd are
  all-of p q k (t ∷ threads) [] same are = absurd are
  all-of p q k (t ∷ threads) (u ∷ all) same are =
      ap (λ b. b && list_all p all) (same t u are.1) ∙ ap (λ b. q t && b) (all-of p q (k + 1) threads all same are.2)

  all-numbers : (p q : ℕ → Bool) (k n : ℕ) → ((o : ℕ) → o < k + n → p o ≡ q o) → list_all p (range_with_len k n) ≡ list_all q (range_with_len k n)
  all-numbers p q k zero same = refl
  all-numbers p q k (suc n) same =
      ap (λ b. b && list_all p (range_with_len (k + 1) n)) (same k (omega arith))
      ∙ ap (λ b. q k && b) (all-numbers p q (k + 1) n (λ o lt. same o (omega (arith, lt))))

  module _ (threads : ℕ) (all : List Uses) (are : AreUses image 0 image.threads all) where
    pub part-is : (object : ℕ) → is_part threads all object ≡ part_of image threads object
    unfolding part_of
    part-is object = any-of (λ n. bit_at threads n == 1) object 0 image.threads all are

    member-is : (t : Thread) (u : Uses) → IsUse image t u → is_part threads all u.tcb ≡ is_in (part_of image threads) t
    member-is t u is = part-is u.tcb ∙ ap (part_of image threads) is.tcb

    none-taken : (t u : Thread) (a b : Uses) → image.header.objects ≤ 4096 → IsUse image t a → IsUse image u b
        → list_all (λ object. not (is_member object a.takes && is_member object b.changes)) (range_with_len 0 image.header.objects)
        ≡ list_all (λ object. not (takes image t object && changes image u object)) (range_with_len 0 image.header.objects)
    none-taken t u a b few first second =
        all-numbers (λ object. not (is_member object a.takes && is_member object b.changes)) (λ object. not (takes image t object && changes image u object)) 0
        image.header.objects (λ o lt.
        let other : (o == no_buffer) ≡ false = ne_eqb o no_buffer (λ e. omega (arith, e, lt, few)) in
        ap (λ x. not (x && is_member o b.changes)) (first.takes_these o other) ∙ ap (λ x. not (takes image t o && x)) (second.changes_these o other))

    separate-is : (t u : Thread) (a b : Uses) → image.header.objects ≤ 4096 → IsUse image t a → IsUse image u b
        → is_separate image.header.objects threads all a b
        ≡ (not (is_in (part_of image threads) t) || is_in (part_of image threads) u
        || list_all (λ object. not (takes image t object && changes image u object)) (range_with_len 0 image.header.objects))
    separate-is t u a b few first second =
        ap (λ x. not x || is_part threads all b.tcb
        || list_all (λ object. not (is_member object a.takes && is_member object b.changes)) (range_with_len 0 image.header.objects)) (member-is t a first)
        ∙ ap (λ x. not (is_in (part_of image threads) t) || x
        || list_all (λ object. not (is_member object a.takes && is_member object b.changes)) (range_with_len 0 image.header.objects)) (member-is u b second)
        ∙ ap (λ x. not (is_in (part_of image threads) t) || is_in (part_of image threads) u || x) (none-taken t u a b few first second)

    pub takes-nothing-is : image.header.objects ≤ 4096
        → list_all (λ taker. list_all (is_separate image.header.objects threads all taker) all) all ≡ takes_nothing image (part_of image threads)
    unfolding takes_nothing
    takes-nothing-is few =
        all-of (λ a. list_all (is_separate image.header.objects threads all a) all)
        (λ t. list_all (λ u. not (is_in (part_of image threads) t) || is_in (part_of image threads) u
        || list_all (λ object. not (takes image t object && changes image u object)) (range_with_len 0 image.header.objects)) image.threads) 0 image.threads all
        (λ t a first.
        all-of (is_separate image.header.objects threads all a)
        (λ u. not (is_in (part_of image threads) t) || is_in (part_of image threads) u
        || list_all (λ object. not (takes image t object && changes image u object)) (range_with_len 0 image.header.objects)) 0 image.threads all
        (λ u b second. separate-is t u a b few first second) are) are

    high-is : (t u : Thread) (a b : Uses) → IsUse image t a → IsUse image u b
        → is_high threads all a b
        ≡ (not (is_in (part_of image threads) t) || is_in (part_of image threads) u || nat_lt u.header.priority t.header.priority)
    high-is t u a b first second =
        ap (λ x. not x || is_part threads all b.tcb || nat_lt b.priority a.priority) (member-is t a first)
        ∙ ap (λ x. not (is_in (part_of image threads) t) || x || nat_lt b.priority a.priority) (member-is u b second)
        ∙ ap (λ (x : ℕ). not (is_in (part_of image threads) t) || is_in (part_of image threads) u || nat_lt x a.priority) second.priority
        ∙ ap (λ (x : ℕ). not (is_in (part_of image threads) t) || is_in (part_of image threads) u || nat_lt u.header.priority x) first.priority

    pub is-above-is : list_all (λ own. list_all (is_high threads all own) all) all ≡ is_above image (part_of image threads)
    unfolding is_above
    is-above-is =
        all-of (λ a. list_all (is_high threads all a) all)
        (λ t. list_all (λ u. not (is_in (part_of image threads) t) || is_in (part_of image threads) u || nat_lt u.header.priority t.header.priority)
        image.threads)
        0 image.threads all
        (λ t a first.
        all-of (is_high threads all a)
        (λ u. not (is_in (part_of image threads) t) || is_in (part_of image threads) u || nat_lt u.header.priority t.header.priority) 0 image.threads all
        (λ u b second. high-is t u a b first second) are) are

  -- ---- by their numbers

  use-at : (k i : ℕ) (threads : List Thread) (all : List Uses) (t : Thread) (u : Uses) → AreUses image k threads all → slice_get threads i ≡ Some t
      → slice_get all i ≡ Some u → IsUse image t u
  unfolding AreUses
  use-at k i [] all t u are here there = absurd (none-some t here)
  use-at k i (x ∷ xs) [] t u are here there = absurd are
  use-at k zero (x ∷ xs) (v ∷ all) t u are here there =
      subst (λ (y : Thread). IsUse image y u) (same_Some x t here) (subst (λ (w : Uses). IsUse image x w) (same_Some v u there) are.1)
  use-at k (suc i) (x ∷ xs) (v ∷ all) t u are here there = use-at (k + 1) i xs all t u are.2 here there

  as-many : (k : ℕ) (threads : List Thread) (all : List Uses) → AreUses image k threads all → length all ≡ length threads
  unfolding AreUses
  as-many k [] [] are = refl
  as-many k [] (u ∷ all) are = absurd are
  as-many k (t ∷ threads) [] are = absurd are
  as-many k (t ∷ threads) (u ∷ all) are = ap suc (as-many (k + 1) threads all are.2)

  module _ (all : List Uses) (n : ℕ) (are : AreUses image 0 image.threads all) where
    pub takes-at : (u : Uses) (numbers : List ℕ) → image.header.objects ≤ 4096 → slice_get all n ≡ Some u → numbers ≡ u.takes
        → TakesThese image n numbers
    takes-at u numbers few at is = λ t object here less.
        ap (λ (l : List ℕ). is_member object l) is
        ∙ (use-at 0 n image.threads all t u are here at).takes_these object (ne_eqb object no_buffer (λ e. omega (arith, e, less, few)))

    pub changes-at : (u : Uses) (numbers : List ℕ) → image.header.objects ≤ 4096 → slice_get all n ≡ Some u → numbers ≡ u.changes
        → ChangesThese image n numbers
    changes-at u numbers few at is = λ t object here less.
        ap (λ (l : List ℕ). is_member object l) is
        ∙ (use-at 0 n image.threads all t u are here at).changes_these object (ne_eqb object no_buffer (λ e. omega (arith, e, less, few)))

    pub is-there : (found : Option Uses) → found ≡ slice_get all n → is_some found ≡ nat_lt n (length image.threads)
    is-there found is = ap is_some is ∙ some-within all n ∙ ap (nat_lt n) (as-many 0 image.threads all are)

  -- ---- one after the other

  pub uses-next : (threads xs ys : List Thread) (x : Thread) (u : Uses) (made new : List Uses) → xs ≡ x ∷ ys → u.number ≡ length made → IsUse image x u
      → new ≡ made ++ u ∷ [] → ((rest : List Uses) → AreUses image (length made) xs rest → AreUses image 0 threads (made ++ rest))
      → (rest : List Uses) → AreUses image (length new) ys rest → AreUses image 0 threads (new ++ rest)
  unfolding AreUses
  uses-next threads xs ys x u made new parts number uses is so_far rest are =
      let long : length new ≡ length made + 1 = ap length is ∙ length-append made (u ∷ []) in
      let later : AreUses image (length made + 1) ys rest = subst (λ (n : ℕ). AreUses image n ys rest) long are in
      let both : AreUses image (length made) (x ∷ ys) (u ∷ rest) = (number, uses, later) in
      let here = so_far (u ∷ rest) (subst (λ (l : List Thread). AreUses image (length made) l (u ∷ rest)) (sym parts) both) in
      subst (λ (l : List Uses). AreUses image 0 threads l) (sym (ap (λ (l : List Uses). l ++ rest) is ∙ append_assoc made (u ∷ []) rest)) here

  pub uses-end : (threads xs : List Thread) (made : List Uses) → xs ≡ []
      → ((rest : List Uses) → AreUses image (length made) xs rest → AreUses image 0 threads (made ++ rest)) → AreUses image 0 threads made
  unfolding AreUses
  uses-end threads xs made none so_far =
      let start : AreUses image (length made) [] [] = tt in
      subst (λ (l : List Uses). AreUses image 0 threads l) (append-nil made)
      (so_far [] (subst (λ (l : List Thread). AreUses image (length made) l []) (sym none) start))
