-- What was found, with what is left, is all that is taken.
use Rattle.std.proofs.Common.{ℕ, zero, suc, ◌≡◌, ◌∙◌, ◌+◌, ◌-◌, ◌<◌, ◌≤◌, ◌==◌, ◌&&◌, Bool, true, false, if◌then◌else◌, not, List, [], ◌∷◌, ◌++◌, length, map}
use Rattle.std.proofs.Common.{take, get_or, refl, sym, ap, add-one, append-nil, append_assoc, arith, take-suc, take_all}
use Rattle.std.specs.List.{enumerate_from, filter, flat_map, range_with_len}
use Rattle.std.proofs.lemmas.Bool.{ne_eqb}
use Rattle.std.proofs.lemmas.List.{flat_map_more}
use Rattle.headline.specs.parts.Parts.{changes, is_in, takes}
use Rattle.model.specs.Acceptance.ThreadRules.{is_member}
use Rattle.model.specs.Images.Image.{Image, Thread, no_buffer}
use Rattle.parts.specs.Taken.{passing, taken, taken_between, taken_from, taken_inside, taken_outside}
use Rattle.parts.specs.Uses.{AreUses, IsUse, is_part, part_of}
use Rattle.parts.specs.declared.taken.Taken.{Taken}
use Rattle.parts.specs.declared.uses.Uses.{Uses}
use Rattle.parts.proofs.Left.{numbers-next}
use Rattle.parts.proofs.OfThreads.{part-is}

-- ---- by the numbers of objects

module _ (made : ℕ → Taken) (test : ℕ → Bool) (count : ℕ) where
  abbrev pub objects_left : ℕ → List Taken
  objects_left n = map made (filter test (range_with_len n (count - n)))

  first-left : (b : Bool) (n : ℕ) → n < count → test n ≡ b → objects_left n ≡ (if b then made n ∷ [] else []) ++ objects_left (n + 1)
  first-left true n lt is = rw (numbers-next test count n lt, is) refl
  first-left false n lt is = rw (numbers-next test count n lt, is) refl

  pub object-next : (old new total : List Taken) (b : Bool) (n : ℕ) → n < count → b ≡ test n → new ≡ old ++ (if b then made n ∷ [] else [])
      → old ++ objects_left n ≡ total → new ++ objects_left (n + 1) ≡ total
  object-next old new total b n lt is put so_far =
      ap (λ (l : List Taken). l ++ objects_left (n + 1)) put ∙ append_assoc old (if b then made n ∷ [] else []) (objects_left (n + 1))
      ∙ ap (λ (l : List Taken). old ++ l) (sym (first-left b n lt (sym is))) ∙ so_far

  pub object-none : (old total : List Taken) (n : ℕ) → count ≤ n → old ++ objects_left n ≡ total → old ≡ total
  object-none old total n le so_far =
      let k : count - n ≡ 0 = omega arith in
      sym (append-nil old) ∙ sym (ap (λ (m : ℕ). old ++ map made (filter test (range_with_len n m))) k) ∙ so_far

-- ---- thread by thread

module _ {A : Type 0} (f : A → List Taken) (xs : List A) (i : ℕ) (old : List Taken) where
  pub thread-next : (x : A) (made after : List Taken) → i < length xs → x ≡ get_or xs i x → made ≡ old ++ flat_map f (take i xs)
      → after ≡ made ++ f x → after ≡ old ++ flat_map f (take (i + 1) xs)
  thread-next x made after lt is so_far put =
      let longer : take (i + 1) xs ≡ take i xs ++ x ∷ [] =
      rw (add-one i) (take-suc xs i x lt ∙ ap (λ (y : A). take i xs ++ y ∷ []) (sym is)) in
      put ∙ ap (λ (l : List Taken). l ++ f x) so_far ∙ flat_map_more f old (take i xs) x ∙ ap (λ (l : List A). old ++ flat_map f l) (sym longer)

  pub thread-none : (made : List Taken) → length xs ≤ i → made ≡ old ++ flat_map f (take i xs) → made ≡ old ++ flat_map f xs
  thread-none made le so_far = so_far ∙ ap (λ (l : List A). old ++ flat_map f l) (take_all i xs le)

-- ---- what the numbers say is what the threads take and may change

filter-same : (p q : ℕ → Bool) (k n : ℕ) → ((o : ℕ) → o < k + n → p o ≡ q o) → filter p (range_with_len k n) ≡ filter q (range_with_len k n)
filter-same p q k zero same = refl
filter-same p q k (suc n) same =
    ap (λ b. if b then k ∷ filter p (range_with_len (k + 1) n) else filter p (range_with_len (k + 1) n)) (same k (omega arith))
    ∙ ap (λ (l : List ℕ). if q k then k ∷ l else l) (filter-same p q (k + 1) n (λ o lt. same o (omega (arith, lt))))

module _ (image : Image) where
  flat-of : (f : Uses → List Taken) (g : ℕ × Thread → List Taken) (k : ℕ) (threads : List Thread) (all : List Uses)
      → ((n : ℕ) (t : Thread) (u : Uses) → u.number ≡ n → IsUse image t u → f u ≡ g (n, t)) → AreUses image k threads all
      → flat_map f all ≡ flat_map g (enumerate_from k threads)
  unfolding AreUses
  flat-of f g k [] [] same are = refl
  flat-of f g k [] (u ∷ all) same are = absurd are
  flat-of f g k (t ∷ threads) [] same are = absurd are
  flat-of f g k (t ∷ threads) (u ∷ all) same are =
      ap (λ (l : List Taken). l ++ flat_map f all) (same k t u are.0 are.1)
      ∙ ap (λ (l : List Taken). g (k, t) ++ l) (flat-of f g (k + 1) threads all same are.2)

  module _ (threads : ℕ) (all : List Uses) (are : AreUses image 0 image.threads all) (few : image.header.objects ≤ 4096) where
    between-is : (n m : ℕ) (t u : Thread) (a b : Uses) → a.number ≡ n → b.number ≡ m → IsUse image t a → IsUse image u b
        → taken_between image.header.objects a b ≡ taken_from image (n, t) (m, u)
    between-is n m t u a b first second one two =
        ap (λ (x : ℕ). passing image.header.objects x b.number (λ object. is_member object a.takes && is_member object b.changes)) first
        ∙ ap (λ (x : ℕ). passing image.header.objects n x (λ object. is_member object a.takes && is_member object b.changes)) second
        ∙ ap (λ (l : List ℕ). map (λ object. record { taker = n; object = object; other = m }) l)
        (filter-same (λ object. is_member object a.takes && is_member object b.changes) (λ object. takes image t object && changes image u object) 0
        image.header.objects (λ o lt.
        let other : (o == no_buffer) ≡ false = ne_eqb o no_buffer (λ e. omega (arith, e, lt, few)) in
        ap (λ x. x && is_member o b.changes) (one.takes_these o other) ∙ ap (λ x. takes image t o && x) (two.changes_these o other)))

    member-of : (t : Thread) (u : Uses) → IsUse image t u → is_part threads all u.tcb ≡ is_in (part_of image threads) t
    member-of t u is = part-is image threads all are u.tcb ∙ ap (part_of image threads) is.tcb

    outside-is : (n m : ℕ) (t u : Thread) (a b : Uses) → a.number ≡ n → b.number ≡ m → IsUse image t a → IsUse image u b
        → taken_outside image.header.objects threads all a b ≡ (if not (is_in (part_of image threads) u) then taken_from image (n, t) (m, u) else [])
    outside-is n m t u a b first second one two =
        ap (λ x. if not x then taken_between image.header.objects a b else []) (member-of u b two)
        ∙ ap (λ (l : List Taken). if not (is_in (part_of image threads) u) then l else []) (between-is n m t u a b first second one two)

    inside-is : (n : ℕ) (t : Thread) (a : Uses) → a.number ≡ n → IsUse image t a
        → taken_inside image.header.objects threads all a
        ≡ (if is_in (part_of image threads) t then
        flat_map (λ (u : ℕ × Thread). if not (is_in (part_of image threads) u.1) then taken_from image (n, t) u else []) (enumerate_from 0 image.threads)
        else [])
    inside-is n t a first one =
        ap (λ x. if x then flat_map (taken_outside image.header.objects threads all a) all else []) (member-of t a one)
        ∙ ap (λ (l : List Taken). if is_in (part_of image threads) t then l else [])
        (flat-of (taken_outside image.header.objects threads all a)
        (λ (u : ℕ × Thread). if not (is_in (part_of image threads) u.1) then taken_from image (n, t) u else []) 0 image.threads all
        (λ m u b second two. outside-is n m t u a b first second one two) are)

    pub taken-is : flat_map (taken_inside image.header.objects threads all) all ≡ taken image (part_of image threads)
    unfolding taken
    taken-is =
        flat-of (taken_inside image.header.objects threads all)
        (λ (t : ℕ × Thread). if is_in (part_of image threads) t.1 then
        flat_map (λ (u : ℕ × Thread). if not (is_in (part_of image threads) u.1) then taken_from image t u else []) (enumerate_from 0 image.threads) else [])
        0 image.threads all inside-is are
