-- One listed thread more: the objects and the ready list of a state between two operations of the loader.
use Rattle.std.proofs.Common.{ℕ, suc, ◌≡◌, ◌≢◌, ◌∙◌, ◌==◌, ◌||◌, Bool, true, false, not, if◌then◌else◌, Option, Some, None, List, [], ◌∷◌, ◌++◌, map, filter}
use Rattle.std.proofs.Common.{find, take, option_map, option_and_then, inl, inr, refl, sym, ap}
use Rattle.std.specs.Prelude.{slice_get}
use Rattle.std.specs.List.{list_any, range_with_len}
use Rattle.std.specs.Option.{option_map_or, option_or}
use Rattle.std.proofs.lemmas.Bool.{cases_eq, eq-eqb, ne_eqb}
use Rattle.std.proofs.lemmas.List.{append-nil, map-append}
use Rattle.std.proofs.lemmas.List.Elements.{filter-append}
use Rattle.std.proofs.lemmas.List.Folds.{find-append}
use Rattle.soundness.specs.boot_laws.Loading.{Progress, object_so_far, objects_so_far, ready_so_far}
use Rattle.model.specs.Images.Described.{first_some, listed_thread}
use Rattle.model.specs.Images.Image.{Image, Thread}
use Rattle.model.specs.Images.Places.{offset_of, type_at}
use Rattle.model.specs.Kernel.Retype.{NewObject, NewUntyped, NewThread, NewEndpoint, NewNotification, NewCNode, NewFrame, NewPageTable, NewRootTable, object}
use Rattle.model.specs.Kernel.Scheduling.{without_threads}
use Rattle.model.specs.Kernel.State.{Object, ThreadObject, new_thread, put}
use Rattle.model.specs.Shared.Lists.{without}
use Rattle.soundness.proofs.boot_laws.Readings.{one_thread}
use Rattle.soundness.proofs.boot_laws.RunFills.{take-more}

-- ---- lists

pub find-none : {A : Type 0} (test : A → Bool) (xs : List A) → list_any test xs ≡ false → find test xs ≡ None
find-none test [] none = refl
find-none test (x ∷ xs) none =
    elim (test x) as (λ b. (b || list_any test xs) ≡ false → (if b then Some x else find test xs) ≡ None) [
      | true ↦ λ clash. absurd (let e : true ≡ false = clash in cc)
      | false ↦ λ rest. find-none test xs rest
    ] none

-- what is nowhere in a list is not taken from it
pub without-mapped : {A : Type 0} (f : A → ℕ) (test : A → Bool) (x : ℕ) (xs : List A) → ((j : ℕ) (y : A) → slice_get xs j ≡ Some y → f y ≢ x)
    → without x (map f (filter test xs)) ≡ map f (filter test xs)
without-mapped f test x [] apart = refl
without-mapped f test x (y ∷ ys) apart =
    let rest = without-mapped f test x ys (λ j z at. apart (suc j) z at) in
    elim (test y) as (λ b. without x (map f (if b then y ∷ filter test ys else filter test ys)) ≡ map f (if b then y ∷ filter test ys else filter test ys)) [
      | true ↦
          ap (λ b. if not b then f y ∷ without x (map f (filter test ys)) else without x (map f (filter test ys))) (ne_eqb (f y) x (apart 0 y refl))
          ∙ ap (λ l. f y ∷ l) rest
      | false ↦ rest
    ]

-- ---- objects that no thread is at

module _ (gone : ℕ → Bool) where
  abbrev same_without : Option Object → Option Object
  same_without o = option_map (without_threads gone) o

  first-same : (f : ℕ → Option Object) (xs : List ℕ) → ((n : ℕ) → same_without (f n) ≡ f n) → same_without (first_some (map f xs)) ≡ first_some (map f xs)
  first-same f [] same = refl
  first-same f (n ∷ xs) same =
      elim (f n) as (λ o. same_without o ≡ o → same_without (first_some (o ∷ map f xs)) ≡ first_some (o ∷ map f xs)) [
        | None ↦ λ _. first-same f xs same
        | Some x ↦ λ is. is
      ] (same n)

  new-same : (o : Option NewObject) → same_without (option_and_then object o) ≡ option_and_then object o
  new-same None = refl
  new-same (Some (NewUntyped bits)) = refl
  new-same (Some NewThread) = refl
  new-same (Some NewEndpoint) = refl
  new-same (Some NewNotification) = refl
  new-same (Some (NewCNode radix)) = refl
  new-same (Some NewFrame) = refl
  new-same (Some NewPageTable) = refl
  new-same (Some NewRootTable) = refl

  listed-same : (o : Option Thread) (other : Option Object) → same_without other ≡ other
      → same_without (option_map_or (λ t. Some (ThreadObject (listed_thread t))) o other) ≡ option_map_or (λ t. Some (ThreadObject (listed_thread t))) o other
  listed-same None other same = same
  listed-same (Some t) other same = refl

  there-same : (b : Bool) (o : Option Object) → same_without o ≡ o → same_without (if b then o else None) ≡ (if b then o else None)
  there-same true o same = same
  there-same false o same = refl

  pub objects-quiet : (image : Image) (p : Progress) (offset : ℕ) → same_without (objects_so_far image p offset) ≡ objects_so_far image p offset
  objects-quiet image p offset =
      first-same (λ number. if offset_of image number == offset then object_so_far image p number else None) (range_with_len 0 p.objects) (λ number.
      there-same (offset_of image number == offset) (object_so_far image p number)
      (listed-same (find (λ t. t.header.tcb == number) (take p.threads image.threads)) (option_and_then object (type_at image number))
      (new-same (type_at image number))))

-- ---- one more

module _ (image : Image) (p : Progress) (t : Thread) (at : slice_get image.threads p.threads ≡ Some t) where
  abbrev tcb : ℕ
  tcb = t.header.tcb

  -- the thread's object is new, and no thread that is listed before it
  pub object-new : type_at image tcb ≡ Some NewThread → list_any (λ u. u.header.tcb == tcb) (take p.threads image.threads) ≡ false
      → object_so_far image p tcb ≡ Some (ThreadObject new_thread)
  object-new is once =
      ap (λ o. option_map_or (λ u. Some (ThreadObject (listed_thread u))) o (option_and_then object (type_at image tcb)))
      (find-none (λ u. u.header.tcb == tcb) (take p.threads image.threads) once)
      ∙ ap (option_and_then object) is

  abbrev found_by : ℕ → Option Thread → Bool → Option Object
  found_by number before last =
      option_map_or (λ u. Some (ThreadObject (listed_thread u))) (option_or before (if last then Some t else None))
      (option_and_then object (type_at image number))

  object-next : (number : ℕ) → object_so_far image (one_thread p) number
      ≡ found_by number (find (λ u. u.header.tcb == number) (take p.threads image.threads)) (tcb == number)
  object-next number =
      ap (λ ts. option_map_or (λ u. Some (ThreadObject (listed_thread u))) (find (λ u. u.header.tcb == number) ts)
      (option_and_then object (type_at image number)))
      (take-more image.threads p.threads t at)
      ∙ ap (λ o. option_map_or (λ u. Some (ThreadObject (listed_thread u))) o (option_and_then object (type_at image number)))
      (find-append (λ u. u.header.tcb == number) (take p.threads image.threads) (t ∷ []))

  pub object-listed : list_any (λ u. u.header.tcb == tcb) (take p.threads image.threads) ≡ false
      → object_so_far image (one_thread p) tcb ≡ Some (ThreadObject (listed_thread t))
  object-listed once =
      object-next tcb
      ∙ ap (λ o. found_by tcb o (tcb == tcb)) (find-none (λ u. u.header.tcb == tcb) (take p.threads image.threads) once)
      ∙ ap (found_by tcb None) (eq-eqb tcb tcb refl)

  or-none : (number : ℕ) (o : Option Thread) → found_by number o false ≡ option_map_or (λ u. Some (ThreadObject (listed_thread u))) o
      (option_and_then object (type_at image number))
  or-none number None = refl
  or-none number (Some u) = refl

  object-other : (number : ℕ) → tcb ≢ number → object_so_far image (one_thread p) number ≡ object_so_far image p number
  object-other number other =
      object-next number
      ∙ ap (found_by number (find (λ u. u.header.tcb == number) (take p.threads image.threads))) (ne_eqb tcb number other)
      ∙ or-none number (find (λ u. u.header.tcb == number) (take p.threads image.threads))

  -- elsewhere nothing changes
  there-other : (offset number : ℕ) → offset_of image tcb ≢ offset
      → (if offset_of image number == offset then object_so_far image (one_thread p) number else None)
      ≡ (if offset_of image number == offset then object_so_far image p number else None)
  there-other offset number other =
      elim (cases_eq tcb number) [
        | inl same ↦
            let off : (offset_of image number == offset) ≡ false = ne_eqb (offset_of image number) offset (λ is. other (ap (offset_of image) same ∙ is)) in
            ap (λ b. if b then object_so_far image (one_thread p) number else None) off ∙ sym (ap (λ b. if b then object_so_far image p number else None) off)
        | inr apart ↦ ap (λ o. if offset_of image number == offset then o else None) (object-other number apart)
      ]

  pub objects-other : (offset : ℕ) → offset_of image tcb ≢ offset → objects_so_far image (one_thread p) offset ≡ objects_so_far image p offset
  objects-other offset other = λ i. first_some (map (λ number. there-other offset number other i) (range_with_len 0 p.objects))

  -- ---- the ready list

  put-at_end : (ready : ℕ → List ℕ) (priority x q : ℕ) → put ready priority (ready priority ++ x ∷ []) q ≡ ready q ++ (if priority == q then x ∷ [] else [])
  put-at_end ready priority x q =
      elim (cases_eq q priority) [
        | inl same ↦
            ap (λ b. if b then ready priority ++ x ∷ [] else ready q) (eq-eqb q priority same)
            ∙ ap (λ n. ready n ++ x ∷ []) (sym same)
            ∙ sym (ap (λ b. ready q ++ (if b then x ∷ [] else [])) (eq-eqb priority q (sym same)))
        | inr other ↦
            ap (λ b. if b then ready priority ++ x ∷ [] else ready q) (ne_eqb q priority other)
            ∙ sym (append-nil (ready q))
            ∙ sym (ap (λ b. ready q ++ (if b then x ∷ [] else [])) (ne_eqb priority q (λ is. other (sym is))))
      ]

  one-mapped : (b : Bool) → map (λ u. offset_of image u.header.tcb) (if b then t ∷ [] else []) ≡ (if b then offset_of image tcb ∷ [] else [])
  one-mapped true = refl
  one-mapped false = refl

  pub ready-listed : (q : ℕ)
      → put (ready_so_far image p) t.header.priority (ready_so_far image p t.header.priority ++ offset_of image tcb ∷ []) q ≡ ready_so_far image (one_thread p)
      q
  ready-listed q =
      let offset = λ (u : Thread). offset_of image u.header.tcb in
      let test = λ (u : Thread). u.header.priority == q in
      put-at_end (ready_so_far image p) t.header.priority (offset_of image tcb) q
      ∙ ap (λ l. ready_so_far image p q ++ l) (sym (one-mapped (t.header.priority == q)))
      ∙ sym (map-append offset (filter test (take p.threads image.threads)) (filter test (t ∷ [])))
      ∙ ap (map offset) (sym (filter-append test (take p.threads image.threads) (t ∷ [])))
      ∙ ap (λ ts. map offset (filter test ts)) (sym (take-more image.threads p.threads t at))
