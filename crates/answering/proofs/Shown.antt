-- What is shown of threads one after another is so of the threads of the image.
use Rattle.std.proofs.Common.{ℕ, zero, suc, ◌≡◌, ◌∙◌, ◌⊎◌, ◌==◌, ◌+◌, ◌<◌, ◌||◌, ◌++◌, inl, inr, Bool, true, false, Option, None, Some, List, [], ◌∷◌}
use Rattle.std.proofs.Common.{drop, drop-cons, length, get_or, map, refl, sym, ap, subst, arith}
use Rattle.std.specs.Prelude.{Contains, slice_get}
use Rattle.std.specs.List.{enumerate_from, list_any}
use Rattle.std.specs.Option.{option_map_or}
use Rattle.model.specs.declared.ranges.Range.{Range}
use Rattle.std.proofs.lemmas.Bool.{cases_lt, eqb-true}
use Rattle.std.proofs.lemmas.List.{drop_all, length-append}
use Rattle.std.proofs.lemmas.Option.{none-some, same_Some, slice_get-get_or}
use Rattle.model.specs.Images.Described.{Numbered, numbered_threads}
use Rattle.model.specs.Images.Image.{Image, Thread}
use Rattle.program_rules.specs.Views.{IsProgramView}
use Rattle.program_rules.specs.declared.views.ProgramView.{ProgramView}
use Rattle.response.specs.Responding.{over_edges}
use Rattle.settled_threads.specs.Answering.{owing_over}
use Rattle.answering.specs.Answers.{AllShown, Answers, AreAnswered, AreAnswers, AreShown}
use Rattle.answering.specs.declared.answers.Answered.{Answered}

-- ---- lists

-- what is got of a list with one more
pushed : {A : Type 0} (xs : List A) (x y : A) (k : ℕ) → slice_get (xs ++ x ∷ []) k ≡ Some y → (slice_get xs k ≡ Some y) ⊎ (x ≡ y)
pushed [] x y zero is = inr (same_Some x y is)
pushed [] x y (suc k) is = absurd (none-some y is)
pushed (z ∷ zs) x y zero is = inl is
pushed (z ∷ zs) x y (suc k) is = pushed zs x y k is

found-at : {A : Type 0} (test : A → Bool) (xs : List A) → list_any test xs ≡ true → (k : ℕ) × (x : A) × (slice_get xs k ≡ Some x) × (test x ≡ true)
found-at test [] any = absurd (let clash : false ≡ true = any in cc)
found-at {A} test (x ∷ xs) any = either (test x) refl any (found-at test xs)
  where
    either : (b : Bool) → test x ≡ b → (b || list_any test xs) ≡ true
        → (list_any test xs ≡ true → (k : ℕ) × (y : A) × (slice_get xs k ≡ Some y) × (test y ≡ true))
        → (k : ℕ) × (y : A) × (slice_get (x ∷ xs) k ≡ Some y) × (test y ≡ true)
    either true is any_ later = (0, x, refl, is)
    either false is any_ later = let rest = later any_ in (suc rest.0, rest.1, rest.2, rest.3)

any-at : {A : Type 0} (test : A → Bool) (xs : List A) (k : ℕ) (x : A) → slice_get xs k ≡ Some x → test x ≡ true → list_any test xs ≡ true
any-at test [] k x at is = absurd (none-some x at)
any-at test (y ∷ ys) zero x at is = ap (λ (b : Bool). b || list_any test ys) (ap test (same_Some y x at) ∙ is)
any-at test (y ∷ ys) (suc k) x at is = either (test y) (any-at test ys k x at is)
  where
    either : (b : Bool) → list_any test ys ≡ true → (b || list_any test ys) ≡ true
    either true rest = refl
    either false rest = rest

-- with the place of the last
last : {A : Type 0} (xs : List A) (x y : A) (k : ℕ) → slice_get (xs ++ x ∷ []) k ≡ Some y → (slice_get xs k ≡ Some y) ⊎ ((k ≡ length xs) × (x ≡ y))
last [] x y zero is = inr (refl, same_Some x y is)
last [] x y (suc k) is = absurd (none-some y is)
last (z ∷ zs) x y zero is = inl is
last (z ∷ zs) x y (suc k) is = elim (last zs x y k is) [ inl before ↦ inl before | inr same ↦ inr (ap suc same.0, same.1) ]

-- the item at hand, and those after it
pub head-of : {A : Type 0} (n : ℕ) (xs ys : List A) (x : A) → drop n xs ≡ x ∷ ys → (slice_get xs n ≡ Some x) × (drop (n + 1) xs ≡ ys)
head-of {A} n xs ys x is =
    elim (cases_lt n (length xs)) [
      | inl inside ↦
          let first : drop n xs ≡ get_or xs n x ∷ drop (suc n) xs = drop-cons xs n x inside in
          let same : get_or xs n x ∷ drop (suc n) xs ≡ x ∷ ys = sym first ∙ is in
          let here : get_or xs n x ≡ x = ap (λ (l : List A). get_or l 0 x) same in
          let rest : drop (suc n) xs ≡ ys = ap (λ (l : List A). drop 1 l) same in
          let one : drop (n + 1) xs ≡ drop (suc n) xs = ap (λ (k : ℕ). drop k xs) (add-one n) in
          (slice_get-get_or xs n x inside ∙ ap (λ (y : A). Some y) here, one ∙ rest)
      | inr past ↦
          let none : [] ≡ x ∷ ys = sym (drop_all n xs past) ∙ is in
          absurd (let clash : 0 ≡ suc (length ys) = ap (λ (l : List A). length l) none in omega (arith, clash))
    ]
  where
    add-one : (k : ℕ) → k + 1 ≡ suc k
    add-one k = omega arith

-- ---- one more

pub answered-more : (thread : Thread) (p : ProgramView) (badges new : List ℕ) (badge : ℕ) → new ≡ badges ++ badge ∷ [] → Answers thread p badge
    → AreAnswered thread p badges → AreAnswered thread p new
answered-more thread p badges new badge grown own all other any =
    let at = found-at (λ (b : ℕ). b == other) new any in
    elim (pushed badges badge at.1 at.0 (sym (ap (λ (l : List ℕ). slice_get l at.0) grown) ∙ at.2)) [
      | inl before ↦ all other (any-at (λ (b : ℕ). b == other) badges at.0 at.1 before at.3)
      | inr same ↦ subst (Answers thread p) (same ∙ eqb-true at.1 other at.3) own
    ]

abbrev IsShownAt : Image → ℕ → List ℕ → Type 0
IsShownAt image k badges = (t : Thread) × (slice_get image.threads k ≡ Some t) × AreShown image (record { number = k; thread = t }) badges

pub shown-none : (image : Image) (found : List Answered) → found ≡ [] → AllShown image 0 found
shown-none image found none = record {
  long = ap (λ (l : List Answered). length l) none;
  each = λ k a at. absurd (none-some a (ap (λ (l : List Answered). slice_get l k) (sym none) ∙ at));
}

pub shown-more : (image : Image) (count : ℕ) (found new : List Answered) (a : Answered) (t : Thread) → new ≡ found ++ a ∷ []
    → slice_get image.threads count ≡ Some t → AreShown image (record { number = count; thread = t }) a.badges.items → AllShown image count found
    → AllShown image (count + 1) new
shown-more image count found new a t grown listed own all = record {
  long = ap (λ (l : List Answered). length l) grown ∙ length-append found (a ∷ []) ∙ ap (λ (n : ℕ). n + 1) all.long;
  each = λ k b at.
      elim (last found a b k (sym (ap (λ (l : List Answered). slice_get l k) grown) ∙ at)) [
        | inl before ↦ all.each k b before
        | inr same ↦
            subst (λ (n : ℕ). IsShownAt image n b.badges.items) (sym (same.0 ∙ all.long))
            (subst (λ (c : Answered). IsShownAt image count c.badges.items) same.1 (t, listed, own))
      ];
}

-- by what is seen of a thread
pub shown-by : (image : Image) (t : Numbered) (p : ProgramView) (badges : List ℕ) → IsProgramView image t p → AreAnswered t.thread p badges
    → AreShown image t badges
shown-by image t p badges view answered badge any = (p, view, answered badge any)

pub shown-without : (image : Image) (t : Numbered) (badges : List ℕ) → badges ≡ [] → AreShown image t badges
shown-without image t badges none badge any =
    absurd (let clash : false ≡ true = sym (ap (list_any (λ other. other == badge)) none) ∙ any in cc)

-- ---- all

module _ (image : Image) where
  abbrev threads-from : ℕ → List Thread → List Numbered
  threads-from n threads = map (λ (t : ℕ × Thread). let u : Numbered = record { number = t.0; thread = t.1 } in u) (enumerate_from n threads)

  -- the thread of a number
  thread-at : (n : ℕ) (threads : List Thread) (k : ℕ) (t : Numbered) → k < length (threads-from n threads) → get_or (threads-from n threads) k t ≡ t
      → (t.number ≡ n + k) × (slice_get threads k ≡ Some t.thread)
  thread-at n [] k t inside at = absurd (omega (arith, inside))
  thread-at n (x ∷ threads) zero t inside at =
      let here : n ≡ n + 0 = omega arith in (sym (ap (λ (u : Numbered). u.number) at) ∙ here, ap (λ (u : Numbered). Some u.thread) at)
  thread-at n (x ∷ threads) (suc k) t inside at =
      let rest = thread-at (n + 1) threads k t (omega (arith, inside)) at in
      let on : n + 1 + k ≡ n + suc k = omega arith in (rest.0 ∙ on, rest.1)

  -- what was found of a thread is so of it
  found-so : (found : List Answered) → AllShown image (length found) found → (number badge : ℕ) (a : Answered) → slice_get found number ≡ Some a
      → list_any (λ (other : ℕ). other == badge) a.badges.items ≡ true
      → (owed : ℕ → Option (List Range))
      × ((t : Numbered) → Contains (numbered_threads image) t → t.number ≡ number → over_edges image t (owing_over t.thread badge owed) ≡ true)
  found-so found all number badge a at any =
      let shown = all.each number a at in
      let answers = shown.2 badge any in (
        answers.2.0,
        λ t listed same.
            let place = thread-at 0 image.threads listed.0 t listed.1 listed.2 in
            let here : number ≡ listed.0 = sym same ∙ place.0 ∙ zero-on listed.0 in
            let its : shown.0 ≡ t.thread = same_Some shown.0 t.thread (sym shown.1 ∙ ap (slice_get image.threads) here ∙ place.1) in
            let view : IsProgramView image t answers.0 =
            subst (λ (m : ℕ). IsProgramView image (record { number = m; thread = t.thread }) answers.0) (sym same)
            (subst (λ (u : Thread). IsProgramView image (record { number = number; thread = u }) answers.0) its answers.1) in
            subst (λ (u : Thread). over_edges image t (owing_over u badge answers.2.0) ≡ true) its (answers.2.1 image t (sym its) view),
      )
    where
      zero-on : (k : ℕ) → 0 + k ≡ k
      zero-on k = omega arith

  pub answers-so : (count : ℕ) (found : List Answered) → AllShown image count found → AreAnswers image found
  answers-so count found all number badge any = by-slot (slice_get found number) refl any
    where
      shown : AllShown image (length found) found
      shown = record { long = refl; each = all.each }

      by-slot : (o : Option Answered) → slice_get found number ≡ o
          → option_map_or (λ (a : Answered). list_any (λ (other : ℕ). other == badge) a.badges.items) o false ≡ true
          → (owed : ℕ → Option (List Range))
          × ((t : Numbered) → Contains (numbered_threads image) t → t.number ≡ number → over_edges image t (owing_over t.thread badge owed) ≡ true)
      by-slot None at is = absurd (let clash : false ≡ true = is in cc)
      by-slot (Some a) at is = found-so found shown number badge a at is
