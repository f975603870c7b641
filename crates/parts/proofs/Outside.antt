-- Nobody outside of a part that takes nothing may change what it takes.
use Rattle.std.proofs.Common.{ℕ, zero, suc, ◌≡◌, ◌∙◌, ◌+◌, ◌<◌, ◌≤◌, ◌&&◌, ◌||◌, inl, inr, Bool, true, not, List, [], ◌∷◌, map, sym, ap, arith}
use Rattle.std.specs.Prelude.{Contains}
use Rattle.std.specs.List.{enumerate_from, list_all, range_with_len}
use Rattle.std.proofs.lemmas.Bool.{and_parts, false≢true}
use Rattle.std.proofs.lemmas.Bool.Decides.{eqb_tells}
use Rattle.headline.specs.parts.Given.{AllHoldGiven}
use Rattle.headline.specs.parts.Laws.{HeldQueuesAreListed}
use Rattle.headline.specs.parts.Parts.{Part, changes, is_in, takes, takes_nothing}
use Rattle.model.specs.Acceptance.Accepted.{IsAccepted}
use Rattle.model.specs.Images.Described.{Numbered}
use Rattle.model.specs.Images.Image.{Image, Thread}
use Rattle.model.specs.Kernel.State.{State}
use Rattle.parts.specs.Outside.{HoldNothingTaken}

-- what passes of all numbers passes of each
pub all-in : (p : ℕ → Bool) (k n o : ℕ) → k ≤ o → o < k + n → list_all p (range_with_len k n) ≡ true → p o ≡ true
all-in p k zero o low high all = let none : ⊥ = omega (arith, low, high) in absurd none
all-in p k (suc n) o low high all =
    let both = and_parts (p k) (list_all p (range_with_len (k + 1) n)) all in
    elim (eqb_tells o k) [
      | inl here ↦ ap p here.1 ∙ both.0
      | inr other ↦ all-in p (k + 1) n o (omega (arith, low, other.1)) (omega (arith, high)) both.1
    ]

-- what passes of all threads passes of each, with its number
all-numbered : (p : Thread → Bool) (k : ℕ) (threads : List Thread) (t : Numbered) → list_all p threads ≡ true
    → Contains (map (λ (u : ℕ × Thread). record { number = u.0; thread = u.1 }) (enumerate_from k threads)) t → p t.thread ≡ true
all-numbered p k [] t all (n, less, at) = let none : ⊥ = omega (arith, less) in absurd none
all-numbered p k (x ∷ xs) t all (zero, less, at) = sym (ap (λ (u : Numbered). p u.thread) at) ∙ (and_parts (p x) (list_all p xs) all).0
all-numbered p k (x ∷ xs) t all (suc n, less, at) = all-numbered p (k + 1) xs t (and_parts (p x) (list_all p xs) all).1 (n, omega (arith, less), at)

-- what is taken is not changed
none-both : (own changed : Bool) → own ≡ true → changed ≡ true → not (own && changed) ≡ true → ⊥
none-both own changed takes_it changes_it apart = false≢true (sym (ap (λ b. not (b && changed)) takes_it ∙ ap not changes_it) ∙ apart)

pub none-outside : (bytes : List ℕ) (image : Image) (part : Part) (s : State) → HeldQueuesAreListed → IsAccepted bytes image → AllHoldGiven image s
    → takes_nothing image part ≡ true → HoldNothingTaken image part s
unfolding takes_nothing
none-outside bytes image part s law accepted given nothing = λ t u object listed listed_inside isnt is takes_it less typed holds.
    let changes_it = law bytes image t s object accepted given listed less typed holds in
    let free : Thread → Thread → Bool = λ own other. not (is_in part own) || is_in part other
    || list_all (λ o. not (takes image own o && changes image other o)) (range_with_len 0 image.header.objects) in
    let of_own = all-numbered (λ own. list_all (free own) image.threads) 0 image.threads u nothing listed_inside in
    let of_both : free u.thread t.thread ≡ true = all-numbered (free u.thread) 0 image.threads t of_own listed in
    let apart : list_all (λ o. not (takes image u.thread o && changes image t.thread o)) (range_with_len 0 image.header.objects) ≡ true =
    sym (ap (λ b. not b || is_in part t.thread
    || list_all (λ o. not (takes image u.thread o && changes image t.thread o)) (range_with_len 0 image.header.objects)) is
    ∙ ap (λ b. not true || b
    || list_all (λ o. not (takes image u.thread o && changes image t.thread o)) (range_with_len 0 image.header.objects)) isnt) ∙ of_both in
    let low : 0 ≤ object = omega arith in
    let high : object < 0 + image.header.objects = omega (arith, less) in
    none-both (takes image u.thread object) (changes image t.thread object) takes_it changes_it
    (all-in (λ o. not (takes image u.thread o && changes image t.thread o)) 0 image.header.objects object low high apart)
