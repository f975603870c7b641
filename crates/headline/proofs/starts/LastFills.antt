-- What is at a place that one fill alone reaches.
use Rattle.std.proofs.Common.{ℕ, zero, suc, ◌≡◌, ◌∙◌, ◌-◌, ◌||◌, Bool, true, false, find, if◌then◌else◌, List, [], ◌∷◌, ◌++◌, Option, Some, None, refl, sym, ap}
use Rattle.std.proofs.Common.{subst}
use Rattle.std.specs.Prelude.{filter_map, flat_map, slice_get, slice_index, reverse}
use Rattle.std.specs.Option.{option_map_or, option_or}
use Rattle.std.specs.List.{All, cons_option, list_any}
use Rattle.std.proofs.lemmas.Bool.{or_left, or_right}
use Rattle.std.proofs.lemmas.List.{reverse-append}
use Rattle.std.proofs.lemmas.List.Elements.{All-head, All-tail}
use Rattle.std.proofs.lemmas.List.Folds.{find-append, list_any-append}
use Rattle.std.proofs.lemmas.Option.{none-some, same_Some}
use Rattle.model.specs.Images.Fills.{Fill, filled_byte, is_filled}

-- ---- some entry passes

pub any-behind : {A : Type 0} (test : A → Bool) (xs ys : List A) → list_any test ys ≡ true → list_any test (xs ++ ys) ≡ true
any-behind test xs ys is = list_any-append test xs ys ∙ or_right (list_any test xs) (list_any test ys) is

any-before : {A : Type 0} (test : A → Bool) (xs ys : List A) → list_any test xs ≡ true → list_any test (xs ++ ys) ≡ true
any-before test xs ys is = list_any-append test xs ys ∙ or_left (list_any test xs) (list_any test ys) is

pub any-flat : {A B : Type 0} (test : B → Bool) (f : A → List B) (xs : List A) (k : ℕ) (x : A) → slice_get xs k ≡ Some x → list_any test (f x) ≡ true →
    list_any test (flat_map f xs) ≡ true
any-flat test f [] k x at is = absurd (none-some x at)
any-flat test f (y ∷ ys) zero x at is = any-before test (f y) (flat_map f ys) (ap (λ z. list_any test (f z)) (same_Some y x at) ∙ is)
any-flat test f (y ∷ ys) (suc k) x at is = any-behind test (f y) (flat_map f ys) (any-flat test f ys k x at is)

pub any-filtered : {A B : Type 0} (test : B → Bool) (f : A → Option B) (xs : List A) (k : ℕ) (x : A) (y : B) → slice_get xs k ≡ Some x → f x ≡ Some y →
    test y ≡ true
    → list_any test (filter_map f xs) ≡ true
any-filtered test f [] k x y at gives is = absurd (none-some x at)
any-filtered test f (z ∷ zs) zero x y at gives is =
    ap (λ o. list_any test (cons_option o (filter_map f zs))) (ap f (same_Some z x at) ∙ gives) ∙ or_left (test y) (list_any test (filter_map f zs)) is
any-filtered test f (z ∷ zs) (suc k) x y at gives is =
    let rest = any-filtered test f zs k x y at gives is in
    elim (f z) as (λ o. list_any test (cons_option o (filter_map f zs)) ≡ true) [
      | None ↦ rest
      | Some w ↦ or_right (test w) (list_any test (filter_map f zs)) rest
    ]

-- ---- the last fill at a place

module _ (place wanted : ℕ) where
  -- the fill does not reach the place, or leaves what is wanted there
  abbrev pub Leaves : Fill → Type 0
  Leaves f = is_filled place f ≡ true → slice_index f.bytes (place - f.offset) ≡ wanted

  -- what is found from the back
  abbrev value : Option Fill → ℕ
  value o = option_map_or (λ f. slice_index f.bytes (place - f.offset)) o 0

  abbrev Last : Bool → Option Fill → Type 0
  Last true o = value o ≡ wanted
  Last false o = o ≡ None

  one-more : (f : Fill) (some : Bool) (later : Option Fill) → Last some later → Leaves f → (b : Bool) → is_filled place f ≡ b →
      Last (b || some) (option_or later (if b then Some f else None))
  one-more f true None last leaves true is = leaves is
  one-more f true (Some g) last leaves true is = last
  one-more f false None last leaves true is = leaves is
  one-more f false (Some g) last leaves true is = absurd (none-some g (sym last))
  one-more f true None last leaves false is = last
  one-more f true (Some g) last leaves false is = last
  one-more f false None last leaves false is = refl
  one-more f false (Some g) last leaves false is = absurd (none-some g (sym last))

  last-of : (fs : List Fill) → All Leaves fs → Last (list_any (is_filled place) fs) (find (is_filled place) (reverse fs))
  last-of [] all = refl
  last-of (f ∷ fs) all =
      let rest = last-of fs (All-tail Leaves f fs all) in
      let behind : find (is_filled place) (reverse (f ∷ fs)) ≡ option_or (find (is_filled place) (reverse fs)) (find (is_filled place) (f ∷ [])) =
      ap (find (is_filled place)) (reverse-append (f ∷ []) fs) ∙ find-append (is_filled place) (reverse fs) (f ∷ []) in
      subst (λ (o : Option Fill). Last (is_filled place f || list_any (is_filled place) fs) o) (sym behind)
      (one-more f (list_any (is_filled place) fs) (find (is_filled place) (reverse fs)) rest (All-head Leaves f fs all) (is_filled place f) refl)

  pub byte-left : (fs : List Fill) → All Leaves fs → list_any (is_filled place) fs ≡ true → filled_byte fs place ≡ wanted
  byte-left fs all some = subst (λ (b : Bool). Last b (find (is_filled place) (reverse fs))) some (last-of fs all)
