-- What lines signal, by one line more.
use Rattle.std.proofs.Common.{ℕ, zero, suc, ◌≡◌, ◌∙◌, ◌+◌, ◌==◌, ◌⊎◌, inl, inr, Bool, true, false, if◌then◌else◌, Option, Some, option_map}
use Rattle.std.proofs.Common.{List, [], ◌∷◌, ◌++◌, drop, length, refl, sym, ap, subst, arith}
use Rattle.std.specs.Prelude.{find, slice_get}
use Rattle.std.proofs.lemmas.Bool.{eq-eqb, eqb-true}
use Rattle.std.proofs.lemmas.List.{length-append}
use Rattle.std.proofs.lemmas.Option.{none-some, same_Some}
use Rattle.model.specs.Images.Image.{Image}
use Rattle.model.specs.declared.entries.InterruptEntry.{InterruptEntry}
use Rattle.responses.specs.Keepers.{AreKeepers, is_kept}
use Rattle.responses.specs.Lines.{AreSoFar, bell_for}
use Rattle.responses.specs.declared.keepers.Keeper.{Keeper}
use Rattle.responses.specs.declared.lines.Bell.{Bell}
use Rattle.responses.specs.declared.outlines.Outline.{Outline}

got-more : {A : Type 0} (xs : List A) (x : A) (n : ℕ) (v : A) → slice_get (xs ++ x ∷ []) n ≡ Some v → (slice_get xs n ≡ Some v) ⊎ ((n ≡ length xs) × (x ≡ v))
got-more [] x zero v is = inr (refl, same_Some x v is)
got-more [] x (suc n) v is = absurd (none-some v is)
got-more (y ∷ ys) x zero v is = inl is
got-more (y ∷ ys) x (suc n) v is = elim (got-more ys x n v is) [
  | inl before ↦ inl before
  | inr here ↦ inr (ap suc here.0, here.1)
]

pub next-so-far : (image : Image) (count : ℕ) (bells new : List (Option Bell)) (bell : Option Bell) → AreSoFar image count bells
    → bell ≡ option_map (bell_for image) (find (λ i. i.line == count) image.interrupts) → new ≡ bells ++ bell ∷ [] → AreSoFar image (count + 1) new
next-so-far image count bells new bell are is grown = record {
  long = ap length grown ∙ length-append bells (bell ∷ []) ∙ ap (λ n. n + 1) are.long;
  each = λ line other at. elim (got-more bells bell line other (ap (λ (l : List (Option Bell)). slice_get l line) (sym grown) ∙ at)) [
    | inl before ↦ are.each line other before
    | inr here ↦ subst (λ (b : Option Bell). b ≡ option_map (bell_for image) (find (λ i. i.line == line) image.interrupts)) here.1
        (subst (λ n. bell ≡ option_map (bell_for image) (find (λ i. i.line == n) image.interrupts)) (sym (here.0 ∙ are.long)) is)
  ];
}

pub none-so-far : (image : Image) (bells : List (Option Bell)) → bells ≡ [] → AreSoFar image 0 bells
none-so-far image bells is = record {
  long = ap length is;
  each = λ line bell at. absurd (none-some bell (ap (λ (l : List (Option Bell)). slice_get l line) (sym is) ∙ at));
}

-- ---- what is found among the interrupts that are left

module _ {A : Type 0} where
  got-drop : (xs : List A) (n : ℕ) (x : A) → slice_get xs n ≡ Some x → drop n xs ≡ x ∷ drop (suc n) xs
  got-drop [] n x is = absurd (none-some x is)
  got-drop (y ∷ ys) zero x is = ap (λ z. z ∷ ys) (same_Some y x is)
  got-drop (y ∷ ys) (suc n) x is = got-drop ys n x is

  found-here : (p : A → Bool) (xs : List A) (n : ℕ) (x : A) → slice_get xs n ≡ Some x → p x ≡ true → find p (drop n xs) ≡ Some x
  found-here p xs n x at is = ap (find p) (got-drop xs n x at) ∙ ap (λ b. if b then Some x else find p (drop (suc n) xs)) is

  found-later : (p : A → Bool) (xs : List A) (n : ℕ) (x : A) → slice_get xs n ≡ Some x → p x ≡ false → find p (drop (n + 1) xs) ≡ find p (drop n xs)
  found-later p xs n x at is =
      let next : n + 1 ≡ suc n = omega arith in
      ap (λ k. find p (drop k xs)) next
      ∙ sym (ap (find p) (got-drop xs n x at) ∙ ap (λ b. if b then Some x else find p (drop (suc n) xs)) is)

-- by their lines
pub line-here : (image : Image) (line n : ℕ) (i : InterruptEntry) → slice_get image.interrupts n ≡ Some i → i.line ≡ line
    → find (λ j. j.line == line) (drop n image.interrupts) ≡ Some i
line-here image line n i at is = found-here (λ (j : InterruptEntry). j.line == line) image.interrupts n i at (eq-eqb i.line line is)

pub line-later : (image : Image) (line n : ℕ) (i : InterruptEntry) → slice_get image.interrupts n ≡ Some i → (i.line ≡ line → ⊥)
    → find (λ j. j.line == line) (drop (n + 1) image.interrupts) ≡ find (λ j. j.line == line) (drop n image.interrupts)
line-later image line n i at other =
    found-later (λ (j : InterruptEntry). j.line == line) image.interrupts n i at
    (elim (i.line == line) as (λ b. (i.line == line) ≡ b → b ≡ false) [
      | true ↦ λ is. absurd (other (eqb-true i.line line is))
      | false ↦ λ is. refl
    ] refl)

-- ---- who keeps lines, and what threads owe

pub keepers-none : (programs : List Outline) (bells : List (Option Bell)) (keepers : List (Option Keeper)) → keepers ≡ [] → AreKeepers programs bells keepers
keepers-none programs bells keepers none line keeper at = absurd (none-some keeper (ap (λ (l : List (Option Keeper)). slice_get l line) (sym none) ∙ at))

pub keepers-next : (programs : List Outline) (bells : List (Option Bell)) (line : ℕ) (keepers new : List (Option Keeper)) (keeper : Option Keeper)
    → length keepers ≡ line → AreKeepers programs bells keepers → is_kept programs bells line keeper ≡ true → new ≡ keepers ++ keeper ∷ []
    → (length new ≡ line + 1) × AreKeepers programs bells new
keepers-next programs bells line keepers new keeper long are is grown = (
  ap length grown ∙ length-append keepers (keeper ∷ []) ∙ ap (λ n. n + 1) long,
  λ other found at. elim (got-more keepers keeper other found (ap (λ (l : List (Option Keeper)). slice_get l other) (sym grown) ∙ at)) [
    | inl before ↦ are other found before
    | inr here ↦
        subst (λ (k : Option Keeper). is_kept programs bells other k ≡ true) here.1
        (subst (λ n. is_kept programs bells n keeper ≡ true) (sym (here.0 ∙ long)) is)
  ],
)
