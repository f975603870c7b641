-- Bits of the numbers of a set: one number more, and two sets with no bit in common.
use Rattle.std.proofs.Common.{ℕ, ◌≡◌, ◌∙◌, ◌+◌, ◌==◌, ◌/◌, ◌%◌, ◌<◌, ◌≤◌, ◌&&◌, Bool, true, false, not, inl, inr, List, Some, length, take, get_or}
use Rattle.std.proofs.Common.{arith, refl, sym, ap, subst, take_all}
use Rattle.std.specs.Prelude.{bit_and, nat_eq, slice_get}
use Rattle.std.specs.Int.{bit_at}
use Rattle.std.proofs.lemmas.Bool.{and_parts, cases_lt, eqb-true, or_cases}
use Rattle.std.proofs.lemmas.Bool.Decides.{eqb_tells}
use Rattle.std.proofs.lemmas.List.{get_or_past}
use Rattle.std.proofs.lemmas.List.Folds.{list_any_more}
use Rattle.std.proofs.lemmas.Nat.Bits.{bit_at-zero, bit_at_and}
use Rattle.std.proofs.lemmas.Option.{get_or_from_slice_get}
use Rattle.model.specs.Acceptance.ThreadRules.{is_member}
use Rattle.parts.specs.ObjectSets.{AreMarked, ShareNoBit, has_bit}

-- ---- one number more

pub marked-none : (numbers words : List ℕ) → AreMarked (take 0 numbers) words
unfolding AreMarked
marked-none numbers words = λ n is. absurd (let clash : false ≡ true = is in cc)

pub marked-next : (numbers : List ℕ) (k x : ℕ) (old new : List ℕ) → k < length numbers → slice_get numbers k ≡ Some x → has_bit new x ≡ true
    → ((n : ℕ) → has_bit old n ≡ true → has_bit new n ≡ true) → AreMarked (take k numbers) old → AreMarked (take (k + 1) numbers) new
unfolding AreMarked
marked-next numbers k x old new lt at own kept so_far = λ n is.
    elim (or_cases (is_member n (take k numbers)) (nat_eq n (get_or numbers k x)) (sym (list_any_more (nat_eq n) numbers k x lt) ∙ is)) [
      | inl before ↦ kept n (so_far n before)
      | inr here ↦
          subst (λ (m : ℕ). has_bit new m ≡ true) (sym (eqb-true n (get_or numbers k x) here ∙ get_or_from_slice_get numbers k x x at)) own
    ]

pub marked-all : (numbers : List ℕ) (k : ℕ) (words : List ℕ) → length numbers ≤ k → AreMarked (take k numbers) words → AreMarked numbers words
marked-all numbers k words le so_far = subst (λ (l : List ℕ). AreMarked l words) (take_all k numbers le) so_far

-- ---- no bit in common

not-false : (b : Bool) → not b ≡ false → b ≡ true
not-false true is = refl
not-false false is = absurd (let clash : true ≡ false = is in cc)

module _ (one other : List ℕ) where
  -- the words up to a place have no bit in common
  abbrev pub share_none : ℕ → Type 0
  share_none place = (k : ℕ) → k < place → bit_and (get_or one k 0) (get_or other k 0) ≡ 0

  pub share-next : (b : Bool) (k : ℕ) → b ≡ not (bit_and (get_or one k 0) (get_or other k 0) == 0) → b ≡ false → share_none k → share_none (k + 1)
  share-next b k is none so_far = λ j lt. elim (eqb_tells j k) [
    | inl here ↦
        ap (λ (i : ℕ). bit_and (get_or one i 0) (get_or other i 0)) here.1
        ∙ eqb-true (bit_and (get_or one k 0) (get_or other k 0)) 0
        (not-false (bit_and (get_or one k 0) (get_or other k 0) == 0) (sym is ∙ none))
    | inr apart ↦ so_far j (omega (arith, lt, apart.1))
  ]

  pub share-end : (place : ℕ) → length one ≤ place → share_none place → ShareNoBit one other
  unfolding ShareNoBit
  share-end place past so_far = λ k. elim (cases_lt k (length one)) [
    | inl inside ↦ so_far k (omega (arith, inside, past))
    | inr beyond ↦ ap (λ (w : ℕ). bit_and w (get_or other k 0)) (get_or_past one k 0 beyond)
  ]

pub apart-by-words : (one other words others : List ℕ) → AreMarked one words → AreMarked other others → ShareNoBit words others → (n : ℕ)
    → (is_member n one && is_member n other) ≡ false
unfolding AreMarked ShareNoBit
apart-by-words one other words others first second none n =
    elim (is_member n one && is_member n other) as (λ b. (is_member n one && is_member n other) ≡ b → b ≡ false) [
      | true ↦ λ both.
          let parts = and_parts (is_member n one) (is_member n other) both in
          let w : ℕ = get_or words (n / 64) 0 in
          let v : ℕ = get_or others (n / 64) 0 in
          let own : bit_at w (n % 64) ≡ 1 = eqb-true (bit_at w (n % 64)) 1 (first n parts.0) in
          let too : bit_at v (n % 64) ≡ 1 = eqb-true (bit_at v (n % 64)) 1 (second n parts.1) in
          let gone : bit_at (bit_and w v) (n % 64) ≡ 0 = ap (λ (m : ℕ). bit_at m (n % 64)) (none (n / 64)) ∙ bit_at-zero (n % 64) in
          absurd (let clash : ⊥ = omega (arith, own, too, gone, bit_at_and w v (n % 64)) in clash)
      | false ↦ λ no. refl
    ] refl
