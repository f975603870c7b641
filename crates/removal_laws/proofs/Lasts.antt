-- A set takes the last of some capabilities where one slot of it alone does, or else what is left of the set does.
use Rattle.std.proofs.Common.{ℕ, ◌≡◌, ◌≢◌, ◌∙◌, ◌==◌, ◌/◌, ◌^◌, ◌<◌, ◌&&◌, ◌||◌, inl, inr, Bool, true, false, not, refl, sym, ap}
use Rattle.std.proofs.lemmas.Bool.{eq-eqb}
use Rattle.std.proofs.lemmas.Bool.Decides.{eqb_tells}
use Rattle.model.specs.declared.capabilities.Cap.{Cap}
use Rattle.removal_laws.specs.Steps.{alone, less}
use Rattle.removal_laws.proofs.Found.{found, found-at, found-none, found-or, found-same}

-- what slots inside a set and outside hold passes a test
abbrev pub inside : ℕ → (ℕ → Bool) → (ℕ → Cap) → (Cap → Bool) → Bool
inside bits set held test = found bits (λ y. set y && test (held y))

abbrev pub outside : ℕ → (ℕ → Bool) → (ℕ → Cap) → (Cap → Bool) → Bool
outside bits set held test = found bits (λ y. not (set y) && test (held y))

abbrev pub last : ℕ → (ℕ → Bool) → (ℕ → Cap) → (Cap → Bool) → Bool
last bits set held test = inside bits set held test && not (outside bits set held test)

-- ---- tests of a slot: s, whether it is in the set, e, whether it is the one, a and b, what it held and holds passes

inside-at : (s e a b : Bool) → (e ≡ true → s ≡ true) → (e ≡ false → b ≡ a) → (s && a) ≡ ((e && a) || ((s && not e) && b))
inside-at true true true b member same = refl
inside-at true true false b member same = refl
inside-at true false a b member same = sym (same refl)
inside-at false true a b member same = absurd (let clash : false ≡ true = member refl in cc)
inside-at false false a b member same = refl

pub outside-at : (s e a b : Bool) → (e ≡ true → s ≡ true) → (e ≡ false → b ≡ a) → (not e && a) ≡ (((s && not e) && b) || (not s && a))
outside-at true true a b member same = refl
outside-at true false true b member same = sym (ap (λ x. x || false) (same refl))
outside-at true false false b member same = sym (ap (λ x. x || false) (same refl))
outside-at false true a b member same = absurd (let clash : false ≡ true = member refl in cc)
outside-at false false a b member same = refl

pub left-at : (s e a b : Bool) → (e ≡ true → s ≡ true) → (e ≡ true → b ≡ false) → (e ≡ false → b ≡ a) → (not (s && not e) && b) ≡ (not s && a)
left-at true true a b member gone same = gone refl
left-at true false a b member gone same = refl
left-at false true a b member gone same = absurd (let clash : false ≡ true = member refl in cc)
left-at false false a b member gone same = same refl

splits : (p i o : Bool) → ((p || i) && not o) ≡ ((p && not (i || o)) || (i && not o))
splits true true true = refl
splits true true false = refl
splits true false true = refl
splits true false false = refl
splits false i o = refl

-- one slot of a set is emptied, and what the others hold passes the test as before
module _ (bits : ℕ) (set : ℕ → Bool) (x : ℕ) (held now : ℕ → Cap) (test : Cap → Bool) (member : set x ≡ true) (near : x < 2 ^ bits / 16)
    (gone : test (now x) ≡ false) (same : (y : ℕ) → y ≢ x → test (now y) ≡ test (held y)) where
  here : (y : ℕ) → (y == x) ≡ true → y ≡ x
  here y is = elim (eqb_tells y x) [ inl at ↦ at.1 | inr other ↦ absurd (let clash : false ≡ true = sym other.0 ∙ is in cc) ]

  other : (y : ℕ) → (y == x) ≡ false → y ≢ x
  other y is = elim (eqb_tells y x) [ inl at ↦ absurd (let clash : true ≡ false = sym at.0 ∙ is in cc) | inr apart ↦ apart.1 ]

  pub inside-alone : inside bits (alone x) held test ≡ test (held x)
  inside-alone = elim (test (held x)) as (λ b. test (held x) ≡ b → inside bits (alone x) held test ≡ b) [
    | true ↦ λ is. found-at bits x _ near (ap (λ b. b && test (held x)) (eq-eqb x x refl) ∙ is)
    | false ↦ λ is. found-none bits _ (λ y. elim (eqb_tells y x) [
      | inl at ↦ ap (λ b. b && test (held y)) at.0 ∙ ap (λ n. test (held n)) at.1 ∙ is
      | inr apart ↦ ap (λ b. b && test (held y)) apart.0
    ])
  ] refl

  pub inside-split : inside bits set held test ≡ (test (held x) || inside bits (less set x) now test)
  inside-split =
      found-same bits _ _ (λ y. inside-at (set y) (y == x) (test (held y)) (test (now y)) (λ is. ap set (here y is) ∙ member) (λ is. same y (other y is)))
      ∙ found-or bits (λ y. alone x y && test (held y)) (λ y. less set x y && test (now y))
      ∙ ap (λ b. b || inside bits (less set x) now test) inside-alone

  outside-alone : outside bits (alone x) held test ≡ (inside bits (less set x) now test || outside bits set held test)
  outside-alone =
      found-same bits _ _ (λ y. outside-at (set y) (y == x) (test (held y)) (test (now y)) (λ is. ap set (here y is) ∙ member) (λ is. same y (other y is)))
      ∙ found-or bits (λ y. less set x y && test (now y)) (λ y. not (set y) && test (held y))

  outside-left : outside bits (less set x) now test ≡ outside bits set held test
  outside-left =
      found-same bits _ _ (λ y. left-at (set y) (y == x) (test (held y)) (test (now y)) (λ is. ap set (here y is) ∙ member)
      (λ is. ap (λ n. test (now n)) (here y is) ∙ gone) (λ is. same y (other y is)))

  pub last-split : last bits set held test ≡ (last bits (alone x) held test || last bits (less set x) now test)
  last-split =
      let i : Bool = inside bits (less set x) now test in
      let o : Bool = outside bits set held test in
      ap (λ b. b && not o) inside-split
      ∙ splits (test (held x)) i o
      ∙ ap (λ b. (b && not (i || o)) || (i && not o)) (sym inside-alone)
      ∙ ap (λ b. (inside bits (alone x) held test && not b) || (i && not o)) (sym outside-alone)
      ∙ ap (λ b. last bits (alone x) held test || (i && not b)) (sym outside-left)
