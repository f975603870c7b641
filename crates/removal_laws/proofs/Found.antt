-- Tests over all slots of a memory.
use Rattle.std.proofs.Common.{ℕ, ◌≡◌, ◌∙◌, ◌/◌, ◌^◌, ◌<◌, ◌&&◌, ◌||◌, ◌⊎◌, inl, inr, Bool, true, false, List, [], ◌∷◌, get_or, length, refl, sym, ap, arith}
use Rattle.std.specs.List.{list_any, range_with_len}
use Rattle.std.proofs.lemmas.List.Folds.{Any-from_list_any, list_any_at, list_any_none}
use Rattle.std.proofs.lemmas.List.FromFn.{get_or-range_with_len, length-range_with_len}
use Rattle.model.specs.Kernel.State.{slot_numbers}

abbrev pub found : ℕ → (ℕ → Bool) → Bool
found bits test = list_any test (slot_numbers bits)

pub bool-iff : (a b : Bool) → (a ≡ true → b ≡ true) → (b ≡ true → a ≡ true) → a ≡ b
bool-iff true b forth back = sym (forth refl)
bool-iff false true forth back = back refl
bool-iff false false forth back = refl

pub both : (a b : Bool) → (a && b) ≡ true → (a ≡ true) × (b ≡ true)
both true b h = (refl, h)
both false b h = absurd (let clash : false ≡ true = h in cc)

pub or-cases : (p q : Bool) → (p || q) ≡ true → (p ≡ true) ⊎ (q ≡ true)
or-cases true q is = inl refl
or-cases false q is = inr is

pub join : (a b : Bool) → a ≡ true → b ≡ true → (a && b) ≡ true
join a b one two = ap (λ x. x && b) one ∙ two

pub found-at : (bits slot : ℕ) (test : ℕ → Bool) → slot < 2 ^ bits / 16 → test slot ≡ true → found bits test ≡ true
unfolding slot_numbers
found-at bits slot test less passes =
    let count : ℕ = 2 ^ bits / 16 in
    let long : slot < length (range_with_len 0 count) = rw (length-range_with_len 0 count) less in
    let here : get_or (range_with_len 0 count) slot 0 ≡ slot = get_or-range_with_len 0 count slot 0 less ∙ omega arith in
    list_any_at test (range_with_len 0 count) slot 0 long (ap test here ∙ passes)

pub found-none : (bits : ℕ) (test : ℕ → Bool) → ((slot : ℕ) → test slot ≡ false) → found bits test ≡ false
found-none bits test none = list_any_none test (slot_numbers bits) (λ k d less. none _)

pub found-where : (bits : ℕ) (test : ℕ → Bool) → found bits test ≡ true → (slot : ℕ) × (test slot ≡ true)
found-where bits test some = let place = Any-from_list_any test (slot_numbers bits) some in (place.1, place.4)

pub found-same : (bits : ℕ) (a b : ℕ → Bool) → ((slot : ℕ) → a slot ≡ b slot) → found bits a ≡ found bits b
found-same bits a b same = λ i. list_any (λ slot. same slot i) (slot_numbers bits)

any-or : (a b : ℕ → Bool) (ns : List ℕ) → list_any (λ n. a n || b n) ns ≡ (list_any a ns || list_any b ns)
any-or a b [] = refl
any-or a b (n ∷ ns) = ap (λ r. (a n || b n) || r) (any-or a b ns)
    ∙ elim (a n) as (λ x. ((x || b n) || (list_any a ns || list_any b ns)) ≡ ((x || list_any a ns) || (b n || list_any b ns))) [
      | true ↦ refl
      | false ↦ elim (b n) as (λ y. (y || (list_any a ns || list_any b ns)) ≡ (list_any a ns || (y || list_any b ns))) [
        | true ↦ elim (list_any a ns) as (λ z. true ≡ (z || true)) [ true ↦ refl | false ↦ refl ]
        | false ↦ refl
      ]
    ]

pub found-or : (bits : ℕ) (a b : ℕ → Bool) → found bits (λ n. a n || b n) ≡ (found bits a || found bits b)
found-or bits a b = any-or a b (slot_numbers bits)
