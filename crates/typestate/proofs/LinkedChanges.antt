-- Links are kept where a change is put among others, or one of them goes.
use Rattle.std.proofs.Common.{ℕ, ◌≡◌, ◌∙◌, ◌==◌, ◌*◌, ◌/◌, inl, inr, Bool, true, false, if◌then◌else◌, Some, List, refl, sym, ap, subst, arith}
use Rattle.std.specs.Option.{option_map_or}
use Rattle.std.specs.Ordering.{is_eq, nat_cmp, ordering_then}
use Rattle.std.proofs.lemmas.Bool.{eq-eqb, eqb-true}
use Rattle.std.proofs.lemmas.Bool.Decides.{eqb_tells, nat_tests}
use Rattle.model.specs.Acceptance.NotedStates.{NotedSlot, SlotKey, is_same_key, number_of, slot_at}
use Rattle.typestate.specs.Families.{AreNamed, KeepsLinks, found, has_link}
use Rattle.typestate.specs.PackedChanges.{AreLinked, is_named, packed_at}
use Rattle.typestate.specs.declared.packed_change.PackedChange.{PackedChange}

module _ (test : ℕ → NotedSlot → Bool) (old new : List NotedSlot) (change : NotedSlot)
    (put : (key : SlotKey) → slot_at new key ≡ (if is_same_key change.key key then Some change else slot_at old key)) where
  put-at : (n : ℕ) → found new n ≡ (if number_of change.key == n then Some change else found old n)
  put-at n =
      let key : SlotKey = record { cnode = 0; index = n } in
      let same : number_of key ≡ n = omega arith in
      subst (λ m. found new m ≡ (if number_of change.key == m then Some change else found old m)) same (put key)

  -- the change has its links
  abbrev HasNumber : List (ℕ × ℕ) → Type 0
  HasNumber links = (from : ℕ) → test from change ≡ true → has_link links from (number_of change.key) ≡ true

  -- where links are added
  pub put-linked : (before after : List (ℕ × ℕ)) → AreNamed test old before → KeepsLinks before after → HasNumber after → AreNamed test new after
  put-linked before after linked keeps has parent child is =
      elim (number_of change.key == child) as (λ b. number_of change.key == child ≡ b →
      option_map_or (test parent) (if b then Some change else found old child) false ≡ true → has_link after parent child ≡ true) [
        | true ↦ λ same here. subst (λ n. has_link after parent n ≡ true) (eqb-true (number_of change.key) child same) (has parent here)
        | false ↦ λ _ there. keeps parent child (linked parent child there)
      ] refl (sym (ap (λ o. option_map_or (test parent) o false) (put-at child)) ∙ is)

  -- where links of what stood there before are taken away
  pub replaced-linked : (before after : List (ℕ × ℕ)) (was : NotedSlot) → number_of was.key ≡ number_of change.key → AreNamed test new before
      → ((parent child : ℕ) → (child == number_of was.key) ≡ false → has_link before parent child ≡ true → has_link after parent child ≡ true) →
      HasNumber after → AreNamed test new after
  replaced-linked before after was place linked others has parent child is =
      elim (child == number_of was.key) as (λ b. child == number_of was.key ≡ b → has_link after parent child ≡ true) [
        | true ↦ λ same.
            let here : number_of change.key ≡ child = sym (eqb-true child (number_of was.key) same ∙ place) in
            let holds : test parent change ≡ true =
            ap (λ b. option_map_or (test parent) (if b then Some change else found old child) false) (sym (eq-eqb (number_of change.key) child here))
            ∙ sym (ap (λ o. option_map_or (test parent) o false) (put-at child)) ∙ is in
            subst (λ n. has_link after parent n ≡ true) here (has parent holds)
        | false ↦ λ other. others parent child other (linked parent child is)
      ] refl

-- ---- links that are others

pub other-child : (x y a b n : ℕ) → y ≡ n → (b == n) ≡ false → is_eq (ordering_then (nat_cmp x a) (nat_cmp y b)) ≡ false
other-child x y a b n same off = grind (arith, nat_tests)

pub other-parent : (x y a b n : ℕ) → x ≡ n → (n == a) ≡ false → is_eq (ordering_then (nat_cmp x a) (nat_cmp y b)) ≡ false
other-parent x y a b n same off = grind (arith, nat_tests)

-- a link goes from which no slot of its block has the name
pub others-linked : (es : List (ℕ × PackedChange)) (before after : List (ℕ × ℕ)) (name block : ℕ)
    → ((a b : ℕ) → is_eq (ordering_then (nat_cmp name a) (nat_cmp block b)) ≡ false → has_link after a b ≡ has_link before a b)
    → ((slot : ℕ) → slot / 16 * 16 ≡ block → is_named name (packed_at es slot) ≡ false) → AreLinked es before → AreLinked es after
others-linked es before after name block same none linked other slot is = elim (eqb_tells name other) [
  | inl here ↦ elim (eqb_tells (slot / 16 * 16) block) [
    | inl ours ↦
        let off : is_named other (packed_at es slot) ≡ false = subst (λ n. is_named n (packed_at es slot) ≡ false) here.1 (none slot ours.1) in
        absurd (let clash : false ≡ true = sym off ∙ is in cc)
    | inr apart ↦ same other (slot / 16 * 16) (other-child name block other (slot / 16 * 16) block refl apart.0) ∙ linked other slot is
  ]
  | inr apart ↦ same other (slot / 16 * 16) (other-parent name block other (slot / 16 * 16) name refl apart.0) ∙ linked other slot is
]
