-- What is held at numbers where a value is put.
use Rattle.std.proofs.Common.{ℕ, ◌≡◌, ◌≢◌, ◌*◌, ◌∙◌, ◌==◌, ◌^◌, ◌<◌, ◌≤◌, inl, inr, true, false, nat_lt, if◌then◌else◌, List, Option, None, Some, length}
use Rattle.std.proofs.Common.{refl, sym}
use Rattle.std.proofs.Common.{ap, arith}
use Rattle.std.proofs.lemmas.Bool.{eq-eqb, ne_eqb}
use Rattle.std.proofs.lemmas.Bool.Decides.{eqb_tells, nat_tests}
use Rattle.part_roots.specs.Held.{below_all, held_by, held_with}
use Rattle.part_roots.specs.Looks.{put_in}
use Rattle.shared_states.specs.States.{KeepsTrees, at_number, in_puts, put_at}
use Rattle.shared_states.specs.declared.entries.Entry.{Entry}
use Rattle.shared_states.proofs.Laws.{nothing_put, something_put, state_stays}

small_test : (key : ℕ) → key < 2 ^ 63 → nat_lt key (2 ^ 63) ≡ true
small_test key small = grind (arith, nat_tests)

large_test : (key : ℕ) → 2 ^ 63 ≤ key → nat_lt key (2 ^ 63) ≡ false
large_test key large = grind (arith, nat_tests)

pub below_is : (key : ℕ) (value : Option ℕ) → key < 2 ^ 63 → below_all key value ≡ value
unfolding below_all
below_is key value small = ap (λ b. if b then value else None) (small_test key small)

-- nothing is held where nothing can be
pub none_above : (key : ℕ) (value : Option ℕ) → 2 ^ 63 ≤ key → below_all key value ≡ None
unfolding below_all
none_above key value large = ap (λ b. if b then value else None) (large_test key large)

from_test : (key : ℕ) → nat_lt key (2 ^ 63) ≡ false → 2 ^ 63 ≤ key
from_test key large = grind (arith, nat_tests)

below_test : (key : ℕ) → nat_lt key (2 ^ 63) ≡ true → key < 2 ^ 63
below_test key small = grind (arith, nat_tests)

-- values that are the same at numbers that can be held are so
pub below_same : (key : ℕ) (one other : Option ℕ) → (key < 2 ^ 63 → one ≡ other) → below_all key one ≡ below_all key other
below_same key one other same = elim (nat_lt key (2 ^ 63)) as (λ b. nat_lt key (2 ^ 63) ≡ b → below_all key one ≡ below_all key other) [
  | true ↦ λ is. ap (below_all key) (same (below_test key is))
  | false ↦ λ out. none_above key one (from_test key out) ∙ sym (none_above key other (from_test key out))
] refl

pub put_same : (held : ℕ → Option ℕ) (key : ℕ) (value : Option ℕ) (other : ℕ) → key ≡ other → put_in held key value other ≡ value
put_same held key value other same = ap (λ b. if b then value else held other) (eq-eqb key other same)

pub put_apart : (held : ℕ → Option ℕ) (key : ℕ) (value : Option ℕ) (other : ℕ) → (key ≡ other → ⊥) → put_in held key value other ≡ held other
put_apart held key value other apart = ap (λ b. if b then value else held other) (ne_eqb key other apart)

-- a draft in which a value is put holds it
pub put_held : (entries : List Entry) (root : ℕ) (old new : List (ℕ × Option ℕ)) (key : ℕ) (value : Option ℕ) → key < 2 ^ 63
    → ((other : ℕ) → put_at new other ≡ (if key == other then Some value else put_at old other))
    → (other : ℕ) → held_with entries root new other ≡ put_in (held_with entries root old) key value other
put_held entries root old new key value small put other = elim (eqb_tells key other) [
  | inl same ↦
      let most : other < 2 ^ 63 = let e = same.1 in omega (arith, small, e) in
      below_is other (in_puts new other (at_number entries root other)) most
      ∙ something_put new other value (at_number entries root other) (put other ∙ ap (λ b. if b then Some value else put_at old other) same.0)
      ∙ sym (put_same (held_with entries root old) key value other same.1)
  | inr apart ↦
      ap (below_all other) (in_same old new other (at_number entries root other) (put other ∙ ap (λ b. if b then Some value else put_at old other) apart.0))
      ∙ sym (put_apart (held_with entries root old) key value other apart.1)
]
  where
    in_same : (old new : List (ℕ × Option ℕ)) (other : ℕ) (before : Option ℕ) → put_at new other ≡ put_at old other → in_puts new other before
        ≡ in_puts old other before
    in_same old new other before same = elim (put_at old other) as (λ o. put_at old other ≡ o → in_puts new other before ≡ in_puts old other before) [
      | None ↦ λ none. nothing_put new other before (same ∙ none) ∙ sym (nothing_put old other before none)
      | Some v ↦ λ some. something_put new other v before (same ∙ some) ∙ sym (something_put old other v before some)
    ] refl

-- a draft in which nothing is put holds what its state holds
pub nothing_held : (entries : List Entry) (root : ℕ) (puts : List (ℕ × Option ℕ)) → ((key : ℕ) → put_at puts key ≡ None) → (key : ℕ)
    → held_with entries root puts key ≡ held_by entries root key
nothing_held entries root puts none key = ap (below_all key) (nothing_put puts key (at_number entries root key) (none key))

-- the state that is made of a draft holds what that holds
pub made_held : (old new : List Entry) (root made : ℕ) (puts : List (ℕ × Option ℕ))
    → ((key : ℕ) → key < 2 ^ 63 → at_number new made key ≡ in_puts puts key (at_number old root key))
    → (key : ℕ) → held_by new made key ≡ held_with old root puts key
made_held old new root made puts same key = below_same key (at_number new made key) (in_puts puts key (at_number old root key)) (same key)

-- and stays so
pub held_stays : (old new : List Entry) (root : ℕ) → KeepsTrees old new → root < length old → (key : ℕ) → held_by new root key ≡ held_by old root key
held_stays old new root kept inside key = ap (below_all key) (state_stays old new root key kept inside)

-- drafts too
pub with_stays : (old new : List Entry) (root : ℕ) (puts : List (ℕ × Option ℕ)) → KeepsTrees old new → root < length old → (key : ℕ)
    → held_with new root puts key ≡ held_with old root puts key
with_stays old new root puts kept inside key =
    ap (λ o. below_all key (in_puts puts key o)) (state_stays old new root key kept inside)

pub keeps_both : (old mid new : List Entry) → KeepsTrees old mid → KeepsTrees mid new → KeepsTrees old new
keeps_both old mid new first second =
    let one = first.longer in
    let two = second.longer in
    record {
      longer = omega (arith, one, two);
      sides = λ tree side inside. second.sides tree side (omega (arith, inside, one)) ∙ first.sides tree side inside;
      values = λ tree inside. second.values tree (omega (arith, inside, one)) ∙ first.values tree inside;
      ends = λ path tree inside. second.ends path tree (omega (arith, inside, one)) ∙ first.ends path tree inside;
      held = λ path tree inside. second.held path tree (omega (arith, inside, one)) ∙ first.held path tree inside;
    }

-- of a name it is noted that something is its child
pub parent_noted : (old new : ℕ → Option ℕ) (key n : ℕ) → ((m : ℕ) → new m ≡ put_in old key (Some 1) m) → key ≡ 2 * n → new (2 * n) ≢ None
parent_noted old new key n put same none =
    absurd (let clash : Some 1 ≡ None = sym (put_same old key (Some 1) (2 * n) same) ∙ sym (put (2 * n)) ∙ none in cc)

pub parent_kept : (old new : ℕ → Option ℕ) (key n : ℕ) → ((m : ℕ) → new m ≡ put_in old key (Some 1) m) → old n ≢ None → new n ≢ None
parent_kept old new key n put some none = elim (eqb_tells key n) [
  | inl same ↦ absurd (let clash : Some 1 ≡ None = sym (put_same old key (Some 1) n same.1) ∙ sym (put n) ∙ none in cc)
  | inr apart ↦ some (sym (put_apart old key (Some 1) n apart.1) ∙ sym (put n) ∙ none)
]
