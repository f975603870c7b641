-- Two threads of an image have no slot in common, and each slot has an owner or is apart from all.
use Rattle.std.proofs.Common.{ℕ, zero, suc, ◌≡◌, ◌∙◌, ◌<◌, ◌⊎◌, ◌||◌, inl, inr, Bool, true, false, nat_eq, List, [], ◌∷◌, take, Some, refl, sym, ap, subst}
use Rattle.std.proofs.Common.{arith}
use Rattle.std.specs.Prelude.{Contains, flat_map, slice_get}
use Rattle.std.specs.List.{list_any}
use Rattle.std.proofs.lemmas.Bool.{and_parts, cases_order, false≢true}
use Rattle.std.proofs.lemmas.Option.{none-some, same_Some}
use Rattle.format_laws.proofs.Laws.{is-fitting}
use Rattle.soundness.proofs.Laws.{AreFormed, ThreadKept, are-formed, cnode-slot, slot-of-one}
use Rattle.model.specs.Acceptance.Accepted.{IsWellFormed}
use Rattle.model.specs.Acceptance.Authority.{IsOwnSlot}
use Rattle.model.specs.Acceptance.ThreadRules.{is_member, reached, shares_cspace}
use Rattle.model.specs.Acceptance.NotedKernel.{stands_in}
use Rattle.model.specs.Acceptance.WellFormed.{has_slot}
use Rattle.model.specs.Images.Described.{Numbered, is_object_slot, numbered_threads}
use Rattle.model.specs.Images.Image.{Image, whole_image}
use Rattle.headline.specs.facts.Standing.{IsApart}
use Rattle.headline.proofs.facts.Laws.{is-listed}
use Rattle.headline.proofs.kept.Laws.{member-passes, thread-entry}
use Rattle.headline.proofs.lookups.Laws.{key-found}
use Rattle.thread_spaces.proofs.Laws.{stands-apart}
use Rattle.headline.proofs.starts.Laws.{any-flat, contained, contains, none-at}
use Rattle.typestate.proofs.Laws.{key-named}

-- ---- lists

taken-at : {A : Type 0} (n : ℕ) (xs : List A) (k : ℕ) (x : A) → k < n → slice_get xs k ≡ Some x → slice_get (take n xs) k ≡ Some x
taken-at zero xs k x less at = absurd (omega (arith, less))
taken-at (suc n) [] k x less at = absurd (none-some x at)
taken-at (suc n) (y ∷ ys) zero x less at = at
taken-at (suc n) (y ∷ ys) (suc k) x less at = taken-at n ys k x (omega (arith, less)) at

record Passes {A : Type 0} (test : A → Bool) (xs : List A) : Type 0 where
  pub place : ℕ
  pub entry : A
  pub at : slice_get xs place ≡ Some entry
  pub is : test entry ≡ true

some-passes : {A : Type 0} (test : A → Bool) (xs : List A) → list_any test xs ≡ true → Passes test xs
some-passes test [] some = absurd (false≢true some)
some-passes test (x ∷ xs) some = elim (test x) as (λ b. test x ≡ b → (b || list_any test xs) ≡ true → Passes test (x ∷ xs)) [
  | true ↦ λ is _. record { place = 0; entry = x; at = refl; is = is }
  | false ↦ λ _ later. let of = some-passes test xs later in record { place = suc of.place; entry = of.entry; at = of.at; is = of.is }
] refl some

-- ---- one owner

module _ (image : Image) (fits : whole_image.fits image ≡ true) (well : IsWellFormed image) where
  earlier-apart : (t u : Numbered) (cnode : ℕ) → Contains (numbered_threads image) t → Contains (numbered_threads image) u → u.number < t.number
      → is_member cnode (reached image t.thread) ≡ true → is_member cnode (reached image u.thread) ≡ true → ⊥
  unfolding shares_cspace
  earlier-apart t u cnode first second less here there =
      let earlier = flat_map (reached image) (take t.number image.threads) in
      let shares = ThreadKept.cspace (AreFormed.thread (are-formed image well) t.number t.thread (thread-entry image t first)) in
      let among : is_member cnode earlier ≡ true =
      any-flat (nat_eq cnode) (reached image) (take t.number image.threads) u.number u.thread
      (taken-at t.number image.threads u.number u.thread less (thread-entry image u second)) there in
      false≢true (sym shares ∙ member-passes (λ c. is_member c earlier) cnode (reached image t.thread) here among)

  -- the CNode of an own slot
  record StandsIn (t : Numbered) (slot : ℕ) : Type 0 where
    pub cnode : ℕ
    pub member : is_member cnode (reached image t.thread) ≡ true
    pub inside : cnode < image.header.objects
    pub there : is_object_slot image slot cnode ≡ true

  stands-in : (t : Numbered) (slot : ℕ) → Contains (numbered_threads image) t → IsOwnSlot image t.thread slot → StandsIn t slot
  stands-in t slot listed own =
      let cnodes = reached image t.thread in
      let of = key-found image cnodes slot own in
      let key = of.key in
      let named = key-named image cnodes slot key of.at in
      let parts = and_parts (is_member key.cnode cnodes) (has_slot image key.cnode key.index) named.own in
      record {
        cnode = key.cnode;
        member = of.member;
        inside = (stands-apart image t.thread fits well (is-listed image t listed)).listed key.cnode of.member;
        there = subst (λ (n : ℕ). is_object_slot image n key.cnode ≡ true) named.place (cnode-slot image key.cnode key.index parts.1);
      }

  pub one-owner : (t u : Numbered) (slot : ℕ) → Contains (numbered_threads image) t → Contains (numbered_threads image) u
      → IsOwnSlot image t.thread slot → IsOwnSlot image u.thread slot → t ≡ u
  one-owner t u slot first second here there =
      let one = stands-in t slot first here in
      let two = stands-in u slot second there in
      let same : one.cnode ≡ two.cnode =
      slot-of-one image (is-fitting image fits) (are-formed image well) one.cnode two.cnode slot one.inside two.inside one.there two.there in
      elim (cases_order t.number u.number) [
        | inl number ↦
            let thread : t.thread ≡ u.thread =
            same_Some t.thread u.thread (sym (thread-entry image t first) ∙ ap (slice_get image.threads) number ∙ thread-entry image u second) in
            λ i. record { number = number i; thread = thread i }
        | inr (inl below) ↦ absurd (earlier-apart u t two.cnode second first below two.member
            (subst (λ (n : ℕ). is_member n (reached image t.thread) ≡ true) same one.member))
        | inr (inr above) ↦ absurd (earlier-apart t u one.cnode first second above one.member
            (subst (λ (n : ℕ). is_member n (reached image u.thread) ≡ true) (sym same) two.member))
      ]

-- ---- some owner, or none

pub record HasOwner (image : Image) (slot : ℕ) : Type 0 where
  pub thread : Numbered
  pub listed : Contains (numbered_threads image) thread
  pub own : IsOwnSlot image thread.thread slot

pub owned-or-apart : (image : Image) (slot : ℕ) → HasOwner image slot ⊎ IsApart image slot
owned-or-apart image slot =
    let owns : Numbered → Bool = λ t. list_any (stands_in image slot) (reached image t.thread) in
    elim (list_any owns (numbered_threads image)) as (λ b. list_any owns (numbered_threads image) ≡ b → HasOwner image slot ⊎ IsApart image slot) [
      | true ↦ λ some.
          let of = some-passes owns (numbered_threads image) some in
          inl (record { thread = of.entry; listed = contains (numbered_threads image) of.place of.entry of.at; own = of.is })
      | false ↦ λ none. inr (λ t listed own.
          let there = contained (numbered_threads image) t listed in
          false≢true (sym (none-at owns (numbered_threads image) there.0 t none there.1) ∙ own))
    ] refl
