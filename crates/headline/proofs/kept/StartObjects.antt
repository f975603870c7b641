-- The thread objects of the described state: those of the image's threads run, and all others are new.
use Rattle.std.proofs.Common.{ℕ, zero, suc, ◌≡◌, ◌∙◌, ◌==◌, ◌+◌, ◌⊎◌, inl, inr, Bool, true, false, if◌then◌else◌, List, [], ◌∷◌, map, find, Option, Some, None}
use Rattle.std.proofs.Common.{refl, sym, ap, subst, arith}
use Rattle.std.specs.Prelude.{Contains, option_and_then, slice_get}
use Rattle.std.specs.Option.{option_map_or}
use Rattle.std.specs.List.{enumerate_from, range_with_len}
use Rattle.std.proofs.lemmas.Bool.{eqb-true}
use Rattle.model.specs.Images.Described.{described, described_object, first_some, listed_thread, object_there}
use Rattle.model.specs.Images.Image.{Image, Thread}
use Rattle.model.specs.Images.Places.{offset_of, type_at}
use Rattle.model.specs.Kernel.Retype.{NewObject, NewUntyped, NewThread, NewEndpoint, NewNotification, NewCNode, NewFrame, NewPageTable, NewRootTable, object}
use Rattle.model.specs.Kernel.State.{Object, Status, Inactive, Runnable, ThreadObject, ThreadState, as_thread}
use Rattle.headline.specs.facts.Standing.{IsControlBlock}
use Rattle.headline.proofs.facts.Laws.{find-entry, with_number}

-- ---- what is found

-- the first that is there is somewhere
some-there : {A : Type 0} (f : ℕ → Option A) (x : A) (from count : ℕ) → first_some (map f (range_with_len from count)) ≡ Some x → (n : ℕ) × (f n ≡ Some x)
some-there f x from zero is = absurd (let clash : None ≡ Some x = is in cc)
some-there f x from (suc count) is = elim (f from) as (λ o. f from ≡ o → first_some (o ∷ map f (range_with_len (from + 1) count)) ≡ Some x → (n : ℕ)
    × (f n ≡ Some x)) [
      | None ↦ λ _ later. some-there f x (from + 1) count later
      | Some y ↦ λ here same. (from, here ∙ same)
    ] refl is

-- a listed thread has a number
pub listed-from : (from : ℕ) (threads : List Thread) (k : ℕ) (t : Thread) → slice_get threads k ≡ Some t
    → (n : ℕ) × Contains (map with_number (enumerate_from from threads)) (with_number (n, t))
listed-from from [] k t at = absurd (let clash : None ≡ Some t = at in cc)
listed-from from (u ∷ us) zero t at =
    let same : u ≡ t = cc in
    (from, (0, omega arith, ap (λ (v : Thread). with_number (from, v)) same))
listed-from from (u ∷ us) (suc k) t at =
    let later = listed-from (from + 1) us k t at in
    let there = later.1 in
    let inside = there.1 in
    (later.0, (suc there.0, omega (arith, inside), there.2))

-- ---- what threads do

abbrev status_in : Option Object → Status
status_in o = option_map_or (λ own. own.status) (as_thread o) Inactive

new-inactive : (kind : Option NewObject) (own : ThreadState) → option_and_then object kind ≡ Some (ThreadObject own) → own.status ≡ Inactive
new-inactive None own is = absurd (let clash : ◌≡◌ {A = Option Object} None (Some (ThreadObject own)) = is in cc)
new-inactive (Some (NewUntyped bits)) own is = absurd (let clash : ◌≡◌ {A = Option Object} None (Some (ThreadObject own)) = is in cc)
new-inactive (Some NewThread) own is = sym (ap status_in is)
new-inactive (Some NewEndpoint) own is = sym (ap status_in is)
new-inactive (Some NewNotification) own is = sym (ap status_in is)
new-inactive (Some (NewCNode radix)) own is = sym (ap status_in is)
new-inactive (Some NewFrame) own is = sym (ap status_in is)
new-inactive (Some NewPageTable) own is = sym (ap status_in is)
new-inactive (Some NewRootTable) own is = sym (ap status_in is)

by-number : (image : Image) (number : ℕ) (own : ThreadState) → described_object image number ≡ Some (ThreadObject own)
    → (own.status ≡ Inactive) ⊎ IsControlBlock image (offset_of image number)
by-number image number own is = by-found (find (λ t. t.header.tcb == number) image.threads) refl is
  where
    by-found : (found : Option Thread) → find (λ t. t.header.tcb == number) image.threads ≡ found
        → option_map_or (λ t. Some (ThreadObject (listed_thread t))) found (option_and_then object (type_at image number)) ≡ Some (ThreadObject own)
        → (own.status ≡ Inactive) ⊎ IsControlBlock image (offset_of image number)
    by-found None from there = inl (new-inactive (type_at image number) own there)
    by-found (Some t) from there =
        let at = find-entry (λ u. u.header.tcb == number) image.threads t from in
        let listed = listed-from 0 image.threads at.0 t at.1 in
        inr (record {
          thread = record { number = listed.0; thread = t };
          listed = listed.1;
          is =
              ap (offset_of image) (sym (eqb-true t.header.tcb number at.2));
        })

by-offset : (image : Image) (offset number : ℕ) (own : ThreadState) (b : Bool) → offset_of image number == offset ≡ b
    → (if b then described_object image number else None) ≡ Some (ThreadObject own)
    → (own.status ≡ Inactive) ⊎ IsControlBlock image offset
by-offset image offset number own true here is =
    subst (λ (place : ℕ). (own.status ≡ Inactive) ⊎ IsControlBlock image place) (eqb-true (offset_of image number) offset here) (by-number image number own is)
by-offset image offset number own false here is = absurd (let clash : ◌≡◌ {A = Option Object} None (Some (ThreadObject own)) = is in cc)

pub others-inactive : (image : Image) (offset : ℕ) (own : ThreadState) → (described image).objects offset ≡ Some (ThreadObject own)
    → (own.status ≡ Inactive) ⊎ IsControlBlock image offset
unfolding described
others-inactive image offset own is =
    let there = some-there (object_there image offset) (ThreadObject own) 0 image.header.objects is in
    by-offset image offset there.0 own (offset_of image there.0 == offset) refl there.1

-- a thread of the image runs
pub listed-runs : (t : Thread) (o : Option Object) (own : ThreadState) → o ≡ Some (ThreadObject (listed_thread t)) → o ≡ Some (ThreadObject own) →
    Runnable ≡ own.status
listed-runs t o own listed is = ap status_in (sym listed ∙ is)
