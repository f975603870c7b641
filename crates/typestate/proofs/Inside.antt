-- What an argument names stands in one of the thread's CNodes.
use Rattle.std.proofs.Common.{ℕ, zero, suc, ◌≡◌, ◌∙◌, ◌==◌, ◌+◌, ◌/◌, ◌^◌, ◌<◌, ◌&&◌, ◌||◌, Bool, true, false, not, nat_le, nat_lt, if◌then◌else◌, Some, None}
use Rattle.std.proofs.Common.{Result, Ok, Err, List, refl, sym, ap, subst}
use Rattle.model.specs.Acceptance.NotedKernel.{key_of, noted_slots}
use Rattle.model.specs.Acceptance.NotedStates.{NotedSlot, SlotKey, is_own_cnode}
use Rattle.model.specs.Acceptance.ThreadRules.{reached}
use Rattle.model.specs.Capabilities.Lookup.{go_on, is_cnode, lookup, lookup_within, resolve}
use Rattle.model.specs.Capabilities.Slots.{Slots, capability_at}
use Rattle.model.specs.Images.Image.{Image, Thread}
use Rattle.model.specs.Kernel.Arguments.{◌>>=◌, argument_slot, check, whole}
use Rattle.model.specs.declared.capabilities.Cap.{Cap}
use Rattle.model.specs.declared.capabilities.Cap.TheVariants.{Empty, Untyped, Endpoint, Notification, CNode, Frame, PageTable, Tcb, RootTable, InterruptControl}
use Rattle.model.specs.declared.capabilities.Cap.TheVariants.{InterruptHandler}
use Rattle.model.specs.declared.errors.KError.{KError}
use Rattle.model.specs.declared.errors.KError.TheVariants.{FailedLookup, RangeError}
use Rattle.model.specs.declared.invocations.SlotName.{SlotName}
use Rattle.model.specs.declared.lookup_failures.LookupFailure.{LookupFailure}
use Rattle.typestate.specs.declared.window.Window.{Window}
use Rattle.typestate.specs.CNodeCalls.{NamesSlot}
use Rattle.typestate.specs.Spaces.{AreWindows, NothingLeadsOutside, is_among, key_in, own_slots}
use Rattle.typestate.proofs.Lookups.{AgreeInside, IsIndexIn, argument-same, index-below, with_held}
use Rattle.typestate.proofs.SlotMaps.{held_at, keys-same, noted-holds, own-key, slots-agree}

-- a slot of a CNode that is the thread's
pub record StandsInside (own : ℕ → ℕ → Bool) (slot : ℕ) : Type 0 where
  pub offset : ℕ
  pub radix : ℕ
  pub index : ℕ
  pub mine : own offset radix ≡ true
  pub below : index < 2 ^ radix
  pub place : offset / 16 + index ≡ slot

abbrev FindsInside : (ℕ → ℕ → Bool) → Result (ℕ × ℕ) LookupFailure → Type 0
FindsInside own (Ok found) = StandsInside own found.0
FindsInside own (Err failure) = Unit {0}

module _ (s t : Slots) (own : ℕ → ℕ → Bool) (agree : AgreeInside s t own) (address : ℕ) where
  goes-inside : (n offset radix : ℕ) (found : Result (ℕ × ℕ) LookupFailure) → own offset radix ≡ true → IsIndexIn radix found
      → ((held : Cap) (left : ℕ) → is_among own held ≡ true → FindsInside own (lookup_within n s held address left))
      → FindsInside own (go_on s offset (λ held rest. lookup_within n s held address rest) found)
  goes-inside n offset radix (Err failure) mine index behind = tt
  goes-inside n offset radix (Ok place) mine index behind =
      let slot = offset / 16 + place.0 in
      let held = capability_at s slot in
      elim (place.1 == 0 || not (is_cnode held)) as (λ b. FindsInside own (if b then Ok (slot, place.1) else lookup_within n s held address place.1)) [
        | true ↦ record { offset = offset; radix = radix; index = place.0; mine = mine; below = index; place = refl }
        | false ↦ behind held place.1 (agree.inside offset radix place.0 mine index)
      ]

  looks-inside : (n : ℕ) (root : Cap) (left : ℕ) → is_among own root ≡ true → FindsInside own (lookup_within n s root address left)
  unfolding lookup_within
  looks-inside zero root left mine = tt
  looks-inside (suc n) Empty left mine = tt
  looks-inside (suc n) (Untyped _ _ _) left mine = tt
  looks-inside (suc n) (Endpoint _ _ _) left mine = tt
  looks-inside (suc n) (Notification _ _ _) left mine = tt
  looks-inside (suc n) (CNode offset radix guard) left mine =
      goes-inside n offset radix (resolve radix guard address left) mine (index-below radix guard address left) (looks-inside n)
  looks-inside (suc n) (Frame _ _ _) left mine = tt
  looks-inside (suc n) (PageTable _ _) left mine = tt
  looks-inside (suc n) (Tcb _) left mine = tt
  looks-inside (suc n) (RootTable _) left mine = tt
  looks-inside (suc n) InterruptControl left mine = tt
  looks-inside (suc n) (InterruptHandler _) left mine = tt

abbrev pub NamesInside : (ℕ → ℕ → Bool) → Result ℕ KError → Type 0
NamesInside own (Ok slot) = StandsInside own slot
NamesInside own (Err error) = Unit {0}

whole-inside : (own : ℕ → ℕ → Bool) (found : Result (ℕ × ℕ) LookupFailure) → FindsInside own found → NamesInside own (whole found)
whole-inside own (Ok found) inside = elim (found.1 == 0) as (λ b. NamesInside own (if b then Ok found.0 else Err FailedLookup)) [ true ↦ inside | false ↦ tt ]
whole-inside own (Err failure) inside = tt

pub argument-inside : (s t : Slots) (own : ℕ → ℕ → Bool) → AgreeInside s t own → (root : Cap) (name : SlotName) → is_among own root ≡ true →
    NamesInside own (argument_slot s root name)
argument-inside s t own agree root name mine =
    elim (nat_lt 0 name.depth && nat_le name.depth 32) as (λ b. NamesInside own (check b RangeError >>= λ _. whole (lookup s root name.address name.depth))) [
      | true ↦ whole-inside own (lookup s root name.address name.depth) (looks-inside s t own agree name.address (suc name.depth) root name.depth mine)
      | false ↦ tt
    ]

-- ---- by its key

held-slot : (all : Slots) (r : Result ℕ KError) (slot : ℕ) (held : Cap) → with_held all r ≡ Ok (slot, held) → r ≡ Ok slot
held-slot all (Ok found) slot held is = ap (λ (n : ℕ). let r : Result ℕ KError = Ok n in r)
    (let both : Ok (found, capability_at all found) ≡ Ok (slot, held) = is in ap first-of both)
  where
    first-of : Result (ℕ × Cap) KError → ℕ
    first-of (Ok pair) = pair.0
    first-of (Err error) = found
held-slot all (Err error) slot held is = absurd (let clash : Err error ≡ Ok (slot, held) = is in cc)

held-error : (all : Slots) (r : Result ℕ KError) (error : KError) → with_held all r ≡ Err error → r ≡ Err error
held-error all (Ok found) error is = absurd (let clash : Ok (found, capability_at all found) ≡ Err error = is in cc)
held-error all (Err other) error is = let same : other ≡ error = (let both : Err other ≡ Err error = is in cc) in
    ap (λ (e : KError). let r : Result ℕ KError = Err e in r) same

module _ (image : Image) (t : Thread) (windows : List Window) (slots : List NotedSlot) (root : Cap) (name : SlotName)
    (are : AreWindows image (reached image t) windows) (none : NothingLeadsOutside image t slots)
    (mine : is_among (is_own_cnode image (reached image t)) root ≡ true) where
  abbrev all : Slots
  all = noted_slots image t slots

  abbrev own : Slots
  own = own_slots windows slots

  abbrev agree : AgreeInside all own (is_own_cnode image (reached image t))
  agree = slots-agree image t windows slots are none

  named-same : with_held all (argument_slot all root name) ≡ with_held own (argument_slot own root name)
  named-same = argument-same all own (is_own_cnode image (reached image t)) agree root name mine

  pub found-all : (slot : ℕ) → argument_slot own root name ≡ Ok slot → argument_slot all root name ≡ Ok slot
  found-all slot is = held-slot all (argument_slot all root name) slot (capability_at own slot) (named-same ∙ ap (with_held own) is)

  pub refused-all : (error : KError) → argument_slot own root name ≡ Err error → argument_slot all root name ≡ Err error
  refused-all error is = held-error all (argument_slot all root name) error (named-same ∙ ap (with_held own) is)

  pub found-names : (slot : ℕ) (key : SlotKey) (held : Cap) → argument_slot own root name ≡ Ok slot → key_in windows slot ≡ Some key → held ≡ held_at slots key
      → NamesSlot image t all (argument_slot all root name) (Ok (key, held))
  found-names slot key held is at holds =
      let keyed : key_of image (reached image t) slot ≡ Some key = sym (keys-same image (reached image t) windows slot are) ∙ at in
      subst (λ (r : Result ℕ KError). NamesSlot image t all r (Ok (key, held))) (sym (found-all slot is))
      (keyed, noted-holds image t slots slot key keyed ∙ sym holds)

  pub refused-names : (error : KError) → argument_slot own root name ≡ Err error → NamesSlot image t all (argument_slot all root name) (Err error)
  refused-names error is = subst (λ (r : Result ℕ KError). NamesSlot image t all r (Err error)) (sym (refused-all error is)) refl

  -- it has a key
  pub has-key : (slot : ℕ) → argument_slot own root name ≡ Ok slot → key_in windows slot ≡ None → ⊥
  has-key slot is missing =
      let inside : StandsInside (is_own_cnode image (reached image t)) slot =
      subst (NamesInside (is_own_cnode image (reached image t))) (found-all slot is)
      (argument-inside all own (is_own_cnode image (reached image t)) agree root name mine) in
      let keyed = own-key image (reached image t) inside.offset inside.radix inside.index inside.mine inside.below in
      let found : key_of image (reached image t) slot ≡ Some keyed.0 = subst (λ n. key_of image (reached image t) n ≡ Some keyed.0) inside.place keyed.1 in
      absurd (let clash : None ≡ Some keyed.0 = sym missing ∙ keys-same image (reached image t) windows slot are ∙ found in cc)

-- ---- what was named

pub named-ok : (image : Image) (t : Thread) (all : Slots) (r : Result ℕ KError) (key : SlotKey) (held : Cap) → NamesSlot image t all r (Ok (key, held))
    → (slot : ℕ) × (r ≡ Ok slot) × (key_of image (reached image t) slot ≡ Some key) × (capability_at all slot ≡ held)
named-ok image t _ (Ok slot) key held names = (slot, refl, names.0, names.1)
named-ok image t _ (Err error) key held names = absurd names

pub named-err : (image : Image) (t : Thread) (all : Slots) (r : Result ℕ KError) (error : KError) → NamesSlot image t all r (Err error) → r ≡ Err error
named-err image t _ (Ok slot) error names = absurd names
named-err image t _ (Err other) error names = ap (λ (e : KError). let r : Result ℕ KError = Err e in r) names
