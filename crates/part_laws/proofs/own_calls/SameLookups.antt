-- Lookups of a thread in two maps of slots that hold the same in its own slots, which lead to no other CNode: they find the same, and it is its own.
-- The first parts stand in `headline` too, which does not export them.
use Rattle.std.proofs.Common.{ℕ, zero, suc, ◌≡◌, ◌∙◌, ◌==◌, ◌+◌, ◌/◌, ◌^◌, ◌<◌, ◌&&◌, ◌||◌, Bool, true, false, not, nat_le, nat_lt, if◌then◌else◌, List, []}
use Rattle.std.proofs.Common.{◌∷◌}
use Rattle.std.proofs.Common.{Option, Some, None, Result, Ok, Err, refl, sym, ap, subst, arith}
use Rattle.std.specs.Option.{option_map_or}
use Rattle.std.specs.List.{list_any}
use Rattle.std.proofs.lemmas.Bool.{and_parts, eqb-true, false≢true, not-false, or_right}
use Rattle.std.proofs.lemmas.Bool.Decides.{nat_tests}
use Rattle.model.specs.declared.capabilities.Cap.{Cap}
use Rattle.model.specs.declared.capabilities.Cap.TheVariants.{Empty, Untyped, Endpoint, Notification, CNode, Frame, PageTable, Tcb, RootTable, InterruptControl}
use Rattle.model.specs.declared.capabilities.Cap.TheVariants.{InterruptHandler}
use Rattle.model.specs.declared.errors.KError.{KError}
use Rattle.model.specs.declared.errors.KError.TheVariants.{DeleteFirst, FailedLookup, RangeError}
use Rattle.model.specs.declared.invocations.SlotName.{SlotName}
use Rattle.model.specs.declared.lookup_failures.LookupFailure.{LookupFailure}
use Rattle.model.specs.Acceptance.Authority.{IsOwnSlot}
use Rattle.model.specs.Acceptance.NotedKernel.{slots_of_cnode, stands_in}
use Rattle.model.specs.Acceptance.NotedStates.{is_foreign, is_own_cnode}
use Rattle.model.specs.Acceptance.ThreadRules.{reached}
use Rattle.model.specs.Acceptance.WellFormed.{radix_of}
use Rattle.model.specs.Capabilities.Lookup.{go_on, is_cnode, lookup, lookup_within, resolve}
use Rattle.model.specs.Capabilities.Slots.{Slots, capability_at, is_full, is_within}
use Rattle.model.specs.Images.Image.{Image, Thread}
use Rattle.model.specs.Images.Places.{offset_of, type_at}
use Rattle.model.specs.Kernel.Arguments.{◌>>=◌, argument_slot, check, destination_slot, source_slot, whole}
use Rattle.soundness.proofs.Laws.{passes-both}
use Rattle.typestate.specs.Spaces.{is_among, is_inside}
use Rattle.typestate.proofs.Laws.{index-below}

abbrev Found : Type 0
Found = Result (ℕ × ℕ) LookupFailure

-- ---- the index that a CNode resolves is one of its slots

abbrev IsIndexIn : ℕ → Found → Type 0
IsIndexIn radix (Ok place) = place.0 < 2 ^ radix
IsIndexIn radix (Err failure) = Unit {0}

-- ---- what is known of the two maps

-- a slot of one of the CNodes: both maps hold the same there, which leads to no other CNode
pub record HoldsSame (a b : Slots) (own : ℕ → ℕ → Bool) (IsOwn : ℕ → Type 0) (slot : ℕ) : Type 0 where
  pub is_own : IsOwn slot
  pub same : capability_at a slot ≡ capability_at b slot
  pub inside : is_among own (capability_at a slot) ≡ true

abbrev FindsOwn : (ℕ → Type 0) → Found → Type 0
FindsOwn IsOwn (Ok found) = IsOwn found.0
FindsOwn IsOwn (Err failure) = Unit {0}

pub record GoesSame (IsOwn : ℕ → Type 0) (one other : Found) : Type 0 where
  pub result : one ≡ other
  pub finds : FindsOwn IsOwn one

-- what is found is an own slot
pub found-own : (IsOwn : ℕ → Type 0) (one : Found) (found : ℕ × ℕ) → FindsOwn IsOwn one → one ≡ Ok found → IsOwn found.0
found-own IsOwn one found finds is = subst (λ (r : Found). FindsOwn IsOwn r) is finds

module _ (a b : Slots) (own : ℕ → ℕ → Bool) (IsOwn : ℕ → Type 0)
    (each : (offset radix index : ℕ) → own offset radix ≡ true → index < 2 ^ radix → HoldsSame a b own IsOwn (offset / 16 + index)) (address : ℕ) where
  abbrev in_a : ℕ → Cap → ℕ → Found
  in_a n held left = lookup_within n a held address left

  abbrev in_b : ℕ → Cap → ℕ → Found
  in_b n held left = lookup_within n b held address left

  -- after a CNode
  goes-on : (n offset : ℕ) (place : ℕ × ℕ) → HoldsSame a b own IsOwn (offset / 16 + place.0)
      → GoesSame IsOwn (in_a n (capability_at a (offset / 16 + place.0)) place.1) (in_b n (capability_at a (offset / 16 + place.0)) place.1)
      → GoesSame IsOwn (go_on a offset (in_a n) (Ok place)) (go_on b offset (in_b n) (Ok place))
  goes-on n offset place holds behind =
      let slot = offset / 16 + place.0 in
      let held = capability_at a slot in
      let ends = place.1 == 0 || not (is_cnode held) in
      record {
        result = ap (λ (found : Found). if ends then Ok (slot, place.1) else found) behind.result
            ∙ ap (λ (other : Cap). if place.1 == 0 || not (is_cnode other) then Ok (slot, place.1) else in_b n other place.1) holds.same;
        finds = elim ends as (λ b. FindsOwn IsOwn (if b then Ok (slot, place.1) else in_a n held place.1)) [ true ↦ holds.is_own | false ↦ behind.finds ];
      }

  through : (n offset radix : ℕ) (found : Found) → own offset radix ≡ true → IsIndexIn radix found
      → ((held : Cap) (left : ℕ) → is_among own held ≡ true → GoesSame IsOwn (in_a n held left) (in_b n held left))
      → GoesSame IsOwn (go_on a offset (in_a n) found) (go_on b offset (in_b n) found)
  through n offset radix (Err failure) mine index behind = record { result = refl; finds = tt }
  through n offset radix (Ok place) mine index behind =
      let holds = each offset radix place.0 mine index in
      goes-on n offset place holds (behind (capability_at a (offset / 16 + place.0)) place.1 holds.inside)

  pub goes-same : (n : ℕ) (root : Cap) (left : ℕ) → is_among own root ≡ true → GoesSame IsOwn (in_a n root left) (in_b n root left)
  unfolding lookup_within
  goes-same zero root left mine = record { result = refl; finds = tt }
  goes-same (suc n) Empty left mine = record { result = refl; finds = tt }
  goes-same (suc n) (Untyped _ _ _) left mine = record { result = refl; finds = tt }
  goes-same (suc n) (Endpoint _ _ _) left mine = record { result = refl; finds = tt }
  goes-same (suc n) (Notification _ _ _) left mine = record { result = refl; finds = tt }
  goes-same (suc n) (CNode offset radix guard) left mine = through n offset radix (resolve radix guard address left) mine (index-below radix guard address left)
      (goes-same n)
  goes-same (suc n) (Frame _ _ _) left mine = record { result = refl; finds = tt }
  goes-same (suc n) (PageTable _ _) left mine = record { result = refl; finds = tt }
  goes-same (suc n) (Tcb _) left mine = record { result = refl; finds = tt }
  goes-same (suc n) (RootTable _) left mine = record { result = refl; finds = tt }
  goes-same (suc n) InterruptControl left mine = record { result = refl; finds = tt }
  goes-same (suc n) (InterruptHandler _) left mine = record { result = refl; finds = tt }

-- ---- the slots of an own CNode are own slots

pub within-first : (first count index : ℕ) → index < count → is_within (first + 0) count (first + index) ≡ true
within-first first count index less = grind (arith, nat_tests)

stands-there : (image : Image) (slot offset index radix cnode : ℕ) → slot ≡ offset / 16 + index → index < 2 ^ radix
    → ((offset_of image cnode == offset) && option_map_or (λ own. own == radix) (radix_of (type_at image cnode)) false) ≡ true →
    stands_in image slot cnode ≡ true
stands-there image slot offset index radix cnode is less passes =
    let parts = and_parts (offset_of image cnode == offset) (option_map_or (λ own. own == radix) (radix_of (type_at image cnode)) false) passes in
    let size : slots_of_cnode image cnode ≡ 2 ^ radix = by-radix (radix_of (type_at image cnode)) parts.1 in
    ap (λ (n : ℕ). is_within (offset_of image cnode / 16 + 0) (slots_of_cnode image cnode) n) is
    ∙ ap (λ (n : ℕ). is_within (offset_of image cnode / 16 + 0) n (offset / 16 + index)) size
    ∙ ap (λ (n : ℕ). is_within (n / 16 + 0) (2 ^ radix) (offset / 16 + index)) (eqb-true (offset_of image cnode) offset parts.0)
    ∙ within-first (offset / 16) (2 ^ radix) index less
  where
    by-radix : (found : Option ℕ) → option_map_or (λ own. own == radix) found false ≡ true → option_map_or (λ r. 2 ^ r) found 0 ≡ 2 ^ radix
    by-radix None clash = absurd (false≢true clash)
    by-radix (Some r) same = ap (λ (n : ℕ). 2 ^ n) (eqb-true r radix same)

any-passes : (one more : ℕ → Bool) → ((x : ℕ) → one x ≡ true → more x ≡ true) → (xs : List ℕ) → list_any one xs ≡ true → list_any more xs ≡ true
any-passes one more passes [] some = some
any-passes one more passes (x ∷ rest) some = elim (one x) as (λ b. one x ≡ b → (b || list_any one rest) ≡ true → (more x || list_any more rest) ≡ true) [
  | true ↦ λ is _. ap (λ b. b || list_any more rest) (passes x is)
  | false ↦ λ _ later. or_right (more x) (list_any more rest) (any-passes one more passes rest later)
] refl some

pub slot-own : (image : Image) (t : Thread) (offset radix index : ℕ) → is_own_cnode image (reached image t) offset radix ≡ true → index < 2 ^ radix
    → IsOwnSlot image t (offset / 16 + index)
slot-own image t offset radix index own less =
    any-passes (λ c. (offset_of image c == offset) && option_map_or (λ own. own == radix) (radix_of (type_at image c)) false)
    (stands_in image (offset / 16 + index))
    (λ cnode passes. stands-there image (offset / 16 + index) offset index radix cnode refl less passes) (reached image t) own

pub home-inside : (image : Image) (t : Thread) (c : Cap) → is_foreign image t (reached image t) c ≡ false →
    is_among (is_own_cnode image (reached image t)) c ≡ true
home-inside image t Empty is = refl
home-inside image t (Untyped _ _ _) is = refl
home-inside image t (Endpoint _ _ _) is = refl
home-inside image t (Notification _ _ _) is = refl
home-inside image t (CNode offset radix guard) is = not-false (is_own_cnode image (reached image t) offset radix) is
home-inside image t (Frame _ _ _) is = refl
home-inside image t (PageTable _ _) is = refl
home-inside image t (Tcb _) is = refl
home-inside image t (RootTable _) is = refl
home-inside image t InterruptControl is = refl
home-inside image t (InterruptHandler _) is = refl

-- ---- an argument, and the lookup after it

abbrev argued : SlotName → Result (ℕ × ℕ) LookupFailure → Result ℕ KError
argued name found = do
  _ ← check (nat_lt 0 name.depth && nat_le name.depth 32) RangeError
  whole found

record IsFoundAs (found : Result (ℕ × ℕ) LookupFailure) (slot : ℕ) : Type 0 where
  pub place : ℕ × ℕ
  pub is : found ≡ Ok place
  pub slot_is : place.0 ≡ slot

whole-found : (found : Result (ℕ × ℕ) LookupFailure) (slot : ℕ) → whole found ≡ Ok slot → IsFoundAs found slot
whole-found (Err failure) slot clash = absurd (let no : ◌≡◌ {A = Result ℕ KError} (Err FailedLookup) (Ok slot) = clash in cc)
whole-found (Ok place) slot is =
    elim (place.1 == 0) as (λ b. (if b then Ok place.0 else Err FailedLookup) ≡ Ok slot → IsFoundAs (Ok place) slot) [
      | true ↦ λ here. record { place = place; is = refl; slot_is = (let same : ◌≡◌ {A = Result ℕ KError} (Ok place.0) (Ok slot) = here in cc) }
      | false ↦ λ clash. absurd (let no : ◌≡◌ {A = Result ℕ KError} (Err FailedLookup) (Ok slot) = clash in cc)
    ] is

argued-found : (name : SlotName) (found : Result (ℕ × ℕ) LookupFailure) (slot : ℕ) → argued name found ≡ Ok slot → IsFoundAs found slot
argued-found name found slot is =
    elim (nat_lt 0 name.depth && nat_le name.depth 32) as (λ b. (check b RangeError >>= (λ _. whole found)) ≡ Ok slot → IsFoundAs found slot) [
      | true ↦ λ here. whole-found found slot here
      | false ↦ λ clash. absurd (let no : ◌≡◌ {A = Result ℕ KError} (Err RangeError) (Ok slot) = clash in cc)
    ] is

-- ---- what a name finds below a root, in both

-- the same slot, which is the thread's own
pub record FindsSame (image : Image) (w : Thread) (a b : Slots) (root : Cap) : Type 0 where
  pub same : (name : SlotName) → argument_slot a root name ≡ argument_slot b root name
  pub own : (name : SlotName) (slot : ℕ) → argument_slot a root name ≡ Ok slot → IsOwnSlot image w slot

-- where the lookups are the same
pub finds-by : (image : Image) (w : Thread) (a b : Slots) (root : Cap)
    → ((address depth : ℕ) → lookup a root address depth ≡ lookup b root address depth)
    → ((address depth : ℕ) (found : ℕ × ℕ) → lookup a root address depth ≡ Ok found → IsOwnSlot image w found.0) → FindsSame image w a b root
finds-by image w a b root same own = record {
  same = λ name. ap (argued name) (same name.address name.depth);
  own = λ name slot is.
      let of = argued-found name (lookup a root name.address name.depth) slot is in
      subst (IsOwnSlot image w) of.slot_is (own name.address name.depth of.place of.is);
}

module _ (image : Image) (w : Thread) (a b : Slots)
    (same : (slot : ℕ) → IsOwnSlot image w slot → capability_at a slot ≡ capability_at b slot)
    (home : (slot : ℕ) → IsOwnSlot image w slot → is_foreign image w (reached image w) (capability_at a slot) ≡ false) where
  abbrev own_cnode : ℕ → ℕ → Bool
  own_cnode = is_own_cnode image (reached image w)

  holds-same : (offset radix index : ℕ) → own_cnode offset radix ≡ true → index < 2 ^ radix → HoldsSame a b own_cnode (IsOwnSlot image w) (offset / 16 + index)
  holds-same offset radix index mine less =
      let slot = offset / 16 + index in
      let own : IsOwnSlot image w slot = slot-own image w offset radix index mine less in
      record { is_own = own; same = same slot own; inside = home-inside image w (capability_at a slot) (home slot own) }

  goes : (root : Cap) (address depth : ℕ) → is_inside image w root ≡ true
      → GoesSame (IsOwnSlot image w) (lookup a root address depth) (lookup b root address depth)
  goes root address depth inside = goes-same a b own_cnode (IsOwnSlot image w) holds-same address (suc depth) root depth inside

  -- below a capability of its own
  pub finds-inside : (root : Cap) → is_inside image w root ≡ true → FindsSame image w a b root
  finds-inside root inside =
      finds-by image w a b root (λ address depth. (goes root address depth inside).result)
      (λ address depth found is. found-own (IsOwnSlot image w) (lookup a root address depth) found (goes root address depth inside).finds is)

  pub held-inside : (slot : ℕ) → IsOwnSlot image w slot → is_inside image w (capability_at a slot) ≡ true
  held-inside slot own = home-inside image w (capability_at a slot) (home slot own)

-- ---- sources and destinations

pub ok-of : {A : Type 0} (x y : A) → ◌≡◌ {A = Result A KError} (Ok x) (Ok y) → x ≡ y
ok-of {A} x y is = ap value is
  where
    value : Result A KError → A
    value (Ok v) = v
    value (Err error) = x

source-argument : (slots : Slots) (root : Cap) (name : SlotName) (slot : ℕ) → source_slot slots root name ≡ Ok slot → argument_slot slots root name ≡ Ok slot
source-argument slots root name slot is =
    let parts = passes-both (argument_slot slots root name) (λ found. check (is_full slots found) FailedLookup >>= λ _. Ok found) slot is in
    let tested = passes-both (check (is_full slots parts.value) FailedLookup) (λ _. Ok parts.value) slot parts.rest in
    parts.first ∙ tested.rest

pub destination-argument : (slots : Slots) (root : Cap) (name : SlotName) (slot : ℕ) → destination_slot slots root name ≡ Ok slot
    → argument_slot slots root name ≡ Ok slot
destination-argument slots root name slot is =
    let parts = passes-both (argument_slot slots root name) (λ found. check (not (is_full slots found)) DeleteFirst >>= λ _. Ok found) slot is in
    let tested = passes-both (check (not (is_full slots parts.value)) DeleteFirst) (λ _. Ok parts.value) slot parts.rest in
    parts.first ∙ tested.rest

module _ (image : Image) (w : Thread) (a b : Slots) (root : Cap) (finds : FindsSame image w a b root) (name : SlotName) (p q : ℕ) where
  pub one-slot : argument_slot a root name ≡ Ok p → argument_slot b root name ≡ Ok q → p ≡ q
  one-slot here there = ok-of p q (sym here ∙ finds.same name ∙ there)

  pub one-source : source_slot a root name ≡ Ok p → source_slot b root name ≡ Ok q → p ≡ q
  one-source here there = one-slot (source-argument a root name p here) (source-argument b root name q there)

  pub source-own : source_slot a root name ≡ Ok p → IsOwnSlot image w p
  source-own here = finds.own name p (source-argument a root name p here)

  pub one-destination : destination_slot a root name ≡ Ok p → destination_slot b root name ≡ Ok q → p ≡ q
  one-destination here there = one-slot (destination-argument a root name p here) (destination-argument b root name q there)
