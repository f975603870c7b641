-- What is noted of a thread's slots is what these hold, and what an address names is a frame that is mapped: copies of lemmas of `headline` that it
-- does not export.
use Rattle.std.proofs.Common.{ℕ, zero, suc, ◌≡◌, ◌∙◌, ◌+◌, ◌/◌, ◌%◌, ◌<◌, ◌≤◌, inl, inr, Bool, true, false, cond, if◌then◌else◌, nat_eq, ◌||◌}
use Rattle.std.proofs.Common.{List, [], ◌∷◌, ◌++◌, map, length, get_or, Option, Some, None, refl, sym, ap, subst, arith}
use Rattle.std.specs.Prelude.{Contains, filter, filter_map, flat_map, option_and_then}
use Rattle.std.specs.List.{cons_option, list_any, range_with_len}
use Rattle.std.proofs.lemmas.Bool.{or_left, or_right}
use Rattle.std.proofs.lemmas.Bool.Decides.{eqb_tells}
use Rattle.std.proofs.lemmas.Option.{none-some, same_Some}
use Rattle.model.proofs.SlotChanges.{bounds-within}
use Rattle.model.specs.declared.instructions.Access.{Access}
use Rattle.model.specs.declared.rights.Rights.{Rights}
use Rattle.model.specs.Acceptance.Authority.{IsOwnSlot}
use Rattle.model.specs.Acceptance.NotedKernel.{key_of, keys_of, keys_of_cnode, noted_after, noted_of, object_numbers, slot_of_key, slots_of_cnode, stands_in}
use Rattle.model.specs.Acceptance.NotedStates.{NotedSlot, SlotKey}
use Rattle.model.specs.Acceptance.ThreadRules.{is_member, reached}
use Rattle.model.specs.Capabilities.Slots.{IsFull, Slots, capability_at, is_full, parent_at}
use Rattle.model.specs.Images.Image.{Image, Thread}
use Rattle.model.specs.Images.Places.{cnode_slot}
use Rattle.model.specs.Kernel.AddressSpaces.{MappedFrame, Maps, allows, content_of, mapped, page_size, place_in, place_under, vspace_of}
use Rattle.model.specs.Kernel.State.{State}
use Rattle.headline.proofs.Laws.{page-maps}

-- ---- what holds of each element

-- by recursion, so that its list is found where it is used
abbrev pub Each : {A : Type 0} → (A → Type 0) → List A → Type 0
Each P [] = Unit {0}
Each P (x ∷ xs) = P x × Each P xs

each-at : {A : Type 0} (P : A → Type 0) (xs : List A) (k : ℕ) (x d : A) → Each P xs → k < length xs → get_or xs k d ≡ x → P x
each-at P [] k x d all less is = absurd (omega (arith, less))
each-at P (y ∷ ys) zero x d all less is = subst P is all.0
each-at P (y ∷ ys) (suc k) x d all less is = each-at P ys k x d all.1 (omega (arith, less)) is

pub each-contained : {A : Type 0} (P : A → Type 0) (xs : List A) (x : A) → Each P xs → Contains xs x → P x
each-contained P xs x all there = each-at P xs there.0 x x all there.1 there.2

-- ---- lists that are put together

each-append : {A : Type 0} (P : A → Type 0) (xs ys : List A) → Each P xs → Each P ys → Each P (xs ++ ys)
each-append P [] ys first rest = rest
each-append P (x ∷ xs) ys first rest = (first.0, each-append P xs ys first.1 rest)

pub each-flat : {A B : Type 0} (P : B → Type 0) (f : A → List B) (xs : List A) → Each (λ x. Each P (f x)) xs → Each P (flat_map f xs)
each-flat P f [] all = tt
each-flat P f (x ∷ xs) all = each-append P (f x) (flat_map f xs) all.0 (each-flat P f xs all.1)

pub each-range : {B : Type 0} (P : B → Type 0) (f : ℕ → B) (from count : ℕ) → ((k : ℕ) → from ≤ k → k < from + count → P (f k)) →
    Each P (map f (range_with_len from count))
each-range P f from zero all = tt
each-range P f from (suc count) all =
    (all from (omega arith) (omega arith), each-range P f (from + 1) count (λ k low high. all k (omega (arith, low)) (omega (arith, high))))

pub each-filtered : {A : Type 0} (P : A → Type 0) (test : A → Bool) (xs : List A) → ((x : A) → test x ≡ true → P x) → Each P (filter test xs)
each-filtered P test [] all = tt
each-filtered P test (x ∷ xs) all = elim (test x) as (λ b. test x ≡ b → Each P (cond b (x ∷ filter test xs) (filter test xs))) [
  | true ↦ λ is. (all x is, each-filtered P test xs all)
  | false ↦ λ _. each-filtered P test xs all
] refl

pub each-picked : {A B : Type 0} (P : A → Type 0) (Q : B → Type 0) (f : A → Option B) (xs : List A)
    → ((x : A) (y : B) → P x → f x ≡ Some y → Q y) → Each P xs → Each Q (filter_map f xs)
each-picked P Q f [] picks all = tt
each-picked P Q f (x ∷ xs) picks all = elim (f x) as (λ o. f x ≡ o → Each Q (cons_option o (filter_map f xs))) [
  | None ↦ λ _. each-picked P Q f xs picks all.1
  | Some y ↦ λ is. (picks x y all.0 is, each-picked P Q f xs picks all.1)
] refl

-- ---- slots of a thread

-- what a member passes, some element passes
pub member-passes : (test : ℕ → Bool) (n : ℕ) (xs : List ℕ) → is_member n xs ≡ true → test n ≡ true → list_any test xs ≡ true
member-passes test n [] member passes = absurd (let clash : false ≡ true = member in cc)
member-passes test n (x ∷ xs) member passes = elim (eqb_tells n x) [
  | inl here ↦ or_left (test x) (list_any test xs) (ap test (sym here.1) ∙ passes)
  | inr other ↦
      let first : (nat_eq n x || list_any (nat_eq n) xs) ≡ list_any (nat_eq n) xs = ap (λ b. b || list_any (nat_eq n) xs) other.0 in
      or_right (test x) (list_any test xs) (member-passes test n xs (sym first ∙ member) passes)
]

abbrev pub IsOwnKey : Image → Thread → SlotKey → Type 0
IsOwnKey image t key = IsOwnSlot image t (slot_of_key image key)

pub keys-own : (image : Image) (t : Thread) → Each (IsOwnKey image t) (keys_of image (reached image t))
keys-own image t =
    let cnodes = reached image t in
    each-flat (IsOwnKey image t) (keys_of_cnode image) _
    (each-filtered (λ number. Each (IsOwnKey image t) (keys_of_cnode image number)) (λ number. is_member number cnodes) (object_numbers image) (λ number member.
    each-range (IsOwnKey image t) (λ index. record { cnode = number; index = index }) 0 (slots_of_cnode image number) (λ index low high.
    member-passes (stands_in image (cnode_slot image number index)) number cnodes member
    (bounds-within (cnode_slot image number 0) (slots_of_cnode image number) (cnode_slot image number index) (omega arith) (omega (arith, high))))))

pub record IsNoted (image : Image) (t : Thread) (slots : Slots) (n : NotedSlot) : Type 0 where
  pub own : IsOwnSlot image t (slot_of_key image n.key)
  pub full : IsFull slots (slot_of_key image n.key)
  pub capability : n.capability ≡ capability_at slots (slot_of_key image n.key)
  pub parent : n.parent ≡ option_and_then (key_of image (reached image t)) (parent_at slots (slot_of_key image n.key))

noted-by : (image : Image) (t : Thread) (slots : Slots) (key : SlotKey) (n : NotedSlot) → IsOwnKey image t key
    → noted_of image (reached image t) slots key ≡ Some n → IsNoted image t slots n
noted-by image t slots key n own is =
    let slot = slot_of_key image key in
    let above = option_and_then (key_of image (reached image t)) (parent_at slots slot) in
    let held : NotedSlot = record { key = key; capability = capability_at slots slot; parent = above } in
    elim (is_full slots slot) as (λ b. is_full slots slot ≡ b → (if b then Some held else None) ≡ Some n → IsNoted image t slots n) [
      | true ↦ λ full here. subst (IsNoted image t slots) (same_Some held n here) (record { own = own; full = full; capability = refl; parent = refl })
      | false ↦ λ _ clash. absurd (none-some n clash)
    ] refl is

all-noted : (image : Image) (t : Thread) (slots : Slots) → Each (IsNoted image t slots) (noted_after image t slots)
unfolding noted_after
all-noted image t slots =
    each-picked (IsOwnKey image t) (IsNoted image t slots) (noted_of image (reached image t) slots) (keys_of image (reached image t))
    (λ key n own is. noted-by image t slots key n own is) (keys-own image t)

pub is-noted : (image : Image) (t : Thread) (slots : Slots) (n : NotedSlot) → Contains (noted_after image t slots) n → IsNoted image t slots n
is-noted image t slots n there = each-contained (IsNoted image t slots) (noted_after image t slots) n (all-noted image t slots) there

-- ---- what an address names

-- a frame that an address names for an access
pub record NamesFrame (s : State) (root : ℕ) (access : Access) (address place : ℕ) : Type 0 where
  pub frame : ℕ
  pub allowed : Rights
  pub maps : Maps s.slots root (address / page_size) frame allowed
  pub permits : allows access allowed ≡ true
  pub place_is : place ≡ frame + address % page_size

pub names-frame : (s : State) (thread root : ℕ) (access : Access) (address place : ℕ) → vspace_of s thread ≡ Some root
    → (content_of s thread).place access address ≡ Some place
    → NamesFrame s root access address place
names-frame s thread root access address place vspace named =
    by-page (mapped s root (address / page_size)) refl (sym (ap (option_and_then (λ r. place_under s r access address)) vspace) ∙ named)
  where
    by-test : (m : MappedFrame) → mapped s root (address / page_size) ≡ Some m → (b : Bool) → allows access m.allowed ≡ b
        → (if b then Some (m.frame + address % page_size) else None) ≡ Some place → NamesFrame s root access address place
    by-test m there true permits is = record {
      frame = m.frame;
      allowed = m.allowed;
      maps = page-maps s root (address / page_size) m.frame m.allowed there;
      permits = permits;
      place_is = sym (let both : Some (m.frame + address % page_size) ≡ Some place = is in cc);
    }
    by-test m there false permits is = absurd (let clash : None ≡ Some place = is in cc)

    by-page : (o : Option MappedFrame) → mapped s root (address / page_size) ≡ o → option_and_then (place_in access address) o ≡ Some place
        → NamesFrame s root access address place
    by-page (Some m) there is = by-test m there (allows access m.allowed) refl is
    by-page None there is = absurd (let clash : None ≡ Some place = is in cc)
