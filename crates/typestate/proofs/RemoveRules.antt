-- Delete and Revoke by the slot that they name.
use Rattle.std.proofs.Common.{ℕ, zero, suc, ◌≡◌, ◌∙◌, ◌==◌, ◌+◌, ◌||◌, inl, inr, Bool, true, false, not, if◌then◌else◌, Option, Some, None, is_some}
use Rattle.std.proofs.Common.{option_and_then, Result, Ok, Err, List, refl, sym, ap, subst, arith}
use Rattle.std.specs.Option.{option_map_or}
use Rattle.std.proofs.lemmas.Bool.{eq-eqb, eqb-true, ne_eqb}
use Rattle.std.proofs.lemmas.Bool.Decides.{eqb_tells}
use Rattle.model.specs.Acceptance.CallRules.{names_such}
use Rattle.model.specs.Acceptance.NotedKernel.{boot_parent, key_of, noted_after, noted_kernel, noted_slots, slot_of_key}
use Rattle.model.specs.Acceptance.NotedStates.{NotedSlot, SlotKey, is_own, is_same_key, number_of, slot_at}
use Rattle.model.specs.Acceptance.ThreadRules.{reached}
use Rattle.model.specs.Capabilities.CapabilityKinds.{is_untyped}
use Rattle.model.specs.Capabilities.Slots.{Slots, capability_at, depth_of, depth_within, descends_within, is_descendant, is_empty, parent_at}
use Rattle.model.specs.Images.Image.{Image, Thread}
use Rattle.model.specs.Kernel.Arguments.{◌>>=◌, argument_slot}
use Rattle.model.specs.Kernel.Removal.{delete, remove, revoke}
use Rattle.model.specs.Kernel.State.{State}
use Rattle.model.specs.declared.capabilities.Cap.{Cap}
use Rattle.model.specs.declared.capabilities.Cap.TheVariants.{Empty, Untyped, Endpoint, Notification, CNode, Frame, PageTable, Tcb, RootTable, InterruptControl}
use Rattle.model.specs.declared.capabilities.Cap.TheVariants.{InterruptHandler}
use Rattle.model.specs.declared.errors.KError.{KError}
use Rattle.model.specs.declared.invocations.CNodeCall.TheVariants.{Delete, Revoke}
use Rattle.model.specs.declared.invocations.SlotName.{SlotName}
use Rattle.model.specs.declared.refusals.Point.{Point}
use Rattle.model.specs.declared.refusals.Refusal.{Refusal}
use Rattle.model.specs.declared.refusals.Refusal.TheVariants.{CallRefused, PoolLost}
use Rattle.typestate.specs.declared.slot_changes.Removed.TheVariants.{One, Below}
use Rattle.typestate.specs.CNodeCalls.{allowed_slots, cnode_after}
use Rattle.typestate.specs.SlotChanges.{is_removed, noted_descends, without_gone}
use Rattle.typestate.specs.Spaces.{AreOwn, NothingLeadsOutside, StandsApart}
use Rattle.typestate.proofs.Allowed.{allowed-unless, chain, kernel-refuses, slots_allowed}
use Rattle.typestate.proofs.KernelDepths.{boot-there, parent-here, parent_found, stays-there}
use Rattle.typestate.proofs.NamedKeys.{key-named, own-named, same-own-key}
use Rattle.typestate.proofs.Puts.{places-apart}
use Rattle.typestate.proofs.RemovedNoted.{is_mine}
use Rattle.typestate.proofs.RemovedSlots.{removal-left}
use Rattle.typestate.proofs.Rising.{RiseFrom}
use Rattle.typestate.proofs.Standing.{IsOwnSlot, come-back-from, found-own}

-- a call that loses a pool, whatever it leaves
chain-lost : (image : Image) (t : Thread) (at : Point) (loses travels : Bool) (r : Result State KError) (after : Slots) → slots_allowed r ≡ Ok after →
    loses ≡ true
    → chain image t at loses travels r ≡ Err (PoolLost at)
chain-lost image t at true travels (Ok s) after is lost = refl
chain-lost image t at true travels (Err error) after is lost = absurd (let clash : Err error ≡ Ok after = is in cc)
chain-lost image t at false travels r after is lost = absurd (let clash : false ≡ true = lost in cc)

pool-full : (c : Cap) → is_untyped c ≡ true → is_empty c ≡ false
pool-full Empty is = absurd (let clash : false ≡ true = is in cc)
pool-full (Untyped _ _ _) is = refl
pool-full (Endpoint _ _ _) is = refl
pool-full (Notification _ _ _) is = refl
pool-full (CNode _ _ _) is = refl
pool-full (Frame _ _ _) is = refl
pool-full (PageTable _ _) is = refl
pool-full (Tcb _) is = refl
pool-full (RootTable _) is = refl
pool-full InterruptControl is = refl
pool-full (InterruptHandler _) is = refl

empty-no-pool : (c : Cap) → is_empty c ≡ true → is_untyped c ≡ false
empty-no-pool c is = elim (is_untyped c) as (λ b. is_untyped c ≡ b → b ≡ false) [
  | true ↦ λ pool. absurd (let clash : true ≡ false = sym is ∙ pool-full c pool in cc)
  | false ↦ λ _. refl
] refl

module _ (image : Image) (t : Thread) (stand : StandsApart image t) (slots : List NotedSlot) (are : AreOwn image t slots) (k : SlotKey)
    (mine : is_own image (reached image t) k ≡ true) where
  abbrev cnodes : List ℕ
  cnodes = reached image t

  abbrev all_slots : Slots
  all_slots = noted_slots image t slots

  abbrev parents : ℕ → Option ℕ
  parents = parent_at all_slots

  abbrev F : ℕ
  F = slot_of_key image k

  -- ---- one slot

  pub one-same : (key : SlotKey) → is_own image cnodes key ≡ true → (slot_of_key image key == F) ≡ is_removed slots (One k) key
  one-same key own = elim (eqb_tells (number_of k) (number_of key)) [
    | inl same ↦ eq-eqb (slot_of_key image key) F (ap (slot_of_key image) (sym (same-own-key image t stand k key mine own same.1))) ∙ sym same.0
    | inr other ↦ places-apart image t stand key k own mine (λ same. other.1 (sym same)) ∙ sym other.0
  ]

  pub one-inside : (slot : ℕ) → (slot == F) ≡ true → is_mine image t stand slots are slot ≡ true
  one-inside slot is = ap (λ n. is_some (key_of image cnodes n)) (eqb-true slot F is) ∙ ap is_some (own-named image t stand k mine)

  -- ---- what descends

  outside-F : (slot : ℕ) → key_of image cnodes slot ≡ None → (slot == F) ≡ false
  outside-F slot none =
      ne_eqb slot F (λ same. absurd (let clash : None ≡ Some k = sym none ∙ ap (key_of image cnodes) same ∙ own-named image t stand k mine in cc))

  descends-there : (n slot : ℕ) → key_of image cnodes slot ≡ None → descends_within n parents F slot ≡ false
  unfolding descends_within
  descends-there zero slot none = refl
  descends-there (suc n) slot none = elim (parents slot) as (λ o. parents slot ≡ o →
      option_map_or (λ parent. parent == F || descends_within n parents F parent) o false ≡ false) [
        | None ↦ λ _. refl
        | Some p ↦ λ is.
            let further = stays-there image t stand slots are slot p none is in
            ap (λ b. b || descends_within n parents F p) (outside-F p further) ∙ descends-there n p further
      ] refl

  found-descends : (n : ℕ) (found : Option NotedSlot) → ((s : NotedSlot) → found ≡ Some s → IsOwnSlot image t s)
      → ((key : SlotKey) → is_own image cnodes key ≡ true → descends_within n parents F (slot_of_key image key) ≡ noted_descends n slots k key)
      → option_map_or (λ parent. parent == F || descends_within n parents F parent) (parent_found image t stand slots are found) false
      ≡ option_map_or (λ parent. is_same_key parent k || noted_descends n slots k parent) (option_and_then (λ s. s.parent) found) false
  found-descends n None own above = refl
  found-descends n (Some s) own above = by-parent s.parent (own s refl).parent
    where
      by-parent : (parent : Option SlotKey) → option_map_or (is_own image cnodes) parent true ≡ true
          → ((option_map_or (slot_of_key image) parent (boot_parent image t s.capability) == F)
          || descends_within n parents F (option_map_or (slot_of_key image) parent (boot_parent image t s.capability)))
          ≡ option_map_or (λ p. is_same_key p k || noted_descends n slots k p) parent false
      by-parent None own-parent =
          let boot = boot_parent image t s.capability in
          let there = boot-there image t stand slots are s.capability in
          ap (λ b. b || descends_within n parents F boot) (outside-F boot there) ∙ descends-there n boot there
      by-parent (Some p) own-parent = elim (eqb_tells (number_of p) (number_of k)) [
        | inl same ↦
            ap (λ b. b || descends_within n parents F (slot_of_key image p))
            (eq-eqb (slot_of_key image p) F (ap (slot_of_key image) (same-own-key image t stand p k own-parent mine same.1)))
            ∙ ap (λ b. b || noted_descends n slots k p) (sym same.0)
        | inr other ↦
            ap (λ b. b || descends_within n parents F (slot_of_key image p)) (places-apart image t stand p k own-parent mine other.1) ∙ above p own-parent
            ∙ ap (λ b. b || noted_descends n slots k p) (sym other.0)
      ]

  descends-here : (n : ℕ) (key : SlotKey) → is_own image cnodes key ≡ true → descends_within n parents F (slot_of_key image key) ≡ noted_descends n slots k key
  unfolding descends_within noted_descends
  descends-here zero key own = refl
  descends-here (suc n) key own =
      ap (λ o. option_map_or (λ parent. parent == F || descends_within n parents F parent) o false) (parent-here image t stand slots are key own)
      ∙ found-descends n (slot_at slots key) (λ s found. found-own image t slots key s are found) (descends-here n)

  -- so many steps as the slot is deep are enough
  descends-deep : (n slot : ℕ) → descends_within (depth_within n parents slot) parents F slot ≡ descends_within n parents F slot
  unfolding descends_within depth_within
  descends-deep zero slot = refl
  descends-deep (suc n) slot = elim (parents slot) as (λ o. parents slot ≡ o
      → descends_within (option_map_or (λ parent. depth_within n parents parent + 1) o 0) parents F slot ≡ option_map_or
      (λ parent. parent == F || descends_within n parents F parent) o false) [
        | None ↦ λ _. refl
        | Some p ↦ λ is.
            let one : depth_within n parents p + 1 ≡ suc (depth_within n parents p) = omega arith in
            ap (λ m. descends_within m parents F slot) one
            ∙ ap (λ o. option_map_or (λ parent. parent == F || descends_within (depth_within n parents p) parents F parent) o false) is
            ∙ ap (λ b. p == F || b) (descends-deep n p)
      ] refl

  pub below-same : (key : SlotKey) → is_own image cnodes key ≡ true → is_descendant all_slots F (slot_of_key image key) ≡ is_removed slots (Below k) key
  below-same key own = descends-deep 256 (slot_of_key image key) ∙ descends-here 256 key own

  pub below-inside : (slot : ℕ) → is_descendant all_slots F slot ≡ true → is_mine image t stand slots are slot ≡ true
  below-inside slot is = elim (key_of image cnodes slot) as (λ o. key_of image cnodes slot ≡ o → is_some o ≡ true) [
    | None ↦ λ none. absurd (let clash : false ≡ true = sym (descends-there (depth_of all_slots slot) slot none) ∙ is in cc)
    | Some key ↦ λ _. refl
  ] refl

-- ---- the rules

module _ (image : Image) (t : Thread) (at : Point) (slots : List NotedSlot) (capability : Cap) (name : SlotName) where
  abbrev all : Slots
  all = noted_slots image t slots

  abbrev named : Result ℕ KError
  named = argument_slot all capability name

  abbrev state : State
  state = noted_kernel image t slots

  abbrev loses : Bool
  loses = names_such is_untyped all named

  pub delete-refused : (error : KError) → named ≡ Err error → cnode_after image t at slots capability (Delete name) ≡ Err (CallRefused at error)
  unfolding noted_kernel
  delete-refused error is = kernel-refuses image t at loses true (named >>= λ slot. delete state slot) error
      (ap (λ (r : Result ℕ KError). r >>= λ slot. delete state slot) is)

  pub revoke-refused : (error : KError) → named ≡ Err error → cnode_after image t at slots capability (Revoke name) ≡ Err (CallRefused at error)
  unfolding noted_kernel
  revoke-refused error is = kernel-refuses image t at false true (named >>= λ slot. revoke state slot) error
      (ap (λ (r : Result ℕ KError). r >>= λ slot. revoke state slot) is)

  module _ (stand : StandsApart image t) (are : AreOwn image t slots) (none : NothingLeadsOutside image t slots) (rises : RiseFrom 0 slots)
      (x : ℕ) (k : SlotKey) (held : Cap) (is : named ≡ Ok x) (keyed : key_of image (reached image t) x ≡ Some k) (holds : capability_at all x ≡ held) where
    loses-is : loses ≡ is_untyped held
    loses-is = ap (names_such is_untyped all) is ∙ ap is_untyped holds

    deletes : (b : Bool) → is_empty held ≡ b → (named >>= λ slot. delete state slot) ≡ (if not b then remove state (λ other. other == x) else Ok state)
    unfolding noted_kernel
    deletes b empty =
        ap (λ (r : Result ℕ KError). r >>= λ slot. delete state slot) is
        ∙ ap (λ c. if not (is_empty c) then remove state (λ other. other == x) else Ok state) holds
        ∙ ap (λ c. if not c then remove state (λ other. other == x) else Ok state) empty

    one-left : (after : Slots) × (slots_allowed (remove state (λ other. other == x)) ≡ Ok after)
        × (noted_after image t after ≡ without_gone (is_removed slots (One k)) slots)
    one-left =
        let here = key-named image (reached image t) x k keyed in
        subst (λ y. (after : Slots) × (slots_allowed (remove state (λ other. other == y)) ≡ Ok after)
        × (noted_after image t after ≡ without_gone (is_removed slots (One k)) slots)) here.place
        (removal-left image t stand slots are none (λ other. other == slot_of_key image k) (is_removed slots (One k))
        (one-same image t stand slots are k here.own) (one-inside image t stand slots are k here.own) rises)

    below-left : (after : Slots) × (slots_allowed (remove state (is_descendant all x)) ≡ Ok after)
        × (noted_after image t after ≡ without_gone (is_removed slots (Below k)) slots)
    below-left =
        let here = key-named image (reached image t) x k keyed in
        subst (λ y. (after : Slots) × (slots_allowed (remove state (is_descendant all y)) ≡ Ok after)
        × (noted_after image t after ≡ without_gone (is_removed slots (Below k)) slots)) here.place
        (removal-left image t stand slots are none (is_descendant all (slot_of_key image k)) (is_removed slots (Below k))
        (below-same image t stand slots are k here.own) (below-inside image t stand slots are k here.own) rises)

    pub delete-pool : is_untyped held ≡ true → cnode_after image t at slots capability (Delete name) ≡ Err (PoolLost at)
    unfolding noted_kernel
    delete-pool pool =
        ap (chain image t at loses true) (deletes false (pool-full held pool))
        ∙ chain-lost image t at loses true (remove state (λ other. other == x)) one-left.0 one-left.1 (loses-is ∙ pool)

    pub delete-nothing : is_empty held ≡ true → cnode_after image t at slots capability (Delete name) ≡ Ok slots
    unfolding noted_kernel
    delete-nothing empty =
        allowed-unless image t at loses true (named >>= λ slot. delete state slot) (loses-is ∙ empty-no-pool held empty)
        ∙ ap (λ (r : Result State KError). allowed_slots image t at true (slots_allowed r)) (deletes true empty)
        ∙ ap (λ (l : List NotedSlot). let r : Result (List NotedSlot) Refusal = Ok l in r) (come-back-from image t stand slots rises are)

    pub delete-goes : is_untyped held ≡ false → is_empty held ≡ false →
        cnode_after image t at slots capability (Delete name) ≡ Ok (without_gone (is_removed slots (One k)) slots)
    unfolding noted_kernel
    delete-goes other full =
        allowed-unless image t at loses true (named >>= λ slot. delete state slot) (loses-is ∙ other)
        ∙ ap (λ (r : Result State KError). allowed_slots image t at true (slots_allowed r)) (deletes false full)
        ∙ ap (allowed_slots image t at true) one-left.1
        ∙ ap (λ (l : List NotedSlot). let r : Result (List NotedSlot) Refusal = Ok l in r) one-left.2

    pub revoke-goes : cnode_after image t at slots capability (Revoke name) ≡ Ok (without_gone (is_removed slots (Below k)) slots)
    unfolding noted_kernel
    revoke-goes =
        allowed-unless image t at false true (named >>= λ slot. revoke state slot) refl
        ∙ ap (λ (r : Result ℕ KError). allowed_slots image t at true (slots_allowed (r >>= λ slot. revoke state slot))) is
        ∙ ap (allowed_slots image t at true) below-left.1
        ∙ ap (λ (l : List NotedSlot). let r : Result (List NotedSlot) Refusal = Ok l in r) below-left.2
