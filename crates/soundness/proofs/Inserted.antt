-- A capability inserted that names what its parent's names keeps soundness.
use Rattle.std.proofs.Common.{ℕ, ◌≡◌, ◌≢◌, ◌∙◌, ◌==◌, ◌<◌, inl, inr, true, false, not, is_some, IsSome, if◌then◌else◌, Option, Some, None, refl, sym, ap, subst}
use Rattle.std.proofs.lemmas.Bool.{eq-eqb, ne_eqb, not-true}
use Rattle.std.proofs.lemmas.Bool.Decides.{eqb_tells}
use Rattle.model.proofs.Depths.{depth-leaf}
use Rattle.model.proofs.Derivations.{derivation-inserted}
use Rattle.model.proofs.SlotChanges.{capability_of, parent_of, entry-other, entry-same, full-not-empty}
use Rattle.model.specs.declared.capabilities.Cap.{Cap}
use Rattle.model.specs.declared.capabilities.Cap.TheVariants.{Empty, Untyped, Endpoint, Notification, CNode, Frame, PageTable, Tcb, RootTable, InterruptControl}
use Rattle.model.specs.declared.capabilities.Cap.TheVariants.{InterruptHandler}
use Rattle.model.specs.declared.capabilities.FrameMapping.{FrameMapping}
use Rattle.model.specs.declared.capabilities.TableMapping.{TableMapping}
use Rattle.model.specs.declared.slot_entries.Entry.{Entry}
use Rattle.model.specs.Capabilities.CapabilityKinds.{frame_mapping, table_mapping}
use Rattle.model.specs.Capabilities.CapabilityWords.{IsCapability}
use Rattle.model.specs.Capabilities.Slots.{Descendant, child, deeper, IsDerivation, IsFull, IsOpen, Slots, capability_at, depth_of, empty_entry, inserted}
use Rattle.model.specs.Capabilities.Slots.{is_empty, is_full, parent_at}
use Rattle.model.specs.Kernel.Kinds.{object_named, piece_of, used_of}
use Rattle.model.specs.Kernel.Soundness.{IsSound}
use Rattle.model.specs.Kernel.State.{State, with_slots}
use Rattle.soundness.proofs.Carried.{Carries, CarriesMappings, sound-carried}
use Rattle.soundness.proofs.Copies.{IsAlike, is_single, shared-unused, shared-no_table}
use Rattle.soundness.proofs.Places.{MayHold, full-may_hold}

-- ---- empty slots

abbrev entry_of : Cap → Option ℕ → Option Entry
entry_of capability parent = Some (record { capability = capability; parent = parent })

pub empty-capability : (c : Cap) → is_empty c ≡ true → c ≡ Empty
empty-capability Empty is = refl
empty-capability (Untyped a b d) is = let e : false ≡ true = is in absurd cc
empty-capability (Endpoint a b d) is = let e : false ≡ true = is in absurd cc
empty-capability (Notification a b d) is = let e : false ≡ true = is in absurd cc
empty-capability (CNode a b d) is = let e : false ≡ true = is in absurd cc
empty-capability (Frame a b d) is = let e : false ≡ true = is in absurd cc
empty-capability (PageTable a b) is = let e : false ≡ true = is in absurd cc
empty-capability (Tcb a) is = let e : false ≡ true = is in absurd cc
empty-capability (RootTable a) is = let e : false ≡ true = is in absurd cc
empty-capability InterruptControl is = let e : false ≡ true = is in absurd cc
empty-capability (InterruptHandler a) is = let e : false ≡ true = is in absurd cc

no-parent : (slots : Slots) (slot : ℕ) (parent : Option ℕ) → IsDerivation slots → is_full slots slot ≡ false → parent_at slots slot ≡ parent
    → parent ≡ None
no-parent slots slot None tree empty is = refl
no-parent slots slot (Some p) tree empty is = let e : true ≡ false = sym (tree.child_full slot p is) ∙ empty in absurd cc

empty-held : (slots : Slots) (slot : ℕ) (held : Option Entry) → IsDerivation slots → is_full slots slot ≡ false → slots slot ≡ held
    → IsSome held → slots slot ≡ Some empty_entry
empty-held slots slot None tree empty is there = let e : false ≡ true = there in absurd cc
empty-held slots slot (Some held) tree empty is there =
    let bare : is_empty (capability_at slots slot) ≡ true =
    (let e : not (is_empty (capability_at slots slot)) ≡ false = empty in
    elim (is_empty (capability_at slots slot)) as (λ b. not b ≡ false → b ≡ true)
    [ true ↦ λ _. refl | false ↦ λ f. let x : true ≡ false = f in absurd cc ] e) in
    let one : held.capability ≡ Empty = sym (ap capability_of is) ∙ empty-capability (capability_at slots slot) bare in
    let two : held.parent ≡ None = sym (ap parent_of is) ∙ no-parent slots slot (parent_at slots slot) tree empty refl in
    is ∙ ap (λ (c : Cap). entry_of c held.parent) one ∙ ap (λ (p : Option ℕ). entry_of Empty p) two

-- an open slot that is not full holds nothing
pub empty-open : (slots : Slots) (slot : ℕ) → IsDerivation slots → IsOpen slots slot → is_full slots slot ≡ false → slots slot ≡ Some empty_entry
empty-open slots slot tree there empty = empty-held slots slot (slots slot) tree empty refl there

-- ---- the insertion

-- what is asked of a capability that is inserted below another
pub record Inserts (s : State) (slot parent : ℕ) (capability : Cap) : Type 0 where
  pub empty : s.slots slot ≡ Some empty_entry
  pub full : IsFull s.slots parent
  pub room : depth_of s.slots parent < 255
  pub valid : IsCapability capability
  pub alike : IsAlike (capability_at s.slots parent) capability
  pub shared : is_single capability ≡ false
  pub unmapped : frame_mapping capability ≡ None
  pub may : MayHold s slot capability

module _ (s : State) (slot parent : ℕ) (capability : Cap) (sound : IsSound s) (inserts : Inserts s slot parent capability) where
  abbrev old : Slots
  old = s.slots

  new : Slots
  new = inserted s.slots slot capability (Some parent)

  -- the copy comes from where its parent is
  origin : ℕ → ℕ
  origin x = if x == slot then parent else x

  held-here : new slot ≡ entry_of capability (Some parent)
  unfolding new
  held-here = entry-same s.slots slot (entry_of capability (Some parent))

  held-other : (x : ℕ) → x ≢ slot → new x ≡ old x
  unfolding new
  held-other x other = entry-other s.slots slot (entry_of capability (Some parent)) x other

  origin-here : origin slot ≡ parent
  unfolding origin
  origin-here = ap (λ b. if b then parent else slot) (eq-eqb slot slot refl)

  origin-other : (x : ℕ) → x ≢ slot → origin x ≡ x
  unfolding origin
  origin-other x other = ap (λ b. if b then parent else x) (ne_eqb x slot other)

  -- what depends on the capability alone
  by-origin : {A : Type 0} (of : Cap → A) → of capability ≡ of (capability_at old parent) → (x : ℕ)
      → of (capability_at new x) ≡ of (capability_at old (origin x))
  by-origin of same x = elim (eqb_tells x slot) [
    | inl here ↦
        ap (λ (y : ℕ). of (capability_at new y)) here.1 ∙ ap (λ (o : Option Entry). of (capability_of o)) held-here ∙ same
        ∙ sym (ap (λ (y : ℕ). of (capability_at old (origin y))) here.1 ∙ ap (λ (y : ℕ). of (capability_at old y)) origin-here)
    | inr other ↦ ap (λ (o : Option Entry). of (capability_of o)) (held-other x other.1)
        ∙ sym (ap (λ (y : ℕ). of (capability_at old y)) (origin-other x other.1))
  ]

  bare : IsFull old slot → ⊥
  bare full = full-not-empty s.slots slot slot full inserts.empty refl

  parent-none : parent_at old slot ≡ None
  parent-none = ap parent_of inserts.empty

  source-shared : is_single (capability_at old parent) ≡ false
  source-shared = sym inserts.alike.single ∙ inserts.shared

  -- descendants stay so
  descends-still : (root x : ℕ) → Descendant old root x → Descendant new root x
  descends-still root x (child _ is) =
      child x (ap parent_of (held-other x (λ e. let clash : None ≡ Some root = sym parent-none ∙ ap (parent_at old) (sym e) ∙ is in cc)) ∙ is)
  descends-still root x (deeper _ up is below) =
      deeper x up (ap parent_of (held-other x (λ e. let clash : None ≡ Some up = sym parent-none ∙ ap (parent_at old) (sym e) ∙ is in cc)) ∙ is)
      (descends-still root up below)

  no-use : used_of (capability_at new slot) ≡ None
  no-use = ap (λ (o : Option Entry). used_of (capability_of o)) held-here ∙ shared-unused capability inserts.shared

  carries : Carries old new origin
  carries = record {
    object = by-origin object_named inserts.alike.object;
    piece = by-origin piece_of inserts.alike.piece;
    used = by-origin used_of inserts.alike.used;
    descends = λ root x part is below. elim (eqb_tells root slot) [
      | inl here ↦ let clash : None ≡ Some part = sym no-use ∙ ap (λ (y : ℕ). used_of (capability_at new y)) (sym here.1) ∙ is in absurd cc
      | inr apart_root ↦
          let from : Descendant old root (origin x) = subst (λ (r : ℕ). Descendant old r (origin x)) (origin-other root apart_root.1) below in
          elim (eqb_tells x slot) [
            | inl here ↦
                let up : Descendant old root parent = subst (λ (y : ℕ). Descendant old root y) (ap origin here.1 ∙ origin-here) from in
                subst (λ (y : ℕ). Descendant new root y) (sym here.1) (deeper slot parent (ap parent_of held-here) (descends-still root parent up))
            | inr other ↦ descends-still root x (subst (λ (y : ℕ). Descendant old root y) (origin-other x other.1) from)
          ]
    ];
    kept = λ x full. (x, origin-other x (λ e. bare (subst (λ (y : ℕ). IsFull old y) e full)));
    twins = λ a b differ twin. elim (eqb_tells a slot) [
      | inl here ↦ ap (λ (y : ℕ). used_of (capability_at new y)) here.1 ∙ no-use
      | inr a_other ↦
          let at_parent : a ≡ parent = elim (eqb_tells b slot) [
            | inl here ↦ sym (origin-other a a_other.1) ∙ twin ∙ ap origin here.1 ∙ origin-here
            | inr b_other ↦ absurd (differ (sym (origin-other a a_other.1) ∙ twin ∙ origin-other b b_other.1))
          ] in
          ap (λ (o : Option Entry). used_of (capability_of o)) (held-other a a_other.1)
          ∙ ap (λ (y : ℕ). used_of (capability_at old y)) at_parent ∙ shared-unused (capability_at old parent) source-shared
    ];
  }

  not-mapped : (x : ℕ) (m : FrameMapping) → x ≡ slot → frame_mapping (capability_at new x) ≡ Some m → ⊥
  not-mapped x m here is =
      let clash : None ≡ Some m = sym inserts.unmapped ∙ ap (λ (o : Option Entry). frame_mapping (capability_of o)) (sym held-here)
      ∙ ap (λ (y : ℕ). frame_mapping (capability_at new y)) (sym here) ∙ is in cc

  no-table : (x offset : ℕ) (m : Option TableMapping) → x ≡ slot → capability_at new x ≡ PageTable offset m → ⊥
  no-table x offset m here is =
      shared-no_table capability offset m inserts.shared (ap capability_of (sym held-here) ∙ ap (capability_at new) (sym here) ∙ is)

  carries-mappings : CarriesMappings old new origin
  carries-mappings = record {
    frame = λ x m is. elim (eqb_tells x slot) [
      | inl here ↦ absurd (not-mapped x m here.1 is)
      | inr other ↦ ap (λ (y : ℕ). frame_mapping (capability_at old y)) (origin-other x other.1)
          ∙ sym (ap (λ (o : Option Entry). frame_mapping (capability_of o)) (held-other x other.1)) ∙ is
    ];
    table = by-origin table_mapping inserts.alike.table;
    page_table = λ x offset m is. elim (eqb_tells x slot) [
      | inl here ↦ absurd (no-table x offset m here.1 is)
      | inr other ↦ ap (capability_at old) (origin-other x other.1) ∙ sym (ap capability_of (held-other x other.1)) ∙ is
    ];
    one_frame = λ a b m n twin one other. elim (eqb_tells a slot) [
      | inl here ↦ absurd (not-mapped a m here.1 one)
      | inr a_other ↦ elim (eqb_tells b slot) [
        | inl here ↦ absurd (not-mapped b n here.1 other)
        | inr b_other ↦ sym (origin-other a a_other.1) ∙ twin ∙ origin-other b b_other.1
      ]
    ];
    one_table = λ a b offset m twin is. elim (eqb_tells a slot) [
      | inl here ↦ absurd (no-table a offset m here.1 is)
      | inr a_other ↦ elim (eqb_tells b slot) [
        | inl here ↦
            let at_parent : a ≡ parent = sym (origin-other a a_other.1) ∙ twin ∙ ap origin here.1 ∙ origin-here in
            absurd (shared-no_table (capability_at old parent) offset m source-shared
            (ap (capability_at old) (sym at_parent) ∙ ap capability_of (sym (held-other a a_other.1)) ∙ is))
        | inr b_other ↦ sym (origin-other a a_other.1) ∙ twin ∙ origin-other b b_other.1
      ]
    ];
  }

  open-still : (x : ℕ) → is_some (new x) ≡ is_some (old x)
  open-still x = elim (eqb_tells x slot) [
    | inl here ↦ ap (λ (y : ℕ). is_some (new y)) here.1 ∙ ap is_some held-here ∙ sym (ap (λ (y : ℕ). is_some (s.slots y)) here.1 ∙ ap is_some inserts.empty)
    | inr other ↦ ap is_some (held-other x other.1)
  ]

  may-still : (x : ℕ) → IsFull new x → MayHold s x (capability_at new x)
  may-still x full = elim (eqb_tells x slot) [
    | inl here ↦
        subst (λ (y : ℕ). MayHold s y (capability_at new y)) (sym here.1)
        (subst (λ (o : Option Entry). MayHold s slot (capability_of o)) (sym held-here) inserts.may)
    | inr other ↦
        let same : capability_at new x ≡ capability_at s.slots x = ap capability_of (held-other x other.1) in
        subst (λ (c : Cap). MayHold s x c) (sym same) (full-may_hold s sound.slots x (subst (λ (c : Cap). not (is_empty c) ≡ true) same full))
  ]

  filled : capability ≢ Empty
  filled e = let clash : false ≡ true = sym (not-true (is_empty (capability_at s.slots parent)) inserts.full) ∙ sym inserts.alike.empty ∙ ap is_empty e in cc

  pub inserted-derivation : IsDerivation (inserted s.slots slot capability (Some parent))
  inserted-derivation =
      derivation-inserted s.slots slot capability (Some parent) sound.slots.derivation inserts.empty inserts.valid filled
      (λ p e. let same : parent ≡ p = cc in subst (IsFull s.slots) same inserts.full)
      (λ p e. let same : parent ≡ p = cc in subst (λ (x : ℕ). depth_of s.slots x < 255) same inserts.room)

  pub inserted-sound : IsSound (with_slots s (inserted s.slots slot capability (Some parent)))
  unfolding new
  inserted-sound = sound-carried s new origin sound inserted-derivation open-still may-still carries carries-mappings

  -- the other slots keep their depths
  pub inserted-depth : (x : ℕ) → x ≢ slot → depth_of (inserted s.slots slot capability (Some parent)) x ≡ depth_of s.slots x
  unfolding new
  inserted-depth x other =
      depth-leaf 256 (parent_at old) (parent_at new) slot (λ y apart. ap parent_of (held-other y apart))
      (λ y p is. full-not-empty s.slots p slot (sound.slots.derivation.parent_full y p is) inserts.empty) x other

  pub inserted-other : (x : ℕ) → x ≢ slot → inserted s.slots slot capability (Some parent) x ≡ s.slots x
  unfolding new
  inserted-other x other = held-other x other
