-- What a removal of a thread's own slots leaves of all slots, on one side; and that it leaves the same of own slots on both.
use Rattle.std.proofs.Common.{ℕ, zero, suc, ◌≡◌, ◌∙◌, ◌==◌, ◌<◌, ◌≤◌, ◌^◌, ◌&&◌, ◌||◌, ◌⊎◌, inl, inr, Bool, true, false, not, if◌then◌else◌}
use Rattle.std.proofs.Common.{length, get_or, Option, Some, None, option_map, refl, sym, ap, subst, arith}
use Rattle.std.specs.Option.{option_map_or}
use Rattle.std.specs.List.{list_any, range_with_len}
use Rattle.std.proofs.lemmas.Bool.{and_parts, eqb-true, false≢true}
use Rattle.std.proofs.lemmas.Bool.Decides.{eqb_tells}
use Rattle.std.proofs.lemmas.List.Folds.{Any-from_list_any}
use Rattle.std.proofs.lemmas.List.FromFn.{get_or-range_with_len, length-range_with_len}
use Rattle.model.specs.declared.capabilities.Cap.{Cap}
use Rattle.model.specs.declared.capabilities.Cap.TheVariants.{Empty, Untyped, Endpoint, Notification, CNode, Frame, PageTable, Tcb, RootTable, InterruptControl}
use Rattle.model.specs.declared.capabilities.Cap.TheVariants.{InterruptHandler}
use Rattle.model.specs.declared.slot_entries.Entry.{Entry}
use Rattle.model.specs.Capabilities.CapabilityKinds.{is_handler_of}
use Rattle.model.specs.Capabilities.Slots.{IsDerivation, IsFull, capability_at, empty_entry, is_empty, parent_at}
use Rattle.model.specs.Kernel.Removal.{SlotSet, ancestor_outside, is_some_slot, kept, kept_entry, loses_last_child, new_parent, slots_emptied, takes_last}
use Rattle.model.specs.Kernel.Removal.{with_bindings}
use Rattle.model.specs.Kernel.State.{State, binding_slot, boot_area_slots, slots_of}
use Rattle.removal_laws.proofs.Laws.{found, found-same, found-where, outside-in, outside-none, outside-out, outside-zero}
use Rattle.typestate.proofs.Laws.{reset}

-- What is known of one side: own slots are the thread's, of which a set is removed, and no other hangs below one of them.
pub record IsOneSide (own set : SlotSet) (x : State) : Type 0 where
  pub tree : IsDerivation x.slots
  pub inside : (slot : ℕ) → set slot ≡ true → own slot ≡ true
  pub own_all : (slot : ℕ) → own slot ≡ true → with_bindings x set slot ≡ set slot
  pub set_or_empty : (slot : ℕ) → with_bindings x set slot ≡ true → (set slot ≡ true) ⊎ (capability_at x.slots slot ≡ Empty)
  pub kept_reset : (slot : ℕ) (c : Cap) → kept x (with_bindings x set) slot c ≡ reset (loses_last_child x (with_bindings x set) slot) c
  pub near : (slot parent : ℕ) → own slot ≡ true → parent_at x.slots slot ≡ Some parent → (own parent ≡ true) ⊎ (parent < 2 ^ x.boot_radix)
  pub outside : (slot parent : ℕ) → own slot ≡ false → parent_at x.slots slot ≡ Some parent → own parent ≡ false

reset-none : (c : Cap) → reset false c ≡ c
reset-none Empty = refl
reset-none (Untyped _ _ _) = refl
reset-none (Endpoint _ _ _) = refl
reset-none (Notification _ _ _) = refl
reset-none (CNode _ _ _) = refl
reset-none (Frame _ _ _) = refl
reset-none (PageTable _ _) = refl
reset-none (Tcb _) = refl
reset-none (RootTable _) = refl
reset-none InterruptControl = refl
reset-none (InterruptHandler _) = refl

line-few : (k d : ℕ) → k < length (range_with_len 0 64) → get_or (range_with_len 0 64) k d < 64
line-few k d less =
    let few : k < 64 = subst (λ (n : ℕ). k < n) (length-range_with_len 0 64) less in
    subst (λ (n : ℕ). n < 64) (sym (get_or-range_with_len 0 64 k d few)) (omega (arith, few))

or-none : (a b : Bool) → a ≡ false → (a || b) ≡ true → b ≡ true
or-none a b none is = sym (ap (λ c. c || b) none) ∙ is

and-none : (b : Bool) → (b && false) ≡ false
and-none true = refl
and-none false = refl

child-is : (slot : ℕ) (o : Option ℕ) → is_some_slot slot o ≡ true → o ≡ Some slot
child-is slot None is = absurd (false≢true is)
child-is slot (Some p) is = ap (λ (n : ℕ). Some n) (eqb-true p slot is)

module _ (own set : SlotSet) (x : State) (side : IsOneSide own set x) where
  abbrev all : SlotSet
  all = with_bindings x set

  -- what is full is in the set itself
  full-in : (slot : ℕ) → IsFull x.slots slot → with_bindings x set slot ≡ true → set slot ≡ true
  full-in slot full is = elim (side.set_or_empty slot is) [
    | inl here ↦ here
    | inr empty ↦ absurd (false≢true (sym (ap (λ (c : Cap). not (is_empty c)) empty) ∙ full))
  ]

  -- a parent that is none of the thread's stays
  out-parent : (slot parent : ℕ) → parent_at x.slots slot ≡ Some parent → own parent ≡ false → with_bindings x set parent ≡ false
  out-parent slot parent up out = elim (all parent) as (λ b. all parent ≡ b → b ≡ false) [
    | true ↦ λ is. absurd (false≢true (sym out ∙ side.inside parent (full-in parent (side.tree.parent_full slot parent up) is)))
    | false ↦ λ _. refl
  ] refl

  other-parent : (slot : ℕ) → own slot ≡ false → new_parent x (with_bindings x set) slot ≡ parent_at x.slots slot
  other-parent slot other = by (parent_at x.slots slot) refl
    where
      by : (o : Option ℕ) → parent_at x.slots slot ≡ o → ancestor_outside 256 all x.slots o ≡ o
      by None none = outside-none 256 all x.slots
      by (Some p) up = outside-out 255 all x.slots p (out-parent slot p up (side.outside slot p other up))

  -- no other slot is a child of one of the thread's
  no-child : (slot child : ℕ) → own slot ≡ true → own child ≡ false → is_some_slot slot (parent_at x.slots child) ≡ false
  no-child slot child mine other = by (parent_at x.slots child) refl
    where
      by : (o : Option ℕ) → parent_at x.slots child ≡ o → is_some_slot slot o ≡ false
      by None none = refl
      by (Some p) up = elim (eqb_tells p slot) [
        | inr apart ↦ apart.0
        | inl here ↦ absurd (false≢true (sym (side.outside child p other up) ∙ ap own here.1 ∙ mine))
      ]

  -- ---- a slot that is none of the thread's, behind the boot area

  module _ (slot : ℕ) (other : own slot ≡ false) (behind : boot_area_slots x.boot_radix ≤ slot) where
    set-out : set slot ≡ false
    set-out = elim (set slot) as (λ b. set slot ≡ b → b ≡ false) [
      | true ↦ λ here. absurd (false≢true (sym other ∙ side.inside slot here))
      | false ↦ λ _. refl
    ] refl

    all-out : with_bindings x set slot ≡ false
    all-out = elim (all slot) as (λ b. all slot ≡ b → b ≡ false) [
      | false ↦ λ _. refl
      | true ↦ λ is.
          let binds : ℕ → Bool = λ line. slot == binding_slot x line && takes_last x set (is_handler_of line) in
          let some = or-none (set slot) (list_any binds (range_with_len 0 64)) set-out is in
          let place = Any-from_list_any binds (range_with_len 0 64) some in
          let parts = and_parts (slot == binding_slot x place.1) (takes_last x set (is_handler_of place.1)) place.4 in
          let same : slot ≡ binding_slot x place.1 = eqb-true slot (binding_slot x place.1) parts.0 in
          let few : place.1 < 64 = subst (λ (n : ℕ). n < 64) place.3 (line-few place.0 place.1 place.2) in
          absurd (omega (arith, same, few, behind))
    ] refl

    -- a child that goes hangs below own slots or the boot CNode
    loses-none : loses_last_child x (with_bindings x set) slot ≡ false
    loses-none = elim (loses_last_child x all slot) as (λ b. loses_last_child x all slot ≡ b → b ≡ false) [
      | false ↦ λ _. refl
      | true ↦ λ lost.
          let went : ℕ → Bool = λ child. all child && is_some_slot slot (parent_at x.slots child) in
          let parts = and_parts (list_any went (slots_of x))
          (not (list_any (λ child. not (all child) && is_some_slot slot (new_parent x all child)) (slots_of x))) lost in
          let place = found-where x.memory_bits went parts.0 in
          let two = and_parts (all place.0) (is_some_slot slot (parent_at x.slots place.0)) place.1 in
          let up = child-is slot (parent_at x.slots place.0) two.1 in
          let mine = side.inside place.0 (full-in place.0 (side.tree.child_full place.0 slot up) two.0) in
          elim (side.near place.0 slot mine up) [
            | inl above ↦ absurd (false≢true (sym other ∙ above))
            | inr boot ↦ absurd (omega (arith, boot, behind))
          ]
    ] refl

    pub other-left : slots_emptied x (with_bindings x set) slot ≡ x.slots slot
    other-left =
        ap (λ b. if b then Some empty_entry else option_map (kept_entry x all slot) (x.slots slot)) all-out ∙ by (x.slots slot) refl
      where
        by : (o : Option Entry) → x.slots slot ≡ o → option_map (kept_entry x all slot) o ≡ o
        by None none = refl
        by (Some held) at =
            let up : parent_at x.slots slot ≡ held.parent = ap (λ (o : Option Entry). option_map_or (λ (h : Entry). h.parent) o None) at in
            let one : kept x all slot held.capability ≡ held.capability =
            side.kept_reset slot held.capability ∙ ap (λ b. reset b held.capability) loses-none ∙ reset-none held.capability in
            let two : new_parent x all slot ≡ held.parent = other-parent slot other ∙ up in
            λ i. Some (record { capability = one i; parent = two i })

-- ---- own slots, on both sides

module _ (own set : SlotSet) (s t : State) (a : IsOneSide own set s) (b : IsOneSide own set t) (memory : s.memory_bits ≡ t.memory_bits)
    (same : (slot : ℕ) → own slot ≡ true → s.slots slot ≡ t.slots slot) where
  abbrev here_all : SlotSet
  here_all = with_bindings s set

  abbrev there_all : SlotSet
  there_all = with_bindings t set

  same-all : (slot : ℕ) → own slot ≡ true → with_bindings s set slot ≡ with_bindings t set slot
  same-all slot mine = a.own_all slot mine ∙ sym (b.own_all slot mine)

  same-up : (slot : ℕ) → own slot ≡ true → parent_at s.slots slot ≡ parent_at t.slots slot
  same-up slot mine = ap (λ (o : Option Entry). option_map_or (λ (h : Entry). h.parent) o None) (same slot mine)

  abbrev SameAbove : ℕ → ℕ → Type 0
  SameAbove n slot =
      ancestor_outside n (with_bindings s set) s.slots (parent_at s.slots slot) ≡ ancestor_outside n (with_bindings t set) t.slots (parent_at t.slots slot)

  above-next : (n slot : ℕ) → ((p : ℕ) → own p ≡ true → SameAbove n p) → (o : Option ℕ) → parent_at s.slots slot ≡ o → parent_at t.slots slot ≡ o
      → ancestor_outside (suc n) (with_bindings s set) s.slots o ≡ ancestor_outside (suc n) (with_bindings t set) t.slots o
  above-next n slot further None up too = outside-none (suc n) here_all s.slots ∙ sym (outside-none (suc n) there_all t.slots)
  above-next n slot further (Some p) up too =
      elim (own p) as (λ c. own p ≡ c → ancestor_outside (suc n) here_all s.slots (Some p) ≡ ancestor_outside (suc n) there_all t.slots (Some p)) [
        | false ↦ λ out.
            outside-out n here_all s.slots p (out-parent own set s a slot p up out)
            ∙ sym (outside-out n there_all t.slots p (out-parent own set t b slot p too out))
        | true ↦ λ mine. elim (set p) as (λ c. set p ≡ c
            → ancestor_outside (suc n) here_all s.slots (Some p) ≡ ancestor_outside (suc n) there_all t.slots (Some p)) [
              | true ↦ λ is.
                  outside-in n here_all s.slots p (a.own_all p mine ∙ is) ∙ further p mine ∙ sym (outside-in n there_all t.slots p (b.own_all p mine ∙ is))
              | false ↦ λ is.
                  outside-out n here_all s.slots p (a.own_all p mine ∙ is) ∙ sym (outside-out n there_all t.slots p (b.own_all p mine ∙ is))
            ] refl
      ] refl

  -- the nearest ancestor that stays
  same-above : (n slot : ℕ) → own slot ≡ true → SameAbove n slot
  same-above zero slot mine =
      outside-zero here_all s.slots (parent_at s.slots slot) ∙ sym (outside-zero there_all t.slots (parent_at t.slots slot))
  same-above (suc n) slot mine =
      above-next n slot (λ p inner. same-above n p inner) (parent_at s.slots slot) refl (sym (same-up slot mine))
      ∙ ap (ancestor_outside (suc n) there_all t.slots) (same-up slot mine)

  -- ---- last children

  module _ (slot : ℕ) (mine : own slot ≡ true) where
    abbrev went : State → ℕ → Bool
    went x child = with_bindings x set child && is_some_slot slot (parent_at x.slots child)

    abbrev stays : State → ℕ → Bool
    stays x child = not (with_bindings x set child) && is_some_slot slot (new_parent x (with_bindings x set) child)

    went-none : (x : State) → IsOneSide own set x → (child : ℕ) → own child ≡ false → went x child ≡ false
    went-none x side child other =
        ap (λ c. with_bindings x set child && c) (no-child own set x side slot child mine other) ∙ and-none (with_bindings x set child)

    stays-none : (x : State) → IsOneSide own set x → (child : ℕ) → own child ≡ false → stays x child ≡ false
    stays-none x side child other =
        ap (λ c. not (with_bindings x set child) && c)
        (ap (is_some_slot slot) (other-parent own set x side child other) ∙ no-child own set x side slot child mine other)
        ∙ and-none (not (with_bindings x set child))

    same-went : (child : ℕ) → went s child ≡ went t child
    same-went child = elim (own child) as (λ c. own child ≡ c → went s child ≡ went t child) [
      | true ↦ λ inner. λ i. same-all child inner i && is_some_slot slot (same-up child inner i)
      | false ↦ λ other. went-none s a child other ∙ sym (went-none t b child other)
    ] refl

    same-stays : (child : ℕ) → stays s child ≡ stays t child
    same-stays child = elim (own child) as (λ c. own child ≡ c → stays s child ≡ stays t child) [
      | true ↦ λ inner. λ i. not (same-all child inner i) && is_some_slot slot (same-above 256 child inner i)
      | false ↦ λ other. stays-none s a child other ∙ sym (stays-none t b child other)
    ] refl

    same-loses : loses_last_child s (with_bindings s set) slot ≡ loses_last_child t (with_bindings t set) slot
    same-loses =
        let one : list_any (went s) (slots_of s) ≡ list_any (went t) (slots_of t) =
        found-same s.memory_bits (went s) (went t) same-went ∙ ap (λ (n : ℕ). found n (went t)) memory in
        let two : list_any (stays s) (slots_of s) ≡ list_any (stays t) (slots_of t) =
        found-same s.memory_bits (stays s) (stays t) same-stays ∙ ap (λ (n : ℕ). found n (stays t)) memory in
        λ i. one i && not (two i)

    same-kept : (c : Cap) → kept s (with_bindings s set) slot c ≡ kept t (with_bindings t set) slot c
    same-kept c = a.kept_reset slot c ∙ ap (λ lost. reset lost c) same-loses ∙ sym (b.kept_reset slot c)

    pub own-left : slots_emptied s (with_bindings s set) slot ≡ slots_emptied t (with_bindings t set) slot
    own-left = λ i. if same-all slot mine i then Some empty_entry
        else option_map (λ (held : Entry). record { capability = same-kept held.capability i; parent = same-above 256 slot mine i }) (same slot mine i)
