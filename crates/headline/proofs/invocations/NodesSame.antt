-- The CNode that a call names is the noted one, and one of the thread's: so is each window of its slots.
use Rattle.std.proofs.Common.{ℕ, zero, suc, ◌≡◌, ◌∙◌, ◌==◌, ◌+◌, ◌-◌, ◌/◌, ◌^◌, ◌<◌, ◌≤◌, ◌||◌, Bool, true, false, not, if◌then◌else◌, Option, Some, None}
use Rattle.std.proofs.Common.{Result, Ok, Err, List, refl, ap, subst, arith}
use Rattle.std.specs.List.{list_any, range_with_len}
use Rattle.model.specs.declared.capabilities.Cap.{Cap}
use Rattle.model.specs.declared.capabilities.Cap.TheVariants.{Empty, Untyped, Endpoint, Notification, CNode, Frame, PageTable, Tcb, RootTable, InterruptControl}
use Rattle.model.specs.declared.capabilities.Cap.TheVariants.{InterruptHandler}
use Rattle.model.specs.declared.errors.KError.{KError}
use Rattle.model.specs.declared.errors.KError.TheVariants.{FailedLookup}
use Rattle.model.specs.declared.invocations.SlotName.{SlotName}
use Rattle.model.specs.Acceptance.Authority.{IsOwnSlot}
use Rattle.model.specs.Acceptance.NotedKernel.{noted_root}
use Rattle.model.specs.Acceptance.NotedStates.{NotedSlot, is_own_cnode}
use Rattle.model.specs.Acceptance.ThreadRules.{reached}
use Rattle.model.specs.Capabilities.CapabilityKinds.{Node, cnode_of}
use Rattle.model.specs.Capabilities.Slots.{Slots, capability_at, is_empty, is_full}
use Rattle.model.specs.Images.Described.{Numbered}
use Rattle.model.specs.Images.Image.{Image}
use Rattle.model.specs.Kernel.Arguments.{◌>>=◌, argument_slot, wanted}
use Rattle.model.specs.Kernel.Retype.{any_full, node}
use Rattle.model.specs.Kernel.State.{State, slot_of}
use Rattle.soundness.proofs.Laws.{passes-both, wanted-some}
use Rattle.typestate.specs.Spaces.{is_among}
use Rattle.headline.specs.lookups.Found.{slots_noted}
use Rattle.headline.proofs.lookups.Laws.{home-inside, root-own, slot-own}
use Rattle.headline.specs.invocations.Mirrors.{Mirrors}

-- ---- results and lists

same-behind : {A B : Type 0} (r : Result A KError) (f g : A → Result B KError) → ((x : A) → r ≡ Ok x → f x ≡ g x) → (r >>= f) ≡ (r >>= g)
same-behind (Ok x) f g same = same x refl
same-behind (Err e) f g same = refl

same-any : (f g : ℕ → Bool) (from count : ℕ) → ((x : ℕ) → from ≤ x → x < from + count → f x ≡ g x)
    → list_any f (range_with_len from count) ≡ list_any g (range_with_len from count)
same-any f g from zero same = refl
same-any f g from (suc count) same =
    ap (λ b. b || list_any f (range_with_len (from + 1) count)) (same from (omega arith) (omega arith))
    ∙ ap (λ b. g from || b) (same-any f g (from + 1) count (λ x low high. same x (omega (arith, low)) (omega (arith, high))))

-- ---- a capability to a CNode that is one of these

none-node : (n : Node) → ◌≡◌ {A = Option Node} None (Some n) → ⊥
none-node n is = cc

among-own : (own : ℕ → ℕ → Bool) (c : Cap) (n : Node) → cnode_of c ≡ Some n → is_among own c ≡ true → own n.offset n.radix ≡ true
among-own own (CNode offset radix guard) n is inside =
    let same : ◌≡◌ {A = Node} (record { offset = offset; radix = radix }) n = cc in
    subst (λ (m : Node). own m.offset m.radix ≡ true) same inside
among-own own Empty n is inside = absurd (none-node n is)
among-own own (Untyped _ _ _) n is inside = absurd (none-node n is)
among-own own (Endpoint _ _ _) n is inside = absurd (none-node n is)
among-own own (Notification _ _ _) n is inside = absurd (none-node n is)
among-own own (Frame _ _ _) n is inside = absurd (none-node n is)
among-own own (PageTable _ _) n is inside = absurd (none-node n is)
among-own own (Tcb _) n is inside = absurd (none-node n is)
among-own own (RootTable _) n is inside = absurd (none-node n is)
among-own own InterruptControl n is inside = absurd (none-node n is)
among-own own (InterruptHandler _) n is inside = absurd (none-node n is)

module _ (image : Image) (t : Numbered) (s : State) (slots : List NotedSlot) (mirrors : Mirrors image t s slots) where
  abbrev noted : Slots
  noted = slots_noted image t slots

  abbrev root : Cap
  root = noted_root image t.thread

  abbrev own_cnode : ℕ → ℕ → Bool
  own_cnode = is_own_cnode image (reached image t.thread)

  root-inside : is_among own_cnode root ≡ true
  root-inside = root-own image t mirrors.accepted.formed mirrors.listed

  abbrev node_at : Slots → ℕ → Result Node KError
  node_at held slot = wanted (cnode_of (capability_at held slot)) FailedLookup

  pub node-same : (name : SlotName) → node s.slots root name ≡ node noted root name
  node-same name = elim (name.depth == 0) as
      (λ b. (if b then wanted (cnode_of root) FailedLookup else (argument_slot s.slots root name >>= node_at s.slots))
      ≡ (if b then wanted (cnode_of root) FailedLookup else (argument_slot noted root name >>= node_at noted))) [
        | true ↦ refl
        | false ↦
            same-behind (argument_slot s.slots root name) (node_at s.slots) (node_at noted)
            (λ slot is. ap (λ c. wanted (cnode_of c) FailedLookup) (mirrors.held slot (mirrors.finds_own root name slot root-inside is)))
            ∙ ap (λ r. r >>= node_at noted) (mirrors.finds root name root-inside)
      ]

  pub node-own : (name : SlotName) (n : Node) → node s.slots root name ≡ Ok n → own_cnode n.offset n.radix ≡ true
  node-own name n is = elim (name.depth == 0) as
      (λ b. (if b then wanted (cnode_of root) FailedLookup else (argument_slot s.slots root name >>= node_at s.slots)) ≡ Ok n
      → own_cnode n.offset n.radix ≡ true) [
        | true ↦ λ here. among-own own_cnode root n (wanted-some (cnode_of root) FailedLookup n here) root-inside
        | false ↦ λ there.
            let found = passes-both (argument_slot s.slots root name) (node_at s.slots) n there in
            let slot = found.value in
            let own : IsOwnSlot image t.thread slot = mirrors.finds_own root name slot root-inside found.first in
            among-own own_cnode (capability_at s.slots slot) n (wanted-some (cnode_of (capability_at s.slots slot)) FailedLookup n found.rest)
            (home-inside image t.thread (capability_at s.slots slot) (mirrors.home slot own))
      ] is

  -- a window of its slots
  module _ (n : Node) (mine : own_cnode n.offset n.radix ≡ true) (index count : ℕ) (fits : index + count ≤ 2 ^ n.radix) where
    pub window-own : (x : ℕ) → slot_of n.offset index ≤ x → x - slot_of n.offset index < count → IsOwnSlot image t.thread x
    window-own x low less =
        let i = index + (x - slot_of n.offset index) in
        let place : n.offset / 16 + i ≡ x = omega (arith, low) in
        subst (IsOwnSlot image t.thread) place (slot-own image t.thread n.offset n.radix i mine (omega (arith, less, fits)))

    pub full-same : any_full s.slots (slot_of n.offset index) count ≡ any_full noted (slot_of n.offset index) count
    full-same = same-any (is_full s.slots) (is_full noted) (slot_of n.offset index) count
        (λ x low high. ap (λ c. not (is_empty c)) (mirrors.held x (window-own x low (omega (arith, low, high)))))
