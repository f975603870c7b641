-- What each slot holds after a Retype on a pool of the thread: the same as on what is noted, and all others are as they were.
use Rattle.std.proofs.Common.{ℕ, ◌≡◌, ◌∙◌, ◌==◌, ◌+◌, ◌-◌, ◌^◌, ◌≤◌, true, false, Option, Some, None, option_and_then, List, sym, ap, subst}
use Rattle.std.specs.Option.{option_map_or}
use Rattle.model.specs.declared.capabilities.Cap.{Cap}
use Rattle.model.specs.declared.capabilities.Cap.TheVariants.{Empty, Untyped}
use Rattle.model.specs.declared.invocations.RetypeCall.{RetypeCall}
use Rattle.model.specs.declared.invocations.UntypedMemory.{UntypedMemory}
use Rattle.model.specs.declared.slot_entries.Entry.{Entry}
use Rattle.model.specs.Acceptance.Authority.{IsOwnSlot}
use Rattle.model.specs.Acceptance.NotedKernel.{key_of}
use Rattle.model.specs.Acceptance.NotedStates.{NotedSlot, SlotKey, is_own_cnode}
use Rattle.model.specs.Acceptance.ThreadRules.{reached}
use Rattle.model.specs.Capabilities.CapabilityKinds.{Node, is_untyped}
use Rattle.model.specs.Capabilities.Slots.{Slots, capability_at, is_within, parent_at}
use Rattle.model.specs.Images.Described.{Numbered}
use Rattle.model.specs.Images.Image.{Image}
use Rattle.model.specs.Kernel.Retype.{NewObject, NewObjects, first_capability, place_of_new}
use Rattle.model.specs.Kernel.State.{State}
use Rattle.headline.specs.lookups.Found.{slots_noted}
use Rattle.headline.specs.invocations.Changes.{IsOther}
use Rattle.headline.specs.invocations.Mirrors.{Mirrors, key_above}
use Rattle.headline.proofs.invocations.NewKinds.{IsMade}
use Rattle.headline.proofs.invocations.NewSlots.{Stands, as_before, as_new, as_pool, at-before, at-new, at-pool, index-of, slots_behind, stands}
use Rattle.headline.proofs.invocations.NodesSame.{window-own}
use Rattle.headline.proofs.invocations.RetypeParts.{objects_of, window_of}

abbrev pub held_by : Option Entry → Cap
held_by o = option_map_or (λ h. h.capability) o Empty

abbrev pub parent_by : Option Entry → Option ℕ
parent_by o = option_map_or (λ h. h.parent) o None

-- a call on a pool in one of the thread's slots, whose window lies in one of its CNodes
pub record Making (image : Image) (t : Numbered) (s : State) : Type 0 where
  pub pool : ℕ
  pub own : IsOwnSlot image t.thread pool
  pub memory : UntypedMemory
  pub holds : capability_at s.slots pool ≡ Untyped memory.offset memory.bits memory.watermark
  pub asked : RetypeCall
  pub kind : NewObject
  pub made : IsMade kind
  pub cnode : Node
  pub mine : is_own_cnode image (reached image t.thread) cnode.offset cnode.radix ≡ true
  pub fits : asked.index + asked.count ≤ 2 ^ cnode.radix
  pub place : ℕ × ℕ

module _ (image : Image) (t : Numbered) (s : State) (m : Making image t s) where
  abbrev pub new : NewObjects
  new = objects_of m.memory m.asked m.kind m.place

  abbrev pub window : ℕ
  window = window_of m.asked m.cnode

  abbrev pub used : Cap
  used = Untyped m.memory.offset m.memory.bits m.place.1

  -- the slots after it
  abbrev pub behind : Slots → Slots
  behind slots = slots_behind new window m.pool slots used m.made.no_slots

  abbrev pub first : ℕ → Cap
  first x = first_capability m.kind (place_of_new new (x - window))

  -- where a slot is
  abbrev pub Place : ℕ → Type 0
  Place x = Stands window m.asked.count m.pool x

  pub place-of : (x : ℕ) → Place x
  place-of x = stands window m.asked.count m.pool x

  -- ---- in the window, at the pool, and elsewhere

  module _ (slots : Slots) (x : ℕ) where
    pub new-held : is_within window m.asked.count x ≡ true → capability_at (behind slots) x ≡ first x
    new-held inside = ap held_by (at-new new window m.pool slots used m.made.no_slots x inside)

    pub new-parent : is_within window m.asked.count x ≡ true → parent_at (behind slots) x ≡ Some m.pool
    new-parent inside = ap parent_by (at-new new window m.pool slots used m.made.no_slots x inside)

    pub pool-held : is_within window m.asked.count x ≡ false → x ≡ m.pool → capability_at (behind slots) x ≡ used
    pool-held outside is = ap held_by (at-pool new window m.pool slots used m.made.no_slots x outside is)

    pub pool-parent : is_within window m.asked.count x ≡ false → x ≡ m.pool → parent_at (behind slots) x ≡ parent_at slots x
    pool-parent outside is = ap parent_by (at-pool new window m.pool slots used m.made.no_slots x outside is)

    pub before-same : is_within window m.asked.count x ≡ false → (x == m.pool) ≡ false → behind slots x ≡ slots x
    before-same outside other = at-before new window m.pool slots used m.made.no_slots x outside other

  -- a slot outside of the window derives from what it did, and is untyped memory if it was
  pub record IsKept (x : ℕ) : Type 0 where
    pub parent : parent_at (behind s.slots) x ≡ parent_at s.slots x
    pub untyped : is_untyped (capability_at (behind s.slots) x) ≡ is_untyped (capability_at s.slots x)

  pub pool-kept : (x : ℕ) → is_within window m.asked.count x ≡ false → x ≡ m.pool → IsKept x
  pool-kept x outside is = record {
    parent = pool-parent s.slots x outside is;
    untyped = ap is_untyped (pool-held s.slots x outside is) ∙ sym (ap (λ (y : ℕ). is_untyped (capability_at s.slots y)) is ∙ ap is_untyped m.holds);
  }

  pub before-kept : (x : ℕ) → is_within window m.asked.count x ≡ false → (x == m.pool) ≡ false → IsKept x
  before-kept x outside other =
      let same = before-same s.slots x outside other in
      record { parent = ap parent_by same; untyped = ap (λ (o : Option Entry). is_untyped (held_by o)) same }

  module _ (slots : List NotedSlot) (mirrors : Mirrors image t s slots) where
    abbrev noted : Slots
    noted = slots_noted image t slots

    pub in-window : (x : ℕ) → is_within window m.asked.count x ≡ true → IsOwnSlot image t.thread x
    in-window x inside =
        let parts = index-of window m.asked.count x inside in
        window-own image t s slots mirrors m.cnode m.mine m.asked.index m.asked.count m.fits x parts.0 parts.1

    -- ---- others

    pub others : (x : ℕ) → IsOther image t x → behind s.slots x ≡ s.slots x
    others x other = by-place (place-of x)
      where
        by-place : Place x → behind s.slots x ≡ s.slots x
        by-place (as_new inside) = absurd (other (in-window x inside))
        by-place (as_pool outside is) = absurd (other (subst (IsOwnSlot image t.thread) (sym is) m.own))
        by-place (as_before outside apart) = before-same s.slots x outside apart

    -- ---- the same on what is noted

    pub same-held : (x : ℕ) → IsOwnSlot image t.thread x → capability_at (behind s.slots) x ≡ capability_at (behind noted) x
    same-held x own = by-place (place-of x)
      where
        by-place : Place x → capability_at (behind s.slots) x ≡ capability_at (behind noted) x
        by-place (as_new inside) = new-held s.slots x inside ∙ sym (new-held noted x inside)
        by-place (as_pool outside is) = pool-held s.slots x outside is ∙ sym (pool-held noted x outside is)
        by-place (as_before outside apart) =
            ap held_by (before-same s.slots x outside apart) ∙ mirrors.held x own ∙ sym (ap held_by (before-same noted x outside apart))

    abbrev key_by : Option ℕ → Option SlotKey
    key_by parent = option_and_then (key_of image (reached image t.thread)) parent

    pub same-above : (x : ℕ) → IsOwnSlot image t.thread x → key_above image t (behind s.slots) x ≡ key_above image t (behind noted) x
    same-above x own = by-place (place-of x)
      where
        by-place : Place x → key_above image t (behind s.slots) x ≡ key_above image t (behind noted) x
        by-place (as_new inside) = ap key_by (new-parent s.slots x inside) ∙ sym (ap key_by (new-parent noted x inside))
        by-place (as_pool outside is) =
            ap key_by (pool-parent s.slots x outside is) ∙ mirrors.above x own ∙ sym (ap key_by (pool-parent noted x outside is))
        by-place (as_before outside apart) =
            ap (λ (o : Option Entry). key_by (parent_by o)) (before-same s.slots x outside apart) ∙ mirrors.above x own
            ∙ sym (ap (λ (o : Option Entry). key_by (parent_by o)) (before-same noted x outside apart))
