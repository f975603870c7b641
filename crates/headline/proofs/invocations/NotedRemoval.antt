-- A removal of own slots leaves the same slots, as they are noted, in the state as it is and in the noted one.
use Rattle.std.proofs.Common.{ℕ, ◌≡◌, ◌∙◌, inl, inr, true, false, if◌then◌else◌, Option, None, Result, Ok, List, refl, sym, ap}
use Rattle.std.specs.Prelude.{option_and_then}
use Rattle.model.specs.Acceptance.NotedKernel.{key_of, noted_after, noted_kernel}
use Rattle.model.specs.Acceptance.NotedStates.{NotedSlot, SlotKey, is_foreign}
use Rattle.model.specs.Acceptance.ThreadRules.{reached}
use Rattle.model.specs.Capabilities.CapabilityKinds.{names_object}
use Rattle.model.specs.Capabilities.Slots.{Slots, capability_at, parent_at}
use Rattle.model.specs.Images.Described.{Numbered, described}
use Rattle.model.specs.Images.Image.{Image}
use Rattle.model.specs.Kernel.Removal.{SlotSet, kept, loses_last_child, new_parent, remove, slots_emptied, with_bindings}
use Rattle.model.specs.Kernel.State.{State}
use Rattle.model.specs.declared.capabilities.Cap.TheVariants.{Empty}
use Rattle.model.specs.declared.errors.KError.{KError}
use Rattle.typestate.proofs.Laws.{MayRemove, kept-is, noted-there, own-same, removed-slots, reset, slots_allowed, stays-there}
use Rattle.headline.specs.lookups.Found.{slots_noted}
use Rattle.headline.specs.invocations.Mirrors.{Mirrors, key_above}
use Rattle.headline.proofs.invocations.BothSides.{Meets, lost-same, new-meets}
use Rattle.headline.proofs.invocations.ParentsAway.{StaysAway}
use Rattle.headline.proofs.invocations.EmptiedSlots.{capability-left, parent-left}
use Rattle.headline.proofs.invocations.KeyedParents.{keys-meet, meets-keys}
use Rattle.headline.proofs.invocations.NotedSame.{noted-same}
use Rattle.headline.proofs.invocations.OtherSlots.{other-unkeyed, unkeyed-other}
use Rattle.headline.proofs.invocations.RealRemoval.{kept-reset, own-all}
use Rattle.headline.proofs.invocations.RemovalSides.{IsSide, else-of, may-remove, other-out, out-other, own_set}

ok-same : (a b : Slots) → ◌≡◌ {A = Result Slots KError} (Ok a) (Ok b) → a ≡ b
ok-same a b same = cc

module _ (image : Image) (t : Numbered) (s : State) (slots : List NotedSlot) (m : Mirrors image t s slots) where
  abbrev noted : State
  noted = noted_kernel image t.thread slots

  noted-side : IsSide image t (noted_kernel image t.thread slots)
  unfolding noted_kernel described
  noted-side = record {
    radix = refl;
    memory = refl;
    boot = λ slot below. noted-there image t.thread m.stand slots slot (m.stand.behind slot below);
    home = λ slot own. ap (is_foreign image t.thread (reached image t.thread)) (sym (m.held slot own)) ∙ m.home slot own;
  }

  noted-may : MayRemove (noted_kernel image t.thread slots) (own_set image t)
  unfolding noted_kernel described
  noted-may = may-remove image t m.stand noted noted-side (λ offset. elim (m.stand.objects offset) [
    | inl few ↦ inl few
    | inr e ↦ inr (else-of image t m.stand noted noted-side (names_object offset) e)
  ])

  pub out-there : StaysAway (own_set image t) s.slots
  out-there slot parent out up = other-out image t parent (m.outside slot parent (out-other image t slot out) up)

  pub out-noted : StaysAway (own_set image t) (slots_noted image t slots)
  unfolding noted_kernel
  out-noted slot parent out up =
      other-out image t parent (unkeyed-other image t parent
      (stays-there image t.thread m.stand slots m.are slot parent (other-unkeyed image t slot (out-other image t slot out)) up))

  pub parents-meet : (slot : ℕ) → own_set image t slot ≡ true → Meets (own_set image t) (parent_at s.slots slot) (parent_at (slots_noted image t slots) slot)
  parents-meet slot own = keys-meet image t (parent_at s.slots slot) (parent_at (slots_noted image t slots) slot) (m.above slot own)

  same-memory : s.memory_bits ≡ (noted_kernel image t.thread slots).memory_bits
  unfolding noted_kernel described
  same-memory = m.all.memory_bits

  module _ (set noted_set : SlotSet) (inside : (slot : ℕ) → set slot ≡ true → own_set image t slot ≡ true)
      (noted_inside : (slot : ℕ) → noted_set slot ≡ true → own_set image t slot ≡ true)
      (same : (slot : ℕ) → own_set image t slot ≡ true → set slot ≡ noted_set slot) where
    abbrev all : SlotSet
    all = with_bindings s set

    abbrev noted_all : SlotSet
    noted_all = with_bindings (noted_kernel image t.thread slots) noted_set

    all-same : (slot : ℕ) → own_set image t slot ≡ true → with_bindings s set slot ≡ with_bindings (noted_kernel image t.thread slots) noted_set slot
    all-same slot own =
        own-all image t s slots m set inside slot own ∙ same slot own
        ∙ sym (own-same (noted_kernel image t.thread slots) (own_set image t) noted-may noted_set noted_inside slot own)

    kept-same : (slot : ℕ) → own_set image t slot ≡ true
        → kept s all slot (capability_at s.slots slot)
        ≡ kept (noted_kernel image t.thread slots) noted_all slot (capability_at (slots_noted image t slots) slot)
    kept-same slot own =
        kept-reset image t s slots m set inside slot (capability_at s.slots slot)
        ∙ ap (λ b. reset b (capability_at s.slots slot))
        (lost-same (own_set image t) s noted out-there out-noted parents-meet all noted_all all-same same-memory slot own)
        ∙ ap (reset (loses_last_child noted noted_all slot)) (m.held slot own)
        ∙ sym (kept-is noted (own_set image t) noted-may noted_set noted_inside slot (capability_at (slots_noted image t slots) slot))

    cap-same : (slot : ℕ) → own_set image t slot ≡ true
        → capability_at (slots_emptied s all) slot ≡ capability_at (slots_emptied (noted_kernel image t.thread slots) noted_all) slot
    cap-same slot own =
        capability-left s all slot ∙ ap (λ c. if all slot then Empty else c) (kept-same slot own)
        ∙ ap (λ b. if b then Empty else kept noted noted_all slot (capability_at (slots_noted image t slots) slot)) (all-same slot own)
        ∙ sym (capability-left noted noted_all slot)

    abbrev key_in : Option ℕ → Option SlotKey
    key_in o = option_and_then (key_of image (reached image t.thread)) o

    above-left : (slot : ℕ) → own_set image t slot ≡ true
        → key_above image t (slots_emptied s all) slot ≡ key_above image t (slots_emptied (noted_kernel image t.thread slots) noted_all) slot
    above-left slot own =
        ap key_in (parent-left s all slot)
        ∙ ap (λ b. key_in (if b then None else new_parent s all slot)) (all-same slot own)
        ∙ (elim (noted_all slot) as (λ b. key_in (if b then None else new_parent s all slot) ≡ key_in (if b then None else new_parent noted noted_all slot)) [
          | true ↦ refl
          | false ↦
              meets-keys image t (new_parent s all slot) (new_parent noted noted_all slot)
              (new-meets (own_set image t) s noted out-there out-noted parents-meet all noted_all all-same slot own)
        ])
        ∙ sym (ap key_in (parent-left noted noted_all slot))

    -- the slots after both
    pub noted-left : (after : State) → remove (noted_kernel image t.thread slots) noted_set ≡ Ok after
        → noted_after image t.thread (slots_emptied s (with_bindings s set)) ≡ noted_after image t.thread after.slots
    noted-left after is =
        noted-same image t (slots_emptied s all) (slots_emptied noted noted_all) cap-same above-left
        ∙ sym (ap (noted_after image t.thread) (ok-same after.slots (slots_emptied noted noted_all)
        (sym (ap slots_allowed is) ∙ removed-slots noted (own_set image t) noted-may noted_set noted_inside)))
