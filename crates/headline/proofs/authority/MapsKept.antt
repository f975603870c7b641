-- What stays within authority leaves what threads map under their own root tables: another mapping is under that of the thread which made
-- it, and two threads have no slot in common.
use Rattle.std.proofs.Common.{ℕ, ◌≡◌, ◌≢◌, ◌∙◌, inl, inr, List, Option, None, sym, ap, subst}
use Rattle.std.specs.Prelude.{Contains}
use Rattle.std.proofs.lemmas.Bool.Decides.{eqb_tells}
use Rattle.model.specs.declared.events.Event.{Event}
use Rattle.model.specs.declared.events.Event.TheVariants.{Step, Tick, Irq, Write, Read}
use Rattle.model.specs.declared.slot_entries.Entry.{Entry}
use Rattle.model.specs.Acceptance.Accepted.{IsAccepted}
use Rattle.model.specs.Acceptance.Authority.{OwnStep, StaysWithin, WithinAuthority}
use Rattle.model.specs.Acceptance.ThreadInvariants.{root_table_of}
use Rattle.model.specs.Capabilities.CapabilityKinds.{frame_mapping}
use Rattle.model.specs.Capabilities.Slots.{Slots, capability_at}
use Rattle.model.specs.Kernel.Interrupts.{raise}
use Rattle.soundness.specs.Machines.{SameBase, SameBesideBytes}
use Rattle.soundness.proofs.Laws.{raise-machine, tick-machine, written-beside}
use Rattle.model.specs.Images.Described.{Numbered, numbered_threads}
use Rattle.model.specs.Images.Image.{Image}
use Rattle.model.specs.Kernel.Scheduling.{current, tick}
use Rattle.model.specs.Kernel.State.{State}
use Rattle.model.specs.Kernel.Steps.{place_of}
use Rattle.model.specs.Kernel.World.{world_writes}
use Rattle.headline.specs.authority.OwnMaps.{AllMapOwn}
use Rattle.headline.proofs.authority.Stored.{capability_of}
use Rattle.headline.proofs.invocations.TwoThreads.{one-owner}
use Rattle.headline.proofs.kept.Laws.{listed-from}
use Rattle.headline.proofs.starts.Laws.{contained}

module _ (bytes : List ℕ) (image : Image) (accepted : IsAccepted bytes image) (s after : State) (before : AllMapOwn image s) where
  pub within-maps : (t : Numbered) → Contains (numbered_threads image) t → WithinAuthority image t.thread s after → AllMapOwn image after
  within-maps t listed within u among slot mapping own is = elim (eqb_tells mapping.root (root_table_of image u)) [
    | inl here ↦ here.1
    | inr apart ↦
        let differs : frame_mapping (capability_at s.slots slot) ≢ frame_mapping (capability_at after.slots slot) =
        λ same. apart.1 (before u among slot mapping own (same ∙ is)) in
        let mine = within.slots slot (λ same. differs (ap (λ (o : Option Entry). frame_mapping (capability_of o)) same)) in
        let same : t ≡ u = one-owner image accepted.spelled.fits accepted.formed t u slot listed among mine own in
        absurd (apart.1 (within.frame_mappings slot mapping differs (inr is) ∙ ap (root_table_of image) same))
  ]

  own-step : OwnStep image s after → AllMapOwn image after
  own-step step =
      let place = contained image.threads step.thread step.listed in
      let there = listed-from 0 image.threads place.0 step.thread place.1 in
      within-maps (record { number = there.0; thread = step.thread }) there.1 step.within

  -- slots stay
  same-slots : (x : State) → SameBase s x → after ≡ x → AllMapOwn image after
  same-slots x base at u among slot mapping own is =
      before u among slot mapping own
      (ap (λ (slots : Slots). frame_mapping (capability_at slots slot)) (sym base.slots ∙ ap (λ (y : State). y.slots) (sym at)) ∙ is)

  idle-step : (current s ≡ None) × (after ≡ s) → AllMapOwn image after
  idle-step idle = subst (λ (x : State). AllMapOwn image x) (sym idle.1) before

  pub maps-own-kept : (event : Event) → StaysWithin image s event after → AllMapOwn image after
  maps-own-kept Step (inl idle) = idle-step idle
  maps-own-kept Step (inr step) = own-step step
  maps-own-kept Tick within = same-slots (tick s) (tick-machine s) within
  maps-own-kept (Irq line) within = same-slots (raise s line) (raise-machine s line) within
  maps-own-kept (Write address word) within =
      let place = place_of address in
      same-slots (world_writes s place word) (SameBesideBytes.base (written-beside s place word)) within
  maps-own-kept (Read address) same = subst (λ (x : State). AllMapOwn image x) (sym same) before
