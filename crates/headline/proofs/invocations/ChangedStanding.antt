-- The thread's own invariant holds after its call with the slots that are known there.
use Rattle.std.proofs.Common.{ℕ, ◌≡◌, ◌∙◌, ◌+◌, ◌%◌, ◌^◌, inl, inr, false, Option, Some, None, option_and_then, List, pos, ◌+ℤ◌, ◌≤ℤ◌, sym, ap, subst}
use Rattle.std.specs.Prelude.{Contains}
use Rattle.std.proofs.lemmas.Option.{none-some}
use Rattle.headline.specs.calls.Behind.{LeadsBehind}
use Rattle.format_laws.proofs.Laws.{is-fitting}
use Rattle.headline.proofs.kept.Laws.{IsGiven, given, program-kept, same-capability}
use Rattle.model.specs.declared.labels.Label.{Label}
use Rattle.model.specs.Acceptance.CallRules.{AfterCall}
use Rattle.model.specs.Acceptance.Measures.{measured}
use Rattle.model.specs.Acceptance.NotedKernel.{key_of, noted_after, slot_of_key}
use Rattle.model.specs.Acceptance.NotedStates.{NotedSlot, PointState}
use Rattle.model.specs.Acceptance.PointStates.{address_of}
use Rattle.model.specs.Acceptance.ThreadInvariants.{HasBootParent, LieWithin, MapsAreNoted, NamesNoCode, StandsAt, ThreadInvariant, root_table_of}
use Rattle.model.specs.Acceptance.ThreadInvariants.{runs as runs_so, tcb_of}
use Rattle.model.specs.Acceptance.ThreadRules.{reached}
use Rattle.model.specs.Capabilities.CapabilityKinds.{root_of}
use Rattle.model.specs.Capabilities.Slots.{capability_at}
use Rattle.model.specs.Images.Described.{Numbered}
use Rattle.model.specs.Images.Image.{Image}
use Rattle.model.specs.Kernel.AddressSpaces.{vspace_of}
use Rattle.model.specs.Kernel.Soundness.{IsSound}
use Rattle.model.specs.Kernel.State.{State, Object, ThreadState, cspace_slot, vspace_slot}
use Rattle.model.specs.Kernel.Waits.{open_count}
use Rattle.model.specs.Machine.ProgramMemory.{RegisterFile}
use Rattle.headline.proofs.lookups.Laws.{key-found}
use Rattle.headline.specs.moves.Moving.{CallsAt, PassesWith}
use Rattle.headline.proofs.moves.Laws.{next-address}
use Rattle.headline.specs.steps.Formed.{AreFormed}
use Rattle.headline.specs.invocations.Answered.{DerivesFromSome}
use Rattle.headline.specs.invocations.Changes.{ChangesOwn}
use Rattle.headline.specs.invocations.Mirrors.{Mirrors}
use Rattle.headline.proofs.invocations.BlockSlots.{cspace-other, vspace-other}
use Rattle.headline.proofs.invocations.ChangedMaps.{code-mapped, maps-noted}
use Rattle.headline.proofs.invocations.NotedHere.{is-noted, noted-formed}
use Rattle.headline.proofs.steps.Laws.{within-still}

module _ (image : Image) (t : Numbered) (s after : State) (labels : List Label) (own : ThreadState) (point : ℕ) (state : PointState) (left : AfterCall)
    (m : Mirrors image t s state.slots) (c : ChangesOwn image t s after left.slots) (hung : DerivesFromSome image t after)
    (at : CallsAt image t s labels own point state left)
    (leads : LeadsBehind image t point state left) (objects : ℕ → Option Object) (sound : IsSound (record after { objects = objects })) where
  abbrev behind : State
  behind = record after { objects = objects }

  facts : IsGiven image t
  facts = given image t m.accepted.formed m.listed

  left-formed : AreFormed left.slots
  left-formed =
      subst AreFormed c.slots (noted-formed image t.thread (is-fitting image m.accepted.spelled.fits) m.stand after.slots sound.slots.derivation.valid)

  next-slots : leads.next.slots ≡ left.slots
  next-slots = leads.slots left-formed

  -- what has no own slot above hangs below a boot slot
  boot-above : (n : NotedSlot) → Contains leads.next.slots n → n.parent ≡ None → HasBootParent behind (slot_of_key image n.key)
  boot-above n listed none =
      let slot = slot_of_key image n.key in
      let there : Contains (noted_after image t.thread after.slots) n =
      subst (λ (all : List NotedSlot). Contains all n) (sym c.slots) (subst (λ (all : List NotedSlot). Contains all n) next-slots listed) in
      let of = is-noted image t.thread after.slots n there in
      let up = hung slot of.own of.full in
      elim (c.near slot up.0 of.own up.1) [
        | inl mine ↦
            let found = key-found image (reached image t.thread) up.0 mine in
            let above : n.parent ≡ Some found.key = of.parent ∙ ap (option_and_then (key_of image (reached image t.thread))) up.1 ∙ found.at in
            absurd (none-some found.key (sym none ∙ above))
        | inr boot ↦ record { parent = up.0; is = up.1; boot = boot }
      ]

  same-vspace : capability_at after.slots (vspace_slot (tcb_of image t)) ≡ capability_at s.slots (vspace_slot (tcb_of image t))
  same-vspace =
      let slot = vspace_slot (tcb_of image t) in
      same-capability s.slots after.slots slot (c.others slot (vspace-other image m.accepted.spelled.fits m.accepted.formed t t m.listed m.listed))

  next-stands : (next : ThreadState) → next.registers.pc ≡ address_of t.thread (point + 1) → LieWithin next.registers leads.next.ranges
      → StandsAt image t behind next (point + 1) leads.next
  next-stands next pc registers =
      let vspace : vspace_of s (tcb_of image t) ≡ Some (root_table_of image t) = ap root_of at.stands.vspace ∙ facts.root in
      record {
        inside = leads.inside;
        known = leads.known;
        pc = pc;
        registers = registers;
        slots = c.slots ∙ sym next-slots;
        parents = boot-above;
        program = program-kept image t s behind state.slots facts m.all.sound sound
            (code-mapped image t s after state.slots left.slots m c at.stands.code) c.bytes
            at.stands.maps vspace (ap root_of same-vspace ∙ vspace) at.stands.program;
        maps = subst (λ (all : List NotedSlot). MapsAreNoted image t behind all) (sym next-slots) (maps-noted image t s after state.slots left.slots m c);
        code = subst (NamesNoCode image) (sym next-slots) c.code;
        cspace = same-capability s.slots after.slots (cspace_slot (tcb_of image t))
            (c.others (cspace_slot (tcb_of image t)) (cspace-other image m.accepted.spelled.fits m.accepted.formed t t m.listed m.listed)) ∙ at.stands.cspace;
        vspace = same-vspace ∙ at.stands.vspace;
      }

  -- it passes, within its budget
  pub passes-with-slots : (later : List Label) → left.is_wait ≡ false → PassesWith behind (tcb_of image t) own state left
      → open_count (tcb_of image t) later ≡ open_count (tcb_of image t) labels + 1 → ThreadInvariant image t behind later
  passes-with-slots later wait passes more =
      let written = passes.written in
      let pc : passes.next.registers.pc ≡ address_of t.thread (point + 1) =
      ap (λ (r : RegisterFile). r.pc) passes.registers ∙ ap (λ (n : ℕ). (n + 4) % 2 ^ 32) (passes.pc ∙ at.stands.pc)
      ∙ next-address t.thread.header.base t.thread.header.words point facts.ends leads.inside in
      let within : LieWithin passes.next.registers leads.next.ranges =
      subst (λ (r : RegisterFile). LieWithin r leads.next.ranges) (sym passes.registers) (leads.ranges written passes.within) in
      let falls = leads.falls wait own.registers written passes.only at.stands.registers passes.within in
      let budget : (pos (open_count (tcb_of image t) later) +ℤ measured leads.next.measure written) ≤ℤ pos t.thread.header.budget =
      subst (λ (n : ℕ). (pos n +ℤ measured leads.next.measure written) ≤ℤ pos t.thread.header.budget) (sym more)
      (within-still (open_count (tcb_of image t) labels) t.thread.header.budget (measured state.measure own.registers)
      (measured leads.next.measure written) at.budget falls) in
      runs_so passes.next (point + 1) leads.next passes.is passes.runs (next-stands passes.next pc within)
      (subst (λ (r : RegisterFile). (pos (open_count (tcb_of image t) later) +ℤ measured leads.next.measure r) ≤ℤ pos t.thread.header.budget)
      (sym passes.registers) budget)
