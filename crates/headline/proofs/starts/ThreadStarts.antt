-- Each thread of an accepted image starts at its entry, with what its certificate notes there.
use Rattle.std.proofs.Common.{ℕ, ◌≡◌, ◌∙◌, true, false, List, [], ℤ, pos, ◌+ℤ◌, refl, sym, subst, arith}
use Rattle.std.specs.Prelude.{◌≤ℤ◌, Contains, int_lt}
use Rattle.std.proofs.lemmas.Int.{ints}
use Rattle.headline.proofs.facts.Laws.{program-kept}
use Rattle.format_laws.proofs.Laws.{is-fitting}
use Rattle.soundness.proofs.Laws.{are-formed}
use Rattle.model.specs.Acceptance.Accepted.{AreKept, IsWellFormed}
use Rattle.model.specs.Acceptance.Measures.{measured}
use Rattle.model.specs.Acceptance.NotedKernel.{noted_root, slot_of_key}
use Rattle.model.specs.Acceptance.NotedStates.{NotedSlot, image_slots}
use Rattle.model.specs.Acceptance.PointRules.{program_rules}
use Rattle.model.specs.Acceptance.ThreadInvariants.{HasBootParent, MapsAreNoted, NamesNoCode, StandsAt, ThreadInvariant, runs}
use Rattle.model.specs.Capabilities.Slots.{capability_at}
use Rattle.model.specs.Images.Described.{Numbered, described, listed_parent, listed_thread, numbered_threads, start_registers}
use Rattle.model.specs.Images.Image.{Image, Thread, whole_image}
use Rattle.model.specs.Images.Places.{cnode_slot, offset_of}
use Rattle.model.specs.Kernel.State.{cspace_slot}
use Rattle.model.specs.Kernel.Waits.{open_count}
use Rattle.thread_spaces.specs.Given.{IsListed}
use Rattle.thread_spaces.proofs.Laws.{capability-shown, listed-shown, parent-in-boot, parent-shown, root-shown}
use Rattle.headline.proofs.starts.EntryRules.{entry-kept, none-stray, numbered-thread, point-kept}
use Rattle.headline.proofs.starts.GivenSlots.{slots-given}
use Rattle.headline.proofs.starts.SameSlots.{slots-same}
use Rattle.headline.proofs.starts.StartMaps.{code-unnamed, given-listed, maps-given}
use Rattle.headline.proofs.starts.StartObjects.{object-started, pc-started, registers-started}
use Rattle.headline.proofs.starts.StartPlaces.{vspace-shown}
use Rattle.headline.proofs.starts.StartPrograms.{program-ends, program-stands}

none-open : (thread : ℕ) → open_count thread [] ≡ 0
unfolding open_count
none-open thread = refl

within : (budget count : ℕ) (m : ℤ) → count ≡ 0 → int_lt (pos budget) m ≡ false → (pos count +ℤ m) ≤ℤ pos budget
within budget count m none is = omega (arith, ints)

module _ (image : Image) (fits : whole_image.fits image ≡ true) (well : IsWellFormed image) where
  -- a slot that the image lists hangs below a boot slot
  boot-parent : (t : Thread) (slot : NotedSlot) → Contains (image_slots image t) slot → HasBootParent (described image) (slot_of_key image slot.key)
  unfolding described
  boot-parent t slot there =
      let of = given-listed image t slot there in
      let c = of.entry in
      let place = cnode_slot image c.cnode c.index in
      let is = parent-shown image place _ (listed-shown image fits well of.place c of.at) in
      subst (λ (s : NotedSlot). HasBootParent (described image) (slot_of_key image s.key)) (sym of.is)
      (record {
        parent = listed_parent image c;
        is = is;
        boot = parent-in-boot image (is-fitting image fits) (are-formed image well) place (listed_parent image c) is;
      })

  pub root-started : (t : Thread) → IsListed image t → capability_at (described image).slots (cspace_slot (offset_of image t.header.tcb)) ≡ noted_root image t
  root-started t listed = capability-shown image (cspace_slot (offset_of image t.header.tcb)) _ (root-shown image fits well listed.number t listed.listed)

pub thread-starts : (image : Image) (t : Numbered) → whole_image.fits image ≡ true → IsWellFormed image → AreKept (program_rules image) →
    Contains (numbered_threads image) t
    → ThreadInvariant image t (described image) []
thread-starts image t fits well programs there =
    let place = numbered-thread image t there in
    let listed : IsListed image t.thread = record { number = place.0; listed = place.1 } in
    let kept = program-kept image t programs there in
    let entry = entry-kept image t kept in
    let state = entry.state in
    let point = t.thread.header.entry in
    let ends = program-ends image fits well t listed in
    let slots : state.slots ≡ image_slots image t.thread =
    slots-same image t.thread fits well listed point state (none-stray image t point state (point-kept image t point kept ends.1) entry.known) entry.slots in
    let stands : StandsAt image t (described image) (listed_thread t.thread) point state = record {
      inside = ends.1;
      known = entry.known;
      pc = pc-started t.thread ends.0 ends.1;
      registers = registers-started t.thread state entry.within;
      slots = slots-given image t.thread fits well listed ∙ sym slots;
      parents = λ slot noted none. boot-parent image fits well t.thread slot (subst (λ (all : List NotedSlot). Contains all slot) slots noted);
      program = program-stands image fits well t listed;
      maps = subst (λ (all : List NotedSlot). MapsAreNoted image t (described image) all) (sym slots) (maps-given image t fits well listed);
      code = subst (λ (all : List NotedSlot). NamesNoCode image all) (sym slots) (code-unnamed image fits well t.thread);
      cspace = root-started image fits well t.thread listed;
      vspace = vspace-shown image fits well t listed;
    } in
    runs (listed_thread t.thread) point state (object-started image t.thread fits well listed) refl stands
    (within t.thread.header.budget (open_count (offset_of image t.thread.header.tcb) []) (measured state.measure (start_registers t.thread))
    (none-open (offset_of image t.thread.header.tcb)) entry.budget)
