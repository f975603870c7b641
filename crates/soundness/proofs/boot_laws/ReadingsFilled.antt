-- What one listed capability, one page table or one thread more makes of the slots.
use Rattle.std.proofs.Common.{ℕ, suc, ◌≡◌, ◌≢◌, ◌∙◌, ◌==◌, ◌/◌, ◌<◌, ◌&&◌, inl, inr, true, false, if◌then◌else◌, find, take, Option, Some, None, refl, sym, ap}
use Rattle.std.proofs.Common.{arith}
use Rattle.std.specs.Prelude.{slice_get}
use Rattle.std.specs.Option.{option_map_or}
use Rattle.std.specs.List.{list_any}
use Rattle.std.proofs.lemmas.Bool.{and_from, and_left, and_right, cases_lt, eq-eqb, false≢true, le-leb, lt-leb}
use Rattle.std.proofs.lemmas.Bool.Decides.{eqb_tells}
use Rattle.std.proofs.lemmas.Option.{slice_get_within}
use Rattle.model.proofs.SlotChanges.{entry-other, entry-same}
use Rattle.model.specs.declared.capabilities.Cap.TheVariants.{Empty, InterruptHandler}
use Rattle.model.specs.declared.entries.CapabilityEntry.{CapabilityEntry}
use Rattle.model.specs.declared.entries.InterruptEntry.{InterruptEntry}
use Rattle.model.specs.declared.entries.TableEntry.{TableEntry}
use Rattle.model.specs.declared.slot_entries.Entry.{Entry}
use Rattle.format_laws.specs.Fitting.{TableFits}
use Rattle.format_laws.specs.Fitting.{IsFitting}
use Rattle.soundness.proofs.boot_laws.PlacesRules.{AreFormed, CapabilityKept, TableKept}
use Rattle.soundness.proofs.boot_laws.Readings.{AddsRoom, IsWithin, ReadsBoot, ReadsEmpty, entry, one_capability, one_table, one_thread, slots_of_loaded}
use Rattle.soundness.proofs.boot_laws.Readings.{with_buffer, with_spaces}
use Rattle.soundness.proofs.boot_laws.ReadingsBoot.{reads-boot, reads-empty}
use Rattle.soundness.proofs.boot_laws.ReadingsMoved.{other-capability, other-table, other-thread}
use Rattle.soundness.proofs.boot_laws.ReadingsOpen.{one-changes, read-same, three-change, two-change}
use Rattle.soundness.proofs.boot_laws.ReadingsParents.{free-holdings, unparented}
use Rattle.soundness.proofs.boot_laws.ReadingsRoom.{any-taken, reads-buffer, reads-cspace, reads-listed, reads-vspace}
use Rattle.soundness.proofs.boot_laws.ReadingsSections.{buffer-held, buffer_holding, cspace_holding, thread-apart, vspace_holding}
use Rattle.soundness.proofs.boot_laws.ReadingsTypes.{find-last, find-none, first_of_type, listed-untyped, mapped_by, original-untyped}
use Rattle.soundness.specs.boot_laws.Loading.{Progress, is_moved, original_so_far}
use Rattle.model.specs.Acceptance.WellFormed.{is_listed_before, is_table_type, is_untyped_type, source_type}
use Rattle.model.specs.Capabilities.CapabilityKinds.{is_untyped, with_table_mapping}
use Rattle.model.specs.Capabilities.Slots.{Slots, empty_entry, parent_at, recapped, relocated, with_entry, with_parent}
use Rattle.model.specs.Images.Described.{held_in, limited, listed_capability, listed_parent, original, thread_holdings}
use Rattle.model.specs.Images.Image.{Image, Thread, no_buffer}
use Rattle.model.specs.Images.Places.{cnode_slot, interrupt_of, object_at, offset_of, original_slot, source_boot_slot, type_at}
use Rattle.model.specs.Kernel.AddressSpaces.{page_size, region_pages}
use Rattle.model.specs.Kernel.Retype.{NewObject, NewUntyped, NewThread, NewEndpoint, NewNotification, NewCNode, NewFrame, NewPageTable, NewRootTable}
use Rattle.model.specs.Kernel.State.{buffer_slot, cspace_slot, vspace_slot}

pub within-capability : (image : Image) (p : Progress) (c : CapabilityEntry) → IsFitting image → IsWithin image p →
    slice_get image.capabilities p.capabilities ≡ Some c
    → IsWithin image (one_capability p)
within-capability image p c fitting within at = let less = slice_get_within image.capabilities p.capabilities c at in record {
  objects = within.objects;
  handlers = within.handlers;
  capabilities = omega (arith, less, fitting.capabilities);
  tables = within.tables;
  frames = within.frames;
  signals = within.signals;
  threads = within.threads;
}

pub within-table : (image : Image) (p : Progress) (t : TableEntry) → IsFitting image → IsWithin image p → slice_get image.tables p.tables ≡ Some t →
    IsWithin image (one_table p)
within-table image p t fitting within at = let less = slice_get_within image.tables p.tables t at in record {
  objects = within.objects;
  handlers = within.handlers;
  capabilities = within.capabilities;
  tables = omega (arith, less, fitting.tables);
  frames = within.frames;
  signals = within.signals;
  threads = within.threads;
}

pub within-thread : (image : Image) (p : Progress) (t : Thread) → IsFitting image → IsWithin image p → slice_get image.threads p.threads ≡ Some t →
    IsWithin image (one_thread p)
within-thread image p t fitting within at = let less = slice_get_within image.threads p.threads t at in record {
  objects = within.objects;
  handlers = within.handlers;
  capabilities = within.capabilities;
  tables = within.tables;
  frames = within.frames;
  signals = within.signals;
  threads = omega (arith, less, fitting.threads);
}

-- ---- page tables and pools

no-pool : (t : Option NewObject) → is_table_type t ≡ true → is_untyped_type t ≡ false
no-pool None is = refl
no-pool (Some (NewUntyped bits)) is = absurd (false≢true is)
no-pool (Some NewThread) is = refl
no-pool (Some NewEndpoint) is = refl
no-pool (Some NewNotification) is = refl
no-pool (Some (NewCNode radix)) is = refl
no-pool (Some NewFrame) is = refl
no-pool (Some NewPageTable) is = refl
no-pool (Some NewRootTable) is = refl

-- untyped memory is neither mapped nor limited
pool-same : (image : Image) (t : Option NewObject) (offset word payload : ℕ) (one two : Option TableEntry) → is_untyped_type t ≡ true
    → limited (mapped_by image one (first_of_type t offset)) word payload ≡ mapped_by image two (first_of_type t offset)
pool-same image (Some (NewUntyped bits)) offset word payload None None is = refl
pool-same image (Some (NewUntyped bits)) offset word payload None (Some u) is = refl
pool-same image (Some (NewUntyped bits)) offset word payload (Some u) None is = refl
pool-same image (Some (NewUntyped bits)) offset word payload (Some u) (Some v) is = refl
pool-same image None offset word payload one two is = absurd (false≢true is)
pool-same image (Some NewThread) offset word payload one two is = absurd (false≢true is)
pool-same image (Some NewEndpoint) offset word payload one two is = absurd (false≢true is)
pool-same image (Some NewNotification) offset word payload one two is = absurd (false≢true is)
pool-same image (Some (NewCNode radix)) offset word payload one two is = absurd (false≢true is)
pool-same image (Some NewFrame) offset word payload one two is = absurd (false≢true is)
pool-same image (Some NewPageTable) offset word payload one two is = absurd (false≢true is)
pool-same image (Some NewRootTable) offset word payload one two is = absurd (false≢true is)

-- a pool's source is an object
record IsPool (image : Image) (c : CapabilityEntry) : Type 0 where
  less : c.source < image.header.objects
  untyped : is_untyped_type (type_at image c.source) ≡ true
  source : (p : Progress) → listed_capability image c ≡ original_so_far image p c.source
  parent : listed_parent image c ≡ (object_at image c.source).untyped

pool-of : (image : Image) (c : CapabilityEntry) → is_untyped_type (source_type image c.source) ≡ true → IsPool image c
pool-of image c is = elim (cases_lt c.source image.header.objects) [
  | inl less ↦
      let object = lt-leb image.header.objects c.source less in
      let untyped : is_untyped_type (type_at image c.source) ≡ true = sym (ap (λ b. is_untyped_type (if b then None else type_at image c.source)) object)
      ∙ is in
      record {
        less = less;
        untyped = untyped;
        source = λ p.
            ap (λ b. limited (if b then option_map_or (λ (i : InterruptEntry). InterruptHandler i.line)
            (slice_get image.interrupts (interrupt_of image c.source)) Empty else original image c.source) c.rights c.payload) object
            ∙ pool-same image (type_at image c.source) (offset_of image c.source) c.rights c.payload (find (λ t. t.table == c.source) image.tables)
            (find (λ t. t.table == c.source) (take p.tables image.tables)) untyped;
        parent = ap (λ b. if b then (object_at image c.source).untyped else source_boot_slot image c.source) (listed-untyped image c ∙ is);
      }
  | inr handler ↦ absurd
      (false≢true (sym (ap (λ b. is_untyped_type (if b then None else type_at image c.source)) (le-leb image.header.objects c.source handler)) ∙ is))
]

module _ (image : Image) (fitting : IsFitting image) (formed : AreFormed image) (p : Progress) (within : IsWithin image p)
    (all : p.objects ≡ image.header.objects) where
  adds-listed : (c : CapabilityEntry) → slice_get image.capabilities p.capabilities ≡ Some c → is_untyped_type (source_type image c.source) ≡ false
      → slots_of_loaded image (one_capability p)
      ≡ with_entry (slots_of_loaded image p) (cnode_slot image c.cnode c.index)
      (Some (entry (listed_capability image c) (Some (source_boot_slot image c.source))))
  adds-listed c at plain =
      let slot = cnode_slot image c.cnode c.index in
      let parent : listed_parent image c ≡ source_boot_slot image c.source =
      ap (λ b. if b then (object_at image c.source).untyped else source_boot_slot image c.source) (listed-untyped image c ∙ plain) in
      one-changes image p (one_capability p) slot (entry (listed_capability image c) (Some (source_boot_slot image c.source))) refl
      (reads-listed image fitting formed (one_capability p) (within-capability image p c fitting within at) all p.capabilities c (omega arith) at
      ∙ ap (λ (n : ℕ). let o : Option Entry = Some (entry (listed_capability image c) (Some n)) in o) parent)
      (λ s other. other-capability image p c s fitting at (λ pool. absurd (false≢true (sym plain ∙ pool))) other)

  -- ---- a page table

  table-plain : (q : Progress) (t : TableEntry) → slice_get image.tables p.tables ≡ Some t → is_moved image q t.table ≡ false
  table-plain q t at =
      and_left (is_untyped (original_so_far image q t.table)) (list_any (λ c. c.source == t.table) (take q.capabilities image.capabilities))
      (original-untyped image q t.table ∙ no-pool (type_at image t.table) (TableKept.table (formed.table p.tables t at)))

  adds-table : (t : TableEntry) → slice_get image.tables p.tables ≡ Some t
      → slots_of_loaded image (one_table p)
      ≡ recapped (slots_of_loaded image p) (original_slot image t.table)
      (with_table_mapping (original_so_far image p t.table) (Some (record { root = offset_of image t.root; region = t.address / page_size / region_pages })))
  adds-table t at =
      let slot = original_slot image t.table in
      let first = first_of_type (type_at image t.table) (offset_of image t.table) in
      let test = λ (u : TableEntry). u.table == t.table in
      let once = TableKept.once (formed.table p.tables t at) in
      let less = TableFits.table (fitting.table p.tables t at) in
      let inside : t.table < p.objects = omega (arith, less, all) in
      let now = ReadsBoot.original (reads-boot image fitting formed (one_table p) (within-table image p t fitting within at)) t.table inside
      (table-plain (one_table p) t at) in
      let before = ReadsBoot.original (reads-boot image fitting formed p within) t.table inside (table-plain p t at) in
      let unmapped : original_so_far image p t.table ≡ first = ap (λ o. mapped_by image o first) (find-none test (take p.tables image.tables) once) in
      let mapped : original_so_far image (one_table p) t.table ≡ mapped_by image (Some t) first =
      ap (λ o. mapped_by image o first) (find-last test image.tables p.tables t at once (eq-eqb t.table t.table refl)) in
      let capability : original_so_far image (one_table p) t.table ≡ mapped_by image (Some t) (original_so_far image p t.table) =
      mapped ∙ ap (mapped_by image (Some t)) (sym unmapped) in
      let parent : Some (object_at image t.table).untyped ≡ parent_at (slots_of_loaded image p) slot =
      sym (ap (λ (o : Option Entry). option_map_or (λ (held : Entry). held.parent) o None) before) in
      one-changes image p (one_table p) slot (entry (original_so_far image (one_table p) t.table) (Some (object_at image t.table).untyped)) refl now
      (λ s other. other-table image p t s at other)
      ∙ (λ i. with_entry (slots_of_loaded image p) slot (Some (entry (capability i) (parent i))))

  -- ---- a thread

  module _ (t : Thread) (at : slice_get image.threads p.threads ≡ Some t) where
    abbrev x : ℕ
    x = offset_of image t.header.tcb

    threaded : IsWithin image (one_thread p)
    threaded = within-thread image p t fitting within at

    -- without a buffer, the third slot is as any other
    unbuffered-none : (t.header.buffer == no_buffer) ≡ true → (s : ℕ) → s ≢ cspace_slot x → s ≢ vspace_slot x → held_in (thread_holdings image t) s ≡ None
    unbuffered-none none s one two = elim (eqb_tells (buffer_slot x) s) [
      | inl here ↦ ap (held_in (thread_holdings image t)) (sym here.1) ∙ buffer-held image t true none
      | inr apart ↦ thread-apart image t s (λ same. one (sym same)) (λ same. two (sym same)) apart.1
    ]

    adds-thread : slots_of_loaded image (one_thread p) ≡ with_buffer image t (with_spaces image t (slots_of_loaded image p))
    adds-thread =
        let cspace = reads-cspace image fitting formed (one_thread p) threaded all p.threads t (omega arith) at in
        let vspace = reads-vspace image fitting formed (one_thread p) threaded all p.threads t (omega arith) at in
        let spaces = with_spaces image t (slots_of_loaded image p) in
        elim (t.header.buffer == no_buffer) as (λ b. (t.header.buffer == no_buffer) ≡ b
        → slots_of_loaded image (one_thread p) ≡ (if b then spaces else with_entry spaces (buffer_slot x) (Some (buffer_holding image t).1))) [
          | true ↦ λ none.
              two-change image p (one_thread p) (cspace_slot x) (vspace_slot x) (cspace_holding image t).1 (vspace_holding image t).1 refl cspace vspace
              (λ s one two. other-thread image p t s at (unbuffered-none none s one two))
          | false ↦ λ some.
              three-change image p (one_thread p) (cspace_slot x) (vspace_slot x) (buffer_slot x) (cspace_holding image t).1 (vspace_holding image t).1
              (buffer_holding image t).1 refl cspace vspace
              (reads-buffer image fitting formed (one_thread p) threaded all p.threads t (omega arith) at some)
              (λ s one two three.
              other-thread image p t s at (thread-apart image t s (λ same. one (sym same)) (λ same. two (sym same)) (λ same. three (sym same))))
        ] refl

  -- ---- a pool

  module _ (c : CapabilityEntry) (at : slice_get image.capabilities p.capabilities ≡ Some c) (is : is_untyped_type (source_type image c.source) ≡ true) where
    abbrev q : Progress
    q = one_capability p

    abbrev from : ℕ
    from = original_slot image c.source

    abbrev to : ℕ
    to = cnode_slot image c.cnode c.index

    abbrev before : Slots
    before = slots_of_loaded image p

    abbrev parents : Slots
    parents = with_parent before from (Some to)

    abbrev there : Slots
    there = with_entry parents to (before from)

    pool : IsPool image c
    pool = pool-of image c is

    more : IsWithin image q
    more = within-capability image p c fitting within at

    unlisted : list_any (λ x. x.source == c.source) (take p.capabilities image.capabilities) ≡ false
    unlisted = sym (ap (λ b. b && is_listed_before image p.capabilities c.source) is) ∙ CapabilityKept.once (formed.capability p.capabilities c at)

    stays : is_moved image p c.source ≡ false
    stays = and_right (is_untyped (original_so_far image p c.source)) _ unlisted

    goes : is_moved image q c.source ≡ true
    goes = and_from (is_untyped (original_so_far image q c.source)) _ (original-untyped image q c.source ∙ IsPool.untyped pool)
        (any-taken (λ x. x.source == c.source) image.capabilities (suc p.capabilities) p.capabilities c (omega arith) at (eq-eqb c.source c.source refl))

    inside : c.source < p.objects
    inside = let less = IsPool.less pool in omega (arith, less, all)

    held : before from ≡ Some (entry (original_so_far image p c.source) (Some (object_at image c.source).untyped))
    held = ReadsBoot.original (reads-boot image fitting formed p within) c.source inside stays

    moved : slots_of_loaded image q to ≡ before from
    moved = reads-listed image fitting formed q more all p.capabilities c (omega arith) at
        ∙ (λ i. Some (entry (IsPool.source pool p i) (Some (IsPool.parent pool i)))) ∙ sym held

    place : (s : ℕ) → slots_of_loaded image q s ≡ relocated before from to s
    place s = elim (eqb_tells s from) [
      | inl here ↦
          ap (slots_of_loaded image q) here.1 ∙ ReadsEmpty.moved (reads-empty image fitting formed q more) c.source (IsPool.less pool) goes
          ∙ sym (entry-same there from (Some empty_entry)) ∙ ap (with_entry there from (Some empty_entry)) (sym here.1)
      | inr apart ↦ elim (eqb_tells s to) [
        | inl here ↦
            ap (slots_of_loaded image q) here.1 ∙ moved ∙ sym (entry-same parents to (before from)) ∙ ap there (sym here.1)
            ∙ sym (entry-other there from (Some empty_entry) s apart.1)
        | inr other ↦
            read-same image p q s refl (other-capability image p c s fitting at (λ _. apart.1) other.1)
            ∙ sym (unparented image p from (Some to) s (free-holdings image fitting formed c.source (IsPool.less pool) (IsPool.untyped pool) p within))
            ∙ sym (entry-other parents to (before from) s other.1) ∙ sym (entry-other there from (Some empty_entry) s apart.1)
      ]
    ]

    adds-pool : slots_of_loaded image (one_capability p) ≡ relocated (slots_of_loaded image p) (original_slot image c.source) (cnode_slot image c.cnode c.index)
    adds-pool = λ i s. place s i

  pub adds-room : AddsRoom image p
  adds-room = record { listed = adds-listed; pool = adds-pool; table = adds-table; thread = adds-thread }
