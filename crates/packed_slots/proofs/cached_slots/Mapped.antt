-- Mappings stay where slots change beside them, and move with their capability.
use Rattle.std.proofs.Common.{ℕ, ◌≡◌, ◌≢◌, ◌∙◌, ◌+◌, ◌<◌, ◌≤◌, inl, inr, not, Option, Some, None, List, sym, ap}
use Rattle.std.proofs.Math.Logic.{∥∥₁_map}
use Rattle.std.proofs.lemmas.Bool.Decides.{eqb_tells}
use Rattle.packed_slots.specs.cached_slots.Mappings.{AreMapped, AreMappedBeside, IsMapped}
use Rattle.model.proofs.SlotChanges.{capability-adopted, capability-closed, capability-opened, capability_of, entry-other, entry-same, full-not-empty}
use Rattle.model.proofs.SlotChanges.{within-bounds}
use Rattle.model.specs.Capabilities.Slots.{IsFull, Slots, capability_at, closed, empty_entry, inserted, is_empty, opened, parent_at, recapped, relocated}
use Rattle.model.specs.Capabilities.Slots.{spliced, with_entry, with_parent}
use Rattle.model.specs.declared.capabilities.Cap.{Cap}
use Rattle.model.specs.declared.slot_entries.Entry.{Entry}
use Rattle.packed_slots.specs.declared.cached_slots.caches.TlbEntry.{TlbEntry}

-- ---- one mapping

-- a slot that maps a frame is full
mapped-full : (slots : Slots) (root page leaf : ℕ) (m : IsMapped slots root page leaf) → IsFull slots m.maps.slot
mapped-full slots root page leaf m = ap (λ (c : Cap). not (is_empty c)) m.maps.capability

-- the same capability is in this slot
mapped-in : (old new : Slots) (root page leaf slot : ℕ) (m : IsMapped old root page leaf) → capability_at new slot ≡ capability_at old m.maps.slot →
    IsMapped new root page leaf
mapped-in old new root page leaf slot m same = record {
  frame = m.frame;
  allowed = m.allowed;
  maps = record { slot = slot; frame_rights = m.maps.frame_rights; capability = same ∙ m.maps.capability };
  word = m.word;
}

-- ---- all that are kept

-- each capability is in some slot
are-mapped : (old new : Slots) (entries : List (Option TlbEntry)) → ((s : ℕ) → IsFull old s → (t : ℕ) × (capability_at new t ≡ capability_at old s))
    → AreMapped old entries → AreMapped new entries
are-mapped old new entries stands mapped = record {
  each = λ place kept is. ∥∥₁_map (mapped.each place kept is) (λ m.
      let there = stands m.maps.slot (mapped-full old kept.root kept.page kept.leaf m) in
      mapped-in old new kept.root kept.page kept.leaf there.0 m there.1);
}

pub mapped-opened : (slots : Slots) (entries : List (Option TlbEntry)) (first count : ℕ) → ((s : ℕ) → first ≤ s → s < first + count → slots s ≡ None)
    → AreMapped slots entries → AreMapped (opened slots first count) entries
mapped-opened slots entries first count none mapped =
    are-mapped slots (opened slots first count) entries
    (λ s full. (s, (capability-opened slots first count s (λ t is. let within = within-bounds first count t is in none t within.0 within.1)).0)) mapped

pub mapped-closed : (slots : Slots) (entries : List (Option TlbEntry)) (first count : ℕ) →
    ((s : ℕ) → first ≤ s → s < first + count → slots s ≡ Some empty_entry)
    → AreMapped slots entries → AreMapped (closed slots first count) entries
mapped-closed slots entries first count empty mapped =
    are-mapped slots (closed slots first count) entries
    (λ s full. (s, (capability-closed slots first count s (λ t is. let within = within-bounds first count t is in empty t within.0 within.1)).0)) mapped

pub mapped-inserted : (slots : Slots) (entries : List (Option TlbEntry)) (slot : ℕ) (capability : Cap) (parent : Option ℕ) → slots slot ≡ Some empty_entry
    → AreMapped slots entries → AreMapped (inserted slots slot capability parent) entries
mapped-inserted slots entries slot capability parent empty mapped =
    let held : Option Entry = Some (record { capability = capability; parent = parent }) in
    are-mapped slots (inserted slots slot capability parent) entries
    (λ s full. (s, ap capability_of (entry-other slots slot held s (full-not-empty slots s slot full empty)))) mapped

module _ (slots : Slots) (from to : ℕ) (full : IsFull slots from) (empty : slots to ≡ Some empty_entry) where
  abbrev adopted_slots : Slots
  adopted_slots = with_parent slots from (Some to)

  abbrev put_slots : Slots
  put_slots = with_entry adopted_slots to (slots from)

  stands-moved : (s : ℕ) → IsFull slots s → (t : ℕ) × (capability_at (relocated slots from to) t ≡ capability_at slots s)
  stands-moved s is_full = elim (eqb_tells s from) [
    | inl here ↦ (
      to,
      ap capability_of (entry-other put_slots from (Some empty_entry) to (λ same. full-not-empty slots from to full empty (sym same)))
          ∙ ap capability_of (entry-same adopted_slots to (slots from)) ∙ sym (ap (capability_at slots) here.1),
    )
    | inr other ↦ (
      s,
      ap capability_of (entry-other put_slots from (Some empty_entry) s other.1)
          ∙ ap capability_of (entry-other adopted_slots to (slots from) s (full-not-empty slots s to is_full empty))
          ∙ capability-adopted from (Some to) (slots s),
    )
  ]

  pub mapped-relocated : (entries : List (Option TlbEntry)) → AreMapped slots entries → AreMapped (relocated slots from to) entries
  mapped-relocated entries mapped = are-mapped slots (relocated slots from to) entries stands-moved mapped

-- ---- a slot whose mapping is not kept changes

are-left : (old new : Slots) (gone : ℕ) (entries : List (Option TlbEntry)) → ((s : ℕ) → s ≢ gone → capability_at new s ≡ capability_at old s)
    → AreMappedBeside old gone entries → AreMapped new entries
are-left old new gone entries same mapped = record {
  each = λ place kept is. ∥∥₁_map (mapped.each place kept is) (λ m.
      mapped-in old new kept.root kept.page kept.leaf m.mapped.maps.slot m.mapped (same m.mapped.maps.slot m.other));
}

pub mapped-recapped : (slots : Slots) (entries : List (Option TlbEntry)) (slot : ℕ) (capability : Cap) → AreMappedBeside slots slot entries
    → AreMapped (recapped slots slot capability) entries
mapped-recapped slots entries slot capability mapped =
    let held : Option Entry = Some (record { capability = capability; parent = parent_at slots slot }) in
    are-left slots (recapped slots slot capability) slot entries (λ s other. ap capability_of (entry-other slots slot held s other)) mapped

pub mapped-spliced : (slots : Slots) (entries : List (Option TlbEntry)) (slot : ℕ) → AreMappedBeside slots slot entries → AreMapped (spliced slots slot) entries
mapped-spliced slots entries slot mapped =
    let above : Option ℕ = parent_at slots slot in
    are-left slots (spliced slots slot) slot entries
    (λ s other. ap capability_of (entry-other (with_parent slots slot above) slot (Some empty_entry) s other) ∙ capability-adopted slot above (slots s)) mapped
