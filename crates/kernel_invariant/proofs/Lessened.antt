-- Slots that hold less: a capability goes, or its mapping, or what untyped memory has used.
use Rattle.std.proofs.Common.{ℕ, ◌≡◌, ◌≢◌, ◌∙◌, inl, inr, Bool, true, false, if◌then◌else◌, Option, Some, None, option_map, refl, sym, ap, subst}
use Rattle.std.specs.Prelude.{IsSome}
use Rattle.std.specs.Option.{option_map_or}
use Rattle.std.proofs.lemmas.Bool.Decides.{eqb_tells}
use Rattle.model.specs.Capabilities.CapabilityKinds.{unmapped}
use Rattle.model.specs.Capabilities.Slots.{IsOpen, Slots, adopted, capability_at, closed, empty_entry, is_within, parent_at, recapped, spliced, with_entry}
use Rattle.model.specs.Capabilities.Slots.{with_parent}
use Rattle.model.proofs.SlotChanges.{capability-adopted}
use Rattle.model.specs.Kernel.MappingCalls.{lies_in_region, without_region, without_table}
use Rattle.model.specs.declared.capabilities.Cap.{Cap}
use Rattle.model.specs.declared.capabilities.Cap.TheVariants.{Empty, Untyped, Endpoint, Notification, CNode, Frame, PageTable, Tcb, RootTable, InterruptControl}
use Rattle.model.specs.declared.capabilities.Cap.TheVariants.{InterruptHandler}
use Rattle.model.specs.declared.capabilities.FrameMapping.{FrameMapping}
use Rattle.model.specs.declared.rights.Rights.{Rights}
use Rattle.model.specs.declared.capabilities.TableMapping.{TableMapping}
use Rattle.model.specs.declared.slot_entries.Entry.{Entry}
use Rattle.removal_laws.specs.Steps.{is_under, slots_unmapped, unmapped_at, unused, uprooted, without_root}
use Rattle.vspace.specs.Kept.{IsNamedTable, NamesTable}

names-unmapped : (c : Cap) (table : ℕ) → NamesTable (unmapped c) table → NamesTable c table
names-unmapped (PageTable t (Some m)) table names = inl names
names-unmapped (PageTable t None) table names = names
names-unmapped (Frame f r m) table names = absurd names
names-unmapped (RootTable root) table names = names
names-unmapped Empty table names = names
names-unmapped (Untyped o b w) table names = names
names-unmapped (Endpoint o r b) table names = names
names-unmapped (Notification o r b) table names = names
names-unmapped (CNode o r g) table names = names
names-unmapped (Tcb o) table names = names
names-unmapped InterruptControl table names = names
names-unmapped (InterruptHandler line) table names = names

names-unused : (c : Cap) (table : ℕ) → NamesTable (unused c) table → NamesTable c table
names-unused (Untyped o b w) table names = names
names-unused (PageTable t m) table names = names
names-unused (Frame f r m) table names = names
names-unused (RootTable root) table names = names
names-unused Empty table names = names
names-unused (Endpoint o r b) table names = names
names-unused (Notification o r b) table names = names
names-unused (CNode o r g) table names = names
names-unused (Tcb o) table names = names
names-unused InterruptControl table names = names
names-unused (InterruptHandler line) table names = names

-- no slot was opened, and none names a table that it did not name
pub record Lessened (slots now : Slots) : Type 0 where
  pub closed : (slot : ℕ) → slots slot ≡ None → now slot ≡ None
  pub names : (slot table : ℕ) → NamesTable (capability_at now slot) table → NamesTable (capability_at slots slot) table

pub named-before : (slots now : Slots) → Lessened slots now → (table : ℕ) → IsNamedTable now table → IsNamedTable slots table
named-before slots now less table named = (named.0, less.names named.0 table named.1)

pub open-before : (slots now : Slots) → Lessened slots now → (slot : ℕ) → IsOpen now slot → IsOpen slots slot
open-before slots now less slot is_open = elim (slots slot) as (λ e. slots slot ≡ e → IsOpen slots slot) [
  | None ↦ λ is. absurd (let clash : false ≡ true = subst (λ (x : Option Entry). IsSome x) (less.closed slot is) is_open in cc)
  | Some e ↦ λ is. subst (λ (x : Option Entry). IsSome x) (sym is) refl
] refl

pub less-same : (slots : Slots) → Lessened slots slots
less-same slots = record { closed = λ y is. is; names = λ y table names. names }

pub less-then : (first second third : Slots) → Lessened first second → Lessened second third → Lessened first third
less-then first second third a b = record {
  closed = λ y is. b.closed y (a.closed y is);
  names = λ y table names. a.names y table (b.names y table names);
}

-- ---- the changes of a removal

none-mapped : (held : Option Entry) (change : Entry → Entry) → option_map change held ≡ None → held ≡ None
none-mapped None change is = refl
none-mapped (Some e) change is = absurd (let clash : Some (change e) ≡ None = is in cc)

frame-unmapped : (f : ℕ) (r : Rights) (m : Option FrameMapping) → unmapped (Frame f r m) ≡ Frame f r None
frame-unmapped f r (Some m) = refl
frame-unmapped f r None = refl

abbrev capability_of : Option Entry → Cap
capability_of held = option_map_or (λ e. e.capability) held Empty

-- one slot gets another entry, which names less, if it is open
one-entry : (slots : Slots) (slot : ℕ) (held : Option Entry) → (slots slot ≡ None → held ≡ None)
    → ((table : ℕ) → NamesTable (capability_of held) table → NamesTable (capability_at slots slot) table) → Lessened slots (with_entry slots slot held)
one-entry slots slot held none less = record {
  closed = λ y is. elim (eqb_tells y slot) [
    | inl here ↦ ap (λ b. if b then held else slots y) here.0 ∙ none (ap slots (sym here.1) ∙ is)
    | inr apart ↦ ap (λ b. if b then held else slots y) apart.0 ∙ is
  ];
  names = λ y table names. elim (eqb_tells y slot) [
    | inl here ↦
        subst (λ (n : ℕ). NamesTable (capability_at slots n) table) (sym here.1)
        (less table (subst (λ b. NamesTable (capability_of (if b then held else slots y)) table) here.0 names))
    | inr apart ↦ subst (λ b. NamesTable (capability_of (if b then held else slots y)) table) apart.0 names
  ];
}

-- each slot's entry is changed by itself
each-entry : (slots : Slots) (change : Entry → Entry) →
    ((held : Entry) (table : ℕ) → NamesTable (change held).capability table → NamesTable held.capability table)
    → Lessened slots (λ y. option_map change (slots y))
each-entry slots change less = record {
  closed = λ y is. ap (option_map change) is;
  names = λ y table. elim (slots y) as (λ e. NamesTable (capability_of (option_map change e)) table → NamesTable (capability_of e) table) [
    | None ↦ λ names. names
    | Some e ↦ less e table
  ];
}

open-some : (slots : Slots) (slot : ℕ) → IsOpen slots slot → slots slot ≢ None
open-some slots slot is_open none = let clash : false ≡ true = subst (λ (x : Option Entry). IsSome x) none is_open in cc

-- a capability in an open slot becomes another that names less
pub less-recapped : (slots : Slots) (slot : ℕ) (c : Cap) → IsOpen slots slot → ((table : ℕ) → NamesTable c table → NamesTable (capability_at slots slot) table)
    → Lessened slots (recapped slots slot c)
less-recapped slots slot c is_open less =
    one-entry slots slot (Some (record { capability = c; parent = parent_at slots slot })) (λ is. absurd (open-some slots slot is_open is)) less

pub less-unused : (slots : Slots) (slot : ℕ) → IsOpen slots slot → Lessened slots (recapped slots slot (unused (capability_at slots slot)))
less-unused slots slot is_open = less-recapped slots slot (unused (capability_at slots slot)) is_open (names-unused (capability_at slots slot))

pub less-spliced : (slots : Slots) (slot : ℕ) → IsOpen slots slot → Lessened slots (spliced slots slot)
less-spliced slots slot is_open =
    let children : Lessened slots (with_parent slots slot (parent_at slots slot)) =
    each-entry slots (adopted slot (parent_at slots slot)) (λ held table names.
    subst (λ (c : Cap). NamesTable c table) (capability-adopted slot (parent_at slots slot) (Some held)) names) in
    less-then slots (with_parent slots slot (parent_at slots slot)) (spliced slots slot) children
    (one-entry (with_parent slots slot (parent_at slots slot)) slot (Some empty_entry)
    (λ is. absurd (open-some slots slot is_open (none-mapped (slots slot) (adopted slot (parent_at slots slot)) is))) (λ table names. absurd names))

pub less-closed : (slots : Slots) (slot : ℕ) → Lessened slots (closed slots slot 1)
less-closed slots slot = record {
  closed = λ y is. elim (is_within slot 1 y) as (λ b. (if b then None else slots y) ≡ None) [ true ↦ refl | false ↦ is ];
  names = λ y table. elim (is_within slot 1 y) as (λ b. NamesTable (capability_of (if b then None else slots y)) table →
      NamesTable (capability_at slots y) table) [
        | true ↦ λ names. absurd names
        | false ↦ λ names. names
      ];
}

-- mappings in a region, or under a root table
names-if : (b : Bool) (c : Cap) (table : ℕ) → NamesTable (if b then unmapped c else c) table → NamesTable c table
names-if true c table names = names-unmapped c table names
names-if false c table names = names

pub less-region : (slots : Slots) (region : TableMapping) → Lessened slots (without_region slots region)
less-region slots region = each-entry slots (without_table region)
    (λ held table names. names-if (lies_in_region region held.capability) held.capability table names)

pub less-root : (slots : Slots) (root : ℕ) → Lessened slots (without_root root slots)
less-root slots root = each-entry slots (uprooted root) (λ held table names. names-if (is_under root held.capability) held.capability table names)

held-unmapped : (slots : Slots) (slot : ℕ) (c d : Cap) → c ≡ capability_at slots slot → unmapped c ≡ d → IsOpen slots slot →
    Lessened slots (recapped slots slot d)
held-unmapped slots slot c d is none is_open =
    less-recapped slots slot d is_open (λ table names. subst (λ (x : Cap). NamesTable x table) is
    (names-unmapped c table (subst (λ (x : Cap). NamesTable x table) (sym none) names)))

less-slots_unmapped : (slots : Slots) (slot : ℕ) (c : Cap) → c ≡ capability_at slots slot → (c ≢ Empty → IsOpen slots slot) →
    Lessened slots (slots_unmapped slots slot c)
less-slots_unmapped slots slot (Frame f r m) is opens =
    held-unmapped slots slot (Frame f r m) (Frame f r None) is (frame-unmapped f r m) (opens (λ same. let clash : Frame f r m ≡ Empty = same in cc))
less-slots_unmapped slots slot (PageTable t (Some m)) is opens =
    less-then slots (recapped slots slot (PageTable t None)) (without_region (recapped slots slot (PageTable t None)) m)
    (held-unmapped slots slot (PageTable t (Some m)) (PageTable t None) is refl (opens (λ same. let clash : PageTable t (Some m) ≡ Empty = same in cc)))
    (less-region (recapped slots slot (PageTable t None)) m)
less-slots_unmapped slots slot (PageTable t None) is opens = less-same slots
less-slots_unmapped slots slot (RootTable root) is opens = less-same slots
less-slots_unmapped slots slot Empty is opens = less-same slots
less-slots_unmapped slots slot (Untyped o b w) is opens = less-same slots
less-slots_unmapped slots slot (Endpoint o r b) is opens = less-same slots
less-slots_unmapped slots slot (Notification o r b) is opens = less-same slots
less-slots_unmapped slots slot (CNode o r g) is opens = less-same slots
less-slots_unmapped slots slot (Tcb o) is opens = less-same slots
less-slots_unmapped slots slot InterruptControl is opens = less-same slots
less-slots_unmapped slots slot (InterruptHandler line) is opens = less-same slots

-- what holds something is open
open-held : (slots : Slots) (slot : ℕ) → capability_at slots slot ≢ Empty → IsOpen slots slot
open-held slots slot some = elim (slots slot) as (λ e. capability_of e ≢ Empty → IsSome e) [
  | None ↦ λ held. absurd (held refl)
  | Some e ↦ λ held. refl
] some

pub less-unmapped : (slots : Slots) (slot : ℕ) → Lessened slots (unmapped_at slots slot)
less-unmapped slots slot = less-slots_unmapped slots slot (capability_at slots slot) refl (open-held slots slot)
