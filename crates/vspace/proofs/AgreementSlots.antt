-- A capability without mapping is removed, one is moved, one without tables changes; slots are opened and closed, and
-- bytes beside the tables change: each carries the tables and the mappings along.
use Rattle.std.proofs.Common.{◌≡◌, ◌≢◌, ◌∙◌, ℕ, ◌+◌, ◌*◌, ◌/◌, ◌^◌, ◌<◌, ◌≤◌, ◌==◌, inl, inr, true, false, if◌then◌else◌, Option, Some, None, List, refl, sym}
use Rattle.std.proofs.Common.{ap, subst, arith}
use Rattle.std.specs.Option.{option_map}
use Rattle.std.proofs.lemmas.Bool.{eq-eqb, ne_eqb}
use Rattle.std.proofs.lemmas.Bool.Decides.{eqb_tells}
use Rattle.model.specs.Capabilities.CapabilityKinds.{unmapped}
use Rattle.model.specs.Capabilities.CapabilityWords.{IsCapability}
use Rattle.model.specs.Capabilities.Slots.{IsOpen, Slots, adopted, capability_at, closed, empty_entry, is_within, opened, parent_at, recapped, relocated}
use Rattle.model.specs.Capabilities.Slots.{spliced, with_entry, with_parent}
use Rattle.model.specs.declared.capabilities.Cap.{Cap}
use Rattle.model.specs.declared.capabilities.Cap.TheVariants.{Empty, Frame, PageTable, RootTable}
use Rattle.model.specs.declared.slot_entries.Entry.{Entry}
use Rattle.model.proofs.BytesLemmas.{word_at-same}
use Rattle.model.proofs.SlotChanges.{capability-adopted, capability-opened, capability_of, entry-other, entry-same, within-bounds}
use Rattle.vspace.specs.Agreement.{IsOutsideTables, IsWithoutTables, SameInTables}
use Rattle.vspace.specs.Kept.{IsNamedTable}
use Rattle.vspace.specs.Tables.{Holds, TablesAgree}
use Rattle.vspace.proofs.AgreementCarried.{Carries, Stays, agree-carried, open-some, stays-closed}
use Rattle.vspace.proofs.Steps.{capability-recapped_other, closed-after, held-before}

-- a slot that is not open stays so when parents change
closed-adopted : (gone : ℕ) (parent : Option ℕ) (held : Option Entry) → held ≡ None → option_map (adopted gone parent) held ≡ None
closed-adopted gone parent held none = ap (option_map (adopted gone parent)) none

-- ---- a capability is removed

gone-spliced : (slots : Slots) (x : ℕ) → capability_at (spliced slots x) x ≡ Empty
gone-spliced slots x = ap capability_of (entry-same (with_parent slots x (parent_at slots x)) x (Some empty_entry))

other-spliced : (slots : Slots) (x y : ℕ) → y ≢ x → capability_at (spliced slots x) y ≡ capability_at slots y
other-spliced slots x y other =
    ap capability_of (entry-other (with_parent slots x (parent_at slots x)) x (Some empty_entry) y other)
    ∙ capability-adopted x (parent_at slots x) (slots y)

-- what is held afterwards was held before
before-spliced : (slots : Slots) (x y : ℕ) (v : Cap) → v ≢ Empty → capability_at (spliced slots x) y ≡ v → capability_at slots y ≡ v
before-spliced slots x y v some held = elim (eqb_tells y x) [
  | inl same ↦ absurd (some (sym held ∙ ap (capability_at (spliced slots x)) same.1 ∙ gone-spliced slots x))
  | inr other ↦ sym (other-spliced slots x y other.1) ∙ held
]

-- what has a mapping is held afterwards
after-spliced : (slots : Slots) (x y : ℕ) (v : Cap) → unmapped (capability_at slots x) ≡ capability_at slots x → unmapped v ≢ v → capability_at slots y ≡ v →
    Holds (spliced slots x) v
after-spliced slots x y v none mapped held =
    let differ : y ≢ x = λ same.
    let here : capability_at slots x ≡ v = sym (ap (capability_at slots) same) ∙ held in
    mapped (sym (ap unmapped here) ∙ none ∙ here) in
    (y, other-spliced slots x y differ ∙ held)

valid-spliced : (slots : Slots) (memory : List ℕ) (x : ℕ) → TablesAgree slots memory → (y : ℕ) → IsCapability (capability_at (spliced slots x) y)
valid-spliced slots memory x agree y = elim (eqb_tells y x) [
  | inl same ↦ subst (λ (v : Cap). IsCapability v) (sym (ap (capability_at (spliced slots x)) same.1 ∙ gone-spliced slots x)) tt
  | inr other ↦ subst (λ (v : Cap). IsCapability v) (sym (other-spliced slots x y other.1)) (agree.valid y)
]

closed-spliced : (slots : Slots) (x y : ℕ) → slots x ≢ None → slots y ≡ None → spliced slots x y ≡ None
closed-spliced slots x y some none =
    entry-other (with_parent slots x (parent_at slots x)) x (Some empty_entry) y (λ same. some (sym (ap slots same) ∙ none))
    ∙ closed-adopted x (parent_at slots x) (slots y) none

pub agree-removed : (slots : Slots) (memory : List ℕ) (x : ℕ) → TablesAgree slots memory → IsOpen slots x →
    unmapped (capability_at slots x) ≡ capability_at slots x → TablesAgree (spliced slots x) memory
agree-removed slots memory x agree is_open none =
    let carry : Carries slots (spliced slots x) = record {
      origin = λ y. y;
      one = λ a b fa fb same. same;
      valid = valid-spliced slots memory x agree;
      roots = λ y root held. before-spliced slots x y _ (λ e. cc e) held;
      tables = λ y table m held. before-spliced slots x y _ (λ e. cc e) held;
      frames = λ y frame r m held. before-spliced slots x y _ (λ e. cc e) held;
      kept_tables = λ y table m held. after-spliced slots x y (PageTable table (Some m)) none (λ (e : PageTable table None ≡ PageTable table (Some m)). cc e)
          held;
      kept_frames = λ y frame r m held. after-spliced slots x y (Frame frame r (Some m)) none (λ (e : Frame frame r None ≡ Frame frame r (Some m)). cc e) held;
    } in
    agree-carried slots (spliced slots x) memory memory agree carry
    (stays-closed slots (spliced slots x) memory (λ y. closed-spliced slots x y (open-some slots x is_open)))

-- ---- a capability is moved

-- the slot whose capability a slot has after the move
abbrev origin-moved : ℕ → ℕ → ℕ → ℕ
origin-moved from to y = if y == to then from else y

origin-to : (from to y : ℕ) → y ≡ to → origin-moved from to y ≡ from
origin-to from to y same = ap (λ b. if b then from else y) (eq-eqb y to same)

origin-other : (from to y : ℕ) → y ≢ to → origin-moved from to y ≡ y
origin-other from to y other = ap (λ b. if b then from else y) (ne_eqb y to other)

gone-moved : (slots : Slots) (from to : ℕ) → capability_at (relocated slots from to) from ≡ Empty
gone-moved slots from to = ap capability_of (entry-same (with_entry (with_parent slots from (Some to)) to (slots from)) from (Some empty_entry))

there-moved : (slots : Slots) (from to : ℕ) → from ≢ to → capability_at (relocated slots from to) to ≡ capability_at slots from
there-moved slots from to apart =
    let first : Slots = with_parent slots from (Some to) in
    ap capability_of (entry-other (with_entry first to (slots from)) from (Some empty_entry) to (λ same. apart (sym same)) ∙ entry-same first to (slots from))

other-slot : (slots : Slots) (from to y : ℕ) → y ≢ to → y ≢ from → relocated slots from to y ≡ with_parent slots from (Some to) y
other-slot slots from to y not_to not_from =
    let first : Slots = with_parent slots from (Some to) in
    entry-other (with_entry first to (slots from)) from (Some empty_entry) y not_from ∙ entry-other first to (slots from) y not_to

other-moved : (slots : Slots) (from to y : ℕ) → y ≢ to → y ≢ from → capability_at (relocated slots from to) y ≡ capability_at slots y
other-moved slots from to y not_to not_from =
    ap capability_of (other-slot slots from to y not_to not_from) ∙ capability-adopted from (Some to) (slots y)

-- what is held afterwards was held before, where it came from
before-moved : (slots : Slots) (from to : ℕ) → from ≢ to → (y : ℕ) (v : Cap) → v ≢ Empty → capability_at (relocated slots from to) y ≡ v →
    capability_at slots (origin-moved from to y) ≡ v
before-moved slots from to apart y v some held = elim (eqb_tells y to) [
  | inl here ↦
      ap (capability_at slots) (origin-to from to y here.1)
      ∙ sym (there-moved slots from to apart)
      ∙ sym (ap (capability_at (relocated slots from to)) here.1)
      ∙ held
  | inr not_to ↦ elim (eqb_tells y from) [
    | inl here ↦ absurd (some (sym held ∙ ap (capability_at (relocated slots from to)) here.1 ∙ gone-moved slots from to))
    | inr not_from ↦ ap (capability_at slots) (origin-other from to y not_to.1) ∙ sym (other-moved slots from to y not_to.1 not_from.1) ∙ held
  ]
]

-- what was held before is held afterwards
after-moved : (slots : Slots) (from to : ℕ) → from ≢ to → capability_at slots to ≡ Empty → (y : ℕ) (v : Cap) → v ≢ Empty → capability_at slots y ≡ v →
    Holds (relocated slots from to) v
after-moved slots from to apart empty y v some held = elim (eqb_tells y from) [
  | inl here ↦ (to, there-moved slots from to apart ∙ sym (ap (capability_at slots) here.1) ∙ held)
  | inr not_from ↦
      let not_to : y ≢ to = λ same. some (sym held ∙ ap (capability_at slots) same ∙ empty) in
      (y, other-moved slots from to y not_to not_from.1 ∙ held)
]

-- two slots do not have their capabilities from one
one-moved : (slots : Slots) (from to a b : ℕ) → capability_at (relocated slots from to) a ≢ Empty → capability_at (relocated slots from to) b ≢ Empty →
    origin-moved from to a ≡ origin-moved from to b → a ≡ b
one-moved slots from to a b full_a full_b same =
    let a_stays : a ≢ from = λ here. full_a (ap (capability_at (relocated slots from to)) here ∙ gone-moved slots from to) in
    let b_stays : b ≢ from = λ here. full_b (ap (capability_at (relocated slots from to)) here ∙ gone-moved slots from to) in
    elim (eqb_tells a to) [
      | inl a_here ↦ elim (eqb_tells b to) [
        | inl b_here ↦ a_here.1 ∙ sym b_here.1
        | inr b_other ↦ absurd (b_stays (sym (origin-other from to b b_other.1) ∙ sym same ∙ origin-to from to a a_here.1))
      ]
      | inr a_other ↦ elim (eqb_tells b to) [
        | inl b_here ↦ absurd (a_stays (sym (origin-other from to a a_other.1) ∙ same ∙ origin-to from to b b_here.1))
        | inr b_other ↦ sym (origin-other from to a a_other.1) ∙ same ∙ origin-other from to b b_other.1
      ]
    ]

valid-moved : (slots : Slots) (memory : List ℕ) (from to : ℕ) → TablesAgree slots memory → from ≢ to → (y : ℕ) →
    IsCapability (capability_at (relocated slots from to) y)
valid-moved slots memory from to agree apart y =
    let new : Slots = relocated slots from to in
    elim (eqb_tells y to) [
      | inl here ↦ subst (λ (v : Cap). IsCapability v) (sym (ap (capability_at new) here.1 ∙ there-moved slots from to apart)) (agree.valid from)
      | inr not_to ↦ elim (eqb_tells y from) [
        | inl here ↦ subst (λ (v : Cap). IsCapability v) (sym (ap (capability_at new) here.1 ∙ gone-moved slots from to)) tt
        | inr not_from ↦ subst (λ (v : Cap). IsCapability v) (sym (other-moved slots from to y not_to.1 not_from.1)) (agree.valid y)
      ]
    ]

closed-moved : (slots : Slots) (from to y : ℕ) → slots from ≢ None → slots to ≢ None → slots y ≡ None → relocated slots from to y ≡ None
closed-moved slots from to y from_open to_open none =
    other-slot slots from to y (λ same. to_open (sym (ap slots same) ∙ none)) (λ same. from_open (sym (ap slots same) ∙ none))
    ∙ closed-adopted from (Some to) (slots y) none

pub agree-moved : (slots : Slots) (memory : List ℕ) (from to : ℕ) → TablesAgree slots memory → from ≢ to → IsOpen slots from → IsOpen slots to →
    capability_at slots to ≡ Empty → TablesAgree (relocated slots from to) memory
agree-moved slots memory from to agree apart from_open to_open empty =
    let carry : Carries slots (relocated slots from to) = record {
      origin = origin-moved from to;
      one = one-moved slots from to;
      valid = valid-moved slots memory from to agree apart;
      roots = λ y root held. before-moved slots from to apart y (RootTable root) (λ e. cc e) held;
      tables = λ y table m held. before-moved slots from to apart y (PageTable table m) (λ e. cc e) held;
      frames = λ y frame r m held. before-moved slots from to apart y (Frame frame r (Some m)) (λ e. cc e) held;
      kept_tables = λ y table m held. after-moved slots from to apart empty y (PageTable table (Some m)) (λ e. cc e) held;
      kept_frames = λ y frame r m held. after-moved slots from to apart empty y (Frame frame r (Some m)) (λ e. cc e) held;
    } in
    agree-carried slots (relocated slots from to) memory memory agree carry
    (stays-closed slots (relocated slots from to) memory (λ y. closed-moved slots from to y (open-some slots from from_open) (open-some slots to to_open)))

-- ---- a capability without tables changes

-- a capability that is none of these is held where it was
before-changed : (slots : Slots) (x : ℕ) (c : Cap) (y : ℕ) (v : Cap) → IsWithoutTables c → (IsWithoutTables v → ⊥) → capability_at (recapped slots x c) y ≡ v →
    capability_at slots y ≡ v
before-changed slots x c y v new_plain tables held = elim (held-before slots x c y v held) [
  | inl new ↦ absurd (tables (subst (λ (k : Cap). IsWithoutTables k) new.1 new_plain))
  | inr old ↦ old.1
]

after-changed : (slots : Slots) (x : ℕ) (c : Cap) (y : ℕ) (v : Cap) → IsWithoutTables (capability_at slots x) → (IsWithoutTables v → ⊥) →
    capability_at slots y ≡ v → Holds (recapped slots x c) v
after-changed slots x c y v old_plain tables held =
    let differ : y ≢ x = λ same. tables (subst (λ (k : Cap). IsWithoutTables k) (sym (ap (capability_at slots) same) ∙ held) old_plain) in
    (y, capability-recapped_other slots x c y differ ∙ held)

valid-changed : (slots : Slots) (memory : List ℕ) (x : ℕ) (c : Cap) → TablesAgree slots memory → IsCapability c → (y : ℕ) →
    IsCapability (capability_at (recapped slots x c) y)
valid-changed slots memory x c agree fine y = elim (held-before slots x c y (capability_at (recapped slots x c) y) refl) [
  | inl new ↦ subst (λ (v : Cap). IsCapability v) new.1 fine
  | inr old ↦ subst (λ (v : Cap). IsCapability v) old.1 (agree.valid y)
]

pub agree-changed : (slots : Slots) (memory : List ℕ) (x : ℕ) (c : Cap) → TablesAgree slots memory → IsOpen slots x → IsWithoutTables (capability_at slots x) →
    IsWithoutTables c → IsCapability c → TablesAgree (recapped slots x c) memory
agree-changed slots memory x c agree is_open old_plain new_plain fine =
    let carry : Carries slots (recapped slots x c) = record {
      origin = λ y. y;
      one = λ a b fa fb same. same;
      valid = valid-changed slots memory x c agree fine;
      roots = λ y root held. before-changed slots x c y (RootTable root) new_plain (λ none. none) held;
      tables = λ y table m held. before-changed slots x c y (PageTable table m) new_plain (λ none. none) held;
      frames = λ y frame r m held. before-changed slots x c y (Frame frame r (Some m)) new_plain (λ none. none) held;
      kept_tables = λ y table m held. after-changed slots x c y (PageTable table (Some m)) old_plain (λ none. none) held;
      kept_frames = λ y frame r m held. after-changed slots x c y (Frame frame r (Some m)) old_plain (λ none. none) held;
    } in
    agree-carried slots (recapped slots x c) memory memory agree carry
    (stays-closed slots (recapped slots x c) memory (λ y. closed-after slots x c y (open-some slots x is_open)))

-- ---- slots are opened and closed

-- each slot has the capability that it had
carries-same : (old new : Slots) (memory : List ℕ) → TablesAgree old memory → ((y : ℕ) → capability_at new y ≡ capability_at old y) → Carries old new
carries-same old new memory agree same = record {
  origin = λ y. y;
  one = λ a b fa fb e. e;
  valid = λ y. subst (λ (v : Cap). IsCapability v) (sym (same y)) (agree.valid y);
  roots = λ y root held. sym (same y) ∙ held;
  tables = λ y table m held. sym (same y) ∙ held;
  frames = λ y frame r m held. sym (same y) ∙ held;
  kept_tables = λ y table m held. (y, same y ∙ held);
  kept_frames = λ y frame r m held. (y, same y ∙ held);
}

none-opened : (slots : Slots) (first count table place : ℕ) → IsOutsideTables slots first count → IsNamedTable slots table → table ≤ place →
    place < table + 2 ^ 12 → slots (place / 16) ≡ None → opened slots first count (place / 16) ≡ None
none-opened slots first count table place beside named low high none =
    elim (is_within first count (place / 16)) as (λ b. is_within first count (place / 16) ≡ b → (if b then Some empty_entry else slots (place / 16)) ≡ None) [
      | true ↦ λ inside. absurd
          (elim (beside table place named (within-bounds first count (place / 16) inside).0 (within-bounds first count (place / 16) inside).1) [
            | inl before ↦ omega (arith, before, low)
            | inr behind ↦ omega (arith, behind, high)
          ])
      | false ↦ λ outside. none
    ] refl

stays-opened : (slots : Slots) (memory : List ℕ) (first count : ℕ) → IsOutsideTables slots first count → Stays slots (opened slots first count) memory memory
stays-opened slots memory first count beside = record {
  size = refl;
  stands = λ table named is. record {
    aligned = is.aligned;
    within = is.within;
    outside = λ place low high. none-opened slots first count table place beside named low high (is.outside place low high);
  };
  words = λ table i named is few. refl;
}

pub agree-opened : (slots : Slots) (memory : List ℕ) (first count : ℕ) → TablesAgree slots memory →
    ((slot : ℕ) → first ≤ slot → slot < first + count → slots slot ≡ None) → IsOutsideTables slots first count → TablesAgree (opened slots first count) memory
agree-opened slots memory first count agree none beside =
    let within = λ (y : ℕ) (inside : is_within first count y ≡ true). let at = within-bounds first count y inside in none y at.0 at.1 in
    agree-carried slots (opened slots first count) memory memory agree
    (carries-same slots (opened slots first count) memory agree (λ y. (capability-opened slots first count y within).0))
    (stays-opened slots memory first count beside)

empty-closed : (slots : Slots) (first count y : ℕ) → ((slot : ℕ) → first ≤ slot → slot < first + count → capability_at slots slot ≡ Empty) →
    capability_at (closed slots first count) y ≡ capability_at slots y
empty-closed slots first count y empty =
    elim (is_within first count y) as (λ b. is_within first count y ≡ b → capability_of (if b then None else slots y) ≡ capability_at slots y) [
      | true ↦ λ inside. sym (empty y (within-bounds first count y inside).0 (within-bounds first count y inside).1)
      | false ↦ λ outside. refl
    ] refl

none-closed : (slots : Slots) (first count y : ℕ) → slots y ≡ None → closed slots first count y ≡ None
none-closed slots first count y none =
    elim (is_within first count y) as (λ b. (if b then None else slots y) ≡ None) [ true ↦ refl | false ↦ none ]

pub agree-closed : (slots : Slots) (memory : List ℕ) (first count : ℕ) → TablesAgree slots memory →
    ((slot : ℕ) → first ≤ slot → slot < first + count → capability_at slots slot ≡ Empty) → TablesAgree (closed slots first count) memory
agree-closed slots memory first count agree empty =
    agree-carried slots (closed slots first count) memory memory agree
    (carries-same slots (closed slots first count) memory agree (λ y. empty-closed slots first count y empty))
    (stays-closed slots (closed slots first count) memory (none-closed slots first count))

-- ---- bytes beside the tables change

stays-beside : (slots : Slots) (before after : List ℕ) → SameInTables slots before after → Stays slots slots before after
stays-beside slots before after same = record {
  size = same.size;
  stands = λ table named is. record {
    aligned = is.aligned;
    within = omega (arith, is.within, same.size);
    outside = is.outside;
  };
  words = λ table i named is few. word_at-same before after (table + 4 * i)
      (λ k low high. same.bytes table k named (omega (arith, low)) (omega (arith, high, few)));
}

pub agree-beside : (slots : Slots) (before after : List ℕ) → TablesAgree slots before → SameInTables slots before after → TablesAgree slots after
agree-beside slots before after agree same =
    agree-carried slots slots before after agree (carries-same slots slots before agree (λ y. refl)) (stays-beside slots before after same)
