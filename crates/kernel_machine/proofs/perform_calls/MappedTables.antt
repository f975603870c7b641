-- What calls on frames and page tables leave is what their definitions say, and whole.
use Rattle.std.proofs.Common.{ℕ, ◌≡◌, ◌∙◌, ◌||◌, ◌+◌, ◌/◌, ◌%◌, ◌^◌, ◌≤◌, ◌==◌, inl, inr, true, false, not, nat_lt, if◌then◌else◌, Option, Some, None, IsSome}
use Rattle.std.proofs.Common.{List, length, Result, Ok, Err, refl, sym, ap, subst}
use Rattle.std.specs.Option.{option_map_or}
use Rattle.std.specs.Prelude.{OnErr}
use Rattle.std.proofs.lemmas.Bool.Decides.{eqb_tells}
use Rattle.kernel_invariant.proofs.Laws.{Lessened, less-unmapped, put-closes, put-named, unmapped-agrees, unmapped-stands, unmapped-state}
use Rattle.kernel_invariant.specs.Agreement.{Agrees}
use Rattle.kernel_invariant.specs.Wholeness.{IsWhole}
use Rattle.model.specs.Kernel.Outcomes.{Gives, GivesState}
use Rattle.kernel_machine.proofs.perform_calls.Lent.{IsLent}
use Rattle.kernel_machine.proofs.perform_calls.Roots.{held-at}
use Rattle.kernel_machine.proofs.perform_calls.Standing.{Whole}
use Rattle.model.proofs.Ancestors.{full-open}
use Rattle.model.specs.Capabilities.CapabilityKinds.{frame_mapping, table_mapping, unmapped, with_frame_mapping, with_table_mapping}
use Rattle.model.specs.Capabilities.Rights.{mapping_rights, may_execute, may_read}
use Rattle.model.specs.Capabilities.Slots.{IsOpen, Slots, capability_at, parent_at, recapped}
use Rattle.model.specs.Kernel.AddressSpaces.{address_limit, is_page_taken, is_region_taken, page_size, region_pages, region_size}
use Rattle.model.specs.Kernel.Arguments.{Call, check}
use Rattle.model.specs.Kernel.Kinds.{kind_at, piece_of}
use Rattle.model.specs.Kernel.MappingCalls.{is_mapped, map_frame, map_table, root_named, unmap_frame, unmap_table}
use Rattle.model.specs.Kernel.Retype.{NewRootTable}
use Rattle.model.specs.Kernel.Soundness.{IsSound}
use Rattle.model.specs.Kernel.State.{State, with_slots}
use Rattle.model.specs.declared.capabilities.Cap.{Cap}
use Rattle.model.specs.declared.capabilities.Cap.TheVariants.{Empty, Frame, PageTable}
use Rattle.model.specs.declared.capabilities.FrameMapping.{FrameMapping}
use Rattle.model.specs.declared.capabilities.TableMapping.{TableMapping}
use Rattle.model.specs.declared.errors.KError.{KError}
use Rattle.model.specs.declared.errors.KError.TheVariants.{AlignmentError, DeleteFirst, FailedLookup, InvalidArgument, InvalidCapability}
use Rattle.model.specs.declared.invocations.FrameCall.TheVariants.{MapFrame, UnmapFrame}
use Rattle.model.specs.declared.invocations.SlotName.{SlotName}
use Rattle.model.specs.declared.invocations.TableCall.TheVariants.{MapTable, UnmapTable}
use Rattle.model.specs.declared.rights.Rights.{Rights}
use Rattle.model.specs.declared.slot_entries.Entry.{Entry}
use Rattle.objects.specs.Tables.{Tables, state_of}
use Rattle.removal_laws.proofs.Laws.{root-kind}
use Rattle.removal_laws.specs.Steps.{slots_unmapped, unmapped_at}
use Rattle.soundness.proofs.Laws.{frame-sound, full-near, invoked-at, passes-both, table-sound}
use Rattle.soundness.specs.Calls.{IsCall}
use Rattle.vspace.specs.Answers.{GivesMapped}
use Rattle.vspace.specs.Kept.{IsNamedTable, NamesTable, SameBesideTables}
use Rattle.vspace.specs.TableAnswers.{GivesTableMapped}
use Rattle.vspace.specs.Tables.{AreNear, TablesAgree}

-- ---- the state

-- an error as a result of some type
abbrev refused : (A : Type 0) → KError → Result A KError
refused A e = Err e

pub all-near : (o : Tables) (slots : Slots) (memory : List ℕ) → IsSound (state_of o slots memory) → AreNear (state_of o slots memory) slots
unfolding state_of
all-near o slots memory sound = λ slot full. full-near (state_of o slots memory) sound.shape sound.slots sound.memory slot full

module _ (o : Tables) (slots now : Slots) (old new : List ℕ) (whole : IsWhole o slots old) (same : SameBesideTables slots old new)
    (tables : TablesAgree now new)
    (sound : IsSound (with_slots (state_of o slots old) now)) where
  open-before : ((slot : ℕ) → slots slot ≡ None → now slot ≡ None) → (slot : ℕ) → IsOpen now slot → IsOpen slots slot
  open-before closes slot is_open = elim (slots slot) as (λ e. slots slot ≡ e → IsOpen slots slot) [
    | None ↦ λ is. absurd (let clash : false ≡ true = subst (λ (x : Option Entry). IsSome x) (closes slot is) is_open in cc)
    | Some e ↦ λ is. subst (λ (x : Option Entry). IsSome x) (sym is) refl
  ] refl

  after : state_of o now new ≡ with_slots (state_of o slots old) now
  after = unmapped-state o slots now old new (whole.agrees, whole.stands) same

  -- where a mapping came: no slot was opened, and no other table is named
  mapped-whole : ((slot : ℕ) → slots slot ≡ None → now slot ≡ None) → ((table : ℕ) → IsNamedTable now table → IsNamedTable slots table) → IsWhole o now new
  unfolding state_of
  mapped-whole closes names = record {
    sound = subst IsSound (sym after) sound;
    agrees = subst (λ (t : State). Agrees t new) (sym after) (record {
      tables = tables;
      size = whole.agrees.size ∙ sym same.size;
      slots = λ place is_open. whole.agrees.slots place (open-before closes (place / 16) is_open);
      frames = λ table place named low high. whole.agrees.frames table place (names table named) low high;
      records = λ table place offset kind named low high there kept. whole.agrees.records table place offset kind (names table named) low high there kept;
    });
    stands = unmapped-stands o slots now old new (whole.agrees, whole.stands) same closes;
  }

-- ---- frames

-- a frame lies in memory
pub frame-within : (o : Tables) (slots : Slots) (memory : List ℕ) (slot offset : ℕ) (held : Rights) (mapping : Option FrameMapping) → IsWhole o slots memory
    → capability_at slots slot ≡ Frame offset held mapping → offset + 2 ^ 12 ≤ length memory
unfolding state_of
frame-within o slots memory slot offset held mapping whole is =
    let inside : offset + 2 ^ 12 ≤ 2 ^ (state_of o slots memory).memory_bits =
    (whole.sound.memory.inside slot (record { first = offset; size = 2 ^ 12 }) (ap piece_of is)).1 in
    subst (λ (n : ℕ). offset + 2 ^ 12 ≤ n) whole.agrees.size inside

names-none : (c : Cap) (offset : ℕ) (r : Rights) (before after : Option FrameMapping) (table : ℕ) → c ≡ Frame offset r before →
    NamesTable (with_frame_mapping c after) table → ⊥
names-none c offset r before after table is names = subst (λ (k : Cap). NamesTable (with_frame_mapping k after) table) is names

module _ (o : Tables) (slots now : Slots) (old new : List ℕ) (call : Call) (offset : ℕ) (held : Rights) (mapping : Option FrameMapping)
    (whole : IsWhole o slots old) (is_call : IsCall (state_of o slots old) call) (is : call.capability ≡ Frame offset held mapping)
    (same : SameBesideTables slots old new) (tables : TablesAgree now new) where
  abbrev s : State
  s = state_of o slots old

  frame-whole : (name : SlotName) (address word : ℕ) → map_frame s call held name address word ≡ Ok (with_slots s now) → IsWhole o now new
  unfolding state_of
  frame-whole name address word done =
      let allowed = mapping_rights held word in
      let one = passes-both (check (not (is_mapped (frame_mapping call.capability))) InvalidCapability) _ _ done in
      let two = passes-both (root_named slots call.root name) _ _ one.rest in
      let root = two.value in
      let three = passes-both (check (nat_lt address address_limit) InvalidArgument) _ _ two.rest in
      let four = passes-both (check (address % page_size == 0) AlignmentError) _ _ three.rest in
      let five = passes-both (check (is_region_taken s root (address / page_size / region_pages)) FailedLookup) _ _ four.rest in
      let six = passes-both (check (not (is_page_taken s root (address / page_size))) DeleteFirst) _ _ five.rest in
      let seven = passes-both (check (may_read allowed || may_execute allowed) InvalidArgument) _ _ six.rest in
      let m : FrameMapping = record { root = root; page = address / page_size; rights = allowed } in
      let made : Cap = with_frame_mapping call.capability (Some m) in
      let e : with_slots s (recapped slots call.slot made) ≡ with_slots s now = cc seven.rest in
      let at = invoked-at s call (Frame offset held mapping) is_call.invoked is refl in
      let slots_are : recapped slots call.slot made ≡ now = ap (λ (t : State). t.slots) e in
      mapped-whole o slots now old new whole same tables
      (frame-sound s (with_slots s now) call offset held mapping (MapFrame name address word) whole.sound is_call is done)
      (subst (λ (n : Slots). (slot : ℕ) → slots slot ≡ None → n slot ≡ None) slots_are
      (put-closes slots call.slot made (parent_at slots call.slot) (full-open slots call.slot at.full)))
      (subst (λ (n : Slots). (table : ℕ) → IsNamedTable n table → IsNamedTable slots table) slots_are
      (λ table named. put-named slots call.slot made (parent_at slots call.slot) table
      (λ names. absurd (names-none call.capability offset held mapping (Some m) table is names)) named))

  frame-given : {A : Type 0} (name : SlotName) (address word : ℕ) (result : Result A KError)
      → GivesMapped slots call.root call.slot offset held mapping name address word now result → Gives (map_frame s call held name address word) s now result
  unfolding state_of
  frame-given name address word result gives =
      subst (λ (c : Cap). Gives (map_frame s (record call { capability = c }) held name address word) s now result) (sym is)
      (gives s call.caller (all-near o slots old whole.sound))

mapped-at : {A S : Type 0} (slots_in : S → Slots) (memory_in : S → List ℕ) (o : Tables) (store now : S) (call : Call) (offset : ℕ) (held : Rights)
    (mapping : Option FrameMapping)
    (name : SlotName) (address word : ℕ) (result : Result A KError) → Whole slots_in memory_in o store →
    IsCall (state_of o (slots_in store) (memory_in store)) call
    → call.capability ≡ Frame offset held mapping → SameBesideTables (slots_in store) (memory_in store) (memory_in now) →
    TablesAgree (slots_in now) (memory_in now)
    → OnErr result (now ≡ store) → GivesMapped (slots_in store) call.root call.slot offset held mapping name address word (slots_in now) result
    → GivesState (map_frame (state_of o (slots_in store) (memory_in store)) call held name address word) result (state_of o (slots_in now) (memory_in now))
    × Whole slots_in memory_in o now
mapped-at slots_in memory_in o store now call offset held mapping name address word (Ok x) whole is_call is same tables unchanged gives =
    let done = frame-given o (slots_in store) (slots_in now) (memory_in store) (memory_in now) call offset held mapping whole is_call is same tables name
    address word (Ok x) gives in (
      done ∙ ap (λ (t : State). Ok t)
          (sym (unmapped-state o (slots_in store) (slots_in now) (memory_in store) (memory_in now) (whole.agrees, whole.stands) same)),
      frame-whole o (slots_in store) (slots_in now) (memory_in store) (memory_in now) call offset held mapping whole is_call is same tables name address word
          done,
    )
mapped-at {A} {S} slots_in memory_in o store now call offset held mapping name address word (Err e) whole is_call is same tables unchanged gives = (
  frame-given o (slots_in store) (slots_in now) (memory_in store) (memory_in now) call offset held mapping whole is_call is same tables {A = A} name address
      word (Err e) gives,
  subst (λ x. Whole slots_in memory_in o x) (sym unchanged) whole,
)

-- what the call that maps a frame leaves
pub frame-mapped : {A S : Type 0} {slots_in : S → Slots} {memory_in : S → List ℕ} {o : Tables} {store : S} {call : Call}
    → IsLent slots_in memory_in o store call
    → (now : S) (slot offset : ℕ) (r held : Rights) (mapping : Option FrameMapping) (name : SlotName) (address word : ℕ) (result : Result A KError)
    → slot ≡ call.slot → r ≡ held → call.capability ≡ Frame offset r mapping → SameBesideTables (slots_in store) (memory_in store) (memory_in now) →
    TablesAgree (slots_in now) (memory_in now)
    → OnErr result (now ≡ store) → GivesMapped (slots_in store) call.root slot offset r mapping name address word (slots_in now) result
    → GivesState (map_frame (state_of o (slots_in store) (memory_in store)) call held name address word) result (state_of o (slots_in now) (memory_in now))
    × Whole slots_in memory_in o now
frame-mapped {slots_in = slots_in} {memory_in} {o} {store} {call} lent now slot offset r held mapping name address word result at same_rights is same tables
    unchanged gives =
    mapped-at slots_in memory_in o store now call offset held mapping name address word result lent.whole lent.is_call
    (is ∙ ap (λ (x : Rights). Frame offset x mapping) same_rights) same tables unchanged
    (subst (λ (x : Rights). GivesMapped (slots_in store) call.root call.slot offset x mapping name address word (slots_in now) result) same_rights
    (subst (λ (n : ℕ). GivesMapped (slots_in store) call.root n offset r mapping name address word (slots_in now) result) at gives))

frame-without : (offset : ℕ) (r : Rights) (mapping : Option FrameMapping) → unmapped (Frame offset r mapping) ≡ Frame offset r None
frame-without offset r None = refl
frame-without offset r (Some m) = refl

frame-taken : (o : Tables) (slots now : Slots) (memory : List ℕ) (call : Call) (offset : ℕ) (held : Rights) (mapping : Option FrameMapping) →
    capability_at slots call.slot ≡ Frame offset held mapping
    → call.capability ≡ Frame offset held mapping → now ≡ unmapped_at slots call.slot →
    unmap_frame (state_of o slots memory) call ≡ with_slots (state_of o slots memory) now
unfolding state_of
frame-taken o slots now memory call offset held mapping at is removed =
    let s : State = state_of o slots memory in
    ap (λ (c : Cap). with_slots s (recapped slots call.slot (unmapped c))) is
    ∙ ap (λ (c : Cap). with_slots s (recapped slots call.slot c)) (frame-without offset held mapping)
    ∙ ap (λ (n : Slots). with_slots s n) (sym (removed ∙ ap (λ (c : Cap). slots_unmapped slots call.slot c) at))

-- what the call that unmaps a frame leaves
pub frame-unmapped : {S : Type 0} {slots_in : S → Slots} {memory_in : S → List ℕ} {o : Tables} {store : S} {call : Call}
    → IsLent slots_in memory_in o store call → (now : S) (offset : ℕ) (held : Rights) (mapping : Option FrameMapping)
    → call.capability ≡ Frame offset held mapping → slots_in now ≡ unmapped_at (slots_in store) call.slot
    → SameBesideTables (slots_in store) (memory_in store) (memory_in now) → TablesAgree (slots_in now) (memory_in now)
    → (unmap_frame (state_of o (slots_in store) (memory_in store)) call ≡ state_of o (slots_in now) (memory_in now)) × Whole slots_in memory_in o now
frame-unmapped {slots_in = slots_in} {memory_in} {o} {store} {call} lent now offset held mapping is removed same tables =
    let whole = lent.whole in
    let is_call = lent.is_call in
    let s : State = state_of o (slots_in store) (memory_in store) in
    let at = held-at o (slots_in store) (memory_in store) call (Frame offset held mapping) is_call is refl in
    let state = unmapped-state o (slots_in store) (slots_in now) (memory_in store) (memory_in now) (whole.agrees, whole.stands) same in
    let agreed = unmapped-agrees o (slots_in store) (slots_in now) (memory_in store) (memory_in now) (whole.agrees, whole.stands) same tables
    (subst (λ (n : Slots). Lessened (slots_in store) n) (sym removed) (less-unmapped (slots_in store) call.slot)) in
    let done = frame-taken o (slots_in store) (slots_in now) (memory_in store) call offset held mapping at is removed in (
      done ∙ sym state,
      record {
        sound = subst IsSound (sym state) (frame-sound s (with_slots s (slots_in now)) call offset held mapping UnmapFrame whole.sound is_call is
            (ap (λ (t : State). Ok t) done));
        agrees = agreed.0;
        stands = agreed.1;
      },
    )

-- ---- page tables

recapped-here : (slots : Slots) (slot : ℕ) (c : Cap) → capability_at (recapped slots slot c) slot ≡ c
recapped-here slots slot c = elim (eqb_tells slot slot) [
  | inl here ↦ ap (λ b. option_map_or (λ (h : Entry). h.capability) (if b then Some (record { capability = c; parent = parent_at slots slot }) else slots slot)
      Empty) here.0
  | inr apart ↦ absurd (apart.1 refl)
]

own-table : (offset : ℕ) (mapping : Option TableMapping) → NamesTable (PageTable offset mapping) offset
own-table offset None = refl
own-table offset (Some m) = inl refl

-- a page table that is mapped under a root table names what was named already
table-names : (slots : Slots) (slot offset root : ℕ) (before : Option TableMapping) (m : TableMapping) (c : Cap) →
    capability_at slots slot ≡ PageTable offset before
    → c ≡ PageTable offset before → IsNamedTable slots m.root → (table : ℕ) → NamesTable (with_table_mapping c (Some m)) table → IsNamedTable slots table
table-names slots slot offset root before m c at is rooted table names =
    elim (subst (λ (k : Cap). NamesTable (with_table_mapping k (Some m)) table) is names) [
      | inl own ↦ subst (λ (n : ℕ). IsNamedTable slots n) (sym own) (slot, subst (λ (k : Cap). NamesTable k offset) (sym at) (own-table offset before))
      | inr other ↦ subst (λ (n : ℕ). IsNamedTable slots n) (sym other) rooted
    ]

module _ (o : Tables) (slots now : Slots) (old new : List ℕ) (call : Call) (offset : ℕ) (mapping : Option TableMapping)
    (whole : IsWhole o slots old) (is_call : IsCall (state_of o slots old) call) (is : call.capability ≡ PageTable offset mapping)
    (same : SameBesideTables slots old new) (tables : TablesAgree now new) where
  abbrev before : State
  before = state_of o slots old

  -- a root table under which something is mapped has a capability
  root-named : (root : ℕ) → kind_at before root ≡ Some NewRootTable → IsNamedTable slots root
  unfolding state_of
  root-named root there =
      let live = whole.sound.memory.live root NewRootTable there in
      (live.0, subst (λ (c : Cap). NamesTable c root) (sym (root-kind (capability_at slots live.0) root live.1)) refl)

  table-whole : (name : SlotName) (address : ℕ) → map_table before call name address ≡ Ok (with_slots before now) → IsWhole o now new
  unfolding state_of
  table-whole name address done =
      let one = passes-both (check (not (is_mapped (table_mapping call.capability))) InvalidCapability) _ _ done in
      let two = passes-both (root_named slots call.root name) _ _ one.rest in
      let root = two.value in
      let three = passes-both (check (nat_lt address address_limit) InvalidArgument) _ _ two.rest in
      let four = passes-both (check (address % region_size == 0) AlignmentError) _ _ three.rest in
      let five = passes-both (check (not (is_region_taken before root (address / region_size))) DeleteFirst) _ _ four.rest in
      let m : TableMapping = record { root = root; region = address / region_size } in
      let made : Cap = with_table_mapping call.capability (Some m) in
      let e : with_slots before (recapped slots call.slot made) ≡ with_slots before now = cc five.rest in
      let at = invoked-at before call (PageTable offset mapping) is_call.invoked is refl in
      let slots_are : recapped slots call.slot made ≡ now = ap (λ (t : State). t.slots) e in
      let sound = table-sound before (with_slots before now) call offset mapping (MapTable name address) whole.sound is_call is done in
      let here : capability_at now call.slot ≡ made = ap (λ (n : Slots). capability_at n call.slot) (sym slots_are) ∙ recapped-here slots call.slot made in
      let mapped : table_mapping (capability_at now call.slot) ≡ Some m = ap table_mapping here
      ∙ ap (λ (c : Cap). table_mapping (with_table_mapping c (Some m))) is in
      let rooted = root-named root (sound.mappings.table_root call.slot m mapped) in
      mapped-whole o slots now old new whole same tables sound
      (subst (λ (n : Slots). (slot : ℕ) → slots slot ≡ None → n slot ≡ None) slots_are
      (put-closes slots call.slot made (parent_at slots call.slot) (full-open slots call.slot at.full)))
      (subst (λ (n : Slots). (table : ℕ) → IsNamedTable n table → IsNamedTable slots table) slots_are
      (λ table named. put-named slots call.slot made (parent_at slots call.slot) table
      (table-names slots call.slot offset root mapping m call.capability at.at is rooted table) named))

  table-given : {A : Type 0} (name : SlotName) (address : ℕ) (result : Result A KError)
      → GivesTableMapped slots call.root call.slot offset mapping name address now result → Gives (map_table before call name address) before now result
  unfolding state_of
  table-given name address result gives =
      subst (λ (c : Cap). Gives (map_table before (record call { capability = c }) name address) before now result) (sym is)
      (gives before call.caller (all-near o slots old whole.sound))

-- what the call that maps a page table leaves
pub table-mapped : {A S : Type 0} {slots_in : S → Slots} {memory_in : S → List ℕ} {o : Tables} {store : S} {call : Call}
    → IsLent slots_in memory_in o store call
    → (now : S) (slot offset : ℕ) (mapping : Option TableMapping) (name : SlotName) (address : ℕ) (result : Result A KError) → slot ≡ call.slot
    → call.capability ≡ PageTable offset mapping → SameBesideTables (slots_in store) (memory_in store) (memory_in now) →
    TablesAgree (slots_in now) (memory_in now)
    → OnErr result (now ≡ store) → GivesTableMapped (slots_in store) call.root slot offset mapping name address (slots_in now) result
    → GivesState (map_table (state_of o (slots_in store) (memory_in store)) call name address) result (state_of o (slots_in now) (memory_in now))
    × Whole slots_in memory_in o now
table-mapped {slots_in = slots_in} {memory_in} {o} {store} {call} lent now slot offset mapping name address (Ok x) at is same tables unchanged gives =
    let whole = lent.whole in
    let is_call = lent.is_call in
    let done = table-given o (slots_in store) (slots_in now) (memory_in store) (memory_in now) call offset mapping whole is_call is same tables name address
    (Ok x)
    (subst (λ (n : ℕ). GivesTableMapped (slots_in store) call.root n offset mapping name address (slots_in now) (Ok x)) at gives) in (
      done ∙ ap (λ (t : State). Ok t)
          (sym (unmapped-state o (slots_in store) (slots_in now) (memory_in store) (memory_in now) (whole.agrees, whole.stands) same)),
      table-whole o (slots_in store) (slots_in now) (memory_in store) (memory_in now) call offset mapping whole is_call is same tables name address done,
    )
table-mapped {A} {slots_in = slots_in} {memory_in} {o} {store} {call} lent now slot offset mapping name address (Err e) at is same tables unchanged gives = (
  table-given o (slots_in store) (slots_in now) (memory_in store) (memory_in now) call offset mapping lent.whole lent.is_call is same tables {A = A} name
      address (Err e)
      (subst (λ (n : ℕ). GivesTableMapped (slots_in store) call.root n offset mapping name address (slots_in now) (refused A e)) at gives),
  subst (λ x. Whole slots_in memory_in o x) (sym unchanged) lent.whole,
)

table-taken : (o : Tables) (slots now : Slots) (memory : List ℕ) (call : Call) (offset : ℕ) (mapping : Option TableMapping) →
    capability_at slots call.slot ≡ PageTable offset mapping
    → call.capability ≡ PageTable offset mapping → now ≡ unmapped_at slots call.slot →
    unmap_table (state_of o slots memory) call ≡ with_slots (state_of o slots memory) now
unfolding state_of
table-taken o slots now memory call offset None at is removed =
    let s : State = state_of o slots memory in
    ap (λ (c : Cap). unmap_table s (record call { capability = c })) is
    ∙ ap (λ (n : Slots). with_slots s n) (sym (removed ∙ ap (λ (c : Cap). slots_unmapped slots call.slot c) at))
table-taken o slots now memory call offset (Some m) at is removed =
    let s : State = state_of o slots memory in
    ap (λ (c : Cap). unmap_table s (record call { capability = c })) is
    ∙ ap (λ (n : Slots). with_slots s n) (sym (removed ∙ ap (λ (c : Cap). slots_unmapped slots call.slot c) at))

-- what the call that unmaps a page table leaves
pub table-unmapped : {S : Type 0} {slots_in : S → Slots} {memory_in : S → List ℕ} {o : Tables} {store : S} {call : Call}
    → IsLent slots_in memory_in o store call → (now : S) (offset : ℕ) (mapping : Option TableMapping) → call.capability ≡ PageTable offset mapping
    → slots_in now ≡ unmapped_at (slots_in store) call.slot
    → SameBesideTables (slots_in store) (memory_in store) (memory_in now) → TablesAgree (slots_in now) (memory_in now)
    → (unmap_table (state_of o (slots_in store) (memory_in store)) call ≡ state_of o (slots_in now) (memory_in now)) × Whole slots_in memory_in o now
table-unmapped {slots_in = slots_in} {memory_in} {o} {store} {call} lent now offset mapping is removed same tables =
    let whole = lent.whole in
    let is_call = lent.is_call in
    let s : State = state_of o (slots_in store) (memory_in store) in
    let at = held-at o (slots_in store) (memory_in store) call (PageTable offset mapping) is_call is refl in
    let state = unmapped-state o (slots_in store) (slots_in now) (memory_in store) (memory_in now) (whole.agrees, whole.stands) same in
    let agreed = unmapped-agrees o (slots_in store) (slots_in now) (memory_in store) (memory_in now) (whole.agrees, whole.stands) same tables
    (subst (λ (n : Slots). Lessened (slots_in store) n) (sym removed) (less-unmapped (slots_in store) call.slot)) in
    let done = table-taken o (slots_in store) (slots_in now) (memory_in store) call offset mapping at is removed in (
      done ∙ sym state,
      record {
        sound = subst IsSound (sym state) (table-sound s (with_slots s (slots_in now)) call offset mapping UnmapTable whole.sound is_call is
            (ap (λ (t : State). Ok t) done));
        agrees = agreed.0;
        stands = agreed.1;
      },
    )
