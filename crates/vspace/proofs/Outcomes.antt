-- The definition of the call that maps a frame, by what its checks answer.
use Rattle.std.proofs.Common.{◌≡◌, ◌∙◌, ℕ, ◌/◌, ◌%◌, ◌^◌, ◌<◌, ◌==◌, ◌||◌, ◌⊎◌, inl, inr, Bool, true, false, not, Option, Some, None, Result, Ok, Err, List}
use Rattle.std.proofs.Common.{refl, sym, ap, subst}
use Rattle.std.specs.Prelude.{bit_and, nat_lt}
use Rattle.std.specs.Option.{is_some}
use Rattle.std.proofs.lemmas.Bool.{eq-eqb}
use Rattle.model.specs.Kernel.AddressSpaces.{address_limit, is_page_taken, is_region_taken, maps_page, maps_region, page_size, region_pages}
use Rattle.model.specs.Kernel.Arguments.{◌>>=◌, check}
use Rattle.model.specs.Capabilities.CapabilityWords.{AreMappingRights, IsCapability}
use Rattle.model.specs.Kernel.MappingCalls.{map_frame, root_named}
use Rattle.model.specs.Kernel.State.{with_slots}
use Rattle.model.specs.Capabilities.Rights.{may_execute, may_read, mapping_rights}
use Rattle.model.specs.Capabilities.Slots.{IsFull, Slots, capability_at, is_empty, recapped}
use Rattle.model.specs.Kernel.State.{State}
use Rattle.model.specs.declared.capabilities.Cap.{Cap}
use Rattle.model.specs.declared.capabilities.Cap.TheVariants.{Frame, PageTable, RootTable}
use Rattle.model.specs.declared.capabilities.FrameMapping.{FrameMapping}
use Rattle.model.specs.declared.errors.KError.{KError}
use Rattle.model.specs.declared.invocations.SlotName.{SlotName}
use Rattle.model.specs.declared.errors.KError.TheVariants.{AlignmentError, DeleteFirst, FailedLookup, InvalidArgument}
use Rattle.model.specs.declared.rights.Rights.{Rights}
use Rattle.vspace.specs.Answers.{FreeEntry, GivesMapped, MappingAnswer, PageAnswer, frame_call, page_named}
use Rattle.vspace.specs.Tables.{AreNear, Holds, MapsFrame, MapsTable, TablesAgree}
use Rattle.vspace.proofs.Taken.{holds-none, holds-one}

-- the checks after the root table, by what each answers
abbrev checks : Bool → Bool → Bool → Bool → Bool → Result State KError → Result State KError
checks low aligned there free allowed last = do
  _ ← check low InvalidArgument
  _ ← check aligned AlignmentError
  _ ← check there FailedLookup
  _ ← check free DeleteFirst
  _ ← check allowed InvalidArgument
  last

abbrev mapping_of : ℕ → ℕ → Rights → ℕ → FrameMapping
mapping_of root page r w = record { root = root; page = page; rights = mapping_rights r w }

-- the checks after the root table
abbrev behind_root : State → Slots → ℕ → ℕ → Rights → ℕ → ℕ → ℕ → Result State KError
behind_root s slots x f r address w root =
    checks (nat_lt address address_limit) (address % page_size == 0)
    (is_region_taken (with_slots s slots) root (address / page_size / region_pages))
    (not (is_page_taken (with_slots s slots) root (address / page_size)))
    (may_read (mapping_rights r w) || may_execute (mapping_rights r w))
    (Ok (with_slots s (recapped slots x (Frame f r (Some (mapping_of root (address / page_size) r w))))))

defined : (s : State) (slots : Slots) (cspace : Cap) (caller : Option ℕ) (x f : ℕ) (r : Rights) (n : SlotName) (address w : ℕ) →
    map_frame (with_slots s slots) (frame_call cspace caller x f r None) r n address w ≡ (root_named slots cspace n >>= behind_root s slots x f r address w)
defined s slots cspace caller x f r n address w = refl

-- with a root table, what the checks after it give
with_root : (s : State) (slots : Slots) (cspace : Cap) (caller : Option ℕ) (x f : ℕ) (r : Rights) (n : SlotName) (address w root : ℕ) →
    root_named slots cspace n ≡ Ok root → map_frame (with_slots s slots) (frame_call cspace caller x f r None) r n address w ≡ behind_root s slots x f r address
    w root
with_root s slots cspace caller x f r n address w root is =
    defined s slots cspace caller x f r n address w ∙ ap (λ found. found >>= behind_root s slots x f r address w) is

checks-low : (low aligned : Bool) (page found : ℕ) →
    (let answer : Result ℕ KError = check low InvalidArgument >>= λ _. check aligned AlignmentError >>= λ _. Ok page in answer ≡ Ok found) → (low ≡ true)
    × (aligned ≡ true) × (page ≡ found)
checks-low false aligned page found is = absurd cc
checks-low true false page found is = absurd cc
checks-low true true page found is = (refl, refl, cc)

-- ---- whether the region and the page are taken

full_table : (slots : Slots) (y t : ℕ) (o : _) → capability_at slots y ≡ PageTable t o → IsFull slots y
full_table slots y t o held = ap (λ (c : Cap). not (is_empty c)) held

full_frame : (slots : Slots) (y f : ℕ) (r : Rights) (o : _) → capability_at slots y ≡ Frame f r o → IsFull slots y
full_frame slots y f r o held = ap (λ (c : Cap). not (is_empty c)) held

maps_region-own : (root region t : ℕ) → maps_region root region (PageTable t (Some (record { root = root; region = region }))) ≡ true
maps_region-own root region t = rw (eq-eqb root root refl, eq-eqb region region refl) refl

maps_page-own : (root page f : ℕ) (r a : Rights) → maps_page root page (Frame f r (Some (record { root = root; page = page; rights = a }))) ≡ true
maps_page-own root page f r a = rw (eq-eqb root root refl, eq-eqb page page refl) refl

pub region-taken : (s : State) (slots : Slots) (root region table : ℕ) → AreNear s slots → MapsTable slots root region table →
    is_region_taken (with_slots s slots) root region ≡ true
region-taken s slots root region table near maps =
    holds-one s slots (maps_region root region) maps.slot near (full_table slots maps.slot table _ maps.held)
    (ap (maps_region root region) maps.held ∙ maps_region-own root region table)

page-taken : (s : State) (slots : Slots) (root page : ℕ) → AreNear s slots → MapsFrame slots root page → is_page_taken (with_slots s slots) root page ≡ true
page-taken s slots root page near maps =
    holds-one s slots (maps_page root page) maps.slot near (full_frame slots maps.slot maps.frame maps.frame_rights _ maps.held)
    (ap (maps_page root page) maps.held ∙ maps_page-own root page maps.frame maps.frame_rights maps.allowed)

checks-there : (low aligned there free allowed : Bool) (last : Result State KError) → low ≡ true → aligned ≡ true → there ≡ false →
    checks low aligned there free allowed last ≡ Err FailedLookup
checks-there low aligned there free allowed last a b c = rw (a, b, c) refl

checks-free : (low aligned there free allowed : Bool) (last : Result State KError) → low ≡ true → aligned ≡ true → there ≡ true → free ≡ false →
    checks low aligned there free allowed last ≡ Err DeleteFirst
checks-free low aligned there free allowed last a b c d = rw (a, b, c, d) refl

checks-allowed : (low aligned there free allowed : Bool) (last : Result State KError) → low ≡ true → aligned ≡ true → there ≡ true → free ≡ true →
    allowed ≡ false → checks low aligned there free allowed last ≡ Err InvalidArgument
checks-allowed low aligned there free allowed last a b c d e = rw (a, b, c, d, e) refl

checks-all : (low aligned there free allowed : Bool) (last : Result State KError) → low ≡ true → aligned ≡ true → there ≡ true → free ≡ true → allowed ≡ true →
    checks low aligned there free allowed last ≡ last
checks-all low aligned there free allowed last a b c d e = rw (a, b, c, d, e) refl

-- ---- what the call gives

low_page : (address page : ℕ) → page_named address ≡ Ok page → (nat_lt address address_limit ≡ true) × ((address % page_size == 0) ≡ true)
    × (address / page_size ≡ page)
low_page address page is = checks-low (nat_lt address address_limit) (address % page_size == 0) (address / page_size) page is

region-there : (s : State) (slots : Slots) (root address page table : ℕ) → address / page_size ≡ page → AreNear s slots →
    MapsTable slots root (page / 2 ^ 10) table → is_region_taken (with_slots s slots) root (address / page_size / region_pages) ≡ true
region-there s slots root address page table same near maps =
    ap (λ (p : ℕ). is_region_taken (with_slots s slots) root (p / region_pages)) same ∙ region-taken s slots root (page / 2 ^ 10) table near maps

page-untaken : (s : State) (slots : Slots) (root address page : ℕ) → address / page_size ≡ page →
    ((slot : ℕ) → maps_page root page (capability_at slots slot) ≡ false) → not (is_page_taken (with_slots s slots) root (address / page_size)) ≡ true
page-untaken s slots root address page same free =
    ap (λ (p : ℕ). not (is_page_taken (with_slots s slots) root p)) same ∙ ap not (holds-none s slots (maps_page root page) free)

pub gives-no_place : (slots : Slots) (cspace : Cap) (x f : ℕ) (r : Rights) (o : Option FrameMapping) (n : SlotName) (address w root page : ℕ) (e : KError) →
    is_some o ≡ false → root_named slots cspace n ≡ Ok root → page_named address ≡ Ok page → PageAnswer slots root page (Err e) →
    let refused : Result (Unit {0}) KError = Err e in GivesMapped slots cspace x f r o n address w slots refused
gives-no_place slots cspace x f r (Some m) n address w root page e absent is named answer = absurd cc
gives-no_place slots cspace x f r None n address w root page e absent is named answer = λ s caller near.
    let low = low_page address page named in
    let last : Result State KError = Ok (with_slots s (recapped slots x (Frame f r (Some (mapping_of root (address / page_size) r w))))) in
    let allowed : Bool = may_read (mapping_rights r w) || may_execute (mapping_rights r w) in
    let free : Bool = not (is_page_taken (with_slots s slots) root (address / page_size)) in
    with_root s slots cspace caller x f r n address w root is
    ∙ elim answer [
      | inl none ↦
          let there = ap (λ (p : ℕ). is_region_taken (with_slots s slots) root (p / region_pages)) low.2
          ∙ holds-none s slots (maps_region root (page / 2 ^ 10)) none.1 in
          checks-there _ _ _ free allowed last low.0 low.1 there ∙ ap (λ (k : KError). Err k) (sym none.0)
      | inr taken ↦
          let there = region-there s slots root address page taken.2.0 low.2 near taken.2.1 in
          let held : not (is_page_taken (with_slots s slots) root (address / page_size)) ≡ false =
          ap (λ (p : ℕ). not (is_page_taken (with_slots s slots) root p)) low.2 ∙ ap not (page-taken s slots root page near taken.1) in
          checks-free _ _ _ _ allowed last low.0 low.1 there held ∙ ap (λ (k : KError). Err k) (sym taken.0)
    ]

pub gives-no_rights : (slots : Slots) (cspace : Cap) (x f : ℕ) (r : Rights) (o : Option FrameMapping) (n : SlotName) (address w root page place : ℕ) →
    is_some o ≡ false → root_named slots cspace n ≡ Ok root → page_named address ≡ Ok page → FreeEntry slots root page place →
    (may_read (mapping_rights r w) || may_execute (mapping_rights r w)) ≡ false → let refused : Result (Unit {0}) KError = Err InvalidArgument in
    GivesMapped slots cspace x f r o n address w slots refused
gives-no_rights slots cspace x f r (Some m) n address w root page place absent is named entry denied = absurd cc
gives-no_rights slots cspace x f r None n address w root page place absent is named entry denied = λ s caller near.
    let low = low_page address page named in
    let last : Result State KError = Ok (with_slots s (recapped slots x (Frame f r (Some (mapping_of root (address / page_size) r w))))) in
    with_root s slots cspace caller x f r n address w root is
    ∙ checks-allowed _ _ _ _ _ last low.0 low.1 (region-there s slots root address page entry.table low.2 near entry.maps)
    (page-untaken s slots root address page low.2 entry.free) denied

gives-mapping : (slots : Slots) (cspace : Cap) (x f : ℕ) (r : Rights) (n : SlotName) (address w root page place : ℕ) → root_named slots cspace n ≡ Ok root →
    page_named address ≡ Ok page → FreeEntry slots root page place → (may_read (mapping_rights r w) || may_execute (mapping_rights r w)) ≡ true →
    (s : State) (caller : Option ℕ) → AreNear s slots → map_frame (with_slots s slots) (frame_call cspace caller x f r None) r n address w ≡ Ok
    (with_slots s (recapped slots x (Frame f r (Some (mapping_of root page r w)))))
gives-mapping slots cspace x f r n address w root page place is named entry granted s caller near =
    let low = low_page address page named in
    let last : Result State KError = Ok (with_slots s (recapped slots x (Frame f r (Some (mapping_of root (address / page_size) r w))))) in
    with_root s slots cspace caller x f r n address w root is
    ∙ checks-all _ _ _ _ _ last low.0 low.1 (region-there s slots root address page entry.table low.2 near entry.maps)
    (page-untaken s slots root address page low.2 entry.free) granted
    ∙ ap (λ (p : ℕ). Ok (with_slots s (recapped slots x (Frame f r (Some (mapping_of root p r w)))))) low.2

-- rights that let memory be read or executed are a mapping's
granted_rights : (allowed : Rights) → (may_read allowed || may_execute allowed) ≡ true → (allowed.0 ≡ 0) ⊎ AreMappingRights allowed.0 →
    AreMappingRights allowed.0
granted_rights allowed granted (inl zero) =
    let none : (may_read allowed || may_execute allowed) ≡ false = ap (λ (n : ℕ). not (bit_and n 2 == 0) || not (bit_and n 4 == 0)) zero in
    absurd cc
granted_rights allowed granted (inr known) = known

pub gives-frame : (slots : Slots) (memory : List ℕ) (cspace : Cap) (x f : ℕ) (r : Rights) (o : Option FrameMapping) (n : SlotName)
    (address w root page place : ℕ) (allowed : Rights) → TablesAgree slots memory → is_some o ≡ false → root_named slots cspace n ≡ Ok root →
    Holds slots (RootTable root) → page_named address ≡ Ok page → page < 2 ^ 19 → FreeEntry slots root page place → allowed ≡ mapping_rights r w →
    (allowed.0 ≡ 0) ⊎ AreMappingRights allowed.0 → (may_read allowed || may_execute allowed) ≡ true →
    MappingAnswer slots cspace x f r o n address w (Ok (place, record { root = root; page = page; rights = allowed }))
gives-frame slots memory cspace x f r (Some m) n address w root page place allowed agree absent is rooted named near entry same kinds granted = absurd cc
gives-frame slots memory cspace x f r None n address w root page place allowed agree absent is rooted named near entry same kinds granted =
    let fine : IsCapability (RootTable root) = subst (λ (c : Cap). IsCapability c) rooted.1 (agree.valid rooted.0) in
    let yes_then : (may_read (mapping_rights r w) || may_execute (mapping_rights r w)) ≡ true = sym (ap (λ (k : Rights). may_read k || may_execute k) same)
    ∙ granted in (
      refl,
      entry,
      (fine, near, granted_rights allowed granted kinds),
      λ s caller close.
          gives-mapping slots cspace x f r n address w root page place is named entry yes_then s caller close
          ∙ ap (λ (k : Rights). Ok (with_slots s (recapped slots x (Frame f r (Some (record { root = root; page = page; rights = k })))))) (sym same),
    )
