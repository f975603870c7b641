-- The page that a list of slots gives is the one that is mapped.
use Rattle.std.proofs.Common.{ℕ, zero, suc, ◌≡◌, ◌∙◌, ◌==◌, ◌/◌, ◌^◌, ◌<◌, ◌&&◌, Bool, true, false, not, if◌then◌else◌, List, [], ◌∷◌, get_or, length, Option}
use Rattle.std.proofs.Common.{Some, None, refl, sym, ap, arith}
use Rattle.std.specs.Prelude.{filter_map}
use Rattle.std.specs.Option.{option_map_or}
use Rattle.std.specs.List.{cons_option, range_with_len}
use Rattle.std.proofs.lemmas.Bool.{eq-eqb, and_parts, eqb-true}
use Rattle.std.proofs.lemmas.List.FromFn.{get_or-range_with_len, length-range_with_len}
use Rattle.model.specs.declared.capabilities.Cap.{Cap}
use Rattle.model.specs.declared.capabilities.Cap.TheVariants.{Empty, Untyped, Endpoint, Notification, CNode, Frame, PageTable, Tcb, RootTable, InterruptControl}
use Rattle.model.specs.declared.capabilities.Cap.TheVariants.{InterruptHandler}
use Rattle.model.specs.declared.capabilities.FrameMapping.{FrameMapping}
use Rattle.model.specs.declared.rights.Rights.{Rights}
use Rattle.model.specs.Capabilities.Slots.{capability_at, is_empty}
use Rattle.model.specs.Kernel.AddressSpaces.{MappedFrame, Maps, is_page, mapped, maps_page, page_of}
use Rattle.model.specs.Kernel.Scheduling.{head_of}
use Rattle.model.specs.Kernel.Soundness.{IsSound}
use Rattle.model.specs.Kernel.State.{State, slot_numbers}
use Rattle.model.proofs.Ancestors.{full-open}
use Rattle.removal_laws.proofs.Laws.{open-near}

abbrev pub standing : ℕ → Rights → MappedFrame
standing frame allowed = record { frame = frame; allowed = allowed }

abbrev pub found : ℕ → Rights → Option MappedFrame
found frame allowed = Some (standing frame allowed)

-- the first of a list that gives something, where all that do give the same
first-given : {A : Type 0} (f : ℕ → Option A) (v : A) (ns : List ℕ) (i : ℕ) → i < length ns → f (get_or ns i 0) ≡ Some v
    → ((n : ℕ) (w : A) → f n ≡ Some w → w ≡ v) → head_of (filter_map f ns) ≡ Some v
first-given f v [] i few is same = absurd (omega (arith, few))
first-given f v (n ∷ ns) zero few is same = ap (λ o. head_of (cons_option o (filter_map f ns))) is
first-given f v (n ∷ ns) (suc i) few is same =
    let more : head_of (filter_map f ns) ≡ Some v = first-given f v ns i (omega (arith, few)) is same in
    elim (f n) as (λ o. f n ≡ o → head_of (cons_option o (filter_map f ns)) ≡ Some v) [
      | None ↦ λ none. more
      | Some w ↦ λ some. ap (λ x. Some x) (same n w some)
    ] refl

-- what is found is given by some element
found-somewhere : {A : Type 0} (f : ℕ → Option A) (v : A) (ns : List ℕ) → head_of (filter_map f ns) ≡ Some v → (n : ℕ) × (f n ≡ Some v)
found-somewhere f v [] is = absurd (let clash : None ≡ Some v = is in cc)
found-somewhere f v (n ∷ ns) is = elim (f n) as (λ o. f n ≡ o → head_of (cons_option o (filter_map f ns)) ≡ Some v → (m : ℕ) × (f m ≡ Some v)) [
  | None ↦ λ none h. found-somewhere f v ns h
  | Some w ↦ λ some h. (n, some ∙ h)
] refl is

-- ---- what a capability maps at a page

abbrev pub AtPage : ℕ → ℕ → ℕ → Rights → Cap → Type 0
AtPage root page frame allowed c = (r : Rights) × (c ≡ Frame frame r (Some (record { root = root; page = page; rights = allowed })))

page-frame : (root page f : ℕ) (r : Rights) (m : FrameMapping) (frame : ℕ) (allowed : Rights) (is_it : Bool) → is_page root page m ≡ is_it
    → (if is_it then found f m.rights else None) ≡ found frame allowed
    → AtPage root page frame allowed (Frame f r (Some m))
page-frame root page f r m frame allowed false test is = absurd (let clash : None ≡ found frame allowed = is in cc)
page-frame root page f r m frame allowed true test is =
    let parts = and_parts (m.root == root) (m.page == page) test in
    let at_root : m.root ≡ root = eqb-true m.root root parts.0 in
    let at_page : m.page ≡ page = eqb-true m.page page parts.1 in
    let offset : f ≡ frame = ap (λ (o : Option MappedFrame). option_map_or (λ at. at.frame) o 0) is in
    let rights : m.rights ≡ allowed = ap (λ (o : Option MappedFrame). option_map_or (λ at. at.allowed) o m.rights) is in
    (r, λ i. Frame (offset i) r (Some (record { root = at_root i; page = at_page i; rights = rights i })))

pub page-held : (root page : ℕ) (c : Cap) (frame : ℕ) (allowed : Rights) → page_of root page c ≡ found frame allowed → AtPage root page frame allowed c
page-held root page (Frame f r (Some m)) frame allowed is = page-frame root page f r m frame allowed (is_page root page m) refl is
page-held root page (Frame f r None) frame allowed is = absurd (let clash : None ≡ found frame allowed = is in cc)
page-held root page Empty frame allowed is = absurd (let clash : None ≡ found frame allowed = is in cc)
page-held root page (Untyped o b w) frame allowed is = absurd (let clash : None ≡ found frame allowed = is in cc)
page-held root page (Endpoint o r b) frame allowed is = absurd (let clash : None ≡ found frame allowed = is in cc)
page-held root page (Notification o r b) frame allowed is = absurd (let clash : None ≡ found frame allowed = is in cc)
page-held root page (CNode o r g) frame allowed is = absurd (let clash : None ≡ found frame allowed = is in cc)
page-held root page (PageTable t m) frame allowed is = absurd (let clash : None ≡ found frame allowed = is in cc)
page-held root page (Tcb o) frame allowed is = absurd (let clash : None ≡ found frame allowed = is in cc)
page-held root page (RootTable o) frame allowed is = absurd (let clash : None ≡ found frame allowed = is in cc)
page-held root page InterruptControl frame allowed is = absurd (let clash : None ≡ found frame allowed = is in cc)
page-held root page (InterruptHandler line) frame allowed is = absurd (let clash : None ≡ found frame allowed = is in cc)

pub page-there : (root page frame : ℕ) (r allowed : Rights) (c : Cap) → c ≡ Frame frame r (Some (record { root = root; page = page; rights = allowed }))
    → (page_of root page c ≡ found frame allowed) × (maps_page root page c ≡ true) × (not (is_empty c) ≡ true)
page-there root page frame r allowed c is =
    let tests : ((root == root) && (page == page)) ≡ true = ap (λ b. b && (page == page)) (eq-eqb root root refl) ∙ eq-eqb page page refl in (
      ap (page_of root page) is ∙ ap (λ b. if b then found frame allowed else None) tests,
      ap (maps_page root page) is ∙ tests,
      ap (λ k. not (is_empty k)) is,
    )

-- ---- the whole

pub page-mapped : (s : State) (root page frame : ℕ) (allowed : Rights) → IsSound s → Maps s.slots root page frame allowed
    → mapped s root page ≡ found frame allowed
unfolding slot_numbers
page-mapped s root page frame allowed sound maps =
    let count : ℕ = 2 ^ s.memory_bits / 16 in
    let there = page-there root page frame maps.frame_rights allowed (capability_at s.slots maps.slot) maps.capability in
    let near : maps.slot < count = open-near s sound maps.slot (full-open s.slots maps.slot there.2) in
    let here : get_or (range_with_len 0 count) maps.slot 0 ≡ maps.slot = get_or-range_with_len 0 count maps.slot 0 near ∙ omega arith in
    first-given (λ slot. page_of root page (capability_at s.slots slot)) (standing frame allowed) (range_with_len 0 count) maps.slot
    (rw (length-range_with_len 0 count) near)
    (ap (λ (n : ℕ). page_of root page (capability_at s.slots n)) here ∙ there.0)
    (λ n w is.
    let held = page-held root page (capability_at s.slots n) w.frame w.allowed is in
    let other = page-there root page w.frame held.0 w.allowed (capability_at s.slots n) held.1 in
    let one : n ≡ maps.slot = sound.mappings.one_page n maps.slot root page other.1 there.1 in
    let both_are : Some w ≡ found frame allowed = sym is ∙ ap (λ (m : ℕ). page_of root page (capability_at s.slots m)) one ∙ there.0 in
    cc)

pub page-maps : (s : State) (root page frame : ℕ) (allowed : Rights) → mapped s root page ≡ found frame allowed → Maps s.slots root page frame allowed
page-maps s root page frame allowed is =
    let some = found-somewhere (λ slot. page_of root page (capability_at s.slots slot)) (standing frame allowed) (slot_numbers s.memory_bits) is in
    let held = page-held root page (capability_at s.slots some.0) frame allowed some.1 in
    record { slot = some.0; frame_rights = held.0; capability = held.1 }
