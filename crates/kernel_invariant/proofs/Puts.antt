-- What Copy, Mint and Move leave, and a capability without a parent that comes, agrees as before.
use Rattle.std.proofs.Common.{ℕ, ◌≡◌, ◌≢◌, ◌∙◌, ◌==◌, ◌/◌, inl, inr, Bool, true, false, if◌then◌else◌, Option, Some, None, IsSome, List, refl, sym, ap, subst}
use Rattle.std.specs.Option.{option_map, option_map_or}
use Rattle.std.proofs.lemmas.Bool.Decides.{eqb_tells}
use Rattle.kernel_invariant.proofs.ObjectsAgree.{follows-law, stands-law}
use Rattle.kernel_invariant.specs.Agreement.{Agrees}
use Rattle.kernel_invariant.specs.Wholeness.{Agreed}
use Rattle.model.proofs.SlotChanges.{capability-adopted}
use Rattle.model.specs.Capabilities.CapabilityKinds.{frame_mapping}
use Rattle.model.specs.Capabilities.CapabilityWords.{IsCapability}
use Rattle.model.specs.Capabilities.Slots.{IsOpen, SameOutside, Slots, adopted, capability_at, empty_entry, inserted, relocated}
use Rattle.model.specs.Kernel.Kinds.{object_named}
use Rattle.model.specs.Kernel.State.{State}
use Rattle.model.specs.declared.capabilities.Cap.{Cap}
use Rattle.model.specs.declared.capabilities.Cap.TheVariants.{Empty, Untyped, Endpoint, Notification, CNode, Frame, PageTable, Tcb, RootTable, InterruptControl}
use Rattle.model.specs.declared.capabilities.Cap.TheVariants.{InterruptHandler}
use Rattle.model.specs.declared.slot_entries.Entry.{Entry}
use Rattle.objects.specs.Tables.{Tables, state_of}
use Rattle.removal_laws.proofs.Laws.{root-kind}
use Rattle.soundness.proofs.Laws.{is_single}
use Rattle.vspace.proofs.Laws.{agree-moved, agree-outside, agree-put}
use Rattle.vspace.specs.Agreement.{MayBePut}
use Rattle.vspace.specs.Kept.{IsNamedTable, NamesTable}
use Rattle.vspace.specs.Tables.{TablesAgree}

abbrev pub capability_of : Option Entry → Cap
capability_of held = option_map_or (λ e. e.capability) held Empty

-- slots change, and bytes of slots; none is opened, and no other table is named
module _ (o : Tables) (slots now : Slots) (old new : List ℕ) (agreed : Agreed o slots old) (same : SameOutside slots old new)
    (closes : (slot : ℕ) → slots slot ≡ None → now slot ≡ None) where
  open-before : (slot : ℕ) → IsOpen now slot → IsOpen slots slot
  open-before slot is_open = elim (slots slot) as (λ e. slots slot ≡ e → IsOpen slots slot) [
    | None ↦ λ is. absurd (let clash : false ≡ true = subst (λ (x : Option Entry). IsSome x) (closes slot is) is_open in cc)
    | Some e ↦ λ is. subst (λ (x : Option Entry). IsSome x) (sym is) refl
  ] refl

  pub changed-agrees : TablesAgree now new → ((table : ℕ) → IsNamedTable now table → IsNamedTable slots table) → Agreed o now new
  unfolding state_of
  changed-agrees tables names = (
    subst (λ (t : State). Agrees t new) (sym (follows-law o slots now old new agreed same closes)) (record {
      tables = tables;
      size = agreed.0.size ∙ sym same.size;
      slots = λ place is_open. agreed.0.slots place (open-before (place / 16) is_open);
      frames = λ table place named low high. agreed.0.frames table place (names table named) low high;
      records = λ table place offset kind named low high there kept. agreed.0.records table place offset kind (names table named) low high there kept;
    }),
    stands-law o slots now old new agreed.1 same closes,
  )

pub is-open : (slots : Slots) (slot : ℕ) (e : Entry) → slots slot ≡ Some e → IsOpen slots slot
is-open slots slot e is = subst (λ (x : Option Entry). IsSome x) (sym is) refl

not-closed : (slots : Slots) (slot : ℕ) → IsOpen slots slot → slots slot ≢ None
not-closed slots slot is_open none = let clash : false ≡ true = subst (λ (x : Option Entry). IsSome x) none is_open in cc

-- ---- a capability comes into an empty slot

pub put-closes : (slots : Slots) (slot : ℕ) (made : Cap) (parent : Option ℕ) → IsOpen slots slot → (x : ℕ) → slots x ≡ None →
    inserted slots slot made parent x ≡ None
put-closes slots slot made parent is_open x none = elim (eqb_tells x slot) [
  | inl here ↦ absurd (not-closed slots slot is_open (ap slots (sym here.1) ∙ none))
  | inr apart ↦ ap (λ b. if b then Some (record { capability = made; parent = parent }) else slots x) apart.0 ∙ none
]

pub put-named : (slots : Slots) (slot : ℕ) (made : Cap) (parent : Option ℕ) (table : ℕ) → (NamesTable made table → IsNamedTable slots table)
    → IsNamedTable (inserted slots slot made parent) table → IsNamedTable slots table
put-named slots slot made parent table has named =
    let held : Bool → Type 0 = λ b. NamesTable (capability_of (if b then Some (record { capability = made; parent = parent }) else slots named.0)) table in
    elim (eqb_tells named.0 slot) [
      | inl here ↦ has (subst held here.0 named.1)
      | inr apart ↦ (named.0, subst held apart.0 named.1)
    ]

pub put-agrees : (o : Tables) (slots : Slots) (old new : List ℕ) (slot : ℕ) (made : Cap) (parent : Option ℕ) → Agreed o slots old → SameOutside slots old new
    → slots slot ≡ Some empty_entry → MayBePut slots new made → ((table : ℕ) → NamesTable made table → IsNamedTable slots table)
    → Agreed o (inserted slots slot made parent) new
unfolding state_of
put-agrees o slots old new slot made parent agrees same empty may names =
    let is_open = is-open slots slot empty_entry empty in
    changed-agrees o slots (inserted slots slot made parent) old new agrees same (put-closes slots slot made parent is_open)
    (agree-put slots new slot made parent (agree-outside slots old new agrees.0.tables same) is_open (ap capability_of empty) may)
    (λ table named. put-named slots slot made parent table (names table) named)

-- ---- a copy: a page table is not copied, a frame's copy is not mapped, and a root table is named already

copy-may : (slots : Slots) (memory : List ℕ) (source : ℕ) (made : Cap) → IsCapability made → is_single made ≡ false → frame_mapping made ≡ None
    → object_named made ≡ object_named (capability_at slots source) → MayBePut slots memory made
copy-may slots memory source (Frame f r (Some m)) valid single plain object = absurd (let clash : Some m ≡ None = plain in cc)
copy-may slots memory source (Frame f r None) valid single plain object = valid
copy-may slots memory source (PageTable t m) valid single plain object = absurd (let clash : true ≡ false = single in cc)
copy-may slots memory source (RootTable root) valid single plain object = (valid, inl (source, root-kind (capability_at slots source) root (sym object)))
copy-may slots memory source Empty valid single plain object = valid
copy-may slots memory source (Untyped a b d) valid single plain object = valid
copy-may slots memory source (Endpoint a r b) valid single plain object = valid
copy-may slots memory source (Notification a r b) valid single plain object = valid
copy-may slots memory source (CNode a r g) valid single plain object = valid
copy-may slots memory source (Tcb a) valid single plain object = valid
copy-may slots memory source InterruptControl valid single plain object = valid
copy-may slots memory source (InterruptHandler a) valid single plain object = valid

copy-named : (slots : Slots) (source : ℕ) (made : Cap) (table : ℕ) → is_single made ≡ false → object_named made ≡ object_named (capability_at slots source)
    → NamesTable made table → IsNamedTable slots table
copy-named slots source (RootTable root) table single object names =
    (source, subst (λ (c : Cap). NamesTable c table) (sym (root-kind (capability_at slots source) root (sym object))) names)
copy-named slots source (PageTable t m) table single object names = absurd (let clash : true ≡ false = single in cc)
copy-named slots source (Frame f r m) table single object names = absurd names
copy-named slots source Empty table single object names = absurd names
copy-named slots source (Untyped a b d) table single object names = absurd names
copy-named slots source (Endpoint a r b) table single object names = absurd names
copy-named slots source (Notification a r b) table single object names = absurd names
copy-named slots source (CNode a r g) table single object names = absurd names
copy-named slots source (Tcb a) table single object names = absurd names
copy-named slots source InterruptControl table single object names = absurd names
copy-named slots source (InterruptHandler a) table single object names = absurd names

pub copy-agrees : (o : Tables) (slots : Slots) (old new : List ℕ) (slot source : ℕ) (made : Cap) → Agreed o slots old → SameOutside slots old new
    → slots slot ≡ Some empty_entry → IsCapability made → is_single made ≡ false → frame_mapping made ≡ None →
    object_named made ≡ object_named (capability_at slots source)
    → Agreed o (inserted slots slot made (Some source)) new
copy-agrees o slots old new slot source made agrees same empty valid single plain object =
    put-agrees o slots old new slot made (Some source) agrees same empty (copy-may slots new source made valid single plain object)
    (λ table names. copy-named slots source made table single object names)

-- ---- a capability moves

abbrev pub moved_entry : Slots → ℕ → ℕ → ℕ → Bool → Bool → Option Entry
moved_entry slots from to x at_from at_to = if at_from then Some empty_entry else (if at_to then slots from else option_map (adopted from (Some to)) (slots x))

pub moved-closes : (slots : Slots) (from to : ℕ) → IsOpen slots from → IsOpen slots to → (x : ℕ) → slots x ≡ None → relocated slots from to x ≡ None
moved-closes slots from to from_open to_open x none = elim (eqb_tells x from) [
  | inl here ↦ absurd (not-closed slots from from_open (ap slots (sym here.1) ∙ none))
  | inr apart ↦ elim (eqb_tells x to) [
    | inl here ↦ absurd (not-closed slots to to_open (ap slots (sym here.1) ∙ none))
    | inr other ↦ ap (λ b. moved_entry slots from to x b (x == to)) apart.0 ∙ ap (moved_entry slots from to x false) other.0
        ∙ ap (option_map (adopted from (Some to))) none
  ]
]

pub moved-named : (slots : Slots) (from to table : ℕ) → IsNamedTable (relocated slots from to) table → IsNamedTable slots table
moved-named slots from to table named =
    let held : Bool → Bool → Type 0 = λ a b. NamesTable (capability_of (moved_entry slots from to named.0 a b)) table in
    elim (eqb_tells named.0 from) [
      | inl here ↦ absurd (let nothing : held true (named.0 == to) = subst (λ a. held a (named.0 == to)) here.0 named.1 in nothing)
      | inr apart ↦
          let outside : held false (named.0 == to) = subst (λ a. held a (named.0 == to)) apart.0 named.1 in
          elim (eqb_tells named.0 to) [
            | inl here ↦ (from, subst (held false) here.0 outside)
            | inr other ↦ (
              named.0,
              subst (λ (c : Cap). NamesTable c table) (capability-adopted from (Some to) (slots named.0))
                  (subst (held false) other.0 outside),
            )
          ]
    ]

pub move-agrees : (o : Tables) (slots : Slots) (old new : List ℕ) (from to : ℕ) → Agreed o slots old → SameOutside slots old new
    → IsOpen slots from → slots to ≡ Some empty_entry → from ≢ to → Agreed o (relocated slots from to) new
unfolding state_of
move-agrees o slots old new from to agrees same from_open empty apart =
    let to_open = is-open slots to empty_entry empty in
    changed-agrees o slots (relocated slots from to) old new agrees same (moved-closes slots from to from_open to_open)
    (agree-moved slots new from to (agree-outside slots old new agrees.0.tables same) apart from_open to_open (ap capability_of empty))
    (λ table named. moved-named slots from to table named)
