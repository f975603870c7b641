-- The steps in which a slot is emptied leave what emptying it means.
use Rattle.std.proofs.Common.{ℕ, ◌≡◌, ◌≢◌, ◌∙◌, ◌==◌, ◌/◌, ◌^◌, ◌<◌, ◌&&◌, ◌||◌, inl, inr, Bool, true, false, not, if◌then◌else◌, Option, Some, None, is_some}
use Rattle.std.proofs.Common.{option_map, refl, sym, ap, subst, arith}
use Rattle.std.specs.Option.{option_map_or}
use Rattle.std.proofs.Math.Bool.{and-false, or-true}
use Rattle.std.proofs.lemmas.Bool.{eq-eqb, ne_eqb}
use Rattle.std.proofs.lemmas.Bool.Decides.{eqb_tells}
use Rattle.model.specs.declared.capabilities.Cap.{Cap}
use Rattle.model.specs.declared.capabilities.Cap.TheVariants.{Empty, Untyped, Endpoint, Notification, CNode, Frame, PageTable, Tcb, RootTable, InterruptControl}
use Rattle.model.specs.declared.capabilities.Cap.TheVariants.{InterruptHandler}
use Rattle.model.specs.declared.capabilities.FrameMapping.{FrameMapping}
use Rattle.model.specs.declared.capabilities.TableMapping.{TableMapping}
use Rattle.model.specs.declared.rights.Rights.{Rights}
use Rattle.model.specs.declared.slot_entries.Entry.{Entry}
use Rattle.model.specs.Capabilities.CapabilityKinds.{root_of, unmapped}
use Rattle.model.specs.Capabilities.Slots.{IsDerivation, IsFull, Slots, adopted, capability_at, empty_entry, parent_at, recapped, spliced, with_parent}
use Rattle.model.specs.Kernel.AddressSpaces.{maps_region, region_pages}
use Rattle.model.specs.Kernel.MappingCalls.{lies_in_region, without_table}
use Rattle.model.specs.Kernel.Removal.{emptied, ends_root, is_some_slot, kept, kept_entry, loses_last_child, new_parent, some_inside}
use Rattle.model.specs.Kernel.State.{State}
use Rattle.model.proofs.Depths.{adopted_parent, depth-own_parent}
use Rattle.model.proofs.SlotChanges.{capability_of, capability-adopted, entry-other, entry-same, parent_of, parent-adopted}
use Rattle.model.proofs.Ancestors.{full-open}
use Rattle.removal_laws.specs.Steps.{IsChildless, Rewinds, WithWatermark, is_under, no_untyped, reset, slots_ended, slots_unmapped, still, unused, uprooted}
use Rattle.removal_laws.specs.Steps.{without_root}
use Rattle.removal_laws.proofs.Found.{found, found-at, found-none, join}
use Rattle.removal_laws.proofs.Keeping.{capability-out, parent-out, there-in, there-out}
use Rattle.removal_laws.specs.Steps.{alone}
use Rattle.removal_laws.proofs.Lasts.{inside-alone}
use Rattle.removal_laws.proofs.Children.{some-slot}
use Rattle.removal_laws.proofs.Parents.{outside-one}

-- ---- entries by their parts

pub entry-parts : (a b : Option Entry) → is_some a ≡ is_some b → capability_of a ≡ capability_of b → parent_of a ≡ parent_of b → a ≡ b
entry-parts None None opens capability parent = refl
entry-parts None (Some b) opens capability parent = absurd (let clash : false ≡ true = opens in cc)
entry-parts (Some a) None opens capability parent = absurd (let clash : true ≡ false = opens in cc)
entry-parts (Some a) (Some b) opens capability parent = λ i. Some (record { capability = capability i; parent = parent i })

open-mapped : (f : Entry → Entry) (o : Option Entry) → is_some (option_map f o) ≡ is_some o
open-mapped f None = refl
open-mapped f (Some h) = refl

-- ---- the mapping goes

-- what a page table's capability takes from another
abbrev pub region_lost : Cap → Cap → Cap
region_lost (PageTable t (Some m)) c = if lies_in_region m c then unmapped c else c
region_lost _ c = c

table-capability : (m : TableMapping) (o : Option Entry) → capability_of (option_map (without_table m) o) ≡ region_lost (PageTable 0 (Some m)) (capability_of o)
table-capability m None = refl
table-capability m (Some h) = refl

table-parent : (m : TableMapping) (o : Option Entry) → parent_of (option_map (without_table m) o) ≡ parent_of o
table-parent m None = refl
table-parent m (Some h) = refl

pub unmapped-other : (slots : Slots) (x : ℕ) (c : Cap) (y : ℕ) → y ≢ x
    → (is_some (slots_unmapped slots x c y) ≡ is_some (slots y)) × (capability_at (slots_unmapped slots x c) y ≡ region_lost c (capability_at slots y))
    × (parent_at (slots_unmapped slots x c) y ≡ parent_at slots y)
unmapped-other slots x (Frame f r m) y other =
    let same = entry-other slots x (Some (record { capability = Frame f r None; parent = parent_at slots x })) y other in
    (ap is_some same, ap capability_of same, ap parent_of same)
unmapped-other slots x (PageTable t (Some m)) y other =
    let same = entry-other slots x (Some (record { capability = PageTable t None; parent = parent_at slots x })) y other in (
      open-mapped (without_table m) (recapped slots x (PageTable t None) y) ∙ ap is_some same,
      table-capability m (recapped slots x (PageTable t None) y) ∙ ap (λ (o : Option Entry). region_lost (PageTable 0 (Some m)) (capability_of o)) same,
      table-parent m (recapped slots x (PageTable t None) y) ∙ ap parent_of same,
    )
unmapped-other slots x (PageTable t None) y other = (refl, refl, refl)
unmapped-other slots x Empty y other = (refl, refl, refl)
unmapped-other slots x (Untyped o b w) y other = (refl, refl, refl)
unmapped-other slots x (Endpoint o r b) y other = (refl, refl, refl)
unmapped-other slots x (Notification o r b) y other = (refl, refl, refl)
unmapped-other slots x (CNode o r g) y other = (refl, refl, refl)
unmapped-other slots x (Tcb o) y other = (refl, refl, refl)
unmapped-other slots x (RootTable o) y other = (refl, refl, refl)
unmapped-other slots x InterruptControl y other = (refl, refl, refl)
unmapped-other slots x (InterruptHandler line) y other = (refl, refl, refl)

-- the slot itself
pub unmapped-itself : (slots : Slots) (x : ℕ) (c : Cap) → capability_at slots x ≡ c → (capability_at (slots_unmapped slots x c) x ≡ unmapped c)
    × (parent_at (slots_unmapped slots x c) x ≡ parent_at slots x)
unmapped-itself slots x (Frame f r m) is =
    let same = entry-same slots x (Some (record { capability = Frame f r None; parent = parent_at slots x })) in
    (ap capability_of same, ap parent_of same)
unmapped-itself slots x (PageTable t (Some m)) is =
    let same = entry-same slots x (Some (record { capability = PageTable t None; parent = parent_at slots x })) in (
      table-capability m (recapped slots x (PageTable t None) x) ∙ ap (λ (o : Option Entry). region_lost (PageTable 0 (Some m)) (capability_of o)) same,
      table-parent m (recapped slots x (PageTable t None) x) ∙ ap parent_of same,
    )
unmapped-itself slots x (PageTable t None) is = (is, refl)
unmapped-itself slots x Empty is = (is, refl)
unmapped-itself slots x (Untyped o b w) is = (is, refl)
unmapped-itself slots x (Endpoint o r b) is = (is, refl)
unmapped-itself slots x (Notification o r b) is = (is, refl)
unmapped-itself slots x (CNode o r g) is = (is, refl)
unmapped-itself slots x (Tcb o) is = (is, refl)
unmapped-itself slots x (RootTable o) is = (is, refl)
unmapped-itself slots x InterruptControl is = (is, refl)
unmapped-itself slots x (InterruptHandler line) is = (is, refl)

-- ---- the slot is taken out

pub spliced-other : (slots : Slots) (x y : ℕ) → y ≢ x
    → (is_some (spliced slots x y) ≡ is_some (slots y)) × (capability_at (spliced slots x) y ≡ capability_at slots y)
    × (parent_at (spliced slots x) y ≡ adopted_parent x (parent_at slots x) (parent_at slots y))
spliced-other slots x y other =
    let same = entry-other (with_parent slots x (parent_at slots x)) x (Some empty_entry) y other in (
      ap is_some same ∙ open-mapped (adopted x (parent_at slots x)) (slots y),
      ap capability_of same ∙ capability-adopted x (parent_at slots x) (slots y),
      ap parent_of same ∙ parent-adopted x (parent_at slots x) (slots y),
    )

pub spliced-itself : (slots : Slots) (x : ℕ) → spliced slots x x ≡ Some empty_entry
spliced-itself slots x = entry-same (with_parent slots x (parent_at slots x)) x (Some empty_entry)

-- ---- the object ends

abbrev pub root_lost : Cap → Cap → Cap
root_lost c other = option_map_or (λ root. if is_under root other then unmapped other else other) (root_of c) other

uprooted-capability : (root : ℕ) (o : Option Entry) → capability_of (option_map (uprooted root) o)
    ≡ (if is_under root (capability_of o) then unmapped (capability_of o) else capability_of o)
uprooted-capability root None = refl
uprooted-capability root (Some h) = refl

uprooted-parent : (root : ℕ) (o : Option Entry) → parent_of (option_map (uprooted root) o) ≡ parent_of o
uprooted-parent root None = refl
uprooted-parent root (Some h) = refl

pub ended-at : (c : Cap) (slots : Slots) (y : ℕ)
    → (is_some (slots_ended c slots y) ≡ is_some (slots y)) × (capability_at (slots_ended c slots) y ≡ root_lost c (capability_at slots y))
    × (parent_at (slots_ended c slots) y ≡ parent_at slots y)
ended-at c slots y = elim (root_of c) as (λ o. (is_some ((option_map_or (λ root. without_root root slots) o slots) y) ≡ is_some (slots y))
    × (capability_at (option_map_or (λ root. without_root root slots) o slots) y ≡ option_map_or
    (λ root. if is_under root (capability_at slots y) then unmapped (capability_at slots y) else capability_at slots y) o (capability_at slots y))
    × (parent_at (option_map_or (λ root. without_root root slots) o slots) y ≡ parent_at slots y)) [
      | None ↦ (refl, refl, refl)
      | Some root ↦ (open-mapped (uprooted root) (slots y), uprooted-capability root (slots y), uprooted-parent root (slots y))
    ]

-- ---- what the steps take from a capability

eqb-sym : (a b : ℕ) → (a == b) ≡ (b == a)
eqb-sym a b = elim (eqb_tells a b) [
  | inl same ↦ same.0 ∙ sym (eq-eqb b a (sym same.1))
  | inr other ↦ other.0 ∙ sym (ne_eqb b a (λ same. other.1 (sym same)))
]

-- whether what ended is the root table here
abbrev pub root_gone : Cap → ℕ → Bool
root_gone gone root = option_map_or (λ o. o == root) (root_of gone) false

lost-twice : (gone : Cap) (f : ℕ) (r : Rights) (mp : FrameMapping) (l : Bool) →
    (if root_gone gone mp.root || l then Frame f r None else Frame f r (Some mp)) ≡ root_lost gone (if l then Frame f r None else Frame f r (Some mp))
lost-twice gone f r mp l =
    elim (root_of gone) as (λ o. (if option_map_or (λ q. q == mp.root) o false || l then Frame f r None else Frame f r (Some mp)) ≡ option_map_or
    (λ root. if is_under root (if l then Frame f r None else Frame f r (Some mp)) then unmapped (if l then Frame f r None else Frame f r (Some mp)) else
    (if l then Frame f r None else Frame f r (Some mp))) o (if l then Frame f r None else Frame f r (Some mp))) [
      | None ↦ refl
      | Some q ↦ elim l as (λ b. (if (q == mp.root) || b then Frame f r None else Frame f r (Some mp))
          ≡ (if is_under q (if b then Frame f r None else Frame f r (Some mp)) then unmapped (if b then Frame f r None else Frame f r (Some mp)) else
          (if b then Frame f r None else Frame f r (Some mp)))) [
            | true ↦ ap (λ b. if b then Frame f r None else Frame f r (Some mp)) (or-true (q == mp.root))
            | false ↦ elim (q == mp.root) as (λ b. (if b || false then Frame f r None else Frame f r (Some mp))
                ≡ (if b then Frame f r None else Frame f r (Some mp)))
                [ true ↦ refl | false ↦ refl ]
          ]
    ]

frame-region : (c : Cap) (f : ℕ) (r : Rights) (mp : FrameMapping) →
    region_lost c (Frame f r (Some mp)) ≡ (if maps_region mp.root (mp.page / region_pages) c then Frame f r None else Frame f r (Some mp))
frame-region (PageTable t (Some m)) f r mp =
    ap (λ b. if b && (mp.page / region_pages == m.region) then Frame f r None else Frame f r (Some mp)) (eqb-sym mp.root m.root)
    ∙ ap (λ b. if (m.root == mp.root) && b then Frame f r None else Frame f r (Some mp)) (eqb-sym (mp.page / region_pages) m.region)
frame-region (PageTable t None) f r mp = refl
frame-region Empty f r mp = refl
frame-region (Untyped o b w) f r mp = refl
frame-region (Endpoint o rr b) f r mp = refl
frame-region (Notification o rr b) f r mp = refl
frame-region (CNode o rr g) f r mp = refl
frame-region (Frame o rr m) f r mp = refl
frame-region (Tcb o) f r mp = refl
frame-region (RootTable o) f r mp = refl
frame-region InterruptControl f r mp = refl
frame-region (InterruptHandler line) f r mp = refl

-- what is no mapped frame loses nothing with a region, and what is not mapped loses nothing with a root table
region-keeps : (c other : Cap) → unmapped other ≡ other → region_lost c other ≡ other
region-keeps (PageTable t (Some m)) other same = elim (lies_in_region m other) as (λ b. (if b then unmapped other else other) ≡ other)
    [ true ↦ same | false ↦ refl ]
region-keeps (PageTable t None) other same = refl
region-keeps Empty other same = refl
region-keeps (Untyped o b w) other same = refl
region-keeps (Endpoint o rr b) other same = refl
region-keeps (Notification o rr b) other same = refl
region-keeps (CNode o rr g) other same = refl
region-keeps (Frame o rr m) other same = refl
region-keeps (Tcb o) other same = refl
region-keeps (RootTable o) other same = refl
region-keeps InterruptControl other same = refl
region-keeps (InterruptHandler line) other same = refl

region-table : (c : Cap) (t : ℕ) (m : TableMapping) → region_lost c (PageTable t (Some m)) ≡ PageTable t (Some m)
region-table (PageTable t' (Some m')) t m = refl
region-table (PageTable t' None) t m = refl
region-table Empty t m = refl
region-table (Untyped o b w) t m = refl
region-table (Endpoint o rr b) t m = refl
region-table (Notification o rr b) t m = refl
region-table (CNode o rr g) t m = refl
region-table (Frame o rr n) t m = refl
region-table (Tcb o) t m = refl
region-table (RootTable o) t m = refl
region-table InterruptControl t m = refl
region-table (InterruptHandler line) t m = refl

root-keeps : (gone other : Cap) → unmapped other ≡ other → root_lost gone other ≡ other
root-keeps gone other same = elim (root_of gone) as (λ o. option_map_or (λ root. if is_under root other then unmapped other else other) o other ≡ other) [
  | None ↦ refl
  | Some root ↦ elim (is_under root other) as (λ b. (if b then unmapped other else other) ≡ other) [ true ↦ same | false ↦ refl ]
]

root-table : (gone : Cap) (t : ℕ) (m : TableMapping) → root_lost gone (PageTable t (Some m))
    ≡ (if root_gone gone m.root then PageTable t None else PageTable t (Some m))
root-table gone t m =
    elim (root_of gone) as (λ o. option_map_or (λ root. if is_under root (PageTable t (Some m)) then unmapped (PageTable t (Some m)) else PageTable t (Some m))
    o (PageTable t (Some m)) ≡ (if option_map_or (λ q. q == m.root) o false then PageTable t None else PageTable t (Some m))) [
      | None ↦ refl
      | Some root ↦ refl
    ]

-- ---- watermarks

-- the watermark goes if the last child does
abbrev pub rewound : Bool → Cap → Cap
rewound loses (Untyped offset bits watermark) = Untyped offset bits (if loses then 0 else watermark)
rewound loses c = c

rewound-false : (c : Cap) → rewound false c ≡ c
rewound-false (Untyped o b w) = refl
rewound-false Empty = refl
rewound-false (Endpoint o r b) = refl
rewound-false (Notification o r b) = refl
rewound-false (CNode o r g) = refl
rewound-false (Frame f r m) = refl
rewound-false (PageTable t m) = refl
rewound-false (Tcb o) = refl
rewound-false (RootTable o) = refl
rewound-false InterruptControl = refl
rewound-false (InterruptHandler line) = refl

rewound-true : (c : Cap) → rewound true c ≡ unused c
rewound-true (Untyped o b w) = refl
rewound-true Empty = refl
rewound-true (Endpoint o r b) = refl
rewound-true (Notification o r b) = refl
rewound-true (CNode o r g) = refl
rewound-true (Frame f r m) = refl
rewound-true (PageTable t m) = refl
rewound-true (Tcb o) = refl
rewound-true (RootTable o) = refl
rewound-true InterruptControl = refl
rewound-true (InterruptHandler line) = refl

rewound-any : (loses : Bool) (c : Cap) → unused c ≡ c → rewound loses c ≡ c
rewound-any true c same = rewound-true c ∙ same
rewound-any false c same = rewound-false c

unused-frame : (f : ℕ) (r : Rights) (mp : FrameMapping) (b : Bool) →
    unused (if b then Frame f r None else Frame f r (Some mp)) ≡ (if b then Frame f r None else Frame f r (Some mp))
unused-frame f r mp true = refl
unused-frame f r mp false = refl

unused-table : (t : ℕ) (m : TableMapping) (b : Bool) → unused (if b then PageTable t None else PageTable t (Some m))
    ≡ (if b then PageTable t None else PageTable t (Some m))
unused-table t m true = refl
unused-table t m false = refl

-- ---- the steps together

module _ (s : State) (x : ℕ) (near : (y : ℕ) → IsFull s.slots y → y < 2 ^ s.memory_bits / 16) (full : IsFull s.slots x) where
  pub inside-one : (test : Cap → Bool) → test Empty ≡ false → some_inside s (alone x) test ≡ test (capability_at s.slots x)
  inside-one test none =
      let now : ℕ → Cap = λ y. if y == x then Empty else capability_at s.slots y in
      inside-alone s.memory_bits (alone x) x (capability_at s.slots) now test (eq-eqb x x refl) (near x full)
      (ap (λ b. test (if b then Empty else capability_at s.slots x)) (eq-eqb x x refl) ∙ none)
      (λ y other. ap (λ b. test (if b then Empty else capability_at s.slots y)) (ne_eqb y x other))

module _ (s : State) (x : ℕ) (tree : IsDerivation s.slots) (near : (y : ℕ) → IsFull s.slots y → y < 2 ^ s.memory_bits / 16) (full : IsFull s.slots x)
    (gone : Cap) (roots : (root : ℕ) → ends_root s (alone x) root ≡ root_gone gone root) where
  region-inside : (root region : ℕ) → some_inside s (alone x) (maps_region root region) ≡ maps_region root region (capability_at s.slots x)
  region-inside root region = inside-one s x near full (maps_region root region) refl

  plain : (l : Bool) (c : Cap) → unmapped c ≡ c → rewound l c ≡ rewound l (root_lost gone (region_lost (capability_at s.slots x) c))
  plain l c same = sym (ap (λ k. rewound l (root_lost gone k)) (region-keeps (capability_at s.slots x) c same) ∙ ap (rewound l) (root-keeps gone c same))

  kept-steps : (y : ℕ) (c : Cap) → kept s (alone x) y c ≡ rewound (loses_last_child s (alone x) y) (root_lost gone (region_lost (capability_at s.slots x) c))
  kept-steps y (Frame f r (Some mp)) =
      let lost : Cap = root_lost gone (region_lost (capability_at s.slots x) (Frame f r (Some mp))) in
      let test : Bool = root_gone gone mp.root || maps_region mp.root (mp.page / region_pages) (capability_at s.slots x) in
      let whole : (if test then Frame f r None else Frame f r (Some mp)) ≡ lost =
      lost-twice gone f r mp (maps_region mp.root (mp.page / region_pages) (capability_at s.slots x))
      ∙ ap (root_lost gone) (sym (frame-region (capability_at s.slots x) f r mp))
      in
      ap (λ b. if b || some_inside s (alone x) (maps_region mp.root (mp.page / region_pages)) then Frame f r None else Frame f r (Some mp)) (roots mp.root)
      ∙ ap (λ b. if root_gone gone mp.root || b then Frame f r None else Frame f r (Some mp)) (region-inside mp.root (mp.page / region_pages))
      ∙ whole
      ∙ sym (rewound-any (loses_last_child s (alone x) y) lost (sym (ap unused whole) ∙ unused-frame f r mp test ∙ whole))
  kept-steps y (PageTable t (Some m)) =
      let lost : Cap = root_lost gone (region_lost (capability_at s.slots x) (PageTable t (Some m))) in
      let test : Bool = root_gone gone m.root in
      let whole : (if test then PageTable t None else PageTable t (Some m)) ≡ lost =
      sym (root-table gone t m) ∙ ap (root_lost gone) (sym (region-table (capability_at s.slots x) t m))
      in
      ap (λ b. if b then PageTable t None else PageTable t (Some m)) (roots m.root)
      ∙ whole
      ∙ sym (rewound-any (loses_last_child s (alone x) y) lost (sym (ap unused whole) ∙ unused-table t m test ∙ whole))
  kept-steps y Empty = plain (loses_last_child s (alone x) y) Empty refl
  kept-steps y (Untyped o b w) = plain (loses_last_child s (alone x) y) (Untyped o b w) refl
  kept-steps y (Endpoint o r b) = plain (loses_last_child s (alone x) y) (Endpoint o r b) refl
  kept-steps y (Notification o r b) = plain (loses_last_child s (alone x) y) (Notification o r b) refl
  kept-steps y (CNode o r g) = plain (loses_last_child s (alone x) y) (CNode o r g) refl
  kept-steps y (Frame f r None) = plain (loses_last_child s (alone x) y) (Frame f r None) refl
  kept-steps y (PageTable t None) = plain (loses_last_child s (alone x) y) (PageTable t None) refl
  kept-steps y (Tcb o) = plain (loses_last_child s (alone x) y) (Tcb o) refl
  kept-steps y (RootTable o) = plain (loses_last_child s (alone x) y) (RootTable o) refl
  kept-steps y InterruptControl = plain (loses_last_child s (alone x) y) InterruptControl refl
  kept-steps y (InterruptHandler line) = plain (loses_last_child s (alone x) y) (InterruptHandler line) refl

  -- ---- the slots, step by step

  abbrev pub first : Slots
  first = slots_unmapped s.slots x (capability_at s.slots x)

  abbrev pub second : Slots
  second = spliced first x

  abbrev pub third : Slots
  third = slots_ended gone second

  no-circle : parent_at s.slots x ≢ Some x
  no-circle is = absurd (omega (arith, depth-own_parent 256 (parent_at s.slots) x is, tree.shallow x))

  third-itself : third x ≡ Some empty_entry
  third-itself = elim (root_of gone) as (λ o. (option_map_or (λ root. without_root root second) o second) x ≡ Some empty_entry) [
    | None ↦ spliced-itself first x
    | Some root ↦ ap (option_map (uprooted root)) (spliced-itself first x)
  ]

  third-open : (y : ℕ) → y ≢ x → is_some (third y) ≡ is_some (s.slots y)
  third-open y other = (ended-at gone second y).0 ∙ (spliced-other first x y other).0 ∙ (unmapped-other s.slots x (capability_at s.slots x) y other).0

  third-capability : (y : ℕ) → y ≢ x → capability_at third y ≡ root_lost gone (region_lost (capability_at s.slots x) (capability_at s.slots y))
  third-capability y other =
      (ended-at gone second y).1
      ∙ ap (root_lost gone) ((spliced-other first x y other).1 ∙ (unmapped-other s.slots x (capability_at s.slots x) y other).1)

  third-adopted : (y : ℕ) → y ≢ x → parent_at third y ≡ adopted_parent x (parent_at s.slots x) (parent_at s.slots y)
  third-adopted y other =
      (ended-at gone second y).2
      ∙ (spliced-other first x y other).2
      ∙ ap (λ p. adopted_parent x p (parent_at first y)) (unmapped-itself s.slots x (capability_at s.slots x) refl).1
      ∙ ap (adopted_parent x (parent_at s.slots x)) (unmapped-other s.slots x (capability_at s.slots x) y other).2

  third-parent : (y : ℕ) → y ≢ x → parent_at third y ≡ new_parent s (alone x) y
  third-parent y other = third-adopted y other ∙ sym (outside-one x s.slots (parent_at s.slots y) no-circle)

  third-full : (z : ℕ) (p : ℕ) → z ≢ x → parent_at third z ≡ Some p → IsFull s.slots z
  third-full z p other is = elim (parent_at s.slots z) as (λ o. parent_at s.slots z ≡ o → IsFull s.slots z) [
    | None ↦ λ none. absurd (let clash : None ≡ Some p = ap (adopted_parent x (parent_at s.slots x)) (sym none) ∙ sym (third-adopted z other) ∙ is in cc)
    | Some q ↦ λ some. tree.child_full z q some
  ] refl

  -- ---- the watermark of a parent

  not-lost : (y : ℕ) → is_some_slot y (parent_at s.slots x) ≡ false → loses_last_child s (alone x) y ≡ false
  not-lost y apart = ap (λ b. b && not (found s.memory_bits (λ c. not (alone x c) && is_some_slot y (new_parent s (alone x) c))))
      (found-none s.memory_bits _ (λ c. elim (eqb_tells c x) [
        | inl here ↦ ap (λ b. b && is_some_slot y (parent_at s.slots c)) here.0 ∙ ap (λ n. is_some_slot y (parent_at s.slots n)) here.1 ∙ apart
        | inr other ↦ ap (λ b. b && is_some_slot y (parent_at s.slots c)) other.0
      ]))

  still-child : (y z : ℕ) → parent_at third z ≡ Some y → loses_last_child s (alone x) y ≡ false
  still-child y z is =
      let other : z ≢ x = λ same. absurd (let clash : None ≡ Some y = sym (ap (λ (n : ℕ). parent_of (third n)) same ∙ ap parent_of third-itself) ∙ is in cc) in
      let passes : (not (alone x z) && is_some_slot y (new_parent s (alone x) z)) ≡ true =
      join (not (alone x z)) _ (ap not (ne_eqb z x other)) (ap (is_some_slot y) (sym (third-parent z other) ∙ is) ∙ eq-eqb y y refl)
      in
      ap (λ b. found s.memory_bits (λ c. alone x c && is_some_slot y (parent_at s.slots c)) && not b)
      (found-at s.memory_bits z (λ c. not (alone x c) && is_some_slot y (new_parent s (alone x) c)) (near z (third-full z y other is)) passes)
      ∙ and-false _

  lost-child : (y : ℕ) → parent_at s.slots x ≡ Some y → IsChildless third y → loses_last_child s (alone x) y ≡ true
  lost-child y is childless =
      let none : found s.memory_bits (λ c. not (alone x c) && is_some_slot y (new_parent s (alone x) c)) ≡ false =
      found-none s.memory_bits _ (λ c. elim (eqb_tells c x) [
        | inl here ↦ ap (λ b. not b && is_some_slot y (new_parent s (alone x) c)) here.0
        | inr other ↦ elim (is_some_slot y (new_parent s (alone x) c))
            as (λ b. is_some_slot y (new_parent s (alone x) c) ≡ b → (not (alone x c) && b) ≡ false) [
              | true ↦ λ passes. absurd (childless c (third-parent c other.1 ∙ some-slot y _ passes))
              | false ↦ λ fails. and-false (not (alone x c))
            ] refl
      ]) in
      join (found s.memory_bits (λ c. alone x c && is_some_slot y (parent_at s.slots c))) _
      (found-at s.memory_bits x _ (near x full) (join (alone x x) _ (eq-eqb x x refl) (ap (is_some_slot y) is ∙ eq-eqb y y refl)))
      (ap not none)

  -- ---- the slots afterwards

  SameAs : ℕ → Option Entry → Type 0
  SameAs y e = (is_some e ≡ is_some (third y)) × (capability_of e ≡ rewound (loses_last_child s (alone x) y) (capability_at third y))
      × (parent_of e ≡ parent_at third y)

  parts-same : (y : ℕ) (e : Option Entry) → y ≢ x → SameAs y e → e ≡ (emptied s (alone x)).slots y
  unfolding SameAs
  parts-same y e other same =
      entry-parts e ((emptied s (alone x)).slots y)
      (same.0 ∙ third-open y other ∙ sym (open-mapped (kept_entry s (alone x) y) (s.slots y)) ∙ ap is_some (sym (there-out s (alone x) y (ne_eqb y x other))))
      (same.1 ∙ ap (rewound (loses_last_child s (alone x) y)) (third-capability y other) ∙ sym (kept-steps y (capability_at s.slots y))
      ∙ sym (capability-out s (alone x) y (ne_eqb y x other)))
      (same.2 ∙ third-parent y other ∙ sym (parent-out s (alone x) y (ne_eqb y x other)))

  untouched : (y : ℕ) → rewound (loses_last_child s (alone x) y) (capability_at third y) ≡ capability_at third y → SameAs y (third y)
  unfolding SameAs
  untouched y same = (refl, sym same, refl)

  elsewhere : (y p : ℕ) → parent_at s.slots x ≡ Some p → (p == y) ≡ false → SameAs y (third y)
  elsewhere y p is apart = untouched y (ap (λ b. rewound b (capability_at third y)) (not-lost y (ap (is_some_slot y) is ∙ apart))
      ∙ rewound-false (capability_at third y))

  rewound-here : (y : ℕ) → y ≢ x → parent_at s.slots x ≡ Some y → IsChildless third y → SameAs y (recapped third y (unused (capability_at third y)) y)
  unfolding SameAs
  rewound-here y other is childless =
      let here = entry-same third y (Some (record { capability = unused (capability_at third y); parent = parent_at third y })) in
      let opens : is_some (s.slots y) ≡ true = full-open s.slots y (tree.parent_full x y is) in (
        ap is_some here ∙ sym (third-open y other ∙ opens),
        ap capability_of here ∙ sym (ap (λ b. rewound b (capability_at third y)) (lost-child y is childless) ∙ rewound-true (capability_at third y)),
        ap parent_of here,
      )

  with-watermark : (y p : ℕ) (now : Slots) → y ≢ x → parent_at s.slots x ≡ Some p → WithWatermark third p now → SameAs y (now y)
  with-watermark y p now other is (still z child same) = subst (λ (n : Slots). SameAs y (n y)) (sym same) (elim (eqb_tells p y) [
    | inl here ↦ untouched y (ap (λ b. rewound b (capability_at third y)) (still-child y z (child ∙ ap (λ n. Some n) here.1))
        ∙ rewound-false (capability_at third y))
    | inr apart ↦ elsewhere y p is apart.0
  ])
  with-watermark y p now other is (no_untyped used same) = subst (λ (n : Slots). SameAs y (n y)) (sym same) (elim (eqb_tells p y) [
    | inl here ↦ untouched y (rewound-any (loses_last_child s (alone x) y) (capability_at third y)
        (subst (λ (n : ℕ). unused (capability_at third n) ≡ capability_at third n) here.1 used))
    | inr apart ↦ elsewhere y p is apart.0
  ])
  with-watermark y p now other is (reset childless same) = subst (λ (n : Slots). SameAs y (n y)) (sym same) (elim (eqb_tells p y) [
    | inl here ↦
        subst (λ (n : ℕ). SameAs y (recapped third n (unused (capability_at third n)) y)) (sym here.1)
        (rewound-here y other (is ∙ ap (λ n. Some n) here.1) (subst (λ (n : ℕ). IsChildless third n) here.1 childless))
    | inr apart ↦
        subst (λ (e : Option Entry). SameAs y e)
        (sym (entry-other third p (Some (record { capability = unused (capability_at third p); parent = parent_at third p })) y
        (λ same. apart.1 (sym same)))) (elsewhere y p is apart.0)
  ])

  itself : (p : ℕ) (now : Slots) → parent_at s.slots x ≡ Some p → WithWatermark third p now → now x ≡ Some empty_entry
  itself p now is (still z child same) = ap (λ (n : Slots). n x) same ∙ third-itself
  itself p now is (no_untyped used same) = ap (λ (n : Slots). n x) same ∙ third-itself
  itself p now is (reset childless same) =
      ap (λ (n : Slots). n x) same
      ∙ entry-other third p (Some (record { capability = unused (capability_at third p); parent = parent_at third p })) x
      (λ at. no-circle (is ∙ ap (λ n. Some n) (sym at)))
      ∙ third-itself

  pub stepped : (p : Option ℕ) (now : Slots) → parent_at s.slots x ≡ p → Rewinds p third now → (y : ℕ) → now y ≡ (emptied s (alone x)).slots y
  stepped None now is rewinds y = elim (eqb_tells y x) [
    | inl here ↦ ap now here.1 ∙ ap (λ (n : Slots). n x) rewinds ∙ third-itself ∙ sym (there-in s (alone x) x (eq-eqb x x refl))
        ∙ ap (emptied s (alone x)).slots (sym here.1)
    | inr other ↦ parts-same y (now y) other.1
        (subst (λ (n : Slots). SameAs y (n y)) (sym rewinds)
        (untouched y (ap (λ b. rewound b (capability_at third y)) (not-lost y (ap (is_some_slot y) is)) ∙ rewound-false (capability_at third y))))
  ]
  stepped (Some p) now is rewinds y = elim (eqb_tells y x) [
    | inl here ↦ ap now here.1 ∙ itself p now is rewinds ∙ sym (there-in s (alone x) x (eq-eqb x x refl)) ∙ ap (emptied s (alone x)).slots (sym here.1)
    | inr other ↦ parts-same y (now y) other.1 (with-watermark y p now other.1 is rewinds)
  ]
