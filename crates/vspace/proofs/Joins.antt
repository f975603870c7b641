-- The walk through the tables finds what the mappings that capabilities hold say.
use Rattle.std.proofs.Common.{◌≡◌, ◌∙◌, ℕ, zero, suc, ◌+◌, ◌-◌, ◌*◌, ◌/◌, ◌%◌, ◌^◌, ◌<◌, ◌≤◌, ◌==◌, ◌&&◌, ◌||◌, ◌⊎◌, inl, inr, Bool, true, false, not, Option}
use Rattle.std.proofs.Common.{Some, None, List, [], ◌∷◌, length, get_or, refl, sym, ap, subst, arith}
use Rattle.std.specs.Prelude.{filter_map, nat_le, nat_lt, if◌then◌else◌, option_and_then}
use Rattle.std.proofs.lemmas.Bool.{eq-eqb}
use Rattle.std.proofs.lemmas.Bool.Decides.{nat_tests}
use Rattle.std.proofs.lemmas.List.FromFn.{get_or-range_with_len, length-range_with_len}
use Rattle.model.specs.Kernel.AddressSpaces.{MappedFrame, allows, mapped, maps_page, page_of, place_in, place_under}
use Rattle.model.specs.Shared.Bytes.{word_at}
use Rattle.model.specs.Capabilities.CapabilityWords.{AreMappingRights, IsCapability}
use Rattle.model.specs.Kernel.State.{with_slots}
use Rattle.model.specs.Kernel.Scheduling.{head_of}
use Rattle.model.specs.Capabilities.Slots.{IsFull, Slots, capability_at, is_empty}
use Rattle.model.specs.Kernel.State.{State, slot_numbers}
use Rattle.model.specs.Machine.Sv32.{entry_at, has_bit, has_right, is_leaf, leaf_place, leaf_word, page_address, permits, table_word, walk}
use Rattle.model.specs.declared.capabilities.Cap.{Cap}
use Rattle.model.specs.declared.capabilities.Cap.TheVariants.{Empty, Untyped, Endpoint, Notification, CNode, Frame, PageTable, Tcb, RootTable, InterruptControl}
use Rattle.model.specs.declared.capabilities.Cap.TheVariants.{InterruptHandler}
use Rattle.model.specs.declared.instructions.Access.{Access}
use Rattle.model.specs.declared.instructions.Access.TheVariants.{Load, Store, Fetch}
use Rattle.model.specs.declared.rights.Rights.{Rights}
use Rattle.vspace.specs.Tables.{AreNear, Holds, MapsFrame, MapsTable, TablesAgree}
use Rattle.vspace.proofs.Entries.{entry_at-valid, entry_at-zero, leaf_word-valid, table_word-place, table_word-valid}
use Rattle.vspace.proofs.Taken.{maps_page-cases, page-answer, page-leaf}

-- ---- what a leaf permits

r_bit : (f a : ℕ) → leaf_word f a / 2 ^ 1 % 2 ≡ a / 2 % 2
r_bit f a = omega arith

w_bit : (f a : ℕ) → leaf_word f a / 2 ^ 2 % 2 ≡ a % 2
w_bit f a = omega arith

x_bit : (f a : ℕ) → leaf_word f a / 2 ^ 3 % 2 ≡ a / 4 % 2
x_bit f a = omega arith

u_bit : (f a : ℕ) → leaf_word f a / 2 ^ 4 % 2 ≡ 1
u_bit f a = omega arith

a_bit : (f a : ℕ) → leaf_word f a / 2 ^ 6 % 2 ≡ 1
a_bit f a = omega arith

d_bit : (f a : ℕ) → leaf_word f a / 2 ^ 7 % 2 ≡ 1
d_bit f a = omega arith

-- by a mapping's rights, as numbers
abbrev right_of : Access → ℕ → Bool
right_of Load a = a / 2 % 2 == 1
right_of Store a = a % 2 == 1
right_of Fetch a = a / 4 % 2 == 1

and_true : (b : Bool) → (b && true) ≡ b
and_true true = refl
and_true false = refl

leaf-right : (access : Access) (f a : ℕ) → has_right (leaf_word f a) access ≡ right_of access a
leaf-right Load f a = ap (λ (n : ℕ). n == 1) (r_bit f a)
leaf-right Store f a = ap (λ (n : ℕ). (n == 1) && (leaf_word f a / 2 ^ 7 % 2 == 1)) (w_bit f a) ∙ ap (λ (n : ℕ). (a % 2 == 1) && (n == 1)) (d_bit f a)
    ∙ and_true (a % 2 == 1)
leaf-right Fetch f a = ap (λ (n : ℕ). n == 1) (x_bit f a)

abbrev SameRight : Access → ℕ → Type 0
SameRight access a = right_of access a ≡ allows access (record { 0 = a })

at_2 : (access : Access) → SameRight access 2
at_2 Load = refl
at_2 Store = refl
at_2 Fetch = refl

at_3 : (access : Access) → SameRight access 3
at_3 Load = refl
at_3 Store = refl
at_3 Fetch = refl

at_4 : (access : Access) → SameRight access 4
at_4 Load = refl
at_4 Store = refl
at_4 Fetch = refl

at_6 : (access : Access) → SameRight access 6
at_6 Load = refl
at_6 Store = refl
at_6 Fetch = refl

at_7 : (access : Access) → SameRight access 7
at_7 Load = refl
at_7 Store = refl
at_7 Fetch = refl

right-allowed : (access : Access) (a : ℕ) → AreMappingRights a → SameRight access a
right-allowed access a (inl e) = subst (SameRight access) (sym e) (at_2 access)
right-allowed access a (inr (inl e)) = subst (SameRight access) (sym e) (at_3 access)
right-allowed access a (inr (inr (inl e))) = subst (SameRight access) (sym e) (at_4 access)
right-allowed access a (inr (inr (inr (inl e)))) = subst (SameRight access) (sym e) (at_6 access)
right-allowed access a (inr (inr (inr (inr e)))) = subst (SameRight access) (sym e) (at_7 access)

reads_or_runs : (a : ℕ) → AreMappingRights a → ((a / 2 % 2 == 1) || (a / 4 % 2 == 1)) ≡ true
reads_or_runs a (inl e) = subst (λ (n : ℕ). ((n / 2 % 2 == 1) || (n / 4 % 2 == 1)) ≡ true) (sym e) refl
reads_or_runs a (inr (inl e)) = subst (λ (n : ℕ). ((n / 2 % 2 == 1) || (n / 4 % 2 == 1)) ≡ true) (sym e) refl
reads_or_runs a (inr (inr (inl e))) = subst (λ (n : ℕ). ((n / 2 % 2 == 1) || (n / 4 % 2 == 1)) ≡ true) (sym e) refl
reads_or_runs a (inr (inr (inr (inl e)))) = subst (λ (n : ℕ). ((n / 2 % 2 == 1) || (n / 4 % 2 == 1)) ≡ true) (sym e) refl
reads_or_runs a (inr (inr (inr (inr e)))) = subst (λ (n : ℕ). ((n / 2 % 2 == 1) || (n / 4 % 2 == 1)) ≡ true) (sym e) refl

both_true : (b : Bool) (place : Option ℕ) → (if b && true && true then place else None) ≡ (if b then place else None)
both_true true place = refl
both_true false place = refl

leaf-permits : (access : Access) (f : ℕ) (r : Rights) → AreMappingRights r.0 → permits (leaf_word f r.0) access ≡ allows access r
leaf-permits access f r known =
    ap (λ (n : ℕ). (n == 1) && has_bit (leaf_word f r.0) 6 && has_right (leaf_word f r.0) access) (u_bit f r.0)
    ∙ ap (λ (n : ℕ). (n == 1) && has_right (leaf_word f r.0) access) (a_bit f r.0)
    ∙ leaf-right access f r.0 ∙ right-allowed access r.0 known

leaf-is : (f a : ℕ) → AreMappingRights a → is_leaf (leaf_word f a) ≡ true
leaf-is f a known = ap (λ (n : ℕ). (n == 1) || has_bit (leaf_word f a) 3) (r_bit f a) ∙ ap (λ (n : ℕ). (a / 2 % 2 == 1) || (n == 1)) (x_bit f a)
    ∙ reads_or_runs a known

leaf-address : (f a : ℕ) → f % 2 ^ 12 ≡ 0 → a < 8 → page_address (leaf_word f a) ≡ 2 ^ 31 + f
leaf-address f a aligned few = omega (arith, aligned, few)

few_rights : (a : ℕ) → AreMappingRights a → a < 8
few_rights a known = grind arith

-- a frame with what may be done with it
abbrev standing : ℕ → Rights → MappedFrame
standing f allowed = record { frame = f; allowed = allowed }

-- the byte in the page of a leaf
leaf-byte : (memory : List ℕ) (f : ℕ) (r : Rights) (address : ℕ) (access : Access) → f % 2 ^ 12 ≡ 0 → f + 2 ^ 12 ≤ length memory → AreMappingRights r.0 →
    leaf_place memory (leaf_word f r.0) 12 address access ≡ place_in access address (standing f r)
unfolding leaf_place
leaf-byte memory f r address access aligned within known =
    let at = leaf-address f r.0 aligned (few_rights r.0 known) in
    let o = address % 2 ^ 12 in
    let above : nat_le (2 ^ 31) (2 ^ 31 + f + address % 2 ^ 12) ≡ true = grind (arith, nat_tests) in
    let back : 2 ^ 31 + f + address % 2 ^ 12 - 2 ^ 31 ≡ f + address % 2 ^ 12 = omega arith in
    let even : ((2 ^ 31 + f) % 2 ^ 12 == 0) ≡ true = eq-eqb ((2 ^ 31 + f) % 2 ^ 12) 0 (omega (arith, aligned)) in
    let inside : nat_lt (f + address % 2 ^ 12) (length memory) ≡ true = grind (arith, nat_tests) in
    rw (at, above, back, leaf-permits access f r known, even, inside) (both_true (allows access r) (Some (f + address % 2 ^ 12)))

-- ---- the walk

walk-no_table : (memory : List ℕ) (root address : ℕ) (access : Access) → entry_at memory root (address / 2 ^ 22) ≡ None → walk memory root address access ≡ None
unfolding walk
walk-no_table memory root address access none = rw none refl

-- after the root table's pointer to a table
abbrev last_step : List ℕ → ℕ → Access → ℕ → Option ℕ
last_step memory address access last = if is_leaf last then leaf_place memory last 12 address access else None

table-not_leaf : (table : ℕ) → is_leaf (table_word table) ≡ false
table-not_leaf table =
    let r : (table_word table / 2 ^ 1 % 2 == 1) ≡ false = grind (arith, nat_tests) in
    let x : (table_word table / 2 ^ 3 % 2 == 1) ≡ false = grind (arith, nat_tests) in
    rw (r, x) refl

walk-table : (memory : List ℕ) (root table address : ℕ) (access : Access) → entry_at memory root (address / 2 ^ 22) ≡ Some (table_word table) →
    table % 2 ^ 12 ≡ 0 → walk memory root address access ≡ option_and_then (last_step memory address access) (entry_at memory table (address / 2 ^ 12 % 2 ^ 10))
unfolding walk
walk-table memory root table address access there aligned =
    let place = table_word-place table aligned in
    rw (there, table-not_leaf table, place) refl

-- no page under a region without a page table
region_of_page : (address : ℕ) → address / 2 ^ 12 / 2 ^ 10 ≡ address / 2 ^ 22
region_of_page address = omega arith

unmapped-region : (slots : Slots) (memory : List ℕ) (root address : ℕ) → TablesAgree slots memory → word_at memory (root + 4 * (address / 2 ^ 22)) ≡ 0 →
    (y f : ℕ) (r a : Rights) → capability_at slots y ≡ Frame f r (Some (record { root = root; page = address / 2 ^ 12; rights = a })) → ⊥
unmapped-region slots memory root address agree zero_there y f r a held =
    let leaf = agree.leaves y f r _ held in
    let pointer = agree.pointers leaf.1.slot leaf.0 _ leaf.1.held in
    let here : word_at memory (root + 4 * (address / 2 ^ 22)) ≡ table_word leaf.0 = ap (λ (n : ℕ). word_at memory (root + 4 * n)) (sym (region_of_page address))
    ∙ pointer in
    absurd (omega (arith, zero_there, here))

-- what the walk finds: the byte in the one frame that is mapped at the page, or nothing where none is
pub record Finds (slots : Slots) (memory : List ℕ) (root address : ℕ) (access : Access) : Type 0 where
  pub maps : MapsFrame slots root (address / 2 ^ 12)
  pub finds : walk memory root address access ≡ place_in access address (standing maps.frame maps.allowed)

pub record FindsNone (slots : Slots) (memory : List ℕ) (root address : ℕ) (access : Access) : Type 0 where
  pub none : (y : ℕ) → maps_page root (address / 2 ^ 12) (capability_at slots y) ≡ false
  pub finds : walk memory root address access ≡ None

walk-page : (slots : Slots) (memory : List ℕ) (root table address : ℕ) (access : Access) → TablesAgree slots memory →
    MapsTable slots root (address / 2 ^ 12 / 2 ^ 10) table →
    walk memory root address access ≡ option_and_then (last_step memory address access) (entry_at memory table (address / 2 ^ 12 % 2 ^ 10)) →
    Finds slots memory root address access ⊎ FindsNone slots memory root address access
walk-page slots memory root table address access agree maps step =
    elim (page-answer slots memory root (address / 2 ^ 12) table agree maps) [
      | inl free ↦ inr (record { none = free.1; finds = step ∙ ap (option_and_then (last_step memory address access)) free.0 })
      | inr there ↦
          let frame = there.2 in
          let fine : IsCapability (Frame frame.frame frame.frame_rights (Some (record { root = root; page = address / 2 ^ 12; rights = frame.allowed }))) =
          subst (λ (c : Cap). IsCapability c) frame.held (agree.valid frame.slot) in
          let stands = agree.tables maps.slot table _ maps.held in
          let word = page-leaf slots memory root (address / 2 ^ 12) table agree maps frame.slot frame.frame frame.frame_rights frame.allowed frame.held in
          let entry = entry_at-valid memory table (address / 2 ^ 12 % 2 ^ 10) (leaf_word frame.frame frame.allowed.0) (omega (arith, stands.within)) word
          (leaf_word-valid frame.frame frame.allowed.0 fine.2.2) in
          let byte = leaf-byte memory frame.frame frame.allowed address access fine.0.0 (agree.frames frame.slot frame.frame frame.frame_rights _ frame.held)
          fine.2.2 in
          let chosen : last_step memory address access (leaf_word frame.frame frame.allowed.0) ≡ place_in access address (standing frame.frame frame.allowed) =
          ap (λ (b : Bool). if b then leaf_place memory (leaf_word frame.frame frame.allowed.0) 12 address access else None)
          (leaf-is frame.frame frame.allowed.0 fine.2.2) ∙ byte in
          inl (record { maps = frame; finds = step ∙ ap (option_and_then (last_step memory address access)) entry ∙ chosen })
    ]

pub walk-answer : (slots : Slots) (memory : List ℕ) (root address : ℕ) (access : Access) → TablesAgree slots memory → Holds slots (RootTable root) →
    address < 2 ^ 32 → Finds slots memory root address access ⊎ FindsNone slots memory root address access
walk-answer slots memory root address access agree rooted near =
    let stands = agree.roots rooted.0 root rooted.1 in
    let few : address / 2 ^ 22 < 2 ^ 10 = omega (arith, near) in
    elim (agree.only_pointers rooted.0 root (address / 2 ^ 22) rooted.1 few) [
      | inl blank ↦ inr (record {
        none = λ y. elim (maps_page-cases root (address / 2 ^ 12) (capability_at slots y)) [
          | inl none ↦ none
          | inr there ↦ absurd (unmapped-region slots memory root address agree blank y there.0 there.1 there.2 there.3)
        ];
        finds = walk-no_table memory root address access (entry_at-zero memory root (address / 2 ^ 22) blank);
      })
      | inr maps ↦
          let table = agree.tables maps.1.slot maps.0 _ maps.1.held in
          let entry = entry_at-valid memory root (address / 2 ^ 22) (table_word maps.0) (omega (arith, stands.within, few))
          (agree.pointers maps.1.slot maps.0 _ maps.1.held) (table_word-valid maps.0) in
          let same : MapsTable slots root (address / 2 ^ 12 / 2 ^ 10) maps.0 =
          subst (λ (n : ℕ). MapsTable slots root n maps.0) (sym (region_of_page address)) maps.1 in
          walk-page slots memory root maps.0 address access agree same (walk-table memory root maps.0 address access entry table.aligned)
    ]

-- ---- the one mapping of a page, among the slots of a state

head-none : (f : ℕ → Option MappedFrame) (xs : List ℕ) → ((y : ℕ) → f y ≡ None) → head_of (filter_map f xs) ≡ None
head-none f [] none = refl
head-none f (x ∷ xs) none = rw (none x) (head-none f xs none)

abbrev OneValue : (ℕ → Option MappedFrame) → MappedFrame → Type 0
OneValue f v = (y : ℕ) → (f y ≡ None) ⊎ (f y ≡ Some v)

pub head-one : (f : ℕ → Option MappedFrame) (v : MappedFrame) (xs : List ℕ) (k : ℕ) → OneValue f v → k < length xs → f (get_or xs k 0) ≡ Some v →
    head_of (filter_map f xs) ≡ Some v
head-one f v [] k one less there = absurd (omega arith)
head-one f v (x ∷ xs) zero one less there = rw there refl
head-one f v (x ∷ xs) (suc k) one less there = elim (one x) [
  | inl none ↦ rw none (head-one f v xs k one (omega arith) there)
  | inr some ↦ rw some refl
]

page_of-none : (root page : ℕ) (c : Cap) → maps_page root page c ≡ false → page_of root page c ≡ None
page_of-none root page (Frame f r (Some m)) free = ap (λ (b : Bool). if b then Some (standing f m.rights) else None) free
page_of-none root page (Frame f r None) free = refl
page_of-none root page (PageTable _ _) free = refl
page_of-none root page Empty free = refl
page_of-none root page (Untyped _ _ _) free = refl
page_of-none root page (Endpoint _ _ _) free = refl
page_of-none root page (Notification _ _ _) free = refl
page_of-none root page (CNode _ _ _) free = refl
page_of-none root page (Tcb _) free = refl
page_of-none root page (RootTable _) free = refl
page_of-none root page InterruptControl free = refl
page_of-none root page (InterruptHandler _) free = refl

page_of-own : (root page f : ℕ) (r a : Rights) → page_of root page (Frame f r (Some (record { root = root; page = page; rights = a }))) ≡ Some (standing f a)
page_of-own root page f r a = rw (eq-eqb root root refl, eq-eqb page page refl) refl

abbrev found_at : Slots → ℕ → ℕ → ℕ → Option MappedFrame
found_at slots root page y = page_of root page (capability_at slots y)

own-value : (slots : Slots) (root page : ℕ) (maps : MapsFrame slots root page) → found_at slots root page maps.slot ≡ Some (standing maps.frame maps.allowed)
own-value slots root page maps = ap (page_of root page) maps.held ∙ page_of-own root page maps.frame maps.frame_rights maps.allowed

one-value : (slots : Slots) (memory : List ℕ) (root page : ℕ) → TablesAgree slots memory → (maps : MapsFrame slots root page) →
    OneValue (found_at slots root page) (standing maps.frame maps.allowed)
one-value slots memory root page agree maps y = elim (maps_page-cases root page (capability_at slots y)) [
  | inl none ↦ inl (page_of-none root page (capability_at slots y) none)
  | inr there ↦
      let same = agree.one_frame y maps.slot there.0 maps.frame there.1 maps.frame_rights _ _ there.3 maps.held refl refl in
      inr (ap (found_at slots root page) same ∙ own-value slots root page maps)
]

pub mapped-found : (s : State) (slots : Slots) (memory : List ℕ) (root page : ℕ) → AreNear s slots → TablesAgree slots memory →
    (maps : MapsFrame slots root page) → mapped (with_slots s slots) root page ≡ Some (standing maps.frame maps.allowed)
unfolding slot_numbers
mapped-found s slots memory root page near agree maps =
    let full : IsFull slots maps.slot = ap (λ (c : Cap). not (is_empty c)) maps.held in
    let less : maps.slot < 2 ^ s.memory_bits / 16 = near maps.slot full in
    let at = get_or-range_with_len 0 (2 ^ s.memory_bits / 16) maps.slot 0 less in
    let size = length-range_with_len 0 (2 ^ s.memory_bits / 16) in
    head-one (found_at slots root page) (standing maps.frame maps.allowed) _ maps.slot (one-value slots memory root page agree maps) (omega (arith, size, less))
    (ap (found_at slots root page) (at ∙ omega arith) ∙ own-value slots root page maps)

pub mapped-none : (s : State) (slots : Slots) (root page : ℕ) → ((y : ℕ) → maps_page root page (capability_at slots y) ≡ false) →
    mapped (with_slots s slots) root page ≡ None
unfolding slot_numbers
mapped-none s slots root page none = head-none (found_at slots root page) _ (λ y. page_of-none root page (capability_at slots y) (none y))

-- the walk through the tables in memory gives the place that the mappings say
pub walk-place : (s : State) (slots : Slots) (memory : List ℕ) (root address : ℕ) (access : Access) → AreNear s slots → TablesAgree slots memory →
    Holds slots (RootTable root) → address < 2 ^ 32 → walk memory root address access ≡ place_under (with_slots s slots) root access address
walk-place s slots memory root address access near agree rooted small = elim (walk-answer slots memory root address access agree rooted small) [
  | inl found ↦ found.finds ∙ sym (ap (option_and_then (place_in access address)) (mapped-found s slots memory root (address / 2 ^ 12) near agree found.maps))
  | inr free ↦ free.finds ∙ sym (ap (option_and_then (place_in access address)) (mapped-none s slots root (address / 2 ^ 12) free.none))
]
