-- The map of a thread's own slots holds what the kernel's slots hold there.
use Rattle.std.proofs.Common.{ℕ, ◌≡◌, ◌∙◌, ◌==◌, ◌+◌, ◌-◌, ◌/◌, ◌^◌, ◌<◌, ◌&&◌, ◌||◌, Bool, true, false, not, if◌then◌else◌, inl, inr, Option, Some, None}
use Rattle.std.proofs.Common.{option_map, List, [], ◌∷◌, refl, sym, ap, arith}
use Rattle.std.specs.Option.{option_map_or}
use Rattle.std.specs.List.{find, list_any}
use Rattle.std.proofs.lemmas.Bool.Decides.{eqb_tells, nat_tests}
use Rattle.model.specs.Acceptance.NotedKernel.{kernel_entry, key_of, noted_entry, noted_slots, slots_of_cnode, stands_in}
use Rattle.model.specs.Acceptance.NotedStates.{NotedSlot, SlotKey, is_foreign, is_own_cnode, is_same_key, slot_at}
use Rattle.model.specs.Acceptance.ThreadRules.{reached}
use Rattle.model.specs.Acceptance.WellFormed.{radix_of}
use Rattle.model.specs.Capabilities.Slots.{capability_at, empty_entry, is_within}
use Rattle.model.specs.Images.Described.{described}
use Rattle.model.specs.Images.Image.{Image, Thread}
use Rattle.model.specs.Images.Places.{cnode_slot, offset_of, type_at}
use Rattle.model.specs.Kernel.State.{slot_of}
use Rattle.model.specs.declared.capabilities.Cap.{Cap}
use Rattle.model.specs.declared.capabilities.Cap.TheVariants.{Empty, Untyped, Endpoint, Notification, CNode, Frame, PageTable, Tcb, RootTable, InterruptControl}
use Rattle.model.specs.declared.capabilities.Cap.TheVariants.{InterruptHandler}
use Rattle.model.specs.declared.slot_entries.Entry.{Entry}
use Rattle.typestate.specs.declared.window.Window.{Window}
use Rattle.typestate.specs.Spaces.{AreWindows, IsWindow, NothingLeadsOutside, entry_in, is_among, key_in, key_within, own_slots, stands_within}
use Rattle.program_rules.proofs.CallLookups.{AgreeInside}

-- ---- keys

abbrev key_at : Image → ℕ → ℕ → SlotKey
key_at image slot cnode = record { cnode = cnode; index = slot - cnode_slot image cnode 0 }

pub stands-same : (image : Image) (cnode : ℕ) (w : Window) (slot : ℕ) → IsWindow image cnode w → stands_within slot w ≡ stands_in image slot cnode
stands-same image cnode w slot is =
    ap (λ offset. is_within (slot_of offset 0) (2 ^ w.radix) slot) is.place
    ∙ ap (λ (radix : Option ℕ). is_within (cnode_slot image cnode 0) (option_map_or (λ r. 2 ^ r) radix 0) slot) (sym is.size)

key-same : (image : Image) (cnode : ℕ) (w : Window) (slot : ℕ) → IsWindow image cnode w → key_within slot w ≡ key_at image slot cnode
key-same image cnode w slot is =
    ap (λ n. let key : SlotKey = record { cnode = n; index = slot - slot_of w.offset 0 } in key) is.object
    ∙ ap (λ offset. let key : SlotKey = record { cnode = cnode; index = slot - slot_of offset 0 } in key) is.place

pub keys-same : (image : Image) (cnodes : List ℕ) (windows : List Window) (slot : ℕ) → AreWindows image cnodes windows →
    key_in windows slot ≡ key_of image cnodes slot
keys-same image [] [] slot are = refl
keys-same image [] (w ∷ ws) slot are = absurd are
keys-same image (cnode ∷ cnodes) [] slot are = absurd are
keys-same image (cnode ∷ cnodes) (w ∷ ws) slot are =
    ap (λ b. option_map (key_within slot) (if b then Some w else find (stands_within slot) ws)) (stands-same image cnode w slot are.0)
    ∙ (elim (stands_in image slot cnode) as (λ b. option_map (key_within slot) (if b then Some w else find (stands_within slot) ws) ≡ option_map
    (key_at image slot) (if b then Some cnode else find (stands_in image slot) cnodes)) [
      | true ↦ ap (λ (key : SlotKey). Some key) (key-same image cnode w slot are.0)
      | false ↦ keys-same image cnodes ws slot are.1
    ])

-- ---- a slot of a CNode that is the thread's has a key

radix-is : (found : Option ℕ) (radix : ℕ) → option_map_or (λ own. own == radix) found false ≡ true → found ≡ Some radix
radix-is None radix is = absurd (let clash : false ≡ true = is in cc)
radix-is (Some own) radix is = elim (eqb_tells own radix) [
  | inl same ↦ ap (λ n. Some n) same.1
  | inr other ↦ absurd (let clash : false ≡ true = sym other.0 ∙ is in cc)
]

stands-inside : (image : Image) (cnode offset radix index : ℕ) → offset_of image cnode ≡ offset → radix_of (type_at image cnode) ≡ Some radix →
    index < 2 ^ radix
    → stands_in image (offset / 16 + index) cnode ≡ true
stands-inside image cnode offset radix index place kind below =
    ap (λ n. is_within (slot_of n 0) (slots_of_cnode image cnode) (offset / 16 + index)) place
    ∙ ap (λ (r : Option ℕ). is_within (slot_of offset 0) (option_map_or (λ own. 2 ^ own) r 0) (offset / 16 + index)) kind
    ∙ inside (offset / 16) (2 ^ radix) index below
  where
    inside : (first count n : ℕ) → n < count → is_within (first + 0) count (first + n) ≡ true
    inside first count n less = grind (arith, nat_tests)

pub own-key : (image : Image) (cnodes : List ℕ) (offset radix index : ℕ) → is_own_cnode image cnodes offset radix ≡ true → index < 2 ^ radix
    → (key : SlotKey) × (key_of image cnodes (offset / 16 + index) ≡ Some key)
own-key image [] offset radix index mine below = absurd (let clash : false ≡ true = mine in cc)
own-key image (cnode ∷ cnodes) offset radix index mine below =
    let slot = offset / 16 + index in
    let rest = is_own_cnode image cnodes offset radix in
    let behind : rest ≡ true → (key : SlotKey) × (key_of image cnodes slot ≡ Some key) = λ more. own-key image cnodes offset radix index more below in
    let at_least : (b : Bool) → (b ≡ false → rest ≡ true) → (b ≡ true → stands_in image slot cnode ≡ true) → (key : SlotKey)
    × (key_of image (cnode ∷ cnodes) slot ≡ Some key)
    = λ b later here. first-or-rest image cnode cnodes slot b (λ none. behind (later none)) here in
    elim (eqb_tells (offset_of image cnode) offset) [
      | inl same ↦ elim (option_map_or (λ own. own == radix) (radix_of (type_at image cnode)) false)
          as (λ b. option_map_or (λ own. own == radix) (radix_of (type_at image cnode)) false ≡ b → ((offset_of image cnode == offset) && b || rest) ≡ true →
          (key : SlotKey) × (key_of image (cnode ∷ cnodes) slot ≡ Some key)) [
            | true ↦ λ is _. at_least true (λ clash. absurd (let no : true ≡ false = clash in cc))
                (λ _. stands-inside image cnode offset radix index same.1 (radix-is (radix_of (type_at image cnode)) radix is) below)
            | false ↦ λ is any. at_least false (λ _. sym (ap (λ b. b && false || rest) same.0) ∙ any) (λ clash. absurd (let no : false ≡ true = clash in cc))
          ] refl mine
      | inr other ↦ at_least false (λ _. sym (ap (λ b. b && option_map_or (λ own. own == radix) (radix_of (type_at image cnode)) false || rest) other.0) ∙ mine)
          (λ clash. absurd (let no : false ≡ true = clash in cc))
    ]
  where
    first-or-rest : (image : Image) (cnode : ℕ) (cnodes : List ℕ) (slot : ℕ) (b : Bool) → (b ≡ false → (key : SlotKey) × (key_of image cnodes slot ≡ Some key))
        → (b ≡ true → stands_in image slot cnode ≡ true) → (key : SlotKey) × (key_of image (cnode ∷ cnodes) slot ≡ Some key)
    first-or-rest image cnode cnodes slot true later here =
        (key_at image slot cnode, ap (λ b. option_map (key_at image slot) (if b then Some cnode else find (stands_in image slot) cnodes)) (here refl))
    first-or-rest image cnode cnodes slot false later here =
        elim (stands_in image slot cnode) as (λ b. (key : SlotKey)
        × (option_map (key_at image slot) (if b then Some cnode else find (stands_in image slot) cnodes) ≡ Some key)) [
          | true ↦ (key_at image slot cnode, refl)
          | false ↦ later refl
        ]

-- ---- what the slots hold

abbrev pub held_at : List NotedSlot → SlotKey → Cap
held_at slots key = option_map_or (λ s. s.capability) (slot_at slots key) Empty

pub noted-holds : (image : Image) (t : Thread) (slots : List NotedSlot) (slot : ℕ) (key : SlotKey) → key_of image (reached image t) slot ≡ Some key
    → capability_at (noted_slots image t slots) slot ≡ held_at slots key
noted-holds image t slots slot key is =
    ap (λ (k : Option SlotKey). option_map_or (λ (held : Entry). held.capability)
    (option_map_or (λ (k : SlotKey). Some (noted_entry image t slots k)) k ((described image).slots slot)) Empty) is
    ∙ entry-holds image t slots key
  where
    entry-holds : (image : Image) (t : Thread) (slots : List NotedSlot) (key : SlotKey) → (noted_entry image t slots key).capability ≡ held_at slots key
    entry-holds image t slots key = holds (slot_at slots key)
      where
        holds : (found : Option NotedSlot) → (option_map_or (kernel_entry image t) found empty_entry).capability ≡ option_map_or (λ s. s.capability) found Empty
        holds None = refl
        holds (Some s) = refl

pub own-holds : (windows : List Window) (slots : List NotedSlot) (slot : ℕ) (key : SlotKey) → key_in windows slot ≡ Some key
    → capability_at (own_slots windows slots) slot ≡ held_at slots key
own-holds windows slots slot key is = ap (λ (k : Option SlotKey). option_map_or (λ (held : Entry). held.capability) (option_map (entry_in slots) k) Empty) is

-- ---- no slot leads outside

pub found-passes : {A : Type 0} (test found : A → Bool) (xs : List A) (x : A) → list_any test xs ≡ false → find found xs ≡ Some x → test x ≡ false
found-passes test found [] x none is = absurd (let clash : None ≡ Some x = is in cc)
found-passes test found (y ∷ ys) x none is =
    elim (found y) as (λ b. (if b then Some y else find found ys) ≡ Some x → test x ≡ false) [
      | true ↦ λ here. let same : y ≡ x = cc in ap test (sym same) ∙ or-first (test y) (list_any test ys) none
      | false ↦ λ later. found-passes test found ys x (or-rest (test y) (list_any test ys) none) later
    ] is
  where
    or-first : (a b : Bool) → (a || b) ≡ false → a ≡ false
    or-first true b clash = clash
    or-first false b none = refl

    or-rest : (a b : Bool) → (a || b) ≡ false → b ≡ false
    or-rest true b clash = absurd (let no : true ≡ false = clash in cc)
    or-rest false b none = none

stays-inside : (image : Image) (t : Thread) (capability : Cap) → is_foreign image t (reached image t) capability ≡ false
    → is_among (is_own_cnode image (reached image t)) capability ≡ true
stays-inside image t Empty own = refl
stays-inside image t (Untyped _ _ _) own = refl
stays-inside image t (Endpoint _ _ _) own = refl
stays-inside image t (Notification _ _ _) own = refl
stays-inside image t (CNode offset radix guard) own = not-false (is_own_cnode image (reached image t) offset radix) own
  where
    not-false : (b : Bool) → not b ≡ false → b ≡ true
    not-false true is = refl
    not-false false clash = absurd (let no : true ≡ false = clash in cc)
stays-inside image t (Frame _ _ _) own = refl
stays-inside image t (PageTable _ _) own = refl
stays-inside image t (Tcb _) own = refl
stays-inside image t (RootTable _) own = refl
stays-inside image t InterruptControl own = refl
stays-inside image t (InterruptHandler _) own = refl

pub held-inside : (image : Image) (t : Thread) (slots : List NotedSlot) (key : SlotKey) → NothingLeadsOutside image t slots
    → is_among (is_own_cnode image (reached image t)) (held_at slots key) ≡ true
held-inside image t slots key none =
    elim (slot_at slots key) as (λ found. slot_at slots key ≡ found →
    is_among (is_own_cnode image (reached image t)) (option_map_or (λ s. s.capability) found Empty) ≡ true) [
      | None ↦ λ _. refl
      | Some s ↦ λ is. stays-inside image t s.capability
          (found-passes (λ (x : NotedSlot). is_foreign image t (reached image t) x.capability) (λ (x : NotedSlot). is_same_key x.key key) slots s none is)
    ] refl

-- The two maps agree inside of the thread's CNodes.
pub slots-agree : (image : Image) (t : Thread) (windows : List Window) (slots : List NotedSlot) → AreWindows image (reached image t) windows →
    NothingLeadsOutside image t slots
    → AgreeInside (noted_slots image t slots) (own_slots windows slots) (is_own_cnode image (reached image t))
slots-agree image t windows slots are none = record {
  same = λ offset radix index mine below.
      let key = own-key image (reached image t) offset radix index mine below in
      noted-holds image t slots (offset / 16 + index) key.0 key.1
      ∙ sym (own-holds windows slots (offset / 16 + index) key.0 (keys-same image (reached image t) windows (offset / 16 + index) are ∙ key.1));
  inside = λ offset radix index mine below.
      let key = own-key image (reached image t) offset radix index mine below in
      ap (is_among (is_own_cnode image (reached image t))) (noted-holds image t slots (offset / 16 + index) key.0 key.1) ∙ held-inside image t slots key.0 none;
}
