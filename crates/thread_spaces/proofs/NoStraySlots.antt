-- Where no slot is stray, each is full and one of the thread's CNodes', and so is what it was derived from.
use Rattle.std.proofs.Common.{ℕ, zero, suc, ◌≡◌, ◌∙◌, ◌+◌, ◌-◌, ◌*◌, ◌/◌, ◌^◌, ◌<◌, ◌≤◌, ◌==◌, ◌&&◌, ◌||◌, Bool, true, false, not, nat_lt, if◌then◌else◌, find}
use Rattle.std.proofs.Common.{filter, map, Option, Some, None, List, [], ◌∷◌, length, refl, sym, ap, arith}
use Rattle.std.specs.Prelude.{slice_get}
use Rattle.std.specs.Option.{option_map_or}
use Rattle.std.specs.List.{list_all, list_any}
use Rattle.std.proofs.Math.Pow.{pow_mono}
use Rattle.std.proofs.lemmas.Bool.{and_parts, leb-false, leb-true, ltb-true, or_parts}
use Rattle.format_laws.specs.Fitting.{IsFitting}
use Rattle.format_laws.proofs.Laws.{is-fitting}
use Rattle.soundness.proofs.Laws.{are-formed, first_of_type, has-type}
use Rattle.model.specs.declared.capabilities.Cap.{Cap}
use Rattle.model.specs.declared.capabilities.Cap.TheVariants.{Empty, Untyped, Endpoint, Notification, CNode, Frame, PageTable, Tcb, RootTable, InterruptControl}
use Rattle.model.specs.declared.capabilities.Cap.TheVariants.{InterruptHandler}
use Rattle.model.specs.declared.capabilities.TableMapping.{TableMapping}
use Rattle.model.specs.declared.entries.CapabilityEntry.{CapabilityEntry}
use Rattle.model.specs.declared.entries.InterruptEntry.{InterruptEntry}
use Rattle.model.specs.declared.entries.TableEntry.{TableEntry}
use Rattle.model.specs.Acceptance.Accepted.{IsWellFormed}
use Rattle.model.specs.Capabilities.CapabilityFields.{is_capability}
use Rattle.model.specs.Acceptance.NotedStates.{NotedSlot, PointState, SlotKey, has_stray_slots, image_slots, is_foreign, is_own, is_stray, leads_to_boot}
use Rattle.model.specs.Acceptance.NotedStates.{listed_slot, notes_outside, number_of, put_in, record_of, slot_at, with_noted, without_key}
use Rattle.model.specs.Acceptance.ThreadRules.{is_member, reached}
use Rattle.model.specs.Acceptance.WellFormed.{has_slot}
use Rattle.model.specs.Capabilities.CapabilityKinds.{with_table_mapping}
use Rattle.model.specs.Capabilities.Slots.{is_empty}
use Rattle.model.specs.Images.Described.{limited, listed_capability, original, source_capability}
use Rattle.model.specs.Images.Image.{Image, Thread, whole_image}
use Rattle.model.specs.Images.Places.{interrupt_of, is_handler, offset_of, type_at}
use Rattle.model.specs.Kernel.AddressSpaces.{page_size, region_pages}
use Rattle.model.specs.Kernel.Retype.{NewObject, NewUntyped, NewThread, NewEndpoint, NewNotification, NewCNode, NewFrame, NewPageTable, NewRootTable}
use Rattle.model.specs.Kernel.Retype.{first_capability}
use Rattle.typestate.specs.Differences.{changed}
use Rattle.typestate.specs.Orders.{is_narrow}
use Rattle.typestate.specs.Spaces.{AreOwn, is_own_slot}
use Rattle.typestate.proofs.Laws.{found-all, found-key}
use Rattle.thread_spaces.specs.Given.{IsListed}
use Rattle.thread_spaces.proofs.GivenCNodes.{reached-cnode}
use Rattle.thread_spaces.proofs.ListedCapabilities.{source-inside}
use Rattle.thread_spaces.proofs.ListedSlots.{slots_in}

-- ---- what is listed is no empty capability

first-full : (kind : NewObject) (offset : ℕ) → is_empty (first_capability kind offset) ≡ false
first-full (NewUntyped bits) offset = refl
first-full NewThread offset = refl
first-full NewEndpoint offset = refl
first-full NewNotification offset = refl
first-full (NewCNode radix) offset = refl
first-full NewFrame offset = refl
first-full NewPageTable offset = refl
first-full NewRootTable offset = refl

limited-full : (c : Cap) (word payload : ℕ) → is_empty (limited c word payload) ≡ is_empty c
limited-full Empty word payload = refl
limited-full (Untyped _ _ _) word payload = refl
limited-full (Endpoint _ _ _) word payload = refl
limited-full (Notification _ _ _) word payload = refl
limited-full (CNode _ _ _) word payload = refl
limited-full (Frame _ _ _) word payload = refl
limited-full (PageTable _ _) word payload = refl
limited-full (Tcb _) word payload = refl
limited-full (RootTable _) word payload = refl
limited-full InterruptControl word payload = refl
limited-full (InterruptHandler _) word payload = refl

table-full : (c : Cap) (mapping : Option TableMapping) → is_empty (with_table_mapping c mapping) ≡ is_empty c
table-full Empty mapping = refl
table-full (Untyped _ _ _) mapping = refl
table-full (Endpoint _ _ _) mapping = refl
table-full (Notification _ _ _) mapping = refl
table-full (CNode _ _ _) mapping = refl
table-full (Frame _ _ _) mapping = refl
table-full (PageTable _ _) mapping = refl
table-full (Tcb _) mapping = refl
table-full (RootTable _) mapping = refl
table-full InterruptControl mapping = refl
table-full (InterruptHandler _) mapping = refl

mapped-full : (image : Image) (found : Option TableEntry) (c : Cap)
    → is_empty (option_map_or (λ t. with_table_mapping c (Some (record { root = offset_of image t.root; region = t.address / page_size / region_pages }))) found
    c) ≡ is_empty c
mapped-full image None c = refl
mapped-full image (Some t) c = table-full c (Some (record { root = offset_of image t.root; region = t.address / page_size / region_pages }))

original-full : (image : Image) (number : ℕ) → IsFitting image → number < image.header.objects → is_empty (original image number) ≡ false
original-full image number fitting less =
    let typed = has-type image number fitting less in
    mapped-full image (find (λ t. t.table == number) image.tables) (first_of_type (type_at image number) (offset_of image number))
    ∙ ap (λ (kind : Option NewObject). is_empty (first_of_type kind (offset_of image number))) typed.is
    ∙ first-full typed.kind (offset_of image number)

handler-full : (interrupts : List InterruptEntry) (place : ℕ) → place < length interrupts →
    is_empty (option_map_or (λ (i : InterruptEntry). InterruptHandler i.line) (slice_get interrupts place) Empty) ≡ false
handler-full [] place less = absurd (omega (arith, less))
handler-full (i ∷ rest) zero less = refl
handler-full (i ∷ rest) (suc place) less = handler-full rest place (omega (arith, less))

source-full : (image : Image) (source : ℕ) → IsFitting image → source < image.header.objects + image.header.interrupts →
    is_empty (source_capability image source) ≡ false
source-full image source fitting inside =
    elim (is_handler image source) as (λ b. is_handler image source ≡ b →
    is_empty (if b then option_map_or (λ (i : InterruptEntry). InterruptHandler i.line) (slice_get image.interrupts (interrupt_of image source)) Empty else
    original image source) ≡ false) [
      | true ↦ λ is.
          let most = leb-true image.header.objects source is in
          let many = fitting.interrupts in
          handler-full image.interrupts (source - image.header.objects) (omega (arith, most, many, inside))
      | false ↦ λ is. original-full image source fitting (let below = leb-false image.header.objects source is in omega (arith, below))
    ] refl

listed-full : (image : Image) → whole_image.fits image ≡ true → IsWellFormed image → (k : ℕ) (c : CapabilityEntry) → slice_get image.capabilities k ≡ Some c →
    is_empty (listed_capability image c) ≡ false
listed-full image fits well k c at =
    limited-full (source_capability image c.source) c.rights c.payload
    ∙ source-full image c.source (is-fitting image fits) (source-inside image c fits well (record { number = k; listed = at }))

-- ---- slots stay full, and what they were derived from has indices of 32 bits

abbrev kept : NotedSlot → Bool
kept s = not (is_empty s.capability) && is_narrow s

filter-kept : (keep : NotedSlot → Bool) (slots : List NotedSlot) → list_all kept slots ≡ true → list_all kept (filter keep slots) ≡ true
filter-kept keep [] all = refl
filter-kept keep (s ∷ rest) all =
    let parts = and_parts (kept s) (list_all kept rest) all in
    let behind = filter-kept keep rest parts.1 in
    elim (keep s) as (λ b. list_all kept (if b then s ∷ filter keep rest else filter keep rest) ≡ true) [
      | true ↦ ap (λ b. b && list_all kept (filter keep rest)) parts.0 ∙ behind
      | false ↦ behind
    ]

put-kept : (slot : NotedSlot) (others : List NotedSlot) → kept slot ≡ true → list_all kept others ≡ true → list_all kept (put_in slot others) ≡ true
unfolding put_in
put-kept slot [] one all = ap (λ b. b && true) one
put-kept slot (o ∷ rest) one all =
    let parts = and_parts (kept o) (list_all kept rest) all in
    elim (nat_lt (number_of slot.key) (number_of o.key)) as (λ b. list_all kept (if b then slot ∷ o ∷ rest else o ∷ put_in slot rest) ≡ true) [
      | true ↦ ap (λ b. b && list_all kept (o ∷ rest)) one ∙ all
      | false ↦ ap (λ b. b && list_all kept (put_in slot rest)) parts.0 ∙ put-kept slot rest one parts.1
    ]

noted-kept : (slots : List NotedSlot) (c : NotedSlot) → list_all kept slots ≡ true → is_narrow c ≡ true → list_all kept (with_noted slots c) ≡ true
noted-kept slots c all narrow =
    let others = filter-kept (λ s. not (number_of s.key == number_of c.key)) slots all in
    elim (is_empty c.capability) as (λ b. is_empty c.capability ≡ b →
    list_all kept (if b then without_key c.key slots else put_in c (without_key c.key slots)) ≡ true) [
      | true ↦ λ _. others
      | false ↦ λ full. put-kept c (without_key c.key slots) (ap (λ b. not b && is_narrow c) full ∙ narrow) others
    ] refl

changed-kept : (changes given : List NotedSlot) → list_all kept given ≡ true → list_all is_narrow changes ≡ true → list_all kept (changed given changes) ≡ true
changed-kept [] given all narrow = all
changed-kept (c ∷ rest) given all narrow =
    let parts = and_parts (is_narrow c) (list_all is_narrow rest) narrow in
    changed-kept rest (with_noted given c) (noted-kept given c all parts.0) parts.1

listed-kept : (image : Image) (cnodes : List ℕ) (capabilities : List CapabilityEntry) →
    ((k : ℕ) (c : CapabilityEntry) → slice_get capabilities k ≡ Some c → is_empty (listed_capability image c) ≡ false)
    → list_all kept (slots_in image cnodes capabilities) ≡ true
listed-kept image cnodes [] full = refl
listed-kept image cnodes (c ∷ rest) full =
    let behind = listed-kept image cnodes rest (λ k d at. full (suc k) d at) in
    elim (is_member c.cnode cnodes)
    as (λ b. list_all kept
    (map (listed_slot image) (if b then c ∷ filter (λ d. is_member d.cnode cnodes) rest else filter (λ d. is_member d.cnode cnodes) rest)) ≡ true) [
      | true ↦ ap (λ b. not b && true && list_all kept (slots_in image cnodes rest)) (full 0 c refl) ∙ behind
      | false ↦ behind
    ]

given-kept : (image : Image) (t : Thread) → whole_image.fits image ≡ true → IsWellFormed image → list_all kept (image_slots image t) ≡ true
unfolding image_slots
given-kept image t fits well = listed-kept image (reached image t) image.capabilities (listed-full image fits well)

-- ---- none is stray

same-index : (a i b j : ℕ) → i < 2 ^ 32 → j < 2 ^ 32 → a * 2 ^ 32 + i ≡ b * 2 ^ 32 + j → (a ≡ b) × (i ≡ j)
same-index a i b j less few same = (omega (arith, less, few, same), omega (arith, less, few, same))

module _ (image : Image) (t : Thread) (fits : whole_image.fits image ≡ true) (well : IsWellFormed image) (listed : IsListed image t)
    (all : List NotedSlot) where
  abbrev is-own : SlotKey → Bool
  is-own key = is_own image (reached image t) key

  own-low : (key : SlotKey) → is-own key ≡ true → key.index < 2 ^ 32
  own-low key own =
      let parts = and_parts (is_member key.cnode (reached image t)) (has_slot image key.cnode key.index) own in
      let cnode = reached-cnode image t (is-fitting image fits) (are-formed image well) listed key.cnode parts.0 in
      let inside : nat_lt key.index (2 ^ cnode.radix) ≡ true =
      sym (ap (λ (r : Option ℕ). option_map_or (λ radix. nat_lt key.index (2 ^ radix)) r false) cnode.is) ∙ parts.1 in
      let less = ltb-true key.index (2 ^ cnode.radix) inside in
      let small = cnode.small in
      let most : 2 ^ cnode.radix ≤ 2 ^ 14 = pow_mono small in
      omega (arith, less, most)

  own-same : (key other : SlotKey) → key.index < 2 ^ 32 → number_of other ≡ number_of key → is-own other ≡ true → is-own key ≡ true
  own-same key other few same own =
      let parts = same-index other.cnode other.index key.cnode key.index (own-low other own) few same in
      ap (λ (n : ℕ). is_member n (reached image t) && has_slot image n key.index) (sym parts.0)
      ∙ ap (λ (n : ℕ). is_member other.cnode (reached image t) && has_slot image other.cnode n) (sym parts.1) ∙ own

  record HoldsOne (key : SlotKey) : Type 0 where
    slot : NotedSlot
    at : slot_at all key ≡ Some slot

  holds-one : (n : ℕ) (key : SlotKey) → leads_to_boot n all (Some key) ≡ true → HoldsOne key
  unfolding leads_to_boot
  holds-one zero key leads = absurd (let clash : false ≡ true = leads in cc)
  holds-one (suc n) key leads = elim (slot_at all key) as (λ found. slot_at all key ≡ found →
      option_map_or (λ s. leads_to_boot n all s.parent) found false ≡ true → HoldsOne key) [
        | None ↦ λ _ clash. absurd (let no : false ≡ true = clash in cc)
        | Some s ↦ λ at _. record { slot = s; at = at }
      ] refl leads

  module _ (keys : list_all (λ s. is-own s.key) all ≡ true) where
    parent-own : (parent : Option SlotKey) → option_map_or (λ key. nat_lt key.index (2 ^ 32)) parent true ≡ true →
        leads_to_boot (length all) all parent ≡ true → option_map_or is-own parent true ≡ true
    parent-own None narrow leads = refl
    parent-own (Some key) narrow leads =
        let found = holds-one (length all) key leads in
        own-same key found.slot.key (ltb-true key.index (2 ^ 32) narrow) (found-key all key found.slot found.at)
        (found-all (λ s. is-own s.key) all key found.slot keys found.at)

    slots-own : (slots : List NotedSlot) → list_any (is_stray image t (reached image t) all) slots ≡ false → list_all kept slots ≡ true →
        list_all (is_own_slot image (reached image t)) slots ≡ true
    slots-own [] none kept_all = refl
    slots-own (s ∷ rest) none kept_all =
        let now = or_parts (is_stray image t (reached image t) all s) (list_any (is_stray image t (reached image t) all) rest) none in
        let held = and_parts (kept s) (list_all kept rest) kept_all in
        let outer = or_parts (not (is-own s.key) || is_foreign image t (reached image t) s.capability || not (is_capability s.capability))
        (not (leads_to_boot (length all) all s.parent)) now.0 in
        let valid = or_parts (not (is-own s.key) || is_foreign image t (reached image t) s.capability) (not (is_capability s.capability)) outer.0 in
        let inner = or_parts (not (is-own s.key)) (is_foreign image t (reached image t) s.capability) valid.0 in
        let full = and_parts (not (is_empty s.capability)) (is_narrow s) held.0 in
        let own : is-own s.key ≡ true = kept-one (is-own s.key) inner.0 in
        let parent : option_map_or is-own s.parent true ≡ true = parent-own s.parent full.1 (kept-one (leads_to_boot (length all) all s.parent) outer.1) in
        ap (λ b. b && not (is_empty s.capability) && option_map_or is-own s.parent true && list_all (is_own_slot image (reached image t)) rest) own
        ∙ ap (λ b. b && option_map_or is-own s.parent true && list_all (is_own_slot image (reached image t)) rest) full.0
        ∙ ap (λ b. b && list_all (is_own_slot image (reached image t)) rest) parent
        ∙ slots-own rest now.1 held.1
      where
        kept-one : (b : Bool) → not b ≡ false → b ≡ true
        kept-one true is = refl
        kept-one false clash = absurd (let no : true ≡ false = clash in cc)

  keys-own : (slots : List NotedSlot) → list_any (is_stray image t (reached image t) all) slots ≡ false → list_all (λ s. is-own s.key) slots ≡ true
  keys-own [] none = refl
  keys-own (s ∷ rest) none =
      let now = or_parts (is_stray image t (reached image t) all s) (list_any (is_stray image t (reached image t) all) rest) none in
      let outer = or_parts (not (is-own s.key) || is_foreign image t (reached image t) s.capability || not (is_capability s.capability))
      (not (leads_to_boot (length all) all s.parent)) now.0 in
      let valid = or_parts (not (is-own s.key) || is_foreign image t (reached image t) s.capability) (not (is_capability s.capability)) outer.0 in
      let inner = or_parts (not (is-own s.key)) (is_foreign image t (reached image t) s.capability) valid.0 in
      ap (λ b. b && list_all (λ r. is-own r.key) rest) (kept-one (is-own s.key) inner.0) ∙ keys-own rest now.1
    where
      kept-one : (b : Bool) → not b ≡ false → b ≡ true
      kept-one true is = refl
      kept-one false clash = absurd (let no : true ≡ false = clash in cc)

none-stray : (image : Image) (t : Thread) (point : ℕ) (state : PointState) (slots : List NotedSlot) → state.slots ≡ slots →
    has_stray_slots image t point state ≡ false → list_any (is_stray image t (reached image t) slots) slots ≡ false
unfolding has_stray_slots
none-stray image t point state slots same none =
    ap (λ (held : List NotedSlot). list_any (is_stray image t (reached image t) held) held) (sym same)
    ∙ (or_parts (list_any (is_stray image t (reached image t) state.slots) state.slots)
    (option_map_or (notes_outside image (reached image t)) (record_of t point) false) none).0

pub none-stray-own : (image : Image) (t : Thread) (given changes : List NotedSlot) → whole_image.fits image ≡ true → IsWellFormed image → IsListed image t →
    given ≡ image_slots image t → list_all is_narrow changes ≡ true
    → (point : ℕ) (state : PointState) → state.slots ≡ changed given changes → has_stray_slots image t point state ≡ false →
    AreOwn image t (changed given changes)
none-stray-own image t given changes fits well listed is narrow point state same none =
    let slots = changed given changes in
    let stray = none-stray image t point state slots same none in
    let held = changed-kept changes given (ap (list_all kept) is ∙ given-kept image t fits well) narrow in
    slots-own image t fits well listed slots (keys-own image t fits well listed slots slots stray) slots stray held
