-- The slots of a thread's CNodes hold what the image lists, and nothing else.
use Rattle.std.proofs.Common.{ℕ, zero, suc, ◌≡◌, ◌∙◌, ◌+◌, ◌^◌, ◌<◌, ◌≤◌, ◌&&◌, inl, inr, true, false, not, if◌then◌else◌, filter, map, List, [], ◌∷◌, Option}
use Rattle.std.proofs.Common.{Some, None, option_and_then, refl, sym, ap, subst, arith}
use Rattle.std.specs.Prelude.{slice_get}
use Rattle.std.specs.Option.{option_map_or}
use Rattle.std.proofs.lemmas.Bool.{and_parts, eq-eqb, false≢true}
use Rattle.std.proofs.lemmas.Option.{none-some, same_Some, slice_get_within}
use Rattle.format_laws.specs.Fitting.{CapabilityFits, InterruptFits, IsFitting, ThreadFits}
use Rattle.format_laws.proofs.Laws.{is-fitting}
use Rattle.soundness.proofs.Laws.{AreFormed, CapabilityKept, ThreadKept, are-formed, boot-slots-suffice, buffer-slot, cnode-slot, cspace-slot, described-sound}
use Rattle.soundness.proofs.Laws.{no-thread}
use Rattle.soundness.proofs.Laws.{slot-behind-boot, slot-of-one, vspace-slot}
use Rattle.model.specs.declared.capabilities.Cap.TheVariants.{Empty}
use Rattle.model.specs.declared.entries.CapabilityEntry.{CapabilityEntry}
use Rattle.model.specs.declared.slot_entries.Entry.{Entry}
use Rattle.model.specs.Acceptance.Accepted.{IsWellFormed}
use Rattle.model.specs.Acceptance.NotedKernel.{key_of, noted_after, noted_of, slot_of_key}
use Rattle.model.specs.Acceptance.NotedStates.{NotedSlot, SlotKey, image_slots, is_own, is_same_key, listed_slot, number_of, slot_at}
use Rattle.model.specs.Acceptance.ThreadRules.{is_member, reached}
use Rattle.model.specs.Acceptance.WellFormed.{has_slot}
use Rattle.model.specs.Capabilities.Slots.{IsFull, capability_at, is_empty, parent_at}
use Rattle.model.specs.Images.Described.{described, is_object_slot, listed_capability, listed_parent}
use Rattle.model.specs.Images.Image.{Image, Thread, pair_key, whole_image}
use Rattle.model.specs.Images.Places.{boot_slots, cnode_slot, offset_of, type_at}
use Rattle.model.specs.Kernel.State.{boot_area_slots, buffer_slot, cspace_slot, vspace_slot}
use Rattle.typestate.specs.Spaces.{StandsApart}
use Rattle.typestate.proofs.Laws.{after-is, back-of, found-key, from-first, same-own-key}
use Rattle.thread_spaces.specs.Given.{IsListed}
use Rattle.thread_spaces.proofs.Laws.{OfSections, capability-shown, each-slot, each-own, listed-shown, negated, parent-in-boot, parent-shown, slots-rise}
use Rattle.thread_spaces.proofs.Laws.{slots_in, stands-apart}

-- ---- the slots that capabilities are listed for

pub record IsListedSlot (image : Image) (cnodes : List ℕ) (capabilities : List CapabilityEntry) (s : NotedSlot) : Type 0 where
  pub place : ℕ
  pub entry : CapabilityEntry
  pub at : slice_get capabilities place ≡ Some entry
  pub member : is_member entry.cnode cnodes ≡ true
  pub is : s ≡ listed_slot image entry

later : (image : Image) (cnodes : List ℕ) (c : CapabilityEntry) (rest : List CapabilityEntry) (s : NotedSlot) → IsListedSlot image cnodes rest s →
    IsListedSlot image cnodes (c ∷ rest) s
later image cnodes c rest s of = record { place = suc of.place; entry = of.entry; at = of.at; member = of.member; is = of.is }

pub slot-listed : (image : Image) (cnodes : List ℕ) (capabilities : List CapabilityEntry) (key : SlotKey) (s : NotedSlot) →
    slot_at (slots_in image cnodes capabilities) key ≡ Some s
    → IsListedSlot image cnodes capabilities s
slot-listed image cnodes [] key s is = absurd (none-some s is)
slot-listed image cnodes (c ∷ rest) key s is =
    elim (is_member c.cnode cnodes) as (λ b. is_member c.cnode cnodes ≡ b
    → slot_at (map (listed_slot image) (if b then c ∷ filter (λ d. is_member d.cnode cnodes) rest else filter (λ d. is_member d.cnode cnodes) rest)) key ≡ Some
    s → IsListedSlot image cnodes (c ∷ rest) s) [
      | true ↦ λ among. by-key among (slot-listed image cnodes rest key s)
      | false ↦ λ _ behind. later image cnodes c rest s (slot-listed image cnodes rest key s behind)
    ] refl is
  where
    by-key : is_member c.cnode cnodes ≡ true → (slot_at (slots_in image cnodes rest) key ≡ Some s → IsListedSlot image cnodes rest s)
        → (if is_same_key (listed_slot image c).key key then Some (listed_slot image c) else slot_at (slots_in image cnodes rest) key) ≡ Some s
        → IsListedSlot image cnodes (c ∷ rest) s
    by-key among others = elim (is_same_key (listed_slot image c).key key)
        as (λ b. (if b then Some (listed_slot image c) else slot_at (slots_in image cnodes rest) key) ≡ Some s → IsListedSlot image cnodes (c ∷ rest) s) [
          | true ↦ λ here. record { place = 0; entry = c; at = refl; member = among; is = sym (same_Some (listed_slot image c) s here) }
          | false ↦ λ behind. later image cnodes c rest s (others behind)
        ]

abbrev NotLater : Image → List ℕ → List CapabilityEntry → SlotKey → CapabilityEntry → Type 0
NotLater image cnodes rest key c = (j : ℕ) → slice_get rest j ≡ Some c → slot_at (slots_in image cnodes rest) key ≡ None → ⊥

-- a key that is listed is found
pub not-missed : (image : Image) (cnodes : List ℕ) (capabilities : List CapabilityEntry) (key : SlotKey) (k : ℕ) (c : CapabilityEntry) →
    slice_get capabilities k ≡ Some c
    → is_member c.cnode cnodes ≡ true → pair_key c.cnode c.index ≡ number_of key → slot_at (slots_in image cnodes capabilities) key ≡ None → ⊥
not-missed image cnodes [] key k c at among same = λ _. none-some c at
not-missed image cnodes (d ∷ rest) key k c at among same =
    let others = λ (j : ℕ) (there : slice_get rest j ≡ Some c). not-missed image cnodes rest key j c there among same in
    elim (is_member d.cnode cnodes) as (λ b. is_member d.cnode cnodes ≡ b
    → slot_at (map (listed_slot image) (if b then d ∷ filter (λ e. is_member e.cnode cnodes) rest else filter (λ e. is_member e.cnode cnodes) rest)) key
    ≡ None → ⊥) [
      | true ↦ λ _. among-case others
      | false ↦ λ other. apart-case k at others other
    ] refl
  where
    apart-case : (k : ℕ) → slice_get (d ∷ rest) k ≡ Some c → NotLater image cnodes rest key c → is_member d.cnode cnodes ≡ false →
        slot_at (slots_in image cnodes rest) key ≡ None → ⊥
    apart-case zero at others other none = false≢true (sym other ∙ ap (λ (e : CapabilityEntry). is_member e.cnode cnodes) (same_Some d c at) ∙ among)
    apart-case (suc k) at others other none = others k at none

    behind : (k : ℕ) → slice_get (d ∷ rest) k ≡ Some c → NotLater image cnodes rest key c → is_same_key (listed_slot image d).key key ≡ false →
        slot_at (slots_in image cnodes rest) key ≡ None → ⊥
    behind zero at others other none =
        false≢true (sym other ∙ eq-eqb (pair_key d.cnode d.index) (number_of key)
        (ap (λ (e : CapabilityEntry). pair_key e.cnode e.index) (same_Some d c at) ∙ same))
    behind (suc k) at others other none = others k at none

    among-case : NotLater image cnodes rest key c →
        (if is_same_key (listed_slot image d).key key then Some (listed_slot image d) else slot_at (slots_in image cnodes rest) key) ≡ None → ⊥
    among-case others = elim (is_same_key (listed_slot image d).key key) as (λ b. is_same_key (listed_slot image d).key key ≡ b
        → (if b then Some (listed_slot image d) else slot_at (slots_in image cnodes rest) key) ≡ None → ⊥) [
          | true ↦ λ _ clash. none-some (listed_slot image d) (sym clash)
          | false ↦ λ other none. behind k at others other none
        ] refl

-- a slot for which a capability is listed
pub record HoldsListed (image : Image) (slot : ℕ) : Type 0 where
  pub place : ℕ
  pub entry : CapabilityEntry
  pub at : slice_get image.capabilities place ≡ Some entry
  pub there : cnode_slot image entry.cnode entry.index ≡ slot

module _ (image : Image) (t : Thread) (fits : whole_image.fits image ≡ true) (well : IsWellFormed image) (listed : IsListed image t) where
  abbrev cnodes : List ℕ
  cnodes = reached image t

  fitting : IsFitting image
  fitting = is-fitting image fits

  formed : AreFormed image
  formed = are-formed image well

  pub stand : StandsApart image t
  stand = stands-apart image t fits well listed

  enough : boot_slots image ≤ 2 ^ image.header.boot_radix
  enough = boot-slots-suffice image fitting formed

  abbrev key_for : CapabilityEntry → SlotKey
  key_for c = record { cnode = c.cnode; index = c.index }

  pub listed-own : (k : ℕ) (c : CapabilityEntry) → slice_get image.capabilities k ≡ Some c → is_member c.cnode cnodes ≡ true →
      is_own image cnodes (key_for c) ≡ true
  listed-own k c at among = ap (λ b. b && has_slot image c.cnode c.index) among ∙ CapabilityKept.slot (AreFormed.capability formed k c at)

  -- ---- what is in an own slot

  module _ (key : SlotKey) (own : is_own image cnodes key ≡ true) where
    parts : (is_member key.cnode cnodes ≡ true) × (has_slot image key.cnode key.index ≡ true)
    parts = and_parts (is_member key.cnode cnodes) (has_slot image key.cnode key.index) own

    inside : key.cnode < image.header.objects
    inside = stand.listed key.cnode parts.0

    mine : is_object_slot image (slot_of_key image key) key.cnode ≡ true
    mine = cnode-slot image key.cnode key.index parts.1

    behind-boot : boot_area_slots image.header.boot_radix ≤ slot_of_key image key
    behind-boot = slot-behind-boot image fitting formed key.cnode (slot_of_key image key) inside mine

    abbrev IsGiven : ℕ → Entry → Type 0
    IsGiven slot held = slot ≡ slot_of_key image key → HoldsListed image slot

    in-boot : (slot : ℕ) → slot < 2 ^ image.header.boot_radix + 64 → slot ≡ slot_of_key image key → HoldsListed image slot
    in-boot slot less same = let behind = behind-boot in absurd (omega (arith, behind, same, less))

    of-thread : (k : ℕ) (u : Thread) (slot : ℕ) → slice_get image.threads k ≡ Some u → is_object_slot image slot u.header.tcb ≡ true →
        slot ≡ slot_of_key image key → HoldsListed image slot
    of-thread k u slot at there same =
        let one : key.cnode ≡ u.header.tcb =
        slot-of-one image fitting formed key.cnode u.header.tcb slot inside (ThreadFits.tcb (IsFitting.thread fitting k u at))
        (subst (λ (n : ℕ). is_object_slot image n key.cnode ≡ true) (sym same) mine) there in
        absurd (no-thread (type_at image u.header.tcb) key.index (subst (λ (n : ℕ). has_slot image n key.index ≡ true) one parts.1)
        (ThreadKept.tcb (AreFormed.thread formed k u at)))

    given-slots : OfSections IsGiven image
    given-slots = record {
      untyped = λ k u at. in-boot k (let less : k < image.header.untypeds =
          subst (λ (n : ℕ). k < n) (IsFitting.untypeds fitting) (slice_get_within image.untypeds k u at) in
          omega (arith, less, enough));
      original = λ number less. in-boot _ (omega (arith, less, enough));
      control = in-boot _ (omega (arith, enough));
      handler = λ k i at. in-boot _ (let less : k < image.header.interrupts =
          subst (λ (n : ℕ). k < n) (IsFitting.interrupts fitting) (slice_get_within image.interrupts k i at) in
          omega (arith, less, enough));
      frame = λ k f at. in-boot _ (let less : k < image.header.frames =
          subst (λ (n : ℕ). k < n) (IsFitting.frames fitting) (slice_get_within image.frames k f at) in
          omega (arith, less, enough));
      notification = λ k i at. in-boot _ (let less : k < image.header.interrupts =
          subst (λ (n : ℕ). k < n) (IsFitting.interrupts fitting) (slice_get_within image.interrupts k i at) in
          omega (arith, less, enough));
      binding = λ k i at. in-boot _ (let less = InterruptFits.line (IsFitting.interrupt fitting k i at) in omega (arith, less));
      listed = λ k c at same. record { place = k; entry = c; at = at; there = refl };
      thread = λ k u at. each-own IsGiven image u
          (of-thread k u (cspace_slot (offset_of image u.header.tcb)) at (cspace-slot image u.header.tcb (ThreadKept.tcb (AreFormed.thread formed k u at))))
          (of-thread k u (vspace_slot (offset_of image u.header.tcb)) at (vspace-slot image u.header.tcb (ThreadKept.tcb (AreFormed.thread formed k u at))))
          (λ some. of-thread k u (buffer_slot (offset_of image u.header.tcb)) at
          (buffer-slot image u.header.tcb (ThreadKept.tcb (AreFormed.thread formed k u at))));
    }

    -- the entry of a capability that is there has the key
    same-key : (k : ℕ) (c : CapabilityEntry) → slice_get image.capabilities k ≡ Some c → cnode_slot image c.cnode c.index ≡ slot_of_key image key →
        (c.cnode ≡ key.cnode) × (c.index ≡ key.index)
    same-key k c at there =
        let one : c.cnode ≡ key.cnode =
        slot-of-one image fitting formed c.cnode key.cnode (slot_of_key image key) (CapabilityFits.cnode (IsFitting.capability fitting k c at)) inside
        (subst (λ (n : ℕ). is_object_slot image n c.cnode ≡ true) there
        (cnode-slot image c.cnode c.index (CapabilityKept.slot (AreFormed.capability formed k c at)))) mine in
        let offsets : offset_of image c.cnode ≡ offset_of image key.cnode = ap (offset_of image) one in
        (one, omega (arith, there, offsets))

    -- nothing is where nothing is listed
    pub none-there : slot_at (slots_in image cnodes image.capabilities) key ≡ None →
        is_empty (capability_at (described image).slots (slot_of_key image key)) ≡ true
    none-there none = of-slot ((described image).slots (slot_of_key image key)) refl
      where
        of-slot : (found : Option Entry) → (described image).slots (slot_of_key image key) ≡ found →
            is_empty (capability_at (described image).slots (slot_of_key image key)) ≡ true
        of-slot None is = ap (λ (o : Option Entry). is_empty (option_map_or (λ e. e.capability) o Empty)) is
        of-slot (Some held) is = elim (each-slot IsGiven image given-slots (slot_of_key image key) held is) [
          | inl nothing ↦ ap is_empty (capability-shown image (slot_of_key image key) held is) ∙ ap (λ (e : Entry). is_empty e.capability) nothing
          | inr given ↦
              let of = given refl in
              let same = same-key of.place of.entry of.at of.there in
              absurd (not-missed image cnodes image.capabilities key of.place of.entry of.at
              (subst (λ (n : ℕ). is_member n cnodes ≡ true) (sym same.0) parts.0)
              (ap (λ (n : ℕ). pair_key n of.entry.index) same.0 ∙ ap (λ (n : ℕ). pair_key key.cnode n) same.1) none)
        ]

    -- what is listed is there
    pub some-there : (s : NotedSlot) → slot_at (slots_in image cnodes image.capabilities) key ≡ Some s →
        noted_of image cnodes (described image).slots key ≡ Some s
    some-there s found =
        let of = slot-listed image cnodes image.capabilities key s found in
        let c = of.entry in
        let held : Entry = record { capability = listed_capability image c; parent = Some (listed_parent image c) } in
        let number : number_of (key_for c) ≡ number_of key = ap (λ (x : NotedSlot). number_of x.key) (sym of.is)
        ∙ found-key (slots_in image cnodes image.capabilities) key s found in
        let same : key_for c ≡ key = same-own-key image t stand (key_for c) key (listed-own of.place c of.at of.member) own number in
        let shown : (described image).slots (slot_of_key image (key_for c)) ≡ Some held = listed-shown image fits well of.place c of.at in
        let full : is_empty (listed_capability image c) ≡ false = full-listed of.place c of.at shown in
        let boot : key_of image cnodes (listed_parent image c) ≡ None =
        stand.behind (listed_parent image c) (let less = parent-in-boot image fitting formed (slot_of_key image (key_for c)) (listed_parent image c)
        (parent-shown image (slot_of_key image (key_for c)) held shown) in omega (arith, less)) in
        subst (λ (k : SlotKey). noted_of image cnodes (described image).slots k ≡ Some s) same
        (back-of image t stand (described image).slots (key_for c) held shown
        ∙ ap (λ b. if not b then
        Some (let r : NotedSlot = record {
          key = key_for c;
          capability = listed_capability image c;
          parent =
              key_of image cnodes (listed_parent image c);
        } in r) else None) full
        ∙ ap (λ (p : Option SlotKey). let r : NotedSlot = record { key = key_for c; capability = listed_capability image c; parent = p } in Some r) boot
        ∙ ap (λ (x : NotedSlot). Some x) (sym of.is))
      where
        full-listed : (k : ℕ) (c : CapabilityEntry) → slice_get image.capabilities k ≡ Some c
            → (described image).slots (cnode_slot image c.cnode c.index) ≡ Some
            (record { capability = listed_capability image c; parent = Some (listed_parent image c) })
            → is_empty (listed_capability image c) ≡ false
        full-listed k c at shown =
            let slot = cnode_slot image c.cnode c.index in
            let full : IsFull (described image).slots slot =
            (described-sound image fits well).slots.derivation.child_full slot (listed_parent image c) (parent-shown image slot _ shown) in
            ap is_empty (sym (capability-shown image slot _ shown)) ∙ negated (is_empty (capability_at (described image).slots slot)) full

  -- ---- all of them

  pub at-key : (key : SlotKey) → is_own image cnodes key ≡ true →
      noted_of image cnodes (described image).slots key ≡ slot_at (slots_in image cnodes image.capabilities) key
  at-key key own =
      elim (slot_at (slots_in image cnodes image.capabilities) key)
      as (λ o. slot_at (slots_in image cnodes image.capabilities) key ≡ o → noted_of image cnodes (described image).slots key ≡ o) [
        | Some s ↦ λ found. some-there key own s found
        | None ↦ λ none.
            ap (λ b. if not b then
            Some (let r : NotedSlot = record {
              key = key;
              capability = capability_at (described image).slots (slot_of_key image key);
              parent =
                  option_and_then (key_of image cnodes) (parent_at (described image).slots (slot_of_key image key));
            } in r) else None)
            (none-there key own none)
      ] refl

  pub own-at : (key : SlotKey) (s : NotedSlot) → slot_at (slots_in image cnodes image.capabilities) key ≡ Some s → is_own image cnodes s.key ≡ true
  own-at key s found =
      let of = slot-listed image cnodes image.capabilities key s found in
      ap (λ (x : NotedSlot). is_own image cnodes x.key) of.is ∙ listed-own of.place of.entry of.at of.member

  pub slots-given : noted_after image t (described image).slots ≡ image_slots image t
  unfolding image_slots
  slots-given = after-is image t stand (described image).slots (slots_in image cnodes image.capabilities)
      (from-first (image_slots image t) (slots-rise image t fitting)) own-at at-key
