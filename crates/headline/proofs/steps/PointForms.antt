-- What a certificate notes of a point has its form: 31 ranges, and parents with indices of 32 bits.
use Rattle.std.proofs.Common.{ℕ, zero, suc, ◌≡◌, ◌∙◌, ◌==◌, ◌+◌, ◌^◌, ◌&&◌, ◌||◌, true, false, nat_le, nat_lt, if◌then◌else◌, Some, None}
use Rattle.std.proofs.Common.{is_some, List, [], ◌∷◌, refl, ap}
use Rattle.std.specs.Prelude.{fold, slice_get}
use Rattle.std.specs.Option.{option_map_or}
use Rattle.std.specs.List.{list_all}
use Rattle.std.proofs.lemmas.Bool.{and_parts, lt-ltb}
use Rattle.format_laws.specs.Fitting.{IsFitting}
use Rattle.format_laws.proofs.Laws.{field-parts, many-each}
use Rattle.model.specs.declared.entries.SlotEntry.{SlotEntry}
use Rattle.model.specs.Acceptance.CallRules.{known}
use Rattle.model.specs.Acceptance.NotedStates.{NotedSlot, PointState, SlotKey, entry_slot, image_slots, record_of, record_state}
use Rattle.model.specs.Acceptance.NotedStates.{with_noted}
use Rattle.model.specs.Acceptance.PointStates.{Known}
use Rattle.model.specs.Acceptance.PointStates.{noted}
use Rattle.model.specs.Images.Described.{Numbered}
use Rattle.model.specs.Images.Format.{field, many_fit}
use Rattle.model.specs.Images.Image.{Image, StateRecord, Thread, anything, below, image_with, names_parent, no_parent, pair_key, record_format}
use Rattle.model.specs.Images.Image.{records_format, registers_format, sections_format, sections_of, slot_format, slots_format, thread_format}
use Rattle.model.specs.Images.Image.{thread_header_format}
use Rattle.model.specs.Images.Image.{whole_image, words_format}
use Rattle.model.specs.Capabilities.CapabilityFields.{unpacked}
use Rattle.headline.specs.steps.Formed.{HasForm, is_low}
use Rattle.headline.proofs.steps.NotedForms.{AreLow, after-low, image-low, noted-low}
use Rattle.soundness.proofs.Laws.{find-get}
use Rattle.thread_spaces.proofs.Laws.{IsNoted, known-noted}

-- ---- records

record IsRecord (r : StateRecord) : Type 0 where
  parents : list_all (λ (e : SlotEntry). nat_lt e.parent_index (2 ^ 32)) r.slots ≡ true

entry-low : (e : SlotEntry) → nat_lt e.parent_index (2 ^ 32) ≡ true → is_low (entry_slot e) ≡ true
entry-low e low = elim (e.parent_cnode == no_parent)
    as (λ b. option_map_or (λ (key : SlotKey). nat_lt key.index (2 ^ 32))
    (if b then None else Some (let k : SlotKey = record { cnode = e.parent_cnode; index = e.parent_index } in k)) true ≡ true) [
      | true ↦ refl
      | false ↦ low
    ]

entries-low : (es : List SlotEntry) (slots : List NotedSlot) → AreLow slots → list_all (λ (e : SlotEntry). nat_lt e.parent_index (2 ^ 32)) es ≡ true →
    AreLow (fold (λ slots e. with_noted slots (entry_slot e)) slots es)
entries-low [] slots all each = all
entries-low (e ∷ es) slots all each =
    let parts = and_parts (nat_lt e.parent_index (2 ^ 32)) (list_all (λ (x : SlotEntry). nat_lt x.parent_index (2 ^ 32)) es) each in
    entries-low es (with_noted slots (entry_slot e)) (noted-low slots (entry_slot e) all (entry-low e parts.0)) parts.1

record-low : (image : Image) (t : Thread) (r : StateRecord) → IsRecord r → AreLow (record_state image t r).slots
unfolding record_state
record-low image t r is = entries-low r.slots (image_slots image t) (image-low image t) (IsRecord.parents is)

slot-parent : (objects least : ℕ) (e : SlotEntry) → (slot_format objects least).fits e ≡ true → nat_lt e.parent_index (2 ^ 32) ≡ true
unfolding slot_format
slot-parent objects least e is =
    let a = and_parts ((field (below objects)).fits e.cnode) _ is in
    let b = and_parts ((field (λ index. nat_le least (pair_key e.cnode index) && nat_lt index (2 ^ 14))).fits e.index) _ a.1 in
    let c = and_parts ((field anything).fits e.word0) _ b.1 in
    let d = and_parts ((field (λ word1. is_some (unpacked e.word0 word1))).fits e.word1) _ c.1 in
    let f = and_parts ((field (λ parent. nat_lt parent objects || (parent == no_parent))).fits e.parent_cnode)
    ((field (names_parent ((e.word0 == 0) && (e.word1 == 0)) e.parent_cnode)).fits e.parent_index) d.1 in
    lt-ltb e.parent_index (2 ^ 32) (field-parts (names_parent ((e.word0 == 0) && (e.word1 == 0)) e.parent_cnode) e.parent_index f.1).0

slots-fit : (objects : ℕ) (next : SlotEntry → ℕ) (least count : ℕ) (es : List SlotEntry) → many_fit (slot_format objects) next least count es ≡ true
    → list_all (λ (e : SlotEntry). nat_lt e.parent_index (2 ^ 32)) es ≡ true
unfolding many_fit
slots-fit objects next least count [] is = refl
slots-fit objects next least zero (e ∷ es) is = absurd (let clash : false ≡ true = is in cc)
slots-fit objects next least (suc n) (e ∷ es) is =
    let parts = and_parts ((slot_format objects least).fits e) (many_fit (slot_format objects) next (next e) n es) is in
    ap (λ b. b && list_all (λ (x : SlotEntry). nat_lt x.parent_index (2 ^ 32)) es) (slot-parent objects least e parts.0)
    ∙ slots-fit objects next (next e) n es parts.1

record-fits : (objects words least : ℕ) (r : StateRecord) → (record_format (slots_format objects) words least).fits r ≡ true → IsRecord r
unfolding record_format
record-fits objects words least r is =
    let a = and_parts _ _ is in
    let b = and_parts _ _ a.1 in
    let c = and_parts _ _ b.1 in
    record { parents = slots-fit objects (λ e. pair_key e.cnode e.index + 1) 0 r.header.slots r.slots c.0 }

thread-fits : (version objects : ℕ) (t : Thread) → (thread_format (slots_format objects) version objects).fits t ≡ true → (k : ℕ) (r : StateRecord) →
    slice_get t.records k ≡ Some r → IsRecord r
unfolding thread_format words_format records_format
thread-fits version objects t is k r at =
    let a = and_parts ((thread_header_format version objects).fits t.header) _ is in
    let b = and_parts ((registers_format t.header.registers).fits t.registers) _ a.1 in
    let c = and_parts ((words_format t.header.words).fits t.words) _ b.1 in
    let one = many-each (record_format (slots_format objects) t.header.words) (λ x. x.header.point + 1) 0 t.header.records t.records c.1 k r at in
    record-fits objects t.header.words one.0 r one.1

records-fit : (image : Image) (number : ℕ) (t : Thread) → whole_image.fits image ≡ true → slice_get image.threads number ≡ Some t → (k : ℕ) (r : StateRecord) →
    slice_get t.records k ≡ Some r → IsRecord r
unfolding image_with
records-fit image number t is listed =
    let h = image.header in
    let threads = many_fit (λ _. thread_format (slots_format h.objects) h.version h.objects) (λ _. 0) 0 h.threads image.threads in
    let whole = and_parts (sections_format.fits (sections_of image)) threads is in
    thread-fits h.version h.objects t (many-each (λ _. thread_format (slots_format h.objects) h.version h.objects) (λ _. 0) 0 h.threads image.threads whole.1
    number t listed).1

-- ---- points

module _ (image : Image) (t : Numbered) (fits : whole_image.fits image ≡ true) (fitting : IsFitting image) (number : ℕ)
    (listed : slice_get image.threads number ≡ Some t.thread) where
  noted-record : (point : ℕ) (r : StateRecord) → record_of t.thread point ≡ Some r → IsRecord r
  noted-record point r noted =
      let found = find-get (λ (x : StateRecord). x.header.point == point) t.thread.records r noted in
      records-fit image number t.thread fits listed found.0 r found.1

  pub known-form : (point : ℕ) (state : PointState) → noted image t point ≡ Known state → HasForm state
  known-form point state known =
      let is = known-noted AreLow image t (λ slots. after-low image t.thread slots fitting)
      (λ point r noted. record-low image t.thread r (noted-record point r noted)) point state known in
      record { long = IsNoted.long is; low = IsNoted.slots is }
