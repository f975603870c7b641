-- A leaf is written, and the frame's capability changes: the agreement and the other bytes stay.
use Rattle.std.proofs.Common.{◌≡◌, ◌≢◌, ◌∙◌, ℕ, ◌+◌, ◌*◌, ◌/◌, ◌%◌, ◌^◌, ◌<◌, ◌≤◌, inl, inr, not, Option, Some, None, List, length, refl, sym, ap, subst, arith}
use Rattle.model.specs.Shared.Bytes.{word_bytes, written}
use Rattle.model.specs.Capabilities.CapabilityWords.{IsCapability, IsFrameMapping, IsPlace}
use Rattle.model.specs.Capabilities.Slots.{IsFull, OutsideSlots, SameOutside, Slots, capability_at, is_empty, recapped}
use Rattle.model.specs.Machine.Sv32.{leaf_word}
use Rattle.model.specs.declared.capabilities.Cap.{Cap}
use Rattle.model.specs.declared.capabilities.Cap.TheVariants.{Empty, Frame}
use Rattle.model.specs.declared.capabilities.FrameMapping.{FrameMapping}
use Rattle.model.specs.declared.rights.Rights.{Rights}
use Rattle.model.proofs.BytesLemmas.{length-written, slice_index-written_before, slice_index-written_behind}
use Rattle.model.proofs.SlotChanges.{capability_of, entry-other, entry-same}
use Rattle.vspace.specs.Answers.{FreeEntry, LeafAnswer}
use Rattle.vspace.specs.Kept.{IsNamedTable, SameBesideTables}
use Rattle.vspace.specs.Tables.{IsTable, MapsTable, TablesAgree}
use Rattle.vspace.proofs.FrameSteps.{index_small}
use Rattle.vspace.proofs.Mapping.{MapStep, agree-mapped}
use Rattle.vspace.proofs.Unmapping.{UnmapStep, agree-unmapped}
use Rattle.std.proofs.lemmas.Bool.Decides.{eqb_tells}
use Rattle.std.specs.Option.{option_map_or}
use Rattle.model.specs.declared.slot_entries.Entry.{Entry}

-- an entry lies where no slot is
pub entry-outside : (slots : Slots) (memory : List ℕ) (table i place : ℕ) → IsTable slots memory table → i < 2 ^ 10 → place ≡ table + 4 * i →
    OutsideSlots slots place 4
entry-outside slots memory table i place stands few here = λ k low high. stands.outside k (omega (arith, here, low)) (omega (arith, here, few, high))

pub table-of_page : (slots : Slots) (memory : List ℕ) (root page place : ℕ) (agree : TablesAgree slots memory) (entry : FreeEntry slots root page place) →
    IsTable slots memory entry.table
table-of_page slots memory root page place agree entry = agree.tables entry.maps.slot entry.table _ entry.maps.held

-- a slot that holds a frame's capability is open, and full
pub frame-open : (slots : Slots) (x f : ℕ) (r : Rights) (o : Option FrameMapping) → capability_at slots x ≡ Frame f r o → slots x ≢ None
frame-open slots x f r o held = λ none. let e : Frame f r o ≡ Empty = sym held ∙ ap capability_of none in absurd (cc e)

pub frame-full : (slots old : Slots) (x f : ℕ) (r : Rights) (o : Option FrameMapping) → slots ≡ old → capability_at old x ≡ Frame f r o → IsFull slots x
frame-full slots old x f r o same held = ap (λ (s : Slots). not (is_empty (capability_at s x))) same ∙ ap (λ (c : Cap). not (is_empty c)) held

pub frame-place : (slots : Slots) (memory : List ℕ) (x f : ℕ) (r : Rights) (o : Option FrameMapping) → TablesAgree slots memory →
    capability_at slots x ≡ Frame f r o → IsPlace f 12 × (r.0 < 4)
frame-place slots memory x f r o agree held =
    let fine : IsCapability (Frame f r o) = subst (λ (c : Cap). IsCapability c) held (agree.valid x) in
    (fine.0, fine.1)

pub frame-fine : (slots : Slots) (memory : List ℕ) (x f : ℕ) (r : Rights) (o n : Option FrameMapping) → TablesAgree slots memory →
    capability_at slots x ≡ Frame f r o → IsFrameMapping n → IsCapability (Frame f r n)
frame-fine slots memory x f r o n agree held fine =
    let place = frame-place slots memory x f r o agree held in
    (place.0, place.1, fine)

leaf_small : (f rights : ℕ) → f < 2 ^ 24 → leaf_word f rights < 2 ^ 32
leaf_small f rights near = omega (arith, near)

-- what is known once the word is written and the capability changed
pub record Written (slots0 slots1 slots2 : Slots) (memory0 memory1 memory2 : List ℕ) (x place word : ℕ) (c : Cap) : Type 0 where
  pub kept : slots1 ≡ slots0
  pub wrote : memory1 ≡ written memory0 place (word_bytes word)
  pub changed : slots2 ≡ recapped slots1 x c
  pub same : SameOutside slots1 memory1 memory2

pub same-outside : (slots0 slots1 slots2 : Slots) (memory0 memory1 memory2 : List ℕ) (x place word : ℕ) (c : Cap) (other value : ℕ) →
    Written slots0 slots1 slots2 memory0 memory1 memory2 x place word c → place ≡ other → word ≡ value →
    SameOutside slots0 (written memory0 other (word_bytes value)) memory2
same-outside slots0 slots1 slots2 memory0 memory1 memory2 x place word c other value done here is =
    let first : SameOutside slots0 memory1 memory2 = subst (λ (s : Slots). SameOutside s memory1 memory2) done.kept done.same in
    let wrote : memory1 ≡ written memory0 other (word_bytes value) = done.wrote ∙ ap (λ (p : ℕ). written memory0 p (word_bytes word)) here
    ∙ ap (λ (w : ℕ). written memory0 other (word_bytes w)) is in
    subst (λ (m : List ℕ). SameOutside slots0 m memory2) wrote first

-- one word of a table that a capability names is written: the bytes beside it stay
pub word-beside : (slots0 slots1 slots2 : Slots) (memory0 memory1 memory2 : List ℕ) (x place word : ℕ) (c : Cap) (table i : ℕ) →
    Written slots0 slots1 slots2 memory0 memory1 memory2 x place word c → IsNamedTable slots0 table → IsTable slots0 memory0 table → i < 2 ^ 10 →
    place ≡ table + 4 * i → SameBesideTables slots0 memory0 memory2
word-beside slots0 slots1 slots2 memory0 memory1 memory2 x place word c table i done named stands few here =
    let same = same-outside slots0 slots1 slots2 memory0 memory1 memory2 x place word c place word done refl refl in
    let fits : place + 4 ≤ length memory0 = omega (arith, stands.within, few, here) in
    record {
      size = same.size ∙ length-written memory0 place (word_bytes word) fits;
      bytes = λ k closed apart.
          same.bytes k closed
          ∙ elim (apart table named) [
            | inl before ↦ slice_index-written_before memory0 place (word_bytes word) k fits (omega (arith, before, here))
            | inr behind ↦ slice_index-written_behind memory0 place (word_bytes word) k fits (omega (arith, behind, here, few))
          ];
    }

pub map-done : (slots0 slots1 slots2 : Slots) (memory0 memory1 memory2 : List ℕ) (x f place word : ℕ) (r : Rights) (o : Option FrameMapping)
    (m : FrameMapping) → TablesAgree slots0 memory0 → o ≡ None → capability_at slots0 x ≡ Frame f r o → IsFrameMapping (Some m) → f + 2 ^ 12 ≤ length memory0 →
    FreeEntry slots0 m.root m.page place → word ≡ leaf_word f m.rights.0 →
    Written slots0 slots1 slots2 memory0 memory1 memory2 x place word (Frame f r (Some m)) → TablesAgree slots2 memory2
map-done slots0 slots1 slots2 memory0 memory1 memory2 x f place word r o m agree absent held fine fits entry is done =
    let was : capability_at slots0 x ≡ Frame f r None = held ∙ ap (λ (k : Option FrameMapping). Frame f r k) absent in
    let at = frame-place slots0 memory0 x f r o agree held in
    let step : MapStep slots0 memory0 memory2 x f r m entry.table = record {
      step = record {
        agree = agree;
        was = was;
        is_open = frame-open slots0 x f r o held;
        fine = frame-fine slots0 memory0 x f r o (Some m) agree held fine;
        at_slot = entry.maps.slot;
        at_held = entry.maps.held;
        few = index_small m.page;
        same = same-outside slots0 slots1 slots2 memory0 memory1 memory2 x place word _ (entry.table + 4 * (m.page % 2 ^ 10)) (leaf_word f m.rights.0) done
            entry.here is;
      };
      fits = fits;
      free = entry.free;
      small = leaf_small f m.rights.0 at.0.1;
    } in
    let new : slots2 ≡ recapped slots0 x (Frame f r (Some m)) = done.changed ∙ ap (λ (s : Slots). recapped s x (Frame f r (Some m))) done.kept in
    subst (λ (s : Slots). TablesAgree s memory2) (sym new) (agree-mapped slots0 memory0 memory2 x f r m entry.table step)

pub unmap-done : (slots0 slots1 slots2 : Slots) (memory0 memory1 memory2 : List ℕ) (x f place table : ℕ) (r : Rights) (m : FrameMapping) →
    TablesAgree slots0 memory0 → capability_at slots0 x ≡ Frame f r (Some m) → MapsTable slots0 m.root (m.page / 2 ^ 10) table →
    place ≡ table + 4 * (m.page % 2 ^ 10) → Written slots0 slots1 slots2 memory0 memory1 memory2 x place 0 (Frame f r None) → TablesAgree slots2 memory2
unmap-done slots0 slots1 slots2 memory0 memory1 memory2 x f place table r m agree held maps here done =
    let step : UnmapStep slots0 memory0 memory2 x f r m table = record {
      step = record {
        agree = agree;
        was = held;
        is_open = frame-open slots0 x f r (Some m) held;
        fine = frame-fine slots0 memory0 x f r (Some m) None agree held tt;
        at_slot = maps.slot;
        at_held = maps.held;
        few = index_small m.page;
        same = same-outside slots0 slots1 slots2 memory0 memory1 memory2 x place 0 _ (table + 4 * (m.page % 2 ^ 10)) 0 done here refl;
      };
    } in
    let new : slots2 ≡ recapped slots0 x (Frame f r None) = done.changed ∙ ap (λ (s : Slots). recapped s x (Frame f r None)) done.kept in
    subst (λ (s : Slots). TablesAgree s memory2) (sym new) (agree-unmapped slots0 memory0 memory2 x f r m table step)

-- a capability put where it was changes nothing
own_entry : (c : Cap) (held : Option Entry) → held ≢ None → capability_of held ≡ c →
    Some (record { capability = c; parent = option_map_or (λ h. h.parent) held None }) ≡ held
own_entry c None some is = absurd (some refl)
own_entry c (Some held) some is = ap (λ (k : Cap). Some (record { capability = k; parent = held.parent })) (sym is)

own_at : (slots : Slots) (x : ℕ) (c : Cap) → slots x ≢ None → capability_at slots x ≡ c → (y : ℕ) → recapped slots x c y ≡ slots y
own_at slots x c some is y = elim (eqb_tells y x) [
  | inl same ↦ ap (recapped slots x c) same.1 ∙ entry-same slots x _ ∙ own_entry c (slots x) some is ∙ sym (ap slots same.1)
  | inr other ↦ entry-other slots x _ y other.1
]

pub recapped-same : (slots : Slots) (x : ℕ) (c : Cap) → slots x ≢ None → capability_at slots x ≡ c → recapped slots x c ≡ slots
recapped-same slots x c some is = λ i y. own_at slots x c some is y i

pub recapped-own : (slots : Slots) (x f : ℕ) (r : Rights) (o : Option FrameMapping) → capability_at slots x ≡ Frame f r o → o ≡ None →
    recapped slots x (Frame f r None) ≡ slots
recapped-own slots x f r o held absent =
    recapped-same slots x (Frame f r None) (frame-open slots x f r o held) (held ∙ ap (λ (k : Option FrameMapping). Frame f r k) absent)

-- what the place of a leaf says of the frame's mapping
pub leaf-absent : (slots : Slots) (o : Option FrameMapping) → LeafAnswer slots o None → o ≡ None
leaf-absent slots None answer = refl
leaf-absent slots (Some m) answer = absurd answer

pub leaf-present : (slots : Slots) (o : Option FrameMapping) (place : ℕ) → LeafAnswer slots o (Some place) → (m : FrameMapping) × (o ≡ Some m)
    × ((table : ℕ) × MapsTable slots m.root (m.page / 2 ^ 10) table × (place ≡ table + 4 * (m.page % 2 ^ 10)))
leaf-present slots None place answer = absurd (let e : Some place ≡ None = answer in cc)
leaf-present slots (Some m) place answer = (m, refl, answer)
