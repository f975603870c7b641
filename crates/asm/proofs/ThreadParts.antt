-- Threads of an image that fits its format, and what their certificates note.
use Rattle.std.proofs.Common.{ℕ, ◌≡◌, ◌==◌, ◌+◌, ◌-◌, ◌^◌, ◌<◌, ◌≤◌, ◌&&◌, ◌||◌, Bool, true, false, List, [], ◌∷◌, Option, Some, None, is_some, refl, sym}
use Rattle.std.proofs.Common.{arith}
use Rattle.std.specs.Prelude.{nat_le, nat_lt}
use Rattle.std.specs.Int.{w32, w64}
use mir.Val.{bits}
use Rattle.std.proofs.lemmas.Bool.{and_parts, ltb-true, leb-true}
use Rattle.std.proofs.lemmas.Bool.Decides.{nat_tests}
use Rattle.model.specs.declared.capabilities.Cap.{Cap}
use Rattle.model.specs.declared.entries.RegisterEntry.{RegisterEntry}
use Rattle.model.specs.declared.entries.RangeEntry.{RangeEntry}
use Rattle.model.specs.declared.entries.RecordHeader.{RecordHeader}
use Rattle.model.specs.declared.entries.SlotEntry.{SlotEntry}
use Rattle.model.specs.declared.entries.TermEntry.{TermEntry}
use Rattle.model.specs.declared.entries.ThreadHeader.{ThreadHeader}
use Rattle.model.specs.Capabilities.CapabilityFields.{unpacked}
use Rattle.model.specs.Images.Format.{field, fits_signed, many_fit, number, only_if}
use Rattle.model.specs.Images.Image.{has_buffers, no_buffer}
use Rattle.model.specs.Images.Image.{StateRecord, Thread, anything, below, between, is_constant, names_parent, no_parent, not_zero, pair_key, range_format}
use Rattle.model.specs.Images.Image.{ranges_format, record_format, record_header_format, records_format, register_format, registers_format, slot_format}
use Rattle.model.specs.Images.Image.{slots_format, term_format, terms_format, thread_format, thread_header_format, words_format}
use Rattle.model.specs.Images.Listing.{range_line, register_line, slot_line}
use Rattle.image_reading.proofs.Laws.{words-only}
use Rattle.asm_line.specs.declared.lines.Line.TheVariants as line
use Rattle.asm_line.specs.Listed.{Lists, range, register, slot, IsTerm, IsWord}
use Rattle.format_laws.proofs.Laws.{between-bounds, field-between, field-parts}
use Rattle.asm.proofs.Said.{slot_said}
use Rattle.asm.proofs.Orders.{least_behind}

-- ---- threads

pub record HeaderFits (objects : ℕ) (h : ThreadHeader) : Type 0 where
  pub tcb : h.tcb < objects
  pub cnode : h.cnode < objects
  pub guard : IsWord h.guard
  pub root : h.root < objects
  pub priority : between 0 255 h.priority ≡ true
  pub budget : between 1 (2 ^ 62) h.budget ≡ true
  pub fault : IsWord h.fault
  pub buffer : (nat_lt h.buffer objects || (h.buffer == no_buffer)) ≡ true
  pub base : IsWord h.base
  pub registers : h.registers ≤ 31
  pub some_words : 1 ≤ h.words
  pub few_words : h.words ≤ 65536

pub record ThreadFits (objects : ℕ) (t : Thread) : Type 0 where
  pub header : HeaderFits objects t.header
  pub registers : many_fit register_format (λ e. e.register + 1) 1 t.header.registers t.registers ≡ true
  pub words : many_fit (λ _. field anything) (λ _. 0) 0 t.header.words t.words ≡ true
  pub records : many_fit (record_format (slots_format objects) t.header.words) (λ r. r.header.point + 1) 0 t.header.records t.records ≡ true

right-true : (a b : Bool) → b ≡ true → (a || b) ≡ true
right-true true b e = refl
right-true false b e = e

-- in a version without buffers there is none
buffer-parts : (some : Bool) (objects n : ℕ) → (only_if some no_buffer (field (λ m. nat_lt m objects || (m == no_buffer)))).fits n ≡ true
    → (nat_lt n objects || (n == no_buffer)) ≡ true
buffer-parts true objects n is = (field-parts (λ m. nat_lt m objects || (m == no_buffer)) n is).1
buffer-parts false objects n is = right-true (nat_lt n objects) (n == no_buffer) is

header-parts : (version objects : ℕ) (h : ThreadHeader) → (thread_header_format version objects).fits h ≡ true → HeaderFits objects h
unfolding thread_header_format
header-parts version objects h is =
    let a = and_parts ((field (below objects)).fits h.tcb) _ is in
    let b = and_parts ((field (below objects)).fits h.cnode) _ a.1 in
    let c = and_parts ((field anything).fits h.guard) _ b.1 in
    let d = and_parts ((field (below objects)).fits h.root) _ c.1 in
    let e = and_parts ((field (between 0 255)).fits h.priority) _ d.1 in
    let budget = and_parts ((number w64 (between 1 (2 ^ 62))).fits h.budget) _ e.1 in
    let f = and_parts ((field anything).fits h.fault) _ budget.1 in
    let buffer = and_parts
    ((only_if (has_buffers version) no_buffer (field (λ m. nat_lt m objects || (m == no_buffer)))).fits h.buffer) _ f.1 in
    let g = and_parts ((field anything).fits h.entry) _ buffer.1 in
    let k = and_parts ((field anything).fits h.base) _ g.1 in
    let m = and_parts ((field (between 0 31)).fits h.registers) _ k.1 in
    let n = and_parts _ _ m.1 in
    let words = field-between 1 65536 h.words n.0 in
    record {
      tcb = ltb-true h.tcb objects (field-parts (below objects) h.tcb a.0).1;
      cnode = ltb-true h.cnode objects (field-parts (below objects) h.cnode b.0).1;
      guard = (field-parts anything h.guard c.0).0;
      root = ltb-true h.root objects (field-parts (below objects) h.root d.0).1;
      priority = (field-parts (between 0 255) h.priority e.0).1;
      budget = (and_parts (nat_lt h.budget (2 ^ bits w64)) _ budget.0).1;
      fault = (field-parts anything h.fault f.0).0;
      buffer = buffer-parts (has_buffers version) objects h.buffer buffer.0;
      base = (field-parts anything h.base k.0).0;
      registers = (field-between 0 31 h.registers m.0).1;
      some_words = words.0;
      few_words = words.1;
    }

pub thread-parts : (version objects : ℕ) (t : Thread) → (thread_format (slots_format objects) version objects).fits t ≡ true → ThreadFits objects t
unfolding thread_format registers_format words_format records_format
thread-parts version objects t is =
    let a = and_parts _ _ is in
    let b = and_parts _ _ a.1 in
    let c = and_parts _ _ b.1 in
    record { header = header-parts version objects t.header a.0; registers = b.0; words = c.0; records = c.1 }

-- ---- records

pub record RecordFits (objects words least : ℕ) (r : StateRecord) : Type 0 where
  pub behind : least ≤ r.header.point
  pub inside : r.header.point < words
  pub few_ranges : r.header.ranges ≤ 31
  pub few_slots : r.header.slots ≤ 256
  pub few_terms : r.header.terms ≤ 4
  pub constant : is_constant r.header.constant ≡ true
  pub ranges : many_fit range_format (λ e. e.register + 1) 1 r.header.ranges r.ranges ≡ true
  pub slots : many_fit (slot_format objects) (λ e. pair_key e.cnode e.index + 1) 0 r.header.slots r.slots ≡ true
  pub terms : many_fit term_format (λ e. e.register + 1) 1 r.header.terms r.terms ≡ true

record-header : (objects words least : ℕ) (h : RecordHeader) → (record_header_format (slots_format objects) words least).fits h ≡ true
    → (least ≤ h.point) × (h.point < words) × (h.ranges ≤ 31) × (h.slots ≤ 256) × (h.terms ≤ 4) × (is_constant h.constant ≡ true)
unfolding record_header_format
record-header objects words least h is =
    let a = and_parts _ _ is in
    let b = and_parts _ _ a.1 in
    let c = and_parts _ _ b.1 in
    let d = and_parts _ _ c.1 in
    let point = and_parts _ _ (field-parts (λ point. nat_le least point && nat_lt point words) h.point a.0).1 in (
      leb-true least h.point point.0,
      ltb-true h.point words point.1,
      (field-between 0 31 h.ranges b.0).1,
      (field-between 0 256 h.slots c.0).1,
      (field-between 0 4 h.terms d.0).1,
      (and_parts (fits_signed w64 h.constant) (is_constant h.constant) d.1).1,
    )

pub record-parts : (objects words least : ℕ) (r : StateRecord) → (record_format (slots_format objects) words least).fits r ≡ true →
    RecordFits objects words least r
unfolding record_format ranges_format terms_format
record-parts objects words least r is =
    let a = and_parts _ _ is in
    let b = and_parts _ _ a.1 in
    let c = and_parts _ _ b.1 in
    let header = record-header objects words least r.header a.0 in
    record {
      behind = header.0;
      inside = header.1;
      few_ranges = header.2;
      few_slots = header.3;
      few_terms = header.4;
      constant = header.5;
      ranges = b.0;
      slots = c.0;
      terms = c.1;
    }

-- ---- entries

-- keys from 1 on
pub least-some : {A : Type 0} (key : A → ℕ) (least : ℕ) (front : List A) → 1 ≤ least → 1 ≤ least_behind (λ x. key x + 1) least front
least-some key least [] h = h
least-some key least (x ∷ xs) h = least-some key (key x + 1) xs (omega arith)

from-one : (least n : ℕ) → 1 ≤ least → between least 31 n ≡ true → between 1 31 n ≡ true
from-one least n some h = let b = between-bounds least 31 n h in let low = b.0 in let high = b.1 in grind (arith, nat_tests, some, low, high)

pub register-parts : (least : ℕ) (e : RegisterEntry) → 1 ≤ least → (register_format least).fits e ≡ true → (least ≤ e.register)
    × Lists (line.Register e) (register_line e)
unfolding register_format
register-parts least e some is =
    let a = and_parts _ _ is in
    let register_fits = (field-parts (between least 31) e.register a.0).1 in
    let value = field-parts (nat_lt 0) e.value a.1 in
    ((between-bounds least 31 e.register register_fits).0, register e (from-one least e.register some register_fits) value.1 value.0)

pub range-parts : (least : ℕ) (e : RangeEntry) → 1 ≤ least → (range_format least).fits e ≡ true → (least ≤ e.register) × Lists (line.Range e) (range_line e)
unfolding range_format
range-parts least e some is =
    let a = and_parts _ _ is in
    let b = and_parts _ _ a.1 in
    let register_fits = (field-parts (between least 31) e.register a.0).1 in
    let high = field-parts (λ high. nat_le e.low high && (nat_lt 0 e.low || nat_lt high (2 ^ 32 - 1))) e.high b.1 in (
      (between-bounds least 31 e.register register_fits).0,
      range e (from-one least e.register some register_fits) (field-parts anything e.low b.0).0 high.0
          high.1,
    )

pub term-parts : (least : ℕ) (e : TermEntry) → 1 ≤ least → (term_format least).fits e ≡ true → (least ≤ e.register) × IsTerm e
unfolding term_format
term-parts least e some is =
    let a = and_parts _ _ is in
    let register_fits = (field-parts (between least 31) e.register a.0).1 in
    let factor = and_parts (fits_signed w32 e.coefficient) (not_zero e.coefficient) a.1 in
    ((between-bounds least 31 e.register register_fits).0, (from-one least e.register some register_fits, factor.0, factor.1))

-- ---- slots

pub record SlotFits (objects least : ℕ) (e : SlotEntry) : Type 0 where
  pub behind : least ≤ pair_key e.cnode e.index
  pub cnode : e.cnode < objects
  pub parent : nat_lt e.parent_cnode objects || (e.parent_cnode == no_parent) ≡ true
  pub named : names_parent ((e.word0 == 0) && (e.word1 == 0)) e.parent_cnode e.parent_index ≡ true
  pub lists : Lists (slot_said e) (slot_line e)

slot-lists : (e : SlotEntry) (found : Option Cap) → unpacked e.word0 e.word1 ≡ found → is_some found ≡ true → IsWord e.cnode → nat_lt e.index (2 ^ 14) ≡ true →
    IsWord e.word0 → IsWord e.word1
    → IsWord e.parent_cnode → names_parent ((e.word0 == 0) && (e.word1 == 0)) e.parent_cnode e.parent_index ≡ true → Lists (slot_said e) (slot_line e)
slot-lists e None found some a h w0 w1 g k = absurd (let clash : false ≡ true = some in cc)
slot-lists e (Some c) found some a h w0 w1 g k =
    let own = words-only e.word0 e.word1 c found in
    slot e c a h w0 w1 own.0 (sym own.1) g k

pub slot-parts : (objects least : ℕ) (e : SlotEntry) → objects ≤ 2 ^ 32 → (slot_format objects least).fits e ≡ true → SlotFits objects least e
unfolding slot_format
slot-parts objects least e few is =
    let a = and_parts _ _ is in
    let b = and_parts _ _ a.1 in
    let c = and_parts _ _ b.1 in
    let d = and_parts _ _ c.1 in
    let f = and_parts _ _ d.1 in
    let cnode = ltb-true e.cnode objects (field-parts (below objects) e.cnode a.0).1 in
    let index = and_parts _ _ (field-parts (λ index. nat_le least (pair_key e.cnode index) && nat_lt index (2 ^ 14)) e.index b.0).1 in
    let word1 = field-parts (λ word1. is_some (unpacked e.word0 word1)) e.word1 d.0 in
    let parent = field-parts (λ parent. nat_lt parent objects || (parent == no_parent)) e.parent_cnode f.0 in
    let named = (field-parts (names_parent ((e.word0 == 0) && (e.word1 == 0)) e.parent_cnode) e.parent_index f.1).1 in
    record {
      behind = leb-true least (pair_key e.cnode e.index) index.0;
      cnode = cnode;
      parent = parent.1;
      named = named;
      lists = slot-lists e (unpacked e.word0 e.word1) refl word1.1 (omega (arith, few, cnode)) index.1 (field-parts anything e.word0 c.0).0 word1.0 parent.0
          named;
    }
