-- A thread as far as it is read, and what one more line makes of it.
use Rattle.std.specs.Prelude.{◌≡◌, ℕ, ◌<◌, ◌≤◌, true, List, [], ◌∷◌, ◌++◌, length, is_some, Option, Some, None, MatchOption, option_map, option_to_list, ℤ}
use Rattle.std.specs.Prelude.{Result, Ok, Err}
use Rattle.model.specs.declared.entries.RegisterEntry.{RegisterEntry}
use Rattle.model.specs.declared.entries.RangeEntry.{RangeEntry}
use Rattle.model.specs.declared.entries.SlotEntry.{SlotEntry}
use Rattle.model.specs.declared.entries.TermEntry.{TermEntry}
use Rattle.model.specs.Images.Image.{Thread, StateRecord, pair_key, no_parent, no_buffer}
use Rattle.model.specs.Images.Listing.{Text}
use Rattle.asm_line.specs.declared.lines.ThreadLine.{ThreadLine}
use Rattle.asm_line.specs.declared.lines.Parent.{Parent}
use Rattle.asm_line.specs.declared.lines.Parent.TheVariants as parent
use Rattle.asm_line.specs.declared.lines.Code.{Code}
use Rattle.asm_line.specs.declared.lines.Code.TheVariants as code
use Rattle.asm_line.specs.Lines.{term_of, all_terms}
use Rattle.asm.specs.Keys.{is_behind}
use Rattle.asm.specs.Labels.{FoundLabels, place_named, point_of}
use Rattle.asm.specs.Names.{KnownNames, number_of, IsNamed}
use Rattle.asm_line.specs.declared.faults.LineFault.{LineFault}

-- the thread, and what its certificate says of the next instruction
pub record OpenDraft : Type 0 where
  pub thread : Thread
  pub next : Option StateRecord

-- ---- the first line

abbrev pub thread_begun : KnownNames → FoundLabels → ThreadLine → OpenDraft
thread_begun names labels said = record {
  thread = record {
    header = record {
      tcb = number_of names.objects said.tcb;
      cnode = number_of names.objects said.cnode;
      guard = said.guard;
      root = number_of names.objects said.root;
      priority = said.priority;
      budget = said.budget;
      fault = said.fault;
      buffer = no_buffer;
      entry = point_of labels said.entry;
      base = said.base;
      registers = 0;
      words = 0;
      records = 0;
    };
    registers = [];
    words = [];
    records = [];
  };
  next = None;
}

pub record MayBegin (names : KnownNames) (labels : FoundLabels) (said : ThreadLine) : Type 0 where
  pub tcb : IsNamed names.objects said.tcb
  pub cnode : IsNamed names.objects said.cnode
  pub root : IsNamed names.objects said.root
  pub entry : is_some (place_named labels said.entry) ≡ true

-- ---- the buffer

abbrev pub with_buffer : OpenDraft → ℕ → OpenDraft
with_buffer o frame = record o { thread = record o.thread { header = record o.thread.header { buffer = frame } } }

pub record MayAddBuffer (names : KnownNames) (o : OpenDraft) (frame : Text) : Type 0 where
  pub named : IsNamed names.objects frame
  pub single : o.thread.header.buffer ≡ no_buffer

-- ---- registers

abbrev pub with_register : OpenDraft → RegisterEntry → OpenDraft
with_register o entry = record o {
  thread = record o.thread {
    header = record o.thread.header { registers = length (o.thread.registers ++ entry ∷ []) };
    registers = o.thread.registers ++ entry ∷ [];
  };
}

pub record MayAddRegister (o : OpenDraft) (entry : RegisterEntry) : Type 0 where
  pub behind : is_behind (λ (e : RegisterEntry). e.register) entry.register o.thread.registers ≡ true
  pub room : length o.thread.registers < 31

-- ---- records

abbrev pub term_or_zero : Result TermEntry LineFault → TermEntry
term_or_zero (Ok term) = term
term_or_zero (Err e) = record { register = 0; coefficient = ℤ.pos 0 }

-- the terms that words say
abbrev pub terms_of : List Text → List TermEntry
terms_of [] = []
terms_of (name ∷ []) = []
terms_of (name ∷ factor ∷ words) = term_or_zero (term_of name factor) ∷ terms_of words

abbrev pub term_key : TermEntry → ℕ
term_key t = t.register

-- each of these keys is greater than the ones before it
abbrev pub AreBehind : {E : Type 0} → (E → ℕ) → List E → List E → Type 0
AreBehind key_of front [] = Unit {0}
AreBehind key_of front (x ∷ xs) = (is_behind key_of (key_of x) front ≡ true) × AreBehind key_of (front ++ x ∷ []) xs

abbrev pub record_begun : ℕ → ℤ → List Text → StateRecord
record_begun point constant terms = record {
  header = record { point = point; ranges = 0; slots = 0; terms = length (terms_of terms); constant = constant };
  ranges = [];
  slots = [];
  terms = terms_of terms;
}

abbrev pub with_measure : OpenDraft → ℤ → List Text → OpenDraft
with_measure o constant terms = record o { next = Some (record_begun (length o.thread.words) constant terms) }

pub record MayAddMeasure (o : OpenDraft) (terms : List Text) : Type 0 where
  pub fresh : o.next ≡ None
  pub words : length o.thread.words ≤ 65536
  pub said : all_terms terms ≡ Ok tt
  pub behind : AreBehind term_key [] (terms_of terms)
  pub short : length (terms_of terms) ≤ 4

-- a change of the record of the next instruction
abbrev pub in_next : (StateRecord → StateRecord) → OpenDraft → OpenDraft
in_next change o = record o { next = option_map change o.next }

abbrev pub record_with_range : RangeEntry → StateRecord → StateRecord
record_with_range entry r =
    record r { header = record r.header { ranges = length (r.ranges ++ entry ∷ []) }; ranges = r.ranges ++ entry ∷ [] }

abbrev pub with_range : OpenDraft → RangeEntry → OpenDraft
with_range o entry = in_next (record_with_range entry) o

pub record HasRoomForRange (r : StateRecord) (entry : RangeEntry) : Type 0 where
  pub behind : is_behind (λ (e : RangeEntry). e.register) entry.register r.ranges ≡ true
  pub room : length r.ranges < 31

abbrev pub MayAddRange : OpenDraft → RangeEntry → Type 0
MayAddRange o entry = MatchOption o.next ⊥ (λ r. HasRoomForRange r entry)

-- the parent, as an image has it
abbrev pub parent_numbers : KnownNames → Parent → ℕ × ℕ
parent_numbers names parent.Boot = (no_parent, no_parent)
parent_numbers names (parent.Slot cnode index) = (number_of names.objects cnode, index)

abbrev pub HasParent : KnownNames → Parent → Type 0
HasParent names parent.Boot = Unit {0}
HasParent names (parent.Slot cnode index) = IsNamed names.objects cnode

abbrev pub slot_entry : KnownNames → Text → ℕ → ℕ → ℕ → Parent → SlotEntry
slot_entry names cnode index word0 word1 parent = record {
  cnode = number_of names.objects cnode;
  index = index;
  word0 = word0;
  word1 = word1;
  parent_cnode = (parent_numbers names parent).0;
  parent_index = (parent_numbers names parent).1;
}

abbrev pub record_with_slot : SlotEntry → StateRecord → StateRecord
record_with_slot entry r =
    record r { header = record r.header { slots = length (r.slots ++ entry ∷ []) }; slots = r.slots ++ entry ∷ [] }

abbrev pub with_slot : OpenDraft → SlotEntry → OpenDraft
with_slot o entry = in_next (record_with_slot entry) o

pub record HasRoomForSlot (r : StateRecord) (key : ℕ) : Type 0 where
  pub behind : is_behind (λ (e : SlotEntry). pair_key e.cnode e.index) key r.slots ≡ true
  pub room : length r.slots < 256

pub record MayAddSlot (names : KnownNames) (o : OpenDraft) (cnode : Text) (index : ℕ) (parent : Parent) : Type 0 where
  pub named : IsNamed names.objects cnode
  pub parented : HasParent names parent
  pub room : MatchOption o.next ⊥ (λ r. HasRoomForSlot r (pair_key (number_of names.objects cnode) index))

-- ---- words

-- the word that a line without a label's name says
abbrev pub plain_word : Code → ℕ
plain_word (code.Word word) = word
plain_word _ = 0

abbrev pub IsPlain : Code → Type 0
IsPlain (code.Word word) = Unit {0}
IsPlain _ = ⊥

-- the record noted for the next instruction is that of this word
abbrev pub with_word : OpenDraft → ℕ → OpenDraft
with_word o word = record {
  thread = record o.thread {
    header = record o.thread.header {
      words = length (o.thread.words ++ word ∷ []);
      records = length (o.thread.records ++ option_to_list o.next);
    };
    words = o.thread.words ++ word ∷ [];
    records = o.thread.records ++ option_to_list o.next;
  };
  next = None;
}

pub record MayAddCode (o : OpenDraft) (said : Code) : Type 0 where
  pub plain : IsPlain said
  pub room : length o.thread.words < 65536

pub record MayEnd (o : OpenDraft) : Type 0 where
  pub done : o.next ≡ None
  pub some : 0 < length o.thread.words
