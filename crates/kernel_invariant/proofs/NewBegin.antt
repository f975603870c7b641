-- Where objects are to come, in untyped memory whose watermark is set.
use Rattle.std.proofs.Common.{ℕ, ◌≡◌, ◌∙◌, ◌+◌, ◌/◌, ◌^◌, ◌≤◌, ◌⊎◌, inl, inr, not, Some, None, List, refl, sym, ap, subst, arith}
use Rattle.kernel_invariant.proofs.Agreeing.{agrees-less}
use Rattle.kernel_invariant.proofs.Lessened.{Lessened, less-recapped, named-before}
use Rattle.kernel_invariant.specs.Agreement.{Agrees}
use Rattle.kernel_invariant.specs.Growing.{Growing}
use Rattle.model.proofs.Ancestors.{full-open}
use Rattle.model.specs.Capabilities.CapabilityKinds.{table_mapping}
use Rattle.model.specs.Capabilities.CapabilityWords.{IsCapability}
use Rattle.model.specs.Capabilities.Slots.{IsFull, IsOpen, SameOutside, Slots, capability_at, is_empty, recapped}
use Rattle.model.specs.Kernel.AddressSpaces.{page_size}
use Rattle.model.specs.Kernel.Kinds.{kind_at, object_named}
use Rattle.model.specs.Kernel.Retype.{NewObject, NewPageTable, NewRootTable, object_bits}
use Rattle.model.specs.Kernel.Soundness.{IsSound}
use Rattle.model.specs.Kernel.State.{State, with_slots}
use Rattle.model.specs.declared.capabilities.Cap.{Cap}
use Rattle.model.specs.declared.capabilities.Cap.TheVariants.{Empty, Untyped, Endpoint, Notification, CNode, Frame, PageTable, Tcb, RootTable, InterruptControl}
use Rattle.model.specs.declared.capabilities.Cap.TheVariants.{InterruptHandler}
use Rattle.soundness.proofs.Laws.{unused-free}
use Rattle.soundness.specs.Unused.{IsFree}
use Rattle.vspace.proofs.Laws.{agree-changed, agree-outside}
use Rattle.vspace.specs.Agreement.{IsWithoutTables}
use Rattle.vspace.specs.Kept.{IsNamedTable, NamesTable}
use Rattle.vspace.specs.Tables.{TablesAgree}

-- a table that a capability names is an object of a table's size
abbrev TableStands : State → ℕ → Type 0
TableStands s table = (kind : NewObject) × (kind_at s table ≡ Some kind) × (2 ^ object_bits kind ≡ page_size)

stands-at : (s : State) (kind : NewObject) (table at : ℕ) → table ≡ at → kind_at s at ≡ Some kind → 2 ^ object_bits kind ≡ page_size → TableStands s table
stands-at s kind table at same is size = (kind, ap (kind_at s) same ∙ is, size)

table-stands : (s : State) (slot table : ℕ) (c : Cap) → IsSound s → capability_at s.slots slot ≡ c → NamesTable c table → TableStands s table
table-stands s slot table (RootTable root) sound held named =
    stands-at s NewRootTable table root named (sound.memory.named slot NewRootTable root (ap object_named held)) refl
table-stands s slot table (PageTable t None) sound held named =
    stands-at s NewPageTable table t named (sound.memory.named slot NewPageTable t (ap object_named held)) refl
table-stands s slot table (PageTable t (Some m)) sound held named = elim named [
  | inl own ↦ stands-at s NewPageTable table t own (sound.memory.named slot NewPageTable t (ap object_named held)) refl
  | inr above ↦ stands-at s NewRootTable table m.root above (sound.mappings.table_root slot m (ap table_mapping held)) refl
]
table-stands s slot table Empty sound held named = absurd named
table-stands s slot table (Untyped o b w) sound held named = absurd named
table-stands s slot table (Endpoint o r b) sound held named = absurd named
table-stands s slot table (Notification o r b) sound held named = absurd named
table-stands s slot table (CNode o r g) sound held named = absurd named
table-stands s slot table (Frame f r m) sound held named = absurd named
table-stands s slot table (Tcb o) sound held named = absurd named
table-stands s slot table InterruptControl sound held named = absurd named
table-stands s slot table (InterruptHandler line) sound held named = absurd named

pub named-table_stands : (s : State) (table : ℕ) → IsSound s → IsNamedTable s.slots table → TableStands s table
named-table_stands s table sound named = table-stands s named.0 table (capability_at s.slots named.0) sound refl named.1

-- no table lies where memory is free
pub tables-elsewhere : (s : State) (from to table : ℕ) → IsSound s → IsFree s from to → IsNamedTable s.slots table → (table + page_size ≤ from) ⊎ (to ≤ table)
tables-elsewhere s from to table sound free named =
    let stands = named-table_stands s table sound named in
    let size = stands.2 in
    elim (free.objects table stands.0 stands.1) [
      | inl before ↦ inl (omega (arith, before, size))
      | inr behind ↦ inr behind
    ]

-- a part of free memory is free, and stays so where slots are only closed
pub free-part : (s : State) (now : Slots) (from to first last : ℕ) → IsFree s from to → from ≤ first → last ≤ to →
    ((slot : ℕ) → s.slots slot ≡ None → now slot ≡ None)
    → IsFree (with_slots s now) first last
free-part s now from to first last free low high closed = record {
  objects = λ offset kind is. elim (free.objects offset kind is) [
    | inl before ↦ inl (omega (arith, before, low))
    | inr behind ↦ inr (omega (arith, behind, high))
  ];
  slots = λ place after until. closed (place / 16) (free.slots place (omega (arith, after, low)) (omega (arith, until, high)));
  bytes = λ place after until. free.bytes place (omega (arith, after, low)) (omega (arith, until, high));
}

-- untyped memory names no table, so another watermark changes little
module _ (s : State) (old new : List ℕ) (parent offset bits used watermark : ℕ) (sound : IsSound s)
    (memory : capability_at s.slots parent ≡ Untyped offset bits used)
    (fits : watermark ≤ 2 ^ bits) (agrees : Agrees s old) (same : SameOutside s.slots old new) where
  abbrev marked : Cap
  marked = Untyped offset bits watermark

  parent-open : IsOpen s.slots parent
  parent-open = full-open s.slots parent (let full : IsFull s.slots parent = ap (λ (c : Cap). not (is_empty c)) memory in full)

  marked-less : Lessened s.slots (recapped s.slots parent marked)
  marked-less = less-recapped s.slots parent marked parent-open (λ table names. absurd names)

  marked-valid : IsCapability marked
  marked-valid = let was : IsCapability (Untyped offset bits used) = subst IsCapability memory (sound.slots.derivation.valid parent) in
      (was.0, was.1, was.2, fits)

  marked-tables : TablesAgree (recapped s.slots parent marked) new
  marked-tables =
      agree-changed s.slots new parent marked (agree-outside s.slots old new agrees.tables same) parent-open
      (subst (λ (c : Cap). IsWithoutTables c) (sym memory) tt) tt marked-valid

  marked-agrees : Agrees (with_slots s (recapped s.slots parent marked)) new
  marked-agrees =
      agrees-less s (with_slots s (recapped s.slots parent marked)) old new agrees marked-tables refl same.size marked-less (λ place none. none)
      (λ at kind is. is)

  pub growing-marked : (first to : ℕ) → offset + used ≤ first → to ≤ offset + watermark → Growing (with_slots s (recapped s.slots parent marked)) new first to
  growing-marked first to behind below =
      let unused = unused-free s sound parent offset bits used memory in
      let end = unused.inside in
      let free : IsFree s first to = free-part s s.slots (offset + used) (offset + 2 ^ bits) first to unused.free behind (omega (arith, below, fits))
      (λ slot none. none) in
      record {
        agrees = marked-agrees;
        free = free-part s (recapped s.slots parent marked) first to first to free (omega arith) (omega arith) marked-less.closed;
        tables = λ table named. tables-elsewhere s first to table sound free (named-before s.slots (recapped s.slots parent marked) marked-less table named);
        inside = omega (arith, below, fits, end);
      }

pub growing-base : (s : State) (old new : List ℕ) (parent offset bits used watermark first to : ℕ) → IsSound s →
    capability_at s.slots parent ≡ Untyped offset bits used
    → offset + used ≤ first → to ≤ offset + watermark → watermark ≤ 2 ^ bits → Agrees s old → SameOutside s.slots old new
    → Growing (with_slots s (recapped s.slots parent (Untyped offset bits watermark))) new first to
growing-base s old new parent offset bits used watermark first to sound memory behind below fits agrees same =
    growing-marked s old new parent offset bits used watermark sound memory fits agrees same first to behind below
