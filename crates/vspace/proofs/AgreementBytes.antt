-- The bytes of slots change: no table is there, so the tables agree as before, and what may be put stays so.
use Rattle.std.proofs.Common.{◌≡◌, ◌∙◌, ℕ, inl, inr, Some, None, List, refl, sym, subst, arith}
use Rattle.model.specs.Capabilities.Slots.{SameOutside, Slots, capability_at}
use Rattle.model.specs.declared.capabilities.Cap.{Cap}
use Rattle.model.specs.declared.capabilities.Cap.TheVariants.{Empty, Untyped, Endpoint, Notification, CNode, Frame, PageTable, Tcb, RootTable, InterruptControl}
use Rattle.model.specs.declared.capabilities.Cap.TheVariants.{InterruptHandler}
use Rattle.vspace.specs.Agreement.{IsBlank, IsNewPageTable, IsNewRoot, MayBePut, SameInTables}
use Rattle.vspace.specs.Kept.{IsNamedTable, NamesTable}
use Rattle.vspace.specs.Tables.{IsTable, TablesAgree}
use Rattle.vspace.proofs.AgreementSlots.{agree-beside}
use Rattle.vspace.proofs.Steps.{word-outside}

-- each table that a capability names is apart from slots
stands-as : (slots : Slots) (memory : List ℕ) (t table : ℕ) → table ≡ t → IsTable slots memory t → IsTable slots memory table
stands-as slots memory t table same stands = subst (λ (u : ℕ). IsTable slots memory u) (sym same) stands

stands-held : (slots : Slots) (memory : List ℕ) (y table : ℕ) (c : Cap) → TablesAgree slots memory → capability_at slots y ≡ c → NamesTable c table →
    IsTable slots memory table
stands-held slots memory y table (RootTable root) agree held named = stands-as slots memory root table named (agree.roots y root held)
stands-held slots memory y table (PageTable t None) agree held named = stands-as slots memory t table named (agree.tables y t None held)
stands-held slots memory y table (PageTable t (Some m)) agree held named = elim named [
  | inl own ↦ stands-as slots memory t table own (agree.tables y t (Some m) held)
  | inr above ↦ stands-as slots memory m.root table above (agree.mapped_roots y t m held)
]
stands-held slots memory y table Empty agree held named = absurd named
stands-held slots memory y table (Untyped _ _ _) agree held named = absurd named
stands-held slots memory y table (Endpoint _ _ _) agree held named = absurd named
stands-held slots memory y table (Notification _ _ _) agree held named = absurd named
stands-held slots memory y table (CNode _ _ _) agree held named = absurd named
stands-held slots memory y table (Frame _ _ _) agree held named = absurd named
stands-held slots memory y table (Tcb _) agree held named = absurd named
stands-held slots memory y table InterruptControl agree held named = absurd named
stands-held slots memory y table (InterruptHandler _) agree held named = absurd named

pub named-stands : (slots : Slots) (memory : List ℕ) (table : ℕ) → TablesAgree slots memory → IsNamedTable slots table → IsTable slots memory table
named-stands slots memory table agree named = stands-held slots memory named.0 table (capability_at slots named.0) agree refl named.1

same-in_tables : (slots : Slots) (before after : List ℕ) → TablesAgree slots before → SameOutside slots before after → SameInTables slots before after
same-in_tables slots before after agree same = record {
  size = same.size;
  bytes = λ table place named low high. same.bytes place ((named-stands slots before table agree named).outside place low high);
}

pub agree-outside : (slots : Slots) (before after : List ℕ) → TablesAgree slots before → SameOutside slots before after → TablesAgree slots after
agree-outside slots before after agree same = agree-beside slots before after agree (same-in_tables slots before after agree same)

-- ---- what may be put

blank-outside : (slots : Slots) (before after : List ℕ) (table : ℕ) → SameOutside slots before after → IsBlank slots before table → IsBlank slots after table
blank-outside slots before after table same blank = record {
  stands = record {
    aligned = blank.stands.aligned;
    within = omega (arith, blank.stands.within, same.size);
    outside = blank.stands.outside;
  };
  zero = λ i few. word-outside slots before after table i same blank.stands.outside few ∙ blank.zero i few;
}

root-outside : (slots : Slots) (before after : List ℕ) (root : ℕ) → SameOutside slots before after → IsNewRoot slots before root → IsNewRoot slots after root
root-outside slots before after root same new = record {
  blank = blank-outside slots before after root same new.blank;
  no_page_table = new.no_page_table;
}

page_table-outside : (slots : Slots) (before after : List ℕ) (table : ℕ) → SameOutside slots before after → IsNewPageTable slots before table →
    IsNewPageTable slots after table
page_table-outside slots before after table same new = record {
  blank = blank-outside slots before after table same new.blank;
  no_page_table = new.no_page_table;
  no_root = new.no_root;
  no_mapped_root = new.no_mapped_root;
}

pub may-outside : (slots : Slots) (before after : List ℕ) (c : Cap) → MayBePut slots before c → SameOutside slots before after → MayBePut slots after c
may-outside slots before after (RootTable root) may same = (
  may.0,
  elim (may.1) [
    | inl copy ↦ inl copy
    | inr new ↦ inr (root-outside slots before after root same new)
  ],
)
may-outside slots before after (PageTable table None) may same = (may.0, page_table-outside slots before after table same may.1)
may-outside slots before after (PageTable _ (Some _)) may same = may
may-outside slots before after (Frame _ _ None) may same = may
may-outside slots before after (Frame _ _ (Some _)) may same = may
may-outside slots before after Empty may same = may
may-outside slots before after (Untyped _ _ _) may same = may
may-outside slots before after (Endpoint _ _ _) may same = may
may-outside slots before after (Notification _ _ _) may same = may
may-outside slots before after (CNode _ _ _) may same = may
may-outside slots before after (Tcb _) may same = may
may-outside slots before after InterruptControl may same = may
may-outside slots before after (InterruptHandler _) may same = may
