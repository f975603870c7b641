-- The bytes beside slots and tables stay, one change after another.
use Rattle.std.proofs.Common.{◌≡◌, ◌∙◌, ℕ, ◌/◌, inl, inr, Option, Some, None, List, refl, ap, subst}
use Rattle.std.specs.Option.{option_map}
use Rattle.model.specs.Capabilities.Slots.{Slots}
use Rattle.model.specs.declared.slot_entries.Entry.{Entry}
use Rattle.model.proofs.SlotChanges.{capability_of}
use Rattle.vspace.specs.Regions.{unmapped_entry}
use Rattle.vspace.specs.Kept.{IsNamedTable, NamesTable, SameBesideTables}
use Rattle.vspace.proofs.LostMappings.{IsLess}
use Rattle.vspace.proofs.Names.{names-unmapped}

-- some slots stay closed, and no other table is named
pub record Fewer (old now : Slots) : Type 0 where
  pub closed : (y : ℕ) → old y ≡ None → now y ≡ None
  pub named : (table : ℕ) → IsNamedTable now table → IsNamedTable old table

pub beside-then : (old now : Slots) (m0 m1 m2 : List ℕ) → Fewer old now → SameBesideTables old m0 m1 → SameBesideTables now m1 m2 → SameBesideTables old m0 m2
beside-then old now m0 m1 m2 fewer first second = record {
  size = second.size ∙ first.size;
  bytes = λ place closed apart.
      second.bytes place (fewer.closed (place / 16) closed) (λ table named. apart table (fewer.named table named))
      ∙ first.bytes place closed apart;
}

pub beside-same : (slots : Slots) (memory : List ℕ) → SameBesideTables slots memory memory
beside-same slots memory = record { size = refl; bytes = λ place closed apart. refl }

-- ---- changes of the slots

names-ended : (held : Option Entry) (table : ℕ) → NamesTable (capability_of (option_map unmapped_entry held)) table → NamesTable (capability_of held) table
names-ended None table named = named
names-ended (Some held) table named = names-unmapped held.capability table named

pub fewer-less : (old now : Slots) → IsLess old now → Fewer old now
fewer-less old now less = record {
  closed = λ y none. elim (less y) [
    | inl lost ↦ lost ∙ ap (option_map unmapped_entry) none
    | inr kept ↦ kept ∙ none
  ];
  named = λ table names. (
    names.0,
    elim (less names.0) [
      | inl lost ↦ names-ended (old names.0) table (subst (λ (held : Option Entry). NamesTable (capability_of held) table) lost names.1)
      | inr kept ↦ subst (λ (held : Option Entry). NamesTable (capability_of held) table) kept names.1
    ],
  );
}
