-- Where no slot holds anything and no frame has bytes, everything agrees.
use Rattle.std.proofs.Common.{ℕ, ◌≡◌, ◌∙◌, ◌^◌, Some, None, List, length, refl, sym, ap, subst, false, true}
use Rattle.model.specs.Capabilities.CapabilityWords.{IsCapability}
use Rattle.model.specs.Capabilities.Slots.{capability_at, is_empty}
use Rattle.model.specs.Kernel.State.{State}
use Rattle.model.specs.declared.capabilities.Cap.{Cap}
use Rattle.model.specs.declared.capabilities.Cap.TheVariants.{Empty, Frame, PageTable, RootTable}
use Rattle.kernel_invariant.specs.Agreement.{Agrees}
use Rattle.vspace.specs.Kept.{IsNamedTable, NamesTable}
use Rattle.vspace.specs.Tables.{TablesAgree}

module _ (s : State) (memory : List ℕ) (empty : (slot : ℕ) → capability_at s.slots slot ≡ Empty) where
  not-held : (slot : ℕ) (c : Cap) → is_empty c ≡ false → capability_at s.slots slot ≡ c → ⊥
  not-held slot c filled is = let clash : true ≡ false = ap is_empty (sym (empty slot) ∙ is) ∙ filled in cc

  not-named : (table : ℕ) → IsNamedTable s.slots table → ⊥
  not-named table named = subst (λ (c : Cap). NamesTable c table) (empty named.0) named.1

  bare-tables : TablesAgree s.slots memory
  bare-tables = record {
    valid = λ slot. subst IsCapability (sym (empty slot)) tt;
    roots = λ slot root is. absurd (not-held slot (RootTable root) refl is);
    tables = λ slot table m is. absurd (not-held slot (PageTable table m) refl is);
    mapped_roots = λ slot table m is. absurd (not-held slot (PageTable table (Some m)) refl is);
    pointers = λ slot table m is. absurd (not-held slot (PageTable table (Some m)) refl is);
    frames = λ slot frame r m is. absurd (not-held slot (Frame frame r (Some m)) refl is);
    leaves = λ slot frame r m is. absurd (not-held slot (Frame frame r (Some m)) refl is);
    only_pointers = λ slot root region is. absurd (not-held slot (RootTable root) refl is);
    only_leaves = λ slot table m i is. absurd (not-held slot (PageTable table (Some m)) refl is);
    blank = λ slot table i is. absurd (not-held slot (PageTable table None) refl is);
    one_table = λ a b table m n is other. absurd (not-held a (PageTable table m) refl is);
    one_frame = λ a b f g r q m n is other. absurd (not-held a (Frame f r (Some m)) refl is);
    apart = λ a b root table m is other. absurd (not-held a (RootTable root) refl is);
    mapped_apart = λ a b t table m n is other. absurd (not-held a (PageTable t (Some m)) refl is);
  }

  pub bare-agrees : ((place : ℕ) → s.bytes place ≡ None) → 2 ^ s.memory_bits ≡ length memory → Agrees s memory
  bare-agrees none size = record {
    tables = bare-tables;
    size = size;
    slots = λ place is_open. none place;
    frames = λ table place named low high. none place;
    records = λ table place offset kind named. absurd (not-named table named);
  }
