-- The tables that capabilities name.
use Rattle.std.proofs.Common.{ℕ, ◌≡◌, inl, inr, Option, Some, None, refl, sym, subst}
use Rattle.model.specs.Capabilities.CapabilityKinds.{unmapped}
use Rattle.model.specs.Capabilities.Slots.{Slots, capability_at}
use Rattle.model.specs.declared.capabilities.Cap.{Cap}
use Rattle.model.specs.declared.capabilities.Cap.TheVariants.{Empty, Untyped, Endpoint, Notification, CNode, Frame, PageTable, Tcb, RootTable, InterruptControl}
use Rattle.model.specs.declared.capabilities.Cap.TheVariants.{InterruptHandler}
use Rattle.model.specs.declared.capabilities.TableMapping.{TableMapping}
use Rattle.vspace.specs.Kept.{IsNamedTable, NamesTable}

pub names-root : (slots : Slots) (y root : ℕ) → capability_at slots y ≡ RootTable root → IsNamedTable slots root
names-root slots y root held = (y, subst (λ (c : Cap). NamesTable c root) (sym held) refl)

names-own : (table : ℕ) (m : Option TableMapping) → NamesTable (PageTable table m) table
names-own table None = refl
names-own table (Some m) = inl refl

pub names-table : (slots : Slots) (y table : ℕ) (m : Option TableMapping) → capability_at slots y ≡ PageTable table m → IsNamedTable slots table
names-table slots y table m held = (y, subst (λ (c : Cap). NamesTable c table) (sym held) (names-own table m))

names-above : (table : ℕ) (m : TableMapping) → NamesTable (PageTable table (Some m)) m.root
names-above table m = inr refl

pub names-mapped_root : (slots : Slots) (y table : ℕ) (m : TableMapping) → capability_at slots y ≡ PageTable table (Some m) → IsNamedTable slots m.root
names-mapped_root slots y table m held = (y, subst (λ (c : Cap). NamesTable c m.root) (sym held) (names-above table m))

-- without its mapping a capability names no other table
pub names-unmapped : (c : Cap) (table : ℕ) → NamesTable (unmapped c) table → NamesTable c table
names-unmapped (PageTable t None) table named = named
names-unmapped (PageTable t (Some m)) table named = inl named
names-unmapped (RootTable root) table named = named
names-unmapped Empty table named = named
names-unmapped (Untyped _ _ _) table named = named
names-unmapped (Endpoint _ _ _) table named = named
names-unmapped (Notification _ _ _) table named = named
names-unmapped (CNode _ _ _) table named = named
names-unmapped (Frame _ _ _) table named = named
names-unmapped (Tcb _) table named = named
names-unmapped InterruptControl table named = named
names-unmapped (InterruptHandler _) table named = named
