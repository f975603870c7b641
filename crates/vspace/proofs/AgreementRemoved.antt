-- A removal empties full slots, sets watermarks back and closes slots that are empty: the tables agree as before.
use Rattle.std.proofs.Common.{◌≡◌, ◌∙◌, ℕ, Some, List, refl, sym, ap, subst, arith}
use Rattle.model.specs.Capabilities.CapabilityKinds.{unmapped}
use Rattle.model.specs.Capabilities.CapabilityWords.{IsCapability}
use Rattle.model.specs.Capabilities.Slots.{IsFull, IsOpen, Slots, capability_at, closed, empty_entry, recapped, spliced}
use Rattle.model.specs.declared.capabilities.Cap.{Cap}
use Rattle.model.specs.declared.capabilities.Cap.TheVariants.{Untyped}
use Rattle.model.proofs.Ancestors.{full-open}
use Rattle.model.proofs.SlotChanges.{capability_of}
use Rattle.removal_laws.specs.Steps.{unused}
use Rattle.vspace.specs.Agreement.{IsWithoutTables}
use Rattle.vspace.specs.Tables.{TablesAgree}
use Rattle.vspace.proofs.AgreementCarried.{open-some}
use Rattle.vspace.proofs.AgreementSlots.{agree-changed, agree-closed, agree-removed}
use Rattle.vspace.proofs.Writes.{recapped-same}

pub agree-emptied : (slots : Slots) (memory : List ℕ) (slot : ℕ) → TablesAgree slots memory → IsFull slots slot
    → unmapped (capability_at slots slot) ≡ capability_at slots slot → TablesAgree (spliced slots slot) memory
agree-emptied slots memory slot agree full bare = agree-removed slots memory slot agree (full-open slots slot full) bare

-- what is no untyped memory stays as it is
unused-of : (slots : Slots) (memory : List ℕ) (slot : ℕ) → TablesAgree slots memory → IsOpen slots slot → (c : Cap) → capability_at slots slot ≡ c
    → TablesAgree (recapped slots slot (unused c)) memory
unused-of slots memory slot agree is_open (Untyped offset bits watermark) held =
    let fine : IsCapability (Untyped offset bits watermark) = subst (λ (c : Cap). IsCapability c) held (agree.valid slot) in
    agree-changed slots memory slot (Untyped offset bits 0) agree is_open (subst (λ (c : Cap). IsWithoutTables c) (sym held) tt) tt
    (fine.0, fine.1, fine.2, omega (arith))
unused-of slots memory slot agree is_open c held =
    subst (λ (s : Slots). TablesAgree s memory) (sym (recapped-same slots slot c (open-some slots slot is_open) held)) agree

pub agree-unused : (slots : Slots) (memory : List ℕ) (slot : ℕ) → TablesAgree slots memory → IsFull slots slot
    → TablesAgree (recapped slots slot (unused (capability_at slots slot))) memory
agree-unused slots memory slot agree full =
    unused-of slots memory slot agree (full-open slots slot full) (capability_at slots slot) refl

pub agree-one_closed : (slots : Slots) (memory : List ℕ) (slot : ℕ) → TablesAgree slots memory → slots slot ≡ Some empty_entry →
    TablesAgree (closed slots slot 1) memory
agree-one_closed slots memory slot agree empty =
    agree-closed slots memory slot 1 agree (λ other low high.
    let same : other ≡ slot = omega (arith, low, high) in
    ap (capability_at slots) same ∙ ap capability_of empty)
