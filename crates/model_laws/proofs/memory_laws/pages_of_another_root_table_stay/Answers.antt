-- A mapping changes only under the thread's own root table.
use Rattle.std.proofs.Common.{◌≡◌, Some, None, inl, inr, sym, ap, ◌∙◌}
use Rattle.model.specs.declared.capabilities.FrameMapping.{FrameMapping}
use Rattle.model.specs.declared.capabilities.TableMapping.{TableMapping}
use Rattle.model.specs.Capabilities.CapabilityKinds.{frame_mapping, table_mapping}
use Rattle.model_laws.proofs.memory_laws.pages_of_another_root_table_stay.Goals as goal

pub returns-clause-mapped : goal.returns-clause-mapped
returns-clause-mapped c = λ image t s after slot frame root page held allowed differ before behind within.
    let mapping : FrameMapping = record { root = root; page = page; rights = allowed } in
    differ (within.frame_mappings slot mapping
    (λ same. let e : None ≡ Some mapping = sym (ap frame_mapping before) ∙ same ∙ ap frame_mapping behind in cc)
    (inr (ap frame_mapping behind)))

pub returns-clause-unmapped : goal.returns-clause-unmapped
returns-clause-unmapped c = λ image t s after slot frame root page held allowed differ before behind within.
    let mapping : FrameMapping = record { root = root; page = page; rights = allowed } in
    differ (within.frame_mappings slot mapping
    (λ same. let e : Some mapping ≡ None = sym (ap frame_mapping before) ∙ same ∙ ap frame_mapping behind in cc)
    (inl (ap frame_mapping before)))

pub returns-clause-table : goal.returns-clause-table
returns-clause-table c = λ image t s after slot table root region differ before behind within.
    let mapping : TableMapping = record { root = root; region = region } in
    differ (within.table_mappings slot mapping
    (λ same. let e : None ≡ Some mapping = sym (ap table_mapping before) ∙ same ∙ ap table_mapping behind in cc)
    (inr (ap table_mapping behind)))
