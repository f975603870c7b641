-- A page table loses its mapping only under the thread's own root table.
use Rattle.std.proofs.Common.{◌≡◌, Some, None, inl, sym, ap, ◌∙◌}
use Rattle.model.specs.declared.capabilities.TableMapping.{TableMapping}
use Rattle.model.specs.Capabilities.CapabilityKinds.{table_mapping}
use Rattle.model_laws.proofs.authority_laws.objects_stay_what_they_are.Goals as goal

pub returns-clause-table : goal.returns-clause-table
returns-clause-table c = λ image t s after slot root differ before behind within.
    let mapping : TableMapping = record { root = root; region = 1 } in
    differ (within.table_mappings slot mapping
    (λ same. let e : Some mapping ≡ None = sym (ap table_mapping before) ∙ same ∙ ap table_mapping behind in cc)
    (inl (ap table_mapping before)))
