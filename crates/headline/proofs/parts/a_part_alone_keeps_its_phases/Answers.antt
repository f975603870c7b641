-- These rules do not look at threads.
use Rattle.std.proofs.Common.{refl}
use Rattle.model.specs.Acceptance.WellFormed.{capability_rules, does_not_fit, has_no_room, has_writable_code, mapping_rules, misplaces_frame, misplaces_table}
use Rattle.model.specs.Acceptance.WellFormed.{object_rules, overlaps}
use Rattle.headline.specs.parts.Parts.{alone}
use Rattle.headline.proofs.parts.a_part_alone_keeps_its_phases.Goals as goal

pub returns : goal.returns
unfolding object_rules capability_rules mapping_rules overlaps has_no_room does_not_fit has_writable_code misplaces_frame misplaces_table alone
returns c = λ image part. (refl, refl, refl)
