-- The slots at a point are the image's with changes.
use Rattle.std.proofs.Common.{◌∙◌, [], List, sym, ap}
use Rattle.std.specs.List.{list_any}
use Rattle.model.specs.Acceptance.NotedStates.{NotedSlot}
use Rattle.program_rules.proofs.visits.VisitedSlots.has_stray_slots.Goals as goal
use Rattle.typestate.specs.Strays.{is_stray_in}

pub invariant_of-told : goal.invariant_of-told
invariant_of-told c =
    let program = c.args.self.now.visit.program.now in
    record {
      listed = program.given.decides_stray ∙ ap (λ (slots : List NotedSlot). list_any (is_stray_in program.given.space []) slots) (sym c.args.self.now.image);
      clean = c.args.self.now.clean;
    }
