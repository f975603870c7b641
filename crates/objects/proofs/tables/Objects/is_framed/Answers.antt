-- A frame lies in memory.
use Rattle.std.proofs.Common.{◌∙◌, sym}
use Rattle.objects.proofs.FramePlaces.{framed-inside}
use Rattle.objects.specs.contracts.tables.Objects.{the_view}
use Rattle.objects.proofs.tables.Objects.is_framed.Goals as goal

pub returns-in-Frame-clause-inside : goal.returns-in-Frame-clause-inside
returns-in-Frame-clause-inside c = λ _. rw (← c.self.view_is)
    (framed-inside (the_view c.self.inside) c.args.place c.self.invariant (sym c.get.ensures ∙ c.in-Frame.is))
