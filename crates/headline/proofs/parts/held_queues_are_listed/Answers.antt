-- By what it was given.
use Rattle.std.proofs.Common.{◌∙◌, sym, ap}
use Rattle.model.specs.Capabilities.Slots.{capability_at}
use Rattle.model.specs.Kernel.Kinds.{object_named}
use Rattle.std.proofs.lemmas.Option.{none-some}
use Rattle.std.proofs.Common.{inl, inr}
use Rattle.headline.proofs.parts.Bridge.{held-changes}
use Rattle.headline.proofs.parts.held_queues_are_listed.Goals as goal

pub returns : goal.returns
returns c = λ bytes image t s object accepted given listed inside plain h.
    held-changes image (c.objects_stand_inside_their_untypeds.ensures image accepted.spelled.fits accepted.formed) t.thread object inside plain s
    (capability_at s.slots h.slot) h.such
    (given t h.slot listed h.own (λ empty. elim h.such.names [
      | inl endpoint ↦ none-some _ (sym (ap object_named empty) ∙ endpoint)
      | inr notification ↦ none-some _ (sym (ap object_named empty) ∙ notification)
    ]))
