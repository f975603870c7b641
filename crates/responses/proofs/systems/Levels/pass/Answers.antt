-- By the tests of its parts.
use Rattle.std.proofs.Common.{◌∙◌, Option, List, map, subst, sym}
use Rattle.model.specs.Images.Image.{Image}
use Rattle.answering.specs.Answers.{AreAnswers}
use Rattle.answering.specs.declared.answers.Answered.{Answered}
use Rattle.responses.proofs.Whole.{tested-is}
use Rattle.responses.proofs.systems.Levels.pass.Goals as goal
use Rattle.responses.specs.Bounds.{IsTested}
use Rattle.responses.specs.Found.{rate_of}
use Rattle.responses.specs.Keepers.{AreKeepers}
use Rattle.responses.specs.Lines.{AreBells}
use Rattle.responses.specs.Outlines.{AreOutlines}
use Rattle.responses.specs.declared.keepers.Keeper.{Keeper}
use Rattle.responses.specs.declared.lines.Bell.{Bell}
use Rattle.responses.specs.declared.outlines.Outline.{Outline}

pub returns : goal.returns
returns c = λ less.
    let i = c.self.invariant in
    let image = c.self.inside.image.now in
    let claim = c.args.claim.now in
    let programs = c.as_slice-programs.result.now in
    let bells = c.as_slice-bells.result.now in
    let keepers = c.as_slice-keepers.result.now in
    let found = c.as_slice.result.now in
    let are = subst (λ (l : List Outline). AreOutlines image 0 image.threads l) (sym c.as_slice-programs.ensures.value) i.2 in
    let are_bells = subst (λ (l : List (Option Bell)). AreBells image l) (sym c.as_slice-bells.ensures.value) i.3 in
    let are_keepers =
    subst (λ (l : List (Option Keeper)). AreKeepers programs bells l) (sym c.as_slice-keepers.ensures.value)
    (subst (λ (l : List (Option Bell)). AreKeepers programs l c.self.inside.keepers.items) (sym c.as_slice-bells.ensures.value)
    (subst (λ (l : List Outline). AreKeepers l c.self.inside.bells.items c.self.inside.keepers.items) (sym c.as_slice-programs.ensures.value) i.4)) in
    let are_found = subst (λ (l : List Answered). AreAnswers image l) (sym c.as_slice.ensures.value) i.5 in
    subst (λ (v : Image). IsTested v claim.priority (map rate_of claim.rates.now) claim.settled.now.inputs.items claim.lines.now claim.tended.now
    c.args.numbers.now.steps c.args.numbers.now.later) c.self.view_is
    (tested-is image i.1 i.0 programs are bells are_bells keepers are_keepers found are_found claim.priority claim.weights.now c.in-Some.ensures.rise
    claim.settled.now claim.taken.now claim.tended.now claim.owed.now c.threads_are_as_listed.ensures c.programs_have_their_places.ensures
    claim.rates.now claim.lines.now _ _ _ _ c.args.numbers.now.most_at_first c.args.numbers.now.most_at_rest c.args.numbers.now.steps
    c.args.numbers.now.later c.in-Some.ensures.rest c.in-Some-costs_within.ensures c.in-Some-costs_within-2.ensures c.in-Some-left_at_start.ensures
    (sym c.is_acknowledged.ensures ∙ c.if-not-is_acknowledged.false) (sym c.is_paid.ensures ∙ c.if-not-is_paid.false)
    (sym c.fits.ensures ∙ c.if-not-fits.false) (sym c.fits-2.ensures ∙ c.if-not-fits-2.false) less)
