-- Each premise is a part of the test; where the level rests, its lines are dealt with.
use Rattle.std.proofs.Common.{◌++◌, [], ◌∷◌}
use Rattle.model.specs.declared.events.Event.TheVariants.{Step}
use Rattle.model.specs.Acceptance.Devices.{KeepsDevices}
use Rattle.headline.proofs.Laws.{all-front}
use Rattle.response.specs.DealtWith.{IsDealtWith, Rests}
use Rattle.response.specs.Responding.{is_open_by, is_taken_by}
use Rattle.response.proofs.ComesToRest.{holds-where, over-later, over-window, split-at}
use Rattle.response.proofs.MessagePassing.{answers-so, begins-with, owes-so, passed-with, steps-with-so}
use Rattle.response.proofs.Passing.{acknowledged-so, pays-so, rates-so, taken-alone}
use Rattle.response.proofs.tested_message_responses_hold.Goals as goal

pub returns-clause-steps : goal.returns-clause-steps
returns-clause-steps c = λ bytes image priority rates r most accepted is.
    let at = begins-with image priority rates r most is in
    let p = passed-with image priority rates r most at.0 in (
      image,
      accepted,
      λ events devices keeps.
          c.all_levels_rest_within.ensures.start bytes image priority r.weights rates (is_taken_by r) (is_open_by r) most r.most r.steps events accepted devices
          (pays-so r.weights p.priced image priority p.pays) (answers-so image priority r.weights p.answers) (taken-alone image priority r p.taken)
          (acknowledged-so image priority (λ u t a b same. c.threads_have_their_own_blocks.ensures bytes image u t accepted a b same) r p.open_ones)
          (owes-so image priority r.weights (is_taken_by r) most p.owes) (steps-with-so image priority r most p.steps_below)
          (rates-so image r.weights rates p.rated) at.1 p.rest
          keeps
          p.steps,
    )

pub returns-clause-rested_steps : goal.returns-clause-rested_steps
returns-clause-rested_steps c = λ bytes image priority rates r most accepted is.
    let p = passed-with image priority rates r most is in (
      image,
      accepted,
      λ events devices keeps.
          c.all_levels_rest_within.ensures.later bytes image priority r.weights rates (is_taken_by r) (is_open_by r) most r.most r.steps events accepted devices
          (pays-so r.weights p.priced image priority p.pays) (answers-so image priority r.weights p.answers) (taken-alone image priority r p.taken)
          (acknowledged-so image priority (λ u t a b same. c.threads_have_their_own_blocks.ensures bytes image u t accepted a b same) r p.open_ones)
          (owes-so image priority r.weights (is_taken_by r) most p.owes) (steps-with-so image priority r most p.steps_below)
          (rates-so image r.weights rates p.rated) p.rest keeps
          p.steps,
    )

pub returns-clause-lines : goal.returns-clause-lines
returns-clause-lines c = λ bytes image priority rates r most number accepted is few here.
    let at = begins-with image priority rates r most is in
    let p = passed-with image priority rates r most at.0 in
    let acknowledged = acknowledged-so image priority (λ u t a b same. c.threads_have_their_own_blocks.ensures bytes image u t accepted a b same) r
    p.open_ones in
    let a = acknowledged number few here in (
      image,
      accepted,
      a,
      λ events before window later devices keeps split enough.
          holds-where image r.steps before window (Rests image priority) (IsDealtWith image number a.tended)
          (λ front after place rests. c.acknowledged_lines_rest.ensures bytes image priority number (before ++ front) accepted
          (all-front (KeepsDevices image) events (before ++ front) (after ++ later) devices (split-at events before window front after later split place)) few a
          (rests a.tended.thread a.tended.listed a.level))
          (c.levels_come_to_rest.ensures bytes image priority r.steps events before window later accepted devices
          (over-window image priority r.steps events before window later
          (c.all_levels_rest_within.ensures.start bytes image priority r.weights rates (is_taken_by r) (is_open_by r) most r.most r.steps events accepted
          devices
          (pays-so r.weights p.priced image priority p.pays) (answers-so image priority r.weights p.answers) (taken-alone image priority r p.taken) acknowledged
          (owes-so image priority r.weights (is_taken_by r) most p.owes) (steps-with-so image priority r most p.steps_below)
          (rates-so image r.weights rates p.rated) at.1 p.rest
          keeps
          p.steps) split) split enough),
    )

pub returns-clause-rested_lines : goal.returns-clause-rested_lines
returns-clause-rested_lines c = λ bytes image priority rates r most number accepted is few here.
    let p = passed-with image priority rates r most is in
    let acknowledged = acknowledged-so image priority (λ u t a b same. c.threads_have_their_own_blocks.ensures bytes image u t accepted a b same) r
    p.open_ones in
    let a = acknowledged number few here in (
      image,
      accepted,
      a,
      λ events first more window later devices keeps other split enough.
          let before = (first ++ Step ∷ []) ++ more in
          holds-where image r.steps before window (Rests image priority) (IsDealtWith image number a.tended)
          (λ front after place rests. c.acknowledged_lines_rest.ensures bytes image priority number (before ++ front) accepted
          (all-front (KeepsDevices image) events (before ++ front) (after ++ later) devices (split-at events before window front after later split place)) few a
          (rests a.tended.thread a.tended.listed a.level))
          (c.levels_come_to_rest.ensures bytes image priority r.steps events before window later accepted devices
          (over-later image priority r.steps events first more window later
          (c.all_levels_rest_within.ensures.later bytes image priority r.weights rates (is_taken_by r) (is_open_by r) most r.most r.steps events accepted
          devices
          (pays-so r.weights p.priced image priority p.pays) (answers-so image priority r.weights p.answers) (taken-alone image priority r p.taken) acknowledged
          (owes-so image priority r.weights (is_taken_by r) most p.owes) (steps-with-so image priority r most p.steps_below)
          (rates-so image r.weights rates p.rated) p.rest keeps
          p.steps) other split) split enough),
    )
