-- Each premise is a part of the test.
use Rattle.response.specs.Responding.{is_open_by, is_taken_by}
use Rattle.response.proofs.Passing.{acknowledged-so, begins, passed, pays-so, rates-so, rings-so, taken-alone}
use Rattle.response.proofs.tested_responses_hold.Goals as goal

pub returns-clause-steps : goal.returns-clause-steps
returns-clause-steps c = λ bytes image priority rates r accepted is.
    let at = begins image priority rates r is in
    let p = passed image priority rates r at.0 in (
      image,
      accepted,
      λ events devices keeps.
          c.notification_levels_rest_within.ensures.start bytes image priority r.weights rates (is_taken_by r) (is_open_by r) r.most r.steps events
          accepted devices
          (pays-so r.weights p.priced image priority p.pays) p.alone (taken-alone image priority r p.taken)
          (acknowledged-so image priority (λ u t a b same. c.threads_have_their_own_blocks.ensures bytes image u t accepted a b same) r p.open_ones)
          (rings-so image priority r p.rings) (rates-so image r.weights rates p.rated) at.1 p.rest keeps p.steps,
    )

pub returns-clause-rested_steps : goal.returns-clause-rested_steps
returns-clause-rested_steps c = λ bytes image priority rates r accepted is.
    let p = passed image priority rates r is in (
      image,
      accepted,
      λ events devices keeps.
          c.notification_levels_rest_within.ensures.later bytes image priority r.weights rates (is_taken_by r) (is_open_by r) r.most r.steps events
          accepted devices
          (pays-so r.weights p.priced image priority p.pays) p.alone (taken-alone image priority r p.taken)
          (acknowledged-so image priority (λ u t a b same. c.threads_have_their_own_blocks.ensures bytes image u t accepted a b same) r p.open_ones)
          (rings-so image priority r p.rings) (rates-so image r.weights rates p.rated) p.rest keeps p.steps,
    )

pub returns-clause-lines : goal.returns-clause-lines
returns-clause-lines c = λ bytes image priority rates r number accepted is few here.
    let at = begins image priority rates r is in
    let p = passed image priority rates r at.0 in
    let acknowledged = acknowledged-so image priority (λ u t a b same. c.threads_have_their_own_blocks.ensures bytes image u t accepted a b same) r
    p.open_ones in (
      image,
      accepted,
      acknowledged number few here,
      λ events before window later devices keeps split enough.
          c.lines_are_dealt_with.ensures.start bytes image priority r.weights rates (is_taken_by r) (is_open_by r) r.most r.steps events accepted devices
          (pays-so r.weights p.priced image priority p.pays) p.alone (taken-alone image priority r p.taken) acknowledged
          (rings-so image priority r p.rings) (rates-so image r.weights rates p.rated) at.1 p.rest keeps p.steps number few here before window later split
          enough,
    )

pub returns-clause-rested_lines : goal.returns-clause-rested_lines
returns-clause-rested_lines c = λ bytes image priority rates r number accepted is few here.
    let p = passed image priority rates r is in
    let acknowledged = acknowledged-so image priority (λ u t a b same. c.threads_have_their_own_blocks.ensures bytes image u t accepted a b same) r
    p.open_ones in (
      image,
      accepted,
      acknowledged number few here,
      λ events first more window later devices keeps other split enough.
          c.lines_are_dealt_with.ensures.later bytes image priority r.weights rates (is_taken_by r) (is_open_by r) r.most r.steps events accepted devices
          (pays-so r.weights p.priced image priority p.pays) p.alone (taken-alone image priority r p.taken) acknowledged
          (rings-so image priority r p.rings) (rates-so image r.weights rates p.rated) p.rest keeps p.steps number few here first more window later other split
          enough,
    )
