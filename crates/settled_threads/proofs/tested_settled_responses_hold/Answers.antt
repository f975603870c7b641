-- Each premise is a part of the test; where the level rests, its lines are dealt with.
use Rattle.std.proofs.Common.{◌≡◌, ◌∙◌, ◌++◌, [], ◌∷◌, ap}
use Rattle.std.specs.Prelude.{Contains}
use Rattle.model.specs.declared.events.Event.TheVariants.{Step}
use Rattle.model.specs.Acceptance.Devices.{KeepsDevices}
use Rattle.model.specs.Acceptance.ThreadInvariants.{tcb_of}
use Rattle.model.specs.Images.Described.{Numbered, numbered_threads}
use Rattle.headline.proofs.Laws.{all-front}
use Rattle.response.specs.DealtWith.{IsDealtWith, Rests}
use Rattle.response.proofs.Laws.{holds-where, over-later, over-window, split-at}
use Rattle.settled_threads.proofs.HeldSettled.{deals-at-first, deals-later, runs-at-first, runs-later}
use Rattle.settled_threads.proofs.Openings.{settled-so}
use Rattle.settled_threads.proofs.PassedSettled.{alone-so, begins-settled, passed-settled}
use Rattle.settled_threads.proofs.tested_settled_responses_hold.Goals as goal

pub returns-clause-steps : goal.returns-clause-steps
returns-clause-steps c = λ bytes image priority rates r s most accepted is.
    let at = begins-settled image priority rates r s most is in
    let p = passed-settled image priority rates r s most at.0 in (
      image,
      accepted,
      runs-at-first bytes image priority rates r s most accepted
          (λ u t a b same. c.threads_have_their_own_blocks.ensures bytes image u t accepted a b same) p c.settled_levels_rest_within.ensures.start at.1,
    )

pub returns-clause-rested_steps : goal.returns-clause-rested_steps
returns-clause-rested_steps c = λ bytes image priority rates r s most accepted is.
    let p = passed-settled image priority rates r s most is in (
      image,
      accepted,
      runs-later bytes image priority rates r s most accepted
          (λ u t a b same. c.threads_have_their_own_blocks.ensures bytes image u t accepted a b same) p c.settled_levels_rest_within.ensures.later,
    )

pub returns-clause-lines : goal.returns-clause-lines
returns-clause-lines c = λ bytes image priority rates r s most number accepted is few here.
    let at = begins-settled image priority rates r s most is in
    let p = passed-settled image priority rates r s most at.0 in
    let deals = deals-at-first bytes image priority rates r s most accepted
    (λ u t a b same. c.threads_have_their_own_blocks.ensures bytes image u t accepted a b same) p c.settled_lines_are_dealt_with.ensures.start at.1 number few
    here in (image, accepted, deals.0, deals.1)

pub returns-clause-rested_lines : goal.returns-clause-rested_lines
returns-clause-rested_lines c = λ bytes image priority rates r s most number accepted is few here.
    let p = passed-settled image priority rates r s most is in
    let deals = deals-later bytes image priority rates r s most accepted
    (λ u t a b same. c.threads_have_their_own_blocks.ensures bytes image u t accepted a b same) p c.settled_lines_are_dealt_with.ensures.later number few here
    in (image, accepted, deals.0, deals.1)

pub returns-clause-alone : goal.returns-clause-alone
returns-clause-alone c = λ bytes image priority rates r s most l accepted is few known.
    let at = begins-settled image priority rates r s most is in
    let p = passed-settled image priority rates r s most at.0 in
    let own : (u t : Numbered) → Contains (numbered_threads image) u → Contains (numbered_threads image) t → tcb_of image u ≡ tcb_of image t → u ≡ t =
    λ u t a b same. c.threads_have_their_own_blocks.ensures bytes image u t accepted a b same in
    let a = alone-so image priority s.settling own r l few known in (
      image,
      accepted,
      a,
      λ events before window later devices keeps split enough.
          holds-where image r.steps before window (Rests image priority) (IsDealtWith image l.line a.tended)
          (λ front after place rests. c.acknowledged_lines_rest.ensures bytes image priority l.line (before ++ front) accepted
          (all-front (KeepsDevices image) events (before ++ front) (after ++ later) devices (split-at events before window front after later split place)) few a
          (rests a.tended.thread a.tended.listed a.level))
          (c.levels_come_to_rest.ensures bytes image priority r.steps events before window later accepted devices
          (over-window image priority r.steps events before window later
          (runs-at-first bytes image priority rates r s most accepted own p c.settled_levels_rest_within.ensures.start at.1 events devices keeps) split) split
          enough),
    )

pub returns-clause-rested_alone : goal.returns-clause-rested_alone
returns-clause-rested_alone c = λ bytes image priority rates r s most l accepted is few known.
    let p = passed-settled image priority rates r s most is in
    let own : (u t : Numbered) → Contains (numbered_threads image) u → Contains (numbered_threads image) t → tcb_of image u ≡ tcb_of image t → u ≡ t =
    λ u t a b same. c.threads_have_their_own_blocks.ensures bytes image u t accepted a b same in
    let a = alone-so image priority s.settling own r l few known in (
      image,
      accepted,
      a,
      λ events first more window later devices keeps other split enough.
          let before = (first ++ Step ∷ []) ++ more in
          holds-where image r.steps before window (Rests image priority) (IsDealtWith image l.line a.tended)
          (λ front after place rests. c.acknowledged_lines_rest.ensures bytes image priority l.line (before ++ front) accepted
          (all-front (KeepsDevices image) events (before ++ front) (after ++ later) devices (split-at events before window front after later split place)) few a
          (rests a.tended.thread a.tended.listed a.level))
          (c.levels_come_to_rest.ensures bytes image priority r.steps events before window later accepted devices
          (over-later image priority r.steps events first more window later
          (runs-later bytes image priority rates r s most accepted own p c.settled_levels_rest_within.ensures.later events devices keeps) other split) split
          enough),
    )

pub returns-clause-inputs : goal.returns-clause-inputs
returns-clause-inputs c = λ bytes image priority rates r s most number object accepted is input. (
  image,
  accepted,
  λ t events listed same devices rests.
      c.settled_threads_rest.ensures bytes image priority s.settling events t object accepted devices
      (settled-so image priority s (passed-settled image priority rates r s most is).settled) rests listed (ap s.settling.input same ∙ input),
)
