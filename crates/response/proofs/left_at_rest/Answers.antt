-- Who takes alone waits there, who acknowledges has done so, and where a thread waits it is at a point where it may.
use Rattle.std.proofs.Common.{Bool, ◌≡◌, true, subst}
use Rattle.model.specs.Images.Described.{described}
use Rattle.model.specs.Kernel.Steps.{state_after, trace}
use Rattle.response.specs.Asking.{asked_at}
use Rattle.response.specs.Owed.{going_on, owes_at_most}
use Rattle.response.proofs.Doors.{none-sends}
use Rattle.response.proofs.MessageRests.{owes-less}
use Rattle.response.proofs.left_at_rest.Goals as goal

pub returns : goal.returns
returns c = λ bytes image priority w is_taken is_open owed_most accepted alone acknowledged owe. (
  λ t point state listed below inside known.
      subst (λ (b : Bool). owes_at_most w is_taken b (going_on priority w t point) (owed_most t.number) (asked_at image t.thread point state) ≡ true) below
      (owe t point state listed inside known),
  record {
    words = λ events queue n devices rests here at.
        let who = alone queue here in
        c.no_word_at_rest.ensures bytes image events who.0 queue n accepted devices who.1 who.3 (rests who.0 who.1 who.2) at;
    messages = λ events queue e devices rests here at.
        none-sends c.laws_on_invocations.ensures.below bytes image (state_after (described image) events) (trace (described image) events) accepted
        (c.events_go_well.ensures bytes image events accepted devices).stand
        (λ u among. c.threads_wait_where_they_asked.ensures bytes image events u accepted devices among) priority is_taken alone rests queue e here at;
    lines = λ events number devices rests few here.
        let a = acknowledged number few here in
        (c.acknowledged_lines_rest.ensures bytes image priority number events accepted devices few a (rests a.tended.thread a.tended.listed a.level)).silent;
    owed = λ events t devices listed level rests.
        owes-less c.laws_on_invocations.ensures.below bytes image accepted priority w is_taken (state_after (described image) events)
        (trace (described image) events) (c.events_go_well.ensures bytes image events accepted devices).stand
        (λ queue e here at.
        none-sends c.laws_on_invocations.ensures.below bytes image (state_after (described image) events) (trace (described image) events) accepted
        (c.events_go_well.ensures bytes image events accepted devices).stand
        (λ u among. c.threads_wait_where_they_asked.ensures bytes image events u accepted devices among) priority is_taken alone rests queue e here at) t
        listed (c.threads_wait_where_they_asked.ensures bytes image events t accepted devices listed) (owed_most t.number)
        (λ point state inside known. owe t point state listed inside known);
  },
)
