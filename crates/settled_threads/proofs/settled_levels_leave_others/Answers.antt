-- Who is settled waits at its input, where nothing is; any other thread waits where it may.
use Rattle.std.proofs.Common.{ℕ, Bool, ◌≡◌, ◌≤◌, true, Option, Some, None, refl, subst, arith}
use Rattle.model.specs.Images.Described.{described}
use Rattle.model.specs.Kernel.Steps.{state_after, trace}
use Rattle.response.specs.Asking.{asked_at}
use Rattle.response.specs.Owed.{going_on, owed_of_thread, owes_at_most}
use Rattle.response.proofs.Laws.{owes-less}
use Rattle.settled_threads.specs.Settled.{HasNothing}
use Rattle.settled_threads.proofs.Owing.{below-none}
use Rattle.settled_threads.proofs.settled_levels_leave_others.Goals as goal

pub returns : goal.returns
returns c = λ bytes image priority w settling is_taken is_open owed_most accepted settled inputs tended owe. (
  λ t point state listed below inside known.
      subst (λ (b : Bool). owes_at_most w is_taken b (going_on priority w t point) (owed_most t.number) (asked_at image t.thread point state) ≡ true) below
      (owe t point state listed (below-none image priority settling settled t listed below) inside known),
  record {
    words = λ events queue n devices rests here at.
        let who = inputs queue here in
        let waits = c.settled_threads_rest.ensures bytes image priority settling events who.0 queue accepted devices settled rests who.1 who.2 in
        subst HasNothing at waits.nothing;
    messages = λ events queue e devices rests here at.
        let who = inputs queue here in
        let waits = c.settled_threads_rest.ensures bytes image priority settling events who.0 queue accepted devices settled rests who.1 who.2 in
        subst HasNothing at waits.nothing;
    lines = λ events number devices rests few here.
        let a = tended number few here in
        (c.settled_threads_deal.ensures bytes image priority settling number events accepted devices few settled rests a.0 a.1).silent;
    owed = λ events t devices listed level rests.
        elim (settling.input t.number) as (λ (o : Option ℕ). settling.input t.number ≡ o
        → owed_of_thread image priority w (state_after (described image) events) t ≤ owed_most t.number) [
          | Some o ↦ λ input.
              let none = c.settled_threads_owe_nothing.ensures bytes image priority w settling events t o accepted devices settled rests listed input in
              omega (arith, none)
          | None ↦ λ none.
              owes-less c.laws_on_invocations.ensures.below bytes image accepted priority w is_taken (state_after (described image) events)
              (trace (described image) events) (c.events_go_well.ensures bytes image events accepted devices).stand
              (λ queue e here at.
              let who = inputs queue here in
              let waits = c.settled_threads_rest.ensures bytes image priority settling events who.0 queue accepted devices settled rests who.1 who.2 in
              subst HasNothing at waits.nothing) t listed
              (c.threads_wait_where_they_asked.ensures bytes image events t accepted devices listed) (owed_most t.number)
              (λ point state inside known. owe t point state listed none inside known)
        ] refl;
  },
)
