-- Nobody waits, or the first is taken.
use Rattle.std.proofs.Common.{◌∙◌, refl, sym}
use Rattle.objects.proofs.Endpoints.{changed-notification}
use Rattle.objects.proofs.PointsHere.{nobody-waits, waiter-first}
use Rattle.objects.proofs.Frames.{served-objects}
use Rattle.objects.proofs.lives.Live.take_waiter.Goals as goal
use Rattle.objects.specs.Tables.{sending_in, state_of}
use Rattle.objects.specs.Waiting.{served}

pub returns-in_default-clause-state : goal.returns-in_default-clause-state
returns-in_default-clause-state g c =
    let slots = g.S.SlotMap.slots c.self.inside.store in
    let old = g.S.SlotStore.memory c.self.inside.store in
    let there = rw (← c.self.view_is) at c.requires.there in
    rw (← c.self.view_is) (record {
      none = nobody-waits c.self.inside.objects c.args.notification slots old there
          (sym c.first_waiting.ensures ∙ c.in_default.is);
      state = refl;
    })

pub returns-clause-state : goal.returns-clause-state
returns-clause-state g c =
    let slots = g.S.SlotMap.slots c.self.inside.store in
    let old = g.S.SlotStore.memory c.self.inside.store in
    let before = state_of c.self.inside.objects slots old in
    let there = rw (← c.self.view_is) at c.requires.there in
    rw (← c.self.view_is) (record {
      head = waiter-first c.self.inside.objects c.args.notification slots old there
          c.in-Some.thread (sym c.first_waiting.ensures ∙ c.in-Some.is);
      there = c.serve.ensures.there;
      state = c.serve.ensures.state ∙ changed-notification before c.args.notification
          (served (sending_in c.self.inside.objects old c.in-Some.thread)) there;
    })

pub returns-clause-beside : goal.returns-clause-beside
returns-clause-beside g c =
    rw (← c.self.view_is) (record {
      slots = c.serve.ensures.slots;
      order = c.serve.ensures.order;
      bytes = served-objects c.args.notification _ c.serve.ensures.state c.serve.ensures.bytes;
    })
