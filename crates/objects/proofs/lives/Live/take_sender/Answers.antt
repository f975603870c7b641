-- Nobody waits, or the first is taken.
use Rattle.std.proofs.Common.{◌∙◌, ap, refl, sym}
use Rattle.model.specs.Kernel.State.{EndpointObject, endpoint_at, with_object}
use Rattle.objects.proofs.Endpoints.{changed-endpoint}
use Rattle.objects.proofs.PointsHere.{no-sender, nobody-sends, sender-first}
use Rattle.objects.proofs.Frames.{served-objects}
use Rattle.objects.proofs.lives.Live.take_sender.Goals as goal
use Rattle.objects.specs.Tables.{sending_in, state_of}
use Rattle.objects.specs.Waiting.{served}

pub returns-in_default-clause-state : goal.returns-in_default-clause-state
returns-in_default-clause-state g c =
    let slots = g.S.SlotMap.slots c.self.inside.store in
    let old = g.S.SlotStore.memory c.self.inside.store in
    let endpoint = rw (← c.self.view_is) at c.requires.endpoint in
    rw (← c.self.view_is) (record {
      none = nobody-sends c.self.inside.objects c.args.endpoint slots old endpoint
          (sym c.first_waiting.ensures ∙ c.in_default.is);
      state = refl;
    })

pub returns-in_default-sending_of-clause-state : goal.returns-in_default-sending_of-clause-state
returns-in_default-sending_of-clause-state g c =
    let slots = g.S.SlotMap.slots c.self.inside.store in
    let old = g.S.SlotStore.memory c.self.inside.store in
    let endpoint = rw (← c.self.view_is) at c.requires.endpoint in
    let one_sided = rw (← c.self.view_is) at c.requires.one_sided in
    rw (← c.self.view_is) (record {
      none = no-sender c.self.inside.objects c.args.endpoint slots old endpoint
          c.in-Some.thread (sym c.first_waiting.ensures ∙ c.in-Some.is)
          (sym c.sending_of.ensures ∙ c.in_default-sending_of.is) one_sided;
      state = refl;
    })

pub returns-clause-state : goal.returns-clause-state
returns-clause-state g c =
    let slots = g.S.SlotMap.slots c.self.inside.store in
    let old = g.S.SlotStore.memory c.self.inside.store in
    let before = state_of c.self.inside.objects slots old in
    let endpoint = rw (← c.self.view_is) at c.requires.endpoint in
    rw (← c.self.view_is) (record {
      head = sender-first c.self.inside.objects c.args.endpoint slots old endpoint
          c.in-Some.thread (sym c.first_waiting.ensures ∙ c.in-Some.is) c.in-Some-sending_of.sending (sym c.sending_of.ensures ∙ c.in-Some-sending_of.is);
      there = c.serve.ensures.there;
      state = c.serve.ensures.state ∙ changed-endpoint before c.args.endpoint
          (served (sending_in c.self.inside.objects old c.in-Some.thread)) endpoint
          ∙ ap (λ sending. with_object before c.args.endpoint (served sending (EndpointObject (endpoint_at before c.args.endpoint))))
          (sym c.sending_of.ensures ∙ c.in-Some-sending_of.is);
    })

pub returns-clause-beside : goal.returns-clause-beside
returns-clause-beside g c =
    rw (← c.self.view_is) (record {
      slots = c.serve.ensures.slots;
      order = c.serve.ensures.order;
      bytes = served-objects c.args.endpoint _ c.serve.ensures.state c.serve.ensures.bytes;
    })
