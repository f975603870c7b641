-- A whole step of a thread of the part: what its calls lean on is so, but for removals and handlers of lines.
use Rattle.std.proofs.Common.{ℕ, ◌≡◌, ◌∙◌, true, Some, sym, ap}
use Rattle.model.specs.declared.events.Event.TheVariants.{Step}
use Rattle.model.specs.Acceptance.ThreadInvariants.{tcb_of}
use Rattle.model.specs.Images.Described.{Numbered}
use Rattle.model.specs.Images.Image.{Image}
use Rattle.model.specs.Kernel.Scheduling.{current}
use Rattle.model.specs.Kernel.State.{State}
use Rattle.model.specs.Kernel.Steps.{step}
use Rattle.headline.specs.invocations.Laws.{AnyStepGoesWell, Laws}
use Rattle.headline.specs.parts.Agreeing.{IsMemberOf}
use Rattle.headline.specs.parts.Parts.{Part, is_thread_in}
use Rattle.part_laws.specs.Agreeing.{AgreeFor}
use Rattle.part_laws.specs.Both.{BothStand}
use Rattle.part_laws.specs.own.Invocations.{RemovalsAgree}
use Rattle.part_laws.specs.own.Read.{AllMapAsRead}
use Rattle.part_laws.proofs.changes.Members.{member-of}
use Rattle.part_laws.proofs.own_calls.Handled.{ack-agrees}
use Rattle.part_laws.proofs.own_calls.Standing.{own-invocation}
use Rattle.part_laws.proofs.own_steps.Rings.{ring-agrees}
use Rattle.part_laws.proofs.own_steps.Stepping.{makes-there, own-step}
use Rattle.part_laws.proofs.own_steps.Waiters.{caller-inside, waiters-inside}

pub whole-step : Laws → AnyStepGoesWell → (image : Image) (part : Part) (s t : State) (thread : ℕ) → BothStand image part s t → AllMapAsRead image s
    → AgreeFor image part s t → current s ≡ Some thread → is_thread_in image part thread ≡ true
    → ((u : Numbered) → IsMemberOf image part u → tcb_of image u ≡ thread → RemovalsAgree image part s t u)
    → AgreeFor image part (step s Step).0 (step t Step).0 × ((step s Step).1 ≡ (step t Step).1)
whole-step laws well image part s t thread both reads agree now inside open_left =
    let m = member-of image part thread inside in
    let u = m.thread in
    let member : IsMemberOf image part u = record { listed = m.listed; inside = m.inside } in
    let here : current s ≡ Some (tcb_of image u) = now ∙ ap (λ (n : ℕ). Some n) (sym m.block) in
    own-step laws.below well both.bytes both.alone_bytes image part s t both.labels both.alone_labels u both.accepted both.alone_accepted both.stand
    both.alone_stand both.given reads member agree here
    (λ makes. record {
      waiters = waiters-inside image part s t both;
      caller = caller-inside image part s t both u member;
      rings = λ slot offset badge r own is may. ring-agrees image part s t both agree u member slot offset badge r own is may;
      invocation = λ kind slot own number named some.
          own-invocation laws well both.bytes both.alone_bytes image part s t both.labels both.alone_labels u kind slot both.accepted both.alone_accepted
          both.stand both.alone_stand member agree here makes
          (makes-there laws.below well both.bytes both.alone_bytes image part s t both.labels both.alone_labels u both.accepted both.alone_accepted both.stand
          both.alone_stand both.given reads member agree here makes)
          (open_left u member m.block) (λ n line mine is. ack-agrees image part s t both agree u member n line mine is) both.given own number named
          some;
    })
