-- A thread that reaches no system call is at a point that asks nothing.
use Rattle.std.proofs.Common.{◌≡◌, ◌∙◌, Some, ap}
use Rattle.model.specs.declared.instructions.Access.TheVariants.{Fetch}
use Rattle.model.specs.declared.instructions.AccessSize.TheVariants.{Word}
use Rattle.model.specs.declared.instructions.Instr.TheVariants.{Ecall}
use Rattle.model.specs.Acceptance.PointStates.{address_of, instruction_at}
use Rattle.model.specs.Acceptance.ThreadInvariants.{tcb_of}
use Rattle.model.specs.Images.Described.{Numbered}
use Rattle.model.specs.Images.Image.{Image}
use Rattle.model.specs.Kernel.AddressSpaces.{content_of}
use Rattle.model.specs.Kernel.State.{State, ThreadState}
use Rattle.model.specs.Kernel.Steps.{registers_of}
use Rattle.model.specs.Machine.ProgramMemory.{loaded}
use Rattle.headline.proofs.Laws.{RunsAlong, at-place}
use Rattle.headline.specs.steps.Points.{ReachesNoCall}
use Rattle.response.specs.Asking.{Asks_nothing, asked_at}
use Rattle.response.proofs.PlainWork.{plainly-asked}

module _ (image : Image) (t : Numbered) (s : State) (run : RunsAlong image t s) (free : ReachesNoCall s (tcb_of image t)) where
  no-call : instruction_at t.thread (RunsAlong.point run) ≡ Some Ecall → ⊥
  no-call call =
      let stands = RunsAlong.stands run in
      let pc : (registers_of s (tcb_of image t)).pc ≡ address_of t.thread (RunsAlong.point run) =
      ap (λ (u : ThreadState). u.registers.pc) (at-place s (tcb_of image t) (RunsAlong.own run) (RunsAlong.there run)) ∙ stands.pc in
      free _ (ap (loaded (content_of s (tcb_of image t)) Fetch Word) pc ∙ stands.program (RunsAlong.point run) stands.inside) call

  pub asks-none : asked_at image t.thread (RunsAlong.point run) (RunsAlong.state run) ≡ Asks_nothing
  asks-none = plainly-asked image t.thread (RunsAlong.point run) (RunsAlong.state run) no-call
