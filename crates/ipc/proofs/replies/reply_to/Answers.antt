-- What two calls leave of bytes, one after the other, and of buffers.
use Rattle.std.proofs.Common.{◌∙◌, subst, sym}
use Rattle.ipc.specs.Buffers.{HaveBuffers}
use Rattle.ipc.proofs.replies.reply_to.Goals as goal
use Rattle.model.specs.Kernel.State.{State}
use Rattle.objects.proofs.Laws.{beside-then}

pub answer-requires : goal.answer-requires
answer-requires g c = record {
  giver = c.set_caller.ensures.beside.bytes.kinds c.args.thread ∙ c.requires.giver;
  taker = c.set_caller.ensures.beside.bytes.kinds c.args.caller ∙ c.requires.taker;
  buffers = subst (λ (s : State). HaveBuffers s) (sym c.set_caller.ensures.state) c.requires.buffers;
}

pub returns-clause-beside : goal.returns-clause-beside
returns-clause-beside g c = beside-then c.set_caller.ensures.beside c.answer.ensures.beside
