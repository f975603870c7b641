-- The caller is there, and so are buffers.
use Rattle.std.proofs.Common.{◌∙◌, sym}
use Rattle.ipc.proofs.BufferFrames.{have-buffers}
use Rattle.ipc.proofs.Premises.{caller-there}
use Rattle.ipc.proofs.replies.reply.Goals as goal
use Rattle.objects.specs.Lives.{state_in}

pub reply_to-requires : goal.reply_to-requires
reply_to-requires g c =
    let before = state_in g.S.SlotMap.slots g.S.SlotStore.memory c.args.live.now in
    record {
      giver = c.requires.there;
      taker = caller-there before c.args.thread c.in-Some.caller c.requires.sound (sym c.caller.ensures ∙ c.in-Some.is);
      buffers = have-buffers before c.requires.sound;
    }
