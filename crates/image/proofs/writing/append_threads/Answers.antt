use Rattle.std.proofs.Common.{sym, append-nil}
use Rattle.image.specs.Spellings.{thread_bytes}
use Rattle.image_reading.proofs.Laws.{spelled-all, spelled-more}
use Rattle.image.proofs.writing.append_threads.Goals as goal

pub loop-thread-init : goal.loop-thread-init
loop-thread-init c = sym (append-nil c.args.bytes.now.items)

pub loop-thread-preserved : goal.loop-thread-preserved
loop-thread-preserved c =
    spelled-more (thread_bytes c.args.version) c.args.bytes.now.items c.loop-thread.bytes.items _ c.args.threads.now c.loop-thread.thread-index
    c.thread-item.result
    c.loop-thread-test.true c.thread-item.is c.loop-thread.invariant c.in_ok-append_thread.ensures

pub returns : goal.returns
returns c = spelled-all (thread_bytes c.args.version) c.args.bytes.now.items c.loop-thread.bytes.items c.args.threads.now c.loop-thread.thread-index
    c.loop-thread-test.false c.loop-thread.invariant
