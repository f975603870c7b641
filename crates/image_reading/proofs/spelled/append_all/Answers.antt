use Rattle.std.proofs.Common.{sym, append-nil}
use Rattle.image_reading.proofs.SpelledLists.{spelled-all, spelled-more}
use Rattle.image_reading.proofs.spelled.append_all.Goals as goal

pub loop-entry-init : goal.loop-entry-init
loop-entry-init g c = sym (append-nil c.args.bytes.now.items)

pub loop-entry-preserved : goal.loop-entry-preserved
loop-entry-preserved g c =
    spelled-more g.E.Spelled.spelling c.args.bytes.now.items c.loop-entry.bytes.items _ c.args.entries.now c.loop-entry.entry-index c.entry-item.result
    c.loop-entry-test.true c.entry-item.is c.loop-entry.invariant c.in_ok-append.ensures

pub returns : goal.returns
returns g c = spelled-all g.E.Spelled.spelling c.args.bytes.now.items c.loop-entry.bytes.items c.args.entries.now c.loop-entry.entry-index
    c.loop-entry-test.false c.loop-entry.invariant
