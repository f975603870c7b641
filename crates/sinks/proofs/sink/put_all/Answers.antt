use Rattle.std.proofs.Common.{◌-◌, length, take, drop, ◌∙◌}
use Rattle.sinks.proofs.SinkLemmas.{put_within, put_more, not_counted}
use Rattle.sinks.proofs.sink.put_all.Goals as goal

pub loop-done-preserved : goal.loop-done-preserved
loop-done-preserved g c =
    let old = c.loop-done.invariant in
    let put = c.in_ok-count.ensures in
    let bytes = c.args.bytes.now in
    let done = c.loop-done.done in
    let count = c.in_ok-count.count in (
      put_within bytes done count old.0 put.taken.0,
      put_more (g.S.Sink.contents c.args.sink.now) (g.S.Sink.contents c.loop-done.sink) (g.S.Sink.contents c.put.new.self) bytes done count old.1 put.taken.1,
      put.counted ∙ not_counted (take (length bytes - done) (drop done bytes)) count (g.S.Sink.failures c.loop-done.sink) c.if-count-eq0.false ∙ old.2,
    )
