use Rattle.std.proofs.Common.{◌+◌}
use Rattle.std.proofs.lemmas.Result.{err_from_is_err_and}
use Rattle.model.specs.Images.Image.{record_format, records_format, slots_format}
use Rattle.image_reading.proofs.EntryLists.{end_of-more, end_of-refused, end_of-none}
use Rattle.image_reading.proofs.records.records_end.Goals as goal

pub returns-in_err-record : goal.returns-in_err-record
unfolding records_format
returns-in_err-record c =
    let p = err_from_is_err_and c.from_residual.result c.from_residual.ensures.1 in
    rw (p.1, p.2) (end_of-refused (record_format (slots_format c.args.counts.objects) c.args.counts.words) (λ r. r.header.point + 1) c.loop.least c.args.count
    c.loop.counter c.args.bytes.now c.loop.at
    c.in_err-record.field-0.0 _ c.loop-test.true c.in_err-record.ensures c.loop.invariant)

pub loop-preserved : goal.loop-preserved
loop-preserved c =
    rw (c.from-least.ensures, c.point.ensures)
    (end_of-more (record_format (slots_format c.args.counts.objects) c.args.counts.words) (λ r. r.header.point + 1) c.loop.least c.args.count c.loop.counter
    c.args.bytes.now c.loop.at
    (c.in_ok-record.record, c.in_ok-record.next) _ c.loop-test.true c.in_ok-record.ensures c.loop.invariant)

pub returns : goal.returns
unfolding records_format
returns c =
    end_of-none (record_format (slots_format c.args.counts.objects) c.args.counts.words) (λ r. r.header.point + 1) c.loop.least c.args.count c.loop.counter
    c.args.bytes.now c.loop.at
    _ c.loop-test.false c.loop.invariant
