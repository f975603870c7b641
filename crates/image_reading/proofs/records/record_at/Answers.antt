use Rattle.std.proofs.Common.{refl}
use Rattle.std.proofs.lemmas.Result.{err_from_is_err_and}
use Rattle.model.specs.Images.Image.{ranges_format, slots_format, terms_format, record_format}
use Rattle.image_reading.proofs.EntryLists.{read_from_end, refused_from_end}
use Rattle.image_reading.proofs.records.record_at.Goals as goal

pub returns-in_err-end : goal.returns-in_err-end
unfolding record_format ranges_format terms_format
returns-in_err-end c =
    let p = err_from_is_err_and c.from_residual-in_err-end.result c.from_residual-in_err-end.ensures.1 in
    let h = c.in_ok-header.header in
    let ranges = read_from_end ((ranges_format h.ranges).reads c.args.bytes.now c.in_ok-header.ranges_at) c.in_ok-slots_at.slots_at c.in_ok-slots_at.ensures in
    let slots = read_from_end (((slots_format c.args.counts.objects).entries h.slots).reads c.args.bytes.now c.in_ok-slots_at.slots_at)
    c.in_ok-terms_at.terms_at c.in_ok-terms_at.ensures in
    let terms = refused_from_end ((terms_format h.terms).reads c.args.bytes.now c.in_ok-terms_at.terms_at) c.in_err-end.field-0.0 c.in_err-end.ensures in
    rw (p.1, p.2, ← c.in_ok-header.ensures, ranges, slots, terms) refl
