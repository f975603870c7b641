use Rattle.std.proofs.Common.{ap}
use Rattle.model.specs.Images.Image.{StateRecord}
use Rattle.image.proofs.HeaderSpellings.{record-header-appended}
use Rattle.image.proofs.writing.append_record_header.Goals as goal

pub returns : goal.returns
returns c =
    record-header-appended c.append-2.result _ _ _ _ c.part.inside.point c.record_counts.result c.part.inside.constant c.args.part.now.header
    c.append-2.ensures c.in_ok-append_all.ensures c.in_ok-append.ensures
    (ap (λ (r : StateRecord). r.header.point) c.part.view_is) c.record_counts.ensures (ap (λ (r : StateRecord). r.header.constant) c.part.view_is)
