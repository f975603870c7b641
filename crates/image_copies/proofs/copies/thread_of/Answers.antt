-- Its counts are its lengths.
use Rattle.std.proofs.Common.{refl, ◌∙◌, All, List, subst, sym}
use Rattle.image_copies.specs.Counts.{HasRecordCounts}
use Rattle.model.specs.Images.Image.{StateRecord}
use Rattle.image_copies.proofs.Counted.{same-thread}
use Rattle.image_copies.proofs.copies.thread_of.Goals as goal

pub returns : goal.returns
returns c = λ counts.
    let each = subst (λ (l : List StateRecord). All HasRecordCounts l) (sym c.records.ensures) counts.each in
    same-thread _ c.args.thread.now c.header-header.result c.header-header.ensures refl (c.in_ok-registers.ensures ∙ c.registers.ensures) c.in_ok-words.ensures
    (c.in_ok-records.ensures each ∙ c.records.ensures) refl refl refl counts
