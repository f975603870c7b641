-- By the mappings that are left.
use Rattle.std.proofs.Common.{◌∙◌, ◌==◌, ◌+◌, Some, inr, refl, sym, ap}
use Rattle.std.proofs.lemmas.Bool.{eq-eqb}
use Rattle.model.specs.declared.entries.ImageHeader.{ImageHeader}
use Rattle.model.specs.declared.refusals.Refusal.TheVariants.{BadMapping, WritableCode}
use Rattle.model.specs.Acceptance.WellFormed.{frame_rules, has_writable_code, misplaces_frame}
use Rattle.wellformed.proofs.Named.{mapped-twice}
use Rattle.wellformed.proofs.RulesLeft.{all_kept, one_broken, rule_broken, rule_kept}
use Rattle.wellformed.proofs.mappings.FrameNames.check_frames.Goals as goal

pub has_writable_code-requires : goal.has_writable_code-requires
has_writable_code-requires c =
    let frame = c.frame-entry.result.frame in
    c.args.self.now.mapped.is frame
    ∙ sym (mapped-twice (λ f. f.frame == frame) c.loop-number.number c.args.self.now.image.now.frames c.frame-entry.result c.frame-entry.ensures
    (eq-eqb frame frame refl))

pub returns-then-misplaces_frame : goal.returns-then-misplaces_frame
returns-then-misplaces_frame c =
    let image = c.args.self.now.image.now in
    let n = c.loop-number.number in
    let e = c.frame-entry.result in
    let item = image.header.tables + n in
    inr (one_broken (frame_rules image) image.frames n e _ (BadMapping item) c.frame-entry.ensures
    (rule_broken (misplaces_frame image e) (BadMapping item) _ (sym c.misplaces_frame.ensures ∙ c.if-misplaces_frame.true)) c.loop-number.invariant
    ∙ ap (λ (h : ImageHeader). Some (BadMapping (h.tables + n))) (sym c.header_of-header.ensures.value))

pub returns-then-has_writable_code : goal.returns-then-has_writable_code
returns-then-has_writable_code c =
    let image = c.args.self.now.image.now in
    let n = c.loop-number.number in
    let e = c.frame-entry.result in
    let item = image.header.tables + n in
    inr (one_broken (frame_rules image) image.frames n e _ (WritableCode item) c.frame-entry.ensures
    (rule_kept (misplaces_frame image e) (BadMapping item) _ (sym c.misplaces_frame.ensures ∙ c.if-misplaces_frame.false)
    ∙ rule_broken (has_writable_code image (n, e)) (WritableCode item) _ (sym c.has_writable_code.ensures ∙ c.if-has_writable_code.true))
    c.loop-number.invariant
    ∙ ap (λ (h : ImageHeader). Some (WritableCode (h.tables + n))) (sym c.header_of-header.ensures.value))

pub loop-number-preserved : goal.loop-number-preserved
loop-number-preserved c =
    let image = c.args.self.now.image.now in
    let n = c.loop-number.number in
    let e = c.frame-entry.result in
    let item = image.header.tables + n in
    all_kept (frame_rules image) image.frames n e _ c.frame-entry.ensures
    (rule_kept (misplaces_frame image e) (BadMapping item) _ (sym c.misplaces_frame.ensures ∙ c.if-misplaces_frame.false)
    ∙ rule_kept (has_writable_code image (n, e)) (WritableCode item) _ (sym c.has_writable_code.ensures ∙ c.if-has_writable_code.false)) c.loop-number.invariant
