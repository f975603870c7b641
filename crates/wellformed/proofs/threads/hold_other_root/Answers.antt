-- By one CNode more.
use Rattle.std.proofs.Common.{◌==◌, ◌+◌, ◌&&◌, not, ◌∙◌, refl, sym, take}
use Rattle.model.specs.Acceptance.WellFormed.{is_root_type, source_type}
use Rattle.image_reading.proofs.Laws.{any-no}
use Rattle.wellformed.proofs.Listed.{set-found, set-later, two-tests}
use Rattle.wellformed.proofs.threads.hold_other_root.Goals as goal

pub loop-place-init : goal.loop-place-init
loop-place-init c = any-no _ c.args.image.now.capabilities (λ k x at. refl)

pub returns-then-holds_other_root : goal.returns-then-holds_other_root
returns-then-holds_other_root c =
    let image = c.args.image.now in
    let cnodes = c.args.cnodes.now in
    sym (two-tests (λ x. is_root_type (source_type image x.source)) (λ x. not (x.source == c.args.root)) cnodes image.capabilities
    ∙ set-found (λ x. is_root_type (source_type image x.source) && not (x.source == c.args.root)) image.capabilities cnodes c.loop-place.place c.at.result
    c.at.ensures
    (sym c.holds_other_root.ensures ∙ c.if-holds_other_root.true))

pub loop-place-preserved : goal.loop-place-preserved
loop-place-preserved c =
    let image = c.args.image.now in
    let cnodes = c.args.cnodes.now in
    let n = c.loop-place.place in
    two-tests (λ x. is_root_type (source_type image x.source)) (λ x. not (x.source == c.args.root)) (take (n + 1) cnodes) image.capabilities
    ∙ set-later (λ x. is_root_type (source_type image x.source) && not (x.source == c.args.root)) image.capabilities cnodes n c.at.result c.at.ensures
    (sym c.holds_other_root.ensures ∙ c.if-holds_other_root.false)
    (sym (two-tests (λ x. is_root_type (source_type image x.source)) (λ x. not (x.source == c.args.root)) (take n cnodes) image.capabilities)
    ∙ c.loop-place.invariant)
