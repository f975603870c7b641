-- By the run of one point more.
use Rattle.std.proofs.Common.{ℕ, ◌∙◌, ◌++◌, [], ◌∷◌, ap, arith}
use Rattle.std.specs.Prelude.{slice_index_or}
use Rattle.std.proofs.lemmas.Option.{slice_get-get_or, slice_get_within}
use Rattle.responses.proofs.Drawing.{spanned-new}
use Rattle.responses.proofs.spans.spans_of.Goals as goal

pub loop-point-preserved : goal.loop-point-preserved
loop-point-preserved c =
    let places = c.args.places.now in
    let point = c.loop-point.point in
    let spans = c.loop-point.spans.items in
    let other = slice_index_or places point 0 in
    spanned-new places point spans c.push.new.self.items c.loop-point.run other (slice_get-get_or places point 0 c.loop-point-test.true)
    (c.in_ok-push.ensures.items ∙ ap (λ (n : ℕ). spans ++ (record { first = n; run = other }) ∷ []) c.in-Ok.ensures.1) c.loop-point.invariant

pub returns : goal.returns
returns c = λ k x at.
    let within = slice_get_within c.args.places.now k x at in
    let past = c.loop-point-test.false in
    c.loop-point.invariant.before k x (omega (arith, within, past)) at
