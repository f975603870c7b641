-- The call leads from the state before it to the one after it.
use Rattle.std.proofs.Common.{ℕ, ◌≡◌, ◌∙◌, true, false, Some, IfSome, refl, sym, ap, subst, arith}
use Rattle.model.specs.Images.Image.{Thread}
use Rattle.program_rules.proofs.Placed.{called-known, in-range, some-place}
use Rattle.program_rules.proofs.kept_points.KeptPoints.after_call.Goals as goal
use Rattle.program_rules.specs.Kept.{IsCalled, IsKeptAt, has_state}
use Rattle.program_rules.specs.declared.at_points.AtPoint.TheVariants as kept
use Rattle.program_rules.specs.declared.places.CalledPoint.{CalledPoint}

pub returns-then-len-at : goal.returns-then-len-at
returns-then-len-at c = λ image t slots log point own small is at.
    let short = c.if-len-at.true in
    let count = c.len.ensures in
    let inside = at.inside in
    absurd (omega (arith, short, count, inside))

pub returns-in-Known : goal.returns-in-Known
returns-in-Known c = λ image t slots log point own small is at.
    let cp = c.index.result.now in
    let got = some-place c.args.self.now.called.items c.args.at cp at.inside ∙ ap (λ (o : CalledPoint). Some o) (sym c.index.ensures) in
    let k = c.in-Known.known in
    let here : IsKeptAt image t slots log point (kept.Known k) = subst (IsKeptAt image t slots log point) c.in-Known.is is in
    let budget = sym (ap (λ (u : Thread). u.header.budget) own) in
    called-known image t slots log c.args.self.now.called.items point c.args.at cp k c.behind.result c.known_or_none.result at got here
    (c.behind.ensures.some (in-range log point k small here.sound)) (subst (λ (n : ℕ). IfSome c.behind.result (IsCalled n cp k)) budget c.behind.ensures.called)
    c.known_or_none.ensures

pub returns-in-Missing : goal.returns-in-Missing
returns-in-Missing c = λ image t slots log point own small is at.
    let none : false ≡ true = ap has_state (subst (IsKeptAt image t slots log point) c.in-Missing.is is).same ∙ at.before point refl in
    absurd (let clash : false ≡ true = none in cc)

pub returns-in-Unmeasured : goal.returns-in-Unmeasured
returns-in-Unmeasured c = λ image t slots log point own small is at.
    let none : false ≡ true = ap has_state (subst (IsKeptAt image t slots log point) c.in-Unmeasured.is is).same ∙ at.before point refl in
    absurd (let clash : false ≡ true = none in cc)
