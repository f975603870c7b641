-- From the root alone, and to where nothing is new.
use Rattle.std.proofs.Common.{◌≡◌, ◌∙◌, ◌++◌, List, [], ◌∷◌, length, refl, sym, ap, subst, arith}
use Rattle.std.proofs.lemmas.Bool.{eqb-true}
use Rattle.model.specs.Acceptance.NotedStates.{NotedSlot}
use Rattle.typestate.specs.Descents.{AreBelow}
use Rattle.typestate.proofs.Descents.{all-are-below, starts-below}
use Rattle.typestate.proofs.points.NotedSlots.levels.Goals as goal

pub loop-init : goal.loop-init
loop-init c =
    starts-below c.args.self.now c.args.root c.args.numbers.now.keys c.push.new.self.items c.requires
    (c.in_ok-push.ensures.items ∙ ap (λ (l : List NotedSlot). l ++ c.of.result ∷ []) c.new-newest.ensures.items
    ∙ ap (λ (s : NotedSlot). s ∷ []) (c.of.ensures ∙ c.emptied.ensures))

no-slots : (slots : List NotedSlot) → length slots ≡ 0 → slots ≡ []
no-slots [] none = refl
no-slots (s ∷ rest) none = absurd (omega (arith, none))

pub returns-then-is_empty : goal.returns-then-is_empty
returns-then-is_empty c =
    let none = eqb-true c.loop.newest.len 0 (sym c.is_empty.ensures ∙ c.if-is_empty.true) in
    all-are-below c.args.self.now c.args.root c.loop.counter c.args.most c.loop.numbers.keys c.loop.newest.items
    (no-slots c.loop.newest.items (sym c.loop.newest.ok.0 ∙ none)) (omega (arith, c.loop-test.true)) c.loop.invariant

pub loop-preserved : goal.loop-preserved
loop-preserved c =
    let k = c.loop.counter in
    c.in_ok-newest.ensures k (subst (λ (l : List NotedSlot). AreBelow k c.args.self.now c.args.root c.loop.numbers.keys l) (sym c.deref.ensures.value)
    c.loop.invariant)
