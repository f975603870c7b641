-- By the capabilities of one CNode more.
use Rattle.std.proofs.Common.{◌≡◌, ◌∙◌, ℕ, refl, ap, arith}
use Rattle.model.specs.declared.entries.ImageHeader.{ImageHeader}
use Rattle.model.specs.declared.entries.ThreadHeader.{ThreadHeader}
use Rattle.wellformed.specs.Answering.{with_number}
use Rattle.wellformed.proofs.Reached.{all-reached, few-found, none-followed, one-followed}
use Rattle.wellformed.proofs.reach.reached.Goals as goal

pub loop-place-init : goal.loop-place-init
loop-place-init c =
    let root : c.header.result.cnode ≡ c.args.thread.now.header.cnode = ap (λ (h : ThreadHeader). h.cnode) c.header.ensures in
    none-followed c.args.image.now c.args.thread.now.header.cnode c.new-found.result c.insert.new.self c.new-found.ensures
    (c.in_ok-insert.ensures.put ∙ ap (λ (n : ℕ). with_number n c.new-found.result) root)

pub returns-then-len-place-clause-found : goal.returns-then-len-place-clause-found
returns-then-len-place-clause-found c =
    all-reached c.args.image.now c.args.thread.now c.args.thread.now.header.cnode c.loop-place.place c.loop-place.found refl
    (omega (arith, c.len.ensures, c.if-len-place.true)) c.loop-place.invariant

pub loop-place-preserved : goal.loop-place-preserved
loop-place-preserved c =
    one-followed c.args.image.now c.args.thread.now.header.cnode c.loop-place.place c.at.result c.loop-place.found c.follow_listed.new.found c.at.ensures
    c.in_ok-follow_listed.ensures.found c.loop-place.invariant

pub returns-clause-found : goal.returns-clause-found
returns-clause-found c =
    let image = c.args.image.now in
    let count : c.header_of.result.capabilities ≡ image.header.capabilities = ap (λ (h : ImageHeader). h.capabilities) c.header_of.ensures.value in
    let few = few-found image c.args.thread.now.header.cnode c.loop-place.place c.loop-place.found c.loop-place.invariant in
    all-reached image c.args.thread.now c.args.thread.now.header.cnode c.loop-place.place c.loop-place.found refl
    (omega (arith, count, c.header_of.ensures.counts.capabilities, few, c.loop-place-test.false)) c.loop-place.invariant
