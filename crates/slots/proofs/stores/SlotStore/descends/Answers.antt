-- One step up the parents is one step of the test.
use Rattle.std.proofs.Common.{◌≡◌, ◌≢◌, ◌∙◌, ◌+◌, ◌-◌, Some, None, suc, sym, ap, arith}
use Rattle.std.proofs.lemmas.Bool.{ne_eqb}
use Rattle.model.specs.Capabilities.Slots.{Slots, parent_at}
use Rattle.model.specs.Capabilities.Slots.{descends_within}
use Rattle.model.proofs.Ancestors.{descends-none, descends-on, descends-root, descends-zero, full-open, parent-held}
use Rattle.slots.proofs.stores.SlotStore.descends.Goals as goal

pub returns-in-None-clause-test : goal.returns-in-None-clause-test
returns-in-None-clause-test g c =
    let slots : Slots = g.Self.SlotMap.slots c.args.self.now in
    let above : parent_at slots c.up.here ≡ None = parent-held slots c.up.here _ c.get-held.ensures.held ∙ c.in-None.is in
    sym (descends-none (c.depth-depth.result - c.up._step) (parent_at slots) c.args.root c.up.here above) ∙ c.up.invariant.rest

pub returns-then-number-clause-test : goal.returns-then-number-clause-test
returns-then-number-clause-test g c =
    let slots : Slots = g.Self.SlotMap.slots c.args.self.now in
    let left = c.depth-depth.result - (c.up._step + 1) in
    let size : c.depth-depth.result - c.up._step ≡ suc left = omega arith in
    let above : parent_at slots c.up.here ≡ Some c.in-Some.parent = parent-held slots c.up.here _ c.get-held.ensures.held ∙ c.in-Some.is in
    let same : c.in-Some.parent ≡ c.args.root = sym c.number.ensures.value ∙ c.if-number.true ∙ c.number-in-Some.ensures.value in
    sym (ap (λ n. descends_within n (parent_at slots) c.args.root c.up.here) size
    ∙ descends-root left (parent_at slots) c.args.root c.up.here c.in-Some.parent above same) ∙ c.up.invariant.rest

pub up-preserved : goal.up-preserved
up-preserved g c =
    let slots : Slots = g.Self.SlotMap.slots c.args.self.now in
    let left = c.depth-depth.result - (c.up._step + 1) in
    let size : c.depth-depth.result - c.up._step ≡ suc left = omega arith in
    let above : parent_at slots c.up.here ≡ Some c.in-Some.parent = parent-held slots c.up.here _ c.get-held.ensures.held ∙ c.in-Some.is in
    let other : c.in-Some.parent ≢ c.args.root = λ same. c.if-number.false (c.number.ensures.value ∙ same ∙ sym c.number-in-Some.ensures.value) in
    record {
      here_open = full-open slots c.in-Some.parent (c.depth-depth.ensures.derivation.parent_full c.up.here c.in-Some.parent above);
      rest = sym (ap (λ n. descends_within n (parent_at slots) c.args.root c.up.here) size
          ∙ descends-on left (parent_at slots) c.args.root c.up.here c.in-Some.parent above (ne_eqb c.in-Some.parent c.args.root other)) ∙ c.up.invariant.rest;
    }

pub returns-clause-test : goal.returns-clause-test
returns-clause-test g c =
    let slots : Slots = g.Self.SlotMap.slots c.args.self.now in
    let none : c.depth-depth.result - c.up._step ≡ 0 = omega arith in
    sym (ap (λ n. descends_within n (parent_at slots) c.args.root c.up.here) none ∙ descends-zero (parent_at slots) c.args.root c.up.here) ∙ c.up.invariant.rest
