-- One round more.
use Rattle.std.proofs.Common.{ap, arith}
use Rattle.std.proofs.lemmas.List.{nil_from_length}
use Rattle.model.specs.declared.entries.ImageHeader.{ImageHeader}
use Rattle.model.specs.declared.entries.ThreadHeader.{ThreadHeader}
use Rattle.thread_spaces.proofs.Awaited.{first-begins, none-more}
use Rattle.thread_spaces.proofs.Rounds.{round-first, round-last, round-next, rounds-end}
use Rattle.thread_spaces.proofs.reach.reached_of.Goals as goal

pub rounds-init : goal.rounds-init
rounds-init c =
    let root = c.header-root.result.cnode in
    let put = c.in_ok-insert.ensures.put in
    let awaits = c.in_ok-await_listed.ensures in (
      round-first c.args.image.now c.args.thread.now root c.new-found.result c.insert.new.self (ap (λ (h : ThreadHeader). h.cnode) c.header-root.ensures)
          c.new-found.ensures put,
      first-begins c.args.image.now root c.new-found.result c.insert.new.self c.new-round.result c.await_listed.new.self c.new-found.ensures put
          c.new-round.ensures.place awaits.more awaits.within awaits.listed,
    )

pub returns-then-is_empty-clause-found : goal.returns-then-is_empty-clause-found
returns-then-is_empty-clause-found c =
    let left = c.rounds.invariant in
    round-last c.args.image.now c.args.thread.now c.rounds.counter c.rounds.found
    (none-more c.args.image.now c.rounds.found c.rounds.round (nil_from_length c.rounds.round.ahead.keys (c.is_empty.ensures.0 c.if-is_empty.true)) left.1)
    left.0

pub rounds-preserved : goal.rounds-preserved
rounds-preserved c =
    let count = ap (λ (h : ImageHeader). h.capabilities) c.header_of-end.ensures.value in (
      round-next c.args.image.now c.args.thread.now c.rounds.counter c.rounds.found c.go.new.found
          (omega (arith, c.rounds-test.true, count, c.header_of-end.ensures.counts.capabilities))
          c.in_ok-round.ensures.found c.rounds.invariant.0,
      c.in_ok-round.ensures.next,
    )

pub returns-clause-found : goal.returns-clause-found
returns-clause-found c =
    let count = ap (λ (h : ImageHeader). h.capabilities) c.header_of-end.ensures.value in
    rounds-end c.args.image.now c.args.thread.now c.rounds.counter c.rounds.found
    (omega (arith, c.rounds-test.false, count, c.header_of-end.ensures.counts.capabilities)) c.rounds.invariant.0
