-- One capability more.
use Rattle.std.proofs.Common.{◌∙◌, refl, arith}
use Rattle.thread_spaces.proofs.Awaited.{up-to-end, up-to-first, up-to-next}
use Rattle.thread_spaces.proofs.reach.Round.await_listed.Goals as goal

pub loop-number-init : goal.loop-number-init
loop-number-init c = (
  c.requires.within,
  record { same = refl; keeps = λ n is. is },
  up-to-first c.args.image.now c.args.cnode c.listed_in-listed.result.first c.listed_in-listed.result.end c.listed_in-listed.ensures c.args.self.now,
)

pub loop-number-preserved : goal.loop-number-preserved
loop-number-preserved c =
    let before = c.loop-number.invariant in
    let more = c.in_ok-await_one.ensures.more in (
      c.in_ok-await_one.ensures.within,
      record { same = more.same ∙ before.1.same; keeps = λ n is. more.keeps n (before.1.keeps n is) },
      up-to-next c.args.image.now c.args.cnode c.loop-number.number c.loop-number.self c.await_one.new.self more c.in_ok-await_one.ensures.one before.2,
    )

pub returns-clause-listed : goal.returns-clause-listed
returns-clause-listed c =
    up-to-end c.args.image.now c.args.cnode c.listed_in-listed.result.first c.listed_in-listed.result.end c.listed_in-listed.ensures c.loop-number.number
    c.loop-number.self
    (omega (arith, c.loop-number-test.false)) c.loop-number.invariant.2
