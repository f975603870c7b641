-- The next capability, and what is left of the round.
use Rattle.std.proofs.Common.{◌∙◌, ◌+◌, refl, sym, arith}
use Rattle.thread_spaces.specs.declared.reach.Round.{Round}
use Rattle.thread_spaces.proofs.Awaited.{followed-all, followed-place, followed-rest, next-begins, none-ahead, none-behind, none-left, popped-inside}
use Rattle.thread_spaces.proofs.Awaited.{popped-within, round-begun}
use Rattle.thread_spaces.proofs.reach.Round.go.Goals as goal

pub round-init : goal.round-init
round-init c = (c.requires.within, c.requires.awaits_all, round-begun c.args.image.now c.args.found.now c.args.self c.requires)

pub overflow_add-self : goal.overflow_add-self
overflow_add-self c =
    let image = c.args.image.now in
    let r = c.round.self in
    let k = c.in-Some.number in
    let s : Round = record { place = k + 1; ahead = c.pop_first.new.self; passed = r.passed } in
    let known = c.in-Some.ensures in
    let inside = popped-inside image c.round.found r s k c.pop_first.new.self.keys c.round.invariant.0 c.round.invariant.1 known.removal known.all_above refl
    refl refl in
    let size = c.header_of.ensures.small.capabilities in
    let count = c.header_of.ensures.counts.capabilities in
    omega (arith, inside.1, size, count)

pub follow-requires-clause-number : goal.follow-requires-clause-number
follow-requires-clause-number c =
    let image = c.args.image.now in
    let r = c.round.self in
    let k = c.in-Some.number in
    let s : Round = record { place = k + 1; ahead = c.pop_first.new.self; passed = r.passed } in
    let known = c.in-Some.ensures in
    (popped-inside image c.round.found r s k c.pop_first.new.self.keys c.round.invariant.0 c.round.invariant.1 known.removal known.all_above refl refl refl).1

pub follow-requires-clause-within : goal.follow-requires-clause-within
follow-requires-clause-within c =
    let image = c.args.image.now in
    let r = c.round.self in
    let k = c.in-Some.number in
    let s : Round = record { place = k + 1; ahead = c.pop_first.new.self; passed = r.passed } in
    let known = c.in-Some.ensures in
    popped-within image c.round.found r s k c.pop_first.new.self.keys c.round.invariant.0 c.round.invariant.1 known.removal known.all_above refl refl refl

pub round-smaller : goal.round-smaller
round-smaller c =
    let image = c.args.image.now in
    let r = c.round.self in
    let k = c.in-Some.number in
    let s : Round = record { place = k + 1; ahead = c.pop_first.new.self; passed = r.passed } in
    let known = c.in-Some.ensures in
    let inside = popped-inside image c.round.found r s k c.pop_first.new.self.keys c.round.invariant.0 c.round.invariant.1 known.removal known.all_above refl
    refl refl in
    let place = followed-place image c.round.found r s k c.pop_first.new.self.keys c.round.invariant.0 c.round.invariant.1 known.removal known.all_above refl
    refl refl c.follow.new.found c.follow.new.self c.in_ok-follow.ensures.more c.in_ok-follow.ensures.found in
    omega (arith, inside.0, inside.1, place)

pub round-preserved : goal.round-preserved
round-preserved c =
    let image = c.args.image.now in
    let r = c.round.self in
    let k = c.in-Some.number in
    let s : Round = record { place = k + 1; ahead = c.pop_first.new.self; passed = r.passed } in
    let known = c.in-Some.ensures in
    let more = c.in_ok-follow.ensures.more in
    let follows = c.in_ok-follow.ensures.found in (
      c.in_ok-follow.ensures.within,
      followed-all image c.round.found r s k c.pop_first.new.self.keys c.round.invariant.0 c.round.invariant.1 known.removal known.all_above refl refl refl
          c.follow.new.found c.follow.new.self more follows,
      followed-rest image c.round.found r s k c.pop_first.new.self.keys c.round.invariant.0 c.round.invariant.1 known.removal known.all_above refl refl refl
          c.follow.new.found c.follow.new.self more follows _ c.round.invariant.2,
    )

pub returns-clause-found : goal.returns-clause-found
returns-clause-found c =
    let image = c.args.image.now in
    let found = c.round.found in
    sym (none-behind image found image.capabilities c.round.self.place
    (none-ahead image found c.round.self (none-left c.round.self.ahead.keys c.in_default.ensures.variant.1) c.round.invariant.1)) ∙ c.round.invariant.2

pub returns-clause-next : goal.returns-clause-next
returns-clause-next c =
    next-begins c.args.image.now c.round.found c.round.self _ (none-left c.round.self.ahead.keys c.in_default.ensures.variant.1) refl refl
    c.in_default.ensures.unchanged c.round.invariant.0 c.round.invariant.1
