-- Pages are added first, and the one that no change has any longer goes last.
use Rattle.std.proofs.Common.{◌∙◌, sym}
use Rattle.typestate.specs.Pages.{leaves_at}
use Rattle.typestate.proofs.LinkedChanges.{put-linked, replaced-linked}
use Rattle.typestate.proofs.Standing.{found-key}
use Rattle.typestate.proofs.shown.ShownChanges.put.Goals as goal

pub invariant_of-self-in-Some : goal.invariant_of-self-in-Some
invariant_of-self-in-Some c =
    let old = c.self.inside.changes in
    let new = c.put.new.self in
    let pages = c.add.new.self.slots.keys in
    let same = c.in_ok-before.ensures.same in
    let place = found-key old c.args.change.key c.in-Some.before (sym c.in_ok-before.ensures.before ∙ c.in-Some.is) in (
      replaced-linked leaves_at old new c.args.change same pages c.replace.new.self.slots.keys c.in-Some.before place
          (put-linked leaves_at old new c.args.change same c.self.inside.pages.slots.keys pages c.self.invariant.0 c.add.ensures.kept c.in_ok-add.ensures.added)
          c.replace.ensures.others (c.replace.ensures.own c.in_ok-add.ensures.added),
      c.in_ok-before.ensures.narrow,
    )

pub invariant_of-self-in_default : goal.invariant_of-self-in_default
invariant_of-self-in_default c =
    let old = c.self.inside.changes in
    let new = c.put.new.self in (
      put-linked leaves_at old new c.args.change c.in_ok-before.ensures.same c.self.inside.pages.slots.keys c.add.new.self.slots.keys c.self.invariant.0
          c.add.ensures.kept c.in_ok-add.ensures.added,
      c.in_ok-before.ensures.narrow,
    )
