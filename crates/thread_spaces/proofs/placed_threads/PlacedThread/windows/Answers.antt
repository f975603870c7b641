-- What is reached are CNodes.
use Rattle.std.proofs.Common.{ℕ, ◌∙◌, ◌+◌, ◌≤◌, List, length, take, take_all, sym, subst}
use Rattle.model.specs.Acceptance.ThreadRules.{reached}
use Rattle.typestate.specs.Spaces.{AreWindows}
use Rattle.typestate.proofs.Laws.{windows-apart}
use Rattle.thread_spaces.proofs.GivenCNodes.{cnode-at}
use Rattle.thread_spaces.proofs.WindowLists.{windows-made, windows-more}
use Rattle.thread_spaces.proofs.PlacedThreads.{is-listed}
use Rattle.thread_spaces.proofs.placed_threads.PlacedThread.windows.Goals as goal

pub window_of-requires : goal.window_of-requires
window_of-requires c = record {
  cnode = cnode-at c.args.self.now.placed.now.image.now c.args.self.now.thread.now c.cnodes.place c.at.result c.args.cnodes.now c.header.ensures.fits
      c.args.self.now.placed.now.formed (is-listed c.args.self.now) c.requires.cnodes c.at.ensures;
}

pub cnodes-preserved : goal.cnodes-preserved
cnodes-preserved c =
    subst (AreWindows c.args.self.now.placed.now.image.now (take (c.cnodes.place + 1) c.args.cnodes.now)) (sym c.in_ok-push.ensures.items)
    (windows-more c.args.self.now.placed.now.image.now c.args.cnodes.now c.cnodes.windows.items c.cnodes.place c.at.result c.window_of.result c.at.ensures
    c.cnodes.invariant
    c.window_of.ensures)

pub new-requires : goal.new-requires
new-requires c =
    let image = c.args.self.now.placed.now.image.now in
    let t = c.args.self.now.thread.now in
    let apart = c.threads_stand_apart.ensures image t c.header.ensures.fits c.args.self.now.placed.now.formed (is-listed c.args.self.now) in
    let windows = c.cnodes.windows.items in
    let place = c.cnodes.place in
    let all : length c.args.cnodes.now ≤ place = subst (λ (n : ℕ). n ≤ place) c.len-place-end.ensures c.cnodes-test.false in
    windows-apart image t windows apart (subst (λ (cnodes : List ℕ). AreWindows image cnodes windows) (take_all place c.args.cnodes.now all ∙ c.requires.cnodes)
    c.cnodes.invariant)

pub returns : goal.returns
returns c =
    let image = c.args.self.now.placed.now.image.now in
    let windows = c.cnodes.windows.items in
    let place = c.cnodes.place in
    let all : length c.args.cnodes.now ≤ place = subst (λ (n : ℕ). n ≤ place) c.len-place-end.ensures c.cnodes-test.false in
    let are = subst (λ (cnodes : List ℕ). AreWindows image cnodes windows) (take_all place c.args.cnodes.now all ∙ c.requires.cnodes) c.cnodes.invariant in
    windows-made image (reached image c.args.self.now.thread.now) windows c.new.result are c.new.ensures
