-- Those before, the longer one, and those behind.
use Rattle.std.proofs.Common.{◌-◌, List, [], ◌∷◌, drop, length, take, sym, subst}
use Rattle.std.proofs.lemmas.List.Elements.{All-append, All-cons, All-drop, All-nil, All-take}
use Rattle.program_rules.proofs.point_rules.found_runs.with_run.Goals as goal
use Rattle.program_rules.specs.declared.point_rules.listed_pages.PageRun.{PageRun}
use Rattle.program_rules.specs.point_rules.Runs.{AreRuns, IsRun}

pub returns : goal.returns
returns c = λ test runs run.
    let rs = c.args.runs.now in
    let place = c.partition_point-place.result in
    let later = c.partition_point-later.result in
    let longer = c.joined_at-longer.result in
    let before : AreRuns test c.extend_from_slice.new.self.items =
    subst (λ (l : List PageRun). AreRuns test l) (sym c.in_ok-extend_from_slice.ensures.items)
    (All-append (IsRun test) c.new-all.result.items (take place rs)
    (subst (λ (l : List PageRun). AreRuns test l) (sym c.new-all.ensures.items) (All-nil (IsRun test)))
    (All-take (IsRun test) place rs runs)) in
    let with : AreRuns test c.push.new.self.items =
    subst (λ (l : List PageRun). AreRuns test l) (sym c.in_ok-push.ensures.items)
    (All-append (IsRun test) c.extend_from_slice.new.self.items (longer ∷ []) before
    (All-cons (IsRun test) longer [] (c.joined_at-longer.ensures test (c.joined_at.ensures test run runs) runs) (All-nil (IsRun test)))) in
    subst (λ (l : List PageRun). AreRuns test l) (sym c.in_ok-extend_from_slice-2.ensures.items)
    (All-append (IsRun test) c.push.new.self.items (take (length rs - later) (drop later rs)) with
    (All-take (IsRun test) (length rs - later) (drop later rs) (All-drop (IsRun test) later rs runs)))
