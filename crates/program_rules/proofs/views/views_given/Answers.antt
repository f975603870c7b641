-- By what the image gives the thread.
use Rattle.std.proofs.Common.{List, sym, subst}
use Rattle.std.specs.List.{list_any}
use Rattle.model.specs.Acceptance.PointRules.{maps_for}
use Rattle.model.specs.declared.instructions.Access.TheVariants.{Load, Store}
use Rattle.program_rules.proofs.views.views_given.Goals as goal
use Rattle.program_rules.specs.declared.point_rules.listed_pages.PageRun.{PageRun}
use Rattle.program_rules.specs.point_rules.Runs.{AreRuns}
use Rattle.thread_spaces.specs.Given.{IsListed}

pub invariant_of-program : goal.invariant_of-program
invariant_of-program c =
    let given = c.args.given in
    let image = given.space.image.now in
    let t = given.space.thread.now in
    let listed : IsListed image t = record { number = given.number; listed = given.in_image } in
    let places = c.programs_have_their_places.ensures image t given.well_formed listed in
    record {
      loaded = subst (λ (l : List PageRun). AreRuns (λ page. list_any (maps_for Load t page) image.frames) l) (sym c.deref.ensures.value) c.in_ok-loads.ensures;
      stored = subst (λ (l : List PageRun). AreRuns (λ page. list_any (maps_for Store t page) image.frames) l) (sym c.deref-2.ensures.value)
          c.in_ok-stores.ensures;
      fits = c.certificates_that_fit_keep_their_limits.ensures image given.number t c.header.ensures.fits given.in_image;
      inside = places.0;
      entry = places.1;
    }
