-- By the pages that are left.
use Rattle.std.proofs.Common.{◌∙◌, ℕ, ◌+◌, ◌*◌, ◌<◌, ◌≤◌, List, ap, arith}
use Rattle.std.proofs.lemmas.Result.{err_from_is_err_and}
use Rattle.kernel_machine.specs.Setups.{state_in}
use Rattle.model.specs.Kernel.AddressSpaces.{page_size}
use Rattle.bootstrap.specs.Filling.{page_count, page_filled, pages_filled, pages_from}
use Rattle.bootstrap.specs.Loading.{placed, progress_of}
use Rattle.bootstrap.proofs.FillLemmas.{page-fails, page-more, pages-first, pages-next, pages-none}
use Rattle.bootstrap.proofs.loading.Loader.fill_pages.Goals as goal

pub loop-page-init : goal.loop-page-init
loop-page-init c = record {
  same = ap (λ (pages : List ℕ). placed c.args.number c.args.self.now.calls
      (pages_filled c.args.image.now.read.now c.args.thread.now (state_in c.args.self.now.machine) pages)) (pages-first c.args.thread.now);
  calls = omega arith;
}

pub returns-in_err-fill_page-clause-outcome : goal.returns-in_err-fill_page-clause-outcome
returns-in_err-fill_page-clause-outcome c =
    let t = c.args.thread.now in
    let n = c.loop-page.page in
    let now = progress_of c.loop-page.self in
    let lt : n < page_count t = omega (arith, ap (λ h. h.words) c.header.ensures) in
    let p = err_from_is_err_and c.from_residual.result c.from_residual.ensures.1 in
    rw (p.1, p.2) (c.loop-page.invariant.same
    ∙ ap (λ (pages : List ℕ). placed c.args.number now.calls (pages_filled c.args.image.now.read.now t now.state pages))
    (pages-next t n lt)
    ∙ page-fails c.args.number now.calls (λ s. pages_filled c.args.image.now.read.now t s (pages_from t (n + 1)))
    (page_filled c.args.image.now.read.now t now.state (t.header.base + n * page_size)) _ c.in_err-fill_page.ensures.outcome)

pub returns-in_err-fill_page-clause-counted : goal.returns-in_err-fill_page-clause-counted
returns-in_err-fill_page-clause-counted c = c.fill_page.ensures.counted ∙ c.loop-page.invariant.calls

pub loop-page-preserved : goal.loop-page-preserved
loop-page-preserved c =
    let t = c.args.thread.now in
    let n = c.loop-page.page in
    let now = progress_of c.loop-page.self in
    let lt : n < page_count t = omega (arith, ap (λ h. h.words) c.header.ensures) in
    record {
      same = c.loop-page.invariant.same ∙ ap (λ (pages : List ℕ). placed c.args.number now.calls (pages_filled c.args.image.now.read.now t now.state pages))
          (pages-next t n lt)
          ∙ page-more c.args.number now.calls (λ s. pages_filled c.args.image.now.read.now t s (pages_from t (n + 1)))
          (page_filled c.args.image.now.read.now t now.state (t.header.base + n * page_size)) (progress_of c.fill_page.new.self)
          c.in_ok-fill_page.ensures.outcome;
      calls = c.fill_page.ensures.counted ∙ c.loop-page.invariant.calls;
    }

pub returns-clause-outcome : goal.returns-clause-outcome
returns-clause-outcome c =
    let t = c.args.thread.now in
    let now = progress_of c.loop-page.self in
    let le : page_count t ≤ c.loop-page.page = omega (arith, ap (λ h. h.words) c.header.ensures) in
    c.loop-page.invariant.same ∙ ap (λ (pages : List ℕ). placed c.args.number now.calls (pages_filled c.args.image.now.read.now t now.state pages))
    (pages-none t c.loop-page.page le)
