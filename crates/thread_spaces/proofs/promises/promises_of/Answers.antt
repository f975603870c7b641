-- One promise more, which is put where its endpoint lies.
use Rattle.std.proofs.Common.{ℕ, ◌≡◌, ◌∙◌, ◌==◌, ◌<◌, if◌then◌else◌, Some, None, List, sym, ap, subst, arith}
use Rattle.std.specs.Option.{option_or}
use Rattle.std.specs.Prelude.{slice_index}
use Rattle.format_laws.specs.Fitting.{PromiseFits}
use Rattle.model.specs.Images.Image.{ImagePromise}
use Rattle.model.specs.Images.Places.{offset_of}
use Rattle.model.specs.declared.entries.PromiseHeader.{PromiseHeader}
use Rattle.typestate.specs.Promises.{placed_at}
use Rattle.thread_spaces.proofs.PromisesPlaced.{AllFit, AreLeft, all-fit, first-fits, is-promise, placed-all, placed-next, promise_in, tail-fits}
use Rattle.thread_spaces.proofs.promises.promises_of.Goals as goal

pub loop-promise-init : goal.loop-promise-init
loop-promise-init c =
    let image = c.args.placed.now.image.now in
    let same : c.into_iter-promise-iterator.result ≡ image.promises =
    c.into_iter-promise-iterator.ensures.into_iter_gives ∙ c.promises-promise-items.ensures in
    record {
      left = λ offset. ap (λ (placed : List (ℕ × ImagePromise)).
          option_or (placed_at placed offset) (promise_in image c.into_iter-promise-iterator.result offset)) c.new-promises.ensures
          ∙ ap (λ (left : List ImagePromise). promise_in image left offset) same;
      fit = subst (AllFit image) (sym same) (all-fit image (c.images_that_fit_keep_their_limits.ensures image c.header.ensures.fits));
    }

pub bounds-placed-header : goal.bounds-placed-header
bounds-placed-header c =
    let image = c.args.placed.now.image.now in
    let fits = first-fits image c.in-Some.promise c.next.new.self (subst (AllFit image) c.in-Some.ensures.steps c.loop-promise.invariant.fit) in
    let less = subst (λ (h : PromiseHeader). h.endpoint < image.header.objects) (sym c.header-in-loop-promise.ensures) fits.endpoint in
    let many = c.args.placed.now.placed.size in
    omega (arith, less, many)

pub invariant_of-put : goal.invariant_of-put
invariant_of-put c =
    let image = c.args.placed.now.image.now in
    is-promise image c.in-Some.promise
    (first-fits image c.in-Some.promise c.next.new.self (subst (AllFit image) c.in-Some.ensures.steps c.loop-promise.invariant.fit))

pub loop-promise-preserved : goal.loop-promise-preserved
loop-promise-preserved c =
    let image = c.args.placed.now.image.now in
    let p = c.in-Some.promise in
    let all = subst (AllFit image) c.in-Some.ensures.steps c.loop-promise.invariant.fit in
    let place : slice_index c.args.placed.now.offsets.now c.header-in-loop-promise.result.endpoint ≡ offset_of image p.header.endpoint =
    ap (λ (h : PromiseHeader). slice_index c.args.placed.now.offsets.now h.endpoint) c.header-in-loop-promise.ensures
    ∙ c.args.placed.now.placed.place p.header.endpoint (PromiseFits.endpoint (first-fits image p c.next.new.self all)) in
    record {
      left = placed-next image c.loop-promise.promises c.put.new.self p c.next.new.self
          (λ other. c.in_ok-put.ensures other
          ∙ ap (λ (offset : ℕ). option_or (placed_at c.loop-promise.promises other) (if offset == other then Some p else None)) place)
          (subst (AreLeft image c.loop-promise.promises) c.in-Some.ensures.steps c.loop-promise.invariant.left);
      fit = tail-fits image p c.next.new.self all;
    }

pub returns : goal.returns
returns c =
    let image = c.args.placed.now.image.now in
    placed-all image c.loop-promise.promises (subst (AreLeft image c.loop-promise.promises) c.in-None.ensures.steps.0 c.loop-promise.invariant.left)
