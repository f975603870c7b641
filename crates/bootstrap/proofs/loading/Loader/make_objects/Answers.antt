-- By the calls that are left.
use Rattle.std.proofs.Common.{◌≡◌, ◌∙◌, ◌+◌, ◌-◌, ◌<◌, [], ◌∷◌, map, ap, arith}
use Rattle.std.specs.List.{range_with_len}
use Rattle.std.proofs.lemmas.Result.{err_from_is_err_and}
use Rattle.model.specs.Images.BootCalls.{object_call}
use Rattle.bootstrap.specs.Loading.{called, progress_of}
use Rattle.bootstrap.proofs.Calls.{done, fails, more}
use Rattle.bootstrap.proofs.Rests.{objects_from, objects-next, objects-none}
use Rattle.bootstrap.proofs.loading.Loader.make_objects.Goals as goal

pub returns-in_err-make_object-clause-outcome : goal.returns-in_err-make_object-clause-outcome
returns-in_err-make_object-clause-outcome c =
    let image = c.args.image.now.read.now in
    let n = c.loop-number.number in
    let lt : n < image.header.objects = omega (arith, ap (λ h. h.objects) c.header-number-end.ensures.value) in
    let p = err_from_is_err_and c.from_residual.result c.from_residual.ensures.1 in
    rw (p.1, p.2) (let k : image.header.objects ≡ image.header.objects - 0 = omega arith in
    ap (λ count. called (progress_of c.args.self.now) (map (object_call image) (range_with_len 0 count))) k
    ∙ fails (objects_from image n) (objects_from image (n + 1)) (object_call image n ∷ []) _ (progress_of c.loop-number.self) _
    (objects-next image n lt) c.loop-number.invariant.same c.in_err-make_object.ensures.outcome)

pub loop-number-preserved : goal.loop-number-preserved
loop-number-preserved c =
    let image = c.args.image.now.read.now in
    let n = c.loop-number.number in
    let lt : n < image.header.objects = omega (arith, ap (λ h. h.objects) c.header-number-end.ensures.value) in
    record {
      same = more (objects_from image n) (objects_from image (n + 1)) (object_call image n ∷ []) _ (progress_of c.loop-number.self)
          (progress_of c.make_object.new.self)
          (objects-next image n lt) c.loop-number.invariant.same c.in_ok-make_object.ensures.outcome;
      room = omega (arith, c.make_object.ensures.counted);
    }

pub returns-clause-outcome : goal.returns-clause-outcome
returns-clause-outcome c =
    let image = c.args.image.now.read.now in
    let k : image.header.objects ≡ image.header.objects - 0 = omega arith in
    ap (λ count. called (progress_of c.args.self.now) (map (object_call image) (range_with_len 0 count))) k
    ∙ done (objects_from image c.loop-number.number) _ (progress_of c.loop-number.self)
    (objects-none image c.loop-number.number (omega (arith, ap (λ h. h.objects) c.header-number-end.ensures.value))) c.loop-number.invariant.same
