-- By the calls of the sections, one after another.
use Rattle.std.proofs.Common.{◌≡◌, List, ◌++◌, map, Ok}
use Rattle.std.specs.Prelude.{flat_map}
use Rattle.std.specs.List.{range_with_len}
use Rattle.std.proofs.lemmas.Result.{err_from_is_err_and}
use Rattle.model.specs.Images.BootCalls.{LoaderCall, capability_call, frame_calls, interrupt_call, object_call, table_call}
use Rattle.model.specs.Images.Described.{numbered}
use Rattle.bootstrap.specs.Loading.{called, progress_of}
use Rattle.bootstrap.proofs.Calls.{calls-fail, leaves-more, then-err, then-ok}
use Rattle.bootstrap.proofs.loading.Loader.make_first_calls.Goals as goal

pub returns-in_err-make_objects-clause-outcome : goal.returns-in_err-make_objects-clause-outcome
returns-in_err-make_objects-clause-outcome c =
    let image = c.args.image.now.read.now in
    let m1 : List LoaderCall = map (object_call image) (range_with_len 0 image.header.objects) in
    let m2 : List LoaderCall = map (interrupt_call image) (numbered image.interrupts) in
    let m3 : List LoaderCall = map (capability_call image) image.capabilities in
    let m4 : List LoaderCall = map (table_call image) image.tables in
    let m5 : List LoaderCall = flat_map (frame_calls image) (numbered image.frames) in
    let p0 = progress_of c.args.self.now in
    let p = err_from_is_err_and c.from_residual.result c.from_residual.ensures.1 in
    rw (p.1, p.2) (calls-fail (m1 ++ m2 ++ m3 ++ m4) m5 p0 _
    (calls-fail (m1 ++ m2 ++ m3) m4 p0 _ (calls-fail (m1 ++ m2) m3 p0 _ (calls-fail (m1) m2 p0 _ c.in_err-make_objects.ensures.outcome))))

pub returns-in_err-take_handlers-clause-outcome : goal.returns-in_err-take_handlers-clause-outcome
returns-in_err-take_handlers-clause-outcome c =
    let image = c.args.image.now.read.now in
    let m1 : List LoaderCall = map (object_call image) (range_with_len 0 image.header.objects) in
    let m2 : List LoaderCall = map (interrupt_call image) (numbered image.interrupts) in
    let m3 : List LoaderCall = map (capability_call image) image.capabilities in
    let m4 : List LoaderCall = map (table_call image) image.tables in
    let m5 : List LoaderCall = flat_map (frame_calls image) (numbered image.frames) in
    let p0 = progress_of c.args.self.now in
    let p1 = progress_of c.make_objects.new.self in
    let e1 : called p0 m1 ≡ Ok p1 = c.in_ok-make_objects.ensures.outcome in
    let p = err_from_is_err_and c.from_residual-in_err-take_handlers.result c.from_residual-in_err-take_handlers.ensures.1 in
    rw (p.1, p.2) (calls-fail (m1 ++ m2 ++ m3 ++ m4) m5 p0 _
    (calls-fail (m1 ++ m2 ++ m3) m4 p0 _ (calls-fail (m1 ++ m2) m3 p0 _ (then-err (m1) m2 p0 p1 _ e1 c.in_err-take_handlers.ensures.outcome))))

pub returns-in_err-put_capabilities-clause-outcome : goal.returns-in_err-put_capabilities-clause-outcome
returns-in_err-put_capabilities-clause-outcome c =
    let image = c.args.image.now.read.now in
    let m1 : List LoaderCall = map (object_call image) (range_with_len 0 image.header.objects) in
    let m2 : List LoaderCall = map (interrupt_call image) (numbered image.interrupts) in
    let m3 : List LoaderCall = map (capability_call image) image.capabilities in
    let m4 : List LoaderCall = map (table_call image) image.tables in
    let m5 : List LoaderCall = flat_map (frame_calls image) (numbered image.frames) in
    let p0 = progress_of c.args.self.now in
    let p1 = progress_of c.make_objects.new.self in
    let e1 : called p0 m1 ≡ Ok p1 = c.in_ok-make_objects.ensures.outcome in
    let p2 = progress_of c.take_handlers.new.self in
    let e2 : called p0 (m1 ++ m2) ≡ Ok p2 = then-ok (m1) m2 p0 p1 p2 e1 c.in_ok-take_handlers.ensures.outcome in
    let p = err_from_is_err_and c.from_residual-in_err-put_capabilities.result c.from_residual-in_err-put_capabilities.ensures.1 in
    rw (p.1, p.2) (calls-fail (m1 ++ m2 ++ m3 ++ m4) m5 p0 _
    (calls-fail (m1 ++ m2 ++ m3) m4 p0 _ (then-err (m1 ++ m2) m3 p0 p2 _ e2 c.in_err-put_capabilities.ensures.outcome)))

pub returns-in_err-map_tables-clause-outcome : goal.returns-in_err-map_tables-clause-outcome
returns-in_err-map_tables-clause-outcome c =
    let image = c.args.image.now.read.now in
    let m1 : List LoaderCall = map (object_call image) (range_with_len 0 image.header.objects) in
    let m2 : List LoaderCall = map (interrupt_call image) (numbered image.interrupts) in
    let m3 : List LoaderCall = map (capability_call image) image.capabilities in
    let m4 : List LoaderCall = map (table_call image) image.tables in
    let m5 : List LoaderCall = flat_map (frame_calls image) (numbered image.frames) in
    let p0 = progress_of c.args.self.now in
    let p1 = progress_of c.make_objects.new.self in
    let e1 : called p0 m1 ≡ Ok p1 = c.in_ok-make_objects.ensures.outcome in
    let p2 = progress_of c.take_handlers.new.self in
    let e2 : called p0 (m1 ++ m2) ≡ Ok p2 = then-ok (m1) m2 p0 p1 p2 e1 c.in_ok-take_handlers.ensures.outcome in
    let p3 = progress_of c.put_capabilities.new.self in
    let e3 : called p0 (m1 ++ m2 ++ m3) ≡ Ok p3 = then-ok (m1 ++ m2) m3 p0 p2 p3 e2 c.in_ok-put_capabilities.ensures.outcome in
    let p = err_from_is_err_and c.from_residual-in_err-map_tables.result c.from_residual-in_err-map_tables.ensures.1 in
    rw (p.1, p.2) (calls-fail (m1 ++ m2 ++ m3 ++ m4) m5 p0 _ (then-err (m1 ++ m2 ++ m3) m4 p0 p3 _ e3 c.in_err-map_tables.ensures.outcome))

pub returns-clause-outcome : goal.returns-clause-outcome
returns-clause-outcome c =
    let image = c.args.image.now.read.now in
    let m1 : List LoaderCall = map (object_call image) (range_with_len 0 image.header.objects) in
    let m2 : List LoaderCall = map (interrupt_call image) (numbered image.interrupts) in
    let m3 : List LoaderCall = map (capability_call image) image.capabilities in
    let m4 : List LoaderCall = map (table_call image) image.tables in
    let m5 : List LoaderCall = flat_map (frame_calls image) (numbered image.frames) in
    let p0 = progress_of c.args.self.now in
    let p1 = progress_of c.make_objects.new.self in
    let e1 : called p0 m1 ≡ Ok p1 = c.in_ok-make_objects.ensures.outcome in
    let p2 = progress_of c.take_handlers.new.self in
    let e2 : called p0 (m1 ++ m2) ≡ Ok p2 = then-ok (m1) m2 p0 p1 p2 e1 c.in_ok-take_handlers.ensures.outcome in
    let p3 = progress_of c.put_capabilities.new.self in
    let e3 : called p0 (m1 ++ m2 ++ m3) ≡ Ok p3 = then-ok (m1 ++ m2) m3 p0 p2 p3 e2 c.in_ok-put_capabilities.ensures.outcome in
    let p4 = progress_of c.map_tables.new.self in
    let e4 : called p0 (m1 ++ m2 ++ m3 ++ m4) ≡ Ok p4 = then-ok (m1 ++ m2 ++ m3) m4 p0 p3 p4 e3 c.in_ok-map_tables.ensures.outcome in
    leaves-more (m1 ++ m2 ++ m3 ++ m4) m5 p0 p4 (progress_of c.map_frames.new.self) c.map_frames.result e4 c.map_frames.ensures.outcome
