-- By the operations of the sections, one after another.
use Rattle.std.proofs.Common.{◌≡◌, ◌∙◌, List, ◌∷◌, ◌++◌, map, Ok, refl}
use Rattle.std.proofs.lemmas.Result.{err_from_is_err_and}
use Rattle.model.specs.Images.BootCalls.{Operation, PutsUntyped, PutsControl, Calls, content_operation, first_calls, last_calls, operations, program_operation}
use Rattle.model.specs.Images.Described.{numbered, numbered_threads}
use Rattle.model.specs.Images.Places.{control_slot}
use Rattle.std.proofs.Common.{subst, sym}
use Rattle.bootstrap.specs.Loading.{all_performed, progress_of}
use Rattle.model.specs.Kernel.Outcomes.{GivesState}
use Rattle.bootstrap.proofs.FillLemmas.{op-fails, op-more}
use Rattle.bootstrap.proofs.Order.{all-calls, both-ok, first-failed, second-failed, second-leaves}
use Rattle.bootstrap.proofs.loading.Loader.load.Goals as goal

pub returns-in_err-put_untypeds : goal.returns-in_err-put_untypeds
unfolding operations
returns-in_err-put_untypeds c =
    let image = c.args.image.now.read.now in
    let u = image.header.untypeds in
    let m1 : List Operation = map (λ u. PutsUntyped u.0 u.1) (numbered image.untypeds) in
    let first : List Operation = map Calls (first_calls image) in
    let m2 : List Operation = PutsControl (control_slot image) ∷ first in
    let m3 : List Operation = map (content_operation image) image.contents in
    let m4 : List Operation = map (program_operation image) (numbered_threads image) in
    let m5 : List Operation = map Calls (last_calls image) in
    let p0 = progress_of c.args.self.now in
    let p = err_from_is_err_and c.from_residual.result c.from_residual.ensures.1 in
    rw (p.1, p.2) (first-failed u (m1 ++ m2 ++ m3 ++ m4) m5 p0 _
    (first-failed u (m1 ++ m2 ++ m3) m4 p0 _ (first-failed u (m1 ++ m2) m3 p0 _ (first-failed u m1 m2 p0 _ c.in_err-put_untypeds.ensures.outcome))))

pub returns-in_err-put_control : goal.returns-in_err-put_control
unfolding operations
returns-in_err-put_control c =
    let image = c.args.image.now.read.now in
    let u = image.header.untypeds in
    let m1 : List Operation = map (λ u. PutsUntyped u.0 u.1) (numbered image.untypeds) in
    let first : List Operation = map Calls (first_calls image) in
    let m2 : List Operation = PutsControl (control_slot image) ∷ first in
    let m3 : List Operation = map (content_operation image) image.contents in
    let m4 : List Operation = map (program_operation image) (numbered_threads image) in
    let m5 : List Operation = map Calls (last_calls image) in
    let p0 = progress_of c.args.self.now in
    let p1 = progress_of c.put_untypeds.new.self in
    let e1 : all_performed u p0 m1 ≡ Ok p1 = c.in_ok-put_untypeds.ensures.outcome in
    let p = err_from_is_err_and c.from_residual-in_err-put_control.result c.from_residual-in_err-put_control.ensures.1 in
    rw (p.1, p.2) (first-failed u (m1 ++ m2 ++ m3 ++ m4) m5 p0 _
    (first-failed u (m1 ++ m2 ++ m3) m4 p0 _
    (first-failed u (m1 ++ m2) m3 p0 _
    (second-failed u m1 m2 p0 p1 _ e1 (op-fails u (PutsControl (control_slot image)) first _ p1 _ refl c.in_err-put_control.ensures.outcome)))))

pub returns-in_err-make_first_calls : goal.returns-in_err-make_first_calls
unfolding operations
returns-in_err-make_first_calls c =
    let image = c.args.image.now.read.now in
    let u = image.header.untypeds in
    let m1 : List Operation = map (λ u. PutsUntyped u.0 u.1) (numbered image.untypeds) in
    let first : List Operation = map Calls (first_calls image) in
    let m2 : List Operation = PutsControl (control_slot image) ∷ first in
    let m3 : List Operation = map (content_operation image) image.contents in
    let m4 : List Operation = map (program_operation image) (numbered_threads image) in
    let m5 : List Operation = map Calls (last_calls image) in
    let p0 = progress_of c.args.self.now in
    let p1 = progress_of c.put_untypeds.new.self in
    let e1 : all_performed u p0 m1 ≡ Ok p1 = c.in_ok-put_untypeds.ensures.outcome in
    let p2 = progress_of c.put_control.new.self in
    let ctl : all_performed u p1 m2 ≡ all_performed u p2 first =
    op-more u (PutsControl (control_slot image)) first _ p1 p2 refl c.in_ok-put_control.ensures.outcome in
    let p = err_from_is_err_and c.from_residual-in_err-make_first_calls.result c.from_residual-in_err-make_first_calls.ensures.1 in
    rw (p.1, p.2) (first-failed u (m1 ++ m2 ++ m3 ++ m4) m5 p0 _
    (first-failed u (m1 ++ m2 ++ m3) m4 p0 _
    (first-failed u (m1 ++ m2) m3 p0 _
    (second-failed u m1 m2 p0 p1 _ e1 (ctl ∙ all-calls u p2 (first_calls image) ∙ c.in_err-make_first_calls.ensures.outcome)))))

pub returns-in_err-fill_contents : goal.returns-in_err-fill_contents
unfolding operations
returns-in_err-fill_contents c =
    let image = c.args.image.now.read.now in
    let u = image.header.untypeds in
    let m1 : List Operation = map (λ u. PutsUntyped u.0 u.1) (numbered image.untypeds) in
    let first : List Operation = map Calls (first_calls image) in
    let m2 : List Operation = PutsControl (control_slot image) ∷ first in
    let m3 : List Operation = map (content_operation image) image.contents in
    let m4 : List Operation = map (program_operation image) (numbered_threads image) in
    let m5 : List Operation = map Calls (last_calls image) in
    let p0 = progress_of c.args.self.now in
    let p1 = progress_of c.put_untypeds.new.self in
    let e1 : all_performed u p0 m1 ≡ Ok p1 = c.in_ok-put_untypeds.ensures.outcome in
    let p2 = progress_of c.put_control.new.self in
    let ctl : all_performed u p1 m2 ≡ all_performed u p2 first =
    op-more u (PutsControl (control_slot image)) first _ p1 p2 refl c.in_ok-put_control.ensures.outcome in
    let p3 = progress_of c.make_first_calls.new.self in
    let e3 : all_performed u p0 (m1 ++ m2) ≡ Ok p3 = both-ok u m1 m2 p0 p1 p3 e1
    (ctl ∙ all-calls u p2 (first_calls image) ∙ c.in_ok-make_first_calls.ensures.outcome) in
    let p = err_from_is_err_and c.from_residual-in_err-fill_contents.result c.from_residual-in_err-fill_contents.ensures.1 in
    rw (p.1, p.2) (first-failed u (m1 ++ m2 ++ m3 ++ m4) m5 p0 _
    (first-failed u (m1 ++ m2 ++ m3) m4 p0 _ (second-failed u (m1 ++ m2) m3 p0 p3 _ e3 c.in_err-fill_contents.ensures.outcome)))

pub returns-in_err-fill_programs : goal.returns-in_err-fill_programs
unfolding operations
returns-in_err-fill_programs c =
    let image = c.args.image.now.read.now in
    let u = image.header.untypeds in
    let m1 : List Operation = map (λ u. PutsUntyped u.0 u.1) (numbered image.untypeds) in
    let first : List Operation = map Calls (first_calls image) in
    let m2 : List Operation = PutsControl (control_slot image) ∷ first in
    let m3 : List Operation = map (content_operation image) image.contents in
    let m4 : List Operation = map (program_operation image) (numbered_threads image) in
    let m5 : List Operation = map Calls (last_calls image) in
    let p0 = progress_of c.args.self.now in
    let p1 = progress_of c.put_untypeds.new.self in
    let e1 : all_performed u p0 m1 ≡ Ok p1 = c.in_ok-put_untypeds.ensures.outcome in
    let p2 = progress_of c.put_control.new.self in
    let ctl : all_performed u p1 m2 ≡ all_performed u p2 first =
    op-more u (PutsControl (control_slot image)) first _ p1 p2 refl c.in_ok-put_control.ensures.outcome in
    let p3 = progress_of c.make_first_calls.new.self in
    let e3 : all_performed u p0 (m1 ++ m2) ≡ Ok p3 = both-ok u m1 m2 p0 p1 p3 e1
    (ctl ∙ all-calls u p2 (first_calls image) ∙ c.in_ok-make_first_calls.ensures.outcome) in
    let p4 = progress_of c.fill_contents.new.self in
    let e4 : all_performed u p0 (m1 ++ m2 ++ m3) ≡ Ok p4 = both-ok u (m1 ++ m2) m3 p0 p3 p4 e3 c.in_ok-fill_contents.ensures.outcome in
    let p = err_from_is_err_and c.from_residual-in_err-fill_programs.result c.from_residual-in_err-fill_programs.ensures.1 in
    rw (p.1, p.2) (first-failed u (m1 ++ m2 ++ m3 ++ m4) m5 p0 _ (second-failed u (m1 ++ m2 ++ m3) m4 p0 p4 _ e4 c.in_err-fill_programs.ensures.outcome))

pub returns : goal.returns
unfolding operations
returns c =
    let image = c.args.image.now.read.now in
    let u = image.header.untypeds in
    let m1 : List Operation = map (λ u. PutsUntyped u.0 u.1) (numbered image.untypeds) in
    let first : List Operation = map Calls (first_calls image) in
    let m2 : List Operation = PutsControl (control_slot image) ∷ first in
    let m3 : List Operation = map (content_operation image) image.contents in
    let m4 : List Operation = map (program_operation image) (numbered_threads image) in
    let m5 : List Operation = map Calls (last_calls image) in
    let p0 = progress_of c.args.self.now in
    let p1 = progress_of c.put_untypeds.new.self in
    let e1 : all_performed u p0 m1 ≡ Ok p1 = c.in_ok-put_untypeds.ensures.outcome in
    let p2 = progress_of c.put_control.new.self in
    let ctl : all_performed u p1 m2 ≡ all_performed u p2 first =
    op-more u (PutsControl (control_slot image)) first _ p1 p2 refl c.in_ok-put_control.ensures.outcome in
    let p3 = progress_of c.make_first_calls.new.self in
    let e3 : all_performed u p0 (m1 ++ m2) ≡ Ok p3 = both-ok u m1 m2 p0 p1 p3 e1
    (ctl ∙ all-calls u p2 (first_calls image) ∙ c.in_ok-make_first_calls.ensures.outcome) in
    let p4 = progress_of c.fill_contents.new.self in
    let e4 : all_performed u p0 (m1 ++ m2 ++ m3) ≡ Ok p4 = both-ok u (m1 ++ m2) m3 p0 p3 p4 e3 c.in_ok-fill_contents.ensures.outcome in
    let p5 = progress_of c.fill_programs.new.self in
    let e5 : all_performed u p0 (m1 ++ m2 ++ m3 ++ m4) ≡ Ok p5 = both-ok u (m1 ++ m2 ++ m3) m4 p0 p4 p5 e4 c.in_ok-fill_programs.ensures.outcome in
    let q = progress_of c.make_last_calls.new.self in
    second-leaves u (m1 ++ m2 ++ m3 ++ m4) m5 p0 p5 q c.make_last_calls.result e5
    (subst (λ d. GivesState d c.make_last_calls.result q) (sym (all-calls u p5 (last_calls image))) c.make_last_calls.ensures)
