-- What the loader does, in the order of the definition, is what comes of loading.
use Rattle.std.proofs.Common.{◌≡◌, ◌∙◌, ℕ, suc, ◌+◌, Option, Some, None, List, [], ◌∷◌, ◌++◌, map, Result, Ok, Err, refl, sym, ap, subst, add-one}
use Rattle.std.specs.Prelude.{option_and_then}
use Rattle.model.specs.declared.boot_faults.BootFault.{BootFault}
use Rattle.model.specs.declared.boot_faults.BootFault.TheVariants.{Outside}
use Rattle.model.specs.declared.errors.KError.{KError}
use Rattle.model.specs.Images.Boot.{booted, boots_unless, fill_all, goes_on_after_call, goes_on_inside, made, misplaced, run_from}
use Rattle.model.specs.Images.BootCalls.{LoaderCall, Operation, PutsUntyped, PutsControl, Calls, Fills, operations}
use Rattle.model.specs.Images.Image.{Image}
use Rattle.model.specs.Kernel.Setup.{boot_area, put_control, put_untyped}
use Rattle.model.specs.Kernel.State.{State}
use Rattle.bootstrap.specs.Loading.{Progress, ◌>>=◌, all_performed, called, counted, performed, placed}
use Rattle.model.specs.Kernel.Outcomes.{GivesState}
use Rattle.bootstrap.proofs.Calls.{bind-bind}

abbrev pub state_after : Result Progress BootFault → Result State BootFault
state_after (Ok p) = Ok p.state
state_after (Err fault) = Err fault

at : ℕ → State → Progress
at n s = record { calls = n; state = s }

call-goes : (image : Image) (n : ℕ) (later : List Operation) (r : Result State KError)
    → ((m : ℕ) (s : State) → run_from image m s later ≡ state_after (all_performed image.header.untypeds (record { calls = m; state = s }) later))
    → goes_on_after_call n (λ s. run_from image (suc n) s later) r ≡ state_after (counted n r >>= λ q. all_performed image.header.untypeds q later)
call-goes image n later (Ok s) each = ap (λ (m : ℕ). run_from image m s later) (sym (add-one n)) ∙ each (n + 1) s
call-goes image n later (Err error) each = refl

place-goes : (image : Image) (place n : ℕ) (later : List Operation) (o : Option State)
    → ((m : ℕ) (s : State) → run_from image m s later ≡ state_after (all_performed image.header.untypeds (record { calls = m; state = s }) later))
    → goes_on_inside place (λ s. run_from image n s later) o ≡ state_after (placed place n o >>= λ q. all_performed image.header.untypeds q later)
place-goes image place n later (Some s) each = each n s
place-goes image place n later None each = refl

pub runs : (image : Image) (operations : List Operation) (n : ℕ) (s : State)
    → run_from image n s operations ≡ state_after (all_performed image.header.untypeds (record { calls = n; state = s }) operations)
unfolding run_from
runs image [] n s = refl
runs image (PutsUntyped number u ∷ later) n s = place-goes image number n later (put_untyped s number u.offset u.bits) (λ m t. runs image later m t)
runs image (PutsControl slot ∷ later) n s = place-goes image image.header.untypeds n later (put_control s slot) (λ m t. runs image later m t)
runs image (Calls c ∷ later) n s = call-goes image n later (made s c) (λ m t. runs image later m t)
runs image (Fills number fills ∷ later) n s = place-goes image number n later (option_and_then (fill_all s) fills) (λ m t. runs image later m t)

-- ---- sections one after another

pub all-append : (untypeds : ℕ) (p : Progress) (xs ys : List Operation) →
    all_performed untypeds p (xs ++ ys) ≡ (all_performed untypeds p xs >>= λ q. all_performed untypeds q ys)
all-append untypeds p [] ys = refl
all-append untypeds p (x ∷ xs) ys =
    let one = performed untypeds p x in
    ap (λ (next : Progress → Result Progress BootFault). one >>= next) (λ i q. all-append untypeds q xs ys i)
    ∙ bind-bind one (λ q. all_performed untypeds q xs) (λ q. all_performed untypeds q ys)

pub all-calls : (untypeds : ℕ) (p : Progress) (cs : List LoaderCall) → all_performed untypeds p (map Calls cs) ≡ called p cs
all-calls untypeds p [] = refl
all-calls untypeds p (c ∷ cs) = ap (λ (next : Progress → Result Progress BootFault). counted p.calls (made p.state c) >>= next)
    (λ i q. all-calls untypeds q cs i)

-- ---- a section more was done, or this one failed

pub then-done : (untypeds : ℕ) (xs ys : List Operation) (total : Result Progress BootFault) (p q : Progress) → total ≡ all_performed untypeds p (xs ++ ys)
    → all_performed untypeds p xs ≡ Ok q → total ≡ all_performed untypeds q ys
then-done untypeds xs ys total p q whole passed = whole ∙ all-append untypeds p xs ys
    ∙ ap (λ (r : Result Progress BootFault). r >>= λ q. all_performed untypeds q ys) passed

pub then-failed : (untypeds : ℕ) (xs ys : List Operation) (total : Result Progress BootFault) (p : Progress) (fault : BootFault) →
    total ≡ all_performed untypeds p (xs ++ ys)
    → all_performed untypeds p xs ≡ Err fault → total ≡ Err fault
then-failed untypeds xs ys total p fault whole failed = whole ∙ all-append untypeds p xs ys
    ∙ ap (λ (r : Result Progress BootFault). r >>= λ q. all_performed untypeds q ys) failed

pub both-ok : (untypeds : ℕ) (xs ys : List Operation) (p p1 p2 : Progress) → all_performed untypeds p xs ≡ Ok p1 → all_performed untypeds p1 ys ≡ Ok p2 →
    all_performed untypeds p (xs ++ ys) ≡ Ok p2
both-ok untypeds xs ys p p1 p2 first second = then-done untypeds xs ys _ p p1 refl first ∙ second

pub second-failed : (untypeds : ℕ) (xs ys : List Operation) (p p1 : Progress) (fault : BootFault) → all_performed untypeds p xs ≡ Ok p1 →
    all_performed untypeds p1 ys ≡ Err fault
    → all_performed untypeds p (xs ++ ys) ≡ Err fault
second-failed untypeds xs ys p p1 fault first second = then-done untypeds xs ys _ p p1 refl first ∙ second

pub first-failed : (untypeds : ℕ) (xs ys : List Operation) (p : Progress) (fault : BootFault) → all_performed untypeds p xs ≡ Err fault →
    all_performed untypeds p (xs ++ ys) ≡ Err fault
first-failed untypeds xs ys p fault failed = then-failed untypeds xs ys _ p fault refl failed

pub second-leaves : {A : Type 0} (untypeds : ℕ) (xs ys : List Operation) (p p1 q : Progress) (r : Result A BootFault) → all_performed untypeds p xs ≡ Ok p1
    → GivesState (all_performed untypeds p1 ys) r q → GivesState (all_performed untypeds p (xs ++ ys)) r q
second-leaves untypeds xs ys p p1 q r first second =
    subst (λ (d : Result Progress BootFault). GivesState d r q) (sym (then-done untypeds xs ys _ p p1 refl first)) second

-- ---- the whole

pub booted-misplaced : (image : Image) (number : ℕ) → misplaced image ≡ Some number → booted image ≡ Err (Outside number)
unfolding booted
booted-misplaced image number is = ap (λ (o : Option ℕ). boots_unless o image) is

pub booted-runs : (image : Image) (s : State) → misplaced image ≡ None → s ≡ boot_area image.header.memory_bits image.header.boot_radix
    → booted image ≡ state_after (all_performed image.header.untypeds (record { calls = 0; state = s }) (operations image))
unfolding booted
booted-runs image s none fresh =
    ap (λ (o : Option ℕ). boots_unless o image) none ∙ ap (λ (t : State). run_from image 0 t (operations image)) (sym fresh) ∙ runs image (operations image) 0 s
