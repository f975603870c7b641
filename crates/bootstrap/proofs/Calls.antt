-- Calls one after another: what is left leaves what all leave.
use Rattle.std.proofs.Common.{◌≡◌, ◌∙◌, List, [], ◌∷◌, ◌++◌, Result, Ok, Err, refl, sym, ap, subst}
use Rattle.model.specs.declared.boot_faults.BootFault.{BootFault}
use Rattle.model.specs.Images.Boot.{made}
use Rattle.model.specs.Images.BootCalls.{LoaderCall}
use Rattle.bootstrap.specs.Loading.{Progress, ◌>>=◌, called, counted}
use Rattle.model.specs.Kernel.Outcomes.{GivesState}

pub bind-bind : (r : Result Progress BootFault) (f g : Progress → Result Progress BootFault) → (r >>= λ q. (f q >>= g)) ≡ ((r >>= f) >>= g)
bind-bind (Ok p) f g = refl
bind-bind (Err e) f g = refl

pub called-append : (p : Progress) (xs ys : List LoaderCall) → called p (xs ++ ys) ≡ (called p xs >>= λ q. called q ys)
called-append p [] ys = refl
called-append p (x ∷ xs) ys =
    let one = counted p.calls (made p.state x) in
    ap (λ (next : Progress → Result Progress BootFault). one >>= next) (λ i q. called-append q xs ys i) ∙ bind-bind one (λ q. called q xs) (λ q. called q ys)

-- some calls more were made
pub more : (before behind cs : List LoaderCall) (total : Result Progress BootFault) (p q : Progress) → before ≡ cs ++ behind → total ≡ called p before
    → called p cs ≡ Ok q → total ≡ called q behind
more before behind cs total p q parts so_far passed =
    so_far ∙ ap (called p) parts ∙ called-append p cs behind ∙ ap (λ (r : Result Progress BootFault). r >>= λ q. called q behind) passed

-- one of them failed
pub fails : (before behind cs : List LoaderCall) (total : Result Progress BootFault) (p : Progress) (fault : BootFault) → before ≡ cs ++ behind
    → total ≡ called p before → called p cs ≡ Err fault → total ≡ Err fault
fails before behind cs total p fault parts so_far failed =
    so_far ∙ ap (called p) parts ∙ called-append p cs behind ∙ ap (λ (r : Result Progress BootFault). r >>= λ q. called q behind) failed

-- none is left
pub done : (before : List LoaderCall) (total : Result Progress BootFault) (p : Progress) → before ≡ [] → total ≡ called p before → total ≡ Ok p
done before total p none so_far = so_far ∙ ap (called p) none

-- ---- what a function answers

pub leaves-more : {A : Type 0} (cs behind : List LoaderCall) (p p1 q : Progress) (r : Result A BootFault) → called p cs ≡ Ok p1
    → GivesState (called p1 behind) r q → GivesState (called p (cs ++ behind)) r q
leaves-more cs behind p p1 q r passed left =
    let whole : called p (cs ++ behind) ≡ called p1 behind = called-append p cs behind
    ∙ ap (λ (d : Result Progress BootFault). d >>= λ q. called q behind) passed in
    subst (λ (d : Result Progress BootFault). GivesState d r q) (sym whole) left

pub calls-fail : (cs behind : List LoaderCall) (p : Progress) (fault : BootFault) → called p cs ≡ Err fault → called p (cs ++ behind) ≡ Err fault
calls-fail cs behind p fault failed = called-append p cs behind ∙ ap (λ (d : Result Progress BootFault). d >>= λ q. called q behind) failed

pub then-ok : (xs ys : List LoaderCall) (p p1 p2 : Progress) → called p xs ≡ Ok p1 → called p1 ys ≡ Ok p2 → called p (xs ++ ys) ≡ Ok p2
then-ok xs ys p p1 p2 first second = called-append p xs ys ∙ ap (λ (d : Result Progress BootFault). d >>= λ q. called q ys) first ∙ second

pub then-err : (xs ys : List LoaderCall) (p p1 : Progress) (fault : BootFault) → called p xs ≡ Ok p1 → called p1 ys ≡ Err fault →
    called p (xs ++ ys) ≡ Err fault
then-err xs ys p p1 fault first second = called-append p xs ys ∙ ap (λ (d : Result Progress BootFault). d >>= λ q. called q ys) first ∙ second
