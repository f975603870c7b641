-- A run reports the refusal of an image that cannot be read as it is.
use Rattle.std.proofs.Common.{◌≡◌, ◌∙◌, List, ℕ, Result, Ok, Err, refl, ap}
use Rattle.std.specs.Prelude.{IfErr}
use Rattle.model.specs.Images.Format.{reading}
use Rattle.model.specs.Images.Image.{Image, whole_image}
use Rattle.model.specs.declared.refusals.Refusal.{Refusal}
use Rattle.model.specs.declared.refusals.Refusal.TheVariants as refusals
use Rattle.runner.proofs.Calm.{whole_calm}
use Rattle.runner.specs.Running.{fault_of}
use Rattle.runner.specs.declared.running.RunFault.{RunFault}
use Rattle.runner.specs.declared.running.RunFault.TheVariants.{Refused}

told : (bytes : List ℕ) (refusal : Refusal) → reading whole_image bytes ≡ Err refusal → fault_of refusal ≡ Refused refusal
told bytes refusals.OutOfMemory is = absurd (whole_calm bytes is)
told bytes refusal is = refl

abbrev faulted : {T : Type 0} → RunFault → Result T RunFault
faulted fault = Err fault

tells-of : {T R : Type 0} (S : Type 0) (r : Result Image Refusal) (e : Refusal) (x : Result T RunFault) (fault : RunFault) (sink : R)
    → ((refusal : Refusal) → r ≡ Err refusal → fault_of refusal ≡ Refused refusal)
    → IfErr r (λ refusal. ◌≡◌ {A = Result S Refusal} (Err e) (Err refusal)) → x ≡ Err fault → fault ≡ fault_of e
    → IfErr r (λ refusal. (x ≡ Err (Refused refusal)) × (sink ≡ sink))
tells-of S (Ok image) e x fault sink told_as same x-is fault-is = tt
tells-of {T} {R} S (Err refusal) e x fault sink told_as same x-is fault-is =
    let one : e ≡ refusal = cc same in
    let other : fault ≡ Refused refusal = fault-is ∙ ap fault_of one ∙ told_as refusal refl in
    (x-is ∙ ap (λ (f : RunFault). faulted {T = T} f) other, refl)

pub tells : {T R : Type 0} (S : Type 0) (bytes : List ℕ) (e : Refusal) (x : Result T RunFault) (fault : RunFault) (sink : R)
    → IfErr (reading whole_image bytes) (λ refusal. ◌≡◌ {A = Result S Refusal} (Err e) (Err refusal)) → x ≡ Err fault → fault ≡ fault_of e
    → IfErr (reading whole_image bytes) (λ refusal. (x ≡ Err (Refused refusal)) × (sink ≡ sink))
tells {T} {R} S bytes e x fault sink same x-is fault-is =
    tells-of {T = T} {R = R} S (reading whole_image bytes) e x fault sink (told bytes) same x-is fault-is

alone : (r : Result Image Refusal) (P : Refusal → Type 0) (Q : Type 0) → IfErr r (λ refusal. P refusal × Q) → IfErr r P
alone (Ok image) P Q both = tt
alone (Err refusal) P Q both = both.0

-- the same of the answer alone
pub tells-alone : {T : Type 0} (S : Type 0) (bytes : List ℕ) (e : Refusal) (x : Result T RunFault) (fault : RunFault)
    → IfErr (reading whole_image bytes) (λ refusal. ◌≡◌ {A = Result S Refusal} (Err e) (Err refusal)) → x ≡ Err fault → fault ≡ fault_of e
    → IfErr (reading whole_image bytes) (λ refusal. x ≡ Err (Refused refusal))
tells-alone {T} S bytes e x fault same x-is fault-is =
    alone (reading whole_image bytes) (λ refusal. x ≡ Err (Refused refusal)) (bytes ≡ bytes)
    (tells {T = T} {R = List ℕ} S bytes e x fault bytes same x-is fault-is)

-- a refusal is the one of reading, where it was read so
pub first-told : {S : Type 0} (r : Result S Refusal) (e : Refusal) → Err e ≡ r → IfErr r (λ refusal. ◌≡◌ {A = Result S Refusal} (Err e) (Err refusal))
first-told (Ok image) e is = tt
first-told (Err refusal) e is = is
