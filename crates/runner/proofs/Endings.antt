-- What is known of a run by its end: after its lines it has no other fault than that of its sink, and before them not this one.
use Rattle.std.proofs.Common.{ℕ, ◌≡◌, ◌≢◌, ◌∙◌, Option, Some, None, Result, Ok, Err, refl, subst, sym}
use Rattle.std.specs.Prelude.{IfErr, IfOk, IfSome, OnErr, OnOk}
use Rattle.model.specs.declared.boot_faults.BootFault.{BootFault}
use Rattle.model.specs.declared.boot_faults.BootFault.TheVariants as boot_faults
use Rattle.model.specs.declared.refusals.Refusal.{Refusal}
use Rattle.model.specs.declared.refusals.Refusal.TheVariants as refusals
use Rattle.model.specs.Images.Image.{Image}
use Rattle.runner.specs.Running.{boot_fault_of, fault_of}
use Rattle.runner.specs.declared.running.RunFault.{RunFault}
use Rattle.runner.specs.declared.running.RunFault.TheVariants.{Boot, Output, OutOfMemory, Outside, Refused}

-- what an answer without a fault says, said otherwise
pub on-ok : {T E : Type 0} (r : Result T E) (P Q : Type 0) → (P → Q) → OnOk r P → OnOk r Q
on-ok (Ok x) P Q says p = says p
on-ok (Err fault) P Q says p = tt

-- what an answer with a fault says
pub of-err : {T : Type 0} (r : Result T RunFault) (fault : RunFault) (P : Type 0) → OnErr r P → r ≡ Err fault → P
of-err {T} r fault P told is = subst (λ (x : Result T RunFault). OnErr x P) is told

-- the one fault that there may be
pub is-output : {T : Type 0} (r : Result T RunFault) (fault : RunFault) → IfErr r (λ (other : RunFault). other ≡ Output) → r ≡ Err fault → fault ≡ Output
is-output {T} r fault only is = subst (λ (x : Result T RunFault). IfErr x (λ (other : RunFault). other ≡ Output)) is only

-- ---- before the lines

-- an answer has one fault
pub fault-is : {T : Type 0} (r : Result T RunFault) (fault told other : RunFault) → r ≡ Err fault → fault ≡ told → r ≡ Err other → told ≡ other
fault-is {T} r fault told other is same also =
    let both : ◌≡◌ {A = Result T RunFault} (Err fault) (Err other) = sym is ∙ also in
    let one : fault ≡ other = cc both in
    sym same ∙ one

-- what a refusal is not reported as
pub record RefusalTells (refusal : Refusal) : Type 0 where
  pub no-output : fault_of refusal ≢ Output
  pub no-boot : (fault : BootFault) → fault_of refusal ≢ Boot fault
  pub no-outside : (index : ℕ) → fault_of refusal ≢ Outside index
  pub no-want : fault_of refusal ≢ Refused refusals.OutOfMemory

want-tells : RefusalTells refusals.OutOfMemory
want-tells = record {
  no-output = λ is. let clash : OutOfMemory ≡ Output = is in cc;
  no-boot = λ fault is. let clash : OutOfMemory ≡ Boot fault = is in cc;
  no-outside = λ index is. let clash : OutOfMemory ≡ Outside index = is in cc;
  no-want = λ is. let clash : OutOfMemory ≡ Refused refusals.OutOfMemory = is in cc;
}

other-tells : (refusal : Refusal) → refusal ≢ refusals.OutOfMemory → fault_of refusal ≡ Refused refusal → RefusalTells refusal
other-tells refusal other as-refused = record {
  no-output = λ is. let clash : Refused refusal ≡ Output = sym as-refused ∙ is in cc;
  no-boot = λ fault is. let clash : Refused refusal ≡ Boot fault = sym as-refused ∙ is in cc;
  no-outside = λ index is. let clash : Refused refusal ≡ Outside index = sym as-refused ∙ is in cc;
  no-want = λ is.
      let same : Refused refusal ≡ Refused refusals.OutOfMemory = sym as-refused ∙ is in
      let want : refusal ≡ refusals.OutOfMemory = cc same in
      other want;
}

pub refusal-tells : (refusal : Refusal) → RefusalTells refusal
refusal-tells refusals.OutOfMemory = want-tells
refusal-tells refusal = other-tells refusal (λ is. cc is) refl

-- what a fault of booting is not reported as
pub record BootTells (fault : BootFault) : Type 0 where
  pub no-output : boot_fault_of fault ≢ Output
  pub no-refusal : (refusal : Refusal) → boot_fault_of fault ≢ Refused refusal
  pub no-outside : (index : ℕ) → boot_fault_of fault ≢ Outside index
  pub no-want : boot_fault_of fault ≢ Boot boot_faults.OutOfMemory

no-memory-tells : BootTells boot_faults.OutOfMemory
no-memory-tells = record {
  no-output = λ is. let clash : OutOfMemory ≡ Output = is in cc;
  no-refusal = λ refusal is. let clash : OutOfMemory ≡ Refused refusal = is in cc;
  no-outside = λ index is. let clash : OutOfMemory ≡ Outside index = is in cc;
  no-want = λ is. let clash : OutOfMemory ≡ Boot boot_faults.OutOfMemory = is in cc;
}

fault-tells : (fault : BootFault) → fault ≢ boot_faults.OutOfMemory → boot_fault_of fault ≡ Boot fault → BootTells fault
fault-tells fault other as-boot = record {
  no-output = λ is. let clash : Boot fault ≡ Output = sym as-boot ∙ is in cc;
  no-refusal = λ refusal is. let clash : Boot fault ≡ Refused refusal = sym as-boot ∙ is in cc;
  no-outside = λ index is. let clash : Boot fault ≡ Outside index = sym as-boot ∙ is in cc;
  no-want = λ is. let same : Boot fault ≡ Boot boot_faults.OutOfMemory = sym as-boot ∙ is in let want : fault ≡ boot_faults.OutOfMemory = cc same in other want;
}

pub boot-tells : (fault : BootFault) → BootTells fault
boot-tells boot_faults.OutOfMemory = no-memory-tells
boot-tells fault = fault-tells fault (λ is. cc is) refl

-- ---- an event that is outside

-- an answer has one index
pub same-index : {T : Type 0} (here index : ℕ) → ◌≡◌ {A = Result T RunFault} (Err (Outside here)) (Err (Outside index)) → here ≡ index
same-index {T} here index is =
    let one : Outside here ≡ Outside index = cc is in
    let same : here ≡ index = cc one in
    same

-- what holds of the image that is read, or where none is
pub of-read : (r : Result Image Refusal) (image : Image) (P : Image → Type 0) → r ≡ Ok image → P image → IfOk r P
of-read r image P is holds = subst (λ (x : Result Image Refusal). IfOk x P) (sym is) holds

pub of-unread : (r : Result Image Refusal) (refusal : Refusal) (P : Image → Type 0) → r ≡ Err refusal → IfOk r P
of-unread r refusal P is = subst (λ (x : Result Image Refusal). IfOk x P) (sym is) tt

-- what holds of what is found, or where nothing is
pub of-found : (o : Option ℕ) (index : ℕ) (P : ℕ → Type 0) → o ≡ Some index → P index → IfSome o P
of-found o index P is holds = subst (λ (x : Option ℕ). IfSome x P) (sym is) holds

pub of-none : (o : Option ℕ) (P : ℕ → Type 0) → o ≡ None → IfSome o P
of-none o P is = subst (λ (x : Option ℕ). IfSome x P) (sym is) tt

-- what holds of whatever is found
pub of-each : (o : Option ℕ) (P : ℕ → Type 0) → ((index : ℕ) → P index) → IfSome o P
of-each None P holds = tt
of-each (Some index) P holds = holds index
