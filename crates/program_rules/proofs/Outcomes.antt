-- What is answered, and what holds where a result is no error.
use Rattle.std.proofs.Common.{◌≡◌, inl, inr, IfOk, Option, Result, Ok, Err, sym, subst}
use Rattle.std.specs.Result.{IsErrAnd, result_err}
use Rattle.model.specs.declared.refusals.Refusal.TheVariants.{OutOfMemory}
use Rattle.model.specs.declared.refusals.Refusal.{Refusal}
use Rattle.wellformed.specs.Answering.{Answers}

-- what holds in any case
pub always : {A E : Type 0} (P : Type 0) (r : Result A E) → P → IfOk r (λ _. P)
always P (Ok x) holds = holds
always P (Err e) holds = tt

-- what follows from what holds
pub follows-from : {A E : Type 0} (P Q : A → Type 0) (r : Result A E) → ((x : A) → P x → Q x) → IfOk r P → IfOk r Q
follows-from P Q (Ok x) leads holds = leads x holds
follows-from P Q (Err e) leads holds = tt

-- ---- what is told

-- what a check tells that takes no memory
pub told : (breach : Option Refusal) (result : Result (Unit {0}) Refusal) → result_err result ≡ breach → Answers breach result
told breach (Ok x) is = sym is
told breach (Err refusal) is = inr (sym is)

-- what a `?` passes on
pub passed-on : (breach : Option Refusal) (result : Result (Unit {0}) Refusal) (refusal : Refusal) → IsErrAnd result (λ g. g ≡ refusal) →
    Answers breach (Err refusal) → Answers breach result
passed-on breach (Ok x) refusal is answers = absurd is
passed-on breach (Err other) refusal is answers = subst (λ (r : Refusal). Answers breach (Err r)) (sym is) answers

-- where it passes on that memory was refused
pub no-memory : (breach : Option Refusal) (result : Result (Unit {0}) Refusal) → IsErrAnd result (λ g. g ≡ OutOfMemory) → Answers breach result
no-memory breach (Ok x) is = absurd is
no-memory breach (Err refusal) is = inl is
