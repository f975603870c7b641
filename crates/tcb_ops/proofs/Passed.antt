-- What passes the checks of a call on a thread is sound, with the slots and the memory that were there.
use Rattle.std.proofs.Common.{ℕ, ◌≡◌, ◌^◌, ◌<◌, ◌≤◌, ◌==◌, ◌%◌, ◌||◌, not, nat_le, Option, Some, Ok, ap, subst}
use Rattle.std.proofs.lemmas.Bool.{le-leb}
use Rattle.model.specs.Kernel.Arguments.{◌>>=◌, check}
use Rattle.model.specs.Kernel.Kinds.{kind_at}
use Rattle.model.specs.Kernel.Retype.{NewThread}
use Rattle.model.specs.Kernel.Soundness.{IsSound}
use Rattle.model.specs.Kernel.State.{State}
use Rattle.model.specs.Kernel.ThreadCalls.{is_caller, set_priority, set_register, with_priority, with_register}
use Rattle.model.specs.declared.errors.KError.TheVariants.{AlignmentError, IllegalOperation, RangeError}
use Rattle.soundness.proofs.Laws.{passes-both, set_priority-whole, set_register-whole, with_priority-machine, with_register-machine}
use Rattle.soundness.specs.Machines.{SameBase}

pub record Keeps (s t : State) : Type 0 where
  pub sound : IsSound t
  pub base : SameBase s t

pub priority-keeps : (s : State) (thread priority : ℕ) → IsSound s → kind_at s thread ≡ Some NewThread → priority ≤ 255 →
    Keeps s (with_priority s thread priority)
priority-keeps s thread priority sound there few =
    let is : set_priority s thread priority ≡ Ok (with_priority s thread priority) =
    ap (λ b. check b RangeError >>= λ _. Ok (with_priority s thread priority)) (le-leb priority 255 few) in
    record { sound = set_priority-whole s sound thread there (with_priority s thread priority) priority is; base = with_priority-machine s thread priority }

pub register-keeps : (s t : State) (caller : Option ℕ) (thread index value : ℕ) → IsSound s → kind_at s thread ≡ Some NewThread → value < 2 ^ 32
    → set_register s caller thread index value ≡ Ok t → Keeps s t
register-keeps s t caller thread index value sound there small is =
    let one = passes-both (check (not (is_caller caller thread)) IllegalOperation) _ t is in
    let two = passes-both (check (nat_le index 31) RangeError) _ t one.rest in
    let three = passes-both (check (not (index == 0) || value % 4 == 0) AlignmentError) _ t two.rest in
    let e : with_register s thread index value ≡ t = cc three.rest in
    record {
      sound = set_register-whole s sound thread there t caller index value small is;
      base = subst (SameBase s) e (with_register-machine s thread index value);
    }
