-- A message is sent where the rights allow it and it keeps what is promised.
use Rattle.std.proofs.Common.{ℕ, ◌≡◌, ◌∙◌, Bool, true, false, Option, Some, Result, Ok, Err, sym, ap}
use Rattle.model.specs.Acceptance.CallRules.{AfterCall, after_message, demand, known, may_send, promise_rule, sends_message}
use Rattle.model.specs.Acceptance.NotedStates.{PointState}
use Rattle.model.specs.Acceptance.Promises.{keeps_promise}
use Rattle.model.specs.Images.Format.{◌>>=◌}
use Rattle.model.specs.Images.Image.{ImagePromise}
use Rattle.model.specs.Kernel.Messages.{a1}
use Rattle.model.specs.declared.system_calls.SendCall.{SendCall}
use Rattle.model.specs.declared.refusals.Point.{Point}
use Rattle.model.specs.declared.refusals.Refusal.{Refusal}
use Rattle.model.specs.declared.refusals.Refusal.TheVariants.{CapNotThere, PromiseNotKept}
use Rattle.model.specs.declared.rights.Rights.{Rights}

module _ (at : Point) (state : PointState) (badge : ℕ) where
  -- ---- what is promised

  module _ (p : ImagePromise) where
    abbrev judged : Result ℕ Refusal → Result (Unit {0}) Refusal
    judged info = info >>= (λ word. demand (keeps_promise state.ranges word badge p) (PromiseNotKept at))

    pub info-unknown : (refusal : Refusal) → known at state a1 ≡ Err refusal → Err refusal ≡ promise_rule at state badge (Some p)
    info-unknown refusal is = sym (ap judged is)

    pub promise-judged : (info : ℕ) (keeps : Bool) → known at state a1 ≡ Ok info → keeps_promise state.ranges info badge p ≡ keeps
        → demand keeps (PromiseNotKept at) ≡ promise_rule at state badge (Some p)
    promise-judged info keeps is same = sym (ap judged is ∙ ap (λ b. demand b (PromiseNotKept at)) same)

  -- ---- the whole

  module _ (kind : SendCall) (r : Rights) (promise : Option ImagePromise) where
    abbrev sent : Result (Unit {0}) Refusal → Result (Unit {0}) Refusal → Result AfterCall Refusal
    sent allowed kept = allowed >>= (λ _. kept >>= (λ _. Ok (after_message state kind)))

    pub not-allowed : may_send kind r ≡ false → Err (CapNotThere at) ≡ sends_message at state kind r badge promise
    not-allowed is = sym (ap (λ b. sent (demand b (CapNotThere at)) (promise_rule at state badge promise)) is)

    pub allowed : may_send kind r ≡ true → (kept : Result (Unit {0}) Refusal) → kept ≡ promise_rule at state badge promise
        → kept >>= (λ _. Ok (after_message state kind)) ≡ sends_message at state kind r badge promise
    allowed is kept same = ap (λ rule. rule >>= (λ _. Ok (after_message state kind))) same
        ∙ sym (ap (λ b. sent (demand b (CapNotThere at)) (promise_rule at state badge promise)) is)
