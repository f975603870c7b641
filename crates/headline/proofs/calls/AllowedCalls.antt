-- The rule on system calls is kept at each point with a state, so what is known after the call is there.
use Rattle.std.proofs.Common.{ℕ, ◌≡◌, ◌<◌, Bool, false, if◌then◌else◌, List, Option, Some, None, Result, Ok, Err, refl, ap, subst, arith}
use Rattle.std.specs.Prelude.{Contains}
use Rattle.headline.proofs.facts.Laws.{state-kept}
use Rattle.headline.specs.calls.Known.{IsAllowed}
use Rattle.model.specs.declared.instructions.Instr.{Instr}
use Rattle.model.specs.declared.instructions.Instr.TheVariants.{Ecall}
use Rattle.model.specs.declared.refusals.Refusal.{Refusal}
use Rattle.model.specs.Acceptance.Accepted.{AreKept, IsAccepted}
use Rattle.model.specs.Acceptance.CallRules.{AfterCall, after_call}
use Rattle.model.specs.Acceptance.NotedStates.{PointState, has_stray_slots}
use Rattle.model.specs.Acceptance.PointRules.{call_rule, refused_call, state_rules}
use Rattle.model.specs.Acceptance.PointStates.{Known, call_at, instruction_at, noted, point_of}
use Rattle.model.specs.Acceptance.Rules.{Rule}
use Rattle.model.specs.Images.Described.{Numbered, numbered_threads}
use Rattle.model.specs.Images.Image.{Image}
use Rattle.headline.proofs.calls.CallsBehind.{point-at}

call-kept : (image : Image) (t : Numbered) (point : ℕ) (state : PointState) → AreKept (state_rules image t point state)
    → call_rule image t point state (instruction_at t.thread point) ≡ None
unfolding state_rules
call-kept image t point state kept = kept 5 None (omega arith)

-- a call that is looked at, and not refused
allowed-at : (image : Image) (t : Numbered) (point : ℕ) (state : PointState) (result : Result AfterCall Refusal) →
    after_call image t.thread (point_of t point) state ≡ result
    → call_at image t point state ≡ Some result → refused_call (Some result) ≡ None → IsAllowed image t point state
allowed-at image t point state (Ok left) is at kept = record { left = left; at = at; is = is }
allowed-at image t point state (Err refusal) is at kept = absurd (let clash : ◌≡◌ {A = Rule} (Some refusal) None = kept in cc)

looked-at : (image : Image) (t : Numbered) (point : ℕ) (state : PointState) → has_stray_slots image t.thread point state ≡ false
    → call_at image t point state ≡ Some (after_call image t.thread (point_of t point) state)
unfolding call_at
looked-at image t point state own =
    ap (λ (b : Bool). if b then None else Some (after_call image t.thread (point_of t point) state)) own

pub call-allowed : (bytes : List ℕ) (image : Image) (t : Numbered) (point : ℕ) (state : PointState) → IsAccepted bytes image →
    Contains (numbered_threads image) t
    → point < t.thread.header.words → noted image t point ≡ Known state → instruction_at t.thread point ≡ Some Ecall → IsAllowed image t point state
call-allowed bytes image t point state accepted listed inside known is =
    let looked = looked-at image t point state (point-at bytes image t accepted listed point state inside known).own in
    let kept = call-kept image t point state (state-kept image t point state accepted.programs listed inside known) in
    let refused : refused_call (call_at image t point state) ≡ None = subst (λ (o : Option Instr). call_rule image t point state o ≡ None) is kept in
    allowed-at image t point state (after_call image t.thread (point_of t point) state) refl looked
    (subst (λ (o : Option (Result AfterCall Refusal)). refused_call o ≡ None) looked refused)
