-- What the system call at a point leaves, where no slot is stray.
use Rattle.std.proofs.Common.{ℕ, ◌≡◌, ◌∙◌, Bool, true, false, if◌then◌else◌, Some, None, List, sym, ap, subst, Vec, Global}
use Rattle.model.specs.Acceptance.CallRules.{after_call}
use Rattle.model.specs.Acceptance.Measures.{Measure}
use Rattle.model.specs.Acceptance.NotedStates.{NotedSlot, PointState, has_stray_slots}
use Rattle.model.specs.Acceptance.PointStates.{call_at, point_of}
use Rattle.model.specs.Images.Described.{Numbered}
use Rattle.model.specs.Images.Image.{Image, Thread}
use Rattle.model.specs.declared.ranges.Range.{Range}
use Rattle.program_rules.specs.Kept.{IsCleanBehind, call_of}
use Rattle.program_rules.specs.declared.space_rules.Called.TheVariants.{Leaves}
use Rattle.program_rules.specs.declared.space_rules.Called.{Called}
use Rattle.typestate.specs.Calls.{known_with}
use Rattle.typestate.specs.Strays.{NoneStray}
use Rattle.typestate.specs.declared.behind.Behind.{Behind}
use Rattle.typestate.specs.Replays.{replayed}
use Rattle.typestate.specs.declared.log_entries.LogEntry.{LogEntry}

module _ (image : Image) (t : Numbered) (point : ℕ) (state : PointState) (stray : Bool) (told : stray ≡ has_stray_slots image t.thread point state) where
  pub not-looked-at : stray ≡ true → call_at image t point state ≡ None
  unfolding call_at
  not-looked-at is = ap (λ (b : Bool). if b then None else Some (after_call image t.thread (point_of t point) state)) (sym told ∙ is)

  pub looked-at : stray ≡ false → call_at image t point state ≡ Some (after_call image t.thread (point_of t point) state)
  unfolding call_at
  looked-at is = ap (λ (b : Bool). if b then None else Some (after_call image t.thread (point_of t point) state)) (sym told ∙ is)

-- what it leaves, for the slots that it was asked with
pub call-any : (image : Image) (t : Numbered) (point : ℕ) (bounds : List Range) (m : Measure) (given all : List NotedSlot) (called : Called)
    → given ≡ all → call_at image t point (known_with bounds given m) ≡ call_of given called
    → call_at image t point (known_with bounds all m) ≡ call_of all called
call-any image t point bounds m given all called same told =
    subst (λ (slots : List NotedSlot). call_at image t point (known_with bounds slots m) ≡ call_of slots called) same told

-- what is known of the slots after it
pub clean-made : (image : Image) (t : Thread) (given all : List NotedSlot) (called : Called) (b : Behind) (made : Vec LogEntry Global) (behind : List NotedSlot)
    → given ≡ all → called ≡ Leaves b made → IsCleanBehind image t given called → behind ≡ replayed all made.items → b.is_tidy ≡ true → NoneStray image t behind
clean-made image t given all called b made behind same is clean left tidy =
    let known : IsCleanBehind image t given (Leaves b made) = subst (IsCleanBehind image t given) is clean in
    subst (NoneStray image t) (ap (λ (slots : List NotedSlot). replayed slots made.items) same ∙ sym left) (known tidy)
