-- The thread is at a point whose rules are kept, and takes one of its edges.
use Rattle.std.proofs.Common.{ℕ, ◌≡◌, ◌++◌, List, [], ◌∷◌, Some, sym, subst}
use Rattle.std.specs.Prelude.{Contains, false}
use Rattle.soundness.proofs.Laws.{described-sound, events-whole, instructions-keep}
use Rattle.headline.proofs.measure_facts.Laws.{noted-named}
use Rattle.model.specs.declared.events.Event.{Event}
use Rattle.model.specs.declared.events.Event.TheVariants.{Step}
use Rattle.model.specs.declared.labels.Label.{Label}
use Rattle.model.specs.Acceptance.Accepted.{IsAccepted}
use Rattle.model.specs.Acceptance.ThreadInvariants.{ThreadInvariant, tcb_of}
use Rattle.model.specs.Images.Described.{Numbered, described, numbered_threads}
use Rattle.model.specs.Images.Image.{Image}
use Rattle.model.specs.Kernel.Scheduling.{current}
use Rattle.model.specs.Kernel.State.{State}
use Rattle.model.specs.Kernel.Steps.{state_after, step, trace}
use Rattle.model.specs.Kernel.Waits.{is_fault}
use Rattle.headline.specs.steps.Points.{ReachesNoCall}
use Rattle.headline.proofs.steps.Budgets.{state-next, trace-next}
use Rattle.headline.proofs.steps.GivenThreads.{IsGiven, given}
use Rattle.headline.proofs.steps.PlainSteps.{plain-keeps}
use Rattle.headline.proofs.steps.step_laws.plain_steps_keep_threads.Goals as goal

is-given : (bytes : List ℕ) (image : Image) (t : Numbered) → IsAccepted bytes image → Contains (numbered_threads image) t → IsGiven image t
is-given bytes image t accepted listed = given bytes image t (λ k point state. noted-named image k t point state accepted.spelled.fits) accepted listed

module _ (bytes : List ℕ) (image : Image) (events : List Event) (t : Numbered) (accepted : IsAccepted bytes image)
    (listed : Contains (numbered_threads image) t)
    (invariant : ThreadInvariant image t (state_after (described image) events) (trace (described image) events))
    (now : current (state_after (described image) events) ≡ Some (tcb_of image t))
    (free : ReachesNoCall (state_after (described image) events) (tcb_of image t)) where
  abbrev s : State
  s = state_after (described image) events

  abbrev labels : List Label
  labels = trace (described image) events

  behind : (is_fault (step s Step).1 ≡ false) × ThreadInvariant image t (step s Step).0 (labels ++ (step s Step).1 ∷ [])
  behind =
      let sound = events-whole instructions-keep (described image) events (described-sound image accepted.spelled.fits accepted.formed) in
      plain-keeps image t s labels (is-given bytes image t accepted listed) sound now free invariant

  one-more : ThreadInvariant image t (state_after (described image) (events ++ Step ∷ [])) (trace (described image) (events ++ Step ∷ []))
  one-more =
      subst (λ (after : State). ThreadInvariant image t after (trace (described image) (events ++ Step ∷ []))) (sym (state-next (described image) events Step))
      (subst (λ (more : List Label). ThreadInvariant image t (step s Step).0 more) (sym (trace-next (described image) events Step)) behind.1)

pub returns : goal.returns
returns c = record {
  any_state = λ bytes image t s labels accepted listed sound invariant now free.
      plain-keeps image t s labels (is-given bytes image t accepted listed) sound now free invariant;
  behind_events = λ bytes image events t accepted listed invariant now free. behind bytes image events t accepted listed invariant now free;
  one_event_more = λ bytes image events t accepted listed invariant now free. one-more bytes image events t accepted listed invariant now free;
}
