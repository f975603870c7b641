-- A step that makes no system call goes along an edge, which the weights pay for.
use Rattle.std.proofs.Common.{ℕ, ◌≡◌, ◌∙◌, ◌+◌, ◌≤◌, ◌++◌, true, Some, List, [], ◌∷◌, sym, subst}
use Rattle.std.specs.Prelude.{Contains}
use Rattle.std.proofs.lemmas.Bool.{leb-true}
use Rattle.model.specs.declared.events.Event.{Event}
use Rattle.model.specs.declared.events.Event.TheVariants.{Step}
use Rattle.model.specs.declared.labels.Label.{Label}
use Rattle.model.specs.declared.labels.Label.TheVariants.{Ran}
use Rattle.model.specs.declared.labels.Outcome.TheVariants.{Plain}
use Rattle.model.specs.Acceptance.ThreadInvariants.{tcb_of}
use Rattle.model.specs.Images.Described.{Numbered, described, numbered_threads}
use Rattle.model.specs.Images.Image.{Image}
use Rattle.model.specs.Kernel.Scheduling.{current}
use Rattle.model.specs.Kernel.State.{State}
use Rattle.model.specs.Kernel.Steps.{memory_base, registers_of, state_after, step, trace}
use Rattle.model.specs.Kernel.Waits.{open_count}
use Rattle.headline.proofs.Laws.{IsGiven, RunsAlong, goes-along, state-next, trace-next}
use Rattle.headline.specs.facts.Standing.{AllStand}
use Rattle.headline.specs.steps.Points.{ReachesNoCall}
use Rattle.response.specs.Asking.{Asked}
use Rattle.response.specs.Left.{left}
use Rattle.response.specs.Levels.{is_of_level}
use Rattle.response.specs.Weights.{Pays, Weights, pays_for}
use Rattle.response.proofs.PlainPoints.{asks-none}
use Rattle.response.proofs.PlainWork.{plain-falls}

module _ (image : Image) (priority : ℕ) (w : Weights) (pays : Pays image priority w) (events : List Event) (t : Numbered) (g : IsGiven image t)
    (listed : Contains (numbered_threads image) t) (level : is_of_level priority t ≡ true) where
  abbrev s : State
  s = state_after (described image) events

  abbrev labels : List Label
  labels = trace (described image) events

  module _ (all : AllStand image (state_after (described image) events) (trace (described image) events))
      (now : current (state_after (described image) events) ≡ Some (tcb_of image t)) (free : ReachesNoCall (state_after (described image) events)
      (tcb_of image t))
      (spent : open_count (tcb_of image t) (trace (described image) events) + 1 ≤ t.thread.header.budget)
      (others : (u : Numbered) → Contains (numbered_threads image) u → tcb_of image u ≡ tcb_of image t → u ≡ t) where
    run : RunsAlong image t s
    run = goes-along image t s labels g all.sound now free (all.stand t listed)

    pub plain-paid : left image priority w (state_after (described image) (events ++ Step ∷ [])) (trace (described image) (events ++ Step ∷ [])) + 1
        ≤ left image priority w (state_after (described image) events) (trace (described image) events)
    plain-paid =
        let goes = RunsAlong.goes run in
        let stands = RunsAlong.stands run in
        let point = RunsAlong.point run in
        let still = leb-true (w.still t.number goes.next) (w.still t.number point)
        (subst (λ (a : Asked). pays_for w t.thread.header.budget (w.still t.number point) (w.still t.number goes.next) a ≡ true)
        (asks-none image t s run free)
        (pays.points t point (RunsAlong.state run) goes.next listed level stands.inside stands.known
        (record { edge = goes.edge; among = goes.among; inside = goes.inside; target = goes.target }))) in
        let falls = plain-falls image priority w s labels t listed level (RunsAlong.own run) (RunsAlong.there run)
        (RunsAlong.status run) goes.registers goes.content
        (registers_of s (tcb_of image t)).pc point goes.next stands.pc (goes.pc ∙ goes.target) still spent others in
        let one = subst (λ (x : State). left image priority w x (labels ++ Ran (memory_base + tcb_of image t) (registers_of s
        (tcb_of image t)).pc Plain ∷ []) + 1 ≤ left image priority w s labels) (sym goes.after) falls in
        let two = subst (λ (l : Label). left image priority w (step s Step).0 (labels ++ l ∷ []) + 1 ≤ left image priority w s labels) (sym goes.label) one in
        let three = subst (λ (x : State). left image priority w x (labels ++ (step s Step).1 ∷ []) + 1 ≤ left image priority w s labels)
        (sym (state-next (described image) events Step)) two in
        subst (λ (l : List Label). left image priority w (state_after (described image) (events ++ Step ∷ [])) l + 1 ≤ left image priority w s labels)
        (sym (trace-next (described image) events Step)) three
