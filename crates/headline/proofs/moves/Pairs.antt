-- A step that changes one queue and moves two threads.
use Rattle.std.proofs.Common.{ℕ, ◌≡◌, ◌≢◌, ◌∙◌, ◌==◌, ◌⊎◌, inl, inr, Bool, true, false, ◌||◌, Some, List, sym, ap, subst}
use Rattle.std.specs.Prelude.{Contains}
use Rattle.std.proofs.lemmas.Bool.Decides.{eqb_tells}
use Rattle.std.proofs.lemmas.Bool.{eqb-true, eqb-false}
use Rattle.headline.specs.facts.Standing.{AllStand}
use Rattle.headline.specs.facts.Waiting.{WaitsAsAsked}
use Rattle.model.specs.declared.labels.Label.{Label}
use Rattle.model.specs.Acceptance.Accepted.{IsAccepted}
use Rattle.headline.specs.moves.Ground.{SameGround}
use Rattle.model.specs.Acceptance.ThreadInvariants.{ThreadInvariant, tcb_of}
use Rattle.model.specs.Images.Described.{Numbered, numbered_threads}
use Rattle.model.specs.Images.Image.{Image}
use Rattle.model.specs.Kernel.Soundness.{IsSound}
use Rattle.model.specs.Kernel.State.{State, Object, ThreadObject, ThreadState}
use Rattle.model.specs.Kernel.Waits.{open_count}
use Rattle.headline.proofs.moves.Calling.{NoThread, QueueChanges, QueuesOn, rest-by-queue}
use Rattle.headline.specs.moves.Laws.{Laws}
use Rattle.headline.proofs.moves.Standing.{all-stand}

-- one of two places
either-place : (a b y : ℕ) → ((y == a) || (y == b)) ≡ true → (y ≡ a) ⊎ (y ≡ b)
either-place a b y is = elim (eqb_tells y a) [
  | inl same ↦ inl same.1
  | inr other ↦ inr (eqb-true y b (ap (λ c. c || (y == b)) (sym other.0) ∙ is))
]

neither-place : (a b y : ℕ) → ((y == a) || (y == b)) ≡ false → (y ≢ a) × (y ≢ b)
neither-place a b y is = elim (eqb_tells y a) [
  | inl same ↦ absurd (let clash : true ≡ false = ap (λ c. c || (y == b)) (sym same.0) ∙ is in cc)
  | inr other ↦ (other.1, eqb-false y b (ap (λ c. c || (y == b)) (sym other.0) ∙ is))
]

module _ (laws : Laws) (bytes : List ℕ) (image : Image) (s : State) (labels later : List Label) (accepted : IsAccepted bytes image)
    (all : AllStand image s labels)
    (after : State) (sound : IsSound after) (store : SameGround image s after) (t : Numbered) (listed : Contains (numbered_threads image) t) (u : Numbered)
    (among : Contains (numbered_threads image) u)
    (from : ℕ) (is_from : from ≡ tcb_of image u) (counts : (thread : ℕ) → thread ≢ tcb_of image t → open_count thread later ≡ open_count thread labels)
    (queue : ℕ) (old new : Object) (was : s.objects queue ≡ Some old) (is : after.objects queue ≡ Some new) (old_none : NoThread old) (new_none : NoThread new)
    (next gone : ThreadState) (own_is : after.objects (tcb_of image t) ≡ Some (ThreadObject next)) (from_is : after.objects from ≡ Some (ThreadObject gone))
    (others : (y : ℕ) → y ≢ queue → y ≢ tcb_of image t → y ≢ from → after.objects y ≡ s.objects y)
    (queues : (thread : ℕ) → thread ≢ tcb_of image t → thread ≢ from → QueuesOn old new thread) where
  abbrev moves : ℕ → Bool
  moves y = (y == tcb_of image t) || (y == from)

  changes : QueueChanges s after queue old new moves
  changes = record {
    was = was;
    is = is;
    old_none = old_none;
    new_none = new_none;
    others = λ y other rests. let beside = neither-place (tcb_of image t) from y rests in others y other beside.0 beside.1;
    moved = λ y move. elim (either-place (tcb_of image t) from y move)
        [ inl at ↦ (next, ap after.objects at ∙ own_is) | inr at ↦ (gone, ap after.objects at ∙ from_is) ];
    queues = λ thread rests. let beside = neither-place (tcb_of image t) from thread rests in queues thread beside.0 beside.1;
  }

  pub two-move : ThreadInvariant image t after later × WaitsAsAsked image t after → ThreadInvariant image u after later × WaitsAsAsked image u after →
      AllStand image after later
  two-move own_stands from_stands =
      all-stand laws.stand_on bytes image s after labels later moves accepted all sound store (rest-by-queue s after queue old new moves changes)
      (λ v there move. elim (either-place (tcb_of image t) from (tcb_of image v) move) [
        | inl at ↦ subst (λ w. ThreadInvariant image w after later × WaitsAsAsked image w after)
            (laws.own_blocks bytes image t v accepted listed there (sym at)) own_stands
        | inr at ↦ subst (λ w. ThreadInvariant image w after later × WaitsAsAsked image w after)
            (laws.own_blocks bytes image u v accepted among there (sym is_from ∙ sym at)) from_stands
      ])
      (λ offset own move there. elim (either-place (tcb_of image t) from offset move) [
        | inl at ↦ record { thread = t; listed = listed; is = at }
        | inr at ↦ record { thread = u; listed = among; is = at ∙ is_from }
      ])
      (λ v there rests. counts (tcb_of image v) (neither-place (tcb_of image t) from (tcb_of image v) rests).0)
