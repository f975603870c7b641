-- The slots of a control block are in no thread's CNodes, and the first receiver of an endpoint waits there.
use Rattle.std.proofs.Common.{ℕ, ◌≡◌, ◌∙◌, ◌-◌, ◌++◌, ◌||◌, inl, inr, Bool, true, false, cond, List, [], ◌∷◌, map, Some, None, option_map, refl, sym, ap}
use Rattle.std.specs.Prelude.{Contains, find}
use Rattle.std.specs.List.{list_any}
use Rattle.std.proofs.lemmas.Bool.{false≢true}
use Rattle.std.proofs.lemmas.Option.{none-some}
use Rattle.format_laws.proofs.Laws.{is-fitting}
use Rattle.soundness.proofs.Laws.{are-formed}
use Rattle.model.specs.Acceptance.Accepted.{IsWellFormed}
use Rattle.model.specs.Acceptance.NotedKernel.{stands_in}
use Rattle.model.specs.Acceptance.ThreadRules.{reached}
use Rattle.model.specs.Acceptance.NotedStates.{SlotKey}
use Rattle.model.specs.Acceptance.WellFormed.{is_thread_type}
use Rattle.model.specs.Images.Described.{Numbered, is_object_slot, numbered_threads}
use Rattle.model.specs.Images.Image.{Image, whole_image}
use Rattle.model.specs.Images.Places.{cnode_slot, type_at}
use Rattle.model.specs.Kernel.Soundness.{IsSound, waiting_at}
use Rattle.model.specs.Kernel.State.{EndpointObject, EndpointState, Sender, State}
use Rattle.thread_spaces.proofs.Laws.{block-not-own}
use Rattle.headline.specs.facts.Standing.{IsApart}
use Rattle.headline.proofs.Laws.{Waits, first-waits, is-listed}

-- what one passes is found
pub found-some : {A : Type 0} (f : ℕ → A) (test : ℕ → Bool) (xs : List ℕ) → option_map f (find test xs) ≡ None → list_any test xs ≡ true → ⊥
found-some f test [] none some = false≢true some
found-some f test (x ∷ xs) none some =
    elim (test x) as (λ b. test x ≡ b → option_map f (cond b (Some x) (find test xs)) ≡ None → (b || list_any test xs) ≡ true → ⊥) [
      | true ↦ λ is here later. none-some (f x) (sym here)
      | false ↦ λ is here later. found-some f test xs here later
    ] refl none some

module _ (image : Image) (fits : whole_image.fits image ≡ true) (well : IsWellFormed image) (u : Numbered) (among : Contains (numbered_threads image) u) where
  pub block-thread : is_thread_type (type_at image u.thread.header.tcb) ≡ true
  block-thread = ((are-formed image well).thread (is-listed image u among).number u.thread (is-listed image u among).listed).tcb

  pub block-apart : (slot : ℕ) → is_object_slot image slot u.thread.header.tcb ≡ true → IsApart image slot
  block-apart slot there t listed own =
      let fitting = is-fitting image fits in
      let less = (fitting.thread (is-listed image u among).number u.thread (is-listed image u among).listed).tcb in
      found-some (λ (cnode : ℕ). let key : SlotKey = record { cnode = cnode; index = slot - cnode_slot image cnode 0 } in key) (stands_in image slot)
      (reached image t.thread)
      (block-not-own image t.thread fitting (are-formed image well) (is-listed image t listed) u.thread.header.tcb slot less block-thread there) own

pub receiver-waits : (s : State) → IsSound s → (e : ℕ) (queue : EndpointState) → s.objects e ≡ Some (EndpointObject queue) → (r : ℕ) (others : List ℕ)
    → queue.receivers ≡ r ∷ others → Waits s r e
receiver-waits s sound e queue was r others list =
    let nobody : queue.senders ≡ [] = elim (sound.threads.one_sided e queue was) [
      | inl none ↦ none
      | inr none ↦ absurd (let clash : r ∷ others ≡ [] = sym list ∙ none in cc)
    ] in
    first-waits s sound e r others (ap waiting_at was ∙ ap (λ (l : List Sender). map (λ (x : Sender). x.thread) l ++ queue.receivers) nobody ∙ list)
