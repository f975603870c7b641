-- What is left in the state that an accepted image describes: the budgets of the level's threads, and what they have to set going from their entries on.
use Rattle.std.proofs.Common.{ℕ, ◌≡◌, ◌∙◌, ◌+◌, ◌-◌, ◌*◌, ◌/◌, ◌%◌, ◌^◌, ◌==◌, ◌<◌, ◌≤◌, ◌&&◌, true, false, if◌then◌else◌}
use Rattle.std.proofs.Common.{Option, Some, None, List, [], ◌∷◌, map, refl, sym, ap, arith}
use Rattle.std.specs.Prelude.{Contains, find, nat_le, option_and_then}
use Rattle.std.specs.List.{range_with_len}
use Rattle.std.specs.Option.{option_map_or}
use Rattle.model.specs.declared.entries.ThreadHeader.{ThreadHeader}
use Rattle.model.specs.Acceptance.Accepted.{IsWellFormed}
use Rattle.model.specs.Acceptance.ThreadInvariants.{tcb_of}
use Rattle.model.specs.Images.Described.{Numbered, described, described_object, first_some, listed_thread, numbered_threads, object_there, start_of}
use Rattle.model.specs.Images.Image.{Image, Thread, whole_image}
use Rattle.model.specs.Images.Places.{offset_of, type_at}
use Rattle.model.specs.Kernel.Retype.{NewObject, NewUntyped, NewThread, NewEndpoint, NewNotification, NewCNode, NewFrame, NewPageTable, NewRootTable, object}
use Rattle.model.specs.Kernel.Scheduling.{is_runnable}
use Rattle.model.specs.Kernel.State.{Object, ThreadObject, ThreadState, as_notification, as_thread, new_notification, new_thread}
use Rattle.model.specs.Kernel.State.{notification_at, thread_at}
use Rattle.model.specs.Kernel.Waits.{open_count}
use Rattle.headline.specs.starts.Laws.{ThreadsAreAsListed}
use Rattle.headline.proofs.Laws.{is-listed}
use Rattle.response.specs.Left.{irq_lines, left, left_of_line, left_of_thread, left_of_word, total}
use Rattle.response.specs.Levels.{is_of_level}
use Rattle.response.specs.Weights.{Weights}
use Rattle.responses.proofs.Lists.{and-true}
use Rattle.responses.proofs.OfThreads.{IsAt, place-is, total-from}
use Rattle.responses.specs.Checks.{left_by}
use Rattle.responses.specs.Found.{weights_at, weights_of}
use Rattle.responses.specs.Keepers.{is_high}
use Rattle.responses.specs.Outlines.{AreOutlines, place_at}
use Rattle.responses.specs.declared.outlines.Outline.{Outline}
use Rattle.responses.specs.declared.weights.Weights.{Weights as ListedWeights}
use Rattle.thread_spaces.specs.Given.{IsListed}

-- ---- no word is there, and no line is pending

abbrev word_in : Option Object → ℕ
word_in o = (option_map_or (λ n. n) (as_notification o) new_notification).word

new-word : (kind : NewObject) → word_in (object kind) ≡ 0
new-word (NewUntyped bits) = refl
new-word NewThread = refl
new-word NewEndpoint = refl
new-word NewNotification = refl
new-word (NewCNode radix) = refl
new-word NewFrame = refl
new-word NewPageTable = refl
new-word NewRootTable = refl

made-word : (kind : Option NewObject) → word_in (option_and_then object kind) ≡ 0
made-word None = refl
made-word (Some kind) = new-word kind

module _ (image : Image) where
  object-word : (number : ℕ) → word_in (described_object image number) ≡ 0
  object-word number = by-thread (find (λ t. t.header.tcb == number) image.threads)
    where
      by-thread : (found : Option Thread)
          → word_in (option_map_or (λ t. Some (ThreadObject (listed_thread t))) found (option_and_then object (type_at image number))) ≡ 0
      by-thread None = made-word (type_at image number)
      by-thread (Some t) = refl

  there-word : (offset number : ℕ) → word_in (object_there image offset number) ≡ 0
  there-word offset number =
      elim (offset_of image number == offset) as (λ b. word_in (if b then described_object image number else None) ≡ 0) [
        | true ↦ object-word number
        | false ↦ refl
      ]

  first-word : (offset : ℕ) (numbers : List ℕ) → word_in (first_some (map (object_there image offset) numbers)) ≡ 0
  first-word offset [] = refl
  first-word offset (n ∷ numbers) = by-first (object_there image offset n) (there-word offset n) (first-word offset numbers)
    where
      by-first : (o : Option Object) → word_in o ≡ 0 → word_in (first_some (map (object_there image offset) numbers)) ≡ 0
          → word_in (first_some (o ∷ map (object_there image offset) numbers)) ≡ 0
      by-first None is rest = rest
      by-first (Some x) is rest = is

  no-word : (offset : ℕ) → (notification_at (described image) offset).word ≡ 0
  unfolding described
  no-word offset = first-word offset (range_with_len 0 image.header.objects)

  nothing : {A : Type 0} (f : A → ℕ) → ((x : A) → f x ≡ 0) → (xs : List A) → total f xs ≡ 0
  nothing f none [] = refl
  nothing f none (x ∷ xs) = let here = none x in let rest = nothing f none xs in omega (arith, here, rest)

  no-words : (w : Weights) → total (left_of_word w (described image)) w.prices ≡ 0
  no-words w = nothing (left_of_word w (described image)) (λ p. ap (λ n. if n == 0 then 0 else p.price) (no-word p.object)) w.prices

  no-lines : (w : Weights) → total (left_of_line w (described image)) irq_lines ≡ 0
  unfolding described
  no-lines w = nothing (left_of_line w (described image)) (λ number. refl) irq_lines

  -- ---- threads

  module _ (fits : whole_image.fits image ≡ true) (well : IsWellFormed image) (listed_so : ThreadsAreAsListed)
      (places : (t : Thread) → IsListed image t → (t.header.base + 4 * t.header.words ≤ 2 ^ 31) × (t.header.entry < t.header.words))
      (priority : ℕ) (programs : List Outline) (are : AreOutlines image 0 image.threads programs) (listed_weights : ListedWeights) where
    abbrev w : Weights
    w = weights_at programs listed_weights

    starts-at : (t : Thread) → IsListed image t → (start_of t - t.header.base) / 4 ≡ t.header.entry
    starts-at t listed =
        let place = places t listed in
        let above = place.0 in
        let inside = place.1 in
        let small : (t.header.base + 4 * t.header.entry) % 2 ^ 32 ≡ t.header.base + 4 * t.header.entry = omega (arith, above, inside) in
        omega (arith, small)

    left-here : (t : Numbered) (p : Outline) → Contains (numbered_threads image) t → IsAt image programs t p
        → left_of_thread image priority w (described image) [] t ≡ left_by priority listed_weights p
    unfolding open_count
    left-here t p listed at =
        let own = is-listed image t listed in
        let none-off : t.thread.header.budget - 0 ≡ t.thread.header.budget = omega arith in
        let state : thread_at (described image) (tcb_of image t) ≡ listed_thread t.thread
        = ap (λ (o : Option Object). option_map_or (λ (s : ThreadState). s) (as_thread o) new_thread) (listed_so image t.thread fits well own) in
        ap (λ (s : ThreadState). if is_of_level priority t && is_runnable s.status
        then t.thread.header.budget - 0 + w.still t.number ((s.registers.pc - t.thread.header.base) / 4) else 0) state
        ∙ ap (λ n. if is_of_level priority t && true then n + w.still t.number ((start_of t.thread - t.thread.header.base) / 4) else 0) none-off
        ∙ ap (λ n. if is_of_level priority t && true then t.thread.header.budget + w.still t.number n else 0) (starts-at t.thread own)
        ∙ ap (λ b. if b then t.thread.header.budget + w.still t.number t.thread.header.entry else 0) (and-true (is_of_level priority t))
        ∙ ap (λ n. if is_of_level priority t then t.thread.header.budget + (weights_of listed_weights).still t.number n else 0)
        (place-is image programs t p at t.thread.header.entry)
        ∙ ap (λ (h : ThreadHeader). if nat_le priority h.priority then h.budget + (weights_of listed_weights).still t.number (place_at p h.entry) else 0)
        (sym at.is.header)
        ∙ ap (λ n. if is_high priority p then p.header.budget + (weights_of listed_weights).still n (place_at p p.header.entry) else 0) (sym at.is.number)

    pub left-is : left image priority w (described image) [] ≡ total (left_by priority listed_weights) programs
    unfolding left
    left-is =
        let threads = total-from image programs are (left_by priority listed_weights)
        (left_of_thread image priority w (described image) []) (λ t. Contains (numbered_threads image) t) left-here (λ t there. there) in
        let words = no-words w in
        let lines = no-lines w in
        omega (arith, threads, words, lines)
