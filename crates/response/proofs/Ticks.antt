-- A tick changes a slice alone, and no work hangs on slices; nor on bytes, which the world writes.
use Rattle.std.proofs.Common.{ℕ, ◌≡◌, ◌∙◌, ◌==◌, ◌+◌, ◌-◌, ◌/◌, ◌&&◌, ◌++◌, inl, inr, Bool, false, if◌then◌else◌, Option, Some, None, List, [], ◌∷◌, refl}
use Rattle.std.proofs.Common.{sym, ap}
use Rattle.std.specs.Option.{option_map_or}
use Rattle.std.proofs.lemmas.Bool.Decides.{eqb_tells}
use Rattle.model.specs.declared.capabilities.Cap.TheVariants.{Empty}
use Rattle.model.specs.declared.slot_entries.Entry.{Entry}
use Rattle.model.specs.Capabilities.Slots.{Slots, capability_at}
use Rattle.model.specs.declared.events.Event.{Event}
use Rattle.model.specs.declared.events.Event.TheVariants.{Read, Write}
use Rattle.model.specs.declared.labels.Label.{Label}
use Rattle.model.specs.declared.labels.Label.TheVariants.{Showed, Ticked, Wrote}
use Rattle.model.specs.Acceptance.ThreadInvariants.{tcb_of}
use Rattle.model.specs.Images.Described.{Numbered, described, numbered_threads}
use Rattle.model.specs.Images.Image.{Image}
use Rattle.model.specs.Kernel.Interrupts.{Signal, binding, signal_of}
use Rattle.model.specs.Kernel.Scheduling.{current, is_runnable}
use Rattle.model.specs.Kernel.Soundness.{IsSound}
use Rattle.model.specs.Kernel.State.{Object, NotificationState, State, Status, ThreadObject, ThreadState, as_notification, as_thread, new_notification}
use Rattle.model.specs.Kernel.State.{new_thread, notification_at}
use Rattle.model.specs.Kernel.State.{line_slot, thread_at}
use Rattle.model.specs.Kernel.Steps.{place_of, state_after, step, trace}
use Rattle.model.specs.Kernel.Waits.{is_of, open_count}
use Rattle.model.specs.Kernel.World.{word_seen, world_writes}
use Rattle.soundness.specs.Machines.{SameBesideBytes}
use Rattle.soundness.proofs.Laws.{current-runs, thread-kind, written-beside}
use Rattle.headline.specs.authority.Events.{WithinTick}
use Rattle.headline.proofs.Laws.{other-label, state-next, trace-next}
use Rattle.response.specs.Left.{irq_lines, left, line_price, left_of_line, left_of_thread, left_of_word, total}
use Rattle.response.specs.Levels.{is_of_level}
use Rattle.response.specs.Weights.{Price, Weights, price_of}

pub total-same : {A : Type 0} (f g : A → ℕ) (xs : List A) → ((x : A) → f x ≡ g x) → total f xs ≡ total g xs
total-same f g [] same = refl
total-same f g (x ∷ xs) same = ap (λ n. n + total f xs) (same x) ∙ ap (λ n. g x + n) (total-same f g xs same)

-- what is left hangs on statuses, pcs, open counts, words and pending lines alone
pub record SameWork (image : Image) (s after : State) (labels later : List Label) : Type 0 where
  pub status : (thread : ℕ) → (thread_at after thread).status ≡ (thread_at s thread).status
  pub pc : (thread : ℕ) → (thread_at after thread).registers.pc ≡ (thread_at s thread).registers.pc
  pub counts : (thread : ℕ) → open_count thread later ≡ open_count thread labels
  pub words : (offset : ℕ) → (notification_at after offset).word ≡ (notification_at s offset).word
  pub pending : (line : ℕ) → after.pending line ≡ s.pending line
  pub bindings : (line : ℕ) → binding after line ≡ binding s line

pub same-left : (image : Image) (priority : ℕ) (w : Weights) (s after : State) (labels later : List Label) → SameWork image s after labels later
    → left image priority w after later ≡ left image priority w s labels
unfolding left
same-left image priority w s after labels later same =
    ap (λ n. n + total (left_of_word w after) w.prices + total (left_of_line w after) irq_lines)
    (total-same (left_of_thread image priority w after later) (left_of_thread image priority w s labels) (numbered_threads image) threads)
    ∙ ap (λ n. total (left_of_thread image priority w s labels) (numbered_threads image) + n + total (left_of_line w after) irq_lines)
    (total-same (left_of_word w after) (left_of_word w s) w.prices words)
    ∙ ap (λ n. total (left_of_thread image priority w s labels) (numbered_threads image) + total (left_of_word w s) w.prices + n)
    (total-same (left_of_line w after) (left_of_line w s) irq_lines lines)
  where
    threads : (t : Numbered) → left_of_thread image priority w after later t ≡ left_of_thread image priority w s labels t
    threads t =
        ap (λ (x : Status). if is_of_level priority t && is_runnable x then t.thread.header.budget - open_count (tcb_of image t) later
        + w.still t.number (((thread_at after (tcb_of image t)).registers.pc - t.thread.header.base) / 4) else 0) (same.status (tcb_of image t))
        ∙ ap (λ (n : ℕ). if is_of_level priority t && is_runnable (thread_at s (tcb_of image t)).status then t.thread.header.budget - n
        + w.still t.number (((thread_at after (tcb_of image t)).registers.pc - t.thread.header.base) / 4) else 0) (same.counts (tcb_of image t))
        ∙ ap (λ (n : ℕ). if is_of_level priority t && is_runnable (thread_at s (tcb_of image t)).status
        then t.thread.header.budget - open_count (tcb_of image t) labels + w.still t.number ((n - t.thread.header.base) / 4) else 0) (same.pc (tcb_of image t))

    words : (p : Price) → left_of_word w after p ≡ left_of_word w s p
    words p = ap (λ (n : ℕ). if n == 0 then 0 else p.price) (same.words p.object)

    lines : (line : ℕ) → left_of_line w after line ≡ left_of_line w s line
    lines line =
        ap (λ (b : Bool). if b then line_price w after line else 0) (same.pending line)
        ∙ ap (λ (bound : Option Signal). if s.pending line then option_map_or (λ x. price_of w x.notification) bound 0 else 0) (same.bindings line)

-- ---- a tick

module _ (s after : State) (w : WithinTick s after)
    (runs : (thread : ℕ) → current s ≡ Some thread → (own : ThreadState) × (s.objects thread ≡ Some (ThreadObject own))) where
  data Stays (offset : ℕ) : Type 0 where
    as_it_was : after.objects offset ≡ s.objects offset → Stays offset
    with_slice : (own : ThreadState) (slice : ℕ) → s.objects offset ≡ Some (ThreadObject own)
        → after.objects offset ≡ Some (ThreadObject (record own { slice = slice })) → Stays offset

  stays : (offset : ℕ) → Stays offset
  stays offset = by-current (current s) refl
    where
      by-current : (o : Option ℕ) → current s ≡ o → Stays offset
      by-current None none = as_it_was (w.others offset (λ some. absurd (let clash : ◌≡◌ {A = Option ℕ} None (Some offset) = sym none ∙ some in cc)))
      by-current (Some x) some = elim (eqb_tells x offset) [
        | inl here ↦
            let now = some ∙ ap (λ (n : ℕ). Some n) here.1 in
            let own = runs offset now in
            let run = w.runs offset own.0 now own.1 in
            with_slice own.0 run.0 own.1 run.1
        | inr there ↦ as_it_was (w.others offset (λ other. there.1 (let same : ◌≡◌ {A = Option ℕ} (Some x) (Some offset) = sym some ∙ other in cc)))
      ]

  status-same : (offset : ℕ) → (thread_at after offset).status ≡ (thread_at s offset).status
  status-same offset = elim (stays offset) [
    | as_it_was same ↦ ap (λ (o : Option Object). (option_map_or (λ (t : ThreadState). t) (as_thread o) new_thread).status) same
    | with_slice own slice was is ↦
        ap (λ (o : Option Object). (option_map_or (λ (t : ThreadState). t) (as_thread o) new_thread).status) is
        ∙ sym (ap (λ (o : Option Object). (option_map_or (λ (t : ThreadState). t) (as_thread o) new_thread).status) was)
  ]

  pc-same : (offset : ℕ) → (thread_at after offset).registers.pc ≡ (thread_at s offset).registers.pc
  pc-same offset = elim (stays offset) [
    | as_it_was same ↦ ap (λ (o : Option Object). (option_map_or (λ (t : ThreadState). t) (as_thread o) new_thread).registers.pc) same
    | with_slice own slice was is ↦
        ap (λ (o : Option Object). (option_map_or (λ (t : ThreadState). t) (as_thread o) new_thread).registers.pc) is
        ∙ sym (ap (λ (o : Option Object). (option_map_or (λ (t : ThreadState). t) (as_thread o) new_thread).registers.pc) was)
  ]

  word-same : (offset : ℕ) → (notification_at after offset).word ≡ (notification_at s offset).word
  word-same offset = elim (stays offset) [
    | as_it_was same ↦ ap (λ (o : Option Object). (option_map_or (λ (n : NotificationState). n) (as_notification o) new_notification).word) same
    | with_slice own slice was is ↦
        ap (λ (o : Option Object). (option_map_or (λ (n : NotificationState). n) (as_notification o) new_notification).word) is
        ∙ sym (ap (λ (o : Option Object). (option_map_or (λ (n : NotificationState). n) (as_notification o) new_notification).word) was)
  ]

  -- the interrupt table stays
  bound-same : (line : ℕ) → binding after line ≡ binding s line
  bound-same line =
      ap (λ (radix : ℕ). signal_of (capability_at after.slots (line_slot radix line))) w.store.boot_radix
      ∙ ap (λ (e : Option Entry). signal_of (option_map_or (λ x. x.capability) e Empty)) (w.store.slots (line_slot s.boot_radix line))

  pub tick-same : (image : Image) (labels : List Label) → SameWork image s after labels (labels ++ Ticked ∷ [])
  tick-same image labels = record {
    status = status-same;
    pc = pc-same;
    counts = λ thread. other-label thread labels Ticked refl;
    words = word-same;
    pending = w.pending;
    bindings = λ line. bound-same line;
  }

pub event-leaves : (image : Image) (priority : ℕ) (w : Weights) (events : List Event) (event : Event)
    → SameWork image (state_after (described image) events) (step (state_after (described image) events) event).0 (trace (described image) events)
    (trace (described image) events ++ (step (state_after (described image) events) event).1 ∷ [])
    → left image priority w (state_after (described image) (events ++ event ∷ [])) (trace (described image) (events ++ event ∷ []))
    ≡ left image priority w (state_after (described image) events) (trace (described image) events)
event-leaves image priority w events event same =
    ap (λ (s : State). left image priority w s (trace (described image) (events ++ event ∷ []))) (state-next (described image) events event)
    ∙ ap (λ (l : List Label). left image priority w (step (state_after (described image) events) event).0 l) (trace-next (described image) events event)
    ∙ same-left image priority w (state_after (described image) events) (step (state_after (described image) events) event).0
    (trace (described image) events) (trace (described image) events ++ (step (state_after (described image) events) event).1 ∷ []) same

-- ---- the world

world-same : (image : Image) (s after : State) (labels : List Label) (label : Label) → SameBesideBytes s after
    → ((thread : ℕ) → is_of thread label ≡ false) → SameWork image s after labels (labels ++ label ∷ [])
world-same image s after labels label same none = record {
  status = λ thread. ap (λ (objects : ℕ → Option Object). (option_map_or (λ (t : ThreadState). t) (as_thread (objects thread)) new_thread).status) same.objects;
  pc = λ thread.
      ap (λ (objects : ℕ → Option Object). (option_map_or (λ (t : ThreadState). t) (as_thread (objects thread)) new_thread).registers.pc) same.objects;
  counts = λ thread. other-label thread labels label (none thread);
  words = λ offset.
      ap (λ (objects : ℕ → Option Object). (option_map_or (λ (n : NotificationState). n) (as_notification (objects offset)) new_notification).word)
      same.objects;
  pending = λ line. ap (λ (pending : ℕ → Bool). pending line) same.pending;
  bindings = λ line.
      ap (λ (radix : ℕ). signal_of (capability_at after.slots (line_slot radix line))) same.base.boot_radix
      ∙ ap (λ (slots : Slots). signal_of (capability_at slots (line_slot s.boot_radix line))) same.base.slots;
}

-- a write changes bytes alone
pub write-same : (image : Image) (s : State) (address word : ℕ) (labels : List Label)
    → SameWork image s (step s (Write address word)).0 labels (labels ++ (step s (Write address word)).1 ∷ [])
unfolding step
write-same image s address word labels =
    world-same image s (world_writes s (place_of address) word) labels (Wrote address word) (written-beside s (place_of address) word) (λ thread. refl)

-- a look changes nothing
pub look-same : (image : Image) (s : State) (address : ℕ) (labels : List Label)
    → SameWork image s (step s (Read address)).0 labels (labels ++ (step s (Read address)).1 ∷ [])
unfolding step
look-same image s address labels =
    world-same image s s labels (Showed address (word_seen s (place_of address)))
    (record {
      base = record { memory_bits = refl; boot_radix = refl; slots = refl };
      objects = refl;
      ready = refl;
      masked = refl;
      pending = refl;
    })
    (λ thread. refl)

-- who runs is a thread
pub running-thread : (s : State) → IsSound s → (thread : ℕ) → current s ≡ Some thread
    → (own : ThreadState) × (s.objects thread ≡ Some (ThreadObject own))
running-thread s sound thread now =
    thread-kind (s.objects thread) (current-runs s sound.threads thread now).kind
