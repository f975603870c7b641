-- The work that is left for a level: what its threads run up to their waits and have still to set going, and what stands for them.
use Rattle.std.specs.Prelude.{ℕ, ◌==◌, ◌+◌, ◌-◌, ◌/◌, ◌&&◌, List, [], ◌∷◌, if◌then◌else◌, Bool}
use Rattle.std.specs.Option.{option_map_or}
use Rattle.std.specs.List.{range_with_len}
use Rattle.model.specs.declared.labels.Label.{Label}
use Rattle.model.specs.Acceptance.ThreadInvariants.{tcb_of}
use Rattle.model.specs.Images.Described.{Numbered, described, numbered_threads}
use Rattle.model.specs.Images.Image.{Image}
use Rattle.model.specs.Kernel.Interrupts.{binding}
use Rattle.model.specs.Kernel.Scheduling.{is_runnable}
use Rattle.model.specs.Kernel.State.{State, notification_at, thread_at}
use Rattle.model.specs.Kernel.Waits.{open_count}
use Rattle.response.specs.Levels.{is_of_level}
use Rattle.response.specs.Weights.{Price, Weights, price_of}

abbrev pub total : {A : Type 0} → (A → ℕ) → List A → ℕ
total f [] = 0
total f (x ∷ xs) = f x + total f xs

-- the point at which a thread is
abbrev pub point_now : Image → State → Numbered → ℕ
point_now image s t = ((thread_at s (tcb_of image t)).registers.pc - t.thread.header.base) / 4

-- a thread of the level that runs: what its budget leaves since its last wait, and what it has still to set going
abbrev pub left_of_thread : Image → ℕ → Weights → State → List Label → Numbered → ℕ
left_of_thread image priority w s labels t =
    if is_of_level priority t && is_runnable (thread_at s (tcb_of image t)).status
    then t.thread.header.budget - open_count (tcb_of image t) labels + w.still t.number (point_now image s t) else 0

-- a word that stands at a notification
abbrev pub left_of_word : Weights → State → Price → ℕ
left_of_word w s p = if (notification_at s p.object).word == 0 then 0 else p.price

-- ---- lines

-- what an interrupt of a line costs: what the notification does that it is bound to
abbrev pub line_price : Weights → State → ℕ → ℕ
line_price w s number = option_map_or (λ bound. price_of w bound.notification) (binding s number) 0

-- an interrupt that is pending
abbrev pub left_of_line : Weights → State → ℕ → ℕ
left_of_line w s number = if s.pending number then line_price w s number else 0

unfoldable pub irq_lines : List ℕ
irq_lines = range_with_len 0 64

-- ---- the whole

unfoldable pub left : Image → ℕ → Weights → State → List Label → ℕ
left image priority w s labels =
    total (left_of_thread image priority w s labels) (numbered_threads image) + total (left_of_word w s) w.prices
    + total (left_of_line w s) irq_lines

-- what may be left where no thread of the level is ready: words at all objects but those at which a thread rests, and all lines pending but
-- those that are acknowledged
abbrev pub at_rest : Image → Weights → (ℕ → Bool) → (ℕ → Bool) → ℕ
at_rest image w is_taken is_open =
    total (λ p. if is_taken p.object then 0 else p.price) w.prices
    + total (λ number. if is_open number then 0 else line_price w (described image) number) irq_lines
