-- Message buffers, as those of two threads are looked at together.
use Rattle.std.specs.Prelude.{ℕ, ◌≡◌, Option, Some, option_and_then, option_map}
use Rattle.model.specs.Kernel.Kinds.{kind_at}
use Rattle.model.specs.Kernel.Messages.{buffer_of}
use Rattle.model.specs.Kernel.Retype.{NewThread}
use Rattle.model.specs.Kernel.State.{State}
use Rattle.objects.specs.Frames.{IsFramed}

-- the frames that threads have as buffers are there
abbrev pub HaveBuffers : State → Type 0
HaveBuffers s = (thread frame : ℕ) → buffer_of s thread ≡ Some frame → IsFramed s frame

-- a message may go from one thread to another: both are there, and so are the frames of buffers
pub record MayHandOver (s : State) (from to : ℕ) : Type 0 where
  pub giver : kind_at s from ≡ Some NewThread
  pub taker : kind_at s to ≡ Some NewThread
  pub buffers : HaveBuffers s

-- the frames of two threads' buffers, if both have one
abbrev pub buffers_of : State → ℕ → ℕ → Option (ℕ × ℕ)
buffers_of s from to = option_and_then (λ source. option_map (λ target. (source, target)) (buffer_of s to)) (buffer_of s from)
