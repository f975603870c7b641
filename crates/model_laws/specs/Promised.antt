-- The worker's image with a promise: what is sent to its endpoint has a badge from 3 to 5, a first word from 1 to 9, and 7 as its second.
use Rattle.std.specs.Prelude.{ℕ, ◌++◌, Option, Some, None, Result, Ok, Err, List, [], ◌∷◌, length}
use Rattle.model.specs.declared.capabilities.Cap.TheVariants.{Endpoint}
use Rattle.model.specs.declared.entries.PromisedWord.{PromisedWord}
use Rattle.model.specs.declared.ranges.Range.{Range}
use Rattle.model.specs.declared.refusals.Refusal.{Refusal}
use Rattle.model.specs.Acceptance.CallRules.{AfterCall, after_call}
use Rattle.model.specs.Acceptance.Ranges.{range_of}
use Rattle.model.specs.Acceptance.NotedStates.{NotedSlot}
use Rattle.model.specs.Capabilities.Rights.{rights}
use Rattle.model.specs.Images.Image.{Image, ImagePromise}
use Rattle.model.specs.Kernel.Messages.{register}
use Rattle.model_laws.specs.Solo.{at_point}
use Rattle.model_laws.specs.Worker.{slot_in, state_with, worker_image, worker_thread}

abbrev pub from_to : ℕ → ℕ → PromisedWord
from_to low high = record { low = low; high = high }

abbrev pub promise_of : ℕ → ℕ → ℕ → List PromisedWord → ImagePromise
promise_of endpoint low high words =
    record { header = record { endpoint = endpoint; badge_low = low; badge_high = high; words = length words }; words = words }

abbrev pub port : ImagePromise
port = promise_of 6 3 5 (from_to 1 9 ∷ from_to 7 7 ∷ [])

-- no word, and any badge
abbrev pub any_message : ImagePromise
any_message = promise_of 6 0 0xFFFFFFF []

abbrev pub promising : List ImagePromise → Image
promising promises = record worker_image {
  header = record worker_image.header { version = 2; promises = length promises };
  promises = promises;
}

-- the endpoint in slot 5, with these rights and this badge
abbrev pub holds : ℕ → ℕ → List NotedSlot
holds r badge = slot_in 5 (Endpoint 0xE000 (rights r) badge) None ∷ []

-- another endpoint in the same slot
abbrev pub holds_other : List NotedSlot
holds_other = slot_in 5 (Endpoint 0xC000 (rights 3) 0) None ∷ []

abbrev pub leaves : List ImagePromise → List (ℕ × ℕ) → List NotedSlot → Result AfterCall Refusal
leaves promises known slots = after_call (promising promises) worker_thread (at_point 0 0) (state_with known slots)

-- call number `n` on slot 5, with what is known of the other registers
abbrev pub calls : ℕ → List (ℕ × ℕ) → List (ℕ × ℕ)
calls n known = ((17, n) ∷ (10, 5) ∷ []) ++ known

-- the info word, and the first two words
abbrev pub message : ℕ → ℕ → ℕ → List (ℕ × ℕ)
message info first second = (11, info) ∷ (12, first) ∷ (13, second) ∷ []

-- what is known of a register after a call
abbrev pub known_of : Result AfterCall Refusal → ℕ → Option Range
known_of (Ok a) x = Some (range_of a.ranges (register x))
known_of (Err refusal) x = None
