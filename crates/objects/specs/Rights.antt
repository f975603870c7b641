-- Who has the right to reply to a thread, and what is kept of it in the thread's own bytes.
use Rattle.std.specs.Prelude.{ℕ, ◌≡◌, ◌==◌, ◌&&◌, ◌+◌, ◌-◌, ◌^◌, ◌<◌, ◌≤◌, Bool, true, false, not, Option, Some, None, is_some, if◌then◌else◌, List, length}
use Rattle.std.specs.Prelude.{slice_index}
use Rattle.std.specs.Option.{option_map_or}
use Rattle.model.specs.Shared.Bytes.{word_at}
use Rattle.objects.specs.declared.thread_records.records.Thread.{Thread}

-- whether what is at an offset is a thread with the right to reply to another
abbrev pub has_right : Option Thread → ℕ → Bool
has_right thread caller = option_map_or (λ (t : Thread). option_map_or (λ c. c == caller) t.caller false) thread false

-- the one thread that such a word says may have the right, or nobody where several may have it
abbrev pub one_of : ℕ → Option ℕ
one_of word = if word == 2 ^ 32 - 1 then None else Some word

abbrev pub replier_at : List ℕ → ℕ → Option ℕ
replier_at memory thread = one_of (word_at memory (thread + 268))

-- whoever has the right to reply has it to a thread that is there, and is the one that this keeps, if it keeps one
pub record AreKnown (threads : ℕ → Option Thread) (memory : List ℕ) : Type 0 where
  pub there : (caller holder : ℕ) → has_right (threads holder) caller ≡ true → is_some (threads caller) ≡ true
  pub only : (caller holder thread : ℕ) → has_right (threads holder) caller ≡ true → replier_at memory caller ≡ Some thread → holder ≡ thread

-- what is kept of a caller where a thread comes to have the right to reply to it: that thread alone, if the one before has no such right
abbrev pub noted : (ℕ → Option Thread) → ℕ → ℕ → Option ℕ → Option ℕ
noted threads holder caller None = None
noted threads holder caller (Some thread) = if not (thread == holder) && has_right (threads thread) caller then None else Some holder

-- all bytes are the same but those that say who may reply to this thread
pub record SameBesideReplier (caller : Option ℕ) (old new : List ℕ) : Type 0 where
  pub size : length new ≡ length old
  pub bytes : (place : ℕ) → ((thread : ℕ) → caller ≡ Some thread → thread + 268 ≤ place → place < thread + 272 → ⊥) →
      slice_index new place ≡ slice_index old place
