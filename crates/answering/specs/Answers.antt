-- What it means that a thread answers a badge.
use Rattle.std.specs.Prelude.{ℕ, ◌≡◌, ◌==◌, Bool, true, false, Contains, List, Option, Some, length, slice_get}
use Rattle.std.specs.List.{list_any}
use Rattle.std.specs.Option.{option_map_or}
use Rattle.model.specs.declared.ranges.Range.{Range}
use Rattle.model.specs.Images.Described.{Numbered, numbered_threads}
use Rattle.model.specs.Images.Image.{Image, Thread}
use Rattle.program_rules.specs.Views.{IsProgramView}
use Rattle.program_rules.specs.declared.views.ProgramView.{ProgramView}
use Rattle.response.specs.Responding.{over_edges}
use Rattle.settled_threads.specs.Answering.{owing_over}
use Rattle.answering.specs.declared.answers.Answered.{Answered}

-- something is known of the registers at each point at which an answer may be owed, and an answer is given on each way, of a thread of which this is seen
abbrev pub Answers : Thread → ProgramView → ℕ → Type 0
Answers thread p badge =
    (owed : ℕ → Option (List Range))
    × ((image : Image) (t : Numbered) → t.thread ≡ thread → IsProgramView image t p → over_edges image t (owing_over thread badge owed) ≡ true)

-- so each of these badges
abbrev pub AreAnswered : Thread → ProgramView → List ℕ → Type 0
AreAnswered thread p badges = (badge : ℕ) → list_any (λ other. other == badge) badges ≡ true → Answers thread p badge

-- ---- of the threads of an image

-- so each of these badges, by what is seen of the thread
abbrev pub AreShown : Image → Numbered → List ℕ → Type 0
AreShown image t badges =
    (badge : ℕ) → list_any (λ other. other == badge) badges ≡ true → (p : ProgramView) × IsProgramView image t p × Answers t.thread p badge

-- of threads so far, by their numbers
pub record AllShown (image : Image) (count : ℕ) (found : List Answered) : Type 0 where
  pub long : length found ≡ count
  pub each : (k : ℕ) (a : Answered) → slice_get found k ≡ Some a
      → (t : Thread) × (slice_get image.threads k ≡ Some t) × AreShown image (record { number = k; thread = t }) a.badges.items

-- the thread of this number answers the badge, by what was found
abbrev pub answers_at : List Answered → ℕ → ℕ → Bool
answers_at found number badge = option_map_or (λ a. list_any (λ other. other == badge) a.badges.items) (slice_get found number) false

-- and so it does
abbrev pub AreAnswers : Image → List Answered → Type 0
AreAnswers image found =
    (number badge : ℕ) → answers_at found number badge ≡ true
    → (owed : ℕ → Option (List Range))
    × ((t : Numbered) → Contains (numbered_threads image) t → t.number ≡ number → over_edges image t (owing_over t.thread badge owed) ≡ true)
