-- What the points of a program ask of others, by runs: points of one run ask the same and lead to the same runs, or ask nothing and stay in the run.
use Rattle.std.specs.Prelude.{ℕ, ◌≡◌, ◌+◌, ◌-◌, ◌/◌, ◌<◌, ◌⊎◌, ◌++◌, Bool, true, Some, List, [], ◌∷◌, if◌then◌else◌, nat_le}
use Rattle.std.specs.Prelude.{option_to_list, slice_get}
use Rattle.std.specs.List.{list_all}
use Rattle.std.specs.Option.{option_map_or}
use Rattle.model.specs.declared.instructions.Instr.TheVariants.{Ecall}
use Rattle.model.specs.Acceptance.Authority.{badge_of}
use Rattle.model.specs.Acceptance.NotedStates.{PointState}
use Rattle.model.specs.Acceptance.PointRules.{edges_at}
use Rattle.model.specs.Acceptance.PointStates.{Known, Missing, Noted, Unmeasured, instruction_at, noted}
use Rattle.model.specs.Images.Described.{Numbered}
use Rattle.model.specs.Images.Image.{Image, Thread}
use Rattle.model.specs.Images.Places.{offset_of}
use Rattle.program_rules.specs.Views.{count_of, view_at}
use Rattle.program_rules.specs.Views.{targets_of as targets_seen}
use Rattle.program_rules.specs.declared.views.PointView.{PointView}
use Rattle.program_rules.specs.declared.views.PointView.TheVariants.{Unknown, Unclear, GoesOn, Seen}
use Rattle.program_rules.specs.declared.views.PointViews.{PointViews}
use Rattle.program_rules.specs.declared.views.ProgramView.{ProgramView}
use Rattle.program_rules.specs.declared.views.SeenPoint.{SeenPoint}
use Rattle.response.specs.Asking.{Asks_nothing, asked_at}
use Rattle.settled_threads.specs.Answering.{badge_at}
use Rattle.responses.specs.Asks.{asked, asked_seen}
use Rattle.responses.specs.declared.outlines.Outline.{Outline}
use Rattle.responses.specs.declared.outlines.Run.{Run}
use Rattle.responses.specs.declared.spans.Span.{Span}

-- the run of a point by spans, and by what it is before them
abbrev pub run_from : ℕ → List Span → ℕ → ℕ
run_from run [] point = run
run_from run (s ∷ rest) point = run_from (if nat_le s.first point then s.run else run) rest point

-- the run of a point, by its place
abbrev pub place_at : Outline → ℕ → ℕ
place_at o point = run_from 0 o.spans.items point

-- of a thread by its number
abbrev pub place_in : List Outline → ℕ → ℕ → ℕ
place_in outlines thread point = option_map_or (λ o. place_at o point) (slice_get outlines thread) 0

-- the runs to which the ways from a run lead
abbrev pub targets_of : Run → List ℕ
targets_of r = option_to_list r.taken ++ option_to_list r.next

-- the run to which a way on leads, if there is one
abbrev pub next_of : Run → ℕ
next_of r = option_map_or (λ n. n) r.next 0

-- ---- what is seen of a point

-- a function says of points what a list says of some
abbrev pub Gives : List ℕ → (ℕ → ℕ) → Type 0
Gives places place = (k x : ℕ) → slice_get places k ≡ Some x → place k ≡ x

-- a point asks what its run asks, and leads where that does; after something that is asked it goes on at the next point
pub record AsksSo (base : ℕ) (place : ℕ → ℕ) (point : ℕ) (v : SeenPoint) (r : Run) : Type 0 where
  pub asks : asked r.ask ≡ asked_seen v
  pub badge : r.badge ≡ badge_of v.capability
  pub ways : (test : ℕ → Bool) → list_all test (targets_of r) ≡ true → list_all (λ address. test (place ((address - base) / 4))) (targets_seen v) ≡ true
  pub next : (asked r.ask ≡ Asks_nothing) ⊎ (r.next ≡ Some (place (point + 1)))

-- a point asks nothing, and stays in its run
pub record StaysSo (base : ℕ) (place : ℕ → ℕ) (v : SeenPoint) (r : Run) : Type 0 where
  pub asks : asked_seen v ≡ Asks_nothing
  pub ways : (test : ℕ → Bool) → test r.place ≡ true → list_all (λ address. test (place ((address - base) / 4))) (targets_seen v) ≡ true

-- nothing is asked of a point without a state, and what is unclear fits to nothing that is clear
abbrev pub FitsView : ℕ → (ℕ → ℕ) → ℕ → PointView → Run → Type 0
FitsView base place point (Seen v) r = AsksSo base place point v r ⊎ StaysSo base place v r
FitsView base place point GoesOn r = place (point + 1) ≡ r.place
FitsView base place point Unclear r = ⊥
FitsView base place point Unknown r = Unit {0}

-- a point has a run, to which it fits if that is clear
pub record IsFit (base : ℕ) (runs : List Run) (place : ℕ → ℕ) (point : ℕ) (v : PointView) : Type 0 where
  pub run : Run
  pub listed : (k : ℕ) × (slice_get runs k ≡ Some run)
  pub here : place point ≡ run.place
  pub fits : run.is_clear ≡ true → FitsView base place point v run

-- so all points, of so many
abbrev pub AreDrawn : ℕ → ℕ → PointViews → List Run → (ℕ → ℕ) → Type 0
AreDrawn base count views runs place = (point : ℕ) → point < count → IsFit base runs place point (view_at views point)

-- of a thread, by what is seen of it
pub record IsOutlineOf (v : ProgramView) (o : Outline) : Type 0 where
  pub number : o.number ≡ v.number
  pub header : o.header ≡ v.header
  pub tcb : o.tcb ≡ v.tcb
  pub drawn : AreDrawn v.header.base (count_of v.points) v.points o.runs.items (place_at o)

-- ---- what is noted of a point

-- it asks what its run asks
pub record AsksThere (image : Image) (t : Numbered) (o : Outline) (point : ℕ) (state : PointState) (r : Run) : Type 0 where
  pub asks : asked_at image t.thread point state ≡ asked r.ask
  pub badge : instruction_at t.thread point ≡ Some Ecall → badge_at image t state ≡ r.badge
  pub ways : (test : ℕ → Bool) → list_all test (targets_of r) ≡ true
      → list_all (λ edge. test (place_at o ((edge.target - t.thread.header.base) / 4))) (edges_at image t point state (instruction_at t.thread point)) ≡ true
  pub next : (asked r.ask ≡ Asks_nothing) ⊎ (r.next ≡ Some (place_at o (point + 1)))

-- it asks nothing
pub record StaysThere (image : Image) (t : Numbered) (o : Outline) (point : ℕ) (state : PointState) (r : Run) : Type 0 where
  pub asks : asked_at image t.thread point state ≡ Asks_nothing
  pub ways : (test : ℕ → Bool) → test r.place ≡ true
      → list_all (λ edge. test (place_at o ((edge.target - t.thread.header.base) / 4))) (edges_at image t point state (instruction_at t.thread point)) ≡ true

pub record IsOutlinedBy (image : Image) (t : Numbered) (o : Outline) (point : ℕ) (state : PointState) (r : Run) : Type 0 where
  pub listed : (k : ℕ) × (slice_get o.runs.items k ≡ Some r)
  pub here : place_at o point ≡ r.place
  pub fits : r.is_clear ≡ true → AsksThere image t o point state r ⊎ StaysThere image t o point state r

abbrev pub IsOutlined : Image → Numbered → Outline → ℕ → Noted → Type 0
IsOutlined image t o point (Known state) = (r : Run) × IsOutlinedBy image t o point state r
IsOutlined image t o point Missing = Unit {0}
IsOutlined image t o point Unmeasured = Unit {0}

-- of a thread
pub record IsOutline (image : Image) (t : Numbered) (o : Outline) : Type 0 where
  pub number : o.number ≡ t.number
  pub header : o.header ≡ t.thread.header
  pub tcb : o.tcb ≡ offset_of image t.thread.header.tcb
  pub points : (point : ℕ) → point < t.thread.header.words → IsOutlined image t o point (noted image t point)

-- of threads, one by one, with their numbers from one on
unfoldable pub AreOutlines : Image → ℕ → List Thread → List Outline → Type 0
AreOutlines image number [] [] = Unit {0}
AreOutlines image number (t ∷ threads) (o ∷ outlines) =
    IsOutline image (record { number = number; thread = t }) o × AreOutlines image (number + 1) threads outlines
AreOutlines image number [] (o ∷ outlines) = ⊥
AreOutlines image number (t ∷ threads) [] = ⊥
