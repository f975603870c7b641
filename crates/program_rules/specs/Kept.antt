-- What is kept of points, and what it says that the certificate notes of them.
use Rattle.std.specs.Prelude.{ℕ, zero, suc, ◌≡◌, ◌+◌, ◌≢◌, ◌^◌, ◌<◌, ◌≤◌, ◌≤ℤ◌, pos, negsuc, Bool, true, false, if◌then◌else◌, Option, Some, None, Result, Ok}
use Rattle.std.specs.Prelude.{Err, List, [], length, slice_get}
use Rattle.measure.specs.Measures.{measure_of}
use Rattle.model.specs.Acceptance.NotedStates.{NotedSlot, PointState, record_measure, record_of, record_ranges}
use Rattle.model.specs.Acceptance.CallRules.{AfterCall, with_answer, with_message}
use Rattle.model.specs.Acceptance.Measures.{Measure, lowered}
use Rattle.model.specs.Acceptance.Ranges.{with_range}
use Rattle.model.specs.Kernel.Messages.{a0}
use Rattle.model.specs.declared.ranges.Range.{Range}
use Rattle.model.specs.Acceptance.PointStates.{Noted, Known, Missing, Unmeasured, follows, instruction_at, noted}
use Rattle.model.specs.Images.Described.{Numbered}
use Rattle.model.specs.Images.Image.{Image, StateRecord, Thread}
use Rattle.model.specs.declared.instructions.Instr.TheVariants.{Ecall}
use Rattle.model.specs.declared.refusals.Refusal.{Refusal}
use Rattle.program_rules.specs.declared.point_rules.following.Left.{Left}
use Rattle.program_rules.specs.declared.at_points.AtPoint.TheVariants as kept
use Rattle.program_rules.specs.declared.at_points.AtPoint.{AtPoint}
use Rattle.program_rules.specs.declared.kept.Known.{Known as State}
use Rattle.program_rules.specs.declared.places.CalledPoint.{CalledPoint}
use Rattle.program_rules.specs.declared.kept_points.KeptPoints.{KeptPoints}
use Rattle.program_rules.specs.declared.places.Place.TheVariants as place
use Rattle.program_rules.specs.declared.places.Place.{Place}
use Rattle.program_rules.specs.declared.places.RecordedPoint.{RecordedPoint}
use Rattle.program_rules.specs.declared.space_rules.Called.TheVariants as called
use Rattle.program_rules.specs.declared.space_rules.Called.{Called}
use Rattle.program_rules.specs.declared.places.ShortPart.{ShortPart}
use Rattle.typestate.specs.Calls.{behind_with}
use Rattle.typestate.specs.Logs.{Holds, Shows, part_of}
use Rattle.typestate.specs.Strays.{NoneStray}
use Rattle.typestate.specs.declared.behind.Written.TheVariants as written
use Rattle.typestate.specs.declared.behind.Written.{Written}
use Rattle.typestate.specs.declared.logs.Part.{Part}
use Rattle.typestate.specs.declared.logs.ShownPart.{ShownPart}
use Rattle.typestate.specs.Replays.{replayed}
use Rattle.typestate.specs.declared.log_entries.LogEntry.{LogEntry}

-- what is kept of a point
abbrev pub Kept : Type 0
Kept = AtPoint State

-- the state, by what is kept beside the image's slots and the log of changes
abbrev pub state_by : List NotedSlot → List LogEntry → State → PointState
state_by slots log k = record { ranges = k.bounds; slots = replayed slots (part_of log k.part); measure = measure_of k.measure }

-- what is noted
abbrev pub noted_by : List NotedSlot → List LogEntry → Kept → Noted
noted_by slots log (kept.Known k) = Known (state_by slots log k)
noted_by slots log kept.Missing = Missing
noted_by slots log kept.Unmeasured = Unmeasured

-- whether it is a state
abbrev pub has_state : Noted → Bool
has_state (Known s) = true
has_state Missing = false
has_state Unmeasured = false

-- what is kept of what a point leaves for the next one, with the part that its slots have
abbrev pub kept_as : AtPoint Left → Part → Bool → Kept
kept_as (kept.Known left) part clean = kept.Known (record { bounds = left.bounds; measure = left.measure; part = part; is_clean = clean })
kept_as kept.Missing part clean = kept.Missing
kept_as kept.Unmeasured part clean = kept.Unmeasured

-- what is kept of what became of a state
abbrev pub passed_as : State → AtPoint (Unit {0}) → Kept
passed_as k (kept.Known here) = kept.Known k
passed_as k kept.Missing = kept.Missing
passed_as k kept.Unmeasured = kept.Unmeasured

-- its changes are in the log
abbrev pub HasPart : List LogEntry → Kept → Type 0
HasPart log (kept.Known k) = Holds log k.part
HasPart log kept.Missing = Unit {0}
HasPart log kept.Unmeasured = Unit {0}

-- they are shown
abbrev pub ShowsKept : List LogEntry → ShownPart → Kept → Type 0
ShowsKept log shown (kept.Known k) = Shows log k.part shown
ShowsKept log shown kept.Missing = Unit {0}
ShowsKept log shown kept.Unmeasured = Unit {0}

-- its changes are in the log, and its measure can be lowered by one for each point that is left
abbrev pub IsSound : List LogEntry → ℕ → Kept → Type 0
IsSound log point (kept.Known k) = Holds log k.part × (negsuc (2 ^ 62 + point) ≤ℤ (measure_of k.measure).constant)
IsSound log point kept.Missing = Unit {0}
IsSound log point kept.Unmeasured = Unit {0}

-- where it is known that no slot is one that the thread may not have, none is
abbrev pub IsCleanIn : Image → Thread → List NotedSlot → List LogEntry → Kept → Type 0
IsCleanIn image t slots log (kept.Known k) = k.is_clean ≡ true → NoneStray image t (replayed slots (part_of log k.part))
IsCleanIn image t slots log kept.Missing = Unit {0}
IsCleanIn image t slots log kept.Unmeasured = Unit {0}

-- what is kept of a point that is looked at: its changes are in the log and shown, and what is known of its slots is so
pub record IsLookedAt (image : Image) (t : Thread) (slots : List NotedSlot) (log : List LogEntry) (point : ℕ) (shown : ShownPart) (k : Kept) : Type 0 where
  pub sound : IsSound log point k
  pub shows : ShowsKept log shown k
  pub clean : IsCleanIn image t slots log k

-- what a call leaves, with the changes that it makes of these slots, where it is looked at
abbrev pub call_of : List NotedSlot → Called → Option (Result AfterCall Refusal)
call_of slots called.Stray = None
call_of slots (called.Refused refusal) = Some (Err refusal)
call_of slots (called.Leaves b made) = Some (Ok (behind_with (replayed slots made.items) b))

-- where it is known to leave no slot that the thread may not have, it leaves none
abbrev pub IsCleanBehind : Image → Thread → List NotedSlot → Called → Type 0
IsCleanBehind image t slots called.Stray = Unit {0}
IsCleanBehind image t slots (called.Refused refusal) = Unit {0}
IsCleanBehind image t slots (called.Leaves b made) = b.is_tidy ≡ true → NoneStray image t (replayed slots made.items)

-- what is kept of one point is what the certificate notes of it
pub record IsKeptAt (image : Image) (t : Numbered) (slots : List NotedSlot) (log : List LogEntry) (point : ℕ) (k : Kept) : Type 0 where
  pub same : noted_by slots log k ≡ noted image t point
  pub sound : IsSound log point k
  pub clean : IsCleanIn image t.thread slots log k

-- the next point follows from a point: it has no record, and that has no system call
pub record IsPlain (t : Thread) (point : ℕ) : Type 0 where
  pub bare : record_of t (point + 1) ≡ None
  pub plain : instruction_at t point ≢ Some Ecall

-- ---- parts, records and calls in few bytes

abbrev pub wide : ShortPart → Part
wide part = record { first = part.first; end = part.end }

-- the state of a record, with the part that its slots have
pub record IsRecorded (r : RecordedPoint) (is_clean : Bool) (k : State) : Type 0 where
  pub bounds : (e : StateRecord) → slice_get r.from 0 ≡ Some e → k.bounds ≡ record_ranges e
  pub measure : (e : StateRecord) → slice_get r.from 0 ≡ Some e → measure_of k.measure ≡ record_measure e
  pub part : k.part ≡ wide r.part
  pub clean : k.is_clean ≡ is_clean

-- the ranges after a call that writes such registers
abbrev pub ranges_behind : Written → Range → List Range → List Range
ranges_behind written.Nothing badge ranges = ranges
ranges_behind written.Badge badge ranges = with_range ranges a0 badge
ranges_behind written.Answer badge ranges = with_answer ranges
ranges_behind written.Message badge ranges = with_message ranges badge []

abbrev pub measure_behind : ℕ → Bool → Measure → Measure
measure_behind budget is_wait m = if is_wait then record { constant = pos budget; terms = [] } else lowered m (pos 1)

-- the state after a call, by the one before it
pub record IsCalled (budget : ℕ) (c : CalledPoint) (k next : State) : Type 0 where
  pub bounds : next.bounds ≡ ranges_behind c.written c.badge k.bounds
  pub measure : measure_of next.measure ≡ measure_behind budget c.is_wait (measure_of k.measure)
  pub part : next.part ≡ wide c.part
  pub clean : next.is_clean ≡ c.is_clean

-- two states are one
pub record AreOne (k other : State) : Type 0 where
  pub bounds : k.bounds ≡ other.bounds
  pub measure : measure_of k.measure ≡ measure_of other.measure
  pub part : k.part ≡ other.part
  pub clean : k.is_clean ≡ other.is_clean

-- a call leads from one state to another one
abbrev pub Leads : ℕ → CalledPoint → State → State → Type 0
Leads budget c before after = length before.bounds ≡ 31 → length after.bounds ≡ 31 → (next : State) → IsCalled budget c before next → AreOne next after

-- ---- what is kept of one point of many

-- a state is kept whole
pub record IsWhole (image : Image) (t : Numbered) (slots : List NotedSlot) (log : List LogEntry) (whole : List State) (point at : ℕ) : Type 0 where
  pub inside : at < length whole
  pub known : has_state (noted image t point) ≡ true
  pub kept : (k : State) → slice_get whole at ≡ Some k → IsKeptAt image t slots log point (kept.Known k)

-- a state is that of a record
pub record IsInRecord (image : Image) (t : Numbered) (slots : List NotedSlot) (log : List LogEntry) (recorded : List RecordedPoint) (point at : ℕ)
    (clean : Bool) : Type 0 where
  pub inside : at < length recorded
  pub known : has_state (noted image t point) ≡ true
  pub kept : (r : RecordedPoint) → slice_get recorded at ≡ Some r → (k : State) → IsRecorded r clean k → IsKeptAt image t slots log point (kept.Known k)

-- a state follows from that of the point before by an instruction
pub record IsBehindPlain (image : Image) (t : Numbered) (point : ℕ) : Type 0 where
  pub some : 1 ≤ point
  pub known : has_state (noted image t point) ≡ true
  pub plain : (before : ℕ) → before + 1 ≡ point → IsPlain t.thread before

-- a state follows from that of the point before by a system call
pub record IsBehindCall (image : Image) (t : Numbered) (slots : List NotedSlot) (log : List LogEntry) (called : List CalledPoint) (point at : ℕ) : Type 0 where
  pub inside : at < length called
  pub some : 1 ≤ point
  pub known : has_state (noted image t point) ≡ true
  pub before : (before : ℕ) → before + 1 ≡ point → has_state (noted image t before) ≡ true
  pub kept : (before : ℕ) → before + 1 ≡ point → (c : CalledPoint) → slice_get called at ≡ Some c → (s : PointState) → noted image t before ≡ Known s →
      (k next : State)
      → k.bounds ≡ s.ranges → measure_of k.measure ≡ s.measure → IsCalled t.thread.header.budget c k next → IsKeptAt image t slots log point (kept.Known next)

abbrev pub IsAt : Image → Numbered → List NotedSlot → List LogEntry → KeptPoints → ℕ → Place → Type 0
IsAt image t slots log ks point place.Missing = IsKeptAt image t slots log point kept.Missing
IsAt image t slots log ks point place.Unmeasured = IsKeptAt image t slots log point kept.Unmeasured
IsAt image t slots log ks point (place.Whole at) = IsWhole image t slots log ks.whole.items point at
IsAt image t slots log ks point (place.Recorded at) = IsInRecord image t slots log ks.recorded.items point at false
IsAt image t slots log ks point (place.Clean at) = IsInRecord image t slots log ks.recorded.items point at true
IsAt image t slots log ks point place.Plain = IsBehindPlain image t point
IsAt image t slots log ks point (place.Called at) = IsBehindCall image t slots log ks.called.items point at

-- the state follows from that of the point before
abbrev pub is_step : Place → Bool
is_step place.Missing = false
is_step place.Unmeasured = false
is_step (place.Whole at) = false
is_step (place.Recorded at) = false
is_step (place.Clean at) = false
is_step place.Plain = true
is_step (place.Called at) = true

-- there is a state
abbrev pub is_known_at : Place → Bool
is_known_at place.Missing = false
is_known_at place.Unmeasured = false
is_known_at (place.Whole at) = true
is_known_at (place.Recorded at) = true
is_known_at (place.Clean at) = true
is_known_at place.Plain = true
is_known_at (place.Called at) = true

-- of what is kept of points nothing is lost
abbrev pub KeepsAll : KeptPoints → KeptPoints → Type 0
KeepsAll old new =
    (image : Image) (t : Numbered) (slots : List NotedSlot) (log : List LogEntry) (point : ℕ) (place : Place) → IsAt image t slots log old point place →
    IsAt image t slots log new point place

-- what is kept of the next point
abbrev pub IsNextAt : Thread → KeptPoints → Kept → ℕ → Kept → Place → Type 0
IsNextAt own new last point k place =
    (image : Image) (t : Numbered) (slots : List NotedSlot) (log : List LogEntry) → t.thread ≡ own →
    ((before : ℕ) → before + 1 ≡ point → IsKeptAt image t slots log before last)
    → IsKeptAt image t slots log point k → IsAt image t slots log new point place

-- whether a state is kept
abbrev pub is_known : Kept → Bool
is_known (kept.Known k) = true
is_known kept.Missing = false
is_known kept.Unmeasured = false

-- of each point so far
pub record AreKept (image : Image) (t : Numbered) (slots : List NotedSlot) (log : List LogEntry) (kept : KeptPoints) : Type 0 where
  pub each : (point : ℕ) (place : Place) → slice_get kept.places.items point ≡ Some place → IsAt image t slots log kept point place

-- all points of the program
pub record IsRead (image : Image) (t : Numbered) (slots : List NotedSlot) (log : List LogEntry) (kept : KeptPoints) : Type 0 where
  pub count : length kept.places.items ≡ t.thread.header.words
  pub noted : AreKept image t slots log kept

-- what the point before leaves
abbrev pub before : Image → Numbered → ℕ → Noted
before image t zero = Missing
before image t (suc point) = follows image t point (noted image t point)

-- what is kept for a point by the one before it, if it has no record
pub record IsLeft (image : Image) (t : Numbered) (slots : List NotedSlot) (log : List LogEntry) (point : ℕ) (k : Kept) : Type 0 where
  pub same : record_of t.thread point ≡ None → noted_by slots log k ≡ before image t point
  pub sound : IsSound log point k
  pub clean : IsCleanIn image t.thread slots log k

-- the points up to this one, the last of them by itself, and what is left for it
pub record IsReadTo (image : Image) (t : Numbered) (slots : List NotedSlot) (point : ℕ) (log : List LogEntry) (kept : KeptPoints)
    (previous derived : Kept) : Type 0 where
  pub count : length kept.places.items ≡ point
  pub noted : AreKept image t slots log kept
  pub last : (before : ℕ) → before + 1 ≡ point → IsKeptAt image t slots log before previous
  pub left : IsLeft image t slots log point derived
