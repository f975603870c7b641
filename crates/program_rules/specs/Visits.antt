-- What is known at a point that is looked at, so that contracts name the point alone.
use Rattle.std.specs.Prelude.{ℕ, Bool, Option, Result, List}
use Rattle.measure.specs.Measures.{measure_of}
use Rattle.model.specs.Acceptance.CallRules.{AfterCall}
use Rattle.model.specs.Acceptance.Edges.{Edge, after}
use Rattle.model.specs.Acceptance.Measures.{Form, Measure}
use Rattle.model.specs.Acceptance.NotedStates.{NotedSlot, PointState, has_stray_slots, record_of}
use Rattle.model.specs.Acceptance.PointRules.{edge_rules, is_unmapped, noted_at, point_rules, rules_on_edges, state_rules}
use Rattle.model.specs.Acceptance.PointStates.{Noted, address_of, call_at, follows, follows_call, instruction_at, noted}
use Rattle.model.specs.Acceptance.Rules.{Rule, first_broken}
use Rattle.model.specs.Images.Image.{StateRecord}
use Rattle.model.specs.declared.instructions.Instr.{Instr}
use Rattle.model.specs.declared.ranges.Range.{Range}
use Rattle.model.specs.declared.refusals.Refusal.{Refusal}
use Rattle.program_rules.specs.FoundPages.{AreMapped}
use Rattle.program_rules.specs.Kept.{IsCleanBehind, IsKeptAt, IsLeft, IsLookedAt, IsNextAt, Kept, ShowsKept, noted_by, state_by}
use Rattle.program_rules.specs.OfPrograms.{AreRead}
use Rattle.program_rules.specs.PointChecks.{later_rules, own_rules, way_rules}
use Rattle.program_rules.specs.Programs.{thread_of}
use Rattle.program_rules.specs.Views.{IsView}
use Rattle.part_roots.specs.Rooted.{AreRooted}
use Rattle.part_roots.specs.declared.part_roots.PartRoots.{PartRoots}
use Rattle.program_rules.specs.declared.at_points.AtPoint.TheVariants as kept
use Rattle.program_rules.specs.declared.kept.Known.{Known as State}
use Rattle.program_rules.specs.declared.kept_points.KeptPoints.{KeptPoints}
use Rattle.program_rules.specs.declared.places.Place.{Place}
use Rattle.program_rules.specs.declared.point_rules.found_pages.FoundPages.{FoundPages}
use Rattle.program_rules.specs.declared.point_rules.ways.Way.{Way}
use Rattle.program_rules.specs.declared.points.Points.{Points}
use Rattle.program_rules.specs.declared.space_rules.Called.{Called}
use Rattle.program_rules.specs.declared.views.PointView.{PointView}
use Rattle.program_rules.specs.declared.visits.PlainPoint.{PlainPoint}
use Rattle.program_rules.specs.declared.visits.Seen.{Seen}
use Rattle.program_rules.specs.declared.visits.Visit.{Visit}
use Rattle.program_rules.specs.declared.visits.VisitedSlots.{VisitedSlots}
use Rattle.program_rules.specs.point_rules.Points.{edge_of}
use Rattle.typestate.specs.Calls.{known_with}
use Rattle.typestate.specs.Differences.{slots_of}
use Rattle.typestate.specs.Logs.{Shows, part_of}
use Rattle.typestate.specs.Replays.{replayed}
use Rattle.typestate.specs.declared.log_entries.LogEntry.{LogEntry}
use Rattle.typestate.specs.declared.logs.Part.{Part}
use Rattle.typestate.specs.declared.logs.ShownPart.{ShownPart}

-- ---- a point

abbrev pub address_here : Visit → ℕ
address_here v = address_of v.program.now.given.space.thread.now v.point

abbrev pub instruction_here : Visit → Option Instr
instruction_here v = instruction_at v.program.now.given.space.thread.now v.point

abbrev pub record_here : Visit → Option StateRecord
record_here v = record_of v.program.now.given.space.thread.now v.point

abbrev pub noted_here : Visit → Noted
noted_here v = noted v.program.now.given.space.image.now (thread_of v.program.now) v.point

-- what is kept of it is what the certificate notes of it
abbrev pub IsKeptHere : Visit → Points → Kept → Type 0
IsKeptHere v points k = IsKeptAt v.program.now.given.space.image.now (thread_of v.program.now) v.program.now.given.slots.now points.log v.point k

-- the points are read, and the slots of its state are shown
pub record IsShownHere (v : Visit) (points : Points) (k : State) (shown : ShownPart) : Type 0 where
  pub read : AreRead v.program.now points
  pub kept : IsKeptHere v points (kept.Known k)
  pub shows : Shows points.log k.part shown

-- what is kept of it, with its changes in the log and shown
abbrev pub IsLookedAtHere : Visit → List LogEntry → ShownPart → Kept → Type 0
IsLookedAtHere v log shown k =
    IsLookedAt v.program.now.given.space.image.now v.program.now.given.space.thread.now v.program.now.given.slots.now log v.point shown k

-- what is kept for it by the point before it
abbrev pub IsLeftHere : Visit → List LogEntry → Kept → Type 0
IsLeftHere v log k = IsLeft v.program.now.given.space.image.now (thread_of v.program.now) v.program.now.given.slots.now log v.point k

-- what is kept of it beside a log is what the certificate notes of it
abbrev pub IsKeptBy : Visit → List LogEntry → Kept → Type 0
IsKeptBy v log k = IsKeptAt v.program.now.given.space.image.now (thread_of v.program.now) v.program.now.given.slots.now log v.point k

-- and the slots of its state are shown
pub record IsReachedHere (v : Visit) (log : List LogEntry) (shown : ShownPart) (k : Kept) : Type 0 where
  pub kept : IsKeptBy v log k
  pub shows : ShowsKept log shown k

-- what is kept of it, after what is kept of the point before it
abbrev pub IsNextHere : Visit → KeptPoints → Kept → Kept → Place → Type 0
IsNextHere v new last k place = IsNextAt v.program.now.given.space.thread.now new last v.point k place

-- what is seen of it
abbrev pub IsViewHere : Visit → PointView → Type 0
IsViewHere v = IsView v.program.now.given.space.image.now (thread_of v.program.now) v.point (noted_here v)

-- ---- what follows from its state

-- what a system call there leaves
abbrev pub call_here : Visit → PointState → Option (Result AfterCall Refusal)
call_here v state = call_at v.program.now.given.space.image.now (thread_of v.program.now) v.point state

-- what is noted of the next point behind that call, by the state that is kept beside a log
abbrev pub behind_here : Visit → List LogEntry → State → Noted
behind_here v log k = follows_call v.program.now.given.space.thread.now (measure_of k.measure) (call_here v (state_by v.program.now.given.slots.now log k))

-- what is noted of the next point, by what is noted here
abbrev pub left_here : Visit → Noted → Noted
left_here v here = follows v.program.now.given.space.image.now (thread_of v.program.now) v.point here

-- ---- the rules on it

-- all of them
abbrev pub point_rules_here : Visit → List Rule
point_rules_here v = point_rules v.program.now.given.space.image.now (thread_of v.program.now) v.point

-- in this state
abbrev pub state_rules_here : Visit → PointState → List Rule
state_rules_here v state = state_rules v.program.now.given.space.image.now (thread_of v.program.now) v.point state

-- up to its system call and its ways on
abbrev pub own_rules_here : Visit → PointState → List Rule
own_rules_here v state = own_rules v.program.now.given.space.image.now (thread_of v.program.now) v.point state v.instr

-- on its system call and its ways on
abbrev pub later_rules_here : Visit → PointState → Option Instr → List Rule
later_rules_here v state instr = later_rules v.program.now.given.space.image.now (thread_of v.program.now) v.point state instr

-- on a way on
abbrev pub way_rules_here : Visit → PointState → Instr → Option Edge → List Rule
way_rules_here v state instr edge = way_rules v.program.now.given.space.image.now (thread_of v.program.now) v.point state instr edge

-- some slot is one that the thread may not have
abbrev pub has_stray_here : Visit → PointState → Bool
has_stray_here v state = has_stray_slots v.program.now.given.space.image.now v.program.now.given.space.thread.now v.point state

-- a load or store may reach a byte that the thread may not
abbrev pub is_unmapped_here : Visit → PointState → Bool
is_unmapped_here v state = is_unmapped v.program.now.given.space.image.now v.program.now.given.space.thread.now state v.instr

-- ---- its slots

-- a state with them
abbrev pub state_with : VisitedSlots → List Range → Measure → PointState
state_with s ranges measure = known_with ranges (slots_of s.slots) measure

-- pages that were found are mapped with them
abbrev pub AreMappedHere : VisitedSlots → FoundPages → Type 0
AreMappedHere s found =
    AreMapped s.visit.program.now.given.space.image.now s.visit.program.now.given.space.thread.now (slots_of s.slots) found

-- where it is known that a call leaves no slot that the thread may not have, it leaves none
abbrev pub IsCleanBehindHere : VisitedSlots → Called → Type 0
IsCleanBehindHere s = IsCleanBehind s.visit.program.now.given.space.image.now s.visit.program.now.given.space.thread.now (slots_of s.slots)

-- ---- slots that are seen

-- those of a part of the log
abbrev pub slots_at : Seen → Part → List NotedSlot
slots_at s part = replayed s.program.now.given.slots.now (part_of s.points.now.log part)

-- those that are shown
abbrev pub slots_seen : Seen → List NotedSlot
slots_seen s = slots_at s s.part

-- what is noted, by what is kept
abbrev pub noted_seen : Seen → Kept → Noted
noted_seen s k = noted_by s.program.now.given.slots.now s.points.now.log k

-- what is noted of the point at an address
abbrev pub noted_from : Seen → ℕ → Noted
noted_from s address = noted_at s.program.now.given.space.image.now (thread_of s.program.now) address

-- roots of parts say what slots these leave
abbrev pub AreRootedSeen : Seen → PartRoots → Type 0
AreRootedSeen s roots = AreRooted s.program.now.given.slots.now s.points.now.log roots

-- the rules on a way on to an address, after which registers are what a form says
abbrev pub rules_to : Seen → Way → (ℕ → Form) → ℕ → List Rule
rules_to s way value_of address =
    edge_rules s.program.now.given.space.thread.now way.at (measure_of way.measure.now) (edge_of address value_of (slots_seen s) way) (noted_from s address)

-- ---- an instruction that is no system call

-- the state of its point
abbrev pub state_at : PlainPoint → PointState
state_at p = state_by p.visit.program.now.given.slots.now p.points.now.log p.known.now

-- the first rule that is broken on a way on from there
abbrev pub broken_by : PlainPoint → Option Edge → Option Refusal
broken_by p edge =
    first_broken (way_rules p.visit.program.now.given.space.image.now (thread_of p.visit.program.now) p.visit.point (state_at p) p.instr edge)

-- the rules on the ways on
abbrev pub ways_rules_at : PlainPoint → List Rule
ways_rules_at p = rules_on_edges p.visit.program.now.given.space.image.now (thread_of p.visit.program.now) p.visit.point (state_at p)

-- the way on that is taken, if there is one
abbrev pub taken_at : PlainPoint → Option Edge
taken_at p = (after (address_here p.visit) p.instr p.known.now.bounds).taken

-- roots of parts say what slots these leave
abbrev pub AreRootedAt : PlainPoint → PartRoots → Type 0
AreRootedAt p roots = AreRooted p.visit.program.now.given.slots.now p.points.now.log roots
