-- What is said of the image, the thread and the slots that a program has, so that contracts name the program alone.
use Rattle.std.specs.Prelude.{ℕ, ◌+◌, List}
use Rattle.measure.specs.Measures.{measure_of}
use Rattle.model.specs.Acceptance.NotedStates.{NotedSlot, PointState, image_slots}
use Rattle.model.specs.Acceptance.PointRules.{call_edge, edge_rules, entry_rules, noted_at, rules_of_program}
use Rattle.model.specs.Acceptance.PointStates.{Noted, address_of, noted, point_of}
use Rattle.model.specs.Acceptance.Rules.{Rule}
use Rattle.model.specs.Images.Described.{Numbered}
use Rattle.program_rules.specs.Kept.{IsCleanIn, IsRead, IsReadTo, Kept, noted_by, state_by}
use Rattle.program_rules.specs.Programs.{thread_of}
use Rattle.program_rules.specs.Views.{AreViews, IsProgramView}
use Rattle.program_rules.specs.Walks.{AreWalked, GoesAlong}
use Rattle.program_rules.specs.declared.kept.Known.{Known as State}
use Rattle.program_rules.specs.declared.points.Points.{Points}
use Rattle.program_rules.specs.declared.programs.Program.{Program}
use Rattle.program_rules.specs.declared.views.PointViews.{PointViews}
use Rattle.program_rules.specs.declared.views.ProgramView.{ProgramView}
use Rattle.program_rules.specs.declared.walks.Walk.{Walk}
use Rattle.thread_spaces.specs.declared.given_threads.GivenThread.{GivenThread}
use Rattle.thread_spaces.specs.declared.placed_threads.PlacedThread.{PlacedThread}
use Rattle.typestate.specs.Calls.{behind_with}
use Rattle.typestate.specs.Replays.{replayed}
use Rattle.typestate.specs.Strays.{NoneStray}
use Rattle.typestate.specs.declared.behind.Behind.{Behind}
use Rattle.typestate.specs.declared.log_entries.LogEntry.{LogEntry}

-- ---- the program

-- how many words it has
abbrev pub words_of : Program → ℕ
words_of p = p.given.space.thread.now.header.words

-- how many instructions the thread may run before it waits
abbrev pub budget_of : Program → ℕ
budget_of p = p.given.space.thread.now.header.budget

-- its rules
abbrev pub rules_for : Program → List Rule
rules_for p = rules_of_program p.given.space.image.now (thread_of p)

-- the rules on what is noted of its entry
abbrev pub entry_rules_for : Program → List Rule
entry_rules_for p = entry_rules p.given.space.image.now (thread_of p) (noted p.given.space.image.now (thread_of p) p.given.space.thread.now.header.entry)

-- the slots that the image lists
abbrev pub listed_for : Program → List NotedSlot
listed_for p = image_slots p.given.space.image.now p.given.space.thread.now

-- all its points are read
abbrev pub AreRead : Program → Points → Type 0
AreRead p points = IsRead p.given.space.image.now (thread_of p) p.given.slots.now points.log points.kept

-- the points up to this one
abbrev pub IsReadFor : Program → ℕ → Points → Kept → Kept → Type 0
IsReadFor p point points previous derived =
    IsReadTo p.given.space.image.now (thread_of p) p.given.slots.now point points.log points.kept previous derived

-- what goes along over its points
abbrev pub GoesAlongFor : Program → Points → Walk → Type 0
GoesAlongFor p points walk = GoesAlong p.given.space.image.now p.given.space.thread.now p.given.slots.now points.log walk

-- all points, with that
abbrev pub AreWalkedFor : Program → Points → Walk → Type 0
AreWalkedFor p points walk = AreWalked p.given.space.image.now (thread_of p) p.given.slots.now points.log points.kept walk

-- what is seen of the points
abbrev pub AreViewsFor : Program → PointViews → Type 0
AreViewsFor p views = AreViews p.given.space.image.now (thread_of p) p.given.space.thread.now.header.words views

-- ---- a point of it

abbrev pub address_for : Program → ℕ → ℕ
address_for p point = address_of p.given.space.thread.now point

-- the rules on the way on after a system call in this state, which leaves this and these slots
abbrev pub call_way_rules : Program → ℕ → State → List NotedSlot → Behind → List Rule
call_way_rules p point k slots b =
    edge_rules p.given.space.thread.now (point_of (thread_of p) point) (measure_of k.measure)
    (call_edge (address_of p.given.space.thread.now point) k.bounds (behind_with slots b))
    (noted_at p.given.space.image.now (thread_of p) (address_of p.given.space.thread.now point + 4))

-- ---- slots, and what is kept beside a log of their changes

-- the slots after changes of those that the program has
abbrev pub replayed_for : Program → List LogEntry → List NotedSlot
replayed_for p changes = replayed p.given.slots.now changes

-- the state
abbrev pub state_for : Program → List LogEntry → State → PointState
state_for p log k = state_by p.given.slots.now log k

-- what is noted
abbrev pub noted_for : Program → List LogEntry → Kept → Noted
noted_for p log k = noted_by p.given.slots.now log k

-- where it is known that no slot is one that the thread may not have, none is
abbrev pub IsCleanFor : Program → List LogEntry → Kept → Type 0
IsCleanFor p log k = IsCleanIn p.given.space.image.now p.given.space.thread.now p.given.slots.now log k

-- no slot is one that the thread may not have
abbrev pub NoneStrayFor : Program → List NotedSlot → Type 0
NoneStrayFor p slots = NoneStray p.given.space.image.now p.given.space.thread.now slots

-- ---- what the image gives a thread

-- the thread with its number
abbrev pub thread_given : GivenThread → Numbered
thread_given g = record { number = g.number; thread = g.space.thread.now }

-- the rules on its program
abbrev pub rules_given : GivenThread → List Rule
rules_given g = rules_of_program g.space.image.now (thread_given g)

-- what is seen of the points of its program
abbrev pub AreViewsGiven : GivenThread → PointViews → Type 0
AreViewsGiven g views = AreViews g.space.image.now (thread_given g) g.space.thread.now.header.words views

-- ---- a thread, with the places of the objects of its image

-- the thread with its number
abbrev pub thread_placed : PlacedThread → Numbered
thread_placed o = record { number = o.number; thread = o.thread.now }

-- the rules on its program
abbrev pub rules_placed : PlacedThread → List Rule
rules_placed o = rules_of_program o.placed.now.image.now (thread_placed o)

-- what is seen of it
abbrev pub IsViewPlaced : PlacedThread → ProgramView → Type 0
IsViewPlaced o = IsProgramView o.placed.now.image.now (thread_placed o)
