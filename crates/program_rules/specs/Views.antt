-- What is seen of the points of programs without their rules: what a system call there names, and where the ways on lead.
use Rattle.std.specs.Prelude.{ℕ, ◌≡◌, ◌≢◌, ◌+◌, ◌<◌, ◌++◌, Bool, true, false, Option, Some, None, Result, Ok, Err, List, [], ◌∷◌, length, option_to_list}
use Rattle.std.specs.Prelude.{slice_get}
use Rattle.std.specs.List.{list_all}
use Rattle.std.specs.Option.{option_map_or}
use Rattle.model.specs.declared.capabilities.Cap.{Cap}
use Rattle.model.specs.declared.capabilities.Cap.TheVariants.{Empty}
use Rattle.model.specs.declared.instructions.Instr.{Instr}
use Rattle.model.specs.declared.instructions.Instr.TheVariants.{Jal, Jalr, Branch, Ecall, Ebreak}
use Rattle.model.specs.declared.lookup_failures.LookupFailure.{LookupFailure}
use Rattle.model.specs.declared.system_calls.SystemCall.{SystemCall}
use Rattle.model.specs.Acceptance.NotedKernel.{noted_kernel, noted_root}
use Rattle.model.specs.Acceptance.NotedStates.{PointState}
use Rattle.model.specs.Acceptance.PointRules.{edges_at}
use Rattle.model.specs.Acceptance.PointStates.{Known, Missing, Noted, Unmeasured, address_of, instruction_at, noted}
use Rattle.model.specs.Acceptance.Ranges.{range_of}
use Rattle.model.specs.Capabilities.Lookup.{called_slot}
use Rattle.model.specs.Capabilities.Slots.{Slots, capability_at}
use Rattle.model.specs.Images.Described.{Numbered}
use Rattle.model.specs.Images.Image.{Image, Thread}
use Rattle.model.specs.Images.Places.{offset_of}
use Rattle.model.specs.Kernel.Messages.{a0, a7}
use Rattle.model.specs.Kernel.Steps.{call_of}
use Rattle.program_rules.specs.declared.views.PointView.{PointView}
use Rattle.program_rules.specs.declared.views.PointView.TheVariants as view
use Rattle.program_rules.specs.declared.views.PointViews.{PointViews}
use Rattle.program_rules.specs.declared.views.ProgramView.{ProgramView}
use Rattle.program_rules.specs.declared.views.SeenPoint.{SeenPoint}
use Rattle.program_rules.specs.declared.views.ShortView.{ShortView}
use Rattle.program_rules.specs.declared.views.ShortView.TheVariants as short

-- the system call at a point, by the least value of a7
abbrev pub call_seen : PointState → Option Instr → Option SystemCall
call_seen state (Some Ecall) = call_of (range_of state.ranges a7).low
call_seen state _ = None

abbrev pub held_at : Slots → Result ℕ LookupFailure → Cap
held_at slots (Ok slot) = capability_at slots slot
held_at slots (Err failure) = Empty

-- the capability that the least value of a0 names
abbrev pub capability_seen : Image → Thread → PointState → Cap
capability_seen image t state =
    let slots = (noted_kernel image t state.slots).slots in
    held_at slots (called_slot slots (noted_root image t) (range_of state.ranges a0).low)

-- it is no jump, and no end: if it is no system call, it leads to the next instruction alone
abbrev pub is_on : Instr → Bool
is_on (Jal rd offset) = false
is_on (Jalr rd rs1 offset) = false
is_on (Branch op rs1 rs2 offset) = false
is_on Ebreak = false
is_on instr = true

-- the addresses that the ways on may lead to
abbrev pub targets_of : SeenPoint → List ℕ
targets_of v = option_to_list v.taken ++ option_to_list v.next

-- what is seen of a point with a state; no way leads to another address
pub record IsSeen (image : Image) (t : Numbered) (point : ℕ) (state : PointState) (v : SeenPoint) : Type 0 where
  pub call : v.call ≡ call_seen state (instruction_at t.thread point)
  pub capability : instruction_at t.thread point ≡ Some Ecall → v.capability ≡ capability_seen image t.thread state
  pub ways : (test : ℕ → Bool) → list_all test (targets_of v) ≡ true
      → list_all (λ edge. test edge.target) (edges_at image t point state (instruction_at t.thread point)) ≡ true

-- it is no system call, and its ways lead to the next instruction alone
pub record GoesOn (image : Image) (t : Numbered) (point : ℕ) (state : PointState) : Type 0 where
  pub plain : instruction_at t.thread point ≢ Some Ecall
  pub ways : (test : ℕ → Bool) → test (address_of t.thread point + 4) ≡ true
      → list_all (λ edge. test edge.target) (edges_at image t point state (instruction_at t.thread point)) ≡ true

-- of a point in a state; nothing is said where slots are unclear
abbrev pub IsViewOf : Image → Numbered → ℕ → PointState → PointView → Type 0
IsViewOf image t point state (view.Seen v) = IsSeen image t point state v
IsViewOf image t point state view.GoesOn = GoesOn image t point state
IsViewOf image t point state view.Unclear = Unit {0}
IsViewOf image t point state view.Unknown = ⊥

-- of what is noted of a point
abbrev pub IsView : Image → Numbered → ℕ → Noted → PointView → Type 0
IsView image t point (Known state) v = IsViewOf image t point state v
IsView image t point Missing v = Unit {0}
IsView image t point Unmeasured v = Unit {0}

-- ---- what is seen of points, one after another

-- by what is seen in other places
abbrev pub whole_view : List SeenPoint → Option ShortView → PointView
whole_view seen (Some short.Unclear) = view.Unclear
whole_view seen (Some short.GoesOn) = view.GoesOn
whole_view seen (Some (short.Seen place)) = option_map_or view.Seen (slice_get seen place) view.Unknown
whole_view seen (Some short.Unknown) = view.Unknown
whole_view seen None = view.Unknown

abbrev pub view_at : PointViews → ℕ → PointView
view_at views point = whole_view views.seen.items (slice_get views.points.items point)

abbrev pub count_of : PointViews → ℕ
count_of views = length views.points.items

-- by one more
pub record IsLonger (old new : PointViews) (v : PointView) : Type 0 where
  pub count : count_of new ≡ count_of old + 1
  pub last : view_at new (count_of old) ≡ v
  pub others : (point : ℕ) → point < count_of old → view_at old point ≢ view.Unknown → view_at new point ≡ view_at old point

-- of the points of a program so far
pub record AreViews (image : Image) (t : Numbered) (count : ℕ) (views : PointViews) : Type 0 where
  pub long : count_of views ≡ count
  pub each : (point : ℕ) → point < count → IsView image t point (noted image t point) (view_at views point)

-- of a thread
pub record IsProgramView (image : Image) (t : Numbered) (p : ProgramView) : Type 0 where
  pub number : p.number ≡ t.number
  pub header : p.header ≡ t.thread.header
  pub tcb : p.tcb ≡ offset_of image t.thread.header.tcb
  pub points : AreViews image t t.thread.header.words p.points

-- of threads, one by one, with their numbers from one on
unfoldable pub AreProgramViews : Image → ℕ → List Thread → List ProgramView → Type 0
AreProgramViews image number [] [] = Unit {0}
AreProgramViews image number (t ∷ threads) (p ∷ views) =
    IsProgramView image (record { number = number; thread = t }) p × AreProgramViews image (number + 1) threads views
AreProgramViews image number [] (p ∷ views) = ⊥
AreProgramViews image number (t ∷ threads) [] = ⊥
