-- The laws of this crate: points of certificates, instructions at them, and steps that reach no system call.
use Rattle.std.specs.List.{list_all}
use Rattle.std.specs.Prelude.{ℕ, ◌≡◌, ◌%◌, ◌<◌, Contains, List, Some, false, slice_get, true, length, ◌^◌, ◌≢◌, ◌+◌, ◌*◌, ◌≤◌, ◌++◌, [], ◌∷◌}
use Rattle.model.specs.declared.events.Event.TheVariants.{Step}
use Rattle.model.specs.declared.events.Event.{Event}
use Rattle.model.specs.declared.instructions.Access.TheVariants.{Store}
use Rattle.model.specs.declared.instructions.Instr.{Instr}
use Rattle.model.specs.declared.instructions.Register.{Register}
use Rattle.model.specs.declared.labels.Label.{Label}
use Rattle.model.specs.declared.ranges.Range.{Range}
use Rattle.model.specs.Acceptance.Accepted.{AreKept, IsAccepted}
use Rattle.model.specs.Acceptance.NotedStates.{PointState, NotedSlot, are_same_slots, has_stray_slots}
use Rattle.model.specs.Acceptance.PointRules.{program_rules, is_unmapped}
use Rattle.model.specs.Acceptance.PointStates.{Known, noted}
use Rattle.model.specs.Acceptance.ThreadInvariants.{LieWithin, MapsAreNoted, root_table_of, tcb_of, NamesNoCode, ProgramStands, ThreadInvariant}
use Rattle.model.specs.Acceptance.ThreadRules.{is_code}
use Rattle.model.specs.Images.Described.{Numbered, numbered_threads, described}
use Rattle.model.specs.Images.Fills.{program_pages}
use Rattle.model.specs.Images.Image.{Image, Thread, whole_image}
use Rattle.model.specs.Kernel.AddressSpaces.{content_of, vspace_of, page_size, with_content}
use Rattle.model.specs.Kernel.Messages.{with_registers}
use Rattle.model.specs.Kernel.Scheduling.{current}
use Rattle.model.specs.Kernel.Soundness.{IsSound}
use Rattle.model.specs.Kernel.State.{State}
use Rattle.model.specs.Kernel.Steps.{state_after, step, trace}
use Rattle.model.specs.Kernel.Waits.{is_fault}
use Rattle.model.specs.Machine.Decoding.{decoded}
use Rattle.model.specs.Machine.Effects.{effect}
use Rattle.model.specs.Machine.Instructions.{IsInstr}
use Rattle.model.specs.Machine.ProgramMemory.{Content, RegisterFile, read}
use Rattle.format_laws.specs.Fitting.{IsFitting}
use Rattle.ranges.specs.Standing.{AreWords}
use Rattle.headline.specs.steps.Formed.{AreFormed, HasForm, is_low}
use Rattle.headline.specs.steps.Frames.{FramesAreKept}
use Rattle.headline.specs.steps.Points.{IsPoint, ReachesNoCall}
use Rattle.headline.specs.steps.Taken.{IsPlain, MayTake, Reaches}

-- ---- points

-- each edge leads to such a point again
abbrev pub PointsKeepTheirRules : Type 0
PointsKeepTheirRules =
    (image : Image) (t : Numbered) (point : ℕ) (state : PointState) → AreKept (program_rules image) → Contains (numbered_threads image) t
    → t.thread.header.base % 4 ≡ 0 → point < t.thread.header.words → noted image t point ≡ Known state → IsPoint image t point state

-- keys differ by their numbers, and capabilities by their words
abbrev pub EqualSlotsAreTheSame : Type 0
EqualSlotsAreTheSame = (slots others : List NotedSlot) → AreFormed slots → AreFormed others → are_same_slots slots others ≡ true → slots ≡ others

-- slots that are not stray
abbrev pub SlotsInPlaceHaveTheirForm : Type 0
SlotsInPlaceHaveTheirForm =
    (image : Image) (t : Thread) (point : ℕ) (state : PointState) → IsFitting image → list_all is_low state.slots ≡ true
    → has_stray_slots image t point state ≡ false → AreFormed state.slots

-- 31 ranges, and parents with indices of 32 bits
abbrev pub NotedPointsHaveTheirForm : Type 0
NotedPointsHaveTheirForm =
    (image : Image) (t : Numbered) → whole_image.fits image ≡ true → IsFitting image → (number : ℕ) → slice_get image.threads number ≡ Some t.thread
    → (point : ℕ) (state : PointState) → noted image t point ≡ Known state → HasForm state

-- ---- instructions

abbrev pub DecodedFieldsLieInTheirRanges : Type 0
DecodedFieldsLieInTheirRanges = (word : ℕ) (instr : Instr) → decoded word ≡ Some instr → IsInstr instr

-- neither a system call nor a computed jump, and it reaches what it loads or stores
abbrev pub InstructionsTakeEdges : Type 0
InstructionsTakeEdges =
    (r : RegisterFile) (content : Content) (ranges : List Range) → AreWords r content → length ranges ≡ 31 → LieWithin r ranges
    → (instr : Instr) → IsInstr instr → IsPlain instr → Reaches r content instr → MayTake r content ranges instr

abbrev pub MappedAccessesDoNotFault : Type 0
MappedAccessesDoNotFault =
    (image : Image) (t : Numbered) (s : State) (state : PointState) (r : RegisterFile) (instr : Instr) → FramesAreKept image → IsSound s
    → MapsAreNoted image t s state.slots → vspace_of s (tcb_of image t) ≡ Some (root_table_of image t) → ((x : Register) → read r x < 2 ^ 32)
    → LieWithin r state.ranges → IsInstr instr → is_unmapped image t.thread state (Some instr) ≡ false → Reaches r (content_of s (tcb_of image t)) instr

-- a byte stays where no address names it for a store
abbrev pub WritesWhereStoresMay : Type 0
WritesWhereStoresMay =
    (r : RegisterFile) (content : Content) (place : ℕ) → ((address other : ℕ) → content.place Store address ≡ Some other → other ≢ place) → (instr : Instr)
    → (effect r content instr).content.byte place ≡ content.byte place

abbrev pub ProgramsStayWhereTheyStand : Type 0
ProgramsStayWhereTheyStand =
    (image : Image) (t : Numbered) (s : State) (slots : List NotedSlot) → FramesAreKept image → IsSound s → MapsAreNoted image t s slots →
    NamesNoCode image slots
    → vspace_of s (tcb_of image t) ≡ Some (root_table_of image t) → (registers : RegisterFile) (left : Content)
    → list_all (is_code image t.thread) (program_pages t.thread) ≡ true → t.thread.header.base % page_size ≡ 0
    → t.thread.header.base + 4 * t.thread.header.words ≤ 2 ^ 31
    → ((place : ℕ) → ((address other : ℕ) → (content_of s (tcb_of image t)).place Store address ≡ Some other → other ≢ place)
    → left.byte place ≡ (content_of s (tcb_of image t)).byte place)
    → ProgramStands image t s → ProgramStands image t (with_content (with_registers s (tcb_of image t) registers) left)

-- ---- steps that reach no system call

-- in any state
abbrev pub PlainStepsKeepThreads : Type 0
PlainStepsKeepThreads =
    (bytes : List ℕ) (image : Image) (t : Numbered) (s : State) (labels : List Label) → IsAccepted bytes image → Contains (numbered_threads image) t
    → IsSound s → ThreadInvariant image t s labels → current s ≡ Some (tcb_of image t) → ReachesNoCall s (tcb_of image t)
    → (is_fault (step s Step).1 ≡ false) × ThreadInvariant image t (step s Step).0 (labels ++ (step s Step).1 ∷ [])

abbrev pub PlainStepsKeepThreadsBehindEvents : Type 0
PlainStepsKeepThreadsBehindEvents =
    (bytes : List ℕ) (image : Image) (events : List Event) (t : Numbered) → IsAccepted bytes image → Contains (numbered_threads image) t
    → let s = state_after (described image) events in let labels = trace (described image) events in
    ThreadInvariant image t s labels → current s ≡ Some (tcb_of image t) → ReachesNoCall s (tcb_of image t)
    → (is_fault (step s Step).1 ≡ false) × ThreadInvariant image t (step s Step).0 (labels ++ (step s Step).1 ∷ [])

abbrev pub PlainStepsKeepThreadsOneEventMore : Type 0
PlainStepsKeepThreadsOneEventMore =
    (bytes : List ℕ) (image : Image) (events : List Event) (t : Numbered) → IsAccepted bytes image → Contains (numbered_threads image) t
    → ThreadInvariant image t (state_after (described image) events) (trace (described image) events)
    → current (state_after (described image) events) ≡ Some (tcb_of image t) → ReachesNoCall (state_after (described image) events) (tcb_of image t)
    → ThreadInvariant image t (state_after (described image) (events ++ Step ∷ [])) (trace (described image) (events ++ Step ∷ []))
