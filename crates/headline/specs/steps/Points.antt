-- What is known of a point of a program that keeps the rules.
use Rattle.std.specs.Prelude.{ℕ, ◌≡◌, ◌+◌, ◌<◌, ◌%◌, true, false, Some, Ok, pos, int_lt, Contains}
use Rattle.model.specs.declared.instructions.Access.TheVariants.{Fetch}
use Rattle.model.specs.declared.instructions.AccessSize.TheVariants.{Word}
use Rattle.model.specs.declared.instructions.Instr.TheVariants.{Ecall}
use Rattle.model.specs.Acceptance.Measures.{Measure, falls, least_value, stays_below}
use Rattle.model.specs.Acceptance.NotedStates.{PointState, are_same_slots, has_stray_slots}
use Rattle.model.specs.Acceptance.PointRules.{ProgramEdge, are_ranges_within, edges_at, is_computed_jump, is_illegal, is_unmapped}
use Rattle.model.specs.Acceptance.PointStates.{Known, address_of, instruction_at, noted}
use Rattle.model.specs.Images.Described.{Numbered}
use Rattle.model.specs.Images.Image.{Image}
use Rattle.model.specs.Kernel.AddressSpaces.{content_of, with_content}
use Rattle.model.specs.Kernel.Messages.{with_registers}
use Rattle.model.specs.Kernel.State.{State}
use Rattle.model.specs.Kernel.Steps.{memory_base, registers_of, step}
use Rattle.model.specs.Machine.Decoding.{decoded}
use Rattle.model.specs.Machine.ProgramMemory.{Content, RegisterFile, loaded}
use Rattle.model.specs.declared.events.Event.TheVariants.{Step}
use Rattle.model.specs.declared.labels.Label.TheVariants.{Ran}
use Rattle.model.specs.declared.labels.Outcome.TheVariants.{Plain}
use Rattle.model.specs.Acceptance.ThreadInvariants.{tcb_of}

-- the word which the thread would fetch, if it can be fetched, spells no system call
abbrev pub ReachesNoCall : State → ℕ → Type 0
ReachesNoCall s thread =
    (word : ℕ) → loaded (content_of s thread) Fetch Word (registers_of s thread).pc ≡ Ok word → decoded word ≡ Some Ecall → ⊥

-- An edge leads to a point with a state: its ranges and slots are kept there. The measure falls, or after a wait is within the budget.
pub record LeadsOn (image : Image) (t : Numbered) (from : Measure) (edge : ProgramEdge) : Type 0 where
  pub point : ℕ
  pub state : PointState
  pub inside : point < t.thread.header.words
  pub target : edge.target ≡ address_of t.thread point
  pub aligned : edge.target % 4 ≡ 0
  pub known : noted image t point ≡ Known state
  pub within : are_ranges_within edge.ranges state.ranges ≡ true
  pub slots : are_same_slots edge.slots state.slots ≡ true
  pub falling : edge.is_wait ≡ false → falls from state.measure edge.value_of edge.before edge.ranges ≡ true
  pub covered : edge.is_wait ≡ true → stays_below t.thread.header.budget state.measure edge.value_of edge.before edge.ranges ≡ true

-- A point with a state whose rules are kept.
pub record IsPoint (image : Image) (t : Numbered) (point : ℕ) (state : PointState) : Type 0 where
  pub legal : is_illegal (instruction_at t.thread point) ≡ false
  pub straight : is_computed_jump (instruction_at t.thread point) ≡ false
  pub own : has_stray_slots image t.thread point state ≡ false
  pub least : int_lt (least_value state.measure state.ranges) (pos 1) ≡ false
  pub mapped : is_unmapped image t.thread state (instruction_at t.thread point) ≡ false
  pub leads : (edge : ProgramEdge) → Contains (edges_at image t point state (instruction_at t.thread point)) edge
      → LeadsOn image t state.measure edge

-- The step of a thread that reaches no system call goes along an edge of its program: of the state its registers and bytes change alone.
pub record GoesAlong (image : Image) (t : Numbered) (s : State) (point : ℕ) (state : PointState) : Type 0 where
  pub registers : RegisterFile
  pub content : Content
  pub after : (step s Step).0 ≡ with_content (with_registers s (tcb_of image t) registers) content
  pub label : (step s Step).1 ≡ Ran (memory_base + tcb_of image t) (registers_of s (tcb_of image t)).pc Plain
  pub edge : ProgramEdge
  pub among : Contains (edges_at image t point state (instruction_at t.thread point)) edge
  pub next : ℕ
  pub inside : next < t.thread.header.words
  pub target : edge.target ≡ address_of t.thread next
  pub pc : registers.pc ≡ edge.target
