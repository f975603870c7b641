-- The way to a next point that no record notes, from an instruction and from a system call.
use Rattle.std.proofs.Common.{ℕ, ◌≡◌, ◌≢◌, ◌∙◌, ◌+◌, ◌^◌, ◌<◌, true, false, Option, Some, None, Result, Ok, Err, List, refl, sym, ap, arith}
use Rattle.std.specs.Option.{option_map_or}
use Rattle.model.specs.Acceptance.CallRules.{AfterCall}
use Rattle.model.specs.Acceptance.Edges.{Edge, after, behind, branch_edge, branch_ranges}
use Rattle.model.specs.Acceptance.NotedStates.{PointState, record_of}
use Rattle.model.specs.Acceptance.PointRules.{call_edge, edge_rules, noted_at, point_at, program_edge}
use Rattle.model.specs.Acceptance.PointStates.{Noted, Known, Missing, Unmeasured, address_of, behind_call, call_at, follows, follows_call, follows_edge}
use Rattle.model.specs.Acceptance.PointStates.{follows_instruction, instruction_at, noted, noted_or, point_of}
use Rattle.model.specs.Acceptance.Rules.{first_broken}
use Rattle.model.specs.Images.Described.{Numbered}
use Rattle.model.specs.Images.Image.{Image, StateRecord, Thread}
use Rattle.model.specs.declared.instructions.Instr.TheVariants.{Upper, Jal, Jalr, Branch, Load, Store, Immediate, Shift, Registers, Fence, Ecall, Ebreak}
use Rattle.model.specs.declared.instructions.Instr.{Instr}
use Rattle.model.specs.declared.ranges.Range.{Range}
use Rattle.model.specs.declared.refusals.Point.{Point}
use Rattle.model.specs.declared.refusals.Refusal.{Refusal}
use Rattle.program_rules.proofs.EachPoint.{next-before, noted-is}
use Rattle.program_rules.proofs.EdgeRules.{call-told, told_of}
use Rattle.program_rules.specs.Kept.{before, has_state}
use Rattle.program_rules.specs.PointChecks.{later_rules, way_rules}

-- what follows from an instruction that is no system call
plain-follows : (image : Image) (t : Numbered) (point : ℕ) (s : PointState) (instr : Instr) → instr ≢ Ecall
    → follows_instruction image t point s (Some instr) ≡ follows_edge instr s (after (address_of t.thread point) instr s.ranges).fall_through
plain-follows image t point s (Jal rd offset) plain = refl
plain-follows image t point s (Branch op rs1 rs2 offset) plain = refl
plain-follows image t point s (Upper op rd immediate) plain = refl
plain-follows image t point s (Load op rd rs1 offset) plain = refl
plain-follows image t point s (Store op rs1 rs2 offset) plain = refl
plain-follows image t point s (Immediate op rd rs1 immediate) plain = refl
plain-follows image t point s (Shift op rd rs1 amount) plain = refl
plain-follows image t point s (Registers op rd rs1 rs2) plain = refl
plain-follows image t point s Fence plain = refl
plain-follows image t point s (Jalr rd rs1 offset) plain = refl
plain-follows image t point s Ecall plain = absurd (plain refl)
plain-follows image t point s Ebreak plain = refl

-- the fall-through leads behind the instruction
abbrev GoesTo : ℕ → Option Edge → Type 0
GoesTo target None = Unit {0}
GoesTo target (Some e) = e.target ≡ target

of-branch : (target : ℕ) (kept : Option (List Range)) → GoesTo target (branch_edge target kept)
of-branch target None = tt
of-branch target (Some kept) = refl

goes-behind : (pc : ℕ) (instr : Instr) (ranges : List Range) → GoesTo (behind pc) (after pc instr ranges).fall_through
unfolding after
goes-behind pc (Jal rd offset) ranges = tt
goes-behind pc (Branch op rs1 rs2 offset) ranges = of-branch (behind pc) (branch_ranges op false rs1 rs2 ranges)
goes-behind pc (Upper op rd immediate) ranges = refl
goes-behind pc (Load op rd rs1 offset) ranges = refl
goes-behind pc (Store op rs1 rs2 offset) ranges = refl
goes-behind pc (Immediate op rd rs1 immediate) ranges = refl
goes-behind pc (Shift op rd rs1 amount) ranges = refl
goes-behind pc (Registers op rd rs1 rs2) ranges = refl
goes-behind pc Fence ranges = refl
goes-behind pc (Jalr rd rs1 offset) ranges = tt
goes-behind pc Ecall ranges = tt
goes-behind pc Ebreak ranges = tt

-- ---- what is noted of the next point, and of the address behind this one

module _ (image : Image) (t : Numbered) (point : ℕ) (s : PointState) (instr : Instr) (known : Known s ≡ noted image t point)
    (is : instruction_at t.thread point ≡ Some instr) (none : record_of t.thread (point + 1) ≡ None) where
  left-next : noted image t (point + 1) ≡ follows_instruction image t point s (Some instr)
  left-next =
      noted-is image t (point + 1)
      ∙ ap (λ (r : Option StateRecord). noted_or image t.thread r (before image t (point + 1))) none
      ∙ sym (next-before image t point)
      ∙ ap (follows image t point) (sym known)
      ∙ ap (follows_instruction image t point s) is

  next-at : (target : ℕ) → target ≡ address_of t.thread point + 4 → Some (point + 1) ≡ point_at t.thread (address_of t.thread point + 4)
      → noted_at image t target ≡ follows_instruction image t point s (Some instr)
  next-at target place at =
      ap (noted_at image t) place
      ∙ ap (λ (p : Option ℕ). option_map_or (noted image t) p Missing) (sym at)
      ∙ left-next

-- the next point, as it was found: it has a state, and is the one at that address
pub next-found : (image : Image) (t : Numbered) (point next address : ℕ) → has_state (noted image t next) ≡ true → next ≡ point + 1
    → Some next ≡ point_at t.thread (address + 4) → address ≡ address_of t.thread point
    → (has_state (noted image t (point + 1)) ≡ true) × (Some (point + 1) ≡ point_at t.thread (address_of t.thread point + 4))
next-found image t point next address has is at place = (
  ap (λ (n : ℕ). has_state (noted image t n)) (sym is) ∙ has,
  ap (λ (n : ℕ). Some n) (sym is) ∙ at ∙ ap (λ (n : ℕ). point_at t.thread (n + 4)) place,
)

-- ---- from an instruction

module _ (law : (t : Thread) (at : Point) (instr : Instr) (state next : PointState) (edge : Edge) → follows_edge instr state (Some edge) ≡ Known next
    → first_broken (edge_rules t at state.measure (program_edge instr state.slots edge) (Known next)) ≡ None) where
  to-state : (t : Thread) (at : Point) (instr : Instr) (s : PointState) (edge : Edge) (n : Noted) → follows_edge instr s (Some edge) ≡ n → has_state n ≡ true
      → first_broken (edge_rules t at s.measure (program_edge instr s.slots edge) n) ≡ None
  to-state t at instr s edge (Known next) is has = law t at instr s next edge is
  to-state t at instr s edge Missing is has = absurd (let clash : false ≡ true = has in cc)
  to-state t at instr s edge Unmeasured is has = absurd (let clash : false ≡ true = has in cc)

  on-edge : (image : Image) (t : Numbered) (point target : ℕ) (s : PointState) (instr : Instr) (e : Option Edge) → GoesTo target e →
      noted_at image t target ≡ follows_edge instr s e
      → has_state (follows_edge instr s e) ≡ true → first_broken (way_rules image t point s instr e) ≡ None
  on-edge image t point target s instr None goes is has = refl
  on-edge image t point target s instr (Some edge) goes is has =
      let found : noted_at image t edge.target ≡ follows_edge instr s (Some edge) = ap (noted_at image t) goes ∙ is in
      ap (λ (n : Noted). first_broken (edge_rules t.thread (point_of t point) s.measure (program_edge instr s.slots edge) n)) found
      ∙ to-state t.thread (point_of t point) instr s edge (follows_edge instr s (Some edge)) refl has

  pub next-kept : (image : Image) (t : Numbered) (point : ℕ) (s : PointState) (instr : Instr) → Known s ≡ noted image t point
      → instruction_at t.thread point ≡ Some instr → instr ≢ Ecall → record_of t.thread (point + 1) ≡ None → has_state (noted image t (point + 1)) ≡ true
      → Some (point + 1) ≡ point_at t.thread (address_of t.thread point + 4) → address_of t.thread point + 4 < 2 ^ 32
      → first_broken (way_rules image t point s instr (after (address_of t.thread point) instr s.ranges).fall_through) ≡ None
  next-kept image t point s instr known is plain none has at less =
      let target = behind (address_of t.thread point) in
      let as-plain = plain-follows image t point s instr plain in
      let place : target ≡ address_of t.thread point + 4 = omega (arith, less) in
      on-edge image t point target s instr (after (address_of t.thread point) instr s.ranges).fall_through
      (goes-behind (address_of t.thread point) instr s.ranges)
      (next-at image t point s instr known is none target place at ∙ as-plain)
      (sym (ap has_state (left-next image t point s instr known is none ∙ as-plain)) ∙ has)

-- ---- from a system call

module _ (law : (t : Thread) (at : Point) (pc : ℕ) (state next : PointState) (a : AfterCall) → behind_call t state.measure a ≡ Known next
    → first_broken (edge_rules t at state.measure (call_edge pc state.ranges a) (Known next)) ≡ None) where
  behind-state : (t : Thread) (at : Point) (pc : ℕ) (s : PointState) (a : AfterCall) (n : Noted) → behind_call t s.measure a ≡ n → has_state n ≡ true
      → first_broken (edge_rules t at s.measure (call_edge pc s.ranges a) n) ≡ None
  behind-state t at pc s a (Known next) is has = law t at pc s next a is
  behind-state t at pc s a Missing is has = absurd (let clash : false ≡ true = has in cc)
  behind-state t at pc s a Unmeasured is has = absurd (let clash : false ≡ true = has in cc)

  on-call : (image : Image) (t : Numbered) (point : ℕ) (s : PointState) (o : Option (Result AfterCall Refusal)) →
      noted_at image t (address_of t.thread point + 4) ≡ follows_call t.thread s.measure o
      → has_state (follows_call t.thread s.measure o) ≡ true → told_of image t point s o ≡ None
  on-call image t point s None found has = absurd (let clash : false ≡ true = has in cc)
  on-call image t point s (Some (Err refusal)) found has = absurd (let clash : false ≡ true = has in cc)
  on-call image t point s (Some (Ok a)) found has =
      let pc = address_of t.thread point in
      ap (λ (n : Noted). first_broken (edge_rules t.thread (point_of t point) s.measure (call_edge pc s.ranges a) n)) found
      ∙ behind-state t.thread (point_of t point) pc s a (behind_call t.thread s.measure a) refl has

  pub next-call-kept : (image : Image) (t : Numbered) (point : ℕ) (s : PointState) → Known s ≡ noted image t point
      → instruction_at t.thread point ≡ Some Ecall → record_of t.thread (point + 1) ≡ None → has_state (noted image t (point + 1)) ≡ true
      → Some (point + 1) ≡ point_at t.thread (address_of t.thread point + 4) → first_broken (later_rules image t point s (Some Ecall)) ≡ None
  next-call-kept image t point s known is none has at =
      call-told image t point s (call_at image t point s) is refl
      ∙ on-call image t point s (call_at image t point s) (next-at image t point s Ecall known is none (address_of t.thread point + 4) refl at)
      (sym (ap has_state (left-next image t point s Ecall known is none)) ∙ has)
