-- A point keeps its rules where each test of its own rules says so, and it leaves the next point's state by its only way on.
use Rattle.std.proofs.Common.{ℕ, ◌≡◌, ◌≢◌, ◌∙◌, ◌⊎◌, ◌||◌, inl, inr, false, pos, Option, Some, None, refl, sym, ap}
use Rattle.std.specs.Option.{option_map_or, option_or}
use Rattle.std.specs.Prelude.{int_lt}
use Rattle.model.specs.Acceptance.Edges.{Edge, after}
use Rattle.model.specs.Acceptance.Measures.{least_value}
use Rattle.model.specs.Acceptance.NotedStates.{PointState, has_stray_slots, notes_outside, record_of}
use Rattle.model.specs.Acceptance.PointRules.{is_computed_jump, is_illegal, is_unmapped, state_rules}
use Rattle.model.specs.Acceptance.PointStates.{address_of, instruction_at}
use Rattle.model.specs.Acceptance.Rules.{first_broken}
use Rattle.model.specs.Acceptance.ThreadRules.{reached}
use Rattle.model.specs.Images.Described.{Numbered}
use Rattle.model.specs.Images.Image.{Image, StateRecord, Thread}
use Rattle.model.specs.declared.instructions.Instr.TheVariants.{Upper, Jal, Jalr, Branch, Load, Store, Immediate, Shift, Registers, Fence, Ecall, Ebreak}
use Rattle.model.specs.declared.instructions.Instr.{Instr}
use Rattle.model.specs.declared.refusals.Refusal.{Refusal}
use Rattle.program_rules.proofs.EdgeRules.{first-way}
use Rattle.program_rules.proofs.PointLists.{illegal-breaks, plain-later, state-first}
use Rattle.program_rules.specs.PointChecks.{later_rules, own_rules, way_rules}
use Rattle.typestate.specs.Strays.{NoneStray}

pub own-kept : (image : Image) (t : Numbered) (point : ℕ) (s : PointState) (instr : Option Instr) → is_illegal instr ≡ false → is_computed_jump instr ≡ false
    → has_stray_slots image t.thread point s ≡ false → int_lt (least_value s.measure s.ranges) (pos 1) ≡ false → is_unmapped image t.thread s instr ≡ false
    → first_broken (own_rules image t point s instr) ≡ None
own-kept image t point s instr legal direct none measured mapped = rw legal (rw direct (rw none (rw measured (rw mapped refl))))

-- at a point without a record no slot is one that the thread may not have, where none of its state is
pub none-stray : (image : Image) (t : Thread) (point : ℕ) (s : PointState) → record_of t point ≡ None → NoneStray image t s.slots
    → has_stray_slots image t point s ≡ false
unfolding has_stray_slots
none-stray image t point s bare clean =
    ap (λ b. b || option_map_or (notes_outside image (reached image t)) (record_of t point) false) clean
    ∙ ap (λ (r : Option StateRecord). option_map_or (notes_outside image (reached image t)) r false) bare

is-call : (i : Instr) → (i ≡ Ecall) ⊎ (i ≢ Ecall)
is-call (Jal rd offset) = inr (λ is. let clash : Jal rd offset ≡ Ecall = is in cc)
is-call (Branch op rs1 rs2 offset) = inr (λ is. let clash : Branch op rs1 rs2 offset ≡ Ecall = is in cc)
is-call (Upper op rd immediate) = inr (λ is. let clash : Upper op rd immediate ≡ Ecall = is in cc)
is-call (Load op rd rs1 offset) = inr (λ is. let clash : Load op rd rs1 offset ≡ Ecall = is in cc)
is-call (Store op rs1 rs2 offset) = inr (λ is. let clash : Store op rs1 rs2 offset ≡ Ecall = is in cc)
is-call (Immediate op rd rs1 immediate) = inr (λ is. let clash : Immediate op rd rs1 immediate ≡ Ecall = is in cc)
is-call (Shift op rd rs1 amount) = inr (λ is. let clash : Shift op rd rs1 amount ≡ Ecall = is in cc)
is-call (Registers op rd rs1 rs2) = inr (λ is. let clash : Registers op rd rs1 rs2 ≡ Ecall = is in cc)
is-call Fence = inr (λ is. let clash : Fence ≡ Ecall = is in cc)
is-call (Jalr rd rs1 offset) = inr (λ is. let clash : Jalr rd rs1 offset ≡ Ecall = is in cc)
is-call Ecall = inl refl
is-call Ebreak = inr (λ is. let clash : Ebreak ≡ Ecall = is in cc)

module _ (image : Image) (t : Numbered) (point : ℕ) (s : PointState)
    (plain : (i : Instr) → instruction_at t.thread point ≡ Some i → i ≢ Ecall
    → first_broken (way_rules image t point s i (after (address_of t.thread point) i s.ranges).fall_through) ≡ None)
    (call : instruction_at t.thread point ≡ Some Ecall → first_broken (later_rules image t point s (Some Ecall)) ≡ None) where
  later-kept : (i : Instr) → instruction_at t.thread point ≡ Some i → (after (address_of t.thread point) i s.ranges).taken ≡ None
      → (i ≡ Ecall) ⊎ (i ≢ Ecall) → first_broken (later_rules image t point s (Some i)) ≡ None
  later-kept i is none (inl same) =
      ap (λ (k : Instr). first_broken (later_rules image t point s (Some k))) same ∙ call (is ∙ ap (λ (k : Instr). Some k) same)
  later-kept i is none (inr other) =
      let fall = (after (address_of t.thread point) i s.ranges).fall_through in
      plain-later image t point s i other ∙ first-way image t point s i other is
      ∙ ap (λ (e : Option Edge). option_or (first_broken (way_rules image t point s i e)) (first_broken (way_rules image t point s i fall))) none
      ∙ plain i is other

  pub unseen-kept : (instr : Option Instr) → instruction_at t.thread point ≡ instr → first_broken (own_rules image t point s instr) ≡ None
      → ((i : Instr) → instr ≡ Some i → (after (address_of t.thread point) i s.ranges).taken ≡ None) → first_broken (state_rules image t point s) ≡ None
  unseen-kept None is own taken = absurd (illegal-breaks image t point s None refl (sym own))
  unseen-kept (Some i) is own taken =
      state-first image t point s (Some i) is
      ∙ ap (λ (o : Option Refusal). option_or o (first_broken (later_rules image t point s (Some i)))) own
      ∙ later-kept i is (taken i refl) (is-call i)
