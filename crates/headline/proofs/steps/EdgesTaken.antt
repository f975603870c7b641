-- An instruction that is neither a system call nor a computed jump takes one of its edges: the registers lie in the ranges before it,
-- it goes on if the edge leads to a multiple of 4, and then the registers lie in the ranges after it.
use Rattle.std.proofs.Common.{ℕ, ◌≡◌, ◌∙◌, ◌==◌, ◌+◌, ◌%◌, ◌^◌, ◌++◌, Bool, true, false, if◌then◌else◌, List, ◌∷◌, length, Ok, Option, Some, None, refl, sym}
use Rattle.std.proofs.Common.{ap, subst, arith}
use Rattle.std.specs.Prelude.{ℤ, Contains, option_to_list, slice_set}
use Rattle.std.proofs.lemmas.Bool.{eq-eqb}
use Rattle.model.specs.declared.instructions.Access.TheVariants as accesses
use Rattle.model.specs.declared.instructions.BranchOp.{BranchOp}
use Rattle.model.specs.declared.instructions.Cause.TheVariants.{Misaligned}
use Rattle.model.specs.declared.instructions.Exec.{Exec}
use Rattle.model.specs.declared.instructions.Exec.TheVariants as outcomes
use Rattle.model.specs.declared.instructions.Instr.{Instr}
use Rattle.model.specs.declared.instructions.Instr.TheVariants.{Upper, Jal, Jalr, Branch, Load, Store, Immediate, Shift, Registers, Fence, Ecall, Ebreak}
use Rattle.model.specs.declared.instructions.Register.{Register}
use Rattle.model.specs.declared.ranges.Range.{Range}
use Rattle.model.specs.Acceptance.Edges.{Edge, Edges, after, behind, branch_edge, edge_to, goes_behind}
use Rattle.model.specs.Acceptance.ThreadInvariants.{LieWithin}
use Rattle.model.specs.Machine.Effects.{advanced, branches, effect, goes_on, is_taken, jumps, load_size, loads, next_pc, plus, stays, store_size, stores}
use Rattle.model.specs.Machine.Instructions.{IsInstr}
use Rattle.model.specs.Machine.ProgramMemory.{Content, RegisterFile, loaded, read, stored, write}
use Rattle.ranges.specs.Standing.{AreWords}
use Rattle.ranges.proofs.Laws.{behind-written, branch_kept, instruction-keeps, jump-keeps, jump-leads}
use Rattle.headline.specs.steps.Taken.{IsPlain, MayTake, Reaches, edges_among}

-- ---- where the pc is

jump-goes : (r : RegisterFile) (content : Content) (written : RegisterFile) (target : ℕ) → target % 4 ≡ 0 →
    (jumps r content written target).exec ≡ outcomes.Next
jump-goes r content written target aligned =
    ap (λ b. (if b then goes_on (record written { pc = target }) content else stays r content (outcomes.Trap Misaligned)).exec) (eq-eqb (target % 4) 0 aligned)

-- ---- edges among those of an instruction

among-taken : (edges : Edges) (edge : Edge) → edges.taken ≡ Some edge → Contains (edges_among edges) edge
among-taken edges edge is = subst (λ (o : Option Edge). Contains (option_to_list o ++ option_to_list edges.fall_through) edge) (sym is) (0, omega arith, refl)

among-through : (edges : Edges) (edge : Edge) → edges.fall_through ≡ Some edge → edges.taken ≡ None → Contains (edges_among edges) edge
among-through edges edge is none =
    subst (λ (o : Option Edge). Contains (option_to_list o ++ option_to_list edges.fall_through) edge) (sym none)
    (subst (λ (o : Option Edge). Contains (option_to_list o) edge) (sym is) (0, omega arith, refl))

among-second : (edges : Edges) (edge : Edge) → edges.fall_through ≡ Some edge → Contains (edges_among edges) edge
among-second edges edge is = elim (edges.taken) as (λ o. Contains (option_to_list o ++ option_to_list edges.fall_through) edge) [
  | None ↦ subst (λ (o : Option Edge). Contains (option_to_list o) edge) (sym is) (0, omega arith, refl)
  | Some other ↦ subst (λ (o : Option Edge). Contains (other ∷ option_to_list o) edge) (sym is) (1, omega arith, refl)
]

-- ---- ways on

module _ (r : RegisterFile) (content : Content) (ranges : List Range) (are : AreWords r content) (long : length ranges ≡ 31) (lie : LieWithin r ranges) where
  behind-takes : (instr : Instr) → IsInstr instr → after r.pc instr ranges ≡ goes_behind r.pc instr ranges → (effect r content instr).exec ≡ outcomes.Next
      → (effect r content instr).registers.pc ≡ behind r.pc → MayTake r content ranges instr
  behind-takes instr fits is goes there = record {
    edge = edge_to (behind r.pc) r.pc instr ranges;
    among = subst (λ (e : Edges). Contains (edges_among e) (edge_to (behind r.pc) r.pc instr ranges)) (sym is) (0, omega arith, refl);
    before = lie;
    goes = λ _. goes;
    leads = λ goes_too. (there, instruction-keeps r content ranges instr are.count long are.words are.bytes fits lie goes_too);
  }

  branch-takes : (op : BranchOp) (rs1 rs2 : Register) (offset : ℤ) (taken : Bool) → IsInstr (Branch op rs1 rs2 offset) →
      is_taken op (read r rs1) (read r rs2) ≡ taken
      → MayTake r content ranges (Branch op rs1 rs2 offset)
  unfolding after effect
  branch-takes op rs1 rs2 offset true fits is =
      let kept = branch_kept r ranges op rs1 rs2 true long are.words fits.0 fits.1 lie is in
      let target = plus r.pc offset in
      let edges = after r.pc (Branch op rs1 rs2 offset) ranges in
      let edge : Edge = record { target = target; before = kept.0; ranges = kept.0 } in
      let here : branches r content (is_taken op (read r rs1) (read r rs2)) target ≡ jumps r content r target = ap (λ b. branches r content b target) is in
      record {
        edge = edge;
        among = among-taken edges edge (ap (branch_edge target) kept.1);
        before = kept.2;
        goes = λ aligned. ap (λ e. e.exec) here ∙ jump-goes r content r target aligned;
        leads = λ goes.
            let on = sym (ap (λ e. e.exec) here) ∙ goes in (
              ap (λ e. e.registers.pc) here ∙ jump-leads r content r target on,
              subst (λ e. LieWithin e.registers kept.0) (sym here) (jump-keeps r content r target kept.0 kept.2 on),
            );
      }
  branch-takes op rs1 rs2 offset false fits is =
      let kept = branch_kept r ranges op rs1 rs2 false long are.words fits.0 fits.1 lie is in
      let target = plus r.pc offset in
      let edges = after r.pc (Branch op rs1 rs2 offset) ranges in
      let edge : Edge = record { target = behind r.pc; before = kept.0; ranges = kept.0 } in
      let here : branches r content (is_taken op (read r rs1) (read r rs2)) target ≡ goes_on (advanced r) content = ap (λ b. branches r content b target) is in
      record {
        edge = edge;
        among = among-second edges edge (ap (branch_edge (behind r.pc)) kept.1);
        before = kept.2;
        goes = λ _. ap (λ e. e.exec) here;
        leads = λ goes. (ap (λ e. e.registers.pc) here, subst (λ e. LieWithin e.registers kept.0) (sym here) kept.2);
      }

  pub may-take : (instr : Instr) → IsInstr instr → IsPlain instr → Reaches r content instr → MayTake r content ranges instr
  unfolding after effect
  may-take (Upper op rd immediate) fits plain reaches = behind-takes (Upper op rd immediate) fits refl refl (behind-written r rd _)
  may-take (Jal rd offset) fits plain reaches =
      let target = plus r.pc offset in
      let written = write r rd (next_pc r) in
      record {
        edge = edge_to target r.pc (Jal rd offset) ranges;
        among = (0, omega arith, refl);
        before = lie;
        goes = jump-goes r content written target;
        leads = λ goes. (
          jump-leads r content written target goes,
          instruction-keeps r content ranges (Jal rd offset) are.count long are.words are.bytes fits lie goes,
        );
      }
  may-take (Jalr rd rs1 offset) fits plain reaches = absurd plain
  may-take (Branch op rs1 rs2 offset) fits plain reaches = branch-takes op rs1 rs2 offset (is_taken op (read r rs1) (read r rs2)) fits refl
  may-take (Load op rd rs1 offset) fits plain reaches =
      let here : loads r content op rd (loaded content accesses.Load (load_size op) (plus (read r rs1) offset)) ≡ loads r content op rd (Ok reaches.0) =
      ap (loads r content op rd) reaches.1 in
      behind-takes (Load op rd rs1 offset) fits refl (ap (λ e. e.exec) here) (ap (λ e. e.registers.pc) here ∙ behind-written r rd _)
  may-take (Store op rs1 rs2 offset) fits plain reaches =
      let here : stores r content (stored content (store_size op) (plus (read r rs1) offset) (read r rs2)) ≡ stores r content (Ok reaches.0) =
      ap (stores r content) reaches.1 in
      behind-takes (Store op rs1 rs2 offset) fits refl (ap (λ e. e.exec) here) (ap (λ e. e.registers.pc) here)
  may-take (Immediate op rd rs1 immediate) fits plain reaches = behind-takes (Immediate op rd rs1 immediate) fits refl refl (behind-written r rd _)
  may-take (Shift op rd rs1 amount) fits plain reaches = behind-takes (Shift op rd rs1 amount) fits refl refl (behind-written r rd _)
  may-take (Registers op rd rs1 rs2) fits plain reaches = behind-takes (Registers op rd rs1 rs2) fits refl refl (behind-written r rd _)
  may-take Fence fits plain reaches = behind-takes Fence fits refl refl refl
  may-take Ecall fits plain reaches = absurd plain
  may-take Ebreak fits plain reaches = absurd plain
