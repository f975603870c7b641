-- The lines so far have been asked for.
use Rattle.std.proofs.Common.{ℕ, ◌≡◌, ◌/◌, ◌<◌, ◌≤◌, ◌&&◌, false, length, not}
use Rattle.slots.specs.Listed.{is_handled}
use Rattle.cnode_ops.specs.Lines.{has_line}
use Rattle.cnode_ops.proofs.lines.lines_lost.Given as goal

abbrev pub invariant-lines : goal.invariant-lines
invariant-lines g l = record {
  told : (line : ℕ) → line < l.line → has_line l.lost line ≡ (has_line l.gone line
      && not (is_handled (g.S.SlotMap.slots l.store) (length (g.S.SlotStore.memory l.store) / 16) line));
  rest : (line : ℕ) → l.line ≤ line → line < 64 → has_line l.lost line ≡ false;
}
