-- No bit is set.
use Rattle.std.proofs.Common.{◌≡◌, ◌∙◌, inl, inr, true, false, sym}
use Rattle.std.proofs.lemmas.Bool.Decides.{eqb_tells}
use Rattle.cnode_ops.proofs.LineSets.{no-line}
use Rattle.cnode_ops.proofs.lines.LineSet.is_none.Goals as goal

pub returns : goal.returns
returns c = λ is. elim (eqb_tells c.args.self.bits 0) [
  | inl none ↦ no-line c.args.self none.1
  | inr some ↦ absurd (let clash : false ≡ true = sym some.0 ∙ is in cc)
]
