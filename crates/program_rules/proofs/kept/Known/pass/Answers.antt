-- The ranges on the way to the next point, and a constant that is one less.
use Rattle.std.proofs.Common.{◌∙◌, ◌+◌, ◌^◌, negsuc, sym, subst}
use Rattle.std.specs.Prelude.{◌≤ℤ◌}
use Rattle.measure.specs.Measures.{measure_of}
use Rattle.model.specs.Acceptance.Edges.{after}
use Rattle.model.specs.Acceptance.Measures.{Measure}
use Rattle.program_rules.proofs.Followed.{not-passed, one-less, passed-known, passed-unmeasured}
use Rattle.program_rules.proofs.kept.Known.pass.Goals as goal
use Rattle.program_rules.specs.Kept.{state_by}

pub returns-then-not-pass-clause-same : goal.returns-then-not-pass-clause-same
returns-then-not-pass-clause-same c = λ slots log.
    not-passed c.args.instr (state_by slots log c.args.self.now) (after c.args.pc c.args.instr c.args.self.now.bounds).fall_through c.pass.new.bounds
    c.pass.result c.pass.ensures c.if-not-pass.true

pub returns-then-writes_term-clause-same : goal.returns-then-writes_term-clause-same
returns-then-writes_term-clause-same c = λ slots log.
    passed-unmeasured c.args.instr (state_by slots log c.args.self.now) (after c.args.pc c.args.instr c.args.self.now.bounds).fall_through
    c.pass.new.bounds c.pass.result c.pass.ensures c.if-not-pass.false (sym c.writes_term.ensures ∙ c.if-writes_term.true)

pub returns-clause-same : goal.returns-clause-same
returns-clause-same c = λ slots log.
    passed-known c.args.instr (state_by slots log c.args.self.now) (after c.args.pc c.args.instr c.args.self.now.bounds).fall_through
    c.pass.new.bounds c.pass.result (measure_of c.lowered-self.result) c.pass.ensures c.if-not-pass.false
    (sym c.writes_term.ensures ∙ c.if-writes_term.false) c.lowered-self.ensures

pub returns-clause-sound : goal.returns-clause-sound
returns-clause-sound c = λ log point sound. (
  sound.0,
  subst (λ (m : Measure). negsuc (2 ^ 62 + (point + 1)) ≤ℤ m.constant) (sym c.lowered-self.ensures)
      (one-less point (measure_of c.args.self.now.measure).constant sound.1),
)
