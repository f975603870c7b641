use Rattle.std.proofs.Common.{refl}
use Rattle.std.proofs.lemmas.Result.{err_from_is_err_and}
use Rattle.model.specs.Images.Image.{thread_header_format}
use Rattle.image_reading.proofs.headers.thread_header.Goals as goal

pub returns-in_err-tcb-clause-reads : goal.returns-in_err-tcb-clause-reads
unfolding thread_header_format
returns-in_err-tcb-clause-reads c =
    let p = err_from_is_err_and c.from_residual.result c.from_residual.ensures.1 in
    rw (p.1, p.2, ← c.in_err-tcb.ensures.reads) refl

pub returns-in_err-cnode-clause-reads : goal.returns-in_err-cnode-clause-reads
unfolding thread_header_format
returns-in_err-cnode-clause-reads c =
    let p = err_from_is_err_and c.from_residual-in_err-cnode.result c.from_residual-in_err-cnode.ensures.1 in
    rw (p.1, p.2, ← c.in_ok-tcb.ensures.reads, ← c.in_err-cnode.ensures.reads) refl

pub returns-in_err-guard-clause-reads : goal.returns-in_err-guard-clause-reads
unfolding thread_header_format
returns-in_err-guard-clause-reads c =
    let p = err_from_is_err_and c.from_residual-in_err-guard.result c.from_residual-in_err-guard.ensures.1 in
    rw (p.1, p.2, ← c.in_ok-tcb.ensures.reads, ← c.in_ok-cnode.ensures.reads, ← c.in_err-guard.ensures) refl

pub returns-in_err-root-clause-reads : goal.returns-in_err-root-clause-reads
unfolding thread_header_format
returns-in_err-root-clause-reads c =
    let p = err_from_is_err_and c.from_residual-in_err-root.result c.from_residual-in_err-root.ensures.1 in
    rw (p.1, p.2, ← c.in_ok-tcb.ensures.reads, ← c.in_ok-cnode.ensures.reads, ← c.in_ok-guard.ensures, ← c.in_err-root.ensures.reads) refl

pub returns-in_err-priority-clause-reads : goal.returns-in_err-priority-clause-reads
unfolding thread_header_format
returns-in_err-priority-clause-reads c =
    let p = err_from_is_err_and c.from_residual-in_err-priority.result c.from_residual-in_err-priority.ensures.1 in
    rw (
      p.1,
      p.2,
      ← c.in_ok-tcb.ensures.reads,
      ← c.in_ok-cnode.ensures.reads,
      ← c.in_ok-guard.ensures,
      ← c.in_ok-root.ensures.reads,
      ← c.in_err-priority.ensures,
    ) refl

pub returns-in_err-budget-clause-reads : goal.returns-in_err-budget-clause-reads
unfolding thread_header_format
returns-in_err-budget-clause-reads c =
    let p = err_from_is_err_and c.from_residual-in_err-budget.result c.from_residual-in_err-budget.ensures.1 in
    rw (
      p.1,
      p.2,
      ← c.in_ok-tcb.ensures.reads,
      ← c.in_ok-cnode.ensures.reads,
      ← c.in_ok-guard.ensures,
      ← c.in_ok-root.ensures.reads,
      ← c.in_ok-priority.ensures,
      ← c.in_err-budget.ensures,
    ) refl

pub returns-in_err-program-clause-reads : goal.returns-in_err-program-clause-reads
unfolding thread_header_format
returns-in_err-program-clause-reads c =
    let p = err_from_is_err_and c.from_residual-in_err-program.result c.from_residual-in_err-program.ensures.1 in
    rw (
      p.1,
      p.2,
      ← c.in_ok-tcb.ensures.reads,
      ← c.in_ok-cnode.ensures.reads,
      ← c.in_ok-guard.ensures,
      ← c.in_ok-root.ensures.reads,
      ← c.in_ok-priority.ensures,
      ← c.in_ok-budget.ensures,
      ← c.in_err-program.ensures.reads,
    ) refl

pub returns-clause-reads : goal.returns-clause-reads
unfolding thread_header_format
returns-clause-reads c = rw (
  ← c.in_ok-tcb.ensures.reads,
  ← c.in_ok-cnode.ensures.reads,
  ← c.in_ok-guard.ensures,
  ← c.in_ok-root.ensures.reads,
  ← c.in_ok-priority.ensures,
  ← c.in_ok-budget.ensures,
  ← c.in_ok-program.ensures.reads,
  ← c.program.view_is,
) refl
