use Rattle.std.proofs.Common.{refl}
use Rattle.std.proofs.lemmas.Result.{err_from_is_err_and}
use Rattle.image_reading.proofs.headers.program_at.Goals as goal

pub returns-in_err-fault-clause-reads : goal.returns-in_err-fault-clause-reads
returns-in_err-fault-clause-reads c =
    let p = err_from_is_err_and c.from_residual.result c.from_residual.ensures.1 in
    rw (p.1, p.2, ← c.in_err-fault.ensures) refl

pub returns-in_err-buffer-clause-reads : goal.returns-in_err-buffer-clause-reads
returns-in_err-buffer-clause-reads c =
    let p = err_from_is_err_and c.from_residual-in_err-buffer.result c.from_residual-in_err-buffer.ensures.1 in
    rw (p.1, p.2, ← c.in_ok-fault.ensures, ← c.in_err-buffer.ensures) refl

pub returns-in_err-entry-clause-reads : goal.returns-in_err-entry-clause-reads
returns-in_err-entry-clause-reads c =
    let p = err_from_is_err_and c.from_residual-in_err-entry.result c.from_residual-in_err-entry.ensures.1 in
    rw (p.1, p.2, ← c.in_ok-fault.ensures, ← c.in_ok-buffer.ensures, ← c.in_err-entry.ensures) refl

pub returns-in_err-base-clause-reads : goal.returns-in_err-base-clause-reads
returns-in_err-base-clause-reads c =
    let p = err_from_is_err_and c.from_residual-in_err-base.result c.from_residual-in_err-base.ensures.1 in
    rw (p.1, p.2, ← c.in_ok-fault.ensures, ← c.in_ok-buffer.ensures, ← c.in_ok-entry.ensures, ← c.in_err-base.ensures) refl

pub returns-in_err-registers-clause-reads : goal.returns-in_err-registers-clause-reads
returns-in_err-registers-clause-reads c =
    let p = err_from_is_err_and c.from_residual-in_err-registers.result c.from_residual-in_err-registers.ensures.1 in
    rw (p.1, p.2, ← c.in_ok-fault.ensures, ← c.in_ok-buffer.ensures, ← c.in_ok-entry.ensures, ← c.in_ok-base.ensures, ← c.in_err-registers.ensures) refl

pub returns-in_err-words-clause-reads : goal.returns-in_err-words-clause-reads
returns-in_err-words-clause-reads c =
    let p = err_from_is_err_and c.from_residual-in_err-words.result c.from_residual-in_err-words.ensures.1 in
    rw (
      p.1,
      p.2,
      ← c.in_ok-fault.ensures,
      ← c.in_ok-buffer.ensures,
      ← c.in_ok-entry.ensures,
      ← c.in_ok-base.ensures,
      ← c.in_ok-registers.ensures,
      ← c.in_err-words.ensures.reads,
    ) refl

pub returns-in_err-records-clause-reads : goal.returns-in_err-records-clause-reads
returns-in_err-records-clause-reads c =
    let p = err_from_is_err_and c.from_residual-in_err-records.result c.from_residual-in_err-records.ensures.1 in
    rw (
      p.1,
      p.2,
      ← c.in_ok-fault.ensures,
      ← c.in_ok-buffer.ensures,
      ← c.in_ok-entry.ensures,
      ← c.in_ok-base.ensures,
      ← c.in_ok-registers.ensures,
      ← c.in_ok-words.ensures.reads,
      ← c.in_err-records.ensures,
    ) refl

pub returns-clause-reads : goal.returns-clause-reads
returns-clause-reads c = rw (
  ← c.in_ok-fault.ensures,
  ← c.in_ok-buffer.ensures,
  ← c.in_ok-entry.ensures,
  ← c.in_ok-base.ensures,
  ← c.in_ok-registers.ensures,
  ← c.in_ok-words.ensures.reads,
  ← c.in_ok-records.ensures,
) refl
