-- A line of a certificate is passed by, another one is the first that is kept.
use Rattle.std.proofs.Common.{◌∙◌, sym}
use Rattle.certified_texts.proofs.FirstLines.{kept-next, kept-none, kept-other}
use Rattle.certified_texts.proofs.comparing.first_kept.Goals as goal

pub returns-then-not-is_certificate : goal.returns-then-not-is_certificate
returns-then-not-is_certificate c =
    c.lines.invariant ∙ kept-next c.lines.left.now c.in-Some.line.now c.in-Some.behind.now c.in-Some.ensures
    (sym c.is_certificate.ensures ∙ c.if-not-is_certificate.true)

pub lines-preserved : goal.lines-preserved
lines-preserved c =
    c.lines.invariant ∙ kept-other c.lines.left.now c.in-Some.line.now c.in-Some.behind.now c.in-Some.ensures
    (sym c.is_certificate.ensures ∙ c.if-not-is_certificate.false)

pub returns : goal.returns
returns c = c.lines.invariant ∙ kept-none c.lines.left.now c.in_default.ensures
