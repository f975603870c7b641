-- By one line more.
use Rattle.std.proofs.Common.{◌∙◌, ◌+◌, ◌==◌, ◌&&◌, ◌||◌, drop, ap, arith}
use Rattle.std.specs.List.{enumerate_from}
use Rattle.model.specs.declared.entries.ImageHeader.{ImageHeader}
use Rattle.model.specs.Acceptance.ThreadRules.{is_member}
use Rattle.model.specs.Images.Described.{numbered}
use Rattle.parts.proofs.Left.{left-next, left-none, numbered-next, numbered-none}
use Rattle.parts.proofs.uses.note_lines.Goals as goal

pub loop-number-preserved : goal.loop-number-preserved
loop-number-preserved c =
    let image = c.args.image.now in
    let k = c.loop-number.number in
    let x = c.interrupt.result in
    left-next (λ i n. is_member (image.header.objects + i.0) c.args.sources.now && (i.1).notification == n) (numbered image.interrupts)
    (enumerate_from k (drop k image.interrupts)) (enumerate_from (k + 1) (drop (k + 1) image.interrupts)) (k, x) c.args.changes.now c.loop-number.changes
    c.put_if.new.set (numbered-next image.interrupts k x c.interrupt.ensures)
    (λ n. c.in_ok-put_if.ensures.put n
    ∙ ap (λ b. is_member n c.loop-number.changes || (b && x.notification == n))
    (c.contains-is_held.ensures ∙ ap (λ (h : ImageHeader). is_member (h.objects + k) c.args.sources.now) c.header_of-header.ensures.value))
    c.loop-number.invariant

pub returns-clause-changes : goal.returns-clause-changes
returns-clause-changes c =
    let image = c.args.image.now in
    let k = c.loop-number.number in
    let count = ap (λ (h : ImageHeader). h.interrupts) c.header_of-header.ensures.value in
    left-none (λ i n. is_member (image.header.objects + i.0) c.args.sources.now && (i.1).notification == n) (numbered image.interrupts)
    (enumerate_from k (drop k image.interrupts)) c.args.changes.now c.loop-number.changes
    (numbered-none image.interrupts k (omega (arith, c.loop-number-test.false, count, c.header_of-header.ensures.counts.interrupts))) c.loop-number.invariant
