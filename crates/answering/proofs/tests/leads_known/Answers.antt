-- A system call leaves what no message writes, and another instruction has the ways that the rules give it.
use Rattle.std.proofs.Common.{◌∙◌, Option, ap, sym}
use Rattle.model.specs.declared.instructions.Instr.{Instr}
use Rattle.settled_threads.specs.Answering.{are_known, leads_known}
use Rattle.answering.proofs.Ways.{call-known, instr-known}
use Rattle.answering.proofs.tests.leads_known.Goals as goal

pub returns-then-is_call : goal.returns-then-is_call
returns-then-is_call c =
    c.are_known.ensures ∙ ap (are_known c.args.next.now) c.after_call.ensures
    ∙ call-known c.args.target c.args.next.now c.args.pc c.args.bounds.now c.in-Some.instr (sym c.is_call.ensures ∙ c.if-is_call.true)
    ∙ ap (λ (o : Option Instr). leads_known c.args.pc c.args.target c.args.bounds.now c.args.next.now o) (sym c.in-Some.is ∙ c.decode.ensures.value)

pub returns-else-is_call : goal.returns-else-is_call
returns-else-is_call c =
    c.ways_known.ensures
    ∙ instr-known c.args.target c.args.next.now c.args.pc c.args.bounds.now c.in-Some.instr c.after-ways.result (sym c.is_call.ensures ∙ c.if-is_call.false)
    c.after-ways.ensures.ways
    ∙ ap (λ (o : Option Instr). leads_known c.args.pc c.args.target c.args.bounds.now c.args.next.now o) (sym c.in-Some.is ∙ c.decode.ensures.value)
