use Rattle.std.proofs.Common.{◌-◌, List, length, ap, sym, ◌∙◌, arith}
use Rattle.image_reading.proofs.EntryLists.{values_of-none, first_of, first_not_refused}
use Rattle.image_reading.proofs.entries.SectionIterator.next.Goals as goal

pub returns-then-self-eq0-clause-steps : goal.returns-then-self-eq0-clause-steps
returns-then-self-eq0-clause-steps g c =
    let r = c.self.inside in
    let none = values_of-none (g.E.Listed.format r.counts) g.E.Listed.next r.least r.left r.bytes.now r.at c.if-self-eq0.true in
    (sym c.self.view_is ∙ none, sym c.self.view_is ∙ none)

pub invariant_of-self : goal.invariant_of-self
invariant_of-self g c =
    let r = c.self.inside in
    let f = first_of (g.E.Listed.format r.counts) g.E.Listed.next r.least r.left (r.left - 1) r.bytes.now r.at c.in-Ok.entry c.in-Ok.next (omega arith)
    c.self.invariant c.in-Ok.ensures.reads in
    rw c.least_after-self-inside.ensures f.rest

pub unreachable-requires : goal.unreachable-requires
unreachable-requires g c =
    let r = c.self.inside in
    first_not_refused (g.E.Listed.format r.counts) g.E.Listed.next r.least r.left r.bytes.now r.at c.in-Err.field-0 (omega arith) c.self.invariant
    c.in-Err.ensures.reads

pub returns-clause-steps : goal.returns-clause-steps
returns-clause-steps g c =
    let r = c.self.inside in
    let f = first_of (g.E.Listed.format r.counts) g.E.Listed.next r.least r.left (r.left - 1) r.bytes.now r.at c.in-Ok.entry c.in-Ok.next (omega arith)
    c.self.invariant c.in-Ok.ensures.reads in
    sym c.self.view_is ∙ rw c.least_after-self-inside.ensures f.values

pub returns-clause-goes : goal.returns-clause-goes
returns-clause-goes g c =
    let r = c.self.inside in
    let f = first_of (g.E.Listed.format r.counts) g.E.Listed.next r.least r.left (r.left - 1) r.bytes.now r.at c.in-Ok.entry c.in-Ok.next (omega arith)
    c.self.invariant c.in-Ok.ensures.reads in
    let old = ap (λ (l : List g.row.E.Denot). length l) c.self.view_is in
    let new = ap (λ (l : List g.row.E.Denot). length l) f.values in
    rw c.least_after-self-inside.ensures (record { on = λ _. (tt, tt, omega (arith, old, new)); keeps = tt; rests = λ _. tt })
