use Rattle.std.proofs.Common.{◌-◌, List, length, ap, sym, ◌∙◌, arith}
use Rattle.model.specs.Images.Image.{Thread, slots_format, thread_format}
use Rattle.image_reading.proofs.EntryLists.{values_of-none, first_of, first_not_refused}
use Rattle.image_reading.proofs.threads.ThreadsIterator.next.Goals as goal

pub returns-then-self-eq0-clause-steps : goal.returns-then-self-eq0-clause-steps
returns-then-self-eq0-clause-steps c =
    let r = c.self.inside in
    let none = values_of-none (λ _. thread_format (slots_format r.counts.objects) r.version r.counts.objects) (λ _. 0) 0 r.left r.bytes.now r.at
    c.if-self-eq0.true in
    (sym c.self.view_is ∙ none, sym c.self.view_is ∙ none)

pub invariant_of-self : goal.invariant_of-self
invariant_of-self c =
    let r = c.self.inside in
    let f = first_of (λ _. thread_format (slots_format r.counts.objects) r.version r.counts.objects) (λ _. 0) 0 r.left (r.left - 1) r.bytes.now r.at
    c.in-Ok.thread
    c.in-Ok.next (omega arith) c.self.invariant c.in-Ok.ensures in
    f.rest

pub unreachable-requires : goal.unreachable-requires
unreachable-requires c =
    let r = c.self.inside in
    first_not_refused (λ _. thread_format (slots_format r.counts.objects) r.version r.counts.objects) (λ _. 0) 0 r.left r.bytes.now r.at c.in-Err.field-0
    (omega arith)
    c.self.invariant c.in-Err.ensures

pub returns-clause-steps : goal.returns-clause-steps
returns-clause-steps c =
    let r = c.self.inside in
    let f = first_of (λ _. thread_format (slots_format r.counts.objects) r.version r.counts.objects) (λ _. 0) 0 r.left (r.left - 1) r.bytes.now r.at
    c.in-Ok.thread
    c.in-Ok.next (omega arith) c.self.invariant c.in-Ok.ensures in
    sym c.self.view_is ∙ f.values

pub returns-clause-goes : goal.returns-clause-goes
returns-clause-goes c =
    let r = c.self.inside in
    let f = first_of (λ _. thread_format (slots_format r.counts.objects) r.version r.counts.objects) (λ _. 0) 0 r.left (r.left - 1) r.bytes.now r.at
    c.in-Ok.thread
    c.in-Ok.next (omega arith) c.self.invariant c.in-Ok.ensures in
    let old = ap (λ (l : List Thread). length l) c.self.view_is in
    let new = ap (λ (l : List Thread). length l) f.values in
    (record { on = λ _. (tt, tt, omega (arith, old, new)); keeps = tt; rests = λ _. tt })
