-- Who may reply is kept before the right is given.
use Rattle.std.proofs.Common.{ℕ, ◌≡◌, ◌∙◌, Some, length, subst, sym}
use Rattle.model.specs.Kernel.State.{ThreadObject}
use Rattle.objects.proofs.Frames.{moved-to, one-put, same-objects}
use Rattle.objects.proofs.Holding.{entry-there, threads-laid}
use Rattle.objects.proofs.OneThread.{caller-done, of-state, record-there}
use Rattle.objects.specs.Laid.{threads_by}
use Rattle.objects.specs.Rights.{noted, replier_at}
use Rattle.objects.specs.Tables.{Tables, state_of}
use Rattle.objects.specs.thread_records.Records.{IsRecordAt}
use Rattle.objects.specs.contracts.tables.Objects.{the_view}
use Rattle.objects.proofs.lives.Live.set_caller.Goals as goal

pub note-requires-clause-laid : goal.note-requires-clause-laid
note-requires-clause-laid g c =
    let slots = g.S.SlotMap.slots c.self.inside.store in
    let old = g.S.SlotStore.memory c.self.inside.store in
    let stands = rw (← c.objects.view_is) at c.self.invariant in
    threads-laid (the_view c.objects.inside) slots old stands

pub note-requires-clause-there : goal.note-requires-clause-there
note-requires-clause-there g c =
    let slots = g.S.SlotMap.slots c.self.inside.store in
    let old = g.S.SlotStore.memory c.self.inside.store in
    let there = rw (← c.self.view_is) at c.requires.there in
    let there = rw (← c.objects.view_is) at there in
    entry-there (the_view c.objects.inside) c.args.thread
    (of-state (the_view c.objects.inside) slots old c.args.thread there)

pub note-requires-clause-caller : goal.note-requires-clause-caller
note-requires-clause-caller g c =
    let slots = g.S.SlotMap.slots c.self.inside.store in
    let old = g.S.SlotStore.memory c.self.inside.store in
    let caller = rw (← c.self.view_is) at c.requires.caller in
    let caller = rw (← c.objects.view_is) at caller in
    λ other found. entry-there (the_view c.objects.inside) other
    (of-state (the_view c.objects.inside) slots old other (caller other found))

pub set_caller-requires : goal.set_caller-requires
set_caller-requires g c =
    let slots = g.S.SlotMap.slots c.self.inside.store in
    let old = g.S.SlotStore.memory c.self.inside.store in
    let there = rw (← c.self.view_is) at c.requires.there in
    record {
      there = subst (λ slots. IsRecordAt slots (length (g.S.SlotStore.memory c.note.new.store)) c.args.thread) (sym c.note.ensures.slots)
          (subst (λ size. IsRecordAt slots size c.args.thread) (sym c.note.ensures.bytes.size)
          (record-there c.self.inside.objects slots old c.self.invariant c.args.thread
          there));
    }

pub returns-clause-state : goal.returns-clause-state
returns-clause-state g c =
    let slots = g.S.SlotMap.slots c.self.inside.store in
    let old = g.S.SlotStore.memory c.self.inside.store in
    let caller = rw (← c.self.view_is) at c.requires.caller in
    let there = rw (← c.self.view_is) at c.requires.there in
    rw (← c.self.view_is) (let note = subst (λ (o : Tables). (other : ℕ) → c.args.caller ≡ Some other →
    replier_at (g.S.SlotStore.memory c.note.new.store) other ≡ noted (threads_by o.entries old) c.args.thread other
    (replier_at old other)) c.objects.view_is c.note.ensures.noted in
    (caller-done c.self.inside.objects slots (g.S.SlotMap.slots c.set_caller.new.store) old
    (g.S.SlotStore.memory c.set_caller.new.store) c.self.invariant (c.set_caller.ensures.slots ∙ c.note.ensures.slots) c.args.thread c.args.caller
    (g.S.SlotStore.memory c.note.new.store) there caller note c.note.ensures.bytes c.set_caller.ensures.bytes
    c.set_caller.ensures.record).0.state)

pub returns-clause-beside : goal.returns-clause-beside
returns-clause-beside g c =
    let slots = g.S.SlotMap.slots c.self.inside.store in
    let old = g.S.SlotStore.memory c.self.inside.store in
    let before = state_of c.self.inside.objects slots old in
    let caller = rw (← c.self.view_is) at c.requires.caller in
    let there = rw (← c.self.view_is) at c.requires.there in
    rw (← c.self.view_is) (record {
      slots = c.set_caller.ensures.slots ∙ c.note.ensures.slots;
      order = c.set_caller.ensures.order ∙ c.note.ensures.order;
      bytes = (let note = subst (λ (o : Tables). (other : ℕ) → c.args.caller ≡ Some other →
          replier_at (g.S.SlotStore.memory c.note.new.store) other ≡ noted (threads_by o.entries old) c.args.thread other
          (replier_at old other)) c.objects.view_is c.note.ensures.noted in
          same-objects before _
          old _
          (moved-to before _ _
          (caller-done c.self.inside.objects slots (g.S.SlotMap.slots c.set_caller.new.store) old
          (g.S.SlotStore.memory c.set_caller.new.store) c.self.invariant (c.set_caller.ensures.slots ∙ c.note.ensures.slots) c.args.thread c.args.caller
          (g.S.SlotStore.memory c.note.new.store) there caller note c.note.ensures.bytes c.set_caller.ensures.bytes
          c.set_caller.ensures.record).0.state (one-put before
          c.args.thread (ThreadObject _) there))
          (caller-done c.self.inside.objects slots (g.S.SlotMap.slots c.set_caller.new.store) old
          (g.S.SlotStore.memory c.set_caller.new.store) c.self.invariant (c.set_caller.ensures.slots ∙ c.note.ensures.slots) c.args.thread c.args.caller
          (g.S.SlotStore.memory c.note.new.store) there caller note c.note.ensures.bytes c.set_caller.ensures.bytes
          c.set_caller.ensures.record).1);
    })

pub invariant_of-self : goal.invariant_of-self
invariant_of-self g c =
    let slots = g.S.SlotMap.slots c.self.inside.store in
    let old = g.S.SlotStore.memory c.self.inside.store in
    let caller = rw (← c.self.view_is) at c.requires.caller in
    let there = rw (← c.self.view_is) at c.requires.there in
    let note = subst (λ (o : Tables). (other : ℕ) → c.args.caller ≡ Some other →
    replier_at (g.S.SlotStore.memory c.note.new.store) other ≡ noted (threads_by o.entries old) c.args.thread other
    (replier_at old other)) c.objects.view_is c.note.ensures.noted in
    (caller-done c.self.inside.objects slots (g.S.SlotMap.slots c.set_caller.new.store) old
    (g.S.SlotStore.memory c.set_caller.new.store) c.self.invariant (c.set_caller.ensures.slots ∙ c.note.ensures.slots) c.args.thread c.args.caller
    (g.S.SlotStore.memory c.note.new.store) there caller note c.note.ensures.bytes c.set_caller.ensures.bytes
    c.set_caller.ensures.record).0.stands
