-- By what is there.
use Rattle.std.proofs.Common.{ℕ, ◌+◌, ◌∙◌, ◌≤◌, List, length, ap, subst, sym, arith}
use Rattle.model.specs.Shared.Bytes.{word_at}
use Rattle.objects.proofs.NotificationWords.{word-nowhere, word-there}
use Rattle.objects.proofs.OneThread.{word-inside}
use Rattle.objects.specs.Tables.{kind_of_entry}
use Rattle.objects.specs.contracts.tables.Objects.{the_view}
use Rattle.objects.proofs.lives.Live.word.Goals as goal

pub overflow_add-notification : goal.overflow_add-notification
overflow_add-notification g c =
    let slots = g.S.SlotMap.slots c.self.inside.store in
    let old = g.S.SlotStore.memory c.self.inside.store in
    let stands = rw (← c.objects.view_is) at c.self.invariant in
    let inside = word-inside (the_view c.objects.inside) slots old stands
    c.args.notification (ap kind_of_entry (sym c.get.ensures ∙ c.in-Notification.is)) in
    let few = stands.placed.few in
    omega (arith, inside, few)

pub read32-requires : goal.read32-requires
read32-requires g c =
    let slots = g.S.SlotMap.slots c.self.inside.store in
    let old = g.S.SlotStore.memory c.self.inside.store in
    let stands = rw (← c.objects.view_is) at c.self.invariant in
    let inside = word-inside (the_view c.objects.inside) slots old stands
    c.args.notification (ap kind_of_entry (sym c.get.ensures ∙ c.in-Notification.is)) in
    subst (λ (m : List ℕ). c.args.notification + 8 + 4 ≤ length m) (sym c.mem.ensures) inside

pub returns-in-Notification : goal.returns-in-Notification
returns-in-Notification g c =
    let slots = g.S.SlotMap.slots c.self.inside.store in
    let old = g.S.SlotStore.memory c.self.inside.store in
    rw (← c.self.view_is, ← c.objects.view_is) (c.read32.ensures ∙ ap (λ (m : List ℕ). word_at m (c.args.notification + 8)) c.mem.ensures
    ∙ word-there (the_view c.objects.inside) slots old c.args.notification
    (sym c.get.ensures ∙ c.in-Notification.is))

pub returns-in_default : goal.returns-in_default
returns-in_default g c =
    let slots = g.S.SlotMap.slots c.self.inside.store in
    let old = g.S.SlotStore.memory c.self.inside.store in
    rw (← c.self.view_is, ← c.objects.view_is) (word-nowhere (the_view c.objects.inside) slots
    old c.args.notification (λ is. c.in_default.not-Notification (c.get.ensures ∙ is)))
