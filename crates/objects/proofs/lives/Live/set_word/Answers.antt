-- The word is written to its place.
use Rattle.std.proofs.Common.{◌∙◌, sym, arith}
use Rattle.model.specs.Kernel.State.{NotificationObject}
use Rattle.objects.proofs.Frames.{moved-to, one-put, same-objects}
use Rattle.objects.proofs.Holding.{kind-state}
use Rattle.objects.proofs.OneThread.{set-word-done, word-inside, word-outside}
use Rattle.objects.specs.Tables.{state_of}
use Rattle.objects.proofs.lives.Live.set_word.Goals as goal

pub overflow_add-notification : goal.overflow_add-notification
overflow_add-notification g c =
    let slots = g.S.SlotMap.slots c.self.inside.store in
    let old = g.S.SlotStore.memory c.self.inside.store in
    let there = rw (← c.self.view_is) at c.requires.there in
    let inside = word-inside c.self.inside.objects slots old c.self.invariant c.args.notification
    (sym (kind-state c.self.inside.objects c.args.notification slots old) ∙ there) in
    let few = c.self.invariant.placed.few in
    omega (arith, inside, few)

pub write32-requires-clause-within : goal.write32-requires-clause-within
write32-requires-clause-within g c =
    let slots = g.S.SlotMap.slots c.self.inside.store in
    let old = g.S.SlotStore.memory c.self.inside.store in
    let there = rw (← c.self.view_is) at c.requires.there in
    word-inside c.self.inside.objects slots old c.self.invariant
    c.args.notification (sym (kind-state c.self.inside.objects c.args.notification slots old)
    ∙ there)

pub write32-requires-clause-outside : goal.write32-requires-clause-outside
write32-requires-clause-outside g c =
    let slots = g.S.SlotMap.slots c.self.inside.store in
    let old = g.S.SlotStore.memory c.self.inside.store in
    let there = rw (← c.self.view_is) at c.requires.there in
    word-outside c.self.inside.objects slots old
    c.self.invariant c.args.notification
    (sym (kind-state c.self.inside.objects c.args.notification slots old) ∙ there)

pub returns-clause-state : goal.returns-clause-state
returns-clause-state g c =
    let slots = g.S.SlotMap.slots c.self.inside.store in
    let old = g.S.SlotStore.memory c.self.inside.store in
    let there = rw (← c.self.view_is) at c.requires.there in
    rw (← c.self.view_is) ((set-word-done c.self.inside.objects slots (g.S.SlotMap.slots c.write32.new.self) old
    (g.S.SlotStore.memory c.write32.new.self) c.self.invariant c.write32.ensures.slots c.args.notification c.args.word there
    (word-inside c.self.inside.objects slots old c.self.invariant c.args.notification
    (sym (kind-state c.self.inside.objects c.args.notification slots old) ∙ there))
    c.ranges.word.fits c.write32.ensures.bytes).0.state)

pub returns-clause-beside : goal.returns-clause-beside
returns-clause-beside g c =
    let slots = g.S.SlotMap.slots c.self.inside.store in
    let old = g.S.SlotStore.memory c.self.inside.store in
    let before = state_of c.self.inside.objects slots old in
    let there = rw (← c.self.view_is) at c.requires.there in
    rw (← c.self.view_is) (record {
      slots = c.write32.ensures.slots;
      order = c.write32.ensures.order;
      bytes = (same-objects before _
          old _
          (moved-to before _ _
          (set-word-done c.self.inside.objects slots (g.S.SlotMap.slots c.write32.new.self) old
          (g.S.SlotStore.memory c.write32.new.self) c.self.invariant c.write32.ensures.slots c.args.notification c.args.word there
          (word-inside c.self.inside.objects slots old c.self.invariant c.args.notification
          (sym (kind-state c.self.inside.objects c.args.notification slots old) ∙ there))
          c.ranges.word.fits c.write32.ensures.bytes).0.state
          (one-put before c.args.notification (NotificationObject _)
          there)) (set-word-done c.self.inside.objects slots (g.S.SlotMap.slots c.write32.new.self)
          old (g.S.SlotStore.memory c.write32.new.self) c.self.invariant c.write32.ensures.slots c.args.notification c.args.word
          there (word-inside c.self.inside.objects slots old c.self.invariant
          c.args.notification (sym (kind-state c.self.inside.objects c.args.notification slots old)
          ∙ there)) c.ranges.word.fits c.write32.ensures.bytes).1);
    })

pub invariant_of-self : goal.invariant_of-self
invariant_of-self g c =
    let slots = g.S.SlotMap.slots c.self.inside.store in
    let old = g.S.SlotStore.memory c.self.inside.store in
    let there = rw (← c.self.view_is) at c.requires.there in
    (set-word-done c.self.inside.objects slots (g.S.SlotMap.slots c.write32.new.self) old
    (g.S.SlotStore.memory c.write32.new.self) c.self.invariant c.write32.ensures.slots c.args.notification c.args.word there
    (word-inside c.self.inside.objects slots old c.self.invariant c.args.notification
    (sym (kind-state c.self.inside.objects c.args.notification slots old) ∙ there))
    c.ranges.word.fits c.write32.ensures.bytes).0.stands
