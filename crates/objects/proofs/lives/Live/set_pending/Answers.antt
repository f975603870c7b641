-- The tables change, and the store does not.
use Rattle.std.proofs.Common.{refl, subst, sym}
use Rattle.objects.proofs.Frames.{same-records, unmoved-objects}
use Rattle.objects.proofs.Lines.{lines-stand}
use Rattle.objects.proofs.lives.Live.set_pending.Goals as goal
use Rattle.objects.specs.Standing.{Standing}
use Rattle.objects.specs.Tables.{Tables}

pub returns-clause-state : goal.returns-clause-state
returns-clause-state g c = rw (← c.self.view_is)
    (c.set_pending.ensures.state (g.S.SlotMap.slots c.self.inside.store) (g.S.SlotStore.memory c.self.inside.store))

pub returns-clause-beside : goal.returns-clause-beside
returns-clause-beside g c =
    let slots = g.S.SlotMap.slots c.self.inside.store in
    let memory = g.S.SlotStore.memory c.self.inside.store in
    rw (← c.self.view_is) (record {
      slots = refl;
      order = refl;
      bytes = unmoved-objects (c.set_pending.ensures.state slots memory) (record { kinds = λ offset. refl; bytes = refl; slots = refl; bits = refl })
          (same-records _ memory);
    })

pub invariant_of-self : goal.invariant_of-self
invariant_of-self g c =
    let slots = g.S.SlotMap.slots c.self.inside.store in
    let old = g.S.SlotStore.memory c.self.inside.store in
    subst (λ (o : Tables). Standing o slots old) (sym c.set_pending.ensures.tables)
    (lines-stand c.self.inside.objects c.self.inside.objects.masked c.set_pending.new.self.pending slots
    old c.self.invariant)
