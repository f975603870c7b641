-- The mappings under a root table go, and then the object.
use Rattle.std.proofs.Common.{◌∙◌, ap, sym, subst}
use Rattle.kernel_invariant.proofs.Laws.{Lessened, ended-agrees, less-root, own-tables, root-ended, unmapped-agrees, unmapped-state}
use Rattle.kernel_invariant.specs.Agreement.{Agrees}
use Rattle.cnode_ops.proofs.object_lifetimes.ending.end_object.Goals as goal
use Rattle.model.specs.Capabilities.CapabilityKinds.{object_of}
use Rattle.model.specs.Capabilities.Slots.{Slots}
use Rattle.model.specs.Kernel.State.{State}
use Rattle.objects.specs.Tables.{state_of}
use Rattle.removal_laws.specs.Steps.{ended, object_ended}

pub end_tables-requires : goal.end_tables-requires
end_tables-requires g c = record { agree = own-tables _ _ _ c.requires.agree }

pub returns-in-RootTable-clause-state : goal.returns-in-RootTable-clause-state
returns-in-RootTable-clause-state g c =
    let slots = g.S.SlotMap.slots c.args.store.now in
    let gone = c.end_tables.ensures.roots (λ slot. c.requires.unnamed slot c.in-RootTable.offset (ap object_of c.in-RootTable.is)) in
    c.end.ensures.state
    ∙ ap (λ (t : State). object_ended t c.in-RootTable.offset) (unmapped-state c.args.objects.now slots _ _ _ c.requires.agree c.end_tables.ensures.bytes)
    ∙ root-ended c.args.objects.now slots _ _ c.in-RootTable.offset gone
    ∙ ap (ended (state_of c.args.objects.now slots (g.S.SlotStore.memory c.args.store.now))) (sym c.in-RootTable.is)

pub end-requires : goal.end-requires
end-requires g c =
    let slots = g.S.SlotMap.slots c.args.store.now in
    let gone = c.end_tables.ensures.roots (λ slot. c.requires.unnamed slot c.in-RootTable.offset (ap object_of c.in-RootTable.is)) in
    let unmapped = unmapped-agrees c.args.objects.now slots (g.S.SlotMap.slots c.end_tables.new.store) _ (g.S.SlotStore.memory c.end_tables.new.store)
    c.requires.agree
    c.end_tables.ensures.bytes c.end_tables.ensures.agree (subst (λ (n : Slots). Lessened slots n) (sym gone) (less-root slots c.in-RootTable.offset)) in
    record { stands = unmapped.1 }

pub returns-in-RootTable-clause-agree : goal.returns-in-RootTable-clause-agree
returns-in-RootTable-clause-agree g c =
    let slots = g.S.SlotMap.slots c.args.store.now in
    let gone = c.end_tables.ensures.roots (λ slot. c.requires.unnamed slot c.in-RootTable.offset (ap object_of c.in-RootTable.is)) in
    let unmapped = unmapped-agrees c.args.objects.now slots (g.S.SlotMap.slots c.end_tables.new.store) _ (g.S.SlotStore.memory c.end_tables.new.store)
    c.requires.agree
    c.end_tables.ensures.bytes c.end_tables.ensures.agree (subst (λ (n : Slots). Lessened slots n) (sym gone) (less-root slots c.in-RootTable.offset)) in (
      subst (λ (t : State). Agrees t (g.S.SlotStore.memory c.end.new.store)) (sym c.end.ensures.state)
          (ended-agrees _ c.in-RootTable.offset _ _ unmapped.0 c.end.ensures.bytes),
      c.end.ensures.stands,
    )

pub end-requires-in-Endpoint : goal.end-requires-in-Endpoint
end-requires-in-Endpoint g c = record { stands = c.requires.agree.1 }

pub returns-in-Endpoint-clause-agree : goal.returns-in-Endpoint-clause-agree
returns-in-Endpoint-clause-agree g c = (
  subst (λ (t : State). Agrees t (g.S.SlotStore.memory c.end-in-Endpoint.new.store)) (sym c.end-in-Endpoint.ensures.state)
      (ended-agrees _ _ _ _ c.requires.agree.0 c.end-in-Endpoint.ensures.bytes),
  c.end-in-Endpoint.ensures.stands,
)
