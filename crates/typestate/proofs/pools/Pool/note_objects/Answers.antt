-- By the place, and then by the type.
use Rattle.std.proofs.Common.{◌∙◌, ◌++◌, ◌∷◌, [], Result, Ok, List, refl, sym, ap, subst}
use Rattle.std.specs.List.{list_all}
use Rattle.model.specs.declared.capabilities.Cap.TheVariants.{Untyped}
use Rattle.model.specs.declared.refusals.Refusal.{Refusal}
use Rattle.model.specs.Acceptance.NotedStates.{NotedSlot, SlotKey}
use Rattle.model.specs.Kernel.ObjectTypes.{new_type}
use Rattle.typestate.specs.Differences.{changed, slots_of}
use Rattle.typestate.specs.Pools.{pool_used, slots_made}
use Rattle.typestate.specs.Strays.{NoneStray, is_tidy_put}
use Rattle.typestate.proofs.GivenFacts.{apart-of, test-decides}
use Rattle.typestate.proofs.PoolPlaces.{fits-node, made-all, never-made, places-valid, placing, room-is}
use Rattle.typestate.proofs.PutPlaces.{rise-of}
use Rattle.typestate.proofs.Replayed.{sets-made}
use Rattle.typestate.proofs.Rising.{changes-rise, from-first}
use Rattle.typestate.proofs.TidyPools.{all-tidy}
use Rattle.typestate.proofs.pools.Pool.note_objects.Goals as goal

pub returns-in-Err-clause-made : goal.returns-in-Err-clause-made
returns-in-Err-clause-made c = c.in-Err.ensures c.args.at c.args.self.now.held.now refl

pub returns-then-not-may_make-clause-made : goal.returns-then-not-may_make-clause-made
returns-then-not-may_make-clause-made c =
    let image = c.args.self.now.own.space.image.now in
    let t = c.args.self.now.own.space.thread.now in
    let slots = slots_of c.args.self.now.own.slots in
    never-made image t (apart-of c.args.self.now.own.space) slots c.args.self.now.own.own c.args.self.now.held.now c.args.self.now.memory c.args.call
    c.in-Ok.new c.args.self.now.there c.args.self.now.pool c.in-Ok.ensures c.args.at (sym c.may_make.ensures ∙ c.if-not-may_make.true)

pub invariant_of-push : goal.invariant_of-push
invariant_of-push c =
    let image = c.args.self.now.own.space.image.now in
    let t = c.args.self.now.own.space.thread.now in
    let slots = slots_of c.args.self.now.own.slots in
    let valid = (test-decides (Untyped c.args.self.now.memory.offset c.args.self.now.memory.bits c.args.self.now.memory.watermark) c.args.self.now.valid) in
    let below = (placing image t (apart-of c.args.self.now.own.space) slots c.args.self.now.own.own c.args.self.now.held.now c.args.self.now.memory c.args.call
    c.in-Ok.new c.args.self.now.there c.args.self.now.pool c.in-Ok.ensures).below in
    (valid.0, valid.1, valid.2, below)

pub invariant_of-objects-2 : goal.invariant_of-objects-2
invariant_of-objects-2 c =
    let image = c.args.self.now.own.space.image.now in
    let t = c.args.self.now.own.space.thread.now in
    let slots = slots_of c.args.self.now.own.slots in
    let room = room-is image t (apart-of c.args.self.now.own.space) slots c.args.self.now.own.own c.args.self.now.held.now c.args.self.now.memory c.args.call
    c.in-Ok.new c.args.self.now.there c.args.self.now.pool c.in-Ok.ensures in
    record {
      made = sym c.may_make.ensures ∙ c.if-not-may_make.false;
      sized = c.size_of.ensures.value;
      most = c.size_of.ensures.few;
      few = (fits-node c.in-Ok.ensures.w.radix c.args.call.index c.args.call.count room.fits).1;
      places = places-valid image t (apart-of c.args.self.now.own.space) slots c.args.self.now.own.own c.args.self.now.held.now c.args.self.now.memory
          c.args.call c.in-Ok.new c.args.self.now.there c.args.self.now.pool c.in-Ok.ensures
          (test-decides (Untyped c.args.self.now.memory.offset c.args.self.now.memory.bits c.args.self.now.memory.watermark) c.args.self.now.valid);
    }

pub returns-clause-made : goal.returns-clause-made
returns-clause-made c =
    let image = c.args.self.now.own.space.image.now in
    let t = c.args.self.now.own.space.thread.now in
    let slots = slots_of c.args.self.now.own.slots in
    let rises = changes-rise c.args.self.now.own.slots.image.now c.args.self.now.own.slots.changes.now
    (from-first c.args.self.now.own.slots.image.now c.args.self.now.own.slots.rising) in
    let done : List NotedSlot → Result (List NotedSlot) Refusal = λ l. Ok (changed slots l) in
    let kept : List NotedSlot → Result (List NotedSlot) Refusal = λ l. Ok l in
    let new = c.in-Ok.new in
    let made : SlotKey → List NotedSlot = λ k. slots_made new.slot k (new_type new.kind) new.offset c.args.call.count in
    let listed : NotedSlot → List NotedSlot = λ h. pool_used h c.args.self.now.memory new.watermark ∷ made h.key in
    let first : NotedSlot = record {
      key = c.held.inside.key;
      capability = Untyped c.args.self.now.memory.offset c.args.self.now.memory.bits new.watermark;
      parent = c.held.inside.parent;
    } in
    let items = c.in_ok-note.ensures ∙ ap (λ (l : List NotedSlot). l ++ made c.held.inside.key)
    (c.in_ok-push.ensures.items ∙ ap (λ (l : List NotedSlot). l ++ first ∷ []) c.requires.none) in
    made-all image t (apart-of c.args.self.now.own.space) slots c.args.self.now.own.own c.args.self.now.held.now c.args.self.now.memory c.args.call c.in-Ok.new
    c.args.self.now.there c.args.self.now.pool c.in-Ok.ensures (sym c.may_make.ensures ∙ c.if-not-may_make.false) c.args.at rises
    ∙ ap done (sym (items ∙ ap listed c.held.view_is)) ∙ ap kept (sym (sets-made c.note.new.made.items slots))

pub returns-clause-tidy : goal.returns-clause-tidy
returns-clause-tidy c = λ tidy none.
    let slots = slots_of c.args.self.now.own.slots in
    let memory = c.args.self.now.memory in
    let new = c.in-Ok.new in
    let rises = changes-rise c.args.self.now.own.slots.image.now c.args.self.now.own.slots.changes.now
    (from-first c.args.self.now.own.slots.image.now c.args.self.now.own.slots.rising) in
    let made : SlotKey → List NotedSlot = λ k. slots_made new.slot k (new_type new.kind) new.offset c.args.call.count in
    let listed : NotedSlot → List NotedSlot = λ h. pool_used h memory new.watermark ∷ made h.key in
    let first : NotedSlot = record {
      key = c.held.inside.key;
      capability = Untyped memory.offset memory.bits new.watermark;
      parent = c.held.inside.parent;
    } in
    let items = c.in_ok-note.ensures ∙ ap (λ (l : List NotedSlot). l ++ made c.held.inside.key)
    (c.in_ok-push.ensures.items ∙ ap (λ (l : List NotedSlot). l ++ first ∷ []) c.requires.none) in
    subst (NoneStray c.args.self.now.own.space.image.now c.args.self.now.own.space.thread.now) (sym (sets-made c.note.new.made.items slots))
    (c.tidy_puts_leave_no_stray_slot.ensures c.args.self.now.own.space slots c.note.new.made.items (rise-of slots 0 rises) none
    (ap (list_all (is_tidy_put c.args.self.now.own.space slots)) (items ∙ ap listed c.held.view_is)
    ∙ all-tidy c.args.self.now.own.space (apart-of c.args.self.now.own.space) slots c.args.self.now.own.own c.args.self.now.held.now memory c.args.call new
    c.args.self.now.there c.args.self.now.pool c.in-Ok.ensures (test-decides (Untyped memory.offset memory.bits memory.watermark) c.args.self.now.valid)
    (sym c.may_make.ensures ∙ c.if-not-may_make.false)))
