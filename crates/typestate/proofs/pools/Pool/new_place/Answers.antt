-- By the type, then by the CNode, and then by the room.
use Rattle.std.proofs.Common.{ℕ, ◌≡◌, ◌∙◌, true, Result, Ok, Err, refl, sym, ap, subst, arith}
use Rattle.model.specs.declared.capabilities.Cap.TheVariants.{Untyped}
use Rattle.model.specs.declared.errors.KError.{KError}
use Rattle.model.specs.Acceptance.NotedKernel.{noted_root, noted_slots}
use Rattle.model.specs.Acceptance.NotedStates.{SlotKey, is_own}
use Rattle.model.specs.Acceptance.ThreadRules.{reached}
use Rattle.model.specs.Kernel.Arguments.{◌>>=◌}
use Rattle.model.specs.Kernel.ObjectTypes.{new_type}
use Rattle.model.specs.Kernel.Retype.{node, object_bits}
use Rattle.model.specs.Kernel.State.{State}
use Rattle.typestate.specs.Pools.{room_in}
use Rattle.typestate.specs.Differences.{slots_of}
use Rattle.typestate.proofs.GivenFacts.{apart-of, test-decides}
use Rattle.typestate.proofs.PoolPlaces.{node-err, node-ok, place-small, room-parts, room-same}
use Rattle.typestate.proofs.PoolRules.{behind_node, behind_type, effect, placed-so, pool-refused, room_of}
use Rattle.typestate.proofs.Standing.{found-own}
use Rattle.typestate.proofs.pools.Pool.new_place.Goals as goal

pub returns-in-Err : goal.returns-in-Err
returns-in-Err c = λ at held same.
    let image = c.args.self.now.own.space.image.now in
    let t = c.args.self.now.own.space.thread.now in
    let slots = slots_of c.args.self.now.own.slots in
    pool-refused image t slots held c.args.self.now.memory c.args.call at c.in-Err.error
    (ap (behind_type image t slots held c.args.self.now.memory c.args.call) (sym c.in-Err.ensures.value))

pub returns-in-Err-node : goal.returns-in-Err-node
returns-in-Err-node c = λ at held same.
    let image = c.args.self.now.own.space.image.now in
    let t = c.args.self.now.own.space.thread.now in
    let slots = slots_of c.args.self.now.own.slots in
    let new = new_type c.in-Ok.kind in
    pool-refused image t slots held c.args.self.now.memory c.args.call at c.in-Err-node.error
    (ap (behind_type image t slots held c.args.self.now.memory c.args.call) (sym c.in-Ok.ensures.value)
    ∙ ap (behind_node image t slots held c.args.self.now.memory c.args.call new)
    (node-err image t (node (noted_slots image t slots) (noted_root image t) c.args.call.node) c.in-Err-node.error c.in-Err-node.ensures))

pub room_in-requires-clause-mine : goal.room_in-requires-clause-mine
room_in-requires-clause-mine c =
    let image = c.args.self.now.own.space.image.now in
    let t = c.args.self.now.own.space.thread.now in
    let slots = slots_of c.args.self.now.own.slots in
    (node-ok image t (node (noted_slots image t slots) (noted_root image t) c.args.call.node) c.in-Ok-node.window c.in-Ok-node.ensures).own

pub overflow_add-result : goal.overflow_add-result
overflow_add-result c =
    let image = c.args.self.now.own.space.image.now in
    let t = c.args.self.now.own.space.thread.now in
    let slots = slots_of c.args.self.now.own.slots in
    let found : ℕ × ℕ = (c.in-Ok-room_in.place, c.in-Ok-room_in.watermark) in
    let room = room-parts image t slots c.args.self.now.held.now.key c.args.self.now.memory c.in-Ok-node.window c.object_bits.result c.args.call.index
    c.args.call.count found (sym c.in-Ok-room_in.ensures) in
    let small = place-small c.args.self.now.memory c.object_bits.result c.args.call.count c.in-Ok-room_in.place c.in-Ok-room_in.watermark
    (test-decides (Untyped c.args.self.now.memory.offset c.args.self.now.memory.bits c.args.self.now.memory.watermark) c.args.self.now.valid)
    (placed-so c.args.self.now.memory.bits c.args.self.now.memory.watermark c.object_bits.result c.args.call.count c.in-Ok-room_in.place
    c.in-Ok-room_in.watermark room.place) in
    omega (arith, small)

pub returns-in-Err-room_in : goal.returns-in-Err-room_in
returns-in-Err-room_in c = λ at held same.
    let image = c.args.self.now.own.space.image.now in
    let t = c.args.self.now.own.space.thread.now in
    let slots = slots_of c.args.self.now.own.slots in
    let memory = c.args.self.now.memory in
    let call = c.args.call in
    let new = new_type c.in-Ok.kind in
    let named = node-ok image t (node (noted_slots image t slots) (noted_root image t) call.node) c.in-Ok-node.window c.in-Ok-node.ensures in
    let mine = subst (λ (k : SlotKey). is_own image (reached image t) k ≡ true) (sym same)
    (found-own image t slots c.args.self.now.held.now.key c.args.self.now.held.now c.args.self.now.own.own c.args.self.now.there).key in
    let room : room_of image t slots held memory call new named.cnode ≡ Err c.in-Err-room_in.error =
    room-same image t (apart-of c.args.self.now.own.space) slots c.args.self.now.own.own held memory call new named.cnode c.in-Ok-node.window mine
    named.offset named.radix
    ∙ ap (λ k. room_in image t slots k memory c.in-Ok-node.window (object_bits new) call.index call.count) same
    ∙ ap (λ b. room_in image t slots c.args.self.now.held.now.key memory c.in-Ok-node.window b call.index call.count)
    (sym c.object_bits.ensures.value) ∙ sym c.in-Err-room_in.ensures in
    pool-refused image t slots held memory call at c.in-Err-room_in.error
    (ap (behind_type image t slots held memory call) (sym c.in-Ok.ensures.value) ∙ ap (behind_node image t slots held memory call new) named.is
    ∙ ap (λ (r : Result (ℕ × ℕ) KError). r >>= λ p. let made : Result State KError = Ok (effect image t slots held memory call new named.cnode p) in made)
    room)

pub returns-in-Ok-room_in : goal.returns-in-Ok-room_in
returns-in-Ok-room_in c =
    let image = c.args.self.now.own.space.image.now in
    let t = c.args.self.now.own.space.thread.now in
    let slots = slots_of c.args.self.now.own.slots in
    let call = c.args.call in
    let new = new_type c.in-Ok.kind in
    let named = node-ok image t (node (noted_slots image t slots) (noted_root image t) call.node) c.in-Ok-node.window c.in-Ok-node.ensures in
    record {
      asked = sym c.in-Ok.ensures.value;
      cnode = named.cnode;
      named = named.is;
      w = c.in-Ok-node.window;
      own = named.own;
      offset = named.offset;
      radix = named.radix;
      place = c.in-Ok-room_in.place;
      room = ap (λ b. room_in image t slots c.args.self.now.held.now.key c.args.self.now.memory c.in-Ok-node.window b call.index call.count)
          (sym c.object_bits.ensures.value) ∙ sym c.in-Ok-room_in.ensures;
      first = refl;
      slot = refl;
    }
