-- A word is written into a frame.
use Rattle.std.proofs.Common.{◌≡◌, ◌∙◌, true, ap, subst, sym}
use Rattle.kernel_invariant.specs.Wholeness.{IsWhole}
use Rattle.model.specs.Capabilities.Slots.{Slots}
use Rattle.model.specs.Kernel.World.{is_word_of_frame, world_writes}
use Rattle.objects.specs.Lives.{state_in}
use Rattle.objects.specs.Tables.{state_of}
use Rattle.user_memory.proofs.WordsOfFrames.{nothing-written, word-done, word-most, word-outside, word-whole, word-within}
use Rattle.user_memory.proofs.world.put_word.Goals as goal
use Rattle.cnode_ops.proofs.Laws.{consistent-of, whole-of}

pub returns-then-not-is_word_of_frame-clause-state : goal.returns-then-not-is_word_of_frame-clause-state
returns-then-not-is_word_of_frame-clause-state g c =
    nothing-written (state_in g.S.SlotMap.slots g.S.SlotStore.memory c.args.kernel.now) c.args.place c.args.word
    (sym c.is_word_of_frame.ensures ∙ c.if-not-is_word_of_frame.true)

pub write_bytes-requires : goal.write_bytes-requires
unfolding state_of
write_bytes-requires g c =
    let whole = whole-of g.S.SlotMap.slots g.S.SlotStore.memory c.live.inside.objects c.live.inside.store c.kernel.invariant c.live.view_is c.live.invariant in
    let of_kernel = c.live.view_is ∙ c.kernel.view_is in
    let may = subst (λ k. is_word_of_frame (state_in g.S.SlotMap.slots g.S.SlotStore.memory k) c.args.place ≡ true) (sym of_kernel)
    (sym c.is_word_of_frame.ensures ∙ c.if-not-is_word_of_frame.false) in
    record {
      within = word-within (state_of c.live.inside.objects (g.S.SlotMap.slots c.live.inside.store) (g.S.SlotStore.memory c.live.inside.store))
          (g.S.SlotStore.memory c.live.inside.store) c.to_le_bytes.result c.args.place c.args.word c.to_le_bytes.ensures whole.agrees whole.sound may;
      most = word-most (state_of c.live.inside.objects (g.S.SlotMap.slots c.live.inside.store) (g.S.SlotStore.memory c.live.inside.store))
          (g.S.SlotStore.memory c.live.inside.store) c.to_le_bytes.result c.args.place c.args.word c.to_le_bytes.ensures whole.agrees whole.sound may;
      outside = word-outside (state_of c.live.inside.objects (g.S.SlotMap.slots c.live.inside.store) (g.S.SlotStore.memory c.live.inside.store))
          (g.S.SlotStore.memory c.live.inside.store) c.to_le_bytes.result c.args.place c.args.word c.to_le_bytes.ensures whole.agrees whole.sound may;
    }

pub returns-clause-state : goal.returns-clause-state
returns-clause-state g c =
    let whole = whole-of g.S.SlotMap.slots g.S.SlotStore.memory c.live.inside.objects c.live.inside.store c.kernel.invariant c.live.view_is c.live.invariant in
    let of_kernel = c.live.view_is ∙ c.kernel.view_is in
    let may = subst (λ k. is_word_of_frame (state_in g.S.SlotMap.slots g.S.SlotStore.memory k) c.args.place ≡ true) (sym of_kernel)
    (sym c.is_word_of_frame.ensures ∙ c.if-not-is_word_of_frame.false) in
    subst (λ k. state_of c.live.inside.objects (g.S.SlotMap.slots c.write_bytes.new.store) (g.S.SlotStore.memory c.write_bytes.new.store)
    ≡ world_writes (state_in g.S.SlotMap.slots g.S.SlotStore.memory k) c.args.place c.args.word) of_kernel
    (ap (λ (n : Slots). state_of c.live.inside.objects n (g.S.SlotStore.memory c.write_bytes.new.store)) c.write_bytes.ensures.slots
    ∙ word-done c.live.inside.objects (g.S.SlotMap.slots c.live.inside.store) (g.S.SlotStore.memory c.live.inside.store)
    (g.S.SlotStore.memory c.write_bytes.new.store) c.to_le_bytes.result c.args.place c.args.word c.to_le_bytes.ensures
    c.write_bytes.ensures.bytes whole may)

pub invariant_of-live : goal.invariant_of-live
invariant_of-live g c =
    let whole = whole-of g.S.SlotMap.slots g.S.SlotStore.memory c.live.inside.objects c.live.inside.store c.kernel.invariant c.live.view_is c.live.invariant in
    let of_kernel = c.live.view_is ∙ c.kernel.view_is in
    (
    let may = subst (λ k. is_word_of_frame (state_in g.S.SlotMap.slots g.S.SlotStore.memory k) c.args.place ≡ true) (sym of_kernel)
    (sym c.is_word_of_frame.ensures ∙ c.if-not-is_word_of_frame.false) in
    subst (λ (n : Slots). IsWhole c.live.inside.objects n (g.S.SlotStore.memory c.write_bytes.new.store)) (sym c.write_bytes.ensures.slots)
    (word-whole c.live.inside.objects (g.S.SlotMap.slots c.live.inside.store) (g.S.SlotStore.memory c.live.inside.store)
    (g.S.SlotStore.memory c.write_bytes.new.store) c.to_le_bytes.result c.args.place c.args.word c.to_le_bytes.ensures
    c.write_bytes.ensures.bytes whole may)).stands

pub invariant_of-kernel : goal.invariant_of-kernel
invariant_of-kernel g c =
    let whole = whole-of g.S.SlotMap.slots g.S.SlotStore.memory c.live.inside.objects c.live.inside.store c.kernel.invariant c.live.view_is c.live.invariant in
    let of_kernel = c.live.view_is ∙ c.kernel.view_is in
    consistent-of (
    let may = subst (λ k. is_word_of_frame (state_in g.S.SlotMap.slots g.S.SlotStore.memory k) c.args.place ≡ true) (sym of_kernel)
    (sym c.is_word_of_frame.ensures ∙ c.if-not-is_word_of_frame.false) in
    subst (λ (n : Slots). IsWhole c.live.inside.objects n (g.S.SlotStore.memory c.write_bytes.new.store)) (sym c.write_bytes.ensures.slots)
    (word-whole c.live.inside.objects (g.S.SlotMap.slots c.live.inside.store) (g.S.SlotStore.memory c.live.inside.store)
    (g.S.SlotStore.memory c.write_bytes.new.store) c.to_le_bytes.result c.args.place c.args.word c.to_le_bytes.ensures c.write_bytes.ensures.bytes whole may))
