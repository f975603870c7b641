-- As the test of the slot says.
use Rattle.std.proofs.Common.{◌≡◌, ◌∙◌, ◌^◌, ℕ, Option, Some, None, sym, ap, subst}
use Rattle.kernel_machine.proofs.Roots.{put-empty, put-passed, put-refused, root-agrees, root-state}
use Rattle.kernel_machine.proofs.puts.put.Goals as goal
use Rattle.objects.specs.Lives.{state_in}
use Rattle.model.specs.Capabilities.Slots.{Slots, inserted}
use Rattle.model.specs.Kernel.Setup.{put_in_boot_slot}
use Rattle.model.specs.Kernel.Soundness.{IsSound}
use Rattle.model.specs.Kernel.State.{State}
use Rattle.objects.specs.Tables.{state_of}
use Rattle.cnode_ops.proofs.Laws.{consistent-of, whole-of}

pub insert-requires-clause-empty : goal.insert-requires-clause-empty
insert-requires-clause-empty g c =
    let whole = whole-of g.S.SlotMap.slots g.S.SlotStore.memory c.live.inside.objects c.live.inside.store c.kernel.invariant c.live.view_is c.live.invariant in
    let of_kernel = c.live.view_is ∙ c.kernel.view_is in
    let slots : Slots = g.S.SlotMap.slots c.live.inside.store in
    let many = c.boot_slots-count.ensures.value ∙ ap (λ k. 2 ^ (state_in g.S.SlotMap.slots g.S.SlotStore.memory k).boot_radix) (sym of_kernel) in
    ap slots c.new.ensures ∙ put-empty c.live.inside.objects slots (g.S.SlotStore.memory c.live.inside.store) c.boot_slots-count.result c.args.index
    c.args.capability c.is_free-free.result many c.is_free-free.ensures whole.sound c.if-not-free.false

pub insert-requires-clause-kin : goal.insert-requires-clause-kin
insert-requires-clause-kin g c = λ offset slot names is. absurd (let clash : None ≡ Some offset = sym c.requires.nameless ∙ names in cc)

pub invariant_of-live : goal.invariant_of-live
invariant_of-live g c =
    let whole = whole-of g.S.SlotMap.slots g.S.SlotStore.memory c.live.inside.objects c.live.inside.store c.kernel.invariant c.live.view_is c.live.invariant in
    let of_kernel = c.live.view_is ∙ c.kernel.view_is in
    let o = c.live.inside.objects in
    let slots : Slots = g.S.SlotMap.slots c.live.inside.store in
    let old = g.S.SlotStore.memory c.live.inside.store in
    let many = c.boot_slots-count.ensures.value ∙ ap (λ k. 2 ^ (state_in g.S.SlotMap.slots g.S.SlotStore.memory k).boot_radix) (sym of_kernel) in
    let empty = put-empty o slots old c.boot_slots-count.result c.args.index c.args.capability c.is_free-free.result many c.is_free-free.ensures whole.sound
    c.if-not-free.false in
    let is = c.insert.ensures.slots ∙ ap (λ (n : ℕ). inserted slots n c.args.capability None) c.new.ensures in
    let agreed = root-agrees o slots _ old _ c.args.index c.args.capability (whole.agrees, whole.stands) c.insert.ensures.bytes empty is c.requires.plain
    c.requires.valid in
    agreed.1

pub invariant_of-kernel-2 : goal.invariant_of-kernel-2
invariant_of-kernel-2 g c =
    let whole = whole-of g.S.SlotMap.slots g.S.SlotStore.memory c.live.inside.objects c.live.inside.store c.kernel.invariant c.live.view_is c.live.invariant in
    let of_kernel = c.live.view_is ∙ c.kernel.view_is in
    consistent-of (
    let o = c.live.inside.objects in
    let slots : Slots = g.S.SlotMap.slots c.live.inside.store in
    let old = g.S.SlotStore.memory c.live.inside.store in
    let many = c.boot_slots-count.ensures.value ∙ ap (λ k. 2 ^ (state_in g.S.SlotMap.slots g.S.SlotStore.memory k).boot_radix) (sym of_kernel) in
    let empty = put-empty o slots old c.boot_slots-count.result c.args.index c.args.capability c.is_free-free.result many c.is_free-free.ensures whole.sound
    c.if-not-free.false in
    let passed = put-passed o slots old c.boot_slots-count.result c.args.index c.args.capability c.is_free-free.result many c.is_free-free.ensures
    c.if-not-free.false in
    let is = c.insert.ensures.slots ∙ ap (λ (n : ℕ). inserted slots n c.args.capability None) c.new.ensures in
    let agreed = root-agrees o slots _ old _ c.args.index c.args.capability (whole.agrees, whole.stands) c.insert.ensures.bytes empty is c.requires.plain
    c.requires.valid in
    record {
      sound = subst IsSound (sym (root-state o slots _ old _ c.args.index c.args.capability (whole.agrees, whole.stands) c.insert.ensures.bytes empty is))
          (c.requires.sound _ (subst (λ k. IsSound (state_in g.S.SlotMap.slots g.S.SlotStore.memory k)) of_kernel whole.sound)
          (ap (λ k. put_in_boot_slot (state_in g.S.SlotMap.slots g.S.SlotStore.memory k) c.args.index c.args.capability) (sym of_kernel) ∙ passed));
      agrees = agreed.0;
      stands = agreed.1;
    })

pub returns-clause-outcome : goal.returns-clause-outcome
returns-clause-outcome g c =
    let whole = whole-of g.S.SlotMap.slots g.S.SlotStore.memory c.live.inside.objects c.live.inside.store c.kernel.invariant c.live.view_is c.live.invariant in
    let of_kernel = c.live.view_is ∙ c.kernel.view_is in
    let o = c.live.inside.objects in
    let slots : Slots = g.S.SlotMap.slots c.live.inside.store in
    let old = g.S.SlotStore.memory c.live.inside.store in
    let many = c.boot_slots-count.ensures.value ∙ ap (λ k. 2 ^ (state_in g.S.SlotMap.slots g.S.SlotStore.memory k).boot_radix) (sym of_kernel) in
    let empty = put-empty o slots old c.boot_slots-count.result c.args.index c.args.capability c.is_free-free.result many c.is_free-free.ensures whole.sound
    c.if-not-free.false in
    let passed = put-passed o slots old c.boot_slots-count.result c.args.index c.args.capability c.is_free-free.result many c.is_free-free.ensures
    c.if-not-free.false in
    let is = c.insert.ensures.slots ∙ ap (λ (n : ℕ). inserted slots n c.args.capability None) c.new.ensures in
    let after = root-state o slots _ old _ c.args.index c.args.capability (whole.agrees, whole.stands) c.insert.ensures.bytes empty is in
    ap (λ k. put_in_boot_slot (state_in g.S.SlotMap.slots g.S.SlotStore.memory k) c.args.index c.args.capability) (sym of_kernel) ∙ passed
    ∙ ap (λ (s : State). Some s) (sym after)

pub returns-then-not-free-clause-outcome : goal.returns-then-not-free-clause-outcome
returns-then-not-free-clause-outcome g c =
    let of_kernel = c.live.view_is ∙ c.kernel.view_is in
    let many = c.boot_slots-count.ensures.value ∙ ap (λ k. 2 ^ (state_in g.S.SlotMap.slots g.S.SlotStore.memory k).boot_radix) (sym of_kernel) in
    let refused = put-refused c.live.inside.objects (g.S.SlotMap.slots c.live.inside.store) (g.S.SlotStore.memory c.live.inside.store) c.boot_slots-count.result
    c.args.index c.args.capability c.is_free-free.result many c.is_free-free.ensures c.if-not-free.true in
    ap (λ k. put_in_boot_slot (state_in g.S.SlotMap.slots g.S.SlotStore.memory k) c.args.index c.args.capability) (sym of_kernel) ∙ refused
