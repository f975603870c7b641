-- The boot area is opened in memory where nothing is.
use Rattle.std.proofs.Common.{◌≡◌, ◌^◌, ◌∙◌, ℕ, List, length, sym, ap, arith}
use Rattle.std.proofs.lemmas.List.{length-replicate}
use Rattle.cnode_ops.proofs.Laws.{consistent-of}
use Rattle.kernel_machine.proofs.Fresh.{boot-count, boot-fits, boot-whole, fresh-state}
use Rattle.kernel_machine.proofs.machine.Machine.new.Goals as goal

pub open_range-requires-clause-within : goal.open_range-requires-clause-within
open_range-requires-clause-within c =
    let size : length c.in_ok-store.store.memory ≡ 2 ^ c.args.bits = ap (λ (l : List ℕ). length l) c.in_ok-store.ensures.bytes
    ∙ length-replicate {A = ℕ} (2 ^ c.args.bits) 0 in
    let fits = boot-fits c.args.bits c.args.radix c.requires.least_bits c.requires.room in
    let count = boot-count c.args.radix c.requires.most_radix in
    let first = c.new-2.ensures in
    omega (arith, size, fits, count, first)

pub invariant_of-live : goal.invariant_of-live
invariant_of-live c =
    let size : 2 ^ c.args.bits ≡ length c.open_range.new.self.memory =
    sym (c.open_range.ensures.bytes.size ∙ ap (λ (l : List ℕ). length l) c.in_ok-store.ensures.bytes ∙ length-replicate {A = ℕ} (2 ^ c.args.bits) 0) in
    (boot-whole c.args.bits c.args.radix _ _ _ c.requires.least_bits c.requires.most_bits c.requires.least_radix c.requires.most_radix c.requires.room size
    (fresh-state c.args.bits c.args.radix c.in_ok-objects.objects _ _ c.open_range.new.self.memory c.requires.most_radix c.in_ok-objects.ensures.state
    c.in_ok-store.ensures.slots c.new-2.result c.new-2.ensures c.open_range.ensures.slots)
    (c.in_ok-objects.ensures.stands _ c.open_range.new.self.memory size)).stands

pub invariant_of-kernel : goal.invariant_of-kernel
invariant_of-kernel c =
    let size : 2 ^ c.args.bits ≡ length c.open_range.new.self.memory =
    sym (c.open_range.ensures.bytes.size ∙ ap (λ (l : List ℕ). length l) c.in_ok-store.ensures.bytes ∙ length-replicate {A = ℕ} (2 ^ c.args.bits) 0) in
    consistent-of (boot-whole c.args.bits c.args.radix _ _ _ c.requires.least_bits c.requires.most_bits c.requires.least_radix c.requires.most_radix
    c.requires.room size
    (fresh-state c.args.bits c.args.radix c.in_ok-objects.objects _ _ c.open_range.new.self.memory c.requires.most_radix c.in_ok-objects.ensures.state
    c.in_ok-store.ensures.slots c.new-2.result c.new-2.ensures c.open_range.ensures.slots)
    (c.in_ok-objects.ensures.stands _ c.open_range.new.self.memory size))

pub returns : goal.returns
returns c =
    fresh-state c.args.bits c.args.radix c.in_ok-objects.objects _ _ c.open_range.new.self.memory c.requires.most_radix c.in_ok-objects.ensures.state
    c.in_ok-store.ensures.slots c.new-2.result c.new-2.ensures c.open_range.ensures.slots
