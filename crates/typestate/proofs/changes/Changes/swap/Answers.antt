-- Each change has the slot that stands for the name of its parent.
use Rattle.std.proofs.Common.{ℕ, ◌∙◌, ◌^◌, nat_lt, List, map, sym, ap}
use Rattle.model.specs.Acceptance.NotedStates.{NotedSlot, SlotKey, number_of}
use Rattle.typestate.specs.Names.{renamed, turned_number}
use Rattle.typestate.specs.Replays.{exchanged}
use Rattle.typestate.proofs.NumberedChanges.{all-narrow, exchanged-entries}
use Rattle.typestate.proofs.changes.Changes.swap.Goals as goal

pub returns-clause-swapped : goal.returns-clause-swapped
returns-clause-swapped c =
    let old = c.self.inside.names.slots.entries in
    let new = c.swap.new.self.slots.entries in
    let one : SlotKey = c.args.one in
    let other : SlotKey = c.args.other in
    let low = ap (λ (k : SlotKey). nat_lt k.index (2 ^ 32)) (sym c.one.view_is) ∙ c.low.ensures in
    let low2 = ap (λ (k : SlotKey). nat_lt k.index (2 ^ 32)) (sym c.other.view_is) ∙ c.low-2.ensures in
    let numbers = ap (λ (n : ℕ). turned_number n c.number-2.result) c.number.ensures ∙ ap (turned_number (number_of one)) c.number-2.ensures in
    exchanged-entries old new one other low low2 (λ n. c.in_ok-swap.ensures.swapped n ∙ ap (λ (f : ℕ → ℕ). f (renamed old n)) numbers)
    c.self.inside.packed.entries
    ∙ ap (λ (l : List NotedSlot). map (exchanged one other) l) c.self.view_is

pub returns-clause-narrow : goal.returns-clause-narrow
returns-clause-narrow c = all-narrow c.swap.new.self.slots.entries c.self.inside.packed.entries
