-- What is left to go back finds what all of it does.
use Rattle.std.proofs.Common.{◌≡◌, ◌-◌, ◌≤◌}
use Rattle.packed_slots.specs.Words.{words_in}
use Rattle.slots.specs.preorder.Chains.{back_above}
use Rattle.packed_slots.proofs.links.back_above.Given as goal

abbrev pub invariant-back : goal.invariant-back
invariant-back l =
    (l._step ≤ l.count)
    × (back_above (words_in l.memory).previous (words_in l.memory).depth (l.count - l._step) l.limit l.at
    ≡ back_above (words_in l.memory).previous (words_in l.memory).depth l.count l.limit l.fn.last)
