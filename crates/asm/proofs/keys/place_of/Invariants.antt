use Rattle.std.proofs.Common.{◌≡◌, ◌≤◌, length}
use Rattle.asm.specs.Keys.{place_among, place_of}
use Rattle.asm.proofs.keys.place_of.Given as goal

-- the place is among the first entries, as far as they are not looked at
abbrev pub invariant-places : goal.invariant-places
invariant-places g l = (place_among g.E.Keyed.key l.key l.entries l.place ≡ place_of g.E.Keyed.key l.key l.entries) × (l.place ≤ length l.entries)

abbrev pub decreases-places : goal.decreases-places
decreases-places g l = l.place
