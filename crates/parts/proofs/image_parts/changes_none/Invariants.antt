-- The other may change none of those so far.
use Rattle.std.proofs.Common.{◌≡◌, true, take}
use Rattle.std.specs.List.{list_all}
use Rattle.parts.proofs.Apart.{keeps}
use Rattle.parts.proofs.image_parts.changes_none.Given as goal

abbrev pub invariant-loop-place : goal.invariant-loop-place
invariant-loop-place l = list_all (keeps l.fn.objects l.fn.takes l.fn.other.changes) (take l.place l.fn.takes) ≡ true
