-- What is left of the rules decides, and of each untyped is used what the objects so far use.
use Rattle.std.proofs.Common.{◌≡◌, ◌-◌, map}
use Rattle.std.specs.List.{range_with_len}
use Rattle.model.specs.declared.refusals.Refusal.TheVariants.{NoRoom}
use Rattle.model.specs.Acceptance.Rules.{first_broken, refuse_if}
use Rattle.model.specs.Acceptance.WellFormed.{has_no_room}
use Rattle.wellformed.specs.Used.{IsUsed}
use Rattle.wellformed.proofs.objects.check_room.Given as goal

abbrev pub invariant-loop-number : goal.invariant-loop-number
invariant-loop-number l = record {
  used : IsUsed l.fn.image l.number l.used.used;
  left : first_broken (map (λ n. refuse_if (has_no_room l.fn.image n) (NoRoom n)) (range_with_len l.number (l.fn.image.header.objects - l.number)))
      ≡ first_broken (map (λ n. refuse_if (has_no_room l.fn.image n) (NoRoom n)) (range_with_len 0 l.fn.image.header.objects));
}
