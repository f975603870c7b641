-- The constant is of 64 bits.
use Rattle.std.proofs.Common.{length, w64}
use Rattle.std.proofs.lemmas.Int.{to_z-of_z}
use Rattle.image_copies.proofs.lists.record_with.Goals as goal

pub returns : goal.returns
returns c =
    let constant = to_z-of_z w64 c.args.constant c.ranges.constant in
    λ k. record {
      header = record {
        point = c.args.point;
        ranges = length c.args.ranges.items;
        slots = length c.args.slots.items;
        terms = length c.args.terms.items;
        constant = constant k;
      };
      ranges = c.args.ranges.items;
      slots = c.args.slots.items;
      terms = c.args.terms.items;
    }
