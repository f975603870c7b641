use Rattle.std.proofs.Common.{◌≡◌, ◌≤◌, ℕ, List, Result, is_ok, ap, subst, sym}
use Rattle.std.specs.List.{All}
use Rattle.model.specs.declared.entries.RangeEntry.{RangeEntry}
use Rattle.model.specs.declared.refusals.Refusal.{Refusal}
use Rattle.model.specs.Images.Image.{ranges_format}
use Rattle.image_reading.proofs.RangeEntries.{listed_ranges}
use Rattle.image_reading.proofs.records.RecordRef.ranges.Goals as goal

pub returns-clause-ordered : goal.returns-clause-ordered
unfolding ranges_format
returns-clause-ordered c =
    subst (λ (xs : List RangeEntry). All (λ e. e.low ≤ e.high) xs) (sym c.new.ensures)
    (listed_ranges c.self.inside.header.ranges c.self.inside.bytes.now c.self.inside.ranges_at
    (ap (λ (r : Result ℕ Refusal). is_ok r) c.self.invariant.0))
