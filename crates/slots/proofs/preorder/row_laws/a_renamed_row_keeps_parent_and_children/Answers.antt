-- By the lemma on the rows, or the slots, one after another.
use Rattle.std.proofs.Common.{refl}
use Rattle.slots.specs.preorder.Preorder.{no_path}
use Rattle.slots.proofs.preorder.Changes.{renamed-parents}
use Rattle.slots.proofs.preorder.row_laws.a_renamed_row_keeps_parent_and_children.Goals as goal

pub returns : goal.returns
returns c =
    λ rows from to s none apart. renamed-parents rows no_path no_path from to s none apart (λ i. refl)
