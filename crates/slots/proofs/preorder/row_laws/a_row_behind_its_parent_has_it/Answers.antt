-- By the lemma on the rows, or the slots, one after another.
use Rattle.slots.specs.preorder.Preorder.{no_path}
use Rattle.slots.proofs.preorder.Paths.{put-others, put-own}
use Rattle.slots.proofs.preorder.row_laws.a_row_behind_its_parent_has_it.Goals as goal

pub returns : goal.returns
returns c =
    record { own = λ rows parent slot. put-own rows no_path parent slot; others = λ rows parent slot s. put-others rows 0 no_path parent slot s }
