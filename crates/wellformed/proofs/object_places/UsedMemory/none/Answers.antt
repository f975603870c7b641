-- Nothing is used.
use Rattle.std.proofs.Common.{List, ℕ, sym, subst}
use Rattle.wellformed.proofs.Placing.{none-used}
use Rattle.wellformed.specs.Used.{IsUsed}
use Rattle.wellformed.proofs.object_places.UsedMemory.none.Goals as goal

pub returns : goal.returns
returns c = λ image. subst (λ (amounts : List ℕ). IsUsed image 0 amounts) (sym c.nothing_used-used.ensures) (none-used image)
