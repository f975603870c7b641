-- The walk gives what the mappings say.
use Rattle.std.proofs.Common.{◌∙◌, ℕ, List, ap, arith}
use Rattle.std.specs.Option.{ok_or}
use Rattle.model.specs.Machine.Sv32.{page_fault, walk}
use Rattle.vspace.proofs.Joins.{walk-place}
use Rattle.vspace.proofs.spaces.place_under.Goals as goal

pub returns : goal.returns
returns g c = λ s near.
    c.walk.ensures
    ∙ ap (λ (memory : List ℕ). ok_or (walk memory c.args.root c.args.address c.args.access) page_fault) c.mem.ensures
    ∙ ap (λ place. ok_or place page_fault) (walk-place s (g.S.SlotMap.slots c.args.store.now) (g.S.SlotStore.memory c.args.store.now) c.args.root c.args.address
    c.args.access near c.requires.agree c.requires.rooted (omega (arith, c.ranges.address.fits)))
