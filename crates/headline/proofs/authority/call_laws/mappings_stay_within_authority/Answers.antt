-- The frame's own slot changes: it has a mapping after the call, by the rights that the kernel gives to the rights word.
use Rattle.headline.proofs.authority.NewMappings.{map-within}
use Rattle.headline.proofs.authority.call_laws.mappings_stay_within_authority.Goals as goal

pub returns : goal.returns
returns c = λ image t s kind number offset allowed sound is call maps. map-within image t s offset allowed kind number is sound call maps
