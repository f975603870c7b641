-- A thread's slots map nothing at the start, and later what Map gives.
use Rattle.headline.proofs.authority.MapsKept.{maps-own-kept}
use Rattle.headline.proofs.authority.StartingMaps.{maps-own-at-start}
use Rattle.headline.proofs.authority.standing_laws.threads_map_under_their_own_root_tables.Goals as goal

pub returns-clause-start : goal.returns-clause-start
returns-clause-start c = maps-own-at-start

pub returns-clause-kept : goal.returns-clause-kept
returns-clause-kept c = λ bytes image s after event accepted before within. maps-own-kept bytes image accepted s after before event within
