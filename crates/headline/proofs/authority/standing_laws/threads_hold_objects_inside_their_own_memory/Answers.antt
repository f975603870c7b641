-- The boot CNode names each object of the image; later ones appear inside untyped memory of the thread's own.
use Rattle.headline.proofs.authority.InsideKept.{inside-at-start, inside-kept}
use Rattle.headline.proofs.authority.standing_laws.threads_hold_objects_inside_their_own_memory.Goals as goal

pub returns-clause-start : goal.returns-clause-start
returns-clause-start c = inside-at-start

pub returns-clause-kept : goal.returns-clause-kept
returns-clause-kept c = λ bytes image s after t accepted sound behind before stay listed within.
    inside-kept bytes image accepted s after sound behind before stay t listed within
