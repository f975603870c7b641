-- What is added is what the list has more, and each of those was woken, once.
use Rattle.std.proofs.Common.{ℕ, ◌≡◌, ◌≤◌, Some, None, List, [], ◌∷◌, subst, sym, ap, ◌∙◌}
use Rattle.model.specs.Acceptance.Authority.{IsWoken, self_of}
use Rattle.model.specs.Shared.Lists.{times_in}
use Rattle.model.specs.Kernel.State.{Inactive, Runnable, ThreadObject}
use Rattle.model_laws.proofs.Authorities.{added-one, added-two, fronts, itself_there, one_there, twice_there}
use Rattle.model_laws.proofs.authority_laws.only_woken_threads_enter_the_ready_list.Goals as goal

pub returns-clause-nobody : goal.returns-clause-nobody
returns-clause-nobody c = λ image t s after priority other differ empty list none within.
    let change = within.ready priority in
    let one = added-one s after (self_of image t) priority other differ empty list change in
    let woken : IsWoken s after priority other = change.woken other (one_there other change.added one) in
    let e : None ≡ Some (ThreadObject woken.changed) = sym none ∙ woken.is in cc

pub returns-clause-still : goal.returns-clause-still
returns-clause-still c = λ image t s after priority other changed differ empty list is still within.
    let change = within.ready priority in
    let one = added-one s after (self_of image t) priority other differ empty list change in
    let woken : IsWoken s after priority other = change.woken other (one_there other change.added one) in
    let e : Some (ThreadObject changed) ≡ Some (ThreadObject woken.changed) = sym is ∙ woken.is in
    let same : changed ≡ woken.changed = cc in
    let f : Inactive ≡ Runnable = sym still ∙ ap (λ u. u.status) same ∙ woken.runs in cc

pub returns-clause-twice : goal.returns-clause-twice
returns-clause-twice c = λ image t s after priority other differ empty list within.
    let change = within.ready priority in
    let two = added-two s after (self_of image t) priority other differ empty list change in
    let once : times_in change.added other ≤ 1 = change.once other in
    twice_there other change.added two once

pub returns-clause-front : goal.returns-clause-front
returns-clause-front c = λ image t s after priority first second one two differ before behind within.
    differ (sym (fronts s after (self_of image t) priority first second one two before behind (within.ready priority)))

pub returns-clause-itself : goal.returns-clause-itself
returns-clause-itself c = λ image t s after priority empty list within.
    let change = within.ready priority in
    let own : times_in (after.ready priority) (self_of image t) ≤ times_in (s.ready priority) (self_of image t) = change.own in
    let less : times_in (self_of image t ∷ []) (self_of image t) ≤ times_in [] (self_of image t) =
    subst (λ (now : List ℕ). times_in now (self_of image t) ≤ times_in [] (self_of image t)) list
    (subst (λ (old : List ℕ). times_in (after.ready priority) (self_of image t) ≤ times_in old (self_of image t)) empty own) in
    itself_there (self_of image t) less
