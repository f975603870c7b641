-- What a word becomes, by which capability.
use Rattle.std.proofs.Common.{◌≡◌, true, false, Ok, Err, Contains, subst, sym, ap, ◌∙◌}
use Rattle.model.specs.Capabilities.Rights.{rights}
use Rattle.model.specs.Kernel.State.{NotificationState}
use Rattle.model_laws.proofs.QueueChanges.{bound-badge, joined-badge, slot-named, waiter-is, word-now}
use Rattle.model_laws.proofs.authority_laws.a_word_takes_the_named_badge.Goals as goal

pub returns-clause-badge : goal.returns-clause-badge
returns-clause-badge c = λ image t s after slot notification badge r old new named holds before behind changed some another within.
    let change = within.notifications notification old new before behind (λ same. changed (ap (λ (n : NotificationState). n.word) (sym same))) in
    another (joined-badge image t s after notification old new slot badge r named holds changed some (word-now image t s after notification old new change)).0

pub returns-clause-unwritten : goal.returns-clause-unwritten
returns-clause-unwritten c = λ image t s after slot notification badge old new named holds before behind changed some within.
    let change = within.notifications notification old new before behind (λ same. changed (ap (λ (n : NotificationState). n.word) (sym same))) in
    let e : false ≡ true =
    (joined-badge image t s after notification old new slot badge (rights 2) named holds changed some
    (word-now image t s after notification old new change)).1 in
    cc

pub returns-clause-line : goal.returns-clause-line
returns-clause-line c = λ image t s after slot number notification badge old new named holds bound before behind changed another within.
    let change = within.notifications notification old new before behind (λ same. changed (ap (λ (n : NotificationState). n.word) (sym same))) in
    another (bound-badge image t s after notification old new slot number badge named holds bound changed
    (word-now image t s after notification old new change))

pub returns-clause-waiter : goal.returns-clause-waiter
returns-clause-waiter c = λ image t s after notification other old new before behind among fresh another within.
    let change = within.notifications notification old new before behind
    (λ same. fresh (subst (λ (n : NotificationState). Contains n.waiters other) (sym same) among)) in
    another (sym (waiter-is image t s after notification old new change other among fresh))

pub returns-clause-nothing : goal.returns-clause-nothing
returns-clause-nothing c = λ image t s after notification failure old new named before behind differ within.
    let names = slot-named image t s after notification old new (within.notifications notification old new before behind differ) in
    let e : Ok names.0 ≡ Err failure = sym names.1 ∙ named in cc
