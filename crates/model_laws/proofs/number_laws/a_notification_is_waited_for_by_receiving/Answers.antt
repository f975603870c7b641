-- Who is new among those that wait.
use Rattle.std.proofs.Common.{Contains, refl, subst, sym}
use Rattle.model.specs.declared.system_calls.SystemCall.TheVariants.{Replies, Sends}
use Rattle.model.specs.Kernel.Deliveries.{is_receive}
use Rattle.model.specs.Kernel.State.{NotificationState}
use Rattle.model_laws.proofs.CallNumbers.{not-so, waits-for}
use Rattle.model_laws.proofs.number_laws.a_notification_is_waited_for_by_receiving.Goals as goal

pub returns-clause-sends : goal.returns-clause-sends
returns-clause-sends c = λ image t s after notification other kind old new asks before behind among fresh within.
    let change = within.notifications notification old new before behind
    (λ same. fresh (subst (λ (n : NotificationState). Contains n.waiters other) (sym same) among)) in
    let names = waits-for image t s after notification old new change other among fresh in
    not-so image t s (Sends kind) is_receive asks refl names names.such.receives

pub returns-clause-replies : goal.returns-clause-replies
returns-clause-replies c = λ image t s after notification other old new asks before behind among fresh within.
    let change = within.notifications notification old new before behind
    (λ same. fresh (subst (λ (n : NotificationState). Contains n.waiters other) (sym same) among)) in
    let names = waits-for image t s after notification old new change other among fresh in
    not-so image t s Replies is_receive asks refl names names.such.receives
