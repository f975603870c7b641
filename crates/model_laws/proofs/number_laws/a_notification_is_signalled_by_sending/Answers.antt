-- By how the notification changes.
use Rattle.std.proofs.Common.{ap, refl}
use Rattle.model.specs.declared.system_calls.SystemCall.TheVariants.{Receives, RepliesAndReceives}
use Rattle.model.specs.Kernel.Deliveries.{is_send}
use Rattle.model.specs.Kernel.State.{NotificationState}
use Rattle.model_laws.proofs.CallNumbers.{not-so, word-stays}
use Rattle.model_laws.proofs.number_laws.a_notification_is_signalled_by_sending.Goals as goal

pub returns-clause-receives : goal.returns-clause-receives
returns-clause-receives c = λ image t s after notification kind old new asks before behind differ some within.
    word-stays image t s after notification old new (λ Such names sends. not-so image t s (Receives kind) is_send asks refl names sends) differ
    some (within.notifications notification old new before behind (λ same. differ (ap (λ (n : NotificationState). n.word) same)))

pub returns-clause-replies : goal.returns-clause-replies
returns-clause-replies c = λ image t s after notification old new asks before behind differ some within.
    word-stays image t s after notification old new (λ Such names sends. not-so image t s RepliesAndReceives is_send asks refl names sends)
    differ some (within.notifications notification old new before behind (λ same. differ (ap (λ (n : NotificationState). n.word) same)))
