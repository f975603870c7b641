-- Each queue has a message that breaks the promise.
use Rattle.std.proofs.Common.{[], ◌∷◌, arith, refl}
use Rattle.model.specs.Kernel.State.{BySend, ByCall}
use Rattle.model_laws.specs.KeptPromises.{breaker, by, keeper, promised}
use Rattle.model_laws.specs.Promised.{port}
use Rattle.model_laws.proofs.Opened.{opened}
use Rattle.model_laws.proofs.kept_promise_rows.promises_are_kept_by_all_that_wait.Goals as goal

pub returns-clause-badge : goal.returns-clause-badge
unfolding opened
returns-clause-badge c = λ kept.
    let k = kept promised (record { senders = by keeper BySend 2 ∷ []; receivers = [] }) (by keeper BySend 2) port refl (0, omega (arith), refl) refl in
    omega (arith, k.badge_low)

pub returns-clause-word : goal.returns-clause-word
unfolding opened
returns-clause-word c = λ kept.
    let k = kept promised (record { senders = by breaker BySend 3 ∷ []; receivers = [] }) (by breaker BySend 3) port refl (0, omega (arith), refl) refl in
    omega (arith, k.words.0)

pub returns-clause-called : goal.returns-clause-called
unfolding opened
returns-clause-called c = λ kept.
    let k = kept promised (record { senders = by breaker ByCall 3 ∷ []; receivers = [] }) (by breaker ByCall 3) port refl (0, omega (arith), refl) refl in
    omega (arith, k.words.0)

pub returns-clause-second : goal.returns-clause-second
unfolding opened
returns-clause-second c = λ kept.
    let k = kept promised (record { senders = by keeper BySend 3 ∷ by breaker BySend 3 ∷ []; receivers = [] }) (by breaker BySend 3) port refl
    (1, omega (arith), refl) refl in
    omega (arith, k.words.0)

pub returns-clause-second_badge : goal.returns-clause-second_badge
unfolding opened
returns-clause-second_badge c = λ kept.
    let k = kept promised (record { senders = by keeper BySend 3 ∷ by keeper BySend 6 ∷ []; receivers = [] }) (by keeper BySend 6) port refl
    (1, omega (arith), refl) refl in
    omega (arith, k.badge_high)
