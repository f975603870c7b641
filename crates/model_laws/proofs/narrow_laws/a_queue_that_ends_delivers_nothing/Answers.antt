-- What takes the first of a queue is of a queue before and after.
use Rattle.std.proofs.Common.{◌≡◌, true, false, Option, Some, inl, inr, sym, ap, ◌∙◌}
use Rattle.std.specs.Option.{option_map_or}
use Rattle.model.specs.Acceptance.Authority.{delivers, opens}
use Rattle.model.specs.Kernel.Interrupts.{Signal}
use Rattle.model.specs.Kernel.Kinds.{kind_at}
use Rattle.model_laws.proofs.MessageBytes.{of-message}
use Rattle.model_laws.proofs.Narrow.{ended-delivers, ended-gives, set-back-only, signalled-kinds}
use Rattle.model_laws.proofs.narrow_laws.a_queue_that_ends_delivers_nothing.Goals as goal

pub returns-clause-waits : goal.returns-clause-waits
returns-clause-waits c = λ image t s after other queue old new apart before waits ended gone behind differ wrong within.
    wrong (set-back-only image t s after other old new queue waits ended gone (within.threads other old new apart before behind differ))

pub returns-clause-bytes : goal.returns-clause-bytes
returns-clause-bytes c = λ image t s after place slot endpoint badge r changes named holds alone ended within.
    let m = of-message image t s after place changes within in
    ended-delivers image t s after m.from m.to slot endpoint badge r named holds alone ended m.delivers

pub returns-clause-right : goal.returns-clause-right
returns-clause-right c = λ image t s after slot endpoint badge third r old new named holds ended before behind none has within.
    ended-gives image t s after slot endpoint badge third r old.caller new.caller named holds ended none has (within.right old new before behind)

pub returns-clause-line : goal.returns-clause-line
returns-clause-line c = λ image t s after number notification badge was gone bound none within.
    elim (within.lines number (inr (λ same. let e : true ≡ false = sym was ∙ same ∙ gone in cc))).1 [
      | opens why unmasked same ↦ let e : true ≡ false = sym was ∙ sym same ∙ gone in cc
      | delivers n b also told pending taken masked ↦
          let e : ◌≡◌ {A = Option Signal} (Some (record { notification = n; badge = b })) (Some (record { notification = notification; badge = badge })) =
          sym also ∙ bound in
          let one : n ≡ notification = ap (λ (o : Option Signal). option_map_or (λ signal. signal.notification) o 0) e in
          let kinds = signalled-kinds s after n b told in
          elim none [
            | inl before ↦ before (ap (kind_at s) (sym one) ∙ kinds.0)
            | inr behind ↦ behind (ap (kind_at after) (sym one) ∙ kinds.1)
          ]
    ]
