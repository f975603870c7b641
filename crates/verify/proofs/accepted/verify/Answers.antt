-- By reading, and the rules on what was read.
use Rattle.std.proofs.Common.{◌≡◌, ◌∙◌, ◌⊎◌, inr, Some, Err, sym, ap, arith}
use Rattle.std.proofs.lemmas.Result.{err_from_is_err_and}
use Rattle.model.specs.Acceptance.Accepted.{first_breach}
use Rattle.model.specs.Images.Format.{reading}
use Rattle.model.specs.Images.Image.{whole_image}
use Rattle.model.specs.declared.refusals.Refusal.{Refusal}
use Rattle.model.specs.declared.refusals.Refusal.TheVariants.{OutOfMemory}
use Rattle.verify.proofs.Verdicts.{accepted, breach-told, only-memory, told, unread-first, untold}
use Rattle.verify.proofs.accepted.verify.Goals as goal

pub returns-in_err-image-clause-refused : goal.returns-in_err-image-clause-refused
returns-in_err-image-clause-refused c =
    let p = err_from_is_err_and c.from_residual.result c.from_residual.ensures.1 in
    told (λ refusal. (refusal ≡ OutOfMemory) ⊎ (first_breach c.args.bytes.now ≡ Some refusal)) c.from_residual.result c.in_err-image.field-0.0
    (p.1 ∙ ap (λ (r : Refusal). Err r) p.2)
    (inr (unread-first c.args.bytes.now c.in_err-image.field-0.0 (sym c.in_err-image.was ∙ c.read.ensures)))

pub returns-in_err-image-clause-complete : goal.returns-in_err-image-clause-complete
returns-in_err-image-clause-complete c = λ image is.
    let p = err_from_is_err_and c.from_residual.result c.from_residual.ensures.1 in
    told (λ refusal. refusal ≡ OutOfMemory) c.from_residual.result c.in_err-image.field-0.0 (p.1 ∙ ap (λ (r : Refusal). Err r) p.2)
    (only-memory c.args.bytes.now image c.in_err-image.field-0.0
    (inr (unread-first c.args.bytes.now c.in_err-image.field-0.0 (sym c.in_err-image.was ∙ c.read.ensures))) is)

pub returns-in_err-image-clause-unread : goal.returns-in_err-image-clause-unread
returns-in_err-image-clause-unread c =
    let bytes = c.args.bytes.now in
    let r = c.from_residual.result in
    let p = err_from_is_err_and r c.from_residual.ensures.1 in
    told (λ (refusal : Refusal). r ≡ Err refusal) (reading whole_image bytes) c.in_err-image.field-0.0 (sym (sym c.in_err-image.was ∙ c.read.ensures))
    (p.1 ∙ ap (λ (refusal : Refusal). Err refusal) p.2)

pub returns-in_err-check-clause-unread : goal.returns-in_err-check-clause-unread
returns-in_err-check-clause-unread c = untold c.args.bytes.now c.in_ok-image.image (λ refusal. c.from_residual-in_err-check.result ≡ Err refusal)
    (sym c.in_ok-image.was ∙ c.read.ensures)

pub returns-in_err-check-clause-refused : goal.returns-in_err-check-clause-refused
returns-in_err-check-clause-refused c =
    let p = err_from_is_err_and c.from_residual-in_err-check.result c.from_residual-in_err-check.ensures.1 in
    told (λ refusal. (refusal ≡ OutOfMemory) ⊎ (first_breach c.args.bytes.now ≡ Some refusal)) c.from_residual-in_err-check.result c.in_err-check.field-0.0
    (p.1 ∙ ap (λ (r : Refusal). Err r) p.2)
    (breach-told c.args.bytes.now c.in_ok-image.image c.in_err-check.field-0.0 (sym c.in_ok-image.was ∙ c.read.ensures) c.in_err-check.ensures.refused)

pub returns-in_err-check-clause-complete : goal.returns-in_err-check-clause-complete
returns-in_err-check-clause-complete c = λ image is.
    let p = err_from_is_err_and c.from_residual-in_err-check.result c.from_residual-in_err-check.ensures.1 in
    told (λ refusal. refusal ≡ OutOfMemory) c.from_residual-in_err-check.result c.in_err-check.field-0.0 (p.1 ∙ ap (λ (r : Refusal). Err r) p.2)
    (only-memory c.args.bytes.now image c.in_err-check.field-0.0
    (breach-told c.args.bytes.now c.in_ok-image.image c.in_err-check.field-0.0 (sym c.in_ok-image.was ∙ c.read.ensures) c.in_err-check.ensures.refused) is)

pub returns-clause-accepted : goal.returns-clause-accepted
returns-clause-accepted c =
    accepted c.args.bytes.now c.in_ok-image.image (λ i. omega (arith, c.type_inv.bytes i)) (sym c.read.ensures ∙ c.in_ok-image.was) c.in_ok-check.ensures.formed
    c.in_ok-check.ensures.programs

pub returns-clause-starts : goal.returns-clause-starts
returns-clause-starts c = λ t listed. c.threads_start_as_certified.ensures c.args.bytes.now c.in_ok-image.image t (returns-clause-accepted c) listed

pub returns-clause-steps : goal.returns-clause-steps
returns-clause-steps c = λ t events listed stands runs reaches.
    let laws = c.plain_steps_keep_threads.ensures in
    let accepted = returns-clause-accepted c in
    record {
      faults = (laws.behind_events c.args.bytes.now c.in_ok-image.image events t accepted listed stands runs reaches).0;
      stands = laws.one_event_more c.args.bytes.now c.in_ok-image.image events t accepted listed stands runs reaches;
    }

pub returns-clause-stands : goal.returns-clause-stands
returns-clause-stands c = c.all_stand_at_the_start.ensures c.args.bytes.now c.in_ok-image.image (returns-clause-accepted c)

pub returns-clause-events : goal.returns-clause-events
returns-clause-events c = λ s labels event devices all.
    c.events_keep_all_standing.ensures c.args.bytes.now c.in_ok-image.image s labels event (returns-clause-accepted c) devices all

pub returns-clause-unread : goal.returns-clause-unread
returns-clause-unread c = untold c.args.bytes.now c.in_ok-image.image _ (sym c.in_ok-image.was ∙ c.read.ensures)
