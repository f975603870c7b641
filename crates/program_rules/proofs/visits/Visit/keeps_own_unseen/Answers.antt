-- Each test of its own rules says that it is kept.
use Rattle.std.proofs.Common.{rules, ◌≡◌, ◌∙◌, true, false, pos, Option, None, Bor, option_map, sym, ap}
use Rattle.std.specs.Prelude.{int_lt}
use Rattle.image_reading.specs.declared.records.RecordRef.{RecordRef}
use Rattle.measure.specs.Measures.{measure_of}
use Rattle.model.specs.Acceptance.Measures.{least_value}
use Rattle.program_rules.proofs.OwnKept.{none-stray, own-kept}
use Rattle.program_rules.proofs.visits.Visit.keeps_own_unseen.Goals as goal
use Rattle.program_rules.specs.Programs.{thread_of}
use Rattle.typestate.specs.Calls.{known_with}

pub returns-clause-own : goal.returns-clause-own
returns-clause-own c = λ slots is clean.
    let v = c.args.self.now in
    let image = v.program.now.given.space.image.now in
    let t = thread_of v.program.now in
    let known = c.args.known.now in
    let s = known_with known.bounds slots (measure_of known.measure) in
    let none : ◌≡◌ {A = Option (Bor RecordRef)} v.noted None = search rules in
    let known-clean : known.is_clean ≡ true = search rules in
    let plain : c.goes_on_plainly.result ≡ true = search rules in
    let falls : int_lt (least_value (measure_of known.measure) known.bounds) (pos 1) ≡ false = search rules in
    own-kept image t v.point s v.instr (c.goes_on_plainly.ensures.legal plain) (c.goes_on_plainly.ensures.direct plain)
    (none-stray image t.thread v.point s (sym v.listed ∙ ap (λ (o : Option (Bor RecordRef)). option_map (λ r. r.now) o) none) (clean known-clean)) falls
    (c.goes_on_plainly.ensures.mapped plain image t.thread s)
