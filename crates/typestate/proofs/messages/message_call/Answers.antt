-- By what is known at each step.
use Rattle.std.proofs.Common.{◌≡◌, Ok, Err, length, take, sym, arith}
use Rattle.std.proofs.lemmas.List.{length-take-le}
use Rattle.typestate.specs.Calls.{known_with}
use Rattle.typestate.proofs.CallsOn.{decoded-on}
use Rattle.typestate.proofs.MessageCalls.{calls-so, no-form, no-info, no-words}
use Rattle.typestate.proofs.messages.message_call.Goals as goal

pub returns-in-Err-clause-value : goal.returns-in-Err-clause-value
returns-in-Err-clause-value c = λ image t slots measure call answers same.
    no-info image t c.args.at (known_with c.args.bounds.now slots measure) call answers c.args.capability c.in-Err.refusal same (c.in-Err.ensures slots measure)

pub returns-in-Err-words_listed-clause-value : goal.returns-in-Err-words_listed-clause-value
returns-in-Err-words_listed-clause-value c = λ image t slots measure call answers same.
    no-form image t c.args.at (known_with c.args.bounds.now slots measure) call answers c.args.capability c.in-Ok.info c.in-Err-words_listed.error same
    (c.in-Ok.ensures slots measure) c.in-Err-words_listed.ensures.count

pub returns-in-Err-known_words-clause-value : goal.returns-in-Err-known_words-clause-value
returns-in-Err-known_words-clause-value c = λ image t slots measure call answers same.
    no-words image t c.args.at (known_with c.args.bounds.now slots measure) call answers c.args.capability c.in-Ok.info c.in-Ok-words_listed.count
    c.in-Err-known_words.refusal same
    (c.in-Ok.ensures slots measure) c.in-Ok-words_listed.ensures.count (c.in-Err-known_words.ensures.words slots measure)

pub returns-in-Ok-decode_call-clause-value : goal.returns-in-Ok-decode_call-clause-value
returns-in-Ok-decode_call-clause-value c = λ image t slots measure call answers same.
    let long : length (take c.in-Ok-words_listed.count c.in-Ok-known_words.words) ≡ c.in-Ok-words_listed.count =
    length-take-le c.in-Ok-words_listed.count c.in-Ok-known_words.words
    (omega (arith, c.in-Ok-known_words.ensures.long, c.in-Ok-words_listed.ensures.few)) in
    calls-so image t c.args.at (known_with c.args.bounds.now slots measure) call answers c.args.capability c.in-Ok.info c.in-Ok-words_listed.count
    (take c.in-Ok-words_listed.count c.in-Ok-known_words.words) (Ok c.in-Ok-decode_call.call) same
    (c.in-Ok.ensures slots measure) c.in-Ok-words_listed.ensures.count (c.in-Ok-known_words.ensures.words slots measure) long c.in-Ok-decode_call.ensures

pub returns-in-Err-decode_call-clause-value : goal.returns-in-Err-decode_call-clause-value
returns-in-Err-decode_call-clause-value c = λ image t slots measure call answers same.
    let long : length (take c.in-Ok-words_listed.count c.in-Ok-known_words.words) ≡ c.in-Ok-words_listed.count =
    length-take-le c.in-Ok-words_listed.count c.in-Ok-known_words.words
    (omega (arith, c.in-Ok-known_words.ensures.long, c.in-Ok-words_listed.ensures.few)) in
    calls-so image t c.args.at (known_with c.args.bounds.now slots measure) call answers c.args.capability c.in-Ok.info c.in-Ok-words_listed.count
    (take c.in-Ok-words_listed.count c.in-Ok-known_words.words) (Err c.in-Err-decode_call.error) same
    (c.in-Ok.ensures slots measure) c.in-Ok-words_listed.ensures.count (c.in-Ok-known_words.ensures.words slots measure) long c.in-Err-decode_call.ensures

pub returns-in-Ok-decode_call-clause-fits : goal.returns-in-Ok-decode_call-clause-fits
returns-in-Ok-decode_call-clause-fits c =
    decoded-on c.args.capability _ 0 (take c.in-Ok-words_listed.count c.in-Ok-known_words.words) c.in-Ok-decode_call.call (sym c.in-Ok-decode_call.ensures)
