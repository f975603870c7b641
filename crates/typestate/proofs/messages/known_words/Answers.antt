-- One word more, and the end.
use Rattle.std.proofs.Common.{◌≡◌, ◌∙◌, ◌<◌, length, take, get_or, sym, ap, arith}
use Rattle.std.proofs.Math.ListN.{length-set}
use Rattle.std.proofs.lemmas.List.{get_or-take}
use Rattle.model.specs.Acceptance.CallRules.{known}
use Rattle.model.specs.Kernel.Messages.{a0, word_registers}
use Rattle.typestate.specs.Calls.{known_with}
use Rattle.typestate.proofs.Words.{all-words, count-words, no-word, one-word}
use Rattle.typestate.proofs.messages.known_words.Goals as goal

pub returns-in-Err-clause-words : goal.returns-in-Err-clause-words
returns-in-Err-clause-words c = λ slots measure.
    let state = known_with c.args.bounds.now slots measure in
    let regs = take c.args.count word_registers in
    let long : length regs ≡ c.args.count = count-words c.args.count c.requires in
    let inside : c.loop-index.index < length regs = omega arith in
    let register : c.word_register.result ≡ get_or regs c.loop-index.index a0 = c.word_register.ensures.value
    ∙ sym (get_or-take c.args.count word_registers c.loop-index.index a0 c.loop-index-test.true) in
    no-word c.args.at state regs c.loop-index.index c.loop-index.words c.in-Err.refusal inside
    (c.in-Err.ensures slots measure ∙ ap (known c.args.at state) register) (c.loop-index.invariant.known slots measure)

pub loop-index-preserved : goal.loop-index-preserved
loop-index-preserved c = record {
  long = length-set c.loop-index.words c.loop-index.index c.in-Ok.value ∙ c.loop-index.invariant.long;
  known = λ slots measure.
      let state = known_with c.args.bounds.now slots measure in
      let regs = take c.args.count word_registers in
      let long : length regs ≡ c.args.count = count-words c.args.count c.requires in
      let inside : c.loop-index.index < length regs = omega arith in
      let room : c.loop-index.index < length c.loop-index.words = omega (arith, c.loop-index.invariant.long) in
      let register : c.word_register.result ≡ get_or regs c.loop-index.index a0 = c.word_register.ensures.value
      ∙ sym (get_or-take c.args.count word_registers c.loop-index.index a0 c.loop-index-test.true) in
      one-word c.args.at state regs c.loop-index.index c.loop-index.words c.in-Ok.value inside room
      (c.in-Ok.ensures slots measure ∙ ap (known c.args.at state) register) (c.loop-index.invariant.known slots measure);
}

pub returns-clause-words : goal.returns-clause-words
returns-clause-words c = λ slots measure.
    all-words c.args.at (known_with c.args.bounds.now slots measure) c.args.count c.loop-index.index c.loop-index.words c.requires (omega arith)
    (c.loop-index.invariant.known slots measure)
