-- One word more.
use Rattle.std.proofs.Common.{◌≡◌, ◌∙◌, ◌+◌, ◌≤◌, ◌&&◌, Bool, true, false, List, drop, length, subst, sym, ap, arith}
use Rattle.model.specs.Acceptance.Promises.{keep_words, keeps_word}
use Rattle.model.specs.Acceptance.Ranges.{range_of}
use Rattle.model.specs.Kernel.Messages.{word_registers}
use Rattle.model.specs.declared.entries.PromisedWord.{PromisedWord}
use Rattle.model.specs.declared.instructions.Register.{Register}
use Rattle.model.specs.declared.ranges.Range.{Range}
use Rattle.typestate.proofs.PromisedWords.{word-left}
use Rattle.typestate.proofs.plain_calls.keep_words.Goals as goal

pub words-init : goal.words-init
words-init c =
    let given = c.into_iter-word-iterator.ensures.into_iter_gives in
    let small = subst (λ (ws : List PromisedWord). length ws ≤ 8) (sym given) c.words-word-items.ensures.few in
    record {
      few = omega (arith, small);
      left = ap (keep_words c.args.bounds.now word_registers) (given ∙ c.words-word-items.ensures.value);
    }

pub word_register-requires : goal.word_register-requires
word_register-requires c =
    let few = c.words.invariant.few in
    let steps = ap (λ (ws : List PromisedWord). length ws) c.in-Some.ensures.steps in
    omega (arith, few, steps)

pub returns-then-not-keeps_word : goal.returns-then-not-keeps_word
returns-then-not-keeps_word c =
    let ranges = c.args.bounds.now in
    let few = c.words.invariant.few in
    let steps = ap (λ (ws : List PromisedWord). length ws) c.in-Some.ensures.steps in
    let fails : keeps_word (range_of ranges c.word_register.result) c.in-Some.word ≡ false =
    ap (λ (r : Range). keeps_word r c.in-Some.word) (sym c.get.ensures.range) ∙ sym c.keeps_word.ensures ∙ c.if-not-keeps_word.true in
    sym (sym c.words.invariant.left ∙ ap (keep_words ranges (drop c.words.index word_registers)) c.in-Some.ensures.steps
    ∙ word-left ranges c.words.index c.in-Some.word c.next.new.self (omega (arith, few, steps))
    ∙ ap (λ (x : Register). keeps_word (range_of ranges x) c.in-Some.word && keep_words ranges (drop (c.words.index + 1) word_registers) c.next.new.self)
    (sym c.word_register.ensures.value)
    ∙ ap (λ (b : Bool). b && keep_words ranges (drop (c.words.index + 1) word_registers) c.next.new.self) fails)

pub words-preserved : goal.words-preserved
words-preserved c =
    let ranges = c.args.bounds.now in
    let few = c.words.invariant.few in
    let steps = ap (λ (ws : List PromisedWord). length ws) c.in-Some.ensures.steps in
    let keeps : keeps_word (range_of ranges c.word_register.result) c.in-Some.word ≡ true =
    ap (λ (r : Range). keeps_word r c.in-Some.word) (sym c.get.ensures.range) ∙ sym c.keeps_word.ensures ∙ c.if-not-keeps_word.false in
    record {
      few = omega (arith, few, steps);
      left =
          sym (ap (keep_words ranges (drop c.words.index word_registers)) c.in-Some.ensures.steps
          ∙ word-left ranges c.words.index c.in-Some.word c.next.new.self (omega (arith, few, steps))
          ∙ ap (λ (x : Register). keeps_word (range_of ranges x) c.in-Some.word && keep_words ranges (drop (c.words.index + 1) word_registers) c.next.new.self)
          (sym c.word_register.ensures.value)
          ∙ ap (λ (b : Bool). b && keep_words ranges (drop (c.words.index + 1) word_registers) c.next.new.self) keeps)
          ∙ c.words.invariant.left;
    }
