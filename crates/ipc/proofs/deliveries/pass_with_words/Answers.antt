-- Each word goes into its register, and then the thread goes on.
use Rattle.std.proofs.Common.{ℕ, List, ap, arith, drop, refl, sym, ◌+◌, ◌∙◌}
use Rattle.std.proofs.Math.ListN.{drop_of_length-le}
use Rattle.ipc.proofs.SetRegisters.{passes-after, passes-own}
use Rattle.ipc.proofs.Words.{eight-registers, one-more}
use Rattle.ipc.proofs.deliveries.pass_with_words.Goals as goal
use Rattle.model.specs.Kernel.Messages.{passes_with, word_registers, write_words}
use Rattle.model.specs.Kernel.State.{thread_at}
use Rattle.model.specs.Machine.ProgramMemory.{RegisterFile, write}
use Rattle.objects.proofs.Laws.{beside-then}
use Rattle.objects.specs.Lives.{state_in}

pub words-init : goal.words-init
words-init g c = record { there = c.requires.there; state = refl; few = c.held-words.ensures.most; beside = λ later same. same }

pub words-preserved : goal.words-preserved
words-preserved g c =
    let now = state_in g.S.SlotMap.slots g.S.SlotStore.memory c.words.live in
    let r = (thread_at now c.args.thread).registers in
    let x = c.word_register.result in
    let registers = drop (c.words.index + 1) word_registers in
    let words = drop (c.words.index + 1) c.held-words.result.now in
    record {
      there = c.set_register.ensures.beside.bytes.kinds c.args.thread ∙ c.words.invariant.there;
      state = passes-after now c.args.thread _ (write r x _) (λ (file : RegisterFile). write_words file registers words) c.set_register.ensures.state
          ∙ ap (λ (file : RegisterFile). passes_with now c.args.thread file)
          (one-more r word_registers c.held-words.result.now c.words.index x _ (omega (arith, eight-registers)) c.words-test.true
          c.word_register.ensures.register refl)
          ∙ c.words.invariant.state;
      few = c.words.invariant.few;
      beside = λ later same. c.words.invariant.beside later (beside-then c.set_register.ensures.beside same);
    }

pub returns-clause-state : goal.returns-clause-state
returns-clause-state g c =
    let first = state_in g.S.SlotMap.slots g.S.SlotStore.memory c.args.live.now in
    let now = state_in g.S.SlotMap.slots g.S.SlotStore.memory c.words.live in
    let r = (thread_at now c.args.thread).registers in
    let registers = drop c.words.index word_registers in
    c.pass.ensures.state ∙ passes-own now c.args.thread
    ∙ ap (λ (words : List ℕ). passes_with now c.args.thread (write_words r registers words))
    (sym (drop_of_length-le c.held-words.result.now (omega (arith, c.words-test.false))))
    ∙ c.words.invariant.state
    ∙ ap (λ (words : List ℕ). passes_with first c.args.thread (write_words (thread_at first c.args.thread).registers word_registers words))
    c.held-words.ensures.value

pub returns-clause-beside : goal.returns-clause-beside
returns-clause-beside g c = c.words.invariant.beside _ c.pass.ensures.beside
