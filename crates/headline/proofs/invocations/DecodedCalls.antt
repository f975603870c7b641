-- What a thread's registers hold decodes to the call that the rule performed.
use Rattle.std.proofs.Common.{ℕ, ◌≡◌, ◌∙◌, ◌==◌, ◌≤◌, nat_le, List, map, length, take, Some, Result, Ok, sym, ap, arith}
use Rattle.std.proofs.lemmas.Bool.{leb-true}
use Rattle.model.specs.declared.capabilities.Cap.{Cap}
use Rattle.model.specs.declared.errors.KError.{KError}
use Rattle.model.specs.declared.errors.KError.TheVariants.{IllegalOperation, TruncatedMessage}
use Rattle.model.specs.declared.invocations.Invocation.{Invocation}
use Rattle.model.specs.Kernel.Arguments.{◌>>=◌, Call, check, wanted}
use Rattle.model.specs.Kernel.CallForms.{CallForm, decode, form_called, form_of}
use Rattle.model.specs.Kernel.Invocations.{invoke, perform}
use Rattle.model.specs.Kernel.Messages.{a1, extra_capabilities_of, label_of, length_of, word_registers}
use Rattle.model.specs.Kernel.State.{State}
use Rattle.model.specs.Machine.ProgramMemory.{RegisterFile, read}
use Rattle.soundness.proofs.Laws.{check-passes, passes-both, wanted-some}
use Rattle.headline.specs.invocations.Performed.{IsOn}
use Rattle.headline.proofs.invocations.CallWords.{first-words, words-taken}
use Rattle.headline.proofs.invocations.CalledForms.{form-fits}
use Rattle.headline.proofs.invocations.RuledCalls.{listed_words}

-- a form is found, and as many words come along as it lists
record IsFound (capability : Cap) (label count : ℕ) (form : CallForm) : Type 0 where
  found : form_of capability label ≡ Some form
  enough : form.count ≤ count

form-found : (capability : Cap) (label extra count : ℕ) (form : CallForm) → form_called capability label extra count ≡ Ok form
    → IsFound capability label count form
form-found capability label extra count form is =
    let one = passes-both (check (extra == 0) TruncatedMessage) _ form is in
    let two = passes-both (wanted (form_of capability label) IllegalOperation) _ form one.rest in
    let three = passes-both (check (nat_le two.value.count count) TruncatedMessage) _ form two.rest in
    let same : two.value ≡ form = (let e : ◌≡◌ {A = Result CallForm KError} (Ok two.value) (Ok form) = three.rest in cc) in
    record {
      found = wanted-some (form_of capability label) IllegalOperation two.value two.first ∙ ap Some same;
      enough = leb-true form.count count
          (ap (λ (f : CallForm). nat_le f.count count) (sym same) ∙ check-passes (nat_le two.value.count count) TruncatedMessage three.value three.first);
    }

module _ (capability : Cap) (registers : RegisterFile) (form : CallForm)
    (called : form_called capability (label_of (read registers a1)) (extra_capabilities_of (read registers a1)) (length_of (read registers a1)) ≡ Ok form) where
  abbrev info : ℕ
  info = read registers a1

  -- the words that come along
  abbrev come : List ℕ
  come = map (read registers) (take (length_of info) word_registers)

  abbrev made : Invocation
  made = form.call (listed_words registers form.count)

  found : IsFound capability (label_of info) (length_of info) form
  found = form-found capability (label_of info) (extra_capabilities_of info) (length_of info) form called

  pub made-on : IsOn capability (form.call (listed_words registers form.count))
  made-on = (form-fits capability (label_of info) form (IsFound.found found)).on (listed_words registers form.count)

  as-many : length come ≡ length_of info
  unfolding word_registers
  as-many = words-taken (read registers) word_registers (length_of info) (omega arith)

  same-call : form.call come ≡ made
  same-call =
      (form-fits capability (label_of info) form (IsFound.found found)).reads come (listed_words registers form.count)
      (λ i less. let enough = IsFound.enough found in first-words (read registers) word_registers (length_of info) form.count i (omega (arith, less, enough))
      less)

  decodes : decode capability (label_of info) (extra_capabilities_of info) come ≡ Ok made
  unfolding decode
  decodes =
      ap (λ (n : ℕ). form_called capability (label_of info) (extra_capabilities_of info) n >>= (λ (f : CallForm). Ok (f.call come))) as-many
      ∙ ap (λ (r : Result CallForm KError). r >>= (λ (f : CallForm). Ok (f.call come))) called ∙ ap Ok same-call

  pub invokes-made : (s : State) (call : Call) → call.capability ≡ capability
      → invoke s call (label_of (read registers a1)) (extra_capabilities_of (read registers a1))
      (map (read registers) (take (length_of (read registers a1)) word_registers))
      ≡ perform s call (form.call (listed_words registers form.count))
  unfolding invoke
  invokes-made s call same =
      ap (λ (c : Cap). decode c (label_of info) (extra_capabilities_of info) come >>= perform s call) same
      ∙ ap (λ (r : Result Invocation KError). r >>= perform s call) decodes
