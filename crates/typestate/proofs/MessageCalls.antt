-- The call of a message whose words are known.
use Rattle.std.proofs.Common.{ℕ, ◌≡◌, ◌∙◌, Bool, Result, Ok, Err, List, length, take, refl, sym, ap}
use Rattle.model.specs.declared.capabilities.Cap.{Cap}
use Rattle.model.specs.declared.errors.KError.{KError}
use Rattle.model.specs.declared.invocations.Invocation.{Invocation}
use Rattle.model.specs.declared.refusals.Point.{Point}
use Rattle.model.specs.declared.refusals.Refusal.{Refusal}
use Rattle.model.specs.declared.refusals.Refusal.TheVariants.{CallRefused}
use Rattle.model.specs.Acceptance.CallRules.{AfterCall, all_known, invocation, invoked, kernel_allows, known}
use Rattle.model.specs.Acceptance.NotedStates.{PointState}
use Rattle.model.specs.Images.Format.{◌>>=◌}
use Rattle.model.specs.Images.Image.{Image, Thread}
use Rattle.model.specs.Kernel.Arguments.{Call}
use Rattle.model.specs.Kernel.CallForms.{CallForm, decode, form_called}
use Rattle.model.specs.Kernel.Messages.{a1, extra_capabilities_of, label_of, length_of, word_registers}
use Rattle.typestate.specs.Messages.{called_with, count_of}
use Rattle.typestate.proofs.Forms.{decode-form}

abbrev counted : ℕ → Result ℕ KError
counted n = Ok n

abbrev failed : KError → Result ℕ KError
failed error = Err error

same-count : (a b : ℕ) → counted a ≡ counted b → b ≡ a
same-count a b is = cc

same-error : (a b : KError) → failed a ≡ failed b → b ≡ a
same-error a b is = cc

module _ (image : Image) (t : Thread) (at : Point) (state : PointState) (call : Call) (answers : Bool) where
  -- behind the checks on the form
  abbrev formed : Result CallForm KError → Result AfterCall Refusal
  formed found = kernel_allows at found >>= λ form. all_known at state (take form.count word_registers) >>= λ words.
      invoked image t at state call (form.call words) answers

  abbrev informed : Cap → Result ℕ Refusal → Result AfterCall Refusal
  informed capability info = info >>= λ word. formed (form_called capability (label_of word) (extra_capabilities_of word) (length_of word))

  informed-is : (capability : Cap) (info : Result ℕ Refusal) → call.capability ≡ capability → info ≡ known at state a1 →
      invocation image t at state call answers ≡ informed capability info
  informed-is capability info same is = ap (λ (c : Cap). informed c (known at state a1)) same ∙ ap (informed capability) (sym is)

  pub no-info : (capability : Cap) (refusal : Refusal) → call.capability ≡ capability → Err refusal ≡ known at state a1 →
      invocation image t at state call answers ≡ Err refusal
  no-info capability refusal same is = informed-is capability (Err refusal) same is

  -- a form that is refused
  formed-refused : (found : Result CallForm KError) (error : KError) → Err error ≡ count_of found → formed found ≡ Err (CallRefused at error)
  formed-refused (Ok form) error is = absurd (let clash : Err error ≡ Ok form.count = is in cc)
  formed-refused (Err other) error is = ap (λ (e : KError). let r : Result AfterCall Refusal = Err (CallRefused at e) in r) (same-error error other is)

  pub no-form : (capability : Cap) (info : ℕ) (error : KError) → call.capability ≡ capability → Ok info ≡ known at state a1
      → Err error ≡ count_of (form_called capability (label_of info) (extra_capabilities_of info) (length_of info)) →
      invocation image t at state call answers ≡ Err (CallRefused at error)
  no-form capability info error same is refused = informed-is capability (Ok info) same is
      ∙ formed-refused (form_called capability (label_of info) (extra_capabilities_of info) (length_of info)) error refused

  -- a form whose words are not known
  formed-unknown : (found : Result CallForm KError) (count : ℕ) (refusal : Refusal) → Ok count ≡ count_of found →
      all_known at state (take count word_registers) ≡ Err refusal → formed found ≡ Err refusal
  formed-unknown (Err error) count refusal is unknown = absurd (let clash : Ok count ≡ Err error = is in cc)
  formed-unknown (Ok form) count refusal is unknown =
      let same = same-count count form.count is in
      ap (λ (words : Result (List ℕ) Refusal). words >>= λ ws. invoked image t at state call (form.call ws) answers)
      (ap (λ n. all_known at state (take n word_registers)) same ∙ unknown)

  pub no-words : (capability : Cap) (info count : ℕ) (refusal : Refusal) → call.capability ≡ capability → Ok info ≡ known at state a1
      → Ok count ≡ count_of (form_called capability (label_of info) (extra_capabilities_of info) (length_of info))
      → all_known at state (take count word_registers) ≡ Err refusal → invocation image t at state call answers ≡ Err refusal
  no-words capability info count refusal same is formed-as unknown =
      informed-is capability (Ok info) same is ∙ formed-unknown (form_called capability (label_of info) (extra_capabilities_of info) (length_of info)) count
      refusal formed-as unknown

  -- a call
  formed-called : (capability : Cap) (label extra most : ℕ) (found : Result CallForm KError) (count : ℕ) (words : List ℕ) →
      form_called capability label extra most ≡ found → Ok count ≡ count_of found
      → all_known at state (take count word_registers) ≡ Ok words → length words ≡ count →
      formed found ≡ called_with image t at state call answers (kernel_allows at (decode capability label 0 words))
  formed-called capability label extra most (Err error) count words e is known-words long = absurd (let clash : Ok count ≡ Err error = is in cc)
  formed-called capability label extra most (Ok form) count words e is known-words long =
      let same = same-count count form.count is in
      ap (λ (ws : Result (List ℕ) Refusal). ws >>= λ xs. invoked image t at state call (form.call xs) answers)
      (ap (λ n. all_known at state (take n word_registers)) same ∙ known-words)
      ∙ ap (λ (c : Result Invocation KError). called_with image t at state call answers (kernel_allows at c))
      (sym (decode-form capability label extra most form words e (long ∙ sym same)))

  pub calls-so : (capability : Cap) (info count : ℕ) (words : List ℕ) (decoded : Result Invocation KError) → call.capability ≡ capability →
      Ok info ≡ known at state a1
      → Ok count ≡ count_of (form_called capability (label_of info) (extra_capabilities_of info) (length_of info))
      → all_known at state (take count word_registers) ≡ Ok words → length words ≡ count → decoded ≡ decode capability (label_of info) 0 words
      → invocation image t at state call answers ≡ called_with image t at state call answers (kernel_allows at decoded)
  calls-so capability info count words decoded same is formed-as known-words long decodes =
      informed-is capability (Ok info) same is
      ∙ formed-called capability (label_of info) (extra_capabilities_of info) (length_of info)
      (form_called capability (label_of info) (extra_capabilities_of info) (length_of info)) count words refl formed-as known-words long
      ∙ ap (λ (c : Result Invocation KError). called_with image t at state call answers (kernel_allows at c)) (sym decodes)
