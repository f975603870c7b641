-- What the rule on invocations says of one that it allows: the registers name one call, and on what is noted that has no error.
use Rattle.std.proofs.Common.{ℕ, ◌≡◌, ◌∙◌, ◌<◌, Bool, true, false, not, if◌then◌else◌, List, [], ◌∷◌, map, take, Result, Ok, Err, refl, ap, arith}
use Rattle.std.specs.List.{All}
use Rattle.std.proofs.lemmas.Bool.{not-true}
use Rattle.std.proofs.lemmas.List.Elements.{All-from_recursion, All-take}
use Rattle.headline.proofs.calls.Laws.{passes, word-known, words-known}
use Rattle.model.specs.declared.errors.KError.{KError}
use Rattle.model.specs.declared.errors.KError.TheVariants.{IllegalOperation}
use Rattle.model.specs.declared.instructions.Register.{Register}
use Rattle.model.specs.declared.refusals.Point.{Point}
use Rattle.model.specs.declared.refusals.Refusal.{Refusal}
use Rattle.model.specs.declared.refusals.Refusal.TheVariants.{CallRefused, PoolLost}
use Rattle.model.specs.Acceptance.CallRules.{AfterCall, all_known, demand, invocation, invoked, kernel_allows, known, loses_pool, may_call, with_answer}
use Rattle.model.specs.Acceptance.NotedKernel.{noted_after, noted_kernel}
use Rattle.model.specs.Acceptance.NotedStates.{PointState}
use Rattle.model.specs.Acceptance.ThreadInvariants.{LieWithin}
use Rattle.model.specs.Images.Format.{◌>>=◌}
use Rattle.model.specs.Images.Image.{Image, Thread}
use Rattle.model.specs.Kernel.Arguments.{Call}
use Rattle.model.specs.Kernel.CallForms.{CallForm, form_called}
use Rattle.model.specs.Kernel.Invocations.{perform}
use Rattle.model.specs.Kernel.Messages.{a0, a1, extra_capabilities_of, label_of, length_of, word_registers}
use Rattle.model.specs.Kernel.State.{State}
use Rattle.model.specs.Machine.ProgramMemory.{RegisterFile, read}

-- ---- checks that pass

allows : {A : Type 0} (at : Point) (r : Result A KError) (x : A) → kernel_allows at r ≡ Ok x → r ≡ Ok x
allows {A} at (Ok y) x is = let e : ◌≡◌ {A = Result A Refusal} (Ok y) (Ok x) = is in let same : y ≡ x = cc in ap Ok same
allows {A} at (Err error) x is = absurd (let e : ◌≡◌ {A = Result A Refusal} (Err (CallRefused at error)) (Ok x) = is in cc)

demands : (test : Bool) (refusal : Refusal) (u : Unit {0}) → demand test refusal ≡ Ok u → test ≡ true
demands true refusal u is = refl
demands false refusal u is = absurd (let e : ◌≡◌ {A = Result (Unit {0}) Refusal} (Err refusal) (Ok u) = is in cc)

-- ---- the words

abbrev IsNumbered : Register → Type 0
IsNumbered x = x.0 < 32

words-numbered : All IsNumbered word_registers
unfolding word_registers
words-numbered =
    All-from_recursion IsNumbered word_registers
    (omega arith, (omega arith, (omega arith, (omega arith, (omega arith, (omega arith, (omega arith, (omega arith, tt))))))))

-- the words that a form lists, as the registers hold them
abbrev pub listed_words : RegisterFile → ℕ → List ℕ
listed_words registers count = map (read registers) (take count word_registers)

-- ---- the whole rule

abbrev pub left_by : Image → Thread → PointState → Bool → State → AfterCall
left_by image t state has_answer noted = record {
  ranges = if has_answer then with_answer state.ranges else state.ranges;
  slots = noted_after image t noted.slots;
  is_wait = false;
  written = if has_answer then a0 ∷ a1 ∷ [] else [];
}

pub record IsRuled (image : Image) (t : Thread) (state : PointState) (call : Call) (has_answer : Bool) (left : AfterCall)
    (registers : RegisterFile) : Type 0 where
  pub form : CallForm
  pub called : form_called call.capability (label_of (read registers a1)) (extra_capabilities_of (read registers a1)) (length_of (read registers a1)) ≡ Ok form
  pub noted : State
  pub performs : perform (noted_kernel image t state.slots) call (form.call (listed_words registers form.count)) ≡ Ok noted
  pub keeps_pools : loses_pool (noted_kernel image t state.slots).slots call (form.call (listed_words registers form.count)) ≡ false
  pub may : may_call (noted_kernel image t state.slots).slots call (form.call (listed_words registers form.count)) ≡ true
  pub left_is : left ≡ left_by image t state has_answer noted

module _ (image : Image) (t : Thread) (at : Point) (state : PointState) (call : Call) (has_answer : Bool) (left : AfterCall) (registers : RegisterFile)
    (within : LieWithin registers state.ranges) where
  abbrev kernel : State
  kernel = noted_kernel image t state.slots

  abbrev form_by : ℕ → Result CallForm KError
  form_by info = form_called call.capability (label_of info) (extra_capabilities_of info) (length_of info)

  abbrev with_form : CallForm → Result AfterCall Refusal
  with_form form = all_known at state (take form.count word_registers) >>= (λ words. invoked image t at state call (form.call words) has_answer)

  by-words : (form : CallForm) (words : List ℕ) → form_by (read registers a1) ≡ Ok form → listed_words registers form.count ≡ words
      → invoked image t at state call (form.call words) has_answer ≡ Ok left → IsRuled image t state call has_answer left registers
  by-words form words called same is =
      let c = form.call words in
      let end : State → Result AfterCall Refusal = λ noted. Ok (left_by image t state has_answer noted) in
      let allowed : State → Result AfterCall Refusal = λ noted. demand (may_call kernel.slots call c) (CallRefused at IllegalOperation) >>= (λ _. end noted) in
      let kept : State → Result AfterCall Refusal = λ noted. demand (not (loses_pool kernel.slots call c)) (PoolLost at) >>= (λ _. allowed noted) in
      let one = passes (kernel_allows at (perform kernel call c)) kept left is in
      let two = passes (demand (not (loses_pool kernel.slots call c)) (PoolLost at)) (λ _. allowed one.value) left one.goes in
      let three = passes (demand (may_call kernel.slots call c) (CallRefused at IllegalOperation)) (λ _. end one.value) left two.goes in
      let left_is : left ≡ left_by image t state has_answer one.value =
      (let e : ◌≡◌ {A = Result AfterCall Refusal} (Ok (left_by image t state has_answer one.value)) (Ok left) = three.goes in cc) in
      record {
        form = form;
        called = called;
        noted = one.value;
        performs = ap (λ (ws : List ℕ). perform kernel call (form.call ws)) same ∙ allows at (perform kernel call c) one.value one.is;
        keeps_pools = ap (λ (ws : List ℕ). loses_pool kernel.slots call (form.call ws)) same
            ∙ not-true (loses_pool kernel.slots call c) (demands (not (loses_pool kernel.slots call c)) (PoolLost at) two.value two.is);
        may = ap (λ (ws : List ℕ). may_call kernel.slots call (form.call ws)) same
            ∙ demands (may_call kernel.slots call c) (CallRefused at IllegalOperation) three.value three.is;
        left_is = left_is;
      }

  pub invocation-ruled : invocation image t at state call has_answer ≡ Ok left → IsRuled image t state call has_answer left registers
  invocation-ruled is =
      let one = passes (known at state a1) (λ info. kernel_allows at (form_by info) >>= with_form) left is in
      let two = passes (kernel_allows at (form_by one.value)) with_form left one.goes in
      let form = two.value in
      let by : List ℕ → Result AfterCall Refusal = λ words. invoked image t at state call (form.call words) has_answer in
      let three = passes (all_known at state (take form.count word_registers)) by left two.goes in
      let info : read registers a1 ≡ one.value = word-known at state a1 one.value registers (omega arith) one.is within in
      by-words form three.value (ap form_by info ∙ allows at (form_by one.value) form two.is)
      (words-known at state (take form.count word_registers) three.value registers (All-take IsNumbered form.count word_registers words-numbered)
      three.is within) three.goes
