-- A call that has all its words has them where there are no more.
use Rattle.std.proofs.Common.{ℕ, ◌≡◌, ◌∙◌, ◌==◌, true, false, nat_le, Option, Some, None, Result, Ok, Err, List, length, ap, arith}
use Rattle.std.proofs.lemmas.Bool.Decides.{nat_tests}
use Rattle.model.specs.declared.capabilities.Cap.{Cap}
use Rattle.model.specs.declared.errors.KError.{KError}
use Rattle.model.specs.declared.errors.KError.TheVariants.{IllegalOperation, TruncatedMessage}
use Rattle.model.specs.declared.invocations.Invocation.{Invocation}
use Rattle.model.specs.Kernel.Arguments.{◌>>=◌, check, wanted}
use Rattle.model.specs.Kernel.CallForms.{CallForm, decode, form_called, form_of}

le-itself : (n : ℕ) → nat_le n n ≡ true
le-itself n = grind (arith, nat_tests)

abbrev behind_form : ℕ → Option CallForm → Result CallForm KError
behind_form count found = wanted found IllegalOperation >>= λ form. check (nat_le form.count count) TruncatedMessage >>= λ _. Ok form

form-behind : (count : ℕ) (found : Option CallForm) (form : CallForm) → behind_form count found ≡ Ok form → behind_form form.count found ≡ Ok form
form-behind count None form is = absurd (let clash : Err IllegalOperation ≡ Ok form = is in cc)
form-behind count (Some f) form is =
    elim (nat_le f.count count) as (λ b. (check b TruncatedMessage >>= λ _. Ok f) ≡ Ok form →
    (check (nat_le f.count form.count) TruncatedMessage >>= λ _. Ok f) ≡ Ok form) [
      | false ↦ λ refused. absurd (let clash : Err TruncatedMessage ≡ Ok form = refused in cc)
      | true ↦ λ same.
          let one : f ≡ form = (let both : Ok f ≡ Ok form = same in cc) in
          ap (λ (x : CallForm). check (nat_le x.count form.count) TruncatedMessage >>= λ _. Ok x) one
          ∙ ap (λ b. check b TruncatedMessage >>= λ _. Ok form) (le-itself form.count)
    ] is

pub form-again : (capability : Cap) (label extra count : ℕ) (form : CallForm) → form_called capability label extra count ≡ Ok form →
    form_called capability label 0 form.count ≡ Ok form
form-again capability label extra count form is =
    elim (extra == 0) as (λ b. (check b TruncatedMessage >>= λ _. behind_form count (form_of capability label)) ≡ Ok form →
    behind_form form.count (form_of capability label) ≡ Ok form) [
      | false ↦ λ refused. absurd (let clash : Err TruncatedMessage ≡ Ok form = refused in cc)
      | true ↦ λ same. form-behind count (form_of capability label) form same
    ] is

-- what is decoded from the words of a form
pub decode-form : (capability : Cap) (label extra count : ℕ) (form : CallForm) (words : List ℕ) → form_called capability label extra count ≡ Ok form →
    length words ≡ form.count
    → decode capability label 0 words ≡ Ok (form.call words)
unfolding decode
decode-form capability label extra count form words is long =
    let made : Result CallForm KError → Result Invocation KError = λ found. found >>= λ f. Ok (f.call words) in
    ap (λ n. made (form_called capability label 0 n)) long ∙ ap made (form-again capability label extra count form is)
