-- Decoding, by the form that the capability has and by the call that is made of it.
use Rattle.std.proofs.Common.{ℕ, ◌≡◌, ◌∙◌, ◌==◌, ◌<◌, ◌≤◌, Bool, true, false, Option, Some, None, IfSome, Result, Ok, Err, List, length, refl, sym, ap, arith}
use Rattle.std.specs.Prelude.{nat_le, option_map}
use Rattle.std.proofs.lemmas.Bool.{ne_eqb}
use Rattle.std.proofs.lemmas.Bool.Decides.{nat_tests}
use Rattle.model.specs.declared.capabilities.Cap.{Cap}
use Rattle.model.specs.declared.errors.KError.{KError}
use Rattle.model.specs.declared.errors.KError.TheVariants.{IllegalOperation, TruncatedMessage}
use Rattle.model.specs.declared.invocations.Invocation.{Invocation}
use Rattle.model.specs.Kernel.Arguments.{◌>>=◌, check, wanted}
use Rattle.model.specs.Kernel.CallForms.{CallForm, decode, form_of}
use Rattle.invoke.specs.Listed.{listed_call}

-- the checks of a message, by what they find
abbrev checked : Bool → List ℕ → Option CallForm → Result Invocation KError
checked plain words found = do
  _ ← check plain TruncatedMessage
  form ← wanted found IllegalOperation
  _ ← check (nat_le form.count (length words)) TruncatedMessage
  Ok (form.call words)

formed : (plain : Bool) (words : List ℕ) (found : Option CallForm) →
    ((check plain TruncatedMessage >>= λ _. wanted found IllegalOperation >>= λ form. check (nat_le form.count (length words)) TruncatedMessage >>= λ _.
    Ok form) >>= λ form. Ok (form.call words)) ≡ checked plain words found
formed false words found = refl
formed true words None = refl
formed true words (Some form) =
    elim (nat_le form.count (length words)) as (λ b. ((check b TruncatedMessage >>= λ _. Ok form) >>= λ found. Ok (found.call words))
    ≡ (check b TruncatedMessage >>= λ _. Ok (form.call words))) [ true ↦ refl | false ↦ refl ]

-- a call, if there are so many words
abbrev counted : ℕ → List ℕ → Invocation → Result Invocation KError
counted count words call = check (nat_le count (length words)) TruncatedMessage >>= λ _. Ok call

called : (words : List ℕ) (found : Option CallForm) (call : Invocation) (count : ℕ) → Some call ≡ listed_call words found
    → IfSome found (λ form. form.count ≡ count) → checked true words found ≡ counted count words call
called words None call count is counts = absurd (let no : Some call ≡ None = is in cc)
called words (Some form) call count is counts =
    let made : Some call ≡ Some (form.call words) = is in
    let same : form.call words ≡ call = cc in
    ap (λ (n : ℕ). counted n words (form.call words)) counts ∙ ap (λ (i : Invocation). counted count words i) same

pub lists-none : (words : List ℕ) (found : Option CallForm) → None ≡ listed_call words found → found ≡ None
lists-none words None is = refl
lists-none words (Some form) is = absurd (let no : None ≡ Some (form.call words) = is in cc)

module _ (capability : Cap) (label extra : ℕ) (words : List ℕ) where
  decoded : (plain : Bool) → (extra == 0) ≡ plain → decode capability label extra words ≡ checked plain words (form_of capability label)
  unfolding decode
  decoded plain is = formed (extra == 0) words (form_of capability label) ∙ ap (λ b. checked b words (form_of capability label)) is

  pub with-capabilities : (extra ≡ 0 → ⊥) → Err TruncatedMessage ≡ decode capability label extra words
  with-capabilities some = sym (decoded false (ne_eqb extra 0 some))

  module _ (plain : extra ≡ 0) where
    pub without-call : form_of capability label ≡ None → Err IllegalOperation ≡ decode capability label extra words
    without-call none = sym (decoded true (ap (λ n. n == 0) plain) ∙ ap (checked true words) none)

    module _ (call : Invocation) (count : ℕ) (made : Some call ≡ listed_call words (form_of capability label))
        (counts : IfSome (form_of capability label) (λ form. form.count ≡ count)) where
      made-of : decode capability label extra words ≡ counted count words call
      made-of = decoded true (ap (λ n. n == 0) plain) ∙ called words (form_of capability label) call count made counts

      pub with-few-words : length words < count → Err TruncatedMessage ≡ decode capability label extra words
      with-few-words few =
          let test : nat_le count (length words) ≡ false = grind (arith, nat_tests, few) in
          sym (made-of ∙ ap (λ b. check b TruncatedMessage >>= λ _. Ok call) test)

      pub with-words : count ≤ length words → Ok call ≡ decode capability label extra words
      with-words enough =
          let test : nat_le count (length words) ≡ true = grind (arith, nat_tests, enough) in
          sym (made-of ∙ ap (λ b. check b TruncatedMessage >>= λ _. Ok call) test)

-- how many words the call lists that is made
pub counts-listed : (words : List ℕ) (found : Option CallForm) (call : Invocation) (count : ℕ) → Some call ≡ listed_call words found
    → IfSome found (λ form. form.count ≡ count) → Some count ≡ option_map (λ form. form.count) found
counts-listed words None call count is counts = absurd (let no : Some call ≡ None = is in cc)
counts-listed words (Some form) call count is counts = ap (λ (n : ℕ). Some n) (sym counts)
