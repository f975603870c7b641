-- What is stripped on both sides leaves the number.
use Rattle.std.proofs.Common.{◌≡◌, ◌++◌, ap, sym, ◌∙◌, append_assoc, Some}
use Rattle.std.proofs.lemmas.Bool.Decides.{Decides-eqb}
use Rattle.std.proofs.lemmas.Slice.Eq.{strip_prefix_is, strip_suffix_is}
use Rattle.certified_texts.specs.SameTexts.{IsNumberBetween}
use Rattle.certified_texts.proofs.SameLines.{on-true}
use Rattle.certified_texts.proofs.comparing.is_number_between.Goals as goal

pub returns : goal.returns
returns c =
    let line = c.args.line.now in
    let before = c.args.before.now in
    let behind = c.args.behind.now in
    let rest : line ≡ before ++ c.in-Some.rest.now = strip_prefix_is Decides-eqb line before (Some c.in-Some.rest) c.in-Some.ensures.cases in
    let number : c.in-Some.rest.now ≡ c.in-Some-strip_suffix.number.now ++ behind =
    strip_suffix_is Decides-eqb c.in-Some.rest.now behind (Some c.in-Some-strip_suffix.number) c.in-Some-strip_suffix.ensures.cases in
    on-true c.is_number.result (IsNumberBetween before behind line) (λ passed. record {
      number = c.in-Some-strip_suffix.number.now;
      is = rest ∙ (ap (λ l. before ++ l) number ∙ sym (append_assoc before c.in-Some-strip_suffix.number.now behind));
      digits = sym c.is_number.ensures ∙ passed;
    })
