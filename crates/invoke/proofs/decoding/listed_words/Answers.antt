-- By the method that the label names.
use Rattle.std.proofs.Common.{◌≡◌, ℕ, Some, [], subst, option_map}
use Rattle.model.specs.Kernel.CallForms.{form_of}
use Rattle.invoke.proofs.Decoded.{counts-listed}
use Rattle.invoke.proofs.decoding.listed_words.Goals as goal

pub returns : goal.returns
returns c =
    subst (λ (label : ℕ). Some c.words.result ≡ option_map (λ form. form.count) (form_of c.args.capability label)) c.in_ok-method.ensures.found
    (counts-listed [] _ c.in_ok-call_of.field-0 c.words.result c.in_ok-call_of.ensures (c.words.ensures c.args.capability))
