-- By the method that the label names.
use Rattle.std.proofs.Common.{◌≡◌, ◌∙◌, ℕ, Some, None, IfSome, sym, subst, arith}
use Rattle.model.specs.Kernel.CallForms.{form_of}
use Rattle.invoke.specs.Listed.{listed_call}
use Rattle.invoke.proofs.Decoded.{lists-none, with-capabilities, with-few-words, with-words, without-call}
use Rattle.invoke.proofs.decoding.decode_call.Goals as goal

pub returns-then-extra_capabilities-ne0 : goal.returns-then-extra_capabilities-ne0
returns-then-extra_capabilities-ne0 c =
    with-capabilities c.args.capability c.args.label c.args.extra_capabilities c.args.words.now c.if-extra_capabilities-ne0.true

pub returns-in_default : goal.returns-in_default
returns-in_default c =
    without-call c.args.capability c.args.label c.args.extra_capabilities c.args.words.now c.if-extra_capabilities-ne0.false
    (c.of_label.ensures.missing c.args.capability c.in_default.is)

pub returns-in_default-call_of : goal.returns-in_default-call_of
returns-in_default-call_of c =
    without-call c.args.capability c.args.label c.args.extra_capabilities c.args.words.now c.if-extra_capabilities-ne0.false
    (subst (λ (label : ℕ). form_of c.args.capability label ≡ None) c.in-Some.ensures.found
    (lists-none c.args.words.now _ (sym c.in_default-call_of.is ∙ c.call_of.ensures)))

pub returns-then-words : goal.returns-then-words
returns-then-words c =
    with-few-words c.args.capability c.args.label c.args.extra_capabilities c.args.words.now c.if-extra_capabilities-ne0.false c.in-Some-call_of.call
    c.words.result
    (subst (λ (label : ℕ). Some c.in-Some-call_of.call ≡ listed_call c.args.words.now (form_of c.args.capability label)) c.in-Some.ensures.found
    (sym c.in-Some-call_of.is ∙ c.call_of.ensures))
    (subst (λ (label : ℕ). IfSome (form_of c.args.capability label) (λ form. form.count ≡ c.words.result)) c.in-Some.ensures.found
    (c.words.ensures c.args.capability))
    c.if-words.true

pub returns : goal.returns
returns c =
    with-words c.args.capability c.args.label c.args.extra_capabilities c.args.words.now c.if-extra_capabilities-ne0.false c.in-Some-call_of.call
    c.words.result
    (subst (λ (label : ℕ). Some c.in-Some-call_of.call ≡ listed_call c.args.words.now (form_of c.args.capability label)) c.in-Some.ensures.found
    (sym c.in-Some-call_of.is ∙ c.call_of.ensures))
    (subst (λ (label : ℕ). IfSome (form_of c.args.capability label) (λ form. form.count ≡ c.words.result)) c.in-Some.ensures.found
    (c.words.ensures c.args.capability))
    (omega (arith, c.if-words.false))
