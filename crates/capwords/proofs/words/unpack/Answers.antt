-- If the words are a capability's, then the fields that were read are that capability's.
use Rattle.std.proofs.Common.{◌≡◌, ◌∙◌, Some, get_or, ap, inl, inr, true}
use Rattle.model.specs.Capabilities.CapabilityWords.{words_of}
use Rattle.model.proofs.FieldsLemmas.{fields_of_words}
use Rattle.capwords.proofs.words.unpack.Goals as goal

pub returns-then-not-is_capability-clause-only : goal.returns-then-not-is_capability-clause-only
returns-then-not-is_capability-clause-only c = λ capability valid e.
    let same = c.read_fields-capability.ensures ∙ fields_of_words _ capability valid e in
    let tested : c.is_capability.result ≡ true = c.is_capability.ensures.1 (rw same valid) in
    cc

pub returns-then-packed_word-word-clause-only : goal.returns-then-packed_word-word-clause-only
returns-then-packed_word-word-clause-only c = λ capability valid e.
    ap (λ x. Some x) (c.read_fields-capability.ensures ∙ fields_of_words _ capability valid e)

pub returns-else-packed_head-head-clause-only : goal.returns-else-packed_head-head-clause-only
returns-else-packed_head-head-clause-only c = λ capability valid e.
    let same = c.read_fields-capability.ensures ∙ fields_of_words _ capability valid e in
    let packed : c.pack.result ≡ c.args.words = cc (ap words_of same) in
    elim c.else-packed_head-head.either [
      | inl w ↦ absurd (w.1 (ap (λ words. get_or words 1 0) packed))
      | inr w ↦ absurd (w (ap (λ words. get_or words 0 0) packed))
    ]
