-- Case by case, the rights that are left are the sum of the definition.
use Rattle.std.proofs.Common.{◌≡◌, ◌∙◌, ◌==◌, ℕ, inr, true, false, bit_and, sym, ap, subst}
use Rattle.model.specs.Capabilities.CapabilityWords.{AreMappingRights}
use Rattle.model.specs.Capabilities.Rights.{rights}
use Rattle.vspace.proofs.RightsBits.{all_allowed, all_but_write_allowed, asked_with_read, execute_allowed, none_allowed}
use Rattle.vspace.proofs.frames.mapping_rights.Goals as goal

pub returns-then-not-contains-clause-value : goal.returns-then-not-contains-clause-value
returns-then-not-contains-clause-value c =
    ap rights (c.empty.ensures tt ∙ none_allowed c.args.frame.0 c.args.word (sym (c.contains.ensures tt) ∙ c.if-not-contains.true))

pub returns-then-not-contains-2-clause-value : goal.returns-then-not-contains-2-clause-value
returns-then-not-contains-2-clause-value c =
    let is : c.of_word-asked.result.0 ≡ bit_and 7 c.args.word = c.of_word-asked.ensures in
    let no : (bit_and (bit_and 7 c.args.word) 2 == 2) ≡ false = ap (λ (n : ℕ). bit_and n 2 == 2) (sym is) ∙ sym (c.contains-else-not-contains.ensures tt)
    ∙ c.if-not-contains-2.true in
    ap rights (c.cut.ensures ∙ ap (λ (n : ℕ). bit_and n 4) is
    ∙ execute_allowed c.args.frame.0 c.args.word (sym (c.contains.ensures tt) ∙ c.if-not-contains.false) no)

pub returns-then-not-contains-3-clause-value : goal.returns-then-not-contains-3-clause-value
returns-then-not-contains-3-clause-value c =
    let is : c.of_word-asked.result.0 ≡ bit_and 7 c.args.word = c.of_word-asked.ensures in
    let reads : (bit_and (bit_and 7 c.args.word) 2 == 2) ≡ true = ap (λ (n : ℕ). bit_and n 2 == 2) (sym is) ∙ sym (c.contains-else-not-contains.ensures tt)
    ∙ c.if-not-contains-2.false in
    let both = ap (λ (n : ℕ). bit_and c.of_word-asked.result.0 n) (c.union.ensures tt) ∙ ap (λ (n : ℕ). bit_and n 6) is in
    ap rights (c.cut-then-not-contains-3.ensures ∙ both
    ∙ all_but_write_allowed c.args.frame.0 c.args.word (sym (c.contains.ensures tt) ∙ c.if-not-contains.false) reads
    (sym (c.contains-else-not-contains-2.ensures tt) ∙ c.if-not-contains-3.true))

pub returns-else-not-contains-3-clause-value : goal.returns-else-not-contains-3-clause-value
returns-else-not-contains-3-clause-value c =
    let is : c.of_word-asked.result.0 ≡ bit_and 7 c.args.word = c.of_word-asked.ensures in
    let reads : (bit_and (bit_and 7 c.args.word) 2 == 2) ≡ true = ap (λ (n : ℕ). bit_and n 2 == 2) (sym is) ∙ sym (c.contains-else-not-contains.ensures tt)
    ∙ c.if-not-contains-2.false in
    ap rights (is ∙ all_allowed c.args.frame.0 c.args.word (sym (c.contains.ensures tt) ∙ c.if-not-contains.false) reads
    (sym (c.contains-else-not-contains-2.ensures tt) ∙ c.if-not-contains-3.false))

pub returns-else-not-contains-3-clause-kinds : goal.returns-else-not-contains-3-clause-kinds
returns-else-not-contains-3-clause-kinds c =
    let is : c.of_word-asked.result.0 ≡ bit_and 7 c.args.word = c.of_word-asked.ensures in
    let reads : (bit_and (bit_and 7 c.args.word) 2 == 2) ≡ true = ap (λ (n : ℕ). bit_and n 2 == 2) (sym is) ∙ sym (c.contains-else-not-contains.ensures tt)
    ∙ c.if-not-contains-2.false in
    inr (subst (λ (n : ℕ). AreMappingRights n) (sym is) (asked_with_read c.args.word reads))
