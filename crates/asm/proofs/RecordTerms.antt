-- The terms of a `measure` line, read one after another.
use Rattle.std.specs.Prelude.{Result}
use Rattle.std.proofs.Common.{◌≡◌, ℕ, List, [], ◌∷◌, ◌++◌, Some, None, Ok, Err, refl, sym, ap, subst, ◌∙◌, append_assoc}
use Rattle.std.specs.Result.{result_ok}
use Rattle.std.proofs.lemmas.Option.{same_Some}
use Rattle.model.specs.declared.entries.TermEntry.{TermEntry}
use Rattle.model.specs.Images.Listing.{Text}
use Rattle.asm_line.specs.Words.{◌>>=◌}
use Rattle.asm_line.specs.Lines.{all_terms, term_first, term_of}
use Rattle.asm.specs.Threads.{AreBehind, term_key, term_or_zero, terms_of}
use Rattle.asm_line.specs.declared.faults.LineFault.{LineFault}

pub record TermsLeft (read : List TermEntry) (rest all : List Text) : Type 0 where
  pub said : all_terms rest ≡ Ok tt
  pub so_far : read ++ terms_of rest ≡ terms_of all
  pub behind : AreBehind term_key read (terms_of rest)

-- the first term, and the words behind it
pub record FirstTerm (words : List Text) (t : TermEntry) (rest : List Text) : Type 0 where
  pub term : terms_of words ≡ t ∷ terms_of rest
  pub others : all_terms words ≡ all_terms rest

split-term : (name factor : Text) (ws : List Text) (t : TermEntry) (rest : List Text) (r : Result TermEntry LineFault) → term_of name factor ≡ r
    → Some (t, rest) ≡ result_ok (term_first (name ∷ factor ∷ ws)) → FirstTerm (name ∷ factor ∷ ws) t rest
split-term name factor ws t rest (Ok u) q e =
    let same : Some (t, rest) ≡ Some (u, ws) = e ∙ ap (λ (r : Result TermEntry LineFault). result_ok (r >>= λ term. Ok (term, ws))) q in
    let pair = same_Some (t, rest) (u, ws) same in
    record {
      term = ap (λ (r : Result TermEntry LineFault). term_or_zero r ∷ terms_of ws) q ∙ ap (λ (p : TermEntry × List Text). p.0 ∷ terms_of p.1) (sym pair);
      others = ap (λ (r : Result TermEntry LineFault). r >>= λ _. all_terms ws) q ∙ ap (λ (p : TermEntry × List Text). all_terms p.1) (sym pair);
    }
split-term name factor ws t rest (Err f) q e =
    absurd (let no : Some (t, rest) ≡ None = e ∙ ap (λ (r : Result TermEntry LineFault). result_ok (r >>= λ term. Ok (term, ws))) q in cc)

pub first-term : (words : List Text) (t : TermEntry) (rest : List Text) → Some (t, rest) ≡ result_ok (term_first words) → FirstTerm words t rest
first-term [] t rest e = absurd (let no : Some (t, rest) ≡ None = e in cc)
first-term (name ∷ []) t rest e = absurd (let no : Some (t, rest) ≡ None = e in cc)
first-term (name ∷ factor ∷ ws) t rest e = split-term name factor ws t rest (term_of name factor) refl e

-- the term at hand is behind those that are read
pub term-is-behind : (read : List TermEntry) (words all : List Text) (t : TermEntry) (rest : List Text) → TermsLeft read words all → FirstTerm words t rest
    → AreBehind term_key read (t ∷ terms_of rest)
term-is-behind read words all t rest now first = subst (AreBehind term_key read) first.term now.behind

pub one-term-more : (read grown : List TermEntry) (words all : List Text) (t : TermEntry) (rest : List Text) → TermsLeft read words all → FirstTerm words t rest
    → grown ≡ read ++ t ∷ [] → TermsLeft grown rest all
one-term-more read grown words all t rest now first e =
    let more : TermsLeft (read ++ t ∷ []) rest all = record {
      said = sym first.others ∙ now.said;
      so_far = append_assoc read (t ∷ []) (terms_of rest) ∙ ap (λ ts. read ++ ts) (sym first.term) ∙ now.so_far;
      behind = (term-is-behind read words all t rest now first).1;
    } in
    subst (λ (ts : List TermEntry). TermsLeft ts rest all) (sym e) more
