-- Lines read one after the other: what stands behind all of them, and sections of lines.
use Rattle.std.proofs.Common.{◌≡◌, ℕ, ◌+◌, List, [], ◌∷◌, ◌++◌, length, refl, ap, sym, ◌∙◌, subst, arith}
use Rattle.std.specs.Prelude.{map}
use Rattle.std.specs.List.{enumerate_from}
use Rattle.std.proofs.lemmas.List.{append-nil, append_assoc, length-append}
use Rattle.asm_line.specs.declared.lines.Line.{Line}
use Rattle.asm.specs.Labels.{FoundLabels, next_number}
use Rattle.asm.specs.Drafts.{Draft}
use Rattle.asm.specs.Reading.{IsInPlace, AreInPlace, with_line, with_lines}

-- the number of the last of these lines
abbrev pub number_behind : ℕ → List Line → ℕ
number_behind number [] = number
number_behind number (said ∷ others) = number_behind (next_number number) others

pub number-append : (number : ℕ) (xs ys : List Line) → number_behind number (xs ++ ys) ≡ number_behind (number_behind number xs) ys
number-append number [] ys = refl
number-append number (x ∷ xs) ys = number-append (next_number number) xs ys

-- lines stand where listings have them, and lead from one draft to another
pub record Goes (labels : List FoundLabels) (number : ℕ) (before : Draft) (said : List Line) (behind : Draft) : Type 0 where
  pub placed : AreInPlace labels number before said
  pub reads : with_lines labels before said ≡ behind

pub nothing-more : (labels : List FoundLabels) (number : ℕ) (d e : Draft) → d ≡ e → Goes labels number d [] e
nothing-more labels number d e same = record { placed = tt; reads = same }

pub one-more : (labels : List FoundLabels) (number : ℕ) (d e f : Draft) (x : Line) (xs : List Line)
    → IsInPlace labels (next_number number) d x → with_line labels d x ≡ e → Goes labels (next_number number) e xs f → Goes labels number d (x ∷ xs) f
one-more labels number d e f x xs there same rest = record {
  placed = (there, subst (λ z. AreInPlace labels (next_number number) z xs) (sym same) rest.placed);
  reads = ap (λ z. with_lines labels z xs) same ∙ rest.reads;
}

pub join : (labels : List FoundLabels) (number : ℕ) (d e f : Draft) (xs ys : List Line)
    → Goes labels number d xs e → Goes labels (number_behind number xs) e ys f → Goes labels number d (xs ++ ys) f
join labels number d e f [] ys a b = record {
  placed = subst (λ z. AreInPlace labels number z ys) (sym a.reads) b.placed;
  reads = ap (λ z. with_lines labels z ys) a.reads ∙ b.reads;
}
join labels number d e f (x ∷ xs) ys a b =
    let rest = join labels (next_number number) (with_line labels d x) e f xs ys (record { placed = a.placed.1; reads = a.reads }) b in
    record { placed = (a.placed.0, rest.placed); reads = rest.reads }

-- ---- a section: each line adds one entry

pub record Adds (labels : List FoundLabels) (number : ℕ) (before : Draft) (said : Line) (behind : Draft) : Type 0 where
  pub placed : IsInPlace labels number before said
  pub reads : with_line labels before said ≡ behind

module _ {E : Type 0} (labels : List FoundLabels) (line_of : ℕ → E → Line) (draft : List E → Draft) (whole : List E)
    (step : (number : ℕ) (front : List E) (e : E) (rest : List E) → whole ≡ front ++ e ∷ rest
    → Adds labels number (draft front) (line_of (length front) e) (draft (front ++ e ∷ []))) where
  pub section-from : (number place : ℕ) (front rest : List E) → place ≡ length front → whole ≡ front ++ rest
      → Goes labels number (draft front) (map (λ x. line_of x.0 x.1) (enumerate_from place rest)) (draft whole)
  section-from number place front [] long same = nothing-more labels number (draft front) (draft whole) (ap draft (sym (same ∙ append-nil front)))
  section-from number place front (e ∷ rest) long same =
      let one = step (next_number number) front e rest same in
      let said : line_of place e ≡ line_of (length front) e = ap (λ k. line_of k e) long in
      let longer = length-append front (e ∷ []) in
      one-more labels number (draft front) (draft (front ++ e ∷ [])) (draft whole) (line_of place e)
      (map (λ x. line_of x.0 x.1) (enumerate_from (place + 1) rest))
      (subst (λ l. IsInPlace labels (next_number number) (draft front) l) (sym said) one.placed)
      (ap (with_line labels (draft front)) said ∙ one.reads)
      (section-from (next_number number) (place + 1) (front ++ e ∷ []) rest
      (let back : length (front ++ e ∷ []) ≡ length front + 1 = longer in omega (arith, long, back)) (same ∙ sym (append_assoc front (e ∷ []) rest)))

  pub section : (number : ℕ) → Goes labels number (draft []) (map (λ x. line_of x.0 x.1) (enumerate_from 0 whole)) (draft whole)
  section number = section-from number 0 [] whole refl refl

module _ {E : Type 0} (line_of : E → Line) where
  plain-lines : (k : ℕ) (xs : List E) → map (λ (x : ℕ × E). line_of x.1) (enumerate_from k xs) ≡ map line_of xs
  plain-lines k [] = refl
  plain-lines k (x ∷ xs) = ap (λ ls. line_of x ∷ ls) (plain-lines (k + 1) xs)

-- the same where a line does not say the entry's number
pub plain-section : {E : Type 0} (labels : List FoundLabels) (line_of : E → Line) (draft : List E → Draft) (whole : List E)
    → ((number : ℕ) (front : List E) (e : E) (rest : List E) → whole ≡ front ++ e ∷ rest →
    Adds labels number (draft front) (line_of e) (draft (front ++ e ∷ [])))
    → (number : ℕ) → Goes labels number (draft []) (map line_of whole) (draft whole)
plain-section labels line_of draft whole step number =
    subst (λ ls. Goes labels number (draft []) ls (draft whole)) (plain-lines line_of 0 whole) (section labels (λ _ e. line_of e) draft whole step number)
