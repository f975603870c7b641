-- The lines of a text that are left to be read.
use Rattle.std.specs.Prelude.{Result, ◌⊎◌, is_some, option_map}
use Rattle.std.proofs.Common.{◌≡◌, ℕ, Bool, true, false, List, [], ◌∷◌, Option, Some, None, Ok, Err, refl, sym, ap, subst, ◌∙◌}
use Rattle.std.specs.Str.Iter.{lines_steps, lines_rest}
use Rattle.std.specs.Str.Lines.{lines}
use Rattle.std.specs.declared.str.Lines.{Lines}
use Rattle.std.proofs.lemmas.Iterator.{YieldsList}
use Rattle.std.proofs.lemmas.Iterator.Splits.{YieldsList-from_lines}
use Rattle.model.specs.Images.Listing.{Text}
use Rattle.asm.specs.Drafts.{Draft}
use Rattle.asm.specs.Labels.{FoundLabels, Searched, next_number}
use Rattle.asm.specs.Meaning.{all_read, and_then, is_nil, on_line, searched_text, searched_texts, text_read, waiting_read}
use denote.Ref.{Bor}

abbrev pub text_now : Bor Text → Text
text_now x = x.now

abbrev pub AreLeft : Lines → List Text → Type 0
AreLeft at texts = YieldsList lines_steps text_now at texts

pub all-texts : (text : Text) (at : Lines) → lines_rest at ≡ text → AreLeft at (lines text)
all-texts text at e = YieldsList-from_lines text e

pub record IsNextText (text : Text) (behind : Lines) (texts : List Text) : Type 0 where
  pub others : List Text
  pub is : texts ≡ text ∷ others
  pub rest : AreLeft behind others

pub next-text : (s t : Lines) (x : Bor Text) (texts : List Text) → AreLeft s texts → lines_steps s (Some x) t → IsNextText x.now t texts
next-text s t x [] yields step = absurd (yields.runs x t step)
next-text s t x (y ∷ ys) yields step =
    let one = yields.runs.1 x t step in
    record { others = ys; is = ap (λ z. z ∷ ys) (sym one.0); rest = record { runs = one.1 } }

pub no-text : (s t : Lines) (texts : List Text) → AreLeft s texts → lines_steps s None t → texts ≡ []
no-text s t [] yields step = refl
no-text s t (y ∷ ys) yields step = absurd (yields.runs.0 t step)

-- ---- the first way over a text: what is left to search finds what searching all lines would

pub record SearchLeft (first : Searched) (at : Lines) (number : ℕ) (search : Searched) (all : List Text) : Type 0 where
  pub texts : List Text
  pub left : AreLeft at texts
  pub same : searched_texts number search texts ≡ searched_texts 0 first all

pub all-to-search : (text : Text) (first : Searched) (at : Lines) → lines_rest at ≡ text → SearchLeft first at 0 first (lines text)
all-to-search text first at e = record { texts = lines text; left = all-texts text at e; same = refl }

pub one-searched : (first : Searched) (s t : Lines) (x : Bor Text) (number more : ℕ) (search found : Searched) (all : List Text) →
    SearchLeft first s number search all
    → lines_steps s (Some x) t → more ≡ next_number number → found ≡ searched_text search more x.now → SearchLeft first t more found all
one-searched first s t x number more search found all now step counted finds =
    let next = next-text s t x now.texts now.left step in
    record {
      texts = next.others;
      left = next.rest;
      same = (λ i. searched_texts (counted i) ((finds ∙ ap (λ n. searched_text search n x.now) counted) i) next.others)
          ∙ ap (searched_texts number search) (sym next.is) ∙ now.same;
    }

pub all-searched : (first : Searched) (s t : Lines) (number : ℕ) (search : Searched) (all : List Text) → SearchLeft first s number search all →
    lines_steps s None t
    → search ≡ searched_texts 0 first all
all-searched first s t number search all now step = ap (searched_texts number search) (sym (no-text s t now.texts now.left step)) ∙ now.same

-- ---- the second way: a line waits for the next one

-- what reading the line that waits, with this number, and those after it gives
abbrev pub waiting_all : List FoundLabels → ℕ → Draft → Option Text → List Text → Result (ℕ × Draft) (ℕ × ℕ)
waiting_all labels number d None texts = all_read labels number d texts
waiting_all labels number d (Some text) texts = and_then (on_line number (text_read labels number (is_nil texts) d text))
    (λ more. all_read labels number more texts)

pub record ReadLeft (labels : List FoundLabels) (first : Draft) (at : Lines) (number : ℕ) (waiting : Option (Bor Text)) (draft : Draft) (all : List Text) : Type
    0 where
  pub texts : List Text
  pub left : AreLeft at texts
  pub same : waiting_all labels number draft (option_map text_now waiting) texts ≡ all_read labels 0 first all

pub all-to-read : (labels : List FoundLabels) (first : Draft) (text : Text) (at : Lines) → lines_rest at ≡ text →
    ReadLeft labels first at 0 None first (lines text)
all-to-read labels first text at e = record { texts = lines text; left = all-texts text at e; same = refl }

goes-on : (labels : List FoundLabels) (number : ℕ) (d more : Draft) (waiting : Option Text) (text : Text) (others : List Text) →
    waiting_read labels number false d waiting ≡ Ok more
    → waiting_all labels number d waiting (text ∷ others) ≡ all_read labels number more (text ∷ others)
unfolding text_read
goes-on labels number d more None text others e = ap (λ (r : Result Draft ℕ). all_read_of labels number r (text ∷ others)) e
  where
    all_read_of : List FoundLabels → ℕ → Result Draft ℕ → List Text → Result (ℕ × Draft) (ℕ × ℕ)
    all_read_of labels number (Ok d) texts = all_read labels number d texts
    all_read_of labels number (Err e) texts = Err (number, e)
goes-on labels number d more (Some waits) text others e =
    ap (λ (r : Result Draft ℕ). and_then (on_line number r) (λ more. all_read labels number more (text ∷ others))) e

pub one-read : (labels : List FoundLabels) (first : Draft) (s t : Lines) (x : Bor Text) (number more : ℕ) (waiting : Option (Bor Text)) (draft grown : Draft)
    (all : List Text)
    → ReadLeft labels first s number waiting draft all → lines_steps s (Some x) t → more ≡ next_number number
    → waiting_read labels number false draft (option_map text_now waiting) ≡ Ok grown → ReadLeft labels first t more (Some x) grown all
one-read labels first s t x number more waiting draft grown all now step counted reads =
    let next = next-text s t x now.texts now.left step in
    record {
      texts = next.others;
      left = next.rest;
      same = ap (λ n. waiting_all labels n grown (Some x.now) next.others) counted
          ∙ (sym (goes-on labels number draft grown (option_map text_now waiting) x.now next.others reads)
          ∙ (ap (waiting_all labels number draft (option_map text_now waiting)) (sym next.is) ∙ now.same));
    }

refused-on : (labels : List FoundLabels) (number kind : ℕ) (d : Draft) (waiting : Option Text) (texts : List Text) →
    waiting_read labels number (is_nil texts) d waiting ≡ Err kind
    → waiting_all labels number d waiting texts ≡ Err (number, kind)
unfolding text_read
refused-on labels number kind d None texts e = absurd (let no : Ok d ≡ Err kind = e in cc)
refused-on labels number kind d (Some waits) texts e =
    ap (λ (r : Result Draft ℕ). and_then (on_line number r) (λ more. all_read labels number more texts)) e

-- a line with another after it is refused
pub one-refused : (labels : List FoundLabels) (first : Draft) (s t : Lines) (x : Bor Text) (number kind : ℕ) (waiting : Option (Bor Text)) (draft : Draft)
    (all : List Text)
    → ReadLeft labels first s number waiting draft all → lines_steps s (Some x) t
    → waiting_read labels number false draft (option_map text_now waiting) ≡ Err kind → all_read labels 0 first all ≡ Err (number, kind)
one-refused labels first s t x number kind waiting draft all now step refused =
    let next = next-text s t x now.texts now.left step in
    sym now.same ∙ (ap (waiting_all labels number draft (option_map text_now waiting)) next.is
    ∙ refused-on labels number kind draft (option_map text_now waiting) (x.now ∷ next.others) refused)

last-on : (labels : List FoundLabels) (number : ℕ) (d more : Draft) (waiting : Option Text) → waiting_read labels number true d waiting ≡ Ok more
    → waiting_all labels number d waiting [] ≡ Ok (number, more)
unfolding text_read
last-on labels number d more None e = ap (λ (r : Result Draft ℕ). on_line_of number r) e
  where
    on_line_of : ℕ → Result Draft ℕ → Result (ℕ × Draft) (ℕ × ℕ)
    on_line_of number (Ok d) = Ok (number, d)
    on_line_of number (Err e) = Err (number, e)
last-on labels number d more (Some waits) e = ap (λ (r : Result Draft ℕ). and_then (on_line number r) (λ more. all_read labels number more [])) e

-- the last line
pub last-read : (labels : List FoundLabels) (first : Draft) (s t : Lines) (number : ℕ) (waiting : Option (Bor Text)) (draft grown : Draft) (all : List Text)
    → ReadLeft labels first s number waiting draft all → lines_steps s None t
    → waiting_read labels number true draft (option_map text_now waiting) ≡ Ok grown → all_read labels 0 first all ≡ Ok (number, grown)
last-read labels first s t number waiting draft grown all now step reads =
    sym now.same ∙ (ap (waiting_all labels number draft (option_map text_now waiting)) (no-text s t now.texts now.left step)
    ∙ last-on labels number draft grown (option_map text_now waiting) reads)

pub last-refused : (labels : List FoundLabels) (first : Draft) (s t : Lines) (number kind : ℕ) (waiting : Option (Bor Text)) (draft : Draft) (all : List Text)
    → ReadLeft labels first s number waiting draft all → lines_steps s None t
    → waiting_read labels number true draft (option_map text_now waiting) ≡ Err kind → all_read labels 0 first all ≡ Err (number, kind)
last-refused labels first s t number kind waiting draft all now step refused =
    sym now.same ∙ (ap (waiting_all labels number draft (option_map text_now waiting)) (no-text s t now.texts now.left step)
    ∙ refused-on labels number kind draft (option_map text_now waiting) [] refused)
