-- Texts that are the same but for their certificates: the lines of these, and the budgets that were to be found.
use Rattle.std.specs.Prelude.{◌≡◌, ◌&&◌, ◌⊎◌, Bool, true, false, List, [], ◌∷◌, ◌++◌, length, nat_lt, codes}
use Rattle.std.specs.Char.{is_ascii_digit}
use Rattle.std.specs.List.{list_all}
use Rattle.model.specs.Images.Listing.{Text}
use Rattle.certified_texts.specs.Lines.{begins_apart, EndsApart, has_hash, is_thread, kept_lines, line_words, words_of}

abbrev pub is_number : Text → Bool
is_number bytes = nat_lt 0 (length bytes) && list_all is_ascii_digit bytes

-- A line of a thread whose budget is to be found: its seventh word is `auto`, and what is before and behind that.
pub record IsOpenAround (line before behind : Text) : Type 0 where
  pub is : line ≡ before ++ codes "auto" ++ behind
  pub thread : is_thread line ≡ true
  pub later : List Text
  pub words : line_words line ≡ words_of before ++ codes "auto" ∷ later
  pub seventh : length (words_of before) ≡ 6

-- a line with a number of decimal digits between these
pub record IsNumberBetween (before behind line : Text) : Type 0 where
  pub number : Text
  pub is : line ≡ before ++ number ++ behind
  pub digits : is_number number ≡ true

-- the same line of a thread, with a number for the budget that was to be found
pub record HasBudget (given made : Text) : Type 0 where
  pub before : Text
  pub behind : Text
  pub around : IsOpenAround given before behind
  pub filled : IsNumberBetween before behind made

abbrev pub IsSameLine : Text → Text → Type 0
IsSameLine given made = (given ≡ made) ⊎ HasBudget given made

-- as many lines, and each the same as the one that was given
abbrev pub AreSameLines : List Text → List Text → Type 0
AreSameLines [] [] = Unit {0}
AreSameLines (given ∷ others) (made ∷ more) = IsSameLine given made × AreSameLines others more
AreSameLines _ _ = ⊥

-- The lines that are none of a certificate are the same, but for budgets that were to be found.
pub record SameButCertificates (given made : Text) : Type 0 where
  pub lines : AreSameLines (kept_lines given) (kept_lines made)

-- what is before a budget, and what is behind it up to a comment
pub record AreAroundBudget (before said : Text) : Type 0 where
  pub plain : has_hash before ≡ false
  pub blank : EndsApart before
  pub apart : begins_apart said ≡ true
  pub sixth : length (words_of before) ≡ 6
