-- Tests that say something where they pass, and lines that are left to be compared.
use Rattle.std.proofs.Common.{◌≡◌, Bool, true, false, [], ◌∷◌, refl, subst, sym}
use Rattle.std.specs.Bool.{OnTrue}
use Rattle.model.specs.Images.Listing.{Text}
use Rattle.certified_texts.specs.Lines.{kept_lines}
use Rattle.certified_texts.specs.SameTexts.{AreSameLines, IsSameLine}

pub on-true : (b : Bool) (P : Type 0) → (b ≡ true → P) → OnTrue b P
on-true true P h = h refl
on-true false P h = tt

-- what is left to be compared decides of all
abbrev pub Decides : (left others given made : Text) → Type 0
Decides left others given made = AreSameLines (kept_lines left) (kept_lines others) → AreSameLines (kept_lines given) (kept_lines made)
