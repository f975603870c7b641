-- What holds of a row holds where all rows do.
use Rattle.std.proofs.Common.{ℕ, ◌≡◌, ◌<◌, ◌++◌, [], ◌∷◌, All, IfSome, List, Option, Some, get_or, length, subst, sym}
use Rattle.std.proofs.lemmas.List.Elements.{All-get_or, All-push, All-same}
use Rattle.std.proofs.lemmas.Option.{IfSome_then}
use Rattle.response_lines.specs.AskedLines.{IsKeptBy, IsKeptByAll}
use Rattle.response_lines.specs.declared.keeping.KeptWithin.{KeptWithin}
use Rattle.responses.specs.Bounds.{IsRow}
use Rattle.responses.specs.declared.rows.Row.{Row}

pub among-all : (rows : List Row) (k : ℕ) (row : Row) (found : Option KeptWithin) → k < length rows → row ≡ get_or rows k row
    → IfSome found (IsKeptBy row) → IfSome found (IsKeptByAll rows)
among-all rows k row found less here by =
    IfSome_then found by
    (λ kept so. λ bytes rates all.
    so bytes rates (subst (IsRow bytes rates) (sym here) (All-get_or (IsRow bytes rates) rows k row less all)))

-- one more
pub grown : (rows : List Row) (before after : List KeptWithin) (found : KeptWithin) (r : Option KeptWithin) → All (IsKeptByAll rows) before
    → IfSome r (IsKeptByAll rows) → r ≡ Some found → after ≡ before ++ found ∷ [] → All (IsKeptByAll rows) after
grown rows before after found r so_far holds is more =
    All-same (IsKeptByAll rows) after (before ++ found ∷ []) more
    (All-push (IsKeptByAll rows) before found so_far (subst (λ (r : Option KeptWithin). IfSome r (IsKeptByAll rows)) is holds))
