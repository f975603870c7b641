-- Searches over a list from a place on.
use Rattle.std.proofs.Common.{◌≡◌, ◌∙◌, ℕ, ◌+◌, ◌≤◌, Bool, true, false, cond, Option, Some, None, List, ◌∷◌, length, drop, ap}
use Rattle.std.specs.Prelude.{find, if◌then◌else◌, slice_get}
use Rattle.std.specs.Option.{option_map_or}
use Rattle.std.specs.List.{enumerate_from}
use Rattle.std.proofs.lemmas.List.{drop_all}
use Rattle.model.specs.declared.entries.UntypedEntry.{UntypedEntry}
use Rattle.model.specs.Acceptance.WellFormed.{overlaps, too_few_boot_slots}
use Rattle.model.specs.Images.Boot.{misplaced}
use Rattle.model.specs.Images.Image.{Image}
use Rattle.bootstrap.proofs.Rests.{rest-next}

pub find-here : {A : Type 0} (test : A → Bool) (xs behind : List A) (x : A) → xs ≡ x ∷ behind → test x ≡ true → find test xs ≡ Some x
find-here test xs behind x parts is = ap (find test) parts ∙ ap (λ (b : Bool). cond b (Some x) (find test behind)) is

pub find-later : {A : Type 0} (test : A → Bool) (xs behind : List A) (x : A) → xs ≡ x ∷ behind → test x ≡ false → find test xs ≡ find test behind
find-later test xs behind x parts is = ap (find test) parts ∙ ap (λ (b : Bool). cond b (Some x) (find test behind)) is

-- ---- the first untyped that is misplaced

abbrev pub overlapping_from : Image → ℕ → Option (ℕ × UntypedEntry)
overlapping_from image n = find (overlaps image) (enumerate_from n (drop n image.untypeds))

abbrev decided : Image → Option (ℕ × UntypedEntry) → Option ℕ
decided image o = option_map_or (λ u. Some u.0) o (if too_few_boot_slots image then Some image.header.untypeds else None)

pub overlapping-here : (image : Image) (n : ℕ) (x : UntypedEntry) → slice_get image.untypeds n ≡ Some x → overlaps image (n, x) ≡ true
    → overlapping_from image 0 ≡ overlapping_from image n → misplaced image ≡ Some n
overlapping-here image n x at is so_far =
    ap (decided image) (so_far ∙ find-here (overlaps image) (enumerate_from n (drop n image.untypeds)) (enumerate_from (n + 1) (drop (n + 1) image.untypeds))
    (n, x)
    (ap (enumerate_from n) (rest-next image.untypeds n x at)) is)

pub overlapping-later : (image : Image) (n : ℕ) (x : UntypedEntry) → slice_get image.untypeds n ≡ Some x → overlaps image (n, x) ≡ false
    → overlapping_from image 0 ≡ overlapping_from image n → overlapping_from image 0 ≡ overlapping_from image (n + 1)
overlapping-later image n x at is so_far =
    so_far ∙ find-later (overlaps image) (enumerate_from n (drop n image.untypeds)) (enumerate_from (n + 1) (drop (n + 1) image.untypeds)) (n, x)
    (ap (enumerate_from n) (rest-next image.untypeds n x at)) is

pub overlapping-none : (image : Image) (n : ℕ) → length image.untypeds ≤ n → overlapping_from image 0 ≡ overlapping_from image n
    → misplaced image ≡ (if too_few_boot_slots image then Some image.header.untypeds else None)
overlapping-none image n le so_far =
    ap (decided image) (so_far ∙ ap (λ xs. find (overlaps image) (enumerate_from n xs)) (drop_all n image.untypeds le))
