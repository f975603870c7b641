-- Promises, each put by the offset of its endpoint: the first at an offset counts.
use Rattle.std.proofs.Common.{ℕ, suc, ◌≡◌, ◌∙◌, ◌==◌, Bool, true, false, if◌then◌else◌, find, Option, Some, None, List, [], ◌∷◌, refl, sym, ap, arith}
use Rattle.std.specs.Prelude.{slice_get}
use Rattle.std.specs.Option.{option_or}
use Rattle.format_laws.specs.Fitting.{IsFitting, PromiseFits}
use Rattle.model.specs.Acceptance.Promises.{promise_at}
use Rattle.model.specs.Images.Image.{Image, ImagePromise}
use Rattle.model.specs.Images.Places.{offset_of}
use Rattle.typestate.specs.Promises.{AreOfImage, IsPromise, placed_at}

abbrev pub promise_in : Image → List ImagePromise → ℕ → Option ImagePromise
promise_in image promises offset = find (λ p. offset_of image p.header.endpoint == offset) promises

-- what is placed, and then the first of those that are left, is what the image promises
abbrev pub AreLeft : Image → List (ℕ × ImagePromise) → List ImagePromise → Type 0
AreLeft image placed left = (offset : ℕ) → option_or (placed_at placed offset) (promise_in image left offset) ≡ promise_at image offset

abbrev pub AllFit : Image → List ImagePromise → Type 0
AllFit image left = (k : ℕ) (p : ImagePromise) → slice_get left k ≡ Some p → PromiseFits image p

pub all-fit : (image : Image) → IsFitting image → AllFit image image.promises
all-fit image fitting = fitting.promise

pub first-fits : (image : Image) (p : ImagePromise) (left : List ImagePromise) → AllFit image (p ∷ left) → PromiseFits image p
first-fits image p left all = all 0 p refl

pub tail-fits : (image : Image) (p : ImagePromise) (left : List ImagePromise) → AllFit image (p ∷ left) → AllFit image left
tail-fits image p left all k q at = all (suc k) q at

-- the first of two, or one of them
or-first : (a b : Option ImagePromise) (test : Bool) (p : ImagePromise) → option_or (option_or a (if test then Some p else None)) b
    ≡ option_or a (if test then Some p else b)
or-first (Some x) b test p = refl
or-first None b true p = refl
or-first None b false p = refl

pub placed-next : (image : Image) (old new : List (ℕ × ImagePromise)) (p : ImagePromise) (left : List ImagePromise)
    → ((other : ℕ) → placed_at new other ≡ option_or (placed_at old other) (if offset_of image p.header.endpoint == other then Some p else None))
    → AreLeft image old (p ∷ left) → AreLeft image new left
placed-next image old new p left put all offset =
    ap (λ (o : Option ImagePromise). option_or o (promise_in image left offset)) (put offset)
    ∙ or-first (placed_at old offset) (promise_in image left offset) (offset_of image p.header.endpoint == offset) p ∙ all offset

none-left : (o : Option ImagePromise) → option_or o None ≡ o
none-left (Some x) = refl
none-left None = refl

pub placed-all : (image : Image) (placed : List (ℕ × ImagePromise)) → AreLeft image placed [] → AreOfImage image placed
placed-all image placed all offset = sym (none-left (placed_at placed offset)) ∙ all offset

pub is-promise : (image : Image) (p : ImagePromise) → PromiseFits image p → IsPromise p
is-promise image p fits = record {
  badges = fits.badges;
  count = fits.count;
  few = let count = fits.count in let few = fits.few in omega (arith, count, few);
  ordered = λ k word at. (fits.word k word at).ordered;
}
