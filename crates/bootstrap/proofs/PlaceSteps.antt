-- One object more is placed.
use Rattle.std.proofs.Common.{◌≡◌, ◌∙◌, ℕ, ◌+◌, ◌<◌, List, [], ◌∷◌, ◌++◌, inl, inr, refl, sym, ap, arith}
use Rattle.std.proofs.lemmas.Bool.Decides.{eqb_tells}
use Rattle.std.proofs.lemmas.List.{get_or_append_left, get_or_push, length-append}
use Rattle.model.specs.Images.Image.{Image}
use Rattle.model.specs.Images.Places.{offset_of}
use Rattle.bootstrap.specs.Filling.{ArePlaces}

pub places-none : (image : Image) → ArePlaces image 0 []
places-none image = record {
  size = refl;
  place = λ number less. absurd (omega (arith, less));
}

pub placed-after : (image : Image) (n offset : ℕ) (places : List ℕ) → offset ≡ offset_of image n → ArePlaces image n places
    → ArePlaces image (n + 1) (places ++ offset ∷ [])
placed-after image n offset places is placed = record {
  size = length-append places (offset ∷ []) ∙ ap (λ (w : ℕ). w + 1) placed.size;
  place = λ number less. elim (eqb_tells number n) [
    | inl here ↦ get_or_push places offset 0 number (placed.size ∙ sym here.1) ∙ is ∙ ap (offset_of image) (sym here.1)
    | inr other ↦
        let earlier : number < n = (let apart = other.1 in omega (arith, less, apart)) in
        get_or_append_left places (offset ∷ []) 0 number (omega (arith, earlier, placed.size)) ∙ placed.place number earlier
  ];
}
