-- One object more is placed.
use Rattle.std.proofs.Common.{◌≡◌, ◌∙◌, ℕ, ◌+◌, ◌^◌, ◌<◌, ◌≤◌, List, [], ◌∷◌, ◌++◌, inl, inr, refl, sym, ap, arith, pow_pos}
use Rattle.std.proofs.lemmas.Bool.Decides.{eqb_tells}
use Rattle.std.proofs.lemmas.List.{get_or_append_left, get_or_push, length-append}
use Rattle.std.proofs.Math.Pow.{pow_mono}
use Rattle.format_laws.specs.Fitting.{IsFitting}
use Rattle.soundness.proofs.Laws.{are-formed, object-stands}
use Rattle.model.specs.Acceptance.Accepted.{IsWellFormed}
use Rattle.model.specs.Images.Image.{Image}
use Rattle.model.specs.Images.Places.{bits_of, object_at, offset_of}
use Rattle.thread_spaces.specs.Given.{AreOffsets}

-- an object lies inside of memory
pub offset-near : (image : Image) (number : ℕ) → IsFitting image → IsWellFormed image → number < image.header.objects → offset_of image number < 2 ^ 24
offset-near image number fitting formed less =
    let stands = object-stands image number fitting (are-formed image formed) less in
    let memory : 2 ^ image.header.memory_bits ≤ 2 ^ 24 = pow_mono fitting.header.memory_high in
    let inside = stands.home.inside in
    let ends = stands.ends in
    let within = stands.fits in
    let size = pow_pos (bits_of (object_at image number)) in
    omega (arith, memory, inside, ends, within, size)

pub places-none : (image : Image) → AreOffsets image 0 []
places-none image = record { size = refl; place = λ number less. absurd (omega (arith, less)) }

pub placed-after : (image : Image) (n offset : ℕ) (offsets : List ℕ) → offset ≡ offset_of image n → AreOffsets image n offsets →
    AreOffsets image (n + 1) (offsets ++ offset ∷ [])
placed-after image n offset offsets is placed = record {
  size = length-append offsets (offset ∷ []) ∙ ap (λ (w : ℕ). w + 1) placed.size;
  place = λ number less. elim (eqb_tells number n) [
    | inl here ↦ get_or_push offsets offset 0 number (placed.size ∙ sym here.1) ∙ is ∙ ap (offset_of image) (sym here.1)
    | inr other ↦
        let earlier : number < n = (let apart = other.1 in omega (arith, less, apart)) in
        get_or_append_left offsets (offset ∷ []) 0 number (omega (arith, earlier, placed.size)) ∙ placed.place number earlier
  ];
}
