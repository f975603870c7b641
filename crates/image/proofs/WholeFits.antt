-- Sections and threads fit by the version and the counts that the header gives.
use Rattle.std.proofs.Common.{◌≡◌, ◌&&◌, Bool, true, false, Option, Some, None, if◌then◌else◌, refl, sym, ap, ◌∙◌}
use Rattle.std.proofs.lemmas.Option.{none-some, same_Some}
use Rattle.model.specs.declared.entries.ImageHeader.{ImageHeader}
use Rattle.model.specs.Images.Format.{many_fit}
use Rattle.model.specs.Images.Image.{Image, header_format, image_with, sections_format, slots_format, thread_format, whole_image}
use Rattle.image.specs.Sections.{sections_fit}
use Rattle.image_reading.specs.declared.entries.Counts.{Counts}

abbrev counts_given : ImageHeader → Counts
counts_given h = record { version = h.version; untypeds = h.untypeds; objects = h.objects; interrupts = h.interrupts; words = 0 }

abbrev pub threads_fit : Counts → Image → Bool
threads_fit l i = many_fit (λ _. thread_format (slots_format l.objects) i.header.version l.objects) (λ _. 0) 0 i.header.threads i.threads

given-where : (b : Bool) (l m : Counts) → Some l ≡ (if b then Some m else None) → (b ≡ true) × (l ≡ m)
given-where true l m h = (refl, same_Some l m h)
given-where false l m h = absurd (none-some l (sym h))

pub whole-fits : (i : Image) (l : Counts) (sections threads : Bool) → Some l ≡ (if header_format.fits i.header then Some (counts_given i.header) else None)
    → sections ≡ true → sections ≡ sections_fit l i → threads ≡ threads_fit l i → threads ≡ whole_image.fits i
unfolding image_with sections_format
whole-fits i l sections threads given fit is are =
    let h = counts_given i.header in
    let found = given-where (header_format.fits i.header) l h given in
    let all : sections_fit h i ≡ true = ap (λ k. sections_fit k i) (sym found.1) ∙ sym is ∙ fit in
    are ∙ ap (λ k. threads_fit k i) found.1
    ∙ ap (λ b. b && threads_fit h i) (sym all)
    ∙ ap (λ b. (b && sections_fit h i) && threads_fit h i) (sym found.0)
