-- What the sections of an image hold is the image that is read.
use Rattle.std.proofs.Common.{sym, ◌≡◌, ℕ, ◌+◌, List, true, is_ok, Result, Ok, Err, refl, arith}
use Rattle.model.specs.declared.entries.ImageHeader.{ImageHeader}
use Rattle.model.specs.declared.refusals.Refusal.{Refusal}
use Rattle.model.specs.Images.Format.{end_of}
use Rattle.model.specs.Images.Image.{capability_format, content_format, frame_format, header_format, image_with, interrupt_format, object_format, pair_key}
use Rattle.model.specs.Images.Image.{promise_format, sections_format, slots_format, table_format, thread_format, untyped_format, whole_image}
use Rattle.image_reading.specs.Sections.{AreSections, HasCounts, capabilities_format, contents_format, frames_format, interrupts_format, objects_format}
use Rattle.image_reading.specs.Sections.{promises_format, sections_image, tables_format, threads_format, untypeds_format}
use Rattle.image_reading.proofs.FormatLaws.{IsBytes}
use Rattle.image_reading.proofs.WholeImage.{image_law}
use Rattle.image_reading.proofs.EntryLists.{list_length, read_from_end}

pub ends-well : (r : Result ℕ Refusal) (e : ℕ) → Ok e ≡ r → is_ok r ≡ true
ends-well (Ok x) e h = refl
ends-well (Err d) e h = absurd cc

module _ (bytes : List ℕ) (h : ImageHeader) (untypeds objects capabilities interrupts tables frames contents promises threads after : ℕ)
    (header : Ok (h, untypeds) ≡ header_format.reads bytes 0)
    (untypeds_end : Ok objects ≡ end_of ((untypeds_format h).reads bytes untypeds))
    (objects_end : Ok capabilities ≡ end_of ((objects_format h).reads bytes objects))
    (capabilities_end : Ok interrupts ≡ end_of ((capabilities_format h).reads bytes capabilities))
    (interrupts_end : Ok tables ≡ end_of ((interrupts_format h).reads bytes interrupts))
    (tables_end : Ok frames ≡ end_of ((tables_format h).reads bytes tables))
    (frames_end : Ok contents ≡ end_of ((frames_format h).reads bytes frames))
    (contents_end : Ok promises ≡ end_of ((contents_format h).reads bytes contents))
    (promises_end : Ok threads ≡ end_of ((promises_format h).reads bytes promises))
    (threads_end : Ok after ≡ end_of ((threads_format h).reads bytes threads)) where
  pub all-read : whole_image.reads bytes 0 ≡ Ok (sections_image bytes h untypeds objects capabilities interrupts tables frames contents promises threads, after)
  unfolding image_with sections_format untypeds_format objects_format capabilities_format interrupts_format tables_format frames_format contents_format
      promises_format
      threads_format
  all-read =
      let a = read_from_end ((untypeds_format h).reads bytes untypeds) objects untypeds_end in
      let b = read_from_end ((objects_format h).reads bytes objects) capabilities objects_end in
      let c = read_from_end ((capabilities_format h).reads bytes capabilities) interrupts capabilities_end in
      let d = read_from_end ((interrupts_format h).reads bytes interrupts) tables interrupts_end in
      let e = read_from_end ((tables_format h).reads bytes tables) frames tables_end in
      let f = read_from_end ((frames_format h).reads bytes frames) contents frames_end in
      let g = read_from_end ((contents_format h).reads bytes contents) promises contents_end in
      let j = read_from_end ((promises_format h).reads bytes promises) threads promises_end in
      let i = read_from_end ((threads_format h).reads bytes threads) after threads_end in
      rw (← header, a, b, c, d, e, f, g, j, i) refl

  pub all-fit : IsBytes bytes → whole_image.fits (sections_image bytes h untypeds objects capabilities interrupts tables frames contents promises threads)
      ≡ true
  all-fit fits = (image_law.takes bytes 0 (sections_image bytes h untypeds objects capabilities interrupts tables frames contents promises threads) after fits
      (omega arith) all-read).fits

ok-of : (r : Result ℕ Refusal) (e : ℕ) → r ≡ Ok e → is_ok r ≡ true
ok-of r e h = ends-well r e (sym h)

pub counted : (bytes : List ℕ) (h : ImageHeader) (untypeds objects capabilities interrupts tables frames contents promises threads : ℕ) →
    AreSections bytes h untypeds objects capabilities interrupts tables frames contents promises threads
    → HasCounts (sections_image bytes h untypeds objects capabilities interrupts tables frames contents promises threads)
unfolding untypeds_format objects_format capabilities_format interrupts_format tables_format frames_format contents_format promises_format threads_format
counted bytes h untypeds objects capabilities interrupts tables frames contents promises threads s = record {
  untypeds = list_length (λ _. untyped_format) (λ _. 0) 0 h.untypeds bytes untypeds (ok-of _ _ s.untypeds_end);
  objects = list_length (object_format h.version h.untypeds) (λ e. e.untyped) 0 h.objects bytes objects (ok-of _ _ s.objects_end);
  capabilities = list_length (capability_format h.objects h.interrupts) (λ e. pair_key e.cnode e.index + 1) 0 h.capabilities bytes capabilities
      (ok-of _ _ s.capabilities_end);
  interrupts = list_length (interrupt_format h.objects) (λ e. e.line + 1) 0 h.interrupts bytes interrupts (ok-of _ _ s.interrupts_end);
  tables = list_length (table_format h.objects) (λ e. pair_key e.root e.address + 1) 0 h.tables bytes tables (ok-of _ _ s.tables_end);
  frames = list_length (frame_format h.objects) (λ e. pair_key e.root e.address + 1) 0 h.frames bytes frames (ok-of _ _ s.frames_end);
  contents = list_length (content_format h.objects) (λ c. c.header.frame + 1) 0 h.contents bytes contents (ok-of _ _ s.contents_end);
  promises = list_length (promise_format h.objects) (λ p. p.header.endpoint + 1) 0 h.promises bytes promises (ok-of _ _ s.promises_end);
  threads = list_length (λ _. thread_format (slots_format h.objects) h.version h.objects) (λ _. 0) 0 h.threads bytes threads s.threads_end;
}
