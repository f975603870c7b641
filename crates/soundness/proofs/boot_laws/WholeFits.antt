-- The words of contents fit into a frame, and lists are as long as their counts say.
use Rattle.std.proofs.Common.{ℕ, ◌≡◌, ◌∙◌, ◌+◌, ◌*◌, ◌≤◌, ◌&&◌, true, List, [], ◌∷◌, length, take, Some, refl, ap, subst, arith}
use Rattle.std.specs.Prelude.{nat_le, nat_lt, flat_map, slice_get}
use Rattle.std.specs.List.{enumerate_from}
use Rattle.std.proofs.lemmas.Bool.{and_parts}
use Rattle.format_laws.proofs.Laws.{field-between, many-each, many-length}
use Rattle.format_laws.specs.Fitting.{IsFitting}
use Rattle.soundness.proofs.boot_laws.RunBoots.{length-joined}
use Rattle.soundness.proofs.boot_laws.RunEnd.{CountsAreLengths}
use Rattle.model.specs.Images.Described.{numbered}
use Rattle.model.specs.Images.Fills.{bytes_of, fills}
use Rattle.model.specs.Images.Format.{field, many, ordered}
use Rattle.model.specs.Images.Image.{Image, ImageContent, between, capability_format, content_format, frame_format, header_format, image_with, interrupt_format}
use Rattle.model.specs.Images.Image.{object_format, pair_key, sections_format, sections_of, table_format, untyped_format, whole_image}
use Rattle.model.specs.Kernel.AddressSpaces.{page_size}
use Rattle.model.specs.Shared.Bytes.{word_bytes}

-- ---- contents

content-words : (objects least : ℕ) (c : ImageContent) → (content_format objects least).fits c ≡ true → length c.words ≤ 1024
unfolding content_format
content-words objects least c is =
    let a = and_parts ((field (λ frame. nat_le least frame && nat_lt frame objects)).fits c.header.frame) _ is in
    let b = and_parts ((field (between 1 1024)).fits c.header.words) _ a.1 in
    let most : c.header.words ≤ 1024 = (field-between 1 1024 c.header.words b.0).1 in
    let long : length c.words ≡ c.header.words = many-length (λ _. field (λ _. true)) (λ _. 0) 0 c.header.words c.words b.1 in
    omega (arith, most, long)

word-long : (word : ℕ) → length (word_bytes word) ≡ 4
word-long word = refl

pub bytes-long : (words : List ℕ) → length (bytes_of words) ≡ 4 * length words
bytes-long [] = refl
bytes-long (w ∷ ws) =
    let rest = bytes-long ws in
    omega (arith, length-joined (word_bytes w) (flat_map word_bytes ws), word-long w, rest)

pub contents-fit : (image : Image) → whole_image.fits image ≡ true → (i : ℕ) (c : ImageContent) → slice_get image.contents i ≡ Some c →
    length (bytes_of c.words) ≤ page_size
unfolding image_with sections_format
contents-fit image is i c at =
    let header = image.header in
    let whole = and_parts (sections_format.fits (sections_of image)) _ is in
    let a = and_parts (header_format.fits header) _ whole.0 in
    let b = and_parts ((many header.untypeds untyped_format).fits image.untypeds) _ a.1 in
    let d = and_parts ((ordered 0 (object_format header.version header.untypeds) (λ e. e.untyped) header.objects).fits image.objects) _ b.1 in
    let e = and_parts ((ordered 0 (capability_format header.objects header.interrupts) (λ e. pair_key e.cnode e.index + 1) header.capabilities).fits
    image.capabilities) _ d.1 in
    let f = and_parts ((ordered 0 (interrupt_format header.objects) (λ e. e.line + 1) header.interrupts).fits image.interrupts) _ e.1 in
    let g = and_parts ((ordered 0 (table_format header.objects) (λ e. pair_key e.root e.address + 1) header.tables).fits image.tables) _ f.1 in
    let h = and_parts ((ordered 0 (frame_format header.objects) (λ e. pair_key e.root e.address + 1) header.frames).fits image.frames) _ g.1 in
    let contents = content_format image.header.objects in
    let j = and_parts ((ordered 0 contents (λ x. x.header.frame + 1) header.contents).fits image.contents) _ h.1 in
    let one = many-each contents (λ x. x.header.frame + 1) 0 image.header.contents image.contents j.0 i c at in
    let words : length c.words ≤ 1024 = content-words image.header.objects one.0 c one.1 in
    let bytes = bytes-long c.words in
    omega (arith, words, bytes)

-- ---- counts

pub take-whole : {A : Type 0} (count : ℕ) (xs : List A) → length xs ≡ count → take count xs ≡ xs
take-whole count xs long = subst (λ (n : ℕ). take n xs ≡ xs) long (all xs)
  where
    all : {A : Type 0} (xs : List A) → take (length xs) xs ≡ xs
    all [] = refl
    all (x ∷ xs) = ap (λ l. x ∷ l) (all xs)

pub length-numbered : {A : Type 0} (n : ℕ) (xs : List A) → length (enumerate_from n xs) ≡ length xs
length-numbered n [] = refl
length-numbered n (x ∷ xs) = let rest = length-numbered (n + 1) xs in omega (arith, rest)

pub counts-are : (image : Image) → IsFitting image → CountsAreLengths image
counts-are image fitting = record {
  objects = take-whole image.header.objects image.objects fitting.objects;
  capabilities = take-whole image.header.capabilities image.capabilities fitting.capabilities;
  handlers = take-whole image.header.interrupts (numbered image.interrupts) (length-numbered 0 image.interrupts ∙ fitting.interrupts);
  tables = take-whole image.header.tables image.tables fitting.tables;
  frames = take-whole image.header.frames (numbered image.frames) (length-numbered 0 image.frames ∙ fitting.frames);
  fills = take-whole (length (fills image)) (fills image) refl;
  threads = take-whole image.header.threads image.threads fitting.threads;
}
