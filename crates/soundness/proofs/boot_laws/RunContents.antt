-- Contents and programs are filled, if all that they name is there.
use Rattle.std.proofs.Common.{ℕ, zero, suc, ◌≡◌, ◌∙◌, ◌+◌, ◌≤◌, ◌-◌, Bool, true, List, [], ◌∷◌, ◌++◌, map, take, drop, length, Option, Some, None, option_map}
use Rattle.std.proofs.Common.{if◌then◌else◌, refl, sym, ap, subst, arith}
use Rattle.std.specs.Prelude.{filter_map, flat_map, option_and_then, slice_get}
use Rattle.std.specs.List.{cons_option}
use Rattle.std.proofs.lemmas.List.{length-take}
use Rattle.model.specs.declared.entries.FrameEntry.{FrameEntry}
use Rattle.model.specs.Acceptance.WellFormed.{is_frame_type}
use Rattle.model.specs.Images.Boot.{fill_all}
use Rattle.model.specs.Images.BootCalls.{content_operation, has_place, program_operation}
use Rattle.model.specs.Images.Described.{Numbered}
use Rattle.model.specs.Images.Fills.{Fill, bytes_of, content_fill, fills, frame_at, page_bytes, page_fill, program_fills, program_pages}
use Rattle.model.specs.Images.Image.{Image, ImageContent, Thread}
use Rattle.model.specs.Images.Places.{offset_of, type_at}
use Rattle.model.specs.Kernel.AddressSpaces.{page_size}
use Rattle.model.specs.Kernel.Setup.{is_frame_object}
use Rattle.soundness.specs.boot_laws.Loading.{Progress, loaded, objects_so_far}
use Rattle.soundness.proofs.boot_laws.RunBoots.{at_fills, at_programs, length-joined, length-map}
use Rattle.soundness.proofs.boot_laws.RunFills.{FillsFrom, fills-many, take-more}
use Rattle.soundness.proofs.boot_laws.RunSequences.{Leads, leads-fills}

-- ---- places in lists

pub get-map : {A B : Type 0} (f : A → B) (xs : List A) (i : ℕ) (x : A) → slice_get xs i ≡ Some x → slice_get (map f xs) i ≡ Some (f x)
get-map f [] zero x is = absurd cc
get-map f [] (suc i) x is = absurd cc
get-map {A} {B} f (y ∷ ys) zero x is = let here : y ≡ x = cc is in ap (λ (z : A). Some (f z)) here
get-map f (y ∷ ys) (suc i) x is = get-map f ys i x is

pub get-first : {A : Type 0} (xs ys : List A) (i : ℕ) (x : A) → slice_get xs i ≡ Some x → slice_get (xs ++ ys) i ≡ Some x
get-first [] ys zero x is = absurd cc
get-first [] ys (suc i) x is = absurd cc
get-first (z ∷ zs) ys zero x is = is
get-first (z ∷ zs) ys (suc i) x is = get-first zs ys i x is

pub get-behind : {A : Type 0} (xs ys : List A) (i : ℕ) → slice_get (xs ++ ys) (length xs + i) ≡ slice_get ys i
get-behind [] ys i = let none : 0 + i ≡ i = omega arith in ap (λ (n : ℕ). slice_get ys n) none
get-behind (x ∷ xs) ys i =
    let step : length (x ∷ xs) + i ≡ suc (length xs + i) = omega arith in
    ap (λ (n : ℕ). slice_get (x ∷ (xs ++ ys)) n) step ∙ get-behind xs ys i

-- the items that one of the items gives come after those of the ones before
pub get-flat : {A B : Type 0} (of : A → List B) (xs : List A) (k : ℕ) (x : A) (j : ℕ) (y : B) → slice_get xs k ≡ Some x → slice_get (of x) j ≡ Some y
    → slice_get (flat_map of xs) (length (flat_map of (take k xs)) + j) ≡ Some y
get-flat of [] zero x j y is item = absurd cc
get-flat of [] (suc k) x j y is item = absurd cc
get-flat {A} {B} of (z ∷ zs) zero x j y is item =
    let here : x ≡ z = let e : z ≡ x = cc is in sym e in
    let none : length (flat_map of (take 0 (z ∷ zs))) + j ≡ j = omega arith in
    ap (λ (n : ℕ). slice_get (of z ++ flat_map of zs) n) none ∙ get-first (of z) (flat_map of zs) j y (subst (λ (a : A). slice_get (of a) j ≡ Some y) here item)
get-flat of (z ∷ zs) (suc k) x j y is item =
    let split : length (of z ++ flat_map of (take k zs)) + j ≡ length (of z) + (length (flat_map of (take k zs)) + j) =
    omega (arith, length-joined (of z) (flat_map of (take k zs))) in
    ap (λ (n : ℕ). slice_get (of z ++ flat_map of zs) n) split ∙ get-behind (of z) (flat_map of zs) (length (flat_map of (take k zs)) + j)
    ∙ get-flat of zs k x j y is item

-- ---- what has to be there

pub record FramesAreThere (image : Image) : Type 0 where
  pub contents : (i : ℕ) (c : ImageContent) → slice_get image.contents i ≡ Some c
      → (is_frame_type (type_at image c.header.frame) ≡ true) × (length (bytes_of c.words) ≤ page_size)
  pub programs : (i : ℕ) (x : Numbered) → slice_get image.threads i ≡ Some x.thread → has_place image x.thread ≡ true
  -- a frame of the image is at its place once all objects are
  pub frames : (p : Progress) → p.objects ≡ image.header.objects → (number : ℕ) → is_frame_type (type_at image number) ≡ true
      → is_frame_object (objects_so_far image p (offset_of image number)) ≡ true
  -- what is mapped is a frame
  pub mapped : (root address : ℕ) (f : FrameEntry) → frame_at image root address ≡ Some f → is_frame_type (type_at image f.frame) ≡ true

-- ---- contents

pub contents-by-one : (image : Image) → FramesAreThere image → (i : ℕ) (c : ImageContent) → slice_get image.contents i ≡ Some c
    → Leads image (loaded image (at_fills image i)) (content_operation image c ∷ []) (loaded image (at_fills image (suc i)))
unfolding fills
contents-by-one image there i c is =
    let known = there.contents i c is in
    let f = content_fill image c in
    let p = at_fills image i in
    let s = loaded image p in
    let one : FillsFrom image p (f ∷ []) = record {
      listed = λ j g at. only j g at;
      frames = λ j g at. subst (λ (h : Fill). is_frame_object (objects_so_far image p h.offset) ≡ true) (sole j g at)
          (there.frames p refl c.header.frame known.0);
      short = λ j g at. subst (λ (h : Fill). length h.bytes ≤ page_size) (sole j g at) known.1;
    } in
    let end : i + length (f ∷ []) ≡ suc i = omega arith in
    let chosen = λ (b : Bool). if b then Some (f ∷ []) else None in
    leads-fills image s (loaded image (at_fills image (suc i))) c.header.frame (chosen (is_frame_type (type_at image c.header.frame)))
    (ap (λ b. option_and_then (fill_all s) (chosen b)) known.0
    ∙ fills-many image p (f ∷ []) one ∙ ap (λ (n : ℕ). Some (loaded image (at_fills image n))) end)
  where
    sole : (j : ℕ) (g : Fill) → slice_get (content_fill image c ∷ []) j ≡ Some g → content_fill image c ≡ g
    sole zero g at = cc at
    sole (suc j) g at = absurd cc

    only : (j : ℕ) (g : Fill) → slice_get (content_fill image c ∷ []) j ≡ Some g → slice_get (fills image) (i + j) ≡ Some g
    only zero g at =
        let here : i + 0 ≡ i = omega arith in
        ap (λ (n : ℕ). slice_get (fills image) n) here
        ∙ get-first (map (content_fill image) image.contents) (flat_map (program_fills image) image.threads) i (content_fill image c)
        (get-map (content_fill image) image.contents i c is)
        ∙ ap (λ (h : Fill). Some h) (sole zero g at)
    only (suc j) g at = absurd cc

-- ---- programs

-- an item of what is made of a list comes from an item of it
filter-item : {A B : Type 0} (f : A → Option B) (xs : List A) (j : ℕ) (y : B) → slice_get (filter_map f xs) j ≡ Some y → (x : A) × (f x ≡ Some y)
filter-item f [] zero y is = absurd cc
filter-item f [] (suc j) y is = absurd cc
filter-item {A} {B} f (x ∷ xs) j y is = elim (f x) as (λ o. f x ≡ o → slice_get (cons_option o (filter_map f xs)) j ≡ Some y → (z : A) × (f z ≡ Some y)) [
  | None ↦ λ at later. filter-item f xs j y later
  | Some first ↦ λ at later. here (λ k. filter-item f xs k y) j first at later
] refl is
  where
    here : ((k : ℕ) → slice_get (filter_map f xs) k ≡ Some y → (z : A) × (f z ≡ Some y)) → (j : ℕ) (first : B) → f x ≡ Some first →
        slice_get (first ∷ filter_map f xs) j ≡ Some y → (z : A) × (f z ≡ Some y)
    here rest zero first at later = (x, at ∙ later)
    here rest (suc j) first at later = rest j later

page-of : (image : Image) (there : FramesAreThere image) (t : Thread) (address : ℕ) (g : Fill) → page_fill image t address ≡ Some g
    → (f : FrameEntry) × (is_frame_type (type_at image f.frame) ≡ true) × (g.offset ≡ offset_of image f.frame) × (g.bytes ≡ page_bytes t address)
page-of image there t address g is = elim (frame_at image t.header.root address) as (λ o. frame_at image t.header.root address ≡ o
    → option_map (λ f. record { offset = offset_of image f.frame; bytes = page_bytes t address }) o ≡ Some g
    → (f : FrameEntry) × (is_frame_type (type_at image f.frame) ≡ true) × (g.offset ≡ offset_of image f.frame) × (g.bytes ≡ page_bytes t address)) [
      | None ↦ λ at none. absurd cc
      | Some f ↦ λ at some.
          let fill : Fill = record { offset = offset_of image f.frame; bytes = page_bytes t address } in
          let same : g ≡ fill = let e : fill ≡ g = cc some in sym e in
          (f, there.mapped t.header.root address f at, ap Fill.offset same, ap Fill.bytes same)
    ] refl is

program-from : (image : Image) → FramesAreThere image → (k : ℕ) (x : Numbered) → slice_get image.threads k ≡ Some x.thread
    → FillsFrom image (at_programs image k) (program_fills image x.thread)
unfolding fills
program-from image there k x is =
    let t = x.thread in
    let cs = map (content_fill image) image.contents in
    let before = length (flat_map (program_fills image) (take k image.threads)) in
    record {
      listed = λ j g at.
          let long : length cs ≡ length image.contents = length-map (content_fill image) image.contents in
          let split : (length image.contents + before) + j ≡ length cs + (before + j) = omega (arith, long) in
          ap (λ (n : ℕ). slice_get (cs ++ flat_map (program_fills image) image.threads) n) split
          ∙ get-behind cs (flat_map (program_fills image) image.threads) (before + j) ∙ get-flat (program_fills image) image.threads k t j g is at;
      frames = λ j g at.
          let item = filter-item (page_fill image t) (program_pages t) j g at in
          let page = page-of image there t item.0 g item.1 in
          ap (λ (n : ℕ). is_frame_object (objects_so_far image (at_programs image k) n)) page.2 ∙ there.frames (at_programs image k) refl page.0.frame page.1;
      short = λ j g at.
          let item = filter-item (page_fill image t) (program_pages t) j g at in
          let page = page-of image there t item.0 g item.1 in
          let most = length-take page_size (drop (item.0 - t.header.base) (bytes_of t.words)) in
          omega (arith, ap (λ (bs : List ℕ). length bs) page.3, most);
    }

pub programs-by-one : (image : Image) → FramesAreThere image → (k : ℕ) (x : Numbered) → slice_get image.threads k ≡ Some x.thread
    → Leads image (loaded image (at_programs image k)) (program_operation image x ∷ []) (loaded image (at_programs image (suc k)))
programs-by-one image there k x is =
    let t = x.thread in
    let p = at_programs image k in
    let s = loaded image p in
    let fs = program_fills image t in
    let more : take (suc k) image.threads ≡ take k image.threads ++ t ∷ [] = take-more image.threads k t is in
    let count : length (flat_map (program_fills image) (take (suc k) image.threads)) ≡ length (flat_map (program_fills image) (take k image.threads)) + length
    fs =
    ap (λ (ts : List Thread). length (flat_map (program_fills image) ts)) more ∙ flat-more (take k image.threads) in
    let end : p.fills + length fs ≡ length image.contents + length (flat_map (program_fills image) (take (suc k) image.threads)) = omega (arith, count) in
    leads-fills image s (loaded image (at_programs image (suc k))) x.number (if has_place image t then Some fs else None)
    (ap (λ b. option_and_then (fill_all s) (if b then Some fs else None)) (there.programs k x is)
    ∙ fills-many image p fs (program-from image there k x is) ∙ ap (λ (n : ℕ). Some (loaded image (at_fills image n))) end)
  where
    flat-more : (ts : List Thread) → length (flat_map (program_fills image) (ts ++ x.thread ∷ [])) ≡ length (flat_map (program_fills image) ts) + length
        (program_fills image x.thread)
    flat-more [] = length-joined (program_fills image x.thread) [] ∙ omega arith
    flat-more (u ∷ ts) =
        let rest = flat-more ts in
        omega (
          arith,
          length-joined (program_fills image u) (flat_map (program_fills image) (ts ++ x.thread ∷ [])),
          length-joined (program_fills image u) (flat_map (program_fills image) ts),
          rest,
        )
