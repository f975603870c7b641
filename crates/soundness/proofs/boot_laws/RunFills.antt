-- Frames are filled one by one: each fill is what is described after one fill more.
use Rattle.std.proofs.Common.{ℕ, zero, suc, ◌≡◌, ◌∙◌, ◌+◌, ◌-◌, ◌≤◌, ◌&&◌, true, false, nat_le, List, [], ◌∷◌, ◌++◌, take, length, reverse, find, Option, Some}
use Rattle.std.proofs.Common.{None, option_map, if◌then◌else◌, refl, sym, ap, subst, arith}
use Rattle.std.specs.Prelude.{option_and_then, slice_get, slice_index}
use Rattle.std.specs.Option.{option_map_or}
use Rattle.std.specs.List.{list_any, range_with_len}
use Rattle.std.proofs.lemmas.Bool.{le-leb}
use Rattle.std.proofs.lemmas.List.{reverse-append}
use Rattle.model.specs.Capabilities.Slots.{is_within}
use Rattle.model.specs.Images.Boot.{fill_all}
use Rattle.model.specs.Images.Fills.{Fill, filled_byte, fills, is_filled, is_in_frame}
use Rattle.model.specs.Images.Image.{Image}
use Rattle.model.specs.Kernel.AddressSpaces.{page_size}
use Rattle.model.specs.Kernel.Setup.{fill, is_frame_object, with_first_bytes}
use Rattle.model.specs.Kernel.State.{State}
use Rattle.soundness.specs.boot_laws.Loading.{Progress, bytes_so_far, holdings_so_far, is_open_so_far, loaded, objects_so_far}

-- ---- a list and one item more

pub take-more : {A : Type 0} (xs : List A) (i : ℕ) (x : A) → slice_get xs i ≡ Some x → take (suc i) xs ≡ take i xs ++ x ∷ []
take-more [] zero x is = absurd cc
take-more [] (suc i) x is = absurd cc
take-more {A} (y ∷ ys) zero x is = let here : y ≡ x = cc is in ap (λ (z : A). z ∷ []) here
take-more {A} (y ∷ ys) (suc i) x is = ap (λ (zs : List A). y ∷ zs) (take-more ys i x is)

-- ---- one fill

-- what is at a place after one fill more
filled-more : (all : List Fill) (i : ℕ) (f : Fill) (place : ℕ) → slice_get all i ≡ Some f
    → filled_byte (take (suc i) all) place ≡ (if is_within f.offset (length f.bytes) place then slice_index f.bytes (place - f.offset) else
    filled_byte (take i all) place)
filled-more all i f place is =
    let found = λ (o : Option Fill). option_map_or (λ g. slice_index g.bytes (place - g.offset)) o 0 in
    let earlier = find (is_filled place) (reverse (take i all)) in
    ap (λ (fs : List Fill). found (find (is_filled place) (reverse fs))) (take-more all i f is)
    ∙ ap (λ (fs : List Fill). found (find (is_filled place) fs)) (reverse-append (take i all) (f ∷ []))
    ∙ elim (is_within f.offset (length f.bytes) place)
    as (λ b. found (if b then Some f else earlier) ≡ (if b then slice_index f.bytes (place - f.offset) else found earlier)) [ true ↦ refl | false ↦ refl ]

pub fills-one : (image : Image) (p : Progress) (f : Fill) → slice_get (fills image) p.fills ≡ Some f
    → is_frame_object (objects_so_far image p f.offset) ≡ true → length f.bytes ≤ page_size
    → fill (loaded image p) f.offset f.bytes ≡ Some (loaded image (record p { fills = suc p.fills }))
unfolding fill loaded bytes_so_far is_open_so_far holdings_so_far
fills-one image p f is frame short =
    let s = loaded image p in
    let test : (is_frame_object (objects_so_far image p f.offset) && nat_le (length f.bytes) page_size) ≡ true =
    ap (λ b. b && nat_le (length f.bytes) page_size) frame ∙ le-leb (length f.bytes) page_size short in
    let byte : (place : ℕ) → (if is_within f.offset (length f.bytes) place then option_map (λ _. slice_index f.bytes (place - f.offset)) (s.bytes place) else
    s.bytes place)
    ≡ bytes_so_far image (record p { fills = suc p.fills }) place = λ place.
    let within = is_within f.offset (length f.bytes) place in
    let wanted = slice_index f.bytes (place - f.offset) in
    let earlier = filled_byte (take p.fills (fills image)) place in
    let in_frame = list_any (is_in_frame image place) (range_with_len 0 p.objects) in
    elim in_frame as (λ inside. (if within then option_map (λ _. wanted) (if inside then Some earlier else None) else (if inside then Some earlier else None))
    ≡ (if inside then Some (filled_byte (take (suc p.fills) (fills image)) place) else None)) [
      | true ↦ elim within as (λ b. (if b then Some wanted else Some earlier) ≡ Some (if b then wanted else earlier)) [ true ↦ refl | false ↦ refl ]
          ∙ ap (λ (n : ℕ). Some n) (sym (filled-more (fills image) p.fills f place is))
      | false ↦ elim within as (λ b. ◌≡◌ {A = Option ℕ} (if b then None else None) None) [ true ↦ refl | false ↦ refl ]
    ] in
    ap (λ b. if b then Some (with_first_bytes s f.offset f.bytes) else None) test
    ∙ (λ i. Some (record s { bytes = λ place. byte place i }))

-- ---- many fills

-- what has to be shown of some fills that are in the list of all fills from a number on
pub record FillsFrom (image : Image) (p : Progress) (fs : List Fill) : Type 0 where
  pub listed : (j : ℕ) (f : Fill) → slice_get fs j ≡ Some f → slice_get (fills image) (p.fills + j) ≡ Some f
  pub frames : (j : ℕ) (f : Fill) → slice_get fs j ≡ Some f → is_frame_object (objects_so_far image p f.offset) ≡ true
  pub short : (j : ℕ) (f : Fill) → slice_get fs j ≡ Some f → length f.bytes ≤ page_size

pub fills-many : (image : Image) (p : Progress) (fs : List Fill) → FillsFrom image p fs
    → fill_all (loaded image p) fs ≡ Some (loaded image (record p { fills = p.fills + length fs }))
fills-many image p [] from = ap (λ (n : ℕ). Some (loaded image (record p { fills = n }))) (let none : p.fills ≡ p.fills + 0 = omega arith in none)
fills-many image p (f ∷ fs) from =
    let here : p.fills + 0 ≡ p.fills = omega arith in
    let one = fills-one image p f (subst (λ (n : ℕ). slice_get (fills image) n ≡ Some f) here (from.listed 0 f refl)) (from.frames 0 f refl)
    (from.short 0 f refl) in
    let rest = fills-many image (record p { fills = suc p.fills }) fs (record {
      listed = λ j g is.
          let step : p.fills + suc j ≡ suc p.fills + j = omega arith in
          subst (λ (n : ℕ). slice_get (fills image) n ≡ Some g) step (from.listed (suc j) g is);
      frames = λ j g is. from.frames (suc j) g is;
      short = λ j g is. from.short (suc j) g is;
    }) in
    let end : suc p.fills + length fs ≡ p.fills + length (f ∷ fs) = omega arith in
    ap (λ (o : Option State). option_and_then (λ filled. fill_all filled fs) o) one
    ∙ rest ∙ ap (λ (n : ℕ). Some (loaded image (record p { fills = n }))) end
