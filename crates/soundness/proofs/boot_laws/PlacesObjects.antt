-- Where the objects of a well-formed image lie: inside their untypeds, after the boot area, and apart.
use Rattle.std.proofs.Common.{ℕ, zero, suc, ◌≡◌, ◌≢◌, ◌∙◌, ◌==◌, ◌+◌, ◌*◌, ◌%◌, ◌^◌, ◌<◌, ◌≤◌, ◌⊎◌, inl, inr, true, false, if◌then◌else◌, take, pow_pos, Option}
use Rattle.std.proofs.Common.{Some, None, refl, sym, ap, subst, arith}
use Rattle.std.specs.Prelude.{is_none, nat_le, slice_get}
use Rattle.std.proofs.lemmas.Bool.{true≢false, cases_order, eqb-true, ltb-false, not-false, or_parts}
use Rattle.std.proofs.lemmas.Bool.Decides.{eqb_tells}
use Rattle.std.proofs.lemmas.Option.{slice_get-get_or}
use Rattle.model.specs.declared.entries.UntypedEntry.{UntypedEntry}
use Rattle.format_laws.specs.Fitting.{IsFitting}
use Rattle.soundness.proofs.boot_laws.PlacesRules.{AreFormed}
use Rattle.soundness.proofs.boot_laws.PlacesUsed.{used-grows, used-here, used-more}
use Rattle.model.specs.Acceptance.WellFormed.{end_before, has_no_room, overlaps, untyped_end}
use Rattle.model.specs.Capabilities.Placement.{align, place_of_object, placement}
use Rattle.model.specs.Images.Image.{Image}
use Rattle.model.specs.Images.Places.{bits_of, object_at, offset_of, untyped_at, used_before, used_by}
use Rattle.model.specs.Kernel.State.{boot_area_end}
use Rattle.soundness.proofs.NewPlaces.{laid}

-- ---- entries by their numbers

pub object-at : (image : Image) (number : ℕ) → IsFitting image → number < image.header.objects → slice_get image.objects number ≡ Some (object_at image number)
object-at image number fitting less = slice_get-get_or image.objects number (record { untyped = 0; kind = 0; size = 0 }) (omega (arith, less, fitting.objects))

pub untyped-at : (image : Image) (number : ℕ) → IsFitting image → number < image.header.untypeds →
    slice_get image.untypeds number ≡ Some (untyped_at image number)
untyped-at image number fitting less = slice_get-get_or image.untypeds number (record { offset = 0; bits = 0 }) (omega (arith, less, fitting.untypeds))

-- ---- untypeds

pub record UntypedStands (image : Image) (k : ℕ) : Type 0 where
  pub aligned : (untyped_at image k).offset % 2 ^ (untyped_at image k).bits ≡ 0
  pub inside : untyped_end (untyped_at image k) ≤ 2 ^ image.header.memory_bits
  pub behind_boot : boot_area_end image.header.boot_radix ≤ (untyped_at image k).offset
  pub behind : end_before image k ≤ (untyped_at image k).offset
  pub low : 4 ≤ (untyped_at image k).bits
  pub high : (untyped_at image k).bits ≤ 24

pub untyped-stands : (image : Image) (k : ℕ) → IsFitting image → AreFormed image → k < image.header.untypeds → UntypedStands image k
unfolding overlaps
untyped-stands image k fitting formed less =
    let u = untyped_at image k in
    let at = untyped-at image k fitting less in
    let fits = fitting.untyped k u at in
    let a = or_parts _ _ (formed.untyped k u at) in
    let b = or_parts _ _ a.0 in
    let c = or_parts _ _ b.0 in
    record {
      aligned = eqb-true (u.offset % 2 ^ u.bits) 0 (not-false (u.offset % 2 ^ u.bits == 0) c.0);
      inside = ltb-false (2 ^ image.header.memory_bits) (untyped_end u) c.1;
      behind_boot = ltb-false u.offset (boot_area_end image.header.boot_radix) b.1;
      behind = ltb-false u.offset (end_before image k) a.1;
      low = fits.low;
      high = fits.high;
    }

pub untypeds-apart : (image : Image) (j k : ℕ) → IsFitting image → AreFormed image → j < k → k < image.header.untypeds
    → untyped_end (untyped_at image j) ≤ (untyped_at image k).offset
untypeds-apart image j zero fitting formed less inside = absurd (omega (arith, less))
untypeds-apart image j (suc k) fitting formed less inside =
    let next : untyped_end (untyped_at image k) ≤ (untyped_at image (suc k)).offset =
    UntypedStands.behind (untyped-stands image (suc k) fitting formed inside) in
    elim (cases_order j k) [
      | inl same ↦ subst (λ n. untyped_end (untyped_at image n) ≤ (untyped_at image (suc k)).offset) (sym same) next
      | inr (inl below) ↦ let before = untypeds-apart image j k fitting formed below (omega (arith, inside)) in omega (arith, before, next)
      | inr (inr above) ↦ absurd (omega (arith, less, above))
    ]

-- ---- objects

-- the untyped that an object lies in, and the number of its bytes
abbrev pub home_of : Image → ℕ → UntypedEntry
home_of image number = untyped_at image (object_at image number).untyped

abbrev pub size_at : Image → ℕ → ℕ
size_at image number = 2 ^ bits_of (object_at image number)

-- how much is used up to its end
abbrev pub used_after : Image → ℕ → ℕ
used_after image number = place_of_object (used_before image number) (bits_of (object_at image number)) 1

pub record ObjectStands (image : Image) (number : ℕ) : Type 0 where
  pub home : UntypedStands image (object_at image number).untyped
  pub less : (object_at image number).untyped < image.header.untypeds
  pub place : placement (home_of image number).bits (used_before image number) (bits_of (object_at image number)) 1
      ≡ Some (align (used_before image number) (size_at image number), used_after image number)
  pub behind : (home_of image number).offset + used_before image number ≤ offset_of image number
  pub ends : offset_of image number + size_at image number ≡ (home_of image number).offset + used_after image number
  pub fits : used_after image number ≤ 2 ^ (home_of image number).bits
  pub aligned : offset_of image number % size_at image number ≡ 0

has-place : (bits watermark object_bits : ℕ) → is_none (placement bits watermark object_bits 1) ≡ false
    → placement bits watermark object_bits 1 ≡ Some (align watermark (2 ^ object_bits), place_of_object watermark object_bits 1)
has-place bits watermark object_bits is =
    let end = place_of_object watermark object_bits 1 in
    elim (nat_le end (2 ^ bits)) as (λ b. is_none {T = ℕ × ℕ} (if b then Some (align watermark (2 ^ object_bits), end) else None) ≡ false
    → ◌≡◌ {A = Option (ℕ × ℕ)} (if b then Some (align watermark (2 ^ object_bits), end) else None) (Some (align watermark (2 ^ object_bits), end))) [
      | true ↦ λ some. refl
      | false ↦ λ clash. absurd (true≢false clash)
    ] is

pub object-stands : (image : Image) (number : ℕ) → IsFitting image → AreFormed image → number < image.header.objects → ObjectStands image number
unfolding offset_of has_no_room
object-stands image number fitting formed inside =
    let o = object_at image number in
    let u = untyped_at image o.untyped in
    let at = object-at image number fitting inside in
    let less = (fitting.object number o at).untyped in
    let home = untyped-stands image o.untyped fitting formed less in
    let place = has-place u.bits (used_before image number) (bits_of o) (formed.room number inside) in
    let there = laid u.offset u.bits (used_before image number) (bits_of o) 1 _ place home.aligned (omega arith) in
    record {
      home = home;
      less = less;
      place = place;
      behind = there.behind;
      ends = (let e = there.ends in omega (arith, e));
      fits = there.fits;
      aligned = (let e : offset_of image number + 0 * size_at image number ≡ offset_of image number = omega arith in
          ap (λ (n : ℕ). n % size_at image number) (sym e) ∙ there.aligned 0);
    }

-- after the boot area, and inside memory
pub object-bounds : (image : Image) (number : ℕ) → ObjectStands image number
    → (boot_area_end image.header.boot_radix ≤ offset_of image number) × (offset_of image number + size_at image number ≤ 2 ^ image.header.memory_bits)
object-bounds image number stands =
    let a = stands.home.behind_boot in
    let b = stands.home.inside in
    let c = stands.behind in
    let d = stands.ends in
    let e = stands.fits in
    (omega (arith, a, c), omega (arith, b, d, e))

-- what lies before an object ends before it
before-in-home : (image : Image) (i j : ℕ) → IsFitting image → AreFormed image → i < j → i < image.header.objects → j < image.header.objects
    → (object_at image i).untyped ≡ (object_at image j).untyped → offset_of image i + size_at image i ≤ offset_of image j
before-in-home image i j fitting formed order inside_i inside_j same =
    let one = object-stands image i fitting formed inside_i in
    let two = object-stands image j fitting formed inside_j in
    let u : ℕ = (object_at image j).untyped in
    let more = used-more image.objects i u (object_at image i) (object-at image i fitting inside_i)
    ∙ used-here u (used_by (take i image.objects) u) (object_at image i) same in
    let later = used-grows image.objects (suc i) j u (omega (arith, order)) in
    let used : used_by (take (suc i) image.objects) u ≡ used_after image i =
    more ∙ ap (λ (n : ℕ). place_of_object (used_by (take i image.objects) n) (bits_of (object_at image i)) 1) (sym same) in
    let home : (untyped_at image (object_at image i).untyped).offset ≡ (untyped_at image u).offset = ap (λ (n : ℕ). (untyped_at image n).offset) same in
    let ends = one.ends in
    let behind = two.behind in
    omega (arith, ends, used, later, behind, home)

before-elsewhere : (image : Image) (i j : ℕ) → IsFitting image → AreFormed image → ObjectStands image i → ObjectStands image j
    → (object_at image i).untyped < (object_at image j).untyped → offset_of image i + size_at image i ≤ offset_of image j
before-elsewhere image i j fitting formed one two less =
    let apart = untypeds-apart image (object_at image i).untyped (object_at image j).untyped fitting formed less two.less in
    let ends = one.ends in
    let fits = one.fits in
    let behind = two.behind in
    omega (arith, apart, ends, fits, behind)

abbrev pub AreApart : ℕ → ℕ → ℕ → ℕ → Type 0
AreApart a size b other = (a + size ≤ b) ⊎ (b + other ≤ a)

pub objects-apart : (image : Image) (i j : ℕ) → IsFitting image → AreFormed image → i < image.header.objects → j < image.header.objects → i ≢ j
    → AreApart (offset_of image i) (size_at image i) (offset_of image j) (size_at image j)
objects-apart image i j fitting formed inside_i inside_j other =
    let one = object-stands image i fitting formed inside_i in
    let two = object-stands image j fitting formed inside_j in
    elim (cases_order (object_at image i).untyped (object_at image j).untyped) [
      | inl same ↦ elim (cases_order i j) [
        | inl equal ↦ absurd (other equal)
        | inr (inl below) ↦ inl (before-in-home image i j fitting formed below inside_i inside_j same)
        | inr (inr above) ↦ inr (before-in-home image j i fitting formed above inside_j inside_i (sym same))
      ]
      | inr (inl below) ↦ inl (before-elsewhere image i j fitting formed one two below)
      | inr (inr above) ↦ inr (before-elsewhere image j i fitting formed two one above)
    ]

-- objects differ by their offsets
pub offsets-apart : (image : Image) (i j : ℕ) → IsFitting image → AreFormed image → i < image.header.objects → j < image.header.objects
    → offset_of image i ≡ offset_of image j → i ≡ j
offsets-apart image i j fitting formed inside_i inside_j same = elim (eqb_tells i j) [
  | inl equal ↦ equal.1
  | inr other ↦
      let a = pow_pos (bits_of (object_at image i)) in
      let b = pow_pos (bits_of (object_at image j)) in
      elim (objects-apart image i j fitting formed inside_i inside_j other.1) [
        | inl before ↦ absurd (omega (arith, before, same, a))
        | inr behind ↦ absurd (omega (arith, behind, same, b))
      ]
]
