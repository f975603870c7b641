-- The types of an image's objects: each has one, of a size that Retype takes.
use Rattle.std.proofs.Common.{ℕ, zero, suc, ◌≡◌, ◌∙◌, ◌+◌, ◌*◌, ◌^◌, ◌<◌, ◌≤◌, inl, inr, true, false, Some, refl, sym, ap, arith}
use Rattle.std.proofs.lemmas.Bool.{and_parts, cases_lt, false≢true, or_cases, le-leb, leb-true}
use Rattle.std.proofs.lemmas.List.{get_or_past}
use Rattle.std.proofs.lemmas.Nat.{pow-add}
use Rattle.model.specs.declared.entries.ObjectEntry.{ObjectEntry}
use Rattle.format_laws.proofs.Laws.{between-bounds}
use Rattle.format_laws.specs.Fitting.{IsFitting}
use Rattle.soundness.proofs.boot_laws.PlacesObjects.{object-at}
use Rattle.model.specs.Acceptance.WellFormed.{is_frame_type}
use Rattle.model.specs.Images.Image.{Image, between, size_fits}
use Rattle.model.specs.Images.Places.{object_at, type_at}
use Rattle.model.specs.Kernel.Removal.{slot_count}
use Rattle.model.specs.Kernel.Retype.{NewObject, NewUntyped, NewThread, NewEndpoint, NewNotification, NewCNode, NewFrame, NewPageTable, NewRootTable}
use Rattle.model.specs.Kernel.Retype.{is_large_enough, is_small_enough, object, object_bits, type_of}

pub record HasType (o : ObjectEntry) : Type 0 where
  pub kind : NewObject
  pub is : type_of o.kind o.size ≡ Some kind
  pub large : is_large_enough kind ≡ true
  pub small : is_small_enough kind ≡ true

abbrev typed : (o : ObjectEntry) (kind : NewObject) → type_of o.kind o.size ≡ Some kind → is_large_enough kind ≡ true → is_small_enough kind ≡ true → HasType o
typed o kind is large small = record { kind = kind; is = is; large = large; small = small }

untyped-size : (size : ℕ) → size_fits 1 size ≡ true → between 4 24 size ≡ true
untyped-size size is = elim (or_cases _ false is) [
  | inl sized ↦ elim (or_cases _ _ sized) [
    | inl first ↦ elim (or_cases (between 4 24 size) false first) [ inl fits ↦ fits | inr clash ↦ absurd (false≢true clash) ]
    | inr clash ↦ absurd (false≢true clash)
  ]
  | inr clash ↦ absurd (false≢true clash)
]

cnode-size : (size : ℕ) → size_fits 5 size ≡ true → between 1 14 size ≡ true
cnode-size size is = elim (or_cases _ false is) [
  | inl sized ↦ elim (or_cases _ _ sized) [
    | inl fits ↦ fits
    | inr clash ↦ absurd (false≢true (and_parts _ false clash).1)
  ]
  | inr clash ↦ absurd (false≢true clash)
]

pub of-type : (untyped kind size : ℕ) → 1 ≤ kind → kind ≤ 8 → size_fits kind size ≡ true → HasType (record { untyped = untyped; kind = kind; size = size })
of-type untyped zero size low high fits = absurd (omega (arith, low))
of-type untyped (suc zero) size low high fits =
    let bounds = between-bounds 4 24 size (untyped-size size fits) in typed _ (NewUntyped size) refl (le-leb 4 size bounds.0) (le-leb size 24 bounds.1)
of-type untyped (suc (suc zero)) size low high fits = typed _ NewThread refl refl refl
of-type untyped (suc (suc (suc zero))) size low high fits = typed _ NewEndpoint refl refl refl
of-type untyped (suc (suc (suc (suc zero)))) size low high fits = typed _ NewNotification refl refl refl
of-type untyped (suc (suc (suc (suc (suc zero))))) size low high fits =
    let bounds = between-bounds 1 14 size (cnode-size size fits) in typed _ (NewCNode size) refl (le-leb 1 size bounds.0) (le-leb size 14 bounds.1)
of-type untyped (suc (suc (suc (suc (suc (suc zero)))))) size low high fits = typed _ NewFrame refl refl refl
of-type untyped (suc (suc (suc (suc (suc (suc (suc zero))))))) size low high fits = typed _ NewPageTable refl refl refl
of-type untyped (suc (suc (suc (suc (suc (suc (suc (suc zero)))))))) size low high fits = typed _ NewRootTable refl refl refl
of-type untyped (suc (suc (suc (suc (suc (suc (suc (suc (suc kind))))))))) size low high fits = absurd (omega (arith, high))

pub has-type : (image : Image) (number : ℕ) → IsFitting image → number < image.header.objects → HasType (object_at image number)
has-type image number fitting less =
    let o = object_at image number in
    let fits = fitting.object number o (object-at image number fitting less) in
    of-type o.untyped o.kind o.size fits.low fits.high fits.size

-- a frame of the image is one of its objects
pub frame-listed : (image : Image) (number : ℕ) → IsFitting image → is_frame_type (type_at image number) ≡ true → number < image.header.objects
frame-listed image number fitting is = elim (cases_lt number image.header.objects) [
  | inl less ↦ less
  | inr past ↦
      let none : object_at image number ≡ record { untyped = 0; kind = 0; size = 0 } =
      get_or_past image.objects number _ (omega (arith, past, fitting.objects)) in
      absurd (false≢true (sym (ap (λ (o : ObjectEntry). is_frame_type (type_of o.kind o.size)) none) ∙ is))
]

-- ---- sizes

pub four-bits : (kind : NewObject) → is_large_enough kind ≡ true → 4 ≤ object_bits kind
four-bits (NewUntyped bits) large = large-enough bits large where
  large-enough : (bits : ℕ) → is_large_enough (NewUntyped bits) ≡ true → 4 ≤ bits
  large-enough bits large = leb-true 4 bits large
four-bits NewThread large = omega arith
four-bits NewEndpoint large = omega arith
four-bits NewNotification large = omega arith
four-bits (NewCNode radix) large = omega arith
four-bits NewFrame large = omega arith
four-bits NewPageTable large = omega arith
four-bits NewRootTable large = omega arith

-- slots of 16 bytes each fit into an object
pub room-fits : (kind : NewObject) → 16 * slot_count (object kind) ≤ 2 ^ object_bits kind
room-fits (NewUntyped bits) = omega arith
room-fits NewThread = omega arith
room-fits NewEndpoint = omega arith
room-fits NewNotification = omega arith
room-fits (NewCNode radix) = let e : 2 ^ (radix + 4) ≡ 2 ^ radix * 2 ^ 4 = pow-add 2 radix 4 in omega (arith, e)
room-fits NewFrame = omega arith
room-fits NewPageTable = omega arith
room-fits NewRootTable = omega arith
