-- The frames of a well-formed image lie at multiples of a page.
use Rattle.std.proofs.Common.{ℕ, ◌≡◌, ◌∙◌, ◌+◌, ◌-◌, ◌*◌, ◌/◌, ◌%◌, ◌^◌, ◌<◌, ◌≤◌, inl, inr, true, false, Option, Some, None, refl, sym, ap, arith}
use Rattle.std.specs.Prelude.{slice_get}
use Rattle.std.specs.Option.{option_map_or}
use Rattle.std.proofs.lemmas.Bool.{cases_lt}
use Rattle.std.proofs.lemmas.Nat.{mod-pow-add}
use Rattle.std.proofs.lemmas.Option.{slice_get-get_or}
use Rattle.std.proofs.Math.Pow.{pow_mono}
use Rattle.soundness.specs.boot_laws.Standing.{StandApart, StandsInside}
use Rattle.format_laws.specs.Fitting.{IsFitting}
use Rattle.model.specs.Acceptance.Accepted.{IsWellFormed}
use Rattle.model.specs.Acceptance.WellFormed.{is_frame_type}
use Rattle.model.specs.Capabilities.Placement.{align}
use Rattle.model.specs.Images.Image.{Image}
use Rattle.model.specs.Images.Places.{bits_of, object_at, offset_of, type_at, untyped_at, used_before}
use Rattle.model.specs.Kernel.Retype.{NewObject, NewUntyped, NewThread, NewEndpoint, NewNotification, NewCNode, NewFrame, NewPageTable, NewRootTable}
use Rattle.model.specs.Kernel.Retype.{object_bits}
use Rattle.headline.proofs.kept.FrameRules.{untyped-aligned}

-- ---- numbers

none-left : (q r : ℕ) → q * 4096 + r ≡ 0 → r ≡ 0
none-left q r is = omega (arith, is)

-- a multiple of a greater power of 2
page-multiple : (n bits : ℕ) → n % 2 ^ bits ≡ 0 → 12 ≤ bits → n % 4096 ≡ 0
page-multiple n bits is least =
    let more : bits - 12 + 12 ≡ bits = omega (arith, least) in
    let whole : n % 2 ^ (bits - 12 + 12) ≡ 0 = ap (λ (k : ℕ). n % 2 ^ k) more ∙ is in
    none-left (n / 2 ^ 12 % 2 ^ (bits - 12)) (n % 4096) (sym (mod-pow-add n (bits - 12) 12) ∙ whole)

few-bits : (bits : ℕ) → 4096 ≤ 2 ^ bits → 12 ≤ bits
few-bits bits is = elim (cases_lt bits 12) [
  | inr here ↦ here
  | inl below ↦ let small : 2 ^ bits ≤ 2 ^ 11 = pow_mono {j = 11} (omega (arith, below)) in absurd (omega (arith, small, is))
]

aligned-sum : (offset used : ℕ) → offset % 4096 ≡ 0 → (offset + used / 4096 * 4096) % 4096 ≡ 0
aligned-sum offset used is = omega (arith, is)

-- ---- frames

pub frame-bits : (kind : Option NewObject) → is_frame_type kind ≡ true → option_map_or object_bits kind 0 ≡ 12
frame-bits None is = absurd (let clash : false ≡ true = is in cc)
frame-bits (Some (NewUntyped bits)) is = absurd (let clash : false ≡ true = is in cc)
frame-bits (Some NewThread) is = absurd (let clash : false ≡ true = is in cc)
frame-bits (Some NewEndpoint) is = absurd (let clash : false ≡ true = is in cc)
frame-bits (Some NewNotification) is = absurd (let clash : false ≡ true = is in cc)
frame-bits (Some (NewCNode radix)) is = absurd (let clash : false ≡ true = is in cc)
frame-bits (Some NewFrame) is = refl
frame-bits (Some NewPageTable) is = absurd (let clash : false ≡ true = is in cc)
frame-bits (Some NewRootTable) is = absurd (let clash : false ≡ true = is in cc)

pub frame-aligned : (image : Image) (number : ℕ) → IsFitting image → StandApart image → IsWellFormed image → number < image.header.objects
    → is_frame_type (type_at image number) ≡ true → offset_of image number % 4096 ≡ 0
unfolding offset_of
frame-aligned image number fitting apart formed less is =
    let home = (object_at image number).untyped in
    let u = untyped_at image home in
    let stands = apart.inside number less in
    let few = StandsInside.is_entry stands in
    let at : slice_get image.untypeds home ≡ Some u = slice_get-get_or image.untypeds home (record { offset = 0; bits = 0 })
    (omega (arith, few, fitting.untypeds)) in
    let bits : bits_of (object_at image number) ≡ 12 = frame-bits (type_at image number) is in
    let size : 2 ^ bits_of (object_at image number) ≡ 4096 = ap (λ (k : ℕ). 2 ^ k) bits in
    let begins = StandsInside.begins stands in
    let ends = StandsInside.ends stands in
    let room : 4096 ≤ 2 ^ u.bits = omega (arith, size, begins, ends) in
    let place : u.offset % 4096 ≡ 0 = page-multiple u.offset u.bits (untyped-aligned image home u formed at) (few-bits u.bits room) in
    ap (λ (k : ℕ). (u.offset + align (used_before image number) k) % 4096) size ∙ aligned-sum u.offset (used_before image number + 4095) place
