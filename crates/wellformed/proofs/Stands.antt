-- Where untypeds and objects lie.
use Rattle.std.proofs.Common.{◌≡◌, ◌∙◌, ℕ, suc, ◌==◌, ◌+◌, ◌%◌, ◌^◌, ◌||◌, Bool, not, Some}
use Rattle.std.proofs.Common.{take, sym, ap, add-one}
use Rattle.std.specs.Prelude.{is_none, nat_lt, slice_get}
use Rattle.std.proofs.lemmas.Option.{get_or_from_slice_get}
use Rattle.model.specs.declared.entries.ImageHeader.{ImageHeader}
use Rattle.model.specs.declared.entries.ObjectEntry.{ObjectEntry}
use Rattle.model.specs.declared.entries.UntypedEntry.{UntypedEntry}
use Rattle.model.specs.Acceptance.WellFormed.{end_before, has_no_room, overlaps, untyped_end}
use Rattle.model.specs.Capabilities.Placement.{placement}
use Rattle.model.specs.Images.Image.{Image}
use Rattle.model.specs.Images.Places.{bits_of, object_at, untyped_at, used_by}
use Rattle.model.specs.Kernel.State.{boot_area_end}

-- ---- untypeds

abbrev pub stands_badly : ImageHeader → UntypedEntry → ℕ → Bool
stands_badly h u before =
    not (u.offset % 2 ^ u.bits == 0) || nat_lt (2 ^ h.memory_bits) (untyped_end u) || nat_lt u.offset (boot_area_end h.boot_radix) || nat_lt u.offset before

pub overlaps-is : (image : Image) (n : ℕ) (u : UntypedEntry) (h : ImageHeader) (before : ℕ) → h ≡ image.header → before ≡ end_before image n
    → stands_badly h u before ≡ overlaps image (n, u)
unfolding overlaps
overlaps-is image n u h before header is =
    ap (λ (x : ImageHeader). stands_badly x u before) header ∙ ap (λ (x : ℕ). stands_badly image.header u x) is

pub end-next : (image : Image) (n : ℕ) (u : UntypedEntry) (end : ℕ) → slice_get image.untypeds n ≡ Some u → end ≡ untyped_end u → end ≡ end_before image (n + 1)
end-next image n u end at is =
    let there : untyped_at image n ≡ u = get_or_from_slice_get image.untypeds n u (record { offset = 0; bits = 0 }) at in
    let one : end_before image (n + 1) ≡ end_before image (suc n) = ap (end_before image) (add-one n) in
    is ∙ ap untyped_end (sym there) ∙ sym one

-- ---- objects

-- whether an object has room, by what is used of its untyped
pub room-is : (image : Image) (n : ℕ) (o : ObjectEntry) (used : ℕ) → slice_get image.objects n ≡ Some o → used ≡ used_by (take n image.objects) o.untyped
    → has_no_room image n ≡ is_none (placement (untyped_at image o.untyped).bits used (bits_of o) 1)
unfolding has_no_room
room-is image n o used at is =
    let there : object_at image n ≡ o = get_or_from_slice_get image.objects n o (record { untyped = 0; kind = 0; size = 0 }) at in
    ap (λ (x : ObjectEntry). is_none (placement (untyped_at image x.untyped).bits (used_by (take n image.objects) x.untyped) (bits_of x) 1)) there
    ∙ ap (λ (x : ℕ). is_none (placement (untyped_at image o.untyped).bits x (bits_of o) 1)) (sym is)
