-- One object more has its place.
use Rattle.std.proofs.Common.{◌≡◌, ◌∙◌, ℕ, ◌==◌, ◌+◌, ◌^◌, ◌<◌, ◌≤◌, ◌≢◌, inl, inr, Bool, true, false, not, Some, None, List, [], ◌∷◌, ◌++◌, take, length}
use Rattle.std.proofs.Common.{replicate, set, get_or, refl, sym, ap, arith, add-one, take-suc}
use Rattle.std.specs.Prelude.{fold, if◌then◌else◌, is_none, nat_le, slice_get, slice_index}
use Rattle.std.proofs.lemmas.Bool.Decides.{eqb_tells}
use Rattle.std.proofs.lemmas.Grind.{get_or-set_at}
use Rattle.std.proofs.lemmas.List.{get_or-replicate, get_or-set_other, get_or-set_same, length-replicate, length-set}
use Rattle.std.proofs.lemmas.List.Sums.{fold-append}
use Rattle.std.proofs.lemmas.Option.{get_or_from_slice_get, slice_get_within}
use Rattle.model.specs.declared.entries.ObjectEntry.{ObjectEntry}
use Rattle.model.specs.declared.entries.UntypedEntry.{UntypedEntry}
use Rattle.model.specs.Acceptance.WellFormed.{has_no_room}
use Rattle.model.specs.Capabilities.Placement.{align, place_of_object, placement}
use Rattle.model.specs.Images.Image.{Image}
use Rattle.model.specs.Images.Places.{bits_of, object_at, offset_of, untyped_at, used_by}
use Rattle.wellformed.proofs.Stands.{room-is}
use Rattle.wellformed.specs.Used.{IsUsed}

abbrev stepped : ℕ → ℕ → ObjectEntry → ℕ
stepped untyped used o = if o.untyped == untyped then place_of_object used (bits_of o) 1 else used

pub used-none : (untyped : ℕ) → used_by [] untyped ≡ 0
unfolding used_by
used-none untyped = refl

pub used-next : (objects : List ObjectEntry) (n : ℕ) (o : ObjectEntry) (untyped : ℕ) → slice_get objects n ≡ Some o
    → used_by (take (n + 1) objects) untyped ≡ (if o.untyped == untyped then place_of_object (used_by (take n objects) untyped) (bits_of o) 1 else
    used_by (take n objects) untyped)
unfolding used_by
used-next objects n o untyped is =
    let at : get_or objects n o ≡ o = get_or_from_slice_get objects n o o is in
    let parts : take (n + 1) objects ≡ take n objects ++ (o ∷ []) =
    rw (add-one n) (take-suc objects n o (slice_get_within objects n o is) ∙ ap (λ x. take n objects ++ (x ∷ [])) at) in
    ap (fold (stepped untyped) 0) parts ∙ fold-append (stepped untyped) 0 (take n objects) (o ∷ [])

module _ (image : Image) (n : ℕ) (o : ObjectEntry) (used : List ℕ) (end : ℕ) where
  next : ℕ → Bool → ℕ
  next u b = if b then place_of_object (used_by (take n image.objects) u) (bits_of o) 1 else used_by (take n image.objects) u

  pub used-step : slice_get image.objects n ≡ Some o → length used ≡ 64 → o.untyped < 64 → end ≡ place_of_object (get_or used o.untyped 0) (bits_of o) 1
      → ((u : ℕ) → u < 64 → get_or used u 0 ≡ used_by (take n image.objects) u)
      → (u : ℕ) → u < 64 → get_or (set used o.untyped end) u 0 ≡ used_by (take (n + 1) image.objects) u
  unfolding next
  used-step at many few is so_far u lt =
      elim (eqb_tells o.untyped u) [
        | inl (test, same) ↦
            let inside : o.untyped < length used = omega (arith, many, few) in
            let here : get_or (set used o.untyped end) u 0 ≡ end =
            ap (λ (k : ℕ). get_or (set used o.untyped end) k 0) (sym same) ∙ get_or-set_same used o.untyped end 0 inside in
            let before : get_or used o.untyped 0 ≡ used_by (take n image.objects) u = so_far o.untyped few
            ∙ ap (λ (k : ℕ). used_by (take n image.objects) k) same in
            here ∙ is ∙ ap (λ (k : ℕ). place_of_object k (bits_of o) 1) before ∙ sym (used-next image.objects n o u at ∙ ap (next u) test)
        | inr (test, other) ↦
            let apart : u ≢ o.untyped = λ e. other (sym e) in
            get_or-set_other used o.untyped u end 0 apart ∙ so_far u lt ∙ sym (used-next image.objects n o u at ∙ ap (next u) test)
      ]

pub none-used : (image : Image) → IsUsed image 0 (replicate 64 0)
none-used image = record {
  size = length-replicate {A = ℕ} 64 0;
  used = λ u few. get_or-replicate {A = ℕ} 64 u 0 0 few ∙ sym (used-none u);
  low = λ u few. let zero : slice_index (replicate 64 0) u ≡ 0 = get_or-replicate {A = ℕ} 64 u 0 0 few in omega (arith, zero);
}

has-room : (bits used size : ℕ) → nat_le (place_of_object used size 1) (2 ^ bits) ≡ not (is_none (placement bits used size 1))
has-room bits used size =
    elim (nat_le (place_of_object used size 1) (2 ^ bits))
    as (λ b. b ≡ not (is_none {T = ℕ × ℕ} (if b then Some (align used (2 ^ size), place_of_object used size 1) else None))) [ true ↦ refl | false ↦ refl ]

module _ (image : Image) (n : ℕ) (o : ObjectEntry) (used : List ℕ) (there : slice_get image.objects n ≡ Some o) (few : o.untyped < 64)
    (is : IsUsed image n used) where
  before : slice_index used o.untyped ≡ used_by (take n image.objects) o.untyped
  before = is.used o.untyped few

  pub offset-is : (u : UntypedEntry) (bits first : ℕ) → slice_get image.untypeds o.untyped ≡ Some u → bits ≡ bits_of o
      → first ≡ align (slice_index used o.untyped) (2 ^ bits) → u.offset + first ≡ offset_of image n
  unfolding offset_of
  offset-is u bits first home sized at =
      let same : object_at image n ≡ o = get_or_from_slice_get image.objects n o _ there in
      let untyped : untyped_at image o.untyped ≡ u = get_or_from_slice_get image.untypeds o.untyped u _ home in
      let start : first ≡ align (used_by (take n image.objects) o.untyped) (2 ^ bits_of o) =
      at ∙ ap (λ (k : ℕ). align k (2 ^ bits)) before ∙ ap (λ (b : ℕ). align (used_by (take n image.objects) o.untyped) (2 ^ b)) sized in
      ap (λ (k : ℕ). u.offset + k) start
      ∙ ap (λ (v : UntypedEntry). v.offset + align (used_by (take n image.objects) o.untyped) (2 ^ bits_of o)) (sym untyped)
      ∙ ap (λ (x : ObjectEntry). (untyped_at image x.untyped).offset + align (used_by (take n image.objects) x.untyped) (2 ^ bits_of x)) (sym same)

  pub fits-is : (u : UntypedEntry) (bits end limit : ℕ) → slice_get image.untypeds o.untyped ≡ Some u → bits ≡ bits_of o
      → end ≡ place_of_object (slice_index used o.untyped) bits 1 → limit ≡ 2 ^ u.bits → nat_le end limit ≡ not (has_no_room image n)
  fits-is u bits end limit home sized at most =
      let untyped : untyped_at image o.untyped ≡ u = get_or_from_slice_get image.untypeds o.untyped u _ home in
      let ends : end ≡ place_of_object (slice_index used o.untyped) (bits_of o) 1 =
      at ∙ ap (λ (b : ℕ). place_of_object (slice_index used o.untyped) b 1) sized in
      ap (λ (k : ℕ). nat_le k limit) ends
      ∙ ap (λ (k : ℕ). nat_le (place_of_object (slice_index used o.untyped) (bits_of o) 1) k) (most ∙ ap (λ (v : UntypedEntry). 2 ^ v.bits) (sym untyped))
      ∙ has-room (untyped_at image o.untyped).bits (slice_index used o.untyped) (bits_of o)
      ∙ ap not (sym (room-is image n o (slice_index used o.untyped) there before))

  pub used-after : (bits end : ℕ) → bits ≡ bits_of o → end ≡ place_of_object (slice_index used o.untyped) bits 1
      → end ≤ slice_index used o.untyped + 2 ^ 32 → IsUsed image (n + 1) (set used o.untyped end)
  used-after bits end sized at near = record {
    size = length-set used o.untyped end ∙ is.size;
    used = used-step image n o used end there is.size few (at ∙ ap (λ (b : ℕ). place_of_object (slice_index used o.untyped) b 1) sized) is.used;
    low = λ u less. elim (eqb_tells o.untyped u) [
      | inl here ↦
          let now : slice_index (set used o.untyped end) u ≡ end =
          get_or-set_at used o.untyped u end 0 (sym here.1) (let many = is.size in omega (arith, few, many)) in
          let was = is.low o.untyped few in
          omega (arith, now, was, near)
      | inr other ↦
          let now : slice_index (set used o.untyped end) u ≡ slice_index used u =
          get_or-set_other used o.untyped u end 0 (λ same. other.1 (sym same)) in
          let was = is.low u less in
          omega (arith, now, was)
    ];
  }
