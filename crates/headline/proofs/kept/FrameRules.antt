-- What the rules on a well-formed image say of each of its untypeds and mapped frames.
use Rattle.std.proofs.Common.{ℕ, zero, suc, ◌≡◌, ◌+◌, ◌%◌, ◌^◌, false, List, [], ◌∷◌, ◌++◌, map, Some, None, subst, arith}
use Rattle.std.specs.Prelude.{flat_map, slice_get}
use Rattle.std.specs.List.{enumerate_from, range_with_len}
use Rattle.std.proofs.lemmas.Bool.{eqb-true, not-false, or_parts}
use Rattle.soundness.specs.boot_laws.Standing.{StandApart}
use Rattle.soundness.proofs.Laws.{kept-before, kept-behind, not-refused}
use Rattle.format_laws.specs.Fitting.{IsFitting}
use Rattle.model.specs.declared.entries.FrameEntry.{FrameEntry}
use Rattle.model.specs.declared.entries.UntypedEntry.{UntypedEntry}
use Rattle.model.specs.declared.refusals.Refusal.TheVariants.{BadMapping, BadObject, NoRoom, UntypedOverlap}
use Rattle.model.specs.Acceptance.Accepted.{AreKept, IsWellFormed}
use Rattle.model.specs.Acceptance.Rules.{Rule, refuse_if}
use Rattle.model.specs.Acceptance.WellFormed.{content_rule, frame_rules, has_no_room, has_writable_code, mapping_rules, misplaces_frame, misplaces_table}
use Rattle.model.specs.Acceptance.WellFormed.{promise_rule}
use Rattle.model.specs.Acceptance.WellFormed.{object_rules, overlaps, too_few_boot_slots}
use Rattle.model.specs.Images.Described.{numbered}
use Rattle.model.specs.Images.Image.{Image}
use Rattle.headline.proofs.kept.OwnBlocks.{one-object}
use Rattle.headline.specs.steps.Frames.{FrameIsKept, FramesAreKept}

-- ---- parts of a list of rules

-- the rules of the entry at a place, which has the place's number
rules-of : {A : Type 0} (f : ℕ × A → List Rule) (from : ℕ) (xs : List A) → AreKept (flat_map f (enumerate_from from xs)) → (k : ℕ) (x : A) →
    slice_get xs k ≡ Some x
    → AreKept (f (from + k, x))
rules-of f from [] kept k x at = absurd (let clash : None ≡ Some x = at in cc)
rules-of f from (y ∷ ys) kept zero x at =
    let same : y ≡ x = cc in
    let first : from ≡ from + 0 = omega arith in
    subst (λ n. AreKept (f (n, x))) first (subst (λ z. AreKept (f (from, z))) same (kept-before (f (from, y)) (flat_map f (enumerate_from (from + 1) ys)) kept))
rules-of f from (y ∷ ys) kept (suc k) x at =
    let next : from + 1 + k ≡ from + suc k = omega arith in
    subst (λ n. AreKept (f (n, x))) next (rules-of f (from + 1) ys (kept-behind (f (from, y)) (flat_map f (enumerate_from (from + 1) ys)) kept) k x at)

rule-of : {A : Type 0} (f : ℕ × A → Rule) (from : ℕ) (xs : List A) → AreKept (map f (enumerate_from from xs)) → (k : ℕ) (x : A) → slice_get xs k ≡ Some x
    → f (from + k, x) ≡ None
rule-of f from [] kept k x at = absurd (let clash : None ≡ Some x = at in cc)
rule-of f from (y ∷ ys) kept zero x at =
    let same : y ≡ x = cc in
    let first : from ≡ from + 0 = omega arith in
    subst (λ n. f (n, x) ≡ None) first (subst (λ z. f (from, z) ≡ None) same (kept 0 None (omega arith)))
rule-of f from (y ∷ ys) kept (suc k) x at =
    let next : from + 1 + k ≡ from + suc k = omega arith in
    subst (λ n. f (n, x) ≡ None) next (rule-of f (from + 1) ys (λ k d less. kept (suc k) d (omega (arith, less))) k x at)

-- ---- untypeds

by-overlap : (image : Image) (k : ℕ) (u : UntypedEntry) → overlaps image (k, u) ≡ false → u.offset % 2 ^ u.bits ≡ 0
unfolding overlaps
by-overlap image k u is =
    let behind = or_parts _ _ is in
    let boot = or_parts _ _ behind.0 in
    let memory = or_parts _ _ boot.0 in
    eqb-true (u.offset % 2 ^ u.bits) 0 (not-false _ memory.0)

pub untyped-aligned : (image : Image) (k : ℕ) (u : UntypedEntry) → IsWellFormed image → slice_get image.untypeds k ≡ Some u → u.offset % 2 ^ u.bits ≡ 0
unfolding object_rules
untyped-aligned image k u formed at =
    let untypeds = map (λ u. refuse_if (overlaps image u) (UntypedOverlap u.0)) (numbered image.untypeds) in
    let rooms = map (λ number. refuse_if (has_no_room image number) (NoRoom number)) (range_with_len 0 image.header.objects) in
    let few : List Rule = refuse_if (too_few_boot_slots image) (BadObject image.header.objects) ∷ [] in
    let kept = kept-before untypeds rooms (kept-before (untypeds ++ rooms) few formed.objects) in
    by-overlap image (0 + k) u (not-refused _ _ (rule-of (λ u. refuse_if (overlaps image u) (UntypedOverlap u.0)) 0 image.untypeds kept k u at))

-- ---- frames

by-rules : (image : Image) (item : ℕ) (f : FrameEntry) → IsFitting image → slice_get image.frames item ≡ Some f → misplaces_frame image f ≡ false
    → has_writable_code image (item, f) ≡ false → FrameIsKept image item f
unfolding misplaces_frame
by-rules image item f fitting at is code =
    let rights = or_parts _ _ is in
    let covered = or_parts _ _ rights.0 in
    let address = or_parts _ _ covered.0 in
    let objects = or_parts _ _ address.0 in
    let fits = fitting.frame item f at in
    record { rights = not-false _ rights.1; fits = fits.rights; code = code; object = fits.frame; frame = not-false _ objects.1 }

frame-kept : (image : Image) (item : ℕ) (f : FrameEntry) → IsFitting image → IsWellFormed image → slice_get image.frames item ≡ Some f →
    FrameIsKept image item f
unfolding mapping_rules
frame-kept image item f fitting formed at =
    let tables = map (λ t. refuse_if (misplaces_table image t) (BadMapping t.0)) (numbered image.tables) in
    let frames = flat_map (frame_rules image) (numbered image.frames) in
    let contents = map (content_rule image) (numbered image.contents) in
    let start : 0 + item ≡ item = omega arith in
    let promises = map (promise_rule image) (numbered image.promises) in
    let mappings = kept-before (tables ++ frames ++ contents) promises formed.mappings in
    let all = kept-behind tables frames (kept-before (tables ++ frames) contents mappings) in
    let kept = subst (λ n. AreKept (frame_rules image (n, f))) start (rules-of (frame_rules image) 0 image.frames all item f at) in
    by-rules image item f fitting at (not-refused _ _ (kept 0 None (omega arith))) (not-refused _ _ (kept 1 None (omega arith)))

pub frames-kept : (image : Image) → IsFitting image → StandApart image → IsWellFormed image → FramesAreKept image
frames-kept image fitting apart formed = record {
  each = λ item f at. frame-kept image item f fitting formed at;
  apart = λ i j less few first second same. one-object image i j apart less few same;
}
