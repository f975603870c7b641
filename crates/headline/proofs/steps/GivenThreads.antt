-- What is known of a thread of an accepted image, whatever its state is.
use Rattle.std.proofs.Common.{ℕ, ◌≡◌, ◌+◌, ◌*◌, ◌%◌, ◌^◌, ◌<◌, ◌≤◌, inl, inr, true, List, Some, pow_pos, ap, arith}
use Rattle.std.specs.Prelude.{Contains, slice_get}
use Rattle.std.specs.List.{list_all}
use Rattle.std.proofs.lemmas.Bool.{cases_eq, eqb-true, ltb-false}
use Rattle.headline.proofs.facts.Laws.{root-original, thread-entry}
use Rattle.format_laws.specs.Fitting.{IsFitting}
use Rattle.format_laws.proofs.Laws.{is-fitting}
use Rattle.soundness.specs.boot_laws.Standing.{StandApart}
use Rattle.soundness.proofs.Laws.{AreFormed, are-formed, stand-apart}
use Rattle.headline.specs.measure_facts.Terms.{NamesRegisters}
use Rattle.model.specs.Acceptance.Accepted.{IsAccepted}
use Rattle.model.specs.Acceptance.NotedStates.{PointState}
use Rattle.model.specs.Acceptance.PointStates.{Known, noted}
use Rattle.model.specs.Acceptance.ThreadInvariants.{root_table_of}
use Rattle.model.specs.Acceptance.ThreadRules.{is_code, program_end}
use Rattle.model.specs.Capabilities.CapabilityKinds.{root_of}
use Rattle.model.specs.Images.Described.{Numbered, numbered_threads, original}
use Rattle.model.specs.Images.Fills.{program_pages}
use Rattle.model.specs.Images.Image.{Image}
use Rattle.model.specs.Images.Places.{bits_of, object_at}
use Rattle.model.specs.Kernel.AddressSpaces.{address_limit, page_size}
use Rattle.headline.specs.steps.Formed.{HasForm}
use Rattle.headline.specs.steps.Frames.{FramesAreKept}
use Rattle.headline.specs.steps.Points.{IsPoint}
use Rattle.headline.proofs.steps.KeptRules.{point-kept}
use Rattle.headline.proofs.steps.PointForms.{known-form}

pub record IsGiven (image : Image) (t : Numbered) : Type 0 where
  pub fitting : IsFitting image
  pub frames : FramesAreKept image
  pub pages : list_all (is_code image t.thread) (program_pages t.thread) ≡ true
  pub base : t.thread.header.base % page_size ≡ 0
  pub ends : t.thread.header.base + 4 * t.thread.header.words ≤ 2 ^ 31
  pub root : root_of (original image t.thread.header.root) ≡ Some (root_table_of image t)
  pub points : (point : ℕ) (state : PointState) → point < t.thread.header.words → noted image t point ≡ Known state → IsPoint image t point state
  pub forms : (point : ℕ) (state : PointState) → noted image t point ≡ Known state → HasForm state
  pub names : (point : ℕ) (state : PointState) → noted image t point ≡ Known state → NamesRegisters state.measure

-- ---- frames

frames-kept : (image : Image) → IsFitting image → AreFormed image → StandApart image → FramesAreKept image
frames-kept image fitting formed apart = record {
  each = λ item f at.
      let fits = fitting.frame item f at in
      let kept = formed.frame item f at in
      record { rights = kept.rights; fits = fits.rights; code = kept.code; object = fits.frame; frame = kept.frame };
  apart = λ i j less few first second same. elim (cases_eq i j) [
    | inl here ↦ here
    | inr other ↦
        let one : 0 < 2 ^ bits_of (object_at image i) = pow_pos (bits_of (object_at image i)) in
        let two : 0 < 2 ^ bits_of (object_at image j) = pow_pos (bits_of (object_at image j)) in
        elim (apart.apart i j less few other) [
          | inl before ↦ absurd (omega (arith, before, same, one))
          | inr behind ↦ absurd (omega (arith, behind, same, two))
        ]
  ];
}

-- ---- the whole

pub given : (bytes : List ℕ) (image : Image) (t : Numbered) →
    ((k : ℕ) (point : ℕ) (state : PointState) → slice_get image.threads k ≡ Some t.thread → noted image t point ≡ Known state → NamesRegisters state.measure)
    → IsAccepted bytes image → Contains (numbered_threads image) t → IsGiven image t
given bytes image t names accepted listed =
    let fits = accepted.spelled.fits in
    let fitting = is-fitting image fits in
    let formed = are-formed image accepted.formed in
    let at = thread-entry image t listed in
    let kept = formed.thread listed.0 t.thread at in
    let base : t.thread.header.base % page_size ≡ 0 = eqb-true (t.thread.header.base % page_size) 0 kept.base in
    let base_four : t.thread.header.base % 4 ≡ 0 = omega (arith, base) in
    record {
      fitting = fitting;
      frames = frames-kept image fitting formed (stand-apart image fits accepted.formed);
      pages = kept.code;
      base = base;
      ends = ltb-false address_limit (program_end t.thread) kept.end;
      root = ap root_of (root-original image t.thread.header.root kept.root);
      points = λ point state inside known. point-kept image t point state accepted.programs listed base_four inside known;
      forms = known-form image t fits fitting listed.0 at;
      names = λ point state known. names listed.0 point state at known;
    }
