-- The slots of a control block are in no thread's CNodes.
use Rattle.std.proofs.Common.{ℕ, ◌≡◌, ◌∙◌, true, sym}
use Rattle.std.specs.Prelude.{Contains}
use Rattle.std.proofs.lemmas.Option.{none-some}
use Rattle.format_laws.proofs.Laws.{is-fitting}
use Rattle.soundness.proofs.Laws.{are-formed}
use Rattle.model.specs.Acceptance.Accepted.{IsWellFormed}
use Rattle.model.specs.Acceptance.ThreadRules.{reached}
use Rattle.model.specs.Acceptance.WellFormed.{is_thread_type}
use Rattle.model.specs.Images.Described.{Numbered, is_object_slot, numbered_threads}
use Rattle.model.specs.Images.Image.{Image, whole_image}
use Rattle.model.specs.Images.Places.{type_at}
use Rattle.thread_spaces.proofs.Laws.{block-not-own}
use Rattle.headline.specs.facts.Standing.{IsApart}
use Rattle.headline.proofs.facts.Laws.{is-listed}
use Rattle.headline.proofs.kept.OwnBlocks.{thread-entry}
use Rattle.headline.proofs.lookups.Laws.{key-found}

module _ (image : Image) (fits : whole_image.fits image ≡ true) (well : IsWellFormed image) (u : Numbered) (among : Contains (numbered_threads image) u) where
  pub block-thread : is_thread_type (type_at image u.thread.header.tcb) ≡ true
  block-thread = ((are-formed image well).thread u.number u.thread (thread-entry image u among)).tcb

  pub block-apart : (slot : ℕ) → is_object_slot image slot u.thread.header.tcb ≡ true → IsApart image slot
  block-apart slot there t listed own =
      let fitting = is-fitting image fits in
      let less = (fitting.thread u.number u.thread (thread-entry image u among)).tcb in
      let of = key-found image (reached image t.thread) slot own in
      none-some of.key (sym (block-not-own image t.thread fitting (are-formed image well) (is-listed image t listed) u.thread.header.tcb slot less block-thread
      there) ∙ of.at)
