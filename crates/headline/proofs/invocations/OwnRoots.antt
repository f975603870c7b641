-- No two threads of an accepted image have one root table.
use Rattle.std.proofs.Common.{ℕ, ◌≡◌, ◌∙◌, ◌==◌, ◌<◌, inl, inr, Bool, false, List, take, Some, sym, ap}
use Rattle.std.specs.Prelude.{Contains, slice_get}
use Rattle.std.specs.List.{list_any}
use Rattle.std.proofs.lemmas.Bool.{cases_order, eq-eqb, false≢true, or_parts}
use Rattle.soundness.proofs.Laws.{AreFormed, ThreadKept, any-taken, are-formed, stand-apart}
use Rattle.format_laws.specs.Fitting.{IsFitting, ThreadFits}
use Rattle.format_laws.proofs.Laws.{is-fitting}
use Rattle.model.specs.Acceptance.Accepted.{IsAccepted}
use Rattle.model.specs.Acceptance.ThreadInvariants.{root_table_of}
use Rattle.model.specs.Acceptance.ThreadRules.{holds_other_root, shares_vspace}
use Rattle.model.specs.Images.Described.{Numbered, numbered_threads}
use Rattle.model.specs.Images.Image.{Image, Thread}
use Rattle.headline.proofs.kept.Laws.{one-object, thread-entry}

-- an earlier thread has another root table
not-earlier : (image : Image) (t u : Numbered) → slice_get image.threads t.number ≡ Some t.thread → shares_vspace image u ≡ false
    → t.thread.header.root ≡ u.thread.header.root → t.number < u.number → ⊥
unfolding shares_vspace
not-earlier image t u at shares same less =
    let test : Thread → Bool = λ v. v.header.root == u.thread.header.root in
    let none = (or_parts (list_any test (take u.number image.threads)) (holds_other_root image u.thread) shares).0 in
    false≢true (sym none ∙ any-taken test image.threads u.number t.number t.thread less at (eq-eqb t.thread.header.root u.thread.header.root same))

pub own-roots : (bytes : List ℕ) (image : Image) → IsAccepted bytes image → (t u : Numbered) → Contains (numbered_threads image) t
    → Contains (numbered_threads image) u → root_table_of image t ≡ root_table_of image u → t ≡ u
own-roots bytes image accepted t u first second same =
    let fits = accepted.spelled.fits in
    let fitting = is-fitting image fits in
    let formed = are-formed image accepted.formed in
    let one = thread-entry image t first in
    let two = thread-entry image u second in
    let root : t.thread.header.root ≡ u.thread.header.root =
    one-object image t.thread.header.root u.thread.header.root (stand-apart image fits accepted.formed)
    (ThreadFits.root (IsFitting.thread fitting t.number t.thread one))
    (ThreadFits.root (IsFitting.thread fitting u.number u.thread two)) same in
    elim (cases_order t.number u.number) [
      | inl here ↦
          let both : Some t.thread ≡ Some u.thread = sym one ∙ ap (slice_get image.threads) here ∙ two in
          let thread : t.thread ≡ u.thread = cc in λ i. record { number = here i; thread = thread i }
      | inr (inl below) ↦ absurd (not-earlier image t u one (ThreadKept.vspace (AreFormed.thread formed u.number u.thread two)) root below)
      | inr (inr above) ↦ absurd (not-earlier image u t two (ThreadKept.vspace (AreFormed.thread formed t.number t.thread one)) (sym root) above)
    ]
