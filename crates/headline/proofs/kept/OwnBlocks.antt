-- No two threads of an accepted image have one control block.
use Rattle.std.proofs.Common.{ℕ, zero, suc, ◌≡◌, ◌∙◌, ◌==◌, ◌+◌, ◌^◌, ◌<◌, inl, inr, Bool, true, false, List, [], ◌∷◌, length, get_or, map, take, Some, None}
use Rattle.std.proofs.Common.{pow_pos, sym, ap, subst, arith}
use Rattle.std.specs.Prelude.{Contains, slice_get}
use Rattle.std.specs.List.{enumerate_from, list_any}
use Rattle.std.proofs.lemmas.Bool.{cases_eq, cases_order, eq-eqb, or_parts}
use Rattle.headline.proofs.facts.Laws.{entry-from, with_number}
use Rattle.soundness.specs.boot_laws.Standing.{StandApart}
use Rattle.format_laws.specs.Fitting.{IsFitting}
use Rattle.model.specs.Acceptance.Accepted.{IsWellFormed}
use Rattle.model.specs.Acceptance.ThreadInvariants.{tcb_of}
use Rattle.model.specs.Acceptance.ThreadRules.{is_in_use}
use Rattle.model.specs.Images.Described.{Numbered, numbered_threads}
use Rattle.model.specs.Images.Image.{Image, Thread}
use Rattle.model.specs.Images.Places.{bits_of, object_at, offset_of}
use Rattle.headline.proofs.kept.ThreadsGiven.{given}

-- ---- entries and their numbers

-- a thread has the number of its place
number-from : (from : ℕ) (threads : List Thread) (k : ℕ) (t : Numbered) → k < length (map with_number (enumerate_from from threads))
    → get_or (map with_number (enumerate_from from threads)) k t ≡ t → t.number ≡ from + k
number-from from [] k t inside is = absurd (omega (arith, inside))
number-from from (u ∷ us) zero t inside is = let here : from ≡ t.number = ap (λ (v : Numbered). v.number) is in omega (arith, here)
number-from from (u ∷ us) (suc k) t inside is = let later = number-from (from + 1) us k t (omega (arith, inside)) is in omega (arith, later)

pub thread-entry : (image : Image) (t : Numbered) → Contains (numbered_threads image) t → slice_get image.threads t.number ≡ Some t.thread
thread-entry image t listed =
    let number : t.number ≡ 0 + listed.0 = number-from 0 image.threads listed.0 t listed.1 listed.2 in
    ap (slice_get image.threads) (let place : t.number ≡ listed.0 = omega (arith, number) in place) ∙ entry-from 0 image.threads listed.0 t listed.1 listed.2

-- a test that all before a place fail
pub before-fails : (test : Thread → Bool) (threads : List Thread) (n k : ℕ) (t : Thread) → list_any test (take n threads) ≡ false → k < n
    → slice_get threads k ≡ Some t → test t ≡ false
before-fails test threads zero k t none less at = absurd (omega (arith, less))
before-fails test [] (suc n) k t none less at = absurd (let clash : None ≡ Some t = at in cc)
before-fails test (u ∷ us) (suc n) zero t none less at =
    let same : u ≡ t = cc in
    subst (λ (v : Thread). test v ≡ false) same (or_parts (test u) (list_any test (take n us)) none).0
before-fails test (u ∷ us) (suc n) (suc k) t none less at =
    before-fails test us n k t (or_parts (test u) (list_any test (take n us)) none).1 (omega (arith, less)) at

-- an earlier thread has another block
not-earlier : (image : Image) (t u : Numbered) → slice_get image.threads t.number ≡ Some t.thread → is_in_use image u.number u.thread ≡ false
    → t.thread.header.tcb ≡ u.thread.header.tcb → t.number < u.number → ⊥
not-earlier image t u at once same less =
    let other = before-fails (λ v. v.header.tcb == u.thread.header.tcb) image.threads u.number t.number t.thread once less at in
    let clash : false ≡ true = sym other ∙ eq-eqb t.thread.header.tcb u.thread.header.tcb same in
    cc

-- ---- objects

-- objects that lie at one offset are one object
pub one-object : (image : Image) (i j : ℕ) → StandApart image → i < image.header.objects → j < image.header.objects → offset_of image i ≡ offset_of image j →
    i ≡ j
one-object image i j apart less few same = elim (cases_eq i j) [
  | inl here ↦ here
  | inr other ↦
      let one : 0 < 2 ^ bits_of (object_at image i) = pow_pos (bits_of (object_at image i)) in
      let two : 0 < 2 ^ bits_of (object_at image j) = pow_pos (bits_of (object_at image j)) in
      elim (apart.apart i j less few other) [
        | inl before ↦ absurd (omega (arith, before, same, one))
        | inr behind ↦ absurd (omega (arith, behind, same, two))
      ]
]

-- ---- the whole

pub one-thread : (t u : Numbered) → t.number ≡ u.number → t.thread ≡ u.thread → t ≡ u
one-thread t u number thread = λ i. record { number = number i; thread = thread i }

pub own-blocks : (image : Image) (t u : Numbered) → IsFitting image → StandApart image → IsWellFormed image → Contains (numbered_threads image) t
    → Contains (numbered_threads image) u → tcb_of image t ≡ tcb_of image u → t ≡ u
own-blocks image t u fitting apart formed first second same =
    let one = thread-entry image t first in
    let two = thread-entry image u second in
    let block : t.thread.header.tcb ≡ u.thread.header.tcb =
    one-object image t.thread.header.tcb u.thread.header.tcb apart (fitting.thread t.number t.thread one).tcb (fitting.thread u.number u.thread two).tcb same in
    elim (cases_order t.number u.number) [
      | inl here ↦
          let both : Some t.thread ≡ Some u.thread = sym one ∙ ap (slice_get image.threads) here ∙ two in
          one-thread t u here (let thread : t.thread ≡ u.thread = cc in thread)
      | inr (inl below) ↦ absurd (not-earlier image t u one (given image u formed second).once block below)
      | inr (inr above) ↦ absurd (not-earlier image u t two (given image t formed first).once (sym block) above)
    ]
