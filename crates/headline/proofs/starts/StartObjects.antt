-- A thread object is as the image lists it, and its registers lie in the ranges that the certificate notes of the entry.
use Rattle.std.proofs.Common.{ℕ, zero, suc, ◌≡◌, ◌≢◌, ◌∙◌, ◌==◌, ◌+◌, ◌-◌, ◌*◌, ◌^◌, ◌<◌, ◌≤◌, true, if◌then◌else◌, get_or, Option, Some, None, refl, sym, ap}
use Rattle.std.proofs.Common.{subst, arith}
use Rattle.std.specs.Prelude.{option_and_then, nat_le}
use Rattle.std.specs.Option.{option_map_or}
use Rattle.std.proofs.lemmas.Bool.{and_parts, eq-eqb, leb-true, ne_eqb}
use Rattle.format_laws.specs.Fitting.{IsFitting, ThreadFits}
use Rattle.format_laws.proofs.Laws.{is-fitting}
use Rattle.soundness.proofs.Laws.{AreFormed, ThreadKept, are-formed, first-at, offsets-apart}
use Rattle.model.specs.declared.ranges.Range.{Range}
use Rattle.model.specs.Acceptance.Accepted.{IsWellFormed}
use Rattle.model.specs.Acceptance.NotedStates.{PointState}
use Rattle.model.specs.Acceptance.PointRules.{lies_in, starts_within}
use Rattle.model.specs.Acceptance.PointStates.{address_of}
use Rattle.model.specs.Acceptance.Ranges.{full}
use Rattle.model.specs.Acceptance.ThreadInvariants.{LieWithin}
use Rattle.model.specs.Images.Described.{described, described_object, listed_registers, listed_thread, object_there, start_of, start_registers}
use Rattle.model.specs.Images.Image.{Image, Thread, whole_image}
use Rattle.model.specs.Images.Places.{offset_of, type_at}
use Rattle.model.specs.Kernel.Retype.{object}
use Rattle.model.specs.Kernel.State.{ThreadObject}
use Rattle.ranges.proofs.Laws.{kept_register, zero_kept}
use Rattle.thread_spaces.specs.Given.{IsListed}
use Rattle.thread_spaces.proofs.Laws.{find-at}
use Rattle.headline.proofs.starts.ListFacts.{all-range}

pub object-started : (image : Image) (t : Thread) → whole_image.fits image ≡ true → IsWellFormed image → IsListed image t
    → (described image).objects (offset_of image t.header.tcb) ≡ Some (ThreadObject (listed_thread t))
unfolding described
object-started image t fits well listed =
    let fitting = is-fitting image fits in
    let formed = are-formed image well in
    let tcb = t.header.tcb in
    let offset = offset_of image tcb in
    let inside : tcb < image.header.objects = ThreadFits.tcb (IsFitting.thread fitting listed.number t listed.listed) in
    let kept = AreFormed.thread formed listed.number t listed.listed in
    first-at (object_there image offset) 0 image.header.objects tcb (omega arith) (omega (arith, inside))
    (λ k low high other. elsewhere offset k (λ same. other (offsets-apart image k tcb fitting formed (omega (arith, high)) inside same)))
    ∙ ap (λ b. if b then described_object image tcb else None) (eq-eqb offset offset refl)
    ∙ ap (λ (found : Option Thread). option_map_or (λ u. Some (ThreadObject (listed_thread u))) found (option_and_then object (type_at image tcb)))
    (find-at (λ (u : Thread). u.header.tcb == tcb) image.threads listed.number t listed.listed (ThreadKept.once kept) (eq-eqb tcb tcb refl))
  where
    elsewhere : (offset k : ℕ) → offset_of image k ≢ offset → object_there image offset k ≡ None
    elsewhere offset k other = ap (λ b. if b then described_object image k else None) (ne_eqb (offset_of image k) offset other)

-- ---- where it begins

pub pc-started : (t : Thread) → t.header.base + 4 * t.header.words ≤ 2 ^ 31 → t.header.entry < t.header.words → start_of t ≡ address_of t t.header.entry
pc-started t ends inside = omega (arith, ends, inside)

-- ---- registers

lies : (n : ℕ) (r : Range) → lies_in n r ≡ true → (r.low ≤ n) × (n ≤ r.high)
lies n r is = let parts = and_parts (nat_le r.low n) (nat_le n r.high) is in (leb-true r.low n parts.0, leb-true n r.high parts.1)

pub registers-started : (t : Thread) (state : PointState) → starts_within t state ≡ true → LieWithin (start_registers t) state.ranges
registers-started t state within zero less = zero_kept (start_registers t) state.ranges 0 refl
registers-started t state within (suc k) less =
    let test = all-range (λ (j : ℕ). lies_in (get_or (listed_registers t) (j + 1) 0) (get_or state.ranges j full)) 0 31 k within (omega (arith, less)) in
    let here : 0 + k ≡ k = omega arith in
    let next : k + 1 ≡ suc k = omega arith in
    let back : suc k - 1 ≡ k = omega arith in
    let inside = lies (get_or (listed_registers t) (0 + k + 1) 0) (get_or state.ranges (0 + k) full) test in
    let low : (get_or state.ranges (suc k - 1) full).low ≤ get_or (listed_registers t) (suc k) 0 =
    subst (λ (j : ℕ). (get_or state.ranges j full).low ≤ get_or (listed_registers t) (suc k) 0) (here ∙ sym back)
    (subst (λ (j : ℕ). (get_or state.ranges (0 + k) full).low ≤ get_or (listed_registers t) j 0) (ap (λ (j : ℕ). j + 1) here ∙ next) inside.0) in
    let high : get_or (listed_registers t) (suc k) 0 ≤ (get_or state.ranges (suc k - 1) full).high =
    subst (λ (j : ℕ). get_or (listed_registers t) (suc k) 0 ≤ (get_or state.ranges j full).high) (here ∙ sym back)
    (subst (λ (j : ℕ). get_or (listed_registers t) j 0 ≤ (get_or state.ranges (0 + k) full).high) (ap (λ (j : ℕ). j + 1) here ∙ next) inside.1) in
    kept_register (start_registers t) state.ranges (suc k) (λ none. omega (arith, none)) (low, high)
