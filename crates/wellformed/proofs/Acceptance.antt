-- The first breach is a breach, and bytes without one are an accepted image.
use Rattle.std.proofs.Common.{◌≡◌, ℕ, suc, List, [], ◌∷◌, ◌++◌, Option, Some, None, Ok, Err, refl, ap, ◌∙◌, arith}
use Rattle.std.specs.Prelude.{All, Contains}
use Rattle.std.specs.Option.{option_or}
use Rattle.std.proofs.lemmas.List.Elements.{All-cons, All-head, All-tail, All-nil}
use Rattle.model.specs.declared.refusals.Refusal.{Refusal}
use Rattle.model.specs.Acceptance.Accepted.{AreKept, Breach, unread, broken, IsAccepted, IsWellFormed, breach_of, first_breach, first_in, phases}
use Rattle.model.specs.Shared.Bytes.{AreBytes}
use Rattle.model.specs.Images.Format.{reading}
use Rattle.model.specs.Images.Image.{Image, whole_image}
use Rattle.model.specs.Acceptance.PointRules.{program_rules}
use Rattle.model.specs.Acceptance.Rules.{Rule, first_broken}
use Rattle.model.specs.Acceptance.ThreadRules.{thread_rules}
use Rattle.model.specs.Acceptance.WellFormed.{capability_rules, mapping_rules, object_rules}
use Rattle.image_reading.proofs.Laws.{bytes-fit, reading-spelled, spelled-reading}

-- ---- the rules of a phase

later : (rules : List Rule) (rule : Rule) (x : Rule) → Contains rules x → Contains (rule ∷ rules) x
later rules rule x found = (suc found.0, omega (arith, found.1), found.2)

first-found : (rules : List Rule) (refusal : Refusal) → first_broken rules ≡ Some refusal → Contains rules (Some refusal)
first-found [] refusal h = absurd (let clash : ◌≡◌ {A = Option Refusal} None (Some refusal) = h in cc)
first-found (None ∷ rules) refusal h = later rules None (Some refusal) (first-found rules refusal h)
first-found (Some other ∷ rules) refusal h = (0, omega arith, h)

pub none-broken : (rules : List Rule) → first_broken rules ≡ None → AreKept rules
none-broken [] h = All-nil (λ rule. rule ≡ None)
none-broken (None ∷ rules) h = All-cons (λ rule. rule ≡ None) None rules refl (none-broken rules h)
none-broken (Some refusal ∷ rules) h = absurd (let clash : ◌≡◌ {A = Option Refusal} (Some refusal) None = h in cc)

pub kept-none : (rules : List Rule) → AreKept rules → first_broken rules ≡ None
kept-none [] kept = refl
kept-none (None ∷ rules) kept = kept-none rules (All-tail (λ rule. rule ≡ None) None rules kept)
kept-none (Some refusal ∷ rules) kept =
    absurd (let clash : ◌≡◌ {A = Rule} (Some refusal) None = All-head (λ rule. rule ≡ None) (Some refusal) rules kept in cc)

-- ---- the phases

-- the phases before the one with the first breach are kept
record FirstIn (all : List (List Rule)) (refusal : Refusal) : Type 0 where
  before : List (List Rule)
  rules : List Rule
  behind : List (List Rule)
  parts : all ≡ before ++ rules ∷ behind
  kept : All AreKept before
  found : Contains rules (Some refusal)

abbrev Broken : List (List Rule) → List Rule → Option Refusal → Refusal → Type 0
Broken all rules first refusal = first_broken rules ≡ first → option_or first (first_in all) ≡ Some refusal → FirstIn (rules ∷ all) refusal

phase-found : (all : List (List Rule)) (refusal : Refusal) → first_in all ≡ Some refusal → FirstIn all refusal
unfolding first_in
phase-found [] refusal h = absurd (let clash : ◌≡◌ {A = Option Refusal} None (Some refusal) = h in cc)
phase-found (rules ∷ all) refusal h =
    elim (first_broken rules) as (λ first. Broken all rules first refusal) [
      | None ↦ λ none here.
          let rest = phase-found all refusal here in
          record {
            before = rules ∷ rest.before;
            rules = rest.rules;
            behind = rest.behind;
            parts = ap (λ (phases : List (List Rule)). rules ∷ phases) rest.parts;
            kept = All-cons AreKept rules rest.before (none-broken rules none) rest.kept;
            found = rest.found;
          }
      | Some one ↦ λ some here.
          record { before = []; rules = rules; behind = all; parts = refl; kept = All-nil AreKept; found = first-found rules refusal (some ∙ here) }
    ] refl h

none-in : (rules : List Rule) (all : List (List Rule)) → option_or (first_broken rules) (first_in all) ≡ None
    → (first_broken rules ≡ None) × (first_in all ≡ None)
none-in rules all h =
    elim (first_broken rules) as (λ first. option_or first (first_in all) ≡ None → (first ≡ None) × (first_in all ≡ None)) [
      | None ↦ λ rest. (refl, rest)
      | Some one ↦ λ some. absurd (let clash : ◌≡◌ {A = Option Refusal} (Some one) None = some in cc)
    ] h

-- ---- bytes

pub first-is_breach : (bytes : List ℕ) (refusal : Refusal) → first_breach bytes ≡ Some refusal → Breach bytes refusal
unfolding first_breach
first-is_breach bytes refusal h =
    elim (reading whole_image bytes) as (λ r. reading whole_image bytes ≡ r → breach_of r ≡ Some refusal → Breach bytes refusal) [
      | Err other ↦ λ read is. let same : other ≡ refusal = cc is in unread refusal (read ∙ ap (λ (e : Refusal). Err e) same)
      | Ok image ↦ λ read is.
          let first = phase-found (phases image) refusal is in
          broken refusal image first.before first.behind first.rules read first.parts first.kept first.found
    ] refl h

phases-kept : (image : Image) → first_in (phases image) ≡ None
    → (AreKept (object_rules image)) × (AreKept (capability_rules image)) × (AreKept (mapping_rules image)) × (AreKept (thread_rules image))
    × (AreKept (program_rules image))
unfolding first_in
phases-kept image h =
    let objects = none-in (object_rules image) (capability_rules image ∷ mapping_rules image ∷ thread_rules image ∷ program_rules image ∷ []) h in
    let capabilities = none-in (capability_rules image) (mapping_rules image ∷ thread_rules image ∷ program_rules image ∷ []) objects.1 in
    let mappings = none-in (mapping_rules image) (thread_rules image ∷ program_rules image ∷ []) capabilities.1 in
    let threads = none-in (thread_rules image) (program_rules image ∷ []) mappings.1 in
    let programs = none-in (program_rules image) [] threads.1 in
    (none-broken _ objects.0, none-broken _ capabilities.0, none-broken _ mappings.0, none-broken _ threads.0, none-broken _ programs.0)

pub no-breach_accepted : (bytes : List ℕ) → AreBytes bytes → first_breach bytes ≡ None → (image : Image) × IsAccepted bytes image
unfolding first_breach
no-breach_accepted bytes fits h =
    elim (reading whole_image bytes) as (λ r. reading whole_image bytes ≡ r → breach_of r ≡ None → (image : Image) × IsAccepted bytes image) [
      | Err other ↦ λ read is. absurd (let clash : ◌≡◌ {A = Option Refusal} (Some other) None = is in cc)
      | Ok image ↦ λ read is.
          let kept = phases-kept image is in (
            image,
            record {
              spelled = reading-spelled bytes image (bytes-fit bytes fits) read;
              formed = record { objects = kept.0; capabilities = kept.1; mappings = kept.2; threads = kept.3 };
              programs = kept.4;
            },
          )
    ] refl h

phases-none : (image : Image) → IsWellFormed image → AreKept (program_rules image) → first_in (phases image) ≡ None
unfolding first_in
phases-none image formed programs =
    rw (kept-none _ formed.objects, kept-none _ formed.capabilities, kept-none _ formed.mappings, kept-none _ formed.threads, kept-none _ programs) refl

pub accepted-no_breach : (bytes : List ℕ) (image : Image) → IsAccepted bytes image → first_breach bytes ≡ None
unfolding first_breach
accepted-no_breach bytes image accepted =
    ap breach_of (spelled-reading bytes image accepted.spelled) ∙ phases-none image accepted.formed accepted.programs
