-- What a thread of a well-formed image reaches are CNodes of the image.
use Rattle.std.proofs.Common.{ℕ, zero, suc, ◌≡◌, ◌∙◌, ◌<◌, ◌≤◌, ◌||◌, inl, inr, Bool, true, false, Option, Some, None, List, [], ◌∷◌, length, get_or, refl, sym}
use Rattle.std.proofs.Common.{ap, arith}
use Rattle.std.specs.Prelude.{is_some, nat_eq, slice_get}
use Rattle.std.specs.Option.{option_map_or}
use Rattle.std.proofs.lemmas.Bool.{cases_lt, eq-eqb, leb-true}
use Rattle.std.proofs.lemmas.Option.{none-some, same_Some}
use Rattle.format_laws.specs.Fitting.{IsFitting}
use Rattle.format_laws.proofs.Laws.{is-fitting}
use Rattle.soundness.proofs.Laws.{AreFormed, are-formed, has-type}
use Rattle.model.specs.Acceptance.Accepted.{IsWellFormed}
use Rattle.model.specs.Acceptance.ThreadRules.{is_member, reached}
use Rattle.model.specs.Acceptance.WellFormed.{radix_of}
use Rattle.model.specs.Capabilities.CapabilityKinds.{is_guard_word}
use Rattle.model.specs.Images.Image.{Image, Thread, whole_image}
use Rattle.model.specs.Images.Places.{type_at}
use Rattle.model.specs.Kernel.Retype.{NewObject, NewUntyped, NewThread, NewEndpoint, NewNotification, NewCNode, NewFrame, NewPageTable, NewRootTable}
use Rattle.model.specs.Kernel.Retype.{is_large_enough, is_small_enough, type_of}
use Rattle.model.specs.declared.entries.ObjectEntry.{ObjectEntry}
use Rattle.thread_spaces.specs.Given.{IsCNode, IsListed}
use Rattle.thread_spaces.proofs.Rounds.{IsRadixed, reached-radixed}

-- ---- what has a type is listed

beyond : (objects : List ObjectEntry) (number : ℕ) (none : ObjectEntry) → length objects ≤ number → get_or objects number none ≡ none
beyond [] number none most = refl
beyond (o ∷ rest) zero none most = absurd (omega (arith, most))
beyond (o ∷ rest) (suc number) none most = beyond rest number none (omega (arith, most))

pub radixed-inside : (image : Image) (number : ℕ) → IsFitting image → IsRadixed image number → number < image.header.objects
radixed-inside image number fitting is = elim (cases_lt number image.header.objects) [
  | inl less ↦ less
  | inr most ↦
      let nothing = beyond image.objects number (record { untyped = 0; kind = 0; size = 0 }) (omega (arith, most, fitting.objects)) in
      let clash : true ≡ false = sym is ∙ ap (λ (o : ObjectEntry). is_some (radix_of (type_of o.kind o.size))) nothing in
      absurd (let no : true ≡ false = clash in cc)
]

-- ---- CNodes

record HasRadix (kind : Option NewObject) : Type 0 where
  pub radix : ℕ
  pub is : radix_of kind ≡ Some radix
  pub large : 1 ≤ radix
  pub small : radix ≤ 14

some-radix : (kind : NewObject) → is_some (radix_of (Some kind)) ≡ true → is_large_enough kind ≡ true → is_small_enough kind ≡ true → HasRadix (Some kind)
some-radix (NewUntyped bits) is large small = absurd (let no : false ≡ true = is in cc)
some-radix NewThread is large small = absurd (let no : false ≡ true = is in cc)
some-radix NewEndpoint is large small = absurd (let no : false ≡ true = is in cc)
some-radix NewNotification is large small = absurd (let no : false ≡ true = is in cc)
some-radix (NewCNode radix) is large small = record { radix = radix; is = refl; large = leb-true 1 radix large; small = leb-true radix 14 small }
some-radix NewFrame is large small = absurd (let no : false ≡ true = is in cc)
some-radix NewPageTable is large small = absurd (let no : false ≡ true = is in cc)
some-radix NewRootTable is large small = absurd (let no : false ≡ true = is in cc)

pub radixed-cnode : (image : Image) (number : ℕ) → IsFitting image → IsRadixed image number → IsCNode image number
radixed-cnode image number fitting is =
    let inside = radixed-inside image number fitting is in
    let typed = has-type image number fitting inside in
    let kind : is_some (radix_of (Some typed.kind)) ≡ true = sym (ap (λ (t : Option NewObject). is_some (radix_of t)) typed.is) ∙ is in
    let found = some-radix typed.kind kind typed.large typed.small in
    record {
      inside = inside;
      radix = found.radix;
      is = ap radix_of typed.is ∙ found.is;
      large = found.large;
      small = found.small;
    }

-- ---- a thread's

guarded-radixed : (kind : Option NewObject) (guard : ℕ) → option_map_or (λ radix. is_guard_word radix guard) (radix_of kind) false ≡ true →
    is_some (radix_of kind) ≡ true
guarded-radixed kind guard is = elim (radix_of kind) as (λ r. option_map_or (λ radix. is_guard_word radix guard) r false ≡ true → is_some r ≡ true) [
  | None ↦ λ clash. clash
  | Some radix ↦ λ _. refl
] is

pub root-radixed : (image : Image) (t : Thread) → AreFormed image → IsListed image t → IsRadixed image t.header.cnode
root-radixed image t formed listed =
    let kept = formed.thread listed.number t listed.listed in
    guarded-radixed (type_at image t.header.cnode) t.header.guard kept.guard

pub reached-cnode : (image : Image) (t : Thread) → IsFitting image → AreFormed image → IsListed image t → (number : ℕ) →
    is_member number (reached image t) ≡ true → IsCNode image number
reached-cnode image t fitting formed listed number there = radixed-cnode image number fitting
    (reached-radixed image t (root-radixed image t formed listed) number there)

member-at : (numbers : List ℕ) (place number : ℕ) → slice_get numbers place ≡ Some number → is_member number numbers ≡ true
member-at [] place number at = absurd (none-some number at)
member-at (x ∷ rest) zero number at = ap (λ b. b || is_member number rest) (eq-eqb number x (sym (same_Some x number at)))
member-at (x ∷ rest) (suc place) number at = or-second (nat_eq number x) (is_member number rest) (member-at rest place number at)
  where
    or-second : (a b : Bool) → b ≡ true → (a || b) ≡ true
    or-second true b is = refl
    or-second false b is = is

pub cnode-at : (image : Image) (t : Thread) (place number : ℕ) (cnodes : List ℕ) → whole_image.fits image ≡ true → IsWellFormed image → IsListed image t →
    cnodes ≡ reached image t
    → slice_get cnodes place ≡ Some number → IsCNode image number
cnode-at image t place number cnodes fits formed listed same at =
    reached-cnode image t (is-fitting image fits) (are-formed image formed) listed number
    (member-at (reached image t) place number (ap (λ (xs : List ℕ). slice_get xs place) (sym same) ∙ at))
