-- The root of a thread's capability space is the first CNode that it reaches.
use Rattle.std.proofs.Common.{ℕ, zero, suc, ◌≡◌, ◌∙◌, ◌==◌, ◌&&◌, ◌||◌, Bool, true, false, not, if◌then◌else◌, Option, Some, List, [], ◌∷◌, ◌++◌, refl, sym, ap}
use Rattle.std.specs.Prelude.{fold, nat_eq}
use Rattle.std.specs.Option.{option_map_or}
use Rattle.std.specs.List.{list_any}
use Rattle.std.proofs.lemmas.Bool.{eq-eqb, eqb-true}
use Rattle.model.specs.declared.capabilities.Cap.{Cap}
use Rattle.model.specs.declared.capabilities.Cap.TheVariants.{CNode}
use Rattle.model.specs.declared.entries.CapabilityEntry.{CapabilityEntry}
use Rattle.model.specs.Acceptance.NotedKernel.{noted_root}
use Rattle.model.specs.Acceptance.NotedStates.{is_own_cnode}
use Rattle.model.specs.Acceptance.ThreadRules.{is_cnode_source, is_member, reached, reached_within, with_named}
use Rattle.model.specs.Acceptance.WellFormed.{is_table_type, radix_of}
use Rattle.model.specs.Capabilities.CapabilityKinds.{with_payload}
use Rattle.model.specs.Images.Image.{Image, Thread}
use Rattle.model.specs.Images.Places.{offset_of, type_at}
use Rattle.model.specs.Kernel.Retype.{NewObject}
use Rattle.typestate.specs.Spaces.{is_among, is_inside}
use Rattle.thread_spaces.proofs.ListedCapabilities.{original-plain}
use Rattle.soundness.proofs.Laws.{cnode-type, first_of_type}

-- ---- what is found stays

module _ (image : Image) (number : ℕ) where
  stays-behind : (found : List ℕ) (more : ℕ) → is_member number found ≡ true → is_member number (found ++ more ∷ []) ≡ true
  stays-behind [] more there = absurd (let clash : false ≡ true = there in cc)
  stays-behind (x ∷ rest) more there = elim (nat_eq number x)
      as (λ b. (b || is_member number rest) ≡ true → (b || is_member number (rest ++ more ∷ [])) ≡ true) [
        | true ↦ λ _. refl
        | false ↦ λ later. stays-behind rest more later
      ] there

  stays-one : (found : List ℕ) (c : CapabilityEntry) → is_member number found ≡ true → is_member number (with_named image found c) ≡ true
  stays-one found c there = elim (is_member c.cnode found && is_cnode_source image c.source && not (is_member c.source found))
      as (λ b. is_member number (if b then found ++ c.source ∷ [] else found) ≡ true) [
        | true ↦ stays-behind found c.source there
        | false ↦ there
      ]

  stays-all : (capabilities : List CapabilityEntry) (found : List ℕ) → is_member number found ≡ true →
      is_member number (fold (with_named image) found capabilities) ≡ true
  stays-all [] found there = there
  stays-all (c ∷ rest) found there = stays-all rest (with_named image found c) (stays-one found c there)

  stays-within : (rounds : ℕ) (found : List ℕ) → is_member number found ≡ true → is_member number (reached_within rounds image found) ≡ true
  unfolding reached_within
  stays-within zero found there = there
  stays-within (suc rounds) found there = stays-within rounds (fold (with_named image) found image.capabilities) (stays-all image.capabilities found there)

pub root-reached : (image : Image) (t : Thread) → is_member t.header.cnode (reached image t) ≡ true
unfolding reached
root-reached image t =
    stays-within image t.header.cnode _ (t.header.cnode ∷ []) (ap (λ b. b || false) (eq-eqb t.header.cnode t.header.cnode refl))

pub member-any : (test : ℕ → Bool) (numbers : List ℕ) (number : ℕ) → is_member number numbers ≡ true → test number ≡ true → list_any test numbers ≡ true
member-any test [] number there is = absurd (let clash : false ≡ true = there in cc)
member-any test (x ∷ rest) number there is = elim (nat_eq number x)
    as (λ b. nat_eq number x ≡ b → (b || is_member number rest) ≡ true → (test x || list_any test rest) ≡ true) [
      | true ↦ λ same _. ap (λ b. b || list_any test rest) (ap test (sym (eqb-true number x same)) ∙ is)
      | false ↦ λ _ later. or-second (test x) (list_any test rest) (member-any test rest number later is)
    ] refl there
  where
    or-second : (a b : Bool) → b ≡ true → (a || b) ≡ true
    or-second true b is = refl
    or-second false b is = is

-- ---- the root

pub root-is : (image : Image) (t : Thread) (radix offset : ℕ) → radix_of (type_at image t.header.cnode) ≡ Some radix → offset ≡ offset_of image t.header.cnode
    → CNode offset radix t.header.guard ≡ noted_root image t
root-is image t radix offset is place =
    let kind = cnode-type (type_at image t.header.cnode) radix is in
    ap (λ (n : ℕ). CNode n radix t.header.guard) place
    ∙ sym (ap (λ (c : Cap). with_payload c t.header.guard) (original-plain image t.header.cnode (ap is_table_type kind)
    ∙ ap (λ (k : Option NewObject). first_of_type k (offset_of image t.header.cnode)) kind))

pub root-inside : (image : Image) (t : Thread) (radix : ℕ) → radix_of (type_at image t.header.cnode) ≡ Some radix →
    is_inside image t (noted_root image t) ≡ true
root-inside image t radix is =
    let own : is_own_cnode image (reached image t) (offset_of image t.header.cnode) radix ≡ true =
    member-any (λ c. (offset_of image c == offset_of image t.header.cnode) && option_map_or (λ own. own == radix) (radix_of (type_at image c)) false)
    (reached image t) t.header.cnode (root-reached image t)
    (ap (λ b. b && option_map_or (λ own. own == radix) (radix_of (type_at image t.header.cnode)) false)
    (eq-eqb (offset_of image t.header.cnode) (offset_of image t.header.cnode) refl)
    ∙ ap (λ (r : Option ℕ). option_map_or (λ own. own == radix) r false) is ∙ eq-eqb radix radix refl) in
    ap (is_among (is_own_cnode image (reached image t))) (sym (root-is image t radix (offset_of image t.header.cnode) is refl)) ∙ own
