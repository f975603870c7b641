-- The boot CNode names each CNode of a thread, and each frame of code, which lies at a multiple of a page.
use Rattle.std.proofs.Common.{ℕ, ◌≡◌, ◌∙◌, ◌==◌, ◌%◌, ◌<◌, ◌&&◌, Bool, true, false, nat_eq, Option, Some, None, find, take, refl, sym, ap, subst}
use Rattle.std.specs.Prelude.{option_and_then, slice_get}
use Rattle.std.specs.Option.{option_map_or}
use Rattle.std.proofs.lemmas.Bool.{and_parts, eq-eqb, eqb-true}
use Rattle.std.proofs.lemmas.List.Folds.{Any-from_list_any, list_any_at}
use Rattle.std.proofs.lemmas.Option.{slice_get-get_or}
use Rattle.soundness.specs.boot_laws.Loading.{all_loaded}
use Rattle.soundness.proofs.Laws.{AreFormed, FrameKept, ReadsObjects, are-formed, cnode-type, counts-are, frame-type, loaded-end, reads-objects, stand-apart}
use Rattle.format_laws.specs.Fitting.{FrameFits, IsFitting}
use Rattle.format_laws.proofs.Laws.{is-fitting}
use Rattle.headline.proofs.kept.Laws.{frame-aligned}
use Rattle.model.specs.Acceptance.Accepted.{IsWellFormed}
use Rattle.model.specs.Acceptance.NotedStates.{is_own_cnode}
use Rattle.model.specs.Acceptance.ThreadInvariants.{IsCode}
use Rattle.model.specs.Acceptance.ThreadRules.{is_member, reached}
use Rattle.model.specs.Acceptance.WellFormed.{is_frame_type, is_untyped_type, radix_of}
use Rattle.model.specs.Capabilities.CapabilityKinds.{names_object}
use Rattle.model.specs.Images.Described.{described, listed_thread}
use Rattle.model.specs.Images.Image.{Image, Thread, whole_image}
use Rattle.model.specs.Images.Places.{offset_of, type_at}
use Rattle.model.specs.Kernel.Retype.{NewObject, NewCNode, NewFrame, object}
use Rattle.model.specs.Kernel.State.{State, Object, ThreadObject, CNodeObject, FrameObject}
use Rattle.thread_spaces.specs.Given.{IsListed}
use Rattle.thread_spaces.proofs.Laws.{all-within, object-held, own-cnode}
use Rattle.typestate.specs.Spaces.{HeldInBoot}

-- ---- types

module _ (image : Image) (fits : whole_image.fits image ≡ true) (well : IsWellFormed image) where
  -- ---- an object that is no untyped memory

  pub typed-held : (number : ℕ) (kind : NewObject) (o : Object) → number < image.header.objects → type_at image number ≡ Some kind
      → is_untyped_type (Some kind) ≡ false
      → object kind ≡ Some o → HeldInBoot image (names_object (offset_of image number))
  typed-held number kind o less typed plain made =
      let fitting = is-fitting image fits in
      by-thread (find (λ t. t.header.tcb == number) (take (all_loaded image).threads image.threads))
      (sym (ap (λ (s : State). s.objects (offset_of image number)) (loaded-end image (counts-are image fitting)))
      ∙ ReadsObjects.there (reads-objects image fitting (are-formed image well) (all_loaded image) (all-within image)) number less
      (ap is_untyped_type typed ∙ plain))
    where
      by-thread : (f : Option Thread) → (described image).objects (offset_of image number)
          ≡ option_map_or (λ t. Some (ThreadObject (listed_thread t))) f (option_and_then object (type_at image number))
          → HeldInBoot image (names_object (offset_of image number))
      by-thread None is = object-held image fits well (offset_of image number) o (is ∙ ap (option_and_then object) typed ∙ made)
      by-thread (Some t) is = object-held image fits well (offset_of image number) (ThreadObject (listed_thread t)) is

  -- ---- frames of code

  module _ (frame : ℕ) (code : IsCode image frame) where
    abbrev number : ℕ
    number = code.entry.frame

    listed-at : slice_get image.frames code.listed.0 ≡ Some code.entry
    listed-at = slice_get-get_or image.frames code.listed.0 code.entry code.listed.1 ∙ ap Some code.listed.2

    is-frame : is_frame_type (type_at image number) ≡ true
    is-frame = FrameKept.frame (AreFormed.frame (are-formed image well) code.listed.0 code.entry listed-at)

    is-there : number < image.header.objects
    is-there = FrameFits.frame (IsFitting.frame (is-fitting image fits) code.listed.0 code.entry listed-at)

    pub code-held : HeldInBoot image (names_object frame)
    code-held =
        subst (λ (n : ℕ). HeldInBoot image (names_object n)) (sym code.place)
        (typed-held number NewFrame FrameObject is-there (frame-type (type_at image number) is-frame) refl refl)

    pub code-aligned : frame % 4096 ≡ 0
    code-aligned = ap (λ (n : ℕ). n % 4096) code.place ∙ frame-aligned image number (is-fitting image fits) (stand-apart image fits well) well is-there is-frame

  -- ---- CNodes

  module _ (t : Thread) (listed : IsListed image t) where
    member-held : (cnode : ℕ) → is_member cnode (reached image t) ≡ true → HeldInBoot image (names_object (offset_of image cnode))
    member-held cnode member =
        let is = own-cnode image t (is-fitting image fits) (are-formed image well) listed cnode member in
        typed-held cnode (NewCNode is.radix) (CNodeObject is.radix) is.inside (cnode-type (type_at image cnode) is.radix is.is) refl refl

    pub cnode-held : (offset radix : ℕ) → is_own_cnode image (reached image t) offset radix ≡ true → HeldInBoot image (names_object offset)
    cnode-held offset radix own =
        let test : ℕ → Bool = λ c. offset_of image c == offset && option_map_or (λ r. r == radix) (radix_of (type_at image c)) false in
        let place = Any-from_list_any test (reached image t) own in
        let parts = and_parts (offset_of image place.1 == offset) (option_map_or (λ r. r == radix) (radix_of (type_at image place.1)) false) place.4 in
        let member : is_member place.1 (reached image t) ≡ true =
        list_any_at (nat_eq place.1) (reached image t) place.0 place.1 place.2 (eq-eqb place.1 _ (sym place.3)) in
        subst (λ (n : ℕ). HeldInBoot image (names_object n)) (eqb-true (offset_of image place.1) offset parts.0) (member-held place.1 member)
