-- What is filled are frames: those of contents and those under programs are there once all objects are.
use Rattle.std.proofs.Common.{ℕ, zero, suc, ◌≡◌, ◌≢◌, ◌∙◌, ◌==◌, ◌+◌, ◌≤◌, ◌<◌, ◌%◌, ◌&&◌, Bool, true, false, if◌then◌else◌, is_some, List, [], ◌∷◌, map, find}
use Rattle.std.proofs.Common.{take, length, Option, Some, None, option_and_then, inl, inr, refl, sym, ap, subst, arith}
use Rattle.std.specs.Prelude.{slice_get}
use Rattle.std.specs.Option.{option_map_or, unwrap_or}
use Rattle.std.specs.List.{list_all, range_with_len}
use Rattle.std.proofs.lemmas.Bool.{and_from, and_parts, cases_eq, cases_lt, eq-eqb, false≢true, ne_eqb}
use Rattle.std.proofs.lemmas.Option.{none-some, slice_get_past, unwrap_or-slice_get}
use Rattle.soundness.specs.boot_laws.Loading.{Progress, object_so_far, objects_so_far}
use Rattle.model.specs.Acceptance.ThreadRules.{is_code}
use Rattle.model.specs.Acceptance.WellFormed.{executes, is_frame_type, is_root_type, is_thread_type}
use Rattle.model.specs.Images.BootCalls.{has_place}
use Rattle.model.specs.Images.Described.{first_some, listed_thread}
use Rattle.model.specs.Images.Fills.{frame_at, program_pages}
use Rattle.model.specs.Images.Image.{Image, Thread, whole_image}
use Rattle.model.specs.Images.Places.{object_at, offset_of, type_at}
use Rattle.model.specs.Kernel.AddressSpaces.{page_size}
use Rattle.model.specs.Kernel.Retype.{object, type_of}
use Rattle.model.specs.Kernel.Setup.{is_frame_object}
use Rattle.model.specs.Kernel.State.{Object, FrameObject, ThreadObject}
use Rattle.model.specs.declared.entries.FrameEntry.{FrameEntry}
use Rattle.model.specs.declared.entries.ObjectEntry.{ObjectEntry}
use Rattle.soundness.proofs.boot_laws.CallOriginals.{frame-type}
use Rattle.soundness.proofs.boot_laws.PhaseHeld.{get-take}
use Rattle.format_laws.specs.Fitting.{IsFitting}
use Rattle.soundness.proofs.boot_laws.PlacesObjects.{offsets-apart}
use Rattle.soundness.proofs.boot_laws.PlacesRules.{AreFormed, FrameKept, ThreadKept}
use Rattle.soundness.proofs.boot_laws.RunContents.{FramesAreThere}
use Rattle.soundness.proofs.boot_laws.WholeFits.{contents-fit}

-- ---- lists

pub find-no : {A : Type 0} (test : A → Bool) (xs : List A) → ((j : ℕ) (x : A) → slice_get xs j ≡ Some x → test x ≡ false) → find test xs ≡ None
find-no test [] none = refl
find-no test (x ∷ xs) none =
    ap (λ b. if b then Some x else find test xs) (none 0 x refl) ∙ find-no test xs (λ j y at. none (suc j) y at)

pub find-get : {A : Type 0} (test : A → Bool) (xs : List A) (x : A) → find test xs ≡ Some x → (j : ℕ) × (slice_get xs j ≡ Some x)
find-get test [] x is = absurd (none-some x is)
find-get {A} test (y ∷ ys) x is =
    elim (test y) as (λ b. (if b then Some y else find test ys) ≡ Some x → (j : ℕ) × (slice_get (y ∷ ys) j ≡ Some x)) [
      | true ↦ λ here. (0, here)
      | false ↦ λ later. let found = find-get test ys x later in (suc found.0, found.1)
    ] is

all-as : {A : Type 0} (one other : A → Bool) (xs : List A) → ((x : A) → one x ≡ true → other x ≡ true) → list_all one xs ≡ true → list_all other xs ≡ true
all-as one other [] each is = refl
all-as one other (x ∷ xs) each is =
    let parts = and_parts (one x) (list_all one xs) is in
    and_from (other x) (list_all other xs) (each x parts.0) (all-as one other xs each parts.1)

-- one number of a range alone gives something
first-none : (f : ℕ → Option Object) (from count : ℕ) → ((m : ℕ) → from ≤ m → m < from + count → f m ≡ None) →
    first_some (map f (range_with_len from count)) ≡ None
first-none f from zero none = refl
first-none f from (suc count) none =
    ap (λ o. first_some (o ∷ map f (range_with_len (from + 1) count))) (none from (omega arith) (omega arith))
    ∙ first-none f (from + 1) count (λ m low high. none m (omega (arith, low)) (omega (arith, high)))

first-only : (f : ℕ → Option Object) (from count n : ℕ) (o : Object) → from ≤ n → n < from + count → f n ≡ Some o
    → ((m : ℕ) → from ≤ m → m < from + count → m ≢ n → f m ≡ None) → first_some (map f (range_with_len from count)) ≡ Some o
first-only f from zero n o low high here none = absurd (omega (arith, low, high))
first-only f from (suc count) n o low high here none =
    elim (cases_eq from n) [
      | inl same ↦ ap (λ p. first_some (p ∷ map f (range_with_len (from + 1) count))) (ap f same ∙ here)
      | inr other ↦
          ap (λ p. first_some (p ∷ map f (range_with_len (from + 1) count))) (none from (omega arith) (omega arith) other)
          ∙ first-only f (from + 1) count n o (omega (arith, low, other)) (omega (arith, high)) here
          (λ m less more. none m (omega (arith, less)) (omega (arith, more)))
    ]

-- ---- frames of the image

-- what has a type is an object
typed-inside : (image : Image) (number : ℕ) → IsFitting image → is_frame_type (type_at image number) ≡ true → number < image.header.objects
typed-inside image number fitting is =
    let default : ObjectEntry = record { untyped = 0; kind = 0; size = 0 } in
    elim (cases_lt number (length image.objects)) [
      | inl less ↦ subst (λ (n : ℕ). number < n) fitting.objects less
      | inr past ↦
          let none : object_at image number ≡ default =
          sym (unwrap_or-slice_get image.objects number default) ∙ ap (λ o. unwrap_or o default) (slice_get_past image.objects number past) in
          absurd (false≢true (sym (ap (λ (o : ObjectEntry). is_frame_type (type_of o.kind o.size)) none) ∙ is))
    ]

frame-object : (image : Image) (p : Progress) (number : ℕ) → AreFormed image → is_frame_type (type_at image number) ≡ true →
    object_so_far image p number ≡ Some FrameObject
frame-object image p number formed is =
    let type = frame-type (type_at image number) is in
    ap (λ o. option_map_or (λ t. Some (ThreadObject (listed_thread t))) o (option_and_then object (type_at image number)))
    (find-no (λ t. t.header.tcb == number) (take p.threads image.threads) (λ j t at.
    let there = get-take p.threads image.threads j t at in
    ne_eqb t.header.tcb number (λ same. false≢true (sym (ap is_thread_type (ap (type_at image) same ∙ type)) ∙ ThreadKept.tcb (formed.thread j t there.1)))))
    ∙ ap (option_and_then object) type

frame-there : (image : Image) (p : Progress) (number : ℕ) → IsFitting image → AreFormed image → p.objects ≡ image.header.objects →
    is_frame_type (type_at image number) ≡ true
    → is_frame_object (objects_so_far image p (offset_of image number)) ≡ true
frame-there image p number fitting formed all is =
    let inside = typed-inside image number fitting is in
    let at = offset_of image number in
    let f = λ (m : ℕ). if offset_of image m == at then object_so_far image p m else None in
    ap is_frame_object
    (first-only f 0 p.objects number FrameObject (omega arith) (omega (arith, inside, all))
    (ap (λ b. if b then object_so_far image p number else None) (eq-eqb at at refl) ∙ frame-object image p number formed is)
    (λ m low high other.
    ap (λ b. if b then object_so_far image p m else None)
    (ne_eqb (offset_of image m) at (λ same. other (offsets-apart image m number fitting formed (omega (arith, high, all)) inside same)))))

-- ---- programs

code-mapped : (o : Option FrameEntry) → option_map_or executes o false ≡ true → is_some o ≡ true
code-mapped None is = absurd (false≢true is)
code-mapped (Some f) is = refl

program-placed : (image : Image) (k : ℕ) (t : Thread) → AreFormed image → slice_get image.threads k ≡ Some t → has_place image t ≡ true
program-placed image k t formed at =
    let kept = formed.thread k t at in
    let pages = all-as (is_code image t) (λ address. is_some (frame_at image t.header.root address)) (program_pages t)
    (λ address is. code-mapped (frame_at image t.header.root address) is) kept.code in
    and_from ((t.header.base % page_size == 0) && is_root_type (type_at image t.header.root))
    (list_all (λ address. is_some (frame_at image t.header.root address)) (program_pages t))
    (and_from (t.header.base % page_size == 0) (is_root_type (type_at image t.header.root)) kept.base kept.root) pages

pub frames-there : (image : Image) → whole_image.fits image ≡ true → IsFitting image → AreFormed image → FramesAreThere image
frames-there image fits fitting formed = record {
  contents = λ i c at. (formed.content i c at, contents-fit image fits i c at);
  programs = λ i x at. program-placed image i x.thread formed at;
  frames = λ p all number is. frame-there image p number fitting formed all is;
  mapped = λ root address f is.
      let found = find-get (λ g. g.root == root && g.address == address) image.frames f is in
      FrameKept.frame (formed.frame found.0 f found.1);
}
