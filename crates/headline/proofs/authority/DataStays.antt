-- The frames that the world may write stay frames, since the boot CNode names them: what it writes is written, and what it looks at is there.
use Rattle.std.proofs.Common.{ℕ, zero, suc, ◌≡◌, ◌∙◌, ◌==◌, ◌+◌, ◌%◌, ◌<◌, ◌≤◌, ◌&&◌, Bool, true, false, if◌then◌else◌, nat_le, find, take, List, [], ◌∷◌}
use Rattle.std.proofs.Common.{Option, Some, None, option_map, refl, sym, ap, subst, arith}
use Rattle.std.specs.Prelude.{option_and_then, slice_get}
use Rattle.std.specs.Option.{option_map_or}
use Rattle.std.proofs.lemmas.Bool.{eqb-true, false≢true}
use Rattle.std.proofs.lemmas.Bool.Decides.{nat_tests}
use Rattle.format_laws.proofs.Laws.{is-fitting}
use Rattle.model.specs.declared.capabilities.Cap.TheVariants.{Empty}
use Rattle.model.specs.declared.labels.Label.{Label}
use Rattle.model.specs.declared.slot_entries.Entry.{Entry}
use Rattle.model.specs.Acceptance.Accepted.{IsAccepted}
use Rattle.model.specs.Acceptance.Devices.{IsOfData}
use Rattle.model.specs.Acceptance.WellFormed.{is_frame_type, is_thread_type, is_untyped_type}
use Rattle.model.specs.Capabilities.Slots.{capability_at}
use Rattle.model.specs.Images.Described.{described, listed_thread}
use Rattle.model.specs.Images.Image.{Image, Thread}
use Rattle.model.specs.Images.Places.{offset_of, type_at}
use Rattle.model.specs.Kernel.AddressSpaces.{page_size}
use Rattle.model.specs.Kernel.Kinds.{Names, frame_around, kind_at, kind_of}
use Rattle.model.specs.Kernel.Retype.{NewObject, NewThread, NewFrame, object}
use Rattle.model.specs.Kernel.Setup.{is_frame_object}
use Rattle.model.specs.Kernel.State.{State, Object, ThreadObject, EndpointObject, NotificationObject, CNodeObject, FrameObject, PageTableObject}
use Rattle.model.specs.Kernel.State.{RootTableObject}
use Rattle.model.specs.Kernel.State.{boot_area_slots}
use Rattle.model.specs.Kernel.World.{is_word_of_frame}
use Rattle.soundness.specs.boot_laws.Loading.{all_loaded}
use Rattle.soundness.proofs.Laws.{AreFormed, ReadsObjects, ThreadKept, are-formed, counts-are, described-sound, find-get, frame-listed, frame-type, loaded-end}
use Rattle.soundness.proofs.Laws.{reads-objects, stand-apart}
use Rattle.thread_spaces.proofs.Laws.{all-within}
use Rattle.typestate.specs.Spaces.{HeldInBoot}
use Rattle.headline.specs.facts.Standing.{AllStand}
use Rattle.headline.proofs.authority.InsideKept.{names-kind}
use Rattle.headline.proofs.invocations.BootNames.{typed-held}
use Rattle.headline.proofs.invocations.OtherSlots.{boot-kept}
use Rattle.headline.proofs.kept.Laws.{frame-aligned}

-- an object of this kind is a frame
is-frame : (o : Option Object) → option_map kind_of o ≡ Some NewFrame → is_frame_object o ≡ true
is-frame (Some FrameObject) is = refl
is-frame None is = absurd (let clash : ◌≡◌ {A = Option NewObject} None (Some NewFrame) = is in cc)
is-frame (Some (ThreadObject t)) is = absurd (let clash : ◌≡◌ {A = Option NewObject} (Some NewThread) (Some NewFrame) = is in cc)
is-frame (Some (EndpointObject e)) is = absurd (let clash : option_map kind_of (Some (EndpointObject e)) ≡ Some NewFrame = is in cc)
is-frame (Some (NotificationObject n)) is = absurd (let clash : option_map kind_of (Some (NotificationObject n)) ≡ Some NewFrame = is in cc)
is-frame (Some (CNodeObject radix)) is = absurd (let clash : option_map kind_of (Some (CNodeObject radix)) ≡ Some NewFrame = is in cc)
is-frame (Some PageTableObject) is = absurd (let clash : option_map kind_of (Some PageTableObject) ≡ Some NewFrame = is in cc)
is-frame (Some RootTableObject) is = absurd (let clash : option_map kind_of (Some RootTableObject) ≡ Some NewFrame = is in cc)

around-it : (offset place : ℕ) → offset % 4096 ≡ 0 → offset ≤ place → place + 4 ≤ offset + 4096 → frame_around place ≡ offset
around-it offset place aligned low high = omega (arith, aligned, low, high)

fits-page : (offset place : ℕ) → offset % 4096 ≡ 0 → offset ≤ place → place + 4 ≤ offset + 4096 → place % 4096 + 4 ≤ 4096
fits-page offset place aligned low high = omega (arith, aligned, low, high)

get-take : {A : Type 0} (n : ℕ) (xs : List A) (k : ℕ) (x : A) → slice_get (take n xs) k ≡ Some x → slice_get xs k ≡ Some x
get-take zero xs zero x is = absurd cc
get-take zero xs (suc k) x is = absurd cc
get-take (suc n) [] zero x is = absurd cc
get-take (suc n) [] (suc k) x is = absurd cc
get-take (suc n) (y ∷ ys) zero x is = is
get-take (suc n) (y ∷ ys) (suc k) x is = get-take n ys k x is

find-passes : {A : Type 0} (test : A → Bool) (xs : List A) (x : A) → find test xs ≡ Some x → test x ≡ true
find-passes test [] x is = absurd (let clash : None ≡ Some x = is in cc)
find-passes {A} test (y ∷ ys) x is = elim (test y) as (λ b. test y ≡ b → (if b then Some y else find test ys) ≡ Some x → test x ≡ true) [
  | true ↦ λ here same. let e : y ≡ x = cc same in subst (λ (z : A). test z ≡ true) e here
  | false ↦ λ _ later. find-passes test ys x later
] refl is

le-true : (a b : ℕ) → a ≤ b → nat_le a b ≡ true
le-true a b less = grind (arith, nat_tests, less)

module _ (bytes : List ℕ) (image : Image) (s : State) (labels : List Label) (accepted : IsAccepted bytes image) (all : AllStand image s labels)
    (number : ℕ) (frame : is_frame_type (type_at image number) ≡ true) where
  abbrev offset : ℕ
  offset = offset_of image number

  typed : type_at image number ≡ Some NewFrame
  typed = frame-type (type_at image number) frame

  inside : number < image.header.objects
  inside = frame-listed image number (is-fitting image accepted.spelled.fits) frame

  -- the image describes a frame there
  by-thread : (f : Option Thread) → find (λ t. t.header.tcb == number) (take image.header.threads image.threads) ≡ f
      → option_map_or (λ t. Some (ThreadObject (listed_thread t))) f (option_and_then object (type_at image number)) ≡ Some FrameObject
  by-thread None is = ap (option_and_then object) typed
  by-thread (Some t) is = absurd (no-thread t is)
    where
      no-thread : (t : Thread) → find (λ t. t.header.tcb == number) (take image.header.threads image.threads) ≡ Some t → ⊥
      no-thread t is =
          let test = λ (u : Thread). u.header.tcb == number in
          let passes = find-passes test (take image.header.threads image.threads) t is in
          let found = find-get test (take image.header.threads image.threads) t is in
          let there = get-take image.header.threads image.threads found.0 t found.1 in
          let block = ThreadKept.tcb (AreFormed.thread (are-formed image accepted.formed) found.0 t there) in
          false≢true (sym (ap is_thread_type typed) ∙ ap (λ (n : ℕ). is_thread_type (type_at image n)) (sym (eqb-true t.header.tcb number passes)) ∙ block)

  frame-described : (described image).objects offset ≡ Some FrameObject
  frame-described =
      let fitting = is-fitting image accepted.spelled.fits in
      let plain : is_untyped_type (type_at image number) ≡ false = ap is_untyped_type typed in
      sym (ap (λ (x : State). x.objects offset) (loaded-end image (counts-are image fitting)))
      ∙ ReadsObjects.there (reads-objects image fitting (are-formed image accepted.formed) (all_loaded image) (all-within image)) number inside plain
      ∙ by-thread (find (λ t. t.header.tcb == number) (take image.header.threads image.threads)) refl

  pub frame-stays : kind_at s offset ≡ Some NewFrame
  frame-stays =
      let held = typed-held image accepted.spelled.fits accepted.formed number NewFrame FrameObject inside typed refl refl in
      let first = described-sound image accepted.spelled.fits accepted.formed in
      let slot = HeldInBoot.slot held in
      let boot = HeldInBoot.boot held in
      let below : slot < boot_area_slots image.header.boot_radix = omega (arith, boot) in
      let named = names-kind offset (capability_at (described image).slots slot) (HeldInBoot.holds held) in
      let kind : Some named.0 ≡ Some NewFrame = sym (first.memory.named slot named.0 offset named.1)
      ∙ ap (λ (o : Option Object). option_map kind_of o) frame-described in
      let same : capability_at s.slots slot ≡ capability_at (described image).slots slot =
      ap (λ (o : Option Entry). option_map_or (λ (held : Entry). held.capability) o Empty)
      (boot-kept image accepted.spelled.fits accepted.formed s labels all slot below) in
      all.sound.memory.named slot named.0 offset (subst (Names named.0 offset) (sym same) named.1) ∙ kind

pub word-there : (bytes : List ℕ) (image : Image) (s : State) (labels : List Label) (place : ℕ) → IsAccepted bytes image → AllStand image s labels
    → IsOfData image place → is_word_of_frame s place ≡ true
word-there bytes image s labels place accepted all d =
    let number = IsOfData.frame d in
    let offset = offset_of image number in
    let fitting = is-fitting image accepted.spelled.fits in
    let aligned = frame-aligned image number fitting (stand-apart image accepted.spelled.fits accepted.formed) accepted.formed (IsOfData.listed d)
    (IsOfData.kind d) in
    let low = IsOfData.begins d in
    let high = IsOfData.ends d in
    ap (λ (n : ℕ). is_frame_object (s.objects n) && nat_le (place % page_size + 4) page_size) (around-it offset place aligned low high)
    ∙ ap (λ b. b && nat_le (place % page_size + 4) page_size) (is-frame (s.objects offset) (frame-stays bytes image s labels accepted all number
    (IsOfData.kind d)))
    ∙ le-true (place % page_size + 4) page_size (fits-page offset place aligned low high)
