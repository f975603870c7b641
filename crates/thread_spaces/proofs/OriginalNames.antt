-- The boot CNode has a capability to each object that is no untyped memory.
use Rattle.std.proofs.Common.{ℕ, zero, suc, ◌≡◌, ◌∙◌, ◌==◌, ◌+◌, ◌<◌, ◌⊎◌, inl, inr, Bool, true, false, ◌&&◌, if◌then◌else◌, find, take, Option, Some, None}
use Rattle.std.proofs.Common.{◌∷◌, map, refl, sym, ap, arith}
use Rattle.std.specs.Prelude.{option_and_then}
use Rattle.std.specs.Option.{option_map_or}
use Rattle.std.specs.List.{list_any, range_with_len}
use Rattle.std.proofs.lemmas.Bool.{eq-eqb, eqb-true}
use Rattle.std.proofs.lemmas.Bool.Decides.{eqb_tells}
use Rattle.std.proofs.lemmas.Option.{none-some}
use Rattle.format_laws.specs.Fitting.{IsFitting, ThreadFits}
use Rattle.format_laws.proofs.Laws.{is-fitting}
use Rattle.soundness.specs.boot_laws.Loading.{all_loaded, is_moved, original_so_far}
use Rattle.soundness.proofs.Laws.{AreFormed, ReadsBoot, ThreadKept, are-formed, boot-slots-suffice, first_of_type, mapped_by, original-untyped, thread-type}
use Rattle.model.specs.declared.capabilities.Cap.{Cap}
use Rattle.model.specs.declared.capabilities.Cap.TheVariants.{RootTable}
use Rattle.model.specs.declared.entries.TableEntry.{TableEntry}
use Rattle.model.specs.Acceptance.Accepted.{IsWellFormed}
use Rattle.model.specs.Acceptance.WellFormed.{is_root_type, is_untyped_type}
use Rattle.model.specs.Capabilities.CapabilityKinds.{names_object, object_of}
use Rattle.model.specs.Images.Described.{described, described_object, first_some, listed_thread, object_there}
use Rattle.model.specs.Images.Image.{Image, Thread, whole_image}
use Rattle.model.specs.Images.Places.{offset_of, original_slot, type_at}
use Rattle.model.specs.Kernel.Removal.{is_root_at, slot_count}
use Rattle.model.specs.Kernel.Retype.{NewObject, NewUntyped, NewThread, NewEndpoint, NewNotification, NewCNode, NewFrame, NewPageTable, NewRootTable, object}
use Rattle.model.specs.Kernel.State.{Object, ThreadObject}
use Rattle.typestate.specs.Spaces.{HeldInBoot}
use Rattle.thread_spaces.specs.Given.{IsListed}
use Rattle.thread_spaces.proofs.BootParents.{find-passed}
use Rattle.thread_spaces.proofs.DescribedSlots.{boot-holds, capability-shown, from-loaded}

-- ---- what a first capability names

named-by : (image : Image) (found : Option TableEntry) (kind : NewObject) (offset : ℕ) → is_untyped_type (Some kind) ≡ false →
    object_of (mapped_by image found (first_of_type (Some kind) offset)) ≡ Some offset
named-by image found (NewUntyped bits) offset plain = absurd (let clash : true ≡ false = plain in cc)
named-by image None NewThread offset plain = refl
named-by image (Some t) NewThread offset plain = refl
named-by image None NewEndpoint offset plain = refl
named-by image (Some t) NewEndpoint offset plain = refl
named-by image None NewNotification offset plain = refl
named-by image (Some t) NewNotification offset plain = refl
named-by image None (NewCNode radix) offset plain = refl
named-by image (Some t) (NewCNode radix) offset plain = refl
named-by image None NewFrame offset plain = refl
named-by image (Some t) NewFrame offset plain = refl
named-by image None NewPageTable offset plain = refl
named-by image (Some t) NewPageTable offset plain = refl
named-by image None NewRootTable offset plain = refl
named-by image (Some t) NewRootTable offset plain = refl

root-by : (image : Image) (found : Option TableEntry) (kind : Option NewObject) (offset : ℕ) → is_root_type kind ≡ true →
    mapped_by image found (first_of_type kind offset) ≡ RootTable offset
root-by image found None offset is = absurd (let clash : false ≡ true = is in cc)
root-by image found (Some (NewUntyped bits)) offset is = absurd (let clash : false ≡ true = is in cc)
root-by image found (Some NewThread) offset is = absurd (let clash : false ≡ true = is in cc)
root-by image found (Some NewEndpoint) offset is = absurd (let clash : false ≡ true = is in cc)
root-by image found (Some NewNotification) offset is = absurd (let clash : false ≡ true = is in cc)
root-by image found (Some (NewCNode radix)) offset is = absurd (let clash : false ≡ true = is in cc)
root-by image found (Some NewFrame) offset is = absurd (let clash : false ≡ true = is in cc)
root-by image found (Some NewPageTable) offset is = absurd (let clash : false ≡ true = is in cc)
root-by image None (Some NewRootTable) offset is = refl
root-by image (Some t) (Some NewRootTable) offset is = refl

root-plain : (kind : Option NewObject) → is_root_type kind ≡ true → is_untyped_type kind ≡ false
root-plain None is = refl
root-plain (Some (NewUntyped bits)) is = absurd (let clash : false ≡ true = is in cc)
root-plain (Some NewThread) is = refl
root-plain (Some NewEndpoint) is = refl
root-plain (Some NewNotification) is = refl
root-plain (Some (NewCNode radix)) is = refl
root-plain (Some NewFrame) is = refl
root-plain (Some NewPageTable) is = refl
root-plain (Some NewRootTable) is = refl

record IsPlain (type : Option NewObject) : Type 0 where
  kind : NewObject
  is : type ≡ Some kind
  plain : is_untyped_type (Some kind) ≡ false

object-plain : (type : Option NewObject) (o : Object) → option_and_then object type ≡ Some o → IsPlain type
object-plain None o is = absurd (none-some o is)
object-plain (Some (NewUntyped bits)) o is = absurd (none-some o is)
object-plain (Some NewThread) o is = record { kind = NewThread; is = refl; plain = refl }
object-plain (Some NewEndpoint) o is = record { kind = NewEndpoint; is = refl; plain = refl }
object-plain (Some NewNotification) o is = record { kind = NewNotification; is = refl; plain = refl }
object-plain (Some (NewCNode radix)) o is = record { kind = NewCNode radix; is = refl; plain = refl }
object-plain (Some NewFrame) o is = record { kind = NewFrame; is = refl; plain = refl }
object-plain (Some NewPageTable) o is = record { kind = NewPageTable; is = refl; plain = refl }
object-plain (Some NewRootTable) o is = record { kind = NewRootTable; is = refl; plain = refl }

-- ---- the first that is there

record IsThere {A : Type 0} (f : ℕ → Option A) (least bound : ℕ) (x : A) : Type 0 where
  number : ℕ
  less : number < bound
  is : f number ≡ Some x

next-there : {A : Type 0} (f : ℕ → Option A) (from count : ℕ) (x : A) (o : Option A) → f from ≡ o →
    (first_some (map f (range_with_len (from + 1) count)) ≡ Some x → IsThere f (from + 1) (from + 1 + count) x)
    → first_some (o ∷ map f (range_with_len (from + 1) count)) ≡ Some x → IsThere f from (from + suc count) x
next-there f from count x None none rest is =
    let later = rest is in
    let less = later.less in
    record { number = later.number; less = omega (arith, less); is = later.is }
next-there f from count x (Some y) some rest is = record { number = from; less = omega arith; is = some ∙ is }

first-there : {A : Type 0} (f : ℕ → Option A) (from count : ℕ) (x : A) → first_some (map f (range_with_len from count)) ≡ Some x →
    IsThere f from (from + count) x
first-there f from zero x is = absurd (none-some x is)
first-there f from (suc count) x is = next-there f from count x (f from) refl (first-there f (from + 1) count x) is

-- ---- originals

module _ (image : Image) (fits : whole_image.fits image ≡ true) (well : IsWellFormed image) where
  original-held : (number : ℕ) (test : Cap → Bool) → number < image.header.objects → is_untyped_type (type_at image number) ≡ false →
      test (original_so_far image (all_loaded image) number) ≡ true
      → HeldInBoot image test
  original-held number test less plain is =
      let suffice = boot-slots-suffice image (is-fitting image fits) (are-formed image well) in
      let stays : is_moved image (all_loaded image) number ≡ false =
      ap (λ b. b && list_any (λ c. c.source == number) (take image.header.capabilities image.capabilities))
      (original-untyped image (all_loaded image) number ∙ plain) in
      let shown = from-loaded image (original_slot image number) _ (is-fitting image fits)
      (ReadsBoot.original (boot-holds image fits well) number less stays) in
      record {
        slot = original_slot image number;
        boot = omega (arith, less, suffice);
        holds = ap test (capability-shown image (original_slot image number) _ shown) ∙ is;
      }

  -- each object that is there
  object-type : (number : ℕ) (o : Object) → described_object image number ≡ Some o → IsPlain (type_at image number)
  object-type number o is = of-thread (find (λ t. t.header.tcb == number) image.threads) refl
    where
      of-thread : (found : Option Thread) → find (λ t. t.header.tcb == number) image.threads ≡ found → IsPlain (type_at image number)
      of-thread None none =
          object-plain (type_at image number) o
          (sym (ap (λ (found : Option Thread). option_map_or (λ t. Some (ThreadObject (listed_thread t))) found (option_and_then object (type_at image number)))
          none) ∙ is)
      of-thread (Some t) some =
          let passed = find-passed (λ (u : Thread). u.header.tcb == number) image.threads t some in
          let same : t.header.tcb ≡ number = eqb-true t.header.tcb number passed.passes in
          let thread = ThreadKept.tcb (AreFormed.thread (are-formed image well) passed.place t passed.at) in
          record { kind = NewThread; is = ap (type_at image) (sym same) ∙ thread-type (type_at image t.header.tcb) thread; plain = refl }

  pub object-held : (offset : ℕ) (o : Object) → (described image).objects offset ≡ Some o → HeldInBoot image (names_object offset)
  unfolding described
  object-held offset o is =
      let there = first-there (object_there image offset) 0 image.header.objects o is in
      let number = there.number in
      elim (eqb_tells (offset_of image number) offset) [
        | inl same ↦
            let found : described_object image number ≡ Some o = sym (ap (λ b. if b then described_object image number else None) same.0) ∙ there.is in
            let typed = object-type number o found in
            let less = there.less in
            original-held number (names_object offset) (omega (arith, less)) (ap is_untyped_type typed.is ∙ typed.plain)
            (ap (λ (t : Option NewObject).
            names_object offset (mapped_by image (find (λ e. e.table == number) (take image.header.tables image.tables))
            (first_of_type t (offset_of image number)))) typed.is
            ∙ ap (λ (named : Option ℕ). option_map_or (λ n. n == offset) named false)
            (named-by image (find (λ e. e.table == number) (take image.header.tables image.tables)) typed.kind (offset_of image number) typed.plain)
            ∙ same.0)
        | inr other ↦
            let clash : None ≡ Some o = sym (ap (λ b. if b then described_object image number else None) other.0) ∙ there.is in
            absurd (none-some o clash)
      ]

  -- an object without slots, or a capability to it
  pub objects-held : (offset : ℕ) → (slot_count ((described image).objects offset) ≡ 0) ⊎ HeldInBoot image (names_object offset)
  objects-held offset = of-object ((described image).objects offset) refl
    where
      of-object : (found : Option Object) → (described image).objects offset ≡ found →
          (slot_count ((described image).objects offset) ≡ 0) ⊎ HeldInBoot image (names_object offset)
      of-object None none = inl (ap slot_count none)
      of-object (Some o) some = inr (object-held offset o some)

  pub root-held : (t : Thread) → IsListed image t → HeldInBoot image (is_root_at (offset_of image t.header.root))
  root-held t listed =
      let kept = AreFormed.thread (are-formed image well) listed.number t listed.listed in
      let root = t.header.root in
      let less = ThreadFits.root (IsFitting.thread (is-fitting image fits) listed.number t listed.listed) in
      original-held root (is_root_at (offset_of image root)) less (root-plain (type_at image root) (ThreadKept.root kept))
      (ap (is_root_at (offset_of image root))
      (root-by image (find (λ e. e.table == root) (take image.header.tables image.tables)) (type_at image root) (offset_of image root)
      (ThreadKept.root kept))
      ∙ eq-eqb (offset_of image root) (offset_of image root) refl)
