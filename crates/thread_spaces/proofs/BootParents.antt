-- The boot slots that capabilities hang below.
use Rattle.std.proofs.Common.{ℕ, zero, suc, ◌≡◌, ◌∙◌, ◌==◌, ◌+◌, ◌^◌, ◌<◌, ◌≤◌, ◌&&◌, Bool, true, false, not, if◌then◌else◌, find, take, Option, Some, None}
use Rattle.std.proofs.Common.{List, [], ◌∷◌, refl, sym, ap, subst, arith}
use Rattle.std.specs.Prelude.{slice_get}
use Rattle.std.specs.Option.{option_map_or}
use Rattle.std.specs.List.{list_any, range_with_len}
use Rattle.std.proofs.lemmas.Option.{none-some, same_Some, slice_get_within}
use Rattle.format_laws.specs.Fitting.{IsFitting, ObjectFits, ThreadFits}
use Rattle.format_laws.proofs.Laws.{is-fitting}
use Rattle.soundness.specs.boot_laws.Loading.{all_loaded, is_moved}
use Rattle.soundness.proofs.Laws.{AreFormed, ReadsBoot, ThreadKept, are-formed, boot-slots-suffice, numbered-back, object-at, original-untyped}
use Rattle.model.specs.declared.capabilities.Cap.{Cap}
use Rattle.model.specs.declared.capabilities.Cap.TheVariants.{Empty, Untyped, Endpoint, Notification, CNode, Frame, PageTable, Tcb, RootTable, InterruptControl}
use Rattle.model.specs.declared.capabilities.Cap.TheVariants.{InterruptHandler}
use Rattle.model.specs.declared.entries.InterruptEntry.{InterruptEntry}
use Rattle.model.specs.Acceptance.Accepted.{IsWellFormed}
use Rattle.model.specs.Acceptance.NotedKernel.{boot_parent, is_object_at, object_numbers, object_parent, thread_original, untyped_there}
use Rattle.model.specs.Acceptance.WellFormed.{is_thread_type, is_untyped_type}
use Rattle.model.specs.Capabilities.CapabilityKinds.{is_untyped}
use Rattle.model.specs.Capabilities.Slots.{parent_at}
use Rattle.model.specs.Images.Described.{described, numbered}
use Rattle.model.specs.Images.Image.{Image, Thread, whole_image}
use Rattle.model.specs.Images.Places.{boot_slots, control_slot, handler_slot, object_at, original_slot, type_at}
use Rattle.model.specs.Kernel.Retype.{NewObject, NewUntyped, NewThread, NewEndpoint, NewNotification, NewCNode, NewFrame, NewPageTable, NewRootTable}
use Rattle.thread_spaces.specs.Given.{IsListed}
use Rattle.thread_spaces.proofs.DescribedSlots.{boot-holds, from-loaded, parent-shown}

-- ---- finding

pub record IsPassed {A : Type 0} (test : A → Bool) (xs : List A) (x : A) : Type 0 where
  pub place : ℕ
  pub at : slice_get xs place ≡ Some x
  pub passes : test x ≡ true

pub find-passed : {A : Type 0} (test : A → Bool) (xs : List A) (x : A) → find test xs ≡ Some x → IsPassed test xs x
find-passed test [] x is = absurd (none-some x is)
find-passed test (y ∷ ys) x is = elim (test y) as (λ b. test y ≡ b → (if b then Some y else find test ys) ≡ Some x → IsPassed test (y ∷ ys) x) [
  | true ↦ λ holds here. record { place = 0; at = here; passes = ap test (sym (same_Some y x here)) ∙ holds }
  | false ↦ λ _ later. let found = find-passed test ys x later in record { place = suc found.place; at = found.at; passes = found.passes }
] refl is

range-below : (from count place n : ℕ) → slice_get (range_with_len from count) place ≡ Some n → n < from + count
range-below from zero place n at = absurd (none-some n at)
range-below from (suc count) zero n at = let same = same_Some from n at in omega (arith, same)
range-below from (suc count) (suc place) n at = let less = range-below (from + 1) count place n at in omega (arith, less)

pub negated : (b : Bool) → not b ≡ true → b ≡ false
negated true is = absurd (let clash : false ≡ true = is in cc)
negated false is = refl

-- ---- types

thread-plain : (kind : Option NewObject) → is_thread_type kind ≡ true → is_untyped_type kind ≡ false
thread-plain None is = refl
thread-plain (Some (NewUntyped bits)) is = absurd (let clash : false ≡ true = is in cc)
thread-plain (Some NewThread) is = refl
thread-plain (Some NewEndpoint) is = refl
thread-plain (Some NewNotification) is = refl
thread-plain (Some (NewCNode radix)) is = refl
thread-plain (Some NewFrame) is = refl
thread-plain (Some NewPageTable) is = refl
thread-plain (Some NewRootTable) is = refl

-- ---- where a boot slot hangs

-- a boot slot that was derived from a boot slot, which was derived from nothing
pub record IsBelowOne (image : Image) (slot : ℕ) : Type 0 where
  pub boot : slot < 2 ^ image.header.boot_radix
  pub above : ℕ
  pub parent : parent_at (described image).slots slot ≡ Some above
  pub first : parent_at (described image).slots above ≡ None

-- a boot slot that was derived from nothing
pub record IsFirst (image : Image) (slot : ℕ) : Type 0 where
  pub boot : slot < 2 ^ image.header.boot_radix
  pub first : parent_at (described image).slots slot ≡ None

module _ (image : Image) (fits : whole_image.fits image ≡ true) (well : IsWellFormed image) where
  suffice : boot_slots image ≤ 2 ^ image.header.boot_radix
  suffice = boot-slots-suffice image (is-fitting image fits) (are-formed image well)

  holds : ReadsBoot image (all_loaded image)
  holds = boot-holds image fits well

  untyped-first : (number : ℕ) → number < image.header.untypeds → IsFirst image number
  untyped-first number less = record {
    boot = omega (arith, less, suffice);
    first = parent-shown image number _ (from-loaded image number _ (is-fitting image fits) (ReadsBoot.untyped holds number less));
  }

  home-first : (number : ℕ) → number < image.header.objects → IsFirst image (object_at image number).untyped
  home-first number less =
      untyped-first (object_at image number).untyped
      (ObjectFits.untyped (IsFitting.object (is-fitting image fits) number (object_at image number) (object-at image number (is-fitting image fits) less)))

  stays : (number : ℕ) → is_untyped_type (type_at image number) ≡ false → is_moved image (all_loaded image) number ≡ false
  stays number plain = ap (λ b. b && list_any (λ c. c.source == number) (take image.header.capabilities image.capabilities))
      (original-untyped image (all_loaded image) number ∙ plain)

  pub original-below : (number : ℕ) → number < image.header.objects → is_untyped_type (type_at image number) ≡ false →
      IsBelowOne image (original_slot image number)
  original-below number less plain = record {
    boot = omega (arith, less, suffice);
    above = (object_at image number).untyped;
    parent = parent-shown image (original_slot image number) _
        (from-loaded image (original_slot image number) _ (is-fitting image fits) (ReadsBoot.original holds number less (stays number plain)));
    first = IsFirst.first (home-first number less);
  }

  control-first : IsFirst image (control_slot image)
  control-first = record {
    boot = omega (arith, suffice);
    first = parent-shown image (control_slot image) _ (from-loaded image (control_slot image) _ (is-fitting image fits) (ReadsBoot.control holds));
  }

  handler-below : (k : ℕ) (i : InterruptEntry) → slice_get image.interrupts k ≡ Some i → IsBelowOne image (handler_slot image k)
  handler-below k i at =
      let less : k < image.header.interrupts = subst (λ (n : ℕ). k < n) (IsFitting.interrupts (is-fitting image fits))
      (slice_get_within image.interrupts k i at) in
      record {
        boot = omega (arith, less, suffice);
        above = control_slot image;
        parent = parent-shown image (handler_slot image k) _
            (from-loaded image (handler_slot image k) _ (is-fitting image fits) (ReadsBoot.handler holds k i less at));
        first = IsFirst.first control-first;
      }

  module _ (t : Thread) (listed : IsListed image t) where
    thread-inside : t.header.tcb < image.header.objects
    thread-inside = ThreadFits.tcb (IsFitting.thread (is-fitting image fits) listed.number t listed.listed)

    thread-below : IsBelowOne image (thread_original image t)
    thread-below =
        original-below t.header.tcb thread-inside
        (thread-plain (type_at image t.header.tcb) (ThreadKept.tcb (AreFormed.thread (are-formed image well) listed.number t listed.listed)))

    found-below : (place : ℕ) (found : Option ℕ) → find (is_object_at image place) (object_numbers image) ≡ found →
        IsBelowOne image (option_map_or (original_slot image) found (thread_original image t))
    found-below place None is = thread-below
    found-below place (Some number) is =
        let passed = find-passed (is_object_at image place) (object_numbers image) number is in
        let less = range-below 0 image.header.objects passed.place number passed.at in
        original-below number (omega (arith, less)) (negated _ (first-part _ _ passed.passes))
      where
        first-part : (a b : Bool) → (a && b) ≡ true → a ≡ true
        first-part true b is = refl
        first-part false b is = is

    object-below : (offset : Option ℕ) → IsBelowOne image (object_parent image t offset)
    object-below None = thread-below
    object-below (Some place) = found-below place (find (is_object_at image place) (object_numbers image)) refl

    line-below : (irq_line : ℕ) (found : Option (ℕ × InterruptEntry)) → find (λ i. (i.1).line == irq_line) (numbered image.interrupts) ≡ found
        → IsBelowOne image (option_map_or (λ i. handler_slot image i.0) found (thread_original image t))
    line-below irq_line None is = thread-below
    line-below irq_line (Some i) is =
        let passed = find-passed (λ i. (i.1).line == irq_line) (numbered image.interrupts) i is in
        let back = numbered-back image.interrupts passed.place i passed.at in
        subst (λ (k : ℕ). IsBelowOne image (handler_slot image k)) (sym back.0) (handler-below passed.place i.1 back.1)

    pub pool-first : (offset bits watermark : ℕ) → IsFirst image (boot_parent image t (Untyped offset bits watermark))
    pool-first offset bits watermark = of-found (find (untyped_there image offset) (object_numbers image)) refl
      where
        of-found : (found : Option ℕ) → find (untyped_there image offset) (object_numbers image) ≡ found →
            IsFirst image (option_map_or (λ number. (object_at image number).untyped) found 0)
        of-found None is =
            let some = ObjectFits.untyped (IsFitting.object (is-fitting image fits) t.header.tcb (object_at image t.header.tcb)
            (object-at image t.header.tcb (is-fitting image fits) thread-inside)) in
            untyped-first 0 (omega (arith, some))
        of-found (Some number) is =
            let passed = find-passed (untyped_there image offset) (object_numbers image) number is in
            let less = range-below 0 image.header.objects passed.place number passed.at in
            home-first number (omega (arith, less))

    pub other-below : (capability : Cap) → is_untyped capability ≡ false → IsBelowOne image (boot_parent image t capability)
    other-below Empty plain = object-below None
    other-below (Untyped offset bits watermark) plain = absurd (let clash : true ≡ false = plain in cc)
    other-below (Endpoint offset r badge) plain = object-below (Some offset)
    other-below (Notification offset r badge) plain = object-below (Some offset)
    other-below (CNode offset radix guard) plain = object-below (Some offset)
    other-below (Frame offset r mapping) plain = object-below (Some offset)
    other-below (PageTable offset mapping) plain = object-below (Some offset)
    other-below (Tcb offset) plain = object-below (Some offset)
    other-below (RootTable offset) plain = object-below (Some offset)
    other-below InterruptControl plain = object-below None
    other-below (InterruptHandler irq_line) plain = line-below irq_line (find (λ i. (i.1).line == irq_line) (numbered image.interrupts)) refl

    pub boot-parent-boot : (capability : Cap) → boot_parent image t capability < 2 ^ image.header.boot_radix
    boot-parent-boot Empty = IsBelowOne.boot (other-below Empty refl)
    boot-parent-boot (Untyped offset bits watermark) = IsFirst.boot (pool-first offset bits watermark)
    boot-parent-boot (Endpoint offset r badge) = IsBelowOne.boot (other-below (Endpoint offset r badge) refl)
    boot-parent-boot (Notification offset r badge) = IsBelowOne.boot (other-below (Notification offset r badge) refl)
    boot-parent-boot (CNode offset radix guard) = IsBelowOne.boot (other-below (CNode offset radix guard) refl)
    boot-parent-boot (Frame offset r mapping) = IsBelowOne.boot (other-below (Frame offset r mapping) refl)
    boot-parent-boot (PageTable offset mapping) = IsBelowOne.boot (other-below (PageTable offset mapping) refl)
    boot-parent-boot (Tcb offset) = IsBelowOne.boot (other-below (Tcb offset) refl)
    boot-parent-boot (RootTable offset) = IsBelowOne.boot (other-below (RootTable offset) refl)
    boot-parent-boot InterruptControl = IsBelowOne.boot (other-below InterruptControl refl)
    boot-parent-boot (InterruptHandler irq_line) = IsBelowOne.boot (other-below (InterruptHandler irq_line) refl)
