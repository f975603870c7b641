-- What is listed of an object is its first capability, limited; only page tables are mapped, and they are not listed.
use Rattle.std.proofs.Common.{ℕ, ◌≡◌, ◌∙◌, ◌==◌, ◌+◌, ◌-◌, ◌<◌, ◌≤◌, ◌&&◌, Bool, true, false, if◌then◌else◌, find, Option, Some, None, refl, sym, ap, arith}
use Rattle.std.specs.Prelude.{bit_and, slice_get}
use Rattle.std.specs.Option.{option_map_or}
use Rattle.std.proofs.lemmas.Bool.{and_parts, eqb-true, le-leb, lt-leb}
use Rattle.std.proofs.lemmas.Nat.{and_le_r}
use Rattle.std.proofs.lemmas.Option.{get_or_from_slice_get}
use Rattle.format_laws.specs.Fitting.{IsFitting}
use Rattle.format_laws.proofs.Laws.{is-fitting}
use Rattle.soundness.proofs.Laws.{AreFormed, are-formed, first_of_type, mapped_by}
use Rattle.model.specs.declared.capabilities.Cap.{Cap}
use Rattle.model.specs.declared.capabilities.Cap.TheVariants.{Empty, InterruptHandler}
use Rattle.model.specs.declared.entries.CapabilityEntry.{CapabilityEntry}
use Rattle.model.specs.declared.entries.InterruptEntry.{InterruptEntry}
use Rattle.model.specs.declared.entries.ObjectEntry.{ObjectEntry}
use Rattle.model.specs.declared.entries.TableEntry.{TableEntry}
use Rattle.model.specs.Acceptance.Accepted.{IsWellFormed}
use Rattle.model.specs.Acceptance.WellFormed.{are_among, is_table_type, may_have, source_type}
use Rattle.model.specs.Capabilities.CapabilityKinds.{is_badge, is_guard_word}
use Rattle.model.specs.Images.Described.{limited, listed_capability, original, source_capability}
use Rattle.model.specs.Images.Image.{Image, whole_image}
use Rattle.model.specs.Images.Places.{interrupt_of, object_at, offset_of, type_at}
use Rattle.model.specs.Kernel.Retype.{NewObject, NewUntyped, NewThread, NewEndpoint, NewNotification, NewCNode, NewFrame, NewPageTable, NewRootTable, type_of}
use Rattle.thread_spaces.specs.Given.{IsEntry}

unmoved : (image : Image) (found : Option TableEntry) (kind : Option NewObject) (offset : ℕ) → is_table_type kind ≡ false →
    mapped_by image found (first_of_type kind offset) ≡ first_of_type kind offset
unmoved image None kind offset plain = refl
unmoved image (Some t) None offset plain = refl
unmoved image (Some t) (Some (NewUntyped bits)) offset plain = refl
unmoved image (Some t) (Some NewThread) offset plain = refl
unmoved image (Some t) (Some NewEndpoint) offset plain = refl
unmoved image (Some t) (Some NewNotification) offset plain = refl
unmoved image (Some t) (Some (NewCNode radix)) offset plain = refl
unmoved image (Some t) (Some NewFrame) offset plain = refl
unmoved image (Some t) (Some NewPageTable) offset plain = absurd (let no : true ≡ false = plain in cc)
unmoved image (Some t) (Some NewRootTable) offset plain = refl

pub original-plain : (image : Image) (number : ℕ) → is_table_type (type_at image number) ≡ false →
    original image number ≡ first_of_type (type_at image number) (offset_of image number)
original-plain image number plain = unmoved image (find (λ t. t.table == number) image.tables) (type_at image number) (offset_of image number) plain

-- ---- an object's number, or a handler's

object-source : (image : Image) (c : CapabilityEntry) → c.source < image.header.objects → source_capability image c.source ≡ original image c.source
object-source image c less =
    ap (λ b. if b then option_map_or (λ i. InterruptHandler i.line) (slice_get image.interrupts (interrupt_of image c.source)) Empty else
    original image c.source) (lt-leb image.header.objects c.source less)

source-kind : (image : Image) (source : ℕ) → source < image.header.objects → source_type image source ≡ type_at image source
source-kind image source less = ap (λ b. if b then None else type_at image source) (lt-leb image.header.objects source less)

module _ (image : Image) (c : CapabilityEntry) (fits : whole_image.fits image ≡ true) (well : IsWellFormed image) (listed : IsEntry image c) where
  pub source-inside : c.source < image.header.objects + image.header.interrupts
  source-inside = (IsFitting.capability (is-fitting image fits) listed.number c listed.listed).source

  -- ---- rights are few

  among-few : (allowed bits : ℕ) → allowed ≤ 255 → are_among allowed bits ≡ true → bits ≤ 255
  among-few allowed bits most is =
      let same : bit_and bits allowed ≡ bits = eqb-true (bit_and bits allowed) bits is in
      let less = and_le_r bits allowed in
      omega (arith, same, less, most)

  none-few : (bits : ℕ) (b : Bool) → ((bits == 0) && b) ≡ true → bits ≤ 255
  none-few bits b is = let zero = eqb-true bits 0 (and_parts (bits == 0) b is).0 in omega (arith, zero)

  few-rights : (kind : Option NewObject) (bits payload : ℕ) → may_have kind bits payload ≡ true → bits ≤ 255
  few-rights None bits payload is = none-few bits (payload == 0) is
  few-rights (Some (NewUntyped size)) bits payload is = none-few bits (payload == 0) is
  few-rights (Some NewThread) bits payload is = none-few bits (payload == 0) is
  few-rights (Some NewEndpoint) bits payload is = among-few 11 bits (omega arith) (and_parts (are_among 11 bits) (is_badge payload) is).0
  few-rights (Some NewNotification) bits payload is = among-few 11 bits (omega arith) (and_parts (are_among 11 bits) (is_badge payload) is).0
  few-rights (Some (NewCNode radix)) bits payload is = none-few bits (is_guard_word radix payload) is
  few-rights (Some NewFrame) bits payload is = among-few 3 bits (omega arith) (and_parts (are_among 3 bits) (payload == 0) is).0
  few-rights (Some NewPageTable) bits payload is = none-few bits (payload == 0) is
  few-rights (Some NewRootTable) bits payload is = none-few bits (payload == 0) is

  pub rights-few : c.rights ≤ 255
  rights-few = few-rights (source_type image c.source) c.rights c.payload (AreFormed.capability (are-formed image well) listed.number c listed.listed).held

  -- ---- what is listed

  pub listed-object : (o : ObjectEntry) (offset : ℕ) → c.source < image.header.objects → slice_get image.objects c.source ≡ Some o →
      offset ≡ offset_of image c.source
      → limited (first_of_type (type_of o.kind o.size) offset) c.rights c.payload ≡ listed_capability image c
  listed-object o offset less at place =
      let same : object_at image c.source ≡ o = get_or_from_slice_get image.objects c.source o _ at in
      let plain : is_table_type (type_at image c.source) ≡ false =
      ap is_table_type (sym (source-kind image c.source less)) ∙ (AreFormed.capability (are-formed image well) listed.number c listed.listed).no_table in
      ap (λ (n : ℕ). limited (first_of_type (type_of o.kind o.size) n) c.rights c.payload) place
      ∙ ap (λ (x : ObjectEntry). limited (first_of_type (type_of x.kind x.size) (offset_of image c.source)) c.rights c.payload) (sym same)
      ∙ ap (λ (held : Cap). limited held c.rights c.payload) (sym (object-source image c less ∙ original-plain image c.source plain))

pub listed-handler : (image : Image) (c : CapabilityEntry) (i : InterruptEntry) → image.header.objects ≤ c.source →
    slice_get image.interrupts (c.source - image.header.objects) ≡ Some i
    → InterruptHandler i.line ≡ listed_capability image c
listed-handler image c i most at =
    sym (ap (λ b. limited (if b then option_map_or (λ (e : InterruptEntry). InterruptHandler e.line) (slice_get image.interrupts (interrupt_of image c.source))
    Empty else original image c.source) c.rights c.payload) (le-leb image.header.objects c.source most)
    ∙ ap (λ (found : Option InterruptEntry). limited (option_map_or (λ e. InterruptHandler e.line) found Empty) c.rights c.payload) at)
