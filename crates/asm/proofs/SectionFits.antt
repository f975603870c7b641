-- The sections of an image that fits its format.
use Rattle.std.proofs.Common.{ℕ, ◌≡◌, ◌==◌, ◌+◌, ◌-◌, true, min, List, ◌∷◌, ◌++◌, subst}
use Rattle.std.specs.Int.{w32}
use Rattle.std.proofs.lemmas.Bool.{and_parts}
use Rattle.model.specs.declared.entries.ImageHeader.{ImageHeader}
use Rattle.model.specs.declared.refusals.Refusal.TheVariants.{Magic, Version}
use Rattle.model.specs.Images.Format.{Format, many_fit, number_or}
use Rattle.model.specs.Images.Image.{Image, between, capability_format, content_format, frame_format, header_format, image_with, interrupt_format}
use Rattle.model.specs.Images.Image.{latest_version, magic, promise_format}
use Rattle.model.specs.Images.Listing.{version_listed}
use Rattle.model.specs.Images.Image.{object_format, pair_key, sections_format, slots_format, table_format, thread_format, untyped_format, whole_image}
use Rattle.format_laws.proofs.Laws.{field-parts}
use Rattle.asm.proofs.Orders.{least_behind, many-at}

pub record SectionsFit (i : Image) : Type 0 where
  pub version : i.header.version ≡ version_listed i.objects i.promises i.threads
  pub memory : between 16 24 i.header.memory_bits ≡ true
  pub radix : between 1 (min 14 (i.header.memory_bits - 5)) i.header.boot_radix ≡ true
  pub untypeds : many_fit (λ _. untyped_format) (λ _. 0) 0 i.header.untypeds i.untypeds ≡ true
  pub objects : many_fit (object_format i.header.version i.header.untypeds) (λ o. o.untyped) 0 i.header.objects i.objects ≡ true
  pub capabilities : many_fit (capability_format i.header.objects i.header.interrupts) (λ x. pair_key x.cnode x.index + 1) 0 i.header.capabilities
      i.capabilities ≡ true
  pub interrupts : many_fit (interrupt_format i.header.objects) (λ x. x.line + 1) 0 i.header.interrupts i.interrupts ≡ true
  pub tables : many_fit (table_format i.header.objects) (λ x. pair_key x.root x.address + 1) 0 i.header.tables i.tables ≡ true
  pub frames : many_fit (frame_format i.header.objects) (λ x. pair_key x.root x.address + 1) 0 i.header.frames i.frames ≡ true
  pub contents : many_fit (content_format i.header.objects) (λ c. c.header.frame + 1) 0 i.header.contents i.contents ≡ true
  pub promises : many_fit (promise_format i.header.objects) (λ p. p.header.endpoint + 1) 0 i.header.promises i.promises ≡ true
  pub threads : many_fit (λ _. thread_format (slots_format i.header.objects) i.header.version i.header.objects) (λ _. 0) 0 i.header.threads i.threads ≡ true

header-parts : (h : ImageHeader) → header_format.fits h ≡ true
    → (between 16 24 h.memory_bits ≡ true) × (between 1 (min 14 (h.memory_bits - 5)) h.boot_radix ≡ true)
unfolding header_format
header-parts h is =
    let first = and_parts ((number_or (λ _. Magic) w32 (λ n. n == magic)).fits magic) _ is in
    let second = and_parts ((number_or (λ _. Version) w32 (between 1 latest_version)).fits h.version) _ first.1 in
    let a = and_parts _ _ second.1 in
    let b = and_parts _ _ a.1 in (
      (field-parts (between 16 24) h.memory_bits a.0).1,
      (field-parts (between 1 (min 14 (h.memory_bits - 5))) h.boot_radix b.0).1,
    )

pub sections-fit : (image : Image) → whole_image.fits image ≡ true → image.header.version ≡ version_listed image.objects image.promises image.threads
    → SectionsFit image
unfolding image_with sections_format
sections-fit image is version =
    let whole = and_parts _ _ is in
    let a = and_parts _ _ whole.0 in
    let b = and_parts _ _ a.1 in
    let c = and_parts _ _ b.1 in
    let d = and_parts _ _ c.1 in
    let e = and_parts _ _ d.1 in
    let f = and_parts _ _ e.1 in
    let g = and_parts _ _ f.1 in
    let header = header-parts image.header a.0 in
    record {
      version = version;
      memory = header.0;
      radix = header.1;
      untypeds = b.0;
      objects = c.0;
      capabilities = d.0;
      interrupts = e.0;
      tables = f.0;
      frames = g.0;
      contents = (and_parts _ _ g.1).0;
      promises = (and_parts _ _ g.1).1;
      threads = whole.1;
    }

-- the entry behind some of a section fits behind them
pub fits-at : {A : Type 0} (format : ℕ → Format A) (next : A → ℕ) (least count : ℕ) (whole front : List A) (e : A) (rest : List A)
    → many_fit format next least count whole ≡ true → whole ≡ front ++ e ∷ rest → (format (least_behind next least front)).fits e ≡ true
fits-at format next least count whole front e rest is same =
    many-at format next least count front e rest (subst (λ xs. many_fit format next least count xs ≡ true) same is)
