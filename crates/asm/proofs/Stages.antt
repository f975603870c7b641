-- What is known of an image behind each section of its listing.
use Rattle.std.proofs.Common.{ℕ, ◌≡◌, ◌+◌, ◌<◌, List, [], ◌∷◌, ◌++◌, length, Some, None, ap, sym, ◌∙◌, arith}
use Rattle.std.specs.Prelude.{map}
use Rattle.std.proofs.lemmas.List.{length-append}
use Rattle.model.specs.declared.entries.CapabilityEntry.{CapabilityEntry}
use Rattle.model.specs.declared.entries.FrameEntry.{FrameEntry}
use Rattle.model.specs.declared.entries.InterruptEntry.{InterruptEntry}
use Rattle.model.specs.declared.entries.ObjectEntry.{ObjectEntry}
use Rattle.model.specs.declared.entries.TableEntry.{TableEntry}
use Rattle.model.specs.declared.entries.UntypedEntry.{UntypedEntry}
use Rattle.model.specs.Images.Image.{Image, ImageContent, ImagePromise}
use Rattle.asm.specs.Drafts.{Draft, capability_of}
use Rattle.asm.specs.Sections.{Declared}
use Rattle.asm.proofs.NumberedNames.{names_from, names-longer, interrupts_from}

abbrev pub declaring : Image → Declared → Draft
declaring i d = record {
  memory = Some (record { bits = i.header.memory_bits; boot_radix = i.header.boot_radix });
  declared = d;
  threads = [];
  open_thread =
      None;
}

abbrev pub with_untypeds : List UntypedEntry → Declared
with_untypeds us = record {
  names = record { untypeds = names_from 117 0 (length us); objects = []; interrupts = [] };
  untypeds = us;
  objects = [];
  capabilities = [];
  interrupts = [];
  tables = [];
  frames = [];
  contents = [];
  promises = [];
}

abbrev pub with_objects : Image → List ObjectEntry → Declared
with_objects i os = record {
  names = record { untypeds = names_from 117 0 (length i.untypeds); objects = names_from 111 0 (length os); interrupts = [] };
  untypeds = i.untypeds;
  objects = os;
  capabilities = [];
  interrupts = [];
  tables = [];
  frames = [];
  contents = [];
  promises = [];
}

abbrev pub with_interrupts : Image → List InterruptEntry → Declared
with_interrupts i xs = record {
  names = record { untypeds = names_from 117 0 (length i.untypeds); objects = names_from 111 0 (length i.objects); interrupts = interrupts_from 0 xs };
  untypeds = i.untypeds;
  objects = i.objects;
  capabilities = [];
  interrupts = xs;
  tables = [];
  frames = [];
  contents = [];
  promises = [];
}

abbrev pub with_capabilities : Image → List CapabilityEntry → Declared
with_capabilities i cs = record (with_interrupts i i.interrupts) { capabilities = map (capability_of i) cs }

abbrev pub with_tables : Image → List TableEntry → Declared
with_tables i ts = record (with_capabilities i i.capabilities) { tables = ts }

abbrev pub with_frames : Image → List FrameEntry → Declared
with_frames i fs = record (with_tables i i.tables) { frames = fs }

abbrev pub with_contents : Image → List ImageContent → Declared
with_contents i cs = record (with_frames i i.frames) { contents = cs }

abbrev pub with_promises : Image → List ImagePromise → Declared
with_promises i ps = record (with_contents i i.contents) { promises = ps }

-- ---- one entry more

pub front-shorter : {A : Type 0} (whole front : List A) (e : A) (rest : List A) → whole ≡ front ++ e ∷ rest → length front < length whole
front-shorter whole front e rest same =
    let long : length whole ≡ length front + length (e ∷ rest) = ap length same ∙ length-append front (e ∷ rest) in
    omega (arith, long)

pub names-next : {A : Type 0} (c : ℕ) (front : List A) (e : A)
    → names_from c 0 (length front) ++ names_from c (length front) 1 ≡ names_from c 0 (length (front ++ e ∷ []))
names-next c front e =
    let long : length front + 1 ≡ length (front ++ e ∷ []) = sym (length-append front (e ∷ [])) in
    let at : 0 + length front ≡ length front = omega arith in
    ap (λ k. names_from c 0 (length front) ++ names_from c k 1) (sym at) ∙ (sym (names-longer c 0 (length front)) ∙ ap (names_from c 0) long)
