-- No thread's stores reach a frame of code: the image maps such a frame once, without write, and no noted capability names it.
use Rattle.std.proofs.Common.{ℕ, zero, suc, ◌≡◌, ◌≢◌, ◌∙◌, ◌==◌, ◌+◌, ◌/◌, ◌%◌, ◌<◌, ◌≤◌, ◌&&◌, ◌||◌, inl, inr, Bool, true, false, not, List, [], ◌∷◌, Option}
use Rattle.std.proofs.Common.{Some, None, refl, sym, ap, subst, arith}
use Rattle.std.specs.Prelude.{Contains, bit_and, slice_get}
use Rattle.std.specs.Option.{option_map_or}
use Rattle.std.specs.List.{enumerate_from, list_any}
use Rattle.std.proofs.lemmas.Bool.{eq-eqb, eqb-true, or_parts}
use Rattle.std.proofs.lemmas.Option.{slice_get-get_or}
use Rattle.model.specs.declared.capabilities.Cap.TheVariants.{Frame}
use Rattle.model.specs.declared.entries.FrameEntry.{FrameEntry}
use Rattle.model.specs.declared.instructions.Access.TheVariants as accesses
use Rattle.model.specs.declared.rights.Rights.{Rights}
use Rattle.model.specs.Acceptance.NotedStates.{NotedSlot}
use Rattle.model.specs.Acceptance.ThreadInvariants.{ImageMaps, IsCode, MapsAreNoted, NamesNoCode, NotedMaps, root_table_of, tcb_of}
use Rattle.model.specs.Acceptance.WellFormed.{are_frame_rights, executes, has_writable_code, is_frame_type, is_mapped_twice, is_named_otherwise, is_device}
use Rattle.model.specs.Capabilities.CapabilityWords.{IsCapability}
use Rattle.model.specs.Capabilities.Rights.{frame_rights, mapping_rights, may_write}
use Rattle.model.specs.Images.Described.{Numbered}
use Rattle.model.specs.Images.Image.{Image}
use Rattle.model.specs.Images.Places.{offset_of, type_at}
use Rattle.model.specs.Kernel.AddressSpaces.{Maps, content_of, page_size, vspace_of, with_content}
use Rattle.model.specs.Kernel.Messages.{with_registers}
use Rattle.model.specs.Kernel.Soundness.{IsSound}
use Rattle.model.specs.Kernel.State.{State}
use Rattle.model.specs.Machine.ProgramMemory.{Content, RegisterFile}
use Rattle.headline.specs.facts.Untouched.{IsUntouched}
use Rattle.headline.proofs.facts.Laws.{NamesFrame, implied, names-frame}
use Rattle.headline.specs.steps.Frames.{FrameIsKept, FramesAreKept}

-- ---- code is mapped once, and without write

-- rights with execute and without all are no rights to write
not-writes : (bits : ℕ) → bits ≤ 7 → are_frame_rights bits ≡ true → (bits == 7) ≡ false → not (bit_and bits 4 == 0) ≡ true
    → may_write (mapping_rights frame_rights bits) ≡ true → ⊥
not-writes zero fits is most code writes = let no : false ≡ true = is in absurd cc
not-writes (suc zero) fits is most code writes = let no : false ≡ true = is in absurd cc
not-writes (suc (suc zero)) fits is most code writes = let no : false ≡ true = writes in absurd cc
not-writes (suc (suc (suc zero))) fits is most code writes = let no : false ≡ true = code in absurd cc
not-writes (suc (suc (suc (suc zero)))) fits is most code writes = let no : false ≡ true = writes in absurd cc
not-writes (suc (suc (suc (suc (suc zero))))) fits is most code writes = let no : false ≡ true = is in absurd cc
not-writes (suc (suc (suc (suc (suc (suc zero)))))) fits is most code writes = let no : false ≡ true = writes in absurd cc
not-writes (suc (suc (suc (suc (suc (suc (suc zero))))))) fits is most code writes = let no : true ≡ false = most in absurd cc
not-writes (suc (suc (suc (suc (suc (suc (suc (suc bits)))))))) fits is most code writes = absurd (omega (arith, fits))

-- no other entry maps the frame
not-twice : (from i : ℕ) (frames : List FrameEntry) (j frame : ℕ) (g : FrameEntry) →
    list_any (λ x. not (x.0 == i) && ((x.1).frame == frame)) (enumerate_from from frames) ≡ false
    → slice_get frames j ≡ Some g → (not (from + j == i) && (g.frame == frame)) ≡ false
not-twice from i [] j frame g none at = absurd (let clash : None ≡ Some g = at in cc)
not-twice from i (h ∷ hs) zero frame g none at =
    let same : h ≡ g = cc in
    let first : from ≡ from + 0 = omega arith in
    let here = (or_parts (not (from == i) && (h.frame == frame)) (list_any (λ x. not (x.0 == i) && ((x.1).frame == frame)) (enumerate_from (from + 1) hs))
    none).0 in
    subst (λ n. (not (n == i) && (g.frame == frame)) ≡ false) first (subst (λ (f : FrameEntry). (not (from == i) && (f.frame == frame)) ≡ false) same here)
not-twice from i (h ∷ hs) (suc j) frame g none at =
    let next : from + 1 + j ≡ from + suc j = omega arith in
    let later = (or_parts (not (from == i) && (h.frame == frame)) (list_any (λ x. not (x.0 == i) && ((x.1).frame == frame)) (enumerate_from (from + 1) hs))
    none).1 in
    subst (λ n. (not (n == i) && (g.frame == frame)) ≡ false) next (not-twice (from + 1) i hs j frame g later at)

one-mapping : (image : Image) (i j frame : ℕ) (g : FrameEntry) → slice_get image.frames j ≡ Some g → is_named_otherwise image i frame ≡ false →
    g.frame ≡ frame → j ≡ i
one-mapping image i j frame g at none same =
    let inside = or_parts (is_mapped_twice image i frame || list_any (λ c. c.source == frame) image.capabilities
    || list_any (λ c. c.header.frame == frame) image.contents) (is_device image frame) none in
    let outer = or_parts (is_mapped_twice image i frame || list_any (λ c. c.source == frame) image.capabilities)
    (list_any (λ c. c.header.frame == frame) image.contents) inside.0 in
    let inner = or_parts (is_mapped_twice image i frame) (list_any (λ c. c.source == frame) image.capabilities) outer.0 in
    let start : 0 + j ≡ j = omega arith in
    by-test (j == i) refl (subst (λ n. (not (n == i) && (g.frame == frame)) ≡ false) start (not-twice 0 i image.frames j frame g inner.0 at))
  where
    by-test : (b : Bool) → j == i ≡ b → (not b && (g.frame == frame)) ≡ false → j ≡ i
    by-test true is other = eqb-true j i is
    by-test false is other = absurd (let clash : true ≡ false = sym (eq-eqb g.frame frame same) ∙ other in cc)

-- an entry maps no frame of code with write
not-both : (image : Image) (kept : FramesAreKept image) (i j : ℕ) (f g : FrameEntry) → slice_get image.frames i ≡ Some f → slice_get image.frames j ≡ Some g
    → executes f ≡ true → g.frame ≡ f.frame → may_write (mapping_rights frame_rights g.rights) ≡ true → ⊥
unfolding has_writable_code
not-both image kept i j f g first second code same writes =
    let one = kept.each i f first in
    let rule = or_parts (f.rights == 7) (executes f && is_named_otherwise image i f.frame) (FrameIsKept.code one) in
    let alone = implied (executes f) (is_named_otherwise image i f.frame) rule.1 code in
    let place : j ≡ i = one-mapping image i j f.frame g second alone same in
    let both : Some g ≡ Some f = sym second ∙ ap (slice_get image.frames) place ∙ first in
    let entry : g ≡ f = cc in
    let by_code = subst (λ (x : FrameEntry). may_write (mapping_rights frame_rights x.rights) ≡ true) entry writes in
    not-writes f.rights (FrameIsKept.fits one) (FrameIsKept.rights one) rule.0 code by_code

-- ---- places

-- a place lies in one page
same-page : (a b place : ℕ) → a % 4096 ≡ 0 → b % 4096 ≡ 0 → a ≤ place → place < a + 4096 → b ≤ place → place < b + 4096 → a ≡ b
same-page a b place first second one two three four = omega (arith, first, second, one, two, three, four)

listed-at : (frames : List FrameEntry) (f : FrameEntry) → (listed : Contains frames f) → slice_get frames listed.0 ≡ Some f
listed-at frames f listed = slice_get-get_or frames listed.0 f listed.1 ∙ ap (λ (x : FrameEntry). Some x) listed.2

byte-kept : (o : Option ℕ) (n : ℕ) → n ≡ option_map_or (λ byte. byte) o 0 → option_map_or (λ byte. Some n) o None ≡ o
byte-kept None n same = refl
byte-kept (Some b) n same = ap (λ (k : ℕ). Some k) same

module _ (image : Image) (t : Numbered) (s : State) (slots : List NotedSlot) (kept : FramesAreKept image)
    (placed : (number : ℕ) → number < image.header.objects → is_frame_type (type_at image number) ≡ true → offset_of image number % 4096 ≡ 0)
    (sound : IsSound s) (maps : MapsAreNoted image t s slots) (code : NamesNoCode image slots)
    (vspace : vspace_of s (tcb_of image t) ≡ Some (root_table_of image t)) where
  aligned : (page frame : ℕ) (allowed : Rights) → Maps s.slots (root_table_of image t) page frame allowed → frame % 4096 ≡ 0
  aligned page frame allowed m =
      let valid : IsCapability (Frame frame m.frame_rights (Some (record { root = root_table_of image t; page = page; rights = allowed }))) =
      subst IsCapability m.capability (sound.slots.derivation.valid m.slot) in
      valid.0.0

  not-by-image : (page frame : ℕ) (allowed : Rights) → IsCode image frame → ImageMaps image t page frame allowed → may_write allowed ≡ true → ⊥
  not-by-image page frame allowed c m writes =
      let f = IsCode.entry c in
      let g = ImageMaps.entry m in
      let first = listed-at image.frames f (IsCode.listed c) in
      let second = listed-at image.frames g (ImageMaps.listed m) in
      let one = kept.each (IsCode.listed c).0 f first in
      let other = kept.each (ImageMaps.listed m).0 g second in
      let same : g.frame ≡ f.frame =
      kept.apart g.frame f.frame (FrameIsKept.object other) (FrameIsKept.object one) (FrameIsKept.frame other) (FrameIsKept.frame one)
      (sym (ImageMaps.object m) ∙ IsCode.place c) in
      not-both image kept (IsCode.listed c).0 (ImageMaps.listed m).0 f g first second (IsCode.executes c) same
      (subst (λ (x : Rights). may_write x ≡ true) (ImageMaps.rights m) writes)

  not-noted : (page frame : ℕ) (allowed : Rights) → IsCode image frame → NotedMaps image t slots page frame allowed → ⊥
  not-noted page frame allowed c m =
      let mapping = Some (record { root = root_table_of image t; page = page; rights = allowed }) in
      code (NotedMaps.slot m) frame (NotedMaps.held m) mapping (NotedMaps.noted m) (NotedMaps.capability m) c

  -- no address names a place of a frame of code for a store
  stores-elsewhere : (frame place : ℕ) → IsCode image frame → frame ≤ place → place < frame + page_size → (a q : ℕ)
      → (content_of s (tcb_of image t)).place accesses.Store a ≡ Some q → q ≢ place
  stores-elsewhere frame place c begins ends a q stored same =
      let page = a / page_size in
      let f = IsCode.entry c in
      let one = kept.each (IsCode.listed c).0 f (listed-at image.frames f (IsCode.listed c)) in
      let here = IsCode.place c in
      let code_placed : frame % 4096 ≡ 0 = ap (λ (n : ℕ). n % 4096) here ∙ placed f.frame (FrameIsKept.object one) (FrameIsKept.frame one) in
      let n = names-frame s (tcb_of image t) (root_table_of image t) accesses.Store a q vspace stored in
      let allowed = NamesFrame.allowed n in
      let there = NamesFrame.place_is n in
      let stored_placed = aligned page (NamesFrame.frame n) allowed (NamesFrame.maps n) in
      let one_frame : NamesFrame.frame n ≡ frame =
      same-page (NamesFrame.frame n) frame place stored_placed code_placed (omega (arith, there, same)) (omega (arith, there, same)) begins ends in
      let stored_code : IsCode image (NamesFrame.frame n) = subst (IsCode image) (sym one_frame) c in
      elim ((maps page (NamesFrame.frame n) allowed).0 (NamesFrame.maps n)) [
        | inl by_image ↦ not-by-image page (NamesFrame.frame n) allowed stored_code by_image (NamesFrame.permits n)
        | inr by_slot ↦ not-noted page (NamesFrame.frame n) allowed stored_code by_slot
      ]

  pub untouched : (u : Numbered) (registers : RegisterFile) (left : Content)
      → ((place : ℕ) → ((a q : ℕ) → (content_of s (tcb_of image t)).place accesses.Store a ≡ Some q → q ≢ place) →
      left.byte place ≡ (content_of s (tcb_of image t)).byte place)
      → IsUntouched image u s (with_content (with_registers s (tcb_of image t) registers) left)
  untouched u registers left writes = record {
    boot_radix = refl;
    slots = λ slot own. refl;
    cspace = refl;
    vspace = refl;
    maps = λ page frame allowed. (λ m. m, λ m. m);
    bytes = λ frame place c begins ends. byte-kept (s.bytes place) (left.byte place) (writes place (stores-elsewhere frame place c begins ends));
  }
