-- A program stays in its pages: what is fetched from them is the same after an instruction of its thread.
use Rattle.std.proofs.Common.{ℕ, zero, suc, ◌≡◌, ◌≢◌, ◌∙◌, ◌==◌, ◌+◌, ◌*◌, ◌/◌, ◌%◌, ◌^◌, ◌<◌, ◌≤◌, ◌&&◌, inl, inr, true, List, [], ◌∷◌, map, Option, Some}
use Rattle.std.proofs.Common.{None, Result, Ok, Err, refl, sym, ap, subst, arith}
use Rattle.std.specs.Prelude.{Contains, slice_get, slice_index}
use Rattle.std.specs.Int.{byte_len, from_le_bytes}
use Rattle.std.specs.Option.{option_map_or}
use Rattle.std.specs.List.{list_all}
use Rattle.std.proofs.lemmas.Bool.{or_parts}
use Rattle.std.proofs.lemmas.Option.{slice_get-get_or, slice_get_within, get_or_from_slice_get}
use Rattle.model.specs.declared.capabilities.Cap.TheVariants.{Frame}
use Rattle.model.specs.declared.entries.FrameEntry.{FrameEntry}
use Rattle.model.specs.declared.instructions.Access.{Access}
use Rattle.model.specs.declared.instructions.Access.TheVariants as accesses
use Rattle.headline.proofs.facts.Laws.{IsProgramPage, NamesFrame, implied, names-frame, page-mapped, program-page}
use Rattle.model.specs.declared.instructions.AccessSize.TheVariants.{Word}
use Rattle.model.specs.declared.instructions.MemoryFault.{MemoryFault}
use Rattle.model.specs.declared.rights.Rights.{Rights}
use Rattle.model.specs.Acceptance.NotedStates.{NotedSlot}
use Rattle.model.specs.Acceptance.PointStates.{address_of}
use Rattle.model.specs.Acceptance.ThreadInvariants.{ImageMaps, IsCode, MapsAreNoted, NamesNoCode, NotedMaps, ProgramStands, root_table_of, tcb_of}
use Rattle.model.specs.Acceptance.ThreadRules.{is_code}
use Rattle.model.specs.Acceptance.WellFormed.{executes, has_writable_code, is_named_otherwise}
use Rattle.model.specs.Capabilities.CapabilityWords.{IsCapability}
use Rattle.model.specs.Capabilities.Rights.{frame_rights, mapping_rights, may_write}
use Rattle.model.specs.Images.Described.{Numbered}
use Rattle.model.specs.Images.Fills.{program_pages}
use Rattle.model.specs.Images.Image.{Image}
use Rattle.model.specs.Images.Places.{offset_of}
use Rattle.model.specs.Kernel.AddressSpaces.{MappedFrame, Maps, content_of, page_size, vspace_of, with_content}
use Rattle.model.specs.Kernel.Messages.{with_registers}
use Rattle.model.specs.Kernel.Soundness.{IsSound}
use Rattle.model.specs.Kernel.State.{State}
use Rattle.model.specs.Machine.ProgramMemory.{Content, RegisterFile, ◌>>=◌, loaded, next_address, place_or_fault, places_from, width_of}
use Rattle.headline.specs.steps.Frames.{FramesAreKept}
use Rattle.headline.proofs.steps.CodeStays.{not-writes, one-mapping, same-frame}

-- ---- what is loaded

-- only the places count
same-places : (c : Content) (byte : ℕ → ℕ) (access : Access) (count address : ℕ) →
    places_from (record c { byte = byte }) access address count ≡ places_from c access address count
same-places c byte access zero address = refl
same-places c byte access (suc count) address =
    ap (λ rest. place_or_fault (c.place access address) access address >>= λ place. rest >>= λ others. Ok (place ∷ others))
    (same-places c byte access count (next_address address))

-- the bytes that are loaded are the same
rest-bytes : (c : Content) (byte : ℕ → ℕ) (access : Access) (count address : ℕ) (places : List ℕ) (q : ℕ) → byte q ≡ c.byte q →
    ((others : List ℕ) → places_from c access (next_address address) count ≡ Ok others → map byte others ≡ map c.byte others)
    → (rest : Result (List ℕ) MemoryFault) → places_from c access (next_address address) count ≡ rest → (rest >>= λ others. Ok (q ∷ others)) ≡ Ok places →
    map byte places ≡ map c.byte places
rest-bytes c byte access count address places q here later (Ok others) more done =
    let same : q ∷ others ≡ places = (let both : ◌≡◌ {A = Result (List ℕ) MemoryFault} (Ok (q ∷ others)) (Ok places) = done in cc) in
    let behind = later others more in
    subst (λ (l : List ℕ). map byte l ≡ map c.byte l) same (λ i. here i ∷ behind i)
rest-bytes c byte access count address places q here later (Err failed) more done =
    absurd (let clash : ◌≡◌ {A = Result (List ℕ) MemoryFault} (Err failed) (Ok places) = done in cc)

first-bytes : (c : Content) (byte : ℕ → ℕ) (access : Access) (count address : ℕ) (places : List ℕ) →
    ((q : ℕ) → c.place access address ≡ Some q → byte q ≡ c.byte q)
    → ((others : List ℕ) → places_from c access (next_address address) count ≡ Ok others → map byte others ≡ map c.byte others)
    → (o : Option ℕ) → c.place access address ≡ o →
    (place_or_fault o access address >>= λ q. places_from c access (next_address address) count >>= λ others. Ok (q ∷ others)) ≡ Ok places →
    map byte places ≡ map c.byte places
first-bytes c byte access count address places same later (Some q) here done =
    rest-bytes c byte access count address places q (same q here) later (places_from c access (next_address address) count) refl done
first-bytes c byte access count address places same later None here done =
    absurd (let clash : ◌≡◌ {A = Result (List ℕ) MemoryFault} (Err (record { address = address; access = access })) (Ok places) = done in cc)

bytes-same : (c : Content) (byte : ℕ → ℕ) (access : Access) (count address : ℕ) → address + count ≤ 2 ^ 32
    → ((k : ℕ) → k < count → (place : ℕ) → c.place access (address + k) ≡ Some place → byte place ≡ c.byte place)
    → (places : List ℕ) → places_from c access address count ≡ Ok places → map byte places ≡ map c.byte places
bytes-same c byte access zero address inside same places is =
    let none : [] ≡ places = (let both : ◌≡◌ {A = Result (List ℕ) MemoryFault} (Ok []) (Ok places) = is in cc) in
    subst (λ (l : List ℕ). map byte l ≡ map c.byte l) none refl
bytes-same c byte access (suc count) address inside same places is =
    let none : address + 0 ≡ address = omega arith in
    first-bytes c byte access count address places
    (λ q here. same 0 (omega arith) q (subst (λ (n : ℕ). c.place access n ≡ Some q) (sym none) here))
    (λ others more. bytes-same c byte access count (next_address address) (omega (arith, inside)) (λ k less place here.
    let next : next_address address + k ≡ address + suc k = omega (arith, inside, less) in
    same (suc k) (omega (arith, less)) place (subst (λ (n : ℕ). c.place access n ≡ Some place) next here)) others more)
    (c.place access address) refl is

pub loaded-same : (c : Content) (byte : ℕ → ℕ) (address word : ℕ) → address + 4 ≤ 2 ^ 32
    → ((k : ℕ) → k < 4 → (place : ℕ) → c.place accesses.Fetch (address + k) ≡ Some place → byte place ≡ c.byte place)
    → loaded c accesses.Fetch Word address ≡ Ok word → loaded (record c { byte = byte }) accesses.Fetch Word address ≡ Ok word
loaded-same c byte address word inside same is =
    ap (λ found. found >>= λ places. Ok (from_le_bytes (width_of Word) (map byte places)))
    (same-places c byte accesses.Fetch (byte_len (width_of Word)) address)
    ∙ by-places (places_from c accesses.Fetch address (byte_len (width_of Word))) refl is
  where
    by-places : (found : Result (List ℕ) MemoryFault) → places_from c accesses.Fetch address (byte_len (width_of Word)) ≡ found
        → (found >>= λ places. Ok (from_le_bytes (width_of Word) (map c.byte places))) ≡ Ok word →
        (found >>= λ places. Ok (from_le_bytes (width_of Word) (map byte places))) ≡ Ok word
    by-places (Ok places) from done = ap (λ (bytes : List ℕ). Ok (from_le_bytes (width_of Word) bytes))
        (bytes-same c byte accesses.Fetch (byte_len (width_of Word)) address inside same places from) ∙ done
    by-places (Err failed) from done = done

-- ---- code

module _ (image : Image) (t : Numbered) (s : State) (slots : List NotedSlot) (kept : FramesAreKept image) (sound : IsSound s)
    (maps : MapsAreNoted image t s slots) (code : NamesNoCode image slots)
    (vspace : vspace_of s (tcb_of image t) ≡ Some (root_table_of image t)) where
  abbrev content : Content
  content = content_of s (tcb_of image t)

  aligned : (page frame : ℕ) (allowed : Rights) → Maps s.slots (root_table_of image t) page frame allowed → frame % 4096 ≡ 0
  aligned page frame allowed m =
      let valid : IsCapability (Frame frame m.frame_rights (Some (record { root = root_table_of image t; page = page; rights = allowed }))) =
      subst IsCapability m.capability (sound.slots.derivation.valid m.slot) in
      valid.0.0

  listed-at : (item : ℕ) (f : FrameEntry) → slice_get image.frames item ≡ Some f → Contains image.frames f
  listed-at item f at = (item, slice_get_within image.frames item f at, get_or_from_slice_get image.frames item f f at)

  code-maps : (address : ℕ) (p : IsProgramPage image t address) →
      Maps s.slots (root_table_of image t) (address / page_size) (offset_of image (IsProgramPage.entry p).frame)
      (mapping_rights frame_rights (IsProgramPage.entry p).rights)
  code-maps address p =
      let f = IsProgramPage.entry p in
      let by_image : ImageMaps image t (address / page_size) (offset_of image f.frame) (mapping_rights frame_rights f.rights) = record {
        entry = f;
        listed = listed-at (IsProgramPage.item p) f (IsProgramPage.at p);
        root = IsProgramPage.root p;
        address = IsProgramPage.address_is p;
        object = refl;
        rights = refl;
      } in
      (maps (address / page_size) (offset_of image f.frame) (mapping_rights frame_rights f.rights)).1 (inl by_image)

  code-place : (address place : ℕ) (p : IsProgramPage image t address) → content.place accesses.Fetch address ≡ Some place →
      place ≡ offset_of image (IsProgramPage.entry p).frame + address % page_size
  code-place address place p named =
      let root = root_table_of image t in
      let page = address / page_size in
      let f = IsProgramPage.entry p in
      let n = names-frame s (tcb_of image t) (root_table_of image t) accesses.Fetch address place vspace named in
      let one = page-mapped s root page (offset_of image f.frame) (mapping_rights frame_rights f.rights) sound (code-maps address p) in
      let other = page-mapped s root page (NamesFrame.frame n) (NamesFrame.allowed n) sound (NamesFrame.maps n) in
      let same : NamesFrame.frame n ≡ offset_of image f.frame = ap (λ (o : Option MappedFrame). option_map_or (λ m. m.frame) o 0) (sym other ∙ one) in
      NamesFrame.place_is n ∙ ap (λ k. k + address % page_size) same

  -- a page that may be written is of another frame
  not-by-image : (address page frame : ℕ) (allowed : Rights) (p : IsProgramPage image t address) → ImageMaps image t page frame allowed →
      frame ≡ offset_of image (IsProgramPage.entry p).frame
      → may_write allowed ≡ true → ⊥
  unfolding has_writable_code
  not-by-image address page frame allowed p m here writes =
      let f = IsProgramPage.entry p in
      let item = IsProgramPage.item p in
      let g = m.entry in
      let at = m.listed in
      let g_at : slice_get image.frames at.0 ≡ Some g = slice_get-get_or image.frames at.0 g at.1 ∙ ap (λ (x : FrameEntry). Some x) at.2 in
      let one = kept.each item f (IsProgramPage.at p) in
      let other = kept.each at.0 g g_at in
      let same_object : g.frame ≡ f.frame = kept.apart g.frame f.frame other.object one.object other.frame one.frame (sym m.object ∙ here) in
      let rule = or_parts (f.rights == 7) (executes f && is_named_otherwise image item f.frame) one.code in
      let alone = implied (executes f) (is_named_otherwise image item f.frame) rule.1 (IsProgramPage.executes_so p) in
      let same_item : at.0 ≡ item = one-mapping image item at.0 f g g_at alone same_object in
      let both : Some g ≡ Some f = sym g_at ∙ ap (slice_get image.frames) same_item ∙ IsProgramPage.at p in
      let same : g ≡ f = cc in
      let by_code : may_write (mapping_rights frame_rights f.rights) ≡ true =
      subst (λ (x : FrameEntry). may_write (mapping_rights frame_rights x.rights) ≡ true) same (subst (λ (x : Rights). may_write x ≡ true) m.rights writes) in
      not-writes f.rights one.fits one.rights rule.0 f refl (IsProgramPage.executes_so p) by_code

  not-noted : (address page frame : ℕ) (allowed : Rights) (p : IsProgramPage image t address) → NotedMaps image t slots page frame allowed →
      frame ≡ offset_of image (IsProgramPage.entry p).frame → ⊥
  not-noted address page frame allowed p m here =
      let f = IsProgramPage.entry p in
      let is_code_frame : IsCode image frame =
      record { entry = f; listed = listed-at (IsProgramPage.item p) f (IsProgramPage.at p); place = here; executes = IsProgramPage.executes_so p } in
      code m.slot frame m.held (Some (record { root = root_table_of image t; page = page; rights = allowed })) m.noted m.capability is_code_frame

  -- no address names a place of the program for a store
  pub stores-elsewhere : (address place : ℕ) → IsProgramPage image t address → content.place accesses.Fetch address ≡ Some place → (a q : ℕ) →
      content.place accesses.Store a ≡ Some q → q ≢ place
  stores-elsewhere address place p named a q stored_at same =
      let f = IsProgramPage.entry p in
      let n = names-frame s (tcb_of image t) (root_table_of image t) accesses.Store a q vspace stored_at in
      let here = code-place address place p named in
      let first = aligned (a / page_size) (NamesFrame.frame n) (NamesFrame.allowed n) (NamesFrame.maps n) in
      let second = aligned (address / page_size) (offset_of image f.frame) (mapping_rights frame_rights f.rights) (code-maps address p) in
      let frames : NamesFrame.frame n ≡ offset_of image f.frame =
      same-frame (NamesFrame.frame n) (offset_of image f.frame) (a % page_size) (address % page_size) first second (omega arith) (omega arith)
      (sym (NamesFrame.place_is n) ∙ same ∙ here) in
      elim ((maps (a / page_size) (NamesFrame.frame n) (NamesFrame.allowed n)).0 (NamesFrame.maps n)) [
        | inl by_image ↦ not-by-image address (a / page_size) (NamesFrame.frame n) (NamesFrame.allowed n) p by_image frames (NamesFrame.permits n)
        | inr by_slot ↦ not-noted address (a / page_size) (NamesFrame.frame n) (NamesFrame.allowed n) p by_slot frames
      ]

  byte-there : (o : Option ℕ) (n : ℕ) → n ≡ option_map_or (λ byte. byte) o 0 →
      option_map_or (λ byte. byte) (option_map_or (λ byte. Some n) o None) 0 ≡ option_map_or (λ byte. byte) o 0
  byte-there None n same = refl
  byte-there (Some b) n same = same

  pub program-stays : (registers : RegisterFile) (left : Content) → list_all (is_code image t.thread) (program_pages t.thread) ≡ true →
      t.thread.header.base % page_size ≡ 0
      → t.thread.header.base + 4 * t.thread.header.words ≤ 2 ^ 31
      → ((place : ℕ) → ((a q : ℕ) → content.place accesses.Store a ≡ Some q → q ≢ place) → left.byte place ≡ content.byte place)
      → ProgramStands image t s → ProgramStands image t (with_content (with_registers s (tcb_of image t) registers) left)
  program-stays registers left pages base ends writes stands point inside =
      let after = with_content (with_registers s (tcb_of image t) registers) left in
      loaded-same content (content_of after (tcb_of image t)).byte (address_of t.thread point) (slice_index t.thread.words point) (omega (arith, ends, inside))
      (λ k less place named.
      let offset = 4 * point + k in
      let there : t.thread.header.base + 4 * point + k ≡ t.thread.header.base + offset = omega arith in
      let page : IsProgramPage image t (t.thread.header.base + offset) = program-page image t offset pages base (omega (arith, inside, less)) in
      let fetched : content.place accesses.Fetch (t.thread.header.base + offset) ≡ Some place =
      subst (λ (n : ℕ). content.place accesses.Fetch n ≡ Some place) there named in
      byte-there (s.bytes place) (left.byte place) (writes place (stores-elsewhere (t.thread.header.base + offset) place page fetched)))
      (stands point inside)
