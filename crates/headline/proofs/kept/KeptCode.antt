-- A thread's program stays where the mappings of code under its root table stay, and the bytes of code.
use Rattle.std.proofs.Common.{ℕ, zero, suc, ◌≡◌, ◌∙◌, ◌+◌, ◌*◌, ◌/◌, ◌^◌, ◌<◌, ◌≤◌, inl, List, [], ◌∷◌, map, Option, Some, None, Result, Ok, Err, refl, sym, ap}
use Rattle.std.proofs.Common.{subst, arith}
use Rattle.std.specs.Prelude.{slice_index}
use Rattle.std.specs.Int.{byte_len, from_le_bytes}
use Rattle.std.specs.Option.{option_map_or}
use Rattle.model.specs.declared.instructions.Access.{Access}
use Rattle.model.specs.declared.instructions.Access.TheVariants as accesses
use Rattle.model.specs.declared.instructions.AccessSize.TheVariants.{Word}
use Rattle.model.specs.declared.instructions.MemoryFault.{MemoryFault}
use Rattle.model.specs.declared.rights.Rights.{Rights}
use Rattle.model.specs.Acceptance.NotedStates.{NotedSlot}
use Rattle.model.specs.Acceptance.PointStates.{address_of}
use Rattle.model.specs.Acceptance.ThreadInvariants.{ImageMaps, IsCode, MapsAreNoted, ProgramStands, root_table_of, tcb_of}
use Rattle.model.specs.Capabilities.Rights.{frame_rights, mapping_rights}
use Rattle.model.specs.Images.Described.{Numbered}
use Rattle.model.specs.Images.Image.{Image}
use Rattle.model.specs.Images.Places.{offset_of}
use Rattle.model.specs.Kernel.AddressSpaces.{Maps, content_of, page_size, vspace_of}
use Rattle.model.specs.Kernel.Soundness.{IsSound}
use Rattle.model.specs.Kernel.State.{State}
use Rattle.model.specs.Machine.ProgramMemory.{Content, ◌>>=◌, loaded, next_address, place_or_fault, places_from, width_of}
use Rattle.headline.proofs.facts.Laws.{IsProgramPage, NamesFrame, frame-named, names-frame, one-frame, program-page}
use Rattle.headline.proofs.kept.ThreadsGiven.{IsGiven}

-- ---- what is loaded

-- what an address names in one memory, it names in the other, and the byte there is the same
abbrev pub IsSameAt : Content → Content → Access → ℕ → Type 0
IsSameAt c d access address = (place : ℕ) → c.place access address ≡ Some place → (d.place access address ≡ Some place) × (d.byte place ≡ c.byte place)

-- the same places, with the same bytes
abbrev AreSamePlaces : Content → Content → Access → ℕ → ℕ → List ℕ → Type 0
AreSamePlaces c d access count address places = (places_from d access address count ≡ Ok places) × (map d.byte places ≡ map c.byte places)

abbrev joined : ℕ → Result (List ℕ) MemoryFault → Result (List ℕ) MemoryFault
joined place rest = rest >>= λ others. Ok (place ∷ others)

abbrev behind_first : Option ℕ → Access → ℕ → Result (List ℕ) MemoryFault → Result (List ℕ) MemoryFault
behind_first o access address rest = place_or_fault o access address >>= λ place. rest >>= λ others. Ok (place ∷ others)

same-rest : (c d : Content) (access : Access) (count address q : ℕ) (places : List ℕ) → d.place access address ≡ Some q → d.byte q ≡ c.byte q
    → ((others : List ℕ) → places_from c access (next_address address) count ≡ Ok others → AreSamePlaces c d access count (next_address address) others)
    → (rest : Result (List ℕ) MemoryFault) → places_from c access (next_address address) count ≡ rest → joined q rest ≡ Ok places
    → AreSamePlaces c d access (suc count) address places
same-rest c d access count address q places named_so byte_so later (Err failed) from is =
    absurd (let clash : ◌≡◌ {A = Result (List ℕ) MemoryFault} (Err failed) (Ok places) = is in cc)
same-rest c d access count address q places named_so byte_so later (Ok others) from is =
    let same : q ∷ others ≡ places = (let both : ◌≡◌ {A = Result (List ℕ) MemoryFault} (Ok (q ∷ others)) (Ok places) = is in cc) in
    let more = later others from in
    let there : behind_first (d.place access address) access address (places_from d access (next_address address) count) ≡ Ok (q ∷ others) =
    ap (λ o. behind_first o access address (places_from d access (next_address address) count)) named_so ∙ ap (joined q) more.0 in
    subst (AreSamePlaces c d access (suc count) address) same (there, λ i. byte_so i ∷ more.1 i)

same-first : (c d : Content) (access : Access) (count address : ℕ) (places : List ℕ) → IsSameAt c d access address
    → ((others : List ℕ) → places_from c access (next_address address) count ≡ Ok others → AreSamePlaces c d access count (next_address address) others)
    → (o : Option ℕ) → c.place access address ≡ o → behind_first o access address (places_from c access (next_address address) count) ≡ Ok places
    → AreSamePlaces c d access (suc count) address places
same-first c d access count address places same later None from is =
    absurd (let clash : ◌≡◌ {A = Result (List ℕ) MemoryFault} (Err (record { address = address; access = access })) (Ok places) = is in cc)
same-first c d access count address places same later (Some q) from is =
    let here = same q from in
    same-rest c d access count address q places here.0 here.1 later (places_from c access (next_address address) count) refl is

same-places : (c d : Content) (access : Access) (count address : ℕ) → address + count ≤ 2 ^ 32 → ((k : ℕ) → k < count → IsSameAt c d access (address + k))
    → (places : List ℕ) → places_from c access address count ≡ Ok places → AreSamePlaces c d access count address places
same-places c d access zero address inside same places is =
    let none : [] ≡ places = (let both : ◌≡◌ {A = Result (List ℕ) MemoryFault} (Ok []) (Ok places) = is in cc) in
    subst (AreSamePlaces c d access 0 address) none (refl, refl)
same-places c d access (suc count) address inside same places is =
    let none : address + 0 ≡ address = omega arith in
    same-first c d access count address places (subst (IsSameAt c d access) none (same 0 (omega arith)))
    (λ others from. same-places c d access count (next_address address) (omega (arith, inside)) (λ k less.
    let next : address + suc k ≡ next_address address + k = omega (arith, inside, less) in
    subst (IsSameAt c d access) next (same (suc k) (omega (arith, less)))) others from)
    (c.place access address) refl is

pub same-word : (c d : Content) (access : Access) (address word : ℕ) → address + 4 ≤ 2 ^ 32 → ((k : ℕ) → k < 4 → IsSameAt c d access (address + k))
    → loaded c access Word address ≡ Ok word → loaded d access Word address ≡ Ok word
same-word c d access address word inside same is = by-places (places_from c access address (byte_len (width_of Word))) refl is
  where
    by-places : (places : Result (List ℕ) MemoryFault) → places_from c access address (byte_len (width_of Word)) ≡ places
        → (places >>= λ all. Ok (from_le_bytes (width_of Word) (map c.byte all))) ≡ Ok word
        → loaded d access Word address ≡ Ok word
    by-places (Ok places) from done =
        let there = same-places c d access (byte_len (width_of Word)) address inside same places from in
        ap (λ o. o >>= λ all. Ok (from_le_bytes (width_of Word) (map d.byte all))) there.0
        ∙ ap (λ (bytes : List ℕ). Ok (from_le_bytes (width_of Word) bytes)) there.1 ∙ done
    by-places (Err failed) from done = absurd (let clash : ◌≡◌ {A = Result ℕ MemoryFault} (Err failed) (Ok word) = done in cc)

-- ---- code

module _ (image : Image) (t : Numbered) (s after : State) (slots : List NotedSlot) (facts : IsGiven image t) (sound : IsSound s) (sound_after : IsSound after)
    (mapped : (page frame : ℕ) (allowed : Rights) → IsCode image frame → Maps s.slots (root_table_of image t) page frame allowed
    → Maps after.slots (root_table_of image t) page frame allowed)
    (bytes : (frame place : ℕ) → IsCode image frame → frame ≤ place → place < frame + page_size → after.bytes place ≡ s.bytes place)
    (maps : MapsAreNoted image t s slots) (vspace : vspace_of s (tcb_of image t) ≡ Some (root_table_of image t))
    (vspace_after : vspace_of after (tcb_of image t) ≡ Some (root_table_of image t)) where
  -- the frame that is mapped at a page of the program is the image's
  is-code : (address frame : ℕ) (p : IsProgramPage image t address) → frame ≡ offset_of image (IsProgramPage.entry p).frame → IsCode image frame
  is-code address frame p is = record { entry = IsProgramPage.entry p; listed = IsProgramPage.listed p; place = is; executes = IsProgramPage.executes_so p }

  code-maps : (address : ℕ) (p : IsProgramPage image t address)
      → Maps s.slots (root_table_of image t) (address / page_size) (offset_of image (IsProgramPage.entry p).frame)
      (mapping_rights frame_rights (IsProgramPage.entry p).rights)
  code-maps address p =
      let f = IsProgramPage.entry p in
      let by_image : ImageMaps image t (address / page_size) (offset_of image f.frame) (mapping_rights frame_rights f.rights) = record {
        entry = f;
        listed = IsProgramPage.listed p;
        root = IsProgramPage.root p;
        address = IsProgramPage.address_is p;
        object = refl;
        rights = refl;
      } in
      (maps (address / page_size) (offset_of image f.frame) (mapping_rights frame_rights f.rights)).1 (inl by_image)

  same-at : (address : ℕ) → IsProgramPage image t address → IsSameAt (content_of s (tcb_of image t)) (content_of after (tcb_of image t)) accesses.Fetch address
  same-at address p place is =
      let root = root_table_of image t in
      let page = address / page_size in
      let n = names-frame s (tcb_of image t) root accesses.Fetch address place vspace is in
      let frame = NamesFrame.frame n in
      let allowed = NamesFrame.allowed n in
      let f = IsProgramPage.entry p in
      let one = one-frame s root page frame (offset_of image f.frame) allowed (mapping_rights frame_rights f.rights) sound (NamesFrame.maps n)
      (code-maps address p) in
      let code = is-code address frame p one in
      let place_is = NamesFrame.place_is n in
      let maps_after = mapped page frame allowed code (NamesFrame.maps n) in
      let there = frame-named after (tcb_of image t) root accesses.Fetch address frame allowed sound_after vspace_after maps_after (NamesFrame.permits n) in (
        there ∙ ap (λ (n : ℕ). Some n) (sym place_is),
        ap (λ (o : Option ℕ). option_map_or (λ byte. byte) o 0) (bytes frame place code (omega (arith, place_is)) (omega (arith, place_is))),
      )

  pub program-kept : ProgramStands image t s → ProgramStands image t after
  program-kept stands point inside =
      let ends = facts.ends in
      let address = address_of t.thread point in
      same-word (content_of s (tcb_of image t)) (content_of after (tcb_of image t)) accesses.Fetch address (slice_index t.thread.words point)
      (omega (arith, ends, inside))
      (λ k less.
      let there : t.thread.header.base + (4 * point + k) ≡ address_of t.thread point + k = omega arith in
      subst (IsSameAt (content_of s (tcb_of image t)) (content_of after (tcb_of image t)) accesses.Fetch) there
      (same-at (t.thread.header.base + (4 * point + k)) (program-page image t (4 * point + k) facts.pages facts.base (omega (arith, inside, less)))))
      (stands point inside)
