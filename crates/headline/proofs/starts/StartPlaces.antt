-- Where the addresses of a thread's program lie: in the frame that the image maps there, for fetching.
use Rattle.std.proofs.Common.{ℕ, zero, suc, ◌≡◌, ◌∙◌, ◌==◌, ◌+◌, ◌-◌, ◌*◌, ◌/◌, ◌%◌, ◌^◌, ◌<◌, ◌≤◌, ◌&&◌, inl, inr, Bool, true, false, not, bit_and}
use Rattle.std.proofs.Common.{if◌then◌else◌, List, [], ◌∷◌, Option, Some, None, option_and_then, option_map, refl, sym, ap, subst, arith}
use Rattle.std.specs.Prelude.{filter_map, slice_get}
use Rattle.std.specs.Option.{option_map_or}
use Rattle.std.specs.List.{cons_option, range_with_len}
use Rattle.std.proofs.lemmas.Bool.{and_parts, eq-eqb, eqb-true, cases_lt, false≢true}
use Rattle.std.proofs.lemmas.Bool.Decides.{eqb_tells}
use Rattle.std.proofs.lemmas.Option.{none-some, same_Some, slice_get_within, slice_get-map}
use Rattle.format_laws.specs.Fitting.{FrameFits, IsFitting}
use Rattle.format_laws.proofs.Laws.{is-fitting}
use Rattle.soundness.specs.boot_laws.Loading.{all_loaded}
use Rattle.soundness.proofs.Laws.{AreFormed, ReadsBoot, ThreadKept, are-formed, boot-slots-suffice, first_of_type, range-at, reads-vspace}
use Rattle.model.specs.declared.capabilities.Cap.{Cap}
use Rattle.model.specs.declared.capabilities.Cap.TheVariants.{Empty, Untyped, Endpoint, Notification, CNode, Frame, PageTable, Tcb, RootTable, InterruptControl}
use Rattle.model.specs.declared.capabilities.Cap.TheVariants.{InterruptHandler}
use Rattle.model.specs.declared.capabilities.FrameMapping.{FrameMapping}
use Rattle.model.specs.declared.entries.FrameEntry.{FrameEntry}
use Rattle.model.specs.declared.instructions.Access.TheVariants.{Fetch}
use Rattle.model.specs.declared.rights.Rights.{Rights}
use Rattle.model.specs.Acceptance.Accepted.{IsWellFormed}
use Rattle.model.specs.Acceptance.ThreadRules.{is_code}
use Rattle.model.specs.Acceptance.WellFormed.{executes, is_root_type, is_table_type}
use Rattle.model.specs.Capabilities.CapabilityKinds.{root_of}
use Rattle.model.specs.Capabilities.Rights.{frame_rights, mapping_rights, may_execute}
use Rattle.model.specs.Capabilities.Slots.{capability_at}
use Rattle.model.specs.Images.Described.{Numbered, described, original}
use Rattle.model.specs.Images.Fills.{frame_at, program_pages}
use Rattle.model.specs.Images.Image.{Image, Thread, pair_key, whole_image}
use Rattle.model.specs.Images.Places.{frame_copy_slot, offset_of, type_at}
use Rattle.model.specs.Kernel.AddressSpaces.{MappedFrame, content_of, is_page, mapped, page_of, page_size, place_in, place_under, vspace_of}
use Rattle.model.specs.Kernel.Retype.{NewObject, NewUntyped, NewThread, NewEndpoint, NewNotification, NewCNode, NewFrame, NewPageTable, NewRootTable}
use Rattle.model.specs.Kernel.Scheduling.{head_of}
use Rattle.model.specs.Kernel.State.{slot_numbers, slots_of, vspace_slot}
use Rattle.thread_spaces.specs.Given.{IsListed}
use Rattle.thread_spaces.proofs.Laws.{all-within, boot-holds, boot-room, capability-shown, find-passed, from-loaded, original-plain}
use Rattle.headline.proofs.starts.ListFacts.{all-at, contained}
use Rattle.headline.proofs.starts.StartMaps.{maps-listed}

-- ---- the only one that some slot gives

behind-none : {A : Type 0} (g : ℕ → Option A) (n : ℕ) (ns : List ℕ) (v : A) (k x : ℕ) → slice_get (n ∷ ns) k ≡ Some x → g x ≡ Some v → g n ≡ None
    → ((j : ℕ) → slice_get ns j ≡ Some x → head_of (filter_map g ns) ≡ Some v) → head_of (filter_map g ns) ≡ Some v
behind-none g n ns v zero x at is none rest = absurd (none-some v (sym none ∙ ap g (same_Some n x at) ∙ is))
behind-none g n ns v (suc k) x at is none rest = rest k at

-- whatever gives something gives this
head-only : {A : Type 0} (g : ℕ → Option A) (xs : List ℕ) (v : A) → ((x : ℕ) (y : A) → g x ≡ Some y → y ≡ v) → (k x : ℕ) → slice_get xs k ≡ Some x →
    g x ≡ Some v → head_of (filter_map g xs) ≡ Some v
head-only g [] v only k x at is = absurd (none-some x at)
head-only g (n ∷ ns) v only k x at is =
    elim (g n) as (λ o. g n ≡ o → head_of (cons_option o (filter_map g ns)) ≡ Some v) [
      | Some y ↦ λ here. ap (λ z. Some z) (only n y here)
      | None ↦ λ none. behind-none g n ns v k x at is none (λ j there. head-only g ns v only j x there is)
    ] refl

-- a slot of memory is one of the numbers
numbers-get : (bits slot : ℕ) → slot < 2 ^ bits / 16 → slice_get (slot_numbers bits) slot ≡ Some slot
unfolding slot_numbers
numbers-get bits slot less = range-at (2 ^ bits / 16) slot less

-- ---- what a capability maps at a page

-- a capability to a frame that is mapped there
record MapsFrame (root page : ℕ) (m : MappedFrame) (c : Cap) : Type 0 where
  held : Rights
  is : c ≡ Frame m.frame held (Some (record { root = root; page = page; rights = m.allowed }))

if-page : (root page offset : ℕ) (r : Rights) (mapping : FrameMapping) (m : MappedFrame) (b : Bool) → is_page root page mapping ≡ b
    → (if b then Some (let f : MappedFrame = record { frame = offset; allowed = mapping.rights } in f) else None) ≡ Some m →
    MapsFrame root page m (Frame offset r (Some mapping))
if-page root page offset r mapping m false test is = absurd (none-some m is)
if-page root page offset r mapping m true test is =
    let parts = and_parts (mapping.root == root) (mapping.page == page) test in
    let same = same_Some _ m is in
    let root_is = eqb-true mapping.root root parts.0 in
    let page_is = eqb-true mapping.page page parts.1 in
    record {
      held = r;
      is = λ i. Frame (MappedFrame.frame (same i)) r (Some (record { root = root_is i; page = page_is i; rights = MappedFrame.allowed (same i) }));
    }

page-maps : (root page : ℕ) (c : Cap) (m : MappedFrame) → page_of root page c ≡ Some m → MapsFrame root page m c
page-maps root page (Frame offset r (Some mapping)) m is = if-page root page offset r mapping m (is_page root page mapping) refl is
page-maps root page (Frame offset r None) m is = absurd (none-some m is)
page-maps root page Empty m is = absurd (none-some m is)
page-maps root page (Untyped _ _ _) m is = absurd (none-some m is)
page-maps root page (Endpoint _ _ _) m is = absurd (none-some m is)
page-maps root page (Notification _ _ _) m is = absurd (none-some m is)
page-maps root page (CNode _ _ _) m is = absurd (none-some m is)
page-maps root page (PageTable _ _) m is = absurd (none-some m is)
page-maps root page (Tcb _) m is = absurd (none-some m is)
page-maps root page (RootTable _) m is = absurd (none-some m is)
page-maps root page InterruptControl m is = absurd (none-some m is)
page-maps root page (InterruptHandler _) m is = absurd (none-some m is)

maps-page : (root page frame : ℕ) (r allowed : Rights)
    → page_of root page (Frame frame r (Some (record { root = root; page = page; rights = allowed }))) ≡ Some (record { frame = frame; allowed = allowed })
maps-page root page frame r allowed =
    ap (λ b. if b && page == page then Some (let f : MappedFrame = record { frame = frame; allowed = allowed } in f) else None) (eq-eqb root root refl)
    ∙ ap (λ b. if b then Some (let f : MappedFrame = record { frame = frame; allowed = allowed } in f) else None) (eq-eqb page page refl)

-- ---- rights

fetches : (n : ℕ) → n ≤ 7 → not (bit_and n 4 == 0) ≡ true → may_execute (mapping_rights frame_rights n) ≡ true
fetches zero few is = absurd (false≢true is)
fetches (suc zero) few is = absurd (false≢true is)
fetches (suc (suc zero)) few is = absurd (false≢true is)
fetches (suc (suc (suc zero))) few is = absurd (false≢true is)
fetches (suc (suc (suc (suc zero)))) few is = refl
fetches (suc (suc (suc (suc (suc zero))))) few is = refl
fetches (suc (suc (suc (suc (suc (suc zero)))))) few is = refl
fetches (suc (suc (suc (suc (suc (suc (suc zero))))))) few is = refl
fetches (suc (suc (suc (suc (suc (suc (suc (suc n)))))))) few is = absurd (omega (arith, few))

root-kind : (kind : Option NewObject) (offset : ℕ) → is_root_type kind ≡ true → (is_table_type kind ≡ false) × (first_of_type kind offset ≡ RootTable offset)
root-kind None offset is = absurd (false≢true is)
root-kind (Some (NewUntyped bits)) offset is = absurd (false≢true is)
root-kind (Some NewThread) offset is = absurd (false≢true is)
root-kind (Some NewEndpoint) offset is = absurd (false≢true is)
root-kind (Some NewNotification) offset is = absurd (false≢true is)
root-kind (Some (NewCNode radix)) offset is = absurd (false≢true is)
root-kind (Some NewFrame) offset is = absurd (false≢true is)
root-kind (Some NewPageTable) offset is = absurd (false≢true is)
root-kind (Some NewRootTable) offset is = (refl, refl)

-- ---- a thread's pages

-- the image maps a page of code there
pub record IsPageOfCode (image : Image) (t : Thread) (page : ℕ) : Type 0 where
  pub place : ℕ
  pub entry : FrameEntry
  pub at : slice_get image.frames place ≡ Some entry
  pub root : entry.root ≡ t.header.root
  pub address : entry.address ≡ page * page_size
  pub found : frame_at image t.header.root (page * page_size) ≡ Some entry
  pub executes : executes entry ≡ true
  -- one of the program's pages
  pub number : ℕ
  pub listed : slice_get (program_pages t) number ≡ Some (page * page_size)

module _ (image : Image) (fits : whole_image.fits image ≡ true) (well : IsWellFormed image) where
  fitting : IsFitting image
  fitting = is-fitting image fits

  formed : AreFormed image
  formed = are-formed image well

  -- two entries of one root table and address are one
  pub one-entry : (j k : ℕ) (e f : FrameEntry) → slice_get image.frames j ≡ Some e → slice_get image.frames k ≡ Some f → e.root ≡ f.root →
      e.address ≡ f.address → e ≡ f
  one-entry j k e f one two root address = elim (cases_lt j k) [
    | inl less ↦ absurd (let rise : pair_key e.root e.address < pair_key f.root f.address = fitting.pages_rise j k e f less one two in
        omega (arith, rise, root, address))
    | inr most ↦ elim (eqb_tells k j) [
      | inl same ↦ same_Some e f (sym one ∙ ap (slice_get image.frames) (sym same.1) ∙ two)
      | inr other ↦ absurd (let rise : pair_key f.root f.address < pair_key e.root e.address =
          fitting.pages_rise k j f e (omega (arith, most, other.1)) two one in omega (arith, rise, root, address))
    ]
  ]

  module _ (t : Numbered) (listed : IsListed image t.thread) where
    abbrev root : ℕ
    root = offset_of image t.thread.header.root

    abbrev tcb : ℕ
    tcb = offset_of image t.thread.header.tcb

    kept : ThreadKept image listed.number t.thread
    kept = AreFormed.thread formed listed.number t.thread listed.listed

    -- ---- the root table

    pub vspace-shown : capability_at (described image).slots (vspace_slot tcb) ≡ original image t.thread.header.root
    vspace-shown =
        let less : listed.number < image.header.threads = subst (λ (n : ℕ). listed.number < n) (IsFitting.threads fitting)
        (slice_get_within image.threads listed.number t.thread listed.listed) in
        capability-shown image (vspace_slot tcb) _
        (from-loaded image (vspace_slot tcb) _ fitting
        (reads-vspace image fitting formed (all_loaded image) (all-within image) refl listed.number t.thread less listed.listed))

    original-root : original image t.thread.header.root ≡ RootTable root
    original-root =
        let kind = root-kind (type_at image t.thread.header.root) root (ThreadKept.root kept) in
        original-plain image t.thread.header.root kind.0 ∙ kind.1

    vspace-is : vspace_of (described image) tcb ≡ Some root
    vspace-is = ap root_of (vspace-shown ∙ original-root)

    -- ---- what is mapped at a page

    mapped-frame : (k : ℕ) (f : FrameEntry) (page : ℕ) → slice_get image.frames k ≡ Some f → f.root ≡ t.thread.header.root → f.address ≡ page * page_size
        → mapped (described image) root page ≡ Some (record { frame = offset_of image f.frame; allowed = mapping_rights frame_rights f.rights })
    unfolding described
    mapped-frame k f page at same_root same_address =
        let less : k < image.header.frames = subst (λ (n : ℕ). k < n) (IsFitting.frames fitting) (slice_get_within image.frames k f at) in
        let enough = boot-slots-suffice image fitting formed in
        let room = boot-room image fitting in
        let slot = frame_copy_slot image k in
        let v : MappedFrame = record { frame = offset_of image f.frame; allowed = mapping_rights frame_rights f.rights } in
        let there = copy-there k f page at same_root same_address in
        head-only (λ n. page_of root page (capability_at (described image).slots n)) (slots_of (described image)) v
        (λ n m is. let one = page-maps root page (capability_at (described image).slots n) m is in
        let found = maps-listed image fits well t listed page m.frame m.allowed (record { slot = n; frame_rights = one.held; capability = one.is }) in
        let place = contained image.frames found.entry found.listed in
        let same : found.entry ≡ f = one-entry place.0 k found.entry f place.1 at (found.root ∙ sym same_root) (found.address ∙ sym same_address) in
        λ i. record {
          frame = (found.object ∙ ap (λ (e : FrameEntry). offset_of image e.frame) same) i;
          allowed =
              (found.rights ∙ ap (λ (e : FrameEntry). mapping_rights frame_rights e.rights) same) i;
        })
        slot slot (numbers-get image.header.memory_bits slot (omega (arith, less, enough, room))) there
      where
        copy-there : (k : ℕ) (f : FrameEntry) (page : ℕ) → slice_get image.frames k ≡ Some f → f.root ≡ t.thread.header.root → f.address ≡ page * page_size
            → page_of root page (capability_at (described image).slots (frame_copy_slot image k)) ≡ Some
            (record { frame = offset_of image f.frame; allowed = mapping_rights frame_rights f.rights })
        copy-there k f page at same_root same_address =
            let less : k < image.header.frames = subst (λ (n : ℕ). k < n) (IsFitting.frames fitting) (slice_get_within image.frames k f at) in
            let shown = from-loaded image (frame_copy_slot image k) _ fitting (ReadsBoot.frame (boot-holds image fits well) k f less at) in
            let root_is : offset_of image f.root ≡ root = ap (offset_of image) same_root in
            let page_is : f.address / page_size ≡ page = omega (arith, same_address) in
            ap (page_of root page) (capability-shown image (frame_copy_slot image k) _ shown
            ∙ (λ i. Frame (offset_of image f.frame) frame_rights
            (Some (record { root = root_is i; page = page_is i; rights = mapping_rights frame_rights f.rights }))))
            ∙ maps-page root page (offset_of image f.frame) frame_rights (mapping_rights frame_rights f.rights)

    -- ---- pages of code

    abbrev base : ℕ
    base = t.thread.header.base

    whole : base % page_size ≡ 0
    whole = eqb-true (base % page_size) 0 (ThreadKept.base kept)

    code-there : (address : ℕ) → is_code image t.thread address ≡ true → (f : FrameEntry) × (frame_at image t.thread.header.root address ≡ Some f)
        × (executes f ≡ true)
    code-there address is =
        elim (frame_at image t.thread.header.root address) as (λ o. option_map_or executes o false ≡ true → (f : FrameEntry) × (o ≡ Some f)
        × (executes f ≡ true)) [
          | None ↦ λ clash. absurd (false≢true clash)
          | Some f ↦ λ runs. (f, refl, runs)
        ] is

    pub page-of-code : (b : ℕ) → b < 4 * t.thread.header.words → IsPageOfCode image t.thread ((base + b) / page_size)
    page-of-code b less =
        let q = b / page_size in
        let page = (base + b) / page_size in
        let count = (4 * t.thread.header.words + (page_size - 1)) / page_size in
        let even = whole in
        let address : base + q * page_size ≡ page * page_size = omega (arith, even) in
        let at : slice_get (program_pages t.thread) q ≡ Some (base + q * page_size) =
        slice_get-map (λ (n : ℕ). base + n * page_size) (range_with_len 0 count) q
        ∙ ap (option_map (λ (n : ℕ). base + n * page_size)) (range-at count q (omega (arith, less))) in
        let code = code-there (page * page_size)
        (subst (λ (n : ℕ). is_code image t.thread n ≡ true) address
        (all-at (is_code image t.thread) (program_pages t.thread) q (base + q * page_size) (ThreadKept.code kept) at)) in
        let f = code.0 in
        let passed = find-passed (λ (e : FrameEntry). e.root == t.thread.header.root && e.address == page * page_size) image.frames f code.1 in
        let parts = and_parts (f.root == t.thread.header.root) (f.address == page * page_size) passed.passes in
        record {
          place = passed.place;
          entry = f;
          at = passed.at;
          root = eqb-true f.root t.thread.header.root parts.0;
          address = eqb-true f.address (page * page_size) parts.1;
          found = code.1;
          executes = code.2;
          number = q;
          listed = at ∙ ap (λ (n : ℕ). Some n) address;
        }

    -- where a byte of the program lies
    pub place-of-code : (b : ℕ) (less : b < 4 * t.thread.header.words)
        → (content_of (described image) tcb).place Fetch (base + b) ≡ Some (offset_of image (page-of-code b less).entry.frame + (base + b) % page_size)
    place-of-code b less =
        let page = page-of-code b less in
        let f = page.entry in
        let s = described image in
        let few : f.rights ≤ 7 = FrameFits.rights (IsFitting.frame fitting page.place f page.at) in
        ap (λ (o : Option ℕ). option_and_then (λ r. place_under s r Fetch (base + b)) o) vspace-is
        ∙ ap (λ (o : Option MappedFrame). option_and_then (place_in Fetch (base + b)) o)
        (mapped-frame page.place f ((base + b) / page_size) page.at page.root page.address)
        ∙ ap (λ c. if c then Some (offset_of image f.frame + (base + b) % page_size) else None) (fetches f.rights few page.executes)
