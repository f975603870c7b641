-- Map and Unmap by what their checks answer.
use Rattle.std.proofs.Common.{ℕ, ◌≡◌, ◌∙◌, ◌==◌, ◌/◌, ◌%◌, ◌||◌, Bool, true, false, not, nat_lt, Option, Some, None, Result, Ok, Err, List, refl, ap}
use Rattle.model.specs.declared.capabilities.Cap.{Cap}
use Rattle.model.specs.declared.capabilities.Cap.TheVariants.{Empty, Untyped, Endpoint, Notification, CNode, Frame, PageTable, Tcb, RootTable, InterruptControl}
use Rattle.model.specs.declared.capabilities.Cap.TheVariants.{InterruptHandler}
use Rattle.model.specs.declared.capabilities.FrameMapping.{FrameMapping}
use Rattle.model.specs.declared.errors.KError.{KError}
use Rattle.model.specs.declared.errors.KError.TheVariants.{AlignmentError, DeleteFirst, FailedLookup, IllegalOperation, InvalidArgument, InvalidCapability}
use Rattle.model.specs.declared.invocations.FrameCall.TheVariants.{MapFrame, UnmapFrame}
use Rattle.model.specs.declared.invocations.Invocation.TheVariants.{OnFrame}
use Rattle.model.specs.declared.invocations.SlotName.{SlotName}
use Rattle.model.specs.declared.refusals.Point.{Point}
use Rattle.model.specs.declared.refusals.Refusal.{Refusal}
use Rattle.model.specs.declared.refusals.Refusal.TheVariants.{CallRefused}
use Rattle.model.specs.declared.rights.Rights.{Rights}
use Rattle.model.specs.Acceptance.NotedKernel.{boot_parent, noted_kernel, noted_root, noted_slots, slot_of_key}
use Rattle.model.specs.Acceptance.NotedStates.{NotedSlot, slot_at, with_noted}
use Rattle.model.specs.Capabilities.CapabilityKinds.{frame_mapping, unmapped, with_frame_mapping}
use Rattle.model.specs.Capabilities.Rights.{mapping_rights, may_execute, may_read}
use Rattle.model.specs.Capabilities.Slots.{Slots, is_empty, recapped}
use Rattle.model.specs.Images.Image.{Image, Thread}
use Rattle.model.specs.Kernel.AddressSpaces.{address_limit, is_page_taken, is_region_taken, page_size, region_pages}
use Rattle.model.specs.Kernel.Arguments.{◌>>=◌, Call, check}
use Rattle.model.specs.Kernel.MappingCalls.{is_mapped, map_frame, root_named}
use Rattle.model.specs.Kernel.State.{State, with_slots}
use Rattle.typestate.specs.Calls.{call_on}
use Rattle.typestate.specs.Invocations.{IsCallOn, held_after, mapping_made}
use Rattle.typestate.specs.Spaces.{AreOwn, StandsApart}
use Rattle.typestate.proofs.Allowed.{chain, kernel-refuses}
use Rattle.typestate.proofs.HeldCaps.{recap-back}
use Rattle.typestate.proofs.Rising.{RiseFrom}

-- a frame's capability keeps its object, and stays one
pub frame-kept : (image : Image) (t : Thread) (c : Cap) (r : Rights) (m : Option FrameMapping) → IsCallOn c (OnFrame r UnmapFrame)
    → (boot_parent image t (with_frame_mapping c m) ≡ boot_parent image t c) × (is_empty (with_frame_mapping c m) ≡ false)
    × (unmapped c ≡ with_frame_mapping c None)
frame-kept image t Empty r m is = absurd is
frame-kept image t (Untyped _ _ _) r m is = absurd is
frame-kept image t (Endpoint _ _ _) r m is = absurd is
frame-kept image t (Notification _ _ _) r m is = absurd is
frame-kept image t (CNode _ _ _) r m is = absurd is
frame-kept image t (Frame _ _ _) r m is = (refl, refl, refl)
frame-kept image t (PageTable _ _) r m is = absurd is
frame-kept image t (Tcb _) r m is = absurd is
frame-kept image t (RootTable _) r m is = absurd is
frame-kept image t InterruptControl r m is = absurd is
frame-kept image t (InterruptHandler _) r m is = absurd is

pub any-frame : (c : Cap) (r : Rights) (root : SlotName) (address word : ℕ) → IsCallOn c (OnFrame r (MapFrame root address word)) →
    IsCallOn c (OnFrame r UnmapFrame)
any-frame Empty r root address word is = absurd is
any-frame (Untyped _ _ _) r root address word is = absurd is
any-frame (Endpoint _ _ _) r root address word is = absurd is
any-frame (Notification _ _ _) r root address word is = absurd is
any-frame (CNode _ _ _) r root address word is = absurd is
any-frame (Frame _ _ _) r root address word is = is
any-frame (PageTable _ _) r root address word is = absurd is
any-frame (Tcb _) r root address word is = absurd is
any-frame (RootTable _) r root address word is = absurd is
any-frame InterruptControl r root address word is = absurd is
any-frame (InterruptHandler _) r root address word is = absurd is

-- the checks one after another, and those of the address and behind it for themselves
by-checks : (a : Bool) (r : Result ℕ KError) (b c : Bool) (page : ℕ) (d e : ℕ → ℕ → Bool) (f : Bool) (m : ℕ → ℕ → FrameMapping)
    (k : FrameMapping → Result State KError)
    → (check a InvalidCapability >>= λ _. r >>= λ root. check b InvalidArgument >>= λ _. check c AlignmentError >>= λ _. check (d root page) FailedLookup
    >>= λ _. check (not (e root page)) DeleteFirst >>= λ _. check f InvalidArgument >>= λ _. k (m root page))
    ≡ ((check a InvalidCapability >>= λ _. r >>= λ root. (check b InvalidArgument >>= λ _. check c AlignmentError >>= λ _. Ok page) >>= λ page.
    check (d root page) FailedLookup >>= λ _. check (not (e root page)) DeleteFirst >>= λ _. check f InvalidArgument >>= λ _. Ok (m root page)) >>= k)
by-checks false r b c page d e f m k = refl
by-checks true (Err error) b c page d e f m k = refl
by-checks true (Ok root) false c page d e f m k = refl
by-checks true (Ok root) true false page d e f m k = refl
by-checks true (Ok root) true true page d e f m k = by-place (d root page) (e root page) f
  where
    by-place : (d e f : Bool) → (check d FailedLookup >>= λ _. check (not e) DeleteFirst >>= λ _. check f InvalidArgument >>= λ _. k (m root page))
        ≡ ((check d FailedLookup >>= λ _. check (not e) DeleteFirst >>= λ _. check f InvalidArgument >>= λ _. Ok (m root page)) >>= k)
    by-place false e f = refl
    by-place true true f = refl
    by-place true false false = refl
    by-place true false true = refl

module _ (image : Image) (t : Thread) (at : Point) (slots : List NotedSlot) (held : NotedSlot) where
  abbrev all : Slots
  all = noted_slots image t slots

  abbrev s : State
  s = noted_kernel image t slots

  abbrev call : Call
  call = call_on image t (slot_of_key image held.key) held.capability

  abbrev mapped_with : FrameMapping → Result State KError
  mapped_with m = Ok (with_slots s (recapped all (slot_of_key image held.key) (with_frame_mapping held.capability (Some m))))

  map-made : (allowed : Rights) (root : SlotName) (address word : ℕ) →
      map_frame s call allowed root address word ≡ (mapping_made image t slots (frame_mapping held.capability) allowed root address word >>= mapped_with)
  unfolding noted_kernel
  map-made allowed root address word =
      let given = mapping_rights allowed word in
      by-checks (not (is_mapped (frame_mapping held.capability))) (root_named all (noted_root image t) root) (nat_lt address address_limit)
      (address % page_size == 0) (address / page_size)
      (λ place page. is_region_taken s place (page / region_pages)) (λ place page. is_page_taken s place page) (may_read given || may_execute given)
      (λ place page. record { root = place; page = page; rights = given }) mapped_with

  pub map-refused : (allowed : Rights) (root : SlotName) (address word : ℕ) (error : KError) →
      mapping_made image t slots (frame_mapping held.capability) allowed root address word ≡ Err error
      → held_after image t at slots held (OnFrame allowed (MapFrame root address word)) ≡ Err (CallRefused at error)
  map-refused allowed root address word error is =
      kernel-refuses image t at false (word / 4 % 2 == 0) (map_frame s call allowed root address word) error
      (map-made allowed root address word ∙ ap (λ (r : Result FrameMapping KError). r >>= mapped_with) is)

  pub map-executes : (allowed : Rights) (root : SlotName) (address word : ℕ) (m : FrameMapping) →
      mapping_made image t slots (frame_mapping held.capability) allowed root address word ≡ Ok m
      → (word / 4 % 2 == 0) ≡ false → held_after image t at slots held (OnFrame allowed (MapFrame root address word)) ≡ Err (CallRefused at IllegalOperation)
  map-executes allowed root address word m is executes =
      ap (chain image t at false (word / 4 % 2 == 0)) (map-made allowed root address word ∙ ap (λ (r : Result FrameMapping KError). r >>= mapped_with) is)
      ∙ ap (λ b. chain image t at false b (mapped_with m)) executes

  module _ (stand : StandsApart image t) (are : AreOwn image t slots) (rises : RiseFrom 0 slots) (at-key : slot_at slots held.key ≡ Some held) where
    recapped-noted : (c : Cap) → boot_parent image t c ≡ boot_parent image t held.capability → is_empty c ≡ false
        → chain image t at false true (Ok (with_slots s (recapped all (slot_of_key image held.key) c))) ≡ Ok
        (with_noted slots (record { key = held.key; capability = c; parent = held.parent }))
    recapped-noted c boot full = ap (λ (l : List NotedSlot). let r : Result (List NotedSlot) Refusal = Ok l in r)
        (recap-back image t stand slots are held c rises at-key boot full)

    pub map-goes : (allowed : Rights) (root : SlotName) (address word : ℕ) (m : FrameMapping) →
        mapping_made image t slots (frame_mapping held.capability) allowed root address word ≡ Ok m
        → (word / 4 % 2 == 0) ≡ true → IsCallOn held.capability (OnFrame allowed (MapFrame root address word))
        → held_after image t at slots held (OnFrame allowed (MapFrame root address word)) ≡ Ok
        (with_noted slots (record { key = held.key; capability = with_frame_mapping held.capability (Some m); parent = held.parent }))
    map-goes allowed root address word m is data-only frame =
        let kept = frame-kept image t held.capability allowed (Some m) (any-frame held.capability allowed root address word frame) in
        ap (chain image t at false (word / 4 % 2 == 0)) (map-made allowed root address word ∙ ap (λ (r : Result FrameMapping KError). r >>= mapped_with) is)
        ∙ ap (λ b. chain image t at false b (mapped_with m)) data-only
        ∙ recapped-noted (with_frame_mapping held.capability (Some m)) kept.0 kept.1

    pub unmap-goes : (allowed : Rights) → IsCallOn held.capability (OnFrame allowed UnmapFrame)
        → held_after image t at slots held (OnFrame allowed UnmapFrame) ≡ Ok
        (with_noted slots (record { key = held.key; capability = with_frame_mapping held.capability None; parent = held.parent }))
    unfolding noted_kernel
    unmap-goes allowed frame =
        let kept = frame-kept image t held.capability allowed None frame in
        ap (λ (c : Cap). chain image t at false true (Ok (with_slots s (recapped all (slot_of_key image held.key) c)))) kept.2
        ∙ recapped-noted (with_frame_mapping held.capability None) kept.0 kept.1
