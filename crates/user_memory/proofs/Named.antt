-- A place that an address names lies in a frame that a capability maps.
use Rattle.std.proofs.Common.{ℕ, ◌≡◌, ◌∙◌, ◌+◌, ◌/◌, ◌%◌, ◌^◌, ◌<◌, Bool, true, false, if◌then◌else◌, Option, Some, None, IsSome, Ok, Err, List, [], ◌∷◌}
use Rattle.std.proofs.Common.{length, refl, sym, ap, subst, arith}
use Rattle.std.specs.Prelude.{filter_map, option_and_then}
use Rattle.kernel_invariant.specs.Agreement.{Agrees}
use Rattle.kernel_invariant.proofs.Laws.{no-slot}
use Rattle.model.specs.Capabilities.CapabilityWords.{IsCapability}
use Rattle.model.specs.Capabilities.Slots.{OutsideSlots, Slots, capability_at}
use Rattle.model.specs.Kernel.AddressSpaces.{MappedFrame, allows, mapped, page_of, page_size, place_in, place_under}
use Rattle.model.specs.Kernel.Scheduling.{head_of}
use Rattle.model.specs.Kernel.State.{State, slots_of}
use Rattle.model.specs.Machine.ProgramMemory.{IsNamed, place_or_fault}
use Rattle.model.specs.declared.capabilities.Cap.{Cap}
use Rattle.model.specs.declared.capabilities.Cap.TheVariants.{Empty, Untyped, Endpoint, Notification, CNode, Frame, PageTable, Tcb, RootTable, InterruptControl}
use Rattle.model.specs.declared.capabilities.Cap.TheVariants.{InterruptHandler}
use Rattle.model.specs.declared.capabilities.FrameMapping.{FrameMapping}
use Rattle.model.specs.declared.instructions.Access.{Access}
use Rattle.model.specs.declared.rights.Rights.{Rights}
use Rattle.user_memory.specs.Views.{IsUsable, content_under}

-- ---- what an answer says of its parts

pub and-then : {A B : Type 0} (f : A → Option B) (o : Option A) (b : B) → option_and_then f o ≡ Some b → (a : A) × (o ≡ Some a) × (f a ≡ Some b)
and-then f None b is = absurd (let clash : None ≡ Some b = is in cc)
and-then f (Some a) b is = (a, refl, is)

pub place-found : (o : Option ℕ) (access : Access) (address place : ℕ) → place_or_fault o access address ≡ Ok place → o ≡ Some place
place-found None access address place is = absurd (let clash : Err (record { address = address; access = access }) ≡ Ok place = is in cc)
place-found (Some found) access address place is = let same : Ok found ≡ Ok place = is in let e : found ≡ place = cc in ap Some e

-- the first that is found is in the list
first-found : {A : Type 0} (f : ℕ → Option A) (l : List ℕ) (a : A) → head_of (filter_map f l) ≡ Some a → (n : ℕ) × (f n ≡ Some a)
first-found f [] a is = absurd (let clash : None ≡ Some a = is in cc)
first-found f (n ∷ l) a is = elim (f n) as (λ o. f n ≡ o → (n : ℕ) × (f n ≡ Some a)) [
  | None ↦ λ none. first-found f l a (let step : head_of (filter_map f (n ∷ l)) ≡ head_of (filter_map f l) = rw none refl in sym step ∙ is)
  | Some b ↦ λ some. (n, some ∙ (let step : head_of (filter_map f (n ∷ l)) ≡ Some b = rw some refl in sym step ∙ is))
] refl

in-page : (b : Bool) (at place : ℕ) → (if b then Some at else None) ≡ Some place → at ≡ place
in-page true at place is = let same : Some at ≡ Some place = is in cc
in-page false at place is = absurd (let clash : None ≡ Some place = is in cc)

-- ---- the frame at a page

-- a capability maps a frame
pub record IsMappedFrame (c : Cap) (frame : ℕ) : Type 0 where
  pub frame_rights : Rights
  pub mapping : FrameMapping
  pub is : c ≡ Frame frame frame_rights (Some mapping)

frame-at : (b : Bool) (offset : ℕ) (r : Rights) (m : FrameMapping) (at : MappedFrame)
    → (if b then Some (record { frame = offset; allowed = m.rights }) else None) ≡ Some at → IsMappedFrame (Frame offset r (Some m)) at.frame
frame-at true offset r m at is =
    let same : offset ≡ at.frame = ap (λ (o : Option MappedFrame). elim o [ None ↦ offset | Some f ↦ f.frame ]) is in
    record { frame_rights = r; mapping = m; is = ap (λ (n : ℕ). Frame n r (Some m)) same }
frame-at false offset r m at is = absurd (let clash : None ≡ Some at = is in cc)

mapped-frame : (root page : ℕ) (c : Cap) (at : MappedFrame) → page_of root page c ≡ Some at → IsMappedFrame c at.frame
mapped-frame root page (Frame offset r (Some m)) at is = frame-at _ offset r m at is
mapped-frame root page (Frame offset r None) at is = absurd (let clash : None ≡ Some at = is in cc)
mapped-frame root page Empty at is = absurd (let clash : None ≡ Some at = is in cc)
mapped-frame root page (Untyped _ _ _) at is = absurd (let clash : None ≡ Some at = is in cc)
mapped-frame root page (Endpoint _ _ _) at is = absurd (let clash : None ≡ Some at = is in cc)
mapped-frame root page (Notification _ _ _) at is = absurd (let clash : None ≡ Some at = is in cc)
mapped-frame root page (CNode _ _ _) at is = absurd (let clash : None ≡ Some at = is in cc)
mapped-frame root page (PageTable _ _) at is = absurd (let clash : None ≡ Some at = is in cc)
mapped-frame root page (Tcb _) at is = absurd (let clash : None ≡ Some at = is in cc)
mapped-frame root page (RootTable _) at is = absurd (let clash : None ≡ Some at = is in cc)
mapped-frame root page InterruptControl at is = absurd (let clash : None ≡ Some at = is in cc)
mapped-frame root page (InterruptHandler _) at is = absurd (let clash : None ≡ Some at = is in cc)

-- a place in a frame that a capability maps
pub record IsMapped (slots : Slots) (place : ℕ) : Type 0 where
  pub slot : ℕ
  pub frame : ℕ
  pub offset : ℕ
  pub within : offset < page_size
  pub is : place ≡ frame + offset
  pub held : IsMappedFrame (capability_at slots slot) frame

pub under-root : (s : State) (root : ℕ) (access : Access) (address place : ℕ) → place_under s root access address ≡ Some place → IsMapped s.slots place
under-root s root access address place is =
    let at = and-then (place_in access address) (mapped s root (address / page_size)) place is in
    let slot = first-found (λ n. page_of root (address / page_size) (capability_at s.slots n)) (slots_of s) at.0 at.1 in
    record {
      slot = slot.0;
      frame = at.0.frame;
      offset = address % page_size;
      within = omega arith;
      is = sym (in-page (allows access at.0.allowed) (at.0.frame + address % page_size) place at.2);
      held = mapped-frame root (address / page_size) (capability_at s.slots slot.0) at.0 slot.1;
    }

pub found-mapped : (s : State) (root : Option ℕ) (access : Access) (address place : ℕ) → (content_under s root).place access address ≡ Some place
    → IsMapped s.slots place
found-mapped s root access address place is =
    let table = and-then (λ (table : ℕ). place_under s table access address) root place is in
    under-root s table.0 access address place table.2

pub named-mapped : (s : State) (root : Option ℕ) (place : ℕ) → IsNamed (content_under s root) place → IsMapped s.slots place
named-mapped s root place n =
    found-mapped s root n.access n.address place (place-found ((content_under s root).place n.access n.address) n.access n.address place n.names)

-- ---- the memory of such a place

module _ (s : State) (memory : List ℕ) (root : Option ℕ) (usable : IsUsable s memory root) (place : ℕ) (is_mapped : IsMapped s.slots place) where
  aligned : is_mapped.frame % 2 ^ 12 ≡ 0
  aligned =
      let valid : IsCapability (Frame is_mapped.frame is_mapped.held.frame_rights (Some is_mapped.held.mapping)) =
      subst (λ (c : Cap). IsCapability c) is_mapped.held.is (usable.agrees.tables.valid is_mapped.slot) in valid.0.0

  pub place-inside : place < length memory
  place-inside =
      let whole = usable.agrees.tables.frames is_mapped.slot is_mapped.frame is_mapped.held.frame_rights is_mapped.held.mapping is_mapped.held.is in
      omega (arith, whole, is_mapped.is, is_mapped.within)

  pub place-some : IsSome (s.bytes place)
  place-some =
      usable.framed is_mapped.slot is_mapped.frame place is_mapped.held.frame_rights (Some is_mapped.held.mapping) is_mapped.held.is
      (omega (arith, aligned, is_mapped.is, is_mapped.within))

-- where there is a byte of a frame, no slot is open
some-byte : (o : Option ℕ) → IsSome o → (byte : ℕ) × (o ≡ Some byte)
some-byte None is = absurd (let clash : false ≡ true = is in cc)
some-byte (Some byte) is = (byte, refl)

pub place-outside : (s : State) (memory : List ℕ) (place : ℕ) → Agrees s memory → IsSome (s.bytes place) → OutsideSlots s.slots place 1
place-outside s memory place agrees some other low high =
    let byte = some-byte (s.bytes place) some in
    let same : place ≡ other = omega (arith, low, high) in
    subst (λ (p : ℕ). s.slots (p / 16) ≡ None) same (no-slot s memory agrees place byte.0 byte.1)
