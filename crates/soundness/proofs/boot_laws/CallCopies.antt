-- Get, Mint, Move and Copy by the loader: a capability comes into an empty slot.
use Rattle.std.proofs.Common.{ℕ, ◌≡◌, ◌∙◌, ◌^◌, ◌<◌, ◌≤◌, ◌-◌, true, false, not, nat_le, nat_lt, Some, Result, Ok, [], ◌∷◌, refl, ap}
use Rattle.std.proofs.lemmas.Bool.{le-leb, lt-ltb}
use Rattle.model.specs.Capabilities.CapabilityKinds.{badge_fits, copied, guard_fits, is_badged, is_handler_of, may_be_copied, with_payload}
use Rattle.model.specs.Capabilities.Slots.{capability_at, depth_of, inserted, is_empty, is_full, relocated}
use Rattle.model.specs.Images.Boot.{boot_root, made, performed}
use Rattle.model.specs.Images.BootCalls.{boot_cnode, loader_call}
use Rattle.model.specs.Kernel.Arguments.{◌>>=◌, Call, destination_slot, source_slot}
use Rattle.model.specs.Kernel.CNodeCalls.{copy, mint, move}
use Rattle.model.specs.Kernel.CallForms.{copy_label, decode, get_handler_label, mint_label, move_label}
use Rattle.model.specs.Kernel.InterruptCalls.{get_handler}
use Rattle.model.specs.Kernel.Invocations.{invoke, perform}
use Rattle.model.specs.Kernel.Soundness.{HasShape}
use Rattle.model.specs.Kernel.State.{State, holds_some, slot_of, with_slots}
use Rattle.model.specs.declared.capabilities.Cap.{Cap}
use Rattle.model.specs.declared.capabilities.Cap.TheVariants.{CNode, InterruptControl, InterruptHandler}
use Rattle.model.specs.declared.errors.KError.{KError}
use Rattle.model.specs.declared.errors.KError.TheVariants.{IllegalOperation, RangeError, RevokeFirst}
use Rattle.model.specs.declared.invocations.SlotName.{SlotName}
use Rattle.soundness.proofs.boot_laws.CallLookups.{boot-destination, boot-source, boot_cnode_call, boot_name, goes, index-destination, made-at_cnode}
use Rattle.soundness.proofs.boot_laws.CallLookups.{made-there, passes, slot_call}

-- what each call comes to
get-called : (s : State) (control number slot : ℕ)
    → performed s get_handler_label (number ∷ slot ∷ 32 ∷ []) (slot_call s control InterruptControl) ≡ get_handler s (slot_call s control InterruptControl)
    number (boot_name slot)
unfolding invoke decode
get-called s control number slot = refl

mint-called : (s : State) (call : Call) (offset radix guard index depth source bits payload : ℕ) → call.capability ≡ CNode offset radix guard
    → performed s mint_label (index ∷ depth ∷ source ∷ 32 ∷ bits ∷ payload ∷ []) call
    ≡ mint s call (record { address = index; depth = depth }) (boot_name source) bits payload
unfolding invoke decode
mint-called s call offset radix guard index depth source bits payload is =
    ap (λ c. decode c mint_label 0 (index ∷ depth ∷ source ∷ 32 ∷ bits ∷ payload ∷ []) >>= λ invocation. perform s call invocation) is

move-called : (s : State) (slot offset radix guard index depth source : ℕ)
    → performed s move_label (index ∷ depth ∷ source ∷ 32 ∷ []) (slot_call s slot (CNode offset radix guard))
    ≡ move s (slot_call s slot (CNode offset radix guard)) (record { address = index; depth = depth }) (boot_name source)
unfolding invoke decode
move-called s slot offset radix guard index depth source = refl

copy-called : (s : State) (slot source bits : ℕ)
    → performed s copy_label (slot ∷ 32 ∷ source ∷ 32 ∷ bits ∷ []) (boot_cnode_call s) ≡ copy s (boot_cnode_call s) (boot_name slot) (boot_name source) bits
unfolding invoke decode
copy-called s slot source bits = refl

-- ---- Get

pub record Gets (s : State) (control number slot : ℕ) : Type 0 where
  pub inside : control < 2 ^ s.boot_radix
  pub holds : capability_at s.slots control ≡ InterruptControl
  pub shallow : depth_of s.slots control < 255
  pub small : number ≤ 63
  pub new : holds_some s (is_handler_of number) ≡ false
  pub destination : slot < 2 ^ s.boot_radix
  pub free : is_full s.slots slot ≡ false

pub get-made : (s : State) (control number slot : ℕ) → HasShape s → Gets s control number slot
    → made s (loader_call control get_handler_label (number ∷ slot ∷ 32 ∷ [])) ≡ Ok
    (with_slots s (inserted s.slots slot (InterruptHandler number) (Some control)))
get-made s control number slot shape asked =
    let end : Result State KError = Ok (with_slots s (inserted s.slots slot (InterruptHandler number) (Some control))) in
    made-there s shape control asked.inside get_handler_label (number ∷ slot ∷ 32 ∷ []) InterruptControl asked.holds refl
    ∙ get-called s control number slot
    ∙ passes (nat_le number 63) RangeError _ end (le-leb number 63 asked.small)
    (passes (not (holds_some s (is_handler_of number))) RevokeFirst _ end (ap not asked.new)
    (goes (destination_slot s.slots (boot_root s.boot_radix) (boot_name slot)) _ slot end (boot-destination s shape slot asked.destination asked.free)
    (passes (nat_lt (depth_of s.slots control) 255) IllegalOperation _ end (lt-ltb (depth_of s.slots control) 255 asked.shallow) refl)))

-- ---- Mint, Copy and Move

-- a source in a boot slot, of which a copy can be made
pub record IsSource (s : State) (source : ℕ) (capability : Cap) : Type 0 where
  pub inside : source < 2 ^ s.boot_radix
  pub holds : capability_at s.slots source ≡ capability
  pub shallow : depth_of s.slots source < 255

-- what may be minted of a capability
pub record MayBeMinted (capability : Cap) (payload : ℕ) : Type 0 where
  pub some : is_empty capability ≡ false
  pub shared : may_be_copied capability ≡ true
  pub plain : is_badged capability ≡ false
  pub badge : badge_fits capability payload ≡ true
  pub guard : guard_fits capability payload ≡ true

full-source : (s : State) (source : ℕ) (capability : Cap) → capability_at s.slots source ≡ capability → is_empty capability ≡ false →
    is_full s.slots source ≡ true
full-source s source capability holds some = ap (λ c. not (is_empty c)) holds ∙ ap not some

module _ (s : State) (call : Call) (name : SlotName) (slot source : ℕ) (capability : Cap) (bits : ℕ) (shape : HasShape s)
    (root : call.root ≡ boot_root s.boot_radix)
    (destination : destination_slot s.slots call.capability name ≡ Ok slot) (from : IsSource s source capability) where
  source-found : is_empty capability ≡ false → source_slot s.slots call.root (boot_name source) ≡ Ok source
  source-found some =
      ap (λ r. source_slot s.slots r (boot_name source)) root
      ∙ boot-source s shape source from.inside (full-source s source capability from.holds some)

  minted : (payload : ℕ) → MayBeMinted capability payload
      → mint s call name (boot_name source) bits payload ≡ Ok
      (with_slots s (inserted s.slots slot (with_payload (copied capability bits) payload) (Some source)))
  minted payload may =
      let held = capability_at s.slots source in
      let end : Result State KError = Ok (with_slots s (inserted s.slots slot (with_payload (copied capability bits) payload) (Some source))) in
      goes (destination_slot s.slots call.capability name) _ slot end destination
      (goes (source_slot s.slots call.root (boot_name source)) _ source end (source-found may.some)
      (passes (may_be_copied held) IllegalOperation _ end (ap may_be_copied from.holds ∙ may.shared)
      (passes (not (is_badged held)) IllegalOperation _ end (ap (λ c. not (is_badged c)) from.holds ∙ ap not may.plain)
      (passes (badge_fits held payload) RangeError _ end (ap (λ c. badge_fits c payload) from.holds ∙ may.badge)
      (passes (guard_fits held payload) IllegalOperation _ end (ap (λ c. guard_fits c payload) from.holds ∙ may.guard)
      (passes (nat_lt (depth_of s.slots source) 255) IllegalOperation _ end (lt-ltb (depth_of s.slots source) 255 from.shallow)
      (ap (λ c. Ok (with_slots s (inserted s.slots slot (with_payload (copied c bits) payload) (Some source)))) from.holds)))))))

  duplicated : is_empty capability ≡ false → may_be_copied capability ≡ true
      → copy s call name (boot_name source) bits ≡ Ok (with_slots s (inserted s.slots slot (copied capability bits) (Some source)))
  duplicated some may =
      let held = capability_at s.slots source in
      let end : Result State KError = Ok (with_slots s (inserted s.slots slot (copied capability bits) (Some source))) in
      goes (destination_slot s.slots call.capability name) _ slot end destination
      (goes (source_slot s.slots call.root (boot_name source)) _ source end (source-found some)
      (passes (may_be_copied held) IllegalOperation _ end (ap may_be_copied from.holds ∙ may)
      (passes (nat_lt (depth_of s.slots source) 255) IllegalOperation _ end (lt-ltb (depth_of s.slots source) 255 from.shallow)
      (ap (λ c. Ok (with_slots s (inserted s.slots slot (copied c bits) (Some source)))) from.holds))))

  moved : is_empty capability ≡ false → move s call name (boot_name source) ≡ Ok (with_slots s (relocated s.slots source slot))
  moved some =
      let end : Result State KError = Ok (with_slots s (relocated s.slots source slot)) in
      goes (destination_slot s.slots call.capability name) _ slot end destination
      (goes (source_slot s.slots call.root (boot_name source)) _ source end (source-found some) refl)

-- a slot of a CNode by its original, and its own slot that is empty
pub record IsDestination (s : State) (cnode offset radix index : ℕ) : Type 0 where
  pub inside : cnode < 2 ^ s.boot_radix
  pub holds : capability_at s.slots cnode ≡ CNode offset radix 0
  pub least : 1 ≤ radix
  pub most : radix ≤ 32
  pub below : index < 2 ^ radix
  pub free : is_full s.slots (slot_of offset index) ≡ false

module _ (s : State) (cnode offset radix index source : ℕ) (capability : Cap) (shape : HasShape s)
    (to : IsDestination s cnode offset radix index) (from : IsSource s source capability) where
  abbrev node_call : Call
  node_call = slot_call s cnode (CNode offset radix 0)

  abbrev index_name : SlotName
  index_name = record { address = index; depth = radix }

  found : destination_slot s.slots (CNode offset radix 0) index_name ≡ Ok (slot_of offset index)
  found = index-destination s.slots offset radix index to.least to.most to.below to.free

  pub mint-made : (bits payload : ℕ) → MayBeMinted capability payload
      → made s (loader_call cnode mint_label (index ∷ radix ∷ source ∷ 32 ∷ bits ∷ payload ∷ []))
      ≡ Ok (with_slots s (inserted s.slots (slot_of offset index) (with_payload (copied capability bits) payload) (Some source)))
  mint-made bits payload may =
      made-there s shape cnode to.inside mint_label (index ∷ radix ∷ source ∷ 32 ∷ bits ∷ payload ∷ []) (CNode offset radix 0) to.holds refl
      ∙ mint-called s node_call offset radix 0 index radix source bits payload refl
      ∙ minted s node_call index_name (slot_of offset index) source capability bits shape refl found from payload may

  pub move-made : is_empty capability ≡ false
      → made s (loader_call cnode move_label (index ∷ radix ∷ source ∷ 32 ∷ [])) ≡ Ok (with_slots s (relocated s.slots source (slot_of offset index)))
  move-made some =
      made-there s shape cnode to.inside move_label (index ∷ radix ∷ source ∷ 32 ∷ []) (CNode offset radix 0) to.holds refl
      ∙ move-called s cnode offset radix 0 index radix source
      ∙ moved s node_call index_name (slot_of offset index) source capability 0 shape refl found from some

-- into another boot slot, by the boot CNode itself
module _ (s : State) (slot source : ℕ) (capability : Cap) (bits : ℕ) (shape : HasShape s) (inside : slot < 2 ^ s.boot_radix)
    (free : is_full s.slots slot ≡ false)
    (from : IsSource s source capability) where
  there : destination_slot s.slots (boot_root s.boot_radix) (boot_name slot) ≡ Ok slot
  there = boot-destination s shape slot inside free

  pub boot_mint-made : (payload : ℕ) → MayBeMinted capability payload
      → made s (loader_call boot_cnode mint_label (slot ∷ 32 ∷ source ∷ 32 ∷ bits ∷ payload ∷ []))
      ≡ Ok (with_slots s (inserted s.slots slot (with_payload (copied capability bits) payload) (Some source)))
  boot_mint-made payload may =
      made-at_cnode s mint_label (slot ∷ 32 ∷ source ∷ 32 ∷ bits ∷ payload ∷ [])
      ∙ mint-called s (boot_cnode_call s) 0 s.boot_radix (32 - s.boot_radix) slot 32 source bits payload refl
      ∙ minted s (boot_cnode_call s) (boot_name slot) slot source capability bits shape refl there from payload may

  pub copy-made : is_empty capability ≡ false → may_be_copied capability ≡ true
      → made s (loader_call boot_cnode copy_label (slot ∷ 32 ∷ source ∷ 32 ∷ bits ∷ []))
      ≡ Ok (with_slots s (inserted s.slots slot (copied capability bits) (Some source)))
  copy-made some may =
      made-at_cnode s copy_label (slot ∷ 32 ∷ source ∷ 32 ∷ bits ∷ [])
      ∙ copy-called s slot source bits
      ∙ duplicated s (boot_cnode_call s) (boot_name slot) slot source capability bits shape refl there from some may
