-- What Copy, Mint and Move answer, and what a child leaves.
use Rattle.std.proofs.Common.{ℕ, ◌≡◌, ◌∙◌, ◌<◌, ◌↔◌, Bool, true, false, not, Some, List, Result, Ok, Err, IsOk, OnOk, OnErr, refl, sym, ap, subst}
use Rattle.std.specs.Prelude.{nat_lt}
use Rattle.std.proofs.lemmas.Bool.{lt-ltb, ltb-true}
use Rattle.model.specs.Capabilities.CapabilityKinds.{badge_fits, copied, guard_fits, is_badged, may_be_copied, with_payload}
use Rattle.model.specs.Capabilities.Slots.{SameOutside, Slots, capability_at, depth_of, inserted, relocated}
use Rattle.model.specs.Kernel.Arguments.{◌>>=◌, Call, check, destination_slot, may_have_child, source_slot}
use Rattle.model.specs.Kernel.CNodeCalls.{copy, mint, move}
use Rattle.model.specs.Kernel.State.{State, with_slots}
use Rattle.model.specs.declared.capabilities.Cap.{Cap}
use Rattle.model.specs.declared.errors.KError.{KError}
use Rattle.model.specs.declared.errors.KError.TheVariants.{IllegalOperation, RangeError}
use Rattle.model.specs.declared.invocations.SlotName.{SlotName}
use Rattle.cnode_ops.specs.Nodes.{CNodesAreOpen, HasOpenSlots}
use Rattle.model.specs.Kernel.Outcomes.{Gives}
use Rattle.derivation.specs.cap_copies.Copies.{copy_of, minted_copy_of}
use Rattle.cnode_ops.specs.Results.{named_slots}
use Rattle.cnode_ops.proofs.Kept.{nodes-put}

-- ---- a child

-- the slots with a child, or the error of its depth
abbrev pub child : State → Slots → ℕ → ℕ → Cap → Result State KError
child s slots to from made = may_have_child slots from >>= λ _. Ok (with_slots s (inserted slots to made (Some from)))

pub child-gives : (s : State) (slots after : Slots) (to from : ℕ) (made : Cap) (result : Result (Unit {0}) KError) → IsOk result ↔ (depth_of slots from < 255) →
    OnOk result (after ≡ inserted slots to made (Some from)) → OnErr result (result ≡ Err IllegalOperation) → Gives (child s slots to from made) s after result
child-gives s slots after to from made (Ok x) when put deep =
    let room : nat_lt (depth_of slots from) 255 ≡ true = lt-ltb _ _ (when.0 refl) in
    ap (λ (b : Bool). check b IllegalOperation >>= λ _. Ok (with_slots s (inserted slots to made (Some from)))) room
    ∙ ap (λ (t : Slots). Ok (with_slots s t)) (sym put)
child-gives s slots after to from made (Err e) when put deep =
    elim (nat_lt (depth_of slots from) 255) as (λ b. nat_lt (depth_of slots from) 255 ≡ b →
    (check b IllegalOperation >>= λ _. Ok (with_slots s (inserted slots to made (Some from)))) ≡ Err e) [
      | true ↦ λ is. absurd (let clash : false ≡ true = when.1 (ltb-true _ _ is) in cc)
      | false ↦ λ is. cc
    ] refl

pub child-nodes : {T : Type 0} (slots_of : T → Slots) (old new : T) (to from : ℕ) (made : Cap) (result : Result (Unit {0}) KError) →
    OnOk result (slots_of new ≡ inserted (slots_of old) to made (Some from)) → OnErr result (new ≡ old) → CNodesAreOpen (slots_of old) →
    HasOpenSlots (slots_of old) made → CNodesAreOpen (slots_of new)
child-nodes slots_of old new to from made (Ok x) put same nodes here = subst CNodesAreOpen (sym put) (nodes-put (slots_of old) to made (Some from) nodes here)
child-nodes slots_of old new to from made (Err e) put same nodes here = subst CNodesAreOpen (sym (ap slots_of same)) nodes

pub child-bytes : {T : Type 0} (slots : Slots) (memory_of : T → List ℕ) (old new : T) (result : Result (Unit {0}) KError) →
    OnOk result (SameOutside slots (memory_of old) (memory_of new)) → OnErr result (new ≡ old) → SameOutside slots (memory_of old) (memory_of new)
child-bytes slots memory_of old new (Ok x) bytes same = bytes
child-bytes slots memory_of old new (Err e) bytes same =
    subst (λ m. SameOutside slots (memory_of old) m) (sym (ap memory_of same)) (record { size = refl; bytes = λ place closed. refl })

-- ---- Mint

-- the checks between the slots and the depth are those of the copy
minted-checks : (copies unbadged fits guards : Bool) (made : Cap) (next : Cap → Result State KError) →
    (check copies IllegalOperation >>= λ _. check unbadged IllegalOperation >>= λ _. check fits RangeError >>= λ _. check guards IllegalOperation >>= λ _.
    next made) ≡ ((check copies IllegalOperation >>= λ _. check unbadged IllegalOperation >>= λ _. check fits RangeError >>= λ _. check guards IllegalOperation
    >>= λ _. Ok made) >>= next)
minted-checks false unbadged fits guards made next = refl
minted-checks true false fits guards made next = refl
minted-checks true true false guards made next = refl
minted-checks true true true false made next = refl
minted-checks true true true true made next = refl

copied-checks : (copies : Bool) (made : Cap) (next : Cap → Result State KError) →
    (check copies IllegalOperation >>= λ _. next made) ≡ ((check copies IllegalOperation >>= λ _. Ok made) >>= next)
copied-checks false made next = refl
copied-checks true made next = refl

-- after the slots
abbrev behind_slots : State → Slots → ℕ → ℕ → ℕ → ℕ → Result State KError
behind_slots s slots word payload to from = minted_copy_of (capability_at slots from) word payload >>= child s slots to from

-- two slots, if there are both
abbrev both : Result ℕ KError → Result ℕ KError → Result (ℕ × ℕ) KError
both destination source = do
  d ← destination
  f ← source
  Ok (d, f)

named-parts : (destination source : Result ℕ KError) (to from : ℕ) (next : ℕ → ℕ → Result State KError) → both destination source ≡ Ok (to, from) →
    (destination >>= λ d. source >>= λ f. next d f) ≡ next to from
named-parts (Err e) source to from next is = absurd (cc)
named-parts (Ok d) (Err e) to from next is = absurd (cc)
named-parts (Ok d) (Ok f) to from next is =
    let same : (d, f) ≡ (to, from) = cc in
    ap (λ (p : ℕ × ℕ). next p.0 p.1) same

named-refused : (destination source : Result ℕ KError) (error : KError) (next : ℕ → ℕ → Result State KError) → both destination source ≡ Err error →
    (destination >>= λ d. source >>= λ f. next d f) ≡ Err error
named-refused (Err e) source error next is = cc
named-refused (Ok d) (Err e) error next is = cc
named-refused (Ok d) (Ok f) error next is = absurd (cc)

-- what goes on after the slots that a call names, and the error where it names none
module _ (slots : Slots) (call : Call) (root node : Cap) (destination source : SlotName) (next : ℕ → ℕ → Result State KError) (same_root : call.root ≡ root)
    (same_node : call.capability ≡ node) where
  names-same : named_slots slots call.root call.capability destination source ≡ named_slots slots root node destination source
  names-same = ap (λ (r : Cap). named_slots slots r call.capability destination source) same_root
      ∙ ap (λ (n : Cap). named_slots slots root n destination source) same_node

  pub behind-names : (to from : ℕ) → named_slots slots root node destination source ≡ Ok (to, from) →
      (destination_slot slots call.capability destination >>= λ d. source_slot slots call.root source >>= λ f. next d f) ≡ next to from
  behind-names to from named = named-parts (destination_slot slots call.capability destination) (source_slot slots call.root source) to from next
      (names-same ∙ named)

  pub names-refused : (error : KError) → named_slots slots root node destination source ≡ Err error →
      (destination_slot slots call.capability destination >>= λ d. source_slot slots call.root source >>= λ f. next d f) ≡ Err error
  names-refused error refused = named-refused (destination_slot slots call.capability destination) (source_slot slots call.root source) error next
      (names-same ∙ refused)

mint-behind : (s : State) (slots : Slots) (call : Call) (destination source : SlotName) (word payload to from : ℕ) →
    mint (with_slots s slots) call destination source word payload
    ≡ (destination_slot slots call.capability destination >>= λ to. source_slot slots call.root source >>= λ from. behind_slots s slots word payload to from)
mint-behind s slots call destination source word payload to from =
    ap (λ (next : ℕ → ℕ → Result State KError). destination_slot slots call.capability destination >>= λ to. source_slot slots call.root source >>= λ from.
    next to from)
    (λ i to from. minted-checks (may_be_copied (capability_at slots from)) (not (is_badged (capability_at slots from)))
    (badge_fits (capability_at slots from) payload) (guard_fits (capability_at slots from) payload)
    (with_payload (copied (capability_at slots from) word) payload) (child s slots to from) i)

module _ (s : State) (slots : Slots) (call : Call) (root node : Cap) (destination source : SlotName) (word : ℕ) (same_root : call.root ≡ root)
    (same_node : call.capability ≡ node) where
  -- what a copy of the source gives, or its error
  pub mint-gives : (payload to from : ℕ) (minted : Result Cap KError) → named_slots slots root node destination source ≡ Ok (to, from) →
      minted_copy_of (capability_at slots from) word payload ≡ minted
      → mint (with_slots s slots) call destination source word payload ≡ (minted >>= child s slots to from)
  mint-gives payload to from minted named is =
      mint-behind s slots call destination source word payload to from
      ∙ behind-names slots call root node destination source (behind_slots s slots word payload) same_root same_node to from named
      ∙ ap (λ (r : Result Cap KError). r >>= child s slots to from) is

  pub mint-unnamed : (payload : ℕ) (error : KError) → named_slots slots root node destination source ≡ Err error →
      mint (with_slots s slots) call destination source word payload ≡ Err error
  mint-unnamed payload error refused =
      mint-behind s slots call destination source word payload 0 0
      ∙ names-refused slots call root node destination source (behind_slots s slots word payload) same_root same_node error refused

  -- ---- Copy

  abbrev copied_behind : ℕ → ℕ → Result State KError
  copied_behind to from = check (may_be_copied (capability_at slots from)) IllegalOperation >>= λ _.
      child s slots to from (copied (capability_at slots from) word)

  pub copy-gives : (to from : ℕ) (made : Result Cap KError) → named_slots slots root node destination source ≡ Ok (to, from) →
      copy_of (capability_at slots from) word ≡ made
      → copy (with_slots s slots) call destination source word ≡ (made >>= child s slots to from)
  copy-gives to from made named is =
      behind-names slots call root node destination source copied_behind same_root same_node to from named
      ∙ copied-checks (may_be_copied (capability_at slots from)) (copied (capability_at slots from) word) (child s slots to from)
      ∙ ap (λ (r : Result Cap KError). r >>= child s slots to from) is

  pub copy-unnamed : (error : KError) → named_slots slots root node destination source ≡ Err error →
      copy (with_slots s slots) call destination source word ≡ Err error
  copy-unnamed error refused = names-refused slots call root node destination source copied_behind same_root same_node error refused

-- ---- Move

module _ (s : State) (slots : Slots) (call : Call) (root node : Cap) (destination source : SlotName) (same_root : call.root ≡ root)
    (same_node : call.capability ≡ node) where
  abbrev moved_to : ℕ → ℕ → Result State KError
  moved_to to from = Ok (with_slots s (relocated slots from to))

  pub move-gives : (to from : ℕ) → named_slots slots root node destination source ≡ Ok (to, from) →
      move (with_slots s slots) call destination source ≡ moved_to to from
  move-gives to from named = behind-names slots call root node destination source moved_to same_root same_node to from named

  pub move-unnamed : (error : KError) → named_slots slots root node destination source ≡ Err error →
      move (with_slots s slots) call destination source ≡ Err error
  move-unnamed error refused = names-refused slots call root node destination source moved_to same_root same_node error refused
