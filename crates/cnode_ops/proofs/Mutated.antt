-- What Mutate puts at the destination, and what it leaves elsewhere.
use Rattle.std.proofs.Common.{ℕ, ◌≡◌, ◌≢◌, ◌∙◌, ◌/◌, Bool, true, false, not, Some, None, List, Result, Ok, Err, refl, sym, ap, subst, arith}
use Rattle.std.specs.Option.{option_map}
use Rattle.std.proofs.lemmas.Bool.Decides.{nat_tests}
use Rattle.model.proofs.SlotChanges.{capability_of, entry-other, entry-same, full-not-empty, full-not-none}
use Rattle.model.specs.Capabilities.CapabilityKinds.{carries_messages, guard_fits, is_guard_word, object_of, with_payload}
use Rattle.model.specs.Capabilities.CapabilityWords.{IsCapability, IsGuardWord}
use Rattle.model.specs.Capabilities.Slots.{IsFull, SameOutside, Slots, adopted, capability_at, empty_entry, is_empty, recapped, relocated, with_entry}
use Rattle.model.specs.Capabilities.Slots.{with_parent}
use Rattle.model.specs.Kernel.Arguments.{◌>>=◌, Call, check}
use Rattle.model.specs.Kernel.CNodeCalls.{mutate}
use Rattle.model.specs.Kernel.State.{State, with_slots}
use Rattle.model.specs.declared.capabilities.Cap.{Cap}
use Rattle.model.specs.declared.capabilities.Cap.TheVariants.{Empty, Untyped, Endpoint, Notification, CNode, Frame, PageTable, Tcb, RootTable, InterruptControl}
use Rattle.model.specs.declared.capabilities.Cap.TheVariants.{InterruptHandler}
use Rattle.model.specs.declared.errors.KError.{KError}
use Rattle.model.specs.declared.errors.KError.TheVariants.{IllegalOperation}
use Rattle.model.specs.declared.invocations.SlotName.{SlotName}
use Rattle.derivation.specs.cap_copies.Copies.{mutation_of}
use Rattle.cnode_ops.specs.Results.{named_slots}
use Rattle.cnode_ops.proofs.Answered.{behind-names, names-refused}
use Rattle.cnode_ops.proofs.Values.{mutated-made}
use Rattle.slots.specs.Kin.{object_at}

-- ---- the capability

guard_word : (radix word : ℕ) → is_guard_word radix word ≡ true → IsGuardWord radix word
guard_word radix word fits = grind (arith, nat_tests)

payload-valid : (held : Cap) (payload : ℕ) → IsCapability held → not (carries_messages held) ≡ true → guard_fits held payload ≡ true →
    IsCapability (with_payload held payload)
payload-valid Empty payload valid silent guards = valid
payload-valid (Untyped offset bits watermark) payload valid silent guards = valid
payload-valid (Endpoint offset r old) payload valid silent guards = absurd (cc)
payload-valid (Notification offset r old) payload valid silent guards = absurd (cc)
payload-valid (CNode offset radix old) payload valid silent guards = (valid.0, valid.1, valid.2, guard_word radix payload guards)
payload-valid (Frame offset r mapping) payload valid silent guards = valid
payload-valid (PageTable offset mapping) payload valid silent guards = valid
payload-valid (Tcb offset) payload valid silent guards = valid
payload-valid (RootTable offset) payload valid silent guards = valid
payload-valid InterruptControl payload valid silent guards = valid
payload-valid (InterruptHandler irq_line) payload valid silent guards = valid

pub mutated-valid : (held : Cap) (payload : ℕ) (made : Cap) → mutation_of held payload ≡ Ok made → IsCapability held → IsCapability made
mutated-valid held payload made is valid =
    let all = mutated-made held payload made is in
    subst IsCapability all.is (payload-valid held payload valid all.silent all.guards)

-- ---- the slots

pub full-moved : (slots : Slots) (from to : ℕ) → IsFull slots from → slots to ≡ Some empty_entry → IsFull (relocated slots from to) to
full-moved slots from to full empty =
    let moved = with_parent slots from (Some to) in
    let other : to ≢ from = λ e. full-not-empty slots from to full empty (sym e) in
    ap (λ o. not (is_empty (capability_of o))) (entry-other (with_entry moved to (slots from)) from (Some empty_entry) to other
    ∙ entry-same moved to (slots from)) ∙ full

-- what was moved names what it named
pub object-moved : (slots now : Slots) (from to : ℕ) (made held : Cap) → IsFull slots from → slots to ≡ Some empty_entry → now ≡ relocated slots from to
    → object_of made ≡ object_of held → held ≡ capability_at slots from → object_of made ≡ object_at now to
object-moved slots now from to made held full empty is same held_is =
    let moved = with_parent slots from (Some to) in
    let other : to ≢ from = λ e. full-not-empty slots from to full empty (sym e) in
    same ∙ ap object_of held_is
    ∙ sym (ap (λ (f : Slots). object_at f to) is
    ∙ ap (λ o. object_of (capability_of o)) (entry-other (with_entry moved to (slots from)) from (Some empty_entry) to other
    ∙ entry-same moved to (slots from)))

closed-moved : (slots : Slots) (from to s : ℕ) → IsFull slots from → slots to ≡ Some empty_entry → slots s ≡ None → relocated slots from to s ≡ None
closed-moved slots from to s full empty closed =
    let moved = with_parent slots from (Some to) in
    let source : s ≢ from = λ e. full-not-none slots from full (ap slots (sym e) ∙ closed) in
    let target : s ≢ to = λ e. let clash = sym empty ∙ ap slots (sym e) ∙ closed in cc in
    entry-other (with_entry moved to (slots from)) from (Some empty_entry) s source ∙ entry-other moved to (slots from) s target
    ∙ ap (option_map (adopted from (Some to))) closed

pub outside-moved : (slots : Slots) (from to : ℕ) (old between new : List ℕ) → IsFull slots from → slots to ≡ Some empty_entry
    → SameOutside slots old between → SameOutside (relocated slots from to) between new → SameOutside slots old new
outside-moved slots from to old between new full empty first second = record {
  size = second.size ∙ first.size;
  bytes = λ place closed. second.bytes place (closed-moved slots from to (place / 16) full empty closed) ∙ first.bytes place closed;
}

-- ---- the call

mutated-checks : (silent guards : Bool) (made : Cap) (next : Cap → Result State KError) →
    (check silent IllegalOperation >>= λ _. check guards IllegalOperation >>= λ _. next made)
    ≡ ((check silent IllegalOperation >>= λ _. check guards IllegalOperation >>= λ _. Ok made) >>= next)
mutated-checks false guards made next = refl
mutated-checks true false made next = refl
mutated-checks true true made next = refl

module _ (s : State) (slots : Slots) (call : Call) (root node : Cap) (destination source : SlotName) (payload : ℕ) (same_root : call.root ≡ root)
    (same_node : call.capability ≡ node) where
  abbrev put : ℕ → ℕ → Cap → Result State KError
  put to from made = Ok (with_slots s (recapped (relocated slots from to) to made))

  abbrev behind : ℕ → ℕ → Result State KError
  behind to from =
      check (not (carries_messages (capability_at slots from))) IllegalOperation >>= λ _. check (guard_fits (capability_at slots from) payload) IllegalOperation
      >>= λ _. put to from (with_payload (capability_at slots from) payload)

  -- what a mutation of the source gives, or its error
  pub mutate-gives : (to from : ℕ) (mutated : Result Cap KError) → named_slots slots root node destination source ≡ Ok (to, from) →
      mutation_of (capability_at slots from) payload ≡ mutated
      → mutate (with_slots s slots) call destination source payload ≡ (mutated >>= put to from)
  mutate-gives to from mutated named is =
      behind-names slots call root node destination source behind same_root same_node to from named
      ∙ mutated-checks (not (carries_messages (capability_at slots from))) (guard_fits (capability_at slots from) payload)
      (with_payload (capability_at slots from) payload) (put to from)
      ∙ ap (λ (r : Result Cap KError). r >>= put to from) is

  pub mutate-unnamed : (error : KError) → named_slots slots root node destination source ≡ Err error →
      mutate (with_slots s slots) call destination source payload ≡ Err error
  mutate-unnamed error refused = names-refused slots call root node destination source behind same_root same_node error refused
