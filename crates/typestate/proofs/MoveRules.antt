-- Move and Mutate by their ends.
use Rattle.std.proofs.Common.{ℕ, ◌≡◌, ◌∙◌, Bool, true, false, not, Option, Some, None, option_and_then, Result, Ok, Err, List, refl, sym, ap}
use Rattle.std.specs.Option.{option_map_or}
use Rattle.model.specs.Acceptance.CallRules.{may_travel, names_such}
use Rattle.model.specs.Acceptance.NotedKernel.{noted_after, noted_kernel, noted_root, noted_slots, slot_of_key}
use Rattle.model.specs.Acceptance.NotedStates.{NotedSlot, SlotKey, slot_at}
use Rattle.model.specs.Acceptance.ThreadRules.{reached}
use Rattle.model.specs.Capabilities.CapabilityKinds.{carries_messages, guard_fits, is_untyped, with_payload}
use Rattle.model.specs.Capabilities.Slots.{Slots, capability_at, is_empty, recapped, relocated}
use Rattle.model.specs.Images.Image.{Image, Thread}
use Rattle.model.specs.Kernel.Arguments.{◌>>=◌, argument_slot, check, destination_slot, source_slot}
use Rattle.model.specs.Kernel.CNodeCalls.{move, mutate}
use Rattle.model.specs.Kernel.State.{State, with_slots}
use Rattle.model.specs.declared.capabilities.Cap.{Cap}
use Rattle.model.specs.declared.capabilities.Cap.TheVariants.{Empty}
use Rattle.model.specs.declared.errors.KError.{KError}
use Rattle.model.specs.declared.errors.KError.TheVariants.{IllegalOperation}
use Rattle.model.specs.declared.invocations.CNodeCall.TheVariants.{Move, Mutate}
use Rattle.model.specs.declared.invocations.SlotName.{SlotName}
use Rattle.model.specs.declared.refusals.Point.{Point}
use Rattle.model.specs.declared.refusals.Refusal.{Refusal}
use Rattle.model.specs.declared.refusals.Refusal.TheVariants.{CallRefused, PoolLost}
use Rattle.typestate.specs.declared.cnode_calls.Ends.{Ends}
use Rattle.typestate.specs.Calls.{call_on}
use Rattle.typestate.specs.CNodeCalls.{AreEnds, allowed_slots, cnode_after, ends_of}
use Rattle.typestate.specs.SlotChanges.{moved, noted_parent}
use Rattle.typestate.specs.Spaces.{AreOwn, StandsApart}
use Rattle.typestate.proofs.Allowed.{allowed-state, allowed-unless, chain, kernel-refuses, pool-lost, slots_allowed}
use Rattle.typestate.proofs.CopyCalls.{by-ends}
use Rattle.typestate.proofs.MoveCalls.{move-back}
use Rattle.typestate.proofs.NamedKeys.{key-named}
use Rattle.typestate.proofs.Rising.{RiseFrom}
use Rattle.typestate.proofs.SlotMaps.{held_at, noted-holds}
use Rattle.typestate.proofs.Standing.{found-own}

abbrev moved_to : State → ℕ → ℕ → Result State KError
moved_to s x y = Ok (with_slots s (relocated s.slots y x))

abbrev mutated_to : State → ℕ → ℕ → ℕ → Result State KError
mutated_to s payload x y = do
  _ ← check (not (carries_messages (capability_at s.slots y))) IllegalOperation
  _ ← check (guard_fits (capability_at s.slots y) payload) IllegalOperation
  let moved = relocated s.slots y x in
      Ok (with_slots s (recapped moved x (with_payload (capability_at s.slots y) payload)))

-- ---- what a slot holds

filled : (slots : List NotedSlot) (key : SlotKey) (held : Cap) → held_at slots key ≡ held → is_empty held ≡ false → (s : NotedSlot)
    × (slot_at slots key ≡ Some s) × (s.capability ≡ held)
filled slots key held is full = elim (slot_at slots key) as (λ o. slot_at slots key ≡ o → option_map_or (λ s. s.capability) o Empty ≡ held → (s : NotedSlot)
    × (slot_at slots key ≡ Some s) × (s.capability ≡ held)) [
      | None ↦ λ _ empty. absurd (let clash : true ≡ false = ap is_empty empty ∙ full in cc)
      | Some s ↦ λ found here. (s, found, here)
    ] refl is

unfilled : (image : Image) (t : Thread) (slots : List NotedSlot) (key : SlotKey) → AreOwn image t slots → is_empty (held_at slots key) ≡ true →
    slot_at slots key ≡ None
unfilled image t slots key are empty = elim (slot_at slots key) as (λ o. slot_at slots key ≡ o → is_empty (option_map_or (λ s. s.capability) o Empty) ≡ true →
    o ≡ None) [
      | None ↦ λ _ _. refl
      | Some s ↦ λ found here. absurd (let clash : false ≡ true = sym (found-own image t slots key s are found).full ∙ here in cc)
    ] refl empty

not-full : (b : Bool) → not b ≡ false → b ≡ true
not-full true is = refl
not-full false is = absurd (let clash : true ≡ false = is in cc)

module _ (image : Image) (t : Thread) (at : Point) (slots : List NotedSlot) (capability : Cap) (destination source : SlotName) where
  abbrev all : Slots
  all = noted_slots image t slots

  abbrev root : Cap
  root = noted_root image t

  abbrev ends : Result (ℕ × ℕ) KError
  ends = ends_of all capability root destination source

  abbrev loses : Bool
  loses = names_such is_untyped all (argument_slot all root source)

  abbrev travels : Bool
  travels = names_such may_travel all (argument_slot all root source)

  abbrev moving : Result State KError
  moving = move (noted_kernel image t slots) (call_on image t 0 capability) destination source

  move-by-ends : (r : Result (ℕ × ℕ) KError) → ends ≡ r → moving ≡ (r >>= λ p. moved_to (noted_kernel image t slots) p.0 p.1)
  unfolding noted_kernel
  move-by-ends r is =
      let s = noted_kernel image t slots in
      by-ends (destination_slot all capability destination) (source_slot all root source) (moved_to s)
      ∙ ap (λ (e : Result (ℕ × ℕ) KError). e >>= λ p. moved_to s p.0 p.1) is

  pub move-refused : (error : KError) → ends ≡ Err error → cnode_after image t at slots capability (Move destination source) ≡ Err (CallRefused at error)
  unfolding noted_kernel
  move-refused error is = kernel-refuses image t at loses travels moving error (move-by-ends (Err error) is)

  module _ (x y : ℕ) (e : Ends) (is : ends ≡ Ok (x, y)) (are : AreEnds image t all root source x y e) where
    loses-is : loses ≡ is_untyped e.held
    loses-is = ap (names_such is_untyped all) are.named ∙ ap is_untyped are.held

    travels-is : travels ≡ may_travel e.held
    travels-is = ap (names_such may_travel all) are.named ∙ ap may_travel are.held

    pub move-pool : is_untyped e.held ≡ true → cnode_after image t at slots capability (Move destination source) ≡ Err (PoolLost at)
    unfolding noted_kernel
    move-pool pool =
        ap (λ (r : Result State KError). chain image t at loses travels r) (move-by-ends (Ok (x, y)) is)
        ∙ pool-lost image t at loses travels (with_slots (noted_kernel image t slots) (relocated all y x)) (loses-is ∙ pool)

    move-allowed : is_untyped e.held ≡ false → cnode_after image t at slots capability (Move destination source) ≡ allowed_slots image t at (may_travel e.held)
        (Ok (relocated all y x))
    unfolding noted_kernel
    move-allowed other =
        allowed-unless image t at loses travels moving (loses-is ∙ other)
        ∙ ap (λ (r : Result State KError). allowed_slots image t at travels (slots_allowed r)) (move-by-ends (Ok (x, y)) is)
        ∙ ap (λ b. allowed_slots image t at b (Ok (relocated all y x))) travels-is

    pub move-stays : is_untyped e.held ≡ false → may_travel e.held ≡ false →
        cnode_after image t at slots capability (Move destination source) ≡ Err (CallRefused at IllegalOperation)
    move-stays other stays = move-allowed other ∙ ap (λ b. allowed_slots image t at b (Ok (relocated all y x))) stays

    pub move-goes : StandsApart image t → AreOwn image t slots → RiseFrom 0 slots → is_untyped e.held ≡ false → may_travel e.held ≡ true
        → cnode_after image t at slots capability (Move destination source) ≡ Ok
        (moved slots e.from (record { key = e.to; capability = e.held; parent = noted_parent slots e.from }))
    move-goes stand own rises other goes =
        let to = key-named image (reached image t) x e.to are.to in
        let from = key-named image (reached image t) y e.from are.from in
        let here = filled slots e.from e.held (sym (noted-holds image t slots y e.from are.from) ∙ are.held) are.full in
        let there : slot_at slots e.to ≡ None = unfilled image t slots e.to own
        (ap is_empty (sym (noted-holds image t slots x e.to are.to)) ∙ not-full (is_empty (capability_at all x)) are.vacant) in
        let parent : noted_parent slots e.from ≡ (here.0).parent = ap (option_and_then (λ (s : NotedSlot). s.parent)) here.1 in
        move-allowed other ∙ ap (λ b. allowed_slots image t at b (Ok (relocated all y x))) goes
        ∙ ap (λ n. let r : Result (List NotedSlot) Refusal = Ok (noted_after image t (relocated all n x)) in r) (sym from.place)
        ∙ ap (λ n. let r : Result (List NotedSlot) Refusal = Ok (noted_after image t (relocated all (slot_of_key image e.from) n)) in r) (sym to.place)
        ∙ ap (λ (l : List NotedSlot). let r : Result (List NotedSlot) Refusal = Ok l in r)
        (move-back image t stand slots own e.from e.to here.0 from.own to.own here.1 there rises)
        ∙ ap (λ (held : Cap). let r : Result (List NotedSlot) Refusal =
        Ok (moved slots e.from (record { key = e.to; capability = held; parent = (here.0).parent })) in r) here.2
        ∙ ap (λ (p : Option SlotKey). let r : Result (List NotedSlot) Refusal =
        Ok (moved slots e.from (record { key = e.to; capability = e.held; parent = p })) in r) (sym parent)

  -- ---- Mutate is none of a program's calls

  abbrev mutating : ℕ → Result State KError
  mutating payload = mutate (noted_kernel image t slots) (call_on image t 0 capability) destination source payload

  mutate-by-ends : (payload : ℕ) (r : Result (ℕ × ℕ) KError) → ends ≡ r →
      mutating payload ≡ (r >>= λ p. mutated_to (noted_kernel image t slots) payload p.0 p.1)
  unfolding noted_kernel
  mutate-by-ends payload r is =
      let s = noted_kernel image t slots in
      by-ends (destination_slot all capability destination) (source_slot all root source) (mutated_to s payload)
      ∙ ap (λ (e : Result (ℕ × ℕ) KError). e >>= λ p. mutated_to s payload p.0 p.1) is

  pub mutate-refused : (payload : ℕ) (error : KError) → ends ≡ Err error →
      cnode_after image t at slots capability (Mutate destination source payload) ≡ Err (CallRefused at error)
  unfolding noted_kernel
  mutate-refused payload error is = kernel-refuses image t at false false (mutating payload) error (mutate-by-ends payload (Err error) is)

  pub mutate-never : (payload x y : ℕ) → ends ≡ Ok (x, y) → cnode_after image t at slots capability (Mutate destination source payload) ≡ Err
      (CallRefused at IllegalOperation)
  unfolding noted_kernel
  mutate-never payload x y is =
      let s = noted_kernel image t slots in
      let held = capability_at s.slots y in
      allowed-state image t at false (mutating payload)
      ∙ ap (λ (r : Result State KError). allowed_slots image t at false (slots_allowed r)) (mutate-by-ends payload (Ok (x, y)) is)
      ∙ by-tests (not (carries_messages held)) (guard_fits held payload) (with_slots s (recapped (relocated s.slots y x) x (with_payload held payload)))
    where
      by-tests : (a b : Bool) (u : State) → allowed_slots image t at false
          (slots_allowed (check a IllegalOperation >>= λ _. check b IllegalOperation >>= λ _. Ok u)) ≡ Err (CallRefused at IllegalOperation)
      by-tests true true u = refl
      by-tests true false u = refl
      by-tests false b u = refl
