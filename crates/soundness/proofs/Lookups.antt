-- The slots that calls name are slots of CNodes.
use Rattle.std.proofs.Common.{ℕ, zero, suc, ◌≡◌, ◌∙◌, ◌==◌, ◌&&◌, ◌||◌, ◌+◌, ◌-◌, ◌/◌, ◌%◌, ◌^◌, ◌<◌, Bool, true, false, not, nat_le, nat_lt, if◌then◌else◌}
use Rattle.std.proofs.Common.{Option, Some, None, Result, Ok, Err, refl, ap, subst, arith}
use Rattle.std.proofs.lemmas.Bool.{not-true}
use Rattle.std.proofs.lemmas.Nat.{pow_pos}
use Rattle.model.specs.declared.capabilities.Cap.{Cap}
use Rattle.model.specs.declared.capabilities.Cap.TheVariants.{Empty, Untyped, Endpoint, Notification, CNode, Frame, PageTable, Tcb, RootTable, InterruptControl}
use Rattle.model.specs.declared.capabilities.Cap.TheVariants.{InterruptHandler}
use Rattle.model.specs.declared.errors.KError.{KError}
use Rattle.model.specs.declared.errors.KError.TheVariants.{DeleteFirst, FailedLookup, RangeError}
use Rattle.model.specs.declared.invocations.SlotName.{SlotName}
use Rattle.model.specs.declared.lookup_failures.LookupFailure.{LookupFailure}
use Rattle.model.specs.declared.lookup_failures.LookupFailure.TheVariants.{DepthMismatch, GuardMismatch, InvalidRoot}
use Rattle.model.specs.Capabilities.Lookup.{go_on, is_cnode, lookup, lookup_within, resolve}
use Rattle.model.specs.Capabilities.Slots.{IsFull, Slots, capability_at, is_full}
use Rattle.model.specs.Kernel.Arguments.{◌>>=◌, argument_slot, check, destination_slot, source_slot, wanted, whole}
use Rattle.model.specs.Kernel.Kinds.{object_named}
use Rattle.model.specs.Kernel.Retype.{NewCNode}
use Rattle.model.specs.Kernel.Soundness.{MemoryIsSound}
use Rattle.model.specs.Kernel.State.{State}
use Rattle.soundness.specs.Calls.{IsRoot, of_slot, of_loader}
use Rattle.soundness.proofs.Places.{IsPlain, of_boot_cnode, of_cnode}

-- ---- results one after another

pub record Passes {A B : Type 0} (r : Result A KError) (f : A → Result B KError) (end : B) : Type 0 where
  pub value : A
  pub first : r ≡ Ok value
  pub rest : f value ≡ Ok end

pub passes-both : {A B : Type 0} (r : Result A KError) (f : A → Result B KError) (end : B) → (r >>= f) ≡ Ok end → Passes r f end
passes-both (Ok value) f end is = record { value = value; first = refl; rest = is }
passes-both {A} {B} (Err error) f end is = let e : ◌≡◌ {A = Result B KError} (Err error) (Ok end) = is in absurd cc

pub check-passes : (test : Bool) (error : KError) (u : Unit {0}) → check test error ≡ Ok u → test ≡ true
check-passes true error u is = refl
check-passes false error u is = let e : ◌≡◌ {A = Result (Unit {0}) KError} (Err error) (Ok u) = is in absurd cc

pub wanted-some : {A : Type 0} (o : Option A) (error : KError) (value : A) → wanted o error ≡ Ok value → o ≡ Some value
wanted-some (Some x) error value is = let e : x ≡ value = cc in ap Some e
wanted-some {A} None error value is = let e : ◌≡◌ {A = Result A KError} (Err error) (Ok value) = is in absurd cc

-- a source is full, whatever it is looked up from
pub source-full : (slots : Slots) (root : Cap) (name : SlotName) (slot : ℕ) → source_slot slots root name ≡ Ok slot → IsFull slots slot
source-full slots root name slot is =
    let one = passes-both (argument_slot slots root name) (λ found. check (is_full slots found) FailedLookup >>= λ _. Ok found) slot is in
    let two = passes-both (check (is_full slots one.value) FailedLookup) (λ _. Ok one.value) slot one.rest in
    let e : one.value ≡ slot = cc two.rest in
    subst (IsFull slots) e (check-passes (is_full slots one.value) FailedLookup two.value two.first)

-- ---- lookups

abbrev Found : Type 0
Found = Result (ℕ × ℕ) LookupFailure

pub passed : (b : Bool) (failure : LookupFailure) (r : Found) (place : ℕ × ℕ) → (if b then Err failure else r) ≡ Ok place → r ≡ Ok place
passed true failure r place h = absurd (let clash : ◌≡◌ {A = Found} (Err failure) (Ok place) = h in cc)
passed false failure r place h = h

-- an index has as many bits as its CNode takes
resolve-index : (radix guard address left : ℕ) (place : ℕ × ℕ) → resolve radix guard address left ≡ Ok place → place.0 < 2 ^ radix
resolve-index radix guard address left place is =
    let size : ℕ = guard % 2 ^ 5 in
    let rest : ℕ = left - (size + radix) in
    let found : ℕ × ℕ = (address / 2 ^ rest % 2 ^ radix, rest) in
    let last : Found = if nat_lt left (size + radix) then Err (DepthMismatch left) else Ok found in
    let second : Found = if not (address / 2 ^ (left - size) % 2 ^ size == guard / 2 ^ 5) then Err (GuardMismatch left) else last in
    let one = passed (nat_lt left size) (GuardMismatch left) second place is in
    let two = passed (not (address / 2 ^ (left - size) % 2 ^ size == guard / 2 ^ 5)) (GuardMismatch left) last place one in
    let three : ◌≡◌ {A = Found} (Ok found) (Ok place) = passed (nat_lt left (size + radix)) (DepthMismatch left) (Ok found) place two in
    let e : found ≡ place = cc three in
    let index : address / 2 ^ rest % 2 ^ radix ≡ place.0 = ap (λ (p : ℕ × ℕ). p.0) e in
    let positive = pow_pos radix in
    omega (arith, index, positive)

module _ (s : State) (memory : MemoryIsSound s) where
  pub root-plain : (offset radix guard index : ℕ) → IsRoot s (CNode offset radix guard) → index < 2 ^ radix → IsPlain s (offset / 16 + index)
  root-plain offset radix guard index (of_slot slot is) less =
      of_cnode offset radix (memory.named slot (NewCNode radix) offset (ap object_named is)) (omega arith) (omega (arith, less))
  root-plain offset radix guard index (of_loader is) less =
      let e : CNode offset radix guard ≡ CNode 0 s.boot_radix (32 - s.boot_radix) = is in
      let a : offset ≡ 0 = cc in
      let b : radix ≡ s.boot_radix = cc in
      let fits : index < 2 ^ s.boot_radix = subst (λ (r : ℕ). index < 2 ^ r) b less in
      of_boot_cnode (omega (arith, a, fits))

  -- after a CNode
  goes-plain : (offset radix index rest : ℕ) (address n : ℕ) (found : ℕ × ℕ) (stops : Bool) → IsPlain s (offset / 16 + index)
      → ((left : ℕ) → lookup_within n s.slots (capability_at s.slots (offset / 16 + index)) address left ≡ Ok found → IsPlain s found.0)
      → ◌≡◌ {A = Found} (if stops then Ok (offset / 16 + index, rest) else lookup_within n s.slots (capability_at s.slots (offset / 16 + index)) address rest)
      (Ok found)
      → IsPlain s found.0
  goes-plain offset radix index rest address n found true plain later is =
      let e : (offset / 16 + index, rest) ≡ found = cc is in subst (IsPlain s) (ap (λ (p : ℕ × ℕ). p.0) e) plain
  goes-plain offset radix index rest address n found false plain later is = later rest is

  within-plain : (n : ℕ) (root : Cap) (address left : ℕ) (found : ℕ × ℕ) → IsRoot s root
      → lookup_within n s.slots root address left ≡ Ok found → IsPlain s found.0
  unfolding lookup_within
  within-plain zero root address left found is_root is = let e : ◌≡◌ {A = Found} (Err (DepthMismatch left)) (Ok found) = is in absurd cc
  within-plain (suc n) (CNode offset radix guard) address left found is_root is =
      elim (resolve radix guard address left) as (λ r. resolve radix guard address left ≡ r →
      go_on s.slots offset (λ held rest. lookup_within n s.slots held address rest) r ≡ Ok found → IsPlain s found.0) [
        | Err failure ↦ λ _ so. let e : ◌≡◌ {A = Found} (Err failure) (Ok found) = so in absurd cc
        | Ok place ↦ λ resolved so.
            goes-plain offset radix place.0 place.1 address n found
            (place.1 == 0 || not (is_cnode (capability_at s.slots (offset / 16 + place.0))))
            (root-plain offset radix guard place.0 is_root (resolve-index radix guard address left place resolved))
            (λ rest. within-plain n (capability_at s.slots (offset / 16 + place.0)) address rest found (of_slot (offset / 16 + place.0) refl))
            so
      ] refl is
  within-plain (suc n) Empty address left found is_root is = let e : ◌≡◌ {A = Found} (Err InvalidRoot) (Ok found) = is in absurd cc
  within-plain (suc n) (Untyped a b c) address left found is_root is = let e : ◌≡◌ {A = Found} (Err InvalidRoot) (Ok found) = is in absurd cc
  within-plain (suc n) (Endpoint a b c) address left found is_root is = let e : ◌≡◌ {A = Found} (Err InvalidRoot) (Ok found) = is in absurd cc
  within-plain (suc n) (Notification a b c) address left found is_root is = let e : ◌≡◌ {A = Found} (Err InvalidRoot) (Ok found) = is in absurd cc
  within-plain (suc n) (Frame a b c) address left found is_root is = let e : ◌≡◌ {A = Found} (Err InvalidRoot) (Ok found) = is in absurd cc
  within-plain (suc n) (PageTable a b) address left found is_root is = let e : ◌≡◌ {A = Found} (Err InvalidRoot) (Ok found) = is in absurd cc
  within-plain (suc n) (Tcb a) address left found is_root is = let e : ◌≡◌ {A = Found} (Err InvalidRoot) (Ok found) = is in absurd cc
  within-plain (suc n) (RootTable a) address left found is_root is = let e : ◌≡◌ {A = Found} (Err InvalidRoot) (Ok found) = is in absurd cc
  within-plain (suc n) InterruptControl address left found is_root is = let e : ◌≡◌ {A = Found} (Err InvalidRoot) (Ok found) = is in absurd cc
  within-plain (suc n) (InterruptHandler a) address left found is_root is = let e : ◌≡◌ {A = Found} (Err InvalidRoot) (Ok found) = is in absurd cc

  whole-plain : (r : Found) (slot : ℕ) → ((found : ℕ × ℕ) → r ≡ Ok found → IsPlain s found.0) → whole r ≡ Ok slot → IsPlain s slot
  whole-plain (Err failure) slot plain is = let e : ◌≡◌ {A = Result ℕ KError} (Err FailedLookup) (Ok slot) = is in absurd cc
  whole-plain (Ok found) slot plain is =
      elim (found.1 == 0) as (λ b. ◌≡◌ {A = Result ℕ KError} (if b then Ok found.0 else Err FailedLookup) (Ok slot) → IsPlain s slot) [
        | true ↦ λ so. let e : found.0 ≡ slot = cc so in subst (IsPlain s) e (plain found refl)
        | false ↦ λ so. let e : ◌≡◌ {A = Result ℕ KError} (Err FailedLookup) (Ok slot) = so in absurd cc
      ] is

  pub argument-plain : (root : Cap) (name : SlotName) (slot : ℕ) → IsRoot s root → argument_slot s.slots root name ≡ Ok slot → IsPlain s slot
  argument-plain root name slot is_root is =
      let parts = passes-both (check (nat_lt 0 name.depth && nat_le name.depth 32) RangeError) (λ _. whole (lookup s.slots root name.address name.depth)) slot
      is in
      whole-plain (lookup s.slots root name.address name.depth) slot (λ found so. within-plain (suc name.depth) root name.address name.depth found is_root so)
      parts.rest

  -- a slot that has to be empty, and one that has to hold something
  pub destination-plain : (root : Cap) (name : SlotName) (slot : ℕ) → IsRoot s root → destination_slot s.slots root name ≡ Ok slot
      → IsPlain s slot × (is_full s.slots slot ≡ false)
  destination-plain root name slot is_root is =
      let parts = passes-both (argument_slot s.slots root name) (λ found. check (not (is_full s.slots found)) DeleteFirst >>= λ _. Ok found) slot is in
      let tested = passes-both (check (not (is_full s.slots parts.value)) DeleteFirst) (λ _. Ok parts.value) slot parts.rest in
      let e : parts.value ≡ slot = cc tested.rest in (
        argument-plain root name slot is_root (parts.first ∙ ap (λ (x : ℕ). Ok x) e),
        subst (λ (x : ℕ). is_full s.slots x ≡ false) e
            (not-true (is_full s.slots parts.value) (check-passes (not (is_full s.slots parts.value)) DeleteFirst tested.value tested.first)),
      )

  pub source-plain : (root : Cap) (name : SlotName) (slot : ℕ) → IsRoot s root → source_slot s.slots root name ≡ Ok slot
      → IsPlain s slot × IsFull s.slots slot
  source-plain root name slot is_root is =
      let parts = passes-both (argument_slot s.slots root name) (λ found. check (is_full s.slots found) FailedLookup >>= λ _. Ok found) slot is in
      let tested = passes-both (check (is_full s.slots parts.value) FailedLookup) (λ _. Ok parts.value) slot parts.rest in
      let e : parts.value ≡ slot = cc tested.rest in (
        argument-plain root name slot is_root (parts.first ∙ ap (λ (x : ℕ). Ok x) e),
        source-full s.slots root name slot is,
      )
