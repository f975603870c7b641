-- What the loader's names lead to: a boot slot by its number at 32 bits, and a slot of a CNode by an index of as many bits as it takes.
use Rattle.std.proofs.Common.{ℕ, ◌≡◌, ◌∙◌, ◌==◌, ◌+◌, ◌-◌, ◌/◌, ◌%◌, ◌^◌, ◌<◌, ◌≤◌, ◌&&◌, Bool, true, false, not, nat_le, nat_lt, if◌then◌else◌, List, None}
use Rattle.std.proofs.Common.{Result, Ok, Err, refl, sym, ap, arith}
use Rattle.std.proofs.Math.Nat.{div-eq_of_lt, div-one, mod-eq_of_lt, zero-mod}
use Rattle.std.proofs.Math.Pow.{pow_mono}
use Rattle.std.proofs.lemmas.Bool.{and_from, eq-eqb, le-leb, le-ltb, lt-ltb, ne_eqb}
use Rattle.model.specs.Capabilities.Lookup.{called, called_slot, go_on, lookup, lookup_within, resolve}
use Rattle.model.specs.Capabilities.Slots.{Slots, capability_at, is_empty, is_full}
use Rattle.model.specs.Images.Boot.{boot_call, boot_root, made, or_failed, performed}
use Rattle.model.specs.Images.BootCalls.{boot_cnode, loader_call}
use Rattle.model.specs.Kernel.Arguments.{◌>>=◌, Call, argument_slot, check, destination_slot, source_slot, whole}
use Rattle.model.specs.Kernel.Soundness.{HasShape}
use Rattle.model.specs.Kernel.State.{State, slot_of}
use Rattle.model.specs.declared.capabilities.Cap.{Cap}
use Rattle.model.specs.declared.capabilities.Cap.TheVariants.{CNode}
use Rattle.model.specs.declared.errors.KError.{KError}
use Rattle.model.specs.declared.errors.KError.TheVariants.{DeleteFirst, FailedLookup, RangeError}
use Rattle.model.specs.declared.invocations.SlotName.{SlotName}
use Rattle.model.specs.declared.lookup_failures.LookupFailure.{LookupFailure}
use Rattle.model.specs.declared.lookup_failures.LookupFailure.TheVariants.{DepthMismatch, GuardMismatch, MissingCapability}

-- ---- one step after another

pub goes : {A B : Type 0} (r : Result A KError) (f : A → Result B KError) (value : A) (end : Result B KError) → r ≡ Ok value → f value ≡ end → (r >>= f) ≡ end
goes r f value end first rest = ap (λ x. x >>= f) first ∙ rest

pub passes : {B : Type 0} (test : Bool) (error : KError) (f : Unit {0} → Result B KError) (end : Result B KError) → test ≡ true → f tt ≡ end
    → (check test error >>= f) ≡ end
passes test error f end first rest = ap (λ b. check b error >>= f) first ∙ rest

-- ---- one CNode takes all bits that are left

abbrev Found : Type 0
Found = Result (ℕ × ℕ) LookupFailure

abbrev tested : ℕ → Bool → Bool → Bool → ℕ × ℕ → Found
tested left few wrong short place =
    if few then Err (GuardMismatch left) else if wrong then Err (GuardMismatch left) else if short then Err (DepthMismatch left) else Ok place

-- the address has no other bits than those of the index, and the guard is of zeros
no-high : (radix size address left : ℕ) → size + radix ≡ left → address < 2 ^ radix → address / 2 ^ (left - size) % 2 ^ size ≡ 0
no-high radix size address left all below =
    let behind : left - size ≡ radix = omega (arith, all) in
    ap (λ (n : ℕ). address / 2 ^ n % 2 ^ size) behind ∙ ap (λ (n : ℕ). n % 2 ^ size) (div-eq_of_lt below) ∙ zero-mod (2 ^ size)

no-rest : (radix size left : ℕ) → size + radix ≡ left → left - (size + radix) ≡ 0
no-rest radix size left all = omega (arith, all)

whole-index : (radix address rest : ℕ) → rest ≡ 0 → address < 2 ^ radix → address / 2 ^ rest % 2 ^ radix ≡ address
whole-index radix address rest none below =
    ap (λ (n : ℕ). address / 2 ^ n % 2 ^ radix) none ∙ ap (λ (n : ℕ). n % 2 ^ radix) (div-one address) ∙ mod-eq_of_lt below

by-size : (radix size zeros address left : ℕ) → zeros ≡ 0 → size + radix ≡ left → address < 2 ^ radix
    → tested left (nat_lt left size) (not (address / 2 ^ (left - size) % 2 ^ size == zeros)) (nat_lt left (size + radix))
    (address / 2 ^ (left - (size + radix)) % 2 ^ radix, left - (size + radix))
    ≡ Ok (address, 0)
by-size radix size zeros address left none all below =
    let high = no-high radix size address left all below in
    let rest = no-rest radix size left all in
    let place : ℕ × ℕ = (address / 2 ^ (left - (size + radix)) % 2 ^ radix, left - (size + radix)) in
    let wrong : Bool = not (address / 2 ^ (left - size) % 2 ^ size == zeros) in
    let right : wrong ≡ false = ap not (eq-eqb (address / 2 ^ (left - size) % 2 ^ size) zeros (high ∙ sym none)) in
    ap (λ b. tested left b wrong (nat_lt left (size + radix)) place) (le-ltb left size (omega (arith, all)))
    ∙ ap (λ b. tested left false b (nat_lt left (size + radix)) place) right
    ∙ ap (λ b. tested left false false b place) (le-ltb left (size + radix) (omega (arith, all)))
    ∙ ap (λ (i : ℕ). Ok (i, left - (size + radix))) (whole-index radix address (left - (size + radix)) rest below)
    ∙ ap (λ (n : ℕ). Ok (address, n)) rest

pub resolves : (radix size address left : ℕ) → size < 32 → size + radix ≡ left → address < 2 ^ radix → resolve radix size address left ≡ Ok (address, 0)
resolves radix size address left small all below =
    let low : size % 32 ≡ size = omega (arith, small) in
    let none : size / 32 ≡ 0 = omega (arith, small) in
    ap (λ (n : ℕ). tested left (nat_lt left n) (not (address / 2 ^ (left - n) % 2 ^ n == size / 32)) (nat_lt left (n + radix))
    (address / 2 ^ (left - (n + radix)) % 2 ^ radix, left - (n + radix))) low
    ∙ by-size radix size (size / 32) address left none all below

-- ---- lookups

pub lookup-ends : (slots : Slots) (offset radix size address left : ℕ) → size < 32 → size + radix ≡ left → address < 2 ^ radix
    → lookup slots (CNode offset radix size) address left ≡ Ok (slot_of offset address, 0)
unfolding lookup_within
lookup-ends slots offset radix size address left small all below =
    ap (go_on slots offset (λ held rest. lookup_within left slots held address rest)) (resolves radix size address left small all below)

-- a slot of a CNode, by its original, whose guard word is 0
module _ (slots : Slots) (offset radix index : ℕ) (least : 1 ≤ radix) (most : radix ≤ 32) (below : index < 2 ^ radix) where
  abbrev by_index : SlotName
  by_index = record { address = index; depth = radix }

  pub index-named : argument_slot slots (CNode offset radix 0) by_index ≡ Ok (slot_of offset index)
  index-named =
      let fits = and_from (nat_lt 0 radix) (nat_le radix 32) (lt-ltb 0 radix least) (le-leb radix 32 most) in
      passes (nat_lt 0 radix && nat_le radix 32) RangeError _ (Ok (slot_of offset index)) fits
      (ap whole (lookup-ends slots offset radix 0 index radix (omega arith) (omega arith) below))

  pub index-destination : is_full slots (slot_of offset index) ≡ false → destination_slot slots (CNode offset radix 0) by_index ≡ Ok (slot_of offset index)
  index-destination free =
      goes (argument_slot slots (CNode offset radix 0) by_index) _ (slot_of offset index) (Ok (slot_of offset index)) index-named
      (passes (not (is_full slots (slot_of offset index))) DeleteFirst _ (Ok (slot_of offset index)) (ap not free) refl)

-- a boot slot as an argument, and a call on what it holds
abbrev pub boot_name : ℕ → SlotName
boot_name slot = record { address = slot; depth = 32 }

abbrev pub slot_call : State → ℕ → Cap → Call
slot_call s slot capability = record { root = boot_root s.boot_radix; caller = None; slot = slot; capability = capability }

module _ (s : State) (shape : HasShape s) (slot : ℕ) (below : slot < 2 ^ s.boot_radix) where
  boot-found : lookup s.slots (boot_root s.boot_radix) slot 32 ≡ Ok (slot, 0)
  boot-found =
      let least = shape.least_radix in
      let most = shape.most_radix in
      let bare : slot_of 0 slot ≡ slot = omega arith in
      lookup-ends s.slots 0 s.boot_radix (32 - s.boot_radix) slot 32 (omega (arith, least)) (omega (arith, most)) below ∙ ap (λ (n : ℕ). Ok (n, 0)) bare

  pub boot-named : argument_slot s.slots (boot_root s.boot_radix) (boot_name slot) ≡ Ok slot
  boot-named = ap whole boot-found

  pub boot-destination : is_full s.slots slot ≡ false → destination_slot s.slots (boot_root s.boot_radix) (boot_name slot) ≡ Ok slot
  boot-destination free =
      goes (argument_slot s.slots (boot_root s.boot_radix) (boot_name slot)) _ slot (Ok slot) boot-named
      (passes (not (is_full s.slots slot)) DeleteFirst _ (Ok slot) (ap not free) refl)

  pub boot-source : is_full s.slots slot ≡ true → source_slot s.slots (boot_root s.boot_radix) (boot_name slot) ≡ Ok slot
  boot-source full =
      goes (argument_slot s.slots (boot_root s.boot_radix) (boot_name slot)) _ slot (Ok slot) boot-named
      (passes (is_full s.slots slot) FailedLookup _ (Ok slot) full refl)

  -- ---- a call on what the boot slot holds

  no-cnode : (slot == boot_cnode) ≡ false
  no-cnode =
      let few : 2 ^ s.boot_radix ≤ 2 ^ 14 = pow_mono shape.most_radix in
      ne_eqb slot boot_cnode (λ same. omega (arith, few, below, same))

  boot-called : is_full s.slots slot ≡ true → called_slot s.slots (boot_root s.boot_radix) slot ≡ Ok slot
  boot-called full = ap (called s.slots) boot-found ∙ ap (λ b. if b then Ok slot else Err MissingCapability) full

  pub boot-call : (capability : Cap) → capability_at s.slots slot ≡ capability → is_empty capability ≡ false →
      boot_call s slot ≡ Ok (slot_call s slot capability)
  boot-call capability holds some =
      let root = boot_root s.boot_radix in
      let itself : Call = record { root = root; caller = None; slot = 0; capability = root } in
      let other : Result Call KError = or_failed (called_slot s.slots root slot) >>= λ found.
      Ok (record { root = root; caller = None; slot = found; capability = capability_at s.slots found }) in
      ap (λ b. if b then Ok itself else other) no-cnode
      ∙ ap (λ r. or_failed r >>= λ found. Ok (record { root = root; caller = None; slot = found; capability = capability_at s.slots found }))
      (boot-called (ap (λ c. not (is_empty c)) holds ∙ ap not some))
      ∙ ap (λ c. Ok (slot_call s slot c)) holds

  pub made-there : (label : ℕ) (words : List ℕ) (capability : Cap) → capability_at s.slots slot ≡ capability → is_empty capability ≡ false
      → made s (loader_call slot label words) ≡ performed s label words (slot_call s slot capability)
  unfolding made
  made-there label words capability holds some = ap (λ r. r >>= λ call. performed s label words call) (boot-call capability holds some)

-- a call on the boot CNode itself
abbrev pub boot_cnode_call : State → Call
boot_cnode_call s = record { root = boot_root s.boot_radix; caller = None; slot = 0; capability = boot_root s.boot_radix }

pub made-at_cnode : (s : State) (label : ℕ) (words : List ℕ) → made s (loader_call boot_cnode label words) ≡ performed s label words (boot_cnode_call s)
unfolding made
made-at_cnode s label words = refl
