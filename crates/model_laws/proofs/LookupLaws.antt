-- An address leads to one slot or one failure, and the lookup leads there.
use Rattle.std.proofs.Common.{ℕ, zero, suc, ◌≡◌, ◌∙◌, ◌==◌, ◌+◌, ◌-◌, ◌/◌, ◌%◌, ◌^◌, ◌<◌, ◌≤◌, ◌||◌, Bool, true, false, not, nat_lt, if◌then◌else◌, Result, Ok}
use Rattle.std.proofs.Common.{Err, refl, sym, ap, subst, arith}
use Rattle.std.specs.Prelude.{⊤}
use Rattle.std.proofs.lemmas.Bool.{ltb-false}
use Rattle.model.specs.declared.capabilities.Cap.{Cap}
use Rattle.model.specs.declared.capabilities.Cap.TheVariants.{Empty, Untyped, Endpoint, Notification, CNode, Frame, PageTable, Tcb, RootTable, InterruptControl}
use Rattle.model.specs.declared.capabilities.Cap.TheVariants.{InterruptHandler}
use Rattle.model.specs.declared.lookup_failures.LookupFailure.{LookupFailure}
use Rattle.model.specs.declared.lookup_failures.LookupFailure.TheVariants.{DepthMismatch, GuardMismatch}
use Rattle.model.specs.Capabilities.CapabilityWords.{IsCapability}
use Rattle.model.specs.Capabilities.Lookup.{go_on, is_cnode, lookup, lookup_within, resolve}
use Rattle.model.specs.Capabilities.Slots.{Slots, IsDerivation, capability_at}
use Rattle.model_laws.specs.Lookups.{LeadsTo, no_cnode, unresolved, ends, goes_on, slot_under}

abbrev Found : Type 0
Found = Result (ℕ × ℕ) LookupFailure

pub leads-one : (slots : Slots) (address : ℕ) (root : Cap) (left : ℕ) (one other : Found) → LeadsTo slots address root left one →
    LeadsTo slots address root left other → one ≡ other
leads-one slots address root left one other (no_cnode _ _ is) (no_cnode _ _ _) = refl
leads-one slots address root left one other (no_cnode _ _ is) (unresolved offset radix guard _ failure _) = absurd (let clash : true ≡ false = is in cc)
leads-one slots address root left one other (no_cnode _ _ is) (ends offset radix guard _ place _ _) = absurd (let clash : true ≡ false = is in cc)
leads-one slots address root left one other (no_cnode _ _ is) (goes_on offset radix guard _ place found _ _ _) = absurd (let clash : true ≡ false = is in cc)
leads-one slots address root left one other (unresolved offset radix guard _ failure is) (no_cnode _ _ isnt) = absurd (let clash : true ≡ false = isnt in cc)
leads-one slots address root left one other (unresolved offset radix guard _ failure is) (unresolved _ _ _ _ another so) = cc (is, so)
leads-one slots address root left one other (unresolved offset radix guard _ failure is) (ends _ _ _ _ place so _) =
    absurd (let clash : Err failure ≡ Ok place = sym is ∙ so in cc)
leads-one slots address root left one other (unresolved offset radix guard _ failure is) (goes_on _ _ _ _ place found so _ _) =
    absurd (let clash : Err failure ≡ Ok place = sym is ∙ so in cc)
leads-one slots address root left one other (ends offset radix guard _ place is stop) (no_cnode _ _ isnt) = absurd (let clash : true ≡ false = isnt in cc)
leads-one slots address root left one other (ends offset radix guard _ place is stop) (unresolved _ _ _ _ failure so) =
    absurd (let clash : Ok place ≡ Err failure = sym is ∙ so in cc)
leads-one slots address root left one other (ends offset radix guard _ place is stop) (ends _ _ _ _ another so _) =
    let same : place ≡ another = cc (is, so) in ap (λ p. Ok (slot_under offset p, p.1)) same
leads-one slots address root left one other (ends offset radix guard _ place is stop) (goes_on _ _ _ _ another found so more _) =
    let same : place ≡ another = cc (is, so) in
    absurd (let clash : true ≡ false = sym stop ∙ ap (λ p. p.1 == 0 || not (is_cnode (capability_at slots (slot_under offset p)))) same ∙ more in cc)
leads-one slots address root left one other (goes_on offset radix guard _ place found is more rest) (no_cnode _ _ isnt) =
    absurd (let clash : true ≡ false = isnt in cc)
leads-one slots address root left one other (goes_on offset radix guard _ place found is more rest) (unresolved _ _ _ _ failure so) =
    absurd (let clash : Ok place ≡ Err failure = sym is ∙ so in cc)
leads-one slots address root left one other (goes_on offset radix guard _ place found is more rest) (ends _ _ _ _ another so stop) =
    let same : place ≡ another = cc (is, so) in
    absurd (let clash : true ≡ false = sym stop ∙ ap (λ p. p.1 == 0 || not (is_cnode (capability_at slots (slot_under offset p)))) (sym same) ∙ more in cc)
leads-one slots address root left one other (goes_on offset radix guard _ place found is more rest) (goes_on _ _ _ _ another later so _ further) =
    let same : another ≡ place = cc (is, so) in
    leads-one slots address _ place.1 one other rest (subst (λ p. LeadsTo slots address (capability_at slots (slot_under offset p)) p.1 other) same further)

-- ---- the function leads there

-- a CNode takes at least one bit
TakesBits : Cap → Type 0
TakesBits (CNode offset radix guard) = 1 ≤ radix
TakesBits _ = ⊤

takes-bits : (capability : Cap) → IsCapability capability → TakesBits capability
unfolding TakesBits
takes-bits Empty is = tt
takes-bits (Untyped _ _ _) is = tt
takes-bits (Endpoint _ _ _) is = tt
takes-bits (Notification _ _ _) is = tt
takes-bits (CNode offset radix guard) is = is.1
takes-bits (Frame _ _ _) is = tt
takes-bits (PageTable _ _) is = tt
takes-bits (Tcb _) is = tt
takes-bits (RootTable _) is = tt
takes-bits InterruptControl is = tt
takes-bits (InterruptHandler _) is = tt

cnode-takes : (offset radix guard : ℕ) → TakesBits (CNode offset radix guard) → 1 ≤ radix
unfolding TakesBits
cnode-takes offset radix guard takes = takes

abbrev Resolved : Type 0
Resolved = Result (ℕ × ℕ) LookupFailure

-- a test that did not fail
passed : (b : Bool) (failure : LookupFailure) (r : Resolved) (place : ℕ × ℕ) → (if b then Err failure else r) ≡ Ok place → (b ≡ false) × (r ≡ Ok place)
passed true failure r place h = absurd (let clash : ◌≡◌ {A = Resolved} (Err failure) (Ok place) = h in cc)
passed false failure r place h = (refl, h)

-- after a CNode fewer bits are left
fewer : (radix guard address left : ℕ) (place : ℕ × ℕ) → 1 ≤ radix → resolve radix guard address left ≡ Ok place → place.1 < left
fewer radix guard address left place takes resolved =
    let size : ℕ = guard % 2 ^ 5 in
    let rest : ℕ = left - (size + radix) in
    let found : ℕ × ℕ = (address / 2 ^ rest % 2 ^ radix, rest) in
    let last : Resolved = if nat_lt left (size + radix) then Err (DepthMismatch left) else Ok found in
    let second : Resolved = if not (address / 2 ^ (left - size) % 2 ^ size == guard / 2 ^ 5) then Err (GuardMismatch left) else last in
    let one = passed (nat_lt left size) (GuardMismatch left) second place resolved in
    let two = passed (not (address / 2 ^ (left - size) % 2 ^ size == guard / 2 ^ 5)) (GuardMismatch left) last place one.1 in
    let three = passed (nat_lt left (size + radix)) (DepthMismatch left) (Ok found) place two.1 in
    let enough : size + radix ≤ left = ltb-false left (size + radix) three.0 in
    let is : ◌≡◌ {A = Resolved} (Ok found) (Ok place) = three.1 in
    let same : found ≡ place = cc is in
    let left_over : rest ≡ place.1 = ap (λ (p : ℕ × ℕ). p.1) same in
    omega (arith, enough, left_over, takes)

-- where each CNode takes bits, the lookup leads to what it answers
leads-there : (slots : Slots) (address n : ℕ) (root : Cap) (left : ℕ) → ((slot : ℕ) → TakesBits (capability_at slots slot)) → TakesBits root → left < n
    → LeadsTo slots address root left (lookup_within n slots root address left)
unfolding lookup_within
leads-there slots address zero root left all takes less = absurd (omega arith)
leads-there slots address (suc n) Empty left all takes less = no_cnode Empty left refl
leads-there slots address (suc n) (Untyped a b c) left all takes less = no_cnode (Untyped a b c) left refl
leads-there slots address (suc n) (Endpoint a b c) left all takes less = no_cnode (Endpoint a b c) left refl
leads-there slots address (suc n) (Notification a b c) left all takes less = no_cnode (Notification a b c) left refl
leads-there slots address (suc n) (Frame a b c) left all takes less = no_cnode (Frame a b c) left refl
leads-there slots address (suc n) (PageTable a b) left all takes less = no_cnode (PageTable a b) left refl
leads-there slots address (suc n) (Tcb a) left all takes less = no_cnode (Tcb a) left refl
leads-there slots address (suc n) (RootTable a) left all takes less = no_cnode (RootTable a) left refl
leads-there slots address (suc n) InterruptControl left all takes less = no_cnode InterruptControl left refl
leads-there slots address (suc n) (InterruptHandler a) left all takes less = no_cnode (InterruptHandler a) left refl
leads-there slots address (suc n) (CNode offset radix guard) left all takes less =
    let next : Cap → ℕ → Found = λ held rest. lookup_within n slots held address rest in
    elim (resolve radix guard address left) as (λ r. resolve radix guard address left ≡ r →
    LeadsTo slots address (CNode offset radix guard) left (go_on slots offset next r)) [
      | Err failure ↦ λ is. unresolved offset radix guard left failure is
      | Ok place ↦ λ is.
          let held : Cap = capability_at slots (slot_under offset place) in
          let below : place.1 < n = (let f = fewer radix guard address left place (cnode-takes offset radix guard takes) is in omega (arith, f, less)) in
          elim (place.1 == 0 || not (is_cnode held)) as (λ b. (place.1 == 0 || not (is_cnode held)) ≡ b
          → LeadsTo slots address (CNode offset radix guard) left
          (if b then Ok (slot_under offset place, place.1) else lookup_within n slots held address place.1)) [
            | true ↦ λ stop. ends offset radix guard left place is stop
            | false ↦ λ more. goes_on offset radix guard left place (lookup_within n slots held address place.1) is more
                (leads-there slots address n held place.1 all (all (slot_under offset place)) below)
          ] refl
    ] refl

pub lookup-leads : (slots : Slots) (root : Cap) (address depth : ℕ) → IsDerivation slots → IsCapability root
    → LeadsTo slots address root depth (lookup slots root address depth)
lookup-leads slots root address depth tree valid =
    leads-there slots address (suc depth) root depth (λ slot. takes-bits (capability_at slots slot) (tree.valid slot)) (takes-bits root valid) (omega arith)
