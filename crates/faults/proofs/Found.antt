-- The handler that a look-up finds.
use Rattle.std.proofs.Common.{ℕ, ◌≡◌, ◌∙◌, ◌==◌, ◌/◌, inl, inr, false, if◌then◌else◌, Option, None, Result, sym, ap, arith}
use Rattle.std.proofs.lemmas.Bool.Decides.{eqb_tells}
use Rattle.model.specs.Capabilities.Lookup.{called_slot}
use Rattle.model.specs.Capabilities.Slots.{Slots, capability_at}
use Rattle.model.specs.Kernel.Faults.{Handler, handler, handler_in}
use Rattle.model.specs.Kernel.State.{State, cspace_slot, thread_at}
use Rattle.model.specs.declared.capabilities.Cap.{Cap}
use Rattle.model.specs.declared.lookup_failures.LookupFailure.{LookupFailure}

own-slot : (thread place : ℕ) → place ≡ thread / 16 → place ≡ cspace_slot thread
own-slot thread place is = omega (arith, is)

-- in the capability space whose root is in the thread's slot
pub found-in : (s : State) (slots : Slots) (thread address place : ℕ) (root : Cap) (found : Result ℕ LookupFailure) → s.slots ≡ slots → place ≡ thread / 16
    → root ≡ capability_at slots place → found ≡ called_slot slots root address
    → handler_in s found ≡ handler_in s (called_slot s.slots (capability_at s.slots (cspace_slot thread)) address)
found-in s slots thread address place root found same is_place is_root is_found =
    ap (handler_in s) is_found ∙ ap (λ (r : Cap). handler_in s (called_slot slots r address)) is_root
    ∙ (λ i. handler_in s (called_slot (sym same i) (capability_at (sym same i) (own-slot thread place is_place i)) address))

differs : (address : ℕ) → (address ≡ 0 → ⊥) → (address == 0) ≡ false
differs address some = elim (eqb_tells address 0) [
  | inl here ↦ absurd (some here.1)
  | inr apart ↦ apart.0
]

pub by-address : (s : State) (thread address : ℕ) (found : Option Handler) → address ≡ (thread_at s thread).fault_address → (address ≡ 0 → ⊥)
    → found ≡ handler_in s (called_slot s.slots (capability_at s.slots (cspace_slot thread)) address) → found ≡ handler s thread
by-address s thread address found is_address some is_found =
    let at = λ (n : ℕ). handler_in s (called_slot s.slots (capability_at s.slots (cspace_slot thread)) n) in
    is_found ∙ ap (λ b. if b then None else at address) (sym (differs address some))
    ∙ ap (λ (n : ℕ). if n == 0 then None else at n) is_address
