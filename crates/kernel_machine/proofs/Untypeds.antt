-- Untyped memory is put where the test of the code says that it may lie.
use Rattle.std.proofs.Common.{ℕ, ◌≡◌, ◌∙◌, ◌+◌, ◌/◌, ◌%◌, ◌^◌, ◌≤◌, ◌==◌, ◌&&◌, Bool, true, false, not, nat_le, if◌then◌else◌, None, List, length, sym, ap}
use Rattle.std.proofs.Common.{subst, arith}
use Rattle.std.proofs.Math.Pow.{pow_mono}
use Rattle.std.proofs.lemmas.Bool.{and_parts, eqb-true, leb-true}
use Rattle.std.proofs.lemmas.Nat.{pow_pos}
use Rattle.kernel_invariant.specs.Agreement.{Agrees}
use Rattle.cnode_ops.specs.Refusals.{some_slot}
use Rattle.kernel_machine.specs.Setups.{is_piece, reaches_behind}
use Rattle.model.specs.Capabilities.CapabilityWords.{IsCapability}
use Rattle.model.specs.Capabilities.Slots.{Slots}
use Rattle.model.specs.Kernel.Setup.{may_be_untyped, put_in_boot_slot, put_untyped}
use Rattle.model.specs.Kernel.Soundness.{IsSound}
use Rattle.model.specs.Kernel.State.{State, boot_area_end, slot_numbers}
use Rattle.model.specs.declared.capabilities.Cap.TheVariants.{Untyped}
use Rattle.objects.specs.Tables.{Tables, state_of}

pub memory-few : (s : State) (memory : List ℕ) → IsSound s → Agrees s memory → length memory ≤ 2 ^ 24
memory-few s memory sound agrees =
    let most : 2 ^ s.memory_bits ≤ 2 ^ 24 = pow_mono sound.shape.most_bits in
    subst (λ (n : ℕ). n ≤ 2 ^ 24) agrees.size most

abbrev tested : Slots → ℕ → ℕ → ℕ → ℕ → Bool
tested slots offset bits size first = is_piece size offset bits && nat_le first offset && not (reaches_behind slots (size / 16) offset)

pub may-tested : (o : Tables) (slots : Slots) (memory : List ℕ) (offset bits first : ℕ) → Agrees (state_of o slots memory) memory
    → first ≡ boot_area_end (state_of o slots memory).boot_radix →
    may_be_untyped (state_of o slots memory) offset bits ≡ tested slots offset bits (length memory) first
unfolding state_of some_slot slot_numbers
may-tested o slots memory offset bits first agrees at =
    ap (λ (n : ℕ). tested slots offset bits n (boot_area_end (state_of o slots memory).boot_radix)) agrees.size
    ∙ ap (tested slots offset bits (length memory)) (sym at)

pub untyped-put : (s : State) (index offset bits : ℕ) → may_be_untyped s offset bits ≡ true →
    put_untyped s index offset bits ≡ put_in_boot_slot s index (Untyped offset bits 0)
unfolding put_untyped
untyped-put s index offset bits is = ap (λ b. if b then put_in_boot_slot s index (Untyped offset bits 0) else None) is

pub untyped-none : (s : State) (index offset bits : ℕ) → may_be_untyped s offset bits ≡ false → put_untyped s index offset bits ≡ None
unfolding put_untyped
untyped-none s index offset bits is = ap (λ b. if b then put_in_boot_slot s index (Untyped offset bits 0) else None) is

pub untyped-valid : (slots : Slots) (size first offset bits : ℕ) → size ≤ 2 ^ 24 → tested slots offset bits size first ≡ true →
    IsCapability (Untyped offset bits 0)
untyped-valid slots size first offset bits most is =
    let all = and_parts (is_piece size offset bits && nat_le first offset) (not (reaches_behind slots (size / 16) offset)) is in
    let piece = and_parts (is_piece size offset bits) (nat_le first offset) all.0 in
    let three = and_parts (nat_le 4 bits && nat_le bits 24 && (offset % 2 ^ bits == 0)) (nat_le (offset + 2 ^ bits) size) piece.0 in
    let two = and_parts (nat_le 4 bits && nat_le bits 24) (offset % 2 ^ bits == 0) three.0 in
    let one = and_parts (nat_le 4 bits) (nat_le bits 24) two.0 in
    let inside = leb-true (offset + 2 ^ bits) size three.1 in
    let some = pow_pos bits in
    ((eqb-true (offset % 2 ^ bits) 0 two.1, omega (arith, inside, some, most)), leb-true 4 bits one.0, leb-true bits 24 one.1, omega arith)
