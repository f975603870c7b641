-- Bytes that are compared one after another.
use Rattle.std.proofs.Common.{◌≡◌, ◌∙◌, ℕ, ◌+◌, ◌%◌, ◌^◌, ◌<◌, ◌≤◌, ◌==◌, ◌&&◌, Bool, true, false, List, [], ◌∷◌, ap, refl, sym, drop, length}
use Rattle.std.specs.Prelude.{slice_index}
use Rattle.std.specs.Option.{option_map_or}
use Rattle.std.proofs.lemmas.List.{at_drop_all, at_drop_more}
use Rattle.model.specs.Kernel.State.{State}
use Rattle.debugging.specs.Stops.{has_bytes}

abbrev pub is_byte : State → ℕ → ℕ → Bool
is_byte s place byte = option_map_or (λ b. b == byte) (s.bytes place) false

byte-next : (s : State) (place byte : ℕ) (bytes : List ℕ) (test : Bool) → is_byte s place byte ≡ test
    → has_bytes s place (byte ∷ bytes) ≡ (test && has_bytes s ((place + 1) % 2 ^ 32) bytes)
unfolding has_bytes
byte-next s place byte bytes test is = ap (λ (b : Bool). b && has_bytes s ((place + 1) % 2 ^ 32) bytes) is

pub bytes-left : (s : State) (place at i : ℕ) (all : List ℕ) (test : Bool) → i < length all → is_byte s at (slice_index all i) ≡ test
    → has_bytes s place all ≡ has_bytes s at (drop i all) → has_bytes s place all ≡ (test && has_bytes s ((at + 1) % 2 ^ 32) (drop (i + 1) all))
bytes-left s place at i all test less is before =
    before ∙ at_drop_more (has_bytes s at) all i 0 less ∙ byte-next s at (slice_index all i) (drop (i + 1) all) test is

no-byte : (s : State) (at : ℕ) → has_bytes s at [] ≡ true
unfolding has_bytes
no-byte s at = refl

pub bytes-done : (s : State) (place at i : ℕ) (all : List ℕ) → length all ≤ i → has_bytes s place all ≡ has_bytes s at (drop i all)
    → true ≡ has_bytes s place all
bytes-done s place at i all most before = sym (before ∙ at_drop_all (has_bytes s at) all i most ∙ no-byte s at)
