-- What the world outside writes: bytes of one frame change, and nothing else.
use Rattle.std.proofs.Common.{ℕ, ◌≡◌, ◌+◌, ◌-◌, ◌/◌, ◌%◌, ◌^◌, ◌<◌, ◌≤◌, ◌⊎◌, inl, inr, Bool, true, false, if◌then◌else◌, List, [], ◌∷◌, Option, Some, None}
use Rattle.std.proofs.Common.{option_map, refl, arith}
use Rattle.std.specs.Prelude.{All, IsSome, slice_index}
use Rattle.std.proofs.lemmas.List.Elements.{All-cons, All-nil}
use Rattle.model.proofs.SlotChanges.{within-bounds}
use Rattle.model.specs.Capabilities.Slots.{is_within}
use Rattle.model.specs.Kernel.Setup.{with_first_bytes}
use Rattle.model.specs.Kernel.Soundness.{IsSound}
use Rattle.model.specs.Kernel.State.{State}
use Rattle.model.specs.Kernel.World.{is_word_of_frame, world_writes}
use Rattle.model.specs.Shared.Bytes.{word_bytes}
use Rattle.soundness.specs.Machines.{SameBesideBytes}
use Rattle.soundness.proofs.Setups.{filled-whole}

byte-cons : (a : ℕ) (rest : List ℕ) → a < 2 ^ 8 → All (λ n. n < 2 ^ 8) rest → All (λ n. n < 2 ^ 8) (a ∷ rest)
byte-cons a rest less more = All-cons (λ (n : ℕ). n < 2 ^ 8) a rest less more

word-small : (n : ℕ) → All (λ byte. byte < 2 ^ 8) (word_bytes n)
word-small n =
    let one : List ℕ = n / 16777216 % 256 ∷ [] in
    let two : List ℕ = n / 65536 % 256 ∷ one in
    let three : List ℕ = n / 256 % 256 ∷ two in
    byte-cons (n % 256) three (omega arith) (byte-cons (n / 256 % 256) two (omega arith) (byte-cons (n / 65536 % 256) one (omega arith)
    (byte-cons (n / 16777216 % 256) [] (omega arith) (All-nil (λ (n : ℕ). n < 2 ^ 8)))))

pub written-whole : (s : State) (place word : ℕ) → IsSound s → IsSound (world_writes s place word)
unfolding world_writes
written-whole s place word whole =
    elim (is_word_of_frame s place) as (λ b. IsSound (if b then with_first_bytes s place (word_bytes word) else s)) [
      | true ↦ filled-whole s place (word_bytes word) whole (word-small word)
      | false ↦ whole
    ]

same-beside : (b : Bool) (s : State) (place word : ℕ) → SameBesideBytes s (if b then with_first_bytes s place (word_bytes word) else s)
same-beside true s place word = record {
  base = record { memory_bits = refl; boot_radix = refl; slots = refl };
  objects = refl;
  ready = refl;
  masked = refl;
  pending = refl;
}
same-beside false s place word = record {
  base = record { memory_bits = refl; boot_radix = refl; slots = refl };
  objects = refl;
  ready = refl;
  masked = refl;
  pending = refl;
}

pub written-beside : (s : State) (place word : ℕ) → SameBesideBytes s (world_writes s place word)
unfolding world_writes
written-beside s place word = same-beside (is_word_of_frame s place) s place word

-- a byte is one of the word's, or it stays
abbrev pub IsWritten : ℕ → ℕ → Option ℕ → Option ℕ → Type 0
IsWritten place other old new = (new ≡ old) ⊎ ((place ≤ other) × (other < place + 4) × IsSome old × IsSome new)

byte-put : (place other byte : ℕ) (old : Option ℕ) → place ≤ other → other < place + 4 → IsWritten place other old (option_map (λ _. byte) old)
byte-put place other byte None low high = inl refl
byte-put place other byte (Some old) low high = inr (low, high, refl, refl)

pub written-byte : (s : State) (place word other : ℕ) → IsWritten place other (s.bytes other) ((world_writes s place word).bytes other)
unfolding world_writes
written-byte s place word other =
    elim (is_word_of_frame s place)
    as (λ b. IsWritten place other (s.bytes other) ((if b then with_first_bytes s place (word_bytes word) else s).bytes other)) [
      | true ↦ elim (is_within place 4 other) as (λ b. is_within place 4 other ≡ b → IsWritten place other (s.bytes other)
          (if b then option_map (λ _. slice_index (word_bytes word) (other - place)) (s.bytes other) else s.bytes other)) [
            | true ↦ λ inside.
                let bounds = within-bounds place 4 other inside in
                byte-put place other (slice_index (word_bytes word) (other - place)) (s.bytes other) bounds.0 bounds.1
            | false ↦ λ _. inl refl
          ] refl
      | false ↦ inl refl
    ]
