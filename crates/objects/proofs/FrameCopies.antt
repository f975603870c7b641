-- The state follows words that are copied from one frame to another, and what stands still does.
use Rattle.std.proofs.Common.{ℕ, ◌≡◌, ◌∙◌, ◌+◌, ◌*◌, ◌-◌, ◌/◌, ◌≤◌, true, false, if◌then◌else◌, Option, Some, None, IsSome, option_map, List, refl, sym, ap}
use Rattle.std.proofs.Common.{subst, arith}
use Rattle.std.specs.Prelude.{slice_index}
use Rattle.model.proofs.SlotChanges.{within-bounds}
use Rattle.model.specs.Capabilities.Slots.{OutsideSlots, Slots, is_within}
use Rattle.model.specs.Kernel.Messages.{with_copied}
use Rattle.model.specs.Kernel.State.{State}
use Rattle.objects.proofs.Following.{not-open}
use Rattle.objects.proofs.StateLaws.{byte-there, follows-frames, stands-frames}
use Rattle.objects.specs.Frames.{AreCopied, IsFramed, SameBesideFrames, SameObjects}
use Rattle.objects.specs.Standing.{Standing}
use Rattle.objects.specs.Tables.{Tables, state_of}

-- the byte that is there is memory's
some-byte : (b : Option ℕ) (now : ℕ) → IsSome b → ((byte : ℕ) → b ≡ Some byte → byte ≡ now) → b ≡ Some now
some-byte (Some byte) now some is = ap Some (is byte refl)
some-byte None now some is = absurd (let clash : false ≡ true = some in cc)

same-byte : (b : Option ℕ) (now : ℕ) → ((byte : ℕ) → b ≡ Some byte → byte ≡ now) → option_map (λ _. now) b ≡ b
same-byte (Some byte) now is = ap Some (sym (is byte refl))
same-byte None now is = refl

map-some : (b : Option ℕ) (now : ℕ) → IsSome b → option_map (λ _. now) b ≡ Some now
map-some (Some byte) now some = refl
map-some None now some = absurd (let clash : false ≡ true = some in cc)

some-not-none : (b : Option ℕ) → IsSome b → b ≡ None → ⊥
some-not-none (Some byte) some none = absurd (let clash : Some byte ≡ None = none in cc)
some-not-none None some none = absurd (let clash : false ≡ true = some in cc)

module _ (o : Tables) (slots : Slots) (old new : List ℕ) (source target count : ℕ) (few : count ≤ 112) (stood : Standing o slots old)
    (from : IsFramed (state_of o slots old) source) (to : IsFramed (state_of o slots old) target)
    (copied : AreCopied old new (source + 32) (target + 32) (4 * count)) where
  abbrev s : State
  s = state_of o slots old

  own : (place : ℕ) → IsSome (s.bytes place) → s.bytes place ≡ Some (slice_index old place)
  own place some = some-byte (s.bytes place) (slice_index old place) some (λ byte is. byte-there o slots old place byte is)

  some-there : (place : ℕ) → is_within (target + 32) (4 * count) place ≡ true → IsSome (s.bytes place)
  some-there place within =
      let bounds = within-bounds (target + 32) (4 * count) place within in
      to place (omega (arith, bounds.0)) (omega (arith, bounds.1, few))

  -- where no frame is, nothing is copied
  none-same : (place : ℕ) → s.bytes place ≡ None → slice_index new place ≡ slice_index old place
  none-same place none =
      copied.bytes place ∙ elim (is_within (target + 32) (4 * count) place) as (λ b. is_within (target + 32) (4 * count) place ≡ b
      → (if b then slice_index old (source + 32 + (place - (target + 32))) else slice_index old place) ≡ slice_index old place) [
        | true ↦ λ within. absurd (some-not-none (s.bytes place) (some-there place within) none)
        | false ↦ λ without. refl
      ] refl

  same-frames : SameBesideFrames s old new
  same-frames = record { size = copied.size; bytes = none-same }

  byte-now : (place : ℕ) → option_map (λ _. slice_index new place) (s.bytes place) ≡ with_copied s.bytes source target count place
  byte-now place =
      ap (λ (byte : ℕ). option_map (λ _. byte) (s.bytes place)) (copied.bytes place)
      ∙ elim (is_within (target + 32) (4 * count) place) as (λ b. is_within (target + 32) (4 * count) place ≡ b
      → option_map (λ _. if b then slice_index old (source + 32 + (place - (target + 32))) else slice_index old place) (s.bytes place)
      ≡ (if b then s.bytes (source + (place - target)) else s.bytes place)) [
        | true ↦ λ within.
            let bounds = within-bounds (target + 32) (4 * count) place within in
            let at : source + 32 + (place - (target + 32)) ≡ source + (place - target) = omega (arith, bounds.0) in
            let there = from (source + (place - target)) (omega arith) (omega (arith, bounds.0, bounds.1, few)) in
            map-some (s.bytes place) (slice_index old (source + 32 + (place - (target + 32)))) (some-there place within)
            ∙ ap (λ (n : ℕ). (let b : Option ℕ = Some (slice_index old n) in b)) at ∙ sym (own (source + (place - target)) there)
        | false ↦ λ without. same-byte (s.bytes place) (slice_index old place) (λ byte is. byte-there o slots old place byte is)
      ] refl

  pub copied-state : state_of o slots new ≡ record s { bytes = with_copied s.bytes source target count }
  copied-state = follows-frames o slots old new stood same-frames ∙ (λ i. record s { bytes = λ place. byte-now place i })

  pub copied-stands : Standing o slots new
  copied-stands = stands-frames o slots old new stood same-frames

  none-still : (place : ℕ) → s.bytes place ≡ None → with_copied s.bytes source target count place ≡ None
  none-still place none = sym (byte-now place) ∙ ap (option_map (λ _. slice_index new place)) none

  pub copied-objects : SameObjects s (state_of o slots new) old new
  copied-objects = subst (λ (t : State). SameObjects s t old new) (sym copied-state) (record {
    kinds = λ offset. refl;
    frames = none-still;
    bytes = record { size = copied.size; bytes = λ place none apart. none-same place none };
  })

-- where a frame is no slot is open
pub outside-slots : (o : Tables) (slots : Slots) (memory : List ℕ) (target count : ℕ) → count ≤ 112 → Standing o slots memory
    → IsFramed (state_of o slots memory) target → OutsideSlots slots (target + 32) (4 * count)
unfolding state_of
outside-slots o slots memory target count few stood to place low high = not-open slots (place / 16) (λ is_open.
    some-not-none _ (to place (omega (arith, low)) (omega (arith, high, few))) (stood.fits.frames place is_open))
