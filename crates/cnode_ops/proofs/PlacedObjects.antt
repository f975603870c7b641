-- What is placed is in the unused part of untyped memory.
use Rattle.std.proofs.Common.{ℕ, ◌≡◌, ◌∙◌, ◌+◌, ◌-◌, ◌*◌, ◌/◌, ◌%◌, ◌^◌, ◌<◌, ◌≤◌, inl, inr, true, false, nat_le, if◌then◌else◌, Option, Some, None, Result, Ok}
use Rattle.std.proofs.Common.{Err, pow_pos, refl, sym, ap, arith}
use Rattle.std.proofs.Math.Nat.{add-mul-mod_self_right, mul-le-mul_right}
use Rattle.std.proofs.Math.Pow.{mod-mod-pow, pow_mono}
use Rattle.std.proofs.lemmas.Bool.{cases_lt, leb-true}
use Rattle.std.proofs.lemmas.Nat.{pow-add}
use Rattle.cnode_ops.specs.Placed.{IsPlaced}
use Rattle.untyped.specs.NewTypes.{asked_type}
use Rattle.cnode_ops.specs.RetypeChecks.{behind_offset, places}
use Rattle.cnode_ops.specs.declared.beginnings.Placing.{Placing}
use Rattle.model.specs.Capabilities.CapabilityWords.{IsCapability}
use Rattle.model.specs.Capabilities.Placement.{align, place_of_object, placement}
use Rattle.model.specs.Capabilities.Slots.{Slots, capability_at}
use Rattle.model.specs.Kernel.Arguments.{◌>>=◌, check, wanted}
use Rattle.model.specs.Kernel.Retype.{NewObject, is_large_enough, is_small_enough, object_bits, type_of}
use Rattle.model.specs.Kernel.State.{State}
use Rattle.model.specs.declared.capabilities.Cap.TheVariants.{Untyped}
use Rattle.model.specs.declared.errors.KError.{KError}
use Rattle.model.specs.declared.errors.KError.TheVariants.{InvalidArgument, NotEnoughMemory, RangeError}
use Rattle.model.specs.declared.invocations.UntypedMemory.{UntypedMemory}

-- ---- numbers

align-behind : (place size : ℕ) → 0 < size → place ≤ align place size
align-behind place size positive = grind arith

-- an object is no larger than the memory that it fits into
bits-less : (a b : ℕ) → 2 ^ a ≤ 2 ^ b → a ≤ b
bits-less a b less = elim (cases_lt b a) [
  | inl larger ↦
      let wide : 2 ^ (b + 1) ≤ 2 ^ a = pow_mono (omega (arith, larger)) in
      let twice : 2 ^ (b + 1) ≡ 2 ^ b * 2 ^ 1 = pow-add 2 b 1 in
      let positive = pow_pos b in
      absurd (omega (arith, wide, twice, positive, less))
  | inr fits ↦ fits
]

-- a multiple of a power is one of each smaller power
multiple : (offset bits smaller : ℕ) → smaller ≤ bits → offset % 2 ^ bits ≡ 0 → offset % 2 ^ smaller ≡ 0
multiple offset bits smaller less is =
    let all : bits - smaller + smaller ≡ bits = omega (arith, less) in
    let positive = pow_pos smaller in
    sym (mod-mod-pow offset (bits - smaller) smaller) ∙ ap (λ (n : ℕ). offset % 2 ^ n % 2 ^ smaller) all ∙ ap (λ (n : ℕ). n % 2 ^ smaller) is
    ∙ omega (arith, positive)

one-fits : (size count limit : ℕ) → 1 ≤ count → count * size ≤ limit → size ≤ limit
one-fits size count limit some less = let one : 1 * size ≤ count * size = mul-le-mul_right size some in omega (arith, one, less)

-- ---- placement

record Fits (bits used power count place mark : ℕ) : Type 0 where
  start : align used (2 ^ power) ≡ place
  end : place_of_object used power count ≡ mark
  below : mark ≤ 2 ^ bits

abbrev Places : Type 0
Places = Result (ℕ × ℕ) KError

fitting : (bits used power count offset first mark : ℕ) → ◌≡◌ {A = Places} (Ok (first, mark)) (behind_offset offset (placement bits used power count))
    → (place : ℕ) × (offset + place ≡ first) × Fits bits used power count place mark
fitting bits used power count offset first mark is =
    let end : ℕ = place_of_object used power count in
    let start : ℕ = align used (2 ^ power) in
    elim (nat_le end (2 ^ bits)) as (λ b. nat_le end (2 ^ bits) ≡ b
    → ◌≡◌ {A = Places} (Ok (first, mark)) (behind_offset offset (if b then Some (start, end) else None))
    → (place : ℕ) × (offset + place ≡ first) × Fits bits used power count place mark) [
      | true ↦ λ test so.
          let same : ◌≡◌ {A = ℕ × ℕ} (first, mark) (offset + start, end) = cc so in
          let marked : mark ≡ end = ap (λ (p : ℕ × ℕ). p.1) same in
          let less : end ≤ 2 ^ bits = leb-true end (2 ^ bits) test in
          (start, sym (ap (λ (p : ℕ × ℕ). p.0) same), record { start = refl; end = sym marked; below = omega (arith, marked, less) })
      | false ↦ λ _ so. absurd (let clash : ◌≡◌ {A = Places} (Ok (first, mark)) (Err NotEnoughMemory) = so in cc)
    ] refl is

pub placed : (s : State) (slots : Slots) (memory : UntypedMemory) (kind : NewObject) (count first mark : ℕ) (at : Placing) → s.slots ≡ slots
    → capability_at slots at.parent ≡ Untyped memory.offset memory.bits memory.watermark
    → IsCapability (Untyped memory.offset memory.bits memory.watermark)
    → is_large_enough kind ≡ true → is_small_enough kind ≡ true → 1 ≤ count → count ≤ 256
    → at.watermark ≡ mark → ◌≡◌ {A = Places} (Ok (first, mark)) (places memory kind count)
    → IsPlaced s (record { kind = kind; first = first; count = count }) at
placed s slots memory kind count first mark at has held valid large small some few marked is =
    let bits : ℕ = object_bits kind in
    let size : ℕ = 2 ^ bits in
    let found = fitting memory.bits memory.watermark bits count memory.offset first mark is in
    let place : ℕ = found.0 in
    let sum : memory.offset + place ≡ first = found.1 in
    let start : (memory.watermark + (size - 1)) / size * size ≡ place = found.2.start in
    let end : (memory.watermark + (size - 1)) / size * size + count * size ≡ mark = found.2.end in
    let below : mark ≤ 2 ^ memory.bits = found.2.below in
    let above : memory.watermark ≤ (memory.watermark + (size - 1)) / size * size = align-behind memory.watermark size (pow_pos bits) in
    let smaller : bits ≤ memory.bits = bits-less bits memory.bits (one-fits size count (2 ^ memory.bits) some (omega (arith, end, below))) in
    record {
      offset = memory.offset;
      bits = memory.bits;
      used = memory.watermark;
      memory = ap (λ (t : Slots). capability_at t at.parent) has ∙ held;
      behind = omega (arith, sum, start, above);
      aligned = ap (λ (n : ℕ). n % size) (sym sum ∙ ap (λ (n : ℕ). memory.offset + n) (sym start))
          ∙ add-mul-mod_self_right memory.offset ((memory.watermark + (size - 1)) / size) size
          ∙ multiple memory.offset memory.bits bits smaller valid.0.0;
      within = omega (arith, sum, start, end, marked);
      fits = omega (arith, marked, below);
      least = some;
      most = few;
      large = large;
      small = small;
    }

-- ---- sizes

abbrev Kind : Type 0
Kind = Result NewObject KError

abbrev pub IsSized : NewObject → Type 0
IsSized new = (is_large_enough new ≡ true) × (is_small_enough new ≡ true)

-- a type, if its size is allowed
abbrev allowed : NewObject → Kind
allowed found = check (is_large_enough found) InvalidArgument >>= λ _. check (is_small_enough found) RangeError >>= λ _. Ok found

sized-first : (found new : NewObject) → ◌≡◌ {A = Kind} (Ok new) (allowed found) → IsSized new
sized-first found new is =
    elim (is_large_enough found) as (λ a. is_large_enough found ≡ a
    → ◌≡◌ {A = Kind} (Ok new) (check a InvalidArgument >>= λ _. check (is_small_enough found) RangeError >>= λ _. Ok found) → IsSized new) [
      | false ↦ λ _ so. absurd (let clash : ◌≡◌ {A = Kind} (Ok new) (Err InvalidArgument) = so in cc)
      | true ↦ λ large.
          elim (is_small_enough found) as (λ b. is_small_enough found ≡ b → ◌≡◌ {A = Kind} (Ok new) (check b RangeError >>= λ _. Ok found) → IsSized new) [
            | false ↦ λ _ so. absurd (let clash : ◌≡◌ {A = Kind} (Ok new) (Err RangeError) = so in cc)
            | true ↦ λ small so. let same : new ≡ found = cc so in (ap is_large_enough same ∙ large, ap is_small_enough same ∙ small)
          ] refl
    ] refl is

sized-of : (o : Option NewObject) (new : NewObject) → ◌≡◌ {A = Kind} (Ok new) (wanted o InvalidArgument >>= allowed) → IsSized new
sized-of None new is = absurd (let clash : ◌≡◌ {A = Kind} (Ok new) (Err InvalidArgument) = is in cc)
sized-of (Some found) new is = sized-first found new is

pub asked-sized : (kind size : ℕ) (new : NewObject) → Ok new ≡ asked_type kind size → IsSized new
asked-sized kind size new is = sized-of (type_of kind size) new is
