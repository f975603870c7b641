-- There is nothing after the watermark of untyped memory.
use Rattle.std.proofs.Common.{ℕ, ◌≡◌, ◌≢◌, ◌∙◌, ◌+◌, ◌*◌, ◌-◌, ◌/◌, ◌%◌, ◌^◌, ◌<◌, ◌≤◌, ◌⊎◌, inl, inr, IsSome, Option, Some, None, refl, sym, ap, subst, arith}
use Rattle.std.proofs.lemmas.Nat.{mod-pow-add, pow-add}
use Rattle.model.specs.Capabilities.CapabilityWords.{IsCapability}
use Rattle.model.specs.Capabilities.Slots.{Descendant, capability_at}
use Rattle.model.specs.Kernel.Kinds.{IsInside, Piece, frame_around, kind_at, object_named, piece_of, piece_of_object, used_of}
use Rattle.model.specs.Kernel.Retype.{NewObject, NewFrame, object_bits}
use Rattle.model.specs.Kernel.Soundness.{HasSlot, IsSound, Lies, apart, around, of_boot_area, of_object, same, within}
use Rattle.model.specs.Kernel.State.{State, boot_area_end}
use Rattle.model.specs.declared.capabilities.Cap.TheVariants.{Untyped}
use Rattle.model.specs.declared.slot_entries.Entry.{Entry}
use Rattle.soundness.proofs.Pieces.{named-piece, named-unused, slots-fit}
use Rattle.soundness.proofs.Places.{slot-stands}
use Rattle.soundness.specs.Unused.{IsUnused}

-- what lies against untyped memory is before the unused part or after it, or it is untyped memory that this was made of
abbrev pub Against : State → ℕ → ℕ → ℕ → ℕ → ℕ → Piece → Type 0
Against s slot offset bits watermark y p = ((p.first + p.size ≤ offset + watermark) ⊎ (offset + 2 ^ bits ≤ p.first))
    ⊎ ((used : Piece) × (used_of (capability_at s.slots y) ≡ Some used) × IsInside (record { first = offset; size = 2 ^ bits }) used
    × Descendant s.slots y slot)

module _ (s : State) (sound : IsSound s) (slot offset bits watermark : ℕ) (memory : capability_at s.slots slot ≡ Untyped offset bits watermark) where
  abbrev whole_piece : Piece
  whole_piece = record { first = offset; size = 2 ^ bits }

  pub unused-inside : (boot_area_end s.boot_radix ≤ offset) × (offset + 2 ^ bits ≤ 2 ^ s.memory_bits)
  unused-inside = sound.memory.inside slot whole_piece (ap piece_of memory)

  against-by : (y : ℕ) (p : Piece) → Lies s.slots y slot p whole_piece → Against s slot offset bits watermark y p
  against-by y p (apart is) = elim is [ inl before ↦ inl (inl (omega (arith, before))) | inr behind ↦ inl (inr behind) ]
  against-by y p (same k o one other) = let e : ◌≡◌ {A = Option (NewObject × ℕ)} None (Some (k, o)) = sym (ap object_named memory) ∙ other in absurd cc
  against-by y p (within used is inside below) =
      let e : Some (record { first = offset; size = watermark }) ≡ Some used = sym (ap used_of memory) ∙ is in
      let same_part : record { first = offset; size = watermark } ≡ used = cc e in
      let high : p.first + p.size ≤ offset + watermark = subst (λ (u : Piece). p.first + p.size ≤ u.first + u.size) (sym same_part) inside.1 in
      inl (inl high)
  against-by y p (around used is inside below) = inr (used, is, inside, below)

  pub lies-against : (y : ℕ) (p : Piece) → y ≢ slot → piece_of (capability_at s.slots y) ≡ Some p → Against s slot offset bits watermark y p
  lies-against y p other is = against-by y p (sound.memory.lies y slot p whole_piece other is (ap piece_of memory))

  -- an object lies elsewhere
  pub object-elsewhere : (o : ℕ) (k : NewObject) → kind_at s o ≡ Some k → (o + 2 ^ object_bits k ≤ offset + watermark) ⊎ (offset + 2 ^ bits ≤ o)
  object-elsewhere o k is =
      let name = sound.memory.live o k is in
      let other : name.0 ≢ slot = λ e.
      (let clash : ◌≡◌ {A = Option (NewObject × ℕ)} None (Some (k, o)) = sym (ap object_named memory)
      ∙ ap (λ (y : ℕ). object_named (capability_at s.slots y)) (sym e) ∙ name.1 in cc) in
      elim (lies-against name.0 (piece_of_object (k, o)) other (named-piece (capability_at s.slots name.0) (k, o) name.1)) [
        | inl far ↦ far
        | inr near ↦ let clash : None ≡ Some near.0 = sym (named-unused (capability_at s.slots name.0) (k, o) name.1) ∙ near.1 in absurd cc
      ]

  -- it ends at a multiple of sixteen bytes
  valid : IsCapability (Untyped offset bits watermark)
  valid = subst IsCapability memory (sound.slots.derivation.valid slot)

  sixteenths : (offset + 2 ^ bits) % 16 ≡ 0
  sixteenths =
      let wide : bits ≡ bits - 4 + 4 = omega (arith, valid.1) in
      let split : 2 ^ bits ≡ 2 ^ (bits - 4) * 16 = ap (λ (n : ℕ). 2 ^ n) wide ∙ pow-add 2 (bits - 4) 4 in
      let aligned : offset % 2 ^ (bits - 4 + 4) ≡ 0 = ap (λ (n : ℕ). offset % 2 ^ n) (sym wide) ∙ valid.0.0 in
      let parts = mod-pow-add offset (bits - 4) 4 in
      let start : offset % 16 ≡ 0 = omega (arith, parts, aligned) in
      omega (arith, split, start)

  no-slot-there : (place : ℕ) → offset + watermark ≤ place → place < offset + 2 ^ bits → HasSlot s (place / 16) → ⊥
  no-slot-there place from to (of_boot_area below) = let start = unused-inside.0 in omega (arith, below, start, from)
  no-slot-there place from to (of_object o is) =
      let stands = slot-stands s o (place / 16) is in
      let its = slots-fit stands.kind in
      let low = stands.low in
      let high = stands.high in
      elim (object-elsewhere o stands.kind stands.is) [
        | inl before ↦ omega (arith, before, from, its, high, low)
        | inr behind ↦ omega (arith, behind, to, low, sixteenths)
      ]

  no-slot-open : (place : ℕ) → offset + watermark ≤ place → place < offset + 2 ^ bits → s.slots (place / 16) ≡ None
  no-slot-open place from to = elim (s.slots (place / 16)) as (λ (o : Option Entry). s.slots (place / 16) ≡ o → o ≡ None) [
    | None ↦ λ is. refl
    | Some held ↦ λ is. absurd (no-slot-there place from to ((sound.slots.there (place / 16)).0 (subst (λ (o : Option Entry). IsSome o) (sym is) refl)))
  ] refl

  no-byte : (place : ℕ) → offset + watermark ≤ place → place < offset + 2 ^ bits → s.bytes place ≡ None
  no-byte place from to = elim (s.bytes place) as (λ (o : Option ℕ). s.bytes place ≡ o → o ≡ None) [
    | None ↦ λ is. refl
    | Some byte ↦ λ is.
        let frame = (sound.memory.bytes place).0 (subst (λ (o : Option ℕ). IsSome o) (sym is) refl) in
        absurd (elim (object-elsewhere (frame_around place) NewFrame frame) [
          | inl before ↦ omega (arith, before, from)
          | inr behind ↦ omega (arith, behind, to)
        ])
  ] refl

  pub unused-free : IsUnused s offset bits watermark
  unused-free = record {
    free = record { objects = object-elsewhere; slots = no-slot-open; bytes = no-byte };
    behind = unused-inside.0;
    inside = unused-inside.1;
  }
