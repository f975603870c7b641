-- One byte more of a piece that is written into memory.
use Rattle.std.proofs.Common.{ℕ, ◌≡◌, ◌∙◌, ◌+◌, ◌-◌, ◌<◌, inl, inr, true, if◌then◌else◌, List, [], ◌∷◌, length, sym, ap, arith}
use Rattle.std.specs.Prelude.{slice_index}
use Rattle.std.proofs.lemmas.Bool.{cases_lt}
use Rattle.std.proofs.lemmas.Bool.Decides.{eqb_tells, nat_tests}
use Rattle.model.proofs.BytesLemmas.{length-written, slice_index-written_before, slice_index-written_behind, slice_index-written_inside}
use Rattle.model.specs.Capabilities.Slots.{is_within}
use Rattle.model.specs.Shared.Bytes.{written}
use Rattle.user_memory.specs.Fills.{AreWritten}

within-last : (offset i : ℕ) → is_within offset (i + 1) (offset + i) ≡ true
within-last offset i = grind (arith, nat_tests)

within-before : (offset i place : ℕ) → place < offset + i → is_within offset i place ≡ is_within offset (i + 1) place
within-before offset i place before = elim (cases_lt place offset) [ inl under ↦ grind (arith, nat_tests) | inr above ↦ grind (arith, nat_tests) ]

within-behind : (offset i place : ℕ) → offset + i < place → is_within offset i place ≡ is_within offset (i + 1) place
within-behind offset i place behind = grind (arith, nat_tests)

pub byte-more : (old now new : List ℕ) (offset i byte : ℕ) (piece : List ℕ) → offset + i < length now → new ≡ written now (offset + i) (byte ∷ []) →
    slice_index piece i ≡ byte
    → AreWritten old now offset i piece → AreWritten old new offset (i + 1) piece
byte-more old now new offset i byte piece inside puts here known = record {
  size = ap (λ (m : List ℕ). length m) puts ∙ length-written now (offset + i) (byte ∷ []) (omega (arith, inside)) ∙ known.size;
  bytes = λ place. ap (λ (m : List ℕ). slice_index m place) puts ∙ elim (cases_lt place (offset + i)) [
    | inl before ↦
        slice_index-written_before now (offset + i) (byte ∷ []) place (omega (arith, inside)) before ∙ known.bytes place
        ∙ ap (λ b. if b then slice_index piece (place - offset) else slice_index old place) (within-before offset i place before)
    | inr from ↦ elim (eqb_tells place (offset + i)) [
      | inl same ↦
          let at : place - offset ≡ i = omega (arith, same.1) in
          let first : place ≡ offset + i + 0 = omega (arith, same.1) in
          ap (slice_index (written now (offset + i) (byte ∷ []))) first
          ∙ slice_index-written_inside now (offset + i) (byte ∷ []) 0 (omega (arith, inside)) (omega arith)
          ∙ sym (ap (λ b. if b then slice_index piece (place - offset) else slice_index old place) (ap (is_within offset (i + 1)) same.1 ∙ within-last offset i)
          ∙ ap (slice_index piece) at ∙ here)
      | inr apart ↦
          let behind : offset + i < place = omega (arith, from, apart.1) in
          slice_index-written_behind now (offset + i) (byte ∷ []) place (omega (arith, inside)) (omega (arith, behind)) ∙ known.bytes place
          ∙ ap (λ b. if b then slice_index piece (place - offset) else slice_index old place) (within-behind offset i place behind)
    ]
  ];
}
