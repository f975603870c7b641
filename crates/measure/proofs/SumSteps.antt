-- One step of each sum, with its size.
use Rattle.std.proofs.Common.{ℕ, ◌≡◌, ◌∙◌, ◌+◌, ◌*◌, ◌^◌, ◌<◌, ◌≤◌, List, length, take, get_or, ℤ, ◌+ℤ◌, ◌*ℤ◌, pos, to_z, of_z, w64, ap, subst, sym, arith}
use Rattle.std.proofs.Math.IntN.{+ℤ_idr}
use Rattle.std.proofs.lemmas.Int.{ints}
use Rattle.std.proofs.lemmas.List.{take_all}
use mir.Syntax.{w128}
use Rattle.model.specs.declared.entries.TermEntry.{TermEntry}
use Rattle.model.specs.Acceptance.Measures.{Form, Measure, Variable, substituted}
use Rattle.measure.specs.Sums.{IsSmall, coefficient_sum, constant_sum}
use Rattle.measure.proofs.LinearSums.{coefficient-is, coefficient-more, constant-is, constant-more, sum_below, sum_more, sums-more, sums_below}
use Rattle.measure.proofs.Small.{stored, stored-first, sum-small}

pub constant-step : (value_of : ℕ → Form) (start : ℤ) (terms : List TermEntry) (i : ℕ) (d : TermEntry) (s p : ℤ) → i < length terms → length terms ≤ 4
    → s ≡ constant_sum value_of start (take i terms) → IsSmall (2 ^ 64 + i * 2 ^ 96) s
    → p ≡ (get_or terms i d).coefficient *ℤ (value_of (get_or terms i d).register).constant → IsSmall (2 ^ 94) p
    → (to_z w128 (of_z w128 (s +ℤ to_z w128 (of_z w128 p))) ≡ constant_sum value_of start (take (i + 1) terms))
    × IsSmall (2 ^ 64 + (i + 1) * 2 ^ 96) (to_z w128 (of_z w128 (s +ℤ to_z w128 (of_z w128 p))))
constant-step value_of start terms i d s p less few is small next size =
    let room : 2 ^ 64 + i * 2 ^ 96 + 2 ^ 94 + 1 ≤ 2 ^ 64 + (i + 1) * 2 ^ 96 = omega arith in
    let kept = stored w128 s p (2 ^ 64 + i * 2 ^ 96) (2 ^ 94) (2 ^ 64 + (i + 1) * 2 ^ 96) small size room (omega (arith, less, few)) in (
      kept ∙ ap (λ (z : ℤ). z +ℤ p) is ∙ ap (λ (z : ℤ). constant_sum value_of start (take i terms) +ℤ z) next
          ∙ sym (constant-more value_of start terms i d less),
      subst (λ (z : ℤ). IsSmall (2 ^ 64 + (i + 1) * 2 ^ 96) z) (sym kept)
          (sum-small s p (2 ^ 64 + i * 2 ^ 96) (2 ^ 94) (2 ^ 64 + (i + 1) * 2 ^ 96) small size room),
    )

pub coefficient-step : (value_of : ℕ → Form) (variable : Variable) (terms : List TermEntry) (i : ℕ) (d : TermEntry) (s p : ℤ) → i < length terms →
    length terms ≤ 4
    → s ≡ coefficient_sum value_of variable (pos 0) (take i terms) → IsSmall (i * 2 ^ 39) s
    → p ≡ (get_or terms i d).coefficient *ℤ (value_of (get_or terms i d).register).coefficient variable → IsSmall (2 ^ 38) p
    → (to_z w64 (of_z w64 (s +ℤ to_z w64 (of_z w64 p))) ≡ coefficient_sum value_of variable (pos 0) (take (i + 1) terms))
    × IsSmall ((i + 1) * 2 ^ 39) (to_z w64 (of_z w64 (s +ℤ to_z w64 (of_z w64 p))))
coefficient-step value_of variable terms i d s p less few is small next size =
    let room : i * 2 ^ 39 + 2 ^ 38 + 1 ≤ (i + 1) * 2 ^ 39 = omega arith in
    let kept = stored w64 s p (i * 2 ^ 39) (2 ^ 38) ((i + 1) * 2 ^ 39) small size room (omega (arith, less, few)) in (
      kept ∙ ap (λ (z : ℤ). z +ℤ p) is ∙ ap (λ (z : ℤ). coefficient_sum value_of variable (pos 0) (take i terms) +ℤ z) next
          ∙ sym (coefficient-more value_of variable (pos 0) terms i d less),
      subst (λ (z : ℤ). IsSmall ((i + 1) * 2 ^ 39) z) (sym kept) (sum-small s p (i * 2 ^ 39) (2 ^ 38) ((i + 1) * 2 ^ 39) small size room),
    )

pub register-step : (term : ℕ → ℤ) (v : ℕ) (s p : ℤ) → v < 32 → s ≡ sum_below term v → IsSmall (v * 2 ^ 98) s → p ≡ term v → IsSmall (2 ^ 96) p
    → (to_z w128 (of_z w128 (s +ℤ to_z w128 (of_z w128 p))) ≡ sum_below term (v + 1))
    × IsSmall ((v + 1) * 2 ^ 98) (to_z w128 (of_z w128 (s +ℤ to_z w128 (of_z w128 p))))
register-step term v s p less is small next size =
    let room : v * 2 ^ 98 + 2 ^ 96 + 1 ≤ (v + 1) * 2 ^ 98 = omega arith in
    let kept = stored w128 s p (v * 2 ^ 98) (2 ^ 96) ((v + 1) * 2 ^ 98) small size room (omega (arith, less)) in (
      kept ∙ ap (λ (z : ℤ). z +ℤ p) is ∙ ap (λ (z : ℤ). sum_below term v +ℤ z) next ∙ sym (sum_more term v),
      subst (λ (z : ℤ). IsSmall ((v + 1) * 2 ^ 98) z) (sym kept) (sum-small s p (v * 2 ^ 98) (2 ^ 96) ((v + 1) * 2 ^ 98) small size room),
    )

-- a register before and after an edge
pub registers-step : (before after : ℕ → ℤ) (v : ℕ) (s p q : ℤ) → v < 32 → s ≡ sums_below before after v → IsSmall (v * 2 ^ 98) s
    → p ≡ before v → IsSmall (2 ^ 96) p → q ≡ after v → IsSmall (2 ^ 96) q
    → (to_z w128 (of_z w128 (to_z w128 (of_z w128 (s +ℤ to_z w128 (of_z w128 p))) +ℤ to_z w128 (of_z w128 q))) ≡ sums_below before after (v + 1))
    × IsSmall ((v + 1) * 2 ^ 98) (to_z w128 (of_z w128 (to_z w128 (of_z w128 (s +ℤ to_z w128 (of_z w128 p))) +ℤ to_z w128 (of_z w128 q))))
registers-step before after v s p q less is small first few second last =
    let room : v * 2 ^ 98 + 2 ^ 96 + 1 ≤ v * 2 ^ 98 + 2 ^ 97 = omega arith in
    let more : v * 2 ^ 98 + 2 ^ 97 + 2 ^ 96 + 1 ≤ (v + 1) * 2 ^ 98 = omega arith in
    let half : IsSmall (v * 2 ^ 98 + 2 ^ 97) (s +ℤ p) = sum-small s p (v * 2 ^ 98) (2 ^ 96) (v * 2 ^ 98 + 2 ^ 97) small few room in
    let kept : to_z w128 (of_z w128 (to_z w128 (of_z w128 (s +ℤ to_z w128 (of_z w128 p))) +ℤ to_z w128 (of_z w128 q))) ≡ (s +ℤ p) +ℤ q =
    ap (λ (z : ℤ). to_z w128 (of_z w128 (z +ℤ to_z w128 (of_z w128 q))))
    (stored w128 s p (v * 2 ^ 98) (2 ^ 96) (v * 2 ^ 98 + 2 ^ 97) small few room (omega (arith, less)))
    ∙ stored w128 (s +ℤ p) q (v * 2 ^ 98 + 2 ^ 97) (2 ^ 96) ((v + 1) * 2 ^ 98) half last more (omega (arith, less)) in (
      kept ∙ ap (λ (z : ℤ). (z +ℤ p) +ℤ q) is ∙ ap (λ (z : ℤ). (sums_below before after v +ℤ z) +ℤ q) first
          ∙ ap (λ (z : ℤ). (sums_below before after v +ℤ before v) +ℤ z) second ∙ sym (sums-more before after v),
      subst (λ (z : ℤ). IsSmall ((v + 1) * 2 ^ 98) z) (sym kept)
          (sum-small (s +ℤ p) q (v * 2 ^ 98 + 2 ^ 97) (2 ^ 96) ((v + 1) * 2 ^ 98) half last more),
    )

-- ---- the end of each sum

pub constant-end : (m : Measure) (value_of : ℕ → Form) (terms : List TermEntry) (i : ℕ) (s : ℤ) → terms ≡ m.terms → length terms ≤ i
    → s ≡ constant_sum value_of m.constant (take i terms) → s ≡ (substituted m value_of).constant
constant-end m value_of terms i s are all is =
    is
    ∙ ap (λ (ts : List TermEntry). constant_sum value_of m.constant ts) (take_all i terms all ∙ are)
    ∙ sym (constant-is m value_of)

pub coefficient-end : (m : Measure) (value_of : ℕ → Form) (variable : Variable) (terms : List TermEntry) (i : ℕ) (s : ℤ) → terms ≡ m.terms → length terms ≤ i
    → s ≡ coefficient_sum value_of variable (pos 0) (take i terms) → s ≡ (substituted m value_of).coefficient variable
coefficient-end m value_of variable terms i s are all is =
    is
    ∙ ap (λ (ts : List TermEntry). coefficient_sum value_of variable (pos 0) ts) (take_all i terms all ∙ are)
    ∙ sym (coefficient-is m value_of variable)

-- of a form, by the sum over the registers below a number
pub registers-end : (sum : ℕ → ℤ) (v : ℕ) (k s constant : ℤ) → v ≡ 32 → k ≡ constant → IsSmall (2 ^ 100) k → s ≡ sum v → IsSmall (v * 2 ^ 98) s
    → to_z w128 (of_z w128 (to_z w128 (of_z w128 k) +ℤ s)) ≡ constant +ℤ sum 32
registers-end sum v k s constant end is small total size =
    stored-first w128 k s (2 ^ 100) (v * 2 ^ 98) (2 ^ 105) small size (omega (arith, end)) (omega arith)
    ∙ ap (λ (z : ℤ). z +ℤ s) is
    ∙ ap (λ (z : ℤ). constant +ℤ z) (total ∙ ap sum end)

-- of a form that counts no variable
pub registers-none : (sum k constant : ℤ) → k ≡ constant → sum ≡ pos 0 → k ≡ constant +ℤ sum
registers-none sum k constant is none = is ∙ sym (+ℤ_idr constant) ∙ ap (λ (z : ℤ). constant +ℤ z) (sym none)

pub nothing-times : (n : ℕ) → pos 0 *ℤ pos n ≡ pos 0
nothing-times n = omega (arith, ints)
