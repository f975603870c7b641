-- Sets of lines: one line more, and a set that is asked for line by line.
use Rattle.std.proofs.Common.{ℕ, ◌≡◌, ◌≢◌, ◌∙◌, ◌==◌, ◌+◌, ◌%◌, ◌<◌, ◌≤◌, ◌&&◌, ◌||◌, inl, inr, Bool, true, false, refl, sym, ap, arith}
use Rattle.std.specs.Int.{bit_at}
use Rattle.std.proofs.Math.Bool.{and-false, or-false, or-true}
use Rattle.std.proofs.lemmas.Bool.Decides.{eqb_tells}
use Rattle.std.proofs.lemmas.Nat.Bits.{bit_at-zero}
use Rattle.cnode_ops.specs.Lines.{has_line}
use Rattle.cnode_ops.specs.declared.lines.LineSet.{LineSet}

pub no-line : (lines : LineSet) → lines.bits ≡ 0 → (line : ℕ) → has_line lines line ≡ false
no-line lines zero_is line = ap (λ word. bit_at word (line % 64) == 1) zero_is ∙ ap (λ bit. bit == 1) (bit_at-zero (line % 64))

-- a word with one bit more
pub line-with : (old new : LineSet) (line : ℕ) → bit_at new.bits (line % 64) ≡ 1 → ((i : ℕ) → i < 64 → i ≢ line % 64 → bit_at new.bits i ≡ bit_at old.bits i) →
    line < 64
    → (other : ℕ) → other < 64 → has_line new other ≡ (has_line old other || line == other)
line-with old new line own others near other few = elim (eqb_tells line other) [
  | inl here ↦
      ap (λ (n : ℕ). bit_at new.bits (n % 64) == 1) (sym here.1)
      ∙ ap (λ bit. bit == 1) own
      ∙ sym (ap (λ b. has_line old other || b) here.0 ∙ or-true (has_line old other))
  | inr apart ↦
      ap (λ bit. bit == 1) (others (other % 64) (omega arith) (λ same. apart.1 (omega (arith, same, near, few))))
      ∙ sym (ap (λ b. has_line old other || b) apart.0 ∙ or-false (has_line old other))
]

module _ (old new : LineSet) (at : ℕ) (is_wanted : Bool) (next : (other : ℕ) → other < 64 →
    has_line new other ≡ (has_line old other || is_wanted && at == other))
    (rest : (line : ℕ) → at ≤ line → line < 64 → has_line old line ≡ false) where
  -- another line is one of them if it was
  other-line : (line : ℕ) → line < 64 → at ≢ line → has_line new line ≡ has_line old line
  other-line line few apart = elim (eqb_tells at line) [
    | inl here ↦ absurd (apart here.1)
    | inr away ↦
        next line few ∙ ap (λ b. has_line old line || is_wanted && b) away.0
        ∙ ap (λ b. has_line old line || b) (and-false is_wanted) ∙ or-false (has_line old line)
  ]

  pub line-here : at < 64 → has_line new at ≡ is_wanted
  line-here few = elim (eqb_tells at at) [
    | inl here ↦
        next at few ∙ ap (λ b. b || is_wanted && at == at) (rest at (omega arith) few)
        ∙ ap (λ b. is_wanted && b) here.0 ∙ and-true is_wanted
    | inr away ↦ absurd (away.1 refl)
  ]
    where
      and-true : (b : Bool) → (b && true) ≡ b
      and-true true = refl
      and-true false = refl

pub line-before : (old new : LineSet) (at : ℕ) (is_wanted : Bool) (lost : ℕ → Bool) → at < 64 →
    ((other : ℕ) → other < 64 → has_line new other ≡ (has_line old other || is_wanted && at == other))
    → is_wanted ≡ lost at → ((line : ℕ) → line < at → has_line old line ≡ lost line) → ((line : ℕ) → at ≤ line → line < 64 → has_line old line ≡ false)
    → (line : ℕ) → line < at + 1 → has_line new line ≡ lost line
line-before old new at is_wanted lost near next is told rest line before = elim (eqb_tells at line) [
  | inl here ↦ ap (λ (n : ℕ). has_line new n) (sym here.1) ∙ line-here old new at is_wanted next rest near ∙ is ∙ ap lost here.1
  | inr away ↦
      other-line old new at is_wanted next rest line (omega (arith, before, near)) away.1
      ∙ told line (let less : line < at = elim (eqb_tells line at) [ inl same ↦ absurd (away.1 (sym same.1)) | inr apart ↦ omega (arith, before, apart.1) ] in
      less)
]

pub line-after : (old new : LineSet) (at : ℕ) (is_wanted : Bool) →
    ((other : ℕ) → other < 64 → has_line new other ≡ (has_line old other || is_wanted && at == other))
    → ((line : ℕ) → at ≤ line → line < 64 → has_line old line ≡ false) → (line : ℕ) → at + 1 ≤ line → line < 64 → has_line new line ≡ false
line-after old new at is_wanted next rest line behind few =
    other-line old new at is_wanted next rest line few (λ same. absurd (omega (arith, same, behind))) ∙ rest line (omega (arith, behind)) few
