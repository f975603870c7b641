-- Marks of a line over one edge, and words of which a badge is part.
use Rattle.std.proofs.Common.{ℕ, zero, suc, ◌≡◌, ◌≢◌, ◌∙◌, ◌≤◌, ◌||◌, inl, inr, not, Bool, true, false, if◌then◌else◌, refl, sym, ap, subst}
use Rattle.std.proofs.Common.{arith}
use Rattle.std.specs.Prelude.{bit_or}
use Rattle.std.proofs.lemmas.Bool.{and_parts}
use Rattle.std.proofs.lemmas.Bool.Decides.{eqb_tells}
use Rattle.std.proofs.lemmas.Nat.{le_or_l, le_or_r}
use Rattle.response.specs.Asking.{Asked, Takes, Polls, Rings, Acknowledges, Accepts, Looks, SendsTo, Calls, Tries, Answers, Asks_nothing}
use Rattle.response.specs.Resting.{marks_for}

-- ---- marks

unmarked : (b : Bool) → not b ≡ true → b ≡ false
unmarked true is = absurd (let clash : false ≡ true = is in cc)
unmarked false is = refl

-- a take is marked, and the point after it is not
pub at-take : (number : ℕ) (here next : Bool) (asked : Asked) (o : ℕ) → asked ≡ Takes o → marks_for number here next asked ≡ true
    → (here ≡ true) × (next ≡ false)
at-take number here next asked o is marked =
    let parts = and_parts here (not next) (sym (ap (marks_for number here next) is) ∙ marked) in (parts.0, unmarked next parts.1)

-- from a point that is not marked: an acknowledgement, or a point that is not
pub data FromUnmarked (number : ℕ) (next : Bool) (asked : Asked) : Type 0 where
  acknowledges : asked ≡ Acknowledges number → FromUnmarked number next asked
  goes_on : next ≡ false → FromUnmarked number next asked

pub from-unmarked : (number : ℕ) (next : Bool) (asked : Asked) → marks_for number false next asked ≡ true → FromUnmarked number next asked
from-unmarked number next (Takes o) marked = absurd (let clash : false ≡ true = marked in cc)
from-unmarked number next (Acknowledges irq_line) marked = elim (eqb_tells irq_line number) [
  | inl same ↦ acknowledges (ap Acknowledges same.1)
  | inr apart ↦ goes_on (unmarked next (subst (λ (b : Bool). (if b then true else not next) ≡ true) apart.0 marked))
]
from-unmarked number next (Polls o) marked = goes_on (unmarked next marked)
from-unmarked number next (Rings o) marked = goes_on (unmarked next marked)
from-unmarked number next (Accepts o replies) marked = goes_on (unmarked next marked)
from-unmarked number next (Looks o) marked = goes_on (unmarked next marked)
from-unmarked number next (SendsTo o) marked = goes_on (unmarked next marked)
from-unmarked number next (Calls o) marked = goes_on (unmarked next marked)
from-unmarked number next (Tries o) marked = goes_on (unmarked next marked)
from-unmarked number next Answers marked = goes_on (unmarked next marked)
from-unmarked number next Asks_nothing marked = goes_on (unmarked next marked)

-- so along an edge that asks nothing
pub stays-unmarked : (number : ℕ) (here next : Bool) (asked : Asked) → asked ≡ Asks_nothing → here ≡ false → marks_for number here next asked ≡ true
    → next ≡ false
stays-unmarked number here next asked is free marked =
    unmarked next (sym (ap (λ (b : Bool). b || not next) free) ∙ sym (ap (marks_for number here next) is) ∙ marked)

-- ---- words

some-positive : (n : ℕ) → n ≢ 0 → 1 ≤ n
some-positive zero some = absurd (some refl)
some-positive (suc n) some = omega arith

pub badge-some : (word badge : ℕ) → badge ≢ 0 → 1 ≤ bit_or word badge
badge-some word badge some = let one = some-positive badge some in let less = le_or_r word badge in omega (arith, one, less)

pub word-some : (word badge : ℕ) → 1 ≤ word → 1 ≤ bit_or word badge
word-some word badge some = let less = le_or_l word badge in omega (arith, some, less)
