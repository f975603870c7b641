-- Conditions on numbers, as data: each is said once, and read as a proposition (`IsMet`) and as a test (`is_met`), which agree.
use Rattle.std.specs.Prelude.{ℕ, ◌≡◌, ◌==◌, ◌<◌, ◌≤◌, ◌⊎◌, ⊤, Bool, true, ◌&&◌, ◌||◌, nat_le, nat_lt}

pub data Condition : Type 0 where
  Always : Condition
  Below : ℕ → ℕ → Condition
  AtMost : ℕ → ℕ → Condition
  Equal : ℕ → ℕ → Condition
  Both : Condition → Condition → Condition
  AllThree : Condition → Condition → Condition → Condition
  AllFour : Condition → Condition → Condition → Condition → Condition
  Either : Condition → Condition → Condition

abbrev pub IsMet : Condition → Type 0
IsMet Always = ⊤
IsMet (Below n limit) = n < limit
IsMet (AtMost n limit) = n ≤ limit
IsMet (Equal n m) = n ≡ m
IsMet (Both x y) = IsMet x × IsMet y
IsMet (AllThree x y z) = IsMet x × IsMet y × IsMet z
IsMet (AllFour w x y z) = IsMet w × IsMet x × IsMet y × IsMet z
IsMet (Either x y) = IsMet x ⊎ IsMet y

abbrev pub is_met : Condition → Bool
is_met Always = true
is_met (Below n limit) = nat_lt n limit
is_met (AtMost n limit) = nat_le n limit
is_met (Equal n m) = n == m
is_met (Both x y) = is_met x && is_met y
is_met (AllThree x y z) = is_met x && is_met y && is_met z
is_met (AllFour w x y z) = is_met w && is_met x && is_met y && is_met z
is_met (Either x y) = is_met x || is_met y
