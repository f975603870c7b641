-- A test is passed exactly where its condition is met.
use Rattle.std.proofs.Common.{◌≡◌, ◌↔◌, ◌&&◌, inl, inr, true, refl}
use Rattle.std.proofs.lemmas.Bool.{and_from, and_parts, eq-eqb, eqb-true, leb-true, le-leb, lt-ltb, ltb-true, or_cases, or_left, or_right}
use Rattle.model.specs.Capabilities.Conditions.{Condition, Always, Below, AtMost, Equal, Both, AllThree, AllFour, Either, IsMet, is_met}

pub met-tested : (c : Condition) → is_met c ≡ true → IsMet c
met-tested Always passed = tt
met-tested (Below n limit) passed = ltb-true n limit passed
met-tested (AtMost n limit) passed = leb-true n limit passed
met-tested (Equal n m) passed = eqb-true n m passed
met-tested (Both x y) passed = let two = and_parts (is_met x) (is_met y) passed in (met-tested x two.0, met-tested y two.1)
met-tested (AllThree x y z) passed =
    let last = and_parts (is_met x && is_met y) (is_met z) passed in
    let two = and_parts (is_met x) (is_met y) last.0 in
    (met-tested x two.0, met-tested y two.1, met-tested z last.1)
met-tested (AllFour w x y z) passed =
    let last = and_parts (is_met w && is_met x && is_met y) (is_met z) passed in
    let third = and_parts (is_met w && is_met x) (is_met y) last.0 in
    let two = and_parts (is_met w) (is_met x) third.0 in
    (met-tested w two.0, met-tested x two.1, met-tested y third.1, met-tested z last.1)
met-tested (Either x y) passed = elim (or_cases (is_met x) (is_met y) passed) [
  | inl first ↦ inl (met-tested x first)
  | inr second ↦ inr (met-tested y second)
]

pub tested-met : (c : Condition) → IsMet c → is_met c ≡ true
tested-met Always met = refl
tested-met (Below n limit) met = lt-ltb n limit met
tested-met (AtMost n limit) met = le-leb n limit met
tested-met (Equal n m) met = eq-eqb n m met
tested-met (Both x y) met = and_from (is_met x) (is_met y) (tested-met x met.0) (tested-met y met.1)
tested-met (AllThree x y z) met =
    and_from (is_met x && is_met y) (is_met z) (and_from (is_met x) (is_met y) (tested-met x met.0) (tested-met y met.1)) (tested-met z met.2)
tested-met (AllFour w x y z) met =
    and_from (is_met w && is_met x && is_met y) (is_met z)
    (and_from (is_met w && is_met x) (is_met y) (and_from (is_met w) (is_met x) (tested-met w met.0) (tested-met x met.1)) (tested-met y met.2))
    (tested-met z met.3)
tested-met (Either x y) (inl first) = or_left (is_met x) (is_met y) (tested-met x first)
tested-met (Either x y) (inr second) = or_right (is_met x) (is_met y) (tested-met y second)

pub condition-decides : (c : Condition) → (is_met c ≡ true) ↔ IsMet c
condition-decides c = (met-tested c, tested-met c)
