-- What tests of a depth say.
use Rattle.std.proofs.Common.{ℕ, ◌≡◌, ◌+◌, ◌<◌, ◌≤◌, nat_le, nat_lt, true, false, if◌then◌else◌, Option, Some, None, refl, ap, arith}
use Rattle.std.proofs.lemmas.Bool.Decides.{nat_tests}
use Rattle.slots.specs.preorder.Chains.{if_deeper}
use Rattle.packed_slots.specs.Sharing.{is_as_deep}
use Rattle.packed_slots.specs.Words.{Words}

least : (a b : ℕ) → nat_le a b ≡ true → a ≤ b
least a b is = grind (arith, nat_tests)

most : (a b : ℕ) → nat_le a b ≡ false → b < a
most a b is = grind (arith, nat_tests)

not-below : (a b : ℕ) → b ≤ a → nat_lt a b ≡ false
not-below a b is = grind (arith, nat_tests)

pub as-deep : (w : Words) (own s : ℕ) → is_as_deep w own (Some s) ≡ true → own ≤ w.depth s
as-deep w own s is = least own (w.depth s) is

pub less-deep : (w : Words) (own s : ℕ) → is_as_deep w own (Some s) ≡ false → w.depth s < own
less-deep w own s is = most own (w.depth s) is

pub some-deep : (w : Words) (own : ℕ) (found : Option ℕ) → is_as_deep w own found ≡ true → (s : ℕ) × (found ≡ Some s) × (own ≤ w.depth s)
some-deep w own None is = absurd (let clash : false ≡ true = is in cc)
some-deep w own (Some s) is = (s, refl, as-deep w own s is)

-- what is less deep than a slot is no deeper than what is one less deep than it
pub no-deeper : (w : Words) (own above : ℕ) (found : Option ℕ) → own ≤ above + 1 → is_as_deep w own found ≡ false → if_deeper w.depth above found ≡ None
no-deeper w own above None next is = refl
no-deeper w own above (Some s) next is =
    let less = less-deep w own s is in
    ap (λ b. if b then Some s else None) (not-below above (w.depth s) (omega (arith, less, next)))
