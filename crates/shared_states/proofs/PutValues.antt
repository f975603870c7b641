-- Values that are put.
use Rattle.std.proofs.Common.{ℕ, ◌≡◌, ◌∙◌, ◌==◌, ◌+◌, ◌*◌, ◌^◌, ◌<◌, ◌≤◌, ◌&&◌, Bool, true, false, not, cond, List, [], ◌∷◌, Option, None, Some, length, ap}
use Rattle.std.proofs.Common.{arith, refl, if◌then◌else◌}
use Rattle.std.specs.List.{filter}
use Rattle.std.specs.Option.{option_map_or}
use Rattle.std.specs.Ordering.{is_eq, is_le, nat_cmp}
use Rattle.std.proofs.lemmas.Bool.Decides.{nat_tests}
use Rattle.shared_states.specs.Entries.{KeepsTrees, held_at, side_of, value_of}
use Rattle.shared_states.specs.Puts.{in_puts, number_of, put_at}
use Rattle.shared_states.specs.declared.entries.Entry.{Entry}

-- where nothing is put, what was held stays
pub nothing_put : (puts : List (ℕ × Option ℕ)) (key : ℕ) (other : Option ℕ) → put_at puts key ≡ None → in_puts puts key other ≡ other
unfolding in_puts
nothing_put puts key other none = ap (λ o. option_map_or (λ value. value) o other) none

pub something_put : (puts : List (ℕ × Option ℕ)) (key : ℕ) (value other : Option ℕ) → put_at puts key ≡ Some value → in_puts puts key other ≡ value
unfolding in_puts
something_put puts key value other some = ap (λ o. option_map_or (λ v. v) o other) some

-- a tree without height holds what is put at its number
pub put_below : (old new : List Entry) (puts : List (ℕ × Option ℕ)) (base height tree made : ℕ) → height ≡ 0
    → value_of new made ≡ in_puts puts base (value_of old tree)
    → (path : List Bool) → length path ≡ height → held_at new path made ≡ in_puts puts (base + number_of path) (held_at old path tree)
put_below old new puts base height tree made none value [] l =
    let same : base ≡ base + 0 = omega arith in value ∙ ap (λ n. in_puts puts n (value_of old tree)) same
put_below old new puts base height tree made none value (side ∷ path) l = absurd (omega (arith, l, none))

eq_test : (a b : ℕ) → is_eq (nat_cmp a b) ≡ (b == a)
eq_test a b = grind (arith, nat_tests)

pub same_test : (a b : ℕ) → is_eq (nat_cmp a b) ≡ (a == b)
same_test a b = grind (arith, nat_tests)

abbrev is_between : ℕ → ℕ → ℕ → Bool
is_between first end k = is_le (nat_cmp first k) && not (is_le (nat_cmp end k))

outside : (first end n k : ℕ) → first ≤ n → n < end → is_between first end k ≡ false → (k == n) ≡ false
outside first end n k from before out = grind (arith, nat_tests)

-- where none is between two bounds, none is at a number there
pub none_between : (first end n : ℕ) → first ≤ n → n < end → (es : List (ℕ × Option ℕ)) →
    filter (λ (e : ℕ × Option ℕ). is_between first end e.0) es ≡ [] → put_at es n ≡ None
none_between first end n from before [] none = refl
none_between first end n from before (e ∷ es) none =
    let rest = filter (λ (e : ℕ × Option ℕ). is_between first end e.0) es in
    elim (is_between first end e.0) as (λ b. is_between first end e.0 ≡ b → (if b then e ∷ rest else rest) ≡ [] → put_at (e ∷ es) n ≡ None) [
      | true ↦ λ _ some. absurd (let clash : e ∷ rest ≡ [] = some in cc)
      | false ↦ λ out later.
          ap (λ b. cond b (Some e.1) (put_at es n)) (eq_test n e.0 ∙ outside first end n e.0 from before out)
          ∙ none_between first end n from before es later
    ] refl none

-- a tree over two with puts has them
pub puts_above : (old mid next new : List Entry) (puts : List (ℕ × Option ℕ)) (b height base half tree low high made : ℕ) → height ≡ b + 1 → half ≡ 2 ^ b
    → side_of old tree true < length old → KeepsTrees old mid → KeepsTrees mid next → KeepsTrees next new → low < length mid → high < length next
    → side_of new made false ≡ low → side_of new made true ≡ high
    → ((path : List Bool) → length path ≡ b → held_at mid path low ≡ in_puts puts (base + number_of path) (held_at old path (side_of old tree false)))
    → ((path : List Bool) → length path ≡ b → held_at next path high ≡ in_puts puts ((base + half) + number_of path) (held_at mid path (side_of old tree true)))
    → (path : List Bool) → length path ≡ height → held_at new path made ≡ in_puts puts (base + number_of path) (held_at old path tree)
puts_above old mid next new puts b height base half tree low high made e is inside first second third is_low is_high at_low at_high lows highs [] l = absurd
    (omega (arith, l, e))
puts_above old mid next new puts b height base half tree low high made e is inside first second third is_low is_high at_low at_high lows highs
    (false ∷ path) l =
    let small : length path ≡ b = omega (arith, l, e) in
    let longer = second.longer in
    let number : base + number_of path ≡ base + (number_of path + 2 ^ length path * 0) = omega arith in
    ap (λ t. held_at new path t) at_low ∙ third.held path low (omega (arith, is_low, longer)) ∙ second.held path low is_low ∙ lows path small
    ∙ ap (λ n. in_puts puts n (held_at old path (side_of old tree false))) number
puts_above old mid next new puts b height base half tree low high made e is inside first second third is_low is_high at_low at_high lows highs (true ∷ path) l =
    let small : length path ≡ b = omega (arith, l, e) in
    let power : 2 ^ length path ≡ 2 ^ b = ap (λ n. 2 ^ n) small in
    let number : (base + half) + number_of path ≡ base + (number_of path + 2 ^ length path * 1) = omega (arith, power, is) in
    ap (λ t. held_at new path t) at_high ∙ third.held path high is_high ∙ highs path small
    ∙ ap (λ n. in_puts puts n (held_at mid path (side_of old tree true))) number
    ∙ ap (λ o. in_puts puts (base + number_of (true ∷ path)) o) (first.held path (side_of old tree true) inside)
