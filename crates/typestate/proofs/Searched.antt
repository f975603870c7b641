-- What a search by key finds in slots whose keys rise.
use Rattle.std.proofs.Common.{ℕ, zero, suc, ◌≡◌, ◌∙◌, ◌==◌, ◌+◌, ◌<◌, ◌≤◌, inl, inr, false, if◌then◌else◌, Some, None, is_some, Result, Ok, Err, List, [], ◌∷◌}
use Rattle.std.proofs.Common.{length}
use Rattle.std.proofs.Common.{get_or, refl, sym, ap, subst, arith}
use Rattle.std.specs.Prelude.{MatchResult}
use Rattle.std.specs.List.Sorted.{IsSearchInRange, IsBinarySearchResult, IsNonDecreasingBy}
use Rattle.std.specs.Ordering.{nat_cmp, ordering_index}
use Rattle.std.specs.Result.{is_ok}
use Rattle.std.proofs.lemmas.Cmp.{ranked}
use Rattle.std.proofs.lemmas.Bool.{cases_lt}
use Rattle.std.proofs.lemmas.Bool.Decides.{nat_tests}
use Rattle.model.specs.Acceptance.NotedStates.{NotedSlot, SlotKey, number_of, slot_at}
use Rattle.model.specs.declared.capabilities.Cap.TheVariants.{Empty}
use Rattle.typestate.specs.Families.{found as numbered}
use Rattle.typestate.specs.Orders.{Rise}
use Rattle.typestate.proofs.Rising.{RiseFrom, first-found, from-first}

abbrev pub number_at : List NotedSlot → ℕ → NotedSlot → ℕ
number_at slots i default = number_of (get_or slots i default).key

pub at-least : (slots : List NotedSlot) (least i : ℕ) (d : NotedSlot) → RiseFrom least slots → i < length slots → least ≤ number_at slots i d
at-least [] least i d rises below = absurd (omega (arith, below))
at-least (s ∷ rest) least zero d rises below = rises.0
at-least (s ∷ rest) least (suc i) d rises below = omega (arith, rises.0, at-least rest (number_of s.key + 1) i d rises.1 (omega (arith, below)))

ordered : (slots : List NotedSlot) (least i j : ℕ) (d : NotedSlot) → RiseFrom least slots → i ≤ j → j < length slots → number_at slots i d ≤ number_at slots j d
ordered [] least i j d rises order below = absurd (omega (arith, below))
ordered (s ∷ rest) least zero zero d rises order below = omega arith
ordered (s ∷ rest) least zero (suc j) d rises order below = omega (arith, at-least rest (number_of s.key + 1) j d rises.1 (omega (arith, below)))
ordered (s ∷ rest) least (suc i) zero d rises order below = absurd (omega (arith, order))
ordered (s ∷ rest) least (suc i) (suc j) d rises order below = ordered rest (number_of s.key + 1) i j d rises.1 (omega (arith, order)) (omega (arith, below))

below-apart : (a b : ℕ) → a < b → (a == b) ≡ false
below-apart a b less = grind (arith, nat_tests)

above-apart : (a b : ℕ) → b < a → (a == b) ≡ false
above-apart a b more = grind (arith, nat_tests)

found : (slots : List NotedSlot) (least : ℕ) (key : SlotKey) (i : ℕ) (d : NotedSlot) → RiseFrom least slots → i < length slots →
    number_at slots i d ≡ number_of key
    → slot_at slots key ≡ Some (get_or slots i d)
found [] least key i d rises below same = absurd (omega (arith, below))
found (s ∷ rest) least key zero d rises below same = first-found s rest key same
found (s ∷ rest) least key (suc i) d rises below same =
    let more = at-least rest (number_of s.key + 1) i d rises.1 (omega (arith, below)) in
    ap (λ b. if b then Some s else slot_at rest key) (below-apart (number_of s.key) (number_of key) (omega (arith, more, same)))
    ∙ found rest (number_of s.key + 1) key i d rises.1 (omega (arith, below)) same

absent : (slots : List NotedSlot) (key : SlotKey) → ((i : ℕ) (d : NotedSlot) → i < length slots → (number_at slots i d == number_of key) ≡ false) →
    slot_at slots key ≡ None
absent [] key none = refl
absent (s ∷ rest) key none = ap (λ b. if b then Some s else slot_at rest key) (none 0 s (omega arith))
    ∙ absent rest key (λ i d below. none (suc i) d (omega (arith, below)))

pub comparisons-rise : (slots : List NotedSlot) (key : SlotKey) → Rise slots →
    IsNonDecreasingBy (λ s. ordering_index (nat_cmp (number_of s.key) (number_of key))) slots
comparisons-rise slots key rises i j d order below = later (number_at slots i d) (number_at slots j d) (number_of key)
    (ordered slots 0 i j d (from-first slots rises) order below)
  where
    later : (a b x : ℕ) → a ≤ b → ordering_index (nat_cmp a x) ≤ ordering_index (nat_cmp b x)
    later a b x order = grind (arith, nat_tests)

pub searched : (slots : List NotedSlot) (key : SlotKey) (r : Result ℕ ℕ) → Rise slots → IsSearchInRange r (length slots)
    → IsBinarySearchResult (λ s. nat_cmp (number_of s.key) (number_of key)) slots r
    → MatchResult r (λ place. (d : NotedSlot) → slot_at slots key ≡ Some (get_or slots place d)) (λ _. slot_at slots key ≡ None)
searched slots key (Ok place) rises inside equal = λ d. found slots 0 key place d (from-first slots rises) inside
    (ranked (number_at slots place d) (number_of key) _ (sym (equal d)))
searched slots key (Err place) rises inside parts =
    let parted = parts (comparisons-rise slots key rises) in
    absent slots key (λ i d below. elim (cases_lt i place) [
      | inl less ↦ below-apart (number_at slots i d) (number_of key) (ranked (number_at slots i d) (number_of key) _ (sym (parted.0 i d (omega arith) less)))
      | inr most ↦ above-apart (number_at slots i d) (number_of key) (ranked (number_at slots i d) (number_of key) _ (sym (parted.1 i d most below)))
    ])

-- the same by a number
pub searched-number : (slots : List NotedSlot) (n : ℕ) (r : Result ℕ ℕ) → Rise slots → IsSearchInRange r (length slots) →
    IsBinarySearchResult (λ s. nat_cmp (number_of s.key) n) slots r
    → MatchResult r (λ place. (d : NotedSlot) → numbered slots n ≡ Some (get_or slots place d)) (λ _. numbered slots n ≡ None)
searched-number slots n r =
    let key : SlotKey = record { cnode = 0; index = n } in
    let same : number_of key ≡ n = omega arith in
    subst (λ m. Rise slots → IsSearchInRange r (length slots) → IsBinarySearchResult (λ s. nat_cmp (number_of s.key) m) slots r
    → MatchResult r (λ place. (d : NotedSlot) → numbered slots m ≡ Some (get_or slots place d)) (λ _. numbered slots m ≡ None)) same (searched slots key r)

-- whether the search finds something
pub is-found : (slots : List NotedSlot) (n : ℕ) (r : Result ℕ ℕ) → Rise slots → IsSearchInRange r (length slots) →
    IsBinarySearchResult (λ s. nat_cmp (number_of s.key) n) slots r → is_ok r ≡ is_some (numbered slots n)
is-found slots n (Ok place) rises inside equal =
    let some : NotedSlot = record { key = record { cnode = 0; index = 0 }; capability = Empty; parent = None } in
    sym (ap is_some (searched-number slots n (Ok place) rises inside equal some))
is-found slots n (Err place) rises inside parts = sym (ap is_some (searched-number slots n (Err place) rises inside parts))

-- what stands at a place
pub numbered-here : (slots : List NotedSlot) (n i : ℕ) (d : NotedSlot) → Rise slots → i < length slots → number_of (get_or slots i d).key ≡ n →
    numbered slots n ≡ Some (get_or slots i d)
numbered-here slots n i d rises inside is = subst (λ m. numbered slots m ≡ Some (get_or slots i d)) is
    (found slots 0 (get_or slots i d).key i d (from-first slots rises) inside refl)
