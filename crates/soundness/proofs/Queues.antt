-- How often a thread is in a list that another was put into or taken out of.
use Rattle.std.proofs.Common.{ℕ, ◌≡◌, ◌≢◌, ◌∙◌, ◌==◌, ◌+◌, ◌++◌, true, false, not, if◌then◌else◌, List, [], ◌∷◌, refl, sym, ap, arith}
use Rattle.std.proofs.lemmas.Bool.{eq-eqb, ne_eqb}
use Rattle.model.proofs.Orders.{times-filter}
use Rattle.model.specs.Shared.Lists.{times_in, without}

pub times-gone : (thread : ℕ) (threads : List ℕ) → times_in (without thread threads) thread ≡ 0
times-gone thread threads =
    times-filter (λ other. not (other == thread)) threads thread ∙ ap (λ b. if not b then times_in threads thread else 0) (eq-eqb thread thread refl)

pub times-kept : (thread : ℕ) (threads : List ℕ) (other : ℕ) → other ≢ thread → times_in (without thread threads) other ≡ times_in threads other
times-kept thread threads other differs =
    times-filter (λ o. not (o == thread)) threads other ∙ ap (λ b. if not b then times_in threads other else 0) (ne_eqb other thread differs)

pub times-first_same : (thread : ℕ) (threads : List ℕ) → times_in (thread ∷ threads) thread ≡ times_in threads thread + 1
times-first_same thread threads = ap (λ b. if b then times_in threads thread + 1 else times_in threads thread) (eq-eqb thread thread refl)

pub times-first_other : (thread : ℕ) (threads : List ℕ) (other : ℕ) → other ≢ thread → times_in (thread ∷ threads) other ≡ times_in threads other
times-first_other thread threads other differs = ap (λ b. if b then times_in threads other + 1 else times_in threads other)
    (ne_eqb thread other (λ e. differs (sym e)))

-- two lists after one another
pub times-append : (one two : List ℕ) (other : ℕ) → times_in (one ++ two) other ≡ times_in one other + times_in two other
times-append [] two other = omega arith
times-append (t ∷ one) two other =
    let more = times-append one two other in
    elim (t == other) as (λ b. (if b then times_in (one ++ two) other + 1 else times_in (one ++ two) other)
    ≡ (if b then times_in one other + 1 else times_in one other) + times_in two other) [
      | true ↦ omega (arith, more)
      | false ↦ more
    ]

pub times-end_same : (threads : List ℕ) (thread : ℕ) → times_in (threads ++ thread ∷ []) thread ≡ times_in threads thread + 1
times-end_same threads thread = let both = times-append threads (thread ∷ []) thread in let one = times-first_same thread [] in omega (arith, both, one)

pub times-end_other : (threads : List ℕ) (thread other : ℕ) → other ≢ thread → times_in (threads ++ thread ∷ []) other ≡ times_in threads other
times-end_other threads thread other differs =
    let both = times-append threads (thread ∷ []) other in
    let one = times-first_other thread [] other differs in
    omega (arith, both, one)
