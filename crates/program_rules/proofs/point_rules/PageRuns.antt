-- Pages up to which all pass a test.
use Rattle.std.proofs.Common.{ℕ, ◌≡◌, ◌+◌, ◌<◌, ◌≤◌, inl, inr, Bool, true, subst, arith}
use Rattle.std.proofs.lemmas.Bool.{cases_lt}

pub one-page : (test : ℕ → Bool) (page : ℕ) → test page ≡ true → (p : ℕ) → page ≤ p → p < page + 1 → test p ≡ true
one-page test page here p from below = let same : page ≡ p = omega (arith, from, below) in subst (λ (n : ℕ). test n ≡ true) same here

-- all pass from one page to another, and from there to a third
pub both-pass : (test : ℕ → Bool) (first middle end : ℕ) → ((p : ℕ) → first ≤ p → p < middle → test p ≡ true) → ((p : ℕ) → middle ≤ p → p < end → test p ≡ true)
    → (p : ℕ) → first ≤ p → p < end → test p ≡ true
both-pass test first middle end before after p from below = elim (cases_lt p middle) [
  | inl less ↦ before p from less
  | inr most ↦ after p most below
]
