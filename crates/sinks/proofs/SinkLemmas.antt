-- Growing in steps.
use Rattle.std.proofs.Common.{◌≡◌, ℕ, ◌+◌, ◌-◌, ◌≤◌, false, List, [], ◌∷◌, ◌++◌, length, take, drop, Option, Some, None, Ok, refl, sym, ap, subst, ◌∙◌}
use Rattle.std.proofs.Common.{append_assoc, take-add, arith}
use Rattle.std.proofs.lemmas.Bool.{ne_eqb}
use Rattle.std.proofs.lemmas.List.{take_all, length-drop}
use Rattle.sinks.specs.Sinks.{Grows, took_nothing, failures_after}

pub Grows-then : (old mid new : Option (List ℕ)) (xs ys : List ℕ) → Grows old mid xs → Grows mid new ys → Grows old new (xs ++ ys)
Grows-then None mid new xs ys p q = tt
Grows-then (Some a) None new xs ys p q = absurd p
Grows-then (Some a) (Some b) None xs ys p q = absurd q
Grows-then (Some a) (Some b) (Some c) xs ys p q = q ∙ ap (λ (t : List ℕ). t ++ ys) p ∙ append_assoc a xs ys

some_taken : (piece : List ℕ) (count : ℕ) → (count ≡ 0 → ⊥) → took_nothing piece (Ok count) ≡ false
some_taken [] count h = refl
some_taken (b ∷ bs) count h = ne_eqb count 0 h

pub not_counted : (piece : List ℕ) (count failures : ℕ) → (count ≡ 0 → ⊥) → failures_after piece (Ok count) failures ≡ failures
not_counted piece count failures h = rw (some_taken piece count h) refl

-- what is left of the bytes
rest_is : (bytes : List ℕ) (done : ℕ) → take (length bytes - done) (drop done bytes) ≡ drop done bytes
rest_is bytes done = take_all (length bytes - done) (drop done bytes) (omega (arith, length-drop done bytes))

pub put_within : (bytes : List ℕ) (done count : ℕ) → done ≤ length bytes → count ≤ length (take (length bytes - done) (drop done bytes)) →
    done + count ≤ length bytes
put_within bytes done count le h = omega (arith, h, ap (λ (t : List ℕ). length t) (rest_is bytes done), length-drop done bytes)

pub put_more : (old mid new : Option (List ℕ)) (bytes : List ℕ) (done count : ℕ) → Grows old mid (take done bytes) →
    Grows mid new (take count (take (length bytes - done) (drop done bytes)))
    → Grows old new (take (done + count) bytes)
put_more old mid new bytes done count p q =
    let q' = subst (λ (t : List ℕ). Grows mid new (take count t)) (rest_is bytes done) q in
    subst (λ (t : List ℕ). Grows old new t) (sym (take-add done count bytes)) (Grows-then old mid new (take done bytes) (take count (drop done bytes)) p q')
