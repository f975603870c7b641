-- A thread that an image lists has a number.
use Rattle.std.proofs.Common.{ℕ, zero, suc, ◌≡◌, ◌+◌, ◌<◌, List, [], ◌∷◌, map, length, get_or, ap, arith}
use Rattle.std.specs.Prelude.{Contains}
use Rattle.std.specs.List.{enumerate_from}
use Rattle.model.specs.Images.Image.{Thread}
use Rattle.headline.proofs.facts.Laws.{with_number}

numbered-from : (from : ℕ) (threads : List Thread) (k : ℕ) (t : Thread) → k < length threads → get_or threads k t ≡ t
    → (n : ℕ) × Contains (map with_number (enumerate_from from threads)) (with_number (n, t))
numbered-from from [] k t inside is = absurd (omega (arith, inside))
numbered-from from (u ∷ us) zero t inside is = (from, (0, omega arith, ap (λ (v : Thread). with_number (from, v)) is))
numbered-from from (u ∷ us) (suc k) t inside is =
    let later = numbered-from (from + 1) us k t (omega (arith, inside)) is in
    let there = later.1 in
    let less = there.1 in
    (later.0, (suc there.0, omega (arith, less), there.2))

pub numbered-listed : (threads : List Thread) (t : Thread) → Contains threads t
    → (n : ℕ) × Contains (map with_number (enumerate_from 0 threads)) (with_number (n, t))
numbered-listed threads t listed = numbered-from 0 threads listed.0 t listed.1 listed.2
