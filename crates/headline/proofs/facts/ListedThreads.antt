-- A numbered thread of an image is one that it lists.
use Rattle.std.proofs.Common.{ℕ, zero, suc, ◌≡◌, ◌+◌, ◌<◌, List, [], ◌∷◌, Some, length, get_or, map, ap, arith}
use Rattle.std.specs.Prelude.{Contains, slice_get}
use Rattle.std.specs.List.{enumerate_from}
use Rattle.model.specs.Images.Described.{Numbered, numbered_threads}
use Rattle.model.specs.Images.Image.{Image, Thread}
use Rattle.thread_spaces.specs.Given.{IsListed}

abbrev pub with_number : ℕ × Thread → Numbered
with_number t = record { number = t.0; thread = t.1 }

pub entry-from : (n : ℕ) (threads : List Thread) (k : ℕ) (t : Numbered) → k < length (map with_number (enumerate_from n threads))
    → get_or (map with_number (enumerate_from n threads)) k t ≡ t
    → slice_get threads k ≡ Some t.thread
entry-from n [] k t inside is = absurd (omega (arith, inside))
entry-from n (x ∷ rest) zero t inside is = ap (λ (u : Numbered). Some u.thread) is
entry-from n (x ∷ rest) (suc k) t inside is = entry-from (n + 1) rest k t (omega (arith, inside)) is

pub is-listed : (image : Image) (t : Numbered) → Contains (numbered_threads image) t → IsListed image t.thread
is-listed image t listed = record { number = listed.0; listed = entry-from 0 image.threads listed.0 t listed.1 listed.2 }

pub thread-entry : (image : Image) (t : Numbered) → (listed : Contains (numbered_threads image) t) → slice_get image.threads listed.0 ≡ Some t.thread
thread-entry image t listed = entry-from 0 image.threads listed.0 t listed.1 listed.2
