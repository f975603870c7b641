-- Formats whose values all have one size.
use Rattle.std.specs.Prelude.{◌≡◌, ℕ, ◌+◌, ◌≤◌, List, length, Ok}
use Rattle.model.specs.Images.Format.{Format}

-- What the first format reads, the second reads too, and it has so many bytes, which are all there.
pub record HasSize {A : Type 0} (size : ℕ) (format loose : Format A) : Type 0 where
  pub reads : (bytes : List ℕ) (at : ℕ) (x : A) (after : ℕ) → format.reads bytes at ≡ Ok (x, after)
      → (after ≡ at + size) × (after ≤ length bytes) × (loose.reads bytes at ≡ Ok (x, after))
