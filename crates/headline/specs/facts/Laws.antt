-- A law of the crates below, as those above take it.
use Rattle.std.specs.Prelude.{ℕ, ◌+◌, ◌*◌, ◌^◌, ◌≤◌, List, Contains}
use Rattle.model.specs.Acceptance.Accepted.{IsAccepted}
use Rattle.model.specs.Images.Described.{Numbered, numbered_threads}
use Rattle.model.specs.Images.Image.{Image}

-- where a program ends
abbrev pub Ends : Type 0
Ends = (bytes : List ℕ) (image : Image) (t : Numbered) → IsAccepted bytes image → Contains (numbered_threads image) t
    → t.thread.header.base + 4 * t.thread.header.words ≤ 2 ^ 31
