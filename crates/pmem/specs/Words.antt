-- Words of memory, one after the other.
use Rattle.std.specs.Prelude.{ℕ, zero, suc, ◌+◌, List, [], ◌∷◌}
use Rattle.std.specs.List.{flat_map}
use Rattle.model.specs.Shared.Bytes.{word_at, word_bytes}

-- so many words from a place on
abbrev pub words_at : List ℕ → ℕ → ℕ → List ℕ
words_at memory at zero = []
words_at memory at (suc n) = word_at memory at ∷ words_at memory (at + 4) n

-- the bytes of words
abbrev pub words_bytes : List ℕ → List ℕ
words_bytes words = flat_map word_bytes words
