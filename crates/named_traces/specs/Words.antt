-- Where the words of a page are.
use Rattle.std.specs.Prelude.{ℕ, ◌+◌, ◌*◌, ◌^◌, ◌<◌, ◌&&◌, Option, Some, None, nat_lt, if◌then◌else◌}

-- the address of the word of this number, from 0, of a page of 1024 words that begins there, if it is below 2^32
abbrev pub word_of_page : ℕ → ℕ → Option ℕ
word_of_page start index = if nat_lt index 1024 && nat_lt (start + 4 * index) (2 ^ 32) then Some (start + 4 * index) else None
