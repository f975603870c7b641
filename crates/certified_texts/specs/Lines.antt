-- The lines of a text as bytes, each with the line feed that ends it, and the words of a line. A line is all bytes up to a line feed and
-- with it, or those that are left after the last one, if there are any. Words are what is between spaces, tabs, commas and
-- the bytes that end a line, a carriage return and a line feed; what is from a `#` on is a comment, and has none.
use Rattle.std.specs.Prelude.{◌≡◌, ℕ, ◌==◌, ◌||◌, Bool, true, false, not, if◌then◌else◌, List, [], ◌∷◌, ◌++◌, length, filter, nat_lt, codes}
use Rattle.std.specs.Str.{bytes_eq}
use Rattle.std.specs.List.{list_any, onto_first, slice_split}
use Rattle.model.specs.Images.Listing.{Text}
use Rattle.asm_line.specs.Parsing.{before_comment}

-- ---- lines

abbrev pub lines_of : Text → List Text
lines_of [] = []
lines_of (byte ∷ bytes) = if byte == 10 then (byte ∷ []) ∷ lines_of bytes else onto_first byte (lines_of bytes)

-- ---- words

abbrev pub parts_words : ℕ → Bool
parts_words byte = (byte == 32) || (byte == 9) || (byte == 44) || (byte == 13) || (byte == 10)

-- all words of bytes, those after a `#` too
unfoldable pub words_of : Text → List Text
words_of bytes = filter (λ word. nat_lt 0 (length word)) (slice_split parts_words bytes)

-- those before a comment
abbrev pub line_words : Text → List Text
line_words line = words_of (before_comment line)

-- there is a first word, and it passes a test
abbrev pub first_passes : (Text → Bool) → List Text → Bool
first_passes test [] = false
first_passes test (word ∷ words) = test word

abbrev pub begins_certificate : Text → Bool
begins_certificate word = bytes_eq word (codes "measure") || bytes_eq word (codes "range") || bytes_eq word (codes "slot")

-- a line of a certificate
unfoldable pub is_certificate : Text → Bool
is_certificate line = first_passes begins_certificate (line_words line)

-- the line with which a thread begins
unfoldable pub is_thread : Text → Bool
is_thread line = first_passes (λ word. bytes_eq word (codes "thread")) (line_words line)

-- the lines that are none of a certificate
unfoldable pub kept_lines : Text → List Text
kept_lines text = filter (λ line. not (is_certificate line)) (lines_of text)

-- ---- the ends of bytes

abbrev pub has_hash : Text → Bool
has_hash bytes = list_any (λ byte. byte == 35) bytes

-- no word goes on from before these bytes into them
abbrev pub begins_apart : Text → Bool
begins_apart [] = true
begins_apart (byte ∷ bytes) = parts_words byte

-- the last byte is there, and parts words
pub record EndsApart (bytes : Text) : Type 0 where
  pub others : Text
  pub last : ℕ
  pub is : bytes ≡ others ++ last ∷ []
  pub parts : parts_words last ≡ true
