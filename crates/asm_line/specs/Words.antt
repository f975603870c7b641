-- The words of a line, and what a word is: a name or a number.
use Rattle.std.specs.Prelude.{ℕ, ◌+◌, ◌-◌, ◌*◌, ◌^◌, ◌==◌, Bool, ◌||◌, ◌&&◌, false, if◌then◌else◌, ℤ, pos, negsuc, neg_ℤ, List, [], ◌∷◌, length, nat_lt, nat_le}
use Rattle.std.specs.Prelude.{min, filter, drop, slice_index_or, Result, Ok, Err}
use Rattle.std.specs.Prelude.{Option, Some, None, not, codes}
use Rattle.std.specs.Str.{bytes_eq}
use Rattle.std.specs.Char.{digit_value, is_ascii_lowercase, is_ascii_digit}
use Rattle.std.specs.List.{slice_split, list_all}
use Rattle.model.specs.Images.Listing.{Text}
use Rattle.asm_line.specs.declared.faults.LineFault.{LineFault}
use Rattle.asm_line.specs.declared.faults.LineFault.TheVariants as fault

infixl 10 ◌>>=◌
abbrev pub ◌>>=◌ : {A B E : Type 0} → Result A E → (A → Result B E) → Result B E
(Ok x) >>= f = f x
(Err e) >>= f = Err e

-- ---- words

-- a space, a tab or a comma
abbrev pub is_blank : ℕ → Bool
is_blank byte = (byte == 32) || (byte == 9) || (byte == 44)

-- what is between blanks, where anything does
unfoldable pub words_of : Text → List Text
words_of text = filter (λ word. nat_lt 0 (length word)) (slice_split is_blank text)

abbrev pub ends : List Text → Result (Unit {0}) LineFault
ends [] = Ok tt
ends (word ∷ words) = Err fault.Syntax

-- ---- names

abbrev pub is_name_start : ℕ → Bool
is_name_start byte = is_ascii_lowercase byte || (byte == 95)

abbrev pub is_name_byte : ℕ → Bool
is_name_byte byte = is_name_start byte || is_ascii_digit byte

abbrev pub is_name : Text → Bool
is_name [] = false
is_name (first ∷ others) = is_name_start first && list_all is_name_byte others

unfoldable pub name_of : Text → Result Text LineFault
name_of word = if is_name word then Ok word else Err fault.Syntax

unfoldable pub name_first : List Text → Result (Text × List Text) LineFault
name_first [] = Err fault.Syntax
name_first (word ∷ words) = name_of word >>= λ name. Ok (name, words)

-- the name of an untyped, an object or an interrupt, which is not `boot`
unfoldable pub object_first : List Text → Result (Text × List Text) LineFault
object_first [] = Err fault.Syntax
object_first (word ∷ words) = if bytes_eq word (codes "boot") then Err fault.Syntax else (name_of word >>= λ name. Ok (name, words))

-- ---- numbers

abbrev pub digit_in : ℕ → ℕ → Result ℕ LineFault
digit_in radix byte = if nat_lt (digit_value byte) radix then Ok (digit_value byte) else Err fault.Syntax

-- the number that digits spell after those that spell `n`; one of 2^63 or more counts as 2^63 - 1, which no line may have
abbrev pub value_on : ℕ → ℕ → Text → Result ℕ LineFault
value_on radix n [] = Ok n
value_on radix n (byte ∷ bytes) = digit_in radix byte >>= λ digit. value_on radix (min (n * radix + digit) (2 ^ 63 - 1)) bytes

abbrev pub magnitude : ℕ → Text → Result ℕ LineFault
magnitude radix [] = Err fault.Syntax
magnitude radix (byte ∷ bytes) = value_on radix 0 (byte ∷ bytes)

-- the same with no sign
abbrev pub unsigned_of : ℕ → Text → Result ℤ LineFault
unsigned_of radix digits = magnitude radix digits >>= λ n. Ok (pos n)

-- the number that decimal digits spell after a minus sign
abbrev pub negative_of : Text → Result ℤ LineFault
negative_of digits = magnitude 10 digits >>= λ n. Ok (neg_ℤ (pos n))

abbrev pub is_minus : Text → Bool
is_minus word = slice_index_or word 0 0 == 45

abbrev pub is_hexadecimal : Text → Bool
is_hexadecimal word = (slice_index_or word 0 0 == 48) && (slice_index_or word 1 0 == 120)

-- a minus sign and decimal digits, `0x` and hexadecimal digits, or decimal digits
unfoldable pub number_of : Text → Result ℤ LineFault
number_of word =
    if is_minus word then negative_of (drop 1 word) else
    if is_hexadecimal word then unsigned_of 16 (drop 2 word) else
    unsigned_of 10 word

unfoldable pub number_first : List Text → Result (ℤ × List Text) LineFault
number_first [] = Err fault.Syntax
number_first (word ∷ words) = number_of word >>= λ number. Ok (number, words)

-- a number, and no more
unfoldable pub last_number : List Text → Result ℤ LineFault
last_number words = do
  number ← number_first words
  last ← ends number.1
  Ok number.0

-- two numbers, and no more
unfoldable pub last_numbers : List Text → Result (ℤ × ℤ) LineFault
last_numbers words = do
  first ← number_first words
  second ← last_number first.1
  Ok (first.0, second)

-- a name, a number and a name
unfoldable pub place_first : List Text → Result (Text × ℤ × Text × List Text) LineFault
place_first words = do
  name ← object_first words
  number ← number_first name.1
  other ← object_first number.1
  Ok (name.0, number.0, other.0, other.1)

-- ---- registers

-- one digit, or two of which the first is not 0
abbrev pub small_number_of : Text → Option ℕ
small_number_of [] = None
small_number_of (ones ∷ []) = if is_ascii_digit ones then Some (ones - 48) else None
small_number_of (tens ∷ ones ∷ []) = if is_ascii_digit tens && is_ascii_digit ones && not (tens == 48) then Some ((tens - 48) * 10 + (ones - 48)) else None
small_number_of (tens ∷ ones ∷ byte ∷ bytes) = None

abbrev pub register_numbered : Option ℕ → Result ℕ LineFault
register_numbered None = Err fault.Syntax
register_numbered (Some number) = if nat_lt number 32 then Ok number else Err fault.Syntax

unfoldable pub register_of : Text → Result ℕ LineFault
register_of [] = Err fault.Syntax
register_of (first ∷ digits) = if first == 120 then register_numbered (small_number_of digits) else Err fault.Syntax

unfoldable pub register_first : List Text → Result (ℕ × List Text) LineFault
register_first [] = Err fault.Syntax
register_first (word ∷ words) = register_of word >>= λ number. Ok (number, words)

-- an unsigned number in a range
abbrev pub within : ℕ → ℕ → ℤ → Result ℕ LineFault
within low high (pos n) = if nat_le low n && nat_le n high then Ok n else Err fault.Range
within low high (negsuc n) = Err fault.Range
