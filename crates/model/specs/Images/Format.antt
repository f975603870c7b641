-- A binary format: how a value is read from bytes, with the refusal of what is met first, and how it is spelled.
use Rattle.std.specs.Prelude.{◌≡◌, ℕ, zero, suc, ◌+◌, ◌-◌, ◌^◌, Bool, true, false, ◌&&◌, ◌==◌, nat_lt, if◌then◌else◌, List, [], ◌∷◌, ◌++◌, length, take, drop}
use Rattle.std.specs.Prelude.{Result}
use Rattle.std.specs.Prelude.{Ok, Err}
use Rattle.std.specs.Int.{Width, w32, byte_len, from_le_bytes, to_le_bytes, cast_signed, cast_unsigned}
use Rattle.std.specs.Prelude.{ℤ, pos, negsuc}
use mir.Val.{bits, hbits}
use Rattle.model.specs.declared.refusals.Refusal.{Refusal}
use Rattle.model.specs.declared.refusals.Refusal.TheVariants.{Truncated, Trailing, Limit}

-- What reading at an offset of the bytes gives: the value and the offset after it, or what is refused first.
-- Its spelling. Whether it is in its ranges and orders.
pub record Format (A : Type 0) : Type 0 where
  pub reads : List ℕ → ℕ → Result (A × ℕ) Refusal
  pub spelling : A → List ℕ
  pub fits : A → Bool

infixl 10 ◌>>=◌
abbrev pub ◌>>=◌ : {A B : Type 0} → Result A Refusal → (A → Result B Refusal) → Result B Refusal
(Ok x) >>= f = f x
(Err e) >>= f = Err e

-- the little-endian number of the bytes at an offset
abbrev pub number_at : Width → List ℕ → ℕ → ℕ
number_at w bytes at = from_le_bytes w (take (byte_len w) (drop at bytes))

-- A number of 4 or 8 bytes, the lowest first, that passes a test, or what is refused at its offset.
abbrev pub number_or : (ℕ → Refusal) → Width → (ℕ → Bool) → Format ℕ
number_or refusal w test = record {
  reads = λ bytes at.
      if nat_lt (length bytes - at) (byte_len w) then Err (Truncated at)
      else if test (number_at w bytes at) then Ok (number_at w bytes at, at + byte_len w)
      else Err (refusal at);
  spelling = to_le_bytes w;
  fits = λ n. nat_lt n (2 ^ bits w) && test n;
}

abbrev pub number : Width → (ℕ → Bool) → Format ℕ
number w test = number_or Limit w test

-- A field that is there where the test holds. Elsewhere nothing is read or spelled, and only the value for an absent field fits.
abbrev pub only_if : Bool → ℕ → Format ℕ → Format ℕ
only_if test absent format = record {
  reads = λ bytes at. if test then format.reads bytes at else Ok (absent, at);
  spelling = λ n. if test then format.spelling n else [];
  fits = λ n. if test then format.fits n else n == absent;
}

-- a field of 4 bytes
abbrev pub field : (ℕ → Bool) → Format ℕ
field test = number w32 test

-- whether a signed value fits its width
abbrev pub fits_signed : Width → ℤ → Bool
fits_signed w (pos n) = nat_lt n (2 ^ hbits w)
fits_signed w (negsuc n) = nat_lt n (2 ^ hbits w)

-- the same as two's complement
abbrev pub signed_number : Width → (ℤ → Bool) → Format ℤ
signed_number w test = record {
  reads = λ bytes at. (number w (λ n. test (cast_signed w n))).reads bytes at >>= λ x. Ok (cast_signed w x.0, x.1);
  spelling = λ z. to_le_bytes w (cast_unsigned w z);
  fits = λ z. fits_signed w z && test z;
}

-- one after the other, where the second may depend on the first
abbrev pub both : {A B : Type 0} → Format A → (A → Format B) → Format (A × B)
both {A} {B} first second = record {
  reads = λ bytes at. first.reads bytes at >>= λ a. (second a.0).reads bytes a.1 >>= λ b. Ok ((a.0, b.0), b.1);
  spelling = λ x. first.spelling x.0 ++ (second x.0).spelling x.1;
  fits = λ x. first.fits x.0 && (second x.0).fits x.1;
}

-- the same values under other names
abbrev pub named : {A B : Type 0} → (A → B) → (B → A) → Format A → Format B
named to from format = record {
  reads = λ bytes at. format.reads bytes at >>= λ x. Ok (to x.0, x.1);
  spelling = λ y. format.spelling (from y);
  fits = λ y. format.fits (from y);
}

-- So many values one after the other, in an order: `format k` is the format of a value whose key is at least k,
-- and `next x` is the least key after x.
unfoldable pub many_read : {A : Type 0} → (ℕ → Format A) → (A → ℕ) → ℕ → ℕ → List ℕ → ℕ → Result (List A × ℕ) Refusal
many_read format next least zero bytes at = Ok ([], at)
many_read format next least (suc n) bytes at = do
  first ← (format least).reads bytes at
  others ← many_read format next (next first.0) n bytes first.1
  Ok (first.0 ∷ others.0, others.1)

unfoldable pub many_spelling : {A : Type 0} → (ℕ → Format A) → (A → ℕ) → ℕ → List A → List ℕ
many_spelling format next least [] = []
many_spelling format next least (x ∷ xs) = (format least).spelling x ++ many_spelling format next (next x) xs

unfoldable pub many_fit : {A : Type 0} → (ℕ → Format A) → (A → ℕ) → ℕ → ℕ → List A → Bool
many_fit format next least zero [] = true
many_fit format next least zero (x ∷ xs) = false
many_fit format next least (suc n) [] = false
many_fit format next least (suc n) (x ∷ xs) = (format least).fits x && many_fit format next (next x) n xs

abbrev pub ordered : {A : Type 0} → ℕ → (ℕ → Format A) → (A → ℕ) → ℕ → Format (List A)
ordered least format next count = record {
  reads = many_read format next least count;
  spelling = many_spelling format next least;
  fits = many_fit format next least count;
}

-- so many values, each by itself
abbrev pub many : {A : Type 0} → ℕ → Format A → Format (List A)
many count format = ordered 0 (λ _. format) (λ _. 0) count

-- where reading ends
abbrev pub end_of : {A : Type 0} → Result (A × ℕ) Refusal → Result ℕ Refusal
end_of read = read >>= λ x. Ok x.1

-- the values that reading gives, or none where it is refused
abbrev pub values_of : {A : Type 0} → Result (List A × ℕ) Refusal → List A
values_of (Ok x) = x.0
values_of (Err e) = []

-- what all of the bytes read as: more bytes are refused at the end
abbrev pub reading : {A : Type 0} → Format A → List ℕ → Result A Refusal
reading format bytes = do
  x ← format.reads bytes 0
  if nat_lt x.1 (length bytes) then Err (Trailing x.1) else Ok x.0

-- the bytes spell the value, all of them
pub record IsSpelling {A : Type 0} (format : Format A) (bytes : List ℕ) (value : A) : Type 0 where
  pub fits : format.fits value ≡ true
  pub spelled : bytes ≡ format.spelling value
