-- Names are ASCII.
use Rattle.std.proofs.Common.{◌≡◌, ℕ, zero, suc, ◌<◌, true, [], ◌∷◌, get_or, arith}
use Rattle.std.specs.List.{list_all}
use Rattle.std.specs.Str.{IsUtf8}
use Rattle.std.proofs.lemmas.Str.{IsUtf8-from_ascii}
use Rattle.std.proofs.lemmas.Bool.{and_parts}
use Rattle.std.proofs.lemmas.Bool.Decides.{nat_tests}
use Rattle.model.specs.Images.Listing.{Text}
use Rattle.asm_line.specs.Words.{is_name, is_name_byte, is_name_start}

byte-small : (b : ℕ) → is_name_byte b ≡ true → b < 128
byte-small b h = grind (arith, nat_tests)

start-small : (b : ℕ) → is_name_start b ≡ true → b < 128
start-small b h = grind (arith, nat_tests)

rest-small : (xs : Text) → list_all is_name_byte xs ≡ true → (i : ℕ) → get_or xs i 0 < 128
rest-small [] h i = omega arith
rest-small (x ∷ xs) h zero = byte-small x (and_parts (is_name_byte x) (list_all is_name_byte xs) h).0
rest-small (x ∷ xs) h (suc i) = rest-small xs (and_parts (is_name_byte x) (list_all is_name_byte xs) h).1 i

name-small : (xs : Text) → is_name xs ≡ true → (i : ℕ) → get_or xs i 0 < 128
name-small [] h i = omega arith
name-small (x ∷ xs) h zero = start-small x (and_parts (is_name_start x) (list_all is_name_byte xs) h).0
name-small (x ∷ xs) h (suc i) = rest-small xs (and_parts (is_name_start x) (list_all is_name_byte xs) h).1 i

pub name-utf8 : (xs : Text) → is_name xs ≡ true → IsUtf8 xs
name-utf8 xs h = IsUtf8-from_ascii xs (name-small xs h)
