-- The registers that a thread lists are registers 1 to 31, and the thread begins at a whole word.
use Rattle.std.proofs.Common.{ℕ, zero, suc, ◌≡◌, ◌==◌, ◌+◌, ◌%◌, ◌^◌, ◌≤◌, ◌<◌, true, false, List, [], ◌∷◌, Option, Some, None, refl, ap, arith}
use Rattle.std.specs.Prelude.{nat_lt, slice_get}
use Rattle.std.specs.Option.{option_map_or}
use Rattle.std.proofs.lemmas.Bool.{and_parts, eq-eqb, eqb-true}
use Rattle.std.proofs.lemmas.Option.{none-some, same_Some}
use Rattle.format_laws.proofs.Laws.{field-between, field-parts, many-each}
use Rattle.model.specs.Capabilities.CapabilityKinds.{is_guard_word}
use Rattle.model.specs.Images.Described.{start_of}
use Rattle.model.specs.Images.Format.{field, many_fit}
use Rattle.model.specs.Images.Image.{Image, Thread, between, image_with, register_format, registers_format, slots_format, thread_format, whole_image}
use Rattle.model.specs.Kernel.AddressSpaces.{page_size}
use Rattle.model.specs.declared.entries.RegisterEntry.{RegisterEntry}

register-fits : (least : ℕ) (r : RegisterEntry) → (register_format least).fits r ≡ true → (least ≤ r.register) × (r.register ≤ 31)
unfolding register_format
register-fits least r is = field-between least 31 r.register (and_parts _ _ is).0

registers-within : (least count : ℕ) (rs : List RegisterEntry) → 1 ≤ least → many_fit register_format (λ e. e.register + 1) least count rs ≡ true
    → (j : ℕ) (r : RegisterEntry) → slice_get rs j ≡ Some r → (1 ≤ r.register) × (r.register ≤ 31)
unfolding many_fit
registers-within least count [] low is j r at = absurd (none-some r at)
registers-within least zero (x ∷ xs) low is j r at = absurd (let clash : false ≡ true = is in cc)
registers-within least (suc n) (x ∷ xs) low is zero r at =
    let here = register-fits least x (and_parts ((register_format least).fits x) (many_fit register_format (λ e. e.register + 1) (x.register + 1) n xs) is).0 in
    let e : x.register ≡ r.register = ap (λ (y : RegisterEntry). y.register) (same_Some x r at) in
    (omega (arith, here, low, e), omega (arith, here, e))
registers-within least (suc n) (x ∷ xs) low is (suc j) r at =
    registers-within (x.register + 1) n xs (omega arith)
    (and_parts ((register_format least).fits x) (many_fit register_format (λ e. e.register + 1) (x.register + 1) n xs) is).1 j r at

of-thread : (version objects : ℕ) (t : Thread) → (thread_format (slots_format objects) version objects).fits t ≡ true
    → (j : ℕ) (r : RegisterEntry) → slice_get t.registers j ≡ Some r → (1 ≤ r.register) × (r.register ≤ 31)
unfolding thread_format registers_format
of-thread version objects t is = registers-within 1 t.header.registers t.registers (omega arith) (and_parts _ _ (and_parts _ _ is).1).0

pub registers-fit : (image : Image) → whole_image.fits image ≡ true → (k : ℕ) (t : Thread) → slice_get image.threads k ≡ Some t
    → (j : ℕ) (r : RegisterEntry) → slice_get t.registers j ≡ Some r → (1 ≤ r.register) × (r.register ≤ 31)
unfolding image_with
registers-fit image is k t at =
    let threads = thread_format (slots_format image.header.objects) image.header.version image.header.objects in
    of-thread image.header.version image.header.objects t (many-each (λ _. threads) (λ _. 0) 0 image.header.threads image.threads (and_parts _ _ is).1 k t at).1

-- and their values are words
value-fits : (least : ℕ) (r : RegisterEntry) → (register_format least).fits r ≡ true → r.value < 2 ^ 32
unfolding register_format
value-fits least r is = (field-parts (nat_lt 0) r.value (and_parts ((field (between least 31)).fits r.register) _ is).1).0

values-of : (version objects : ℕ) (t : Thread) → (thread_format (slots_format objects) version objects).fits t ≡ true → (j : ℕ) (r : RegisterEntry) →
    slice_get t.registers j ≡ Some r → r.value < 2 ^ 32
unfolding thread_format registers_format
values-of version objects t is j r at =
    let one = many-each register_format (λ e. e.register + 1) 1 t.header.registers t.registers (and_parts _ _ (and_parts _ _ is).1).0 j r at in
    value-fits one.0 r one.1

pub values-fit : (image : Image) → whole_image.fits image ≡ true → (k : ℕ) (t : Thread) → slice_get image.threads k ≡ Some t
    → (j : ℕ) (r : RegisterEntry) → slice_get t.registers j ≡ Some r → r.value < 2 ^ 32
unfolding image_with
values-fit image is k t at =
    let threads = thread_format (slots_format image.header.objects) image.header.version image.header.objects in
    values-of image.header.version image.header.objects t (many-each (λ _. threads) (λ _. 0) 0 image.header.threads image.threads (and_parts _ _ is).1 k t at).1

pub start-aligned : (t : Thread) → (t.header.base % page_size == 0) ≡ true → (start_of t % 4 == 0) ≡ true
start-aligned t is = let e = eqb-true (t.header.base % page_size) 0 is in eq-eqb (start_of t % 4) 0 (omega (arith, e))

-- the radix for which a guard word is valid
pub guard-radix : (o : Option ℕ) (word : ℕ) → option_map_or (λ radix. is_guard_word radix word) o false ≡ true
    → (radix : ℕ) × (o ≡ Some radix) × (is_guard_word radix word ≡ true)
guard-radix None word is = absurd (let clash : false ≡ true = is in cc)
guard-radix (Some radix) word is = (radix, refl, is)
