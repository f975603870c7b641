-- Entries of the sections that have one size.
use Rattle.std.proofs.Common.{◌≡◌, ℕ, ℤ, ◌+◌, ◌-◌, ◌≤◌, ◌^◌, Bool, true, ltb, leb, ◌&&◌, ◌||◌, eqb, length, Ok, refl, sym, ap, ◌∙◌, arith}
use Rattle.std.specs.Int.{w32, cast_signed}
use Rattle.std.proofs.lemmas.Bool.{and_parts, le-leb, ltb-false}
use Rattle.model.specs.declared.refusals.Refusal.TheVariants.{Limit}
use Rattle.model.specs.Images.Format.{Format, ◌>>=◌, number_at, field, both, named, signed_number}
use Rattle.model.specs.Images.Image.{anything, below, between, capability_format, frame_format, interrupt_format, object_format, names_parent, no_parent}
use Rattle.model.specs.Images.Image.{not_zero, pair_key, size_fits_in}
use Rattle.model.specs.Images.Image.{promised_word_format, range_format, register_format, slot_format, table_format, term_format, untyped_format}
use Rattle.model.specs.Capabilities.CapabilityFields.{unpacked}
use Rattle.std.specs.Prelude.{is_some}
use Rattle.image_reading.specs.Sizes.{HasSize}
use Rattle.image_reading.proofs.FormatLaws.{bind_ok, guard_ok, test_ok, ok_is}

field_size : (test loose : ℕ → Bool) → ((n : ℕ) → test n ≡ true → loose n ≡ true) → HasSize 4 (field test) (field loose)
field_size test loose looser = record {
  reads = λ bytes at x after e.
      let n : ℕ = number_at w32 bytes at in
      let g = guard_ok (ltb (length bytes - at) 4) _ _ (x, after) e in
      let t = test_ok (test n) (Limit at) (n, at + 4) (x, after) g.1 in
      let after-is : at + 4 ≡ after = ap (λ (p : ℕ × ℕ). p.1) t.1 in
      let read : (field loose).reads bytes at ≡ Ok (n, at + 4) = rw (g.0, looser n t.0) refl in
      let long : 4 ≤ length bytes - at = ltb-false _ _ g.0 in
      (sym after-is, omega (arith, long, after-is), read ∙ ap (λ (p : ℕ × ℕ). Ok p) t.1);
}

same_field : (test : ℕ → Bool) → HasSize 4 (field test) (field test)
same_field test = field_size test test (λ n h. h)

both_size : {A B : Type 0} (m n : ℕ) (first first' : Format A) (second second' : A → Format B) → HasSize m first first' →
    ((a : A) → HasSize n (second a) (second' a)) → HasSize (m + n) (both first second) (both first' second')
both_size {A} {B} m n first first' second second' one other = record {
  reads = λ bytes at x after e.
      let p = bind_ok (first.reads bytes at) (λ a. (second a.0).reads bytes a.1 >>= λ b. Ok ((a.0, b.0), b.1)) (x, after) e in
      let a : A = p.0.0 in
      let q = bind_ok ((second a).reads bytes p.0.1) (λ b. Ok ((a, b.0), b.1)) (x, after) p.2 in
      let h = one.reads bytes at a p.0.1 p.1 in
      let k = (other a).reads bytes p.0.1 q.0.0 q.0.1 q.1 in
      let is = ok_is ((a, q.0.0), q.0.1) (x, after) q.2 in
      let end : q.0.1 ≡ after = ap (λ (y : (A × B) × ℕ). y.1) is in
      (omega (arith, h.0, k.0, end), omega (arith, k.1, end), rw (h.2, k.2) q.2);
}

named_size : {A B : Type 0} (m : ℕ) (to : A → B) (from : B → A) (format loose : Format A) → HasSize m format loose →
    HasSize m (named to from format) (named to from loose)
named_size {A} {B} m to from format loose one = record {
  reads = λ bytes at y after e.
      let p = bind_ok (format.reads bytes at) (λ x. Ok (to x.0, x.1)) (y, after) e in
      let h = one.reads bytes at p.0.0 p.0.1 p.1 in
      let is = ok_is (to p.0.0, p.0.1) (y, after) p.2 in
      let end : p.0.1 ≡ after = ap (λ (z : B × ℕ). z.1) is in
      (omega (arith, h.0, end), omega (arith, h.1, end), rw h.2 p.2);
}

from-0 : (k : ℕ) → leb 0 k ≡ true
from-0 k = le-leb 0 k (omega arith)

-- what is not below a least number is not below 0
and-from-0 : (b c : Bool) (k : ℕ) → (b && c) ≡ true → (leb 0 k && c) ≡ true
and-from-0 b c k h = ap (λ (x : Bool). x && c) (from-0 k) ∙ (and_parts b c h).1

pub untyped_size : HasSize 8 untyped_format untyped_format
unfolding untyped_format
untyped_size = named_size 8 _ _ _ _ (both_size 4 4 _ _ _ _ (same_field anything) (λ (a : ℕ). same_field (between 4 24)))

pub object_entry_size : (version untypeds least : ℕ) → HasSize 12 (object_format version untypeds least) (object_format version untypeds 0)
unfolding object_format
object_entry_size version untypeds least = named_size 12 _ _ _ _
    (both_size 4 8 _ _ _ _ (field_size (λ n. leb least n && ltb n untypeds) (λ n. leb 0 n && ltb n untypeds)
    (λ n h. and-from-0 (leb least n) (ltb n untypeds) n h)) (λ (a : ℕ).
    both_size 4 4 _ _ _ _ (same_field (between 1 8)) (λ (kind : ℕ).
    same_field (size_fits_in version kind))))

pub capability_size : (objects interrupts least : ℕ) → HasSize 20 (capability_format objects interrupts least) (capability_format objects interrupts 0)
unfolding capability_format
capability_size objects interrupts least = named_size 20 _ _ _ _
    (both_size 4 16 _ _ _ _ (same_field (below objects)) (λ (cnode : ℕ).
    both_size 4 12 _ _ _ _ (field_size (λ index. leb least (pair_key cnode index)) (λ index. leb 0 (pair_key cnode index))
    (λ index h. from-0 (pair_key cnode index))) (λ (a : ℕ).
    both_size 4 8 _ _ _ _ (same_field (below (objects + interrupts))) (λ (b : ℕ).
    both_size 4 4 _ _ _ _ (same_field anything) (λ (c : ℕ).
    same_field anything)))))

pub interrupt_size : (objects least : ℕ) → HasSize 12 (interrupt_format objects least) (interrupt_format objects 0)
unfolding interrupt_format
interrupt_size objects least = named_size 12 _ _ _ _
    (both_size 4 8 _ _ _ _ (field_size (between least 63) (between 0 63) (λ n h. and-from-0 (leb least n) (leb n 63) n h)) (λ (a : ℕ).
    both_size 4 4 _ _ _ _ (same_field (below objects)) (λ (b : ℕ).
    same_field (below (2 ^ 28)))))

pub table_size : (objects least : ℕ) → HasSize 12 (table_format objects least) (table_format objects 0)
unfolding table_format
table_size objects least = named_size 12 _ _ _ _
    (both_size 4 8 _ _ _ _ (same_field (below objects)) (λ (root : ℕ).
    both_size 4 4 _ _ _ _ (field_size (λ address. leb least (pair_key root address)) (λ address. leb 0 (pair_key root address))
    (λ address h. from-0 (pair_key root address))) (λ (a : ℕ).
    same_field (below objects))))

pub frame_size : (objects least : ℕ) → HasSize 16 (frame_format objects least) (frame_format objects 0)
unfolding frame_format
frame_size objects least = named_size 16 _ _ _ _
    (both_size 4 12 _ _ _ _ (same_field (below objects)) (λ (root : ℕ).
    both_size 4 8 _ _ _ _ (field_size (λ address. leb least (pair_key root address)) (λ address. leb 0 (pair_key root address))
    (λ address h. from-0 (pair_key root address))) (λ (a : ℕ).
    both_size 4 4 _ _ _ _ (same_field (below objects)) (λ (b : ℕ).
    same_field (between 0 7)))))

signed_size : (test : ℤ → Bool) → HasSize 4 (signed_number w32 test) (signed_number w32 test)
signed_size test = record {
  reads = λ bytes at y after e.
      let p = bind_ok ((field (λ n. test (cast_signed w32 n))).reads bytes at) (λ x. Ok (cast_signed w32 x.0, x.1)) (y, after) e in
      let h = (same_field (λ n. test (cast_signed w32 n))).reads bytes at p.0.0 p.0.1 p.1 in
      let is = ok_is (cast_signed w32 p.0.0, p.0.1) (y, after) p.2 in
      let end : p.0.1 ≡ after = ap (λ (z : ℤ × ℕ). z.1) is in
      (omega (arith, h.0, end), omega (arith, h.1, end), e);
}

-- a register from a least one on
register_field : (least : ℕ) → HasSize 4 (field (between least 31)) (field (between 0 31))
register_field least = field_size (between least 31) (between 0 31) (λ n h. and-from-0 (leb least n) (leb n 31) n h)

pub promised_word_size : HasSize 8 promised_word_format promised_word_format
unfolding promised_word_format
promised_word_size = named_size 8 _ _ _ _ (both_size 4 4 _ _ _ _ (same_field anything) (λ (low : ℕ). same_field (leb low)))

pub slot_size : (objects least : ℕ) → HasSize 24 (slot_format objects least) (slot_format objects 0)
unfolding slot_format
slot_size objects least = named_size 24 _ _ _ _
    (both_size 4 20 _ _ _ _ (same_field (below objects)) (λ (cnode : ℕ).
    both_size 4 16 _ _ _ _ (field_size (λ index. leb least (pair_key cnode index) && ltb index (2 ^ 14))
    (λ index. leb 0 (pair_key cnode index) && ltb index (2 ^ 14))
    (λ index h. and-from-0 (leb least (pair_key cnode index)) (ltb index (2 ^ 14)) (pair_key cnode index) h)) (λ (a : ℕ).
    both_size 4 12 _ _ _ _ (same_field anything) (λ (word0 : ℕ).
    both_size 4 8 _ _ _ _ (same_field (λ word1. is_some (unpacked word0 word1))) (λ (word1 : ℕ).
    both_size 4 4 _ _ _ _ (same_field (λ parent. ltb parent objects || eqb parent no_parent)) (λ (parent : ℕ).
    same_field (names_parent (eqb word0 0 && eqb word1 0) parent)))))))

pub register_size : (least : ℕ) → HasSize 8 (register_format least) (register_format 0)
unfolding register_format
register_size least = named_size 8 _ _ _ _ (both_size 4 4 _ _ _ _ (register_field least) (λ (a : ℕ). same_field (ltb 0)))

pub range_size : (least : ℕ) → HasSize 12 (range_format least) (range_format 0)
unfolding range_format
range_size least = named_size 12 _ _ _ _
    (both_size 4 8 _ _ _ _ (register_field least) (λ (a : ℕ).
    both_size 4 4 _ _ _ _ (same_field anything) (λ (low : ℕ).
    same_field (λ high. leb low high && (ltb 0 low || ltb high (2 ^ 32 - 1))))))

pub term_size : (least : ℕ) → HasSize 8 (term_format least) (term_format 0)
unfolding term_format
term_size least = named_size 8 (λ (register, coefficient). record { register = register; coefficient = coefficient }) (λ e. (e.register, e.coefficient)) _ _
    (both_size 4 4 _ _ _ _ (register_field least) (λ (a : ℕ). signed_size not_zero))
