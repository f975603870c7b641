-- What is read is spelled so, and what is spelled so is read: a law of each format, from its parts.
use Rattle.std.proofs.Common.{◌≡◌, ℕ, zero, suc, ◌+◌, ◌-◌, ◌^◌, ◌<◌, ◌≤◌, Bool, true, false, cond, ltb, ◌&&◌, List, [], ◌∷◌, ◌++◌, length, get_or, take, drop}
use Rattle.std.proofs.Common.{Result, Ok, Err, refl, sym, ap, subst, ◌∙◌, append_assoc, arith, inl, inr}
use Rattle.std.specs.Int.{Width, w32, w64, byte_len, from_le_bytes, to_le_bytes}
use Rattle.std.proofs.lemmas.Bool.{eq-eqb, eqb-true, cases_lt, ltb-true, ltb-false, lt-ltb, le-ltb, and_parts, and_from}
use Rattle.std.proofs.lemmas.List.{take_at, drop_at, drop-drop, take-append-drop, length-append, length-take, length-drop, get_or-drop, get_or-take}
use Rattle.std.proofs.lemmas.List.{get_or_past}
use Rattle.std.proofs.lemmas.Nat.{le_bytes_4, le_bytes_8, from_le_bytes-to_le_bytes_4, from_le_bytes-to_le_bytes_8}
use Rattle.std.proofs.lemmas.Int.{to_z-of_z, of_z-to_z}
use Rattle.std.specs.Prelude.{ℤ, pos, negsuc}
use Rattle.std.specs.Int.{cast_signed, cast_unsigned}
use mir.Val.{bits, hbits, SFits}
use Rattle.model.specs.declared.refusals.Refusal.{Refusal}
use Rattle.model.specs.declared.refusals.Refusal.TheVariants.{Limit}
use Rattle.model.specs.Images.Format.{Format, ◌>>=◌, number_at, number_or, number, fits_signed, signed_number, both, named, many_read, many_spelling, many_fit}
use Rattle.model.specs.Images.Format.{only_if, ordered}

abbrev pub IsBytes : List ℕ → Type 0
IsBytes bytes = (i : ℕ) → get_or bytes i 0 < 256

pub IsBytes-drop : (n : ℕ) (bytes : List ℕ) → IsBytes bytes → IsBytes (drop n bytes)
IsBytes-drop n bytes h i = rw get_or-drop (h (n + i))

pub IsBytes-take : (n : ℕ) (bytes : List ℕ) → IsBytes bytes → IsBytes (take n bytes)
IsBytes-take n bytes h i =
    elim (cases_lt i n) [
      | inl lt ↦ rw (get_or-take n bytes i 0 lt) (h i)
      | inr le ↦ rw (get_or_past (take n bytes) i 0 (omega (arith, length-take n bytes))) (omega arith)
    ]

-- the value of a step that did not fail
pub bind_ok : {A B : Type 0} (r : Result A Refusal) (f : A → Result B Refusal) (y : B) → (r >>= f) ≡ Ok y → (x : A) × (r ≡ Ok x) × (f x ≡ Ok y)
bind_ok (Ok x) f y e = (x, refl, e)
bind_ok (Err d) f y e = absurd cc

-- a test that did not refuse
pub guard_ok : {A : Type 0} (b : Bool) (d : Refusal) (r : Result A Refusal) (y : A) → cond b (Err d) r ≡ Ok y → (b ≡ false) × (r ≡ Ok y)
guard_ok true d r y e = absurd cc
guard_ok false d r y e = (refl, e)

-- a test that passed
pub test_ok : {A : Type 0} (b : Bool) (d : Refusal) (x y : A) → cond b (Ok x) (Err d) ≡ Ok y → (b ≡ true) × (x ≡ y)
test_ok true d x y e = (refl, cc)
test_ok false d x y e = absurd cc

abbrev pub ok_of : {A : Type 0} → A → Result A Refusal
ok_of x = Ok x

-- what two readings that did not fail gave
pub ok_is : {A : Type 0} (x y : A) → ok_of x ≡ ok_of y → x ≡ y
ok_is x y e = cc

-- what reading took: a value that fits, its spelling, and where it ends
pub record Taken {A : Type 0} (format : Format A) (bytes : List ℕ) (at : ℕ) (x : A) (after : ℕ) : Type 0 where
  pub fits : format.fits x ≡ true
  pub spelled : drop at bytes ≡ format.spelling x ++ drop after bytes
  pub end : after ≡ at + length (format.spelling x)
  pub within : after ≤ length bytes

pub record IsLawful {A : Type 0} (format : Format A) : Type 0 where
  pub takes : (bytes : List ℕ) (at : ℕ) (x : A) (after : ℕ) → IsBytes bytes → at ≤ length bytes → format.reads bytes at ≡ Ok (x, after) →
      Taken format bytes at x after
  pub again : (bytes : List ℕ) (at : ℕ) (x : A) (rest : List ℕ) → at ≤ length bytes → format.fits x ≡ true → drop at bytes ≡ format.spelling x ++ rest
      → format.reads bytes at ≡ Ok (x, at + length (format.spelling x))

-- what follows a spelling
pub behind : (bytes : List ℕ) (at : ℕ) (text rest : List ℕ) → drop at bytes ≡ text ++ rest → drop (at + length text) bytes ≡ rest
behind bytes at text rest h = sym (drop-drop (length text) at bytes) ∙ ap (λ (t : List ℕ). drop (length text) t) h ∙ drop_at text rest (length text) refl

pub behind_within : (bytes : List ℕ) (at : ℕ) (text rest : List ℕ) → at ≤ length bytes → drop at bytes ≡ text ++ rest → at + length text ≤ length bytes
behind_within bytes at text rest le h = omega (arith, length-drop at bytes, ap (λ (t : List ℕ). length t) h, length-append text rest)

-- ---- numbers

pub record IsWide (w : Width) : Type 0 where
  pub len : (n : ℕ) → length (to_le_bytes w n) ≡ byte_len w
  pub back : (bytes : List ℕ) → length bytes ≡ byte_len w → IsBytes bytes → to_le_bytes w (from_le_bytes w bytes) ≡ bytes
  pub again : (n : ℕ) → n < 2 ^ bits w → from_le_bytes w (to_le_bytes w n) ≡ n
  pub below : (bytes : List ℕ) → IsBytes bytes → from_le_bytes w bytes < 2 ^ bits w

pub wide32 : IsWide w32
wide32 = record {
  len = λ n. refl;
  back = λ bytes len fits. le_bytes_4 bytes _ len fits refl;
  again = λ n lt. from_le_bytes-to_le_bytes_4 n lt;
  below = λ bytes fits. omega (arith, fits 0, fits 1, fits 2, fits 3);
}

pub wide64 : IsWide w64
wide64 = record {
  len = λ n. refl;
  back = λ bytes len fits. le_bytes_8 bytes _ len fits refl;
  again = λ n lt. from_le_bytes-to_le_bytes_8 n lt;
  below = λ bytes fits. omega (arith, fits 0, fits 1, fits 2, fits 3, fits 4, fits 5, fits 6, fits 7);
}

number_takes : (refusal : ℕ → Refusal) (w : Width) (test : ℕ → Bool) → IsWide w → (bytes : List ℕ) (at : ℕ) (x after : ℕ) → IsBytes bytes → at ≤ length bytes
    → (number_or refusal w test).reads bytes at ≡ Ok (x, after) → Taken (number_or refusal w test) bytes at x after
number_takes refusal w test wide bytes at x after fits le e =
    let n : ℕ = number_at w bytes at in
    let k : ℕ = byte_len w in
    let g = guard_ok (ltb (length bytes - at) k) _ _ (x, after) e in
    let t = test_ok (test n) (refusal at) (n, at + k) (x, after) g.1 in
    let long : k ≤ length bytes - at = ltb-false _ _ g.0 in
    let x-is : n ≡ x = ap (λ (p : ℕ × ℕ). p.0) t.1 in
    let after-is : at + k ≡ after = ap (λ (p : ℕ × ℕ). p.1) t.1 in
    let part : List ℕ = take k (drop at bytes) in
    let part_len : length part ≡ k = omega (arith, length-take k (drop at bytes), length-drop at bytes) in
    let part_fits : IsBytes part = IsBytes-take k (drop at bytes) (IsBytes-drop at bytes fits) in
    let spelled : to_le_bytes w n ≡ part = wide.back part part_len part_fits in
    record {
      fits = and_from (ltb x (2 ^ bits w)) (test x) (rw (← x-is) (lt-ltb n (2 ^ bits w) (wide.below part part_fits))) (rw (← x-is) t.0);
      spelled = rw (← x-is, spelled, ← after-is, ← drop-drop k at bytes) (sym (take-append-drop k (drop at bytes)));
      end = sym after-is ∙ ap (λ (j : ℕ). at + j) (sym (wide.len x));
      within = omega (arith, after-is);
    }

number_again : (refusal : ℕ → Refusal) (w : Width) (test : ℕ → Bool) → IsWide w → (bytes : List ℕ) (at : ℕ) (x : ℕ) (rest : List ℕ) → at ≤ length bytes
    → (number_or refusal w test).fits x ≡ true → drop at bytes ≡ to_le_bytes w x ++ rest →
    (number_or refusal w test).reads bytes at ≡ Ok (x, at + length (to_le_bytes w x))
number_again refusal w test wide bytes at x rest le fits h =
    let parts = and_parts (ltb x (2 ^ bits w)) (test x) fits in
    let small : x < 2 ^ bits w = ltb-true x (2 ^ bits w) parts.0 in
    let len : length (to_le_bytes w x) ≡ byte_len w = wide.len x in
    let long : ltb (length bytes - at) (byte_len w) ≡ false =
    le-ltb _ _ (omega (arith, length-drop at bytes, ap (λ (t : List ℕ). length t) h, length-append (to_le_bytes w x) rest)) in
    let part : take (byte_len w) (drop at bytes) ≡ to_le_bytes w x = rw h (take_at (to_le_bytes w x) rest (byte_len w) len) in
    let number-is : number_at w bytes at ≡ x = rw part (wide.again x small) in
    rw (long, number-is, parts.1, len) refl

pub number_law : (refusal : ℕ → Refusal) (w : Width) (test : ℕ → Bool) → IsWide w → IsLawful (number_or refusal w test)
number_law refusal w test wide = record { takes = number_takes refusal w test wide; again = number_again refusal w test wide }

-- ---- signed numbers

pub record IsSignedWide (w : Width) : Type 0 where
  pub made : (n : ℕ) → n < 2 ^ bits w → fits_signed w (cast_signed w n) ≡ true
  pub small : (z : ℤ) → fits_signed w z ≡ true → cast_unsigned w z < 2 ^ bits w
  pub back : (z : ℤ) → fits_signed w z ≡ true → cast_signed w (cast_unsigned w z) ≡ z

fitting : (w : Width) (z : ℤ) → fits_signed w z ≡ true → SFits w z
fitting w (pos n) h = record { sfits = ltb-true n (2 ^ hbits w) h }
fitting w (negsuc n) h = record { sfits = ltb-true n (2 ^ hbits w) h }

made_from : (w : Width) (n : ℕ) → 2 ^ bits w ≡ 2 ^ hbits w + 2 ^ hbits w → n < 2 ^ bits w → (b : Bool) → ltb n (2 ^ hbits w) ≡ b →
    fits_signed w (cond b (pos n) (negsuc (2 ^ bits w - suc n))) ≡ true
made_from w n half lt true e = e
made_from w n half lt false e = lt-ltb (2 ^ bits w - suc n) (2 ^ hbits w) (omega (arith, ltb-false n (2 ^ hbits w) e))

small_from : (w : Width) (z : ℤ) → 2 ^ bits w ≡ 2 ^ hbits w + 2 ^ hbits w → fits_signed w z ≡ true → cast_unsigned w z < 2 ^ bits w
small_from w (pos n) half h = omega (arith, ltb-true n (2 ^ hbits w) h)
small_from w (negsuc n) half h = omega (arith, ltb-true n (2 ^ hbits w) h)

signed_wide_from : (w : Width) → 2 ^ bits w ≡ 2 ^ hbits w + 2 ^ hbits w → IsSignedWide w
signed_wide_from w half = record {
  made = λ n lt. made_from w n half lt (ltb n (2 ^ hbits w)) refl;
  small = λ z h. small_from w z half h;
  back = λ z h. to_z-of_z w z (fitting w z h);
}

pub signed_wide32 : IsSignedWide w32
signed_wide32 = signed_wide_from w32 refl

pub signed_wide64 : IsSignedWide w64
signed_wide64 = signed_wide_from w64 refl

signed_takes : (w : Width) (test : ℤ → Bool) → IsWide w → IsSignedWide w → (bytes : List ℕ) (at : ℕ) (x : ℤ) (after : ℕ) → IsBytes bytes → at ≤ length bytes
    → (signed_number w test).reads bytes at ≡ Ok (x, after) → Taken (signed_number w test) bytes at x after
signed_takes w test wide whole bytes at x after fits le e =
    let b = bind_ok ((number w (λ n. test (cast_signed w n))).reads bytes at) (λ y. Ok (cast_signed w y.0, y.1)) (x, after) e in
    let n : ℕ = b.0.0 in
    let t = number_takes Limit w (λ m. test (cast_signed w m)) wide bytes at n b.0.1 fits le b.1 in
    let parts = and_parts (ltb n (2 ^ bits w)) (test (cast_signed w n)) t.fits in
    let lt : n < 2 ^ bits w = ltb-true n (2 ^ bits w) parts.0 in
    let spelled_as : to_le_bytes w (cast_unsigned w (cast_signed w n)) ≡ to_le_bytes w n = ap (to_le_bytes w) (of_z-to_z w n lt) in
    let both_fit : (fits_signed w (cast_signed w n) && test (cast_signed w n)) ≡ true = and_from _ _ (whole.made n lt) parts.1 in
    let found : Taken (signed_number w test) bytes at (cast_signed w n) b.0.1 = record {
      fits = both_fit;
      spelled = rw spelled_as t.spelled;
      end = rw spelled_as t.end;
      within = t.within;
    } in
    subst (λ (p : ℤ × ℕ). Taken (signed_number w test) bytes at p.0 p.1) (ok_is (cast_signed w n, b.0.1) (x, after) b.2) found

signed_again : (w : Width) (test : ℤ → Bool) → IsWide w → IsSignedWide w → (bytes : List ℕ) (at : ℕ) (x : ℤ) (rest : List ℕ) → at ≤ length bytes
    → (signed_number w test).fits x ≡ true → drop at bytes ≡ (signed_number w test).spelling x ++ rest →
    (signed_number w test).reads bytes at ≡ Ok (x, at + length ((signed_number w test).spelling x))
signed_again w test wide whole bytes at x rest le fits h =
    let parts = and_parts (fits_signed w x) (test x) fits in
    let back : cast_signed w (cast_unsigned w x) ≡ x = whole.back x parts.0 in
    let number_fits : (ltb (cast_unsigned w x) (2 ^ bits w) && test (cast_signed w (cast_unsigned w x))) ≡ true =
    and_from _ _ (lt-ltb _ _ (whole.small x parts.0)) (rw back parts.1) in
    let r : (number w (λ n. test (cast_signed w n))).reads bytes at ≡ Ok (cast_unsigned w x, at + length (to_le_bytes w (cast_unsigned w x))) =
    number_again Limit w (λ n. test (cast_signed w n)) wide bytes at (cast_unsigned w x) rest le number_fits h in
    ap (λ (y : Result (ℕ × ℕ) Refusal). y >>= λ p. Ok (cast_signed w p.0, p.1)) r
    ∙ ap (λ (z : ℤ). Ok (z, at + length (to_le_bytes w (cast_unsigned w x)))) back

pub signed_law : (w : Width) (test : ℤ → Bool) → IsWide w → IsSignedWide w → IsLawful (signed_number w test)
signed_law w test wide whole = record { takes = signed_takes w test wide whole; again = signed_again w test wide whole }

-- ---- one after the other

both_takes : {A B : Type 0} (first : Format A) (second : A → Format B) → IsLawful first → ((a : A) → IsLawful (second a)) →
    (bytes : List ℕ) (at : ℕ) (x : A × B) (after : ℕ) → IsBytes bytes → at ≤ length bytes
    → (both first second).reads bytes at ≡ Ok (x, after) → Taken (both first second) bytes at x after
both_takes {A} {B} first second l m bytes at x after fits le e =
    let p = bind_ok (first.reads bytes at) (λ a. (second a.0).reads bytes a.1 >>= λ b. Ok ((a.0, b.0), b.1)) (x, after) e in
    let a : A = p.0.0 in
    let t = l.takes bytes at a p.0.1 fits le p.1 in
    let q = bind_ok ((second a).reads bytes p.0.1) (λ b. Ok ((a, b.0), b.1)) (x, after) p.2 in
    let b : B = q.0.0 in
    let u = (m a).takes bytes p.0.1 b q.0.1 fits t.within q.1 in
    let s : List ℕ = first.spelling a in
    let s' : List ℕ = (second a).spelling b in
    let found : Taken (both first second) bytes at (a, b) q.0.1 = record {
      fits = and_from _ _ t.fits u.fits;
      spelled = t.spelled ∙ ap (λ (r : List ℕ). s ++ r) u.spelled ∙ sym (append_assoc s s' (drop q.0.1 bytes));
      end = omega (arith, t.end, u.end, length-append s s');
      within = u.within;
    } in
    subst (λ (y : (A × B) × ℕ). Taken (both first second) bytes at y.0 y.1) (ok_is ((a, b), q.0.1) (x, after) q.2) found

both_again : {A B : Type 0} (first : Format A) (second : A → Format B) → IsLawful first → ((a : A) → IsLawful (second a)) →
    (bytes : List ℕ) (at : ℕ) (x : A × B) (rest : List ℕ) → at ≤ length bytes
    → (both first second).fits x ≡ true → drop at bytes ≡ (both first second).spelling x ++ rest →
    (both first second).reads bytes at ≡ Ok (x, at + length ((both first second).spelling x))
both_again first second l m bytes at x rest le fits h =
    let s : List ℕ = first.spelling x.0 in
    let s' : List ℕ = (second x.0).spelling x.1 in
    let parts = and_parts (first.fits x.0) ((second x.0).fits x.1) fits in
    let here : drop at bytes ≡ s ++ (s' ++ rest) = h ∙ append_assoc s s' rest in
    let r = l.again bytes at x.0 (s' ++ rest) le parts.0 here in
    let r' = (m x.0).again bytes (at + length s) x.1 rest (behind_within bytes at s (s' ++ rest) le here) parts.1 (behind bytes at s (s' ++ rest) here) in
    let end : at + length s + length s' ≡ at + length (s ++ s') = omega (arith, length-append s s') in
    rw (r, r', end) refl

pub both_law : {A B : Type 0} (first : Format A) (second : A → Format B) → IsLawful first → ((a : A) → IsLawful (second a)) → IsLawful (both first second)
both_law first second l m = record { takes = both_takes first second l m; again = both_again first second l m }

-- ---- other names

named_takes : {A B : Type 0} (to : A → B) (from : B → A) (format : Format A) → ((x : A) → format.fits x ≡ true → from (to x) ≡ x) → IsLawful format →
    (bytes : List ℕ) (at : ℕ) (y : B) (after : ℕ) → IsBytes bytes → at ≤ length bytes
    → (named to from format).reads bytes at ≡ Ok (y, after) → Taken (named to from format) bytes at y after
named_takes {A} {B} to from format there l bytes at y after fits le e =
    let p = bind_ok (format.reads bytes at) (λ x. Ok (to x.0, x.1)) (y, after) e in
    let x : A = p.0.0 in
    let t = l.takes bytes at x p.0.1 fits le p.1 in
    let same : from (to x) ≡ x = there x t.fits in
    let found : Taken (named to from format) bytes at (to x) p.0.1 = record {
      fits = ap format.fits same ∙ t.fits;
      spelled = t.spelled ∙ ap (λ (z : A). format.spelling z ++ drop p.0.1 bytes) (sym same);
      end = t.end ∙ ap (λ (z : A). at + length (format.spelling z)) (sym same);
      within = t.within;
    } in
    subst (λ (z : B × ℕ). Taken (named to from format) bytes at z.0 z.1) (ok_is (to x, p.0.1) (y, after) p.2) found

named_again : {A B : Type 0} (to : A → B) (from : B → A) (format : Format A) → ((y : B) → to (from y) ≡ y) → IsLawful format →
    (bytes : List ℕ) (at : ℕ) (y : B) (rest : List ℕ) → at ≤ length bytes
    → (named to from format).fits y ≡ true → drop at bytes ≡ (named to from format).spelling y ++ rest →
    (named to from format).reads bytes at ≡ Ok (y, at + length ((named to from format).spelling y))
named_again to from format back l bytes at y rest le fits h =
    rw (l.again bytes at (from y) rest le fits h, back y) refl

pub named_law : {A B : Type 0} (to : A → B) (from : B → A) (format : Format A) → ((x : A) → format.fits x ≡ true → from (to x) ≡ x) →
    ((y : B) → to (from y) ≡ y) → IsLawful format → IsLawful (named to from format)
named_law to from format there back l = record { takes = named_takes to from format there l; again = named_again to from format back l }

-- ---- a field that is not always there

absent_law : (absent : ℕ) (format : Format ℕ) → IsLawful (only_if false absent format)
absent_law absent format = record {
  takes = λ bytes at x after fits le e.
      let found : Taken (only_if false absent format) bytes at absent at = record {
        fits = eq-eqb absent absent refl;
        spelled = refl;
        end = omega arith;
        within = le;
      } in
      subst (λ (y : ℕ × ℕ). Taken (only_if false absent format) bytes at y.0 y.1) (ok_is (absent, at) (x, after) e) found;
  again = λ bytes at x rest le fits h.
      let same : absent ≡ x = sym (eqb-true x absent fits) in
      let end : at ≡ at + 0 = omega arith in
      ap (λ (n : ℕ). ok_of (n, at)) same ∙ ap (λ (n : ℕ). ok_of (x, n)) end;
}

pub only_if_law : (test : Bool) (absent : ℕ) (format : Format ℕ) → IsLawful format → IsLawful (only_if test absent format)
only_if_law true absent format law = record { takes = law.takes; again = law.again }
only_if_law false absent format law = absent_law absent format

-- ---- many in an order

many_takes : {A : Type 0} (format : ℕ → Format A) (next : A → ℕ) → ((k : ℕ) → IsLawful (format k)) →
    (count least : ℕ) (bytes : List ℕ) (at : ℕ) (xs : List A) (after : ℕ) → IsBytes bytes → at ≤ length bytes
    → many_read format next least count bytes at ≡ Ok (xs, after) → Taken (ordered least format next count) bytes at xs after
unfolding many_read many_spelling many_fit
many_takes {A} format next l zero least bytes at xs after fits le e =
    subst (λ (y : List A × ℕ). Taken (ordered least format next zero) bytes at y.0 y.1) (ok_is ([], at) (xs, after) e)
    (record { fits = refl; spelled = refl; end = omega arith; within = le })
many_takes {A} format next l (suc n) least bytes at xs after fits le e =
    let p = bind_ok ((format least).reads bytes at) (λ first. many_read format next (next first.0) n bytes first.1 >>= λ others.
    Ok (first.0 ∷ others.0, others.1)) (xs, after) e in
    let x : A = p.0.0 in
    let t = (l least).takes bytes at x p.0.1 fits le p.1 in
    let q = bind_ok (many_read format next (next x) n bytes p.0.1) (λ others. Ok (x ∷ others.0, others.1)) (xs, after) p.2 in
    let ys : List A = q.0.0 in
    let u = many_takes format next l n (next x) bytes p.0.1 ys q.0.1 fits t.within q.1 in
    let s : List ℕ = (format least).spelling x in
    let s' : List ℕ = many_spelling format next (next x) ys in
    let found : Taken (ordered least format next (suc n)) bytes at (x ∷ ys) q.0.1 = record {
      fits = and_from _ _ t.fits u.fits;
      spelled = t.spelled ∙ ap (λ (r : List ℕ). s ++ r) u.spelled ∙ sym (append_assoc s s' (drop q.0.1 bytes));
      end = omega (arith, t.end, u.end, length-append s s');
      within = u.within;
    } in
    subst (λ (y : List A × ℕ). Taken (ordered least format next (suc n)) bytes at y.0 y.1) (ok_is (x ∷ ys, q.0.1) (xs, after) q.2) found

many_again : {A : Type 0} (format : ℕ → Format A) (next : A → ℕ) → ((k : ℕ) → IsLawful (format k)) →
    (count least : ℕ) (bytes : List ℕ) (at : ℕ) (xs : List A) (rest : List ℕ) → at ≤ length bytes
    → many_fit format next least count xs ≡ true → drop at bytes ≡ many_spelling format next least xs ++ rest →
    many_read format next least count bytes at ≡ Ok (xs, at + length (many_spelling format next least xs))
unfolding many_read many_spelling many_fit
many_again format next l zero least bytes at [] rest le fits h = let here : at ≡ at + 0 = omega arith in ap (λ (k : ℕ). Ok ([], k)) here
many_again format next l zero least bytes at (x ∷ xs) rest le fits h = absurd cc
many_again format next l (suc n) least bytes at [] rest le fits h = absurd cc
many_again format next l (suc n) least bytes at (x ∷ xs) rest le fits h =
    let s : List ℕ = (format least).spelling x in
    let s' : List ℕ = many_spelling format next (next x) xs in
    let parts = and_parts ((format least).fits x) (many_fit format next (next x) n xs) fits in
    let here : drop at bytes ≡ s ++ (s' ++ rest) = h ∙ append_assoc s s' rest in
    let r = (l least).again bytes at x (s' ++ rest) le parts.0 here in
    let r' = many_again format next l n (next x) bytes (at + length s) xs rest (behind_within bytes at s (s' ++ rest) le here) parts.1
    (behind bytes at s (s' ++ rest) here) in
    let end : at + length s + length s' ≡ at + length (s ++ s') = omega (arith, length-append s s') in
    rw (r, r', end) refl

pub ordered_law : {A : Type 0} (least : ℕ) (format : ℕ → Format A) (next : A → ℕ) (count : ℕ) → ((k : ℕ) → IsLawful (format k)) →
    IsLawful (ordered least format next count)
ordered_law least format next count l = record { takes = many_takes format next l count least; again = many_again format next l count least }
