-- Each range that is read has a value: its low end is not above its high end.
use Rattle.std.proofs.Common.{◌≡◌, ℕ, zero, suc, ◌+◌, ◌-◌, ◌^◌, ◌≤◌, Bool, true, false, ltb, ◌&&◌, ◌||◌, All, List, [], ◌∷◌, length, is_ok, Result, Ok, Err}
use Rattle.std.proofs.Common.{refl, sym, ap, subst, ◌∙◌, arith}
use Rattle.std.specs.Int.{w32, byte_len}
use Rattle.std.specs.Prelude.{nat_le, nat_lt}
use Rattle.std.proofs.lemmas.Bool.{and_parts, leb-true}
use Rattle.std.proofs.lemmas.List.Elements.{All-cons, All-nil}
use Rattle.model.specs.declared.entries.RangeEntry.{RangeEntry}
use Rattle.model.specs.declared.refusals.Refusal.{Refusal}
use Rattle.model.specs.declared.refusals.Refusal.TheVariants.{Limit, Truncated}
use Rattle.model.specs.Images.Format.{◌>>=◌, end_of, field, many_read, number_at, values_of}
use Rattle.model.specs.Images.Image.{anything, between, range_format, ranges_format}
use Rattle.image_reading.proofs.EntryLists.{all_read}
use Rattle.image_reading.proofs.FormatLaws.{bind_ok, guard_ok, ok_is, test_ok}

-- a number that is read passes its test
passed : (test : ℕ → Bool) (bytes : List ℕ) (at : ℕ) (x : ℕ × ℕ) → (field test).reads bytes at ≡ Ok x → test x.0 ≡ true
passed test bytes at x h =
    let g = guard_ok (nat_lt (length bytes - at) (byte_len w32)) (Truncated at) _ x h in
    let t = test_ok (test (number_at w32 bytes at)) (Limit at) (number_at w32 bytes at, at + byte_len w32) x g.1 in
    subst (λ (n : ℕ). test n ≡ true) (ap (λ (p : ℕ × ℕ). p.0) t.1) t.0

-- what a range is read from
abbrev entry_of : ℕ × (ℕ × ℕ) → RangeEntry
entry_of x = record { register = x.0; low = x.1.0; high = x.1.1 }

range_read : (least : ℕ) (bytes : List ℕ) (at : ℕ) (e : RangeEntry × ℕ) → (range_format least).reads bytes at ≡ Ok e → e.0.low ≤ e.0.high
unfolding range_format
range_read least bytes at e h =
    let all = bind_ok _ (λ (x : (ℕ × (ℕ × ℕ)) × ℕ). Ok (entry_of x.0, x.1)) e h in
    let first = bind_ok ((field (between least 31)).reads bytes at) _ all.0 all.1 in
    let rest = bind_ok _ (λ (b : (ℕ × ℕ) × ℕ). Ok ((first.0.0, b.0), b.1)) all.0 first.2 in
    let second = bind_ok ((field anything).reads bytes first.0.1) _ rest.0 rest.1 in
    let low : ℕ = second.0.0 in
    let third = bind_ok _ (λ (b : ℕ × ℕ). Ok ((low, b.0), b.1)) rest.0 second.2 in
    let high : ℕ = third.0.0 in
    let test = passed (λ n. nat_le low n && (nat_lt 0 low || nat_lt n (2 ^ 32 - 1))) bytes second.0.1 third.0 third.1 in
    let least_first : low ≤ high = leb-true low high (and_parts (nat_le low high) (nat_lt 0 low || nat_lt high (2 ^ 32 - 1)) test).0 in
    let pair : (low, high) ≡ rest.0.0 = ap (λ (p : (ℕ × ℕ) × ℕ). p.0) (ok_is ((low, high), third.0.1) rest.0 third.2) in
    let triple : (first.0.0, rest.0.0) ≡ all.0.0 = ap (λ (p : (ℕ × (ℕ × ℕ)) × ℕ). p.0) (ok_is ((first.0.0, rest.0.0), rest.0.1) all.0 rest.2) in
    let whole : entry_of all.0.0 ≡ e.0 = ap (λ (p : RangeEntry × ℕ). p.0) (ok_is (entry_of all.0.0, all.0.1) e all.2) in
    let is : entry_of (first.0.0, (low, high)) ≡ e.0 =
    ap (λ (p : ℕ × ℕ). entry_of (first.0.0, p)) pair ∙ ap entry_of triple ∙ whole in
    subst (λ (x : RangeEntry). x.low ≤ x.high) is least_first

ranges_read : (count least : ℕ) (bytes : List ℕ) (at : ℕ) (xs : List RangeEntry) (e : ℕ) →
    many_read range_format (λ x. x.register + 1) least count bytes at ≡ Ok (xs, e)
    → All (λ x. x.low ≤ x.high) xs
unfolding many_read
ranges_read zero least bytes at xs e h =
    subst (λ (ys : List RangeEntry). All (λ x. x.low ≤ x.high) ys) (ap (λ (y : List RangeEntry × ℕ). y.0) (ok_is ([], at) (xs, e) h))
    (All-nil (λ (x : RangeEntry). x.low ≤ x.high))
ranges_read (suc n) least bytes at xs e h =
    let p = bind_ok ((range_format least).reads bytes at) (λ first. many_read range_format (λ x. x.register + 1) (first.0.register + 1) n bytes first.1
    >>= λ others. Ok (first.0 ∷ others.0, others.1)) (xs, e) h in
    let q = bind_ok (many_read range_format (λ x. x.register + 1) (p.0.0.register + 1) n bytes p.0.1) (λ others. Ok (p.0.0 ∷ others.0, others.1)) (xs, e) p.2 in
    let rest = ranges_read n (p.0.0.register + 1) bytes p.0.1 q.0.0 q.0.1 q.1 in
    subst (λ (ys : List RangeEntry). All (λ x. x.low ≤ x.high) ys) (ap (λ (y : List RangeEntry × ℕ). y.0) (ok_is (p.0.0 ∷ q.0.0, q.0.1) (xs, e) q.2))
    (All-cons (λ (x : RangeEntry). x.low ≤ x.high) p.0.0 q.0.0 (range_read least bytes at p.0 p.1) rest)

-- of the ranges that a record lists
pub listed_ranges : (count : ℕ) (bytes : List ℕ) (at : ℕ) → is_ok (end_of ((ranges_format count).reads bytes at)) ≡ true →
    All (λ x. x.low ≤ x.high) (values_of ((ranges_format count).reads bytes at))
unfolding ranges_format
listed_ranges count bytes at h =
    let all = all_read (many_read range_format (λ x. x.register + 1) 1 count bytes at) h in
    ranges_read count 1 bytes at (values_of (many_read range_format (λ x. x.register + 1) 1 count bytes at)) all.0 all.1
