-- What the rules on programs say of a thread's entry.
use Rattle.std.proofs.Common.{ℕ, zero, suc, ◌≡◌, ◌+◌, ◌<◌, true, false, List, [], ◌∷◌, map, Some, None, refl, ap, subst, arith}
use Rattle.std.specs.Prelude.{flat_map, int_lt, pos, slice_get}
use Rattle.std.specs.List.{Contains, enumerate_from, range_with_len}
use Rattle.std.proofs.lemmas.Bool.{not-false}
use Rattle.std.proofs.lemmas.Option.{none-some, same_Some}
use Rattle.soundness.proofs.Laws.{kept-before, kept-behind, kept-of, not-refused, range-at}
use Rattle.model.specs.Acceptance.Accepted.{AreKept}
use Rattle.model.specs.Acceptance.Measures.{measured}
use Rattle.model.specs.Acceptance.NotedStates.{PointState, are_same_slots, has_stray_slots, image_slots}
use Rattle.model.specs.Acceptance.PointRules.{entry_rules, point_rules, rules_of_noted, rules_of_program, starts_within, state_rules}
use Rattle.model.specs.Acceptance.PointStates.{Noted, Known, Missing, Unmeasured, noted}
use Rattle.model.specs.Acceptance.Rules.{Rule}
use Rattle.model.specs.Images.Described.{Numbered, numbered_threads, start_registers}
use Rattle.model.specs.Images.Image.{Image, Thread}
use Rattle.headline.proofs.starts.ListFacts.{contained}

-- ---- the rules of a thread, and of one of its points

pub point-kept : (image : Image) (t : Numbered) (point : ℕ) → AreKept (rules_of_program image t) → point < t.thread.header.words →
    AreKept (point_rules image t point)
unfolding rules_of_program
point-kept image t point kept less =
    kept-of (point_rules image t) (range_with_len 0 t.thread.header.words)
    (kept-behind (entry_rules image t (noted image t t.thread.header.entry)) (flat_map (point_rules image t) (range_with_len 0 t.thread.header.words)) kept)
    point point (range-at t.thread.header.words point less)

-- ---- a point

pub none-stray : (image : Image) (t : Numbered) (point : ℕ) (state : PointState) → AreKept (point_rules image t point) → noted image t point ≡ Known state →
    has_stray_slots image t.thread point state ≡ false
unfolding point_rules state_rules
none-stray image t point state kept is =
    let rules : AreKept (state_rules image t point state) = subst (λ (n : Noted). AreKept (rules_of_noted image t point n)) is kept in
    not-refused _ _ (rules 2 None (omega arith))

-- ---- the entry

-- what is known of it
pub record EntryKept (image : Image) (t : Numbered) : Type 0 where
  pub state : PointState
  pub known : noted image t t.thread.header.entry ≡ Known state
  pub within : starts_within t.thread state ≡ true
  pub slots : are_same_slots state.slots (image_slots image t.thread) ≡ true
  pub budget : int_lt (pos t.thread.header.budget) (measured state.measure (start_registers t.thread)) ≡ false

by-noted : (image : Image) (t : Numbered) (n : Noted) → noted image t t.thread.header.entry ≡ n → AreKept (entry_rules image t n) → EntryKept image t
by-noted image t (Known state) is kept = record {
  state = state;
  known = is;
  within = not-false _ (not-refused _ _ (kept 0 None (omega arith)));
  slots = not-false _ (not-refused _ _ (kept 1 None (omega arith)));
  budget = not-refused _ _ (kept 2 None (omega arith));
}
by-noted image t Missing is kept = absurd (let clash : ◌≡◌ {A = Rule} (Some _) None = kept 0 None (omega arith) in cc)
by-noted image t Unmeasured is kept = absurd (let clash : ◌≡◌ {A = Rule} (Some _) None = kept 0 None (omega arith) in cc)

pub entry-kept : (image : Image) (t : Numbered) → AreKept (rules_of_program image t) → EntryKept image t
unfolding rules_of_program
entry-kept image t kept =
    by-noted image t (noted image t t.thread.header.entry) refl
    (kept-before (entry_rules image t (noted image t t.thread.header.entry)) (flat_map (point_rules image t) (range_with_len 0 t.thread.header.words)) kept)

-- ---- the thread's number

pub numbered-thread : (image : Image) (t : Numbered) → Contains (numbered_threads image) t → (k : ℕ) × (slice_get image.threads k ≡ Some t.thread)
numbered-thread image t there = let place = contained (numbered_threads image) t there in (place.0, of-number 0 image.threads place.0 place.1)
  where
    of-number : (from : ℕ) (ts : List Thread) (k : ℕ) →
        slice_get (map (λ u. let n : Numbered = record { number = u.0; thread = u.1 } in n) (enumerate_from from ts)) k ≡ Some t →
        slice_get ts k ≡ Some t.thread
    of-number from [] k at = absurd (none-some t at)
    of-number from (u ∷ us) zero at = ap (λ (n : Numbered). Some n.thread) (same_Some _ t at)
    of-number from (u ∷ us) (suc k) at = of-number (from + 1) us k at
