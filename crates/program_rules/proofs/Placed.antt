-- What is kept of the points of a program, as points are put behind.
use Rattle.std.proofs.Common.{ℕ, ℤ, zero, suc, ◌≡◌, ◌≢◌, ◌∙◌, ◌⊎◌, ◌+◌, ◌-◌, ◌^◌, ◌<◌, ◌≤◌, ◌++◌, pos, negsuc, inl, inr, true, false, Option, Some, None}
use Rattle.std.proofs.Common.{is_some, IfSome, List, [], ◌∷◌, length, refl, sym, ap, subst, arith}
use Rattle.std.proofs.lemmas.List.{get_or_default, length-append, same_lists}
use Rattle.std.proofs.lemmas.Int.{ints}
use Rattle.std.specs.Prelude.{◌≤ℤ◌, slice_get, slice_index_or}
use Rattle.measure.specs.Measures.{measure_of}
use Rattle.model.specs.Acceptance.Measures.{Measure}
use Rattle.model.specs.Acceptance.NotedStates.{NotedSlot, PointState, record_measure, record_of, record_ranges, record_state}
use Rattle.model.specs.Acceptance.PointStates.{Noted, Known, Missing, Unmeasured, instruction_at, noted, noted_or}
use Rattle.model.specs.Images.Described.{Numbered}
use Rattle.model.specs.Images.Image.{Image, StateRecord, Thread}
use Rattle.model.specs.Acceptance.Ranges.{AreWithin, IsWithin, full, single, with_range}
use Rattle.model.specs.Kernel.Messages.{a0, a1, word_registers}
use Rattle.model.specs.declared.instructions.Instr.TheVariants.{Ecall}
use Rattle.model.specs.declared.ranges.Range.{Range}
use Rattle.program_rules.proofs.EachPoint.{noted-is}
use Rattle.program_rules.specs.Kept.{AreKept, AreOne, IsAt, IsBehindCall, IsCalled, IsInRecord, IsKeptAt, IsNextAt, IsPlain, IsRecorded, IsSound, IsWhole, Kept}
use Rattle.program_rules.specs.Kept.{KeepsAll, Leads, before as states_before, has_state, is_known_at, is_step, measure_behind, ranges_behind}
use Rattle.program_rules.specs.Kept.{state_by, wide}
use Rattle.program_rules.specs.declared.places.CalledPoint.{CalledPoint}
use Rattle.program_rules.specs.declared.at_points.AtPoint.TheVariants as kept
use Rattle.program_rules.specs.declared.kept.Known.{Known as State}
use Rattle.program_rules.specs.declared.kept_points.KeptPoints.{KeptPoints}
use Rattle.program_rules.specs.declared.places.Place.TheVariants as place
use Rattle.program_rules.specs.declared.places.Place.{Place}
use Rattle.program_rules.specs.declared.places.RecordedPoint.{RecordedPoint}
use Rattle.typestate.specs.Logs.{Holds, part_of}
use Rattle.typestate.specs.Replays.{replayed}
use Rattle.typestate.specs.Strays.{NoneStray}
use Rattle.typestate.specs.declared.behind.Written.TheVariants as written
use Rattle.typestate.specs.declared.behind.Written.{Written}
use Rattle.typestate.specs.declared.log_entries.LogEntry.{LogEntry}
use Rattle.typestate.specs.declared.logs.Part.{Part}
use Rattle.ranges.proofs.Laws.{with-long}
use Rattle.thread_spaces.proofs.Laws.{known-noted, words-long}

-- ---- ranges of 31 registers

known-long : (image : Image) (t : Numbered) (point : ℕ) (state : PointState) → noted image t point ≡ Known state → length state.ranges ≡ 31
known-long image t point state known = (known-noted (λ _. Unit {0}) image t (λ _. tt) (λ _ _ _. tt) point state known).long

-- ---- lists that grow

pub pushed : {A : Type 0} (xs : List A) (x : A) (point : ℕ) (k : A) → slice_get (xs ++ x ∷ []) point ≡ Some k →
    (slice_get xs point ≡ Some k) ⊎ ((point ≡ length xs) × (k ≡ x))
pushed {A} [] x zero k h = inr (refl, let same : ◌≡◌ {A = Option A} (Some x) (Some k) = h in sym (let is : x ≡ k = cc same in is))
pushed {A} [] x (suc point) k h = absurd (let clash : ◌≡◌ {A = Option A} None (Some k) = h in cc)
pushed (y ∷ xs) x zero k h = inl h
pushed (y ∷ xs) x (suc point) k h = elim (pushed xs x point k h) [
  | inl known ↦ inl known
  | inr here ↦ inr (ap suc here.0, here.1)
]

-- there is an element
pub got-inside : {A : Type 0} (xs : List A) (at : ℕ) (k : A) → slice_get xs at ≡ Some k → at < length xs
got-inside {A} [] at k h = absurd (let clash : ◌≡◌ {A = Option A} None (Some k) = h in cc)
got-inside (x ∷ xs) zero k h = omega arith
got-inside (x ∷ xs) (suc at) k h = let less = got-inside xs at k h in omega (arith, less)

pub none-outside : {A : Type 0} (xs : List A) (at : ℕ) → slice_get xs at ≡ None → at < length xs → ⊥
none-outside [] at h less = omega (arith, less)
none-outside {A} (x ∷ xs) zero h less = let clash : ◌≡◌ {A = Option A} (Some x) None = h in cc
none-outside (x ∷ xs) (suc at) h less = none-outside xs at h (omega (arith, less))

last-got : {A : Type 0} (xs : List A) (x : A) (at : ℕ) (k : A) → at ≡ length xs → slice_get (xs ++ x ∷ []) at ≡ Some k → k ≡ x
last-got xs x at k last h = elim (pushed xs x at k h) [
  | inl known ↦ absurd (let less = got-inside xs at k known in omega (arith, less, last))
  | inr here ↦ here.1
]

last-inside : {A : Type 0} (xs : List A) (x : A) (at : ℕ) → at ≡ length xs → at < length (xs ++ x ∷ [])
last-inside xs x at last = let long = length-append xs (x ∷ []) in omega (arith, long, last)

-- what a list has, a longer one has at the same places
pub record IsLonger {A : Type 0} (xs ys : List A) : Type 0 where
  pub long : length xs ≤ length ys
  pub same : (at : ℕ) (k : A) → at < length xs → slice_get ys at ≡ Some k → slice_get xs at ≡ Some k

pub longer-same : {A : Type 0} (xs : List A) → IsLonger xs xs
longer-same xs = record { long = omega arith; same = λ at k less is. is }

pub longer-pushed : {A : Type 0} (xs ys : List A) (x : A) → ys ≡ xs ++ x ∷ [] → IsLonger xs ys
longer-pushed {A} xs ys x is = subst (IsLonger xs) (sym is) (record {
  long = let long = length-append xs (x ∷ []) in omega (arith, long);
  same = λ at k less got. elim (pushed xs x at k got) [
    | inl known ↦ known
    | inr here ↦ absurd (let last = here.0 in omega (arith, less, last))
  ];
})

pub all-kept : (old new : KeptPoints) → IsLonger old.whole.items new.whole.items → IsLonger old.recorded.items new.recorded.items →
    IsLonger old.called.items new.called.items
    → (image : Image) (t : Numbered) (slots : List NotedSlot) (log : List LogEntry) (point : ℕ) (p : Place) → IsAt image t slots log old point p →
    IsAt image t slots log new point p
all-kept old new whole recorded called image t slots log point place.Missing is = is
all-kept old new whole recorded called image t slots log point place.Unmeasured is = is
all-kept old new whole recorded called image t slots log point (place.Whole at) is =
    let inside = is.inside in
    let long = whole.long in
    record { inside = omega (arith, inside, long); known = is.known; kept = λ k got. is.kept k (whole.same at k is.inside got) }
all-kept old new whole recorded called image t slots log point (place.Recorded at) is =
    let inside = is.inside in
    let long = recorded.long in
    record { inside = omega (arith, inside, long); known = is.known; kept = λ r got. is.kept r (recorded.same at r is.inside got) }
all-kept old new whole recorded called image t slots log point (place.Clean at) is =
    let inside = is.inside in
    let long = recorded.long in
    record { inside = omega (arith, inside, long); known = is.known; kept = λ r got. is.kept r (recorded.same at r is.inside got) }
all-kept old new whole recorded called image t slots log point place.Plain is = is
all-kept old new whole recorded called image t slots log point (place.Called at) is =
    let inside = is.inside in
    let long = called.long in
    record {
      inside = omega (arith, inside, long);
      some = is.some;
      known = is.known;
      before = is.before;
      kept = λ last follows c got. is.kept last follows c (called.same at c is.inside got);
    }

-- ---- one state

pub one-kept : (image : Image) (t : Numbered) (slots : List NotedSlot) (log : List LogEntry) (point : ℕ) (k other : State) → AreOne k other →
    IsKeptAt image t slots log point (kept.Known other)
    → IsKeptAt image t slots log point (kept.Known k)
one-kept image t slots log point k other one is = record {
  same =
      let same : Known (state_by slots log k) ≡ Known (state_by slots log other) = λ i.
      Known (record { ranges = one.bounds i; slots = replayed slots (part_of log (one.part i)); measure = one.measure i }) in
      same ∙ is.same;
  sound = (subst (Holds log) (sym one.part) is.sound.0, subst (λ (m : Measure). negsuc (2 ^ 62 + point) ≤ℤ m.constant) (sym one.measure) is.sound.1);
  clean = λ clean. subst (λ (part : Part). NoneStray image t.thread (replayed slots (part_of log part))) (sym one.part) (is.clean (sym one.clean ∙ clean));
}

ranges_noted : Noted → List Range
ranges_noted (Known s) = s.ranges
ranges_noted Missing = []
ranges_noted Unmeasured = []

measure_noted : Measure → Noted → Measure
measure_noted m (Known s) = s.measure
measure_noted m Missing = m
measure_noted m Unmeasured = m

pub same-ranges : (s other : PointState) → Known s ≡ Known other → s.ranges ≡ other.ranges
unfolding ranges_noted
same-ranges s other same = ap ranges_noted same

pub same-measure : (s other : PointState) → Known s ≡ Known other → s.measure ≡ other.measure
unfolding measure_noted
same-measure s other same = ap (measure_noted s.measure) same

-- ---- what is kept of the next point

pub whole-at : (image : Image) (t : Numbered) (slots : List NotedSlot) (log : List LogEntry) (ks new : List State) (k : State) (point at : ℕ) → new ≡ ks
    ++ k ∷ [] → at ≡ length ks
    → IsKeptAt image t slots log point (kept.Known k) → IsWhole image t slots log new point at
whole-at image t slots log ks new k point at grown last is = subst (λ (all : List State). IsWhole image t slots log all point at) (sym grown) (record {
  inside = last-inside ks k at last;
  known = sym (ap has_state is.same);
  kept = λ other got. subst (λ (o : State). IsKeptAt image t slots log point (kept.Known o)) (sym (last-got ks k at other last got)) is;
})

recorded-state : (image : Image) (t : Numbered) (point : ℕ) (r : StateRecord) → record_of t.thread point ≡ Some r →
    noted image t point ≡ Known (record_state image t.thread r)
recorded-state image t point r has = noted-is image t point ∙ ap (λ (o : Option StateRecord). noted_or image t.thread o (states_before image t point)) has

record-has : (image : Image) (t : Thread) (r : StateRecord) → ((record_state image t r).ranges ≡ record_ranges r)
    × ((record_state image t r).measure ≡ record_measure r)
unfolding record_state
record-has image t r = (refl, refl)

pub record-at : (image : Image) (t : Numbered) (slots : List NotedSlot) (log : List LogEntry) (rs new : List RecordedPoint) (r : RecordedPoint)
    (e : StateRecord)
    (k : State) (point at : ℕ)
    → new ≡ rs ++ r ∷ [] → at ≡ length rs → record_of t.thread point ≡ Some e → slice_get r.from 0 ≡ Some e → wide r.part ≡ k.part →
    IsKeptAt image t slots log point (kept.Known k)
    → IsInRecord image t slots log new point at k.is_clean
record-at image t slots log rs new r e k point at grown last has first part is =
    let same : Known (state_by slots log k) ≡ Known (record_state image t.thread e) = is.same ∙ recorded-state image t point e has in
    let own = record-has image t.thread e in
    let bounds : k.bounds ≡ record_ranges e = same-ranges (state_by slots log k) (record_state image t.thread e) same ∙ own.0 in
    let measure : measure_of k.measure ≡ record_measure e = same-measure (state_by slots log k) (record_state image t.thread e) same ∙ own.1 in
    subst (λ (all : List RecordedPoint). IsInRecord image t slots log all point at k.is_clean) (sym grown) (record {
      inside = last-inside rs r at last;
      known = sym (ap has_state is.same);
      kept = λ other got state in_record.
          let so : IsRecorded r k.is_clean state = subst (λ (o : RecordedPoint). IsRecorded o k.is_clean state) (last-got rs r at other last got) in_record in
          one-kept image t slots log point state k
          (record { bounds = so.bounds e first ∙ sym bounds; measure = so.measure e first ∙ sym measure; part = so.part ∙ part; clean = so.clean }) is;
    })

pub call-at : (image : Image) (t : Numbered) (slots : List NotedSlot) (log : List LogEntry) (cs new : List CalledPoint) (c : CalledPoint) (last k : State)
    (point at budget : ℕ)
    → new ≡ cs ++ c ∷ [] → at ≡ length cs → 1 ≤ point → t.thread.header.budget ≡ budget → Leads budget c last k
    → ((before : ℕ) → before + 1 ≡ point → IsKeptAt image t slots log before (kept.Known last)) → IsKeptAt image t slots log point (kept.Known k)
    → IsBehindCall image t slots log new point at
call-at image t slots log cs new c last k point at budget grown ended some same leads lasts is =
    subst (λ (all : List CalledPoint). IsBehindCall image t slots log all point at) (sym grown) (record {
      inside = last-inside cs c at ended;
      some = some;
      known = sym (ap has_state is.same);
      before = λ before follows. sym (ap has_state (lasts before follows).same);
      kept = λ before follows other got s noted_s given next bounds measure called.
          let first : Known (state_by slots log last) ≡ Known s = (lasts before follows).same ∙ noted_s in
          let so : IsCalled budget c given next =
          subst (λ (b : ℕ). IsCalled b c given next) same
          (subst (λ (o : CalledPoint). IsCalled t.thread.header.budget o given next) (last-got cs c at other ended got) called) in
          let from : IsCalled budget c last next = record {
            bounds = so.bounds ∙ ap (ranges_behind c.written c.badge) (bounds ∙ sym (same-ranges (state_by slots log last) s first));
            measure = so.measure ∙ ap (measure_behind budget c.is_wait) (measure ∙ sym (same-measure (state_by slots log last) s first));
            part = so.part;
            clean = so.clean;
          } in
          one-kept image t slots log point next k
          (leads (known-long image t before (state_by slots log last) (sym (lasts before follows).same))
          (known-long image t point (state_by slots log k) (sym is.same)) next from) is;
    })

-- ---- a call between two states

behind-long : (w : Written) (badge : Range) (ranges : List Range) → length (ranges_behind w badge ranges) ≡ length ranges
behind-long written.Nothing badge ranges = refl
behind-long written.Badge badge ranges = with-long ranges a0 badge
behind-long written.Answer badge ranges = with-long (with_range ranges a0 (single 0)) a1 (single 0) ∙ with-long ranges a0 (single 0)
behind-long written.Message badge ranges = words-long word_registers (with_range (with_range ranges a0 badge) a1 full) []
    ∙ with-long (with_range ranges a0 badge) a1 full ∙ with-long ranges a0 badge

pub called-leads : (budget : ℕ) (c : CalledPoint) (before after made : State) → IsCalled budget c before made →
    (length made.bounds ≡ 31 → length after.bounds ≡ 31 → AreOne made after)
    → Leads budget c before after
called-leads budget c before after made is same = λ long_before long_after next so.
    let one = same (ap length is.bounds ∙ behind-long c.written c.badge before.bounds ∙ long_before) long_after in
    record {
      bounds = so.bounds ∙ sym is.bounds ∙ one.bounds;
      measure = so.measure ∙ sym is.measure ∙ one.measure;
      part = so.part ∙ sym is.part ∙ one.part;
      clean = so.clean ∙ sym is.clean ∙ one.clean;
    }

range-one : (r s : Range) → IsWithin r s → IsWithin s r → r ≡ s
range-one r s one other =
    let low : r.low ≡ s.low = let a = one.0 in let b = other.0 in omega (arith, a, b) in
    let high : r.high ≡ s.high = let a = one.1 in let b = other.1 in omega (arith, a, b) in
    λ i. record { low = low i; high = high i }

pub ranges-one : (xs ys : List Range) → AreWithin xs ys → AreWithin ys xs → length xs ≡ 31 → length ys ≡ 31 → xs ≡ ys
ranges-one xs ys one other first second = same_lists xs ys (first ∙ sym second) (λ k d less.
    let below : k < 31 = omega (arith, less, first) in
    let within : k < length ys = omega (arith, below, second) in
    get_or_default xs k d full less ∙ range-one (slice_index_or xs k full) (slice_index_or ys k full) (one k below) (other k below)
    ∙ sym (get_or_default ys k d full within))

-- ---- what is kept of each point

pub known-at : (image : Image) (t : Numbered) (slots : List NotedSlot) (log : List LogEntry) (ks : KeptPoints) (point : ℕ) (p : Place) →
    IsAt image t slots log ks point p → is_known_at p ≡ true
    → has_state (noted image t point) ≡ true
known-at image t slots log ks point place.Missing is known = absurd (let clash : false ≡ true = known in cc)
known-at image t slots log ks point place.Unmeasured is known = absurd (let clash : false ≡ true = known in cc)
known-at image t slots log ks point (place.Whole at) is known = is.known
known-at image t slots log ks point (place.Recorded at) is known = is.known
known-at image t slots log ks point (place.Clean at) is known = is.known
known-at image t slots log ks point place.Plain is known = is.known
known-at image t slots log ks point (place.Called at) is known = is.known

-- the next point is put behind
pub each-pushed : (image : Image) (t : Numbered) (slots : List NotedSlot) (log : List LogEntry) (old new : KeptPoints) (places : List Place) (p : Place)
    (point : ℕ)
    → new.places.items ≡ places ++ p ∷ [] → length places ≡ point →
    ((other : ℕ) (q : Place) → slice_get places other ≡ Some q → IsAt image t slots log old other q)
    → KeepsAll old new → IsAt image t slots log new point p → AreKept image t slots log new
each-pushed image t slots log old new places p point grown count each keeps is = record {
  each = λ other q got. elim (pushed places p other q (subst (λ (all : List Place). slice_get all other ≡ Some q) grown got)) [
    | inl known ↦ keeps image t slots log other q (each other q known)
    | inr here ↦ subst (λ (n : ℕ). IsAt image t slots log new n q) (sym (here.0 ∙ count)) (subst (IsAt image t slots log new point) (sym here.1) is)
  ];
}

-- the place of a point
pub some-place : {A : Type 0} (places : List A) (point : ℕ) (d : A) → point < length places → slice_get places point ≡ Some (slice_index_or places point d)
some-place [] point d less = absurd (omega (arith, less))
some-place (x ∷ xs) zero d less = refl
some-place (x ∷ xs) (suc point) d less = some-place xs point d (omega (arith, less))

-- ---- after a point

low : (point : ℕ) (m : ℤ) → point ≤ 2 ^ 32 → negsuc (2 ^ 62 + point) ≤ℤ m → negsuc (2 ^ 63 - 2) ≤ℤ m
low point (pos n) small least = grind (arith, ints)
low point (negsuc n) small least = grind (arith, ints, small, least)

pub in-range : (log : List LogEntry) (point : ℕ) (k : State) → point ≤ 2 ^ 32 → IsSound log point (kept.Known k) →
    negsuc (2 ^ 63 - 2) ≤ℤ (measure_of k.measure).constant
in-range log point k small sound = low point (measure_of k.measure).constant small sound.1

pub called-known : (image : Image) (t : Numbered) (slots : List NotedSlot) (log : List LogEntry) (cs : List CalledPoint) (point at : ℕ) (c : CalledPoint)
    (k : State) (made : Option State) (after : Kept)
    → IsBehindCall image t slots log cs (point + 1) at → slice_get cs at ≡ Some c → IsKeptAt image t slots log point (kept.Known k) → is_some made ≡ true
    → IfSome made (IsCalled t.thread.header.budget c k) → ((n : State) → made ≡ Some n → after ≡ kept.Known n) → IsKeptAt image t slots log (point + 1) after
called-known image t slots log cs point at c k None after step got here some called is = absurd (let clash : false ≡ true = some in cc)
called-known image t slots log cs point at c k (Some n) after step got here some called is =
    subst (IsKeptAt image t slots log (point + 1)) (sym (is n refl)) (step.kept point refl c got (state_by slots log k) (sym here.same) k n refl refl called)

-- neither an instruction nor a call leads to it
pub not-step : (p : Place) → (p ≡ place.Plain → ⊥) → ((at : ℕ) → p ≡ place.Called at → ⊥) → is_step p ≡ true → ⊥
not-step place.Missing plain called step = let clash : false ≡ true = step in cc
not-step place.Unmeasured plain called step = let clash : false ≡ true = step in cc
not-step (place.Whole at) plain called step = let clash : false ≡ true = step in cc
not-step (place.Recorded at) plain called step = let clash : false ≡ true = step in cc
not-step (place.Clean at) plain called step = let clash : false ≡ true = step in cc
not-step place.Plain plain called step = plain refl
not-step (place.Called at) plain called step = called at refl

-- a state that is kept whole is that of the next point
pub next-whole : (own : Thread) (new : KeptPoints) (last : Kept) (point : ℕ) (k : State) (p : Place)
    → ((image : Image) (t : Numbered) (slots : List NotedSlot) (log : List LogEntry) (n : ℕ) → IsKeptAt image t slots log n (kept.Known k) →
    IsAt image t slots log new n p)
    → IsNextAt own new last point (kept.Known k) p
next-whole own new last point k p whole = λ image t slots log same lasts is. whole image t slots log point is

-- an instruction leads to it
pub next-plain : (own : Thread) (new : KeptPoints) (last : Kept) (point : ℕ) (k : State) → 1 ≤ point → record_of own point ≡ None →
    (instruction_at own (point - 1) ≢ Some Ecall)
    → IsNextAt own new last point (kept.Known k) place.Plain
next-plain own new last point k some bare plain = λ image t slots log same lasts is. record {
  some = some;
  known = sym (ap has_state is.same);
  plain = λ before follows.
      let here : point ≡ before + 1 = sym follows in
      let there : point - 1 ≡ before = omega (arith, follows) in
      subst (λ (u : Thread). IsPlain u before) (sym same)
      (record { bare = subst (λ (n : ℕ). record_of own n ≡ None) here bare; plain = subst (λ (n : ℕ). instruction_at own n ≢ Some Ecall) there plain });
}

-- a call leads to it
pub next-called : (own : Thread) (new : KeptPoints) (last k : State) (cs : List CalledPoint) (c : CalledPoint) (point at : ℕ) → 1 ≤ point
    → new.called.items ≡ cs ++ c ∷ [] → at ≡ length cs → Leads own.header.budget c last k →
    IsNextAt own new (kept.Known last) point (kept.Known k) (place.Called at)
next-called own new last k cs c point at some grown ended leads = λ image t slots log same lasts is.
    call-at image t slots log cs new.called.items c last k point at own.header.budget grown ended some (ap (λ (u : Thread). u.header.budget) same) leads lasts
    is
