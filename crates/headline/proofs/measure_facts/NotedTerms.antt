-- The measure that is noted of a point names registers: a record's terms do by the format, and what follows from a point keeps them.
use Rattle.std.proofs.Common.{ℕ, zero, suc, ◌≡◌, ◌+◌, ◌≤◌, Bool, true, false, if◌then◌else◌, List, [], ◌∷◌, Option, Some, None, Result, Ok, Err, pos, refl}
use Rattle.std.proofs.Common.{subst, arith}
use Rattle.std.specs.Prelude.{find, slice_get}
use Rattle.std.specs.List.{All, list_any}
use Rattle.std.specs.Option.{option_map_or}
use Rattle.std.proofs.lemmas.Bool.{and_parts}
use Rattle.std.proofs.lemmas.List.Elements.{All-cons, All-nil}
use Rattle.std.proofs.lemmas.Option.{none-some}
use Rattle.model.specs.declared.entries.TermEntry.{TermEntry}
use Rattle.model.specs.declared.instructions.Instr.{Instr}
use Rattle.model.specs.declared.instructions.Instr.TheVariants.{Upper, Jal, Jalr, Branch, Load, Store, Immediate, Shift, Registers, Fence, Ecall, Ebreak}
use Rattle.model.specs.declared.refusals.Refusal.{Refusal}
use Rattle.model.specs.Acceptance.CallRules.{AfterCall}
use Rattle.model.specs.Acceptance.Edges.{Edge, after}
use Rattle.model.specs.Acceptance.Measures.{Measure, has_term, lowered}
use Rattle.model.specs.Acceptance.NotedStates.{PointState, record_of, record_state}
use Rattle.model.specs.Acceptance.PointStates.{Noted, Known, Missing, Unmeasured, address_of, call_at, follows, follows_call, follows_edge, follows_instruction}
use Rattle.model.specs.Acceptance.PointStates.{instruction_at, noted, noted_or, whole_budget, with_measure}
use Rattle.model.specs.Acceptance.RangeRules.{destination}
use Rattle.model.specs.Images.Described.{Numbered}
use Rattle.model.specs.Images.Format.{many_fit}
use Rattle.model.specs.Images.Image.{Image, StateRecord, Thread, image_with, record_format, record_header_format, ranges_format, records_format}
use Rattle.model.specs.Images.Image.{sections_format, slots_format, term_format, terms_format, registers_format, thread_format, thread_header_format}
use Rattle.model.specs.Images.Image.{whole_image, words_format}
use Rattle.format_laws.proofs.Laws.{field-between, many-each}
use Rattle.headline.specs.measure_facts.Terms.{NamesRegisters}
use Rattle.headline.proofs.measure_facts.MeasureValues.{IsTerm}

-- ---- the terms of records

term-fits : (least : ℕ) (t : TermEntry) → (term_format least).fits t ≡ true → 1 ≤ least → IsTerm t
unfolding term_format
term-fits least t is some =
    let bounds = field-between least 31 t.register (and_parts _ _ is).0 in
    (omega (arith, bounds.0, some), omega (arith, bounds.1))

-- each fits with a least register of 1 or more
terms-above : (least count : ℕ) (terms : List TermEntry) → many_fit term_format (λ e. e.register + 1) least count terms ≡ true → 1 ≤ least → All IsTerm terms
unfolding many_fit
terms-above least count [] is some = All-nil IsTerm
terms-above least zero (t ∷ ts) is some = absurd (let clash : false ≡ true = is in cc)
terms-above least (suc n) (t ∷ ts) is some =
    let parts = and_parts ((term_format least).fits t) (many_fit term_format (λ e. e.register + 1) (t.register + 1) n ts) is in
    All-cons IsTerm t ts (term-fits least t parts.0 some) (terms-above (t.register + 1) n ts parts.1 (omega arith))

record-terms : (objects words least : ℕ) (r : StateRecord) → (record_format (slots_format objects) words least).fits r ≡ true → All IsTerm r.terms
unfolding record_format terms_format
record-terms objects words least r is =
    let a = and_parts ((record_header_format (slots_format objects) words least).fits r.header) _ is in
    let b = and_parts ((ranges_format r.header.ranges).fits r.ranges) _ a.1 in
    let c = and_parts (((slots_format objects).entries r.header.slots).fits r.slots) _ b.1 in
    terms-above 1 r.header.terms r.terms c.1 (omega arith)

thread-terms : (version objects : ℕ) (t : Thread) → (thread_format (slots_format objects) version objects).fits t ≡ true → (k : ℕ) (r : StateRecord) →
    slice_get t.records k ≡ Some r → All IsTerm r.terms
unfolding thread_format records_format
thread-terms version objects t is k r at =
    let a = and_parts ((thread_header_format version objects).fits t.header) _ is in
    let b = and_parts ((registers_format t.header.registers).fits t.registers) _ a.1 in
    let c = and_parts ((words_format t.header.words).fits t.words) _ b.1 in
    let each = record_format (slots_format objects) t.header.words in
    let one = many-each each (λ r. r.header.point + 1) 0 t.header.records t.records c.1 k r at in
    record-terms objects t.header.words one.0 r one.1

image-terms : (image : Image) (k : ℕ) (t : Thread) → whole_image.fits image ≡ true → slice_get image.threads k ≡ Some t
    → (i : ℕ) (r : StateRecord) → slice_get t.records i ≡ Some r → All IsTerm r.terms
unfolding image_with sections_format
image-terms image k t is at =
    let whole = and_parts _ _ is in
    let h = image.header in
    thread-terms h.version h.objects t (many-each (λ _. thread_format (slots_format h.objects) h.version h.objects) (λ _. 0) 0 h.threads image.threads whole.1 k
    t at).1

-- ---- the record of a point

find-place : {A : Type 0} (p : A → Bool) (xs : List A) (x : A) → find p xs ≡ Some x → (k : ℕ) × (slice_get xs k ≡ Some x)
find-place p [] x is = absurd (none-some x is)
find-place {A} p (y ∷ ys) x is =
    elim (p y) as (λ b. (if b then Some y else find p ys) ≡ Some x → (k : ℕ) × (slice_get (y ∷ ys) k ≡ Some x)) [
      | true ↦ λ here. (0, here)
      | false ↦ λ behind. let rest = find-place p ys x behind in (suc rest.0, rest.1)
    ] is

-- ---- what follows

abbrev AreNamed : Noted → Type 0
AreNamed (Known s) = NamesRegisters s.measure
AreNamed Missing = Unit {0}
AreNamed Unmeasured = Unit {0}

call-named : (t : Thread) (m : Measure) (a : AfterCall) (wait written : Bool) → NamesRegisters m
    → AreNamed (if wait then with_measure a (whole_budget t) else if written then Unmeasured else with_measure a (lowered m (pos 1)))
call-named t m a true written are = All-nil IsTerm
call-named t m a false true are = tt
call-named t m a false false are = are

behind-named : (t : Thread) (m : Measure) (left : Option (Result AfterCall Refusal)) → NamesRegisters m → AreNamed (follows_call t m left)
behind-named t m None are = tt
behind-named t m (Some (Err refusal)) are = tt
behind-named t m (Some (Ok a)) are = call-named t m a a.is_wait (list_any (λ x. has_term m x.0) a.written) are

known-if : (s : PointState) (edge : Edge) (b : Bool) → NamesRegisters s.measure
    → AreNamed (if b then Unmeasured else Known (record { ranges = edge.ranges; slots = s.slots; measure = lowered s.measure (pos 1) }))
known-if s edge true are = tt
known-if s edge false are = are

edge-named : (instr : Instr) (s : PointState) (edge : Option Edge) → NamesRegisters s.measure → AreNamed (follows_edge instr s edge)
edge-named instr s None are = tt
edge-named instr s (Some edge) are = known-if s edge (option_map_or (λ rd. has_term s.measure rd.0) (destination instr) false) are

next-named : (image : Image) (t : Numbered) (point : ℕ) (s : PointState) (instr : Option Instr) → NamesRegisters s.measure →
    AreNamed (follows_instruction image t point s instr)
next-named image t point s None are = tt
next-named image t point s (Some Ecall) are = behind-named t.thread s.measure (call_at image t point s) are
next-named image t point s (Some (Upper op rd z)) are = edge-named (Upper op rd z) s (after (address_of t.thread point) (Upper op rd z) s.ranges).fall_through
    are
next-named image t point s (Some (Jal rd z)) are = edge-named (Jal rd z) s (after (address_of t.thread point) (Jal rd z) s.ranges).fall_through are
next-named image t point s (Some (Jalr rd rs1 z)) are = edge-named (Jalr rd rs1 z) s (after (address_of t.thread point) (Jalr rd rs1 z) s.ranges).fall_through
    are
next-named image t point s (Some (Branch op rs1 rs2 z)) are =
    edge-named (Branch op rs1 rs2 z) s (after (address_of t.thread point) (Branch op rs1 rs2 z) s.ranges).fall_through are
next-named image t point s (Some (Load op rd rs1 z)) are = edge-named (Load op rd rs1 z) s
    (after (address_of t.thread point) (Load op rd rs1 z) s.ranges).fall_through are
next-named image t point s (Some (Store op rs1 rs2 z)) are =
    edge-named (Store op rs1 rs2 z) s (after (address_of t.thread point) (Store op rs1 rs2 z) s.ranges).fall_through are
next-named image t point s (Some (Immediate op rd rs1 z)) are =
    edge-named (Immediate op rd rs1 z) s (after (address_of t.thread point) (Immediate op rd rs1 z) s.ranges).fall_through are
next-named image t point s (Some (Shift op rd rs1 n)) are = edge-named (Shift op rd rs1 n) s
    (after (address_of t.thread point) (Shift op rd rs1 n) s.ranges).fall_through are
next-named image t point s (Some (Registers op rd rs1 rs2)) are =
    edge-named (Registers op rd rs1 rs2) s (after (address_of t.thread point) (Registers op rd rs1 rs2) s.ranges).fall_through are
next-named image t point s (Some Fence) are = edge-named Fence s (after (address_of t.thread point) Fence s.ranges).fall_through are
next-named image t point s (Some Ebreak) are = edge-named Ebreak s (after (address_of t.thread point) Ebreak s.ranges).fall_through are

follows-named : (image : Image) (t : Numbered) (point : ℕ) (n : Noted) → AreNamed n → AreNamed (follows image t point n)
follows-named image t point (Known s) are = next-named image t point s (instruction_at t.thread point) are
follows-named image t point Missing are = tt
follows-named image t point Unmeasured are = tt

or-named : (image : Image) (t : Thread) (o : Option StateRecord) (otherwise : Noted) → ((r : StateRecord) → o ≡ Some r → All IsTerm r.terms) →
    AreNamed otherwise → AreNamed (noted_or image t o otherwise)
unfolding record_state
or-named image t (Some r) otherwise each are = each r refl
or-named image t None otherwise each are = are

noted-all : (image : Image) (t : Numbered) → ((i : ℕ) (r : StateRecord) → slice_get t.thread.records i ≡ Some r → All IsTerm r.terms) → (point : ℕ) →
    AreNamed (noted image t point)
unfolding noted
noted-all image t each zero =
    or-named image t.thread (record_of t.thread 0) Missing (λ r is. let place = find-place _ t.thread.records r is in each place.0 r place.1) tt
noted-all image t each (suc point) =
    or-named image t.thread (record_of t.thread (suc point)) (follows image t point (noted image t point))
    (λ r is. let place = find-place _ t.thread.records r is in each place.0 r place.1)
    (follows-named image t point (noted image t point) (noted-all image t each point))

pub noted-named : (image : Image) (k : ℕ) (t : Numbered) (point : ℕ) (state : PointState) → whole_image.fits image ≡ true →
    slice_get image.threads k ≡ Some t.thread
    → noted image t point ≡ Known state → NamesRegisters state.measure
noted-named image k t point state fits at is = subst (λ (n : Noted). AreNamed n) is (noted-all image t (image-terms image k t.thread fits at) point)
