-- How many slots hold a handler of a line, as slots change.
use Rattle.std.proofs.Common.{ℕ, zero, suc, ◌≡◌, ◌≢◌, ◌∙◌, ◌+◌, ◌*◌, ◌/◌, ◌^◌, ◌<◌, ◌≤◌, nat_lt, inl, inr, Bool, true, false, not, if◌then◌else◌, Option, Some}
use Rattle.std.proofs.Common.{None, List, length, get_or, replicate, slice_index_or, refl, sym, ap, arith}
use Rattle.std.proofs.lemmas.Bool.Decides.{eqb_tells}
use Rattle.std.proofs.lemmas.Bool.{cases_lt, le-ltb, lt-ltb}
use Rattle.std.proofs.lemmas.List.{get_or-replicate}
use Rattle.std.proofs.lemmas.List.Folds.{list_any_at, list_any_none}
use Rattle.std.proofs.lemmas.List.FromFn.{get_or-range_with_len, length-range_with_len}
use Rattle.std.specs.List.{range_with_len}
use Rattle.model.proofs.Ancestors.{full-open}
use Rattle.model.proofs.SlotChanges.{capability-adopted, capability-closed, capability-opened, capability_of, entry-other, entry-same, full-not-empty}
use Rattle.model.proofs.SlotChanges.{within-bounds}
use Rattle.model.specs.Capabilities.CapabilityKinds.{is_handler_of}
use Rattle.model.specs.Capabilities.Slots.{IsFull, IsOpen, Slots, capability_at, closed, empty_entry, inserted, is_empty, opened, parent_at, recapped}
use Rattle.model.specs.Capabilities.Slots.{relocated, spliced, with_entry, with_parent}
use Rattle.model.specs.declared.capabilities.Cap.{Cap}
use Rattle.model.specs.declared.capabilities.Cap.TheVariants.{Empty, Untyped, Endpoint, Notification, CNode, Frame, PageTable, Tcb, RootTable, InterruptControl}
use Rattle.model.specs.declared.capabilities.Cap.TheVariants.{InterruptHandler}
use Rattle.model.specs.declared.slot_entries.Entry.{Entry}
use Rattle.packed_slots.specs.Handlers.{AreCounted, handles, times_of}
use Rattle.slots.specs.Listed.{is_handled}

-- ---- numbers that pass a test

abbrev pub bit : Bool → ℕ
bit b = if b then 1 else 0

pub times-below : (t u : ℕ → Bool) (n : ℕ) → ((y : ℕ) → y < n → t y ≡ u y) → times_of t n ≡ times_of u n
unfolding times_of
times-below t u zero same = refl
times-below t u (suc n) same =
    let rest = times-below t u n (λ y less. same y (omega (arith, less))) in
    let here : bit (t n) ≡ bit (u n) = ap bit (same n (omega arith)) in
    omega (arith, rest, here)

pub times-none : (t : ℕ → Bool) (n : ℕ) → ((y : ℕ) → y < n → t y ≡ false) → times_of t n ≡ 0
unfolding times_of
times-none t zero none = refl
times-none t (suc n) none =
    let rest = times-none t n (λ y less. none y (omega (arith, less))) in
    let here : bit (t n) ≡ 0 = ap bit (none n (omega arith)) in
    omega (arith, rest, here)

pub times-most : (t : ℕ → Bool) (n : ℕ) → times_of t n ≤ n
unfolding times_of
times-most t zero = omega arith
times-most t (suc n) =
    let rest = times-most t n in
    elim (t n) as (λ b. times_of t n + (if b then 1 else 0) ≤ suc n) [ true ↦ omega (arith, rest) | false ↦ omega (arith, rest) ]

pub times-some : (t : ℕ → Bool) (n x : ℕ) → x < n → t x ≡ true → 1 ≤ times_of t n
unfolding times_of
times-some t zero x less is = absurd (omega (arith, less))
times-some t (suc n) x less is = elim (eqb_tells n x) [
  | inl here ↦
      let one : bit (t n) ≡ 1 = ap bit (ap t here.1 ∙ is) in
      omega (arith, one)
  | inr off ↦
      let rest = times-some t n x (omega (arith, less, off.1)) is in
      omega (arith, rest)
]

pub times-where : (t : ℕ → Bool) (n : ℕ) → 1 ≤ times_of t n → (x : ℕ) × (x < n) × (t x ≡ true)
unfolding times_of
times-where t zero some = absurd (omega (arith, some))
times-where t (suc n) some = elim (t n) as (λ b. t n ≡ b → 1 ≤ times_of t n + (if b then 1 else 0) → (x : ℕ) × (x < suc n) × (t x ≡ true)) [
  | true ↦ λ is _. (n, omega arith, is)
  | false ↦ λ _ more.
      let found = times-where t n (omega (arith, more)) in
      (found.0, omega (arith, found.1), found.2)
] refl some

-- two tests that differ at one number at most
pub times-changed : (t u : ℕ → Bool) (n x : ℕ) → x < n → ((y : ℕ) → y ≢ x → t y ≡ u y) →
    times_of t n + (if u x then 1 else 0) ≡ times_of u n + (if t x then 1 else 0)
unfolding times_of
times-changed t u zero x less same = absurd (omega (arith, less))
times-changed t u (suc n) x less same = elim (eqb_tells n x) [
  | inl here ↦
      let rest = times-below t u n (λ y low. same y (λ at. absurd (omega (arith, at, low, here.1)))) in
      let first : bit (t n) ≡ bit (t x) = ap (λ y. bit (t y)) here.1 in
      let second : bit (u n) ≡ bit (u x) = ap (λ y. bit (u y)) here.1 in
      omega (arith, rest, first, second)
  | inr off ↦
      let rest = times-changed t u n x (omega (arith, less, off.1)) same in
      let here : bit (t n) ≡ bit (u n) = ap bit (same n off.1) in
      omega (arith, rest, here)
]

-- ---- what is counted

pub none-counted : (slots : Slots) (counts : List ℕ) → ((s : ℕ) → slots s ≡ None) → counts ≡ replicate 64 0 → AreCounted slots counts
none-counted slots counts none is = record {
  each = λ line few.
      ap (λ (l : List ℕ). slice_index_or l line 0) is ∙ get_or-replicate 64 line 0 0 few
      ∙ sym (times-none (handles slots line) (2 ^ 20) (λ y _. ap (λ (o : Option Entry). is_handler_of line (capability_of o)) (none y)));
}

-- no capability changes
pub same-counted : (old new : Slots) (counts : List ℕ) → ((s : ℕ) → capability_at new s ≡ capability_at old s) → AreCounted old counts → AreCounted new counts
same-counted old new counts same counted = record {
  each = λ line few. counted.each line few ∙ times-below (handles old line) (handles new line) (2 ^ 20) (λ y _. ap (is_handler_of line) (sym (same y)));
}

-- one does
pub one-counted : (old new : Slots) (counts now : List ℕ) (slot : ℕ) (was is : Cap) → slot < 2 ^ 20 →
    ((s : ℕ) → s ≢ slot → capability_at new s ≡ capability_at old s)
    → capability_at old slot ≡ was → capability_at new slot ≡ is → AreCounted old counts
    → ((line : ℕ) → line < 64 → slice_index_or now line 0 + (if is_handler_of line was then 1 else 0) ≡ slice_index_or counts line 0
    + (if is_handler_of line is then 1 else 0))
    → AreCounted new now
one-counted old new counts now slot was is near same before after counted told = record {
  each = λ line few.
      let changed = times-changed (handles old line) (handles new line) (2 ^ 20) slot near (λ y other. ap (is_handler_of line) (sym (same y other))) in
      let first : bit (handles old line slot) ≡ bit (is_handler_of line was) = ap (λ c. bit (is_handler_of line c)) before in
      let second : bit (handles new line slot) ≡ bit (is_handler_of line is) = ap (λ c. bit (is_handler_of line c)) after in
      omega (arith, changed, first, second, counted.each line few, told line few);
}

pub counted-opened : (slots : Slots) (counts : List ℕ) (first count : ℕ) → ((s : ℕ) → first ≤ s → s < first + count → slots s ≡ None)
    → AreCounted slots counts → AreCounted (opened slots first count) counts
counted-opened slots counts first count none counted =
    same-counted slots (opened slots first count) counts
    (λ s. (capability-opened slots first count s (λ t is. let within = within-bounds first count t is in none t within.0 within.1)).0) counted

pub counted-closed : (slots : Slots) (counts : List ℕ) (first count : ℕ) → ((s : ℕ) → first ≤ s → s < first + count → slots s ≡ Some empty_entry)
    → AreCounted slots counts → AreCounted (closed slots first count) counts
counted-closed slots counts first count empty counted =
    same-counted slots (closed slots first count) counts
    (λ s. (capability-closed slots first count s (λ t is. let within = within-bounds first count t is in empty t within.0 within.1)).0) counted

-- one slot more, and one less
pub counted-inserted : (slots : Slots) (counts now : List ℕ) (slot : ℕ) (capability : Cap) (parent : Option ℕ) → slot < 2 ^ 20 → slots slot ≡ Some empty_entry
    → ((line : ℕ) → line < 64 → slice_index_or now line 0 ≡ slice_index_or counts line 0 + (if is_handler_of line capability then 1 else 0))
    → AreCounted slots counts → AreCounted (inserted slots slot capability parent) now
counted-inserted slots counts now slot capability parent near empty told counted =
    let held : Option Entry = Some (record { capability = capability; parent = parent }) in
    one-counted slots (inserted slots slot capability parent) counts now slot Empty capability near
    (λ s other. ap capability_of (entry-other slots slot held s other)) (ap capability_of empty) (ap capability_of (entry-same slots slot held)) counted
    (λ line few. omega (arith, told line few))

pub counted-spliced : (slots : Slots) (counts now : List ℕ) (slot : ℕ) (capability : Cap) → slot < 2 ^ 20 → capability ≡ capability_at slots slot
    → ((line : ℕ) → line < 64 → slice_index_or now line 0 + (if is_handler_of line capability then 1 else 0) ≡ slice_index_or counts line 0)
    → AreCounted slots counts → AreCounted (spliced slots slot) now
counted-spliced slots counts now slot capability near held told counted =
    let above : Option ℕ = parent_at slots slot in
    one-counted slots (spliced slots slot) counts now slot capability Empty near
    (λ s other. ap capability_of (entry-other (with_parent slots slot above) slot (Some empty_entry) s other) ∙ capability-adopted slot above (slots s))
    (sym held) (ap capability_of (entry-same (with_parent slots slot above) slot (Some empty_entry))) counted
    (λ line few. omega (arith, told line few))

pub counted-recapped : (slots : Slots) (counts between now : List ℕ) (slot : ℕ) (was is : Cap) → slot < 2 ^ 20 → was ≡ capability_at slots slot
    → ((line : ℕ) → line < 64 → slice_index_or between line 0 + (if is_handler_of line was then 1 else 0) ≡ slice_index_or counts line 0)
    → ((line : ℕ) → line < 64 → slice_index_or now line 0 ≡ slice_index_or between line 0 + (if is_handler_of line is then 1 else 0))
    → AreCounted slots counts → AreCounted (recapped slots slot is) now
counted-recapped slots counts between now slot was is near held less more counted =
    let entry : Option Entry = Some (record { capability = is; parent = parent_at slots slot }) in
    one-counted slots (recapped slots slot is) counts now slot was is near
    (λ s other. ap capability_of (entry-other slots slot entry s other)) (sym held) (ap capability_of (entry-same slots slot entry)) counted
    (λ line few. omega (arith, less line few, more line few))

pub counted-relocated : (slots : Slots) (counts : List ℕ) (from to : ℕ) → from < 2 ^ 20 → to < 2 ^ 20 → IsFull slots from → slots to ≡ Some empty_entry
    → AreCounted slots counts → AreCounted (relocated slots from to) counts
counted-relocated slots counts from to near near_to full empty counted =
    let adopted_slots : Slots = with_parent slots from (Some to) in
    let put_slots : Slots = with_entry adopted_slots to (slots from) in
    let apart : from ≢ to = full-not-empty slots from to full empty in
    record {
      each = λ line few.
          let put = times-changed (handles slots line) (handles put_slots line) (2 ^ 20) to near_to (λ y other. ap (is_handler_of line)
          (sym (ap capability_of (entry-other adopted_slots to (slots from) y other) ∙ capability-adopted from (Some to) (slots y)))) in
          let taken = times-changed (handles put_slots line) (handles (relocated slots from to) line) (2 ^ 20) from near (λ y other. ap (is_handler_of line)
          (sym (ap capability_of (entry-other put_slots from (Some empty_entry) y other)))) in
          let nothing : bit (handles slots line to) ≡ 0 = ap (λ (o : Option Entry). bit (is_handler_of line (capability_of o))) empty in
          let there : bit (handles put_slots line to) ≡ bit (handles slots line from) =
          ap (λ (o : Option Entry). bit (is_handler_of line (capability_of o))) (entry-same adopted_slots to (slots from)) in
          let still : bit (handles put_slots line from) ≡ bit (handles slots line from) = ap (λ c. bit (is_handler_of line c))
          (ap capability_of (entry-other adopted_slots to (slots from) from apart) ∙ capability-adopted from (Some to) (slots from)) in
          let gone : bit (handles (relocated slots from to) line from) ≡ 0 =
          ap (λ (o : Option Entry). bit (is_handler_of line (capability_of o))) (entry-same put_slots from (Some empty_entry)) in
          omega (arith, counted.each line few, put, taken, nothing, there, still, gone);
    }

-- ---- what the counts show

pub counts-few : (slots : Slots) (counts : List ℕ) → AreCounted slots counts → (line : ℕ) → line < 64 → slice_index_or counts line 0 ≤ 2 ^ 20
counts-few slots counts counted line few = omega (arith, counted.each line few, times-most (handles slots line) (2 ^ 20))

pub held-counted : (slots : Slots) (counts : List ℕ) (slot : ℕ) (capability : Cap) → slot < 2 ^ 20 → capability ≡ capability_at slots slot →
    AreCounted slots counts
    → (line : ℕ) → line < 64 → is_handler_of line capability ≡ true → 1 ≤ slice_index_or counts line 0
held-counted slots counts slot capability near held counted line few is =
    omega (arith, counted.each line few, times-some (handles slots line) (2 ^ 20) slot near (ap (is_handler_of line) (sym held) ∙ is))

handler-full : (line : ℕ) (c : Cap) → is_handler_of line c ≡ true → not (is_empty c) ≡ true
handler-full line Empty is = absurd (let clash : false ≡ true = is in cc)
handler-full line (Untyped f b w) is = refl
handler-full line (Endpoint f r b) is = refl
handler-full line (Notification f r b) is = refl
handler-full line (CNode f radix g) is = refl
handler-full line (Frame f r m) is = refl
handler-full line (PageTable f m) is = refl
handler-full line (Tcb f) is = refl
handler-full line (RootTable f) is = refl
handler-full line InterruptControl is = refl
handler-full line (InterruptHandler other) is = refl

module _ (slots : Slots) (counts : List ℕ) (line count bytes told : ℕ) (few : line < 64) (counted : AreCounted slots counts) (size : 16 * count ≡ bytes)
    (most : count ≤ 2 ^ 20)
    (near : (s : ℕ) → IsOpen slots s → s < count) (is : told ≡ slice_index_or counts line 0) where
  handler-near : (s : ℕ) → handles slots line s ≡ true → s < bytes / 16
  handler-near s holds = omega (arith, size, near s (full-open slots s (handler-full line (capability_at slots s) holds)))

  counted-some : 0 < told → is_handled slots (bytes / 16) line ≡ true
  counted-some some =
      let found = times-where (handles slots line) (2 ^ 20) (omega (arith, some, is, counted.each line few)) in
      let less : found.0 < bytes / 16 = handler-near found.0 found.2 in
      let long : found.0 < length (range_with_len 0 (bytes / 16)) = rw (length-range_with_len 0 (bytes / 16)) less in
      let here : get_or (range_with_len 0 (bytes / 16)) found.0 0 ≡ found.0 = get_or-range_with_len 0 (bytes / 16) found.0 0 less ∙ omega arith in
      list_any_at (handles slots line) (range_with_len 0 (bytes / 16)) found.0 0 long (ap (handles slots line) here ∙ found.2)

  counted-none : told ≤ 0 → is_handled slots (bytes / 16) line ≡ false
  counted-none none = list_any_none (handles slots line) (range_with_len 0 (bytes / 16)) (λ k d less.
      let low : k < bytes / 16 = omega (arith, less, length-range_with_len 0 (bytes / 16)) in
      ap (handles slots line) (get_or-range_with_len 0 (bytes / 16) k d low)
      ∙ elim (handles slots line (0 + k)) as (λ b. handles slots line (0 + k) ≡ b → b ≡ false) [
        | true ↦ λ holds. absurd
            (omega (arith, none, is, counted.each line few, times-some (handles slots line) (2 ^ 20) (0 + k) (omega (arith, low, size, most)) holds))
        | false ↦ λ _. refl
      ] refl)

  -- some slot holds a handler of a line exactly if one is counted
  pub handled-counted : nat_lt 0 told ≡ is_handled slots (bytes / 16) line
  handled-counted = elim (cases_lt 0 told) [
    | inl some ↦ lt-ltb 0 told some ∙ sym (counted-some some)
    | inr none ↦ le-ltb 0 told none ∙ sym (counted-none none)
  ]
