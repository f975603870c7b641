-- What emptying one slot of a set leaves of the set, and of the full slots.
use Rattle.std.proofs.Common.{ℕ, zero, suc, ◌≡◌, ◌≢◌, ◌∙◌, ◌+◌, ◌/◌, ◌^◌, ◌<◌, ◌≤◌, ◌||◌, inl, inr, Bool, is_some, option_map, true, false, List, [], ◌∷◌}
use Rattle.std.proofs.Common.{get_or, length, filter, cond, Some, None, refl, sym, ap, subst, arith}
use Rattle.std.specs.List.{range_with_len}
use Rattle.std.proofs.lemmas.Bool.Decides.{eqb_tells}
use Rattle.std.proofs.lemmas.List.FromFn.{get_or-range_with_len, length-range_with_len}
use Rattle.model.specs.Capabilities.Slots.{Descendant, IsDerivation, IsFull, IsOpen, Slots, child, deeper, depth_of, is_descendant, is_full}
use Rattle.model.specs.Kernel.Removal.{SlotSet, emptied, kept_entry}
use Rattle.model.specs.Kernel.State.{State, binding_slot, slot_numbers}
use Rattle.model.proofs.Ancestors.{depth-child, descendant-from_test, descendant-full, full-open}
use Rattle.removal_laws.specs.Steps.{BindingEmptied, IsReady, SameShape, alone, bindings_from, bound, joined, left, unbound}
use Rattle.removal_laws.proofs.Laws.{descends-still, emptied-same, full-apart, full-was, line-left, line-taken, lines-done, not-full, open-kept, or-cases}
use Rattle.removal_laws.proofs.Laws.{ready-emptied, round, there-out}
use Rattle.cnode_ops.specs.Sets.{set_of}
use Rattle.cnode_ops.specs.declared.sets.Removed.{Removed}
use Rattle.cnode_ops.specs.declared.sets.Removed.TheVariants.{Below, One}

-- what descends is deeper, so no slot descends from itself
deeper-below : (slots : Slots) (root y : ℕ) → IsDerivation slots → Descendant slots root y → depth_of slots root < depth_of slots y
deeper-below slots root y tree (child _ is) = omega (arith, depth-child slots y root tree is)
deeper-below slots root y tree (deeper _ p is above) = omega (arith, depth-child slots y p tree is, deeper-below slots root p tree above)

not-below-itself : (slots : Slots) (root : ℕ) → IsDerivation slots → is_descendant slots root root ≡ false
not-below-itself slots root tree = elim (is_descendant slots root root) as (λ b. is_descendant slots root root ≡ b → b ≡ false) [
  | true ↦ λ is. absurd (omega (arith, deeper-below slots root root tree (descendant-from_test (depth_of slots root) slots root root is)))
  | false ↦ λ is. refl
] refl

-- the set is the same on the slots that stay full
pub set-still : (s : State) (set : Removed) (x y : ℕ) → IsReady s → IsFull s.slots x → set_of s.slots set x ≡ true → IsFull (emptied s (alone x)).slots y
    → set_of (emptied s (alone x)).slots set y ≡ set_of s.slots set y
set-still s (One slot) x y ready full member stays = refl
set-still s (Below root) x y ready full member stays =
    let apart : root ≢ x = λ same. absurd (let clash : false ≡ true = sym (not-below-itself s.slots root ready.derivation)
    ∙ ap (is_descendant s.slots root) same ∙ member in cc) in
    descends-still s x ready.derivation ready.near full root apart (ready-emptied s x ready full).derivation y (full-apart s x y stays)

pub members-open : (s : State) (set : Removed) (x : ℕ) → IsReady s → IsFull s.slots x → ((y : ℕ) → set_of s.slots set y ≡ true → IsOpen s.slots y)
    → (y : ℕ) → set_of (emptied s (alone x)).slots set y ≡ true → IsOpen (emptied s (alone x)).slots y
members-open s (One slot) x ready full opens y member = open-kept s (alone x) y (opens y member)
members-open s (Below root) x ready full opens y member =
    full-open (emptied s (alone x)).slots y (descendant-full (emptied s (alone x)).slots root y (ready-emptied s x ready full).derivation member)

-- ---- fewer slots are full

fewer-at-most : (p q : ℕ → Bool) (ns : List ℕ) → ((n : ℕ) → q n ≡ true → p n ≡ true) → length (filter q ns) ≤ length (filter p ns)
fewer-at-most p q [] less = omega arith
fewer-at-most p q (n ∷ ns) less =
    let rest = fewer-at-most p q ns less in
    elim (q n) as (λ b. q n ≡ b → length (cond b (n ∷ filter q ns) (filter q ns)) ≤ length (filter p (n ∷ ns))) [
      | true ↦ λ is. omega (arith, rest, ap (λ b. length (cond b (n ∷ filter p ns) (filter p ns))) (less n is))
      | false ↦ λ is. elim (p n) as (λ b. length (filter q ns) ≤ length (cond b (n ∷ filter p ns) (filter p ns))) [
        | true ↦ omega (arith, rest)
        | false ↦ rest
      ]
    ] refl

fewer-passes : (p q : ℕ → Bool) (ns : List ℕ) (x i : ℕ) → ((n : ℕ) → q n ≡ true → p n ≡ true) → p x ≡ true → q x ≡ false → i < length ns → get_or ns i 0 ≡ x →
    length (filter q ns) < length (filter p ns)
fewer-passes p q [] x i less passes fails few here = absurd (omega (arith, few))
fewer-passes p q (n ∷ ns) x zero less passes fails few here =
    omega (
      arith,
      fewer-at-most p q ns less,
      ap (λ b. length (cond b (n ∷ filter p ns) (filter p ns))) (ap p here ∙ passes),
      ap (λ b. length (cond b (n ∷ filter q ns) (filter q ns))) (ap q here ∙ fails),
    )
fewer-passes p q (n ∷ ns) x (suc i) less passes fails few here =
    let rest = fewer-passes p q ns x i less passes fails (omega (arith, few)) here in
    elim (q n) as (λ b. q n ≡ b → length (cond b (n ∷ filter q ns) (filter q ns)) < length (filter p (n ∷ ns))) [
      | true ↦ λ is. omega (arith, rest, ap (λ b. length (cond b (n ∷ filter p ns) (filter p ns))) (less n is))
      | false ↦ λ is. elim (p n) as (λ b. length (filter q ns) < length (cond b (n ∷ filter p ns) (filter p ns))) [
        | true ↦ omega (arith, rest)
        | false ↦ rest
      ]
    ] refl

-- how many slots are full
abbrev pub full_count : ℕ → Slots → ℕ
full_count bits slots = length (filter (is_full slots) (slot_numbers bits))

pub fewer-full : (s : State) (x : ℕ) → IsReady s → IsFull s.slots x → full_count s.memory_bits (emptied s (alone x)).slots < full_count s.memory_bits s.slots
unfolding slot_numbers
fewer-full s x ready full =
    let count : ℕ = 2 ^ s.memory_bits / 16 in
    let near : x < count = ready.near x full in
    fewer-passes (is_full s.slots) (is_full (emptied s (alone x)).slots) (range_with_len 0 count) x x (full-was s x ready full) full (not-full s x)
    (rw (length-range_with_len 0 count) near) (get_or-range_with_len 0 count x 0 near ∙ omega arith)

-- ---- what is left of a set

pub record IsLeftOf (s w : State) (set : Removed) : Type 0 where
  pub ready : IsReady w
  pub shape : SameShape s w
  pub members : (y : ℕ) → set_of w.slots set y ≡ true → IsOpen w.slots y
  pub taken : (more : SlotSet) → ((y : ℕ) → more y ≡ true → IsOpen s.slots y) →
      emptied s (joined (set_of s.slots set) more) ≡ emptied w (joined (set_of w.slots set) more)

pub left-first : (s : State) (set : Removed) → IsReady s → ((y : ℕ) → set_of s.slots set y ≡ true → IsOpen s.slots y) → IsLeftOf s s set
left-first s set ready members = record {
  ready = ready;
  shape = record { bits = refl; radix = refl; open_slots = λ y opens. opens };
  members = members;
  taken = λ more opens. refl;
}

joined-open : (s : State) (set more : SlotSet) → ((y : ℕ) → set y ≡ true → IsOpen s.slots y) → ((y : ℕ) → more y ≡ true → IsOpen s.slots y) → (y : ℕ) →
    joined set more y ≡ true → IsOpen s.slots y
joined-open s set more first second y member = elim (or-cases (set y) (more y) member) [ inl is ↦ first y is | inr is ↦ second y is ]

-- what is open once a slot is emptied was open
open-was : (s : State) (x y : ℕ) → IsOpen s.slots x → IsOpen (emptied s (alone x)).slots y → IsOpen s.slots y
open-was s x y here opens = elim (eqb_tells y x) [
  | inl at ↦ subst (λ (n : ℕ). IsOpen s.slots n) (sym at.1) here
  | inr away ↦ elim (s.slots y) as (λ o. s.slots y ≡ o → IsOpen s.slots y) [
    | None ↦ λ none. absurd (let clash : false ≡ true = sym (ap is_some (there-out s (alone x) y away.0 ∙ ap (option_map (kept_entry s (alone x) y)) none))
        ∙ opens in cc)
    | Some h ↦ λ some. ap is_some some
  ] refl
]

pub left-next : (s w now : State) (set : Removed) (x : ℕ) → IsLeftOf s w set → IsFull w.slots x → set_of w.slots set x ≡ true → now ≡ emptied w (alone x) →
    IsLeftOf s now set
left-next s w now set x so_far full member is =
    let one : State = emptied w (alone x) in
    let ready_now = ready-emptied w x so_far.ready full in
    let members_now = members-open w set x so_far.ready full so_far.members in
    subst (λ (t : State). IsLeftOf s t set) (sym is) (record {
      ready = ready_now;
      shape = record {
        bits = so_far.shape.bits;
        radix = so_far.shape.radix;
        open_slots = λ y opens. open-kept w (alone x) y (so_far.shape.open_slots y opens);
      };
      members = members_now;
      taken = λ more opens.
          let more_open : (y : ℕ) → more y ≡ true → IsOpen w.slots y = λ y in_more. so_far.shape.open_slots y (opens y in_more) in
          so_far.taken more opens
          ∙ round w x (set_of w.slots set) (set_of one.slots set) more so_far.ready.derivation ready_now.derivation so_far.ready.near full member
          (λ y filled. set-still w set x y so_far.ready full member filled)
          (joined-open w (set_of w.slots set) more so_far.members more_open)
          (joined-open w (set_of one.slots set) more (λ y in_set. open-was w x y (full-open w.slots x full) (members_now y in_set)) more_open);
    })

pub left-done : (s w : State) (set : Removed) → IsLeftOf s w set → ((y : ℕ) → IsFull w.slots y → set_of w.slots set y ≡ false) → (more : SlotSet) →
    ((y : ℕ) → more y ≡ true → IsOpen s.slots y)
    → emptied s (joined (set_of s.slots set) more) ≡ emptied w more
left-done s w set so_far none more opens =
    let more_open : (y : ℕ) → more y ≡ true → IsOpen w.slots y = λ y in_more. so_far.shape.open_slots y (opens y in_more) in
    so_far.taken more opens
    ∙ emptied-same w so_far.ready.derivation (joined (set_of w.slots set) more) more
    (λ y filled. ap (λ b. b || more y) (none y filled))
    (joined-open w (set_of w.slots set) more so_far.members more_open)
    more_open

-- ---- what is left of some bindings

pub record LinesLeft (s w : State) (taken : ℕ → Bool) (line : ℕ) : Type 0 where
  pub ready : IsReady w
  pub radix : w.boot_radix ≡ s.boot_radix
  pub whole : emptied s (bindings_from s taken 0) ≡ emptied w (bindings_from w taken line)

pub lines-first : (s : State) (taken : ℕ → Bool) → IsReady s → LinesLeft s s taken 0
lines-first s taken ready = record { ready = ready; radix = refl; whole = refl }

next-number : (n : ℕ) → suc n ≡ n + 1
next-number n = omega arith

pub line-emptied : (s w now : State) (taken : ℕ → Bool) (line : ℕ) → line < 64 → LinesLeft s w taken line → BindingEmptied w line (taken line) now →
    LinesLeft s now taken (line + 1)
line-emptied s w now taken line few lines_left (bound is full same) =
    let ready_now = ready-emptied w (binding_slot w line) lines_left.ready full in
    subst (λ (t : State). LinesLeft s t taken (line + 1)) (sym same) (record {
      ready = ready_now;
      radix = lines_left.radix;
      whole = lines_left.whole
          ∙ line-taken w taken line few lines_left.ready.derivation ready_now.derivation lines_left.ready.near lines_left.ready.lines is full
          ∙ ap (λ (n : ℕ). emptied (emptied w (alone (binding_slot w line))) (bindings_from w taken n)) (next-number line);
    })
line-emptied s w now taken line few lines_left (unbound is none same) =
    subst (λ (t : State). LinesLeft s t taken (line + 1)) (sym same) (record {
      ready = lines_left.ready;
      radix = lines_left.radix;
      whole = lines_left.whole
          ∙ line-left w taken line lines_left.ready.derivation lines_left.ready.lines (λ _. none)
          ∙ ap (λ (n : ℕ). emptied w (bindings_from w taken n)) (next-number line);
    })
line-emptied s w now taken line few lines_left (left is same) =
    subst (λ (t : State). LinesLeft s t taken (line + 1)) (sym same) (record {
      ready = lines_left.ready;
      radix = lines_left.radix;
      whole = lines_left.whole
          ∙ line-left w taken line lines_left.ready.derivation lines_left.ready.lines (λ taken_is. absurd (let clash : false ≡ true = sym is ∙ taken_is in cc))
          ∙ ap (λ (n : ℕ). emptied w (bindings_from w taken n)) (next-number line);
    })

pub lines-gone : (s w : State) (taken : ℕ → Bool) (line : ℕ) → line ≡ 64 → LinesLeft s w taken line → emptied s (bindings_from s taken 0) ≡ w
lines-gone s w taken line is lines_left = lines_left.whole ∙ ap (λ (n : ℕ). emptied w (bindings_from w taken n)) is
    ∙ lines-done w taken lines_left.ready.derivation
