-- What a removal leaves, field by field, and that no other state has these fields.
use Rattle.std.proofs.Common.{ℕ, ◌≡◌, ◌∙◌, ◌==◌, ◌-◌, ◌%◌, ◌++◌, ◌&&◌, ◌||◌, inl, inr, Bool, true, false, not, if◌then◌else◌, cond, filter, List, [], ◌∷◌}
use Rattle.std.proofs.Common.{Option, Some, None, is_some, option_map, refl, sym, ap, subst, arith}
use Rattle.std.specs.Prelude.{fold, ◌≢◌}
use Rattle.std.specs.Option.{option_map_or}
use Rattle.std.specs.List.{list_any}
use Rattle.std.proofs.lemmas.Bool.{and_parts, eq-eqb, ne_eqb}
use Rattle.std.proofs.lemmas.Bool.Decides.{eqb_tells}
use Rattle.std.proofs.lemmas.List.{append-nil}
use Rattle.std.proofs.lemmas.List.Elements.{filter-append}
use Rattle.model.specs.declared.capabilities.Cap.TheVariants.{Empty}
use Rattle.model.specs.declared.slot_entries.Entry.{Entry}
use Rattle.model.specs.Capabilities.Slots.{IsOpen, Slots, capability_at, empty_entry, parent_at}
use Rattle.model.specs.Kernel.AddressSpaces.{page_size}
use Rattle.model.specs.Kernel.Removal.{IsRemoval, SlotSet, closes, closing, emptied, ends, is_ending_thread, is_set_back, kept, kept_entry, new_parent}
use Rattle.model.specs.Kernel.Removal.{objects_kept, runs_again, thread_places, threads_set_back, waits_on_ended, without_slots}
use Rattle.model.specs.Kernel.Scheduling.{full_slice, wake, without_threads}
use Rattle.model.specs.Kernel.State.{State, Runnable, Object, ThreadObject, EndpointObject, NotificationObject, CNodeObject, FrameObject, PageTableObject}
use Rattle.model.specs.Kernel.State.{RootTableObject, ThreadState, as_thread, new_thread, put, slot_numbers, thread_at}
use Rattle.model.specs.Shared.Lists.{without}
use Rattle.removal_laws.proofs.Laws.{filter-all}
use Rattle.soundness.proofs.Laws.{AreApart, apart-filter, in-filter, is_in, places-apart}

-- ---- lists

append-one : (l : List ℕ) (x : ℕ) (r : List ℕ) → (l ++ x ∷ []) ++ r ≡ l ++ x ∷ r
append-one [] x r = refl
append-one (y ∷ l) x r = ap (λ k. y ∷ k) (append-one l x r)

filter-twice : (f g : ℕ → Bool) (l : List ℕ) → filter f (filter g l) ≡ filter (λ n. g n && f n) l
filter-twice f g [] = refl
filter-twice f g (x ∷ l) = elim (g x) as (λ b. filter f (cond b (x ∷ filter g l) (filter g l))
    ≡ cond (b && f x) (x ∷ filter (λ n. g n && f n) l) (filter (λ n. g n && f n) l)) [
      | true ↦ ap (λ r. cond (f x) (x ∷ r) r) (filter-twice f g l)
      | false ↦ filter-twice f g l
    ]

-- tests that agree on the members of a list
filter-members : (f g : ℕ → Bool) (l : List ℕ) → ((n : ℕ) → is_in l n ≡ true → f n ≡ g n) → filter f l ≡ filter g l
filter-members f g [] same = refl
filter-members f g (x ∷ l) same =
    ap (λ b. cond b (x ∷ filter f l) (filter f l)) (same x (ap (λ b. b || is_in l x) (eq-eqb x x refl)))
    ∙ ap (λ r. cond (g x) (x ∷ r) r)
    (filter-members f g l (λ n is. same n (elim (n == x) as (λ b. (b || is_in l n) ≡ true) [ true ↦ refl | false ↦ is ])))

any-in : (l : List ℕ) (n : ℕ) → list_any (λ x. n == x) l ≡ is_in l n
any-in [] n = refl
any-in (x ∷ l) n = ap (λ b. n == x || b) (any-in l n)

-- ---- threads that wake

abbrev own : Option Object → ThreadState
own o = option_map_or (λ t. t) (as_thread o) new_thread

abbrev running : ThreadState → ThreadState
running t = record t { status = Runnable; slice = full_slice }

abbrev runs : Option Object → Option Object
runs o = Some (ThreadObject (running (own o)))

woken-objects : (l : List ℕ) (s : State) → AreApart l → (o : ℕ) → (fold wake s l).objects o ≡ (if is_in l o then runs (s.objects o) else s.objects o)
woken-objects [] s apart o = refl
woken-objects (x ∷ l) s apart o = woken-objects l (wake s x) apart.1 o ∙ elim (eqb_tells o x) [
  | inl here ↦
      ap (λ b. let k = put s.objects x (runs (s.objects x)) o in if b then runs k else k) (ap (is_in l) here.1 ∙ apart.0)
      ∙ ap (λ b. if b then runs (s.objects x) else s.objects o) here.0
      ∙ ap (λ (y : ℕ). runs (s.objects y)) (sym here.1)
      ∙ sym (ap (λ b. if b || is_in l o then runs (s.objects o) else s.objects o) here.0)
  | inr other ↦
      ap (λ b. let k = if b then runs (s.objects x) else s.objects o in if is_in l o then runs k else k) other.0
      ∙ sym (ap (λ b. if b || is_in l o then runs (s.objects o) else s.objects o) other.0)
]

abbrev at_priority : State → ℕ → ℕ → Bool
at_priority s p thread = (own (s.objects thread)).priority == p

-- a thread that wakes keeps its priority
same-priority : (s : State) (x t : ℕ) → (own (put s.objects x (runs (s.objects x)) t)).priority ≡ (own (s.objects t)).priority
same-priority s x t = elim (eqb_tells t x) [
  | inl here ↦
      ap (λ b. (own (if b then runs (s.objects x) else s.objects t)).priority) here.0
      ∙ ap (λ (y : ℕ). (own (s.objects y)).priority) (sym here.1)
  | inr other ↦ ap (λ b. (own (if b then runs (s.objects x) else s.objects t)).priority) other.0
]

neither : (a b : Bool) → (not a && not b) ≡ not (a || b)
neither true b = refl
neither false b = refl

without-all : (x : ℕ) (l r : List ℕ) → filter (λ t. not (is_in l t)) (without x r) ≡ filter (λ t. not (is_in (x ∷ l) t)) r
without-all x l r = filter-twice (λ t. not (is_in l t)) (λ t. not (t == x)) r ∙ (λ i. filter (λ t. neither (t == x) (is_in l t) i) r)

-- the ready list once one thread more is at the tail of its priority
tailed : (s : State) (x p : ℕ) (l : List ℕ) → is_in l x ≡ false → filter (λ t. not (is_in l t)) (put (λ q. without x (s.ready q)) (own (s.objects x)).priority
    (without x (s.ready (own (s.objects x)).priority) ++ x ∷ []) p) ++ filter (at_priority s p) l
    ≡ filter (λ t. not (is_in (x ∷ l) t)) (s.ready p) ++ filter (at_priority s p) (x ∷ l)
tailed s x p l apart =
    let own_priority : ℕ = (own (s.objects x)).priority in
    let rest : List ℕ = filter (at_priority s p) l in
    elim (eqb_tells p own_priority) [
      | inl here ↦
          ap (λ b. filter (λ t. not (is_in l t)) (if b then without x (s.ready own_priority) ++ x ∷ [] else without x (s.ready p)) ++ rest) here.0
          ∙ ap (λ (q : ℕ). filter (λ t. not (is_in l t)) (without x (s.ready q) ++ x ∷ []) ++ rest) (sym here.1)
          ∙ ap (λ k. k ++ rest) (filter-append (λ t. not (is_in l t)) (without x (s.ready p)) (x ∷ []))
          ∙ ap (λ b. (filter (λ t. not (is_in l t)) (without x (s.ready p)) ++ cond (not b) (x ∷ []) []) ++ rest) apart
          ∙ append-one (filter (λ t. not (is_in l t)) (without x (s.ready p))) x rest
          ∙ ap (λ k. k ++ x ∷ rest) (without-all x l (s.ready p))
          ∙ ap (λ b. filter (λ t. not (is_in (x ∷ l) t)) (s.ready p) ++ cond b (x ∷ rest) rest) (sym (eq-eqb own_priority p (sym here.1)))
      | inr other ↦
          ap (λ b. filter (λ t. not (is_in l t)) (if b then without x (s.ready own_priority) ++ x ∷ [] else without x (s.ready p)) ++ rest) other.0
          ∙ ap (λ k. k ++ rest) (without-all x l (s.ready p))
          ∙ ap (λ b. filter (λ t. not (is_in (x ∷ l) t)) (s.ready p) ++ cond b (x ∷ rest) rest)
          (sym (ne_eqb own_priority p (λ same. other.1 (sym same))))
    ]

woken-ready : (l : List ℕ) (s : State) → AreApart l → (p : ℕ) → (fold wake s l).ready p
    ≡ filter (λ t. not (is_in l t)) (s.ready p) ++ filter (at_priority s p) l
woken-ready [] s apart p =
    sym (append-nil (filter (λ t. not false) (s.ready p)) ∙ filter-all (λ (t : ℕ). false) (λ t. refl) (s.ready p))
woken-ready (x ∷ l) s apart p =
    woken-ready l (wake s x) apart.1 p
    ∙ (λ i. filter (λ t. not (is_in l t)) ((wake s x).ready p) ++ filter (λ t. same-priority s x t i == p) l)
    ∙ (λ i. filter (λ t. not (is_in l t)) (put (λ q. without x (s.ready q)) (same-priority s x x i) (without x (s.ready (same-priority s x x i)) ++ x ∷ []) p)
    ++ filter (at_priority s p) l)
    ∙ tailed s x p l apart.0

-- what waking does not change
woken-stays : {A : Type 0} (of : State → A) → ((s : State) (x : ℕ) → of (wake s x) ≡ of s) → (l : List ℕ) (s : State) → of (fold wake s l) ≡ of s
woken-stays of same [] s = refl
woken-stays of same (x ∷ l) s = woken-stays of same l (wake s x) ∙ same s x

-- ---- the state that is left

-- a test whose answer is no is not passed
refuted : {P : Type 0} (b : Bool) → b ≡ false → b ≡ true → P
refuted b fails holds = let clash : false ≡ true = sym fails ∙ holds in absurd cc

not-so : (b : Bool) → not b ≡ true → b ≡ false
not-so true h = sym h
not-so false h = refl

-- what is set back is a thread, which does not end
abbrev sets_back : State → SlotSet → ℕ → Option Object → Bool
sets_back s set offset o = option_map_or (λ (t : ThreadState). waits_on_ended s set t.status && not (ends s set offset)) (as_thread o) false

set-back-thread : (s : State) (set : SlotSet) (offset : ℕ) (o : Option Object) → sets_back s set offset o ≡ true
    → (t : ThreadState) × (o ≡ Some (ThreadObject t)) × (ends s set offset ≡ false)
set-back-thread s set offset (Some (ThreadObject t)) back =
    (t, refl, not-so (ends s set offset) (and_parts (waits_on_ended s set t.status) (not (ends s set offset)) back).1)
set-back-thread s set offset None back = refuted false refl back
set-back-thread s set offset (Some (EndpointObject e)) back = refuted false refl back
set-back-thread s set offset (Some (NotificationObject n)) back = refuted false refl back
set-back-thread s set offset (Some (CNodeObject radix)) back = refuted false refl back
set-back-thread s set offset (Some FrameObject) back = refuted false refl back
set-back-thread s set offset (Some PageTableObject) back = refuted false refl back
set-back-thread s set offset (Some RootTableObject) back = refuted false refl back

-- an open slot's entry is what it holds and its parent
entry-of : (slots : Slots) (slot : ℕ) → IsOpen slots slot
    → slots slot ≡ Some (record { capability = capability_at slots slot; parent = parent_at slots slot })
entry-of slots slot opens = elim (slots slot) as (λ o. slots slot ≡ o
    → o ≡ Some (record { capability = option_map_or (λ held. held.capability) o Empty; parent = option_map_or (λ held. held.parent) o None })) [
      | None ↦ λ is. refuted (is_some (slots slot)) (ap is_some is) opens
      | Some held ↦ λ is. refl
    ] refl

module _ (s : State) (set : SlotSet) where
  again : List ℕ
  again = threads_set_back s set

  before : State
  before = closing (emptied s set) (closes s set)

  gone : ℕ → Bool
  gone = is_ending_thread s set

  apart : AreApart again
  unfolding again slot_numbers
  apart = apart-filter (is_set_back s set) (thread_places s) (places-apart 0 _)

  among : (offset : ℕ) → runs_again s set offset ≡ is_in again offset
  unfolding again
  among offset = any-in (threads_set_back s set) offset

  thread-again : (offset : ℕ) → is_in again offset ≡ true → (t : ThreadState) × (s.objects offset ≡ Some (ThreadObject t)) × (ends s set offset ≡ false)
  unfolding again
  thread-again offset is = set-back-thread s set offset (s.objects offset) (in-filter (is_set_back s set) (thread_places s) offset is).0

  stays : {A : Type 0} (of : State → A) → ((t : State) (x : ℕ) → of (wake t x) ≡ of t) → of (without_slots s set) ≡ of before
  unfolding before again
  stays of same = woken-stays of same again before

  slot-left : (slot : ℕ) → (without_slots s set).slots slot
      ≡ (if closes s set slot then None else if set slot then Some empty_entry else option_map (kept_entry s set slot) (s.slots slot))
  unfolding before
  slot-left slot = stays (λ t. t.slots slot) (λ t x. refl)

  object-left : (offset : ℕ) → (without_slots s set).objects offset
      ≡ (if is_in again offset then runs (objects_kept s set offset) else objects_kept s set offset)
  unfolding before again
  object-left offset = woken-objects (threads_set_back s set) before apart offset

  byte-left : (place : ℕ) → (without_slots s set).bytes place ≡ (if ends s set (place - place % page_size) then None else s.bytes place)
  unfolding before
  byte-left place = stays (λ t. t.bytes place) (λ t x. refl)

  -- a thread that runs again keeps its priority where threads end
  kept-priority : (p thread : ℕ) → is_in again thread ≡ true → at_priority before p thread ≡ at_priority s p thread
  unfolding before gone
  kept-priority p thread is =
      let own_is = thread-again thread is in
      ap (λ b. (own (if b then None else option_map (without_threads gone) (s.objects thread))).priority == p) own_is.2
      ∙ ap (λ o. (own (option_map (without_threads gone) o)).priority == p) own_is.1
      ∙ sym (ap (λ o. (own o).priority == p) own_is.1)

  ready-left : (p : ℕ) → (without_slots s set).ready p
      ≡ filter (λ thread. not (gone thread) && not (runs_again s set thread)) (s.ready p) ++ filter (λ thread. (thread_at s thread).priority == p) again
  unfolding before gone again
  ready-left p =
      woken-ready (threads_set_back s set) before apart p
      ∙ ap (λ k. k ++ filter (at_priority before p) again) (filter-twice (λ t. not (is_in again t)) (λ t. not (is_ending_thread s set t)) (s.ready p)
      ∙ (λ i. filter (λ t. not (is_ending_thread s set t) && not (sym (among t) i)) (s.ready p)))
      ∙ ap (λ k. filter (λ thread. not (is_ending_thread s set thread) && not (runs_again s set thread)) (s.ready p) ++ k)
      (filter-members (at_priority before p) (at_priority s p) again (kept-priority p))

  open-left : (slot : ℕ) → closes s set slot ≡ false → set slot ≡ false → (without_slots s set).slots slot ≡ option_map (kept_entry s set slot) (s.slots slot)
  open-left slot opens outside =
      slot-left slot
      ∙ ap (λ b. if b then None else if set slot then Some empty_entry else option_map (kept_entry s set slot) (s.slots slot)) opens
      ∙ ap (λ b. if b then Some empty_entry else option_map (kept_entry s set slot) (s.slots slot)) outside

  -- what a slot that stays open holds
  entry-left : (slot : ℕ) → closes s set slot ≡ false → set slot ≡ false → IsOpen s.slots slot → (without_slots s set).slots slot
      ≡ Some (record { capability = kept s set slot (capability_at s.slots slot); parent = new_parent s set slot })
  entry-left slot opens outside full =
      open-left slot opens outside ∙ ap (option_map (kept_entry s set slot)) (entry-of s.slots slot full)

  object-stays : (offset : ℕ) → ends s set offset ≡ false → runs_again s set offset ≡ false
      → (without_slots s set).objects offset ≡ option_map (without_threads gone) (s.objects offset)
  unfolding gone
  object-stays offset stays_there rests =
      object-left offset
      ∙ ap (λ b. if b then runs (objects_kept s set offset) else objects_kept s set offset) (sym (among offset) ∙ rests)
      ∙ ap (λ b. if b then None else option_map (without_threads (is_ending_thread s set)) (s.objects offset)) stays_there

  object-runs : (offset : ℕ) (t : ThreadState) → runs_again s set offset ≡ true → s.objects offset ≡ Some (ThreadObject t)
      → (without_slots s set).objects offset ≡ Some (without_threads gone (ThreadObject (record t { status = Runnable; slice = full_slice })))
  unfolding gone
  object-runs offset t back is =
      let member = sym (among offset) ∙ back in
      object-left offset
      ∙ ap (λ b. if b then runs (objects_kept s set offset) else objects_kept s set offset) member
      ∙ ap (λ b. runs (if b then None else option_map (without_threads (is_ending_thread s set)) (s.objects offset))) (thread-again offset member).2
      ∙ ap (λ o. runs (option_map (without_threads (is_ending_thread s set)) o)) is

  object-ends : (offset : ℕ) → ends s set offset ≡ true → (without_slots s set).objects offset ≡ None
  object-ends offset over = elim (is_in again offset) as (λ b. is_in again offset ≡ b → (without_slots s set).objects offset ≡ None) [
    | true ↦ λ is. refuted (ends s set offset) (thread-again offset is).2 over
    | false ↦ λ is.
        object-left offset
        ∙ ap (λ b. if b then runs (objects_kept s set offset) else objects_kept s set offset) is
        ∙ ap (λ b. if b then None else option_map (without_threads (is_ending_thread s set)) (s.objects offset)) over
  ] refl

  nothing-runs : (offset : ℕ) → ends s set offset ≡ false → s.objects offset ≡ None → (without_slots s set).objects offset ≡ None
  nothing-runs offset left none = elim (is_in again offset) as (λ b. is_in again offset ≡ b → (without_slots s set).objects offset ≡ None) [
    | true ↦ λ is. let own_is = thread-again offset is in let clash : None ≡ Some (ThreadObject own_is.0) = sym none ∙ own_is.1 in absurd cc
    | false ↦ λ is. object-stays offset left (among offset ∙ is) ∙ ap (option_map (without_threads gone)) none
  ] refl

  pub removed : IsRemoval s set (without_slots s set)
  unfolding gone again before
  removed = record {
    memory_bits = stays (λ t. t.memory_bits) (λ t x. refl);
    boot_radix = stays (λ t. t.boot_radix) (λ t x. refl);
    masked = λ line. stays (λ t. t.masked line) (λ t x. refl);
    pending = λ line. stays (λ t. t.pending line) (λ t x. refl);
    closed_slots = λ slot is. slot-left slot
        ∙ ap (λ b. if b then None else if set slot then Some empty_entry else option_map (kept_entry s set slot) (s.slots slot)) is;
    emptied_slots = λ slot is inside. slot-left slot
        ∙ ap (λ b. if b then None else if set slot then Some empty_entry else option_map (kept_entry s set slot) (s.slots slot)) is
        ∙ ap (λ b. if b then Some empty_entry else option_map (kept_entry s set slot) (s.slots slot)) inside;
    open_slots = λ slot is outside full. ap is_some (entry-left slot is outside full);
    no_slots = λ slot is outside none. open-left slot is outside ∙ ap (option_map (kept_entry s set slot)) none;
    capabilities = λ slot is outside full. ap (λ o. option_map_or (λ (held : Entry). held.capability) o Empty) (entry-left slot is outside full);
    parents = λ slot is outside full. ap (λ o. option_map_or (λ (held : Entry). held.parent) o None) (entry-left slot is outside full);
    ended_objects = object-ends;
    no_objects = nothing-runs;
    objects = λ offset object left rests is. object-stays offset left rests ∙ ap (option_map (without_threads gone)) is;
    threads = object-runs;
    ended_bytes = λ place over. byte-left place ∙ ap (λ b. if b then None else s.bytes place) over;
    bytes = λ place left. byte-left place ∙ ap (λ b. if b then None else s.bytes place) left;
    ready = ready-left;
  }

  -- ---- one state alone is left

  module _ (t u : State) (one : IsRemoval s set t) (other : IsRemoval s set u) where
    same-slot : (slot : ℕ) → t.slots slot ≡ u.slots slot
    same-slot slot = elim (closes s set slot) as (λ b. closes s set slot ≡ b → t.slots slot ≡ u.slots slot) [
      | true ↦ λ is. one.closed_slots slot is ∙ sym (other.closed_slots slot is)
      | false ↦ λ is. elim (set slot) as (λ b. set slot ≡ b → t.slots slot ≡ u.slots slot) [
        | true ↦ λ inside. one.emptied_slots slot is inside ∙ sym (other.emptied_slots slot is inside)
        | false ↦ λ outside. elim (s.slots slot) as (λ o. s.slots slot ≡ o → t.slots slot ≡ u.slots slot) [
          | None ↦ λ none. one.no_slots slot is outside none ∙ sym (other.no_slots slot is outside none)
          | Some held ↦ λ some.
              let full : IsOpen s.slots slot = ap is_some some in
              entry-of t.slots slot (one.open_slots slot is outside full)
              ∙ (λ i. Some (record {
                capability = (one.capabilities slot is outside full ∙ sym (other.capabilities slot is outside full)) i;
                parent = (one.parents slot is outside full ∙ sym (other.parents slot is outside full)) i;
              }))
              ∙ sym (entry-of u.slots slot (other.open_slots slot is outside full))
        ] refl
      ] refl
    ] refl

    same-thread : (offset : ℕ) → runs_again s set offset ≡ true → t.objects offset ≡ u.objects offset
    same-thread offset back =
        let own_is = thread-again offset (sym (among offset) ∙ back) in
        one.threads offset own_is.0 back own_is.1 ∙ sym (other.threads offset own_is.0 back own_is.1)

    same-object : (offset : ℕ) → t.objects offset ≡ u.objects offset
    same-object offset = elim (ends s set offset) as (λ b. ends s set offset ≡ b → t.objects offset ≡ u.objects offset) [
      | true ↦ λ over. one.ended_objects offset over ∙ sym (other.ended_objects offset over)
      | false ↦ λ left. elim (runs_again s set offset) as (λ b. runs_again s set offset ≡ b → t.objects offset ≡ u.objects offset) [
        | true ↦ λ back. same-thread offset back
        | false ↦ λ rests. elim (s.objects offset) as (λ o. s.objects offset ≡ o → t.objects offset ≡ u.objects offset) [
          | None ↦ λ none. one.no_objects offset left none ∙ sym (other.no_objects offset left none)
          | Some object ↦ λ is. one.objects offset object left rests is ∙ sym (other.objects offset object left rests is)
        ] refl
      ] refl
    ] refl

    same-byte : (place : ℕ) → t.bytes place ≡ u.bytes place
    same-byte place = elim (ends s set (place - place % page_size)) as (λ b. ends s set (place - place % page_size) ≡ b → t.bytes place ≡ u.bytes place) [
      | true ↦ λ over. one.ended_bytes place over ∙ sym (other.ended_bytes place over)
      | false ↦ λ left. one.bytes place left ∙ sym (other.bytes place left)
    ] refl

    pub same : t ≡ u
    same = λ i. record {
      memory_bits = (one.memory_bits ∙ sym other.memory_bits) i;
      boot_radix = (one.boot_radix ∙ sym other.boot_radix) i;
      slots = λ slot. same-slot slot i;
      objects = λ offset. same-object offset i;
      bytes = λ place. same-byte place i;
      ready = λ priority. (one.ready priority ∙ sym (other.ready priority)) i;
      masked = λ line. (one.masked line ∙ sym (other.masked line)) i;
      pending = λ line. (one.pending line ∙ sym (other.pending line)) i;
    }

  -- the state that a removal leaves is the one that its sentences describe
  pub only-removed : (t : State) → IsRemoval s set t → t ≡ without_slots s set
  only-removed t one = same t (without_slots s set) one removed
