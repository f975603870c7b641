-- Two states that agree for a part do so after the same change of it on both sides: an object that is put, a thread that goes to the tail, is woken
-- or blocks; and so after a tick in which one of its threads runs.
use Rattle.std.proofs.Common.{ℕ, zero, suc, ◌≡◌, ◌∙◌, ◌==◌, ◌-◌, ◌++◌, Bool, true, false, not, nat_le, cond, if◌then◌else◌, List, [], ◌∷◌, Option, Some, None}
use Rattle.std.proofs.Common.{filter, refl, sym, ap, subst}
use Rattle.std.specs.Option.{option_map_or}
use Rattle.std.proofs.lemmas.List.Elements.{filter-append}
use Rattle.std.proofs.lemmas.Option.{none-some, same_Some}
use Rattle.model.specs.declared.events.Event.TheVariants.{Tick}
use Rattle.model.specs.Images.Image.{Image}
use Rattle.model.specs.Kernel.Scheduling.{at_tail, block, current, first_below, full_slice, head_of, tick, ticked, to_tail, unready, wake, yielded}
use Rattle.model.specs.Kernel.State.{State, Status, Runnable, Object, ThreadObject, ThreadState, as_thread, new_thread, put, thread_at, with_object}
use Rattle.model.specs.Kernel.State.{with_thread}
use Rattle.model.specs.Kernel.Steps.{step}
use Rattle.model.specs.Shared.Lists.{without}
use Rattle.part_laws.specs.Agreeing.{AgreeFor, is_thread}
use Rattle.headline.specs.parts.Parts.{Part, is_thread_in}
use Rattle.part_laws.proofs.changes.Members.{member-of}

-- ---- lists

-- two tests, in either order
abbrev one_more : Bool → ℕ → List ℕ → List ℕ
one_more b x xs = cond b (x ∷ xs) xs

swap-on : (p q : ℕ → Bool) (x : ℕ) (xs : List ℕ) → filter p (filter q xs) ≡ filter q (filter p xs) → (a b : Bool) → p x ≡ a → q x ≡ b
    → filter p (one_more b x (filter q xs)) ≡ filter q (one_more a x (filter p xs))
swap-on p q x xs rest true true pa qb =
    ap (λ b. one_more b x (filter p (filter q xs))) pa ∙ ap (λ (l : List ℕ). x ∷ l) rest ∙ sym (ap (λ b. one_more b x (filter q (filter p xs))) qb)
swap-on p q x xs rest true false pa qb = rest ∙ sym (ap (λ b. one_more b x (filter q (filter p xs))) qb)
swap-on p q x xs rest false true pa qb = ap (λ b. one_more b x (filter p (filter q xs))) pa ∙ rest
swap-on p q x xs rest false false pa qb = rest

filter-swap : (p q : ℕ → Bool) (xs : List ℕ) → filter p (filter q xs) ≡ filter q (filter p xs)
filter-swap p q [] = refl
filter-swap p q (x ∷ xs) = swap-on p q x xs (filter-swap p q xs) (p x) (q x) refl refl

-- the first of a list, if it passes, is the first of those that pass
head-kept : (test : ℕ → Bool) (xs : List ℕ) (x : ℕ) → head_of xs ≡ Some x → test x ≡ true → head_of (filter test xs) ≡ Some x
head-kept test [] x is passes = absurd (none-some x is)
head-kept test (y ∷ ys) x is passes =
    ap (λ b. head_of (cond b (y ∷ filter test ys) (filter test ys))) (ap test (same_Some y x is) ∙ passes) ∙ is

head-none : (test : ℕ → Bool) (xs : List ℕ) → head_of xs ≡ None → head_of (filter test xs) ≡ None
head-none test [] none = refl
head-none test (y ∷ ys) none = absurd (none-some y (sym none))

-- ---- who runs

first-kept : (test : ℕ → Bool) (n : ℕ) (a b : ℕ → List ℕ) (x : ℕ) → ((priority : ℕ) → b priority ≡ filter test (a priority))
    → first_below n a ≡ Some x → test x ≡ true → first_below n b ≡ Some x
unfolding first_below
first-kept test zero a b x same is passes = is
first-kept test (suc n) a b x same is passes =
    elim (head_of (a n)) as (λ o. head_of (a n) ≡ o → option_map_or Some (head_of (a n)) (first_below n a) ≡ Some x
    → option_map_or Some (head_of (b n)) (first_below n b) ≡ Some x) [
      | None ↦ λ none later.
          ap (λ (o : Option ℕ). option_map_or Some o (first_below n b)) (ap head_of (same n) ∙ head-none test (a n) none)
          ∙ first-kept test n a b x same (sym (ap (λ (o : Option ℕ). option_map_or Some o (first_below n a)) none) ∙ later) passes
      | Some y ↦ λ some later.
          let here : Some y ≡ Some x = sym (ap (λ (o : Option ℕ). option_map_or Some o (first_below n a)) some) ∙ later in
          ap (λ (o : Option ℕ). option_map_or Some o (first_below n b)) (ap head_of (same n) ∙ head-kept test (a n) x (some ∙ here) passes)
    ] refl is

module _ (image : Image) (part : Part) where
  abbrev in_part : ℕ → Bool
  in_part = is_thread_in image part

  pub same-runs : (s t : State) (x : ℕ) → AgreeFor image part s t → current s ≡ Some x → in_part x ≡ true → current t ≡ Some x
  same-runs s t x agree is inside = first-kept in_part 256 s.ready t.ready x agree.ready is inside

  pub same-object : (s t : State) (x : ℕ) → AgreeFor image part s t → in_part x ≡ true → s.objects x ≡ t.objects x
  same-object s t x agree inside =
      let m = member-of image part x inside in
      agree.objects x (is_thread m.thread (record { listed = m.listed; inside = m.inside }) (sym m.block))

  pub same-thread : (s t : State) (x : ℕ) → AgreeFor image part s t → in_part x ≡ true → thread_at s x ≡ thread_at t x
  same-thread s t x agree inside = ap (λ (o : Option Object). option_map_or (λ own. own) (as_thread o) new_thread) (same-object s t x agree inside)

  -- ---- changes on both sides

  -- the same object, put on both sides, wherever
  pub puts-agree : (s t : State) (x : ℕ) (a b : Object) → a ≡ b → AgreeFor image part s t → AgreeFor image part (with_object s x a) (with_object t x b)
  puts-agree s t x a b same agree = record {
    objects = λ offset of.
        ap (λ (o : Option Object). if offset == x then Some a else o) (agree.objects offset of)
        ∙ ap (λ (o : Object). if offset == x then Some o else t.objects offset) same;
    bytes = λ place of. agree.bytes place of;
    slots = λ slot of. agree.slots slot of;
    masked = λ line of. agree.masked line of;
    pending = λ line of. agree.pending line of;
    ready = λ priority. agree.ready priority;
  }

  -- other lists of the ready, with the same of the part
  pub lists-agree : (s t : State) (a b : ℕ → List ℕ) → ((priority : ℕ) → b priority ≡ filter in_part (a priority)) → AgreeFor image part s t
      → AgreeFor image part (record s { ready = a }) (record t { ready = b })
  lists-agree s t a b same agree = record {
    objects = λ offset of. agree.objects offset of;
    bytes = λ place of. agree.bytes place of;
    slots = λ slot of. agree.slots slot of;
    masked = λ line of. agree.masked line of;
    pending = λ line of. agree.pending line of;
    ready = same;
  }

  -- a thread leaves the ready list
  unready-agrees : (s t : State) (x : ℕ) → AgreeFor image part s t → AgreeFor image part (unready s x) (unready t x)
  unready-agrees s t x agree =
      lists-agree s t (λ priority. without x (s.ready priority)) (λ priority. without x (t.ready priority))
      (λ priority. ap (without x) (agree.ready priority) ∙ filter-swap (λ n. not (n == x)) in_part (s.ready priority)) agree

  -- a thread of the part comes last
  tail-agrees : (s t : State) (x : ℕ) → AgreeFor image part s t → in_part x ≡ true → AgreeFor image part (at_tail s x) (at_tail t x)
  tail-agrees s t x agree inside =
      let here = (thread_at s x).priority in
      let there = (thread_at t x).priority in
      let same : here ≡ there = ap (λ (own : ThreadState). own.priority) (same-thread s t x agree inside) in
      lists-agree s t (put s.ready here (s.ready here ++ x ∷ [])) (put t.ready there (t.ready there ++ x ∷ []))
      (λ priority. ap (λ (n : ℕ). put t.ready n (t.ready n ++ x ∷ []) priority) (sym same) ∙ at here priority (priority == here)) agree
    where
      last : (xs : List ℕ) → filter in_part (xs ++ x ∷ []) ≡ filter in_part xs ++ x ∷ []
      last xs = filter-append in_part xs (x ∷ []) ∙ ap (λ b. filter in_part xs ++ cond b (x ∷ []) []) inside

      at : (here priority : ℕ) (b : Bool) → (if b then t.ready here ++ x ∷ [] else t.ready priority)
          ≡ filter in_part (if b then s.ready here ++ x ∷ [] else s.ready priority)
      at here priority true = ap (λ (xs : List ℕ). xs ++ x ∷ []) (agree.ready here) ∙ sym (last (s.ready here))
      at here priority false = agree.ready priority

  pub to_tail-agrees : (s t : State) (x : ℕ) → AgreeFor image part s t → in_part x ≡ true → AgreeFor image part (to_tail s x) (to_tail t x)
  to_tail-agrees s t x agree inside = tail-agrees (unready s x) (unready t x) x (unready-agrees s t x agree) inside

  -- a thread of the part is changed as it is on the other side
  pub changed-agrees : (s t : State) (x : ℕ) (change : ThreadState → ThreadState) → AgreeFor image part s t → in_part x ≡ true
      → AgreeFor image part (with_thread s x (change (thread_at s x))) (with_thread t x (change (thread_at t x)))
  changed-agrees s t x change agree inside =
      puts-agree s t x (ThreadObject (change (thread_at s x))) (ThreadObject (change (thread_at t x)))
      (ap (λ (own : ThreadState). ThreadObject (change own)) (same-thread s t x agree inside)) agree

  pub wake-agrees : (s t : State) (x : ℕ) → AgreeFor image part s t → in_part x ≡ true → AgreeFor image part (wake s x) (wake t x)
  wake-agrees s t x agree inside =
      to_tail-agrees _ _ x (changed-agrees s t x (λ own. record own { status = Runnable; slice = full_slice }) agree inside) inside

  pub block-agrees : (s t : State) (x : ℕ) (status : Status) → AgreeFor image part s t → in_part x ≡ true
      → AgreeFor image part (block s x status) (block t x status)
  block-agrees s t x status agree inside =
      changed-agrees (unready s x) (unready t x) x (λ own. record own { status = status }) (unready-agrees s t x agree) inside

  yielded-agrees : (s t : State) (x : ℕ) → AgreeFor image part s t → in_part x ≡ true → AgreeFor image part (yielded s x) (yielded t x)
  yielded-agrees s t x agree inside = to_tail-agrees _ _ x (changed-agrees s t x (λ own. record own { slice = full_slice }) agree inside) inside

  ticked-agrees : (s t : State) (x : ℕ) → AgreeFor image part s t → in_part x ≡ true → AgreeFor image part (ticked s x) (ticked t x)
  ticked-agrees s t x agree inside =
      let same : (thread_at t x).slice ≡ (thread_at s x).slice = ap (λ (own : ThreadState). own.slice) (sym (same-thread s t x agree inside)) in
      subst (λ (n : ℕ). AgreeFor image part (ticked s x) (if nat_le n 1 then yielded t x else with_thread t x (record (thread_at t x) { slice = n - 1 })))
      (sym same) (by (thread_at s x).slice (nat_le (thread_at s x).slice 1))
    where
      by : (n : ℕ) (b : Bool) → AgreeFor image part (if b then yielded s x else with_thread s x (record (thread_at s x) { slice = n - 1 }))
          (if b then yielded t x else with_thread t x (record (thread_at t x) { slice = n - 1 }))
      by n true = yielded-agrees s t x agree inside
      by n false = changed-agrees s t x (λ own. record own { slice = n - 1 }) agree inside

  pub tick-agrees : (s t : State) (x : ℕ) → AgreeFor image part s t → current s ≡ Some x → in_part x ≡ true
      → AgreeFor image part (step s Tick).0 (step t Tick).0
  unfolding step
  tick-agrees s t x agree is inside =
      subst (λ (o : Option ℕ). AgreeFor image part (option_map_or (ticked s) o s) (tick t)) (sym is)
      (subst (λ (o : Option ℕ). AgreeFor image part (ticked s x) (option_map_or (ticked t) o t)) (sym (same-runs s t x agree is inside))
      (ticked-agrees s t x agree inside))
