-- Who waits at an object, from one step of a removal to the next.
use Rattle.std.proofs.Common.{ℕ, ◌≡◌, ◌≢◌, ◌∙◌, ◌==◌, ◌+◌, ◌++◌, ◌||◌, inl, inr, Bool, true, false, not, if◌then◌else◌, Option, Some, None, is_some, option_map}
use Rattle.std.proofs.Common.{List, [], ◌∷◌, cond, map, refl, sym, ap, arith}
use Rattle.std.specs.Prelude.{filter, fold}
use Rattle.std.specs.Option.{option_map_or}
use Rattle.std.proofs.lemmas.Bool.{eq-eqb, ne_eqb}
use Rattle.std.proofs.lemmas.Bool.Decides.{eqb_tells}
use Rattle.cnode_ops.specs.Unsettled.{WaitersAreNoted}
use Rattle.model.specs.Capabilities.Slots.{Slots}
use Rattle.model.specs.Kernel.Removal.{thread_places}
use Rattle.model.specs.Kernel.Scheduling.{wake, without_threads}
use Rattle.model.specs.Kernel.Soundness.{IsSound, is_blocked_on, waiting_at, waits_at}
use Rattle.model.specs.Kernel.State.{State, Status, Inactive, Runnable, Blocked, AwaitsReply, AwaitsHandler, Object, ThreadObject, EndpointObject}
use Rattle.model.specs.Kernel.State.{NotificationObject, CNodeObject, FrameObject, PageTableObject, RootTableObject, Sender, ThreadState, as_thread, with_slots}
use Rattle.model.specs.Shared.Lists.{times_in}
use Rattle.removal_laws.specs.Finishing.{is_stranded, settled, waits_nowhere, without_strays}
use Rattle.removal_laws.specs.Steps.{ends_thread, object_ended}

-- ---- queues without some threads

module _ (gone : ℕ → Bool) (thread : ℕ) (stays : gone thread ≡ false) where
  times-without : (threads : List ℕ) → times_in (filter (λ t. not (gone t)) threads) thread ≡ times_in threads thread
  times-without [] = refl
  times-without (t ∷ rest) = elim (gone t) as (λ b. gone t ≡ b →
      times_in (cond (not b) (t ∷ filter (λ u. not (gone u)) rest) (filter (λ u. not (gone u)) rest)) thread ≡ times_in (t ∷ rest) thread) [
        | true ↦ λ goes.
            let other : t ≢ thread = λ same. absurd (let clash : true ≡ false = sym goes ∙ ap gone same ∙ stays in cc) in
            times-without rest ∙ sym (ap (λ (b : Bool). if b then times_in rest thread + 1 else times_in rest thread) (ne_eqb t thread other))
        | false ↦ λ _. ap (λ (n : ℕ). if t == thread then n + 1 else n) (times-without rest)
      ] refl

  senders-without : (senders : List Sender) → map (λ (sender : Sender). sender.thread) (filter (λ (sender : Sender). not (gone sender.thread)) senders) ≡ filter
      (λ t. not (gone t)) (map (λ (sender : Sender). sender.thread) senders)
  senders-without [] = refl
  senders-without (sender ∷ rest) = elim (gone sender.thread)
      as (λ b. map (λ (s : Sender). s.thread)
      (cond (not b) (sender ∷ filter (λ (s : Sender). not (gone s.thread)) rest) (filter (λ (s : Sender). not (gone s.thread)) rest))
      ≡ cond (not b) (sender.thread ∷ filter (λ t. not (gone t)) (map (λ (s : Sender). s.thread) rest))
      (filter (λ t. not (gone t)) (map (λ (s : Sender). s.thread) rest))) [
        | true ↦ senders-without rest
        | false ↦ ap (λ (l : List ℕ). sender.thread ∷ l) (senders-without rest)
      ]

  times-append : (one two : List ℕ) → times_in (one ++ two) thread ≡ times_in one thread + times_in two thread
  times-append [] two = omega arith
  times-append (t ∷ rest) two =
      elim (t == thread) as (λ b. (if b then times_in (rest ++ two) thread + 1 else times_in (rest ++ two) thread)
      ≡ (if b then times_in rest thread + 1 else times_in rest thread) + times_in two thread) [
        | true ↦ omega (arith, times-append rest two)
        | false ↦ times-append rest two
      ]

  -- who stays waits as before
  waiting-left : (o : Option Object) → times_in (waiting_at (option_map (without_threads gone) o)) thread ≡ times_in (waiting_at o) thread
  waiting-left None = refl
  waiting-left (Some (ThreadObject t)) = refl
  waiting-left (Some (EndpointObject e)) =
      times-append (map (λ (sender : Sender). sender.thread) (filter (λ (sender : Sender). not (gone sender.thread)) e.senders))
      (filter (λ t. not (gone t)) e.receivers)
      ∙ ap (λ (n : ℕ). n + times_in (filter (λ t. not (gone t)) e.receivers) thread)
      (ap (λ (l : List ℕ). times_in l thread) (senders-without e.senders) ∙ times-without (map (λ (sender : Sender). sender.thread) e.senders))
      ∙ ap (λ (n : ℕ). times_in (map (λ (sender : Sender). sender.thread) e.senders) thread + n) (times-without e.receivers)
      ∙ sym (times-append (map (λ (sender : Sender). sender.thread) e.senders) e.receivers)
  waiting-left (Some (NotificationObject n)) = times-without n.waiters
  waiting-left (Some (CNodeObject radix)) = refl
  waiting-left (Some FrameObject) = refl
  waiting-left (Some PageTableObject) = refl
  waiting-left (Some RootTableObject) = refl

-- what a thread waits for stays
waits-same : (gone : ℕ → Bool) (queue : ℕ) (o : Option Object)
    → option_map_or (λ t. is_blocked_on queue t.status) (as_thread (option_map (without_threads gone) o)) false ≡ option_map_or
    (λ t. is_blocked_on queue t.status) (as_thread o) false
waits-same gone queue None = refl
waits-same gone queue (Some (ThreadObject t)) = refl
waits-same gone queue (Some (EndpointObject e)) = refl
waits-same gone queue (Some (NotificationObject n)) = refl
waits-same gone queue (Some (CNodeObject radix)) = refl
waits-same gone queue (Some FrameObject) = refl
waits-same gone queue (Some PageTableObject) = refl
waits-same gone queue (Some RootTableObject) = refl

some-same : (gone : ℕ → Bool) (o : Option Object) → is_some (option_map (without_threads gone) o) ≡ is_some o
some-same gone None = refl
some-same gone (Some o) = refl

constant : (o : Option ThreadState) → option_map_or (λ _. false) o false ≡ false
constant None = refl
constant (Some t) = refl

none-of : (one two : Bool) → (one || two) ≡ false → (one ≡ false) × (two ≡ false)
none-of true two is = absurd (let clash : true ≡ false = is in cc)
none-of false two is = (refl, is)

-- ---- an object ends

module _ (s : State) (offset : ℕ) (slots_now : Slots) where
  abbrev after : State
  after = with_slots (object_ended s offset) slots_now

  still : (other : ℕ) → offset ≢ other → after.objects other ≡ option_map (without_threads (ends_thread s offset)) (s.objects other)
  still other away = ap (λ b. if b then None else option_map (without_threads (ends_thread s offset)) (s.objects other)) (ne_eqb offset other away)

  ended-there : (other : ℕ) → offset ≡ other → after.objects other ≡ None
  ended-there other here = ap (λ b. if b then None else option_map (without_threads (ends_thread s offset)) (s.objects other)) (eq-eqb offset other here)

  stays-there : (thread : ℕ) → offset ≢ thread → ends_thread s offset thread ≡ false
  stays-there thread away = ap (λ b. option_map_or (λ _. b) (as_thread (s.objects thread)) false) (ne_eqb offset thread away)
      ∙ constant (as_thread (s.objects thread))

  waits-before : (thread queue : ℕ) → waits_at after thread queue ≡ true → (waits_at s thread queue ≡ true) × (offset ≢ thread)
  waits-before thread queue waits = elim (eqb_tells offset thread) [
    | inl here ↦ absurd (
        let clash : false ≡ true =
        sym (ap (λ (o : Option Object). option_map_or (λ t. is_blocked_on queue t.status) (as_thread o) false) (ended-there thread here.1)) ∙ waits in
        cc)
    | inr away ↦ (
      sym (ap (λ (o : Option Object). option_map_or (λ t. is_blocked_on queue t.status) (as_thread o) false) (still thread away.1)
          ∙ waits-same (ends_thread s offset) queue (s.objects thread)) ∙ waits,
      away.1,
    )
  ]

  pub waiters-after : (noted waits : Bool) → (waits ≡ false → waiting_at (s.objects offset) ≡ []) → WaitersAreNoted s noted →
      WaitersAreNoted after (noted || waits)
  waiters-after noted waits nobody before = record {
    queued = λ thread queue here some. elim (eqb_tells offset queue) [
      | inl ended_is ↦ absurd (let clash : false ≡ true = sym (ap is_some (ended-there queue ended_is.1)) ∙ some in cc)
      | inr away ↦
          let waited = waits-before thread queue here in
          let there : is_some (s.objects queue) ≡ true = sym (ap is_some (still queue away.1) ∙ some-same (ends_thread s offset) (s.objects queue)) ∙ some in
          let stands = before.queued thread queue waited.0 there in
          let same = ap (λ (o : Option Object). times_in (waiting_at o) thread) (still queue away.1)
          ∙ waiting-left (ends_thread s offset) thread (stays-there thread waited.1) (s.objects queue) in
          omega (arith, stands, same)
    ];
    awake = λ none thread queue here.
        let waited = waits-before thread queue here in
        let quiet = none-of noted waits none in
        let there = before.awake quiet.0 thread queue waited.0 in
        elim (eqb_tells offset queue) [
          | inl ended_is ↦ absurd
              (omega (
                arith,
                before.queued thread queue waited.0 there,
                ap (λ (o : ℕ). times_in (waiting_at (s.objects o)) thread) (sym ended_is.1),
                ap (λ (l : List ℕ). times_in l thread) (nobody quiet.1),
              ))
          | inr away ↦ ap is_some (still queue away.1) ∙ some-same (ends_thread s offset) (s.objects queue) ∙ there
        ];
  }

-- ---- at the start, and at the end

pub waiters-first : (s : State) → IsSound s → WaitersAreNoted s false
waiters-first s sound = record {
  queued = λ thread queue waits some. omega (arith, once thread queue waits);
  awake = λ _ thread queue waits. elim (s.objects queue) as (λ o. s.objects queue ≡ o → is_some o ≡ true) [
    | None ↦ λ none. absurd (omega (arith, once thread queue waits, ap (λ (o : Option Object). times_in (waiting_at o) thread) none))
    | Some o ↦ λ _. refl
  ] refl;
}
  where
    once : (thread queue : ℕ) → waits_at s thread queue ≡ true → times_in (waiting_at (s.objects queue)) thread ≡ 1
    once thread queue waits = sound.threads.queued thread queue ∙ ap (λ b. if b then 1 else 0) waits

module _ (s : State) (noted : WaitersAreNoted s false) where
  awake-status : (thread : ℕ) (status : Status) → ((queue : ℕ) → is_blocked_on queue status ≡ true → is_some (s.objects queue) ≡ true) →
      waits_nowhere s status ≡ false
  awake-status thread Inactive there = refl
  awake-status thread Runnable there = refl
  awake-status thread (Blocked queue) there = ap not (there queue (eq-eqb queue queue refl))
  awake-status thread AwaitsReply there = refl
  awake-status thread AwaitsHandler there = refl

  none-stranded : (thread : ℕ) → is_stranded s thread ≡ false
  none-stranded thread = elim (as_thread (s.objects thread)) as (λ o. as_thread (s.objects thread) ≡ o →
      option_map_or (λ t. waits_nowhere s t.status) o false ≡ false) [
        | None ↦ λ _. refl
        | Some t ↦ λ is. awake-status thread t.status (λ queue blocked.
            noted.awake refl thread queue (ap (λ (o : Option ThreadState). option_map_or (λ u. is_blocked_on queue u.status) o false) is ∙ blocked))
      ] refl

  filter-none : (threads : List ℕ) → filter (is_stranded s) threads ≡ []
  filter-none [] = refl
  filter-none (thread ∷ rest) = ap (λ b. cond b (thread ∷ filter (is_stranded s) rest) (filter (is_stranded s) rest)) (none-stranded thread) ∙ filter-none rest

  -- nobody has to be woken
  pub settled-awake : without_strays s ≡ settled s
  settled-awake = sym (ap (fold wake (without_strays s)) (filter-none (thread_places s)))
