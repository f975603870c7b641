-- A line that is acknowledged, over one step: the thread that acknowledges it leaves its take with the interrupt to acknowledge, and comes back
-- only once it has.
use Rattle.std.proofs.Common.{ℕ, ◌≡◌, ◌≢◌, ◌∙◌, ◌⊎◌, ◌+◌, ◌-◌, ◌/◌, ◌%◌, ◌^◌, ◌≤◌, ◌++◌, inl, inr, Bool, true, false, if◌then◌else◌, Option}
use Rattle.std.proofs.Common.{Some, None, List, []}
use Rattle.std.proofs.Common.{◌∷◌, refl, sym, ap, subst, arith}
use Rattle.std.specs.Prelude.{Contains}
use Rattle.std.proofs.lemmas.Bool.{eq-eqb}
use Rattle.std.proofs.lemmas.Bool.Decides.{eqb_tells}
use Rattle.model.specs.declared.capabilities.Cap.{Cap}
use Rattle.model.specs.declared.events.Event.TheVariants.{Step}
use Rattle.model.specs.declared.labels.Label.{Label}
use Rattle.model.specs.declared.system_calls.ReceiveCall.TheVariants.{Receiving, Polling}
use Rattle.model.specs.declared.system_calls.SystemCall.{SystemCall}
use Rattle.model.specs.declared.system_calls.SystemCall.TheVariants.{Sends, Receives, RepliesAndReceives, Replies, Yields, PutsCharacter}
use Rattle.model.specs.Acceptance.Accepted.{IsAccepted}
use Rattle.model.specs.Acceptance.Authority.{CallNames, IsSignalled, LineChange, NotificationChange, StaysWithin, WaitsFor, delivers, joins, opens, passes_on}
use Rattle.model.specs.Acceptance.Authority.{taken, waits}
use Rattle.model.specs.Acceptance.CallRules.{AfterCall}
use Rattle.model.specs.Acceptance.NotedStates.{PointState}
use Rattle.model.specs.Acceptance.ThreadInvariants.{IsWaiting, ThreadInvariant, runs as invariant_runs, tcb_of, waits as invariant_waits}
use Rattle.model.specs.Capabilities.Slots.{capability_at}
use Rattle.model.specs.Images.Described.{Numbered, numbered_threads}
use Rattle.model.specs.Images.Image.{Image}
use Rattle.model.specs.Kernel.AddressSpaces.{with_content}
use Rattle.model.specs.Kernel.Interrupts.{Signal, binding}
use Rattle.model.specs.Kernel.Messages.{with_registers}
use Rattle.model.specs.Kernel.Scheduling.{current, is_runnable}
use Rattle.model.specs.Kernel.Soundness.{is_blocked_on, waiting_at, waits_at}
use Rattle.model.specs.Shared.Lists.{times_in}
use Rattle.model.specs.Kernel.State.{Blocked, Inactive, NotificationObject, NotificationState, Object, Runnable, State, ThreadObject, ThreadState}
use Rattle.model.specs.Kernel.State.{as_thread, thread_at}
use Rattle.model.specs.Kernel.Steps.{step}
use Rattle.std.specs.Option.{option_map_or}
use Rattle.headline.proofs.Laws.{IsGiven, RunsAlong, at-place, goes-along, idle-is, step-cases}
use Rattle.headline.proofs.Laws.{call-leaves}
use Rattle.headline.specs.facts.Standing.{AllStand}
use Rattle.headline.specs.invocations.Laws.{AnyStepGoesWell, Laws}
use Rattle.headline.specs.moves.Moving.{CallsAt}
use Rattle.headline.specs.moves.Steps.{GoesWell, MakesCall}
use Rattle.headline.specs.steps.Points.{ReachesNoCall}
use Rattle.response.specs.Asking.{Accepts, Acknowledges, Answers, Asked, Asks_nothing, Calls, Looks, Polls, Rings, SendsTo, Takes, Tries, asked_at, asked_by}
use Rattle.response.specs.Laws.{WaitsToTake}
use Rattle.response.specs.Left.{point_now}
use Rattle.response.specs.Resting.{IsTended, marks_for}
use Rattle.response.proofs.AckCalls.{Acked, acked, cleared, opened}
use Rattle.response.proofs.AskedNow.{asked_now, may_wait}
use Rattle.response.proofs.AtBells.{there-is}
use Rattle.response.proofs.CallLabels.{own-count}
use Rattle.response.proofs.CallLeads.{call-leads, next-address, next-inside}
use Rattle.response.proofs.Interrupts.{put-at, put-off, thread-of, word-of}
use Rattle.response.proofs.Marks.{at-take, acknowledges, from-unmarked, goes_on, stays-unmarked, word-some}
use Rattle.response.proofs.NamedNow.{asks-so}
use Rattle.response.proofs.OwnAuthority.{OwnAuthority, own-authority}
use Rattle.response.proofs.OneMessage.{accepts, calls, goes, sends, waits_so}
use Rattle.response.proofs.OwnCalls.{pc_at}
use Rattle.response.proofs.OwnMessages.{ReceiveEnds, SendEnds, TakeEnds, got_one, got_word, sent_awaits, sent_passed, sent_queued, sent_stopped}
use Rattle.response.proofs.OwnMessages.{stays-pc, stays_on, stays_there}
use Rattle.response.proofs.PlainPoints.{asks-none}
use Rattle.response.proofs.Resumed.{Resumed, as_before, goes_next, resumed, set_again, waits_on}
use Rattle.response.proofs.Rung.{asks-of, pended}
use Rattle.response.proofs.Tended.{Delivered, Tended, Tends, bell-there, delivered-so, goes-unmarked, has_word, passed_on, same-tends, under_way, unmasked}
use Rattle.response.proofs.Tended.{worded}
use Rattle.response.proofs.Waiting.{same-thread}
use Rattle.response.proofs.WaitingThreads.{WaitsAt, here as spot, leads-on, next-pc as waited-pc}
use Rattle.response.proofs.WaysToWait.{WaitsBy, accepts_from, calls_there, sends_there, takes_word}
use Rattle.response.proofs.Woken.{point-of}

-- ---- a call that waits for a notification takes from it, or polls it

asks-word : (o : ℕ) (call : SystemCall) (c : Cap) → WaitsFor o call c → (asked_by call c ≡ Takes o) ⊎ (asked_by call c ≡ Polls o)
asks-word o (Receives Receiving) c w = inl (ap (asked_by (Receives Receiving)) w.is)
asks-word o (Receives Polling) c w = inr (ap (asked_by (Receives Polling)) w.is)
asks-word o RepliesAndReceives c w = inl (ap (asked_by RepliesAndReceives) w.is)
asks-word o (Sends kind) c w = absurd (let clash : false ≡ true = w.receives in cc)
asks-word o Replies c w = absurd (let clash : false ≡ true = w.receives in cc)
asks-word o Yields c w = absurd (let clash : false ≡ true = w.receives in cc)
asks-word o PutsCharacter c w = absurd (let clash : false ≡ true = w.receives in cc)

module _ (laws : Laws) (steps : AnyStepGoesWell) (told : (a b : ThreadState) → (a ≡ b) ⊎ (a ≢ b)) (bytes : List ℕ) (image : Image)
    (accepted : IsAccepted bytes image) (number : ℕ) (a : IsTended image number)
    (facts : (u : Numbered) → Contains (numbered_threads image) u → IsGiven image u) (s : State) (labels : List Label) (all : AllStand image s labels)
    (stay : StaysWithin image s Step (step s Step).0)
    (takes : (u : Numbered) (queue : ℕ) (n : NotificationState) (others : List ℕ) → Contains (numbered_threads image) u
    → s.objects queue ≡ Some (NotificationObject n) → n.waiters ≡ tcb_of image u ∷ others → WaitsToTake image u s labels queue)
    (bound : binding s number ≡ Some (record { notification = a.queue; badge = a.badge }))
    (later_bound : binding (step s Step).0 number ≡ Some (record { notification = a.queue; badge = a.badge }))
    (tends : Tends image number a s) where
  abbrev tcb : ℕ
  tcb = tcb_of image a.thread

  abbrev base : ℕ
  base = a.thread.thread.header.base

  abbrev after : State
  after = (step s Step).0

  abbrev later : List Label
  later = labels ++ (step s Step).1 ∷ []

  abbrev Keeps : State → Type 0
  Keeps x = Tends image number a x

  abbrev Tended_now : State → Type 0
  Tended_now x = Tended image number a x

  well : GoesWell image s labels Step
  well = steps bytes image s labels accepted all

  old_bell : (n : NotificationState) × (s.objects a.queue ≡ Some (NotificationObject n))
  old_bell = bell-there image s labels all number (record { notification = a.queue; badge = a.badge }) bound

  new_bell : (n : NotificationState) × (after.objects a.queue ≡ Some (NotificationObject n))
  new_bell = bell-there image after later well.stands number (record { notification = a.queue; badge = a.badge }) later_bound

  delivered : IsSignalled s after a.queue a.badge
      → Delivered laws.below bytes image accepted number a s labels all takes bound after
  delivered = delivered-so laws.below bytes image accepted number a s labels all takes bound after

  -- who takes is not who runs
  runs-no-waiter : (queue : ℕ) → WaitsToTake image a.thread s labels queue → (thread_at s tcb).status ≡ Runnable → ⊥
  runs-no-waiter queue w runs =
      let clash : Blocked queue ≡ Runnable = sym w.status ∙ sym (ap (λ (u : ThreadState). u.status) (at-place s tcb w.own w.there)) ∙ runs in absurd cc

  -- ---- by the authority of who runs

  module _ (u : Numbered) (among : Contains (numbered_threads image) u) (now : current s ≡ Some (tcb_of image u)) where
    own : OwnAuthority image u s after
    own = own-authority bytes image accepted laws.below.own_blocks u among s after now stay

    -- a line that changes and is masked then has delivered its interrupt
    signalled : (s.masked number ≢ after.masked number) ⊎ (s.pending number ≢ after.pending number) → after.masked number ≡ true
        → IsSignalled s after a.queue a.badge
    signalled changed masked = by-line (own.within.lines number changed).1
      where
        by-line : LineChange s after number → IsSignalled s after a.queue a.badge
        by-line (opens why is_clear alike) = absurd (let clash : false ≡ true = sym is_clear ∙ masked in cc)
        by-line (delivers o badge is told_so was gone now_masked) =
            let one : Signal = record { notification = o; badge = badge } in
            let other : Signal = record { notification = a.queue; badge = a.badge } in
            let same : one ≡ other = (let both : ◌≡◌ {A = Option Signal} (Some one) (Some other) = sym is ∙ bound in cc) in
            subst (λ (b : Signal). IsSignalled s after b.notification b.badge) same told_so

    masks-after : after.pending number ≡ true → after.masked number ≡ true
    masks-after is =
        let was = pended image u.thread s after all.sound.slots.derivation.valid own.within number is in
        elim (after.masked number) as (λ b. after.masked number ≡ b → b ≡ true) [
          | true ↦ λ _. refl
          | false ↦ λ is_clear. absurd (by-line was (own.within.lines number
              (inl (λ same. let clash : true ≡ false = sym (tends.masks was) ∙ same ∙ is_clear in absurd cc))).1)
        ] refl
      where
        by-line : s.pending number ≡ true → LineChange s after number → ⊥
        by-line was (opens (inl none) is_clear alike) = let clash : true ≡ false = sym was ∙ none in absurd cc
        by-line was (opens (inr unbound) is_clear alike) =
            let clash : ◌≡◌ {A = Option Signal} None (Some (record { notification = a.queue; badge = a.badge })) = sym unbound ∙ bound in absurd cc
        by-line was (delivers o badge bound_so told_so was_so gone masked) = let clash : true ≡ false = sym is ∙ gone in absurd cc

    -- a word that is there stays, or the thread takes it
    data WordLeft : Type 0 where
      stands : 1 ≤ word-of (after.objects a.queue) → WordLeft
      taken_by : CallNames image u.thread s (WaitsFor a.queue) → (new : NotificationState) → after.objects a.queue ≡ Some (NotificationObject new)
          → new.waiters ≡ [] → WordLeft

    word-left : 1 ≤ word-of (s.objects a.queue) → WordLeft
    word-left some = elim (eqb_tells new_bell.0.word old_bell.0.word) [
      | inl same ↦ stands (let word = same.1 in omega (arith, before, now_word, word))
      | inr differs ↦ by-change differs.1
          (own.within.notifications a.queue old_bell.0 new_bell.0 old_bell.1 new_bell.1
          (λ same. differs.1 (sym (ap (λ (n : NotificationState). n.word) same))))
    ]
      where
        before : 1 ≤ old_bell.0.word
        before = let is = ap word-of old_bell.1 in omega (arith, some, is)

        now_word : word-of (after.objects a.queue) ≡ new_bell.0.word
        now_word = ap word-of new_bell.1

        by-change : new_bell.0.word ≢ old_bell.0.word → NotificationChange image u.thread s after a.queue old_bell.0 new_bell.0 → WordLeft
        by-change differs (joins badge names nobody so) =
            stands (let more = word-some old_bell.0.word badge before in let is = ap (λ (n : NotificationState). n.word) so in omega (
              arith,
              more,
              is,
              now_word,
            ))
        by-change differs (passes_on badge first names list word gone) = absurd (differs word)
        by-change differs (taken names so) = taken_by names new_bell.0 new_bell.1 (ap (λ (n : NotificationState). n.waiters) so ∙ nobody)
          where
            nobody : old_bell.0.waiters ≡ []
            nobody = elim (all.sound.threads.idle a.queue old_bell.0 old_bell.1) [
              | inl none ↦ none
              | inr none ↦ absurd (omega (arith, before, none))
            ]
        by-change differs (waits names so) = absurd (differs (ap (λ (n : NotificationState). n.word) so))

    module _ (mine : ThreadState) (point : ℕ) (state : PointState) (answer : AfterCall) (at : CallsAt image u s labels mine point state answer) where
      asks : asked_at image u.thread point state ≡ asked_now s (tcb_of image u)
      asks = asks-so laws.below bytes image s labels accepted u among mine point state answer at

      -- only the thread that acknowledges does so
      who-takes : CallNames image u.thread s (WaitsFor a.queue) → (u ≡ a.thread) × (asked_now s (tcb_of image u) ≡ Takes a.queue)
      who-takes names =
          let says = asks-of image u.thread s after all.sound.slots.derivation.valid (WaitsFor a.queue) names in
          elim (asks-word a.queue names.call (capability_at s.slots names.slot) names.such) [
            | inl one ↦ (a.alone u point state among at.stands.inside at.stands.known (asks ∙ says ∙ one), says ∙ one)
            | inr polls ↦ absurd (a.unpolled u point state among at.stands.inside at.stands.known (asks ∙ says ∙ polls))
          ]

  -- ---- a step of another thread

  module _ (u : Numbered) (among : Contains (numbered_threads image) u) (now : current s ≡ Some (tcb_of image u))
      (apart : tcb_of image u ≢ tcb_of image a.thread) where
    left : Resumed laws.below bytes image s after labels later accepted all well.stands told u (own u among now).within a.thread a.listed
        (λ same. apart (sym same))
    left =
        resumed laws.below bytes image s after labels later accepted all well.stands told u (own u among now).within a.thread a.listed
        (λ same. apart (sym same))

    -- a thread that waits at a point that is not marked goes on to one that is not
    module _ (before : ThreadState) (v : WaitsAt image a.thread s labels before) (way : a.marks (point_now image s a.thread) ≡ false) where
      edge : marks_for number false (a.marks (v.point + 1)) (asked_at image a.thread.thread v.point v.state) ≡ true
      edge =
          subst (λ (b : Bool). marks_for number b (a.marks (v.point + 1)) (asked_at image a.thread.thread v.point v.state) ≡ true)
          (ap a.marks (sym (spot laws.below bytes image s labels accepted all a.thread a.listed before v).0) ∙ way)
          (a.marked v.point v.state (v.point + 1) v.stands.inside v.stands.known
          (leads-on laws.below bytes image s labels accepted all a.thread a.listed before v))

      no-ack : WaitsBy image a.thread.thread v.state v.left (asked_at image a.thread.thread v.point v.state)
          → asked_at image a.thread.thread v.point v.state ≡ Acknowledges number → ⊥
      no-ack (takes_word o r badge named asks_ end) is = let clash : Takes o ≡ Acknowledges number = sym asks_ ∙ is in absurd cc
      no-ack (accepts_from o r badge replies named asks_ end) is = let clash : Accepts o replies ≡ Acknowledges number = sym asks_ ∙ is in absurd cc
      no-ack (sends_there o r badge named asks_ end) is = let clash : SendsTo o ≡ Acknowledges number = sym asks_ ∙ is in absurd cc
      no-ack (calls_there o r badge named asks_ end) is = let clash : Calls o ≡ Acknowledges number = sym asks_ ∙ is in absurd cc

      next-unmarked : a.marks (v.point + 1) ≡ false
      next-unmarked = elim (from-unmarked number (a.marks (v.point + 1)) (asked_at image a.thread.thread v.point v.state) edge) [
        | acknowledges is ↦ absurd (no-ack v.way is)
        | goes_on none ↦ none
      ]

    way-left : Resumed laws.below bytes image s after labels later accepted all well.stands told u (own u among now).within a.thread a.listed
        (λ same. apart (sym same)) → a.marks (point_now image s a.thread) ≡ false → a.marks (point_now image after a.thread) ≡ false
    way-left (as_before alike) way = ap (λ (x : Option Object). a.marks (((thread-of x).registers.pc - base) / 4)) alike ∙ way
    way-left (goes_next before v pc) way =
        ap a.marks (ap (λ (k : ℕ). (k - base) / 4) (pc ∙ waited-pc laws.below bytes image s labels accepted all a.thread a.listed before v)
        ∙ point-of base (v.point + 1)) ∙ next-unmarked before v way
    way-left (waits_on pc never) way = ap (λ (k : ℕ). a.marks ((k - base) / 4)) pc ∙ way
    way-left (set_again queue blocked gone pc) way = ap (λ (k : ℕ). a.marks ((k - base) / 4)) pc ∙ way

    woken-way : Resumed laws.below bytes image s after labels later accepted all well.stands told u (own u among now).within a.thread a.listed
        (λ same. apart (sym same)) → WaitsToTake image a.thread s labels a.queue → (thread_at after tcb).status ≡ Runnable
        → a.marks (point_now image after a.thread) ≡ false
    woken-way (as_before alike) w runs =
        absurd (runs-no-waiter a.queue w (sym (ap (λ (x : Option Object). (thread-of x).status) alike) ∙ runs))
    woken-way (goes_next before v pc) w runs =
        goes-unmarked laws.below bytes image accepted number a s labels a.queue w after
        (pc ∙ ap (λ (x : ThreadState). (x.registers.pc + 4) % 2 ^ 32) (same-thread (s.objects tcb) before w.own v.there w.there))
    woken-way (waits_on pc never) w runs = absurd (never runs)
    woken-way (set_again queue blocked gone pc) w runs =
        let both : Blocked a.queue ≡ Blocked queue =
        sym w.status ∙ sym (ap (λ (x : ThreadState). x.status) (at-place s tcb w.own w.there)) ∙ blocked in
        let same : a.queue ≡ queue = cc in
        let clash : ◌≡◌ {A = Option Object} None (Some (NotificationObject new_bell.0)) = sym gone ∙ ap after.objects (sym same) ∙ new_bell.1 in
        absurd cc

    by-delivered : Delivered laws.below bytes image accepted number a s labels all takes bound after → Tended_now after
    by-delivered (worded some) = has_word some
    by-delivered (passed_on w runs) = under_way (woken-way left w runs)

    module _ (no-take : CallNames image u.thread s (WaitsFor a.queue) → ⊥) where
      by-word : WordLeft u among now → Tended_now after
      by-word (stands some) = has_word some
      by-word (taken_by names new is nobody) = absurd (no-take names)

      by-tended : s.masked number ≡ true → Tended_now s → Tended_now after
      by-tended was (unmasked is) = absurd (let clash : true ≡ false = sym was ∙ is in cc)
      by-tended was (has_word some) = by-word (word-left u among now some)
      by-tended was (under_way way) = under_way (way-left left way)

      other-tended : Tended_now after
      other-tended = elim (after.masked number) as (λ b. after.masked number ≡ b → Tended_now after) [
        | false ↦ λ is. unmasked is
        | true ↦ λ masked. elim (s.masked number) as (λ b. s.masked number ≡ b → Tended_now after) [
          | true ↦ λ was. by-tended was tends.tended
          | false ↦ λ was. by-delivered (delivered (signalled u among now
              (inl (λ same. let clash : false ≡ true = sym was ∙ same ∙ masked in absurd cc)) masked))
        ] refl
      ] refl

      other-keeps : Keeps after
      other-keeps = record { tended = other-tended; masks = masks-after u among now }

    other-calls : MakesCall s (tcb_of image u) → Keeps after
    other-calls makes =
        call-leaves laws.below bytes image u s labels accepted all among now makes (λ _. Keeps after)
        (λ mine point state answer call at _ _ rule.
        other-keeps (λ names. apart (ap (tcb_of image) (who-takes u among now mine point state answer at names).0)))

  -- ---- an instruction that is no system call

  module _ (u : Numbered) (among : Contains (numbered_threads image) u) (now : current s ≡ Some (tcb_of image u))
      (free : ReachesNoCall s (tcb_of image u)) where
    run : RunsAlong image u s
    run = goes-along image u s labels (facts u among) all.sound now free (all.stand u among)

    abbrev moved : State
    moved = with_content (with_registers s (tcb_of image u) (RunsAlong.goes run).registers) (RunsAlong.goes run).content

    abbrev new : Option Object
    new = Some (ThreadObject (record (thread_at s (tcb_of image u)) { registers = (RunsAlong.goes run).registers }))

    moved-word : word-of (moved.objects a.queue) ≡ word-of (s.objects a.queue)
    moved-word =
        ap word-of (put-off s.objects (tcb_of image u) a.queue new
        (λ same. absurd (let clash : Some (NotificationObject old_bell.0) ≡ Some (ThreadObject (RunsAlong.own run)) =
        sym old_bell.1 ∙ ap s.objects same ∙ RunsAlong.there run in cc)))

    other-plain : tcb_of image u ≢ tcb_of image a.thread → Keeps after
    other-plain apart =
        subst Keeps (sym (RunsAlong.goes run).after)
        (same-tends image number a s moved refl refl moved-word
        (ap (λ (x : Option Object). (thread-of x).registers.pc) (put-off s.objects (tcb_of image u) tcb new (λ same. apart (sym same)))) tends)

  -- ---- its own steps

  module _ (now : current s ≡ Some (tcb_of image a.thread)) where
    module _ (free : ReachesNoCall s (tcb_of image a.thread)) where
      abbrev along : RunsAlong image a.thread s
      along = run a.thread a.listed now free

      abbrev here : State
      here = moved a.thread a.listed now free

      way-on : a.marks (point_now image s a.thread) ≡ false → a.marks (point_now image here a.thread) ≡ false
      way-on way =
          let goes = RunsAlong.goes along in
          let stands_ = RunsAlong.stands along in
          let at_point : point_now image s a.thread ≡ RunsAlong.point along =
          ap (λ (x : ThreadState). (x.registers.pc - base) / 4) (at-place s tcb (RunsAlong.own along) (RunsAlong.there along))
          ∙ ap (λ (k : ℕ). (k - base) / 4) stands_.pc ∙ point-of base (RunsAlong.point along) in
          let at_next : point_now image here a.thread ≡ goes.next =
          ap (λ (x : Option Object). ((thread-of x).registers.pc - base) / 4) (put-at s.objects tcb (new a.thread a.listed now free))
          ∙ ap (λ (k : ℕ). (k - base) / 4) (goes.pc ∙ goes.target) ∙ point-of base goes.next in
          ap a.marks at_next
          ∙ stays-unmarked number (a.marks (RunsAlong.point along)) (a.marks goes.next)
          (asked_at image a.thread.thread (RunsAlong.point along) (RunsAlong.state along)) (asks-none image a.thread s along free)
          (ap a.marks (sym at_point) ∙ way)
          (a.marked (RunsAlong.point along) (RunsAlong.state along) goes.next stands_.inside stands_.known
          (record { edge = goes.edge; among = goes.among; inside = goes.inside; target = goes.target }))

      by-plain : Tended_now s → Tended_now here
      by-plain (unmasked is) = unmasked is
      by-plain (has_word some) = has_word (let word = moved-word a.thread a.listed now free in omega (arith, some, word))
      by-plain (under_way way) = under_way (way-on way)

      own-plain : Keeps after
      own-plain = subst Keeps (sym (RunsAlong.goes along).after) (record { tended = by-plain tends.tended; masks = tends.masks })

    module _ (makes : MakesCall s (tcb_of image a.thread)) (mine : ThreadState) (point : ℕ) (state : PointState) (answer : AfterCall)
        (at : CallsAt image a.thread s labels mine point state answer) where
      abbrev asked : Asked
      asked = asked_now s (tcb_of image a.thread)

      asks_it : asked_at image a.thread.thread point state ≡ asked_now s (tcb_of image a.thread)
      asks_it = asks a.thread a.listed now mine point state answer at

      marked : marks_for number (a.marks point) (a.marks (point + 1)) asked ≡ true
      marked = subst (λ (x : Asked). marks_for number (a.marks point) (a.marks (point + 1)) x ≡ true) asks_it
          (a.marked point state (point + 1) at.stands.inside at.stands.known
          (call-leads laws.below bytes image accepted a.thread a.listed point state answer at.stands.inside at.stands.known at.ecall at.call))

      same-own : thread_at s tcb ≡ mine
      same-own = at-place s tcb mine at.there

      at-point : point_now image s a.thread ≡ point
      at-point = ap (λ (x : ThreadState). (x.registers.pc - base) / 4) same-own ∙ ap (λ (k : ℕ). (k - base) / 4) at.stands.pc ∙ point-of base point

      at-next : pc_at after tcb ≡ (pc_at s tcb + 4) % 2 ^ 32 → point_now image after a.thread ≡ point + 1
      at-next pc =
          ap (λ (k : ℕ). (k - base) / 4)
          (pc ∙ ap (λ (x : ThreadState). (x.registers.pc + 4) % 2 ^ 32) same-own ∙ ap (λ (k : ℕ). (k + 4) % 2 ^ 32) at.stands.pc
          ∙ next-address base a.thread.thread.header.words point (laws.below.ends bytes image a.thread accepted a.listed)
          (next-inside laws.below bytes image accepted a.thread a.listed point state answer at.stands.inside at.stands.known at.ecall at.call))
          ∙ point-of base (point + 1)

      -- where it goes on to a point that is not marked, and where it waits at one
      onward : a.marks (point + 1) ≡ false → pc_at after tcb ≡ (pc_at s tcb + 4) % 2 ^ 32 → Tended_now after
      onward next pc = under_way (ap a.marks (at-next pc) ∙ next)

      stays-here : a.marks (point_now image s a.thread) ≡ false → pc_at after tcb ≡ pc_at s tcb → Tended_now after
      stays-here way pc = under_way (ap (λ (k : ℕ). a.marks ((k - base) / 4)) pc ∙ way)

      -- it takes the word
      taken-ends : a.marks (point + 1) ≡ false → (fresh : NotificationState) → after.objects a.queue ≡ Some (NotificationObject fresh)
          → fresh.waiters ≡ [] → TakeEnds s tcb a.queue after → Tended_now after
      taken-ends next fresh is nobody (got_word runs pc) = onward next pc
      taken-ends next fresh is nobody (stays_on status pc) =
          let mine_now = there-is image a.thread after later (well.stands.stand a.thread a.listed) in
          let waits_here : waits_at after tcb a.queue ≡ true =
          ap (λ (x : Option Object). option_map_or (λ u. is_blocked_on a.queue u.status) (as_thread x) false) mine_now.1
          ∙ ap (is_blocked_on a.queue) (sym (ap (λ (x : ThreadState). x.status) (at-place after tcb mine_now.0 mine_now.1)) ∙ status)
          ∙ eq-eqb a.queue a.queue refl in
          let counted : times_in [] tcb ≡ 1 =
          sym (ap (λ (l : List ℕ). times_in l tcb) nobody) ∙ ap (λ (l : List ℕ). times_in l tcb) (sym (ap waiting_at is))
          ∙ well.stands.sound.threads.queued tcb a.queue ∙ ap (λ (b : Bool). if b then 1 else 0) waits_here in
          absurd (omega (arith, counted))

      by-delivery : Delivered laws.below bytes image accepted number a s labels all takes bound after → Tended_now after
      by-delivery (worded some) = has_word some
      by-delivery (passed_on w runs) = absurd (runs-no-waiter a.queue w (ap (λ (x : ThreadState). x.status) same-own ∙ at.status))

      by-left : WordLeft a.thread a.listed now → Tended_now after
      by-left (stands some) = has_word some
      by-left (taken_by names fresh is nobody) =
          let who = who-takes a.thread a.listed now mine point state answer at names in
          taken-ends (at-take number (a.marks point) (a.marks (point + 1)) asked a.queue who.1 marked).1 fresh is nobody
          (waits_so laws steps told bytes image accepted s labels all stay a.thread a.listed now makes mine point state answer at a.queue who.1)

      by-ack : after.masked number ≡ true → Acked s number after → Tended_now after
      by-ack masked (opened is) = absurd (let clash : true ≡ false = sym masked ∙ is in cc)
      by-ack masked (cleared was is) =
          by-delivery (delivered (signalled a.thread a.listed now (inr (λ same. let clash : true ≡ false = sym was ∙ same ∙ is in absurd cc)) masked))

      -- the thread is not stopped, and after a call that does not wait it runs
      never-stops : (thread_at after tcb).status ≡ Inactive → ⊥
      never-stops stops = by-invariant (well.stands.stand a.thread a.listed)
        where
          by-invariant : ThreadInvariant image a.thread after later → ⊥
          by-invariant (invariant_runs other p st there status stood budget) =
              let clash : Inactive ≡ Runnable = sym stops ∙ ap (λ (u : ThreadState). u.status) (at-place after tcb other there) ∙ status in absurd cc
          by-invariant (invariant_waits other p st there status stood asks_ none) =
              let never : IsWaiting Inactive =
              subst IsWaiting (sym (ap (λ (u : ThreadState). u.status) (at-place after tcb other there)) ∙ stops) status in
              never

      free-runs : may_wait asked ≡ false → is_runnable (thread_at after tcb).status ≡ true
      free-runs free = by-invariant (well.stands.stand a.thread a.listed)
        where
          by-invariant : ThreadInvariant image a.thread after later → is_runnable (thread_at after tcb).status ≡ true
          by-invariant (invariant_runs other p st there status stood budget) =
              ap (λ (u : ThreadState). is_runnable u.status) (at-place after tcb other there) ∙ ap is_runnable status
          by-invariant (invariant_waits other p st there status stood asks_ none) =
              absurd (let more = own-count image s labels a.thread now makes mine point state answer at free in omega (arith, more, none))

      module _ (way : a.marks (point_now image s a.thread) ≡ false) (next : a.marks (point + 1) ≡ false) where
        free-ends : may_wait asked ≡ false → Tended_now after
        free-ends free =
            onward next
            (goes laws steps told bytes image accepted s labels all stay a.thread a.listed now makes mine point state answer at free (free-runs free))

        sent-ends : (e : ℕ) (is_call : Bool) → SendEnds s tcb e is_call after → Tended_now after
        sent-ends e is_call (sent_passed status pc) = onward next pc
        sent-ends e is_call (sent_queued status kept q is nobody) = stays-here way (stays-pc s after tcb kept)
        sent-ends e is_call (sent_awaits y rest status kept so first right) = stays-here way (stays-pc s after tcb kept)
        sent-ends e is_call (sent_stopped status) = absurd (never-stops status)

        received-ends : (e : ℕ) → ReceiveEnds s tcb e after → Tended_now after
        received-ends e (got_one first others status pc head gone right message got) = onward next pc
        received-ends e (stays_there status pc none) = stays-here way pc

        by-asked : (x : Asked) → asked_now s tcb ≡ x → Tended_now after
        by-asked (Takes o) is =
            let at_take = at-take number (a.marks point) (a.marks (point + 1)) asked o is marked in
            absurd (let clash : true ≡ false = sym at_take.0 ∙ sym (ap a.marks at-point) ∙ way in cc)
        by-asked (Accepts o replies) is =
            received-ends o (accepts laws steps told bytes image accepted s labels all stay a.thread a.listed now makes mine point state answer at o replies is)
        by-asked (SendsTo o) is =
            sent-ends o false (sends laws steps told bytes image accepted s labels all stay a.thread a.listed now makes mine point state answer at o is)
        by-asked (Calls o) is =
            sent-ends o true (calls laws steps told bytes image accepted s labels all stay a.thread a.listed now makes mine point state answer at o is)
        by-asked (Polls o) is = free-ends (ap may_wait is)
        by-asked (Rings o) is = free-ends (ap may_wait is)
        by-asked (Acknowledges line) is = free-ends (ap may_wait is)
        by-asked (Looks o) is = free-ends (ap may_wait is)
        by-asked (Tries o) is = free-ends (ap may_wait is)
        by-asked Answers is = free-ends (ap may_wait is)
        by-asked Asks_nothing is = free-ends (ap may_wait is)

      by-way : after.masked number ≡ true → a.marks (point_now image s a.thread) ≡ false → Tended_now after
      by-way masked way =
          elim (from-unmarked number (a.marks (point + 1)) asked
          (subst (λ (b : Bool). marks_for number b (a.marks (point + 1)) asked ≡ true) (ap a.marks (sym at-point) ∙ way) marked)) [
            | acknowledges is ↦
                by-ack masked (acked laws bytes image s labels accepted all a.thread a.listed now number
                (record { notification = a.queue; badge = a.badge }) bound is makes)
            | goes_on next ↦ by-asked way next asked refl
          ]

      by-own : after.masked number ≡ true → s.masked number ≡ true → Tended_now s → Tended_now after
      by-own masked was (unmasked is) = absurd (let clash : true ≡ false = sym was ∙ is in cc)
      by-own masked was (has_word some) = by-left (word-left a.thread a.listed now some)
      by-own masked was (under_way way) = by-way masked way

      own-tended : Tended_now after
      own-tended = elim (after.masked number) as (λ b. after.masked number ≡ b → Tended_now after) [
        | false ↦ λ is. unmasked is
        | true ↦ λ masked. elim (s.masked number) as (λ b. s.masked number ≡ b → Tended_now after) [
          | true ↦ λ was. by-own masked was tends.tended
          | false ↦ λ was. by-delivery (delivered (signalled a.thread a.listed now
              (inl (λ same. let clash : false ≡ true = sym was ∙ same ∙ masked in absurd cc)) masked))
        ] refl
      ] refl

    own-calls : MakesCall s (tcb_of image a.thread) → Keeps after
    own-calls makes =
        call-leaves laws.below bytes image a.thread s labels accepted all a.listed now makes (λ _. Keeps after)
        (λ mine point state answer call at _ _ rule.
        record { tended = own-tended makes mine point state answer at; masks = masks-after a.thread a.listed now })

  -- ---- any step

  pub step-tends : Tends image number a (step s Step).0
  step-tends =
      step-cases image s labels all (Keeps after) (λ idle. subst Keeps (sym (ap (λ (x : State × Label). x.0) (idle-is s idle))) tends)
      (λ u among now makes. elim (eqb_tells (tcb_of image u) tcb) [
        | inl here ↦ own-calls (now ∙ ap (λ (k : ℕ). Some k) here.1) (subst (MakesCall s) here.1 makes)
        | inr apart ↦ other-calls u among now apart.1 makes
      ])
      (λ u among now free. elim (eqb_tells (tcb_of image u) tcb) [
        | inl here ↦ own-plain (now ∙ ap (λ (k : ℕ). Some k) here.1) (subst (ReachesNoCall s) here.1 free)
        | inr apart ↦ other-plain u among now free apart.1
      ])
