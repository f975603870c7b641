-- A step of a thread, whatever it asks: who waits is where it asked for that, and of a thread of the level it is work.
use Rattle.std.proofs.Common.{ℕ, ◌≡◌, ◌≢◌, ◌∙◌, ◌⊎◌, ◌==◌, ◌+◌, ◌%◌, ◌^◌, ◌<◌, ◌≤◌, ◌++◌, inl, inr, Bool, true, false, Option, Some, Ok, List, [], ◌∷◌}
use Rattle.std.proofs.Common.{refl, sym, ap, subst, arith}
use Rattle.std.specs.Prelude.{Contains}
use Rattle.std.proofs.lemmas.Bool.Decides.{eqb_tells}
use Rattle.model.specs.declared.capabilities.Cap.TheVariants.{Endpoint, Notification}
use Rattle.model.specs.declared.events.Event.TheVariants.{Step}
use Rattle.model.specs.declared.instructions.Instr.{Instr}
use Rattle.model.specs.declared.labels.Label.{Label}
use Rattle.model.specs.declared.labels.Label.TheVariants.{Ran}
use Rattle.model.specs.declared.rights.Rights.{Rights}
use Rattle.model.specs.Acceptance.Accepted.{IsAccepted}
use Rattle.model.specs.Acceptance.Authority.{StaysWithin, computed}
use Rattle.model.specs.Acceptance.CallRules.{AfterCall}
use Rattle.model.specs.Acceptance.NotedStates.{PointState}
use Rattle.model.specs.Acceptance.ThreadInvariants.{ThreadInvariant, runs, tcb_of, waits}
use Rattle.model.specs.Capabilities.Slots.{capability_at}
use Rattle.model.specs.Images.Described.{Numbered, described, numbered_threads}
use Rattle.model.specs.Images.Image.{Image}
use Rattle.model.specs.Kernel.AddressSpaces.{content_of}
use Rattle.model.specs.Kernel.Interrupts.{binding}
use Rattle.model.specs.Kernel.Kinds.{object_named}
use Rattle.model.specs.Kernel.Retype.{NewEndpoint, NewNotification}
use Rattle.model.specs.Kernel.Scheduling.{current, is_runnable}
use Rattle.model.specs.Kernel.State.{AwaitsReply, Blocked, EndpointObject, EndpointState, Inactive, NotificationObject, NotificationState}
use Rattle.model.specs.Kernel.State.{Object}
use Rattle.model.specs.Kernel.State.{Runnable, State, ThreadObject, ThreadState, notification_at, thread_at}
use Rattle.model.specs.Kernel.Steps.{memory_base, named_slot, registers_of, step, system_call}
use Rattle.model.specs.Kernel.Waits.{is_fault, open_count}
use Rattle.model.specs.Machine.Effects.{effect}
use Rattle.soundness.proofs.Laws.{current-runs, endpoint-kind, notification-kind}
use Rattle.headline.proofs.Laws.{at-place, call-leaves}
use Rattle.headline.specs.facts.Standing.{AllStand}
use Rattle.headline.specs.invocations.Laws.{AnyStepGoesWell, Laws}
use Rattle.headline.specs.moves.Moving.{CallsAt}
use Rattle.headline.specs.moves.Steps.{GoesWell, MakesCall}
use Rattle.headline.specs.steps.Points.{ReachesNoCall}
use Rattle.response.specs.Asking.{Accepts, Acknowledges, Answers, Asked, Asks_nothing, Calls, Looks, Polls, Rings, SendsTo, Takes, Tries}
use Rattle.response.specs.Laws.{WaitsToTake}
use Rattle.response.specs.Levels.{is_of_level}
use Rattle.response.specs.Left.{at_rest, irq_lines, left}
use Rattle.response.specs.Owed.{OweBelow, PayAnswers, StepsFitWith, WaitsWhereAsked, at_rest_with, is_call, owed, owed_of_thread, work}
use Rattle.response.specs.Weights.{Pays, Weights, waits_for_no_message}
use Rattle.response.proofs.AskedNow.{asked_now, may_wait}
use Rattle.response.proofs.AskedSteps.{asked-same, others-asked, own-asked, runs-vacuous, vacuous}
use Rattle.response.proofs.CallLabels.{called-is, called-label, others-count, own-count}
use Rattle.response.proofs.Interrupts.{put-at, put-off, thread-of, word-of}
use Rattle.response.proofs.MessageCalls.{call-works}
use Rattle.response.proofs.MessageRests.{message-rests, owed-rests, runs-is}
use Rattle.response.proofs.NamedNow.{asks-so}
use Rattle.response.proofs.OwedEvents.{owed-computes}
use Rattle.response.proofs.OwnAuthority.{OwnAuthority, own-authority}
use Rattle.response.proofs.OwnCalls.{pc_at}
use Rattle.response.proofs.OwnMessages.{ReceiveEnds, SendEnds, TakeEnds, accepts-so, sent_awaits, calls-so, sent_passed, sent_queued, sends-so, sent_stopped}
use Rattle.response.proofs.OwnMessages.{takes-so, got_one, got_word}
use Rattle.response.proofs.OwnMessages.{stays-pc, stays_on, stays_there}
use Rattle.response.proofs.OwnSteps.{bells-apart, doors-apart, goes-on}
use Rattle.response.proofs.Stage.{rest-left}
use Rattle.response.proofs.Taken.{call-takes}
use Rattle.response.proofs.WaitingThreads.{asks-there}

free-none : (a : Asked) → may_wait a ≡ false → waits_for_no_message a ≡ true
free-none (Takes o) free = absurd (let clash : true ≡ false = free in cc)
free-none (Accepts o replies) free = absurd (let clash : true ≡ false = free in cc)
free-none (SendsTo o) free = absurd (let clash : true ≡ false = free in cc)
free-none (Calls o) free = absurd (let clash : true ≡ false = free in cc)
free-none (Polls o) free = refl
free-none (Rings o) free = refl
free-none (Acknowledges number) free = refl
free-none (Looks o) free = refl
free-none (Tries o) free = refl
free-none Answers free = refl
free-none Asks_nothing free = refl

module _ (laws : Laws) (steps : AnyStepGoesWell) (told : (a b : ThreadState) → (a ≡ b) ⊎ (a ≢ b)) (bytes : List ℕ) (image : Image)
    (accepted : IsAccepted bytes image) (s : State) (labels : List Label) (all : AllStand image s labels) (stay : StaysWithin image s Step (step s Step).0)
    (t : Numbered) (listed : Contains (numbered_threads image) t) (now : current s ≡ Some (tcb_of image t)) where
  abbrev tcb : ℕ
  tcb = tcb_of image t

  abbrev after : State
  after = (step s Step).0

  abbrev later : List Label
  later = labels ++ (step s Step).1 ∷ []

  pub well : GoesWell image s labels Step
  well = steps bytes image s labels accepted all

  pub own : OwnAuthority image t s after
  own = own-authority bytes image accepted laws.below.own_blocks t listed s after now stay

  -- ---- a system call

  module _ (makes : MakesCall s (tcb_of image t)) where
    counts : (thread : ℕ) → thread ≢ tcb → open_count thread later ≡ open_count thread labels
    counts = others-count image s labels t now makes

    after-is : after ≡ (system_call s tcb).0
    after-is = called-is image s labels t now makes

    fine : is_fault (Ran (memory_base + tcb) (registers_of s tcb).pc (system_call s tcb).1) ≡ false
    fine = sym (ap is_fault (called-label image s labels t now makes)) ∙ well.faults

    module _ (mine : ThreadState) (point : ℕ) (state : PointState) (answer : AfterCall) (at : CallsAt image t s labels mine point state answer) where
      abbrev asked : Asked
      asked = asked_now s (tcb_of image t)

      notes : (slot o : ℕ) (r : Rights) (badge : ℕ) → named_slot s tcb ≡ Ok slot → capability_at s.slots slot ≡ Notification o r badge
          → (n : NotificationState) × (s.objects o ≡ Some (NotificationObject n))
      notes slot o r badge named is = notification-kind (s.objects o) (all.sound.memory.named slot NewNotification o (ap object_named is))

      gates : (slot e : ℕ) (r : Rights) (badge : ℕ) → named_slot s tcb ≡ Ok slot → capability_at s.slots slot ≡ Endpoint e r badge
          → (q : EndpointState) × (s.objects e ≡ Some (EndpointObject q))
      gates slot e r badge named is = endpoint-kind (s.objects e) (all.sound.memory.named slot NewEndpoint e (ap object_named is))

      pub sends : (e : ℕ) → asked ≡ SendsTo e → SendEnds s tcb e false after
      sends e asks =
          subst (λ (x : State). SendEnds s tcb e false x) (sym after-is)
          (sends-so s tcb mine at.there at.status (memory_base + tcb) (registers_of s tcb).pc
          (bells-apart laws bytes image s labels accepted all t listed mine at.there at.status)
          (doors-apart laws bytes image s labels accepted all t listed mine at.there at.status) gates e asks fine)

      pub calls : (e : ℕ) → asked ≡ Calls e → SendEnds s tcb e true after
      calls e asks =
          subst (λ (x : State). SendEnds s tcb e true x) (sym after-is)
          (calls-so s tcb mine at.there at.status (memory_base + tcb) (registers_of s tcb).pc
          (bells-apart laws bytes image s labels accepted all t listed mine at.there at.status)
          (doors-apart laws bytes image s labels accepted all t listed mine at.there at.status) gates e asks fine)

      pub accepts : (e : ℕ) (replies : Bool) → asked ≡ Accepts e replies → ReceiveEnds s tcb e after
      accepts e replies asks =
          subst (λ (x : State). ReceiveEnds s tcb e x) (sym after-is)
          (accepts-so s tcb mine at.there at.status (memory_base + tcb) (registers_of s tcb).pc
          (bells-apart laws bytes image s labels accepted all t listed mine at.there at.status)
          (doors-apart laws bytes image s labels accepted all t listed mine at.there at.status) gates e replies asks fine)

      pub waits_so : (o : ℕ) → asked ≡ Takes o → TakeEnds s tcb o after
      waits_so o asks =
          subst (λ (x : State). TakeEnds s tcb o x) (sym after-is)
          (takes-so s tcb mine at.there at.status (memory_base + tcb) (registers_of s tcb).pc
          (bells-apart laws bytes image s labels accepted all t listed mine at.there at.status)
          (doors-apart laws bytes image s labels accepted all t listed mine at.there at.status) gates o asks fine)

      taken : (o : ℕ) → asked ≡ Takes o → is_runnable (thread_at after tcb).status ≡ true
          → ((notification_at s o).word == 0 ≡ false) × (word-of (after.objects o) ≡ 0)
      taken o asks runs_ =
          let both = call-takes s tcb mine at.there at.status (memory_base + tcb) (registers_of s tcb).pc
          (bells-apart laws bytes image s labels accepted all t listed mine at.there at.status) notes o asks fine
          (sym (ap (λ (x : State). is_runnable (thread_at x tcb).status) after-is) ∙ runs_) in
          (both.0, ap (λ (x : State). word-of (x.objects o)) after-is ∙ both.1)

      pub goes : may_wait asked ≡ false → is_runnable (thread_at after tcb).status ≡ true → pc_at after tcb ≡ (pc_at s tcb + 4) % 2 ^ 32
      goes free = goes-on laws bytes image s labels accepted all t listed mine at.there at.status now makes (free-none asked free) well.faults

      pub count : may_wait asked ≡ false → open_count tcb later ≡ open_count tcb labels + 1
      count = own-count image s labels t now makes mine point state answer at

      -- ---- where it waits it asked for that

      abbrev Asks : Type 0
      Asks = WaitsWhereAsked image t after

      runs-before : (thread_at s tcb).status ≡ Runnable
      runs-before = ap (λ (u : ThreadState). u.status) (at-place s tcb mine at.there) ∙ at.status

      runs-after : (thread_at after tcb).status ≡ Runnable → Asks
      runs-after is = runs-vacuous image t after well.stands.sound is

      waits-after : (pc_at after tcb ≡ pc_at s tcb) → ((thread_at after tcb).status ≡ AwaitsReply → is_call asked ≡ true) → Asks
      waits-after pc answer_so =
          own-asked image s after labels later all well.stands t listed own.within runs-before asked refl
          (asked-same image t s after pc ∙ (asks-there image t s mine point state at.there at.stands).1
          ∙ asks-so laws.below bytes image s labels accepted t listed mine point state answer at) answer_so

      blocked-no : (queue : ℕ) → (thread_at after tcb).status ≡ Blocked queue → (thread_at after tcb).status ≡ AwaitsReply → is_call asked ≡ true
      blocked-no queue is so = absurd (let clash : Blocked queue ≡ AwaitsReply = sym is ∙ so in cc)

      by-send : (e : ℕ) (is_caller : Bool) → (is_caller ≡ true → is_call asked ≡ true) → SendEnds s tcb e is_caller after → Asks
      by-send e is_caller called (sent_passed status pc) = runs-after status
      by-send e is_caller called (sent_queued status kept q is nobody) = waits-after (stays-pc s after tcb kept) (blocked-no e status)
      by-send e is_caller called (sent_awaits y rest status kept so first right) = waits-after (stays-pc s after tcb kept) (λ _. called so)
      by-send e is_caller called (sent_stopped status) =
          vacuous image t after well.stands.sound Inactive status (λ clash. absurd (let c : Inactive ≡ AwaitsReply = clash in cc))
          (λ queue clash. absurd (let c : Inactive ≡ Blocked queue = clash in cc))

      by-accept : (e : ℕ) → ReceiveEnds s tcb e after → Asks
      by-accept e (got_one first others status pc head gone right message got) = runs-after status
      by-accept e (stays_there status pc nobody) = waits-after pc (blocked-no e status)

      by-take : (o : ℕ) → TakeEnds s tcb o after → Asks
      by-take o (got_word runs_ pc) = runs-after (runs-is (thread_at after tcb).status runs_)
      by-take o (stays_on status pc) = waits-after pc (blocked-no o status)

      by-free : may_wait asked ≡ false → Asks
      by-free free = by-invariant (well.stands.stand t listed)
        where
          by-invariant : ThreadInvariant image t after later → Asks
          by-invariant (runs other p st there status stands budget) =
              runs-after (ap (λ (u : ThreadState). u.status) (at-place after tcb other there) ∙ status)
          by-invariant (waits other p st there status stands asks none) =
              absurd (let more = count free in omega (arith, more, none))

      own-asked-by : (a : Asked) → asked ≡ a → Asks
      own-asked-by (Takes o) is = by-take o (waits_so o is)
      own-asked-by (Accepts o replies) is = by-accept o (accepts o replies is)
      own-asked-by (SendsTo e) is = by-send e false (λ denied. absurd (let clash : false ≡ true = denied in cc)) (sends e is)
      own-asked-by (Calls e) is = by-send e true (λ _. ap is_call is) (calls e is)
      own-asked-by (Polls o) is = by-free (ap may_wait is)
      own-asked-by (Rings o) is = by-free (ap may_wait is)
      own-asked-by (Acknowledges number) is = by-free (ap may_wait is)
      own-asked-by (Looks o) is = by-free (ap may_wait is)
      own-asked-by (Tries o) is = by-free (ap may_wait is)
      own-asked-by Answers is = by-free (ap may_wait is)
      own-asked-by Asks_nothing is = by-free (ap may_wait is)

      own-asked-after : Asks
      own-asked-after = own-asked-by asked refl

      -- ---- and it is work

      module _ (priority : ℕ) (w : Weights) (pays : Pays image priority w) (answers : PayAnswers image priority w)
          (takes : (u : Numbered) (queue : ℕ) (n : NotificationState) (others : List ℕ) → Contains (numbered_threads image) u
          → s.objects queue ≡ Some (NotificationObject n) → n.waiters ≡ tcb_of image u ∷ others → WaitsToTake image u s labels queue)
          (where_asked : (u : Numbered) → Contains (numbered_threads image) u → WaitsWhereAsked image u s)
          (bound : (number : ℕ) → number < 64 → binding (step s Step).0 number ≡ binding s number) where
        works-at : is_of_level priority t ≡ true → open_count (tcb_of image t) labels + 1 ≤ t.thread.header.budget
            → work image priority w after later + 1 ≤ work image priority w s labels
        works-at level spent =
            call-works laws.below bytes image accepted priority w pays s after labels later all well.stands told t listed own.within takes where_asked counts
            bound answers level mine point state answer at count goes sends calls accepts waits_so taken spent

    -- the thread itself
    call-asked : WaitsWhereAsked image t after
    call-asked =
        call-leaves laws.below bytes image t s labels accepted all listed now makes (λ _. WaitsWhereAsked image t after)
        (λ mine point state answer call at _ _ rule. own-asked-after mine point state answer at)

    pub works-so : (priority : ℕ) (w : Weights) (pays : Pays image priority w) (answers : PayAnswers image priority w)
        (takes : (u : Numbered) (queue : ℕ) (n : NotificationState) (others : List ℕ) → Contains (numbered_threads image) u
        → s.objects queue ≡ Some (NotificationObject n) → n.waiters ≡ tcb_of image u ∷ others → WaitsToTake image u s labels queue)
        (where_asked : (u : Numbered) → Contains (numbered_threads image) u → WaitsWhereAsked image u s)
        (bound : (number : ℕ) → number < 64 → binding (step s Step).0 number ≡ binding s number)
        → is_of_level priority t ≡ true → open_count (tcb_of image t) labels + 1 ≤ t.thread.header.budget
        → work image priority w (step s Step).0 (labels ++ (step s Step).1 ∷ []) + 1 ≤ work image priority w s labels
    works-so priority w pays answers takes where_asked bound level spent =
        call-leaves laws.below bytes image t s labels accepted all listed now makes
        (λ _. work image priority w after later + 1 ≤ work image priority w s labels)
        (λ mine point state answer call at _ _ rule.
        works-at mine point state answer at priority w pays answers takes where_asked bound level spent)

  -- an instruction that is no system call owes no more
  pub plain-owes : (priority : ℕ) (w : Weights) → ReachesNoCall s (tcb_of image t) → owed image priority w (step s Step).0 ≤ owed image priority w s
  plain-owes priority w free =
      let alone = own.plain (λ makes. free makes.word makes.fetched makes.call) in
      subst (λ (x : State). owed image priority w x ≤ owed image priority w s) (sym alone.is)
      (owed-computes image priority w s t (runs-is (thread_at s tcb).status (current-runs s all.sound.threads tcb now).runs) alone.instruction)

  -- ---- a step of a thread below

  module _ (priority : ℕ) (w : Weights) (pays : Pays image priority w)
      (takes : (u : Numbered) (queue : ℕ) (n : NotificationState) (others : List ℕ) → Contains (numbered_threads image) u
      → s.objects queue ≡ Some (NotificationObject n) → n.waiters ≡ tcb_of image u ∷ others → WaitsToTake image u s labels queue)
      (where_asked : (u : Numbered) → Contains (numbered_threads image) u → WaitsWhereAsked image u s)
      (bound : (number : ℕ) → number < 64 → binding (step s Step).0 number ≡ binding s number)
      (is_taken : ℕ → Bool) (owed_most : ℕ → ℕ) (owe : OweBelow image priority w is_taken owed_most)
      (owes : (u : Numbered) → Contains (numbered_threads image) u → owed_of_thread image priority w s u ≤ owed_most u.number)
      (described_so : (number : ℕ) → Contains irq_lines number → binding s number ≡ binding (described image) number)
      (below : is_of_level priority t ≡ false)
      (rests : (u : Numbered) → Contains (numbered_threads image) u → is_of_level priority u ≡ true
      → is_runnable (thread_at s (tcb_of image u)).status ≡ true → ⊥)
      (taken_none : (queue : ℕ) (n : NotificationState) → is_taken queue ≡ true → s.objects queue ≡ Some (NotificationObject n) → n.word ≡ 0)
      (is_open : ℕ → Bool)
      (silent : (number : ℕ) → Contains irq_lines number → is_open number ≡ true → s.pending number ≡ false)
      (most : ℕ) (fit : StepsFitWith image priority w is_taken is_open owed_most most) (rest : at_rest_with image w is_taken is_open owed_most ≤ most) where
    pub call-rests-so : MakesCall s (tcb_of image t) → work image priority w (step s Step).0 (labels ++ (step s Step).1 ∷ []) ≤ most
    call-rests-so makes =
        call-leaves laws.below bytes image t s labels accepted all listed now makes (λ _. work image priority w after later ≤ most)
        (λ mine point state answer call at _ _ rule.
        message-rests laws.below bytes image accepted priority w pays s after labels later all well.stands told t listed own.within takes where_asked
        (counts makes) bound is_taken owed_most owe owes described_so below rests taken_none is_open silent mine point state answer at
        (count makes mine point state answer at) (sends makes mine point state answer at) (calls makes mine point state answer at)
        (accepts makes mine point state answer at) (waits_so makes mine point state answer at) most fit rest)

    -- an instruction changes the thread's registers, and bytes
    module _ (instruction : Instr) where
      abbrev moved_on : State
      moved_on = computed s (tcb_of image t) instruction

      abbrev new : ThreadState
      new = record (thread_at s (tcb_of image t)) {
        registers = (effect (registers_of s (tcb_of image t)) (content_of s (tcb_of image t)) instruction).registers;
      }

      other-thread : (u : Numbered) → Contains (numbered_threads image) u → is_of_level priority u ≡ true → tcb_of image u ≢ tcb
      other-thread u among level same =
          let clash : false ≡ true = sym below ∙ ap (is_of_level priority) (sym (laws.below.own_blocks bytes image u t accepted among listed same)) ∙ level in
          absurd cc

      still-rests : (u : Numbered) → Contains (numbered_threads image) u → is_of_level priority u ≡ true
          → is_runnable (thread_at moved_on (tcb_of image u)).status ≡ true → ⊥
      still-rests u among level runs_ =
          rests u among level (sym (ap (λ (o : Option Object). is_runnable (thread-of o).status)
          (put-off s.objects tcb (tcb_of image u) (Some (ThreadObject new)) (other-thread u among level))) ∙ runs_)

      still-taken : (queue : ℕ) (n : NotificationState) → is_taken queue ≡ true → moved_on.objects queue ≡ Some (NotificationObject n) → n.word ≡ 0
      still-taken queue n here is = elim (eqb_tells queue tcb) [
        | inl self ↦ absurd (let clash : Some (ThreadObject new) ≡ Some (NotificationObject n) = sym (put-at s.objects tcb (Some (ThreadObject new)))
            ∙ ap moved_on.objects (sym self.1) ∙ is in cc)
        | inr apart ↦ taken_none queue n here (sym (put-off s.objects tcb queue (Some (ThreadObject new)) apart.1) ∙ is)
      ]

      moved-rests : left image priority w moved_on later ≤ at_rest image w is_taken is_open
      moved-rests = rest-left image priority w moved_on later still-rests described_so is_taken still-taken is_open silent

    pub plain-rests-so : ReachesNoCall s (tcb_of image t) → work image priority w (step s Step).0 (labels ++ (step s Step).1 ∷ []) ≤ most
    plain-rests-so free =
        let alone = own.plain (λ makes. free makes.word makes.fetched makes.call) in
        let less : left image priority w after later ≤ at_rest image w is_taken is_open =
        subst (λ (x : State). left image priority w x later ≤ at_rest image w is_taken is_open) (sym alone.is) (moved-rests alone.instruction) in
        let more = plain-owes priority w free in
        let owing = owed-rests image priority w owed_most s owes in
        omega (arith, less, more, owing, rest)

  -- ---- any other instruction leaves it running

  plain-asked : ReachesNoCall s (tcb_of image t) → WaitsWhereAsked image t after
  plain-asked free =
      let alone = own.plain (λ makes. free makes.word makes.fetched makes.call) in
      let moved = (effect (registers_of s tcb) (content_of s tcb) alone.instruction).registers in
      runs-vacuous image t after well.stands.sound
      (ap (λ (x : State). (thread_at x tcb).status) alone.is
      ∙ ap (λ (o : Option Object). (thread-of o).status) (put-at s.objects tcb (Some (ThreadObject (record (thread_at s tcb) { registers = moved }))))
      ∙ runs-is (thread_at s tcb).status (current-runs s all.sound.threads tcb now).runs)

  -- ---- all threads

  others-so : (u : Numbered) → Contains (numbered_threads image) u → tcb_of image u ≢ tcb → WaitsWhereAsked image u s → WaitsWhereAsked image u after
  others-so u among apart asked_so = others-asked image s after labels later all well.stands t listed own.within u among apart asked_so told

  each-so : WaitsWhereAsked image t after → (u : Numbered) → Contains (numbered_threads image) u → WaitsWhereAsked image u s → WaitsWhereAsked image u after
  each-so mine u among asked_so = elim (eqb_tells (tcb_of image u) tcb) [
    | inl here ↦ subst (λ (x : Numbered). WaitsWhereAsked image x after) (sym (laws.below.own_blocks bytes image u t accepted among listed here.1)) mine
    | inr apart ↦ others-so u among apart.1 asked_so
  ]

  pub calls-asked : MakesCall s (tcb_of image t) → (u : Numbered) → Contains (numbered_threads image) u → WaitsWhereAsked image u s
      → WaitsWhereAsked image u (step s Step).0
  calls-asked makes u among asked_so = each-so (call-asked makes) u among asked_so

  pub plain-asked-so : ReachesNoCall s (tcb_of image t) → (u : Numbered) → Contains (numbered_threads image) u → WaitsWhereAsked image u s
      → WaitsWhereAsked image u (step s Step).0
  plain-asked-so free u among asked_so = each-so (plain-asked free) u among asked_so
