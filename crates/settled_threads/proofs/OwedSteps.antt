-- Over one step whoever waits for an answer is owed it: the server keeps its right until it answers, and who begins to wait gives it.
use Rattle.std.proofs.Common.{ℕ, ◌≡◌, ◌≢◌, ◌∙◌, ◌⊎◌, ◌==◌, ◌+◌, ◌-◌, ◌/◌, ◌%◌, ◌^◌, ◌||◌, ◌++◌, map, inl, inr, not, Bool, true, false, if◌then◌else◌, Option}
use Rattle.std.proofs.Common.{Some, None, List, [], ◌∷◌, refl, sym, ap, subst, arith}
use Rattle.std.specs.Prelude.{Contains, IsTrue, Result, is_some}
use Rattle.std.specs.Option.{option_map_or}
use Rattle.std.proofs.lemmas.Bool.{and_parts, eq-eqb}
use Rattle.std.proofs.lemmas.Bool.Decides.{eqb_tells}
use Rattle.model.specs.declared.capabilities.Cap.{Cap}
use Rattle.model.specs.declared.events.Event.TheVariants.{Step}
use Rattle.model.specs.declared.instructions.Instr.{Instr}
use Rattle.model.specs.declared.labels.Label.{Label}
use Rattle.model.specs.declared.labels.Label.TheVariants.{Ran}
use Rattle.model.specs.declared.lookup_failures.LookupFailure.{LookupFailure}
use Rattle.model.specs.declared.ranges.Range.{Range}
use Rattle.model.specs.declared.system_calls.ReceiveCall.TheVariants.{Polling, Receiving}
use Rattle.model.specs.declared.system_calls.SystemCall.{SystemCall}
use Rattle.model.specs.declared.system_calls.SystemCall.TheVariants.{PutsCharacter, Receives, Replies, RepliesAndReceives, Sends, Yields}
use Rattle.model.specs.Acceptance.Accepted.{IsAccepted}
use Rattle.model.specs.Acceptance.Authority.{CallNames, StaysWithin, badge_of, self_of}
use Rattle.model.specs.Acceptance.CallRules.{AfterCall}
use Rattle.model.specs.Acceptance.Edges.{Edge, after as after_instr}
use Rattle.model.specs.Acceptance.NotedStates.{PointState}
use Rattle.model.specs.Acceptance.PointStates.{address_of, instruction_at, noted}
use Rattle.model.specs.Acceptance.ThreadInvariants.{IsWaiting, LieWithin, ThreadInvariant, runs, tcb_of, waits}
use Rattle.model.specs.Capabilities.Slots.{capability_at}
use Rattle.model.specs.Images.Described.{Numbered, numbered_threads}
use Rattle.model.specs.Images.Image.{Image, Thread}
use Rattle.model.specs.Kernel.AddressSpaces.{with_content}
use Rattle.model.specs.Kernel.Deliveries.{Reason, ReceivesFrom, TakesSender, caller, faulted, once_received, receiver, sender, set_back, waiter}
use Rattle.model.specs.Kernel.Deliveries.{woken}
use Rattle.model.specs.Kernel.Kinds.{object_named}
use Rattle.model.specs.Kernel.Messages.{a0, message_between, message_of, resumption, with_registers}
use Rattle.model.specs.Kernel.Retype.{NewEndpoint, NewNotification}
use Rattle.model.specs.Kernel.Scheduling.{current, is_runnable}
use Rattle.model.specs.Kernel.Soundness.{ThreadIsSound, awaits_answer, waiting_at}
use Rattle.model.specs.Kernel.State.{AwaitsHandler, AwaitsReply, Blocked, ByCall, ByFault, BySend, CNodeObject, EndpointObject, EndpointState, FrameObject}
use Rattle.model.specs.Kernel.State.{Inactive, NotificationObject, Object, PageTableObject, RootTableObject, Runnable, Sender, Sent, State, Status}
use Rattle.model.specs.Kernel.State.{ThreadObject}
use Rattle.model.specs.Kernel.State.{ThreadState, as_endpoint, endpoint_at, new_endpoint, thread_at}
use Rattle.model.specs.Kernel.Steps.{completed, memory_base, registers_of, step, system_call}
use Rattle.model.specs.Kernel.Waits.{is_fault}
use Rattle.model.specs.Machine.ProgramMemory.{RegisterFile, read}
use Rattle.soundness.proofs.Laws.{endpoint-kind, notification-kind}
use Rattle.headline.proofs.Laws.{IsGiven, RunsAlong, Waits, at-place, call-leaves, either-invokes, first-waits, goes-along, idle-is, step-cases}
use Rattle.headline.specs.facts.Standing.{AllStand}
use Rattle.headline.specs.invocations.Laws.{AnyStepGoesWell, Laws}
use Rattle.headline.specs.moves.Moving.{CallsAt}
use Rattle.headline.specs.moves.Steps.{MakesCall}
use Rattle.headline.specs.steps.Laws.{DecodedFieldsLieInTheirRanges, InstructionsTakeEdges, MappedAccessesDoNotFault}
use Rattle.headline.specs.steps.Points.{ReachesNoCall}
use Rattle.headline.specs.steps.Taken.{IsPlain, edges_among}
use Rattle.response.specs.Asking.{Accepts, Acknowledges, Answers, Asked, Asks_nothing, Calls, Looks, Polls, Rings, SendsTo, Takes, Tries, asked_at, asked_by}
use Rattle.response.specs.Asking.{capability_found}
use Rattle.response.specs.Left.{point_now}
use Rattle.response.specs.Owed.{WaitsWhereAsked, asked_there}
use Rattle.response.proofs.Laws.{ReceiveEnds, SendEnds, TakeEnds, WaitsAt, accepts, accepts-there, as_caller, as_sender, asked-same, asked_now, asks-none}
use Rattle.response.proofs.Laws.{asks-of}
use Rattle.response.proofs.Laws.{asks-so, call-leads, called-is, called-label, calls, count, delivered-pc, doors-apart, goes, got_one, got_word, here}
use Rattle.response.proofs.Laws.{asks-there, invoked-leaves, leads-on, may_wait, next-address, next-inside, next-pc, own, pc_at, point-of, put-at, put-off}
use Rattle.response.proofs.Laws.{runs-is, sender-blocked, sends, sends-there, sent_awaits, sent_passed, sent_queued, sent_stopped, stays_on, stays_there}
use Rattle.response.proofs.Laws.{all-at, badge-there, names-so, or-then, stays-pc, there-is}
use Rattle.response.proofs.Laws.{thread-of, waits-at, waits_so}
use Rattle.settled_threads.specs.Answering.{CallsThere, IsAnswered, IsOwed, Owes, ReceivesAt, are_known, badge_at, badge_noted, is_accept, leads_known}
use Rattle.settled_threads.specs.Answering.{owing_for, owing_over, ranges_after_call, ranges_received}
use Rattle.settled_threads.proofs.Holders.{other-owes, over-call, received-right, still-owes, thread-small}
use Rattle.settled_threads.proofs.MessageRegisters.{IsKnown, badge-read, called-within, known-so, received-within}
use Rattle.settled_threads.proofs.PlainWays.{plainly-known, takes-from}
use Rattle.settled_threads.proofs.Rights.{KeepsAside, answered-runs, answers_first, completed-keeps, keeps_right, right-kept, then-aside, unmoved}

-- ---- after a message was received

received-owing : (badge : ℕ) (here_ next : Option (List Range)) (leads replies : Bool) (e : ℕ) → owing_for badge here_ next leads (Accepts e replies) ≡ true
    → are_known next (ranges_received badge) ≡ true
received-owing badge here_ next leads replies e kept = (and_parts (replies || not (is_some here_)) (are_known next (ranges_received badge)) kept).1

-- where a thread is, is what it calls
pub calls-same : (image : Image) (u : Numbered) (s after : State) (endpoint badge : ℕ)
    → (thread_at after (tcb_of image u)).registers.pc ≡ (thread_at s (tcb_of image u)).registers.pc → CallsThere image after u endpoint badge
    → CallsThere image s u endpoint badge
calls-same image u s after endpoint badge pc calls = record {
  asks = sym (asked-same image u s after pc) ∙ calls.asks;
  carries = sym (ap (λ (k : ℕ). badge_noted image u (noted image u ((k - u.thread.header.base) / 4))) pc) ∙ calls.carries;
}

-- ---- which call receives

-- a call that receives from an endpoint accepts from it, or looks at it
pub asks-message : (e : ℕ) (call : SystemCall) (c : Cap) → ReceivesFrom e call c → ((replies : Bool) × (asked_by call c ≡ Accepts e replies))
    ⊎ (asked_by call c ≡ Looks e)
asks-message e (Receives Receiving) c d = inl (false, ap (asked_by (Receives Receiving)) d.is)
asks-message e (Receives Polling) c d = inr (ap (asked_by (Receives Polling)) d.is)
asks-message e RepliesAndReceives c d = inl (true, ap (asked_by RepliesAndReceives) d.is)
asks-message e (Sends kind) c d = absurd (let clash : false ≡ true = d.receives in cc)
asks-message e Replies c d = absurd (let clash : false ≡ true = d.receives in cc)
asks-message e Yields c d = absurd (let clash : false ≡ true = d.receives in cc)
asks-message e PutsCharacter c d = absurd (let clash : false ≡ true = d.receives in cc)

-- where somebody waits to receive there is an endpoint
abbrev receivers-of : Option Object → List ℕ
receivers-of o = (option_map_or (λ (e : EndpointState). e) (as_endpoint o) new_endpoint).receivers

gate-of : (y : ℕ) (rest : List ℕ) (o : Option Object) → receivers-of o ≡ y ∷ rest
    → (q : EndpointState) × (o ≡ Some (EndpointObject q)) × (q.receivers ≡ y ∷ rest)
gate-of y rest (Some (EndpointObject q)) is = (q, refl, is)
gate-of y rest None is = absurd (let clash : ◌≡◌ {A = List ℕ} [] (y ∷ rest) = is in cc)
gate-of y rest (Some (ThreadObject x)) is = absurd (let clash : ◌≡◌ {A = List ℕ} [] (y ∷ rest) = is in cc)
gate-of y rest (Some (NotificationObject x)) is = absurd (let clash : ◌≡◌ {A = List ℕ} [] (y ∷ rest) = is in cc)
gate-of y rest (Some (CNodeObject x)) is = absurd (let clash : ◌≡◌ {A = List ℕ} [] (y ∷ rest) = is in cc)
gate-of y rest (Some FrameObject) is = absurd (let clash : ◌≡◌ {A = List ℕ} [] (y ∷ rest) = is in cc)
gate-of y rest (Some PageTableObject) is = absurd (let clash : ◌≡◌ {A = List ℕ} [] (y ∷ rest) = is in cc)
gate-of y rest (Some RootTableObject) is = absurd (let clash : ◌≡◌ {A = List ℕ} [] (y ∷ rest) = is in cc)

-- whoever awaits an answer does not run, and is in no queue
pub not-answered : {A : Type 0} (status : Status) → status ≡ Runnable → status ≡ AwaitsReply → A
not-answered status runs_ awaits = let clash : Runnable ≡ AwaitsReply = sym runs_ ∙ awaits in absurd cc

not-blocked : {A : Type 0} (queue : ℕ) (status : Status) → status ≡ Blocked queue → status ≡ AwaitsReply → A
not-blocked queue status blocked awaits = let clash : Blocked queue ≡ AwaitsReply = sym blocked ∙ awaits in absurd cc

-- what is known where an instruction leads that is no system call
on-way : (t : Thread) (badge : ℕ) (owed : ℕ → Option (List Range)) (point next : ℕ) (ranges : List Range) (asked : Asked) → asked ≡ Asks_nothing
    → owed point ≡ Some ranges → owing_over t badge owed asked point next ≡ true → (instr : Instr) → instruction_at t point ≡ Some instr → IsPlain instr
    → (edge : Edge) → Contains (edges_among (after_instr (address_of t point) instr ranges)) edge → edge.target ≡ address_of t next → (r : RegisterFile)
    → LieWithin r edge.ranges → IsKnown (owed next) r
on-way t badge owed point next ranges asked none here kept instr is plain edge among there r within =
    let leads : Option (List Range) → Option Instr → Bool = λ known found.
    option_map_or (λ (some : List Range). leads_known (address_of t point) (address_of t next) some (owed next) found) known true in
    let known : leads_known (address_of t point) (address_of t next) ranges (owed next) (Some instr) ≡ true =
    sym (ap (leads (Some ranges)) is) ∙ sym (ap (λ (known : Option (List Range)). leads known (instruction_at t point)) here)
    ∙ sym (ap (owing_for badge (owed point) (owed next) (leads (owed point) (instruction_at t point))) none) ∙ kept in
    let each = sym (plainly-known (address_of t point) (address_of t next) ranges (owed next) instr plain) ∙ known in
    known-so (owed next) r edge.ranges
    (or-then (not (edge.target == address_of t next)) (are_known (owed next) edge.ranges)
    (ap not (eq-eqb edge.target (address_of t next) there))
    (all-at (λ (e : Edge). not (e.target == address_of t next) || are_known (owed next) e.ranges)
    (edges_among (after_instr (address_of t point) instr ranges)) edge among each)) within

module _ (takes : InstructionsTakeEdges) (reaches : MappedAccessesDoNotFault) (decodes : DecodedFieldsLieInTheirRanges) (laws : Laws)
    (steps : AnyStepGoesWell) (told : (x y : ThreadState) → (x ≡ y) ⊎ (x ≢ y)) (bytes : List ℕ) (image : Image)
    (accepted : IsAccepted bytes image) (endpoint badge : ℕ) (a : IsAnswered image endpoint badge)
    (facts : (u : Numbered) → Contains (numbered_threads image) u → IsGiven image u) (s : State) (labels : List Label) (all : AllStand image s labels)
    (stay : StaysWithin image s Step (step s Step).0) (asked_so : (u : Numbered) → Contains (numbered_threads image) u → WaitsWhereAsked image u s)
    (owed : (u : Numbered) → Contains (numbered_threads image) u → (thread_at s (tcb_of image u)).status ≡ AwaitsReply
    → CallsThere image s u endpoint badge → IsOwed image endpoint badge a u s) where
  abbrev after : State
  after = (step s Step).0

  abbrev later : List Label
  later = labels ++ (step s Step).1 ∷ []

  behind : AllStand image after later
  behind = (steps bytes image s labels accepted all).stands

  abbrev OwedThen : Numbered → State → Type 0
  OwedThen c x = (thread_at x (tcb_of image c)).status ≡ AwaitsReply → CallsThere image x c endpoint badge → IsOwed image endpoint badge a c x

  module _ (t : Numbered) (listed : Contains (numbered_threads image) t) (now : current s ≡ Some (tcb_of image t)) where
    abbrev tcb : ℕ
    tcb = tcb_of image t

    one-block : (u : Numbered) → Contains (numbered_threads image) u → tcb_of image u ≡ tcb_of image t → u ≡ t
    one-block u among same = laws.below.own_blocks bytes image u t accepted among listed same

    -- ---- an instruction that is no system call

    module _ (free : ReachesNoCall s (tcb_of image t)) where
      run : RunsAlong image t s
      run = goes-along image t s labels (facts t listed) all.sound now free (all.stand t listed)

      abbrev moved : State
      moved = with_content (with_registers s (tcb_of image t) (RunsAlong.goes run).registers) (RunsAlong.goes run).content

      abbrev new : Option Object
      new = Some (ThreadObject (record (thread_at s (tcb_of image t)) { registers = (RunsAlong.goes run).registers }))

      elsewhere : (u : Numbered) → tcb_of image u ≢ tcb_of image t → thread_at moved (tcb_of image u) ≡ thread_at s (tcb_of image u)
      elsewhere u apart = ap thread-of (put-off s.objects tcb (tcb_of image u) new apart)

      own-status : (thread_at s tcb).status ≡ Runnable
      own-status = ap (λ (u : ThreadState). u.status) (at-place s tcb (RunsAlong.own run) (RunsAlong.there run)) ∙ RunsAlong.status run

      moved-status : (thread_at moved tcb).status ≡ Runnable
      moved-status = ap (λ (o : Option Object). (thread-of o).status) (put-at s.objects tcb new) ∙ own-status

      -- it owes the answer at the next point too
      module _ (c : ℕ) (receives : ReceivesAt image t endpoint) (o : Owes image endpoint badge a s t c) where
        abbrev base : ℕ
        base = t.thread.header.base

        abbrev onward : ℕ
        onward = (RunsAlong.goes run).next

        leaves-point : point_now image s t ≡ RunsAlong.point run
        leaves-point =
            ap (λ (x : ThreadState). (x.registers.pc - base) / 4) (at-place s (tcb_of image t) (RunsAlong.own run) (RunsAlong.there run))
            ∙ ap (λ (k : ℕ). (k - base) / 4) (RunsAlong.stands run).pc ∙ point-of base (RunsAlong.point run)

        comes-to : point_now image moved t ≡ onward
        comes-to =
            ap (λ (x : Option Object). ((thread-of x).registers.pc - base) / 4) (put-at s.objects tcb new)
            ∙ ap (λ (k : ℕ). (k - base) / 4) ((RunsAlong.goes run).pc ∙ (RunsAlong.goes run).target) ∙ point-of base onward

        plainly-kept : owing_over t.thread badge (a.owed t.number) (asked_at image t.thread (RunsAlong.point run) (RunsAlong.state run))
            (RunsAlong.point run) onward ≡ true
        plainly-kept =
            let goes_ = RunsAlong.goes run in
            a.kept t (RunsAlong.point run) (RunsAlong.state run) goes_.next listed receives (RunsAlong.stands run).inside (RunsAlong.stands run).known
            (record { edge = goes_.edge; among = goes_.among; inside = goes_.inside; target = goes_.target })

        plain-known : IsKnown (a.owed t.number onward) (RunsAlong.goes run).registers
        plain-known =
            let way = takes-from takes reaches decodes image t (facts t listed) s all.sound now free run o.ranges o.long o.within in
            on-way t.thread badge (a.owed t.number) (RunsAlong.point run) onward o.ranges
            (asked_at image t.thread (RunsAlong.point run) (RunsAlong.state run)) (asks-none image t s run free)
            (ap (a.owed t.number) (sym leaves-point) ∙ o.owing) plainly-kept way.instr way.is way.plain way.edge way.among
            (sym way.there ∙ (RunsAlong.goes run).pc ∙ (RunsAlong.goes run).target) (RunsAlong.goes run).registers way.within

        own-goes : Owes image endpoint badge a moved t c
        own-goes = record {
          right = ap (λ (x : Option Object). (thread-of x).caller) (put-at s.objects tcb new) ∙ o.right;
          ranges = plain-known.ranges;
          owing = ap (a.owed t.number) comes-to ∙ plain-known.is;
          long = plain-known.long;
          within = subst (λ (x : RegisterFile). LieWithin x plain-known.ranges)
              (sym (ap (λ (x : Option Object). (thread-of x).registers) (put-at s.objects tcb new))) plain-known.within;
          awake = λ _. ap is_runnable moved-status;
        }

      plain-owed : (c : Numbered) → Contains (numbered_threads image) c → OwedThen c moved
      plain-owed c among awaits calls_ = elim (eqb_tells (tcb_of image c) tcb) [
        | inl here_ ↦ not-answered (thread_at moved tcb).status moved-status (ap (λ (k : ℕ). (thread_at moved k).status) (sym here_.1) ∙ awaits)
        | inr apart ↦ by-debt apart.1
      ]
        where
          by-debt : tcb_of image c ≢ tcb_of image t → IsOwed image endpoint badge a c moved
          by-debt apart =
              let same = elsewhere c apart in
              let debt = owed c among (ap (λ (u : ThreadState). u.status) (sym same) ∙ awaits)
              (calls-same image c s moved endpoint badge (ap (λ (u : ThreadState). u.registers.pc) same) calls_) in
              record {
                server = debt.server;
                listed = debt.listed;
                receives = debt.receives;
                owes = elim (eqb_tells (tcb_of image debt.server) tcb) [
                  | inl here_ ↦ (
                      let one = one-block debt.server debt.listed here_.1 in
                      subst (λ (u : Numbered). Owes image endpoint badge a moved u (tcb_of image c)) (sym one)
                      (own-goes (tcb_of image c) (subst (λ (u : Numbered). ReceivesAt image u endpoint) one debt.receives)
                      (subst (λ (u : Numbered). Owes image endpoint badge a s u (tcb_of image c)) one debt.owes)))
                  | inr other ↦ (
                      let stays = elsewhere debt.server other.1 in
                      still-owes image endpoint badge a s moved debt.server (tcb_of image c) (ap (λ (u : ThreadState). u.caller) stays)
                      (ap (λ (u : ThreadState). u.status) stays) (ap (λ (u : ThreadState). u.registers) stays) debt.owes)
                ];
              }

      pub plain-keeps : (c : Numbered) → Contains (numbered_threads image) c → (thread_at (step s Step).0 (tcb_of image c)).status ≡ AwaitsReply
          → CallsThere image (step s Step).0 c endpoint badge → IsOwed image endpoint badge a c (step s Step).0
      plain-keeps c among = subst (OwedThen c) (sym (RunsAlong.goes run).after) (plain-owed c among)

    -- ---- a system call

    module _ (makes : MakesCall s (tcb_of image t)) (mine : ThreadState) (point : ℕ) (state : PointState) (answer : AfterCall)
        (at : CallsAt image t s labels mine point state answer) where
      abbrev asked : Asked
      asked = asked_now s tcb

      asks : asked_at image t.thread point state ≡ asked_now s (tcb_of image t)
      asks = asks-so laws.below bytes image s labels accepted t listed mine point state answer at

      runs-before : (thread_at s tcb).status ≡ Runnable
      runs-before = ap (λ (u : ThreadState). u.status) (at-place s tcb mine at.there) ∙ at.status

      after-is : after ≡ (system_call s tcb).0
      after-is = called-is image s labels t now makes

      fine : is_fault (Ran (memory_base + tcb) (registers_of s tcb).pc (system_call s tcb).1) ≡ false
      fine = sym (ap is_fault (called-label image s labels t now makes)) ∙ (steps bytes image s labels accepted all).faults

      next-is : (mine.registers.pc + 4) % 2 ^ 32 ≡ address_of t.thread (point + 1)
      next-is =
          ap (λ (n : ℕ). (n + 4) % 2 ^ 32) at.stands.pc
          ∙ next-address t.thread.header.base t.thread.header.words point (laws.below.ends bytes image t accepted listed)
          (next-inside laws.below bytes image accepted t listed point state answer at.stands.inside at.stands.known at.ecall at.call)

      fine-now : ThreadIsSound (thread_at s (tcb_of image t))
      fine-now = subst ThreadIsSound (sym (at-place s tcb mine at.there)) (all.sound.threads.threads tcb mine at.there)

      spot : (point_now image s t ≡ point) × (asked_there image s t ≡ asked_at image t.thread point state)
      spot = asks-there image t s mine point state at.there at.stands

      at-next : pc_at after tcb ≡ (pc_at s tcb + 4) % 2 ^ 32 → point_now image after t ≡ point + 1
      at-next pc =
          ap (λ (k : ℕ). (k - t.thread.header.base) / 4)
          (pc ∙ ap (λ (u : ThreadState). (u.registers.pc + 4) % 2 ^ 32) (at-place s tcb mine at.there) ∙ next-is)
          ∙ point-of t.thread.header.base (point + 1)

      -- what is owed over the call
      kept-over : ReceivesAt image t endpoint
          → owing_over t.thread badge (a.owed t.number) (asked_at image t.thread point state) point (point + 1) ≡ true
      kept-over receives =
          a.kept t point state (point + 1) listed receives at.stands.inside at.stands.known
          (call-leads laws.below bytes image accepted t listed point state answer at.stands.inside at.stands.known at.ecall at.call)

      -- once it has the message of a caller with this badge
      first-known : ReceivesAt image t endpoint → (replies : Bool) (e : ℕ) → asked_now s (tcb_of image t) ≡ Accepts e replies
          → are_known (a.owed t.number (point + 1)) (ranges_received badge) ≡ true
      first-known receives replies e is =
          let here_ = a.owed t.number point in
          let leads = option_map_or (λ (some : List Range). leads_known (address_of t.thread point) (address_of t.thread (point + 1)) some
          (a.owed t.number (point + 1)) (instruction_at t.thread point)) here_ true in
          received-owing badge here_ (a.owed t.number (point + 1)) leads replies e
          (sym (ap (owing_for badge here_ (a.owed t.number (point + 1)) leads) (asks ∙ is)) ∙ kept-over receives)

      -- the thread is not stopped
      never-stops : (thread_at after tcb).status ≡ Inactive → ⊥
      never-stops stops = by-invariant (behind.stand t listed)
        where
          by-invariant : ThreadInvariant image t after later → ⊥
          by-invariant (runs other p st there status stands budget) =
              let clash : Inactive ≡ Runnable = sym stops ∙ ap (λ (u : ThreadState). u.status) (at-place after tcb other there) ∙ status in absurd cc
          by-invariant (waits other p st there status stands asks_ none) =
              let never : IsWaiting Inactive =
              subst IsWaiting (sym (ap (λ (u : ThreadState). u.status) (at-place after tcb other there)) ∙ stops) status in
              never

      -- after a call that does not wait it runs
      free-runs : may_wait asked ≡ false → (thread_at after tcb).status ≡ Runnable
      free-runs free = by-invariant (behind.stand t listed)
        where
          by-invariant : ThreadInvariant image t after later → (thread_at after tcb).status ≡ Runnable
          by-invariant (runs other p st there status stands budget) = ap (λ (u : ThreadState). u.status) (at-place after tcb other there) ∙ status
          by-invariant (waits other p st there status stands asks_ none) =
              absurd (let more = count laws steps told bytes image accepted s labels all stay t listed now makes mine point state answer at free in
              omega (arith, more, none))

      -- ---- its own right

      aside : keeps_right asked ≡ true → KeepsAside (s.objects (tcb_of image t)) ((step s Step).0.objects (tcb_of image t))
      aside keeps = elim (either-invokes s tcb) [
        | inl nothing ↦
            subst (λ (x : State). KeepsAside (s.objects tcb) (x.objects tcb)) (sym after-is)
            (right-kept s tcb mine at.there at.status (memory_base + tcb) (registers_of s tcb).pc
            (doors-apart laws bytes image s labels accepted all t listed mine at.there at.status)
            (λ slot e r badge_ named is. endpoint-kind (s.objects e) (all.sound.memory.named slot NewEndpoint e (ap object_named is)))
            (λ slot o r badge_ named is. notification-kind (s.objects o) (all.sound.memory.named slot NewNotification o (ap object_named is)))
            keeps nothing fine)
        | inr i ↦ (
            invoked-leaves laws bytes image s labels accepted all t listed mine at.there at.status now makes
            (λ x. KeepsAside (s.objects tcb) (x.objects tcb))
            (λ kind x same. then-aside (s.objects tcb) (x.objects tcb) ((completed x tcb kind).objects tcb) (unmoved (s.objects tcb) (x.objects tcb) same)
            (completed-keeps x tcb kind tcb)) i)
      ]

      module _ (c : ℕ) (receives : ReceivesAt image t endpoint) (o : Owes image endpoint badge a s t c) (awaits_before : (thread_at s c).status ≡ AwaitsReply)
          (awaits : (thread_at (step s Step).0 c).status ≡ AwaitsReply) where
        abbrev over : Asked → Bool
        over = owing_for badge (Some o.ranges) (a.owed t.number (point + 1)) (are_known (a.owed t.number (point + 1)) (ranges_after_call o.ranges))

        owes-edge : over asked ≡ true
        owes-edge =
            sym (ap over asks)
            ∙ over-call t.thread badge (a.owed t.number) point (point + 1) o.ranges (asked_at image t.thread point state) at.ecall
            (ap (a.owed t.number) (sym spot.0) ∙ o.owing) (kept-over receives)

        edge-as : (x : Asked) → asked ≡ x → over x ≡ true
        edge-as x is = subst (λ (y : Asked). over y ≡ true) is owes-edge

        goes-owing : keeps_right asked ≡ true → are_known (a.owed t.number (point + 1)) (ranges_after_call o.ranges) ≡ true
            → (thread_at after tcb).status ≡ Runnable → pc_at after tcb ≡ (pc_at s tcb + 4) % 2 ^ 32 → Owes image endpoint badge a after t c
        goes-owing keeps next runs_ pc =
            let left = aside keeps in
            let known = known-so (a.owed t.number (point + 1)) (thread_at after tcb).registers (ranges_after_call o.ranges) next
            (called-within (thread_at s tcb).registers (thread_at after tcb).registers o.ranges o.long (thread-small image t after later behind listed)
            left.registers o.within) in
            record {
              right = left.right ∙ o.right;
              ranges = known.ranges;
              owing = ap (a.owed t.number) (at-next pc) ∙ known.is;
              long = known.long;
              within = known.within;
              awake = λ _. ap is_runnable runs_;
            }

        stays-owing : keeps_right asked ≡ true → is_accept asked ≡ false → registers_of after tcb ≡ registers_of s tcb → Owes image endpoint badge a after t c
        stays-owing keeps none same = record {
          right = (aside keeps).right ∙ o.right;
          ranges = o.ranges;
          owing = ap (λ (r : RegisterFile). a.owed t.number ((r.pc - t.thread.header.base) / 4)) same ∙ o.owing;
          long = o.long;
          within = subst (λ (r : RegisterFile). LieWithin r o.ranges) (sym same) o.within;
          awake = λ accepts_. absurd (let clash : false ≡ true = sym none ∙ sym (ap is_accept (spot.1 ∙ asks))
              ∙ sym (ap is_accept (asked-same image t s after (stays-pc s after tcb same))) ∙ accepts_ in cc);
        }

        free-owing : keeps_right asked ≡ true → may_wait asked ≡ false → are_known (a.owed t.number (point + 1)) (ranges_after_call o.ranges) ≡ true
            → Owes image endpoint badge a after t c
        free-owing keeps free next =
            let runs_ = free-runs free in
            goes-owing keeps next runs_
            (goes laws steps told bytes image accepted s labels all stay t listed now makes mine point state answer at free (ap is_runnable runs_))

        by-ends : (e : ℕ) (is_call : Bool) → keeps_right asked ≡ true → is_accept asked ≡ false
            → are_known (a.owed t.number (point + 1)) (ranges_after_call o.ranges) ≡ true → SendEnds s (tcb_of image t) e is_call after
            → Owes image endpoint badge a after t c
        by-ends e is_call keeps none next (sent_passed status pc) = goes-owing keeps next status pc
        by-ends e is_call keeps none next (sent_queued status same q is nobody) = stays-owing keeps none same
        by-ends e is_call keeps none next (sent_awaits y rest status same so first right) = stays-owing keeps none same
        by-ends e is_call keeps none next (sent_stopped status) = absurd (never-stops status)

        -- it has not answered, since who waits for the answer waits still
        no-answer : answers_first asked ≡ true → ⊥
        no-answer answers_ =
            let answered_ = answered-runs s tcb mine at.there at.status (memory_base + tcb) (registers_of s tcb).pc
            (doors-apart laws bytes image s labels accepted all t listed mine at.there at.status)
            (λ slot e r badge_ named is. endpoint-kind (s.objects e) (all.sound.memory.named slot NewEndpoint e (ap object_named is)))
            (λ slot o r badge_ named is. notification-kind (s.objects o) (all.sound.memory.named slot NewNotification o (ap object_named is)))
            c o.right awaits_before (λ e q is y among. sender-blocked s all.sound e q is y among) answers_ fine in
            not-answered (thread_at after c).status (ap (λ (x : State). (thread_at x c).status) after-is ∙ answered_) awaits

        by-asked : (x : Asked) → asked_now s (tcb_of image t) ≡ x → Owes image endpoint badge a after t c
        by-asked (Takes e) is = absurd (let clash : false ≡ true = edge-as (Takes e) is in cc)
        by-asked (Looks e) is = absurd (let clash : false ≡ true = edge-as (Looks e) is in cc)
        by-asked (Accepts e true) is = absurd (no-answer (ap answers_first is))
        by-asked (Accepts e false) is = absurd (let clash : false ≡ true = edge-as (Accepts e false) is in cc)
        by-asked Answers is = absurd (no-answer (ap answers_first is))
        by-asked (SendsTo e) is =
            by-ends e false (ap keeps_right is) (ap is_accept is) (edge-as (SendsTo e) is)
            (sends laws steps told bytes image accepted s labels all stay t listed now makes mine point state answer at e is)
        by-asked (Calls e) is =
            by-ends e true (ap keeps_right is) (ap is_accept is) (edge-as (Calls e) is)
            (calls laws steps told bytes image accepted s labels all stay t listed now makes mine point state answer at e is)
        by-asked (Polls e) is = free-owing (ap keeps_right is) (ap may_wait is) (edge-as (Polls e) is)
        by-asked (Rings e) is = free-owing (ap keeps_right is) (ap may_wait is) (edge-as (Rings e) is)
        by-asked (Acknowledges number) is = free-owing (ap keeps_right is) (ap may_wait is) (edge-as (Acknowledges number) is)
        by-asked (Tries e) is = free-owing (ap keeps_right is) (ap may_wait is) (edge-as (Tries e) is)
        by-asked Asks_nothing is = free-owing (ap keeps_right is) (ap may_wait is) (edge-as Asks_nothing is)

        own-owes : Owes image endpoint badge a after t c
        own-owes = by-asked asked refl

      -- ---- another thread that waits for an answer

      module _ (c : Numbered) (among : Contains (numbered_threads image) c) (apart : tcb_of image c ≢ tcb_of image t)
          (awaits : (thread_at (step s Step).0 (tcb_of image c)).status ≡ AwaitsReply) (calls_ : CallsThere image (step s Step).0 c endpoint badge) where
        abbrev place : ℕ
        place = tcb_of image c

        -- it waited already
        waited : (thread_at after (tcb_of image c)) ≡ (thread_at s (tcb_of image c)) → IsOwed image endpoint badge a c after
        waited same =
            let awaits_before = ap (λ (u : ThreadState). u.status) (sym same) ∙ awaits in
            let debt = owed c among awaits_before (calls-same image c s after endpoint badge (ap (λ (u : ThreadState). u.registers.pc) same) calls_) in
            record {
              server = debt.server;
              listed = debt.listed;
              receives = debt.receives;
              owes = elim (eqb_tells (tcb_of image debt.server) tcb) [
                | inl here_ ↦ (
                    let one = one-block debt.server debt.listed here_.1 in
                    subst (λ (u : Numbered). Owes image endpoint badge a after u place) (sym one)
                    (own-owes place (subst (λ (u : Numbered). ReceivesAt image u endpoint) one debt.receives)
                    (subst (λ (u : Numbered). Owes image endpoint badge a s u place) one debt.owes) awaits_before awaits))
                | inr other ↦
                    other-owes laws.below bytes image accepted endpoint badge a s labels all debt.server debt.listed debt.receives place debt.owes after later
                    behind told t (own laws steps told bytes image accepted s labels all stay t listed now).within other.1 (asked_so debt.server debt.listed)
              ];
            }

        -- or its call was received by this thread
        module _ (e : ℕ) (first : Sender) (gone : TakesSender s after e first) (its_own : first.thread ≡ tcb_of image c) (sent : first.sent ≡ ByCall)
            (grants : first.grant_reply ≡ true) (named : CallNames image t.thread s (ReceivesFrom e)) (same : e ≡ endpoint)
            (carried : first.badge ≡ badge) where
          by-ends-of : ReceiveEnds s (tcb_of image t) e after → (replies : Bool) → asked_now s (tcb_of image t) ≡ Accepts e replies
              → IsOwed image endpoint badge a c after
          by-ends-of (got_one other rest status pc head left right message got) replies is =
              let heads : other ∷ rest ≡ first ∷ (endpoint_at after e).senders = sym head ∙ gone.leaves in
              let alike : other ≡ first = cc in
              let receives : ReceivesAt image t endpoint = record {
                point = point;
                state = state;
                inside = at.stands.inside;
                known = at.stands.known;
                replies = replies;
                asks = asks ∙ is ∙ ap (λ (k : ℕ). Accepts k replies) same;
              } in
              let own_fine = fine-now in
              let has_badge : read (registers_of after tcb) a0 ≡ badge =
              ap (λ (r : RegisterFile). read r a0) got ∙ badge-read (registers_of s tcb) other.badge message own_fine.registers
              ∙ ap (λ (x : Sender). x.badge) alike ∙ carried in
              let known = known-so (a.owed t.number (point + 1)) (registers_of after tcb) (ranges_received badge) (first-known receives replies e is)
              (received-within (registers_of after tcb) badge (thread-small image t after later behind listed) has_badge) in
              record {
                server = t;
                listed = listed;
                receives = receives;
                owes = record {
                  right = right (ap (λ (x : Sender). x.sent) alike ∙ sent) (ap (λ (x : Sender). x.grant_reply) alike ∙ grants)
                      ∙ ap (λ (x : Sender). Some x.thread) alike ∙ ap (λ (k : ℕ). Some k) its_own;
                  ranges = known.ranges;
                  owing = ap (a.owed t.number) (at-next pc) ∙ known.is;
                  long = known.long;
                  within = known.within;
                  awake = λ _. ap is_runnable status;
                };
              }
          by-ends-of (stays_there status pc nobody) replies is =
              absurd (let clash : ◌≡◌ {A = List Sender} [] (first ∷ (endpoint_at after e).senders) = sym nobody ∙ gone.leaves in cc)

          received : IsOwed image endpoint badge a c after
          received =
              let says = asks-of image t.thread s after all.sound.slots.derivation.valid (ReceivesFrom e) named in
              elim (asks-message e named.call (capability_at s.slots named.slot) named.such) [
                | inl accepts_ ↦
                    by-ends-of (accepts laws steps told bytes image accepted s labels all stay t listed now makes mine point state answer at e accepts_.0
                    (says ∙ accepts_.1)) accepts_.0 (says ∙ accepts_.1)
                | inr looks ↦
                    absurd (a.unpolled t point state listed at.stands.inside at.stands.known (asks ∙ says ∙ looks ∙ ap Looks same))
              ]

        module _ (before changed : ThreadState) (was : s.objects (tcb_of image c) ≡ Some (ThreadObject before))
            (is : (step s Step).0.objects (tcb_of image c) ≡ Some (ThreadObject changed)) where
          at_changed : thread_at after place ≡ changed
          at_changed = ap thread-of is

          at_before : thread_at s place ≡ before
          at_before = ap thread-of was

          awaits_now : changed.status ≡ AwaitsReply
          awaits_now = sym (ap (λ (u : ThreadState). u.status) at_changed) ∙ awaits

          one-call : {x y : ℕ} → Calls x ≡ Calls y → x ≡ y
          one-call both = cc

          by-sent : (e : ℕ) (first : Sender) (kind : Sent) → first.sent ≡ kind → TakesSender s after e first → first.thread ≡ tcb_of image c
              → before.status ≡ Blocked e → CallNames image t.thread s (ReceivesFrom e) → changed ≡ once_received first kind before
              → IsOwed image endpoint badge a c after
          by-sent e first BySend sent gone its_own blocked named so = not-answered changed.status (ap (λ (u : ThreadState). u.status) so) awaits_now
          by-sent e first (ByFault fault) sent gone its_own blocked named so =
              absurd (let clash : AwaitsHandler ≡ AwaitsReply = sym (ap (λ (u : ThreadState). u.status) so) ∙ awaits_now in cc)
          by-sent e first ByCall sent gone its_own blocked named so =
              let found = endpoint-kind (s.objects e) gone.was in
              let head : found.0.senders ≡ first ∷ (endpoint_at after e).senders =
              sym (ap (λ (x : Option Object). (option_map_or (λ (q : EndpointState). q) (as_endpoint x) new_endpoint).senders) found.1) ∙ gone.leaves in
              let v = waits-at laws.below bytes image s labels accepted all c among before was (ap is_runnable blocked) in
              let place_ = subst (λ (l : List Sender). Contains l first) (sym head) (0, omega arith, refl) in
              elim (sends-there laws.below bytes image s labels accepted all c among before v (asked_so c among) e blocked found.0 found.1 first place_
              its_own) [
                | as_sender is_send asks_ ↦ absurd (let clash : BySend ≡ ByCall = sym is_send ∙ sent in cc)
                | as_caller is_call grants asks_ ↦ (
                    let before_ : CallsThere image s c endpoint badge =
                    calls-same image c s after endpoint badge
                    (ap (λ (u : ThreadState). u.registers.pc) (at_changed ∙ so) ∙ sym (ap (λ (u : ThreadState). u.registers.pc) at_before)) calls_ in
                    let at_v = here laws.below bytes image s labels accepted all c among before v in
                    let same : Calls e ≡ Calls endpoint = sym asks_ ∙ sym at_v.1 ∙ before_.asks in
                    let carried : first.badge ≡ badge =
                    badge-there laws.below bytes image s labels accepted all c among before v (asked_so c among) e blocked found.0 found.1 first place_ its_own
                    ∙ sym (ap (badge_noted image c) v.stands.known) ∙ sym (ap (λ (k : ℕ). badge_noted image c (noted image c k)) at_v.0) ∙ before_.carries in
                    received e first gone its_own sent grants named (one-call same) carried)
              ]

          handled : (b : Bool) (x y : ThreadState) → x.status ≡ Runnable → y.status ≡ Inactive → (if b then x else y).status ≡ AwaitsReply
              → IsOwed image endpoint badge a c after
          handled true x y runs_ stops is_ = not-answered x.status runs_ is_
          handled false x y runs_ stops is_ = absurd (let clash : Inactive ≡ AwaitsReply = sym stops ∙ is_ in cc)

          by-reason : Reason s after (self_of image t.thread) (CallNames image t.thread s) (tcb_of image c) before changed
              → IsOwed image endpoint badge a c after
          by-reason (receiver e word right gone blocked named may so arrives) =
              not-answered changed.status (ap (λ (u : ThreadState). u.status) so) awaits_now
          by-reason (sender e first gone its_own blocked named so arrives) = by-sent e first first.sent refl gone its_own blocked named so
          by-reason (waiter bell word gone blocked named so) = not-answered changed.status (ap (λ (u : ThreadState). u.status) so) awaits_now
          by-reason (caller right was_awaiting so arrives) = not-answered changed.status (ap (λ (u : ThreadState). u.status) so) awaits_now
          by-reason (faulted right was_awaiting so) =
              let handler = thread_at s (self_of image t.thread) in
              handled ((message_of handler).label == 0)
              (woken before (record before.registers { pc = resumption before.registers.pc (message_of handler).words })) (record before { status = Inactive })
              refl refl (sym (ap (λ (u : ThreadState). u.status) so) ∙ awaits_now)
          by-reason (set_back queue blocked some gone so) = not-answered changed.status (ap (λ (u : ThreadState). u.status) so) awaits_now

          by-states : IsOwed image endpoint badge a c after
          by-states = elim (told before changed) [
            | inl same ↦ waited (at_changed ∙ sym same ∙ sym at_before)
            | inr differs ↦
                by-reason ((own laws steps told bytes image accepted s labels all stay t listed now).within.threads (tcb_of image c) before changed apart was is
                differs)
          ]

        other-owed : IsOwed image endpoint badge a c after
        other-owed =
            let was = there-is image c s labels (all.stand c among) in
            let is = there-is image c after later (behind.stand c among) in
            by-states was.0 is.0 was.1 is.1

      -- ---- it begins to wait itself: the first that receives there has the right to reply to it

      module _ (y : ℕ) (rest : List ℕ) (e : ℕ) (first : (endpoint_at s e).receivers ≡ y ∷ rest) (same : e ≡ endpoint) (carries : badge_at image t state ≡ badge)
          (asks_call : asked_now s (tcb_of image t) ≡ Calls e) (right : (thread_at (step s Step).0 y).caller ≡ Some (tcb_of image t)) where
        gate : (q : EndpointState) × (s.objects e ≡ Some (EndpointObject q)) × (q.receivers ≡ y ∷ rest)
        gate = gate-of y rest (s.objects e) first

        nobody : gate.0.senders ≡ []
        nobody = elim (all.sound.threads.one_sided e gate.0 gate.1) [
          | inl none ↦ none
          | inr none ↦ absurd (let clash : ◌≡◌ {A = List ℕ} [] (y ∷ rest) = sym none ∙ gate.2 in cc)
        ]

        waits_ : Waits s y e
        waits_ =
            first-waits s all.sound e y rest
            (ap waiting_at gate.1 ∙ ap (λ (l : List Sender). map (λ (x : Sender). x.thread) l ++ gate.0.receivers) nobody ∙ gate.2)

        module _ (r : Numbered) (among : Contains (numbered_threads image) r) (is_r : y ≡ tcb_of image r) where
          there_r : s.objects (tcb_of image r) ≡ Some (ThreadObject (Waits.own waits_))
          there_r = sym (ap s.objects is_r) ∙ Waits.is waits_

          v : WaitsAt image r s labels (Waits.own waits_)
          v = waits-at laws.below bytes image s labels accepted all r among (Waits.own waits_) there_r (ap is_runnable (Waits.blocked waits_))

          accepts_ : (replies : Bool) × (asked_at image r.thread v.point v.state ≡ Accepts e replies)
          accepts_ =
              accepts-there laws.below bytes image s labels accepted all r among (Waits.own waits_) v (asked_so r among) e (Waits.blocked waits_) gate.0 gate.1
              (subst (λ (l : List ℕ). Contains l (tcb_of image r)) (sym gate.2) (subst (λ (k : ℕ). Contains (y ∷ rest) k) is_r (0, omega arith, refl)))

          receives_ : ReceivesAt image r endpoint
          receives_ = record {
            point = v.point;
            state = v.state;
            inside = v.stands.inside;
            known = v.stands.known;
            replies = accepts_.0;
            asks = accepts_.1 ∙ ap (λ (k : ℕ). Accepts k accepts_.0) same;
          }

          next-known : are_known (a.owed r.number (v.point + 1)) (ranges_received badge) ≡ true
          next-known =
              let here_ = a.owed r.number v.point in
              let leads = option_map_or (λ (some : List Range). leads_known (address_of r.thread v.point) (address_of r.thread (v.point + 1)) some
              (a.owed r.number (v.point + 1)) (instruction_at r.thread v.point)) here_ true in
              received-owing badge here_ (a.owed r.number (v.point + 1)) leads accepts_.0 e
              (sym (ap (owing_for badge here_ (a.owed r.number (v.point + 1)) leads) accepts_.1)
              ∙ a.kept r v.point v.state (v.point + 1) among receives_ v.stands.inside v.stands.known
              (leads-on laws.below bytes image s labels accepted all r among (Waits.own waits_) v))

          right_r : (thread_at after (tcb_of image r)).caller ≡ Some (tcb_of image t)
          right_r = ap (λ (k : ℕ). (thread_at after k).caller) (sym is_r) ∙ right

          -- it did not have the right, since the thread ran
          no-right : {A : Type 0} → (thread_at after (tcb_of image r)).caller ≡ (thread_at s (tcb_of image r)).caller → A
          no-right kept =
              let awaits = all.sound.threads.callers (tcb_of image r) tcb (sym kept ∙ right_r) in
              absurd (let clash : false ≡ true = subst (λ (x : Status). IsTrue (awaits_answer x)) runs-before awaits in cc)

          other_r : tcb_of image r ≢ tcb
          other_r alike =
              let clash : Blocked e ≡ Runnable =
              sym (Waits.blocked waits_) ∙ sym (ap (λ (u : ThreadState). u.status) (at-place s (tcb_of image r) (Waits.own waits_) there_r))
              ∙ ap (λ (k : ℕ). (thread_at s k).status) alike ∙ runs-before in
              absurd cc

          module _ (changed : ThreadState) (is : (step s Step).0.objects (tcb_of image r) ≡ Some (ThreadObject changed)) where
            abbrev before : ThreadState
            before = Waits.own waits_

            now_r : thread_at after (tcb_of image r) ≡ changed
            now_r = ap thread-of is

            was_r : thread_at s (tcb_of image r) ≡ before
            was_r = ap thread-of there_r

            keeps_r : changed.caller ≡ before.caller → Owes image endpoint badge a after r tcb
            keeps_r kept = no-right (ap (λ (u : ThreadState). u.caller) now_r ∙ kept ∙ sym (ap (λ (u : ThreadState). u.caller) was_r))

            by-reason-of : Reason s after (self_of image t.thread) (CallNames image t.thread s) (tcb_of image r) before changed
                → Owes image endpoint badge a after r tcb
            by-reason-of (receiver o word given gone blocked named may so arrives) =
                let message = message_between s (self_of image t.thread) (tcb_of image r) in
                let has_badge : read (thread_at after (tcb_of image r)).registers a0 ≡ badge =
                ap (λ (u : ThreadState). read u.registers a0) (now_r ∙ so)
                ∙ badge-read before.registers word message (all.sound.threads.threads (tcb_of image r) before there_r).registers
                ∙ ap badge_of (sym named.such.is) ∙ sym (ap (λ (l : Result ℕ LookupFailure). badge_of (capability_found s.slots l)) named.named)
                ∙ sym (ap badge_of (names-so laws.below bytes image s labels accepted t listed mine point state answer at e (asks ∙ asks_call))) ∙ carries in
                let known = known-so (a.owed r.number (v.point + 1)) (thread_at after (tcb_of image r)).registers (ranges_received badge) next-known
                (received-within (thread_at after (tcb_of image r)).registers badge (thread-small image r after later behind among) has_badge) in
                record {
                  right = right_r;
                  ranges = known.ranges;
                  owing = ap (a.owed r.number) (ap (λ (k : ℕ). (k - r.thread.header.base) / 4)
                      (ap (λ (u : ThreadState). u.registers.pc) (now_r ∙ so) ∙ ap (λ (k : ℕ). (k + 4) % 2 ^ 32) (delivered-pc before.registers word message)
                      ∙ next-pc laws.below bytes image s labels accepted all r among before v) ∙ point-of r.thread.header.base (v.point + 1)) ∙ known.is;
                  long = known.long;
                  within = known.within;
                  awake = λ _. ap is_runnable (ap (λ (u : ThreadState). u.status) (now_r ∙ so));
                }
            by-reason-of (sender o other gone its_own blocked named so arrives) =
                keeps_r (ap (λ (u : ThreadState). u.caller) so ∙ received-right other other.sent before)
            by-reason-of (waiter bell word gone blocked named so) = keeps_r (ap (λ (u : ThreadState). u.caller) so)
            by-reason-of (caller held was_awaiting so arrives) = keeps_r (ap (λ (u : ThreadState). u.caller) so)
            by-reason-of (faulted held was_awaiting so) =
                absurd (let clash : Blocked e ≡ AwaitsHandler = sym (Waits.blocked waits_) ∙ was_awaiting in cc)
            by-reason-of (set_back queue blocked some gone so) = keeps_r (ap (λ (u : ThreadState). u.caller) so)

            by-states-of : Owes image endpoint badge a after r tcb
            by-states-of = elim (told before changed) [
              | inl alike ↦ keeps_r (ap (λ (u : ThreadState). u.caller) (sym alike))
              | inr differs ↦
                  by-reason-of ((own laws steps told bytes image accepted s labels all stay t listed now).within.threads (tcb_of image r) before changed other_r
                  there_r is differs)
            ]

          given : IsOwed image endpoint badge a t after
          given =
              let is = there-is image r after later (behind.stand r among) in
              record { server = r; listed = among; receives = receives_; owes = by-states-of is.0 is.1 }

        begins : IsOwed image endpoint badge a t after
        begins = elim (all.others y (Waits.own waits_) (Waits.is waits_)) [
          | inl stopped ↦ absurd (let clash : Inactive ≡ Blocked e = sym stopped ∙ Waits.blocked waits_ in cc)
          | inr block ↦ given block.thread block.listed block.is
        ]

      module _ (awaits : (thread_at (step s Step).0 (tcb_of image t)).status ≡ AwaitsReply)
          (calls_ : CallsThere image (step s Step).0 t endpoint badge) where
        abbrev status_now : Status
        status_now = (thread_at after tcb).status

        sent-ends : (e : ℕ) (is_call : Bool) → (is_call ≡ true → asked_now s (tcb_of image t) ≡ Calls e) → SendEnds s (tcb_of image t) e is_call after
            → IsOwed image endpoint badge a t after
        sent-ends e is_call called (sent_passed status pc) = not-answered status_now status awaits
        sent-ends e is_call called (sent_queued status kept q is nobody) = not-blocked e status_now status awaits
        sent-ends e is_call called (sent_awaits y rest status kept so first right) =
            let before_ : CallsThere image s t endpoint badge = calls-same image t s after endpoint badge (stays-pc s after tcb kept) calls_ in
            let both : Calls e ≡ Calls endpoint = sym (called so) ∙ sym asks ∙ sym spot.1 ∙ before_.asks in
            let same : e ≡ endpoint = cc in
            let carries : badge_at image t state ≡ badge =
            sym (ap (badge_noted image t) at.stands.known) ∙ sym (ap (λ (k : ℕ). badge_noted image t (noted image t k)) spot.0) ∙ before_.carries in
            begins y rest e first same carries (called so) right
        sent-ends e is_call called (sent_stopped status) = absurd (let clash : Inactive ≡ AwaitsReply = sym status ∙ awaits in cc)

        received-ends : (e : ℕ) → ReceiveEnds s (tcb_of image t) e after → IsOwed image endpoint badge a t after
        received-ends e (got_one first others status pc head gone right message got) = not-answered status_now status awaits
        received-ends e (stays_there status pc none) = not-blocked e status_now status awaits

        taken-ends : (e : ℕ) → TakeEnds s (tcb_of image t) e after → IsOwed image endpoint badge a t after
        taken-ends e (got_word runs_ pc) = not-answered status_now (runs-is status_now runs_) awaits
        taken-ends e (stays_on status pc) = not-blocked e status_now status awaits

        never : may_wait (asked_now s (tcb_of image t)) ≡ false → IsOwed image endpoint badge a t after
        never free = not-answered status_now (free-runs free) awaits

        own-owed-by : (x : Asked) → asked_now s (tcb_of image t) ≡ x → IsOwed image endpoint badge a t after
        own-owed-by (Takes e) is =
            taken-ends e (waits_so laws steps told bytes image accepted s labels all stay t listed now makes mine point state answer at e is)
        own-owed-by (Accepts e replies) is =
            received-ends e (accepts laws steps told bytes image accepted s labels all stay t listed now makes mine point state answer at e replies is)
        own-owed-by (SendsTo e) is =
            sent-ends e false (λ clash. absurd cc)
            (sends laws steps told bytes image accepted s labels all stay t listed now makes mine point state answer at e is)
        own-owed-by (Calls e) is =
            sent-ends e true (λ _. is) (calls laws steps told bytes image accepted s labels all stay t listed now makes mine point state answer at e is)
        own-owed-by (Polls e) is = never (ap may_wait is)
        own-owed-by (Rings e) is = never (ap may_wait is)
        own-owed-by (Acknowledges number) is = never (ap may_wait is)
        own-owed-by (Looks e) is = never (ap may_wait is)
        own-owed-by (Tries e) is = never (ap may_wait is)
        own-owed-by Answers is = never (ap may_wait is)
        own-owed-by Asks_nothing is = never (ap may_wait is)

        own-owed : IsOwed image endpoint badge a t after
        own-owed = own-owed-by asked refl

      each-owed : (c : Numbered) → Contains (numbered_threads image) c → OwedThen c after
      each-owed c among awaits calls_ = elim (eqb_tells (tcb_of image c) tcb) [
        | inl here_ ↦ (
            let one = one-block c among here_.1 in
            subst (λ (u : Numbered). IsOwed image endpoint badge a u after) (sym one)
            (own-owed (subst (λ (u : Numbered). (thread_at after (tcb_of image u)).status ≡ AwaitsReply) one awaits)
            (subst (λ (u : Numbered). CallsThere image after u endpoint badge) one calls_)))
        | inr apart ↦ other-owed c among apart.1 awaits calls_
      ]

    call-keeps : MakesCall s (tcb_of image t) → (c : Numbered) → Contains (numbered_threads image) c → OwedThen c after
    call-keeps makes c among =
        call-leaves laws.below bytes image t s labels accepted all listed now makes (λ _. OwedThen c after)
        (λ mine point state answer call at _ _ rule. each-owed makes mine point state answer at c among)

  -- ---- any step

  pub step-owed : (c : Numbered) → Contains (numbered_threads image) c → (thread_at (step s Step).0 (tcb_of image c)).status ≡ AwaitsReply
      → CallsThere image (step s Step).0 c endpoint badge → IsOwed image endpoint badge a c (step s Step).0
  step-owed c among =
      step-cases image s labels all (OwedThen c after)
      (λ idle. subst (OwedThen c) (sym (ap (λ (x : State × Label). x.0) (idle-is s idle))) (owed c among))
      (λ t listed now makes. call-keeps t listed now makes c among)
      (λ t listed now free. plain-keeps t listed now free c among)
