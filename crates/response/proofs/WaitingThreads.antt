-- A thread that waits: where it is, what it asked, and in which queue it is. So what it costs that it goes on.
use Rattle.std.proofs.Common.{ℕ, ◌≡◌, ◌∙◌, ◌+◌, ◌-◌, ◌/◌, ◌%◌, ◌^◌, ◌≤◌, ◌&&◌, inl, inr, Bool, true, false, if◌then◌else◌, Some, List, [], ◌∷◌}
use Rattle.std.proofs.Common.{refl, sym, ap, subst, arith}
use Rattle.std.specs.Prelude.{Contains, Ok}
use Rattle.model.specs.declared.capabilities.Cap.{Cap}
use Rattle.model.specs.declared.capabilities.Cap.TheVariants.{Endpoint, Notification}
use Rattle.model.specs.declared.instructions.Instr.TheVariants.{Ecall}
use Rattle.model.specs.declared.instructions.Register.{Register}
use Rattle.model.specs.declared.labels.Label.{Label}
use Rattle.model.specs.declared.rights.Rights.{Rights}
use Rattle.model.specs.Acceptance.Accepted.{IsAccepted}
use Rattle.model.specs.Acceptance.Authority.{badge_of}
use Rattle.model.specs.Acceptance.CallRules.{AfterCall, changes_nothing, message_registers}
use Rattle.model.specs.Acceptance.NotedStates.{PointState}
use Rattle.model.specs.Acceptance.PointStates.{Noted, address_of, call_at, instruction_at, noted, point_of}
use Rattle.model.specs.Acceptance.Ranges.{range_of}
use Rattle.model.specs.Acceptance.ThreadInvariants.{IsWaiting, StandsAt, ThreadInvariant, runs, tcb_of, waits}
use Rattle.model.specs.Images.Described.{Numbered, numbered_threads}
use Rattle.model.specs.Images.Image.{Image}
use Rattle.model.specs.Kernel.Kinds.{Names}
use Rattle.model.specs.Kernel.Messages.{a0, a7}
use Rattle.model.specs.Kernel.Retype.{NewEndpoint, NewNotification, NewObject}
use Rattle.model.specs.Kernel.Scheduling.{is_runnable}
use Rattle.model.specs.Kernel.State.{AwaitsReply, Blocked, ByCall, BySend, EndpointObject, EndpointState, Runnable, Sender, State, Status}
use Rattle.model.specs.Kernel.State.{ThreadObject, ThreadState, thread_at}
use Rattle.model.specs.Kernel.Steps.{call_of}
use Rattle.model.specs.Kernel.Waits.{open_count}
use Rattle.headline.proofs.Laws.{at-place}
use Rattle.headline.specs.facts.Standing.{AllStand}
use Rattle.headline.specs.facts.Waiting.{NamesQueue, QueuesSo, SendsAs, WaitsSo, behind_receive}
use Rattle.headline.specs.moves.Laws.{Laws}
use Rattle.response.specs.Asking.{Accepts, Asked, Calls, SendsTo, asked_at, asked_known, capability_named}
use Rattle.response.specs.Left.{left_of_thread, point_now}
use Rattle.response.specs.Levels.{is_of_level}
use Rattle.response.specs.Owed.{WaitsWhereAsked, asked_noted, asked_there, going_on, is_call, owed_as, owed_of_thread}
use Rattle.response.specs.Weights.{Leads, Weights}
use Rattle.response.proofs.AtRest.{asked-is}
use Rattle.response.proofs.CallLeads.{call-leads, next-address, next-inside}
use Rattle.response.proofs.NamedNow.{named-is}
use Rattle.response.proofs.Waiting.{one-left, same-thread}
use Rattle.response.proofs.WaysToWait.{WaitsBy, accepts_from, calls_there, sends_there, takes_word, way-to-wait}
use Rattle.response.proofs.Woken.{point-of}

-- a thread that waits
pub record WaitsAt (image : Image) (t : Numbered) (s : State) (labels : List Label) (own : ThreadState) : Type 0 where
  pub there : s.objects (tcb_of image t) ≡ Some (ThreadObject own)
  pub waiting : IsWaiting own.status
  pub point : ℕ
  pub state : PointState
  pub stands : StandsAt image t s own point state
  pub ecall : instruction_at t.thread point ≡ Some Ecall
  pub left : AfterCall
  pub call : call_at image t point state ≡ Some (Ok left)
  pub way : WaitsBy image t.thread state left (asked_at image t.thread point state)
  pub so : WaitsSo image t s state left own.status
  pub none : open_count (tcb_of image t) labels ≡ 0

-- ---- where a thread is

-- what is asked where it stands
pub asks-there : (image : Image) (t : Numbered) (s : State) (own : ThreadState) (point : ℕ) (state : PointState)
    → s.objects (tcb_of image t) ≡ Some (ThreadObject own) → StandsAt image t s own point state
    → (point_now image s t ≡ point) × (asked_there image s t ≡ asked_at image t.thread point state)
asks-there image t s own point state there stands =
    let here : point_now image s t ≡ point =
    ap (λ (u : ThreadState). (u.registers.pc - t.thread.header.base) / 4) (at-place s (tcb_of image t) own there)
    ∙ ap (λ (k : ℕ). (k - t.thread.header.base) / 4) stands.pc ∙ point-of t.thread.header.base point in
    (here, ap (λ (k : ℕ). asked_noted image t k (noted image t k)) here ∙ ap (λ (n : Noted). asked_noted image t point n) stands.known)

-- ---- the capabilities that lead to a queue

pub same-endpoint : (o queue : ℕ) (r : Rights) (badge : ℕ) (capability : Cap) → capability ≡ Endpoint o r badge → NamesQueue queue capability → o ≡ queue
same-endpoint o queue r badge capability is leads = elim leads [
  | inl endpoint ↦ (
      let same : Some (NewEndpoint, o) ≡ Some (NewEndpoint, queue) = subst (λ (c : Cap). Names NewEndpoint queue c) is endpoint in
      let pair : (NewEndpoint, o) ≡ (NewEndpoint, queue) = cc in ap (λ (p : NewObject × ℕ). p.1) pair)
  | inr bell ↦ absurd (
      let clash : Some (NewEndpoint, o) ≡ Some (NewNotification, queue) = subst (λ (c : Cap). Names NewNotification queue c) is bell in
      let pair : (NewEndpoint, o) ≡ (NewNotification, queue) = cc in
      let kinds : NewEndpoint ≡ NewNotification = ap (λ (p : NewObject × ℕ). p.0) pair in cc)
]

pub same-bell : (o queue : ℕ) (r : Rights) (badge : ℕ) (capability : Cap) → capability ≡ Notification o r badge → NamesQueue queue capability → o ≡ queue
same-bell o queue r badge capability is leads = elim leads [
  | inl endpoint ↦ absurd (
      let clash : Some (NewNotification, o) ≡ Some (NewEndpoint, queue) = subst (λ (c : Cap). Names NewEndpoint queue c) is endpoint in
      let pair : (NewNotification, o) ≡ (NewEndpoint, queue) = cc in
      let kinds : NewNotification ≡ NewEndpoint = ap (λ (p : NewObject × ℕ). p.0) pair in cc)
  | inr bell ↦ (
      let same : Some (NewNotification, o) ≡ Some (NewNotification, queue) = subst (λ (c : Cap). Names NewNotification queue c) is bell in
      let pair : (NewNotification, o) ≡ (NewNotification, queue) = cc in ap (λ (p : NewObject × ℕ). p.1) pair)
]

not-call : (asked : Asked) (o : ℕ) → asked ≡ Calls o → is_call asked ≡ false → ⊥
not-call asked o is none = let clash : true ≡ false = sym (ap is_call is) ∙ none in absurd cc

-- ---- who waits

module _ (laws : Laws) (bytes : List ℕ) (image : Image) (s : State) (labels : List Label) (accepted : IsAccepted bytes image) (all : AllStand image s labels)
    (t : Numbered) (listed : Contains (numbered_threads image) t) where
  by-invariant : (own : ThreadState) → s.objects (tcb_of image t) ≡ Some (ThreadObject own) → is_runnable own.status ≡ false
      → ThreadInvariant image t s labels → WaitsAt image t s labels own
  by-invariant own there rests (runs other point state is status stands budget) =
      absurd (let clash : false ≡ true = sym rests ∙ ap (λ (u : ThreadState). is_runnable u.status)
      (same-thread (s.objects (tcb_of image t)) own other there is) ∙ ap is_runnable status in cc)
  by-invariant own there rests (waits other point state is status stands asks none) =
      subst (λ (u : ThreadState). WaitsAt image t s labels u) (same-thread (s.objects (tcb_of image t)) other own is there) (record {
        there = is;
        waiting = status;
        point = point;
        state = state;
        stands = stands;
        ecall = asks.0;
        left = asks.1.0;
        call = asks.1.1;
        way = subst (λ (a : Asked). WaitsBy image t.thread state asks.1.0 a) (sym (asked-is image t point state asks.0)) way;
        so = all.wait t listed other point state asks.1.0 is stands.inside stands.pc stands.known asks.1.1;
        none = none;
      })
    where
      way : WaitsBy image t.thread state asks.1.0 (asked_known (call_of (range_of state.ranges a7).low) (capability_named image t.thread state))
      way =
          let allowed = laws.allowed bytes image t point state accepted listed stands.inside stands.known asks.0 in
          way-to-wait image t.thread (point_of t point) state asks.1.0 asks.1.2 laws.receives laws.sends laws.others
          (allowed.is ∙ ap (λ (a : AfterCall). Ok a) (one-left (sym allowed.at ∙ asks.1.1)))

  pub waits-at : (own : ThreadState) → s.objects (tcb_of image t) ≡ Some (ThreadObject own) → is_runnable own.status ≡ false
      → WaitsAt image t s labels own
  waits-at own there rests = by-invariant own there rests (all.stand t listed)

  -- ---- what it costs that it goes on

  module _ (own : ThreadState) (w : WaitsAt image t s labels own) where
    pub next-pc : (own.registers.pc + 4) % 2 ^ 32 ≡ address_of t.thread (w.point + 1)
    next-pc =
        ap (λ (n : ℕ). (n + 4) % 2 ^ 32) w.stands.pc
        ∙ next-address t.thread.header.base t.thread.header.words w.point (laws.ends bytes image t accepted listed)
        (next-inside laws bytes image accepted t listed w.point w.state w.left w.stands.inside w.stands.known w.ecall w.call)

    pub leads-on : Leads image t w.point w.state (w.point + 1)
    leads-on = call-leads laws bytes image accepted t listed w.point w.state w.left w.stands.inside w.stands.known w.ecall w.call

    pub here : (point_now image s t ≡ w.point) × (asked_there image s t ≡ asked_at image t.thread w.point w.state)
    here = asks-there image t s own w.point w.state w.there w.stands

    module _ (priority : ℕ) (weights : Weights) where
      abbrev next : ℕ
      next = going_on priority weights t w.point

      -- what is owed to it
      pub owed-is : owed_of_thread image priority weights s t ≡ owed_as weights (going_on priority weights t w.point) (asked_at image t.thread w.point w.state)
          own.status
      owed-is =
          ap (λ (k : ℕ). owed_as weights (going_on priority weights t k) (asked_there image s t) (thread_at s (tcb_of image t)).status) here.0
          ∙ ap (λ (a : Asked). owed_as weights next a (thread_at s (tcb_of image t)).status) here.1
          ∙ ap (λ (u : ThreadState). owed_as weights next (asked_at image t.thread w.point w.state) u.status) (at-place s (tcb_of image t) own w.there)

      -- once it runs at the next point
      module _ (after : State) (later : List Label) (runs_now : (thread_at after (tcb_of image t)).status ≡ Runnable)
          (pc : (thread_at after (tcb_of image t)).registers.pc ≡ (own.registers.pc + 4) % 2 ^ 32) where
        at-next : point_now image after t ≡ w.point + 1
        at-next = ap (λ (k : ℕ). (k - t.thread.header.base) / 4) (pc ∙ next-pc) ∙ point-of t.thread.header.base (w.point + 1)

        pub runs-owes : owed_of_thread image priority weights after t ≡ 0
        runs-owes = ap (λ (x : Status). owed_as weights (going_on priority weights t (point_now image after t)) (asked_there image after t) x) runs_now

        pub runs-on : left_of_thread image priority weights after later t + owed_of_thread image priority weights after t
            ≤ going_on priority weights t w.point
        runs-on = elim (is_of_level priority t) as (λ b. is_of_level priority t ≡ b →
            (if b && is_runnable (thread_at after (tcb_of image t)).status
            then t.thread.header.budget - open_count (tcb_of image t) later + weights.still t.number (point_now image after t) else 0)
            + owed_of_thread image priority weights after t
            ≤ (if b then t.thread.header.budget + weights.still t.number (w.point + 1) else 0)) [
              | true ↦ λ level.
                  let still = ap (λ (k : ℕ). weights.still t.number k) at-next in
                  let none = runs-owes in
                  elim (is_runnable (thread_at after (tcb_of image t)).status) as (λ b. (if b
                  then t.thread.header.budget - open_count (tcb_of image t) later + weights.still t.number (point_now image after t) else 0)
                  + owed_of_thread image priority weights after t
                  ≤ t.thread.header.budget + weights.still t.number (w.point + 1))
                  [ true ↦ omega (arith, still, none) | false ↦ omega (arith, none) ]
              | false ↦ λ other. let none = runs-owes in omega (arith, none)
            ] refl

    -- ---- what it waits for

    written-apart : (xs ys : List Register) → w.left.written ≡ xs → w.left.written ≡ ys → (xs ≡ ys → ⊥) → ⊥
    written-apart xs ys one two differ = differ (sym one ∙ two)

    module _ (asked_so : WaitsWhereAsked image t s) where
      abbrev asked : Asked
      asked = asked_at image t.thread w.point w.state

      -- among the receivers of an endpoint it accepts from there
      module _ (queue : ℕ) (blocked : own.status ≡ Blocked queue) (e : EndpointState) (is : s.objects queue ≡ Some (EndpointObject e)) where
        queued : QueuesSo image t s w.state w.left queue
        queued = subst (λ (x : Status). WaitsSo image t s w.state w.left x) blocked w.so

        same-queue : (o : ℕ) (r : Rights) (badge : ℕ) → capability_named image t.thread w.state ≡ Endpoint o r badge → o ≡ queue
        same-queue o r badge named =
            same-endpoint o queue r badge queued.capability (sym (named-is image t w.state queued.capability queued.named) ∙ named) queued.leads

        module _ (among : Contains e.receivers (tcb_of image t)) where
          received : w.left ≡ behind_receive image queue w.state
          received = queued.receives e is among

          no-call : is_call asked ≡ false
          no-call = sym (ap is_call here.1) ∙ asked_so.receives queue e is among

          by-way : WaitsBy image t.thread w.state w.left asked → (replies : Bool) × (asked ≡ Accepts queue replies)
          by-way (takes_word o r badge named asks end) =
              absurd (written-apart (a0 ∷ []) message_registers (ap (λ (a : AfterCall). a.written) end) (ap (λ (a : AfterCall). a.written) received)
              (λ clash. absurd cc))
          by-way (accepts_from o r badge replies named asks end) = (replies, asks ∙ ap (λ (k : ℕ). Accepts k replies) (same-queue o r badge named))
          by-way (sends_there o r badge named asks end) =
              absurd (written-apart [] message_registers (ap (λ (a : AfterCall). a.written) end) (ap (λ (a : AfterCall). a.written) received)
              (λ clash. absurd cc))
          by-way (calls_there o r badge named asks end) = absurd (not-call asked o asks no-call)

          pub accepts-there : (replies : Bool) × (asked_at image t.thread w.point w.state ≡ Accepts queue replies)
          accepts-there = by-way w.way

        -- among the senders it sends there, or calls
        module _ (x : Sender) (among : Contains e.senders x) (its : x.thread ≡ tcb_of image t) where
          sent-as : SendsAs w.state w.left x
          sent-as = (queued.sends e x is among its).kind

          -- with the badge of the capability that its call names
          pub badge-there : x.badge ≡ badge_of (capability_named image t.thread w.state)
          badge-there =
              (queued.sends e x is among its).badge ∙ ap badge_of (sym (named-is image t w.state queued.capability queued.named))

          pub data SendsThere : Type 0 where
            as_sender : x.sent ≡ BySend → asked_at image t.thread w.point w.state ≡ SendsTo queue → SendsThere
            as_caller : x.sent ≡ ByCall → x.grant_reply ≡ true → asked_at image t.thread w.point w.state ≡ Calls queue → SendsThere

          send-way : x.sent ≡ BySend → w.left ≡ changes_nothing w.state true → WaitsBy image t.thread w.state w.left asked → SendsThere
          send-way sent left_so (takes_word o r badge named asks end) =
              absurd (written-apart (a0 ∷ []) [] (ap (λ (a : AfterCall). a.written) end) (ap (λ (a : AfterCall). a.written) left_so) (λ clash. absurd cc))
          send-way sent left_so (accepts_from o r badge replies named asks end) =
              absurd (written-apart message_registers [] (ap (λ (a : AfterCall). a.written) end) (ap (λ (a : AfterCall). a.written) left_so)
              (λ clash. absurd cc))
          send-way sent left_so (sends_there o r badge named asks end) = as_sender sent (asks ∙ ap SendsTo (same-queue o r badge named))
          send-way sent left_so (calls_there o r badge named asks end) =
              absurd (written-apart message_registers [] (ap (λ (a : AfterCall). a.written) end) (ap (λ (a : AfterCall). a.written) left_so)
              (λ clash. absurd cc))

          its-call : x.sent ≡ ByCall → is_call asked ≡ true
          its-call sent = sym (ap is_call here.1) ∙ asked_so.sends queue e x is among its sent

          call-way : x.sent ≡ ByCall → x.grant_reply ≡ true → WaitsBy image t.thread w.state w.left asked → SendsThere
          call-way sent grants (takes_word o r badge named asks end) =
              absurd (let clash : false ≡ true = sym (ap is_call asks) ∙ its-call sent in cc)
          call-way sent grants (accepts_from o r badge replies named asks end) =
              absurd (let clash : false ≡ true = sym (ap is_call asks) ∙ its-call sent in cc)
          call-way sent grants (sends_there o r badge named asks end) =
              absurd (let clash : false ≡ true = sym (ap is_call asks) ∙ its-call sent in cc)
          call-way sent grants (calls_there o r badge named asks end) = as_caller sent grants (asks ∙ ap Calls (same-queue o r badge named))

          by-sent : SendsAs w.state w.left x → SendsThere
          by-sent (SendsAs.by_send sent is_left) = send-way sent is_left w.way
          by-sent (SendsAs.by_call sent grants is_left) = call-way sent grants w.way

          pub sends-there : SendsThere
          sends-there = by-sent sent-as

      -- who waits for an answer called
      module _ (awaits : own.status ≡ AwaitsReply) where
        its-answer : is_call asked ≡ true
        its-answer = sym (ap is_call here.1) ∙ asked_so.awaits (ap (λ (u : ThreadState). u.status) (at-place s (tcb_of image t) own w.there) ∙ awaits)

        by-answer : WaitsBy image t.thread w.state w.left asked → (o : ℕ) × (asked ≡ Calls o)
        by-answer (takes_word o r badge named asks end) = absurd (let clash : false ≡ true = sym (ap is_call asks) ∙ its-answer in cc)
        by-answer (accepts_from o r badge replies named asks end) = absurd (let clash : false ≡ true = sym (ap is_call asks) ∙ its-answer in cc)
        by-answer (sends_there o r badge named asks end) = absurd (let clash : false ≡ true = sym (ap is_call asks) ∙ its-answer in cc)
        by-answer (calls_there o r badge named asks end) = (o, asks)

        pub called-there : (o : ℕ) × (asked_at image t.thread w.point w.state ≡ Calls o)
        called-there = by-answer w.way
