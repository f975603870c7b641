-- A reply wakes the caller after its call with the message of the thread that replies, which gives the right to reply away.
use Rattle.std.proofs.Common.{ℕ, ◌≡◌, ◌≢◌, ◌∙◌, ◌==◌, ◌||◌, inl, inr, Bool, true, false, Option, Some, None, List, refl, sym, ap, subst}
use Rattle.std.specs.Prelude.{Contains, IsTrue}
use Rattle.std.specs.Option.{option_map_or}
use Rattle.std.proofs.lemmas.Bool.{eqb-true, eqb-false}
use Rattle.headline.specs.facts.Standing.{AllStand, IsControlBlock}
use Rattle.headline.specs.facts.Waiting.{WaitsAsAsked, WaitsSo, behind_reply}
use Rattle.headline.proofs.facts.Laws.{at-place}
use Rattle.model.specs.declared.labels.Label.{Label}
use Rattle.model.specs.Acceptance.Accepted.{IsAccepted}
use Rattle.headline.specs.moves.Ground.{SameGround}
use Rattle.model.specs.Acceptance.CallRules.{AfterCall}
use Rattle.model.specs.Acceptance.NotedStates.{PointState}
use Rattle.model.specs.Acceptance.ThreadInvariants.{IsWaiting, ThreadInvariant, runs as runs_so, waits as waits_so, tcb_of}
use Rattle.model.specs.Images.Described.{Numbered, numbered_threads}
use Rattle.model.specs.Images.Image.{Image}
use Rattle.model.specs.Kernel.Deliveries.{woken}
use Rattle.model.specs.Kernel.Messages.{Message, bytes_between, deliver, delivered, length_between, message_between, replied, reply, reply_to_call, with_caller}
use Rattle.model.specs.Kernel.Scheduling.{wake}
use Rattle.model.specs.Kernel.Soundness.{IsSound, awaits_answer}
use Rattle.model.specs.Kernel.State.{State, Status, Inactive, Runnable, Blocked, AwaitsReply, AwaitsHandler, Object, ThreadObject, EndpointObject}
use Rattle.model.specs.Kernel.State.{NotificationObject, CNodeObject, FrameObject, PageTableObject, RootTableObject, ThreadState, as_thread, new_thread}
use Rattle.model.specs.Kernel.State.{thread_at}
use Rattle.model.specs.Machine.Effects.{advanced}
use Rattle.model.specs.Machine.ProgramMemory.{RegisterFile}
use Rattle.headline.specs.moves.Moving.{CallsAt}
use Rattle.headline.specs.moves.Laws.{Laws}
use Rattle.headline.proofs.moves.Calling.{rest-by-threads}
use Rattle.headline.specs.calls.Laws.{AreRegisters, IsMessage}
use Rattle.headline.proofs.kept.Laws.{code-stays, length-few}
use Rattle.headline.proofs.moves.LeftAlone.{one-thread}
use Rattle.headline.proofs.moves.Places.{caller-here, caller-there, delivered-here, delivered-there, woke, woke-there}
use Rattle.headline.proofs.moves.SimpleCalls.{calls-on}
use Rattle.headline.proofs.moves.Standing.{all-stand}
use Rattle.headline.proofs.moves.Waiters.{delivered-pc, message-fine}
use Rattle.headline.proofs.moves.Woken.{FitsBehind, runs-free, wakes-up}

-- ---- who awaits an answer

-- a thread that waits for an answer as threads of images do
record AwaitsThere (s : State) (caller : ℕ) : Type 0 where
  other : ThreadState
  is : s.objects caller ≡ Some (ThreadObject other)
  awaits : IsTrue (awaits_answer other.status)

awaits-there : (s : State) (caller : ℕ) (o : Option Object) → s.objects caller ≡ o
    → IsTrue (awaits_answer (option_map_or (λ (u : ThreadState). u) (as_thread o) new_thread).status) → AwaitsThere s caller
awaits-there s caller (Some (ThreadObject other)) is awaits = record { other = other; is = is; awaits = awaits }
awaits-there s caller None is awaits = absurd (let clash : false ≡ true = awaits in cc)
awaits-there s caller (Some (EndpointObject e)) is awaits = absurd (let clash : false ≡ true = awaits in cc)
awaits-there s caller (Some (NotificationObject n)) is awaits = absurd (let clash : false ≡ true = awaits in cc)
awaits-there s caller (Some (CNodeObject radix)) is awaits = absurd (let clash : false ≡ true = awaits in cc)
awaits-there s caller (Some FrameObject) is awaits = absurd (let clash : false ≡ true = awaits in cc)
awaits-there s caller (Some PageTableObject) is awaits = absurd (let clash : false ≡ true = awaits in cc)
awaits-there s caller (Some RootTableObject) is awaits = absurd (let clash : false ≡ true = awaits in cc)

no-handler : (status : Status) → IsTrue (awaits_answer status) → IsWaiting status → status ≡ AwaitsReply
no-handler AwaitsReply awaits waits = refl
no-handler AwaitsHandler awaits waits = absurd waits
no-handler Inactive awaits waits = absurd waits
no-handler Runnable awaits waits = absurd waits
no-handler (Blocked queue) awaits waits = absurd (let clash : false ≡ true = awaits in cc)

no-runner : (status : Status) → IsTrue (awaits_answer status) → status ≡ Runnable → ⊥
no-runner AwaitsReply awaits is = absurd cc
no-runner AwaitsHandler awaits is = absurd cc
no-runner Inactive awaits is = absurd cc
no-runner Runnable awaits is = absurd (let clash : false ≡ true = awaits in cc)
no-runner (Blocked queue) awaits is = absurd cc

no-stopped : (status : Status) → IsTrue (awaits_answer status) → status ≡ Inactive → ⊥
no-stopped AwaitsReply awaits is = absurd cc
no-stopped AwaitsHandler awaits is = absurd cc
no-stopped Inactive awaits is = absurd (let clash : false ≡ true = awaits in cc)
no-stopped Runnable awaits is = absurd cc
no-stopped (Blocked queue) awaits is = absurd cc

-- a thread of the image that awaits an answer awaits that of whom it called
reply-awaited : (image : Image) (u : Numbered) (s : State) (labels : List Label) (other : ThreadState) → s.objects (tcb_of image u) ≡ Some (ThreadObject other)
    → IsTrue (awaits_answer other.status) → ThreadInvariant image u s labels → other.status ≡ AwaitsReply
reply-awaited image u s labels other is awaits (runs_so own point state there status stands budget) =
    let same : own ≡ other = one-thread (s.objects (tcb_of image u)) own other there is in
    absurd (no-runner other.status awaits (ap (λ (x : ThreadState). x.status) (sym same) ∙ status))
reply-awaited image u s labels other is awaits (waits_so own point state there waiting stands waits none) =
    let same : own ≡ other = one-thread (s.objects (tcb_of image u)) own other there is in
    no-handler other.status awaits (subst (λ (x : ThreadState). IsWaiting x.status) same waiting)

-- ---- the reply

either : (a b : Bool) → (a || b) ≡ false → (a ≡ false) × (b ≡ false)
either true b is = absurd (let clash : true ≡ false = is in cc)
either false b is = (refl, is)

-- what the reply leaves: the threads' invariant, and that the one that replies is at its call, with no caller
pub record HasReplied (image : Image) (t : Numbered) (after : State) (labels : List Label) (own : ThreadState) (point : ℕ) (state : PointState)
    (left : AfterCall) : Type 0 where
  pub all : AllStand image after labels
  pub at : CallsAt image t after labels (record own { caller = None }) point state left

module _ (laws : Laws) (bytes : List ℕ) (image : Image) (s : State) (labels : List Label) (accepted : IsAccepted bytes image) (all : AllStand image s labels)
    (t : Numbered) (listed : Contains (numbered_threads image) t) (own : ThreadState) (point : ℕ) (state : PointState) (left : AfterCall)
    (at : CallsAt image t s labels own point state left) where
  abbrev tcb : ℕ
  tcb = tcb_of image t

  abbrev next : ThreadState
  next = record own { caller = None }

  -- the thread itself is where it was, in any state that has it without a caller
  module _ (after : State) (sound : IsSound after) (store : SameGround image s after)
      (there : after.objects (tcb_of image t) ≡ Some (ThreadObject (record own { caller = None }))) where
    calls-still : CallsAt image t after labels next point state left
    calls-still = calls-on laws bytes image s labels accepted all t listed own point state left at after sound store next there refl refl

    own-stands : ThreadInvariant image t after labels × WaitsAsAsked image t after
    own-stands = (runs_so next point state there at.status calls-still.stands at.budget, runs-free image t after next there at.status)

  -- it has a caller
  module _ (caller : ℕ) (other : ThreadState) (other-there : s.objects caller ≡ Some (ThreadObject other))
      (u : Numbered) (member : Contains (numbered_threads image) u) (block : caller ≡ tcb_of image u) (status : other.status ≡ AwaitsReply)
      (message : Message) (fine : IsMessage message) (after : State) (sound : IsSound after) (store : SameGround image s after)
      (objects : (y : ℕ) → after.objects y ≡ (wake (deliver (with_caller s (tcb_of image t) None) caller 0 message) caller).objects y) where
    abbrev one : State
    one = with_caller s tcb None

    abbrev written : RegisterFile
    written = delivered other.registers 0 message

    caller-apart : caller ≢ tcb
    caller-apart same =
        let alike : other ≡ own = one-thread (s.objects caller) other own other-there (ap s.objects same ∙ at.there) in
        absurd (let clash : AwaitsReply ≡ Runnable = sym status ∙ ap (λ (x : ThreadState). x.status) alike ∙ at.status in cc)

    one-own : one.objects tcb ≡ Some (ThreadObject next)
    one-own = caller-here s tcb None own at.there

    two-caller : (deliver one caller 0 message).objects caller ≡ Some (ThreadObject (record other { registers = advanced written }))
    two-caller = delivered-here one caller 0 message other (caller-there s tcb None caller caller-apart ∙ other-there)

    after-caller : after.objects caller ≡ Some (ThreadObject (woken other (advanced written)))
    after-caller = objects caller ∙ woke (deliver one caller 0 message) caller (record other { registers = advanced written }) two-caller

    after-there : (y : ℕ) → y ≢ caller → after.objects y ≡ one.objects y
    after-there y apart = objects y ∙ woke-there (deliver one caller 0 message) caller y apart ∙ delivered-there one caller 0 message y apart

    after-own : after.objects tcb ≡ Some (ThreadObject next)
    after-own = after-there tcb (λ same. caller-apart (sym same)) ∙ one-own

    fits : (found : PointState) (behind : AfterCall) → WaitsSo image u s found behind other.status → AreRegisters other.registers found.ranges
        → FitsBehind found behind other.registers written
    fits found behind so registers =
        let behind_is : behind ≡ behind_reply found = subst (WaitsSo image u s found behind) status so in
        let fit = laws.answer other.registers found.ranges message registers fine in
        subst (λ (l : AfterCall). FitsBehind found l other.registers written) (sym behind_is)
        (record { slots = refl; pc = delivered-pc other.registers 0 message; only = fit.1; within = fit.0 })

    caller-stands : ThreadInvariant image u after labels × WaitsAsAsked image u after
    caller-stands =
        wakes-up laws bytes image s labels labels accepted all after sound store u member refl other (ap s.objects (sym block) ∙ other-there) written
        (woken other (advanced written)) (ap after.objects (sym block) ∙ after-caller) refl refl fits (subst IsWaiting (sym status) tt)

    abbrev moves : ℕ → Bool
    moves y = y == caller || y == tcb

    -- what moves is the caller or the thread itself
    moved-is : {P : Type 0} (y : ℕ) → moves y ≡ true → (y ≡ caller → P) → (y ≡ tcb → P) → P
    moved-is {P} y is as-caller as-own = elim (y == caller) as (λ b. (y == caller) ≡ b → (b || y == tcb) ≡ true → P) [
      | true ↦ λ same _. as-caller (eqb-true y caller same)
      | false ↦ λ _ same. as-own (eqb-true y tcb same)
    ] refl is

    rests-apart : (y : ℕ) → moves y ≡ false → after.objects y ≡ s.objects y
    rests-apart y rests = let apart = either (y == caller) (y == tcb) rests in after-there y (eqb-false y caller apart.0)
        ∙ caller-there s tcb None y (eqb-false y tcb apart.1)

    moves-so : (v : Numbered) → Contains (numbered_threads image) v → moves (tcb_of image v) ≡ true → ThreadInvariant image v after labels
        × WaitsAsAsked image v after
    moves-so v among is =
        moved-is (tcb_of image v) is
        (λ same. subst (λ (x : Numbered). ThreadInvariant image x after labels × WaitsAsAsked image x after)
        (laws.own_blocks bytes image u v accepted member among (sym block ∙ sym same)) caller-stands)
        (λ same. subst (λ (x : Numbered). ThreadInvariant image x after labels × WaitsAsAsked image x after)
        (laws.own_blocks bytes image t v accepted listed among (sym same)) (own-stands after sound store after-own))

    all-replied : AllStand image after labels
    all-replied =
        all-stand laws.stand_on bytes image s after labels labels moves accepted all sound store
        (rest-by-threads s after moves (record {
          others = rests-apart;
          moved = λ y is. moved-is y is (λ same. (woken other (advanced written), ap after.objects same ∙ after-caller))
              (λ same. (next, ap after.objects same ∙ after-own));
        }))
        moves-so
        (λ offset thread is there.
        moved-is offset is (λ same. record { thread = u; listed = member; is = same ∙ block }) (λ same. record { thread = t; listed = listed; is = same }))
        (λ v among rests. refl)

    replied-so : HasReplied image t after labels own point state left
    replied-so = record { all = all-replied; at = calls-still after sound store after-own }

  caller-control : (caller : ℕ) (other : ThreadState) → s.objects caller ≡ Some (ThreadObject other) → IsTrue (awaits_answer other.status) →
      IsControlBlock image caller
  caller-control caller other is awaits = elim (all.others caller other is) [
    | inl stopped ↦ absurd (no-stopped other.status awaits stopped)
    | inr block ↦ block
  ]

  abbrev ToCaller : ℕ → State
  ToCaller caller = replied (with_caller s tcb None) tcb caller (thread_at s caller).status (message_between s tcb caller)

  to-caller : (caller : ℕ) → (thread_at s tcb).caller ≡ Some caller → IsSound (ToCaller caller) →
      HasReplied image t (ToCaller caller) labels own point state left
  to-caller caller has sound =
      let there = awaits-there s caller (s.objects caller) refl (all.sound.threads.callers tcb caller has) in
      let other = AwaitsThere.other there in
      let block = caller-control caller other (AwaitsThere.is there) (AwaitsThere.awaits there) in
      let status =
      reply-awaited image block.thread s labels other (ap s.objects (sym block.is) ∙ AwaitsThere.is there) (AwaitsThere.awaits there)
      (all.stand block.thread block.listed) in
      let same : (thread_at s caller).status ≡ AwaitsReply = ap (λ (x : ThreadState). x.status) (at-place s caller other (AwaitsThere.is there)) ∙ status in
      let message = message_between s tcb caller in
      let by = λ (x : Status). replied (with_caller s tcb None) tcb caller x message in
      let one : State = reply_to_call (with_caller s tcb None) tcb caller message in
      subst (λ (x : Status). HasReplied image t (by x) labels own point state left) (sym same)
      (replied-so caller other (AwaitsThere.is there) block.thread block.listed block.is status message
      (message-fine s tcb caller own at.there (all.sound.threads.threads tcb own at.there)) one (subst (λ (x : Status). IsSound (by x)) same sound)
      (record {
        memory_bits = refl;
        boot_radix = refl;
        slots = λ slot. refl;
        bytes = λ frame place code low high.
            subst (λ (x : ℕ). bytes_between s tcb x (length_between s tcb caller) place ≡ s.bytes place) (sym block.is)
            (code-stays bytes image s labels accepted all block.thread block.listed tcb (length_between s tcb caller) (length-few s tcb caller) frame place code
            low high);
      })
      (λ y. refl))

  -- it has none, and nothing changes
  no-caller : (thread_at s tcb).caller ≡ None → HasReplied image t s labels own point state left
  no-caller none =
      let same : own ≡ next = ap (λ (c : Option ℕ). record own { caller = c })
      (ap (λ (x : ThreadState). x.caller) (sym (at-place s tcb own at.there)) ∙ none) in
      record { all = all; at = subst (λ (x : ThreadState). CallsAt image t s labels x point state left) same at }

  pub reply-stands : IsSound (reply s (tcb_of image t)) → HasReplied image t (reply s (tcb_of image t)) labels own point state left
  reply-stands =
      elim (thread_at s tcb).caller as (λ c. (thread_at s tcb).caller ≡ c → IsSound (option_map_or ToCaller c s)
      → HasReplied image t (option_map_or ToCaller c s) labels own point state left) [
        | None ↦ λ none sound. no-caller none
        | Some caller ↦ λ has sound. to-caller caller has sound
      ] refl
