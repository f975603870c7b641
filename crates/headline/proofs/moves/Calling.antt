-- A thread that is at a system call, and the step of that call where one queue changes and some threads move.
use Rattle.std.proofs.Common.{ℕ, ◌≡◌, ◌≢◌, ◌∙◌, ◌+◌, ◌++◌, inl, inr, Bool, true, false, if◌then◌else◌, Option, Some, List, [], ◌∷◌, refl, sym, ap, arith}
use Rattle.std.specs.Prelude.{Contains}
use Rattle.std.proofs.lemmas.Bool.{eq-eqb}
use Rattle.std.proofs.lemmas.Bool.Decides.{eqb_tells}
use Rattle.headline.specs.facts.Standing.{AllStand, IsControlBlock}
use Rattle.headline.specs.facts.Waiting.{WaitsAsAsked}
use Rattle.model.specs.declared.labels.Label.{Label}
use Rattle.model.specs.declared.labels.Label.TheVariants.{Ran}
use Rattle.model.specs.declared.labels.Outcome.{Outcome}
use Rattle.model.specs.Acceptance.Accepted.{IsAccepted}
use Rattle.headline.specs.moves.Ground.{SameGround}
use Rattle.model.specs.Acceptance.CallRules.{AfterCall}
use Rattle.model.specs.Acceptance.NotedStates.{PointState}
use Rattle.model.specs.Acceptance.ThreadInvariants.{ThreadInvariant, tcb_of}
use Rattle.model.specs.Images.Described.{Numbered, numbered_threads}
use Rattle.model.specs.Images.Image.{Image}
use Rattle.model.specs.Kernel.Soundness.{IsSound}
use Rattle.model.specs.Kernel.State.{State, Object, ThreadObject, EndpointObject, EndpointState, NotificationObject, NotificationState, Sender, ThreadState}
use Rattle.model.specs.Kernel.Steps.{memory_base}
use Rattle.model.specs.Kernel.Waits.{is_waited, open_count}
use Rattle.headline.specs.moves.Moving.{CallsAt, GoesOnAs, PassesWith}
use Rattle.headline.specs.calls.Laws.{AreRegisters}
use Rattle.headline.specs.moves.Resting.{HasBeen, OthersRest}
use Rattle.headline.specs.moves.Laws.{Laws}
use Rattle.headline.proofs.moves.Passing.{ends-wait, passes-on}
use Rattle.headline.proofs.moves.Puts.{decided, other-label, own-label}
use Rattle.headline.proofs.moves.Standing.{touches-none}
use Rattle.headline.proofs.moves.Woken.{runs-free}

-- what the label of the call says of each thread's count
pub record IsCounted (image : Image) (t : Numbered) (labels later : List Label) (is_wait : Bool) : Type 0 where
  pub waits : is_wait ≡ true → open_count (tcb_of image t) later ≡ 0
  pub passes : is_wait ≡ false → open_count (tcb_of image t) later ≡ open_count (tcb_of image t) labels + 1
  pub others : (thread : ℕ) → thread ≢ tcb_of image t → open_count thread later ≡ open_count thread labels

pub counted : (image : Image) (t : Numbered) (labels : List Label) (pc : ℕ) (outcome : Outcome) →
    IsCounted image t labels (labels ++ Ran (memory_base + tcb_of image t) pc outcome ∷ []) (is_waited outcome)
counted image t labels pc outcome =
    let tcb = tcb_of image t in
    let own = own-label tcb labels (Ran (memory_base + tcb) pc outcome) (eq-eqb (memory_base + tcb) (memory_base + tcb) refl) in
    record {
      waits = λ waits. own ∙ ap (λ b. if b then 0 else open_count tcb labels + 1) waits;
      passes = λ passes. own ∙ ap (λ b. if b then 0 else open_count tcb labels + 1) passes;
      others = λ thread other. other-label thread labels (Ran (memory_base + tcb) pc outcome) (elim (eqb_tells (memory_base + tcb) (memory_base + thread)) [
        | inl same ↦ absurd (let e = same.1 in other (omega (arith, e)))
        | inr apart ↦ apart.0
      ]);
    }

-- ---- one queue changes, and some threads move

-- what is no thread
abbrev pub NoThread : Object → Type 0
NoThread object = (t : ThreadState) → object ≡ ThreadObject t → ⊥

-- the places of a thread in the changed queue were its places before
pub record QueuesOn (old new : Object) (thread : ℕ) : Type 0 where
  pub sends : (e : EndpointState) (x : Sender) → new ≡ EndpointObject e → Contains e.senders x → x.thread ≡ thread → (f : EndpointState)
      × (old ≡ EndpointObject f) × Contains f.senders x
  pub receives : (e : EndpointState) → new ≡ EndpointObject e → Contains e.receivers thread → (f : EndpointState) × (old ≡ EndpointObject f)
      × Contains f.receivers thread
  pub waits : (n : NotificationState) → new ≡ NotificationObject n → Contains n.waiters thread → (m : NotificationState) × (old ≡ NotificationObject m)
      × Contains m.waiters thread

pub record QueueChanges (s after : State) (queue : ℕ) (old new : Object) (moves : ℕ → Bool) : Type 0 where
  pub was : s.objects queue ≡ Some old
  pub is : after.objects queue ≡ Some new
  pub old_none : NoThread old
  pub new_none : NoThread new
  -- all else stays but for the threads that move
  pub others : (y : ℕ) → y ≢ queue → moves y ≡ false → after.objects y ≡ s.objects y
  -- what moves is a thread
  pub moved : (y : ℕ) → moves y ≡ true → (t : ThreadState) × (after.objects y ≡ Some (ThreadObject t))
  pub queues : (thread : ℕ) → moves thread ≡ false → QueuesOn old new thread

module _ (s after : State) (queue : ℕ) (old new : Object) (moves : ℕ → Bool) (change : QueueChanges s after queue old new moves) where
  one-object : (object : Option Object) (a b : Object) → object ≡ Some a → object ≡ Some b → a ≡ b
  one-object object a b first second = let same : Some a ≡ Some b = sym first ∙ second in cc

  goes-by : (thread : ℕ) (t : ThreadState) → moves thread ≡ false → s.objects thread ≡ Some (ThreadObject t) → GoesOnAs after thread t
  goes-by thread t rests there = elim (decided thread queue) [
    | inl at ↦ absurd (change.old_none t (one-object (s.objects thread) old (ThreadObject t) (ap s.objects at ∙ change.was) there))
    | inr other ↦ record { new = t; is = change.others thread other rests ∙ there; registers = refl; status = refl }
  ]

  been-by : (thread : ℕ) (t : ThreadState) → moves thread ≡ false → after.objects thread ≡ Some (ThreadObject t) → HasBeen s thread t
  been-by thread t rests there = elim (decided thread queue) [
    | inl at ↦ absurd (change.new_none t (one-object (after.objects thread) new (ThreadObject t) (ap after.objects at ∙ change.is) there))
    | inr other ↦ record { old = t; was = sym (change.others thread other rests) ∙ there; status = refl }
  ]

  -- what is no thread after the step and no queue that changed was there before
  still-there : (y : ℕ) (object : Object) → NoThread object → y ≢ queue → after.objects y ≡ Some object → s.objects y ≡ Some object
  still-there y object none other there = elim (moves y) as (λ b. moves y ≡ b → s.objects y ≡ Some object) [
    | true ↦ λ move. let thread = change.moved y move in absurd (none thread.0 (one-object (after.objects y) object (ThreadObject thread.0) there thread.1))
    | false ↦ λ rests. sym (change.others y other rests) ∙ there
  ] refl

  module _ (thread : ℕ) (rests : moves thread ≡ false) where
    sends-by : (q : ℕ) (e : EndpointState) (x : Sender) → after.objects q ≡ Some (EndpointObject e) → Contains e.senders x → x.thread ≡ thread
        → (f : EndpointState) × (s.objects q ≡ Some (EndpointObject f)) × Contains f.senders x
    sends-by q e x there among own = elim (decided q queue) [
      | inl at ↦
          let found = (change.queues thread rests).sends e x (one-object (after.objects q) new (EndpointObject e) (ap after.objects at ∙ change.is) there) among
          own in
          (found.0, ap s.objects at ∙ change.was ∙ ap Some found.1, found.2)
      | inr other ↦ (e, still-there q (EndpointObject e) (λ t clash. absurd cc) other there, among)
    ]

    receives-by : (q : ℕ) (e : EndpointState) → after.objects q ≡ Some (EndpointObject e) → Contains e.receivers thread
        → (f : EndpointState) × (s.objects q ≡ Some (EndpointObject f)) × Contains f.receivers thread
    receives-by q e there among = elim (decided q queue) [
      | inl at ↦
          let found = (change.queues thread rests).receives e (one-object (after.objects q) new (EndpointObject e) (ap after.objects at ∙ change.is) there)
          among in
          (found.0, ap s.objects at ∙ change.was ∙ ap Some found.1, found.2)
      | inr other ↦ (e, still-there q (EndpointObject e) (λ t clash. absurd cc) other there, among)
    ]

    waits-by : (q : ℕ) (n : NotificationState) → after.objects q ≡ Some (NotificationObject n) → Contains n.waiters thread
        → (m : NotificationState) × (s.objects q ≡ Some (NotificationObject m)) × Contains m.waiters thread
    waits-by q n there among = elim (decided q queue) [
      | inl at ↦
          let found = (change.queues thread rests).waits n (one-object (after.objects q) new (NotificationObject n) (ap after.objects at ∙ change.is) there)
          among in
          (found.0, ap s.objects at ∙ change.was ∙ ap Some found.1, found.2)
      | inr other ↦ (n, still-there q (NotificationObject n) (λ t clash. absurd cc) other there, among)
    ]

  pub rest-by-queue : OthersRest s after moves
  rest-by-queue = record {
    goes = goes-by;
    been = been-by;
    queues = λ thread rests. record { sends = sends-by thread rests; receives = receives-by thread rests; waits = waits-by thread rests };
  }

-- ---- no queue changes, and some threads move

pub record ThreadsMove (s after : State) (moves : ℕ → Bool) : Type 0 where
  pub others : (y : ℕ) → moves y ≡ false → after.objects y ≡ s.objects y
  pub moved : (y : ℕ) → moves y ≡ true → (t : ThreadState) × (after.objects y ≡ Some (ThreadObject t))

module _ (s after : State) (moves : ℕ → Bool) (change : ThreadsMove s after moves) where
  there-before : (y : ℕ) (object : Object) → NoThread object → after.objects y ≡ Some object → s.objects y ≡ Some object
  there-before y object none there = elim (moves y) as (λ b. moves y ≡ b → s.objects y ≡ Some object) [
    | true ↦ λ move. let thread = change.moved y move in let same : Some object ≡ Some (ThreadObject thread.0) = sym there ∙ thread.1 in
        absurd (none thread.0 (let e : object ≡ ThreadObject thread.0 = cc in e))
    | false ↦ λ rests. sym (change.others y rests) ∙ there
  ] refl

  pub rest-by-threads : OthersRest s after moves
  rest-by-threads = record {
    goes = λ thread t rests there. record { new = t; is = change.others thread rests ∙ there; registers = refl; status = refl };
    been = λ thread t rests there. record { old = t; was = sym (change.others thread rests) ∙ there; status = refl };
    queues = λ thread rests. record {
      sends = λ q e x there among own. (e, there-before q (EndpointObject e) (λ t clash. absurd cc) there, among);
      receives = λ q e there among. (e, there-before q (EndpointObject e) (λ t clash. absurd cc) there, among);
      waits = λ q n there among. (n, there-before q (NotificationObject n) (λ t clash. absurd cc) there, among);
    };
  }

-- ---- the thread itself

module _ (laws : Laws) (bytes : List ℕ) (image : Image) (s : State) (labels later : List Label) (accepted : IsAccepted bytes image)
    (all : AllStand image s labels)
    (t : Numbered) (listed : Contains (numbered_threads image) t) (own : ThreadState) (point : ℕ) (state : PointState) (left : AfterCall)
    (at : CallsAt image t s labels own point state left) where
  -- its registers are fine
  pub own-registers : AreRegisters own.registers state.ranges
  own-registers =
      let fine = all.sound.threads.threads (tcb_of image t) own at.there in
      record {
        count = fine.registers;
        words = fine.words;
        long = laws.is_long bytes image t point state accepted listed at.stands.known;
        within =
            at.stands.registers;
      }

  -- it is a thread of the image
  pub own-control : (offset : ℕ) → offset ≡ tcb_of image t → IsControlBlock image offset
  own-control offset is = record { thread = t; listed = listed; is = is }

  -- it goes on after a call that waits, or one that does not
  pub own-passes : (after : State) → IsSound after → SameGround image s after → left.slots ≡ state.slots → PassesWith after (tcb_of image t) own state left
      → IsCounted image t labels later left.is_wait → ThreadInvariant image t after later × WaitsAsAsked image t after
  own-passes after sound store slots passes counts =
      let alone = touches-none bytes image t s after accepted listed all.sound sound store in (
        elim left.is_wait as (λ b. left.is_wait ≡ b → ThreadInvariant image t after later) [
          | true ↦ λ wait. ends-wait laws.stand_on image t s after own point state alone at.stands laws.lead laws.ends left at.ecall at.call slots passes later
              wait (counts.waits wait)
          | false ↦ λ no_wait. passes-on laws.stand_on image t s after own point state alone at.stands laws.lead laws.ends left at.ecall at.call slots passes
              labels later no_wait at.budget (counts.passes no_wait)
        ] refl,
        runs-free image t after passes.next passes.is passes.runs,
      )
