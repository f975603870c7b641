-- A settled thread whose input is a notification takes from it where it waits there.
use Rattle.std.proofs.Common.{ℕ, ◌≡◌, ◌∙◌, Option, Some, None, List, sym, ap, subst}
use Rattle.model.specs.declared.labels.Label.{Label}
use Rattle.model.specs.Acceptance.Accepted.{IsAccepted}
use Rattle.model.specs.Images.Described.{Numbered, described}
use Rattle.model.specs.Images.Image.{Image}
use Rattle.model.specs.Kernel.Interrupts.{binding}
use Rattle.model.specs.Kernel.Scheduling.{is_runnable}
use Rattle.model.specs.Kernel.State.{EndpointObject, NotificationObject, NotificationState, State}
use Rattle.headline.specs.facts.Standing.{AllStand}
use Rattle.headline.specs.moves.Laws.{Laws}
use Rattle.response.specs.Asking.{Accepts, Asked, Calls, SendsTo, Takes, asked_at}
use Rattle.response.specs.Laws.{WaitsToTake}
use Rattle.response.specs.Resting.{IsTended}
use Rattle.response.proofs.Laws.{WaitsAt, WaitsBy, accepts_from, bell-there, calls_there, gate-there, here, sends_there, takes_word, waits-at}
use Rattle.settled_threads.specs.Settled.{HasNothing, WaitsAtInput, taken_by}

pub word-none : (image : Image) (s : State) (t : Numbered) (object : ℕ) → WaitsAtInput image t s object → (n : NotificationState)
    → s.objects object ≡ Some (NotificationObject n) → n.word ≡ 0
word-none image s t object waits n is = subst HasNothing is waits.nothing

module _ (laws : Laws) (bytes : List ℕ) (image : Image) (s : State) (labels : List Label) (accepted : IsAccepted bytes image) (all : AllStand image s labels)
    (number : ℕ) (a : IsTended image number) (bound : binding s number ≡ binding (described image) number) (w : WaitsAtInput image a.thread s a.queue) where
  bell : (n : NotificationState) × (s.objects a.queue ≡ Some (NotificationObject n))
  bell = bell-there image s labels all number (record { notification = a.queue; badge = a.badge }) (bound ∙ a.bound)

  v : WaitsAt image a.thread s labels w.own
  v = waits-at laws bytes image s labels accepted all a.thread a.listed w.own w.there (ap is_runnable w.waits)

  takes : taken_by (asked_at image a.thread.thread v.point v.state) ≡ Some a.queue
  takes = ap taken_by (sym (here laws bytes image s labels accepted all a.thread a.listed w.own v).1) ∙ w.takes

  takes-as : (x : Asked) → asked_at image a.thread.thread v.point v.state ≡ x → taken_by x ≡ Some a.queue
  takes-as x is = sym (ap taken_by is) ∙ takes

  -- what it takes from is no endpoint
  by-way : WaitsBy image a.thread.thread v.state v.left (asked_at image a.thread.thread v.point v.state)
      → asked_at image a.thread.thread v.point v.state ≡ Takes a.queue
  by-way (takes_word o r badge named asks end) =
      let both : Some o ≡ Some a.queue = takes-as (Takes o) asks in
      let same : o ≡ a.queue = cc in
      asks ∙ ap Takes same
  by-way (accepts_from o r badge replies named asks end) =
      let gate = gate-there laws bytes image s labels accepted all a.thread a.listed w.own v a.queue w.waits o r badge named in
      let both : Some o ≡ Some a.queue = takes-as (Accepts o replies) asks in
      let same : o ≡ a.queue = cc in
      let clash : Some (EndpointObject gate.0) ≡ Some (NotificationObject bell.0) = sym gate.1 ∙ ap s.objects same ∙ bell.1 in
      absurd cc
  by-way (sends_there o r badge named asks end) =
      absurd (let clash : ◌≡◌ {A = Option ℕ} None (Some a.queue) = takes-as (SendsTo o) asks in cc)
  by-way (calls_there o r badge named asks end) =
      absurd (let clash : ◌≡◌ {A = Option ℕ} None (Some a.queue) = takes-as (Calls o) asks in cc)

  pub takes-there : WaitsToTake image a.thread s labels a.queue
  takes-there = record {
    own = w.own;
    there = w.there;
    status = w.waits;
    point = v.point;
    state = v.state;
    stands = v.stands;
    ecall = v.ecall;
    left = v.left;
    call = v.call;
    asks = by-way v.way;
    none = v.none;
  }
