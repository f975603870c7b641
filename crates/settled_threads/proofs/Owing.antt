-- What a thread owes that waits at its input: nothing. Threads below the level have none.
use Rattle.std.proofs.Common.{ℕ, ◌≡◌, ◌∙◌, true, false, Option, Some, None, refl, sym, ap}
use Rattle.std.specs.Prelude.{Contains}
use Rattle.model.specs.Acceptance.ThreadInvariants.{tcb_of}
use Rattle.model.specs.Images.Described.{Numbered, numbered_threads}
use Rattle.model.specs.Images.Image.{Image}
use Rattle.model.specs.Kernel.State.{State, Status, ThreadState}
use Rattle.headline.proofs.Laws.{at-place}
use Rattle.response.specs.Asking.{Accepts, Acknowledges, Answers, Asked, Asks_nothing, Calls, Looks, Polls, Rings, SendsTo, Takes, Tries}
use Rattle.response.specs.Left.{point_now}
use Rattle.response.specs.Levels.{is_of_level}
use Rattle.response.specs.Owed.{asked_there, going_on, owed_as, owed_of_thread, owed_queued}
use Rattle.response.specs.Weights.{Weights}
use Rattle.settled_threads.specs.Settled.{AreSettled, Settling, WaitsAtInput, taken_by}

takes-none : (w : Weights) (next : ℕ) (asked : Asked) (o : ℕ) → taken_by asked ≡ Some o → owed_queued w next asked ≡ 0
takes-none w next (Takes e) o is = refl
takes-none w next (Accepts e replies) o is = refl
takes-none w next (SendsTo e) o is = absurd (let clash : ◌≡◌ {A = Option ℕ} None (Some o) = is in cc)
takes-none w next (Calls e) o is = absurd (let clash : ◌≡◌ {A = Option ℕ} None (Some o) = is in cc)
takes-none w next (Polls e) o is = refl
takes-none w next (Rings e) o is = refl
takes-none w next (Acknowledges number) o is = refl
takes-none w next (Looks e) o is = refl
takes-none w next (Tries e) o is = refl
takes-none w next Answers o is = refl
takes-none w next Asks_nothing o is = refl

pub owes-none : (image : Image) (priority : ℕ) (w : Weights) (s : State) (t : Numbered) (object : ℕ) → WaitsAtInput image t s object
    → owed_of_thread image priority w s t ≡ 0
owes-none image priority w s t object waits =
    let next = going_on priority w t (point_now image s t) in
    ap (λ (x : Status). owed_as w next (asked_there image s t) x)
    (ap (λ (u : ThreadState). u.status) (at-place s (tcb_of image t) waits.own waits.there) ∙ waits.waits)
    ∙ takes-none w next (asked_there image s t) object waits.takes

pub below-none : (image : Image) (priority : ℕ) (settling : Settling) → AreSettled image priority settling → (t : Numbered)
    → Contains (numbered_threads image) t → is_of_level priority t ≡ false → settling.input t.number ≡ None
below-none image priority settling settled t listed below =
    elim (settling.input t.number) as (λ (o : Option ℕ). settling.input t.number ≡ o → o ≡ None) [
      | None ↦ λ _. refl
      | Some o ↦ λ is. absurd (let clash : true ≡ false = sym (settled t o listed is).0 ∙ below in cc)
    ] refl
