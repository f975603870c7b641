-- What holds where a response passes the test with settled threads.
use Rattle.std.proofs.Common.{ℕ, ◌≡◌, ◌<◌, ◌≤◌, ◌++◌, true, false, All, List, [], ◌∷◌}
use Rattle.std.specs.Prelude.{Contains}
use Rattle.model.specs.declared.events.Event.{Event}
use Rattle.model.specs.declared.events.Event.TheVariants.{Step}
use Rattle.model.specs.Acceptance.Accepted.{IsAccepted}
use Rattle.model.specs.Acceptance.Devices.{KeepsDevices}
use Rattle.model.specs.Acceptance.ThreadInvariants.{tcb_of}
use Rattle.model.specs.Images.Described.{Numbered, described, numbered_threads}
use Rattle.model.specs.Images.Image.{Image}
use Rattle.model.specs.Kernel.Steps.{state_after, step}
use Rattle.response.specs.DealtWith.{HoldsWithin, IsDealtWith}
use Rattle.response.specs.Laws.{left_after}
use Rattle.response.specs.Levels.{KeepsLevel, KeepsLevelOnceRested, is_level_label}
use Rattle.response.specs.Rates.{Keeps, Rate, steps_in}
use Rattle.response.specs.Responding.{Response, is_open_by, is_taken_by}
use Rattle.response.proofs.Laws.{answers-so, pays-so, rates-so, steps-with-so}
use Rattle.settled_threads.specs.Laws.{SettledLevelsRestLater, SettledLevelsRestWithin, SettledLinesAreDealtWith, SettledLinesAreDealtWithLater}
use Rattle.settled_threads.specs.Settled.{AreSettled, AreTended}
use Rattle.settled_threads.specs.Tested.{IsTendedAt, Settlement}
use Rattle.settled_threads.proofs.Openings.{settled-so}
use Rattle.settled_threads.proofs.PassedSettled.{PassedSettled, inputs-so, others-so, tended-at, tended-so}

module _ (bytes : List ℕ) (image : Image) (priority : ℕ) (rates : List Rate) (r : Response) (s : Settlement) (most : ℕ → ℕ)
    (accepted : IsAccepted bytes image)
    (own : (u t : Numbered) → Contains (numbered_threads image) u → Contains (numbered_threads image) t → tcb_of image u ≡ tcb_of image t → u ≡ t)
    (p : PassedSettled image priority rates r s most) where
  settled : AreSettled image priority s.settling
  settled = settled-so image priority s p.settled

  tended : AreTended image s.settling (is_open_by r)
  tended = tended-so image priority s.settling own r p.open_ones

  pub runs-at-first : SettledLevelsRestWithin → left_after image priority r.weights [] ≤ r.most → (events : List Event) → All (KeepsDevices image) events
      → Keeps rates events → KeepsLevel image priority r.steps events
  runs-at-first law start events devices keeps =
      law bytes image priority r.weights s.settling rates (is_taken_by r) (is_open_by r) most r.most r.steps events accepted devices
      (pays-so r.weights p.priced image priority p.pays) (answers-so image priority r.weights p.answers) settled (inputs-so image s.settling r p.taken) tended
      (others-so image priority r.weights s.settling (is_taken_by r) most p.owes) (steps-with-so image priority r most p.steps_below)
      (rates-so image r.weights rates p.rated) start
      p.rest keeps p.steps

  pub runs-later : SettledLevelsRestLater → (events : List Event) → All (KeepsDevices image) events → Keeps rates events
      → KeepsLevelOnceRested image priority r.steps events
  runs-later law events devices keeps =
      law bytes image priority r.weights s.settling rates (is_taken_by r) (is_open_by r) most r.most r.steps events accepted devices
      (pays-so r.weights p.priced image priority p.pays) (answers-so image priority r.weights p.answers) settled (inputs-so image s.settling r p.taken) tended
      (others-so image priority r.weights s.settling (is_taken_by r) most p.owes) (steps-with-so image priority r most p.steps_below)
      (rates-so image r.weights rates p.rated)
      p.rest keeps p.steps

  pub deals-at-first : SettledLinesAreDealtWith → left_after image priority r.weights [] ≤ r.most → (number : ℕ) → number < 64 → is_open_by r number ≡ true
      → (a : IsTendedAt image priority number)
      × ((events before window later : List Event) → All (KeepsDevices image) events → Keeps rates events → events ≡ before ++ window ++ later
      → r.steps < steps_in window → HoldsWithin image r.steps before window (IsDealtWith image number a.tended))
  deals-at-first law start number few here =
      let a = tended number few here in (
        tended-at image priority s.settling settled number a.0 a.1,
        λ events before window later devices keeps split enough.
            law bytes image priority r.weights s.settling rates (is_taken_by r) (is_open_by r) most r.most r.steps events accepted devices
            (pays-so r.weights p.priced image priority p.pays) (answers-so image priority r.weights p.answers) settled (inputs-so image s.settling r p.taken)
            tended (others-so image priority r.weights s.settling (is_taken_by r) most p.owes) (steps-with-so image priority r most p.steps_below)
            (rates-so image r.weights rates p.rated) start p.rest keeps p.steps number few here before window later split enough,
      )

  pub deals-later : SettledLinesAreDealtWithLater → (number : ℕ) → number < 64 → is_open_by r number ≡ true
      → (a : IsTendedAt image priority number)
      × ((events first more window later : List Event) → All (KeepsDevices image) events → Keeps rates events
      → is_level_label image priority (step (state_after (described image) first) Step).1 ≡ false
      → events ≡ ((first ++ Step ∷ []) ++ more) ++ window ++ later → r.steps < steps_in window
      → HoldsWithin image r.steps ((first ++ Step ∷ []) ++ more) window (IsDealtWith image number a.tended))
  deals-later law number few here =
      let a = tended number few here in (
        tended-at image priority s.settling settled number a.0 a.1,
        λ events first more window later devices keeps other split enough.
            law bytes image priority r.weights s.settling rates (is_taken_by r) (is_open_by r) most r.most r.steps events accepted devices
            (pays-so r.weights p.priced image priority p.pays) (answers-so image priority r.weights p.answers) settled (inputs-so image s.settling r p.taken)
            tended (others-so image priority r.weights s.settling (is_taken_by r) most p.owes) (steps-with-so image priority r most p.steps_below)
            (rates-so image r.weights rates p.rated) p.rest keeps p.steps number few here first more window later other split enough,
      )
