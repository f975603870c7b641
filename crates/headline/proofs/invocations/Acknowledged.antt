-- An interrupt line is acknowledged: one that is pending may signal, and the thread has its answer yet to get.
use Rattle.std.proofs.Common.{ℕ, ◌≡◌, Bool, true, false, if◌then◌else◌, Option, Some, None, List, [], ◌∷◌, refl}
use Rattle.std.specs.Prelude.{Contains}
use Rattle.std.specs.Option.{option_map_or}
use Rattle.headline.specs.facts.Standing.{AllStand}
use Rattle.model.specs.declared.labels.Label.{Label}
use Rattle.model.specs.Acceptance.Accepted.{IsAccepted}
use Rattle.headline.specs.moves.Ground.{SameGround}
use Rattle.model.specs.Acceptance.CallRules.{AfterCall}
use Rattle.model.specs.Acceptance.NotedStates.{PointState}
use Rattle.model.specs.Images.Described.{Numbered, numbered_threads}
use Rattle.model.specs.Images.Image.{Image}
use Rattle.model.specs.Kernel.Interrupts.{Signal, acknowledge, binding, interrupt, with_pending}
use Rattle.model.specs.Kernel.Messages.{signals}
use Rattle.model.specs.Kernel.Soundness.{IsSound}
use Rattle.model.specs.Kernel.State.{State, NotificationState, ThreadState, notification_at, put}
use Rattle.headline.specs.moves.Laws.{Laws}
use Rattle.headline.specs.moves.Moving.{CallsAt}
use Rattle.headline.proofs.moves.Laws.{HasSignalled, bound-there, calls-on, signal-leaves-so, unchanged-stand}

-- masks and pending bits do not change a signal
signals-same : (s : State) (masked pending : ℕ → Bool) (n badge y : ℕ) (o : NotificationState) (waiters : List ℕ)
    → (signals (record s { masked = masked; pending = pending }) n badge o waiters).objects y ≡ (signals s n badge o waiters).objects y
signals-same s masked pending n badge y o [] = refl
signals-same s masked pending n badge y o (w ∷ others) = refl

signals-store : (image : Image) (s : State) (masked pending later : ℕ → Bool) (n badge : ℕ) (o : NotificationState) (waiters : List ℕ)
    → SameGround image s (record (signals (record s { masked = masked; pending = pending }) n badge o waiters) { masked = later })
signals-store image s masked pending later n badge o [] =
    record { memory_bits = refl; boot_radix = refl; slots = λ slot. refl; bytes = λ frame place code low high. refl }
signals-store image s masked pending later n badge o (w ∷ others) =
    record { memory_bits = refl; boot_radix = refl; slots = λ slot. refl; bytes = λ frame place code low high. refl }

module _ (laws : Laws) (bytes : List ℕ) (image : Image) (s : State) (labels : List Label) (accepted : IsAccepted bytes image) (all : AllStand image s labels)
    (t : Numbered) (listed : Contains (numbered_threads image) t) (own : ThreadState) (point : ℕ) (state : PointState) (left : AfterCall)
    (at : CallsAt image t s labels own point state left) (line : ℕ) where
  abbrev unmasked : State
  unmasked = record s { masked = put s.masked line false }

  abbrev cleared : State
  cleared = with_pending unmasked line false

  delivers : (bound : Signal) → binding s line ≡ Some bound → IsSound (interrupt cleared line bound)
      → HasSignalled image t (interrupt cleared line bound) labels own point state left
  delivers bound is sound =
      let there = bound-there s all.sound line bound is in
      let n = bound.notification in
      let o = notification_at s n in
      signal-leaves-so laws bytes image s labels accepted all t listed own point state left at n there.old there.was bound.badge there.small
      (interrupt cleared line bound) sound
      (signals-store image s (put s.masked line false) (put s.pending line false) (put (put s.masked line false) line true) n bound.badge o o.waiters)
      (λ y. signals-same s (put s.masked line false) (put s.pending line false) n bound.badge y o o.waiters)

  stays : IsSound unmasked → HasSignalled image t unmasked labels own point state left
  stays sound =
      let store : SameGround image s unmasked =
      record { memory_bits = refl; boot_radix = refl; slots = λ slot. refl; bytes = λ frame place code low high. refl } in
      record {
        all = unchanged-stand laws bytes image s labels labels accepted all (λ u member. refl) unmasked sound store (λ y. refl);
        at = calls-on laws bytes image s labels accepted all t listed own point state left at unmasked sound store own at.there refl refl;
      }

  by-binding : (bound : Option Signal) → binding s line ≡ bound → IsSound (option_map_or (interrupt cleared line) bound unmasked)
      → HasSignalled image t (option_map_or (interrupt cleared line) bound unmasked) labels own point state left
  by-binding None is sound = stays sound
  by-binding (Some bound) is sound = delivers bound is sound

  pub acknowledge-leaves : IsSound (acknowledge s line) → HasSignalled image t (acknowledge s line) labels own point state left
  acknowledge-leaves =
      elim (s.pending line) as (λ b. let after = if b then option_map_or (interrupt cleared line) (binding s line) unmasked else unmasked in
      IsSound after → HasSignalled image t after labels own point state left) [
        | true ↦ by-binding (binding s line) refl
        | false ↦ stays
      ]
