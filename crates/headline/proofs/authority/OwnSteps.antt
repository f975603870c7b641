-- The step of a thread of the image, by what it changes: who was woken is ready, at the tail of its priority, since the states before and after
-- it are sound.
use Rattle.std.proofs.Common.{ℕ, ◌≡◌, ◌≢◌, ◌==◌, ◌++◌, ◌&&◌, Bool, false, if◌then◌else◌, Option, Some, List, ◌∙◌, ap, arith}
use Rattle.std.specs.Prelude.{Contains}
use Rattle.std.specs.Option.{option_map_or}
use Rattle.std.proofs.lemmas.Bool.{eq-eqb, ne_eqb}
use Rattle.model.specs.Acceptance.Authority.{ComputesAlone, IsWoken, MakesCall, OwnStep, ReadyChange, WithinAuthority}
use Rattle.model.specs.Acceptance.ThreadInvariants.{tcb_of}
use Rattle.model.specs.Images.Described.{Numbered, numbered_threads}
use Rattle.model.specs.Images.Image.{Image}
use Rattle.model.specs.Kernel.Scheduling.{current, is_runnable}
use Rattle.model.specs.Kernel.Soundness.{IsSound}
use Rattle.model.specs.Kernel.State.{State, Status, Object, ThreadState, as_thread}
use Rattle.model.specs.Shared.Lists.{times_in, without}
use Rattle.headline.proofs.authority.Answering.{counted-there, times-both}
use Rattle.headline.proofs.authority.Awaited.{resting-absent}
use Rattle.headline.proofs.authority.ReadyLists.{times-kept}
use Rattle.headline.proofs.authority.Ticks.{current-counts}
use Rattle.headline.proofs.facts.Laws.{is-listed}
use Rattle.headline.proofs.starts.Laws.{contains}

-- ---- who was woken

module _ (s after : State) (sound : IsSound s) (behind : IsSound after) (self : ℕ) (now : current s ≡ Some self) where
  -- it was in no list
  absent : (priority other : ℕ) → IsWoken s after priority other → (at : ℕ) → times_in (s.ready at) other ≡ 0
  absent priority other w at = resting-absent s sound other w.before w.was w.rested at

  -- and is in that of its priority
  present : (priority other : ℕ) → IsWoken s after priority other → times_in (after.ready priority) other ≡ 1
  present priority other w =
      behind.threads.ready other priority
      ∙ ap (λ (o : Option Object). if option_map_or (λ (t : ThreadState). is_runnable t.status && t.priority == priority)
      (as_thread o) false then 1 else 0) w.is
      ∙ ap (λ (x : Status). if is_runnable x && w.changed.priority == priority then 1 else 0) w.runs
      ∙ ap (λ (b : Bool). if b then 1 else 0) (eq-eqb w.changed.priority priority w.at)

  -- the thread itself is in a list
  another : (priority other : ℕ) → IsWoken s after priority other → other ≢ self
  another priority other w same =
      let there = current-counts s self now in
      let none = absent priority other w there.0 in
      let here : times_in (s.ready there.0) other ≡ times_in (s.ready there.0) self = ap (λ (n : ℕ). times_in (s.ready there.0) n) same in
      let some = there.1 in
      omega (arith, none, here, some)

  pub woken-ready : (priority other : ℕ) → IsWoken s after priority other → (c : ReadyChange s after self priority) → Contains c.added other
  woken-ready priority other w c =
      let apart : (other == self) ≡ false = ne_eqb other self (another priority other w) in
      let old : times_in (without self (s.ready priority)) other ≡ 0 =
      times-kept self (s.ready priority) other apart ∙ absent priority other w priority in
      let new : times_in (without self (after.ready priority)) other ≡ 1 =
      times-kept self (after.ready priority) other apart ∙ present priority other w in
      let list : times_in (without self (after.ready priority)) other ≡ times_in (without self (s.ready priority) ++ c.added) other =
      ap (λ (l : List ℕ). times_in l other) c.list in
      let sum = times-both (without self (s.ready priority)) c.added other in
      counted-there c.added other (omega (arith, old, new, list, sum))

-- ---- the step

pub own-step : (image : Image) (t : Numbered) (s after : State) → Contains (numbered_threads image) t → current s ≡ Some (tcb_of image t) → IsSound s
    → IsSound after → WithinAuthority image t.thread s after → ((MakesCall s (tcb_of image t) → ⊥) → ComputesAlone s after (tcb_of image t))
    → OwnStep image s after
own-step image t s after listed now sound behind within plain = record {
  thread = t.thread;
  listed = let entry = is-listed image t listed in contains image.threads entry.number t.thread entry.listed;
  runs = now;
  within = within;
  plain = plain;
  awake = λ priority other w. woken-ready s after sound behind (tcb_of image t) now priority other w (within.ready priority);
}
