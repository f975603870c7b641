-- A thread goes on at the tail of its priority, or nothing changes. What that changes stays within authority.
use Rattle.std.proofs.Common.{ℕ, ◌≡◌, ◌≢◌, ◌==◌, ◌≤◌, ◌++◌, ◌&&◌, Bool, true, false, if◌then◌else◌, Option, Some, List, [], ◌∷◌, refl, sym, ◌∙◌, ap, subst}
use Rattle.std.proofs.Common.{inl, inr, arith}
use Rattle.std.specs.Option.{option_map_or}
use Rattle.std.proofs.lemmas.Bool.{eq-eqb}
use Rattle.std.proofs.lemmas.Bool.Decides.{eqb_tells}
use Rattle.model.specs.Acceptance.Authority.{kept, new_slice, same_slice, self_of}
use Rattle.model.specs.Images.Image.{Image, Thread}
use Rattle.model.specs.Kernel.Messages.{passes}
use Rattle.model.specs.Kernel.Scheduling.{full_slice, is_runnable, yielded}
use Rattle.model.specs.Kernel.Soundness.{IsSound, runs_at}
use Rattle.model.specs.Kernel.State.{State, Runnable, Object, ThreadObject, ThreadState, as_thread, thread_at, with_thread}
use Rattle.model.specs.Machine.Effects.{advanced}
use Rattle.model.specs.Shared.Lists.{times_in, without}
use Rattle.headline.proofs.facts.Laws.{at-place}
use Rattle.headline.proofs.moves.Laws.{went-here, went-there, with-here, with-there}
use Rattle.headline.proofs.authority.Changes.{ChangesObjects, stays}
use Rattle.headline.proofs.authority.Gains.{Gains, gains-left, gains-none, gains-tail, nothing-ready}
use Rattle.headline.proofs.authority.Awaited.{awaited-apart, runs-awaits}

module _ (image : Image) (t : Thread) (s : State) (sound : IsSound s) (own : ThreadState) (is : s.objects (self_of image t) ≡ Some (ThreadObject own))
    (runs : own.status ≡ Runnable) where
  abbrev self : ℕ
  self = self_of image t

  abbrev moved : ThreadState
  moved = record own { registers = advanced own.registers }

  abbrev fresh : ThreadState
  fresh = record (thread_at (passes s self) self) { slice = full_slice }

  abbrev one : State
  one = with_thread (passes s self) self fresh

  abbrev after : State
  after = yielded (passes s self) self

  abbrev last : ThreadState
  last = record moved { slice = full_slice }

  fresh-is : fresh ≡ last
  fresh-is = ap (λ (u : ThreadState). record u { slice = full_slice }) (at-place (passes s self) self moved (went-here s self own is))

  after-self : after.objects self ≡ Some (ThreadObject last)
  after-self = with-here (passes s self) self fresh ∙ ap (λ (u : ThreadState). Some (ThreadObject u)) fresh-is

  after-there : (y : ℕ) → y ≢ self → after.objects y ≡ s.objects y
  after-there y not_self = with-there (passes s self) self fresh y not_self ∙ went-there s self y not_self

  -- where it goes
  tail-is : (thread_at one self).priority ≡ own.priority
  tail-is = ap (λ (u : ThreadState). u.priority) (at-place one self fresh (with-here (passes s self) self fresh))
      ∙ ap (λ (u : ThreadState). u.priority) fresh-is

  abbrev at_priority : ℕ → ℕ → List ℕ
  at_priority tail priority = if priority == tail then without self (s.ready tail) ++ self ∷ [] else without self (s.ready priority)

  ready-is : (priority : ℕ) → after.ready priority ≡ at_priority own.priority priority
  ready-is priority = ap (λ (tail : ℕ). at_priority tail priority) tail-is

  there : 1 ≤ times_in (s.ready own.priority) self
  there =
      let runs_there : runs_at s self own.priority ≡ true =
      ap (λ (o : Option Object). option_map_or (λ (u : ThreadState). is_runnable u.status && u.priority == own.priority) (as_thread o) false) is
      ∙ ap (λ (b : Bool). b && own.priority == own.priority) (ap is_runnable runs)
      ∙ eq-eqb own.priority own.priority refl in
      let count : times_in (s.ready own.priority) self ≡ 1 =
      sound.threads.ready self own.priority ∙ ap (λ (b : Bool). if b then 1 else 0) runs_there in
      omega (arith, count)

  gains : (priority : ℕ) → Gains self (s.ready priority) (at_priority own.priority priority) []
  gains priority = elim (eqb_tells priority own.priority) [
    | inl here ↦
        subst (λ (b : Bool). Gains self (s.ready priority) (if b then without self (s.ready own.priority) ++ self ∷ [] else without self (s.ready priority)) [])
        (sym here.0)
        (subst (λ (p : ℕ). Gains self (s.ready p) (without self (s.ready own.priority) ++ self ∷ []) []) (sym here.1)
        (gains-tail self (s.ready own.priority) there))
    | inr apart ↦
        subst (λ (b : Bool). Gains self (s.ready priority) (if b then without self (s.ready own.priority) ++ self ∷ [] else without self (s.ready priority)) [])
        (sym apart.0) (gains-left self (s.ready priority))
  ]

  tail-gains : after.ready own.priority ≡ without self (s.ready own.priority) ++ self ∷ []
  tail-gains =
      ready-is own.priority
      ∙ ap (λ (b : Bool). if b then without self (s.ready own.priority) ++ self ∷ [] else without self (s.ready own.priority))
      (eq-eqb own.priority own.priority refl)

  pub yields-on : ChangesObjects image t s (yielded (passes s (self_of image t)) (self_of image t))
  yields-on = record {
    store = record { memory_bits = refl; boot_radix = refl; slots = λ slot. refl; bytes = λ place. inl refl };
    own = own;
    now = last;
    was = is;
    is = after-self;
    itself = record {
      priority = refl;
      fault_address = refl;
      slice = new_slice refl tail-gains;
      right = kept refl (λ caller right. after-there caller (awaited-apart s sound self caller own is right self (runs-awaits s self own is runs)));
    };
    others = λ y not_self. stays (after-there y not_self);
    lines = λ number either. elim either [ inl differs ↦ absurd (differs refl) | inr differs ↦ absurd (differs refl) ];
    ready = λ priority. nothing-ready s after self priority (subst (λ (l : List ℕ). Gains self (s.ready priority) l []) (sym (ready-is priority))
        (gains priority));
  }

  pub nothing-changes : ChangesObjects image t s s
  nothing-changes = record {
    store = record { memory_bits = refl; boot_radix = refl; slots = λ slot. refl; bytes = λ place. inl refl };
    own = own;
    now = own;
    was = is;
    is = is;
    itself = record { priority = refl; fault_address = refl; slice = same_slice refl; right = kept refl (λ caller right. refl) };
    others = λ y not_self. stays refl;
    lines = λ number either. elim either [ inl differs ↦ absurd (differs refl) | inr differs ↦ absurd (differs refl) ];
    ready = λ priority. nothing-ready s s self priority (gains-none self (s.ready priority));
  }
