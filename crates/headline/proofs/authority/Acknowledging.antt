-- A thread acknowledges an interrupt of a line: the line is open again, and what was pending is delivered. What that changes stays within
-- authority.
use Rattle.std.proofs.Common.{ℕ, ◌≡◌, ◌≢◌, ◌⊎◌, Bool, true, false, if◌then◌else◌, Option, Some, None, List, [], ◌∷◌, refl, sym, ◌∙◌, ap, subst, inl, inr}
use Rattle.std.specs.Option.{option_map_or}
use Rattle.std.proofs.lemmas.Bool.Decides.{eqb_tells}
use Rattle.model.specs.Acceptance.Authority.{Acknowledges, CallNames, IsSignalled, LineChange, opens, delivers, kept, same_slice, self_of}
use Rattle.model.specs.Images.Image.{Image, Thread}
use Rattle.model.specs.Kernel.Deliveries.{Signals, by_line}
use Rattle.model.specs.Kernel.Interrupts.{Signal, acknowledge, binding, interrupt, with_pending}
use Rattle.model.specs.Kernel.Messages.{signals}
use Rattle.model.specs.Kernel.Soundness.{IsSound}
use Rattle.model.specs.Kernel.State.{State, Runnable, NotificationObject, NotificationState, ThreadObject, ThreadState, notification_at, put}
use Rattle.headline.proofs.moves.Laws.{put-here, put-there}
use Rattle.headline.proofs.authority.Changes.{ChangesObjects, stays}
use Rattle.headline.proofs.authority.Gains.{gains-none, nothing-ready}
use Rattle.headline.proofs.authority.Interrupted.{bound-notification}
use Rattle.headline.proofs.authority.Signalling.{at-notification, badge-joins, joins-signalled, waiter-wakes, wakes-signalled}

module _ (image : Image) (t : Thread) (s : State) (sound : IsSound s) (own : ThreadState) (is : s.objects (self_of image t) ≡ Some (ThreadObject own))
    (runs : own.status ≡ Runnable) (number : ℕ) (names : CallNames image t s (Acknowledges number)) where
  abbrev self : ℕ
  self = self_of image t

  abbrev unmasked : ℕ → Bool
  unmasked = put s.masked number false

  abbrev open_again : State
  open_again = record s { masked = unmasked }

  -- the line alone differs
  this-line : (masked pending : ℕ → Bool) → ((other : ℕ) → other ≢ number → masked other ≡ s.masked other)
      → ((other : ℕ) → other ≢ number → pending other ≡ s.pending other) → (after : State) → LineChange s after number → (line : ℕ)
      → (s.masked line ≢ masked line) ⊎ (s.pending line ≢ pending line)
      → CallNames image t s (Acknowledges line) × LineChange s after line
  this-line masked pending same_masked same_pending after change line either = elim (eqb_tells line number) [
    | inl here ↦ (
      subst (λ (n : ℕ). CallNames image t s (Acknowledges n)) (sym here.1) names,
      subst (λ (n : ℕ). LineChange s after n) (sym here.1) change,
    )
    | inr apart ↦ absurd (elim either [
      | inl differs ↦ differs (sym (same_masked line apart.1))
      | inr differs ↦ differs (sym (same_pending line apart.1))
    ])
  ]

  opens-alone : (s.pending number ≡ false) ⊎ (binding s number ≡ None) → ChangesObjects image t s open_again
  opens-alone why = record {
    store = record { memory_bits = refl; boot_radix = refl; slots = λ slot. refl; bytes = λ place. inl refl };
    own = own;
    now = own;
    was = is;
    is = is;
    itself = record { priority = refl; fault_address = refl; slice = same_slice refl; right = kept refl (λ caller right. refl) };
    others = λ y not_self. stays refl;
    lines = this-line unmasked s.pending (λ other. put-there s.masked number false other) (λ other _. refl) open_again
        (opens why (put-here s.masked number false number refl) refl);
    ready = λ priority. nothing-ready s open_again self priority (gains-none self (s.ready priority));
  }

  -- what was pending is delivered

  abbrev masked_again : ℕ → Bool
  masked_again = put unmasked number true

  abbrev none_pending : ℕ → Bool
  none_pending = put s.pending number false

  masked-elsewhere : (other : ℕ) → other ≢ number → masked_again other ≡ s.masked other
  masked-elsewhere other apart = put-there unmasked number true other apart ∙ put-there s.masked number false other apart

  delivered-line : (after : State) (bound : Signal) → binding s number ≡ Some bound → IsSignalled s after bound.notification bound.badge
      → s.pending number ≡ true → after.pending number ≡ false → after.masked number ≡ true → LineChange s after number
  delivered-line after bound is_bound told was none closed = delivers bound.notification bound.badge is_bound told was none closed

  module _ (pending : s.pending number ≡ true) (bound : Signal) (is_bound : binding s number ≡ Some bound) where
    abbrev n : ℕ
    n = bound.notification

    word : (x : NotificationState) × (s.objects n ≡ Some (NotificationObject x))
    word = bound-notification s sound number n bound.badge is_bound

    word-is : notification_at s n ≡ word.0
    word-is = at-notification s n word.0 word.1

    signals-by : (after : State) → after.pending ≡ put s.pending number false → CallNames image t s (Signals s after n bound.badge)
    signals-by after same = record {
      call = names.call;
      slot = names.slot;
      asks = names.asks;
      own = names.own;
      named = names.named;
      such =
          by_line number names.such.0 names.such.1 is_bound pending
          (ap (λ (p : ℕ → Bool). p number) same ∙ put-here s.pending number false number refl);
    }

    delivers-pending : ChangesObjects image t s (interrupt (with_pending (record s { masked = put s.masked number false }) number false) number bound)
    delivers-pending =
        elim (notification_at s n).waiters as (λ (l : List ℕ). (notification_at s n).waiters ≡ l
        → ChangesObjects image t s (record (signals (with_pending open_again number false) n bound.badge (notification_at s n) l) { masked = masked_again })) [
          | [] ↦ λ none.
              badge-joins image t s sound own is runs n word.0 word.1 bound.badge masked_again none_pending signals-by
              (sym (ap (λ (q : NotificationState). q.waiters) word-is) ∙ none)
              (this-line masked_again none_pending masked-elsewhere (λ other. put-there s.pending number false other) _
              (delivered-line _ bound is_bound (joins-signalled image t s sound own is runs n word.0 word.1 bound.badge masked_again none_pending signals-by
              (sym (ap (λ (q : NotificationState). q.waiters) word-is) ∙ none)) pending (put-here s.pending number false number refl)
              (put-here unmasked number true number refl)))
          | w ∷ others ↦ λ first.
              waiter-wakes image t s sound own is runs n word.0 word.1 bound.badge masked_again none_pending signals-by w others
              (sym (ap (λ (q : NotificationState). q.waiters) word-is) ∙ first)
              (this-line masked_again none_pending masked-elsewhere (λ other. put-there s.pending number false other) _
              (delivered-line _ bound is_bound (wakes-signalled image t s sound own is runs n word.0 word.1 bound.badge masked_again none_pending signals-by w
              others (sym (ap (λ (q : NotificationState). q.waiters) word-is) ∙ first)) pending (put-here s.pending number false number refl)
              (put-here unmasked number true number refl)))
        ] refl

  pub acknowledge-changes : ChangesObjects image t s (acknowledge s number)
  acknowledge-changes =
      elim (s.pending number) as (λ (b : Bool). s.pending number ≡ b
      → ChangesObjects image t s (if b then option_map_or (interrupt (with_pending open_again number false) number) (binding s number) open_again else
      open_again)) [
        | true ↦ λ pending.
            elim (binding s number) as (λ (o : Option Signal). binding s number ≡ o
            → ChangesObjects image t s (option_map_or (interrupt (with_pending open_again number false) number) o open_again)) [
              | None ↦ λ unbound. opens-alone (inr unbound)
              | Some bound ↦ λ is_bound. delivers-pending pending bound is_bound
            ] refl
        | false ↦ λ none. opens-alone (inl none)
      ] refl
