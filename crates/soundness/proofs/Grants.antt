-- A right to reply that a thread gets: nobody else holds it, and who it is for awaits an answer.
use Rattle.std.proofs.Common.{ℕ, ◌≡◌, ◌≢◌, ◌∙◌, ◌⊎◌, inl, inr, Bool, true, false, IsTrue, if◌then◌else◌, Option, Some, option_map, refl, sym, ap, subst}
use Rattle.model.specs.Kernel.Kinds.{kind_at, kind_of}
use Rattle.model.specs.Kernel.Messages.{with_caller}
use Rattle.model.specs.Kernel.Retype.{NewObject, NewThread}
use Rattle.model.specs.Kernel.Scheduling.{block, is_runnable}
use Rattle.model.specs.Kernel.Soundness.{awaits_answer, is_blocked_on, IsSound}
use Rattle.model.specs.Kernel.State.{State, Status, Object, ThreadObject, ThreadState, put, thread_at, with_thread}
use Rattle.soundness.proofs.Moving.{Moving, Rights, StandsAs, begins, ends, own_of, put-either, put-here, rewritten-listed, runs_of, stands-new, waits_of}
use Rattle.soundness.proofs.Steps.{caller-fine, own-fine, stopped-whole}

-- a thread that changes is a thread, and the other objects are what they were
pub thread-kinds : (s : State) (x : ℕ) (t : ThreadState) → kind_at s x ≡ Some NewThread → (offset : ℕ)
    → kind_at (with_thread s x t) offset ≡ kind_at s offset
thread-kinds s x t is = put-either s.objects x (Some (ThreadObject t)) (λ offset o. option_map kind_of o ≡ kind_at s offset) (sym is) (λ _ _. refl)

module _ (s : State) (whole : IsSound s) (y c : ℕ) (is_thread : kind_at s y ≡ Some NewThread) (awaits : IsTrue (awaits_answer (thread_at s c).status))
    (free : (thread : ℕ) → (thread_at s thread).caller ≢ Some c) where
  given : ThreadState
  given = record (thread_at s y) { caller = Some c }

  after : State
  after = with_caller s y (Some c)

  awaits-same : (z : ℕ) → awaits_answer (thread_at after z).status ≡ awaits_answer (thread_at s z).status
  unfolding after
  awaits-same = put-either s.objects y (Some (ThreadObject (record (thread_at s y) { caller = Some c })))
      (λ z o. awaits_answer (own_of o).status ≡ awaits_answer (thread_at s z).status) refl (λ _ _. refl)

  abbrev Held : ℕ → ℕ → Type 0
  Held thread caller = ((thread ≡ y) × (caller ≡ c)) ⊎ ((thread ≢ y) × ((thread_at s thread).caller ≡ Some caller))

  held : (thread caller : ℕ) → (thread_at after thread).caller ≡ Some caller → Held thread caller
  unfolding after
  held = put-either s.objects y (Some (ThreadObject (record (thread_at s y) { caller = Some c })))
      (λ thread o. (caller : ℕ) → (own_of o).caller ≡ Some caller → Held thread caller)
      (λ caller e. let f : c ≡ caller = cc e in inl (refl, sym f)) (λ thread other caller e. inr (other, e))

  awaits-of : (thread caller : ℕ) → (thread_at after thread).caller ≡ Some caller → IsTrue (awaits_answer (thread_at s caller).status)
  awaits-of thread caller is = elim (held thread caller is) [
    | inl new ↦ subst (λ (z : ℕ). IsTrue (awaits_answer (thread_at s z).status)) (sym new.1) awaits
    | inr old ↦ whole.threads.callers thread caller old.1
  ]

  rights : Rights after y (awaits_answer (thread_at s y).status)
  rights = record {
    callers = λ thread caller _ is. awaits-same caller ∙ awaits-of thread caller is;
    answer = λ thread is. awaits-of thread y is;
    one_right = λ a b caller one other. elim (held a caller one) [
      | inl new ↦ elim (held b caller other) [
        | inl too ↦ new.0 ∙ sym too.0
        | inr old ↦ absurd (free b (old.1 ∙ ap (λ (z : ℕ). Some z) new.1))
      ]
      | inr old ↦ elim (held b caller other) [
        | inl new ↦ absurd (free a (old.1 ∙ ap (λ (z : ℕ). Some z) new.1))
        | inr too ↦ whole.threads.one_right a b caller old.1 too.1
      ]
    ];
  }

  pub granted-whole : IsSound (with_caller s y (Some c))
  unfolding after given
  granted-whole =
      let t : ThreadState = record (thread_at s y) { caller = Some c } in
      let r = runs_of (s.objects y) in
      let w = waits_of (s.objects y) in
      let listed = (begins s y whole).listed in
      let fine = caller-fine (thread_at s y) (Some c) (own-fine (kind_at s) s y r w y listed is_thread) in
      let stands : StandsAs (put s.objects y (Some (ThreadObject t)) y) (s.objects y) =
      subst (λ (o : Option Object). StandsAs o (s.objects y)) (sym (put-here s.objects y (Some (ThreadObject t))))
      (stands-new (kind_at s) s y r w listed y t is_thread refl refl) in
      ends (kind_at s) (with_thread s y t) y r w (awaits_answer (thread_at s y).status)
      (record { listed = rewritten-listed (kind_at s) s y r w listed y t is_thread fine (λ other. absurd (other refl)); rights = rights })
      (λ p. sym (stands.runs p)) (λ q. sym (stands.waits q)) (λ a. stands.awaits ∙ a)

-- A thread stops until another replies, which gets the right to.
pub awaiting-whole : (kinds : ℕ → Option NewObject) (s : State) (x y : ℕ) (r : ℕ → ℕ) (status : Status) → Moving kinds s x r (λ _. 0) false
    → kinds x ≡ Some NewThread
    → kinds y ≡ Some NewThread → is_runnable status ≡ false → ((queue : ℕ) → is_blocked_on queue status ≡ false) → awaits_answer status ≡ true
    → IsSound (with_caller (block s x status) y (Some x))
awaiting-whole kinds s x y r status moving is_thread other_thread stops free_queues awaits =
    let t : ThreadState = record (thread_at s x) { status = status } in
    let whole = stopped-whole kinds s x r (λ _. 0) false moving is_thread status stops (λ q. sym (ap (λ (b : Bool). if b then 1 else 0) (free_queues q)))
    (λ e. let clash : false ≡ true = e in absurd cc) in
    granted-whole (block s x status) whole y x
    (thread-kinds s x t (moving.listed.kind x ∙ is_thread) y ∙ moving.listed.kind y ∙ other_thread)
    (subst (λ (o : Option Object). IsTrue (awaits_answer (own_of o).status)) (sym (put-here s.objects x (Some (ThreadObject t)))) awaits)
    (put-either s.objects x (Some (ThreadObject t)) (λ thread o. (own_of o).caller ≢ Some x)
    (λ e. let clash : false ≡ true = moving.rights.answer x e in cc) (λ thread _ e. let clash : false ≡ true = moving.rights.answer thread e in cc))
