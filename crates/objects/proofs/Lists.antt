-- Who waits at an endpoint, as parts of a list and after changes of other threads.
use Rattle.std.proofs.Common.{ℕ, ◌≡◌, ◌≢◌, ◌∙◌, ◌+◌, inl, inr, Bool, not, if◌then◌else◌, Option, Some, None, is_some, option_map, List, [], ◌∷◌, drop, filter}
use Rattle.std.proofs.Common.{refl, sym, ap, arith}
use Rattle.std.specs.Prelude.{filter_map}
use Rattle.std.proofs.lemmas.Bool.Decides.{eqb_tells}
use Rattle.model.specs.Kernel.Scheduling.{head_of}
use Rattle.model.specs.Kernel.State.{Sender}
use Rattle.model.specs.Shared.Lists.{times_in}
use Rattle.objects.specs.thread_records.Threads.{sender_of}
use Rattle.objects.specs.declared.thread_records.records.Sending.{Sending}

-- what a thread sends, if it does, is a sender; else it receives
abbrev pub senders-by : (ℕ → Option Sending) → List ℕ → List Sender
senders-by sends waiting = filter_map (λ thread. option_map (sender_of thread) (sends thread)) waiting

abbrev pub receivers-by : (ℕ → Option Sending) → List ℕ → List ℕ
receivers-by sends waiting = filter (λ thread. not (is_some (sends thread))) waiting

pub senders-part : (sends : ℕ → Option Sending) (gone : ℕ → Bool) (waiting : List ℕ)
    → senders-by sends (filter (λ thread. not (gone thread)) waiting) ≡ filter (λ sender. not (gone sender.thread)) (senders-by sends waiting)
senders-part sends gone [] = refl
senders-part sends gone (x ∷ rest) = grind (arith, senders-part sends gone rest)

pub receivers-part : (sends : ℕ → Option Sending) (gone : ℕ → Bool) (waiting : List ℕ)
    → receivers-by sends (filter (λ thread. not (gone thread)) waiting) ≡ filter (λ thread. not (gone thread)) (receivers-by sends waiting)
receivers-part sends gone [] = refl
receivers-part sends gone (x ∷ rest) = grind (arith, receivers-part sends gone rest)

-- only those that wait count
senders-first : (f g : ℕ → Option Sending) (x : ℕ) (rest : List ℕ) → f x ≡ g x → senders-by f rest ≡ senders-by g rest
    → senders-by f (x ∷ rest) ≡ senders-by g (x ∷ rest)
senders-first f g x rest first more = grind (arith, first, more)

receivers-first : (f g : ℕ → Option Sending) (x : ℕ) (rest : List ℕ) → f x ≡ g x → receivers-by f rest ≡ receivers-by g rest
    → receivers-by f (x ∷ rest) ≡ receivers-by g (x ∷ rest)
receivers-first f g x rest first more = grind (arith, first, more)

times-first : (thread x : ℕ) (rest : List ℕ) → times_in (x ∷ rest) thread ≡ 0 → (x ≢ thread) × (times_in rest thread ≡ 0)
times-first thread x rest none = elim (eqb_tells x thread) [
  | inl here ↦ absurd (let e = ap (λ b. if b then times_in rest thread + 1 else times_in rest thread) (sym here.0) ∙ none in omega (arith, e))
  | inr there ↦ (there.1, ap (λ b. if b then times_in rest thread + 1 else times_in rest thread) (sym there.0) ∙ none)
]

pub senders-same : (f g : ℕ → Option Sending) (thread : ℕ) (waiting : List ℕ) → ((other : ℕ) → other ≢ thread → f other ≡ g other)
    → times_in waiting thread ≡ 0 → senders-by f waiting ≡ senders-by g waiting
senders-same f g thread [] same none = refl
senders-same f g thread (x ∷ rest) same none =
    let parts = times-first thread x rest none in senders-first f g x rest (same x parts.0) (senders-same f g thread rest same parts.1)

pub receivers-same : (f g : ℕ → Option Sending) (thread : ℕ) (waiting : List ℕ) → ((other : ℕ) → other ≢ thread → f other ≡ g other)
    → times_in waiting thread ≡ 0 → receivers-by f waiting ≡ receivers-by g waiting
receivers-same f g thread [] same none = refl
receivers-same f g thread (x ∷ rest) same none =
    let parts = times-first thread x rest none in receivers-first f g x rest (same x parts.0) (receivers-same f g thread rest same parts.1)

-- ---- the first of a list

pub head-rest : (threads : List ℕ) (thread : ℕ) → head_of threads ≡ Some thread → threads ≡ thread ∷ drop 1 threads
head-rest [] thread is = absurd (let clash : None ≡ Some thread = is in cc)
head-rest (t ∷ rest) thread is = ap (λ x. x ∷ rest) (let same : t ≡ thread = cc in same)
