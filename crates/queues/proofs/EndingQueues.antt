-- What ending a queue, one thread after another, leaves of those that wait.
use Rattle.std.proofs.Common.{ℕ, ◌≡◌, ◌∙◌, ◌==◌, ◌<◌, ◌≤◌, inl, inr, Some, None, if◌then◌else◌, List, [], ◌∷◌, not, drop, length, refl, sym, ap, arith}
use Rattle.std.proofs.lemmas.Bool.Decides.{eqb_tells}
use Rattle.std.proofs.lemmas.Bool.{eq-eqb}
use Rattle.model.specs.Kernel.Scheduling.{head_of}
use Rattle.model.specs.Kernel.State.{put}
use Rattle.model.specs.Shared.Lists.{times_in, without}
use Rattle.model.proofs.Orders.{times-filter}
use Rattle.queues.specs.Layout.{Places}
use Rattle.queues.specs.Queues.{QueuesStand, SameBesideWaiting, queue_of}
use Rattle.queues.proofs.Standings.{popped}

-- some threads of a queue are gone, and no other ones
pub record AreFewer (places : Places) (queue : ℕ) (old new : List ℕ) : Type 0 where
  pub queues : (other : ℕ) → put (queue_of places new) queue [] other ≡ put (queue_of places old) queue [] other
  pub fewer : (other thread : ℕ) → times_in (queue_of places new other) thread ≤ times_in (queue_of places old other) thread
  pub stands : QueuesStand places new
  pub bytes : SameBesideWaiting places (queue_of places old) old new

pub all-there : (places : Places) (queue : ℕ) (memory : List ℕ) → QueuesStand places memory → AreFewer places queue memory memory
all-there places queue memory stands = record {
  queues = λ other. refl;
  fewer = λ other thread. omega arith;
  stands = stands;
  bytes = record { size = refl; bytes = λ place off off'. refl };
}

times-without : (thread : ℕ) (xs : List ℕ) (x : ℕ) → times_in (without thread xs) x ≤ times_in xs x
times-without thread xs x = elim (eqb_tells x thread) [
  | inl same ↦ omega (arith, times-filter (λ n. not (n == thread)) xs x, ap (λ b. if not b then times_in xs x else 0) same.0)
  | inr off ↦ omega (arith, times-filter (λ n. not (n == thread)) xs x, ap (λ b. if not b then times_in xs x else 0) off.0)
]

-- the first thread of the queue leaves
pub one-fewer : (places : Places) (queue thread : ℕ) (old mid new : List ℕ) → AreFewer places queue old mid
    → head_of (queue_of places mid queue) ≡ Some thread
    → ((other : ℕ) → queue_of places new other ≡ without thread (queue_of places mid other))
    → QueuesStand places new → SameBesideWaiting places (queue_of places mid) mid new → AreFewer places queue old new
one-fewer places queue thread old mid new known head gone stands same = record {
  queues = λ other. elim (eqb_tells other queue) [
    | inl here ↦
        ap (λ b. if b then [] else queue_of places new other) here.0 ∙ sym (ap (λ b. if b then [] else queue_of places old other) here.0)
    | inr off ↦
        ap (λ b. if b then [] else queue_of places new other) off.0 ∙ gone other
        ∙ popped places mid queue thread known.stands head other
        ∙ ap (λ b. if b then drop 1 (queue_of places mid queue) else queue_of places mid other) off.0
        ∙ sym (ap (λ b. if b then [] else queue_of places mid other) off.0)
        ∙ known.queues other
  ];
  fewer = λ other x. omega (arith, ap (λ l. times_in l x) (gone other), times-without thread (queue_of places mid other) x, known.fewer other x);
  stands = stands;
  bytes = record {
    size = same.size ∙ known.bytes.size;
    bytes = λ place off off'.
        same.bytes place (λ q t some. off q t (omega (arith, some, known.fewer q t))) (λ q head' t some. off' q head' t (omega (arith, some, known.fewer q t)))
        ∙ known.bytes.bytes place off off';
  };
}

-- the queue gets shorter each time
shorter : (xs : List ℕ) (thread : ℕ) → head_of xs ≡ Some thread → length (drop 1 xs) < length xs
shorter [] thread head = absurd (let clash : None ≡ Some thread = head in cc)
shorter (x ∷ rest) thread head = omega arith

pub fewer-threads : (places : Places) (queue thread : ℕ) (mid new : List ℕ) → QueuesStand places mid → head_of (queue_of places mid queue) ≡ Some thread
    → ((other : ℕ) → queue_of places new other ≡ without thread (queue_of places mid other))
    → length (queue_of places new queue) < length (queue_of places mid queue)
fewer-threads places queue thread mid new stands head gone =
    let here : queue_of places new queue ≡ drop 1 (queue_of places mid queue) = gone queue ∙ popped places mid queue thread stands head queue
    ∙ ap (λ b. if b then drop 1 (queue_of places mid queue) else queue_of places mid queue) (eq-eqb queue queue refl) in
    omega (arith, ap length here, shorter (queue_of places mid queue) thread head)

-- nobody is left
none-left : (xs : List ℕ) → head_of xs ≡ None → xs ≡ []
none-left [] none = refl
none-left (x ∷ rest) none = absurd (let clash : Some x ≡ None = none in cc)

pub ended : (places : Places) (queue : ℕ) (old new : List ℕ) → AreFewer places queue old new → head_of (queue_of places new queue) ≡ None
    → (other : ℕ) → queue_of places new other ≡ put (queue_of places old) queue [] other
ended places queue old new known none other = elim (eqb_tells other queue) [
  | inl here ↦
      ap (queue_of places new) here.1 ∙ none-left (queue_of places new queue) none
      ∙ sym (ap (λ b. if b then [] else queue_of places old other) here.0)
  | inr off ↦ sym (ap (λ b. if b then [] else queue_of places new other) off.0) ∙ known.queues other
]
