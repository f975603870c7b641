-- What stays of queues where other bytes change, and where threads and objects come and go that are in no queue.
use Rattle.std.proofs.Common.{ℕ, ◌≡◌, ◌∙◌, ◌+◌, ◌*◌, ◌<◌, ◌⊎◌, inl, inr, Bool, true, if◌then◌else◌, Option, Some, None, List, length, refl, sym, ap, subst}
use Rattle.std.proofs.Common.{arith}
use Rattle.model.specs.Capabilities.Slots.{Slots}
use Rattle.model.specs.Shared.Lists.{times_in}
use Rattle.model.proofs.BytesLemmas.{word_at-same}
use Rattle.queues.specs.links.Threaded.{AreLinked, SameQueues, listed}
use Rattle.queues.proofs.links.Laws.{only_owned}
use Rattle.queues.specs.Laws.{IsEmpty, IsKept, IsOut, KeepsWaiting, KindsApart, ReadyStays, WaitingStays}
use Rattle.queues.specs.Layout.{AreLaidOut, Places}
use Rattle.queues.specs.Queues.{IsLinkByte, QueuesStand, SameBesideWaiting, queue_of, waiting_in}
use Rattle.queues.specs.Ready.{ReadyStands, SameBesideReady, ready_in, ready_of}
use Rattle.queues.specs.Words.{end_in, end_of, link_at, link_in}
use Rattle.queues.specs.declared.words.Ends.{Ends}
use Rattle.queues.proofs.MemoryWrites.{end-stays, link-same}
use Rattle.queues.proofs.ReadySteps.{ready-is}
use Rattle.queues.proofs.Standings.{headed, linked-thread, queue-is}

kept-link : (base : ℕ) (before after : ℕ → Bool) (old new : List ℕ) (thread k : ℕ) → k < 3 → IsKept base before after old new thread
    → link_in base after new k thread ≡ link_in base before old k thread
kept-link base before after old new thread k few kept =
    ap (λ b. if b then link_at base new thread k else None) kept.there
    ∙ link-same base before old new k thread (λ is. word_at-same old new (thread + (base + 4 * k)) (λ place from below.
    kept.bytes is place (omega (arith, from), omega (arith, below, few))))

kept-end : (before after : ℕ → Option ℕ) (old new : List ℕ) (queue k : ℕ) → k < 2 → KeepsWaiting before after old new queue ⊎ IsEmpty before after old new queue
    → end_in after new k queue ≡ end_in before old k queue
kept-end before after old new queue k few (inl keeps) =
    ap (end_of new k) keeps.there ∙ end-stays before old new k queue few (λ head place is from below. keeps.bytes head place is (from, below))
kept-end before after old new queue k few (inr empty) = empty.now k few ∙ sym (empty.was k few)

module _ (base : ℕ) (before after : ℕ → Bool) (old new : List ℕ)
    (threads : (thread : ℕ) → IsKept base before after old new thread ⊎ IsOut base before after old new thread) where
  same-owner : (thread : ℕ) → link_in base after new 0 thread ≡ link_in base before old 0 thread
  same-owner thread = elim (threads thread) [
    | inl kept ↦ kept-link base before after old new thread 0 (omega arith) kept
    | inr out ↦ out.now ∙ sym out.was
  ]

  same-link : (k queue thread : ℕ) → k < 3 → link_in base before old 0 thread ≡ Some queue → link_in base after new k thread ≡ link_in base before old k thread
  same-link k queue thread few is = elim (threads thread) [
    | inl kept ↦ kept-link base before after old new thread k few kept
    | inr out ↦ absurd (let clash : None ≡ Some queue = sym out.was ∙ is in cc)
  ]

module _ (p n : Places) (old new : List ℕ) (size : length new ≡ length old)
    (threads : (thread : ℕ) → IsKept 244 p.threads n.threads old new thread ⊎ IsOut 244 p.threads n.threads old new thread)
    (heads : (queue : ℕ) → KeepsWaiting p.heads n.heads old new queue ⊎ IsEmpty p.heads n.heads old new queue) where
  same-waiting : SameQueues (waiting_in p old) (waiting_in n new)
  same-waiting = record {
    owner = same-owner 244 p.threads n.threads old new threads;
    next = λ queue thread is. same-link 244 p.threads n.threads old new threads 1 queue thread (omega arith) is;
    previous = λ queue thread is. same-link 244 p.threads n.threads old new threads 2 queue thread (omega arith) is;
    first = λ queue. kept-end p.heads n.heads old new queue 0 (omega arith) (heads queue);
    last = λ queue. kept-end p.heads n.heads old new queue 1 (omega arith) (heads queue);
  }

  pub waiting-stands : QueuesStand p old → QueuesStand n new
  waiting-stands stands = record {
    linked = subst (AreLinked (waiting_in n new)) (sym size) (only_owned.linked (waiting_in p old) (waiting_in n new) (length old) stands.linked same-waiting);
  }

  pub waiting-stays : QueuesStand p old → (queue : ℕ) → queue_of n new queue ≡ queue_of p old queue
  unfolding queue_of
  waiting-stays stands queue =
      ap (λ (s : ℕ). listed (waiting_in n new) s queue) size
      ∙ only_owned.queues (waiting_in p old) (waiting_in n new) (length old) stands.linked same-waiting queue

module _ (p n : Places) (ends : List Ends) (old new : List ℕ) (size : length new ≡ length old)
    (threads : (thread : ℕ) → IsKept 256 p.threads n.threads old new thread ⊎ IsOut 256 p.threads n.threads old new thread) where
  same-ready : SameQueues (ready_in p ends old) (ready_in n ends new)
  same-ready = record {
    owner = same-owner 256 p.threads n.threads old new threads;
    next = λ queue thread is. same-link 256 p.threads n.threads old new threads 1 queue thread (omega arith) is;
    previous = λ queue thread is. same-link 256 p.threads n.threads old new threads 2 queue thread (omega arith) is;
    first = λ priority. refl;
    last = λ priority. refl;
  }

  pub ready-stands : ReadyStands p ends old → ReadyStands n ends new
  ready-stands stands = record {
    linked = subst (AreLinked (ready_in n ends new)) (sym size)
        (only_owned.linked (ready_in p ends old) (ready_in n ends new) (length old) stands.linked same-ready);
  }

  pub ready-stays : ReadyStands p ends old → (priority : ℕ) → ready_of n ends new priority ≡ ready_of p ends old priority
  unfolding ready_of
  ready-stays stands priority =
      ap (λ (s : ℕ). listed (ready_in n ends new) s priority) size
      ∙ only_owned.queues (ready_in p ends old) (ready_in n ends new) (length old) stands.linked same-ready priority

-- ---- one kind of queues changes beside the other

module _ (p : Places) (slots : Slots) (old new : List ℕ) (laid : AreLaidOut p slots (length old)) where
  -- the links of threads that wait are beside those of threads that are ready, and heads beside both
  links-apart : (a b place : ℕ) → p.threads a ≡ true → p.threads b ≡ true → IsLinkByte 244 a place → IsLinkByte 256 b place → ⊥
  links-apart a b place is is' held held' =
      let one = laid.aligned a is in
      let two = laid.aligned b is' in
      absurd (omega (arith, one, two, held.0, held.1, held'.0, held'.1))

  pub ready-beside : (queues : ℕ → List ℕ) → ((queue thread : ℕ) → 0 < times_in (queues queue) thread → p.threads thread ≡ true)
      → SameBesideWaiting p queues old new → (thread : ℕ) → IsKept 256 p.threads p.threads old new thread
  ready-beside queues there same thread = record {
    there = refl;
    bytes = λ is place held. same.bytes place (λ queue other some held'. links-apart other thread place (there queue other some) is held' held)
        (λ queue head other some named held'. elim (laid.beside queue head thread named is) [
          | inl before ↦ absurd (omega (arith, before, held'.1, held.0))
          | inr behind ↦ absurd (omega (arith, behind, held'.0, held.1))
        ]);
  }

  pub waiting-beside : (queues : ℕ → List ℕ) → ((priority thread : ℕ) → 0 < times_in (queues priority) thread → p.threads thread ≡ true)
      → SameBesideReady queues old new → (thread : ℕ) → IsKept 244 p.threads p.threads old new thread
  waiting-beside queues there same thread = record {
    there = refl;
    bytes = λ is place held. same.bytes place (λ priority other some held'. links-apart thread other place is (there priority other some) held held');
  }

  pub heads-beside : (queues : ℕ → List ℕ) → ((priority thread : ℕ) → 0 < times_in (queues priority) thread → p.threads thread ≡ true)
      → SameBesideReady queues old new → (queue : ℕ) → KeepsWaiting p.heads p.heads old new queue
  heads-beside queues there same queue = record {
    there = refl;
    bytes = λ head place named held. same.bytes place (λ priority other some held'. elim (laid.beside queue head other named (there priority other some)) [
      | inl before ↦ absurd (omega (arith, before, held.1, held'.0))
      | inr behind ↦ absurd (omega (arith, behind, held.0, held'.1))
    ]);
  }

-- ---- who is in queues

pub waiting-threads : (p : Places) (memory : List ℕ) → QueuesStand p memory → (queue thread : ℕ) → 0 < times_in (queue_of p memory queue) thread →
    p.threads thread ≡ true
waiting-threads p memory stands queue thread some =
    linked-thread 244 p.threads memory 0 thread queue
    (stands.linked.queues.owned queue thread (subst (λ (l : List ℕ). 0 < times_in l thread) (queue-is p memory queue) some))

pub ready-threads : (p : Places) (ends : List Ends) (memory : List ℕ) → ReadyStands p ends memory → (priority thread : ℕ) →
    0 < times_in (ready_of p ends memory priority) thread
    → p.threads thread ≡ true
ready-threads p ends memory stands priority thread some =
    linked-thread 256 p.threads memory 0 thread priority
    (stands.linked.queues.owned priority thread (subst (λ (l : List ℕ). 0 < times_in l thread) (ready-is p ends memory priority) some))

pub waiting-heads : (p : Places) (memory : List ℕ) → QueuesStand p memory → (queue thread : ℕ) → 0 < times_in (queue_of p memory queue) thread
    → (head : ℕ) × (p.heads queue ≡ Some head)
waiting-heads p memory stands queue thread some =
    let owned = stands.linked.queues.owned queue thread (subst (λ (l : List ℕ). 0 < times_in l thread) (queue-is p memory queue) some) in
    elim (p.heads queue) as (λ o. p.heads queue ≡ o → (head : ℕ) × (o ≡ Some head)) [
      | Some head ↦ λ is. (head, refl)
      | None ↦ λ is. absurd (headed p memory queue thread stands owned is)
    ] refl

pub waiting_stays : WaitingStays
waiting_stays = record {
  stands = λ p n old new size threads heads. waiting-stands p n old new size threads heads;
  queues = λ p n old new size threads heads. waiting-stays p n old new size threads heads;
}

pub ready_stays : ReadyStays
ready_stays = record {
  stands = λ p n ends old new size threads. ready-stands p n ends old new size threads;
  queues = λ p n ends old new size threads. ready-stays p n ends old new size threads;
}

pub kinds_apart : KindsApart
kinds_apart = record {
  ready = λ p slots old new laid queues there same. ready-beside p slots old new laid queues there same;
  waiting = λ p slots old new laid queues there same. waiting-beside p slots old new laid queues there same;
  heads = λ p slots old new laid queues there same. heads-beside p slots old new laid queues there same;
  waiters = waiting-threads;
  waited = waiting-heads;
  runners = ready-threads;
}
