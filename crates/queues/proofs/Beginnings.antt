-- Threads and objects begin with nobody named, and who is in no queue is not named.
use Rattle.std.proofs.Common.{ℕ, suc, ◌≡◌, ◌∙◌, ◌+◌, ◌*◌, ◌<◌, ◌≤◌, inl, inr, if◌then◌else◌, None, List, [], length, slice_index, sym, ap, arith}
use Rattle.std.proofs.lemmas.Bool.{cases_lt}
use Rattle.model.proofs.BytesLemmas.{word_at-written}
use Rattle.model.specs.Kernel.Scheduling.{head_of}
use Rattle.model.specs.Shared.Lists.{times_in}
use Rattle.queues.specs.links.Threaded.{last_or, linked}
use Rattle.queues.proofs.links.Laws.{unowned}
use Rattle.queues.specs.Laws.{BeginsEmpty, NobodyNamed}
use Rattle.queues.specs.Layout.{Places}
use Rattle.queues.specs.Queues.{IsLinkByte, QueuesStand, queue_of, waiting_in}
use Rattle.queues.specs.Ready.{nobody, ready_in}
use Rattle.queues.specs.Words.{end_at, end_in, end_of, link_at, somebody, with_end, with_ends, with_link, without_links}
use Rattle.queues.proofs.Frames.{off-ends, off-link, size-ends}
use Rattle.queues.proofs.MemoryWrites.{size-link, size-word, word-beside}
use Rattle.queues.proofs.Nobody.{nobody-linked}
use Rattle.queues.proofs.ReadySteps.{ready-is}
use Rattle.queues.proofs.Standings.{first-found, queue-is}

module _ (m : List ℕ) (thread : ℕ) (within : thread + 512 ≤ length m) where
  abbrev one : List ℕ
  one = with_link 244 m thread 0 0

  size-one : length one ≡ length m
  size-one = size-link 244 m thread 0 0 within (omega arith) (omega arith)

  begun-size : length (without_links m thread) ≡ length m
  begun-size = size-link 256 one thread 0 0 (omega (arith, within, size-one)) (omega arith) (omega arith) ∙ size-one

  begun-waits : link_at 244 (without_links m thread) thread 0 ≡ None
  begun-waits = ap somebody
      (word-beside one (thread + (256 + 4 * 0)) 0 (thread + (244 + 4 * 0)) (omega (arith, within, size-one)) (inl (omega arith))
      ∙ word_at-written m (thread + (244 + 4 * 0)) 0 (omega (arith, within)) (omega arith))

  begun-ready : link_at 256 (without_links m thread) thread 0 ≡ None
  begun-ready = ap somebody (word_at-written one (thread + (256 + 4 * 0)) 0 (omega (arith, within, size-one)) (omega arith))

  begun-bytes : (place : ℕ) → (IsLinkByte 244 thread place → ⊥) → (IsLinkByte 256 thread place → ⊥) →
      slice_index (without_links m thread) place ≡ slice_index m place
  begun-bytes place off off' =
      off-link 256 one thread 0 0 place (omega (arith, within, size-one)) (omega arith) (omega arith) off'
      ∙ off-link 244 m thread 0 0 place within (omega arith) (omega arith) off

module _ (m : List ℕ) (head : ℕ) (within : head + 8 ≤ length m) where
  abbrev first : List ℕ
  first = with_end m head 0 0

  size-first : length first ≡ length m
  size-first = size-word m (head + 4 * 0) 0 (omega (arith, within))

  begun-first : end_at (with_ends m head nobody) head 0 ≡ None
  begun-first = ap somebody
      (word-beside first (head + 4 * 1) 0 (head + 4 * 0) (omega (arith, within, size-first)) (inl (omega arith))
      ∙ word_at-written m (head + 4 * 0) 0 (omega (arith, within)) (omega arith))

  begun-last : end_at (with_ends m head nobody) head 1 ≡ None
  begun-last = ap somebody (word_at-written first (head + 4 * 1) 0 (omega (arith, within, size-first)) (omega arith))

  begun-head : (k : ℕ) → k < 2 → end_at (with_ends m head nobody) head k ≡ None
  begun-head k low = elim (cases_lt k 1) [
    | inl less ↦ let is : k ≡ 0 = omega (arith, less) in ap (end_at (with_ends m head nobody) head) is ∙ begun-first
    | inr least ↦ let is : k ≡ 1 = omega (arith, least, low) in ap (end_at (with_ends m head nobody) head) is ∙ begun-last
  ]

pub begins_empty : BeginsEmpty
begins_empty = record {
  size = begun-size;
  waits = begun-waits;
  ready = begun-ready;
  bytes = λ m thread place within. begun-bytes m thread within place;
  head_size = λ m head within. size-ends m head nobody within;
  head = λ m head k within. begun-head m head within k;
  head_bytes = λ m head place within. off-ends m head nobody place within;
  none = λ p m free heads. record {
    linked = nobody-linked (waiting_in p m) (length m) (λ thread. ap (λ b. if b then link_at 244 m thread 0 else None) (free thread))
        (λ queue. ap (end_of m 0) (heads queue)) (λ queue. ap (end_of m 1) (heads queue));
  };
  no_queue = λ p m heads queue. queue-is p m queue ∙ ap (λ o. linked (waiting_in p m).next (suc (length m)) (end_of m 0 o)) (heads queue);
}

first-none : (p : Places) (m : List ℕ) (queue : ℕ) → queue_of p m queue ≡ [] → end_in p.heads m 0 queue ≡ None
first-none p m queue none = sym (first-found p m queue) ∙ ap head_of none

last-none : (p : Places) (m : List ℕ) (queue : ℕ) → QueuesStand p m → queue_of p m queue ≡ [] → end_in p.heads m 1 queue ≡ None
last-none p m queue stands none = stands.linked.queues.last queue ∙ ap (last_or None) (sym (queue-is p m queue) ∙ none)

pub nobody_named : NobodyNamed
nobody_named = record {
  idle = λ p m thread stands out. unowned.none (waiting_in p m) (length m) thread stands.linked
      (λ queue. ap (λ l. times_in l thread) (sym (queue-is p m queue)) ∙ out queue);
  unready = λ p ends m thread stands out. unowned.none (ready_in p ends m) (length m) thread stands.linked
      (λ priority. ap (λ l. times_in l thread) (sym (ready-is p ends m priority)) ∙ out priority);
  empty = λ p m queue stands none k low. elim (cases_lt k 1) [
    | inl less ↦ let is : k ≡ 0 = omega (arith, less) in ap (λ (n : ℕ). end_in p.heads m n queue) is ∙ first-none p m queue none
    | inr least ↦ let is : k ≡ 1 = omega (arith, least, low) in ap (λ (n : ℕ). end_in p.heads m n queue) is ∙ last-none p m queue stands none
  ];
}
