-- What leaving makes of those that wait.
use Rattle.std.proofs.Common.{ℕ, ◌≡◌, ◌∙◌, ◌==◌, ◌+◌, ◌^◌, ◌<◌, ◌≤◌, inl, inr, Bool, true, if◌then◌else◌, Option, Some, None, List, length, sym, ap, subst}
use Rattle.std.proofs.Common.{arith}
use Rattle.model.specs.Capabilities.Slots.{Slots}
use Rattle.model.specs.Kernel.State.{put}
use Rattle.model.specs.Shared.Lists.{times_in, without}
use Rattle.slots.specs.preorder.Chains.{put_at}
use Rattle.queues.specs.links.Threaded.{Threaded, end_without, left}
use Rattle.queues.proofs.links.Laws.{leaving, named_stand}
use Rattle.queues.specs.Layout.{AreLaidOut, Places}
use Rattle.queues.specs.Queues.{QueuesStand, SameBesideWaiting, queue_of, waiting_in}
use Rattle.queues.specs.Words.{end_at, end_in, end_of, ends_at, link_at, taken_out, with_ends}
use Rattle.queues.specs.declared.words.Ends.{Ends}
use Rattle.queues.proofs.Frames.{off-ends, off-out, size-ends, size-out}
use Rattle.queues.proofs.LinkSteps.{AreThreads, link-there, links-out}
use Rattle.queues.proofs.MemoryWrites.{AreInPlace, end-stays}
use Rattle.queues.proofs.Standings.{ends-first, ends-last, ends-links, in-place, linked-thread, named-thread, queue-as, queue-is, stands-as, threaded}

-- what is written
abbrev pub left_ends : List ℕ → ℕ → Ends → Ends
left_ends m thread ends = record {
  first = end_without (link_at 244 m thread 2) (link_at 244 m thread 1) ends.first;
  last = end_without (link_at 244 m thread 1) (link_at 244 m thread 2) ends.last;
}

abbrev pub left_memory : List ℕ → ℕ → ℕ → List ℕ
left_memory m head thread = with_ends (taken_out 244 m thread) head (left_ends m thread (ends_at m head))

pub left-memory : (m link new : List ℕ) (head thread : ℕ) (before behind : Ends) → before ≡ ends_at m head
    → link ≡ taken_out 244 m thread → behind ≡ left_ends m thread before → new ≡ with_ends link head behind → new ≡ left_memory m head thread
left-memory m link new head thread before behind read linked-so ends-so written-so =
    written-so ∙ ap (λ l. with_ends l head behind) linked-so
    ∙ ap (with_ends (taken_out 244 m thread) head) (ends-so ∙ ap (left_ends m thread) read)

ends-threads : (threads : ℕ → Bool) (towards away end : Option ℕ) → AreThreads threads away → AreThreads threads end →
    AreThreads threads (end_without towards away end)
ends-threads threads None away end are are' = are
ends-threads threads (Some x) away end are are' = are'

module _ (places : Places) (slots : Slots) (m : List ℕ) (laid : AreLaidOut places slots (length m)) (stands : QueuesStand places m)
    (queue head thread : ℕ) (is : places.heads queue ≡ Some head) (owned : (waiting_in places m).owner thread ≡ Some queue) where
  abbrev w : Threaded
  w = waiting_in places m

  abbrev after : Option ℕ
  after = link_at 244 m thread 1

  abbrev before : Option ℕ
  before = link_at 244 m thread 2

  abbrev ends : Ends
  ends = left_ends m thread (ends_at m head)

  abbrev mid : List ℕ
  mid = taken_out 244 m thread

  abbrev end : List ℕ
  end = with_ends mid head ends

  there : places.threads thread ≡ true
  there = linked-thread 244 places.threads m 0 thread queue owned

  few : length m ≤ 2 ^ 24
  few = (laid.threads thread there).few

  spaces : AreInPlace places.threads (length m)
  spaces = in-place places slots (length m) laid few

  next-is : w.next thread ≡ after
  next-is = link-there 244 places.threads m spaces thread there (omega arith) 1

  previous-is : w.previous thread ≡ before
  previous-is = link-there 244 places.threads m spaces thread there (omega arith) 2

  after-owned : (x : ℕ) → after ≡ Some x → w.owner x ≡ Some queue
  after-owned x same = named_stand.next w (length m) queue thread x stands.linked owned (next-is ∙ same)

  before-owned : (x : ℕ) → before ≡ Some x → w.owner x ≡ Some queue
  before-owned x same = named_stand.previous w (length m) queue thread x stands.linked owned (previous-is ∙ same)

  pub after-thread : AreThreads places.threads after
  after-thread = named-thread places m after queue after-owned

  pub before-thread : AreThreads places.threads before
  before-thread = named-thread places m before queue before-owned

  first-thread : AreThreads places.threads (end_at m head 0)
  first-thread = named-thread places m (end_at m head 0) queue (λ x same. named_stand.first w (length m) queue x stands.linked (ap (end_of m 0) is ∙ same))

  last-thread : AreThreads places.threads (end_at m head 1)
  last-thread = named-thread places m (end_at m head 1) queue (λ x same. named_stand.last w (length m) queue x stands.linked (ap (end_of m 1) is ∙ same))

  near : thread + 512 ≤ length m
  near = (laid.threads thread there).within

  behind : (x : ℕ) → after ≡ Some x → x + 512 ≤ length m
  behind x same = (laid.threads x (after-thread x same)).within

  front : (x : ℕ) → before ≡ Some x → x + 512 ≤ length m
  front x same = (laid.threads x (before-thread x same)).within

  size-mid : length mid ≡ length m
  size-mid = size-out 244 m thread near behind front (omega arith)

  laid-mid : AreLaidOut places slots (length mid)
  laid-mid = subst (AreLaidOut places slots) (sym size-mid) laid

  size-end : length end ≡ length m
  size-end = size-ends mid head ends (laid-mid.heads queue head is).within ∙ size-mid

  end-mid : (k x : ℕ) → k < 2 → end_in places.heads mid k x ≡ end_in places.heads m k x
  end-mid k x low = end-stays places.heads m mid k x low (λ place at kept from below.
      let off : (t : ℕ) → places.threads t ≡ true → (t + 244 ≤ at) × (at < t + 244 + 12) → ⊥ = λ t thread-there held.
      elim (laid.beside x place t kept thread-there) [
        | inl earlier ↦ absurd (omega (arith, earlier, below, held.0))
        | inr past ↦ absurd (omega (arith, past, from, held.1))
      ] in
      off-out 244 m thread at near behind front (omega arith) (off thread there) (λ t same. off t (after-thread t same))
      (λ t same. off t (before-thread t same)))

  left-is : waiting_in places end ≡ left w queue thread
  left-is =
      let small : length mid ≤ 2 ^ 24 = omega (arith, few, size-mid) in
      let firsts-thread = ends-threads places.threads before after (end_at m head 0) after-thread first-thread in
      let lasts-thread = ends-threads places.threads after before (end_at m head 1) before-thread last-thread in
      let links = ends-links places slots mid laid-mid small queue head is ends firsts-thread lasts-thread 244 (omega arith) (omega arith)
      ∙ links-out 244 places.threads m spaces thread there (omega arith) after-thread before-thread in
      let firsts : (x : ℕ) → end_in places.heads end 0 x ≡ put w.first queue ends.first x = λ x.
      ends-first places slots mid laid-mid small queue head is ends firsts-thread lasts-thread x
      ∙ ap (λ o. if x == queue then ends.first else o) (end-mid 0 x (omega arith)) in
      let lasts : (x : ℕ) → end_in places.heads end 1 x ≡ put w.last queue ends.last x = λ x.
      ends-last places slots mid laid-mid small queue head is ends firsts-thread lasts-thread x
      ∙ ap (λ o. if x == queue then ends.last else o) (end-mid 1 x (omega arith)) in
      let after-is = sym next-is in
      let before-is = sym previous-is in
      let first-is = sym (ap (end_of m 0) is) in
      let last-is = sym (ap (end_of m 1) is) in
      (λ i. threaded (links i) (λ x. firsts x i) (λ x. lasts x i))
      ∙ (λ i. record {
        owner = put w.owner thread None;
        next = put_at w.next (w.previous thread) (w.next thread);
        previous = put_at w.previous (w.next thread) (w.previous thread);
        first = put w.first queue (end_without (before-is i) (after-is i) (first-is i));
        last = put w.last queue (end_without (after-is i) (before-is i) (last-is i));
      })

  pub leave-stands : QueuesStand places end
  leave-stands = stands-as places m end (left w queue thread) left-is size-end (leaving.linked w (length m) queue thread stands.linked owned)

  pub leave-queues : (other : ℕ) → queue_of places end other ≡ without thread (queue_of places m other)
  unfolding queue_of
  leave-queues other = queue-as places m end (left w queue thread) left-is size-end other ∙ leaving.queues w (length m) queue thread stands.linked owned other

  in-old : (x : ℕ) → w.owner x ≡ Some queue → 0 < times_in (queue_of places m queue) x
  in-old x known = subst (λ (l : List ℕ). 0 < times_in l x) (sym (queue-is places m queue)) (stands.linked.queues.stands queue x known)

  pub leave-bytes : SameBesideWaiting places (queue_of places m) m end
  leave-bytes = record {
    size = size-end;
    bytes = λ place off off'.
        off-ends mid head ends place (laid-mid.heads queue head is).within (off' queue head thread (in-old thread owned) is)
        ∙ off-out 244 m thread place near behind front (omega arith) (off queue thread (in-old thread owned))
        (λ t same. off queue t (in-old t (after-owned t same))) (λ t same. off queue t (in-old t (before-owned t same)));
  }
