-- What pushing and leaving make of those that wait.
use Rattle.std.proofs.Common.{ℕ, suc, ◌≡◌, ◌≢◌, ◌∙◌, ◌==◌, ◌+◌, ◌*◌, ◌^◌, ◌<◌, ◌≤◌, inl, inr, Bool, true, false, if◌then◌else◌, Option, Some, None, List, []}
use Rattle.std.proofs.Common.{◌∷◌, ◌++◌, drop, length, refl, sym, ap, subst, arith}
use Rattle.std.proofs.lemmas.Bool.Decides.{eqb_tells}
use Rattle.model.specs.Capabilities.Slots.{Slots}
use Rattle.model.specs.Kernel.Scheduling.{head_of}
use Rattle.model.specs.Kernel.State.{put}
use Rattle.model.specs.Shared.Lists.{times_in, without}
use Rattle.model.proofs.BytesLemmas.{word_at-written}
use Rattle.model.proofs.Orders.{without-absent}
use Rattle.slots.specs.preorder.Chains.{Links, put_at}
use Rattle.queues.specs.links.Threaded.{AreLinked, Threaded, first_joined, linked, listed, pushed}
use Rattle.queues.proofs.links.Laws.{first_dropped, named_stand, pushing, put-here, put-off, unowned}
use Rattle.queues.specs.Layout.{AreLaidOut, Places}
use Rattle.queues.specs.Queues.{QueuesStand, SameBesideWaiting, queue_of, waiting_in}
use Rattle.queues.specs.Words.{LinksIn, end_at, end_in, end_of, ends_at, link_at, link_in, linked_last, links_in, somebody, with_end, with_ends, word_of}
use Rattle.queues.specs.declared.words.Ends.{Ends}
use Rattle.queues.proofs.Frames.{off-ends, off-last, size-ends, size-last}
use Rattle.queues.proofs.LinkSteps.{AreThreads, back-word, links-joined}
use Rattle.queues.proofs.MemoryWrites.{AreInPlace, end-stays, fits-word, links-stay, size-word, word-beside}

pub in-place : (places : Places) (slots : Slots) (size : ℕ) → AreLaidOut places slots size → size ≤ 2 ^ 24 → AreInPlace places.threads size
in-place places slots size laid few = record {
  few = few;
  aligned = laid.aligned;
  within = λ thread is. (laid.threads thread is).within;
}

-- who has a link is a thread
pub linked-thread : (base : ℕ) (threads : ℕ → Bool) (m : List ℕ) (k t x : ℕ) → link_in base threads m k t ≡ Some x → threads t ≡ true
linked-thread base threads m k t x =
    elim (threads t) as (λ b. (if b then link_at base m t k else None) ≡ Some x → b ≡ true) [
      | true ↦ λ is. refl
      | false ↦ λ is. absurd (let clash : None ≡ Some x = is in cc)
    ]

-- ---- the ends that an object keeps

module _ (places : Places) (slots : Slots) (m : List ℕ) (laid : AreLaidOut places slots (length m)) (few : length m ≤ 2 ^ 24)
    (queue head : ℕ) (is : places.heads queue ≡ Some head) (ends : Ends)
    (named : AreThreads places.threads ends.first) (named' : AreThreads places.threads ends.last) where
  abbrev new : List ℕ
  new = with_ends m head ends

  abbrev one : List ℕ
  one = with_end m head 0 (word_of ends.first)

  within : head + 8 ≤ length m
  within = (laid.heads queue head is).within

  spots : AreInPlace places.threads (length m)
  spots = in-place places slots (length m) laid few

  size-one : length one ≡ length m
  size-one = size-word m (head + 4 * 0) (word_of ends.first) (omega (arith, within))

  own-first : end_at new head 0 ≡ ends.first
  own-first =
      ap somebody (word-beside one (head + 4 * 1) (word_of ends.last) (head + 4 * 0) (omega (arith, within, size-one)) (inl (omega arith))
      ∙ word_at-written m (head + 4 * 0) (word_of ends.first) (omega (arith, within)) (fits-word ends.first))
      ∙ back-word places.threads (length m) ends.first spots named

  own-last : end_at new head 1 ≡ ends.last
  own-last =
      ap somebody (word_at-written one (head + 4 * 1) (word_of ends.last) (omega (arith, within, size-one)) (fits-word ends.last))
      ∙ back-word places.threads (length m) ends.last spots named'

  other-end : (k x : ℕ) → k < 2 → x ≢ queue → end_in places.heads new k x ≡ end_in places.heads m k x
  other-end k x low off = end-stays places.heads m new k x low (λ place at there from below.
      off-ends m head ends at within (λ held. elim (laid.apart queue head x place is there off) [
        | inl before ↦ absurd (omega (arith, before, from, held.1))
        | inr behind ↦ absurd (omega (arith, behind, below, held.0))
      ]))

  pub ends-first : (x : ℕ) → end_in places.heads new 0 x ≡ put (end_in places.heads m 0) queue ends.first x
  ends-first x = elim (eqb_tells x queue) [
    | inl here ↦
        ap (end_of new 0) (ap places.heads here.1 ∙ is) ∙ own-first
        ∙ sym (ap (λ b. if b then ends.first else end_in places.heads m 0 x) here.0)
    | inr off ↦ other-end 0 x (omega arith) off.1 ∙ sym (put-off (end_in places.heads m 0) queue ends.first x off.1)
  ]

  pub ends-last : (x : ℕ) → end_in places.heads new 1 x ≡ put (end_in places.heads m 1) queue ends.last x
  ends-last x = elim (eqb_tells x queue) [
    | inl here ↦
        ap (end_of new 1) (ap places.heads here.1 ∙ is) ∙ own-last
        ∙ sym (ap (λ b. if b then ends.last else end_in places.heads m 1 x) here.0)
    | inr off ↦ other-end 1 x (omega arith) off.1 ∙ sym (put-off (end_in places.heads m 1) queue ends.last x off.1)
  ]

  pub ends-links : (base : ℕ) → 244 ≤ base → base ≤ 256 → links_in base places.threads new ≡ links_in base places.threads m
  ends-links base least most = links-stay base places.threads m new (λ thread place there from below.
      off-ends m head ends place within (λ held. elim (laid.beside queue head thread is there) [
        | inl before ↦ absurd (omega (arith, before, from, held.1, least))
        | inr behind ↦ absurd (omega (arith, behind, below, held.0, most))
      ]))

-- ---- what is linked

pub stands-as : (places : Places) (old new : List ℕ) (w : Threaded) → waiting_in places new ≡ w → length new ≡ length old → AreLinked w (length old) →
    QueuesStand places new
stands-as places old new w is size known = record {
  linked = subst (AreLinked (waiting_in places new)) (sym size) (subst (λ (v : Threaded). AreLinked v (length old)) (sym is) known);
}

pub queue-as : (places : Places) (old new : List ℕ) (w : Threaded) → waiting_in places new ≡ w → length new ≡ length old → (other : ℕ) →
    queue_of places new other ≡ listed w (length old) other
unfolding queue_of
queue-as places old new w is size other = ap (λ n. listed (waiting_in places new) n other) size ∙ ap (λ (v : Threaded). listed v (length old) other) is

pub queue-is : (places : Places) (memory : List ℕ) (other : ℕ) → queue_of places memory other ≡ listed (waiting_in places memory) (length memory) other
unfolding queue_of
queue-is places memory other = refl

abbrev pub threaded : LinksIn → Links → Links → Threaded
threaded links first last = record { owner = links.owner; next = links.next; previous = links.previous; first = first; last = last }

pub named-thread : (places : Places) (memory : List ℕ) (o : Option ℕ) (queue : ℕ)
    → ((x : ℕ) → o ≡ Some x → (waiting_in places memory).owner x ≡ Some queue) → AreThreads places.threads o
named-thread places memory o queue owned x is = linked-thread 244 places.threads memory 0 x queue (owned x is)

-- ---- who is in no queue, and who is the first

pub idle : (places : Places) (m : List ℕ) (thread : ℕ) → QueuesStand places m → (waiting_in places m).owner thread ≡ None
    → (other : ℕ) → queue_of places m other ≡ without thread (queue_of places m other)
unfolding queue_of
idle places m thread stands none other =
    sym (without-absent thread (listed (waiting_in places m) (length m) other) (unowned.out (waiting_in places m) (length m) thread stands.linked none other))

pub first-found : (places : Places) (m : List ℕ) (queue : ℕ) → head_of (queue_of places m queue) ≡ end_in places.heads m 0 queue
unfolding queue_of
first-found places m queue =
    elim (end_in places.heads m 0 queue) as (λ o. head_of (linked (waiting_in places m).next (suc (length m)) o) ≡ o) [ None ↦ refl | Some x ↦ refl ]

-- a thread is in no queue of what has no place for it
pub headed : (places : Places) (m : List ℕ) (queue thread : ℕ) → QueuesStand places m → (waiting_in places m).owner thread ≡ Some queue →
    places.heads queue ≢ None
headed places m queue thread stands owned none =
    let w = waiting_in places m in
    let some = stands.linked.queues.stands queue thread owned in
    let empty : times_in (listed w (length m) queue) thread ≡ 0 = ap (λ o. times_in (linked w.next (suc (length m)) (end_of m 0 o)) thread) none in
    absurd (omega (arith, some, empty))

pub popped : (places : Places) (m : List ℕ) (queue thread : ℕ) → QueuesStand places m → head_of (queue_of places m queue) ≡ Some thread
    → (other : ℕ) → without thread (queue_of places m other) ≡ put (queue_of places m) queue (drop 1 (queue_of places m queue)) other
unfolding queue_of
popped places m queue thread stands head other = first_dropped (waiting_in places m) (length m) queue thread stands.linked head other

-- ---- pushing

-- what is written
abbrev pub pushed_memory : List ℕ → ℕ → ℕ → ℕ → List ℕ
pushed_memory m head queue thread =
    with_ends (linked_last 244 m (end_at m head 1) queue thread) head (record { first = first_joined (end_at m head 0) thread; last = Some thread })

pub push-memory : (m link now : List ℕ) (head queue thread : ℕ) (before behind : Ends) → before ≡ ends_at m head
    → link ≡ linked_last 244 m before.last queue thread → behind ≡ record { first = first_joined before.first thread; last = Some thread }
    → now ≡ with_ends link head behind → now ≡ pushed_memory m head queue thread
push-memory m link now head queue thread before behind read linked-so ends-so written-so =
    written-so
    ∙ ap (λ l. with_ends l head behind) (linked-so ∙ ap (λ (e : Ends). linked_last 244 m e.last queue thread) read)
    ∙ ap (with_ends (linked_last 244 m (end_at m head 1) queue thread) head)
    (ends-so ∙ ap (λ (e : Ends). let o : Ends = record { first = first_joined e.first thread; last = Some thread } in o) read)

module _ (places : Places) (slots : Slots) (m : List ℕ) (laid : AreLaidOut places slots (length m)) (stands : QueuesStand places m)
    (queue head thread : ℕ) (is : places.heads queue ≡ Some head) (there : places.threads thread ≡ true)
    (apart : (other : ℕ) → times_in (queue_of places m other) thread ≡ 0) where
  abbrev w : Threaded
  w = waiting_in places m

  abbrev first : Option ℕ
  first = end_at m head 0

  abbrev last : Option ℕ
  last = end_at m head 1

  abbrev ends : Ends
  ends = record { first = first_joined first thread; last = Some thread }

  abbrev mid : List ℕ
  mid = linked_last 244 m last queue thread

  abbrev end : List ℕ
  end = with_ends mid head ends

  few : length m ≤ 2 ^ 24
  few = (laid.threads thread there).few

  spaces : AreInPlace places.threads (length m)
  spaces = in-place places slots (length m) laid few

  first-is : w.first queue ≡ first
  first-is = ap (end_of m 0) is

  last-is : w.last queue ≡ last
  last-is = ap (end_of m 1) is

  last-owned : (x : ℕ) → last ≡ Some x → w.owner x ≡ Some queue
  last-owned x same = named_stand.last w (length m) queue x stands.linked (last-is ∙ same)

  pub last-thread : AreThreads places.threads last
  last-thread = named-thread places m last queue last-owned

  first-thread : AreThreads places.threads first
  first-thread = named-thread places m first queue (λ x same. named_stand.first w (length m) queue x stands.linked (first-is ∙ same))

  joined-thread : AreThreads places.threads (first_joined first thread)
  joined-thread =
      elim first as (λ o. AreThreads places.threads o → AreThreads places.threads (first_joined o thread)) [
        | None ↦ λ known x same. let e : thread ≡ x = cc in ap places.threads (sym e) ∙ there
        | Some f ↦ λ known x same. known x same
      ] first-thread

  own-thread : AreThreads places.threads (Some thread)
  own-thread x same = let e : thread ≡ x = cc in ap places.threads (sym e) ∙ there

  near : thread + 512 ≤ length m
  near = (laid.threads thread there).within

  behind : (x : ℕ) → last ≡ Some x → x + 512 ≤ length m
  behind x same = (laid.threads x (last-thread x same)).within

  size-mid : length mid ≡ length m
  size-mid = size-last 244 m last queue thread near behind (omega arith)

  laid-mid : AreLaidOut places slots (length mid)
  laid-mid = subst (AreLaidOut places slots) (sym size-mid) laid

  pub size-end : length end ≡ length m
  size-end = size-ends mid head ends (laid-mid.heads queue head is).within ∙ size-mid

  -- the ends of all queues are not touched by links
  end-mid : (k x : ℕ) → k < 2 → end_in places.heads mid k x ≡ end_in places.heads m k x
  end-mid k x low = end-stays places.heads m mid k x low (λ place at kept from below.
      off-last 244 m last queue thread at near behind (omega arith)
      (λ held. elim (laid.beside x place thread kept there) [
        | inl before ↦ absurd (omega (arith, before, below, held.0))
        | inr past ↦ absurd (omega (arith, past, from, held.1))
      ])
      (λ t same held. elim (laid.beside x place t kept (last-thread t same)) [
        | inl before ↦ absurd (omega (arith, before, below, held.0))
        | inr past ↦ absurd (omega (arith, past, from, held.1))
      ]))

  pub pushed-is : waiting_in places end ≡ pushed w queue thread
  pushed-is =
      let links = ends-links places slots mid laid-mid (omega (arith, few, size-mid)) queue head is ends joined-thread own-thread 244 (omega arith)
      (omega arith)
      ∙ links-joined 244 places.threads m spaces thread there (omega arith) last queue last-thread (omega (arith, laid.named queue head is, few)) in
      let firsts : (x : ℕ) → end_in places.heads end 0 x ≡ put w.first queue (first_joined first thread) x = λ x.
      ends-first places slots mid laid-mid (omega (arith, few, size-mid)) queue head is ends joined-thread own-thread x
      ∙ ap (λ o. if x == queue then first_joined first thread else o) (end-mid 0 x (omega arith)) in
      let lasts : (x : ℕ) → end_in places.heads end 1 x ≡ put w.last queue (Some thread) x = λ x.
      ends-last places slots mid laid-mid (omega (arith, few, size-mid)) queue head is ends joined-thread own-thread x
      ∙ ap (λ o. if x == queue then Some thread else o) (end-mid 1 x (omega arith)) in
      let same = sym last-is in
      let same' = sym first-is in
      (λ i. threaded (links i) (λ x. firsts x i) (λ x. lasts x i))
      ∙ (λ i. record {
        owner = put w.owner thread (Some queue);
        next = put_at (put w.next thread None) (same i) (Some thread);
        previous = put w.previous thread (same i);
        first = put w.first queue (first_joined (same' i) thread);
        last = put w.last queue (Some thread);
      })

  unqueued : w.owner thread ≡ None
  unqueued = unowned.none w (length m) thread stands.linked (λ other. ap (λ l. times_in l thread) (sym (queue-is places m other)) ∙ apart other)

  pub push-stands : QueuesStand places end
  push-stands = stands-as places m end (pushed w queue thread) pushed-is size-end
      (pushing.linked w (length m) queue thread stands.linked unqueued (omega (arith, near)))

  pub push-queues : (other : ℕ) → queue_of places end other ≡ put (queue_of places m) queue (queue_of places m queue ++ thread ∷ []) other
  unfolding queue_of
  push-queues other = queue-as places m end (pushed w queue thread) pushed-is size-end other
      ∙ pushing.queues w (length m) queue thread stands.linked unqueued (omega (arith, near)) other

  -- who has the queue is in that queue
  in-new : (x : ℕ) → (pushed w queue thread).owner x ≡ Some queue → 0 < times_in (queue_of places end queue) x
  in-new x owned =
      let there' : 0 < times_in (listed (waiting_in places end) (length end) queue) x =
      push-stands.linked.queues.stands queue x (ap (λ (v : Threaded). v.owner x) pushed-is ∙ owned) in
      subst (λ (l : List ℕ). 0 < times_in l x) (sym (queue-is places end queue)) there'

  own-in : 0 < times_in (queue_of places end queue) thread
  own-in = in-new thread (put-here w.owner thread (Some queue))

  last-in : (x : ℕ) → last ≡ Some x → 0 < times_in (queue_of places end queue) x
  last-in x same = in-new x (elim (eqb_tells x thread) [
    | inl here ↦ ap (λ b. if b then Some queue else w.owner x) here.0
    | inr off ↦ put-off w.owner thread (Some queue) x off.1 ∙ last-owned x same
  ])

  pub push-bytes : SameBesideWaiting places (queue_of places end) m end
  push-bytes = record {
    size = size-end;
    bytes = λ place off off'.
        off-ends mid head ends place (laid-mid.heads queue head is).within (off' queue head thread own-in is)
        ∙ off-last 244 m last queue thread place near behind (omega arith) (off queue thread own-in) (λ t same. off queue t (last-in t same));
  }
