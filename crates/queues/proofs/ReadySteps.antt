-- What pushing and leaving make of those that are ready.
use Rattle.std.proofs.Common.{ℕ, suc, ◌≡◌, ◌∙◌, ◌+◌, ◌^◌, ◌<◌, ◌≤◌, inl, inr, true, false, if◌then◌else◌, Option, Some, None, List, [], ◌∷◌, ◌++◌, length}
use Rattle.std.proofs.Common.{slice_set, refl, sym, ap, subst, arith}
use Rattle.std.proofs.lemmas.Bool.Decides.{eqb_tells}
use Rattle.std.proofs.lemmas.Bool.{cases_lt}
use Rattle.std.proofs.lemmas.List.{get_or-set_other, get_or-set_same, get_or_past}
use Rattle.model.specs.Capabilities.Slots.{Slots}
use Rattle.model.specs.Kernel.State.{put}
use Rattle.model.specs.Shared.Lists.{times_in, without}
use Rattle.model.proofs.Orders.{without-absent}
use Rattle.slots.specs.preorder.Chains.{put_at}
use Rattle.queues.specs.links.Threaded.{AreLinked, Threaded, end_without, first_joined, left, linked, listed, pushed}
use Rattle.queues.proofs.links.Laws.{leaving, named_stand, pushing, put-here, put-off, unowned}
use Rattle.queues.specs.Layout.{AreLaidOut, Places}
use Rattle.queues.specs.Ready.{ReadyStands, SameBesideReady, ends_of, nobody, ready_in, ready_of}
use Rattle.queues.specs.Words.{link_at, linked_last, taken_out}
use Rattle.queues.specs.declared.words.Ends.{Ends}
use Rattle.queues.proofs.Frames.{off-last, off-out, size-last, size-out}
use Rattle.queues.proofs.LinkSteps.{AreThreads, link-there, links-joined, links-out}
use Rattle.queues.proofs.MemoryWrites.{AreInPlace}
use Rattle.queues.proofs.Nobody.{nobody-linked}
use Rattle.queues.proofs.Standings.{in-place, linked-thread, threaded}

-- ---- the ends of a priority

pub first-set : (ends : List Ends) (priority : ℕ) (e : Ends) → priority < length ends
    → (other : ℕ) → (ends_of (slice_set ends priority e) other).first ≡ put (λ n. (ends_of ends n).first) priority e.first other
first-set ends priority e low other = elim (eqb_tells other priority) [
  | inl here ↦
      ap (λ n. (ends_of (slice_set ends priority e) n).first) here.1
      ∙ ap (λ (x : Ends). x.first) (get_or-set_same ends priority e nobody low)
      ∙ sym (ap (λ b. if b then e.first else (ends_of ends other).first) here.0)
  | inr off ↦
      ap (λ (x : Ends). x.first) (get_or-set_other ends priority other e nobody off.1)
      ∙ sym (put-off (λ n. (ends_of ends n).first) priority e.first other off.1)
]

pub last-set : (ends : List Ends) (priority : ℕ) (e : Ends) → priority < length ends
    → (other : ℕ) → (ends_of (slice_set ends priority e) other).last ≡ put (λ n. (ends_of ends n).last) priority e.last other
last-set ends priority e low other = elim (eqb_tells other priority) [
  | inl here ↦
      ap (λ n. (ends_of (slice_set ends priority e) n).last) here.1
      ∙ ap (λ (x : Ends). x.last) (get_or-set_same ends priority e nobody low)
      ∙ sym (ap (λ b. if b then e.last else (ends_of ends other).last) here.0)
  | inr off ↦
      ap (λ (x : Ends). x.last) (get_or-set_other ends priority other e nobody off.1)
      ∙ sym (put-off (λ n. (ends_of ends n).last) priority e.last other off.1)
]

-- ---- who has which number

pub ready-is : (places : Places) (ends : List Ends) (m : List ℕ) (priority : ℕ) →
    ready_of places ends m priority ≡ listed (ready_in places ends m) (length m) priority
unfolding ready_of
ready-is places ends m priority = refl

-- a thread is ready at a priority that the table has
pub numbered : (places : Places) (ends : List Ends) (m : List ℕ) (thread priority : ℕ) → ReadyStands places ends m →
    (ready_in places ends m).owner thread ≡ Some priority
    → priority < length ends
numbered places ends m thread priority stands owned = elim (cases_lt priority (length ends)) [
  | inl inside ↦ inside
  | inr past ↦
      let w = ready_in places ends m in
      let empty : times_in (listed w (length m) priority) thread ≡ 0 =
      ap (λ (e : Ends). times_in (linked w.next (suc (length m)) e.first) thread) (get_or_past ends priority nobody past) in
      absurd (omega (arith, stands.linked.queues.stands priority thread owned, empty))
]

pub idle-ready : (places : Places) (ends : List Ends) (m : List ℕ) (thread : ℕ) → ReadyStands places ends m → (ready_in places ends m).owner thread ≡ None
    → (other : ℕ) → ready_of places ends m other ≡ without thread (ready_of places ends m other)
unfolding ready_of
idle-ready places ends m thread stands none other =
    sym (without-absent thread (listed (ready_in places ends m) (length m) other)
    (unowned.out (ready_in places ends m) (length m) thread stands.linked none other))

-- no thread is there
pub none-ready : (places : Places) (ends : List Ends) (m : List ℕ) → ((priority : ℕ) → ends_of ends priority ≡ nobody) → (priority : ℕ) →
    ready_of places ends m priority ≡ []
unfolding ready_of
none-ready places ends m none priority = ap (λ (e : Ends). linked (ready_in places ends m).next (suc (length m)) e.first) (none priority)

pub nobody-ready : (places : Places) (ends : List Ends) (m : List ℕ) → ((offset : ℕ) → places.threads offset ≡ false) →
    ((priority : ℕ) → ends_of ends priority ≡ nobody)
    → ReadyStands places ends m
nobody-ready places ends m free none = record {
  linked = nobody-linked (ready_in places ends m) (length m)
      (λ thread. ap (λ b. if b then link_at 256 m thread 0 else None) (free thread))
      (λ priority. ap (λ (e : Ends). e.first) (none priority)) (λ priority. ap (λ (e : Ends). e.last) (none priority));
}

-- ---- what changes

stands-as : (places : Places) (ends : List Ends) (old new : List ℕ) (w : Threaded) → ready_in places ends new ≡ w → length new ≡ length old →
    AreLinked w (length old)
    → ReadyStands places ends new
stands-as places ends old new w is size known = record {
  linked = subst (AreLinked (ready_in places ends new)) (sym size) (subst (λ (v : Threaded). AreLinked v (length old)) (sym is) known);
}

ready-as : (places : Places) (ends : List Ends) (old new : List ℕ) (w : Threaded) → ready_in places ends new ≡ w → length new ≡ length old
    → (other : ℕ) → ready_of places ends new other ≡ listed w (length old) other
unfolding ready_of
ready-as places ends old new w is size other =
    ap (λ n. listed (ready_in places ends new) n other) size ∙ ap (λ (v : Threaded). listed v (length old) other) is

-- what pushing and leaving write
abbrev pub joined_ends : List Ends → ℕ → ℕ → List Ends
joined_ends ends priority thread = slice_set ends priority (record { first = first_joined (ends_of ends priority).first thread; last = Some thread })

pub joined-ends : (inside ends now : List Ends) (number priority thread : ℕ) (behind : Ends) → inside ≡ ends → number ≡ priority
    → behind ≡ record { first = first_joined (ends_of inside number).first thread; last = Some thread } → now ≡ slice_set ends number behind
    → now ≡ joined_ends ends priority thread
joined-ends inside ends now number priority thread behind same is linked-so set-so =
    set-so ∙ ap (slice_set ends number) linked-so
    ∙ ap (λ (l : List Ends). let e : Ends = record { first = first_joined (ends_of l number).first thread; last = Some thread } in slice_set ends number e) same
    ∙ ap (λ n. joined_ends ends n thread) is

abbrev pub joined_memory : List Ends → List ℕ → ℕ → ℕ → List ℕ
joined_memory ends m priority thread = linked_last 256 m (ends_of ends priority).last priority thread

pub joined-memory : (inside ends : List Ends) (m now : List ℕ) (number priority thread : ℕ) → inside ≡ ends → number ≡ priority
    → now ≡ linked_last 256 m (ends_of inside number).last number thread → now ≡ joined_memory ends m priority thread
joined-memory inside ends m now number priority thread same is linked-so =
    linked-so ∙ ap (λ (l : List Ends). linked_last 256 m (ends_of l number).last number thread) same ∙ ap (λ n. joined_memory ends m n thread) is

abbrev pub fewer_ends : List Ends → List ℕ → ℕ → ℕ → List Ends
fewer_ends ends m priority thread =
    let next = link_at 256 m thread 1 in
    let previous = link_at 256 m thread 2 in
    slice_set ends priority (record {
      first = end_without previous next (ends_of ends priority).first;
      last =
          end_without next previous (ends_of ends priority).last;
    })

pub fewer-ends : (inside ends now : List Ends) (m : List ℕ) (priority thread : ℕ) (behind : Ends) → inside ≡ ends
    → behind ≡ record {
      first = end_without (link_at 256 m thread 2) (link_at 256 m thread 1) (ends_of inside priority).first;
      last = end_without (link_at 256 m thread 1) (link_at 256 m thread 2) (ends_of inside priority).last;
    }
    → now ≡ slice_set ends priority behind → now ≡ fewer_ends ends m priority thread
fewer-ends inside ends now m priority thread behind same left-so set-so =
    set-so ∙ ap (slice_set ends priority) left-so
    ∙ ap (λ (l : List Ends). let e : Ends = record {
      first = end_without (link_at 256 m thread 2) (link_at 256 m thread 1) (ends_of l priority).first;
      last = end_without (link_at 256 m thread 1) (link_at 256 m thread 2) (ends_of l priority).last;
    } in slice_set ends priority e) same

module _ (places : Places) (slots : Slots) (ends : List Ends) (m : List ℕ) (laid : AreLaidOut places slots (length m)) (stands : ReadyStands places ends m)
    (priority thread : ℕ) (low : priority < length ends) (there : places.threads thread ≡ true) where
  abbrev w : Threaded
  w = ready_in places ends m

  few : length m ≤ 2 ^ 24
  few = (laid.threads thread there).few

  spaces : AreInPlace places.threads (length m)
  spaces = in-place places slots (length m) laid few

  near : thread + 512 ≤ length m
  near = (laid.threads thread there).within

  ready-thread : (o : Option ℕ) → ((x : ℕ) → o ≡ Some x → w.owner x ≡ Some priority) → AreThreads places.threads o
  ready-thread o owned x is = linked-thread 256 places.threads m 0 x priority (owned x is)

  inside : (o : Option ℕ) → AreThreads places.threads o → (x : ℕ) → o ≡ Some x → x + 512 ≤ length m
  inside o are x is = (laid.threads x (are x is)).within

  -- ---- pushing

  abbrev before : Ends
  before = ends_of ends priority

  abbrev joined : List Ends
  joined = joined_ends ends priority thread

  abbrev longer : List ℕ
  longer = joined_memory ends m priority thread

  last-owned : (x : ℕ) → before.last ≡ Some x → w.owner x ≡ Some priority
  last-owned x same = named_stand.last w (length m) priority x stands.linked same

  pub last-ready : AreThreads places.threads before.last
  last-ready = ready-thread before.last last-owned

  size-longer : length longer ≡ length m
  size-longer = size-last 256 m before.last priority thread near (inside before.last last-ready) (omega arith)

  joined-is : priority < 2 ^ 31 → ready_in places joined longer ≡ pushed w priority thread
  joined-is fits =
      let links = links-joined 256 places.threads m spaces thread there (omega arith) before.last priority last-ready (omega (arith, fits)) in
      λ i. threaded (links i)
      (λ x. first-set ends priority (record { first = first_joined before.first thread; last = Some thread }) low x i)
      (λ x. last-set ends priority (record { first = first_joined before.first thread; last = Some thread }) low x i)

  unready : ((other : ℕ) → times_in (ready_of places ends m other) thread ≡ 0) → w.owner thread ≡ None
  unready apart = unowned.none w (length m) thread stands.linked (λ other. ap (λ l. times_in l thread) (sym (ready-is places ends m other)) ∙ apart other)

  module _ (fits : priority < 2 ^ 31) (apart : (other : ℕ) → times_in (ready_of places ends m other) thread ≡ 0) where
    pub push-stands : ReadyStands places joined longer
    push-stands = stands-as places joined m longer (pushed w priority thread) (joined-is fits) size-longer
        (pushing.linked w (length m) priority thread stands.linked (unready apart) (omega (arith, near)))

    pub push-ready : (other : ℕ) → ready_of places joined longer other ≡ put (ready_of places ends m) priority (ready_of places ends m priority ++ thread ∷ [])
        other
    unfolding ready_of
    push-ready other = ready-as places joined m longer (pushed w priority thread) (joined-is fits) size-longer other
        ∙ pushing.queues w (length m) priority thread stands.linked (unready apart) (omega (arith, near)) other

    in-new : (x : ℕ) → (pushed w priority thread).owner x ≡ Some priority → 0 < times_in (ready_of places joined longer priority) x
    in-new x owned =
        let there' : 0 < times_in (listed (ready_in places joined longer) (length longer) priority) x =
        push-stands.linked.queues.stands priority x (ap (λ (v : Threaded). v.owner x) (joined-is fits) ∙ owned) in
        subst (λ (l : List ℕ). 0 < times_in l x) (sym (ready-is places joined longer priority)) there'

    own-in : 0 < times_in (ready_of places joined longer priority) thread
    own-in = in-new thread (put-here w.owner thread (Some priority))

    last-in : (x : ℕ) → before.last ≡ Some x → 0 < times_in (ready_of places joined longer priority) x
    last-in x same = in-new x (elim (eqb_tells x thread) [
      | inl here ↦ ap (λ b. if b then Some priority else w.owner x) here.0
      | inr off ↦ put-off w.owner thread (Some priority) x off.1 ∙ last-owned x same
    ])

    pub push-bytes : SameBesideReady (ready_of places joined longer) m longer
    push-bytes = record {
      size = size-longer;
      bytes = λ place off.
          off-last 256 m before.last priority thread place near (inside before.last last-ready) (omega arith) (off priority thread own-in)
          (λ t same. off priority t (last-in t same));
    }

  -- ---- leaving

  abbrev next : Option ℕ
  next = link_at 256 m thread 1

  abbrev previous : Option ℕ
  previous = link_at 256 m thread 2

  abbrev shorter : List ℕ
  shorter = taken_out 256 m thread

  abbrev fewer : List Ends
  fewer = fewer_ends ends m priority thread

  module _ (owned : w.owner thread ≡ Some priority) where
    next-is : w.next thread ≡ next
    next-is = link-there 256 places.threads m spaces thread there (omega arith) 1

    previous-is : w.previous thread ≡ previous
    previous-is = link-there 256 places.threads m spaces thread there (omega arith) 2

    next-owned : (x : ℕ) → next ≡ Some x → w.owner x ≡ Some priority
    next-owned x same = named_stand.next w (length m) priority thread x stands.linked owned (next-is ∙ same)

    previous-owned : (x : ℕ) → previous ≡ Some x → w.owner x ≡ Some priority
    previous-owned x same = named_stand.previous w (length m) priority thread x stands.linked owned (previous-is ∙ same)

    pub next-thread : AreThreads places.threads next
    next-thread = ready-thread next next-owned

    pub previous-thread : AreThreads places.threads previous
    previous-thread = ready-thread previous previous-owned

    size-shorter : length shorter ≡ length m
    size-shorter = size-out 256 m thread near (inside next next-thread) (inside previous previous-thread) (omega arith)

    fewer-is : ready_in places fewer shorter ≡ left w priority thread
    fewer-is =
        let links = links-out 256 places.threads m spaces thread there (omega arith) next-thread previous-thread in
        let next-is' = sym next-is in
        let previous-is' = sym previous-is in
        (λ i. threaded (links i)
        (λ x. first-set ends priority (record { first = end_without previous next before.first; last = end_without next previous before.last }) low x i)
        (λ x. last-set ends priority (record { first = end_without previous next before.first; last = end_without next previous before.last }) low x i))
        ∙ (λ i. record {
          owner = put w.owner thread None;
          next = put_at w.next (w.previous thread) (w.next thread);
          previous = put_at w.previous (w.next thread) (w.previous thread);
          first = put w.first priority (end_without (previous-is' i) (next-is' i) before.first);
          last = put w.last priority (end_without (next-is' i) (previous-is' i) before.last);
        })

    pub leave-stands : ReadyStands places fewer shorter
    leave-stands = stands-as places fewer m shorter (left w priority thread) fewer-is size-shorter
        (leaving.linked w (length m) priority thread stands.linked owned)

    pub leave-ready : (other : ℕ) → ready_of places fewer shorter other ≡ without thread (ready_of places ends m other)
    unfolding ready_of
    leave-ready other = ready-as places fewer m shorter (left w priority thread) fewer-is size-shorter other
        ∙ leaving.queues w (length m) priority thread stands.linked owned other

    in-old : (x : ℕ) → w.owner x ≡ Some priority → 0 < times_in (ready_of places ends m priority) x
    in-old x known = subst (λ (l : List ℕ). 0 < times_in l x) (sym (ready-is places ends m priority)) (stands.linked.queues.stands priority x known)

    pub leave-bytes : SameBesideReady (ready_of places ends m) m shorter
    leave-bytes = record {
      size = size-shorter;
      bytes = λ place off.
          off-out 256 m thread place near (inside next next-thread) (inside previous previous-thread) (omega arith) (off priority thread (in-old thread owned))
          (λ t same. off priority t (in-old t (next-owned t same))) (λ t same. off priority t (in-old t (previous-owned t same)));
    }
