-- A ring of a thread of the part, in the whole and alone: of what is the part's, or of what others wait for.
use Rattle.std.proofs.Common.{ℕ, zero, suc, ◌≡◌, ◌∙◌, ◌==◌, ◌++◌, ◌&&◌, inl, inr, Bool, true, false, cond, if◌then◌else◌, List, [], ◌∷◌, filter, Option, Some}
use Rattle.std.proofs.Common.{None}
use Rattle.std.proofs.Common.{refl, sym, ap, ap₂, subst, arith, bit_or}
use Rattle.std.specs.Prelude.{Contains, slice_get}
use Rattle.std.specs.Option.{option_map_or}
use Rattle.std.specs.List.{list_any}
use Rattle.std.proofs.lemmas.Bool.{and_parts, eq-eqb, false≢true, ne_eqb}
use Rattle.std.proofs.lemmas.Bool.Decides.{eqb_tells}
use Rattle.std.proofs.lemmas.List.Elements.{filter-append}
use Rattle.std.proofs.lemmas.Option.{none-some, same_Some}
use Rattle.model.specs.declared.capabilities.Cap.{Cap}
use Rattle.model.specs.declared.capabilities.Cap.TheVariants.{Empty, Notification}
use Rattle.model.specs.declared.rights.Rights.{Rights}
use Rattle.model.specs.Acceptance.Authority.{IsOwnSlot, self_of}
use Rattle.model.specs.Acceptance.WellFormed.{is_notification_type}
use Rattle.model.specs.Capabilities.Rights.{may_write}
use Rattle.model.specs.Capabilities.Slots.{Slots, capability_at}
use Rattle.model.specs.Images.Described.{Numbered}
use Rattle.model.specs.Images.Image.{Image, Thread}
use Rattle.model.specs.Kernel.Messages.{signal, signals}
use Rattle.model.specs.Kernel.Retype.{NewNotification}
use Rattle.model.specs.Kernel.Soundness.{waiting_at}
use Rattle.model.specs.Kernel.State.{State, Inactive, Blocked, Object, ThreadObject, EndpointObject, NotificationObject, CNodeObject, FrameObject}
use Rattle.model.specs.Kernel.State.{PageTableObject, RootTableObject, NotificationState, ThreadState, as_notification, new_notification, notification_at}
use Rattle.model.specs.Shared.Lists.{without}
use Rattle.headline.specs.facts.Standing.{IsControlBlock}
use Rattle.headline.specs.parts.Agreeing.{IsMemberOf}
use Rattle.headline.specs.parts.Given.{IsGivenTo}
use Rattle.headline.specs.parts.Parts.{Part, alone, is_in, is_thread_in, takes}
use Rattle.headline.proofs.Laws.{is-listed}
use Rattle.part_laws.specs.Agreeing.{AgreeFor, IsOfPart, is_pool, is_taken}
use Rattle.part_laws.specs.Both.{BothStand}
use Rattle.part_laws.proofs.changes.Agreeing.{same-object}
use Rattle.part_laws.proofs.changes.Members.{any-at, filter-without, listed-from, member-of, some-passes}
use Rattle.part_laws.proofs.changes.Signals.{signal-agrees}
use Rattle.part_laws.proofs.outside.Nothing.{decide-not, used-of}
use Rattle.part_laws.proofs.outside.OtherEvents.{block-in, signals-leave, taken-notification}
use Rattle.part_laws.proofs.outside.Reaching.{QueueListed, queue-listed}
use Rattle.part_laws.proofs.own_steps.AloneImages.{alone-offset}
use Rattle.part_laws.proofs.own_steps.Waiters.{waiter-inside}
use Rattle.part_laws.proofs.promises.Waiting.{in-queue}

-- ---- lists

-- what passes is of the list
abbrev FoundBack : {A : Type 0} → (A → Bool) → List A → A → Type 0
FoundBack test xs x = ((k : ℕ) × (slice_get xs k ≡ Some x)) × (test x ≡ true)

one-behind : {A : Type 0} (test : A → Bool) (y : A) (ys : List A) (x : A) → FoundBack test ys x → FoundBack test (y ∷ ys) x
one-behind test y ys x found = ((suc (found.0).0, (found.0).1), found.1)

at-first : {A : Type 0} (test : A → Bool) (y : A) (ys : List A) (x : A) (j : ℕ)
    → ((k : ℕ) → slice_get (filter test ys) k ≡ Some x → FoundBack test ys x) → test y ≡ true → slice_get (y ∷ filter test ys) j ≡ Some x
    → FoundBack test (y ∷ ys) x
at-first test y ys x zero later passes here = ((0, here), ap test (sym (same_Some y x here)) ∙ passes)
at-first test y ys x (suc k) later passes here = one-behind test y ys x (later k here)

filtered-back : {A : Type 0} (test : A → Bool) (xs : List A) (j : ℕ) (x : A) → slice_get (filter test xs) j ≡ Some x → FoundBack test xs x
filtered-back test [] j x at = absurd (none-some x at)
filtered-back test (y ∷ ys) j x at =
    let later = λ (k : ℕ) (there : slice_get (filter test ys) k ≡ Some x). filtered-back test ys k x there in
    elim (test y) as (λ b. test y ≡ b → slice_get (cond b (y ∷ filter test ys) (filter test ys)) j ≡ Some x → FoundBack test (y ∷ ys) x) [
      | true ↦ λ passes here. at-first test y ys x j later passes here
      | false ↦ λ _ here. one-behind test y ys x (later j here)
    ] refl at

nothing-more : (xs : List ℕ) → xs ++ [] ≡ xs
nothing-more [] = refl
nothing-more (x ∷ xs) = ap (λ (rest : List ℕ). x ∷ rest) (nothing-more xs)

-- a number that does not pass goes to the tail
tail-out : (test : ℕ → Bool) (w : ℕ) (xs : List ℕ) → test w ≡ false → filter test (without w xs ++ w ∷ []) ≡ filter test xs
tail-out test w xs fails =
    filter-append test (without w xs) (w ∷ [])
    ∙ ap (λ b. filter test (without w xs) ++ cond b (w ∷ []) []) fails ∙ nothing-more (filter test (without w xs)) ∙ filter-without test w xs fails

-- who waits for a notification is in its queue
pub queued : (o : Option Object) (w : ℕ) → Contains (option_map_or (λ (n : NotificationState). n) (as_notification o) new_notification).waiters w
    → Contains (waiting_at o) w
queued (Some (NotificationObject n)) w there = there
queued None w there = there
queued (Some (ThreadObject x)) w there = there
queued (Some (EndpointObject e)) w (n, less, at) = absurd (omega (arith, less))
queued (Some (CNodeObject r)) w there = there
queued (Some FrameObject) w there = there
queued (Some PageTableObject) w there = there
queued (Some RootTableObject) w there = there

-- ---- what a ring leaves beside objects

module _ (test : ℕ → Bool) (a : State) (n badge : ℕ) (now : NotificationState) where
  ready-left : (ws : List ℕ) → ((w : ℕ) (others : List ℕ) → ws ≡ w ∷ others → test w ≡ false) → (priority : ℕ)
      → filter test ((signals a n badge now ws).ready priority) ≡ filter test (a.ready priority)
  ready-left [] out priority = refl
  ready-left (w ∷ others) out priority = by _
    where
      by : (at : ℕ) → filter test (if priority == at then without w (a.ready at) ++ w ∷ [] else without w (a.ready priority)) ≡ filter test (a.ready priority)
      by at = elim (eqb_tells priority at) [
        | inl here ↦
            ap (λ b. filter test (if b then without w (a.ready at) ++ w ∷ [] else without w (a.ready priority))) here.0
            ∙ tail-out test w (a.ready at) (out w others refl) ∙ ap (λ (p : ℕ). filter test (a.ready p)) (sym here.1)
        | inr apart ↦
            ap (λ b. filter test (if b then without w (a.ready at) ++ w ∷ [] else without w (a.ready priority))) apart.0
            ∙ filter-without test w (a.ready priority) (out w others refl)
      ]

-- the rest stays
bytes-left : (a : State) (n badge : ℕ) (now : NotificationState) (ws : List ℕ) → (signals a n badge now ws).bytes ≡ a.bytes
bytes-left a n badge now [] = refl
bytes-left a n badge now (w ∷ others) = refl

slots-left : (a : State) (n badge : ℕ) (now : NotificationState) (ws : List ℕ) → (signals a n badge now ws).slots ≡ a.slots
slots-left a n badge now [] = refl
slots-left a n badge now (w ∷ others) = refl

pub masked-left : (a : State) (n badge : ℕ) (now : NotificationState) (ws : List ℕ) → (signals a n badge now ws).masked ≡ a.masked
masked-left a n badge now [] = refl
masked-left a n badge now (w ∷ others) = refl

pub pending-left : (a : State) (n badge : ℕ) (now : NotificationState) (ws : List ℕ) → (signals a n badge now ws).pending ≡ a.pending
pending-left a n badge now [] = refl
pending-left a n badge now (w ∷ others) = refl

-- ---- both sides

module _ (image : Image) (part : Part) (s t : State) (both : BothStand image part s t) (agree : AgreeFor image part s t) where
  abbrev in_part : ℕ → Bool
  in_part = is_thread_in image part

  first-queued : (a : State) (n w : ℕ) (others : List ℕ) → (notification_at a n).waiters ≡ w ∷ others → Contains (waiting_at (a.objects n)) w
  first-queued a n w others is = queued (a.objects n) w (subst (λ (l : List ℕ). Contains l w) (sym is) (0, omega arith, refl))

  -- ---- what is not the part's

  module _ (offset : ℕ) (none : IsOfPart image part offset → ⊥) where
    -- whoever is of the part does not wait there
    no-member : (w : ℕ) → in_part w ≡ true → (own : ThreadState) → s.objects w ≡ Some (ThreadObject own) → own.status ≡ Blocked offset → ⊥
    no-member w inside own is blocked =
        let m = member-of image part w inside in
        none (used-of both.bytes image both.accepted part both.nothing m.thread (record { listed = m.listed; inside = m.inside }) offset
        (both.queues.waits m.thread own offset m.listed (ap s.objects m.block ∙ is) blocked))

    outside-waiter : (w : ℕ) → Contains (waiting_at (s.objects offset)) w → in_part w ≡ false
    outside-waiter w there =
        let waits = in-queue s both.stand.sound offset w there in
        decide-not (in_part w) (λ inside. no-member w inside waits.own waits.is waits.blocked)

    block-at : (w : ℕ) → Contains (waiting_at (s.objects offset)) w → IsControlBlock image w
    block-at w there =
        let waits = in-queue s both.stand.sound offset w there in
        elim (both.stand.others w waits.own waits.is) [
          | inl rests ↦ absurd (let e : Inactive ≡ Blocked offset = sym rests ∙ waits.blocked in cc)
          | inr block ↦ block
        ]

    apart-waiter : (w : ℕ) → Contains (waiting_at (s.objects offset)) w → IsOfPart image part w → ⊥
    apart-waiter w there of =
        false≢true (sym (outside-waiter w there)
        ∙ block-in both.bytes image both.accepted part both.nothing s both.labels both.stand w (block-at w there) of)

    -- in the part alone nobody does
    alone-member : (w : ℕ) → IsControlBlock (alone image part) w → in_part w ≡ true
    unfolding alone
    alone-member w block =
        let at = is-listed (alone image part) block.thread block.listed in
        let back = filtered-back (is_in part) image.threads at.number block.thread.thread at.listed in
        any-at (λ (v : Thread). is_in part v && self_of image v == w) image.threads (back.0).0 block.thread.thread (back.0).1
        (ap₂ (λ (p q : Bool). p && q) back.1
        (eq-eqb (self_of image block.thread.thread) w (sym (alone-offset image part block.thread.thread.header.tcb) ∙ sym block.is)))

    nobody-alone : (w : ℕ) → Contains (waiting_at (t.objects offset)) w → ⊥
    nobody-alone w there =
        let waits = in-queue t both.alone_stand.sound offset w there in
        elim (both.alone_stand.others w waits.own waits.is) [
          | inl rests ↦ (let e : Inactive ≡ Blocked offset = sym rests ∙ waits.blocked in cc)
          | inr block ↦
              let inside = alone-member w block in
              no-member w inside waits.own (same-object image part s t w agree inside ∙ waits.is) waits.blocked
        ]

    away : (o : ℕ) → IsOfPart image part o → (o == offset) ≡ false
    away o of = ne_eqb o offset (λ same. none (subst (IsOfPart image part) same of))

    -- a ring in the whole, with the same objects as before, and one in the part alone
    pub rung : (a b : State) → a.objects ≡ s.objects → (badge : ℕ) → AgreeFor image part a b → AgreeFor image part (signal a offset badge) b
    rung a b same badge before = record {
      objects = λ o of.
          signals-leave a offset badge (notification_at a offset) (notification_at a offset).waiters o (away o of)
          (λ w others there. ne_eqb o w (λ at. apart-waiter w (here w others there) (subst (IsOfPart image part) at of)))
          ∙ before.objects o of;
      bytes = λ place of.
          ap (λ (f : ℕ → Option ℕ). f place) (bytes-left a offset badge (notification_at a offset) (notification_at a offset).waiters) ∙ before.bytes place of;
      slots = λ slot of.
          ap (λ (f : Slots). f slot) (slots-left a offset badge (notification_at a offset) (notification_at a offset).waiters) ∙ before.slots slot of;
      masked = λ line of.
          ap (λ (f : ℕ → Bool). f line) (masked-left a offset badge (notification_at a offset) (notification_at a offset).waiters) ∙ before.masked line of;
      pending = λ line of.
          ap (λ (f : ℕ → Bool). f line) (pending-left a offset badge (notification_at a offset) (notification_at a offset).waiters) ∙ before.pending line of;
      ready = λ priority.
          before.ready priority
          ∙ sym (ready-left in_part a offset badge (notification_at a offset) (notification_at a offset).waiters
          (λ w others there. outside-waiter w (here w others there)) priority);
    }
      where
        here : (w : ℕ) (others : List ℕ) → (notification_at a offset).waiters ≡ w ∷ others → Contains (waiting_at (s.objects offset)) w
        here w others there =
            first-queued s offset w others
            (ap (λ (f : ℕ → Option Object). (option_map_or (λ (n : NotificationState). n) (as_notification (f offset)) new_notification).waiters) (sym same)
            ∙ there)

    pub rung-alone : (a b : State) → b.objects ≡ t.objects → (badge : ℕ) → AgreeFor image part a b → AgreeFor image part a (signal b offset badge)
    rung-alone a b same badge before = by (notification_at b offset).waiters refl
      where
        by : (ws : List ℕ) → (notification_at b offset).waiters ≡ ws → AgreeFor image part a (signals b offset badge (notification_at b offset) ws)
        by (w ∷ others) is =
            absurd (nobody-alone w (first-queued t offset w others
            (ap (λ (f : ℕ → Option Object). (option_map_or (λ (n : NotificationState). n) (as_notification (f offset)) new_notification).waiters) (sym same)
            ∙ is)))
        by [] is = record {
          objects = λ o of.
              before.objects o of
              ∙ sym (ap (λ q. if q then Some (NotificationObject (record (notification_at b offset) {
                word = bit_or (notification_at b offset).word badge;
              }))
              else b.objects o) (away o of));
          bytes = λ place of. before.bytes place of;
          slots = λ slot of. before.slots slot of;
          masked = λ line of. before.masked line of;
          pending = λ line of. before.pending line of;
          ready = λ priority. before.ready priority;
        }

    outward : (badge : ℕ) → AgreeFor image part (signal s offset badge) (signal t offset badge)
    outward badge = rung-alone (signal s offset badge) t refl badge (rung s t refl badge agree)

  -- ---- by a capability of a thread of the part

  module _ (u : Numbered) (member : IsMemberOf image part u) (slot offset badge : ℕ) (r : Rights) (own : IsOwnSlot image u.thread slot)
      (is : capability_at s.slots slot ≡ Notification offset r badge) (may : may_write r ≡ true) where
    inward : IsOfPart image part offset → AgreeFor image part (signal s offset badge) (signal t offset badge)
    inward of =
        signal-agrees image part s t offset badge agree of
        (λ w there. waiter-inside image part s t both offset w of (queued (s.objects offset) w there))

    held : IsGivenTo image u.thread (Notification offset r badge)
    held = subst (λ (c : Cap). IsGivenTo image u.thread c) is
        (both.given u slot member.listed own (λ empty. let e : Notification offset r badge ≡ Empty = sym is ∙ empty in cc))

    by-listed : QueueListed image u.thread offset NewNotification 1 → AgreeFor image part (signal s offset badge) (signal t offset badge)
    by-listed q =
        let object = q.entry.source in
        let test = λ (v : Thread). is_in part v && takes image v object in
        elim (list_any test image.threads) as (λ b. list_any test image.threads ≡ b
        → AgreeFor image part (signal s offset badge) (signal t offset badge)) [
          | true ↦ λ some.
              let p = some-passes test image.threads some in
              let flags = and_parts (is_in part p.entry) (takes image p.entry object) p.is in
              let listed = listed-from 0 image.threads p.place p.entry p.at in
              inward (is_taken object (record {
                thread = record { number = listed.0; thread = p.entry };
                member = record { listed = listed.1; inside = flags.0 };
                inside = q.inside;
                takes = flags.1;
              }) q.at)
          | false ↦ λ none. outward offset (λ of.
              let taken = taken-notification both.bytes image both.accepted part object q.inside (subst (IsOfPart image part) q.at of)
              (ap is_notification_type q.type) in
              let among = is-listed image taken.thread taken.member.listed in
              false≢true (sym none ∙ any-at test image.threads among.number taken.thread.thread among.listed
              (ap₂ (λ (a b : Bool). a && b) taken.member.inside taken.takes))) badge
        ] refl

    pub ring-agrees : AgreeFor image part (signal s offset badge) (signal t offset badge)
    ring-agrees = elim (queue-listed image u.thread offset 1 (Notification offset r badge) NewNotification refl refl may held) [
      | inl q ↦ by-listed q
      | inr p ↦ inward (is_pool u member p)
    ]
