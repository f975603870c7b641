-- A thread outside of a part that takes nothing has nothing of it: what it reaches by what it holds it changes by the image, or it lies in a pool of its
-- own, and none of this is the part's.
use Rattle.std.proofs.Common.{ℕ, zero, suc, ◌≡◌, ◌∙◌, ◌==◌, ◌+◌, ◌^◌, ◌<◌, ◌≤◌, ◌&&◌, ◌||◌, ◌⊎◌, inl, inr, Bool, true, false, not, List, [], ◌∷◌, Option}
use Rattle.std.proofs.Common.{Some}
use Rattle.std.proofs.Common.{None, bit_and, map, refl, sym, ap, arith}
use Rattle.std.specs.Prelude.{Contains, IsTrue}
use Rattle.std.specs.Option.{option_map_or}
use Rattle.std.specs.List.{enumerate_from, list_all, list_any, range_with_len}
use Rattle.std.proofs.lemmas.Bool.{and_parts, eqb-true, false≢true}
use Rattle.std.proofs.lemmas.Bool.Decides.{eqb_tells}
use Rattle.std.proofs.lemmas.Option.{none-some}
use Rattle.format_laws.proofs.Laws.{is-fitting}
use Rattle.soundness.specs.boot_laws.Standing.{StandApart}
use Rattle.soundness.proofs.Laws.{are-formed, frame-type, stand-apart}
use Rattle.model.specs.declared.capabilities.Cap.{Cap}
use Rattle.model.specs.declared.capabilities.Cap.TheVariants.{Empty, Untyped, InterruptHandler}
use Rattle.model.specs.declared.entries.InterruptEntry.{InterruptEntry}
use Rattle.model.specs.declared.labels.Label.{Label}
use Rattle.model.specs.Acceptance.Accepted.{IsAccepted}
use Rattle.model.specs.Acceptance.Authority.{rights_of}
use Rattle.model.specs.Acceptance.ThreadInvariants.{runs, waits, tcb_of}
use Rattle.model.specs.Acceptance.WellFormed.{is_frame_type, is_notification_type, is_thread_type, is_untyped_type}
use Rattle.model.specs.Capabilities.Rights.{may_read, may_write}
use Rattle.model.specs.Capabilities.Slots.{capability_at}
use Rattle.model.specs.Images.Described.{Numbered, numbered_threads}
use Rattle.model.specs.Images.Image.{Image, Thread}
use Rattle.model.specs.Images.Places.{offset_of, type_at}
use Rattle.model.specs.Kernel.Interrupts.{Signal, binding}
use Rattle.model.specs.Kernel.Kinds.{object_named}
use Rattle.model.specs.Kernel.Messages.{buffer_of}
use Rattle.model.specs.Kernel.Retype.{NewObject, NewUntyped, NewThread, NewEndpoint, NewNotification, NewCNode, NewFrame, NewPageTable, NewRootTable}
use Rattle.model.specs.Kernel.State.{State, ThreadObject, ThreadState, thread_at}
use Rattle.headline.specs.facts.Standing.{AllStand}
use Rattle.headline.specs.integrity.Mapped.{AllMapAsHeld}
use Rattle.headline.specs.parts.Agreeing.{IsMemberOf}
use Rattle.headline.specs.parts.Given.{AllHoldGiven, IsGivenTo}
use Rattle.headline.specs.parts.Leaving.{ChangesQueue}
use Rattle.headline.specs.parts.Parts.{Part, changes, is_in, is_line_of, is_thread_in, takes, takes_nothing}
use Rattle.headline.proofs.Laws.{at-place, is-listed}
use Rattle.part_laws.specs.Agreeing.{IsByteOfPart, is_frame_byte, is_pool_byte, IsOfPart, is_thread, is_taken, is_pool, IsTaken}
use Rattle.part_laws.specs.Nothing.{HasNothing, IsNoneOf}
use Rattle.part_laws.specs.Using.{AllUseQueues, UsesQueue, of_image, of_pool}
use Rattle.part_laws.proofs.changes.Members.{listed-from, member-of, some-passes}
use Rattle.part_laws.proofs.outside.Blocks.{block-thread}
use Rattle.part_laws.proofs.outside.Listed.{is_queue}
use Rattle.part_laws.proofs.outside.Places.{CoveredBy, OwnPool, covered-first, one-object, own-pool, pool-owner, taken-plain}
use Rattle.part_laws.proofs.outside.Reaching.{LineListed, QueueListed, handler-listed, line-bound, line-changes, listed-changes, memory-pool, one-line}
use Rattle.part_laws.proofs.outside.Reaching.{queue-listed}
use Rattle.part_laws.proofs.outside.Storing.{StoresIn, in_frame, in_pool, buffer-changes, frame-covers, own-buffer, stores-at}

-- ---- what is taken is not changed from outside

-- what passes of all numbers passes of each
all-in : (p : ℕ → Bool) (k n o : ℕ) → k ≤ o → o < k + n → list_all p (range_with_len k n) ≡ true → p o ≡ true
all-in p k zero o low high all = let none : ⊥ = omega (arith, low, high) in absurd none
all-in p k (suc n) o low high all =
    let both = and_parts (p k) (list_all p (range_with_len (k + 1) n)) all in
    elim (eqb_tells o k) [
      | inl here ↦ ap p here.1 ∙ both.0
      | inr other ↦ all-in p (k + 1) n o (omega (arith, low, other.1)) (omega (arith, high)) both.1
    ]

-- what passes of all threads passes of each, with its number
pub all-numbered : (p : Thread → Bool) (k : ℕ) (threads : List Thread) (t : Numbered) → list_all p threads ≡ true
    → Contains (map (λ (u : ℕ × Thread). record { number = u.0; thread = u.1 }) (enumerate_from k threads)) t → p t.thread ≡ true
all-numbered p k [] t all (n, less, at) = let none : ⊥ = omega (arith, less) in absurd none
all-numbered p k (x ∷ xs) t all (zero, less, at) = sym (ap (λ (u : Numbered). p u.thread) at) ∙ (and_parts (p x) (list_all p xs) all).0
all-numbered p k (x ∷ xs) t all (suc n, less, at) = all-numbered p (k + 1) xs t (and_parts (p x) (list_all p xs) all).1 (n, omega (arith, less), at)

none-both : (own changed : Bool) → own ≡ true → changed ≡ true → not (own && changed) ≡ true → ⊥
none-both own changed takes_it changes_it apart = false≢true (sym (ap (λ b. not (b && changed)) takes_it ∙ ap not changes_it) ∙ apart)

-- a type of a queue
queue-kind : (o : Option NewObject) (kind : NewObject) → o ≡ Some kind → is_queue kind ≡ true → (is_untyped_type o ≡ false) × (is_thread_type o ≡ false)
queue-kind o NewEndpoint type queue = (ap is_untyped_type type, ap is_thread_type type)
queue-kind o NewNotification type queue = (ap is_untyped_type type, ap is_thread_type type)
queue-kind o (NewUntyped b) type queue = absurd (false≢true queue)
queue-kind o NewThread type queue = absurd (false≢true queue)
queue-kind o (NewCNode r) type queue = absurd (false≢true queue)
queue-kind o NewFrame type queue = absurd (false≢true queue)
queue-kind o NewPageTable type queue = absurd (false≢true queue)
queue-kind o NewRootTable type queue = absurd (false≢true queue)

-- untyped memory is no thread
untyped-thread : (o : Option NewObject) → is_untyped_type o ≡ true → is_thread_type o ≡ true → ⊥
untyped-thread (Some (NewUntyped b)) untyped thread = false≢true thread
untyped-thread (Some NewThread) untyped thread = false≢true untyped
untyped-thread None untyped thread = false≢true untyped
untyped-thread (Some NewEndpoint) untyped thread = false≢true untyped
untyped-thread (Some NewNotification) untyped thread = false≢true untyped
untyped-thread (Some (NewCNode r)) untyped thread = false≢true untyped
untyped-thread (Some NewFrame) untyped thread = false≢true untyped
untyped-thread (Some NewPageTable) untyped thread = false≢true untyped
untyped-thread (Some NewRootTable) untyped thread = false≢true untyped

-- ---- tests

pub decide : (b : Bool) → (b ≡ false → ⊥) → b ≡ true
decide true never = refl
decide false never = absurd (never refl)

pub decide-not : (b : Bool) → (b ≡ true → ⊥) → b ≡ false
decide-not false never = refl
decide-not true never = absurd (never refl)

-- ---- the whole

module _ (bytes : List ℕ) (image : Image) (accepted : IsAccepted bytes image) (part : Part) (nothing : takes_nothing image part ≡ true) where
  abbrev placed : StandApart image
  placed = stand-apart image accepted.spelled.fits accepted.formed

  -- nothing that a thread of the part takes is changed by one outside
  pub taken-apart : (t u : Numbered) (object : ℕ) → Contains (numbered_threads image) t → is_in part t.thread ≡ false → Contains (numbered_threads image) u
      → is_in part u.thread ≡ true → object < image.header.objects → takes image u.thread object ≡ true → changes image t.thread object ≡ true → ⊥
  unfolding takes_nothing
  taken-apart t u object listed isnt among is less takes_it changes_it =
      let free : Thread → Thread → Bool = λ own other. not (is_in part own) || is_in part other
      || list_all (λ o. not (takes image own o && changes image other o)) (range_with_len 0 image.header.objects) in
      let of_own = all-numbered (λ own. list_all (free own) image.threads) 0 image.threads u nothing among in
      let of_both : free u.thread t.thread ≡ true = all-numbered (free u.thread) 0 image.threads t of_own listed in
      let apart : list_all (λ o. not (takes image u.thread o && changes image t.thread o)) (range_with_len 0 image.header.objects) ≡ true =
      sym (ap (λ b. not b || is_in part t.thread
      || list_all (λ o. not (takes image u.thread o && changes image t.thread o)) (range_with_len 0 image.header.objects)) is
      ∙ ap (λ b. not true || b
      || list_all (λ o. not (takes image u.thread o && changes image t.thread o)) (range_with_len 0 image.header.objects)) isnt) ∙ of_both in
      let low : 0 ≤ object = omega arith in
      let high : object < 0 + image.header.objects = omega (arith, less) in
      none-both (takes image u.thread object) (changes image t.thread object) takes_it changes_it
      (all-in (λ o. not (takes image u.thread o && changes image t.thread o)) 0 image.header.objects object low high apart)

  -- the control block of a thread
  block-covers : (u : Numbered) → Contains (numbered_threads image) u → (offset : ℕ) → offset ≡ tcb_of image u → CoveredBy image offset u.thread.header.tcb
  block-covers u among offset at =
      let there = is-listed image u among in
      covered-first image u.thread.header.tcb offset
      ((is-fitting image accepted.spelled.fits).thread there.number u.thread there.listed).tcb at

  no-both : (t u : Numbered) → is_in part t.thread ≡ false → is_in part u.thread ≡ true → t ≡ u → ⊥
  no-both t u isnt is same = false≢true (sym isnt ∙ ap (λ (v : Numbered). is_in part v.thread) same ∙ is)

  -- ---- a thread outside

  module _ (t : Numbered) (listed : Contains (numbered_threads image) t) (outside : is_in part t.thread ≡ false) where
    taken-none : (object : ℕ) → IsTaken image part object → changes image t.thread object ≡ true → ⊥
    taken-none object taken changes_it =
        taken-apart t taken.thread object listed outside taken.member.listed taken.member.inside taken.inside taken.takes changes_it

    -- an object of the image that it changes is none of the part's, if it is neither untyped memory nor a thread
    pub none-changed : (offset object : ℕ) → CoveredBy image offset object → is_untyped_type (type_at image object) ≡ false
        → is_thread_type (type_at image object) ≡ false → changes image t.thread object ≡ true → IsOfPart image part offset → ⊥
    none-changed offset object covers no_untyped no_thread changes_it (is_thread u member at) =
        let same = one-object image placed offset object u.thread.header.tcb covers (block-covers u member.listed offset at) in
        false≢true (sym no_thread ∙ ap (λ (n : ℕ). is_thread_type (type_at image n)) same
        ∙ block-thread image accepted.spelled.fits accepted.formed u member.listed)
    none-changed offset object covers no_untyped no_thread changes_it (is_taken taken_one taken at) =
        let same = one-object image placed offset object taken_one covers (covered-first image taken_one offset taken.inside at) in
        taken-none taken_one taken (ap (changes image t.thread) (sym same) ∙ changes_it)
    none-changed offset object covers no_untyped no_thread changes_it (is_pool u member p) =
        let own = own-pool image u.thread offset 1 offset p (omega arith) (omega arith) in
        let same = one-object image placed offset object own.entry.source covers own.covers in
        false≢true (sym no_untyped ∙ ap (λ (n : ℕ). is_untyped_type (type_at image n)) same ∙ own.untyped)

    -- nor is what lies in its pools
    pub none-pooled : (offset : ℕ) → OwnPool image t.thread offset → IsOfPart image part offset → ⊥
    none-pooled offset own (is_thread u member at) =
        let same = one-object image placed offset own.entry.source u.thread.header.tcb own.covers (block-covers u member.listed offset at) in
        untyped-thread (type_at image own.entry.source) own.untyped (ap (λ (n : ℕ). is_thread_type (type_at image n)) same
        ∙ block-thread image accepted.spelled.fits accepted.formed u member.listed)
    none-pooled offset own (is_taken object taken at) =
        let same = one-object image placed offset own.entry.source object own.covers (covered-first image object offset taken.inside at) in
        false≢true (sym (taken-plain bytes image accepted taken.thread taken.member.listed object taken.inside taken.takes).0
        ∙ ap (λ (n : ℕ). is_untyped_type (type_at image n)) (sym same) ∙ own.untyped)
    none-pooled offset own (is_pool u member p) =
        no-both t u outside member.inside (pool-owner bytes image accepted t u offset listed member.listed own
        (own-pool image u.thread offset 1 offset p (omega arith) (omega arith)))

    -- the same of bytes
    pub no-byte-changed : (place object : ℕ) → CoveredBy image place object → is_frame_type (type_at image object) ≡ true
        → changes image t.thread object ≡ true → IsByteOfPart image part place → ⊥
    no-byte-changed place object covers frame changes_it (is_frame_byte taken_one taken kind low high) =
        let same = one-object image placed place object taken_one covers
        (frame-covers image place taken_one taken.inside (frame-type (type_at image taken_one) kind) low high) in
        taken-none taken_one taken (ap (changes image t.thread) (sym same) ∙ changes_it)
    no-byte-changed place object covers frame changes_it (is_pool_byte u member p) =
        let own = own-pool image u.thread place 1 place p (omega arith) (omega arith) in
        let same = one-object image placed place object own.entry.source covers own.covers in
        false≢true (sym (ap is_untyped_type (frame-type (type_at image object) frame)) ∙ ap (λ (n : ℕ). is_untyped_type (type_at image n)) same ∙ own.untyped)

    pub no-byte-pooled : (place : ℕ) → OwnPool image t.thread place → IsByteOfPart image part place → ⊥
    no-byte-pooled place own (is_frame_byte object taken kind low high) =
        let type = frame-type (type_at image object) kind in
        let same = one-object image placed place own.entry.source object own.covers (frame-covers image place object taken.inside type low high) in
        false≢true (sym (ap is_untyped_type type) ∙ ap (λ (n : ℕ). is_untyped_type (type_at image n)) (sym same) ∙ own.untyped)
    no-byte-pooled place own (is_pool_byte u member p) =
        no-both t u outside member.inside (pool-owner bytes image accepted t u place listed member.listed own
        (own-pool image u.thread place 1 place p (omega arith) (omega arith)))

    -- a queue that it uses is none of the part's
    pub none-used : (queue : ℕ) → UsesQueue image t.thread queue → IsOfPart image part queue → ⊥
    none-used queue (of_image object inside takes_it changes_it at) of =
        let plain = taken-plain bytes image accepted t listed object inside takes_it in
        none-changed queue object (covered-first image object queue inside at) plain.0 plain.1 changes_it of
    none-used queue (of_pool p) of = none-pooled queue (own-pool image t.thread queue 1 queue p (omega arith) (omega arith)) of

  -- a queue that a thread of the part uses is the part's
  pub used-of : (u : Numbered) → IsMemberOf image part u → (queue : ℕ) → UsesQueue image u.thread queue → IsOfPart image part queue
  used-of u member queue (of_image object inside takes_it changes_it at) =
      is_taken object (record { thread = u; member = member; inside = inside; takes = takes_it }) at
  used-of u member queue (of_pool p) = is_pool u member p

  -- a thread that lies there is of the part
  pub block-of : (u : Numbered) → Contains (numbered_threads image) u → is_in part u.thread ≡ false → IsOfPart image part (tcb_of image u) → ⊥
  block-of u among isnt (is_thread v member at) =
      let same = one-object image placed (tcb_of image u) u.thread.header.tcb v.thread.header.tcb (block-covers u among (tcb_of image u) refl)
      (block-covers v member.listed (tcb_of image u) at) in
      false≢true (sym isnt ∙ ap part same ∙ member.inside)
  block-of u among isnt (is_taken object taken at) =
      let same = one-object image placed (tcb_of image u) u.thread.header.tcb object (block-covers u among (tcb_of image u) refl)
      (covered-first image object (tcb_of image u) taken.inside at) in
      false≢true (sym (taken-plain bytes image accepted taken.thread taken.member.listed object taken.inside taken.takes).1
      ∙ ap (λ (n : ℕ). is_thread_type (type_at image n)) (sym same) ∙ block-thread image accepted.spelled.fits accepted.formed u among)
  block-of u among isnt (is_pool v member p) =
      let own = own-pool image v.thread (tcb_of image u) 1 (tcb_of image u) p (omega arith) (omega arith) in
      let same = one-object image placed (tcb_of image u) own.entry.source u.thread.header.tcb own.covers (block-covers u among (tcb_of image u) refl) in
      untyped-thread (type_at image own.entry.source) own.untyped (ap (λ (n : ℕ). is_thread_type (type_at image n)) same
      ∙ block-thread image accepted.spelled.fits accepted.formed u among)

  -- ---- in a state

  module _ (s : State) (labels : List Label) (all : AllStand image s labels) (given : AllHoldGiven image s) (mapped : AllMapAsHeld image s)
      (queues : AllUseQueues image s) (t : Numbered) (listed : Contains (numbered_threads image) t) (outside : is_in part t.thread ≡ false) where
    -- by a queue's capability
    by-queue : (queue : ℕ) (c : Cap) → ChangesQueue queue c → IsGivenTo image t.thread c → IsOfPart image part queue → ⊥
    by-queue queue c by g of = elim by.names [
      | inl endpoint ↦ by-kind NewEndpoint endpoint refl by.may
      | inr notification ↦ by-kind NewNotification notification refl by.may
    ]
      where
        by-right : (kind : NewObject) (right : ℕ) → (right ≡ 1) ⊎ (right ≡ 2) → QueueListed image t.thread queue kind right → ⊥
        by-right kind right which q =
            let kinds = queue-kind (type_at image q.entry.source) kind q.type q.is_one in
            none-changed t listed outside queue q.entry.source (covered-first image q.entry.source queue q.inside q.at) kinds.0 kinds.1
            (listed-changes image t.thread queue kind right which q) of

        by-either : (right : ℕ) → (right ≡ 1) ⊎ (right ≡ 2) → (k : NewObject) → object_named c ≡ Some (k, queue) → is_queue k ≡ true
            → not (bit_and (rights_of c).0 right == 0) ≡ true → ⊥
        by-either right which k named is_one may = elim (queue-listed image t.thread queue right c k named is_one may g) [
          | inl q ↦ by-right k right which q
          | inr p ↦ none-pooled t listed outside queue (own-pool image t.thread queue 1 queue p (omega arith) (omega arith)) of
        ]

        by-kind : (k : NewObject) → object_named c ≡ Some (k, queue) → is_queue k ≡ true → IsTrue (may_write (rights_of c)) ⊎ IsTrue (may_read (rights_of c))
            → ⊥
        by-kind k named is_one (inl writes) = by-either 1 (inl refl) k named is_one writes
        by-kind k named is_one (inr reads) = by-either 2 (inr refl) k named is_one reads

    held-full : {A : Type 0} (value : A) (what : Cap → Option A) → what Empty ≡ None → (c : Cap) → what c ≡ Some value → (c ≡ Empty → ⊥)
    held-full value what empty c is none = none-some value (sym (ap what none ∙ empty) ∙ is)

    pub none-of : (offset : ℕ) → IsOfPart image part offset → IsNoneOf image t s offset
    none-of offset of = record {
      named = λ h. by-queue offset (capability_at s.slots h.slot) h.such (given t h.slot listed h.own (no-empty (capability_at s.slots h.slot) h.such)) of;
      line = λ number badge h bound.
          let l = handler-listed image t.thread (capability_at s.slots h.slot) number h.such
          (given t h.slot listed h.own (λ empty. let e : InterruptHandler number ≡ Empty = sym h.such ∙ empty in cc)) in
          let fitting = is-fitting image accepted.spelled.fits in
          let fits = fitting.interrupt l.place l.line l.at in
          let at : offset ≡ offset_of image l.line.notification =
          ap (λ (o : Option Signal). option_map_or (λ b. b.notification) o 0)
          (sym bound ∙ ap (binding s) (sym l.is) ∙ line-bound bytes image accepted s labels all l.place l.line l.at) in
          let type = (are-formed image accepted.formed).interrupt l.place l.line l.at in
          let plain = notification-plain (type_at image l.line.notification) type in
          none-changed t listed outside offset l.line.notification (covered-first image l.line.notification offset fits.notification at) plain.0 plain.1
          (line-changes image t.thread number l) of;
      memory = λ h. none-pooled t listed outside offset
          (memory-pool image t.thread (capability_at s.slots h.slot) offset 1 offset
          (given t h.slot listed h.own (λ empty. let e : Untyped h.such.offset h.such.bits h.such.watermark ≡ Empty = sym h.such.is ∙ empty in cc)) h.such
          (omega arith) (omega arith)) of;
    }
      where
        no-empty : (c : Cap) → ChangesQueue offset c → c ≡ Empty → ⊥
        no-empty c by none = elim by.names [
          | inl endpoint ↦ held-full (NewEndpoint, offset) object_named refl c endpoint none
          | inr notification ↦ held-full (NewNotification, offset) object_named refl c notification none
        ]

        notification-plain : (o : Option NewObject) → not (is_notification_type o) ≡ false → (is_untyped_type o ≡ false) × (is_thread_type o ≡ false)
        notification-plain (Some NewNotification) is = (refl, refl)
        notification-plain None is = (refl, refl)
        notification-plain (Some (NewUntyped b)) is = absurd (false≢true (sym is))
        notification-plain (Some NewThread) is = absurd (false≢true (sym is))
        notification-plain (Some NewEndpoint) is = (refl, refl)
        notification-plain (Some (NewCNode r)) is = (refl, refl)
        notification-plain (Some NewFrame) is = (refl, refl)
        notification-plain (Some NewPageTable) is = (refl, refl)
        notification-plain (Some NewRootTable) is = (refl, refl)

    -- who has a byte of the part's in its buffer is of the part
    buffer-of : (place target index : ℕ) (u : Numbered) → Contains (numbered_threads image) u → is_in part u.thread ≡ false → IsByteOfPart image part place
        → buffer_of s (tcb_of image u) ≡ Some target → index < 2 ^ 12 → place ≡ target + index → ⊥
    buffer-of place target index u among isnt of has less at =
        let own = own-buffer bytes image s labels accepted all u among target has in
        let first = own.place in
        no-byte-changed u among isnt place u.thread.header.buffer
        (frame-covers image place u.thread.header.buffer own.inside (frame-type (type_at image u.thread.header.buffer) own.is_frame) (omega (arith, at, first))
        (omega (arith, at, first, less))) own.is_frame (buffer-changes image u.thread) of

    by-store : (place : ℕ) → IsByteOfPart image part place → StoresIn image t.thread place → ⊥
    by-store place of (in_frame f) = no-byte-changed t listed outside place f.object f.covers f.frame f.changes_it of
    by-store place of (in_pool own) = no-byte-pooled t listed outside place own of

    by-line : (line : ℕ) → is_line_of image part line ≡ true → (l : LineListed image t.thread line) → ⊥
    by-line line of l =
        let p = some-passes (λ (i : InterruptEntry). i.line == line && list_any (λ v. is_in part v && takes image v i.notification) image.threads)
        image.interrupts of in
        let i = p.entry in
        let parts = and_parts (i.line == line) (list_any (λ v. is_in part v && takes image v i.notification) image.threads) p.is in
        let fitting = is-fitting image accepted.spelled.fits in
        let same : i ≡ l.line = one-line image fitting p.place l.place i l.line p.at l.at (eqb-true i.line line parts.0 ∙ sym l.is) in
        let of_thread = some-passes (λ (v : Thread). is_in part v && takes image v i.notification) image.threads parts.1 in
        let both = and_parts (is_in part of_thread.entry) (takes image of_thread.entry i.notification) of_thread.is in
        let u = listed-from 0 image.threads of_thread.place of_thread.entry of_thread.at in
        taken-apart t (record { number = u.0; thread = of_thread.entry }) l.line.notification listed outside u.1 both.0
        (fitting.interrupt l.place l.line l.at).notification
        (ap (λ (j : InterruptEntry). takes image of_thread.entry j.notification) (sym same) ∙ both.1) (line-changes image t.thread line l)

    -- whom it may reply to is not of the part
    no-right : (caller : ℕ) → (thread_at s (tcb_of image t)).caller ≡ Some caller → is_thread_in image part caller ≡ true → ⊥
    no-right caller right inside = elim (all.stand t listed) [
      | runs own point state is run at within ↦ by own is
      | waits own point state is waiting at there none ↦ by own is
    ]
      where
        by : (own : ThreadState) → s.objects (tcb_of image t) ≡ Some (ThreadObject own) → ⊥
        by own is =
            let shares = queues.callers t own caller listed is (ap (λ (u : ThreadState). u.caller) (sym (at-place s (tcb_of image t) own is)) ∙ right) in
            let m = member-of image part caller inside in
            let same = one-object image placed caller shares.thread.thread.header.tcb m.thread.thread.header.tcb
            (block-covers shares.thread shares.listed caller shares.is) (block-covers m.thread m.listed caller (sym m.block)) in
            let there : is_in part shares.thread.thread ≡ true = ap part same ∙ m.inside in
            none-used t listed outside shares.queue shares.here
            (used-of shares.thread (record { listed = shares.listed; inside = there }) shares.queue shares.there)

    pub has-nothing : HasNothing image part t s
    has-nothing = record {
      others = record {
        waits = λ u own queue among inside is blocked.
            none-of queue (used-of u (record { listed = among; inside = inside }) queue (queues.waits u own queue among is blocked));
        right = λ caller right. decide-not (is_thread_in image part caller) (no-right caller right);
      };
      objects = λ offset of. none-of offset of;
      threads = λ u among of. decide (is_in part u.thread) (λ isnt. block-of u among isnt of);
      stores = λ place address of is. by-store place of (stores-at bytes image s labels accepted all t listed given mapped place address is);
      memory = λ place of h. no-byte-pooled t listed outside place
          (memory-pool image t.thread (capability_at s.slots h.slot) place 1 place
          (given t h.slot listed h.own (λ empty. let e : Untyped h.such.offset h.such.bits h.such.watermark ≡ Empty = sym h.such.is ∙ empty in cc)) h.such
          (omega arith) (omega arith)) of;
      buffers = λ place target index u among of has less at. decide (is_in part u.thread) (λ isnt. buffer-of place target index u among isnt of has less at);
      lines = λ line of h. by-line line of
          (handler-listed image t.thread (capability_at s.slots h.slot) line h.such
          (given t h.slot listed h.own (λ empty. let e : InterruptHandler line ≡ Empty = sym h.such ∙ empty in cc)));
    }
