-- An event that is not the part's own keeps that the whole agrees with the part alone: a tick in which no thread of the part runs, an interrupt of another
-- line, and what the world writes elsewhere.
use Rattle.std.proofs.Common.{ℕ, ◌≡◌, ◌≢◌, ◌∙◌, ◌==◌, ◌<◌, ◌++◌, ◌&&◌, inl, inr, Bool, true, false, cond, if◌then◌else◌, List, [], ◌∷◌}
use Rattle.std.proofs.Common.{Option, Some, None, bit_or, filter, refl, sym, ap, ap₂, subst, arith}
use Rattle.std.specs.Prelude.{nat_lt}
use Rattle.std.specs.Option.{option_map_or}
use Rattle.std.specs.List.{list_any}
use Rattle.std.proofs.lemmas.Bool.{cases_lt, eq-eqb, false≢true, ltb-false, ne_eqb, not-false}
use Rattle.std.proofs.lemmas.List.Elements.{filter-append}
use Rattle.std.proofs.lemmas.Option.{none-some, same_Some}
use Rattle.format_laws.proofs.Laws.{is-fitting}
use Rattle.soundness.specs.boot_laws.Standing.{StandApart}
use Rattle.soundness.proofs.Laws.{are-formed, current-runs, stand-apart, thread-kind}
use Rattle.model.specs.declared.entries.InterruptEntry.{InterruptEntry}
use Rattle.model.specs.declared.labels.Label.{Label}
use Rattle.model.specs.Acceptance.Accepted.{IsAccepted}
use Rattle.model.specs.Acceptance.WellFormed.{is_notification_type, is_thread_type, is_untyped_type}
use Rattle.model.specs.Images.Image.{Image}
use Rattle.model.specs.Images.Places.{offset_of, type_at}
use Rattle.model.specs.Kernel.Interrupts.{Signal, binding, interrupt, raise, with_pending}
use Rattle.model.specs.Kernel.Messages.{a0, passes, signals, with_registers}
use Rattle.model.specs.Kernel.Retype.{NewObject, NewUntyped, NewThread, NewEndpoint, NewNotification, NewCNode, NewFrame, NewPageTable, NewRootTable}
use Rattle.model.specs.Kernel.Scheduling.{current, full_slice, head_of, is_runnable}
use Rattle.model.specs.Kernel.Soundness.{waiting_at}
use Rattle.model.specs.Kernel.State.{State, Inactive, Runnable, Blocked, Object, ThreadObject, EndpointObject, NotificationObject, CNodeObject, FrameObject}
use Rattle.model.specs.Kernel.State.{PageTableObject, RootTableObject, NotificationState, ThreadState, as_notification, as_thread, new_notification}
use Rattle.model.specs.Kernel.State.{new_thread}
use Rattle.model.specs.Kernel.State.{notification_at, thread_at, with_notification, with_thread}
use Rattle.model.specs.Machine.Effects.{advanced}
use Rattle.model.specs.Machine.ProgramMemory.{write}
use Rattle.headline.specs.authority.Events.{InterruptReady, stays, adds, IsDelivered, WithinInterrupt, WithinTick}
use Rattle.headline.specs.facts.Standing.{AllStand, IsControlBlock}
use Rattle.headline.specs.parts.Parts.{Part, is_in, is_line_of, is_thread_in, takes, takes_nothing}
use Rattle.headline.proofs.Laws.{first-waits, is-listed}
use Rattle.part_laws.specs.Agreeing.{AgreeFor, IsOfPart, is_thread, is_taken, is_pool, IsTaken}
use Rattle.part_laws.specs.Using.{AllUseQueues}
use Rattle.part_laws.proofs.changes.Members.{any-at, filter-same, is-member, member-of}
use Rattle.part_laws.proofs.outside.Blocks.{block-thread}
use Rattle.part_laws.proofs.outside.Lines.{bound-so}
use Rattle.part_laws.proofs.outside.Nothing.{block-of, decide, decide-not, used-of}
use Rattle.part_laws.proofs.outside.Places.{CoveredBy, covered-first, one-object, own-pool}

-- ---- what a signal leaves

thread-leaves : (s : State) (x : ℕ) (own : ThreadState) (offset : ℕ) → (offset == x) ≡ false → (with_thread s x own).objects offset ≡ s.objects offset
thread-leaves s x own offset apart = ap (λ (b : Bool). if b then Some (ThreadObject own) else s.objects offset) apart

pub signals-leave : (s : State) (n badge : ℕ) (now : NotificationState) (ws : List ℕ) (offset : ℕ) → (offset == n) ≡ false
    → ((w : ℕ) (others : List ℕ) → ws ≡ w ∷ others → (offset == w) ≡ false) → (signals s n badge now ws).objects offset ≡ s.objects offset
signals-leave s n badge now [] offset apart others =
    ap (λ (b : Bool). if b then Some (NotificationObject (record now { word = bit_or now.word badge })) else s.objects offset) apart
signals-leave s n badge now (w ∷ rest) offset apart others =
    let no = others w rest refl in
    let left : State = with_notification s n (record now { waiters = rest }) in
    let written : State = with_registers left w (write (thread_at left w).registers a0 badge) in
    let passed : State = passes written w in
    thread-leaves passed w (record (thread_at passed w) { status = Runnable; slice = full_slice }) offset no
    ∙ thread-leaves written w (record (thread_at written w) { registers = advanced (thread_at written w).registers }) offset no
    ∙ thread-leaves left w (record (thread_at left w) { registers = write (thread_at left w).registers a0 badge }) offset no
    ∙ ap (λ (b : Bool). if b then Some (NotificationObject (record now { waiters = rest })) else s.objects offset) apart

-- a notification of the image that is the part's is taken
pub taken-notification : (bytes : List ℕ) (image : Image) → IsAccepted bytes image → (part : Part) (object : ℕ) → object < image.header.objects
    → IsOfPart image part (offset_of image object) → is_notification_type (type_at image object) ≡ true → IsTaken image part object
taken-notification bytes image accepted part object inside of type = by of
  where
    apart : StandApart image
    apart = stand-apart image accepted.spelled.fits accepted.formed

    here : CoveredBy image (offset_of image object) object
    here = covered-first image object (offset_of image object) inside refl

    no-thread : (o : Option NewObject) → is_notification_type o ≡ true → is_thread_type o ≡ true → ⊥
    no-thread (Some NewThread) one two = false≢true one
    no-thread (Some NewNotification) one two = false≢true two
    no-thread None one two = false≢true one
    no-thread (Some (NewUntyped b)) one two = false≢true one
    no-thread (Some NewEndpoint) one two = false≢true one
    no-thread (Some (NewCNode r)) one two = false≢true one
    no-thread (Some NewFrame) one two = false≢true one
    no-thread (Some NewPageTable) one two = false≢true one
    no-thread (Some NewRootTable) one two = false≢true one

    no-untyped : (o : Option NewObject) → is_notification_type o ≡ true → is_untyped_type o ≡ true → ⊥
    no-untyped (Some (NewUntyped b)) one two = false≢true one
    no-untyped (Some NewNotification) one two = false≢true two
    no-untyped None one two = false≢true one
    no-untyped (Some NewThread) one two = false≢true one
    no-untyped (Some NewEndpoint) one two = false≢true one
    no-untyped (Some (NewCNode r)) one two = false≢true one
    no-untyped (Some NewFrame) one two = false≢true one
    no-untyped (Some NewPageTable) one two = false≢true one
    no-untyped (Some NewRootTable) one two = false≢true one

    by : IsOfPart image part (offset_of image object) → IsTaken image part object
    by (is_thread u member at) =
        let there = is-listed image u member.listed in
        let same = one-object image apart (offset_of image object) object u.thread.header.tcb here
        (covered-first image u.thread.header.tcb (offset_of image object)
        ((is-fitting image accepted.spelled.fits).thread there.number u.thread there.listed).tcb
        at) in
        absurd (no-thread (type_at image object) type (ap (λ (n : ℕ). is_thread_type (type_at image n)) same
        ∙ block-thread image accepted.spelled.fits accepted.formed u member.listed))
    by (is_taken other taken at) =
        let same = one-object image apart (offset_of image object) object other here (covered-first image other (offset_of image object) taken.inside at) in
        subst (IsTaken image part) (sym same) taken
    by (is_pool u member p) =
        let own = own-pool image u.thread (offset_of image object) 1 (offset_of image object) p (omega arith) (omega arith) in
        let same = one-object image apart (offset_of image object) object own.entry.source here own.covers in
        absurd (no-untyped (type_at image object) type (ap (λ (n : ℕ). is_untyped_type (type_at image n)) same ∙ own.untyped))

module _ (bytes : List ℕ) (image : Image) (accepted : IsAccepted bytes image) (part : Part) (nothing : takes_nothing image part ≡ true)
    (s : State) (labels : List Label) (all : AllStand image s labels) where
  abbrev in_part : ℕ → Bool
  in_part = is_thread_in image part

  -- who runs is a thread of the image
  running-block : (x : ℕ) → current s ≡ Some x → IsControlBlock image x
  running-block x now =
      let running = current-runs s all.sound.threads x now in
      let was = thread-kind (s.objects x) running.kind in
      let run : is_runnable was.0.status ≡ true =
      ap (λ (o : Option Object). is_runnable (option_map_or (λ (u : ThreadState). u) (as_thread o) new_thread).status) (sym was.1) ∙ running.runs in
      elim (all.others x was.0 was.1) [
        | inr block ↦ block
        | inl rests ↦ absurd (false≢true (sym (ap is_runnable rests) ∙ run))
      ]

  -- a thread of the image that lies where the part has something is the part's
  pub block-in : (x : ℕ) → IsControlBlock image x → IsOfPart image part x → in_part x ≡ true
  block-in x block of =
      let inside : is_in part block.thread.thread ≡ true = decide (is_in part block.thread.thread) (λ isnt.
      block-of bytes image accepted part nothing block.thread block.listed isnt (subst (IsOfPart image part) block.is of)) in
      ap in_part block.is ∙ is-member image part block.thread block.listed inside

  -- ---- ticks

  module _ (single after : State) (agree : AgreeFor image part s single) where
    pub other-tick : WithinTick s after → option_map_or in_part (current s) false ≡ false → AgreeFor image part after single
    other-tick within outside = record {
      objects = λ offset of. same-object offset of ∙ agree.objects offset of;
      bytes = λ place of. within.store.bytes place ∙ agree.bytes place of;
      slots = λ slot of. within.store.slots slot ∙ agree.slots slot of;
      masked = λ line of. within.masked line ∙ agree.masked line of;
      pending = λ line of. within.pending line ∙ agree.pending line of;
      ready = λ priority. agree.ready priority ∙ sym (same-ready priority (current s) refl);
    }
      where
        none-inside : (x : ℕ) → current s ≡ Some x → in_part x ≡ false
        none-inside x now = ap (λ (o : Option ℕ). option_map_or in_part o false) (sym now) ∙ outside

        same-object : (offset : ℕ) → IsOfPart image part offset → after.objects offset ≡ s.objects offset
        same-object offset of = within.others offset (λ now.
            false≢true (sym (none-inside offset now) ∙ block-in offset (running-block offset now) of))

        nothing-more : (xs : List ℕ) → xs ++ [] ≡ xs
        nothing-more [] = refl
        nothing-more (x ∷ xs) = ap (λ (rest : List ℕ). x ∷ rest) (nothing-more xs)

        same-ready : (priority : ℕ) (o : Option ℕ) → current s ≡ o → filter in_part (after.ready priority) ≡ filter in_part (s.ready priority)
        same-ready priority None now = ap (filter in_part) (within.idle now priority)
        same-ready priority (Some x) now =
            filter-same in_part x (s.ready priority) (after.ready priority) [] (none-inside x now)
            (within.ready x priority now ∙ sym (nothing-more _)) (λ y there. let inside = there.1 in absurd (omega (arith, inside)))

  -- ---- interrupts

  -- a line that is bound to what is the part's is its own
  own-line : (number : ℕ) → number < 64 → (bound : Signal) → binding s number ≡ Some bound → IsOfPart image part bound.notification
      → is_line_of image part number ≡ true
  own-line number few bound is of =
      let b = bound-so bytes image accepted s labels all number few bound is in
      let type = (are-formed image accepted.formed).interrupt b.place b.line b.at in
      let fitting = is-fitting image accepted.spelled.fits in
      let inside = (fitting.interrupt b.place b.line b.at).notification in
      let taken = taken-notification bytes image accepted part b.line.notification inside (subst (IsOfPart image part) b.object of)
      (not-false (is_notification_type (type_at image b.line.notification)) type) in
      let among = is-listed image taken.thread taken.member.listed in
      any-at (λ (i : InterruptEntry). i.line == number && list_any (λ v. is_in part v && takes image v i.notification) image.threads) image.interrupts
      b.place b.line b.at
      (ap₂ (λ (x y : Bool). x && y) (eq-eqb b.line.line number b.is)
      (any-at (λ v. is_in part v && takes image v b.line.notification) image.threads among.number taken.thread.thread among.listed
      (ap₂ (λ (x y : Bool). x && y) taken.member.inside taken.takes)))

  module _ (single : State) (agree : AgreeFor image part s single) (queues : AllUseQueues image s) (number : ℕ)
      (other : is_line_of image part number ≡ false) where
    -- neither the notification nor who waits there is the part's
    apart-notification : (few : number < 64) (bound : Signal) → binding s number ≡ Some bound → IsOfPart image part bound.notification → ⊥
    apart-notification few bound is of = false≢true (sym other ∙ own-line number few bound is of)

    apart-waiter : (few : number < 64) (bound : Signal) → binding s number ≡ Some bound → (w : ℕ) (others : List ℕ)
        → (notification_at s bound.notification).waiters ≡ w ∷ others → IsOfPart image part w → ⊥
    apart-waiter few bound is w others list of =
        let waits = first-waits s all.sound bound.notification w others (waiting-list (s.objects bound.notification) list) in
        let block : IsControlBlock image w = elim (all.others w waits.own waits.is) [
          | inr block ↦ block
          | inl rests ↦ absurd (let e : Inactive ≡ Blocked bound.notification = sym rests ∙ waits.blocked in cc)
        ] in
        let inside : is_in part block.thread.thread ≡ true = decide (is_in part block.thread.thread) (λ isnt.
        block-of bytes image accepted part nothing block.thread block.listed isnt (subst (IsOfPart image part) block.is of)) in
        apart-notification few bound is
        (used-of bytes image accepted part nothing block.thread (record { listed = block.listed; inside = inside }) bound.notification
        (queues.waits block.thread waits.own bound.notification block.listed (ap s.objects (sym block.is) ∙ waits.is) waits.blocked))
      where
        waiting-list : (o : Option Object) → (option_map_or (λ (n : NotificationState). n) (as_notification o) new_notification).waiters ≡ w ∷ others
            → waiting_at o ≡ w ∷ others
        waiting-list None none = none
        waiting-list (Some (ThreadObject x)) none = none
        waiting-list (Some (EndpointObject e)) none = absurd (let clash : ◌≡◌ {A = List ℕ} [] (w ∷ others) = none in cc)
        waiting-list (Some (NotificationObject n)) is = is
        waiting-list (Some (CNodeObject r)) none = none
        waiting-list (Some FrameObject) none = none
        waiting-list (Some PageTableObject) none = none
        waiting-list (Some RootTableObject) none = none

    same-object : (offset : ℕ) → IsOfPart image part offset → (raise s number).objects offset ≡ s.objects offset
    same-object offset of = by (nat_lt 63 number) refl (s.masked number) (binding s number) refl
      where
        by : (far : Bool) → nat_lt 63 number ≡ far → (bit : Bool) (found : Option Signal) → binding s number ≡ found
            → (if far then s else if bit then with_pending s number true
            else option_map_or (interrupt s number) found (with_pending s number true)).objects offset ≡ s.objects offset
        by true far bit found is = refl
        by false near true found is = refl
        by false near false None is = refl
        by false near false (Some bound) is =
            let few : number < 64 = (let least = ltb-false 63 number near in omega (arith, least)) in
            let apart : (offset == bound.notification) ≡ false =
            ne_eqb offset bound.notification (λ same. apart-notification few bound is (subst (IsOfPart image part) same of)) in
            by-list few apart (notification_at s bound.notification).waiters refl
          where
            by-list : number < 64 → (offset == bound.notification) ≡ false → (ws : List ℕ) → (notification_at s bound.notification).waiters ≡ ws
                → (signals s bound.notification bound.badge (notification_at s bound.notification) ws).objects offset ≡ s.objects offset
            by-list few apart ws list =
                signals-leave s bound.notification bound.badge (notification_at s bound.notification) ws offset apart
                (λ w others is_list. ne_eqb offset w (λ same. apart-waiter few bound is w others (list ∙ is_list) (subst (IsOfPart image part) same of)))

    pub other-interrupt : WithinInterrupt number s (raise s number) → AgreeFor image part (raise s number) single
    other-interrupt within = record {
      objects = λ offset of. same-object offset of ∙ agree.objects offset of;
      bytes = λ place of. within.store.bytes place ∙ agree.bytes place of;
      slots = λ slot of. within.store.slots slot ∙ agree.slots slot of;
      masked = λ line of. within.masked line (other-line line of) ∙ agree.masked line of;
      pending = λ line of. within.pending line (other-line line of) ∙ agree.pending line of;
      ready = λ priority. agree.ready priority ∙ sym (same-ready priority (within.ready priority));
    }
      where
        other-line : (line : ℕ) → is_line_of image part line ≡ true → line ≢ number
        other-line line of same = false≢true (sym other ∙ ap (is_line_of image part) (sym same) ∙ of)

        nothing-more : (xs : List ℕ) → xs ++ [] ≡ xs
        nothing-more [] = refl
        nothing-more (x ∷ xs) = ap (λ (rest : List ℕ). x ∷ rest) (nothing-more xs)

        head-list : (ws : List ℕ) (w : ℕ) → head_of ws ≡ Some w → (others : List ℕ) × (ws ≡ w ∷ others)
        head-list [] w is = absurd (none-some w is)
        head-list (x ∷ xs) w is = (xs, ap (λ (y : ℕ). y ∷ xs) (same_Some x w is))

        waiter-outside : (few : number < 64) (notification badge w : ℕ) → IsDelivered number s notification badge
            → head_of (notification_at s notification).waiters ≡ Some w
            → in_part w ≡ false
        waiter-outside few notification badge w delivered head = decide-not (in_part w) (λ inside.
            let list = head-list (notification_at s notification).waiters w head in
            let m = member-of image part w inside in
            let bound : Signal = record { notification = notification; badge = badge } in
            apart-waiter few bound delivered.bound w list.0 list.1 (is_thread m.thread (record { listed = m.listed; inside = m.inside }) (sym m.block)))

        same-ready : (priority : ℕ) → InterruptReady number s (raise s number) priority
            → filter in_part ((raise s number).ready priority) ≡ filter in_part (s.ready priority)
        same-ready priority (stays same) = ap (filter in_part) same
        same-ready priority (adds notification badge w delivered head woke list) = elim (cases_lt 63 number) [
          | inl far ↦ ap (λ (x : State). filter in_part (x.ready priority)) (within.beyond far)
          | inr near ↦
              ap (filter in_part) list ∙ filter-append in_part (s.ready priority) (w ∷ [])
              ∙ ap (λ b. filter in_part (s.ready priority) ++ cond b (w ∷ []) [])
              (waiter-outside (omega (arith, near)) notification badge w delivered head)
              ∙ nothing-more (filter in_part (s.ready priority))
        ]
