-- A part above all others: where one of its threads may run, one of them does. So an event that is not the part's own leaves the part alone as it is, too.
use Rattle.std.proofs.Common.{ℕ, ◌≡◌, ◌∙◌, ◌==◌, ◌+◌, ◌<◌, ◌&&◌, ◌||◌, inl, inr, Bool, true, false, not, nat_lt, if◌then◌else◌, List, filter}
use Rattle.std.proofs.Common.{Option, Some, None, refl, sym, ap, subst, arith}
use Rattle.std.specs.Prelude.{Contains}
use Rattle.std.specs.List.{list_all, list_any}
use Rattle.std.specs.Option.{option_map_or}
use Rattle.std.proofs.lemmas.Bool.{eq-eqb, false≢true, leb-true, ltb-true, ne_eqb}
use Rattle.std.proofs.lemmas.Bool.Decides.{eqb_tells}
use Rattle.soundness.proofs.Laws.{current-runs, thread-kind, written-beside}
use Rattle.model.specs.declared.events.Event.{Event}
use Rattle.model.specs.declared.events.Event.TheVariants.{Step, Tick, Irq, Write, Read}
use Rattle.model.specs.declared.labels.Label.{Label}
use Rattle.model.specs.declared.labels.Label.TheVariants.{Idle, Ran, Showed}
use Rattle.model.specs.Acceptance.Authority.{self_of}
use Rattle.model.specs.Acceptance.Devices.{KeepsDevices}
use Rattle.model.specs.Acceptance.ThreadInvariants.{tcb_of}
use Rattle.model.specs.Images.Described.{Numbered, numbered_threads}
use Rattle.model.specs.Images.Image.{Image, Thread}
use Rattle.model.specs.Kernel.Interrupts.{raise}
use Rattle.model.specs.Kernel.Scheduling.{current, is_runnable, ticked}
use Rattle.model.specs.Kernel.Soundness.{IsSound}
use Rattle.model.specs.Kernel.State.{Object, State, ThreadState, as_thread, new_thread, thread_at}
use Rattle.model.specs.Kernel.Steps.{memory_base, place_of, ran, registers_of, runs, step}
use Rattle.model.specs.Kernel.World.{word_seen, world_writes}
use Rattle.headline.specs.authority.Events.{WithinInterrupt}
use Rattle.headline.specs.facts.Standing.{AllStand}
use Rattle.headline.specs.parts.Agreeing.{IsSlotOfPart}
use Rattle.headline.specs.parts.Parts.{Part, alone, is_above, is_in, is_line_of, is_own, is_thread_in, without_others}
use Rattle.headline.proofs.Laws.{idle-is}
use Rattle.response.specs.Laws.{RunsOfLevel}
use Rattle.part_laws.specs.Agreeing.{AgreeFor, IsByteOfPart, IsOfPart, is_thread}
use Rattle.part_laws.specs.Both.{BothStand}
use Rattle.part_laws.proofs.changes.Members.{is-member, member-of}
use Rattle.part_laws.proofs.outside.Nothing.{all-numbered}
use Rattle.part_laws.proofs.outside.OtherEvents.{other-interrupt}
use Rattle.part_laws.proofs.outside.World.{other-write}
use Rattle.part_laws.proofs.promises.AloneItself.{inside-same, line-same, of-single, ready-inside, runner-inside, takes-none}

-- ---- who runs

-- where a thread of the image may run, one that is not below it does
abbrev pub HighestRuns : Image → State → Type 0
HighestRuns image s =
    (u : Numbered) → Contains (numbered_threads image) u → is_runnable (thread_at s (tcb_of image u)).status ≡ true
    → RunsOfLevel image u.thread.header.priority s

above-other : (image : Image) (part : Part) → is_above image part ≡ true → (u w : Numbered) → Contains (numbered_threads image) u
    → Contains (numbered_threads image) w → is_in part u.thread ≡ true → is_in part w.thread ≡ false → w.thread.header.priority < u.thread.header.priority
unfolding is_above
above-other image part above u w listed among own isnt =
    let test : Thread → Thread → Bool = λ a b. not (is_in part a) || is_in part b || nat_lt b.header.priority a.header.priority in
    let of_own = all-numbered (λ a. list_all (test a) image.threads) 0 image.threads u above listed in
    let of_both : test u.thread w.thread ≡ true = all-numbered (test u.thread) 0 image.threads w of_own among in
    let less = nat_lt w.thread.header.priority u.thread.header.priority in
    ltb-true w.thread.header.priority u.thread.header.priority
    (sym (ap (λ b. not b || is_in part w.thread || less) own ∙ ap (λ b. not true || b || less) isnt) ∙ of_both)

-- ---- what an event leaves to the part alone

record LeavesIt (image : Image) (part : Part) (t after : State) : Type 0 where
  pub objects : (offset : ℕ) → IsOfPart image part offset → after.objects offset ≡ t.objects offset
  pub bytes : (place : ℕ) → IsByteOfPart image part place → after.bytes place ≡ t.bytes place
  pub slots : (slot : ℕ) → IsSlotOfPart image part slot → after.slots slot ≡ t.slots slot
  pub masked : (line : ℕ) → is_line_of image part line ≡ true → after.masked line ≡ t.masked line
  pub pending : (line : ℕ) → is_line_of image part line ≡ true → after.pending line ≡ t.pending line
  pub ready : (priority : ℕ) → after.ready priority ≡ t.ready priority

still-agrees : (image : Image) (part : Part) (s t after : State) → AgreeFor image part s t → LeavesIt image part t after → AgreeFor image part s after
still-agrees image part s t after agree leaves = record {
  objects = λ offset of. agree.objects offset of ∙ sym (leaves.objects offset of);
  bytes = λ place of. agree.bytes place of ∙ sym (leaves.bytes place of);
  slots = λ slot of. agree.slots slot of ∙ sym (leaves.slots slot of);
  masked = λ line of. agree.masked line of ∙ sym (leaves.masked line of);
  pending = λ line of. agree.pending line of ∙ sym (leaves.pending line of);
  ready = λ priority. leaves.ready priority ∙ agree.ready priority;
}

same-sum : (m a b : ℕ) → (m + a == m + b) ≡ (a == b)
same-sum m a b = elim (eqb_tells a b) [
  | inl here ↦ eq-eqb (m + a) (m + b) (ap (λ (n : ℕ). m + n) here.1) ∙ sym here.0
  | inr apart ↦ ne_eqb (m + a) (m + b) (λ same. apart.1 (omega (arith, same))) ∙ sym apart.0
]

module _ (image : Image) (part : Part) (above : is_above image part ≡ true) (s t : State) (both : BothStand image part s t) (agree : AgreeFor image part s t)
    (highest : HighestRuns image s) where
  abbrev in_part : ℕ → Bool
  in_part = is_thread_in image part

  abbrev single : Image
  single = alone image part

  -- where no thread of the part runs in the whole, none may in the part alone
  module _ (outside : option_map_or in_part (current s) false ≡ false) where
    none-runs : (x : ℕ) → current t ≡ Some x → ⊥
    none-runs x now =
        let running = current-runs t both.alone_stand.sound.threads x now in
        let was = thread-kind (t.objects x) running.kind in
        let status_of : Option Object → Bool = λ o. is_runnable (option_map_or (λ (u : ThreadState). u) (as_thread o) new_thread).status in
        let run : is_runnable was.0.status ≡ true = ap status_of (sym was.1) ∙ running.runs in
        let m = member-of image part x (runner-inside image part t both.alone_labels both.alone_stand x was.0 was.1 run) in
        let of : IsOfPart image part x = is_thread m.thread (record { listed = m.listed; inside = m.inside }) (sym m.block) in
        let may : is_runnable (thread_at s (tcb_of image m.thread)).status ≡ true =
        ap (λ (n : ℕ). is_runnable (thread_at s n).status) m.block ∙ ap status_of (agree.objects x of) ∙ running.runs in
        let top = highest m.thread m.listed may in
        elim (is_in part top.thread.thread) as (λ b. is_in part top.thread.thread ≡ b → ⊥) [
          | true ↦ λ here.
              false≢true (sym outside ∙ ap (λ (o : Option ℕ). option_map_or in_part o false) top.runs ∙ is-member image part top.thread top.listed here)
          | false ↦ λ isnt.
              let high = leb-true m.thread.thread.header.priority top.thread.thread.header.priority top.level in
              let less = above-other image part above m.thread top.thread m.listed top.listed m.inside isnt in
              omega (arith, high, less)
        ] refl

    pub nobody-runs : current t ≡ None
    nobody-runs = by (current t) refl
      where
        by : (o : Option ℕ) → current t ≡ o → o ≡ None
        by None now = refl
        by (Some x) now = absurd (none-runs x now)

    -- and the step is none of the part's
    step-unseen : without_others image part (step s Step).1 ≡ Idle
    unfolding step
    step-unseen = by (current s) refl
      where
        by : (o : Option ℕ) → current s ≡ o → without_others image part (option_map_or (ran s) o (s, Idle)).1 ≡ Idle
        by None now = refl
        by (Some x) now =
            let apart : in_part x ≡ false = ap (λ (o : Option ℕ). option_map_or in_part o false) (sym now) ∙ outside in
            let none : list_any (λ v. is_in part v && memory_base + self_of image v == memory_base + x) image.threads ≡ false =
            (λ i. list_any (λ v. is_in part v && same-sum memory_base (self_of image v) x i) image.threads) ∙ apart in
            ap (λ (b : Bool). if b then Ran (memory_base + x) (registers_of s x).pc (runs s x).1 else Idle) none

  -- what the world writes elsewhere
  elsewhere : (address word : ℕ) → KeepsDevices image (Write address word) → is_own image part s (Write address word) ≡ false
      → LeavesIt image part t (world_writes t (place_of address) word)
  elsewhere address word keeps outside =
      let b = written-beside t (place_of address) word in
      let itself : AgreeFor image part t t = record {
        objects = λ offset of. refl;
        bytes = λ place of. refl;
        slots = λ slot of. refl;
        masked = λ line of. refl;
        pending = λ line of. refl;
        ready = λ priority. sym (ready-inside image part t both.alone_labels both.alone_stand priority);
      } in
      let there = other-write both.bytes image both.accepted part (place_of address) t t itself keeps outside word in
      record {
        objects = there.objects;
        bytes = there.bytes;
        slots = there.slots;
        masked = there.masked;
        pending = there.pending;
        ready = λ priority. ap (λ (lists : ℕ → List ℕ). lists priority) b.ready;
      }

  -- an interrupt of another line
  module _ (number : ℕ) (outside : is_line_of image part number ≡ false) (within : WithinInterrupt number t (raise t number)) (later : List Label)
      (behind : AllStand single (raise t number) later) where
    same-test : (threads : List ℕ) → filter (is_thread_in single part) threads ≡ filter in_part threads
    same-test threads = λ i. filter (λ x. inside-same image part x i) threads

    other-line : LeavesIt image part t (raise t number)
    other-line =
        let itself : AgreeFor single part t t = record {
          objects = λ offset of. refl;
          bytes = λ place of. refl;
          slots = λ slot of. refl;
          masked = λ line of. refl;
          pending = λ line of. refl;
          ready = λ priority. sym (same-test (t.ready priority) ∙ ready-inside image part t both.alone_labels both.alone_stand priority);
        } in
        let there = other-interrupt both.alone_bytes single both.alone_accepted part (takes-none image part) t both.alone_labels both.alone_stand t itself
        both.alone_queues number (line-same image part number ∙ outside) within in
        record {
          objects = λ offset of. there.objects offset (of-single image part offset of);
          bytes = λ place of. within.store.bytes place;
          slots = λ slot of. within.store.slots slot;
          masked = λ line of. there.masked line (line-same image part line ∙ of);
          pending = λ line of. there.pending line (line-same image part line ∙ of);
          ready = λ priority.
              sym (same-test ((raise t number).ready priority) ∙ ready-inside image part (raise t number) later behind priority)
              ∙ sym (there.ready priority);
        }

  -- ---- each event that is not the part's own

  module _ (interrupts : (x : State) → IsSound x → (number : ℕ) → WithinInterrupt number x (raise x number)) (after : State)
      (agree_after : AgreeFor image part after t) where
    pub alone-too : (event : Event) (later : List Label) → KeepsDevices image event → is_own image part s event ≡ false
        → AllStand single (step t event).0 later → AgreeFor image part after (step t event).0
    unfolding step
    alone-too Step later keeps outside behind =
        subst (λ (x : State). AgreeFor image part after x) (sym (ap (λ (p : State × Label). p.0) (idle-is t (nobody-runs outside)))) agree_after
    alone-too Tick later keeps outside behind =
        subst (λ (x : State). AgreeFor image part after x) (sym (ap (λ (o : Option ℕ). option_map_or (ticked t) o t) (nobody-runs outside))) agree_after
    alone-too (Irq number) later keeps outside behind =
        still-agrees image part after t (raise t number) agree_after
        (other-line number outside (interrupts t both.alone_stand.sound number) later behind)
    alone-too (Write address word) later keeps outside behind =
        still-agrees image part after t (world_writes t (place_of address) word) agree_after (elsewhere address word keeps outside)
    alone-too (Read address) later keeps outside behind = agree_after

  -- the same is seen of it
  pub same-unseen : (event : Event) → is_own image part s event ≡ false
      → without_others image part (step s event).1 ≡ without_others image part (step t event).1
  unfolding step
  same-unseen Step outside =
      step-unseen outside ∙ sym (ap (λ (p : State × Label). without_others image part p.1) (idle-is t (nobody-runs outside)))
  same-unseen Tick outside = refl
  same-unseen (Irq number) outside = refl
  same-unseen (Write address word) outside = refl
  same-unseen (Read address) outside =
      ap (λ (b : Bool). if b then Showed address (word_seen s (place_of address)) else Showed address 0) outside
      ∙ sym (ap (λ (b : Bool). if b then Showed address (word_seen t (place_of address)) else Showed address 0) outside)
