-- Each event: one of the part's own happens on both sides, with the same label, and any other in the whole alone. The whole agrees with the part as before.
use Rattle.std.proofs.Common.{ℕ, ◌≡◌, ◌∙◌, ◌==◌, ◌&&◌, inl, inr, Bool, true, false, List, Option, Some, None, refl, sym, ap, subst}
use Rattle.std.proofs.Common.{◌<◌, arith}
use Rattle.std.specs.Prelude.{Contains, slice_get}
use Rattle.std.specs.Option.{option_map_or}
use Rattle.std.specs.List.{list_any}
use Rattle.std.proofs.lemmas.Bool.{and_parts, eqb-true, false≢true}
use Rattle.std.proofs.lemmas.Option.{same_Some}
use Rattle.format_laws.proofs.Laws.{is-fitting}
use Rattle.model.specs.declared.entries.InterruptEntry.{InterruptEntry}
use Rattle.model.specs.declared.events.Event.{Event}
use Rattle.model.specs.declared.events.Event.TheVariants.{Step, Tick, Irq, Write, Read}
use Rattle.model.specs.declared.labels.Label.{Label}
use Rattle.model.specs.declared.labels.Label.TheVariants.{Showed}
use Rattle.model.specs.Acceptance.Authority.{StaysWithin}
use Rattle.model.specs.Acceptance.Devices.{KeepsDevices, is_device_word}
use Rattle.model.specs.Images.Described.{Numbered}
use Rattle.model.specs.Images.Image.{Image, Thread}
use Rattle.model.specs.Images.Places.{offset_of}
use Rattle.model.specs.Kernel.Interrupts.{Signal, binding, raise}
use Rattle.model.specs.Kernel.Scheduling.{current, tick}
use Rattle.model.specs.Kernel.Soundness.{IsSound, waiting_at}
use Rattle.model.specs.Kernel.State.{State, Inactive, Blocked, Object, NotificationObject, NotificationState, as_notification, new_notification}
use Rattle.model.specs.Kernel.State.{ThreadObject, EndpointObject, CNodeObject, FrameObject, PageTableObject, RootTableObject}
use Rattle.model.specs.Kernel.Steps.{place_of, step}
use Rattle.headline.specs.authority.Events.{WithinInterrupt, WithinTick}
use Rattle.headline.specs.authority.Laws.{WordsOfDataStay}
use Rattle.headline.specs.facts.Standing.{AllStand}
use Rattle.headline.specs.parts.Parts.{Part, alone, is_in, is_line_of, is_own, is_thread_in, takes}
use Rattle.part_laws.specs.Agreeing.{AgreeFor, IsOfPart, is_taken}
use Rattle.part_laws.specs.Both.{BothStand, OwnStepsAgree}
use Rattle.part_laws.specs.Changes.{InterruptsAgree, TicksAgree}
use Rattle.part_laws.specs.OutsideLaws.{OthersHaveNothing, OthersKeepAgreement}
use Rattle.part_laws.proofs.changes.Members.{is-member, listed-from, some-passes}
use Rattle.part_laws.proofs.outside.Nothing.{decide, decide-not, none-used}
use Rattle.part_laws.proofs.outside.OtherEvents.{other-interrupt, other-tick}
use Rattle.part_laws.proofs.outside.Places.{contained}
use Rattle.part_laws.proofs.outside.Reaching.{line-bound}
use Rattle.part_laws.proofs.outside.World.{device-word, other-write, own-write, same-seen}
use Rattle.part_laws.proofs.promises.Waiting.{in-queue}

-- ---- the image of the part alone has the same objects

pub same-offset : (image : Image) (part : Part) (number : ℕ) → offset_of (alone image part) number ≡ offset_of image number
unfolding alone offset_of
same-offset image part number = refl

pub same-device : (image : Image) (part : Part) (place : ℕ) → is_device_word (alone image part) place ≡ is_device_word image place
unfolding alone offset_of
same-device image part place = refl

pub same-interrupts : (image : Image) (part : Part) → (alone image part).interrupts ≡ image.interrupts
unfolding alone
same-interrupts image part = refl

-- what is agreed, and that the labels are the same
pub record SameEvent (image : Image) (part : Part) (s t : State) (event : Event) : Type 0 where
  pub agree : AgreeFor image part (step s event).0 (step t event).0
  pub label : (step s event).1 ≡ (step t event).1

queue-list : (o : Option Object) (w : ℕ) → Contains (option_map_or (λ (n : NotificationState). n) (as_notification o) new_notification).waiters w
    → Contains (waiting_at o) w
queue-list (Some (NotificationObject n)) w there = there
queue-list None w there = there
queue-list (Some (ThreadObject x)) w there = there
queue-list (Some (EndpointObject e)) w (n, less, at) = absurd (nobody n less)
  where
    nobody : (n : ℕ) → n < 0 → ⊥
    nobody n less = omega (arith, less)
queue-list (Some (CNodeObject r)) w there = there
queue-list (Some FrameObject) w there = there
queue-list (Some PageTableObject) w there = there
queue-list (Some RootTableObject) w there = there

module _ (image : Image) (part : Part) (s t : State) (both : BothStand image part s t) (agree : AgreeFor image part s t) where
  abbrev in_part : ℕ → Bool
  in_part = is_thread_in image part

  -- ---- the part's own

  record RunsInside : Type 0 where
    pub thread : ℕ
    pub now : current s ≡ Some thread
    pub inside : in_part thread ≡ true

  runs-inside : option_map_or in_part (current s) false ≡ true → RunsInside
  runs-inside own = by (current s) refl own
    where
      by : (o : Option ℕ) → current s ≡ o → option_map_or in_part o false ≡ true → RunsInside
      by None now none = absurd (false≢true none)
      by (Some x) now inside = record { thread = x; now = now; inside = inside }

  -- an interrupt of a line of the part's
  module _ (number : ℕ) (own : is_line_of image part number ≡ true) where
    record OwnLine : Type 0 where
      pub place : ℕ
      pub line : InterruptEntry
      pub at : slice_get image.interrupts place ≡ Some line
      pub is : line.line ≡ number
      pub thread : Thread
      pub where_it_is : ℕ
      pub listed : slice_get image.threads where_it_is ≡ Some thread
      pub inside : is_in part thread ≡ true
      pub takes_it : takes image thread line.notification ≡ true

    own-line : OwnLine
    own-line =
        let p = some-passes (λ (i : InterruptEntry). i.line == number && list_any (λ v. is_in part v && takes image v i.notification) image.threads)
        image.interrupts own in
        let i = p.entry in
        let parts = and_parts (i.line == number) (list_any (λ v. is_in part v && takes image v i.notification) image.threads) p.is in
        let v = some-passes (λ (v : Thread). is_in part v && takes image v i.notification) image.threads parts.1 in
        let flags = and_parts (is_in part v.entry) (takes image v.entry i.notification) v.is in
        record {
          place = p.place;
          line = i;
          at = p.at;
          is = eqb-true i.line number parts.0;
          thread = v.entry;
          where_it_is = v.place;
          listed = v.at;
          inside = flags.0;
          takes_it = flags.1;
        }

    same-binding : binding s number ≡ binding t number
    same-binding =
        let l = own-line in
        let there : slice_get (alone image part).interrupts l.place ≡ Some l.line =
        ap (λ (is : List InterruptEntry). slice_get is l.place) (same-interrupts image part) ∙ l.at in
        ap (binding s) (sym l.is) ∙ line-bound both.bytes image both.accepted s both.labels both.stand l.place l.line l.at
        ∙ ap (λ (n : ℕ). Some (let b : Signal = record { notification = n; badge = l.line.badge } in b)) (sym (same-offset image part l.line.notification))
        ∙ sym (line-bound both.alone_bytes (alone image part) both.alone_accepted t both.alone_labels both.alone_stand l.place l.line there)
        ∙ ap (binding t) l.is

    notification-of : (bound : Signal) → binding s number ≡ Some bound → IsOfPart image part bound.notification
    notification-of bound is =
        let l = own-line in
        let at : bound.notification ≡ offset_of image l.line.notification =
        ap (λ (b : Signal). b.notification) (same_Some bound (record { notification = offset_of image l.line.notification; badge = l.line.badge })
        (sym is ∙ ap (binding s) (sym l.is) ∙ line-bound both.bytes image both.accepted s both.labels both.stand l.place l.line l.at)) in
        let u = listed-from 0 image.threads l.where_it_is l.thread l.listed in
        is_taken l.line.notification (record {
          thread = record { number = u.0; thread = l.thread };
          member = record { listed = u.1; inside = l.inside };
          inside = ((is-fitting image both.accepted.spelled.fits).interrupt l.place l.line l.at).notification;
          takes = l.takes_it;
        }) at

    -- who waits at what is the part's is of the part
    pub waiter-inside : (queue w : ℕ) → IsOfPart image part queue → Contains (waiting_at (s.objects queue)) w → in_part w ≡ true
    waiter-inside queue w of there =
        let waits = in-queue s both.stand.sound queue w there in
        elim (both.stand.others w waits.own waits.is) [
          | inl rests ↦ absurd (let e : Inactive ≡ Blocked queue = sym rests ∙ waits.blocked in cc)
          | inr block ↦
              let inside : is_in part block.thread.thread ≡ true = decide (is_in part block.thread.thread) (λ isnt.
              none-used both.bytes image both.accepted part both.nothing block.thread block.listed isnt queue
              (both.queues.waits block.thread waits.own queue block.listed (ap s.objects (sym block.is) ∙ waits.is) waits.blocked) of) in
              ap in_part block.is ∙ is-member image part block.thread block.listed inside
        ]

    own-interrupt : InterruptsAgree → AgreeFor image part (step s (Irq number)).0 (step t (Irq number)).0
    own-interrupt law =
        law image part s t number agree own same-binding (λ bound is. (
          notification-of bound is,
          λ w there. waiter-inside bound.notification w (notification-of bound is)
              (queue-list (s.objects bound.notification) w there),
        ))

  module _ (ticks_agree : TicksAgree) (interrupts_agree : InterruptsAgree) (own_steps : OwnStepsAgree) (words : WordsOfDataStay) where
    pub own-event : (event : Event) → KeepsDevices image event → is_own image part s event ≡ true → SameEvent image part s t event
    unfolding step
    own-event Step keeps own =
        let r = runs-inside own in
        let same = own_steps image part s t r.thread both agree r.now r.inside in
        record { agree = same.0; label = same.1 }
    own-event Tick keeps own = let r = runs-inside own in record { agree = ticks_agree image part s t r.thread agree r.now r.inside; label = refl }
    own-event (Irq number) keeps own = record { agree = own-interrupt number own interrupts_agree; label = refl }
    own-event (Write address word) keeps own =
        let place = place_of address in
        let page = device-word both.bytes image place both.accepted keeps in
        let there = device-word both.alone_bytes (alone image part) place both.alone_accepted (same-device image part place ∙ keeps) in
        record {
          agree = own-write both.bytes image both.accepted part place s t agree
              (words both.bytes image s both.labels place both.accepted both.stand page)
              (words both.alone_bytes (alone image part) t both.alone_labels place both.alone_accepted both.alone_stand there) word;
          label = refl;
        }
    own-event (Read address) keeps own =
        record { agree = agree; label = ap (Showed address) (same-seen both.bytes image both.accepted part (place_of address) s t agree own) }

  -- ---- others'

  module _ (have_nothing : OthersHaveNothing) (keep : OthersKeepAgreement) (ticks : (s : State) → IsSound s → WithinTick s (tick s))
      (interrupts : (s : State) → IsSound s → (number : ℕ) → WithinInterrupt number s (raise s number)) where
    other-step : (later : List Label) → AllStand image (step s Step).0 later → option_map_or in_part (current s) false ≡ false
        → StaysWithin image s Step (step s Step).0 → AgreeFor image part (step s Step).0 t
    other-step later behind outside (inl idle) = subst (λ (x : State). AgreeFor image part x t) (sym idle.1) agree
    other-step later behind outside (inr own) =
        let place = contained image.threads own.thread own.listed in
        let there = listed-from 0 image.threads place.0 own.thread place.1 in
        let v : Numbered = record { number = there.0; thread = own.thread } in
        let isnt : is_in part own.thread ≡ false = decide-not (is_in part own.thread) (λ inside.
        false≢true (sym (ap (λ (o : Option ℕ). option_map_or in_part o false) (sym own.runs) ∙ outside) ∙ is-member image part v there.1 inside)) in
        keep both.bytes image part v s (step s Step).0 t both.labels later both.accepted both.stand behind there.1 isnt
        (have_nothing both.bytes image part v s both.labels both.accepted both.nothing both.stand both.given both.mapped both.queues there.1 isnt)
        own.within agree

    pub other-event : (event : Event) (later : List Label) → AllStand image (step s event).0 later → KeepsDevices image event
        → is_own image part s event ≡ false → StaysWithin image s event (step s event).0 → AgreeFor image part (step s event).0 t
    unfolding step
    other-event Step later behind keeps outside within = other-step later behind outside within
    other-event Tick later behind keeps outside within =
        other-tick both.bytes image both.accepted part both.nothing s both.labels both.stand t (tick s) agree (ticks s both.stand.sound) outside
    other-event (Irq number) later behind keeps outside within =
        other-interrupt both.bytes image both.accepted part both.nothing s both.labels both.stand t agree both.queues number outside
        (interrupts s both.stand.sound number)
    other-event (Write address word) later behind keeps outside within =
        other-write both.bytes image both.accepted part (place_of address) s t agree keeps outside word
    other-event (Read address) later behind keeps outside within = agree
