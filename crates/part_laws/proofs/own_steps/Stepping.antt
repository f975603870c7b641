-- A step of a thread of the part, in the whole and alone.
use Rattle.std.proofs.Common.{ℕ, ◌≡◌, ◌∙◌, ◌+◌, ◌==◌, ◌&&◌, ◌||◌, Bool, true, false, List, Option, Some, refl, sym, ap, ap₂, subst, arith}
use Rattle.std.specs.Option.{option_map_or}
use Rattle.std.proofs.lemmas.Bool.{eq-eqb, false≢true}
use Rattle.model.specs.declared.events.Event.TheVariants.{Step}
use Rattle.model.specs.declared.instructions.Access.TheVariants.{Fetch}
use Rattle.model.specs.declared.instructions.AccessSize.TheVariants.{Word}
use Rattle.model.specs.declared.labels.Label.{Label}
use Rattle.model.specs.declared.labels.Label.TheVariants.{Idle, Ran}
use Rattle.model.specs.declared.labels.Outcome.{Outcome}
use Rattle.model.specs.Acceptance.Accepted.{IsAccepted}
use Rattle.model.specs.Acceptance.Authority.{MakesCall}
use Rattle.model.specs.Acceptance.NotedStates.{PointState}
use Rattle.model.specs.Acceptance.ThreadInvariants.{StandsAt, ThreadInvariant, runs as runs_so, waits as waits_so, tcb_of}
use Rattle.model.specs.Images.Described.{Numbered}
use Rattle.model.specs.Images.Image.{Image, Thread}
use Rattle.model.specs.Kernel.AddressSpaces.{content_of}
use Rattle.model.specs.Kernel.Messages.{a0, buffer_of}
use Rattle.model.specs.Kernel.Scheduling.{current}
use Rattle.model.specs.Kernel.State.{State, ThreadState}
use Rattle.model.specs.Kernel.Steps.{memory_base, ran, registers_of, runs, step}
use Rattle.model.specs.Kernel.Waits.{is_error, is_fault}
use Rattle.model.specs.Machine.ProgramMemory.{loaded, read}
use Rattle.headline.specs.facts.Standing.{AllStand}
use Rattle.headline.specs.invocations.Laws.{AnyStepGoesWell}
use Rattle.headline.specs.moves.Laws.{Laws}
use Rattle.headline.specs.parts.Agreeing.{IsMemberOf, is_own_slot}
use Rattle.headline.specs.parts.Given.{AllHoldGiven}
use Rattle.headline.specs.parts.Parts.{Part, alone, is_thread_in, lists, maps, takes, takes_by}
use Rattle.headline.specs.parts.Views.{SameView}
use Rattle.headline.proofs.Laws.{call-leaves}
use Rattle.part_laws.specs.Agreeing.{AgreeFor, HasBuffers, IsByteOfPart, is_frame_byte}
use Rattle.part_laws.specs.own.Dispatch.{CallsOnBoth, RunsOnBoth, SameDone}
use Rattle.part_laws.specs.own.Read.{AllMapAsRead}
use Rattle.part_laws.specs.own.Steps.{CallAgrees}
use Rattle.part_laws.proofs.changes.Agreeing.{same-runs, same-thread}
use Rattle.part_laws.proofs.changes.Members.{is-member, member-of}
use Rattle.part_laws.proofs.outside.Storing.{own-buffer}
use Rattle.part_laws.proofs.own_steps.AloneImages.{same-noted, there}
use Rattle.part_laws.proofs.own_steps.Dispatched.{runs-agree}
use Rattle.part_laws.proofs.own_steps.Naming.{endpoint-of, leads-own, not-stray, notification-of, same-called, same-capability}
use Rattle.part_laws.proofs.own_steps.SameViews.{same-loaded}
use Rattle.part_laws.proofs.own_steps.Viewed.{same-view}

third-of : (a b c : Bool) → c ≡ true → (a || b || c) ≡ true
third-of true b c is = refl
third-of false true c is = refl
third-of false false true is = refl
third-of false false false is = absurd (false≢true is)

buffer-takes : (image : Image) (t : Thread) → takes image t t.header.buffer ≡ true
unfolding takes
buffer-takes image t =
    let object = t.header.buffer in
    third-of (maps image t (λ f. f.frame == object)) (lists image t (λ c. c.source == object && takes_by image c)) (object == object)
    (eq-eqb object object refl)

module _ (below : Laws) (well : AnyStepGoesWell) (bytes others : List ℕ) (image : Image) (part : Part) (s t : State) (labels later : List Label) (u : Numbered)
    (accepted : IsAccepted bytes image) (alone_accepted : IsAccepted others (alone image part)) (all : AllStand image s labels)
    (alone_all : AllStand (alone image part) t later) (given : AllHoldGiven image s) (reads : AllMapAsRead image s) (member : IsMemberOf image part u)
    (agree : AgreeFor image part s t) (now : current s ≡ Some (tcb_of image u)) where
  abbrev x : ℕ
  x = tcb_of image u

  inside : is_thread_in image part x ≡ true
  inside = is-member image part u member.listed member.inside

  -- ---- buffers

  has-buffers : HasBuffers image part s
  has-buffers thread source place is has low high =
      let m = member-of image part thread is in
      let own = own-buffer bytes image s labels accepted all m.thread m.listed source (subst (λ (n : ℕ). buffer_of s n ≡ Some source) (sym m.block) has) in
      let at = own.place in
      is_frame_byte m.thread.thread.header.buffer
      (record {
        thread = m.thread;
        member = record { listed = m.listed; inside = m.inside };
        inside = own.inside;
        takes = buffer-takes image m.thread.thread;
      }) own.is_frame (omega (arith, at, low)) (omega (arith, at, high))

  -- ---- views

  at-point : {Goal : Type 0} (i : Image) (w : Numbered) (a : State) (said : List Label) → ThreadInvariant i w a said
      → ((own : ThreadState) (point : ℕ) (state : PointState) → StandsAt i w a own point state → Goal) → Goal
  at-point i w a said (runs_so own point state is status stands budget) goes = goes own point state stands
  at-point i w a said (waits_so own point state is waiting stands at none) goes = goes own point state stands

  view : SameView (IsByteOfPart image part) (content_of s x) (content_of t x)
  view =
      let v = there image part u member in
      at-point image u s labels (all.stand u member.listed) (λ own point state stands.
      at-point (alone image part) v.thread t later (alone_all.stand v.thread v.listed) (λ other q known alone_stands.
      same-view image part bytes accepted s t u v.thread member v.same agree own other point q state known stands alone_stands all.sound alone_all.sound
      given reads))

  -- who makes a call makes it on both sides
  pub makes-there : MakesCall s x → MakesCall t x
  makes-there makes =
      let pc : (registers_of s x).pc ≡ (registers_of t x).pc = ap (λ (own : ThreadState). own.registers.pc) (same-thread image part s t x agree inside) in
      record {
        word = makes.word;
        fetched =
            ap (loaded (content_of t x) Fetch Word) (sym pc)
            ∙ sym (same-loaded (IsByteOfPart image part) (content_of s x) (content_of t x) view Fetch Word (registers_of s x).pc) ∙ makes.fetched;
        call = makes.call;
      }

  module _ (left : MakesCall s (tcb_of image u) → CallAgrees image part s t u) where
    -- ---- calls

    calls : MakesCall s x → CallsOnBoth image part s t x
    calls makes =
        call-leaves below bytes image u s labels accepted all member.listed now makes (λ _. CallsOnBoth image part s t x)
        (λ own point state after call at number here rule.
        let noted = at.stands.slots in
        let alone_noted = same-noted image u.thread s.slots t.slots (λ slot mine. sym (agree.slots slot (is_own_slot u member mine))) ∙ noted in
        let stray = not-stray image u point state after at.call in
        let root = at.stands.cspace in
        let open_left = left makes in
        let own = leads-own below.finds image part bytes accepted s t u member agree point state noted alone_noted stray root in
        record {
          finds = same-called below.finds image part bytes accepted s t u member agree point state noted alone_noted stray root;
          held = λ address slot leads.
              same-capability below.finds image part bytes accepted s t u member agree point state noted alone_noted stray root slot (own address slot leads);
          endpoint = λ address slot offset badge r leads is may.
              endpoint-of below.finds image part bytes accepted s t u member agree point state noted alone_noted stray root given slot offset badge r
              (own address slot leads) is may;
          notification = λ address slot offset badge r leads is may.
              notification-of below.finds image part bytes accepted s t u member agree point state noted alone_noted stray root given slot offset badge r
              (own address slot leads) is may;
          waiters = open_left.waiters;
          caller = open_left.caller;
          rings = λ address slot offset badge r leads is may. open_left.rings slot offset badge r (own address slot leads) is may;
          invocation = λ kind slot calls_so named some. open_left.invocation kind slot (own (read (registers_of s x) a0) slot named) calls_so named some;
        })

    -- ---- the step

    stepped : (a : State) → current a ≡ Some x → step a Step ≡ ran a x
    unfolding step
    stepped a is = ap (λ (o : Option ℕ). option_map_or (ran a) o (a, Idle)) is

    both : RunsOnBoth image part s t x
    both = record { agree = agree; inside = inside; buffers = has-buffers; view = view; calls = calls }

    done : SameDone image part (runs s x) (runs t x)
    done =
        let here = stepped s now in
        let goes = well bytes image s labels accepted all in
        runs-agree image part s t x both (ap (λ (d : State × Label). is_fault d.1) (sym here) ∙ goes.faults)
        (ap (λ (d : State × Label). is_error d.1) (sym here) ∙ goes.errors)

    pub own-step : AgreeFor image part (step s Step).0 (step t Step).0 × ((step s Step).1 ≡ (step t Step).1)
    own-step =
        let here = stepped s now in
        let other = stepped t (same-runs image part s t x agree now inside) in
        let pc : (registers_of s x).pc ≡ (registers_of t x).pc = ap (λ (own : ThreadState). own.registers.pc) (same-thread image part s t x agree inside) in (
          subst (λ (a : State). AgreeFor image part a (step t Step).0) (sym (ap (λ (d : State × Label). d.0) here))
              (subst (λ (b : State). AgreeFor image part (runs s x).0 b) (sym (ap (λ (d : State × Label). d.0) other)) done.state),
          ap (λ (d : State × Label). d.1) here ∙ ap₂ (λ (p : ℕ) (o : Outcome). Ran (memory_base + x) p o) pc done.outcome
              ∙ sym (ap (λ (d : State × Label). d.1) other),
        )
