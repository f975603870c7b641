-- An invocation of a thread of the part, from states in which all threads stand.
use Rattle.std.proofs.Common.{Bool, ◌<◌, if◌then◌else◌, is_some, arith, ℕ, ◌≡◌, ◌∙◌, ◌+◌, true, false, List, Option, Some, Result, Ok, refl, sym, ap, subst}
use Rattle.std.specs.Option.{option_map_or}
use Rattle.std.proofs.lemmas.Bool.{false≢true}
use Rattle.model.specs.declared.capabilities.Cap.{Cap}
use Rattle.model.specs.declared.events.Event.TheVariants.{Step}
use Rattle.model.specs.declared.invocations.Invocation.{Invocation}
use Rattle.model.specs.declared.invocations.Invocation.TheVariants.{OnUntyped, OnThread, OnCNode, OnFrame, OnTable, OnControl, OnHandler}
use Rattle.model.specs.declared.labels.Label.{Label}
use Rattle.model.specs.declared.labels.Label.TheVariants.{Idle, Ran}
use Rattle.model.specs.declared.lookup_failures.LookupFailure.{LookupFailure}
use Rattle.model.specs.declared.system_calls.SendCall.{SendCall}
use Rattle.model.specs.declared.system_calls.SystemCall.TheVariants.{Sends}
use Rattle.model.specs.Acceptance.Accepted.{IsAccepted}
use Rattle.model.specs.Acceptance.Authority.{IsOwnSlot, MakesCall}
use Rattle.model.specs.Acceptance.CallRules.{may_call}
use Rattle.model.specs.Acceptance.ThreadInvariants.{tcb_of}
use Rattle.model.specs.Capabilities.Lookup.{called_slot, lookup}
use Rattle.model.specs.Capabilities.Slots.{Slots, capability_at}
use Rattle.model.specs.Images.Described.{Numbered}
use Rattle.model.specs.Images.Image.{Image}
use Rattle.model.specs.Kernel.Arguments.{Call}
use Rattle.model.specs.Kernel.Messages.{a0, a7}
use Rattle.model.specs.Kernel.Scheduling.{current}
use Rattle.model.specs.Kernel.State.{State, ThreadState, thread_at}
use Rattle.model.specs.Kernel.Steps.{Done, call_of, cspace_of, invokes, memory_base, named_slot, ran, registers_of, runs, step}
use Rattle.model.specs.Kernel.Waits.{is_error}
use Rattle.model.specs.Machine.ProgramMemory.{read}
use Rattle.headline.specs.calls.Messages.{IsInvoked}
use Rattle.headline.specs.facts.Standing.{AllStand}
use Rattle.headline.specs.invocations.Laws.{AnyStepGoesWell, Laws}
use Rattle.headline.specs.invocations.Performed.{IsOn}
use Rattle.headline.specs.lookups.Found.{slots_noted}
use Rattle.typestate.specs.Calls.{call_on}
use Rattle.headline.specs.parts.Agreeing.{IsMemberOf, is_own_slot}
use Rattle.headline.specs.parts.Parts.{Part, alone, is_thread_in}
use Rattle.headline.specs.parts.Given.{AllHoldGiven}
use Rattle.headline.proofs.Laws.{boot-kept, call-leaves, invocation-leaves}
use Rattle.format_laws.proofs.Laws.{is-fitting}
use Rattle.typestate.specs.Spaces.{StandsApart}
use Rattle.model.specs.declared.capabilities.Cap.TheVariants.{Empty, InterruptHandler}
use Rattle.model.specs.declared.errors.KError.{KError}
use Rattle.model.specs.declared.system_calls.SendCall.TheVariants.{Calling, Sending, Trying}
use Rattle.model.specs.Images.Described.{described}
use Rattle.model.specs.Kernel.Messages.{passes}
use Rattle.model.specs.Kernel.Scheduling.{is_runnable}
use Rattle.model.specs.Kernel.State.{as_thread, binding_slot, boot_area_slots, line_slot}
use Rattle.model.specs.Kernel.Steps.{after_invocation, answered, completed}
use Rattle.part_laws.specs.Agreeing.{AgreeFor}
use Rattle.part_laws.specs.own.Dispatch.{SameDone}
use Rattle.part_laws.specs.own.Invocations.{AcksAgree, RemovalsAgree}
use Rattle.part_laws.proofs.changes.Agreeing.{same-runs, same-thread}
use Rattle.part_laws.proofs.changes.Members.{is-member}
use Rattle.part_laws.proofs.own_calls.Families.{may_be_invoked}
use Rattle.part_laws.proofs.own_calls.BoundLines.{deleted-same, never-bound}
use Rattle.part_laws.proofs.own_calls.Invoked.{LinesAgree, invokes-agree, made, runs-invocation}
use Rattle.part_laws.proofs.outside.Reaching.{handler-listed}
use Rattle.part_laws.proofs.own_calls.SameLookups.{FindsSame, finds-by, finds-inside, held-inside, source-own}
use Rattle.part_laws.proofs.own_steps.AloneImages.{same-noted}
use Rattle.part_laws.proofs.own_steps.Naming.{found-own, not-stray, same-called, same-capability, same-lookup, same-root}

-- what an allowed call is on
may-be : (c : Cap) (made : Invocation) (slots : Slots) (call : Call) → IsOn c made → may_call slots call made ≡ true → may_be_invoked c ≡ true
may-be c (OnUntyped memory r) slots call on may = ap may_be_invoked on
may-be c (OnThread thread r) slots call on may = absurd (false≢true may)
may-be c (OnCNode r) slots call on may = ap may_be_invoked on.3
may-be c (OnFrame held r) slots call on may = ap may_be_invoked on.2
may-be c (OnTable r) slots call on may = absurd (false≢true may)
may-be c (OnControl number r) slots call on may = absurd (false≢true may)
may-be c (OnHandler number r) slots call on may = ap may_be_invoked on

stepped : (a : State) (x : ℕ) → current a ≡ Some x → step a Step ≡ ran a x
unfolding step
stepped a x is = ap (λ (o : Option ℕ). option_map_or (ran a) o (a, Idle)) is

completed-slots : (a : State) (x : ℕ) (kind : SendCall) → (completed a x kind).slots ≡ a.slots
completed-slots a x kind = by (is_some (as_thread (a.objects x))) (is_runnable (thread_at a x).status) kind
  where
    by : (p q : Bool) (k : SendCall) → (if p then (if q then answered a x k 0 else passes a x) else a).slots ≡ a.slots
    by true true Calling = refl
    by true true Sending = refl
    by true true Trying = refl
    by true false k = refl
    by false q k = refl

module _ (laws : Laws) (well : AnyStepGoesWell) (bytes others : List ℕ) (image : Image) (part : Part) (s t : State) (labels later : List Label) (u : Numbered)
    (kind : SendCall) (slot : ℕ) (accepted : IsAccepted bytes image) (alone_accepted : IsAccepted others (alone image part)) (all : AllStand image s labels)
    (alone_all : AllStand (alone image part) t later) (member : IsMemberOf image part u) (agree : AgreeFor image part s t)
    (now : current s ≡ Some (tcb_of image u)) (makes : MakesCall s (tcb_of image u)) (alone_makes : MakesCall t (tcb_of image u))
    (open_left : RemovalsAgree image part s t u) (acks : AcksAgree image part s t u) (given : AllHoldGiven image s) (own : IsOwnSlot image u.thread slot)
    (number : call_of (read (registers_of s (tcb_of image u)) a7) ≡ Some (Sends kind)) (named : named_slot s (tcb_of image u) ≡ Ok slot)
    (some : IsInvoked (capability_at s.slots slot)) where
  abbrev x : ℕ
  x = tcb_of image u

  inside : is_thread_in image part x ≡ true
  inside = is-member image part u member.listed member.inside

  abbrev held : Cap
  held = capability_at s.slots slot

  -- no error on either side
  right : (a : State) → is_error (step a Step).1 ≡ false → current a ≡ Some x → runs a x ≡ invokes a x kind slot held
      → (registers_of a x).pc ≡ (registers_of s x).pc
      → is_error (Ran (memory_base + x) (registers_of s x).pc (invokes a x kind slot held).1) ≡ false
  right a errors is runs_so pc =
      sym (ap (λ (d : State × Label). is_error d.1) (stepped a x is)
      ∙ ap (λ (p : ℕ). is_error (Ran (memory_base + x) p (runs a x).1)) pc
      ∙ ap (λ (d : Done). is_error (Ran (memory_base + x) (registers_of s x).pc d.1)) runs_so) ∙ errors

  same-now : thread_at s x ≡ thread_at t x
  same-now = same-thread image part s t x agree inside

  may-invoke : may_be_invoked held ≡ true
  may-invoke =
      invocation-leaves laws bytes image s labels accepted all u member.listed now (λ _. may_be_invoked held ≡ true)
      (λ own_now point state left at other found made named_so may after performs.
      let same : found ≡ slot = (let e : ◌≡◌ {A = Result ℕ LookupFailure} (Ok found) (Ok slot) = sym named_so ∙ named in cc) in
      ap (λ (n : ℕ). may_be_invoked (capability_at s.slots n)) (sym same) ∙ may-be (capability_at s.slots found) made (slots_noted image u state.slots)
      (call_on image u.thread found (capability_at s.slots found)) may.on may.may)
      makes (record { kind = kind; slot = slot; number = number; named = named; invoked = some })

  -- ---- bindings of lines, which no call changes

  abbrev call_here : Call
  call_here = record { root = cspace_of s x; caller = Some x; slot = slot; capability = held }

  reached-here : (after : State) → made s (thread_at s x) call_here ≡ Ok after → (step s Step).0 ≡ completed after x kind
  reached-here after is =
      ap (λ (d : State × Label). d.0) (stepped s x now) ∙ ap (λ (d : Done). d.0) (runs-invocation s x kind slot makes number named some)
      ∙ ap (λ (r : Result State KError). (after_invocation s x kind r).0) is

  slot-here : (after : State) → made s (thread_at s x) call_here ≡ Ok after → (b : ℕ) → b < boot_area_slots image.header.boot_radix
      → after.slots b ≡ (described image).slots b
  slot-here after is b below =
      ap (λ (m : Slots). m b) (sym (completed-slots after x kind)) ∙ ap (λ (y : State). y.slots b) (sym (reached-here after is))
      ∙ boot-kept image accepted.spelled.fits accepted.formed (step s Step).0 _ (well bytes image s labels accepted all).stands b below

  module _ (alone_now : current t ≡ Some x) (alone_runs : runs t x ≡ invokes t x kind slot held) (same : cspace_of s x ≡ cspace_of t x) where
    reached-there : (other : State) → made t (thread_at s x) call_here ≡ Ok other → (step t Step).0 ≡ completed other x kind
    reached-there other is =
        ap (λ (d : State × Label). d.0) (stepped t x alone_now) ∙ ap (λ (d : Done). d.0) alone_runs
        ∙ ap (λ (r : Result State KError). (after_invocation t x kind r).0)
        ((λ i. made t (sym same-now i) (record { root = sym same i; caller = Some x; slot = slot; capability = held })) ∙ is)

    slot-there : (other : State) → made t (thread_at s x) call_here ≡ Ok other → (b : ℕ) → b < boot_area_slots image.header.boot_radix
        → other.slots b ≡ t.slots b
    unfolding alone
    slot-there other is b below =
        let fits = alone_accepted.spelled.fits in
        let formed = alone_accepted.formed in
        ap (λ (m : Slots). m b) (sym (completed-slots other x kind)) ∙ ap (λ (y : State). y.slots b) (sym (reached-there other is))
        ∙ boot-kept (alone image part) fits formed (step t Step).0 _ (well others (alone image part) t later alone_accepted alone_all).stands b below
        ∙ sym (boot-kept (alone image part) fits formed t later alone_all b below)

    few-lines : (n : ℕ) → held ≡ InterruptHandler n → n < 64
    few-lines n is =
        let l = handler-listed image u.thread held n is
        (given u slot member.listed own (λ empty. let e : InterruptHandler n ≡ Empty = sym is ∙ empty in cc)) in
        let few = ((is-fitting image accepted.spelled.fits).interrupt l.place l.line l.at).line in
        let at = l.is in
        omega (arith, few, at)

    below-here : (n : ℕ) → n < 64 → binding_slot s n < boot_area_slots image.header.boot_radix
    below-here n few = subst (λ (radix : ℕ). line_slot radix n < boot_area_slots image.header.boot_radix) (sym all.boot_radix) (omega (arith, few))

    below-there : (n : ℕ) → n < 64 → binding_slot t n < boot_area_slots image.header.boot_radix
    unfolding alone
    below-there n few = subst (λ (radix : ℕ). line_slot radix n < boot_area_slots image.header.boot_radix) (sym alone_all.boot_radix) (omega (arith, few))

    lines-by : StandsApart image u.thread → FindsSame image u.thread s.slots t.slots (cspace_of s x) → (after other : State)
        → made s (thread_at s x) call_here ≡ Ok after → made t (thread_at s x) call_here ≡ Ok other
        → LinesAgree image part s t (record { root = cspace_of s x; caller = Some x; slot = slot; capability = capability_at s.slots slot }) after other
    lines-by stand roots after other here there = record {
      binds = λ n name is bound too.
          let below = below-here n (few-lines n is) in
          absurd (never-bound image u.thread stand s after (binding_slot s n) below (slot-here after here (binding_slot s n) below) call_here n name refl
          (λ p found. source-own image u.thread s.slots t.slots (cspace_of s x) roots name p p found) bound);
      clears = λ n is gone too.
          let few = few-lines n is in
          let below = below-here n few in
          let stays = slot-here after here (binding_slot s n) below
          ∙ sym (boot-kept image accepted.spelled.fits accepted.formed s labels all (binding_slot s n) below) in
          let one : s ≡ after = deleted-same s (binding_slot s n) after gone stays in
          let two : t ≡ other = deleted-same t (binding_slot t n) other too (slot-there other there (binding_slot t n) (below-there n few)) in
          subst (λ (a : State). AgreeFor image part a other) one (subst (λ (b : State). AgreeFor image part s b) two agree);
    }

  pub own-invocation : SameDone image part (invokes s x kind slot held) (invokes t x kind slot held)
  own-invocation =
      call-leaves laws.below bytes image u s labels accepted all member.listed now makes
      (λ _. SameDone image part (invokes s x kind slot held) (invokes t x kind slot held))
      (λ own_now point state left call at number_so here rule.
      let noted = at.stands.slots in
      let alone_noted = same-noted image u.thread s.slots t.slots (λ n mine. sym (agree.slots n (is_own_slot u member mine))) ∙ noted in
      let stray = not-stray image u point state left at.call in
      let root = at.stands.cspace in
      let mirror = laws.mirror bytes image u s labels own_now point state accepted member.listed all at.stands in
      let finds = laws.below.finds in
      let capability = same-capability finds image part bytes accepted s t u member agree point state noted alone_noted stray root in
      let lookups : (address depth : ℕ) → lookup s.slots (cspace_of s x) address depth ≡ lookup t.slots (cspace_of s x) address depth =
      λ address depth. subst (λ (c : Cap). lookup s.slots c address depth ≡ lookup t.slots c address depth) (sym root)
      (same-lookup finds image part bytes accepted s t u member agree point state noted alone_noted stray root address depth) in
      let roots : FindsSame image u.thread s.slots t.slots (cspace_of s x) =
      finds-by image u.thread s.slots t.slots (cspace_of s x) lookups
      (λ address depth found is. found-own finds image part bytes accepted s t u member agree point state noted alone_noted stray root address depth found
      (ap (λ (c : Cap). lookup s.slots c address depth) (sym root) ∙ is)) in
      let below : FindsSame image u.thread s.slots t.slots held =
      finds-inside image u.thread s.slots t.slots capability mirror.home held (held-inside image u.thread s.slots t.slots capability mirror.home slot own) in
      let same_root = same-root finds image part bytes accepted s t u member agree point state noted alone_noted stray root in
      let alone_now = same-runs image part s t x agree now inside in
      let pc : (registers_of t x).pc ≡ (registers_of s x).pc = ap (λ (o : ThreadState). o.registers.pc) (sym same-now) in
      let alone_number = ap (λ (o : ThreadState). call_of (read o.registers a7)) (sym same-now) ∙ number in
      let called = same-called finds image part bytes accepted s t u member agree point state noted alone_noted stray root (read (registers_of s x) a0) in
      let alone_named : named_slot t x ≡ Ok slot =
      ap (λ (o : ThreadState). called_slot t.slots (cspace_of t x) (read o.registers a0)) (sym same-now) ∙ sym called ∙ named in
      let alone_held : capability_at t.slots slot ≡ held = sym (capability slot own) in
      let alone_runs : runs t x ≡ invokes t x kind slot held =
      runs-invocation t x kind slot alone_makes alone_number alone_named (subst IsInvoked (sym alone_held) some)
      ∙ ap (invokes t x kind slot) alone_held in
      invokes-agree image part s t u member agree x inside open_left acks kind slot own may-invoke same_root roots below
      (λ after other is too. lines-by alone_now alone_runs same_root mirror.stand roots after other is too)
      (right s (well bytes image s labels accepted all).errors now (runs-invocation s x kind slot makes number named some) refl)
      (right t (well others (alone image part) t later alone_accepted alone_all).errors alone_now alone_runs pc))
