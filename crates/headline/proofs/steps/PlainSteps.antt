-- A step of a thread that reaches no system call does not fault, and leaves the thread at a point of its certificate.
use Rattle.std.proofs.Common.{ℕ, zero, suc, ◌≡◌, ◌∙◌, ◌+◌, ◌<◌, ◌++◌, Bool, true, false, if◌then◌else◌, List, [], ◌∷◌, length, get_or, map, Option, Some, None}
use Rattle.std.proofs.Common.{Ok, pos, ◌+ℤ◌, ◌≤ℤ◌, ◌<ℤ◌, refl, sym, ap, subst, arith}
use Rattle.std.specs.Prelude.{Contains, slice_index}
use Rattle.std.specs.Option.{option_map_or}
use Rattle.std.proofs.lemmas.Bool.{eq-eqb}
use Rattle.headline.proofs.measure_facts.Laws.{falls-is-less}
use Rattle.soundness.proofs.Laws.{byte-less, current-runs}
use Rattle.model.specs.declared.events.Event.TheVariants.{Step}
use Rattle.model.specs.declared.instructions.Access.TheVariants as accesses
use Rattle.model.specs.declared.instructions.AccessSize.TheVariants.{Word}
use Rattle.model.specs.declared.instructions.Exec.{Exec}
use Rattle.model.specs.declared.instructions.Exec.TheVariants as outcomes
use Rattle.headline.proofs.facts.Laws.{at-place, decoded-instr, read-less, within-wider}
use Rattle.model.specs.declared.instructions.Instr.{Instr}
use Rattle.model.specs.declared.instructions.Instr.TheVariants.{Upper, Jal, Jalr, Branch, Load, Store, Immediate, Shift, Registers, Fence, Ecall, Ebreak}
use Rattle.model.specs.declared.labels.Label.{Label}
use Rattle.model.specs.declared.labels.Label.TheVariants.{Idle, Ran}
use Rattle.model.specs.declared.labels.Outcome.TheVariants.{Plain}
use Rattle.model.specs.Acceptance.Edges.{after}
use Rattle.model.specs.Acceptance.Measures.{measured}
use Rattle.model.specs.Acceptance.NotedStates.{NotedSlot, PointState}
use Rattle.model.specs.Acceptance.PointRules.{ProgramEdge, edges_at, is_computed_jump, is_illegal, is_unmapped, program_edge}
use Rattle.model.specs.Acceptance.PointStates.{address_of, instruction_at}
use Rattle.model.specs.Acceptance.ThreadInvariants.{IsWaiting, IsWithinBudget, LieWithin, MapsAreNoted, NamesNoCode, StandsAt, ThreadInvariant, runs as runs_so}
use Rattle.model.specs.Acceptance.ThreadInvariants.{waits, root_table_of, tcb_of}
use Rattle.model.specs.Capabilities.CapabilityKinds.{root_of}
use Rattle.model.specs.Images.Described.{Numbered}
use Rattle.model.specs.Images.Image.{Image}
use Rattle.model.specs.Kernel.AddressSpaces.{content_of, vspace_of, with_content}
use Rattle.model.specs.Kernel.Messages.{with_registers}
use Rattle.model.specs.Kernel.Scheduling.{current, is_runnable}
use Rattle.model.specs.Kernel.Soundness.{IsSound, ThreadIsSound}
use Rattle.model.specs.Kernel.State.{State, Status, Inactive, Runnable, Blocked, AwaitsReply, AwaitsHandler, ThreadObject, ThreadState, thread_at}
use Rattle.model.specs.Kernel.Steps.{Done, after_effect, memory_base, ran, registers_of, runs, runs_decoded, runs_fetched, step}
use Rattle.model.specs.Kernel.Waits.{is_fault, open_count}
use Rattle.model.specs.Machine.Effects.{effect}
use Rattle.model.specs.Machine.Instructions.{IsInstr}
use Rattle.model.specs.Machine.ProgramMemory.{Content, RegisterFile, loaded}
use Rattle.ranges.specs.Standing.{AreWords}
use Rattle.headline.specs.steps.Points.{GoesAlong, IsPoint, LeadsOn, ReachesNoCall}
use Rattle.headline.specs.steps.Taken.{IsPlain, MayTake, edges_among}
use Rattle.headline.proofs.steps.Accesses.{reaches-mapped}
use Rattle.headline.proofs.steps.Budgets.{open-more, within-still}
use Rattle.headline.proofs.steps.CodeStays.{effect-keeps}
use Rattle.headline.proofs.steps.EdgesTaken.{may-take}
use Rattle.headline.proofs.steps.GivenThreads.{IsGiven}
use Rattle.headline.proofs.steps.ProgramStays.{program-stays}
use Rattle.headline.proofs.steps.SameSlots.{not-stray-formed, slots-back}

-- ---- instructions

plain-of : (instr : Instr) → is_illegal (Some instr) ≡ false → is_computed_jump (Some instr) ≡ false → (Some instr ≡ Some Ecall → ⊥) → IsPlain instr
plain-of (Upper op rd immediate) legal straight other = tt
plain-of (Jal rd offset) legal straight other = tt
plain-of (Jalr rd rs1 offset) legal straight other = let clash : true ≡ false = straight in absurd cc
plain-of (Branch op rs1 rs2 offset) legal straight other = tt
plain-of (Load op rd rs1 offset) legal straight other = tt
plain-of (Store op rs1 rs2 offset) legal straight other = tt
plain-of (Immediate op rd rs1 immediate) legal straight other = tt
plain-of (Shift op rd rs1 amount) legal straight other = tt
plain-of (Registers op rd rs1 rs2) legal straight other = tt
plain-of Fence legal straight other = tt
plain-of Ecall legal straight other = absurd (other refl)
plain-of Ebreak legal straight other = let clash : true ≡ false = legal in absurd cc

edges-are : (image : Image) (t : Numbered) (point : ℕ) (state : PointState) (instr : Instr) → IsPlain instr
    → edges_at image t point state (Some instr) ≡ map (program_edge instr state.slots) (edges_among (after (address_of t.thread point) instr state.ranges))
unfolding edges_at
edges-are image t point state (Upper op rd immediate) plain = refl
edges-are image t point state (Jal rd offset) plain = refl
edges-are image t point state (Jalr rd rs1 offset) plain = absurd plain
edges-are image t point state (Branch op rs1 rs2 offset) plain = refl
edges-are image t point state (Load op rd rs1 offset) plain = refl
edges-are image t point state (Store op rs1 rs2 offset) plain = refl
edges-are image t point state (Immediate op rd rs1 immediate) plain = refl
edges-are image t point state (Shift op rd rs1 amount) plain = refl
edges-are image t point state (Registers op rd rs1 rs2) plain = refl
edges-are image t point state Fence plain = refl
edges-are image t point state Ecall plain = absurd plain
edges-are image t point state Ebreak plain = absurd plain

among-map : {A B : Type 0} (f : A → B) (xs : List A) (x : A) (k : ℕ) → k < length xs → get_or xs k x ≡ x → Contains (map f xs) (f x)
among-map f [] x k inside is = absurd (omega (arith, inside))
among-map f (y ∷ ys) x zero inside is = (0, omega arith, ap f is)
among-map f (y ∷ ys) x (suc k) inside is = let rest = among-map f ys x k (omega (arith, inside)) is in (suc rest.0, omega (arith, rest.1), rest.2)

-- ---- a thread that runs

not-waiting : (status : Status) → is_runnable status ≡ true → IsWaiting status → ⊥
not-waiting Inactive runs waiting = waiting
not-waiting Runnable runs waiting = waiting
not-waiting (Blocked queue) runs waiting = let clash : false ≡ true = runs in absurd cc
not-waiting AwaitsReply runs waiting = let clash : false ≡ true = runs in absurd cc
not-waiting AwaitsHandler runs waiting = waiting

module _ (image : Image) (t : Numbered) (g : IsGiven image t) (s : State) (labels : List Label) (sound : IsSound s) (now : current s ≡ Some (tcb_of image t))
    (free : ReachesNoCall s (tcb_of image t))
    (own : ThreadState) (point : ℕ) (state : PointState) (there : s.objects (tcb_of image t) ≡ Some (ThreadObject own)) (status : own.status ≡ Runnable)
    (stands : StandsAt image t s own point state) (budget : IsWithinBudget image t labels own state) where
  abbrev tcb : ℕ
  tcb = tcb_of image t

  abbrev r : RegisterFile
  r = registers_of s tcb

  abbrev content : Content
  content = content_of s tcb

  abbrev word : ℕ
  word = slice_index t.thread.words point

  same : thread_at s tcb ≡ own
  same = at-place s tcb own there

  pc-is : r.pc ≡ address_of t.thread point
  pc-is = ap (λ (u : ThreadState). u.registers.pc) same ∙ stands.pc

  lie : LieWithin r state.ranges
  lie = subst (λ (u : ThreadState). LieWithin u.registers state.ranges) (sym same) stands.registers

  fine : ThreadIsSound (thread_at s tcb)
  fine = subst ThreadIsSound (sym same) (sound.threads.threads tcb own there)

  are : AreWords r content
  are = record { count = fine.registers; words = λ x. read-less r x fine.words; bytes = λ place. byte-less s sound place (s.bytes place) refl }

  vspace : vspace_of s tcb ≡ Some (root_table_of image t)
  vspace = ap root_of stands.vspace ∙ g.root

  fetch : loaded content accesses.Fetch Word r.pc ≡ Ok word
  fetch = ap (loaded content accesses.Fetch Word) pc-is ∙ stands.program point stands.inside

  at : IsPoint image t point state
  at = g.points point state stands.inside stands.known

  module _ (instr : Instr) (is : instruction_at t.thread point ≡ Some instr) where
    plain : IsPlain instr
    plain = plain-of instr (subst (λ (o : Option Instr). is_illegal o ≡ false) is at.legal)
        (subst (λ (o : Option Instr). is_computed_jump o ≡ false) is at.straight) (λ e. free word fetch (is ∙ e))

    fits : IsInstr instr
    fits = decoded-instr word instr is

    may : MayTake r content state.ranges instr
    may =
        let mapped = subst (λ (o : Option Instr). is_unmapped image t.thread state o ≡ false) is at.mapped in
        may-take r content state.ranges are (g.forms point state stands.known).long lie instr fits plain
        (reaches-mapped image t s state g.frames sound stands.maps vspace r instr are.words lie fits mapped)

    abbrev edge : ProgramEdge
    edge = program_edge instr state.slots may.edge

    among : Contains (edges_at image t point state (instruction_at t.thread point)) edge
    among =
        let listed = subst (λ (n : ℕ). Contains (edges_among (after n instr state.ranges)) may.edge) pc-is may.among in
        subst (λ (o : Option Instr). Contains (edges_at image t point state o) edge) (sym is)
        (subst (λ (es : List ProgramEdge). Contains es edge) (sym (edges-are image t point state instr plain))
        (among-map (program_edge instr state.slots) (edges_among (after (address_of t.thread point) instr state.ranges)) may.edge listed.0 listed.1 listed.2))

    leads : LeadsOn image t state.measure edge
    leads = at.leads edge among

    abbrev left : RegisterFile
    left = (effect r content instr).registers

    goes : (effect r content instr).exec ≡ outcomes.Next
    goes = may.goes leads.aligned

    behind : (left.pc ≡ may.edge.target) × LieWithin left may.edge.ranges
    behind = may.leads goes

    abbrev next : State
    next = with_content (with_registers s tcb left) (effect r content instr).content

    abbrev label : Label
    label = Ran (memory_base + tcb) r.pc Plain

    runs-so : runs s tcb ≡ (next, Plain)
    unfolding runs
    runs-so =
        ap (runs_fetched s tcb) fetch ∙ ap (runs_decoded s tcb) is
        ∙ ap (λ (exec : Exec). after_effect s tcb r.pc r exec (next, Plain)) goes

    stepped : step s Step ≡ (next, label)
    unfolding step
    stepped = ap (λ (o : Option ℕ). option_map_or (ran s) o (s, Idle)) now
        ∙ ap (λ (d : Done). let x : State × Label = (d.0, Ran (memory_base + tcb) r.pc d.1) in x) runs-so

    abbrev next_own : ThreadState
    next_own = record (thread_at s tcb) { registers = left }

    objects : next.objects tcb ≡ Some (ThreadObject next_own)
    objects = ap (λ (b : Bool). if b then Some (ThreadObject next_own) else s.objects tcb) (eq-eqb tcb tcb refl)

    there-at : IsPoint image t leads.point leads.state
    there-at = g.points leads.point leads.state leads.inside leads.known

    slots-same : state.slots ≡ leads.state.slots
    slots-same =
        slots-back state.slots leads.state.slots (not-stray-formed image t.thread point state g.fitting (g.forms point state stands.known).low at.own)
        (not-stray-formed image t.thread leads.point leads.state g.fitting (g.forms leads.point leads.state leads.known).low there-at.own) leads.slots

    along : GoesAlong image t s point state
    along = record {
      registers = left;
      content = (effect r content instr).content;
      after = ap (λ (x : State × Label). x.0) stepped;
      label = ap (λ (x : State × Label). x.1) stepped;
      edge = edge;
      among = among;
      next = leads.point;
      inside = leads.inside;
      target = leads.target;
      pc = behind.0;
    }

    stands-there : StandsAt image t next next_own leads.point leads.state
    stands-there = record {
      inside = leads.inside;
      known = leads.known;
      pc = behind.0 ∙ leads.target;
      registers = within-wider left may.edge.ranges leads.state.ranges leads.within behind.1;
      slots = stands.slots ∙ slots-same;
      parents = λ slot listed none.
          let h = stands.parents slot (subst (λ (l : List NotedSlot). Contains l slot) (sym slots-same) listed) none in
          record { parent = h.parent; is = h.is; boot = h.boot };
      program = program-stays image t s state.slots g.frames sound stands.maps stands.code vspace left (effect r content instr).content g.pages g.base g.ends
          (λ place apart. effect-keeps r content place apart instr) stands.program;
      maps = subst (MapsAreNoted image t s) slots-same stands.maps;
      code = subst (NamesNoCode image) slots-same stands.code;
      cspace = stands.cspace;
      vspace = stands.vspace;
    }

    less : measured leads.state.measure left <ℤ measured state.measure r
    less =
        falls-is-less r content instr state.measure leads.state.measure may.edge.before may.edge.ranges are fits (g.names point state stands.known)
        (g.names leads.point leads.state leads.known) may.before behind.1 (leads.falling refl)

    within : IsWithinBudget image t (labels ++ label ∷ []) next_own leads.state
    within =
        let before : (pos (open_count tcb labels) +ℤ measured state.measure r) ≤ℤ pos t.thread.header.budget =
        subst (λ (u : ThreadState). (pos (open_count tcb labels) +ℤ measured state.measure u.registers) ≤ℤ pos t.thread.header.budget) (sym same) budget in
        subst (λ (n : ℕ). (pos n +ℤ measured leads.state.measure left) ≤ℤ pos t.thread.header.budget) (sym (open-more tcb r.pc labels))
        (within-still (open_count tcb labels) t.thread.header.budget (measured state.measure r) (measured leads.state.measure left) before less)

    kept-there : ThreadInvariant image t next (labels ++ label ∷ [])
    kept-there = runs_so next_own leads.point leads.state objects (ap (λ (u : ThreadState). u.status) same ∙ status) stands-there within

    instr-keeps : (is_fault (step s Step).1 ≡ false) × ThreadInvariant image t (step s Step).0 (labels ++ (step s Step).1 ∷ [])
    instr-keeps = subst (λ (d : State × Label). (is_fault d.1 ≡ false) × ThreadInvariant image t d.0 (labels ++ d.1 ∷ [])) (sym stepped) (refl, kept-there)

  running-keeps : (is_fault (step s Step).1 ≡ false) × ThreadInvariant image t (step s Step).0 (labels ++ (step s Step).1 ∷ [])
  running-keeps = by-instr (instruction_at t.thread point) refl
    where
      by-instr : (o : Option Instr) → instruction_at t.thread point ≡ o → (is_fault (step s Step).1 ≡ false)
          × ThreadInvariant image t (step s Step).0 (labels ++ (step s Step).1 ∷ [])
      by-instr None is = absurd (let clash : true ≡ false = subst (λ (o : Option Instr). is_illegal o ≡ false) is at.legal in cc)
      by-instr (Some instr) is = instr-keeps instr is

  along-so : GoesAlong image t s point state
  along-so = by-instr (instruction_at t.thread point) refl
    where
      by-instr : (o : Option Instr) → instruction_at t.thread point ≡ o → GoesAlong image t s point state
      by-instr None is = absurd (let clash : true ≡ false = subst (λ (o : Option Instr). is_illegal o ≡ false) is at.legal in cc)
      by-instr (Some instr) is = along instr is

-- where a thread that reaches no system call goes
pub record RunsAlong (image : Image) (t : Numbered) (s : State) : Type 0 where
  pub own : ThreadState
  pub there : s.objects (tcb_of image t) ≡ Some (ThreadObject own)
  pub status : own.status ≡ Runnable
  pub point : ℕ
  pub state : PointState
  pub stands : StandsAt image t s own point state
  pub goes : GoesAlong image t s point state

pub goes-along : (image : Image) (t : Numbered) (s : State) (labels : List Label) → IsGiven image t → IsSound s → current s ≡ Some (tcb_of image t) →
    ReachesNoCall s (tcb_of image t) → ThreadInvariant image t s labels → RunsAlong image t s
goes-along image t s labels g sound now free (runs_so own point state there status stands budget) = record {
  own = own;
  there = there;
  status = status;
  point = point;
  state = state;
  stands = stands;
  goes = along-so image t g s labels sound now free own point state there status stands budget;
}
goes-along image t s labels g sound now free (waits own point state there waiting stands waits_there none) =
    let running = current-runs s sound.threads (tcb_of image t) now in
    absurd (not-waiting own.status (subst (λ (u : ThreadState). is_runnable u.status ≡ true) (at-place s (tcb_of image t) own there) running.runs) waiting)

pub plain-keeps : (image : Image) (t : Numbered) (s : State) (labels : List Label) → IsGiven image t → IsSound s → current s ≡ Some (tcb_of image t) →
    ReachesNoCall s (tcb_of image t)
    → ThreadInvariant image t s labels → (is_fault (step s Step).1 ≡ false) × ThreadInvariant image t (step s Step).0 (labels ++ (step s Step).1 ∷ [])
plain-keeps image t s labels g sound now free (runs_so own point state there status stands budget) =
    running-keeps image t g s labels sound now free own point state there status stands budget
plain-keeps image t s labels g sound now free (waits own point state there waiting stands waits_there none) =
    let running = current-runs s sound.threads (tcb_of image t) now in
    absurd (not-waiting own.status (subst (λ (u : ThreadState). is_runnable u.status ≡ true) (at-place s (tcb_of image t) own there) running.runs) waiting)
