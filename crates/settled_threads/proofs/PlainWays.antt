-- A thread that reaches no system call goes on as the rules on programs have it, from any ranges in which its registers lie.
use Rattle.std.proofs.Common.{ℕ, zero, suc, ◌≡◌, ◌∙◌, ◌==◌, ◌+◌, ◌^◌, ◌<◌, ◌||◌, Bool, true, false, not, List, [], ◌∷◌, length, get_or, map, Option, Some, None}
use Rattle.std.proofs.Common.{Ok, refl, sym, ap, subst, arith}
use Rattle.std.specs.Prelude.{Contains, slice_index}
use Rattle.std.specs.List.{list_all}
use Rattle.std.specs.Option.{option_map_or}
use Rattle.model.specs.declared.events.Event.TheVariants.{Step}
use Rattle.model.specs.declared.instructions.Access.TheVariants.{Fetch}
use Rattle.model.specs.declared.instructions.AccessSize.TheVariants.{Word}
use Rattle.model.specs.declared.instructions.Exec.{Exec}
use Rattle.model.specs.declared.instructions.Exec.TheVariants.{Next}
use Rattle.model.specs.declared.instructions.Instr.{Instr}
use Rattle.model.specs.declared.instructions.Instr.TheVariants.{Upper, Jal, Jalr, Branch, Load, Store, Immediate, Shift, Registers, Fence, Ecall, Ebreak}
use Rattle.model.specs.declared.instructions.Register.{Register}
use Rattle.model.specs.declared.labels.Label.{Label}
use Rattle.model.specs.declared.labels.Label.TheVariants.{Idle, Ran}
use Rattle.model.specs.declared.labels.Outcome.TheVariants.{Plain}
use Rattle.model.specs.declared.ranges.Range.{Range}
use Rattle.model.specs.Acceptance.Edges.{Edge, after}
use Rattle.model.specs.Acceptance.NotedStates.{PointState}
use Rattle.model.specs.Acceptance.PointRules.{ProgramEdge, edges_at, is_computed_jump, is_illegal, is_unmapped, program_edge}
use Rattle.model.specs.Acceptance.PointStates.{address_of, instruction_at}
use Rattle.model.specs.Acceptance.ThreadInvariants.{LieWithin, StandsAt, root_table_of, tcb_of}
use Rattle.model.specs.Capabilities.CapabilityKinds.{root_of}
use Rattle.model.specs.Images.Described.{Numbered}
use Rattle.model.specs.Images.Image.{Image}
use Rattle.model.specs.Kernel.AddressSpaces.{content_of, vspace_of, with_content}
use Rattle.model.specs.Kernel.Messages.{with_registers}
use Rattle.model.specs.Kernel.Scheduling.{current}
use Rattle.model.specs.Kernel.Soundness.{IsSound, ThreadIsSound}
use Rattle.model.specs.Kernel.State.{Object, State, ThreadObject, ThreadState, thread_at}
use Rattle.model.specs.Kernel.Steps.{Done, after_effect, memory_base, ran, registers_of, runs, runs_decoded, runs_fetched, step}
use Rattle.model.specs.Machine.Effects.{effect}
use Rattle.model.specs.Machine.Instructions.{IsInstr}
use Rattle.model.specs.Machine.ProgramMemory.{Content, RegisterFile, loaded, read}
use Rattle.soundness.proofs.Laws.{byte-less}
use Rattle.headline.proofs.Laws.{IsGiven, RunsAlong, at-place}
use Rattle.headline.specs.steps.Laws.{DecodedFieldsLieInTheirRanges, InstructionsTakeEdges, MappedAccessesDoNotFault}
use Rattle.headline.specs.steps.Points.{IsPoint, LeadsOn, ReachesNoCall}
use Rattle.headline.specs.steps.Taken.{IsPlain, MayTake, Reaches, edges_among}
use Rattle.response.proofs.Laws.{put-at, thread-of}
use Rattle.settled_threads.specs.Answering.{are_known, leads_known}
use Rattle.settled_threads.proofs.MessageRegisters.{read-small}

-- ---- instructions

plain-of : (instr : Instr) → is_illegal (Some instr) ≡ false → is_computed_jump (Some instr) ≡ false → (Some instr ≡ Some Ecall → ⊥) → IsPlain instr
plain-of (Upper op rd immediate) legal straight other = tt
plain-of (Jal rd offset) legal straight other = tt
plain-of (Jalr rd rs1 offset) legal straight other = let clash : true ≡ false = straight in absurd cc
plain-of (Branch op rs1 rs2 offset) legal straight other = tt
plain-of (Load op rd rs1 offset) legal straight other = tt
plain-of (Store op rs1 rs2 offset) legal straight other = tt
plain-of (Immediate op rd rs1 immediate) legal straight other = tt
plain-of (Shift op rd rs1 amount) legal straight other = tt
plain-of (Registers op rd rs1 rs2) legal straight other = tt
plain-of Fence legal straight other = tt
plain-of Ecall legal straight other = absurd (other refl)
plain-of Ebreak legal straight other = let clash : true ≡ false = legal in absurd cc

edges-are : (image : Image) (t : Numbered) (point : ℕ) (state : PointState) (instr : Instr) → IsPlain instr
    → edges_at image t point state (Some instr) ≡ map (program_edge instr state.slots) (edges_among (after (address_of t.thread point) instr state.ranges))
unfolding edges_at
edges-are image t point state (Upper op rd immediate) plain = refl
edges-are image t point state (Jal rd offset) plain = refl
edges-are image t point state (Jalr rd rs1 offset) plain = absurd plain
edges-are image t point state (Branch op rs1 rs2 offset) plain = refl
edges-are image t point state (Load op rd rs1 offset) plain = refl
edges-are image t point state (Store op rs1 rs2 offset) plain = refl
edges-are image t point state (Immediate op rd rs1 immediate) plain = refl
edges-are image t point state (Shift op rd rs1 amount) plain = refl
edges-are image t point state (Registers op rd rs1 rs2) plain = refl
edges-are image t point state Fence plain = refl
edges-are image t point state Ecall plain = absurd plain
edges-are image t point state Ebreak plain = absurd plain

-- what is known on the ways from such an instruction
abbrev known_on_ways : ℕ → ℕ → List Range → Option (List Range) → Instr → Bool
known_on_ways pc target ranges next instr =
    list_all (λ (edge : Edge). not (edge.target == target) || are_known next edge.ranges) (edges_among (after pc instr ranges))

pub plainly-known : (pc target : ℕ) (ranges : List Range) (next : Option (List Range)) (instr : Instr) → IsPlain instr
    → leads_known pc target ranges next (Some instr) ≡ known_on_ways pc target ranges next instr
plainly-known pc target ranges next (Upper op rd immediate) plain = refl
plainly-known pc target ranges next (Jal rd offset) plain = refl
plainly-known pc target ranges next (Jalr rd rs1 offset) plain = absurd plain
plainly-known pc target ranges next (Branch op rs1 rs2 offset) plain = refl
plainly-known pc target ranges next (Load op rd rs1 offset) plain = refl
plainly-known pc target ranges next (Store op rs1 rs2 offset) plain = refl
plainly-known pc target ranges next (Immediate op rd rs1 immediate) plain = refl
plainly-known pc target ranges next (Shift op rd rs1 amount) plain = refl
plainly-known pc target ranges next (Registers op rd rs1 rs2) plain = refl
plainly-known pc target ranges next Fence plain = refl
plainly-known pc target ranges next Ecall plain = absurd plain
plainly-known pc target ranges next Ebreak plain = absurd plain

among-map : {A B : Type 0} (f : A → B) (xs : List A) (x : A) (k : ℕ) → k < length xs → get_or xs k x ≡ x → Contains (map f xs) (f x)
among-map f [] x k inside is = absurd (omega (arith, inside))
among-map f (y ∷ ys) x zero inside is = (0, omega arith, ap f is)
among-map f (y ∷ ys) x (suc k) inside is = let rest = among-map f ys x k (omega (arith, inside)) is in (suc rest.0, omega (arith, rest.1), rest.2)

-- ---- a step

-- where it goes from these ranges
pub record TakesFrom (image : Image) (t : Numbered) (s : State) (run : RunsAlong image t s) (ranges : List Range) : Type 0 where
  pub instr : Instr
  pub is : instruction_at t.thread (RunsAlong.point run) ≡ Some instr
  pub plain : IsPlain instr
  pub edge : Edge
  pub among : Contains (edges_among (after (address_of t.thread (RunsAlong.point run)) instr ranges)) edge
  pub there : (RunsAlong.goes run).registers.pc ≡ edge.target
  pub within : LieWithin (RunsAlong.goes run).registers edge.ranges

module _ (takes : InstructionsTakeEdges) (reaches : MappedAccessesDoNotFault) (decodes : DecodedFieldsLieInTheirRanges) (image : Image) (t : Numbered)
    (g : IsGiven image t) (s : State) (sound : IsSound s) (now : current s ≡ Some (tcb_of image t)) (free : ReachesNoCall s (tcb_of image t))
    (run : RunsAlong image t s) where
  abbrev tcb : ℕ
  tcb = tcb_of image t

  abbrev r : RegisterFile
  r = registers_of s tcb

  abbrev content : Content
  content = content_of s tcb

  abbrev point : ℕ
  point = RunsAlong.point run

  abbrev state : PointState
  state = RunsAlong.state run

  here : StandsAt image t s (RunsAlong.own run) (RunsAlong.point run) (RunsAlong.state run)
  here = RunsAlong.stands run

  same : thread_at s tcb ≡ RunsAlong.own run
  same = at-place s tcb (RunsAlong.own run) (RunsAlong.there run)

  pc-is : r.pc ≡ address_of t.thread point
  pc-is = ap (λ (u : ThreadState). u.registers.pc) same ∙ here.pc

  lie : LieWithin r state.ranges
  lie = subst (λ (u : ThreadState). LieWithin u.registers state.ranges) (sym same) here.registers

  fine : ThreadIsSound (thread_at s tcb)
  fine = subst ThreadIsSound (sym same) (sound.threads.threads tcb (RunsAlong.own run) (RunsAlong.there run))

  small : (x : Register) → read r x < 2 ^ 32
  small x = read-small r x fine.words

  bytes-small : (place : ℕ) → content.byte place < 2 ^ 8
  bytes-small place = byte-less s sound place (s.bytes place) refl

  vspace : vspace_of s tcb ≡ Some (root_table_of image t)
  vspace = ap root_of here.vspace ∙ g.root

  fetch : loaded content Fetch Word r.pc ≡ Ok (slice_index t.thread.words point)
  fetch = ap (loaded content Fetch Word) pc-is ∙ here.program point here.inside

  at : IsPoint image t point state
  at = g.points point state here.inside here.known

  module _ (instr : Instr) (is : instruction_at t.thread point ≡ Some instr) where
    plain : IsPlain instr
    plain =
        plain-of instr (subst (λ (o : Option Instr). is_illegal o ≡ false) is at.legal)
        (subst (λ (o : Option Instr). is_computed_jump o ≡ false) is at.straight)
        (λ e. free (slice_index t.thread.words point) fetch (is ∙ e))

    fits : IsInstr instr
    fits = decodes (slice_index t.thread.words point) instr is

    reached : Reaches r content instr
    reached =
        reaches image t s state r instr g.frames sound here.maps vspace small lie fits
        (subst (λ (o : Option Instr). is_unmapped image t.thread state o ≡ false) is at.mapped)

    noted_way : MayTake r content state.ranges instr
    noted_way =
        takes r content state.ranges (record { count = fine.registers; words = small; bytes = bytes-small }) (g.forms point state here.known).long lie
        instr fits plain reached

    leads : LeadsOn image t state.measure (program_edge instr state.slots noted_way.edge)
    leads =
        let listed = subst (λ (n : ℕ). Contains (edges_among (after n instr state.ranges)) noted_way.edge) pc-is noted_way.among in
        at.leads (program_edge instr state.slots noted_way.edge)
        (subst (λ (o : Option Instr). Contains (edges_at image t point state o) (program_edge instr state.slots noted_way.edge)) (sym is)
        (subst (λ (es : List ProgramEdge). Contains es (program_edge instr state.slots noted_way.edge)) (sym (edges-are image t point state instr plain))
        (among-map (program_edge instr state.slots) (edges_among (after (address_of t.thread point) instr state.ranges)) noted_way.edge listed.0 listed.1
        listed.2)))

    goes : (effect r content instr).exec ≡ Next
    goes = noted_way.goes leads.aligned

    abbrev left : RegisterFile
    left = (effect r content instr).registers

    abbrev next : State
    next = with_content (with_registers s tcb left) (effect r content instr).content

    runs-so : runs s tcb ≡ (next, Plain)
    unfolding runs
    runs-so = ap (runs_fetched s tcb) fetch ∙ ap (runs_decoded s tcb) is ∙ ap (λ (exec : Exec). after_effect s tcb r.pc r exec (next, Plain)) goes

    stepped : (step s Step).0 ≡ next
    unfolding step
    stepped =
        ap (λ (o : Option ℕ). (option_map_or (ran s) o (s, Idle)).0) now
        ∙ ap (λ (d : Done). (let x : State × Label = (d.0, Ran (memory_base + tcb) r.pc d.1) in x).0) runs-so

    left-is : (RunsAlong.goes run).registers ≡ left
    left-is =
        sym (ap (λ (o : Option Object). (thread-of o).registers)
        (put-at s.objects tcb (Some (ThreadObject (record (thread_at s tcb) { registers = (RunsAlong.goes run).registers })))))
        ∙ sym (ap (λ (x : State). (thread_at x tcb).registers) (RunsAlong.goes run).after)
        ∙ ap (λ (x : State). (thread_at x tcb).registers) stepped
        ∙ ap (λ (o : Option Object). (thread-of o).registers) (put-at s.objects tcb (Some (ThreadObject (record (thread_at s tcb) { registers = left }))))

    from : (ranges : List Range) → length ranges ≡ 31 → LieWithin (registers_of s (tcb_of image t)) ranges → TakesFrom image t s run ranges
    from ranges long within =
        let way =
        takes r content ranges (record { count = fine.registers; words = small; bytes = bytes-small }) long within instr fits plain reached in
        let ends = way.leads goes in
        record {
          instr = instr;
          is = is;
          plain = plain;
          edge = way.edge;
          among = subst (λ (n : ℕ). Contains (edges_among (after n instr ranges)) way.edge) pc-is way.among;
          there = ap (λ (x : RegisterFile). x.pc) left-is ∙ ends.0;
          within = subst (λ (x : RegisterFile). LieWithin x way.edge.ranges) (sym left-is) ends.1;
        }

  pub takes-from : (ranges : List Range) → length ranges ≡ 31 → LieWithin (registers_of s (tcb_of image t)) ranges → TakesFrom image t s run ranges
  takes-from ranges long within = by-instr (instruction_at t.thread point) refl
    where
      by-instr : (o : Option Instr) → instruction_at t.thread point ≡ o → TakesFrom image t s run ranges
      by-instr None is = absurd (let clash : true ≡ false = subst (λ (o : Option Instr). is_illegal o ≡ false) is at.legal in cc)
      by-instr (Some instr) is = from instr is ranges long within
