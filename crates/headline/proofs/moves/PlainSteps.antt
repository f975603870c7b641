-- A step that makes no system call goes well: it is the effect of one instruction, which touches no other thread.
use Rattle.std.proofs.Common.{ℕ, ◌≡◌, ◌∙◌, ◌==◌, ◌+◌, ◌-◌, ◌%◌, ◌++◌, ◌⊎◌, inl, inr, Bool, true, false, if◌then◌else◌, Option, Some, None, Result, Ok, Err}
use Rattle.std.proofs.Common.{List, [], ◌∷◌, refl, sym, ap, subst}
use Rattle.std.specs.Prelude.{Contains, slice_index}
use Rattle.std.specs.Option.{option_map_or}
use Rattle.std.proofs.lemmas.Bool.{eqb-true, eqb-false}
use Rattle.soundness.proofs.Laws.{current-runs}
use Rattle.headline.specs.facts.Standing.{AllStand, IsControlBlock}
use Rattle.headline.specs.facts.Untouched.{IsUntouched}
use Rattle.headline.specs.facts.Waiting.{WaitsAsAsked}
use Rattle.headline.proofs.kept.Laws.{hangs-kept}
use Rattle.model.specs.declared.events.Event.TheVariants.{Step}
use Rattle.model.specs.declared.instructions.Access.TheVariants.{Fetch, Load as Loading}
use Rattle.model.specs.declared.instructions.AccessSize.TheVariants.{Word}
use Rattle.model.specs.declared.instructions.Cause.{Cause}
use Rattle.model.specs.declared.instructions.Cause.TheVariants.{Illegal, Misaligned}
use Rattle.model.specs.declared.instructions.Exec.{Exec}
use Rattle.model.specs.declared.instructions.Exec.TheVariants as outcomes
use Rattle.headline.proofs.facts.Laws.{at-place}
use Rattle.model.specs.declared.instructions.Instr.{Instr}
use Rattle.model.specs.declared.instructions.Instr.TheVariants.{Upper, Jal, Jalr, Branch, Load, Store, Immediate, Shift, Registers, Fence, Ecall, Ebreak}
use Rattle.model.specs.declared.instructions.LoadOp.{LoadOp}
use Rattle.model.specs.declared.instructions.MemoryFault.{MemoryFault}
use Rattle.model.specs.declared.instructions.Register.{Register}
use Rattle.model.specs.declared.labels.Label.{Label}
use Rattle.model.specs.declared.labels.Label.TheVariants.{Idle, Ran}
use Rattle.model.specs.declared.labels.Outcome.TheVariants.{Plain}
use Rattle.model.specs.Acceptance.Accepted.{IsAccepted}
use Rattle.model.specs.Acceptance.Authority.{computed}
use Rattle.model.specs.Acceptance.NotedStates.{PointState}
use Rattle.model.specs.Acceptance.ThreadInvariants.{StandsAt, ThreadInvariant, runs as runs_so, waits as waits_so, tcb_of}
use Rattle.model.specs.Images.Described.{Numbered, numbered_threads}
use Rattle.model.specs.Images.Image.{Image}
use Rattle.model.specs.Kernel.AddressSpaces.{content_of, with_content}
use Rattle.model.specs.Kernel.Messages.{with_registers}
use Rattle.model.specs.Kernel.Scheduling.{current}
use Rattle.model.specs.Kernel.Soundness.{IsSound}
use Rattle.model.specs.Kernel.State.{State, Inactive, Runnable, ThreadObject, ThreadState, thread_at}
use Rattle.model.specs.Kernel.Steps.{Done, after_effect, memory_base, ran, registers_of, runs, runs_decoded, runs_fetched, step}
use Rattle.model.specs.Kernel.Waits.{is_error, is_fault}
use Rattle.model.specs.Machine.Decoding.{decoded}
use Rattle.model.specs.Machine.Effects.{Effect, branches, effect, goes_on, is_taken, jumps, load_size, loads, next_pc, plus, stays, store_size, stores}
use Rattle.model.specs.Machine.ProgramMemory.{Content, RegisterFile, loaded, read, stored, write}
use Rattle.headline.specs.moves.Laws.{Laws}
use Rattle.headline.specs.moves.Moving.{IsLeftAlone}
use Rattle.headline.specs.moves.Resting.{OthersRest}
use Rattle.headline.specs.moves.Steps.{GoesWell}
use Rattle.headline.proofs.moves.Calling.{IsCounted, ThreadsMove, counted, rest-by-threads}
use Rattle.headline.proofs.moves.LeftAlone.{stands-alone}
use Rattle.headline.proofs.moves.Puts.{put-here, put-there}
use Rattle.headline.proofs.moves.Ticks.{one-event}
use Rattle.headline.proofs.moves.Woken.{no-runner, runs-free, runs-status}
use Rattle.headline.specs.steps.Laws.{PlainStepsKeepThreads, WritesWhereStoresMay}
use Rattle.headline.specs.steps.Points.{ReachesNoCall}
use Rattle.headline.specs.kept.Laws.{StoresTouchNone}

-- ---- only the system call's instruction makes a system call

next-no-call : outcomes.Next ≡ outcomes.Ecall → ⊥
next-no-call clash = absurd cc

trap-no-call : (cause : Cause) → outcomes.Trap cause ≡ outcomes.Ecall → ⊥
trap-no-call cause clash = absurd cc

memory-no-call : (failed : MemoryFault) → outcomes.Memory failed.address failed.access ≡ outcomes.Ecall → ⊥
memory-no-call failed clash = absurd cc

jumps-no-call : (r : RegisterFile) (content : Content) (written : RegisterFile) (target : ℕ) → (jumps r content written target).exec ≡ outcomes.Ecall → ⊥
jumps-no-call r content written target =
    let there = goes_on (record written { pc = target }) content in
    let traps = stays r content (outcomes.Trap Misaligned) in
    elim (target % 4 == 0) as (λ (b : Bool). (if b then there else traps).exec ≡ outcomes.Ecall → ⊥) [
      | true ↦ next-no-call
      | false ↦ trap-no-call Misaligned
    ]

branches-no-call : (r : RegisterFile) (content : Content) (taken : Bool) (target : ℕ) → (branches r content taken target).exec ≡ outcomes.Ecall → ⊥
branches-no-call r content true target call = jumps-no-call r content r target call
branches-no-call r content false target call = next-no-call call

loads-no-call : (r : RegisterFile) (content : Content) (op : LoadOp) (rd : Register) (got : Result ℕ MemoryFault) →
    (loads r content op rd got).exec ≡ outcomes.Ecall → ⊥
loads-no-call r content op rd (Ok n) call = next-no-call call
loads-no-call r content op rd (Err failed) call = memory-no-call failed call

stores-no-call : (r : RegisterFile) (content : Content) (got : Result Content MemoryFault) → (stores r content got).exec ≡ outcomes.Ecall → ⊥
stores-no-call r content (Ok left) call = next-no-call call
stores-no-call r content (Err failed) call = memory-no-call failed call

only-ecall : (r : RegisterFile) (content : Content) (instr : Instr) → (instr ≡ Ecall → ⊥) → (effect r content instr).exec ≡ outcomes.Ecall → ⊥
unfolding effect
only-ecall r content (Upper op rd immediate) other call = next-no-call call
only-ecall r content (Jal rd offset) other call = jumps-no-call r content (write r rd (next_pc r)) (plus r.pc offset) call
only-ecall r content (Jalr rd rs1 offset) other call =
    let target = plus (read r rs1) offset in jumps-no-call r content (write r rd (next_pc r)) (target - target % 2) call
only-ecall r content (Branch op rs1 rs2 offset) other call = branches-no-call r content (is_taken op (read r rs1) (read r rs2)) (plus r.pc offset) call
only-ecall r content (Load op rd rs1 offset) other call = loads-no-call r content op rd (loaded content Loading (load_size op) (plus (read r rs1) offset)) call
only-ecall r content (Store op rs1 rs2 offset) other call = stores-no-call r content (stored content (store_size op) (plus (read r rs1) offset) (read r rs2))
    call
only-ecall r content (Immediate op rd rs1 immediate) other call = next-no-call call
only-ecall r content (Shift op rd rs1 amount) other call = next-no-call call
only-ecall r content (Registers op rd rs1 rs2) other call = next-no-call call
only-ecall r content Fence other call = next-no-call call
only-ecall r content Ecall other call = other refl
only-ecall r content Ebreak other call = trap-no-call Illegal call

-- an instruction without fault and system call is done
is-done : (s : State) (thread pc address : ℕ) (r : RegisterFile) (exec : Exec) (done : Done) → (exec ≡ outcomes.Ecall → ⊥)
    → is_fault (Ran address pc (after_effect s thread pc r exec done).1) ≡ false → after_effect s thread pc r exec done ≡ done
is-done s thread pc address r outcomes.Next done other fine = refl
is-done s thread pc address r outcomes.Ecall done other fine = absurd (other refl)
is-done s thread pc address r (outcomes.Trap cause) done other fine = absurd (let clash : true ≡ false = fine in cc)
is-done s thread pc address r (outcomes.Memory at access) done other fine = absurd (let clash : true ≡ false = fine in cc)

-- ---- all threads, where one sets its registers and stores

module _ (laws : Laws) (bytes : List ℕ) (image : Image) (t : Numbered) (s : State) (labels : List Label) (accepted : IsAccepted bytes image)
    (all : AllStand image s labels)
    (listed : Contains (numbered_threads image) t) (own : ThreadState) (there : s.objects (tcb_of image t) ≡ Some (ThreadObject own))
    (status : own.status ≡ Runnable)
    (left : RegisterFile) (content : Content) (pc : ℕ) where
  abbrev tcb : ℕ
  tcb = tcb_of image t

  abbrev after : State
  after = with_content (with_registers s tcb left) content

  abbrev next : ThreadState
  next = record (thread_at s tcb) { registers = left }

  abbrev later : List Label
  later = labels ++ Ran (memory_base + tcb) pc Plain ∷ []

  abbrev moves : ℕ → Bool
  moves y = y == tcb

  module _ (sound : IsSound after) (untouched : (u : Numbered) → Contains (numbered_threads image) u → IsUntouched image u s after)
      (stands : ThreadInvariant image t after later) where
    change : ThreadsMove s after moves
    change = record {
      others = λ y rests. put-there s.objects tcb (Some (ThreadObject next)) y (eqb-false y tcb rests);
      moved = λ y move. (next, put-here s.objects tcb (Some (ThreadObject next)) y (eqb-true y tcb move));
    }

    rest : OthersRest s after moves
    rest = rest-by-threads s after moves change

    counts : IsCounted image t labels later false
    counts = counted image t labels pc Plain

    waits : WaitsAsAsked image t after
    waits =
        runs-free image t after next (put-here s.objects tcb (Some (ThreadObject next)) tcb refl)
        (ap (λ (u : ThreadState). u.status) (at-place s tcb own there) ∙ status)

    alone : (u : Numbered) → Contains (numbered_threads image) u → IsLeftAlone image u s after
    alone u among = record { bytes = bytes; accepted = accepted; listed = among; before = all.sound; behind = sound; untouched = untouched u among }

    -- the thread itself, or one that is left alone
    each : (u : Numbered) → Contains (numbered_threads image) u → (b : Bool) → moves (tcb_of image u) ≡ b → ThreadInvariant image u after later
        × WaitsAsAsked image u after
    each u among true is =
        let same : t ≡ u = laws.own_blocks bytes image t u accepted listed among (sym (eqb-true (tcb_of image u) tcb is)) in
        subst (λ (v : Numbered). ThreadInvariant image v after later × WaitsAsAsked image v after) same (stands, waits)
    each u among false is =
        stands-alone laws.stand_on image u s after labels later (alone u among) (λ old was. rest.goes (tcb_of image u) old is was)
        (rest.queues (tcb_of image u) is)
        (counts.others (tcb_of image u) (eqb-false (tcb_of image u) tcb is)) (all.stand u among) (all.wait u among)

    other : (offset : ℕ) (new : ThreadState) → after.objects offset ≡ Some (ThreadObject new) → (b : Bool) → moves offset ≡ b
        → (new.status ≡ Inactive) ⊎ IsControlBlock image offset
    other offset new now true is = inr (record { thread = t; listed = listed; is = eqb-true offset tcb is })
    other offset new now false is =
        let been = rest.been offset new is now in
        elim (all.others offset been.old been.was) [
          | inl rests ↦ inl (been.status ∙ rests)
          | inr block ↦ inr block
        ]

    pub all-over-stores : AllStand image after later
    all-over-stores = record {
      sound = sound;
      stand = λ u among. (each u among (moves (tcb_of image u)) refl).0;
      wait = λ u among. (each u among (moves (tcb_of image u)) refl).1;
      others = λ offset new now. other offset new now (moves offset) refl;
      apart = all.apart;
      hang = λ u among. hangs-kept image u s after refl (λ slot. refl) (all.hang u among);
      memory_bits = all.memory_bits;
      boot_radix = all.boot_radix;
    }

-- ---- the step

module _ (laws : Laws) (keeps : PlainStepsKeepThreads) (writes : WritesWhereStoresMay) (touches : StoresTouchNone)
    (bytes : List ℕ) (image : Image) (t : Numbered) (s : State) (labels : List Label) (accepted : IsAccepted bytes image) (all : AllStand image s labels)
    (listed : Contains (numbered_threads image) t) (now : current s ≡ Some (tcb_of image t)) (free : ReachesNoCall s (tcb_of image t)) where
  abbrev thread : ℕ
  thread = tcb_of image t

  abbrev r : RegisterFile
  r = registers_of s thread

  kept : (is_fault (step s Step).1 ≡ false) × ThreadInvariant image t (step s Step).0 (labels ++ (step s Step).1 ∷ [])
  kept = keeps bytes image t s labels accepted listed all.sound (all.stand t listed) now free

  ran-so : step s Step ≡ ((runs s thread).0, Ran (memory_base + thread) r.pc (runs s thread).1)
  unfolding step
  ran-so = ap (λ (o : Option ℕ). option_map_or (ran s) o (s, Idle)) now

  module _ (own : ThreadState) (point : ℕ) (state : PointState) (there : s.objects thread ≡ Some (ThreadObject own)) (status : own.status ≡ Runnable)
      (stands : StandsAt image t s own point state) where
    abbrev word : ℕ
    word = slice_index t.thread.words point

    fetch : loaded (content_of s thread) Fetch Word r.pc ≡ Ok word
    fetch = ap (loaded (content_of s thread) Fetch Word) (ap (λ (u : ThreadState). u.registers.pc) (at-place s thread own there) ∙ stands.pc)
        ∙ stands.program point stands.inside

    fetched-so : runs s thread ≡ runs_decoded s thread (decoded word)
    unfolding runs
    fetched-so = ap (runs_fetched s thread) fetch

    no-fault : (o : Option Instr) → decoded word ≡ o → is_fault (Ran (memory_base + thread) r.pc (runs_decoded s thread o).1) ≡ false
    no-fault o is =
        sym (ap (λ (x : State × Label). is_fault x.1) ran-so
        ∙ ap (λ (d : Done). is_fault (Ran (memory_base + thread) r.pc d.1)) (fetched-so ∙ ap (runs_decoded s thread) is)) ∙ kept.0

    module _ (instr : Instr) (is : decoded word ≡ Some instr) where
      abbrev e : Effect
      e = effect r (content_of s thread) instr

      abbrev behind : State
      behind = with_content (with_registers s thread e.registers) e.content

      abbrev label : Label
      label = Ran (memory_base + thread) r.pc Plain

      no-call : e.exec ≡ outcomes.Ecall → ⊥
      no-call = only-ecall r (content_of s thread) instr (λ call. free word fetch (is ∙ ap Some call))

      done-so : runs_decoded s thread (Some instr) ≡ (behind, Plain)
      done-so = is-done s thread r.pc (memory_base + thread) r e.exec (behind, Plain) no-call (no-fault (Some instr) is)

      stepped : step s Step ≡ (behind, label)
      stepped = ran-so ∙ ap (λ (d : Done). let x : State × Label = (d.0, Ran (memory_base + thread) r.pc d.1) in x)
          (fetched-so ∙ ap (runs_decoded s thread) is ∙ done-so)

      sound : IsSound behind
      sound = subst (λ (x : State × Label). IsSound x.0) stepped (one-event laws.keeps s Step all.sound)

      keeps-so : ThreadInvariant image t behind (labels ++ label ∷ [])
      keeps-so = subst (λ (x : State × Label). ThreadInvariant image t x.0 (labels ++ x.1 ∷ [])) stepped kept.1

      untouched : (u : Numbered) → Contains (numbered_threads image) u → IsUntouched image u s behind
      untouched u among =
          touches bytes image t u s own point state accepted listed among all.sound stands e.registers e.content
          (λ place apart. writes r (content_of s thread) place apart instr)

      goes-by : GoesWell image s labels Step
      goes-by = record {
        faults = kept.0;
        errors = ap (λ (x : State × Label). is_error x.1) stepped;
        stands = subst (λ (x : State × Label). AllStand image x.0 (labels ++ x.1 ∷ [])) (sym stepped)
            (all-over-stores laws bytes image t s labels accepted all listed own there status e.registers e.content r.pc sound untouched keeps-so);
      }

    -- what spells no instruction would be a fault
    by-decoded : (Goal : Type 0) → ((instr : Instr) → decoded word ≡ Some instr → Goal) → (o : Option Instr) → decoded word ≡ o → Goal
    by-decoded Goal goes None is = absurd (let clash : true ≡ false = no-fault None is in cc)
    by-decoded Goal goes (Some instr) is = goes instr is

  from-invariant : (Goal : Type 0) → ((own : ThreadState) (point : ℕ) (state : PointState) → s.objects thread ≡ Some (ThreadObject own) → own.status ≡ Runnable
      → StandsAt image t s own point state → (instr : Instr) → decoded (slice_index t.thread.words point) ≡ Some instr → Goal)
      → ThreadInvariant image t s labels → Goal
  from-invariant Goal goes (runs_so own point state there status stands budget) =
      by-decoded own point state there status stands Goal (goes own point state there status stands) (decoded (slice_index t.thread.words point)) refl
  from-invariant Goal goes (waits_so own point state there status stands asks none) =
      let running = current-runs s all.sound.threads thread now in
      absurd (no-runner own.status (ap (λ (u : ThreadState). u.status) (sym (at-place s thread own there))
      ∙ runs-status (thread_at s thread).status running.runs) status)

  pub plain-goes-well : GoesWell image s labels Step
  plain-goes-well =
      from-invariant (GoesWell image s labels Step) (λ own point state there status stands instr is. goes-by own point state there status stands instr is)
      (all.stand t listed)

  -- what is so of each state that an instruction leaves, if it is the one at the pc, is so of what the step leaves
  pub plain-leaves : (P : State → Type 0) → ((own : ThreadState) → s.objects (tcb_of image t) ≡ Some (ThreadObject own) → own.status ≡ Runnable
      → (code : ℕ) → loaded (content_of s (tcb_of image t)) Fetch Word (registers_of s (tcb_of image t)).pc ≡ Ok code
      → (instr : Instr) → decoded code ≡ Some instr → P (computed s (tcb_of image t) instr)) → P (step s Step).0
  plain-leaves P each =
      from-invariant (P (step s Step).0) (λ own point state there status stands instr is.
      subst (λ (x : State × Label). P x.0) (sym (stepped own point state there status stands instr is))
      (each own there status (word own point state there status stands) (fetch own point state there status stands) instr is)) (all.stand t listed)
