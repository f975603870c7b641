-- All events of an accepted image go well if its steps do: so they do up to its first invocation.
use Rattle.std.proofs.Common.{ℕ, ◌≡◌, ◌∙◌, ◌++◌, ◌⊎◌, inl, inr, true, false, Option, Some, None, Result, Ok, Err, List, [], ◌∷◌, All, refl, sym, ap, subst}
use Rattle.std.specs.Prelude.{Contains}
use Rattle.std.specs.Option.{option_map_or}
use Rattle.std.proofs.lemmas.List.Elements.{All-cons, All-head, All-nil, All-tail}
use Rattle.soundness.proofs.Laws.{current-runs}
use Rattle.headline.specs.facts.Standing.{AllStand}
use Rattle.model.specs.declared.events.Event.{Event}
use Rattle.model.specs.declared.events.Event.TheVariants.{Step, Tick, Irq, Write, Read}
use Rattle.model.specs.declared.instructions.Access.TheVariants as accesses
use Rattle.model.specs.declared.instructions.AccessSize.TheVariants.{Word}
use Rattle.model.specs.declared.instructions.Instr.{Instr}
use Rattle.model.specs.declared.instructions.Instr.TheVariants.{Upper, Jal, Jalr, Branch, Load, Store, Immediate, Shift, Registers, Fence, Ecall, Ebreak}
use Rattle.model.specs.declared.instructions.MemoryFault.{MemoryFault}
use Rattle.model.specs.declared.labels.Label.{Label}
use Rattle.model.specs.declared.labels.Label.TheVariants.{Idle}
use Rattle.model.specs.Acceptance.Accepted.{IsAccepted}
use Rattle.model.specs.Acceptance.Devices.{KeepsDevices}
use Rattle.model.specs.Acceptance.ThreadInvariants.{tcb_of}
use Rattle.model.specs.Images.Described.{Numbered, described, numbered_threads}
use Rattle.model.specs.Images.Image.{Image}
use Rattle.model.specs.Kernel.AddressSpaces.{content_of}
use Rattle.model.specs.Kernel.Scheduling.{current, is_runnable}
use Rattle.model.specs.Kernel.State.{State, Status, Inactive, Runnable, Blocked, AwaitsReply, AwaitsHandler, thread_at}
use Rattle.model.specs.Kernel.Steps.{place_of, ran, registers_of, state_after, step, trace}
use Rattle.model.specs.Kernel.Waits.{is_error, is_fault}
use Rattle.model.specs.Machine.Decoding.{decoded}
use Rattle.model.specs.Machine.ProgramMemory.{loaded}
use Rattle.headline.specs.moves.Laws.{InterruptsGoWell, Laws, PlainStepsGoWell, ReadsGoWell, TicksGoWell, WritesGoWell}
use Rattle.headline.specs.moves.Steps.{GoesWell, HasGoneWell, MakesCall}
use Rattle.headline.proofs.kept.Laws.{device-word}
use Rattle.headline.proofs.moves.Interrupts.{unchanged-stand}
use Rattle.headline.proofs.moves.Puts.{other-label, thread-there}
use Rattle.headline.specs.steps.Points.{ReachesNoCall}

-- ---- a step

-- a thread makes a system call, or none
module _ (s : State) (thread : ℕ) where
  abbrev Either : Type 0
  Either = MakesCall s thread ⊎ ReachesNoCall s thread

  abbrev Fetched : Result ℕ MemoryFault → Type 0
  Fetched r = loaded (content_of s thread) accesses.Fetch Word (registers_of s thread).pc ≡ r

  one-word : (a b : ℕ) → Fetched (Ok a) → Fetched (Ok b) → a ≡ b
  one-word a b first second = let both : ◌≡◌ {A = Result ℕ MemoryFault} (Ok a) (Ok b) = sym first ∙ second in cc

  other-instruction : (word : ℕ) → Fetched (Ok word) → (o : Option Instr) → decoded word ≡ o → (o ≡ Some Ecall → ⊥) → Either
  other-instruction word fetched o is other = inr (λ found fetch call. other (sym is ∙ ap decoded (one-word word found fetched fetch) ∙ call))

  by-instruction : (word : ℕ) → Fetched (Ok word) → (o : Option Instr) → decoded word ≡ o → Either
  by-instruction word fetched (Some Ecall) is = inl (record { word = word; fetched = fetched; call = is })
  by-instruction word fetched None is = other-instruction word fetched None is (λ clash. absurd cc)
  by-instruction word fetched (Some (Upper op rd immediate)) is = other-instruction word fetched (Some (Upper op rd immediate)) is (λ clash. absurd cc)
  by-instruction word fetched (Some (Jal rd offset)) is = other-instruction word fetched (Some (Jal rd offset)) is (λ clash. absurd cc)
  by-instruction word fetched (Some (Jalr rd rs1 offset)) is = other-instruction word fetched (Some (Jalr rd rs1 offset)) is (λ clash. absurd cc)
  by-instruction word fetched (Some (Branch op rs1 rs2 offset)) is = other-instruction word fetched (Some (Branch op rs1 rs2 offset)) is (λ clash. absurd cc)
  by-instruction word fetched (Some (Load op rd rs1 offset)) is = other-instruction word fetched (Some (Load op rd rs1 offset)) is (λ clash. absurd cc)
  by-instruction word fetched (Some (Store op rs1 rs2 offset)) is = other-instruction word fetched (Some (Store op rs1 rs2 offset)) is (λ clash. absurd cc)
  by-instruction word fetched (Some (Immediate op rd rs1 immediate)) is =
      other-instruction word fetched (Some (Immediate op rd rs1 immediate)) is (λ clash. absurd cc)
  by-instruction word fetched (Some (Shift op rd rs1 amount)) is = other-instruction word fetched (Some (Shift op rd rs1 amount)) is (λ clash. absurd cc)
  by-instruction word fetched (Some (Registers op rd rs1 rs2)) is = other-instruction word fetched (Some (Registers op rd rs1 rs2)) is (λ clash. absurd cc)
  by-instruction word fetched (Some Fence) is = other-instruction word fetched (Some Fence) is (λ clash. absurd cc)
  by-instruction word fetched (Some Ebreak) is = other-instruction word fetched (Some Ebreak) is (λ clash. absurd cc)

  by-fetch : (r : Result ℕ MemoryFault) → Fetched r → Either
  by-fetch (Ok word) fetched = by-instruction word fetched (decoded word) refl
  by-fetch (Err fault) failed = inr (λ found fetch call. absurd (let clash : ◌≡◌ {A = Result ℕ MemoryFault} (Err fault) (Ok found) = sym failed ∙ fetch in cc))

  either-step : Either
  either-step = by-fetch (loaded (content_of s thread) accesses.Fetch Word (registers_of s thread).pc) refl

-- a thread that runs is not stopped
not-stopped : (status : Status) → is_runnable status ≡ true → status ≡ Inactive → ⊥
not-stopped Inactive runs is = absurd (let clash : false ≡ true = runs in cc)
not-stopped Runnable runs is = absurd cc
not-stopped (Blocked queue) runs is = absurd cc
not-stopped AwaitsReply runs is = absurd cc
not-stopped AwaitsHandler runs is = absurd cc

-- no thread runs, or one of the image's does, whose step makes a system call or none
module _ (image : Image) (s : State) (labels : List Label) (all : AllStand image s labels) (Goal : Type 0) (idle : current s ≡ None → Goal)
    (calls : (t : Numbered) → Contains (numbered_threads image) t → current s ≡ Some (tcb_of image t) → MakesCall s (tcb_of image t) → Goal)
    (plain : (t : Numbered) → Contains (numbered_threads image) t → current s ≡ Some (tcb_of image t) → ReachesNoCall s (tcb_of image t) → Goal) where
  thread-steps : (x : ℕ) → current s ≡ Some x → Goal
  thread-steps x now =
      let running = current-runs s all.sound.threads x now in
      elim (all.others x (thread_at s x) (thread-there (s.objects x) running.kind)) [
        | inl stopped ↦ absurd (not-stopped (thread_at s x).status running.runs stopped)
        | inr block ↦
            let here : current s ≡ Some (tcb_of image block.thread) = now ∙ ap Some block.is in
            elim (either-step s (tcb_of image block.thread)) [
              | inl makes ↦ calls block.thread block.listed here makes
              | inr none ↦ plain block.thread block.listed here none
            ]
      ]

  pub step-cases : Goal
  step-cases = elim (current s) as (λ o. current s ≡ o → Goal) [
    | None ↦ idle
    | Some x ↦ λ now. thread-steps x now
  ] refl

pub idle-is : (s : State) → current s ≡ None → step s Step ≡ (s, Idle)
unfolding step
idle-is s none = ap (λ (o : Option ℕ). option_map_or (ran s) o (s, Idle)) none

module _ (laws : Laws) (plain : PlainStepsGoWell) (bytes : List ℕ) (image : Image) (s : State) (labels : List Label) (accepted : IsAccepted bytes image)
    (all : AllStand image s labels)
    (calls : (t : Numbered) → Contains (numbered_threads image) t → current s ≡ Some (tcb_of image t) → MakesCall s (tcb_of image t) →
    GoesWell image s labels Step) where
  idle-goes : current s ≡ None → GoesWell image s labels Step
  idle-goes none =
      let stands = unchanged-stand laws bytes image s labels (labels ++ Idle ∷ []) accepted all (λ t listed. other-label (tcb_of image t) labels Idle refl) s
      all.sound
      (record { memory_bits = refl; boot_radix = refl; slots = λ slot. refl; bytes = λ frame place code low high. refl }) (λ y. refl) in
      record {
        faults = ap (λ (x : State × Label). is_fault x.1) (idle-is s none);
        errors = ap (λ (x : State × Label). is_error x.1) (idle-is s none);
        stands = subst (λ (x : State × Label). AllStand image x.0 (labels ++ x.1 ∷ [])) (sym (idle-is s none)) stands;
      }

  pub step-goes-by : GoesWell image s labels Step
  step-goes-by =
      step-cases image s labels all (GoesWell image s labels Step) idle-goes calls
      (λ t listed here none. plain bytes image t s labels accepted all listed here none)

-- ---- events, one after another

abbrev NoFault : Label → Type 0
NoFault label = is_fault label ≡ false

abbrev NoError : Label → Type 0
NoError label = is_error label ≡ false

-- what is true of labels before and after some events
record GoneWell (image : Image) (s : State) (labels : List Label) (events : List Event) : Type 0 where
  stand : AllStand image (state_after s events) (labels ++ trace s events)
  faults : All NoFault (trace s events)
  errors : All NoError (trace s events)

behind-nothing : (labels : List Label) → labels ++ [] ≡ labels
behind-nothing [] = refl
behind-nothing (l ∷ labels) = ap (λ (ls : List Label). l ∷ ls) (behind-nothing labels)

one-by-one : (labels : List Label) (l : Label) (later : List Label) → (labels ++ l ∷ []) ++ later ≡ labels ++ l ∷ later
one-by-one [] l later = refl
one-by-one (x ∷ labels) l later = ap (λ (ls : List Label). x ∷ ls) (one-by-one labels l later)

module _ (ticks : TicksGoWell) (interrupts : InterruptsGoWell) (world_writes : WritesGoWell) (world_reads : ReadsGoWell) (bytes : List ℕ) (image : Image)
    (accepted : IsAccepted bytes image)
    (steps : (s : State) (labels : List Label) → AllStand image s labels → GoesWell image s labels Step) where
  event-goes : (s : State) (labels : List Label) (event : Event) → KeepsDevices image event → AllStand image s labels → GoesWell image s labels event
  unfolding state_after step
  event-goes s labels Step devices all = steps s labels all
  event-goes s labels Tick devices all = record { faults = refl; errors = refl; stands = ticks bytes image s labels accepted all }
  event-goes s labels (Irq number) devices all =
      record { faults = refl; errors = refl; stands = interrupts bytes image s labels number accepted all }
  event-goes s labels (Write address word) devices all =
      record {
        faults = refl;
        errors = refl;
        stands = world_writes bytes image s labels address word accepted all (device-word bytes image
            (place_of address) accepted devices);
      }
  event-goes s labels (Read address) devices all =
      record { faults = refl; errors = refl; stands = world_reads bytes image s labels address accepted all }

  events-go : (s : State) (labels : List Label) (events : List Event) → All (KeepsDevices image) events → AllStand image s labels
      → GoneWell image s labels events
  unfolding state_after trace
  events-go s labels [] devices all = record {
    stand = subst (AllStand image s) (sym
        (behind-nothing labels)) all;
    faults = All-nil NoFault;
    errors = All-nil NoError;
  }
  events-go s labels (event ∷ rest) devices all =
      let well = event-goes s labels event (All-head (KeepsDevices image) event rest devices) all in
      let next = step s event in
      let later = events-go next.0 (labels ++ next.1 ∷ []) rest (All-tail (KeepsDevices image) event rest devices) well.stands in
      record {
        stand = subst (AllStand image (state_after next.0 rest)) (one-by-one labels next.1 (trace next.0 rest)) (GoneWell.stand later);
        faults = All-cons NoFault next.1 (trace next.0 rest) well.faults (GoneWell.faults later);
        errors = All-cons NoError next.1 (trace next.0 rest) well.errors (GoneWell.errors later);
      }

  pub run-goes-by : (events : List Event) → All (KeepsDevices image) events → AllStand image (described image) [] → HasGoneWell image events
  run-goes-by events devices start =
      let gone = events-go (described image) [] events devices start in
      record { stand = GoneWell.stand gone; faults = GoneWell.faults gone; errors = GoneWell.errors gone }
