-- Every event keeps soundness, if instructions do.
use Rattle.std.proofs.Common.{ℕ, zero, suc, ◌≡◌, ◌^◌, ◌<◌, List, [], ◌∷◌, map, Option, Some, None, Result, Ok, Err, refl, ap, subst, arith}
use Rattle.std.specs.Prelude.{All}
use Rattle.std.specs.Int.{from_le_bytes}
use Rattle.std.specs.Option.{option_map_or}
use Rattle.std.proofs.lemmas.List.Elements.{All-cons, All-nil}
use Rattle.model.specs.declared.events.Event.{Event}
use Rattle.model.specs.declared.events.Event.TheVariants.{Step, Tick, Irq, Write, Read}
use Rattle.model.specs.declared.instructions.Access.{Access}
use Rattle.model.specs.declared.instructions.Access.TheVariants.{Load, Store, Fetch}
use Rattle.model.specs.declared.instructions.AccessSize.TheVariants.{Word}
use Rattle.model.specs.declared.instructions.Cause.{Cause}
use Rattle.model.specs.declared.instructions.Cause.TheVariants.{Illegal, Misaligned}
use Rattle.model.specs.declared.instructions.Exec.{Exec}
use Rattle.model.specs.declared.instructions.Exec.TheVariants.{Next, Ecall, Trap, Memory}
use Rattle.model.specs.declared.instructions.Instr.{Instr}
use Rattle.model.specs.declared.instructions.MemoryFault.{MemoryFault}
use Rattle.model.specs.declared.labels.Label.TheVariants.{Idle}
use Rattle.model.specs.declared.labels.Outcome.TheVariants.{Plain}
use Rattle.model.specs.Kernel.AddressSpaces.{content_of, with_content}
use Rattle.model.specs.Kernel.Faults.{fault, instruction_fault, memory_fault}
use Rattle.model.specs.Kernel.Messages.{with_registers}
use Rattle.model.specs.Kernel.Scheduling.{current}
use Rattle.model.specs.Kernel.State.{State, thread_at}
use Rattle.model.specs.Kernel.Steps.{Done, after_effect, place_of, ran, registers_of, runs, runs_decoded, runs_fetched, state_after, step}
use Rattle.model.specs.Machine.Decoding.{decoded}
use Rattle.model.specs.Machine.Effects.{access_number, cause_number, effect}
use Rattle.model.specs.Machine.ProgramMemory.{Content, ◌>>=◌, loaded, next_address, place_at, place_or_fault, places_from, width_of}
use Rattle.model.specs.Kernel.Soundness.{IsSound}
use Rattle.soundness.proofs.Instructions.{InstructionsKeep}
use Rattle.soundness.specs.Running.{IsRunning, RegistersAreSound}
use Rattle.soundness.proofs.Bytes.{content-whole}
use Rattle.soundness.proofs.Events.{fault-whole, raise-whole}
use Rattle.soundness.proofs.Registers.{registers-of}
use Rattle.soundness.proofs.Running.{current-runs}
use Rattle.soundness.proofs.SystemCalls.{system_call-whole}
use Rattle.soundness.proofs.ThreadCalls.{fine-of, registers-whole, tick-whole}
use Rattle.soundness.proofs.WorldWrites.{written-whole}

pub access-less : (access : Access) → access_number access < 2 ^ 32
access-less Load = omega arith
access-less Store = omega arith
access-less Fetch = omega arith

pub cause-less : (cause : Cause) → cause_number cause < 2 ^ 32
cause-less Illegal = omega arith
cause-less Misaligned = omega arith

-- the address of a fault is a word
named-less : (o : Option ℕ) (access : Access) (address : ℕ) (failed : MemoryFault) → address < 2 ^ 32 → place_or_fault o access address ≡ Err failed
    → failed.address < 2 ^ 32
named-less (Some place) access address failed less is = let e : ◌≡◌ {A = Result ℕ MemoryFault} (Ok place) (Err failed) = is in absurd cc
named-less None access address failed less is =
    let at : MemoryFault = record { address = address; access = access } in
    let e : at ≡ failed = cc is in
    subst (λ (f : MemoryFault). f.address < 2 ^ 32) e less

pub then-less : {A B : Type 0} (r : Result A MemoryFault) (f : A → Result B MemoryFault) (failed : MemoryFault) → (r ≡ Err failed → failed.address < 2 ^ 32)
    → ((a : A) → f a ≡ Err failed → failed.address < 2 ^ 32) → (r >>= f) ≡ Err failed → failed.address < 2 ^ 32
then-less (Ok x) f failed one other is = other x is
then-less {A} {B} (Err e) f failed one other is =
    one (let g : e ≡ failed = (let h : ◌≡◌ {A = Result B MemoryFault} (Err e) (Err failed) = is in cc) in ap (λ (m : MemoryFault). Err m) g)

pub places-less : (content : Content) (access : Access) (count address : ℕ) (failed : MemoryFault) → address < 2 ^ 32
    → places_from content access address count ≡ Err failed → failed.address < 2 ^ 32
places-less content access zero address failed less is = let e : ◌≡◌ {A = Result (List ℕ) MemoryFault} (Ok []) (Err failed) = is in absurd cc
places-less content access (suc count) address failed less is =
    then-less (place_at content access address) _ failed (λ so. named-less (content.place access address) access address failed less so)
    (λ place so.
    then-less (places_from content access (next_address address) count) _ failed
    (λ later. places-less content access count (next_address address) failed (omega arith) later)
    (λ others done. let e : ◌≡◌ {A = Result (List ℕ) MemoryFault} (Ok (place ∷ others)) (Err failed) = done in absurd cc) so) is

pub small-two : (a b : ℕ) → a < 2 ^ 32 → b < 2 ^ 32 → All (λ n. n < 2 ^ 32) (a ∷ b ∷ [])
small-two a b one other = let rest : List ℕ = b ∷ [] in All-cons (λ (n : ℕ). n < 2 ^ 32) a rest one
    (All-cons (λ (n : ℕ). n < 2 ^ 32) b [] other (All-nil (λ (n : ℕ). n < 2 ^ 32)))

-- the bytes that a thread sees
pub byte-less : (s : State) → IsSound s → (place : ℕ) (o : Option ℕ) → s.bytes place ≡ o → option_map_or (λ byte. byte) o 0 < 2 ^ 8
byte-less s whole place None is = omega arith
byte-less s whole place (Some byte) is = whole.memory.small place byte is

module _ (instructions : InstructionsKeep) (s : State) (thread : ℕ) (whole : IsSound s) (running : IsRunning s thread) where
  registers : RegistersAreSound (registers_of s thread)
  registers = registers-of (thread_at s thread) (fine-of s whole thread running.kind)

  memory-whole : (failed : MemoryFault) → failed.address < 2 ^ 32 → IsSound (fault s thread (memory_fault (registers_of s thread).pc failed))
  memory-whole failed less =
      let pc = (registers_of s thread).pc in
      let rest : List ℕ = failed.address ∷ access_number failed.access ∷ [] in
      fault-whole s whole thread (memory_fault pc failed) running (
        All-cons (λ (n : ℕ). n < 2 ^ 32) pc rest registers.pc (small-two failed.address (access_number failed.access) less (access-less failed.access)),
        omega arith,
      )

  trap-whole : (cause : Cause) → IsSound (fault s thread (instruction_fault (registers_of s thread).pc cause))
  trap-whole cause =
      let pc = (registers_of s thread).pc in
      fault-whole s whole thread (instruction_fault pc cause) running (small-two pc (cause_number cause) registers.pc (cause-less cause), omega arith)

  effect-whole : (exec : Exec) (after : Done) → ((address : ℕ) (access : Access) → exec ≡ Memory address access → address < 2 ^ 32) → IsSound after.0
      → IsSound (after_effect s thread (registers_of s thread).pc (registers_of s thread) exec after).0
  effect-whole Next after addresses kept = kept
  effect-whole Ecall after addresses kept = system_call-whole s thread whole running
  effect-whole (Trap cause) after addresses kept = trap-whole cause
  effect-whole (Memory address access) after addresses kept = memory-whole (record { address = address; access = access }) (addresses address access refl)

  decoded-whole : (word : ℕ) (o : Option Instr) → decoded word ≡ o → IsSound (runs_decoded s thread o).0
  decoded-whole word None is = trap-whole Illegal
  decoded-whole word (Some instruction) is =
      let r = registers_of s thread in
      let e = effect r (content_of s thread) instruction in
      let sound = instructions.effects word instruction r (content_of s thread) is registers (λ place. byte-less s whole place (s.bytes place) refl) in
      effect-whole e.exec (with_content (with_registers s thread e.registers) e.content, Plain) sound.addresses
      (content-whole (with_registers s thread e.registers) e.content (registers-whole s whole thread running.kind e.registers sound.registers) sound.bytes)

  fetched-whole : (fetched : Result ℕ MemoryFault) → ((failed : MemoryFault) → fetched ≡ Err failed → failed.address < 2 ^ 32)
      → IsSound (runs_fetched s thread fetched).0
  fetched-whole (Ok word) less = decoded-whole word (decoded word) refl
  fetched-whole (Err failed) less = memory-whole failed (less failed refl)

  runs-whole : IsSound (runs s thread).0
  unfolding runs
  runs-whole =
      let pc = (registers_of s thread).pc in
      let content = content_of s thread in
      fetched-whole (loaded content Fetch Word pc) (λ failed is.
      then-less (places_from content Fetch pc 4) _ failed (λ so. places-less content Fetch 4 pc failed registers.pc so)
      (λ places so. let e : ◌≡◌ {A = Result ℕ MemoryFault} (Ok (from_le_bytes (width_of Word) (map content.byte places))) (Err failed) = so in absurd cc) is)

stepped-whole : InstructionsKeep → (s : State) → IsSound s → (o : Option ℕ) → current s ≡ o
    → IsSound (option_map_or (ran s) o (s, Idle)).0
stepped-whole instructions s whole None is = whole
stepped-whole instructions s whole (Some thread) is = runs-whole instructions s thread whole (current-runs s whole.threads thread is)

pub step-whole : InstructionsKeep → (s : State) (event : Event) → IsSound s → IsSound (step s event).0
unfolding step
step-whole instructions s Step whole = stepped-whole instructions s whole (current s) refl
step-whole instructions s Tick whole = tick-whole s whole
step-whole instructions s (Irq irq_line) whole = raise-whole s whole irq_line
step-whole instructions s (Write address word) whole = written-whole s (place_of address) word whole
step-whole instructions s (Read address) whole = whole

pub events-whole : InstructionsKeep → (s : State) (events : List Event) → IsSound s → IsSound (state_after s events)
unfolding state_after
events-whole instructions s [] whole = whole
events-whole instructions s (event ∷ events) whole = events-whole instructions (step s event).0 events (step-whole instructions s event whole)
