-- A step that makes no system call stays within authority, where all threads stand: what an instruction writes has an address at which
-- the thread may store.
use Rattle.std.proofs.Common.{ℕ, zero, suc, ◌≡◌, ◌≢◌, ◌∙◌, ◌⊎◌, ◌-◌, ◌%◌, Bool, if◌then◌else◌, Option, Some, None, Result, Ok, Err}
use Rattle.std.proofs.Common.{List, [], ◌∷◌, refl, sym, ap, subst, inl, inr}
use Rattle.std.specs.Prelude.{Contains, IsSome}
use Rattle.std.specs.Int.{byte_len, to_le_bytes}
use Rattle.std.specs.Option.{option_map_or}
use Rattle.std.proofs.lemmas.Bool.Decides.{eqb_tells}
use Rattle.headline.specs.facts.Standing.{AllStand}
use Rattle.headline.specs.kept.Laws.{StoresTouchNone}
use Rattle.headline.specs.moves.Laws.{Laws}
use Rattle.headline.specs.steps.Laws.{PlainStepsKeepThreads, WritesWhereStoresMay}
use Rattle.headline.specs.steps.Points.{ReachesNoCall}
use Rattle.model.specs.declared.events.Event.TheVariants.{Step}
use Rattle.model.specs.declared.instructions.Access.TheVariants as accesses
use Rattle.model.specs.declared.instructions.Instr.{Instr}
use Rattle.model.specs.declared.instructions.Instr.TheVariants.{Upper, Jal, Jalr, Branch, Load, Store, Immediate, Shift, Registers, Fence, Ecall, Ebreak}
use Rattle.model.specs.declared.instructions.MemoryFault.{MemoryFault}
use Rattle.model.specs.declared.labels.Label.{Label}
use Rattle.model.specs.Acceptance.Accepted.{IsAccepted}
use Rattle.headline.proofs.authority.OwnSteps.{own-step}
use Rattle.model.specs.Acceptance.Authority.{ComputesAlone, StaysWithin, WithinAuthority}
use Rattle.model.specs.Acceptance.ThreadInvariants.{tcb_of}
use Rattle.model.specs.Images.Described.{Numbered, numbered_threads}
use Rattle.model.specs.Images.Image.{Image}
use Rattle.model.specs.Kernel.AddressSpaces.{content_of}
use Rattle.model.specs.Kernel.Scheduling.{current}
use Rattle.model.specs.Kernel.State.{State}
use Rattle.model.specs.Kernel.Steps.{registers_of, step}
use Rattle.model.specs.Machine.Effects.{effect, is_taken, load_size, next_pc, plus, store_size, stores}
use Rattle.model.specs.Machine.ProgramMemory.{Content, RegisterFile, ◌>>=◌, loaded, next_address, place_or_fault, places_from, put_byte, put_bytes, read}
use Rattle.model.specs.Machine.ProgramMemory.{width_of, write}
use Rattle.headline.proofs.moves.Laws.{one-event, plain-leaves}
use Rattle.headline.proofs.steps.Laws.{branch-content, jump-content, load-content}
use Rattle.headline.proofs.authority.Awaited.{awaited-apart, runs-awaits}
use Rattle.headline.proofs.authority.PlainSteps.{plain-within}

-- ---- what a store changes

abbrev Among : ℕ → List ℕ → Type 0
Among place [] = ⊥
Among place (q ∷ rest) = (q ≡ place) ⊎ Among place rest

put-among : (places values : List ℕ) (c : Content) (place : ℕ) → ((put_bytes c places values).byte place ≡ c.byte place) ⊎ Among place places
put-among [] values c place = inl refl
put-among (q ∷ rest) [] c place = inl refl
put-among (q ∷ rest) (v ∷ values) c place = elim (eqb_tells place q) [
  | inl here ↦ inr (inl (sym here.1))
  | inr apart ↦ elim (put-among rest values (put_byte c q v) place) [
    | inl same ↦ inl (same ∙ ap (λ (b : Bool). if b then v else c.byte place) apart.0)
    | inr later ↦ inr (inr later)
  ]
]

-- some address at which a store may put a byte there
abbrev MayStoreAt : Content → ℕ → Type 0
MayStoreAt c place = (address : ℕ) × (c.place accesses.Store address ≡ Some place)

rest-among : (c : Content) (place q : ℕ) (places : List ℕ) (rest : Result (List ℕ) MemoryFault) → (rest >>= λ others. Ok (q ∷ others)) ≡ Ok places
    → (q ≡ place → MayStoreAt c place) → ((others : List ℕ) → rest ≡ Ok others → Among place others → MayStoreAt c place) → Among place places
    → MayStoreAt c place
rest-among c place q places (Ok others) done here later among =
    let same : places ≡ q ∷ others = (let both : ◌≡◌ {A = Result (List ℕ) MemoryFault} (Ok (q ∷ others)) (Ok places) = done in cc) in
    elim (subst (Among place) same among) [ inl first ↦ here first | inr rest ↦ later others refl rest ]
rest-among c place q places (Err failed) done here later among =
    absurd (let clash : ◌≡◌ {A = Result (List ℕ) MemoryFault} (Err failed) (Ok places) = done in cc)

placed-among : (c : Content) (count address place : ℕ) (places : List ℕ) → places_from c accesses.Store address count ≡ Ok places → Among place places
    → MayStoreAt c place
placed-among c zero address place places from among =
    let same : places ≡ [] = (let both : ◌≡◌ {A = Result (List ℕ) MemoryFault} (Ok []) (Ok places) = from in cc) in
    absurd (subst (Among place) same among)
placed-among c (suc count) address place places from among =
    elim (c.place accesses.Store address) as (λ (o : Option ℕ). c.place accesses.Store address ≡ o
    → (place_or_fault o accesses.Store address >>= λ q. places_from c accesses.Store (next_address address) count >>= λ others. Ok (q ∷ others)) ≡ Ok places
    → MayStoreAt c place) [
      | Some q ↦ λ is done.
          rest-among c place q places (places_from c accesses.Store (next_address address) count) done
          (λ first. (address, is ∙ ap (λ (n : ℕ). Some n) first))
          (λ others more among_rest. placed-among c count (next_address address) place others more among_rest) among
      | None ↦ λ is done.
          absurd (let clash : ◌≡◌ {A = Result (List ℕ) MemoryFault} (Err (record { address = address; access = accesses.Store })) (Ok places) = done in cc)
    ] refl from

module _ (r : RegisterFile) (c : Content) (place : ℕ) where
  abbrev Wrote : Content → Type 0
  Wrote left = (left.byte place ≡ c.byte place) ⊎ MayStoreAt c place

  store-wrote : (address count : ℕ) (values : List ℕ) (found : Result (List ℕ) MemoryFault) → places_from c accesses.Store address count ≡ found
      → Wrote (stores r c (found >>= λ places. Ok (put_bytes c places values))).content
  store-wrote address count values (Ok places) from = elim (put-among places values c place) [
    | inl same ↦ inl same
    | inr among ↦ inr (placed-among c count address place places from among)
  ]
  store-wrote address count values (Err failed) from = inl refl

  effect-wrote : (instr : Instr) → Wrote (effect r c instr).content
  unfolding effect
  effect-wrote (Upper op rd immediate) = inl refl
  effect-wrote (Jal rd offset) = inl (ap (λ (d : Content). d.byte place) (jump-content r c (write r rd (next_pc r)) (plus r.pc offset)))
  effect-wrote (Jalr rd rs1 offset) = inl (ap (λ (d : Content). d.byte place)
      (jump-content r c (write r rd (next_pc r)) (plus (read r rs1) offset - plus (read r rs1) offset % 2)))
  effect-wrote (Branch op rs1 rs2 offset) =
      inl (ap (λ (d : Content). d.byte place) (branch-content r c (is_taken op (read r rs1) (read r rs2)) (plus r.pc offset)))
  effect-wrote (Load op rd rs1 offset) =
      inl (ap (λ (d : Content). d.byte place) (load-content r c op rd (loaded c accesses.Load (load_size op) (plus (read r rs1) offset))))
  effect-wrote (Store op rs1 rs2 offset) =
      store-wrote (plus (read r rs1) offset) (byte_len (width_of (store_size op))) (to_le_bytes (width_of (store_size op)) (read r rs2))
      (places_from c accesses.Store (plus (read r rs1) offset) (byte_len (width_of (store_size op)))) refl
  effect-wrote (Immediate op rd rs1 immediate) = inl refl
  effect-wrote (Shift op rd rs1 amount) = inl refl
  effect-wrote (Registers op rd rs1 rs2) = inl refl
  effect-wrote Fence = inl refl
  effect-wrote Ecall = inl refl
  effect-wrote Ebreak = inl refl

-- ---- the step

some-there : (value : ℕ) → IsSome (Some value)
some-there value = refl

-- a byte that is there before and after
byte-differs : (o : Option ℕ) (value : ℕ) → o ≢ option_map_or (λ (byte : ℕ). Some value) o None
    → IsSome o × IsSome (option_map_or (λ (byte : ℕ). Some value) o None) × (value ≢ option_map_or (λ (byte : ℕ). byte) o 0)
byte-differs None value differs = absurd (differs refl)
byte-differs (Some byte) value differs = (some-there byte, some-there value, λ same. differs (ap (λ (n : ℕ). Some n) (sym same)))

pub plain-stands : (laws : Laws) → PlainStepsKeepThreads → WritesWhereStoresMay → StoresTouchNone → (bytes : List ℕ) (image : Image) (t : Numbered) (s : State)
    (labels : List Label) → IsAccepted bytes image → AllStand image s labels → Contains (numbered_threads image) t → current s ≡ Some (tcb_of image t)
    → ReachesNoCall s (tcb_of image t) → StaysWithin image s Step (step s Step).0
plain-stands laws keeps writes touches bytes image t s labels accepted all listed now free =
    inr (own-step image t s (step s Step).0 listed now all.sound (one-event laws.keeps s Step all.sound)
    (plain-leaves laws keeps writes touches bytes image t s labels accepted all listed now free
    (λ (after : State). WithinAuthority image t.thread s after)
    (λ own there status word fetched instr spelled.
    let content = content_of s (tcb_of image t) in
    let r = registers_of s (tcb_of image t) in
    let left = effect r content instr in
    plain-within image t.thread s own left.registers (λ place. option_map_or (λ (byte : ℕ). Some (left.content.byte place)) (s.bytes place) None) there
    (λ right.
    awaited-apart s all.sound (tcb_of image t) (tcb_of image t) own there right (tcb_of image t) (runs-awaits s (tcb_of image t) own there status) refl)
    (record {
      written = λ place differs.
          let changed = byte-differs (s.bytes place) (left.content.byte place) differs in
          elim (effect-wrote r content place instr) [ inl same ↦ absurd (changed.2 same) | inr where_to ↦ (changed.0, changed.1, where_to) ];
    })))
    (λ _. plain-leaves laws keeps writes touches bytes image t s labels accepted all listed now free (λ (after : State). ComputesAlone s after (tcb_of image t))
    (λ own there status word fetched instr spelled.
    record { word = word; instruction = instr; fetched = fetched; spelled = spelled; is = refl })))
