-- An instruction does the same over two views of memory that name the same places with the same bytes. These lemmas stand in `headline` too, which does
-- not export them.
use Rattle.std.proofs.Common.{ℕ, zero, suc, ◌≡◌, ◌∙◌, ◌==◌, ◌%◌, Bool, true, false, if◌then◌else◌, List, [], ◌∷◌, map, Option, Some, None, Result, Ok, Err}
use Rattle.std.proofs.Common.{refl}
use Rattle.std.proofs.Common.{sym, ap, ap₂, subst}
use Rattle.std.specs.Int.{byte_len, from_le_bytes, to_le_bytes}
use Rattle.model.specs.declared.instructions.Access.{Access}
use Rattle.model.specs.declared.instructions.Access.TheVariants as accesses
use Rattle.model.specs.declared.instructions.AccessSize.{AccessSize}
use Rattle.model.specs.declared.instructions.Cause.TheVariants.{Misaligned}
use Rattle.model.specs.declared.instructions.Exec.TheVariants.{Next, Trap}
use Rattle.model.specs.declared.instructions.Instr.{Instr}
use Rattle.model.specs.declared.instructions.Instr.TheVariants.{Upper, Jal, Jalr, Branch, Load, Store, Immediate, Shift, Registers, Fence, Ecall, Ebreak}
use Rattle.model.specs.declared.instructions.LoadOp.{LoadOp}
use Rattle.model.specs.declared.instructions.Register.{Register}
use Rattle.model.specs.Machine.Effects.{Effect, branches, effect, is_taken, jumps, load_size, loads, next_pc, plus, store_size, stores}
use Rattle.model.specs.Machine.ProgramMemory.{Content, RegisterFile, ◌>>=◌, loaded, next_address, place_or_fault, places_from, put_byte, put_bytes}
use Rattle.model.specs.Machine.ProgramMemory.{read, width_of, write}
use Rattle.model.specs.declared.instructions.MemoryFault.{MemoryFault}
use Rattle.headline.specs.parts.Views.{DoesSame, SameView}

module _ (Inside : ℕ → Type 0) where
  abbrev View : Content → Content → Type 0
  View c d = SameView Inside c d

  -- each is inside
  abbrev Each : List ℕ → Type 0
  Each [] = Unit {0}
  Each (place ∷ places) = Inside place × Each places

  same-places : (c d : Content) → View c d → (access : Access) (n address : ℕ) → places_from c access address n ≡ places_from d access address n
  same-places c d v access zero address = refl
  same-places c d v access (suc n) address =
      ap₂ (λ (x : Result ℕ MemoryFault) (y : Result (List ℕ) MemoryFault). x >>= (λ place. y >>= (λ others. Ok (place ∷ others))))
      (ap (λ (o : Option ℕ). place_or_fault o access address) (v.place access address)) (same-places c d v access n (next_address address))

  all-inside : (c d : Content) → View c d → (access : Access) (n address : ℕ) (places : List ℕ) → places_from c access address n ≡ Ok places → Each places
  all-inside c d v access zero address [] is = tt
  all-inside c d v access zero address (p ∷ ps) is = absurd (let clash : ◌≡◌ {A = Result (List ℕ) MemoryFault} (Ok []) (Ok (p ∷ ps)) = is in cc)
  all-inside c d v access (suc n) address places is =
      elim (c.place access address) as (λ o. c.place access address ≡ o
      → (place_or_fault o access address >>= (λ place. places_from c access (next_address address) n >>= (λ others. Ok (place ∷ others)))) ≡ Ok places
      → Each places) [
        | None ↦ λ _ clash. absurd (let no : ◌≡◌ {A = Result (List ℕ) MemoryFault} (Err (record { address = address; access = access }))
            (Ok places) = clash in cc)
        | Some p ↦ λ named rest.
            elim (places_from c access (next_address address) n) as (λ x. places_from c access (next_address address) n ≡ x
            → (x >>= (λ others. Ok (p ∷ others))) ≡ Ok places → Each places) [
              | Err fault ↦ λ _ clash. absurd (let no : ◌≡◌ {A = Result (List ℕ) MemoryFault} (Err fault) (Ok places) = clash in cc)
              | Ok others ↦ λ there same.
                  let e : p ∷ others ≡ places = (let f : ◌≡◌ {A = Result (List ℕ) MemoryFault} (Ok (p ∷ others)) (Ok places) = same in cc) in
                  subst Each e (v.named access address p named, all-inside c d v access n (next_address address) others there)
            ] refl rest
      ] refl is

  same-map : (c d : Content) → View c d → (places : List ℕ) → Each places → map c.byte places ≡ map d.byte places
  same-map c d v [] all = refl
  same-map c d v (p ∷ ps) all = ap₂ (λ (x : ℕ) (y : List ℕ). x ∷ y) (v.byte p all.0) (same-map c d v ps all.1)

  pub same-loaded : (c d : Content) → View c d → (access : Access) (size : AccessSize) (address : ℕ)
      → loaded c access size address ≡ loaded d access size address
  same-loaded c d v access size address =
      elim (places_from c access address (byte_len (width_of size))) as (λ x. places_from c access address (byte_len (width_of size)) ≡ x
      → (x >>= (λ places. Ok (from_le_bytes (width_of size) (map c.byte places)))) ≡ loaded d access size address) [
        | Err fault ↦ λ is.
            ap (λ (x : Result (List ℕ) MemoryFault). x >>= (λ places. Ok (from_le_bytes (width_of size) (map d.byte places))))
            (sym is ∙ same-places c d v access (byte_len (width_of size)) address)
        | Ok places ↦ λ is.
            ap (λ (bytes : List ℕ). Ok (from_le_bytes (width_of size) bytes))
            (same-map c d v places (all-inside c d v access (byte_len (width_of size)) address places is))
            ∙ ap (λ (x : Result (List ℕ) MemoryFault). x >>= (λ places. Ok (from_le_bytes (width_of size) (map d.byte places))))
            (sym is ∙ same-places c d v access (byte_len (width_of size)) address)
      ] refl

  same-put : (c d : Content) → View c d → (places values : List ℕ) → View (put_bytes c places values) (put_bytes d places values)
  same-put c d v [] values = v
  same-put c d v (p ∷ ps) [] = v
  same-put c d v (p ∷ ps) (x ∷ xs) = same-put (put_byte c p x) (put_byte d p x) (record {
    place = λ access address. v.place access address;
    named = λ access address place is. v.named access address place is;
    byte = λ place inside. ap (λ (n : ℕ). if place == p then x else n) (v.byte place inside);
  }) ps xs

  -- ---- effects

  record Same (a b : Effect) : Type 0 where
    pub registers : a.registers ≡ b.registers
    pub exec : a.exec ≡ b.exec
    pub view : View a.content b.content

  same-jump : (r written : RegisterFile) (c d : Content) (target : ℕ) → View c d → Same (jumps r c written target) (jumps r d written target)
  same-jump r written c d target v = elim (target % 4 == 0) as (λ b. Same
      (if b then record { registers = record written { pc = target }; content = c; exec = Next } else record {
        registers = r;
        content = c;
        exec = Trap
            Misaligned;
      })
      (if b then record { registers = record written { pc = target }; content = d; exec = Next } else record {
        registers = r;
        content = d;
        exec = Trap
            Misaligned;
      })) [
        | true ↦ record { registers = refl; exec = refl; view = v }
        | false ↦ record { registers = refl; exec = refl; view = v }
      ]

  same-branch : (r : RegisterFile) (c d : Content) (target : ℕ) → View c d → (taken : Bool) → Same (branches r c taken target) (branches r d taken target)
  same-branch r c d target v true = same-jump r r c d target v
  same-branch r c d target v false = record { registers = refl; exec = refl; view = v }

  same-load : (r : RegisterFile) (c d : Content) (op : LoadOp) (rd : Register) → View c d → (x : Result ℕ MemoryFault)
      → Same (loads r c op rd x) (loads r d op rd x)
  same-load r c d op rd v (Ok n) = record { registers = refl; exec = refl; view = v }
  same-load r c d op rd v (Err fault) = record { registers = refl; exec = refl; view = v }

  same-store : (r : RegisterFile) (c d : Content) → View c d → (values : List ℕ) (x : Result (List ℕ) MemoryFault)
      → Same (stores r c (x >>= (λ places. Ok (put_bytes c places values)))) (stores r d (x >>= (λ places. Ok (put_bytes d places values))))
  same-store r c d v values (Ok places) = record { registers = refl; exec = refl; view = same-put c d v places values }
  same-store r c d v values (Err fault) = record { registers = refl; exec = refl; view = v }

  same-effect : (r : RegisterFile) (c d : Content) → View c d → (instr : Instr) → Same (effect r c instr) (effect r d instr)
  unfolding effect
  same-effect r c d v (Upper op rd immediate) = record { registers = refl; exec = refl; view = v }
  same-effect r c d v (Jal rd offset) = same-jump r (write r rd (next_pc r)) c d (plus r.pc offset) v
  same-effect r c d v (Jalr rd rs1 offset) = same-jump r (write r rd (next_pc r)) c d _ v
  same-effect r c d v (Branch op rs1 rs2 offset) = same-branch r c d (plus r.pc offset) v (is_taken op (read r rs1) (read r rs2))
  same-effect r c d v (Load op rd rs1 offset) =
      subst (λ (x : Result ℕ MemoryFault). Same (loads r c op rd (loaded c accesses.Load (load_size op) (plus (read r rs1) offset))) (loads r d op rd x))
      (same-loaded c d v accesses.Load (load_size op) (plus (read r rs1) offset))
      (same-load r c d op rd v (loaded c accesses.Load (load_size op) (plus (read r rs1) offset)))
  same-effect r c d v (Store op rs1 rs2 offset) =
      subst (λ (x : Result (List ℕ) MemoryFault). Same (effect r c (Store op rs1 rs2 offset))
      (stores r d (x >>= (λ places. Ok (put_bytes d places (to_le_bytes (width_of (store_size op)) (read r rs2)))))))
      (same-places c d v accesses.Store (byte_len (width_of (store_size op))) (plus (read r rs1) offset))
      (same-store r c d v (to_le_bytes (width_of (store_size op)) (read r rs2))
      (places_from c accesses.Store (plus (read r rs1) offset) (byte_len (width_of (store_size op)))))
  same-effect r c d v (Immediate op rd rs1 immediate) = record { registers = refl; exec = refl; view = v }
  same-effect r c d v (Shift op rd rs1 amount) = record { registers = refl; exec = refl; view = v }
  same-effect r c d v (Registers op rd rs1 rs2) = record { registers = refl; exec = refl; view = v }
  same-effect r c d v Fence = record { registers = refl; exec = refl; view = v }
  same-effect r c d v Ecall = record { registers = refl; exec = refl; view = v }
  same-effect r c d v Ebreak = record { registers = refl; exec = refl; view = v }

  pub does-same : (r : RegisterFile) (c d : Content) → View c d → (instr : Instr) → DoesSame Inside r c d instr
  does-same r c d v instr = let same = same-effect r c d v instr in record { registers = same.registers; exec = same.exec; view = same.view }
