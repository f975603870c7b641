-- Instructions keep registers, bytes and addresses in their sizes.
use Rattle.std.proofs.Common.{ℕ, zero, suc, ℤ, pos, negsuc, ◌≡◌, ◌==◌, ◌||◌, ◌-◌, ◌/◌, ◌%◌, ◌^◌, ◌<◌, Bool, true, false, if◌then◌else◌, get_or, map, List, []}
use Rattle.std.proofs.Common.{◌∷◌, Option, Some, None, option_map, Result, Ok, Err, refl, subst, arith}
use Rattle.std.specs.Prelude.{All, ⊤}
use Rattle.std.specs.Int.{byte_len, from_le_bytes, int_shr, to_le_bytes}
use Rattle.std.proofs.Math.Nat.{div-le_self}
use Rattle.std.proofs.lemmas.List.Elements.{All-cons, All-head, All-nil, All-tail}
use Rattle.std.proofs.lemmas.Nat.{and_le_l, or_lt, xor_lt}
use Rattle.model.specs.declared.instructions.Access.{Access}
use Rattle.model.specs.declared.instructions.Access.TheVariants as accesses
use Rattle.model.specs.declared.instructions.AccessSize.{AccessSize}
use Rattle.model.specs.declared.instructions.AccessSize.TheVariants.{Byte, Halfword, Word}
use Rattle.model.specs.declared.instructions.Cause.TheVariants.{Illegal, Misaligned}
use Rattle.model.specs.declared.instructions.Exec.{Exec}
use Rattle.model.specs.declared.instructions.Exec.TheVariants as outcomes
use Rattle.model.specs.declared.instructions.ImmediateOp.{ImmediateOp}
use Rattle.model.specs.declared.instructions.ImmediateOp.TheVariants.{Addi, Slti, Sltiu, Xori, Ori, Andi}
use Rattle.model.specs.declared.instructions.Instr.{Instr}
use Rattle.model.specs.declared.instructions.Instr.TheVariants.{Upper, Jal, Jalr, Branch, Load, Store, Immediate, Shift, Registers, Fence, Ecall, Ebreak}
use Rattle.model.specs.declared.instructions.LoadOp.{LoadOp}
use Rattle.model.specs.declared.instructions.LoadOp.TheVariants.{Lb, Lh, Lw, Lbu, Lhu}
use Rattle.model.specs.declared.instructions.MemoryFault.{MemoryFault}
use Rattle.model.specs.declared.instructions.Register.{Register}
use Rattle.model.specs.declared.instructions.RegisterOp.{RegisterOp}
use Rattle.model.specs.declared.instructions.RegisterOp.TheVariants.{Add, Sub, Sll, Slt, Sltu, Xor, Srl, Sra, Or, And}
use Rattle.model.specs.declared.instructions.ShiftOp.{ShiftOp}
use Rattle.model.specs.declared.instructions.ShiftOp.TheVariants.{Slli, Srli, Srai}
use Rattle.model.specs.declared.instructions.UpperOp.{UpperOp}
use Rattle.model.specs.declared.instructions.UpperOp.TheVariants.{Lui, Auipc}
use Rattle.model.specs.Machine.Decoding.{decoded, decoded_jal, decoded_upper, sign_extended}
use Rattle.model.specs.Machine.Effects.{advanced, branches, effect, goes_on, immediate_result, is_taken, jumps, load_result, load_size, loads, next_pc, one_if}
use Rattle.model.specs.Machine.Effects.{plus, register_result, shift_result, stays, store_size, stores, upper_result}
use Rattle.model.specs.Machine.Instructions.{bits, signed, word_of}
use Rattle.model.specs.Machine.ProgramMemory.{Content, FitsSize, RegisterFile, ◌>>=◌, places_from, put_byte, put_bytes, read, width_of, write}
use Rattle.soundness.proofs.Instructions.{EffectIsSound, InstructionsKeep}
use Rattle.soundness.specs.Running.{RegistersAreSound}
use Rattle.soundness.proofs.Delivered.{read-sound}
use Rattle.soundness.proofs.Registers.{advanced-sound, with-pc, written-sound}
use Rattle.soundness.proofs.Stepped.{places-less}

-- ---- results

signed-word : (a : ℕ) → a < 2 ^ 32 → word_of (signed a) < 2 ^ 32
signed-word a small = grind arith

shift-small : (z : ℤ) (count : ℕ) → word_of z < 2 ^ 32 → word_of (int_shr z count) < 2 ^ 32
shift-small (pos n) count less = omega (arith, div-le_self n (2 ^ count), less)
shift-small (negsuc n) count less = omega arith

test-less : (b : Bool) → one_if b < 2 ^ 32
test-less true = omega arith
test-less false = omega arith

upper-less : (op : UpperOp) (pc immediate : ℕ) → immediate < 2 ^ 20 → upper_result op pc immediate < 2 ^ 32
upper-less Lui pc immediate less = omega (arith, less)
upper-less Auipc pc immediate less = omega arith

immediate-less : (op : ImmediateOp) (a : ℕ) (z : ℤ) → a < 2 ^ 32 → word_of z < 2 ^ 32 → immediate_result op a z < 2 ^ 32
immediate-less Addi a z less small = omega arith
immediate-less Slti a z less small = test-less _
immediate-less Sltiu a z less small = test-less _
immediate-less Xori a z less small = xor_lt 32 a (word_of z) less small
immediate-less Ori a z less small = or_lt 32 a (word_of z) less small
immediate-less Andi a z less small = let most = and_le_l a (word_of z) in omega (arith, most, less)

shift-less : (op : ShiftOp) (a count : ℕ) → a < 2 ^ 32 → shift_result op a count < 2 ^ 32
shift-less Slli a count less = omega arith
shift-less Srli a count less = let most = div-le_self a (2 ^ count) in omega (arith, most, less)
shift-less Srai a count less = shift-small (signed a) count (signed-word a less)

register-less : (op : RegisterOp) (a b : ℕ) → a < 2 ^ 32 → b < 2 ^ 32 → register_result op a b < 2 ^ 32
register-less Add a b less small = omega arith
register-less Sub a b less small = omega arith
register-less Sll a b less small = shift-less Slli a (b % 2 ^ 5) less
register-less Slt a b less small = test-less _
register-less Sltu a b less small = test-less _
register-less Xor a b less small = xor_lt 32 a b less small
register-less Srl a b less small = shift-less Srli a (b % 2 ^ 5) less
register-less Sra a b less small = shift-less Srai a (b % 2 ^ 5) less
register-less Or a b less small = or_lt 32 a b less small
register-less And a b less small = let most = and_le_l a b in omega (arith, most, less)

load-less : (op : LoadOp) (n : ℕ) → FitsSize (load_size op) n → load_result op n < 2 ^ 32
load-less Lb n fits = grind arith
load-less Lh n fits = grind arith
load-less Lw n fits = grind arith
load-less Lbu n fits = grind arith
load-less Lhu n fits = grind arith

-- ---- memory

abbrev HasBytes : Content → Type 0
HasBytes content = (place : ℕ) → content.byte place < 2 ^ 8

bytes-small : (content : Content) (places : List ℕ) (i : ℕ) → HasBytes content → get_or (map content.byte places) i 0 < 2 ^ 8
bytes-small content [] i small = omega arith
bytes-small content (place ∷ places) zero small = small place
bytes-small content (place ∷ places) (suc i) small = bytes-small content places i small

number-fits : (content : Content) (size : AccessSize) (places : List ℕ) → HasBytes content
    → FitsSize size (from_le_bytes (width_of size) (map content.byte places))
number-fits content Byte places small = omega (arith, bytes-small content places 0 small)
number-fits content Halfword places small = omega (arith, bytes-small content places 0 small, bytes-small content places 1 small)
number-fits content Word places small =
    omega (
      arith,
      bytes-small content places 0 small,
      bytes-small content places 1 small,
      bytes-small content places 2 small,
      bytes-small content places 3 small,
    )

byte-cons : (a : ℕ) (rest : List ℕ) → a < 2 ^ 8 → All (λ n. n < 2 ^ 8) rest → All (λ n. n < 2 ^ 8) (a ∷ rest)
byte-cons a rest less more = All-cons (λ (n : ℕ). n < 2 ^ 8) a rest less more

stored-bytes : (size : AccessSize) (n : ℕ) → All (λ n. n < 2 ^ 8) (to_le_bytes (width_of size) n)
stored-bytes Byte n = byte-cons (n % 256) [] (omega arith) (All-nil (λ (n : ℕ). n < 2 ^ 8))
stored-bytes Halfword n =
    let one : List ℕ = n / 256 % 256 ∷ [] in byte-cons (n % 256) one (omega arith) (byte-cons (n / 256 % 256) [] (omega arith) (All-nil (λ (n : ℕ). n < 2 ^ 8)))
stored-bytes Word n =
    let one : List ℕ = n / 16777216 % 256 ∷ [] in
    let two : List ℕ = n / 65536 % 256 ∷ one in
    let three : List ℕ = n / 256 % 256 ∷ two in
    byte-cons (n % 256) three (omega arith) (byte-cons (n / 256 % 256) two (omega arith) (byte-cons (n / 65536 % 256) one (omega arith)
    (byte-cons (n / 16777216 % 256) [] (omega arith) (All-nil (λ (n : ℕ). n < 2 ^ 8)))))

put-small : (content : Content) (places values : List ℕ) → HasBytes content → All (λ n. n < 2 ^ 8) values → HasBytes (put_bytes content places values)
put-small content [] values small less = small
put-small content (place ∷ places) [] small less = small
put-small content (place ∷ places) (value ∷ values) small less =
    put-small (put_byte content place value) places values
    (λ other. elim (other == place) as (λ b. (if b then value else content.byte other) < 2 ^ 8)
    [ true ↦ All-head (λ (n : ℕ). n < 2 ^ 8) value values less | false ↦ small other ])
    (All-tail (λ (n : ℕ). n < 2 ^ 8) value values less)

-- ---- what is decoded fits

abbrev pub Fits : Instr → Type 0
Fits (Upper op rd immediate) = immediate < 2 ^ 20
Fits (Immediate op rd rs1 z) = word_of z < 2 ^ 32
Fits (Jal rd offset) = ⊤
Fits (Jalr rd rs1 offset) = ⊤
Fits (Branch op rs1 rs2 offset) = ⊤
Fits (Load op rd rs1 offset) = ⊤
Fits (Store op rs1 rs2 offset) = ⊤
Fits (Shift op rd rs1 amount) = ⊤
Fits (Registers op rd rs1 rs2) = ⊤
Fits Fence = ⊤
Fits Ecall = ⊤
Fits Ebreak = ⊤

some-fits : (one i : Instr) → Fits one → Some one ≡ Some i → Fits i
some-fits one i fits is = let e : one ≡ i = cc is in subst Fits e fits

none-fits : (i : Instr) → None ≡ Some i → Fits i
none-fits i is = let e : ◌≡◌ {A = Option Instr} None (Some i) = is in absurd cc

mapped-fits : {A : Type 0} (o : Option A) (f : A → Instr) (i : Instr) → ((a : A) → Fits (f a)) → option_map f o ≡ Some i → Fits i
mapped-fits (Some a) f i fits is = some-fits (f a) i (fits a) is
mapped-fits None f i fits is = none-fits i is

pick : (b : Bool) (one rest : Option Instr) (i : Instr) → (one ≡ Some i → Fits i) → (rest ≡ Some i → Fits i)
    → (if b then one else rest) ≡ Some i → Fits i
pick true one rest i here later is = here is
pick false one rest i here later is = later is

sign-word : (n : ℕ) → n < 2 ^ 12 → word_of (sign_extended n (2 ^ 11)) < 2 ^ 32
sign-word n less = grind arith

upper-fits : (op : UpperOp) (word : ℕ) → Fits (decoded_upper op word)
upper-fits op word = omega arith

decoded-fits : (word : ℕ) (i : Instr) → decoded word ≡ Some i → Fits i
unfolding decoded
decoded-fits word i =
    let opcode = bits word 0 7 in
    let f3 = bits word 12 3 in
    pick (opcode == 0x37) _ _ i (some-fits (decoded_upper Lui word) i (upper-fits Lui word))
    (pick (opcode == 0x17) _ _ i (some-fits (decoded_upper Auipc word) i (upper-fits Auipc word))
    (pick (opcode == 0x6F) _ _ i (some-fits (decoded_jal word) i tt)
    (pick (opcode == 0x67) _ _ i (pick (f3 == 0) _ _ i (λ e. some-fits _ i tt e) (none-fits i))
    (pick (opcode == 0x63) _ _ i (mapped-fits _ _ i (λ _. tt))
    (pick (opcode == 0x03) _ _ i (mapped-fits _ _ i (λ _. tt))
    (pick (opcode == 0x23) _ _ i (mapped-fits _ _ i (λ _. tt))
    (pick (opcode == 0x13) _ _ i
    (pick ((f3 == 1) || (f3 == 5)) _ _ i (mapped-fits _ _ i (λ _. tt)) (mapped-fits _ _ i (λ _. sign-word (bits word 20 12) (omega arith))))
    (pick (opcode == 0x33) _ _ i (mapped-fits _ _ i (λ _. tt))
    (pick (opcode == 0x0F) _ _ i (pick (f3 == 0) _ _ i (some-fits Fence i tt) (none-fits i))
    (pick (opcode == 0x73) _ _ i (pick (word == 0x00000073) _ _ i (some-fits Ecall i tt)
    (pick (word == 0x00100073) _ _ i (some-fits Ebreak i tt) (none-fits i))) (none-fits i)))))))))))

-- ---- effects

goes-sound : (r : RegisterFile) (content : Content) → RegistersAreSound r → HasBytes content → EffectIsSound (goes_on r content)
goes-sound r content sound small = record {
  registers = sound;
  bytes = small;
  addresses = λ address access is. let e : outcomes.Next ≡ outcomes.Memory address access = is in absurd cc;
}

stays-sound : (r : RegisterFile) (content : Content) (exec : Exec) → RegistersAreSound r → HasBytes content
    → ((address : ℕ) (access : Access) → exec ≡ outcomes.Memory address access → address < 2 ^ 32) → EffectIsSound (stays r content exec)
stays-sound r content exec sound small less = record { registers = sound; bytes = small; addresses = less }

module _ (r : RegisterFile) (content : Content) (sound : RegistersAreSound r) (small : HasBytes content) where
  next-sound : (rd : Register) (value : ℕ) → value < 2 ^ 32 → EffectIsSound (goes_on (advanced (write r rd value)) content)
  next-sound rd value less = goes-sound (advanced (write r rd value)) content (advanced-sound (write r rd value) (written-sound r rd value sound less)) small

  on-sound : EffectIsSound (goes_on (advanced r) content)
  on-sound = goes-sound (advanced r) content (advanced-sound r sound) small

  jump-sound : (after : RegisterFile) (target : ℕ) → RegistersAreSound after → target < 2 ^ 32 → EffectIsSound (jumps r content after target)
  jump-sound after target written less =
      elim (target % 4 == 0)
      as (λ b. EffectIsSound (if b then goes_on (record after { pc = target }) content else stays r content (outcomes.Trap Misaligned))) [
        | true ↦ goes-sound (record after { pc = target }) content (with-pc after target written less) small
        | false ↦
            stays-sound r content (outcomes.Trap Misaligned) sound small
            (λ address access is. let e : outcomes.Trap Misaligned ≡ outcomes.Memory address access = is in absurd cc)
      ]

  branch-sound : (taken : Bool) (target : ℕ) → target < 2 ^ 32 → EffectIsSound (branches r content taken target)
  branch-sound true target less = jump-sound r target sound less
  branch-sound false target less = on-sound

  failed-sound : (failed : MemoryFault) → failed.address < 2 ^ 32 → EffectIsSound (stays r content (outcomes.Memory failed.address failed.access))
  failed-sound failed less =
      stays-sound r content (outcomes.Memory failed.address failed.access) sound small
      (λ address access is. let e : failed.address ≡ address = cc is in subst (λ (n : ℕ). n < 2 ^ 32) e less)

  load-sound : (op : LoadOp) (rd : Register) (places : Result (List ℕ) MemoryFault) → ((failed : MemoryFault) → places ≡ Err failed → failed.address < 2 ^ 32)
      → EffectIsSound (loads r content op rd (places >>= λ (found : List ℕ). Ok (from_le_bytes (width_of (load_size op)) (map content.byte found))))
  load-sound op rd (Ok found) less =
      let n = from_le_bytes (width_of (load_size op)) (map content.byte found) in
      next-sound rd (load_result op n) (load-less op n (number-fits content (load_size op) found small))
  load-sound op rd (Err failed) less = failed-sound failed (less failed refl)

  store-sound : (size : AccessSize) (value : ℕ) (places : Result (List ℕ) MemoryFault) →
      ((failed : MemoryFault) → places ≡ Err failed → failed.address < 2 ^ 32)
      → EffectIsSound (stores r content (places >>= λ (found : List ℕ). Ok (put_bytes content found (to_le_bytes (width_of size) value))))
  store-sound size value (Ok found) less =
      goes-sound (advanced r) (put_bytes content found (to_le_bytes (width_of size) value)) (advanced-sound r sound)
      (put-small content found (to_le_bytes (width_of size) value) small (stored-bytes size value))
  store-sound size value (Err failed) less = failed-sound failed (less failed refl)

  pub effect-sound : (i : Instr) → Fits i → EffectIsSound (effect r content i)
  unfolding effect
  effect-sound (Upper op rd immediate) fits = next-sound rd (upper_result op r.pc immediate) (upper-less op r.pc immediate fits)
  effect-sound (Jal rd offset) fits = jump-sound (write r rd (next_pc r)) (plus r.pc offset) (written-sound r rd (next_pc r) sound (omega arith)) (omega arith)
  effect-sound (Jalr rd rs1 offset) fits =
      let target = plus (read r rs1) offset in
      jump-sound (write r rd (next_pc r)) (target - target % 2) (written-sound r rd (next_pc r) sound (omega arith)) (omega arith)
  effect-sound (Branch op rs1 rs2 offset) fits = branch-sound (is_taken op (read r rs1) (read r rs2)) (plus r.pc offset) (omega arith)
  effect-sound (Load op rd rs1 offset) fits =
      let address = plus (read r rs1) offset in
      let count = byte_len (width_of (load_size op)) in
      load-sound op rd (places_from content accesses.Load address count) (λ failed so. places-less content accesses.Load count address failed (omega arith) so)
  effect-sound (Store op rs1 rs2 offset) fits =
      let address = plus (read r rs1) offset in
      let count = byte_len (width_of (store_size op)) in
      store-sound (store_size op) (read r rs2) (places_from content accesses.Store address count)
      (λ failed so. places-less content accesses.Store count address failed (omega arith) so)
  effect-sound (Immediate op rd rs1 z) fits = next-sound rd (immediate_result op (read r rs1) z)
      (immediate-less op (read r rs1) z (read-sound r rs1 sound) fits)
  effect-sound (Shift op rd rs1 amount) fits = next-sound rd (shift_result op (read r rs1) amount) (shift-less op (read r rs1) amount (read-sound r rs1 sound))
  effect-sound (Registers op rd rs1 rs2) fits =
      next-sound rd (register_result op (read r rs1) (read r rs2))
      (register-less op (read r rs1) (read r rs2) (read-sound r rs1 sound) (read-sound r rs2 sound))
  effect-sound Fence fits = on-sound
  effect-sound Ecall fits = stays-sound r content outcomes.Ecall sound small
      (λ address access is. let e : outcomes.Ecall ≡ outcomes.Memory address access = is in absurd cc)
  effect-sound Ebreak fits =
      stays-sound r content (outcomes.Trap Illegal) sound small (λ address access is. let e : outcomes.Trap Illegal ≡ outcomes.Memory address access = is in
      absurd cc)

pub instructions-keep : InstructionsKeep
instructions-keep = record {
  effects = λ word instruction r content is sound small. effect-sound r content sound small instruction (decoded-fits word instruction is);
}
