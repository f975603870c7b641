-- What a load and a store do, by what is loaded and stored.
use Rattle.std.proofs.Common.{ℕ, ℤ, ◌≡◌, ◌∙◌, Result, refl, sym, ap}
use Rattle.model.specs.Machine.Effects.{effect, load_size, loads, plus, store_size, stores}
use Rattle.model.specs.Machine.ProgramMemory.{Content, RegisterFile, loaded, read, stored}
use Rattle.model.specs.declared.instructions.Access.TheVariants as accesses
use Rattle.model.specs.declared.instructions.AccessSize.{AccessSize}
use Rattle.model.specs.declared.instructions.Instr.{Instr}
use Rattle.model.specs.declared.instructions.Instr.TheVariants.{Load, Store}
use Rattle.model.specs.declared.instructions.LoadOp.{LoadOp}
use Rattle.model.specs.declared.instructions.MemoryFault.{MemoryFault}
use Rattle.model.specs.declared.instructions.Register.{Register}
use Rattle.model.specs.declared.instructions.StoreOp.{StoreOp}
use Rattle.user_memory.proofs.InPlace.{loaded-same, stored-same}

module _ (r : RegisterFile) (content : Content) (i : Instr) where
  pub load-effect : (op : LoadOp) (rd rs1 : Register) (offset : ℤ) (size : AccessSize) (address : ℕ) (result : Result ℕ MemoryFault) → i ≡ Load op rd rs1 offset
      → size ≡ load_size op → address ≡ plus (read r rs1) offset → result ≡ loaded content accesses.Load size address
      → effect r content i ≡ loads r content op rd result
  unfolding effect
  load-effect op rd rs1 offset size address result is of_size at sees =
      ap (effect r content) is ∙ ap (loads r content op rd) (sym (sees ∙ loaded-same content of_size at))

  pub store-effect : (op : StoreOp) (rs1 rs2 : Register) (offset : ℤ) (size : AccessSize) (address value : ℕ) (result : Result Content MemoryFault)
      → i ≡ Store op rs1 rs2 offset → size ≡ store_size op → address ≡ plus (read r rs1) offset → value ≡ read r rs2
      → stored content size address value ≡ result → effect r content i ≡ stores r content result
  unfolding effect
  store-effect op rs1 rs2 offset size address value result is of_size at of_value does =
      ap (effect r content) is ∙ ap (stores r content) (sym (stored-same {c = content} {d = content} refl of_size at of_value) ∙ does)
