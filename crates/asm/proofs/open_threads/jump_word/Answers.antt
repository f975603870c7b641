use Rattle.std.specs.Prelude.{if◌then◌else◌}
use Rattle.std.proofs.Common.{◌≡◌, ℕ, ℤ, Bool, Ok, Err, arith, rules, sym, ap, ◌∙◌}
use Rattle.std.proofs.lemmas.Int.{ints}
use mir.Val.{to_z, of_z}
use mir.Syntax.{w32}
use Rattle.model.specs.declared.instructions.Instr.TheVariants.{Jal}
use Rattle.model.specs.Machine.Instructions.{IsInstr}
use Rattle.asm_line.specs.Instructions.{spelling}
use Rattle.asm.proofs.Spelled.{jump-true}
use Rattle.asm.proofs.open_threads.jump_word.Goals as goal

pub returns-then-has_spelling : goal.returns-then-has_spelling
unfolding spelling
returns-then-has_spelling c =
    let same : to_z w32 (of_z w32 c.args.offset) ≡ c.args.offset = omega (arith, ints) in
    let fits : IsInstr (Jal c.args.rd c.args.offset) = search rules in
    ap (λ (b : Bool). if b then Ok (spelling (Jal c.args.rd c.args.offset)) else Err 4) (jump-true c.args.rd c.args.offset fits)
    ∙ (ap (λ (z : ℤ). Ok (spelling (Jal c.args.rd z))) (sym same) ∙ ap (λ (word : ℕ). Ok word) (sym c.encode.ensures.spells.1))
