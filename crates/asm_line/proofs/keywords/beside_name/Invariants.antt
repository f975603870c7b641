use Rattle.std.proofs.Common.{◌≡◌, drop}
use Rattle.std.specs.Prelude.{map}
use Rattle.asm_line.specs.Lines.{beside_name}
use Rattle.asm_line.proofs.keywords.beside_name.Given as goal

-- what is left decides what the whole gives
abbrev pub invariant-names : goal.invariant-names
invariant-names g l = beside_name l.word (map (λ e. (e.0.now, e.1)) (drop l.entry-index l.names)) ≡ beside_name l.word (map (λ e. (e.0.now, e.1)) l.names)
