-- Facts by cases have at most one proof, as a ghost field asks.
use Rattle.std.specs.Prelude.{ℕ, List}
use denote.Struct.Props.{props}
use Rattle.model.specs.Acceptance.NotedStates.{NotedSlot}
use Rattle.model.specs.Images.Described.{Numbered}
use Rattle.model.specs.Images.Image.{Image}
use Rattle.model.specs.Machine.Instructions.{IsInstr}
use Rattle.model.specs.declared.instructions.Instr.{Instr}
use Rattle.model.specs.declared.instructions.Instr.TheVariants.{Upper, Jal, Jalr, Branch, Load, Store, Immediate, Shift, Registers, Fence, Ecall, Ebreak}
use Rattle.program_rules.specs.Kept.{IsAt}
use Rattle.program_rules.specs.declared.kept_points.KeptPoints.{KeptPoints}
use Rattle.program_rules.specs.declared.places.Place.TheVariants as place
use Rattle.program_rules.specs.declared.places.Place.{Place}
use Rattle.typestate.specs.declared.log_entries.LogEntry.{LogEntry}

pub IsAt-prop : (image : Image) (t : Numbered) (slots : List NotedSlot) (log : List LogEntry) (ks : KeptPoints) (point : ℕ) (p : Place)
    → IsProp (IsAt image t slots log ks point p)
IsAt-prop image t slots log ks point place.Missing = Prim.hlevel props
IsAt-prop image t slots log ks point place.Unmeasured = Prim.hlevel props
IsAt-prop image t slots log ks point (place.Whole at) = Prim.hlevel props
IsAt-prop image t slots log ks point (place.Recorded at) = Prim.hlevel props
IsAt-prop image t slots log ks point (place.Clean at) = Prim.hlevel props
IsAt-prop image t slots log ks point place.Plain = Prim.hlevel props
IsAt-prop image t slots log ks point (place.Called at) = Prim.hlevel props

pub IsInstr-prop : (instr : Instr) → IsProp (IsInstr instr)
IsInstr-prop (Upper op rd immediate) = Prim.hlevel props
IsInstr-prop (Jal rd offset) = Prim.hlevel props
IsInstr-prop (Jalr rd rs1 offset) = Prim.hlevel props
IsInstr-prop (Branch op rs1 rs2 offset) = Prim.hlevel props
IsInstr-prop (Load op rd rs1 offset) = Prim.hlevel props
IsInstr-prop (Store op rs1 rs2 offset) = Prim.hlevel props
IsInstr-prop (Immediate op rd rs1 immediate) = Prim.hlevel props
IsInstr-prop (Shift op rd rs1 amount) = Prim.hlevel props
IsInstr-prop (Registers op rd rs1 rs2) = Prim.hlevel props
IsInstr-prop Fence = Prim.hlevel props
IsInstr-prop Ecall = Prim.hlevel props
IsInstr-prop Ebreak = Prim.hlevel props
