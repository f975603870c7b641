-- The numbers, names and items of refusals.
use Rattle.std.specs.Prelude.{ℕ, List, codes}
use Rattle.model.specs.declared.refusals.Refusal.{Refusal}
use Rattle.model.specs.declared.refusals.Refusal.TheVariants.{PromiseNotKept, BadPromise, BadBuffer}
use Rattle.model.specs.declared.refusals.Refusal.TheVariants.{Magic, Version, Truncated, Trailing, Limit, UntypedOverlap, NoRoom, BadObject, BadCap}
use Rattle.model.specs.declared.refusals.Refusal.TheVariants.{SharedCSpace, SharedVSpace, BadMapping, WritableCode, BadThread, IllegalInstruction, ComputedJump}
use Rattle.model.specs.declared.refusals.Refusal.TheVariants.{BadTarget, RangeNotKept, NotMapped, MeasureNotFalling, OverBudget, CallNotConstant, CapNotThere}
use Rattle.model.specs.declared.refusals.Refusal.TheVariants.{CallRefused, PoolLost, OutOfMemory}

abbrev pub refusal_number : Refusal → ℕ
refusal_number Magic = 1
refusal_number Version = 2
refusal_number (Truncated offset) = 3
refusal_number (Trailing offset) = 4
refusal_number (Limit offset) = 5
refusal_number (UntypedOverlap untyped) = 6
refusal_number (NoRoom object) = 7
refusal_number (BadObject object) = 8
refusal_number (BadCap item) = 9
refusal_number (SharedCSpace thread) = 10
refusal_number (SharedVSpace thread) = 11
refusal_number (BadMapping item) = 12
refusal_number (WritableCode item) = 13
refusal_number (BadThread thread) = 14
refusal_number (IllegalInstruction at) = 15
refusal_number (ComputedJump at) = 16
refusal_number (BadTarget at) = 17
refusal_number (RangeNotKept at) = 18
refusal_number (NotMapped at) = 19
refusal_number (MeasureNotFalling at) = 20
refusal_number (OverBudget at) = 21
refusal_number (CallNotConstant at) = 22
refusal_number (CapNotThere at) = 23
refusal_number (CallRefused at error) = 24
refusal_number (PoolLost at) = 25
refusal_number OutOfMemory = 26
refusal_number (PromiseNotKept at) = 28
refusal_number (BadPromise item) = 29
refusal_number (BadBuffer thread) = 30

abbrev pub refusal_name : Refusal → List ℕ
refusal_name Magic = codes "Magic"
refusal_name Version = codes "Version"
refusal_name (Truncated offset) = codes "Truncated"
refusal_name (Trailing offset) = codes "Trailing"
refusal_name (Limit offset) = codes "Limit"
refusal_name (UntypedOverlap untyped) = codes "UntypedOverlap"
refusal_name (NoRoom object) = codes "NoRoom"
refusal_name (BadObject object) = codes "BadObject"
refusal_name (BadCap item) = codes "BadCap"
refusal_name (SharedCSpace thread) = codes "SharedCSpace"
refusal_name (SharedVSpace thread) = codes "SharedVSpace"
refusal_name (BadMapping item) = codes "BadMapping"
refusal_name (WritableCode item) = codes "WritableCode"
refusal_name (BadThread thread) = codes "BadThread"
refusal_name (IllegalInstruction at) = codes "IllegalInstruction"
refusal_name (ComputedJump at) = codes "ComputedJump"
refusal_name (BadTarget at) = codes "BadTarget"
refusal_name (RangeNotKept at) = codes "RangeNotKept"
refusal_name (NotMapped at) = codes "NotMapped"
refusal_name (MeasureNotFalling at) = codes "MeasureNotFalling"
refusal_name (OverBudget at) = codes "OverBudget"
refusal_name (CallNotConstant at) = codes "CallNotConstant"
refusal_name (CapNotThere at) = codes "CapNotThere"
refusal_name (CallRefused at error) = codes "CallRefused"
refusal_name (PoolLost at) = codes "PoolLost"
refusal_name OutOfMemory = codes "OutOfMemory"
refusal_name (PromiseNotKept at) = codes "PromiseNotKept"
refusal_name (BadPromise item) = codes "BadPromise"
refusal_name (BadBuffer thread) = codes "BadBuffer"

-- where: the offset in the file and 0, the item and 0, or the thread and the point
abbrev pub refusal_items : Refusal → ℕ × ℕ
refusal_items Magic = (0, 0)
refusal_items Version = (0, 0)
refusal_items (Truncated offset) = (offset, 0)
refusal_items (Trailing offset) = (offset, 0)
refusal_items (Limit offset) = (offset, 0)
refusal_items (UntypedOverlap untyped) = (untyped, 0)
refusal_items (NoRoom object) = (object, 0)
refusal_items (BadObject object) = (object, 0)
refusal_items (BadCap item) = (item, 0)
refusal_items (SharedCSpace thread) = (thread, 0)
refusal_items (SharedVSpace thread) = (thread, 0)
refusal_items (BadMapping item) = (item, 0)
refusal_items (WritableCode item) = (item, 0)
refusal_items (BadThread thread) = (thread, 0)
refusal_items (IllegalInstruction at) = (at.thread, at.point)
refusal_items (ComputedJump at) = (at.thread, at.point)
refusal_items (BadTarget at) = (at.thread, at.point)
refusal_items (RangeNotKept at) = (at.thread, at.point)
refusal_items (NotMapped at) = (at.thread, at.point)
refusal_items (MeasureNotFalling at) = (at.thread, at.point)
refusal_items (OverBudget at) = (at.thread, at.point)
refusal_items (CallNotConstant at) = (at.thread, at.point)
refusal_items (CapNotThere at) = (at.thread, at.point)
refusal_items (CallRefused at error) = (at.thread, at.point)
refusal_items (PoolLost at) = (at.thread, at.point)
refusal_items OutOfMemory = (0, 0)
refusal_items (PromiseNotKept at) = (at.thread, at.point)
refusal_items (BadPromise item) = (item, 0)
refusal_items (BadBuffer thread) = (thread, 0)
