-- The numbers of errors and faults.
use Rattle.std.specs.Prelude.{ℕ}
use Rattle.model.specs.declared.errors.KError.{KError}
use Rattle.model.specs.declared.errors.KError.TheVariants.{InvalidArgument, InvalidCapability, IllegalOperation, RangeError, AlignmentError, FailedLookup}
use Rattle.model.specs.declared.errors.KError.TheVariants.{TruncatedMessage, DeleteFirst, RevokeFirst, NotEnoughMemory}
use Rattle.model.specs.declared.faults.FaultKind.{FaultKind}
use Rattle.model.specs.declared.faults.FaultKind.TheVariants.{Capability, UnknownCall, Instruction, Memory}

-- the number of an error, as a thread reads it
abbrev pub error_number : KError → ℕ
error_number InvalidArgument = 1
error_number InvalidCapability = 2
error_number IllegalOperation = 3
error_number RangeError = 4
error_number AlignmentError = 5
error_number FailedLookup = 6
error_number TruncatedMessage = 7
error_number DeleteFirst = 8
error_number RevokeFirst = 9
error_number NotEnoughMemory = 10

-- the number of a fault, which labels its message
abbrev pub fault_number : FaultKind → ℕ
fault_number Capability = 1
fault_number UnknownCall = 2
fault_number Instruction = 3
fault_number Memory = 4
