-- A type that is small enough has at most 2^24 bytes.
use Rattle.std.proofs.Common.{◌≡◌, ◌≤◌, true, arith}
use Rattle.std.proofs.lemmas.Bool.{leb-true}
use Rattle.untyped.proofs.new_types.object_bits.Goals as goal
use Rattle.model.specs.Kernel.Retype.{NewObject, NewUntyped, NewThread, NewEndpoint, NewNotification, NewCNode, NewFrame, NewPageTable, NewRootTable}
use Rattle.model.specs.Kernel.Retype.{is_small_enough, object_bits}

bits-most : (kind : NewObject) → is_small_enough kind ≡ true → object_bits kind ≤ 24
bits-most (NewUntyped bits) small = leb-true bits 24 small
bits-most NewThread small = omega arith
bits-most NewEndpoint small = omega arith
bits-most NewNotification small = omega arith
bits-most (NewCNode radix) small = let most = leb-true radix 14 small in omega (arith, most)
bits-most NewFrame small = omega arith
bits-most NewPageTable small = omega arith
bits-most NewRootTable small = omega arith
