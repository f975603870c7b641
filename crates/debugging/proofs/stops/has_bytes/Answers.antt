-- By what is left to compare.
use Rattle.std.proofs.Common.{◌∙◌, ◌<◌, ◌≤◌, arith, length, sym}
use Rattle.kernel_machine.specs.Setups.{state_in}
use Rattle.debugging.proofs.BytesLeft.{bytes-done, bytes-left}
use Rattle.debugging.proofs.stops.has_bytes.Goals as goal

pub returns-then-not-has_byte : goal.returns-then-not-has_byte
returns-then-not-has_byte c =
    let less : c.bytes.byte-index < length c.args.bytes.now = omega (arith, c.bytes-test.true) in
    sym (bytes-left (state_in c.args.system.now) c.args.place c.bytes.at c.bytes.byte-index c.args.bytes.now _ less
    (sym c.has_byte.ensures ∙ c.if-not-has_byte.true) c.bytes.invariant)

pub bytes-preserved : goal.bytes-preserved
bytes-preserved c =
    let less : c.bytes.byte-index < length c.args.bytes.now = omega (arith, c.bytes-test.true) in
    bytes-left (state_in c.args.system.now) c.args.place c.bytes.at c.bytes.byte-index c.args.bytes.now _ less
    (sym c.has_byte.ensures ∙ c.if-not-has_byte.false) c.bytes.invariant

pub returns : goal.returns
returns c =
    let most : length c.args.bytes.now ≤ c.bytes.byte-index = omega (arith, c.bytes-test.false) in
    bytes-done (state_in c.args.system.now) c.args.place c.bytes.at c.bytes.byte-index c.args.bytes.now most c.bytes.invariant
