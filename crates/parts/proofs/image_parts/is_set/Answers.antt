-- There is no bit from the 64th on.
use Rattle.std.proofs.Common.{◌∙◌, ◌==◌, sym, ap}
use Rattle.std.proofs.lemmas.Bool.{le-ltb}
use Rattle.std.proofs.lemmas.Nat.Bits.{bit_at_above}
use Rattle.parts.proofs.image_parts.is_set.Goals as goal

pub returns-else-bit-lt64 : goal.returns-else-bit-lt64
returns-else-bit-lt64 c =
    let high = c.if-bit-lt64.false in
    le-ltb c.args.bit 64 high ∙ sym (ap (λ b. b == 1) (bit_at_above c.args.word 64 c.args.bit c.ranges.word.fits high))
