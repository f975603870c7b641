use Rattle.std.proofs.Common.{◌≡◌, ◌≤◌, ◌-◌, ◌^◌, drop}
use Rattle.asm_line.specs.Words.{value_on}
use Rattle.asm_line.proofs.numbers.digits_value.Given as goal

-- the number so far, and then the rest, is the whole
abbrev pub invariant-digits : goal.invariant-digits
invariant-digits l = record {
  whole : value_on l.radix l.value (drop l.byte-index l.digits) ≡ value_on l.radix 0 l.digits;
  least : l.value ≤ 2 ^ 63 - 1;
}
