-- One digit is another address of the row, and three are another one of the page.
use Rattle.trace.proofs.PlainDigits.{same_page, same_row}
use Rattle.trace.proofs.plain_lines.PlainLine.go_on.Goals as goal

pub invariant_of-self : goal.invariant_of-self
invariant_of-self c =
    let same = same_row c.args.self.now.thread c.args.pc c.args.self.now.pc c.if-pc-self.true in
    record {
      kept = rw (c.args.self.now.kept, c.hex_digit.ensures) same;
    }

pub invariant_of-self-2 : goal.invariant_of-self-2
invariant_of-self-2 c =
    let same = same_page c.args.self.now.thread c.args.pc c.args.self.now.pc c.if-pc-self-2.false in
    record {
      kept = rw (c.args.self.now.kept, c.hex_digit-2.ensures, c.hex_digit-3.ensures, c.hex_digit-4.ensures) same;
    }
