-- By where both ways lead.
use Rattle.std.proofs.Common.{◌∙◌, ◌-◌, ◌/◌, sym}
use Rattle.responses.proofs.Drawing.{both-ways}
use Rattle.responses.proofs.drafts.Draft.stays_so.Goals as goal

pub returns : goal.returns
returns c = λ stays place gives. record {
  asks = sym c.ask_of.ensures ∙ c.asks_nothing.ensures c.if-not-asks_nothing.false;
  ways = λ test here.
      both-ways (λ address. test (place ((address - c.args.base) / 4))) c.args.seen.now (c.stays.ensures c.if-not-stays.false place gives test here)
      (c.stays-2.ensures stays place gives test here);
}
