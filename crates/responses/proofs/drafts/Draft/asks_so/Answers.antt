-- By what is asked there, and where both ways lead.
use Rattle.std.proofs.Common.{◌∙◌, ◌+◌, ◌-◌, ◌/◌, inl, inr, Some, sym, ap}
use Rattle.responses.proofs.Drawing.{both-ways}
use Rattle.responses.proofs.drafts.Draft.asks_so.Goals as goal
use Rattle.responses.specs.Asks.{asked}

pub returns-then-asks_nothing : goal.returns-then-asks_nothing
returns-then-asks_nothing c = λ _ place gives. record {
  asks = ap asked (sym (c.is_same.ensures c.if-not-is_same.false)) ∙ c.ask_of.ensures;
  badge = sym c.if-badge_of-run.false ∙ c.badge_of.ensures;
  ways = λ test all.
      both-ways (λ address. test (place ((address - c.args.base) / 4))) c.args.seen.now (c.follows.ensures c.if-not-follows.false place gives test all)
      (c.follows-2.ensures c.if-not-follows-2.false place gives test all);
  next = inl (c.asks_nothing.ensures c.if-asks_nothing.true);
}

pub returns-in-Some : goal.returns-in-Some
returns-in-Some c = λ leads place gives. record {
  asks = ap asked (sym (c.is_same.ensures c.if-not-is_same.false)) ∙ c.ask_of.ensures;
  badge = sym c.if-badge_of-run.false ∙ c.badge_of.ensures;
  ways = λ test all.
      both-ways (λ address. test (place ((address - c.args.base) / 4))) c.args.seen.now (c.follows.ensures c.if-not-follows.false place gives test all)
      (c.follows-2.ensures c.if-not-follows-2.false place gives test all);
  next = inr (
      c.leads_to.ensures leads ∙ ap Some (sym (gives (c.args.point + 1) c.in-Some.place (c.place_after.ensures c.in-Some.place c.in-Some.is)))
      );
}
