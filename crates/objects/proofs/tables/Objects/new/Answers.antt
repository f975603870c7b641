-- Nothing is there yet.
use Rattle.std.proofs.Common.{ℕ, ◌≡◌, ◌∙◌, ◌/◌, replicate, ap, subst, sym}
use Rattle.objects.proofs.Fresh.{fresh, fresh-stands, fresh-state, fresh-tables}
use Rattle.objects.specs.Standing.{Standing}
use Rattle.objects.specs.Tables.{AreTables, Tables, state_of}
use Rattle.objects.specs.declared.records.Entry.TheVariants as entries
use Rattle.objects.proofs.tables.Objects.new.Goals as goal

made : (c : goal.After-quiet-2) → fresh c.args.bits c.args.radix c.new-2.result ≡ record {
  bits = c.args.bits;
  radix = c.args.radix;
  entries = c.in_ok-new.field-0;
  ready = c.new-2.result;
  masked = c.quiet.result;
  pending = c.quiet-2.result;
}
made c = λ i. record {
  bits = c.args.bits;
  radix = c.args.radix;
  entries = (ap (λ (n : ℕ). replicate (n / 16) entries.Nothing) (sym c.power-size.ensures.value) ∙ sym c.in_ok-new.ensures) i;
  ready = c.new-2.result;
  masked = sym c.quiet.ensures i;
  pending = sym c.quiet-2.ensures i;
}

pub invariant_of-result : goal.invariant_of-result
invariant_of-result c = subst AreTables (made c) (fresh-tables c.args.bits c.args.radix c.new-2.result c.requires.least c.requires.most c.requires.radix)

pub returns-clause-state : goal.returns-clause-state
returns-clause-state c = λ slots memory.
    ap (λ (o : Tables). state_of o slots memory) (sym (made c)) ∙ fresh-state c.args.bits c.args.radix c.new-2.result c.new-2.ensures.empty slots memory

pub returns-clause-stands : goal.returns-clause-stands
returns-clause-stands c = λ slots memory size.
    subst (λ (o : Tables). Standing o slots memory) (made c)
    (fresh-stands c.args.bits c.args.radix c.new-2.result c.new-2.ensures.empty
    (fresh-tables c.args.bits c.args.radix c.new-2.result c.requires.least c.requires.most c.requires.radix) slots memory
    c.new-2.ensures.stands size)
