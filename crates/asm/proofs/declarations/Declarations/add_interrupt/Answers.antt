use Rattle.std.specs.Prelude.{Result}
use Rattle.std.proofs.Common.{◌≡◌, ℕ, List, Ok, refl, sym, ap, ◌∙◌}
use Rattle.model.specs.declared.entries.InterruptEntry.{InterruptEntry}
use Rattle.asm_line.specs.Words.{◌>>=◌}
use Rattle.asm_line.specs.declared.lines.Line.TheVariants as line
use Rattle.asm.specs.Keys.{sorted_with}
use Rattle.asm.specs.Meaning.{declared_with}
use Rattle.asm.specs.Names.{KnownNames, free, is_taken, number_known, with_interrupt_name}
use Rattle.asm.specs.Sections.{Declared}
use Rattle.asm.proofs.ListedSteps.{goes}
use Rattle.asm.proofs.Steps.{either-goes, free-false, free-told, gives-means, refused-means}
use Rattle.asm.proofs.declarations.Declarations.add_interrupt.Goals as goal

module _ (d : Declared) (name notification : List ℕ) (number badge known : ℕ) where
  entry : InterruptEntry
  entry = record { line = number; notification = known; badge = badge }

  key : InterruptEntry → ℕ
  key e = e.line

  chain : free d.names name ≡ Ok tt → number_known d.names.objects notification ≡ Ok known
      → declared_with d (line.Interrupt name number notification badge)
      ≡ (sorted_with (λ (e : InterruptEntry). e.line) 64 (record { line = number; notification = known; badge = badge }) d.interrupts
      >>= λ (interrupts : List InterruptEntry). Ok (record d { names = with_interrupt_name d.names name number; interrupts = interrupts }))
  unfolding declared_with
  chain unused found = goes (free d.names name) _ tt _ unused (goes (number_known d.names.objects notification) _ known _ found refl)

pub returns-in_err-insert : goal.returns-in_err-insert
returns-in_err-insert c =
    let d : Declared = record {
      names = c.self.inside.names;
      untypeds = c.self.inside.untypeds.items;
      objects = c.self.inside.objects.items;
      capabilities = c.self.inside.capabilities.items;
      interrupts = c.self.inside.interrupts.items;
      tables = c.self.inside.tables.items;
      frames = c.self.inside.frames.items;
      contents = c.self.inside.contents.items;
      promises = c.self.inside.promises.items;
    } in
    let said = line.Interrupt c.args.name.now c.args.line c.args.notification.now c.args.badge in
    let steps = chain d c.args.name.now c.args.notification.now c.args.line c.args.badge c.in_ok-object.field-0
    (free-told (is_taken d.names c.args.name.now) c.in_ok-check_free.ensures) c.in_ok-object.ensures in
    let here : declared_with c.args.self.now said ≡ declared_with d said = ap (λ (old : Declared). declared_with old said) (sym c.self.view_is) in
    refused-means c.from_residual-in_err-insert.result c.in_err-insert.field-0.0 _ _ c.from_residual-in_err-insert.ensures
    (either-goes (λ e. here
    ∙ (steps ∙ ap (λ (r : Result (List InterruptEntry) ℕ). r >>= λ (interrupts : List InterruptEntry).
    Ok (record d { names = with_interrupt_name d.names c.args.name.now c.args.line; interrupts = interrupts })) e)) c.in_err-insert.ensures)

pub returns : goal.returns
returns c =
    let d : Declared = record {
      names = c.self.inside.names;
      untypeds = c.self.inside.untypeds.items;
      objects = c.self.inside.objects.items;
      capabilities = c.self.inside.capabilities.items;
      interrupts = c.self.inside.interrupts.items;
      tables = c.self.inside.tables.items;
      frames = c.self.inside.frames.items;
      contents = c.self.inside.contents.items;
      promises = c.self.inside.promises.items;
    } in
    let said = line.Interrupt c.args.name.now c.args.line c.args.notification.now c.args.badge in
    let steps = chain d c.args.name.now c.args.notification.now c.args.line c.args.badge c.in_ok-object.field-0
    (free-told (is_taken d.names c.args.name.now) c.in_ok-check_free.ensures) c.in_ok-object.ensures in
    let here : declared_with c.args.self.now said ≡ declared_with d said = ap (λ (old : Declared). declared_with old said) (sym c.self.view_is) in
    gives-means c.add_interrupt.result _ _ _ (λ _ named. here ∙ (steps
    ∙ (ap (λ (r : Result (List InterruptEntry) ℕ). r >>= λ (interrupts : List InterruptEntry).
    Ok (record d { names = with_interrupt_name d.names c.args.name.now c.args.line; interrupts = interrupts })) c.in_ok-insert.ensures
    ∙ ap (λ (names : KnownNames). Ok (record d { names = names; interrupts = c.insert.new.entries.items })) (sym named))))
    (c.add_interrupt.ensures (free-false (is_taken d.names c.args.name.now) c.in_ok-check_free.ensures))
