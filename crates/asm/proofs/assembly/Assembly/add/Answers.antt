use Rattle.std.specs.Prelude.{length}
use Rattle.std.proofs.Common.{◌≡◌, Some, sym, ap, subst, ◌∙◌}
use Rattle.asm.specs.Drafts.{Draft}
use Rattle.asm.specs.Meaning.{read_line}
use Rattle.asm.specs.Outcomes.{Means}
use Rattle.asm.proofs.Steps.{means-same, thread-read}
use Rattle.asm.proofs.assembly.Assembly.add.Goals as goal

pub returns-in-Some : goal.returns-in-Some
returns-in-Some c =
    let draft : Draft = record {
      memory = c.self.inside.memory;
      declared = c.self.inside.declared;
      threads = c.self.inside.threads.items;
      open_thread =
          c.self.inside.open;
    } in
    means-same c.add_to_thread.result _ _ _
    (thread-read c.args.labels.now c.args.number draft c.args.line c.in-Some.thread _ (sym c.if-is_blank.ensures) c.if-is_none.ensures
    (sym c.take.ensures.value ∙ c.in-Some.is)
    ∙ ap (λ (d : Draft). read_line c.args.labels.now c.args.number d c.args.line) c.self.view_is)
    (c.add_to_thread.ensures c.take.ensures.after)
