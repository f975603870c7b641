-- The part reaches to the end of the longer log.
use Rattle.std.proofs.Common.{rules, ◌≡◌, ◌∙◌, ◌++◌, List, length, refl, ap}
use Rattle.typestate.specs.declared.log_entries.LogEntry.{LogEntry}
use Rattle.typestate.proofs.LogParts.{grown-part}
use Rattle.typestate.proofs.logs.SlotLog.grow.Goals as goal

pub returns-clause-held : goal.returns-clause-held
returns-clause-held c =
    let grown : c.extend_from_slice.new.self.items ≡ c.args.self.now ++ c.args.made.now =
    c.in_ok-extend_from_slice.ensures.items ∙ ap (λ (l : List LogEntry). l ++ c.args.made.now) c.self.view_is in
    let end : c.len-end.result ≡ length c.extend_from_slice.new.self.items = search rules in
    (grown-part c.args.self.now c.args.made.now c.extend_from_slice.new.self.items c.args.part (record { first = c.args.part.first; end = c.len-end.result })
    grown c.requires.held c.requires.last
    refl end).0
