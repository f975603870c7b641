-- What is shown of a log, also where that grows.
use Rattle.std.proofs.Common.{◌∙◌, List, sym, ap, subst}
use Rattle.typestate.specs.Logs.{KeepsParts, Shows, ShowsSome}
use Rattle.typestate.specs.declared.logs.Part.{Part}
use Rattle.typestate.specs.declared.logs.ShownPart.{ShownPart}
use Rattle.typestate.specs.Replays.{replayed}
use Rattle.typestate.specs.declared.log_entries.LogEntry.{LogEntry}

pub some-shown : (log : List LogEntry) (part : Part) (shown : ShownPart) → Shows log part shown → ShowsSome log shown
some-shown log part shown shows = subst (λ (p : Part). Shows log p shown) (sym shows.part_is) shows

pub shown-grown : (old new : List LogEntry) (part : Part) (shown : ShownPart) → KeepsParts old new → Shows old part shown → Shows new part shown
shown-grown old new part shown keeps shows = record {
  part_is = shows.part_is;
  held = (keeps part shows.held).0;
  rising = shows.rising;
  same = λ slots rises unlinked. shows.same slots rises unlinked ∙ ap (replayed slots) (sym (keeps part shows.held).1);
}

pub some-grown : (old new : List LogEntry) (shown : ShownPart) → KeepsParts old new → ShowsSome old shown → ShowsSome new shown
some-grown old new shown keeps shows = shown-grown old new shown.part shown keeps shows

pub keeps-both : (old between new : List LogEntry) → KeepsParts old between → KeepsParts between new → KeepsParts old new
keeps-both old between new first second = λ part held.
    let one = first part held in
    let two = second part one.0 in (two.0, two.1 ∙ one.1)
