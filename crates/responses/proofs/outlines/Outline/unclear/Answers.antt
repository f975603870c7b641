-- Nothing is said of what is unclear.
use Rattle.std.proofs.Common.{◌≡◌, ◌∙◌, ◌++◌, true, false, None, List, [], ◌∷◌, ap}
use Rattle.std.specs.Prelude.{slice_get}
use Rattle.responses.proofs.outlines.Outline.unclear.Goals as goal
use Rattle.responses.specs.Outlines.{run_from}
use Rattle.responses.specs.declared.asks.Ask.TheVariants.{Nothing}
use Rattle.responses.specs.declared.outlines.Run.{Run}
use Rattle.responses.specs.declared.spans.Span.{Span}

abbrev unclear : Run
unclear = record { point = 0; place = 0; is_clear = false; ask = Nothing; badge = 0; taken = None; next = None }

pub returns : goal.returns
returns c = record {
  number = c.with.ensures.number;
  header = c.with.ensures.header;
  tcb = c.with.ensures.tcb;
  drawn = λ point less. record {
    run = unclear;
    listed = (
      0,
      ap (λ (l : List Run). slice_get l 0)
          (c.with.ensures.runs ∙ c.in_ok-push.ensures.items ∙ ap (λ (l : List Run). l ++ unclear ∷ []) c.new-runs.ensures.items),
    );
    here = ap (λ (l : List Span). run_from 0 l point) (c.with.ensures.spans ∙ c.new.ensures.items);
    fits = λ clear. absurd (let clash : false ≡ true = clear in cc);
  };
}
