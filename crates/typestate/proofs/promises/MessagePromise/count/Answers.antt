-- By what a promise is.
use Rattle.std.proofs.Common.{◌∙◌, length, ap, sym}
use Rattle.model.specs.Images.Image.{ImagePromise}
use Rattle.model.specs.declared.entries.PromiseHeader.{PromiseHeader}
use Rattle.typestate.proofs.promises.MessagePromise.count.Goals as goal

pub returns : goal.returns
returns c =
    ap (λ (h : PromiseHeader). h.words) c.header.ensures ∙ sym c.self.invariant.count ∙ ap (λ (p : ImagePromise). length p.words) c.self.view_is
