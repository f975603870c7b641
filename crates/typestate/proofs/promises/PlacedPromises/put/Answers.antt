-- Only an offset at which nothing is promised gets a promise.
use Rattle.std.proofs.Common.{ℕ, ◌∙◌, ◌==◌, Bor, Option, Some, None, List, if◌then◌else◌, sym, ap}
use Rattle.std.specs.Option.{option_copied, option_or}
use Rattle.model.specs.Images.Image.{ImagePromise}
use Rattle.typestate.specs.Promises.{placed_at}
use Rattle.typestate.proofs.PromisedPlaces.{placed-kept, placed-new}
use Rattle.typestate.proofs.promises.PlacedPromises.put.Goals as goal

pub returns-in-Some : goal.returns-in-Some
returns-in-Some c = λ other.
    placed-kept c.args.self.now c.args.offset other c.args.promise c.in-Some.field-0.now
    (sym (ap (λ (placed : List (ℕ × ImagePromise)). placed_at placed c.args.offset) c.self.view_is)
    ∙ sym c.get.ensures.value ∙ ap (λ (o : Option (Bor ImagePromise)). option_copied o) c.in-Some.is)

pub returns-in_ok-insert-in-None : goal.returns-in_ok-insert-in-None
returns-in_ok-insert-in-None c = λ other.
    placed-new c.self.inside.placed.entries c.insert.new.self.entries c.args.offset other c.args.promise
    (sym c.get.ensures.value ∙ ap (λ (o : Option (Bor ImagePromise)). option_copied o) c.in-None.is) (c.in_ok-insert-in-None.ensures.updates.0 other)
    ∙ ap (λ (placed : List (ℕ × ImagePromise)). option_or (placed_at placed other) (if c.args.offset == other then Some c.args.promise else None))
    c.self.view_is
