use Rattle.std.proofs.Common.{◌≡◌, ℕ, List, Ok, refl, sym, subst}
use Rattle.std.specs.Prelude.{Result}
use Rattle.model.specs.Images.Image.{ImagePromise}
use Rattle.asm_line.specs.Words.{◌>>=◌}
use Rattle.asm_line.specs.declared.lines.Line.TheVariants as line
use Rattle.asm.specs.Keys.{sorted_with}
use Rattle.asm.specs.Meaning.{placed_with, promised_said}
use Rattle.asm.specs.Names.{number_known}
use Rattle.asm.specs.Outcomes.{Means}
use Rattle.asm.specs.Sections.{Declared, promise_with}
use Rattle.asm.proofs.ListedSteps.{goes}
use Rattle.asm.proofs.Steps.{means-on, means-same}
use Rattle.asm.proofs.declarations.Declarations.add_promise.Goals as goal

pub returns : goal.returns
unfolding placed_with
returns c =
    let d : Declared = record {
      names = c.self.inside.names;
      untypeds = c.self.inside.untypeds.items;
      objects = c.self.inside.objects.items;
      capabilities = c.self.inside.capabilities.items;
      interrupts = c.self.inside.interrupts.items;
      tables = c.self.inside.tables.items;
      frames = c.self.inside.frames.items;
      contents = c.self.inside.contents.items;
      promises = c.self.inside.promises.items;
    } in
    let key : ImagePromise → ℕ = λ (e : ImagePromise). e.header.endpoint in
    let entry : ImagePromise = promise_with c.in_ok-endpoint.endpoint c.args.badge_low c.args.badge_high c.in_ok-words.words.items in
    let grown : List ImagePromise → Result Declared ℕ = λ entries. Ok (record d { promises = entries }) in
    let chain : placed_with d (line.Promise c.args.endpoint.now c.args.badge_low c.args.badge_high c.args.words)
    ≡ (sorted_with key 4096 entry d.promises >>= grown) =
    goes (number_known d.names.objects c.args.endpoint.now) _ c.in_ok-endpoint.endpoint _ c.in_ok-endpoint.ensures
    (goes (promised_said c.args.words) _ c.in_ok-words.words.items _ c.in_ok-words.ensures refl) in
    subst (λ (old : Declared). Means c.insert.result (λ _. record d { promises = c.insert.new.entries.items })
    (placed_with old (line.Promise c.args.endpoint.now c.args.badge_low c.args.badge_high c.args.words))) c.self.view_is
    (means-same c.insert.result _ _ _ (sym chain)
    (means-on c.insert.result (λ _. c.insert.new.entries.items) (sorted_with key 4096 entry d.promises) grown
    (λ _. record d { promises = c.insert.new.entries.items }) (λ _. refl) c.insert.ensures))
