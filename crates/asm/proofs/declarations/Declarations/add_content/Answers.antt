use Rattle.std.proofs.Common.{◌≡◌, ℕ, List, Ok, refl, sym, subst}
use Rattle.std.specs.Prelude.{Result}
use Rattle.model.specs.Images.Image.{ImageContent}
use Rattle.asm_line.specs.Words.{◌>>=◌}
use Rattle.asm_line.specs.declared.lines.Line.TheVariants as line
use Rattle.asm.specs.Keys.{sorted_with}
use Rattle.asm.specs.Meaning.{content_with, placed_with, words_said}
use Rattle.asm.specs.Names.{number_known}
use Rattle.asm.specs.Outcomes.{Means}
use Rattle.asm.specs.Sections.{Declared}
use Rattle.asm.proofs.ListedSteps.{goes}
use Rattle.asm.proofs.Steps.{means-on, means-same}
use Rattle.asm.proofs.declarations.Declarations.add_content.Goals as goal

pub returns : goal.returns
unfolding placed_with
returns c =
    let d : Declared = record {
      names = c.self.inside.names;
      untypeds = c.self.inside.untypeds.items;
      objects = c.self.inside.objects.items;
      capabilities = c.self.inside.capabilities.items;
      interrupts = c.self.inside.interrupts.items;
      tables = c.self.inside.tables.items;
      frames = c.self.inside.frames.items;
      contents = c.self.inside.contents.items;
      promises = c.self.inside.promises.items;
    } in
    let key : ImageContent → ℕ = λ (e : ImageContent). e.header.frame in
    let entry : ImageContent = content_with c.in_ok-frame.frame c.in_ok-words.words.items in
    let grown : List ImageContent → Result Declared ℕ = λ entries. Ok (record d { contents = entries }) in
    let chain : placed_with d (line.Content c.args.frame.now c.args.words) ≡ (sorted_with key 4096 entry d.contents >>= grown) =
    goes (number_known d.names.objects c.args.frame.now) _ c.in_ok-frame.frame _ c.in_ok-frame.ensures
    (goes (words_said c.args.words) _ c.in_ok-words.words.items _ c.in_ok-words.ensures refl) in
    subst (λ (old : Declared). Means c.insert.result (λ _. record d { contents = c.insert.new.entries.items })
    (placed_with old (line.Content c.args.frame.now c.args.words))) c.self.view_is
    (means-same c.insert.result _ _ _ (sym chain)
    (means-on c.insert.result (λ _. c.insert.new.entries.items) (sorted_with key 4096 entry d.contents) grown
    (λ _. record d { contents = c.insert.new.entries.items }) (λ _. refl) c.insert.ensures))
