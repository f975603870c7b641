use Rattle.std.proofs.Common.{◌≡◌, ℕ, List, Ok, refl, sym, subst}
use Rattle.std.specs.Prelude.{Result}
use Rattle.model.specs.Images.Image.{pair_key}
use Rattle.asm.specs.declared.declarations.Capability.{Capability}
use Rattle.asm_line.specs.Words.{◌>>=◌}
use Rattle.asm_line.specs.declared.lines.Line.TheVariants as line
use Rattle.asm.specs.Keys.{sorted_with}
use Rattle.asm.specs.Meaning.{placed_with}
use Rattle.asm.specs.Names.{number_known, source_known}
use Rattle.asm.specs.Outcomes.{Means}
use Rattle.asm.specs.Sections.{Declared}
use Rattle.asm.proofs.ListedSteps.{goes}
use Rattle.asm.proofs.Steps.{means-on, means-same}
use Rattle.asm.proofs.declarations.Declarations.add_capability.Goals as goal

pub returns : goal.returns
unfolding placed_with
returns c =
    let d : Declared = record {
      names = c.self.inside.names;
      untypeds = c.self.inside.untypeds.items;
      objects = c.self.inside.objects.items;
      capabilities = c.self.inside.capabilities.items;
      interrupts = c.self.inside.interrupts.items;
      tables = c.self.inside.tables.items;
      frames = c.self.inside.frames.items;
      contents = c.self.inside.contents.items;
      promises = c.self.inside.promises.items;
    } in
    let key : Capability → ℕ = λ (e : Capability). pair_key e.cnode e.index in
    let entry : Capability = record {
      cnode = c.in_ok-cnode.cnode;
      index = c.args.index;
      source = c.in_ok-source.source;
      rights = c.args.rights;
      payload =
          c.args.payload;
    } in
    let grown : List Capability → Result Declared ℕ = λ entries. Ok (record d { capabilities = entries }) in
    let chain : placed_with d (line.Capability c.args.cnode.now c.args.index c.args.source.now c.args.rights c.args.payload)
    ≡ (sorted_with key 16384 entry d.capabilities >>= grown) =
    goes (number_known d.names.objects c.args.cnode.now) _ c.in_ok-cnode.cnode _ c.in_ok-cnode.ensures
    (goes (source_known d.names c.args.source.now) _ c.in_ok-source.source _ c.in_ok-source.ensures refl) in
    subst (λ (old : Declared). Means c.insert.result (λ _. record d { capabilities = c.insert.new.entries.items })
    (placed_with old (line.Capability c.args.cnode.now c.args.index c.args.source.now c.args.rights c.args.payload))) c.self.view_is
    (means-same c.insert.result _ _ _ (sym chain)
    (means-on c.insert.result (λ _. c.insert.new.entries.items) (sorted_with key 16384 entry d.capabilities) grown
    (λ _. record d { capabilities = c.insert.new.entries.items }) (λ _. refl) c.insert.ensures))
