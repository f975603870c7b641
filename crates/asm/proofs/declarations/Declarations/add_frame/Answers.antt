use Rattle.std.proofs.Common.{◌≡◌, ℕ, List, Ok, refl, sym, subst}
use Rattle.std.specs.Prelude.{Result}
use Rattle.model.specs.Images.Image.{pair_key}
use Rattle.model.specs.declared.entries.FrameEntry.{FrameEntry}
use Rattle.asm_line.specs.Words.{◌>>=◌}
use Rattle.asm_line.specs.declared.lines.Line.TheVariants as line
use Rattle.asm.specs.Keys.{sorted_with}
use Rattle.asm.specs.Meaning.{placed_with}
use Rattle.asm.specs.Names.{number_known}
use Rattle.asm.specs.Outcomes.{Means}
use Rattle.asm.specs.Sections.{Declared}
use Rattle.asm.proofs.ListedSteps.{goes}
use Rattle.asm.proofs.Steps.{means-on, means-same}
use Rattle.asm.proofs.declarations.Declarations.add_frame.Goals as goal

pub returns : goal.returns
unfolding placed_with
returns c =
    let d : Declared = record {
      names = c.self.inside.names;
      untypeds = c.self.inside.untypeds.items;
      objects = c.self.inside.objects.items;
      capabilities = c.self.inside.capabilities.items;
      interrupts = c.self.inside.interrupts.items;
      tables = c.self.inside.tables.items;
      frames = c.self.inside.frames.items;
      contents = c.self.inside.contents.items;
      promises = c.self.inside.promises.items;
    } in
    let key : FrameEntry → ℕ = λ (e : FrameEntry). pair_key e.root e.address in
    let entry : FrameEntry = record { root = c.in_ok-root.root; address = c.args.address; frame = c.in_ok-frame.frame; rights = c.args.rights } in
    let grown : List FrameEntry → Result Declared ℕ = λ entries. Ok (record d { frames = entries }) in
    let chain : placed_with d (line.Frame c.args.root.now c.args.address c.args.frame.now c.args.rights) ≡ (sorted_with key 4096 entry d.frames >>= grown) =
    goes (number_known d.names.objects c.args.root.now) _ c.in_ok-root.root _ c.in_ok-root.ensures
    (goes (number_known d.names.objects c.args.frame.now) _ c.in_ok-frame.frame _ c.in_ok-frame.ensures refl) in
    subst (λ (old : Declared). Means c.insert.result (λ _. record d { frames = c.insert.new.entries.items })
    (placed_with old (line.Frame c.args.root.now c.args.address c.args.frame.now c.args.rights))) c.self.view_is
    (means-same c.insert.result _ _ _ (sym chain)
    (means-on c.insert.result (λ _. c.insert.new.entries.items) (sorted_with key 4096 entry d.frames) grown
    (λ _. record d { frames = c.insert.new.entries.items }) (λ _. refl) c.insert.ensures))
