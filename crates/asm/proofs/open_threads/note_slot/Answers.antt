use Rattle.std.specs.Prelude.{Result, length, slice_index}
use Rattle.std.proofs.Common.{◌≡◌, ℕ, List, Ok, refl, sym, subst}
use Rattle.model.specs.declared.entries.SlotEntry.{SlotEntry}
use Rattle.model.specs.Images.Image.{StateRecord, pair_key}
use Rattle.asm_line.specs.Words.{◌>>=◌}
use Rattle.asm.specs.Keys.{sorted_with}
use Rattle.asm.specs.Meaning.{parent_known, slots_with}
use Rattle.asm.specs.Names.{number_known}
use Rattle.asm.specs.Outcomes.{Means}
use Rattle.asm.proofs.ListedSteps.{goes}
use Rattle.asm.proofs.Steps.{means-on, means-same}
use Rattle.asm.proofs.open_threads.note_slot.Goals as goal

pub returns : goal.returns
unfolding slots_with
returns c =
    let n : StateRecord = record {
      header = record {
        point = c.noted.inside.point;
        ranges = length c.noted.inside.ranges.items;
        slots = length c.noted.inside.slots.items;
        terms = length c.noted.inside.terms.items;
        constant = c.noted.inside.constant;
      };
      ranges = c.noted.inside.ranges.items;
      slots = c.noted.inside.slots.items;
      terms = c.noted.inside.terms.items;
    } in
    let word0 = slice_index c.args.words 0 in
    let word1 = slice_index c.args.words 1 in
    let key : SlotEntry → ℕ = λ (e : SlotEntry). pair_key e.cnode e.index in
    let entry : SlotEntry = record {
      cnode = c.in_ok-cnode.cnode;
      index = c.args.index;
      word0 = word0;
      word1 = word1;
      parent_cnode = c.in_ok-from.from.0;
      parent_index = c.in_ok-from.from.1;
    } in
    let grown : List SlotEntry → Result StateRecord ℕ = λ slots. Ok (record n { header = record n.header { slots = length slots }; slots = slots }) in
    let chain : slots_with c.args.names.now c.args.cnode.now c.args.index word0 word1 c.args.parent.now n ≡ (sorted_with key 256 entry n.slots >>= grown) =
    goes (number_known c.args.names.now.objects c.args.cnode.now) _ c.in_ok-cnode.cnode _ c.in_ok-cnode.ensures
    (goes (parent_known c.args.names.now c.args.parent.now) _ c.in_ok-from.from _ c.in_ok-from.ensures refl) in
    let made : StateRecord = record n { header = record n.header { slots = length c.insert.new.entries.items }; slots = c.insert.new.entries.items } in
    subst (λ (old : StateRecord). Means c.insert.result (λ _. made)
    (slots_with c.args.names.now c.args.cnode.now c.args.index word0 word1 c.args.parent.now old)) c.noted.view_is
    (means-same c.insert.result _ _ _ (sym chain)
    (means-on c.insert.result (λ _. c.insert.new.entries.items) (sorted_with key 256 entry n.slots) grown (λ _. made) (λ _. refl) c.insert.ensures))
