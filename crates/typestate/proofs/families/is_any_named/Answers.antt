-- The first ones of those from the block on are all of the block.
use Rattle.std.proofs.Common.{ℕ, ◌≡◌, ◌∙◌, ◌*◌, ◌/◌, Bool, if◌then◌else◌, List, [], ◌∷◌, sym, ap}
use Rattle.std.specs.List.{list_any}
use Rattle.std.proofs.lemmas.Bool.{ne_eqb}
use Rattle.typestate.specs.PackedChanges.{begin_in, has_name}
use Rattle.typestate.specs.declared.packed_change.PackedChange.{PackedChange}
use Rattle.typestate.proofs.NumberedChanges.{begin-block, none-named}
use Rattle.typestate.proofs.families.is_any_named.Goals as goal

abbrev Entries : Type 0
Entries = List (ℕ × PackedChange)

pub loop-number-init : goal.loop-number-init
loop-number-init c =
    let block = c.args.block in
    let es = c.args.changes.now.entries in
    let any : Entries → Bool = list_any (λ (e : ℕ × PackedChange). has_name c.args.name e.1.parent) in
    ap (λ (l : Entries). any (begin_in block l)) (c.into_iter-number-iterator.ensures.into_iter_gives ∙ c.range-number-items.ensures.between tt)
    ∙ ap any (begin-block block es c.range-number-items.ensures.ordered)

others-left : (any : Entries → Bool) (block n : ℕ) (change : PackedChange) (left rest : Entries) (whole : Bool) → left ≡ (n, change) ∷ rest →
    (n / 16 * 16 ≡ block → ⊥)
    → any (begin_in block left) ≡ whole → any [] ≡ whole
others-left any block n change left rest whole steps off is =
    ap (λ b. any (if b then (n, change) ∷ begin_in block rest else [])) (sym (ne_eqb (n / 16 * 16) block off))
    ∙ sym (ap (λ (l : Entries). any (begin_in block l)) steps) ∙ is

pub returns-then-block_of-block : goal.returns-then-block_of-block
returns-then-block_of-block c = λ _.
    let any : Entries → Bool = list_any (λ (e : ℕ × PackedChange). has_name c.args.name e.1.parent) in
    none-named c.args.name c.args.block c.args.changes.now.entries
    (sym (others-left any c.args.block c.in-Some.number.now c.in-Some.change.now c.loop-number.number-iterator c.next.new.self _ c.in-Some.ensures.steps
    (λ same. c.if-block_of-block.true (c.block_of.ensures ∙ same)) c.loop-number.invariant))

pub returns : goal.returns
returns c = λ _.
    let any : Entries → Bool = list_any (λ (e : ℕ × PackedChange). has_name c.args.name e.1.parent) in
    none-named c.args.name c.args.block c.args.changes.now.entries
    (sym c.loop-number.invariant ∙ ap (λ (l : Entries). any (begin_in c.args.block l)) c.in-None.ensures.steps.0)
