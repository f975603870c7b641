-- A number of both would have its bit in both.
use Rattle.std.proofs.Common.{ℕ, ◌∙◌, ◌&&◌, List, sym, ap, subst}
use Rattle.model.specs.Acceptance.ThreadRules.{is_member}
use Rattle.parts.specs.ObjectSets.{ShareNoBit}
use Rattle.parts.proofs.ObjectSets.{apart-by-words}
use Rattle.parts.proofs.object_sets.ObjectSet.is_apart.Goals as goal

pub returns : goal.returns
returns c = λ is n.
    let one = c.self.inside.numbers in
    let two = c.other.inside.numbers in
    let shared = subst (λ (l : List ℕ). ShareNoBit l c.other.inside.words.items) c.as_slice.ensures.value
    (subst (λ (l : List ℕ). ShareNoBit c.as_slice.result.now l) c.as_slice-2.ensures.value (c.share_no_bit.ensures is)) in
    ap (λ (l : List ℕ). is_member n l && is_member n c.args.other.now) (sym c.self.view_is)
    ∙ ap (λ (l : List ℕ). is_member n one && is_member n l) (sym c.other.view_is)
    ∙ apart-by-words one two c.self.inside.words.items c.other.inside.words.items c.self.invariant c.other.invariant shared n
