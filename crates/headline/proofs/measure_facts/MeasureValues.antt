-- A measure whose registers are forms has its value where each form has its register's.
use Rattle.std.proofs.Common.{ℕ, ◌≡◌, ◌∙◌, ◌<◌, ◌≤◌, List, [], ◌∷◌, ℤ, pos, ◌+ℤ◌, ◌*ℤ◌, map, fold, sym, ap}
use Rattle.std.specs.List.{All}
use Rattle.std.proofs.lemmas.List.Elements.{All-head, All-tail}
use Rattle.std.proofs.Math.IntN.{+ℤ_assoc, +ℤ_idr}
use Rattle.model.specs.declared.entries.TermEntry.{TermEntry}
use Rattle.model.specs.Acceptance.Measures.{Form, Measure, Variable, constant_form, measured, register_numbered, substituted, sum_form, times_form}
use Rattle.model.specs.Machine.ProgramMemory.{RegisterFile, read}
use Rattle.headline.specs.measure_facts.Terms.{NamesRegisters}
use Rattle.headline.proofs.measure_facts.FormValues.{value, value-constant, value-sum, value-times}

-- it names a register other than register 0
abbrev pub IsTerm : TermEntry → Type 0
IsTerm t = (1 ≤ t.register) × (t.register < 32)

-- each register's form has the register's value
abbrev pub HaveValues : (Variable → ℕ) → (ℕ → Form) → RegisterFile → Type 0
HaveValues v value_of r = (k : ℕ) → 1 ≤ k → k < 32 → value v (value_of k) ≡ pos (read r (register_numbered k))

terms-valued : (v : Variable → ℕ) (value_of : ℕ → Form) (r : RegisterFile) (start : Form) (c s : ℤ) (terms : List TermEntry) → HaveValues v value_of r →
    All IsTerm terms
    → value v start ≡ c +ℤ s
    → value v (fold (λ f t. sum_form f (times_form t.coefficient (value_of t.register))) start terms)
    ≡ c +ℤ fold (λ a b. a +ℤ b) s (map (λ t. t.coefficient *ℤ pos (read r (register_numbered t.register))) terms)
terms-valued v value_of r start c s [] have are is = is
terms-valued v value_of r start c s (t ∷ ts) have are is =
    let here : IsTerm t = All-head IsTerm t ts are in
    let added : ℤ = t.coefficient *ℤ pos (read r (register_numbered t.register)) in
    let step : value v (sum_form start (times_form t.coefficient (value_of t.register))) ≡ c +ℤ (s +ℤ added) =
    value-sum v start (times_form t.coefficient (value_of t.register))
    ∙ ap (λ (z : ℤ). z +ℤ value v (times_form t.coefficient (value_of t.register))) is
    ∙ ap (λ (z : ℤ). (c +ℤ s) +ℤ z) (value-times v t.coefficient (value_of t.register) ∙ ap (λ (z : ℤ). t.coefficient *ℤ z) (have t.register here.0 here.1))
    ∙ +ℤ_assoc c s added in
    terms-valued v value_of r (sum_form start (times_form t.coefficient (value_of t.register))) c (s +ℤ added) ts have (All-tail IsTerm t ts are) step

pub measure-valued : (v : Variable → ℕ) (m : Measure) (value_of : ℕ → Form) (r : RegisterFile) → HaveValues v value_of r → NamesRegisters m
    → value v (substituted m value_of) ≡ measured m r
unfolding substituted
measure-valued v m value_of r have are =
    terms-valued v value_of r (constant_form m.constant) m.constant (pos 0) m.terms have are (value-constant v m.constant ∙ sym (+ℤ_idr m.constant))
