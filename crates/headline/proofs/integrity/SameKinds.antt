-- Whether two kinds of objects are the same.
use Rattle.std.proofs.Common.{ℕ, ◌≡◌, ◌∙◌, ◌==◌, if◌then◌else◌, inl, inr, Option, Some, None, refl, sym, ap}
use Rattle.std.proofs.lemmas.Option.{none-some, same_Some}
use Rattle.model.specs.Kernel.Retype.{NewObject, NewUntyped, NewThread, NewEndpoint, NewNotification, NewCNode, NewFrame, NewPageTable, NewRootTable}
use Rattle.headline.proofs.parts.Laws.{Decided, numbers, pairs}

-- a kind as two numbers
abbrev code_of : NewObject → ℕ × ℕ
code_of (NewUntyped bits) = (0, bits)
code_of NewThread = (1, 0)
code_of NewEndpoint = (2, 0)
code_of NewNotification = (3, 0)
code_of (NewCNode radix) = (4, radix)
code_of NewFrame = (5, 0)
code_of NewPageTable = (6, 0)
code_of NewRootTable = (7, 0)

abbrev of_code : ℕ × ℕ → NewObject
of_code (kind, size) =
    if kind == 0 then NewUntyped size else if kind == 1 then NewThread else if kind == 2 then NewEndpoint else if kind == 3 then NewNotification else
    if kind == 4 then NewCNode size else if kind == 5 then NewFrame else if kind == 6 then NewPageTable else NewRootTable

back : (k : NewObject) → of_code (code_of k) ≡ k
back (NewUntyped bits) = refl
back NewThread = refl
back NewEndpoint = refl
back NewNotification = refl
back (NewCNode radix) = refl
back NewFrame = refl
back NewPageTable = refl
back NewRootTable = refl

kinds : (a b : NewObject) → Decided a b
kinds a b = elim (pairs (code_of a) (code_of b) (numbers (code_of a).0 (code_of b).0) (numbers (code_of a).1 (code_of b).1)) [
  | inl same ↦ inl (sym (back a) ∙ ap of_code same ∙ back b)
  | inr apart ↦ inr (λ same. apart (ap code_of same))
]

pub some-kinds : (a b : Option NewObject) → Decided a b
some-kinds None None = inl refl
some-kinds None (Some b) = inr (λ same. absurd (none-some b same))
some-kinds (Some a) None = inr (λ same. absurd (none-some a (sym same)))
some-kinds (Some a) (Some b) = elim (kinds a b) [
  | inl same ↦ inl (ap (λ (k : NewObject). Some k) same)
  | inr apart ↦ inr (λ same. apart (same_Some a b same))
]
