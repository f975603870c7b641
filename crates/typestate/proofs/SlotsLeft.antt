-- Loops that ask whether a slot passes a test: what is left of the slots decides.
use Rattle.std.proofs.Common.{ℕ, suc, ◌≡◌, ◌∙◌, ◌+◌, ◌<◌, ◌≤◌, ◌||◌, ◌&&◌, Bool, true, false, List, ◌∷◌, length, drop, get_or, sym, ap, add-one, drop-cons}
use Rattle.std.specs.List.{list_all, list_any}
use Rattle.std.proofs.lemmas.List.{drop_all}
use Rattle.model.specs.Acceptance.NotedStates.{NotedSlot}

left-from : (slots : List NotedSlot) (i : ℕ) (s : NotedSlot) → i < length slots → s ≡ get_or slots i s → drop i slots ≡ s ∷ drop (i + 1) slots
left-from slots i s less at = rw (add-one i) (drop-cons slots i s less ∙ ap (λ (x : NotedSlot). x ∷ drop (suc i) slots) (sym at))

pub one-fails : (test : NotedSlot → Bool) (slots : List NotedSlot) (i : ℕ) (s : NotedSlot) (whole : Bool) → i < length slots → s ≡ get_or slots i s
    → test s ≡ false → list_any test (drop i slots) ≡ whole → list_any test (drop (i + 1) slots) ≡ whole
one-fails test slots i s whole less at off before =
    sym (ap (λ b. b || list_any test (drop (i + 1) slots)) off) ∙ sym (ap (list_any test) (left-from slots i s less at)) ∙ before

pub one-passes : (test : NotedSlot → Bool) (slots : List NotedSlot) (i : ℕ) (s : NotedSlot) (whole : Bool) → i < length slots → s ≡ get_or slots i s
    → test s ≡ true → list_all test (drop i slots) ≡ whole → list_all test (drop (i + 1) slots) ≡ whole
one-passes test slots i s whole less at on before =
    sym (ap (λ b. b && list_all test (drop (i + 1) slots)) on) ∙ sym (ap (list_all test) (left-from slots i s less at)) ∙ before

-- where one passes, that is the answer
pub this-passes : (test : NotedSlot → Bool) (slots : List NotedSlot) (i : ℕ) (s : NotedSlot) (whole : Bool) → i < length slots → s ≡ get_or slots i s
    → test s ≡ true → list_any test (drop i slots) ≡ whole → true ≡ whole
this-passes test slots i s whole less at on before =
    sym (ap (λ b. b || list_any test (drop (i + 1) slots)) on) ∙ sym (ap (list_any test) (left-from slots i s less at)) ∙ before

-- where one fails, that is the answer
pub this-fails : (test : NotedSlot → Bool) (slots : List NotedSlot) (i : ℕ) (s : NotedSlot) (whole : Bool) → i < length slots → s ≡ get_or slots i s
    → test s ≡ false → list_all test (drop i slots) ≡ whole → false ≡ whole
this-fails test slots i s whole less at off before =
    sym (ap (λ b. b && list_all test (drop (i + 1) slots)) off) ∙ sym (ap (list_all test) (left-from slots i s less at)) ∙ before

-- with no slot left none passed
pub none-passed : (test : NotedSlot → Bool) (slots : List NotedSlot) (i : ℕ) (whole : Bool) → length slots ≤ i → list_any test (drop i slots) ≡ whole →
    false ≡ whole
none-passed test slots i whole none before = sym (ap (list_any test) (drop_all i slots none)) ∙ before

-- with no slot left all passed
pub all-passed : (test : NotedSlot → Bool) (slots : List NotedSlot) (i : ℕ) (whole : Bool) → length slots ≤ i → list_all test (drop i slots) ≡ whole →
    true ≡ whole
all-passed test slots i whole none before = sym (ap (list_all test) (drop_all i slots none)) ∙ before
