-- The words of a message, one after another.
use Rattle.std.proofs.Common.{ℕ, ◌≡◌, ◌∙◌, ◌+◌, ◌<◌, ◌≤◌, Result, Ok, Err, List, [], ◌∷◌, ◌++◌, length, take, drop, set, get_or, refl, sym, ap, append_assoc}
use Rattle.std.proofs.Common.{add-one}
use Rattle.std.proofs.Math.Seq.{drop-cons, take-suc-set}
use Rattle.std.proofs.lemmas.List.{append-nil, length-take-le}
use Rattle.model.specs.declared.instructions.Register.{Register}
use Rattle.model.specs.declared.refusals.Point.{Point}
use Rattle.model.specs.declared.refusals.Refusal.{Refusal}
use Rattle.model.specs.Acceptance.CallRules.{all_known, known}
use Rattle.model.specs.Acceptance.NotedStates.{PointState}
use Rattle.model.specs.Images.Format.{◌>>=◌}
use Rattle.model.specs.Kernel.Messages.{a0, word_registers}

-- words before others
abbrev pub prefixed : List ℕ → Result (List ℕ) Refusal → Result (List ℕ) Refusal
prefixed front (Ok rest) = Ok (front ++ rest)
prefixed front (Err refusal) = Err refusal

abbrev pub joined : Result ℕ Refusal → Result (List ℕ) Refusal → Result (List ℕ) Refusal
joined first rest = first >>= λ value. rest >>= λ values. Ok (value ∷ values)

one-before : (front : List ℕ) (value : ℕ) (rest : Result (List ℕ) Refusal) → prefixed front (joined (Ok value) rest) ≡ prefixed (front ++ value ∷ []) rest
one-before front value (Ok rest) = ap (λ (words : List ℕ). Ok words) (sym (append_assoc front (value ∷ []) rest))
one-before front value (Err refusal) = refl

next-word : (at : Point) (state : PointState) (regs : List Register) (i : ℕ) → i < length regs →
    all_known at state (drop i regs) ≡ joined (known at state (get_or regs i a0)) (all_known at state (drop (i + 1) regs))
unfolding all_known
next-word at state regs i less = rw (add-one, drop-cons regs i a0) refl

pub one-word : (at : Point) (state : PointState) (regs : List Register) (i : ℕ) (words : List ℕ) (value : ℕ) → i < length regs → i < length words →
    Ok value ≡ known at state (get_or regs i a0)
    → all_known at state regs ≡ prefixed (take i words) (all_known at state (drop i regs))
    → all_known at state regs ≡ prefixed (take (i + 1) (set words i value)) (all_known at state (drop (i + 1) regs))
one-word at state regs i words value less room is before =
    let rest = all_known at state (drop (i + 1) regs) in
    before
    ∙ ap (prefixed (take i words)) (next-word at state regs i less ∙ ap (λ (r : Result ℕ Refusal). joined r rest) (sym is))
    ∙ one-before (take i words) value rest
    ∙ ap (λ (front : List ℕ). prefixed front rest) (sym (rw add-one (take-suc-set words i value room)))

pub no-word : (at : Point) (state : PointState) (regs : List Register) (i : ℕ) (words : List ℕ) (refusal : Refusal) → i < length regs →
    Err refusal ≡ known at state (get_or regs i a0)
    → all_known at state regs ≡ prefixed (take i words) (all_known at state (drop i regs)) → all_known at state regs ≡ Err refusal
no-word at state regs i words refusal less is before =
    before ∙ ap (prefixed (take i words)) (next-word at state regs i less
    ∙ ap (λ (r : Result ℕ Refusal). joined r (all_known at state (drop (i + 1) regs))) (sym is))

pub count-words : (count : ℕ) → count ≤ 8 → length (take count word_registers) ≡ count
unfolding word_registers
count-words count few = length-take-le count word_registers few

pub all-words : (at : Point) (state : PointState) (count index : ℕ) (words : List ℕ) → count ≤ 8 → index ≡ count
    → all_known at state (take count word_registers) ≡ prefixed (take index words) (all_known at state (drop index (take count word_registers)))
    → all_known at state (take count word_registers) ≡ Ok (take count words)
unfolding all_known
all-words at state count index words few is before =
    let regs = take count word_registers in
    let none : drop count regs ≡ [] = ap (λ n. drop n regs) (sym (count-words count few)) ∙ drop-all regs in
    before
    ∙ ap (λ n. prefixed (take n words) (all_known at state (drop n regs))) is
    ∙ ap (λ (rest : List Register). prefixed (take count words) (all_known at state rest)) none
    ∙ ap (λ (front : List ℕ). Ok front) (append-nil (take count words))
  where
    drop-all : (xs : List Register) → drop (length xs) xs ≡ []
    drop-all [] = refl
    drop-all (x ∷ xs) = drop-all xs
