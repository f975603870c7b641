-- Putting the lines of a trace, one after another.
use Rattle.std.proofs.Common.{◌≡◌, ◌∙◌, inl, inr, ℕ, zero, suc, ◌+◌, ◌-◌, ◌^◌, List, [], ◌∷◌, ◌++◌, length, take, Option, Result, Ok, Err, refl, sym}
use Rattle.std.proofs.Common.{ap, subst, append_assoc, arith}
use Rattle.std.specs.Prelude.{OnErr, OnOk, min}
use Rattle.std.proofs.Math.Nat.{min-eq_left, min-eq_right}
use Rattle.std.proofs.lemmas.Bool.{cases_lt}
use Rattle.std.proofs.lemmas.Grind.{flat_map-append}
use Rattle.std.proofs.lemmas.List.{append-nil}
use Rattle.model.specs.declared.labels.Label.{Label}
use Rattle.kernel_trace.specs.Lines.{Failed, PutsFront, ended, lines_of}
use Rattle.sinks.specs.Sinks.{Grows, GrowsByBeginning, one_more}
use Rattle.sinks.proofs.Laws.{Grows-then}

-- ---- beginnings

take-behind : (xs ys : List ℕ) (count : ℕ) → take (length xs + count) (xs ++ ys) ≡ xs ++ take count ys
take-behind [] ys count = let none : 0 + count ≡ count = omega arith in ap (λ (n : ℕ). take n ys) none
take-behind (x ∷ xs) ys count =
    let step : length (x ∷ xs) + count ≡ suc (length xs + count) = omega arith in
    ap (λ (n : ℕ). take n (x ∷ (xs ++ ys))) step ∙ ap (λ (t : List ℕ). x ∷ t) (take-behind xs ys count)

-- a beginning of the first of two is one of both
record Beginning (ys zs : List ℕ) (count : ℕ) : Type 0 where
  of_both : ℕ
  same : take of_both (ys ++ zs) ≡ take count ys

beginning : (ys zs : List ℕ) (count : ℕ) → Beginning ys zs count
beginning [] zs zero = record { of_both = 0; same = refl }
beginning [] zs (suc count) = record { of_both = 0; same = refl }
beginning (y ∷ ys) zs zero = record { of_both = 0; same = refl }
beginning (y ∷ ys) zs (suc count) =
    let rest = beginning ys zs count in
    record { of_both = suc rest.of_both; same = ap (λ (t : List ℕ). y ∷ t) rest.same }

pub begins_more : (old mid new : Option (List ℕ)) (whole printed piece rest : List ℕ) → whole ≡ printed ++ (piece ++ rest) → Grows old mid printed →
    GrowsByBeginning mid new piece → GrowsByBeginning old new whole
begins_more old mid new whole printed piece rest is grown begun =
    let count : ℕ = begun.0 in
    let both = beginning piece rest count in
    let same : take (length printed + both.of_both) whole ≡ printed ++ take count piece =
    ap (λ (t : List ℕ). take (length printed + both.of_both) t) is ∙ take-behind printed (piece ++ rest) both.of_both
    ∙ ap (λ (t : List ℕ). printed ++ t) both.same in
    (length printed + both.of_both, subst (λ (t : List ℕ). Grows old new t) (sym same) (Grows-then old mid new printed (take count piece) grown begun.1))

-- ---- the lines so far

-- So many labels are done. Their lines are put or held, in this order, and those of the rest are left.
pub record ArePut (labels : List Label) (old : Option (List ℕ)) (rest : List Label) (held : List ℕ) (new : Option (List ℕ)) : Type 0 where
  pub printed : List ℕ
  pub whole : lines_of labels ≡ printed ++ (held ++ lines_of rest)
  pub grown : Grows old new printed

pub lines-step : (label : Label) (rest : List Label) → lines_of (label ∷ rest) ≡ ended label ++ lines_of rest
unfolding lines_of
lines-step label rest = refl

pub lines-both : (first rest : List Label) → lines_of (first ++ rest) ≡ lines_of first ++ lines_of rest
unfolding lines_of
lines-both first rest = flat_map-append ended first rest

lines-none : lines_of [] ≡ []
unfolding lines_of
lines-none = refl

-- the lines of some of what was left are held too
pub more_held : (labels : List Label) (old : Option (List ℕ)) (next rest : List Label) (held more : List ℕ) (new : Option (List ℕ))
    → ArePut labels old next held new → held ++ lines_of next ≡ more ++ lines_of rest → ArePut labels old rest more new
more_held labels old next rest held more new put same =
    record { printed = put.printed; whole = put.whole ∙ ap (λ (t : List ℕ). put.printed ++ t) same; grown = put.grown }

-- a front of what was held is put
pub front_put : (labels : List Label) (old : Option (List ℕ)) (left : List Label) (held rest : List ℕ) (mid new : Option (List ℕ))
    → ArePut labels old left held mid → PutsFront mid new held rest → ArePut labels old left rest new
front_put labels old left held rest mid new put front =
    let lines = lines_of left in
    record {
      printed = put.printed ++ front.0;
      whole = put.whole ∙ ap (λ (t : List ℕ). put.printed ++ (t ++ lines)) front.2 ∙ ap (λ (t : List ℕ). put.printed ++ t) (append_assoc front.0 rest lines)
          ∙ sym (append_assoc put.printed front.0 (rest ++ lines));
      grown = Grows-then old mid new put.printed front.0 put.grown front.1;
    }

-- of what was held a beginning is put
pub stopped : (labels : List Label) (old : Option (List ℕ)) (left : List Label) (held : List ℕ) (mid new : Option (List ℕ))
    → ArePut labels old left held mid → GrowsByBeginning mid new held → GrowsByBeginning old new (lines_of labels)
stopped labels old left held mid new put grows = begins_more old mid new (lines_of labels) put.printed held (lines_of left) put.whole put.grown grows

-- what is held after the last label is put
pub all_put : (labels : List Label) (old : Option (List ℕ)) (left : List Label) (held : List ℕ) (mid new : Option (List ℕ))
    → ArePut labels old left held mid → left ≡ [] → Grows mid new held → Grows old new (lines_of labels)
all_put labels old left held mid new put none grows =
    let whole : lines_of labels ≡ put.printed ++ held =
    put.whole ∙ ap (λ (ls : List Label). put.printed ++ (held ++ lines_of ls)) none ∙ ap (λ (t : List ℕ). put.printed ++ (held ++ t)) lines-none
    ∙ ap (λ (t : List ℕ). put.printed ++ t) (append-nil held) in
    subst (λ (t : List ℕ). Grows old new t) (sym whole) (Grows-then old mid new put.printed held put.grown grows)

-- ---- failures

-- a count that takes one more grew, or is at its end
pub failed : (old new : ℕ) → new ≡ one_more old → Failed old new
failed old new is = elim (cases_lt (old + 1) (2 ^ 64)) [
  | inl more ↦
      let least : min (old + 1) (2 ^ 64 - 1) ≡ old + 1 = min-eq_left (omega (arith, more)) in
      inl (omega (arith, is ∙ least))
  | inr most ↦
      let least : min (old + 1) (2 ^ 64 - 1) ≡ 2 ^ 64 - 1 = min-eq_right (omega (arith, most)) in
      inr (is ∙ least)
]

-- a claim on an error that holds anyway
pub on_err : {A E : Type 0} (P : Type 0) (r : Result A E) → P → OnErr r P
on_err P (Ok x) p = tt
on_err P (Err e) p = p

-- a claim on what was done that holds anyway
pub on_ok : {A E : Type 0} (P : Type 0) (r : Result A E) → P → OnOk r P
on_ok P (Ok x) p = p
on_ok P (Err e) p = tt

-- what follows from a claim on what was done, or on an error
pub map_ok : {A E : Type 0} {P Q : Type 0} (r : Result A E) → (P → Q) → OnOk r P → OnOk r Q
map_ok (Ok x) f p = f p
map_ok (Err e) f p = tt

pub map_err : {A E : Type 0} {P Q : Type 0} (r : Result A E) → (P → Q) → OnErr r P → OnErr r Q
map_err (Ok x) f p = tt
map_err (Err e) f p = f p
