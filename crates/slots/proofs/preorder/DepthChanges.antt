-- What changes of depths make of the depths of rows.
use Rattle.std.proofs.Common.{ℕ, zero, suc, ◌≡◌, ◌≢◌, ◌∙◌, ◌+◌, ◌-◌, ◌<◌, ◌≤◌, nat_lt, inl, inr, true, false, if◌then◌else◌, Option, Some, List, [], ◌∷◌}
use Rattle.std.proofs.Common.{length, refl, sym, ap, subst, arith}
use Rattle.std.proofs.lemmas.Bool.Decides.{eqb_tells}
use Rattle.std.proofs.lemmas.Bool.{cases_lt, eq-eqb, ne_eqb, lt-ltb, le-ltb}
use Rattle.model.specs.Capabilities.Orders.{first_of}
use Rattle.model.specs.Kernel.State.{put}
use Rattle.slots.specs.preorder.Chains.{IsChain, Links, lowered_depths}
use Rattle.slots.specs.preorder.Preorder.{AreDeep, Row, first_row, lowered, put_behind, renamed, rows_of, slots_of, taken_out}
use Rattle.slots.proofs.preorder.Changes.{renamed-here, renamed-other}
use Rattle.slots.proofs.preorder.Paths.{rows-here, rows-rest}
use Rattle.slots.proofs.preorder.Splices.{lowered-end, lowered-run, taken-here, taken-rest}

rest-more : (r : Row) (rest : List Row) (s : ℕ) → rows_of rest s ≤ rows_of (r ∷ rest) s
rest-more r rest s = elim (eqb_tells r.slot s) [ inl here ↦ omega (arith, rows-here r rest s here.1) | inr other ↦ omega (arith, rows-rest r rest s other.1) ]

-- depths that are the same at the rows serve too
pub deep-same : (rows : List Row) (old new : ℕ → ℕ) → AreDeep old rows → ((s : ℕ) → 0 < rows_of rows s → new s ≡ old s) → AreDeep new rows
deep-same [] old new deep same = tt
deep-same (r ∷ rest) old new deep same = (
  same r.slot (omega (arith, rows-here r rest r.slot refl)) ∙ deep.0,
  deep-same rest old new deep.1 (λ s there. same s (omega (arith, there, rest-more r rest s))),
)

-- ---- a new row

pub deep-put_behind : (rows : List Row) (old new : ℕ → ℕ) (parent slot : ℕ) → AreDeep old rows → ((s : ℕ) → 0 < rows_of rows s → new s ≡ old s)
    → new slot ≡ old parent + 1 → AreDeep new (put_behind parent slot rows)
deep-put_behind [] old new parent slot deep same own = tt
deep-put_behind (r ∷ rest) old new parent slot deep same own =
    let here = same r.slot (omega (arith, rows-here r rest r.slot refl)) ∙ deep.0 in
    let more : (s : ℕ) → 0 < rows_of rest s → new s ≡ old s = λ s there. same s (omega (arith, there, rest-more r rest s)) in
    elim (eqb_tells r.slot parent) [
      | inl at ↦
          subst (AreDeep new) (sym (ap (λ b. if b then r ∷ (record { slot = slot; depth = r.depth + 1 }) ∷ rest else r ∷ put_behind parent slot rest) at.0))
          (here, (own ∙ ap (λ d. d + 1) (sym (ap old at.1) ∙ deep.0), deep-same rest old new deep.1 more))
      | inr off ↦
          subst (AreDeep new) (sym (ap (λ b. if b then r ∷ (record { slot = slot; depth = r.depth + 1 }) ∷ rest else r ∷ put_behind parent slot rest) off.0))
          (here, deep-put_behind rest old new parent slot deep.1 more own)
    ]

pub deep-first : (rows : List Row) (old new : ℕ → ℕ) (slot : ℕ) → AreDeep old rows → ((s : ℕ) → 0 < rows_of rows s → new s ≡ old s) → new slot ≡ 0
    → AreDeep new (first_row slot ∷ rows)
deep-first rows old new slot deep same own = (own, deep-same rows old new deep same)

-- ---- a renamed row

pub deep-renamed : (rows : List Row) (old new : ℕ → ℕ) (from to : ℕ) → AreDeep old rows → ((s : ℕ) → 0 < rows_of rows s → s ≢ from → new s ≡ old s)
    → new to ≡ old from → AreDeep new (renamed from to rows)
deep-renamed [] old new from to deep same own = tt
deep-renamed (r ∷ rest) old new from to deep same own = (
  elim (eqb_tells r.slot from) [
    | inl here ↦ ap new (renamed-here from to r.slot here.1) ∙ own ∙ ap old (sym here.1) ∙ deep.0
    | inr other ↦ ap new (renamed-other from to r.slot other.1) ∙ same r.slot (omega (arith, rows-here r rest r.slot refl)) other.1 ∙ deep.0
  ],
  deep-renamed rest old new from to deep.1 (λ s there. same s (omega (arith, there, rest-more r rest s))) own,
)

-- ---- a run that is lowered

-- what is not in the rows from a slot on keeps its depth
low-outside : (rest : List Row) (next previous : Links) (before : Option ℕ) (depths : ℕ → ℕ) (d n x : ℕ) → IsChain next previous before (slots_of rest)
    → rows_of rest x ≡ 0 → lowered_depths next d n (first_of (slots_of rest)) depths x ≡ depths x
low-outside [] next previous before depths d zero x chain none = refl
low-outside [] next previous before depths d (suc n) x chain none = refl
low-outside (r ∷ rest) next previous before depths d zero x chain none = refl
low-outside (r ∷ rest) next previous before depths d (suc n) x chain none =
    let apart : x ≢ r.slot = λ same. absurd (omega (arith, none, rows-here r rest x (sym same))) in
    let less = put depths r.slot (depths r.slot - 1) in
    elim (nat_lt d (depths r.slot)) as (λ b. (if b then lowered_depths next d n (next r.slot) less else depths) x ≡ depths x) [
      | true ↦
          ap (λ o. lowered_depths next d n o less x) chain.1
          ∙ low-outside rest next previous (Some r.slot) less d n x chain.2 (let none' : rows_of rest x ≡ 0 = omega (arith, none, rest-more r rest x) in none')
          ∙ ap (λ b. if b then depths r.slot - 1 else depths x) (ne_eqb x r.slot apart)
      | false ↦ refl
    ]

low-deep : (rest : List Row) (next previous : Links) (before : Option ℕ) (depths : ℕ → ℕ) (d n : ℕ) → IsChain next previous before (slots_of rest)
    → AreDeep depths rest → ((s : ℕ) → rows_of rest s ≤ 1) → length rest ≤ n →
    AreDeep (lowered_depths next d n (first_of (slots_of rest)) depths) (lowered d rest)
low-deep [] next previous before depths d n chain deep once few = tt
low-deep (r ∷ rest) next previous before depths d zero chain deep once few = absurd (omega (arith, few))
low-deep (r ∷ rest) next previous before depths d (suc n) chain deep once few =
    let less = put depths r.slot (depths r.slot - 1) in
    let on = lowered_depths next d n (next r.slot) less in
    let none : rows_of rest r.slot ≡ 0 = omega (arith, once r.slot, rows-here r rest r.slot refl) in
    let link : on ≡ lowered_depths next d n (first_of (slots_of rest)) less = ap (λ o. lowered_depths next d n o less) chain.1 in
    elim (cases_lt d r.depth) [
      | inl run ↦
          let is : lowered_depths next d (suc n) (Some r.slot) depths ≡ lowered_depths next d n (first_of (slots_of rest)) less =
          ap (λ b. if b then on else depths) (ap (nat_lt d) deep.0 ∙ lt-ltb d r.depth run) ∙ link in
          subst (AreDeep (lowered_depths next d (suc n) (Some r.slot) depths)) (sym (lowered-run d r rest run))
          (subst (λ (f : ℕ → ℕ). AreDeep f ((record { slot = r.slot; depth = r.depth - 1 }) ∷ lowered d rest)) (sym is) (
            low-outside rest next previous (Some r.slot) less d n r.slot chain.2 none
                ∙ ap (λ b. if b then depths r.slot - 1 else depths r.slot) (eq-eqb r.slot r.slot refl) ∙ ap (λ e. e - 1) deep.0,
            low-deep rest next previous (Some r.slot) less d n chain.2
                (deep-same rest depths less deep.1 (λ s there. ap (λ b. if b then depths r.slot - 1 else depths s)
                (ne_eqb s r.slot (λ same. absurd (omega (arith, there, none, ap (rows_of rest) same))))))
                (λ s. omega (arith, once s, rest-more r rest s)) (omega (arith, few)),
          ))
      | inr end ↦
          let is : lowered_depths next d (suc n) (Some r.slot) depths ≡ depths =
          ap (λ b. if b then on else depths) (ap (nat_lt d) deep.0 ∙ le-ltb d r.depth end) in
          subst (AreDeep (lowered_depths next d (suc n) (Some r.slot) depths)) (sym (lowered-end d r rest end))
          (subst (λ (f : ℕ → ℕ). AreDeep f (r ∷ rest)) (sym is) deep)
    ]

-- a slot beside the rows keeps its depth when the run after one of them is lowered
pub low-beside : (rows : List Row) (next previous : Links) (before : Option ℕ) (depths : ℕ → ℕ) (d n gone x : ℕ) → IsChain next previous before (slots_of rows)
    → 0 < rows_of rows gone → rows_of rows x ≡ 0 → lowered_depths next d n (next gone) depths x ≡ depths x
low-beside [] next previous before depths d n gone x chain there none = absurd (omega (arith, there))
low-beside (r ∷ rest) next previous before depths d n gone x chain there none =
    let none' : rows_of rest x ≡ 0 = omega (arith, none, rest-more r rest x) in
    elim (eqb_tells r.slot gone) [
      | inl here ↦
          ap (λ o. lowered_depths next d n o depths x) (ap next (sym here.1) ∙ chain.1)
          ∙ low-outside rest next previous (Some r.slot) depths d n x chain.2 none'
      | inr other ↦ low-beside rest next previous (Some r.slot) depths d n gone x chain.2 (omega (arith, there, rows-rest r rest gone other.1)) none'
    ]

-- and so does the row itself
pub low-own : (rows : List Row) (next previous : Links) (before : Option ℕ) (depths : ℕ → ℕ) (d n gone : ℕ) → IsChain next previous before (slots_of rows)
    → ((s : ℕ) → rows_of rows s ≤ 1) → 0 < rows_of rows gone → lowered_depths next d n (next gone) depths gone ≡ depths gone
low-own [] next previous before depths d n gone chain once there = absurd (omega (arith, there))
low-own (r ∷ rest) next previous before depths d n gone chain once there = elim (eqb_tells r.slot gone) [
  | inl here ↦
      ap (λ o. lowered_depths next d n o depths gone) (ap next (sym here.1) ∙ chain.1)
      ∙ low-outside rest next previous (Some r.slot) depths d n gone chain.2
      (let none : rows_of rest gone ≡ 0 = omega (arith, once gone, rows-here r rest gone here.1) in none)
  | inr other ↦
      low-own rest next previous (Some r.slot) depths d n gone chain.2 (λ s. omega (arith, once s, rest-more r rest s))
      (omega (arith, there, rows-rest r rest gone other.1))
]

pub deep-taken_out : (rows : List Row) (next previous : Links) (before : Option ℕ) (depths : ℕ → ℕ) (gone n : ℕ) → IsChain next previous before (slots_of rows)
    → AreDeep depths rows → ((s : ℕ) → rows_of rows s ≤ 1) → 0 < rows_of rows gone → length rows ≤ n
    → AreDeep (lowered_depths next (depths gone) n (next gone) depths) (taken_out gone rows)
deep-taken_out [] next previous before depths gone n chain deep once there few = tt
deep-taken_out (r ∷ rest) next previous before depths gone n chain deep once there few =
    let once' : (s : ℕ) → rows_of rest s ≤ 1 = λ s. omega (arith, once s, rest-more r rest s) in
    let few' : length rest ≤ n = omega (arith, few) in
    elim (eqb_tells r.slot gone) [
      | inl here ↦
          subst (AreDeep (lowered_depths next (depths gone) n (next gone) depths)) (sym (taken-here gone r rest here.1))
          (subst (λ (f : ℕ → ℕ). AreDeep f (lowered r.depth rest))
          (sym (ap (λ o. lowered_depths next (depths gone) n o depths) (ap next (sym here.1) ∙ chain.1)
          ∙ ap (λ d. lowered_depths next d n (first_of (slots_of rest)) depths) (ap depths (sym here.1) ∙ deep.0)))
          (low-deep rest next previous (Some r.slot) depths r.depth n chain.2 deep.1 once' few'))
      | inr other ↦
          let inside : 0 < rows_of rest gone = omega (arith, there, rows-rest r rest gone other.1) in
          subst (AreDeep (lowered_depths next (depths gone) n (next gone) depths)) (sym (taken-rest gone r rest other.1)) (
            low-beside rest next previous (Some r.slot) depths (depths gone) n gone r.slot chain.2 inside
                (let none : rows_of rest r.slot ≡ 0 = omega (arith, once r.slot, rows-here r rest r.slot refl) in none) ∙ deep.0,
            deep-taken_out rest next previous (Some r.slot) depths gone n chain.2 deep.1 once' inside few',
          )
    ]
