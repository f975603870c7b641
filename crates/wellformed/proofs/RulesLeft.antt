-- The first broken one of rules, by those that are left.
use Rattle.std.proofs.Common.{◌≡◌, ◌∙◌, ◌⊎◌, inl, inr, ℕ, suc, ◌+◌, ◌-◌, ◌<◌, ◌≤◌, Bool, true, false, List, [], ◌∷◌, ◌++◌, Option, Some, None, Result, Ok, Err}
use Rattle.std.proofs.Common.{length, drop, get_or, map, refl, sym, ap, subst, arith, add-one, drop-cons}
use Rattle.std.specs.Prelude.{IfErr, OnOk, flat_map, slice_get}
use Rattle.std.specs.Option.{option_or}
use Rattle.std.specs.List.{enumerate_from, range_with_len}
use Rattle.std.proofs.lemmas.List.{drop_all}
use Rattle.std.proofs.lemmas.List.Elements.{All-cons, All-head, All-nil, All-tail}
use Rattle.std.proofs.lemmas.Option.{get_or_from_slice_get, slice_get_within}
use Rattle.model.specs.declared.refusals.Refusal.{Refusal}
use Rattle.model.specs.declared.refusals.Refusal.TheVariants.{OutOfMemory}
use Rattle.model.specs.Acceptance.Accepted.{AreKept, IsWellFormed, first_in}
use Rattle.model.specs.Acceptance.Rules.{Rule, first_broken, refuse_if}
use Rattle.model.specs.Acceptance.ThreadRules.{thread_rules}
use Rattle.model.specs.Acceptance.WellFormed.{capability_rules, mapping_rules, object_rules}
use Rattle.model.specs.Images.Image.{Image}
use Rattle.wellformed.specs.Answering.{Answers, form_rules}

-- ---- one list of rules after another

pub first_of_both : (a b : List Rule) → first_broken (a ++ b) ≡ option_or (first_broken a) (first_broken b)
first_of_both [] b = refl
first_of_both (None ∷ a) b = first_of_both a b
first_of_both (Some refusal ∷ a) b = refl

pub first_kept : (a b : List Rule) → first_broken a ≡ None → first_broken (a ++ b) ≡ first_broken b
first_kept a b kept = first_of_both a b ∙ ap (λ (o : Option Refusal). option_or o (first_broken b)) kept

pub first_broken_in : (a b : List Rule) (refusal : Refusal) → first_broken a ≡ Some refusal → first_broken (a ++ b) ≡ Some refusal
first_broken_in a b refusal broken = first_of_both a b ∙ ap (λ (o : Option Refusal). option_or o (first_broken b)) broken

-- the first rules are kept, and this is answered of the rest
pub answers_rest : (a b : List Rule) (result : Result (Unit {0}) Refusal) → first_broken a ≡ None → Answers (first_broken b) result →
    Answers (first_broken (a ++ b)) result
answers_rest a b result kept answers = subst (λ (o : Option Refusal). Answers o result) (sym (first_kept a b kept)) answers

-- the first rules are not kept, and the rest does not matter
pub refused_before : (a b : List Rule) (refusal : Refusal) → Answers (first_broken a) (Err refusal) → Answers (first_broken (a ++ b)) (Err refusal)
refused_before a b refusal (inl memory) = inl memory
refused_before a b refusal (inr broken) = inr (first_broken_in a b refusal broken)

-- what is passed on is reported
pub passed_on : (breach : Option Refusal) (result : Result (Unit {0}) Refusal) (refusal : Refusal) → result ≡ Err refusal → Answers breach (Err refusal) →
    Answers breach result
passed_on breach result refusal is answers = subst (λ (r : Result (Unit {0}) Refusal). Answers breach r) (sym is) answers

-- ---- phases

pub phase_kept : (rules : List Rule) (later : List (List Rule)) (result : Result (Unit {0}) Refusal) → first_broken rules ≡ None →
    Answers (first_in later) result → Answers (first_in (rules ∷ later)) result
unfolding first_in
phase_kept rules later result kept answers = subst (λ (o : Option Refusal). Answers (option_or o (first_in later)) result) (sym kept) answers

pub phase_broken : (rules : List Rule) (later : List (List Rule)) (refusal : Refusal) → Answers (first_broken rules) (Err refusal) →
    Answers (first_in (rules ∷ later)) (Err refusal)
unfolding first_in
phase_broken rules later refusal (inl memory) = inl memory
phase_broken rules later refusal (inr broken) = inr (ap (λ (o : Option Refusal). option_or o (first_in later)) broken)

pub no_phase : first_in [] ≡ None
unfolding first_in
no_phase = refl

pub none_broken : (rules : List Rule) → first_broken rules ≡ None → AreKept rules
none_broken [] h = All-nil (λ rule. rule ≡ None)
none_broken (None ∷ rules) h = All-cons (λ rule. rule ≡ None) None rules refl (none_broken rules h)
none_broken (Some refusal ∷ rules) h = absurd (let clash : ◌≡◌ {A = Option Refusal} (Some refusal) None = h in cc)

-- ---- one rule for each entry

pub rest-next : {A : Type 0} (xs : List A) (n : ℕ) (x : A) → slice_get xs n ≡ Some x → drop n xs ≡ x ∷ drop (n + 1) xs
rest-next xs n x is =
    let at : get_or xs n x ≡ x = get_or_from_slice_get xs n x x is in
    rw (add-one n) (drop-cons xs n x (slice_get_within xs n x is) ∙ ap (λ y. y ∷ drop (suc n) xs) at)

module _ {A : Type 0} (test : ℕ × A → Bool) (refusal : ℕ → Refusal) where
  abbrev rule : ℕ × A → Rule
  rule u = refuse_if (test u) (refusal u.0)

  pub next_kept : (xs : List A) (i : ℕ) (x : A) (total : Option Refusal) → slice_get xs i ≡ Some x → test (i, x) ≡ false
      → first_broken (map rule (enumerate_from i (drop i xs))) ≡ total → first_broken (map rule (enumerate_from (i + 1) (drop (i + 1) xs))) ≡ total
  next_kept xs i x total at kept so_far =
      let parts = ap (λ (l : List A). first_broken (map rule (enumerate_from i l))) (rest-next xs i x at) in
      let one = ap (λ (b : Bool). first_broken (refuse_if b (refusal i) ∷ map rule (enumerate_from (i + 1) (drop (i + 1) xs)))) kept in
      sym one ∙ sym parts ∙ so_far

  pub next_broken : (xs : List A) (i : ℕ) (x : A) (total : Option Refusal) → slice_get xs i ≡ Some x → test (i, x) ≡ true
      → first_broken (map rule (enumerate_from i (drop i xs))) ≡ total → total ≡ Some (refusal i)
  next_broken xs i x total at broken so_far =
      let parts = ap (λ (l : List A). first_broken (map rule (enumerate_from i l))) (rest-next xs i x at) in
      let one = ap (λ (b : Bool). first_broken (refuse_if b (refusal i) ∷ map rule (enumerate_from (i + 1) (drop (i + 1) xs)))) broken in
      sym so_far ∙ parts ∙ one

  pub head_kept : (xs ys : List A) (i : ℕ) (x : A) (total : Option Refusal) → xs ≡ x ∷ ys → test (i, x) ≡ false
      → first_broken (map rule (enumerate_from i xs)) ≡ total → first_broken (map rule (enumerate_from (i + 1) ys)) ≡ total
  head_kept xs ys i x total is kept so_far =
      let parts = ap (λ (l : List A). first_broken (map rule (enumerate_from i l))) is in
      let one = ap (λ (b : Bool). first_broken (refuse_if b (refusal i) ∷ map rule (enumerate_from (i + 1) ys))) kept in
      sym one ∙ sym parts ∙ so_far

  pub head_broken : (xs ys : List A) (i : ℕ) (x : A) (total : Option Refusal) → xs ≡ x ∷ ys → test (i, x) ≡ true
      → first_broken (map rule (enumerate_from i xs)) ≡ total → total ≡ Some (refusal i)
  head_broken xs ys i x total is broken so_far =
      let parts = ap (λ (l : List A). first_broken (map rule (enumerate_from i l))) is in
      let one = ap (λ (b : Bool). first_broken (refuse_if b (refusal i) ∷ map rule (enumerate_from (i + 1) ys))) broken in
      sym so_far ∙ parts ∙ one

  pub none_left : (xs : List A) (i : ℕ) (total : Option Refusal) → length xs ≤ i → first_broken (map rule (enumerate_from i (drop i xs))) ≡ total → total ≡ None
  none_left xs i total le so_far = sym so_far ∙ ap (λ (l : List A). first_broken (map rule (enumerate_from i l))) (drop_all i xs le)

-- ---- several rules for each entry

module _ {A : Type 0} (rules : ℕ × A → List Rule) where
  pub all_kept : (xs : List A) (i : ℕ) (x : A) (total : Option Refusal) → slice_get xs i ≡ Some x → first_broken (rules (i, x)) ≡ None
      → first_broken (flat_map rules (enumerate_from i (drop i xs))) ≡ total → first_broken (flat_map rules (enumerate_from (i + 1) (drop (i + 1) xs))) ≡ total
  all_kept xs i x total at kept so_far =
      let parts = ap (λ (l : List A). first_broken (flat_map rules (enumerate_from i l))) (rest-next xs i x at) in
      sym (first_kept (rules (i, x)) (flat_map rules (enumerate_from (i + 1) (drop (i + 1) xs))) kept) ∙ sym parts ∙ so_far

  pub one_broken : (xs : List A) (i : ℕ) (x : A) (total : Option Refusal) (refusal : Refusal) → slice_get xs i ≡ Some x →
      first_broken (rules (i, x)) ≡ Some refusal
      → first_broken (flat_map rules (enumerate_from i (drop i xs))) ≡ total → total ≡ Some refusal
  one_broken xs i x total refusal at broken so_far =
      let parts = ap (λ (l : List A). first_broken (flat_map rules (enumerate_from i l))) (rest-next xs i x at) in
      sym so_far ∙ parts ∙ first_broken_in (rules (i, x)) (flat_map rules (enumerate_from (i + 1) (drop (i + 1) xs))) refusal broken

  pub nothing_left : (xs : List A) (i : ℕ) (total : Option Refusal) → length xs ≤ i → first_broken (flat_map rules (enumerate_from i (drop i xs))) ≡ total →
      total ≡ None
  nothing_left xs i total le so_far = sym so_far ∙ ap (λ (l : List A). first_broken (flat_map rules (enumerate_from i l))) (drop_all i xs le)

-- ---- one rule for each number

module _ (test : ℕ → Bool) (refusal : ℕ → Refusal) where
  abbrev numbered_rule : ℕ → Rule
  numbered_rule n = refuse_if (test n) (refusal n)

  numbers-next : (n count : ℕ) → n < count → range_with_len n (count - n) ≡ n ∷ range_with_len (n + 1) (count - (n + 1))
  numbers-next n count lt = let k : count - n ≡ suc (count - (n + 1)) = omega arith in ap (range_with_len n) k

  pub number_kept : (n count : ℕ) (total : Option Refusal) → n < count → test n ≡ false
      → first_broken (map numbered_rule (range_with_len n (count - n))) ≡ total →
      first_broken (map numbered_rule (range_with_len (n + 1) (count - (n + 1)))) ≡ total
  number_kept n count total lt kept so_far =
      let parts = ap (λ (l : List ℕ). first_broken (map numbered_rule l)) (numbers-next n count lt) in
      let one = ap (λ (b : Bool). first_broken (refuse_if b (refusal n) ∷ map numbered_rule (range_with_len (n + 1) (count - (n + 1))))) kept in
      sym one ∙ sym parts ∙ so_far

  pub number_broken : (n count : ℕ) (total : Option Refusal) → n < count → test n ≡ true
      → first_broken (map numbered_rule (range_with_len n (count - n))) ≡ total → total ≡ Some (refusal n)
  number_broken n count total lt broken so_far =
      let parts = ap (λ (l : List ℕ). first_broken (map numbered_rule l)) (numbers-next n count lt) in
      let one = ap (λ (b : Bool). first_broken (refuse_if b (refusal n) ∷ map numbered_rule (range_with_len (n + 1) (count - (n + 1))))) broken in
      sym so_far ∙ parts ∙ one

  pub no_number_left : (n count : ℕ) (total : Option Refusal) → count ≤ n → first_broken (map numbered_rule (range_with_len n (count - n))) ≡ total →
      total ≡ None
  no_number_left n count total le so_far =
      let k : count - n ≡ 0 = omega arith in sym so_far ∙ ap (λ (m : ℕ). first_broken (map numbered_rule (range_with_len n m))) k

-- ---- what a `?` passes on

pub told_of : (rules : List Rule) (result : Result (Unit {0}) Refusal) (error refusal : Refusal) → result ≡ Err error → error ≡ refusal →
    Answers (first_broken rules) (Err refusal)
    → Answers (first_broken rules) result
told_of rules result error refusal is same answers = passed_on (first_broken rules) result refusal (is ∙ ap (λ (r : Refusal). Err r) same) answers

-- ---- a rule, and those after it

pub rule_broken : (b : Bool) (refusal : Refusal) (rules : List Rule) → b ≡ true → first_broken (refuse_if b refusal ∷ rules) ≡ Some refusal
rule_broken b refusal rules is = ap (λ (x : Bool). first_broken (refuse_if x refusal ∷ rules)) is

pub rule_kept : (b : Bool) (refusal : Refusal) (rules : List Rule) → b ≡ false → first_broken (refuse_if b refusal ∷ rules) ≡ first_broken rules
rule_kept b refusal rules is = ap (λ (x : Bool). first_broken (refuse_if x refusal ∷ rules)) is

-- ---- the last phase, and all of them

pub last_phase : (rules : List Rule) (result : Result (Unit {0}) Refusal) → Answers (first_broken rules) result → Answers (first_in (rules ∷ [])) result
unfolding first_in
last_phase rules result answers = subst (λ (o : Option Refusal). Answers o result) (sym (or-none (first_broken rules))) answers
  where
    or-none : (o : Option Refusal) → option_or o None ≡ o
    or-none None = refl
    or-none (Some r) = refl

-- a phase without a breach, and none after it
pub phase_parts : (rules : List Rule) (later : List (List Rule)) → first_in (rules ∷ later) ≡ None → (first_broken rules ≡ None) × (first_in later ≡ None)
unfolding first_in
phase_parts rules later none = parts (first_broken rules) none
  where
    parts : (o : Option Refusal) → option_or o (first_in later) ≡ None → (o ≡ None) × (first_in later ≡ None)
    parts None is = (refl, is)
    parts (Some r) is = absurd (let clash : ◌≡◌ {A = Option Refusal} (Some r) None = is in cc)

pub kept_phase : (rules : List Rule) (later : List (List Rule)) → first_broken rules ≡ None → first_in later ≡ None → first_in (rules ∷ later) ≡ None
unfolding first_in
kept_phase rules later kept rest = ap (λ (o : Option Refusal). option_or o (first_in later)) kept ∙ rest

pub kept_none : (rules : List Rule) → AreKept rules → first_broken rules ≡ None
kept_none [] kept = refl
kept_none (None ∷ rules) kept = kept_none rules (All-tail (λ rule. rule ≡ None) None rules kept)
kept_none (Some refusal ∷ rules) kept =
    absurd (let clash : ◌≡◌ {A = Rule} (Some refusal) None = All-head (λ rule. rule ≡ None) (Some refusal) rules kept in cc)

pub formed-from : (image : Image) → first_in (form_rules image) ≡ None → IsWellFormed image
formed-from image none =
    let a = phase_parts (object_rules image) (capability_rules image ∷ mapping_rules image ∷ thread_rules image ∷ []) none in
    let b = phase_parts (capability_rules image) (mapping_rules image ∷ thread_rules image ∷ []) a.1 in
    let c = phase_parts (mapping_rules image) (thread_rules image ∷ []) b.1 in
    let d = phase_parts (thread_rules image) [] c.1 in
    record { objects = none_broken _ a.0; capabilities = none_broken _ b.0; mappings = none_broken _ c.0; threads = none_broken _ d.0 }

pub none-from : (image : Image) → IsWellFormed image → first_in (form_rules image) ≡ None
none-from image formed =
    kept_phase (object_rules image) (capability_rules image ∷ mapping_rules image ∷ thread_rules image ∷ []) (kept_none (object_rules image) formed.objects)
    (kept_phase (capability_rules image) (mapping_rules image ∷ thread_rules image ∷ []) (kept_none (capability_rules image) formed.capabilities)
    (kept_phase (mapping_rules image) (thread_rules image ∷ []) (kept_none (mapping_rules image) formed.mappings)
    (kept_phase (thread_rules image) [] (kept_none (thread_rules image) formed.threads) no_phase)))

-- what is answered where no rule is broken
pub memory_alone : (breach : Option Refusal) (result : Result (Unit {0}) Refusal) → breach ≡ None → Answers breach result →
    IfErr result (λ refusal. refusal ≡ OutOfMemory)
memory_alone breach (Ok x) none answers = tt
memory_alone breach (Err refusal) none (inl memory) = memory
memory_alone breach (Err refusal) none (inr broken) = absurd (let clash : ◌≡◌ {A = Option Refusal} None (Some refusal) = sym none ∙ broken in cc)

pub told_formed : (image : Image) (result : Result (Unit {0}) Refusal) → Answers (first_in (form_rules image)) result → OnOk result (IsWellFormed image)
told_formed image (Ok x) answers = formed-from image answers
told_formed image (Err refusal) answers = tt

pub told_breach : (breach : Option Refusal) (result : Result (Unit {0}) Refusal) → Answers breach result →
    IfErr result (λ refusal. (refusal ≡ OutOfMemory) ⊎ (breach ≡ Some refusal))
told_breach breach (Ok x) answers = tt
told_breach breach (Err refusal) answers = answers

-- where no rule is broken, only memory can be refused
pub only_memory : (breach : Option Refusal) (result : Result (Unit {0}) Refusal) → breach ≡ None → IfErr result (λ refusal. refusal ≡ OutOfMemory) →
    Answers breach result
only_memory breach (Ok x) none memory = none
only_memory breach (Err refusal) none memory = inl memory

pub ok_four : {A B C D E : Type 0} (result : Result (Unit {0}) Refusal) → OnOk result A → OnOk result B → OnOk result C → OnOk result D → (A → B → C → D → E) →
    OnOk result E
ok_four (Ok x) a b c d then = then a b c d
ok_four (Err refusal) a b c d then = tt
