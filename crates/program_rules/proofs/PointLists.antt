-- The first broken rule of the points of a program, one after another.
use Rattle.std.proofs.Common.{ℕ, zero, suc, ◌≡◌, ◌≢◌, ◌∙◌, ◌+◌, ◌-◌, ◌<◌, ◌++◌, inl, inr, Option, Some, None, Result, Err, List, [], ◌∷◌, refl, sym, ap, subst}
use Rattle.std.proofs.Common.{arith}
use Rattle.std.specs.List.{range_with_len}
use Rattle.std.specs.Option.{option_or}
use Rattle.std.specs.Prelude.{flat_map}
use Rattle.model.specs.Acceptance.NotedStates.{PointState}
use Rattle.model.specs.Acceptance.PointRules.{entry_rules, point_rules, rules_of_noted, rules_of_program, rules_on_edges, state_rules}
use Rattle.model.specs.Acceptance.PointStates.{Noted, instruction_at, noted, point_of}
use Rattle.model.specs.Acceptance.Rules.{Rule, first_broken}
use Rattle.model.specs.Images.Described.{Numbered}
use Rattle.model.specs.Images.Image.{Image}
use Rattle.model.specs.declared.instructions.Instr.TheVariants.{Upper, Jal, Jalr, Branch, Load, Store, Immediate, Shift, Registers, Fence, Ecall, Ebreak}
use Rattle.model.specs.declared.instructions.Instr.{Instr}
use Rattle.model.specs.declared.refusals.Point.{Point}
use Rattle.model.specs.declared.refusals.Refusal.TheVariants.{IllegalInstruction}
use Rattle.model.specs.declared.refusals.Refusal.{Refusal}
use Rattle.program_rules.proofs.FirstBroken.{first-both}
use Rattle.program_rules.specs.PointChecks.{later_rules, own_rules}
use Rattle.wellformed.specs.Answering.{Answers}

-- its own rules come before those on its call and its ways
pub state-first : (image : Image) (t : Numbered) (point : ℕ) (s : PointState) (instr : Option Instr) → instruction_at t.thread point ≡ instr
    → first_broken (state_rules image t point s) ≡ option_or (first_broken (own_rules image t point s instr)) (first_broken (later_rules image t point s instr))
unfolding state_rules
state-first image t point s instr is =
    ap (λ (i : Option Instr). first_broken (own_rules image t point s i ++ later_rules image t point s i)) is
    ∙ first-both (own_rules image t point s instr) (later_rules image t point s instr)

-- where its own rules are kept, the first broken one is one on its call and its ways
pub later-answers : (image : Image) (t : Numbered) (point : ℕ) (given s : PointState) (read instr : Option Instr) (result : Result (Unit {0}) Refusal)
    → instruction_at t.thread point ≡ read → read ≡ instr → given ≡ s → None ≡ first_broken (own_rules image t point given read)
    → Answers (first_broken (later_rules image t point s instr)) result → Answers (first_broken (state_rules image t point s)) result
later-answers image t point given s read instr result is same state kept answers =
    let own : None ≡ first_broken (own_rules image t point s instr) =
    kept ∙ ap (λ (p : PointState). first_broken (own_rules image t point p read)) state
    ∙ ap (λ (i : Option Instr). first_broken (own_rules image t point s i)) same in
    subst (λ (broken : Option Refusal). Answers broken result)
    (ap (λ (o : Option Refusal). option_or o (first_broken (later_rules image t point s instr))) own ∙ sym (state-first image t point s instr (is ∙ same)))
    answers

-- a point without an instruction does not keep its own rules
pub illegal-breaks : (image : Image) (t : Numbered) (point : ℕ) (s : PointState) (read : Option Instr) → read ≡ None →
    None ≡ first_broken (own_rules image t point s read) → ⊥
illegal-breaks image t point s None is kept = let clash : ◌≡◌ {A = Option Refusal} None (Some (IllegalInstruction (point_of t point))) = kept in cc
illegal-breaks image t point s (Some instr) is kept = let clash : ◌≡◌ {A = Option Instr} (Some instr) None = is in cc

-- an instruction that is no system call has the rules on its ways alone
pub plain-later : (image : Image) (t : Numbered) (point : ℕ) (s : PointState) (instr : Instr) → instr ≢ Ecall
    → first_broken (later_rules image t point s (Some instr)) ≡ first_broken (rules_on_edges image t point s)
plain-later image t point s (Jal rd offset) plain = refl
plain-later image t point s (Branch op rs1 rs2 offset) plain = refl
plain-later image t point s (Upper op rd immediate) plain = refl
plain-later image t point s (Load op rd rs1 offset) plain = refl
plain-later image t point s (Store op rs1 rs2 offset) plain = refl
plain-later image t point s (Immediate op rd rs1 immediate) plain = refl
plain-later image t point s (Shift op rd rs1 amount) plain = refl
plain-later image t point s (Registers op rd rs1 rs2) plain = refl
plain-later image t point s Fence plain = refl
plain-later image t point s (Jalr rd rs1 offset) plain = refl
plain-later image t point s Ecall plain = absurd (plain refl)
plain-later image t point s Ebreak plain = refl

-- the rules on a point, by what is noted of it
pub noted-rules : (image : Image) (t : Numbered) (point : ℕ) (n : Noted) → n ≡ noted image t point
    → first_broken (rules_of_noted image t point n) ≡ first_broken (point_rules image t point)
unfolding point_rules
noted-rules image t point n is = ap (λ (n : Noted). first_broken (rules_of_noted image t point n)) is

-- ---- numbers one after another

split : (first a b : ℕ) → range_with_len first (a + b) ≡ range_with_len first a ++ range_with_len (first + a) b
split first zero b =
    let same : first ≡ first + 0 = omega arith in
    let count : 0 + b ≡ b = omega arith in
    ap (range_with_len first) count ∙ ap (λ (n : ℕ). range_with_len n b) same
split first (suc a) b =
    let count : suc a + b ≡ suc (a + b) = omega arith in
    let next : (first + 1) + a ≡ first + suc a = omega arith in
    ap (range_with_len first) count
    ∙ ap (λ (xs : List ℕ). first ∷ xs) (split (first + 1) a b ∙ ap (λ (n : ℕ). range_with_len (first + 1) a ++ range_with_len n b) next)

flat-both : (f : ℕ → List Rule) (xs ys : List ℕ) → first_broken (flat_map f (xs ++ ys)) ≡ option_or (first_broken (flat_map f xs))
    (first_broken (flat_map f ys))
flat-both f [] ys = refl
flat-both f (x ∷ xs) ys =
    first-both (f x) (flat_map f (xs ++ ys)) ∙ ap (option_or (first_broken (f x))) (flat-both f xs ys)
    ∙ either (first_broken (f x)) (first_broken (flat_map f xs)) (first_broken (flat_map f ys))
    ∙ ap (λ (o : Option Refusal). option_or o (first_broken (flat_map f ys))) (sym (first-both (f x) (flat_map f xs)))
  where
    either : (a b c : Option Refusal) → option_or a (option_or b c) ≡ option_or (option_or a b) c
    either None b c = refl
    either (Some a) b c = refl

module _ (f : ℕ → List Rule) (point : ℕ) (none : first_broken (flat_map f (range_with_len 0 point)) ≡ None) where
  -- one point more keeps its rules
  pub one-more-kept : first_broken (f point) ≡ None → first_broken (flat_map f (range_with_len 0 (point + 1))) ≡ None
  one-more-kept kept =
      let here : 0 + point ≡ point = omega arith in
      ap (λ (xs : List ℕ). first_broken (flat_map f xs)) (split 0 point 1) ∙ flat-both f (range_with_len 0 point) (range_with_len (0 + point) 1)
      ∙ ap (λ (o : Option Refusal). option_or o (first_broken (flat_map f (range_with_len (0 + point) 1)))) none
      ∙ ap (λ (n : ℕ). first_broken (flat_map f (n ∷ []))) here ∙ first-both (f point) [] ∙ ap (λ (o : Option Refusal). option_or o None) kept

  -- the first that is broken is one of this point
  broken-here : (words : ℕ) (refusal : Refusal) → point < words → first_broken (f point) ≡ Some refusal →
      first_broken (flat_map f (range_with_len 0 words)) ≡ Some refusal
  broken-here words refusal less broken =
      let rest = words - point - 1 in
      let count : words ≡ point + suc rest = omega (arith, less) in
      let here : 0 + point ≡ point = omega arith in
      ap (λ (n : ℕ). first_broken (flat_map f (range_with_len 0 n))) count
      ∙ ap (λ (xs : List ℕ). first_broken (flat_map f xs)) (split 0 point (suc rest))
      ∙ flat-both f (range_with_len 0 point) (range_with_len (0 + point) (suc rest))
      ∙ ap (λ (o : Option Refusal). option_or o (first_broken (flat_map f (range_with_len (0 + point) (suc rest))))) none
      ∙ ap (λ (n : ℕ). first_broken (flat_map f (range_with_len n (suc rest)))) here
      ∙ first-both (f point) (flat_map f (range_with_len (point + 1) rest))
      ∙ ap (λ (o : Option Refusal). option_or o (first_broken (flat_map f (range_with_len (point + 1) rest)))) broken

-- ---- the entry

pub at-entry : (t : Numbered) (entry : ℕ) (at : Point) → entry ≡ t.thread.header.entry → at ≡ point_of t entry → at ≡ point_of t t.thread.header.entry
at-entry t entry at same told = told ∙ ap (point_of t) same

-- ---- the points

-- a rule of this point is broken, or memory is refused
pub refused-here : (f : ℕ → List Rule) (point words : ℕ) (refusal : Refusal) → first_broken (flat_map f (range_with_len 0 point)) ≡ None → point < words
    → Answers (first_broken (f point)) (Err refusal) → Answers (first_broken (flat_map f (range_with_len 0 words))) (Err refusal)
refused-here f point words refusal none less (inl memory) = inl memory
refused-here f point words refusal none less (inr broken) = inr (broken-here f point none words refusal less broken)

-- the entry comes before the points
pub program-first : (image : Image) (t : Numbered) → first_broken (rules_of_program image t)
    ≡ option_or (first_broken (entry_rules image t (noted image t t.thread.header.entry)))
    (first_broken (flat_map (point_rules image t) (range_with_len 0 t.thread.header.words)))
unfolding rules_of_program
program-first image t = first-both (entry_rules image t (noted image t t.thread.header.entry))
    (flat_map (point_rules image t) (range_with_len 0 t.thread.header.words))
