-- What trees hold.
use Rattle.std.proofs.Common.{ℕ, ◌≡◌, ◌≢◌, ◌∙◌, ◌<◌, inl, inr, Bool, true, false, List, [], ◌∷◌, ◌++◌, ◌+◌, zero, suc, Option, None, Some, length}
use Rattle.std.proofs.Common.{slice_get, ◌^◌, ap, sym, arith, refl}
use Rattle.std.proofs.lemmas.List.{length_push}
use Rattle.std.proofs.lemmas.Option.{slice_get_cases}
use Rattle.std.proofs.Math.Nat.{two-pow-succ}
use Rattle.shared_states.specs.Entries.{Agree, AreClosed, AreNoted, AreSame, IsSame, IsSameAt, KeepsTrees, below_or, end_of, held_at, leaf_or, side_of}
use Rattle.shared_states.specs.Entries.{value_of}
use Rattle.shared_states.specs.declared.entries.Entry.{Entry}
use Rattle.shared_states.specs.declared.sames.Same.{Same}
use Rattle.shared_states.specs.declared.sames.Sames.{Sames}
use Rattle.shared_states.specs.declared.entries.Entry.TheVariants.{Pair}

-- the empty tree holds nothing
pub held_empty : (entries : List Entry) (path : List Bool) → AreClosed entries → held_at entries path 0 ≡ None
held_empty entries [] closed = closed.none
held_empty entries (side ∷ path) closed =
    ap (λ tree. held_at entries path tree) (closed.below_none side) ∙ held_empty entries path closed

pub first_closed : AreClosed (Pair 0 0 ∷ [])
first_closed = record {
  some = omega arith;
  none = refl;
  below_none = λ side. elim side as (λ s. side_of (Pair 0 0 ∷ []) 0 s ≡ 0) [ true ↦ refl | false ↦ refl ];
  within = λ tree side. first_within tree side;
} where
  first_within : (tree : ℕ) (side : Bool) → side_of (Pair 0 0 ∷ []) tree side < 1
  first_within zero true = omega arith
  first_within zero false = omega arith
  first_within (suc tree) side = omega arith

-- an entry that is there is so after another one is appended
got_before : (entries : List Entry) (entry : Entry) (tree : ℕ) → tree < length entries → slice_get (entries ++ entry ∷ []) tree ≡ slice_get entries tree
got_before [] entry tree h = absurd (omega (arith, h))
got_before (e ∷ entries) entry zero h = refl
got_before (e ∷ entries) entry (suc tree) h = got_before entries entry tree (omega (arith, h))

sides_kept : (entries : List Entry) (entry : Entry) (tree : ℕ) (side : Bool) → tree < length entries
    → side_of (entries ++ entry ∷ []) tree side ≡ side_of entries tree side
sides_kept entries entry tree side h = ap (λ e. below_or e side) (got_before entries entry tree h)

values_kept : (entries : List Entry) (entry : Entry) (tree : ℕ) → tree < length entries → value_of (entries ++ entry ∷ []) tree ≡ value_of entries tree
values_kept entries entry tree h = ap leaf_or (got_before entries entry tree h)

ends_kept : (entries : List Entry) (entry : Entry) → AreClosed entries → (path : List Bool) (tree : ℕ) → tree < length entries
    → end_of (entries ++ entry ∷ []) path tree ≡ end_of entries path tree
ends_kept entries entry closed [] tree h = refl
ends_kept entries entry closed (side ∷ path) tree h =
    ap (λ t. end_of (entries ++ entry ∷ []) path t) (sides_kept entries entry tree side h)
    ∙ ends_kept entries entry closed path (side_of entries tree side) (closed.within tree side)

-- the end of a path is a tree that is there
pub end_within : (entries : List Entry) → AreClosed entries → (path : List Bool) (tree : ℕ) → tree < length entries → end_of entries path tree < length entries
end_within entries closed [] tree h = h
end_within entries closed (side ∷ path) tree h = end_within entries closed path (side_of entries tree side) (closed.within tree side)

held_kept : (entries : List Entry) (entry : Entry) → AreClosed entries → (path : List Bool) (tree : ℕ) → tree < length entries
    → held_at (entries ++ entry ∷ []) path tree ≡ held_at entries path tree
held_kept entries entry closed path tree h =
    ap (λ t. value_of (entries ++ entry ∷ []) t) (ends_kept entries entry closed path tree h)
    ∙ values_kept entries entry (end_of entries path tree) (end_within entries closed path tree h)

-- an appended entry keeps all trees
pub push_keeps : (entries : List Entry) (entry : Entry) → AreClosed entries → KeepsTrees entries (entries ++ entry ∷ [])
push_keeps entries entry closed = record {
  longer = let l : length (entries ++ entry ∷ []) ≡ length entries + 1 = length_push entries entry in omega (arith, l);
  sides = sides_kept entries entry;
  values = values_kept entries entry;
  ends = ends_kept entries entry closed;
  held = held_kept entries entry closed;
}

-- trees are the same where those below them are, and the other way round
pub same_above : (entries : List Entry) (b height one other : ℕ) → height ≡ b + 1
    → AreSame entries b (side_of entries one false) (side_of entries other false)
    → AreSame entries b (side_of entries one true) (side_of entries other true) → AreSame entries height one other
same_above entries b height one other e low high [] l = absurd (omega (arith, l, e))
same_above entries b height one other e low high (false ∷ path) l = low path (omega (arith, l, e))
same_above entries b height one other e low high (true ∷ path) l = high path (omega (arith, l, e))

pub same_below : (entries : List Entry) (b height one other : ℕ) (side : Bool) → height ≡ b + 1 → AreSame entries height one other
    → AreSame entries b (side_of entries one side) (side_of entries other side)
same_below entries b height one other side e same path l = same (side ∷ path) (omega (arith, l, e))

-- the same of trees that are named otherwise
pub same_at : (entries : List Entry) (height one other first second : ℕ) → first ≡ one → second ≡ other → AreSame entries height first second
    → AreSame entries height one other
same_at entries height one other first second a b same path l =
    ap (λ tree. held_at entries path tree) (sym a) ∙ same path l ∙ ap (λ tree. held_at entries path tree) b

pub same_to : (entries : List Entry) (height one other first second : ℕ) → first ≡ one → second ≡ other → AreSame entries height one other
    → AreSame entries height first second
same_to entries height one other first second a b same = same_at entries height first second one other (sym a) (sym b) same

pub keeps_itself : (entries : List Entry) → KeepsTrees entries entries
keeps_itself entries = record {
  longer = omega arith;
  sides = λ tree side h. refl;
  values = λ tree h. refl;
  ends = λ path tree h. refl;
  held = λ path tree
      h. refl;
}

-- trees are the same as others where those that they are the same as are
pub same_from : (entries : List Entry) (height one other first second : ℕ) → AreSame entries height one first → AreSame entries height other second
    → AreSame entries height first second → AreSame entries height one other
same_from entries height one other first second a b same path l = a path l ∙ same path l ∙ sym (b path l)

pub same_of : (entries : List Entry) (height one other first second : ℕ) → AreSame entries height one first → AreSame entries height other second
    → AreSame entries height one other → AreSame entries height first second
same_of entries height one other first second a b same path l = sym (a path l) ∙ same path l ∙ b path l

-- a bit has twice as many numbers as the one below it
pub twice : (height above : ℕ) → above ≡ height + 1 → 2 ^ above ≡ 2 ^ height + 2 ^ height
twice height zero is = absurd (omega (arith, is))
twice height (suc above) is = let h : above ≡ height = omega (arith, is) in ap (λ n. 2 ^ suc n) h ∙ two-pow-succ height

-- what was noted holds when there are more entries
same_kept : (old new : List Entry) → KeepsTrees old new → (height one other : ℕ) → one < length old → other < length old → AreSame old height one other
    → AreSame new height one other
same_kept old new kept height one other a b same path l = kept.held path one a ∙ same path l ∙ sym (kept.held path other b)

noted_kept : (old new : List Entry) → KeepsTrees old new → (tree : ℕ) (found : Option Same) → tree < length old → IsSame old tree found → IsSame new tree found
noted_kept old new kept tree None a is = tt
noted_kept old new kept tree (Some same) a is =
    let longer = kept.longer in
    let b = is.0 in
    (omega (arith, b, longer), same_kept old new kept same.height tree same.tree a b is.1)

noted_at : (old new : List Entry) → KeepsTrees old new → (tree : ℕ) (found : Option (Option Same)) → (found ≢ None → tree < length old)
    → IsSameAt old tree found → IsSameAt new tree found
noted_at old new kept tree None inside is = tt
noted_at old new kept tree (Some found) inside is = noted_kept old new kept tree found (inside (λ e. grind arith)) is

place_within : {X : Type 0} (xs : List X) (place : ℕ) → slice_get xs place ≢ None → place < length xs
place_within xs place some = elim (slice_get_cases xs place).1 [ inl p ↦ p.1 | inr q ↦ absurd (some q.1) ]

pub notes_kept : (old new : List Entry) (sames : Sames) → KeepsTrees old new → AreNoted old sames → AreNoted new sames
notes_kept old new sames kept noted =
    let longer = kept.longer in
    let few = noted.0 in (
      omega (arith, few, longer),
      λ tree. noted_at old new kept tree (slice_get sames.found.items tree)
          (λ some. let inside = place_within sames.found.items tree some in omega (arith, inside, few)) (noted.1 tree),
    )

-- trees agree where those below them do
pub agree_above : (entries : List Entry) (b height one other asked : ℕ) → height ≡ b + 1
    → Agree entries b (side_of entries one false) (side_of entries other false) (side_of entries asked false)
    → Agree entries b (side_of entries one true) (side_of entries other true) (side_of entries asked true) → Agree entries height one other asked
agree_above entries b height one other asked e low high [] l some = absurd (omega (arith, l, e))
agree_above entries b height one other asked e low high (false ∷ path) l some = low path (omega (arith, l, e)) some
agree_above entries b height one other asked e low high (true ∷ path) l some = high path (omega (arith, l, e)) some

pub agree_at : (entries : List Entry) (height one other asked first second third : ℕ) → first ≡ one → second ≡ other → third ≡ asked
    → Agree entries height first second third → Agree entries height one other asked
agree_at entries height one other asked first second third a b c same path l some =
    ap (λ tree. held_at entries path tree) (sym a) ∙ same path l (λ none. some (ap (λ tree. held_at entries path tree) (sym c) ∙ none))
    ∙ ap (λ tree. held_at entries path tree) b

-- an empty tree asks nothing
pub agree_nowhere : (entries : List Entry) (height one other asked : ℕ) → AreClosed entries → asked ≡ 0 → Agree entries height one other asked
agree_nowhere entries height one other asked closed empty path l some =
    absurd (some (ap (λ tree. held_at entries path tree) empty ∙ held_empty entries path closed))

pub agree_leaf : (entries : List Entry) (height one other asked : ℕ) → height ≡ 0 → value_of entries one ≡ value_of entries other
    → Agree entries height one other asked
agree_leaf entries height one other asked none same [] l some = same
agree_leaf entries height one other asked none same (side ∷ path) l some = absurd (omega (arith, l, none))
