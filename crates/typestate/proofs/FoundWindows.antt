-- A CNode that is looked at first tells what a look at all of them would.
use Rattle.std.proofs.Common.{ℕ, zero, suc, ◌≡◌, ◌∙◌, ◌==◌, ◌+◌, ◌/◌, ◌^◌, ◌<◌, ◌≤◌, ◌||◌, Bool, true, false, if◌then◌else◌, Some, None, List, [], ◌∷◌, pow_pos}
use Rattle.std.proofs.Common.{refl, sym, ap, subst, arith}
use Rattle.std.specs.Prelude.{is_some, slice_get}
use Rattle.std.specs.Coded.{le_prop}
use Rattle.std.specs.List.{find, list_any}
use Rattle.std.proofs.lemmas.Bool.{and_parts, eq-eqb, eqb-true}
use Rattle.std.proofs.lemmas.Bool.Decides.{nat_tests}
use Rattle.model.specs.Acceptance.ThreadRules.{is_member, reached}
use Rattle.model.specs.Capabilities.Slots.{is_within}
use Rattle.model.specs.Images.Image.{Image, Thread}
use Rattle.typestate.specs.GivenSpaces.{AreApart, AreWindows, IsThere, IsWindow, StandsApart, stands_within}
use Rattle.typestate.specs.Strays.{is_at}
use Rattle.typestate.specs.declared.window.Window.{Window}
use Rattle.typestate.proofs.SlotMaps.{stands-same}

-- ---- a member that passes

any-at : (test : Window → Bool) (ws : List Window) (n : ℕ) (w : Window) → slice_get ws n ≡ Some w → test w ≡ true → list_any test ws ≡ true
any-at test [] n w at is = absurd (let clash : None ≡ Some w = at in cc)
any-at test (v ∷ vs) zero w at is = let same : v ≡ w = (let both : Some v ≡ Some w = at in cc) in ap (λ b. b || list_any test vs) (ap test same ∙ is)
any-at test (v ∷ vs) (suc n) w at is = or-second (test v) (list_any test vs) (any-at test vs n w at is)
  where
    or-second : (a b : Bool) → b ≡ true → (a || b) ≡ true
    or-second true b is = refl
    or-second false b is = is

pub any-there : (test : Window → Bool) (ws : List Window) (w : Window) → IsThere ws w → test w ≡ true → list_any test ws ≡ true
any-there test ws w there is = any-at test ws there.0 w there.1 is

pub some-found : (test : Window → Bool) (ws : List Window) → is_some (find test ws) ≡ list_any test ws
some-found test [] = refl
some-found test (w ∷ ws) = elim (test w) as (λ b. is_some (if b then Some w else find test ws) ≡ (b || list_any test ws)) [
  | true ↦ refl
  | false ↦ some-found test ws
]

-- it is found if no other one passes
only-passes : (test : Window → Bool) (ws : List Window) (n : ℕ) (w : Window) → slice_get ws n ≡ Some w → test w ≡ true
    → ((m : ℕ) (v : Window) → slice_get ws m ≡ Some v → test v ≡ true → v ≡ w) → find test ws ≡ Some w
only-passes test [] n w at is only = absurd (let clash : None ≡ Some w = at in cc)
only-passes test (v ∷ vs) n w at is only = elim (test v) as (λ b. test v ≡ b → (if b then Some v else find test vs) ≡ Some w) [
  | true ↦ λ here. ap (λ (x : Window). Some x) (only zero v refl here)
  | false ↦ λ off. behind n (λ k there. only-passes test vs k w there is (λ m x at passes. only (suc m) x at passes)) at off
] refl
  where
    behind : (k : ℕ) → ((j : ℕ) → slice_get vs j ≡ Some w → find test vs ≡ Some w) → slice_get (v ∷ vs) k ≡ Some w → test v ≡ false → find test vs ≡ Some w
    behind zero rest at off = absurd (let same : v ≡ w = (let both : Some v ≡ Some w = at in cc) in
        let clash : false ≡ true = sym off ∙ ap test same ∙ is in cc)
    behind (suc k) rest at off = rest k at

-- ---- CNodes that stand apart

first-within : (first count : ℕ) → 0 < count → is_within (first + 0) count first ≡ true
first-within first count some = grind (arith, nat_tests)

begins-there : (offset radix : ℕ) (w : Window) → is_at offset radix w ≡ true → stands_within (offset / 16) w ≡ true
begins-there offset radix w is =
    let parts = and_parts (w.offset == offset) (w.radix == radix) is in
    ap (λ n. is_within (n / 16 + 0) (2 ^ w.radix) (offset / 16)) (eqb-true w.offset offset parts.0) ∙ first-within (offset / 16) (2 ^ w.radix) (pow_pos w.radix)

pub at-found : (ws : List Window) (offset radix : ℕ) (w : Window) → AreApart ws → IsThere ws w → is_at offset radix w ≡ true →
    find (is_at offset radix) ws ≡ Some w
at-found ws offset radix w apart there is = only-passes (is_at offset radix) ws there.0 w there.1 is (λ m v at passes.
    let both : Some v ≡ Some w = sym (apart (offset / 16) m v at (begins-there offset radix v passes))
    ∙ apart (offset / 16) there.0 w there.1 (begins-there offset radix w is) in cc)

-- ---- the CNodes of a thread

record ListedWindow (image : Image) (cnodes : List ℕ) (w : Window) : Type 0 where
  mine : is_member w.cnode cnodes ≡ true
  window : IsWindow image w.cnode w

listed-at : (image : Image) (cnodes : List ℕ) (ws : List Window) (n : ℕ) (w : Window) → AreWindows image cnodes ws → slice_get ws n ≡ Some w →
    ListedWindow image cnodes w
listed-at image [] [] n w are at = absurd (let clash : None ≡ Some w = at in cc)
listed-at image [] (v ∷ vs) n w are at = absurd are
listed-at image (cnode ∷ cnodes) [] n w are at = absurd are
listed-at image (cnode ∷ cnodes) (v ∷ vs) zero w are at =
    let same : v ≡ w = (let both : Some v ≡ Some w = at in cc) in
    let first : ListedWindow image (cnode ∷ cnodes) v = record {
      mine = ap (λ b. b || is_member v.cnode cnodes) (eq-eqb v.cnode cnode (are.0).object);
      window = subst (λ n. IsWindow image n v) (sym (are.0).object) are.0;
    } in
    subst (λ (x : Window). ListedWindow image (cnode ∷ cnodes) x) same first
listed-at image (cnode ∷ cnodes) (v ∷ vs) (suc n) w are at =
    let rest = listed-at image cnodes vs n w are.1 at in
    record { mine = or-second (w.cnode == cnode) (is_member w.cnode cnodes) rest.mine; window = rest.window }
  where
    or-second : (a b : Bool) → b ≡ true → (a || b) ≡ true
    or-second true b is = refl
    or-second false b is = is

same-window : (image : Image) (v w : Window) → v.cnode ≡ w.cnode → IsWindow image v.cnode v → IsWindow image w.cnode w → v ≡ w
same-window image v w same one other =
    let here : IsWindow image w.cnode v = subst (λ n. IsWindow image n v) same one in
    let offset : v.offset ≡ w.offset = here.place ∙ sym other.place in
    let radix : v.radix ≡ w.radix = (let both : Some v.radix ≡ Some w.radix = sym here.size ∙ other.size in cc) in
    ap (λ n. let x : Window = record { cnode = n; offset = v.offset; radix = v.radix; small = v.small } in x) same
    ∙ ap (λ n. let x : Window = record { cnode = w.cnode; offset = n; radix = v.radix; small = v.small } in x) offset
    ∙ same-radix w.cnode w.offset v.radix w.radix v.small radix w.small
  where
    same-radix : (cnode offset v w : ℕ) (small : v ≤ 14) → v ≡ w → (few : w ≤ 14)
        → (let x : Window = record { cnode = cnode; offset = offset; radix = v; small = small } in x)
        ≡ (let x : Window = record { cnode = cnode; offset = offset; radix = w; small = few } in x)
    same-radix cnode offset v w small same =
        subst (λ (n : ℕ). (few : n ≤ 14) → (let x : Window = record { cnode = cnode; offset = offset; radix = v; small = small } in x)
        ≡ (let x : Window = record { cnode = cnode; offset = offset; radix = n; small = few } in x)) same
        (λ few. ap (λ (s : v ≤ 14). let x : Window = record { cnode = cnode; offset = offset; radix = v; small = s } in x) (le_prop small few))

pub windows-apart : (image : Image) (t : Thread) (ws : List Window) → StandsApart image t → AreWindows image (reached image t) ws → AreApart ws
windows-apart image t ws apart are slot n w at stands =
    let mine = listed-at image (reached image t) ws n w are at in
    only-passes (stands_within slot) ws n w at stands (λ m v there passes.
    let other = listed-at image (reached image t) ws m v are there in
    same-window image v w
    (apart.apart v.cnode w.cnode slot other.mine mine.mine (sym (stands-same image v.cnode v slot other.window) ∙ passes)
    (sym (stands-same image w.cnode w slot mine.window) ∙ stands))
    other.window mine.window)
