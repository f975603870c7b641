-- The records of a certificate, gone through in the order of their points.
use Rattle.std.proofs.Common.{ℕ, suc, ◌≡◌, ◌∙◌, ◌==◌, ◌+◌, ◌<◌, ◌≤◌, inl, inr, Bool, if◌then◌else◌, Option, Some, None, is_some, true, false, List, [], ◌∷◌}
use Rattle.std.proofs.Common.{refl, sym, ap, subst, arith}
use Rattle.std.specs.Iterator.{YieldsFirst}
use Rattle.std.specs.Prelude.{find, slice_get}
use Rattle.std.proofs.lemmas.Bool.Decides.{eqb_tells}
use Rattle.format_laws.specs.Fitting.{CertificateFits}
use Rattle.model.specs.Acceptance.NotedStates.{record_of}
use Rattle.model.specs.Images.Image.{StateRecord, Thread}
use Rattle.program_rules.specs.Left.{AreLimited, IsLimited, behind, left_of, taken}

-- what an iterator gives, and what is left of it
pub left-after : (old new : List StateRecord) (next : Option StateRecord) → YieldsFirst (λ s. s) old next new → left_of next new ≡ old
left-after old new None yields = sym yields.0
left-after old new (Some r) yields = sym yields

abbrev found : ℕ → List StateRecord → Option StateRecord
found point rs = find (λ r. r.header.point == point) rs

-- points rise from one on
abbrev pub Rise : ℕ → List StateRecord → Type 0
Rise least [] = Unit {0}
Rise least (r ∷ rs) = (least ≤ r.header.point) × Rise (r.header.point + 1) rs

-- the points of the list rise
abbrev DoRise : List StateRecord → Type 0
DoRise rs = (i j : ℕ) (a b : StateRecord) → i < j → slice_get rs i ≡ Some a → slice_get rs j ≡ Some b → a.header.point < b.header.point

rises : (least : ℕ) (rs : List StateRecord) → ((k : ℕ) (r : StateRecord) → slice_get rs k ≡ Some r → least ≤ r.header.point) → DoRise rs → Rise least rs
rises least [] above rise = tt
rises least (r ∷ rs) above rise = (
  above 0 r refl,
  rises (r.header.point + 1) rs
      (λ k s at. let less : r.header.point < s.header.point = rise 0 (suc k) r s (omega arith) refl at in omega (arith, less))
      (λ i j a b less at behind. rise (suc i) (suc j) a b (omega (arith, less)) at behind),
)

-- these are the records of the points from here on
pub record AreLeft (t : Thread) (point : ℕ) (rest : List StateRecord) : Type 0 where
  pub rising : Rise point rest
  pub same : (other : ℕ) → point ≤ other → record_of t other ≡ found other rest

pub all-left : (t : Thread) → CertificateFits t → AreLeft t 0 t.records
all-left t fits = record { rising = rises 0 t.records (λ k r at. omega arith) fits.points_rise; same = λ other le. refl }

none-below : (least other : ℕ) (rs : List StateRecord) → Rise least rs → other < least → found other rs ≡ None
none-below least other [] rising lt = refl
none-below least other (r ∷ rs) rising lt = elim (eqb_tells r.header.point other) [
  | inl here ↦ absurd (let same : r.header.point ≡ other = here.1 in omega (arith, lt, rising.0, same))
  | inr apart ↦ ap (λ (b : Bool). if b then Some r else found other rs) apart.0
      ∙ none-below (r.header.point + 1) other rs rising.1 (omega (arith, lt, rising.0))
]

-- the record of the point, if it has one, and the records behind it
pub next-record : (t : Thread) (point : ℕ) (rest : List StateRecord) → AreLeft t point rest
    → (record_of t point ≡ taken point rest) × AreLeft t (point + 1) (behind point rest)
next-record t point [] left =
    (left.same point (omega arith), record { rising = tt; same = λ other le. left.same other (omega (arith, le)) })
next-record t point (r ∷ rest) left = elim (eqb_tells r.header.point point) [
  | inl here ↦ (
    left.same point (omega arith) ∙ ap (λ (b : Bool). if b then Some r else found point rest) here.0
        ∙ sym (ap (λ (b : Bool). if b then Some r else None) here.0),
    subst (λ (b : Bool). AreLeft t (point + 1) (if b then rest else r ∷ rest)) (sym here.0) (record {
      rising = subst (λ (n : ℕ). Rise (n + 1) rest) here.1 left.rising.1;
      same = λ other le. elim (eqb_tells r.header.point other) [
        | inl again ↦ absurd (let first : r.header.point ≡ point = here.1 in let second : r.header.point ≡ other = again.1 in omega (arith, le, first, second))
        | inr apart ↦ left.same other (omega (arith, le)) ∙ ap (λ (b : Bool). if b then Some r else found other rest) apart.0
      ];
    }),
  )
  | inr apart ↦
      let above : point + 1 ≤ r.header.point = omega (arith, left.rising.0, apart.1) in (
        left.same point (omega arith) ∙ none-below (point + 1) point (r ∷ rest) (above, left.rising.1) (omega arith)
            ∙ sym (ap (λ (b : Bool). if b then Some r else None) apart.0),
        subst (λ (b : Bool). AreLeft t (point + 1) (if b then rest else r ∷ rest)) (sym apart.0)
            (record { rising = (above, left.rising.1); same = λ other le. left.same other (omega (arith, le)) }),
      )
]

-- ---- records that a certificate may have

pub all-limited : (t : Thread) → CertificateFits t → AreLimited t.records
all-limited t fits = λ k r at. let fit = fits.each k r at in (fit.terms, fit.constant)

-- the next one of them, and the rest
pub first-limited : (old new : List StateRecord) (next : Option StateRecord) (r : StateRecord) → YieldsFirst (λ s. s) old next new → next ≡ Some r
    → AreLimited old → (slice_get old 0 ≡ Some r) × IsLimited r
first-limited old new None r yields is all = absurd (let clash : ◌≡◌ {A = Option StateRecord} None (Some r) = is in cc)
first-limited old new (Some s) r yields is all =
    let first : slice_get old 0 ≡ Some r = ap (λ (rs : List StateRecord). slice_get rs 0) yields ∙ is in (first, all 0 r first)

pub rest-limited : (old new : List StateRecord) (next : Option StateRecord) → YieldsFirst (λ s. s) old next new → AreLimited old → AreLimited new
rest-limited old new None yields all = λ k r at.
    absurd (let clash : ◌≡◌ {A = Option StateRecord} None (Some r) = ap (λ (rs : List StateRecord). slice_get rs k) (sym yields.1) ∙ at in cc)
rest-limited old new (Some s) yields all = λ k r at. all (suc k) r (ap (λ (rs : List StateRecord). slice_get rs (suc k)) yields ∙ at)

-- ---- the next point

-- whether the next point has a record, by the records that are left
pub is-next : (t : Thread) (point : ℕ) (rest next : List StateRecord) (is : Bool) → AreLeft t point rest → next ≡ behind point rest →
    is ≡ is_some (taken (point + 1) next)
    → is ≡ is_some (record_of t (point + 1))
is-next t point rest next is left same found =
    found ∙ ap (λ (rs : List StateRecord). is_some (taken (point + 1) rs)) same
    ∙ ap is_some (sym (next-record t (point + 1) (behind point rest) (next-record t point rest left).1).0)

pub no-record : (o : Option StateRecord) → is_some o ≡ false → o ≡ None
no-record None is = refl
no-record (Some r) is = absurd (let clash : true ≡ false = is in cc)
