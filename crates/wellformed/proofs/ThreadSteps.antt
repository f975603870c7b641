-- What threads so far have, and one thread more.
use Rattle.std.proofs.Common.{◌≡◌, ◌∙◌, inl, inr, drop-cons, map, ◌-◌, ◌<◌, ◌≤◌, ℕ, suc, ◌+◌, ◌==◌, ◌||◌, ◌&&◌, not, Bool, true, false, List, [], ◌∷◌, ◌++◌}
use Rattle.std.proofs.Common.{Some, refl, take, drop, length, get_or, sym, ap, arith, add-one, take-suc}
use Rattle.std.specs.Prelude.{flat_map, nat_eq, slice_get, if◌then◌else◌}
use Rattle.std.specs.List.{list_all, list_any, range_with_len}
use Rattle.std.proofs.lemmas.Bool.{cases_lt}
use Rattle.std.proofs.lemmas.List.{drop_all, flat_map_more}
use Rattle.std.proofs.lemmas.Bool.Decides.{nat_tests}
use Rattle.std.proofs.lemmas.List.Folds.{list_any-append, list_any_more}
use Rattle.std.proofs.lemmas.Option.{get_or_from_slice_get, slice_get-get_or, slice_get_within}
use Rattle.model.specs.Acceptance.ThreadRules.{is_member, reached, shares_cspace, shares_vspace}
use Rattle.model.specs.Acceptance.WellFormed.{is_root_type, source_type}
use Rattle.model.specs.declared.entries.CapabilityEntry.{CapabilityEntry}
use Rattle.model.specs.Images.Image.{Image, Thread, no_buffer}
use Rattle.wellformed.specs.Answering.{AreBuffers, AreEarlier, with_buffer, with_number}
use Rattle.wellformed.proofs.Named.{member-with, named-next, named-none}
use Rattle.wellformed.proofs.Reached.{any-members}

-- the entry at hand, and those after it
pub head-of : {A : Type 0} (n : ℕ) (xs ys : List A) (x : A) → drop n xs ≡ x ∷ ys → (slice_get xs n ≡ Some x) × (drop (n + 1) xs ≡ ys)
head-of {A} n xs ys x is =
    elim (cases_lt n (length xs)) [
      | inl inside ↦
          let first : drop n xs ≡ get_or xs n x ∷ drop (suc n) xs = drop-cons xs n x inside in
          let same : get_or xs n x ∷ drop (suc n) xs ≡ x ∷ ys = sym first ∙ is in
          let here : get_or xs n x ≡ x = ap (λ (l : List A). get_or l 0 x) same in
          let rest : drop (suc n) xs ≡ ys = ap (λ (l : List A). drop 1 l) same in
          let one : drop (n + 1) xs ≡ drop (suc n) xs = ap (λ (k : ℕ). drop k xs) (add-one n) in
          (slice_get-get_or xs n x inside ∙ ap (λ (y : A). Some y) here, one ∙ rest)
      | inr past ↦
          let none : [] ≡ x ∷ ys = sym (drop_all n xs past) ∙ is in
          absurd (let clash : 0 ≡ suc (length ys) = ap (λ (l : List A). length l) none in omega (arith, clash))
    ]

-- ---- buffers

with_no-buffer : (buffer n : ℕ) (set : List ℕ) (b : Bool) → (buffer == no_buffer) ≡ b → (n == no_buffer) ≡ false
    → is_member n (if b then set else with_number buffer set) ≡ (is_member n set || (buffer == n))
with_no-buffer buffer n set false some other = member-with n buffer set
with_no-buffer buffer n set true none other =
    let apart : (buffer == n) ≡ false = grind (arith, nat_tests, none, other) in
    sym (ap (λ (b : Bool). is_member n set || b) apart ∙ or-false (is_member n set))
  where
    or-false : (b : Bool) → (b || false) ≡ b
    or-false true = refl
    or-false false = refl

buffers-next : (threads : List Thread) (i : ℕ) (t : Thread) (old new : List ℕ) → slice_get threads i ≡ Some t → new ≡ with_buffer t.header.buffer old
    → AreBuffers (take i threads) old → AreBuffers (take (i + 1) threads) new
buffers-next threads i t old new at put so_far = record {
  is = λ n other.
      let more = list_any_more (λ u. u.header.buffer == n) threads i t (slice_get_within threads i t at) in
      let here : get_or threads i t ≡ t = get_or_from_slice_get threads i t t at in
      ap (λ (s : List ℕ). is_member n s) put ∙ with_no-buffer t.header.buffer n old (t.header.buffer == no_buffer) refl other
      ∙ ap (λ (b : Bool). b || (t.header.buffer == n)) (so_far.is n other)
      ∙ ap (λ (v : Thread). list_any (λ u. u.header.buffer == n) (take i threads) || (v.header.buffer == n)) (sym here) ∙ sym more;
}

module _ (image : Image) where
  pub no-earlier : (tcbs roots cnodes buffers : List ℕ) → tcbs ≡ [] → roots ≡ [] → cnodes ≡ [] → buffers ≡ [] →
      AreEarlier image (take 0 image.threads) tcbs roots cnodes buffers
  no-earlier tcbs roots cnodes buffers a b c d = record {
    have_tcbs = named-none (λ t. t.header.tcb) image.threads tcbs a;
    have_roots = named-none (λ t. t.header.root) image.threads roots b;
    have_buffers = record { is = λ n other. ap (λ (s : List ℕ). is_member n s) d };
    reach = λ n. ap (λ (s : List ℕ). is_member n s) c;
  }

  one-earlier : (n : ℕ) (t : Thread) (found : List ℕ) (m : ℕ) → slice_get image.threads n ≡ Some t →
      ((n : ℕ) → is_member n found ≡ is_member n (reached image t))
      → is_member m (flat_map (reached image) (take (n + 1) image.threads))
      ≡ (is_member m (flat_map (reached image) (take n image.threads)) || is_member m found)
  one-earlier n t found m at is =
      let here : get_or image.threads n t ≡ t = get_or_from_slice_get image.threads n t t at in
      let parts : take (n + 1) image.threads ≡ take n image.threads ++ (t ∷ []) =
      rw (add-one n) (take-suc image.threads n t (slice_get_within image.threads n t at) ∙ ap (λ x. take n image.threads ++ (x ∷ [])) here) in
      let joined = flat_map_more (reached image) [] (take n image.threads) t in
      ap (λ (ts : List Thread). is_member m (flat_map (reached image) ts)) parts ∙ ap (λ (l : List ℕ). is_member m l) (sym joined)
      ∙ list_any-append (nat_eq m) (flat_map (reached image) (take n image.threads)) (reached image t)
      ∙ ap (λ (b : Bool). is_member m (flat_map (reached image) (take n image.threads)) || b) (sym (is m))

  pub earlier-next : (n : ℕ) (t : Thread) (found tcbs roots cnodes buffers tcbs' roots' cnodes' buffers' : List ℕ) → slice_get image.threads n ≡ Some t →
      ((n : ℕ) → is_member n found ≡ is_member n (reached image t))
      → tcbs' ≡ with_number t.header.tcb tcbs → roots' ≡ with_number t.header.root roots → buffers' ≡ with_buffer t.header.buffer buffers →
      ((m : ℕ) → is_member m cnodes' ≡ (is_member m cnodes || is_member m found))
      → AreEarlier image (take n image.threads) tcbs roots cnodes buffers → AreEarlier image (take (n + 1) image.threads) tcbs' roots' cnodes' buffers'
  earlier-next n t found tcbs roots cnodes buffers tcbs' roots' cnodes' buffers' at is put_tcb put_root put_buffer put_cnodes before = record {
    have_tcbs = named-next (λ t. t.header.tcb) image.threads n t tcbs tcbs' at put_tcb before.have_tcbs;
    have_roots = named-next (λ t. t.header.root) image.threads n t roots roots' at put_root before.have_roots;
    have_buffers = buffers-next image.threads n t buffers buffers' at put_buffer before.have_buffers;
    reach = λ m. put_cnodes m ∙ ap (λ (b : Bool). b || is_member m found) (before.reach m) ∙ sym (one-earlier n t found m at is);
  }

  pub shares-cspace-is : (n : ℕ) (t : Thread) (found tcbs roots cnodes buffers : List ℕ) → ((n : ℕ) → is_member n found ≡ is_member n (reached image t)) →
      AreEarlier image (take n image.threads) tcbs roots cnodes buffers
      → list_any (λ m. is_member m cnodes) found ≡ shares_cspace image (record { number = n; thread = t })
  unfolding shares_cspace
  shares-cspace-is n t found tcbs roots cnodes buffers is before =
      let same : (λ (m : ℕ). is_member m cnodes) ≡ (λ (m : ℕ). is_member m (flat_map (reached image) (take n image.threads))) = λ i m. before.reach m i in
      ap (λ (p : ℕ → Bool). list_any p found) same ∙ any-members (λ m. is_member m (flat_map (reached image) (take n image.threads))) found (reached image t) is

  pub shares-vspace-is : (n : ℕ) (t : Thread) (found tcbs roots cnodes buffers : List ℕ) (root : ℕ) → root ≡ t.header.root →
      ((n : ℕ) → is_member n found ≡ is_member n (reached image t)) → AreEarlier image (take n image.threads) tcbs roots cnodes buffers
      → (is_member root roots || list_any (λ c. is_member c.cnode found && is_root_type (source_type image c.source) && not (c.source == root))
      image.capabilities)
      ≡ shares_vspace image (record { number = n; thread = t })
  unfolding shares_vspace
  shares-vspace-is n t found tcbs roots cnodes buffers root same is before =
      let holds : (λ (c : CapabilityEntry). is_member c.cnode found && is_root_type (source_type image c.source) && not (c.source == t.header.root))
      ≡ (λ (c : CapabilityEntry). is_member c.cnode (reached image t) && is_root_type (source_type image c.source) && not (c.source == t.header.root)) =
      λ i c. is c.cnode i && is_root_type (source_type image c.source) && not (c.source == t.header.root) in
      ap (λ (r : ℕ). is_member r roots || list_any (λ c. is_member c.cnode found && is_root_type (source_type image c.source) && not (c.source == r))
      image.capabilities) same
      ∙ ap (λ (b : Bool). b || list_any (λ c. is_member c.cnode found && is_root_type (source_type image c.source) && not (c.source == t.header.root))
      image.capabilities) (before.have_roots.is t.header.root)
      ∙ ap (λ (p : CapabilityEntry → Bool). list_any (λ u. u.header.root == t.header.root) (take n image.threads) || list_any p image.capabilities) holds

-- ---- the pages of a program

module _ (test : ℕ → Bool) (f : ℕ → ℕ) (k count : ℕ) (total : Bool) where
  abbrev pub PagesLeft : ℕ → Type 0
  PagesLeft n = list_all test (map f (range_with_len n (count - n))) ≡ total

  page-next : k < count → list_all test (map f (range_with_len k (count - k)))
      ≡ (test (f k) && list_all test (map f (range_with_len (k + 1) (count - (k + 1)))))
  page-next lt = let one : count - k ≡ suc (count - (k + 1)) = omega arith in ap (λ (n : ℕ). list_all test (map f (range_with_len k n))) one

  pub page-passes : k < count → test (f k) ≡ true → PagesLeft k → PagesLeft (k + 1)
  page-passes lt is so_far =
      sym (ap (λ (b : Bool). b && list_all test (map f (range_with_len (k + 1) (count - (k + 1))))) is) ∙ sym (page-next lt) ∙ so_far

  pub page-fails : k < count → test (f k) ≡ false → PagesLeft k → total ≡ false
  page-fails lt is so_far = sym so_far ∙ page-next lt ∙ ap (λ (b : Bool). b && list_all test (map f (range_with_len (k + 1) (count - (k + 1))))) is

  pub pages-end : count ≤ k → PagesLeft k → total ≡ true
  pages-end le so_far = let none : count - k ≡ 0 = omega arith in sym so_far ∙ ap (λ (n : ℕ). list_all test (map f (range_with_len k n))) none
