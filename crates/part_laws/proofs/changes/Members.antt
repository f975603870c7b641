-- Who is in a part: control blocks and threads, and lists without all others.
use Rattle.std.proofs.Common.{ℕ, zero, suc, ◌+◌, ◌≡◌, ◌≢◌, ◌∙◌, ◌==◌, ◌++◌, ◌&&◌, ◌||◌, inl, inr, Bool, true, false, not, cond, List, [], ◌∷◌, filter, map}
use Rattle.std.proofs.Common.{Some, refl, sym, ap, arith}
use Rattle.std.specs.Prelude.{Contains, slice_get}
use Rattle.std.specs.List.{enumerate_from, list_any}
use Rattle.std.proofs.lemmas.Bool.{and_parts, eq-eqb, eqb-true, false≢true, or_parts}
use Rattle.std.proofs.lemmas.Bool.Decides.{eqb_tells}
use Rattle.std.proofs.lemmas.List.Elements.{filter-append}
use Rattle.std.proofs.lemmas.Option.{none-some, same_Some}
use Rattle.model.specs.Acceptance.Authority.{self_of}
use Rattle.model.specs.Acceptance.ThreadInvariants.{tcb_of}
use Rattle.model.specs.Images.Described.{Numbered, numbered_threads}
use Rattle.model.specs.Images.Image.{Image, Thread}
use Rattle.model.specs.Shared.Lists.{without}
use Rattle.headline.proofs.Laws.{is-listed, with_number}
use Rattle.headline.specs.kept.Laws.{HaveOwnBlocks}
use Rattle.headline.specs.parts.Parts.{Part, is_in, is_thread_in}
use Rattle.model.specs.Acceptance.Accepted.{IsAccepted}

-- ---- lists

-- none passes
none-at : {A : Type 0} (test : A → Bool) (xs : List A) (k : ℕ) (x : A) → list_any test xs ≡ false → slice_get xs k ≡ Some x → test x ≡ false
none-at test [] k x none at = absurd (none-some x at)
none-at test (y ∷ ys) zero x none at = ap test (sym (same_Some y x at)) ∙ (or_parts (test y) (list_any test ys) none).0
none-at test (y ∷ ys) (suc k) x none at = none-at test ys k x (or_parts (test y) (list_any test ys) none).1 at

-- a listed thread has a number
pub listed-from : (from : ℕ) (threads : List Thread) (k : ℕ) (t : Thread) → slice_get threads k ≡ Some t
    → (n : ℕ) × Contains (map with_number (enumerate_from from threads)) (with_number (n, t))
listed-from from [] k t at = absurd (none-some t at)
listed-from from (u ∷ us) zero t at = (from, (0, omega arith, ap (λ (v : Thread). with_number (from, v)) (same_Some u t at)))
listed-from from (u ∷ us) (suc k) t at =
    let later = listed-from (from + 1) us k t at in
    let there = later.1 in
    let inside = there.1 in
    (later.0, (suc there.0, omega (arith, inside), there.2))

pub any-at : {A : Type 0} (test : A → Bool) (xs : List A) (k : ℕ) (x : A) → slice_get xs k ≡ Some x → test x ≡ true → list_any test xs ≡ true
any-at test xs k x at passes = elim (list_any test xs) as (λ b. list_any test xs ≡ b → b ≡ true) [
  | true ↦ λ _. refl
  | false ↦ λ none. sym (none-at test xs k x none at) ∙ passes
] refl

pub record Passes {A : Type 0} (test : A → Bool) (xs : List A) : Type 0 where
  pub place : ℕ
  pub entry : A
  pub at : slice_get xs place ≡ Some entry
  pub is : test entry ≡ true

pub some-passes : {A : Type 0} (test : A → Bool) (xs : List A) → list_any test xs ≡ true → Passes test xs
some-passes test [] some = absurd (false≢true some)
some-passes test (x ∷ xs) some = elim (test x) as (λ b. test x ≡ b → (b || list_any test xs) ≡ true → Passes test (x ∷ xs)) [
  | true ↦ λ is _. record { place = 0; entry = x; at = refl; is = is }
  | false ↦ λ _ later. let of = some-passes test xs later in record { place = suc of.place; entry = of.entry; at = of.at; is = of.is }
] refl some

-- a number that does not pass may go before the test
pub filter-without : (test : ℕ → Bool) (gone : ℕ) (xs : List ℕ) → test gone ≡ false → filter test (without gone xs) ≡ filter test xs
filter-without test gone [] fails = refl
filter-without test gone (x ∷ xs) fails =
    elim (eqb_tells x gone) [
      | inl here ↦
          ap (λ b. filter test (cond (not b) (x ∷ without gone xs) (without gone xs))) here.0 ∙ filter-without test gone xs fails
          ∙ sym (ap (λ b. cond b (x ∷ filter test xs) (filter test xs)) (ap test here.1 ∙ fails))
      | inr apart ↦
          ap (λ b. filter test (cond (not b) (x ∷ without gone xs) (without gone xs))) apart.0
          ∙ ap (λ rest. cond (test x) (x ∷ rest) rest) (filter-without test gone xs fails)
    ]

-- what holds nothing that passes
pub filter-none : (test : ℕ → Bool) (xs : List ℕ) → ((x : ℕ) → Contains xs x → test x ≡ false) → filter test xs ≡ []
filter-none test [] fails = refl
filter-none test (x ∷ xs) fails =
    ap (λ b. cond b (x ∷ filter test xs) (filter test xs)) (fails x (0, omega arith, refl))
    ∙ filter-none test xs (λ y there. let inside = there.1 in fails y (suc there.0, omega (arith, inside), there.2))

-- two lists that differ only in what does not pass
pub filter-same : (test : ℕ → Bool) (gone : ℕ) (old new added : List ℕ) → test gone ≡ false → without gone new ≡ without gone old ++ added
    → ((x : ℕ) → Contains added x → test x ≡ false) → filter test new ≡ filter test old
filter-same test gone old new added fails is none =
    sym (filter-without test gone new fails) ∙ ap (filter test) is ∙ filter-append test (without gone old) added
    ∙ ap (λ (more : List ℕ). filter test (without gone old) ++ more) (filter-none test added none)
    ∙ nothing-behind (filter test (without gone old)) ∙ filter-without test gone old fails
  where
    nothing-behind : (xs : List ℕ) → xs ++ [] ≡ xs
    nothing-behind [] = refl
    nothing-behind (x ∷ xs) = ap (λ (rest : List ℕ). x ∷ rest) (nothing-behind xs)

-- ---- threads

-- a thread of the part, by its control block
pub record IsMember (image : Image) (part : Part) (offset : ℕ) : Type 0 where
  pub thread : Numbered
  pub listed : Contains (numbered_threads image) thread
  pub inside : is_in part thread.thread ≡ true
  pub block : tcb_of image thread ≡ offset

pub member-of : (image : Image) (part : Part) (offset : ℕ) → is_thread_in image part offset ≡ true → IsMember image part offset
member-of image part offset is =
    let of = some-passes (λ t. is_in part t && self_of image t == offset) image.threads is in
    let parts = and_parts (is_in part of.entry) (self_of image of.entry == offset) of.is in
    let there = listed-from 0 image.threads of.place of.entry of.at in
    record {
      thread = record { number = there.0; thread = of.entry };
      listed = there.1;
      inside = parts.0;
      block = eqb-true (self_of image of.entry) offset parts.1;
    }

pub is-member : (image : Image) (part : Part) (u : Numbered) → Contains (numbered_threads image) u → is_in part u.thread ≡ true
    → is_thread_in image part (tcb_of image u) ≡ true
is-member image part u listed inside =
    any-at (λ t. is_in part t && self_of image t == tcb_of image u) image.threads (is-listed image u listed).number u.thread
    (is-listed image u listed).listed
    (ap (λ b. b && tcb_of image u == tcb_of image u) inside ∙ eq-eqb (tcb_of image u) (tcb_of image u) refl)

module _ (bytes : List ℕ) (image : Image) (accepted : IsAccepted bytes image) (own_blocks : HaveOwnBlocks) (part : Part) (t : Numbered)
    (listed : Contains (numbered_threads image) t) (outside : is_in part t.thread ≡ false) where
  -- a thread outside of the part is none of its threads
  pub other-block : (u : Numbered) → Contains (numbered_threads image) u → is_in part u.thread ≡ true → tcb_of image u ≢ tcb_of image t
  other-block u among inside same =
      let one : u ≡ t = own_blocks bytes image u t accepted among listed same in
      false≢true (sym outside ∙ ap (λ (v : Numbered). is_in part v.thread) (sym one) ∙ inside)

  pub no-member : is_thread_in image part (tcb_of image t) ≡ false
  no-member = elim (is_thread_in image part (tcb_of image t)) as (λ b. is_thread_in image part (tcb_of image t) ≡ b → b ≡ false) [
    | false ↦ λ _. refl
    | true ↦ λ is. let m = member-of image part (tcb_of image t) is in absurd (other-block m.thread m.listed m.inside m.block)
  ] refl
