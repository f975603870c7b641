-- A state in which a slot is set says what the slots are then.
use Rattle.std.proofs.Common.{None, Some, ℕ, ◌≡◌, ◌≢◌, ◌∙◌, ◌==◌, ◌+◌, ◌*◌, ◌/◌, ◌%◌, inl, inr, if◌then◌else◌, List, Option, option_map, refl, sym, ap}
use Rattle.std.proofs.Common.{subst, arith}
use Rattle.std.proofs.lemmas.Bool.{eq-eqb}
use Rattle.std.proofs.lemmas.Bool.Decides.{eqb_tells}
use Rattle.model.specs.Acceptance.NotedStates.{NotedSlot, SlotKey, number_of, with_noted}
use Rattle.part_roots.specs.Looks.{Says, look_of, put_in, said, said_by, slot_named}
use Rattle.part_roots.proofs.HeldPuts.{put_apart, put_same}
use Rattle.typestate.specs.Differences.{left_by}
use Rattle.typestate.specs.Families.{found}
use Rattle.typestate.proofs.Laws.{noted-at}

abbrev pub key_at : ℕ → SlotKey
key_at n = record { cnode = n / 4294967296; index = n % 4294967296 }

pub number_at : (n : ℕ) → number_of (key_at n) ≡ n
number_at n = omega arith

found_put : (slots : List NotedSlot) (c : NotedSlot) (n : ℕ) → found (with_noted slots c) n ≡ (if number_of c.key == n then left_by c else found slots n)
found_put slots c n =
    let P : ℕ → Type 0 = λ k. found (with_noted slots c) k ≡ (if number_of c.key == k then left_by c else found slots k) in
    subst P (number_at n) (noted-at slots c (key_at n))

module _ (held names parents more : ℕ → Option ℕ) (image slots : List NotedSlot) (c : NotedSlot) (n : ℕ) (words parent : Option ℕ)
    (place : number_of c.key ≡ n) (leaves : said_by (slot_named names) image n words parent ≡ option_map look_of (left_by c))
    (fresh : (name : ℕ) → parent ≡ Some name → more (2 * name) ≢ None) (kept : (key : ℕ) → parents key ≢ None → more key ≢ None)
    (says : Says held names parents image slots) where
  abbrev after : ℕ → Option ℕ
  after = put_in (put_in held (2 * n) words) (2 * n + 1) parent

  elsewhere : (key : ℕ) → (2 * n + 1 ≡ key → ⊥) → (2 * n ≡ key → ⊥) → after key ≡ held key
  elsewhere key second first = put_apart (put_in held (2 * n) words) (2 * n + 1) parent key second ∙ put_apart held (2 * n) words key first

  here : said after names image n ≡ option_map look_of (left_by c)
  here =
      ap (λ w. said_by (slot_named names) image n w (after (2 * n + 1)))
      (put_apart (put_in held (2 * n) words) (2 * n + 1) parent (2 * n) (λ e. omega (arith, e)) ∙ put_same held (2 * n) words (2 * n) refl)
      ∙ ap (said_by (slot_named names) image n words) (put_same (put_in held (2 * n) words) (2 * n + 1) parent (2 * n + 1) refl) ∙ leaves

  there : (m : ℕ) → (n ≡ m → ⊥) → said after names image m ≡ said held names image m
  there m apart =
      ap (λ w. said_by (slot_named names) image m w (after (2 * m + 1))) (elsewhere (2 * m) (λ e. omega (arith, e)) (λ e. apart (omega (arith, e))))
      ∙ ap (said_by (slot_named names) image m (held (2 * m))) (elsewhere (2 * m + 1) (λ e. apart (omega (arith, e))) (λ e. omega (arith, e)))

  pub set_says : Says after names more image (with_noted slots c)
  set_says = record {
    looks = λ m. elim (eqb_tells n m) [
      | inl same ↦
          ap (option_map look_of) (found_put slots c m ∙ ap (λ b. if b then left_by c else found slots m) (eq-eqb (number_of c.key) m (place ∙ same.1)))
          ∙ sym here ∙ ap (said after names image) same.1
      | inr apart ↦
          ap (option_map look_of) (found_put slots c m ∙ ap (λ k. if k == m then left_by c else found slots m) place
          ∙ ap (λ b. if b then left_by c else found slots m) apart.0)
          ∙ says.looks m ∙ sym (there m apart.1)
    ];
    names_back = says.names_back;
    noted = λ m name is. elim (eqb_tells n m) [
      | inl same ↦ fresh name (sym (put_same (put_in held (2 * n) words) (2 * n + 1) parent (2 * m + 1) (ap (λ k. 2 * k + 1) same.1)) ∙ is)
      | inr apart ↦
          kept (2 * name) (says.noted m name (sym (elsewhere (2 * m + 1) (λ e. apart.1 (omega (arith, e))) (λ e. omega (arith, e))) ∙ is))
    ];
  }

-- what is put one after another
pub two_puts : (held first second : ℕ → Option ℕ) (n words_place parent_place : ℕ) (words parent : Option ℕ) → words_place ≡ 2 * n → parent_place ≡ 2 * n + 1
    → ((m : ℕ) → first m ≡ put_in held words_place words m) → ((m : ℕ) → second m ≡ put_in first parent_place parent m)
    → (m : ℕ) → put_in (put_in held (2 * n) words) (2 * n + 1) parent m ≡ second m
two_puts held first second n words_place parent_place words parent one two is_first is_second m =
    sym (is_second m ∙ ap (λ (h : ℕ → Option ℕ). put_in h parent_place parent m) (λ i x. is_first x i)
    ∙ ap (λ k. put_in (put_in held k words) parent_place parent m) one ∙ ap (λ k. put_in (put_in held (2 * n) words) k parent m) two)
