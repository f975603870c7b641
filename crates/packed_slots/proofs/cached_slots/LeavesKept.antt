-- What is kept once the leaf of a page is, and what where nothing is.
use Rattle.std.proofs.Common.{ℕ, ◌≡◌, ◌∙◌, ◌⊎◌, inl, inr, Option, Some, None, List, length, replicate, slice_index_or, slice_set, sym, ap, arith}
use Rattle.std.proofs.lemmas.Bool.{cases_lt}
use Rattle.std.proofs.lemmas.Bool.Decides.{eqb_tells}
use Rattle.std.proofs.lemmas.List.{get_or_past, get_or-replicate, get_or-set_other, get_or-set_same, length-replicate, length-set}
use Rattle.packed_slots.specs.cached_slots.KeptLeaves.{AreAmong, IsLeafMore, Leaves, place_for, with_leaf}
use Rattle.packed_slots.specs.declared.cached_slots.caches.TlbEntry.{TlbEntry}

none-some : (kept : TlbEntry) {A : Type 0} → None ≡ Some kept → A
none-some kept is = absurd (let clash : None ≡ Some kept = is in cc)

-- ---- nothing is kept

none-at : (n i : ℕ) → slice_index_or (replicate n (let none : Option TlbEntry = None in none)) i None ≡ None
none-at n i = elim (cases_lt i n) [
  | inl inside ↦ get_or-replicate n i None None inside
  | inr outside ↦ get_or_past (replicate n None) i None (omega (arith, length-replicate {A = Option TlbEntry} n None))
]

pub nothing-kept : (n place : ℕ) (kept : TlbEntry) {A : Type 0} → slice_index_or (replicate n None) place None ≡ Some kept → A
nothing-kept n place kept is = none-some kept (sym (none-at n place) ∙ is)

pub among_emptied : (leaves : Leaves) (n : ℕ) → AreAmong leaves (replicate n None)
among_emptied leaves n = record { each = λ i kept is. nothing-kept n i kept is }

-- ---- a leaf more is kept

module _ (entries : List (Option TlbEntry)) (root page leaf place : ℕ) (kept : TlbEntry) where
  abbrev more : TlbEntry
  more = record { root = root; page = page; leaf = leaf }

  abbrev at : ℕ
  at = place_for root page

  own-leaf : Some more ≡ Some kept → IsLeafMore root page (Some leaf) kept
  own-leaf is =
      let same : more ≡ kept = cc in
      record {
        at_root = sym (ap (λ (k : TlbEntry). k.root) same);
        at_page = sym (ap (λ (k : TlbEntry). k.page) same);
        finds =
            ap (λ (k : TlbEntry). Some k.leaf) same;
      }

  at-place : place ≡ at → slice_index_or (slice_set entries at (Some more)) place None ≡ Some kept → IsLeafMore root page (Some leaf) kept
  at-place here is = elim (cases_lt at (length entries)) [
    | inl inside ↦
        own-leaf (sym (ap (λ p. slice_index_or (slice_set entries at (Some more)) p None) here ∙ get_or-set_same entries at (Some more) None inside) ∙ is)
    | inr outside ↦
        none-some kept (sym (get_or_past (slice_set entries at (Some more)) place None (omega (arith, here, outside, length-set entries at (Some more)))) ∙ is)
  ]

  kept-some : slice_index_or (with_leaf entries root page (Some leaf)) place None ≡ Some kept
      → (slice_index_or entries place None ≡ Some kept) ⊎ IsLeafMore root page (Some leaf) kept
  kept-some is = elim (eqb_tells place at) [
    | inl here ↦ inr (at-place here.1 is)
    | inr other ↦ inl (sym (get_or-set_other entries at place (Some more) None other.1) ∙ is)
  ]

pub kept-more : (entries : List (Option TlbEntry)) (root page : ℕ) (found : Option ℕ) (place : ℕ) (kept : TlbEntry)
    → slice_index_or (with_leaf entries root page found) place None ≡ Some kept
    → (slice_index_or entries place None ≡ Some kept) ⊎ IsLeafMore root page found kept
kept-more entries root page None place kept is = inl is
kept-more entries root page (Some leaf) place kept is = kept-some entries root page leaf place kept is
