-- What is mapped in a region or at a page is the entry at the place of its first address.
use Rattle.std.proofs.Common.{◌≡◌, inl, inr, ℕ, ◌+◌, ◌*◌, ◌^◌, ◌/◌, ◌<◌, ◌≤◌, ◌==◌, ◌&&◌, Bool, true, false, Some, List, length, map, refl, arith}
use Rattle.std.specs.Prelude.{slice_get}
use Rattle.std.specs.List.{list_any}
use Rattle.std.proofs.lemmas.Bool.{cases_eq, eq-eqb, eqb-true, and_parts}
use Rattle.model.specs.declared.entries.FrameEntry.{FrameEntry}
use Rattle.model.specs.declared.entries.TableEntry.{TableEntry}
use Rattle.model.specs.Images.Image.{Image, pair_key}
use Rattle.model.specs.Kernel.AddressSpaces.{page_size, region_pages}
use Rattle.format_laws.specs.Fitting.{IsFitting}
use Rattle.image_reading.specs.image_entries.Keys.{DoRise, IsPlaceOf, frame_keys, table_keys}
use Rattle.image_reading.proofs.image_entries.FrameSearches.{frame_key, frames-rise}
use Rattle.image_reading.proofs.image_entries.Places.{IsWithinKeys, any-here, any-no, keys-rise, none-behind, none-from}

module _ {A : Type 0} (key : A → ℕ) (test : A → Bool) (xs : List A) (low high place : ℕ) (within : IsWithinKeys key test xs low high)
    (is : IsPlaceOf low (map key xs) place) where
  pub any-none : length xs ≤ place → list_any test xs ≡ false
  any-none past = any-no test xs (none-behind key test xs low high place within is past)

  pub any-at : DoRise (map key xs) → (y : A) → slice_get xs place ≡ Some y → list_any test xs ≡ test y
  any-at rise y at = elim (test y) as (λ b. test y ≡ b → list_any test xs ≡ b) [
    | true ↦ λ holds. any-here test xs place y at holds
    | false ↦ λ fails. any-no test xs (none-from key test xs low high place within is rise y at fails)
  ] refl

-- ---- regions

abbrev table_key : TableEntry → ℕ
table_key t = pair_key t.root t.address

abbrev is_for : ℕ → ℕ → TableEntry → Bool
is_for root region t = t.root == root && (t.address / page_size / region_pages == region)

table-root : (r s a n : ℕ) → a < 2 ^ 32 → n < 2 ^ 10 → pair_key s (n * 4194304) ≤ pair_key r a → pair_key r a < pair_key s (n * 4194304) + 4194304 → r ≡ s
table-root r s a n less small low high = elim (cases_eq r s) [
  | inl same ↦ same
  | inr other ↦ absurd (omega (arith, less, small, low, high, other))
]

module _ (image : Image) (fits : IsFitting image) (root region : ℕ) (small : region < 2 ^ 10) where
  tables-rise : DoRise (table_keys image)
  tables-rise = keys-rise table_key image.tables fits.regions_rise

  within-region : IsWithinKeys table_key (is_for root region) image.tables (pair_key root (region * 4194304)) (pair_key root (region * 4194304) + 4194304)
  within-region = record {
    passes = λ k t at low high.
        let first : t.root ≡ root = table-root t.root root t.address region (fits.table k t at).address small low high in
        let second : t.address / 4096 / 1024 ≡ region = omega (arith, low, high, first) in
        rw (eq-eqb t.root root first) (eq-eqb (t.address / 4096 / 1024) region second);
    lowest = λ k t at holds.
        let parts = and_parts (t.root == root) _ holds in
        let first : t.root ≡ root = eqb-true t.root root parts.0 in
        let second : t.address / 4096 / 1024 ≡ region = eqb-true (t.address / 4096 / 1024) region parts.1 in
        omega (arith, first, second);
    highest = λ k t at holds.
        let parts = and_parts (t.root == root) _ holds in
        let first : t.root ≡ root = eqb-true t.root root parts.0 in
        let second : t.address / 4096 / 1024 ≡ region = eqb-true (t.address / 4096 / 1024) region parts.1 in
        omega (arith, first, second);
  }

  pub region-none : (place : ℕ) → IsPlaceOf (pair_key root (region * 4194304)) (table_keys image) place → length image.tables ≤ place →
      list_any (is_for root region) image.tables ≡ false
  region-none place is past = any-none table_key (is_for root region) image.tables _ _ place within-region is past

  pub region-by : (place : ℕ) (t : TableEntry) → IsPlaceOf (pair_key root (region * 4194304)) (table_keys image) place → slice_get image.tables place ≡ Some t
      → list_any (is_for root region) image.tables ≡ is_for root region t
  region-by place t is at = any-at table_key (is_for root region) image.tables _ _ place within-region is tables-rise t at

-- ---- pages

abbrev is_on : ℕ → ℕ → FrameEntry → Bool
is_on root page f = f.root == root && (f.address / page_size == page)

frame-root : (r s a n : ℕ) → a < 2 ^ 32 → n < 2 ^ 20 → pair_key s (n * 4096) ≤ pair_key r a → pair_key r a < pair_key s (n * 4096) + 4096 → r ≡ s
frame-root r s a n less small low high = elim (cases_eq r s) [
  | inl same ↦ same
  | inr other ↦ absurd (omega (arith, less, small, low, high, other))
]

module _ (image : Image) (fits : IsFitting image) (root page : ℕ) (small : page < 2 ^ 20) where
  within-page : IsWithinKeys frame_key (is_on root page) image.frames (pair_key root (page * 4096)) (pair_key root (page * 4096) + 4096)
  within-page = record {
    passes = λ k f at low high.
        let first : f.root ≡ root = frame-root f.root root f.address page (fits.frame k f at).address small low high in
        let second : f.address / 4096 ≡ page = omega (arith, low, high, first) in
        rw (eq-eqb f.root root first) (eq-eqb (f.address / 4096) page second);
    lowest = λ k f at holds.
        let parts = and_parts (f.root == root) _ holds in
        let first : f.root ≡ root = eqb-true f.root root parts.0 in
        let second : f.address / 4096 ≡ page = eqb-true (f.address / 4096) page parts.1 in
        omega (arith, first, second);
    highest = λ k f at holds.
        let parts = and_parts (f.root == root) _ holds in
        let first : f.root ≡ root = eqb-true f.root root parts.0 in
        let second : f.address / 4096 ≡ page = eqb-true (f.address / 4096) page parts.1 in
        omega (arith, first, second);
  }

  pub page-none : (place : ℕ) → IsPlaceOf (pair_key root (page * 4096)) (frame_keys image) place → length image.frames ≤ place →
      list_any (is_on root page) image.frames ≡ false
  page-none place is past = any-none frame_key (is_on root page) image.frames _ _ place within-page is past

  pub page-by : (place : ℕ) (f : FrameEntry) → IsPlaceOf (pair_key root (page * 4096)) (frame_keys image) place → slice_get image.frames place ≡ Some f
      → list_any (is_on root page) image.frames ≡ is_on root page f
  page-by place f is at = any-at frame_key (is_on root page) image.frames _ _ place within-page is (frames-rise image fits) f at
