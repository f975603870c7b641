-- Keys that rise, and the place of a number among them.
use Rattle.std.specs.Prelude.{ℕ, ◌≡◌, ◌==◌, ◌<◌, ◌≤◌, false, List, Some, length, map, slice_get}
use Rattle.model.specs.declared.entries.CapabilityEntry.{CapabilityEntry}
use Rattle.model.specs.Images.Image.{Image, pair_key}

-- Each key is below those after it.
pub record DoRise (keys : List ℕ) : Type 0 where
  pub rise : (i j a b : ℕ) → i < j → slice_get keys i ≡ Some a → slice_get keys j ≡ Some b → a < b

-- The keys before a place are below a number, and those from there on are not.
pub record IsPlaceOf (number : ℕ) (keys : List ℕ) (place : ℕ) : Type 0 where
  pub within : place ≤ length keys
  pub below : (k key : ℕ) → k < place → slice_get keys k ≡ Some key → key < number
  pub above : (k key : ℕ) → place ≤ k → slice_get keys k ≡ Some key → number ≤ key

abbrev pub capability_keys : Image → List ℕ
capability_keys image = map (λ c. pair_key c.cnode c.index) image.capabilities

abbrev pub table_keys : Image → List ℕ
table_keys image = map (λ t. pair_key t.root t.address) image.tables

abbrev pub frame_keys : Image → List ℕ
frame_keys image = map (λ f. pair_key f.root f.address) image.frames

-- The capabilities of a CNode lie from one place on, before another.
pub record AreListedIn (cnode : ℕ) (capabilities : List CapabilityEntry) (first end : ℕ) : Type 0 where
  pub within : end ≤ length capabilities
  pub before : (k : ℕ) (c : CapabilityEntry) → k < first → slice_get capabilities k ≡ Some c → (c.cnode == cnode) ≡ false
  pub there : (k : ℕ) (c : CapabilityEntry) → first ≤ k → k < end → slice_get capabilities k ≡ Some c → c.cnode ≡ cnode
  pub behind : (k : ℕ) (c : CapabilityEntry) → end ≤ k → slice_get capabilities k ≡ Some c → (c.cnode == cnode) ≡ false
