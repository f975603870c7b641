-- Rounds over the capabilities of an image that may lead to further CNodes.
use Rattle.std.specs.Prelude.{ℕ, ◌≡◌, ◌<◌, ◌≤◌, ◌&&◌, Bool, true, not, nat_lt, if◌then◌else◌, Some, List, length, slice_get}
use Rattle.std.specs.List.{list_any}
use Rattle.std.specs.Ordering.{is_eq, nat_cmp}
use Rattle.model.specs.declared.entries.CapabilityEntry.{CapabilityEntry}
use Rattle.model.specs.Acceptance.ThreadRules.{is_cnode_source, is_member, with_named}
use Rattle.model.specs.Images.Image.{Image}
use Rattle.thread_spaces.specs.declared.reach.Round.{Round}

-- whether a number is among others
abbrev pub is_among : List ℕ → ℕ → Bool
is_among numbers n = list_any (λ m. is_eq (nat_cmp n m)) numbers

-- whether a capability is awaited: before the place that a round has come to, by the next one
abbrev pub awaits : Round → ℕ → Bool
awaits r n = is_among (if nat_lt n r.place then r.passed.keys else r.ahead.keys) n

-- What is awaited are capabilities of the image, and those ahead are at the place or after it.
pub record IsWithin (image : Image) (r : Round) : Type 0 where
  pub ahead : (n : ℕ) → is_among r.ahead.keys n ≡ true → (r.place ≤ n) × (n < length image.capabilities)
  pub passed : (n : ℕ) → is_among r.passed.keys n ≡ true → n < length image.capabilities

-- At the same place more is awaited.
pub record AwaitsMore (r s : Round) : Type 0 where
  pub same : s.place ≡ r.place
  pub keeps : (n : ℕ) → awaits r n ≡ true → awaits s n ≡ true

-- The capabilities of a CNode are awaited that lead to CNodes.
pub record AwaitsListed (image : Image) (cnode : ℕ) (r : Round) : Type 0 where
  pub all : (n : ℕ) (c : CapabilityEntry) → slice_get image.capabilities n ≡ Some c → c.cnode ≡ cnode → is_cnode_source image c.source ≡ true →
      awaits r n ≡ true

-- whether a capability leads from a CNode that is found to one that is not
abbrev pub leads_on : Image → List ℕ → CapabilityEntry → Bool
leads_on image found c = is_member c.cnode found && is_cnode_source image c.source && not (is_member c.source found)

-- Each capability that leads on is awaited.
pub record AwaitsAll (image : Image) (found : List ℕ) (r : Round) : Type 0 where
  pub all : (n : ℕ) (c : CapabilityEntry) → slice_get image.capabilities n ≡ Some c → leads_on image found c ≡ true → awaits r n ≡ true

-- A capability is followed, and those of the CNode that it leads to are awaited.
pub record Follows (image : Image) (number : ℕ) (found after : List ℕ) (r : Round) : Type 0 where
  pub entry : CapabilityEntry
  pub there : slice_get image.capabilities number ≡ Some entry
  pub is : after ≡ with_named image found entry
  pub listed : leads_on image found entry ≡ true → AwaitsListed image entry.source r

-- A round from the first capability on.
pub record Begins (image : Image) (found : List ℕ) (r : Round) : Type 0 where
  pub first : r.place ≡ 0
  pub within : IsWithin image r
  pub awaits_all : AwaitsAll image found r
