-- What checks of an image answer, by the rules that they check.
use Rattle.std.specs.Prelude.{ℕ, ◌≡◌, ◌==◌, ◌⊎◌, false, ◌++◌, ◌&&◌, nat_lt, count_by, flat_map, if◌then◌else◌, Option, Some, None, Result, Ok, Err, List, []}
use Rattle.std.specs.Prelude.{◌∷◌}
use Rattle.std.specs.List.{list_any}
use Rattle.model.specs.declared.entries.CapabilityEntry.{CapabilityEntry}
use Rattle.model.specs.declared.refusals.Refusal.{Refusal}
use Rattle.model.specs.declared.refusals.Refusal.TheVariants.{OutOfMemory}
use Rattle.model.specs.Acceptance.Rules.{Rule}
use Rattle.model.specs.Acceptance.ThreadRules.{is_cnode_source, is_member, reached, thread_rules}
use Rattle.model.specs.Acceptance.WellFormed.{capability_rules, mapping_rules, object_rules}
use Rattle.model.specs.Images.Image.{Image, Thread, no_buffer}

-- There is no breach, or it is reported; or memory was refused.
abbrev pub Answers : Option Refusal → Result (Unit {0}) Refusal → Type 0
Answers breach (Ok x) = breach ≡ None
Answers breach (Err refusal) = (refusal ≡ OutOfMemory) ⊎ (breach ≡ Some refusal)

-- the rules before those on programs, phase after phase
abbrev pub form_rules : Image → List (List Rule)
form_rules image = object_rules image ∷ capability_rules image ∷ mapping_rules image ∷ thread_rules image ∷ []

-- The numbers in a set are those that the entries name.
pub record AreNamed {A : Type 0} (key : A → ℕ) (xs : List A) (set : List ℕ) : Type 0 where
  pub is : (n : ℕ) → is_member n set ≡ list_any (λ x. key x == n) xs

-- The numbers in a set are those that more than one entry names.
pub record AreTwice {A : Type 0} (key : A → ℕ) (xs : List A) (set : List ℕ) : Type 0 where
  pub is : (n : ℕ) → is_member n set ≡ nat_lt 1 (count_by (λ x. key x == n) xs)

-- a set with one number more, if that is not there
abbrev pub with_number : ℕ → List ℕ → List ℕ
with_number n set = if is_member n set then set else set ++ n ∷ []

-- The numbers in a set are those of the frames that are buffers of these threads. It need not say anything of the number for no buffer.
pub record AreBuffers (threads : List Thread) (set : List ℕ) : Type 0 where
  pub is : (n : ℕ) → (n == no_buffer) ≡ false → is_member n set ≡ list_any (λ t. t.header.buffer == n) threads

-- a set with a thread's buffer, if it has one
abbrev pub with_buffer : ℕ → List ℕ → List ℕ
with_buffer buffer set = if buffer == no_buffer then set else with_number buffer set

-- What these threads have: their TCBs, their root tables, their message buffers, and the CNodes that they reach.
pub record AreEarlier (image : Image) (threads : List Thread) (tcbs roots cnodes buffers : List ℕ) : Type 0 where
  pub have_tcbs : AreNamed (λ t. t.header.tcb) threads tcbs
  pub have_roots : AreNamed (λ t. t.header.root) threads roots
  pub have_buffers : AreBuffers threads buffers
  pub reach : (n : ℕ) → is_member n cnodes ≡ is_member n (flat_map (reached image) threads)

-- one CNode more, if a capability that is listed in this CNode leads to it
abbrev pub with_listed : Image → ℕ → List ℕ → CapabilityEntry → List ℕ
with_listed image cnode found c = if c.cnode == cnode && is_cnode_source image c.source then with_number c.source found else found
