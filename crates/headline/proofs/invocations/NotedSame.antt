-- Slots in which a thread's own slots hold the same, and derive from the same of its slots, are noted the same.
use Rattle.std.proofs.Common.{ℕ, ◌≡◌, not, if◌then◌else◌, List, [], ◌∷◌, Option, Some, None}
use Rattle.std.specs.Prelude.{filter_map}
use Rattle.model.specs.declared.capabilities.Cap.{Cap}
use Rattle.model.specs.declared.capabilities.Cap.TheVariants.{InterruptControl}
use Rattle.model.specs.Acceptance.Authority.{IsOwnSlot}
use Rattle.model.specs.Acceptance.NotedKernel.{keys_of, noted_after, noted_of, slot_of_key}
use Rattle.model.specs.Acceptance.NotedStates.{NotedSlot, SlotKey}
use Rattle.model.specs.Acceptance.ThreadRules.{reached}
use Rattle.model.specs.Capabilities.Slots.{Slots, capability_at, is_empty}
use Rattle.model.specs.Images.Described.{Numbered}
use Rattle.model.specs.Images.Image.{Image}
use Rattle.headline.proofs.kept.Laws.{Each, IsOwnKey, each-so, noted-own, same-picked}
use Rattle.headline.specs.invocations.Mirrors.{key_above}

-- every slot full
abbrev all_full : Slots
all_full slot = Some (record { capability = InterruptControl; parent = None })

-- what holds of each noted slot's key holds of each key, where all slots are full
each-key : (image : Image) (cnodes : List ℕ) (P : SlotKey → Type 0) (keys : List SlotKey)
    → Each (λ (n : NotedSlot). P n.key) (filter_map (noted_of image cnodes all_full) keys) → Each P keys
each-key image cnodes P [] all = tt
each-key image cnodes P (key ∷ keys) all = (all.0, each-key image cnodes P keys all.1)

-- the keys of a thread's slots are its own
pub own-keys : (image : Image) (t : Numbered) → Each (IsOwnKey image t.thread) (keys_of image (reached image t.thread))
unfolding noted_after
own-keys image t = each-key image (reached image t.thread) (IsOwnKey image t.thread) (keys_of image (reached image t.thread))
    (noted-own image t.thread all_full)

-- what is noted of a slot by what it holds and what it derives from
noted-with : SlotKey → Cap → Option SlotKey → Option NotedSlot
noted-with key capability above =
    if not (is_empty capability) then Some (record { key = key; capability = capability; parent = above }) else None

module _ (image : Image) (t : Numbered) (a b : Slots) where
  same-of : (key : SlotKey) → capability_at a (slot_of_key image key) ≡ capability_at b (slot_of_key image key)
      → key_above image t a (slot_of_key image key) ≡ key_above image t b (slot_of_key image key)
      → noted_of image (reached image t.thread) a key ≡ noted_of image (reached image t.thread) b key
  unfolding noted-with
  same-of key held above = λ i. noted-with key (held i) (above i)

  pub noted-same : ((slot : ℕ) → IsOwnSlot image t.thread slot → capability_at a slot ≡ capability_at b slot)
      → ((slot : ℕ) → IsOwnSlot image t.thread slot → key_above image t a slot ≡ key_above image t b slot)
      → noted_after image t.thread a ≡ noted_after image t.thread b
  unfolding noted_after
  noted-same held above =
      let cnodes = reached image t.thread in
      same-picked (noted_of image cnodes a) (noted_of image cnodes b) (keys_of image cnodes)
      (each-so (IsOwnKey image t.thread) (λ key. noted_of image cnodes a key ≡ noted_of image cnodes b key) (keys_of image cnodes)
      (λ key own. same-of key (held (slot_of_key image key) own) (above (slot_of_key image key) own)) (own-keys image t))
