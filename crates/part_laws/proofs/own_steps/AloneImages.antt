-- The image of a part alone has its threads, which reach the same CNodes and note the same of the same slots.
use Rattle.std.proofs.Common.{ℕ, zero, suc, ◌≡◌, ◌∙◌, Bool, true, false, cond, List, [], ◌∷◌, fold, length, Option, Some, refl, sym, ap, ap₂, subst}
use Rattle.std.specs.Prelude.{Contains, IsTrue, filter, filter_map, slice_get}
use Rattle.std.specs.List.{cons_option, list_any}
use Rattle.std.proofs.lemmas.Option.{none-some, same_Some}
use Rattle.model.specs.declared.slot_entries.Entry.{Entry}
use Rattle.model.specs.Acceptance.Authority.{IsOwnSlot}
use Rattle.model.specs.Acceptance.NotedKernel.{keys_of, noted_after, noted_of, slot_of_key, stands_in}
use Rattle.model.specs.Acceptance.NotedStates.{SlotKey}
use Rattle.model.specs.Acceptance.ThreadInvariants.{tcb_of}
use Rattle.model.specs.Acceptance.ThreadRules.{reached, reached_within, with_named}
use Rattle.model.specs.Capabilities.Slots.{Slots}
use Rattle.model.specs.Images.Described.{Numbered, numbered_threads}
use Rattle.model.specs.Images.Image.{Image, Thread}
use Rattle.model.specs.Images.Places.{offset_of}
use Rattle.headline.proofs.Laws.{is-listed}
use Rattle.headline.specs.parts.Agreeing.{IsMemberOf}
use Rattle.headline.specs.parts.Parts.{Part, alone, is_in}
use Rattle.part_laws.proofs.changes.Members.{listed-from}
use Rattle.part_laws.proofs.outside.Noted.{Each, IsOwnKey, keys-own}

-- ---- lists

-- what passes is in the list of what passes
filtered-at : {A : Type 0} (test : A → Bool) (xs : List A) (k : ℕ) (x : A) → slice_get xs k ≡ Some x → test x ≡ true
    → (j : ℕ) × (slice_get (filter test xs) j ≡ Some x)
filtered-at test [] k x at passes = absurd (none-some x at)
filtered-at test (y ∷ ys) zero x at passes =
    (0, ap (λ b. slice_get (cond b (y ∷ filter test ys) (filter test ys)) 0) (ap test (same_Some y x at) ∙ passes) ∙ at)
filtered-at test (y ∷ ys) (suc k) x at passes =
    let later = filtered-at test ys k x at passes in
    elim (test y) as (λ b. (j : ℕ) × (slice_get (cond b (y ∷ filter test ys) (filter test ys)) j ≡ Some x)) [
      | true ↦ (suc later.0, later.1)
      | false ↦ later
    ]

same-picked : {A B : Type 0} (f g : A → Option B) (P : A → Type 0) → ((x : A) → P x → f x ≡ g x) → (xs : List A) → Each P xs
    → filter_map f xs ≡ filter_map g xs
same-picked f g P same [] all = refl
same-picked f g P same (x ∷ xs) all =
    ap₂ (λ o rest. cons_option o rest) (same x all.0) (same-picked f g P same xs all.1)

-- ---- a thread whose own slots are the same notes the same

pub same-noted : (image : Image) (t : Thread) (s after : Slots) → ((slot : ℕ) → IsOwnSlot image t slot → after slot ≡ s slot)
    → noted_after image t after ≡ noted_after image t s
unfolding noted_after
same-noted image t s after same =
    let cnodes = reached image t in
    same-picked (noted_of image cnodes after) (noted_of image cnodes s) (IsOwnKey image t) (λ key own. same-of key (same (slot_of_key image key) own))
    (keys_of image cnodes) (keys-own image t)
  where
    same-of : (key : SlotKey) → after (slot_of_key image key) ≡ s (slot_of_key image key)
        → noted_of image (reached image t) after key ≡ noted_of image (reached image t) s key
    same-of key here = ap (λ (o : Option Entry). noted_of image (reached image t) (λ _. o) key) here

-- ---- the image of a part

module _ (image : Image) (part : Part) where
  abbrev single : Image
  single = alone image part

  pub alone-offset : (n : ℕ) → offset_of single n ≡ offset_of image n
  unfolding alone offset_of
  alone-offset n = refl

  rounds : (n : ℕ) (found : List ℕ) → reached_within n single found ≡ reached_within n image found
  unfolding reached_within alone
  rounds zero found = refl
  rounds (suc n) found = rounds n (fold (with_named image) found image.capabilities)

  pub alone-reached : (t : Thread) → reached single t ≡ reached image t
  unfolding reached alone
  alone-reached t = rounds (length image.capabilities) (t.header.cnode ∷ [])

  pub alone-noted : (t : Thread) (slots : Slots) → noted_after single t slots ≡ noted_after image t slots
  unfolding noted_after alone offset_of
  alone-noted t slots = ap (λ (cnodes : List ℕ). filter_map (noted_of image cnodes slots) (keys_of image cnodes)) (alone-reached t)

  pub alone-own : (t : Thread) (slot : ℕ) → IsOwnSlot image t slot → IsOwnSlot single t slot
  unfolding alone offset_of
  alone-own t slot own = subst (λ (cnodes : List ℕ). IsTrue (list_any (stands_in image slot) cnodes)) (sym (alone-reached t)) own

  -- the same thread in the part alone
  pub record IsThere (u : Numbered) : Type 0 where
    pub thread : Numbered
    pub listed : Contains (numbered_threads single) thread
    pub same : thread.thread ≡ u.thread
    pub block : tcb_of single thread ≡ tcb_of image u

  pub there : (u : Numbered) → IsMemberOf image part u → IsThere u
  unfolding alone
  there u member =
      let at = is-listed image u member.listed in
      let passed = filtered-at (is_in part) image.threads at.number u.thread at.listed member.inside in
      let listed = listed-from 0 (filter (is_in part) image.threads) passed.0 u.thread passed.1 in
      record {
        thread = record { number = listed.0; thread = u.thread };
        listed = listed.1;
        same = refl;
        block = alone-offset u.thread.header.tcb;
      }
