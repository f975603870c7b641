-- What one capability, one page table or one thread more leaves as it was.
use Rattle.std.proofs.Common.{ℕ, ◌≡◌, ◌≢◌, ◌∙◌, ◌==◌, ◌+◌, ◌||◌, ◌&&◌, inl, inr, Bool, true, false, not, take, List, ◌++◌, Some, None, refl, sym, ap}
use Rattle.std.specs.Prelude.{slice_get}
use Rattle.std.specs.List.{list_any}
use Rattle.std.proofs.lemmas.Bool.{ne_eqb}
use Rattle.std.proofs.lemmas.Bool.Decides.{eqb_tells}
use Rattle.model.specs.declared.capabilities.Cap.{Cap}
use Rattle.model.specs.declared.entries.CapabilityEntry.{CapabilityEntry}
use Rattle.model.specs.declared.entries.TableEntry.{TableEntry}
use Rattle.format_laws.specs.Fitting.{IsFitting}
use Rattle.soundness.proofs.boot_laws.Readings.{one_capability, one_table, one_thread}
use Rattle.soundness.proofs.boot_laws.ReadingsLists.{flat-more, held-in-first, held-in-rest, mapped-more, range-alike}
use Rattle.soundness.proofs.boot_laws.ReadingsSections.{bindings_part, control_part, frames_part, handlers_part, listed_part, notifications_part, threads_part}
use Rattle.soundness.proofs.boot_laws.ReadingsSections.{untypeds_part}
use Rattle.soundness.proofs.boot_laws.ReadingsTypes.{any-more, find-more, first_of_type, mapped_by, original-untyped, source-untyped}
use Rattle.soundness.specs.boot_laws.Loading.{Progress, holdings_so_far, is_moved, original_holding_so_far, original_so_far, originals_so_far}
use Rattle.model.specs.Acceptance.WellFormed.{is_untyped_type, source_type}
use Rattle.model.specs.Capabilities.CapabilityKinds.{is_untyped}
use Rattle.model.specs.Images.Described.{Holding, held_in, listed_holding, thread_holdings}
use Rattle.model.specs.Images.Image.{Image, Thread}
use Rattle.model.specs.Images.Places.{cnode_slot, object_at, offset_of, original_slot, type_at}

-- ---- other sections

pub around-originals : (a b c d e f g h i j : List Holding) (slot : ℕ) → held_in b slot ≡ held_in c slot
    → held_in (a ++ b ++ d ++ e ++ f ++ g ++ h ++ i ++ j) slot ≡ held_in (a ++ c ++ d ++ e ++ f ++ g ++ h ++ i ++ j) slot
around-originals a b c d e f g h i j slot same =
    held-in-first _ _ j slot (held-in-first _ _ i slot (held-in-first _ _ h slot (held-in-first _ _ g slot (held-in-first _ _ f slot
    (held-in-first _ _ e slot (held-in-first _ _ d slot (held-in-rest a b c slot same)))))))

-- ---- which originals were moved

-- another entry's source, or one that is no untyped memory, moves nothing
moved-same : (image : Image) (p : Progress) (number : ℕ) (c : CapabilityEntry) → slice_get image.capabilities p.capabilities ≡ Some c
    → (c.source ≡ number → is_untyped_type (type_at image number) ≡ false) → is_moved image (one_capability p) number ≡ is_moved image p number
moved-same image p number c at unless =
    let test = λ (x : CapabilityEntry). x.source == number in
    let before = list_any test (take p.capabilities image.capabilities) in
    ap (λ b. is_untyped (original_so_far image p number) && b) (any-more test image.capabilities p.capabilities c at)
    ∙ elim (eqb_tells c.source number) [
      | inl here ↦
          let plain : is_untyped (original_so_far image p number) ≡ false = original-untyped image p number ∙ unless here.1 in
          ap (λ b. b && (before || test c)) plain ∙ sym (ap (λ b. b && before) plain)
      | inr apart ↦
          ap (λ b. is_untyped (original_so_far image p number) && (before || b)) apart.0
          ∙ ap (λ b. is_untyped (original_so_far image p number) && b) (or-false before)
    ] where
      or-false : (b : Bool) → (b || false) ≡ b
      or-false true = refl
      or-false false = refl

pub other-capability : (image : Image) (p : Progress) (c : CapabilityEntry) (slot : ℕ) → IsFitting image → slice_get image.capabilities p.capabilities ≡ Some c
    → (is_untyped_type (source_type image c.source) ≡ true → slot ≢ original_slot image c.source) → slot ≢ cnode_slot image c.cnode c.index
    → held_in (holdings_so_far image (one_capability p)) slot ≡ held_in (holdings_so_far image p) slot
unfolding holdings_so_far
other-capability image p c slot fitting at no_pool other =
    let listed = mapped-more (listed_holding image) image.capabilities p.capabilities c slot at (λ same. other (sym same)) in
    let q = one_capability p in
    let originals =
    range-alike (original_holding_so_far image q) (original_holding_so_far image p) image.header.untypeds (λ n. refl) (λ n. refl)
    (λ n. not (is_moved image q n)) (λ n. not (is_moved image p n)) 0 p.objects slot (λ n here. (ap not (moved n here), refl)) in
    around-originals (untypeds_part image p) (originals_so_far image q) (originals_so_far image p) (control_part image) (handlers_part image p)
    (frames_part image p)
    (notifications_part image p) (bindings_part image p) (listed_part image q) (threads_part image p) slot originals
    ∙ held-in-first _ _ (threads_part image p) slot (held-in-rest _ (listed_part image q) (listed_part image p) slot listed) where
      moved : (n : ℕ) → image.header.untypeds + n ≡ slot → is_moved image (one_capability p) n ≡ is_moved image p n
      moved n here = moved-same image p n c at (λ source. plain n here source (is_untyped_type (type_at image n)) refl) where
        plain : (n : ℕ) → image.header.untypeds + n ≡ slot → c.source ≡ n → (b : Bool) → is_untyped_type (type_at image n) ≡ b → b ≡ false
        plain n here source false is = refl
        plain n here source true is =
            absurd (no_pool (sym (source-untyped image c.source fitting) ∙ ap (λ m. is_untyped_type (type_at image m)) source ∙ is)
            (sym here ∙ ap (λ m. image.header.untypeds + m) (sym source)))

-- ---- page tables

-- where an entry says nothing of an object, its first capability is as it was
original-same : (image : Image) (p : Progress) (number : ℕ) (t : TableEntry) → slice_get image.tables p.tables ≡ Some t → t.table ≢ number
    → original_so_far image (one_table p) number ≡ original_so_far image p number
original-same image p number t at other =
    ap (λ o. mapped_by image o (first_of_type (type_at image number) (offset_of image number)))
    (find-more (λ u. u.table == number) image.tables p.tables t at (ne_eqb t.table number other))

moved-table : (image : Image) (p : Progress) (number : ℕ) → is_moved image (one_table p) number ≡ is_moved image p number
moved-table image p number =
    ap (λ b. b && list_any (λ c. c.source == number) (take p.capabilities image.capabilities))
    (original-untyped image (one_table p) number ∙ sym (original-untyped image p number))

pub other-table : (image : Image) (p : Progress) (t : TableEntry) (slot : ℕ) → slice_get image.tables p.tables ≡ Some t → slot ≢ original_slot image t.table
    → held_in (holdings_so_far image (one_table p)) slot ≡ held_in (holdings_so_far image p) slot
unfolding holdings_so_far
other-table image p t slot at other =
    let q = one_table p in
    let originals =
    range-alike (original_holding_so_far image q) (original_holding_so_far image p) image.header.untypeds (λ n. refl) (λ n. refl)
    (λ n. not (is_moved image q n)) (λ n. not (is_moved image p n)) 0 p.objects slot (λ n here. (ap not (moved-table image p n), held n here)) in
    around-originals (untypeds_part image p) (originals_so_far image q) (originals_so_far image p) (control_part image) (handlers_part image p)
    (frames_part image p)
    (notifications_part image p) (bindings_part image p) (listed_part image p) (threads_part image p) slot originals where
      held : (n : ℕ) → image.header.untypeds + n ≡ slot → original_holding_so_far image (one_table p) n ≡ original_holding_so_far image p n
      held n here =
          let apart : t.table ≢ n = λ same. other (sym here ∙ ap (λ m. image.header.untypeds + m) (sym same)) in
          ap (λ (c : Cap). let h : Holding = (original_slot image n, record { capability = c; parent = Some (object_at image n).untyped }) in h)
          (original-same image p n t at apart)

-- ---- threads

pub other-thread : (image : Image) (p : Progress) (t : Thread) (slot : ℕ) → slice_get image.threads p.threads ≡ Some t →
    held_in (thread_holdings image t) slot ≡ None
    → held_in (holdings_so_far image (one_thread p)) slot ≡ held_in (holdings_so_far image p) slot
unfolding holdings_so_far
other-thread image p t slot at other =
    held-in-rest _ (threads_part image (one_thread p)) (threads_part image p) slot (flat-more (thread_holdings image) image.threads p.threads t slot at other)
