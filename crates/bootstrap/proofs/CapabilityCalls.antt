-- The call that puts a listed capability into its slot, in the words that represent it.
use Rattle.std.proofs.Common.{◌≡◌, ◌∙◌, ℕ, ◌++◌, Bool, true, false, Some, List, [], ◌∷◌, if◌then◌else◌, sym, ap}
use Rattle.std.specs.Prelude.{slice_get}
use Rattle.std.proofs.lemmas.Option.{get_or_from_slice_get}
use Rattle.model.specs.Acceptance.WellFormed.{is_untyped_type, source_type}
use Rattle.model.specs.Images.BootCalls.{LoaderCall, capability_call, listed_arguments, loader_call}
use Rattle.model.specs.Images.Image.{Image}
use Rattle.model.specs.Images.Places.{object_at, original_slot, source_boot_slot}
use Rattle.model.specs.Kernel.CallForms.{mint_label, move_label}
use Rattle.model.specs.declared.entries.CapabilityEntry.{CapabilityEntry}
use Rattle.model.specs.declared.entries.ObjectEntry.{ObjectEntry}

module _ (image : Image) (entry : CapabilityEntry) (cnode : ObjectEntry) (slot source : ℕ) (untyped : Bool)
    (there : slice_get image.objects entry.cnode ≡ Some cnode)
    (slot_is : slot ≡ original_slot image entry.cnode) (source_is : source ≡ source_boot_slot image entry.source)
    (untyped_is : untyped ≡ is_untyped_type (source_type image entry.source)) where
  abbrev arguments : List ℕ
  arguments = entry.index ∷ cnode.size ∷ source ∷ 32 ∷ []

  listed : arguments ≡ listed_arguments image entry
  listed =
      let same : object_at image entry.cnode ≡ cnode = get_or_from_slice_get image.objects entry.cnode cnode _ there in
      ap (λ (s : ℕ). entry.index ∷ cnode.size ∷ s ∷ 32 ∷ []) source_is
      ∙ ap (λ (o : ObjectEntry). entry.index ∷ o.size ∷ source_boot_slot image entry.source ∷ 32 ∷ []) (sym same)

  abbrev choice : Bool → LoaderCall
  choice b =
      if b
      then loader_call (original_slot image entry.cnode) move_label (listed_arguments image entry)
      else loader_call (original_slot image entry.cnode) mint_label (listed_arguments image entry ++ entry.rights ∷ entry.payload ∷ [])

  pub move-call : untyped ≡ true → loader_call slot move_label (entry.index ∷ cnode.size ∷ source ∷ 32 ∷ []) ≡ capability_call image entry
  move-call is =
      ap (λ (s : ℕ). loader_call s move_label arguments) slot_is
      ∙ ap (λ (words : List ℕ). loader_call (original_slot image entry.cnode) move_label words) listed
      ∙ ap choice (sym is ∙ untyped_is)

  pub mint-call : untyped ≡ false
      → loader_call slot mint_label (entry.index ∷ cnode.size ∷ source ∷ 32 ∷ entry.rights ∷ entry.payload ∷ []) ≡ capability_call image entry
  mint-call is =
      ap (λ (s : ℕ). loader_call s mint_label (arguments ++ entry.rights ∷ entry.payload ∷ [])) slot_is
      ∙ ap (λ (words : List ℕ). loader_call (original_slot image entry.cnode) mint_label (words ++ entry.rights ∷ entry.payload ∷ [])) listed
      ∙ ap choice (sym is ∙ untyped_is)
