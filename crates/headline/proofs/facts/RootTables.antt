-- The capability to a root table, as the described state has it.
use Rattle.std.proofs.Common.{ℕ, ◌≡◌, ◌∙◌, ◌==◌, true, false, find, Option, Some, None, refl, ap}
use Rattle.std.specs.Option.{option_map_or}
use Rattle.model.specs.declared.capabilities.Cap.TheVariants.{Empty, RootTable}
use Rattle.model.specs.declared.entries.TableEntry.{TableEntry}
use Rattle.model.specs.Acceptance.WellFormed.{is_root_type}
use Rattle.model.specs.Images.Described.{original}
use Rattle.model.specs.Images.Image.{Image}
use Rattle.model.specs.Images.Places.{offset_of, type_at}
use Rattle.model.specs.Kernel.Retype.{NewObject, NewUntyped, NewThread, NewEndpoint, NewNotification, NewCNode, NewFrame, NewPageTable, NewRootTable}
use Rattle.model.specs.Kernel.Retype.{first_capability}
use Rattle.soundness.proofs.Laws.{mapped_by}

pub mapped-root : (image : Image) (found : Option TableEntry) (offset : ℕ) → mapped_by image found (RootTable offset) ≡ RootTable offset
mapped-root image None offset = refl
mapped-root image (Some t) offset = refl

pub first-root : (kind : Option NewObject) (offset : ℕ) → is_root_type kind ≡ true
    → option_map_or (λ k. first_capability k offset) kind Empty ≡ RootTable offset
first-root None offset is = absurd (let clash : false ≡ true = is in cc)
first-root (Some (NewUntyped bits)) offset is = absurd (let clash : false ≡ true = is in cc)
first-root (Some NewThread) offset is = absurd (let clash : false ≡ true = is in cc)
first-root (Some NewEndpoint) offset is = absurd (let clash : false ≡ true = is in cc)
first-root (Some NewNotification) offset is = absurd (let clash : false ≡ true = is in cc)
first-root (Some (NewCNode radix)) offset is = absurd (let clash : false ≡ true = is in cc)
first-root (Some NewFrame) offset is = absurd (let clash : false ≡ true = is in cc)
first-root (Some NewPageTable) offset is = absurd (let clash : false ≡ true = is in cc)
first-root (Some NewRootTable) offset is = refl

pub root-original : (image : Image) (number : ℕ) → is_root_type (type_at image number) ≡ true → original image number ≡ RootTable (offset_of image number)
root-original image number is =
    ap (mapped_by image (find (λ t. t.table == number) image.tables))
    (first-root (type_at image number) (offset_of image number) is)
    ∙ mapped-root image (find (λ t. t.table == number) image.tables) (offset_of image number)
