-- The root table of a thread, as its control block names it.
use Rattle.std.proofs.Common.{ℕ, ◌≡◌, ◌∙◌, ◌/◌, ◌==◌, true, find, Option, Some, None, refl}
use Rattle.std.specs.Option.{option_map_or}
use Rattle.std.proofs.lemmas.Bool.{false≢true}
use Rattle.std.specs.Prelude.{Contains}
use Rattle.soundness.proofs.Laws.{are-formed}
use Rattle.model.specs.declared.capabilities.Cap.{Cap}
use Rattle.model.specs.declared.capabilities.Cap.TheVariants.{Empty, Untyped, Endpoint, Notification, CNode, Frame, PageTable, Tcb, RootTable, InterruptControl}
use Rattle.model.specs.declared.capabilities.Cap.TheVariants.{InterruptHandler}
use Rattle.model.specs.declared.capabilities.TableMapping.{TableMapping}
use Rattle.model.specs.declared.entries.TableEntry.{TableEntry}
use Rattle.model.specs.Acceptance.Accepted.{IsWellFormed}
use Rattle.model.specs.Acceptance.WellFormed.{is_root_type}
use Rattle.model.specs.Acceptance.ThreadInvariants.{root_table_of}
use Rattle.model.specs.Capabilities.CapabilityKinds.{root_of, with_table_mapping}
use Rattle.model.specs.Images.Described.{Numbered, numbered_threads, original}
use Rattle.model.specs.Images.Image.{Image}
use Rattle.model.specs.Images.Places.{offset_of, type_at}
use Rattle.model.specs.Kernel.AddressSpaces.{page_size, region_pages}
use Rattle.model.specs.Kernel.Retype.{NewObject, NewUntyped, NewThread, NewEndpoint, NewNotification, NewCNode, NewFrame, NewPageTable, NewRootTable}
use Rattle.model.specs.Kernel.Retype.{first_capability}
use Rattle.headline.proofs.Laws.{is-listed}

root-mapped : (c : Cap) (m : Option TableMapping) → root_of (with_table_mapping c m) ≡ root_of c
root-mapped Empty m = refl
root-mapped (Untyped a b u) m = refl
root-mapped (Endpoint a r g) m = refl
root-mapped (Notification a r g) m = refl
root-mapped (CNode a r g) m = refl
root-mapped (Frame a r f) m = refl
root-mapped (PageTable a f) m = refl
root-mapped (Tcb a) m = refl
root-mapped (RootTable a) m = refl
root-mapped InterruptControl m = refl
root-mapped (InterruptHandler n) m = refl

first-root : (kind : Option NewObject) (offset : ℕ) → is_root_type kind ≡ true
    → root_of (option_map_or (λ k. first_capability k offset) kind Empty) ≡ Some offset
first-root None offset is = absurd (false≢true is)
first-root (Some (NewUntyped bits)) offset is = absurd (false≢true is)
first-root (Some NewThread) offset is = absurd (false≢true is)
first-root (Some NewEndpoint) offset is = absurd (false≢true is)
first-root (Some NewNotification) offset is = absurd (false≢true is)
first-root (Some (NewCNode radix)) offset is = absurd (false≢true is)
first-root (Some NewFrame) offset is = absurd (false≢true is)
first-root (Some NewPageTable) offset is = absurd (false≢true is)
first-root (Some NewRootTable) offset is = refl

original-root : (image : Image) (number : ℕ) → is_root_type (type_at image number) ≡ true → root_of (original image number) ≡ Some (offset_of image number)
original-root image number is =
    by (find (λ (t : TableEntry). t.table == number) image.tables)
    (option_map_or (λ k. first_capability k (offset_of image number)) (type_at image number) Empty)
    ∙ first-root (type_at image number) (offset_of image number) is
  where
    by : (o : Option TableEntry) (c : Cap) → root_of (option_map_or
        (λ t. with_table_mapping c (Some (record { root = offset_of image t.root; region = t.address / page_size / region_pages }))) o c) ≡ root_of c
    by None c = refl
    by (Some t) c = root-mapped c _

pub thread-root : (image : Image) (u : Numbered) → IsWellFormed image → Contains (numbered_threads image) u
    → root_of (original image u.thread.header.root) ≡ Some (root_table_of image u)
thread-root image u formed listed =
    let at = is-listed image u listed in
    original-root image u.thread.header.root ((are-formed image formed).thread at.number u.thread at.listed).root
