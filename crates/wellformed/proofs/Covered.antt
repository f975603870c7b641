-- Whether some table covers a page, by the page's region.
use Rattle.std.proofs.Common.{◌≡◌, ℕ, ◌/◌, ◌==◌, ◌&&◌, ap, arith}
use Rattle.std.specs.List.{list_any}
use Rattle.model.specs.declared.entries.FrameEntry.{FrameEntry}
use Rattle.model.specs.Acceptance.WellFormed.{is_covered}
use Rattle.model.specs.Images.Image.{Image}
use Rattle.model.specs.Kernel.AddressSpaces.{page_size, region_pages, region_size}

by-pages : (address : ℕ) → address / page_size / region_pages ≡ address / region_size
by-pages address = omega arith

pub covered-is : (image : Image) (f : FrameEntry)
    → list_any (λ t. t.root == f.root && (t.address / page_size / region_pages == f.address / region_size)) image.tables ≡ is_covered image f
covered-is image f =
    ap (λ (region : ℕ → ℕ). list_any (λ t. t.root == f.root && (region t.address == f.address / region_size)) image.tables) (λ i address. by-pages address i)
