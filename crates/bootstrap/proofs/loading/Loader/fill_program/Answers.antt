-- By the pages of the program.
use Rattle.std.proofs.Common.{◌≡◌, ◌∙◌, ◌%◌, ◌==◌, true, inl, inr, sym, ap, subst}
use Rattle.std.proofs.lemmas.Bool.Decides.{eqb_tells}
use Rattle.model.specs.Acceptance.WellFormed.{is_root_type}
use Rattle.model.specs.Images.Places.{type_at}
use Rattle.model.specs.Kernel.AddressSpaces.{page_size}
use Rattle.bootstrap.specs.Loading.{progress_of}
use Rattle.model.specs.Kernel.Outcomes.{GivesState}
use Rattle.bootstrap.proofs.FillLemmas.{program-filled}
use Rattle.bootstrap.proofs.loading.Loader.fill_program.Goals as goal

pub returns-then-is_root_table-clause-outcome : goal.returns-then-is_root_table-clause-outcome
returns-then-is_root_table-clause-outcome c =
    let image = c.args.image.now.read.now in
    let t = c.args.thread.now in
    let none : t.header.base % page_size ≡ 0 = ap (λ h. h.base % page_size) (sym c.header-header.ensures) ∙ c.if-header-ne0.false in
    let aligned : (t.header.base % page_size == 0) ≡ true = elim (eqb_tells (t.header.base % page_size) 0)
    [ inl same ↦ same.0 | inr other ↦ absurd (other.1 none) ] in
    let root : is_root_type (type_at image t.header.root) ≡ true =
    ap (λ h. is_root_type (type_at image h.root)) (sym c.header-header.ensures) ∙ sym (c.is_root_table.ensures ∙ ap is_root_type c.type_at.ensures)
    ∙ c.if-is_root_table.true in
    subst (λ d. GivesState d c.fill_pages.result (progress_of c.fill_pages.new.self))
    (sym (program-filled image t c.args.number image.header.untypeds (progress_of c.args.self.now) aligned root)) c.fill_pages.ensures.outcome
