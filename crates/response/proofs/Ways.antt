-- From a take on no point is marked until the line is acknowledged, and each take is.
use Rattle.std.proofs.Common.{ℕ, ◌≡◌, ◌∙◌, Bool, true, false, sym, ap, subst}
use Rattle.model.specs.Images.Image.{Image}
use Rattle.response.specs.Asking.{asked_at}
use Rattle.response.specs.Laws.{NoWaySkips}
use Rattle.response.specs.Resting.{IsTended, Skips, further_on, marks_for, there}
use Rattle.response.proofs.Marks.{acknowledges, at-take, from-unmarked, goes_on}

module _ (image : Image) (number : ℕ) (a : IsTended image number) where
  stays : (first last : ℕ) → Skips image a.thread number first last → a.marks first ≡ false → a.marks last ≡ false
  stays first last (there _ is) free = ap a.marks is ∙ free
  stays first last (further_on _ point state inside known leads skips rest) free =
      elim (from-unmarked number (a.marks last) (asked_at image a.thread.thread point state)
      (subst (λ (b : Bool). marks_for number b (a.marks last) (asked_at image a.thread.thread point state) ≡ true) (stays first point rest free)
      (a.marked point state last inside known leads))) [
        | acknowledges is ↦ absurd (skips is)
        | goes_on none ↦ none
      ]

pub no-way : NoWaySkips
no-way image number a first next last before behind one other inside known takes leads way end_inside end_known end_takes after end_leads =
    let begun = at-take number (a.marks first) (a.marks next) (asked_at image a.thread.thread first before) one takes
    (a.marked first before next inside known leads) in
    let ends = at-take number (a.marks last) (a.marks after) (asked_at image a.thread.thread last behind) other end_takes
    (a.marked last behind after end_inside end_known end_leads) in
    let clash : true ≡ false = sym ends.0 ∙ stays image number a next last way begun.1 in absurd cc
