-- The starts in the range are those of the pages with the word.
use Rattle.std.proofs.Common.{ℕ, ◌≡◌, ◌∙◌, ◌-◌, true, List, sym, ap, arith}
use Rattle.std.specs.List.{list_any}
use Rattle.runner.specs.Devices.{is_word_in}
use Rattle.runner.proofs.DeviceStarts.{ranged}
use Rattle.runner.proofs.device_pages.DevicePages.hold_word.Goals as goal

pub returns-in-Some : goal.returns-in-Some
returns-in-Some c =
    let place = c.from-place.result in
    let first : c.saturating_sub-first.result ≡ place - 4092 = omega (arith, c.saturating_sub-first.ensures) in
    sym (ap (list_any (λ _. true)) c.in-Some.ensures.steps)
    ∙ ranged c.saturating_sub-first.result place c.self.inside.starts.keys c.range.result first (c.range.ensures.between tt)
    ∙ ap (λ (keys : List ℕ). is_word_in keys place) c.self.view_is ∙ ap (is_word_in c.args.self.now) c.from-place.ensures

pub returns-in-None : goal.returns-in-None
returns-in-None c =
    let place = c.from-place.result in
    let first : c.saturating_sub-first.result ≡ place - 4092 = omega (arith, c.saturating_sub-first.ensures) in
    sym (ap (list_any (λ _. true)) c.in-None.ensures.steps.0)
    ∙ ranged c.saturating_sub-first.result place c.self.inside.starts.keys c.range.result first (c.range.ensures.between tt)
    ∙ ap (λ (keys : List ℕ). is_word_in keys place) c.self.view_is ∙ ap (is_word_in c.args.self.now) c.from-place.ensures
