use Rattle.std.proofs.Common.{ℕ, ◌≡◌, Bool, length, rules, ap, ◌∙◌}
use Rattle.std.specs.Vec.{vec_len}
use Rattle.model.specs.Images.Image.{Image, has_promises}
use Rattle.image.specs.Spellings.{optional_bytes}
use Rattle.image.proofs.HeaderSpellings.{header-appended}
use Rattle.image.proofs.writing.append_header.Goals as goal

pub returns : goal.returns
returns c =
    let parts = c.parts.inside in
    let promises : vec_len parts.promises ≡ length parts.promises.items = search rules in
    let threads : vec_len parts.threads ≡ length parts.threads.items = search rules in
    header-appended c.append.result _ _ _ _ _ c.image_numbers.result c.image_counts.result (optional_bytes c.has_promises.result c.len.result) c.len-2.result
    c.args.parts.now.header
    c.append.ensures c.in_ok-append_optional.ensures c.in_ok-append_all-2.ensures c.in_ok-append_all.ensures c.image_numbers.ensures c.image_counts.ensures
    (ap (λ (n : ℕ). optional_bytes c.has_promises.result n) (c.len.ensures ∙ promises)
    ∙ ap (λ (b : Bool). optional_bytes b (length parts.promises.items)) c.has_promises.ensures
    ∙ ap (λ (i : Image). optional_bytes (has_promises i.header.version) i.header.promises) c.parts.view_is)
    (c.len-2.ensures ∙ threads ∙ ap (λ (i : Image). i.header.threads) c.parts.view_is)
