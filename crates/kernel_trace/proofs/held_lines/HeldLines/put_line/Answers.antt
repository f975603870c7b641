-- A line has at most 32 bytes, so that it fits with its line feed.
use Rattle.std.proofs.Common.{ℕ, ◌≡◌, ◌∙◌, ◌+◌, ◌≤◌, ◌++◌, List, [], ◌∷◌, length, length-append, append_assoc, ap, arith, subst, sym}
use Rattle.kernel_trace.proofs.held_lines.HeldLines.put_line.Goals as goal

pub returns : goal.returns
returns c = λ room.
    let old : List ℕ = c.args.self.now.bytes in
    let text : List ℕ = c.as_slice.result.now in
    let short : length text ≤ 32 = c.as_slice.ensures.fits in
    let first : c.push_text-fits.new.self ≡ old ++ text = c.push_text-fits.ensures (omega (arith, room, short)) in
    let both : length (old ++ text) + 1 ≤ 8192 = omega (arith, room, short, length-append old text) in
    let fits : length c.push_text-fits.new.self + 1 ≤ 8192 = subst (λ (bytes : List ℕ). length bytes + 1 ≤ 8192) (sym first) both in
    c.push_text-fits-2.ensures fits
    ∙ ap (λ (bytes : List ℕ). bytes ++ 0x0A ∷ []) first
    ∙ append_assoc old text (0x0A ∷ [])
    ∙ ap (λ (bytes : List ℕ). old ++ (bytes ++ 0x0A ∷ [])) (c.as_slice.ensures.value ∙ c.line-text.ensures)
