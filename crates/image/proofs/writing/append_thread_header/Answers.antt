use Rattle.std.proofs.Common.{Bool, ap, ◌∙◌}
use Rattle.model.specs.Images.Image.{Thread, has_buffers}
use Rattle.image.specs.Spellings.{optional_bytes}
use Rattle.image.proofs.HeaderSpellings.{first-appended, thread-header-appended}
use Rattle.image.proofs.writing.append_thread_header.Goals as goal

pub returns : goal.returns
returns c =
    let thread = c.thread.inside in
    let first = first-appended _ _ _ _ c.thread_numbers.result thread.budget thread.fault c.args.thread.now.header
    c.in_ok-append-2.ensures c.in_ok-append.ensures c.in_ok-append_all.ensures
    c.thread_numbers.ensures (ap (λ (t : Thread). t.header.budget) c.thread.view_is) (ap (λ (t : Thread). t.header.fault) c.thread.view_is) in
    thread-header-appended c.args.version c.append_all-3.result _ _ _ _ _ (optional_bytes c.has_buffers.result thread.buffer) c.thread_addresses.result
    c.thread_counts.result c.args.thread.now.header
    c.append_all-3.ensures c.in_ok-append_all-2.ensures c.in_ok-append_optional.ensures first
    (ap (λ (b : Bool). optional_bytes b thread.buffer) c.has_buffers.ensures
    ∙ ap (λ (t : Thread). optional_bytes (has_buffers c.args.version) t.header.buffer) c.thread.view_is)
    c.thread_addresses.ensures c.thread_counts.ensures
