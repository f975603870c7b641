-- By what was put in: frames, capabilities, the buffer, and lines.
use Rattle.std.proofs.Common.{ℕ, ◌∙◌, ◌==◌, ◌&&◌, ◌||◌, List, ap}
use Rattle.std.specs.List.{list_any}
use Rattle.model.specs.Acceptance.ThreadRules.{is_member}
use Rattle.model.specs.Capabilities.Rights.{may_write, rights}
use Rattle.model.specs.declared.entries.FrameEntry.{FrameEntry}
use Rattle.model.specs.declared.entries.ThreadHeader.{ThreadHeader}
use Rattle.parts.proofs.OfThreads.{changes-of, noted, takes-of}
use Rattle.parts.proofs.uses.uses_of.Goals as goal

pub returns-clause-uses : goal.returns-clause-uses
returns-clause-uses c = λ same.
    let image = c.args.image.now in
    let t = c.args.thread.now in
    let h = c.header-header.result in
    let cnodes = c.in_ok-cnodes.cnodes in
    record {
      tcb = ap (λ (h : ThreadHeader). h.tcb) c.header-header.ensures;
      priority = ap (λ (h : ThreadHeader). h.priority) c.header-header.ensures;
      takes_these = λ n other. ap (λ (s : List ℕ). is_member n s) c.in_ok-taken.ensures.numbers
          ∙ takes-of image t n h cnodes c.new-takes.result c.header-header.ensures c.in_ok-cnodes.ensures.found c.new-takes.ensures c.note_frames.new.takes
          c.note_capabilities.new.takes c.note_buffer.new.takes (c.in_ok-note_frames.ensures.takes n
          ∙ ap (λ (l : List FrameEntry). is_member n c.new-takes.result || list_any (λ f. f.root == h.root && f.frame == n) l) same)
          (c.in_ok-note_capabilities.ensures.takes n)
          (c.in_ok-note_buffer.ensures.takes n ∙ ap (λ b. is_member n c.note_capabilities.new.takes || b) (noted h.buffer n other));
      changes_these = λ n other. ap (λ (s : List ℕ). is_member n s) c.in_ok-changed.ensures.numbers
          ∙ changes-of image t n h cnodes c.new-changes.result c.header-header.ensures c.in_ok-cnodes.ensures.found c.new-changes.ensures
          c.note_frames.new.changes
          c.note_capabilities.new.changes c.note_buffer.new.changes c.note_lines.new.changes c.new-sources.result c.note_capabilities.new.sources
          (c.in_ok-note_frames.ensures.changes n
          ∙ ap (λ (l : List FrameEntry). is_member n c.new-changes.result
          || list_any (λ f. (f.root == h.root && may_write (rights f.rights)) && f.frame == n) l) same)
          (c.in_ok-note_capabilities.ensures.changes n) (c.in_ok-note_buffer.ensures.changes n
          ∙ ap (λ b. is_member n c.note_capabilities.new.changes || b) (noted h.buffer n other)) (c.in_ok-note_lines.ensures.changes n)
          c.new-sources.ensures c.in_ok-note_capabilities.ensures.sources;
    }
