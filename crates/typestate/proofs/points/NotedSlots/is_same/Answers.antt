-- By the comparison at the keys of both changes.
use Rattle.std.proofs.Common.{◌≡◌, ◌∙◌, ◌&&◌, true, false, sym, ap}
use Rattle.typestate.specs.Differences.{are_same_at, slots_of}
use Rattle.typestate.proofs.Compared.{changes-left, compared-with, turned-same}
use Rattle.typestate.proofs.Rising.{from-first}
use Rattle.typestate.proofs.points.NotedSlots.is_same.Goals as goal

pub returns-then-mine : goal.returns-then-mine
returns-then-mine c =
    let mine = slots_of c.args.self.now in
    let theirs = slots_of c.args.other.now in
    let changes = c.args.self.now.changes.now in
    let more = c.args.other.now.changes.now in
    let first : are_same_at mine theirs changes ≡ true =
    sym (c.agrees_with-mine.ensures ∙ changes-left c.args.self.now.image.now changes theirs c.args.self.now.ordered) ∙ c.if-mine.true in
    c.agrees_with-theirs.ensures ∙ changes-left c.args.other.now.image.now more mine c.args.other.now.ordered ∙ turned-same theirs mine more
    ∙ ap (λ b. b && are_same_at mine theirs more) (sym first)
    ∙ compared-with c.args.self.now.image.now c.args.other.now.image.now changes more c.requires (from-first c.args.self.now.image.now c.args.self.now.rising)

pub returns-else-mine : goal.returns-else-mine
returns-else-mine c =
    let mine = slots_of c.args.self.now in
    let theirs = slots_of c.args.other.now in
    let changes = c.args.self.now.changes.now in
    let more = c.args.other.now.changes.now in
    let first : are_same_at mine theirs changes ≡ false =
    sym (c.agrees_with-mine.ensures ∙ changes-left c.args.self.now.image.now changes theirs c.args.self.now.ordered) ∙ c.if-mine.false in
    c.if-mine.false ∙ ap (λ b. b && are_same_at mine theirs more) (sym first)
    ∙ compared-with c.args.self.now.image.now c.args.other.now.image.now changes more c.requires (from-first c.args.self.now.image.now c.args.self.now.rising)
