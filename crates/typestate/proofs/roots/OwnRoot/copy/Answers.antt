-- By the ends, and then by what is put.
use Rattle.std.proofs.Common.{◌∙◌, Ok, Err, ap, subst, sym}
use Rattle.model.specs.Acceptance.CallRules.{may_travel}
use Rattle.model.specs.Acceptance.NotedKernel.{noted_root, noted_slots}
use Rattle.model.specs.declared.capabilities.Cap.{Cap}
use Rattle.typestate.specs.CNodeCalls.{NamesEnds, allowed_slots, ends_of, with_child}
use Rattle.typestate.specs.Differences.{slots_of}
use Rattle.typestate.proofs.GivenFacts.{apart-of}
use Rattle.typestate.proofs.CopyCalls.{copy-goes, copy-refused, ends-err, ends-ok}
use Rattle.typestate.proofs.roots.OwnRoot.copy.Goals as goal

pub returns-in-Err : goal.returns-in-Err
returns-in-Err c =
    let image = c.args.self.now.own.space.image.now in
    let t = c.args.self.now.own.space.thread.now in
    let slots = slots_of c.args.self.now.own.slots in
    let all = noted_slots image t slots in
    let named = subst (λ (root : Cap). NamesEnds image t all root c.args.source (ends_of all c.args.self.now.root root c.args.destination c.args.source)
    (Err c.in-Err.error)) c.args.self.now.own.space.rooted c.in-Err.ensures.value in
    copy-refused image t c.args.at slots c.args.self.now.root c.args.destination c.args.source c.args.rights_word c.in-Err.error
    (ends-err image t all (noted_root image t) c.args.source (ends_of all c.args.self.now.root (noted_root image t) c.args.destination c.args.source)
    c.in-Err.error named)

pub returns : goal.returns
returns c =
    let image = c.args.self.now.own.space.image.now in
    let t = c.args.self.now.own.space.thread.now in
    let slots = slots_of c.args.self.now.own.slots in
    let all = noted_slots image t slots in
    let named = subst (λ (root : Cap). NamesEnds image t all root c.args.source (ends_of all c.args.self.now.root root c.args.destination c.args.source)
    (Ok c.in-Ok.ends)) c.args.self.now.own.space.rooted c.in-Ok.ensures.value in
    let at = ends-ok image t all (noted_root image t) c.args.source (ends_of all c.args.self.now.root (noted_root image t) c.args.destination c.args.source)
    c.in-Ok.ends named in
    copy-goes image t c.args.at slots c.args.self.now.root c.args.destination c.args.source c.args.rights_word at.0 at.1 c.in-Ok.ends at.2 at.3
    ∙ ap (λ made. allowed_slots image t c.args.at (may_travel c.in-Ok.ends.held) (with_child all at.0 at.1 made)) (sym c.copy_of.ensures.value)
    ∙ c.put_copy.ensures image t (noted_root image t) c.args.source at.0 at.1 (apart-of c.args.self.now.own.space) c.args.self.now.own.own at.3
