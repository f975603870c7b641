-- What the checks answer is what the definition gives.
use Rattle.std.proofs.Common.{◌∙◌, ◌||◌, sym, ap}
use Rattle.model.specs.Capabilities.Rights.{may_execute, may_read}
use Rattle.model.specs.declared.rights.Rights.{Rights}
use Rattle.vspace.proofs.Outcomes.{gives-frame, gives-no_place, gives-no_rights}
use Rattle.vspace.proofs.frames.mapping_for.Goals as goal

pub returns-in-Err : goal.returns-in-Err
returns-in-Err g c = record {
  answer = gives-no_place (g.S.SlotMap.slots c.args.store.now) c.args.cspace c.args.frame.slot c.args.frame.offset c.args.frame.rights c.args.frame.mapping
      c.args.root c.args.address c.args.rights c.in_ok-root.root c.in_ok-page.page _ (sym c.is_some.ensures ∙ c.if-is_some.false)
      (sym c.in_ok-root.ensures.value) (sym c.in_ok-page.ensures.value) c.in-Err.ensures.answer;
}

pub returns-then-not-may_be_mapped : goal.returns-then-not-may_be_mapped
returns-then-not-may_be_mapped g c =
    let denied = sym (ap (λ (k : Rights). may_read k || may_execute k) c.mapping_rights-rights.ensures.value) ∙ sym c.may_be_mapped.ensures
    ∙ c.if-not-may_be_mapped.true in
    record {
      answer = gives-no_rights (g.S.SlotMap.slots c.args.store.now) c.args.cspace c.args.frame.slot c.args.frame.offset c.args.frame.rights c.args.frame.mapping
          c.args.root c.args.address c.args.rights c.in_ok-root.root c.in_ok-page.page c.in-Ok.place (sym c.is_some.ensures ∙ c.if-is_some.false)
          (sym c.in_ok-root.ensures.value) (sym c.in_ok-page.ensures.value) c.in-Ok.ensures.answer denied;
    }

pub returns : goal.returns
returns g c = record {
  answer = gives-frame (g.S.SlotMap.slots c.args.store.now) (g.S.SlotStore.memory c.args.store.now) c.args.cspace c.args.frame.slot c.args.frame.offset
      c.args.frame.rights c.args.frame.mapping c.args.root c.args.address c.args.rights c.in_ok-root.root c.in_ok-page.page c.in-Ok.place
      c.mapping_rights-rights.result c.requires.agree (sym c.is_some.ensures ∙ c.if-is_some.false) (sym c.in_ok-root.ensures.value) c.in_ok-root.ensures.held
      (sym c.in_ok-page.ensures.value) c.in_ok-page.ensures.near c.in-Ok.ensures.answer c.mapping_rights-rights.ensures.value
      c.mapping_rights-rights.ensures.kinds (sym c.may_be_mapped.ensures ∙ c.if-not-may_be_mapped.false);
}
