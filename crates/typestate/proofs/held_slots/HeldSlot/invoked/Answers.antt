-- By the kind of the call.
use Rattle.std.proofs.Common.{◌≡◌, ◌∙◌, Bool, false, Option, Result, List, sym, ap, subst}
use Rattle.std.specs.Option.{option_map_or}
use Rattle.model.specs.declared.capabilities.Cap.TheVariants.{Empty, Untyped}
use Rattle.model.specs.declared.refusals.Refusal.{Refusal}
use Rattle.model.specs.Acceptance.NotedStates.{NotedSlot, is_foreign}
use Rattle.model.specs.Acceptance.ThreadRules.{reached}
use Rattle.model.specs.Capabilities.CapabilityWords.{IsCapability}
use Rattle.typestate.specs.CNodeCalls.{cnode_after}
use Rattle.typestate.specs.Differences.{slots_of}
use Rattle.typestate.specs.declared.log_entries.LogEntry.{LogEntry}
use Rattle.typestate.specs.Invocations.{IsCallOn, held_after, made_or_refused}
use Rattle.typestate.specs.SlotChanges.{left_or_refused}
use Rattle.typestate.specs.Spaces.{is_inside}
use Rattle.typestate.proofs.CallsOn.{cnode-anywhere, done-as, no-other-call, pool-is}
use Rattle.typestate.proofs.GivenFacts.{decides-test}
use Rattle.typestate.proofs.HeldCaps.{held-near}
use Rattle.typestate.proofs.SlotMaps.{held-inside, held_at}
use Rattle.typestate.proofs.held_slots.HeldSlot.invoked.Goals as goal

pub invariant_of-pool : goal.invariant_of-pool
invariant_of-pool c =
    let memory = c.in-OnUntyped.memory in
    let pool = pool-is c.args.self.now.held.now.capability memory c.in-OnUntyped.call
    (subst (IsCallOn c.args.self.now.held.now.capability) c.in-OnUntyped.is c.requires.fits) in
    record {
      there = c.args.self.now.there;
      valid = decides-test (Untyped memory.offset memory.bits memory.watermark)
          (subst IsCapability (ap (λ (h : NotedSlot). h.capability) c.held.view_is ∙ pool) c.held.invariant);
      pool = pool;
    }

pub invariant_of-root : goal.invariant_of-root
invariant_of-root c =
    let image = c.args.self.now.own.space.image.now in
    let t = c.args.self.now.own.space.thread.now in
    let slots = slots_of c.args.self.now.own.slots in
    let held = c.args.self.now.held.now in
    let here : held_at slots held.key ≡ held.capability = ap (λ (o : Option NotedSlot). option_map_or (λ s. s.capability) o Empty) c.args.self.now.there in
    record {
      inside = ap (is_inside image t) (ap (λ (h : NotedSlot). h.capability) c.held.view_is ∙ sym here)
          ∙ held-inside image t slots held.key c.args.self.now.own.inside;
      valid = decides-test c.held.inside.capability c.held.invariant;
    }

pub unreachable-requires : goal.unreachable-requires
unreachable-requires c =
    let image = c.args.self.now.own.space.image.now in
    let t = c.args.self.now.own.space.thread.now in
    let slots = slots_of c.args.self.now.own.slots in
    let here : held_at slots c.args.self.now.held.now.key ≡ c.args.self.now.held.now.capability =
    ap (λ (o : Option NotedSlot). option_map_or (λ s. s.capability) o Empty) c.args.self.now.there in
    let near : is_foreign image t (reached image t) c.args.self.now.held.now.capability ≡ false = ap (is_foreign image t (reached image t)) (sym here)
    ∙ held-near image t slots c.args.self.now.held.now.key c.args.self.now.own.inside in
    no-other-call image t (reached image t) c.args.self.now.held.now.capability c.args.call near c.requires.fits c.in-OnThread.is

pub returns-in-OnCNode-clause-made : goal.returns-in-OnCNode-clause-made
returns-in-OnCNode-clause-made c =
    let image = c.args.self.now.own.space.image.now in
    let t = c.args.self.now.own.space.thread.now in
    let slots = slots_of c.args.self.now.own.slots in
    let made : List LogEntry = c.note_left.new.made.items in
    let leaves : Result (List NotedSlot) Refusal → Result Bool Refusal → Type 0 = λ left done. left ≡ made_or_refused slots made done in
    done-as c.note_left.result (leaves (left_or_refused slots c.cnode_call-left.result))
    (leaves (held_after image t c.args.at slots c.args.self.now.held.now c.args.call)) (λ done noted.
    ap (held_after image t c.args.at slots c.args.self.now.held.now) c.in-OnCNode.is
    ∙ cnode-anywhere image t c.args.at slots c.args.self.now.held.now c.in-OnCNode.call
    ∙ ap (λ (h : NotedSlot). cnode_after image t c.args.at slots h.capability c.in-OnCNode.call) (sym c.held.view_is)
    ∙ c.cnode_call-left.ensures ∙ noted) c.note_left.ensures.made

pub returns-in-OnHandler-clause-made : goal.returns-in-OnHandler-clause-made
returns-in-OnHandler-clause-made c =
    let image = c.args.self.now.own.space.image.now in
    let t = c.args.self.now.own.space.thread.now in
    let slots = slots_of c.args.self.now.own.slots in
    let made : List LogEntry = c.note_left-in-OnHandler.new.made.items in
    let leaves : Result (List NotedSlot) Refusal → Result Bool Refusal → Type 0 = λ left done. left ≡ made_or_refused slots made done in
    done-as c.note_left-in-OnHandler.result (leaves (left_or_refused slots c.handler_call-left.result))
    (leaves (held_after image t c.args.at slots c.args.self.now.held.now c.args.call)) (λ done noted.
    ap (held_after image t c.args.at slots c.args.self.now.held.now) c.in-OnHandler.is ∙ c.handler_call-left.ensures c.args.self.now.held.now ∙ noted)
    c.note_left-in-OnHandler.ensures.made
