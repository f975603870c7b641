-- The entry is zero, or the leaf of a frame that is mapped there.
use Rattle.std.proofs.Common.{◌≡◌, ◌∙◌, ◌+◌, ◌*◌, ℕ, List, None, Some, sym, ap, arith}
use Rattle.model.specs.Machine.Sv32.{page_address, place_of}
use Rattle.model.specs.Shared.Bytes.{word_at}
use Rattle.vspace.proofs.RegionEntries.{entry-names, entry-place}
use Rattle.vspace.proofs.regions.frame_in.Goals as goal

pub returns-then-entry-eq0-clause-named : goal.returns-then-entry-eq0-clause-named
returns-then-entry-eq0-clause-named g c = λ maps.
    let is = c.read32-entry.ensures ∙ ap (λ (m : List ℕ). word_at m (c.args.table + 4 * c.args.number)) c.mem.ensures in
    absurd ((entry-names (g.S.SlotMap.slots c.args.store.now) (g.S.SlotStore.memory c.args.store.now) c.requires.agree c.requires.mapped.0 c.args.table
    c.args.region c.requires.mapped.1 c.args.number c.requires.small c.read32-entry.result is maps).0 (omega (arith, c.if-entry-eq0.true)))

pub returns-in_err-frame-clause-named : goal.returns-in_err-frame-clause-named
returns-in_err-frame-clause-named g c = λ maps.
    let is = c.read32-entry.ensures ∙ ap (λ (m : List ℕ). word_at m (c.args.table + 4 * c.args.number)) c.mem.ensures in
    let none : place_of (page_address c.read32-entry.result) ≡ None = sym (c.place_of.ensures ∙ ap place_of c.page_address.ensures.value)
    ∙ c.in_err-frame.was in
    let some : place_of (page_address c.read32-entry.result) ≡ Some maps.frame =
    (entry-names (g.S.SlotMap.slots c.args.store.now) (g.S.SlotStore.memory c.args.store.now) c.requires.agree c.requires.mapped.0 c.args.table
    c.args.region c.requires.mapped.1 c.args.number c.requires.small c.read32-entry.result is maps).1 in
    absurd cc

pub overflow_cast-result : goal.overflow_cast-result
overflow_cast-result g c =
    let is = c.read32-entry.ensures ∙ ap (λ (m : List ℕ). word_at m (c.args.table + 4 * c.args.number)) c.mem.ensures in
    let some : place_of (page_address c.read32-entry.result) ≡ Some c.in_ok-frame.frame = sym (c.place_of.ensures ∙ ap place_of c.page_address.ensures.value)
    ∙ c.in_ok-frame.was in
    omega (
      arith,
      (entry-place (g.S.SlotMap.slots c.args.store.now) (g.S.SlotStore.memory c.args.store.now) c.requires.agree c.requires.mapped.0 c.args.table
          c.args.region c.requires.mapped.1 c.args.number c.requires.small c.read32-entry.result c.in_ok-frame.frame is
          (λ zero. omega (arith, zero, c.if-entry-eq0.false)) some).1,
    )

pub returns-clause-page : goal.returns-clause-page
returns-clause-page g c =
    let is = c.read32-entry.ensures ∙ ap (λ (m : List ℕ). word_at m (c.args.table + 4 * c.args.number)) c.mem.ensures in
    let some : place_of (page_address c.read32-entry.result) ≡ Some c.in_ok-frame.frame = sym (c.place_of.ensures ∙ ap place_of c.page_address.ensures.value)
    ∙ c.in_ok-frame.was in
    entry-place (g.S.SlotMap.slots c.args.store.now) (g.S.SlotStore.memory c.args.store.now) c.requires.agree c.requires.mapped.0 c.args.table c.args.region
    c.requires.mapped.1 c.args.number c.requires.small c.read32-entry.result c.in_ok-frame.frame is (λ zero. omega (arith, zero, c.if-entry-eq0.false)) some

pub returns-clause-named : goal.returns-clause-named
returns-clause-named g c = λ maps.
    let is = c.read32-entry.ensures ∙ ap (λ (m : List ℕ). word_at m (c.args.table + 4 * c.args.number)) c.mem.ensures in
    let some : place_of (page_address c.read32-entry.result) ≡ Some c.in_ok-frame.frame = sym (c.place_of.ensures ∙ ap place_of c.page_address.ensures.value)
    ∙ c.in_ok-frame.was in
    sym some ∙ (entry-names (g.S.SlotMap.slots c.args.store.now) (g.S.SlotStore.memory c.args.store.now) c.requires.agree c.requires.mapped.0 c.args.table
    c.args.region c.requires.mapped.1 c.args.number c.requires.small c.read32-entry.result is maps).1
