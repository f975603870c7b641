-- Each entry has the size of its kind.
use Rattle.std.proofs.Common.{ℕ, ◌≡◌, ◌+◌, ◌*◌, ◌<◌, List, Ok, Err, length, slice_get, sym, ap, subst, ◌∙◌, Some, arith}
use Rattle.model.specs.Images.Format.{many_read}
use Rattle.image_reading.proofs.EntryLists.{all_read, ends, entry_found, list_length, read_is, read_not_refused}
use Rattle.image_reading.proofs.entries.Section.entry.Goals as goal

pub item_offset-at-requires : goal.item_offset-at-requires
item_offset-at-requires g c =
    let r = c.self.inside in
    let format = g.E.Listed.format r.counts in
    let read = ends (many_read format g.E.Listed.next r.least r.left r.bytes.now r.at) c.self.invariant in
    let all = all_read (many_read format g.E.Listed.next r.least r.left r.bytes.now r.at) read in
    let count = list_length format g.E.Listed.next r.least r.left r.bytes.now r.at read in
    let inside : c.args.number < r.left = omega (arith, c.requires, count, ap (λ (l : List g.row.E.Denot). length l) c.self.view_is) in
    let f = entry_found format g.E.Listed.next c.size.result (c.size.ensures r.counts) r.left c.args.number r.least r.bytes.now r.at _ all.0 inside all.1 in
    omega (arith, f.within)

pub unreachable-requires : goal.unreachable-requires
unreachable-requires g c =
    let r = c.self.inside in
    let format = g.E.Listed.format r.counts in
    let read = ends (many_read format g.E.Listed.next r.least r.left r.bytes.now r.at) c.self.invariant in
    let all = all_read (many_read format g.E.Listed.next r.least r.left r.bytes.now r.at) read in
    let count = list_length format g.E.Listed.next r.least r.left r.bytes.now r.at read in
    let inside : c.args.number < r.left = omega (arith, c.requires, count, ap (λ (l : List g.row.E.Denot). length l) c.self.view_is) in
    let f = entry_found format g.E.Listed.next c.size.result (c.size.ensures r.counts) r.left c.args.number r.least r.bytes.now r.at _ all.0 inside all.1 in
    let e = subst (λ (k : ℕ). Err c.in-Err.field-0 ≡ (format 0).reads r.bytes.now k) c.item_offset-at.ensures c.in-Err.ensures.reads in
    read_not_refused (format 0) r.bytes.now (r.at + c.size.result * c.args.number) f.entry _ c.in-Err.field-0 f.reads e

pub returns : goal.returns
returns g c =
    let r = c.self.inside in
    let format = g.E.Listed.format r.counts in
    let read = ends (many_read format g.E.Listed.next r.least r.left r.bytes.now r.at) c.self.invariant in
    let all = all_read (many_read format g.E.Listed.next r.least r.left r.bytes.now r.at) read in
    let count = list_length format g.E.Listed.next r.least r.left r.bytes.now r.at read in
    let inside : c.args.number < r.left = omega (arith, c.requires, count, ap (λ (l : List g.row.E.Denot). length l) c.self.view_is) in
    let f = entry_found format g.E.Listed.next c.size.result (c.size.ensures r.counts) r.left c.args.number r.least r.bytes.now r.at _ all.0 inside all.1 in
    let e = subst (λ (k : ℕ). Ok (c.in-Ok.entry, c.in-Ok.field-0-1) ≡ (format 0).reads r.bytes.now k) c.item_offset-at.ensures c.in-Ok.ensures.reads in
    ap (λ (l : List g.row.E.Denot). slice_get l c.args.number) (sym c.self.view_is)
    ∙ f.value ∙ ap (λ (x : g.row.E.Denot). Some x)
    (sym (read_is (format 0) r.bytes.now (r.at + c.size.result * c.args.number) f.entry _ (c.in-Ok.entry, c.in-Ok.field-0-1) f.reads e))
