-- Parts of a log, where it grows.
use Rattle.std.proofs.Common.{ℕ, ◌≡◌, ◌∙◌, ◌+◌, ◌-◌, ◌++◌, List, drop, length, take, sym, ap, arith}
use Rattle.std.proofs.lemmas.List.{drop-append-le, drop-drop, length-append, length-drop, take-append-le, take_all}
use Rattle.std.proofs.lemmas.List.Sums.{fold-append}
use Rattle.std.proofs.Math.Seq.{drop-append_seam, take-add}
use Rattle.model.specs.Acceptance.NotedStates.{NotedSlot}
use Rattle.typestate.specs.declared.log_entries.LogEntry.{LogEntry}
use Rattle.typestate.specs.declared.logs.Part.{Part}
use Rattle.typestate.specs.Differences.{changed}
use Rattle.typestate.specs.Logs.{Holds, IsNext, KeepsParts, part_of}
use Rattle.typestate.specs.Orders.{Rise}
use Rattle.typestate.specs.Replays.{replayed, with_entry}
use Rattle.typestate.specs.Unlinked.{AreUnlinked}

-- a part of a log that grows is still there
pub keeps : (old more : List LogEntry) → KeepsParts old (old ++ more)
keeps old more part held =
    let long = length-append old more in
    let left = length-drop part.first old in (
      (held.0, omega (arith, held.1, long)),
      ap (take (part.end - part.first)) (drop-append-le part.first old more (omega (arith, held.0, held.1)))
          ∙ take-append-le (part.end - part.first) (drop part.first old) more (omega (arith, held.0, held.1, left)),
    )

-- what is added is the part behind what was there
pub added : (old more : List LogEntry) (part : Part) → part.first ≡ length old → part.end ≡ length (old ++ more)
    → Holds (old ++ more) part × (part_of (old ++ more) part ≡ more)
added old more part first end =
    let long = length-append old more in (
      (omega (arith, first, end, long), omega (arith, end)),
      ap (λ (n : ℕ). take (part.end - n) (drop n (old ++ more))) first ∙ ap (take (part.end - length old)) (drop-append_seam old more)
          ∙ take_all (part.end - length old) more (omega (arith, end, long)),
    )

-- the part that stands last, with what is added to it
pub grown-part : (old more new : List LogEntry) (part longer : Part) → new ≡ old ++ more → Holds old part → part.end ≡ length old
    → longer.first ≡ part.first → longer.end ≡ length new → Holds new longer × (part_of new longer ≡ part_of old part ++ more)
grown-part old more new part longer grown held last first end =
    let long = ap (λ (l : List LogEntry). length l) grown ∙ length-append old more in
    let left = length-drop part.first old in
    let behind = length-append (drop part.first old) more in
    let whole : part_of old part ≡ drop part.first old = take_all (part.end - part.first) (drop part.first old) (omega (arith, held.0, last, left)) in
    let same : part_of new longer ≡ part_of old part ++ more =
    ap (λ (l : List LogEntry). part_of l longer) grown
    ∙ ap (λ (n : ℕ). take (longer.end - n) (drop n (old ++ more))) first
    ∙ ap (take (longer.end - part.first)) (drop-append-le part.first old more (omega (arith, held.0, held.1)))
    ∙ take_all (longer.end - part.first) (drop part.first old ++ more) (omega (arith, end, long, left, behind, held.0, held.1))
    ∙ ap (λ (l : List LogEntry). l ++ more) (sym whole) in
    ((omega (arith, first, end, long, held.0, held.1), omega (arith, end)), same)

-- a part that begins with another one has what is behind that
pub next-part : (log : List LogEntry) (shorter longer : Part) → Holds log shorter → Holds log longer → IsNext shorter longer
    → part_of log longer ≡ part_of log shorter ++ take (longer.end - shorter.end) (drop shorter.end log)
next-part log shorter longer held more next =
    let first : longer.first ≡ shorter.first = sym next.0 in
    ap (λ (n : ℕ). take (longer.end - n) (drop n log)) first
    ∙ ap (λ (n : ℕ). take n (drop shorter.first log)) (let split : longer.end - shorter.first ≡ (shorter.end - shorter.first) + (longer.end - shorter.end) =
    omega (arith, held.0, next.1) in split)
    ∙ take-add (shorter.end - shorter.first) (longer.end - shorter.end) (drop shorter.first log)
    ∙ ap (λ (l : List LogEntry). part_of log shorter ++ take (longer.end - shorter.end) l)
    (drop-drop (shorter.end - shorter.first) shorter.first log
    ∙ ap (λ (n : ℕ). drop n log) (let whole : shorter.first + (shorter.end - shorter.first) ≡ shorter.end = omega (arith, held.0) in whole))

-- changes that are shown, with the entries behind them
pub next-changes : (log : List LogEntry) (shown more : List NotedSlot) (shorter longer : Part) → Holds log shorter → Holds log longer → IsNext shorter longer
    → ((slots : List NotedSlot) → Rise slots → AreUnlinked slots → changed slots shown ≡ replayed slots (part_of log shorter))
    → ((slots : List NotedSlot) → Rise slots → AreUnlinked slots →
    changed slots more ≡ replayed (changed slots shown) (take (longer.end - shorter.end) (drop shorter.end log)))
    → (slots : List NotedSlot) → Rise slots → AreUnlinked slots → changed slots more ≡ replayed slots (part_of log longer)
next-changes log shown more shorter longer held after next same put slots rises unlinked =
    let made = take (longer.end - shorter.end) (drop shorter.end log) in
    put slots rises unlinked
    ∙ ap (λ (all : List NotedSlot). replayed all made) (same slots rises unlinked)
    ∙ sym (fold-append with_entry slots (part_of log shorter) made)
    ∙ ap (replayed slots) (sym (next-part log shorter longer held after next))
