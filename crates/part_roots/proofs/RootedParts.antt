-- Parts with roots, where the log or the states grow.
use Rattle.std.proofs.Common.{ℕ, ◌≡◌, ◌≢◌, ◌∙◌, ◌+◌, ◌-◌, ◌*◌, ◌^◌, ◌<◌, ◌++◌, ◌∷◌, [], Bool, true, false, nat_lt, if◌then◌else◌, List, Option, None, drop}
use Rattle.std.proofs.Common.{Some, length, take, refl, sym, ap, subst, arith}
use Rattle.std.specs.Option.{option_map_or}
use Rattle.std.specs.List.{All}
use Rattle.std.specs.Prelude.{slice_index_or}
use Rattle.std.proofs.lemmas.List.Elements.{All-push}
use Rattle.model.specs.Acceptance.NotedStates.{NotedSlot}
use Rattle.part_roots.specs.Held.{SaysBy, SaysWith, below_all, held_by}
use Rattle.part_roots.specs.Looks.{Says, name_of, said_by, slot_named}
use Rattle.part_roots.specs.Rooted.{AreIn, AreRooted, IsRooted, LeaveSame}
use Rattle.part_roots.specs.declared.bases.Draft.{Draft}
use Rattle.part_roots.specs.declared.bases.Root.{Root}
use Rattle.part_roots.specs.declared.part_roots.PartRoots.{PartRoots}
use Rattle.part_roots.specs.declared.part_roots.RootedPart.{RootedPart}
use Rattle.part_roots.proofs.HeldPuts.{held_stays, keeps_both, made_held, with_stays}
use Rattle.part_roots.proofs.SameLooks.{said_same}
use Rattle.shared_states.specs.States.{KeepsTrees, at_number, in_puts}
use Rattle.shared_states.specs.declared.entries.Entry.{Entry}
use Rattle.typestate.proofs.Laws.{next-part, replayed-more}
use Rattle.typestate.specs.Logs.{Holds, IsNext, KeepsParts, part_of}
use Rattle.typestate.specs.Orders.{Rise}
use Rattle.typestate.specs.Unlinked.{AreUnlinked}
use Rattle.typestate.specs.declared.logs.Part.{Part}
use Rattle.typestate.specs.Replays.{replayed}
use Rattle.typestate.specs.declared.log_entries.LogEntry.{LogEntry}

-- what holds the same says the same
pub says_same : (h1 n1 p1 h2 n2 p2 : ℕ → Option ℕ) (image slots : List NotedSlot) → ((n : ℕ) → h1 n ≡ h2 n) → ((n : ℕ) → n1 n ≡ n2 n)
    → ((n : ℕ) → p1 n ≡ p2 n) → Says h1 n1 p1 image slots → Says h2 n2 p2 image slots
says_same h1 n1 p1 h2 n2 p2 image slots a b c says =
    let first : h1 ≡ h2 = λ i n. a n i in
    let second : n1 ≡ n2 = λ i n. b n i in
    let third : p1 ≡ p2 = λ i n. c n i in
    subst (λ (p : ℕ → Option ℕ). Says h2 n2 p image slots) third
    (subst (λ (n : ℕ → Option ℕ). Says h2 n p1 image slots) second (subst (λ (h : ℕ → Option ℕ). Says h n1 p1 image slots) first says))

pub part_grown : (entries : List Entry) (image : List NotedSlot) (old new : List LogEntry) (rooted : RootedPart) → KeepsParts old new
    → IsRooted entries image old rooted → IsRooted entries image new rooted
part_grown entries image old new rooted keeps is = record {
  held = (keeps rooted.part is.held).0;
  within = is.within;
  says = subst (λ (l : List LogEntry). SaysBy entries rooted.root image (replayed image l)) (sym (keeps rooted.part is.held).1) is.says;
}

-- where the log grows
pub rooted-grown : (image : List NotedSlot) (old new : List LogEntry) (roots : PartRoots) → KeepsParts old new → AreRooted image old roots
    → AreRooted image new roots
rooted-grown image old new roots keeps all = λ k d below. part_grown roots.states image old new (slice_index_or roots.parts.items k d) keeps (all k d below)

-- where states are made
pub part_stays : (old new : List Entry) (image : List NotedSlot) (log : List LogEntry) (rooted : RootedPart) → KeepsTrees old new
    → IsRooted old image log rooted → IsRooted new image log rooted
part_stays old new image log rooted kept is =
    let longer = kept.longer in
    let slots = is.within.slots in
    let names = is.within.names in
    let parents = is.within.parents in
    record {
      held = is.held;
      within = record { slots = omega (arith, slots, longer); names = omega (arith, names, longer); parents = omega (arith, parents, longer) };
      says = says_same _ _ _ _ _ _ image (replayed image (part_of log rooted.part)) (λ n. sym (held_stays old new rooted.root.slots kept slots n))
          (λ n. sym (held_stays old new rooted.root.names kept names n)) (λ n. sym (held_stays old new rooted.root.parents kept parents n)) is.says;
    }

pub rooted_stays : (old new : List Entry) (image : List NotedSlot) (log : List LogEntry) (parts : List RootedPart) → KeepsTrees old new
    → All (IsRooted old image log) parts → All (IsRooted new image log) parts
rooted_stays old new image log parts kept all = λ k d below. part_stays old new image log (slice_index_or parts k d) kept (all k d below)

-- ---- a part with a root after another one

either : (b : Bool) (o : Option ℕ) → (if b then o else o) ≡ o
either true o = refl
either false o = refl

below_none : (key : ℕ) → below_all key None ≡ None
unfolding below_all
below_none key = either (nat_lt key (2 ^ 63)) None

nothing_says : (held names parents : ℕ → Option ℕ) (image : List NotedSlot) → ((n : ℕ) → held n ≡ None) → ((n : ℕ) → names n ≡ None)
    → Says held names parents image image
nothing_says held names parents image none unnamed = record {
  looks = λ n. sym (ap (λ w. said_by (slot_named names) image n w (held (2 * n + 1))) (none (2 * n)));
  names_back = λ n. (slot_own (name_of names n) ∙ name_own n, name_own (slot_named names n) ∙ slot_own n);
  noted = λ n name is. absurd (let clash : None ≡ Some name = sym (none (2 * n + 1)) ∙ is in cc);
} where
  slot_own : (x : ℕ) → slot_named names x ≡ x
  slot_own x = ap (λ (o : Option ℕ). option_map_or (λ (m : ℕ). m) o x) (unnamed (2 * x))

  name_own : (x : ℕ) → name_of names x ≡ x
  name_own x = ap (λ (o : Option ℕ). option_map_or (λ (m : ℕ). m) o x) (unnamed (2 * x + 1))

-- the empty part leaves the image's slots
pub empty_rooted : (entries : List Entry) (image : List NotedSlot) (log : List LogEntry) (part : Part) (root : Root) → Holds log part → AreIn entries root
    → ((key : ℕ) → at_number entries root.slots key ≡ None) → ((key : ℕ) → at_number entries root.names key ≡ None)
    → IsRooted entries image log (let r : RootedPart = record { part = record { first = part.first; end = part.first }; root = root } in r)
empty_rooted entries image log part root held inside none unnamed = record {
  held = let least = held.0 in let most = held.1 in (omega arith, omega (arith, least, most));
  within = inside;
  says =
      let nothing : part.first - part.first ≡ 0 = omega arith in
      subst (λ (n : ℕ). SaysBy entries root image (replayed image (take n (drop part.first log)))) (sym nothing)
      (nothing_says (held_by entries root.slots) (held_by entries root.names) (held_by entries root.parents) image
      (λ n. ap (below_all n) (none n) ∙ below_none n) (λ n. ap (below_all n) (unnamed n) ∙ below_none n));
}

-- a part that goes on from one with a root
pub next_rooted : (old new : List Entry) (image listed : List NotedSlot) (log : List LogEntry) (start : RootedPart) (part : Part) (entries : List LogEntry)
    (root : Root) → listed ≡ image → AreUnlinked image → Holds log part → IsNext start.part part → IsRooted old image log start
    → entries ≡ part_of log (let rest : Part = record { first = start.part.end; end = part.end } in rest) → AreIn new root
    → ((slots : List NotedSlot) → AreUnlinked listed → SaysBy old start.root listed slots → SaysBy new root listed (replayed slots entries))
    → IsRooted new image log (let r : RootedPart = record { part = part; root = root } in r)
next_rooted old new image listed log start part entries root same unlinked held next is are inside says = record {
  held = held;
  within = inside;
  says =
      let before = part_of log start.part in
      let rest = take (part.end - start.part.end) (drop start.part.end log) in
      let made : SaysBy new root image (replayed (replayed image before) entries) =
      subst (λ (i : List NotedSlot). (slots : List NotedSlot) → AreUnlinked i → SaysBy old start.root i slots → SaysBy new root i (replayed slots entries))
      same says (replayed image before) unlinked is.says in
      subst (λ (l : List NotedSlot). SaysBy new root image l)
      (ap (replayed (replayed image before)) are ∙ sym (replayed-more before rest image)
      ∙ ap (replayed image) (sym (next-part log start.part part is.held held next)))
      made;
}

-- the root that a draft makes: three states, one after another
pub made_says : (old mid next new : List Entry) (root r : Root) (draft : Draft) (image slots : List NotedSlot) → KeepsTrees old mid → KeepsTrees mid next
    → KeepsTrees next new → AreIn old root → r.slots < length mid → r.names < length next
    → ((key : ℕ) → key < 2 ^ 63 → at_number mid r.slots key ≡ in_puts draft.slots key (at_number old root.slots key))
    → ((key : ℕ) → key < 2 ^ 63 → at_number next r.names key ≡ in_puts draft.names key (at_number mid root.names key))
    → ((key : ℕ) → key < 2 ^ 63 → at_number new r.parents key ≡ in_puts draft.parents key (at_number next root.parents key))
    → SaysWith old root draft image slots → SaysBy new r image slots
made_says old mid next new root r draft image slots first second third within is_slots is_names slots_made names_made parents_made says =
    let both = keeps_both old mid next first second in
    let later = keeps_both mid next new second third in
    says_same _ _ _ _ _ _ image slots
    (λ n. sym (held_stays mid new r.slots later is_slots n ∙ made_held old mid root.slots r.slots draft.slots slots_made n))
    (λ n. sym (held_stays next new r.names third is_names n ∙ made_held mid next root.names r.names draft.names names_made n
    ∙ with_stays old mid root.names draft.names first within.names n))
    (λ n. sym (made_held next new root.parents r.parents draft.parents parents_made n ∙ with_stays old next root.parents draft.parents both within.parents n))
    says

-- one more part with a root
pub rooted_more : (entries : List Entry) (image : List NotedSlot) (log : List LogEntry) (parts more : List RootedPart) (rooted : RootedPart)
    → more ≡ parts ++ rooted ∷ [] → All (IsRooted entries image log) parts → IsRooted entries image log rooted → All (IsRooted entries image log) more
rooted_more entries image log parts more rooted is all one =
    subst (λ (l : List RootedPart). All (IsRooted entries image log) l) (sym is) (All-push (IsRooted entries image log) parts rooted all one)

-- parts with the same root leave the same slots
pub same_root : (old new : List Entry) (image : List NotedSlot) (log : List LogEntry) (one other : RootedPart) → Rise image → new ≡ old
    → ((key : ℕ) → at_number new one.root.slots key ≡ at_number new other.root.slots key)
    → ((key : ℕ) → at_number old one.root.parents key ≢ None → at_number old one.root.names key ≡ at_number old other.root.names key)
    → IsRooted old image log one → IsRooted old image log other → LeaveSame image log one.part other.part
same_root old new image log one other rises kept same agree mine theirs =
    said_same image (part_of log one.part) (part_of log other.part) (held_by old one.root.slots) (held_by old one.root.names) (held_by old one.root.parents)
    (held_by old other.root.slots) (held_by old other.root.names) (held_by old other.root.parents) rises
    (λ n. ap (below_all n) (subst (λ (e : List Entry). at_number e one.root.slots n ≡ at_number e other.root.slots n) kept (same n)))
    (λ n some. ap (below_all n) (agree n (λ none. some (ap (below_all n) none ∙ below_none n)))) mine.says theirs.says
