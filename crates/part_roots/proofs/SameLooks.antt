-- Slots of which a state says the same are the same.
use Rattle.std.proofs.Common.{ℕ, ◌≡◌, ◌≢◌, ◌==◌, ◌+◌, ◌*◌, if◌then◌else◌, ◌∙◌, ◌&&◌, Bool, true, List, [], ◌∷◌, Option, None, Some, option_map, map, refl}
use Rattle.std.proofs.Common.{sym, ap}
use Rattle.std.specs.Prelude.{nat_eq}
use Rattle.std.specs.Option.{option_map_or}
use Rattle.std.proofs.lemmas.Bool.{eq-eqb}
use lib.Pointwise.{pointwise}
use Rattle.model.specs.Acceptance.NotedStates.{NotedSlot, SlotKey, are_same_slots, is_same_parent, number_of, slot_at, with_noted}
use Rattle.model.specs.Capabilities.CapabilityFields.{same_words}
use Rattle.model.specs.Capabilities.CapabilityWords.{words_of}
use Rattle.part_roots.specs.Looks.{Look, Says, look_of, said, said_by, slot_named, words_in}
use Rattle.typestate.specs.Differences.{is_same_held}
use Rattle.typestate.specs.Orders.{Rise}
use Rattle.typestate.specs.Replays.{exchanged, replayed}
use Rattle.typestate.specs.declared.log_entries.LogEntry.{LogEntry}
use Rattle.typestate.specs.declared.log_entries.LogEntry.TheVariants.{Sets, Swaps}
use Rattle.typestate.proofs.Laws.{RiseFrom, found-key, from-first, looks-same, map-rises, noted-rises}

words_same : (words : List ℕ) → pointwise nat_eq words words ≡ true
words_same [] = refl
words_same (w ∷ rest) = ap (λ b. b && pointwise nat_eq rest rest) (eq-eqb w w refl) ∙ words_same rest

parents_same : (p q : Option SlotKey) → option_map number_of p ≡ option_map number_of q → is_same_parent p q ≡ true
parents_same None None same = refl
parents_same None (Some b) same = absurd (let clash : None ≡ Some (number_of b) = same in cc)
parents_same (Some a) None same = absurd (let clash : Some (number_of a) ≡ None = same in cc)
parents_same (Some a) (Some b) same = let is : number_of a ≡ number_of b = cc in eq-eqb (number_of a) (number_of b) is

both_same : (a b c : Bool) → a ≡ true → b ≡ true → c ≡ true → (a && b && c) ≡ true
both_same a b c first second third = ap (λ x. x && b && c) first ∙ ap (λ x. x && c) second ∙ third

abbrev words_seen : Option Look → List ℕ
words_seen o = option_map_or (λ l. l.words) o []

abbrev parent_seen : Option Look → Option ℕ
parent_seen o = option_map_or (λ l. l.parent) o None

-- look-ups that look the same are the same
held_same : (slots others : List NotedSlot) (key : SlotKey) (a b : Option NotedSlot) → slot_at slots key ≡ a → slot_at others key ≡ b
    → option_map look_of a ≡ option_map look_of b → is_same_held a b ≡ true
held_same slots others key None None first second same = refl
held_same slots others key None (Some b) first second same = absurd (let clash : None ≡ Some (look_of b) = same in cc)
held_same slots others key (Some a) None first second same = absurd (let clash : Some (look_of a) ≡ None = same in cc)
held_same slots others key (Some a) (Some b) first second same =
    let keys : number_of a.key ≡ number_of b.key = found-key slots key a first ∙ sym (found-key others key b second) in
    let words : words_of a.capability ≡ words_of b.capability = ap words_seen same in
    let parents : option_map number_of a.parent ≡ option_map number_of b.parent = ap parent_seen same in
    both_same _ _ _ (eq-eqb (number_of a.key) (number_of b.key) keys)
    (ap (λ (w : List ℕ). same_words (words_of a.capability) w) (sym words) ∙ words_same (words_of a.capability)) (parents_same a.parent b.parent parents)

replayed_rises : (entries : List LogEntry) (slots : List NotedSlot) → RiseFrom 0 slots → RiseFrom 0 (replayed slots entries)
replayed_rises [] slots rises = rises
replayed_rises (Sets c ∷ rest) slots rises = replayed_rises rest (with_noted slots c) (noted-rises slots c rises)
replayed_rises (Swaps one other ∷ rest) slots rises =
    replayed_rises rest (map (exchanged one other) slots) (map-rises (exchanged one other) (λ s. refl) slots 0 rises)

named_alike : (image : List NotedSlot) (m : ℕ) (f g : ℕ → ℕ) (words parent : Option ℕ) → ((name : ℕ) → parent ≡ Some name → f name ≡ g name)
    → said_by f image m words parent ≡ said_by g image m words parent
named_alike image m f g None parent alike = refl
named_alike image m f g (Some code) None alike = refl
named_alike image m f g (Some code) (Some name) alike =
    ap (λ k. if code == 0 then None else Some (let l : Look = record { words = words_in code; parent = Some k } in l)) (alike name refl)

-- slots of which states say the same, where names of parents stand for the same
pub said_same : (image : List NotedSlot) (first second : List LogEntry) (h1 n1 p1 h2 n2 p2 : ℕ → Option ℕ) → Rise image → ((n : ℕ) → h1 n ≡ h2 n)
    → ((key : ℕ) → p1 key ≢ None → n1 key ≡ n2 key) → Says h1 n1 p1 image (replayed image first) → Says h2 n2 p2 image (replayed image second)
    → are_same_slots (replayed image first) (replayed image second) ≡ true
said_same image first second h1 n1 p1 h2 n2 p2 rises same agree mine theirs =
    looks-same slots others 0 0 (replayed_rises first image (from-first image rises)) (replayed_rises second image (from-first image rises)) (λ key.
    held_same slots others key (slot_at slots key) (slot_at others key) refl refl
    (mine.looks (number_of key) ∙ said_alike (number_of key) ∙ sym (theirs.looks (number_of key))))
  where
    slots : List NotedSlot
    slots = replayed image first

    others : List NotedSlot
    others = replayed image second

    said_alike : (m : ℕ) → said h1 n1 image m ≡ said h2 n2 image m
    said_alike m =
        named_alike image m (slot_named n1) (slot_named n2) (h1 (2 * m)) (h1 (2 * m + 1))
        (λ name is. ap (λ (o : Option ℕ). option_map_or (λ (k : ℕ). k) o name) (agree (2 * name) (mine.noted m name is)))
        ∙ ap (λ w. said_by (slot_named n2) image m w (h1 (2 * m + 1))) (same (2 * m))
        ∙ ap (said_by (slot_named n2) image m (h2 (2 * m))) (same (2 * m + 1))
