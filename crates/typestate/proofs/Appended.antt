-- Loops that append what each turn tells or finds, or look whether some of it passes.
use Rattle.std.proofs.Common.{ℕ, ◌≡◌, ◌∙◌, ◌+◌, ◌<◌, ◌≤◌, ◌||◌, ◌&&◌, Bool, true, false, if◌then◌else◌, Option, Some, None, List, [], ◌∷◌, ◌++◌, length, map}
use Rattle.std.proofs.Common.{take, get_or, refl, sym, ap, add-one, append-nil, take-suc, take_all}
use Rattle.std.specs.List.{cons_option, filter, filter_map, flat_map, list_any}
use Rattle.std.specs.Option.{option_to_list}
use Rattle.std.proofs.lemmas.List.{flat_map_more}
use Rattle.model.specs.Acceptance.NotedStates.{NotedSlot}
use Rattle.typestate.specs.declared.log_entries.LogEntry.{LogEntry}
use Rattle.typestate.specs.declared.log_entries.LogEntry.TheVariants.{Sets}
use Rattle.typestate.proofs.Linked.{append-again}

-- what one slot more tells
pub one-more-told : (tell : NotedSlot → List NotedSlot) (slots : List NotedSlot) (i : ℕ) (s : NotedSlot) (old made after : List NotedSlot) → i < length slots →
    s ≡ get_or slots i s
    → made ≡ old ++ flat_map tell (take i slots) → after ≡ made ++ tell s → after ≡ old ++ flat_map tell (take (i + 1) slots)
one-more-told tell slots i s old made after less at before is =
    let longer : take (i + 1) slots ≡ take i slots ++ (s ∷ []) =
    rw (add-one i) (take-suc slots i s less ∙ ap (λ (x : NotedSlot). take i slots ++ (x ∷ [])) (sym at)) in
    is ∙ ap (λ (l : List NotedSlot). l ++ tell s) before ∙ flat_map_more tell old (take i slots) s
    ∙ ap (λ (l : List NotedSlot). old ++ flat_map tell l) (sym longer)

-- before the first slot nothing is told
pub none-told : (tell : NotedSlot → List NotedSlot) (slots old : List NotedSlot) → old ≡ old ++ flat_map tell (take 0 slots)
none-told tell slots old = sym (append-nil old)

-- with no slot left all of them are told
pub all-told : (tell : NotedSlot → List NotedSlot) (slots : List NotedSlot) (i : ℕ) (old made : List NotedSlot) → length slots ≤ i
    → made ≡ old ++ flat_map tell (take i slots) → made ≡ old ++ flat_map tell slots
all-told tell slots i old made none before = before ∙ ap (λ (l : List NotedSlot). old ++ flat_map tell l) (take_all i slots none)

-- what is found for one thing more: with what is found for the rest it is the whole
pub one-more-found : (X : Type 0) (look : X → Option NotedSlot) (x : X) (xs rest : List X) (made after whole : List NotedSlot) → xs ≡ x ∷ rest
    → made ++ filter_map look xs ≡ whole → after ≡ made ++ option_to_list (look x) → after ++ filter_map look rest ≡ whole
one-more-found X look x xs rest made after whole steps before is =
    ap (λ (l : List NotedSlot). l ++ filter_map look rest) is
    ∙ append-again made (option_to_list (look x)) (filter_map look rest)
    ∙ ap (λ (l : List NotedSlot). made ++ l) (first (look x) (filter_map look rest))
    ∙ sym (ap (λ (l : List X). made ++ filter_map look l) steps) ∙ before
  where
    first : (o : Option NotedSlot) (l : List NotedSlot) → option_to_list o ++ l ≡ cons_option o l
    first None l = refl
    first (Some s) l = refl

-- whether one of two lists passes
any-joined : (test : NotedSlot → Bool) (xs ys : List NotedSlot) → list_any test (xs ++ ys) ≡ (list_any test xs || list_any test ys)
any-joined test [] ys = refl
any-joined test (x ∷ xs) ys = ap (λ b. test x || b) (any-joined test xs ys) ∙ or-again (test x) (list_any test xs) (list_any test ys)
  where
    or-again : (a b c : Bool) → (a || (b || c)) ≡ ((a || b) || c)
    or-again true b c = refl
    or-again false b c = refl

both-tests : (test other : NotedSlot → Bool) (x : NotedSlot) (rest : List NotedSlot) →
    list_any other (filter test (x ∷ rest)) ≡ ((test x && other x) || list_any other (filter test rest))
both-tests test other x rest = elim (test x) as (λ b. list_any other (if b then x ∷ filter test rest else filter test rest)
    ≡ ((b && other x) || list_any other (filter test rest))) [ true ↦ refl | false ↦ refl ]

-- what is listed for one thing more: with what is listed for the rest it is the whole
pub one-more-listed : (X : Type 0) (tell : X → List NotedSlot) (x : X) (xs rest : List X) (made after whole : List NotedSlot) → xs ≡ x ∷ rest
    → made ++ flat_map tell xs ≡ whole → after ≡ made ++ tell x → after ++ flat_map tell rest ≡ whole
one-more-listed X tell x xs rest made after whole steps before is =
    ap (λ (l : List NotedSlot). l ++ flat_map tell rest) is
    ∙ append-again made (tell x) (flat_map tell rest)
    ∙ sym (ap (λ (l : List X). made ++ flat_map tell l) steps) ∙ before

-- where none of what is listed for the first thing passes, what is listed for the rest decides
pub later-passes : (X : Type 0) (tell : X → List NotedSlot) (test : NotedSlot → Bool) (x : X) (xs rest : List X) (whole : Bool) → xs ≡ x ∷ rest
    → list_any test (flat_map tell xs) ≡ whole → list_any test (tell x) ≡ false → list_any test (flat_map tell rest) ≡ whole
later-passes X tell test x xs rest whole steps before off =
    sym (any-joined test (tell x) (flat_map tell rest) ∙ ap (λ b. b || list_any test (flat_map tell rest)) off)
    ∙ sym (ap (λ (l : List X). list_any test (flat_map tell l)) steps) ∙ before

-- where some of it passes, that is the answer
pub first-passes : (X : Type 0) (tell : X → List NotedSlot) (test : NotedSlot → Bool) (x : X) (xs rest : List X) (whole : Bool) → xs ≡ x ∷ rest
    → list_any test (flat_map tell xs) ≡ whole → list_any test (tell x) ≡ true → whole ≡ true
first-passes X tell test x xs rest whole steps before on =
    sym before ∙ ap (λ (l : List X). list_any test (flat_map tell l)) steps
    ∙ any-joined test (tell x) (flat_map tell rest) ∙ ap (λ b. b || list_any test (flat_map tell rest)) on

-- ---- what passes a test, one after another

-- one more that passes or not: with what passes of the rest it is the whole
pub one-more-kept : (test : NotedSlot → Bool) (x : NotedSlot) (xs rest made after whole : List NotedSlot) → xs ≡ x ∷ rest → made ++ filter test xs ≡ whole
    → after ≡ made ++ (if test x then x ∷ [] else []) → after ++ filter test rest ≡ whole
one-more-kept test x xs rest made after whole steps before is =
    ap (λ (l : List NotedSlot). l ++ filter test rest) is
    ∙ append-again made (if test x then x ∷ [] else []) (filter test rest)
    ∙ ap (λ (l : List NotedSlot). made ++ l) (first (test x))
    ∙ sym (ap (λ (l : List NotedSlot). made ++ filter test l) steps) ∙ before
  where
    first : (b : Bool) → (if b then x ∷ [] else []) ++ filter test rest ≡ (if b then x ∷ filter test rest else filter test rest)
    first true = refl
    first false = refl

-- where the first one does not pass, the rest decides
pub one-left-out : (test : NotedSlot → Bool) (x : NotedSlot) (xs rest whole : List NotedSlot) → xs ≡ x ∷ rest → filter test xs ≡ whole → test x ≡ false →
    filter test rest ≡ whole
one-left-out test x xs rest whole steps before off =
    sym (ap (λ b. if b then x ∷ filter test rest else filter test rest) off) ∙ sym (ap (filter test) steps) ∙ before

-- where the first one does not pass both tests, the rest decides
pub later-passes-both : (test other : NotedSlot → Bool) (x : NotedSlot) (xs rest : List NotedSlot) (whole : Bool) → xs ≡ x ∷ rest
    → list_any other (filter test xs) ≡ whole → (test x && other x) ≡ false → list_any other (filter test rest) ≡ whole
later-passes-both test other x xs rest whole steps before off =
    sym (both-tests test other x rest ∙ ap (λ b. b || list_any other (filter test rest)) off)
    ∙ sym (ap (λ (l : List NotedSlot). list_any other (filter test l)) steps) ∙ before

-- where it passes both, that is the answer
pub first-passes-both : (test other : NotedSlot → Bool) (x : NotedSlot) (xs rest : List NotedSlot) (whole : Bool) → xs ≡ x ∷ rest
    → list_any other (filter test xs) ≡ whole → (test x && other x) ≡ true → whole ≡ true
first-passes-both test other x xs rest whole steps before on =
    sym before ∙ ap (λ (l : List NotedSlot). list_any other (filter test l)) steps
    ∙ both-tests test other x rest ∙ ap (λ b. b || list_any other (filter test rest)) on

-- ---- entries of a log

map-more : (f : NotedSlot → LogEntry) (xs : List NotedSlot) (s : NotedSlot) → map f (xs ++ s ∷ []) ≡ map f xs ++ f s ∷ []
map-more f [] s = refl
map-more f (x ∷ xs) s = ap (λ (l : List LogEntry). f x ∷ l) (map-more f xs s)

entries-again : (xs ys zs : List LogEntry) → (xs ++ ys) ++ zs ≡ xs ++ (ys ++ zs)
entries-again [] ys zs = refl
entries-again (x ∷ xs) ys zs = ap (λ (l : List LogEntry). x ∷ l) (entries-again xs ys zs)

-- with the entry for one slot more
pub one-more-entry : (f : NotedSlot → LogEntry) (slots : List NotedSlot) (i : ℕ) (s : NotedSlot) (old made after : List LogEntry) → i < length slots →
    s ≡ get_or slots i s
    → made ≡ old ++ map f (take i slots) → after ≡ made ++ f s ∷ [] → after ≡ old ++ map f (take (i + 1) slots)
one-more-entry f slots i s old made after less at before is =
    let longer : take (i + 1) slots ≡ take i slots ++ (s ∷ []) =
    rw (add-one i) (take-suc slots i s less ∙ ap (λ (x : NotedSlot). take i slots ++ (x ∷ [])) (sym at)) in
    is ∙ ap (λ (l : List LogEntry). l ++ f s ∷ []) before ∙ entries-again old (map f (take i slots)) (f s ∷ [])
    ∙ ap (λ (l : List LogEntry). old ++ l) (sym (map-more f (take i slots) s)) ∙ ap (λ (l : List NotedSlot). old ++ map f l) (sym longer)

pub no-entry : (f : NotedSlot → LogEntry) (slots : List NotedSlot) (old : List LogEntry) → old ≡ old ++ map f (take 0 slots)
no-entry f slots old = sym (append-nil old)

pub all-entries : (f : NotedSlot → LogEntry) (slots : List NotedSlot) (i : ℕ) (old made : List LogEntry) → length slots ≤ i → made ≡ old
    ++ map f (take i slots) → made ≡ old ++ map f slots
all-entries f slots i old made none before = before ∙ ap (λ (l : List NotedSlot). old ++ map f l) (take_all i slots none)

pub sets-of : (f : NotedSlot → NotedSlot) (slots : List NotedSlot) → map (λ s. Sets (f s)) slots ≡ map (λ (s : NotedSlot). Sets s) (map f slots)
sets-of f [] = refl
sets-of f (s ∷ rest) = ap (λ (l : List LogEntry). Sets (f s) ∷ l) (sets-of f rest)
