-- Lines as listings have them: what each of them means is one entry, one word or one thread more.
use Rattle.std.specs.Prelude.{◌==◌, MatchOption, map, not, is_some, nat_le, nat_lt, slice_get, Result, if◌then◌else◌}
use Rattle.std.proofs.Common.{◌≡◌, ℕ, ◌+◌, ◌-◌, ◌<◌, ◌≤◌, zero, suc, Bool, true, false, List, [], ◌∷◌, ◌++◌, length, Option, Some, None, Ok, Err, ℤ}
use Rattle.std.proofs.Common.{refl, sym, ap, ◌∙◌, arith, append_assoc, length-append, lt-ltb, eq-eqb}
use Rattle.std.specs.List.{insert}
use Rattle.std.specs.Option.{option_map_or}
use Rattle.std.proofs.lemmas.Bool.{le-leb}
use Rattle.std.proofs.lemmas.List.{append-nil, drop_all, length-map, take_all}
use Rattle.model.specs.declared.entries.RangeEntry.{RangeEntry}
use Rattle.model.specs.declared.entries.RegisterEntry.{RegisterEntry}
use Rattle.model.specs.declared.entries.SlotEntry.{SlotEntry}
use Rattle.model.specs.declared.entries.TermEntry.{TermEntry}
use Rattle.model.specs.Images.Image.{StateRecord, Thread, no_buffer, pair_key}
use Rattle.model.specs.Images.Listing.{Text}
use Rattle.asm.specs.declared.labels.Place.{Place}
use Rattle.asm_line.specs.declared.lines.Code.{Code}
use Rattle.asm_line.specs.declared.lines.Code.TheVariants as code
use Rattle.asm_line.specs.declared.lines.Line.{Line}
use Rattle.asm_line.specs.declared.lines.Line.TheVariants as line
use Rattle.asm_line.specs.declared.lines.Parent.{Parent}
use Rattle.asm_line.specs.declared.lines.Parent.TheVariants as parent
use Rattle.asm_line.specs.declared.lines.ThreadLine.{ThreadLine}
use Rattle.asm_line.specs.Lines.{all_terms, all_words, term_of, word}
use Rattle.asm_line.specs.Words.{◌>>=◌, number_of as number_in}
use Rattle.asm.specs.declared.names.Source.{Source}
use Rattle.asm.specs.declared.names.Source.TheVariants.{Object, Handler}
use Rattle.asm.specs.Keys.{has_key, has_room, is_before, is_behind, must, place_among, place_of, sorted_with}
use Rattle.asm.specs.Labels.{FoundLabels, place_named, point_of}
use Rattle.asm.specs.Meaning.{buffered_with, coded_with, inside, may_end, measured_with, noting, parent_known, point_known, ranges_with, record_said}
use Rattle.asm.specs.Meaning.{slots_with, sorted_terms}
use Rattle.asm.specs.Meaning.{terms_said, thread_begins, values_of, with_registers, word_added, word_at, promised_said, words_said}
use Rattle.asm.specs.Names.{HasSource, IsNamed, KnownNames, free, is_taken, line_of_name, number_at, number_known, number_of, source_known, source_of}
use Rattle.asm.specs.Reading.{IsThreadLine, thread_behind}
use Rattle.asm.specs.Sections.{number_or_zero, promised_values, value_of}
use Rattle.asm.specs.Threads.{AreBehind, HasParent, MayAddBuffer, MayAddCode, MayAddMeasure, MayAddRange, MayAddRegister}
use Rattle.asm.specs.Threads.{MayAddSlot, MayBegin, MayEnd, OpenDraft, parent_numbers, plain_word, slot_entry, term_key, term_or_zero, terms_of, thread_begun}
use Rattle.asm.specs.Threads.{with_buffer, with_measure, with_range, with_register, with_slot, with_word}
use Rattle.asm_line.specs.declared.faults.LineFault.{LineFault}
use Rattle.asm_line.specs.declared.faults.LineFault.TheVariants as fault

-- ---- a step of a chain

pub goes : {A B : Type 0} (r : Result A ℕ) (f : A → Result B ℕ) (x : A) (y : Result B ℕ) → r ≡ Ok x → f x ≡ y → (r >>= f) ≡ y
goes r f x y e h = ap (λ s. s >>= f) e ∙ h

pub passes : (test : Bool) (kind : ℕ) → test ≡ true → must test kind ≡ Ok tt
passes test kind e = ap (λ b. must b kind) e

pub passes-not : (test : Bool) (kind : ℕ) → test ≡ false → must (not test) kind ≡ Ok tt
passes-not test kind e = ap (λ b. must (not b) kind) e

-- ---- sections

pub roomy : {E : Type 0} (most : ℕ) (xs : List E) → length xs < most → has_room most xs ≡ Ok tt
roomy most xs small = passes (nat_lt (length xs) most) 4 (lt-ltb (length xs) most small)

beyond : {E : Type 0} (xs : List E) → slice_get xs (length xs) ≡ None
beyond [] = refl
beyond (x ∷ xs) = beyond xs

pub place-last : {E : Type 0} (key_of : E → ℕ) (key : ℕ) (xs : List E) (n : ℕ) → is_before key_of key xs (n - 1) ≡ true → place_among key_of key xs n ≡ n
place-last key_of key xs zero h = refl
place-last key_of key xs (suc n) h =
    let one : suc n - 1 ≡ n = omega arith in
    ap (λ b. if b then suc n else place_among key_of key xs n) (ap (is_before key_of key xs) (sym one) ∙ h)

insert-last : {E : Type 0} (xs : List E) (x : E) → insert xs (length xs) x ≡ xs ++ x ∷ []
insert-last xs x = (λ i. take_all (length xs) xs (omega arith) i ++ x ∷ drop_all (length xs) xs (omega arith) i)

pub sorted-behind : {E : Type 0} (key_of : E → ℕ) (most : ℕ) (x : E) (xs : List E) → is_behind key_of (key_of x) xs ≡ true → length xs < most
    → sorted_with key_of most x xs ≡ Ok (xs ++ x ∷ [])
unfolding sorted_with
sorted-behind key_of most x xs behind small =
    let at : place_of key_of (key_of x) xs ≡ length xs = place-last key_of (key_of x) xs (length xs) behind in
    let free : has_key key_of (key_of x) xs (place_of key_of (key_of x) xs) ≡ false =
    ap (has_key key_of (key_of x) xs) at ∙ ap (λ found. option_map_or (λ entry. key_of entry == key_of x) found false) (beyond xs) in
    goes (has_room most xs) _ tt _ (roomy most xs small)
    (goes (must (not (has_key key_of (key_of x) xs (place_of key_of (key_of x) xs))) 4) _ tt _ (passes-not _ 4 free)
    (ap (λ n. Ok (insert xs n x)) at ∙ ap (λ ys. Ok ys) (insert-last xs x)))

-- ---- names

pub known : (names : List Text) (name : Text) → IsNamed names name → number_known names name ≡ Ok (number_of names name)
unfolding number_known
known names name is = ap number_at is.known

pub unused : (names : KnownNames) (name : Text) → is_taken names name ≡ false → free names name ≡ Ok tt
unused names name e = passes-not (is_taken names name) 3 e

source-by : (names : KnownNames) (name : Text) (o : Option ℕ) → MatchOption o (IsNamed names.objects name) (λ _. Unit {0})
    → ◌≡◌ {A = Result Source ℕ} (elim o [ Some line ↦ Ok (Handler line) | None ↦ number_known names.objects name >>= λ number. Ok (Object number) ])
    (Ok (option_map_or (λ line. Handler line) o (Object (number_of names.objects name))))
source-by names name (Some line) h = refl
source-by names name None h = ap (λ r. r >>= λ number. Ok (Object number)) (known names.objects name h)

pub sourced : (names : KnownNames) (name : Text) → HasSource names name → source_known names name ≡ Ok (source_of names name)
unfolding source_known
sourced names name h = source-by names name (line_of_name names name) h

point-by : (o : Option Place) → is_some o ≡ true → ◌≡◌ {A = Result ℕ ℕ} (elim o [ Some place ↦ Ok place.point | None ↦ Err 2 ])
    (Ok (option_map_or (λ place. place.point) o 0))
point-by (Some place) h = refl
point-by None h = absurd (let no : false ≡ true = h in cc)

pub pointed : (labels : FoundLabels) (name : Text) → is_some (place_named labels name) ≡ true → point_known labels name ≡ Ok (point_of labels name)
unfolding point_known
pointed labels name h = point-by (place_named labels name) h

-- ---- words of a `data` line

value-by : (r : Result ℕ LineFault) (ws : List Text) → (r >>= λ _. all_words ws) ≡ Ok tt → (all_words ws ≡ Ok tt → values_of ws ≡ map value_of ws)
    → elim r [ Ok value ↦ value ∷ values_of ws | Err e ↦ [] ] ≡ number_or_zero r ∷ map value_of ws
value-by (Ok value) ws h rest = ap (λ xs. value ∷ xs) (rest h)
value-by (Err e) ws h rest = absurd (let no : Err e ≡ Ok tt = h in cc)

number-by : (r : Result ℤ LineFault) (ws : List Text) → (r >>= λ number. word number >>= λ _. all_words ws) ≡ Ok tt →
    (all_words ws ≡ Ok tt → values_of ws ≡ map value_of ws)
    → elim (r >>= λ number. word number) [ Ok value ↦ value ∷ values_of ws | Err e ↦ [] ] ≡ number_or_zero (r >>= λ number. word number) ∷ map value_of ws
number-by (Ok z) ws h rest = value-by (word z) ws h rest
number-by (Err e) ws h rest = absurd (let no : Err e ≡ Ok tt = h in cc)

values-all : (words : List Text) → all_words words ≡ Ok tt → values_of words ≡ map value_of words
values-all [] h = refl
values-all (w ∷ ws) h = number-by (number_in w) ws h (values-all ws)

pub words-all : (words : List Text) → all_words words ≡ Ok tt → length words ≤ 1024 → words_said words ≡ Ok (map value_of words)
unfolding words_said
words-all words said short =
    let same = values-all words said in
    let few : length (values_of words) ≤ 1024 = let count : length (values_of words) ≡ length (map value_of words) = ap length same in
    omega (arith, count, length-map words value_of, short) in
    goes (must (nat_le (length (values_of words)) 1024) 4) _ tt _ (passes _ 4 (le-leb _ _ few)) (ap (λ (xs : List ℕ). Ok xs) same)

pub promised-all : (words : List Text) → length (promised_values words) ≤ 8 → promised_said words ≡ Ok (promised_values words)
unfolding promised_said
promised-all words few = goes (must (nat_le (length (promised_values words)) 8) 4) _ tt _ (passes _ 4 (le-leb _ _ few)) refl

-- ---- the first line of a thread

pub begins : (labels : FoundLabels) (names : KnownNames) (said : ThreadLine) → MayBegin names labels said →
    thread_begins labels names said ≡ Ok (thread_begun names labels said)
unfolding thread_begins
begins labels names said may =
    goes (number_known names.objects said.tcb) _ _ _ (known names.objects said.tcb may.tcb)
    (goes (number_known names.objects said.cnode) _ _ _ (known names.objects said.cnode may.cnode)
    (goes (number_known names.objects said.root) _ _ _ (known names.objects said.root may.root)
    (goes (point_known labels said.entry) _ _ _ (pointed labels said.entry may.entry) refl)))

-- ---- lines of a thread

buffered : (names : KnownNames) (o : OpenDraft) (frame : Text) → MayAddBuffer names o frame
    → buffered_with names o frame ≡ Ok (with_buffer o (number_of names.objects frame))
unfolding buffered_with
buffered names o frame may =
    goes (number_known names.objects frame) _ _ _ (known names.objects frame may.named)
    (goes (must (o.thread.header.buffer == no_buffer) 4) _ tt _ (passes _ 4 (eq-eqb o.thread.header.buffer no_buffer may.single)) refl)

registered : (o : OpenDraft) (entry : RegisterEntry) → MayAddRegister o entry → with_registers o entry ≡ Ok (with_register o entry)
unfolding with_registers
registered o entry may =
    goes (sorted_with (λ (e : RegisterEntry). e.register) 31 entry o.thread.registers) _ _ _
    (sorted-behind (λ (e : RegisterEntry). e.register) 31 entry o.thread.registers may.behind may.room) refl

term-by : (read : List TermEntry) (ws : List Text) (r : Result TermEntry LineFault) → (r >>= λ _. all_terms ws) ≡ Ok tt →
    AreBehind term_key read (term_or_zero r ∷ terms_of ws)
    → length read + length (term_or_zero r ∷ terms_of ws) ≤ 4
    → ((grown : List TermEntry) → all_terms ws ≡ Ok tt → AreBehind term_key grown (terms_of ws) → length grown + length (terms_of ws) ≤ 4
    → sorted_terms grown (terms_said ws) ≡ Ok (grown ++ terms_of ws))
    → sorted_terms read (elim r [ Ok term ↦ term ∷ terms_said ws | Err e ↦ [] ]) ≡ Ok (read ++ term_or_zero r ∷ terms_of ws)
term-by read ws (Err e) said behind few others = absurd (let no : Err e ≡ Ok tt = said in cc)
term-by read ws (Ok t) said behind few others =
    let long : length (read ++ t ∷ []) ≡ length read + 1 = length-append read (t ∷ []) in
    goes (sorted_with term_key 4 t read) (λ more. sorted_terms more (terms_said ws)) (read ++ t ∷ []) _
    (sorted-behind term_key 4 t read behind.0 (omega (arith, few)))
    (others (read ++ t ∷ []) said behind.1 (omega (arith, few, long)) ∙ ap (λ (ts : List TermEntry). Ok ts) (append_assoc read (t ∷ []) (terms_of ws)))

terms-sorted : (words : List Text) (read : List TermEntry) → all_terms words ≡ Ok tt → AreBehind term_key read (terms_of words) →
    length read + length (terms_of words) ≤ 4
    → sorted_terms read (terms_said words) ≡ Ok (read ++ terms_of words)
terms-sorted [] read said behind few = ap (λ (ts : List TermEntry). Ok ts) (sym (append-nil read))
terms-sorted (name ∷ []) read said behind few = absurd (let no : Err fault.Syntax ≡ Ok tt = said in cc)
terms-sorted (name ∷ factor ∷ ws) read said behind few =
    term-by read ws (term_of name factor) said behind few (λ grown said behind few. terms-sorted ws grown said behind few)

measured : (o : OpenDraft) (constant : ℤ) (words : List Text) → MayAddMeasure o words → measured_with o constant words ≡ Ok (with_measure o constant words)
unfolding measured_with record_said
measured o constant words may =
    goes (must (not (is_some o.next)) 4) _ tt _ (passes-not _ 4 (ap is_some may.fresh))
    (goes (record_said (length o.thread.words) constant words) _ _ _
    (goes (sorted_terms [] (terms_said words)) _ (terms_of words) _ (terms-sorted words [] may.said may.behind (omega (arith, may.short))) refl) refl)

ranged : (thread : Thread) (next : Option StateRecord) (entry : RangeEntry) → MayAddRange (record { thread = thread; next = next }) entry
    → noting (ranges_with entry) (record { thread = thread; next = next }) ≡ Ok (with_range (record { thread = thread; next = next }) entry)
unfolding ranges_with
ranged thread None entry may = absurd may
ranged thread (Some r) entry may =
    goes (ranges_with entry r) _ _ _
    (goes (sorted_with (λ (e : RangeEntry). e.register) 31 entry r.ranges) _ _ _
    (sorted-behind (λ (e : RangeEntry). e.register) 31 entry r.ranges may.behind may.room) refl) refl

parented : (names : KnownNames) (said : Parent) → HasParent names said → parent_known names said ≡ Ok (parent_numbers names said)
unfolding parent_known
parented names parent.Boot h = refl
parented names (parent.Slot cnode index) h = goes (number_known names.objects cnode) _ _ _ (known names.objects cnode h) refl

module _ (names : KnownNames) (cnode : Text) (index word0 word1 : ℕ) (from : Parent) where
  slot-noted : (thread : Thread) (next : Option StateRecord) → MayAddSlot names (record { thread = thread; next = next }) cnode index from
      → noting (slots_with names cnode index word0 word1 from) (record { thread = thread; next = next }) ≡ Ok
      (with_slot (record { thread = thread; next = next }) (slot_entry names cnode index word0 word1 from))
  unfolding slots_with
  slot-noted thread None may = absurd may.room
  slot-noted thread (Some r) may =
      let entry = slot_entry names cnode index word0 word1 from in
      let key : SlotEntry → ℕ = λ (e : SlotEntry). pair_key e.cnode e.index in
      goes (slots_with names cnode index word0 word1 from r) _ _ _
      (goes (number_known names.objects cnode) _ _ _ (known names.objects cnode may.named)
      (goes (parent_known names from) _ _ _ (parented names from may.parented)
      (goes (sorted_with key 256 entry r.slots) _ _ _ (sorted-behind key 256 entry r.slots may.room.behind may.room.room) refl))) refl

coded : (labels : FoundLabels) (o : OpenDraft) (said : Code) → MayAddCode o said → coded_with labels o said ≡ Ok (with_word o (plain_word said))
unfolding coded_with word_at word_added
coded labels o (code.Word value) may = goes (has_room 65536 o.thread.words) _ tt _ (roomy 65536 o.thread.words may.room) refl
coded labels o (code.Jump rd target) may = absurd may.plain
coded labels o (code.Branch op rs1 rs2 target) may = absurd may.plain

pub inside-goes : (labels : FoundLabels) (number : ℕ) (names : KnownNames) (o : OpenDraft) (said : Line) → IsThreadLine labels number names o said →
    (said ≡ line.End → ⊥)
    → inside labels number names o said ≡ Ok (thread_behind names o said)
unfolding inside
inside-goes labels number names o line.Blank h other = absurd h
inside-goes labels number names o (line.Memory bits radix) h other = absurd h
inside-goes labels number names o (line.Untyped name entry) h other = absurd h
inside-goes labels number names o (line.Object name untyped kind size) h other = absurd h
inside-goes labels number names o (line.Interrupt name line notification badge) h other = absurd h
inside-goes labels number names o (line.Capability cnode index source rights payload) h other = absurd h
inside-goes labels number names o (line.Table root address table) h other = absurd h
inside-goes labels number names o (line.Frame root address frame rights) h other = absurd h
inside-goes labels number names o (line.Content frame words) h other = absurd h
inside-goes labels number names o (line.Promise endpoint low high words) h other = absurd h
inside-goes labels number names o (line.Thread begun) h other = absurd h
inside-goes labels number names o (line.Buffer frame) h other = buffered names o frame h
inside-goes labels number names o (line.Register entry) h other = registered o entry h
inside-goes labels number names o (line.Measure constant terms) h other = measured o constant terms h
inside-goes labels number names o (line.Range entry) h other = ranged o.thread o.next entry h
inside-goes labels number names o (line.Slot cnode index word0 word1 from) h other = slot-noted names cnode index word0 word1 from o.thread o.next h
inside-goes labels number names o (line.Label name) h other = goes (must _ 3) _ tt _ (passes _ 3 h) refl
inside-goes labels number names o (line.Code None said) h other = coded labels o said h
inside-goes labels number names o (line.Code (Some name) said) h other = absurd h
inside-goes labels number names o line.End h other = absurd (other refl)

pub ends : (o : OpenDraft) → MayEnd o → may_end o ≡ Ok tt
unfolding may_end
ends o may = goes (must (not (is_some o.next)) 1) _ tt _ (passes-not _ 1 (ap is_some may.done)) (passes _ 4 (lt-ltb 0 (length o.thread.words) may.some))
