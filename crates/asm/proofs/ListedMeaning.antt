-- What the listing of an image means is that image.
use Rattle.std.specs.Prelude.{MatchOption, not, is_some, max, Result, ◌&&◌, if◌then◌else◌}
use Rattle.std.proofs.Common.{◌≡◌, ℕ, ◌<◌, Bool, true, false, List, [], ◌∷◌, length, Option, Some, None, Ok, Err, refl, sym, ap, subst, ◌∙◌}
use Rattle.std.specs.List.{All, AllZip}
use Rattle.std.specs.Option.{option_map_or}
use Rattle.std.specs.Str.Lines.{lines}
use Rattle.model.specs.declared.entries.FrameEntry.{FrameEntry}
use Rattle.model.specs.declared.entries.InterruptEntry.{InterruptEntry}
use Rattle.model.specs.declared.entries.TableEntry.{TableEntry}
use Rattle.model.specs.Images.Image.{Image, ImageContent, ImagePromise, Thread, pair_key, whole_image}
use Rattle.model.specs.Images.Listing.{Text, listing, version_listed}
use Rattle.asm_line.specs.declared.lines.Line.{Line}
use Rattle.asm_line.specs.declared.lines.Line.TheVariants as line
use Rattle.asm_line.specs.Listed.{Lists}
use Rattle.asm_line.specs.Meaning.{line_said}
use Rattle.asm_line.specs.Words.{◌>>=◌}
use Rattle.asm_line.proofs.Laws.{listed-said}
use Rattle.asm.specs.declared.assembly.Memory.{Memory}
use Rattle.asm.specs.declared.declarations.Capability.{Capability}
use Rattle.asm.specs.Drafts.{Draft, draft_of, nothing_read}
use Rattle.asm.specs.Keys.{has_room, must, sorted_with}
use Rattle.asm.specs.Labels.{FoundLabels, Searched, closed, in_open, labels_in, next_number, nothing_searched, searched_from, searched_line, with_label}
use Rattle.asm.specs.Meaning.{add_line, all_read, and_then, declared_with, ended, finished, first_line, fitting, full_line, in_thread, inside, is_end}
use Rattle.asm.specs.Meaning.{is_thread, label_at_fault, labels_of, leaves_open, may_end, memory_known, on_line, outside, placed_with, promised_said}
use Rattle.asm.specs.Meaning.{read_line, searched_text, searched_texts, text_means, text_read, thread_begins, thread_opened, words_said}
use Rattle.asm.specs.Names.{free, number_known, number_of, source_known}
use Rattle.asm.specs.Reading.{AreInPlace, IsDeclaration, IsFirst, IsInPlace, IsThreadLine, labels_at, thread_behind, with_declaration, with_first, with_line}
use Rattle.asm.specs.Reading.{with_lines, with_thread_line}
use Rattle.asm.specs.Sections.{Declared, capability_said, content_said, frame_entry, interrupt_entry, is_in_order, promise_said, table_entry}
use Rattle.asm.specs.Threads.{OpenDraft}
use Rattle.asm.proofs.Finished.{is-listed}
use Rattle.asm.proofs.ListedSteps.{begins, ends, goes, inside-goes, known, passes, passes-not, promised-all, roomy, sorted-behind, sourced, unused, words-all}
use Rattle.asm.proofs.ReadBack.{read-back}

-- ---- lines outside threads

module _ (labels : List FoundLabels) (d : Draft) where
  abbrev pub here : FoundLabels
  here = labels_at labels (length d.threads)

  pub outside-goes : (said : Line) → IsDeclaration labels d said → outside here d said ≡ Ok (with_declaration labels d said)
  unfolding outside declared_with placed_with thread_opened
  outside-goes line.Blank h = absurd h
  outside-goes (line.Memory bits radix) h = absurd h
  outside-goes (line.Untyped name entry) h =
      goes (declared_with d.declared (line.Untyped name entry)) _ _ _
      (goes (free d.declared.names name) _ tt _ (unused d.declared.names name h.free)
      (goes (has_room 64 d.declared.untypeds) _ tt _ (roomy 64 d.declared.untypeds h.room) refl)) refl
  outside-goes (line.Object name untyped kind size) h =
      goes (declared_with d.declared (line.Object name untyped kind size)) _ _ _
      (goes (free d.declared.names name) _ tt _ (unused d.declared.names name h.free)
      (goes (number_known d.declared.names.untypeds untyped) _ _ _ (known d.declared.names.untypeds untyped h.named)
      (goes (must (is_in_order (number_of d.declared.names.untypeds untyped) d.declared.objects) 4) _ tt _ (passes _ 4 h.in_order)
      (goes (has_room 4096 d.declared.objects) _ tt _ (roomy 4096 d.declared.objects h.room) refl)))) refl
  outside-goes (line.Interrupt name number notification badge) h =
      let key : InterruptEntry → ℕ = λ (e : InterruptEntry). e.line in
      let entry = interrupt_entry d.declared number notification badge in
      goes (declared_with d.declared (line.Interrupt name number notification badge)) _ _ _
      (goes (free d.declared.names name) _ tt _ (unused d.declared.names name h.free)
      (goes (number_known d.declared.names.objects notification) _ _ _ (known d.declared.names.objects notification h.named)
      (goes (sorted_with key 64 entry d.declared.interrupts) _ _ _ (sorted-behind key 64 entry d.declared.interrupts h.behind h.room) refl))) refl
  outside-goes (line.Capability cnode index source rights payload) h =
      let key : Capability → ℕ = λ (e : Capability). pair_key e.cnode e.index in
      let entry = capability_said d.declared cnode index source rights payload in
      goes (placed_with d.declared (line.Capability cnode index source rights payload)) _ _ _
      (goes (number_known d.declared.names.objects cnode) _ _ _ (known d.declared.names.objects cnode h.named)
      (goes (source_known d.declared.names source) _ _ _ (sourced d.declared.names source h.sourced)
      (goes (sorted_with key 16384 entry d.declared.capabilities) _ _ _ (sorted-behind key 16384 entry d.declared.capabilities h.behind h.room) refl))) refl
  outside-goes (line.Table root address table) h =
      let key : TableEntry → ℕ = λ (e : TableEntry). pair_key e.root e.address in
      let entry = table_entry d.declared root address table in
      goes (placed_with d.declared (line.Table root address table)) _ _ _
      (goes (number_known d.declared.names.objects root) _ _ _ (known d.declared.names.objects root h.root_named)
      (goes (number_known d.declared.names.objects table) _ _ _ (known d.declared.names.objects table h.table_named)
      (goes (sorted_with key 1024 entry d.declared.tables) _ _ _ (sorted-behind key 1024 entry d.declared.tables h.behind h.room) refl))) refl
  outside-goes (line.Frame root address frame rights) h =
      let key : FrameEntry → ℕ = λ (e : FrameEntry). pair_key e.root e.address in
      let entry = frame_entry d.declared root address frame rights in
      goes (placed_with d.declared (line.Frame root address frame rights)) _ _ _
      (goes (number_known d.declared.names.objects root) _ _ _ (known d.declared.names.objects root h.root_named)
      (goes (number_known d.declared.names.objects frame) _ _ _ (known d.declared.names.objects frame h.frame_named)
      (goes (sorted_with key 4096 entry d.declared.frames) _ _ _ (sorted-behind key 4096 entry d.declared.frames h.behind h.room) refl))) refl
  outside-goes (line.Content frame words) h =
      let key : ImageContent → ℕ = λ (c : ImageContent). c.header.frame in
      let entry = content_said d.declared frame words in
      goes (placed_with d.declared (line.Content frame words)) _ _ _
      (goes (number_known d.declared.names.objects frame) _ _ _ (known d.declared.names.objects frame h.named)
      (goes (words_said words) _ _ _ (words-all words h.numbers h.short)
      (goes (sorted_with key 4096 entry d.declared.contents) _ _ _ (sorted-behind key 4096 entry d.declared.contents h.behind h.room) refl))) refl
  outside-goes (line.Promise endpoint low high words) h =
      let key : ImagePromise → ℕ = λ (p : ImagePromise). p.header.endpoint in
      let entry = promise_said d.declared endpoint low high words in
      goes (placed_with d.declared (line.Promise endpoint low high words)) _ _ _
      (goes (number_known d.declared.names.objects endpoint) _ _ _ (known d.declared.names.objects endpoint h.named)
      (goes (promised_said words) _ _ _ (promised-all words h.few)
      (goes (sorted_with key 4096 entry d.declared.promises) _ _ _ (sorted-behind key 4096 entry d.declared.promises h.behind h.room) refl))) refl
  outside-goes (line.Thread said) h =
      goes (thread_begins here d.declared.names said) _ _ _ (begins here d.declared.names said h.begins)
      (goes (has_room 64 d.threads) _ tt _ (roomy 64 d.threads h.room) refl)
  outside-goes (line.Buffer frame) h = absurd h
  outside-goes (line.Register entry) h = absurd h
  outside-goes (line.Measure constant terms) h = absurd h
  outside-goes (line.Range entry) h = absurd h
  outside-goes (line.Slot cnode index word0 word1 from) h = absurd h
  outside-goes (line.Label name) h = absurd h
  outside-goes (line.Code label said) h = absurd h
  outside-goes line.End h = absurd h

-- ---- the first line

first-goes : (d : Draft) (said : Line) → IsFirst said → first_line d said ≡ Ok (with_first d said)
unfolding first_line
first-goes d (line.Memory bits radix) h = refl
first-goes d line.Blank h = absurd h
first-goes d (line.Untyped name entry) h = absurd h
first-goes d (line.Object name untyped kind size) h = absurd h
first-goes d (line.Interrupt name number notification badge) h = absurd h
first-goes d (line.Capability cnode index source rights payload) h = absurd h
first-goes d (line.Table root address table) h = absurd h
first-goes d (line.Frame root address frame rights) h = absurd h
first-goes d (line.Content frame words) h = absurd h
first-goes d (line.Promise endpoint low high words) h = absurd h
first-goes d (line.Thread said) h = absurd h
first-goes d (line.Buffer frame) h = absurd h
first-goes d (line.Register entry) h = absurd h
first-goes d (line.Measure constant terms) h = absurd h
first-goes d (line.Range entry) h = absurd h
first-goes d (line.Slot cnode index word0 word1 from) h = absurd h
first-goes d (line.Label name) h = absurd h
first-goes d (line.Code label said) h = absurd h
first-goes d line.End h = absurd h

-- ---- a line of a thread is its last one, or leaves it open

data LastOrNot (labels : FoundLabels) (number : ℕ) (d : Draft) (o : OpenDraft) (said : Line) : Type 0 where
  last : said ≡ line.End → LastOrNot labels number d o said
  more : (said ≡ line.End → ⊥) → in_thread labels number d o said
      ≡ (inside labels number d.declared.names o said >>= λ (more : OpenDraft). Ok (record d { open_thread = Some more }))
      → with_thread_line (record d { open_thread = None }) o said ≡ record d { open_thread = Some (thread_behind d.declared.names o said) } →
      is_end said ≡ false → LastOrNot labels number d o said

abbrev is-it-end : Line → Bool
is-it-end said = is_end said

last-or-not : (labels : FoundLabels) (number : ℕ) (d : Draft) (o : OpenDraft) (said : Line) → LastOrNot labels number d o said
last-or-not labels number d o line.End = last refl
last-or-not labels number d o line.Blank = more (λ e. let no : true ≡ false = sym (ap is-it-end e) in cc) refl refl refl
last-or-not labels number d o (line.Memory bits radix) = more (λ e. let no : true ≡ false = sym (ap is-it-end e) in cc) refl refl refl
last-or-not labels number d o (line.Untyped name entry) = more (λ e. let no : true ≡ false = sym (ap is-it-end e) in cc) refl refl refl
last-or-not labels number d o (line.Object name untyped kind size) = more (λ e. let no : true ≡ false = sym (ap is-it-end e) in cc) refl refl refl
last-or-not labels number d o (line.Interrupt name number2 notification badge) = more (λ e. let no : true ≡ false = sym (ap is-it-end e) in cc) refl refl refl
last-or-not labels number d o (line.Capability cnode index source rights payload) =
    more (λ e. let no : true ≡ false = sym (ap is-it-end e) in cc) refl refl refl
last-or-not labels number d o (line.Table root address table) = more (λ e. let no : true ≡ false = sym (ap is-it-end e) in cc) refl refl refl
last-or-not labels number d o (line.Frame root address frame rights) = more (λ e. let no : true ≡ false = sym (ap is-it-end e) in cc) refl refl refl
last-or-not labels number d o (line.Content frame words) = more (λ e. let no : true ≡ false = sym (ap is-it-end e) in cc) refl refl refl
last-or-not labels number d o (line.Promise endpoint low high words) = more (λ e. let no : true ≡ false = sym (ap is-it-end e) in cc) refl refl refl
last-or-not labels number d o (line.Thread begun) = more (λ e. let no : true ≡ false = sym (ap is-it-end e) in cc) refl refl refl
last-or-not labels number d o (line.Buffer frame) = more (λ e. let no : true ≡ false = sym (ap is-it-end e) in cc) refl refl refl
last-or-not labels number d o (line.Register entry) = more (λ e. let no : true ≡ false = sym (ap is-it-end e) in cc) refl refl refl
last-or-not labels number d o (line.Measure constant terms) = more (λ e. let no : true ≡ false = sym (ap is-it-end e) in cc) refl refl refl
last-or-not labels number d o (line.Range entry) = more (λ e. let no : true ≡ false = sym (ap is-it-end e) in cc) refl refl refl
last-or-not labels number d o (line.Slot cnode index word0 word1 from) = more (λ e. let no : true ≡ false = sym (ap is-it-end e) in cc) refl refl refl
last-or-not labels number d o (line.Label name) = more (λ e. let no : true ≡ false = sym (ap is-it-end e) in cc) refl refl refl
last-or-not labels number d o (line.Code label said) = more (λ e. let no : true ≡ false = sym (ap is-it-end e) in cc) refl refl refl

thread-by : (labels : FoundLabels) (number : ℕ) (d : Draft) (o : OpenDraft) (said : Line) → LastOrNot labels number d o said
    → IsThreadLine labels number d.declared.names o said → in_thread labels number d o said ≡ Ok (with_thread_line (record d { open_thread = None }) o said)
unfolding ended
thread-by labels number d o said (last e) h =
    let h' : IsThreadLine labels number d.declared.names o line.End = subst (IsThreadLine labels number d.declared.names o) e h in
    ap (in_thread labels number d o) e
    ∙ (goes (may_end o) _ tt _ (ends o h') refl
    ∙ ap (λ (said : Line). Ok (with_thread_line (record d { open_thread = None }) o said)) (sym e))
thread-by labels number d o said (more other steps leads not) h =
    steps ∙ (goes (inside labels number d.declared.names o said) _ _ _ (inside-goes labels number d.declared.names o said h other) refl
    ∙ ap (λ (d : Draft). Ok d) (sym leads))

-- ---- any line

module _ (labels : List FoundLabels) (number : ℕ) (declared : Declared) (threads : List Thread) (said : Line) where
  abbrev draft : Option Memory → Option OpenDraft → Draft
  draft memory thread = record { memory = memory; declared = declared; threads = threads; open_thread = thread }

  by-memory : (memory : Option Memory) (thread : Option OpenDraft) → IsInPlace labels number (draft memory thread) said
      → full_line labels number (draft memory thread) said ≡ Ok (with_line labels (draft memory thread) said)
  by-memory None thread h = first-goes (draft None thread) said h
  by-memory (Some m) None h = outside-goes labels (draft (Some m) None) said h
  by-memory (Some m) (Some o) h =
      thread-by (labels_at labels (length threads)) number (draft (Some m) (Some o)) o said
      (last-or-not (labels_at labels (length threads)) number (draft (Some m) (Some o)) o said) h.1

blank-by : (labels : List FoundLabels) (number : ℕ) (d : Draft) (memory : Option Memory) (thread : Option OpenDraft)
    → MatchOption memory (IsFirst line.Blank) (λ _. MatchOption thread (IsDeclaration labels d line.Blank)
    (λ o. (length d.threads < length labels) × IsThreadLine (labels_at labels (length d.threads)) number d.declared.names o line.Blank)) → ⊥
blank-by labels number d None thread h = h
blank-by labels number d (Some m) None h = h
blank-by labels number d (Some m) (Some o) h = h.1

pub line-goes : (labels : List FoundLabels) (number : ℕ) (d : Draft) (said : Line) → IsInPlace labels number d said →
    read_line labels number d said ≡ Ok (with_line labels d said)
unfolding read_line
line-goes labels number d line.Blank h = absurd (blank-by labels number d d.memory d.open_thread h)
line-goes labels number d (line.Memory bits radix) h = by-memory labels number d.declared d.threads (line.Memory bits radix) d.memory d.open_thread h
line-goes labels number d (line.Untyped name entry) h = by-memory labels number d.declared d.threads (line.Untyped name entry) d.memory d.open_thread h
line-goes labels number d (line.Object name untyped kind size) h =
    by-memory labels number d.declared d.threads (line.Object name untyped kind size) d.memory d.open_thread h
line-goes labels number d (line.Interrupt name interrupt notification badge) h =
    by-memory labels number d.declared d.threads (line.Interrupt name interrupt notification badge) d.memory d.open_thread h
line-goes labels number d (line.Capability cnode index source rights payload) h =
    by-memory labels number d.declared d.threads (line.Capability cnode index source rights payload) d.memory d.open_thread h
line-goes labels number d (line.Table root address table) h =
    by-memory labels number d.declared d.threads (line.Table root address table) d.memory d.open_thread h
line-goes labels number d (line.Frame root address frame rights) h =
    by-memory labels number d.declared d.threads (line.Frame root address frame rights) d.memory d.open_thread h
line-goes labels number d (line.Content frame words) h = by-memory labels number d.declared d.threads (line.Content frame words) d.memory d.open_thread h
line-goes labels number d (line.Promise endpoint low high words) h =
    by-memory labels number d.declared d.threads (line.Promise endpoint low high words) d.memory d.open_thread h
line-goes labels number d (line.Thread begun) h = by-memory labels number d.declared d.threads (line.Thread begun) d.memory d.open_thread h
line-goes labels number d (line.Buffer frame) h = by-memory labels number d.declared d.threads (line.Buffer frame) d.memory d.open_thread h
line-goes labels number d (line.Register entry) h = by-memory labels number d.declared d.threads (line.Register entry) d.memory d.open_thread h
line-goes labels number d (line.Measure constant terms) h = by-memory labels number d.declared d.threads (line.Measure constant terms) d.memory d.open_thread h
line-goes labels number d (line.Range entry) h = by-memory labels number d.declared d.threads (line.Range entry) d.memory d.open_thread h
line-goes labels number d (line.Slot cnode index word0 word1 from) h =
    by-memory labels number d.declared d.threads (line.Slot cnode index word0 word1 from) d.memory d.open_thread h
line-goes labels number d (line.Label name) h = by-memory labels number d.declared d.threads (line.Label name) d.memory d.open_thread h
line-goes labels number d (line.Code label said) h = by-memory labels number d.declared d.threads (line.Code label said) d.memory d.open_thread h
line-goes labels number d line.End h = by-memory labels number d.declared d.threads line.End d.memory d.open_thread h

-- ---- the last line: where no thread is open after it, it leaves none open

module _ (labels : List FoundLabels) (number : ℕ) (declared : Declared) (threads : List Thread) where
  abbrev drafted : Option Memory → Option OpenDraft → Draft
  drafted memory thread = record { memory = memory; declared = declared; threads = threads; open_thread = thread }

  first-closes : (memory : Option Memory) (thread : Option OpenDraft) (said : Line) → IsFirst said → thread ≡ None →
      leaves_open (drafted memory thread) said ≡ false
  first-closes memory thread (line.Memory bits radix) h e = ap (λ (o : Option OpenDraft). if is_some o then true else false) e
  first-closes memory thread line.Blank h e = absurd h
  first-closes memory thread (line.Untyped name entry) h e = absurd h
  first-closes memory thread (line.Object name untyped kind size) h e = absurd h
  first-closes memory thread (line.Interrupt name line notification badge) h e = absurd h
  first-closes memory thread (line.Capability cnode index source rights payload) h e = absurd h
  first-closes memory thread (line.Table root address table) h e = absurd h
  first-closes memory thread (line.Frame root address frame rights) h e = absurd h
  first-closes memory thread (line.Content frame words) h e = absurd h
  first-closes memory thread (line.Promise endpoint low high words) h e = absurd h
  first-closes memory thread (line.Thread begun) h e = absurd h
  first-closes memory thread (line.Buffer frame) h e = absurd h
  first-closes memory thread (line.Register entry) h e = absurd h
  first-closes memory thread (line.Measure constant terms) h e = absurd h
  first-closes memory thread (line.Range entry) h e = absurd h
  first-closes memory thread (line.Slot cnode index word0 word1 from) h e = absurd h
  first-closes memory thread (line.Label name) h e = absurd h
  first-closes memory thread (line.Code label said) h e = absurd h
  first-closes memory thread line.End h e = absurd h

  outside-closes : (memory : Option Memory) (said : Line) → (with_declaration labels (drafted memory None) said).open_thread ≡ None → is_thread said ≡ false
  outside-closes memory (line.Thread begun) e = absurd (let no : true ≡ false = ap (λ (o : Option OpenDraft). is_some o) e in cc)
  outside-closes memory (line.Memory bits radix) e = refl
  outside-closes memory line.Blank e = refl
  outside-closes memory (line.Untyped name entry) e = refl
  outside-closes memory (line.Object name untyped kind size) e = refl
  outside-closes memory (line.Interrupt name line notification badge) e = refl
  outside-closes memory (line.Capability cnode index source rights payload) e = refl
  outside-closes memory (line.Table root address table) e = refl
  outside-closes memory (line.Frame root address frame rights) e = refl
  outside-closes memory (line.Content frame words) e = refl
  outside-closes memory (line.Promise endpoint low high words) e = refl
  outside-closes memory (line.Buffer frame) e = refl
  outside-closes memory (line.Register entry) e = refl
  outside-closes memory (line.Measure constant terms) e = refl
  outside-closes memory (line.Range entry) e = refl
  outside-closes memory (line.Slot cnode index word0 word1 from) e = refl
  outside-closes memory (line.Label name) e = refl
  outside-closes memory (line.Code label said) e = refl
  outside-closes memory line.End e = refl

  thread-closes : (d : Draft) (o : OpenDraft) (said : Line) → LastOrNot (labels_at labels (length threads)) number d o said
      → (with_thread_line (record d { open_thread = None }) o said).open_thread ≡ None → not (is_end said) ≡ false
  thread-closes d o said (last e) closes = ap (λ (said : Line). not (is_end said)) e
  thread-closes d o said (more other steps leads not) closes =
      absurd (let no : true ≡ false = ap (λ (d : Draft). is_some d.open_thread) (sym leads) ∙ ap (λ (o : Option OpenDraft). is_some o) closes in cc)

  closes-by : (memory : Option Memory) (thread : Option OpenDraft) (said : Line) → IsInPlace labels number (drafted memory thread) said
      → (with_line labels (drafted memory thread) said).open_thread ≡ None → leaves_open (drafted memory thread) said ≡ false
  closes-by None thread said h e = first-closes None thread said h (kept said e)
    where
      kept : (said : Line) → (with_first (drafted None thread) said).open_thread ≡ None → thread ≡ None
      kept (line.Memory bits radix) e = e
      kept line.Blank e = e
      kept (line.Untyped name entry) e = e
      kept (line.Object name untyped kind size) e = e
      kept (line.Interrupt name line notification badge) e = e
      kept (line.Capability cnode index source rights payload) e = e
      kept (line.Table root address table) e = e
      kept (line.Frame root address frame rights) e = e
      kept (line.Content frame words) e = e
      kept (line.Promise endpoint low high words) e = e
      kept (line.Thread begun) e = e
      kept (line.Buffer frame) e = e
      kept (line.Register entry) e = e
      kept (line.Measure constant terms) e = e
      kept (line.Range entry) e = e
      kept (line.Slot cnode index word0 word1 from) e = e
      kept (line.Label name) e = e
      kept (line.Code label said) e = e
      kept line.End e = e
  closes-by (Some m) None said h e = outside-closes (Some m) said e
  closes-by (Some m) (Some o) said h e =
      thread-closes (drafted (Some m) (Some o)) o said (last-or-not (labels_at labels (length threads)) number (drafted (Some m) (Some o)) o said) e

closes : (labels : List FoundLabels) (number : ℕ) (d : Draft) (said : Line) → IsInPlace labels number d said → (with_line labels d said).open_thread ≡ None →
    leaves_open d said ≡ false
closes labels number d said h e = closes-by labels number d.declared d.threads d.memory d.open_thread said h e

-- ---- all lines

text-goes : (labels : List FoundLabels) (number : ℕ) (is_last : Bool) (d : Draft) (said : Line) (text : Text) → Lists said text → IsInPlace labels number d said
    → (is_last && leaves_open d said) ≡ false → text_read labels number is_last d text ≡ Ok (with_line labels d said)
unfolding text_read add_line
text-goes labels number is_last d said text lists placed shut =
    goes (line_said text) _ said _ (listed-said said text lists)
    (goes (must (not (is_last && leaves_open d said)) 1) _ tt _ (passes-not _ 1 shut) (line-goes labels number d said placed))

record IsRead (labels : List FoundLabels) (number : ℕ) (d : Draft) (texts : List Text) (end : Draft) : Type 0 where
  end_number : ℕ
  reads : all_read labels number d texts ≡ Ok (end_number, end)

texts-go : (labels : List FoundLabels) (number : ℕ) (d : Draft) (said : List Line) (texts : List Text) → AllZip Lists said texts →
    AreInPlace labels number d said
    → (with_lines labels d said).open_thread ≡ None → IsRead labels number d texts (with_lines labels d said)
texts-go labels number d [] [] zip placed end = record { end_number = number; reads = refl }
texts-go labels number d [] (text ∷ texts) zip placed end = absurd zip
texts-go labels number d (said ∷ others) [] zip placed end = absurd zip
texts-go labels number d (said ∷ []) (text ∷ []) zip placed end =
    let one = text-goes labels (next_number number) true d said text zip.0 placed.0 (closes labels (next_number number) d said placed.0 end) in
    record {
      end_number = next_number number;
      reads =
          ap (λ (r : Result Draft ℕ). and_then (on_line (next_number number) r) (λ more. all_read labels (next_number number) more [])) one;
    }
texts-go labels number d (said ∷ []) (text ∷ next ∷ texts) zip placed end = absurd zip.1
texts-go labels number d (said ∷ again ∷ others) (text ∷ []) zip placed end = absurd zip.1
texts-go labels number d (said ∷ again ∷ others) (text ∷ next ∷ texts) zip placed end =
    let one = text-goes labels (next_number number) false d said text zip.0 placed.0 refl in
    let rest = texts-go labels (next_number number) (with_line labels d said) (again ∷ others) (next ∷ texts) zip.1 placed.1 end in
    record {
      end_number = rest.end_number;
      reads = ap (λ (r : Result Draft ℕ). and_then (on_line (next_number number) r) (λ behind. all_read labels (next_number number) behind (next ∷ texts))) one
          ∙ rest.reads;
    }

-- ---- labels

search-says : (s : Searched) (number : ℕ) (said : Line) (text : Text) → Lists said text → searched_text s number text ≡ searched_line s number said
unfolding searched_text
search-says s number said text lists = ap (λ (r : Result Line ℕ). elim r [
  | Ok said ↦ searched_line s number said
  | Err fault ↦ option_map_or (λ name. in_open (λ labels. with_label labels name number) s) (label_at_fault text) s
]) (listed-said said text lists)

searches : (number : ℕ) (s : Searched) (said : List Line) (texts : List Text) → AllZip Lists said texts →
    searched_texts number s texts ≡ searched_from number s said
searches number s [] [] zip = refl
searches number s [] (text ∷ texts) zip = absurd zip
searches number s (said ∷ others) [] zip = absurd zip
searches number s (said ∷ others) (text ∷ texts) zip =
    ap (λ s. searched_texts (next_number number) s texts) (search-says s (next_number number) said text zip.0)
    ∙ searches (next_number number) (searched_line s (next_number number) said) others texts zip.1

-- ---- the whole

ends-so : (image : Image) → whole_image.fits image ≡ true → image.header.version ≡ version_listed image.objects image.promises image.threads
    → finished (draft_of image) ≡ Ok image
unfolding finished memory_known
ends-so image is version =
    let memory : Memory = record { bits = image.header.memory_bits; boot_radix = image.header.boot_radix } in
    let whole = is-listed image is version (draft_of image) refl memory refl _ refl in
    ap fitting whole ∙ ap (λ (b : Bool). if b then Ok image else Err 4) is

pub listing-means : (image : Image) → whole_image.fits image ≡ true → image.header.version ≡ version_listed image.objects image.promises image.threads
    → All (λ (t : Thread). t.header.entry < t.header.words) image.threads → text_means (listing image) ≡ Ok image
unfolding text_means
listing-means image is version entered =
    let back = read-back image is version entered in
    let texts = lines (listing image) in
    let labels : labels_of texts ≡ labels_in back.said = ap (λ (s : Searched). (closed s).threads) (searches 0 nothing_searched back.said texts back.listed) in
    let read = texts-go (labels_in back.said) 0 nothing_read back.said texts back.listed back.placed (ap (λ (d : Draft). d.open_thread) back.reads) in
    ap (λ (ls : List FoundLabels). and_then (all_read ls 0 nothing_read texts) (λ (r : ℕ × Draft). on_line (max r.0 1) (finished r.1))) labels
    ∙ (ap (λ (r : Result (ℕ × Draft) (ℕ × ℕ)). and_then r (λ (r : ℕ × Draft). on_line (max r.0 1) (finished r.1)))
    (read.reads ∙ ap (λ (d : Draft). Ok (read.end_number, d)) back.reads)
    ∙ ap (on_line (max read.end_number 1)) (ends-so image is version))
