-- Lines of a live run that are answered one after another.
use Rattle.std.proofs.Common.{ℕ, zero, suc, ◌≡◌, ◌∙◌, ◌+◌, ◌-◌, ◌^◌, ◌++◌, ◌⊎◌, ◌∷◌, inl, inr, true, false, List, [], Option, Some, None, Result, Err}
use Rattle.std.proofs.Common.{refl, sym, ap, subst}
use Rattle.std.proofs.Common.{append_assoc, append-nil}
use Rattle.std.specs.Prelude.{All, if◌then◌else◌, is_some, length}
use Rattle.std.proofs.lemmas.List.{length-append}
use Rattle.std.proofs.lemmas.List.Elements.{All-append, All-cons, All-nil, All-replicate}
use Rattle.headline.specs.SafeRuns.{AcceptedImagesRunSafely}
use Rattle.model.specs.Acceptance.Devices.{KeepsDevices}
use Rattle.model.specs.Images.Described.{described}
use Rattle.model.specs.Images.Image.{Image}
use Rattle.model.specs.Kernel.Scheduling.{current}
use Rattle.model.specs.Kernel.State.{State}
use Rattle.model.specs.Kernel.Steps.{state_after, step, trace}
use Rattle.model.specs.declared.events.Event.{Event}
use Rattle.model.specs.declared.events.Event.TheVariants.{Step}
use Rattle.kernel_trace.specs.Asked.{all_asked, asked_events, settling}
use Rattle.kernel_trace.specs.Lines.{lines_of}
use Rattle.kernel_trace.proofs.Laws.{after-both, after-none, begins_more, lines-both, trace-both}
use Rattle.runner.proofs.KeptEvents.{keeps}
use Rattle.runner.specs.Devices.{AreDevicePages}
use Rattle.runner.specs.Live.{Answers, AnswersBooted, AnswersFrom, GivesAll, StartsAccepted, StartsBooted, StopsAt, StopsShort, is_line_kept}
use Rattle.runner.specs.declared.live_runs.LiveFault.{LiveFault}
use Rattle.sinks.proofs.Laws.{Grows-then}
use Rattle.sinks.specs.LineInputs.{GivesLines}
use Rattle.sinks.specs.Sinks.{Grows, GrowsByBeginning}
use Rattle.sinks.specs.declared.event_lines.EventLine.{EventLine}
use Rattle.sinks.specs.declared.event_lines.EventLine.TheVariants.{Blank, Events, Settle}

-- ---- lines that are given

gives-none : (all : Option (List EventLine)) → GivesLines all all []
gives-none None = tt
gives-none (Some lines) = refl

gives-then : (all mid left : Option (List EventLine)) (xs ys : List EventLine) → GivesLines all mid xs → GivesLines mid left ys
    → GivesLines all left (xs ++ ys)
gives-then None mid left xs ys first next = tt
gives-then (Some a) None left xs ys first next = absurd first
gives-then (Some a) (Some b) None xs ys first next = absurd next
gives-then (Some a) (Some b) (Some c) xs ys first next =
    first ∙ ap (λ (t : List EventLine). xs ++ t) next ∙ sym (append_assoc xs ys c)

-- where what is left is not known, nothing was
unknown : (all left : Option (List EventLine)) (lines : List EventLine) → GivesLines all left lines → left ≡ None → all ≡ None
unknown None left lines given is = refl
unknown (Some a) None lines given is = absurd given
unknown (Some a) (Some b) lines given is = absurd (let clash : ◌≡◌ {A = Option (List EventLine)} (Some b) None = is in cc)

-- ---- events that are asked for

asked-none : (s : State) → all_asked s [] ≡ []
unfolding all_asked
asked-none s = refl

asked-more : (s : State) (lines : List EventLine) (line : EventLine)
    → all_asked s (lines ++ line ∷ []) ≡ all_asked s lines ++ asked_events (state_after s (all_asked s lines)) line
unfolding all_asked
asked-more s [] line =
    append-nil (asked_events s line) ∙ ap (λ (t : State). asked_events t line) (sym (after-none s))
asked-more s (first ∷ lines) line =
    let events = asked_events s first in
    let next = state_after s events in
    let rest = all_asked next lines in
    ap (λ (t : List Event). events ++ t) (asked-more next lines line)
    ∙ sym (append_assoc events rest (asked_events (state_after next rest) line))
    ∙ ap (λ (t : State). (events ++ rest) ++ asked_events t line) (sym (after-both s events rest))

-- each of them keeps to the device pages, if the line does
settling-kept : (image : Image) (most : ℕ) (s : State) → All (KeepsDevices image) (settling most s)
unfolding settling
settling-kept image zero s = All-nil (KeepsDevices image)
settling-kept image (suc most) s =
    elim (is_some (current s)) as (λ b. All (KeepsDevices image) (Step ∷ (if b then settling most (step s Step).0 else []))) [
      | true ↦ All-cons (KeepsDevices image) Step (settling most (step s Step).0) tt (settling-kept image most (step s Step).0)
      | false ↦ All-cons (KeepsDevices image) Step [] tt (All-nil (KeepsDevices image))
    ]

line-kept : (image : Image) (s : State) (line : EventLine) → is_line_kept image line ≡ true → All (KeepsDevices image) (asked_events s line)
line-kept image s Blank is = All-nil (KeepsDevices image)
line-kept image s (Settle most) is = settling-kept image most s
line-kept image s (Events event count) is = All-replicate (KeepsDevices image) count event (keeps image event is)

-- ---- lines so far

-- So many lines are answered from a state, which came to another, and all lines of the trace are put.
pub record SoFar (image : Image) (s now : State) (all left : Option (List EventLine)) (done : ℕ) (old new : Option (List ℕ)) : Type 0 where
  pub lines : List EventLine
  pub given : GivesLines all left lines
  pub counted : length lines ≡ done
  pub kept : All (KeepsDevices image) (all_asked s lines)
  pub goes : now ≡ state_after s (all_asked s lines)
  pub puts : Grows old new (lines_of (trace s (all_asked s lines)))

grows-none : (bytes : Option (List ℕ)) → Grows bytes bytes []
grows-none None = tt
grows-none (Some bytes) = sym (append-nil bytes)

none-put : (s : State) → lines_of (trace s (all_asked s [])) ≡ []
unfolding all_asked trace lines_of
none-put s = refl

pub none-so-far : (image : Image) (s : State) (all : Option (List EventLine)) (old : Option (List ℕ)) → SoFar image s s all all 0 old old
none-so-far image s all old = record {
  lines = [];
  given = gives-none all;
  counted = refl;
  kept = subst (λ (events : List Event). All (KeepsDevices image) events) (sym (asked-none s)) (All-nil (KeepsDevices image));
  goes = sym (ap (λ (events : List Event). state_after s events) (asked-none s) ∙ after-none s);
  puts = subst (λ (t : List ℕ). Grows old old t) (sym (none-put s)) (grows-none old);
}

module _ (image : Image) (s now : State) (all left : Option (List EventLine)) (done : ℕ) (old mid : Option (List ℕ))
    (far : SoFar image s now all left done old mid) where
  -- what is put of one line more
  more-lines : (line : EventLine)
      → lines_of (trace s (all_asked s (far.lines ++ line ∷ []))) ≡ lines_of (trace s (all_asked s far.lines)) ++ lines_of (trace now (asked_events now line))
  more-lines line =
      let asked = all_asked s far.lines in
      ap (λ (events : List Event). lines_of (trace s events)) (asked-more s far.lines line)
      ∙ ap lines_of (trace-both s asked (asked_events (state_after s asked) line))
      ∙ ap (λ (t : State). lines_of (trace s asked ++ trace t (asked_events t line))) (sym far.goes)
      ∙ lines-both (trace s asked) (trace now (asked_events now line))

  more-kept : (line : EventLine) → is_line_kept image line ≡ true → All (KeepsDevices image) (all_asked s (far.lines ++ line ∷ []))
  more-kept line is =
      let asked = all_asked s far.lines in
      let after = state_after s asked in
      subst (λ (events : List Event). All (KeepsDevices image) events) (sym (asked-more s far.lines line))
      (All-append (KeepsDevices image) asked (asked_events after line) far.kept (line-kept image after line is))

  pub one-more : (line : EventLine) (after : State) (rest : Option (List EventLine)) (new : Option (List ℕ)) → GivesLines left rest (line ∷ [])
      → is_line_kept image line ≡ true → after ≡ state_after now (asked_events now line) → Grows mid new (lines_of (trace now (asked_events now line)))
      → SoFar image s after all rest (done + 1) old new
  one-more line after rest new given is goes puts =
      let asked = all_asked s far.lines in
      record {
        lines = far.lines ++ line ∷ [];
        given = gives-then all left rest far.lines (line ∷ []) far.given given;
        counted = length-append far.lines (line ∷ []) ∙ ap (λ (n : ℕ). n + 1) far.counted;
        kept = more-kept line is;
        goes = goes ∙ ap (λ (t : State). state_after t (asked_events t line)) far.goes ∙ sym (after-both s asked (asked_events (state_after s asked) line))
            ∙ ap (λ (events : List Event). state_after s events) (sym (asked-more s far.lines line));
        puts = subst (λ (t : List ℕ). Grows old new t) (sym (more-lines line))
            (Grows-then old mid new (lines_of (trace s asked)) (lines_of (trace now (asked_events now line))) far.puts puts);
      }

  -- ---- how they end

  pub all-answered : (rest : Option (List EventLine)) (new : Option (List ℕ)) → GivesAll left rest [] → new ≡ mid
      → AnswersFrom image s (GivesAll all rest) (Grows old new)
  all-answered rest new given same = record {
    lines = far.lines;
    given = (
      subst (λ (t : List EventLine). GivesLines all rest t) (append-nil far.lines) (gives-then all left rest far.lines [] far.given given.0),
      given.1,
    );
    kept = far.kept;
    puts = subst (λ (t : Option (List ℕ)). Grows old t (lines_of (trace s (all_asked s far.lines)))) (sym same) far.puts;
  }

  pub stops-at : (number : ℕ) (rest : Option (List EventLine)) (new : Option (List ℕ)) → done + 1 ≡ number → new ≡ mid
      → (left ≡ None) ⊎ ((line : EventLine) × GivesLines left rest (line ∷ []) × (is_line_kept image line ≡ false))
      → AnswersFrom image s (StopsAt number all rest image) (Grows old new)
  stops-at number rest new is same why = record {
    lines = far.lines;
    given = (
      ap (λ (n : ℕ). n + 1) far.counted ∙ is,
      elim why [
        | inl none ↦ inl (unknown all left far.lines far.given none)
        | inr at ↦ inr (at.0, gives-then all left rest far.lines (at.0 ∷ []) far.given at.1, at.2)
      ],
    );
    kept = far.kept;
    puts = subst (λ (t : Option (List ℕ)). Grows old t (lines_of (trace s (all_asked s far.lines)))) (sym same) far.puts;
  }

  pub unread : (rest : Option (List EventLine)) (new : Option (List ℕ)) → left ≡ None → new ≡ mid
      → AnswersFrom image s (StopsShort all rest) (Grows old new)
  unread rest new none same =
      let nothing = unknown all left far.lines far.given none in
      record {
        lines = far.lines;
        given = (subst (λ (t : Option (List EventLine)). GivesLines t rest far.lines) (sym nothing) tt, inl nothing);
        kept = far.kept;
        puts = subst (λ (t : Option (List ℕ)). Grows old t (lines_of (trace s (all_asked s far.lines)))) (sym same) far.puts;
      }

  pub counted-out : done ≡ 2 ^ 64 - 1 → AnswersFrom image s (StopsShort all left) (Grows old mid)
  counted-out is =
      record { lines = far.lines; given = (far.given, inr (far.counted ∙ is)); kept = far.kept; puts = far.puts }

  pub some-put : (line : EventLine) (rest : Option (List EventLine)) (new : Option (List ℕ)) → GivesLines left rest (line ∷ [])
      → is_line_kept image line ≡ true → GrowsByBeginning mid new (lines_of (trace now (asked_events now line)))
      → AnswersFrom image s (GivesLines all rest) (GrowsByBeginning old new)
  some-put line rest new given is puts =
      let piece = lines_of (trace now (asked_events now line)) in
      let printed = lines_of (trace s (all_asked s far.lines)) in
      record {
        lines = far.lines ++ line ∷ [];
        given = gives-then all left rest far.lines (line ∷ []) far.given given;
        kept = more-kept line is;
        puts = begins_more old mid new (lines_of (trace s (all_asked s (far.lines ++ line ∷ [])))) printed piece []
            (more-lines line ∙ ap (λ (t : List ℕ). printed ++ t) (sym (append-nil piece))) far.puts puts;
      }

-- ---- the promise

pub promised : (bytes : List ℕ) (s : State) (starts : List ℕ) (Given : Image → List EventLine → Type 0) (Puts : List ℕ → Type 0)
    → AcceptedImagesRunSafely → StartsAccepted bytes s starts
    → ((image : Image) → AreDevicePages image image.header.objects starts → AnswersFrom image s (Given image) Puts) → Answers bytes Given Puts
promised bytes s starts Given Puts safely started answers =
    let image = started.image in
    let answered = subst (λ (t : State). AnswersFrom image t (Given image) Puts) started.state (answers image started.pages) in
    (image, answered, safely bytes image (all_asked (described image) answered.lines) started.accepted answered.kept)

pub booted : (bytes : List ℕ) (s : State) (starts : List ℕ) (Given : Image → List EventLine → Type 0) (Puts : List ℕ → Type 0)
    → StartsBooted bytes s starts → ((image : Image) → AreDevicePages image image.header.objects starts → AnswersFrom image s (Given image) Puts)
    → AnswersBooted bytes Given Puts
booted bytes s starts Given Puts started answers = (s, started.boots, answers started.boots.image started.pages)

-- ---- faults

-- the fault that is handed on is the one that came
pub fault-same : {T : Type 0} (r : Result T LiveFault) (fault came told : LiveFault) → r ≡ Err fault → fault ≡ came → r ≡ Err told → came ≡ told
fault-same {T} r fault came told is same also =
    let both : ◌≡◌ {A = Result T LiveFault} (Err fault) (Err told) = sym is ∙ also in
    let one : fault ≡ told = cc both in
    sym same ∙ one
