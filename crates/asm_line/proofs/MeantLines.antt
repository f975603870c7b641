-- What a line of a listing says is what it means.
use Rattle.std.specs.Prelude.{ℕ, ◌==◌, nat_lt, take, if◌then◌else◌}
use Rattle.std.specs.List.{position}
use Rattle.std.specs.Option.{option_map_or}
use Rattle.std.proofs.Common.{◌≡◌, ◌∷◌, [], List, Bool, true, Option, Some, None, Result, Ok, Err, refl, sym, ap, ◌∙◌, is_some, get_or}
use Rattle.std.proofs.lemmas.Option.{same_Some}
use Rattle.model.specs.Capabilities.CapabilityFields.{unpacked}
use Rattle.model.specs.declared.capabilities.Cap.{Cap}
use Rattle.model.specs.Capabilities.CapabilityWords.{IsCapability, words_of as words_of_capability}
use Rattle.model.specs.Images.Listing.{Text}
use Rattle.image_reading.proofs.Laws.{words-back}
use Rattle.asm_line.specs.declared.keywords.Keyword.{Keyword}
use Rattle.asm_line.specs.declared.keywords.Keyword.TheVariants as keyword
use Rattle.asm_line.specs.declared.lines.Line.{Line}
use Rattle.asm_line.specs.declared.lines.Line.TheVariants as line
use Rattle.asm_line.specs.Listed.{Lists}
use Rattle.asm_line.specs.Words.{◌>>=◌, name_of, words_of}
use Rattle.asm_line.specs.Lines.{keyword_of, slot_of}
use Rattle.asm_line.specs.Parsing.{IsKnown, before_comment, label_line, label_of, line_for, line_of}
use Rattle.asm_line.specs.Instructions.{instruction_of}
use Rattle.asm_line.specs.Meaning.{known, known_slot_of, labelled_line, line_read, line_said, line_with, other_line_of, said_by, numbered}
use Rattle.asm_line.proofs.ListedTexts.{reads, reads-ascii, reads-code, reads-says}
use Rattle.asm_line.specs.declared.faults.LineFault.{LineFault}
use Rattle.asm_line.specs.declared.faults.LineFault.TheVariants as fault

known-words : (word0 word1 : ℕ) (c : Cap) → IsCapability c → word0 ∷ word1 ∷ [] ≡ words_of_capability c → is_some (unpacked word0 word1) ≡ true
known-words word0 word1 c valid own =
    let first : word0 ≡ get_or (words_of_capability c) 0 0 = ap (λ (l : List ℕ). get_or l 0 0) own in
    let second : word1 ≡ get_or (words_of_capability c) 1 0 = ap (λ (l : List ℕ). get_or l 1 0) own in
    rw first (rw second (rw (words-back c valid) refl))

known-line : (l : Line) → IsKnown l → known l ≡ Ok l
unfolding known
known-line (line.Slot cnode index word0 word1 parent) h = rw (known-words word0 word1 h.0 h.1 h.2) refl
known-line line.Blank h = refl
known-line (line.Memory bits radix) h = refl
known-line (line.Untyped name entry) h = refl
known-line (line.Object name untyped kind size) h = refl
known-line (line.Interrupt name number notification badge) h = refl
known-line (line.Capability cnode index source rights payload) h = refl
known-line (line.Table root address table) h = refl
known-line (line.Frame root address frame rights) h = refl
known-line (line.Content frame words) h = refl
known-line (line.Promise endpoint low high words) h = refl
known-line (line.Thread begun) h = refl
known-line (line.Buffer frame) h = refl
known-line (line.Register entry) h = refl
known-line (line.Measure constant terms) h = refl
known-line (line.Range entry) h = refl
known-line (line.Label name) h = refl
known-line (line.Code label code) h = refl
known-line line.End h = refl

with-keyword : (k : Keyword) (words : List Text) (l : Line) → IsKnown l → line_for k words ≡ Ok l → line_with k words ≡ Ok l
unfolding line_for line_with known_slot_of
with-keyword keyword.Slot words l h e = ap (λ (r : Result Line LineFault). r >>= known) e ∙ known-line l h
with-keyword keyword.Memory words l h e = e
with-keyword keyword.Untyped words l h e = e
with-keyword keyword.Object words l h e = e
with-keyword keyword.Interrupt words l h e = e
with-keyword keyword.Capability words l h e = e
with-keyword keyword.Table words l h e = e
with-keyword keyword.Frame words l h e = e
with-keyword keyword.Content words l h e = e
with-keyword keyword.Promise words l h e = e
with-keyword keyword.Thread words l h e = e
with-keyword keyword.Buffer words l h e = e
with-keyword keyword.Register words l h e = e
with-keyword keyword.Measure words l h e = e
with-keyword keyword.Range words l h e = e
with-keyword keyword.Word words l h e = e
with-keyword keyword.End words l h e = e

said-from : (words : List Text) (l : Line) → IsKnown l → line_of words ≡ Some (Ok l) → said_by words ≡ Ok l
unfolding line_of said_by other_line_of
said-from [] l h e = same_Some _ _ e
said-from (word ∷ words) l h e = by-keyword (keyword_of word) refl e
  where
    by-label : (o : Option Text) → label_line o words ≡ Some (Ok l)
        → ◌≡◌ {A = Result Line LineFault}
        (elim o [ Some name ↦ labelled_line name words | None ↦ (instruction_of word words >>= λ said. Ok (line.Code None said)) ])
        (Ok l)
    by-label o e = by-words o words e
      where
        by-words : (o : Option Text) (ws : List Text) → label_line o ws ≡ Some (Ok l)
            → ◌≡◌ {A = Result Line LineFault}
            (elim o [ Some name ↦ labelled_line name ws | None ↦ (instruction_of word ws >>= λ said. Ok (line.Code None said)) ])
            (Ok l)
        by-words (Some name) [] e = same_Some _ _ e
        by-words (Some name) (w ∷ ws) e = absurd (let no : None ≡ Some (Ok l) = e in cc)
        by-words None ws e = absurd (let no : None ≡ Some (Ok l) = e in cc)

    by-keyword : (o : Option Keyword) → keyword_of word ≡ o →
        ◌≡◌ {A = Option (Result Line LineFault)} (elim o [ Some k ↦ Some (line_for k words) | None ↦ label_line (label_of word) words ]) (Some (Ok l))
        → ◌≡◌ {A = Result Line LineFault} (elim o [ Some k ↦ line_with k words | None ↦ other_line_of word words ]) (Ok l)
    by-keyword (Some k) is e = with-keyword k words l h (same_Some _ _ e)
    by-keyword None is e = by-label (label_of word) e

bare-text : (text : Text) → position (λ b. b == 35) text ≡ None → before_comment text ≡ text
bare-text text none = ap (λ (o : Option ℕ). option_map_or (λ end. take end text) o text) none

pub listed-said : (l : Line) (text : Text) → Lists l text → line_said text ≡ Ok l
unfolding line_said line_read
listed-said l text h =
    let r = reads l text h in
    ap numbered (ap (λ (b : Bool). if b then said_by (words_of (before_comment text)) else Err fault.Syntax) (reads-ascii l text r)
    ∙ (ap (λ t. said_by (words_of t)) (bare-text text (reads-code l text r)) ∙ said-from (words_of text) l r.known (reads-says l text r)))
