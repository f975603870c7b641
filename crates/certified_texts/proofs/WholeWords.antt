-- A word between bytes that part words is one of the words of all.
use Rattle.std.proofs.Common.{◌≡◌, true, [], ◌∷◌, ◌++◌, refl, sym, ap, ◌∙◌, append-nil, append_assoc}
use Rattle.model.specs.Images.Listing.{Text}
use Rattle.certified_texts.specs.Lines.{EndsApart, begins_apart, words_of}
use Rattle.certified_texts.proofs.Splitting.{blank-first, words-at}

no-words : words_of [] ≡ []
unfolding words_of
no-words = refl

word-first : (word tail : Text) → words_of word ≡ word ∷ [] → begins_apart tail ≡ true → words_of (word ++ tail) ≡ word ∷ words_of tail
word-first word [] alone apart = ap words_of (append-nil word) ∙ (alone ∙ ap (λ l. word ∷ l) (sym no-words))
word-first word (b ∷ tail) alone apart =
    words-at word b tail apart ∙ (ap (λ l. l ++ words_of tail) alone ∙ ap (λ l. word ∷ l) (sym (blank-first b tail apart)))

before-apart : (before : Text) → EndsApart before → (more : Text) → words_of (before ++ more) ≡ words_of before ++ words_of more
before-apart before ends more =
    let others = ends.others in
    let all : words_of (others ++ ends.last ∷ more) ≡ words_of others ++ words_of more = words-at others ends.last more ends.parts in
    let front : words_of before ≡ words_of others =
    ap words_of ends.is ∙ (words-at others ends.last [] ends.parts ∙ (ap (λ l. words_of others ++ l) no-words ∙ append-nil (words_of others))) in
    let joined : before ++ more ≡ others ++ ends.last ∷ more = ap (λ l. l ++ more) ends.is ∙ append_assoc others (ends.last ∷ []) more in
    ap words_of joined ∙ (all ∙ ap (λ l. l ++ words_of more) (sym front))

-- a word after bytes that end apart, and before some that begin apart
pub whole-word : (before word tail : Text) → EndsApart before → words_of word ≡ word ∷ [] → begins_apart tail ≡ true
    → words_of (before ++ (word ++ tail)) ≡ words_of before ++ word ∷ words_of tail
whole-word before word tail ends alone apart =
    before-apart before ends (word ++ tail) ∙ ap (λ l. words_of before ++ l) (word-first word tail alone apart)
