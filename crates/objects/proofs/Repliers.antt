-- The word that is written says who may reply.
use Rattle.std.proofs.Common.{ℕ, ◌≡◌, ◌∙◌, ◌+◌, ◌-◌, ◌^◌, ◌<◌, ◌≤◌, ◌==◌, Bool, false, Option, Some, None, List, length, if◌then◌else◌, refl, ap, arith}
use Rattle.std.specs.Prelude.{slice_index}
use Rattle.std.specs.Option.{ForSome, unwrap_or}
use Rattle.model.proofs.BytesLemmas.{word_at-written}
use Rattle.model.specs.Shared.Bytes.{word_bytes, written}
use Rattle.objects.proofs.Made.{word-beside, word-size}
use Rattle.objects.specs.Rights.{SameBesideReplier, one_of, replier_at}

word-of : (replier : Option ℕ) → ForSome replier (λ holder. holder < 2 ^ 24) → unwrap_or replier (2 ^ 32 - 1) < 2 ^ 32
word-of None small = omega arith
word-of (Some holder) small =
    let less : holder < 2 ^ 24 = small holder refl in
    let word : holder < 2 ^ 32 = omega (arith, less) in
    word

one-back : (replier : Option ℕ) → ForSome replier (λ holder. holder < 2 ^ 24) → one_of (unwrap_or replier (2 ^ 32 - 1)) ≡ replier
one-back None small = refl
one-back (Some holder) small =
    let less : holder < 2 ^ 24 = small holder refl in
    let other : (holder == 2 ^ 32 - 1) ≡ false = grind (arith, less) in
    ap (λ (b : Bool). if b then None else Some holder) other

pub replier-kept : (memory now : List ℕ) (thread : ℕ) (replier : Option ℕ) (word : ℕ) → now ≡ written memory (thread + 268) (word_bytes word)
    → word ≡ unwrap_or replier (2 ^ 32 - 1) → thread + 272 ≤ length memory → ForSome replier (λ holder. holder < 2 ^ 24) → replier_at now thread ≡ replier
replier-kept memory now thread replier word put is within small =
    let read = word_at-written memory (thread + 268) word (omega (arith, within)) (rw is (word-of replier small)) in
    ap (λ (m : List ℕ). replier_at m thread) put ∙ ap one_of (read ∙ is) ∙ one-back replier small

pub replier-beside : (memory now : List ℕ) (thread word : ℕ) → now ≡ written memory (thread + 268) (word_bytes word) → thread + 272 ≤ length memory
    → SameBesideReplier (Some thread) memory now
replier-beside memory now thread word put within = record {
  size = ap (λ (m : List ℕ). length m) put ∙ word-size memory (thread + 268) word (omega (arith, within));
  bytes = λ place apart.
      ap (λ (m : List ℕ). slice_index m place) put
      ∙ word-beside memory (thread + 268) word place (omega (arith, within)) (λ least less. apart thread refl least (omega (arith, less)));
}
