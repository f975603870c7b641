-- What is found among lent names is found among their texts.
use Rattle.std.specs.Prelude.{map, not, is_some, nat_lt, position, Option, ◌||◌, if◌then◌else◌}
use Rattle.std.proofs.Common.{◌≡◌, Bool, true, false, cond, List, [], ◌∷◌, ◌++◌, Some, None, refl, sym, ap, ◌∙◌, ◌+◌, true≢false}
use Rattle.std.specs.List.{list_any, prefix_len}
use Rattle.std.specs.Map.{lookup}
use Rattle.std.specs.Str.{bytes_eq}
use Rattle.std.proofs.lemmas.List.{length-map, map-append}
use Rattle.indexmap.specs.IndexMap.{insert_entry}
use Rattle.indexmap.specs.IndexSet.{insert_key}
use denote.Ref.{Bor}
use Rattle.model.specs.Images.Listing.{Text}

abbrev pub text_of : Bor Text → Text
text_of k = k.now

abbrev pub with_text : {V : Type 0} → Bor Text × V → Text × V
with_text e = (e.0.now, e.1)

abbrev pub same_text : Bor Text → Bor Text → Bool
same_text x y = bytes_eq x.now y.now

pub any-shown : (p : Text → Bool) (ks : List (Bor Text)) → list_any (λ (k : Bor Text). p k.now) ks ≡ list_any p (map text_of ks)
any-shown p [] = refl
any-shown p (k ∷ ks) = ap (λ b. p k.now || b) (any-shown p ks)

prefix-shown : (p : Text → Bool) (ks : List (Bor Text)) → prefix_len (λ (k : Bor Text). p k.now) ks ≡ prefix_len p (map text_of ks)
prefix-shown p [] = refl
prefix-shown p (k ∷ ks) = ap (λ n. cond (p k.now) (1 + n) 0) (prefix-shown p ks)

pub position-shown : (p : Text → Bool) (ks : List (Bor Text)) → position (λ (k : Bor Text). p k.now) ks ≡ position p (map text_of ks)
position-shown p ks =
    (λ i. let n = prefix-shown (λ t. not (p t)) ks i in cond (nat_lt n (sym (length-map ks text_of) i)) (Some n) None)

pub lookup-shown : {V : Type 0} (p : Text → Bool) (es : List (Bor Text × V)) → lookup (λ (k : Bor Text). p k.now) es ≡ lookup p (map with_text es)
lookup-shown p [] = refl
lookup-shown p (e ∷ es) = ap (λ o. cond (p e.0.now) (Some e.1) o) (lookup-shown p es)

-- a name that is not there goes to the end
pub insert-shown : {V : Type 0} (k : Bor Text) (v : V) (es : List (Bor Text × V)) → lookup (bytes_eq k.now) (map with_text es) ≡ None
    → map with_text (insert_entry same_text es k v) ≡ map with_text es ++ (k.now, v) ∷ []
insert-shown k v [] none = refl
insert-shown {V} k v (e ∷ es) none = by (bytes_eq k.now e.0.now) refl (insert-shown k v es)
  where
    by : (b : Bool) → bytes_eq k.now e.0.now ≡ b
        → (lookup (bytes_eq k.now) (map with_text es) ≡ None → map with_text (insert_entry same_text es k v) ≡ map with_text es ++ (k.now, v) ∷ [])
        → map with_text (insert_entry same_text (e ∷ es) k v) ≡ map with_text (e ∷ es) ++ (k.now, v) ∷ []
    by true q others = absurd (let found : Some e.1 ≡ None = sym (ap (λ b. cond b (Some e.1) (lookup (bytes_eq k.now) (map with_text es))) q) ∙ none in cc)
    by false q others = let left : lookup (bytes_eq k.now) (map with_text es) ≡ None =
        sym (ap (λ b. cond b (Some e.1) (lookup (bytes_eq k.now) (map with_text es))) q) ∙ none in
        ap (λ b. map with_text (if b then (e.0, v) ∷ es else e ∷ insert_entry same_text es k v)) q ∙ ap (λ xs. with_text e ∷ xs) (others left)

pub insert-key-shown : (k : Bor Text) (ks : List (Bor Text)) → list_any (bytes_eq k.now) (map text_of ks) ≡ false
    → map text_of (insert_key same_text ks k) ≡ map text_of ks ++ k.now ∷ []
insert-key-shown k ks none = ap (λ b. map text_of (if b then ks else ks ++ k ∷ [])) (any-shown (bytes_eq k.now) ks ∙ none) ∙ map-append text_of ks (k ∷ [])

-- where one of three is not so, none is
pub none-of-three : (a b c : Bool) → (a || b || c) ≡ false → (a ≡ false) × (b ≡ false) × (c ≡ false)
none-of-three true b c h = absurd (true≢false h)
none-of-three false true c h = absurd (true≢false h)
none-of-three false false c h = (refl, refl, h)

pub is-none : {V : Type 0} (o : Option V) → is_some o ≡ false → o ≡ None
is-none None h = refl
is-none (Some x) h = absurd (true≢false h)
