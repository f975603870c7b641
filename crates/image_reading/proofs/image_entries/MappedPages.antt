-- No frame is mapped at an address under a root table but the one that is found.
use Rattle.std.proofs.Common.{◌≡◌, ◌∙◌, ◌==◌, ◌&&◌, ◌||◌, ℕ, suc, ◌<◌, Bool, true, false, if◌then◌else◌, Option, Some, List, [], ◌∷◌, refl, sym, ap, arith}
use Rattle.std.specs.Prelude.{find, slice_get}
use Rattle.std.specs.List.{list_any}
use Rattle.std.specs.Option.{option_map_or}
use Rattle.std.proofs.lemmas.Bool.{and_parts, eqb-true}
use Rattle.model.specs.declared.entries.FrameEntry.{FrameEntry}
use Rattle.model.specs.Images.Image.{pair_key}

-- each frame has a higher key than those before it
abbrev pub DoFramesRise : List FrameEntry → Type 0
DoFramesRise frames = (i j : ℕ) (a b : FrameEntry) → i < j → slice_get frames i ≡ Some a → slice_get frames j ≡ Some b
    → pair_key a.root a.address < pair_key b.root b.address

or-none : (a b : Bool) → b ≡ false → a ≡ (a || b)
or-none true b is = refl
or-none false b is = sym is

module _ (root address : ℕ) (allowed : FrameEntry → Bool) where
  abbrev pub is_at : FrameEntry → Bool
  is_at f = f.root == root && f.address == address

  abbrev pub is_open : FrameEntry → Bool
  is_open f = f.root == root && (f.address == address) && allowed f

  none-open : (frames : List FrameEntry) → ((k : ℕ) (f : FrameEntry) → slice_get frames k ≡ Some f → is_at f ≡ false) → list_any is_open frames ≡ false
  none-open [] none = refl
  none-open (f ∷ rest) none =
      ap (λ b. (b && allowed f) || list_any is_open rest) (none 0 f refl) ∙ none-open rest (λ k g at. none (suc k) g at)

  apart : (f g : FrameEntry) → is_at f ≡ true → pair_key f.root f.address < pair_key g.root g.address → is_at g ≡ false
  apart f g here rises = elim (is_at g) as (λ b. is_at g ≡ b → b ≡ false) [
    | true ↦ λ there.
        let one = and_parts (f.root == root) (f.address == address) here in
        let two = and_parts (g.root == root) (g.address == address) there in
        let r : f.root ≡ g.root = eqb-true f.root root one.0 ∙ sym (eqb-true g.root root two.0) in
        let a : f.address ≡ g.address = eqb-true f.address address one.1 ∙ sym (eqb-true g.address address two.1) in
        absurd (omega (arith, r, a, rises))
    | false ↦ λ isnt. refl
  ] refl

  behind : (f : FrameEntry) (rest : List FrameEntry) → DoFramesRise (f ∷ rest) → DoFramesRise rest
  behind f rest rise i j a b less at there = rise (suc i) (suc j) a b (omega (arith, less)) at there

  found-open : (frames : List FrameEntry) → DoFramesRise frames → option_map_or allowed (find is_at frames) false ≡ list_any is_open frames
  found-open [] rise = refl
  found-open (f ∷ rest) rise = elim (is_at f) as (λ b. is_at f ≡ b →
      option_map_or allowed (if b then Some f else find is_at rest) false ≡ ((b && allowed f) || list_any is_open rest)) [
        | true ↦ λ here.
            let none = none-open rest (λ k g at. apart f g here (rise 0 (suc k) f g (omega arith) refl at)) in
            or-none (allowed f) (list_any is_open rest) none
        | false ↦ λ _. found-open rest (behind f rest rise)
      ] refl

  pub one-open : (frames : List FrameEntry) (found : Option FrameEntry) → DoFramesRise frames → found ≡ find is_at frames
      → list_any is_open frames ≡ option_map_or allowed found false
  one-open frames found rise is = sym (found-open frames rise) ∙ ap (λ (f : Option FrameEntry). option_map_or allowed f false) (sym is)
