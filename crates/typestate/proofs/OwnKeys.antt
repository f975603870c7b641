-- What the places of a thread's CNodes tell is what the image says of them.
use Rattle.std.proofs.Common.{ℕ, ◌≡◌, ◌∙◌, ◌==◌, ◌^◌, ◌&&◌, ◌||◌, inl, inr, Bool, true, false, nat_lt, Option, List, [], ◌∷◌, refl, sym, ap}
use Rattle.std.specs.Option.{option_map_or}
use Rattle.std.specs.List.{list_any}
use Rattle.std.proofs.lemmas.Bool.Decides.{eqb_tells}
use Rattle.model.specs.Acceptance.NotedStates.{SlotKey, is_own, is_own_cnode}
use Rattle.model.specs.Acceptance.ThreadRules.{is_member}
use Rattle.model.specs.Acceptance.WellFormed.{has_slot, radix_of}
use Rattle.model.specs.Images.Image.{Image}
use Rattle.model.specs.Images.Places.{offset_of, type_at}
use Rattle.typestate.specs.Spaces.{AreWindows}
use Rattle.typestate.specs.Strays.{has_key, is_at}
use Rattle.typestate.specs.declared.window.Window.{Window}

taken : (a m : Bool) → (a || m && a) ≡ a
taken true m = refl
taken false true = refl
taken false false = refl

-- a slot of the thread's
pub own-told : (image : Image) (cnodes : List ℕ) (windows : List Window) (key : SlotKey) → AreWindows image cnodes windows →
    list_any (has_key key) windows ≡ is_own image cnodes key
own-told image [] [] key are = refl
own-told image [] (w ∷ ws) key are = absurd are
own-told image (cnode ∷ cnodes) [] key are = absurd are
own-told image (cnode ∷ cnodes) (w ∷ ws) key are =
    let rest = own-told image cnodes ws key are.1 in
    let within = nat_lt key.index (2 ^ w.radix) in
    let more = is_member key.cnode cnodes in
    let here : ((key.cnode == w.cnode) && within || list_any (has_key key) ws) ≡ ((key.cnode == cnode) && within || more && has_slot image key.cnode key.index)
    = ap (λ n. (key.cnode == n) && within || list_any (has_key key) ws) (are.0).object ∙ ap (λ b. (key.cnode == cnode) && within || b) rest in
    here ∙ (elim (eqb_tells key.cnode cnode) [
      | inl same ↦
          let kind : has_slot image key.cnode key.index ≡ within =
          ap (λ n. has_slot image n key.index) same.1 ∙ ap (λ (r : Option ℕ). option_map_or (λ radix. nat_lt key.index (2 ^ radix)) r false) (are.0).size in
          ap (λ b. b && within || more && has_slot image key.cnode key.index) same.0 ∙ ap (λ b. within || more && b) kind ∙ taken within more
          ∙ sym kind ∙ sym (ap (λ b. (b || more) && has_slot image key.cnode key.index) same.0)
      | inr other ↦
          ap (λ b. b && within || more && has_slot image key.cnode key.index) other.0
          ∙ sym (ap (λ b. (b || more) && has_slot image key.cnode key.index) other.0)
    ])

-- a CNode of the thread's
pub own-cnode-told : (image : Image) (cnodes : List ℕ) (windows : List Window) (offset radix : ℕ) → AreWindows image cnodes windows →
    list_any (is_at offset radix) windows ≡ is_own_cnode image cnodes offset radix
own-cnode-told image [] [] offset radix are = refl
own-cnode-told image [] (w ∷ ws) offset radix are = absurd are
own-cnode-told image (cnode ∷ cnodes) [] offset radix are = absurd are
own-cnode-told image (cnode ∷ cnodes) (w ∷ ws) offset radix are =
    ap (λ n. (n == offset) && (w.radix == radix) || list_any (is_at offset radix) ws) (are.0).place
    ∙ ap (λ (r : Option ℕ). (offset_of image cnode == offset) && option_map_or (λ own. own == radix) r false || list_any (is_at offset radix) ws)
    (sym (are.0).size)
    ∙ ap (λ b. (offset_of image cnode == offset) && option_map_or (λ own. own == radix) (radix_of (type_at image cnode)) false || b)
    (own-cnode-told image cnodes ws offset radix are.1)
