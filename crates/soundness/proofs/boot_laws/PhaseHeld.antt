-- What any slot of a state between two operations of the loader holds: nothing, or what one of the holdings so far says.
use Rattle.std.proofs.Common.{ℕ, zero, suc, ◌≡◌, ◌∙◌, ◌==◌, ◌+◌, ◌<◌, ◌&&◌, Bool, true, false, not, List, [], ◌∷◌, ◌++◌, map, filter, find, take, Option, Some}
use Rattle.std.proofs.Common.{None, option_map, if◌then◌else◌, refl, sym, ap, arith}
use Rattle.std.specs.Prelude.{flat_map, slice_get}
use Rattle.std.specs.Option.{option_map_or}
use Rattle.std.specs.List.{enumerate_from, range_with_len}
use Rattle.std.proofs.lemmas.Bool.{and_parts}
use Rattle.model.specs.declared.capabilities.Cap.{Cap}
use Rattle.model.specs.declared.capabilities.Cap.TheVariants.{Empty, InterruptControl, InterruptHandler}
use Rattle.model.specs.declared.entries.CapabilityEntry.{CapabilityEntry}
use Rattle.model.specs.declared.entries.FrameEntry.{FrameEntry}
use Rattle.model.specs.declared.entries.InterruptEntry.{InterruptEntry}
use Rattle.model.specs.declared.entries.UntypedEntry.{UntypedEntry}
use Rattle.model.specs.declared.slot_entries.Entry.{Entry}
use Rattle.model.specs.Capabilities.CapabilityKinds.{with_payload}
use Rattle.model.specs.Capabilities.Slots.{capability_at, empty_entry}
use Rattle.model.specs.Images.Described.{Holding, binding_holding, buffer_holdings, frame_holding, handler_holding, held_in, holding, listed_capability}
use Rattle.model.specs.Images.Described.{listed_holding, notification_holding, numbered, original, signalled, thread_holdings}
use Rattle.model.specs.Images.Image.{Image, Thread, no_buffer}
use Rattle.model.specs.Images.Places.{control_slot}
use Rattle.soundness.proofs.boot_laws.ReadingsSections.{buffer_holding}
use Rattle.soundness.specs.boot_laws.Loading.{Progress, boot_holdings_so_far, holdings_so_far, is_moved, is_open_so_far, loaded, original_holding_so_far}
use Rattle.soundness.specs.boot_laws.Loading.{original_so_far, originals_so_far, untyped_so_far}

-- ---- lists of holdings

-- none of them holds such a capability
free : (Cap → Bool) → List Holding → Bool
free test [] = true
free test (h ∷ hs) = not (test h.1.capability) && free test hs

free-more : (test : Cap → Bool) (h : Holding) (hs : List Holding) → test h.1.capability ≡ false → free test hs ≡ true → free test (h ∷ hs) ≡ true
unfolding free
free-more test h hs first rest = ap (λ b. not b && free test hs) first ∙ rest

free-none : (test : Cap → Bool) → free test [] ≡ true
unfolding free
free-none test = refl

free-both : (test : Cap → Bool) (xs ys : List Holding) → free test xs ≡ true → free test ys ≡ true → free test (xs ++ ys) ≡ true
unfolding free
free-both test [] ys first second = second
free-both test (x ∷ xs) ys first second =
    let parts = and_parts (not (test x.1.capability)) (free test xs) first in
    ap (λ b. b && free test (xs ++ ys)) parts.0 ∙ free-both test xs ys parts.1 second

free-map : {A : Type 0} (test : Cap → Bool) (of : A → Holding) (xs : List A) → ((k : ℕ) (x : A) → slice_get xs k ≡ Some x → test (of x).1.capability ≡ false)
    → free test (map of xs) ≡ true
free-map test of [] each = free-none test
free-map test of (x ∷ xs) each = free-more test (of x) (map of xs) (each 0 x refl) (free-map test of xs (λ k y at. each (suc k) y at))

free-flat : {A : Type 0} (test : Cap → Bool) (of : A → List Holding) (xs : List A) → ((k : ℕ) (x : A) → slice_get xs k ≡ Some x → free test (of x) ≡ true)
    → free test (flat_map of xs) ≡ true
free-flat test of [] each = free-none test
free-flat test of (x ∷ xs) each = free-both test (of x) (flat_map of xs) (each 0 x refl) (free-flat test of xs (λ k y at. each (suc k) y at))

free-filter : (test : Cap → Bool) (of : ℕ → Holding) (keep : ℕ → Bool) (xs : List ℕ) → free test (map of xs) ≡ true → free test (map of (filter keep xs)) ≡ true
unfolding free
free-filter test of keep [] all = refl
free-filter test of keep (x ∷ xs) all =
    let parts = and_parts (not (test (of x).1.capability)) (free test (map of xs)) all in
    let rest = free-filter test of keep xs parts.1 in
    elim (keep x) as (λ b. free test (map of (if b then x ∷ filter keep xs else filter keep xs)) ≡ true)
    [ true ↦ ap (λ b. b && free test (map of (filter keep xs))) parts.0 ∙ rest | false ↦ rest ]

capability_of : Option Entry → Cap
capability_of o = option_map_or (λ e. e.capability) o Empty

free-find : (test : Cap → Bool) (hs : List Holding) (slot : ℕ) → test Empty ≡ false → free test hs ≡ true
    → test (option_map_or (λ held. held) (held_in hs slot) empty_entry).capability ≡ false
unfolding free
free-find test [] slot empty all = empty
free-find test (h ∷ hs) slot empty all =
    let parts = and_parts (not (test h.1.capability)) (free test hs) all in
    elim (h.0 == slot) as (λ b.
    test (option_map_or (λ held. held) (option_map (λ g. g.1) (if b then Some h else find (λ g. g.0 == slot) hs)) empty_entry).capability ≡ false) [
      | true ↦ un-not (test h.1.capability) parts.0
      | false ↦ free-find test hs slot empty parts.1
    ]
  where
    un-not : (b : Bool) → not b ≡ true → b ≡ false
    un-not true is = absurd cc
    un-not false is = refl

-- ---- beginnings and numbers

pub get-take : {A : Type 0} (n : ℕ) (xs : List A) (k : ℕ) (x : A) → slice_get (take n xs) k ≡ Some x → (k < n) × (slice_get xs k ≡ Some x)
get-take zero xs zero x at = absurd cc
get-take zero xs (suc k) x at = absurd cc
get-take (suc n) [] zero x at = absurd cc
get-take (suc n) [] (suc k) x at = absurd cc
get-take (suc n) (y ∷ ys) zero x at = (omega arith, at)
get-take (suc n) (y ∷ ys) (suc k) x at = let rest = get-take n ys k x at in (omega (arith, rest.0), rest.1)

get-enumerated : {A : Type 0} (from : ℕ) (xs : List A) (k : ℕ) (x : ℕ × A) → slice_get (enumerate_from from xs) k ≡ Some x → (x.0 ≡ from + k)
    × (slice_get xs k ≡ Some x.1)
get-enumerated from [] zero x at = absurd cc
get-enumerated from [] (suc k) x at = absurd cc
get-enumerated {A} from (y ∷ ys) zero x at =
    let first : x.0 ≡ from = ap (λ o. option_map_or (λ (z : ℕ × A). z.0) o 0) (sym at) in
    let second : Some y ≡ Some x.1 = ap (λ o. option_map (λ (z : ℕ × A). z.1) o) at in
    (omega (arith, first), second)
get-enumerated from (y ∷ ys) (suc k) x at = let rest = get-enumerated (from + 1) ys k x at in (omega (arith, rest.0), rest.1)

pub get-numbered : {A : Type 0} (xs : List A) (k : ℕ) (x : ℕ × A) → slice_get (numbered xs) k ≡ Some x → (x.0 ≡ k) × (slice_get xs k ≡ Some x.1)
get-numbered xs k x at = let found = get-enumerated 0 xs k x at in (omega (arith, found.0), found.1)

get-range : (from count k x : ℕ) → slice_get (range_with_len from count) k ≡ Some x → (x ≡ from + k) × (k < count)
get-range from zero zero x at = absurd cc
get-range from zero (suc k) x at = absurd cc
get-range from (suc count) zero x at = (let e : from ≡ x = cc at in omega (arith, e), omega arith)
get-range from (suc count) (suc k) x at = let rest = get-range (from + 1) count k x at in (omega (arith, rest.0), omega (arith, rest.1))

-- ---- the holdings so far

-- No section so far holds such a capability.
pub record NoneHolds (image : Image) (p : Progress) (test : Cap → Bool) : Type 0 where
  pub empty : test Empty ≡ false
  pub untyped : (u : ℕ × UntypedEntry) → test (untyped_so_far image p u).1.capability ≡ false
  pub object : (number : ℕ) → number < p.objects → test (original_so_far image p number) ≡ false
  pub control : test InterruptControl ≡ false
  pub handler : (k : ℕ) (i : InterruptEntry) → k < p.handlers → slice_get image.interrupts k ≡ Some i → test (InterruptHandler i.line) ≡ false
  pub frame : (k : ℕ) (f : FrameEntry) → k < p.frames → slice_get image.frames k ≡ Some f → test (frame_holding image (k, f)).1.capability ≡ false
  pub signal : (k : ℕ) (i : InterruptEntry) → k < p.signals → slice_get image.interrupts k ≡ Some i → test (signalled image i) ≡ false
  pub listed : (k : ℕ) (c : CapabilityEntry) → k < p.capabilities → slice_get image.capabilities k ≡ Some c → test (listed_capability image c) ≡ false
  pub cspace : (k : ℕ) (t : Thread) → k < p.threads → slice_get image.threads k ≡ Some t →
      test (with_payload (original image t.header.cnode) t.header.guard) ≡ false
  pub vspace : (k : ℕ) (t : Thread) → k < p.threads → slice_get image.threads k ≡ Some t → test (original image t.header.root) ≡ false
  pub buffer : (k : ℕ) (t : Thread) → k < p.threads → slice_get image.threads k ≡ Some t → test (original image t.header.buffer) ≡ false

buffer-free : (image : Image) (t : Thread) (test : Cap → Bool) → test (original image t.header.buffer) ≡ false → free test (buffer_holdings image t) ≡ true
buffer-free image t test is = elim (t.header.buffer == no_buffer) as (λ b. free test (if b then [] else buffer_holding image t ∷ []) ≡ true) [
  | true ↦ free-none test
  | false ↦ free-more test (buffer_holding image t) [] is (free-none test)
]

boot-free : (image : Image) (p : Progress) (test : Cap → Bool) → NoneHolds image p test → free test (boot_holdings_so_far image p) ≡ true
boot-free image p test none =
    let us = map (untyped_so_far image p) (numbered image.untypeds) in
    let os = originals_so_far image p in
    let c = holding (control_slot image) InterruptControl None ∷ [] in
    let hs = map (handler_holding image) (take p.handlers (numbered image.interrupts)) in
    let fs = map (frame_holding image) (take p.frames (numbered image.frames)) in
    let ns = map (notification_holding image) (take p.signals (numbered image.interrupts)) in
    let bs = map (binding_holding image) (take p.signals (numbered image.interrupts)) in
    let u = free-map test (untyped_so_far image p) (numbered image.untypeds) (λ k x at. none.untyped x) in
    let o = free-filter test (original_holding_so_far image p) (λ number. not (is_moved image p number)) (range_with_len 0 p.objects)
    (free-map test (original_holding_so_far image p) (range_with_len 0 p.objects) (λ k x at.
    let found = get-range 0 p.objects k x at in none.object x (omega (arith, found.0, found.1)))) in
    let h = free-map test (handler_holding image) (take p.handlers (numbered image.interrupts)) (λ k x at.
    let early = get-take p.handlers (numbered image.interrupts) k x at in none.handler k x.1 early.0 (get-numbered image.interrupts k x early.1).1) in
    let f = free-map test (frame_holding image) (take p.frames (numbered image.frames)) (λ k x at.
    let early = get-take p.frames (numbered image.frames) k x at in none.frame k x.1 early.0 (get-numbered image.frames k x early.1).1) in
    let signal = λ (k : ℕ) (x : ℕ × InterruptEntry) (at : slice_get (take p.signals (numbered image.interrupts)) k ≡ Some x).
    let early = get-take p.signals (numbered image.interrupts) k x at in none.signal k x.1 early.0 (get-numbered image.interrupts k x early.1).1 in
    let n = free-map test (notification_holding image) (take p.signals (numbered image.interrupts)) signal in
    let b = free-map test (binding_holding image) (take p.signals (numbered image.interrupts)) signal in
    free-both test (((((us ++ os) ++ c) ++ hs) ++ fs) ++ ns) bs
    (free-both test ((((us ++ os) ++ c) ++ hs) ++ fs) ns
    (free-both test (((us ++ os) ++ c) ++ hs) fs
    (free-both test ((us ++ os) ++ c) hs
    (free-both test (us ++ os) c (free-both test us os u o)
    (free-more test (holding (control_slot image) InterruptControl None) [] none.control (free-none test)))
    h) f) n) b

pub none-holds : (image : Image) (p : Progress) (test : Cap → Bool) → NoneHolds image p test → (slot : ℕ) →
    test (capability_at (loaded image p).slots slot) ≡ false
unfolding loaded holdings_so_far capability_of
none-holds image p test none slot =
    let boots = boot_holdings_so_far image p in
    let ls = map (listed_holding image) (take p.capabilities image.capabilities) in
    let ts = flat_map (thread_holdings image) (take p.threads image.threads) in
    let l = free-map test (listed_holding image) (take p.capabilities image.capabilities) (λ k x at.
    let early = get-take p.capabilities image.capabilities k x at in none.listed k x early.0 early.1) in
    let t = free-flat test (thread_holdings image) (take p.threads image.threads) (λ k x at.
    let early = get-take p.threads image.threads k x at in
    free-more test _ _ (none.cspace k x early.0 early.1)
    (free-more test _ _ (none.vspace k x early.0 early.1) (buffer-free image x test (none.buffer k x early.0 early.1)))) in
    let all = free-both test (boots ++ ls) ts (free-both test boots ls (boot-free image p test none) l) t in
    let held = free-find test ((boots ++ ls) ++ ts) slot none.empty all in
    elim (is_open_so_far image p slot)
    as (λ b. test (capability_of (if b then Some (option_map_or (λ h. h) (held_in ((boots ++ ls) ++ ts) slot) empty_entry) else None)) ≡ false) [
      | true ↦ held
      | false ↦ none.empty
    ]
