-- What a line is bound to is what an interrupt of the image says of it.
use Rattle.std.proofs.Common.{ℕ, ◌≡◌, ◌∙◌, ◌<◌, inl, inr, List, Option, Some, None, refl, sym, ap, subst, arith}
use Rattle.std.specs.Prelude.{slice_get}
use Rattle.std.specs.Option.{option_map_or}
use Rattle.std.proofs.lemmas.Option.{none-some, same_Some, slice_get_within}
use Rattle.format_laws.specs.Fitting.{IsFitting}
use Rattle.format_laws.proofs.Laws.{is-fitting}
use Rattle.soundness.proofs.Laws.{AreFormed, are-formed, boot-slots-suffice, buffer-slot, cnode-slot, cspace-slot, slot-behind-boot, vspace-slot}
use Rattle.thread_spaces.proofs.Laws.{OfSections, each-own, each-slot}
use Rattle.model.specs.declared.capabilities.Cap.{Cap}
use Rattle.model.specs.declared.capabilities.Cap.TheVariants.{Empty}
use Rattle.model.specs.declared.entries.InterruptEntry.{InterruptEntry}
use Rattle.model.specs.declared.labels.Label.{Label}
use Rattle.model.specs.declared.slot_entries.Entry.{Entry}
use Rattle.model.specs.Acceptance.Accepted.{IsAccepted}
use Rattle.model.specs.Capabilities.Slots.{capability_at}
use Rattle.model.specs.Images.Described.{described, signalled}
use Rattle.model.specs.Images.Image.{Image}
use Rattle.model.specs.Images.Places.{cnode_slot, offset_of}
use Rattle.model.specs.Kernel.Interrupts.{Signal, binding, signal_of}
use Rattle.model.specs.Kernel.State.{State, buffer_slot, cspace_slot, line_slot, vspace_slot}
use Rattle.headline.specs.facts.Standing.{AllStand}
use Rattle.headline.proofs.Laws.{boot-kept}

-- a capability is that by which an interrupt of the image signals
record BindsAs (image : Image) (number : ℕ) (c : Cap) : Type 0 where
  pub place : ℕ
  pub line : InterruptEntry
  pub at : slice_get image.interrupts place ≡ Some line
  pub is : line.line ≡ number
  pub same : c ≡ signalled image line

-- an interrupt of the image is of this line, and signals this object
pub record IsBound (image : Image) (number notification : ℕ) : Type 0 where
  pub place : ℕ
  pub line : InterruptEntry
  pub at : slice_get image.interrupts place ≡ Some line
  pub is : line.line ≡ number
  pub object : notification ≡ offset_of image line.notification

module _ (bytes : List ℕ) (image : Image) (accepted : IsAccepted bytes image) where
  abbrev fitting : IsFitting image
  fitting = is-fitting image accepted.spelled.fits

  abbrev formed : AreFormed image
  formed = are-formed image accepted.formed

  Binds : ℕ → Entry → Type 0
  Binds slot held = (number : ℕ) → number < 64 → slot ≡ line_slot image.header.boot_radix number → BindsAs image number held.capability

  all-bind : OfSections Binds image
  unfolding Binds
  all-bind =
      let room = boot-slots-suffice image fitting formed in
      record {
        untyped = λ k u at number few same.
            let less : k < image.header.untypeds = subst (λ (n : ℕ). k < n) fitting.untypeds (slice_get_within image.untypeds k u at) in
            absurd (omega (arith, less, room, same));
        original = λ k less number few same. absurd (omega (arith, less, room, same));
        control = λ number few same. absurd (omega (arith, room, same));
        handler = λ k i at number few same.
            let less : k < image.header.interrupts = subst (λ (n : ℕ). k < n) fitting.interrupts (slice_get_within image.interrupts k i at) in
            absurd (omega (arith, less, room, same));
        frame = λ k f at number few same.
            let less : k < image.header.frames = subst (λ (n : ℕ). k < n) fitting.frames (slice_get_within image.frames k f at) in
            absurd (omega (arith, less, room, same));
        notification = λ k i at number few same.
            let less : k < image.header.interrupts = subst (λ (n : ℕ). k < n) fitting.interrupts (slice_get_within image.interrupts k i at) in
            absurd (omega (arith, less, room, same));
        binding = λ k i at number few same. record { place = k; line = i; at = at; is = omega (arith, same); same = refl };
        listed = λ k c at number few same.
            let kept = formed.capability k c at in
            let behind = slot-behind-boot image fitting formed c.cnode (cnode_slot image c.cnode c.index) (fitting.capability k c at).cnode
            (cnode-slot image c.cnode c.index kept.slot) in
            absurd (omega (arith, behind, few, same));
        thread = λ k t at.
            let kept = formed.thread k t at in
            let less = (fitting.thread k t at).tcb in
            let tcb = offset_of image t.header.tcb in
            let first = slot-behind-boot image fitting formed t.header.tcb (cspace_slot tcb) less (cspace-slot image t.header.tcb kept.tcb) in
            let second = slot-behind-boot image fitting formed t.header.tcb (vspace_slot tcb) less (vspace-slot image t.header.tcb kept.tcb) in
            let third = slot-behind-boot image fitting formed t.header.tcb (buffer_slot tcb) less (buffer-slot image t.header.tcb kept.tcb) in
            each-own Binds image t (λ number few same. absurd (omega (arith, first, few, same))) (λ number few same. absurd (omega (arith, second, few, same)))
            (λ some number few same. absurd (omega (arith, third, few, same)));
      }

  signals-so : (number : ℕ) (bound : Signal) (c : Cap) → BindsAs image number c → signal_of c ≡ Some bound → IsBound image number bound.notification
  signals-so number bound c b is = record {
    place = b.place;
    line = b.line;
    at = b.at;
    is = b.is;
    object = ap (λ (s : Signal). s.notification)
        (same_Some bound (record { notification = offset_of image b.line.notification; badge = b.line.badge }) (sym is ∙ ap signal_of b.same));
  }

  -- in any state
  pub bound-so : (s : State) (labels : List Label) → AllStand image s labels → (number : ℕ) → number < 64 → (bound : Signal) → binding s number ≡ Some bound
      → IsBound image number bound.notification
  unfolding Binds
  bound-so s labels all number few bound is =
      let slot = line_slot image.header.boot_radix number in
      let here : signal_of (option_map_or (λ (x : Entry). x.capability) ((described image).slots slot) Empty) ≡ Some bound =
      ap (λ (e : Option Entry). signal_of (option_map_or (λ x. x.capability) e Empty))
      (sym (boot-kept image accepted.spelled.fits accepted.formed s labels all slot (omega (arith, few))))
      ∙ ap (λ (radix : ℕ). signal_of (capability_at s.slots (line_slot radix number))) (sym all.boot_radix) ∙ is in
      by ((described image).slots slot) refl here
    where
      by : (o : Option Entry) → (described image).slots (line_slot image.header.boot_radix number) ≡ o
          → signal_of (option_map_or (λ (x : Entry). x.capability) o Empty) ≡ Some bound → IsBound image number bound.notification
      by None there none = absurd (none-some bound none)
      by (Some held) there has = elim (each-slot Binds image all-bind (line_slot image.header.boot_radix number) held there) [
        | inl empty ↦ absurd (none-some bound (sym (ap (λ (e : Entry). signal_of e.capability) empty) ∙ has))
        | inr binds ↦ signals-so number bound held.capability (binds number few refl) has
      ]
