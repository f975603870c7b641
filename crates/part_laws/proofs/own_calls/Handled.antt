-- The acknowledgement of a line by a thread of the part, in the whole and alone.
use Rattle.std.proofs.Common.{ℕ, ◌≡◌, ◌∙◌, ◌==◌, ◌&&◌, Bool, true, false, if◌then◌else◌, Option, Some, refl, sym, ap, ap₂, subst}
use Rattle.std.specs.Prelude.{slice_get}
use Rattle.std.specs.Option.{option_map_or}
use Rattle.std.specs.List.{list_any}
use Rattle.std.proofs.lemmas.Bool.{and_parts, eq-eqb, eqb-true, false≢true, ne_eqb, not-false}
use Rattle.format_laws.proofs.Laws.{is-fitting}
use Rattle.soundness.proofs.Laws.{are-formed}
use Rattle.model.specs.declared.capabilities.Cap.TheVariants.{Empty, InterruptHandler}
use Rattle.model.specs.declared.entries.InterruptEntry.{InterruptEntry}
use Rattle.model.specs.Acceptance.Authority.{IsOwnSlot}
use Rattle.model.specs.Acceptance.WellFormed.{is_notification_type}
use Rattle.model.specs.Capabilities.Slots.{capability_at}
use Rattle.model.specs.Images.Described.{Numbered}
use Rattle.model.specs.Images.Image.{Image, Thread}
use Rattle.model.specs.Images.Places.{offset_of, type_at}
use Rattle.model.specs.Kernel.Interrupts.{Signal, acknowledge, binding, interrupt, with_pending}
use Rattle.model.specs.Kernel.Messages.{signal}
use Rattle.model.specs.Kernel.State.{State, put}
use Rattle.headline.specs.parts.Agreeing.{IsMemberOf}
use Rattle.headline.specs.parts.Parts.{Part, alone, is_in, is_line_of, takes}
use Rattle.headline.proofs.Laws.{is-listed}
use Rattle.part_laws.specs.Agreeing.{AgreeFor, IsOfPart, is_taken}
use Rattle.part_laws.specs.Both.{BothStand}
use Rattle.part_laws.proofs.changes.Members.{any-at, listed-from, some-passes}
use Rattle.part_laws.proofs.changes.Signals.{signal-agrees}
use Rattle.part_laws.proofs.outside.OtherEvents.{taken-notification}
use Rattle.part_laws.proofs.outside.Reaching.{handler-listed, line-bound, one-line}
use Rattle.part_laws.proofs.own_steps.AloneImages.{alone-offset}
use Rattle.part_laws.proofs.own_steps.Rings.{queued, rung, rung-alone}
use Rattle.part_laws.proofs.own_steps.Waiters.{waiter-inside}

-- the line is not masked any more
abbrev unmasked : State → ℕ → State
unmasked a number = record a { masked = put a.masked number false }

-- and an interrupt that was pending is delivered
abbrev delivered : State → ℕ → Option Signal → State
delivered a number found = option_map_or (interrupt (with_pending (unmasked a number) number false) number) found (unmasked a number)

module _ (image : Image) (part : Part) (s t : State) (both : BothStand image part s t) (agree : AgreeFor image part s t) where
  abbrev Agree : State → State → Type 0
  Agree a b = AgreeFor image part a b

  -- other bits of lines, with the same of the part
  bits-agree : (a b : State) (m k p q : ℕ → Bool) → ((line : ℕ) → is_line_of image part line ≡ true → m line ≡ k line)
      → ((line : ℕ) → is_line_of image part line ≡ true → p line ≡ q line) → Agree a b
      → Agree (record a { masked = m; pending = p }) (record b { masked = k; pending = q })
  bits-agree a b m k p q masks pends before = record {
    objects = λ offset of. before.objects offset of;
    bytes = λ place of. before.bytes place of;
    slots = λ slot of. before.slots slot of;
    masked = masks;
    pending = pends;
    ready = λ priority. before.ready priority;
  }

  put-same : (number : ℕ) (bit : Bool) (m k : ℕ → Bool) (line : ℕ) → m line ≡ k line → put m number bit line ≡ put k number bit line
  put-same number bit m k line same = ap (λ (b : Bool). if line == number then bit else b) same

  module _ (number : ℕ) (place : ℕ) (line : InterruptEntry) (at : slice_get image.interrupts place ≡ Some line) (named : line.line ≡ number) where
    abbrev object : ℕ
    object = line.notification

    abbrev bound : Signal
    bound = record { notification = offset_of image object; badge = line.badge }

    bound-here : binding s number ≡ Some bound
    bound-here = ap (binding s) (sym named) ∙ line-bound both.bytes image both.accepted s both.labels both.stand place line at

    bound-alone : binding t number ≡ Some bound
    unfolding alone
    bound-alone =
        ap (binding t) (sym named)
        ∙ line-bound both.alone_bytes (alone image part) both.alone_accepted t both.alone_labels both.alone_stand place line at
        ∙ ap (λ (n : ℕ). Some (let b : Signal = record { notification = n; badge = line.badge } in b)) (alone-offset image part object)

    -- ---- a line of the part's

    module _ (own : is_line_of image part number ≡ true) (of : IsOfPart image part (offset_of image object)) where
      unmasked-agree : Agree (unmasked s number) (unmasked t number)
      unmasked-agree =
          bits-agree s t (put s.masked number false) (put t.masked number false) s.pending t.pending
          (λ other is. put-same number false s.masked t.masked other (agree.masked other is)) agree.pending agree

      settled-agree : Agree (with_pending (unmasked s number) number false) (with_pending (unmasked t number) number false)
      settled-agree =
          bits-agree s t (put s.masked number false) (put t.masked number false) (put s.pending number false) (put t.pending number false)
          (λ other is. put-same number false s.masked t.masked other (agree.masked other is))
          (λ other is. put-same number false s.pending t.pending other (agree.pending other is)) agree

      delivered-agree : Agree (delivered s number (Some bound)) (delivered t number (Some bound))
      delivered-agree =
          let a = with_pending (unmasked s number) number false in
          let b = with_pending (unmasked t number) number false in
          let n = offset_of image object in
          let rang = signal-agrees image part a b n line.badge settled-agree of
          (λ w there. waiter-inside image part s t both n w of (queued (s.objects n) w there)) in
          bits-agree (signal a n line.badge) (signal b n line.badge) (put a.masked number true) (put b.masked number true)
          (signal a n line.badge).pending (signal b n line.badge).pending
          (λ other is. put-same number true a.masked b.masked other (settled-agree.masked other is)) rang.pending rang

      own-agrees : Agree (acknowledge s number) (acknowledge t number)
      own-agrees =
          subst (λ (found : Option Signal). Agree (if s.pending number then delivered s number found else unmasked s number) (acknowledge t number))
          (sym bound-here)
          (subst (λ (found : Option Signal). Agree (if s.pending number then delivered s number (Some bound) else unmasked s number)
          (if t.pending number then delivered t number found else unmasked t number)) (sym bound-alone)
          (subst (λ (bit : Bool). Agree (if s.pending number then delivered s number (Some bound) else unmasked s number)
          (if bit then delivered t number (Some bound) else unmasked t number)) (agree.pending number own) (by (s.pending number))))
        where
          by : (bit : Bool) → Agree (if bit then delivered s number (Some bound) else unmasked s number)
              (if bit then delivered t number (Some bound) else unmasked t number)
          by true = delivered-agree
          by false = unmasked-agree

    -- ---- another line

    module _ (none : IsOfPart image part (offset_of image object) → ⊥) (other : is_line_of image part number ≡ false) where
      apart : (l : ℕ) → is_line_of image part l ≡ true → (l == number) ≡ false
      apart l own = ne_eqb l number (λ same. false≢true (sym other ∙ ap (is_line_of image part) (sym same) ∙ own))

      put-away : (bit : Bool) (m : ℕ → Bool) (l : ℕ) → is_line_of image part l ≡ true → put m number bit l ≡ m l
      put-away bit m l own = ap (λ (b : Bool). if b then bit else m l) (apart l own)

      whole-agrees : Agree (acknowledge s number) t
      whole-agrees =
          subst (λ (found : Option Signal). Agree (if s.pending number then delivered s number found else unmasked s number) t) (sym bound-here)
          (by (s.pending number))
        where
          by : (bit : Bool) → Agree (if bit then delivered s number (Some bound) else unmasked s number) t
          by false =
              bits-agree s t (put s.masked number false) t.masked s.pending t.pending
              (λ l own. put-away false s.masked l own ∙ agree.masked l own) agree.pending agree
          by true =
              let a = with_pending (unmasked s number) number false in
              let before : Agree a t = bits-agree s t (put s.masked number false) t.masked (put s.pending number false) t.pending
              (λ l own. put-away false s.masked l own ∙ agree.masked l own) (λ l own. put-away false s.pending l own ∙ agree.pending l own) agree in
              let rang = rung image part s t both agree (offset_of image object) none a t refl line.badge before in
              bits-agree (signal a (offset_of image object) line.badge) t (put a.masked number true) t.masked
              (signal a (offset_of image object) line.badge).pending t.pending
              (λ l own. put-away true a.masked l own ∙ before.masked l own) rang.pending rang

      other-agrees : Agree (acknowledge s number) (acknowledge t number)
      other-agrees =
          subst (λ (found : Option Signal). Agree (acknowledge s number) (if t.pending number then delivered t number found else unmasked t number))
          (sym bound-alone) (by (t.pending number))
        where
          by : (bit : Bool) → Agree (acknowledge s number) (if bit then delivered t number (Some bound) else unmasked t number)
          by false =
              bits-agree (acknowledge s number) t (acknowledge s number).masked (put t.masked number false) (acknowledge s number).pending t.pending
              (λ l own. whole-agrees.masked l own ∙ sym (put-away false t.masked l own)) whole-agrees.pending whole-agrees
          by true =
              let b = with_pending (unmasked t number) number false in
              let x = acknowledge s number in
              let before : Agree x b = bits-agree x t x.masked (put t.masked number false) x.pending (put t.pending number false)
              (λ l own. whole-agrees.masked l own ∙ sym (put-away false t.masked l own))
              (λ l own. whole-agrees.pending l own ∙ sym (put-away false t.pending l own)) whole-agrees in
              let rang = rung-alone image part s t both agree (offset_of image object) none x b refl line.badge before in
              bits-agree x (signal b (offset_of image object) line.badge) x.masked (put b.masked number true) x.pending
              (signal b (offset_of image object) line.badge).pending
              (λ l own. before.masked l own ∙ sym (put-away true b.masked l own)) rang.pending rang

    -- ---- whichever

    abbrev taken_by : Thread → Bool
    taken_by v = is_in part v && takes image v object

    listed-agrees : Agree (acknowledge s number) (acknowledge t number)
    listed-agrees = elim (list_any taken_by image.threads) as (λ b. list_any taken_by image.threads ≡ b → Agree (acknowledge s number) (acknowledge t number)) [
      | true ↦ λ some.
          let p = some-passes taken_by image.threads some in
          let flags = and_parts (is_in part p.entry) (takes image p.entry object) p.is in
          let listed = listed-from 0 image.threads p.place p.entry p.at in
          let own : is_line_of image part number ≡ true =
          any-at (λ (i : InterruptEntry). i.line == number && list_any (λ v. is_in part v && takes image v i.notification) image.threads) image.interrupts
          place line at (ap₂ (λ (x y : Bool). x && y) (eq-eqb line.line number named) some) in
          own-agrees own (is_taken object (record {
            thread = record { number = listed.0; thread = p.entry };
            member = record { listed = listed.1; inside = flags.0 };
            inside = ((is-fitting image both.accepted.spelled.fits).interrupt place line at).notification;
            takes = flags.1;
          }) refl)
      | false ↦ λ none. other-agrees (λ of.
          let taken = taken-notification both.bytes image both.accepted part object
          ((is-fitting image both.accepted.spelled.fits).interrupt place line at).notification of
          (not-false (is_notification_type (type_at image object)) ((are-formed image both.accepted.formed).interrupt place line at)) in
          let among = is-listed image taken.thread taken.member.listed in
          false≢true (sym none ∙ any-at taken_by image.threads among.number taken.thread.thread among.listed
          (ap₂ (λ (a b : Bool). a && b) taken.member.inside taken.takes)))
          (none-of none (is_line_of image part number) refl)
    ] refl
      where
        none-of : list_any taken_by image.threads ≡ false → (b : Bool) → is_line_of image part number ≡ b → b ≡ false
        none-of none false is = refl
        none-of none true is =
            let p = some-passes (λ (i : InterruptEntry). i.line == number && list_any (λ v. is_in part v && takes image v i.notification) image.threads)
            image.interrupts is in
            let i = p.entry in
            let flags = and_parts (i.line == number) (list_any (λ v. is_in part v && takes image v i.notification) image.threads) p.is in
            let same : i ≡ line = one-line image (is-fitting image both.accepted.spelled.fits) p.place place i line p.at at
            (eqb-true i.line number flags.0 ∙ sym named) in
            absurd (false≢true (sym none
            ∙ ap (λ (j : InterruptEntry). list_any (λ v. is_in part v && takes image v j.notification) image.threads) (sym same) ∙ flags.1))

  pub ack-agrees : (u : Numbered) → IsMemberOf image part u → (slot number : ℕ) → IsOwnSlot image u.thread slot
      → capability_at s.slots slot ≡ InterruptHandler number → Agree (acknowledge s number) (acknowledge t number)
  ack-agrees u member slot number own is =
      let l = handler-listed image u.thread (capability_at s.slots slot) number is
      (both.given u slot member.listed own (λ empty. let e : InterruptHandler number ≡ Empty = sym is ∙ empty in cc)) in
      listed-agrees number l.place l.line l.at l.is
