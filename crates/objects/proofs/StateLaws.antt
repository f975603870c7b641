-- The state of tables goes along with slots and with bytes that are in no record.
use Rattle.std.proofs.Common.{ℕ, ◌≡◌, ◌∙◌, ◌/◌, Some, None, option_map, List, length, sym, ap, subst, arith}
use Rattle.std.specs.Prelude.{slice_index}
use Rattle.model.specs.Capabilities.Slots.{IsOpen, SameOutside, Slots}
use Rattle.model.specs.Kernel.State.{State, with_slots}
use Rattle.objects.proofs.Following as following
use Rattle.objects.proofs.Holding.{kind-state, linked, standing}
use Rattle.objects.proofs.Linked.{Linked}
use Rattle.objects.proofs.Parts.{known-same, same-contents}
use Rattle.objects.proofs.Told.{in-point, in-thread}
use Rattle.objects.specs.Contents.{Contents, contents_state}
use Rattle.objects.specs.Frames.{IsInRecord, SameBesideFrames, SameKept}
use Rattle.objects.specs.Laid.{AreThreadsPlaced}
use Rattle.objects.specs.Rights.{AreKnown, has_right}
use Rattle.objects.specs.Standing.{Standing}
use Rattle.objects.specs.Tables.{Tables, contents_of, state_of, thread_in}
use Rattle.objects.specs.Waiting.{has_waiting}

module _ (o : Tables) (slots : Slots) (old new : List ℕ) (stands : Standing o slots old) where
  abbrev s : State
  s = state_of o slots old

  module _ (size : length new ≡ length old) (same : (place : ℕ) → IsInRecord s.objects place → slice_index new place ≡ slice_index old place) where
    contents-still : contents_of o new ≡ contents_of o old
    contents-still = same-contents o old new
        (λ thread is place held. same place (in-thread s thread place (kind-state o thread slots old ∙ is) (omega (arith, held.0)) (omega (arith, held.1))))
        (λ queue waits place held.
        same place (in-point s queue place (ap has_waiting (kind-state o queue slots old) ∙ waits) (omega (arith, held.0)) (omega (arith, held.1))).0)

    known-still : AreKnown (thread_in o new) new
    known-still = known-same o old new stands.rights
        (λ caller holder right. ap (λ (c : Contents). has_right (c.threads holder) caller) (sym contents-still) ∙ right)
        (λ thread is place held. same place (in-thread s thread place (kind-state o thread slots old ∙ is) (omega (arith, held.0)) (omega (arith, held.1))))

    placed-still : AreThreadsPlaced o.entries (length new)
    placed-still = subst (AreThreadsPlaced o.entries) (sym size) stands.placed

    still : (now : Slots) → Linked (contents_of o old) now new → Standing o now new
    still now links = standing o now new placed-still (subst (λ (c : Contents). Linked c now new) (sym contents-still) links) known-still

    state-still : (now : Slots) (t : State) → contents_state (contents_of o old) now new ≡ t → state_of o now new ≡ t
    unfolding state_of
    state-still now t is = ap (λ (c : Contents). contents_state c now new) contents-still ∙ is

  links : Linked (contents_of o old) slots old
  links = linked o slots old stands

  kept-follows : (now : Slots) → SameKept s old new → state_of o now new ≡ with_slots s now
  unfolding state_of
  kept-follows now same = state-still same.size same.records now (with_slots s now) (following.follows-kept (contents_of o old) slots old new now links same)

  kept-stands : (now : Slots) → SameKept s old new → ((place : ℕ) → IsOpen now (place / 16) → s.bytes place ≡ None)
      → ((place : ℕ) → IsOpen now (place / 16) → IsInRecord s.objects place → ⊥) → Standing o now new
  unfolding state_of
  kept-stands now same frames records = still same.size same.records now (following.stands-kept (contents_of o old) slots old new now links same frames records)

  outside : SameOutside slots old new → SameKept s old new
  unfolding state_of
  outside same = following.same-outside (contents_of o old) slots old new links same

  outside-follows : (now : Slots) → SameOutside slots old new → state_of o now new ≡ with_slots s now
  outside-follows now same = kept-follows now (outside same)

  closed-stands : (now : Slots) → SameOutside slots old new → ((slot : ℕ) → slots slot ≡ None → now slot ≡ None) → Standing o now new
  unfolding state_of
  closed-stands now same closes = still same.size (outside same).records now (following.stands-still (contents_of o old) slots old new now links same closes)

  beside : SameBesideFrames s old new → (place : ℕ) → IsInRecord s.objects place → slice_index new place ≡ slice_index old place
  beside same place held = same.bytes place (stands.fits.apart place held)

  frames-follow : SameBesideFrames s old new → state_of o slots new ≡ record s { bytes = λ place. option_map (λ _. slice_index new place) (s.bytes place) }
  unfolding state_of
  frames-follow same = state-still same.size (beside same) slots (record s { bytes = λ place. option_map (λ _. slice_index new place) (s.bytes place) })
      (following.follows-frames (contents_of o old) slots old new links same)

  frames-stand : SameBesideFrames s old new → Standing o slots new
  unfolding state_of
  frames-stand same = still same.size (beside same) slots (following.stands-frames (contents_of o old) slots old new links same)

-- ---- as laws

module _ (o : Tables) (slots : Slots) (old new : List ℕ) where
  pub follows-kept : (now : Slots) → Standing o slots old → SameKept (state_of o slots old) old new → state_of o now new ≡ with_slots (state_of o slots old) now
  follows-kept now stands same = kept-follows o slots old new stands now same

  pub stands-kept : (now : Slots) → Standing o slots old → SameKept (state_of o slots old) old new
      → ((place : ℕ) → IsOpen now (place / 16) → (state_of o slots old).bytes place ≡ None)
      → ((place : ℕ) → IsOpen now (place / 16) → IsInRecord (state_of o slots old).objects place → ⊥) → Standing o now new
  stands-kept now stands same frames records = kept-stands o slots old new stands now same frames records

  pub follows : (now : Slots) → Standing o slots old → SameOutside slots old new → state_of o now new ≡ with_slots (state_of o slots old) now
  follows now stands same = outside-follows o slots old new stands now same

  pub stands-still : (now : Slots) → Standing o slots old → SameOutside slots old new → ((slot : ℕ) → slots slot ≡ None → now slot ≡ None) → Standing o now new
  stands-still now stands same closes = closed-stands o slots old new stands now same closes

  pub follows-frames : Standing o slots old → SameBesideFrames (state_of o slots old) old new
      → state_of o slots new ≡ record (state_of o slots old) { bytes = λ place. option_map (λ _. slice_index new place) ((state_of o slots old).bytes place) }
  follows-frames stands same = frames-follow o slots old new stands same

  pub stands-frames : Standing o slots old → SameBesideFrames (state_of o slots old) old new → Standing o slots new
  stands-frames stands same = frames-stand o slots old new stands same

pub byte-there : (o : Tables) (slots : Slots) (memory : List ℕ) (place byte : ℕ) → (state_of o slots memory).bytes place ≡ Some byte →
    byte ≡ slice_index memory place
unfolding state_of
byte-there o slots memory place byte is = following.byte-there (contents_of o memory) slots memory place byte is
