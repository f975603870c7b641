-- All that is known of a thread's slots before a call.
use Rattle.std.proofs.Common.{ℕ, ◌≡◌, ◌∙◌, false, List, sym, ap, subst}
use Rattle.std.specs.Prelude.{Contains}
use Rattle.model.specs.declared.labels.Label.{Label}
use Rattle.model.specs.Acceptance.Accepted.{IsAccepted}
use Rattle.model.specs.Acceptance.NotedKernel.{noted_after}
use Rattle.model.specs.Acceptance.NotedStates.{NotedSlot, PointState, has_stray_slots}
use Rattle.model.specs.Acceptance.ThreadInvariants.{StandsAt}
use Rattle.model.specs.Images.Described.{Numbered, numbered_threads}
use Rattle.model.specs.Images.Image.{Image}
use Rattle.model.specs.Kernel.State.{State, ThreadState}
use Rattle.headline.proofs.calls.Laws.{point-at}
use Rattle.headline.specs.facts.Standing.{AllStand}
use Rattle.headline.proofs.facts.Laws.{is-listed}
use Rattle.headline.specs.lookups.Found.{slots_noted}
use Rattle.headline.proofs.lookups.Laws.{own-same}
use Rattle.thread_spaces.proofs.Laws.{stands-apart}
use Rattle.headline.specs.steps.Points.{IsPoint}
use Rattle.typestate.specs.Spaces.{AreOwn, NothingLeadsOutside, StandsApart}
use Rattle.headline.specs.invocations.Mirrors.{Mirrors}
use Rattle.headline.proofs.invocations.MirrorLookups.{finds-own, finds-same, home-held}
use Rattle.headline.proofs.invocations.MirrorParents.{above-same, near-own, same-depth}
use Rattle.headline.proofs.invocations.OtherMaps.{maps-nothing-else}
use Rattle.headline.proofs.invocations.OtherSlots.{boot-kept, derives-outside}
use Rattle.headline.proofs.invocations.OwnNotes.{are-own, comes-back}

-- what comes back, of slots that are the same
come-back : (image : Image) (t : Numbered) (stand : StandsApart image t.thread) (s : State) (slots : List NotedSlot)
    → noted_after image t.thread s.slots ≡ slots
    → noted_after image t.thread (slots_noted image t slots) ≡ slots
come-back image t stand s slots same =
    ap (λ (all : List NotedSlot). noted_after image t.thread (slots_noted image t all)) (sym same) ∙ comes-back image t.thread stand s.slots ∙ same

own-noted : (image : Image) (t : Numbered) (s : State) (slots : List NotedSlot) → noted_after image t.thread s.slots ≡ slots → AreOwn image t.thread slots
own-noted image t s slots same = subst (AreOwn image t.thread) same (are-own image t.thread s.slots)

pub mirrored : (bytes : List ℕ) (image : Image) (t : Numbered) (s : State) (labels : List Label) (own : ThreadState) (point : ℕ) (state : PointState)
    → IsAccepted bytes image → Contains (numbered_threads image) t → AllStand image s labels → StandsAt image t s own point state
    → (has_stray_slots image t.thread point state ≡ false → NothingLeadsOutside image t.thread state.slots) → Mirrors image t s state.slots
mirrored bytes image t s labels own point state accepted listed all stands leads =
    let fits = accepted.spelled.fits in
    let well = accepted.formed in
    let stand = stands-apart image t.thread fits well (is-listed image t listed) in
    let none = IsPoint.own (point-at bytes image t accepted listed point state stands.inside stands.known) in
    let inside = leads none in
    let are = own-noted image t s state.slots stands.slots in
    let hang = all.hang t listed in
    record {
      bytes = bytes;
      accepted = accepted;
      listed = listed;
      labels = labels;
      all = all;
      stand = stand;
      same = stands.slots;
      back = come-back image t stand s state.slots stands.slots;
      are = are;
      inside = inside;
      code = stands.code;
      mapped = stands.maps;
      held = own-same image t stand s.slots state.slots stands.slots;
      above = above-same image t stand s all.sound state.slots stands.slots;
      deep = same-depth image t stand s all.sound state.slots stands.slots stands.parents hang are;
      finds = λ root name there. finds-same image t stand s point state stands.slots none root name there;
      finds_own = λ root name slot there is. finds-own image t stand s point state stands.slots none root name there slot is;
      home = home-held image t stand s state.slots stands.slots inside;
      near = near-own image t stand s all.sound state.slots stands.slots stands.parents;
      hang = hang;
      maps = maps-nothing-else image fits well s labels all t listed;
      boot = boot-kept image fits well s labels all;
      outside = λ slot parent other is. derives-outside image fits well s labels all t listed slot parent other is;
    }
