-- Lists without a thread, and the bytes of links.
use Rattle.std.proofs.Common.{ℕ, ◌≡◌, ◌∙◌, ◌+◌, ◌<◌, ◌≤◌, if◌then◌else◌, Some, None, List, [], ◌∷◌, refl, ap, arith}
use Rattle.std.proofs.lemmas.Bool.{eq-eqb}
use Rattle.std.proofs.lemmas.Bool.Decides.{nat_tests}
use Rattle.model.specs.Kernel.Scheduling.{head_of}
use Rattle.model.specs.Shared.Lists.{times_in, without}
use Rattle.objects.specs.Frames.{SameBesideRecords}
use Rattle.objects.specs.Waiting.{has_waiting}
use Rattle.model.specs.Capabilities.Slots.{Slots}
use Rattle.queues.specs.Laws.{AreThreadsIn}
use Rattle.queues.specs.Queues.{SameBesideWaiting}
use Rattle.queues.specs.Ready.{SameBesideReady}
use Rattle.objects.proofs.Told.{has-head, has-thread, in-point, in-thread, kind-state}
use Rattle.objects.specs.Contents.{Contents, places_of, contents_state}

-- ---- lists

pub times-less : (threads : List ℕ) (gone thread : ℕ) → times_in (without gone threads) thread ≤ times_in threads thread
times-less [] gone thread = omega arith
times-less (t ∷ rest) gone thread = grind (arith, nat_tests, times-less rest gone thread)

pub times-gone : (threads : List ℕ) (gone : ℕ) → times_in (without gone threads) gone ≡ 0
times-gone [] gone = refl
times-gone (t ∷ rest) gone = grind (arith, nat_tests, times-gone rest gone)

pub times-first : (threads : List ℕ) (thread : ℕ) → head_of threads ≡ Some thread → 0 < times_in threads thread
times-first [] thread first = absurd (let clash : None ≡ Some thread = first in cc)
times-first (t ∷ rest) thread first =
    let same : t ≡ thread = cc in
    omega (arith, ap (λ b. if b then times_in rest thread + 1 else times_in rest thread) (eq-eqb t thread same))

-- ---- bytes

-- links lie in records
pub waiting-records : (o : Contents) (slots : Slots) (memory old new : List ℕ) (queues : ℕ → List ℕ) → AreThreadsIn (places_of o) queues
    → SameBesideWaiting (places_of o) queues old new → SameBesideRecords (contents_state o slots memory) old new
waiting-records o slots memory old new queues there same = record {
  size = same.size;
  bytes = λ place apart. same.bytes place
      (λ queue thread stands held.
      apart (in-thread (contents_state o slots memory) thread place (kind-state o thread slots memory ∙ has-thread o thread (there queue thread stands))
      (omega (arith, held.0)) (omega (arith, held.1))))
      (λ queue head thread stands is held.
      let at = has-head o queue head is in
      apart (in-point (contents_state o slots memory) queue place (ap has_waiting (kind-state o queue slots memory) ∙ at.0) (omega (arith, held.0, at.1))
      (omega (arith, held.1, at.1))).0);
}

pub ready-records : (o : Contents) (slots : Slots) (memory old new : List ℕ) (queues : ℕ → List ℕ) → AreThreadsIn (places_of o) queues
    → SameBesideReady queues old new → SameBesideRecords (contents_state o slots memory) old new
ready-records o slots memory old new queues there same = record {
  size = same.size;
  bytes = λ place apart. same.bytes place
      (λ queue thread stands held.
      apart (in-thread (contents_state o slots memory) thread place (kind-state o thread slots memory ∙ has-thread o thread (there queue thread stands))
      (omega (arith, held.0)) (omega (arith, held.1))));
}
