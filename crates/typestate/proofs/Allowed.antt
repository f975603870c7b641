-- What is left of a call that the kernel allows.
use Rattle.std.proofs.Common.{◌≡◌, Bool, true, false, not, Result, Ok, Err, List, refl, ap}
use Rattle.model.specs.Acceptance.CallRules.{demand, kernel_allows}
use Rattle.model.specs.Acceptance.NotedKernel.{noted_after}
use Rattle.model.specs.Acceptance.NotedStates.{NotedSlot}
use Rattle.model.specs.Capabilities.Slots.{Slots}
use Rattle.model.specs.Images.Format.{◌>>=◌}
use Rattle.model.specs.Images.Image.{Image, Thread}
use Rattle.model.specs.Kernel.State.{State}
use Rattle.model.specs.declared.errors.KError.{KError}
use Rattle.model.specs.declared.errors.KError.TheVariants.{IllegalOperation}
use Rattle.model.specs.declared.refusals.Point.{Point}
use Rattle.model.specs.declared.refusals.Refusal.{Refusal}
use Rattle.model.specs.declared.refusals.Refusal.TheVariants.{CallRefused, PoolLost}
use Rattle.typestate.specs.CNodeCalls.{allowed_slots}

-- the slots of what the kernel allows
abbrev pub slots_allowed : Result State KError → Result Slots KError
slots_allowed (Ok s) = Ok s.slots
slots_allowed (Err error) = Err error

abbrev pub chain : Image → Thread → Point → Bool → Bool → Result State KError → Result (List NotedSlot) Refusal
chain image t at loses travels r = do
  after ← kernel_allows at r
  _ ← demand (not loses) (PoolLost at)
  _ ← demand travels (CallRefused at IllegalOperation)
  Ok (noted_after image t after.slots)

-- a call that loses no pool
pub allowed-state : (image : Image) (t : Thread) (at : Point) (travels : Bool) (r : Result State KError)
    → chain image t at false travels r ≡ allowed_slots image t at travels (slots_allowed r)
allowed-state image t at travels (Err error) = refl
allowed-state image t at true (Ok s) = refl
allowed-state image t at false (Ok s) = refl

-- a call that may lose one
pub allowed-unless : (image : Image) (t : Thread) (at : Point) (loses travels : Bool) (r : Result State KError) → loses ≡ false
    → chain image t at loses travels r ≡ allowed_slots image t at travels (slots_allowed r)
allowed-unless image t at false travels r none = allowed-state image t at travels r
allowed-unless image t at true travels r none = absurd (let clash : true ≡ false = none in cc)

pub pool-lost : (image : Image) (t : Thread) (at : Point) (loses travels : Bool) (s : State) → loses ≡ true
    → chain image t at loses travels (Ok s) ≡ Err (PoolLost at)
pool-lost image t at true travels s lost = refl
pool-lost image t at false travels s lost = absurd (let clash : false ≡ true = lost in cc)

pub kernel-refuses : (image : Image) (t : Thread) (at : Point) (loses travels : Bool) (r : Result State KError) (error : KError) → r ≡ Err error
    → chain image t at loses travels r ≡ Err (CallRefused at error)
kernel-refuses image t at loses travels (Ok s) error is = absurd (let clash : Ok s ≡ Err error = is in cc)
kernel-refuses image t at loses travels (Err other) error is =
    let same : other ≡ error = (let both : Err other ≡ Err error = is in cc) in
    ap (λ (e : KError). let l : Result (List NotedSlot) Refusal = Err (CallRefused at e) in l) same
