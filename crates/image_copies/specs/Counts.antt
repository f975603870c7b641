-- Counts in the fixed parts of an image's threads, records and promises: they are the lengths of the lists.
use Rattle.std.specs.Prelude.{◌≡◌, All, length}
use Rattle.model.specs.Images.Image.{ImagePromise, StateRecord, Thread}

abbrev pub HasPromiseCount : ImagePromise → Type 0
HasPromiseCount p = length p.words ≡ p.header.words

pub record HasRecordCounts (r : StateRecord) : Type 0 where
  pub ranges : length r.ranges ≡ r.header.ranges
  pub slots : length r.slots ≡ r.header.slots
  pub terms : length r.terms ≡ r.header.terms

pub record HasThreadCounts (t : Thread) : Type 0 where
  pub registers : length t.registers ≡ t.header.registers
  pub words : length t.words ≡ t.header.words
  pub records : length t.records ≡ t.header.records
  pub each : All HasRecordCounts t.records
