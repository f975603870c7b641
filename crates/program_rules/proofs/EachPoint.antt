-- What is kept of each point, as the points are gone through.
use Rattle.std.proofs.Common.{ℕ, zero, suc, ◌≡◌, ◌∙◌, ◌+◌, Bool, false, Option, Some, None, is_some, List, refl, sym, ap, subst, arith}
use Rattle.measure.specs.Measures.{measure_of}
use Rattle.model.specs.Acceptance.NotedStates.{NotedSlot, record_of}
use Rattle.model.specs.Acceptance.PointStates.{Noted, Known, follows, noted, noted_or}
use Rattle.model.specs.Images.Described.{Numbered}
use Rattle.model.specs.Images.Image.{Image, StateRecord, Thread}
use Rattle.program_rules.specs.Kept.{AreKept, HasPart, IsAt, IsCleanIn, IsKeptAt, IsLeft, IsPlain, IsRead, IsSound, Kept, before, noted_by}
use Rattle.program_rules.specs.declared.at_points.AtPoint.TheVariants as kept
use Rattle.program_rules.specs.declared.kept_points.KeptPoints.{KeptPoints}
use Rattle.program_rules.specs.declared.places.Place.TheVariants as place
use Rattle.program_rules.specs.declared.places.Place.{Place}
use Rattle.typestate.specs.Logs.{KeepsParts}
use Rattle.typestate.specs.Strays.{NoneStray}
use Rattle.typestate.specs.Replays.{replayed}
use Rattle.typestate.specs.declared.log_entries.LogEntry.{LogEntry}

-- what is noted of a point, by its record and by what the point before leaves
pub noted-is : (image : Image) (t : Numbered) (point : ℕ) → noted image t point ≡ noted_or image t.thread (record_of t.thread point) (before image t point)
unfolding noted
noted-is image t zero = refl
noted-is image t (suc point) = refl

-- what the point before leaves counts only where there is no record
pub noted-or-same : (image : Image) (t : Thread) (r : Option StateRecord) (x y : Noted) → (r ≡ None → x ≡ y) → noted_or image t r x ≡ noted_or image t r y
noted-or-same image t None x y same = same refl
noted-or-same image t (Some r) x y same = refl

-- ---- a log that grows

pub same-grown : (slots : List NotedSlot) (old new : List LogEntry) (point : ℕ) (k : Kept) → KeepsParts old new → IsSound old point k →
    noted_by slots new k ≡ noted_by slots old k
same-grown slots old new point (kept.Known k) keeps sound =
    ap (λ (changes : List LogEntry). Known (record { ranges = k.bounds; slots = replayed slots changes; measure = measure_of k.measure }))
    (keeps k.part sound.0).1
same-grown slots old new point kept.Missing keeps sound = refl
same-grown slots old new point kept.Unmeasured keeps sound = refl

pub sound-grown : (old new : List LogEntry) (point : ℕ) (k : Kept) → KeepsParts old new → IsSound old point k → IsSound new point k
sound-grown old new point (kept.Known k) keeps sound = ((keeps k.part sound.0).0, sound.1)
sound-grown old new point kept.Missing keeps sound = tt
sound-grown old new point kept.Unmeasured keeps sound = tt

pub clean-grown : (image : Image) (t : Thread) (slots : List NotedSlot) (old new : List LogEntry) (point : ℕ) (k : Kept) → KeepsParts old new →
    IsSound old point k
    → IsCleanIn image t slots old k → IsCleanIn image t slots new k
clean-grown image t slots old new point (kept.Known k) keeps sound clean =
    λ is. subst (λ (changes : List LogEntry). NoneStray image t (replayed slots changes)) (sym (keeps k.part sound.0).1) (clean is)
clean-grown image t slots old new point kept.Missing keeps sound clean = tt
clean-grown image t slots old new point kept.Unmeasured keeps sound clean = tt

pub grown-at : (image : Image) (t : Numbered) (slots : List NotedSlot) (old new : List LogEntry) (point : ℕ) (k : Kept) → KeepsParts old new
    → IsKeptAt image t slots old point k → IsKeptAt image t slots new point k
grown-at image t slots old new point k keeps is = record {
  same = same-grown slots old new point k keeps is.sound ∙ is.same;
  sound = sound-grown old new point k keeps is.sound;
  clean = clean-grown image t.thread slots old new point k keeps is.sound is.clean;
}

at-grown : (image : Image) (t : Numbered) (slots : List NotedSlot) (old new : List LogEntry) (ks : KeptPoints) (point : ℕ) (p : Place) → KeepsParts old new
    → IsAt image t slots old ks point p → IsAt image t slots new ks point p
at-grown image t slots old new ks point place.Missing keeps is = grown-at image t slots old new point kept.Missing keeps is
at-grown image t slots old new ks point place.Unmeasured keeps is = grown-at image t slots old new point kept.Unmeasured keeps is
at-grown image t slots old new ks point (place.Whole at) keeps is = record {
  inside = is.inside;
  known = is.known;
  kept = λ k got. grown-at image t slots old new point (kept.Known k) keeps (is.kept k got);
}
at-grown image t slots old new ks point (place.Recorded at) keeps is = record {
  inside = is.inside;
  known = is.known;
  kept = λ r got k in_record. grown-at image t slots old new point (kept.Known k) keeps (is.kept r got k in_record);
}
at-grown image t slots old new ks point (place.Clean at) keeps is = record {
  inside = is.inside;
  known = is.known;
  kept = λ r got k in_record. grown-at image t slots old new point (kept.Known k) keeps (is.kept r got k in_record);
}
at-grown image t slots old new ks point place.Plain keeps is = is
at-grown image t slots old new ks point (place.Called at) keeps is = record {
  inside = is.inside;
  some = is.some;
  known = is.known;
  before = is.before;
  kept = λ last follows c got s noted_s k next bounds measure called.
      grown-at image t slots old new point (kept.Known next) keeps (is.kept last follows c got s noted_s k next bounds measure called);
}

pub grown : (image : Image) (t : Numbered) (slots : List NotedSlot) (old new : List LogEntry) (ks : KeptPoints) → KeepsParts old new
    → AreKept image t slots old ks → AreKept image t slots new ks
grown image t slots old new ks keeps are = record { each = λ point p got. at-grown image t slots old new ks point p keeps (are.each point p got) }

-- what follows from a point is what is before the next one
pub next-before : (image : Image) (t : Numbered) (point : ℕ) → follows image t point (noted image t point) ≡ before image t (point + 1)
next-before image t point = ap (before image t) (let next : suc point ≡ point + 1 = omega arith in next)

-- what is left for the next point, which has a record or follows from this one
pub left-next : (image : Image) (t : Numbered) (slots : List NotedSlot) (point : ℕ) (noted_next : Bool) (old new : List LogEntry) (k next : Kept)
    → noted_next ≡ is_some (record_of t.thread (point + 1)) → IsKeptAt image t slots old point k
    → (noted_next ≡ false → noted_by slots new next ≡ follows image t point (noted_by slots old k)) → IsSound new (point + 1) next
    → IsCleanIn image t.thread slots new next → IsLeft image t slots new (point + 1) next
left-next image t slots point noted_next old new k next listed is same sound clean = record {
  same = λ none. same (listed ∙ ap is_some none) ∙ ap (follows image t point) is.same ∙ next-before image t point;
  sound = sound;
  clean = clean;
}

-- the next point that follows from one
pub next-point : (image : Image) (t : Numbered) (slots : List NotedSlot) (log : List LogEntry) (point : ℕ) (k next : Kept) → IsPlain t.thread point →
    IsKeptAt image t slots log point k
    → noted_by slots log next ≡ follows image t point (noted_by slots log k) → IsSound log (point + 1) next → IsCleanIn image t.thread slots log next
    → IsKeptAt image t slots log (point + 1) next
next-point image t slots log point k next plain is follow sound clean = record {
  same =
      follow ∙ ap (follows image t point) is.same ∙ next-before image t point
      ∙ sym (noted-is image t (point + 1) ∙ ap (λ (r : Option StateRecord). noted_or image t.thread r (before image t (point + 1))) plain.bare);
  sound = sound;
  clean = clean;
}

-- ---- what is kept of one point

pub has-part : (log : List LogEntry) (point : ℕ) (k : Kept) → IsSound log point k → HasPart log k
has-part log point (kept.Known k) sound = sound.0
has-part log point kept.Missing sound = tt
has-part log point kept.Unmeasured sound = tt

pub grown-read : (image : Image) (t : Numbered) (slots : List NotedSlot) (old new : List LogEntry) (ks : KeptPoints) → KeepsParts old new
    → IsRead image t slots old ks → IsRead image t slots new ks
grown-read image t slots old new ks keeps read = record { count = read.count; noted = grown image t slots old new ks keeps read.noted }
