-- Threads are settled by the image as they are by what is seen of them.
use Rattle.std.proofs.Common.{ℕ, ◌≡◌, ◌∙◌, ◌&&◌, Bool, true, false, not, nat_lt, Option, Some, None, List, map, refl, sym, ap, subst}
use Rattle.std.specs.Prelude.{Contains}
use Rattle.std.specs.List.{list_all}
use Rattle.std.specs.Option.{option_map_or}
use Rattle.std.proofs.lemmas.Bool.{and_parts}
use Rattle.std.proofs.lemmas.List.Folds.{list_all-map}
use Rattle.model.specs.declared.ranges.Range.{Range}
use Rattle.model.specs.Images.Described.{Numbered, numbered_threads}
use Rattle.model.specs.Images.Image.{Image}
use Rattle.response.specs.Levels.{is_of_level}
use Rattle.response.specs.Asking.{asked_at}
use Rattle.response.specs.Responding.{asks_each, at_each, over_edges}
use Rattle.settled_threads.specs.Answering.{badge_at, owing_over}
use Rattle.settled_threads.specs.Tested as tested
use Rattle.settled_threads.specs.Tested.{Settlement, asks_settled, is_input, receives_so}
use Rattle.answering.specs.Answers.{AreAnswers, answers_at}
use Rattle.answering.specs.declared.answers.Answered.{Answered}
use Rattle.responses.proofs.Lists.{all-so, both-true}
use Rattle.responses.proofs.Paid.{and-so, high-same, or-so}
use Rattle.responses.proofs.Points.{asks-so, badges-so}
use Rattle.responses.proofs.OfThreads.{IsAt, all-from, all-listed, any-from}
use Rattle.responses.proofs.Totals.{any-map}
use Rattle.responses.specs.Doors as doors
use Rattle.responses.specs.Doors.{door_of}
use Rattle.responses.specs.Numbers.{number_at}
use Rattle.responses.specs.Outlines.{AreOutlines}
use Rattle.responses.specs.Inputs.{input_at}
use Rattle.responses.specs.Seen.{asks_all}
use Rattle.responses.specs.Settling as settling
use Rattle.responses.specs.Settling.{answers_door, may_ask, may_receive, settlement_of}
use Rattle.responses.specs.declared.doors.Door.{Door}
use Rattle.responses.specs.declared.outlines.Outline.{Outline}
use Rattle.responses.specs.declared.settled.Settled.{Settled}

-- ---- doors

send-same : (ds : List Door) (rank endpoint : ℕ) → tested.may_send (map door_of ds) rank endpoint ≡ doors.may_send ds rank endpoint
send-same ds rank endpoint = any-map (tested.leads_in endpoint rank) door_of ds

call-same : (ds : List Door) (rank badge endpoint : ℕ) → tested.may_call (map door_of ds) rank badge endpoint ≡ doors.may_call ds rank badge endpoint
call-same ds rank badge endpoint = any-map (λ (d : tested.Door). is_input badge d.answers && tested.leads_in endpoint rank d) door_of ds

before-same : (ds : List Door) (input : Option ℕ) (rank endpoint : ℕ)
    → tested.are_before (map door_of ds) input rank endpoint ≡ doors.are_before ds input rank endpoint
before-same ds input rank endpoint = list_all-map (tested.receives_before input rank endpoint) door_of ds

none-same : (ds : List Door) (endpoint : ℕ) → tested.are_no_door (map door_of ds) endpoint ≡ doors.are_no_door ds endpoint
none-same ds endpoint = list_all-map (tested.is_no_door endpoint) door_of ds

-- ---- what was found of answers

-- what is known of the points at which an answer may be owed, by what was found
abbrev pub owed-of : (P : (ℕ → Option (List Range)) → Type 0) (b : Bool) → (b ≡ true → (owed : ℕ → Option (List Range)) × P owed) → ℕ → Option (List Range)
owed-of P true so = (so refl).0
owed-of P false so = λ point. None

owed-so : (P : (ℕ → Option (List Range)) → Type 0) (b : Bool) (so : b ≡ true → (owed : ℕ → Option (List Range)) × P owed) → b ≡ true → P (owed-of P b so)
owed-so P true so is = (so refl).1
owed-so P false so is = absurd (let clash : false ≡ true = is in cc)

module _ (image : Image) (found : List Answered) (are : AreAnswers image found) where
  abbrev IsKnown : ℕ → ℕ → (ℕ → Option (List Range)) → Type 0
  IsKnown number badge owed =
      (t : Numbered) → Contains (numbered_threads image) t → t.number ≡ number → over_edges image t (owing_over t.thread badge owed) ≡ true

  abbrev pub owing_by : ℕ → ℕ → ℕ → Option (List Range)
  owing_by badge number = owed-of (IsKnown number badge) (answers_at found number badge) (are number badge)

  answered-so : (t : Numbered) (badge : ℕ) → Contains (numbered_threads image) t → answers_at found t.number badge ≡ true
      → over_edges image t (owing_over t.thread badge (owing_by badge t.number)) ≡ true
  answered-so t badge listed is = owed-so (IsKnown t.number badge) (answers_at found t.number badge) (are t.number badge) is t listed refl

module _ (image : Image) (priority : ℕ) (programs : List Outline) (are : AreOutlines image 0 image.threads programs) (found : List Answered)
    (are_found : AreAnswers image found) (s : Settled) where
  abbrev ds : List Door
  ds = s.doors.items

  abbrev all : Settlement
  all = settlement_of (owing_by image found are_found) s

  -- ---- threads

  asks-same : (t : Numbered) (rank object : ℕ)
      → at_each image t (λ point state. asks_settled (doors.may_send ds rank) (doors.may_call ds rank (badge_at image t state)) object
      (asked_at image t.thread point state)) ≡ true
      → at_each image t (λ point state. asks_settled (tested.may_send (map door_of ds) rank)
      (tested.may_call (map door_of ds) rank (badge_at image t state)) object (asked_at image t.thread point state)) ≡ true
  asks-same t rank object is =
      (λ i. at_each image t (λ point state. asks_settled (λ o. send-same ds rank o i) (λ o. call-same ds rank (badge_at image t state) o i) object
      (asked_at image t.thread point state)))
      ∙ is

  one-settled : (t : Numbered) (p : Outline) → IsAt image programs t p → settling.is_settled priority s p ≡ true
      → tested.is_settled image priority all t ≡ true
  one-settled t p at is =
      by-input (input_at s.inputs.items t.number) (subst (λ n. settling.settled_with priority s p (input_at s.inputs.items n) ≡ true) at.is.number is)
    where
      ranked : ℕ → ℕ → Bool
      ranked object n =
          at_each image t (λ point state. asks_settled (tested.may_send (map door_of ds) (number_at s.ranks.items n))
          (tested.may_call (map door_of ds) (number_at s.ranks.items n) (badge_at image t state)) object (asked_at image t.thread point state))

      by-input : (o : Option ℕ) → settling.settled_with priority s p o ≡ true → tested.settled_with image priority all t o ≡ true
      by-input None there = refl
      by-input (Some object) there =
          let rank = number_at s.ranks.items p.number in
          and-so (is_of_level priority t) (list_all (may_ask ds rank object) p.runs.items) (ranked object t.number)
          (λ passes. subst (λ n. ranked object n ≡ true) at.is.number (asks-same t rank object
          (badges-so image t p at.is (λ badge. asks_settled (doors.may_send ds rank) (doors.may_call ds rank badge) object) (λ badge. refl) passes)))
          (ap (λ b. b && list_all (may_ask ds rank object) p.runs.items) (sym (high-same image priority programs are t p at)) ∙ there)

  before-so : (object rank : ℕ) (t : Numbered) (p : Outline) → IsAt image programs t p → settling.comes_before s object rank p ≡ true
      → tested.comes_before all.settling object rank t ≡ true
  before-so object rank t p at is =
      subst (λ n. (is_input object (input_at s.inputs.items n) && nat_lt (number_at s.ranks.items n) rank) ≡ true) at.is.number is

  takers-so : list_all (settling.has_taker s programs) ds ≡ true → list_all (tested.has_taker image all.settling) (map door_of ds) ≡ true
  takers-so each =
      list_all-map (tested.has_taker image all.settling) door_of ds
      ∙ all-so (settling.has_taker s programs) (λ d. tested.has_taker image all.settling (door_of d))
      (λ d any. any-from image programs are (settling.comes_before s d.endpoint d.rank) (tested.comes_before all.settling d.endpoint d.rank)
      (before-so d.endpoint d.rank) any) ds each

  -- ---- answers

  receives-same : (t : Numbered) (input : Option ℕ) (rank : ℕ) → asks_each image t (may_receive ds input rank) ≡ true
      → asks_each image t (receives_so (tested.are_before (map door_of ds) input rank) (tested.are_no_door (map door_of ds))) ≡ true
  receives-same t input rank is = (λ i. asks_each image t (receives_so (λ o. before-same ds input rank o i) (λ o. none-same ds o i))) ∙ is

  door-so : (t : Numbered) → Contains (numbered_threads image) t → (d : Door) → answers_door s found t.number d ≡ true
      → tested.answers_at image all t (door_of d) ≡ true
  door-so t listed d is =
      or-so (not (is_input d.endpoint (input_at s.inputs.items t.number))) (option_map_or (λ badge. answers_at found t.number badge) d.answers true)
      (tested.answers_badge image (owing_by image found are_found) t d.answers) (by-badge d.answers) is
    where
      by-badge : (o : Option ℕ) → option_map_or (λ badge. answers_at found t.number badge) o true ≡ true
          → tested.answers_badge image (owing_by image found are_found) t o ≡ true
      by-badge (Some badge) answers = answered-so image found are_found t badge listed answers
      by-badge None answers = refl

  one-keeps : (t : Numbered) (p : Outline) → Contains (numbered_threads image) t → IsAt image programs t p → settling.keeps_doors s found p ≡ true
      → tested.keeps_doors image all t ≡ true
  one-keeps t p listed at is =
      let input = input_at s.inputs.items in
      let rank = number_at s.ranks.items in
      let parts = and_parts (asks_all (may_receive ds (input p.number) (rank p.number)) p) (list_all (answers_door s found p.number) ds) is in
      both-true (asks_each image t (receives_so (tested.are_before (map door_of ds) (input t.number) (rank t.number)) (tested.are_no_door (map door_of ds))))
      (list_all (tested.answers_at image all t) (map door_of ds))
      (receives-same t (input t.number) (rank t.number)
      (subst (λ n. asks_each image t (may_receive ds (input n) (rank n)) ≡ true) at.is.number
      (asks-so image t p at.is (may_receive ds (input p.number) (rank p.number)) refl parts.0)))
      (list_all-map (tested.answers_at image all t) door_of ds
      ∙ all-so (answers_door s found t.number) (λ d. tested.answers_at image all t (door_of d)) (door-so t listed) ds
      (subst (λ n. list_all (answers_door s found n) ds ≡ true) at.is.number parts.1))

  -- ---- all

  pub settled-so : settling.are_settled priority s found programs ≡ true → tested.are_settled image priority all ≡ true
  settled-so each =
      let one = and_parts (list_all (settling.is_settled priority s) programs) _ each in
      let two = and_parts (list_all (settling.has_taker s programs) ds) (list_all (settling.keeps_doors s found) programs) one.1 in
      both-true (list_all (tested.is_settled image priority all) (numbered_threads image)) _
      (all-from image programs are (settling.is_settled priority s) (tested.is_settled image priority all) one-settled one.0)
      (both-true (list_all (tested.has_taker image all.settling) (map door_of ds)) _ (takers-so two.0)
      (all-listed image programs are (settling.keeps_doors s found) (tested.keeps_doors image all) one-keeps two.1))

  pub inputs-so : (taken : List ℕ) → list_all (settling.is_input_there s programs) taken ≡ true
      → list_all (tested.is_input_there image all.settling) taken ≡ true
  inputs-so taken each =
      all-so (settling.is_input_there s programs) (tested.is_input_there image all.settling)
      (λ object any. any-from image programs are (λ (p : Outline). is_input object (input_at s.inputs.items p.number))
      (λ (t : Numbered). is_input object (input_at s.inputs.items t.number))
      (λ t p at is. subst (λ n. is_input object (input_at s.inputs.items n) ≡ true) at.is.number is) any) taken each
