-- What the test of settled threads says: they are settled, by the doors to which they send and which they call.
use Rattle.std.proofs.Common.{ℕ, ◌≡◌, ◌∙◌, ◌==◌, ◌≤◌, ◌&&◌, not, Bool, true, false, is_some, nat_le, nat_lt, Option, Some, None}
use Rattle.std.proofs.Common.{refl, sym, ap, subst, arith}
use Rattle.std.specs.Prelude.{Contains}
use Rattle.std.specs.List.{list_all}
use Rattle.std.proofs.lemmas.Bool.{and_parts, eq-eqb, eqb-true, leb-true, ltb-true}
use Rattle.model.specs.Acceptance.NotedStates.{PointState}
use Rattle.model.specs.Images.Described.{Numbered, numbered_threads}
use Rattle.model.specs.Images.Image.{Image}
use Rattle.response.specs.Asking.{Accepts, Acknowledges, Answers, Asked, Asks_nothing, Calls, Looks, Polls, Rings, SendsTo, Takes, Tries, asked_at}
use Rattle.response.specs.Levels.{is_of_level}
use Rattle.response.specs.Responding.{asks_each, at_each}
use Rattle.response.proofs.Laws.{all-at, any-found, asked-each, edge-passes, known-at, or-then}
use Rattle.settled_threads.specs.Answering.{IsAnswered, ReceivesAt, badge_at, owing_over}
use Rattle.settled_threads.specs.Settled.{AreSettled, AsksSettled, ComesBefore, IsServed, IsTaken}
use Rattle.settled_threads.specs.Tested.{Door, Settlement, answers_at, answers_badge, are_before, are_no_door, are_settled, asks_settled, comes_before}
use Rattle.settled_threads.specs.Tested.{has_taker, is_input, is_no_door, is_settled, keeps_doors, leads_in, may_call, may_send, receives_before, receives_so}
use Rattle.settled_threads.specs.Tested.{settled_with}

-- ---- inputs

pub input-is : (object : ℕ) (input : Option ℕ) → is_input object input ≡ true → input ≡ Some object
input-is object (Some o) is = ap Some (eqb-true o object is)
input-is object None is = absurd (let clash : false ≡ true = is in cc)

-- ---- doors

own-door : (d : Door) (badge : ℕ) → d.answers ≡ Some badge → not (is_some d.answers && (d.endpoint == d.endpoint)) ≡ false
own-door d badge answers =
    ap (λ (o : Option ℕ). not (is_some o && (d.endpoint == d.endpoint))) answers ∙ ap not (eq-eqb d.endpoint d.endpoint refl)

module _ (image : Image) (priority : ℕ) (s : Settlement) (all : are_settled image priority s ≡ true) where
  abbrev ends : list_all (has_taker image s.settling) s.doors ≡ true
  ends = (and_parts (list_all (has_taker image s.settling) s.doors) _ (and_parts (list_all (is_settled image priority s) (numbered_threads image)) _ all).1).0

  -- how a thread receives, and whether it answers
  parts-of : (t : Numbered) → Contains (numbered_threads image) t
      → (asks_each image t (receives_so (are_before s.doors (s.settling.input t.number) (s.settling.rank t.number)) (are_no_door s.doors)) ≡ true)
      × (list_all (answers_at image s t) s.doors ≡ true)
  parts-of t listed =
      let each = (and_parts (list_all (has_taker image s.settling) s.doors) _
      (and_parts (list_all (is_settled image priority s) (numbered_threads image)) _ all).1).1 in
      let parts = and_parts (asks_each image t (receives_so (are_before s.doors (s.settling.input t.number) (s.settling.rank t.number)) (are_no_door s.doors)))
      _ (all-at (keeps_doors image s) (numbered_threads image) t listed each) in (parts.0, parts.1)

  before-so : (object rank : ℕ) (t : Numbered) → Contains (numbered_threads image) t → comes_before s.settling object rank t ≡ true
      → ComesBefore image s.settling object rank t
  before-so object rank t listed is =
      let parts = and_parts (is_input object (s.settling.input t.number)) (nat_lt (s.settling.rank t.number) rank) is in
      record {
        listed = listed;
        input = input-is object (s.settling.input t.number) parts.0;
        before = ltb-true (s.settling.rank t.number) rank parts.1;
      }

  later : (object low rank : ℕ) (t : Numbered) → low ≤ rank → ComesBefore image s.settling object low t → ComesBefore image s.settling object rank t
  later object low rank t less c =
      let before = c.before in record { listed = c.listed; input = c.input; before = omega (arith, before, less) }

  taken-so : (d : Door) → Contains s.doors d → IsTaken image s.settling d.endpoint d.rank
  taken-so d among =
      let found = any-found (comes_before s.settling d.endpoint d.rank) (numbered_threads image) (all-at (has_taker image s.settling) s.doors d among ends) in
      (found.0, before-so d.endpoint d.rank found.0 found.1 found.2)

  -- a door that answers a badge

  module _ (d : Door) (among : Contains s.doors d) (badge : ℕ) (answers : d.answers ≡ Some badge) where
    each-so : (t : Numbered) → Contains (numbered_threads image) t → ReceivesAt image t d.endpoint → ComesBefore image s.settling d.endpoint d.rank t
    each-so t listed r =
        let input = s.settling.input t.number in
        let rank = s.settling.rank t.number in
        let here = asked-each image t (receives_so (are_before s.doors input rank) (are_no_door s.doors)) (parts-of t listed).0 r.point r.state r.inside
        r.known in
        let before : are_before s.doors input rank d.endpoint ≡ true =
        sym (ap (receives_so (are_before s.doors input rank) (are_no_door s.doors)) r.asks) ∙ here in
        before-so d.endpoint d.rank t listed
        (or-then (not (is_some d.answers && (d.endpoint == d.endpoint))) (is_input d.endpoint input && nat_lt rank d.rank) (own-door d badge answers)
        (all-at (receives_before input rank d.endpoint) s.doors d among before))

    answered-so : IsAnswered image d.endpoint badge
    answered-so = record {
      owed = s.owing badge;
      kept = λ t point state next listed receives inside known leads.
          let input : not (is_input d.endpoint (s.settling.input t.number)) ≡ false =
          ap (λ (o : Option ℕ). not (is_input d.endpoint o)) (each-so t listed receives).input ∙ ap not (eq-eqb d.endpoint d.endpoint refl) in
          let each : answers_badge image s.owing t d.answers ≡ true =
          or-then (not (is_input d.endpoint (s.settling.input t.number))) (answers_badge image s.owing t d.answers) input
          (all-at (answers_at image s t) s.doors d among (parts-of t listed).1) in
          edge-passes image t (owing_over t.thread badge (s.owing badge t.number)) (sym (ap (answers_badge image s.owing t) answers) ∙ each) point state next
          inside known leads;
      unpolled = λ t point state listed inside known asks.
          let input = s.settling.input t.number in
          let rank = s.settling.rank t.number in
          let here = asked-each image t (receives_so (are_before s.doors input rank) (are_no_door s.doors)) (parts-of t listed).0 point state inside known in
          let none : are_no_door s.doors d.endpoint ≡ true = sym (ap (receives_so (are_before s.doors input rank) (are_no_door s.doors)) asks) ∙ here in
          let clash : false ≡ true = sym (own-door d badge answers) ∙ all-at (is_no_door d.endpoint) s.doors d among none in absurd cc;
    }

    serves-so : (rank : ℕ) → d.rank ≤ rank → IsServed image s.settling d.endpoint rank badge
    serves-so rank less =
        let who = taken-so d among in
        record {
          taken = (who.0, later d.endpoint d.rank rank who.0 less who.1);
          answered = answered-so;
          each = λ t listed receives. later d.endpoint d.rank rank t less (each-so t listed receives);
        }

  -- ---- what settled threads ask

  sends-so : (rank o : ℕ) → may_send s.doors rank o ≡ true → IsTaken image s.settling o rank
  sends-so rank o is =
      let found = any-found (leads_in o rank) s.doors is in
      let parts = and_parts (found.0.endpoint == o) (nat_le found.0.rank rank) found.2 in
      let who = taken-so found.0 found.1 in (
        who.0,
        subst (λ (e : ℕ). ComesBefore image s.settling e rank who.0) (eqb-true found.0.endpoint o parts.0)
            (later found.0.endpoint found.0.rank rank who.0 (leb-true found.0.rank rank parts.1) who.1),
      )

  calls-so : (rank badge o : ℕ) → may_call s.doors rank badge o ≡ true → IsServed image s.settling o rank badge
  calls-so rank badge o is =
      let found = any-found (λ (d : Door). is_input badge d.answers && leads_in o rank d) s.doors is in
      let one = and_parts (is_input badge found.0.answers) (leads_in o rank found.0) found.2 in
      let two = and_parts (found.0.endpoint == o) (nat_le found.0.rank rank) one.1 in
      subst (λ (e : ℕ). IsServed image s.settling e rank badge) (eqb-true found.0.endpoint o two.0)
      (serves-so found.0 found.1 badge (input-is badge found.0.answers one.0) rank (leb-true found.0.rank rank two.1))

  asks-so : (object rank badge : ℕ) (asked : Asked) → asks_settled (may_send s.doors rank) (may_call s.doors rank badge) object asked ≡ true
      → AsksSettled image s.settling object rank badge asked
  asks-so object rank badge (Takes o) is = eqb-true o object is
  asks-so object rank badge (Accepts o replies) is = eqb-true o object is
  asks-so object rank badge (SendsTo o) is = sends-so rank o is
  asks-so object rank badge (Calls o) is = calls-so rank badge o is
  asks-so object rank badge (Polls o) is = tt
  asks-so object rank badge (Rings o) is = tt
  asks-so object rank badge (Acknowledges irq_line) is = tt
  asks-so object rank badge (Looks o) is = tt
  asks-so object rank badge (Tries o) is = tt
  asks-so object rank badge Answers is = tt
  asks-so object rank badge Asks_nothing is = tt

  pub settled-so : AreSettled image priority s.settling
  settled-so t object listed input =
      let rank = s.settling.rank t.number in
      let each = (and_parts (list_all (is_settled image priority s) (numbered_threads image)) _ all).0 in
      let here : settled_with image priority s t (Some object) ≡ true =
      sym (ap (settled_with image priority s t) input) ∙ all-at (is_settled image priority s) (numbered_threads image) t listed each in
      let test : ℕ → PointState → Bool = λ point state.
      asks_settled (may_send s.doors rank) (may_call s.doors rank (badge_at image t state)) object (asked_at image t.thread point state) in
      let parts = and_parts (is_of_level priority t) (at_each image t test) here in (
        parts.0,
        λ point state inside known. asks-so object rank (badge_at image t state) (asked_at image t.thread point state)
            (known-at image t test parts.1 point state inside known),
      )
