-- What the test of a response says.
use Rattle.std.proofs.Common.{ℕ, zero, suc, ◌≡◌, ◌∙◌, ◌==◌, ◌+◌, ◌-◌, ◌/◌, ◌<◌, ◌≤◌, ◌&&◌, ◌||◌, inl, inr, not, Bool, true, false, nat_le}
use Rattle.std.proofs.Common.{Option, Some, None, List, [], ◌∷◌, map, refl, sym, ap, subst, arith}
use Rattle.std.specs.Prelude.{Contains}
use Rattle.std.specs.List.{list_all, list_any, range_with_len}
use Rattle.std.proofs.lemmas.Bool.{and_parts, eqb-true, leb-true, or_cases}
use Rattle.std.proofs.lemmas.Bool.{eq-eqb}
use Rattle.std.proofs.lemmas.Bool.Decides.{eqb_tells}
use Rattle.model.specs.Acceptance.NotedStates.{PointState}
use Rattle.model.specs.Acceptance.PointRules.{ProgramEdge, edges_at}
use Rattle.model.specs.Acceptance.PointStates.{Known, instruction_at, noted}
use Rattle.model.specs.Acceptance.ThreadInvariants.{tcb_of}
use Rattle.model.specs.Images.Described.{Numbered, described, numbered_threads}
use Rattle.model.specs.Images.Image.{Image}
use Rattle.model.specs.Kernel.Interrupts.{Signal, binding}
use Rattle.model.specs.Shared.Lists.{times_in}
use Rattle.response.specs.Asking.{Asked, Takes, Polls, Rings, Acknowledges, Accepts, Looks, SendsTo, Calls, Tries, Answers, Asks_nothing, asked_at}
use Rattle.model.specs.Kernel.Steps.{state_after, trace}
use Rattle.response.specs.Laws.{HaveRates, RingsFit, left_after}
use Rattle.response.specs.Left.{at_rest, irq_lines, left, line_price}
use Rattle.response.specs.Levels.{is_of_level}
use Rattle.response.specs.Rates.{Rate, cost_of, costs_within}
use Rattle.response.specs.Resting.{AreAcknowledged, AreTakenAlone, IsAcknowledged, IsTended, TakesFromOne, marks_for}
use Rattle.response.specs.Responding.{OpenLine, Response, acknowledged_by_one, acknowledges, are_priced, asks_each, at_each, have_rates, is_acknowledged}
use Rattle.response.specs.Responding.{is_open_by, is_taken_by, leaves, over_edges, pay_for_level}
use Rattle.response.specs.Responding.{passes, passes_rested, rest_of, rests_at, ring_fits, rings_fit}
use Rattle.response.specs.Responding.{takes_only}
use Rattle.response.specs.Weights.{Leads, Pays, Price, Weights, pays_for, price_of, waits_for_no_message, waits_for_notifications_alone, where_known}
use Rattle.response.proofs.Quietly.{all-at}
use Rattle.response.proofs.Sums.{further, times-other}
use Rattle.response.proofs.TwoEntries.{line-among, range-has}
use Rattle.response.proofs.Woken.{point-of}

-- ---- lists

-- one of a list passes
pub any-found : {A : Type 0} (test : A → Bool) (xs : List A) → list_any test xs ≡ true → (x : A) × Contains xs x × (test x ≡ true)
any-found test [] any = absurd (let clash : false ≡ true = any in cc)
any-found test (x ∷ xs) any = elim (or_cases (test x) (list_any test xs) any) [
  | inl here ↦ (x, (0, omega arith, refl), here)
  | inr there ↦ (let found = any-found test xs there in (found.0, further x found.0 xs found.1, found.2))
]

pub or-then : (b c : Bool) → b ≡ false → (b || c) ≡ true → c ≡ true
or-then b c off either = sym (ap (λ (x : Bool). x || c) off) ∙ either

-- ---- points and edges

module _ (image : Image) (t : Numbered) where
  pub known-at : (test : ℕ → PointState → Bool) → at_each image t test ≡ true → (point : ℕ) (state : PointState) → point < t.thread.header.words
      → noted image t point ≡ Known state → test point state ≡ true
  known-at test all point state inside known =
      sym (ap (where_known (test point)) known)
      ∙ all-at (λ n. where_known (test n) (noted image t n)) (range_with_len 0 t.thread.header.words) point
      (range-has 0 t.thread.header.words point (omega arith) (omega (arith, inside))) all

  pub asked-each : (test : Asked → Bool) → asks_each image t test ≡ true → (point : ℕ) (state : PointState) → point < t.thread.header.words
      → noted image t point ≡ Known state → test (asked_at image t.thread point state) ≡ true
  asked-each test all = known-at (λ point state. test (asked_at image t.thread point state)) all

  pub edge-passes : (test : Asked → ℕ → ℕ → Bool) → over_edges image t test ≡ true → (point : ℕ) (state : PointState) (next : ℕ)
      → point < t.thread.header.words → noted image t point ≡ Known state → Leads image t point state next
      → test (asked_at image t.thread point state) point next ≡ true
  edge-passes test all point state next inside known leads =
      let each = known-at (λ n here. list_all (λ edge. test (asked_at image t.thread n here) n ((edge.target - t.thread.header.base) / 4))
      (edges_at image t n here (instruction_at t.thread n))) all point state inside known in
      let here = all-at (λ (edge : ProgramEdge). test (asked_at image t.thread point state) point ((edge.target - t.thread.header.base) / 4))
      (edges_at image t point state (instruction_at t.thread point)) leads.edge leads.among each in
      sym (ap (test (asked_at image t.thread point state) point)
      (ap (λ (n : ℕ). (n - t.thread.header.base) / 4) leads.target ∙ point-of t.thread.header.base next)) ∙ here

-- ---- weights

-- what is in a list of objects is the object of an entry
times-some : (o : ℕ) (ps : List Price) → 1 ≤ times_in (map (λ (p : Price). p.object) ps) o → (p : Price) × Contains ps p × (p.object ≡ o)
times-some o [] some = absurd (omega (arith, some))
times-some o (p ∷ ps) some = elim (eqb_tells p.object o) [
  | inl same ↦ (p, (0, omega arith, refl), same.1)
  | inr apart ↦ (
      let rest = times-other p.object o (map (λ (q : Price). q.object) ps) apart.1 in
      let found = times-some o ps (omega (arith, some, rest)) in
      (found.0, further p found.0 ps found.1, found.2))
]

module _ (w : Weights) (priced : are_priced w ≡ true) where
  abbrev objects : List ℕ
  objects = map (λ (p : Price). p.object) w.prices

  both : (p : Price) → Contains w.prices p → (times_in objects p.object ≡ 1) × (price_of w p.object ≡ p.price)
  both p among =
      let parts = and_parts (times_in objects p.object == 1) (price_of w p.object == p.price)
      (all-at (λ (q : Price). (times_in objects q.object == 1) && (price_of w q.object == q.price)) w.prices p among priced) in
      (eqb-true (times_in objects p.object) 1 parts.0, eqb-true (price_of w p.object) p.price parts.1)

  once : (object : ℕ) → times_in (map (λ (p : Price). p.object) w.prices) object ≤ 1
  once object = by-times (times_in objects object) refl
    where
      by-times : (n : ℕ) → times_in objects object ≡ n → times_in objects object ≤ 1
      by-times zero none = omega (arith, none)
      by-times (suc n) some =
          let found = times-some object w.prices (omega (arith, some)) in
          let one = (both found.0 found.1).0 ∙ refl in
          let same = ap (times_in objects) found.2 in
          omega (arith, one, same)

  pub pays-so : (image : Image) (priority : ℕ) → pay_for_level image priority w ≡ true → Pays image priority w
  pays-so image priority all = record {
    once = once;
    each = λ p among. (both p among).1;
    points = λ t point state next listed level inside known leads.
        edge-passes image t (λ asked here after. pays_for w t.thread.header.budget (w.still t.number here) (w.still t.number after) asked)
        (or-then (not (is_of_level priority t)) _ (ap not level)
        (all-at (λ (u : Numbered). not (is_of_level priority u)
        || over_edges image u (λ asked here after. pays_for w u.thread.header.budget (w.still u.number here) (w.still u.number after) asked))
        (numbered_threads image) t listed all))
        point state next inside known leads;
  }

-- ---- what rests

takes-none : (queue : ℕ) (asked : Asked) → takes_only queue asked ≡ true → waits_for_no_message asked ≡ true
takes-none queue (Takes o) is = refl
takes-none queue (Polls o) is = refl
takes-none queue (Rings o) is = refl
takes-none queue (Acknowledges irq_line) is = refl
takes-none queue (Accepts o replies) is = is
takes-none queue (Looks o) is = refl
takes-none queue (SendsTo o) is = is
takes-none queue (Calls o) is = is
takes-none queue (Tries o) is = refl
takes-none queue Answers is = refl
takes-none queue Asks_nothing is = refl

takes-one : (image : Image) (t : Numbered) (queue : ℕ) → asks_each image t (takes_only queue) ≡ true → TakesFromOne image t queue
takes-one image t queue all point state inside known =
    let here = asked-each image t (takes_only queue) all point state inside known in
    (takes-none queue (asked_at image t.thread point state) here, λ other is. eqb-true other queue (sym (ap (takes_only queue) is) ∙ here))

pub taken-alone : (image : Image) (priority : ℕ) (r : Response) → list_all (rests_at image priority) r.taken ≡ true
    → AreTakenAlone image priority (is_taken_by r)
taken-alone image priority r all queue here =
    let object = any-found (λ (o : ℕ). o == queue) r.taken here in
    let same : object.0 ≡ queue = eqb-true object.0 queue object.2 in
    let rests = all-at (rests_at image priority) r.taken object.0 object.1 all in
    let found = any-found (λ (t : Numbered). is_of_level priority t && asks_each image t (takes_only object.0)) (numbered_threads image) rests in
    let parts = and_parts (is_of_level priority found.0) (asks_each image found.0 (takes_only object.0)) found.2 in
    (found.0, found.1, parts.0, subst (TakesFromOne image found.0) same (takes-one image found.0 object.0 parts.1))

-- ---- lines

pub leaves-takes : (queue : ℕ) (is_one : Bool) (asked : Asked) → leaves queue is_one asked ≡ true → asked ≡ Takes queue → is_one ≡ true
leaves-takes queue is_one asked leaves_it is =
    by-one is_one (sym (ap (leaves queue is_one) is) ∙ leaves_it)
  where
    by-one : (b : Bool) → (b || not (queue == queue)) ≡ true → b ≡ true
    by-one true either = refl
    by-one false either = absurd (let clash : false ≡ true = sym (ap not (eq-eqb queue queue refl)) ∙ either in cc)

pub leaves-polls : (queue : ℕ) (is_one : Bool) (asked : Asked) → leaves queue is_one asked ≡ true → asked ≡ Polls queue → ⊥
leaves-polls queue is_one asked leaves_it is =
    let clash : false ≡ true = sym (ap not (eq-eqb queue queue refl)) ∙ sym (ap (leaves queue is_one) is) ∙ leaves_it in absurd cc

pub not-zero : (n : ℕ) → not (n == 0) ≡ true → n ≡ 0 → ⊥
not-zero n is none = let clash : false ≡ true = sym (ap not (eq-eqb n 0 none)) ∙ is in absurd cc

module _ (image : Image) (priority : ℕ)
    (own : (u t : Numbered) → Contains (numbered_threads image) u → Contains (numbered_threads image) t → tcb_of image u ≡ tcb_of image t → u ≡ t) where
  pub others-leave : (t : Numbered) (bound : Signal)
      → list_all (λ (v : Numbered). asks_each image v (leaves bound.notification (tcb_of image v == tcb_of image t))) (numbered_threads image) ≡ true
      → (u : Numbered) → Contains (numbered_threads image) u → asks_each image u (leaves bound.notification (tcb_of image u == tcb_of image t)) ≡ true
  others-leave t bound all u among =
      all-at (λ (v : Numbered). asks_each image v (leaves bound.notification (tcb_of image v == tcb_of image t))) (numbered_threads image) u among all

  -- The thread tends the line, by the parts of the test that say so.
  abbrev pub tended-by : (l : OpenLine) (t : Numbered) (bound : Signal) → Contains (numbered_threads image) t
      → binding (described image) l.line ≡ Some bound → not (bound.badge == 0) ≡ true
      → list_all (λ (v : Numbered). asks_each image v (leaves bound.notification (tcb_of image v == tcb_of image t))) (numbered_threads image) ≡ true
      → over_edges image t (λ asked here after. marks_for l.line (l.marks here) (l.marks after) asked) ≡ true → IsTended image l.line
  tended-by l t bound listed is some left kept =
      record {
        thread = t;
        listed = listed;
        queue = bound.notification;
        badge = bound.badge;
        bound = is;
        some = not-zero bound.badge some;
        alone = λ u point state among inside known asks.
            own u t among listed (eqb-true (tcb_of image u) (tcb_of image t)
            (leaves-takes bound.notification (tcb_of image u == tcb_of image t) (asked_at image u.thread point state)
            (asked-each image u (leaves bound.notification (tcb_of image u == tcb_of image t)) (others-leave t bound left u among) point state inside known)
            asks));
        unpolled = λ u point state among inside known asks.
            leaves-polls bound.notification (tcb_of image u == tcb_of image t) (asked_at image u.thread point state)
            (asked-each image u (leaves bound.notification (tcb_of image u == tcb_of image t)) (others-leave t bound left u among) point state inside known)
            asks;
        marks = l.marks;
        marked = λ point state next inside known leads.
            edge-passes image t (λ asked here after. marks_for l.line (l.marks here) (l.marks after) asked) kept point state next inside known leads;
      }

  by-thread : (l : OpenLine) (t : Numbered) (bound : Signal) → Contains (numbered_threads image) t → binding (described image) l.line ≡ Some bound
      → acknowledges image priority l t bound ≡ true → IsAcknowledged image priority l.line
  by-thread l t bound listed is all =
      let one = and_parts (is_of_level priority t) _ all in
      let two = and_parts (not (bound.badge == 0)) _ one.1 in
      let three = and_parts (asks_each image t (takes_only bound.notification)) _ two.1 in
      let four = and_parts
      (list_all (λ (u : Numbered). asks_each image u (leaves bound.notification (tcb_of image u == tcb_of image t))) (numbered_threads image)) _ three.1 in
      record {
        level = one.0;
        one = takes-one image t bound.notification three.0;
        tended = tended-by l t bound listed is two.0 four.0 four.1;
      }

  by-binding : (l : OpenLine) (bound : Option Signal) → binding (described image) l.line ≡ bound → acknowledged_by_one image priority l bound ≡ true
      → IsAcknowledged image priority l.line
  by-binding l (Some bound) is any =
      let found = any-found (λ (t : Numbered). acknowledges image priority l t bound) (numbered_threads image) any in
      by-thread l found.0 bound found.1 is found.2
  by-binding l None is any = absurd (let clash : false ≡ true = any in cc)

  pub acknowledged-so : (r : Response) → list_all (is_acknowledged image priority) r.open_lines ≡ true → AreAcknowledged image priority (is_open_by r)
  acknowledged-so r all number few here =
      let found = any-found (λ (l : OpenLine). l.line == number) r.open_lines here in
      let l = found.0 in
      subst (IsAcknowledged image priority) (eqb-true l.line number found.2)
      (by-binding l (binding (described image) l.line) refl (all-at (is_acknowledged image priority) r.open_lines l found.1 all))

-- ---- rings from below, and rates

pub rings-so : (image : Image) (priority : ℕ) (r : Response) → rings_fit image priority r ≡ true
    → RingsFit image priority r.weights (is_taken_by r) (is_open_by r) r.most
rings-so image priority r all t point state object listed below inside known asks taken =
    let each = or-then (is_of_level priority t) _ below
    (all-at (λ (u : Numbered). is_of_level priority u
    || asks_each image u (ring_fits (is_taken_by r) (price_of r.weights) (rest_of image r) r.most)) (numbered_threads image) t listed all) in
    let here = asked-each image t (ring_fits (is_taken_by r) (price_of r.weights) (rest_of image r) r.most) each point state inside known in
    let fits = sym (ap (ring_fits (is_taken_by r) (price_of r.weights) (rest_of image r) r.most) asks) ∙ here in
    leb-true (rest_of image r + price_of r.weights object) r.most (or-then (not (is_taken_by r object)) _ (ap not taken) fits)

pub rates-so : (image : Image) (w : Weights) (rates : List Rate) → have_rates image w rates ≡ true → HaveRates image w rates
unfolding irq_lines
rates-so image w rates all number few =
    leb-true (line_price w (described image) number) (cost_of rates (line_price w (described image)) number)
    (all-at (λ (n : ℕ). nat_le (line_price w (described image) n) (cost_of rates (line_price w (described image)) n)) irq_lines number
    (line-among number few) all)

-- ---- the whole

pub record Passed (image : Image) (priority : ℕ) (rates : List Rate) (r : Response) : Type 0 where
  pub alone : waits_for_notifications_alone image priority ≡ true
  pub priced : are_priced r.weights ≡ true
  pub pays : pay_for_level image priority r.weights ≡ true
  pub taken : list_all (rests_at image priority) r.taken ≡ true
  pub open_ones : list_all (is_acknowledged image priority) r.open_lines ≡ true
  pub rings : rings_fit image priority r ≡ true
  pub rated : have_rates image r.weights rates ≡ true
  pub rest : at_rest image r.weights (is_taken_by r) (is_open_by r) ≤ r.most
  pub steps : r.most + costs_within rates (line_price r.weights (described image)) r.steps ≤ r.steps

pub passed : (image : Image) (priority : ℕ) (rates : List Rate) (r : Response) → passes_rested image priority rates r ≡ true → Passed image priority rates r
unfolding passes_rested
passed image priority rates r all =
    let one = and_parts (waits_for_notifications_alone image priority) _ all in
    let two = and_parts (are_priced r.weights) _ one.1 in
    let three = and_parts (pay_for_level image priority r.weights) _ two.1 in
    let four = and_parts (list_all (rests_at image priority) r.taken) _ three.1 in
    let five = and_parts (list_all (is_acknowledged image priority) r.open_lines) _ four.1 in
    let six = and_parts (rings_fit image priority r) _ five.1 in
    let seven = and_parts (have_rates image r.weights rates) _ six.1 in
    let eight = and_parts (nat_le (rest_of image r) r.most) _ seven.1 in
    record {
      alone = one.0;
      priced = two.0;
      pays = three.0;
      taken = four.0;
      open_ones = five.0;
      rings = six.0;
      rated = seven.0;
      rest = leb-true (rest_of image r) r.most eight.0;
      steps = leb-true (r.most + costs_within rates (line_price r.weights (described image)) r.steps) r.steps eight.1;
    }

-- ---- from the start on

pub at-start : (image : Image) (priority : ℕ) (w : Weights) → left_after image priority w [] ≡ left image priority w (described image) []
unfolding state_after trace
at-start image priority w = refl

pub begins : (image : Image) (priority : ℕ) (rates : List Rate) (r : Response) → passes image priority rates r ≡ true
    → (passes_rested image priority rates r ≡ true) × (left_after image priority r.weights [] ≤ r.most)
unfolding passes
begins image priority rates r all =
    let parts = and_parts (passes_rested image priority rates r) _ all in
    let few = leb-true (left image priority r.weights (described image) []) r.most parts.1 in
    let same = at-start image priority r.weights in
    (parts.0, omega (arith, few, same))
