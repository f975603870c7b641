-- The parts of the test by what is seen of threads are those by the image.
use Rattle.std.proofs.Common.{ℕ, ◌≡◌, ◌∙◌, ◌+◌, ◌==◌, ◌&&◌, ◌||◌, Bool, true, false, is_some, not, if◌then◌else◌}
use Rattle.std.proofs.Common.{Option, Some, None, List, map, refl, sym, ap, subst, arith}
use Rattle.std.specs.Prelude.{nat_le, slice_get}
use Rattle.std.specs.List.{list_all, list_any}
use Rattle.std.specs.Option.{option_map_or}
use Rattle.std.proofs.lemmas.Bool.{and_parts, eqb-true}
use Rattle.std.proofs.lemmas.List.Folds.{list_all-map}
use Rattle.std.proofs.lemmas.Option.{none-some}
use Rattle.model.specs.declared.entries.ThreadHeader.{ThreadHeader}
use Rattle.model.specs.Acceptance.Accepted.{IsWellFormed}
use Rattle.model.specs.Acceptance.ThreadInvariants.{tcb_of}
use Rattle.model.specs.Images.Described.{Numbered, described, numbered_threads}
use Rattle.model.specs.Images.Image.{Image, whole_image}
use Rattle.model.specs.Kernel.Interrupts.{Signal, binding}
use Rattle.response.specs.Asking.{Asked, Takes, Polls, Rings, Acknowledges, Accepts, Looks, SendsTo, Calls, Tries, Answers, Asks_nothing, asked_at}
use Rattle.response.specs.Levels.{is_of_level}
use Rattle.response.specs.Owed.{owes_at_most, pay_answers, pays_answer, step_fits}
use Rattle.response.specs.Responding as responding
use Rattle.response.specs.Responding.{acknowledged_by_one, acknowledges, asks_each, at_each, leaves, over_edges, pay_for_level, takes_only}
use Rattle.response.specs.Resting.{marks_for}
use Rattle.response.specs.Weights.{pays_for, price_of}
use Rattle.response.specs.Weights.{Weights as SpecWeights}
use Rattle.settled_threads.specs.Tested as tested
use Rattle.settled_threads.specs.Settled.{Settling}
use Rattle.settled_threads.specs.Tested.{is_input, others_owe, tended_by_one, tends}
use Rattle.responses.proofs.Lists.{all-so, both-true}
use Rattle.responses.proofs.Points.{asks-so, edges-weaker, leads-on, nexts-so}
use Rattle.responses.proofs.Priced.{at-most, bound-is, price-same, signal_by}
use Rattle.responses.proofs.OfThreads.{IsAt, all-from, any-from, place-is}
use Rattle.responses.specs.Asks.{test_of}
use Rattle.responses.specs.Checks as seen
use Rattle.responses.specs.Edges.{marks_on, pays_on, pays_wholly}
use Rattle.responses.specs.Found.{keeper_at, open_line, price_in, weights_at, weights_of}
use Rattle.responses.specs.Keepers.{AreKeepers, high_at, is_high, keeps, keeps_by, keeps_for, left_to}
use Rattle.responses.specs.Lines.{AreBells}
use Rattle.responses.specs.Numbers.{is_among, mark_at, number_at}
use Rattle.responses.specs.Outlines.{AreOutlines, place_at, place_in}
use Rattle.responses.specs.Inputs.{input_at}
use Rattle.responses.specs.Seen.{asks_all, leads_so}
use Rattle.responses.specs.Settling as settling
use Rattle.responses.specs.declared.asks.AskTest.TheVariants.{TakesOnly, Leaves}
use Rattle.responses.specs.declared.keepers.Keeper.{Keeper}
use Rattle.responses.specs.declared.lines.Bell.{Bell}
use Rattle.responses.specs.declared.outlines.Outline.{Outline}
use Rattle.responses.specs.declared.settled.Settled.{Settled}
use Rattle.responses.specs.declared.weights.Weights.{Weights}

pub or-so : (a b c : Bool) → (b ≡ true → c ≡ true) → (a || b) ≡ true → (a || c) ≡ true
or-so true b c so is = refl
or-so false b c so is = so is

pub and-so : (a b c : Bool) → (b ≡ true → c ≡ true) → (a && b) ≡ true → (a && c) ≡ true
and-so true b c so is = so is
and-so false b c so is = is

-- ---- prices do not know of points

pays-same : (programs : List Outline) (w : Weights) (budget here next : ℕ) (a : Asked)
    → pays_for (weights_of w) budget here next a ≡ pays_for (weights_at programs w) budget here next a
pays-same programs w budget here next (Takes o) = refl
pays-same programs w budget here next (Polls o) = refl
pays-same programs w budget here next (Rings o) = refl
pays-same programs w budget here next (Acknowledges l) = refl
pays-same programs w budget here next (Accepts o replies) = refl
pays-same programs w budget here next (Looks o) = refl
pays-same programs w budget here next (SendsTo o) = refl
pays-same programs w budget here next (Calls o) = refl
pays-same programs w budget here next (Tries o) = refl
pays-same programs w budget here next Answers = refl
pays-same programs w budget here next Asks_nothing = refl

answer-same : (programs : List Outline) (w : Weights) (budget here next : ℕ) (a : Asked)
    → pays_answer (weights_of w) budget here next a ≡ pays_answer (weights_at programs w) budget here next a
answer-same programs w budget here next (Takes o) = refl
answer-same programs w budget here next (Polls o) = refl
answer-same programs w budget here next (Rings o) = refl
answer-same programs w budget here next (Acknowledges l) = refl
answer-same programs w budget here next (Accepts o replies) = refl
answer-same programs w budget here next (Looks o) = refl
answer-same programs w budget here next (SendsTo o) = refl
answer-same programs w budget here next (Calls o) = refl
answer-same programs w budget here next (Tries o) = refl
answer-same programs w budget here next Answers = refl
answer-same programs w budget here next Asks_nothing = refl

owes-same : (programs : List Outline) (w : Weights) (is_taken : ℕ → Bool) (level : Bool) (next most : ℕ) (a : Asked)
    → owes_at_most (weights_of w) is_taken level next most a ≡ owes_at_most (weights_at programs w) is_taken level next most a
owes-same programs w is_taken level next most (Takes o) = refl
owes-same programs w is_taken level next most (Polls o) = refl
owes-same programs w is_taken level next most (Rings o) = refl
owes-same programs w is_taken level next most (Acknowledges l) = refl
owes-same programs w is_taken level next most (Accepts o replies) = refl
owes-same programs w is_taken level next most (Looks o) = refl
owes-same programs w is_taken level next most (SendsTo o) = refl
owes-same programs w is_taken level next most (Calls o) = refl
owes-same programs w is_taken level next most (Tries o) = refl
owes-same programs w is_taken level next most Answers = refl
owes-same programs w is_taken level next most Asks_nothing = refl

-- ---- where nothing is asked

no-less : (n : ℕ) → nat_le n n ≡ true
no-less n = at-most n n (omega arith)

kept-marks : (b : Bool) → (b || not b) ≡ true
kept-marks true = refl
kept-marks false = refl

module _ (image : Image) (priority : ℕ) (programs : List Outline) (are : AreOutlines image 0 image.threads programs) where
  pub high-same : (t : Numbered) (p : Outline) → IsAt image programs t p → is_high priority p ≡ is_of_level priority t
  high-same t p at = ap (λ (h : ThreadHeader). nat_le priority h.priority) at.is.header

  -- what is so of each thread of the level that is seen is so of it
  level-so : (f : Outline → Bool) (g : Numbered → Bool) → ((t : Numbered) (p : Outline) → IsAt image programs t p → f p ≡ true → g t ≡ true)
      → list_all (λ p. not (is_high priority p) || f p) programs ≡ true
      → list_all (λ t. not (is_of_level priority t) || g t) (numbered_threads image) ≡ true
  level-so f g so all =
      all-from image programs are (λ p. not (is_high priority p) || f p) (λ t. not (is_of_level priority t) || g t)
      (λ t p at is. or-so (not (is_of_level priority t)) (f p) (g t) (so t p at) (ap (λ b. not b || f p) (sym (high-same t p at)) ∙ is)) all

  -- a part of what is asked of weights, at each run of the level
  part-so : (part : SpecWeights → ℕ → ℕ → ℕ → Asked → Bool) (w : Weights)
      → ((budget here next : ℕ) (asked : Asked) → pays_wholly (weights_of w) budget here next asked ≡ true
      → part (weights_at programs w) budget here next asked ≡ true)
      → ((budget here : ℕ) → part (weights_at programs w) budget here here Asks_nothing ≡ true)
      → seen.pay_all w priority programs ≡ true
      → list_all (λ t. not (is_of_level priority t) || over_edges image t (λ asked here next.
      part (weights_at programs w) t.thread.header.budget ((weights_at programs w).still t.number here) ((weights_at programs w).still t.number next) asked))
      (numbered_threads image) ≡ true
  part-so part w so nothing all =
      level-so (λ p. leads_so (pays_on w p.number p.header.budget) p)
      (λ t. over_edges image t (λ asked here next.
      part (weights_at programs w) t.thread.header.budget ((weights_at programs w).still t.number here) ((weights_at programs w).still t.number next) asked))
      (λ t p at is.
      (λ i. over_edges image t (λ asked here next. part (weights_at programs w) t.thread.header.budget
      ((weights_of w).still t.number (place-is image programs t p at here i)) ((weights_of w).still t.number (place-is image programs t p at next i)) asked))
      ∙ ap (λ (h : ThreadHeader). over_edges image t (λ asked here next.
      part (weights_at programs w) h.budget ((weights_of w).still t.number (place_at p here)) ((weights_of w).still t.number (place_at p next)) asked))
      (sym at.is.header)
      ∙ ap (λ n. over_edges image t (λ asked here next.
      part (weights_at programs w) p.header.budget ((weights_of w).still n (place_at p here)) ((weights_of w).still n (place_at p next)) asked))
      (sym at.is.number)
      ∙ leads-on image t p at.is (part-on p) (λ place. nothing p.header.budget ((weights_of w).still p.number place))
      (edges-weaker (pays_on w p.number p.header.budget) (part-on p) (weaker p) p is)) all
    where
      part-on : Outline → Asked → ℕ → ℕ → Bool
      part-on p asked here next =
          part (weights_at programs w) p.header.budget ((weights_of w).still p.number here) ((weights_of w).still p.number next) asked

      weaker : (p : Outline) (asked : Asked) (here next : ℕ) → pays_on w p.number p.header.budget asked here next ≡ true → part-on p asked here next ≡ true
      weaker p asked here next = so p.header.budget ((weights_of w).still p.number here) ((weights_of w).still p.number next) asked

  pub pays-so : (w : Weights) → seen.pay_all w priority programs ≡ true → pay_for_level image priority (weights_at programs w) ≡ true
  pays-so w all =
      part-so pays_for w
      (λ budget here next asked is. sym (pays-same programs w budget here next asked) ∙ (and_parts (pays_for (weights_of w) budget here next asked) _ is).0)
      (λ budget here. no-less here) all

  pub answers-so : (w : Weights) → seen.pay_all w priority programs ≡ true → pay_answers image priority (weights_at programs w) ≡ true
  answers-so w all =
      part-so pays_answer w
      (λ budget here next asked is. sym (answer-same programs w budget here next asked) ∙ (and_parts (pays_for (weights_of w) budget here next asked) _ is).1)
      (λ budget here. refl) all

  -- of threads that are not settled
  pub owes-so : (w : Weights) (s : Settled) (taken owed : List ℕ) → seen.owe_all priority w s taken owed programs ≡ true
      → others_owe image priority (weights_at programs w) (record { input = input_at s.inputs.items; rank = number_at s.ranks.items }) (is_among taken)
      (number_at owed) ≡ true
  owes-so w s taken owed all =
      all-from image programs are
      (λ p. is_some (input_at s.inputs.items p.number) || list_all (seen.run_owes priority w taken owed p) p.runs.items)
      (λ t. is_some (input_at s.inputs.items t.number) || by-points t t.thread.header t.number)
      (λ t p at is.
      ap (λ n. is_some (input_at s.inputs.items n) || by-points t t.thread.header t.number) (sym at.is.number)
      ∙ or-so (is_some (input_at s.inputs.items p.number)) (list_all (seen.run_owes priority w taken owed p) p.runs.items)
      (by-points t t.thread.header t.number) (one t p at) is) all
    where
      by-points : Numbered → ThreadHeader → ℕ → Bool
      by-points t h n =
          at_each image t
          (λ point state. owes_at_most (weights_at programs w) (is_among taken) (nat_le priority h.priority)
          (if nat_le priority h.priority then h.budget + (weights_at programs w).still n (point + 1) else 0)
          (number_at owed n) (asked_at image t.thread point state))

      one : (t : Numbered) (p : Outline) → IsAt image programs t p → list_all (seen.run_owes priority w taken owed p) p.runs.items ≡ true
          → by-points t t.thread.header t.number ≡ true
      one t p at passes =
          (λ i. at_each image t
          (λ point state. owes_at_most (weights_at programs w) (is_among taken) (nat_le priority t.thread.header.priority)
          (if nat_le priority t.thread.header.priority then t.thread.header.budget
          + (weights_of w).still t.number (place-is image programs t p at (point + 1) i) else 0)
          (number_at owed t.number) (asked_at image t.thread point state)))
          ∙ ap (λ (h : ThreadHeader). at_each image t
          (λ point state. owes_at_most (weights_at programs w) (is_among taken) (nat_le priority h.priority)
          (if nat_le priority h.priority then h.budget + (weights_of w).still t.number (place_at p (point + 1)) else 0)
          (number_at owed t.number) (asked_at image t.thread point state))) (sym at.is.header)
          ∙ ap (λ n. at_each image t
          (λ point state. owes_at_most (weights_at programs w) (is_among taken) (is_high priority p)
          (if is_high priority p then p.header.budget + (weights_of w).still n (place_at p (point + 1)) else 0)
          (number_at owed n) (asked_at image t.thread point state))) (sym at.is.number)
          ∙ (λ i. at_each image t
          (λ point state. sym (owes-same programs w (is_among taken) (is_high priority p) (seen.going_to priority w p (place_at p (point + 1)))
          (number_at owed p.number) (asked_at image t.thread point state)) i))
          ∙ nexts-so image t p at.is (λ place. seen.owes_so priority w taken owed p place) (λ place. refl) passes

  -- ---- lines

  left-so : (t : Numbered) (p : Outline) → IsAt image programs t p → (queue : ℕ) → left_to p.tcb queue programs ≡ true
      → list_all (λ u. asks_each image u (leaves queue (tcb_of image u == tcb_of image t))) (numbered_threads image) ≡ true
  left-so t p at queue all =
      all-from image programs are (λ q. asks_all (test_of (Leaves queue (q.tcb == p.tcb))) q)
      (λ u. asks_each image u (leaves queue (tcb_of image u == tcb_of image t)))
      (λ u q other is.
      ap (λ n. asks_each image u (leaves queue (n == tcb_of image t))) (sym other.is.tcb)
      ∙ ap (λ n. asks_each image u (leaves queue (q.tcb == n))) (sym at.is.tcb)
      ∙ asks-so image u q other.is (leaves queue (q.tcb == p.tcb)) refl is) all

  -- what is so of the thread that keeps a line
  module _ (keepers : List (Option Keeper)) (line : ℕ) (k : Keeper) (kept : keeper_at keepers line ≡ Some k) (bell : Bell)
      (t : Numbered) (p : Outline) (at : IsAt image programs t p) (is : keeps_by programs line k bell p ≡ true) where
    same-thread : t.number ≡ k.thread
    same-thread = sym at.is.number ∙ eqb-true p.number k.thread (and_parts (p.number == k.thread) _ is).0

    on-thread : ((k.notification == bell.notification) && (not (bell.badge == 0) && (left_to p.tcb bell.notification programs
        && (leads_so (marks_on line k.marks.items) p && (not k.is_alone || asks_all (test_of (TakesOnly bell.notification)) p))))) ≡ true
    on-thread = (and_parts (p.number == k.thread) _ is).1

    same-queue : k.notification ≡ bell.notification
    same-queue = eqb-true k.notification bell.notification (and_parts (k.notification == bell.notification) _ on-thread).0

    badge-so : (not (bell.badge == 0)) ≡ true
    badge-so = (and_parts (not (bell.badge == 0)) _ (and_parts (k.notification == bell.notification) _ on-thread).1).0

    rest-so : (left_to p.tcb bell.notification programs
        && (leads_so (marks_on line k.marks.items) p && (not k.is_alone || asks_all (test_of (TakesOnly bell.notification)) p))) ≡ true
    rest-so = (and_parts (not (bell.badge == 0)) _ (and_parts (k.notification == bell.notification) _ on-thread).1).1

    others-leave : list_all (λ u. asks_each image u (leaves bell.notification (tcb_of image u == tcb_of image t))) (numbered_threads image) ≡ true
    others-leave = left-so t p at bell.notification (and_parts (left_to p.tcb bell.notification programs) _ rest-so).0

    alone-so : (not k.is_alone || asks_all (test_of (TakesOnly bell.notification)) p) ≡ true
    alone-so = (and_parts (leads_so (marks_on line k.marks.items) p) _ (and_parts (left_to p.tcb bell.notification programs) _ rest-so).1).1

    marked : (point : ℕ) → (open_line programs keepers line).marks point ≡ mark_at k.marks.items (place_at p point)
    marked point =
        ap (λ (o : Option Keeper). option_map_or (λ (q : Keeper). mark_at q.marks.items (place_in programs q.thread point)) o false) kept
        ∙ ap (λ n. mark_at k.marks.items (place_in programs n point)) (sym same-thread)
        ∙ ap (mark_at k.marks.items) (place-is image programs t p at point)

    marks-so : over_edges image t (λ asked here next.
        marks_for line ((open_line programs keepers line).marks here) ((open_line programs keepers line).marks next) asked) ≡ true
    marks-so =
        (λ i. over_edges image t (λ asked here next. marks_for line (marked here i) (marked next i) asked))
        ∙ leads-on image t p at.is (marks_on line k.marks.items) (λ place. kept-marks (mark_at k.marks.items place))
        (and_parts (leads_so (marks_on line k.marks.items) p) _ (and_parts (left_to p.tcb bell.notification programs) _ rest-so).1).0

    pub tends-so : (settling : Settling) → is_input k.notification (settling.input k.thread) ≡ true
        → tends image settling (open_line programs keepers line) t (signal_by bell) ≡ true
    tends-so settling input =
        both-true (is_input bell.notification (settling.input t.number)) _
        (ap (λ n. is_input bell.notification (settling.input n)) same-thread
        ∙ ap (λ n. is_input n (settling.input k.thread)) (sym same-queue) ∙ input)
        (both-true (not (bell.badge == 0)) _ badge-so
        (both-true (list_all (λ u. asks_each image u (leaves bell.notification (tcb_of image u == tcb_of image t))) (numbered_threads image)) _
        others-leave marks-so))

    pub acknowledges-so : k.is_alone ≡ true → high_at programs priority k.thread ≡ true
        → acknowledges image priority (open_line programs keepers line) t (signal_by bell) ≡ true
    acknowledges-so alone high =
        both-true (is_of_level priority t) _
        (sym (high-same t p at)
        ∙ sym (ap (λ o. option_map_or (is_high priority) o false) (ap (slice_get programs) (sym same-thread) ∙ at.there)) ∙ high)
        (both-true (not (bell.badge == 0)) _ badge-so
        (both-true (asks_each image t (takes_only bell.notification)) _
        (asks-so image t p at.is (takes_only bell.notification) refl
        (ap (λ b. not b || asks_all (test_of (TakesOnly bell.notification)) p) (sym alone) ∙ alone-so))
        (both-true (list_all (λ u. asks_each image u (leaves bell.notification (tcb_of image u == tcb_of image t))) (numbered_threads image)) _
        others-leave marks-so)))

  module _ (fits : whole_image.fits image ≡ true) (well : IsWellFormed image) (bells : List (Option Bell)) (are_bells : AreBells image bells)
      (keepers : List (Option Keeper)) (are_keepers : AreKeepers programs bells keepers) where
    -- whoever keeps a line is found among the threads
    kept-line : (line : ℕ) (k : Keeper) → keeper_at keepers line ≡ Some k → keeps programs bells line k ≡ true
    kept-line line k there = by-slot (slice_get keepers line) refl
      where
        by-slot : (o : Option (Option Keeper)) → slice_get keepers line ≡ o → keeps programs bells line k ≡ true
        by-slot None at =
            absurd (none-some k (sym (ap (λ (o : Option (Option Keeper)). option_map_or (λ (q : Option Keeper). q) o None) at) ∙ there))
        by-slot (Some found) at =
            let same : found ≡ Some k = sym (ap (λ (o : Option (Option Keeper)). option_map_or (λ (q : Option Keeper). q) o None) at) ∙ there in
            subst (λ (o : Option Keeper). option_map_or (keeps programs bells line) o true ≡ true) same (are_keepers line found at)

    module _ (g : Numbered → Bell → Bool) (line : ℕ) (k : Keeper)
        (so : (bell : Bell) (t : Numbered) (p : Outline) → IsAt image programs t p → keeps_by programs line k bell p ≡ true → g t bell ≡ true) where
      by-bell : (whole : Option Signal → Bool)
          → ((bell : Bell) → list_any (λ t. g t bell) (numbered_threads image) ≡ true → whole (Some (signal_by bell)) ≡ true)
          → keeps programs bells line k ≡ true → whole (binding (described image) line) ≡ true
      by-bell whole on is = cases (slice_get bells line) refl is
        where
          cases : (found : Option (Option Bell)) → slice_get bells line ≡ found
              → keeps_for programs line k (option_map_or (λ (o : Option Bell). o) found None) ≡ true → whole (binding (described image) line) ≡ true
          cases (Some (Some bell)) at any =
              ap whole (bound-is image fits well bells are_bells line (Some bell) at)
              ∙ on bell (any-from image programs are (keeps_by programs line k bell) (λ t. g t bell) (so bell) any)
          cases (Some None) at clash = absurd (let no : false ≡ true = clash in cc)
          cases None at clash = absurd (let no : false ≡ true = clash in cc)

    pub alone-line : (line : ℕ) → seen.is_acknowledged priority programs keepers line ≡ true
        → responding.is_acknowledged image priority (open_line programs keepers line) ≡ true
    alone-line line is = by-keeper (keeper_at keepers line) refl is
      where
        by-keeper : (o : Option Keeper) → keeper_at keepers line ≡ o → seen.is_alone_of priority programs o ≡ true
            → responding.is_acknowledged image priority (open_line programs keepers line) ≡ true
        by-keeper None at clash = absurd (let no : false ≡ true = clash in cc)
        by-keeper (Some k) at holds =
            let parts = and_parts (k.is_alone) (high_at programs priority k.thread) holds in
            by-bell (λ t bell. acknowledges image priority (open_line programs keepers line) t (signal_by bell)) line k
            (λ bell t p own kept. acknowledges-so keepers line k at bell t p own kept parts.0 parts.1)
            (acknowledged_by_one image priority (open_line programs keepers line)) (λ bell any. any) (kept-line line k at)

    pub lines-so : (lines : List ℕ) → list_all (seen.is_acknowledged priority programs keepers) lines ≡ true
        → list_all (responding.is_acknowledged image priority) (map (open_line programs keepers) lines) ≡ true
    lines-so lines all =
        list_all-map (responding.is_acknowledged image priority) (open_line programs keepers) lines
        ∙ all-so (seen.is_acknowledged priority programs keepers)
        (λ l. responding.is_acknowledged image priority (open_line programs keepers l)) alone-line lines all

    tended-line : (s : Settled) (line : ℕ) → settling.is_tended s keepers line ≡ true
        → tested.is_tended image (record { input = input_at s.inputs.items; rank = number_at s.ranks.items }) (open_line programs keepers line) ≡ true
    tended-line s line is = by-keeper (keeper_at keepers line) refl is
      where
        inner : Settling
        inner = record { input = input_at s.inputs.items; rank = number_at s.ranks.items }

        by-keeper : (o : Option Keeper) → keeper_at keepers line ≡ o → settling.is_tended_by s o ≡ true
            → tested.is_tended image inner (open_line programs keepers line) ≡ true
        by-keeper None at clash = absurd (let no : false ≡ true = clash in cc)
        by-keeper (Some k) at holds =
            by-bell (λ t bell. tends image inner (open_line programs keepers line) t (signal_by bell)) line k
            (λ bell t p own kept. tends-so keepers line k at bell t p own kept inner holds)
            (tended_by_one image inner (open_line programs keepers line)) (λ bell any. any) (kept-line line k at)

    pub tended-so : (s : Settled) (lines : List ℕ) → list_all (settling.is_tended s keepers) lines ≡ true
        → list_all (tested.is_tended image (record { input = input_at s.inputs.items; rank = number_at s.ranks.items }))
        (map (open_line programs keepers) lines) ≡ true
    tended-so s lines all =
        list_all-map (tested.is_tended image (record { input = input_at s.inputs.items; rank = number_at s.ranks.items })) (open_line programs keepers) lines
        ∙ all-so (settling.is_tended s keepers)
        (λ l. tested.is_tended image (record { input = input_at s.inputs.items; rank = number_at s.ranks.items }) (open_line programs keepers l))
        (tended-line s) lines all

  -- what steps of threads below set going
  pub steps-so : (is_taken : ℕ → Bool) (w : Weights) (rest most : ℕ) → seen.fit_steps priority is_taken (price_in w.prices) rest most programs ≡ true
      → list_all (λ t. is_of_level priority t || asks_each image t (step_fits is_taken (price_of (weights_at programs w)) rest most)) (numbered_threads image)
      ≡ true
  steps-so is_taken w rest most all =
      (λ i. list_all (λ t. is_of_level priority t || asks_each image t (step_fits is_taken (λ o. price-same w o i) rest most)) (numbered_threads image))
      ∙ all-from image programs are (λ p. is_high priority p || asks_all (step_fits is_taken (price_in w.prices) rest most) p)
      (λ t. is_of_level priority t || asks_each image t (step_fits is_taken (price_in w.prices) rest most))
      (λ t p at is.
      or-so (is_of_level priority t) (asks_all (step_fits is_taken (price_in w.prices) rest most) p)
      (asks_each image t (step_fits is_taken (price_in w.prices) rest most))
      (asks-so image t p at.is (step_fits is_taken (price_in w.prices) rest most) refl)
      (ap (λ b. b || asks_all (step_fits is_taken (price_in w.prices) rest most) p) (sym (high-same t p at)) ∙ is)) all
