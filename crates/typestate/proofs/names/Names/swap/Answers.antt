-- Two names and two slots change places.
use Rattle.std.proofs.Common.{ℕ, ◌≡◌, ◌∙◌, ◌==◌, if◌then◌else◌, refl, ap}
use Rattle.typestate.specs.Names.{renamed}
use Rattle.typestate.proofs.SwappedNames.{same-inverse, still-inverse, turned-there}
use Rattle.typestate.proofs.names.Names.swap.Goals as goal

pub returns-in_err-hold-clause-inverse : goal.returns-in_err-hold-clause-inverse
returns-in_err-hold-clause-inverse c = same-inverse (renamed c.args.self.now.slots.entries) (renamed c.args.self.now.names.entries)
    (renamed c.hold.new.map.entries) (renamed c.args.self.now.names.entries) c.hold.ensures.same (λ n. refl) c.requires

pub returns-in_err-hold-2-clause-inverse : goal.returns-in_err-hold-2-clause-inverse
returns-in_err-hold-2-clause-inverse c =
    same-inverse (renamed c.args.self.now.slots.entries) (renamed c.args.self.now.names.entries) (renamed c.hold-2.new.map.entries)
    (renamed c.args.self.now.names.entries) (λ n. c.hold-2.ensures.same n ∙ c.hold.ensures.same n) (λ n. refl) c.requires

pub returns-in_err-hold-3-clause-inverse : goal.returns-in_err-hold-3-clause-inverse
returns-in_err-hold-3-clause-inverse c =
    same-inverse (renamed c.args.self.now.slots.entries) (renamed c.args.self.now.names.entries) (renamed c.hold-2.new.map.entries)
    (renamed c.hold-3.new.map.entries)
    (λ n. c.hold-2.ensures.same n ∙ c.hold.ensures.same n) c.hold-3.ensures.same c.requires

pub returns-in_err-hold-4-clause-inverse : goal.returns-in_err-hold-4-clause-inverse
returns-in_err-hold-4-clause-inverse c =
    same-inverse (renamed c.args.self.now.slots.entries) (renamed c.args.self.now.names.entries) (renamed c.hold-2.new.map.entries)
    (renamed c.hold-4.new.map.entries)
    (λ n. c.hold-2.ensures.same n ∙ c.hold.ensures.same n) (λ n. c.hold-4.ensures.same n ∙ c.hold-3.ensures.same n) c.requires

pub set-requires : goal.set-requires
set-requires c = record { held = c.hold-2.ensures.kept c.name-first.result c.in_ok-hold.ensures.held }

pub set-requires-2 : goal.set-requires-2
set-requires-2 c = record { held = c.set.ensures.kept c.name-second.result c.in_ok-hold-2.ensures.held }

pub returns-clause-inverse : goal.returns-clause-inverse
returns-clause-inverse c =
    let slots = c.args.self.now.slots.entries in
    let names = c.args.self.now.names.entries in
    let one = c.args.one in
    let other = c.args.other in
    let set : (n : ℕ) → renamed c.set-2.new.map.entries n ≡ (if renamed names other == n then one else if renamed names one == n then other else
    renamed slots n) = λ n.
    c.set-2.ensures.set n ∙ ap (λ k. if k == n then one else renamed c.set.new.map.entries n) c.name-second.ensures
    ∙ ap (λ m. if renamed names other == n then one else m) (c.set.ensures.set n
    ∙ ap (λ k. if k == n then other else renamed c.hold-2.new.map.entries n) c.name-first.ensures
    ∙ ap (λ m. if renamed names one == n then other else m) (c.hold-2.ensures.same n ∙ c.hold.ensures.same n)) in
    let put : (n : ℕ) → renamed c.set-4.new.map.entries n ≡ (if other == n then renamed names one else if one == n then renamed names other else
    renamed names n) = λ n.
    c.set-4.ensures.set n ∙ ap (λ k. if other == n then k else renamed c.set-3.new.map.entries n) c.name-first.ensures
    ∙ ap (λ m. if other == n then renamed names one else m) (c.set-3.ensures.set n
    ∙ ap (λ k. if one == n then k else renamed c.hold-4.new.map.entries n) c.name-second.ensures
    ∙ ap (λ m. if one == n then renamed names other else m) (c.hold-4.ensures.same n ∙ c.hold-3.ensures.same n)) in
    still-inverse (renamed slots) (renamed names) (renamed c.set-2.new.map.entries) (renamed c.set-4.new.map.entries) one other (λ n. (c.requires n).0)
    (λ n. (c.requires n).1) set put

pub returns-clause-swapped : goal.returns-clause-swapped
returns-clause-swapped c =
    let slots = c.args.self.now.slots.entries in
    let names = c.args.self.now.names.entries in
    let one = c.args.one in
    let other = c.args.other in
    let set : (n : ℕ) → renamed c.set-2.new.map.entries n ≡ (if renamed names other == n then one else if renamed names one == n then other else
    renamed slots n) = λ n.
    c.set-2.ensures.set n ∙ ap (λ k. if k == n then one else renamed c.set.new.map.entries n) c.name-second.ensures
    ∙ ap (λ m. if renamed names other == n then one else m) (c.set.ensures.set n
    ∙ ap (λ k. if k == n then other else renamed c.hold-2.new.map.entries n) c.name-first.ensures
    ∙ ap (λ m. if renamed names one == n then other else m) (c.hold-2.ensures.same n ∙ c.hold.ensures.same n)) in
    let put : (n : ℕ) → renamed c.set-4.new.map.entries n ≡ (if other == n then renamed names one else if one == n then renamed names other else
    renamed names n) = λ n.
    c.set-4.ensures.set n ∙ ap (λ k. if other == n then k else renamed c.set-3.new.map.entries n) c.name-first.ensures
    ∙ ap (λ m. if other == n then renamed names one else m) (c.set-3.ensures.set n
    ∙ ap (λ k. if one == n then k else renamed c.hold-4.new.map.entries n) c.name-second.ensures
    ∙ ap (λ m. if one == n then renamed names other else m) (c.hold-4.ensures.same n ∙ c.hold-3.ensures.same n)) in
    turned-there (renamed slots) (renamed names) (renamed c.set-2.new.map.entries) (renamed c.set-4.new.map.entries) one other (λ n. (c.requires n).0)
    (λ n. (c.requires n).1) set put
