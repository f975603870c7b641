use Rattle.std.proofs.Common.{ℕ, ◌≡◌, ◌∙◌, ◌+◌, ◌-◌, ◌^◌, ◌<◌, length, arith, sym, ap, subst}
use Rattle.shared_states.specs.Entries.{held_at}
use Rattle.shared_states.specs.Puts.{in_puts, number_of}
use Rattle.shared_states.proofs.Numbers.{number_small}
use Rattle.shared_states.proofs.PutValues.{nothing_put, put_below, puts_above}
use Rattle.shared_states.proofs.trees.Trees.+with.Goals as goal

pub returns-then-is_apart-clause-held : goal.returns-then-is_apart-clause-held
returns-then-is_apart-clause-held t c path l =
    let P : ℕ → Type 0 = λ n. number_of path < 2 ^ n in
    let small : number_of path < 2 ^ c.args.height = subst P l (number_small path) in
    sym (nothing_put c.args.puts.now (c.args.base + number_of path) (held_at c.args.self.now path c.args.tree)
    (c.is_apart.ensures (c.args.base + number_of path) c.if-is_apart.true (omega arith) (omega (arith, small))))

pub returns-then-height-eq0-clause-held : goal.returns-then-height-eq0-clause-held
returns-then-height-eq0-clause-held t c =
    put_below c.args.self.now c.with_put.new.self c.args.puts.now c.args.base c.args.height c.args.tree c.in_ok-made.made c.if-height-eq0.true
    c.in_ok-made.ensures.value

pub returns-clause-held : goal.returns-clause-held
returns-clause-held t c =
    let b = c.args.height - 1 in
    let above : c.args.height ≡ b + 1 = omega (arith, c.if-height-eq0.false) in
    let P : ℕ → Type 0 = λ n. n < length c.args.self.now in
    puts_above c.args.self.now c.with.new.self c.with-2.new.self c.joined.new.self c.args.puts.now b c.args.height c.args.base c.half-half.result c.args.tree
    c.in_ok-low.low c.in_ok-high.high c.in_ok-made-2.made above c.half-half.ensures.value
    (subst P c.side-high_before.ensures.same c.side-high_before.ensures.within)
    c.in_ok-low.ensures.kept c.in_ok-high.ensures.kept c.in_ok-made-2.ensures.kept c.in_ok-low.ensures.within c.in_ok-high.ensures.within
    c.in_ok-made-2.ensures.low c.in_ok-made-2.ensures.high
    (λ path l. c.in_ok-low.ensures.held path l ∙ ap (λ n. in_puts c.args.puts.now (c.args.base + number_of path)
    (held_at c.args.self.now path n)) c.side-low_before.ensures.same)
    (λ path l. c.in_ok-high.ensures.held path l ∙ ap (λ n. in_puts c.args.puts.now ((c.args.base + c.half-half.result) + number_of path)
    (held_at c.with.new.self path n)) c.side-high_before.ensures.same)
