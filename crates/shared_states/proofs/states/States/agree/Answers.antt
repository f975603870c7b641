use Rattle.std.proofs.Common.{◌≡◌, ◌≢◌, List, None, subst}
use Rattle.shared_states.specs.Entries.{held_at, path_of}
use Rattle.shared_states.specs.States.{at_number}
use Rattle.shared_states.specs.declared.entries.Entry.{Entry}
use Rattle.shared_states.proofs.Numbers.{length_path}
use Rattle.shared_states.proofs.states.States.agree.Goals as goal

pub returns : goal.returns
unfolding at_number
returns c key is some =
    let path = path_of 63 key in
    subst (λ (es : List Entry). held_at es path c.args.asked ≢ None → held_at es path c.args.one ≡ held_at es path c.args.other) c.self.view_is
    (c.agree.ensures is path (length_path 63 key)) some
