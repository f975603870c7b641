-- The entries that are read say what capabilities map.
use Rattle.std.proofs.Common.{◌∙◌, ◌/◌, ◌%◌, ◌^◌, sym, arith}
use Rattle.vspace.proofs.Places.{entry-near, none-there, page-free, page-taken, table-stands, table-there}
use Rattle.vspace.proofs.frames.free_entry.Goals as goal

pub returns-in_default : goal.returns-in_default
returns-in_default g c = record {
  answer = none-there _ _ _ c.args.root c.args.page c.requires.agree c.requires.rooted c.requires.near c.mem-memory.ensures
      (sym c.table_in.ensures.value ∙ c.in_default.is);
}

pub returns-then-is_taken : goal.returns-then-is_taken
returns-then-is_taken g c =
    let maps = table-there _ _ _ c.args.root c.args.page c.in-Some.table c.requires.agree c.requires.rooted c.requires.near c.mem-memory.ensures
    (sym c.table_in.ensures.value ∙ c.in-Some.is) in
    record {
      answer = page-taken _ _ _ c.args.root c.args.page c.in-Some.table c.requires.agree maps c.mem-memory.ensures
          (sym c.is_taken.ensures ∙ c.if-is_taken.true);
    }

pub overflow_cast-result : goal.overflow_cast-result
overflow_cast-result g c =
    let maps = table-there _ _ _ c.args.root c.args.page c.in-Some.table c.requires.agree c.requires.rooted c.requires.near c.mem-memory.ensures
    (sym c.table_in.ensures.value ∙ c.in-Some.is) in
    let stands = table-stands _ _ c.args.root (c.args.page / 2 ^ 10) c.in-Some.table c.requires.agree maps in
    omega (arith, entry-near _ _ _ c.in-Some.table 0 stands c.mem-memory.ensures c.table_in.ensures.size (omega arith))

pub overflow_add-result : goal.overflow_add-result
overflow_add-result g c =
    let maps = table-there _ _ _ c.args.root c.args.page c.in-Some.table c.requires.agree c.requires.rooted c.requires.near c.mem-memory.ensures
    (sym c.table_in.ensures.value ∙ c.in-Some.is) in
    let stands = table-stands _ _ c.args.root (c.args.page / 2 ^ 10) c.in-Some.table c.requires.agree maps in
    omega (arith, entry-near _ _ _ c.in-Some.table (c.args.page % 2 ^ 10) stands c.mem-memory.ensures c.table_in.ensures.size (omega arith))

pub returns : goal.returns
returns g c =
    let maps = table-there _ _ _ c.args.root c.args.page c.in-Some.table c.requires.agree c.requires.rooted c.requires.near c.mem-memory.ensures
    (sym c.table_in.ensures.value ∙ c.in-Some.is) in
    record {
      answer = page-free _ _ _ c.args.root c.args.page c.in-Some.table c.requires.agree maps c.mem-memory.ensures
          (sym c.is_taken.ensures ∙ c.if-is_taken.false);
    }
