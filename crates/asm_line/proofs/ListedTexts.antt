-- The text of each line of a listing falls into the words that say it.
use Rattle.std.specs.Prelude.{◌==◌, nat_lt, codes, map, flat_map}
use Rattle.std.proofs.Common.{◌≡◌, ℕ, suc, ◌-◌, ◌^◌, ◌<◌, ◌≤◌, true, not, min, [], ◌∷◌, length, Some, None, Ok, refl, ap, ◌∙◌, arith}
use Rattle.std.specs.Fmt.{decimal}
use Rattle.std.specs.List.{list_all, position}
use Rattle.std.proofs.lemmas.Bool.{leb-true, ltb-true}
use Rattle.std.proofs.lemmas.Bool.Decides.{nat_tests}
use Rattle.model.specs.Images.Image.{between, no_parent}
use Rattle.model.specs.Images.Listing.{Text, untyped_name, object_name, interrupt_name, register_name, kind_name, source_name, whole_number, term_words}
use Rattle.model.specs.Images.Listing.{promised_words, size_words}
use Rattle.asm_line.specs.declared.lines.Line.{Line}
use Rattle.asm_line.specs.Words.{words_of}
use Rattle.asm_line.specs.Parsing.{line_of}
use Rattle.asm_line.specs.Listed.{Lists, memory, untyped, object, interrupt, capability, table, frame, content, promise, thread, buffer, measure, range, slot}
use Rattle.asm_line.specs.Listed.{register}
use Rattle.asm_line.specs.Listed.{label, word, end, IsWord}
use Rattle.asm_line.proofs.PlainWords.{IsPlainWord, is_plain, decimal-plain, words-line, line-all, none-there}
use Rattle.asm_line.proofs.ListedLines.{Reads, named-plain, named-digits, number-plain, plain-literal, memory-says, untyped-says, object-says, size-says}
use Rattle.asm_line.proofs.ListedLines.{interrupt-says, capability-says, table-says, frame-says, content-says, promise-says, promised-say, thread-says}
use Rattle.asm_line.proofs.ListedLines.{measure-says, constant-plain}
use Rattle.asm_line.proofs.ListedLines.{terms-say, range-says, buffer-says, register-says, label-says, word-says, end-says, kind-says, source-says}
use Rattle.asm_line.proofs.ListedLines.{plain-numbers}
use Rattle.asm_line.proofs.ListedLines.{slot-reads}

most : (low high n : ℕ) → between low high n ≡ true → high < 2 ^ 63 → n < 2 ^ 63
most low high n h less = grind (arith, nat_tests)

least : (low high n : ℕ) → between (suc low) high n ≡ true → nat_lt 0 n ≡ true
least low high n h = grind (arith, nat_tests)

under : (n : ℕ) → between 1 31 n ≡ true → n < 32
under n h = grind (arith, nat_tests)

badge-fits : (n : ℕ) → nat_lt n (2 ^ 28) ≡ true → between 0 (2 ^ 28 - 1) n ≡ true
badge-fits n h = grind (arith, nat_tests)

value-fits : (n : ℕ) → nat_lt 0 n ≡ true → IsWord n → between 1 (2 ^ 32 - 1) n ≡ true
value-fits n h less = grind (arith, nat_tests)

small-plain : (low high n : ℕ) → between low high n ≡ true → high < 2 ^ 63 → IsPlainWord (decimal n)
small-plain low high n h less = let fits = most low high n h less in decimal-plain n (omega (arith, fits))

literal : (w : Text) → 0 < length w → list_all is_plain w ≡ true → IsPlainWord w
literal w h k = plain-literal w h k

pub reads : (l : Line) (text : Text) → Lists l text → Reads l text
reads _ _ (memory i h k) = record {
  words = codes "memory" ∷ decimal i.header.memory_bits ∷ decimal i.header.boot_radix ∷ [];
  spelled = refl;
  plain = (
    literal (codes "memory") (omega arith) refl,
    (small-plain 16 24 _ h (omega arith), (small-plain 1 (min 14 (i.header.memory_bits - 5)) _ k (omega arith), tt)),
  );
  known = tt;
  says = memory-says _ _ h k (most 16 24 _ h (omega arith)) (most 1 (min 14 (i.header.memory_bits - 5)) _ k (omega arith));
}
reads _ _ (untyped k e a b h) = record {
  words = codes "untyped" ∷ untyped_name k ∷ decimal e.offset ∷ decimal e.bits ∷ [];
  spelled = refl;
  plain = (literal (codes "untyped") (omega arith) refl, (named-plain 117 k refl a, (number-plain e.offset b, (small-plain 4 24 e.bits h (omega arith), tt))));
  known = tt;
  says = untyped-says k e.offset e.bits a b h (most 4 24 e.bits h (omega arith));
}
reads _ _ (object k e a b h small fits) = let sized = size-says e.kind e.size h small fits in record {
  words = codes "object" ∷ object_name k ∷ untyped_name e.untyped ∷ kind_name e.kind ∷ size_words e;
  spelled = refl;
  plain = (literal (codes "object") (omega arith) refl, (named-plain 111 k refl a, (named-plain 117 e.untyped refl b, ((kind-says e.kind h).1, sized.plain))));
  known = tt;
  says = object-says k e.untyped e.kind e.size (size_words e) a b h small fits sized;
}
reads _ _ (interrupt k e a h b g) = let badge = badge-fits e.badge g in record {
  words = codes "irq" ∷ interrupt_name k ∷ decimal e.line ∷ object_name e.notification ∷ decimal e.badge ∷ [];
  spelled = refl;
  plain = (
    literal (codes "irq") (omega arith) refl,
    (
      named-plain 105 k refl a,
      (
        small-plain 0 63 e.line h (omega arith),
        (named-plain 111 e.notification refl b, (small-plain 0 (2 ^ 28 - 1) e.badge badge (omega arith), tt)),
      ),
    ),
  );
  known = tt;
  says = interrupt-says k e.line e.notification e.badge a h (most 0 63 e.line h (omega arith)) b badge (most 0 (2 ^ 28 - 1) e.badge badge (omega arith));
}
reads _ _ (capability i e a b d f g) = record {
  words = codes "cap" ∷ object_name e.cnode ∷ decimal e.index ∷ source_name i e.source ∷ decimal e.rights ∷ decimal e.payload ∷ [];
  spelled = refl;
  plain = (
    literal (codes "cap") (omega arith) refl,
    (
      named-plain 111 e.cnode refl a,
      (number-plain e.index b, ((source-says i e.source d).plain, (number-plain e.rights f, (number-plain e.payload g, tt)))),
    ),
  );
  known = tt;
  says = capability-says i e.cnode e.index e.source e.rights e.payload a b d f g;
}
reads _ _ (table e a b d) = record {
  words = codes "table" ∷ object_name e.root ∷ decimal e.address ∷ object_name e.table ∷ [];
  spelled = refl;
  plain = (literal (codes "table") (omega arith) refl, (named-plain 111 e.root refl a, (number-plain e.address b, (named-plain 111 e.table refl d, tt))));
  known = tt;
  says = table-says e.root e.address e.table a b d;
}
reads _ _ (frame e a b d h) = record {
  words = codes "map" ∷ object_name e.root ∷ decimal e.address ∷ object_name e.frame ∷ decimal e.rights ∷ [];
  spelled = refl;
  plain = (
    literal (codes "map") (omega arith) refl,
    (named-plain 111 e.root refl a, (number-plain e.address b, (named-plain 111 e.frame refl d, (small-plain 0 7 e.rights h (omega arith), tt)))),
  );
  known = tt;
  says = frame-says e.root e.address e.frame e.rights a b d h (most 0 7 e.rights h (omega arith));
}
reads _ _ (content c a some h) = record {
  words = codes "data" ∷ object_name c.header.frame ∷ map decimal c.words;
  spelled = refl;
  plain = (literal (codes "data") (omega arith) refl, (named-plain 111 c.header.frame refl a, plain-numbers c.words h));
  known = tt;
  says = content-says c.header.frame c.words a some h;
}
reads _ _ (promise p a rises small h) =
    let x = p.header in
    let words = promised-say p.words h in
    let high : x.badge_high < 2 ^ 28 = ltb-true x.badge_high (2 ^ 28) small in
    let low : x.badge_low ≤ x.badge_high = leb-true x.badge_low x.badge_high rises in
    record {
      words = codes "promise" ∷ object_name x.endpoint ∷ decimal x.badge_low ∷ decimal x.badge_high ∷ flat_map promised_words p.words;
      spelled = refl;
      plain = (
        literal (codes "promise") (omega arith) refl,
        (
          named-plain 111 x.endpoint refl a,
          (number-plain x.badge_low (omega (arith, low, high)), (number-plain x.badge_high (omega (arith, high)), words.plain)),
        ),
      );
      known = tt;
      says = promise-says x.endpoint x.badge_low x.badge_high (flat_map promised_words p.words) a rises small (omega (arith, low, high))
          (omega (arith, high)) words;
    }
reads _ _ (thread t a b d e h k f g) = let x = t.header in record {
  words = codes "thread" ∷ object_name x.tcb ∷ object_name x.cnode ∷ decimal x.guard ∷ object_name x.root ∷ decimal x.priority ∷ decimal x.budget ∷ decimal
      x.fault ∷ codes "l" ∷ decimal x.base ∷ [];
  spelled = refl;
  plain = (
    literal (codes "thread") (omega arith) refl,
    (
      named-plain 111 x.tcb refl a,
      (
        named-plain 111 x.cnode refl b,
        (
          number-plain x.guard d,
          (
            named-plain 111 x.root refl e,
            (
              small-plain 0 255 x.priority h (omega arith),
              (
                small-plain 1 (2 ^ 62) x.budget k (omega arith),
                (number-plain x.fault f, (literal (codes "l") (omega arith) refl, (number-plain x.base g, tt))),
              ),
            ),
          ),
        ),
      ),
    ),
  );
  known = tt;
  says = thread-says x.tcb x.cnode x.guard x.root x.priority x.budget x.fault x.base a b d e h (most 0 255 x.priority h (omega arith)) k
      (most 1 (2 ^ 62) x.budget k (omega arith)) f g;
}
reads _ _ (buffer t a) = record {
  words = codes "buffer" ∷ object_name t.header.buffer ∷ [];
  spelled = refl;
  plain = (literal (codes "buffer") (omega arith) refl, (named-plain 111 t.header.buffer refl a, tt));
  known = tt;
  says = buffer-says t.header.buffer a;
}
reads _ _ (measure r h ts) = let terms = terms-say r.terms ts in record {
  words = codes "measure" ∷ whole_number r.header.constant ∷ flat_map term_words r.terms;
  spelled = refl;
  plain = (literal (codes "measure") (omega arith) refl, (constant-plain r.header.constant h, terms.plain));
  known = tt;
  says = measure-says r.header.constant (flat_map term_words r.terms) h terms;
}
reads _ _ (range e h a b k) = record {
  words = codes "range" ∷ register_name e.register ∷ decimal e.low ∷ decimal e.high ∷ [];
  spelled = refl;
  plain = (
    literal (codes "range") (omega arith) refl,
    (named-digits 120 e.register refl (let fits = under e.register h in omega (arith, fits)), (number-plain e.low a, (number-plain e.high b, tt))),
  );
  known = tt;
  says = range-says e.register e.low e.high (least 0 31 e.register h) (under e.register h) a b k;
}
reads _ _ (slot e c a h w0 w1 cap own g k) = slot-reads e c (e.parent_cnode == no_parent) a h w0 w1 cap own g k
reads _ _ (register e h some small) = record {
  words = codes "reg" ∷ register_name e.register ∷ decimal e.value ∷ [];
  spelled = refl;
  plain = (
    literal (codes "reg") (omega arith) refl,
    (named-digits 120 e.register refl (let fits = under e.register h in omega (arith, fits)), (number-plain e.value small, tt)),
  );
  known = tt;
  says = register-says e.register e.value (least 0 31 e.register h) (under e.register h) (value-fits e.value some small) small;
}
reads _ _ label = record {
  words = codes "l:" ∷ [];
  spelled = refl;
  plain = (literal (codes "l:") (omega arith) refl, tt);
  known = tt;
  says = label-says;
}
reads _ _ (word n h) = record {
  words = codes "word" ∷ decimal n ∷ [];
  spelled = refl;
  plain = (literal (codes "word") (omega arith) refl, (number-plain n h, tt));
  known = tt;
  says = word-says n h;
}
reads _ _ end = record {
  words = codes "end" ∷ [];
  spelled = refl;
  plain = (literal (codes "end") (omega arith) refl, tt);
  known = tt;
  says = end-says;
}

-- ---- whole texts

plain-ascii : (b : ℕ) → is_plain b ≡ true → nat_lt b 128 ≡ true
plain-ascii b h = grind (arith, nat_tests)

plain-code : (b : ℕ) → is_plain b ≡ true → not (b == 35) ≡ true
plain-code b h = grind (arith, nat_tests)

pub reads-ascii : (l : Line) (text : Text) → Reads l text → list_all (λ b. nat_lt b 128) text ≡ true
reads-ascii l text r = ap (list_all (λ b. nat_lt b 128)) r.spelled ∙ line-all (λ b. nat_lt b 128) plain-ascii refl r.words r.plain

pub reads-code : (l : Line) (text : Text) → Reads l text → position (λ b. b == 35) text ≡ None
reads-code l text r = none-there (λ b. b == 35) text (ap (list_all (λ b. not (b == 35))) r.spelled
    ∙ line-all (λ b. not (b == 35)) plain-code refl r.words r.plain)

pub reads-says : (l : Line) (text : Text) → Reads l text → line_of (words_of text) ≡ Some (Ok l)
reads-says l text r = ap line_of (ap words_of r.spelled ∙ words-line r.words r.plain) ∙ r.says
