-- No store reaches the code of a thread: a frame of code has one mapping, without write, and no capability that a slot notes.
use Rattle.std.proofs.Common.{ℕ, zero, suc, ◌≡◌, ◌≢◌, ◌∙◌, ◌==◌, ◌+◌, ◌-◌, ◌%◌, ◌<◌, ◌≤◌, ◌&&◌, ◌||◌, Bool, true, false, not, if◌then◌else◌, List, [], ◌∷◌}
use Rattle.std.proofs.Common.{Option, Some, None, Result, Ok, Err, refl, sym, ap, subst, arith}
use Rattle.std.specs.Prelude.{slice_get}
use Rattle.std.specs.Int.{byte_len, to_le_bytes}
use Rattle.std.specs.List.{enumerate_from, list_any}
use Rattle.std.proofs.lemmas.Bool.{eq-eqb, eqb-true, false_from_ne_true, or_parts}
use Rattle.model.specs.declared.entries.FrameEntry.{FrameEntry}
use Rattle.model.specs.declared.instructions.Access.{Access}
use Rattle.model.specs.declared.instructions.Access.TheVariants as accesses
use Rattle.model.specs.declared.instructions.Cause.TheVariants.{Misaligned}
use Rattle.model.specs.declared.instructions.Exec.TheVariants as outcomes
use Rattle.model.specs.declared.instructions.Instr.{Instr}
use Rattle.model.specs.declared.instructions.Instr.TheVariants.{Upper, Jal, Jalr, Branch, Load, Store, Immediate, Shift, Registers, Fence, Ecall, Ebreak}
use Rattle.model.specs.declared.instructions.LoadOp.{LoadOp}
use Rattle.model.specs.declared.instructions.MemoryFault.{MemoryFault}
use Rattle.model.specs.declared.instructions.Register.{Register}
use Rattle.model.specs.Acceptance.WellFormed.{are_frame_rights, executes, is_mapped_twice, is_named_otherwise, is_device}
use Rattle.model.specs.Capabilities.Rights.{frame_rights, mapping_rights, may_write}
use Rattle.model.specs.Images.Image.{Image}
use Rattle.model.specs.Machine.Effects.{branches, effect, goes_on, is_taken, jumps, load_size, loads, next_pc, plus, stays, store_size, stores}
use Rattle.model.specs.Machine.ProgramMemory.{Content, RegisterFile, ◌>>=◌, loaded, next_address, place_or_fault, places_from, put_byte, put_bytes, read}
use Rattle.model.specs.Machine.ProgramMemory.{width_of}
use Rattle.model.specs.Machine.ProgramMemory.{write}

-- ---- what a store changes

abbrev AreApartFrom : ℕ → List ℕ → Type 0
AreApartFrom place [] = Unit {0}
AreApartFrom place (q ∷ rest) = (q ≢ place) × AreApartFrom place rest

put-elsewhere : (places values : List ℕ) (c : Content) (place : ℕ) → AreApartFrom place places → (put_bytes c places values).byte place ≡ c.byte place
put-elsewhere [] values c place apart = refl
put-elsewhere (q ∷ rest) [] c place apart = refl
put-elsewhere (q ∷ rest) (v ∷ values) c place apart =
    put-elsewhere rest values (put_byte c q v) place apart.1
    ∙ ap (λ b. if b then v else c.byte place) (false_from_ne_true (place == q) (λ is. apart.0 (sym (eqb-true place q is))))

rest-placed : (c : Content) (access : Access) (count address place : ℕ) (places : List ℕ) →
    ((others : List ℕ) → places_from c access (next_address address) count ≡ Ok others → AreApartFrom place others)
    → (q : ℕ) → q ≢ place → (rest : Result (List ℕ) MemoryFault) → places_from c access (next_address address) count ≡ rest →
    (rest >>= λ others. Ok (q ∷ others)) ≡ Ok places → AreApartFrom place places
rest-placed c access count address place places later q other (Ok others) more done =
    let same : q ∷ others ≡ places = (let both : ◌≡◌ {A = Result (List ℕ) MemoryFault} (Ok (q ∷ others)) (Ok places) = done in cc) in
    subst (AreApartFrom place) same (other, later others more)
rest-placed c access count address place places later q other (Err failed) more done =
    absurd (let clash : ◌≡◌ {A = Result (List ℕ) MemoryFault} (Err failed) (Ok places) = done in cc)

first-placed : (c : Content) (access : Access) (count address place : ℕ) (places : List ℕ) →
    ((others : List ℕ) → places_from c access (next_address address) count ≡ Ok others → AreApartFrom place others)
    → ((a q : ℕ) → c.place access a ≡ Some q → q ≢ place) → (o : Option ℕ) → c.place access address ≡ o
    → (place_or_fault o access address >>= λ q. places_from c access (next_address address) count >>= λ others. Ok (q ∷ others)) ≡ Ok places
    → AreApartFrom place places
first-placed c access count address place places later apart (Some q) here done =
    rest-placed c access count address place places later q (apart address q here) (places_from c access (next_address address) count) refl done
first-placed c access count address place places later apart None here done =
    absurd (let clash : ◌≡◌ {A = Result (List ℕ) MemoryFault} (Err (record { address = address; access = access })) (Ok places) = done in cc)

placed : (c : Content) (access : Access) (count address : ℕ) (place : ℕ) (found : Result (List ℕ) MemoryFault) (places : List ℕ) →
    places_from c access address count ≡ found → found ≡ Ok places
    → ((a q : ℕ) → c.place access a ≡ Some q → q ≢ place) → AreApartFrom place places
placed c access zero address place found places from is apart =
    let same : [] ≡ places = (let both : ◌≡◌ {A = Result (List ℕ) MemoryFault} (Ok []) (Ok places) = from ∙ is in cc) in
    subst (AreApartFrom place) same tt
placed c access (suc count) address place found places from is apart =
    first-placed c access count address place places (λ others more. placed c access count (next_address address) place (Ok others) others more refl apart)
    apart (c.place access address) refl (from ∙ is)

pub jump-content : (r : RegisterFile) (c : Content) (written : RegisterFile) (target : ℕ) → (jumps r c written target).content ≡ c
jump-content r c written target = elim (target % 4 == 0)
    as (λ b. (if b then goes_on (record written { pc = target }) c else stays r c (outcomes.Trap Misaligned)).content ≡ c) [
      | true ↦ refl
      | false ↦ refl
    ]

pub branch-content : (r : RegisterFile) (c : Content) (taken : Bool) (target : ℕ) → (branches r c taken target).content ≡ c
branch-content r c true target = jump-content r c r target
branch-content r c false target = refl

pub load-content : (r : RegisterFile) (c : Content) (op : LoadOp) (rd : Register) (found : Result ℕ MemoryFault) → (loads r c op rd found).content ≡ c
load-content r c op rd (Ok n) = refl
load-content r c op rd (Err failed) = refl

module _ (r : RegisterFile) (c : Content) (place : ℕ) (apart : (a q : ℕ) → c.place accesses.Store a ≡ Some q → q ≢ place) where
  store-content : (address count : ℕ) (values : List ℕ) (found : Result (List ℕ) MemoryFault) → places_from c accesses.Store address count ≡ found
      → (stores r c (found >>= λ places. Ok (put_bytes c places values))).content.byte place ≡ c.byte place
  store-content address count values (Ok places) from = put-elsewhere places values c place
      (placed c accesses.Store count address place (Ok places) places from refl apart)
  store-content address count values (Err failed) from = refl

  pub effect-keeps : (instr : Instr) → (effect r c instr).content.byte place ≡ c.byte place
  unfolding effect
  effect-keeps (Upper op rd immediate) = refl
  effect-keeps (Jal rd offset) = ap (λ (d : Content). d.byte place) (jump-content r c (write r rd (next_pc r)) (plus r.pc offset))
  effect-keeps (Jalr rd rs1 offset) = ap (λ (d : Content). d.byte place)
      (jump-content r c (write r rd (next_pc r)) (plus (read r rs1) offset - plus (read r rs1) offset % 2))
  effect-keeps (Branch op rs1 rs2 offset) = ap (λ (d : Content). d.byte place) (branch-content r c (is_taken op (read r rs1) (read r rs2)) (plus r.pc offset))
  effect-keeps (Load op rd rs1 offset) = ap (λ (d : Content). d.byte place)
      (load-content r c op rd (loaded c accesses.Load (load_size op) (plus (read r rs1) offset)))
  effect-keeps (Store op rs1 rs2 offset) =
      store-content (plus (read r rs1) offset) (byte_len (width_of (store_size op))) (to_le_bytes (width_of (store_size op)) (read r rs2))
      (places_from c accesses.Store (plus (read r rs1) offset) (byte_len (width_of (store_size op)))) refl
  effect-keeps (Immediate op rd rs1 immediate) = refl
  effect-keeps (Shift op rd rs1 amount) = refl
  effect-keeps (Registers op rd rs1 rs2) = refl
  effect-keeps Fence = refl
  effect-keeps Ecall = refl
  effect-keeps Ebreak = refl

-- ---- code is not written

pub not-writes : (bits : ℕ) → bits ≤ 7 → are_frame_rights bits ≡ true → (bits == 7) ≡ false → (f : FrameEntry) → f.rights ≡ bits → executes f ≡ true →
    may_write (mapping_rights frame_rights bits) ≡ true → ⊥
not-writes zero fits is most f same code writes = let no : false ≡ true = is in absurd cc
not-writes (suc zero) fits is most f same code writes = let no : false ≡ true = is in absurd cc
not-writes (suc (suc zero)) fits is most f same code writes = let no : false ≡ true = writes in absurd cc
not-writes (suc (suc (suc zero))) fits is most f same code writes = let no : false ≡ true = ap (λ n. executes (record f { rights = n })) (sym same) ∙ code in
    absurd cc
not-writes (suc (suc (suc (suc zero)))) fits is most f same code writes = let no : false ≡ true = writes in absurd cc
not-writes (suc (suc (suc (suc (suc zero))))) fits is most f same code writes = let no : false ≡ true = is in absurd cc
not-writes (suc (suc (suc (suc (suc (suc zero)))))) fits is most f same code writes = let no : false ≡ true = writes in absurd cc
not-writes (suc (suc (suc (suc (suc (suc (suc zero))))))) fits is most f same code writes = let no : true ≡ false = most in absurd cc
not-writes (suc (suc (suc (suc (suc (suc (suc (suc bits)))))))) fits is most f same code writes = absurd (omega (arith, fits))

-- another entry of a list that a test passes
any-none : {A : Type 0} (test : ℕ × A → Bool) (from : ℕ) (xs : List A) (k : ℕ) (x : A) → list_any test (enumerate_from from xs) ≡ false →
    slice_get xs k ≡ Some x → test (from + k, x) ≡ false
any-none test from [] k x none at = absurd (let clash : None ≡ Some x = at in cc)
any-none test from (y ∷ ys) zero x none at =
    let same : y ≡ x = cc in
    let first : from ≡ from + 0 = omega arith in
    subst (λ n. test (n, x) ≡ false) first (subst (λ z. test (from, z) ≡ false) same
    (or_parts (test (from, y)) (list_any test (enumerate_from (from + 1) ys)) none).0)
any-none test from (y ∷ ys) (suc k) x none at =
    let next : from + 1 + k ≡ from + suc k = omega arith in
    subst (λ n. test (n, x) ≡ false) next (any-none test (from + 1) ys k x (or_parts (test (from, y)) (list_any test (enumerate_from (from + 1) ys)) none).1 at)

-- a frame of code is mapped by one entry
pub one-mapping : (image : Image) (i j : ℕ) (f g : FrameEntry) → slice_get image.frames j ≡ Some g → is_named_otherwise image i f.frame ≡ false →
    g.frame ≡ f.frame → j ≡ i
one-mapping image i j f g at none same =
    let inside = or_parts (is_mapped_twice image i f.frame || list_any (λ c. c.source == f.frame) image.capabilities
    || list_any (λ c. c.header.frame == f.frame) image.contents) (is_device image f.frame) none in
    let outer = or_parts (is_mapped_twice image i f.frame || list_any (λ c. c.source == f.frame) image.capabilities)
    (list_any (λ c. c.header.frame == f.frame) image.contents) inside.0 in
    let inner = or_parts (is_mapped_twice image i f.frame) (list_any (λ c. c.source == f.frame) image.capabilities) outer.0 in
    let start : 0 + j ≡ j = omega arith in
    let test = subst (λ n. (not (n == i) && (g.frame == f.frame)) ≡ false) start
    (any-none (λ (x : ℕ × FrameEntry). not (x.0 == i) && ((x.1).frame == f.frame)) 0 image.frames j g inner.0 at) in
    elim (j == i) as (λ b. j == i ≡ b → (not b && (g.frame == f.frame)) ≡ false → j ≡ i) [
      | true ↦ λ is _. eqb-true j i is
      | false ↦ λ _ other. absurd (let clash : true ≡ false = sym (eq-eqb g.frame f.frame same) ∙ other in cc)
    ] refl test

-- ---- where code and stores lie

pub same-frame : (a b x y : ℕ) → a % 4096 ≡ 0 → b % 4096 ≡ 0 → x < 4096 → y < 4096 → a + x ≡ b + y → a ≡ b
same-frame a b x y first second less few same = omega (arith, first, second, less, few, same)
