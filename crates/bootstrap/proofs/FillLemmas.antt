-- Filling page by page is filling all, where each page has a frame.
use Rattle.std.proofs.Common.{◌≡◌, ◌∙◌, ℕ, ◌+◌, ◌-◌, ◌*◌, ◌<◌, ◌≤◌, ◌%◌, ◌==◌, ◌&&◌, Bool, true, false, Option, Some, None, List, [], ◌∷◌, Result, Ok, Err}
use Rattle.std.proofs.Common.{length, map, refl, sym, ap, subst, arith}
use Rattle.std.specs.Prelude.{filter_map, if◌then◌else◌, is_some, option_and_then, option_map, nat_le, drop, take}
use Rattle.std.specs.List.{cons_option, list_all, range_with_len}
use Rattle.std.proofs.lemmas.List.{take_all}
use Rattle.model.specs.declared.boot_faults.BootFault.{BootFault}
use Rattle.model.specs.declared.boot_faults.BootFault.TheVariants.{Outside}
use Rattle.model.specs.declared.entries.FrameEntry.{FrameEntry}
use Rattle.model.specs.declared.entries.ThreadHeader.{ThreadHeader}
use Rattle.model.specs.Acceptance.WellFormed.{is_frame_type, is_root_type}
use Rattle.model.specs.Images.Boot.{fill_all}
use Rattle.model.specs.Images.BootCalls.{Operation, content_operation, program_operation}
use Rattle.model.specs.Images.Fills.{Fill, bytes_of, frame_at, page_bytes, page_fill, program_fills, program_pages}
use Rattle.model.specs.Images.Image.{Image, ImageContent, Thread}
use Rattle.model.specs.Images.Places.{offset_of, type_at}
use Rattle.model.specs.Kernel.AddressSpaces.{page_size}
use Rattle.model.specs.Kernel.Setup.{fill, is_frame_object, with_first_bytes}
use Rattle.model.specs.Kernel.State.{Object, State}
use Rattle.bootstrap.specs.Filling.{page_count, page_filled, pages_filled, pages_from}
use Rattle.bootstrap.proofs.Rests.{numbers-next, numbers-none}
use Rattle.bootstrap.specs.Loading.{Progress, ◌>>=◌, all_performed, performed, placed}
use Rattle.model.specs.Kernel.Outcomes.{GivesState}

-- ---- one fill

and-some : (o : Option State) → option_and_then (λ s. Some s) o ≡ o
and-some None = refl
and-some (Some s) = refl

pub content-filled : (image : Image) (c : ImageContent) (untypeds : ℕ) (p : Progress) → is_frame_type (type_at image c.header.frame) ≡ true
    → performed untypeds p (content_operation image c) ≡ placed c.header.frame p.calls (fill p.state (offset_of image c.header.frame) (bytes_of c.words))
content-filled image c untypeds p is =
    let one : Fill = record { offset = offset_of image c.header.frame; bytes = bytes_of c.words } in
    ap (λ (b : Bool). placed c.header.frame p.calls (option_and_then (fill_all p.state) (if b then Some (one ∷ []) else None))) is
    ∙ ap (placed c.header.frame p.calls) (and-some (fill p.state one.offset one.bytes))

pub content-outside : (image : Image) (c : ImageContent) (untypeds : ℕ) (p : Progress) → is_frame_type (type_at image c.header.frame) ≡ false
    → performed untypeds p (content_operation image c) ≡ Err (Outside c.header.frame)
content-outside image c untypeds p is =
    let one : Fill = record { offset = offset_of image c.header.frame; bytes = bytes_of c.words } in
    ap (λ (b : Bool). placed c.header.frame p.calls (option_and_then (fill_all p.state) (if b then Some (one ∷ []) else None))) is

-- ---- the pages of a program

abbrev fill_of : Image → Thread → ℕ → FrameEntry → Fill
fill_of image t address f = record { offset = offset_of image f.frame; bytes = page_bytes t address }

one-more : (b : Bool) (f : Fill) (rest : List Fill) (s : State) (o : Option State) (next : State → Option State) → fill s f.offset f.bytes ≡ o
    → ((filled : State) → option_and_then (fill_all filled) (if b then Some rest else None) ≡ next filled)
    → option_and_then (fill_all s) (if b then Some (f ∷ rest) else None) ≡ option_and_then next o
one-more true f rest s None next is later = ap (option_and_then (λ filled. fill_all filled rest)) is
one-more true f rest s (Some filled) next is later = ap (option_and_then (λ filled. fill_all filled rest)) is ∙ later filled
one-more false f rest s None next is later = refl
one-more false f rest s (Some filled) next is later = later filled

one-page : (image : Image) (t : Thread) (address : ℕ) (b : Bool) (rest : List Fill) (s : State) (o : Option FrameEntry) (next : State → Option State)
    → ((filled : State) → option_and_then (fill_all filled) (if b then Some rest else None) ≡ next filled)
    → option_and_then (fill_all s) (if is_some o && b then Some (cons_option (option_map (fill_of image t address) o) rest) else None)
    ≡ option_and_then next (option_and_then (λ f. fill s f.offset f.bytes) (option_map (fill_of image t address) o))
one-page image t address b rest s None next later = refl
one-page image t address b rest s (Some f) next later =
    let one = fill_of image t address f in
    one-more b one rest s (fill s one.offset one.bytes) next refl later

pub all-pages : (image : Image) (t : Thread) (pages : List ℕ) (s : State)
    → option_and_then (fill_all s) (if list_all (λ address. is_some (frame_at image t.header.root address)) pages then
    Some (filter_map (page_fill image t) pages) else None)
    ≡ pages_filled image t s pages
all-pages image t [] s = refl
all-pages image t (address ∷ later) s =
    one-page image t address (list_all (λ a. is_some (frame_at image t.header.root a)) later) (filter_map (page_fill image t) later) s
    (frame_at image t.header.root address)
    (λ filled. pages_filled image t filled later) (λ filled. all-pages image t later filled)

-- a program that begins at a page under a root table
pub program-filled : (image : Image) (t : Thread) (number untypeds : ℕ) (p : Progress) → (t.header.base % page_size == 0) ≡ true →
    is_root_type (type_at image t.header.root) ≡ true
    → performed untypeds p (program_operation image (record { number = number; thread = t })) ≡ placed number p.calls
    (pages_filled image t p.state (program_pages t))
program-filled image t number untypeds p aligned root =
    let all = list_all (λ address. is_some (frame_at image t.header.root address)) (program_pages t) in
    ap (λ (b : Bool). placed number p.calls (option_and_then (fill_all p.state)
    (if b && is_root_type (type_at image t.header.root) && all then Some (program_fills image t) else None))) aligned
    ∙ ap (λ (b : Bool). placed number p.calls (option_and_then (fill_all p.state) (if b && all then Some (program_fills image t) else None))) root
    ∙ ap (placed number p.calls) (all-pages image t (program_pages t) p.state)

pub program-misaligned : (image : Image) (t : Thread) (number untypeds : ℕ) (p : Progress) → (t.header.base % page_size == 0) ≡ false
    → performed untypeds p (program_operation image (record { number = number; thread = t })) ≡ Err (Outside number)
program-misaligned image t number untypeds p is =
    let all = list_all (λ address. is_some (frame_at image t.header.root address)) (program_pages t) in
    ap (λ (b : Bool). placed number p.calls (option_and_then (fill_all p.state)
    (if b && is_root_type (type_at image t.header.root) && all then Some (program_fills image t) else None))) is

no-root : (a b : Bool) → a && false && b ≡ false
no-root true b = refl
no-root false b = refl

pub program-rootless : (image : Image) (t : Thread) (number untypeds : ℕ) (p : Progress) → is_root_type (type_at image t.header.root) ≡ false
    → performed untypeds p (program_operation image (record { number = number; thread = t })) ≡ Err (Outside number)
program-rootless image t number untypeds p is =
    let all = list_all (λ address. is_some (frame_at image t.header.root address)) (program_pages t) in
    let aligned = t.header.base % page_size == 0 in
    let some = Some (program_fills image t) in
    ap (λ (b : Bool). placed number p.calls (option_and_then (fill_all p.state) (if aligned && b && all then some else None))) is
    ∙ ap (λ (b : Bool). placed number p.calls (option_and_then (fill_all p.state) (if b then some else None))) (no-root aligned all)

-- ---- one operation after another

pub op-more : (untypeds : ℕ) (o : Operation) (later : List Operation) (total : Result Progress BootFault) (p q : Progress)
    → total ≡ all_performed untypeds p (o ∷ later) → performed untypeds p o ≡ Ok q → total ≡ all_performed untypeds q later
op-more untypeds o later total p q so_far passed = so_far ∙ ap (λ (r : Result Progress BootFault). r >>= λ q. all_performed untypeds q later) passed

pub op-fails : (untypeds : ℕ) (o : Operation) (later : List Operation) (total : Result Progress BootFault) (p : Progress) (fault : BootFault)
    → total ≡ all_performed untypeds p (o ∷ later) → performed untypeds p o ≡ Err fault → total ≡ Err fault
op-fails untypeds o later total p fault so_far failed = so_far ∙ ap (λ (r : Result Progress BootFault). r >>= λ q. all_performed untypeds q later) failed

pub op-none : (untypeds : ℕ) (later : List Operation) (total : Result Progress BootFault) (p : Progress) → later ≡ [] → total ≡ all_performed untypeds p later →
    total ≡ Ok p
op-none untypeds later total p none so_far = so_far ∙ ap (all_performed untypeds p) none

-- ---- nothing is filled where no frame is

pub fill-nowhere : (s : State) (place : ℕ) (bytes : List ℕ) → s.objects place ≡ None → fill s place bytes ≡ None
unfolding fill
fill-nowhere s place bytes none =
    ap (λ (o : Option Object). if is_frame_object o && nat_le (length bytes) page_size then Some (with_first_bytes s place bytes) else None) none

-- ---- one page

pub page-there : (image : Image) (t : Thread) (s : State) (offset : ℕ) (f : FrameEntry) → frame_at image t.header.root (t.header.base + offset) ≡ Some f
    → page_filled image t s (t.header.base + offset) ≡ fill s (offset_of image f.frame) (take page_size (drop offset (bytes_of t.words)))
page-there image t s offset f is =
    let back : t.header.base + offset - t.header.base ≡ offset = omega arith in
    ap (λ (o : Option FrameEntry). option_and_then (λ f. fill s f.offset f.bytes) (option_map (fill_of image t (t.header.base + offset)) o)) is
    ∙ ap (λ (n : ℕ). fill s (offset_of image f.frame) (take page_size (drop n (bytes_of t.words)))) back

pub page-missing : (image : Image) (t : Thread) (s : State) (address : ℕ) → frame_at image t.header.root address ≡ None → page_filled image t s address ≡ None
page-missing image t s address is = ap (λ (o : Option FrameEntry). option_and_then (λ f. fill s f.offset f.bytes) (option_map (fill_of image t address) o)) is

pub take-enough : (n m : ℕ) (ys : List ℕ) → length ys ≤ n → length ys ≤ m → take n ys ≡ take m ys
take-enough n m ys here there = take_all n ys here ∙ sym (take_all m ys there)

-- ---- one page after another

pub page-more : (number calls : ℕ) (next : State → Option State) (o : Option State) (q : Progress) → placed number calls o ≡ Ok q
    → placed number calls (option_and_then next o) ≡ placed number q.calls (next q.state)
page-more number calls next None q is = absurd cc
page-more number calls next (Some s) q is =
    let one : Progress = record { calls = calls; state = s } in
    let same : one ≡ q = cc in
    ap (λ (p : Progress). placed number p.calls (next p.state)) same

pub page-fails : (number calls : ℕ) (next : State → Option State) (o : Option State) (fault : BootFault) → placed number calls o ≡ Err fault
    → placed number calls (option_and_then next o) ≡ Err fault
page-fails number calls next None fault is = is
page-fails number calls next (Some s) fault is = absurd cc

pub pages-next : (t : Thread) (n : ℕ) → n < page_count t → pages_from t n ≡ (t.header.base + n * page_size) ∷ pages_from t (n + 1)
pages-next t n lt = ap (map (λ page. t.header.base + page * page_size)) (numbers-next n (page_count t) lt)

pub pages-none : (t : Thread) (n : ℕ) → page_count t ≤ n → pages_from t n ≡ []
pages-none t n le = ap (map (λ page. t.header.base + page * page_size)) (numbers-none n (page_count t) le)

pub pages-first : (t : Thread) → program_pages t ≡ pages_from t 0
pages-first t =
    let k : page_count t ≡ page_count t - 0 = omega arith in
    ap (λ (count : ℕ). map (λ page. t.header.base + page * page_size) (range_with_len 0 count)) k

pub page-leaves : {A : Type 0} (image : Image) (t : Thread) (s : State) (page : ℕ) (f : FrameEntry) (a b place : ℕ) (program bytes : List ℕ) (h : ThreadHeader)
    (number calls : ℕ)
    (r : Result A BootFault) (q : Progress) → h ≡ t.header → a ≡ h.base → b ≡ page * page_size → Some f ≡ frame_at image h.root (a + b) →
    place ≡ offset_of image f.frame
    → bytes ≡ take page_size (drop (page * page_size) program) → program ≡ bytes_of t.words → GivesState (placed number calls (fill s place bytes)) r q
    → GivesState (placed number calls (page_filled image t s (t.header.base + page * page_size))) r q
page-leaves image t s page f a b place program bytes h number calls r q header base offset found at cut words left =
    let base_is : a ≡ t.header.base = base ∙ ap (λ (h : ThreadHeader). h.base) header in
    let frame : frame_at image t.header.root (t.header.base + page * page_size) ≡ Some f =
    sym (found ∙ ap (λ (h : ThreadHeader). frame_at image h.root (a + b)) header ∙ ap (λ (n : ℕ). frame_at image t.header.root (n + b)) base_is
    ∙ ap (λ (n : ℕ). frame_at image t.header.root (t.header.base + n)) offset) in
    let same : fill s place bytes ≡ page_filled image t s (t.header.base + page * page_size) =
    ap (λ (n : ℕ). fill s n bytes) at ∙ ap (λ (xs : List ℕ). fill s (offset_of image f.frame) xs)
    (cut ∙ ap (λ (xs : List ℕ). take page_size (drop (page * page_size) xs)) words)
    ∙ sym (page-there image t s (page * page_size) f frame) in
    subst (λ (o : Option State). GivesState (placed number calls o) r q) same left
