-- Phase after phase, an image whose entries can be loaded one by one boots into the state that it describes.
use Rattle.std.proofs.Common.{ℕ, zero, suc, ◌≡◌, ◌∙◌, ◌+◌, ◌<◌, List, [], ◌∷◌, ◌++◌, map, take, length, None, Some, Ok, refl, sym, ap, subst, append_assoc}
use Rattle.std.proofs.Common.{arith}
use Rattle.std.specs.Prelude.{flat_map, slice_get}
use Rattle.std.specs.List.{enumerate_from, range_with_len}
use Rattle.std.proofs.lemmas.List.FromFn.{length-range_with_len}
use Rattle.model.specs.declared.entries.CapabilityEntry.{CapabilityEntry}
use Rattle.model.specs.declared.entries.FrameEntry.{FrameEntry}
use Rattle.model.specs.declared.entries.InterruptEntry.{InterruptEntry}
use Rattle.model.specs.declared.entries.TableEntry.{TableEntry}
use Rattle.model.specs.Images.Boot.{booted, made, misplaced}
use Rattle.model.specs.Images.BootCalls.{LoaderCall, Operation, PutsUntyped, PutsControl, Calls, capability_call, content_operation, first_calls, frame_calls}
use Rattle.model.specs.Images.BootCalls.{interrupt_call, last_calls, object_call, operations, program_operation, signal_calls, table_call, thread_calls}
use Rattle.model.specs.Images.Described.{Numbered, described, numbered, numbered_threads}
use Rattle.model.specs.Images.Fills.{content_fill, fills, program_fills}
use Rattle.model.specs.Images.Image.{Image, ImageContent, Thread}
use Rattle.model.specs.Images.Places.{control_slot}
use Rattle.model.specs.Kernel.Setup.{boot_area}
use Rattle.model.specs.Kernel.State.{State}
use Rattle.soundness.specs.boot_laws.Loading.{Progress, all_loaded, loaded, nothing_loaded}
use Rattle.soundness.proofs.boot_laws.RunEnd.{CountsAreLengths, loaded-end}
use Rattle.soundness.proofs.boot_laws.RunSequences.{Leads, boots-by, calls-of, leads-both, leads-call, leads-each, leads-same, leads-to, one-each}

-- ---- how far each phase is after so many entries

abbrev pub at_objects : ℕ → Progress
at_objects count = record nothing_loaded { objects = count }

abbrev pub at_handlers : Image → ℕ → Progress
at_handlers image count = record (at_objects image.header.objects) { handlers = count }

abbrev pub at_capabilities : Image → ℕ → Progress
at_capabilities image count = record (at_handlers image image.header.interrupts) { capabilities = count }

abbrev pub at_tables : Image → ℕ → Progress
at_tables image count = record (at_capabilities image image.header.capabilities) { tables = count }

abbrev pub at_frames : Image → ℕ → Progress
at_frames image count = record (at_tables image image.header.tables) { frames = count }

abbrev pub at_fills : Image → ℕ → Progress
at_fills image count = record (at_frames image image.header.frames) { fills = count }

-- after all contents and the programs of so many threads
abbrev pub at_programs : Image → ℕ → Progress
at_programs image count = at_fills image (length image.contents + length (flat_map (program_fills image) (take count image.threads)))

abbrev pub at_signals : Image → ℕ → Progress
at_signals image count = record (at_fills image (length (fills image))) { signals = count }

abbrev pub at_threads : Image → ℕ → Progress
at_threads image count = record (at_signals image image.header.interrupts) { threads = count }

-- ---- what each phase has to show: one entry more

pub record LoadsByOne (image : Image) : Type 0 where
  pub placed : misplaced image ≡ None
  pub counts : CountsAreLengths image
  pub lengths : (length image.capabilities ≡ image.header.capabilities) × (length image.interrupts ≡ image.header.interrupts)
      × (length image.tables ≡ image.header.tables)
      × (length image.frames ≡ image.header.frames) × (length image.threads ≡ image.header.threads)
  pub puts : Leads image (boot_area image.header.memory_bits image.header.boot_radix)
      (map (λ u. PutsUntyped u.0 u.1) (numbered image.untypeds) ++ PutsControl (control_slot image) ∷ [])
      (loaded image nothing_loaded)
  pub objects : (i : ℕ) → i < image.header.objects → made (loaded image (at_objects i)) (object_call image i) ≡ Ok (loaded image (at_objects (suc i)))
  pub handlers : (i : ℕ) (x : ℕ × InterruptEntry) → slice_get (numbered image.interrupts) i ≡ Some x
      → made (loaded image (at_handlers image i)) (interrupt_call image x) ≡ Ok (loaded image (at_handlers image (suc i)))
  pub capabilities : (i : ℕ) (x : CapabilityEntry) → slice_get image.capabilities i ≡ Some x
      → made (loaded image (at_capabilities image i)) (capability_call image x) ≡ Ok (loaded image (at_capabilities image (suc i)))
  pub tables : (i : ℕ) (x : TableEntry) → slice_get image.tables i ≡ Some x
      → made (loaded image (at_tables image i)) (table_call image x) ≡ Ok (loaded image (at_tables image (suc i)))
  pub frames : (i : ℕ) (x : ℕ × FrameEntry) → slice_get (numbered image.frames) i ≡ Some x
      → Leads image (loaded image (at_frames image i)) (map Calls (frame_calls image x)) (loaded image (at_frames image (suc i)))
  pub contents : (i : ℕ) (x : ImageContent) → slice_get image.contents i ≡ Some x
      → Leads image (loaded image (at_fills image i)) (content_operation image x ∷ []) (loaded image (at_fills image (suc i)))
  pub programs : (i : ℕ) (x : Numbered) → slice_get (numbered_threads image) i ≡ Some x
      → Leads image (loaded image (at_programs image i)) (program_operation image x ∷ []) (loaded image (at_programs image (suc i)))
  pub signals : (i : ℕ) (x : ℕ × InterruptEntry) → slice_get (numbered image.interrupts) i ≡ Some x
      → Leads image (loaded image (at_signals image i)) (map Calls (signal_calls image x)) (loaded image (at_signals image (suc i)))
  pub threads : (i : ℕ) (x : Thread) → slice_get image.threads i ≡ Some x
      → Leads image (loaded image (at_threads image i)) (map Calls (thread_calls image x)) (loaded image (at_threads image (suc i)))

-- ---- the phases

pub length-map : {A B : Type 0} (f : A → B) (xs : List A) → length (map f xs) ≡ length xs
length-map f [] = refl
length-map f (x ∷ xs) = ap suc (length-map f xs)

length-numbered_from : {A : Type 0} (n : ℕ) (xs : List A) → length (enumerate_from n xs) ≡ length xs
length-numbered_from n [] = refl
length-numbered_from n (x ∷ xs) = let rest = length-numbered_from (n + 1) xs in omega (arith, rest)

-- from the first state on
from-first : {A : Type 0} (image : Image) (of : A → List Operation) (states : ℕ → State) (xs : List A) (count : ℕ) → length xs ≡ count
    → ((i : ℕ) (x : A) → slice_get xs i ≡ Some x → Leads image (states i) (of x) (states (suc i)))
    → Leads image (states 0) (flat_map of xs) (states count)
from-first image of states xs count long each =
    leads-to image (states 0) (states (0 + length xs)) (states count) (flat_map of xs) (ap states (omega (arith, long)))
    (leads-each image of states xs 0 (λ i x is.
    let here : i ≡ 0 + i = omega arith in
    subst (λ (n : ℕ). Leads image (states n) (of x) (states (suc n))) here (each i x is)))

-- one call an entry
calls-each : {A : Type 0} (image : Image) (of : A → LoaderCall) (states : ℕ → State) (xs : List A) (count : ℕ) → length xs ≡ count
    → ((i : ℕ) (x : A) → slice_get xs i ≡ Some x → made (states i) (of x) ≡ Ok (states (suc i)))
    → Leads image (states 0) (map Calls (map of xs)) (states count)
calls-each image of states xs count long each =
    leads-same image (states 0) (states count) (flat_map (λ x. Calls (of x) ∷ []) xs) (map Calls (map of xs)) (one-each (λ x. Calls (of x)) xs ∙ mapped of xs)
    (from-first image (λ x. Calls (of x) ∷ []) states xs count long (λ i x is. leads-call image (states i) (states (suc i)) (of x) (each i x is)))
  where
    mapped : {A : Type 0} (of : A → LoaderCall) (xs : List A) → map (λ x. Calls (of x)) xs ≡ map Calls (map of xs)
    mapped of [] = refl
    mapped of (x ∷ xs) = ap (λ (ops : List Operation). Calls (of x) ∷ ops) (mapped of xs)

-- some calls an entry
lists-each : {A : Type 0} (image : Image) (of : A → List LoaderCall) (states : ℕ → State) (xs : List A) (count : ℕ) → length xs ≡ count
    → ((i : ℕ) (x : A) → slice_get xs i ≡ Some x → Leads image (states i) (map Calls (of x)) (states (suc i)))
    → Leads image (states 0) (map Calls (flat_map of xs)) (states count)
lists-each image of states xs count long each =
    leads-same image (states 0) (states count) (flat_map (λ x. map Calls (of x)) xs) (map Calls (flat_map of xs)) (calls-of of xs)
    (from-first image (λ x. map Calls (of x)) states xs count long each)

-- one operation an entry
operations-each : {A : Type 0} (image : Image) (of : A → Operation) (states : ℕ → State) (xs : List A) (count : ℕ) → length xs ≡ count
    → ((i : ℕ) (x : A) → slice_get xs i ≡ Some x → Leads image (states i) (of x ∷ []) (states (suc i)))
    → Leads image (states 0) (map of xs) (states count)
operations-each image of states xs count long each =
    leads-same image (states 0) (states count) (flat_map (λ x. of x ∷ []) xs) (map of xs) (one-each of xs)
    (from-first image (λ x. of x ∷ []) states xs count long each)

calls-joined : (xs ys : List LoaderCall) → map Calls (xs ++ ys) ≡ map Calls xs ++ map Calls ys
calls-joined [] ys = refl
calls-joined (x ∷ xs) ys = ap (λ (ops : List Operation). Calls x ∷ ops) (calls-joined xs ys)

-- the numbers of a range, one by one
at-range : (start count i x : ℕ) → slice_get (range_with_len start count) i ≡ Some x → (x ≡ start + i) × (i < count)
at-range start zero i x is = absurd cc
at-range start (suc count) zero x is = (let e : start ≡ x = cc is in omega (arith, e), omega arith)
at-range start (suc count) (suc i) x is =
    let rest = at-range (start + 1) count i x is in (omega (arith, rest.0), omega (arith, rest.1))

first-calls : (image : Image) → LoadsByOne image → Leads image (loaded image nothing_loaded) (map Calls (first_calls image))
    (loaded image (at_frames image image.header.frames))
first-calls image by =
    let xs = map (object_call image) (range_with_len 0 image.header.objects) in
    let ys = map (interrupt_call image) (numbered image.interrupts) in
    let zs = map (capability_call image) image.capabilities in
    let ts = map (table_call image) image.tables in
    let fs = flat_map (frame_calls image) (numbered image.frames) in
    let s0 = loaded image (at_objects 0) in
    let s1 = loaded image (at_handlers image 0) in
    let s2 = loaded image (at_capabilities image 0) in
    let s3 = loaded image (at_tables image 0) in
    let s4 = loaded image (at_frames image 0) in
    let s5 = loaded image (at_frames image image.header.frames) in
    let objects : Leads image s0 (map Calls xs) s1 = calls-each image (object_call image) (λ i. loaded image (at_objects i))
    (range_with_len 0 image.header.objects) image.header.objects (length-range_with_len 0 image.header.objects) (λ i x is.
    let at = at-range 0 image.header.objects i x is in
    let here : x ≡ i = omega (arith, at.0) in
    subst (λ (n : ℕ). made (loaded image (at_objects i)) (object_call image n) ≡ Ok (loaded image (at_objects (suc i)))) (sym here) (by.objects i at.1)) in
    let handlers : Leads image s1 (map Calls ys) s2 = calls-each image (interrupt_call image) (λ i. loaded image (at_handlers image i))
    (numbered image.interrupts) image.header.interrupts (length-numbered_from 0 image.interrupts ∙ by.lengths.1) by.handlers in
    let capabilities : Leads image s2 (map Calls zs) s3 = calls-each image (capability_call image) (λ i. loaded image (at_capabilities image i))
    image.capabilities image.header.capabilities by.lengths.0 by.capabilities in
    let tables : Leads image s3 (map Calls ts) s4 = calls-each image (table_call image) (λ i. loaded image (at_tables image i)) image.tables image.header.tables
    by.lengths.2 by.tables in
    let frames : Leads image s4 (map Calls fs) s5 = lists-each image (frame_calls image) (λ i. loaded image (at_frames image i)) (numbered image.frames)
    image.header.frames (length-numbered_from 0 image.frames ∙ by.lengths.3) by.frames in
    let late = leads-both image s3 s4 s5 (map Calls ts) (map Calls fs) tables frames in
    let later = leads-both image s2 s3 s5 (map Calls zs) (map Calls ts ++ map Calls fs) capabilities late in
    let mid = leads-both image s1 s2 s5 (map Calls ys) (map Calls zs ++ (map Calls ts ++ map Calls fs)) handlers later in
    let whole = leads-both image s0 s1 s5 (map Calls xs) (map Calls ys ++ (map Calls zs ++ (map Calls ts ++ map Calls fs))) objects mid in
    leads-same image s0 s5 (map Calls xs ++ (map Calls ys ++ (map Calls zs ++ (map Calls ts ++ map Calls fs)))) (map Calls (first_calls image))
    (sym (calls-joined (((xs ++ ys) ++ zs) ++ ts) fs ∙ ap (λ (ops : List Operation). ops ++ map Calls fs)
    (calls-joined ((xs ++ ys) ++ zs) ts ∙ ap (λ (ops : List Operation). ops ++ map Calls ts)
    (calls-joined (xs ++ ys) zs ∙ ap (λ (ops : List Operation). ops ++ map Calls zs) (calls-joined xs ys)))
    ∙ append_assoc ((map Calls xs ++ map Calls ys) ++ map Calls zs) (map Calls ts) (map Calls fs)
    ∙ append_assoc (map Calls xs ++ map Calls ys) (map Calls zs) (map Calls ts ++ map Calls fs)
    ∙ append_assoc (map Calls xs) (map Calls ys) (map Calls zs ++ (map Calls ts ++ map Calls fs))))
    whole

last-calls : (image : Image) → LoadsByOne image → Leads image (loaded image (at_signals image 0)) (map Calls (last_calls image))
    (loaded image (all_loaded image))
last-calls image by =
    let xs = flat_map (signal_calls image) (numbered image.interrupts) in
    let ys = flat_map (thread_calls image) image.threads in
    let s0 = loaded image (at_signals image 0) in
    let s1 = loaded image (at_threads image 0) in
    let s2 = loaded image (all_loaded image) in
    let signals : Leads image s0 (map Calls xs) s1 = lists-each image (signal_calls image) (λ i. loaded image (at_signals image i)) (numbered image.interrupts)
    image.header.interrupts (length-numbered_from 0 image.interrupts ∙ by.lengths.1) by.signals in
    let threads : Leads image s1 (map Calls ys) s2 = lists-each image (thread_calls image) (λ i. loaded image (at_threads image i)) image.threads
    image.header.threads by.lengths.4 by.threads in
    leads-same image s0 s2 (map Calls xs ++ map Calls ys) (map Calls (last_calls image)) (sym (calls-joined xs ys))
    (leads-both image s0 s1 s2 (map Calls xs) (map Calls ys) signals threads)

-- a list's beginning of no items, and a number that is after nothing
take-none : {A : Type 0} (xs : List A) → take 0 xs ≡ []
take-none [] = refl
take-none (x ∷ xs) = refl

pub length-joined : {A : Type 0} (xs ys : List A) → length (xs ++ ys) ≡ length xs + length ys
length-joined [] ys = omega arith
length-joined (x ∷ xs) ys = let rest = length-joined xs ys in omega (arith, rest)

fills-counted : (image : Image) → take image.header.threads image.threads ≡ image.threads
    → length image.contents + length (flat_map (program_fills image) (take image.header.threads image.threads)) ≡ length (fills image)
unfolding fills
fills-counted image threads =
    let cs = map (content_fill image) image.contents in
    let ps = flat_map (program_fills image) image.threads in
    ap (λ (ts : List Thread). length image.contents + length (flat_map (program_fills image) ts)) threads
    ∙ ap (λ (n : ℕ). n + length ps) (sym (length-map (content_fill image) image.contents)) ∙ sym (length-joined cs ps)

middle : (image : Image) → LoadsByOne image
    → Leads image (loaded image (at_fills image 0)) (map (content_operation image) image.contents ++ map (program_operation image) (numbered_threads image))
    (loaded image (at_signals image 0))
middle image by =
    let cs = map (content_operation image) image.contents in
    let ps = map (program_operation image) (numbered_threads image) in
    let s0 = loaded image (at_fills image 0) in
    let s1 = loaded image (at_programs image 0) in
    let s2 = loaded image (at_signals image 0) in
    let none : length image.contents ≡ length image.contents + length (flat_map (program_fills image) (take 0 image.threads)) =
    omega (arith, ap (λ (ts : List Thread). length (flat_map (program_fills image) ts)) (take-none image.threads)) in
    let contents : Leads image s0 cs s1 =
    leads-to image s0 (loaded image (at_fills image (length image.contents))) s1 cs (ap (λ (n : ℕ). loaded image (at_fills image n)) none)
    (operations-each image (content_operation image) (λ i. loaded image (at_fills image i)) image.contents (length image.contents) refl by.contents) in
    let programs : Leads image s1 ps s2 =
    leads-to image s1 (loaded image (at_programs image image.header.threads)) s2 ps
    (ap (λ (n : ℕ). loaded image (at_fills image n)) (fills-counted image by.counts.threads))
    (operations-each image (program_operation image) (λ i. loaded image (at_programs image i)) (numbered_threads image) image.header.threads
    (length-map (λ t. record { number = t.0; thread = t.1 }) (numbered image.threads) ∙ length-numbered_from 0 image.threads ∙ by.lengths.4) by.programs) in
    leads-both image s0 s1 s2 cs ps contents programs

-- ---- the whole

pub boots-well-by : (image : Image) → LoadsByOne image → booted image ≡ Ok (described image)
unfolding operations
boots-well-by image by =
    let start = boot_area image.header.memory_bits image.header.boot_radix in
    let us = map (λ u. PutsUntyped u.0 u.1) (numbered image.untypeds) in
    let control = PutsControl (control_slot image) in
    let firsts = map Calls (first_calls image) in
    let cs = map (content_operation image) image.contents in
    let ps = map (program_operation image) (numbered_threads image) in
    let lasts = map Calls (last_calls image) in
    let s0 = loaded image nothing_loaded in
    let s1 = loaded image (at_fills image 0) in
    let s2 = loaded image (at_signals image 0) in
    let s3 = loaded image (all_loaded image) in
    let end : Leads image s1 ((cs ++ ps) ++ lasts) s3 = leads-both image s1 s2 s3 (cs ++ ps) lasts (middle image by) (last-calls image by) in
    let behind : Leads image s0 (firsts ++ ((cs ++ ps) ++ lasts)) s3 = leads-both image s0 s1 s3 firsts ((cs ++ ps) ++ lasts) (first-calls image by) end in
    let whole : Leads image start ((us ++ control ∷ []) ++ (firsts ++ ((cs ++ ps) ++ lasts))) s3 =
    leads-both image start s0 s3 (us ++ control ∷ []) (firsts ++ ((cs ++ ps) ++ lasts)) by.puts behind in
    let same : (us ++ control ∷ []) ++ (firsts ++ ((cs ++ ps) ++ lasts)) ≡ operations image =
    append_assoc us (control ∷ []) (firsts ++ ((cs ++ ps) ++ lasts))
    ∙ ap (λ (ops : List Operation). us ++ control ∷ (firsts ++ ops)) (append_assoc cs ps lasts)
    ∙ sym (append_assoc us (control ∷ firsts) (cs ++ (ps ++ lasts)))
    ∙ sym (append_assoc (us ++ control ∷ firsts) cs (ps ++ lasts))
    ∙ sym (append_assoc (us ++ control ∷ firsts ++ cs) ps lasts) in
    boots-by image (described image) by.placed
    (leads-to image start s3 (described image) (operations image) (loaded-end image by.counts)
    (leads-same image start s3 ((us ++ control ∷ []) ++ (firsts ++ ((cs ++ ps) ++ lasts))) (operations image) same whole))
