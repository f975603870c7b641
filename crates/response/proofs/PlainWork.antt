-- A step that makes no system call: of what is left the thread's own part alone changes, and it falls.
use Rattle.std.proofs.Common.{ℕ, zero, suc, ◌≡◌, ◌≢◌, ◌∙◌, ◌==◌, ◌+◌, ◌-◌, ◌/◌, ◌<◌, ◌≤◌, ◌&&◌, ◌++◌, inl, inr, Bool, true, false, if◌then◌else◌, Option}
use Rattle.std.proofs.Common.{Some, None}
use Rattle.std.proofs.Common.{List, [], ◌∷◌, length, get_or, refl, sym, ap, subst, arith}
use Rattle.std.specs.Prelude.{Contains}
use Rattle.std.proofs.lemmas.Bool.{eq-eqb, ne_eqb}
use Rattle.std.proofs.lemmas.Bool.Decides.{eqb_tells}
use Rattle.model.specs.declared.instructions.Instr.{Instr}
use Rattle.model.specs.declared.instructions.Instr.TheVariants.{Upper, Jal, Jalr, Branch, Load, Store, Immediate, Shift, Registers, Fence, Ecall, Ebreak}
use Rattle.model.specs.declared.labels.Label.{Label}
use Rattle.model.specs.declared.labels.Label.TheVariants.{Ran}
use Rattle.model.specs.declared.labels.Outcome.TheVariants.{Plain}
use Rattle.model.specs.Acceptance.NotedStates.{PointState}
use Rattle.model.specs.Acceptance.PointStates.{address_of, instruction_at}
use Rattle.model.specs.Acceptance.ThreadInvariants.{tcb_of}
use Rattle.model.specs.Images.Described.{Numbered, numbered_threads}
use Rattle.model.specs.Images.Image.{Image, Thread}
use Rattle.model.specs.Kernel.AddressSpaces.{with_content}
use Rattle.model.specs.Kernel.Messages.{with_registers}
use Rattle.model.specs.Kernel.Scheduling.{is_runnable}
use Rattle.model.specs.Kernel.State.{Runnable, State, ThreadObject, ThreadState}
use Rattle.model.specs.Kernel.State.{thread_at}
use Rattle.model.specs.Kernel.Steps.{memory_base}
use Rattle.model.specs.Kernel.Waits.{open_count}
use Rattle.model.specs.Machine.ProgramMemory.{Content, RegisterFile}
use Rattle.headline.proofs.Laws.{at-place, other-label, own-label}
use Rattle.response.specs.Asking.{Asks_nothing, asked_at, asked_of}
use Rattle.response.specs.Left.{irq_lines, left, left_of_line, left_of_thread, left_of_word, point_now, total}
use Rattle.response.specs.Levels.{is_of_level}
use Rattle.response.specs.Weights.{Weights}
use Rattle.response.proofs.Interrupts.{put-at, put-off, same-less, thread-of, thread-same, word-of}
use Rattle.response.proofs.Sums.{further}
use Rattle.response.proofs.Woken.{point-of}

-- ---- a sum of which one entry falls

pub total-falls : {A : Type 0} (f g : A → ℕ) (xs : List A) (t : A) (k : ℕ) → k < length xs → get_or xs k t ≡ t → ((x : A) → Contains xs x → g x ≤ f x)
    → g t + 1 ≤ f t → total g xs + 1 ≤ total f xs
total-falls f g [] t k inside is less falls = absurd (omega (arith, inside))
total-falls f g (x ∷ xs) t zero inside is less falls =
    let here : g x + 1 ≤ f x = subst (λ y. g y + 1 ≤ f y) (sym is) falls in
    let rest = all-less f g xs (λ y at. less y (further x y xs at)) in
    omega (arith, here, rest)
  where
    all-less : {A : Type 0} (f g : A → ℕ) (xs : List A) → ((x : A) → Contains xs x → g x ≤ f x) → total g xs ≤ total f xs
    all-less f g [] less = omega arith
    all-less f g (x ∷ xs) less =
        let first = less x (0, omega arith, refl) in
        let rest = all-less f g xs (λ y at. less y (further x y xs at)) in
        omega (arith, first, rest)
total-falls f g (x ∷ xs) t (suc k) inside is less falls =
    let first = less x (0, omega arith, refl) in
    let rest = total-falls f g xs t k (omega (arith, inside)) is (λ y at. less y (further x y xs at)) falls in
    omega (arith, first, rest)

-- ---- an instruction that is no system call asks nothing

asks-nothing : (image : Image) (t : Thread) (state : PointState) (o : Option Instr) → (o ≡ Some Ecall → ⊥) → asked_of image t state o ≡ Asks_nothing
asks-nothing image t state None other = refl
asks-nothing image t state (Some Ecall) other = absurd (other refl)
asks-nothing image t state (Some (Upper op rd immediate)) other = refl
asks-nothing image t state (Some (Jal rd offset)) other = refl
asks-nothing image t state (Some (Jalr rd rs1 offset)) other = refl
asks-nothing image t state (Some (Branch op rs1 rs2 offset)) other = refl
asks-nothing image t state (Some (Load op rd rs1 offset)) other = refl
asks-nothing image t state (Some (Store op rs1 rs2 offset)) other = refl
asks-nothing image t state (Some (Immediate op rd rs1 immediate)) other = refl
asks-nothing image t state (Some (Shift op rd rs1 amount)) other = refl
asks-nothing image t state (Some (Registers op rd rs1 rs2)) other = refl
asks-nothing image t state (Some Fence) other = refl
asks-nothing image t state (Some Ebreak) other = refl

pub plainly-asked : (image : Image) (t : Thread) (point : ℕ) (state : PointState) → (instruction_at t point ≡ Some Ecall → ⊥)
    → asked_at image t point state ≡ Asks_nothing
unfolding asked_at
plainly-asked image t point state other = asks-nothing image t state (instruction_at t point) other

-- ---- the step

module _ (image : Image) (priority : ℕ) (w : Weights) (s : State) (labels : List Label) (t : Numbered) (listed : Contains (numbered_threads image) t)
    (level : is_of_level priority t ≡ true) (own : ThreadState) (there : s.objects (tcb_of image t) ≡ Some (ThreadObject own)) (status : own.status ≡ Runnable)
    (registers : RegisterFile) (content : Content) (pc here next : ℕ) (was : own.registers.pc ≡ address_of t.thread here)
    (goes : registers.pc ≡ address_of t.thread next) (paid : w.still t.number next ≤ w.still t.number here)
    (spent : open_count (tcb_of image t) labels + 1 ≤ t.thread.header.budget)
    (others : (u : Numbered) → Contains (numbered_threads image) u → tcb_of image u ≡ tcb_of image t → u ≡ t) where
  abbrev after : State
  after = with_content (with_registers s (tcb_of image t) registers) content

  abbrev label : Label
  label = Ran (memory_base + tcb_of image t) pc Plain

  abbrev new : ThreadState
  new = record (thread_at s (tcb_of image t)) { registers = registers }

  same-own : thread_at s (tcb_of image t) ≡ own
  same-own = at-place s (tcb_of image t) own there

  -- who else there is
  thread-else : (y : ℕ) → y ≢ tcb_of image t → thread_at after y ≡ thread_at s y
  thread-else y apart = ap thread-of (put-off s.objects (tcb_of image t) y (Some (ThreadObject new)) apart)

  count-else : (y : ℕ) → y ≢ tcb_of image t → open_count y (labels ++ label ∷ []) ≡ open_count y labels
  count-else y apart = other-label y labels label (ne_eqb (memory_base + tcb_of image t) (memory_base + y) (λ same. apart (omega (arith, same))))

  word-else : (y : ℕ) → word-of (after.objects y) ≡ word-of (s.objects y)
  word-else y = elim (eqb_tells y (tcb_of image t)) [
    | inl self ↦
        ap word-of (ap after.objects self.1 ∙ put-at s.objects (tcb_of image t) (Some (ThreadObject new))) ∙ sym (ap word-of (ap s.objects self.1 ∙ there))
    | inr apart ↦ ap word-of (put-off s.objects (tcb_of image t) y (Some (ThreadObject new)) apart.1)
  ]

  -- the thread itself
  new-is : thread_at after (tcb_of image t) ≡ new
  new-is = ap thread-of (put-at s.objects (tcb_of image t) (Some (ThreadObject new)))

  count-own : open_count (tcb_of image t) (labels ++ label ∷ []) ≡ open_count (tcb_of image t) labels + 1
  count-own = own-label (tcb_of image t) labels label (eq-eqb (memory_base + tcb_of image t) (memory_base + tcb_of image t) refl)

  runs-before : is_runnable (thread_at s (tcb_of image t)).status ≡ true
  runs-before = ap (λ (u : ThreadState). is_runnable u.status) same-own ∙ ap is_runnable status

  left-before : left_of_thread image priority w s labels t ≡ t.thread.header.budget - open_count (tcb_of image t) labels + w.still t.number here
  left-before =
      ap (λ (b : Bool). if b && is_runnable (thread_at s (tcb_of image t)).status
      then t.thread.header.budget - open_count (tcb_of image t) labels + w.still t.number (point_now image s t) else 0) level
      ∙ ap (λ (b : Bool). if b then t.thread.header.budget - open_count (tcb_of image t) labels + w.still t.number (point_now image s t) else 0) runs-before
      ∙ ap (λ (k : ℕ). t.thread.header.budget - open_count (tcb_of image t) labels + w.still t.number k)
      (ap (λ (u : ThreadState). (u.registers.pc - t.thread.header.base) / 4) same-own ∙ ap (λ (k : ℕ). (k - t.thread.header.base) / 4) was
      ∙ point-of t.thread.header.base here)

  next-now : point_now image after t ≡ next
  next-now = ap (λ (u : ThreadState). (u.registers.pc - t.thread.header.base) / 4) new-is ∙ ap (λ (k : ℕ). (k - t.thread.header.base) / 4) goes
      ∙ point-of t.thread.header.base next

  left-after : left_of_thread image priority w after (labels ++ label ∷ []) t
      ≤ t.thread.header.budget - (open_count (tcb_of image t) labels + 1) + w.still t.number next
  left-after =
      let still = ap (λ (k : ℕ). w.still t.number k) next-now in
      let counts = count-own in
      elim (is_of_level priority t && is_runnable (thread_at after (tcb_of image t)).status) as (λ b. (if b
      then t.thread.header.budget - open_count (tcb_of image t) (labels ++ label ∷ []) + w.still t.number (point_now image after t) else 0)
      ≤ t.thread.header.budget - (open_count (tcb_of image t) labels + 1) + w.still t.number next) [ true ↦ omega (arith, still, counts) | false ↦ omega arith ]

  own-falls : left_of_thread image priority w after (labels ++ label ∷ []) t + 1 ≤ left_of_thread image priority w s labels t
  own-falls =
      let before = left-before in
      let now = left-after in
      omega (arith, before, now, paid, spent)

  none-grows : (u : Numbered) → Contains (numbered_threads image) u
      → left_of_thread image priority w after (labels ++ label ∷ []) u ≤ left_of_thread image priority w s labels u
  none-grows u among = elim (eqb_tells (tcb_of image u) (tcb_of image t)) [
    | inl self ↦
        let falls = own-falls in
        subst (λ (v : Numbered). left_of_thread image priority w after (labels ++ label ∷ []) v ≤ left_of_thread image priority w s labels v)
        (sym (others u among self.1)) (omega (arith, falls))
    | inr apart ↦
        let same = thread-same image priority w s after labels (labels ++ label ∷ []) u (thread-else (tcb_of image u) apart.1)
        (count-else (tcb_of image u) apart.1) in
        omega (arith, same)
  ]

  pub plain-falls : left image priority w after (labels ++ label ∷ []) + 1 ≤ left image priority w s labels
  unfolding left
  plain-falls =
      let threads = total-falls (left_of_thread image priority w s labels) (left_of_thread image priority w after (labels ++ label ∷ []))
      (numbered_threads image)
      t listed.0 listed.1 listed.2 none-grows own-falls in
      let words = same-less (left_of_word w after) (left_of_word w s) w.prices (λ p. ap (λ (k : ℕ). if k == 0 then 0 else p.price) (word-else p.object)) in
      let lines = same-less (left_of_line w after) (left_of_line w s) irq_lines (λ k. refl) in
      omega (arith, threads, words, lines)
