-- Lines in no thread that declare no name, and outcomes that follow from others.
use Rattle.std.specs.Prelude.{Result, Option, is_some, length, not, ◌==◌, if◌then◌else◌}
use Rattle.std.proofs.Common.{◌≡◌, ◌⊎◌, inl, inr, ℕ, Bool, true, false, List, Some, None, Ok, Err, refl, sym, ap, subst, ◌∙◌, true≢false}
use Rattle.std.specs.Result.{IsErr, IsErrAnd}
use Rattle.model.specs.declared.entries.UntypedEntry.{UntypedEntry}
use Rattle.model.specs.Images.Listing.{Text}
use Rattle.asm_line.specs.declared.lines.Line.{Line}
use Rattle.asm_line.specs.declared.lines.Line.TheVariants as line
use Rattle.asm_line.specs.declared.lines.ThreadLine.{ThreadLine}
use Rattle.asm.specs.declared.assembly.Memory.{Memory}
use Rattle.asm.specs.declared.faults.Fault.{Fault}
use Rattle.asm.specs.declared.faults.Fault.TheVariants.{Syntax, Duplicate, Range, Memory as WantOfMemory}
use Rattle.asm_line.specs.Words.{◌>>=◌}
use Rattle.asm.specs.Drafts.{Draft}
use Rattle.asm.specs.Keys.{must}
use Rattle.asm.specs.Labels.{FoundLabels}
use Rattle.asm.specs.Meaning.{declared_with, ended, first_line, full_line, in_thread, inside, is_blank, is_end, outside, placed_with, read_line, with_declared}
use Rattle.asm.specs.Outcomes.{Gives, Means, kind_of}
use Rattle.asm.specs.Reading.{labels_at}
use Rattle.asm.specs.Threads.{OpenDraft}

-- ---- outcomes

-- the same outcome of what means the same
pub means-same : {T A : Type 0} (r : Result T Fault) (there : T → A) (meant other : Result A ℕ) → meant ≡ other → Means r there meant → Means r there other
means-same r there meant other e is = subst (Means r there) e is

pub either-goes : {P Q R : Type 0} → (Q → R) → P ⊎ Q → P ⊎ R
either-goes f (inl p) = inl p
either-goes f (inr q) = inr (f q)

-- what a `?` returns
pub refused-means : {T A : Type 0} (r : Result T Fault) (f : Fault) (there : T → A) (meant : Result A ℕ) → IsErr r × IsErrAnd r (λ g. g ≡ f)
    → (f ≡ WantOfMemory) ⊎ (meant ≡ Err (kind_of f)) → Means r there meant
refused-means (Ok x) f there meant h is = absurd h.1
refused-means (Err g) f there meant h is = subst (λ (k : Fault). (k ≡ WantOfMemory) ⊎ (meant ≡ Err (kind_of k))) (sym h.1) is

-- the last step of a chain
pub means-on : {T A B : Type 0} (r : Result T Fault) (there : T → A) (meant : Result A ℕ) (f : A → Result B ℕ) (behind : T → B) →
    ((x : T) → f (there x) ≡ Ok (behind x))
    → Means r there meant → Means r behind (meant >>= f)
means-on (Ok x) there meant f behind h is = ap (λ m. m >>= f) is ∙ h x
means-on (Err k) there meant f behind h (inl e) = inl e
means-on (Err k) there meant f behind h (inr e) = inr (ap (λ m. m >>= f) e)

-- what comes where memory alone may be refused
pub gives-means : {T A : Type 0} (r : Result T Fault) (there : T → A) (meant : Result A ℕ) (P : T → Type 0) → ((x : T) → P x → meant ≡ Ok (there x)) →
    Gives r P → Means r there meant
gives-means (Ok x) there meant P h is = h x is
gives-means (Err k) there meant P h is = inl is

pub free-false : (taken : Bool) → ◌≡◌ {A = Result (Unit {0}) Fault} (Ok tt) (if taken then Err Duplicate else Ok tt) → taken ≡ false
free-false true e = absurd (let no : ◌≡◌ {A = Result (Unit {0}) Fault} (Ok tt) (Err Duplicate) = e in cc)
free-false false e = refl

-- a name that nothing has
pub free-told : (taken : Bool) → ◌≡◌ {A = Result (Unit {0}) Fault} (Ok tt) (if taken then Err Duplicate else Ok tt) → must (not taken) 3 ≡ Ok tt
free-told true e = absurd (let no : ◌≡◌ {A = Result (Unit {0}) Fault} (Ok tt) (Err Duplicate) = e in cc)
free-told false e = refl

-- ---- a line that stands in no thread

-- a line that declares no name and begins no thread
pub record IsOther (said : Line) : Type 0 where
  pub untyped : (name : Text) (entry : UntypedEntry) → said ≡ line.Untyped name entry → ⊥
  pub object : (name untyped : Text) (kind size : ℕ) → said ≡ line.Object name untyped kind size → ⊥
  pub interrupt : (name : Text) (number : ℕ) (notification : Text) (badge : ℕ) → said ≡ line.Interrupt name number notification badge → ⊥
  pub thread : (begun : ThreadLine) → said ≡ line.Thread begun → ⊥

pub other-placed : (labels : FoundLabels) (d : Draft) (said : Line) → IsOther said → with_declared d (placed_with d.declared said) ≡ outside labels d said
unfolding outside declared_with
other-placed labels d line.Blank other = refl
other-placed labels d (line.Memory bits radix) other = refl
other-placed labels d (line.Untyped name entry) other = absurd (other.untyped name entry refl)
other-placed labels d (line.Object name untyped kind size) other = absurd (other.object name untyped kind size refl)
other-placed labels d (line.Interrupt name number notification badge) other = absurd (other.interrupt name number notification badge refl)
other-placed labels d (line.Capability cnode index source rights payload) other = refl
other-placed labels d (line.Table root address table) other = refl
other-placed labels d (line.Frame root address frame rights) other = refl
other-placed labels d (line.Content frame words) other = refl
other-placed labels d (line.Promise endpoint low high words) other = refl
other-placed labels d (line.Thread begun) other = absurd (other.thread begun refl)
other-placed labels d (line.Buffer frame) other = refl
other-placed labels d (line.Register entry) other = refl
other-placed labels d (line.Measure constant terms) other = refl
other-placed labels d (line.Range entry) other = refl
other-placed labels d (line.Slot cnode index word0 word1 parent) other = refl
other-placed labels d (line.Label name) other = refl
other-placed labels d (line.Code label code) other = refl
other-placed labels d line.End other = refl

-- ---- any line

module _ (labels : List FoundLabels) (number : ℕ) (d : Draft) (said : Line) where
  pub blank-read : is_blank said ≡ true → read_line labels number d said ≡ Ok d
  unfolding read_line
  blank-read e = ap (λ b. if b then Ok d else full_line labels number d said) e

  full-read : is_blank said ≡ false → read_line labels number d said ≡ full_line labels number d said
  unfolding read_line
  full-read e = ap (λ b. if b then Ok d else full_line labels number d said) e

  none-known : (memory : Option Memory) → is_some memory ≡ false
      → elim memory [
        | Some m ↦ elim d.open_thread [
          | Some o ↦ in_thread (labels_at labels (length d.threads)) number d o said
          | None ↦
              outside (labels_at labels (length d.threads)) d said
        ]
        | None ↦ first_line d said
      ]
      ≡ first_line d said
  none-known None e = refl
  none-known (Some m) e = absurd (true≢false e)

  some-known : (memory : Option Memory) (thread : Option OpenDraft) → is_some memory ≡ true
      → ◌≡◌ {A = Result Draft ℕ}
      (elim memory [
        | Some m ↦ elim thread [
          | Some o ↦ in_thread (labels_at labels (length d.threads)) number d o said
          | None ↦
              outside (labels_at labels (length d.threads)) d said
        ]
        | None ↦ first_line d said
      ])
      (elim thread [ Some o ↦ in_thread (labels_at labels (length d.threads)) number d o said | None ↦ outside (labels_at labels (length d.threads)) d said ])
  some-known None thread e = absurd (true≢false (sym e))
  some-known (Some m) thread e = refl

  pub first-read : is_blank said ≡ false → is_some d.memory ≡ false → first_line d said ≡ read_line labels number d said
  first-read full none = sym (full-read full ∙ none-known d.memory none)

  pub outside-read : is_blank said ≡ false → is_some d.memory ≡ true → d.open_thread ≡ None →
      outside (labels_at labels (length d.threads)) d said ≡ read_line labels number d said
  outside-read full some none = sym (full-read full ∙ (some-known d.memory d.open_thread some
      ∙ ap (λ (thread : Option OpenDraft). elim thread [
        | Some o ↦ in_thread (labels_at labels (length d.threads)) number d o said
        | None ↦
            outside (labels_at labels (length d.threads)) d said
      ]) none))

  pub thread-read : (o : OpenDraft) (left : Option OpenDraft) → is_blank said ≡ false → is_some d.memory ≡ true → d.open_thread ≡ Some o
      → in_thread (labels_at labels (length d.threads)) number (record d { open_thread = left }) o said ≡ read_line labels number d said
  unfolding ended
  thread-read o left full some is = sym (full-read full ∙ (some-known d.memory d.open_thread some
      ∙ ap (λ (thread : Option OpenDraft). elim thread [
        | Some o ↦ in_thread (labels_at labels (length d.threads)) number d o said
        | None ↦
            outside (labels_at labels (length d.threads)) d said
      ]) is))

-- ---- faults of lines

pub kind-told : (kind : ℕ) → (kind ≡ 1) ⊎ (kind ≡ 4) → kind_of (if kind == 4 then Range else Syntax) ≡ kind
kind-told kind (inl e) = ap (λ k. kind_of (if k == 4 then Range else Syntax)) e ∙ sym e
kind-told kind (inr e) = ap (λ k. kind_of (if k == 4 then Range else Syntax)) e ∙ sym e

-- the line `end`: no thread is open after it
pub end-means : {T : Type 0} (labels : FoundLabels) (number : ℕ) (d : Draft) (o : OpenDraft) (said : Line) (r : Result T Fault) (there : T → Draft) →
    is_end said ≡ true
    → Means r there (ended d o) → Means r there (in_thread labels number d o said)
end-means labels number d o said r there e is =
    means-same r there (ended d o) (in_thread labels number d o said)
    (sym (ap (λ b. if b then ended d o else (inside labels number d.declared.names o said >>= λ (more : OpenDraft). Ok (record d { open_thread = Some more })))
    e)) is
