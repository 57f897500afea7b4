-- What is known of a record that is read, or refused. Assumes nothing.
use Rattle.std.proofs.Common.{◌≡◌, ℕ, Bool, true, false, cond, eqb, List, length, Some, None, Option, Ok, refl, sym, ap, ◌∙◌}
use Rattle.std.proofs.lemmas.Bool.{cond-true, eqb-true, eq-eqb, true≢false}
use Rattle.std.proofs.lemmas.Option.{cond_some}
use Rattle.std.specs.Result.{result_ok, is_ok}
use Rattle.terms.specs.Answers.{Answer, refused, granted}
use Rattle.record.specs.Fields.{fields}
use Rattle.record.specs.Layouts.{letter_or_refusal, unnamed_zero, lettered, reading}
use Rattle.record.specs.declared.fields.Fields.{Fields}
use Rattle.record.specs.declared.tables.Layout.{Layout}

-- what a granted reading tells of the bytes, the letter and the fields
pub record Read {L : Type 0} (named : ℕ → Option L) (layout : L → Layout) (bs : List ℕ) (letter : L) (f : Fields) : Type 0 where
  pub long : length bs ≡ 64
  pub same : f ≡ fields bs
  pub called : named f.letter ≡ Some letter
  pub clear : unnamed_zero (layout letter) f ≡ true

-- whether an answer is no refusal
abbrev pub is_granted : {A : Type 0} → Answer A → Bool
is_granted (refused n) = false
is_granted (granted x) = true

-- what is granted under a test has passed it
granted_if : {A : Type 0} (b : Bool) (n : ℕ) (x : A) (r : Answer A) → granted x ≡ cond b r (refused n) → (b ≡ true) × (granted x ≡ r)
granted_if true n x r e = (refl, e)
granted_if false n x r e = absurd (true≢false (ap is_granted e))

module _ {L : Type 0} (named : ℕ → Option L) (layout : L → Layout) (bs : List ℕ) where
  -- a record of 64 bytes is up to its letter
  pub reading_whole : (f : Fields) → length bs ≡ 64 → f ≡ fields bs → reading named layout bs ≡ lettered layout (named f.letter) f
  reading_whole f l s =
      cond-true (eqb (length bs) 64) (lettered layout (named (fields bs).letter) (fields bs)) (refused 1) (eq-eqb (length bs) 64 l)
      ∙ ap (λ x. lettered layout (named x.letter) x) (sym s)

  -- a record whose fields are there has 64 bytes
  pub fields_there : (f : Fields) → Some f ≡ cond (eqb (length bs) 64) (Some (fields bs)) None → (length bs ≡ 64) × (f ≡ fields bs)
  fields_there f e = let p = cond_some (eqb (length bs) 64) (fields bs) f (sym e) in (eqb-true (length bs) 64 p.0, sym p.1)

  -- it is read by its letter
  pub reading_known : (f : Fields) (letter : L) → Some f ≡ cond (eqb (length bs) 64) (Some (fields bs)) None → Ok letter ≡ letter_or_refusal (named f.letter) →
      reading named layout bs ≡ cond (unnamed_zero (layout letter) f) (granted (letter, f)) (refused 3)
  reading_known f letter e k = let t = fields_there f e in reading_whole f t.0 t.1 ∙ ap (λ o. lettered layout o f) (known (named f.letter) k)
    where
      known : (o : Option L) → Ok letter ≡ letter_or_refusal o → o ≡ Some letter
      known None k = absurd (true≢false (ap is_ok k))
      known (Some l) k = ap result_ok (sym k)

  lettered_granted : (o : Option L) (letter : L) (f g : Fields) → granted (letter, f) ≡ lettered layout o g →
      (o ≡ Some letter) × (f ≡ g) × (unnamed_zero (layout letter) f ≡ true)
  lettered_granted None letter f g e = absurd (true≢false (ap is_granted e))
  lettered_granted (Some k) letter f g e =
      let p = granted_if (unnamed_zero (layout k) g) 3 (letter, f) (granted (k, g)) e in
      let same : ◌≡◌ {A = L × Fields} (letter, f) (k, g) = cc p.1 in
      (ap (λ q. Some q.0) (sym same), ap (λ q. q.1) same, ap (λ q. unnamed_zero (layout q.0) q.1) same ∙ p.0)

  -- what a granted reading tells
  pub reading_granted : (letter : L) (f : Fields) → granted (letter, f) ≡ reading named layout bs → Read named layout bs letter f
  reading_granted letter f e =
      let p = granted_if (eqb (length bs) 64) 1 (letter, f) (lettered layout (named (fields bs).letter) (fields bs)) e in
      let k = lettered_granted (named (fields bs).letter) letter f (fields bs) p.1 in
      record { long = eqb-true (length bs) 64 p.0; same = k.1; called = ap (λ x. named x.letter) k.1 ∙ k.0; clear = k.2 }
