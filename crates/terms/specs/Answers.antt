-- What a call answers, and the number of each refusal. Assumes nothing.
use Rattle.std.specs.Prelude.{ℕ, Ok, Err, Result}
use Rattle.terms.specs.Refusals.{number}
use Rattle.terms.specs.declared.refusals.Refusal.{Refusal}

-- A refusal's number, or what is granted.
pub data Answer (A : Type 0) : Type 0 where
  refused : ℕ → Answer A
  granted : A → Answer A

-- The answer that a result of the code gives.
abbrev pub answered : {A : Type 0} → Result A Refusal → Answer A
answered (Ok x) = granted x
answered (Err e) = refused (number e)

-- The same, of what the granted value stands for.
abbrev pub answered_by : {A B : Type 0} → (A → B) → Result A Refusal → Answer B
answered_by f (Ok x) = granted (f x)
answered_by f (Err e) = refused (number e)
