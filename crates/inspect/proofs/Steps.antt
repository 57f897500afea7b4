-- A file read record by record. Assumes nothing.
use Rattle.std.proofs.Common.{◌≡◌, ℕ, ◌+◌, ◌*◌, ◌<◌, List, [], ◌∷◌, ◌++◌, length, get_or, take, drop, Result, ap, ◌∙◌, inl, inr, arith, drop-drop}
use Rattle.std.proofs.lemmas.List.{get_or_append_left, get_or_push}
use Rattle.std.proofs.lemmas.Bool.{cases_lt}
use Rattle.inspect.specs.File.{told, tells}
use Rattle.inspect.specs.declared.found.Fault.{Fault}
use Rattle.inspect.specs.declared.found.Record.{Record}

-- the first n records are told
abbrev pub ToldTo : ℕ → List ℕ → List (Result Record Fault) → Type 0
ToldTo n bs all = (k : ℕ) (d : Result Record Fault) → k < n → told (get_or all k d) ≡ tells (take 64 (drop (64 * k) bs))

-- one more
pub told_more : (bs rest next : List ℕ) (all : List (Result Record Fault)) (n : ℕ) (s : Result Record Fault) → n ≡ length all → rest ≡ drop (64 * n) bs → told s ≡ tells (take 64 rest) →
    next ≡ drop 64 rest → ToldTo n bs all → (next ≡ drop (64 * (n + 1)) bs) × ToldTo (n + 1) bs (all ++ s ∷ [])
told_more bs rest next all n s l r t e h = (e ∙ ap (drop 64) r ∙ drop-drop 64 (64 * n) bs ∙ ap (λ m. drop m bs) (omega arith), one)
  where
    one : ToldTo (n + 1) bs (all ++ s ∷ [])
    one k d b =
        elim (cases_lt k n) [
          | inl c ↦ ap told (get_or_append_left all (s ∷ []) d k (omega arith)) ∙ h k d c
          | inr c ↦ let last : k ≡ n = omega arith in let pushed = get_or_push all s d k (omega arith) in grind arith
        ]
