-- The struck list as calls come one by one: the steps of an induction along the run. With h the granted calls, the latest first, strike h 0
-- is the struck list, and strike h (suc j) the struck list as it stood before the opening of the j-th open trial, the innermost being 0.
-- Assumes nothing.
use Rattle.std.proofs.Common.{◌≡◌, ℕ, zero, suc, ◌+◌, ◌<◌, List, [], ◌∷◌, length, get_or, take, refl, le_of_suc-le-suc, add-one, arith}
use Rattle.terms.specs.Answers.{Answer, refused, granted}
use Rattle.terms.specs.Struck.{Answers, granted_onto, granted_calls, inside, bracket, strike}
use Rattle.terms.specs.declared.rows.Row.{Row}
use Rattle.terms.specs.declared.calls.Call.{Call}
use Rattle.terms.specs.declared.calls.Call.TheVariants.{OpenTrial, KeepTrial, DropTrial, Draw}

-- an opening: what stood before it is what stands
pub struck_open : (h : List Call) (j : ℕ) → strike (OpenTrial ∷ h) (suc j) ≡ strike h j
struck_open h j = refl

-- a drop: what stood before the opening stands again
pub struck_drop : (h : List Call) → strike (DropTrial ∷ h) 0 ≡ strike h 1
struck_drop h = refl

-- a drop and a keeping close the innermost trial
pub struck_dropped : (h : List Call) (j : ℕ) → strike (DropTrial ∷ h) (suc j) ≡ strike h (suc (suc j))
struck_dropped h j = refl

pub struck_kept : (h : List Call) (j : ℕ) → strike (KeepTrial ∷ h) (suc j) ≡ strike h (suc (suc j))
struck_kept h j = refl

-- any other call leaves what stood before the openings
pub struck_inside : (c : Call) (h : List Call) (j : ℕ) → bracket c ≡ inside → strike (c ∷ h) (suc j) ≡ strike h (suc j)
struck_inside c h j e = rw e

-- and stands itself
pub struck_stands : (c : Call) (h : List Call) → bracket c ≡ inside → strike (c ∷ h) 0 ≡ c ∷ strike h 0
struck_stands c h e = rw e

-- the granted calls, with one more call answered
abbrev pub and_then : Call → Answer (List Row) → List Call → List Call
and_then c (refused n) h = h
and_then c (granted rows) h = c ∷ h

onto_more : (done calls : List Call) (answers : Answers) (i : ℕ) → i < length calls → i < length answers →
    granted_onto done (take (suc i) calls) (take (suc i) answers)
    ≡ and_then (get_or calls i Draw) (get_or answers i (refused 0)) (granted_onto done (take i calls) (take i answers))
onto_more done [] answers i l k = absurd (omega arith)
onto_more done (c ∷ calls) [] i l k = absurd (omega arith)
onto_more done (c ∷ calls) (refused n ∷ answers) zero l k = refl
onto_more done (c ∷ calls) (granted rows ∷ answers) zero l k = refl
onto_more done (c ∷ calls) (refused n ∷ answers) (suc i) l k = onto_more done calls answers i (le_of_suc-le-suc l) (le_of_suc-le-suc k)
onto_more done (c ∷ calls) (granted rows ∷ answers) (suc i) l k = onto_more (c ∷ done) calls answers i (le_of_suc-le-suc l) (le_of_suc-le-suc k)

pub granted_more : (calls : List Call) (answers : Answers) (i : ℕ) → i < length calls → length answers ≡ length calls →
    granted_calls (take (i + 1) calls) (take (i + 1) answers)
    ≡ and_then (get_or calls i Draw) (get_or answers i (refused 0)) (granted_calls (take i calls) (take i answers))
granted_more calls answers i l e = rw add-one (onto_more [] calls answers i l (omega arith))
