-- What stands along a run: the plain month now, and behind it the one before each open trial, the innermost first. Assumes nothing.
use Rattle.std.proofs.Common.{◌≡◌, ℕ, suc, List, [], ◌∷◌, sym, subst}
use Rattle.terms.specs.Month.{Month}
use Rattle.terms.specs.Plain.{Setup, Leaves, opened, trial_opened, trial_kept}
use Rattle.terms.specs.Selection.{FiveRules, told}
use Rattle.terms.specs.Pairs.{Paired}
use Rattle.terms.specs.Struck.{inside, bracket, strike}
use Rattle.terms.specs.Law.{DrawLaw}
use Rattle.terms.specs.declared.calls.Call.{Call}
use Rattle.terms.specs.declared.calls.Call.TheVariants.{OpenTrial, KeepTrial, DropTrial}
use Rattle.terms.specs.declared.rows.Row.{Row}
use Rattle.terms.proofs.Trials.{struck_inside, struck_stands}
use Rattle.terms.proofs.Draws.{draw_law}

-- with h the granted calls, the latest first: the months are left by strike h j, strike h (suc j), ..
abbrev pub Standing : Setup → List Call → ℕ → List Month → Type 0
Standing s h j [] = Unit {0}
Standing s h j (m ∷ ms) = Leaves s (strike h j) m × Standing s h (suc j) ms

pub stands_opened : (s : Setup) → Standing s [] 0 (s.start ∷ [])
stands_opened s = (opened, tt)

-- an opened trial keeps the month as it is now
open_shift : (s : Setup) (h : List Call) (j : ℕ) (ms : List Month) → Standing s h j ms → Standing s (OpenTrial ∷ h) (suc j) ms
open_shift s h j [] p = tt
open_shift s h j (m ∷ ms) p = (p.0, open_shift s h (suc j) ms p.1)

pub stands_open : (s : Setup) (h : List Call) (m : Month) (ms : List Month) → Standing s h 0 (m ∷ ms) → Standing s (OpenTrial ∷ h) 0 (m ∷ m ∷ ms)
stands_open s h m ms p = (trial_opened p.0, open_shift s h 0 (m ∷ ms) p)

-- a kept trial forgets the month before it
keep_shift : (s : Setup) (h : List Call) (j : ℕ) (ms : List Month) → Standing s h (suc (suc j)) ms → Standing s (KeepTrial ∷ h) (suc j) ms
keep_shift s h j [] p = tt
keep_shift s h j (m ∷ ms) p = (p.0, keep_shift s h (suc j) ms p.1)

pub stands_keep : (s : Setup) (h : List Call) (m before : Month) (ms : List Month) → Standing s h 0 (m ∷ before ∷ ms) → Standing s (KeepTrial ∷ h) 0 (m ∷ ms)
stands_keep s h m before ms p = (trial_kept p.0, keep_shift s h 0 ms p.1.1)

-- a dropped trial puts back the month before it
drop_shift : (s : Setup) (h : List Call) (j : ℕ) (ms : List Month) → Standing s h (suc (suc j)) ms → Standing s (DropTrial ∷ h) (suc j) ms
drop_shift s h j [] p = tt
drop_shift s h j (m ∷ ms) p = (p.0, drop_shift s h (suc j) ms p.1)

pub stands_drop : (s : Setup) (h : List Call) (m before : Month) (ms : List Month) → Standing s h 0 (m ∷ before ∷ ms) → Standing s (DropTrial ∷ h) 0 (before ∷ ms)
stands_drop s h m before ms p = (p.1.0, drop_shift s h 0 ms p.1.1)

-- any other call changes the month now
inside_shift : (s : Setup) (c : Call) (h : List Call) (j : ℕ) (ms : List Month) → bracket c ≡ inside → Standing s h (suc j) ms → Standing s (c ∷ h) (suc j) ms
inside_shift s c h j [] e p = tt
inside_shift s c h j (m ∷ ms) e p = (subst (λ cs. Leaves s cs m) (sym (struck_inside c h j e)) p.0, inside_shift s c h (suc j) ms e p.1)

pub stands_call : (s : Setup) (c : Call) (h : List Call) (m after : Month) (ms : List Month) → bracket c ≡ inside →
    (Leaves s (strike h 0) m → Leaves s (c ∷ strike h 0) after) → Standing s h 0 (m ∷ ms) → Standing s (c ∷ h) 0 (after ∷ ms)
stands_call s c h m after ms e step p =
    (subst (λ cs. Leaves s cs after) (sym (struck_stands c h e)) (step p.0), inside_shift s c h 0 ms e p.1)

-- a draw's law, from what stands before it
pub stands_draw : (s : Setup) (h : List Call) (m : Month) (ms : List Month) (rows : List Row) → Standing s h 0 (m ∷ ms) →
    FiveRules s.share m (told rows) → Paired m (told rows) rows → DrawLaw s (strike h 0) rows
stands_draw s h m ms rows p k q = draw_law s (strike h 0) rows m p.0 k q
