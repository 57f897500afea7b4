-- The worked month: both draws of its run. Assumes nothing.
use Rattle.std.proofs.Common.{◌≡◌, ℕ, ◌<◌, Bool, true, false, ◌||◌, eqb, ◌⊎◌, get_or, take, sym, refl, ap, subst, inl, inr, arith, lit<, rules, ◌∙◌}
use Rattle.std.proofs.lemmas.Bool.{or_cases, eqb-true, agree_below_at}
use Rattle.terms.specs.Calendar.{weekdays, NextBusinessDay}
use Rattle.terms.specs.OddLots.{running}
use Rattle.terms.specs.Selection.{FiveRules, told}
use Rattle.terms.specs.Pairs.{Paired}
use Rattle.terms.specs.Answers.{refused, granted}
use Rattle.terms.specs.Struck.{struck}
use Rattle.terms.specs.Law.{DrawLaw}
use Rattle.terms.specs.Plain.{Leaves, opened, traded, declared_purchase, declared_sale, withdrawn, next_day, drawn, trial_opened, trial_kept, previewed, resulted}
use Rattle.terms.specs.Examples.{setup_m, declared_m, rows_m, second_m, second_rows_m, calls_m, answers_m, LawM}
use Rattle.terms.specs.declared.calls.Call.{Call}
use Rattle.terms.specs.declared.calls.Call.TheVariants.{Trade, DeclarePurchase, DeclareSale, Withdraw, OpenTrial, KeepTrial, DropTrial, Preview, Draw, LegResult, NextDay}
use Rattle.terms.proofs.Check.{five_rules}
use Rattle.terms.proofs.Draws.{draw_law}

pub first_keeps : FiveRules running declared_m (told rows_m)
first_keeps = five_rules running declared_m rows_m refl refl refl refl refl refl

second_keeps : FiveRules running second_m (told second_rows_m)
second_keeps = five_rules running second_m second_rows_m refl refl refl refl refl refl

first_pairs : Paired declared_m (told rows_m) rows_m
first_pairs = search rules

second_pairs : Paired second_m (told second_rows_m) second_rows_m
second_pairs = search rules

first_left : Leaves setup_m (struck (take 6 calls_m) (take 6 answers_m)) declared_m
first_left = declared_sale (declared_purchase opened)

friday : NextBusinessDay weekdays 20090 20091
friday = record { later = lit< tt; works = refl; none_between = λ d l k. absurd (omega arith) }

second_left : Leaves setup_m (struck (take 20 calls_m) (take 20 answers_m)) second_m
second_left =
    declared_sale (declared_purchase (withdrawn (declared_purchase (trial_kept (traded (trial_opened
    (resulted (resulted (resulted (resulted (previewed (next_day (drawn first_left first_keeps) friday))))))))))))

first_law : DrawLaw setup_m (struck (take 6 calls_m) (take 6 answers_m)) rows_m
first_law = draw_law setup_m (struck (take 6 calls_m) (take 6 answers_m)) rows_m declared_m first_left first_keeps first_pairs

second_law : DrawLaw setup_m (struck (take 20 calls_m) (take 20 answers_m)) second_rows_m
second_law = draw_law setup_m (struck (take 20 calls_m) (take 20 answers_m)) second_rows_m second_m second_left second_keeps second_pairs

abbrev is_draw : Call → Bool
is_draw (Trade b s n) = false
is_draw (DeclarePurchase t a n) = false
is_draw (DeclareSale t a n bonds) = false
is_draw (Withdraw t a) = false
is_draw OpenTrial = false
is_draw KeepTrial = false
is_draw DropTrial = false
is_draw (Preview d) = false
is_draw Draw = true
is_draw (LegResult l k n) = false
is_draw NextDay = false

places : (k : ℕ) → k < 21 → get_or calls_m k Draw ≡ Draw → (k ≡ 6) ⊎ (k ≡ 20)
places k l e =
    let here = agree_below_at (λ x. is_draw (get_or calls_m x Draw)) (λ x. eqb x 6 || eqb x 20) 21 k refl l in
    elim (or_cases (eqb k 6) (eqb k 20) (sym here ∙ ap is_draw e)) [ inl q ↦ inl (eqb-true k 6 q) | inr q ↦ inr (eqb-true k 20 q) ]

pub law_m : LawM
law_m = record {
  answered = refl;
  draws = λ k rows l c a. elim (places k l c) [
    | inl e ↦
        let g : granted rows_m ≡ granted rows = subst (λ x. get_or answers_m x (refused 0) ≡ granted rows) e a in
        let r : rows_m ≡ rows = cc g in
        subst (λ x. DrawLaw setup_m (struck (take x calls_m) (take x answers_m)) rows) (sym e)
        (subst (λ x. DrawLaw setup_m (struck (take 6 calls_m) (take 6 answers_m)) x) r first_law)
    | inr e ↦
        let g : granted second_rows_m ≡ granted rows = subst (λ x. get_or answers_m x (refused 0) ≡ granted rows) e a in
        let r : second_rows_m ≡ rows = cc g in
        subst (λ x. DrawLaw setup_m (struck (take x calls_m) (take x answers_m)) rows) (sym e)
        (subst (λ x. DrawLaw setup_m (struck (take 20 calls_m) (take 20 answers_m)) x) r second_law)
  ];
}
