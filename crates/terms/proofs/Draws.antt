-- What a draw's law comes down to: the plain month, a selection that keeps the five rules, and the pairs. Assumes nothing.
use Rattle.std.proofs.Common.{List, subst}
use Rattle.terms.specs.Month.{Month}
use Rattle.terms.specs.Selection.{FiveRules, told}
use Rattle.terms.specs.Pairs.{Paired}
use Rattle.terms.specs.Law.{DrawLaw}
use Rattle.terms.specs.Plain.{Setup, Leaves}
use Rattle.terms.specs.declared.calls.Call.{Call}
use Rattle.terms.specs.declared.rows.Row.{Row}
use Rattle.terms.proofs.Alone.{selection_alone}
use Rattle.terms.proofs.Months.{month_alone}

pub draw_law : (s : Setup) (before : List Call) (rows : List Row) (m : Month) →
    Leaves s before m → FiveRules s.share m (told rows) → Paired m (told rows) rows → DrawLaw s before rows
draw_law s before rows m l k p = record {
  month = m;
  left = l;
  alone = λ other o. month_alone s before other m o l;
  selected = λ offered. (λ e. subst (FiveRules s.share m) e k, λ o. selection_alone s.share m (told rows) offered k o);
  paired = p;
}
