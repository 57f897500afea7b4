-- One plain month is left by a list of calls. Assumes nothing.
use Rattle.std.proofs.Common.{◌≡◌, ℕ, Bool, List, refl, ap, ◌∙◌, subst, arith}
use Rattle.terms.specs.Month.{Month, nothing, to_buy, to_sell}
use Rattle.terms.specs.Selection.{Selection, FiveRules}
use Rattle.terms.specs.Calendar.{NextBusinessDay}
use Rattle.terms.specs.Plain.{Setup, Leaves, opened, traded, declared_purchase, declared_sale, withdrawn, next_day, drawn, trial_opened, trial_kept, trial_dropped, previewed, resulted, trade, declare, start_day, draw}
use Rattle.terms.specs.Facts.{MonthAlone}
use Rattle.terms.specs.declared.calls.Call.{Call}
use Rattle.terms.proofs.Alone.{selection_alone}

-- a day has one next business day
pub next_alone : (business : ℕ → Bool) (day d e : ℕ) → NextBusinessDay business day d → NextBusinessDay business day e → d ≡ e
next_alone business day d e p q = grind (arith, q.none_between d p.later, p.none_between e q.later, p.works, q.works)

module _ (u : Setup) where
  begun : (m n : Month) (d e : ℕ) → m ≡ n → NextBusinessDay u.business m.today d → NextBusinessDay u.business n.today e → start_day d m ≡ start_day e n
  begun m n d e s p q =
      let same : d ≡ e = next_alone u.business n.today d e (subst (λ (x : Month). NextBusinessDay u.business x.today d) s p) q in
      ap (λ x. start_day x m) same ∙ ap (start_day e) s

  redrawn : (m n : Month) (s t : Selection) → m ≡ n → FiveRules u.share m s → FiveRules u.share n t → draw s m ≡ draw t n
  redrawn m n s t e p q =
      let same : s ≡ t = selection_alone u.share n s t (subst (λ (x : Month). FiveRules u.share x s) e p) q in
      ap (λ x. draw x m) same ∙ ap (draw t) e

  alone : {calls : List Call} {m n : Month} → Leaves u calls m → Leaves u calls n → m ≡ n
  alone opened opened = refl
  alone (traded {buyer = b} {seller = s} {n = k} p) (traded q) = ap (trade b s k) (alone p q)
  alone (declared_purchase {a = a} {n = k} p) (declared_purchase q) = ap (declare a (to_buy k)) (alone p q)
  alone (declared_sale {a = a} {bonds = bs} p) (declared_sale q) = ap (declare a (to_sell bs)) (alone p q)
  alone (withdrawn {a = a} p) (withdrawn q) = ap (declare a nothing) (alone p q)
  alone (next_day {m = m} {day = d} p x) (next_day {m = n} {day = e} q y) = begun m n d e (alone p q) x y
  alone (drawn {m = m} {sel = s} p x) (drawn {m = n} {sel = t} q y) = redrawn m n s t (alone p q) x y
  alone (trial_opened p) (trial_opened q) = alone p q
  alone (trial_kept p) (trial_kept q) = alone p q
  alone (trial_dropped p) (trial_dropped q) = alone p q
  alone (previewed p) (previewed q) = alone p q
  alone (resulted p) (resulted q) = alone p q

pub month_alone : MonthAlone
month_alone u calls m n p q = alone u p q

-- two months whose parts are equal
pub month_path : (m n : Month) → m.accounts ≡ n.accounts → m.last ≡ n.last → m.today ≡ n.today →
    ((a : ℕ) → m.positions a ≡ n.positions a) → ((a : ℕ) → m.declarations a ≡ n.declarations a) → m ≡ n
month_path m n p q r f g = λ i. record { accounts = p i; last = q i; today = r i; positions = λ a. f a i; declarations = λ a. g a i }
