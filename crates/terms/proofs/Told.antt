-- The rows of a selection tell that selection. Assumes nothing.
use Rattle.std.proofs.Common.{◌≡◌, ℕ, ◌+◌, ◌-◌, ◌<◌, ◌≤◌, min, Bool, true, cond, ◌&&◌, eqb, ◌⊎◌, List, [], ◌∷◌, ◌++◌, sum_by, sym, refl, ◌∙◌, subst, inl, inr, append-nil, arith}
use mathlib.Core.Path.{fun_ext}
use Rattle.std.specs.List.{flat_map}
use Rattle.std.proofs.lemmas.List.Sums.{sum_by-append}
use Rattle.std.proofs.lemmas.Bool.{cases_lt, cond_both}
use Rattle.std.proofs.lemmas.Bool.Decides.{nat_tests}
use Rattle.terms.specs.Month.{Month, has, final, lots_there, purchase_days}
use Rattle.terms.specs.OddLots.{OddLotRule, KeepsMeaning}
use Rattle.terms.specs.Selection.{Selection, FiveRules, letter, told_by, told, taken_from}
use Rattle.terms.specs.Pairs.{unbought}
use Rattle.terms.specs.Lines.{Part}
use Rattle.terms.specs.Rounds.{chosen, other_class, lots_row, group_rows, selection_rows, Piece, leg_row, piece_legs, legs, behind, delivery_pieces, failure_pieces, buyers, delivery_legs, failure_legs, leg_rows, closing_rows, round_rows}
use Rattle.terms.specs.Facts.{Rising, Sound, RoundSelects}
use Rattle.terms.specs.declared.rows.Class.{Class}
use Rattle.terms.specs.declared.rows.Class.TheVariants.{Declared, Undeclared, Virtual}
use Rattle.terms.specs.declared.rows.Row.{Row}
use Rattle.terms.proofs.Sums.{sum_listed}
use Rattle.terms.proofs.Rising.{days_rising, sum_no_term, sum_one_term}
use Rattle.terms.proofs.Alone.{there_known, there_day, letter_same, class_cases}
use Rattle.terms.proofs.Exists.{within, chosen_keeps}

-- rows listed one behind the other
told_append : (xs ys : List Row) (a d : ℕ) (c : Class) → told (xs ++ ys) a d c ≡ told xs a d c + told ys a d c
told_append xs ys a d c = sum_by-append (λ (r : Row). told_by r a d c) xs ys

told_listed : (f : ℕ → List Row) (xs : List ℕ) (a d : ℕ) (c : Class) → told (flat_map f xs) a d c ≡ sum_by (λ x. told (f x) a d c) xs
told_listed f xs a d c = sum_listed (λ (r : Row). told_by r a d c) f xs

-- the row of some lots
abbrev here : ℕ → ℕ → Class → ℕ → ℕ → Class → Bool
here a' d' c' a d c = eqb a' a && eqb d' d && eqb (letter c') (letter c)

told_row : (c' : Class) (a' d' n a d : ℕ) (c : Class) → told (lots_row c' a' d' n) a d c ≡ cond (here a' d' c' a d c) n 0
told_row c' a' d' n a d c = grind (arith, nat_tests)

-- the rows of one class, by day and account
abbrev class_rows : Selection → Class → List ℕ → List ℕ → List Row
class_rows sel c accounts days = flat_map (group_rows sel c accounts) days

module _ (sel : Selection) (accounts days : List ℕ) (ra : Rising accounts) (rd : Rising days) (a d : ℕ) where
  group_sum : (c' : Class) (d' : ℕ) (c : Class) →
      told (group_rows sel c' accounts d') a d c ≡ sum_by (λ x. told (lots_row c' x d' (sel x d' c')) a d c) accounts
  group_sum c' d' c = told_listed (λ x. lots_row c' x d' (sel x d' c')) accounts a d c

  class_sum : (c' c : Class) → told (class_rows sel c' accounts days) a d c ≡ sum_by (λ y. told (group_rows sel c' accounts y) a d c) days
  class_sum c' c = told_listed (group_rows sel c' accounts) days a d c

  -- where no row gives lots, the rows tell none
  class_none : (c' c : Class) → ((x y : ℕ) → told (lots_row c' x y (sel x y c')) a d c ≡ 0) → told (class_rows sel c' accounts days) a d c ≡ 0
  class_none c' c h =
      class_sum c' c
      ∙ sum_no_term (λ y. told (group_rows sel c' accounts y) a d c) days
      (λ y j. group_sum c' y c ∙ sum_no_term (λ x. told (lots_row c' x y (sel x y c')) a d c) accounts (λ x i. h x y))

  class_apart : (c' c : Class) → (c' ≡ c → ⊥) → told (class_rows sel c' accounts days) a d c ≡ 0
  class_apart c' c ne = class_none c' c (λ x y. grind (arith, nat_tests, ne, letter_same c' c, told_row c' x y (sel x y c') a d c))

  row_other_day : (c : Class) (x y : ℕ) → (y ≡ d → ⊥) → told (lots_row c x y (sel x y c)) a d c ≡ 0
  row_other_day c x y ne = grind (arith, nat_tests, ne, told_row c x y (sel x y c) a d c)

  row_other_account : (c : Class) (x y : ℕ) → (x ≡ a → ⊥) → told (lots_row c x y (sel x y c)) a d c ≡ 0
  row_other_account c x y ne = grind (arith, nat_tests, ne, told_row c x y (sel x y c) a d c)

  other_day : (c : Class) (y : ℕ) → (y ≡ d → ⊥) → told (group_rows sel c accounts y) a d c ≡ 0
  other_day c y ne =
      group_sum c y c ∙ sum_no_term (λ x. told (lots_row c x y (sel x y c)) a d c) accounts (λ x i. row_other_day c x y ne)

  own_row : (c : Class) → told (lots_row c a d (sel a d c)) a d c ≡ sel a d c
  own_row c = grind (arith, nat_tests, told_row c a d (sel a d c) a d c)

  -- rows of its own class tell its lots
  class_own : (c : Class) → (0 < sel a d c → (has a accounts ≡ true) × (has d days ≡ true)) → told (class_rows sel c accounts days) a d c ≡ sel a d c
  class_own c h =
      elim (cases_lt 0 (sel a d c)) [
        | inl l ↦
            class_sum c c
            ∙ sum_one_term (λ y. told (group_rows sel c accounts y) a d c) d days rd (h l).1 (other_day c)
            ∙ group_sum c d c
            ∙ sum_one_term (λ x. told (lots_row c x d (sel x d c)) a d c) a accounts ra (h l).0 (λ x. row_other_account c x d)
            ∙ own_row c
        | inr z ↦ class_none c c (λ x y. grind (arith, nat_tests, told_row c x y (sel x y c) a d c)) ∙ omega arith
      ]

  -- the rows of two classes tell the lots of both
  two_classes : (o c : Class) → (0 < sel a d c → (has a accounts ≡ true) × (has d days ≡ true)) →
      (Declared ≡ o → ⊥) → (0 < sel a d c → (Declared ≡ c) ⊎ (o ≡ c)) →
      told (class_rows sel Declared accounts days ++ class_rows sel o accounts days) a d c ≡ sel a d c
  two_classes o c h ne k =
      let both = told_append (class_rows sel Declared accounts days) (class_rows sel o accounts days) a d c in
      elim (class_cases Declared c) [
        | inl q ↦ grind (arith, both, class_apart o c (λ e. ne (q ∙ sym e)), class_own c h)
        | inr n ↦ elim (class_cases o c) [
          | inl q ↦ grind (arith, both, class_apart Declared c n, class_own c h)
          | inr s ↦ grind (arith, both, n, s, k, class_apart Declared c n, class_apart o c s)
        ]
      ]

-- a class with lots is one of the two whose rows are written
there_class : (m : Month) (a d : ℕ) (c : Class) → 0 < lots_there m a d c → (Declared ≡ c) ⊎ (other_class m ≡ c)
there_class m a d Declared l = inl refl
there_class m a d Undeclared l = grind arith
there_class m a d Virtual l = grind arith

other_apart : (m : Month) → Declared ≡ other_class m → ⊥
other_apart m = cond_both (final m) Virtual Undeclared (λ o. Declared ≡ o → ⊥) (λ f e. cc) (λ f e. cc)

-- rows of a selection tell it, before rows that tell nothing
pub told_selection : (m : Month) (sel : Selection) → Rising m.accounts → ((a d : ℕ) (c : Class) → sel a d c ≤ lots_there m a d c) →
    (rest : List Row) → ((a d : ℕ) (c : Class) → told rest a d c ≡ 0) → told (selection_rows m sel ++ rest) ≡ sel
told_selection m sel r w rest z =
    fun_ext (λ a. fun_ext (λ d. fun_ext (λ c.
    omega (
      arith,
      told_append (selection_rows m sel) rest a d c,
      z a d c,
      two_classes sel m.accounts (purchase_days m) r (days_rising m.positions m.accounts) a d (other_class m) c
          (λ l. let k : 0 < lots_there m a d c = omega (arith, w a d c) in (there_known m a d c k, there_day m a d c k))
          (other_apart m)
          (λ l. there_class m a d c (omega (arith, w a d c))),
    ))))

-- legs tell nothing
told_leg : (p : Piece) (b n a d : ℕ) (c : Class) → told (leg_row p b n) a d c ≡ 0
told_leg p b n a d c = grind arith

told_piece : (p : Piece) (n : ℕ) (bs : List Part) (a d : ℕ) (c : Class) → told (piece_legs p n bs) a d c ≡ 0
told_piece p n [] a d c = refl
told_piece p n (b ∷ bs) a d c =
    omega (
      arith,
      told_append (leg_row p b.account (min n b.lots)) (piece_legs p (n - b.lots) bs) a d c,
      told_leg p b.account (min n b.lots) a d c,
      told_piece p (n - b.lots) bs a d c,
    )

told_line : (ps : List Piece) (bs : List Part) (a d : ℕ) (c : Class) → told (legs ps bs) a d c ≡ 0
told_line [] bs a d c = refl
told_line (p ∷ ps) bs a d c =
    omega (
      arith,
      told_append (piece_legs p p.lots bs) (legs ps (behind p.lots bs)) a d c,
      told_piece p p.lots bs a d c,
      told_line ps (behind p.lots bs) a d c,
    )

pub told_legs : (m : Month) (sel : Selection) (a d : ℕ) (c : Class) → told (leg_rows m sel) a d c ≡ 0
told_legs m sel a d c =
    omega (
      arith,
      told_append (delivery_legs m sel) (failure_legs m sel) a d c,
      told_line (delivery_pieces m) (buyers (taken_from m sel) m.accounts) a d c,
      told_line (failure_pieces m) (buyers (unbought m sel) m.accounts) a d c,
    )

-- what a round's rows tell is chosen, and keeps the five rules
pub told_round : (share : OddLotRule) (m : Month) → KeepsMeaning share → Sound m → told (round_rows share m) ≡ chosen share m
told_round share m keeps sound =
    told_selection m (chosen share m) sound.rising (within share m keeps sound) (leg_rows m (chosen share m)) (told_legs m (chosen share m))

pub round_selects : RoundSelects
round_selects share m keeps sound = subst (FiveRules share m) (sym (told_round share m keeps sound)) (chosen_keeps share m keeps sound)

-- what the closing rows tell are all lots
pub told_closing : (m : Month) → Sound m → told (closing_rows m) ≡ lots_there m
told_closing m sound =
    subst (λ rows. told rows ≡ lots_there m) (append-nil (closing_rows m))
    (told_selection m (lots_there m) sound.rising (λ a d c. omega arith) [] (λ a d c. refl))
