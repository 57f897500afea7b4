-- A selection that keeps the five rules exists over every sound month. Assumes nothing.
use Rattle.std.proofs.Common.{◌≡◌, ℕ, ◌+◌, ◌*◌, ◌/◌, ◌<◌, ◌≤◌, true, cond, eqb, ltb, List, [], ◌∷◌, map, length, get_or, sum_by, sum, sym, ap, ◌∙◌, inl, inr, mul-div_cancel, arith}
use lib.ListN.{length-map}
use Rattle.std.specs.List.{AllByRecursion}
use Rattle.std.proofs.ByRecursion.{All-map}
use Rattle.std.proofs.lemmas.List.Sums.{sum-map, sum_by-le-sum_by}
use Rattle.std.proofs.lemmas.Bool.{cases_lt, ltb-true, ltb-false, lt-ltb, cond-true}
use Rattle.terms.specs.Lots.{Dated, lots_in, lots_of_day}
use Rattle.terms.specs.Month.{Month, has, held, lots_there, holders, purchase_days, effective_sale}
use Rattle.terms.specs.OddLots.{OddLotRule, KeepsMeaning, Shareable, Shares}
use Rattle.terms.specs.Selection.{FiveRules, taken_on, taken_from, taken_there}
use Rattle.terms.specs.Rounds.{asked, group_size, class_size, to_deliver, wanted, amount, chosen}
use Rattle.terms.specs.Facts.{Sound, SelectionExists}
use Rattle.terms.specs.declared.rows.Class.{Class}
use Rattle.terms.specs.declared.rows.Class.TheVariants.{Declared, Undeclared, Virtual}
use Rattle.terms.proofs.Sums.{has_here, has_there, has_length, sum_add, sum_same, sum_swap, sum_kept, has_kept, sum_empty}
use Rattle.terms.proofs.Rising.{sum_same_in, has_term, kept_has, kept_rising, kept_length, days_rising, days_within, lots_by_day}
use Rattle.terms.proofs.Alone.{there_le_held, there_known, there_day}
use Rattle.terms.proofs.Fill.{fill_full, fill_all, fill_sum, part_le, part_ge, parts_map, ceil_le, sum_positive}

all_from_has : (P : ℕ → Type 0) (xs : List ℕ) → ((x : ℕ) → has x xs ≡ true → P x) → AllByRecursion P xs
all_from_has P [] h = tt
all_from_has P (x ∷ xs) h = (h x (has_here x xs), all_from_has P xs (λ y i. h y (has_there y x xs i)))

pub day_le : (d : ℕ) (ls : List Dated) → lots_of_day d ls ≤ lots_in ls
day_le d ls =
    sum_by-le-sum_by (λ (k : Dated). cond (eqb k.day d) k.lots 0) (λ (k : Dated). k.lots) ls (λ k. grind arith)

-- the classes share out the held lots
pub classes_held : (m : Month) (a d : ℕ) → lots_there m a d Declared + lots_there m a d Undeclared + lots_there m a d Virtual ≡ held m a d
classes_held m a d = grind arith

size_all : (m : Month) (c : Class) (d : ℕ) → group_size m c d ≡ sum_by (λ a. lots_there m a d c) m.accounts
size_all m c d = sum_kept (λ a. lots_there m a d c) (λ a. ltb 0 (lots_there m a d c)) m.accounts (λ a e. omega (arith, ltb-false 0 (lots_there m a d c) e))

sizes_held : (m : Month) (d : ℕ) → group_size m Declared d + group_size m Undeclared d + group_size m Virtual d ≡ sum_by (λ a. held m a d) m.accounts
sizes_held m d =
    omega (
      arith,
      size_all m Declared d,
      size_all m Undeclared d,
      size_all m Virtual d,
      sum_add (λ a. lots_there m a d Declared) (λ a. lots_there m a d Undeclared) m.accounts,
      sum_add (λ a. lots_there m a d Declared + lots_there m a d Undeclared) (λ a. lots_there m a d Virtual) m.accounts,
      sum_same (λ a. lots_there m a d Declared + lots_there m a d Undeclared + lots_there m a d Virtual) (λ a. held m a d) m.accounts (λ a. classes_held m a d),
    )

pub held_all : (m : Month) (a : ℕ) → has a m.accounts ≡ true → sum_by (λ d. held m a d) (purchase_days m) ≡ lots_in (m.positions a).long
held_all m a i =
    sum_same (λ d. held m a d) (λ d. lots_of_day d (m.positions a).long) (purchase_days m)
    (λ d. cond-true (has a m.accounts) (lots_of_day d (m.positions a).long) 0 i)
    ∙ lots_by_day (m.positions a).long (purchase_days m) (days_rising m.positions m.accounts) (days_within m.positions m.accounts a i)

-- all lots of the three classes are the long lots
classes_all : (m : Month) → class_size m Declared + class_size m Undeclared + class_size m Virtual ≡ sum_by (λ a. lots_in (m.positions a).long) m.accounts
unfolding class_size
classes_all m =
    ap (λ x. x + sum_by (group_size m Virtual) (purchase_days m)) (sym (sum_add (group_size m Declared) (group_size m Undeclared) (purchase_days m)))
    ∙ sym (sum_add (λ d. group_size m Declared d + group_size m Undeclared d) (group_size m Virtual) (purchase_days m))
    ∙ sum_same (λ d. group_size m Declared d + group_size m Undeclared d + group_size m Virtual d) (λ d. sum_by (λ a. held m a d) m.accounts) (purchase_days m) (sizes_held m)
    ∙ sym (sum_swap (held m) m.accounts (purchase_days m))
    ∙ sum_same_in (λ a. sum_by (held m a) (purchase_days m)) (λ a. lots_in (m.positions a).long) m.accounts (held_all m)

enough : (m : Month) → Sound m → to_deliver m ≤ class_size m Declared + class_size m Undeclared + class_size m Virtual
unfolding to_deliver
enough m s =
    omega (
      arith,
      classes_all m,
      s.balanced,
      sum_by-le-sum_by (effective_sale m) (λ a. (m.positions a).short) m.accounts (λ a. omega arith),
    )

module _ (share : OddLotRule) (m : Month) (keeps : KeepsMeaning share) (sound : Sound m) where
  shareable : (c : Class) (d : ℕ) → 0 < length (holders m c d) → Shareable (asked m c d) (amount m c d)
  shareable c d l = record {
    some = omega (arith, length-map (holders m c d) (λ a. lots_there m a d c));
    few = omega (arith, length-map (holders m c d) (λ a. lots_there m a d c), kept_length (λ a. ltb 0 (lots_there m a d c)) m.accounts, sound.few);
    sizes = All-map (λ q. (1 ≤ q) × (q ≤ 100000)) (λ a. lots_there m a d c) (holders m c d)
        (all_from_has (λ a. (1 ≤ lots_there m a d c) × (lots_there m a d c ≤ 100000)) (holders m c d)
        (λ a i. (ltb-true 0 (lots_there m a d c) (kept_has (λ x. ltb 0 (lots_there m x d c)) m.accounts a i).1, at_most_limit a d c)));
    enough = omega (arith, sum-map (λ a. lots_there m a d c) (holders m c d));
  }
    where
      at_most_limit : (a d : ℕ) (c : Class) → lots_there m a d c ≤ 100000
      at_most_limit a d c = grind (arith, there_le_held m a d c, sound.limit a, day_le d (m.positions a).long)

  shares : (c : Class) (d : ℕ) → 0 < length (holders m c d) → Shares (asked m c d) (amount m c d) (share (asked m c d) (amount m c d))
  shares c d l = keeps (asked m c d) (amount m c d) (shareable c d l)

  as_long : (c : Class) (d : ℕ) → 0 < length (holders m c d) → length (share (asked m c d) (amount m c d)) ≡ length (holders m c d)
  as_long c d l = (shares c d l).as_many ∙ length-map (holders m c d) (λ a. lots_there m a d c)

  pub within : (a d : ℕ) (c : Class) → chosen share m a d c ≤ lots_there m a d c
  within a d c =
      part_le (λ x. lots_there m x d c) (holders m c d) (share (asked m c d) (amount m c d))
      (λ i l.
      let some : 0 < length (holders m c d) = omega arith in
      let s = shareable c d some in
      omega (
        arith,
        (shares c d some).at_most i (omega (arith, length-map (holders m c d) (λ x. lots_there m x d c))),
        ceil_le (get_or (asked m c d) i 0) (amount m c d) (sum (asked m c d)) (sum_positive (asked m c d) s.sizes s.some) s.enough,
      ))
      a

  mapped : (c : Class) (d : ℕ) → 0 < length (holders m c d) → map (λ a. chosen share m a d c) (holders m c d) ≡ share (asked m c d) (amount m c d)
  mapped c d l =
      parts_map (holders m c d) (share (asked m c d) (amount m c d)) (kept_rising (λ a. ltb 0 (lots_there m a d c)) m.accounts sound.rising) (as_long c d l)

  pub taken_amount : (c : Class) (d : ℕ) → taken_there m (chosen share m) c d ≡ amount m c d
  taken_amount c d =
      elim (cases_lt 0 (length (holders m c d))) [
        | inl l ↦ sym (sum-map (λ a. chosen share m a d c) (holders m c d)) ∙ ap sum (mapped c d l) ∙ (shares c d l).total
        | inr z ↦ omega (arith, sum_empty (λ a. chosen share m a d c) (holders m c d) z, sum_empty (λ a. lots_there m a d c) (holders m c d) z)
      ]

  is_holder : (a d : ℕ) (c : Class) → 0 < lots_there m a d c → has a (holders m c d) ≡ true
  is_holder a d c l = has_kept (λ x. ltb 0 (lots_there m x d c)) m.accounts a (there_known m a d c l) (lt-ltb 0 (lots_there m a d c) l)

  pub chosen_le : (a d : ℕ) (c : Class) → chosen share m a d c ≤ amount m c d
  chosen_le a d c =
      grind (arith, within a d c, taken_amount c d, is_holder a d c, has_term (λ x. chosen share m x d c) (holders m c d) a)

  -- where a class and day is full, all its lots are chosen
  pub full : (a d : ℕ) (c : Class) → (0 < lots_there m a d c → group_size m c d ≤ amount m c d) → lots_there m a d c ≤ chosen share m a d c
  full a d c h =
      elim (cases_lt 0 (lots_there m a d c)) [
        | inr z ↦ omega arith
        | inl l ↦
            let i = is_holder a d c l in
            let some : 0 < length (holders m c d) = has_length a (holders m c d) i in
            let s = shareable c d some in
            let t = sum_positive (asked m c d) s.sizes s.some in
            let e : amount m c d ≡ sum (asked m c d) = omega (arith, h l, sum-map (λ x. lots_there m x d c) (holders m c d)) in
            part_ge (λ x. lots_there m x d c) (holders m c d) (share (asked m c d) (amount m c d)) (as_long c d some)
            (λ k b.
            let q = get_or (asked m c d) k 0 in
            let g = (shares c d some).at_least k (omega (arith, length-map (holders m c d) (λ x. lots_there m x d c))) in
            let f : (q * amount m c d) / sum (asked m c d) ≡ q = ap (λ n. (q * n) / sum (asked m c d)) e ∙ mul-div_cancel q t in
            omega (arith, g, f)) a i
      ]

  group_amount : (c : Class) (d : ℕ) → sum_by (λ a. chosen share m a d c) m.accounts ≡ amount m c d
  group_amount c d =
      sym (sum_kept (λ a. chosen share m a d c) (λ a. ltb 0 (lots_there m a d c)) m.accounts
      (λ a e. omega (arith, within a d c, ltb-false 0 (lots_there m a d c) e)))
      ∙ taken_amount c d

  day_amounts : (d : ℕ) → sum_by (λ a. taken_on (chosen share m) a d) m.accounts ≡ amount m Declared d + amount m Undeclared d + amount m Virtual d
  day_amounts d =
      omega (
        arith,
        sum_add (λ a. chosen share m a d Declared + chosen share m a d Undeclared) (λ a. chosen share m a d Virtual) m.accounts,
        sum_add (λ a. chosen share m a d Declared) (λ a. chosen share m a d Undeclared) m.accounts,
        group_amount Declared d,
        group_amount Undeclared d,
        group_amount Virtual d,
      )

  days_amounts : sum_by (λ d. amount m Declared d + amount m Undeclared d + amount m Virtual d) (purchase_days m) ≡ to_deliver m
  unfolding class_size
  days_amounts =
      let rising = days_rising m.positions m.accounts in
      omega (
        arith,
        enough m sound,
        sum_add (λ d. amount m Declared d + amount m Undeclared d) (amount m Virtual) (purchase_days m),
        sum_add (amount m Declared) (amount m Undeclared) (purchase_days m),
        fill_sum (group_size m Declared) (wanted m Declared) (purchase_days m) rising,
        fill_sum (group_size m Undeclared) (wanted m Undeclared) (purchase_days m) rising,
        fill_sum (group_size m Virtual) (wanted m Virtual) (purchase_days m) rising,
      )

  pub complete : sum_by (taken_from m (chosen share m)) m.accounts ≡ to_deliver m
  complete =
      sum_swap (λ a d. taken_on (chosen share m) a d) m.accounts (purchase_days m)
      ∙ sum_same (λ d. sum_by (λ a. taken_on (chosen share m) a d) m.accounts) (λ d. amount m Declared d + amount m Undeclared d + amount m Virtual d) (purchase_days m) day_amounts
      ∙ days_amounts

  -- a lot of another class is wanted only where all declared lots are
  others_wanted : (a d : ℕ) → 0 < chosen share m a d Undeclared + chosen share m a d Virtual → class_size m Declared ≤ to_deliver m
  others_wanted a d l = omega (arith, chosen_le a d Undeclared, chosen_le a d Virtual)

  declared_first : (a d a' d' : ℕ) → 0 < chosen share m a d Undeclared + chosen share m a d Virtual → lots_there m a' d' Declared ≤ chosen share m a' d' Declared
  unfolding class_size
  declared_first a d a' d' l =
      full a' d' Declared (λ k. fill_all (group_size m Declared) (to_deliver m) (purchase_days m) d' (there_day m a' d' Declared k) (others_wanted a d l))

  oldest_first : (c : Class) (a d a' d' : ℕ) → d' < d → 0 < chosen share m a d c → lots_there m a' d' c ≤ chosen share m a' d' c
  oldest_first c a d a' d' older l =
      full a' d' c (λ k. fill_full (group_size m c) (wanted m c) (purchase_days m) d' d older (there_day m a' d' c k) (omega (arith, chosen_le a d c)))

  pub chosen_keeps : FiveRules share m (chosen share m)
  unfolding to_deliver
  chosen_keeps = record {
    within = within;
    complete = complete;
    declared_first = declared_first;
    oldest_first = oldest_first;
    shared = λ c d l. mapped c d l ∙ ap (share (asked m c d)) (sym (taken_amount c d));
  }

pub selection_exists : SelectionExists
selection_exists share m keeps sound = (chosen share m, chosen_keeps share m keeps sound)
