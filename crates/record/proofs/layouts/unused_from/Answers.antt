use Rattle.std.proofs.Common.{◌≡◌, ℕ, zero, suc, ◌+◌, ◌-◌, Bool, not, List, [], get_or, length, drop, refl, ◌∙◌, arith, rules}
use Rattle.std.proofs.lemmas.List.{at_drop_more, at_drop_all}
use Rattle.std.proofs.lemmas.Iterator.{YieldsList-from_range}
use Rattle.std.proofs.lemmas.Iterator.Search.{all_from_yields_List}
use Rattle.std.specs.List.{list_all, range_with_len}
use borrow.Author.Tests.{tests}
use Rattle.terms.specs.Codes.{used}
use Rattle.terms.specs.declared.calls.BondLots.{BondLots}
use Rattle.record.proofs.layouts.unused_from.Goals as goal

-- a test at every place from one on is a test of the elements that stand there
by_places : {A : Type 0} (p : A → Bool) (xs : List A) (d : A) (from n : ℕ) → length xs - from ≡ n →
    list_all (λ i. p (get_or xs i d)) (range_with_len from n) ≡ list_all p (drop from xs)
by_places p xs d from zero e = grind (arith, at_drop_all (list_all p) xs from)
by_places p xs d from (suc n) e = grind (arith, at_drop_more (list_all p) xs from d, by_places p xs d (from + 1) n)

-- what the check takes an element beyond the end to be
abbrev none : BondLots
none = record { bond = record { bytes = [] }; lots = 0 }

pub returns : goal.returns
returns c =
    all_from_yields_List (λ i. not (used (get_or c.args.entries.now i none))) _ _ _ c.all.ensures.ran (YieldsList-from_range c.args.from 4 _ refl refl)
    (λ x b q k. search (rules, tests))
    ∙ by_places (λ e. not (used e)) c.args.entries.now none c.args.from _ (omega arith)
