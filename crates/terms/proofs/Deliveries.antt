-- The legs of a round tell two lists of pairs as they should be. Assumes nothing.
use Rattle.std.proofs.Common.{◌≡◌, ℕ, ◌+◌, ◌-◌, ◌≤◌, min, Bool, true, false, cond, eqb, ◌⊎◌, List, [], ◌∷◌, ◌++◌, map, length, Some, None, fold, sum_by, Option, sym, refl, ap, ◌∙◌, subst, inl, inr, arith}
use Rattle.std.specs.List.{flat_map, AllByRecursion}
use Rattle.std.proofs.lemmas.List.Sums.{sum_by-cons, fold-append}
use Rattle.std.proofs.ByRecursion.{All-append}
use Rattle.std.proofs.lemmas.Bool.{cases_lt, cond_both}
use Rattle.std.proofs.lemmas.Bool.Decides.{nat_tests}
use Rattle.std.proofs.lemmas.List.Folds.{fold-map}
use Rattle.terms.specs.Lots.{lots_in}
use Rattle.terms.specs.Month.{Month, has, final, effective_sale, declared_sale, declared_bonds, purchase_days, Declaration, nothing, to_buy, to_sell}
use Rattle.terms.specs.Selection.{Selection, taken_from}
use Rattle.terms.specs.Lines.{Part, part, lots_on_line}
use Rattle.terms.specs.Pairs.{Pair, pair, with_leg, with_row, delivery_pairs, failure_pairs, sold_in, bought_in, Pairing, Paired, unsold, unbought}
use Rattle.terms.specs.Rounds.{other_class, lots_row, group_rows, selection_rows, Piece, piece, bond_pieces, delivery_pieces, failure_pieces, buyers, behind, leg_row, piece_legs, legs, delivery_legs, failure_legs, leg_rows}
use Rattle.terms.specs.Facts.{Rising, Sound, SoundSides}
use Rattle.terms.specs.declared.calls.BondCode.{BondCode}
use Rattle.terms.specs.declared.calls.BondLots.{BondLots}
use Rattle.terms.specs.declared.rows.Class.{Class}
use Rattle.terms.specs.declared.rows.Class.TheVariants.{Declared}
use Rattle.terms.specs.declared.rows.Row.{Row}
use Rattle.terms.specs.declared.rows.Row.TheVariants.{ClassLots, Leg, Refused}
use Rattle.terms.proofs.Sums.{sum_empty, sum_add, sum_same}
use Rattle.terms.proofs.Lines.{count_sides}
use Rattle.terms.proofs.Legs.{with_leg_sold, with_leg_bought}
use Rattle.terms.proofs.Behind.{sells, buys, piece_lots, some, full_pieces, full_parts, legs_sold, legs_bought, legs_none, legs_few}
use Rattle.terms.proofs.Joined.{with_lots, met, meets, lines_join, bonded, unbonded}
use Rattle.terms.proofs.Rising.{sum_at}

-- the pairs of legs, whatever their bonds
abbrev with_any : List Pair → Row → List Pair
with_any ps (ClassLots class account day lots) = ps
with_any ps (Leg s b n bond) = with_leg s b n ps
with_any ps (Refused number) = ps

any_sold : (ps : List Pair) (rows : List Row) (a : ℕ) → sold_in (fold with_any ps rows) a ≡ sold_in ps a + sum_by (sells a) rows
any_sold ps [] a = omega arith
any_sold ps (ClassLots c x d n ∷ rows) a = omega (arith, any_sold ps rows a, sum_by-cons (sells a) (ClassLots c x d n) rows)
any_sold ps (Leg s b n bond ∷ rows) a =
    omega (arith, any_sold (with_leg s b n ps) rows a, sum_by-cons (sells a) (Leg s b n bond) rows, with_leg_sold s b n ps a)
any_sold ps (Refused k ∷ rows) a = omega (arith, any_sold ps rows a, sum_by-cons (sells a) (Refused k) rows)

any_bought : (ps : List Pair) (rows : List Row) (a : ℕ) → bought_in (fold with_any ps rows) a ≡ bought_in ps a + sum_by (buys a) rows
any_bought ps [] a = omega arith
any_bought ps (ClassLots c x d n ∷ rows) a = omega (arith, any_bought ps rows a, sum_by-cons (buys a) (ClassLots c x d n) rows)
any_bought ps (Leg s b n bond ∷ rows) a =
    omega (arith, any_bought (with_leg s b n ps) rows a, sum_by-cons (buys a) (Leg s b n bond) rows, with_leg_bought s b n ps a)
any_bought ps (Refused k ∷ rows) a = omega (arith, any_bought ps rows a, sum_by-cons (buys a) (Refused k) rows)

leg_length : (s b n : ℕ) (ps : List Pair) → length (with_leg s b n ps) ≤ length ps + 1
leg_length s b n [] = omega arith
leg_length s b n (p ∷ ps) = grind (arith, leg_length s b n ps)

any_length : (ps : List Pair) (rows : List Row) → length (fold with_any ps rows) ≤ length ps + length rows
any_length ps [] = omega arith
any_length ps (ClassLots c x d n ∷ rows) = omega (arith, any_length ps rows)
any_length ps (Leg s b n bond ∷ rows) = omega (arith, any_length (with_leg s b n ps) rows, leg_length s b n ps)
any_length ps (Refused k ∷ rows) = omega (arith, any_length ps rows)

-- the pairs of a sellers' line, as it meets the buyers' line
row_met : (p : Piece) (b n : ℕ) (ps : List Pair) → fold with_any ps (leg_row p b n) ≡ with_lots p.seller b n ps
row_met p b n ps = grind (arith, nat_tests)

piece_met : (p : Piece) (n : ℕ) (bs : List Part) (ps : List Pair) → fold with_any ps (piece_legs p n bs) ≡ met p.seller n bs ps
piece_met p n [] ps = refl
piece_met p n (b ∷ bs) ps =
    fold-append with_any ps (leg_row p b.account (min n b.lots)) (piece_legs p (n - b.lots) bs)
    ∙ ap (λ x. fold with_any x (piece_legs p (n - b.lots) bs)) (row_met p b.account (min n b.lots) ps)
    ∙ piece_met p (n - b.lots) bs (with_lots p.seller b.account (min n b.lots) ps)

line_met : (qs : List Piece) (bs : List Part) (ps : List Pair) → fold with_any ps (legs qs bs) ≡ meets qs bs ps
line_met [] bs ps = refl
line_met (q ∷ qs) bs ps =
    fold-append with_any ps (piece_legs q q.lots bs) (legs qs (behind q.lots bs))
    ∙ ap (λ x. fold with_any x (legs qs (behind q.lots bs))) (piece_met q q.lots bs ps)
    ∙ line_met qs (behind q.lots bs) (met q.seller q.lots bs ps)

-- kinds of rows: selected lots, legs with and without a bond
abbrev bond_kind : Option BondCode → ℕ
bond_kind (Some bond) = 1
bond_kind None = 2

abbrev kind : Row → ℕ
kind (ClassLots class account day lots) = 0
kind (Leg s b n bond) = bond_kind bond
kind (Refused number) = 3

abbrev Kind : ℕ → List Row → Type 0
Kind k rows = AllByRecursion (λ (r : Row). kind r ≡ k) rows

-- the first list takes the legs with a bond
with_bond : (ps : List Pair) (rows : List Row) → Kind 1 rows → fold with_row ps rows ≡ fold with_any ps rows
with_bond ps [] h = refl
with_bond ps (ClassLots c x d n ∷ rows) h = absurd (omega (arith, h.0))
with_bond ps (Leg s b n (Some bond) ∷ rows) h = with_bond (with_leg s b n ps) rows h.1
with_bond ps (Leg s b n None ∷ rows) h = absurd (omega (arith, h.0))
with_bond ps (Refused k ∷ rows) h = absurd (omega (arith, h.0))

without_bond : (k : ℕ) (ps : List Pair) (rows : List Row) → (1 ≡ k → ⊥) → Kind k rows → fold with_row ps rows ≡ ps
without_bond k ps [] o h = refl
without_bond k ps (ClassLots c x d n ∷ rows) o h = without_bond k ps rows o h.1
without_bond k ps (Leg s b n (Some bond) ∷ rows) o h = absurd (o h.0)
without_bond k ps (Leg s b n None ∷ rows) o h = without_bond k ps rows o h.1
without_bond k ps (Refused j ∷ rows) o h = without_bond k ps rows o h.1

-- the second list takes those without
skipped : (k : ℕ) (rows more : List Row) → (2 ≡ k → ⊥) → Kind k rows → failure_pairs (rows ++ more) ≡ failure_pairs more
skipped k [] more o h = refl
skipped k (ClassLots c x d n ∷ rows) more o h = skipped k rows more o h.1
skipped k (Leg s b n (Some bond) ∷ rows) more o h = skipped k rows more o h.1
skipped k (Leg s b n None ∷ rows) more o h = absurd (o h.0)
skipped k (Refused j ∷ rows) more o h = skipped k rows more o h.1

failed_sold : (rows : List Row) (a : ℕ) → Kind 2 rows → sold_in (failure_pairs rows) a ≡ sum_by (sells a) rows
failed_sold [] a h = refl
failed_sold (ClassLots c x d n ∷ rows) a h = absurd (omega (arith, h.0))
failed_sold (Leg s b n (Some bond) ∷ rows) a h = absurd (omega (arith, h.0))
failed_sold (Leg s b n None ∷ rows) a h =
    omega (
      arith,
      sum_by-cons (sells a) (Leg s b n None) rows,
      sum_by-cons (λ (p : Pair). cond (eqb p.seller a) p.lots 0) (pair s b n) (failure_pairs rows),
      failed_sold rows a h.1,
    )
failed_sold (Refused k ∷ rows) a h = absurd (omega (arith, h.0))

failed_bought : (rows : List Row) (a : ℕ) → Kind 2 rows → bought_in (failure_pairs rows) a ≡ sum_by (buys a) rows
failed_bought [] a h = refl
failed_bought (ClassLots c x d n ∷ rows) a h = absurd (omega (arith, h.0))
failed_bought (Leg s b n (Some bond) ∷ rows) a h = absurd (omega (arith, h.0))
failed_bought (Leg s b n None ∷ rows) a h =
    omega (
      arith,
      sum_by-cons (buys a) (Leg s b n None) rows,
      sum_by-cons (λ (p : Pair). cond (eqb p.buyer a) p.lots 0) (pair s b n) (failure_pairs rows),
      failed_bought rows a h.1,
    )
failed_bought (Refused k ∷ rows) a h = absurd (omega (arith, h.0))

failed_length : (rows : List Row) → length (failure_pairs rows) ≤ length rows
failed_length [] = omega arith
failed_length (ClassLots c x d n ∷ rows) = omega (arith, failed_length rows)
failed_length (Leg s b n (Some bond) ∷ rows) = omega (arith, failed_length rows)
failed_length (Leg s b n None ∷ rows) = omega (arith, failed_length rows)
failed_length (Refused k ∷ rows) = omega (arith, failed_length rows)

-- the kinds of the rows of a round
all_listed : {A B : Type 0} (P : B → Type 0) (f : A → List B) (xs : List A) → ((x : A) → AllByRecursion P (f x)) → AllByRecursion P (flat_map f xs)
all_listed P f [] h = tt
all_listed P f (x ∷ xs) h = All-append P (f x) (flat_map f xs) (h x) (all_listed P f xs h)

group_kind : (sel : Selection) (c : Class) (accounts : List ℕ) (d : ℕ) → Kind 0 (group_rows sel c accounts d)
group_kind sel c accounts d =
    all_listed (λ (r : Row). kind r ≡ 0) (λ a. lots_row c a d (sel a d c)) accounts
    (λ a. cond_both (eqb (sel a d c) 0) [] (ClassLots c a d (sel a d c) ∷ []) (Kind 0) (λ e. tt) (λ e. (refl, tt)))

selection_kind : (m : Month) (sel : Selection) → Kind 0 (selection_rows m sel)
selection_kind m sel =
    All-append (λ (r : Row). kind r ≡ 0) (flat_map (group_rows sel Declared m.accounts) (purchase_days m)) (flat_map (group_rows sel (other_class m) m.accounts) (purchase_days m))
    (all_listed (λ (r : Row). kind r ≡ 0) (group_rows sel Declared m.accounts) (purchase_days m) (group_kind sel Declared m.accounts))
    (all_listed (λ (r : Row). kind r ≡ 0) (group_rows sel (other_class m) m.accounts) (purchase_days m) (group_kind sel (other_class m) m.accounts))

piece_kind : (k : ℕ) (p : Piece) (n : ℕ) (bs : List Part) → bond_kind p.bond ≡ k → Kind k (piece_legs p n bs)
piece_kind k p n [] h = tt
piece_kind k p n (b ∷ bs) h =
    All-append (λ (r : Row). kind r ≡ k) (leg_row p b.account (min n b.lots)) (piece_legs p (n - b.lots) bs)
    (cond_both (eqb (min n b.lots) 0) [] (Leg p.seller b.account (min n b.lots) p.bond ∷ []) (Kind k) (λ e. tt) (λ e. (h, tt)))
    (piece_kind k p (n - b.lots) bs h)

legs_kind : (k : ℕ) (ps : List Piece) (bs : List Part) → AllByRecursion (λ (p : Piece). bond_kind p.bond ≡ k) ps → Kind k (legs ps bs)
legs_kind k [] bs h = tt
legs_kind k (p ∷ ps) bs h =
    All-append (λ (r : Row). kind r ≡ k) (piece_legs p p.lots bs) (legs ps (behind p.lots bs)) (piece_kind k p p.lots bs h.0) (legs_kind k ps (behind p.lots bs) h.1)

bonds_kind : (s n : ℕ) (bonds : List BondLots) → AllByRecursion (λ (p : Piece). bond_kind p.bond ≡ 1) (bond_pieces s n bonds)
bonds_kind s n [] = tt
bonds_kind s n (b ∷ bonds) = (refl, bonds_kind s (n - b.lots) bonds)

failure_kind : (f : ℕ → ℕ) (xs : List ℕ) → AllByRecursion (λ (p : Piece). bond_kind p.bond ≡ 2) (unbonded f xs)
failure_kind f [] = tt
failure_kind f (x ∷ xs) = (refl, failure_kind f xs)

-- the sum over a line made from accounts
pub map_sum : {A : Type 0} (w : A → ℕ) (q : ℕ → A) (xs : List ℕ) → sum_by w (map q xs) ≡ sum_by (λ x. w (q x)) xs
map_sum w q xs = fold-map (λ a x. a + w x) q 0 xs

-- pairs that sell and buy what the legs do, and are no more than the legs, are a pairing
legs_pairing : (f g : ℕ → ℕ) (xs : List ℕ) → Rising xs → ((a : ℕ) → has a xs ≡ false → (f a ≡ 0) × (g a ≡ 0)) → ((a : ℕ) → (f a ≡ 0) ⊎ (g a ≡ 0)) →
    sum_by f xs ≡ sum_by g xs → (ps : List Pair) → ((a : ℕ) → sold_in ps a ≡ sum_by (sells a) (legs (unbonded f xs) (buyers g xs))) →
    ((a : ℕ) → bought_in ps a ≡ sum_by (buys a) (legs (unbonded f xs) (buyers g xs))) →
    length ps ≤ length (legs (unbonded f xs) (buyers g xs)) → Pairing xs f g ps
legs_pairing f g xs r off sides e ps sold bought short = record {
  sold = λ a. sold a ∙ legs_sold qs bs a (omega (arith, even)) ∙ map_sum (λ (p : Piece). cond (eqb p.seller a) p.lots 0) (λ x. piece x None (f x)) xs
      ∙ sum_at f xs a r (λ n. (off a n).0);
  bought = λ a. bought a ∙ legs_bought qs bs a even ∙ map_sum (λ (p : Part). cond (eqb p.account a) p.lots 0) (λ x. part x (g x)) xs
      ∙ sum_at g xs a r (λ n. (off a n).1);
  few = λ l. elim (cases_lt 0 (full_pieces (unbonded f xs) + full_parts (buyers g xs))) [
    | inl p ↦ omega (
      arith,
      legs_few qs bs p,
      map_sum (λ (p : Piece). some p.lots) (λ x. piece x None (f x)) xs,
      map_sum (λ (p : Part). some p.lots) (λ x. part x (g x)) xs,
      count_sides f g xs sides,
    )
    | inr z ↦ absurd (omega (arith, sum_empty (λ (p : Pair). p.lots) ps (omega (arith, legs_none qs bs (omega arith)))))
  ];
}
  where
    qs : List Piece
    qs = unbonded f xs

    bs : List Part
    bs = buyers g xs

    even : piece_lots (unbonded f xs) ≡ lots_on_line (buyers g xs)
    even = map_sum (λ (p : Piece). p.lots) (λ x. piece x None (f x)) xs ∙ e ∙ sym (map_sum (λ (p : Part). p.lots) (λ x. part x (g x)) xs)

-- the pairs of legs from bonds are those of legs without
bonds_pairing : (f g : ℕ → ℕ) (bonds : ℕ → List BondLots) (xs : List ℕ) → ((a : ℕ) → f a ≤ sum_by (λ (b : BondLots). b.lots) (bonds a)) →
    Rising xs → ((a : ℕ) → has a xs ≡ false → (f a ≡ 0) × (g a ≡ 0)) → ((a : ℕ) → (f a ≡ 0) ⊎ (g a ≡ 0)) →
    sum_by f xs ≡ sum_by g xs → Pairing xs f g (fold with_row [] (legs (bonded f bonds xs) (buyers g xs)))
bonds_pairing f g bonds xs h r off sides e =
    subst (Pairing xs f g) (sym same_pairs)
    (legs_pairing f g xs r off sides e (fold with_any [] (legs (unbonded f xs) (buyers g xs)))
    (λ a. any_sold [] (legs (unbonded f xs) (buyers g xs)) a ∙ omega arith)
    (λ a. any_bought [] (legs (unbonded f xs) (buyers g xs)) a ∙ omega arith)
    (omega (arith, any_length [] (legs (unbonded f xs) (buyers g xs)))))
  where
    same_pairs : fold with_row [] (legs (bonded f bonds xs) (buyers g xs))
        ≡ fold with_any [] (legs (unbonded f xs) (buyers g xs))
    same_pairs =
        with_bond [] (legs (bonded f bonds xs) (buyers g xs))
        (legs_kind 1 (bonded f bonds xs) (buyers g xs)
        (all_listed (λ (p : Piece). bond_kind p.bond ≡ 1) (λ a. bond_pieces a (f a) (bonds a)) xs (λ a. bonds_kind a (f a) (bonds a))))
        ∙ line_met (bonded f bonds xs) (buyers g xs) []
        ∙ lines_join f bonds h xs (buyers g xs) []
        ∙ sym (line_met (unbonded f xs) (buyers g xs) [])

failure_pairing : (f g : ℕ → ℕ) (xs : List ℕ) → Rising xs → ((a : ℕ) → has a xs ≡ false → (f a ≡ 0) × (g a ≡ 0)) → ((a : ℕ) → (f a ≡ 0) ⊎ (g a ≡ 0)) →
    sum_by f xs ≡ sum_by g xs → Pairing xs f g (failure_pairs (legs (unbonded f xs) (buyers g xs)))
failure_pairing f g xs r off sides e =
    let rows = legs (unbonded f xs) (buyers g xs) in
    let k = legs_kind 2 (unbonded f xs) (buyers g xs) (failure_kind f xs) in
    legs_pairing f g xs r off sides e (failure_pairs rows) (λ a. failed_sold rows a k) (λ a. failed_bought rows a k) (failed_length rows)

-- what is left of two equal sums once equal sums are taken
left_over : (t : Bool) (f g h k : ℕ → ℕ) (xs : List ℕ) → ((a : ℕ) → g a ≤ f a) → ((a : ℕ) → k a ≤ h a) → sum_by f xs ≡ sum_by h xs → sum_by g xs ≡ sum_by k xs →
    sum_by (λ a. cond t (f a - g a) 0) xs ≡ sum_by (λ a. cond t (h a - k a) 0) xs
left_over true f g h k xs p q e d = omega (arith, less f g p, less h k q)
  where
    less : (f g : ℕ → ℕ) → ((a : ℕ) → g a ≤ f a) → sum_by (λ a. f a - g a) xs + sum_by g xs ≡ sum_by f xs
    less f g p = sym (sum_add (λ a. f a - g a) g xs) ∙ sum_same (λ a. f a - g a + g a) f xs (λ a. omega (arith, p a))
left_over false f g h k xs p q e d = refl

-- the bonds of a declaration hold its lots
declared_lots : (d : Declaration) → declared_sale d ≡ sum_by (λ (b : BondLots). b.lots) (declared_bonds d)
declared_lots nothing = refl
declared_lots (to_buy n) = refl
declared_lots (to_sell bonds) = refl

-- The legs of a round, behind its selected lots, tell two lists of pairs as they should be.
pub round_paired : (m : Month) (sel : Selection) → Sound m → SoundSides m → ((a : ℕ) → taken_from m sel a ≤ lots_in (m.positions a).long) →
    sum_by (taken_from m sel) m.accounts ≡ sum_by (effective_sale m) m.accounts → Paired m sel (selection_rows m sel ++ leg_rows m sel)
round_paired m sel sound sides within complete = record {
  deliveries = subst (Pairing m.accounts (effective_sale m) (taken_from m sel)) (sym first)
      (bonds_pairing (effective_sale m) (taken_from m sel) (λ a. declared_bonds (m.declarations a)) m.accounts
      (λ a. omega (arith, declared_lots (m.declarations a))) sound.rising
      (λ a n. let k = sides.known a n in (omega (arith, k.0), omega (arith, k.1, within a)))
      (λ a. elim (sides.one_sided a) [ inl e ↦ inl (omega (arith, e)) | inr e ↦ inr (omega (arith, e, within a)) ])
      (sym complete));
  failures = subst (Pairing m.accounts (unsold m) (unbought m sel)) (sym second)
      (failure_pairing (unsold m) (unbought m sel) m.accounts sound.rising
      (λ a n. let k = sides.known a n in (grind (arith, k.0), grind (arith, k.1)))
      (λ a. elim (sides.one_sided a) [ inl e ↦ inl (grind arith) | inr e ↦ inr (grind arith) ])
      (left_over (final m) (λ a. (m.positions a).short) (effective_sale m) (λ a. lots_in (m.positions a).long) (taken_from m sel) m.accounts
      (λ a. omega arith) within sound.balanced (sym complete)));
}
  where
    bond_rows : Kind 1 (delivery_legs m sel)
    bond_rows =
        legs_kind 1 (delivery_pieces m) (buyers (taken_from m sel) m.accounts)
        (all_listed (λ (p : Piece). bond_kind p.bond ≡ 1) (λ a. bond_pieces a (effective_sale m a) (declared_bonds (m.declarations a))) m.accounts
        (λ a. bonds_kind a (effective_sale m a) (declared_bonds (m.declarations a))))

    other_rows : Kind 2 (failure_legs m sel)
    other_rows = legs_kind 2 (failure_pieces m) (buyers (unbought m sel) m.accounts) (failure_kind (unsold m) m.accounts)

    first : delivery_pairs (selection_rows m sel ++ leg_rows m sel) ≡ fold with_row [] (delivery_legs m sel)
    first =
        fold-append with_row [] (selection_rows m sel) (leg_rows m sel)
        ∙ ap (λ ps. fold with_row ps (leg_rows m sel)) (without_bond 0 [] (selection_rows m sel) (λ e. omega arith) (selection_kind m sel))
        ∙ fold-append with_row [] (delivery_legs m sel) (failure_legs m sel)
        ∙ without_bond 2 (fold with_row [] (delivery_legs m sel)) (failure_legs m sel) (λ e. omega arith) other_rows

    second : failure_pairs (selection_rows m sel ++ leg_rows m sel) ≡ failure_pairs (failure_legs m sel)
    second =
        skipped 0 (selection_rows m sel) (leg_rows m sel) (λ e. omega arith) (selection_kind m sel)
        ∙ skipped 1 (delivery_legs m sel) (failure_legs m sel) (λ e. omega arith) bond_rows
