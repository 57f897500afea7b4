-- The place of a key in a rising list, from how many of its keys come before the key. Assumes nothing.
use Rattle.std.proofs.Common.{◌≡◌, ℕ, zero, suc, ◌<◌, ◌≤◌, Bool, true, false, cond, not, ◌&&◌, ltb, List, [], ◌∷◌, length, get_or, Some, None, Option, ◌⊎◌, sym, refl, ap, ◌∙◌, subst, ap₂, inl, inr, arith}
use Rattle.std.proofs.lemmas.Bool.{cases_lt, cases_Bool, lt-ltb, le-ltb, cond-true, cond-false, true≢false}
use Rattle.register.specs.Orders.{TotalOrder, climbs}
use Rattle.std.specs.Option.{option_map}
use Rattle.register.specs.Places.{same, first_place, place_of, Placed}
use Rattle.register.proofs.Rising.{rising_places}

-- the first element that passes a test
first_some : {K : Type 0} (p : K → Bool) (ks : List K) (at : ℕ) (d : K) → at < length ks → ((i : ℕ) → i < at → p (get_or ks i d) ≡ false) →
    p (get_or ks at d) ≡ true → first_place p ks ≡ Some at
first_some p [] at d l h t = absurd (omega arith)
first_some p (k ∷ ks) zero d l h t = cond-true (p k) (Some 0) (option_map suc (first_place p ks)) t
first_some p (k ∷ ks) (suc at) d l h t =
    let m : at < length ks = omega arith in
    cond-false (p k) (Some 0) (option_map suc (first_place p ks)) (h 0 (omega arith))
    ∙ ap (option_map suc) (first_some p ks at d m (λ i b. h (suc i) (omega arith)) t)

-- no element passes
first_none : {K : Type 0} (p : K → Bool) (ks : List K) (d : K) → ((i : ℕ) → i < length ks → p (get_or ks i d) ≡ false) → first_place p ks ≡ None
first_none p [] d h = refl
first_none p (k ∷ ks) d h =
    cond-false (p k) (Some 0) (option_map suc (first_place p ks)) (h 0 (omega arith))
    ∙ ap (option_map suc) (first_none p ks d (λ i b. h (suc i) (omega arith)))

-- what a look-up answers where `at` keys come before the key
abbrev found_at : {K : Type 0} → (K → K → Bool) → List K → K → ℕ → Option ℕ
found_at before ks key at = cond (ltb at (length ks) && not (before key (get_or ks at key))) (Some at) None

module _ {K : Type 0} (before : K → K → Bool) (order : TotalOrder before) (ks : List K) (key : K) (at : ℕ) (rising : climbs before ks ≡ true)
    (below : (i : ℕ) → i < at → before (get_or ks i key) key ≡ true)
    (above : (i : ℕ) → at ≤ i → i < length ks → before (get_or ks i key) key ≡ false) where
  other_below : (i : ℕ) → i < at → same before (get_or ks i key) key ≡ false
  other_below i l = ap (λ b. not b && not (before key (get_or ks i key))) (below i l)

  -- if the key at `at` comes after, so do the later ones
  other_after : before key (get_or ks at key) ≡ true → (i : ℕ) → at ≤ i → i < length ks → same before (get_or ks i key) key ≡ false
  other_after u i a m = ap₂ (λ x y. not x && not y) (above i a m) (after (cases_lt at i))
    where
      after : (at < i) ⊎ (i ≤ at) → before key (get_or ks i key) ≡ true
      after (inl l) = order.transitive key (get_or ks at key) (get_or ks i key) u (rising_places before order ks at i key rising l m)
      after (inr l) = let q : i ≡ at = omega arith in ap (λ n. before key (get_or ks n key)) q ∙ u

  -- the key stands at `at`
  is_there : at < length ks → before key (get_or ks at key) ≡ false → (r : Option ℕ) → r ≡ Some at → (r ≡ place_of before ks key) × Placed ks key r
  is_there l f r e =
      let a = above at (omega arith) l in
      let p : same before (get_or ks at key) key ≡ true = ap₂ (λ a b. not a && not b) a f in
      let q : (at < length ks) × (get_or ks at key ≡ key) = (l, order.connected (get_or ks at key) key a f) in
      (e ∙ sym (first_some (λ k. same before k key) ks at key l other_below p), subst (Placed ks key) (sym e) q)

  -- it stands nowhere
  is_nowhere : ((i : ℕ) → i < length ks → same before (get_or ks i key) key ≡ false) → (r : Option ℕ) → r ≡ None →
      (r ≡ place_of before ks key) × Placed ks key r
  is_nowhere h r e =
      let x : same before key key ≡ true = ap₂ (λ a b. not a && not b) (order.irreflexive key) (order.irreflexive key) in
      let q : (i : ℕ) → i < length ks → get_or ks i key ≡ key → ⊥ = λ i l k. true≢false (sym x ∙ sym (ap (λ y. same before y key) k) ∙ h i l) in
      (e ∙ sym (first_none (λ k. same before k key) ks key h), subst (Placed ks key) (sym e) q)

  -- what is found is the place
  pub found_place : (r : Option ℕ) → r ≡ found_at before ks key at → (r ≡ place_of before ks key) × Placed ks key r
  found_place r e =
      elim (cases_lt at (length ks)) [
        | inl l ↦
            let there : r ≡ cond (not (before key (get_or ks at key))) (Some at) None =
            e ∙ ap (λ t. cond (t && not (before key (get_or ks at key))) (Some at) None) (lt-ltb at (length ks) l) in
            elim (cases_Bool (before key (get_or ks at key))) [
              | inl u ↦ is_nowhere (λ i m. elim (cases_lt i at) [ inl b ↦ other_below i b | inr a ↦ other_after u i a m ]) r (there ∙ ap (λ t. cond (not t) (Some at) None) u)
              | inr f ↦ is_there l f r (there ∙ ap (λ t. cond (not t) (Some at) None) f)
            ]
        | inr g ↦ is_nowhere (λ i m. other_below i (omega arith)) r (e ∙ ap (λ t. cond (t && not (before key (get_or ks at key))) (Some at) None) (le-ltb at (length ks) g))
      ]
