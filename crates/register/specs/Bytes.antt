-- The order of bond codes is total, as the library's order of sequences of bytes is. Assumes nothing.
-- Lemmas alone: a law cites them, which it may only where they stand in specs/, and no contract does.
use Rattle.std.specs.Prelude.{◌≡◌, true, false, List, ℕ, refl}
use Rattle.std.proofs.Common.{sym, ap, ◌∙◌, arith, Ordering}
use Rattle.std.proofs.lemmas.Bool.{true≢false, false≢true}
use Rattle.std.proofs.lemmas.Bool.Decides.{nat_tests}
use Rattle.std.proofs.lemmas.Cmp.{nat_list_cmp_total, same_from_slice_cmp, tied_itself}
use Rattle.std.proofs.lemmas.Map.Lookups.{exact_bytes}
use Rattle.std.specs.Cmp.Lexicographic.{slice_cmp}
use Rattle.std.specs.Ordering.{is_lt, nat_cmp, ordering_reverse}
use Rattle.std.specs.declared.cmp.Ordering.TheVariants.{Less, Equal, Greater}
use Rattle.register.specs.Orders.{TotalOrder, bytes_before, code_before}

-- bytes are before others if the library's comparison answers that they are less
compared : (xs ys : List ℕ) → is_lt (slice_cmp nat_cmp xs ys) ≡ bytes_before xs ys
compared xs ys =
    same_from_slice_cmp nat_cmp is_lt bytes_before refl (λ _ _. refl) (λ _ _. refl) (λ x y xs ys o h. grind (arith, nat_tests)) xs ys (slice_cmp nat_cmp xs ys) refl

less : (o : Ordering) → is_lt o ≡ true → o ≡ Less
less Less h = refl
less Equal h = absurd (false≢true h)
less Greater h = absurd (false≢true h)

equal : (o : Ordering) → is_lt o ≡ false → is_lt (ordering_reverse o) ≡ false → o ≡ Equal
equal Less h k = absurd (true≢false h)
equal Equal h k = refl
equal Greater h k = absurd (true≢false k)

-- the order of bond codes is total
pub code_order : TotalOrder code_before
code_order = record {
  irreflexive = λ a. sym (compared a.bytes a.bytes) ∙ ap is_lt (tied_itself nat_list_cmp_total a.bytes);
  transitive = λ a b c h k.
      let less_b = less (slice_cmp nat_cmp a.bytes b.bytes) (compared a.bytes b.bytes ∙ h) in
      let less_c = less (slice_cmp nat_cmp b.bytes c.bytes) (compared b.bytes c.bytes ∙ k) in
      sym (compared a.bytes c.bytes) ∙ ap is_lt (nat_list_cmp_total.trans a.bytes b.bytes c.bytes less_b less_c);
  connected = λ a b h k.
      let back = ap is_lt (sym (nat_list_cmp_total.antisymm b.bytes a.bytes)) ∙ compared b.bytes a.bytes ∙ k in
      let e = exact_bytes a.bytes b.bytes (equal (slice_cmp nat_cmp a.bytes b.bytes) (compared a.bytes b.bytes ∙ h) back) in
      λ i. record { bytes = e i };
}
