-- Entries that are made by default are not used. Assumes nothing.
use Rattle.std.proofs.Common.{◌≡◌, ℕ, ◌<◌, List, length, get_or, replicate, sym, ◌∙◌, arith}
use Rattle.std.proofs.lemmas.List.{same_lists, length-replicate, get_or-replicate}
use Rattle.std.specs.Array.{AllOfLen}
use Rattle.terms.specs.declared.calls.BondLots.{BondLots}
use Rattle.record.specs.Layouts.{no_entry, no_entries}

-- elements that are all the same
pub same : {A : Type 0} (x : A) (xs : List A) (n : ℕ) → length xs ≡ n → ((i : ℕ) (d : A) → i < length xs → get_or xs i d ≡ x) → xs ≡ replicate n x
same x xs n l h =
    same_lists xs (replicate n x) (l ∙ sym (length-replicate n x)) (λ i d m. h i d m ∙ sym (get_or-replicate n i x d (omega (arith, l, m))))

entry : (e : BondLots) → AllOfLen (λ b. b ≡ 0) e.bond.bytes 8 × (e.lots ≡ 0) → e ≡ no_entry
entry e h =
    let code = same 0 e.bond.bytes 8 h.0.long (λ i d l. h.0.at i d (omega (arith, h.0.long))) in
    λ i. record { bond = record { bytes = code i }; lots = h.1 i }

pub blank_entries : (es : List BondLots) → AllOfLen (λ e. AllOfLen (λ b. b ≡ 0) e.bond.bytes 8 × (e.lots ≡ 0)) es 4 → es ≡ no_entries
blank_entries es h =
    same no_entry es 4 h.long (λ i d l. entry (get_or es i d) (h.at i d (omega (arith, h.long))))
