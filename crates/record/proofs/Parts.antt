-- Parts of a record. Assumes nothing.
use Rattle.std.proofs.Common.{◌≡◌, ℕ, ◌+◌, ◌-◌, ◌*◌, ◌/◌, ◌%◌, ◌<◌, ◌≤◌, List, [], ◌∷◌, ◌++◌, length, get_or, take, drop, cond, eqb, Some, None, sym, refl, ap, ◌∙◌, arith, length-drop, take-append-drop, length-take, drop-drop, take-add}
use Rattle.std.proofs.lemmas.Bool.{cond-true, eq-eqb}
use Rattle.std.specs.Array.{IsWholeChunk}
use Rattle.std.specs.List.{AllByRecursion}
use Rattle.std.proofs.ByRecursion.{All-from_get_or, All-take, All-drop}
use Rattle.std.proofs.lemmas.List.{drop_more, drop_all, take_rest}
use Rattle.record.specs.Bytes.{value, bytes_of, part}
use Rattle.record.specs.Fields.{entry_at, entry_bytes, fields, laid_out}

-- two parts, one behind the other
pub part_join : (xs : List ℕ) (at m n : ℕ) → part at m xs ++ part (at + m) n xs ≡ part at (m + n) xs
part_join xs at m n = sym (take-add m n (drop at xs) ∙ ap (λ r. part at m xs ++ take n r) (drop-drop m at xs))

-- what stands from a place on: a part, and what stands behind it
cut : (xs rest : List ℕ) (at n : ℕ) → rest ≡ drop (at + n) xs → part at n xs ++ rest ≡ drop at xs
cut xs rest at n h = ap (λ r. part at n xs ++ r) (h ∙ sym (drop-drop n at xs)) ∙ take-append-drop n (drop at xs)

-- the first two bytes, and the rest
first_two : (xs : List ℕ) → 2 ≤ length xs → get_or xs 0 0 ∷ get_or xs 1 0 ∷ drop 2 xs ≡ xs
first_two xs h = sym (drop_more xs 0 0 (omega arith) ∙ ap (λ t. get_or xs 0 0 ∷ t) (drop_more xs 1 0 (omega arith)))

-- the bytes of the number that bytes give are those bytes
bytes_value : (bs : List ℕ) → AllByRecursion (λ b. b < 256) bs → bytes_of (length bs) (value bs) ≡ bs
bytes_value [] h = refl
bytes_value (b ∷ bs) h =
    let low : (b + 256 * value bs) % 256 ≡ b = omega (arith, h.0) in
    let high : (b + 256 * value bs) / 256 ≡ value bs = omega (arith, h.0) in
    let rest = ap (bytes_of (length bs)) high ∙ bytes_value bs h.1 in
    λ i. low i ∷ rest i

-- the fields of a record, laid out, are the record
pub laid_fields : (bs : List ℕ) → length bs ≡ 64 → ((i : ℕ) → get_or bs i 0 < 256) → laid_out (fields bs) ≡ bs
laid_fields bs l small =
    ap (λ r. get_or bs 0 0 ∷ get_or bs 1 0 ∷ r)
    (number 2 2 (omega arith) (number 4 4 (omega arith) (number 8 4 (omega arith) (number 12 4 (omega arith)
    (entry 16 (omega arith) (entry 28 (omega arith) (entry 40 (omega arith) (entry 52 (omega arith) (sym (drop_all 64 bs (omega arith)))))))))))
    ∙ first_two bs (omega arith)
  where
    bytes : (at n : ℕ) → at + n ≤ 64 → bytes_of n (value (part at n bs)) ≡ part at n bs
    bytes at n h =
        let long : length (part at n bs) ≡ n = length-take n (drop at bs) ∙ omega (arith, length-drop at bs) in
        let small = All-take (λ b. b < 256) n (drop at bs) (All-drop (λ b. b < 256) at bs (All-from_get_or (λ b. b < 256) bs 0 (λ i h. small i))) in
        ap (λ k. bytes_of k (value (part at n bs))) (sym long) ∙ bytes_value (part at n bs) small

    number : (at n : ℕ) → at + n ≤ 64 → {rest : List ℕ} → rest ≡ drop (at + n) bs → bytes_of n (value (part at n bs)) ++ rest ≡ drop at bs
    number at n h {rest} e = ap (λ r. r ++ rest) (bytes at n h) ∙ cut bs rest at n e

    entry : (at : ℕ) → at + 12 ≤ 64 → {rest : List ℕ} → rest ≡ drop (at + 12) bs → entry_bytes (entry_at at bs) ++ rest ≡ drop at bs
    entry at h {rest} e = ap (λ r. (part at 8 bs ++ r) ++ rest) (bytes (at + 8) 4 (omega arith)) ∙ ap (λ r. r ++ rest) (part_join bs at 8 4) ∙ cut bs rest at 12 e

-- if the rest is as long as a record's, their fields are those of the whole
pub rest_taken : (bs rest : List ℕ) → 2 ≤ length bs → IsWholeChunk (take (length bs - 2) (drop 2 bs)) rest 62 →
    Some (fields (get_or bs 0 0 ∷ get_or bs 1 0 ∷ rest)) ≡ cond (eqb (length bs) 64) (Some (fields bs)) None
rest_taken bs rest two chunk =
    let long : length bs ≡ 64 = omega (arith, length-take (length bs - 2) (drop 2 bs), length-drop 2 bs, chunk.long) in
    ap (λ t. Some (fields (get_or bs 0 0 ∷ get_or bs 1 0 ∷ t))) (chunk.same ∙ take_rest bs 2) ∙ ap (λ t. Some (fields t)) (first_two bs two)
    ∙ sym (cond-true (eqb (length bs) 64) (Some (fields bs)) None (eq-eqb (length bs) 64 long))
