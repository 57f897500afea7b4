-- Numbers and their bytes. Assumes nothing.
use Rattle.std.proofs.Common.{◌≡◌, ℕ, ◌/◌, ◌%◌, [], ◌∷◌, arith, List, ◌++◌, length, drop, ap, ◌∙◌, append-nil}
use Rattle.std.proofs.lemmas.List.{take_at, drop_at}
use borrow.Rule.Slice.PartMut.{put_mid}
use Rattle.std.specs.Int.{w32, to_le_bytes}
use Rattle.record.specs.Bytes.{bytes_of}

-- the library's four bytes of a number are those of a record; its two are too, by computing
pub bytes_4 : (n : ℕ) → to_le_bytes w32 n ≡ bytes_of 4 n
bytes_4 n =
    let third : n / 65536 ≡ n / 256 / 256 = omega arith in
    let fourth : n / 16777216 ≡ n / 256 / 256 / 256 = omega arith in
    λ i. n % 256 ∷ n / 256 % 256 ∷ third i % 256 ∷ fourth i % 256 ∷ []

-- the last bytes of an entry, written over zeros
pub rest_put : (xs ys : List ℕ) → length xs ≡ 8 → put_mid 8 4 (xs ++ 0 ∷ 0 ∷ 0 ∷ 0 ∷ []) ys ≡ xs ++ ys
rest_put xs ys l =
    let zeros = 0 ∷ 0 ∷ 0 ∷ 0 ∷ [] in
    ap (λ t. t ++ (ys ++ drop 4 (drop 8 (xs ++ zeros)))) (take_at xs zeros 8 l) ∙ ap (λ t. xs ++ (ys ++ drop 4 t)) (drop_at xs zeros 8 l)
    ∙ ap (λ t. xs ++ t) (append-nil ys)
