use Rattle.std.proofs.Common.{◌≡◌, ℕ, zero, suc, ◌+◌, ◌*◌, ◌/◌, ◌^◌, ◌<◌, Bool, cond, nat_eq, nat_lt, arith, rules, ◌∙◌, sym, ap, ap₂}
use Rattle.std.proofs.Math.Nat.{div-div-eq-div-mul, pow-suc}
use Rattle.std.proofs.lemmas.Bool.{cond-true}
use Rattle.std.proofs.lemmas.Bool.Decides.{nat_tests}
use Rattle.std.proofs.lemmas.Nat.{be_bytes_8}
use Rattle.std.specs.Int.{bytes_high_first, byte_at}
use Rattle.register.specs.Orders.{bytes_before}
use Rattle.register.proofs.codes.is_before.Goals as goal

-- what stands above k bytes of a number ends in the next byte
next_byte : (n k : ℕ) → (n / 256 ^ k ≡ n / 256 ^ suc k * 256 + byte_at k n) × (byte_at k n < 256)
next_byte n zero = omega arith
next_byte n (suc k) =
    let e = div-div-eq-div-mul n (256 ^ suc k) 256 ∙ ap (λ p. n / p) (sym (pow-suc 256 (suc k))) in
    omega arith

-- two numbers, each with a byte below
one_more : (a b x y m n : ℕ) (rest : Bool) → m ≡ a * 256 + x → n ≡ b * 256 + y → x < 256 → y < 256 →
    cond (nat_eq m n) rest (nat_lt m n) ≡ cond (nat_eq a b) (cond (nat_eq x y) rest (nat_lt x y)) (nat_lt a b)
one_more a b x y m n rest e h f g = grind (arith, nat_tests)

-- of two numbers what stands above k bytes decides, and then these bytes from the highest down
less_by_bytes : (k m n : ℕ) →
    nat_lt m n ≡ cond (nat_eq (m / 256 ^ k) (n / 256 ^ k)) (bytes_before (bytes_high_first k m) (bytes_high_first k n)) (nat_lt (m / 256 ^ k) (n / 256 ^ k))
less_by_bytes zero m n = grind (arith, nat_tests)
less_by_bytes (suc k) m n =
    let p = next_byte m k in
    let q = next_byte n k in
    less_by_bytes k m n ∙ one_more _ _ _ _ _ _ (bytes_before (bytes_high_first k m) (bytes_high_first k n)) p.0 q.0 p.1 q.1

pub returns : goal.returns
returns c =
    let m = c.from_be_bytes.result in
    let n = c.from_be_bytes-2.result in
    less_by_bytes 8 m n
    ∙ cond-true (nat_eq (m / 256 ^ 8) (n / 256 ^ 8)) _ _ (grind (arith, nat_tests))
    ∙ ap₂ bytes_before (be_bytes_8 c.args.a m (search rules) (search rules) c.from_be_bytes.ensures)
    (be_bytes_8 c.args.b n (search rules) (search rules) c.from_be_bytes-2.ensures)
