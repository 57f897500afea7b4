-- The place of a key in a list. Assumes nothing.
use Rattle.std.specs.Prelude.{◌≡◌, ℕ, suc, ◌<◌, Bool, cond, not, ◌&&◌, List, [], ◌∷◌, length, Some, None, Option, ◌==◌, ◌≢◌, nat_le, slice_index_or}
use Rattle.std.specs.Option.{option_map}
use Rattle.register.specs.Orders.{climbs}

-- What a register of up to n keys can be made from: 1 to n keys in rising order.
abbrev pub registrable : {K : Type 0} → (K → K → Bool) → ℕ → List K → Bool
registrable before n keys = not (length keys == 0) && (nat_le (length keys) n && climbs before keys)

-- Two keys are the same if neither is before the other.
abbrev pub same : {K : Type 0} → (K → K → Bool) → K → K → Bool
same before a b = not (before a b) && not (before b a)

-- The place, from 0, of the first element that passes a test.
abbrev pub first_place : {K : Type 0} → (K → Bool) → List K → Option ℕ
first_place p [] = None
first_place p (k ∷ ks) = cond (p k) (Some 0) (option_map suc (first_place p ks))

-- The place of a key in a list.
abbrev pub place_of : {K : Type 0} → (K → K → Bool) → List K → K → Option ℕ
place_of before keys key = first_place (λ k. same before k key) keys

-- What a place means: the key stands there; none is given exactly if it stands nowhere.
abbrev pub Placed : {K : Type 0} → List K → K → Option ℕ → Type 0
Placed keys key None = (i : ℕ) → i < length keys → slice_index_or keys i key ≢ key
Placed keys key (Some i) = (i < length keys) × (slice_index_or keys i key ≡ key)
