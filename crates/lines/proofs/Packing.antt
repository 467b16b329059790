-- Words and their entries: what a read and a write of one entry mean for the list of all.
use Rattle.std.proofs.Common.{◌≡◌, ℕ, zero, suc, ◌+◌, ◌-◌, ◌*◌, ◌/◌, ◌%◌, ◌^◌, ◌<◌, ◌≤◌, List, [], ◌∷◌, length, get_or, set, refl, arith}
use Rattle.lines.specs.Slots.{field, packed, slots, spares, stored}
use Rattle.std.proofs.lemmas.Nat.{and_mask}
use lib.Bits.{bit_and}

-- the mask of an entry
pub masked : (n : ℕ) → bit_and n 2097151 ≡ n % 2 ^ 21
masked n = and_mask n 21

-- one word on is three entries on
div_next : (i : ℕ) → suc (suc (suc i)) / 3 ≡ suc (i / 3)
div_next i = omega arith

mod_next : (i : ℕ) → suc (suc (suc i)) % 3 ≡ i % 3
mod_next i = omega arith

pub length-slots : (ws : List ℕ) → length (slots ws) ≡ 3 * length ws
length-slots [] = refl
length-slots (w ∷ ws) = omega (arith, length-slots ws)

pub get_or-slots : (ws : List ℕ) (i : ℕ) → get_or (slots ws) i 0 ≡ field (get_or ws (i / 3) 0) (i % 3)
get_or-slots [] i = omega arith
get_or-slots (w ∷ ws) zero = refl
get_or-slots (w ∷ ws) (suc zero) = refl
get_or-slots (w ∷ ws) (suc (suc zero)) = refl
get_or-slots (w ∷ ws) (suc (suc (suc i))) = rw (div_next i, mod_next i, get_or-slots ws i)

-- an entry is a whole one: its low 21 bits are all of it
pub get_or-whole : (ws : List ℕ) (i : ℕ) → get_or (slots ws) i 0 % 2 ^ 21 ≡ get_or (slots ws) i 0
get_or-whole ws i = omega (arith, get_or-slots ws i)

pub slots-stored : (ws : List ℕ) (i v : ℕ) → slots (stored ws i v) ≡ set (slots ws) i (v % 2 ^ 21)
slots-stored [] i v = refl
slots-stored (w ∷ ws) zero v = grind arith
slots-stored (w ∷ ws) (suc zero) v = grind arith
slots-stored (w ∷ ws) (suc (suc zero)) v = grind arith
slots-stored (w ∷ ws) (suc (suc (suc i))) v = rw (div_next i, mod_next i, slots-stored ws i v)

pub spares-stored : (ws : List ℕ) (i v : ℕ) → spares (stored ws i v) ≡ spares ws
spares-stored [] i v = refl
spares-stored (w ∷ ws) zero v = grind arith
spares-stored (w ∷ ws) (suc zero) v = grind arith
spares-stored (w ∷ ws) (suc (suc zero)) v = grind arith
spares-stored (w ∷ ws) (suc (suc (suc i))) v = rw (div_next i, mod_next i, spares-stored ws i v)

-- `pack`, where u is the entry that goes and m the one that comes: u is there to be taken away
pub pack_sub : (w u k : ℕ) → k < 3 → u ≡ field w k → u * 2 ^ (21 * k) % 2 ^ 64 ≤ w
pack_sub w u zero h e = omega arith
pack_sub w u (suc zero) h e = omega arith
pack_sub w u (suc (suc zero)) h e = omega arith
pack_sub w u (suc (suc (suc k))) h e = omega arith

-- and the sum fits and is the word
pub pack_add : (w v u m k : ℕ) → k < 3 → w < 2 ^ 64 → u ≡ field w k → m ≡ v % 2 ^ 21
    → (w - u * 2 ^ (21 * k) % 2 ^ 64 + m * 2 ^ (21 * k) % 2 ^ 64 < 2 ^ 64) × (w - u * 2 ^ (21 * k) % 2 ^ 64 + m * 2 ^ (21 * k) % 2 ^ 64 ≡ packed w k v)
pack_add w v u m zero h f e b = omega arith
pack_add w v u m (suc zero) h f e b = omega arith
pack_add w v u m (suc (suc zero)) h f e b = omega arith
pack_add w v u m (suc (suc (suc k))) h f e b = omega arith
