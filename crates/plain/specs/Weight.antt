-- What a stand weighs beside the one that comes of it by putting lines in place of others. Assumes nothing: these are definitions.
use Rattle.std.specs.Prelude.{◌≡◌, ℕ, ◌+◌, ◌-◌, ◌*◌, ◌≤◌, true, not, ◌&&◌, leb, List, [], ◌∷◌, length, take, drop, nat_le, nat_lt}
use Rattle.plain.specs.Pattern.{pick, or, every, added_up, none_of}
use Rattle.plain.specs.House.{Line, Mark, Stand, how_many, put_lines, line_weight, stand_weight}
use Rattle.plain.specs.Promise.{distinct, ids}

-- 1 if there is a line after the bth, and another line before it than there was
abbrev pub extra_break : ℕ → ℕ → ℕ → List Line → ℕ
extra_break n a b ls = pick (nat_lt b n && or (nat_lt a b) (not (none_of ls))) 1 0

unfoldable pub PutWeight : Type 0
PutWeight =
    (s s₁ : Stand) (n a b : ℕ) (ls : List Line) → a ≤ b → b ≤ how_many s →
    distinct (ids s.lines) ≡ true → every (λ l. nat_le 1 l.id && nat_lt l.id n) s.lines ≡ true → every (λ l. leb n l.id) ls ≡ true →
    s₁.lines ≡ put_lines s a b ls →
    stand_weight s₁ s ≡ 256 + added_up line_weight (take (b - a) (drop a s.lines)) + 64 * ((b - a) + extra_break (how_many s) a b ls)

-- and the other way round, as after it is undone
unfoldable pub PutWeightBack : Type 0
PutWeightBack =
    (s s₁ : Stand) (n a b : ℕ) (ls : List Line) → 1 ≤ n → a ≤ b → b ≤ how_many s →
    distinct (ids s.lines) ≡ true → every (λ l. nat_le 1 l.id && nat_lt l.id n) s.lines ≡ true → every (λ l. leb n l.id) ls ≡ true →
    s₁.lines ≡ put_lines s a b ls →
    stand_weight s s₁ ≡ 256 + added_up line_weight ls + 64 * (length ls + extra_break (how_many s) a b ls)

-- a line of id 0 would count as none: without it the first is false
unfoldable pub ZeroDiffers : Type 0
ZeroDiffers =
    (m : List Mark) →
    stand_weight (record { lines = record { id = 1; bytes = [] } ∷ []; at = 1; marks = m }) (record { lines = record { id = 0; bytes = [] } ∷ record { id = 1; bytes = [] } ∷ []; at = 1; marks = m }) ≡ 256 + 64 + 64
