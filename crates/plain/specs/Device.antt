-- Two tapes on which a record can only be put at the end, or which are begun anew; and what a stop may leave of the last records. Assumes nothing:
-- these are definitions.
use Rattle.std.specs.Prelude.{ℕ, zero, suc, ◌+◌, ◌-◌, Bool, ◌&&◌, ltb, List, [], ◌∷◌, ◌++◌, length, take, drop, ◌==◌, nat_lt, slice_index}
use Rattle.plain.specs.Pattern.{pick, every}

abbrev pub Page : Type 0
Page = List ℕ

-- records that are there, the last so many of which might still go
pub record Tape : Type 0 where
  pub records : List Page
  pub loose : ℕ

pub record Device : Type 0 where
  pub first : Tape
  pub second : Tape
  pub room : ℕ  -- how many records a tape has room for

abbrev pub tape : List Page → ℕ → Tape
tape rs n = record { records = rs; loose = n }

abbrev pub tape_of : Device → ℕ → Tape
tape_of d t = pick (t == 0) d.first d.second

abbrev pub with_tape : Device → ℕ → Tape → Device
with_tape d t x = pick (t == 0) (record { first = x; second = d.second; room = d.room }) (record { first = d.first; second = x; room = d.room })

unfoldable pub nth_record : List Page → ℕ → Page
nth_record [] k = []
nth_record (r ∷ rs) zero = r
nth_record (r ∷ rs) (suc k) = nth_record rs k

-- a record, or nothing behind the last
abbrev pub read_record : Device → ℕ → ℕ → Page
read_record d t k = nth_record (tape_of d t).records k

abbrev pub longer : Device → ℕ → Page → Device
longer d t p = with_tape d t (tape ((tape_of d t).records ++ p ∷ []) (suc (tape_of d t).loose))

-- all that's on it is fast then
abbrev pub fastened : Device → ℕ → Device
fastened d t = with_tape d t (tape (tape_of d t).records 0)

abbrev pub anew : Device → ℕ → Device
anew d t = with_tape d t (tape [] 0)

abbrev pub lesser : ℕ → ℕ → ℕ
lesser a b = pick (nat_lt a b) a b

unfoldable pub so_many_of : {A : Type 0} → ℕ → A → List A
so_many_of zero x = []
so_many_of (suc n) x = x ∷ so_many_of n x

-- a record of which only the first half came there
unfoldable pub half : List Page → List Page
half [] = []
half (r ∷ rs) = (take 256 r ++ so_many_of 256 0) ∷ []

-- a stop: of a tape's loose records the first so many stay, and of the next one, if that's said with 1, the first half
abbrev pub left : Tape → ℕ → ℕ → Tape
left x n h =
    let fast : ℕ = length x.records - x.loose in
    tape (take (fast + lesser n x.loose) x.records ++ pick (h == 1) (half (drop (fast + lesser n x.loose) x.records)) []) 0

abbrev pub stopped : Device → List ℕ → Device
stopped d cs = record { first = left d.first (slice_index cs 0) (slice_index cs 1); second = left d.second (slice_index cs 2) (slice_index cs 3); room = d.room }

abbrev pub fresh : ℕ → Device
fresh n = record { first = tape [] 0; second = tape [] 0; room = n }

abbrev pub a_page : Page → Bool
a_page p = length p == 512 && every (λ b. ltb b 256) p
