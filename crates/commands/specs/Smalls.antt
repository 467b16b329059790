-- The small numbers beside the directory, and what a commit says of them. Assumes nothing: these are definitions.
use Rattle.std.specs.Prelude.{◌≡◌, ℕ, ◌+◌, ◌-◌, ◌≤◌, Bool, List, length, nat_lt, slice_index}
use Rattle.plain.specs.Pattern.{pick, added_up}
use Rattle.commands.specs.Kept.{Kept, lines_size, sum, stand_size}
use Rattle.commands.specs.Plan.{table, look_up, Plan, Update, same_as_before, current_only, the_text, the_file}
use Rattle.journal.specs.Small.{Entry, entry, Small, small, nothing_else, push, slot, News, news, updated}

abbrev pub smalls_of : Kept → Small
smalls_of k = small (length k.text) k.at (lines_size k.text) k.ring (table k.files)

-- what a plan makes of them: `went` is what the lines weigh that are walked over, or go; `came` what those weigh that come
unfoldable pub news_by : Update → Small → Plan → ℕ → ℕ → List ℕ → News
news_by same_as_before s p went came n = news s.count s.current s.weight nothing_else
news_by current_only s p went came n = news s.count p.current s.weight nothing_else
news_by the_text s p went came n = news p.count p.current (s.weight - went + came) (push (stand_size s.count p.after p.upto went p.came))
news_by (the_file i) s p went came n = news s.count s.current s.weight (slot i (entry n p.came came))

abbrev pub entry_size : Entry → ℕ
entry_size e = 128 + length e.name + e.size

abbrev pub smalls_weight : Small → ℕ
smalls_weight s = s.weight + sum s.ring + added_up entry_size s.files

-- THE WEIGHT AFTERWARDS, from the weight before and a few numbers
-- what a full ring drops
abbrev pub oldest : List ℕ → ℕ
oldest r = pick (nat_lt (length r) 64) 0 (slice_index r 0)

abbrev pub text_total : ℕ → ℕ → ℕ → ℕ → ℕ → ℕ
text_total total went came stand dropped = total - went - dropped + came + stand

-- a new file weighs something itself
abbrev pub file_total : ℕ → Bool → ℕ → ℕ → ℕ → ℕ
file_total total found size came name = total - size + came + pick found 0 (128 + name)

unfoldable pub TotalsStand : Type 0
TotalsStand =
    (s : Small) (p : Plan) (went came : ℕ) (n : List ℕ) →
    (went ≤ s.weight →
    smalls_weight (updated (news_by the_text s p went came n) s)
    ≡ text_total (smalls_weight s) went came (stand_size s.count p.after p.upto went p.came) (oldest s.ring))
    × (smalls_weight (updated (news_by (the_file (look_up n 0 0 s.files).place) s p went came n) s)
    ≡ file_total (smalls_weight s) (look_up n 0 0 s.files).found (look_up n 0 0 s.files).size came (length n))
