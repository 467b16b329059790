-- What is kept from command to command: the lines of the text and of the files, the current line, and the weights of what was before. Assumes nothing:
-- these are definitions.
use Rattle.std.specs.Prelude.{◌≡◌, ℕ, ◌+◌, ◌-◌, ◌*◌, ◌≤◌, Bool, true, not, ◌&&◌, List, [], ◌∷◌, ◌++◌, length, nat_le, nat_lt}
use Rattle.plain.specs.Pattern.{pick, or, every, any, flat, added_up, same, all_bytes}
use Rattle.plain.specs.House.{File}

pub record Kept : Type 0 where
  pub text : List (List ℕ)
  pub at : ℕ  -- the current line, from 1; 0 if there is none
  pub files : List File
  pub ring : List ℕ  -- what each earlier stand weighs, the oldest first, up to 64

abbrev pub kept : List (List ℕ) → ℕ → List File → List ℕ → Kept
kept t n fs r = record { text = t; at = n; files = fs; ring = r }

abbrev pub nothing_kept : Kept
nothing_kept = kept [] 0 [] []

-- WEIGHTS
abbrev pub line_size : List ℕ → ℕ
line_size l = 64 + length l

abbrev pub lines_size : List (List ℕ) → ℕ
lines_size ls = added_up line_size ls

abbrev pub file_size : File → ℕ
file_size f = 128 + length f.name + lines_size f.lines

abbrev pub sum : List ℕ → ℕ
sum ns = added_up (λ n. n) ns

abbrev pub kept_weight : Kept → ℕ
kept_weight k = lines_size k.text + sum k.ring + added_up file_size k.files

-- 1 if a line stands after the bth, and another line before it than there was
abbrev pub moved_on : ℕ → ℕ → ℕ → ℕ → ℕ
moved_on count a b came = pick (nat_lt b count && or (nat_lt a b) (nat_lt 0 came)) 1 0

-- what a stand weighs after which the lines from a to b of `count`, weighing `went`, were replaced by `came` new ones
abbrev pub stand_size : ℕ → ℕ → ℕ → ℕ → ℕ → ℕ
stand_size count a b went came = 256 + went + 64 * ((b - a) + moved_on count a b came)

-- THE DIRECTORY: the lines of all files, file after file, and then those of the text
abbrev pub file_lines : List File → List (List ℕ)
file_lines fs = flat (λ f. f.lines) fs

abbrev pub directory : Kept → List (List ℕ)
directory k = file_lines k.files ++ k.text

-- where the text begins there
abbrev pub offset : List File → ℕ
offset fs = added_up (λ f. length f.lines) fs

-- WHAT FITS
abbrev pub fit_line : List ℕ → Bool
fit_line l = nat_le (length l) 1024 && all_bytes l

abbrev pub fit_lines : List (List ℕ) → Bool
fit_lines ls = every fit_line ls

abbrev pub fit_name : List ℕ → Bool
fit_name n = nat_le (length n) 64 && all_bytes n

abbrev pub fit_file : File → Bool
fit_file f = fit_name f.name && fit_lines f.lines

unfoldable pub other_names : List File → Bool
other_names [] = true
other_names (f ∷ fs) = not (any (λ g. same g.name f.name) fs) && other_names fs

pub record Sound (k : Kept) : Type 0 where
  pub lines_fit : fit_lines k.text ≡ true
  pub files_fit : every fit_file k.files ≡ true
  pub few_files : length k.files ≤ 64
  pub names_differ : other_names k.files ≡ true
  pub current : k.at ≤ length k.text
  pub few_stands : length k.ring ≤ 64
