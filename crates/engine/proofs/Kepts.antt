-- What is kept fits, as long as it is no heavier than a sixteenth of a tape. Assumes nothing.
use Rattle.std.proofs.Common.{◌≡◌, ℕ, ◌*◌, ◌<◌, ◌≤◌, true, List, [], ◌∷◌, length, refl, arith}
use Rattle.std.proofs.lemmas.Bool.{and_parts, and_from, lt-ltb}
use Rattle.plain.specs.Pattern.{every, added_up}
use Rattle.plain.specs.House.{File}
use Rattle.plain.proofs.Basics.{length_each}
use Rattle.commands.specs.Kept.{Kept, kept_weight, lines_size, sum, file_size, fit_file, fit_name, fit_lines, directory, Sound}
use Rattle.commands.specs.Plan.{entry_of, table}
use Rattle.commands.specs.Smalls.{smalls_of}
use Rattle.engine.specs.Fits.{words, entry_fits, SmallFits, ReplayFits}
use Rattle.engine.proofs.Shares.{directory_weighs, lines_few}

few_lines : (ls : List (List ℕ)) → length ls ≤ lines_size ls
few_lines [] = omega arith
few_lines (l ∷ ls) = let a = few_lines ls in omega arith

sum-words : (B : ℕ) (ns : List ℕ) → B < 4294967296 → sum ns ≤ B → words ns ≡ true
sum-words B [] b h = refl
sum-words B (n ∷ ns) b h = and_from _ _ (lt-ltb n 4294967296 (omega arith)) (sum-words B ns b (omega arith))

files-words : (B : ℕ) (fs : List File) → B < 4294967296 → added_up file_size fs ≤ B → every fit_file fs ≡ true → every entry_fits (table fs) ≡ true
files-words B [] b h e = refl
files-words B (f ∷ fs) b h e =
    let p = and_parts (fit_file f) (every fit_file fs) e in
    let q = and_parts (fit_name f.name) (fit_lines f.lines) p.0 in
    let l = few_lines f.lines in
    and_from (entry_fits (entry_of f)) (every entry_fits (table fs))
    (and_from _ _ q.0 (and_from _ _ (lt-ltb (length f.lines) 4294967296 (omega arith)) (lt-ltb (lines_size f.lines) 4294967296 (omega arith))))
    (files-words B fs b (omega arith) p.1)

pub small-fits : (k : Kept) → Sound k → kept_weight k ≤ 33554432 → SmallFits (smalls_of k)
small-fits k s h =
    let l = few_lines k.text in
    let c = s.current in
    record {
      count = omega arith;
      current = omega arith;
      weight = omega arith;
      ring_few = s.few_stands;
      ring = sum-words (kept_weight k) k.ring (omega arith) (omega arith);
      files_few = omega (arith, length_each entry_of k.files, s.few_files);
      files = files-words (kept_weight k) k.files (omega arith) (omega arith) s.files_fit;
    }

pub directory_few : (R : ℕ) (k : Kept) → kept_weight k ≤ 32 * R → R ≤ 1048576 → length (directory k) ≤ 524288
directory_few R k h r = let a = directory_weighs k in let b = lines_few (directory k) in omega arith

pub kept-fits : (R p : ℕ) (k : Kept) → Sound k → kept_weight k ≤ 32 * R → R ≤ 1048576 → p ≤ 65536 → ReplayFits (length (directory k)) p (smalls_of k)
kept-fits R p k s h r q = record { entries_few = directory_few R k h r; pending_few = q; small = small-fits k s (omega arith) }
