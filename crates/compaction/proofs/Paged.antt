-- Pages over the front of a row: each has 512 bytes. Assumes nothing.
use Rattle.std.proofs.Common.{◌≡◌, ℕ, suc, ◌%◌, ◌≤◌, List, [], ◌∷◌, ◌++◌, length, drop, sym, ap, ◌∙◌, arith}
use lib.ListN.{length-map}
use Rattle.plain.specs.Device.{Page}
use Rattle.journal.specs.Log.{head, copy, commit, piece_in, Splice}
use Rattle.journal.specs.Small.{News}
use Rattle.records.specs.Pages.{page_of, four, entry_in, name_in, closed}
use Rattle.records.specs.Checked.{checked_record_of}
use Rattle.journal.specs.declared.commit.Also.{Also}
use Rattle.journal.specs.declared.commit.Also.TheVariants as also
use Rattle.journal.specs.declared.commit.Numbers.{Numbers}
use Rattle.records.specs.Values.{low_bytes}
use Rattle.journal.specs.Values.{also_of, news_of}
use Rattle.records.proofs.Digits.{length-closed, four_cut}
use Rattle.records.proofs.Read.{piece-short}
use Rattle.compaction.specs.Laid.{laid}

laid-over : (p : Page) (out out₁ : List ℕ) → length p ≡ 512 → out₁ ≡ p ++ drop 512 out → out₁ ≡ laid p out
laid-over p out out₁ l e = e ∙ ap (λ n. p ++ drop n out) (sym l)

-- A HEAD: four bytes are written of each number
pub head-laid : (g g₁ n : ℕ) (out out₁ : List ℕ) → g₁ ≡ g → out₁ ≡ page_of (head (g₁ % 4294967296) n) ++ drop 512 out → out₁ ≡ laid (page_of (head g n)) out
unfolding page_of
head-laid g g₁ n out out₁ e h =
    laid-over (page_of (head g n)) out out₁ (ap (λ t. suc (suc (suc (suc (suc (suc (suc (suc (suc t))))))))) (length-closed 502 [] (omega arith)))
    (h ∙ ap (λ t. (1 ∷ t ++ (four n ++ closed 502 [])) ++ drop 512 out) (four_cut g₁ ∙ ap four e))

-- A COPY of what was read
pub copy-laid : (i j : ℕ) (p : Page) (out out₁ : List ℕ) → out₁ ≡ page_of (copy i j (piece_in (checked_record_of p))) ++ drop 512 out → out₁ ≡ laid (page_of (copy i j (piece_in (checked_record_of p)))) out
unfolding page_of
copy-laid i j p out out₁ h =
    laid-over (page_of (copy i j (piece_in (checked_record_of p)))) out out₁
    (ap (λ t. suc (suc (suc (suc (suc (suc (suc (suc t)))))))) (length-closed 503 (piece_in (checked_record_of p)).bytes (piece-short p))) h

-- A COMMIT
pub commit-laid : (c : Splice) (u : News) (out out₁ : List ℕ) → length (name_in u) ≤ 64 → out₁ ≡ page_of (commit c u) ++ drop 512 out → out₁ ≡ laid (page_of (commit c u)) out
unfolding page_of
commit-laid c u out out₁ f h =
    laid-over (page_of (commit c u)) out out₁ (let l = length-closed 458 (name_in u) (omega arith) in omega (arith, l)) h

pub name_few : (n : Numbers ℕ) (cells : List ℕ) → length cells ≤ 64 → length (name_in (news_of n (low_bytes cells))) ≤ 64
name_few n cells h = by n.also
  where
    by : (a : Also ℕ) → length (entry_in (also_of a (low_bytes cells))).name ≤ 64
    by also.Nothing = omega arith
    by (also.Push w) = omega arith
    by (also.Store s l w) = simp length-map h
