-- A commit as it is written. Assumes nothing.
use Rattle.std.proofs.Common.{◌≡◌, ℕ, suc, ◌-◌, ◌≤◌, List, [], ◌∷◌, ◌++◌, length, take, drop, set, sym, refl, ap, ◌∙◌, arith}
use borrow.Rule.Slice.PartMut.{put_mid}
use lib.ListN.{length-map}
use Rattle.journal.specs.Log.{commit}
use Rattle.journal.specs.declared.commit.Splice.{Splice}
use Rattle.journal.specs.declared.commit.Also.{Also}
use Rattle.journal.specs.declared.commit.Also.TheVariants.{Nothing, Push, Store}
use Rattle.journal.specs.declared.commit.Numbers.{Numbers}
use Rattle.records.specs.Pages.{fours, closed, source_kind, source_from, source_to, also_kind, also_number, entry_in, name_in, commit_numbers, page_of}
use Rattle.records.specs.Values.{low_bytes, name_for}
use Rattle.journal.specs.Values.{source_of, splice_of, also_of, news_of}
use Rattle.records.proofs.Writing.{written_first, written_next, page-closed}

name_is : (a : Also ℕ) (cells : List ℕ) → low_bytes (name_for a cells) ≡ (entry_in (also_of a (low_bytes cells))).name
name_is Nothing cells = refl
name_is (Push weight) cells = refl
name_is (Store slot lines weight) cells = refl

module _ (s : Splice ℕ) (n : Numbers ℕ) (cells name : List ℕ) where
  abbrev pub SourceNumbers : ℕ × ℕ × ℕ → Type 0
  SourceNumbers src = src ≡ (source_kind (source_of s.source), source_from (source_of s.source), source_to (source_of s.source))

  abbrev pub AlsoNumbers : ℕ × ℕ × ℕ × ℕ → Type 0
  AlsoNumbers al =
      let a = also_of n.also (low_bytes cells) in
      al ≡ (also_kind a, also_number a, (entry_in a).lines, (entry_in a).size)

  abbrev pub first_numbers : ℕ × ℕ × ℕ → List ℕ
  first_numbers src = fours (s.from ∷ s.gone ∷ src.0 ∷ src.1 ∷ src.2 ∷ [])

  abbrev pub more_numbers : ℕ × ℕ × ℕ × ℕ → ℕ → List ℕ
  more_numbers al k = fours (n.count ∷ n.current ∷ n.weight ∷ al.0 ∷ al.1 ∷ al.2 ∷ al.3 ∷ k ∷ [])

  pub commit_written :
      (src : ℕ × ℕ × ℕ) (al : ℕ × ℕ × ℕ × ℕ) (out a b rest : List ℕ) → SourceNumbers src → AlsoNumbers al → name ≡ name_for n.also cells →
      a ≡ first_numbers src → b ≡ more_numbers al (length name) → 512 ≤ length out →
      rest ≡ closed (length (take 459 (drop 53 (put_mid 21 32 (put_mid 1 20 (set out 0 4) a) b))) - 1) (low_bytes name) →
      put_mid 53 459 (put_mid 21 32 (put_mid 1 20 (set out 0 4) a) b) rest ≡ page_of (commit (splice_of s) (news_of n (low_bytes cells))) ++ drop 512 out
  unfolding page_of
  commit_written src al out a b rest x y z p q h r =
      let u = news_of n (low_bytes cells) in
      let named : low_bytes name ≡ name_in u = ap low_bytes z ∙ name_is n.also cells in
      let long : length name ≡ length (name_in u) = sym (length-map name _) ∙ ap length named in
      let front : List ℕ = 4 ∷ fours (commit_numbers (splice_of s) u) in
      let l : length (4 ∷ a) ≡ 21 = ap (λ t. suc (length t)) p in
      let written : (4 ∷ a) ++ b ≡ front = (λ i. (4 ∷ p i) ++ q i) ∙ (λ i. (4 ∷ first_numbers (x i)) ++ more_numbers (y i) (long i)) in
      page-closed 53 458 front (name_in u) out (put_mid 21 32 (put_mid 1 20 (set out 0 4) a) b) rest
      (ap (λ t. put_mid 21 32 t b) (written_first 4 20 a out (omega arith)) ∙ written_next 21 32 53 (4 ∷ a) b out l refl ∙ ap (λ t. t ++ drop 53 out) written)
      refl refl h (r ∙ ap (closed (length (take 459 (drop 53 (put_mid 21 32 (put_mid 1 20 (set out 0 4) a) b))) - 1)) named)
