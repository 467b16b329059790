-- A part of a line, from cells of the text. Assumes nothing.
use Rattle.std.proofs.Common.{◌≡◌, ℕ, zero, suc, ◌+◌, ◌-◌, ◌*◌, ◌%◌, ◌≤◌, min, List, [], ◌∷◌, ◌++◌, length, take, drop, sym, ap, ◌∙◌, inl, inr, arith}
use lib.Seq.{take-nil}
use Rattle.std.proofs.lemmas.List.{length-take, length-drop, length-take-le, drop-drop}
use Rattle.std.proofs.lemmas.Bool.{cases_lt}
use Rattle.journal.specs.Log.{line, piece}
use Rattle.records.specs.Pages.{page_of}
use Rattle.records.specs.Values.{low_bytes}
use Rattle.records.proofs.Digits.{length-closed}
use Rattle.records.proofs.Read.{line_cut}
use Rattle.engine.specs.Packing.{piece_of}
use Rattle.memory.specs.Sections.{cells_in}
use Rattle.memory.specs.Abstract.{text_of}
use Rattle.memory.proofs.Texting.{text-long}
use Rattle.memory.proofs.Worded.{cells_text}

drop_of_take : (k a : ℕ) (xs : List ℕ) → drop k (take a xs) ≡ take (a - k) (drop k xs)
drop_of_take zero a xs = ap (λ n. take n xs) (omega arith)
drop_of_take (suc k) zero xs = let e : 0 ≡ 0 - suc k = omega arith in ap (λ n. take n (drop (suc k) xs)) e
drop_of_take (suc k) (suc a) [] = sym (take-nil (suc a - suc k))
drop_of_take (suc k) (suc a) (x ∷ xs) = let e : a - k ≡ suc a - suc k = omega arith in drop_of_take k a xs ∙ ap (λ n. take n (drop k xs)) e

take_of_take : (a b : ℕ) (xs : List ℕ) → take a (take b xs) ≡ take (min a b) xs
take_of_take zero b xs = let e : 0 ≡ min 0 b = omega arith in ap (λ n. take n xs) e
take_of_take (suc a) zero xs = let e : 0 ≡ min (suc a) 0 = omega arith in ap (λ n. take n xs) e
take_of_take (suc a) (suc b) [] = sym (take-nil (min (suc a) (suc b)))
take_of_take (suc a) (suc b) (x ∷ xs) =
    let e : suc (min a b) ≡ min (suc a) (suc b) = omega arith in ap (λ t. x ∷ t) (take_of_take a b xs) ∙ ap (λ n. take n (x ∷ xs)) e

-- the cells of a part
share_is : (t : List ℕ) (F T K b n : ℕ) → F ≤ T → b ≡ min (F + K) T → n ≡ min (T - b) 503
    → take n (drop b t) ≡ take 503 (drop K (take (T - F) (drop F t)))
share_is t F T K b n h e f = elim (cases_lt T (F + K)) [
  | inl g ↦ let x : n ≡ 0 = omega arith in let y : 0 ≡ min 503 (T - F - K) = omega arith in
      ap (λ q. take q (drop b t)) x ∙ ap (λ q. take q (drop (F + K) t)) y ∙ rest
  | inr g ↦ let x : n ≡ min 503 (T - F - K) = omega arith in let y : b ≡ F + K = omega arith in (λ i. take (x i) (drop (y i) t)) ∙ rest
]
  where
    rest : take (min 503 (T - F - K)) (drop (F + K) t) ≡ take 503 (drop K (take (T - F) (drop F t)))
    rest = sym (ap (take 503) (drop_of_take K (T - F) (drop F t)) ∙ take_of_take 503 (T - F - K) (drop K (drop F t)) ∙ ap (take (min 503 (T - F - K))) (drop-drop K F t))

-- a page has 16 bits for the length of the line
pub piece_put : (m cells out out₁ : List ℕ) (F T part b n text : ℕ) → length m ≡ 262144 → F ≤ T → T ≤ text → text ≤ 65536
    → b ≡ min (F + 503 * part) T → n ≡ min (T - b) 503 → cells ≡ take n (drop b (cells_in m))
    → out₁ ≡ page_of (line (part % 256) (piece ((T - F) % 65536) (low_bytes cells))) ++ drop 512 out
    → out₁ ≡ page_of (line (part % 256) (piece_of (take (T - F) (drop F (text_of text m))) part)) ++ drop 512 out
piece_put m cells out out₁ F T part b n text h order within few e f g q =
    let t = text_of text m in
    let l : length t ≡ text = text-long text m h few in
    let d : length (take (T - F) (drop F t)) ≡ T - F = length-take-le (T - F) (drop F t) (simp length-drop (omega arith)) in
    let bs : low_bytes cells ≡ take 503 (drop (503 * part) (take (T - F) (drop F t))) =
    ap low_bytes g ∙ cells_text b n text m (omega arith) ∙ share_is t F T (503 * part) b n order e f in
    q ∙ ap (λ p. p ++ drop 512 out) (line_cut (part % 256) (T - F) (low_bytes cells) ∙ (λ i. page_of (line (part % 256) (piece (sym d i) (bs i)))))

pub line-long : (j k : ℕ) (l : List ℕ) → length (page_of (line j (piece_of l k))) ≡ 512
unfolding page_of
line-long j k l =
    let few = length-take 503 (drop (503 * k) l) in
    let n = length-closed 503 (take 503 (drop (503 * k) l)) (omega arith) in
    omega arith
