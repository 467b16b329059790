-- A line in records. Assumes nothing.
use Rattle.std.proofs.Common.{◌≡◌, ℕ, zero, suc, ◌+◌, ◌-◌, ◌*◌, ◌/◌, ◌<◌, ◌≤◌, min, List, ◌++◌, length, get_or, take, drop, sym, refl, ap, ◌∙◌, arith, length-drop, length-take, take_all, drop-drop, take-add}
use Rattle.journal.specs.Log.{no_piece, pieces_of}
use Rattle.records.specs.Lines.{records_for, share, piece_at, pieces, packed, joined}
use Rattle.records.specs.Pages.{Bytes, PieceFits}
use Rattle.records.specs.Laws.{PackedRight}
use Rattle.records.proofs.Digits.{bytes_take, bytes_drop}

length-pieces : (k j : ℕ) (bs : List ℕ) → length (pieces k j bs) ≡ k
unfolding pieces
length-pieces zero j bs = refl
length-pieces (suc k) j bs = ap suc (length-pieces k (suc j) bs)

pieces-joined : (k j : ℕ) (bs : List ℕ) → joined (pieces k j bs) ≡ take (503 * k) (drop (503 * j) bs)
unfolding pieces joined
pieces-joined zero j bs = refl
pieces-joined (suc k) j bs =
    let e : 503 * suc j ≡ 503 * j + 503 = omega arith in
    let g : 503 + 503 * k ≡ 503 * suc k = omega arith in
    ap (λ t. take 503 (drop (503 * j) bs) ++ t)
    (pieces-joined k (suc j) bs ∙ ap (λ n. take (503 * k) (drop n bs)) e ∙ ap (take (503 * k)) (sym (drop-drop 503 (503 * j) bs)))
    ∙ sym (take-add 503 (503 * k) (drop (503 * j) bs)) ∙ ap (λ n. take n (drop (503 * j) bs)) g

get_or-pieces : (k j i : ℕ) (bs : List ℕ) → i < k → get_or (pieces k j bs) i no_piece ≡ piece_at bs (j + i)
unfolding pieces
get_or-pieces zero j i bs h = absurd (omega arith)
get_or-pieces (suc k) j zero bs h = ap (piece_at bs) (omega arith)
get_or-pieces (suc k) j (suc i) bs h = get_or-pieces k (suc j) i bs (omega arith) ∙ ap (piece_at bs) (omega arith)

share_is : (n j : ℕ) → min 503 (n - 503 * j) ≡ share n j
share_is n j = grind arith

-- the whole line, in pieces, as they are counted from the first
all_pieces : (bs : List ℕ) → pieces_of (packed bs) ≡ pieces (records_for (length bs)) 0 bs
unfolding pieces
all_pieces bs = ap (λ k. pieces k 0 bs) (let e : suc ((length bs - 1) / 503) ≡ 1 + (length bs - 1) / 503 = omega arith in e)

pub piece-fits : (bs : List ℕ) → length bs ≤ 1024 → Bytes bs → (j : ℕ) → j < records_for (length bs) → PieceFits j (piece_at bs j)
piece-fits bs h k j l = record {
  part = omega arith;
  long = h;
  share_is = length-take 503 (drop (503 * j) bs) ∙ ap (min 503) (length-drop (503 * j) bs) ∙ share_is (length bs) j;
  bytes = bytes_take 503 (drop (503 * j) bs) (bytes_drop (503 * j) bs k);
}

pub packed_right : (bs : List ℕ) → length bs ≤ 1024 → Bytes bs → PackedRight bs
packed_right bs h k = record {
  whole = ap joined (all_pieces bs) ∙ pieces-joined (records_for (length bs)) 0 bs ∙ take_all (503 * records_for (length bs)) bs (omega arith);
  many = ap length (all_pieces bs) ∙ length-pieces (records_for (length bs)) 0 bs;
  paid = omega arith;
  fits = piece-fits bs h k;
  each_one = λ j l. ap (λ ps. get_or ps j no_piece) (all_pieces bs) ∙ get_or-pieces (records_for (length bs)) 0 j bs l ∙ ap (piece_at bs) (omega arith);
}
