-- Rows of files. Assumes nothing.
use Rattle.std.proofs.Common.{◌≡◌, ℕ, ◌+◌, ◌-◌, ◌*◌, ◌%◌, ◌<◌, ◌≤◌, List, ◌++◌, length, get_or, take, drop, sym, refl, ap, ◌∙◌, arith}
use borrow.Rule.Slice.PartMut.{put_mid}
use Rattle.std.proofs.lemmas.List.{length-take, length-drop, length-append, length-take-le, drop_at, get_or-drop}
use Rattle.plain.specs.Pattern.{eight, in_bytes, with_length}
use Rattle.journal.specs.Small.{Entry}
use Rattle.records.proofs.Writing.{written_next}
use Rattle.memory.specs.Registers.{part}
use Rattle.memory.specs.Sections.{files_in}
use Rattle.memory.specs.Abstract.{file_at, file_head, files_at}
use Rattle.memory.proofs.Filing.{file_there}

pub eight-long : (n : ℕ) → length (eight n) ≡ 8
unfolding in_bytes
eight-long n = refl

pub numbers-long : (i : ℕ) (m : List ℕ) → length m ≡ 262144 → i < 64 → length (part (67 * i) 67 (files_in m)) ≡ 67
numbers-long i m h k = simp (length-take, length-drop) (omega arith)

pub name_cells_long : (s cells : List ℕ) → length s ≡ 67 → cells ≡ take (file_head s).name (drop 3 s) → length cells ≡ (file_head s).name
name_cells_long s cells h e = ap length e ∙ length-take (get_or s 0 0 % 65) (drop 3 s) ∙ simp length-drop (omega arith)

-- room for the name behind its length
pub name-room : (n : ℕ) (a cells out : List ℕ) → length a ≡ 8 → 8 + n ≤ length out → length cells ≡ n
    → length (take (8 + n - 8) (drop 8 (a ++ drop 8 out))) ≡ length cells
name-room n a cells out h k e =
    let p : 8 + n - 8 ≡ n = omega arith in
    (λ i. length (take (p i) (drop_at a (drop 8 out) 8 h i))) ∙ length-take-le n (drop 8 out) (simp length-drop (omega arith)) ∙ sym e

front_long : (name : List ℕ) (n : ℕ) → length name ≡ n → length (with_length name) ≡ 8 + n
front_long name n h = length-append (eight (length name)) name ∙ (λ i. eight-long (length name) i + h i)

pub row-long : (name : List ℕ) (lines n : ℕ) → length name ≡ n → 8 + n + 8 ≡ length (with_length name ++ eight lines)
row-long name lines n h = sym (length-append (with_length name) (eight lines) ∙ (λ i. front_long name n h i + eight-long lines i))

pub row_written : (name : List ℕ) (lines n : ℕ) (out a b d : List ℕ) → length name ≡ n → a ≡ eight n → b ≡ name → d ≡ eight lines
    → put_mid (8 + n) (8 + n + 8 - (8 + n)) (put_mid 8 (8 + n - 8) (a ++ drop 8 out) b) d ≡ (with_length name ++ eight lines) ++ drop (8 + n + 8) out
row_written name lines n out a b d h x y z =
    let p : 8 + n - 8 ≡ n = omega arith in
    let q : 8 + n + 8 - (8 + n) ≡ 8 = omega arith in
    let w : a ≡ eight (length name) = x ∙ ap eight (sym h) in
    (λ i. put_mid (8 + n) (q i) (put_mid 8 (p i) (w i ++ drop 8 out) (y i)) (z i))
    ∙ ap (λ t. put_mid (8 + n) 8 t (eight lines)) (written_next 8 n (8 + n) (eight (length name)) name out (eight-long (length name)) refl)
    ∙ written_next (8 + n) 8 (8 + n + 8) (with_length name) (eight lines) out (front_long name n h) refl

-- file i of n
pub file_is : (i n : ℕ) (s : List ℕ) (d : Entry) → i < n → get_or (files_at n s) i d ≡ file_at (part (67 * i) 67 s)
file_is i n s d h =
    let e : i + 0 ≡ i = omega arith in
    sym (get_or-drop i (files_at n s) 0 d ∙ ap (λ k. get_or (files_at n s) k d) e) ∙ ap (λ t. get_or t 0 d) (file_there i n s h)
