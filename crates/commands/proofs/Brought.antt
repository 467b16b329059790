-- Copies of entries of the directory: those of lines of the text, and those of a file. Assumes nothing.
use Rattle.std.proofs.Common.{◌≡◌, ℕ, ◌+◌, ◌-◌, List, ◌∷◌, ◌++◌, length, take, drop, sym, refl, ap, ◌∙◌, arith}
use Rattle.std.proofs.lemmas.List.{append_assoc, take_at, drop_at}
use Rattle.plain.specs.House.{File}
use Rattle.commands.specs.Kept.{Kept, file_lines, directory, offset}
use Rattle.commands.proofs.Lists.{flat_append, length-flat, take_past, drop_past}

pub offset_is : (fs : List File) → length (file_lines fs) ≡ offset fs
offset_is fs = length-flat (λ f. f.lines) fs

pub drop-text : (fs : List File) (text : List (List ℕ)) (n : ℕ) → drop (offset fs + n) (file_lines fs ++ text) ≡ drop n text
drop-text fs text n = ap (λ o. drop (o + n) (file_lines fs ++ text)) (sym (offset_is fs)) ∙ drop_past (file_lines fs) text n

pub take-text : (fs : List File) (text : List (List ℕ)) (n : ℕ) → take (offset fs + n) (file_lines fs ++ text) ≡ file_lines fs ++ take n text
take-text fs text n = ap (λ o. take (o + n) (file_lines fs ++ text)) (sym (offset_is fs)) ∙ take_past (file_lines fs) text n

-- lines of the text, again
pub again-text : (k : Kept) (a b : ℕ) → take ((offset k.files + b) - (offset k.files + a)) (drop (offset k.files + a) (directory k)) ≡ take (b - a) (drop a k.text)
again-text k a b =
    let e : (offset k.files + b) - (offset k.files + a) ≡ b - a = omega arith in
    let f = drop-text k.files k.text a in
    λ i. take (e i) (f i)

-- the directory around a file
pub around : (P : List File) (f : File) (R : List File) (text : List (List ℕ)) →
    file_lines (P ++ (f ∷ R)) ++ text ≡ file_lines P ++ (f.lines ++ (file_lines R ++ text))
around P f R text =
    ap (λ z. z ++ text) (flat_append (λ g. g.lines) P (f ∷ R))
    ∙ append_assoc (file_lines P) (f.lines ++ file_lines R) text
    ∙ ap (λ z. file_lines P ++ z) (append_assoc f.lines (file_lines R) text)

-- a file's lines, again
pub again_file : (k : Kept) (P : List File) (f : File) (R : List File) (n : ℕ) → k.files ≡ P ++ (f ∷ R) → n ≡ offset P →
    take ((n + length f.lines) - n) (drop n (directory k)) ≡ f.lines
again_file k P f R n e h =
    let d : directory k ≡ file_lines P ++ (f.lines ++ (file_lines R ++ k.text)) = ap (λ fs. file_lines fs ++ k.text) e ∙ around P f R k.text in
    let l : (n + length f.lines) - n ≡ length f.lines = omega arith in
    let m : drop n (directory k) ≡ f.lines ++ (file_lines R ++ k.text) = ap (drop n) d ∙ drop_at (file_lines P) _ n (offset_is P ∙ sym h) in
    (λ i. take (l i) (m i)) ∙ take_at f.lines (file_lines R ++ k.text) (length f.lines) refl
