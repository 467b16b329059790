-- Sums over the ring and the table of files, before and after a commit. Assumes nothing.
use Rattle.std.proofs.Common.{◌≡◌, ℕ, zero, suc, ◌+◌, ◌-◌, ◌*◌, ◌<◌, ◌≤◌, List, [], ◌∷◌, ◌++◌, length, get_or, take, drop, sym, refl, ap, ◌∙◌, subst, inl, inr, arith}
use Rattle.std.proofs.lemmas.List.{drop_all}
use Rattle.std.proofs.lemmas.Bool.{lt-ltb, le-ltb, cases_lt}
use Rattle.plain.specs.Pattern.{added_up}
use Rattle.plain.proofs.Basics.{added_append}
use Rattle.journal.specs.Small.{Entry, pushed, ring_by, files_by}
use Rattle.commands.specs.Kept.{sum}
use Rattle.commands.specs.Smalls.{entry_size, oldest}
use Rattle.memory.specs.Registers.{part}
use Rattle.memory.specs.Sections.{files_in}
use Rattle.memory.specs.Abstract.{file_at, file_head, files_of}
use Rattle.memory.specs.declared.small.File.{File}
use Rattle.memory.proofs.Filing.{file_there, name-long, length-files}
use Rattle.memory.proofs.Parted.{length_part}
use Rattle.journal.specs.declared.commit.Also.{Also}
use Rattle.journal.specs.declared.commit.Also.TheVariants.{Push, Store}
use Rattle.journal.specs.Values.{also_of}
use Rattle.execution.specs.Room.{Light, AlsoLight}

-- THE RING
sum_first : (r : List ℕ) → get_or r 0 0 + sum (drop 1 r) ≡ sum r
sum_first [] = refl
sum_first (n ∷ r) = refl

pub sum-pushed : (r : List ℕ) (n : ℕ) → sum (pushed r n) + oldest r ≡ sum r + n
sum-pushed r n =
    elim (cases_lt (length r) 64) [
      | inl l ↦ rw (lt-ltb (length r) 64 l) (let e = added_append (λ m. m) r (n ∷ []) in omega arith)
      | inr l ↦ rw (le-ltb (length r) 64 l) (let e = added_append (λ m. m) (drop 1 r) (n ∷ []) in let f = sum_first r in omega arith)
    ]

pub oldest_less : (r : List ℕ) → oldest r ≤ sum r
oldest_less r =
    elim (cases_lt (length r) 64) [
      | inl l ↦ rw (lt-ltb (length r) 64 l) (omega arith)
      | inr l ↦ rw (le-ltb (length r) 64 l) (let f = sum_first r in omega arith)
    ]

-- what a push makes of the sum
pub ring-then : (also : Also ℕ) (pushed w old : ℕ) (r : List ℕ) → also ≡ Push pushed → w ≡ sum r → old ≡ oldest r
    → (name : List ℕ) → w - old + pushed ≡ sum (ring_by (also_of also name) r)
ring-then also p w old r e ew eo name =
    let a = sum-pushed r p in
    let b = oldest_less r in
    let q : w - old + p ≡ sum (ring_by (also_of (Push p) name) r) = omega (arith, a, b, ew, eo) in
    q ∙ ap (λ x. sum (ring_by (also_of x name) r)) (sym e)

pub push_light : (also : Also ℕ) (pushed : ℕ) → also ≡ Push pushed → AlsoLight also → Light pushed
push_light also p e l = subst AlsoLight e l

-- THE TABLE
pub slot-sum : (f : Entry → ℕ) (i : ℕ) (es : List Entry) (e : Entry)
    → added_up f (take i es ++ (e ∷ drop (suc i) es)) + added_up f (take 1 (drop i es)) ≡ added_up f es + f e
slot-sum f zero [] e = omega arith
slot-sum f zero (x ∷ es) e = omega arith
slot-sum f (suc i) [] e = omega arith
slot-sum f (suc i) (x ∷ es) e = let r = slot-sum f i es e in omega arith

pub slot_less : (f : Entry → ℕ) (i : ℕ) (es : List Entry) → added_up f (take 1 (drop i es)) ≤ added_up f es
slot_less f zero [] = omega arith
slot_less f zero (x ∷ es) = omega arith
slot_less f (suc i) [] = omega arith
slot_less f (suc i) (x ∷ es) = let r = slot_less f i es in omega arith

-- what a file in its place makes of the sum
pub files-then : (also : Also ℕ) (slot lines size w old name : ℕ) (es : List Entry) → also ≡ Store slot lines size → w ≡ added_up entry_size es
    → old ≡ added_up entry_size (take 1 (drop slot es)) → (bs : List ℕ) → length bs ≡ name
    → w - old + (128 + name + size) ≡ added_up entry_size (files_by (also_of also bs) es)
files-then also slot lines size w old name es e ew eo bs n =
    let a = slot-sum entry_size slot es (record { name = bs; lines = lines; size = size }) in
    let b = slot_less entry_size slot es in
    let q : w - old + (128 + name + size) ≡ added_up entry_size (files_by (also_of (Store slot lines size) bs) es) = omega (arith, a, b, ew, eo, n) in
    q ∙ ap (λ x. added_up entry_size (files_by (also_of x bs) es)) (sym e)

pub store_light : (also : Also ℕ) (slot lines size : ℕ) → also ≡ Store slot lines size → AlsoLight also → Light size
store_light also slot lines size e l = subst AlsoLight e l

-- THE FILE IN A PLACE
pub none_at : (files slot : ℕ) (m : List ℕ) → files ≤ slot → 0 ≡ added_up entry_size (take 1 (drop slot (files_of files m)))
none_at files slot m h =
    ap (λ t. added_up entry_size (take 1 t)) (sym (drop_all slot (files_of files m) (omega (arith, length-files files (files_in m)))))

pub weight-there : (files slot : ℕ) (m : List ℕ) (x : File) → length m ≡ 262144 → slot < files → files ≤ 64
    → x ≡ file_head (part (67 * slot) 67 (files_in m)) → 128 + x.name + x.size ≡ added_up entry_size (take 1 (drop slot (files_of files m)))
weight-there files slot m x h g k e =
    let s = part (67 * slot) 67 (files_in m) in
    let t = length_part 128 4288 m (omega arith) in
    let l : length s ≡ 67 = length_part (67 * slot) 67 (files_in m) (omega arith) in
    let n : x.name ≡ length (file_at s).name = ap (λ f. f.name) e ∙ sym (name-long s l) in
    let z : x.size ≡ (file_at s).size = ap (λ f. f.size) e in
    let v : 128 + x.name + x.size ≡ entry_size (file_at s) + 0 = omega (arith, n, z) in
    v ∙ ap (λ u. added_up entry_size (take 1 u)) (sym (file_there slot files (files_in m) g))
