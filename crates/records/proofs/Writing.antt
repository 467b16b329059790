-- Bytes written over parts of a list, from its front on. Assumes nothing.
use Rattle.std.proofs.Common.{◌≡◌, ℕ, suc, ◌+◌, ◌-◌, ◌*◌, ◌<◌, ◌≤◌, List, [], ◌∷◌, ◌++◌, map, length, get_or, take, drop, set, replicate, sym, refl, ap, ◌∙◌, append_assoc, append-nil, map-id, arith, length-append, length-drop}
use borrow.Rule.Slice.PartMut.{put_mid}
use lib.ListN.{length-replicate, length-map}
use Rattle.std.proofs.lemmas.List.{map_more, take_more, drop_more, set_at, take_all, drop_all, length-take-le, take_at, drop_at, drop-drop}
use Rattle.journal.specs.Log.{Piece, copy}
use Rattle.records.specs.Pages.{two, four, fours, closed, recopied, page_of}

-- cells, one after the other
module _ {A : Type 0} (f : A → ℕ) (cells : List A) (out : List ℕ) (i : ℕ) where
  pub laid : (x : A) → i < length cells → i < length out → set (map f (take i cells) ++ drop i out) i (f (get_or cells i x)) ≡ map f (take (i + 1) cells) ++ drop (i + 1) out
  laid x h k =
      let n : length (map f (take i cells)) ≡ i = length-map _ _ ∙ length-take-le i cells (omega arith) in
      rw (drop_more out i 0, map_more f cells i x, append_assoc) (set_at (map f (take i cells)) (get_or out i 0) (drop (i + 1) out) (f (get_or cells i x)) i n)

  pub laid_all : length cells ≤ i → length out ≡ length cells → map f (take i cells) ++ drop i out ≡ map f cells
  laid_all h k = rw (take_all i cells h, drop_all i out (omega arith)) (append-nil (map f cells))

-- numbers, one after the other
pub length-fours : (ns : List ℕ) → length (fours ns) ≡ 4 * length ns
length-fours [] = refl
length-fours (n ∷ ns) = let r = length-fours ns in omega arith

pub fours-append : (ms ns : List ℕ) → fours (ms ++ ns) ≡ fours ms ++ fours ns
fours-append [] ns = refl
fours-append (m ∷ ms) ns = ap (λ t. four m ++ t) (fours-append ms ns) ∙ sym (append_assoc (four m) (fours ms) (fours ns))

-- what was written so far, and the next part
pub written_next : (h m e : ℕ) (front part out : List ℕ) → length front ≡ h → h + m ≡ e → put_mid h m (front ++ drop h out) part ≡ (front ++ part) ++ drop e out
written_next h m e front part out l q = rw (take_at front (drop h out) h l, drop_at front (drop h out) h l, drop-drop m h out, q) (sym (append_assoc front part (drop e out)))

pub written_first : (k m : ℕ) (part out : List ℕ) → 0 < length out → put_mid 1 m (set out 0 k) part ≡ (k ∷ part) ++ drop (suc m) out
written_first k m part [] h = absurd (omega arith)
written_first k m part (x ∷ out) h = refl

pub fours_next : (ns out : List ℕ) (i e : ℕ) → i < length ns → 4 * i + 4 ≡ e →
    put_mid (4 * i) 4 (fours (take i ns) ++ drop (4 * i) out) (four (get_or ns i 0)) ≡ fours (take (i + 1) ns) ++ drop e out
fours_next ns out i e h q =
    let l : length (fours (take i ns)) ≡ 4 * i = length-fours (take i ns) ∙ ap (λ n. 4 * n) (length-take-le i ns (omega arith)) in
    written_next (4 * i) 4 e (fours (take i ns)) (four (get_or ns i 0)) out l q
    ∙ ap (λ t. t ++ drop e out) (sym (ap fours (take_more ns i 0 h) ∙ fours-append (take i ns) (get_or ns i 0 ∷ [])))

pub fours_all : (ns out : List ℕ) (i : ℕ) → length ns ≤ i → length out ≡ 4 * length ns → fours (take i ns) ++ drop (4 * i) out ≡ fours ns
fours_all ns out i h k = rw (take_all i ns h, drop_all (4 * i) out (omega arith)) (append-nil (fours ns))

-- the end of a page
last_set : (t front out : List ℕ) (e : ℕ) → t ≡ front ++ drop e out → length front ≡ e → e + 1 ≡ length out → set t (length t - 1) 1 ≡ front ++ 1 ∷ []
last_set t front out e q l h =
    let y : drop e out ≡ get_or out e 0 ∷ [] = drop_more out e 0 (omega arith) ∙ ap (λ z. get_or out e 0 ∷ z) (drop_all (e + 1) out (omega arith)) in
    let n : length (front ++ get_or out e 0 ∷ []) - 1 ≡ e = simp length-append (omega arith) in
    rw (q, y, n) (set_at front (get_or out e 0) [] 1 e l)

pub closed_is :
    (bs xs out zs : List ℕ) (n e : ℕ) → length bs ≡ n → xs ≡ bs → e + 1 ≡ length out → n ≤ e → zs ≡ replicate (e - n) 0 →
    set (put_mid n (e - n) (xs ++ drop n out) zs) (length (put_mid n (e - n) (xs ++ drop n out) zs) - 1) 1 ≡ closed e bs
closed_is bs xs out zs n e b x l h q =
    let z : length (bs ++ zs) ≡ e = length-append bs zs ∙ ap (λ t. length bs + length t) q ∙ ap (λ m. length bs + m) (length-replicate {A = ℕ} (e - n) 0) ∙ (omega arith) in
    last_set (put_mid n (e - n) (xs ++ drop n out) zs) (bs ++ zs) out e
    (ap (λ t. put_mid n (e - n) (t ++ drop n out) zs) x ∙ written_next n (e - n) e bs zs out b (omega arith)) z l
    ∙ append_assoc bs zs (1 ∷ []) ∙ ap (λ t. bs ++ (t ++ 1 ∷ [])) (q ∙ ap (λ m. replicate (e - m) 0) (sym b))

pub rest_long : (n e : ℕ) (front out : List ℕ) → length front ≡ n → e ≤ length out → length (take (e - n) (drop n (front ++ drop n out))) ≡ e - n
rest_long n e front out l h = rw (drop_at front (drop n out) n l) (length-take-le (e - n) (drop n out) (simp length-drop (omega arith)))

-- what was written so far, and the end of the page, which is given by how long the part was that it was written to
pub page-closed :
    (h m : ℕ) (front bs out mid rest : List ℕ) → mid ≡ front ++ drop h out → length front ≡ h → h + suc m ≡ 512 → 512 ≤ length out →
    rest ≡ closed (length (take (suc m) (drop h mid)) - 1) bs → put_mid h (suc m) mid rest ≡ (front ++ closed m bs) ++ drop 512 out
page-closed h m front bs out mid rest e l q k r =
    let n : length (take (suc m) (drop h mid)) - 1 ≡ m =
    ap (λ t. length (take (suc m) (drop h t)) - 1) e ∙ ap (λ t. length (take (suc m) t) - 1) (drop_at front (drop h out) h l)
    ∙ ap (λ t. t - 1) (length-take-le (suc m) (drop h out) (simp length-drop (omega arith))) ∙ (omega arith) in
    ap (λ t. put_mid h (suc m) t rest) e ∙ written_next h (suc m) 512 front rest out l q ∙ ap (λ t. (front ++ t) ++ drop 512 out) (r ∙ ap (λ t. closed t bs) n)

pub recopied_written :
    (i : ℕ) (p out a b e : List ℕ) → 512 ≤ length p → 512 ≤ length out → a ≡ take 3 (drop 1 p) → b ≡ four i → e ≡ take 504 (drop 8 p) →
    put_mid 8 504 (put_mid 4 4 (put_mid 1 3 (set out 0 3) a) b) e ≡ recopied i p ++ drop 512 out
unfolding recopied
recopied_written i p out a b e l h x y z =
    let n : length (3 ∷ a) ≡ 4 = ap (λ t. suc (length t)) x ∙ ap suc (length-take-le 3 (drop 1 p) (simp length-drop (omega arith))) in
    let m : length ((3 ∷ a) ++ b) ≡ 8 = length-append (3 ∷ a) b ∙ ap (λ t. length (3 ∷ a) + length t) y ∙ ap (λ k. k + 4) n in
    ap (λ t. put_mid 8 504 (put_mid 4 4 t b) e) (written_first 3 3 a out (omega arith)) ∙ ap (λ t. put_mid 8 504 t e) (written_next 4 4 8 (3 ∷ a) b out n refl)
    ∙ written_next 8 504 512 ((3 ∷ a) ++ b) e out m refl ∙ ap (λ t. t ++ drop 512 out) (append_assoc (3 ∷ a) b e ∙ (λ k. 3 ∷ (x k ++ (y k ++ z k))))

-- a copy of a piece that was read
pub copy_written :
    (i j : ℕ) (q b : Piece) (out a f e : List ℕ) → q ≡ b → 512 ≤ length out → a ≡ 3 ∷ j ∷ two q.long → f ≡ four i →
    e ≡ closed (length (take 504 (drop 8 (put_mid 4 4 (a ++ drop 4 out) f))) - 1) (map (λ b. b) q.bytes) →
    put_mid 8 504 (put_mid 4 4 (a ++ drop 4 out) f) e ≡ page_of (copy i j b) ++ drop 512 out
unfolding page_of
copy_written i j q b out a f e x h y z r =
    let l : length a ≡ 4 = ap length y in
    let mid = put_mid 4 4 (a ++ drop 4 out) f in
    let w : mid ≡ ((3 ∷ j ∷ two q.long) ++ four i) ++ drop 8 out = written_next 4 4 8 a f out l refl ∙ (λ k. (y k ++ z k) ++ drop 8 out) in
    page-closed 8 503 ((3 ∷ j ∷ two q.long) ++ four i) q.bytes out mid e w refl refl h (r ∙ ap (λ t. closed (length (take 504 (drop 8 mid)) - 1) t) (map-id q.bytes)) ∙ ap (λ (t : Piece). (3 ∷ j ∷ two t.long ++ (four i ++ closed 503 t.bytes)) ++ drop 512 out) x
