-- The records that set the small state up on a new tape: each fits a record, and every state on the way fits the memory. Assumes nothing.
use Rattle.std.proofs.Common.{◌≡◌, ℕ, zero, suc, ◌+◌, ◌≤◌, true, ltb, List, [], ◌∷◌, ◌++◌, map, length, take, drop, sym, refl, ap, ◌∙◌, subst, append_assoc, append-nil, arith, length-append, take_all}
use Rattle.std.proofs.lemmas.List.{drop_all}
use Rattle.std.proofs.lemmas.Bool.{lt-ltb, ltb-true, and_parts}
use Rattle.plain.specs.Pattern.{every}
use Rattle.plain.proofs.Basics.{every_append}
use Rattle.journal.specs.Log.{set_up, settled}
use Rattle.journal.specs.Small.{Entry, Small, small, no_state, News, news, nothing_else, pushed, updated, pushes, slots, set_up_of}
use Rattle.journal.proofs.Small.{length-pushes, length-slots}
use Rattle.records.specs.Pages.{page_of}
use Rattle.engine.specs.Fits.{Word, words, entry_fits, SmallFits, NewsFits, RecordFits}
use Rattle.engine.proofs.Facts.{Codec}

-- EACH FITS A RECORD
pub data AllNews : List News → Type 0 where
  no_news_left : AllNews []
  and_news : {u : News} {us : List News} → NewsFits u → AllNews us → AllNews (u ∷ us)

all_append : {us vs : List News} → AllNews us → AllNews vs → AllNews (us ++ vs)
all_append no_news_left k = k
all_append (and_news f h) k = and_news f (all_append h k)

pushes_fit : (ws : List ℕ) → words ws ≡ true → AllNews (pushes ws)
unfolding pushes
pushes_fit [] h = no_news_left
pushes_fit (w ∷ ws) h =
    let q = and_parts (ltb w 4294967296) (words ws) h in
    and_news (record { count = omega arith; current = omega arith; weight = omega arith; also = ltb-true w 4294967296 q.0 }) (pushes_fit ws q.1)

slots_fit : (j : ℕ) (es : List Entry) → j + length es ≤ 64 → every entry_fits es ≡ true → AllNews (slots j es)
unfolding slots
slots_fit j [] l h = no_news_left
slots_fit j (e ∷ es) l h =
    let q = and_parts (entry_fits e) (every entry_fits es) h in
    let w : Word j = omega arith in
    and_news (record { count = omega arith; current = omega arith; weight = omega arith; also = (w, q.0) }) (slots_fit (suc j) es (omega arith) q.1)

pub set_up-fits : (s : Small) → SmallFits s → AllNews (set_up_of s)
set_up-fits s f =
    all_append (pushes_fit s.ring f.ring)
    (all_append (slots_fit 0 s.files (let q = f.files_few in omega arith) f.files) (and_news (record { count = f.count; current = f.current; weight = f.weight; also = tt }) no_news_left))

-- HOW MANY
pub set_up_few : (s : Small) → SmallFits s → length (set_up_of s) ≤ 129
set_up_few s f =
    let text : List News = news s.count s.current s.weight nothing_else ∷ [] in
    let a = length-append (pushes s.ring) (slots 0 s.files ++ text) in
    let b = length-append (slots 0 s.files) text in
    let c = length-pushes s.ring in
    let d = length-slots 0 s.files in
    let e = f.ring_few in
    let g = f.files_few in
    omega arith

-- EVERY STATE ON THE WAY FITS
data OnTheWay : Small → List News → Type 0 where
  arrived : {s : Small} → SmallFits s → OnTheWay s []
  onwards : {s : Small} {u : News} {us : List News} → SmallFits s → OnTheWay (updated u s) us → OnTheWay s (u ∷ us)

way_fits : (n : ℕ) {s : Small} {us : List News} → OnTheWay s us → SmallFits (settled updated s (take n us))
unfolding settled
way_fits zero (arrived f) = f
way_fits zero (onwards f h) = f
way_fits (suc n) (arrived f) = f
way_fits (suc n) (onwards f h) = way_fits n h

partial : (r : List ℕ) (fs : List Entry) → length r ≤ 64 → words r ≡ true → length fs ≤ 64 → every entry_fits fs ≡ true → SmallFits (small 0 0 0 r fs)
partial r fs a b c d = record { count = omega arith; current = omega arith; weight = omega arith; ring_few = a; ring = b; files_few = c; files = d }

way_pushes : (r ws : List ℕ) (rest : List News) → length r + length ws ≤ 64 → words r ≡ true → words ws ≡ true → OnTheWay (small 0 0 0 (r ++ ws) []) rest → OnTheWay (small 0 0 0 r []) (pushes ws ++ rest)
unfolding pushes
way_pushes r [] rest l a b h = subst (λ z. OnTheWay (small 0 0 0 z []) rest) (append-nil r) h
way_pushes r (w ∷ ws) rest l a b h =
    let q = and_parts (ltb w 4294967296) (words ws) b in
    let e : pushed r w ≡ r ++ w ∷ [] = rw (lt-ltb (length r) 64 (omega arith)) refl in
    let a₁ : words (r ++ w ∷ []) ≡ true = every_append (λ n. ltb n 4294967296) r (w ∷ []) ∙ (let p = q.0 in rw (a, p)) in
    let l₁ : length (r ++ w ∷ []) + length ws ≤ 64 = simp length-append (omega arith) in
    onwards (partial r [] (omega arith) a (omega arith) refl)
    (subst (λ z. OnTheWay (small 0 0 0 z []) (pushes ws ++ rest)) (sym e)
    (way_pushes (r ++ w ∷ []) ws rest l₁ a₁ q.1 (subst (λ z. OnTheWay (small 0 0 0 z []) rest) (sym (append_assoc r (w ∷ []) ws)) h)))

way_slots : (r : List ℕ) (fs es : List Entry) (j : ℕ) (rest : List News) → length r ≤ 64 → words r ≡ true → length fs ≡ j → length fs + length es ≤ 64 → every entry_fits fs ≡ true → every entry_fits es ≡ true →
    OnTheWay (small 0 0 0 r (fs ++ es)) rest → OnTheWay (small 0 0 0 r fs) (slots j es ++ rest)
unfolding slots
way_slots r fs [] j rest lr wr e l a b h = subst (λ z. OnTheWay (small 0 0 0 r z) rest) (append-nil fs) h
way_slots r fs (x ∷ es) j rest lr wr e l a b h =
    let q = and_parts (entry_fits x) (every entry_fits es) b in
    let g : take j fs ++ (x ∷ drop (suc j) fs) ≡ fs ++ x ∷ [] = rw (take_all j fs (omega arith), drop_all (suc j) fs (omega arith)) in
    let a₁ : every entry_fits (fs ++ x ∷ []) ≡ true = every_append entry_fits fs (x ∷ []) ∙ (let p = q.0 in rw (a, p)) in
    let e₁ : length (fs ++ x ∷ []) ≡ suc j = simp length-append (omega arith) in
    let l₁ : length (fs ++ x ∷ []) + length es ≤ 64 = omega arith in
    onwards (partial r fs lr wr (omega arith) a)
    (subst (λ z. OnTheWay (small 0 0 0 r z) (slots (suc j) es ++ rest)) (sym g)
    (way_slots r (fs ++ x ∷ []) es (suc j) rest lr wr e₁ l₁ a₁ q.1 (subst (λ z. OnTheWay (small 0 0 0 r z) rest) (sym (append_assoc fs (x ∷ []) es)) h)))

pub no_state-fits : SmallFits no_state
no_state-fits = partial [] [] (omega arith) refl (omega arith) refl

pub settled-fits : (s : Small) → SmallFits s → (n : ℕ) → SmallFits (settled updated no_state (take n (set_up_of s)))
settled-fits s f n =
    let text : List News = news s.count s.current s.weight nothing_else ∷ [] in
    let few = f.files_few in
    let last : OnTheWay (small 0 0 0 s.ring s.files) text = onwards (partial s.ring s.files f.ring_few f.ring few f.files) (arrived f) in
    way_fits n (way_pushes [] s.ring (slots 0 s.files ++ text) (let q = f.ring_few in omega arith) refl f.ring
    (way_slots s.ring [] s.files 0 text f.ring_few f.ring refl (omega arith) refl f.files last))

-- AS PAGES
abbrev pub set_up_pages : List News → List (List ℕ)
set_up_pages us = map page_of (map set_up us)

pub length-set_up_pages : (us : List News) → length (set_up_pages us) ≡ length us
length-set_up_pages [] = refl
length-set_up_pages (u ∷ us) = ap suc (length-set_up_pages us)

pub set_up_record : {u : News} → NewsFits u → RecordFits (set_up u)
set_up_record f = (record { from = omega arith; gone = omega arith; source = tt; beside = refl }, f)

pub set_up-read : (codec : Codec) {us : List News} → AllNews us → map codec.reading (set_up_pages us) ≡ map set_up us
set_up-read codec no_news_left = refl
set_up-read codec (and_news {u = u} f h) =
    let e = codec.reads (set_up u) (set_up_record f) in
    let g = set_up-read codec h in
    λ i. e i ∷ g i
