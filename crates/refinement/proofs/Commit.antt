-- A commit, applied in memory as the log applies it. Assumes nothing.
use Rattle.std.proofs.Common.{◌≡◌, ℕ, suc, ◌+◌, ◌-◌, ◌<◌, ◌≤◌, Bool, true, false, ◌&&◌, ltb, leb, List, [], ◌∷◌, ◌++◌, length, take, drop, sym, refl, ap, ◌∙◌, subst, mod-eq_of_lt, arith, length-append, length-drop, length-take}
use Rattle.std.proofs.lemmas.Bool.{lt-ltb, le-ltb, ltb-true, and_from, and_parts}
use Rattle.plain.specs.Pattern.{pick, every, all_bytes}
use Rattle.plain.specs.Device.{lesser}
use Rattle.journal.specs.Log.{Source, no_entries, new_entries, copied, Splice, state, apply, after, commit}
use Rattle.journal.specs.Small.{Small, Also, nothing_else, push, slot, News, updated, pushed}
use Rattle.engine.specs.Fits.{Word, words, entry_fits, SmallFits, AlsoFits, StoreFits}
use Rattle.memory.specs.declared.kept.Kept.{Kept}
use Rattle.memory.specs.Registers.{TameKept}
use Rattle.memory.specs.Sections.{files_in, can_splice, can_file, file_count}
use Rattle.memory.specs.Abstract.{dir_of, pending_of, files_of, small_of, store_of}
use Rattle.memory.specs.Commit.{can_by, came_by, can_note, can_apply, kept_after, counts_by}
use Rattle.memory.proofs.Committing.{pick_yes}
use Rattle.memory.proofs.Filing.{length-files}
use Rattle.memory.proofs.Frames.{SameText, SameName}
use Rattle.memory.proofs.Splicing.{can_there, copy-there}
use Rattle.memory.proofs.Stored.{applied_means}
use Rattle.records.specs.Checked.{cut, cut_also, cut_news}
use Rattle.commits.specs.News.{clamped, kept_by, applied_by}
use Rattle.refinement.proofs.Same.{dir-long}
use Rattle.refinement.proofs.Clamp.{Lesser, first, second, lesser_is, Apart, apply-clamped, can_clamped}

-- A LAST MEMBER
every_last : {A : Type 0} (p : A → Bool) (xs ys : List A) (x : A) → every p (xs ++ x ∷ ys) ≡ true → p x ≡ true
every_last p [] ys x h = (and_parts (p x) (every p ys) h).0
every_last p (y ∷ xs) ys x h = every_last p xs ys x (and_parts (p y) (every p (xs ++ x ∷ ys)) h).1

pushed_word : (ring : List ℕ) (n : ℕ) → words (pushed ring n) ≡ true → Word n
pushed_word ring n h = go (ltb (length ring) 64) h
  where
    go : (b : Bool) → words (pick b (ring ++ n ∷ []) (drop 1 ring ++ n ∷ [])) ≡ true → Word n
    go true g = ltb-true _ _ (every_last (λ k. ltb k 4294967296) ring [] n g)
    go false g = ltb-true _ _ (every_last (λ k. ltb k 4294967296) (drop 1 ring) [] n g)

-- WHAT A COMMIT SAYS that leaves a small state that fits
abbrev pub SlotWord : Also → Type 0
SlotWord nothing_else = Unit {0}
SlotWord (push n) = Unit {0}
SlotWord (slot i e) = Word i

pub also-fits : (a : Also) (u : News) (s : Small) → u.also ≡ a → SmallFits (updated u s) → SlotWord a → AlsoFits a
also-fits nothing_else u s e f w = tt
also-fits (push n) u s e f w = pushed_word s.ring n (subst (λ a. words (updated (record { count = u.count; current = u.current; weight = u.weight; also = a }) s).ring ≡ true) e f.ring)
also-fits (slot i c) u s e f w = (
  w,
  every_last entry_fits (take i s.files) (drop (suc i) s.files) c
      (subst (λ a. every entry_fits (updated (record { count = u.count; current = u.current; weight = u.weight; also = a }) s).files ≡ true) e f.files),
)

cut_small : (n : ℕ) → Word n → cut n ≡ n
cut_small n h = mod-eq_of_lt h

also_cut : (a : Also) → AlsoFits a → cut_also a ≡ a
also_cut nothing_else f = refl
also_cut (push n) f = ap push (cut_small n f)
also_cut (slot i e) f =
    let p = and_parts (leb (length e.name) 64 && all_bytes e.name) (ltb e.lines 4294967296 && ltb e.size 4294967296) f.1 in
    let q = and_parts (ltb e.lines 4294967296) (ltb e.size 4294967296) p.1 in
    λ i₁. slot (cut_small i f.0 i₁) (record { name = e.name; lines = cut_small e.lines (ltb-true _ _ q.0) i₁; size = cut_small e.size (ltb-true _ _ q.1) i₁ })

pub news_cut : (u : News) (s : Small) → SmallFits (updated u s) → SlotWord u.also → cut_news u ≡ u
news_cut u s f w = λ i.
    record {
      count = cut_small u.count f.count i;
      current = cut_small u.current f.current i;
      weight = cut_small u.weight f.weight i;
      also = also_cut u.also (also-fits u.also u s refl f w) i;
    }

-- there is room for a file
can_by-name : (a : Also) (k : Kept) (u : News) (m : List ℕ) → u.also ≡ a → k.files ≤ 64 → SmallFits (updated u (small_of k m)) → AlsoFits a → can_note a k.files ≡ true
can_by-name nothing_else k u m e t f w = refl
can_by-name (push n) k u m e t f w = refl
can_by-name (slot i c) k u m e t f w =
    let p = and_parts (leb (length c.name) 64 && all_bytes c.name) (ltb c.lines 4294967296 && ltb c.size 4294967296) w.1 in
    let q = and_parts (leb (length c.name) 64) (all_bytes c.name) p.0 in
    let l = length-files k.files (files_in m) in
    let few : length (take i (files_of k.files m) ++ c ∷ drop (suc i) (files_of k.files m)) ≤ 64 =
    subst (λ a. length (updated (record { count = u.count; current = u.current; weight = u.weight; also = a }) (small_of k m)).files ≤ 64) e f.files_few in
    and_from _ _ (lt-ltb _ _ (go (lesser_is i k.files) l few)) q.0
  where
    go : {l : ℕ} → Lesser i k.files l → length (files_of k.files m) ≡ k.files → length (take i (files_of k.files m) ++ c ∷ drop (suc i) (files_of k.files m)) ≤ 64 → l < 64
    go (first h) l few = omega arith
    go (second h) l few =
        let a = length-append (take i (files_of k.files m)) (c ∷ drop (suc i) (files_of k.files m)) in
        let b = length-take i (files_of k.files m) in
        let d = length-drop (suc i) (files_of k.files m) in
        omega arith

-- THE COMMIT
pub record Applied (t at : ℕ) (k : Kept) (c : Splice) (u : News) (m : List ℕ) : Type 0 where
  pub store : store_of (kept_by k c u) (applied_by k c u m) ≡ after updated t at (store_of k m) (commit c u)
  pub text : SameText m (applied_by k c u m)
  pub name : SameName m (applied_by k c u m)

pub commit_means : (t at : ℕ) (k : Kept) (c : Splice) (u : News) (m : List ℕ) → length m ≡ 262144 → TameKept k → Apart c.from c.gone c.source → SlotWord u.also →
    StoreFits (after updated t at (store_of k m) (commit c u)) → Applied t at k c u m
commit_means t at k c u m h tame a w f =
    let fits = also-fits u.also u (small_of k m) refl f.small w in
    let note = can_by-name u.also k u m refl tame.files f.small fits in
    let can = can_clamped k c u m h tame a note f.dir_few in
    let means = applied_means t at k (clamped k.entries c) u m h tame fits can in
    let d = dir-long k.entries m h tame.entries in
    record {
      store =
          ap (λ q. store_of q (applied_by k c u m)) (pick_yes (can_apply k (clamped k.entries c) u) (kept_after k (clamped k.entries c) u) k can)
          ∙ means.store
          ∙ (λ i. state (sym (apply-clamped (dir_of k.entries m) c (pending_of k.pending m) ∙ ap (λ j. apply (clamped j c) (dir_of k.entries m) (pending_of k.pending m)) d) i) [] (updated u (small_of k m)));
      text = means.text;
      name = means.name;
    }

-- WHATEVER IT SAYS, what is kept stays within its section
entries_few : (s : Source) (n p q k : ℕ) → can_by s n p q k ≡ true → n - q + came_by s k ≤ 524289
entries_few no_entries n p q k h = (can_there n p q 0 h).fits
entries_few new_entries n p q k h = (can_there n p q k (and_parts (leb k 65536) (can_splice n p q k) h).1).fits
entries_few (copied x y) n p q k h = (copy-there n p q x y h).splices.fits

ring_few : (a : Also) (w f : ℕ) → w ≤ 64 → (counts_by a w f).ring ≤ 64
ring_few nothing_else w f h = h
ring_few (push n) w f h = go (ltb w 64) refl
  where
    go : (b : Bool) → ltb w 64 ≡ b → pick b (w + 1) 64 ≤ 64
    go true e = let g = ltb-true _ _ e in omega arith
    go false e = omega arith
ring_few (slot i e) w f h = h

files_few : (a : Also) (w f : ℕ) → f ≤ 64 → (counts_by a w f).files ≤ 64
files_few nothing_else w f h = h
files_few (push n) w f h = h
files_few (slot i e) w f h = go (can_file f i (length e.name)) refl
  where
    counted : {l : ℕ} → Lesser i f l → l < 64 → pick (ltb i f) f (f + 1) ≤ 64
    counted (first g) k = rw (lt-ltb i f g) h
    counted (second g) k = rw (le-ltb i f g) (omega arith)

    go : (b : Bool) → can_file f i (length e.name) ≡ b → pick b (file_count f i) f ≤ 64
    go true g = counted (lesser_is i f) (ltb-true _ _ (and_parts (ltb (lesser i f) 64) (leb (length e.name) 64) g).0)
    go false g = h

pub tame_kept_by : (k : Kept) (c : Splice) (u : News) → TameKept k → TameKept (kept_by k c (cut_news u))
unfolding kept_after can_apply
tame_kept_by k c u t = go (can_apply k (clamped k.entries c) (cut_news u)) refl
  where
    d : Splice
    d = clamped k.entries c

    go : (b : Bool) → can_apply k d (cut_news u) ≡ b → TameKept (pick b (kept_after k d (cut_news u)) k)
    go true e = record {
      entries = entries_few d.source k.entries d.from d.gone k.pending (and_parts (can_note (cut_also u.also) k.files) _ e).1;
      pending = omega arith;
      count = omega arith;
      current = omega arith;
      weight = omega arith;
      ring = ring_few (cut_also u.also) k.ring k.files t.ring;
      files = files_few (cut_also u.also) k.ring k.files t.files;
    }
    go false e = t
