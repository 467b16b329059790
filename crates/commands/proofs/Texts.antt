-- What is kept stays beside the plain house: when lines are replaced, and when the text stays as it is. Assumes nothing.
use Rattle.std.proofs.Common.{◌≡◌, ℕ, suc, ◌+◌, ◌-◌, ◌*◌, ◌≤◌, true, not, ◌&&◌, ltb, leb, List, [], ◌∷◌, ◌++◌, reverse, length, take, drop, sym, refl, ap, ◌∙◌, subst, arith}
use Rattle.std.proofs.lemmas.List.{append_assoc, length-append, length-take, length-drop}
use Rattle.std.proofs.lemmas.Bool.{and_parts, and_from, leb-true, le-leb, ltb-true, lt-ltb}
use Rattle.plain.specs.Pattern.{pick, or, every, each, added_up, none_of}
use Rattle.plain.specs.House.{Line, Stand, Plain, File, how_many, put_lines, new_lines, line_weight, stand_weight, stands_weight}
use Rattle.plain.specs.Promise.{distinct, ids}
use Rattle.plain.specs.Weight.{PutWeight}
use Rattle.plain.proofs.Basics.{in_each_from, every_in, every_by, each_append, length_each}
use Rattle.plain.proofs.Goods.{Good, put_new}
use Rattle.plain.proofs.Weights.{put_weight}
use Rattle.commands.specs.Kept.{Kept, kept, line_size, lines_size, file_size, sum, stand_size, fit_line, fit_lines, fit_file, other_names}
use Rattle.journal.specs.Small.{pushed}
use Rattle.commands.specs.Turn.{with_lines}
use Rattle.commands.specs.Held.{stand_weights, bytes_of, Held, WeighsAlike}
use Rattle.commands.proofs.Lists.{each_take, each_drop, added_each, every_take, every_drop, every_both}
use Rattle.commands.proofs.Rings.{stands-lines, sum-ring, pushed_few, ring_grows}

-- new lines
pub new_bytes : (n : ℕ) (ls : List (List ℕ)) → bytes_of (new_lines n ls) ≡ ls
unfolding new_lines
new_bytes n [] = refl
new_bytes n (l ∷ ls) = ap (λ t. l ∷ t) (new_bytes (suc n) ls)

pub new_from : (n : ℕ) (ls : List (List ℕ)) → every (λ l. leb n l.id) (new_lines n ls) ≡ true
unfolding new_lines
new_from n [] = refl
new_from n (l ∷ ls) =
    and_from (leb n n) (every (λ x. leb n x.id) (new_lines (suc n) ls)) (le-leb n n (omega arith))
    (every_by (λ x. leb n x.id) (new_lines (suc n) ls) (λ x i. le-leb n x.id (omega (arith, leb-true (suc n) x.id (every_in (λ y. leb (suc n) y.id) x (new_lines (suc n) ls) (new_from (suc n) ls) i)))))

pub new_between : (n : ℕ) (ls : List (List ℕ)) → every (λ l. leb n l.id && ltb l.id (n + length ls)) (new_lines n ls) ≡ true
unfolding new_lines
new_between n [] = refl
new_between n (l ∷ ls) =
    let t = λ (x : Line). leb n x.id && ltb x.id (n + suc (length ls)) in
    let u = λ (x : Line). leb (suc n) x.id && ltb x.id (suc n + length ls) in
    and_from _ (every t (new_lines (suc n) ls)) (and_from (leb n n) (ltb n (n + suc (length ls))) (le-leb n n (omega arith)) (lt-ltb n (n + suc (length ls)) (omega arith)))
    (every_by t (new_lines (suc n) ls) (λ x i.
    let p = and_parts (leb (suc n) x.id) (ltb x.id (suc n + length ls)) (every_in u x (new_lines (suc n) ls) (new_between (suc n) ls) i) in
    let a = leb-true (suc n) x.id p.0 in
    let b = ltb-true x.id (suc n + length ls) p.1 in
    and_from (leb n x.id) (ltb x.id (n + suc (length ls))) (le-leb n x.id (omega arith)) (lt-ltb x.id (n + suc (length ls)) (omega arith))))

some_new : (n : ℕ) (ls : List (List ℕ)) → not (none_of (new_lines n ls)) ≡ ltb 0 (length ls)
unfolding new_lines
some_new n [] = refl
some_new n (l ∷ ls) = sym (lt-ltb 0 (suc (length ls)) (omega arith))

between_more : (a b c d : ℕ) (ls : List Line) → c ≤ a → b ≤ d → every (λ l. leb a l.id && ltb l.id b) ls ≡ true → every (λ l. leb c l.id && ltb l.id d) ls ≡ true
between_more a b c d ls h k e =
    every_by (λ l. leb c l.id && ltb l.id d) ls (λ x i.
    let p = and_parts (leb a x.id) (ltb x.id b) (every_in (λ l. leb a l.id && ltb l.id b) x ls e i) in
    let q = leb-true a x.id p.0 in
    let r = ltb-true x.id b p.1 in
    and_from (leb c x.id) (ltb x.id d) (le-leb c x.id (omega arith)) (lt-ltb x.id d (omega arith)))

-- a house after lines from a to b were replaced by new ones
pub record Replaced (w w₁ : Plain) (a b at : ℕ) (ls : List (List ℕ)) : Type 0 where
  pub lines : w₁.now.lines ≡ put_lines w.now a b (new_lines w.next ls)
  pub current : w₁.now.at ≡ at
  pub before : w₁.before ≡ take 64 (w.now ∷ w.before)
  pub undone : w₁.undone ≡ []
  pub files : w₁.kept ≡ w.kept
  pub next : w₁.next ≡ w.next + length ls

-- a house in which the text stayed, the files perhaps not
pub record Quiet (w w₁ : Plain) (at : ℕ) (fs : List File) : Type 0 where
  pub lines : w₁.now.lines ≡ w.now.lines
  pub current : w₁.now.at ≡ at
  pub before : w₁.before ≡ w.before
  pub undone : w₁.undone ≡ w.undone
  pub files : w₁.kept ≡ fs
  pub next : w₁.next ≡ w.next

pub record FilesSound (fs : List File) : Type 0 where
  pub files_fit : every fit_file fs ≡ true
  pub few_files : length fs ≤ 64
  pub names_differ : other_names fs ≡ true

pub put_bytes : (s : Stand) (n a b : ℕ) (ls : List (List ℕ)) → bytes_of (put_lines s a b (new_lines n ls)) ≡ with_lines a b ls (bytes_of s.lines)
put_bytes s n a b ls =
    let f = λ (l : Line). l.bytes in
    each_append f (take a s.lines ++ new_lines n ls) (drop b s.lines)
    ∙ ap (λ t. t ++ each f (drop b s.lines)) (each_append f (take a s.lines) (new_lines n ls))
    ∙ (λ i. (each_take f a s.lines i ++ new_bytes n ls i) ++ each_drop f b s.lines i)
    ∙ append_assoc (take a (bytes_of s.lines)) ls (drop b (bytes_of s.lines))

pub part-size : (n m : ℕ) (ls : List Line) → lines_size (take n (drop m (bytes_of ls))) ≡ added_up line_weight (take n (drop m ls))
part-size n m ls =
    let f = λ (l : Line). l.bytes in
    ap lines_size (sym (each_take f n (drop m ls) ∙ ap (take n) (each_drop f m ls))) ∙ added_each line_size f (take n (drop m ls))

module _ (w : Plain) (k : Kept) (h : Held w k) where
  pub count_same : length k.text ≡ how_many w.now
  count_same = ap length h.text ∙ length_each (λ l. l.bytes) w.now.lines

  pub good_now : Good 1 w.next w.now
  good_now = record {
    apart = h.apart;
    below = λ i u. (let r = in_each_from (λ l. l.id) i w.now.lines u in
        let p = and_parts (leb 1 r.0.id) (ltb r.0.id w.next) (every_in (λ l. leb 1 l.id && ltb l.id w.next) r.0 w.now.lines h.old r.1) in
        omega (arith, leb-true 1 r.0.id p.0, ltb-true r.0.id w.next p.1, r.2));
    within = omega (arith, h.at, h.sound.current, count_same);
  }

  stand_is : (s₁ : Stand) (a b : ℕ) (ls : List (List ℕ)) → a ≤ b → b ≤ how_many w.now → s₁.lines ≡ put_lines w.now a b (new_lines w.next ls) →
      stand_weight s₁ w.now ≡ stand_size (length k.text) a b (lines_size (take (b - a) (drop a k.text))) (length ls)
  unfolding PutWeight
  stand_is s₁ a b ls ab bn e =
      let e₁ = sym count_same in
      let e₂ = sym (ap (λ z. lines_size (take (b - a) (drop a z))) h.text ∙ part-size (b - a) a w.now.lines) in
      let e₃ = some_new w.next ls in
      put_weight w.now s₁ w.next a b (new_lines w.next ls) ab bn h.apart h.old (new_from w.next ls) e
      ∙ (λ i. 256 + e₂ i + 64 * ((b - a) + pick (ltb b (e₁ i) && or (ltb a b) (e₃ i)) 1 0))

  pub text-held : (w₁ : Plain) (a b at : ℕ) (ls : List (List ℕ)) → a ≤ b → b ≤ how_many w.now → fit_lines ls ≡ true → at ≤ a + length ls + (how_many w.now - b) →
      Replaced w w₁ a b at ls →
      Held w₁ (kept (with_lines a b ls k.text) at k.files (pushed k.ring (stand_size (length k.text) a b (lines_size (take (b - a) (drop a k.text))) (length ls))))
  text-held w₁ a b at ls ab bn fit al r =
      let n : ℕ = stand_size (length k.text) a b (lines_size (take (b - a) (drop a k.text))) (length ls) in
      let L = w.now.lines in
      let N = new_lines w.next ls in
      let g = put_new w.now w.next a b at ls good_now h.one ab bn al in
      let cs = count_same in
      let one = h.one in
      record {
        text = ap (with_lines a b ls) h.text ∙ sym (put_bytes w.now w.next a b ls) ∙ ap bytes_of (sym r.lines);
        at = sym r.current;
        files = h.files ∙ sym r.files;
        ring = ap (λ z. pushed z n) h.ring ∙ ring_grows w₁.now w.now w.before n h.before (stand_is w₁.now a b ls ab bn r.lines) ∙ ap (λ z. reverse (stand_weights w₁.now z)) (sym r.before);
        undone = r.undone;
        before = subst (λ (z : List Stand). length z ≤ 64) (sym r.before) (simp length-take (omega arith));
        apart = ap (λ z. distinct (ids z)) r.lines ∙ g.apart;
        old = (λ i. every (λ l. leb 1 l.id && ltb l.id (r.next i)) (r.lines i)) ∙
            every_both (λ l. leb 1 l.id && ltb l.id (w.next + length ls)) (take a L ++ N) (drop b L)
            (every_both (λ l. leb 1 l.id && ltb l.id (w.next + length ls)) (take a L) N
            (every_take _ a L (between_more 1 w.next 1 (w.next + length ls) L (omega arith) (omega arith) h.old))
            (between_more w.next (w.next + length ls) 1 (w.next + length ls) N one (omega arith) (new_between w.next ls)))
            (every_drop _ b L (between_more 1 w.next 1 (w.next + length ls) L (omega arith) (omega arith) h.old));
        one = omega (arith, r.next);
        sound = record {
          lines_fit = every_both fit_line (take a k.text) (ls ++ drop b k.text) (every_take fit_line a k.text h.sound.lines_fit)
              (every_both fit_line ls (drop b k.text) fit (every_drop fit_line b k.text h.sound.lines_fit));
          files_fit = h.sound.files_fit;
          few_files = h.sound.few_files;
          names_differ = h.sound.names_differ;
          current = simp (length-append, length-take, length-drop) (omega arith);
          few_stands = pushed_few k.ring n h.sound.few_stands;
        };
      }

  pub same_files : FilesSound k.files
  same_files = record { files_fit = h.sound.files_fit; few_files = h.sound.few_files; names_differ = h.sound.names_differ }

  pub quiet_held : (w₁ : Plain) (at : ℕ) (fs : List File) → at ≤ how_many w.now → FilesSound fs → Quiet w w₁ at fs → Held w₁ (kept k.text at fs k.ring)
  quiet_held w₁ at fs al f q =
      let cs = count_same in
      record {
        text = h.text ∙ ap bytes_of (sym q.lines);
        at = sym q.current;
        files = sym q.files;
        ring = h.ring ∙ ap reverse (sym (stands-lines w₁.now w.now w.before q.lines) ∙ ap (stand_weights w₁.now) (sym q.before));
        undone = q.undone ∙ h.undone;
        before = subst (λ (z : List Stand). length z ≤ 64) (sym q.before) h.before;
        apart = ap (λ z. distinct (ids z)) q.lines ∙ h.apart;
        old = (λ i. every (λ l. leb 1 l.id && ltb l.id (q.next i)) (q.lines i)) ∙ h.old;
        one = omega (arith, q.next, h.one);
        sound = record {
          lines_fit = h.sound.lines_fit;
          files_fit = f.files_fit;
          few_files = f.few_files;
          names_differ = f.names_differ;
          current = omega arith;
          few_stands = h.sound.few_stands;
        };
      }

-- WEIGHTS
pub weighs_alike : WeighsAlike
unfolding WeighsAlike stands_weight
weighs_alike w k h =
    let f = λ (l : Line). l.bytes in
    let a : added_up line_weight w.now.lines ≡ lines_size k.text = sym (ap lines_size h.text ∙ added_each line_size f w.now.lines) in
    let b : stands_weight w.now w.before ≡ sum k.ring = sym (ap sum h.ring ∙ sum-ring w.now w.before) in
    let c : stands_weight w.now w.undone ≡ 0 = ap (stands_weight w.now) h.undone in
    let d : added_up file_size w.kept ≡ added_up file_size k.files = ap (added_up file_size) (sym h.files) in
    omega (arith, a, b, c, d)
