-- Every turn keeps the house fair: no line's id is there twice, and the current line is no more than there are; and ids stay at least as large as they were. Assumes nothing.
use Rattle.std.proofs.Common.{◌≡◌, ℕ, zero, suc, ◌+◌, ◌-◌, ◌<◌, ◌≤◌, Bool, true, false, not, ◌&&◌, eqb, ltb, leb, ◌⊎◌, List, [], ◌∷◌, ◌++◌, length, take, drop, sym, refl, ap, ◌∙◌, subst, inl, inr, arith}
use Rattle.std.proofs.lemmas.List.{append_assoc, length-take, length-drop}
use Rattle.std.proofs.lemmas.Bool.{and_parts, and_from, leb-true, le-leb, ltb-true, cases_Bool}
use Rattle.plain.specs.Pattern.{pick, or, every, each, none_of, Pattern, pattern_of}
use Rattle.plain.specs.Command.{Address, Deed, append, insert, change, delete, join, move, copy, mark, print, number, where_is, swap, go_to, undo, redo, save, edit, load, files, bad, Simple, Command, plain, all_lines}
use Rattle.plain.specs.House.{Line, Stand, Plain, Turn, turn, simple_turn, Found, Both, resolve, with_offset, base_of, where_of, range_at, real, can_write, no, finished, undo_turn, redo_turn, file_of, file_work, edited, Work, failed, worked, at_line, with_text, put_lines, new_lines, lines_from, glued, short_all, start_work, deed_work, simple_work, swap_work, swapped, for_one, on_with, goes_on, many_work, for_all, noted, place_of, changes, how_many, File, meant}
use Rattle.plain.specs.Promise.{distinct, ids, fair, StaysFair}
use Rattle.plain.specs.Numbered.{from_one, numbered, StaysNumbered}
use Rattle.plain.proofs.Basics.{In, in_left, in_right, in_cases, in_each, every_in, every_by, each_append, length_each}
use Rattle.plain.proofs.Moved.{split_three}
use Rattle.plain.proofs.Goods.{Good, stand_test, good_from, good_test, good_more, new_low, new_distinct, length_new, put_good, put_new, blocks_good, moved_blocks, ids-good, swapped-ids, swapped_last, place-le, at-insert, at_gone, at-change, Real, real_from}

-- what holds of both, if the test says so, holds of what is picked
pub pick_by : {A : Type 0} (P : A → Type 0) (t : Bool) (x y : A) → (t ≡ true → P x) → (t ≡ false → P y) → P (pick t x y)
pick_by P true x y p q = p refl
pick_by P false x y p q = q refl

-- work that is good, and has gone on from m
pub record Fine (o m : ℕ) (w : Work) : Type 0 where
  pub good : Good o w.next w.stand
  pub low : o ≤ m
  pub grows : m ≤ w.next

pub at_least : {o m : ℕ} {w : Work} → Fine o m w → o ≤ w.next
at_least f = let a = f.low in let b = f.grows in omega arith

pub failed_fine : {o : ℕ} (m k : ℕ) (w : Work) → Fine o m w → Fine o m (failed k w)
failed_fine m k w f = record { good = f.good; low = f.low; grows = f.grows }

pub at-good : {o : ℕ} (n at : ℕ) (s : Stand) → Good o n s → at ≤ how_many s → Good o n (at_line s at)
at-good n at s g h = record { apart = g.apart; below = g.below; within = h }

pub offset-there : (s : Stand) (a : Address) (f : Found) → eqb (with_offset s a f).fails 0 ≡ true → (with_offset s a f).at ≤ how_many s
offset-there s a f e = grind arith

pub resolve-there : (s : Stand) (last : List ℕ) (a : Address) → eqb (resolve s last a).fails 0 ≡ true → (resolve s last a).at ≤ how_many s
resolve-there s last a e = offset-there s a (base_of s last a) e

pub side : (a b d : ℕ) → a ≤ b → (leb a d && ltb d b) ≡ false → (d < a) ⊎ (b ≤ d)
side a b d h e = elim (cases_Bool (ltb d a)) [ inl k ↦ inl (ltb-true d a k) | inr k ↦ inr (grind arith) ]

pub at_moved : (a b d n : ℕ) → 1 ≤ a → a ≤ b → b ≤ n → d ≤ n → pick (ltb d a) (d + (suc b - a)) d ≤ n
at_moved a b d n h k l o = grind arith

pub lines-whole : (s : Stand) (a b : ℕ) → 1 ≤ a → a ≤ b → take (a - 1) s.lines ++ (lines_from s a b ++ drop b s.lines) ≡ s.lines
lines-whole s a b h k = let ms : suc b - a ≡ b - (a - 1) = omega arith in rw ms (split_three (a - 1) b s.lines (omega arith))

pub length-lines : (s : Stand) (a b : ℕ) → 1 ≤ a → a ≤ b → b ≤ how_many s → length (lines_from s a b) ≡ suc b - a
length-lines s a b h k l = simp (length-take, length-drop) (omega arith)

module _ {o : ℕ} (m : ℕ) (w : Work) (b : Both) (f : Fine o m w) where
  no_fine : (k : ℕ) → Fine o m (failed k w)
  no_fine k = failed_fine m k w f

  swap_fine : Real w.stand b → (p r : List ℕ) (k : ℕ) (qs : List Pattern) → Fine o m (swap_work w b p r k qs)
  unfolding swap_work
  swap_fine z p r k [] = no_fine 10
  swap_fine z p r k (q ∷ qs) =
      let s = w.stand in
      let M = lines_from s b.from b.to in
      let u = swapped k q r b.from M in
      let e : ids (put_lines s (b.from - 1) b.to u.lines) ≡ ids s.lines =
      simp (each_append, swapped-ids, append_assoc) (sym (ap ids (sym (lines-whole s b.from b.to z.one z.order)) ∙ simp each_append)) in
      pick_by (Fine o m) u.too_long _ _ (λ _. no_fine 7)
      (λ _. pick_by (Fine o m) (eqb u.last 0) _ _ (λ _. no_fine 6)
      (λ _. record {
        good = ids-good w.next u.last s (put_lines s (b.from - 1) b.to u.lines) e f.good
            (omega (arith, swapped_last k q r b.from M, length-lines s b.from b.to z.one z.order z.there, z));
        low = f.low;
        grows = f.grows;
      }))

  pub deed_fine : (d : Deed) → Fine o m (deed_work w b d)
  unfolding deed_work distinct
  deed_fine (append ls) =
      pick_by (Fine o m) (short_all ls) _ _
      (λ e. pick_by (Fine o m) (leb b.to (how_many w.stand)) _ _
      (λ h. (let k = leb-true _ _ h in
      record { good = put_new w.stand w.next b.to b.to (b.to + length ls) ls f.good (at_least f) (omega arith) k (omega arith); low = f.low; grows = omega (arith, f.grows) }))
      (λ h. no_fine 4))
      (λ e. no_fine 7)
  deed_fine (insert ls) =
      pick_by (Fine o m) (short_all ls) _ _
      (λ e. pick_by (Fine o m) (leb b.to (how_many w.stand)) _ _
      (λ h. (let k = leb-true _ _ h in
      record { good = put_new w.stand w.next (b.to - 1) (b.to - 1) _ ls f.good (at_least f) (omega arith) (omega arith) (at-insert ls b.to (how_many w.stand) k); low = f.low; grows = omega (arith, f.grows) }))
      (λ h. no_fine 4))
      (λ e. no_fine 7)
  deed_fine (change ls) =
      pick_by (Fine o m) (short_all ls) _ _
      (λ e. pick_by (Fine o m) (real w.stand b) _ _
      (λ h. (let r = real_from w.stand b h in
      record {
        good = put_new w.stand w.next (b.from - 1) b.to _ ls f.good (at_least f) (omega arith) r.there (at-change ls b.from b.to (how_many w.stand) r.one r.order r.there);
        low = f.low;
        grows = omega (arith, f.grows);
      }))
      (λ h. no_fine 4))
      (λ e. no_fine 7)
  deed_fine delete =
      pick_by (Fine o m) (real w.stand b) _ _
      (λ h. (let r = real_from w.stand b h in
      record {
        good = put_good w.stand w.next w.next (b.from - 1) b.to _ [] f.good (at_least f) (omega arith) (omega arith) r.there refl (λ i k. absurd k) (at_gone b.from b.to (how_many w.stand) r.one r.order r.there);
        low = f.low;
        grows = f.grows;
      }))
      (λ h. no_fine 4)
  deed_fine join =
      pick_by (Fine o m) (real w.stand b) _ _
      (λ h. pick_by (Fine o m) (ltb 1024 (length (glued (lines_from w.stand b.from b.to)))) _ _
      (λ e. no_fine 7)
      (λ e. (let r = real_from w.stand b h in
      record {
        good = put_good w.stand w.next (suc w.next) (b.from - 1) b.to b.from (record { id = w.next; bytes = glued (lines_from w.stand b.from b.to) } ∷ []) f.good (at_least f) (omega arith) (omega arith) r.there refl (λ i k. elim k [ inl q ↦ omega arith | inr q ↦ absurd q ]) (omega arith);
        low = f.low;
        grows = omega (arith, f.grows);
      })))
      (λ h. no_fine 4)
  deed_fine (move a) =
      pick_by (Fine o m) (real w.stand b) _ _
      (λ h. (let r = real_from w.stand b h in
      let t : Found = resolve w.stand b.pattern a in
      pick_by (Fine o m) (eqb t.fails 0) _ _
      (λ e. (let q = resolve-there w.stand b.pattern a e in
      pick_by (Fine o m) (leb b.from t.at && ltb t.at b.to) _ _
      (λ k. no_fine 4)
      (λ k. record {
        good = blocks_good w.next _ w.stand _ (moved_blocks w.stand b.from b.to t.at r.one r.order (side b.from b.to t.at r.order k)) f.good
            (at_moved b.from b.to t.at (how_many w.stand) r.one r.order r.there q);
        low = f.low;
        grows = f.grows;
      })))
      (λ e. no_fine t.fails)))
      (λ h. no_fine 4)
  deed_fine (copy a) =
      pick_by (Fine o m) (real w.stand b) _ _
      (λ h. (let r = real_from w.stand b h in
      let t : Found = resolve w.stand b.pattern a in
      pick_by (Fine o m) (eqb t.fails 0) _ _
      (λ e. (let q = resolve-there w.stand b.pattern a e in
      let bs : List (List ℕ) = each (λ l. l.bytes) (lines_from w.stand b.from b.to) in
      let n : length bs ≡ suc b.to - b.from = length_each (λ l. l.bytes) (lines_from w.stand b.from b.to) ∙ length-lines w.stand b.from b.to r.one r.order r.there in
      record {
        good = subst (λ k. Good o (w.next + k) (with_text w.stand (put_lines w.stand t.at t.at (new_lines w.next bs)) (t.at + (suc b.to - b.from)))) n
            (put_new w.stand w.next t.at t.at (t.at + (suc b.to - b.from)) bs f.good (at_least f) (omega arith) q (omega arith));
        low = f.low;
        grows = omega (arith, f.grows);
      }))
      (λ e. no_fine t.fails)))
      (λ h. no_fine 4)
  deed_fine (mark c) = pick_by (Fine o m) (real w.stand b) _ _ (λ h. record { good = record { apart = f.good.apart; below = f.good.below; within = f.good.within }; low = f.low; grows = f.grows }) (λ h. no_fine 4)
  deed_fine print = pick_by (Fine o m) (real w.stand b) _ _ (λ h. record { good = at-good w.next b.to w.stand f.good (real_from w.stand b h).there; low = f.low; grows = f.grows }) (λ h. no_fine 4)
  deed_fine number = pick_by (Fine o m) (real w.stand b) _ _ (λ h. record { good = at-good w.next b.to w.stand f.good (real_from w.stand b h).there; low = f.low; grows = f.grows }) (λ h. no_fine 4)
  deed_fine where_is = pick_by (Fine o m) (leb b.to (how_many w.stand)) _ _ (λ h. record { good = f.good; low = f.low; grows = f.grows }) (λ h. no_fine 4)
  deed_fine (swap p r k) =
      pick_by (Fine o m) (real w.stand b) _ _
      (λ h. pick_by (Fine o m) (none_of (meant b.pattern p)) _ _ (λ e. no_fine 10)
      (λ e. swap_fine (real_from w.stand b h) (meant b.pattern p) r k (pattern_of (meant b.pattern p))))
      (λ h. no_fine 4)
  deed_fine go_to =
      pick_by (Fine o m) (leb 1 b.to && leb b.to (how_many w.stand)) _ _
      (λ h. record { good = at-good w.next b.to w.stand f.good (leb-true _ _ (and_parts (leb 1 b.to) (leb b.to (how_many w.stand)) h).1); low = f.low; grows = f.grows })
      (λ h. no_fine 4)
  deed_fine undo = f
  deed_fine redo = f
  deed_fine (save n) = f
  deed_fine (edit n) = f
  deed_fine (load n) = f
  deed_fine files = f
  deed_fine bad = f

pub simple_fine : {o : ℕ} (m : ℕ) (w : Work) (c : Simple) → Fine o m w → Fine o m (simple_work w c)
simple_fine {o} m w c f =
    let b : Both = where_of w.stand w.pattern c in
    pick_by (Fine o m) (eqb b.fails 0) _ _ (λ e. deed_fine m w b f c.deed) (λ e. failed_fine m b.fails w f)

pub many_fine : {o : ℕ} (m : ℕ) (w : Work) (c : Simple) (is : List ℕ) → Fine o m w → Fine o m (many_work w c is)
unfolding many_work
many_fine m w c [] f = f
many_fine {o} m w c (i ∷ is) f =
    let n : ℕ = place_of i w.stand.lines 0 in
    let v : Work = worked w (at_line w.stand n) w.next w.pattern [] in
    let u : Work = on_with w (simple_work v (for_one c)) in
    let g : Fine o m v = record { good = at-good w.next n w.stand f.good (omega (arith, place-le i w.stand.lines 0)); low = f.low; grows = f.grows } in
    let h : Fine o m u = pick_by (Fine o m) (eqb (simple_work v (for_one c)).fails 6) _ _ (λ _. f) (λ _. simple_fine m v (for_one c) g) in
    pick_by (Fine o m) (eqb n 0) _ _ (λ _. many_fine m w c is f) (λ _. pick_by (Fine o m) (goes_on u) _ _ (λ _. many_fine m u c is h) (λ _. h))

pub for_all_fine : {o : ℕ} (m : ℕ) (w : Work) (b : Both) (like : Bool) (p : List ℕ) (c : Simple) (qs : List Pattern) → Fine o m w → Fine o m (for_all w b like p c qs)
unfolding for_all
for_all_fine m w b like p c [] f = failed_fine m 10 w f
for_all_fine {o} m w b like p c (q ∷ qs) f =
    pick_by (Fine o m) (none_of (noted like q (lines_from w.stand b.from b.to))) _ _ (λ _. failed_fine m 5 w f)
    (λ _. many_fine m _ c (noted like q (lines_from w.stand b.from b.to)) (record { good = f.good; low = f.low; grows = f.grows }))

-- the whole house
pub record Fair (o : ℕ) (w : Plain) : Type 0 where
  pub low : o ≤ w.next
  pub now : Good o w.next w.now
  pub before : (s : Stand) → In s w.before → Good o w.next s
  pub undone : (s : Stand) → In s w.undone → Good o w.next s

-- the lines of each stand, the one of now first
abbrev pub From : ℕ → Plain → Type 0
From o w = (s : Stand) → In s (w.now ∷ (w.before ++ w.undone)) → (l : Line) → In l s.lines → o ≤ l.id

pub fair_from : {o : ℕ} (w : Plain) → fair w ≡ true → o ≤ w.next → From o w → Fair o w
unfolding fair
fair_from {o} w e low from =
    let p = and_parts (stand_test w.next w.now) (every (stand_test w.next) (w.before ++ w.undone)) e in
    let old : (s : Stand) → In s (w.before ++ w.undone) → Good o w.next s = λ s h. good_from w.next s (every_in (stand_test w.next) s (w.before ++ w.undone) p.1 h) (from s (inr h)) in
    record {
      low = low;
      now = good_from w.next w.now p.0 (from w.now (inl refl));
      before = λ s h. old s (in_left s w.before w.undone h);
      undone = λ s h. old s (in_right s w.before w.undone h);
    }

pub fair_test : {o : ℕ} (w : Plain) → Fair o w → fair w ≡ true
unfolding fair
fair_test w f =
    and_from (stand_test w.next w.now) (every (stand_test w.next) (w.before ++ w.undone)) (good_test w.next w.now f.now)
    (every_by (stand_test w.next) (w.before ++ w.undone) (λ s h. good_test w.next s (elim (in_cases s w.before w.undone h) [ inl k ↦ f.before s k | inr k ↦ f.undone s k ])))

pub record FairTurn (o : ℕ) (t : Turn) : Type 0 where
  pub is : Fair o t.next

pub in_take : {A : Type 0} (n : ℕ) (x : A) (xs : List A) → In x (take n xs) → In x xs
in_take zero x xs h = absurd h
in_take (suc n) x [] h = absurd h
in_take (suc n) x (y ∷ xs) (inl e) = inl e
in_take (suc n) x (y ∷ xs) (inr h) = inr (in_take n x xs h)

module _ {o : ℕ} (w : Plain) (f : Fair o w) where
  no_fair : (k : ℕ) → FairTurn o (no k w)
  no_fair k = record { is = f }

  start_fine : Fine o w.next (start_work w)
  start_fine = record { good = f.now; low = f.low; grows = omega arith }

  finished-fair : (c : Bool) (v : Work) → Fine o w.next v → FairTurn o (finished w c v)
  finished-fair c v g =
      let old : (s : Stand) → In s w.before → Good o v.next s = λ s h. good_more w.next v.next s g.grows (f.before s h) in
      let new : (s : Stand) → In s w.undone → Good o v.next s = λ s h. good_more w.next v.next s g.grows (f.undone s h) in
      let here : Good o v.next w.now = good_more w.next v.next w.now g.grows f.now in
      pick_by (FairTurn o) (eqb v.fails 0) _ _
      (λ _. record {
        is = record {
          low = at_least g;
          now = g.good;
          before = pick_by (λ ss. (s : Stand) → In s ss → Good o v.next s) c _ _
              (λ _ s h. elim (in_take 64 s (w.now ∷ w.before) h) [ inl e ↦ subst (λ t. Good o v.next t) e here | inr k ↦ old s k ]) (λ _. old);
          undone = pick_by (λ ss. (s : Stand) → In s ss → Good o v.next s) c _ _ (λ _ s h. absurd h) (λ _. new);
        };
      })
      (λ _. no_fair v.fails)

  undo-fair : (ss : List Stand) → ((s : Stand) → In s ss → Good o w.next s) → FairTurn o (undo_turn w ss)
  undo-fair [] h = no_fair 9
  undo-fair (s ∷ ss) h =
      record { is = record { low = f.low; now = h s (inl refl); before = λ t k. h t (inr k); undone = λ t k. elim k [ inl e ↦ subst (λ x. Good o w.next x) e f.now | inr q ↦ f.undone t q ] } }

  redo-fair : (ss : List Stand) → ((s : Stand) → In s ss → Good o w.next s) → FairTurn o (redo_turn w ss)
  redo-fair [] h = no_fair 9
  redo-fair (s ∷ ss) h =
      record { is = record { low = f.low; now = h s (inl refl); undone = λ t k. h t (inr k); before = λ t k. elim k [ inl e ↦ subst (λ x. Good o w.next x) e f.now | inr q ↦ f.before t q ] } }

  file_fine : (fs : List File) (g : File → Work) → ((x : File) → Fine o w.next (g x)) → Fine o w.next (file_work (start_work w) fs g)
  file_fine [] g h = failed_fine w.next 3 (start_work w) start_fine
  file_fine (x ∷ xs) g h = h x

  edited_fine : (x : File) → Fine o w.next (edited (start_work w) x)
  edited_fine x =
      record {
        good = record { apart = new_distinct w.next x.lines; below = λ i h. (let r = new_low w.next x.lines i h in let a = f.low in omega arith); within = omega (arith, length_new w.next x.lines) };
        low = f.low;
        grows = omega arith;
      }

  simple-fair : (b : Both) (d : Deed) (v : Work) → Fine o w.next v → FairTurn o (simple_turn w b d v)
  unfolding simple_turn
  simple-fair b (append ls) v g = finished-fair true v g
  simple-fair b (insert ls) v g = finished-fair true v g
  simple-fair b (change ls) v g = finished-fair true v g
  simple-fair b delete v g = finished-fair true v g
  simple-fair b join v g = finished-fair true v g
  simple-fair b (move a) v g = finished-fair true v g
  simple-fair b (copy a) v g = finished-fair true v g
  simple-fair b (mark c) v g = finished-fair false v g
  simple-fair b print v g = finished-fair false v g
  simple-fair b number v g = finished-fair false v g
  simple-fair b where_is v g = finished-fair false v g
  simple-fair b (swap p r k) v g = finished-fair true v g
  simple-fair b go_to v g = finished-fair false v g
  simple-fair b undo v g = undo-fair w.before f.before
  simple-fair b redo v g = redo-fair w.undone f.undone
  simple-fair b (save n) v g =
      pick_by (FairTurn o) (or (not (none_of (file_of w n))) (ltb (length w.kept) 64)) _ _
      (λ _. pick_by (FairTurn o) (eqb b.fails 0) _ _
      (λ _. pick_by (FairTurn o) (can_write w.now b) _ _ (λ _. record { is = record { low = f.low; now = f.now; before = f.before; undone = f.undone } }) (λ _. no_fair 4))
      (λ _. no_fair b.fails))
      (λ _. no_fair 7)
  simple-fair b (edit n) v g = finished-fair true (file_work (start_work w) (file_of w n) (edited (start_work w))) (file_fine (file_of w n) (edited (start_work w)) edited_fine)
  simple-fair b (load n) v g =
      let go : File → Work = λ x. deed_work (start_work w) b (append x.lines) in
      pick_by (FairTurn o) (eqb b.fails 0) _ _
      (λ _. finished-fair true (file_work (start_work w) (file_of w n) go) (file_fine (file_of w n) go (λ x. deed_fine w.next (start_work w) b start_fine (append x.lines))))
      (λ _. no_fair b.fails)
  simple-fair b files v g = record { is = f }
  simple-fair b bad v g = no_fair 1

  turn-fair : (c : Command) → FairTurn o (turn w c)
  unfolding turn
  turn-fair (plain c) = simple-fair (where_of w.now w.pattern c) c.deed (simple_work (start_work w) c) (simple_fine w.next (start_work w) c start_fine)
  turn-fair (all_lines r like p c) =
      let b : Both = range_at w.now w.pattern r 1 (how_many w.now) in
      let q : List ℕ = meant b.pattern p in
      pick_by (FairTurn o) (eqb b.fails 0) _ _
      (λ _. pick_by (FairTurn o) (real w.now b) _ _
      (λ _. pick_by (FairTurn o) (none_of q) _ _ (λ _. no_fair 10)
      (λ _. finished-fair (changes c.deed) (for_all (start_work w) b like q c (pattern_of q)) (for_all_fine w.next (start_work w) b like q c (pattern_of q) start_fine)))
      (λ _. no_fair 4))
      (λ _. no_fair b.fails)

pub stays_fair : StaysFair
unfolding StaysFair
stays_fair w c e = fair_test (turn w c).next (turn-fair w (fair_from {o = 0} w e (omega arith) (λ s h l k. omega arith)) c).is

-- ids from 1 on
pub from_one_in : (s : Stand) → from_one s ≡ true → (l : Line) → In l s.lines → 1 ≤ l.id
from_one_in s e l h = leb-true 1 l.id (every_in (λ x. leb 1 x.id) l s.lines e h)

pub good_from_one : {n : ℕ} (s : Stand) → Good 1 n s → from_one s ≡ true
good_from_one s g = every_by (λ l. leb 1 l.id) s.lines (λ l h. le-leb 1 l.id (g.below l.id (in_each (λ x. x.id) l s.lines h)).0)

pub fair-numbered : (w : Plain) → fair w ≡ true → numbered w ≡ true → Fair 1 w
unfolding numbered
fair-numbered w e n =
    let p = and_parts (leb 1 w.next) (every from_one (w.now ∷ (w.before ++ w.undone))) n in
    fair_from w e (leb-true 1 w.next p.0) (λ s h. from_one_in s (every_in from_one s (w.now ∷ (w.before ++ w.undone)) p.1 h))

pub numbered_from : (w : Plain) → Fair 1 w → numbered w ≡ true
unfolding numbered
numbered_from w f =
    and_from (leb 1 w.next) (every from_one (w.now ∷ (w.before ++ w.undone))) (le-leb 1 w.next f.low)
    (every_by from_one (w.now ∷ (w.before ++ w.undone))
    (λ s h. good_from_one s (elim h [ inl e ↦ subst (Good 1 w.next) e f.now | inr k ↦ elim (in_cases s w.before w.undone k) [ inl u ↦ f.before s u | inr u ↦ f.undone s u ] ])))

pub stays_numbered : StaysNumbered
unfolding StaysNumbered
stays_numbered w c e n = numbered_from (turn w c).next (turn-fair w (fair-numbered w e n) c).is
