-- The turn of what is kept is the plain house's turn: commands on the text. Assumes nothing.
use Rattle.std.proofs.Common.{◌≡◌, ℕ, suc, ◌+◌, ◌-◌, ◌≤◌, Bool, true, false, ◌&&◌, eqb, ltb, leb, List, [], ◌∷◌, ◌++◌, length, take, drop, sym, refl, ap, ◌∙◌, subst, arith}
use Rattle.std.proofs.lemmas.List.{append-nil}
use Rattle.std.proofs.lemmas.Bool.{true≢false, false≢true, and_parts, and_from, leb-true, ltb-false, le-leb, ne_eqb}
use Rattle.plain.specs.Pattern.{pick, every, none_of, all_bytes, eight}
use Rattle.plain.specs.Command.{Deed, append, insert, change, delete, join, print, number, where_is, go_to}
use Rattle.plain.specs.House.{Line, Plain, both_of, Work, how_many, put_lines, new_lines, lines_from, printed, glued, smaller, after_gone, real, short_all, start_work, deed_work, finished, no}
use Rattle.plain.proofs.Basics.{every_in, every_by}
use Rattle.plain.proofs.Goods.{at-insert, at_gone, at-change, real_from}
use Rattle.commands.specs.Kept.{Kept, fit_line, fit_lines}
use Rattle.commands.specs.Resolve.{Checked, good, Bounds, there}
use Rattle.commands.specs.Plan as plan
use Rattle.commands.specs.Plan.{Plan, Slot, decide_deed, Sizes, Given}
use Rattle.commands.specs.Turn as turn
use Rattle.commands.specs.Turn.{KeptTurn, kept_no, lines_given, name_given, given_of, sizes_of, walked, glued_lines, numbered, walk_rows, more_rows, too_long, updated_by, kept_does}
use Rattle.commands.specs.Held.{bytes_of, Held, SameTurn}
use Rattle.commands.proofs.Lists.{each_take, each_drop, flat_each, every_take, every_drop, every_flat}
use Rattle.commands.proofs.Texts.{text-held, quiet_held, same_files, count_same}

pub pick_alike : {A B : Type 0} (P : A → B → Type 0) (t u : Bool) (x y : A) (z v : B) → t ≡ u → (t ≡ true → P x z) → (t ≡ false → P y v) → P (pick t x y) (pick u z v)
pick_alike P true true x y z v e p q = p refl
pick_alike P true false x y z v e p q = absurd (true≢false e)
pick_alike P false true x y z v e p q = absurd (false≢true e)
pick_alike P false false x y z v e p q = q refl

-- rows
pub printed-plain : (n : ℕ) (ls : List Line) → printed false n ls ≡ bytes_of ls
printed-plain n [] = refl
printed-plain n (l ∷ ls) = ap (λ t. l.bytes ∷ t) (printed-plain (suc n) ls)

pub printed-numbered : (n : ℕ) (ls : List Line) → printed true n ls ≡ numbered n (bytes_of ls)
unfolding numbered
printed-numbered n [] = refl
printed-numbered n (l ∷ ls) = ap (λ t. (eight n ++ l.bytes) ∷ t) (printed-numbered (suc n) ls)

-- given lines
pub none_eqb : (ls : List (List ℕ)) → none_of ls ≡ eqb (length ls) 0
none_eqb [] = refl
none_eqb (l ∷ ls) = sym (ne_eqb (suc (length ls)) 0 (λ e. omega arith))

pub fit_from : (ls : List (List ℕ)) → short_all ls ≡ true → every all_bytes ls ≡ true → fit_lines ls ≡ true
fit_from ls e f =
    every_by fit_line ls (λ l i. and_from (leb (length l) 1024) (all_bytes l) (every_in (λ x. leb (length x) 1024) l ls e i) (every_in all_bytes l ls f i))

pub part_bytes : (n m : ℕ) (ls : List Line) → bytes_of (take n (drop m ls)) ≡ take n (drop m (bytes_of ls))
part_bytes n m ls = each_take (λ l. l.bytes) n (drop m ls) ∙ ap (take n) (each_drop (λ l. l.bytes) m ls)

module _ (w : Plain) (k : Kept) (h : Held w k) where
  pub no_alike : (n : ℕ) → SameTurn (no n w) (kept_no n k)
  no_alike n = record { reply = refl; shows = refl; next = h }

  -- a work that ends as a plan does
  pub record Ends (c : Bool) (d : Deed) (v : Work) (x : Checked Plan) : Type 0 where
    pub same : SameTurn (finished w c v) (kept_does k d x)

  pub record Works (c : Bool) (v : Work) (t : KeptTurn) : Type 0 where
    pub same : SameTurn (finished w c v) t

  pub there_same : (b : Bounds) (p : List ℕ) → real w.now (both_of b.first b.last p) ≡ there (length k.text) b
  there_same b p = ap (λ n. (leb 1 b.first && leb b.first b.last) && leb b.last n) (sym (count_same w k h))

  pub last_same : (n : ℕ) → leb n (how_many w.now) ≡ leb n (length k.text)
  last_same n = ap (leb n) (sym (count_same w k h))

  -- lines of the text, as walked over
  pub lines_same : (a b : ℕ) → 1 ≤ a → bytes_of (lines_from w.now a b) ≡ take (b - (a - 1)) (drop (a - 1) k.text)
  lines_same a b one =
      let e : suc b - a ≡ b - (a - 1) = omega arith in
      part_bytes (suc b - a) (a - 1) w.now.lines ∙ (let f = sym h.text in λ i. take (e i) (drop (a - 1) (f i)))

  pub glued_same : (a b : ℕ) → 1 ≤ a → glued (lines_from w.now a b) ≡ glued_lines (take (b - (a - 1)) (drop (a - 1) k.text))
  glued_same a b one = sym (flat_each (λ l. l) (λ l. l.bytes) (lines_from w.now a b)) ∙ ap glued_lines (lines_same a b one)

  module _ (b : Bounds) where
    abbrev Deed-ends : Bool → Deed → Type 0
    Deed-ends c d = (f : Slot) → Ends c d (deed_work (start_work w) (both_of b.first b.last w.pattern) d) (decide_deed (sizes_of k) f (given_of d) (good b) d)

    pub append-ends : (ls : List (List ℕ)) → every all_bytes ls ≡ true → Deed-ends true (append ls)
    unfolding deed_work decide_deed lines_given name_given too_long walk_rows more_rows updated_by turn.put_lines
    append-ends ls g f =
        pick_alike (Ends true (append ls)) (short_all ls) (short_all ls) _ _ _ _ refl
        (λ e. pick_alike (Ends true (append ls)) (leb b.last (how_many w.now)) (leb b.last (length k.text)) _ _ _ _ (last_same b.last)
        (λ t. (let q = leb-true b.last (how_many w.now) t in record {
          same = record {
            reply = refl;
            shows = refl;
            next =
                text-held w k h _ b.last b.last (b.last + length ls) ls (omega arith) q (fit_from ls e g) (omega arith)
                (record { lines = refl; current = refl; before = refl; undone = refl; files = refl; next = refl });
          };
        }))
        (λ t. record { same = no_alike 4 }))
        (λ e. record { same = no_alike 7 })

    pub insert-ends : (ls : List (List ℕ)) → every all_bytes ls ≡ true → Deed-ends true (insert ls)
    unfolding deed_work decide_deed lines_given name_given too_long walk_rows more_rows updated_by turn.put_lines
    insert-ends ls g f =
        pick_alike (Ends true (insert ls)) (short_all ls) (short_all ls) _ _ _ _ refl
        (λ e. pick_alike (Ends true (insert ls)) (leb b.last (how_many w.now)) (leb b.last (length k.text)) _ _ _ _ (last_same b.last)
        (λ t. (let q = leb-true b.last (how_many w.now) t in
        let c : pick (none_of ls) b.last (b.last - 1 + length ls) ≡ pick (eqb (length ls) 0) b.last (b.last - 1 + length ls) = ap (λ z. pick z b.last (b.last - 1 + length ls)) (none_eqb ls) in
        record {
          same = record {
            reply = refl;
            shows = refl;
            next =
                text-held w k h _ (b.last - 1) (b.last - 1) (pick (eqb (length ls) 0) b.last (b.last - 1 + length ls)) ls (omega arith) (omega arith) (fit_from ls e g)
                (subst (λ z. z ≤ b.last - 1 + length ls + (how_many w.now - (b.last - 1))) c (at-insert ls b.last (how_many w.now) q))
                (record { lines = refl; current = c; before = refl; undone = refl; files = refl; next = refl });
          };
        }))
        (λ t. record { same = no_alike 4 }))
        (λ e. record { same = no_alike 7 })

    pub change-ends : (ls : List (List ℕ)) → every all_bytes ls ≡ true → Deed-ends true (change ls)
    unfolding deed_work decide_deed lines_given name_given too_long walk_rows more_rows updated_by turn.put_lines
    change-ends ls g f =
        pick_alike (Ends true (change ls)) (short_all ls) (short_all ls) _ _ _ _ refl
        (λ e. pick_alike (Ends true (change ls)) (real w.now (both_of b.first b.last w.pattern)) (there (length k.text) b) _ _ _ _ (there_same b w.pattern)
        (λ t. (let r = real_from w.now (both_of b.first b.last w.pattern) t in
        let c : pick (none_of ls) (after_gone b.first (how_many w.now - (suc b.last - b.first))) (b.first - 1 + length ls) ≡ pick (eqb (length ls) 0) (plan.at_gone (length k.text) b) (b.first - 1 + length ls) =
        (let n = sym (count_same w k h) in λ i. pick (none_eqb ls i) (smaller b.first (n i - (suc b.last - b.first))) (b.first - 1 + length ls)) in
        record {
          same = record {
            reply = refl;
            shows = refl;
            next =
                text-held w k h _ (b.first - 1) b.last (pick (eqb (length ls) 0) (plan.at_gone (length k.text) b) (b.first - 1 + length ls)) ls (omega arith) r.there (fit_from ls e g)
                (subst (λ z. z ≤ b.first - 1 + length ls + (how_many w.now - b.last)) c (at-change ls b.first b.last (how_many w.now) r.one r.order r.there))
                (record { lines = refl; current = c; before = refl; undone = refl; files = refl; next = refl });
          };
        }))
        (λ t. record { same = no_alike 4 }))
        (λ e. record { same = no_alike 7 })

    pub delete-ends : Deed-ends true delete
    unfolding deed_work decide_deed lines_given name_given too_long walk_rows more_rows updated_by turn.put_lines new_lines
    delete-ends f =
        pick_alike (Ends true delete) (real w.now (both_of b.first b.last w.pattern)) (there (length k.text) b) _ _ _ _ (there_same b w.pattern)
        (λ t. (let r = real_from w.now (both_of b.first b.last w.pattern) t in
        let c : after_gone b.first (how_many w.now - (suc b.last - b.first)) ≡ plan.at_gone (length k.text) b =
        (let n = sym (count_same w k h) in λ i. smaller b.first (n i - (suc b.last - b.first))) in
        record {
          same = record {
            reply = refl;
            shows = refl;
            next =
                text-held w k h _ (b.first - 1) b.last (plan.at_gone (length k.text) b) [] (omega arith) r.there refl
                (subst (λ z. z ≤ b.first - 1 + 0 + (how_many w.now - b.last)) c (at_gone b.first b.last (how_many w.now) r.one r.order r.there))
                (record { lines = refl; current = c; before = refl; undone = refl; files = refl; next = omega arith });
          };
        }))
        (λ t. record { same = no_alike 4 })

    pub join-ends : Deed-ends true join
    unfolding deed_work decide_deed lines_given name_given too_long walk_rows more_rows updated_by turn.put_lines new_lines
    join-ends f =
        pick_alike (Ends true join) (real w.now (both_of b.first b.last w.pattern)) (there (length k.text) b) _ _ _ _ (there_same b w.pattern)
        (λ t. (let r = real_from w.now (both_of b.first b.last w.pattern) t in
        let M = take (b.last - (b.first - 1)) (drop (b.first - 1) k.text) in
        let gs = glued_same b.first b.last r.one in
        let bytes : all_bytes (glued_lines M) ≡ true =
        every_flat (λ c. ltb c 256) (λ l. l) M (λ l i. (and_parts (leb (length l) 1024) (all_bytes l) (every_in fit_line l M (every_take fit_line _ (drop (b.first - 1) k.text) (every_drop fit_line (b.first - 1) k.text h.sound.lines_fit)) i)).1) in
        let fits : (e : ltb 1024 (length (glued_lines M)) ≡ false) → fit_lines (glued_lines M ∷ []) ≡ true =
        λ e. and_from (fit_line (glued_lines M)) true (and_from (leb (length (glued_lines M)) 1024) (all_bytes (glued_lines M)) (le-leb _ _ (ltb-false 1024 (length (glued_lines M)) e)) bytes) refl in
        let one = r.one in
        let joined : Works true (pick (ltb 1024 (length (glued (lines_from w.now b.first b.last)))) _ _) (kept_does k join (good (plan.join_plan (sizes_of k) b))) =
        pick_alike (Works true) (ltb 1024 (length (glued (lines_from w.now b.first b.last)))) (ltb 1024 (length (glued_lines M))) _ _ _ _ (ap (λ z. ltb 1024 (length z)) gs)
        (λ e. record { same = no_alike 7 })
        (λ e. record {
          same = record {
            reply = refl;
            shows = refl;
            next =
                text-held w k h _ (b.first - 1) b.last b.first (glued_lines M ∷ []) (omega arith) r.there (fits (ap (λ z. ltb 1024 (length z)) (sym gs) ∙ e)) (omega arith)
                (record { lines = ap (λ z. put_lines w.now (b.first - 1) b.last (record { id = w.next; bytes = z } ∷ [])) gs; current = refl; before = refl; undone = refl; files = refl; next = omega arith });
          };
        }) in
        record { same = joined.same }))
        (λ t. record { same = no_alike 4 })

    pub print-ends : Deed-ends false print
    unfolding deed_work decide_deed lines_given name_given too_long walk_rows more_rows updated_by turn.put_lines
    print-ends f =
        pick_alike (Ends false print) (real w.now (both_of b.first b.last w.pattern)) (there (length k.text) b) _ _ _ _ (there_same b w.pattern)
        (λ t. (let r = real_from w.now (both_of b.first b.last w.pattern) t in
        record {
          same = record {
            reply = refl;
            shows = append-nil (take (b.last - (b.first - 1)) (drop (b.first - 1) k.text)) ∙ sym (printed-plain 0 (lines_from w.now b.first b.last) ∙ lines_same b.first b.last r.one);
            next = quiet_held w k h _ b.last k.files r.there (same_files w k h) (record { lines = refl; current = refl; before = refl; undone = refl; files = sym h.files; next = refl });
          };
        }))
        (λ t. record { same = no_alike 4 })

    pub number-ends : Deed-ends false number
    unfolding deed_work decide_deed lines_given name_given too_long walk_rows more_rows updated_by turn.put_lines
    number-ends f =
        pick_alike (Ends false number) (real w.now (both_of b.first b.last w.pattern)) (there (length k.text) b) _ _ _ _ (there_same b w.pattern)
        (λ t. (let r = real_from w.now (both_of b.first b.last w.pattern) t in
        let one : 1 ≤ b.first = r.one in
        let e : suc (b.first - 1) ≡ b.first = omega arith in
        let M = take (b.last - (b.first - 1)) (drop (b.first - 1) k.text) in
        record {
          same = record {
            reply = refl;
            shows = append-nil (numbered (suc (b.first - 1)) M) ∙ sym (printed-numbered b.first (lines_from w.now b.first b.last) ∙ (let g = lines_same b.first b.last one in let f = sym e in λ i. numbered (f i) (g i)));
            next = quiet_held w k h _ b.last k.files r.there (same_files w k h) (record { lines = refl; current = refl; before = refl; undone = refl; files = sym h.files; next = refl });
          };
        }))
        (λ t. record { same = no_alike 4 })

    pub where-ends : Deed-ends false where_is
    unfolding deed_work decide_deed lines_given name_given too_long walk_rows more_rows updated_by turn.put_lines
    where-ends f =
        pick_alike (Ends false where_is) (leb b.last (how_many w.now)) (leb b.last (length k.text)) _ _ _ _ (last_same b.last)
        (λ t. record {
          same = record {
            reply = refl;
            shows = refl;
            next = quiet_held w k h _ k.at k.files (omega (arith, h.sound.current, count_same w k h)) (same_files w k h) (record { lines = refl; current = sym h.at; before = refl; undone = refl; files = sym h.files; next = refl });
          };
        })
        (λ t. record { same = no_alike 4 })

    pub go-ends : Deed-ends false go_to
    unfolding deed_work decide_deed lines_given name_given too_long walk_rows more_rows updated_by turn.put_lines
    go-ends f =
        pick_alike (Ends false go_to) (leb 1 b.last && leb b.last (how_many w.now)) (leb 1 b.last && leb b.last (length k.text)) _ _ _ _ (ap (λ z. leb 1 b.last && z) (last_same b.last))
        (λ t. (let r = and_parts (leb 1 b.last) (leb b.last (how_many w.now)) t in
        let one = leb-true 1 b.last r.0 in
        record {
          same = record {
            reply = refl;
            shows = append-nil (take (b.last - (b.last - 1)) (drop (b.last - 1) k.text)) ∙ sym (printed-plain 0 (lines_from w.now b.last b.last) ∙ lines_same b.last b.last one);
            next = quiet_held w k h _ b.last k.files (leb-true _ _ r.1) (same_files w k h) (record { lines = refl; current = refl; before = refl; undone = refl; files = sym h.files; next = refl });
          };
        }))
        (λ t. record { same = no_alike 4 })
