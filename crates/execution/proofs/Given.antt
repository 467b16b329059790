-- Plans, and what a command gives, as the code has them. Assumes nothing.
use Rattle.std.proofs.Common.{◌≡◌, ℕ, Bool, true, false, eqb, List, [], ◌∷◌, ◌++◌, sym, refl, ap, ◌∙◌, append_assoc, Bor}
use Rattle.std.proofs.lemmas.List.{append-nil}
use Rattle.std.proofs.lemmas.Bool.{eqb-true, true≢false}
use Rattle.plain.specs.Pattern.{pick, none_of}
use Rattle.plain.specs.Command.{lines_of}
use Rattle.typed.specs.declared.given.Lines as typed_lines
use Rattle.typed.specs.declared.deeds.Deed.{Deed}
use Rattle.typed.specs.declared.deeds.Deed.TheVariants as deed
use Rattle.typed.specs.Meaning.{text_lines, lines_in, deed_of}
use Rattle.std.specs.Option.{unwrap_or}
use Rattle.std.proofs.Common.{Some, None, Option, ◌⊎◌, inl, inr}
use Rattle.commands.specs.Code.{walk_as, update_as, rows_as, plan_as}
use Rattle.journal.specs.Values.{source_of}
use Rattle.commands.specs.Turn.{lines_given, name_given}
use Rattle.commands.specs.declared.plan.Walk.{Walk}
use Rattle.commands.specs.declared.plan.Walk.TheVariants as walk
use Rattle.commands.specs.declared.plan.Update.{Update}
use Rattle.commands.specs.declared.plan.Update.TheVariants as update
use Rattle.commands.specs.declared.plan.Rows.{Rows}
use Rattle.commands.specs.declared.plan.Rows.TheVariants as rows
use Rattle.journal.specs.declared.commit.Source.{Source}
use Rattle.journal.specs.declared.commit.Source.TheVariants as source
use Rattle.commands.specs.declared.plan.Plan.{Plan}
use Rattle.memory.specs.declared.job.Lines.TheVariants.{Nothing, Given}
use Rattle.execution.specs.Plans.{walk_code, update_code, rows_code, source_code, plan_code, with_newlines, lines_kind}

-- LINES, split and put together again
pub lines_some : (l cs : List ℕ) → none_of (lines_of l cs) ≡ false
unfolding lines_of
lines_some l [] = refl
lines_some l (c ∷ cs) = let a = lines_some (l ++ c ∷ []) cs in by (eqb c 10) a
  where
    by : (b : Bool) → none_of (lines_of (l ++ c ∷ []) cs) ≡ false → none_of (pick b (l ∷ lines_of [] cs) (lines_of (l ++ c ∷ []) cs)) ≡ false
    by true a = refl
    by false a = a

with_more : (l : List ℕ) (ls : List (List ℕ)) → none_of ls ≡ false → with_newlines (l ∷ ls) ≡ l ++ 10 ∷ with_newlines ls
with_more l [] e = absurd (true≢false e)
with_more l (k ∷ ls) e = refl

pub joined_back : (l t : List ℕ) → with_newlines (lines_of l t) ≡ l ++ t
unfolding lines_of
joined_back l [] = sym (append-nil l)
joined_back l (c ∷ cs) = by (eqb c 10) refl (joined_back [] cs) (joined_back (l ++ c ∷ []) cs)
  where
    by : (b : Bool) → eqb c 10 ≡ b → with_newlines (lines_of [] cs) ≡ cs → with_newlines (lines_of (l ++ c ∷ []) cs) ≡ (l ++ c ∷ []) ++ cs
        → with_newlines (pick b (l ∷ lines_of [] cs) (lines_of (l ++ c ∷ []) cs)) ≡ l ++ c ∷ cs
    by true e f g = with_more l (lines_of [] cs) (lines_some [] cs) ∙ ap (λ t. l ++ 10 ∷ t) f ∙ ap (λ n. l ++ n ∷ cs) (sym (eqb-true c 10 e))
    by false e f g = g ∙ append_assoc l (c ∷ []) cs

pub text-back : (ls : typed_lines.Lines) (none : Bor (List ℕ)) → none.now ≡ [] → (unwrap_or ls.text none).now ≡ with_newlines (lines_in ls)
text-back ls none e = by ls.text
  where
    by : (o : Option (Bor (List ℕ))) → (unwrap_or o none).now ≡ with_newlines (text_lines o)
    by None = e
    by (Some t) = sym (joined_back [] t.now)

pub kind-given : (ls : typed_lines.Lines) (t : Bor (List ℕ)) → ls.text ≡ Some t → Given ≡ lines_kind (lines_in ls)
kind-given ls t e = ap (λ b. pick b Nothing Given) (sym (lines_some [] t.now)) ∙ ap (λ o. lines_kind (text_lines o)) (sym e)

-- DEEDS that give lines, or name a file
pub lines_of_deed : (d : Deed) (ls : typed_lines.Lines) → (d ≡ deed.Append ls) ⊎ ((d ≡ deed.Insert ls) ⊎ (d ≡ deed.Change ls)) → lines_in ls ≡ lines_given (deed_of d)
unfolding lines_given
lines_of_deed d ls is =
    elim is [
      | inl e ↦ ap (λ x. lines_given (deed_of x)) (sym e)
      | inr e ↦ elim e [ inl f ↦ ap (λ x. lines_given (deed_of x)) (sym f) | inr f ↦ ap (λ x. lines_given (deed_of x)) (sym f) ]
    ]

pub name_of_deed : (d : Deed) (n : Bor (List ℕ)) → (d ≡ deed.Write n) ⊎ ((d ≡ deed.Edit n) ⊎ (d ≡ deed.Read n)) → n.now ≡ name_given (deed_of d)
unfolding name_given
name_of_deed d n is =
    elim is [
      | inl e ↦ ap (λ x. name_given (deed_of x)) (sym e)
      | inr e ↦ elim e [ inl f ↦ ap (λ x. name_given (deed_of x)) (sym f) | inr f ↦ ap (λ x. name_given (deed_of x)) (sym f) ]
    ]

-- DEEDS that give nothing
pub no_name : (d : Deed) → ((n : Bor (List ℕ)) → d ≡ deed.Write n → ⊥) → ((n : Bor (List ℕ)) → d ≡ deed.Edit n → ⊥) → ((n : Bor (List ℕ)) → d ≡ deed.Read n → ⊥)
    → [] ≡ name_given (deed_of d)
unfolding name_given
no_name (deed.Append ls) p q t = refl
no_name (deed.Insert ls) p q t = refl
no_name (deed.Change ls) p q t = refl
no_name deed.Delete p q t = refl
no_name deed.Join p q t = refl
no_name (deed.Move a) p q t = refl
no_name (deed.Copy a) p q t = refl
no_name (deed.Mark k) p q t = refl
no_name deed.Print p q t = refl
no_name deed.Number p q t = refl
no_name deed.LineNumber p q t = refl
no_name (deed.Substitute a b k) p q t = refl
no_name deed.GoTo p q t = refl
no_name deed.Undo p q t = refl
no_name deed.Redo p q t = refl
no_name (deed.Write n) p q t = absurd (p n refl)
no_name (deed.Edit n) p q t = absurd (q n refl)
no_name (deed.Read n) p q t = absurd (t n refl)
no_name deed.Files p q t = refl

pub no_lines : (d : Deed) → ((ls : typed_lines.Lines) → d ≡ deed.Append ls → ⊥) → ((ls : typed_lines.Lines) → d ≡ deed.Insert ls → ⊥)
    → ((ls : typed_lines.Lines) → d ≡ deed.Change ls → ⊥) → [] ≡ lines_given (deed_of d)
unfolding lines_given
no_lines (deed.Append ls) p q t = absurd (p ls refl)
no_lines (deed.Insert ls) p q t = absurd (q ls refl)
no_lines (deed.Change ls) p q t = absurd (t ls refl)
no_lines deed.Delete p q t = refl
no_lines deed.Join p q t = refl
no_lines (deed.Move a) p q t = refl
no_lines (deed.Copy a) p q t = refl
no_lines (deed.Mark k) p q t = refl
no_lines deed.Print p q t = refl
no_lines deed.Number p q t = refl
no_lines deed.LineNumber p q t = refl
no_lines (deed.Substitute a b k) p q t = refl
no_lines deed.GoTo p q t = refl
no_lines deed.Undo p q t = refl
no_lines deed.Redo p q t = refl
no_lines (deed.Write n) p q t = refl
no_lines (deed.Edit n) p q t = refl
no_lines (deed.Read n) p q t = refl
no_lines deed.Files p q t = refl

-- PLANS, there and back
walk-back : (w : Walk) → walk_code (walk_as w) ≡ w
walk-back walk.Skip = refl
walk-back walk.Show = refl
walk-back walk.ShowNumbered = refl
walk-back walk.Measure = refl
walk-back walk.Join = refl

update-back : (u : Update) → update_code (update_as u) ≡ u
update-back update.Nothing = refl
update-back update.Current = refl
update-back update.Text = refl
update-back (update.File i) = refl

rows_back : (r : Rows) → rows_code (rows_as r) ≡ r
rows_back rows.Nothing = refl
rows_back (rows.Number n) = refl
rows_back rows.Files = refl

source-back : (s : Source ℕ) → source_code (source_of s) ≡ s
source-back source.Nothing = refl
source-back source.New = refl
source-back (source.Copied a b) = refl

pub plan-back : (p : Plan) → plan_code (plan_as p) ≡ p
plan-back p = λ i. record {
  walk = walk-back p.walk i;
  span = record { after = p.span.after; upto = p.span.upto };
  update = update-back p.update i;
  splice = record { from = p.splice.from; gone = p.splice.gone; source = source-back p.splice.source i };
  came = p.came;
  count = p.count;
  current = p.current;
  rows = rows_back p.rows i;
}
