-- A commit applied, step by step. Assumes nothing.
use Rattle.std.proofs.Common.{◌≡◌, ℕ, ◌+◌, ◌-◌, Bool, true, false, List, Some, None, Option, sym, refl, ap, ◌∙◌, arith}
use Rattle.std.proofs.lemmas.Bool.{and_left, and_right, and_from}
use Rattle.plain.specs.Pattern.{pick}
use Rattle.journal.specs.Log.{Source, no_entries, new_entries, copied, Splice}
use Rattle.journal.specs.Small.{News}
use Rattle.commands.specs.Code.{when}
use Rattle.memory.specs.declared.kept.Kept.{Kept}
use Rattle.memory.specs.declared.commit.Counts.{Counts}
use Rattle.memory.specs.Sections.{pending_spliced, nothing_spliced, copied_spliced}
use Rattle.memory.specs.Commit.{can_by, came_by, spliced_by, can_note, counts_by, noted_by, can_apply, kept_after, applied}

pub when_none : (b : Bool) (n : ℕ) → None ≡ when b n → b ≡ false
when_none true n e = let z : ◌≡◌ {A = ℕ} 0 1 = ap (λ o. elim o [ Some x ↦ 1 | None ↦ 0 ]) e in absurd (omega arith)
when_none false n e = refl

pub when_some : (b : Bool) (k n : ℕ) → Some k ≡ when b n → (b ≡ true) × (k ≡ n)
when_some true k n e = (refl, ap (λ o. elim o [ Some x ↦ x | None ↦ 0 ]) e)
when_some false k n e = let z : ◌≡◌ {A = ℕ} 1 0 = ap (λ o. elim o [ Some x ↦ 1 | None ↦ 0 ]) e in absurd (omega arith)

pub pick_yes : {A : Type 0} (b : Bool) (x y : A) → b ≡ true → pick b x y ≡ x
pick_yes b x y e = ap (λ t. pick t x y) e

pub pick_no : {A : Type 0} (b : Bool) (x y : A) → b ≡ false → pick b x y ≡ y
pick_no b x y e = ap (λ t. pick t x y) e

-- what can't be spliced stays
pub spliced_not : (s : Source) (c p q k : ℕ) (m : List ℕ) → can_by s c p q k ≡ false → spliced_by s c p q k m ≡ m
unfolding nothing_spliced pending_spliced copied_spliced
spliced_not no_entries c p q k m e = pick_no (can_by no_entries c p q k) _ m e
spliced_not new_entries c p q k m e = pick_no (can_by new_entries c p q k) _ m e
spliced_not (copied x y) c p q k m e = pick_no (can_by (copied x y) c p q k) _ m e

-- WHAT apply LEAVES
pub record Applied (k : Kept) (c : Splice) (u : News) (o : Option Kept) (m m₁ : List ℕ) : Type 0 where
  pub kept : o ≡ when (can_apply k c u) (kept_after k c u)
  pub memory : m₁ ≡ applied k c u m

module _ (k : Kept) (c : Splice) (u : News) (m : List ℕ) where
  abbrev can : Bool
  can = can_by c.source k.entries c.from c.gone k.pending

  abbrev spliced : List ℕ
  spliced = spliced_by c.source k.entries c.from c.gone k.pending m

  not-applied : can_apply k c u ≡ false → Applied k c u None m m
  unfolding applied
  not-applied e = record { kept = ap (λ b. when b (kept_after k c u)) (sym e); memory = sym (pick_no (can_apply k c u) _ m e) }

  pub applied_unnoted : false ≡ can_note u.also k.files → Applied k c u None m m
  unfolding can_apply
  applied_unnoted e = not-applied (and_left (can_note u.also k.files) can (sym e))

  pub applied_unspliced : (m₁ : List ℕ) → None ≡ when can (k.entries - c.gone + came_by c.source k.pending) → m₁ ≡ spliced → Applied k c u None m m₁
  unfolding can_apply
  applied_unspliced m₁ e f =
      let n = when_none can _ e in
      let a = not-applied (and_right (can_note u.also k.files) can n) in
      let same : m₁ ≡ m = f ∙ spliced_not c.source k.entries c.from c.gone k.pending m n in
      record { kept = a.kept; memory = same ∙ a.memory }

  pub applied-both : (n : ℕ) (m₁ m₂ : List ℕ) (r : Counts) → true ≡ can_note u.also k.files
      → Some n ≡ when can (k.entries - c.gone + came_by c.source k.pending) → m₁ ≡ spliced
      → r ≡ counts_by u.also k.ring k.files → m₂ ≡ noted_by u.also k.ring k.files m₁
      → Applied k c u (Some record { entries = n; pending = 0; count = u.count; current = u.current; weight = u.weight; ring = r.ring; files = r.files }) m m₂
  unfolding applied can_apply kept_after
  applied-both n m₁ m₂ r e f g h j =
      let w = when_some can n _ f in
      let t : can_apply k c u ≡ true = and_from (can_note u.also k.files) can (sym e) w.0 in
      record {
        kept = (λ i. Some record { entries = w.1 i; pending = 0; count = u.count; current = u.current; weight = u.weight; ring = (h i).ring; files = (h i).files })
            ∙ ap (λ b. when b (kept_after k c u)) (sym t);
        memory = j ∙ ap (noted_by u.also k.ring k.files) g ∙ sym (pick_yes (can_apply k c u) (noted_by u.also k.ring k.files spliced) m t);
      }
