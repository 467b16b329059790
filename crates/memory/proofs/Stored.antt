-- What a commit that is applied to the memory means, and what the memory stands for at the start. Assumes nothing.
use Rattle.std.proofs.Common.{◌≡◌, ℕ, ◌+◌, ◌-◌, ◌*◌, ◌<◌, ◌≤◌, true, ◌&&◌, ltb, leb, List, [], length, get_or, sym, refl, ap, ◌∙◌, arith}
use Rattle.std.proofs.lemmas.List.{get_or-drop}
use Rattle.std.proofs.lemmas.Bool.{and_parts, ltb-true}
use Rattle.plain.specs.Pattern.{all_bytes}
use Rattle.journal.specs.Log.{Splice, state, commit, after}
use Rattle.journal.specs.Small.{Entry, Also, nothing_else, push, slot, News, ring_by, files_by, updated}
use Rattle.engine.specs.Fits.{AlsoFits}
use Rattle.memory.specs.declared.kept.Kept.{Kept}
use Rattle.memory.specs.Registers.{part, TameKept}
use Rattle.memory.specs.Sections.{files_in, can_file, file_count}
use Rattle.memory.specs.Abstract.{pending_of, ring_of, file_at, files_of, store_of, text_of, name_of}
use Rattle.memory.specs.Commit.{can_by, came_by, spliced_by, can_note, counts_by, noted_by, can_apply, kept_after, applied}
use Rattle.memory.proofs.Frames.{SameDir, SameText, SameName}
use Rattle.memory.proofs.Filing.{file_there}
use Rattle.memory.proofs.Noting.{beside_weight, weight_means, beside_set, set-means}
use Rattle.memory.proofs.Applying.{spliced_means, beside_spliced}
use Rattle.memory.proofs.Committing.{pick_yes}
use Rattle.memory.proofs.Keeping.{kept_spliced}

-- THE SMALL STATE
pub record Noted (a : Also) (w f : ℕ) (m m₁ : List ℕ) : Type 0 where
  pub dir : SameDir m m₁
  pub text : SameText m m₁
  pub name : SameName m m₁
  pub ring : ring_of (counts_by a w f).ring m₁ ≡ ring_by a (ring_of w m)
  pub files : files_of (counts_by a w f).files m₁ ≡ files_by a (files_of f m)

pub noted_means : (a : Also) (ring files : ℕ) (m : List ℕ) → length m ≡ 262144 → ring ≤ 64 → files ≤ 64 → AlsoFits a → can_note a files ≡ true
    → Noted a ring files m (noted_by a ring files m)
noted_means nothing_else ring files m h hr hf f c = record { dir = λ n. refl; text = λ n. refl; name = λ n. refl; ring = refl; files = refl }
noted_means (push w) ring files m h hr hf f c =
    let b = beside_weight ring w m h in
    record { dir = b.dir; text = b.text; name = b.name; ring = weight_means ring w m h f hr; files = b.files files }
noted_means (slot i e) ring files m h hr hf f c =
    let b = beside_set files i e.name e.lines e.size m h c in
    let p = and_parts (leb (length e.name) 64 && all_bytes e.name) (ltb e.lines 4294967296 && ltb e.size 4294967296) f.1 in
    let q = and_parts (leb (length e.name) 64) (all_bytes e.name) p.0 in
    let r = and_parts (ltb e.lines 4294967296) (ltb e.size 4294967296) p.1 in
    record {
      dir = b.dir;
      text = b.text;
      name = b.name;
      ring = b.ring ring;
      files = ap (λ n. files_of n (noted_by (slot i e) ring files m)) (pick_yes (can_file files i (length e.name)) (file_count files i) files c)
          ∙ set-means files i e.name e.lines e.size m h c hf q.1 (ltb-true e.lines 4294967296 r.0) (ltb-true e.size 4294967296 r.1);
    }

-- THE STORE: the memory after a commit is what the log says, and text and name stay
pub record Committed (t at : ℕ) (k : Kept) (c : Splice) (u : News) (m : List ℕ) : Type 0 where
  pub store : store_of (kept_after k c u) (applied k c u m) ≡ after updated t at (store_of k m) (commit c u)
  pub text : SameText m (applied k c u m)
  pub name : SameName m (applied k c u m)

pub applied_means : (t at : ℕ) (k : Kept) (c : Splice) (u : News) (m : List ℕ) → length m ≡ 262144 → TameKept k → AlsoFits u.also → can_apply k c u ≡ true
    → Committed t at k c u m
unfolding can_apply kept_after applied pending_of
applied_means t at k c u m h tame f can =
    let p = and_parts (can_note u.also k.files) (can_by c.source k.entries c.from c.gone k.pending) can in
    let m₁ = spliced_by c.source k.entries c.from c.gone k.pending m in
    let h₁ : length m₁ ≡ 262144 = (kept_spliced c.source k.entries c.from c.gone k.pending m h).long ∙ h in
    let b = beside_spliced c.source k.entries c.from c.gone k.pending m h in
    let d = spliced_means c.source k.entries c.from c.gone k.pending m h p.1 in
    let n = noted_means u.also k.ring k.files m₁ h₁ tame.ring tame.files f p.0 in
    let is : applied k c u m ≡ noted_by u.also k.ring k.files m₁ = pick_yes (can_apply k c u) (noted_by u.also k.ring k.files m₁) m can in
    record {
      store =
          ap (store_of (kept_after k c u)) is
          ∙ (λ i. state ((n.dir (k.entries - c.gone + came_by c.source k.pending) ∙ d) i) []
          (record {
            count = u.count;
            current = u.current;
            weight = u.weight;
            ring = (n.ring ∙ ap (ring_by u.also) (b.ring k.ring)) i;
            files = (n.files ∙ ap (files_by u.also) (b.files k.files)) i;
          }));
      text = λ j. ap (text_of j) is ∙ n.text j ∙ b.text j;
      name = λ j. ap (name_of j) is ∙ n.name j ∙ b.name j;
    }

-- A FILE READ
pub file_means : (n i : ℕ) (m : List ℕ) (d : Entry) → i < n → get_or (files_of n m) i d ≡ file_at (part (67 * i) 67 (files_in m))
file_means n i m d h =
    let e : i + 0 ≡ i = omega arith in
    ap (λ k. get_or (files_of n m) k d) (sym e) ∙ sym (get_or-drop i (files_of n m) 0 d) ∙ ap (λ es. get_or es 0 d) (file_there i n (files_in m) h)
