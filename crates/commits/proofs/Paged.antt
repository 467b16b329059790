-- What a commit says, and its page. Assumes nothing.
use Rattle.std.proofs.Common.{◌≡◌, ℕ, ◌≤◌, List, ◌++◌, length, take, drop, sym, ap, ◌∙◌, subst, arith}
use Rattle.std.proofs.lemmas.List.{length-take, length-map}
use Rattle.journal.specs.Log.{Splice, commit}
use Rattle.journal.specs.Small.{News}
use Rattle.records.specs.Pages.{page_of, entry_in, name_in}
use Rattle.records.specs.Checked.{cut_news, cut_splice}
use Rattle.records.proofs.Digits.{length-closed}
use Rattle.records.proofs.Read.{page_cut}
use Rattle.commands.specs.declared.plan.Update.{Update}
use Rattle.commands.specs.Code.{plan_as, update_as}
use Rattle.journal.specs.Values.{source_of, splice_of, news_of, also_of}
use Rattle.commands.specs.Smalls.{news_by}
use Rattle.engine.specs.Machine as machine
use Rattle.memory.specs.declared.registers.Registers.{Registers}
use Rattle.memory.specs.Abstract.{house_of, job_lines, name_of, small_of, text_of}
use Rattle.journal.specs.declared.commit.Numbers.{Numbers}
use Rattle.memory.specs.Sections.{low, name_in as name_in_memory}
use Rattle.journal.specs.declared.commit.Numbers as declared_news
use Rattle.journal.specs.declared.commit.Also as declared
use Rattle.journal.specs.declared.commit.Also.TheVariants as code
use Rattle.commits.specs.News.{news_in}

abbrev pub came_in : Registers → List ℕ → ℕ
came_in r m =
    machine.came_weight (source_of r.job.plan.splice.source) (update_as r.job.plan.update) (job_lines r.job.lines (text_of r.job.text m)) r.walking.went r.job.size

pub news_is : (u : Update) (r : Registers) (m : List ℕ) → r.job.plan.update ≡ u
    → machine.news_of (house_of r m) ≡ news_by (update_as u) (small_of r.kept m) (plan_as r.job.plan) r.walking.went (came_in r m) (name_of r.job.name m)
unfolding house_of
news_is u r m e =
    ap (λ t. news_by (update_as t) (small_of r.kept m) (plan_as r.job.plan) r.walking.went (came_in r m) (name_of r.job.name m)) e

-- a page has 512 bytes
pub commit-long : (c : Splice) (u : News) → length (name_in u) ≤ 64 → length (page_of (commit c u)) ≡ 512
unfolding page_of
commit-long c u h = let n = length-closed 458 (name_in u) (omega arith) in omega arith

-- THE PAGE OF A COMMAND'S COMMIT
name-small : (a : declared.Also ℕ) (name : List ℕ) → length name ≤ 64 → length (entry_in (also_of a name)).name ≤ 64
name-small code.Nothing name h = omega arith
name-small (code.Push w) name h = omega arith
name-small (code.Store k l w) name h = h

pub name_few : (n : ℕ) (m : List ℕ) → n ≤ 64 → length (name_of n m) ≤ 64
unfolding name_of
name_few n m h = let k = length-map (take n (name_in_memory m)) low in let l = length-take n (name_in_memory m) in omega arith

module _ (r : Registers) (m out out₁ : List ℕ) (v : Numbers ℕ) (n : declared_news.Numbers ℕ) (few : r.job.name ≤ 64) where
  abbrev name_now : List ℕ
  name_now = name_of r.job.name m

  abbrev said : News
  said = machine.news_of (house_of r m)

  pub news-said : news_of v name_now ≡ cut_news (news_of n name_now) → news_of n name_now ≡ said → news_of v name_now ≡ news_in r m
  news-said e f = e ∙ ap cut_news f

  pub page_put : news_of v name_now ≡ cut_news (news_of n name_now) → news_of n name_now ≡ said
      → out₁ ≡ page_of (commit (cut_splice (splice_of r.job.plan.splice)) (news_of v name_now)) ++ drop 512 out
      → out₁ ≡ page_of (machine.commit_of (house_of r m)) ++ drop (length (page_of (machine.commit_of (house_of r m)))) out
  unfolding house_of
  page_put e f g =
      let s = splice_of r.job.plan.splice in
      let p : page_of (commit (cut_splice s) (news_of v name_now)) ≡ page_of (commit s said) = ap (λ u. page_of (commit (cut_splice s) u)) (news-said e f) ∙ page_cut s said in
      let few-name : length (name_in said) ≤ 64 = subst (λ u. length (name_in u) ≤ 64) f (name-small n.also name_now (name_few r.job.name m few)) in
      g ∙ (λ i. p i ++ drop (sym (commit-long s said few-name) i) out)
