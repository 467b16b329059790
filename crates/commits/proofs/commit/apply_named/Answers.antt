use Rattle.std.proofs.Common.{◌≡◌, map, length, unwrap_or, sym, ap, ◌∙◌, arith}
use Rattle.std.proofs.lemmas.List.{length-take, length-drop}
use Rattle.plain.specs.Pattern.{pick}
use Rattle.journal.specs.Values.{news_of, splice_of}
use Rattle.memory.specs.Abstract.{name_of}
use Rattle.memory.specs.Commit.{can_apply, kept_after, applied}
use Rattle.memory.specs.Sections.{low, name_in}
use Rattle.commits.proofs.Committed.{value_when}
use Rattle.commits.proofs.commit.apply_named.Goals as goal

pub copy_low-requires : goal.copy_low-requires
copy_low-requires c =
    let n = c.args.job.name in
    length-take n c.args.name.now
    ∙ sym (ap length c.kept_name.ensures ∙ length-take n (name_in c.args.memory.now) ∙ simp (length-take, length-drop) (omega arith))

pub returns : goal.returns
unfolding name_of
returns c =
    let k = c.args.kept in
    let v = c.args.numbers in
    let s = splice_of c.clamp-splice.result in
    let bs : c.copy_low.new.out ≡ name_of c.args.job.name c.args.memory.now = c.copy_low.ensures ∙ ap (map low) c.kept_name.ensures in
    record {
      kept = c.unwrap_or.ensures ∙ ap (λ t. unwrap_or t k) c.apply.ensures.kept
          ∙ value_when (can_apply k s (news_of v c.copy_low.new.out)) (kept_after k s (news_of v c.copy_low.new.out)) k
          ∙ (λ i. pick (can_apply k (c.clamp-splice.ensures i) (news_of v (bs i))) (kept_after k (c.clamp-splice.ensures i) (news_of v (bs i))) k);
      memory = c.apply.ensures.memory ∙ (λ i. applied k (c.clamp-splice.ensures i) (news_of v (bs i)) c.args.memory.now);
    }
