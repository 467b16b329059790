-- What a commit says is small enough to be added up. Assumes nothing.
use Rattle.std.proofs.Common.{◌≡◌, ℕ, suc, ◌+◌, ◌*◌, ◌<◌, ◌≤◌, Bool, true, false, ◌&&◌, eqb, ltb, List, [], ◌∷◌, ◌++◌, length, sym, subst, arith}
use Rattle.std.proofs.lemmas.List.{length-append}
use Rattle.plain.specs.Pattern.{pick, or}
use Rattle.plain.specs.Command.{lines_of}
use Rattle.journal.specs.Log.{Source, no_entries, new_entries, copied}
use Rattle.journal.specs.Small as small
use Rattle.journal.specs.Small.{Small}
use Rattle.commands.specs.Code.{plan_as}
use Rattle.commands.specs.Kept.{lines_size, moved_on}
use Rattle.commands.specs.Plan.{Plan, Update, same_as_before, current_only, the_text, the_file}
use Rattle.commands.specs.Smalls.{news_by}
use Rattle.commands.proofs.Resolved.{pick_both}
use Rattle.engine.specs.Machine as machine
use Rattle.engine.specs.Machine.{copied_weight, came_weight}
use Rattle.memory.specs.declared.job.Lines.{Lines}
use Rattle.memory.specs.declared.job.Lines.TheVariants as lines
use Rattle.memory.specs.declared.registers.Registers.{Registers}
use Rattle.memory.specs.Abstract.{small_of, text_of, name_of, job_lines, house_of}
use Rattle.memory.proofs.Texting.{text-long}
use Rattle.commits.specs.Bounds.{Loose}
use Rattle.journal.specs.declared.commit.Numbers.{Numbers}
use Rattle.journal.specs.declared.commit.Also.{Also}
use Rattle.journal.specs.declared.commit.Also.TheVariants.{Nothing, Push, Store}
use Rattle.journal.specs.Values.{also_of, news_of}
use Rattle.execution.specs.Room.{Light, AlsoLight, NewsLight}

-- in the words of the definitions
abbrev SaidAlso : small.Also → Type 0
SaidAlso small.nothing_else = Unit {0}
SaidAlso (small.push w) = Light w
SaidAlso (small.slot i e) = Light e.size

record SaidLight (u : small.News) : Type 0 where
  weight : Light u.weight
  also : SaidAlso u.also

also_light : (a : Also ℕ) (name : List ℕ) → SaidAlso (also_of a name) → AlsoLight a
also_light Nothing name l = tt
also_light (Push w) name l = l
also_light (Store i n w) name l = l

said-back : (n : Numbers ℕ) (name : List ℕ) → SaidLight (news_of n name) → NewsLight n
said-back n name l = record { weight = l.weight; also = also_light n.also name l.also }

-- LINES
lines_few : (l cs : List ℕ) → lines_size (lines_of l cs) ≤ 64 + length l + 65 * length cs
unfolding lines_of
lines_few l [] = omega arith
lines_few l (c ∷ cs) =
    let a = lines_few [] cs in
    let b = lines_few (l ++ c ∷ []) cs in
    let e = length-append l (c ∷ []) in
    pick_both (λ (z : List (List ℕ)). lines_size z ≤ 64 + length l + 65 * suc (length cs)) (eqb c 10) (l ∷ lines_of [] cs) (lines_of (l ++ c ∷ []) cs) (omega arith) (omega arith)

job_few : (ls : Lines) (t : List ℕ) → lines_size (job_lines ls t) ≤ 64 + 65 * length t
job_few lines.Nothing t = omega arith
job_few lines.Given t = let r = lines_few [] t in omega arith
job_few lines.Joined t = omega arith

-- WEIGHTS
copied_few : (u : Update) (went size n : ℕ) → went < n → size < n → copied_weight u went size < n
copied_few same_as_before went size n h k = omega arith
copied_few current_only went size n h k = omega arith
copied_few the_text went size n h k = k
copied_few (the_file i) went size n h k = h

came_few : (s : Source) (u : Update) (ls : List (List ℕ)) (went size n : ℕ) → lines_size ls < n → went < n → size < n → came_weight s u ls went size < n
came_few no_entries u ls went size n g h k = omega arith
came_few new_entries u ls went size n g h k = g
came_few (copied a b) u ls went size n g h k = copied_few u went size n h k

moved_few : (count a b came : ℕ) → moved_on count a b came ≤ 1
moved_few count a b came = by (ltb b count && or (ltb a b) (ltb 0 came))
  where
    by : (t : Bool) → pick t 1 0 ≤ 1
    by true = omega arith
    by false = omega arith

news_few : (u : Update) (s : Small) (p : Plan) (went came : ℕ) (name : List ℕ) → s.weight < 4294967296 → went < 1099511627776 → came < 1099511627776
    → p.upto < 1099511627776 → SaidLight (news_by u s p went came name)
unfolding news_by
news_few same_as_before s p went came name w h k b = record { weight = omega arith; also = tt }
news_few current_only s p went came name w h k b = record { weight = omega arith; also = tt }
news_few the_text s p went came name w h k b =
    let m = moved_few s.count p.after p.upto p.came in record { weight = omega arith; also = omega arith }
news_few (the_file i) s p went came name w h k b = record { weight = omega arith; also = omega arith }

-- of what a command brings
said_few : (r : Registers) (m : List ℕ) → Loose r → length m ≡ 262144 → SaidLight (machine.news_of (house_of r m))
unfolding house_of
said_few r m l h =
    let n = text-long r.job.text m h l.bounded.text in
    let j = job_few r.job.lines (text_of r.job.text m) in
    let p = plan_as r.job.plan in
    news_few p.update (small_of r.kept m) p r.walking.went _ (name_of r.job.name m) l.bounded.kept.weight l.went
    (came_few p.splice.source p.update (job_lines r.job.lines (text_of r.job.text m)) r.walking.went r.job.size 1099511627776 (omega arith) l.went l.size)
    l.plan.upto

pub news_light : (n : Numbers ℕ) (name : List ℕ) (r : Registers) (m : List ℕ) → Loose r → length m ≡ 262144 → news_of n name ≡ machine.news_of (house_of r m) → NewsLight n
news_light n name r m l h e = said-back n name (subst (λ u. SaidLight u) (sym e) (said_few r m l h))
