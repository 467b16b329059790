-- Which lines a command speaks of, from how many there are and the current one. Assumes nothing: these are definitions.
use Rattle.std.specs.Prelude.{ℕ, suc, ◌+◌, ◌-◌, Bool, ◌&&◌, ◌==◌, nat_le}
use Rattle.plain.specs.Pattern.{pick}
use Rattle.plain.specs.Command.{Address, Range, Deed, append, insert, change, delete, join, move, copy, mark, print, number, where_is, swap, go_to, undo, redo, save, edit, load, files, bad, Simple}

-- a value, or the number with which a command is refused
pub data Checked (A : Type 0) : Type 0 where
  good : A → Checked A
  refused : ℕ → Checked A

abbrev pub then : {A B : Type 0} → Checked A → (A → Checked B) → Checked B
then (good a) f = f a
then (refused k) f = refused k

-- goes on if the test holds
abbrev pub check : {A : Type 0} → Bool → ℕ → Checked A → Checked A
check t k c = pick t c (refused k)

-- as typed, both of them taken
pub record Bounds : Type 0 where
  pub first : ℕ
  pub last : ℕ

abbrev pub bounds : ℕ → ℕ → Bounds
bounds a b = record { first = a; last = b }

abbrev pub base_plain : ℕ → ℕ → Address → Checked ℕ
base_plain count at a =
    pick (a.kind == 0) (good at) (pick (a.kind == 1) (good count) (pick (a.kind == 2) (good a.number) (refused 2)))

abbrev pub counted : ℕ → Address → ℕ → Checked ℕ
counted count a n = check (nat_le a.back (n + a.on) && nat_le (n + a.on - a.back) count) 4 (good (n + a.on - a.back))

unfoldable pub resolve_plain : ℕ → ℕ → Address → Checked ℕ
resolve_plain count at a = then (base_plain count at a) (counted count a)

abbrev pub in_order : ℕ → ℕ → Checked Bounds
in_order a b = check (nat_le a b) 4 (good (bounds a b))

unfoldable pub resolve_range : ℕ → ℕ → Range → Bounds → Checked Bounds
resolve_range count at r none =
    pick (r.kind == 0) (good none)
    (pick (r.kind == 1) (then (resolve_plain count at r.first) (λ n. good (bounds n n)))
    (pick (r.kind == 2) (then (resolve_plain count at r.first) (λ n. then (resolve_plain count at r.second) (λ m. in_order n m)))
    (pick (r.kind == 3) (then (resolve_plain count at r.first) (λ n. then (resolve_plain count n r.second) (λ m. in_order n m)))
    (good (bounds 1 count)))))

-- without a range: the current line, it and the next, the last, all, the next
unfoldable pub default_bounds : ℕ → ℕ → Deed → Bounds
default_bounds count at (append ls) = bounds at at
default_bounds count at (insert ls) = bounds at at
default_bounds count at (change ls) = bounds at at
default_bounds count at delete = bounds at at
default_bounds count at join = bounds at (at + 1)
default_bounds count at (move a) = bounds at at
default_bounds count at (copy a) = bounds at at
default_bounds count at (mark c) = bounds at at
default_bounds count at print = bounds at at
default_bounds count at number = bounds at at
default_bounds count at where_is = bounds count count
default_bounds count at (swap p r k) = bounds at at
default_bounds count at go_to = bounds (suc at) (suc at)
default_bounds count at undo = bounds at at
default_bounds count at redo = bounds at at
default_bounds count at (save n) = bounds 1 count
default_bounds count at (edit n) = bounds at at
default_bounds count at (load n) = bounds count count
default_bounds count at files = bounds at at
default_bounds count at bad = bounds at at

abbrev pub command_bounds : ℕ → ℕ → Simple → Checked Bounds
command_bounds count at c = resolve_range count at c.range (default_bounds count at c.deed)

-- lines that are there, and at least one
abbrev pub there : ℕ → Bounds → Bool
there count b = (nat_le 1 b.first && nat_le b.first b.last) && nat_le b.last count
