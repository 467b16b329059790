-- A day in the plain house: a shopping list is typed, changed, searched and kept as a file. Assumes nothing: these are definitions.
use Rattle.std.specs.Prelude.{◌≡◌, ℕ, List, [], ◌∷◌, ◌++◌, codes}
use Rattle.plain.specs.Pattern.{eight, with_length, flat}
use Rattle.plain.specs.Command.{Command, reads}
use Rattle.plain.specs.House.{Plain, Turn, turn, no, weight}
use Rattle.plain.specs.Promise.{first_plain}

-- a typed line, how it ends (0 done, or the number of the refusal), and the rows that it shows
pub record Entry : Type 0 where
  pub typed : List ℕ
  pub reply : ℕ
  pub shows : List (List ℕ)

abbrev pub entry : List ℕ → ℕ → List (List ℕ) → Entry
entry t k ss = record { typed = t; reply = k; shows = ss }

abbrev pub with_lines : List ℕ → List (List ℕ) → List ℕ
with_lines t ls = t ++ flat (λ l. 10 ∷ l) ls

abbrev pub numbered_row : ℕ → List ℕ → List ℕ
numbered_row n l = eight n ++ l

abbrev pub file_row : List ℕ → ℕ → List ℕ
file_row name n = with_length name ++ eight n

unfoldable pub shopping_list : List Entry
shopping_list =
    entry (with_lines (codes "a") (codes "milk 2" ∷ codes "bread 1" ∷ codes "butter 3" ∷ codes "milk 1" ∷ [])) 0 []
    ∷ entry (codes "2d") 0 []
    ∷ entry (codes "%p") 0 (codes "milk 2" ∷ codes "butter 3" ∷ codes "milk 1" ∷ [])
    ∷ entry (codes "u") 0 []
    ∷ entry (codes "%p") 0 (codes "milk 2" ∷ codes "bread 1" ∷ codes "butter 3" ∷ codes "milk 1" ∷ [])
    ∷ entry (codes "U") 0 []
    ∷ entry (codes "/milk/") 0 (codes "milk 2" ∷ [])
    ∷ entry (codes "s/[0-9]+/<&>/") 0 []
    ∷ entry (codes "%p") 0 (codes "milk <2>" ∷ codes "butter 3" ∷ codes "milk 1" ∷ [])
    ∷ entry (codes "?butter?,$p") 0 (codes "butter 3" ∷ codes "milk 1" ∷ [])
    ∷ entry (codes "g/milk/s/<?[12]>?/x/") 0 []
    ∷ entry (codes "v/milk/m0") 0 []
    ∷ entry (codes "%p") 0 (codes "butter 3" ∷ codes "milk x" ∷ codes "milk x" ∷ [])
    ∷ entry (codes "1ka") 0 []
    ∷ entry (codes "$t0") 0 []
    ∷ entry (codes "'ap") 0 (codes "butter 3" ∷ [])
    ∷ entry (codes "w list") 0 (eight 4 ∷ [])
    ∷ entry (codes "g/milk/d") 0 []
    ∷ entry (codes "%n") 0 (numbered_row 1 (codes "butter 3") ∷ [])
    ∷ entry (codes "r list") 0 []
    ∷ entry (codes "%p") 0 (codes "butter 3" ∷ codes "milk x" ∷ codes "butter 3" ∷ codes "milk x" ∷ codes "milk x" ∷ [])
    ∷ entry (codes "7p") 4 []
    ∷ entry (codes "s/zzz/a/") 6 []
    ∷ entry (codes "e list") 0 (eight 4 ∷ [])
    ∷ entry (codes "=") 0 (eight 4 ∷ [])
    ∷ entry (codes "u") 0 []
    ∷ entry (codes "u") 0 []
    ∷ entry (codes "u") 0 []
    ∷ entry (codes "s//!/") 6 []
    ∷ entry (codes "f") 0 (file_row (codes "list") 4 ∷ [])
    ∷ []

-- what is typed, done: what can't be read is refused with 1
abbrev pub done_as_read : Plain → List Command → Turn
done_as_read w [] = no 1 w
done_as_read w (c ∷ cs) = turn w c

unfoldable pub played : Plain → List Entry → List Entry
played w [] = []
played w (e ∷ es) =
    let t : Turn = done_as_read w (reads e.typed) in
    entry e.typed t.reply t.shows ∷ played t.next es

unfoldable pub after_all : Plain → List Entry → Plain
after_all w [] = w
after_all w (e ∷ es) = after_all (done_as_read w (reads e.typed)).next es

unfoldable pub ShoppingListStands : Type 0
ShoppingListStands = (played first_plain shopping_list ≡ shopping_list) × (weight (after_all first_plain shopping_list) ≡ 4807)
