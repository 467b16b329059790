-- The small state that a commit record sets beside the directory: the text's count of lines, current line and weight, the weights of stands, and the table of
-- files; and the commit records that set it up on a new tape. Assumes nothing: these are definitions.
use Rattle.std.specs.Prelude.{ℕ, suc, List, [], ◌∷◌, ◌++◌, length, take, drop, nat_lt}
use Rattle.plain.specs.Pattern.{pick}

-- of a file its name, how many lines it has, and what these weigh
pub record Entry : Type 0 where
  pub name : List ℕ
  pub lines : ℕ
  pub size : ℕ

abbrev pub entry : List ℕ → ℕ → ℕ → Entry
entry n l s = record { name = n; lines = l; size = s }

pub record Small : Type 0 where
  pub count : ℕ  -- lines of the text
  pub current : ℕ
  pub weight : ℕ  -- of the lines of the text
  pub ring : List ℕ  -- what each earlier stand weighs, the oldest first, up to 64
  pub files : List Entry

abbrev pub small : ℕ → ℕ → ℕ → List ℕ → List Entry → Small
small a b c r fs = record { count = a; current = b; weight = c; ring = r; files = fs }

abbrev pub no_state : Small
no_state = small 0 0 0 [] []

-- what a commit says besides the text's numbers
pub data Also : Type 0 where
  nothing_else : Also
  push : ℕ → Also
  slot : ℕ → Entry → Also

pub record News : Type 0 where
  pub count : ℕ
  pub current : ℕ
  pub weight : ℕ
  pub also : Also

abbrev pub news : ℕ → ℕ → ℕ → Also → News
news a b c d = record { count = a; current = b; weight = c; also = d }

-- a 65th drops the oldest
abbrev pub pushed : List ℕ → ℕ → List ℕ
pushed r n = pick (nat_lt (length r) 64) (r ++ n ∷ []) (drop 1 r ++ n ∷ [])

abbrev pub ring_by : Also → List ℕ → List ℕ
ring_by nothing_else r = r
ring_by (push n) r = pushed r n
ring_by (slot i e) r = r

abbrev pub files_by : Also → List Entry → List Entry
files_by nothing_else es = es
files_by (push n) es = es
files_by (slot i e) es = take i es ++ (e ∷ drop (suc i) es)

abbrev pub updated : News → Small → Small
updated u s = small u.count u.current u.weight (ring_by u.also s.ring) (files_by u.also s.files)

-- SETTING IT UP on a new tape: the ring, the files, then the text's numbers
unfoldable pub pushes : List ℕ → List News
pushes [] = []
pushes (w ∷ ws) = news 0 0 0 (push w) ∷ pushes ws

unfoldable pub slots : ℕ → List Entry → List News
slots k [] = []
slots k (e ∷ es) = news 0 0 0 (slot k e) ∷ slots (suc k) es

abbrev pub set_up_of : Small → List News
set_up_of s = pushes s.ring ++ (slots 0 s.files ++ news s.count s.current s.weight nothing_else ∷ [])
