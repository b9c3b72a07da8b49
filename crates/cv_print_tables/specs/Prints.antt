-- What a layout prints: it takes trees from the front of a list, and gives their text and the trees behind.
use Rattle.std.specs.Prelude.{◌≡◌, ℕ, zero, suc, ◌+◌, Bool, true, false, ◌||◌, if◌then◌else◌, List, [], ◌∷◌, ◌++◌, Option, Some, None, length, codes}
use Rattle.std.specs.Fmt.{decimal}
use Rattle.cv_syntax_trees.specs.declared.head.Head.{Head}
use Rattle.cv_syntax_trees.specs.declared.head.Head.TheVariants as head
use Rattle.cv_syntax_trees.specs.Head.{same_head}
use Rattle.cv_syntax_trees.specs.Tree.{Tree, Empty, Node, first, second}
use Rattle.cv_print.specs.Terms.{name_text, term_text, terms_text}
use Rattle.cv_parse_tables.specs.declared.piece.Outer.{Outer}
use Rattle.cv_parse_tables.specs.declared.piece.Outer.TheVariants as phrase
use Rattle.cv_parse_tables.specs.Table.{Table}
use Rattle.cv_print_tables.specs.Layout.{Layout, text, name, number, outer, deeper, never, both, either, may, many, level, chained, over, layout}

-- the items of a list, of one tree of so many, and of a node over so many
unfoldable pub chain_items : Tree → List Tree
chain_items Empty = []
chain_items (Node h a b) = a ∷ chain_items b

unfoldable pub single_items : ℕ → Tree → List Tree
single_items zero t = []
single_items (suc zero) t = t ∷ []
single_items (suc (suc n)) t = first t ∷ single_items (suc n) (second t)

abbrev pub node_items : ℕ → Tree → List Tree
node_items zero t = []
node_items (suc n) t = first t ∷ single_items n (second t)

-- how many trees a row takes: one for each part but those with a text of their own
abbrev pub takes : Layout → ℕ
takes (text s) = 0
takes (both f g) = takes f + takes g
takes f = 1

-- a row's first part that takes a tree tells by the tree's head whether the tree belongs to the row

abbrev pub is_text : Layout → Bool
is_text (text s) = true
is_text f = false

abbrev pub is_name : Head → Bool
is_name (head.Name x) = true
is_name h = false

abbrev pub is_number : Head → Bool
is_number (head.Number v) = true
is_number h = false

abbrev pub is_term : Head → Bool
is_term (head.Leaf x) = true
is_term (head.Primed x) = true
is_term (head.Read x) = true
is_term (head.Apply f) = true
is_term head.Eq = true
is_term head.And = true
is_term head.Or = true
is_term head.Not = true
is_term head.Yes = true
is_term head.No = true
is_term h = false

-- lists are told by no head
abbrev pub is_outer : Outer → Head → Bool
is_outer phrase.Terms h = true
is_outer phrase.InnerSubscript h = true
is_outer p h = is_term h

abbrev pub belongs : Layout → Head → Bool
belongs (text s) h = false
belongs name h = is_name h
belongs number h = is_number h
belongs (outer p) h = is_outer p h
belongs (deeper r) h = true
belongs never h = false
belongs (both f g) h = if is_text f then belongs g h else belongs f h
belongs (either f g) h = belongs f h || belongs g h
belongs (may f) h = belongs f h
belongs (many f) h = belongs f h
belongs (level f) h = belongs f h
belongs (chained f) h = true
belongs (over k f) h = same_head k h

-- the head of the next tree
abbrev pub first_head : List Tree → Option Head
first_head [] = None
first_head (Empty ∷ ts) = None
first_head (Node h a b ∷ ts) = Some h

abbrev pub head_belongs : Layout → Option Head → Bool
head_belongs f None = false
head_belongs f (Some h) = belongs f h

abbrev pub next_belongs : Layout → List Tree → Bool
next_belongs f ts = head_belongs f (first_head ts)

pub record Printed : Type 0 where
  pub text : List ℕ
  pub rest : List Tree

abbrev pub Printer : Type 0
Printer = List Tree → Printed

abbrev pub printed : List ℕ → List Tree → Printed
printed s ts = record { text = s; rest = ts }

-- the text of the next tree
abbrev pub one : (Tree → List ℕ) → Printer
one f [] = printed [] []
one f (t ∷ ts) = printed (f t) ts

-- one text behind another
abbrev pub followed : Printed → Printer → Printed
followed x q = printed (x.text ++ (q x.rest).text) (q x.rest).rest

-- n bounds how often
abbrev pub repeated : (List Tree → Bool) → Printer → ℕ → Printer
repeated goes_on p zero ts = printed [] ts
repeated goes_on p (suc n) ts = if goes_on ts then followed (p ts) (repeated goes_on p n) else printed [] ts

abbrev pub name_of : List (List ℕ) → Tree → List ℕ
name_of names (Node (head.Name x) a b) = name_text names x
name_of names t = []

abbrev pub number_of : Tree → List ℕ
number_of (Node (head.Number v) a b) = decimal v
number_of t = []

abbrev pub outer_text : List (List ℕ) → Outer → Tree → List ℕ
outer_text names phrase.Terms t = terms_text names [] t
outer_text names phrase.InnerSubscript t = codes "[" ++ terms_text names [] t ++ codes "]"
outer_text names p t = term_text names t

-- what a layout prints, with the names, and the texts of rows one level down
abbrev pub prints : List (List ℕ) → (ℕ → Tree → List ℕ) → Layout → Printer
prints names below (text s) ts = printed s ts
prints names below name ts = one (name_of names) ts
prints names below number ts = one number_of ts
prints names below (outer p) ts = one (outer_text names p) ts
prints names below (deeper r) ts = one (below r) ts
prints names below never ts = printed [] ts
prints names below (both f g) ts = followed (prints names below f ts) (prints names below g)
prints names below (either f g) ts = if next_belongs f ts then prints names below f ts else prints names below g ts
prints names below (may f) ts = if next_belongs f ts then prints names below f ts else printed [] ts
prints names below (many f) ts = repeated (next_belongs f) (prints names below f) (length ts) ts
prints names below (level f) ts = prints names below f ts
prints names below (chained f) ts = one (λ t. (prints names below f (chain_items t)).text) ts
prints names below (over h f) ts = one (λ t. (prints names below f (node_items (takes f) t)).text) ts

-- the text of a tree by a row, where so many levels are printed
unfoldable pub tree_text : Table → List (List ℕ) → ℕ → ℕ → Tree → List ℕ
tree_text table names zero r t = []
tree_text table names (suc n) r t = (prints names (tree_text table names n) (layout table (length table) r) (t ∷ [])).text

-- what a layout prints with so many levels left
abbrev pub prints_in : Table → List (List ℕ) → ℕ → Layout → Printer
prints_in table names levels f ts = prints names (tree_text table names levels) f ts

-- where the next tree has this head, a layout prints what another one does
abbrev pub Chooses : Layout → Option Head → Layout → Type 0
Chooses f h g = (names : List (List ℕ)) (below : ℕ → Tree → List ℕ) (ts : List Tree) → first_head ts ≡ h → prints names below f ts ≡ prints names below g ts
