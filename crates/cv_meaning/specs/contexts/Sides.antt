-- A side of an equivalence as what answers the calls of a context. Blanchet and Pointcheval, CRYPTO 2006.
-- The list of cells is this profile's own.
use Rattle.std.specs.Prelude.{ℕ, List, [], ◌∷◌, ◌++◌, map, Option, Some, None}
use Rattle.cv_syntax_trees.specs.declared.head.Head.{Head}
use Rattle.cv_syntax_trees.specs.declared.head.Head.TheVariants.{New, Find}
use Rattle.cv_syntax_trees.specs.Tree.{Tree, Empty, Node, first_place, second_place}
use Rattle.cv_syntax_trees.specs.Declarations.{Declaration}
use Rattle.cv_meaning.specs.Tapes.{Cell, Made_at, Picked_at}
use Rattle.cv_meaning.specs.Side.{CallNumber, Side}
use Rattle.cv_meaning.specs.Interpretation.{Interpretation, Setting, setting_of}
use Rattle.cv_meaning.specs.Cells.{without_repeats}
use Rattle.cv_meaning.specs.contexts.Groups.{Which, Function, side_group}
use Rattle.cv_meaning.specs.contexts.Sites.{sites_of}
use Rattle.cv_meaning.specs.contexts.Finds.{Oracles}
use Rattle.cv_meaning.specs.contexts.Bodies.{function_called, reply}

-- the cells of a call, each once: what its function can choose, and what its finds can pick

abbrev pub chosen_cell : Interpretation → CallNumber → ℕ × ℕ → Cell × ℕ
chosen_cell i n x = (Made_at x.0 n.tuple n.site, i.type_size x.1)

abbrev pub cells_here : Interpretation → CallNumber → ℕ → Head → List (Cell × ℕ)
cells_here i n p (New x T) = chosen_cell i n (x, T) ∷ []
cells_here i n p (Find l) = (Picked_at p n.tuple n.site, i.choices) ∷ []
cells_here i n p h = []

unfoldable pub body_cells : Interpretation → CallNumber → ℕ → Tree → List (Cell × ℕ)
body_cells i n p Empty = []
body_cells i n p (Node h a b) = cells_here i n p h ++ (body_cells i n (first_place p h) a ++ body_cells i n (second_place p h a) b)

abbrev pub function_cells : Interpretation → CallNumber → Option Function → List (Cell × ℕ)
function_cells i n None = []
function_cells i n (Some f) = without_repeats (map (chosen_cell i n) f.coins ++ body_cells i n 0 f.body)

abbrev pub side_from : Oracles → Side
side_from o =
    record {
      reply = reply o;
      cells = λ n. function_cells o.setting.interpretation n (function_called o n);
      key_size = o.setting.interpretation.type_size o.group.key.1;
    }

-- contexts

-- a game with calls, an equivalence, and for each site by number the position of its function
pub record Context : Type 0 where
  pub game : Tree
  pub equivalence : Tree
  pub functions : List ℕ

abbrev pub oracles_of : Setting → Context → Which → Oracles
oracles_of g c which = record { setting = g; group = side_group which c.equivalence; sites = sites_of g c.game c.functions }

-- a side of the context's equivalence
abbrev pub side_of : List Declaration → Interpretation → Context → Which → Side
side_of declarations i c which = side_from (oracles_of (setting_of declarations i) c which)
