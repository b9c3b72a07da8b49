-- What a derivation may cite at a place of a game, or at two of its places, and at the only site of a variable. Blanchet, TDSC 2008,
-- for the facts of a place; the order of facts and what is a site are this profile's own.
use Rattle.std.specs.Prelude.{ℕ, zero, suc, Bool, ◌&&◌, not, List, [], ◌∷◌, map, slice_get, is_some, Option, Some, None, option_and_then}
use Rattle.cv_syntax_trees.specs.declared.head.Head.TheVariants.{Leaf, Read}
use Rattle.cv_syntax_trees.specs.Tree.{Tree, Node, first}
use Rattle.cv_scope_rules.specs.Context.{Context}
use Rattle.cv_scope_rules.specs.Phrases.{OneCell, is_phrase}
use Rattle.cv_syntax_trees.specs.declared.sites.sort.Sort.{Sort}
use Rattle.cv_scope_rules.specs.typing.Signature.{sort_of}
use Rattle.cv_scope_rules.specs.typing.Typing.{first_fault}
use Rattle.cv_scope_rules.specs.typing.Wants.{AnyTerm}
use Rattle.cv_scope_rules.specs.Behind.{sites_of}
use Rattle.cv_scope_rules.specs.Above.{stands_at}
use Rattle.cv_scene.specs.Scenes.{Scene}
use Rattle.cv_scene.specs.Terms.{above_under, is_bool_under, is_sort, is_term_under, is_there, names_under, replications_at, signature_in}
use Rattle.cv_scene.specs.lines.Given.{with_given}
use Rattle.cv_scene.specs.lines.Lines.{Statement, Holds, IsDefined}

-- What a second copy adds, of a place of its own. Its indices have names that the game doesn't have. The facts there and the cells that
-- are directly defined there, over these names; the equations that are given; and the variables whose values are taken to differ.
pub record Pair : Type 0 where
  pub facts : List Tree
  pub cells : List Tree
  pub given : List Tree
  pub distinct : List ℕ

-- a place of a game, the indices that terms may name with their parameters, the facts there from the root down, the cells that are
-- directly defined there, and what a second copy adds
pub record Sight : Type 0 where
  pub scene : Scene
  pub place : ℕ
  pub replications : List (ℕ × ℕ)
  pub facts : List Tree
  pub cells : List Tree
  pub pair : Option Pair

abbrev pub facts_by : Option Context → List Tree
facts_by None = []
facts_by (Some Γ) = Γ.facts

abbrev pub cells_by : Option Context → List Tree
cells_by None = []
cells_by (Some Γ) = Γ.cells

abbrev pub sight_at : Scene → ℕ → Sight
sight_at s p =
    record {
      scene = s;
      place = p;
      replications = replications_at s p;
      facts = facts_by (stands_at s.game p);
      cells = cells_by (stands_at s.game p);
      pair = None;
    }

-- the k-th item of a list, from 1
abbrev pub from_one : {A : Type 0} → List A → ℕ → Option A
from_one xs zero = None
from_one xs (suc k) = slice_get xs k

-- typing under the indices: of a term, of a cell, of a statement; all names are there

abbrev pub is_cell_under : Scene → List (ℕ × ℕ) → Tree → Bool
is_cell_under s rs c =
    is_phrase OneCell c
    && (is_there (names_under s rs) OneCell c
    && not (is_some (first_fault (signature_in s) (above_under rs) AnyTerm 0 c)))

abbrev pub is_cell_at : Scene → ℕ → Tree → Bool
is_cell_at s p c = is_cell_under s (replications_at s p) c

abbrev pub is_typed : Sight → Statement → Bool
is_typed s (Holds t) = is_term_under s.scene s.replications t
is_typed s (IsDefined c) = is_cell_under s.scene s.replications c

-- the term is of this sort, and of `bool`

abbrev pub is_term_of : Sight → Sort → Tree → Bool
is_term_of s S m = is_term_under s.scene s.replications m && is_sort (sort_of (signature_in s.scene) (above_under s.replications) m) S

abbrev pub is_condition : Sight → Tree → Bool
is_condition s m = is_term_under s.scene s.replications m && is_bool_under s.scene s.replications m

-- what stands behind the definition of the variable of a cell, where there is one definition

abbrev pub variable_of : Tree → Option ℕ
variable_of (Node (Leaf x) a b) = Some x
variable_of (Node (Read x) a b) = Some x
variable_of t = None

abbrev pub only_site : List (ℕ × Context) → Option Context
only_site (s ∷ []) = Some s.1
only_site sites = None

abbrev pub site_of : Sight → Tree → Option Context
site_of s cell = option_and_then (λ x. only_site (sites_of s.scene.game x)) (variable_of cell)

-- what stands there, with the cell's index terms for the indices
abbrev pub at_cell : Tree → Context → Tree → Tree
at_cell cell Γ t = with_given (map (λ (r : ℕ × ℕ). r.0) Γ.replications) (first cell) t

abbrev pub at_site : (Context → List Tree) → Tree → Option Context → List Tree
at_site part cell None = []
at_site part cell (Some Γ) = map (at_cell cell Γ) (part Γ)

abbrev pub site_facts : Sight → Tree → List Tree
site_facts s cell = at_site (λ (Γ : Context). Γ.facts) cell (site_of s cell)

abbrev pub site_cells : Sight → Tree → List Tree
site_cells s cell = at_site (λ (Γ : Context). Γ.cells) cell (site_of s cell)
