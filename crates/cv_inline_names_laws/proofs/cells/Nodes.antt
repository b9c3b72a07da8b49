-- Facts of each node of a tree and its first child, by the bounds above it.
use Rattle.std.proofs.Common.{◌≡◌, ℕ, true, false, List, flat_map, refl, sym, subst}
use Rattle.std.proofs.lemmas.Bool.{both_ways, and_parts}
use Rattle.std.specs.List.{AllByRecursion}
use Rattle.cv_syntax_trees.specs.declared.head.Head.{Head}
use Rattle.cv_syntax_trees.specs.declared.head.Head.TheVariants.{Repl}
use Rattle.cv_syntax_trees.specs.Tree.{Tree, Empty, Node}
use Rattle.cv_meaning.specs.Tapes.{Cell}
use Rattle.cv_meaning.specs.Interpretation.{Setting}
use Rattle.cv_meaning.specs.Cells.{at_each_copy, bounds_under, tuples_below}
use Rattle.cv_meaning_laws.proofs.Listed.{Has, has_left, has_right}
use Rattle.cv_inline_names_laws.specs.cells.Layout.{is_term, is_term_head}
use Rattle.cv_syntax_trees.proofs.lists.Each.{AllByRecursion_append}

abbrev pub NodeFact : Type 1
NodeFact = List ℕ → Head → Tree → Type 0

unfoldable pub EachNode : Setting → NodeFact → List ℕ → Tree → Type 0
EachNode g P bounds Empty = Unit {0}
EachNode g P bounds (Node h a b) = P bounds h a × EachNode g P (bounds_under g bounds h) a × EachNode g P (bounds_under g bounds h) b

pub term_bounds : (g : Setting) (bounds : List ℕ) (h : Head) → is_term_head h ≡ true → bounds_under g bounds h ≡ bounds
term_bounds g bounds (Repl i n) e = absurd (both_ways false refl e)
term_bounds g bounds h e = refl

pub node_with : (g : Setting) (P : NodeFact) (bounds : List ℕ) (h : Head) (a b : Tree) → bounds_under g bounds h ≡ bounds → P bounds h a → EachNode g P bounds a → EachNode g P bounds b → EachNode g P bounds (Node h a b)
unfolding EachNode
node_with g P bounds h a b e p x y = (p, subst (λ bs. EachNode g P bs a) (sym e) x, subst (λ bs. EachNode g P bs b) (sym e) y)

pub term_each : (g : Setting) (P : NodeFact) → ((bounds : List ℕ) (h : Head) (a : Tree) → is_term_head h ≡ true → P bounds h a) → (bounds : List ℕ) (t : Tree) → is_term t ≡ true → EachNode g P bounds t
unfolding EachNode is_term
term_each g P k bounds Empty e = tt
term_each g P k bounds (Node h a b) e =
    let p = and_parts (is_term_head h) _ e in
    let q = and_parts (is_term a) _ p.1 in node_with g P bounds h a b (term_bounds g bounds h p.0) (k bounds h a p.0) (term_each g P k bounds a q.0) (term_each g P k bounds b q.1)

-- of what each node gives at the tuples of its bounds
pub each_copy : (g : Setting) (give : Head → List ℕ → List (Cell × ℕ)) (Q : Cell × ℕ → Type 0) (bounds : List ℕ) (t : Tree) → EachNode g (λ bs h a. AllByRecursion Q (flat_map (give h) (tuples_below bs))) bounds t → AllByRecursion Q (at_each_copy g give bounds t)
unfolding EachNode at_each_copy
each_copy g give Q bounds Empty e = tt
each_copy g give Q bounds (Node h a b) e =
    AllByRecursion_append Q (flat_map (give h) (tuples_below bounds)) _ e.0 (AllByRecursion_append Q (at_each_copy g give (bounds_under g bounds h) a) _ (each_copy g give Q (bounds_under g bounds h) a e.1) (each_copy g give Q (bounds_under g bounds h) b e.2))

pub has_copy : (g : Setting) (give : Head → List ℕ → List (Cell × ℕ)) (cs : List (Cell × ℕ)) (bounds : List ℕ) (t : Tree) → ((d : Cell × ℕ) → Has (at_each_copy g give bounds t) d → Has cs d)
    → EachNode g (λ bs h a. (d : Cell × ℕ) → Has (flat_map (give h) (tuples_below bs)) d → Has cs d) bounds t
unfolding EachNode at_each_copy
has_copy g give cs bounds Empty f = tt
has_copy g give cs bounds (Node h a b) f = (
  λ d k. f d (has_left (flat_map (give h) (tuples_below bounds)) _ d k),
  has_copy g give cs (bounds_under g bounds h) a (λ d k. f d (has_right (flat_map (give h) (tuples_below bounds)) _ d (has_left (at_each_copy g give (bounds_under g bounds h) a) _ d k))),
  has_copy g give cs (bounds_under g bounds h) b (λ d k. f d (has_right (flat_map (give h) (tuples_below bounds)) _ d (has_right (at_each_copy g give (bounds_under g bounds h) a) _ d k))),
)

pub each_weaker : (g : Setting) (P Q : NodeFact) → ((bounds : List ℕ) (h : Head) (a : Tree) → P bounds h a → Q bounds h a) → (bounds : List ℕ) (t : Tree) → EachNode g P bounds t → EachNode g Q bounds t
unfolding EachNode
each_weaker g P Q k bounds Empty e = tt
each_weaker g P Q k bounds (Node h a b) e = (k bounds h a e.0, each_weaker g P Q k (bounds_under g bounds h) a e.1, each_weaker g P Q k (bounds_under g bounds h) b e.2)
