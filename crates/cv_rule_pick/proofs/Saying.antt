-- What lines say and are to say, one by one.
use Rattle.std.proofs.Common.{◌≡◌, ℕ, ◌+◌, List, [], ◌∷◌, ◌++◌, map, Option, Some, refl, sym, ap, ap₂, ◌∙◌}
use Rattle.std.proofs.lemmas.List.{append_assoc, map-append}
use Rattle.cv_pool.specs.declared.node.NodeId.{NodeId}
use Rattle.cv_pool.specs.KindTree.{KindTree}
use Rattle.cv_syntax_trees.specs.declared.head.Head.{Head}
use Rattle.cv_syntax_trees.specs.declared.head.Head.TheVariants.{Binder, Eq}
use Rattle.cv_syntax_trees.specs.Tree.{Tree, Empty, Node}
use Rattle.cv_syntax.specs.declared.open.Opened.{Opened}
use Rattle.cv_syntax.specs.PoolTrees.{tree_at}
use Rattle.cv_scope_rules.specs.Context.{cell_of, cells_of, items}
use Rattle.cv_derive_lines.specs.declared.lines.Line.{Line}
use Rattle.cv_derive_lines.specs.declared.lines.Claim.{Claim}
use Rattle.cv_derive_lines.specs.Views.{front, in_front, statement_of}
use Rattle.cv_derive_lines.proofs.Fronts.{line_at, no_lines}
use Rattle.cv_scene.specs.lines.Lines.{Holds, IsDefined, Lines, Statement, lines_of, statements}
use Rattle.cv_rule_pick.specs.Picking.{equations, guards}

-- with one more
pub said_more : {A B : Type 0} (f : A → B) (xs ys : List A) (w : A) (rest all : List B) → ys ≡ xs ++ w ∷ [] → map f xs ++ (f w ∷ rest) ≡ all → map f ys ++ rest ≡ all
said_more f xs ys w rest all e k = ap (λ l. map f l ++ rest) e ∙ (ap (λ l. l ++ rest) (map-append f xs (w ∷ [])) ∙ (append_assoc (map f xs) (f w ∷ []) rest ∙ k))

-- lines of a derivation

pub claim_at : (trees : List KindTree) (at : Option NodeId) (k : NodeId) (o : Opened) (L : Line) (T : Claim) → at ≡ Some k → tree_at trees (Some k) ≡ Node o.head (tree_at trees o.first) (tree_at trees o.second) → ((rest : Lines) → in_front trees L rest ≡ front (tree_at trees o.first) rest)
    → ((trees : List KindTree) (rest : Lines) → statements (in_front trees L rest) ≡ statement_of trees T ∷ statements rest) → statement_of trees T ∷ statements (lines_of (tree_at trees o.second)) ≡ statements (lines_of (tree_at trees at))
claim_at trees at k o L T e f g h = sym (ap statements (line_at trees at k o L e f g) ∙ h trees (lines_of (tree_at trees o.second)))

pub none_said : (t : Tree) → t ≡ Empty → statements (lines_of t) ≡ []
unfolding statements
none_said t e = ap statements (no_lines t e)

-- equations

module _ (rs : List (ℕ × ℕ)) where
  abbrev said : Tree → Tree → List Statement
  said us ms = statements (lines_of (equations (cells_of rs us) ms))

  equation_more : (x T : ℕ) (a b m more : Tree) (k : Head) → said (Node (Binder x T) a b) (Node k m more) ≡ Holds (Node Eq (cell_of rs x) m) ∷ said b more
  unfolding lines_of statements
  equation_more x T a b m more k = refl

  pub equation_here : (us ms a b m more : Tree) (h k : Head) (x T : ℕ) → us ≡ Node h a b → h ≡ Binder x T → ms ≡ Node k m more → Holds (Node Eq (cell_of rs x) m) ∷ said b more ≡ said us ms
  equation_here us ms a b m more h k x T e f g = sym (ap₂ said (e ∙ ap (λ q. Node q a b) f) g ∙ equation_more x T a b m more k)

  no_equations : (cs : List Tree) → statements (lines_of (equations cs Empty)) ≡ []
  unfolding lines_of statements
  no_equations [] = refl
  no_equations (c ∷ cs) = refl

  pub no_terms : (us ms : Tree) → ms ≡ Empty → said us ms ≡ []
  no_terms us ms e = ap (said us) e ∙ no_equations (cells_of rs us)

  pub no_binders : (us ms : Tree) → us ≡ Empty → said us ms ≡ []
  unfolding lines_of statements
  no_binders us ms e = ap (λ t. said t ms) e

  pub other_binders : (us ms a b : Tree) (h : Head) → us ≡ Node h a b → ((x T : ℕ) → h ≡ Binder x T → ⊥) → said us ms ≡ []
  unfolding lines_of statements
  other_binders us ms a b h e n = ap (λ t. said t ms) e ∙ go h n
    where
      go : (h : Head) → ((x T : ℕ) → h ≡ Binder x T → ⊥) → said (Node h a b) ms ≡ []
      go (Binder x T) n = absurd (n x T refl)
      go h n = refl

-- guards

module _ (P : Tree → Tree) (d : Tree) where
  abbrev asked : Tree → List Statement
  asked t = statements (lines_of (guards (map P (items t)) d))

  guard_more : (h : Head) (c more : Tree) → asked (Node h c more) ≡ IsDefined (P c) ∷ asked more
  unfolding lines_of statements
  guard_more h c more = refl

  pub guard_here : (t c more : Tree) (h : Head) → t ≡ Node h c more → IsDefined (P c) ∷ asked more ≡ asked t
  guard_here t c more h e = sym (ap asked e ∙ guard_more h c more)

  pub guard_end : (t : Tree) → t ≡ Empty → Holds d ∷ [] ≡ asked t
  unfolding lines_of statements
  guard_end t e = sym (ap asked e)
