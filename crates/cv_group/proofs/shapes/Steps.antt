-- The rules, from node to node.
use Rattle.std.proofs.Common.{◌≡◌, Bool, true, false, ◌&&◌, [], ◌∷◌, refl, ap, sym, ◌∙◌}
use Rattle.cv_syntax_trees.specs.declared.head.Head.{Head}
use Rattle.cv_syntax_trees.specs.Tree.{Tree, Empty, Node, first}
use Rattle.cv_meaning.specs.contexts.Groups.{bound_of}
use Rattle.cv_group_rules.specs.Rules.{all_agree, bounds, each_function, functions_agree, has_one_index, have_one_index}
use Rattle.cv_syntax_trees.specs.Children.{is_empty}

-- a conjunction whose first part is decided
pub and_false : (x : Bool) (b r total : Bool) → x ≡ (b && r) → x ≡ total → b ≡ false → false ≡ total
and_false x b r total e h f = sym (ap (λ c. c && r) f) ∙ (sym e ∙ h)

pub and_true : (x : Bool) (b r total : Bool) → x ≡ (b && r) → x ≡ total → b ≡ true → r ≡ total
and_true x b r total e h f = sym (ap (λ c. c && r) f) ∙ (sym e ∙ h)

-- of three parts
pub and_second : (x : Bool) (b r s total : Bool) → x ≡ (b && (r && s)) → x ≡ total → b ≡ true → r ≡ false → false ≡ total
and_second x b r s total e h f g = sym (ap (λ c. c && s) g) ∙ and_true x b (r && s) total e h f

pub and_third : (x : Bool) (b r s total : Bool) → x ≡ (b && (r && s)) → x ≡ total → b ≡ true → r ≡ true → s ≡ total
and_third x b r s total e h f g = sym (ap (λ c. c && s) g) ∙ and_true x b (r && s) total e h f

-- lists of functions

pub each_step : (p : Tree → Bool) (t : Tree) (h : Head) (a b : Tree) → t ≡ Node h a b → each_function p t ≡ (p a && each_function p b)
unfolding each_function
each_step p t h a b e = ap (each_function p) e

pub each_end : (p : Tree → Bool) (t : Tree) → t ≡ Empty → each_function p t ≡ true
unfolding each_function
each_end p t e = ap (each_function p) e

pub agree_step : (s t : Tree) (h : Head) (a b : Tree) (k : Head) (c d : Tree) → s ≡ Node h a b → t ≡ Node k c d → all_agree s t ≡ (functions_agree a c && all_agree b d)
unfolding all_agree
agree_step s t h a b k c d e f = ap (λ x. all_agree x t) e ∙ ap (λ y. all_agree (Node h a b) y) f

pub agree_end : (s t : Tree) → s ≡ Empty → all_agree s t ≡ is_empty t
unfolding all_agree
agree_end s t e = ap (λ x. all_agree x t) e ∙ go t
  where
    go : (t : Tree) → all_agree Empty t ≡ is_empty t
    go Empty = refl
    go (Node h a b) = refl

pub agree_short : (s t : Tree) (h : Head) (a b : Tree) → s ≡ Node h a b → t ≡ Empty → all_agree s t ≡ false
unfolding all_agree
agree_short s t h a b e f = ap (λ x. all_agree x t) e ∙ ap (λ y. all_agree (Node h a b) y) f

pub bounds_step : (t : Tree) (h : Head) (a b : Tree) → t ≡ Node h a b → bounds t ≡ bound_of (first a) ∷ bounds b
bounds_step t h a b e = ap bounds e

pub bounds_end : (t : Tree) → t ≡ Empty → bounds t ≡ []
bounds_end t e = ap bounds e

-- trees

pub index_step : (t : Tree) (h : Head) (a b : Tree) → t ≡ Node h a b → have_one_index t ≡ (has_one_index h a && (have_one_index a && have_one_index b))
unfolding have_one_index
index_step t h a b e = ap have_one_index e

pub index_end : (t : Tree) → t ≡ Empty → have_one_index t ≡ true
unfolding have_one_index
index_end t e = ap have_one_index e
