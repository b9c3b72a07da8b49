-- The rows of declarations make equivalences with right sides of the grammar.
use Rattle.std.proofs.Common.{◌≡◌, ℕ, true, List, [], ◌∷◌, map, None, refl}
use Rattle.std.specs.List.{AllByRecursion}
use Rattle.cv_syntax_trees.proofs.lists.Each.{AllByRecursion_flat_map}
use Rattle.cv_syntax_trees.specs.declared.class.Class.{Class}
use Rattle.cv_syntax_trees.specs.declared.head.Head.TheVariants.{Equivalence}
use Rattle.cv_syntax_trees.specs.Declarations.{Declaration, Equiv}
use Rattle.cv_syntax_trees.specs.Tree.{Tree, Empty, Node}
use Rattle.cv_parse_grammar.specs.Declarations.{collision_decl, constant, declaration, equiv_decl, named}
use Rattle.cv_parse_grammar.specs.Equivalences.{function_of, lone_group}
use Rattle.cv_parse_grammar.specs.Rules.{file}
use Rattle.cv_parse_grammar.proofs.yields.Yielding.{anything, before, behind, follow, one_of, several, turned}
use Rattle.cv_parse_laws.proofs.roles.Forms.{enclosed}
use Rattle.cv_scope_rules.specs.Phrases.{Term, is_phrase}
use Rattle.cv_group_rules.specs.Rules.{branches_have_one_index, have_one_index}
use Rattle.cv_context_files.specs.right_forms.Forms.{HasRightForm}
use Rattle.cv_context_files.proofs.right_forms.Bodies.{IsRightGroup, Makes, of_group, of_term, written}
use Rattle.cv_context_files.proofs.right_forms.Terms.{term_body}

abbrev pub HasForm : Tree → Type 0
HasForm t = branches_have_one_index t ≡ true → HasRightForm t

abbrev pub IfEquivalence : Declaration → Type 0
IfEquivalence (Equiv x t) = HasForm t
IfEquivalence d = Unit {0}

abbrev pub HaveRightForms : List Declaration → Type 0
HaveRightForms ds = AllByRecursion IfEquivalence ds

all_named : (c : Class) (l : List ℕ) → HaveRightForms (map (named c) l)
all_named c [] = tt
all_named c (x ∷ l) = (tt, all_named c l)

all_constants : (T : ℕ) (l : List ℕ) → HaveRightForms (map (constant T) l)
all_constants T [] = tt
all_constants T (x ∷ l) = (tt, all_constants T l)

-- a group is a right side
side_of : (p : ℕ) (l r : Tree) → IsRightGroup r → HasForm (Node (Equivalence p) l r)
side_of p l r w o = let k = w o in record { side = k.0; functions = k.1 }

-- a collision has one function, with this body
lone_is : (x : ℕ) (key : ℕ × ℕ) (args t : Tree) → is_phrase Term t ≡ true → IsRightGroup (lone_group x key args t)
unfolding have_one_index
lone_is x key args t e o = written (function_of x None Empty args t ∷ []) ((refl, λ i. term_body t e), tt) o

of_collision : Makes collision_decl HaveRightForms
of_collision =
    turned (follow anything (enclosed (behind (follow anything (behind (follow anything (follow anything (follow anything (before of_term)))))))))
    (λ x w. (side_of x.1.1.1.1.0 (lone_group x.0 x.1.0 x.1.1.0 x.1.1.1.0) (lone_group x.0 x.1.0 x.1.1.0 x.1.1.1.1.1) (lone_is x.0 x.1.0 x.1.1.0 x.1.1.1.1.1 w.1.1.1.1.1), tt))

of_equiv : Makes equiv_decl HaveRightForms
of_equiv = turned (behind (before (follow anything (enclosed (follow anything (follow anything of_group)))))) (λ x w. (side_of x.1.1.0 x.1.0 x.1.1.1 w.1.1.1, tt))

of_declaration : Makes declaration HaveRightForms
of_declaration =
    one_of (turned anything (λ l w. all_named _ l))
    (one_of (turned anything (λ l w. all_named _ l))
    (one_of (turned anything (λ x w. (tt, tt)))
    (one_of (turned anything (λ x w. (tt, tt)))
    (one_of (turned anything (λ x w. all_constants x.1 x.0))
    (one_of (turned anything (λ x w. (tt, tt)))
    (one_of (turned anything (λ x w. (tt, tt)))
    (one_of (turned anything (λ x w. (tt, tt)))
    (one_of of_collision
    (one_of of_equiv (turned anything (λ x w. (tt, tt))))))))))))

pub of_file : Makes file (λ f. HaveRightForms f.decls)
of_file = turned (follow (several of_declaration) anything) (λ x w. AllByRecursion_flat_map HaveRightForms IfEquivalence (λ ds. ds) (λ ds k. k) x.0 w.0)
