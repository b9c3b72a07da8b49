-- The rows of left sides make one key and bodies that are terms as soon as they begin as terms.
use Rattle.std.proofs.Common.{◌≡◌, ℕ, Bool, true, false, not, List, [], ◌∷◌, map, refl}
use Rattle.std.proofs.lemmas.Bool.{and_from, or_right}
use Rattle.std.specs.List.{AllByRecursion}
use Rattle.cv_syntax_trees.proofs.lists.Each.{AllByRecursion_flat_map}
use Rattle.cv_syntax_trees.specs.declared.class.Class.{Class}
use Rattle.cv_syntax_trees.specs.declared.class.Class.TheVariants as class
use Rattle.cv_syntax_trees.specs.Declarations.{Declaration, Equiv}
use Rattle.cv_syntax_trees.specs.declared.head.Head.TheVariants.{Equivalence}
use Rattle.cv_syntax_trees.specs.Tree.{Tree, Node, chain, first, second}
use Rattle.cv_parse_notation.specs.Form.{Form}
use Rattle.cv_parse_grammar.specs.declared.role.Role.{Role}
use Rattle.cv_parse_grammar.specs.declared.role.Role.TheVariants.{BindsLocal}
use Rattle.cv_parse_grammar.specs.Declarations.{channel_decl, collision_decl, const_decl, constant, declaration, equation_decl, equiv_decl, event_decl, fun_decl, named, param_decl, proba_decl, query_decl, type_decl}
use Rattle.cv_parse_grammar.specs.Equivalences.{body, body_find, body_test, functions, group, left_function, lone_group}
use Rattle.cv_parse_grammar.specs.Phrases.{Sort, bracket, inside, row}
use Rattle.cv_parse_grammar.specs.Phrases as sort
use Rattle.cv_parse_grammar.specs.Processes.{let_in, new_in}
use Rattle.cv_parse_grammar.specs.Rules.{file, rule}
use Rattle.cv_parse_grammar.specs.Terms.{term}
use Rattle.cv_parse_laws.specs.Shapes.{IsFree, IsOfSort}
use Rattle.cv_parse_grammar.specs.yields.Yields.{Yields}
use Rattle.cv_parse_laws.proofs.Rows.{rows}
use Rattle.cv_parse_grammar.proofs.yields.Yielding.{Gives, anything, before, behind, below, follow, leveled, one_of, several, turned}
use Rattle.cv_parse_laws.proofs.roles.Forms.{enclosed}
use Rattle.cv_scope_rules.specs.Phrases.{Term, is_phrase}
use Rattle.cv_group_rules.specs.Rules.{each_function, is_one_binder, is_term}
use Rattle.cv_match_laws.specs.functions.Forms.{HasLeftForm, is_whole}

-- no name is barred
abbrev pub nothing : ℕ → Bool
nothing x = false

abbrev pub IsNamed : Role → ℕ → Type 0
IsNamed = IsFree nothing

abbrev HasWholeBody : Tree → Type 0
HasWholeBody f = is_whole (second f) ≡ true

abbrev HaveWholeBodies : Tree → Type 0
HaveWholeBodies fs = each_function (λ f. is_whole (second f)) fs ≡ true

abbrev pub OfSort : Sort → Tree → Type 0
OfSort sort.LeftFunction t = HasWholeBody t
OfSort s t = IsOfSort nothing s t

abbrev Makes : {A : Type 0} → Form Role Sort A → (A → Type 0) → Type 0
Makes f Q = Gives IsNamed OfSort f Q

-- bodies and functions

of_term : Makes term (λ t. is_phrase Term t ≡ true)
of_term = record { gives = λ t y. (rows nothing sort.Term t y).phrase }

of_new : Makes (new_in BindsLocal sort.Body) (λ t. is_whole t ≡ true)
of_new = leveled (turned anything (λ x w. refl))

of_let : Makes (let_in BindsLocal sort.Body) (λ t. is_whole t ≡ true)
of_let = leveled (turned anything (λ x w. refl))

of_test : Makes body_test (λ t. is_whole t ≡ true)
of_test = leveled (turned anything (λ x w. refl))

of_find : Makes body_find (λ t. is_whole t ≡ true)
of_find = leveled (turned anything (λ x w. refl))

whole_term : Makes term (λ t. is_whole t ≡ true)
whole_term = record { gives = λ t y. or_right (not (is_term t)) (is_phrase Term t) (of_term.gives t y) }

of_body : Makes body (λ t. is_whole t ≡ true)
of_body = one_of of_new (one_of of_let (one_of of_test (one_of of_find whole_term)))

of_left : Makes left_function HasWholeBody
of_left = turned (follow anything (behind (follow anything (follow anything (follow anything (behind of_body)))))) (λ x w. w.1.1.1.1)

pub all_rows : (s : Sort) (t : Tree) → Yields IsNamed OfSort (rule s) t → OfSort s t
all_rows sort.Term t y = rows nothing sort.Term t y
all_rows sort.Conjunction t y = rows nothing sort.Conjunction t y
all_rows sort.Primary t y = rows nothing sort.Primary t y
all_rows sort.Unequal t y = rows nothing sort.Unequal t y
all_rows sort.Arguments t y = rows nothing sort.Arguments t y
all_rows sort.Subscript t y = rows nothing sort.Subscript t y
all_rows sort.Parentheses t y = rows nothing sort.Parentheses t y
all_rows sort.Inputs t y = rows nothing sort.Inputs t y
all_rows sort.Input t y = rows nothing sort.Input t y
all_rows sort.Output t y = rows nothing sort.Output t y
all_rows sort.Pattern t y = rows nothing sort.Pattern t y
all_rows sort.Sending t y = rows nothing sort.Sending t y
all_rows sort.Payload t y = rows nothing sort.Payload t y
all_rows sort.Variables t y = rows nothing sort.Variables t y
all_rows sort.Indices t y = rows nothing sort.Indices t y
all_rows sort.ProcessBranch t y = rows nothing sort.ProcessBranch t y
all_rows sort.Cells t y = rows nothing sort.Cells t y
all_rows sort.OneCell t y = rows nothing sort.OneCell t y
all_rows sort.LeftFunction t y = of_left.gives t y
all_rows _ t y = tt

-- groups

chained : (l : List Tree) → AllByRecursion HasWholeBody l → HaveWholeBodies (chain l)
unfolding each_function
chained [] w = refl
chained (f ∷ l) w = and_from (is_whole (second f)) (each_function (λ f. is_whole (second f)) (chain l)) w.0 (chained l w.1)

of_functions : Makes (functions sort.LeftFunction) HaveWholeBodies
of_functions = leveled (behind (before (turned (turned {p = λ x. HasWholeBody x.0 × AllByRecursion HasWholeBody x.1} {q = AllByRecursion HasWholeBody} (follow below (several (behind below))) (λ x w. w)) chained)))

abbrev IsLeftGroup : Tree → Type 0
IsLeftGroup g = (is_one_binder (first g) ≡ true) × HaveWholeBodies (second g)

of_group : Makes (group sort.LeftFunction) IsLeftGroup
of_group = turned (behind (follow anything (behind (follow anything (behind (follow anything (behind of_functions))))))) (λ x w. (refl, w.1.1.1))

-- declarations

abbrev pub IfEquivalence : Declaration → Type 0
IfEquivalence (Equiv x t) = HasLeftForm t
IfEquivalence d = Unit {0}

abbrev pub HaveLeftForms : List Declaration → Type 0
HaveLeftForms ds = AllByRecursion IfEquivalence ds

all_named : (c : Class) (l : List ℕ) → HaveLeftForms (map (named c) l)
all_named c [] = tt
all_named c (x ∷ l) = (tt, all_named c l)

all_constants : (T : ℕ) (l : List ℕ) → HaveLeftForms (map (constant T) l)
all_constants T [] = tt
all_constants T (x ∷ l) = (tt, all_constants T l)

of_param : Makes param_decl HaveLeftForms
of_param = turned anything (λ l w. all_named class.Param l)

of_channel : Makes channel_decl HaveLeftForms
of_channel = turned anything (λ l w. all_named class.Channel l)

of_proba : Makes proba_decl HaveLeftForms
of_proba = turned anything (λ x w. (tt, tt))

of_type : Makes type_decl HaveLeftForms
of_type = turned anything (λ x w. (tt, tt))

of_const : Makes const_decl HaveLeftForms
of_const = turned anything (λ x w. all_constants x.1 x.0)

of_fun : Makes fun_decl HaveLeftForms
of_fun = turned anything (λ x w. (tt, tt))

of_event : Makes event_decl HaveLeftForms
of_event = turned anything (λ x w. (tt, tt))

of_equation : Makes equation_decl HaveLeftForms
of_equation = turned anything (λ x w. (tt, tt))

of_query : Makes query_decl HaveLeftForms
of_query = turned anything (λ x w. (tt, tt))

-- a collision has one function, with this body
collided : (x p : ℕ) (key : ℕ × ℕ) (args l r : Tree) → is_phrase Term l ≡ true → HasLeftForm (Node (Equivalence p) (lone_group x key args l) (lone_group x key args r))
unfolding each_function
collided x p key args l r e = record { key = refl; bodies = and_from (is_whole l) true (or_right (not (is_term l)) (is_phrase Term l) e) refl }

of_collision : Makes collision_decl HaveLeftForms
of_collision =
    turned (follow anything (enclosed (behind (follow anything (behind (follow anything (follow of_term anything)))))))
    (λ x w. (collided x.0 x.1.1.1.1.0 x.1.0 x.1.1.0 x.1.1.1.0 x.1.1.1.1.1 w.1.1.1.0, tt))

of_equiv : Makes equiv_decl HaveLeftForms
of_equiv = turned (behind (before (follow anything (enclosed (follow of_group anything))))) (λ x w. (record { key = w.1.0.0; bodies = w.1.0.1 }, tt))

of_declaration : Makes declaration HaveLeftForms
of_declaration =
    one_of of_param
    (one_of of_channel
    (one_of of_proba
    (one_of of_type
    (one_of of_const
    (one_of of_fun
    (one_of of_event
    (one_of of_equation
    (one_of of_collision
    (one_of of_equiv of_query)))))))))

pub of_file : Makes file (λ f. HaveLeftForms f.decls)
of_file = turned (follow (several of_declaration) anything) (λ x w. AllByRecursion_flat_map HaveLeftForms IfEquivalence (λ ds. ds) (λ ds k. k) x.0 w.0)
