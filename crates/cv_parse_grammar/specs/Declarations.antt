-- The rows of declarations.
use Rattle.std.specs.Prelude.{ℕ, map, Bool, true, false, List, [], ◌∷◌, Option, Some, None}
use Rattle.std.specs.List.{list_any}
use Rattle.cv_syntax_trees.specs.Tree.{Tree, Empty, Node, lone, chain, names}
use Rattle.cv_syntax_trees.specs.Declarations.{Declaration, Named, Equation, Equiv, Query}
use Rattle.cv_syntax_trees.specs.declared.class.Class.{Class}
use Rattle.cv_syntax_trees.specs.declared.class.Class.TheVariants as class
use Rattle.cv_syntax_trees.specs.declared.head.Head.TheVariants.{Cons, Forall, Query as Correspondence, Occurs, OccursOnce, SomeOf, Secret, SecretOnce, Equivalence}
use Rattle.cv_parse_notation.specs.declared.sign.Mark.TheVariants as mark
use Rattle.cv_parse_notation.specs.Form.{sign, word, unnamed, may, either, made, level, deeper, ◌&◌, ◌▸◌, ◌◂◌}
use Rattle.cv_parse_grammar.specs.declared.role.TypeOption.{TypeOption}
use Rattle.cv_parse_grammar.specs.declared.role.TypeOption.TheVariants.{Fixed, Large, Bounded}
use Rattle.cv_parse_grammar.specs.declared.role.Asked.TheVariants.{AParam, AChannel, AFunction, AnEvent, AProbability, AnEquivalence, AType}
use Rattle.cv_parse_grammar.specs.declared.role.Region.TheVariants.{InEquation, InQuery, InEquivalence}
use Rattle.cv_parse_grammar.specs.declared.role.Role.{Role}
use Rattle.cv_parse_grammar.specs.declared.role.Role.TheVariants.{Declares, Asks, BindsLocal, Unchecked}
use Rattle.cv_parse_grammar.specs.Phrases.{Phrase, LeftFunction, RightFunction, RightSide, or_else, row, bracket, square, listed, type_name, typed, vars, inside}
use Rattle.cv_parse_grammar.specs.Terms.{arguments, equality, term}
use Rattle.cv_parse_grammar.specs.Equivalences.{group, lone_group}

abbrev pub ids : Role → Phrase (List ℕ)
ids r = row mark.Comma (word r)

-- a declaration of a name without arguments or a result
abbrev pub named : Class → ℕ → Declaration
named c x = Named x c Empty None

-- parameters, channels, probabilities, types

abbrev pub param_decl : Phrase (List Declaration)
param_decl = made (map (named class.Param)) (mark.Param ▸ ids (Declares AParam) ◂ mark.Dot)

abbrev pub channel_decl : Phrase (List Declaration)
channel_decl = made (map (named class.Channel)) (mark.Channel ▸ ids (Declares AChannel) ◂ mark.Dot)

abbrev pub proba_decl : Phrase (List Declaration)
proba_decl = made (λ x. named class.Proba x ∷ []) (mark.Proba ▸ word (Declares AProbability) ◂ mark.Dot)

abbrev pub type_option : Phrase TypeOption
type_option = either (made (λ _. Fixed) (sign mark.Fixed)) (either (made (λ _. Large) (sign mark.Large)) (made (λ _. Bounded) (sign mark.Bounded)))

abbrev pub type_options : Phrase (List TypeOption)
type_options = made (or_else []) (may false (square (row mark.Comma type_option)))

abbrev pub is_fixed : TypeOption → Bool
is_fixed Fixed = true
is_fixed Large = false
is_fixed Bounded = false

abbrev pub is_large : TypeOption → Bool
is_large Fixed = false
is_large Large = true
is_large Bounded = false

-- `bounded` has no effect
abbrev pub class_of : List TypeOption → Class
class_of l = class.TypeName (list_any is_fixed l) (list_any is_large l)

abbrev pub type_decl : Phrase (List Declaration)
type_decl = made (λ (x, l). named (class_of l) x ∷ []) (mark.TypeWord ▸ (word (Declares AType) & type_options) ◂ mark.Dot)

-- constants, functions, events

abbrev pub type_list : Phrase Tree
type_list = bracket (made names (row mark.Comma type_name))

abbrev pub constant : ℕ → ℕ → Declaration
constant T x = Named x (class.Fun false) Empty (Some T)

abbrev pub const_decl : Phrase (List Declaration)
const_decl = made (λ (l, T). map (constant T) l) (mark.ConstWord ▸ (ids (Declares AFunction) & (mark.Colon ▸ type_name)) ◂ mark.Dot)

abbrev pub is_there : Option (Unit {0}) → Bool
is_there None = false
is_there (Some u) = true

-- `compos` is `data`
abbrev pub data_option : Phrase Bool
data_option = made is_there (may false (square (either (sign mark.Data) (sign mark.Compos))))

abbrev pub fun_decl : Phrase (List Declaration)
fun_decl = made (λ (f, (l, (T, d))). Named f (class.Fun d) l (Some T) ∷ []) (mark.Fun ▸ (word (Declares AFunction) & (type_list & (mark.Colon ▸ (type_name & data_option)))) ◂ mark.Dot)

abbrev pub event_decl : Phrase (List Declaration)
event_decl = made (λ (e, l). Named e class.Event l None ∷ []) (mark.EventWord ▸ (word (Declares AnEvent) & listed type_list) ◂ mark.Dot)

-- equations and equivalences

-- forall x : T, .. ;
abbrev pub forall_vars : Phrase Tree
forall_vars = listed (mark.Forall ▸ (vars BindsLocal ◂ mark.Semicolon))

abbrev pub equation_decl : Phrase (List Declaration)
equation_decl = made (λ (l, t). Equation (Node Forall l t) ∷ []) (mark.EquationWord ▸ inside InEquation (forall_vars & term) ◂ mark.Dot)

-- <= ( P ) =>
abbrev pub probability : Phrase ℕ
probability = mark.AtMost ▸ (bracket (word (Asks AProbability)) ◂ mark.Gives)

-- a collision is an equivalence with one function, whose bodies are the two terms
abbrev pub collision : ℕ → ℕ × ℕ → Tree → Tree → ℕ → Tree → Declaration
collision x key args l p r = Equiv x (Node (Equivalence p) (lone_group x key args l) (lone_group x key args r))

abbrev pub collision_name : Phrase ℕ
collision_name = either (mark.Collision ▸ word (Declares AnEquivalence)) (unnamed (Declares AnEquivalence))

abbrev pub collision_decl : Phrase (List Declaration)
collision_decl =
    made (λ (x, (key, (args, (l, (p, r))))). collision x key args l p r ∷ []) (
    collision_name & inside InEquivalence (mark.New ▸ (typed BindsLocal & (mark.Semicolon ▸ (forall_vars & (term & (probability & (term ◂ mark.Dot)))))))
    )

abbrev pub equiv_decl : Phrase (List Declaration)
equiv_decl =
    made (λ (x, (l, (p, r))). Equiv x (Node (Equivalence p) l r) ∷ []) (
    mark.Equiv ▸ (word (Declares AnEquivalence) & inside InEquivalence (group LeftFunction & (probability & group RightFunction))) ◂ mark.Dot
    )

-- queries

abbrev pub happens : Phrase (ℕ × Tree)
happens = mark.EventWord ▸ (word (Asks AnEvent) & listed arguments)

abbrev pub event : Phrase Tree
event = either (made (λ (e, l). Node (OccursOnce e) l Empty) (mark.Inj ▸ happens)) (made (λ (e, l). Node (Occurs e) l Empty) happens)

-- The right side of a correspondence has alternatives, and each of them items: events, equalities, and right sides in parentheses.

abbrev pub right_item : Phrase Tree
right_item = either (deeper RightSide) (either event equality)

abbrev pub alternative : Phrase Tree
alternative = made chain (row mark.Both right_item)

-- one of these, nested to the right
abbrev pub some_of : List Tree → Tree
some_of [] = Empty
some_of (t ∷ []) = t
some_of (t ∷ (u ∷ ts)) = Node SomeOf t (some_of (u ∷ ts))

abbrev pub right_side : Phrase Tree
right_side = made some_of (row mark.Either alternative)

abbrev pub bracketed_right_side : Phrase Tree
bracketed_right_side = level (mark.OpenAtoms ▸ right_side ◂ mark.Close)

abbrev pub correspondence : Phrase Tree
correspondence =
    made (λ (l, (e, right)). Node Correspondence l (Node Cons e right)) (
    listed (vars BindsLocal ◂ mark.Semicolon) & (event & (mark.Implies ▸ right_side))
    )

abbrev pub secrecy : Phrase Tree
secrecy = either (made (λ x. lone (Secret x)) (mark.Secret ▸ word Unchecked)) (made (λ x. lone (SecretOnce x)) (mark.SecretOnce ▸ word Unchecked))

abbrev pub query_decl : Phrase (List Declaration)
query_decl = made (λ t. Query t ∷ []) (mark.QueryWord ▸ inside InQuery (either secrecy correspondence) ◂ mark.Dot)

abbrev pub declaration : Phrase (List Declaration)
declaration =
    either param_decl
    (either channel_decl
    (either proba_decl
    (either type_decl
    (either const_decl
    (either fun_decl
    (either event_decl
    (either equation_decl
    (either collision_decl
    (either equiv_decl query_decl)))))))))
