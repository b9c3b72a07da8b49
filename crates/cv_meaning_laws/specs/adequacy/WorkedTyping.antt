-- Contexts in which the types of worked games are checked, and sides that answer a call.
use Rattle.std.specs.Prelude.{ℕ, false, ◌==◌, ◌||◌, if◌then◌else◌, [], ◌∷◌, Option, Some, None}
use Rattle.cv_syntax_trees.specs.declared.class.Class.TheVariants as class
use Rattle.cv_syntax_trees.specs.Declarations.{Named}
use Rattle.cv_syntax_trees.specs.declared.head.Head.TheVariants.{Key, Call, Yield}
use Rattle.cv_syntax_trees.specs.Builders.{input, leaf}
use Rattle.cv_syntax_trees.specs.Tree.{Tree, Empty, Node, chain, lone}
use Rattle.cv_meaning.specs.Tapes.{Tape, Key_at}
use Rattle.cv_meaning.specs.Side.{Arrays, OracleCall, OracleAnswer, Side}
use Rattle.cv_meaning.specs.Terms.{or_zero}
use Rattle.cv_meaning_laws.specs.Worked.{first_value}
use Rattle.cv_meaning_laws.specs.adequacy.Typed.{Oracle, OfType, BelowParameter, Variable, Context}

-- the nonces of the senders, and the index variables of the find
abbrev pub nonces : Variable
nonces = record { indices = 2 ∷ []; sort = OfType 5 }

abbrev pub found_indices : Variable
found_indices = record { indices = 2 ∷ []; sort = BelowParameter 2 }

abbrev pub worked_variables : ℕ → Option Variable
worked_variables x =
    if x == 4 then Some nonces else
    if x == 9 then Some found_indices else
    if x == 10 then Some found_indices else None

-- param 2. type 5. and no calls
abbrev pub worked_context : Context
worked_context =
    record {
      declarations = Named 2 class.Param Empty None ∷ Named 5 (class.TypeName false false) Empty None ∷ [];
      variables = worked_variables;
      oracles = λ site. None;
    }

-- in(3, (9:5)); key 4; 13 = call at site 0 of (4, 9); yield
abbrev pub answered_game : Tree
answered_game = input 3 [] ((9, 5) ∷ []) (Node (Key 4) Empty (Node (Call 13 0) (chain (leaf 4 ∷ leaf 9 ∷ [])) (lone Yield)))

-- one value
abbrev pub one_value : Variable
one_value = record { indices = []; sort = OfType 5 }

abbrev pub answering_variables : ℕ → Option Variable
answering_variables x = if (x == 4) || ((x == 9) || (x == 13)) then Some one_value else None

-- a call with an argument of the type 5, a variable 14 of a side, and such a result
abbrev pub oracle : Oracle
oracle = record { arguments = OfType 5 ∷ []; assigned = λ x. if x == 14 then Some (OfType 5) else None; result = OfType 5 }

-- type 5. and such calls
abbrev pub answering_context : Context
answering_context =
    record {
      declarations = Named 5 (class.TypeName false false) Empty None ∷ [];
      variables = answering_variables;
      oracles = λ site. Some oracle;
    }

-- sides without cells, by their answers
abbrev pub answers_by : (Tape → Arrays → OracleCall → OracleAnswer) → Side
answers_by reply = record { reply = reply; cells = λ number. []; key_size = 2 }

-- a side that answers its argument, one that answers its key, and one that answers a number that no type of size 2 has

abbrev pub echo : Side
echo = answers_by (λ t arrays call. record { value = first_value call.arguments; arrays = arrays })

abbrev pub key_teller : Side
key_teller = answers_by (λ t arrays call. record { value = t (Key_at call.key); arrays = arrays })

abbrev pub counter : Side
counter = answers_by (λ t arrays call. record { value = 2; arrays = arrays })

-- a side that assigns its argument to 14, at each key and call, and answers what it assigned before

abbrev pub with_argument : Arrays → OracleCall → Arrays
with_argument arrays call x key number = if x == 14 then Some (first_value call.arguments) else arrays x key number

abbrev pub predecessor : Side
predecessor = answers_by (λ t arrays call. record { value = or_zero (arrays 14 call.key call.number); arrays = with_argument arrays call })
