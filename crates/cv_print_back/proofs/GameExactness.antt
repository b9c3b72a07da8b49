-- What is computed of a game's tokens, and what they say.
use Rattle.std.proofs.Common.{◌≡◌, ℕ, ◌+◌, ◌≤◌, true, false, Bool, nat_lt, if◌then◌else◌, List, ◌++◌, length, refl, ap, subst, sym, ◌∙◌, arith, Option, Some, None, Result, Ok, Err}
use Rattle.std.proofs.lemmas.Bool.Decides.{nat_tests}
use Rattle.cv_syntax.specs.declared.decls.Decl.{Decl}
use Rattle.cv_syntax.specs.declared.work.BuildError.TheVariants as build
use Rattle.cv_syntax_trees.specs.Tree.{Tree, depth, size}
use Rattle.cv_parse_notation.specs.declared.sign.Sign.{Sign}
use Rattle.cv_parse_notation.specs.Fits.{fits}
use Rattle.cv_parse_notation.specs.Reads.{Fault, Found, Read}
use Rattle.cv_parse_notation.specs.Reads as fault
use Rattle.cv_parse_notation.proofs.Whole.{whole_complete, whole_sound}
use Rattle.cv_parse_grammar.specs.declared.role.Role.{Role}
use Rattle.cv_parse_grammar.specs.Files.{levels}
use Rattle.cv_parse_grammar.specs.Names.{NameFault, Uses, name_fault}
use Rattle.cv_parse_grammar.specs.Names as names
use Rattle.cv_parse_grammar.specs.Rules.{heads, rule, tails}
use Rattle.cv_parse_grammar.proofs.Fitting.{all_fit}
use Rattle.cv_parse_grammar.proofs.Names.{fault_is_first, named_has_none, no_fault}
use Rattle.cv_parse_grammar.proofs.depth.Fitting.{all_firm, process_fine}
use Rattle.cv_parse_grammar.proofs.depth.Laws.{whole_dead, whole_nesting}
use Rattle.cv_parse.specs.declared.error.ParseError.{ParseError}
use Rattle.cv_parse.specs.declared.error.ParseError.TheVariants.{Syntax, Nesting, NameTwice, NameUnknown, Build}
use Rattle.cv_parse.specs.Parsed.{sized}
use Rattle.cv_syntax.specs.limits.Limits.{most_depth, most_nodes}
use Rattle.cv_parse.specs.Weights.{capped}
use Rattle.cv_parse.specs.Games.{declared_before, game_of, nodes_of, of_reading, process, read_process, sized_first, unless}
use Rattle.cv_print_back.specs.GameSays.{HasDepth, HasNodes, IsDeadGame, IsGameText, IsLargeGame, IsMisnamedGame, IsNamedGame, IsNestedGame, SaysGame, Takes}

process_fits : fits heads tails process ≡ true
process_fits = refl

game_sound : (signs : List Sign) (x : Found Role Tree) → read_process signs ≡ Ok x → IsGameText signs x.value x.uses
game_sound signs x e = whole_sound heads tails rule all_fit process process_fits refl levels signs x e

-- the limits, one after another
abbrev Limits : (limit live : ℕ) → Tree → Result Tree ParseError → Type 0
Limits limit live t (Ok u) = (t ≡ u) × (size t ≤ most_nodes) × (depth t ≤ most_depth) × (live + nodes_of t ≤ limit)
Limits limit live t (Err (Build (build.Nodes n))) = HasNodes n t
Limits limit live t (Err (Build (build.Depth n))) = HasDepth n t
Limits limit live t (Err (Build (build.Full n))) = Takes limit live n t
Limits limit live t (Err e) = ⊥

abbrev limited : (limit live : ℕ) → Tree → Result Tree ParseError
limited limit live t = sized_first limit live t (sized t)

abbrev limited_by : Tree → Bool → Bool → Bool → Result Tree ParseError
limited_by t a b c =
    if a then Err (Build (build.Nodes (capped (size t))))
    else if b then Err (Build (build.Depth (capped (depth t))))
    else if c then Err (Build (build.Full (nodes_of t)))
    else Ok t

one_by_one : (limit live : ℕ) (t : Tree) (a b c : Bool) → nat_lt most_nodes (size t) ≡ a → nat_lt most_depth (depth t) ≡ b → nat_lt limit (live + nodes_of t) ≡ c → limited limit live t ≡ limited_by t a b c
one_by_one limit live t true b c e f g = ap (λ x. sized_first limit live t (if x then Err (Build (build.Nodes (capped (size t)))) else if nat_lt most_depth (depth t) then Err (Build (build.Depth (capped (depth t)))) else Ok tt)) e
one_by_one limit live t false b c e f g =
    ap (λ x. sized_first limit live t (if x then Err (Build (build.Nodes (capped (size t)))) else if nat_lt most_depth (depth t) then Err (Build (build.Depth (capped (depth t)))) else Ok tt)) e
    ∙ (ap (λ x. sized_first limit live t (if x then Err (Build (build.Depth (capped (depth t)))) else Ok tt)) f ∙ roomy b)
  where
    roomy : (b : Bool) → sized_first limit live t (if b then Err (Build (build.Depth (capped (depth t)))) else Ok tt) ≡ limited_by t false b c
    roomy true = refl
    roomy false = ap (λ x. if x then Err (Build (build.Full (nodes_of t))) else Ok t) g

told : (limit live : ℕ) (t : Tree) (a b c : Bool) → nat_lt most_nodes (size t) ≡ a → nat_lt most_depth (depth t) ≡ b → nat_lt limit (live + nodes_of t) ≡ c → Limits limit live t (limited_by t a b c)
told limit live t true b c e f g = (grind (arith, nat_tests), refl)
told limit live t false true c e f g = (grind (arith, nat_tests), refl)
told limit live t false false true e f g = (grind (arith, nat_tests), refl)
told limit live t false false false e f g = (refl, grind (arith, nat_tests), grind (arith, nat_tests), grind (arith, nat_tests))

are_limited : (limit live : ℕ) (t : Tree) (r : Result Tree ParseError) → limited limit live t ≡ r → Limits limit live t r
are_limited limit live t r i =
    subst (Limits limit live t) (sym (one_by_one limit live t (nat_lt most_nodes (size t)) (nat_lt most_depth (depth t)) (nat_lt limit (live + nodes_of t)) refl refl refl) ∙ i)
    (told limit live t (nat_lt most_nodes (size t)) (nat_lt most_depth (depth t)) (nat_lt limit (live + nodes_of t)) refl refl refl)

-- What came of a game's tokens: the relation that each answer stands for.
abbrev Means : (limit live : ℕ) → List Decl → List Sign → Result Tree ParseError → Type 0
Means limit live ds signs (Ok t) = SaysGame limit live ds signs t
Means limit live ds signs (Err (Syntax token)) = IsDeadGame signs token
Means limit live ds signs (Err (Nesting token)) = IsNestedGame signs token
Means limit live ds signs (Err (NameTwice token)) = IsMisnamedGame ds signs names.NameTwice token
Means limit live ds signs (Err (NameUnknown token)) = IsMisnamedGame ds signs names.NameUnknown token
Means limit live ds signs (Err (Build (build.Nodes n))) = IsLargeGame ds signs (HasNodes n)
Means limit live ds signs (Err (Build (build.Depth n))) = IsLargeGame ds signs (HasDepth n)
Means limit live ds signs (Err (Build (build.Full n))) = IsLargeGame ds signs (Takes limit live n)
Means limit live ds signs (Err (Build build.OutOfMemory)) = ⊥

module _ (limit live : ℕ) (ds : List Decl) (signs : List Sign) where
  of_limits : (t : Tree) → IsNamedGame ds signs t → (r : Result Tree ParseError) → Limits limit live t r → Means limit live ds signs r
  of_limits t g (Ok u) l = subst (SaysGame limit live ds signs) l.0 (record { game = g; small = l.1; shallow = l.2; room = l.3 })
  of_limits t g (Err (Syntax k)) l = absurd l
  of_limits t g (Err (Nesting k)) l = absurd l
  of_limits t g (Err (NameTwice k)) l = absurd l
  of_limits t g (Err (NameUnknown k)) l = absurd l
  of_limits t g (Err (Build (build.Nodes n))) l = record { game = t; is = g; large = l }
  of_limits t g (Err (Build (build.Depth n))) l = record { game = t; is = g; large = l }
  of_limits t g (Err (Build (build.Full n))) l = record { game = t; is = g; large = l }
  of_limits t g (Err (Build build.OutOfMemory)) l = absurd l

  of_names : (x : Found Role Tree) → IsGameText signs x.value x.uses → (o : Option NameFault) → name_fault (declared_before ds ++ x.uses) ≡ o → Means limit live ds signs (unless limit live (length signs) o x.value)
  of_names x d None e = of_limits x.value (record { uses = x.uses; spelled = d; named = no_fault (declared_before ds ++ x.uses) e }) (limited limit live x.value) (are_limited limit live x.value (limited limit live x.value) refl)
  of_names x d (Some (names.NameTwice left)) e = record { game = x.value; uses = x.uses; spelled = d; left = left; at = refl; misnamed = fault_is_first (declared_before ds ++ x.uses) (names.NameTwice left) e }
  of_names x d (Some (names.NameUnknown left)) e = record { game = x.value; uses = x.uses; spelled = d; left = left; at = refl; misnamed = fault_is_first (declared_before ds ++ x.uses) (names.NameUnknown left) e }

  of_read : (r : Read Role Tree) → read_process signs ≡ r → Means limit live ds signs (of_reading limit live (length signs) (declared_before ds) r)
  of_read (Ok x) e = of_names x (game_sound signs x e) (name_fault (declared_before ds ++ x.uses)) refl
  of_read (Err (fault.Syntax left)) e = record { left = left; at = refl; dead = λ n. whole_dead heads tails rule all_firm process process_fine levels n signs left e }
  of_read (Err (fault.Nesting left)) e = record { left = left; at = refl; deep = whole_nesting heads tails rule all_firm process process_fine levels signs left e }

  pub game_means : (r : Result Tree ParseError) → game_of limit live ds signs ≡ r → Means limit live ds signs r
  unfolding game_of
  game_means r e = subst (Means limit live ds signs) e (of_read (read_process signs) refl)

  not_more : (m n : ℕ) → n ≤ m → nat_lt m n ≡ false
  not_more m n h = grind (arith, nat_tests)

  pub says_is_read : (t : Tree) → SaysGame limit live ds signs t → game_of limit live ds signs ≡ Ok t
  unfolding game_of
  says_is_read t w =
      ap (of_reading limit live (length signs) (declared_before ds)) (whole_complete heads tails rule all_fit process process_fits refl levels signs t w.game.uses w.game.spelled)
      ∙ (ap (λ o. unless limit live (length signs) o t) (named_has_none (declared_before ds ++ w.game.uses) w.game.named)
      ∙ one_by_one limit live t false false false (not_more most_nodes (size t) w.small) (not_more most_depth (depth t) w.shallow) (not_more limit (live + nodes_of t) w.room))
