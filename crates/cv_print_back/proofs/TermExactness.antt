-- What is computed of a term's tokens, and what they say.
use Rattle.std.proofs.Common.{◌≡◌, ℕ, ◌+◌, ◌-◌, Bool, true, false, nat_lt, if◌then◌else◌, List, length, refl, ap, subst, sym, ◌∙◌, arith, Result, Ok, Err}
use Rattle.std.proofs.lemmas.Bool.Decides.{nat_tests}
use Rattle.cv_syntax.specs.declared.work.BuildError.TheVariants as build
use Rattle.cv_syntax_trees.specs.Tree.{Tree}
use Rattle.cv_parse_notation.specs.declared.sign.Sign.{Sign}
use Rattle.cv_parse_notation.specs.Reads.{Found, Read, Syntax as NoSyntax, Nesting as TooDeep, ◌>>=◌}
use Rattle.cv_parse_notation.specs.Fits as grammar
use Rattle.cv_parse_notation.specs.Spells.{IsSort, next_is}
use Rattle.cv_parse_notation.specs.Whole.{SpellsWith}
use Rattle.cv_parse_notation.proofs.Complete.{outside_next}
use Rattle.cv_parse_notation.proofs.Sorts.{read_is_spelled, spelled_is_read}
use Rattle.cv_parse_grammar.specs.declared.role.Role.{Role}
use Rattle.cv_parse_grammar.specs.Files.{levels}
use Rattle.cv_parse_grammar.specs.Names.{Uses}
use Rattle.cv_parse_grammar.specs.Phrases as sort
use Rattle.cv_parse_grammar.specs.Rules.{heads, rule, tails}
use Rattle.cv_parse_grammar.specs.Terms.{term}
use Rattle.cv_parse_grammar.proofs.Fitting.{all_fit}
use Rattle.cv_parse_grammar.specs.depth.Before.{reads_before}
use Rattle.cv_parse_grammar.proofs.depth.Fitting.{all_firm, term_fine}
use Rattle.cv_parse_grammar.proofs.depth.Laws.{before_dead, before_nesting}
use Rattle.cv_parse.specs.declared.error.ParseError.{ParseError}
use Rattle.cv_parse.specs.declared.error.ParseError.TheVariants.{Build, Nesting, NameTwice, NameUnknown, Syntax}
use Rattle.cv_parse.specs.Games.{nodes_of}
use Rattle.cv_print_back.specs.GameSays.{IsDeadTerm, IsLargeTerm, IsNestedTerm, IsTermText, SaysTerm}
use Rattle.cv_parse.specs.Terms.{goes_on, of_term, roomed_term, stops, term_of}
use Rattle.cv_print_back.proofs.Back.{not_tails, stops_there, whole_read, whole_term}
use Rattle.cv_parse.proofs.Reached.{term_room}

-- What came of a term's tokens: the relation that each answer stands for.
abbrev Means : (limit live from : ℕ) → List Sign → Result (Tree × ℕ) ParseError → Type 0
Means limit live from signs (Ok x) = SaysTerm limit live from signs x.0 x.1
Means limit live from signs (Err (Build (build.Full n))) = IsLargeTerm limit live signs n
Means limit live from signs (Err (Build build.OutOfMemory)) = ⊥
Means limit live from signs (Err (Build (build.Nodes n))) = ⊥
Means limit live from signs (Err (Build (build.Depth n))) = ⊥
Means limit live from signs (Err (Syntax token)) = IsDeadTerm from signs token
Means limit live from signs (Err (Nesting token)) = IsNestedTerm from signs token
Means limit live from signs (Err (NameTwice token)) = ⊥
Means limit live from signs (Err (NameUnknown token)) = ⊥

as_spelled : (signs : List Sign) (t : Tree) (uses : Uses) (rest : List Sign) → IsSort heads rule 200 sort.Term signs t uses rest → SpellsWith heads rule term levels signs t uses rest
unfolding IsSort
as_spelled signs t uses rest d = d

as_sort : (signs : List Sign) (t : Tree) (uses : Uses) (rest : List Sign) → SpellsWith heads rule term levels signs t uses rest → IsSort heads rule 200 sort.Term signs t uses rest
unfolding IsSort
as_sort signs t uses rest d = d

-- what goes on with a term of the grammar never stands behind one
goes_on_past : (ts : List Sign) → next_is goes_on ts ≡ false → next_is (grammar.goes_on heads tails term) ts ≡ false
goes_on_past = outside_next (grammar.goes_on heads tails term) goes_on refl

module _ (limit live from : ℕ) (signs : List Sign) where
  dead_term : (left : ℕ) → reads_before goes_on heads rule term levels signs ≡ Err (NoSyntax left) → IsDeadTerm from signs (from + length signs - left)
  dead_term left e = record { left = left; at = refl; dead = λ n. before_dead heads tails rule all_firm term term_fine goes_on goes_on_past levels n signs left e }

  roomed : (t : Tree) (rest : List Sign) → IsTermText signs t rest → (b : Bool) → nat_lt limit (live + nodes_of t) ≡ b → Means limit live from signs (roomed_term limit live t (from + length signs - length rest))
  roomed t rest i true e = subst (λ b. Means limit live from signs (if b then Err (Build (build.Full (nodes_of t))) else Ok (t, from + length signs - length rest))) (sym e) (record { term = t; rest = rest; is = i; large = (grind (arith, nat_tests), refl) })
  roomed t rest i false e = subst (λ b. Means limit live from signs (if b then Err (Build (build.Full (nodes_of t))) else Ok (t, from + length signs - length rest))) (sym e) (record { rest = rest; text = i; at = refl; room = grind (arith, nat_tests) })

  stopped : (x : Found Role Tree) → whole_term signs ≡ Ok x → (b : Bool) → next_is goes_on x.rest ≡ b → Means limit live from signs (of_term limit live (from + length signs) (stops x))
  stopped x e true g = subst (λ b. Means limit live from signs (of_term limit live (from + length signs) (if b then Err (NoSyntax (length x.rest)) else Ok x))) (sym g) (dead_term (length x.rest) (ap (λ r. r >>= stops) e ∙ ap (λ b. if b then Err (NoSyntax (length x.rest)) else Ok x) g))
  stopped x e false g =
      subst (λ b. Means limit live from signs (of_term limit live (from + length signs) (if b then Err (NoSyntax (length x.rest)) else Ok x))) (sym g)
      (roomed x.value x.rest (record { uses = x.uses; spelled = as_spelled signs x.value x.uses x.rest (read_is_spelled heads tails rule all_fit 200 sort.Term signs x (whole_read signs ∙ e)); ends = g }) (nat_lt limit (live + nodes_of x.value)) refl)

  of_read : (r : Read Role Tree) → whole_term signs ≡ r → Means limit live from signs (of_term limit live (from + length signs) (r >>= stops))
  of_read (Ok x) e = stopped x e (next_is goes_on x.rest) refl
  of_read (Err (NoSyntax left)) e = dead_term left (ap (λ r. r >>= stops) e)
  of_read (Err (TooDeep left)) e = record { left = left; at = refl; deep = before_nesting heads tails rule all_firm term term_fine goes_on levels signs left (ap (λ r. r >>= stops) e) }

  pub term_means : (r : Result (Tree × ℕ) ParseError) → term_of limit live from signs ≡ r → Means limit live from signs r
  unfolding term_of
  term_means r e = subst (Means limit live from signs) e (of_read (whole_term signs) refl)

  pub term_is_read : (t : Tree) (next : ℕ) → SaysTerm limit live from signs t next → term_of limit live from signs ≡ Ok (t, next)
  unfolding term_of
  term_is_read t next w =
      ap (λ x. of_term limit live (from + length signs) (x >>= stops)) (sym (whole_read signs) ∙ spelled_is_read heads tails rule all_fit 200 sort.Term signs t w.text.uses w.rest (as_sort signs t w.text.uses w.rest w.text.spelled) (not_tails w.rest w.text.ends))
      ∙ (ap (of_term limit live (from + length signs)) (stops_there t w.text.uses w.rest w.text.ends)
      ∙ (ap (roomed_term limit live t) (sym w.at) ∙ term_room limit live t next w.room))
