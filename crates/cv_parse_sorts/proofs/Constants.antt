-- The constants of a file are names of its tokens.
use Rattle.std.proofs.Common.{◌≡◌, ℕ, ◌<◌, ◌==◌, true, false, nat_lt, List, [], ◌∷◌, length, Option, inl, inr, ◌⊎◌, refl, subst, eqb-true}
use Rattle.std.proofs.lemmas.Bool.{both_ways, lt-ltb}
use Rattle.std.specs.List.{AllByRecursion}
use Rattle.cv_lex.specs.Lexis.{Token}
use Rattle.cv_syntax_trees.specs.declared.class.Class.TheVariants as class
use Rattle.cv_syntax_trees.specs.Declarations.{Declaration, Named, Equation, Equiv, Query}
use Rattle.cv_syntax_trees.specs.Tree.{Tree, Empty, Node}
use Rattle.cv_meaning.specs.Interpretation.{is_constant_of}
use Rattle.cv_parse_notation.specs.declared.sign.Sign.{Sign}
use Rattle.cv_parse_grammar.specs.declared.role.Role.{Role}
use Rattle.cv_parse_grammar.specs.Files.{levels}
use Rattle.cv_parse_grammar.specs.Phrases.{Sort}
use Rattle.cv_parse_grammar.specs.Rules.{File, file, heads, rule}
use Rattle.cv_parse_grammar.specs.Whole.{IsRead}
use Rattle.cv_parse_tables.specs.terminals.Signs.{signs_of}
use Rattle.cv_parse.specs.Parsed.{Parsed, bool_type}
use Rattle.cv_parse.specs.Says.{Says}
use Rattle.cv_parse_grammar.proofs.yields.Yielding.{forms_tell}
use Rattle.cv_parse_laws.proofs.roles.DeclaredKinds.{OfKind, of_declarations}
use Rattle.cv_match_laws.specs.answers.Answers.{KnowsConstants}
use Rattle.cv_steps.specs.Sequences.{scene}
use Rattle.cv_parse_sorts.proofs.SmallNames.{AreBelow, signs_below, some_name}
use Rattle.cv_parse_sorts.proofs.UsedNames.{forms_keep}
use Rattle.cv_syntax_trees.proofs.lists.Tests.{or_cases}

module _ (bound : ℕ) (some : 0 < bound) where
  abbrev Below : Role → ℕ → Type 0
  Below r x = x < bound

  -- of what was read
  read_below : (ts : List Sign) (ds : List Declaration) (s : Option (ℕ × ℕ)) (g : Tree) → IsRead ts ds s g → AreBelow bound ts → AllByRecursion (OfKind Below) ds
  read_below ts ds s g r w =
      let f : File = record { decls = ds; script = s; game = r.text } in
      let used = forms_keep bound some heads rule file levels ts f r.uses [] r.spelled w in
      (of_declarations Below).gives f (forms_tell Below (λ (s : Sort) (t : Tree). Unit {0}) heads rule (λ s t y. tt) file levels ts f r.uses [] r.spelled used.0)

  pub constant_below : (ds : List Declaration) → AllByRecursion (OfKind Below) ds → (x : ℕ) → is_constant_of ds x ≡ true → x < bound
  constant_below [] k x e = absurd (both_ways false refl e)
  constant_below (Named y (class.Fun data_like) Empty r ∷ ds) k x e = go (or_cases (y == x) (is_constant_of ds x) e) (constant_below ds k.1 x)
    where
      go : ((y == x) ≡ true) ⊎ (is_constant_of ds x ≡ true) → (is_constant_of ds x ≡ true → x < bound) → x < bound
      go (inl i) f = subst (λ z. z < bound) (eqb-true y x i) k.0.0
      go (inr i) f = f i
  constant_below (Named y (class.Fun data_like) (Node h a b) r ∷ ds) k x e = constant_below ds k.1 x e
  constant_below (Named y c a r ∷ ds) k x e = constant_below ds k.1 x e
  constant_below (Equation t ∷ ds) k x e = constant_below ds k.1 x e
  constant_below (Equiv y t ∷ ds) k x e = constant_below ds k.1 x e
  constant_below (Query t ∷ ds) k x e = constant_below ds k.1 x e

-- `bool` is no constant
declared_constant : (ds decls : List Declaration) → ds ≡ bool_type ∷ decls → (x : ℕ) → is_constant_of ds x ≡ true → is_constant_of decls x ≡ true
declared_constant ds decls d x e = subst (λ l. is_constant_of l x ≡ true) d e

pub constants_known : (limit : ℕ) (tokens : List Token) (said : Parsed) → Says limit (signs_of tokens).signs said → KnowsConstants (scene said.declarations (λ x. nat_lt x (length (signs_of tokens).names)) said.game)
constants_known limit tokens said s = λ x e.
    let n = length (signs_of tokens).names in
    lt-ltb x n (constant_below n (some_name tokens) s.decls (read_below n (some_name tokens) (signs_of tokens).signs s.decls s.script said.game s.read (signs_below tokens)) x (declared_constant said.declarations s.decls s.declared x e))
