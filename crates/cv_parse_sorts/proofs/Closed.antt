-- Equations of a file that are typed say something of functions, of constants and of their own variables alone.
use Rattle.std.proofs.Common.{◌≡◌, ℕ, true, List, [], ◌∷◌, flat_map, Option, Ok, ap, sym, subst, ◌∙◌}
use Rattle.std.specs.List.{AllByRecursion}
use Rattle.cv_syntax_trees.specs.declared.head.Head.TheVariants.{Forall}
use Rattle.cv_syntax_trees.specs.Declarations.{Declaration, Named, Equation, Equiv, Query}
use Rattle.cv_syntax_trees.specs.Tree.{Tree, Node, bound_names}
use Rattle.cv_parse_notation.specs.declared.sign.Sign.{Sign}
use Rattle.cv_parse_grammar.specs.Whole.{IsRead}
use Rattle.cv_parse.specs.Parsed.{Parsed, parsed}
use Rattle.cv_parse.proofs.Exactness.{said_is_saying}
use Rattle.cv_scope_rules.specs.typing.Parts.{AreTyped, IsTypedFile, declaration_parts, game_part, local_names}
use Rattle.cv_scope_rules.specs.typing.Signature.{boolean}
use Rattle.cv_scope_rules.specs.typing.Wants.{Of}
use Rattle.cv_derive_laws.specs.stores.Truth.{HasClosedEquations, IfEquation, is_name_of}
use Rattle.cv_parse_sorts.proofs.Equations.{IfNamed, read_equations}
use Rattle.cv_parse_sorts.proofs.Typed.{D, IsUsed, named_locally, term_closed, typed_split, used_functions}

module _ (ts : List Sign) (ds : List Declaration) (s : Option (ℕ × ℕ)) (g : Tree) (r : IsRead ts ds s g) where
  abbrev E : List Declaration
  E = D ts ds s g r

  closed : (es : List Declaration) → AllByRecursion (IfNamed ts ds s g r) es → AreTyped E (flat_map (declaration_parts E) es) → AllByRecursion (IfEquation E) es
  unfolding AreTyped
  closed [] w k = tt
  closed (Named x c a q ∷ es) w k = (tt, closed es w.1 k)
  closed (Equation (Node Forall l t) ∷ es) w k =
      let b = w.0.0 in (
        term_closed E (λ x. is_name_of (bound_names l) x ≡ true) (IsUsed ts ds s g r) (local_names l) (λ x S i. subst (λ z. is_name_of (bound_names z) x ≡ true) (sym b.1) (named_locally b.0 x S (sym (ap (λ z. local_names z x) b.1) ∙ i))) (used_functions ts ds s g r) t (Of boolean) k.0 w.0.1,
        closed es w.1 k.1,
      )
  closed (Equation t ∷ es) w k = absurd w.0
  closed (Equiv x t ∷ es) w k = (tt, closed es w.1 (typed_split E (declaration_parts E (Equiv x t)) (flat_map (declaration_parts E) es) k).1)
  closed (Query t ∷ es) w k = (tt, closed es w.1 k.1)

  pub read_closed : IsTypedFile E g → HasClosedEquations E
  read_closed k = (tt, closed ds (read_equations ts ds s g r) (typed_split E (flat_map (declaration_parts E) E) (game_part g ∷ []) k).0)

pub equations_closed : (limit : ℕ) (signs : List Sign) (p : Parsed) → parsed limit signs ≡ Ok p → IsTypedFile p.declarations p.game → HasClosedEquations p.declarations
equations_closed limit signs p e k =
    let w = said_is_saying limit signs p e in
    subst HasClosedEquations (sym w.declared) (read_closed signs w.decls w.script p.game w.read (subst (λ ds. IsTypedFile ds p.game) w.declared k))
