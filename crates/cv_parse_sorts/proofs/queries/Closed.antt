-- Queries of a file that are typed say something of functions, of constants and of their own variables alone.
use Rattle.std.proofs.Common.{◌≡◌, ℕ, true, List, [], ◌∷◌, flat_map, ◌⊎◌, inl, inr, Option, Ok, refl, sym, subst}
use Rattle.std.specs.List.{AllByRecursion}
use Rattle.cv_syntax_trees.specs.declared.head.Head.TheVariants.{Cons, Occurs, OccursOnce, Query as Correspondence, SomeOf}
use Rattle.cv_syntax_trees.specs.Declarations.{Declaration, Named, Equation, Equiv, Query}
use Rattle.cv_syntax_trees.specs.Tree.{Tree, Empty, Node, binders, bound_names}
use Rattle.cv_parse_notation.specs.declared.sign.Sign.{Sign}
use Rattle.cv_parse_grammar.specs.Whole.{IsRead}
use Rattle.cv_parse.specs.Parsed.{Parsed, parsed}
use Rattle.cv_parse.proofs.Exactness.{said_is_saying}
use Rattle.cv_meaning.specs.Queries.{queries_in}
use Rattle.cv_scope_rules.specs.typing.Parts.{AreTyped, IsTypedFile, declaration_parts, game_part, local_names, query_part, IsTypedPart}
use Rattle.cv_scope_rules.specs.typing.Signature.{OfNothing, Signature}
use Rattle.cv_scope_rules.specs.typing.Typing.{IsTyped}
use Rattle.cv_scope_rules.specs.typing.Wants.{Atoms}
use Rattle.cv_syntax.specs.faults.Walk.{IsObeyed}
use Rattle.cv_derive_laws.specs.stores.Truth.{is_name_of}
use Rattle.cv_query.specs.kinds.Closed.{AreClosedAtoms, HasClosedQueries, IsClosedAtom, IsClosedQuery, IsKnown}
use Rattle.cv_parse_sorts.proofs.Typed.{D, IsUsed, named_locally, term_closed, terms_closed, typed_split, used_functions}
use Rattle.cv_parse_sorts.proofs.queries.Names.{IfNamed, IsNamedQuery, read_queries}
use Rattle.cv_parse_sorts.proofs.Terms.{AreAtomsOver, IsAtomOver}

module _ (ts : List Sign) (ds : List Declaration) (s : Option (ℕ × ℕ)) (g : Tree) (r : IsRead ts ds s g) where
  abbrev E : List Declaration
  E = D ts ds s g r

  module _ (vs : List (ℕ × ℕ)) where
    abbrev e : Signature
    e = record { declarations = E; arrays = OfNothing }

    abbrev Own : ℕ → Type 0
    Own x = is_name_of (bound_names (binders vs)) x ≡ true

    abbrev L : ℕ → Type 0
    L x = Own x ⊎ IsUsed ts ds s g r x

    atom_closed : (m : Tree) → IsTyped e (local_names (binders vs)) Atoms m → IsAtomOver L m → IsClosedAtom (IsKnown E (bound_names (binders vs))) m
    unfolding IsObeyed
    atom_closed Empty k o = absurd o
    atom_closed (Node (Occurs f) ms b) k o = terms_closed E Own (IsUsed ts ds s g r) (local_names (binders vs)) (named_locally vs) (used_functions ts ds s g r) ms _ k.1 o
    atom_closed (Node (OccursOnce f) ms b) k o = terms_closed E Own (IsUsed ts ds s g r) (local_names (binders vs)) (named_locally vs) (used_functions ts ds s g r) ms _ k.1 o
    atom_closed (Node h a b) k o = term_closed E Own (IsUsed ts ds s g r) (local_names (binders vs)) (named_locally vs) (used_functions ts ds s g r) (Node h a b) Atoms k o

    right_closed : (right : Tree) → IsTyped e (local_names (binders vs)) Atoms right → AreAtomsOver L right → AreClosedAtoms (IsKnown E (bound_names (binders vs))) right
    unfolding IsObeyed
    right_closed Empty k o = tt
    right_closed (Node Cons a b) k o = (right_closed a k.1 o.0, right_closed b k.2 o.1)
    right_closed (Node SomeOf a b) k o = (right_closed a k.1 o.0, right_closed b k.2 o.1)
    right_closed (Node h a b) k o = atom_closed (Node h a b) k o

  query_closed : (t : Tree) → IsTypedPart E (query_part t) → IsNamedQuery ts ds s g r t → IsClosedQuery E t
  unfolding IsObeyed
  query_closed t k (inl w) =
      subst (IsClosedQuery E) (sym w.is) (let z = subst (λ t. IsTypedPart E (query_part t)) w.is k in right_closed w.variables w.right z.2.2 w.over)
  query_closed Empty k (inr n) = tt
  query_closed (Node Correspondence bs sides) k (inr n) = absurd (n bs sides refl)
  query_closed (Node h a b) k (inr n) = tt

  closed : (es : List Declaration) → AllByRecursion (IfNamed ts ds s g r) es → AreTyped E (flat_map (declaration_parts E) es) → AllByRecursion (IsClosedQuery E) (queries_in es)
  unfolding AreTyped queries_in
  closed [] w k = tt
  closed (Named x c a q ∷ es) w k = closed es w.1 k
  closed (Equation t ∷ es) w k = closed es w.1 k.1
  closed (Equiv x t ∷ es) w k = closed es w.1 (typed_split E (declaration_parts E (Equiv x t)) (flat_map (declaration_parts E) es) k).1
  closed (Query t ∷ es) w k = (query_closed t k.0 w.0, closed es w.1 k.1)

  read_closed : IsTypedFile E g → HasClosedQueries E
  unfolding queries_in
  read_closed k = closed ds (read_queries ts ds s g r) (typed_split E (flat_map (declaration_parts E) E) (game_part g ∷ []) k).0

pub queries_closed : (limit : ℕ) (signs : List Sign) (p : Parsed) → parsed limit signs ≡ Ok p → IsTypedFile p.declarations p.game → HasClosedQueries p.declarations
queries_closed limit signs p e k =
    let w = said_is_saying limit signs p e in
    subst HasClosedQueries (sym w.declared) (read_closed signs w.decls w.script p.game w.read (subst (λ ds. IsTypedFile ds p.game) w.declared k))
