-- Terms and cells of a sight, by what the code tests.
use Rattle.std.proofs.Common.{◌≡◌, Bool, true, false, ◌&&◌, List, sym, ap, ◌∙◌}
use Rattle.cv_pool.specs.KindTree.{KindTree}
use Rattle.cv_syntax.specs.declared.decls.Decl.{Decl}
use Rattle.cv_syntax.specs.Declarations.{declarations}
use Rattle.cv_syntax_trees.specs.Tree.{Tree}
use Rattle.cv_syntax_trees.specs.declared.sites.sort.Sort.{Sort}
use Rattle.cv_typing.specs.declared.arrays.Arrays.{Arrays}
use Rattle.cv_typing.specs.Lookups.{signature_in}
use Rattle.cv_scope_rules.specs.typing.Signature.{sort_of}
use Rattle.cv_typing.specs.Tables.{Map, above_of}
use Rattle.cv_scope_rules.specs.typing.Wants.{AnyTerm}
use Rattle.cv_scope_rules.specs.Phrases.{Phrase, OneCell, Term, is_phrase}
use Rattle.cv_scene.specs.Sights.{Sight, is_cell_under, is_term_of}
use Rattle.cv_scene.specs.Terms.{above_under, is_sort, is_term_under, names_under}
use Rattle.cv_scene.specs.Terms as terms
use Rattle.cv_derive_lines.specs.terms.Typed.{IsSightOf, is_known_cell, is_typed_tree, names_of}
use Rattle.cv_derive_lines.proofs.terms.Known.{names_same}
use Rattle.cv_derive_lines.proofs.terms.Phrased.{both, cell_same, term_same}

module _ (trees : List KindTree) (ds : List Decl) (variables : Arrays) (indices : Map Sort) (s : Sight) (i : IsSightOf trees ds variables indices s) (t : Tree) where
  abbrev typed : Bool
  typed = is_typed_tree (names_of (declarations trees ds) variables indices) (signature_in trees ds variables) (above_of indices) AnyTerm t

  abbrev typed_there : Bool
  typed_there = is_typed_tree (names_under s.scene s.replications) (terms.signature_in s.scene) (above_under s.replications) AnyTerm t

  same_signature : signature_in trees ds variables ≡ terms.signature_in s.scene
  same_signature = λ j. record { declarations = sym i.declared j; arrays = i.sites j }

  moved : typed ≡ typed_there
  moved = λ j. is_typed_tree (names_same trees ds variables indices s i j) (same_signature j) (i.bound j) AnyTerm t

  abbrev tested : Phrase → Bool
  tested σ = both (names_under s.scene s.replications) (terms.signature_in s.scene) (above_under s.replications) σ AnyTerm 0 t

  -- terms

  pub no_term : (p : Bool) → p ≡ is_phrase Term t → p ≡ false → false ≡ is_term_under s.scene s.replications t
  no_term p e f = ap (λ c. c && tested Term) (sym f ∙ e)

  pub term_at : (p b : Bool) → p ≡ is_phrase Term t → p ≡ true → b ≡ typed → b ≡ is_term_under s.scene s.replications t
  term_at p b e f g = g ∙ (moved ∙ (sym (term_same (names_under s.scene s.replications) (terms.signature_in s.scene) (above_under s.replications) AnyTerm t (sym e ∙ f)) ∙ ap (λ c. c && tested Term) (sym f ∙ e)))

  -- cells

  abbrev known_cell : Bool
  known_cell = is_known_cell (names_of (declarations trees ds) variables indices).variable t

  cell_parts : is_phrase OneCell t ≡ true → (known_cell && typed) ≡ is_cell_under s.scene s.replications t
  cell_parts e =
      (λ j. is_known_cell (names_same trees ds variables indices s i j).variable t && moved j)
      ∙ (sym (cell_same (names_under s.scene s.replications) (terms.signature_in s.scene) (above_under s.replications) AnyTerm t e) ∙ ap (λ c. c && tested OneCell) (sym e))

  pub no_cell : (p : Bool) → p ≡ is_phrase OneCell t → p ≡ false → false ≡ is_cell_under s.scene s.replications t
  no_cell p e f = ap (λ c. c && tested OneCell) (sym f ∙ e)

  pub unknown_cell : (p k : Bool) → p ≡ is_phrase OneCell t → p ≡ true → k ≡ known_cell → k ≡ false → false ≡ is_cell_under s.scene s.replications t
  unknown_cell p k e f g h = ap (λ c. c && typed) (sym h ∙ g) ∙ cell_parts (sym e ∙ f)

  pub cell_at : (p k b : Bool) → p ≡ is_phrase OneCell t → p ≡ true → k ≡ known_cell → k ≡ true → b ≡ typed → b ≡ is_cell_under s.scene s.replications t
  cell_at p k b e f g h j = j ∙ (ap (λ c. c && typed) (sym h ∙ g) ∙ cell_parts (sym e ∙ f))

  -- sorts

  pub no_term_of : (S : Sort) (b : Bool) → b ≡ is_term_under s.scene s.replications t → b ≡ false → false ≡ is_term_of s S t
  no_term_of S b e f = ap (λ c. c && is_sort (sort_of (terms.signature_in s.scene) (above_under s.replications) t) S) (sym f ∙ e)

  pub term_of : (S : Sort) (b d : Bool) → b ≡ is_term_under s.scene s.replications t → b ≡ true → d ≡ is_sort (sort_of (signature_in trees ds variables) (above_of indices) t) S → d ≡ is_term_of s S t
  term_of S b d e f g = g ∙ ((λ j. is_sort (sort_of (same_signature j) (i.bound j) t) S) ∙ ap (λ c. c && is_sort (sort_of (terms.signature_in s.scene) (above_under s.replications) t) S) (sym f ∙ e))
