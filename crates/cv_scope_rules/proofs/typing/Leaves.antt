-- The sort of a bare name, step by step.
use Rattle.std.proofs.Common.{◌≡◌, ℕ, ap₂, sym, ◌∙◌, Option, None}
use Rattle.std.specs.Prelude.{option_map}
use Rattle.cv_syntax_trees.specs.declared.sites.sort.Sort.{Sort}
use Rattle.cv_syntax_trees.specs.declared.sites.sort.Sort.TheVariants.{OfType, BelowParameter}
use Rattle.cv_syntax_trees.specs.sites.Sites.{first_of}
use Rattle.cv_scope_rules.specs.typing.Signature.{Signature, Function, Above, defined_sort, function_in, index_in, leaf_sort}

-- a name that is neither bound above nor has a definition
pub leaf_declared : (e : Signature) (above : Above) (x : ℕ) (v f : Option Sort) (i : Option ℕ) → above x ≡ None → v ≡ defined_sort e.arrays x → v ≡ None → f ≡ option_map (λ (f : Function). OfType f.result) (function_in e.declarations x) → i ≡ index_in e.arrays x → leaf_sort e above x ≡ first_of f (option_map BelowParameter i)
leaf_declared e above x v f i a p n q r =
    ap₂ (λ (o p : Option Sort). first_of o (first_of p (first_of (option_map (λ (f : Function). OfType f.result) (function_in e.declarations x)) (option_map BelowParameter (index_in e.arrays x))))) a (sym p ∙ n)
    ∙ ap₂ (λ o j. first_of o (option_map BelowParameter j)) (sym q) (sym r)
