-- The text of the contexts of steps, where the parameters are declared in an order. This profile's own.
use Rattle.std.specs.Prelude.{ℕ, List, [], ◌∷◌, ◌++◌, codes, Option, Some, None}
use Rattle.std.specs.Fmt.{decimal}
use Rattle.cv_print.specs.Terms.{name_text}
use Rattle.cv_bound.specs.Texts.{joined_by, product_text}
use Rattle.cv_context.specs.products.Shapes.{Shape}
use Rattle.cv_costs.specs.Factors.{factors_of}

abbrev pub parameters_text : List (List ℕ) → (order : List ℕ) → List ℕ → List ℕ
parameters_text names order ns = product_text names (factors_of order ns)

-- how often a function is called: a product for each of its sites
abbrev pub sites_text : List (List ℕ) → (order : List ℕ) → List (List ℕ) → List ℕ
sites_text names order [] = codes "0"
sites_text names order ps = joined_by (codes " + ") (parameters_text names order) ps

abbrev pub calls_text : List (List ℕ) → (order : List ℕ) → ℕ × List (List ℕ) → List ℕ
calls_text names order c = name_text names c.0 ++ codes " " ++ sites_text names order c.1

-- the line of the context of the k-th step, where it has one
abbrev pub context_text : List (List ℕ) → (order : List ℕ) → (k : ℕ) → Option Shape → List ℕ
context_text names order k None = []
context_text names order k (Some c) =
    codes "context C" ++ decimal k ++ codes ": key " ++ name_text names c.key ++ codes ", keys " ++ parameters_text names order c.keys
    ++ codes ", calls " ++ joined_by (codes ", ") (calls_text names order) c.calls ++ codes "\n"
