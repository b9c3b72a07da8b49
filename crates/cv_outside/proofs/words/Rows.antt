-- What `clap` gives for an argument and for a subcommand, by their rows.
use Rattle.std.proofs.Common.{◌≡◌, Option, Some, None, option_map, refl}
use Rattle.clap.proofs.WalkLemmas.{first_value-rows}

-- a name and what stands behind it, joined
pub joined : {P X A B : Type 0} (a : P → A) (b : P → B) (f : X → A) (g : X → B) (r : Option P) (o : Option X) → option_map a r ≡ option_map f o → option_map b r ≡ option_map (λ (p : A × B). p.1) (option_map {U = A × B} (λ x. (f x, g x)) o)
    → option_map {U = A × B} (λ p. (a p, b p)) r ≡ option_map {U = A × B} (λ x. (f x, g x)) o
joined a b f g None None h k = refl
joined a b f g None (Some x) h k = absurd (cc)
joined a b f g (Some p) None h k = absurd (cc)
joined a b f g (Some p) (Some x) h k =
    let e : a p ≡ f x = cc in
    let d : b p ≡ g x = cc in
    λ i. Some (e i, d i)

pub ruleset rows = (first_value-rows)
