-- Tests in their order, and what they may read.
use Rattle.std.proofs.Common.{◌≡◌, ℕ, Bool, true, false, not, ◌&&◌, List, Option, Ok, Err, Result, refl, sym, ap, ap₂, ◌∙◌}
use Rattle.std.specs.Prelude.{◌||◌, IfOk, is_some}
use Rattle.std.proofs.Math.Path.{fun_ext}
use Rattle.cv_syntax_trees.specs.Declarations.{Declaration}
use Rattle.cv_syntax_trees.specs.Tree.{Tree}
use Rattle.cv_syntax_trees.specs.declared.sites.sort.Sort.{Sort}
use Rattle.cv_syntax_trees.specs.sites.Sites.{sites_of}
use Rattle.cv_typing.specs.declared.arrays.Arrays.{Arrays}
use Rattle.cv_scope_rules.specs.typing.Parts.{nothing_above}
use Rattle.cv_scope_rules.specs.typing.Signature.{OfGame, index_in, variable_in}
use Rattle.cv_scope_rules.specs.typing.Signature as signature
use Rattle.cv_typing.specs.Tables.{Map, above_of, arrays_of}
use Rattle.cv_scope_rules.specs.Context.{known_at}
use Rattle.cv_scope_rules.specs.Rules.{is_index}
use Rattle.cv_scene.specs.Terms.{Names, has_site, indices_above, is_function, names_anywhere, replications_by}
use Rattle.cv_scene_view.specs.Kept.{names_there, has_variable}
use Rattle.cv_scene_view.proofs.Above.{index_above}

-- an answer that is another value, where there is one

pub ok_same : {A E : Type 0} (r : Result A E) (v w : A) → v ≡ w → IfOk r (λ x. x ≡ v) → IfOk r (λ x. x ≡ w)
ok_same (Ok x) v w e h = h ∙ e
ok_same (Err x) v w e h = tt

pub some_same : {A E : Type 0} (r : Result (Option A) E) (v w : Bool) → v ≡ w → IfOk r (λ o. is_some o ≡ v) → IfOk r (λ o. is_some o ≡ w)
some_same (Ok o) v w e h = h ∙ e
some_same (Err x) v w e h = tt

-- tests, one behind the other

pub not_first : (p q a : Bool) → a ≡ p → a ≡ false → false ≡ (p && q)
not_first p q a e f = ap (λ b. b && q) (sym f ∙ e)

pub not_second : (p q r a b : Bool) → a ≡ p → a ≡ true → b ≡ q → b ≡ false → false ≡ (p && (q && r))
not_second p q r a b e f g h = ap (λ c. c && r) (sym h ∙ g) ∙ ap (λ c. c && (q && r)) (sym f ∙ e)

pub then_second : (p q a : Bool) → a ≡ p → a ≡ true → q ≡ (p && q)
then_second p q a e f = ap (λ c. c && q) (sym f ∙ e)

pub then_third : (p q r a b : Bool) → a ≡ p → a ≡ true → b ≡ q → b ≡ true → r ≡ (p && (q && r))
then_third p q r a b e f g h = ap (λ c. c && r) (sym h ∙ g) ∙ ap (λ c. c && (q && r)) (sym f ∙ e)

pub not_middle : (p q r a : Bool) → a ≡ q → a ≡ false → false ≡ (p && (q && r))
not_middle true q r a e f = ap (λ b. b && r) (sym f ∙ e)
not_middle false q r a e f = refl

pub then_around : (p q r a : Bool) → a ≡ q → a ≡ true → (p && r) ≡ (p && (q && r))
then_around p q r a e f = ap (λ b. p && (b && r)) (sym f ∙ e)

-- what a term and a whole game may read

module _ (ds : List Declaration) (arrays : Arrays) (above : Map Sort) (game : Tree) (e : arrays_of arrays ≡ OfGame (sites_of game)) where
  sites : has_variable arrays ≡ has_site game
  sites = ap (λ (A : signature.Arrays). λ (x : ℕ). is_some (variable_in A x)) e

  abbrev known : (variable index : ℕ → Bool) → Names
  known v i = record { function = is_function ds; variable = v; index = i }

  pub there_at : (p : ℕ) → above_of above ≡ indices_above nothing_above (replications_by (known_at game p))
      → names_there ds above arrays false ≡ record { function = is_function ds; variable = has_site game; index = is_index (replications_by (known_at game p)) }
  there_at p g = ap₂ known sites (fun_ext (λ x. or_nothing (is_some (above_of above x)) ∙ (ap (λ f. is_some (f x)) g ∙ index_above nothing_above (replications_by (known_at game p)) x)))
    where
      or_nothing : (b : Bool) → (b || false) ≡ b
      or_nothing true = refl
      or_nothing false = refl

  pub there_in : above_of above ≡ nothing_above → names_there ds above arrays true ≡ names_anywhere ds game
  there_in g = ap₂ known sites (ap₂ (λ f (A : signature.Arrays). λ (x : ℕ). is_some (f x) || is_some (index_in A x)) g e)

pub not_last : (p q a b : Bool) → a ≡ p → a ≡ true → b ≡ q → b ≡ false → false ≡ (p && q)
not_last p q a b e f g h = (sym h ∙ g) ∙ ap (λ c. c && q) (sym f ∙ e)

pub both_hold : (p q a b : Bool) → a ≡ p → a ≡ true → b ≡ q → b ≡ true → true ≡ (p && q)
both_hold p q a b e f g h = (sym h ∙ g) ∙ ap (λ c. c && q) (sym f ∙ e)

pub either_first : (p q r a : Bool) → a ≡ p → a ≡ true → true ≡ (p || (q || r))
either_first p q r a e f = ap (λ b. b || (q || r)) (sym f ∙ e)

pub either_second : (p q r a b : Bool) → a ≡ p → a ≡ false → b ≡ q → b ≡ true → true ≡ (p || (q || r))
either_second p q r a b e f g h = ap (λ c. c || r) (sym h ∙ g) ∙ ap (λ c. c || (q || r)) (sym f ∙ e)

pub either_third : (p q r a b d : Bool) → a ≡ p → a ≡ false → b ≡ q → b ≡ false → d ≡ r → d ≡ (p || (q || r))
either_third p q r a b d e f g h i = i ∙ (ap (λ c. c || r) (sym h ∙ g) ∙ ap (λ c. c || (q || r)) (sym f ∙ e))
