-- What a side chooses has values, where its types are declared.
use Rattle.std.proofs.Common.{ℕ, zero, suc, ◌<◌, ◌≤◌, List, [], ◌∷◌, map, Option, Some, None, arith}
use Rattle.std.specs.Prelude.{option_and_then, slice_get}
use Rattle.std.specs.List.{AllByRecursion}
use Rattle.cv_syntax_trees.specs.declared.head.Head.TheVariants.{Find, New}
use Rattle.cv_syntax_trees.specs.Declarations.{Declaration}
use Rattle.cv_syntax_trees.specs.Tree.{Tree, Empty, Node, first_place, second_place}
use Rattle.cv_meaning.specs.Tapes.{Cell}
use Rattle.cv_meaning.specs.Side.{CallNumber}
use Rattle.cv_meaning.specs.Interpretation.{Interpretation, setting_of}
use Rattle.cv_meaning.specs.Satisfies.{Satisfies}
use Rattle.cv_meaning_laws.specs.adequacy.Typed.{IsDeclared, OfType}
use Rattle.cv_meaning_laws.proofs.adequacy.Sorted.{some_value}
use Rattle.cv_meaning_chances.specs.Tests.{HasValues}
use Rattle.cv_meaning_chances.proofs.Totals.{once_values}
use Rattle.cv_meaning.specs.contexts.Groups.{Function, Which, side_group}
use Rattle.cv_meaning.specs.contexts.Sites.{Site, site_numbered}
use Rattle.cv_meaning.specs.contexts.Finds.{Oracles, function_of_site}
use Rattle.cv_meaning.specs.contexts.Sides.{Context, body_cells, chosen_cell, function_cells, oracles_of, side_of}
use Rattle.cv_context_files.specs.tapes.Declared.{ChoosesFromDeclaredTypes, HasDeclaredTypes, AreOfDeclaredTypes}
use Rattle.cv_syntax_trees.proofs.lists.Each.{AllByRecursion_append}

module _ (ds : List Declaration) (i : Interpretation) (sat : Satisfies ds i) where
  abbrev HasValue : Cell × ℕ → Type 0
  HasValue c = 0 < c.1

  type_value : (T : ℕ) → IsDeclared ds (OfType T) → 0 < i.type_size T
  type_value T d =
      let v : 1 ≤ i.type_size T = some_value (record { declarations = ds; variables = λ x. None; oracles = λ l. None }) i sat (OfType T) d in
      omega arith

  choice_value : 0 < i.choices
  choice_value = let c = sat.choices in omega arith

  -- cells of calls

  coins_values : (n : CallNumber) (xs : List (ℕ × ℕ)) → AreOfDeclaredTypes ds xs → HasValues (map (chosen_cell i n) xs)
  coins_values n [] h = tt
  coins_values n (x ∷ xs) h = (type_value x.1 h.0, coins_values n xs h.1)

  body_values : (n : CallNumber) (p : ℕ) (t : Tree) → ChoosesFromDeclaredTypes ds t → HasValues (body_cells i n p t)
  unfolding body_cells ChoosesFromDeclaredTypes
  body_values n p Empty h = tt
  body_values n p (Node (New x T) a b) h =
      (type_value T h.0, AllByRecursion_append HasValue _ _ (body_values n (first_place p (New x T)) a h.1) (body_values n (second_place p (New x T) a) b h.2))
  body_values n p (Node (Find l) a b) h =
      (choice_value, AllByRecursion_append HasValue _ _ (body_values n (first_place p (Find l)) a h.0) (body_values n (second_place p (Find l) a) b h.1))
  body_values n p (Node k a b) h = AllByRecursion_append HasValue _ _ (body_values n (first_place p k) a h.0) (body_values n (second_place p k a) b h.1)

  functions_values : (n : CallNumber) (fs : List Function) → AllByRecursion (λ (f : Function). AreOfDeclaredTypes ds f.coins) fs → AllByRecursion (λ (f : Function). ChoosesFromDeclaredTypes ds f.body) fs → (k : ℕ)
      → HasValues (function_cells i n (slice_get fs k))
  functions_values n [] h d k = tt
  functions_values n (f ∷ fs) h d zero = once_values _ (AllByRecursion_append HasValue _ _ (coins_values n f.coins h.0) (body_values n 0 f.body d.0))
  functions_values n (f ∷ fs) h d (suc k) = functions_values n fs h.1 d.1 k

  -- sides

  pub key_value : (c : Context) (which : Which) → HasDeclaredTypes ds c.equivalence → 0 < (side_of ds i c which).key_size
  key_value c which h = type_value (side_group which c.equivalence).key.1 (h.key which)

  pub call_values : (c : Context) (which : Which) → HasDeclaredTypes ds c.equivalence → (n : CallNumber) → HasValues ((side_of ds i c which).cells n)
  call_values c which h n = go (site_numbered o.sites n.site)
    where
      o : Oracles
      o = oracles_of (setting_of ds i) c which

      go : (s : Option Site) → HasValues (function_cells i n (option_and_then (function_of_site o) s))
      go None = tt
      go (Some s) = functions_values n (side_group which c.equivalence).functions (h.coins which) (h.bodies which) s.function
